-- What a copy to a file left, put together.
use Rattle.std.proofs.Common.{◌≡◌, ℕ, Bool, true, false, List, Option, inl, inr, refl, subst}
use Rattle.std.specs.Prelude.{◌&&◌}
use Rattle.reg_words.specs.declared.request.EditRequest.{EditRequest}
use Rattle.reg_edits.specs.KeyCopies.{Copies}
use Rattle.reg_edits.specs.declared.copying.CopiedTree.{CopiedTree}
use Rattle.reg_files.specs.Looking.{IsCutShort}
use Rattle.reg_files.specs.Editing.{IsGiven, Tells}
use Rattle.reg_files.specs.Copying.{copy_line, MakesCopy, CopiesInto, StopsCopying}

-- what is so and always so
always : (b : Bool) → (b && true) ≡ b
always true = refl
always false = refl

-- it ended before its line, and nothing was written
pub copy_ended : (edit : EditRequest) (path into : List ℕ) (unread before : Option (List ℕ)) (cut : Bool) → cut ≡ false →
    (left : Option (List ℕ)) × StopsCopying edit path into before before cut unread left
copy_ended edit path into unread before cut none = (unread, inl (none, refl))

module _ (edit : EditRequest) (path into : List ℕ) (begin : ℕ) (made : CopiedTree) (unread left file file_left before after : Option (List ℕ))
    (given : IsGiven edit.begin begin) (copies : Copies path into begin made unread left file file_left) where
  -- it was made
  makes : MakesCopy edit path into unread left
  makes = (file, file_left, (begin, made, given, copies))

  -- and told if it was to be
  pub copied : (line : List ℕ) → line ≡ copy_line path into → Tells (edit.dry_run && true) line before after →
      CopiesInto edit path into unread left before after
  copied line same tells = (
    makes,
    subst (λ (l : List ℕ). Tells edit.dry_run l before after) same
        (subst (λ (b : Bool). Tells b line before after) (always edit.dry_run) tells),
  )

  -- or its line was cut short
  pub copy_cut_short : (line : List ℕ) (cut : Bool) → line ≡ copy_line path into → cut ≡ true → IsCutShort line before after →
      (gone : Option (List ℕ)) × StopsCopying edit path into before after cut unread gone
  copy_cut_short line cut same is h =
      (left, inr (is, subst (λ (l : List ℕ). IsCutShort l before after) same h, makes))
