-- A key of one hive file copied to another (this project's own).
use Rattle.std.specs.Prelude.{◌≡◌, ◌⊎◌, ℕ, Bool, true, false, List, ◌++◌, Option, codes}
use Rattle.reg_text.specs.Texts.{line_feed, escaped}
use Rattle.reg_words.specs.declared.request.EditRequest.{EditRequest}
use Rattle.reg_edits.specs.KeyCopies.{Copies}
use Rattle.reg_edits.specs.declared.copying.CopiedTree.{CopiedTree}
use Rattle.reg_files.specs.Looking.{IsCutShort}
use Rattle.reg_files.specs.Editing.{IsGiven, OfFile, Tells}

-- the line that tells a copy of the key at one path into the one at another
abbrev pub copy_line : (path into : List ℕ) → List ℕ
copy_line path into = codes "copy key =" ++ (escaped path ++ (codes " to =" ++ (escaped into ++ line_feed)))

-- a key of an image's tree was copied, with all below it, into the tree of some file, at the moment that is given
abbrev pub MakesCopy : EditRequest → (path into : List ℕ) → (unread left : Option (List ℕ)) → Type 0
MakesCopy edit path into unread left =
    OfFile (λ file file_left. (begin : ℕ) × (copied : CopiedTree) × IsGiven edit.begin begin
    × Copies path into begin copied unread left file file_left)

-- so, and of a dry run its line was written
abbrev pub CopiesInto : EditRequest → (path into : List ℕ) → (unread left before after : Option (List ℕ)) → Type 0
CopiesInto edit path into unread left before after =
    MakesCopy edit path into unread left × Tells edit.dry_run (copy_line path into) before after

-- why a copy didn't end well: it wasn't begun, or not made, or saving it was refused, and nothing was written; or it was made, and its line
-- wasn't written, or not to the end
abbrev pub StopsCopying : EditRequest → (path into : List ℕ) → (before after : Option (List ℕ)) → (cut : Bool) → (unread left : Option (List ℕ)) → Type 0
StopsCopying edit path into before after cut unread left =
    ((cut ≡ false) × (after ≡ before))
    ⊎ ((cut ≡ true) × IsCutShort (copy_line path into) before after × MakesCopy edit path into unread left)
