use Rattle.std.proofs.Common.{◌≡◌, ℕ, Bool, true, false, cond, List, [], Bor, refl}
use Rattle.reg_heap.specs.Kinds.{is_security}
use Rattle.reg_heap.specs.Kinds.Kind.{SubList, Leaf}
use Rattle.reg_records.specs.Letters.{is_signed}
use Rattle.reg_records.specs.SubkeyLists.{list_of}
use Rattle.reg_shape.specs.Walk.{kind_met}
use Rattle.reg_tree_image.specs.declared.LoadFault.TheVariants.{Record}
use Rattle.reg_tree_image.specs.WalkSteps.{given}
use Rattle.reg_tree_image.specs.Internal.ListParts.{list_in}
use Rattle.reg_tree_image.proofs.Readers.ReaderSteps.{exit-follows, cell-gives}
use Rattle.reg_tree_image.proofs.lists.list_from.Goals as goal

no-security : (held : List ℕ) → is_security (kind_met SubList held) ≡ false
no-security held = by (is_signed 114 105 held)
  where
    by : (b : Bool) → is_security (cond b SubList Leaf) ≡ false
    by true = refl
    by false = refl

pub returns-in_err-content-clause-follows : goal.returns-in_err-content-clause-follows
returns-in_err-content-clause-follows c path =
    exit-follows _ path (λ (x : Bor (List ℕ)). x.now) list_in _ (λ content. given Record (list_of content)) _ [] _ _ _ c.from_residual.ensures.1
    (c.in_err-content.ensures.follows path (kind_met SubList) no-security)

pub returns-clause-follows : goal.returns-clause-follows
returns-clause-follows c path =
    cell-gives _ path (λ (x : Bor (List ℕ)). x.now) list_in _ (λ content. given Record (list_of content)) _ _ c.in_ok-content.content _
    (c.in_ok-content.ensures.follows path (kind_met SubList) no-security) c.read_part.ensures.gives
