use Rattle.std.proofs.Common.{ap, ◌∙◌, []}
use Rattle.std.specs.FinMap.{get}
use Rattle.std.specs.List.{list_any, list_all}
use Rattle.reg_heap.specs.Edits.{folded_path, values_of}
use Rattle.reg_heap.specs.Paths.{Rec}
use Rattle.std.specs.Prelude.{Option}
use Rattle.reg_dotreg_writer.specs.Changes.{is_told}
use Rattle.reg_dotreg_writer.specs.Internal.ChangePieces.{is_fine}
use Rattle.reg_dotreg_writer.proofs.ToldValues.{resolved-same, none-of}
use Rattle.reg_dotreg_writer.proofs.ToldChanges.{can-said}
use Rattle.reg_dotreg_writer.proofs.unwritable.can_write_change.Goals as goal

pub look_over-requires-clause-found : goal.look_over-requires-clause-found
look_over-requires-clause-found c = (folded_path c.args.path.now, c.resolve-found.ensures.found [] c.root.ensures.at)

pub returns : goal.returns
returns c =
    λ p at key here.
    (let q = folded_path c.args.path.now in
    let r = c.resolve-found.ensures.found [] c.root.ensures.at in
    let o = get c.args.other.now.tree q in
    can-said c.args.root.now c.args.path.now c.args.side key o _ _ _ _ (none-of _ _ _ c.is_none.ensures (resolved-same _ q _ r))
    (c.in_ok-seen.ensures.any p q at r ∙ ap (λ (x : Option Rec). list_any (is_told o c.args.side) (values_of x)) here)
    c.is_line_path.ensures
    (c.in_ok-seen.ensures.fine p q at r ∙ ap (λ (x : Option Rec). list_all (is_fine o c.args.side) (values_of x)) here))
