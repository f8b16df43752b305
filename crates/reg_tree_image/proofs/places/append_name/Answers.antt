use Rattle.std.proofs.Common.{◌≡◌, ℕ, List, [], ◌++◌, Err, rules, sym, ap, ◌∙◌, subst}
use Rattle.std.proofs.lemmas.List.{append-nil}
use Rattle.reg_arena.specs.Cells.{cell_at}
use Rattle.reg_tree_image.specs.declared.table.CellState.TheVariants.{Unallocated}
use Rattle.reg_tree_image.specs.FaultPlaces.{name_there}
use Rattle.reg_tree_image.specs.Internal.NameReadings.{key_in}
use Rattle.reg_tree_image.specs.Internal.NamedRecords.{key_of}
use Rattle.reg_tree_image.specs.Internal.ReaderOutcomes.{Gives}
use Rattle.reg_tree_image.proofs.Devices.PlaceNames.{cell-there, name-unread}
use Rattle.reg_tree_image.proofs.places.append_name.Goals as goal

pub returns-else-is_want-clause-ok : goal.returns-else-is_want-clause-ok
returns-else-is_want-clause-ok c =
    let n : c.state.result ≡ Unallocated → ⊥ = search rules in
    let there = cell-there (cell_at c.args.bins.now) c.args.offset c.args.table.now.states.items c.requires (λ u. n (c.state.ensures ∙ u)) in
    let gives : Gives key_of (key_in there.0) (Err c.in-Err.fault) =
    subst (λ (held : List ℕ). Gives key_of (key_in held) (Err c.in-Err.fault)) (c.content.ensures there.0 there.1) c.in-Err.ensures.gives in
    let none : name_there (cell_at c.args.bins.now) c.args.offset ≡ [] =
    name-unread (cell_at c.args.bins.now) c.args.offset there.0 there.1 c.in-Err.fault (sym c.is_want.ensures ∙ c.if-is_want.false) gives in
    sym (ap (λ (name : List ℕ). c.args.text.now.items ++ name) none ∙ append-nil c.args.text.now.items)
