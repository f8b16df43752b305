use Rattle.std.proofs.Common.{ℕ, Vec, [], ◌∷◌, refl}
use Rattle.reg_arena.specs.Cells.{cell_at}
use Rattle.reg_tree_image.specs.declared.values.ReadValue.{ReadValue}
use Rattle.reg_tree_image.specs.KeysAtPaths.{names_in}
use Rattle.reg_tree_image.specs.Internal.NamedRecords.{members_in}
use Rattle.reg_tree_image.proofs.NamedCells.CellNaming.{entered-table}
use Rattle.reg_tree_image.proofs.Readers.KeysRead.{values-exit, names-exit, key-is-read}
use Rattle.reg_tree_image.proofs.path_listing.listed_below.Goals as goal

pub returns-in_err-values-clause-reads : goal.returns-in_err-values-clause-reads
returns-in_err-values-clause-reads c above seen t =
    values-exit (cell_at c.args.bins.now) c.args.minor c.args.key.now above _ seen
    (entered-table _ seen.found c.args.key.now.offset above _ _ t c.requires (c.enter.ensures.entered c.requires)) (λ (none : Unit {0}). [])
    (λ (none : Unit {0}). []) _ _ _ c.from_residual.ensures.1
    (c.in_err-values.ensures.follows (c.args.key.now.offset ∷ above))

pub returns-in_err-subkeys-clause-reads : goal.returns-in_err-subkeys-clause-reads
returns-in_err-subkeys-clause-reads c above seen t =
    names-exit (cell_at c.args.bins.now) c.args.minor c.args.key.now above _ seen
    (entered-table _ seen.found c.args.key.now.offset above _ _ t c.requires (c.enter.ensures.entered c.requires)) (λ (values : Vec ReadValue _). members_in values.items)
    (λ (none : Unit {0}). []) _ c.in_ok-values.values (c.in_ok-values.ensures.follows (c.args.key.now.offset ∷ above)) _ _ _
    c.from_residual-in_err-subkeys.ensures.1 (c.in_err-subkeys.ensures (c.args.key.now.offset ∷ above))

pub returns-clause-reads : goal.returns-clause-reads
returns-clause-reads c above seen t =
    key-is-read (cell_at c.args.bins.now) c.args.minor c.args.key.now above _ seen
    (entered-table _ seen.found c.args.key.now.offset above _ _ t c.requires (c.enter.ensures.entered c.requires)) (λ (values : Vec ReadValue _). members_in values.items)
    (λ (names : Vec (Vec ℕ _) _). names_in names.items) _ c.in_ok-values.values (c.in_ok-values.ensures.follows (c.args.key.now.offset ∷ above)) _ c.in_ok-subkeys.subkeys
    (c.in_ok-subkeys.ensures (c.args.key.now.offset ∷ above)) (record { values = c.in_ok-values.values; subkeys = c.in_ok-subkeys.subkeys }) refl
