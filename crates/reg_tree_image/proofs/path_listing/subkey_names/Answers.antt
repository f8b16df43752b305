use Rattle.std.proofs.Common.{ℕ, Vec, refl, ap}
use Rattle.reg_arena.specs.Cells.{cell_at}
use Rattle.reg_tree_image.specs.KeysAtPaths.{names_in}
use Rattle.reg_tree_image.proofs.Readers.NamesListed.{handed-exit, handed-on}
use Rattle.reg_tree_image.proofs.path_listing.subkey_names.Goals as goal

pub returns-in_err-append_subkeys : goal.returns-in_err-append_subkeys
returns-in_err-append_subkeys c path =
    handed-exit (cell_at c.args.bins.now) path (λ (names : Vec (Vec ℕ _) _). names_in names.items) (names_in c.new-names.result.items)
    (names_in c.append_subkeys.new.names.items) (ap names_in c.new-names.ensures.items) c.args.count c.args.offset _ _ _ _ c.from_residual.ensures.1
    (c.in_err-append_subkeys.ensures path)

pub returns : goal.returns
returns c path =
    handed-on (cell_at c.args.bins.now) path (λ (names : Vec (Vec ℕ _) _). names_in names.items) (names_in c.new-names.result.items)
    (names_in c.append_subkeys.new.names.items) (ap names_in c.new-names.ensures.items) c.args.count c.args.offset _ _ c.append_subkeys.new.names refl
    (c.in_ok-append_subkeys.ensures path)
