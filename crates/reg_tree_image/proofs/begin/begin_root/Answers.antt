use Rattle.std.proofs.Common.{◌∷◌, [], suc, refl}
use Rattle.reg_names.specs.declared.TheConstants.{PATH_LIMIT}
use Rattle.reg_arena.specs.Cells.{cell_at}
use Rattle.reg_tree_image.specs.LoadingWalk.{root_path}
use Rattle.reg_tree_image.specs.Images.{nothing}
use Rattle.reg_tree_image.proofs.Readers.BegunSteps.{head-stops, head-done, head-fails, none-told, no-parts, no-list, is-begun}
use Rattle.reg_tree_image.proofs.Readers.BegunSteps.{root-exit, root-deep, no-room}
use Rattle.reg_tree_image.proofs.KeyStacks.ChildCounts.{none-parents}
use Rattle.reg_tree_image.proofs.KeyStacks.BuiltChains.{all-first}
use Rattle.reg_tree_image.specs.Internal.BegunKeys.{told_as}
use Rattle.reg_tree_image.proofs.begin.begin_root.Goals as goal

pub returns-in_err-named-clause-begins : goal.returns-in_err-named-clause-begins
returns-in_err-named-clause-begins c =
    root-exit _ _ _ _ _ c.from_residual.ensures.1
    (head-fails (cell_at c.args.bins.now) c.args.minor (suc PATH_LIMIT) [] root_path c.args.offset nothing _ _
    (head-stops (cell_at c.args.bins.now) (suc PATH_LIMIT) [] root_path c.args.offset nothing _ (c.in_err-named.ensures.follows [] nothing c.requires)))

pub returns-in_err-parts-clause-begins : goal.returns-in_err-parts-clause-begins
returns-in_err-parts-clause-begins c =
    let head = head-done (cell_at c.args.bins.now) [] root_path c.args.offset nothing c.in_ok-named.named _
    (c.in_ok-named.ensures.follows [] nothing c.requires) (none-told []) in
    root-exit _ _ _ _ _ c.from_residual-in_err-parts.ensures.1
    (no-parts c.args.building.ahead (cell_at c.args.bins.now) c.args.minor (suc PATH_LIMIT) PATH_LIMIT refl [] root_path c.args.offset nothing c.in_ok-named.named _ head _
    (c.in_err-parts.ensures.follows [] head.after head.table))

pub returns-in_err-tree-clause-begins : goal.returns-in_err-tree-clause-begins
returns-in_err-tree-clause-begins c =
    let head = head-done (cell_at c.args.bins.now) [] root_path c.args.offset nothing c.in_ok-named.named _
    (c.in_ok-named.ensures.follows [] nothing c.requires) (none-told []) in
    root-exit _ _ _ _ _ c.from_residual-in_err-tree.ensures.1
    (no-room c.args.building.ahead (cell_at c.args.bins.now) c.args.minor (suc PATH_LIMIT) PATH_LIMIT refl [] root_path c.args.offset nothing
    c.in_ok-named.named _ head c.in_ok-parts.parts _ (c.in_ok-parts.ensures.follows [] head.after head.table) c.args.table.now.states.items _ _
    (λ k. (refl, k)) c.in_err-tree.ensures.err)

pub returns-in_err-subkeys-clause-begins : goal.returns-in_err-subkeys-clause-begins
returns-in_err-subkeys-clause-begins c =
    let head = head-done (cell_at c.args.bins.now) [] root_path c.args.offset nothing c.in_ok-named.named _
    (c.in_ok-named.ensures.follows [] nothing c.requires) (none-told []) in
    root-exit _ _ _ _ _ c.from_residual-in_err-subkeys.ensures.1
    (no-list c.args.building.ahead (cell_at c.args.bins.now) c.args.minor (suc PATH_LIMIT) PATH_LIMIT refl [] root_path c.args.offset nothing
    c.in_ok-named.named _ head c.in_ok-parts.parts _
    (c.in_ok-parts.ensures.follows [] head.after head.table) c.subkeys_from.new.table.states.items _
    (c.in_err-subkeys.ensures.lists (c.args.offset ∷ [])))

pub returns-clause-begins : goal.returns-clause-begins
returns-clause-begins c =
    let head = head-done (cell_at c.args.bins.now) [] root_path c.args.offset nothing c.in_ok-named.named _
    (c.in_ok-named.ensures.follows [] nothing c.requires) (none-told []) in
    is-begun c.args.building.ahead (cell_at c.args.bins.now) c.args.minor (suc PATH_LIMIT) PATH_LIMIT refl [] root_path c.args.offset nothing
    c.in_ok-named.named _ head c.in_ok-parts.parts _
    (c.in_ok-parts.ensures.follows [] head.after head.table) _ c.in_ok-subkeys.subkeys _
    (c.in_ok-subkeys.ensures.lists (c.args.offset ∷ []))
    _ c.root.ensures.at (root-deep _ c.root.ensures.at.depth) (none-told []) c.in_ok-tree.ensures.ok
    (all-first _ [] (told_as c.in_ok-named.named c.in_ok-parts.parts) refl c.in_ok-tree.ensures.builds)
    none-parents
