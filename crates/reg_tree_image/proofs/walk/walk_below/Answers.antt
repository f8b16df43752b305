use Rattle.std.proofs.Common.{List, [], ◌∷◌, ◌++◌, ap, reverse, suc, subst, sym, ◌≡◌, ◌∙◌}
use Rattle.reg_names.specs.declared.TheConstants.{PATH_LIMIT}
use Rattle.reg_arena.specs.Cells.{cell_at}
use Rattle.reg_tree_image.specs.declared.frames.KeyFrame.{KeyFrame}
use Rattle.reg_tree_image.specs.LoadingWalk.{key_from, root_path}
use Rattle.reg_tree_image.specs.Images.{nothing}
use Rattle.reg_tree_image.specs.Internal.Stacks.{IsWalking}
use Rattle.reg_tree_image.proofs.KeyStacks.StackEnds.{popped}
use Rattle.reg_tree_image.proofs.KeyStacks.WalkTurns.{walking-first}
use Rattle.reg_tree_image.proofs.Readers.SharedDescriptors.{none-first}
use Rattle.reg_tree_image.proofs.walk.walk_below.Goals as goal

pub loop-key-init : goal.loop-key-init
loop-key-init c =
    let bins = c.args.bins.now in
    let whole = key_from (cell_at bins) c.args.minor (suc PATH_LIMIT) [] root_path c.args.root.offset nothing in
    let items : reverse c.push.new.keys.items ≡ c.args.root ∷ [] =
    ap reverse (c.in_ok-push.ensures.ok ∙ ap (λ (ks : List KeyFrame). ks ++ c.args.root ∷ []) c.new-keys.ensures.items) in (
      none-first (cell_at bins) c.args.tree.now c.before.before.before.before.before.new-firsts.result c.new-firsts.ensures,
      subst (λ (ks : List KeyFrame). IsWalking c.args.building.ahead (cell_at bins) c.args.minor c.args.root.offset whole ks c.args.table.now.states.items c.args.tree.now) (sym items)
          (walking-first c.args.building.ahead (cell_at bins) c.args.minor c.args.root.offset _ _ c.args.root c.requires.begun),
    )

pub loop-key-preserved : goal.loop-key-preserved
loop-key-preserved c =
    let bins = c.args.bins.now in
    let whole = key_from (cell_at bins) c.args.minor (suc PATH_LIMIT) [] root_path c.args.root.offset nothing in (
      c.in_ok-step.ensures.firsts,
      c.in_ok-step.ensures.ok c.args.root.offset whole
          (popped (λ (ks : List KeyFrame). IsWalking c.args.building.ahead (cell_at bins) c.args.minor c.args.root.offset whole ks c.loop-key.table.states.items c.loop-key.tree)
          c.loop-key.keys.items c.pop.new.self.items c.in-Some.key c.in-Some.ensures.items c.loop-key.invariant.1),
    )

pub step-requires-clause-walks : goal.step-requires-clause-walks
step-requires-clause-walks c =
    let bins = c.args.bins.now in
    let whole = key_from (cell_at bins) c.args.minor (suc PATH_LIMIT) [] root_path c.args.root.offset nothing in (
      c.args.root.offset,
      whole,
      popped (λ (ks : List KeyFrame). IsWalking c.args.building.ahead (cell_at bins) c.args.minor c.args.root.offset whole ks c.loop-key.table.states.items c.loop-key.tree)
          c.loop-key.keys.items c.pop.new.self.items c.in-Some.key c.in-Some.ensures.items c.loop-key.invariant.1,
    )
