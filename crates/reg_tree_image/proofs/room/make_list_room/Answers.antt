use Rattle.std.proofs.Common.{inl, inr, refl}
use Rattle.reg_tree_image.proofs.KeyStacks.RoomierTrees.{ahead-is}
use Rattle.reg_tree_image.proofs.room.make_list_room.Goals as goal

pub returns-then-not-building : goal.returns-then-not-building
returns-then-not-building c = (c.args.tree.now, inl refl, inl refl)

pub returns-then-not-is_new_list : goal.returns-then-not-is_new_list
returns-then-not-is_new_list c = (c.args.tree.now, inl refl, inl refl)

pub returns-in-Ok : goal.returns-in-Ok
returns-in-Ok c = (
  c.make_room.new.tree,
  c.make_room.ensures,
  inr (
    ahead-is _ c.if-not-building.false,
    c.args.above,
    c.from-2.result,
    c.in-Ok.ensures.lengthens,
    record { sound = c.arena.ensures.sound; whole = c.arena.ensures.whole },
  ),
)

pub returns-in_default : goal.returns-in_default
returns-in_default c = (c.make_room.new.tree, c.make_room.ensures, inl c.in_default.ensures.err)
