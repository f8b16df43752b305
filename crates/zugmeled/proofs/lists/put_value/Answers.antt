use Rattle.std.proofs.Common.{◌≡◌, ◌+◌, List, ℕ, ◌++◌, take, drop, length, subst, ◌∙◌, arith}
use Rattle.zugmeled.proofs.ItemsTold.{two-pieces}
use Rattle.zugmeled.proofs.lists.put_value.Goals as goal

pub returns : goal.returns
returns c = λ p at.
    let room = c.args.room.now in
    let from = c.args.at in
    let filled = c.fill_value_at.ensures p at in
    let m = filled.0 in
    let told = c.requires.told p at m filled.1 in
    let both = two-pieces from c.args.value.name.now m.bytes room c.fill_at.new.room (omega (arith, c.requires.room)) c.fill_at.ensures in (
      m,
      filled.1,
      filled.2 ∙ subst (λ (name : List ℕ).
          take (from + length c.args.value.name.now) c.fill_at.new.room
          ++ (m.bytes ++ drop (length m.bytes) (drop (from + length c.args.value.name.now) c.fill_at.new.room))
          ≡ take from room ++ (name ++ m.bytes) ++ drop (from + length (name ++ m.bytes)) room) told.name_is both,
    )
