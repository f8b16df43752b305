use Rattle.std.proofs.Common.{◌+◌, List, ℕ, ◌++◌, length, flat_map, refl, ap, subst, ◌∙◌, arith, length-append}
use Rattle.reg_heap.specs.Edits.{values_at}
use Rattle.zugmeled.specs.Lists.{value_bytes}
use Rattle.zugmeled.specs.Internal.ValuesBehind.{IsPutAt}
use Rattle.zugmeled.proofs.KeyRows.{named}
use Rattle.zugmeled.proofs.WithValues.{put-behind}
use Rattle.zugmeled.proofs.with_values.tell_with_values.Goals as goal

pub returns : goal.returns
returns c = λ p at.
    let tree = c.args.tree.now.tree in
    let told = c.tell_all.ensures p at in
    let bytes = flat_map (value_bytes tree) (values_at tree p) in
    let name = c.name-name.result.now in
    let is = named _ name (c.name-name.ensures.key p at) (c.name-name.ensures.told p at) in
    let long = c.if-name-left.false in
    let both = put-behind c.args.told.used (c.args.told.used + length name) name bytes c.args.room.now c.fill_at.new.room c.tell_all.new.room
    (omega (arith, long, c.requires.told.1)) refl c.fill_at.ensures told.1 in (
      told.0,
      subst (λ (l : List ℕ). IsPutAt c.args.told.used (l ++ bytes) c.args.room.now c.tell_all.new.room) is both,
      told.2,
      omega (arith, told.3, length-append name bytes) ∙ ap (λ (l : List ℕ). c.args.told.used + length (l ++ bytes)) is,
      told.4,
      omega (arith, told.5, c.fill_at.auto.room),
    )
