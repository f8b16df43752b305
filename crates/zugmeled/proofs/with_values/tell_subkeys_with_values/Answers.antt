use Rattle.std.proofs.Common.{◌+◌, ◌<◌, ℕ, List, [], length, get_or, refl, sym, subst, ◌∙◌, arith, length-drop}
use Rattle.reg_heap.specs.Paths.{children_of}
use Rattle.reg_heap.specs.Edits.{values_at}
use Rattle.zugmeled.specs.Lists.{key_row, subkeys_from}
use Rattle.zugmeled.specs.WithValues.{AreToldWithValues, bytes_with_values}
use Rattle.zugmeled.specs.declared.lists.ZugValue.{ZugValue}
use Rattle.zugmeled.proofs.ItemsTold.{goes-on}
use Rattle.zugmeled.proofs.KeyRows.{at-index, in-turn, next-turn}
use Rattle.zugmeled.proofs.WithValues.{one-longer, values-more, not-more}
use Rattle.zugmeled.proofs.with_values.tell_subkeys_with_values.Goals as goal

pub returns-in_default-tell_with_values : goal.returns-in_default-tell_with_values
returns-in_default-tell_with_values c = λ p at.
    let tree = c.args.tree.now.tree in
    let keys = subkeys_from c.args.index tree p in
    let n = c.loop-count.count in
    let t = (c.loop-count.invariant).2 p at in
    let s = in-turn c.args.tree.now p c.args.node (c.args.index + n) _ c.in-Some.subkey c.in-Some.is t.1 in
    let child = get_or (children_of tree p) (c.args.index + n) [] in
    let none = c.in_default-tell_with_values.ensures child s.at in
    let lt : n < length keys = omega (arith, s.within, length-drop c.args.index (children_of tree p)) in
    subst (λ (values : List ZugValue). AreToldWithValues tree keys n c.args.subkeys.now c.loop-count.subkeys c.args.values.now values c.args.room.now c.tell_with_values.new.room)
    (sym none.0)
    (subst (λ (room : List ℕ). AreToldWithValues tree keys n c.args.subkeys.now c.loop-count.subkeys c.args.values.now c.loop-count.values c.args.room.now room)
    (sym none.1)
    (record {
      told = t.0;
      values_fit = omega (arith, t.3, c.loop-count.invariant.0, c.loop-count.auto.values);
      values_are = t.2;
      most = λ more placed. not-more tree keys n child c.loop-count.told c.args.values.now c.loop-count.values c.args.room.now c.loop-count.room lt
          (at-index c.args.index n tree p) t.3 t.4 c.loop-count.auto.values c.loop-count.auto.room none.2;
    }))

pub loop-count-preserved : goal.loop-count-preserved
loop-count-preserved c =
    let tree = c.args.tree.now.tree in
    let n = c.loop-count.count in
    let start = c.requires in
    let t₀ = (c.loop-count.invariant).2 start.0 start.1 in
    let s₀ = in-turn c.args.tree.now start.0 c.args.node (c.args.index + n) _ c.in-Some.subkey c.in-Some.is t₀.1 in
    let f₀ = c.in-Some-tell_with_values.ensures (get_or (children_of tree start.0) (c.args.index + n) []) s₀.at in (
      omega (arith, f₀.4, c.tell_with_values.auto.rows),
      omega (arith, f₀.5, c.tell_with_values.auto.room),
      λ p at.
          let keys = subkeys_from c.args.index tree p in
          let t = (c.loop-count.invariant).2 p at in
          let s = in-turn c.args.tree.now p c.args.node (c.args.index + n) _ c.in-Some.subkey c.in-Some.is t.1 in
          let child = get_or (children_of tree p) (c.args.index + n) [] in
          let f = c.in-Some-tell_with_values.ensures child s.at in
          let lt : n < length keys = omega (arith, s.within, length-drop c.args.index (children_of tree p)) in
          let is = at-index c.args.index n tree p in
          let on = goes-on (key_row tree) (bytes_with_values tree) keys n [] child c.args.subkeys.now c.loop-count.subkeys
          c.args.room.now c.loop-count.room c.tell_with_values.new.room c.loop-count.told.used c.subkey_row.result (bytes_with_values tree child)
          t.0 t.4 lt c.if-count-subkeys.true is (c.subkey_row.ensures child s.at) refl (omega (arith, f.3, f.5)) f.1 in (
            on.0,
            next-turn c.args.tree.now p c.args.node c.args.index n c.next_subkey-next.result (c.next_subkey-next.ensures p at (c.args.index + n) s),
            values-more tree keys n child c.loop-count.told.count c.args.values.now c.loop-count.values c.tell_with_values.new.rows lt is t.3 t.2 f.0,
            omega (arith, f.2, t.3, one-longer (values_at tree) keys n [] child lt is),
            f.3 ∙ on.1,
          ),
    )

pub returns-else-count-subkeys : goal.returns-else-count-subkeys
returns-else-count-subkeys c = λ p at.
    let t = (c.loop-count.invariant).2 p at in
    record { told = t.0; values_fit = omega (arith, t.3, c.loop-count.invariant.0, c.loop-count.auto.values); values_are = t.2; most = λ more placed. absurd (omega (arith, placed, c.if-count-subkeys.false, c.loop-count.auto.subkeys)) }

pub returns-after-loop-count : goal.returns-after-loop-count
returns-after-loop-count c = λ p at.
    let t = (c.loop-count.invariant).2 p at in
    record {
      told = t.0;
      values_fit = omega (arith, t.3, c.loop-count.invariant.0, c.loop-count.auto.values);
      values_are = t.2;
      most = λ more placed. absurd (omega (
        arith,
        more,
        c.loop-count-test.false,
        c.saturating_sub-left.ensures,
        c.subkeys.ensures p at,
        length-drop c.args.index (children_of c.args.tree.now.tree p),
      ));
    }
