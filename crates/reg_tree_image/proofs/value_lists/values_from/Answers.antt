use Rattle.std.proofs.Common.{ℕ, Option, IfErr, List, Bor, refl, sym, subst, arith}
use Rattle.reg_heap.specs.Kinds.Kind.{ValueList}
use Rattle.reg_records.specs.OffsetRows.{offsets_at}
use Rattle.reg_tree_image.specs.FaultPlaces.{Spot}
use Rattle.reg_tree_image.specs.Internal.FaultSpots.{IsMetAt}
use Rattle.reg_tree_image.proofs.Readers.FaultSpots.{met-exit, list-too-long, list-unread, list-gives}
use Rattle.reg_tree_image.proofs.Readers.ValueRows.{list-exit, list-read}
use Rattle.reg_tree_image.proofs.value_lists.values_from.Goals as goal

pub returns-in_err-row-clause-follows : goal.returns-in_err-row-clause-follows
returns-in_err-row-clause-follows c path =
    list-exit _ c.args.minor path c.args.offset _ (λ (x : Bor (List ℕ)). offsets_at c.args.count 0 x.now) c.args.count c.if-count-eq0.false
    (omega arith) _ _ _ c.from_residual.ensures.1 (c.in_err-row.ensures.follows path ValueList refl)

pub returns-clause-follows : goal.returns-clause-follows
returns-clause-follows c path =
    list-read _ c.args.minor path c.args.offset _ (λ (x : Bor (List ℕ)). offsets_at c.args.count 0 x.now) c.args.count c.if-count-eq0.false
    (omega arith) _ _ c.in_ok-row.row _ (c.in_ok-row.ensures.follows path ValueList refl) (c.values_each.ensures.follows path)

-- ---- where a fault is met

pub returns-then-count-gt-VALUES_LIMIT-clause-spots : goal.returns-then-count-gt-VALUES_LIMIT-clause-spots
returns-then-count-gt-VALUES_LIMIT-clause-spots c path seen t =
    list-too-long _ c.args.minor path c.args.offset seen c.args.count c.if-count-gt-VALUES_LIMIT.true

pub returns-in_err-row-clause-spots : goal.returns-in_err-row-clause-spots
returns-in_err-row-clause-spots c path seen t =
    met-exit _ (record { offset = c.args.offset; path = path }) _ _ c.from_residual.ensures.1
    (list-unread _ c.args.minor path c.args.offset seen c.args.count c.if-count-eq0.false (omega arith) _
    (c.in_err-row.ensures.follows path ValueList refl seen t))

pub returns-clause-spots : goal.returns-clause-spots
returns-clause-spots c path seen t =
    let d = c.in_ok-row.ensures.follows path ValueList refl seen t in
    subst (λ (there : Option Spot). IfErr c.values_each.result (λ fault. IsMetAt fault (record { offset = c.values_each.new.failed; path = path }) there))
    (sym (list-gives _ c.args.minor path c.args.offset seen c.args.count c.if-count-eq0.false (omega arith) _ d.after d.gives))
    (c.values_each.ensures.spots path d.after d.table)
