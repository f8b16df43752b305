use Rattle.std.proofs.Common.{sym, subst, arith}
use Rattle.reg_records.specs.OffsetRows.{offsets_at}
use Rattle.reg_values.proofs.ValueListing.ValueListOpening.{length-offsets}
use Rattle.reg_tree_image.specs.Internal.NamedRecords.{members_in}
use Rattle.reg_tree_image.specs.Internal.NamesMet.{AreKnown}
use Rattle.reg_tree_image.proofs.Readers.ValueRows.{next-offset, none-read, more-read, value-exit, value-exit-spot, all-read}
use Rattle.reg_tree_image.proofs.value_lists.values_each.Goals as goal

pub loop-index-init : goal.loop-index-init
loop-index-init c = none-read _ c.args.minor (offsets_at c.args.count 0 c.args.row.now) _ _ _ c.in-Ok.ensures.items c.new-met.ensures

pub value_from-requires : goal.value_from-requires
value_from-requires c =
    subst (λ vs. AreKnown (members_in vs) c.loop-index.met.folded.keys) (sym c.as_slice.ensures.value) c.loop-index.invariant.names

pub returns-in_err-value-clause-follows : goal.returns-in_err-value-clause-follows
returns-in_err-value-clause-follows c path =
    value-exit _ c.args.minor (offsets_at c.args.count 0 c.args.row.now) _ c.loop-index.index c.offset_at-offset.result
    (next-offset c.args.count c.args.row.now c.loop-index.index c.offset_at-offset.result c.loop-index-test.true c.offset_at-offset.ensures)
    c.loop-index.values.items c.loop-index.met.folded.keys _ c.loop-index.invariant _ _ c.as_slice.ensures.value _ _ c.from_residual.ensures.1
    c.in_err-value.ensures.follows path

pub returns-in_err-value-clause-spots : goal.returns-in_err-value-clause-spots
returns-in_err-value-clause-spots c path seen t =
    value-exit-spot _ c.args.minor (offsets_at c.args.count 0 c.args.row.now) _ c.loop-index.index c.offset_at-offset.result
    (next-offset c.args.count c.args.row.now c.loop-index.index c.offset_at-offset.result c.loop-index-test.true c.offset_at-offset.ensures)
    c.loop-index.values.items c.loop-index.met.folded.keys _ c.loop-index.invariant c.value_from.new.table.states.items _ c.as_slice.ensures.value _ _ c.from_residual.ensures.1
    c.value_from.new.failed c.in_err-value.ensures.follows c.in_err-value.ensures.spots path seen t

pub loop-index-preserved : goal.loop-index-preserved
loop-index-preserved c =
    let items = rw c.if-is_err.ensures.negation at c.push.ensures.items in
    more-read _ c.args.minor (offsets_at c.args.count 0 c.args.row.now) _ c.loop-index.index c.offset_at-offset.result
    (next-offset c.args.count c.args.row.now c.loop-index.index c.offset_at-offset.result c.loop-index-test.true c.offset_at-offset.ensures)
    c.loop-index.values.items c.loop-index.met.folded.keys _ c.loop-index.invariant _ _ c.as_slice.ensures.value c.in_ok-value.value c.push.new.self.items
    c.value_from.new.met.folded.keys items c.in_ok-value.ensures.follows c.in_ok-value.ensures.met c.value_from.ensures.no_more
    c.in_ok-value.ensures.small c.in_ok-value.ensures.other

pub returns-clause-follows : goal.returns-clause-follows
returns-clause-follows c =
    all-read _ c.args.minor (offsets_at c.args.count 0 c.args.row.now) _ c.loop-index.index c.loop-index.values c.loop-index.met.folded.keys
    c.loop-index.table.states.items (omega (arith, length-offsets c.args.count 0 c.args.row.now, c.loop-index-test.false))
    c.loop-index.invariant

pub returns-clause-new : goal.returns-clause-new
returns-clause-new c = c.loop-index.invariant.new

pub returns-clause-few : goal.returns-clause-few
returns-clause-few c = let m = c.loop-index.invariant.many in let e = c.loop-index.auto.index-end in omega (arith, m, e)
