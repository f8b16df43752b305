use Rattle.std.proofs.Common.{arith}
use Rattle.reg_heap.specs.Kinds.{owned}
use Rattle.reg_arena.specs.Arena.{heap_of}
use Rattle.reg_values.proofs.ValueListing.FoundValues.{is-some, member-open}
use Rattle.reg_values.proofs.ValueFreeing.FreedRuns.{gone-more, still-there, member-parts, member-data, member-owned}
use Rattle.reg_values.proofs.removing.free_value.Goals as goal

pub record_at-requires : goal.record_at-requires
record_at-requires c =
    let r = c.requires in let m = member-open (heap_of c.args.arena.now) c.args.cell r.result r.met r.reads in is-some _ m.value m.reads

pub free_data-requires : goal.free_data-requires
free_data-requires c =
    let r = c.requires in
    let h = heap_of c.args.arena.now in
    record {
      result = r.result.bytes;
      met = (member-parts h c.args.cell r.result r.met r.reads _ _ c.record_at.ensures).cells;
      reads = member-data h c.args.cell r.result r.met r.reads _ _ c.record_at.ensures;
      once = λ z. (let o = member-owned h c.args.cell r.result r.met r.reads _ _ c.record_at.ensures z in let w = r.once z in omega (arith, o, w));
    }

pub free-requires : goal.free-requires
free-requires c =
    let r = c.requires in
    let h = heap_of c.args.arena.now in
    let o = member-owned h c.args.cell r.result r.met r.reads _ _ c.record_at.ensures c.args.cell in
    let w = r.once c.args.cell in
    still-there h (heap_of c.free_data.new.arena) _ c.args.cell
    (c.free_data.ensures.gone r.result.bytes _ (member-data h c.args.cell r.result r.met r.reads _ _ c.record_at.ensures)) (omega (arith, o, w))

pub returns-clause-gone : goal.returns-clause-gone
returns-clause-gone c = λ m met e.
    let h = heap_of c.args.arena.now in
    gone-more h (heap_of c.free_data.new.arena) (heap_of c.free.new.self) c.args.cell _ (λ z. owned z met)
    (c.free_data.ensures.gone m.bytes _ (member-data h c.args.cell m met e _ _ c.record_at.ensures)) c.free.ensures.gone
    (λ z. member-owned h c.args.cell m met e _ _ c.record_at.ensures z)
