use Rattle.std.proofs.Common.{ℕ, ◌+◌, ◌*◌, ◌≤◌, ◌∷◌, [], length, sym, subst, arith}
use Rattle.reg_heap.specs.Heaps.{GivesUp, allocated}
use Rattle.reg_heap.specs.Kinds.{times}
use Rattle.reg_arena.specs.Arena.{heap_of}
use Rattle.reg_records.specs.RecordCells.{held}
use Rattle.reg_records.specs.OffsetRows.{offsets_at}
use Rattle.reg_records.specs.BigData.{segments_for}
use Rattle.reg_values.proofs.ValueListing.FoundValues.{is-some}
use Rattle.reg_values.proofs.ValueData.DataPieces.{big-open}
use Rattle.reg_values.proofs.ValueFreeing.FreedRuns.{big-list, big-long, big-owned, gone-more, gone-as, still-there}
use Rattle.reg_values.proofs.big.free_big.Goals as goal

pub big_at-list-requires-clause-exists : goal.big_at-list-requires-clause-exists
big_at-list-requires-clause-exists c = let b = c.requires.big in (big-open (heap_of c.args.arena.now) c.args.size c.args.cell b.result b.met b.reads).here

pub big_at-list-requires-clause-big : goal.big_at-list-requires-clause-big
big_at-list-requires-clause-big c =
    let b = c.requires.big in let o = big-open (heap_of c.args.arena.now) c.args.size c.args.cell b.result b.met b.reads in is-some _ o.big o.big_is

pub free_segments-requires-clause-exists : goal.free_segments-requires-clause-exists
free_segments-requires-clause-exists c =
    let b = c.requires.big in
    big-list (heap_of c.args.arena.now) c.args.size c.args.cell b.result b.met b.reads c.big_at-list.result.list c.big_at-list.result.count c.big_at-list.ensures

pub free_segments-requires-clause-long : goal.free_segments-requires-clause-long
free_segments-requires-clause-long c =
    let b = c.requires.big in
    let h = heap_of c.args.arena.now in
    let l = big-long h c.args.size c.args.cell b.result b.met b.reads c.big_at-list.result.list c.big_at-list.result.count c.big_at-list.ensures in
    subst (λ n. 4 * n ≤ length (held h c.big_at-list.result.list)) (sym c.segments_for.ensures) l

pub free_segments-requires-clause-once : goal.free_segments-requires-clause-once
free_segments-requires-clause-once c = λ z.
    let b = c.requires.big in
    let h = heap_of c.args.arena.now in
    let list = c.big_at-list.result.list in
    let o = big-owned h c.args.size c.args.cell b.result b.met b.reads list c.big_at-list.result.count c.big_at-list.ensures z in
    let w = b.once z in
    let both : times z (offsets_at (segments_for c.args.size) 0 (held h list)) + times z (list ∷ []) ≤ allocated h z = omega (arith, o, w) in
    subst (λ n. times z (offsets_at n 0 (held h list)) + times z (list ∷ []) ≤ allocated h z) (sym c.segments_for.ensures) both

pub free-requires : goal.free-requires
free-requires c =
    let b = c.requires.big in
    let h = heap_of c.args.arena.now in
    let list = c.big_at-list.result.list in
    let o = big-owned h c.args.size c.args.cell b.result b.met b.reads list c.big_at-list.result.count c.big_at-list.ensures list in
    let w = b.once list in
    let g = subst (λ n. GivesUp h (heap_of c.free_segments.new.arena) (offsets_at n 0 (held h list))) c.segments_for.ensures c.free_segments.ensures.gone in
    still-there h (heap_of c.free_segments.new.arena) (λ z. times z (offsets_at (segments_for c.args.size) 0 (held h list))) list g (omega (arith, o, w))

pub free-requires-2 : goal.free-requires-2
free-requires-2 c =
    let b = c.requires.big in
    let h = heap_of c.args.arena.now in
    let list = c.big_at-list.result.list in
    let cell = c.args.cell in
    let o = big-owned h c.args.size cell b.result b.met b.reads list c.big_at-list.result.count c.big_at-list.ensures cell in
    let w = b.once cell in
    let g = subst (λ n. GivesUp h (heap_of c.free_segments.new.arena) (offsets_at n 0 (held h list))) c.segments_for.ensures c.free_segments.ensures.gone in
    let f : ℕ → ℕ = λ z. times z (offsets_at (segments_for c.args.size) 0 (held h list)) in
    let f2 : ℕ → ℕ = λ z. times z (offsets_at (segments_for c.args.size) 0 (held h list)) + times z (list ∷ []) in
    let g2 = gone-more h (heap_of c.free_segments.new.arena) (heap_of c.free.new.self) list f f2 g c.free.ensures.gone (λ z. omega arith) in
    still-there h (heap_of c.free.new.self) f2 cell g2 (omega (arith, o, w))

pub returns-clause-gone : goal.returns-clause-gone
returns-clause-gone c = λ all met e.
    let h = heap_of c.args.arena.now in
    let list = c.big_at-list.result.list in
    let cell = c.args.cell in
    let g = subst (λ n. GivesUp h (heap_of c.free_segments.new.arena) (offsets_at n 0 (held h list))) c.segments_for.ensures c.free_segments.ensures.gone in
    let f : ℕ → ℕ = λ z. times z (offsets_at (segments_for c.args.size) 0 (held h list)) in
    let f2 : ℕ → ℕ = λ z. times z (offsets_at (segments_for c.args.size) 0 (held h list)) + times z (list ∷ []) in
    let f3 : ℕ → ℕ = λ z. times z (offsets_at (segments_for c.args.size) 0 (held h list)) + times z (list ∷ []) + times z (cell ∷ []) in
    let g2 = gone-more h (heap_of c.free_segments.new.arena) (heap_of c.free.new.self) list f f2 g c.free.ensures.gone (λ z. omega arith) in
    let g3 = gone-more h (heap_of c.free.new.self) (heap_of c.free-2.new.self) cell f2 f3 g2 c.free-2.ensures.gone (λ z. omega arith) in
    gone-as h (heap_of c.free-2.new.self) f3 _ g3 (λ z. big-owned h c.args.size cell all met e list c.big_at-list.result.count c.big_at-list.ensures z)
