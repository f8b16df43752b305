use Rattle.std.proofs.Common.{arith, ◌≡◌, ◌+◌, ◌/◌, suc, Some, None, true, is_ok, length, replicate, ◌∙◌, sym, refl, subst}
use Rattle.reg_arena.specs.Cells.{cells_from}
use Rattle.reg_tree_image.specs.declared.table.CellState.TheVariants.{Unallocated}
use Rattle.reg_tree_image.proofs.NamedCells.BinScans.{places-of, no-places}
use Rattle.reg_tree_image.proofs.NamedCells.BinTables.{OnScan, emptied, scan-none, scan-more, scan-bad, scan-all, scan-place}
use Rattle.reg_tree_image.proofs.scan.scan.Goals as goal

pub returns-then-not-are_headers : goal.returns-then-not-are_headers
returns-then-not-are_headers c = no-places c.args.bins.now (sym c.if-not-are_headers.true ∙ c.are_headers.ensures)

pub loop-at-init : goal.loop-at-init
loop-at-init c =
    let p = places-of c.args.bins.now (sym c.are_headers.ensures ∙ c.if-not-are_headers.false) in
    let ok : is_ok c.resize.result ≡ true = rw c.if-is_err.false at c.is_err.ensures.negation in
    let empty = emptied _ _ _ _ _ ok c.new-states.ensures.items c.new-states.ensures.len c.resize.ensures.items in
    subst (λ states. OnScan c.args.bins.now 0 (replicate (length c.args.bins.now / 8) Unallocated) states) (sym empty)
    (scan-none c.args.bins.now p.0 (replicate (length c.args.bins.now / 8) Unallocated) p.1)

pub word_at-size-requires : goal.word_at-size-requires
word_at-size-requires c = let p = scan-place _ _ _ _ c.loop-at.invariant refl c.requires.pages c.loop-at-test.true in omega (arith, p.page, p.within)

pub mark_cells-requires-clause-eights : goal.mark_cells-requires-clause-eights
mark_cells-requires-clause-eights c =
    let p = scan-place _ _ _ _ c.loop-at.invariant refl c.requires.pages c.loop-at-test.true in
    (omega (arith, p.eight), omega (arith, p.eight, p.eights, c.word_at-size.ensures))

pub mark_cells-requires-clause-within : goal.mark_cells-requires-clause-within
mark_cells-requires-clause-within c =
    let p = scan-place _ _ _ _ c.loop-at.invariant refl c.requires.pages c.loop-at-test.true in
    (omega (arith, p.page, c.word_at-size.ensures), omega (arith, p.within, c.word_at-size.ensures))

pub mark_cells-requires-clause-room : goal.mark_cells-requires-clause-room
mark_cells-requires-clause-room c =
    let p = scan-place _ _ _ _ c.loop-at.invariant refl c.requires.pages c.loop-at-test.true in omega (arith, p.room)

pub returns-then-not-mark_cells : goal.returns-then-not-mark_cells
returns-then-not-mark_cells c =
    scan-bad c.args.bins.now c.loop-at.at _ _ c.loop-at.invariant c.loop-at-test.true
    (subst (λ n. cells_from (suc n) c.args.bins.now (c.loop-at.at + 32) (c.loop-at.at + n) ≡ None) c.word_at-size.ensures
    (c.mark_cells.ensures.bad c.if-not-mark_cells.true (suc c.word_at-size.result) (omega arith)))

pub loop-at-smaller : goal.loop-at-smaller
loop-at-smaller c =
    let p = scan-place _ _ _ _ c.loop-at.invariant refl c.requires.pages c.loop-at-test.true in omega (arith, p.page, p.within, c.word_at-size.ensures)

pub loop-at-preserved : goal.loop-at-preserved
loop-at-preserved c =
    let m = c.mark_cells.ensures.good c.if-not-mark_cells.false (suc c.word_at-size.result) (omega arith) in
    rw c.word_at-size.ensures (scan-more c.args.bins.now c.loop-at.at _ _ _ c.loop-at.invariant c.loop-at-test.true m.0
    (subst (λ n. cells_from (suc n) c.args.bins.now (c.loop-at.at + 32) (c.loop-at.at + n) ≡ Some m.0) c.word_at-size.ensures m.1) m.2 c.mark_cells.ensures.long)

pub returns : goal.returns
returns c = scan-all c.args.bins.now c.loop-at.at _ _ c.loop-at.invariant c.loop-at-test.false
