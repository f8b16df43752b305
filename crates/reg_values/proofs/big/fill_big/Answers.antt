use Rattle.std.proofs.Common.{sym, ap, ◌∙◌, ◌≡◌, ◌≤◌, ◌*◌, Some, IsSome, length, subst}
use Rattle.std.proofs.lemmas.Option.{same_Some}
use Rattle.reg_arena.specs.Arena.{heap_of}
use Rattle.reg_records.specs.RecordCells.{held}
use Rattle.reg_records.specs.BigData.{BigData, segments_for}
use Rattle.reg_values.specs.Internal.ValueListParts.{segments_at}
use Rattle.reg_values.proofs.ValueListing.FoundValues.{is-some, some-of}
use Rattle.reg_values.proofs.ValueData.DataPieces.{big-open}
use Rattle.reg_values.proofs.big.fill_big.Goals as goal

pub big_at-list-requires-clause-exists : goal.big_at-list-requires-clause-exists
big_at-list-requires-clause-exists c = let x = some-of _ c.requires.big in (big-open (heap_of c.args.arena.now) c.args.size c.args.cell x.0.0 x.0.1 x.1).here

pub big_at-list-requires-clause-big : goal.big_at-list-requires-clause-big
big_at-list-requires-clause-big c =
    let x = some-of _ c.requires.big in let b = big-open (heap_of c.args.arena.now) c.args.size c.args.cell x.0.0 x.0.1 x.1 in is-some _ b.big b.big_is

pub fill_segments-requires-clause-exists : goal.fill_segments-requires-clause-exists
fill_segments-requires-clause-exists c =
    let x = some-of _ c.requires.big in
    let b = big-open (heap_of c.args.arena.now) c.args.size c.args.cell x.0.0 x.0.1 x.1 in
    let l = ap (λ (b : BigData). b.list) (same_Some _ _ (sym b.big_is ∙ c.big_at-list.ensures)) in
    subst (λ l. IsSome (heap_of c.args.arena.now l)) l b.list_here

pub fill_segments-requires-clause-long : goal.fill_segments-requires-clause-long
fill_segments-requires-clause-long c =
    let x = some-of _ c.requires.big in
    let b = big-open (heap_of c.args.arena.now) c.args.size c.args.cell x.0.0 x.0.1 x.1 in
    let l = ap (λ (b : BigData). b.list) (same_Some _ _ (sym b.big_is ∙ c.big_at-list.ensures)) in
    subst (λ l. 4 * segments_for c.args.size ≤ length (held (heap_of c.args.arena.now) l)) l b.long

pub fill_segments-requires-clause-pieces : goal.fill_segments-requires-clause-pieces
fill_segments-requires-clause-pieces c =
    let h = heap_of c.args.arena.now in
    let x = some-of _ c.requires.big in
    let b = big-open (heap_of c.args.arena.now) c.args.size c.args.cell x.0.0 x.0.1 x.1 in
    let l = ap (λ (b : BigData). b.list) (same_Some _ _ (sym b.big_is ∙ c.big_at-list.ensures)) in
    is-some _ (x.0.0, b.cells) (subst (λ l. segments_at c.args.size (held h l) h ≡ Some (x.0.0, b.cells)) l b.pieces)

pub returns : goal.returns
returns c = λ all met e.
    let h = heap_of c.args.arena.now in
    let b = big-open h c.args.size c.args.cell all met e in
    let l = ap (λ (b : BigData). b.list) (same_Some _ _ (sym b.big_is ∙ c.big_at-list.ensures)) in
    c.fill_segments.ensures all b.cells (subst (λ l. segments_at c.args.size (held h l) h ≡ Some (all, b.cells)) l b.pieces)
