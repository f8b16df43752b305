use Rattle.std.proofs.Common.{sym, ap, ◌∙◌, ◌≡◌, ◌≤◌, ◌*◌, ℕ, List, Some, IsSome, length, subst}
use Rattle.std.proofs.lemmas.Option.{same_Some}
use Rattle.reg_heap.specs.Kinds.{Found}
use Rattle.reg_arena.specs.Arena.{heap_of}
use Rattle.reg_records.specs.RecordCells.{held}
use Rattle.reg_records.specs.BigData.{BigData, segments_for}
use Rattle.reg_shape.specs.Nodes.{big_at}
use Rattle.reg_values.specs.Internal.ValueListParts.{segments_at}
use Rattle.reg_values.proofs.ValueListing.FoundValues.{is-some, some-of, is-ok}
use Rattle.reg_values.proofs.ValueData.DataPieces.{big-open}
use Rattle.reg_values.proofs.big.big_bytes.Goals as goal

pub big_at-list-requires-clause-exists : goal.big_at-list-requires-clause-exists
big_at-list-requires-clause-exists c = let x = some-of _ c.requires.big in (big-open (heap_of c.args.arena.now) c.args.size c.args.cell x.0.0 x.0.1 x.1).here

pub big_at-list-requires-clause-big : goal.big_at-list-requires-clause-big
big_at-list-requires-clause-big c =
    let x = some-of _ c.requires.big in let b = big-open (heap_of c.args.arena.now) c.args.size c.args.cell x.0.0 x.0.1 x.1 in is-some _ b.big b.big_is

pub joined-requires-clause-exists : goal.joined-requires-clause-exists
joined-requires-clause-exists c =
    let x = some-of _ c.requires.big in
    let b = big-open (heap_of c.args.arena.now) c.args.size c.args.cell x.0.0 x.0.1 x.1 in
    let l = ap (λ (b : BigData). b.list) (same_Some _ _ (sym b.big_is ∙ c.big_at-list.ensures)) in
    subst (λ l. IsSome (heap_of c.args.arena.now l)) l b.list_here

pub joined-requires-clause-long : goal.joined-requires-clause-long
joined-requires-clause-long c =
    let x = some-of _ c.requires.big in
    let b = big-open (heap_of c.args.arena.now) c.args.size c.args.cell x.0.0 x.0.1 x.1 in
    let l = ap (λ (b : BigData). b.list) (same_Some _ _ (sym b.big_is ∙ c.big_at-list.ensures)) in
    subst (λ l. 4 * segments_for c.args.size ≤ length (held (heap_of c.args.arena.now) l)) l b.long

pub joined-requires-clause-pieces : goal.joined-requires-clause-pieces
joined-requires-clause-pieces c =
    let h = heap_of c.args.arena.now in
    let x = some-of _ c.requires.big in
    let b = big-open (heap_of c.args.arena.now) c.args.size c.args.cell x.0.0 x.0.1 x.1 in
    let l = ap (λ (b : BigData). b.list) (same_Some _ _ (sym b.big_is ∙ c.big_at-list.ensures)) in
    is-some _ (x.0.0, b.cells) (subst (λ l. segments_at c.args.size (held h l) h ≡ Some (x.0.0, b.cells)) l b.pieces)

pub returns : goal.returns
returns c =
    let h = heap_of c.args.arena.now in
    is-ok (λ bytes. (all : List ℕ) → (met : List Found) → segments_at c.args.size (held h c.big_at-list.result.list) h ≡ Some (all, met) →
    bytes.items ≡ all) (λ bytes. (all : List ℕ) → (met : List Found) → big_at c.args.size c.args.cell h ≡ Some (all, met) →
    bytes.items ≡ all) c.joined.result
    (λ bytes f all met e.
    let b = big-open h c.args.size c.args.cell all met e in
    let l = ap (λ (b : BigData). b.list) (same_Some _ _ (sym b.big_is ∙ c.big_at-list.ensures)) in
    f all b.cells (subst (λ l. segments_at c.args.size (held h l) h ≡ Some (all, b.cells)) l b.pieces)) c.joined.ensures
