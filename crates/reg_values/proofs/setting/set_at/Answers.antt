use Rattle.std.proofs.Common.{ℕ, List, Err, ◌≡◌, ◌≤◌, ◌<◌, ap, sym, ◌∙◌, subst, length, arith}
use Rattle.std.proofs.lemmas.Result.{on_ok_weaker, err_from_is_err_and}
use Rattle.reg_arena.specs.declared.ArenaFault.TheVariants.{Full}
use Rattle.reg_heap.specs.Heaps.{allocated}
use Rattle.reg_heap.specs.Kinds.{Found, owned}
use Rattle.reg_arena.specs.Arena.{heap_of}
use Rattle.reg_arena.specs.NewCells.{total_of}
use Rattle.reg_arena.specs.Carves.{NoFit}
use Rattle.reg_arena.specs.EachCell.{GrowsFor}
use Rattle.reg_arena.specs.NewBin.{PassesLimit}
use Rattle.reg_records.specs.KeyValues.{value_record_at}
use Rattle.reg_shape.specs.Nodes.{member_at}
use Rattle.reg_shape.specs.Written.{IsWrittenValue, AreWritten}
use Rattle.reg_values.specs.ValueLists.{Became, Makes}
use Rattle.reg_values.specs.Internal.ValueListParts.{Owns, BecameValue}
use Rattle.reg_values.proofs.ValueListing.ValueListOpening.{members-length}
use Rattle.reg_values.proofs.ValueListing.FoundValues.{named-stands, offset-within, same-read, is-ok}
use Rattle.reg_values.proofs.ValueChanges.PlannedSizes.{sizes-there, sizes-none}
use Rattle.reg_values.proofs.ValueData.CellSizeTotals.{near, add-total, replace-total, value-name}
use Rattle.reg_values.proofs.ValueListing.NamedValues.{with-new}
use Rattle.reg_values.proofs.ValueChanges.ValueRemoved.{at-index}
use Rattle.reg_values.proofs.ValueChanges.ValueSetAgain.{value-owns, set-again}
use Rattle.reg_values.proofs.setting.set_at.Goals as goal

pub add-requires-clause-new : goal.add-requires-clause-new
add-requires-clause-new c = λ members met e. sym c.in_default.is ∙ c.requires.place members met e

pub returns-in_default-clause-ok : goal.returns-in_default-clause-ok
returns-in_default-clause-ok c =
    let h = heap_of c.args.arena.now in
    let n = c.args.list.count in
    let p = c.args.list.offset in
    let v = c.requires.values in
    is-ok _ _ c.add.result (λ after f members met e.
    subst (Became h (heap_of c.add.new.arena) met after.count after.offset)
    (sym (with-new c.args.name.now c.args.kind c.args.bytes.now members (sym (c.requires.place members met e) ∙ c.in_default.is)))
    (f members met e)) c.add.ensures.ok

pub returns-in_default-clause-cells : goal.returns-in_default-clause-cells
returns-in_default-clause-cells c =
    let h = heap_of c.args.arena.now in
    let n = c.args.list.count in
    let p = c.args.list.offset in
    let v = c.requires.values in
    let z = sizes-none h n p c.args.name.now (length c.args.bytes.now) v.members v.met v.reads (sym c.in_default.is ∙ c.requires.place v.members v.met v.reads) in
    on_ok_weaker c.add.result (λ f. subst (Makes h (heap_of c.add.new.arena)) z f) c.add.ensures.cells

pub returns-in_default-clause-full : goal.returns-in_default-clause-full
returns-in_default-clause-full c = λ q.
    let h = heap_of c.args.arena.now in
    let n = c.args.list.count in
    let p = c.args.list.offset in
    let v = c.requires.values in
    let z = sizes-none h n p c.args.name.now (length c.args.bytes.now) v.members v.met v.reads (sym c.in_default.is ∙ c.requires.place v.members v.met v.reads) in
    subst (λ sizes. NoFit c.args.arena.now.bytes (total_of sizes)) z (c.add.ensures.full q)

pub returns-in_default-clause-limit : goal.returns-in_default-clause-limit
returns-in_default-clause-limit c = λ q.
    let h = heap_of c.args.arena.now in
    let n = c.args.list.count in
    let p = c.args.list.offset in
    let v = c.requires.values in
    let z = sizes-none h n p c.args.name.now (length c.args.bytes.now) v.members v.met v.reads (sym c.in_default.is ∙ c.requires.place v.members v.met v.reads) in
    subst (λ sizes. PassesLimit c.args.arena.now.bytes (total_of sizes)) z (c.add.ensures.limit q)

pub returns-in_default-clause-near : goal.returns-in_default-clause-near
returns-in_default-clause-near c = λ q.
    let h = heap_of c.args.arena.now in
    let n = c.args.list.count in
    let p = c.args.list.offset in
    let f = c.requires.room c.in_default.is in
    near c.args.arena.now.bytes _ (add-total h n p (length c.args.name.now) (length c.args.bytes.now) (omega (arith, f))
    (value-name c.args.name.now c.requires.name) c.requires.bytes) (c.add.ensures.limit q)

pub cell_of-cell-requires-clause-list : goal.cell_of-cell-requires-clause-list
cell_of-cell-requires-clause-list c =
    let h = heap_of c.args.arena.now in
    let n = c.args.list.count in
    let p = c.args.list.offset in
    let v = c.requires.values in
    let s = named-stands h n p v c.args.name.now c.in-Some.index (sym c.in-Some.is ∙ c.requires.place v.members v.met v.reads) in
    s.list_here

pub cell_of-cell-requires-clause-index : goal.cell_of-cell-requires-clause-index
cell_of-cell-requires-clause-index c =
    let h = heap_of c.args.arena.now in
    let n = c.args.list.count in
    let p = c.args.list.offset in
    let v = c.requires.values in
    let s = named-stands h n p v c.args.name.now c.in-Some.index (sym c.in-Some.is ∙ c.requires.place v.members v.met v.reads) in
    s.long

pub replace-requires-clause-owns : goal.replace-requires-clause-owns
replace-requires-clause-owns c =
    let h = heap_of c.args.arena.now in
    let n = c.args.list.count in
    let p = c.args.list.offset in
    let v = c.requires.values in
    let named = sym (c.requires.place v.members v.met v.reads) ∙ c.in-Some.is in
    let l = members-length h n p v.members v.met v.reads in
    let w = offset-within c.args.name.now v.members c.in-Some.index named in
    let a = at-index h n p v.members v.met c.in-Some.index v.reads v.written (omega (arith, l, w)) in
    subst (λ o. Owns (member_at o) h) (a.cell_is ∙ sym c.cell_of-cell.ensures) (value-owns h n p v.members v.met c.in-Some.index v.once v.written a)

pub replace-requires-clause-written : goal.replace-requires-clause-written
replace-requires-clause-written c =
    let h = heap_of c.args.arena.now in
    let n = c.args.list.count in
    let p = c.args.list.offset in
    let v = c.requires.values in
    let named = sym (c.requires.place v.members v.met v.reads) ∙ c.in-Some.is in
    let l = members-length h n p v.members v.met v.reads in
    let w = offset-within c.args.name.now v.members c.in-Some.index named in
    let a = at-index h n p v.members v.met c.in-Some.index v.reads v.written (omega (arith, l, w)) in
    subst (IsWrittenValue h) (a.cell_is ∙ sym c.cell_of-cell.ensures) a.first.written

pub returns-in_err-replace-clause-full : goal.returns-in_err-replace-clause-full
returns-in_err-replace-clause-full c = λ q.
    let h = heap_of c.args.arena.now in
    let n = c.args.list.count in
    let p = c.args.list.offset in
    let v = c.requires.values in
    let z = sizes-there h n p c.args.name.now (length c.args.bytes.now) v.members v.met c.in-Some.index c.cell_of-cell.result v.reads
    (sym c.in-Some.is ∙ c.requires.place v.members v.met v.reads) c.cell_of-cell.ensures in
    let e = err_from_is_err_and c.from_residual.result c.from_residual.ensures.1 in
    let f : c.replace.result ≡ Err Full = cc (q, e.1, e.2, c.in_err-replace.was) in
    subst (λ sizes. NoFit c.args.arena.now.bytes (total_of sizes)) z (c.replace.ensures.full f)

pub returns-in_err-replace-clause-limit : goal.returns-in_err-replace-clause-limit
returns-in_err-replace-clause-limit c = λ q.
    let h = heap_of c.args.arena.now in
    let n = c.args.list.count in
    let p = c.args.list.offset in
    let v = c.requires.values in
    let z = sizes-there h n p c.args.name.now (length c.args.bytes.now) v.members v.met c.in-Some.index c.cell_of-cell.result v.reads
    (sym c.in-Some.is ∙ c.requires.place v.members v.met v.reads) c.cell_of-cell.ensures in
    let e = err_from_is_err_and c.from_residual.result c.from_residual.ensures.1 in
    let f : c.replace.result ≡ Err Full = cc (q, e.1, e.2, c.in_err-replace.was) in
    subst (λ sizes. PassesLimit c.args.arena.now.bytes (total_of sizes)) z (c.replace.ensures.limit f)

pub returns-clause-ok : goal.returns-clause-ok
returns-clause-ok c = λ members met e.
    let h = heap_of c.args.arena.now in
    let k = heap_of c.replace.new.arena in
    let n = c.args.list.count in
    let p = c.args.list.offset in
    let named = sym (c.requires.place members met e) ∙ c.in-Some.is in
    let l = members-length h n p members met e in
    let w = offset-within c.args.name.now members c.in-Some.index named in
    let same = same-read h n p c.requires.values members met e in
    let written = subst (AreWritten h n p) same.0 c.requires.values.written in
    let once = subst (λ (zs : List Found). (z : ℕ) → owned z zs ≤ allocated h z) same.1 c.requires.values.once in
    let a = at-index h n p members met c.in-Some.index e written (omega (arith, l, w)) in
    let o = c.cell_of-cell.ensures ∙ sym a.cell_is in
    let b = c.in_ok-replace.ensures.value a.first.head a.first.head_met (ap (λ o. member_at o h) o ∙ a.first.reads) in
    let b2 = subst (λ o. BecameValue h k (λ z. owned z a.first.head_met) o (record { name = a.first.head.name; kind = c.args.kind; bytes = c.args.bytes.now })) o b in
    set-again h n p members met c.in-Some.index once written a k c.args.kind c.args.bytes.now b2 c.args.name.now named c.requires.bytes

pub returns-clause-cells : goal.returns-clause-cells
returns-clause-cells c =
    let h = heap_of c.args.arena.now in
    let n = c.args.list.count in
    let p = c.args.list.offset in
    let v = c.requires.values in
    let z = sizes-there h n p c.args.name.now (length c.args.bytes.now) v.members v.met c.in-Some.index c.cell_of-cell.result v.reads
    (sym c.in-Some.is ∙ c.requires.place v.members v.met v.reads) c.cell_of-cell.ensures in
    subst (Makes h (heap_of c.replace.new.arena)) z c.in_ok-replace.ensures.cells

pub returns-in_err-replace-clause-near : goal.returns-in_err-replace-clause-near
returns-in_err-replace-clause-near c = λ q.
    let h = heap_of c.args.arena.now in
    let e = err_from_is_err_and c.from_residual.result c.from_residual.ensures.1 in
    let f : c.replace.result ≡ Err Full = cc (q, e.1, e.2, c.in_err-replace.was) in
    near c.args.arena.now.bytes _ (replace-total h (length c.args.bytes.now) (value_record_at h c.cell_of-cell.result) c.requires.bytes) (c.replace.ensures.limit f)

pub returns-in_default-clause-some : goal.returns-in_default-clause-some
returns-in_default-clause-some c = λ q.
    let h = heap_of c.args.arena.now in
    let n = c.args.list.count in
    let p = c.args.list.offset in
    let v = c.requires.values in
    let z = sizes-none h n p c.args.name.now (length c.args.bytes.now) v.members v.met v.reads (sym c.in_default.is ∙ c.requires.place v.members v.met v.reads) in
    subst (λ sizes. 0 < length sizes) z (c.add.ensures.some q)

pub returns-in_err-replace-clause-some : goal.returns-in_err-replace-clause-some
returns-in_err-replace-clause-some c = λ q.
    let h = heap_of c.args.arena.now in
    let n = c.args.list.count in
    let p = c.args.list.offset in
    let v = c.requires.values in
    let z = sizes-there h n p c.args.name.now (length c.args.bytes.now) v.members v.met c.in-Some.index c.cell_of-cell.result v.reads
    (sym c.in-Some.is ∙ c.requires.place v.members v.met v.reads) c.cell_of-cell.ensures in
    let e = err_from_is_err_and c.from_residual.result c.from_residual.ensures.1 in
    let f : c.replace.result ≡ Err Full = cc (q, e.1, e.2, c.in_err-replace.was) in
    subst (λ sizes. 0 < length sizes) z (c.replace.ensures.some f)

pub returns-in_default-clause-growth : goal.returns-in_default-clause-growth
returns-in_default-clause-growth c =
    let h = heap_of c.args.arena.now in
    let n = c.args.list.count in
    let p = c.args.list.offset in
    let v = c.requires.values in
    let z = sizes-none h n p c.args.name.now (length c.args.bytes.now) v.members v.met v.reads (sym c.in_default.is ∙ c.requires.place v.members v.met v.reads) in
    on_ok_weaker c.add.result (λ f. subst (GrowsFor c.args.arena.now.bytes c.add.new.arena.bytes) z f) c.add.ensures.growth

pub returns-clause-growth : goal.returns-clause-growth
returns-clause-growth c =
    let h = heap_of c.args.arena.now in
    let n = c.args.list.count in
    let p = c.args.list.offset in
    let v = c.requires.values in
    let z = sizes-there h n p c.args.name.now (length c.args.bytes.now) v.members v.met c.in-Some.index c.cell_of-cell.result v.reads
    (sym c.in-Some.is ∙ c.requires.place v.members v.met v.reads) c.cell_of-cell.ensures in
    subst (GrowsFor c.args.arena.now.bytes c.replace.new.arena.bytes) z c.in_ok-replace.ensures.growth
