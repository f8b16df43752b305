use Rattle.std.proofs.Common.{arith, ap, sym, ◌∙◌, take, drop, ℕ}
use Rattle.reg_records.specs.KeyNodes.{KeyRecord}
use Rattle.reg_records.proofs.KeyNodeCodec.{nk-open}
use Rattle.reg_records.proofs.nk.nk_name.Goals as goal

pub half_at-requires : goal.half_at-requires
half_at-requires c = let v = (nk-open _ _ c.requires.1).long in omega (arith, v)

pub slice_bounds-result-end : goal.slice_bounds-result-end
slice_bounds-result-end c =
    let v = (nk-open _ _ c.requires.1).enough in
    let length = c.from-length.ensures in
    let read = c.half_at.ensures in
    search (arith, v, length, read)

pub returns : goal.returns
returns c = λ record_is e.
    let v = nk-open _ _ e in
    ap (λ (n : ℕ). take n (drop 76 c.args.content.now)) (omega (arith) ∙ (c.from-length.ensures ∙ c.half_at.ensures)) ∙ sym (ap (λ (r : KeyRecord). r.name) v.same)
