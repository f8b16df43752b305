-- The entries of a full list with one more, in two halves.
use Rattle.std.proofs.Common.{◌≡◌, ℕ, zero, suc, ◌+◌, ◌-◌, ◌*◌, ◌<◌, ◌≤◌, List, [], ◌∷◌, length, take, drop, refl, sym, ap, ◌∙◌, arith}
use Rattle.reg_heap.specs.declared.limits.TheConstants.{LEAF_LIMIT}
use Rattle.reg_heap.specs.Heaps.{Heap}
use Rattle.reg_records.specs.RecordCells.{held, HasRoom}
use Rattle.reg_records.specs.SubkeyLists.{Entry, list_of}
use Rattle.reg_heap.specs.Kinds.{times}
use Rattle.std.specs.Option.{option_and_then}
use Rattle.reg_index.specs.Internal.HashLeaves.{IsLeaf}
use Rattle.reg_index.specs.Subkeys.{Moves, with_one}

-- the new entry in the first half
pub first-with : (half index : ℕ) (entry : Entry) (entries : List Entry) → index < half → index ≤ length entries →
    take half (with_one index entry entries) ≡ with_one index entry (take (half - 1) entries)
first-with zero index entry entries l m = absurd (omega (arith, l))
first-with (suc half) zero entry entries l m = let e : half ≡ suc half - 1 = omega arith in ap (λ n. entry ∷ take n entries) e
first-with (suc half) (suc index) entry [] l m = absurd (omega (arith, m))
first-with (suc half) (suc index) entry (x ∷ xs) l m =
    let e : suc half - 1 ≡ suc (half - 1) = omega (arith, l) in
    ap (λ es. x ∷ es) (first-with half index entry xs (omega (arith, l)) (omega (arith, m))) ∙ ap (λ n. with_one (suc index) entry (take n (x ∷ xs))) (sym e)

pub second-without : (half index : ℕ) (entry : Entry) (entries : List Entry) → index < half → index ≤ length entries →
    drop half (with_one index entry entries) ≡ drop (half - 1) entries
second-without zero index entry entries l m = absurd (omega (arith, l))
second-without (suc half) zero entry entries l m = let e : half ≡ suc half - 1 = omega arith in ap (λ n. drop n entries) e
second-without (suc half) (suc index) entry [] l m = absurd (omega (arith, m))
second-without (suc half) (suc index) entry (x ∷ xs) l m =
    let e : suc half - 1 ≡ suc (half - 1) = omega (arith, l) in
    second-without half index entry xs (omega (arith, l)) (omega (arith, m)) ∙ ap (λ n. drop n (x ∷ xs)) (sym e)

-- the new entry in the second half
pub first-without : (half index : ℕ) (entry : Entry) (entries : List Entry) → half ≤ index → index ≤ length entries →
    take half (with_one index entry entries) ≡ take half entries
first-without zero index entry entries l m = refl
first-without (suc half) zero entry entries l m = absurd (omega (arith, l))
first-without (suc half) (suc index) entry [] l m = absurd (omega (arith, m))
first-without (suc half) (suc index) entry (x ∷ xs) l m = ap (λ es. x ∷ es) (first-without half index entry xs (omega (arith, l)) (omega (arith, m)))

pub second-with : (half index : ℕ) (entry : Entry) (entries : List Entry) → half ≤ index → index ≤ length entries →
    drop half (with_one index entry entries) ≡ with_one (index - half) entry (drop half entries)
second-with zero index entry entries l m = let e : index ≡ index - 0 = omega arith in ap (λ n. with_one n entry entries) e
second-with (suc half) zero entry entries l m = absurd (omega (arith, l))
second-with (suc half) (suc index) entry [] l m = absurd (omega (arith, m))
second-with (suc half) (suc index) entry (x ∷ xs) l m =
    let e : index - half ≡ suc index - suc half = omega arith in
    second-with half index entry xs (omega (arith, l)) (omega (arith, m)) ∙ ap (λ n. with_one n entry (drop half xs)) e

-- ---- room in a half

pub half-room : (old new : Heap) (cell half index size : ℕ) (entries : List Entry) → HasRoom old cell (4 + 8 * size) → length (held new cell) ≡ length (held old cell) →
    IsLeaf new cell entries → length entries ≡ half → suc half ≡ size → size < LEAF_LIMIT → index ≤ half →
    (entries : List Entry) × IsLeaf new cell entries × (length entries < LEAF_LIMIT) × (index ≤ length entries) × (4 + 8 * suc (length entries) ≤ length (held new cell))
half-room old new cell half index size entries room same leaf number one few within =
    (entries, leaf, omega (arith, number, one, few), omega (arith, number, within), omega (arith, room.enough, same, number, one))

-- ---- the other half

pub leaf-beside : (old new : Heap) (moved result other : ℕ) (entries : List Entry) → Moves old new (moved ∷ []) (result ∷ []) → result ≡ moved → times other (moved ∷ []) ≡ 0 →
    IsLeaf old other entries → IsLeaf new other entries
leaf-beside old new moved result other entries m is none leaf =
    ap (option_and_then list_of) (m.same other none (ap (λ r. times other (r ∷ [])) is ∙ none)) ∙ leaf
