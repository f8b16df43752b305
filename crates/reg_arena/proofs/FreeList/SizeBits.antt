-- The bits of a bitmap.
use Rattle.std.proofs.Common.{◌≡◌, ℕ, ◌+◌, ◌-◌, ◌*◌, ◌/◌, ◌%◌, ◌^◌, ◌<◌, ◌≤◌, true, false, cond, inl, inr, List, set, get_or, length, sym, ap, ◌∙◌, arith, eqb, get_or-set_other, get_or-set_same}
use Rattle.std.proofs.lemmas.Bool.{eq-eqb, ne_eqb, cases_eq, cases_lt}
use Rattle.std.specs.Int.{bit_at}
use Rattle.std.specs.Int.{w64}
use Rattle.std.proofs.lemmas.List.{get_or_past}
use Rattle.std.proofs.Math.Nat.{div-mul-le_self}
use Rattle.std.proofs.lemmas.Nat.Bits.{and_high_mask, bit_at-trailing_zeros, bit_at-zero, bit_at_and, bit_at_mask_inside, bit_at_mask_below, ones_shl}
use lib.Bits.{bit_and}
use lib.Count.{count_trailing_zeros}
use Rattle.reg_arena.specs.Internal.SizeTables.{bit_in, IsLeast}

-- one word of the bitmap is set, of which one bit differs
pub word-set : (words : List ℕ) (i v w : ℕ) → i / 64 < length words → bit_at w (i % 64) ≡ v
    → ((j : ℕ) → j < 64 → (j ≡ i % 64 → ⊥) → bit_at w j ≡ bit_at (get_or words (i / 64) 0) j) → (j : ℕ) → bit_in (set words (i / 64) w) j ≡ cond (eqb j i) v (bit_in words j)
word-set words i v w inside here other j = elim (cases_eq (j / 64) (i / 64)) [
  | inl e ↦ (
      let g : get_or (set words (i / 64) w) (j / 64) 0 ≡ w = ap (λ k. get_or (set words (i / 64) w) k 0) e ∙ get_or-set_same words (i / 64) w 0 inside in
      elim (cases_eq (j % 64) (i % 64)) [
        | inl f ↦ (let t : eqb j i ≡ true = eq-eqb j i (omega arith) in rw t (ap (λ x. bit_at x (j % 64)) g ∙ ap (bit_at w) f ∙ here))
        | inr f ↦ (let t : eqb j i ≡ false = ne_eqb j i (λ z. f (ap (λ y. y % 64) z)) in rw t
            (ap (λ x. bit_at x (j % 64)) g ∙ other (j % 64) (omega arith) f ∙ ap (λ k. bit_at (get_or words k 0) (j % 64)) (sym e)))
      ])
  | inr e ↦ (
      let t : eqb j i ≡ false = ne_eqb j i (λ z. e (ap (λ y. y / 64) z)) in
      rw t (ap (λ x. bit_at x (j % 64)) (get_or-set_other words (i / 64) (j / 64) w 0 e)))
]

-- a bit of a word
pub bit_in-word : (words : List ℕ) (w i : ℕ) → i < 64 → bit_in words (64 * w + i) ≡ bit_at (get_or words w 0) i
bit_in-word words w i l =
    let d : (64 * w + i) / 64 ≡ w = omega arith in
    let r : (64 * w + i) % 64 ≡ i = omega arith in
    ap (λ k. bit_at (get_or words k 0) ((64 * w + i) % 64)) d ∙ ap (bit_at (get_or words w 0)) r

-- the bits of a word from k on, as a number
pub record IsRest (words : List ℕ) (w k rest : ℕ) : Type 0 where
  pub small : rest < 2 ^ 64
  pub low : k < 64
  pub above : (i : ℕ) → i < 64 → k ≤ i → bit_at rest i ≡ bit_at (get_or words w 0) i
  pub below : (i : ℕ) → i < k → bit_at rest i ≡ 0

pub masked : (words : List ℕ) (w k word : ℕ) → word ≡ get_or words w 0 → k < 64 → word < 2 ^ 64 → IsRest words w k (bit_and word ((2 ^ 64 - 1) * 2 ^ k % 2 ^ 64))
masked words w k word e low small =
    let m : (2 ^ 64 - 1) * 2 ^ k % 2 ^ 64 ≡ 2 ^ 64 - 2 ^ k = ones_shl 64 k (omega arith) in
    record {
      small = (let z : bit_and word ((2 ^ 64 - 1) * 2 ^ k % 2 ^ 64) ≡ word / 2 ^ k * 2 ^ k = ap (bit_and word) m ∙
          and_high_mask 64 k (omega arith) word small in omega (arith, div-mul-le_self word (2 ^ k)));
      low = low;
      above = λ i l g.
          let a : bit_at (2 ^ 64 - 2 ^ k) i ≡ 1 = bit_at_mask_inside k 64 i g l in
          let b : bit_at word i < 2 = omega arith in
          ap (λ x. bit_at (bit_and word x) i) m ∙ bit_at_and word (2 ^ 64 - 2 ^ k) i ∙ omega arith ∙ ap (λ x. bit_at x i) e;
      below = λ i l.
          let a : bit_at (2 ^ 64 - 2 ^ k) i ≡ 0 = bit_at_mask_below k 64 i l in
          ap (λ x. bit_at (bit_and word x) i) m ∙ bit_at_and word (2 ^ 64 - 2 ^ k) i ∙ omega arith;
    }

pub whole : (words : List ℕ) (w word : ℕ) → word ≡ get_or words w 0 → word < 2 ^ 64 → IsRest words w 0 word
whole words w word e small = record { small = small; low = omega arith; above = λ i l g. ap (λ x. bit_at x i) e; below = λ i l. absurd (omega arith) }

pub found : (words : List ℕ) (from w k rest : ℕ) → IsRest words w k rest → (rest ≡ 0 → ⊥) → from ≤ 64 * w + k → ((j : ℕ) → from ≤ j → j < 64 * w + k → bit_in words j ≡ 0)
    → IsLeast words from (64 * w + count_trailing_zeros 64 rest)
found words from w k rest r some le before =
    let t = count_trailing_zeros 64 rest in
    let z = bit_at-trailing_zeros w64 rest (omega arith) r.small in
    let high : k ≤ t = elim (cases_lt t k) [ inl l ↦ absurd (let b = r.below t l in let c = z.1 in omega arith) | inr g ↦ g ] in
    let low : t < 64 = z.0 in
    record {
      from_there = omega arith;
      is_set = bit_in-word words w t low ∙ sym (r.above t low high) ∙ z.1;
      least = λ j g l. elim (cases_lt j (64 * w + k)) [
        | inl b ↦ before j g b
        | inr a ↦ (
            let i = j - 64 * w in
            let e : j ≡ 64 * w + i = omega arith in
            let li : i < t = omega arith in
            ap (bit_in words) e ∙ bit_in-word words w i (omega arith) ∙ sym (r.above i (omega arith) (omega arith)) ∙ z.2 i li)
      ];
    }

pub passed : (words : List ℕ) (from w k rest : ℕ) → IsRest words w k rest → rest ≡ 0 → ((j : ℕ) → from ≤ j → j < 64 * w + k → bit_in words j ≡ 0)
    → (j : ℕ) → from ≤ j → j < 64 * (w + 1) → bit_in words j ≡ 0
passed words from w k rest r none before j g l = elim (cases_lt j (64 * w + k)) [
  | inl b ↦ before j g b
  | inr a ↦ (
      let i = j - 64 * w in
      let e : j ≡ 64 * w + i = omega arith in
      ap (bit_in words) e ∙ bit_in-word words w i (omega arith) ∙ sym (r.above i (omega arith) (omega arith)) ∙ ap (λ x. bit_at x i) none ∙ bit_at-zero i)
]

-- past the words no bit is set
pub past : (words : List ℕ) (from w : ℕ) → length words ≤ w → ((j : ℕ) → from ≤ j → j < 64 * w → bit_in words j ≡ 0) → (j : ℕ) → from ≤ j → bit_in words j ≡ 0
past words from w le before j g = elim (cases_lt j (64 * w)) [
  | inl l ↦ before j g l
  | inr a ↦ (let e : get_or words (j / 64) 0 ≡ 0 = get_or_past words (j / 64) 0 (omega arith) in ap (λ x. bit_at x (j % 64)) e ∙ bit_at-zero (j % 64))
]
