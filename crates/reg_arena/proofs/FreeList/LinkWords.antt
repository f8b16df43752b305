-- The words of free cells, after one cell's link or both of its words were written. Cells stand at multiples of 8.
use Rattle.std.proofs.Common.{◌≡◌, ℕ, ◌+◌, ◌%◌, ◌<◌, ◌≤◌, Bool, true, false, cond, inl, inr, List, length, refl, ◌∙◌, arith, eqb}
use Rattle.std.proofs.lemmas.Bool.{eqb-false, ne_eqb, cases_lt}
use Rattle.byteorder.specs.Endian.{little_bytes}
use Rattle.reg_heap.specs.ByteWords.{word, splice, SameOutside}
use Rattle.reg_arena.specs.Internal.SizeTables.{linked, freed}
use Rattle.reg_arena.proofs.Contents.ByteSplices.{same-splice, same-trans, length-splice, word-same_below, word-same_above, word-splice}

-- a place for a free cell's two words, where there is a cell
abbrev pub IsSpot : List ℕ → ℕ → Type 0
IsSpot bytes p = (p ≡ 4294967295 → ⊥) → (p % 8 ≡ 0) × (p + 8 ≤ length bytes)

spliced : (bytes : List ℕ) (p v : ℕ) → p + 8 ≤ length bytes → SameOutside (p + 4) (p + 8) bytes (splice (p + 4) (little_bytes 4 v) bytes)
spliced bytes p v l = same-splice (p + 4) (p + 4) (p + 8) (little_bytes 4 v) bytes (omega arith) (omega arith) l

pub length-linked : (p v : ℕ) (bytes : List ℕ) → ((p ≡ 4294967295 → ⊥) → p + 8 ≤ length bytes) → length (linked p v bytes) ≡ length bytes
length-linked p v bytes h = by (eqb p 4294967295) refl
  where
    by : (b : Bool) → eqb p 4294967295 ≡ b → length (cond b bytes (splice (p + 4) (little_bytes 4 v) bytes)) ≡ length bytes
    by true e = refl
    by false e = length-splice (p + 4) (little_bytes 4 v) bytes (let z = h (eqb-false p 4294967295 e) in omega arith)

-- the link that is written
pub linked-same : (p v : ℕ) (bytes : List ℕ) → IsSpot bytes p → v < 4294967296 → (p ≡ 4294967295 → ⊥) → word (linked p v bytes) (p + 4) ≡ v
linked-same p v bytes h short o =
    let e : eqb p 4294967295 ≡ false = ne_eqb p 4294967295 o in
    let z = h o in
    rw e (word-splice (p + 4) v bytes (omega (arith, z.1)) short)

-- the other links
pub linked-other : (p v : ℕ) (bytes : List ℕ) (x : ℕ) → IsSpot bytes p → x % 8 ≡ 0 → (x ≡ p → ⊥) → word (linked p v bytes) (x + 4) ≡ word bytes (x + 4)
linked-other p v bytes x h x8 o = by (eqb p 4294967295) refl
  where
    by : (b : Bool) → eqb p 4294967295 ≡ b → word (cond b bytes (splice (p + 4) (little_bytes 4 v) bytes)) (x + 4) ≡ word bytes (x + 4)
    by true e = refl
    by false e =
        let z = h (eqb-false p 4294967295 e) in
        elim (cases_lt x p) [
          | inl l ↦ word-same_below (spliced bytes p v z.1) (x + 4) (omega (arith, z.0))
          | inr l ↦ word-same_above (spliced bytes p v z.1) (x + 4) (omega (arith, z.0))
        ]

-- the size fields
pub linked-field : (p v : ℕ) (bytes : List ℕ) (x : ℕ) → IsSpot bytes p → x % 8 ≡ 0 → word (linked p v bytes) x ≡ word bytes x
linked-field p v bytes x h x8 = by (eqb p 4294967295) refl
  where
    by : (b : Bool) → eqb p 4294967295 ≡ b → word (cond b bytes (splice (p + 4) (little_bytes 4 v) bytes)) x ≡ word bytes x
    by true e = refl
    by false e =
        let z = h (eqb-false p 4294967295 e) in
        elim (cases_lt p x) [
          | inl l ↦ word-same_above (spliced bytes p v z.1) x (omega (arith, z.0))
          | inr l ↦ word-same_below (spliced bytes p v z.1) x (omega (arith, z.0))
        ]

-- both words of a cell
pub freed-region : (at size next hi : ℕ) (xs : List ℕ) → at + 8 ≤ hi → hi ≤ length xs → SameOutside at hi xs (freed at size next xs)
freed-region at size next hi xs a b =
    let one : SameOutside at hi xs (splice at (little_bytes 4 size) xs) = same-splice at at hi (little_bytes 4 size) xs (omega arith) (omega arith) b in
    same-trans one (same-splice (at + 4) at hi (little_bytes 4 next) _ (omega arith) (omega arith) (omega (arith, one.long)))

pub length-freed : (at size next : ℕ) (bytes : List ℕ) → at + 8 ≤ length bytes → length (freed at size next bytes) ≡ length bytes
length-freed at size next bytes h = (freed-region at size next (length bytes) bytes h (omega arith)).long

pub freed-size : (at size next : ℕ) (xs : List ℕ) → at + 8 ≤ length xs → size < 4294967296 → word (freed at size next xs) at ≡ size
freed-size at size next xs a b =
    let long = length-splice at (little_bytes 4 size) xs (omega arith) in
    let s : SameOutside (at + 4) (at + 8) (splice at (little_bytes 4 size) xs) (freed at size next xs) = same-splice (at + 4) (at + 4) (at + 8)
    (little_bytes 4 next) _ (omega arith) (omega arith) (omega arith) in
    word-same_below s at (omega arith) ∙ word-splice at size xs (omega arith) b

pub freed-next : (at size next : ℕ) (xs : List ℕ) → at + 8 ≤ length xs → next < 4294967296 → word (freed at size next xs) (at + 4) ≡ next
freed-next at size next xs a b =
    let long = length-splice at (little_bytes 4 size) xs (omega arith) in
    word-splice (at + 4) next _ (omega arith) b

pub freed-other : (at size next : ℕ) (xs : List ℕ) (x : ℕ) → at + 8 ≤ length xs → at % 8 ≡ 0 → x % 8 ≡ 0 → (x ≡ at → ⊥) →
    (word (freed at size next xs) x ≡ word xs x) × (word (freed at size next xs) (x + 4) ≡ word xs (x + 4))
freed-other at size next xs x l a8 x8 o =
    let s = freed-region at size next (at + 8) xs (omega arith) l in
    elim (cases_lt x at) [
      | inl q ↦ (word-same_below s x (omega arith), word-same_below s (x + 4) (omega arith))
      | inr q ↦ (word-same_above s x (omega arith), word-same_above s (x + 4) (omega arith))
    ]
