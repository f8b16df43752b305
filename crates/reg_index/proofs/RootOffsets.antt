-- Offsets of an index root in bytes of which a piece was written over.
use Rattle.std.proofs.Common.{◌≡◌, ℕ, zero, suc, ◌+◌, ◌*◌, ◌<◌, ◌≤◌, List, [], ◌∷◌, ◌++◌, length, map, take, drop, get_or, refl, sym, ap, ◌∙◌, arith}
use Rattle.reg_heap.specs.ByteWords.{word, splice}
use Rattle.reg_records.specs.OffsetRows.{offsets_at}
use Rattle.reg_records.specs.SubkeyLists.{plain_entries, offsets_in}
use Rattle.reg_records.proofs.SplicedNumbers.{get_or-below, get_or-above, word-same}
use Rattle.reg_index.specs.Internal.IndexLists.{plain}
use Rattle.reg_index.proofs.LeafEntries.{get_or-within, get_or-part, length-part}

pub length-offsets : (n at : ℕ) (c : List ℕ) → length (offsets_at n at c) ≡ n
unfolding offsets_at
length-offsets zero at c = refl
length-offsets (suc n) at c = ap suc (length-offsets n (at + 4) c)

-- an index root's entries are its offsets
pub plain-offsets : (n at : ℕ) (c : List ℕ) → plain_entries n at c ≡ map plain (offsets_at n at c)
unfolding offsets_at
plain-offsets zero at c = refl
plain-offsets (suc n) at c = ap (λ es. plain (word c at) ∷ es) (plain-offsets n (at + 4) c)

pub offsets-plain : (offsets : List ℕ) → offsets_in (map plain offsets) ≡ offsets
offsets-plain [] = refl
offsets-plain (o ∷ os) = ap (λ xs. o ∷ xs) (offsets-plain os)

pub plain-same : (xs ys : List ℕ) → map plain xs ≡ map plain ys → xs ≡ ys
plain-same xs ys e = sym (offsets-plain xs) ∙ (ap offsets_in e ∙ offsets-plain ys)

pub offsets-append : (i n at : ℕ) (c : List ℕ) → offsets_at (i + n) at c ≡ offsets_at i at c ++ offsets_at n (at + 4 * i) c
unfolding offsets_at
offsets-append zero n at c =
    let z : at ≡ at + 4 * 0 = omega arith in
    let m : 0 + n ≡ n = omega arith in
    ap (λ n. offsets_at n at c) m ∙ ap (λ a. offsets_at n a c) z
offsets-append (suc i) n at c =
    let m : suc i + n ≡ suc (i + n) = omega arith in
    let z : (at + 4) + 4 * i ≡ at + 4 * suc i = omega arith in
    ap (λ n. offsets_at n at c) m
    ∙ ap (λ xs. word c at ∷ xs) (offsets-append i n (at + 4) c ∙ ap (λ a. offsets_at i (at + 4) c ++ offsets_at n a c) z)

pub take-offsets : (i n at : ℕ) (c : List ℕ) → take i (offsets_at (i + n) at c) ≡ offsets_at i at c
unfolding offsets_at
take-offsets zero n at c = refl
take-offsets (suc i) n at c =
    let m : suc i + n ≡ suc (i + n) = omega arith in
    ap (λ n. take (suc i) (offsets_at n at c)) m ∙ ap (λ xs. word c at ∷ xs) (take-offsets i n (at + 4) c)

pub drop-offsets : (i n at : ℕ) (c : List ℕ) → drop i (offsets_at (i + n) at c) ≡ offsets_at n (at + 4 * i) c
unfolding offsets_at
drop-offsets zero n at c =
    let z : at ≡ at + 4 * 0 = omega arith in
    let m : 0 + n ≡ n = omega arith in
    ap (λ n. offsets_at n at c) m ∙ ap (λ a. offsets_at n a c) z
drop-offsets (suc i) n at c =
    let m : suc i + n ≡ suc (i + n) = omega arith in
    let z : (at + 4) + 4 * i ≡ at + 4 * suc i = omega arith in
    ap (λ n. drop (suc i) (offsets_at n at c)) m ∙ (drop-offsets i n (at + 4) c ∙ ap (λ a. offsets_at n a c) z)

-- ---- the same bytes, the same offsets

pub offsets-same : (n a b : ℕ) (c d : List ℕ) → ((k : ℕ) → k < 4 * n → get_or d (b + k) 0 ≡ get_or c (a + k) 0) → offsets_at n b d ≡ offsets_at n a c
unfolding offsets_at
offsets-same zero a b c d same = refl
offsets-same (suc n) a b c d same =
    let offset : word d b ≡ word c a = word-same a b c d (λ k l. same k (omega arith)) in
    let others = offsets-same n (a + 4) (b + 4) c d (λ k l.
    let p : (b + 4) + k ≡ b + (4 + k) = omega arith in
    let q : a + (4 + k) ≡ (a + 4) + k = omega arith in
    ap (λ n. get_or d n 0) p ∙ (same (4 + k) (omega arith) ∙ ap (λ n. get_or c n 0) q)) in
    (λ i. offset i ∷ others i)

-- ---- offsets of a content with a piece written over

-- the bytes of one content from an offset on, put into another at an offset
module _ (from at m : ℕ) (c d : List ℕ) (source : from + m ≤ length c) (fits : at + m ≤ length d) where
  long : length (take m (drop from c)) ≡ m
  long = length-part from m c source

  pub copied-offsets : (n skip : ℕ) → skip + 4 * n ≤ m → offsets_at n (at + skip) (splice at (take m (drop from c)) d) ≡ offsets_at n (from + skip) c
  copied-offsets n skip l = offsets-same n (from + skip) (at + skip) c (splice at (take m (drop from c)) d) (λ k h.
      let p : (at + skip) + k ≡ at + (skip + k) = omega arith in
      let q : from + (skip + k) ≡ (from + skip) + k = omega arith in
      ap (λ n. get_or (splice at (take m (drop from c)) d) n 0) p
      ∙ (get_or-within at (skip + k) (take m (drop from c)) d (omega (arith, long)) (omega (arith, long))
      ∙ (get_or-part from m (skip + k) c (omega arith) ∙ ap (λ n. get_or c n 0) q)))

-- what stands before the piece
pub offsets-before : (at : ℕ) (piece c : List ℕ) → at + length piece ≤ length c → (n p : ℕ) → p + 4 * n ≤ at → offsets_at n p (splice at piece c) ≡ offsets_at n p c
offsets-before at piece c fits n p l = offsets-same n p p c (splice at piece c) (λ k h. get_or-below at piece c fits (p + k) (omega arith))

-- what stands behind the piece
pub offsets-behind : (at : ℕ) (piece c : List ℕ) → at + length piece ≤ length c → (n p : ℕ) → at + length piece ≤ p → offsets_at n p (splice at piece c) ≡ offsets_at n p c
offsets-behind at piece c fits n p l = offsets-same n p p c (splice at piece c) (λ k h. get_or-above at piece c fits (p + k) (omega arith))
