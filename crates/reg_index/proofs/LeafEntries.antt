-- Entries of a hash leaf in bytes of which a piece was written over.
use Rattle.std.proofs.Common.{◌≡◌, ℕ, zero, suc, ◌+◌, ◌*◌, ◌<◌, ◌≤◌, List, ◌∷◌, ◌++◌, length, take, drop, get_or, refl, ap, ◌∙◌, arith, rules, length-take, length-drop}
use Rattle.std.proofs.lemmas.List.{places}
use Rattle.reg_heap.specs.ByteWords.{word, splice}
use Rattle.reg_records.specs.SubkeyLists.{hinted_entries}
use Rattle.reg_records.proofs.SplicedNumbers.{get_or-below, get_or-above, word-same}

pub length-hinted : (n at : ℕ) (c : List ℕ) → length (hinted_entries n at c) ≡ n
length-hinted zero at c = refl
length-hinted (suc n) at c = ap suc (length-hinted n (at + 8) c)

pub hinted-append : (i n at : ℕ) (c : List ℕ) → hinted_entries (i + n) at c ≡ hinted_entries i at c ++ hinted_entries n (at + 8 * i) c
hinted-append zero n at c =
    let z : at ≡ at + 8 * 0 = omega arith in
    let m : 0 + n ≡ n = omega arith in
    ap (λ n. hinted_entries n at c) m ∙ ap (λ a. hinted_entries n a c) z
hinted-append (suc i) n at c =
    let m : suc i + n ≡ suc (i + n) = omega arith in
    let z : (at + 8) + 8 * i ≡ at + 8 * suc i = omega arith in
    ap (λ n. hinted_entries n at c) m
    ∙ ap (λ xs. record { offset = word c at; hint = word c (at + 4) } ∷ xs) (hinted-append i n (at + 8) c ∙ ap (λ a. hinted_entries i (at + 8) c ++ hinted_entries n a c) z)

pub take-hinted : (i n at : ℕ) (c : List ℕ) → take i (hinted_entries (i + n) at c) ≡ hinted_entries i at c
take-hinted zero n at c = refl
take-hinted (suc i) n at c =
    let m : suc i + n ≡ suc (i + n) = omega arith in
    ap (λ n. take (suc i) (hinted_entries n at c)) m ∙ ap (λ xs. record { offset = word c at; hint = word c (at + 4) } ∷ xs) (take-hinted i n (at + 8) c)

pub drop-hinted : (i n at : ℕ) (c : List ℕ) → drop i (hinted_entries (i + n) at c) ≡ hinted_entries n (at + 8 * i) c
drop-hinted zero n at c =
    let z : at ≡ at + 8 * 0 = omega arith in
    let m : 0 + n ≡ n = omega arith in
    ap (λ n. hinted_entries n at c) m ∙ ap (λ a. hinted_entries n a c) z
drop-hinted (suc i) n at c =
    let m : suc i + n ≡ suc (i + n) = omega arith in
    let z : (at + 8) + 8 * i ≡ at + 8 * suc i = omega arith in
    ap (λ n. drop (suc i) (hinted_entries n at c)) m ∙ (drop-hinted i n (at + 8) c ∙ ap (λ a. hinted_entries n a c) z)

-- ---- the same bytes, the same entries

pub hinted-same : (n a b : ℕ) (c d : List ℕ) → ((k : ℕ) → k < 8 * n → get_or d (b + k) 0 ≡ get_or c (a + k) 0) → hinted_entries n b d ≡ hinted_entries n a c
hinted-same zero a b c d same = refl
hinted-same (suc n) a b c d same =
    let offset : word d b ≡ word c a = word-same a b c d (λ k l. same k (omega arith)) in
    let hint : word d (b + 4) ≡ word c (a + 4) =
    word-same (a + 4) (b + 4) c d (λ k l.
    let p : (b + 4) + k ≡ b + (4 + k) = omega arith in
    let q : a + (4 + k) ≡ (a + 4) + k = omega arith in
    ap (λ n. get_or d n 0) p ∙ (same (4 + k) (omega arith) ∙ ap (λ n. get_or c n 0) q)) in
    let others = hinted-same n (a + 8) (b + 8) c d (λ k l.
    let p : (b + 8) + k ≡ b + (8 + k) = omega arith in
    let q : a + (8 + k) ≡ (a + 8) + k = omega arith in
    ap (λ n. get_or d n 0) p ∙ (same (8 + k) (omega arith) ∙ ap (λ n. get_or c n 0) q)) in
    (λ i. record { offset = offset i; hint = hint i } ∷ others i)

-- ---- bytes of a content with a piece written over

pub get_or-within : (at k : ℕ) (piece xs : List ℕ) → at + length piece ≤ length xs → k < length piece → get_or (splice at piece xs) (at + k) 0 ≡ get_or piece k 0
unfolding splice
get_or-within at k piece xs f l = search (rules, places)

pub get_or-part : (a m k : ℕ) (c : List ℕ) → k < m → get_or (take m (drop a c)) k 0 ≡ get_or c (a + k) 0
get_or-part a m k c l = search (rules, places)

pub length-part : (a m : ℕ) (c : List ℕ) → a + m ≤ length c → length (take m (drop a c)) ≡ m
length-part a m c l = omega (arith, length-take m (drop a c), length-drop a c)

-- the bytes of one content from an offset on, put into another at an offset
module _ (from at m : ℕ) (c d : List ℕ) (source : from + m ≤ length c) (fits : at + m ≤ length d) where
  long : length (take m (drop from c)) ≡ m
  long = length-part from m c source

  pub copied : (n : ℕ) → 8 * n ≤ m → hinted_entries n at (splice at (take m (drop from c)) d) ≡ hinted_entries n from c
  copied n l = hinted-same n from at c (splice at (take m (drop from c)) d) (λ k h.
      get_or-within at k (take m (drop from c)) d (omega (arith, long)) (omega (arith, long)) ∙ get_or-part from m k c (omega arith))

-- what stands before the piece
pub kept : (at : ℕ) (piece c : List ℕ) → at + length piece ≤ length c → (n p : ℕ) → p + 8 * n ≤ at → hinted_entries n p (splice at piece c) ≡ hinted_entries n p c
kept at piece c fits n p l = hinted-same n p p c (splice at piece c) (λ k h. get_or-below at piece c fits (p + k) (omega arith))

-- what stands behind the piece
pub kept-behind : (at : ℕ) (piece c : List ℕ) → at + length piece ≤ length c → (n p : ℕ) → at + length piece ≤ p → hinted_entries n p (splice at piece c) ≡ hinted_entries n p c
kept-behind at piece c fits n p l = hinted-same n p p c (splice at piece c) (λ k h. get_or-above at piece c fits (p + k) (omega arith))
