-- Numbers in bytes of which a piece was written over.
use Rattle.std.proofs.Common.{◌≡◌, ℕ, zero, suc, ◌+◌, ◌-◌, ◌<◌, ◌≤◌, List, ◌++◌, length, get_or, take, drop, refl, sym, ap, ◌∙◌, arith, rules, length-append, length-drop}
use Rattle.std.proofs.lemmas.List.{places, drop-drop, drop_at, length-take-le, get_or-drop, drop-append-le}
use Rattle.std.proofs.Math.Seq.{drop-length}
use Rattle.byteorder.specs.Endian.{little_from, little_number}
use Rattle.reg_heap.specs.ByteWords.{word, splice}

little_from-same : (i n p : ℕ) (xs ys : List ℕ) → ((k : ℕ) → p + i ≤ k → k < p + i + n → get_or ys k 0 ≡ get_or xs k 0)
    → little_from i n (drop p ys) ≡ little_from i n (drop p xs)
little_from-same i zero p xs ys same = refl
little_from-same i (suc n) p xs ys same =
    let byte : get_or (drop p ys) i 0 ≡ get_or (drop p xs) i 0 = get_or-drop p ys i 0 ∙ same (p + i) (omega arith) (omega arith) ∙ sym (get_or-drop p xs i 0) in
    let rest = little_from-same (suc i) n p xs ys (λ k l h. same k (omega arith) (omega arith)) in
    rw (byte, rest) refl

module _ (at : ℕ) (piece xs : List ℕ) (fits : at + length piece ≤ length xs) where
  pub length-splice : length (splice at piece xs) ≡ length xs
  unfolding splice
  length-splice =
      let front = length-take-le at xs (omega arith) in
      omega (arith, front, length-append (take at xs) (piece ++ drop (at + length piece) xs), length-append piece (drop (at + length piece) xs), length-drop (at + length piece) xs)

  pub get_or-below : (k : ℕ) → k < at → get_or (splice at piece xs) k 0 ≡ get_or xs k 0
  unfolding splice
  get_or-below k l = search (rules, places)

  pub get_or-above : (k : ℕ) → at + length piece ≤ k → get_or (splice at piece xs) k 0 ≡ get_or xs k 0
  unfolding splice
  get_or-above k l = search (rules, places)

  -- what stands before the piece is as it was
  pub number-below : (n p : ℕ) → p + n ≤ at → little_number n (drop p (splice at piece xs)) ≡ little_number n (drop p xs)
  number-below n p l = little_from-same 0 n p xs (splice at piece xs) (λ k a b. get_or-below k (omega arith))

  -- what stands behind the piece is as it was
  pub number-above : (n p : ℕ) → at + length piece ≤ p → little_number n (drop p (splice at piece xs)) ≡ little_number n (drop p xs)
  number-above n p l = little_from-same 0 n p xs (splice at piece xs) (λ k a b. get_or-above k (omega arith))

  -- the piece is there
  pub drop-within : (k : ℕ) → k ≤ length piece → drop (at + k) (splice at piece xs) ≡ drop k piece ++ drop (at + length piece) xs
  unfolding splice
  drop-within k l =
      let front : length (take at xs) ≡ at = length-take-le at xs (omega arith) in
      let back : List ℕ = drop (at + length piece) xs in
      sym (drop-drop k at (splice at piece xs)) ∙ ap (drop k) (drop_at (take at xs) (piece ++ back) at front) ∙ drop-append-le k piece back l

  pub drop-above : (k : ℕ) → at + length piece ≤ k → drop k (splice at piece xs) ≡ drop k xs
  drop-above k l =
      let r : ℕ = k - (at + length piece) in
      let whole : drop (at + length piece) (splice at piece xs) ≡ drop (at + length piece) xs = drop-within (length piece) (omega arith) ∙
      ap (λ ys. ys ++ drop (at + length piece) xs) (drop-length piece) in
      ap (λ n. drop n (splice at piece xs)) (omega arith) ∙ sym (drop-drop r (at + length piece) (splice at piece xs)) ∙ ap (drop r) whole ∙
      drop-drop r (at + length piece) xs ∙ ap (λ n. drop n xs) (omega arith)

-- the same bytes, the same number
little-same : (i n p q : ℕ) (xs ys : List ℕ) → ((k : ℕ) → k < i + n → get_or ys (q + k) 0 ≡ get_or xs (p + k) 0) → little_from i n (drop q ys) ≡ little_from i n (drop p xs)
little-same i zero p q xs ys same = refl
little-same i (suc n) p q xs ys same =
    let byte : get_or (drop q ys) i 0 ≡ get_or (drop p xs) i 0 = get_or-drop q ys i 0 ∙ same i (omega arith) ∙ sym (get_or-drop p xs i 0) in
    let rest = little-same (suc i) n p q xs ys (λ k h. same k (omega arith)) in
    rw (byte, rest) refl

pub word-same : (p q : ℕ) (xs ys : List ℕ) → ((k : ℕ) → k < 4 → get_or ys (q + k) 0 ≡ get_or xs (p + k) 0) → word ys q ≡ word xs p
unfolding word
word-same p q xs ys same = little-same 0 4 p q xs ys (λ k h. same k (omega arith))
