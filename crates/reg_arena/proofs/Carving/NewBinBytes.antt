-- The bytes of a new bin.
use Rattle.std.proofs.Common.{◌≡◌, ℕ, ◌+◌, ◌-◌, ◌<◌, ◌≤◌, List, ◌++◌, length, take, drop, replicate, refl, sym, ap, ◌∙◌, arith, append_assoc, length-append}
use Rattle.std.proofs.lemmas.List.{take_at, drop_at, length-replicate, replicate-append-replicate}
use Rattle.byteorder.specs.Endian.{little_bytes}
use Rattle.byteorder.specs.Numbers.{little_number-reads_back}
use Rattle.reg_heap.specs.ByteWords.{word, splice}
use Rattle.reg_arena.specs.Internal.SizeTables.{freed}
use Rattle.reg_arena.specs.NewBin.{new_bin, headed}
use Rattle.reg_arena.proofs.Contents.ByteSplices.{length-splice}

-- a word that stands behind so many bytes
pub word-behind : (a rest : List ℕ) (at n : ℕ) → length a ≡ at → n < 4294967296 → word (a ++ (little_bytes 4 n ++ rest)) at ≡ n
unfolding word
word-behind a rest at n e l = rw (drop_at a (little_bytes 4 n ++ rest) at e) (little_number-reads_back 4 n rest (omega arith))

-- a piece written over the first of some zeros
fill : (a p : List ℕ) (at m n : ℕ) → length a ≡ at → length p + n ≡ m → splice at p (a ++ replicate m 0) ≡ (a ++ p) ++ replicate n 0
unfolding splice
fill a p at m n e f =
    let zeros : a ++ replicate m 0 ≡ (a ++ replicate (length p) 0) ++ replicate n 0 = rw (← f, ← replicate-append-replicate {A = ℕ} (length p) n 0)
    (sym (append_assoc a (replicate (length p) 0) (replicate n 0))) in
    let long : length (a ++ replicate (length p) 0) ≡ at + length p = omega (arith, length-append a (replicate (length p) 0), length-replicate {A = ℕ} (length p) 0) in
    let front : take at (a ++ replicate m 0) ≡ a = take_at a (replicate m 0) at e in
    let back : drop (at + length p) (a ++ replicate m 0) ≡ replicate n 0 = ap (drop (at + length p)) zeros ∙ drop_at (a ++ replicate (length p) 0) (replicate n 0) (at + length p) long in
    rw (front, back) (sym (append_assoc a p (replicate n 0)))

regroup : (a b c d z e f r : List ℕ) → ((((((a ++ b) ++ c) ++ d) ++ z) ++ e) ++ f) ++ r ≡ a ++ (b ++ (c ++ (d ++ (z ++ (e ++ (f ++ r))))))
regroup a b c d z e f r = simp append_assoc

-- zeros passed over
pass : (a : List ℕ) (m n : ℕ) → 20 + n ≡ m → a ++ replicate m 0 ≡ (a ++ replicate 20 0) ++ replicate n 0
pass a m n e = rw (← e, ← replicate-append-replicate {A = ℕ} 20 n 0) (sym (append_assoc a (replicate 20 0) (replicate n 0)))

pub appended : (old : List ℕ) (at size link : ℕ) → at ≡ length old → 40 ≤ size → freed (at + 32) (size - 32) link (headed at size (old ++ replicate size 0)) ≡ old ++ new_bin at size link
appended old at size link e l =
    let w1 : List ℕ = little_bytes 4 1852400232 in
    let w2 : List ℕ = little_bytes 4 at in
    let w3 : List ℕ = little_bytes 4 size in
    let w4 : List ℕ = little_bytes 4 (size - 32) in
    let w5 : List ℕ = little_bytes 4 link in
    let a1 : List ℕ = old ++ w1 in
    let l1 : length a1 ≡ at + 4 = omega (arith, length-append old w1) in
    let a2 : List ℕ = a1 ++ w2 in
    let l2 : length a2 ≡ at + 8 = omega (arith, length-append a1 w2) in
    let a3 : List ℕ = a2 ++ w3 in
    let l3 : length a3 ≡ at + 12 = omega (arith, length-append a2 w3) in
    let a4 : List ℕ = a3 ++ replicate 20 0 in
    let l4 : length a4 ≡ at + 32 = omega (arith, length-append a3 (replicate 20 0)) in
    let a5 : List ℕ = a4 ++ w4 in
    let l5 : length a5 ≡ at + 32 + 4 = omega (arith, length-append a4 w4) in
    let e1 : splice at w1 (old ++ replicate size 0) ≡ a1 ++ replicate (size - 4) 0 = fill old w1 at size (size - 4) (sym e) (omega arith) in
    let e2 : splice (at + 4) w2 (a1 ++ replicate (size - 4) 0) ≡ a2 ++ replicate (size - 8) 0 = fill a1 w2 (at + 4) (size - 4) (size - 8) l1 (omega arith) in
    let e3 : splice (at + 8) w3 (a2 ++ replicate (size - 8) 0) ≡ a3 ++ replicate (size - 12) 0 = fill a2 w3 (at + 8) (size - 8) (size - 12) l2 (omega arith) in
    let e4 : a3 ++ replicate (size - 12) 0 ≡ a4 ++ replicate (size - 32) 0 = pass a3 (size - 12) (size - 32) (omega arith) in
    let e5 : splice (at + 32) w4 (a4 ++ replicate (size - 32) 0) ≡ a5 ++ replicate (size - 36) 0 = fill a4 w4 (at + 32) (size - 32) (size - 36) l4 (omega arith) in
    let e6 : splice (at + 32 + 4) w5 (a5 ++ replicate (size - 36) 0) ≡ (a5 ++ w5) ++ replicate (size - 40) 0 = fill a5 w5 (at + 32 + 4) (size - 36) (size - 40) l5 (omega arith) in
    rw (e1, e2, e3, e4, e5, e6) (regroup old w1 w2 w3 (replicate 20 0) w4 w5 (replicate (size - 40) 0))

-- what a new bin's bytes say
pub record SaysBin (new : List ℕ) (at size link : ℕ) : Type 0 where
  pub signature : word new at ≡ 1852400232
  pub place : word new (at + 4) ≡ at
  pub size_is : word new (at + 8) ≡ size
  pub blank : take 20 (drop (at + 12) new) ≡ replicate 20 0
  pub free : word new (at + 32) ≡ size - 32
  pub next : word new (at + 32 + 4) ≡ link

pub says_bin : (old : List ℕ) (at size link : ℕ) → length old ≡ at → at + size < 4294967296 → link < 4294967296 → SaysBin (old ++ new_bin at size link) at size link
says_bin old at size link e l m =
    let w1 : List ℕ = little_bytes 4 1852400232 in
    let w2 : List ℕ = little_bytes 4 at in
    let w3 : List ℕ = little_bytes 4 size in
    let w4 : List ℕ = little_bytes 4 (size - 32) in
    let w5 : List ℕ = little_bytes 4 link in
    let z : List ℕ = replicate 20 0 in
    let r : List ℕ = replicate (size - 40) 0 in
    let a1 : List ℕ = old ++ w1 in
    let l1 : length a1 ≡ at + 4 = omega (arith, length-append old w1) in
    let a2 : List ℕ = a1 ++ w2 in
    let l2 : length a2 ≡ at + 8 = omega (arith, length-append a1 w2) in
    let a3 : List ℕ = a2 ++ w3 in
    let l3 : length a3 ≡ at + 12 = omega (arith, length-append a2 w3) in
    let a4 : List ℕ = a3 ++ z in
    let l4 : length a4 ≡ at + 32 = omega (arith, length-append a3 z) in
    let a5 : List ℕ = a4 ++ w4 in
    let l5 : length a5 ≡ at + 32 + 4 = omega (arith, length-append a4 w4) in
    record {
      signature = word-behind old _ at 1852400232 e (omega arith);
      place = ap (λ xs. word xs (at + 4)) (sym (append_assoc old w1 (w2 ++ (w3 ++ (z ++ (w4 ++ (w5 ++ r))))))) ∙ word-behind a1 _ (at + 4) at l1 (omega arith);
      size_is = ap (λ xs. word xs (at + 8)) (regroup2 old w1 w2 (w3 ++ (z ++ (w4 ++ (w5 ++ r))))) ∙ word-behind a2 _ (at + 8) size l2 (omega arith);
      blank = ap (λ xs. take 20 (drop (at + 12) xs)) (regroup3 old w1 w2 w3 (z ++ (w4 ++ (w5 ++ r)))) ∙ ap (take 20) (drop_at a3 (z ++ (w4 ++ (w5 ++ r))) (at + 12) l3)
          ∙ take_at z (w4 ++ (w5 ++ r)) 20 refl;
      free = ap (λ xs. word xs (at + 32)) (regroup4 old w1 w2 w3 z (w4 ++ (w5 ++ r))) ∙ word-behind a4 _ (at + 32) (size - 32) l4 (omega arith);
      next = ap (λ xs. word xs (at + 32 + 4)) (regroup5 old w1 w2 w3 z w4 (w5 ++ r)) ∙ word-behind a5 _ (at + 32 + 4) link l5 m;
    }
  where
    regroup2 : (a b c r : List ℕ) → a ++ (b ++ (c ++ r)) ≡ ((a ++ b) ++ c) ++ r
    regroup2 a b c r = simp append_assoc

    regroup3 : (a b c d r : List ℕ) → a ++ (b ++ (c ++ (d ++ r))) ≡ (((a ++ b) ++ c) ++ d) ++ r
    regroup3 a b c d r = simp append_assoc

    regroup4 : (a b c d z r : List ℕ) → a ++ (b ++ (c ++ (d ++ (z ++ r)))) ≡ ((((a ++ b) ++ c) ++ d) ++ z) ++ r
    regroup4 a b c d z r = simp append_assoc

    regroup5 : (a b c d z e r : List ℕ) → a ++ (b ++ (c ++ (d ++ (z ++ (e ++ r))))) ≡ (((((a ++ b) ++ c) ++ d) ++ z) ++ e) ++ r
    regroup5 a b c d z e r = simp append_assoc

pub length-new_bin : (at size link : ℕ) → 40 ≤ size → length (new_bin at size link) ≡ size
length-new_bin at size link l = omega (arith, length-replicate {A = ℕ} (size - 40) 0)

pub length-headed : (at size : ℕ) (xs : List ℕ) → at + 12 ≤ length xs → length (headed at size xs) ≡ length xs
length-headed at size xs l =
    let a = length-splice at (little_bytes 4 1852400232) xs (omega arith) in
    let b = length-splice (at + 4) (little_bytes 4 at) (splice at (little_bytes 4 1852400232) xs) (omega arith) in
    length-splice (at + 8) (little_bytes 4 size) _ (omega arith) ∙ b ∙ a
