-- A piece written over, and what stays.
use Rattle.std.proofs.Common.{◌≡◌, ℕ, ◌+◌, ◌-◌, ◌*◌, ◌<◌, ◌≤◌, List, [], ◌++◌, length, get_or, take, drop, refl, sym, ap, ◌∙◌, arith, rules, add-zero, length-drop}
use Rattle.std.proofs.lemmas.List.{places, length-take-le, drop-drop, drop_all, append-nil, drop_at, get_or-drop}
use Rattle.std.proofs.lemmas.Grind.{common_steps}
use borrow.Rule.Slice.PartMut.{put_mid}
use Rattle.byteorder.specs.Endian.{little_bytes}
use Rattle.byteorder.specs.Numbers.{little_number-reads_back}
use Rattle.reg_heap.specs.ByteWords.{word, splice, SameOutside}

-- what byteorder's write to the rest of a slice leaves
pub put_tail : (at n : ℕ) (piece xs : List ℕ) → length piece ≡ n → put_mid at (length xs - at) xs (piece ++ drop n (drop at xs)) ≡ splice at piece xs
unfolding splice
put_tail at n piece xs h =
    let e : drop (length xs - at) (drop at xs) ≡ [] = drop_all (length xs - at) (drop at xs) (rw length-drop (omega arith)) in
    let f : drop n (drop at xs) ≡ drop (at + length piece) xs = drop-drop n at xs ∙ ap (λ k. drop (at + k) xs) (sym h) in
    rw (e, f) (ap (λ t. take at xs ++ t) (append-nil _))

pub length-splice : (at : ℕ) (piece xs : List ℕ) → at + length piece ≤ length xs → length (splice at piece xs) ≡ length xs
unfolding splice
length-splice at piece xs h = grind (arith, common_steps)

pub get_or-splice_below : (at : ℕ) (piece xs : List ℕ) (k : ℕ) → at ≤ length xs → k < at → get_or (splice at piece xs) k 0 ≡ get_or xs k 0
unfolding splice
get_or-splice_below at piece xs k h l = search (rules, places)

pub get_or-splice_above : (at : ℕ) (piece xs : List ℕ) (k : ℕ) → at + length piece ≤ length xs → at + length piece ≤ k → get_or (splice at piece xs) k 0 ≡ get_or xs k 0
unfolding splice
get_or-splice_above at piece xs k h l = search (rules, places)

pub get_or-splice_in : (at : ℕ) (piece xs : List ℕ) (k : ℕ) → at ≤ length xs → k < length piece → get_or (splice at piece xs) (at + k) 0 ≡ get_or piece k 0
unfolding splice
get_or-splice_in at piece xs k h l = search (rules, places)

pub drop-splice : (at : ℕ) (piece xs : List ℕ) → at ≤ length xs → drop at (splice at piece xs) ≡ piece ++ drop (at + length piece) xs
unfolding splice
drop-splice at piece xs h = drop_at _ _ _ (length-take-le at xs h)

pub same-splice : (at lo hi : ℕ) (piece xs : List ℕ) → lo ≤ at → at + length piece ≤ hi → hi ≤ length xs → SameOutside lo hi xs (splice at piece xs)
same-splice at lo hi piece xs a b c = record {
  long = length-splice at piece xs (omega arith);
  below = λ k l. get_or-splice_below at piece xs k (omega arith) (omega arith);
  above = λ k l. get_or-splice_above at piece xs k (omega arith) (omega arith);
}

pub same-trans : {lo hi : ℕ} {xs ys zs : List ℕ} → SameOutside lo hi xs ys → SameOutside lo hi ys zs → SameOutside lo hi xs zs
same-trans a b = record {
  long = b.long ∙ a.long;
  below = λ k l. b.below k l ∙ a.below k l;
  above = λ k l. b.above k l ∙ a.above k l;
}

-- a word by its four bytes
pub word-at : (xs : List ℕ) (p : ℕ) → word xs p ≡ get_or xs p 0 + 256 * (get_or xs (p + 1) 0 + 256 * (get_or xs (p + 2) 0 + 256 * get_or xs (p + 3) 0))
unfolding word
word-at xs p =
    rw (get_or-drop p xs 0 0, get_or-drop p xs 1 0, get_or-drop p xs 2 0, get_or-drop p xs 3 0, add-zero p) (omega arith)

pub word-same_below : {lo hi : ℕ} {xs ys : List ℕ} → SameOutside lo hi xs ys → (p : ℕ) → p + 4 ≤ lo → word ys p ≡ word xs p
word-same_below {xs = xs} {ys = ys} s p l =
    rw (word-at xs p, word-at ys p, s.below p (omega arith), s.below (p + 1) (omega arith), s.below (p + 2) (omega arith), s.below (p + 3) (omega arith)) refl

pub word-same_above : {lo hi : ℕ} {xs ys : List ℕ} → SameOutside lo hi xs ys → (p : ℕ) → hi ≤ p → word ys p ≡ word xs p
word-same_above {xs = xs} {ys = ys} s p l =
    rw (word-at xs p, word-at ys p, s.above p (omega arith), s.above (p + 1) (omega arith), s.above (p + 2) (omega arith), s.above (p + 3) (omega arith)) refl

-- a word that was written reads back
pub word-splice : (p n : ℕ) (xs : List ℕ) → p ≤ length xs → n < 4294967296 → word (splice p (little_bytes 4 n) xs) p ≡ n
unfolding word
word-splice p n xs h l =
    rw (drop-splice p (little_bytes 4 n) xs h) (little_number-reads_back 4 n (drop (p + 4) xs) (omega arith))
