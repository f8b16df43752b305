-- A piece of bytes in the middle of others: what is read of it, and what a change of it makes.
use Rattle.std.proofs.Common.{◌≡◌, ℕ, ◌+◌, ◌-◌, ◌*◌, ◌≤◌, ◌<◌, List, [], ◌∷◌, ◌++◌, length, get_or, take, drop, refl, sym, ap, ◌∙◌, arith, add-zero, append_assoc, length-append, length-drop}
use Rattle.std.proofs.lemmas.List.{length-take-le, drop-drop, take_at, drop-append-le, take-append-le, take-append-drop, take-take, get_or-take, get_or-drop, nil_from_length}
use Rattle.std.proofs.Math.Seq.{take-append-add, drop-append-add}
use Rattle.std.proofs.lemmas.Grind.{common_steps}
use Rattle.reg_heap.specs.ByteWords.{splice, word}
use Rattle.byteorder.specs.Endian.{little_number}

-- what stands behind a front, and as much as a front and more
pub drop-behind : (front rest : List ℕ) (at : ℕ) → length front ≤ at → drop at (front ++ rest) ≡ drop (at - length front) rest
drop-behind front rest at h =
    let e : at ≡ length front + (at - length front) = omega arith in
    ap (λ k. drop k (front ++ rest)) e ∙ drop-append-add front rest (at - length front)

pub take-behind : (front rest : List ℕ) (at : ℕ) → length front ≤ at → take at (front ++ rest) ≡ front ++ take (at - length front) rest
take-behind front rest at h =
    let e : at ≡ length front + (at - length front) = omega arith in
    ap (λ k. take k (front ++ rest)) e ∙ take-append-add front rest (at - length front)

-- bytes read from a place in the piece on, as many as it has
pub take-middle : (front piece behind : List ℕ) (at n : ℕ) → length front ≤ at → at - length front + n ≤ length piece
    → take n (drop at (front ++ (piece ++ behind))) ≡ take n (drop (at - length front) piece)
take-middle front piece behind at n h l =
    ap (take n) (drop-behind front (piece ++ behind) at h ∙ drop-append-le (at - length front) piece behind (omega arith))
    ∙ take-append-le n (drop (at - length front) piece) behind (rw length-drop (omega arith))

-- some bytes of the piece written over
pub splice-middle : (front piece behind bytes : List ℕ) (at : ℕ) → length front ≤ at → at - length front + length bytes ≤ length piece
    → front ++ (splice (at - length front) bytes piece ++ behind) ≡ splice at bytes (front ++ (piece ++ behind))
unfolding splice
splice-middle front piece behind bytes at h l =
    let first : take at (front ++ (piece ++ behind)) ≡ front ++ take (at - length front) piece =
    take-behind front (piece ++ behind) at h ∙ ap (λ t. front ++ t) (take-append-le (at - length front) piece behind (omega arith)) in
    let last : drop (at + length bytes) (front ++ (piece ++ behind)) ≡ drop (at - length front + length bytes) piece ++ behind =
    drop-behind front (piece ++ behind) (at + length bytes) (omega arith)
    ∙ ap (λ k. drop k (piece ++ behind)) (omega arith)
    ∙ drop-append-le (at - length front + length bytes) piece behind l in
    rw (first, last) (simp append_assoc)

-- no bytes written over
pub splice-none : (at : ℕ) (piece bytes : List ℕ) → length piece ≡ 0 → bytes ≡ splice at piece bytes
unfolding splice
splice-none at piece bytes h =
    let e : piece ≡ [] = nil_from_length piece h in
    let k : at + 0 ≡ at = omega arith in
    rw (e, k) (sym (take-append-drop at bytes))

-- the length stays
pub length-splice : (at : ℕ) (piece bytes : List ℕ) → at + length piece ≤ length bytes → length (splice at piece bytes) ≡ length bytes
unfolding splice
length-splice at piece bytes h = grind (arith, common_steps)

-- a word by its four bytes
pub word-at : (bytes : List ℕ) (at : ℕ) → word bytes at ≡ get_or bytes at 0 + 256 * (get_or bytes (at + 1) 0 + 256 * (get_or bytes (at + 2) 0 + 256 * get_or bytes (at + 3) 0))
unfolding word
word-at bytes at =
    rw (get_or-drop at bytes 0 0, get_or-drop at bytes 1 0, get_or-drop at bytes 2 0, get_or-drop at bytes 3 0, add-zero at) (omega arith)

pub word-of : (bytes : List ℕ) (at n a b c d : ℕ) → n ≡ a + b * 256 + c * 65536 + d * 16777216
    → a ≡ get_or bytes at 0 → b ≡ get_or bytes (at + 1) 0 → c ≡ get_or bytes (at + 2) 0 → d ≡ get_or bytes (at + 3) 0 → n ≡ word bytes at
word-of bytes at n a b c d e p q r s = omega (arith, word-at bytes at)

same-at : (n k : ℕ) (xs ys : List ℕ) → take n xs ≡ take n ys → k < n → get_or xs k 0 ≡ get_or ys k 0
same-at n k xs ys e h = sym (get_or-take n xs k 0 h) ∙ ap (λ bytes. get_or bytes k 0) e ∙ get_or-take n ys k 0 h

-- a word read from the rest of a piece
pub word-read : (rest piece bytes : List ℕ) (from at : ℕ) → rest ≡ piece → 4 ≤ length rest - from → take 4 (drop from piece) ≡ take 4 (drop at bytes)
    → little_number 4 (take (length rest - from) (drop from rest)) ≡ word bytes at
unfolding word
word-read rest piece bytes from at e h r =
    let n : ℕ = length rest - from in
    let same : take 4 (take n (drop from rest)) ≡ take 4 (drop at bytes) = take-take 4 n (drop from rest) h ∙ ap (λ xs. take 4 (drop from xs)) e ∙ r in
    let a = same-at 4 0 (take n (drop from rest)) (drop at bytes) same (omega arith) in
    let b = same-at 4 1 (take n (drop from rest)) (drop at bytes) same (omega arith) in
    let c = same-at 4 2 (take n (drop from rest)) (drop at bytes) same (omega arith) in
    let d = same-at 4 3 (take n (drop from rest)) (drop at bytes) same (omega arith) in
    rw (a, b, c, d) refl

-- two pieces written, the second behind the first
pub splice-two : (at : ℕ) (first second bytes : List ℕ) → at + length first + length second ≤ length bytes
    → splice (at + length first) second (splice at first bytes) ≡ splice at (first ++ second) bytes
unfolding splice
splice-two at first second bytes h =
    let front : List ℕ = take at bytes ++ first in
    let rest : List ℕ = drop (at + length first) bytes in
    let long : length front ≡ at + length first = omega (arith, length-append (take at bytes) first, length-take-le at bytes (omega arith)) in
    let all : take at bytes ++ (first ++ rest) ≡ front ++ rest = sym (append_assoc (take at bytes) first rest) in
    let a : take (at + length first) (front ++ rest) ≡ front = take_at front rest (at + length first) long in
    let b : drop (at + length first + length second) (front ++ rest) ≡ drop (at + length (first ++ second)) bytes =
    drop-behind front rest (at + length first + length second) (omega arith)
    ∙ drop-drop (at + length first + length second - length front) (at + length first) bytes
    ∙ ap (λ k. drop k bytes) (omega (arith, long, length-append first second)) in
    rw (all, a, b) (simp append_assoc)

-- four bytes, one by one
pub splice-four : (at a b c d : ℕ) (bytes : List ℕ) → at + 4 ≤ length bytes
    → splice (at + 3) (d ∷ []) (splice (at + 2) (c ∷ []) (splice (at + 1) (b ∷ []) (splice at (a ∷ []) bytes))) ≡ splice at (a ∷ b ∷ c ∷ d ∷ []) bytes
splice-four at a b c d bytes h =
    ap (λ bs. splice (at + 3) (d ∷ []) (splice (at + 2) (c ∷ []) bs)) (splice-two at (a ∷ []) (b ∷ []) bytes (omega arith))
    ∙ ap (splice (at + 3) (d ∷ [])) (splice-two at (a ∷ b ∷ []) (c ∷ []) bytes (omega arith))
    ∙ splice-two at (a ∷ b ∷ c ∷ []) (d ∷ []) bytes (omega arith)

pub four-written : (at a b c d : ℕ) (piece old one two three four : List ℕ) → at + 4 ≤ length old → piece ≡ a ∷ b ∷ c ∷ d ∷ []
    → one ≡ splice at (get_or piece 0 0 ∷ []) old → two ≡ splice (at + 1) (get_or piece 1 0 ∷ []) one → three ≡ splice (at + 2) (get_or piece 2 0 ∷ []) two
    → four ≡ splice (at + 3) (get_or piece 3 0 ∷ []) three → four ≡ splice at (a ∷ b ∷ c ∷ d ∷ []) old
four-written at a b c d piece old one two three four h e p q r s = rw (s, r, q, p, e) (splice-four at a b c d old h)
