-- Pieces of bytes are bytes, and words read of them have 32 bits.
use Rattle.std.proofs.Common.{ℕ, zero, suc, ◌<◌, List, [], ◌∷◌, ◌++◌, take, drop, get_or, arith}
use Rattle.std.specs.List.{AllByRecursion, concat}
use Rattle.std.specs.Int.{byte_at, bytes_low_first}
use Rattle.byteorder.specs.Numbers.{little_from-lt}
use Rattle.reg_heap.specs.ByteWords.{word}
use Rattle.reg_tree.specs.ValueBytes.{AreBytes}

pub bytes-take : (n : ℕ) (xs : List ℕ) → AreBytes xs → AreBytes (take n xs)
bytes-take zero xs a = tt
bytes-take (suc n) [] a = tt
bytes-take (suc n) (x ∷ xs) a = (a.0, bytes-take n xs a.1)

pub bytes-drop : (n : ℕ) (xs : List ℕ) → AreBytes xs → AreBytes (drop n xs)
bytes-drop zero xs a = a
bytes-drop (suc n) [] a = tt
bytes-drop (suc n) (x ∷ xs) a = bytes-drop n xs a.1

pub bytes-append : (xs ys : List ℕ) → AreBytes xs → AreBytes ys → AreBytes (xs ++ ys)
bytes-append [] ys a b = b
bytes-append (x ∷ xs) ys a b = (a.0, bytes-append xs ys a.1 b)

pub bytes-concat : (parts : List (List ℕ)) → AllByRecursion AreBytes parts → AreBytes (concat parts)
bytes-concat [] a = tt
bytes-concat (p ∷ parts) a = bytes-append p (concat parts) a.0 (bytes-concat parts a.1)

-- each number of a list that is looked at by places
pub bytes-each : (xs : List ℕ) → ((k : ℕ) → get_or xs k 0 < 256) → AreBytes xs
bytes-each [] h = tt
bytes-each (x ∷ xs) h = (h 0, bytes-each xs (λ k. h (suc k)))

byte-there : (xs : List ℕ) (k : ℕ) → AreBytes xs → get_or xs k 0 < 256
byte-there [] k a = omega arith
byte-there (x ∷ xs) zero a = a.0
byte-there (x ∷ xs) (suc k) a = byte-there xs k a.1

pub word-small : (xs : List ℕ) (at : ℕ) → AreBytes xs → word xs at < 4294967296
unfolding word
word-small xs at a = little_from-lt 0 4 (drop at xs) (λ k. byte-there (drop at xs) k (bytes-drop at xs a))

-- ---- the bytes of a number

byte-small : (i x : ℕ) → byte_at i x < 256
byte-small zero x = omega arith
byte-small (suc i) x = omega arith

pub bytes-number : (i n x : ℕ) → AreBytes (bytes_low_first i n x)
bytes-number i zero x = tt
bytes-number i (suc n) x = (byte-small i x, bytes-number (suc i) n x)
