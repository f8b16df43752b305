-- Bytes appended in two pieces.
use Rattle.std.proofs.Common.{arith, length, length-drop, ◌-◌, ◌≤◌, ◌<◌, ◌≡◌, ℕ, ◌+◌, List, ◌++◌, Option, Some, None, take, drop, sym, ap, ◌∙◌, append_assoc}
use Rattle.std.proofs.Math.Seq.{take-add}
use Rattle.std.proofs.lemmas.List.{take_all}
use Rattle.std.specs.Io.KnownBytes.{Appends}

-- the first i bytes were appended, and then the next n
pub Appends-more : (old mid new : Option (List ℕ)) (bytes : List ℕ) (i n : ℕ) → Appends old mid (take i bytes) →
    Appends mid new (take n (drop i bytes)) → Appends old new (take (i + n) bytes)
Appends-more None mid new bytes i n a b = tt
Appends-more (Some xs) None new bytes i n a b = absurd a
Appends-more (Some xs) (Some ys) None bytes i n a b = absurd b
Appends-more (Some xs) (Some ys) (Some zs) bytes i n a b =
    b ∙ (ap (λ (w : List ℕ). w ++ take n (drop i bytes)) a ∙
    (append_assoc xs (take i bytes) (take n (drop i bytes)) ∙ ap (λ (w : List ℕ). xs ++ w) (sym (take-add i n bytes))))

-- the rest of a list, as a slice from an index to the end
pub rest_is : (i : ℕ) (bytes : List ℕ) → take (length bytes - i) (drop i bytes) ≡ drop i bytes
rest_is i bytes = take_all (length bytes - i) (drop i bytes) (omega (arith, length-drop i bytes))

pub rest_fits : (i n : ℕ) (bytes : List ℕ) → i < length bytes → n ≤ length (take (length bytes - i) (drop i bytes)) → i + n ≤ length bytes
rest_fits i n bytes l f = omega (arith, f, ap (λ (w : List ℕ). length w) (rest_is i bytes), length-drop i bytes)
