-- Bytes of just two digits.
use Rattle.std.proofs.Common.{◌≡◌, ℕ, ◌+◌, ◌*◌, ◌<◌, false, List, [], ◌∷◌, length, get_or}
use Rattle.std.proofs.Common.{Some, sym, ap, ◌∙◌, arith}
use Rattle.std.proofs.lemmas.Bool.Decides.{nat_tests}
use Rattle.hex.specs.Hex.{hex_digit_value}
use Rattle.reg_dotreg_reader.specs.EntryWords.{is_blank, before_blanks, trimmed, number_after, number_of, byte_of}
use Rattle.reg_dotreg_reader.proofs.WordEnds.{behind_is, before_is}
use Rattle.reg_dotreg_reader.proofs.DigitLists.{digit_below}

-- a digit is no blank
no_blank : (d v : ℕ) → hex_digit_value d ≡ Some v → is_blank d ≡ false
no_blank d v is = grind (arith, nat_tests)

-- two digits have no blanks around them
trimmed_two : (a b v w : ℕ) → hex_digit_value a ≡ Some v → hex_digit_value b ≡ Some w → trimmed (a ∷ b ∷ []) ≡ a ∷ b ∷ []
trimmed_two a b v w high low =
    let units = a ∷ b ∷ [] in
    ap before_blanks (sym (behind_is units 0 (omega arith) (λ k below. absurd (omega (arith, below))) (λ below. no_blank a v high)))
    ∙ sym (before_is units 2 (omega arith) (λ k past below. absurd (omega (arith, past, below))) (λ some. no_blank b w low))

two_read : (a b v w : ℕ) → hex_digit_value a ≡ Some v → hex_digit_value b ≡ Some w → number_of 2 (a ∷ b ∷ []) ≡ Some (v * 16 + w)
unfolding number_of number_after
two_read a b v w high low = rw (high, low) (ap (λ (n : ℕ). Some (n * 16 + w)) (omega arith))

pub two_digits : (piece : List ℕ) (v w : ℕ) → length piece ≡ 2 → hex_digit_value (get_or piece 0 0) ≡ Some v → hex_digit_value (get_or piece 1 0) ≡ Some w →
    byte_of piece ≡ Some (v * 16 + w)
two_digits [] v w two high low = absurd (omega (arith, two))
two_digits (a ∷ []) v w two high low = absurd (omega (arith, two))
two_digits (a ∷ b ∷ []) v w two high low = ap (number_of 2) (trimmed_two a b v w high low) ∙ two_read a b v w high low
two_digits (a ∷ b ∷ c ∷ piece) v w two high low = absurd (omega (arith, two))

pub two_fit : (v w d e : ℕ) → hex_digit_value d ≡ Some v → hex_digit_value e ≡ Some w → v * 16 + w < 256
two_fit v w d e high low = let h = digit_below d v high in let l = digit_below e w low in omega (arith, h, l)
