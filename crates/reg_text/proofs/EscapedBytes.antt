-- A byte of a name as it is told.
use Rattle.std.proofs.Common.{◌≡◌, ℕ, ◌<◌, true, false, List, [], ◌∷◌, ◌++◌, ◌/◌, ◌%◌, refl, sym, ap, ◌∙◌, arith, tests, rules}
use Rattle.std.specs.Prelude.{encode_utf8, is_ok, Result, Ok, Err, OnOk, if◌then◌else◌}
use Rattle.std.specs.Fmt.{digit_glyph}
use Rattle.reg_text.specs.Texts.{is_plain, byte_text}

plain_below : (b : ℕ) → is_plain b ≡ true → b < 128
plain_below b plain = search (rules, tests)

plain_is : (b : ℕ) → is_plain b ≡ true → byte_text b ≡ b ∷ []
unfolding byte_text
plain_is b plain = rw plain refl

-- a byte that stands for itself was written
pub plain_written : {E : Type 0} (result : Result (Unit {0}) E) (old new : List ℕ) (b c : ℕ) → is_plain b ≡ true → c ≡ b →
    new ≡ (if is_ok result then old ++ encode_utf8 c else old)
    → (c < 128 → encode_utf8 c ≡ c ∷ []) → OnOk result (new ≡ old ++ byte_text b)
plain_written (Ok done) old new b c plain same push ascii =
    let below : c < 128 = omega (arith, same, plain_below b plain) in
    push ∙ ap (λ (w : List ℕ). old ++ w) (ascii below ∙ (ap (λ (x : ℕ). x ∷ []) same ∙ sym (plain_is b plain)))
plain_written (Err e) old new b c plain same push ascii = tt

-- another byte
pub escape_is : (b : ℕ) → is_plain b ≡ false → byte_text b ≡ 37 ∷ digit_glyph true (b / 16) ∷ digit_glyph true (b % 16) ∷ []
unfolding byte_text
escape_is b other = rw other refl
