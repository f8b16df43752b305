-- Texts in UTF-16, character by character.
use Rattle.std.proofs.Common.{◌≡◌, ◌∙◌, ℕ, ◌+◌, ◌-◌, ◌/◌, ◌%◌, ◌<◌, ◌≤◌, List, [], ◌∷◌, ◌++◌, sym, ap, arith, append_assoc, append-nil}
use Rattle.std.specs.Prelude.{flat_map}
use Rattle.std.proofs.lemmas.Bool.Decides.{nat_tests}
use Rattle.reg_words.specs.ChangeWords.{unit_bytes, character_bytes}

-- a character of one unit
pub narrow : (c : ℕ) → c < 65536 → character_bytes c ≡ unit_bytes c
narrow c below = grind (arith, nat_tests, below)

-- one of two
pub wide : (c high low : ℕ) → 65536 ≤ c → high ≡ 55296 + (c - 65536) / 1024 → low ≡ 56320 + (c - 65536) % 1024 →
    character_bytes c ≡ unit_bytes high ++ unit_bytes low
wide c high low above e f = grind (arith, nat_tests, above, e, f)

pub one_unit : (c : ℕ) (old new : List ℕ) → c < 65536 → new ≡ old ++ unit_bytes c → new ≡ old ++ character_bytes c
one_unit c old new below e = e ∙ ap (λ (w : List ℕ). old ++ w) (sym (narrow c below))

pub two_units : (c high low : ℕ) (old between new : List ℕ) → 65536 ≤ c → high ≡ 55296 + (c - 65536) / 1024 →
    low ≡ 56320 + (c - 65536) % 1024 → between ≡ old ++ unit_bytes high → new ≡ between ++ unit_bytes low → new ≡ old ++ character_bytes c
two_units c high low old between new above e f first second =
    second ∙ (ap (λ (w : List ℕ). w ++ unit_bytes low) first ∙ (append_assoc old (unit_bytes high) (unit_bytes low)
    ∙ ap (λ (w : List ℕ). old ++ w) (sym (wide c high low above e f))))

-- ---- a text

pub character_more : (bytes new : List ℕ) (c : ℕ) (whole rest later : List ℕ) → bytes ++ flat_map character_bytes rest ≡ whole →
    rest ≡ c ∷ later → new ≡ bytes ++ character_bytes c → new ++ flat_map character_bytes later ≡ whole
character_more bytes new c whole rest later so_far e n =
    ap (λ (w : List ℕ). w ++ flat_map character_bytes later) n
    ∙ (append_assoc bytes (character_bytes c) (flat_map character_bytes later)
    ∙ (ap (λ (w : List ℕ). bytes ++ flat_map character_bytes w) (sym e) ∙ so_far))

pub character_end : (old bytes new all rest end : List ℕ) → bytes ++ flat_map character_bytes rest ≡ old ++ all → rest ≡ [] →
    new ≡ bytes ++ end → new ≡ old ++ (all ++ end)
character_end old bytes new all rest end so_far e n =
    n ∙ (ap (λ (w : List ℕ). w ++ end) (sym (append-nil bytes) ∙ (ap (λ (w : List ℕ). bytes ++ flat_map character_bytes w) (sym e) ∙ so_far))
    ∙ append_assoc old all end)
