-- What a line means, by its first byte and its words.
use Rattle.std.proofs.Common.{◌≡◌, ℕ, ◌<◌, eqb, false, List, [], ◌∷◌, length, get_or, Option, refl, arith, ap, unwrap_or}
use Rattle.reg_script.specs.LineWords.{words_of}
use Rattle.reg_script.specs.LineMeanings.{Meaning, nothing, bad, within, meaning_in, reading, verb_of, by_verb}

pub empty_line : (hives : ℕ) (line : List ℕ) → length line ≡ 0 → nothing ≡ meaning_in hives line
unfolding meaning_in
empty_line hives [] e = refl
empty_line hives (b ∷ bs) e = absurd (omega arith)

pub comment : (hives : ℕ) (line : List ℕ) → 0 < length line → get_or line 0 0 ≡ 35 → nothing ≡ meaning_in hives line
unfolding meaning_in
comment hives [] some e = absurd (omega arith)
comment hives (b ∷ bs) some e = rw e refl

-- a line of words
pub worded : (hives : ℕ) (line : List ℕ) (found : Option Meaning) → 0 < length line → eqb (get_or line 0 0) 35 ≡ false →
    reading verb_of by_verb (words_of line) ≡ found → meaning_in hives line ≡ within hives (unwrap_or found bad)
unfolding meaning_in
worded hives [] found some other e = absurd (omega arith)
worded hives (b ∷ bs) found some other e = rw other (ap (λ (o : Option Meaning). within hives (unwrap_or o bad)) e)
