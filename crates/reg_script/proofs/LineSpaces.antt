-- A line's first word and what follows it.
use Rattle.std.proofs.Common.{◌≡◌, ℕ, ◌+◌, ◌-◌, ◌<◌, ◌≤◌, ◌==◌, Bool, false, cond, nat_lt, List, [], ◌∷◌, length, take, drop, Some, None, ap, arith}
use Rattle.std.specs.List.{position, position_or_len}
use Rattle.std.proofs.lemmas.Bool.Decides.{nat_tests}
use Rattle.std.proofs.lemmas.List.Elements.{All-from_get_or}
use Rattle.std.proofs.lemmas.List.Splits.{slice_split_first, slice_split_none, length-slice_split}
use Rattle.std.proofs.lemmas.List.Sums.{fails_before_first}
use Rattle.reg_script.specs.LineWords.{words_of}
use Rattle.reg_text.proofs.AppendedBytes.{rest_is}

abbrev is_space : ℕ → Bool
is_space b = b == 32

index_is : (p n index : ℕ) → cond (nat_lt p n) (Some p) None ≡ Some index → (index ≡ p) × (p < n)
index_is p n index e = grind (arith, nat_tests)

no_index : (p n : ℕ) → cond (nat_lt p n) (Some p) None ≡ None → n ≤ p
no_index p n e = grind (arith, nat_tests)

pub words_first : (line : List ℕ) (index : ℕ) → position is_space line ≡ Some index
    → words_of line ≡ take index line ∷ words_of (take (length line - (index + 1)) (drop (index + 1) line))
unfolding words_of
words_first line index e =
    let found = index_is (position_or_len is_space line) (length line) index e in
    rw (rest_is (index + 1) line, found.0) (slice_split_first is_space line 0 found.1)

pub words_one : (line : List ℕ) → position is_space line ≡ None → words_of line ≡ line ∷ []
unfolding words_of
words_one line e =
    let past = no_index (position_or_len is_space line) (length line) e in
    slice_split_none is_space line
    (All-from_get_or (λ x. is_space x ≡ false) line 0 (λ i below. fails_before_first is_space line i 0 (omega (arith, past, below))))

-- every line has a word, an empty one too
pub words_some : (line : List ℕ) → words_of line ≡ [] → ⊥
unfolding words_of
words_some line e =
    let long = length-slice_split is_space line in
    omega (arith, long, ap (λ (w : List (List ℕ)). length w) e)
