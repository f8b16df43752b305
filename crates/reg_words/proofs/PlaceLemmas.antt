-- Places read part by part.
use Rattle.std.proofs.Common.{◌≡◌, ℕ, ◌+◌, ◌<◌, ◌≤◌, ◌==◌, Bool, true, false, List, [], ◌∷◌, length, take, drop, refl, sym, ap, subst, ◌∙◌, cond, not}
use Rattle.std.proofs.Common.{arith, suc}
use Rattle.std.specs.Prelude.{Option, Some, None, MatchOption, if◌then◌else◌, nat_lt, ◌||◌}
use Rattle.std.proofs.lemmas.Bool.Decides.{nat_tests}
use Rattle.std.specs.List.{position, position_or_len}
use Rattle.std.specs.Option.{option_map, option_and_then}
use Rattle.reg_words.specs.PlaceLists.{with_letter, parts_of, both, place_of, places_of, places_in}
use Rattle.reg_words.specs.declared.request.Places.{Places}

abbrev pub is_comma : ℕ → Bool
is_comma letter = letter == 44

-- ---- the first comma

record Cut (text : List ℕ) (parts : List (List ℕ)) (at : ℕ) : Type 0 where
  there : at < length text → parts ≡ take at text ∷ parts_of (drop (at + 1) text)
  none : length text ≤ at → parts ≡ text ∷ []

take-behind : (letter : ℕ) (letters : List ℕ) (at : ℕ) → take (1 + at) (letter ∷ letters) ≡ letter ∷ take at letters
take-behind letter letters at = let e : 1 + at ≡ suc at = omega arith in rw e refl

drop-behind : (letter : ℕ) (letters : List ℕ) (at : ℕ) → drop (1 + at + 1) (letter ∷ letters) ≡ drop (at + 1) letters
drop-behind letter letters at = let e : 1 + at + 1 ≡ suc (at + 1) = omega arith in rw e refl

behind : (letter : ℕ) (letters : List ℕ) (at : ℕ) → Cut letters (parts_of letters) at →
    Cut (letter ∷ letters) (with_letter letter (parts_of letters)) (1 + at)
behind letter letters at c = record {
  there = λ h.
      let e = c.there (omega arith) in
      ap (with_letter letter) e ∙ rw (take-behind letter letters at, drop-behind letter letters at) refl;
  none = λ h. ap (with_letter letter) (c.none (omega arith));
}

abbrev parts_by : Bool → ℕ → List ℕ → List (List ℕ)
parts_by is letter letters = if is then [] ∷ parts_of letters else with_letter letter (parts_of letters)

abbrev place_by : Bool → List ℕ → ℕ
place_by is letters = cond (not is) (1 + position_or_len is_comma letters) 0

cut_at : (letter : ℕ) (letters : List ℕ) (is : Bool) → Cut letters (parts_of letters) (position_or_len is_comma letters) →
    Cut (letter ∷ letters) (parts_by is letter letters) (place_by is letters)
cut_at letter letters true c = record { there = λ h. refl; none = λ h. absurd (omega arith) }
cut_at letter letters false c = behind letter letters (position_or_len is_comma letters) c

cut : (text : List ℕ) → Cut text (parts_of text) (position_or_len is_comma text)
cut [] = record { there = λ h. absurd (omega arith); none = λ h. refl }
cut (letter ∷ letters) = cut_at letter letters (is_comma letter) (cut letters)

-- where it stands, as it is looked for
abbrev IsCutAt : List ℕ → Option ℕ → Type 0
IsCutAt text at =
    MatchOption at (parts_of text ≡ text ∷ []) (λ at. (at < length text) × (parts_of text ≡ take at text ∷ parts_of (drop (at + 1) text)))

by_place : (text : List ℕ) (at : ℕ) (is : Bool) → nat_lt at (length text) ≡ is → Cut text (parts_of text) at → IsCutAt text (cond is (Some at) None)
by_place text at true e c = let h : at < length text = grind (arith, nat_tests) in (h, c.there h)
by_place text at false e c = let h : length text ≤ at = grind (arith, nat_tests) in c.none h

pub cut_where : (text : List ℕ) (at : Option ℕ) → at ≡ position is_comma text → IsCutAt text at
cut_where text at e =
    subst (IsCutAt text) (sym e)
    (by_place text (position_or_len is_comma text) (nat_lt (position_or_len is_comma text) (length text)) refl (cut text))

-- ---- places gathered from the front

-- those so far, with those of the rest
abbrev pub joined : Places → Option Places → Option Places
joined places rest = option_map (both places) rest

or_more : (a b c : Bool) → (a || (b || c)) ≡ ((a || b) || c)
or_more true b c = refl
or_more false b c = refl

both_more : (a b c : Places) → both a (both b c) ≡ both (both a b) c
both_more a b c =
    rw (
      or_more a.keys b.keys c.keys,
      or_more a.names b.names c.names,
      or_more a.texts b.texts c.texts,
      or_more a.paths b.paths c.paths,
      or_more a.bytes b.bytes c.bytes,
    ) refl

joined_more : (places place : Places) (rest : Option Places) → joined places (joined place rest) ≡ joined (both places place) rest
joined_more places place None = refl
joined_more places place (Some others) = ap (λ (p : Places). Some p) (both_more places place others)

-- a word more was read
pub gathered : (text rest word behind cut : List ℕ) (places place new : Places) (got : Option Places) →
    places_in text ≡ joined places (places_in rest) →
    parts_of rest ≡ word ∷ parts_of behind → got ≡ place_of word → got ≡ Some place → new ≡ both places place → cut ≡ behind →
    places_in text ≡ joined new (places_in cut)
gathered text rest word behind cut places place new got so_far parts read is n e =
    so_far
    ∙ (ap (λ (words : List (List ℕ)). joined places (places_of words)) parts
    ∙ (ap (λ (o : Option Places). joined places (option_and_then (λ p. joined p (places_in behind)) o)) (sym read ∙ is)
    ∙ (joined_more places place (places_in behind)
    ∙ (ap (λ (p : Places). joined p (places_in behind)) (sym n) ∙ ap (λ (x : List ℕ). joined new (places_in x)) (sym e)))))
