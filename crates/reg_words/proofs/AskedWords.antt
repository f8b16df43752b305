-- What `clap`'s matches tell of words and options that were given.
use Rattle.std.proofs.Common.{◌≡◌, ◌∙◌, List, Bool, true, false, codes, sym, refl, ap, subst, bytes_eq}
use Rattle.std.specs.Prelude.{◌↔◌, Option, Some, None, MatchOption, find, option_and_then, option_map, slice_get, unwrap_or}
use Rattle.std.proofs.lemmas.Option.{same_Some}
use Rattle.clap.specs.Words.{Row, Text, all_of, first_of, first_value, matched_of, one_of, raw_values, rows_of}
use Rattle.clap.specs.Values.{read_as}
use Rattle.clap.specs.Walk.{row_text}
use Rattle.clap.specs.declared.parser.matches.Found.{Found}
use Rattle.clap.proofs.WalkLemmas.{first_value-rows, raw_values-rows}
use Rattle.reg_words.specs.StreamLines.{IsGiven, IsSet}
use Rattle.reg_words.specs.Internal.Commands.{IsFound}
use Rattle.reg_words.specs.declared.request.HiveFile.{HiveFile}

-- the first value, as the rows have it
pub first_is : (f : Found) (name : Text) (got : Option Text) → got ≡ first_value f name → first_of name (rows_of f) ≡ got
first_is f name got e = sym (first_value-rows f name) ∙ sym e

-- the flag was given exactly where its text is `true`
pub set_when : (name : Text) (rows : List Row) (text : Text) (b : Bool) → first_of name rows ≡ Some text → (b ≡ true → text ≡ codes "true")
    → (text ≡ codes "true" → b ≡ true) → (b ≡ true → IsSet name rows) × (IsSet name rows → b ≡ true)
set_when name rows text b e f g = (λ t. e ∙ ap Some (f t), λ h. g (same_Some text _ (sym e ∙ h)))

pub unset_when : (name : Text) (rows : List Row) → first_of name rows ≡ None → (false ≡ true → IsSet name rows) × (IsSet name rows → false ≡ true)
unset_when name rows e = (λ bad. cc, λ h. cc)

-- what is there is none
pub none_there : {X : Type 0} (o : Option X) (x : X) → o ≡ None → o ≡ Some x → ⊥
none_there o x e h = let bad : None ≡ Some x = sym e ∙ h in cc

-- something was found, or nothing
pub found_there : {A : Type 0} (P : A → Type 0) (r : Option A) (a : A) → r ≡ Some a → IsFound P r → P a
found_there P r a e h = subst (IsFound P) e h

pub nothing_found : {A : Type 0} (P : A → Type 0) (r : Option A) → r ≡ None → ((a : A) → P a → ⊥) → IsFound P r
nothing_found P r e never = subst (IsFound P) (sym e) never

pub never_found : {A : Type 0} (P : A → Type 0) (r : Option A) → r ≡ None → IsFound P r → (a : A) → P a → ⊥
never_found P r e h = subst (IsFound P) e h

pub looked_at : (P : HiveFile → Type 0) (Q : Type 0) (r : Option HiveFile) (hive : HiveFile) → r ≡ Some hive → MatchOption r Q P → P hive
looked_at P Q r hive e h = subst (λ o. MatchOption o Q P) e h

pub not_looked_at : (P : HiveFile → Type 0) (Q : Type 0) (r : Option HiveFile) → r ≡ None → MatchOption r Q P → Q
not_looked_at P Q r e h = subst (λ o. MatchOption o Q P) e h

-- the text that is given, or the one in its place
pub given_or : {N : Type 0} (f : Found) (word instead : Text) (got : Option N) (now : N → Text) (given other : N) →
    option_map now got ≡ first_value f word →
    given ≡ unwrap_or got other → now other ≡ instead → now given ≡ unwrap_or (first_of word (rows_of f)) instead
given_or {N = N} f word instead got now given other e is o =
    ap now is ∙ (mapped got ∙ ap (λ (t : Option Text). unwrap_or t instead) (sym (first_is f word _ e)))
  where
    mapped : (g : Option N) → now (unwrap_or g other) ≡ unwrap_or (option_map now g) instead
    mapped None = o
    mapped (Some n) = refl

-- the values, as the rows have them
pub all_is : (f : Found) (name : Text) (got : Option (List Text)) → got ≡ option_map raw_values (matched_of f name) → all_of name (rows_of f) ≡ got
all_is f name got e = sym (raw_values-rows f name) ∙ sym e

-- ---- options that were given

given_row : (o : Option Row) (text : Text) → option_and_then (λ (r : Row). slice_get r.values 0) o ≡ Some text →
    (read : Text) × (option_and_then row_text o ≡ Some read)
given_row None text e = cc
given_row (Some r) text e = (read_as r.reading text, ap (option_map (read_as r.reading)) e)

lacking_row : (o : Option Row) → option_and_then (λ (r : Row). slice_get r.values 0) o ≡ None → option_and_then row_text o ≡ None
lacking_row None e = refl
lacking_row (Some r) e = ap (option_map (read_as r.reading)) e

pub given_where : (name : Text) (rows : List Row) (text : Text) → first_of name rows ≡ Some text → (true ≡ true) ↔ IsGiven name rows
given_where name rows text e = (λ set. given_row (find (λ r. bytes_eq r.id name) rows) text e, λ given. refl)

pub lacking_where : (name : Text) (rows : List Row) → first_of name rows ≡ None → (false ≡ true) ↔ IsGiven name rows
lacking_where name rows e = (
  λ bad. cc,
  λ given. let bad : None ≡ Some given.0 = sym (lacking_row (find (λ r. bytes_eq r.id name) rows) e) ∙ given.1 in cc,
)

-- what a test of an option tells
pub not_given : (name : Text) (rows : List Row) (test : Bool) → test ≡ false → (test ≡ true) ↔ IsGiven name rows → one_of name rows ≡ None
not_given name rows test off is = go (one_of name rows) refl
  where
    go : (o : Option Text) → one_of name rows ≡ o → one_of name rows ≡ None
    go None e = e
    go (Some text) e = let bad : true ≡ false = sym (is.1 (text, e)) ∙ off in cc

pub none_given : (name : Text) (rows : List Row) → IsGiven name rows → one_of name rows ≡ None → ⊥
none_given name rows given none = let bad : None ≡ Some given.0 = sym none ∙ given.1 in cc
