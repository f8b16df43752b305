-- Words read one after another.
use Rattle.std.proofs.Common.{◌≡◌, ℕ, List, [], ◌∷◌, Option, Some, None, refl, ap, ◌≢◌, ◌∙◌}
use Rattle.std.specs.Prelude.{option_map}
use Rattle.reg_model.specs.declared.call.Call.TheVariants.{Change}
use Rattle.reg_model.specs.declared.call.Change.TheVariants.{CreateKey}
use Rattle.reg_script.specs.declared.line.Verb.TheVariants.{Create}
use Rattle.reg_script.specs.LineWords.{name_of, data_of}
use Rattle.reg_script.specs.LineMeanings.{first_of, ending, small_number_of, long_number_of, given_of, by_verb, asks}

-- a word of that form
pub is_first : {A : Type 0} (word : List ℕ → Option A) (old rest : List (List ℕ)) (w : List ℕ) (a : A) → old ≡ w ∷ rest →
    word w ≡ Some a → first_of word old ≡ Some (a, rest)
unfolding first_of
is_first word old rest w a e h = rw (e, h) refl

-- a word of another form
pub not_first : {A : Type 0} (word : List ℕ → Option A) (old rest : List (List ℕ)) (w : List ℕ) → old ≡ w ∷ rest → word w ≡ None →
    first_of word old ≡ None
unfolding first_of
not_first word old rest w e h = rw (e, h) refl

-- no word
pub none_first : {A : Type 0} (word : List ℕ → Option A) (old : List (List ℕ)) → old ≡ [] → first_of word old ≡ None
unfolding first_of
none_first word old e = rw e refl

pub ruleset readings = (is_first, not_first, none_first)

-- ---- the end of the words

pub ends : {B : Type 0} (b : B) (words : List (List ℕ)) → words ≡ [] → ending b words ≡ Some b
unfolding ending
ends b words e = rw e refl

pub ends_not : {B : Type 0} (b : B) (words : List (List ℕ)) → words ≢ [] → ending b words ≡ None
unfolding ending
ends_not b [] not_end = absurd (not_end refl)
ends_not b (w ∷ ws) not_end = refl

-- ---- the descriptor of a key to be made

-- no word is left
pub given_none : (words : List (List ℕ)) → words ≡ [] → given_of words ≡ ending None words
unfolding given_of ending
given_none words e = rw e refl

-- what the first word gives, if no other is behind it
abbrev alone : Option (List ℕ × List (List ℕ)) → Option (Option (List ℕ))
alone None = None
alone (Some read) = ending (Some read.0) read.1

given_is : (word : List ℕ) (words : List (List ℕ)) → given_of (word ∷ words) ≡ alone (first_of data_of (word ∷ words))
unfolding given_of ending first_of
given_is word [] = by (data_of word)
  where
    by : (read : Option (List ℕ)) → option_map Some read ≡ alone (option_map {U = List ℕ × List (List ℕ)} (λ a. (a, [])) read)
    by None = refl
    by (Some bytes) = refl
given_is word (other ∷ words) = by (data_of word)
  where
    by : (read : Option (List ℕ)) → None ≡ alone (option_map {U = List ℕ × List (List ℕ)} (λ a. (a, other ∷ words)) read)
    by None = refl
    by (Some bytes) = refl

-- a DATA word, and whatever is behind it
pub given_some : (words rest : List (List ℕ)) (descriptor : List ℕ) → first_of data_of words ≡ Some (descriptor, rest) →
    given_of words ≡ ending (Some descriptor) rest
unfolding first_of
given_some [] rest descriptor e = absurd cc
given_some (w ∷ ws) rest descriptor e = given_is w ws ∙ ap alone e

-- a word of another form
pub given_not : (words : List (List ℕ)) → words ≢ [] → first_of data_of words ≡ None → given_of words ≡ None
given_not [] some e = absurd (some refl)
given_not (w ∷ ws) some e = given_is w ws ∙ ap alone e

-- it means something if no more is left than these words
given_means : {A B : Type 0} (f : A → B) (a : A) (given : Option A) (rest : List (List ℕ)) → given ≡ ending a rest →
    option_map f given ≡ ending (f a) rest
unfolding ending
given_means f a given [] e = rw e refl
given_means f a given (w ∷ ws) e = rw e refl

pub create_means : (old first second third rest : List (List ℕ)) (handle mask : ℕ) (path : List ℕ) (given : Option (List ℕ)) →
    first_of long_number_of old ≡ Some (handle, first)
    → first_of name_of first ≡ Some (path, second) → first_of small_number_of second ≡ Some (mask, third) →
    given_of third ≡ ending given rest
    → by_verb Create old ≡ ending (asks (Change (CreateKey handle path mask given))) rest
unfolding by_verb
create_means old first second third rest handle mask path given a b c d =
    rw (a, b, c) (given_means (λ g. asks (Change (CreateKey handle path mask g))) given _ rest d)

pub ruleset descriptors = (given_none, given_some, given_not)
