-- Numbers that options give: moments, hives.
use Rattle.std.proofs.Common.{◌≡◌, ◌∙◌, ◌<◌, ◌≤◌, List, ℕ, codes, sym, refl, arith, subst}
use Rattle.std.specs.Prelude.{Option, Some, None, Result, Ok, Err}
use Rattle.std.specs.Str.Parse.{IsNumeral, digits_value, without_leading_plus}
use Rattle.std.proofs.lemmas.Option.{same_Some}
use Rattle.std.specs.Str.Parse.{ParsesUnsigned}
use Rattle.clap.specs.Words.{Row, Text, TriesOne, one_of, one_text, rows_of}
use Rattle.clap.specs.declared.parser.matches.Found.{Found}
use Rattle.clap.proofs.WalkLemmas.{one_text-rows}
use Rattle.reg_words.specs.StreamLines.{IsSet, IsHiveCount, IsNumber}
use Rattle.reg_words.specs.CommandLines.{AsksToBegin}
use Rattle.reg_words.specs.Moments.{IsMoment}
use Rattle.reg_words.specs.declared.request.Begin.{Begin}
use Rattle.reg_words.specs.declared.request.Begin.TheVariants.{Now, At}

-- ---- a number that an option gives

-- a text writes this number of 8 bits in decimal digits
pub record IsByte (text : List ℕ) (number : ℕ) : Type 0 where
  pub numeral : IsNumeral 10 (without_leading_plus text)
  pub small : digits_value 10 (without_leading_plus text) < 256
  pub value : number ≡ digits_value 10 (without_leading_plus text)

-- what a text reads as: a number that it writes, or an error where it writes none
abbrev pub Reads : (Is : Text → ℕ → Type 0) (E : Type 0) → Text → Result ℕ E → Type 0
Reads Is E text (Ok number) = Is text number
Reads Is E text (Err e) = (number : ℕ) → Is text number → ⊥

pub moment_read : (E : Type 0) (text : Text) (r : Result ℕ E) → ParsesUnsigned 64 10 text r → Reads IsMoment E text r
moment_read E text (Ok number) p = record { numeral = p.0.0; small = p.0.1; value = p.1 }
moment_read E text (Err e) p = λ number is. p (is.numeral, is.small)

pub number_read : (E : Type 0) (text : Text) (r : Result ℕ E) → ParsesUnsigned 32 10 text r → Reads IsNumber E text r
number_read E text (Ok number) p = record { numeral = p.0.0; small = p.0.1; value = p.1 }
number_read E text (Err e) p = λ number is. p (is.numeral, is.small)

module _ (name : Text) (Is : Text → ℕ → Type 0) (E : Type 0) (rows : List Row) where
  -- what the reading of an option makes of it
  abbrev pub IsAsked : Result (Option ℕ) E → Type 0
  IsAsked (Ok None) = one_of name rows ≡ None
  IsAsked (Ok (Some number)) = (text : Text) × (one_of name rows ≡ Some text) × Is text number
  IsAsked (Err e) = (text : Text) × (one_of name rows ≡ Some text) × ((number : ℕ) → Is text number → ⊥)

  without_text : (r : Result (Option ℕ) E) → one_of name rows ≡ None → r ≡ Ok None → IsAsked r
  without_text r none e = subst IsAsked (sym e) none

  with_text : (G : List ℕ → Result ℕ E → Type 0) (t : Text) (r : Result (Option ℕ) E) →
      ((u : List ℕ) (x : Result ℕ E) → G u x → Reads Is E u x) → one_of name rows ≡ Some t → TriesOne G t r → IsAsked r
  with_text G t (Ok None) only some h = absurd h
  with_text G t (Ok (Some n)) only some h = (t, some, only t (Ok n) h)
  with_text G t (Err e) only some h = (t, some, only t (Err e) h)

  -- a match has told the variant
  pub asked_at : (r x : Result (Option ℕ) E) → r ≡ x → IsAsked r → IsAsked x
  asked_at r x e h = subst IsAsked e h

pub option_asked : (name : Text) (Is : Text → ℕ → Type 0) (E : Type 0) (G : List ℕ → Result ℕ E → Type 0) (f : Found) (r : Result (Option ℕ) E) →
    ((u : List ℕ) (x : Result ℕ E) → G u x → Reads Is E u x) → (one_text f name ≡ None → r ≡ Ok None)
    → ((t : List ℕ) → one_text f name ≡ Some t → TriesOne G t r) → IsAsked name Is E (rows_of f) r
option_asked name Is E G f r only none some = go (one_text f name) refl
  where
    go : (o : Option Text) → one_text f name ≡ o → IsAsked name Is E (rows_of f) r
    go None e = without_text name Is E (rows_of f) r (sym (one_text-rows f name) ∙ e) (none e)
    go (Some t) e = with_text name Is E (rows_of f) G t r only (sym (one_text-rows f name) ∙ e) (some t e)

-- ---- none of the beginnings

-- the flag and a moment
pub two_moments : (rows : List Row) (text : Text) → IsSet (codes "now") rows → one_of (codes "at") rows ≡ Some text → (begin : Begin) →
    AsksToBegin rows begin → ⊥
two_moments rows text set some Now h = let bad : None ≡ Some text = sym h ∙ some in cc
two_moments rows text set some (At moment) h = h.0 set

-- a text that is no moment
pub no_moment : (rows : List Row) (text : Text) → one_of (codes "at") rows ≡ Some text → ((moment : ℕ) → IsMoment text moment → ⊥) →
    (begin : Begin) → AsksToBegin rows begin → ⊥
no_moment rows text some never Now h = let bad : None ≡ Some text = sym h ∙ some in cc
no_moment rows text some never (At moment) h =
    never moment (subst (λ (u : Text). IsMoment u moment) (same_Some h.1.0 text (sym h.1.1 ∙ some)) h.1.2)

-- ---- a number of hives that an option gives

pub count_read : (E : Type 0) (text : Text) (r : Result ℕ E) → ParsesUnsigned 8 10 text r → Reads IsByte E text r
count_read E text (Ok number) p = record { numeral = p.0.0; small = p.0.1; value = p.1 }
count_read E text (Err e) p = λ number is. p (is.numeral, is.small)

-- a number that is none from 1 to 16
pub outside : (text : Text) (number : ℕ) → IsByte text number → (1 ≤ number → number ≤ 16 → ⊥) → (other : ℕ) → IsHiveCount text other → ⊥
outside text number byte out other is =
    out (rw (byte.value, ← is.value) is.some) (rw (byte.value, ← is.value) is.few)

pub inside : (text : Text) (number count : ℕ) → IsByte text number → count ≡ number → 1 ≤ count → count ≤ 16 → IsHiveCount text count
inside text number count byte same some few = record { numeral = byte.numeral; value = same ∙ byte.value; some = some; few = few }

-- a text that is no byte
pub no_byte : (text : Text) → ((number : ℕ) → IsByte text number → ⊥) → (number : ℕ) → IsHiveCount text number → ⊥
no_byte text never number is = never number (record {
  numeral = is.numeral;
  small = let few = is.few in let value = is.value in omega (arith, few, value);
  value = is.value;
})
