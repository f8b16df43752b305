-- Moments read.
use Rattle.std.proofs.Common.{◌≡◌, ◌∙◌, ◌++◌, List, ℕ, ap, codes, false, inl, inr, refl, subst, sym, true}
use Rattle.std.specs.Prelude.{Option, Some, None, Result, Ok, Err, IfOk, is_some, ℤ}
use Rattle.std.proofs.lemmas.Result.{IfOk-weaker}
use Rattle.jiff_core.specs.declared.error.Error.{Error}
use Rattle.jiff.specs.Words.{parse_timestamp}
use Rattle.jiff.specs.declared.timestamp.Timestamp.{Timestamp}
use Rattle.reg_words.specs.Internal.Commands.{IsFound, Tries}
use Rattle.reg_words.specs.Moments.{IsMoment, IsTickOf, TellsMoment, instant_in, or_day}

same_ok : (x y : ℤ) → ◌≡◌ {A = Result ℤ Error} (Ok x) (Ok y) → x ≡ y
same_ok x y e = cc

-- what a reading gave, and what it didn't
gave : (r : Option Timestamp) (instant : Timestamp) (reading : Result ℤ Error) → Tries r reading → r ≡ Some instant →
    reading ≡ Ok instant.nanosecond
gave r instant reading e is = subst (λ (o : Option Timestamp). Tries o reading) is e

gave_none : (r : Option Timestamp) (reading : Result ℤ Error) → Tries r reading → r ≡ None → (e : Error) × (reading ≡ Err e)
gave_none r reading e is = subst (λ (o : Option Timestamp). Tries o reading) is e

is_none : (r : Option Timestamp) → is_some r ≡ false → r ≡ None
is_none None e = refl
is_none (Some n) e = cc

-- the instant that a text tells by itself
pub by_itself : (text : List ℕ) (r : Option Timestamp) → is_some r ≡ true → Tries r (parse_timestamp text) → Tries r (instant_in text)
unfolding instant_in
by_itself text (Some instant) is tried = ap (or_day text) tried
by_itself text None is tried = cc

-- a text that tells none tells the first of a day, if any
of_day : (text : List ℕ) (e : Error) (day : Option Timestamp) → parse_timestamp text ≡ Err e → Tries day (or_day text (Err e)) →
    Tries day (instant_in text)
unfolding instant_in
of_day text e day none tried = subst (λ (r : Result ℤ Error). Tries day (or_day text r)) (sym none) tried

pub by_day : {E : Type 0} (text : List ℕ) (r : Option Timestamp) (day : Result (Option Timestamp) E) → is_some r ≡ false →
    Tries r (parse_timestamp text) → IfOk day (λ instant. Tries instant (parse_timestamp (text ++ codes "T00:00:00Z"))) →
    IfOk day (λ instant. Tries instant (instant_in text))
by_day text r day is tried =
    let none = gave_none r (parse_timestamp text) tried (is_none r is) in
    IfOk-weaker day _ _ (λ instant h. of_day text none.0 instant none.1 h)

-- an instant tells just its unit
pub tells : (text : List ℕ) (read : Option Timestamp) (instant : Timestamp) (r : Option ℕ) → IsFound (IsMoment text) None →
    Tries read (instant_in text) → read ≡ Some instant → IsFound (IsTickOf instant.nanosecond) r → IsFound (TellsMoment text) r
tells text read instant (Some ticks) unnumbered tried is found =
    inr (unnumbered, (instant.nanosecond, gave read instant (instant_in text) tried is, found))
tells text read instant None unnumbered tried is never = λ moment h. either moment h
  where
    either : (moment : ℕ) → TellsMoment text moment → ⊥
    either moment (inl number) = unnumbered moment number
    either moment (inr h) =
        let same = same_ok h.1.0 instant.nanosecond (sym h.1.1 ∙ gave read instant (instant_in text) tried is) in
        never moment (subst (λ (n : ℤ). IsTickOf n moment) same h.1.2)

-- no instant, and so no moment
pub tells_none : (text : List ℕ) (read : Option Timestamp) → IsFound (IsMoment text) None → Tries read (instant_in text) → read ≡ None →
    IsFound (TellsMoment text) None
tells_none text read unnumbered tried is = λ moment h. either moment h
  where
    lacks : (nanosecond : ℤ) → instant_in text ≡ Ok nanosecond → ⊥
    lacks nanosecond h =
        let none = gave_none read (instant_in text) tried is in
        let bad : Ok nanosecond ≡ Err none.0 = sym h ∙ none.1 in cc

    either : (moment : ℕ) → TellsMoment text moment → ⊥
    either moment (inl number) = unnumbered moment number
    either moment (inr h) = lacks h.1.0 h.1.1
