-- Texts of the tool's own, written.
use Rattle.std.proofs.Common.{◌≡◌, ◌≤◌, ◌∙◌, ◌&&◌, Bool, true, false, List, ℕ, zero, suc, ap, inl, inr, refl, subst, sym, arith}
use Rattle.std.specs.Prelude.{Option, Result, Ok, Err, IfOk, MatchResult, String, string_bytes}
use Rattle.std.specs.declared.alloc.Global.{Global}
use Rattle.std.specs.Io.KnownBytes.{Appends}
use Rattle.reg_words.specs.declared.request.Request.{Request}
use Rattle.reg_files.specs.Serving.{Fails, Serves, TextFails}
use Rattle.reg_files.specs.Looking.{IsCutShort, IsReported}
use Rattle.reg_files.specs.Internal.Outcomes.{Outcome, Settles, IsTextTold, TextStops}

module _ (is_text : List ℕ → Type 0) (closed : Bool) (before after told told_after : Option (List ℕ)) (failed now_failed : Option ℕ) where
  -- it was written, or not
  pub text_told : {E : Type 0} (text : Result (String Global) E) → IfOk text (λ t. is_text (string_bytes t)) → IsTextTold text before after →
      (t : List ℕ) × is_text t × Appends before after t
  text_told (Ok text) is h = (string_bytes text, is, h)
  text_told (Err e) is h = absurd h

  pub text_stopped : {E : Type 0} (text : Result (String Global) E) → IfOk text (λ t. is_text (string_bytes t)) →
      TextStops text closed before after told told_after failed now_failed → TextFails is_text closed before after told told_after failed now_failed
  text_stopped (Ok text) is h = inr (string_bytes text, is, h.0, h.1)
  text_stopped (Err e) is h = inl h

  -- what a status says of it
  pub told_well : {E : Type 0} (request : Request) (unread : Option (List ℕ)) (text : Result (String Global) E) (status : ℕ) → status ≤ 1
      → IfOk text (λ t. is_text (string_bytes t))
      → (status ≡ 0 → IsTextTold text before after × (told_after ≡ told))
      → (status ≡ 1 → TextStops text closed before after told told_after failed now_failed)
      → (((t : List ℕ) × is_text t × Appends before after t) × (told_after ≡ told) → Serves request unread unread before after told told_after failed)
      → (TextFails is_text closed before after told told_after failed now_failed →
      Fails request closed unread unread before after told told_after failed now_failed)
      → Outcome request status closed unread unread before after told told_after failed now_failed
  told_well request unread text zero small is well stops serves fails =
      let done = well refl in serves (text_told text is done.0, done.1)
  told_well request unread text (suc zero) small is well stops serves fails = fails (text_stopped text is (stops refl))
  told_well request unread text (suc (suc n)) small is well stops serves fails = absurd (omega (arith, small))

and_true : (b : Bool) → (b && true) ≡ b
and_true true = refl
and_true false = refl

-- a text was written, or cut short by a write, and that reported
module _ {A E : Type 0} (is_cut : E → Bool) (text : List ℕ) (closed : Bool) (before after told told_after : Option (List ℕ))
    (failed now_failed : Option ℕ) where
  pub text_whole : (r : Result A E) (status : ℕ) → Settles is_cut closed r status told told_after failed now_failed →
      MatchResult r (λ _. Appends before after text) (λ e. (is_cut e ≡ true) × IsCutShort text before after) → status ≡ 0 →
      Appends before after text × (told_after ≡ told)
  text_whole (Ok a) status s h nil = (h, s.1)
  text_whole (Err e) status s h nil = let one = s.0 in absurd (omega (arith, one, nil))

  pub text_cut : (r : Result A E) (status : ℕ) → Settles is_cut closed r status told told_after failed now_failed →
      MatchResult r (λ _. Appends before after text) (λ e. (is_cut e ≡ true) × IsCutShort text before after) → status ≡ 1 →
      IsCutShort text before after × IsReported closed told told_after failed now_failed
  text_cut (Ok a) status s h one = let nil = s.0 in absurd (omega (arith, one, nil))
  text_cut (Err e) status s h one =
      let is : (closed && is_cut e) ≡ closed = ap (λ (b : Bool). closed && b) h.0 ∙ and_true closed in
      (h.1, subst (λ (b : Bool). IsReported b told told_after failed now_failed) is s.1)

-- of a text that was made
module _ {A E S : Type 0} (r : Result (String A) E) (t : String A) (is : r ≡ Ok t) (bytes : List ℕ) (e : bytes ≡ string_bytes t) where
  pub as_told : (before after : Option (List ℕ)) → Appends before after bytes × S → IsTextTold r before after × S
  as_told before after h =
      subst (λ (x : Result (String A) E). IsTextTold x before after × S) (sym is) (subst (λ (b : List ℕ). Appends before after b × S) e h)

module _ {A E : Type 0} (r : Result (String A) E) (closed : Bool) (before after told told_after : Option (List ℕ)) (failed now_failed : Option ℕ)
  where
    pub as_stopped : (t : String A) → r ≡ Ok t → (bytes : List ℕ) → bytes ≡ string_bytes t →
        IsCutShort bytes before after × IsReported closed told told_after failed now_failed →
        TextStops r closed before after told told_after failed now_failed
    as_stopped t is bytes e h =
        subst (λ (x : Result (String A) E). TextStops x closed before after told told_after failed now_failed) (sym is)
        (subst (λ (b : List ℕ). IsCutShort b before after × IsReported closed told told_after failed now_failed) e h)

    -- of one that wasn't
    pub as_unmade : (e : E) → r ≡ Err e → after ≡ before → IsReported false told told_after failed now_failed →
        TextStops r closed before after told told_after failed now_failed
    as_unmade e is same h =
        subst (λ (x : Result (String A) E). TextStops x closed before after told told_after failed now_failed) (sym is) (same, h)
