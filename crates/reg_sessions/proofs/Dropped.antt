-- Sessions whose receipts at a hive are dropped, one after another.
use Rattle.std.proofs.Common.{◌≡◌, ◌+◌, ◌≤◌, ◌<◌, ℕ, List, get_or, set, length, inl, inr, refl, sym, ◌∙◌, subst, arith}
use Rattle.std.proofs.lemmas.List.{get_or-set_same, get_or-set_other, get_or_default}
use Rattle.std.proofs.lemmas.Bool.{cases_eq}
use Rattle.reg_sessions.specs.Sessions.{SessionState, IsDropped, no_session, session_of}

-- those below n were dropped, the others not yet
pub record AreDropped (hive n : ℕ) (old now : List SessionState) : Type 0 where
  pub dropped : (s : ℕ) → s < n → s < length old → IsDropped hive (session_of old s) (session_of now s)
  pub rest : (s : ℕ) → n ≤ s → session_of now s ≡ session_of old s

pub dropped_none : (hive : ℕ) (old : List SessionState) → AreDropped hive 0 old old
dropped_none hive old = record { dropped = λ s below there. absurd (omega (arith, below)); rest = λ s past. refl }

pub dropped_next : (hive n : ℕ) (old now : List SessionState) (d new : SessionState) → n < length now → IsDropped hive (get_or now n d) new → AreDropped hive n old now →
    AreDropped hive (n + 1) old (set now n new)
dropped_next hive n old now d new within one all = record {
  dropped = λ s below there. (elim (cases_eq s n) [
    | inl e ↦ subst (λ k. IsDropped hive (session_of old k) (session_of (set now n new) k)) (sym e)
        (subst (λ (x : SessionState). IsDropped hive (session_of old n) x) (sym (get_or-set_same now n new no_session within))
        (subst (λ (x : SessionState). IsDropped hive x new) (get_or_default now n d no_session within ∙ all.rest n (omega arith)) one))
    | inr ne ↦ subst (λ (x : SessionState). IsDropped hive (session_of old s) x) (sym (get_or-set_other now n s new no_session ne))
        (all.dropped s (omega (arith, below, ne)) there)
  ]);
  rest = λ s past. get_or-set_other now n s new no_session (λ e. absurd (omega (arith, e, past))) ∙ all.rest s (omega (arith, past));
}
