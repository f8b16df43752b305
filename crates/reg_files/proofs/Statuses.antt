-- What a status says of words that were read.
use Rattle.std.proofs.Common.{◌≡◌, ◌≤◌, ℕ, zero, suc, Bool, List, Option, subst, arith}
use Rattle.reg_words.specs.CommandLines.{IsCommandLine}
use Rattle.reg_words.specs.declared.request.Request.{Request}
use Rattle.reg_files.specs.Serving.{IsFailed, IsServed}
use Rattle.reg_files.specs.Internal.Outcomes.{Outcome}

module _ (request : Request) (closed : Bool) (unread left before after told told_after : Option (List ℕ)) (failed now_failed : Option ℕ) where
  pub small : (status : ℕ) → Outcome request status closed unread left before after told told_after failed now_failed → status ≤ 1
  small zero h = omega arith
  small (suc zero) h = omega arith
  small (suc (suc n)) h = absurd h

  module _ (words : List (List ℕ)) (command : IsCommandLine words request) (status : ℕ)
      (h : Outcome request status closed unread left before after told told_after failed now_failed) where
    pub served : status ≡ 0 → IsServed words unread left before after told told_after failed
    served e = record {
      request = request;
      command = command;
      serves = subst (λ (n : ℕ). Outcome request n closed unread left before after told told_after failed now_failed) e h;
    }

    pub failed_by : status ≡ 1 → IsFailed words closed unread left before after told told_after failed now_failed
    failed_by e = record {
      request = request;
      command = command;
      fails = subst (λ (n : ℕ). Outcome request n closed unread left before after told told_after failed now_failed) e h;
    }
