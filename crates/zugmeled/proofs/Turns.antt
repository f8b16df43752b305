-- What the hive that C holds becomes.
use Rattle.std.proofs.Common.{◌≡◌, ℕ, ◌<◌, ◌≤◌, nat_lt, true, false, Option, Some, None, refl, sym, ap, ◌∙◌, subst, inr, length, arith}
use Rattle.std.proofs.lemmas.Bool.Decides.{nat_tests}
use Rattle.reg_model.specs.declared.limits.TheConstants.{SESSIONS_LIMIT}
use Rattle.reg_model.specs.declared.call.Change.{Change}
use Rattle.reg_model.specs.declared.call.Query.{Query}
use Rattle.reg_model.specs.declared.answer.AnswerBody.TheVariants.{Refused}
use Rattle.reg_model.specs.declared.statuses.TheConstants.{INVALID_HANDLE, INVALID_PARAMETER}
use Rattle.reg_model.specs.declared.notice.Notice.{Notice}
use Rattle.reg_model.specs.declared.reply.ChangeReply.{ChangeReply}
use Rattle.reg_calls.specs.declared.cut.CutFault.{CutFault}
use Rattle.reg_calls.specs.Cuts.{fault_of_cut, IsCut}
use Rattle.reg_calls.specs.Rooms.{due}
use Rattle.reg_calls.specs.Views.{state, IsApplied, IsNoticeTaken}
use Rattle.zugmeled.specs.Held.{HeldHive}
use Rattle.zugmeled.specs.Calls.{seen, asks, due_of, IsChanged}
use Rattle.zugmeled.specs.Journals.{cut_status, IsCutBy, IsCutTold}
use Rattle.zugmeled.specs.Notices.{IsNoticeTold}
use Rattle.zugmeled.specs.Told.{TellsNotice}

module _ (old new : Option HeldHive) (h h' : HeldHive) (was : Some h ≡ old) (is : new ≡ Some h') where
  pub changed : (session moment : ℕ) (change : Change) (reply : ChangeReply) → session < SESSIONS_LIMIT →
      IsApplied (asks h) (seen h) (seen h') session moment change reply → IsChanged old new session moment change reply
  changed session moment change reply below applied =
      subst (λ (o : Option HeldHive). IsChanged o new session moment change reply) was (inr (below, h', is, applied))

  pub noticed : (session status watch entry reason : ℕ) (notice : Option Notice) → session < SESSIONS_LIMIT →
      IsNoticeTaken (seen h) (seen h') session notice → TellsNotice notice status watch entry reason →
      IsNoticeTold old new session status watch entry reason
  noticed session status watch entry reason notice below taken tells =
      subst (λ (o : Option HeldHive). IsNoticeTold o new session status watch entry reason) was (inr (below, h', is, notice, taken, tells))

  pub cut-made : (count : ℕ) → count ≡ length (seen h).journal → IsCut (seen h) (seen h') → fault_of_cut (seen h) ≡ None → IsCutTold old new 0 count
  cut-made count many cut clear =
      subst (λ (o : Option HeldHive). IsCutTold o new 0 count) was
      (subst (λ (f : Option CutFault). IsCutBy f h new 0 count) (sym clear) (refl, many, h', is, cut))

  pub cut-refused : (fault : CutFault) (status : ℕ) → fault_of_cut (seen h) ≡ Some fault → status ≡ cut_status fault → h'.hive ≡ h.hive →
      IsCutTold old new status 0
  cut-refused fault status why tells same =
      subst (λ (o : Option HeldHive). IsCutTold o new status 0) was
      (subst (λ (f : Option CutFault). IsCutBy f h new status 0) (sym why) (tells, refl, h', is, same))

-- what is due to a question where there is no hive, of a session above the last, and of one of the 64
pub due-nothing : (hive : Option HeldHive) (session : ℕ) (query : Query) → None ≡ hive → due_of hive session query ≡ Refused INVALID_HANDLE
due-nothing hive session query e = ap (λ (o : Option HeldHive). due_of o session query) (sym e)

pub due-above : (hive : Option HeldHive) (held : HeldHive) (session : ℕ) (query : Query) → Some held ≡ hive → SESSIONS_LIMIT ≤ session →
    due_of hive session query ≡ Refused INVALID_PARAMETER
due-above hive held session query e above =
    let b : nat_lt session SESSIONS_LIMIT ≡ false = grind (arith, nat_tests, above) in
    ap (λ (o : Option HeldHive). due_of o session query) (sym e) ∙ rw b refl

pub due-within : (hive : Option HeldHive) (held : HeldHive) (session : ℕ) (query : Query) → Some held ≡ hive → session < SESSIONS_LIMIT →
    due_of hive session query ≡ due (asks held) (state (seen held)) session query
due-within hive held session query e below =
    let b : nat_lt session SESSIONS_LIMIT ≡ true = grind (arith, nat_tests, below) in
    ap (λ (o : Option HeldHive). due_of o session query) (sym e) ∙ rw b refl
