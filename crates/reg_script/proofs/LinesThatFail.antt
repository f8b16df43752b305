-- How one line goes: well, or it fails.
use Rattle.std.proofs.Common.{◌≡◌, ◌≢◌, ℕ, ◌+◌, ◌<◌, Bool, true, false, List, [], ◌++◌, length, Option, Some, refl, sym, subst, ap, ◌∙◌, arith, min, cond, ◌⊎◌, inl, inr}
use Rattle.std.specs.Prelude.{◌==◌}
use Rattle.std.proofs.lemmas.Bool.Decides.{nat_tests}
use Rattle.reg_model.specs.Callbacks.{change_status}
use Rattle.reg_model.specs.declared.call.Call.TheVariants.{Change, Query}
use Rattle.reg_model.specs.declared.call.Change.{Change as AnyChange}
use Rattle.reg_model.specs.declared.reply.ChangeReply.{ChangeReply}
use Rattle.reg_model.specs.declared.step.Outcome.TheVariants.{Changed}
use Rattle.reg_calls.specs.Views.{View, state, IsAccepted, IsApplied, IsAppliedBy}
use Rattle.reg_calls.proofs.AcceptedChanges.{accepted, either, refused}
use Rattle.reg_script.specs.declared.failed.Went.{Went}
use Rattle.reg_script.specs.declared.failed.Went.TheVariants.{Well, Wrong}
use Rattle.reg_script.specs.declared.failed.FailedLine.{FailedLine}
use Rattle.reg_script.specs.LineMeanings.{Meaning, nothing, at_moment, as_session, on_hive, asks, takes_notice, bad, meaning_of}
use Rattle.reg_script.specs.ReplyTexts.{changed_text, asks_watch}
use Rattle.reg_script.specs.Lines.{Stand, IsSaid}
use Rattle.reg_script.specs.Stops.{most_lines}
use Rattle.reg_script.specs.FailedLines.{wants_entry, one_if, Fails}
use Rattle.reg_script.specs.Internal.Progress.{Position, HasEntry, IsAnswered, went_by, EndsLine, FailsHere}

-- ---- a change

base_kept : (cause : Option ℕ) (old new : View) (session moment : ℕ) (change : AnyChange) (reply : ChangeReply) →
    IsAppliedBy cause old new session moment change reply → new.base ≡ old.base
base_kept cause old new session moment change reply applied = by (either cause old new session moment change reply applied)
  where
    by : (new ≡ old) ⊎ IsAccepted old new session moment change reply → new.base ≡ old.base
    by (inl same) = ap (λ (v : View). v.base) same
    by (inr a) = a.base

pub change_answered : (old new : Stand) (change : AnyChange) (reply : ChangeReply) (went : Went) → went ≡ went_by reply.status →
    IsApplied old.callbacks old.hive new.hive old.session old.moment change reply → new ≡ record old { hive = new.hive } →
    IsAnswered (asks (Change change)) went old (changed_text (asks_watch (Change change)) reply) new
change_answered old new change reply went is applied kept =
    subst (λ (w : Went). IsAnswered (asks (Change change)) w old (changed_text (asks_watch (Change change)) reply) new) (sym is) (by (reply.status == 0) refl)
  where
    by : (b : Bool) → (reply.status == 0) ≡ b →
        IsAnswered (asks (Change change)) (cond b Well (Wrong (Some reply.status))) old (changed_text (asks_watch (Change change)) reply) new
    by true e =
        let zero : reply.status ≡ 0 = grind (arith, nat_tests, e) in
        let more = accepted (change_status old.callbacks (state old.hive).world old.session old.moment change) old.hive new.hive old.session old.moment change reply applied zero in
        let base = base_kept _ old.hive new.hive old.session old.moment change reply applied in
        ((Changed reply, applied, refl, kept), omega (arith, more, base))
    by false e =
        let other : reply.status ≢ 0 = grind (arith, nat_tests, e) in
        let same = refused _ old.hive new.hive old.session old.moment change reply applied other in (
          (reply, subst (λ (v : View). IsApplied old.callbacks old.hive v old.session old.moment change reply) same applied, other, refl, refl),
          kept ∙ ap (λ (v : View). let stand : Stand = record old { hive = v } in stand) same,
        )

-- ---- the line that was begun

has_one : (b : Bool) (old new : View) → HasEntry b old new → length new.journal ≡ one_if b + length old.journal
has_one true old new h = omega (arith, h)
has_one false old new h = omega (arith, h)

-- it went well
pub ends_well : (old new : Position) (meaning : Meaning) (went : Went) (reply : List ℕ) → went ≡ Well → meaning ≡ meaning_of old.begun →
    IsAnswered meaning went old.stand reply new.stand →
    new.gathered ≡ old.gathered ++ reply → new.sent ≡ old.sent → new.written ≡ old.written → new.begun ≡ [] → (old.lines < most_lines → new.lines ≡ old.lines + 1) →
    new.failed ≡ old.failed → new.strict ≡ old.strict → EndsLine old new
ends_well old new meaning went reply well means answered gathered sent written begun lines failed strict =
    let h = subst (λ (w : Went). IsAnswered meaning w old.stand reply new.stand) well answered in
    let one : length new.stand.hive.journal ≡ one_if (wants_entry (meaning_of old.begun)) + length old.stand.hive.journal =
    subst (λ (m : Meaning). length new.stand.hive.journal ≡ one_if (wants_entry m) + length old.stand.hive.journal) means
    (has_one (wants_entry meaning) old.stand.hive new.stand.hive h.1) in
    record {
      reply = reply;
      said = subst (λ (m : Meaning). IsSaid m old.stand reply new.stand) means h.0;
      gathered = gathered;
      sent = sent;
      written = written;
      begun = begun;
      lines = lines;
      few_failed = λ few. omega (arith, failed);
      fails = λ few. omega (arith, one, failed);
      strict = strict;
      spares = λ is_strict. failed;
    }

fails_said : (meaning : Meaning) (there : Stand) (text : List ℕ) (status : Option ℕ) → Fails meaning there text status →
    IsSaid meaning there text there × (one_if (wants_entry meaning) ≡ 1)
fails_said nothing there text status h = absurd h
fails_said (at_moment moment) there text status h = absurd h
fails_said (as_session session) there text status h = absurd h
fails_said (on_hive hive) there text status h = absurd h
fails_said (asks (Change change)) there text status h = ((Changed h.0, h.1, h.3, refl), refl)
fails_said (asks (Query query)) there text status h = absurd h
fails_said takes_notice there text status h = absurd h
fails_said bad there text status h = ((h.0, refl), refl)

-- one more failed, below the bound of a count
one_more_failed : (failed new : ℕ) → failed < most_lines → new ≡ min (failed + 1) 4294967295 → new ≡ failed + 1
unfolding most_lines
one_more_failed failed new few e = omega (arith, few, e)

-- it failed, and the script goes on
pub ends_wrong : (old new : Position) (meaning : Meaning) (went : Went) (status : Option ℕ) (reply : List ℕ) → went ≡ Wrong status →
    meaning ≡ meaning_of old.begun → IsAnswered meaning went old.stand reply new.stand → new.gathered ≡ old.gathered ++ reply → new.sent ≡ old.sent → new.written ≡ old.written →
    new.begun ≡ [] → (old.lines < most_lines → new.lines ≡ old.lines + 1) → new.failed ≡ min (old.failed + 1) 4294967295 → new.strict ≡ old.strict →
    old.strict ≡ false → EndsLine old new
ends_wrong old new meaning went status reply wrong means answered gathered sent written begun lines failed strict lenient =
    let h = subst (λ (w : Went). IsAnswered meaning w old.stand reply new.stand) wrong answered in
    let said = fails_said meaning old.stand reply status h.0 in
    let one : one_if (wants_entry (meaning_of old.begun)) ≡ 1 = subst (λ (m : Meaning). one_if (wants_entry m) ≡ 1) means said.1 in
    let journal : length new.stand.hive.journal ≡ length old.stand.hive.journal = ap (λ (s : Stand). length s.hive.journal) h.1 in
    record {
      reply = reply;
      said = subst (λ (m : Meaning). IsSaid m old.stand reply new.stand) means (subst (λ (s : Stand). IsSaid meaning old.stand reply s) (sym h.1) said.0);
      gathered = gathered;
      sent = sent;
      written = written;
      begun = begun;
      lines = lines;
      few_failed = λ few. let more = one_more_failed old.failed new.failed few failed in omega (arith, more);
      fails = λ few. let more = one_more_failed old.failed new.failed few failed in omega (arith, more, one, journal);
      strict = strict;
      spares = λ is_strict. absurd (never lenient is_strict);
    }
  where
    never : {b : Bool} → b ≡ false → b ≡ true → ⊥
    never is_false is_true = absurd (cc)

-- it failed, and the script stops there
pub fails_here : (old new : Position) (failed : FailedLine) (meaning : Meaning) (went : Went) (status : Option ℕ) (reply : List ℕ) → went ≡ Wrong status →
    meaning ≡ meaning_of old.begun → IsAnswered meaning went old.stand reply new.stand → new.gathered ≡ old.gathered ++ reply → new.sent ≡ old.sent → new.written ≡ old.written →
    old.strict ≡ true → (old.lines < most_lines → failed.number ≡ old.lines + 1) → failed.text.items ≡ old.begun → failed.status ≡ status → FailsHere old failed new
fails_here old new failed meaning went status reply wrong means answered gathered sent written strict number text told =
    let h = subst (λ (w : Went). IsAnswered meaning w old.stand reply new.stand) wrong answered in
    record {
      strict = strict;
      reply = reply;
      fails = subst (λ (m : Meaning). Fails m old.stand reply failed.status) means (subst (λ (o : Option ℕ). Fails meaning old.stand reply o) (sym told) h.0);
      gathered = gathered;
      sent = sent;
      written = written;
      hive = ap (λ (s : Stand). s.hive) h.1;
      number = number;
      text = text;
    }
