-- What a script leaves once it has ended.
use Rattle.std.proofs.Common.{◌≡◌, ℕ, List, [], ◌++◌, ◌+◌, length, Option, refl, sym, subst, ap, ◌∙◌, arith, append-nil, inl, inr, Bool, true}
use Rattle.std.specs.Prelude.{Result, Ok, Err, OnOk, IfErr}
use Rattle.std.specs.Io.KnownBytes.{Appends, Consumes, IsAtEnd}
use Rattle.reg_model.specs.Callbacks.{Callbacks}
use Rattle.reg_calls.specs.Views.{View}
use Rattle.reg_script.specs.declared.engine.ScriptFault.{ScriptFault}
use Rattle.reg_script.specs.declared.engine.ScriptFault.TheVariants.{Read, Write, TooLong, Memory}
use Rattle.reg_script.specs.declared.failed.FailedLine.{FailedLine}
use Rattle.reg_script.specs.declared.failed.StrictFault.{StrictFault}
use Rattle.reg_script.specs.declared.failed.StrictFault.TheVariants.{Script as Of, Line}
use Rattle.reg_script.specs.LineWords.{lines_of}
use Rattle.reg_script.specs.Lines.{Stand, begins_at, AreSaid, Lines, LinesFrom}
use Rattle.reg_script.specs.Internal.Outputs.{IsCut, Closes}
use Rattle.reg_script.specs.Stops.{HasNoFeed, AreWithin, IsTaken}
use Rattle.reg_script.specs.LineMeanings.{meaning_of}
use Rattle.reg_script.specs.FailedLines.{wanting, HaveFailed, Fails, IsBehindLine, StopsAtLine, StopsStrictly}
use Rattle.reg_script.specs.Internal.StrictEnds.{StopsIn, StopsBy}
use Rattle.reg_script.specs.Internal.Progress.{Position, IsSteady, with_feeds, Passes, Takes, IsIdle, IsEnded, past, Halts, HaltsAtEnd, Ends}
use Rattle.reg_script.proofs.ProgressLemmas.{consumes_none, appends_none, passes_then}
use Rattle.reg_script.proofs.ScriptHalts.{fed_ends, unended, passing, stops_with, script_fed, within_fed, count_fed, said_fed, none_fed, all_sent, cut_sent}

-- a script at its start
pub record IsStart (position : Position) (begin : ℕ) (callbacks : Callbacks) (hive : View) : Type 0 where
  pub lines : position.lines ≡ 0
  pub begun : position.begun ≡ []
  pub gathered : position.gathered ≡ []
  pub written : position.written ≡ 0
  pub failed : position.failed ≡ 0
  pub stand : position.stand ≡ begins_at begin callbacks hive

-- ---- a script that was read to its end

same_position : (position : Position) → IsIdle position position
same_position position = record { gathered = refl; sent = refl; written = refl }

said_whole : (old new : Position) (begin : ℕ) (callbacks : Callbacks) (hive : View) (script : List ℕ) → IsStart old begin callbacks hive → (e : Ends old script new) →
    AreSaid (lines_of script) (begins_at begin callbacks hive) e.replies new.stand
said_whole old new begin callbacks hive script start e =
    subst (λ (s : Stand). AreSaid (lines_of script) s e.replies new.stand) start.stand
    (subst (λ (w : List ℕ). AreSaid (lines_of (w ++ script)) old.stand e.replies new.stand) start.begun e.said)

within_whole : (old new : Position) (begin : ℕ) (callbacks : Callbacks) (hive : View) (script : List ℕ) → IsStart old begin callbacks hive → Ends old script new → AreWithin (lines_of script)
within_whole old new begin callbacks hive script start e =
    subst (λ (w : List ℕ). AreWithin (lines_of (w ++ script))) start.begun
    (record { few = omega (arith, e.few, start.lines); short = e.short })

failed_whole : (old new : Position) (begin : ℕ) (callbacks : Callbacks) (hive : View) (script : List ℕ) → IsStart old begin callbacks hive → Ends old script new →
    HaveFailed new.failed (lines_of script) hive new.stand.hive
failed_whole old new begin callbacks hive script start e =
    let want = ap (λ (w : List ℕ). wanting (lines_of (w ++ script))) start.begun in
    let journal = ap (λ (s : Stand). length s.hive.journal) start.stand in
    let fails = e.fails in
    let none = start.failed in
    omega (arith, want, journal, fails, none)

none_whole : (old new : Position) (begin : ℕ) (callbacks : Callbacks) (hive : View) (script : List ℕ) → IsStart old begin callbacks hive → Ends old script new → old.strict ≡ true →
    HaveFailed 0 (lines_of script) hive new.stand.hive
none_whole old new begin callbacks hive script start e strict =
    subst (λ (n : ℕ). HaveFailed n (lines_of script) hive new.stand.hive) (e.spares strict ∙ start.failed) (failed_whole old new begin callbacks hive script start e)

-- what was written are the replies to the script's lines, the last of which left the moment so, and so many of which failed
abbrev pub IsWhole : ℕ → Callbacks → View → View → ℕ → ℕ → Option (List ℕ) → Option (List ℕ) → Option (List ℕ) → Option (List ℕ) → Type 0
IsWhole begin callbacks hive new moment failed unread left before after =
    (script : List ℕ) × (text : List ℕ) × Consumes unread left script × LinesFrom begin callbacks hive script text new moment × Appends before after text ×
    AreWithin (lines_of script) × HaveFailed failed (lines_of script) hive new

-- what was written are the replies to the script's lines, the last of which left the moment so
abbrev pub IsRunTo : ℕ → Callbacks → View → View → ℕ → Option (List ℕ) → Option (List ℕ) → Option (List ℕ) → Option (List ℕ) → Type 0
IsRunTo begin callbacks hive new moment unread left before after =
    (script : List ℕ) × (text : List ℕ) × Consumes unread left script × LinesFrom begin callbacks hive script text new moment × Appends before after text ×
    AreWithin (lines_of script)

-- what was written are the replies to the script's lines
abbrev pub IsRun : Callbacks → View → View → Option (List ℕ) → Option (List ℕ) → Option (List ℕ) → Option (List ℕ) → Type 0
IsRun callbacks hive new unread left before after =
    (script : List ℕ) × (text : List ℕ) × Consumes unread left script × Lines callbacks hive script text new × Appends before after text ×
    AreWithin (lines_of script)

pub without_count : (begin : ℕ) (callbacks : Callbacks) (hive new : View) (moment failed : ℕ) (unread left before after : Option (List ℕ)) →
    IsWhole begin callbacks hive new moment failed unread left before after
    → IsRunTo begin callbacks hive new moment unread left before after
without_count begin callbacks hive new moment failed unread left before after w = (w.0, w.1, w.2, w.3, w.4, w.5)

pub without_moment : (callbacks : Callbacks) (hive new : View) (moment : ℕ) (unread left before after : Option (List ℕ)) →
    IsRunTo 0 callbacks hive new moment unread left before after
    → IsRun callbacks hive new unread left before after
without_moment callbacks hive new moment unread left before after w = (w.0, w.1, w.2, (w.3.0, w.3.1, w.3.2), w.4, w.5)

-- where none failed
pub with_none : (begin : ℕ) (callbacks : Callbacks) (hive new : View) (moment failed : ℕ) (unread left before after : Option (List ℕ)) → failed ≡ 0 →
    IsWhole begin callbacks hive new moment failed unread left before after → IsWhole begin callbacks hive new moment 0 unread left before after
with_none begin callbacks hive new moment failed unread left before after none w =
    subst (λ (n : ℕ). IsWhole begin callbacks hive new moment n unread left before after) none w

ended_whole : (old new : Position) (begin : ℕ) (callbacks : Callbacks) (hive : View) (script : List ℕ) (unread left final : Option (List ℕ)) → IsStart old begin callbacks hive →
    Consumes unread left script → Ends old script new → Appends new.sent final new.gathered →
    IsWhole begin callbacks hive new.stand.hive new.stand.moment new.failed unread left old.sent final
ended_whole old new begin callbacks hive script unread left final start consumes e sent = (
  script,
  e.replies,
  consumes,
  (new.stand, said_whole old new begin callbacks hive script start e, refl, refl),
  all_sent old new new e.replies final e.passes start.gathered (same_position new) sent,
  within_whole old new begin callbacks hive script start e,
  failed_whole old new begin callbacks hive script start e,
)

-- the last write was cut
ended_cut : (old new : Position) (begin : ℕ) (callbacks : Callbacks) (hive : View) (script : List ℕ) (unread left final : Option (List ℕ)) (fault : ScriptFault) →
    IsStart old begin callbacks hive →
    IsAtEnd left → Consumes unread left script → Ends old script new → IsCut new.sent final new.gathered new.written fault
    → StopsIn begin old.strict fault unread left callbacks hive new.stand.hive old.sent final
ended_cut old new begin callbacks hive script unread left final fault start at_end consumes e cut =
    subst (λ (f : ScriptFault). StopsIn begin old.strict f unread left callbacks hive new.stand.hive old.sent final) (sym cut.says) (
      record {
        lines = script;
        rest = [];
        read = subst (λ (w : List ℕ). Consumes unread left w) (sym (append-nil script)) consumes;
        within = within_whole old new begin callbacks hive script start e;
        text = e.replies;
        last = new.stand;
        said = said_whole old new begin callbacks hive script start e;
        stands = inr (refl, at_end);
        hive = refl;
        written = cut_sent old new e.replies final _ e.passes start.gathered start.written
            (subst (λ (f : ScriptFault). IsCut new.sent final new.gathered new.written f) cut.says cut);
      },
      none_whole old new begin callbacks hive script start e,
    )

-- ---- a script that stopped before

-- how many lines were answered
count_is : (old : Position) (begin : ℕ) (callbacks : Callbacks) (hive : View) (script : List ℕ) (new : Position) → IsStart old begin callbacks hive → (t : Takes old script new) →
    new.lines ≡ length t.ended
count_is old begin callbacks hive script new start t = omega (arith, start.lines, t.counts)

read_failed : (old new : Position) (begin : ℕ) (callbacks : Callbacks) (hive : View) (script : List ℕ) (unread left final : Option (List ℕ)) → IsStart old begin callbacks hive →
    Consumes unread left script → Halts past old script new (Of Read) → Appends new.sent final new.gathered →
    StopsIn begin old.strict Read unread left callbacks hive new.stand.hive old.sent final
read_failed old new begin callbacks hive script unread left final start consumes k sent =
    stops_with past old new begin callbacks hive new.stand.hive script (Of Read) Read unread left final k consumes start.lines start.begun start.failed start.stand k.hive
    (unended k.takes.ended k.mid k.back k.takes.are_lines k.takes.steady (count_is old begin callbacks hive k.front k.mid start k.takes) k.faults.1)
    (all_sent old k.mid new k.takes.replies final k.takes.passes start.gathered k.faults.0 sent)

too_long : (old new : Position) (begin : ℕ) (callbacks : Callbacks) (hive : View) (script : List ℕ) (unread left final : Option (List ℕ)) → IsStart old begin callbacks hive →
    Consumes unread left script →
    Halts past old script new (Of TooLong) → Appends new.sent final new.gathered →
    StopsIn begin old.strict TooLong unread left callbacks hive new.stand.hive old.sent final
too_long old new begin callbacks hive script unread left final start consumes k sent =
    stops_with past old new begin callbacks hive new.stand.hive script (Of TooLong) TooLong unread left final k consumes start.lines start.begun start.failed start.stand k.hive (
      fed_ends k.takes.ended,
      passing k.takes.ended k.mid.lines _ k.takes.are_lines (count_is old begin callbacks hive k.front k.mid start k.takes) k.faults.1,
    )
    (all_sent old k.mid new k.takes.replies final k.takes.passes start.gathered k.faults.0 sent)

no_memory : (old new : Position) (begin : ℕ) (callbacks : Callbacks) (hive : View) (script : List ℕ) (unread left final : Option (List ℕ)) → IsStart old begin callbacks hive →
    Consumes unread left script → Halts past old script new (Of Memory) → Appends new.sent final new.gathered →
    StopsIn begin old.strict Memory unread left callbacks hive new.stand.hive old.sent final
no_memory old new begin callbacks hive script unread left final start consumes k sent =
    stops_with past old new begin callbacks hive new.stand.hive script (Of Memory) Memory unread left final k consumes start.lines start.begun start.failed start.stand k.hive
    (fed_ends k.takes.ended)
    (all_sent old k.mid new k.takes.replies final k.takes.passes start.gathered k.faults sent)

write_failed : (old new : Position) (begin : ℕ) (callbacks : Callbacks) (hive : View) (script : List ℕ) (written : ℕ) (unread left final : Option (List ℕ)) →
    IsStart old begin callbacks hive → Consumes unread left script → Halts past old script new (Of (Write written)) → final ≡ new.sent
    → StopsIn begin old.strict (Write written) unread left callbacks hive new.stand.hive old.sent final
write_failed old new begin callbacks hive script written unread left final start consumes k same =
    stops_with past old new begin callbacks hive new.stand.hive script (Of (Write written))
    (Write written) unread left final k consumes start.lines start.begun start.failed start.stand k.hive
    (inl (fed_ends k.takes.ended))
    (cut_sent old k.mid k.takes.replies final written k.takes.passes start.gathered start.written
    (subst (λ (o : Option (List ℕ)). IsCut k.mid.sent o k.mid.gathered k.mid.written (Write written)) (sym same) k.faults))

-- the write after another fault was cut
then_cut : (old new : Position) (begin : ℕ) (callbacks : Callbacks) (hive : View) (script : List ℕ) (first fault : ScriptFault) (unread left final : Option (List ℕ)) →
    IsStart old begin callbacks hive →
    Consumes unread left script → (k : Halts past old script new (Of first)) → IsIdle k.mid new →
    IsCut new.sent final new.gathered new.written fault → StopsIn begin old.strict fault unread left callbacks hive new.stand.hive old.sent final
then_cut old new begin callbacks hive script first fault unread left final start consumes k idle cut =
    let at_sent = subst (λ (o : Option (List ℕ)). IsCut o final new.gathered new.written fault) idle.sent cut in
    let at_text = subst (λ (w : List ℕ). IsCut k.mid.sent final w new.written fault) idle.gathered at_sent in
    let at_count = subst (λ (n : ℕ). IsCut k.mid.sent final k.mid.gathered n fault) idle.written at_text in
    subst (λ (f : ScriptFault). StopsIn begin old.strict f unread left callbacks hive new.stand.hive old.sent final) (sym at_count.says)
    (stops_with past old new begin callbacks hive new.stand.hive script (Of first) _ unread left final k consumes start.lines start.begun start.failed start.stand k.hive
    (inl (fed_ends k.takes.ended))
    (cut_sent old k.mid k.takes.replies final _ k.takes.passes start.gathered start.written
    (subst (λ (f : ScriptFault). IsCut k.mid.sent final k.mid.gathered k.mid.written f) at_count.says at_count)))

on_ok_of : (A : Type 0) (result : Result (Unit {0}) StrictFault) (fault : StrictFault) → result ≡ Err fault → OnOk result A
on_ok_of A result fault e = subst (λ (r : Result (Unit {0}) StrictFault). OnOk r A) (sym e) tt

if_err_of : (P : StrictFault → Type 0) (result : Result (Unit {0}) StrictFault) (fault : StrictFault) → result ≡ Err fault → P fault →
    IfErr result P
if_err_of P result fault e p = subst (λ (r : Result (Unit {0}) StrictFault). IfErr r P) (sym e) p

-- ---- a script that stopped at a line that failed

module _ (old new : Position) (begin : ℕ) (callbacks : Callbacks) (hive : View) (script : List ℕ) (unread left final : Option (List ℕ)) (failed : FailedLine)
    (start : IsStart old begin callbacks hive) (consumes : Consumes unread left script) (at : HaltsAtEnd left old script new (Line failed)) where
  abbrev k : Halts past old script new (Line failed)
  k = at.halts

  abbrev replies : List ℕ
  replies = k.takes.replies ++ k.faults.0.reply

  -- where it stands once the line's reply is gathered
  abbrev answered : Position
  answered = record k.mid { gathered = k.mid.gathered ++ k.faults.0.reply }

  passes_reply : Passes old replies answered
  passes_reply = passes_then old k.mid answered k.takes.replies k.faults.0.reply k.takes.passes (record {
    passed = [];
    appends = appends_none k.mid.sent;
    gathers = refl;
    counts = omega (arith, k.takes.steady.count);
  })

  idle_reply : IsIdle answered new
  idle_reply = record { gathered = k.faults.0.gathered; sent = k.faults.0.sent; written = k.faults.0.written }

  pub is_strict : old.strict ≡ true
  is_strict = sym k.takes.strict ∙ k.faults.0.strict

  stops_at : (AreWritten : List ℕ → Type 0) → AreWritten replies → StopsAtLine begin failed unread left callbacks hive new.stand.hive AreWritten
  stops_at AreWritten written = record {
    lines = with_feeds k.takes.ended;
    rest = k.back;
    read = subst (λ (w : List ℕ). Consumes unread left (with_feeds k.takes.ended ++ (w ++ k.back))) (sym k.faults.0.text)
        (subst (λ (w : List ℕ). Consumes unread left w) (script_fed past old new script (Line failed) k start.begun) consumes);
    whole = fed_ends k.takes.ended;
    no_feed = subst (λ (w : List ℕ). HasNoFeed w) (sym k.faults.0.text) k.takes.steady.no_feed;
    behind = by k.faults.1 at.last;
    within = within_fed past old new script (Line failed) k start.lines;
    text = k.takes.replies;
    last = k.mid.stand;
    said = said_fed past old new script (Line failed) k begin callbacks hive start.stand;
    none = none_fed past old new script (Line failed) k begin callbacks hive start.stand start.failed is_strict;
    number = k.faults.0.number k.faults.2 ∙ ap (λ (n : ℕ). n + 1) (count_fed past old new script (Line failed) k start.lines);
    reply = k.faults.0.reply;
    fails = subst (λ (w : List ℕ). Fails (meaning_of w) k.mid.stand k.faults.0.reply failed.status) (sym k.faults.0.text) k.faults.0.fails;
    hive = k.hive;
    written = written;
  }
    where
      by : IsEnded past k.back → (k.back ≡ [] → IsAtEnd left) → IsBehindLine k.back left
      by (inl h) last = inl h
      by (inr none) last = inr (none, last none)

  -- its reply was written
  pub at_line : Appends new.sent final new.gathered → StopsAtLine begin failed unread left callbacks hive new.stand.hive (λ text. Appends old.sent final text)
  at_line sent = stops_at _ (all_sent old answered new replies final passes_reply start.gathered idle_reply sent)

  -- or cut
  pub at_cut : (written : ℕ) → IsCut new.sent final new.gathered new.written (Write written) →
      StopsAtLine begin failed unread left callbacks hive new.stand.hive (λ text. IsTaken old.sent final text written)
  at_cut written cut =
      let idle = idle_reply in
      let at_sent = subst (λ (o : Option (List ℕ)). IsCut o final new.gathered new.written (Write written)) idle.sent cut in
      let at_text = subst (λ (w : List ℕ). IsCut k.mid.sent final w new.written (Write written)) idle.gathered at_sent in
      let at_count = subst (λ (n : ℕ). IsCut k.mid.sent final answered.gathered n (Write written)) idle.written at_text in
      stops_at _ (cut_sent old answered replies final written passes_reply start.gathered start.written at_count)

  pub stopped : (result : Result (Unit {0}) StrictFault) → Closes (Err (Line failed)) new.gathered new.written new.sent final result →
      IfErr result (λ fault. StopsBy begin old.strict fault unread left callbacks hive new.stand.hive old.sent final)
  stopped result (inl h) = if_err_of _ result (Line failed) h.0 (is_strict, at_line h.1)
  stopped result (inr h) =
      if_err_of _ result (Of h.0) h.1
      (inr (is_strict, failed, _, h.2.says, at_cut _ (subst (λ (f : ScriptFault). IsCut new.sent final new.gathered new.written f) h.2.says h.2)))

-- ---- both

pub closed_well : (A B : Type 0) (ended result : Result (Unit {0}) StrictFault) (text : List ℕ) (before : ℕ) (old new : Option (List ℕ)) →
    Closes ended text before old new result → OnOk ended A → (A → Appends old new text → B) → OnOk result B
closed_well A B (Ok done) result text before old new (inl h) a f =
    subst (λ (r : Result (Unit {0}) StrictFault). OnOk r B) (sym h.0) (f a h.1)
closed_well A B (Ok done) result text before old new (inr h) a f = on_ok_of _ result (Of h.0) h.1
closed_well A B (Err (Of Read)) result text before old new (inl h) a f = on_ok_of _ result (Of Read) h.0
closed_well A B (Err (Of Read)) result text before old new (inr h) a f = on_ok_of _ result (Of h.0) h.1
closed_well A B (Err (Of (Write written))) result text before old new h a f = on_ok_of _ result (Of (Write written)) h.0
closed_well A B (Err (Of TooLong)) result text before old new (inl h) a f = on_ok_of _ result (Of TooLong) h.0
closed_well A B (Err (Of TooLong)) result text before old new (inr h) a f = on_ok_of _ result (Of h.0) h.1
closed_well A B (Err (Of Memory)) result text before old new (inl h) a f = on_ok_of _ result (Of Memory) h.0
closed_well A B (Err (Of Memory)) result text before old new (inr h) a f = on_ok_of _ result (Of h.0) h.1
closed_well A B (Err (Line failed)) result text before old new (inl h) a f = on_ok_of _ result (Line failed) h.0
closed_well A B (Err (Line failed)) result text before old new (inr h) a f = on_ok_of _ result (Of h.0) h.1

pub run_whole : (old new : Position) (begin : ℕ) (callbacks : Callbacks) (hive : View) (unread left final : Option (List ℕ)) (ended result : Result (Unit {0}) StrictFault) →
    IsStart old begin callbacks hive → OnOk ended ((script : List ℕ) × Consumes unread left script × Ends old script new)
    → Closes ended new.gathered new.written new.sent final result →
    OnOk result (IsWhole begin callbacks hive new.stand.hive new.stand.moment new.failed unread left old.sent final)
run_whole old new begin callbacks hive unread left final ended result start done closes =
    closed_well _ _ ended result new.gathered new.written new.sent final closes done
    (λ e sent. ended_whole old new begin callbacks hive e.0 unread left final start e.1 e.2 sent)

pub run_spares : (old new : Position) (begin : ℕ) (callbacks : Callbacks) (hive : View) (unread left final : Option (List ℕ)) (ended result : Result (Unit {0}) StrictFault) →
    IsStart old begin callbacks hive → OnOk ended ((script : List ℕ) × Consumes unread left script × Ends old script new)
    → Closes ended new.gathered new.written new.sent final result → OnOk result (old.strict ≡ true → new.failed ≡ 0)
run_spares old new begin callbacks hive unread left final ended result start done closes =
    closed_well _ _ ended result new.gathered new.written new.sent final closes done (λ e sent strict. e.2.spares strict ∙ start.failed)

pub run_stops : (old new : Position) (begin : ℕ) (callbacks : Callbacks) (hive : View) (unread left final : Option (List ℕ)) (ended result : Result (Unit {0}) StrictFault) →
    IsStart old begin callbacks hive → OnOk ended (IsAtEnd left) → OnOk ended ((script : List ℕ) × Consumes unread left script × Ends old script new)
    → IfErr ended (λ fault. (script : List ℕ) × Consumes unread left script × HaltsAtEnd left old script new fault) →
    Closes ended new.gathered new.written new.sent final result →
    IfErr result (λ fault. StopsBy begin old.strict fault unread left callbacks hive new.stand.hive old.sent final)
run_stops old new begin callbacks hive unread left final (Ok done) result start a e k (inl h) =
    subst (λ (r : Result (Unit {0}) StrictFault). IfErr r (λ fault. StopsBy begin old.strict fault unread left callbacks hive new.stand.hive old.sent final))
    (sym h.0) tt
run_stops old new begin callbacks hive unread left final (Ok done) result start a e k (inr h) =
    if_err_of _ result (Of h.0) h.1 (inl (ended_cut old new begin callbacks hive e.0 unread left final h.0 start a e.1 e.2 h.2))
run_stops old new begin callbacks hive unread left final (Err (Of Read)) result start a e k (inl h) =
    if_err_of _ result (Of Read) h.0 (inl (read_failed old new begin callbacks hive k.0 unread left final start k.1 k.2.halts h.1))
run_stops old new begin callbacks hive unread left final (Err (Of Read)) result start a e k (inr h) =
    if_err_of _ result (Of h.0) h.1 (inl (then_cut old new begin callbacks hive k.0 Read h.0 unread left final start k.1 k.2.halts k.2.halts.faults.0 h.2))
run_stops old new begin callbacks hive unread left final (Err (Of (Write written))) result start a e k h =
    if_err_of _ result (Of (Write written)) h.0 (inl (write_failed old new begin callbacks hive k.0 written unread left final start k.1 k.2.halts h.1))
run_stops old new begin callbacks hive unread left final (Err (Of TooLong)) result start a e k (inl h) =
    if_err_of _ result (Of TooLong) h.0 (inl (too_long old new begin callbacks hive k.0 unread left final start k.1 k.2.halts h.1))
run_stops old new begin callbacks hive unread left final (Err (Of TooLong)) result start a e k (inr h) =
    if_err_of _ result (Of h.0) h.1 (inl (then_cut old new begin callbacks hive k.0 TooLong h.0 unread left final start k.1 k.2.halts k.2.halts.faults.0 h.2))
run_stops old new begin callbacks hive unread left final (Err (Of Memory)) result start a e k (inl h) =
    if_err_of _ result (Of Memory) h.0 (inl (no_memory old new begin callbacks hive k.0 unread left final start k.1 k.2.halts h.1))
run_stops old new begin callbacks hive unread left final (Err (Of Memory)) result start a e k (inr h) =
    if_err_of _ result (Of h.0) h.1 (inl (then_cut old new begin callbacks hive k.0 Memory h.0 unread left final start k.1 k.2.halts k.2.halts.faults h.2))
run_stops old new begin callbacks hive unread left final (Err (Line failed)) result start a e k h =
    stopped old new begin callbacks hive k.0 unread left final failed start k.1 k.2 result h

-- ---- from the start

pub steady_start : (position : Position) (begin : ℕ) (callbacks : Callbacks) (hive : View) → IsStart position begin callbacks hive → IsSteady position
steady_start position begin callbacks hive start = record {
  no_feed = subst (λ (w : List ℕ). HasNoFeed w) (sym start.begun) tt;
  short = omega (arith, ap (λ (w : List ℕ). length w) start.begun);
  few = omega (arith, start.lines);
  one_more = λ some. absurd (omega (arith, some, ap (λ (w : List ℕ). length w) start.begun));
  count = omega (arith, start.written);
  few_failed = omega (arith, start.failed);
}

pub ok_given : (A B : Type 0) (r : Result (Unit {0}) StrictFault) → A → OnOk r (A → B) → OnOk r B
ok_given A B (Ok done) a f = f a
ok_given A B (Err fault) a f = tt

pub err_given : (A B C : Type 0) (P : StrictFault → Type 0) (r : Result (Unit {0}) StrictFault) → A → B → C →
    IfErr r (λ fault. A → B → C → P fault) → IfErr r P
err_given A B C P (Ok done) a b c f = tt
err_given A B C P (Err fault) a b c f = f a b c

-- no memory for the first read
pub nothing_done : (begin : ℕ) (strict : Bool) (callbacks : Callbacks) (hive : View) (unread before : Option (List ℕ)) →
    StopsBy begin strict (Of Memory) unread unread callbacks hive hive before before
nothing_done begin strict callbacks hive unread before = inl (
  record {
    lines = [];
    rest = [];
    read = consumes_none unread;
    within = record { few = omega arith; short = tt };
    text = [];
    last = begins_at begin callbacks hive;
    said = (refl, refl);
    stands = inl refl;
    hive = refl;
    written = appends_none before;
  },
  λ _. omega arith,
)

-- ---- a whole run, where the script's position at its start and at its end are `old` and `new`

module _ (old new : Position) (begin : ℕ) (callbacks : Callbacks) (hive : View) (unread left final : Option (List ℕ)) (ended result : Result (Unit {0}) StrictFault)
    (lines : old.lines ≡ 0) (begun : old.begun ≡ []) (gathered : old.gathered ≡ []) (written : old.written ≡ 0) (failed : old.failed ≡ 0)
    (stand : old.stand ≡ begins_at begin callbacks hive)
    (ends : OnOk ended (IsSteady old → (script : List ℕ) × Consumes unread left script × Ends old script new))
    (closes : Closes ended new.gathered new.written new.sent final result) where
  start : IsStart old begin callbacks hive
  start = record { lines = lines; begun = begun; gathered = gathered; written = written; failed = failed; stand = stand }

  pub runs_whole : OnOk result (IsWhole begin callbacks hive new.stand.hive new.stand.moment new.failed unread left old.sent final)
  runs_whole = run_whole old new begin callbacks hive unread left final ended result start (ok_given _ _ ended (steady_start old begin callbacks hive start) ends) closes

  pub runs_sparing : OnOk result (old.strict ≡ true → new.failed ≡ 0)
  runs_sparing = run_spares old new begin callbacks hive unread left final ended result start (ok_given _ _ ended (steady_start old begin callbacks hive start) ends) closes

  pub runs_into : OnOk ended (IsAtEnd left) →
      IfErr ended (λ fault. IsSteady old → old.lines ≡ 0 → old.begun ≡ [] → (script : List ℕ) × Consumes unread left script ×
      HaltsAtEnd left old script new fault)
      → IfErr result (λ fault. StopsBy begin old.strict fault unread left callbacks hive new.stand.hive old.sent final)
  runs_into at_end halts =
      run_stops old new begin callbacks hive unread left final ended result start at_end (ok_given _ _ ended (steady_start old begin callbacks hive start) ends)
      (err_given _ _ _ _ ended (steady_start old begin callbacks hive start) lines begun halts) closes

-- ---- a script that stops at a line that failed, as its callers name its end

pub strict_stops : (begin : ℕ) (fault : StrictFault) (unread left : Option (List ℕ)) (callbacks : Callbacks) (old new : View) (before after : Option (List ℕ)) →
    StopsBy begin true fault unread left callbacks old new before after → StopsStrictly begin fault unread left callbacks old new before after
strict_stops begin (Of fault) unread left callbacks old new before after (inl h) = inl (h.0, h.1 refl)
strict_stops begin (Of fault) unread left callbacks old new before after (inr h) = inr (h.1, h.2, h.3, h.4)
strict_stops begin (Line failed) unread left callbacks old new before after h = h.1
