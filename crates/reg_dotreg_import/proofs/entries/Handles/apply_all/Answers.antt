use Rattle.std.proofs.Common.{List, [], ◌∷◌, ◌++◌, sym, ap, ◌∙◌, append_assoc, subst}
use Rattle.std.specs.Vec.Iter.{into_iter_items}
use Rattle.reg_calls.specs.HiveView.{view_of, callbacks_of, asks_of}
use Rattle.reg_dotreg_reader.specs.declared.entry.Numbered.{Numbered}
use Rattle.reg_dotreg_import.specs.Imports.{after_entries, entries_of}
use Rattle.reg_dotreg_import.specs.ImportStops.{StopsAmong}
use Rattle.reg_dotreg_import.specs.Internal.Standing.{IsImporting, AreEntriesMade, hands_of}
use Rattle.reg_dotreg_import.proofs.EntrySteps.{if_err}
use Rattle.reg_dotreg_import.proofs.CallsInTurn.{led-on}
use Rattle.reg_dotreg_import.proofs.ImportedFronts.{stops-on, applied-on, all-applied}
use Rattle.reg_dotreg_import.proofs.entries.Handles.apply_all.Goals as goal

pub loop-numbered-preserved : goal.loop-numbered-preserved
loop-numbered-preserved g c =
    let inv = c.loop-numbered.invariant in
    let done = c.loop-numbered.yielded in
    let n = c.in-Some.numbered in
    record {
      callbacks = c.apply.ensures.callbacks ∙ inv.callbacks;
      moment = c.apply.ensures.moment ∙ inv.moment;
      front = append_assoc done (n ∷ []) (into_iter_items c.next.new.self)
          ∙ ap (λ (rest : List Numbered). done ++ rest) (sym c.in-Some.ensures.steps.0) ∙ inv.front;
      stands = λ before s i. applied-on before c.apply.new.self (view_of c.apply.new.hive.hive) c.loop-numbered.self.moment c.args.self.now.moment s done n inv.moment
          (c.in_ok-apply.ensures.ok before (after_entries c.args.self.now.moment s (entries_of done)) (inv.stands before s i));
      led = λ before s i. led-on c.loop-numbered.self c.apply.new.self c.args.self.now.moment (hands_of c.args.self.now (view_of c.args.hive.now.hive) s) s done n
          (view_of c.args.hive.now.hive) (view_of c.loop-numbered.hive.hive) (view_of c.apply.new.hive.hive) inv.moment (inv.led before s i)
          (c.in_ok-apply.ensures.led before (after_entries c.args.self.now.moment s (entries_of done)) (inv.stands before s i));
    }

pub returns-in_err-apply-clause-err : goal.returns-in_err-apply-clause-err
returns-in_err-apply-clause-err g c before s i =
    let inv = c.loop-numbered.invariant in
    let done = c.loop-numbered.yielded in
    let n = c.in-Some.numbered in
    let moment = c.args.self.now.moment in
    let items = c.args.entries.items in
    let old = view_of c.args.hive.now.hive in
    let h = hands_of c.args.self.now old s in
    let front = after_entries moment s (entries_of done) in
    if_err (λ fault. StopsAmong (asks_of g.C.Callback.answers c.args.hive.now.hive) moment fault h items old (view_of c.apply.new.hive.hive)) c.from_residual.result _
    c.from_residual.ensures.1
    (stops-on g.C.Callback.answers (callbacks_of c.loop-numbered.hive.hive) (callbacks_of c.args.hive.now.hive) c.loop-numbered.self.moment moment h
    (hands_of c.loop-numbered.self (view_of c.loop-numbered.hive.hive) front) items done n
    (into_iter_items c.next.new.self) old (view_of c.loop-numbered.hive.hive) (view_of c.apply.new.hive.hive) _ inv.callbacks inv.moment
    (sym inv.front ∙ ap (λ (rest : List Numbered). done ++ rest) c.in-Some.ensures.steps.0) (inv.led before s i)
    (c.in_err-apply.ensures.err before front (inv.stands before s i)))

pub returns-clause-ok : goal.returns-clause-ok
returns-clause-ok g c before s i =
    let inv = c.loop-numbered.invariant in
    let ok = c.loop-numbered.numbered-iterator.rest.ok in
    let all = all-applied c.loop-numbered.yielded (into_iter_items c.loop-numbered.numbered-iterator) c.args.entries.items inv.front
    (sym ok.0 ∙ c.in-None.ensures.steps.0) in
    subst (λ (es : List Numbered). IsImporting before c.loop-numbered.self (view_of c.loop-numbered.hive.hive)
    (after_entries c.args.self.now.moment s (entries_of es))) all (inv.stands before s i)

pub returns-clause-led : goal.returns-clause-led
returns-clause-led g c before s i =
    let inv = c.loop-numbered.invariant in
    let ok = c.loop-numbered.numbered-iterator.rest.ok in
    let all = all-applied c.loop-numbered.yielded (into_iter_items c.loop-numbered.numbered-iterator) c.args.entries.items inv.front
    (sym ok.0 ∙ c.in-None.ensures.steps.0) in
    let old = view_of c.args.hive.now.hive in
    let now = c.args.self.now in
    subst (λ (es : List Numbered). AreEntriesMade now.moment (hands_of now old s) (entries_of es) old (view_of c.loop-numbered.hive.hive)
    (hands_of c.loop-numbered.self (view_of c.loop-numbered.hive.hive) (after_entries now.moment s (entries_of es)))) all (inv.led before s i)
