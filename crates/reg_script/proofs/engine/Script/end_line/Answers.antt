use Rattle.std.proofs.Common.{refl, sym, ap, ◌∙◌, ◌+◌, min}
use Rattle.reg_script.specs.LineMeanings.{meaning_of}
use Rattle.reg_script.proofs.LinesThatFail.{ends_well, ends_wrong, fails_here}
use Rattle.reg_script.proofs.ScriptHalts.{one_more_line}
use Rattle.reg_script.proofs.engine.Script.end_line.Goals as goal

pub returns-then-self-clause-err : goal.returns-then-self-clause-err
returns-then-self-clause-err g c =
    λ sent.
    let h = c.in_ok-went.ensures.said in
    let kept = c.in_ok-went.ensures.kept in
    fails_here _ _ _ _ _ _ h.0 c.in-Wrong.is (c.in_ok-line.ensures ∙ ap meaning_of c.as_slice.ensures.value) h.1 h.2 refl h.3
    (sym kept.strict ∙ c.if-self.true) (λ few. one_more_line _ _ _ few c.saturating_add-self.ensures kept.lines)
    (ap (λ v. v.items) (c.replace-text.ensures.value ∙ kept.line)) refl

pub returns-in-Well-clause-ok : goal.returns-in-Well-clause-ok
returns-in-Well-clause-ok g c =
    λ sent.
    let h = c.in_ok-went.ensures.said in
    let kept = c.in_ok-went.ensures.kept in
    ends_well _ _ _ _ h.0 c.in-Well.is (c.in_ok-line.ensures ∙ ap meaning_of c.as_slice.ensures.value) h.1 h.2 refl h.3 c.clear.ensures.items
    (λ few. one_more_line _ _ _ few c.saturating_add-self.ensures kept.lines) kept.failed kept.strict

pub returns-else-self-clause-ok : goal.returns-else-self-clause-ok
returns-else-self-clause-ok g c =
    λ sent.
    let h = c.in_ok-went.ensures.said in
    let kept = c.in_ok-went.ensures.kept in
    ends_wrong _ _ _ _ _ h.0 c.in-Wrong.is (c.in_ok-line.ensures ∙ ap meaning_of c.as_slice.ensures.value) h.1 h.2 refl h.3 c.clear-in-Wrong.ensures.items
    (λ few. one_more_line _ _ _ few c.saturating_add-self.ensures kept.lines)
    (c.saturating_add-self-in-Wrong.ensures ∙ ap (λ n. min (n + 1) 4294967295) kept.failed) kept.strict (sym kept.strict ∙ c.if-self.false)
