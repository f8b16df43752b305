use Rattle.std.proofs.Common.{◌∙◌, ℕ, List, length, ap, sym, subst}
use Rattle.std.specs.Prelude.{string_bytes}
use Rattle.reg_sessions.specs.Jobs.{AreWithin}
use Rattle.reg_sessions.specs.Sessions.{Shape}
use Rattle.reg_workers.specs.Internal.Parts.{PartState, part_at}
use Rattle.reg_workers.specs.Internal.Working.{IsToldOf}
use Rattle.reg_workers.proofs.WorkedJobs.{part_within}
use Rattle.reg_workers.proofs.WrittenTexts.{part_counted, written}
use Rattle.reg_workers.proofs.working.work.Goals as goal

pub work_on-requires-clause-within : goal.work_on-requires-clause-within
work_on-requires-clause-within g c κs within = λ s.
    let plan = c.requires.planned in
    let parts = ap (λ v. v.items) c.into_parts-parts.ensures.parts in
    subst (λ (n : ℕ). AreWithin n (part_at s c.into_parts-parts.result.items).work) (sym (ap (λ (r : Shape). r.hives) c.in_ok-started.ensures.registry))
    (part_within c.args.hives s plan.0 (part_at s c.into_parts-parts.result.items) c.requires.hives.0
    (ap (λ (l : List PartState). part_at s l) parts ∙ plan.1.parts s))

pub work_on-requires-clause-counted : goal.work_on-requires-clause-counted
work_on-requires-clause-counted g c κs within = λ s.
    let plan = c.requires.planned in
    let parts = ap (λ v. v.items) c.into_parts-parts.ensures.parts in
    part_counted c.args.hives s plan.0 (part_at s c.into_parts-parts.result.items) (ap (λ (l : List PartState). part_at s l) parts ∙ plan.1.parts s)

pub returns : goal.returns
returns g c = λ lines plan.
    let parts = ap (λ v. v.items) c.into_parts-parts.ensures.parts in
    let w = c.in_ok-work_on.ensures in
    written c.args.hives lines c.into_parts-parts.result.items w.kept w.jobs (λ s. ap (λ (l : List PartState). part_at s l) parts ∙ plan.parts s)
    (ap (λ (l : List PartState). length l) parts ∙ plan.count) w.worked w.same (string_bytes c.args.text.now) (string_bytes c.work_on.new.text)
    (subst (λ (n : ℕ). IsToldOf n w.kept w.jobs (string_bytes c.args.text.now) (string_bytes c.work_on.new.text))
    (ap (λ (r : Shape). r.hives) c.in_ok-started.ensures.registry) w.told)
