use Rattle.std.proofs.Common.{List, sym, subst}
use Rattle.reg_workers.specs.Internal.Parts.{PartState}
use Rattle.reg_workers.specs.Internal.Working.{HaveReplies}
use Rattle.reg_workers.proofs.WrittenTexts.{writable}
use Rattle.reg_workers.proofs.working.work_on.Goals as goal

pub write_all-requires-clause-ready : goal.write_all-requires-clause-ready
write_all-requires-clause-ready g c =
    writable g.C.Callback.answers c.args.parts.now.items c.as_slice.result.now c.in_ok-jobs.jobs.items c.in_ok-jobs.ensures.jobs
    (subst (λ (ps : List PartState). HaveReplies c.args.parts.now.items ps) (sym c.as_slice.ensures.value) c.in_ok-jobs.ensures.replies) c.requires.counted

pub returns : goal.returns
returns g c = record {
  jobs = c.in_ok-jobs.jobs.items;
  kept = c.as_slice.result.now;
  worked = c.in_ok-jobs.ensures.jobs;
  same = subst (λ (ps : List PartState). HaveReplies c.args.parts.now.items ps) (sym c.as_slice.ensures.value) c.in_ok-jobs.ensures.replies;
  told = c.in_ok-write_all.ensures;
}
