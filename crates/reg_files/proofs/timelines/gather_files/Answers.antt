use Rattle.std.proofs.Common.{◌≡◌, false, rules, true}
use Rattle.reg_files.proofs.CheckedFiles.{file_at, none_left}
use Rattle.reg_files.proofs.GatheredFiles.{starts, goes_far, missed, ends}
use Rattle.reg_files.proofs.timelines.gather_files.Goals as goal

pub loop-file-init : goal.loop-file-init
loop-file-init g c = starts c.args.is_dirty _ _ c.args.from c.args.to _ _ c.requires

pub loop-file-preserved : goal.loop-file-preserved
loop-file-preserved g c =
    let at = c.loop-file.invariant in
    let is : c.gather_file.result ≡ true = search rules in
    goes_far c.args.is_dirty _ _ _ _ _ _ c.args.from c.args.to _ _ _ _ _ _
    (file_at (λ file. file.now) c.args.files.now c.loop-file.file-index _ c.loop-file-test.true) at
    (c.gather_file.ensures.gathered at.trees at.gathered is)

pub returns-then-not-gather_file-clause-missed : goal.returns-then-not-gather_file-clause-missed
returns-then-not-gather_file-clause-missed g c = λ _.
    (let is : c.gather_file.result ≡ false = search rules in
    missed c.args.is_dirty _ _ _ _ _ _ _ _ _ _ _
    (file_at (λ file. file.now) c.args.files.now c.loop-file.file-index _ c.loop-file-test.true) c.loop-file.invariant.goes
    (c.gather_file.ensures.missed is))

pub returns-clause-gathered : goal.returns-clause-gathered
returns-clause-gathered g c = λ _. (
  c.loop-file.invariant.trees,
  ends c.args.is_dirty _ _ _ _ _ _ _ (none_left (λ file. file.now) c.args.files.now c.loop-file.file-index c.loop-file-test.false)
      c.loop-file.invariant.goes,
  c.loop-file.invariant.gathered,
)
