use Rattle.std.proofs.Common.{arith}
use Rattle.reg_tables.proofs.TimelineTexts.{gathered_more}
use Rattle.reg_tables.proofs.timeline.Timeline.gather.Goals as goal

pub returns : goal.returns
returns c = λ trees g. gathered_more trees _ _ _ _ _ g (omega arith) c.in_ok-gather_keys.ensures
