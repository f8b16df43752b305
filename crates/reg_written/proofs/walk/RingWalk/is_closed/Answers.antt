use Rattle.reg_written.proofs.LeftMaps.{empty-none, none-empty}
use Rattle.reg_written.proofs.walk.RingWalk.is_closed.Goals as goal

pub returns : goal.returns
returns c = (
  λ e. (c.if-self-first.false, c.if-self-last.false, empty-none c.args.self.now.left.entries (c.is_empty.ensures.0 e)),
  λ t. c.is_empty.ensures.1 (none-empty c.args.self.now.left.entries t.2),
)
