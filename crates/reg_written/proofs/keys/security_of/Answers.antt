use Rattle.std.proofs.Common.{sym}
use Rattle.reg_arena.specs.Cells.{cell_at}
use Rattle.reg_written.proofs.KeysWritten.{security-is, no-fault}
use Rattle.reg_written.proofs.keys.security_of.Goals as goal

pub returns-in-Ok : goal.returns-in-Ok
returns-in-Ok c = sym (security-is (cell_at c.args.bins.now) 0 c.args.key c.requires c.content.result.now _ c.content.ensures c.in-Ok.ensures)

pub returns-in-Err : goal.returns-in-Err
returns-in-Err c = absurd (no-fault (cell_at c.args.bins.now) 0 c.args.key c.requires c.content.result.now _ c.content.ensures c.in-Err.ensures)
