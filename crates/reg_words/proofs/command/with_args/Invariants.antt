use Rattle.std.proofs.Common.{take}
use Rattle.clap.specs.Words.{App}
use Rattle.reg_words.specs.Internal.Commands.{IsMade}
use Rattle.reg_words.specs.Internal.CommandRows.{with_rules}
use Rattle.reg_words.proofs.command.with_args.Given as goal

abbrev pub invariant-loop-row : goal.invariant-loop-row
invariant-loop-row l = (app : App) → IsMade app l.fn.command → IsMade (with_rules app (take l.row-index l.rows)) l.command
