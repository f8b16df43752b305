use Rattle.std.proofs.Common.{subst, sym}
use Rattle.std.specs.Prelude.{Result, IfOk}
use Rattle.std.specs.declared.alloc.AllocError.{AllocError}
use Rattle.clap.specs.declared.builder.command.Command.{Command}
use Rattle.reg_words.specs.CommandShapes.{regtool}
use Rattle.reg_words.specs.Internal.CommandRows.{rule_of_form}
use Rattle.reg_words.specs.Internal.Commands.{IsCommand}
use Rattle.reg_words.proofs.command.whole_command.Goals as goal

pub returns : goal.returns
unfolding regtool rule_of_form
returns c =
    let with_1 = c.subcommand.ensures _ _ c.changing_commands.ensures c.command_of.ensures in
    let with_2 = c.subcommand-2.ensures _ _ with_1 c.command_of-2.ensures in
    let with_3 = c.subcommand-3.ensures _ _ with_2 c.command_of-3.ensures in
    subst (λ (r : Result Command AllocError). IfOk r (IsCommand regtool)) (sym c.finish.ensures) with_3
