use Rattle.reg_words.specs.Internal.CommandRows.{rule_of_form}
use Rattle.reg_words.proofs.command.looking_commands.Goals as goal

pub returns : goal.returns
unfolding rule_of_form
returns c =
    let with_1 = c.subcommand.ensures _ _ c.stream_commands.ensures c.command_of.ensures in
    let with_2 = c.subcommand-2.ensures _ _ with_1 c.command_of-2.ensures in
    c.subcommand-3.ensures _ _ with_2 c.command_of-3.ensures
