use Rattle.reg_words.specs.Internal.CommandRows.{rule_of_form}
use Rattle.reg_words.proofs.command.changing_commands.Goals as goal

pub returns : goal.returns
unfolding rule_of_form
returns c =
    let with_1 = c.subcommand.ensures _ _ c.saving_commands.ensures c.command_of.ensures in
    let with_2 = c.subcommand-2.ensures _ _ with_1 c.command_of-2.ensures in
    let with_3 = c.subcommand-3.ensures _ _ with_2 c.command_of-3.ensures in
    c.subcommand-4.ensures _ _ with_3 c.command_of-4.ensures
