use Rattle.std.proofs.Common.{ap, ◌∙◌, List}
use Rattle.std.specs.Prelude.{flat_map}
use Rattle.clap.specs.declared.builder.command.Command.{Command}
use Rattle.reg_words.specs.Settings.{words_of, about_of, commands_of}
use Rattle.reg_words.specs.Manuals.{manual_text, command_section, paged}
use Rattle.reg_words.specs.declared.page.TheConstants.{FRONT, MIDDLE, BACK}
use Rattle.reg_words.proofs.ToldPieces.{four, begun, piece}
use Rattle.reg_words.proofs.page.manual_of.Goals as goal

pub returns : goal.returns
unfolding manual_text
returns c =
    let command = c.args.command.now in
    begun FRONT.now _ _ _ c.in_ok-text.ensures.ok
    (four (paged (about_of command)) MIDDLE.now (flat_map command_section (commands_of command)) BACK.now
    _ _ _ _ _ (piece _ _ _ _ c.in_ok-push_told.ensures (ap paged (c.words.ensures ∙ ap words_of c.get_about.ensures)))
    c.in_ok-push_str.ensures.bytes
    (piece _ _ _ _ c.in_ok-push_sections.ensures (ap (λ (xs : List Command). flat_map command_section xs) c.get_subcommands.ensures))
    c.in_ok-push_str-2.ensures.bytes)
