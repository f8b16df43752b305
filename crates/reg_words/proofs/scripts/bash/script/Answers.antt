use Rattle.std.proofs.Common.{ap, List}
use Rattle.std.specs.Prelude.{flat_map}
use Rattle.clap.specs.declared.builder.command.Command.{Command}
use Rattle.reg_words.specs.Settings.{name_of, commands_of}
use Rattle.reg_words.specs.Completions.{bash_name, bash_case, bash_text}
use Rattle.reg_words.specs.declared.scripts.bash.TheConstants.{FRONT, MIDDLE, BACK}
use Rattle.reg_words.proofs.ToldPieces.{four, begun, piece}
use Rattle.reg_words.proofs.scripts.bash.script.Goals as goal

pub returns : goal.returns
unfolding bash_text
returns c =
    let commands = commands_of c.args.command.now in
    begun FRONT.now _ _ _ c.in_ok-text.ensures.ok
    (four (flat_map (λ (sub : Command). bash_name (name_of sub)) commands) MIDDLE.now (flat_map bash_case commands) BACK.now
    _ _ _ _ _ (piece _ _ _ _ c.in_ok-push_names.ensures
    (ap (λ (xs : List Command). flat_map (λ (sub : Command). bash_name (name_of sub)) xs) c.get_subcommands.ensures))
    c.in_ok-push_str.ensures.bytes
    (piece _ _ _ _ c.in_ok-push_cases.ensures (ap (λ (xs : List Command). flat_map bash_case xs) c.get_subcommands-2.ensures))
    c.in_ok-push_str-2.ensures.bytes)
