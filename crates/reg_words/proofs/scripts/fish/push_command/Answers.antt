use Rattle.std.proofs.Common.{ap, ◌∙◌, ℕ, List}
use Rattle.std.specs.Borrow.{Bor}
use Rattle.std.specs.Prelude.{flat_map}
use Rattle.std.proofs.lemmas.Result.{on_ok_weaker}
use Rattle.clap.specs.declared.builder.arg.Arg.{Arg}
use Rattle.reg_words.specs.Settings.{words_of, name_of, about_of, arguments_of}
use Rattle.reg_words.specs.Completions.{fish_command, fish_option, fish_told}
use Rattle.reg_words.specs.declared.scripts.fish.TheConstants.{COMMAND}
use Rattle.reg_words.proofs.ToldPieces.{four, piece}
use Rattle.reg_words.proofs.scripts.fish.push_command.Goals as goal

pub returns : goal.returns
unfolding fish_command
returns c =
    let command = c.args.command.now in
    on_ok_weaker c.push_options.result
    (λ n. four COMMAND.now (name_of command) (fish_told (about_of command)) (flat_map (fish_option (name_of command)) (arguments_of command))
    _ _ _ _ _ c.in_ok-push_str.ensures.bytes
    (piece _ _ _ _ c.in_ok-push_str-2.ensures.bytes (ap (λ (s : Bor (List ℕ)). s.now) c.get_name-name.ensures))
    (piece _ _ _ _ c.in_ok-push_help.ensures (ap fish_told (c.words.ensures ∙ ap words_of c.get_about.ensures)))
    (piece _ _ _ _ n (ap (λ (s : Bor (List ℕ)). flat_map (fish_option s.now) c.get_arguments.result.now) c.get_name-name.ensures
    ∙ ap (λ (xs : List Arg). flat_map (fish_option (name_of command)) xs) c.get_arguments.ensures)))
    c.push_options.ensures
