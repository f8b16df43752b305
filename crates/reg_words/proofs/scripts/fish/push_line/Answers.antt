use Rattle.std.proofs.Common.{ap, ◌∙◌, ℕ}
use Rattle.std.specs.Prelude.{Option}
use Rattle.std.proofs.lemmas.Result.{on_ok_weaker}
use Rattle.reg_words.specs.Settings.{words_of}
use Rattle.reg_words.specs.Manuals.{action_of}
use Rattle.reg_words.specs.Completions.{fish_line, fish_names, fish_value, fish_told}
use Rattle.reg_words.specs.declared.scripts.fish.TheConstants.{OPTION}
use Rattle.reg_words.proofs.ToldPieces.{five, piece}
use Rattle.reg_words.proofs.scripts.fish.push_line.Goals as goal

pub returns : goal.returns
unfolding fish_line
returns c =
    let argument = c.args.argument.now in
    on_ok_weaker c.push_help.result
    (λ n. five OPTION.now c.args.name.now (fish_names argument.short c.args.long.now) (fish_value (action_of argument))
    (fish_told (words_of argument.help)) _ _ _ _ _ _
    c.in_ok-push_str.ensures.bytes c.in_ok-push_str-2.ensures.bytes
    (piece _ _ _ _ c.in_ok-push_names.ensures (ap (λ (s : Option ℕ). fish_names s c.args.long.now) c.get_short.ensures))
    (piece _ _ _ _ c.in_ok-push_value.ensures (ap fish_value c.get_action.ensures))
    (piece _ _ _ _ n (ap fish_told (c.words.ensures ∙ ap words_of c.get_help.ensures))))
    c.push_help.ensures
