use Rattle.std.proofs.Common.{◌≡◌, ◌++◌, drop, string_bytes}
use Rattle.std.specs.Prelude.{flat_map}
use Rattle.reg_words.specs.Completions.{zsh_option}
use Rattle.reg_words.proofs.scripts.zsh.push_options.Given as goal

abbrev pub invariant-loop-argument : goal.invariant-loop-argument
invariant-loop-argument l =
    string_bytes l.text ++ flat_map zsh_option (drop l.argument-index l.arguments) ≡ string_bytes l.initial.text ++ flat_map zsh_option l.arguments
