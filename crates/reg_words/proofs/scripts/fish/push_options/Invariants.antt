use Rattle.std.proofs.Common.{◌≡◌, ◌++◌, drop, string_bytes}
use Rattle.std.specs.Prelude.{flat_map}
use Rattle.reg_words.specs.Completions.{fish_option}
use Rattle.reg_words.proofs.scripts.fish.push_options.Given as goal

abbrev pub invariant-loop-argument : goal.invariant-loop-argument
invariant-loop-argument l =
    string_bytes l.text ++ flat_map (fish_option l.name) (drop l.argument-index l.arguments) ≡ string_bytes l.initial.text ++ flat_map
    (fish_option l.name) l.arguments
