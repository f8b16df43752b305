use Rattle.std.proofs.Common.{◌≡◌, ◌++◌, drop, string_bytes}
use Rattle.std.specs.Prelude.{flat_map}
use Rattle.reg_words.specs.Completions.{fish_command}
use Rattle.reg_words.proofs.scripts.fish.push_commands.Given as goal

abbrev pub invariant-loop-command : goal.invariant-loop-command
invariant-loop-command l =
    string_bytes l.text ++ flat_map fish_command (drop l.command-index l.commands) ≡ string_bytes l.initial.text ++ flat_map fish_command l.commands
