use Rattle.std.proofs.Common.{◌≡◌, ◌++◌, drop, string_bytes}
use Rattle.std.specs.Prelude.{flat_map}
use Rattle.reg_words.specs.Completions.{bash_name}
use Rattle.reg_words.specs.Settings.{name_of}
use Rattle.reg_words.proofs.scripts.bash.push_names.Given as goal

abbrev pub invariant-loop-command : goal.invariant-loop-command
invariant-loop-command l =
    string_bytes l.text ++ flat_map (λ command. bash_name (name_of command)) (drop l.command-index l.commands) ≡ string_bytes l.initial.text ++
    flat_map (λ command. bash_name (name_of command)) l.commands
