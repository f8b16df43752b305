use Rattle.std.proofs.Common.{◌≡◌, ◌++◌, drop, string_bytes}
use Rattle.std.specs.Prelude.{flat_map}
use Rattle.reg_words.specs.Manuals.{command_section}
use Rattle.reg_words.proofs.page.push_sections.Given as goal

abbrev pub invariant-loop-command : goal.invariant-loop-command
invariant-loop-command l =
    string_bytes l.text ++ flat_map command_section (drop l.command-index l.commands) ≡ string_bytes l.initial.text ++ flat_map command_section
    l.commands
