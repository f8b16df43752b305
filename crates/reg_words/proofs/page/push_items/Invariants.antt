use Rattle.std.proofs.Common.{◌≡◌, ◌++◌, drop, string_bytes}
use Rattle.std.specs.Prelude.{flat_map}
use Rattle.reg_words.specs.Manuals.{option_item}
use Rattle.reg_words.proofs.page.push_items.Given as goal

abbrev pub invariant-loop-argument : goal.invariant-loop-argument
invariant-loop-argument l =
    string_bytes l.text ++ flat_map option_item (drop l.argument-index l.arguments) ≡ string_bytes l.initial.text ++ flat_map option_item l.arguments
