use Rattle.std.proofs.Common.{◌≡◌, ◌++◌, drop, string_bytes}
use Rattle.std.specs.Prelude.{flat_map}
use Rattle.reg_words.specs.Manuals.{place_words}
use Rattle.reg_words.proofs.page.push_places.Given as goal

abbrev pub invariant-loop-argument : goal.invariant-loop-argument
invariant-loop-argument l =
    string_bytes l.text ++ flat_map place_words (drop l.argument-index l.arguments) ≡ string_bytes l.initial.text ++ flat_map place_words l.arguments
