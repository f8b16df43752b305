use Rattle.std.proofs.Common.{◌≡◌, ◌++◌, chars, IsUtf8, length, string_bytes}
use Rattle.std.specs.Prelude.{flat_map}
use Rattle.std.specs.Str.Iter.{chars_rest}
use Rattle.reg_words.specs.Settings.{character_in}
use Rattle.reg_words.proofs.settings.push_told.Given as goal

abbrev pub invariant-loop-character : goal.invariant-loop-character
invariant-loop-character l = record {
  is_utf8 : IsUtf8 (chars_rest l.rest);
  told : string_bytes l.text ++ flat_map (character_in l.setting) (chars (chars_rest l.rest))
      ≡ string_bytes l.initial.text ++ flat_map (character_in l.setting) (chars l.words);
}

abbrev pub decreases-loop-character : goal.decreases-loop-character
decreases-loop-character l = length (chars_rest l.rest)
