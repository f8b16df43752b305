use Rattle.std.proofs.Common.{◌≡◌, ◌++◌, chars, IsUtf8, length}
use Rattle.std.specs.Prelude.{flat_map}
use Rattle.std.specs.Str.Iter.{chars_rest}
use Rattle.reg_words.specs.ChangeWords.{character_bytes}
use Rattle.reg_words.proofs.typed.wide.push_text.Given as goal

abbrev pub invariant-loop-character : goal.invariant-loop-character
invariant-loop-character l = record {
  is_utf8 : IsUtf8 (chars_rest l.rest);
  bytes : l.bytes.items ++ flat_map character_bytes (chars (chars_rest l.rest))
      ≡ l.initial.bytes.items ++ flat_map character_bytes (chars l.text);
}

abbrev pub decreases-loop-character : goal.decreases-loop-character
decreases-loop-character l = length (chars_rest l.rest)
