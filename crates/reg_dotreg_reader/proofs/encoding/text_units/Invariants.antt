use Rattle.std.proofs.Common.{◌≡◌, ◌++◌, chars, IsUtf8, length}
use Rattle.std.specs.Prelude.{flat_map}
use Rattle.std.specs.Char.Escape.{encode_utf16}
use Rattle.std.specs.Str.Iter.{chars_rest}
use Rattle.reg_dotreg_reader.proofs.encoding.text_units.Given as goal

abbrev pub invariant-loop-character : goal.invariant-loop-character
invariant-loop-character l = record {
  is_utf8 : IsUtf8 (chars_rest l.rest);
  units : l.units.items ++ flat_map encode_utf16 (chars (chars_rest l.rest)) ≡ flat_map encode_utf16 (chars l.text);
}

abbrev pub decreases-loop-character : goal.decreases-loop-character
decreases-loop-character l = length (chars_rest l.rest)
