use Rattle.std.proofs.Common.{◌≡◌, ◌++◌, drop}
use Rattle.std.specs.Prelude.{flat_map}
use Rattle.reg_dotreg_writer.specs.EntryTexts.{quoted_unit}
use Rattle.reg_dotreg_writer.specs.Internal.Pieces.{plain}
use Rattle.reg_dotreg_writer.proofs.value.push_between.Given as goal

abbrev pub invariant-loop-character : goal.invariant-loop-character
invariant-loop-character l =
    l.bytes.items ++ plain l.is_utf8 (flat_map quoted_unit (drop l.character-index l.text)) ≡
    l.initial.bytes.items ++ plain l.is_utf8 (flat_map quoted_unit l.text)
