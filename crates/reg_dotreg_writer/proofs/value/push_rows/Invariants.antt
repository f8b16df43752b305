use Rattle.std.proofs.Common.{◌≡◌, ◌++◌, length}
use Rattle.reg_dotreg_writer.specs.EntryTexts.{hex_from, hex_rows}
use Rattle.reg_dotreg_writer.specs.Internal.Pieces.{plain}
use Rattle.reg_dotreg_writer.proofs.value.push_rows.Given as goal

abbrev pub invariant-loop-byte : goal.invariant-loop-byte
invariant-loop-byte l = l.bytes.items ++ plain l.is_utf8 (hex_from l.room l.rest) ≡ l.initial.bytes.items ++ plain l.is_utf8 (hex_rows l.content)

abbrev pub decreases-loop-byte : goal.decreases-loop-byte
decreases-loop-byte l = length l.rest
