use Rattle.std.proofs.Common.{◌≡◌, ◌++◌, drop, false}
use Rattle.reg_dotreg_writer.specs.Internal.Pieces.{plain}
use Rattle.reg_dotreg_writer.proofs.encoding.push_plain_wide.Given as goal

abbrev pub invariant-loop-character : goal.invariant-loop-character
invariant-loop-character l = l.bytes.items ++ plain false (drop l.character-index l.part) ≡ l.initial.bytes.items ++ plain false l.part
