use Rattle.std.proofs.Common.{◌≡◌, drop}
use Rattle.reg_dotreg_reader.specs.EntryWords.{behind_word}
use Rattle.reg_dotreg_reader.proofs.encoding.behind_mark.Given as goal

abbrev pub invariant-loop-byte : goal.invariant-loop-byte
invariant-loop-byte l = behind_word l.mark l.bytes ≡ behind_word (drop l.byte-index l.mark) l.rest
