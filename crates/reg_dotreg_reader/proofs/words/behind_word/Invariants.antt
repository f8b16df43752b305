use Rattle.std.proofs.Common.{◌≡◌, drop}
use Rattle.reg_dotreg_reader.specs.EntryWords.{behind_word}
use Rattle.reg_dotreg_reader.proofs.words.behind_word.Given as goal

abbrev pub invariant-loop-letter : goal.invariant-loop-letter
invariant-loop-letter l = behind_word l.word l.units ≡ behind_word (drop l.letter-index l.word) l.rest
