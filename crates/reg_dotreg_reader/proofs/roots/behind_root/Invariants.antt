use Rattle.std.proofs.Common.{◌≡◌, drop}
use Rattle.reg_dotreg_reader.specs.EntryMeanings.{behind_name}
use Rattle.reg_dotreg_reader.proofs.roots.behind_root.Given as goal

abbrev pub invariant-loop-letter : goal.invariant-loop-letter
invariant-loop-letter l = behind_name l.root l.units ≡ behind_name (drop l.letter-index l.root) l.rest
