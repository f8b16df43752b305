use Rattle.std.proofs.Common.{◌≡◌, take}
use Rattle.reg_names.specs.Names.{hash}
use Rattle.reg_names.proofs.name_hash.Given as goal

abbrev pub invariant-loop-byte : goal.invariant-loop-byte
invariant-loop-byte l = l.hash ≡ hash (take l.byte-index l.name)
