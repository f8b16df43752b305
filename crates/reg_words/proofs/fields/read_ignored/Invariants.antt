use Rattle.std.proofs.Common.{◌≡◌, length}
use Rattle.reg_words.specs.FieldLists.{ignored_in}
use Rattle.reg_words.proofs.FieldLemmas.{joined_fields}
use Rattle.reg_words.proofs.fields.read_ignored.Given as goal

abbrev pub invariant-loop-at : goal.invariant-loop-at
invariant-loop-at l = ignored_in l.text ≡ joined_fields l.ignored (ignored_in l.rest)

abbrev pub decreases-loop-at : goal.decreases-loop-at
decreases-loop-at l = length l.rest
