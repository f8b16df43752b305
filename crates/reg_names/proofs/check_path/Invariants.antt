use Rattle.reg_names.specs.declared.TheConstants.{PATH_LIMIT}
use Rattle.reg_names.proofs.PathParts.{Left}
use Rattle.reg_names.proofs.check_path.Given as goal

abbrev pub invariant-loop-number : goal.invariant-loop-number
invariant-loop-number l = Left PATH_LIMIT l._number l.path l.rest
