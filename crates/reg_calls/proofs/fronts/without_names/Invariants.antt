use Rattle.std.proofs.Common.{◌≡◌, length, true}
use Rattle.reg_names.specs.Names.{is_path, path_of}
use Rattle.reg_calls.proofs.PathFronts.{IsCutTo}
use Rattle.reg_calls.proofs.fronts.without_names.Given as goal

abbrev pub invariant-loop-behind : goal.invariant-loop-behind
invariant-loop-behind l = record {
  valid : is_path l.front ≡ true;
  rest : is_path l.rest ≡ true;
  cut : IsCutTo (path_of l.path) (path_of l.names) (path_of l.front) (path_of l.rest);
}

abbrev pub decreases-loop-behind : goal.decreases-loop-behind
decreases-loop-behind l = length l.rest
