use Rattle.reg_names.specs.Names.{path_of}
use Rattle.reg_calls.proofs.PathFronts.{cut-more}
use Rattle.reg_calls.proofs.fronts.without_names.Goals as goal

pub loop-behind-preserved : goal.loop-behind-preserved
loop-behind-preserved c = record {
  valid = c.without_last-front.ensures.valid;
  rest = c.in-Some.ensures.valid;
  cut = cut-more (path_of c.args.path.now) (path_of c.args.names.now) (path_of c.loop-behind.front.now) (path_of c.loop-behind.rest.now) (path_of c.in-Some.behind.now) c.in-Some.field-0-0.now
      c.loop-behind.invariant.cut c.in-Some.ensures.names (path_of c.without_last-front.result.now) c.without_last-front.ensures.names;
}
