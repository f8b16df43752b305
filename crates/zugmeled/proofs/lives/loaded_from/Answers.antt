use Rattle.std.proofs.Common.{refl, sym, subst, Some, inr}
use Rattle.reg_calls.specs.Views.{View}
use Rattle.reg_calls.specs.HiveView.{view_of}
use Rattle.reg_image.specs.Loads.{IsLoaded}
use Rattle.reg_tree_image.specs.Loads.{TakesOwn}
use Rattle.zugmeled.proofs.Beginnings.{refused-of}
use Rattle.zugmeled.proofs.lives.loaded_from.Goals as goal

pub returns-in-Some-clause-loaded : goal.returns-in-Some-clause-loaded
returns-in-Some-clause-loaded c = let load = c.in-Ok.ensures in let same = c.in-Some.ensures in record {
  image = load.ok.0;
  rest = c.load.new.input.bytes.now;
  front = load.ok.1;
  is = subst (λ (v : View). IsLoaded load.ok.0 v) (sym same) load.ok.2;
  stands = subst (λ (v : View). TakesOwn v.keys.bins (Some c.args.bytes.now)) (sym same) load.stands;
}

pub returns-in-None-clause-fault : goal.returns-in-None-clause-fault
returns-in-None-clause-fault c =
    let load = c.in-Ok.ensures in inr (refl, (view_of c.in-Ok.hive).origin, (load.ok.0, c.load.new.input.bytes.now, load.ok.1, load.ok.2.tree))

pub returns-in-Err-clause-fault : goal.returns-in-Err-clause-fault
returns-in-Err-clause-fault c =
    let load = c.in-Err.ensures in
    refused-of c.args.bytes.now (Some c.load.new.input.bytes.now) c.in-Err.fault load.err load.failures load.own
