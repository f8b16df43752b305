use Rattle.std.proofs.Common.{refl}
use Rattle.reg_calls.proofs.HandleLookUps.{lent, lent-text, lent-node}
use Rattle.reg_calls.proofs.store.Store.key_of.Goals as goal

pub returns : goal.returns
returns c = record {
  target = lent c.args.self.now c.args.session c.args.handle c.in-Some.found c.in-Some-target.target c.in-Some.ensures.handle c.in-Some-target.is;
  mask = refl;
  path = refl;
  text = lent-text c.in-Some.found c.in-Some-target.target c.in-Some.ensures.path c.in-Some-target.is;
  node = lent-node c.args.self.now c.in-Some.found c.in-Some-target.target c.requires c.in-Some.ensures.payload c.in-Some-target.is;
}
