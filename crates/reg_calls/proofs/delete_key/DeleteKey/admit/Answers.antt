use Rattle.std.proofs.Common.{refl}
use Rattle.reg_calls.proofs.FoundPaths.{found-at, found-from, found-text, there-short}
use Rattle.reg_calls.proofs.delete_key.DeleteKey.admit.Goals as goal

pub returns-in-Ok-path_below-clause-admitted : goal.returns-in-Ok-path_below-clause-admitted
returns-in-Ok-path_below-clause-admitted g c =
    let k = c.in-Ok.ensures.key in
    let found = c.in-Ok.ensures.found in
    let node = found.node k.target.path k.node in
    let text = c.in-Ok-path_below.ensures in
    let short = there-short c.args.store.now c.args.session c.args.handle k.target c.in-Ok.found.0.path.now c.args.path.now k.path c.root.ensures.shallow node.1 in
    record {
      clear = c.in-Ok.ensures.clear;
      text = found-text c.args.store.now c.args.session c.args.handle k.target c.in-Ok.found.0.path.now c.args.path.now k.path c.in-Ok-path_below.text.items text.names (text.valid short) text.folded;
      from = c.in-Ok.found.0.node;
      at = found-at c.args.store.now c.args.session c.args.handle k.target c.in-Ok.found.0.node k.node;
      reached = found.walked;
      below = found.below;
      there = found.there;
      goes = found.goes;
      node = found-from c.args.store.now c.args.session c.args.handle k.target c.args.path.now c.in-Ok.found.1.node node.0;
    }

pub returns-in-Err-path_below-clause-refused : goal.returns-in-Err-path_below-clause-refused
returns-in-Err-path_below-clause-refused g c = (c.in-Ok.ensures.clear, refl, c.in-Ok.ensures.asked)
