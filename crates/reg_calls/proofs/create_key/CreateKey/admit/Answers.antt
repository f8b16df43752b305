use Rattle.std.proofs.Common.{refl}
use Rattle.reg_calls.proofs.FoundPaths.{found-at, found-from, found-text, made-short, missing-at}
use Rattle.reg_calls.proofs.create_key.CreateKey.admit.Goals as goal

pub returns-in-Ok-path_below-clause-admitted : goal.returns-in-Ok-path_below-clause-admitted
returns-in-Ok-path_below-clause-admitted g c =
    let k = c.in-Ok.ensures.key in
    let found = c.in-Ok.ensures.found in
    let few = found.few c.in-Ok.found.0.node c.args.path.now found.walked k.target.path k.node in
    let text = c.in-Ok-path_below.ensures in
    let short = made-short c.args.store.now c.args.session c.args.handle k.target c.in-Ok.found.0.path.now c.args.path.now k.path c.root.ensures.shallow c.requires.ready.stand few in
    record {
      clear = c.in-Ok.ensures.clear;
      text = found-text c.args.store.now c.args.session c.args.handle k.target c.in-Ok.found.0.path.now c.args.path.now k.path c.in-Ok-path_below.text.items text.names (text.valid short) text.folded;
      from = c.in-Ok.found.0.node;
      at = found-at c.args.store.now c.args.session c.args.handle k.target c.in-Ok.found.0.node k.node;
      reached = found.walked;
      missing = missing-at c.args.store.now c.args.session c.args.handle k.target c.args.path.now c.in-Ok.found.1.missing.now (found.missing k.target.path k.node);
      few = found.few;
      there = λ none. found-from c.args.store.now c.args.session c.args.handle k.target c.args.path.now c.in-Ok.found.1.node (found.there k.target.path k.node none);
    }

pub returns-in-Err-path_below-clause-refused : goal.returns-in-Err-path_below-clause-refused
returns-in-Err-path_below-clause-refused g c = (c.in-Ok.ensures.clear, refl, c.in-Ok.ensures.asked)
