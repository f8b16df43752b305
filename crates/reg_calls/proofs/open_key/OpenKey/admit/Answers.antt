use Rattle.std.proofs.Common.{refl}
use Rattle.reg_calls.proofs.FoundPaths.{found-from, found-text, is-empty, there-short}
use Rattle.reg_calls.proofs.open_key.OpenKey.admit.Goals as goal

pub returns-then-is_empty-clause-admitted : goal.returns-then-is_empty-clause-admitted
returns-then-is_empty-clause-admitted g c =
    let k = c.in-Ok.ensures.key in
    let found = c.in-Ok.ensures.found k.target.path k.node in
    record {
      clear = c.in-Ok.ensures.clear;
      by = refl;
      text = record { target = k.target; empty = is-empty c.args.path.now _ c.is_empty.ensures c.if-is_empty.true };
      node = found-from c.args.store.now c.args.session c.args.handle k.target c.args.path.now c.in-Ok.found.1 found.0;
    }

pub returns-in-Ok-path_below-clause-admitted : goal.returns-in-Ok-path_below-clause-admitted
returns-in-Ok-path_below-clause-admitted g c =
    let k = c.in-Ok.ensures.key in
    let found = c.in-Ok.ensures.found k.target.path k.node in
    let text = c.in-Ok-path_below.ensures in
    let short = there-short c.args.store.now c.args.session c.args.handle k.target c.in-Ok.found.0.path.now c.args.path.now k.path c.root.ensures.shallow found.1 in
    record {
      clear = c.in-Ok.ensures.clear;
      by = refl;
      text = found-text c.args.store.now c.args.session c.args.handle k.target c.in-Ok.found.0.path.now c.args.path.now k.path c.in-Ok-path_below.text.items text.names (text.valid short) text.folded;
      node = found-from c.args.store.now c.args.session c.args.handle k.target c.args.path.now c.in-Ok.found.1 found.0;
    }

pub returns-in-Err-path_below-clause-refused : goal.returns-in-Err-path_below-clause-refused
returns-in-Err-path_below-clause-refused g c = (c.in-Ok.ensures.clear, refl, c.in-Ok.ensures.asked)
