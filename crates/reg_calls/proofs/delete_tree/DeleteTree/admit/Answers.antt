use Rattle.std.proofs.Common.{refl}
use Rattle.reg_calls.proofs.HandleLookUps.{target-has}
use Rattle.reg_calls.proofs.FoundPaths.{found-at, found-text, there-short}
use Rattle.reg_calls.proofs.FoundTrees.{goes-there}
use Rattle.reg_calls.proofs.delete_tree.DeleteTree.admit.Goals as goal

pub returns-in-Ok-roomy_path_below-clause-admitted : goal.returns-in-Ok-roomy_path_below-clause-admitted
returns-in-Ok-roomy_path_below-clause-admitted g c =
    let k = c.in-Ok.ensures.key in
    let goes = c.in-Ok.ensures.goes k.target.path k.node in
    let there = goes-there c.args.store.now.tree.tree k.target.path c.args.path.now (target-has c.args.store.now c.args.session c.args.handle k.target c.requires.stand) goes in
    let text = c.in-Ok-roomy_path_below.ensures in
    let short = there-short c.args.store.now c.args.session c.args.handle k.target c.in-Ok.found.0.path.now c.args.path.now k.path c.root.ensures.shallow there in
    record {
      clear = c.in-Ok.ensures.clear;
      text = found-text c.args.store.now c.args.session c.args.handle k.target c.in-Ok.found.0.path.now c.args.path.now k.path c.in-Ok-roomy_path_below.text.items text.names
          (text.valid short) text.folded;
      room = text.room;
      from = c.in-Ok.found.0.node;
      at = found-at c.args.store.now c.args.session c.args.handle k.target c.in-Ok.found.0.node k.node;
      target = c.in-Ok.ensures.found;
    }

pub returns-in-Err-roomy_path_below-clause-refused : goal.returns-in-Err-roomy_path_below-clause-refused
returns-in-Err-roomy_path_below-clause-refused g c = (c.in-Ok.ensures.clear, refl, c.in-Ok.ensures.asked)
