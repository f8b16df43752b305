use Rattle.std.proofs.Common.{refl}
use Rattle.reg_diff.proofs.KeysFound.{in-both}
use Rattle.reg_diff.proofs.diffing.diff.Goals as goal

pub returns-in_default-find_key-clause-err : goal.returns-in_default-find_key-clause-err
returns-in_default-find_key-clause-err g c = (c.in-Some.ensures.0, c.in-Some.ensures.1, c.in_default-find_key.ensures, refl)

pub write_diff-requires : goal.write_diff-requires
write_diff-requires g c =
    let b = in-both c.args.old.now.tree c.args.new.now.tree c.args.path.now _ _ c.in-Some.ensures.1 c.in-Some-find_key.ensures.1 in
    (b.path, b.old_key, b.new_key)

pub returns-in-Ok-clause-ok : goal.returns-in-Ok-clause-ok
returns-in-Ok-clause-ok g c =
    let b = in-both c.args.old.now.tree c.args.new.now.tree c.args.path.now _ _ c.in-Some.ensures.1 c.in-Some-find_key.ensures.1 in
    record {
      path = b.path;
      old_key = b.old_key;
      new_key = b.new_key;
      written = c.in-Ok.ensures.ok b.path b.old_key b.new_key;
      same = c.in-Ok.ensures.same b.path b.old_key b.new_key;
    }

pub returns-in-Err-clause-err : goal.returns-in-Err-clause-err
returns-in-Err-clause-err g c =
    let b = in-both c.args.old.now.tree c.args.new.now.tree c.args.path.now _ _ c.in-Some.ensures.1 c.in-Some-find_key.ensures.1 in
    (b.path, b.old_key, b.new_key, c.in-Err.ensures.err b.path b.old_key b.new_key)
