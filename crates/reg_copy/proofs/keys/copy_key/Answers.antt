use Rattle.std.proofs.Common.{ap, ◌∙◌}
use Rattle.std.specs.FinMap.{get, insert}
use Rattle.reg_heap.specs.Edits.{child_path}
use Rattle.reg_heap.specs.Paths.{Tree}
use Rattle.reg_tree.proofs.Invariant.CellReadings.{some_of}
use Rattle.reg_tree.proofs.BuildKey.BuiltTrees.{get-here}
use Rattle.reg_tree.proofs.InsertKey.LastDescribed.{insert-twice}
use Rattle.reg_copy.specs.Internal.Copying.{front_copy}
use Rattle.reg_copy.proofs.keys.copy_key.Goals as goal

pub copy_values-requires : goal.copy_values-requires
copy_values-requires c =
    let at = c.requires.there in
    let r = some_of _ (c.name-name.ensures.key at.0 at.1) in
    let there = c.requires.parent in
    let made = c.in_ok-copy.ensures.ok at.0 there.0 r.0 at.1 r.1 there.1 in
    record {
      bare = (
        at.0,
        child_path there.0 r.0.name,
        r.0,
        at.1,
        r.1,
        made.at,
        (
          c.args.marks,
          ap (λ (t : Tree). get t (child_path there.0 r.0.name)) made.tree
              ∙ get-here c.args.target.now.tree (child_path there.0 r.0.name) (front_copy c.args.marks 0 r.0),
        ),
      );
    }

pub returns-clause-ok : goal.returns-clause-ok
returns-clause-ok c p q r at e there =
    let made = c.in_ok-copy.ensures.ok p q r at e there in
    record {
      tree =
          c.in_ok-copy_values.ensures.ok p (child_path q r.name) r c.args.marks at e made.at
          (ap (λ (t : Tree). get t (child_path q r.name)) made.tree
          ∙ get-here c.args.target.now.tree (child_path q r.name) (front_copy c.args.marks 0 r))
          ∙ (ap (λ (t : Tree). insert t (child_path q r.name) (record r { marks = c.args.marks })) made.tree
          ∙ insert-twice c.args.target.now.tree (child_path q r.name) (front_copy c.args.marks 0 r) (record r { marks = c.args.marks }));
      at = c.in_ok-copy_values.ensures.nodes _ _ made.at;
      nodes = λ path node a. c.in_ok-copy_values.ensures.nodes path node (made.nodes path node a);
    }
