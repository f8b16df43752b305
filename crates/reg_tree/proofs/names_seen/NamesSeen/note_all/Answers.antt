use Rattle.std.proofs.Common.{arith}
use Rattle.reg_tree.proofs.ValueChange.NotedNames.{front-noted, front-all}
use Rattle.reg_tree.proofs.names_seen.NamesSeen.note_all.Goals as goal

pub loop-index-preserved : goal.loop-index-preserved
loop-index-preserved c = record {
  only = λ other is. c.loop-index.invariant.only other (c.note.ensures.noted other is);
  front = λ t.
      front-noted c.loop-index.self c.note.new.self c.args.key _ _ c.in-Some.value.name.now c.in-Some.value.kind c.in-Some.value.size c.note.ensures.noted c.note.ensures.expected c.note.ensures.kept
      (c.in-Some.ensures.told t) (c.loop-index.invariant.front t);
}

pub returns-clause-all : goal.returns-clause-all
returns-clause-all c = λ t.
    let past = c.loop-index-test.false in
    let many = c.count-index-end.ensures t in
    front-all c.loop-index.self c.args.key _ c.loop-index.index (omega (arith, past, many)) (c.loop-index.invariant.front t)
