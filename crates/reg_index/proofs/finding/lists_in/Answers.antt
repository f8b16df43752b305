use Rattle.std.proofs.Common.{◌∙◌}
use Rattle.reg_index.proofs.ListsRead.{lists-head, root-count}
use Rattle.reg_index.proofs.finding.lists_in.Goals as goal

pub head_in-head-requires : goal.head_in-head-requires
head_in-head-requires c =
    let s = c.requires in
    let l = lists-head s.0 s.1 s.2 s.3 s.5 in
    (s.0, s.1, l.0, s.4, l.1)

pub returns-in-IndexRoot-clause-count : goal.returns-in-IndexRoot-clause-count
returns-in-IndexRoot-clause-count c = λ heap offset lists h here some. c.from.ensures ∙
    root-count heap offset lists c.head_in-head.result.form _ c.in-IndexRoot.is
    (c.head_in-head.ensures.form heap offset here) (c.head_in-head.ensures.count heap offset here) h some
