use Rattle.std.proofs.Common.{◌≡◌, sym, subst}
use Rattle.std.specs.Prelude.{bit_and}
use Rattle.reg_tree.proofs.Invariant.CellReadings.{some_of}
use Rattle.reg_copy.proofs.copying.marks_of.Goals as goal

pub returns-clause-small : goal.returns-clause-small
returns-clause-small c =
    let at = c.requires in
    let r = some_of _ (c.name-name.ensures.key at.0 at.1) in
    subst (λ n. bit_and n 103 ≡ 0) (sym (c.marks.ensures at.0 at.1 r.0 r.1)) (c.root-root.ensures.limits.keys at.0 r.0 r.1).marks
