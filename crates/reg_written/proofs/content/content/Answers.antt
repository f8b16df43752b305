use Rattle.std.proofs.Common.{◌+◌, arith, ◌∙◌, ap, take, drop}
use Rattle.reg_written.proofs.CellContents.{content-is}
use Rattle.reg_written.proofs.content.content.Goals as goal
use Rattle.reg_written.proofs.content.content.Goals.{then-size-lt8-via-then-size-lt8, then-size-lt8-via-else-size-lt8+then-at-size}

pub returns-then-at-bins : goal.returns-then-at-bins
returns-then-at-bins c held e = let h = content-is c.args.bins.now c.args.offset held e in absurd (omega (arith, h.eight, h.within))

pub returns-then-size-lt8 : goal.returns-then-size-lt8
returns-then-size-lt8 c held e =
    let h = content-is c.args.bins.now c.args.offset held e in
    elim c.then-size-lt8.branch [ then-size-lt8-via-then-size-lt8 w ↦ absurd (omega (arith, h.eight)) | then-size-lt8-via-else-size-lt8+then-at-size w ↦ absurd (omega (arith, h.within)) ]

pub returns : goal.returns
returns c held e =
    let h = content-is c.args.bins.now c.args.offset held e in
    ap (λ n. take n (drop (c.args.offset + 4) c.args.bins.now)) (omega (arith, c.size_at-size.ensures)) ∙ h.content
