use Rattle.reg_dotreg_writer.proofs.EntryUnits.{lone_last, lone_first, behind_pair}
use Rattle.reg_dotreg_writer.proofs.units.behind_first.Goals as goal

pub behind_lone-requires : goal.behind_lone-requires
behind_lone-requires c = lone_last c.args.first c.args.rest.now c.in_default.ensures.cases

pub returns-then-is_high-is_low : goal.returns-then-is_high-is_low
returns-then-is_high-is_low c =
    let h = c.is_high.ensures in
    let l = c.is_low.ensures in
    let t = c.if-is_high-is_low.true in
    behind_pair c.args.first c.in-Some.next.now c.args.rest.now c.in-Some.behind.now c.in-Some.ensures.cases.0 (rw (← h, ← l) t)

pub behind_lone-requires-2 : goal.behind_lone-requires-2
behind_lone-requires-2 c =
    let h = c.is_high.ensures in
    let l = c.is_low.ensures in
    let t = c.if-is_high-is_low.false in
    lone_first c.args.first c.in-Some.next.now c.args.rest.now c.in-Some.behind.now c.in-Some.ensures.cases.0 (rw (← h, ← l) t)
