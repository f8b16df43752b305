use Rattle.std.proofs.Common.{sym, subst, List, ℕ, ◌<◌, arith}
use Rattle.std.proofs.lemmas.Bool.Decides.{nat_tests}
use Rattle.std.proofs.lemmas.Bool.{MatchBool-at_true, MatchBool-at_false}
use Rattle.reg_heap.specs.Kinds.{times}
use Rattle.reg_arena.specs.Cells.{cell_at}
use Rattle.reg_written.specs.SecurityRings.{IsRingOf}
use Rattle.reg_written.proofs.RingRounds.{first-used, no-ring}
use Rattle.reg_written.proofs.ring.ring_of.Goals as goal

pub returns-then-not-branch : goal.returns-then-not-branch
returns-then-not-branch c =
    let way = c.start-walk.ensures.way c.args.used.now c.in_ok-uses_of.ensures in
    no-ring (cell_at c.args.bins.now) c.args.used.now c.start-walk.result.at c.start-walk.result.before way.closes
    (subst (λ (k : ℕ). 0 < times k c.args.used.now) (sym c.start-walk.ensures.first) (first-used c.args.used.now (grind (arith, nat_tests))))
    (MatchBool-at_false _ _ c.if-not-branch.true (c.in_ok-go_round.ensures c.args.used.now way))

pub returns : goal.returns
returns c =
    let way = c.start-walk.ensures.way c.args.used.now c.in_ok-uses_of.ensures in
    subst (λ (ring : List ℕ). IsRingOf (cell_at c.args.bins.now) c.args.used.now ring) (sym c.into_ring.ensures)
    (MatchBool-at_true _ _ c.if-not-branch.false (c.in_ok-go_round.ensures c.args.used.now way))
