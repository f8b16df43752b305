use Rattle.std.proofs.Common.{◌∙◌, subst, sym}
use Rattle.reg_sessions.specs.Checkpoints.{IsCutDue}
use Rattle.reg_sessions.specs.Locked.{Held, book_of, booked_of}
use Rattle.reg_sessions.proofs.Admitted.{admitted_cut}
use Rattle.reg_sessions.proofs.Rings.{ahead_cut}
use Rattle.reg_sessions.proofs.locked.Locked.checkpoint.Goals as goal

pub invariant_of-self-2 : goal.invariant_of-self-2
invariant_of-self-2 g c = (
  admitted_cut (booked_of c.self.inside.hive) (booked_of c.checkpoint.new.hive) c.self.invariant.0 c.in-Ok.ensures.cut c.checkpoint.ensures.seats c.in-Ok.ensures.noted,
  ahead_cut c.self.inside.lines.items _ _ c.in-Ok.ensures.cut c.self.invariant.1,
  c.self.invariant.2 ∙ sym c.checkpoint.ensures.seats,
)

pub returns-in-Some-clause-err : goal.returns-in-Some-clause-err
returns-in-Some-clause-err g c =
    subst (λ (b : Held). IsCutDue (book_of b) c.args.number c.args.sessions.now c.told.result) c.self.view_is
    (c.told.ensures (booked_of c.self.inside.hive) c.args.number c.args.sessions.now (sym c.cut_fault.ensures ∙ c.in-Some.is))
