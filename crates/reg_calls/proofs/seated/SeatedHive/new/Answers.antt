use Rattle.std.proofs.Common.{◌≡◌, ◌∙◌, ◌⊎◌, ap, sym, arith, inl, inr, refl, Ok, Err}
use Rattle.std.specs.Prelude.{Result, IfErr}
use Rattle.std.specs.Result.{IsErrAnd}
use Rattle.reg_journal.specs.declared.SeatFault.{SeatFault}
use Rattle.reg_journal.specs.declared.SeatFault.TheVariants.{Seated, Count, Memory}
use Rattle.reg_calls.specs.Views.{View}
use Rattle.reg_calls.proofs.SharesOfHives.{fresh-seated}
use Rattle.reg_calls.proofs.seated.SeatedHive.new.Goals as goal

not-counted : (fault : SeatFault) → (fault ≡ Count → ⊥) → (fault ≡ Seated) ⊎ (fault ≡ Memory)
not-counted Seated other = inl refl
not-counted Count other = absurd (other refl)
not-counted Memory other = inr refl

failed-seat : {T : Type 0} (r : Result T SeatFault) (fault : SeatFault) → IsErrAnd r (λ y. y ≡ fault) → (fault ≡ Count → ⊥) →
    IfErr r (λ y. (y ≡ Seated) ⊎ (y ≡ Memory))
failed-seat (Ok x) fault h other = tt
failed-seat (Err y) fault h other = not-counted y (λ e. other (sym h ∙ e))

pub returns-in_err-shares-clause-err : goal.returns-in_err-shares-clause-err
returns-in_err-shares-clause-err g c = failed-seat _ _ c.from_residual.ensures.1 (λ e.
    let k = c.in_err-shares.ensures.count.0 (ap (λ (x : SeatFault). Err x) e) in
    elim k.1 [ inl z ↦ omega (arith, z) | inr l ↦ omega (arith, l) ])

pub invariant_of-result : goal.invariant_of-result
invariant_of-result g c = record {
  seated = fresh-seated _ _ _ c.in_ok-shares.ensures.seated (ap (λ (v : View). v.journal) c.in_ok-shares.ensures.view ∙ c.in_ok-shares.ensures.first)
      c.in_ok-shares.ensures.shares;
}
