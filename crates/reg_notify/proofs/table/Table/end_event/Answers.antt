use Rattle.std.proofs.Common.{◌≡◌, Bool, true, false, eqb, [], ◌∷◌, ◌++◌, refl, sym, ◌∙◌, subst}
use Rattle.std.proofs.lemmas.Bool.{eqb-true}
use Rattle.std.proofs.lemmas.Option.{MatchOption-at_none}
use Rattle.reg_notify.specs.declared.table.Table.{Table}
use Rattle.reg_notify.proofs.PlaceWalk.{IsWalked, walked-first, walked-up, walked-on, walked-all}
use Rattle.reg_notify.proofs.MarkedRows.{none-marked}
use Rattle.reg_notify.proofs.Removals.{class-small, none-left}
use Rattle.reg_notify.proofs.table.Table.end_event.Goals as goal

pub loop-byte-init : goal.loop-byte-init
loop-byte-init c = record {
  walked = subst (λ s. IsWalked c.args.place c.args.bits c.args.by s c.args.self.now c.end_hit.new.self) (sym c.end_hit.ensures.text)
      (walked-first c.args.place c.args.bits c.args.by c.into_text-text.result.items 32 c.args.self.now c.end_hit.new.self
      (λ n r fit. class-small r.filter r.subtree)
      c.into_text-text.ensures.clean c.requires c.into_text-text.ensures.text c.end_hit.ensures.ends);
  room = c.end_hit.ensures.room;
}

pub loop-byte-preserved : goal.loop-byte-preserved
loop-byte-preserved c =
    let p = c.args.place in
    let clean = c.into_text-text.ensures.clean in
    let before = subst (λ s. IsWalked p c.args.bits c.args.by s c.args.self.now c.loop-byte.self) c.in-Some.ensures.items c.loop-byte.invariant.walked in
    record {
      walked = subst (λ s. IsWalked p c.args.bits c.args.by s c.args.self.now c.end_above.new.self) (sym c.end_above.ensures.text)
          (by before (eqb c.in-Some.byte 92) refl);
      room = c.end_above.ensures.room;
    }
  where
    by : IsWalked c.args.place c.args.bits c.args.by (c.pop.new.self.items ++ c.in-Some.byte ∷ []) c.args.self.now c.loop-byte.self → (b : Bool) →
        eqb c.in-Some.byte 92 ≡ b → IsWalked c.args.place c.args.bits c.args.by c.pop.new.self.items c.args.self.now c.end_above.new.self
    by before true e =
        walked-up c.args.place c.args.bits c.args.by c.pop.new.self.items 32 c.args.self.now c.loop-byte.self c.end_above.new.self
        (λ n r fit. class-small r.filter r.subtree)
        c.into_text-text.ensures.clean
        (subst (λ b. IsWalked c.args.place c.args.bits c.args.by (c.pop.new.self.items ++ b ∷ []) c.args.self.now c.loop-byte.self)
        (eqb-true c.in-Some.byte 92 e) before) (c.end_above.ensures.above e)
    by before false e =
        subst (λ (t : Table). IsWalked c.args.place c.args.bits c.args.by c.pop.new.self.items c.args.self.now t) (sym (c.end_above.ensures.elsewhere e))
        (walked-on c.args.place c.args.bits c.args.by c.pop.new.self.items c.in-Some.byte c.args.self.now c.loop-byte.self c.into_text-text.ensures.clean e before)

pub returns : goal.returns
returns c =
    let none = none-left c.loop-byte.text (MatchOption-at_none _ _ c.in_default.is c.pop.ensures.cases).0 in
    walked-all c.args.place c.args.bits c.args.by c.args.self.now c.loop-byte.self
    (subst (λ s. IsWalked c.args.place c.args.bits c.args.by s c.args.self.now c.loop-byte.self) none c.loop-byte.invariant.walked)

pub returns-then-not-any_above : goal.returns-then-not-any_above
returns-then-not-any_above c =
    none-marked c.args.by c.args.bits c.args.place c.as_slice.result.now c.args.self.now c.requires (c.as_slice.ensures.value ∙ c.into_text-text.ensures.text)
    (sym c.any_above.ensures ∙ c.if-not-any_above.true)
