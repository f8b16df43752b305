use Rattle.std.proofs.Common.{Option, sym, subst}
use Rattle.reg_tree_image.specs.FaultPlaces.{Spot}
use Rattle.reg_tree_image.specs.Internal.FaultSpots.{IsMetAt}
use Rattle.reg_tree_image.proofs.Readers.FaultSpots.{met-exit, class-unread, descriptor-unread, values-left}
use Rattle.reg_tree_image.proofs.key_parts.parts_from.Goals as goal

pub returns-in_err-class-clause-spots : goal.returns-in_err-class-clause-spots
returns-in_err-class-clause-spots c path seen t =
    met-exit _ (record { offset = c.args.key.now.class; path = path }) _ _ c.from_residual.ensures.1
    (class-unread _ c.args.minor path c.args.key.now seen _ (c.in_err-class.ensures.follows path seen t))

pub returns-in_err-descriptor-clause-spots : goal.returns-in_err-descriptor-clause-spots
returns-in_err-descriptor-clause-spots c path seen t =
    let d = c.in_ok-class.ensures.follows path seen t in
    met-exit _ (record { offset = c.args.key.now.security; path = path }) _ _ c.from_residual-in_err-descriptor.ensures.1
    (descriptor-unread _ c.args.minor path c.args.key.now seen _ d.after d.gives _ (c.in_err-descriptor.ensures.follows path d.after d.table))

pub returns-in_err-values-clause-spots : goal.returns-in_err-values-clause-spots
returns-in_err-values-clause-spots c path seen t =
    let d = c.in_ok-class.ensures.follows path seen t in
    let e = c.in_ok-descriptor.ensures.follows path d.after d.table in
    met-exit _ (record { offset = c.values_from.new.failed; path = path }) _ _ c.from_residual-in_err-values.ensures.1
    (subst (λ (there : Option Spot). IsMetAt c.in_err-values.field-0.0 (record { offset = c.values_from.new.failed; path = path }) there)
    (sym (values-left _ c.args.minor path c.args.key.now seen _ d.after d.gives _ e.after e.gives))
    (c.in_err-values.ensures.spots path e.after e.table))
