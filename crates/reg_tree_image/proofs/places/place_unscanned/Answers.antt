use Rattle.std.proofs.Common.{Some, sym, ap, ◌∙◌, subst, option_map}
use Rattle.reg_tree_image.specs.FaultPlaces.{keyless}
use Rattle.reg_tree_image.specs.Internal.CellScans.{IsNoScan}
use Rattle.reg_tree_image.proofs.Devices.PlacesFound.{bad-header, bad-size}
use Rattle.reg_tree_image.proofs.places.place_unscanned.Goals as goal

pub returns-in-Bins-clause-ok : goal.returns-in-Bins-clause-ok
returns-in-Bins-clause-ok c minor root =
    let n = subst (λ fault. IsNoScan c.args.bins.now fault) c.in-Bins.is c.requires.fault in
    ap Some (c.keyless_place.ensures ∙ ap keyless c.bad_header.ensures) ∙ sym (bad-header c.args.bins.now minor root n)

pub returns-in-Some-clause-ok : goal.returns-in-Some-clause-ok
returns-in-Some-clause-ok c minor root =
    let n = subst (λ fault. IsNoScan c.args.bins.now fault) c.in-Cells.is c.requires.fault in
    ap Some c.keyless_place-in-Some.ensures
    ∙ (ap (option_map keyless) (c.in-Some.ensures n.0 n.1) ∙ sym (bad-size c.args.bins.now minor root n.0 n.1 n.2))

pub returns-in-None-clause-ok : goal.returns-in-None-clause-ok
returns-in-None-clause-ok c minor root =
    let n = subst (λ fault. IsNoScan c.args.bins.now fault) c.in-Cells.is c.requires.fault in
    ap (option_map keyless) (c.in-None.ensures n.0 n.1) ∙ sym (bad-size c.args.bins.now minor root n.0 n.1 n.2)
