use Rattle.std.proofs.Common.{◌==◌, rules, length, not, subst, sym, ◌≤◌, ℕ}
use Rattle.std.proofs.lemmas.Iterator.{YieldsList-from_slice}
use Rattle.std.proofs.lemmas.Iterator.Search.{position_from_yields_List}
use Rattle.std.proofs.lemmas.List.Sums.{prefix_len-le-length}
use Rattle.std.specs.List.{position_or_len}
use Rattle.reg_names.proofs.PathParts.{unwrapped}
use Rattle.reg_tables.proofs.units.zero_place.Goals as goal

pub returns-clause-place : goal.returns-clause-place
returns-clause-place c =
    unwrapped (position_or_len (λ u. u == 0) c.args.units.now) (length c.args.units.now) _ _ (prefix_len-le-length (λ u. not (u == 0)) c.args.units.now)
    (position_from_yields_List (λ u. u == 0) _ _ _ c.position.ensures.ran (YieldsList-from_slice c.args.units.now (cc)) (λ x b q k. search rules)) c.unwrap_or.ensures

pub returns-clause-within : goal.returns-clause-within
returns-clause-within c =
    let place = unwrapped (position_or_len (λ u. u == 0) c.args.units.now) (length c.args.units.now) _ _ (prefix_len-le-length (λ u. not (u == 0)) c.args.units.now)
    (position_from_yields_List (λ u. u == 0) _ _ _ c.position.ensures.ran (YieldsList-from_slice c.args.units.now (cc)) (λ x b q k. search rules)) c.unwrap_or.ensures in
    subst (λ (n : ℕ). n ≤ length c.args.units.now) (sym place) (prefix_len-le-length (λ u. not (u == 0)) c.args.units.now)
