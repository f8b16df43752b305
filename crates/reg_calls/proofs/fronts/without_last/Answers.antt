use Rattle.std.proofs.Common.{◌≡◌, ℕ, drop, true, arith, subst}
use Rattle.reg_names.specs.declared.TheConstants.{PATH_LIMIT}
use Rattle.reg_names.specs.Names.{has_no_backslash}
use Rattle.reg_calls.proofs.PathFronts.{front-at, front-none, no-names}
use Rattle.reg_calls.proofs.fronts.without_last.Goals as goal

pub returns-then-start-eq0-clause-names : goal.returns-then-start-eq0-clause-names
returns-then-start-eq0-clause-names c =
    front-none c.args.path.now (subst (λ (n : ℕ). has_no_backslash (drop n c.args.path.now) ≡ true) c.if-start-eq0.true c.last_start-start.ensures.name)

pub returns-then-start-eq0-clause-valid : goal.returns-then-start-eq0-clause-valid
returns-then-start-eq0-clause-valid c = no-names PATH_LIMIT

pub returns-clause-names : goal.returns-clause-names
returns-clause-names c =
    let s = c.last_start-start.ensures in
    let some = c.if-start-eq0.false in
    (front-at PATH_LIMIT c.args.path.now c.last_start-start.result s.within s.name s.backslash c.requires (omega (arith, some))).names

pub returns-clause-valid : goal.returns-clause-valid
returns-clause-valid c =
    let s = c.last_start-start.ensures in
    let some = c.if-start-eq0.false in
    (front-at PATH_LIMIT c.args.path.now c.last_start-start.result s.within s.name s.backslash c.requires (omega (arith, some))).valid
