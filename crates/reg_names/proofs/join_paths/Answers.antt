use Rattle.reg_names.specs.declared.TheConstants.{PATH_LIMIT}
use Rattle.reg_names.proofs.PathJoins.{joined-names, joined-valid}
use Rattle.reg_names.proofs.join_paths.Goals as goal

pub returns-clause-names : goal.returns-clause-names
returns-clause-names c = joined-names c.args.above.now c.args.path.now _ _ _ _ c.in_ok-text.ensures.items c.in_ok-push_folded.ensures c.in_ok-push_backslash.ensures c.in_ok-push_folded-2.ensures

pub returns-clause-valid : goal.returns-clause-valid
returns-clause-valid c =
    joined-valid PATH_LIMIT c.args.above.now c.args.path.now c.push_folded-2.new.text.items c.requires.above c.requires.path
    (joined-names c.args.above.now c.args.path.now _ _ _ _ c.in_ok-text.ensures.items c.in_ok-push_folded.ensures c.in_ok-push_backslash.ensures c.in_ok-push_folded-2.ensures)
