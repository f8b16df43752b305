use Rattle.std.proofs.lemmas.Result.{err_from_is_err_and}
use Rattle.reg_names.specs.declared.TheConstants.{PATH_LIMIT}
use Rattle.reg_names.proofs.PathParts.{starts, empty-fault, empty-valid, bad-fault, bad-valid, last-fault, last-valid, next, over-fault, over-valid}
use Rattle.reg_names.proofs.check_path.Goals as goal

pub returns-then-is_empty-clause-fault : goal.returns-then-is_empty-clause-fault
returns-then-is_empty-clause-fault c = empty-fault PATH_LIMIT c.args.path.now c.is_empty.result c.is_empty.ensures c.if-is_empty.true

pub returns-then-is_empty-clause-valid : goal.returns-then-is_empty-clause-valid
returns-then-is_empty-clause-valid c = empty-valid PATH_LIMIT c.args.path.now c.is_empty.result c.is_empty.ensures c.if-is_empty.true

pub loop-number-init : goal.loop-number-init
loop-number-init c = starts PATH_LIMIT c.args.path.now c.is_empty.result c.is_empty.ensures c.if-is_empty.false

pub loop-number-preserved : goal.loop-number-preserved
loop-number-preserved c =
    next PATH_LIMIT c.loop-number._number c.args.path.now c.loop-number.rest.now c.loop-number.invariant
    c.first_length-length.result c.loop-number-test.true c.first_length-length.ensures
    c.in_ok-check_key_name.ensures.fault c.in_ok-check_key_name.ensures.valid c.if-length-rest.false

pub returns-in_err-check_key_name-clause-fault : goal.returns-in_err-check_key_name-clause-fault
returns-in_err-check_key_name-clause-fault c =
    let p = err_from_is_err_and c.from_residual.result c.from_residual.ensures.1 in
    rw (p.1, p.2) (bad-fault PATH_LIMIT c.loop-number._number c.args.path.now c.loop-number.rest.now c.loop-number.invariant
    c.first_length-length.result c.loop-number-test.true c.first_length-length.ensures _ c.in_err-check_key_name.ensures.fault)

pub returns-in_err-check_key_name-clause-valid : goal.returns-in_err-check_key_name-clause-valid
returns-in_err-check_key_name-clause-valid c =
    let p = err_from_is_err_and c.from_residual.result c.from_residual.ensures.1 in
    rw (p.1) (bad-valid PATH_LIMIT c.loop-number._number c.args.path.now c.loop-number.rest.now c.loop-number.invariant
    c.first_length-length.result c.loop-number-test.true c.first_length-length.ensures c.in_err-check_key_name.ensures.valid)

pub returns-then-length-rest-clause-fault : goal.returns-then-length-rest-clause-fault
returns-then-length-rest-clause-fault c =
    last-fault PATH_LIMIT c.loop-number._number c.args.path.now c.loop-number.rest.now c.loop-number.invariant
    c.first_length-length.result c.loop-number-test.true c.first_length-length.ensures
    c.in_ok-check_key_name.ensures.fault c.if-length-rest.true

pub returns-then-length-rest-clause-valid : goal.returns-then-length-rest-clause-valid
returns-then-length-rest-clause-valid c =
    last-valid PATH_LIMIT c.loop-number._number c.args.path.now c.loop-number.rest.now c.loop-number.invariant
    c.first_length-length.result c.loop-number-test.true c.first_length-length.ensures
    c.in_ok-check_key_name.ensures.valid c.if-length-rest.true

pub returns-clause-fault : goal.returns-clause-fault
returns-clause-fault c = over-fault PATH_LIMIT c.loop-number._number c.args.path.now c.loop-number.rest.now c.loop-number.invariant c.loop-number-test.false

pub returns-clause-valid : goal.returns-clause-valid
returns-clause-valid c = over-valid PATH_LIMIT c.loop-number._number c.args.path.now c.loop-number.rest.now c.loop-number.invariant c.loop-number-test.false
