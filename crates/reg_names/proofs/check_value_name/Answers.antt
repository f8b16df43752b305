use Rattle.reg_names.specs.declared.TheConstants.{VALUE_NAME_LIMIT}
use Rattle.reg_names.specs.Names.{is_value_name_byte}
use Rattle.reg_names.proofs.NamePrefixes.{fails, holds, bad, long, fine, value_is, value_not, value_long}
use Rattle.reg_names.proofs.check_value_name.Goals as goal

pub returns-then-not-are_value_name_bytes-clause-fault : goal.returns-then-not-are_value_name_bytes-clause-fault
returns-then-not-are_value_name_bytes-clause-fault c =
    bad is_value_name_byte VALUE_NAME_LIMIT c.args.name.now c.front.result.now c.are_value_name_bytes.result c.front.ensures c.are_value_name_bytes.ensures c.if-not-are_value_name_bytes.true

pub returns-then-not-are_value_name_bytes-clause-valid : goal.returns-then-not-are_value_name_bytes-clause-valid
returns-then-not-are_value_name_bytes-clause-valid c =
    value_not _ _ (fails is_value_name_byte VALUE_NAME_LIMIT c.args.name.now c.front.result.now c.are_value_name_bytes.result c.front.ensures c.are_value_name_bytes.ensures
    c.if-not-are_value_name_bytes.true)

pub returns-then-name-gt-VALUE_NAME_LIMIT-clause-fault : goal.returns-then-name-gt-VALUE_NAME_LIMIT-clause-fault
returns-then-name-gt-VALUE_NAME_LIMIT-clause-fault c =
    long is_value_name_byte VALUE_NAME_LIMIT c.args.name.now c.front.result.now c.are_value_name_bytes.result c.front.ensures c.are_value_name_bytes.ensures
    c.if-not-are_value_name_bytes.false c.if-name-gt-VALUE_NAME_LIMIT.true

pub returns-clause-fault : goal.returns-clause-fault
returns-clause-fault c =
    fine is_value_name_byte VALUE_NAME_LIMIT c.args.name.now c.front.result.now c.are_value_name_bytes.result c.front.ensures c.are_value_name_bytes.ensures
    c.if-not-are_value_name_bytes.false c.if-name-gt-VALUE_NAME_LIMIT.false

pub returns-clause-valid : goal.returns-clause-valid
returns-clause-valid c =
    value_is _ _ VALUE_NAME_LIMIT (holds is_value_name_byte VALUE_NAME_LIMIT c.args.name.now c.front.result.now c.are_value_name_bytes.result c.front.ensures
    c.are_value_name_bytes.ensures c.if-name-gt-VALUE_NAME_LIMIT.false c.if-not-are_value_name_bytes.false) c.if-name-gt-VALUE_NAME_LIMIT.false

pub returns-then-name-gt-VALUE_NAME_LIMIT-clause-valid : goal.returns-then-name-gt-VALUE_NAME_LIMIT-clause-valid
returns-then-name-gt-VALUE_NAME_LIMIT-clause-valid c = value_long _ _ VALUE_NAME_LIMIT c.if-name-gt-VALUE_NAME_LIMIT.true
