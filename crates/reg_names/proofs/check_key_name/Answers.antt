use Rattle.reg_names.specs.declared.TheConstants.{KEY_NAME_LIMIT}
use Rattle.reg_names.specs.Names.{is_key_name_byte}
use Rattle.reg_names.proofs.NamePrefixes.{fails, holds, bad, long, fine, key_is, key_not, else_of, not_empty}
use Rattle.reg_names.proofs.check_key_name.Goals as goal

pub returns-then-not-are_key_name_bytes-clause-fault : goal.returns-then-not-are_key_name_bytes-clause-fault
returns-then-not-are_key_name_bytes-clause-fault c =
    else_of _ _ _ _ _ c.is_empty.ensures c.if-is_empty.false
    (bad is_key_name_byte KEY_NAME_LIMIT c.args.name.now c.front.result.now c.are_key_name_bytes.result c.front.ensures c.are_key_name_bytes.ensures
    c.if-not-are_key_name_bytes.true)

pub returns-then-not-are_key_name_bytes-clause-valid : goal.returns-then-not-are_key_name_bytes-clause-valid
returns-then-not-are_key_name_bytes-clause-valid c =
    key_not _ _ _ (fails is_key_name_byte KEY_NAME_LIMIT c.args.name.now c.front.result.now c.are_key_name_bytes.result c.front.ensures c.are_key_name_bytes.ensures c.if-not-are_key_name_bytes.true)

pub returns-then-name-gt-KEY_NAME_LIMIT-clause-fault : goal.returns-then-name-gt-KEY_NAME_LIMIT-clause-fault
returns-then-name-gt-KEY_NAME_LIMIT-clause-fault c =
    else_of _ _ _ _ _ c.is_empty.ensures c.if-is_empty.false
    (long is_key_name_byte KEY_NAME_LIMIT c.args.name.now c.front.result.now c.are_key_name_bytes.result c.front.ensures c.are_key_name_bytes.ensures
    c.if-not-are_key_name_bytes.false c.if-name-gt-KEY_NAME_LIMIT.true)

pub returns-clause-fault : goal.returns-clause-fault
returns-clause-fault c =
    else_of _ _ _ _ _ c.is_empty.ensures c.if-is_empty.false
    (fine is_key_name_byte KEY_NAME_LIMIT c.args.name.now c.front.result.now c.are_key_name_bytes.result c.front.ensures c.are_key_name_bytes.ensures
    c.if-not-are_key_name_bytes.false c.if-name-gt-KEY_NAME_LIMIT.false)

pub returns-clause-valid : goal.returns-clause-valid
returns-clause-valid c =
    key_is _ _ KEY_NAME_LIMIT (holds is_key_name_byte KEY_NAME_LIMIT c.args.name.now c.front.result.now c.are_key_name_bytes.result c.front.ensures
    c.are_key_name_bytes.ensures c.if-name-gt-KEY_NAME_LIMIT.false c.if-not-are_key_name_bytes.false)
    (not_empty _ _ c.is_empty.ensures c.if-is_empty.false) c.if-name-gt-KEY_NAME_LIMIT.false
