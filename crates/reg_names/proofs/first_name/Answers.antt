use Rattle.reg_names.proofs.PathFirstName.{whole_first, front_first}
use Rattle.reg_names.proofs.first_name.Goals as goal

pub returns-then-length-path : goal.returns-then-length-path
returns-then-length-path c = whole_first c.args.path.now c.requires c.first_length-length.result c.first_length-length.ensures c.is_empty.result
    c.is_empty.ensures c.if-is_empty.false c.if-length-path.true

pub returns : goal.returns
returns c = front_first c.args.path.now c.requires c.first_length-length.result c.first_length-length.ensures c.is_empty.result c.is_empty.ensures c.if-is_empty.false c.if-length-path.false
