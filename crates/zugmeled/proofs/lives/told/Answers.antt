use Rattle.zugmeled.proofs.Beginnings.{other-told}
use Rattle.zugmeled.proofs.lives.told.Goals as goal

pub returns-in_default : goal.returns-in_default
returns-in_default c = other-told c.args.met c.number.result c.in_default.not-Memory c.number.ensures
