use Rattle.std.proofs.Common.{rules}
use Rattle.reg_words.proofs.MomentLemmas.{by_itself, by_day}
use Rattle.reg_words.proofs.moments.instant_or_day.Goals as goal

pub returns-then-is_some : goal.returns-then-is_some
returns-then-is_some c = by_itself c.args.text.now c.instant_of-instant.result (search rules) c.instant_of-instant.ensures

pub returns : goal.returns
returns c = by_day c.args.text.now c.instant_of-instant.result c.day_of.result (search rules) c.instant_of-instant.ensures c.day_of.ensures
