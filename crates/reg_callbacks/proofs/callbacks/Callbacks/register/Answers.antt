use Rattle.std.proofs.Common.{rules, arith}
use Rattle.reg_callbacks.proofs.RowLemmas.{falling_more, distinct_more, below_more}
use Rattle.reg_callbacks.proofs.callbacks.Callbacks.register.Goals as goal

pub invariant_of-self : goal.invariant_of-self
invariant_of-self g c =
    record {
      within = search (rules, arith);
      falling = falling_more _ _ _ _ c.in-Ok.ensures.items (λ row. row.altitude) c.place_of-place.ensures.value (search rules) c.args.self.now.falling;
      below = below_more _ _ _ _ c.in-Ok.ensures.items (λ row. row.cookie) c.args.self.now.below;
      distinct = distinct_more _ _ _ _ c.in-Ok.ensures.items (λ row. row.cookie) c.args.self.now.below c.args.self.now.distinct;
    }
