use Rattle.reg_command.proofs.FreshHives.{all_seven}
use Rattle.reg_command.proofs.scripts.fresh_hive.Goals as goal

pub returns : goal.returns
returns c =
    all_seven c.new.result _ _ _ _ _ _ _ _
    (λ h origin base before journal hive bin callbacks. record {
      fresh = record { is_hive = hive; bin = bin; origin = origin; base = base; before = before; journal = journal };
      alone = callbacks.0;
    })
    c.new.ensures.origin c.new.ensures.base c.new.ensures.before c.new.ensures.journal c.new.ensures.hive c.new.ensures.bin c.new.ensures.callbacks
