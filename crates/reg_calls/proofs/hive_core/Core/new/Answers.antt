use Rattle.std.proofs.Common.{ℕ, rules, subst, sym}
use Rattle.reg_calls.specs.Views.{IsHive, view_with}
use Rattle.reg_calls.proofs.KnownKeys.{none_known, store_of}
use Rattle.reg_calls.proofs.hive_core.Core.new.Goals as goal

pub invariant_of-result : goal.invariant_of-result
invariant_of-result c =
    let store = store_of c.in_ok-watches.watches c.args.tree c.new-3.result in (
      c.in_ok-quiet.ensures.rows,
      λ handle bits number r. absurd (c.in_ok-quiet.ensures.none handle bits number r),
      record {
        hive = subst (λ (base : ℕ). IsHive (view_with c.of-origin.result.value.tree base c.of-told.result.value.told c.new-4.result.entries store)) (sym c.new-4.ensures.base)
            (search rules);
        room_kept = search rules;
        known = none_known store c.new-3.ensures.payloads;
      },
    )
