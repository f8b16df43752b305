use Rattle.std.proofs.Common.{rules}
use Rattle.std.proofs.lemmas.List.Sorted.{answers_always, IsNonDecreasingBy-from_sort}
use Rattle.reg_tables.proofs.KeysInOrder.{ordered-told}
use Rattle.reg_tables.proofs.timeline.ordered.Goals as goal

pub returns : goal.returns
returns c =
    let keys = answers_always _ _ _ (λ f a r next called. search rules) in
    ordered-told _ _ (IsNonDecreasingBy-from_sort (λ key. key.time) _ (c.in_ok-sort_by_key.ensures.sorted (λ key. key.time) keys))
    (c.sort_by_key.ensures.stable (λ key. key.time) keys)
