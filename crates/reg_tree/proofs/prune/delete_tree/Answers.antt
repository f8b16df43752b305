use Rattle.std.proofs.Common.{rules, sym, refl, ◌∙◌, inl, inr}
use Rattle.std.proofs.lemmas.Bool.{false≢true}
use Rattle.reg_tree.proofs.DeleteKey.DeleteKeyFaults.{inner}
use Rattle.reg_tree.proofs.PruneTree.MarkedKeys.{kept-within}
use Rattle.reg_tree.proofs.prune.delete_tree.Goals as goal

pub returns-then-is_kept-clause-kept : goal.returns-then-is_kept-clause-kept
returns-then-is_kept-clause-kept c = λ t. ((λ e. kept-within _ _ t ((c.is_kept.ensures t).0 c.if-is_kept.true)), (λ k. refl))

pub returns-then-is_kept_within-clause-kept : goal.returns-then-is_kept_within-clause-kept
returns-then-is_kept_within-clause-kept c = λ t. ((λ e. inr (sym (c.is_kept_within.ensures t) ∙ c.if-is_kept_within.true)), (λ k. refl))

pub delete_tree_at-requires : goal.delete_tree_at-requires
delete_tree_at-requires c = let t = c.requires.0 in
    record { here = (t, c.requires.1, inner _ _ t c.is_kept.result (c.is_kept.ensures t) c.if-is_kept.false) }

pub returns-clause-ok : goal.returns-clause-ok
returns-clause-ok c = λ t same. c.delete_tree_at.ensures.pruned t same (inner _ _ t c.is_kept.result (c.is_kept.ensures t) c.if-is_kept.false)

pub returns-clause-lengths : goal.returns-clause-lengths
returns-clause-lengths c = λ t. c.delete_tree_at.ensures.lengths t (inner _ _ t c.is_kept.result (c.is_kept.ensures t) c.if-is_kept.false)

pub returns-clause-kept : goal.returns-clause-kept
returns-clause-kept c = λ t. (
  (λ e. absurd (search rules)),
  (λ k. elim k [
    | inl e ↦ absurd (inner _ _ t c.is_kept.result (c.is_kept.ensures t) c.if-is_kept.false e)
    | inr m ↦ absurd (false≢true (sym c.if-is_kept_within.false ∙ (c.is_kept_within.ensures t ∙ m)))
  ]),
)
