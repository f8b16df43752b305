use Rattle.std.proofs.Common.{ℕ, List, Bor, refl, rules}
use Rattle.reg_tree_image.specs.Internal.ListParts.{list_in}
use Rattle.reg_tree_image.proofs.Readers.KeyLists.{leaf-exit, leaf-none, leaf-root, leaf-done}
use Rattle.reg_heap.specs.Kinds.Kind.{Leaf}
use Rattle.reg_tree_image.proofs.lists.leaf_from.Goals as goal

pub returns-in_err-content-clause-follows : goal.returns-in_err-content-clause-follows
returns-in_err-content-clause-follows c path =
    leaf-exit _ path c.args.offset (λ (x : Bor (List ℕ)). x.now) _ _ list_in _ _ c.from_residual.ensures.1 (c.in_err-content.ensures.follows path (λ _. Leaf) (λ _. refl))

pub returns-in_default-clause-follows : goal.returns-in_default-clause-follows
returns-in_default-clause-follows c path =
    leaf-none _ path c.args.offset (λ (x : Bor (List ℕ)). x.now) _ _ c.in_ok-content.content (c.in_ok-content.ensures.follows path (λ _. Leaf) (λ _. refl)) c.in_default.ensures.read

pub returns-then-eq-clause-follows : goal.returns-then-eq-clause-follows
returns-then-eq-clause-follows c path =
    leaf-root _ path c.args.offset (λ (x : Bor (List ℕ)). x.now) _ _ c.in_ok-content.content (c.in_ok-content.ensures.follows path (λ _. Leaf) (λ _. refl)) _ c.in-Ok.ensures.read (search rules)

pub returns-clause-follows : goal.returns-clause-follows
returns-clause-follows c path =
    leaf-done _ path c.args.offset (λ (x : Bor (List ℕ)). x.now) _ _ c.in_ok-content.content (c.in_ok-content.ensures.follows path (λ _. Leaf) (λ _. refl)) _ c.in-Ok.ensures.read (search rules)
