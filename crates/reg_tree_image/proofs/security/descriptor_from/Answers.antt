use Rattle.std.proofs.Common.{◌<◌, ℕ, List, Bor, length, refl, arith}
use Rattle.reg_heap.specs.Kinds.Kind.{Security}
use Rattle.reg_tree_image.proofs.Readers.Descriptors.{descriptor-exit, descriptor-bad, descriptor-none, descriptor-long, descriptor-done}
use Rattle.reg_tree_image.proofs.security.descriptor_from.Goals as goal

pub returns-in_err-content-clause-follows : goal.returns-in_err-content-clause-follows
returns-in_err-content-clause-follows c path =
    descriptor-exit _ path c.args.offset (λ (x : Bor (List ℕ)). x.now) _ _ (λ (x : Bor (List ℕ)). x.now) _ _ c.from_residual.ensures.1
    (c.in_err-content.ensures.follows path (λ _. Security) (λ _. refl))

pub returns-then-security-eq0-clause-follows : goal.returns-then-security-eq0-clause-follows
returns-then-security-eq0-clause-follows c path =
    descriptor-none _ path c.args.offset (λ (x : Bor (List ℕ)). x.now) _ _ c.in_ok-content.content
    (c.in_ok-content.ensures.follows path (λ _. Security) (λ _. refl)) _ c.in-Ok.ensures c.if-security-eq0.true

pub returns-then-security-gt-DESCRIPTOR_LIMIT-clause-follows :
    goal.returns-then-security-gt-DESCRIPTOR_LIMIT-clause-follows
returns-then-security-gt-DESCRIPTOR_LIMIT-clause-follows c path =
    descriptor-long _ path c.args.offset (λ (x : Bor (List ℕ)). x.now) _ _ c.in_ok-content.content
    (c.in_ok-content.ensures.follows path (λ _. Security) (λ _. refl)) _ c.in-Ok.ensures c.if-security-gt-DESCRIPTOR_LIMIT.true

pub returns-else-security-gt-DESCRIPTOR_LIMIT-clause-follows :
    goal.returns-else-security-gt-DESCRIPTOR_LIMIT-clause-follows
returns-else-security-gt-DESCRIPTOR_LIMIT-clause-follows c path =
    let some : 0 < length c.in-Ok.security.descriptor.now = omega (arith, c.if-security-eq0.false) in
    descriptor-done _ path c.args.offset (λ (x : Bor (List ℕ)). x.now) _ _ c.in_ok-content.content
    (c.in_ok-content.ensures.follows path (λ _. Security) (λ _. refl)) _ c.in-Ok.ensures some c.if-security-gt-DESCRIPTOR_LIMIT.false

pub returns-in-Err-clause-follows : goal.returns-in-Err-clause-follows
returns-in-Err-clause-follows c path =
    descriptor-bad _ path c.args.offset (λ (x : Bor (List ℕ)). x.now) _ _ c.in_ok-content.content
    (c.in_ok-content.ensures.follows path (λ _. Security) (λ _. refl)) _ _ c.fault_of.ensures c.in-Err.ensures
