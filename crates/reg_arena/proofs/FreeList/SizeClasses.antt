-- The lists of the sizes.
use Rattle.std.proofs.Common.{◌≡◌, ℕ, ◌<◌, ◌≤◌, ◌%◌, false, refl, arith, inl, inr}
use Rattle.std.proofs.lemmas.Bool.{leb-true, leb-false, lt-leb, cond_both, cases_lt}
use lib.Dec.{leb}
use Rattle.reg_arena.specs.Classes.{class_of}

pub class-large : (s : ℕ) → 16384 ≤ s → class_of s ≡ 23
unfolding class_of
class-large s h =
    let a : leb s 128 ≡ false = lt-leb s 128 (omega arith) in
    let b : leb s 248 ≡ false = lt-leb s 248 (omega arith) in
    let c : leb s 504 ≡ false = lt-leb s 504 (omega arith) in
    let d : leb s 1016 ≡ false = lt-leb s 1016 (omega arith) in
    let e : leb s 2040 ≡ false = lt-leb s 2040 (omega arith) in
    let f : leb s 4088 ≡ false = lt-leb s 4088 (omega arith) in
    let g : leb s 8184 ≡ false = lt-leb s 8184 (omega arith) in
    let i : leb s 16376 ≡ false = lt-leb s 16376 (omega arith) in
    rw (a, b, c, d, e, f, g, i) refl

-- smaller ones have an earlier list
pub class-small : (s : ℕ) → s < 16384 → s % 8 ≡ 0 → class_of s < 23
unfolding class_of
class-small s h e8 =
    cond_both (leb s 128) _ _ (λ x. x < 23) (λ e. let l = leb-true s 128 e in omega arith) (λ e.
    cond_both (leb s 248) _ _ (λ x. x < 23) (λ e. omega arith) (λ e.
    cond_both (leb s 504) _ _ (λ x. x < 23) (λ e. omega arith) (λ e.
    cond_both (leb s 1016) _ _ (λ x. x < 23) (λ e. omega arith) (λ e.
    cond_both (leb s 2040) _ _ (λ x. x < 23) (λ e. omega arith) (λ e.
    cond_both (leb s 4088) _ _ (λ x. x < 23) (λ e. omega arith) (λ e.
    cond_both (leb s 8184) _ _ (λ x. x < 23) (λ e. omega arith) (λ e.
    cond_both (leb s 16376) _ _ (λ x. x < 23) (λ e. omega arith) (λ e.
    absurd (let l = leb-false s 16376 e in omega arith)))))))))

pub class-in : (s : ℕ) → s % 8 ≡ 0 → class_of s < 24
class-in s e8 = elim (cases_lt s 16384) [ inl l ↦ (let z = class-small s l e8 in omega arith) | inr g ↦ (let z = class-large s g in omega arith) ]
