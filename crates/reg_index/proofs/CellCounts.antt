-- Cells, and how often they are met.
use Rattle.std.proofs.Common.{◌≡◌, ◌≢◌, ℕ, ◌+◌, cond, List, [], ◌∷◌, ◌++◌, refl, ap, ◌∙◌, arith}
use Rattle.std.proofs.lemmas.Bool.{eq-eqb, ne_eqb}
use Rattle.reg_heap.specs.Kinds.{times}
use Rattle.reg_index.specs.Internal.IndexLists.{IsOnce}

pub times-self : (z : ℕ) (cells : List ℕ) → times z (z ∷ cells) ≡ 1 + times z cells
times-self z cells = ap (λ b. cond b 1 0 + times z cells) (eq-eqb z z refl)

pub times-here : (z cell : ℕ) (cells : List ℕ) → cell ≡ z → times z (cell ∷ cells) ≡ 1 + times z cells
times-here z cell cells e = ap (λ b. cond b 1 0 + times z cells) (eq-eqb cell z e)

pub times-there : (z cell : ℕ) (cells : List ℕ) → cell ≢ z → times z (cell ∷ cells) ≡ times z cells
times-there z cell cells n = ap (λ b. cond b 1 0 + times z cells) (ne_eqb cell z n) ∙ zero_more (times z cells)
  where
    zero_more : (n : ℕ) → 0 + n ≡ n
    zero_more n = omega arith

pub times-append : (z : ℕ) (xs ys : List ℕ) → times z (xs ++ ys) ≡ times z xs + times z ys
times-append z [] ys = omega arith
times-append z (x ∷ xs) ys = let rest = times-append z xs ys in omega (arith, rest)

-- two that are met once each are apart
pub once-apart : (a b : ℕ) (cells : List ℕ) → IsOnce (a ∷ b ∷ cells) → b ≢ a
once-apart a b cells once e = absurd (omega (arith, once a, times-self a (b ∷ cells), times-here a b cells e))

pub once-first : (a b c : ℕ) → IsOnce (a ∷ b ∷ c ∷ []) → times c (b ∷ []) ≡ 0
once-first a b c once = omega (arith, once c, times-self c [])

pub once-second : (a b c : ℕ) → IsOnce (a ∷ b ∷ c ∷ []) → times b (c ∷ []) ≡ 0
once-second a b c once = omega (arith, once b, times-self b (c ∷ []))
