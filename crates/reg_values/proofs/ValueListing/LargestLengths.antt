-- What is largest among values, gone over from the first to the last.
use Rattle.std.proofs.Common.{◌≡◌, ℕ, zero, suc, ◌+◌, ◌≤◌, List, [], ◌∷◌, length, drop, max, refl, sym, ap, ◌∙◌, arith, add-one}
use Rattle.std.specs.List.{fold}
use Rattle.reg_heap.specs.Paths.{Member}

module _ (f : Member → ℕ) (members : List Member) where
  -- the larger of what was the largest so far and of one value more
  pub one-more : (index largest now : ℕ) (m : Member) → drop index members ≡ m ∷ drop (suc index) members → now ≡ max largest (f m) →
      fold (λ a (m : Member). max a (f m)) now (drop (index + 1) members) ≡ fold (λ a (m : Member). max a (f m)) largest (drop index members)
  one-more index largest now m rest is =
      ap (λ n. fold (λ a (m : Member). max a (f m)) now (drop n members)) (add-one index)
      ∙ (ap (λ a. fold (λ a (m : Member). max a (f m)) a (drop (suc index) members)) is ∙ ap (fold (λ a (m : Member). max a (f m)) largest) (sym rest))

  -- no value is left
  pub all-passed : (index largest : ℕ) → length members ≤ index → fold (λ a (m : Member). max a (f m)) largest (drop index members) ≡ largest
  all-passed index largest l = ap (fold (λ a (m : Member). max a (f m)) largest) (drop-past members index l)
    where
      drop-past : (xs : List Member) (i : ℕ) → length xs ≤ i → drop i xs ≡ []
      drop-past [] zero l = refl
      drop-past [] (suc i) l = refl
      drop-past (x ∷ xs) zero l = absurd (omega arith)
      drop-past (x ∷ xs) (suc i) l = drop-past xs i (omega arith)
