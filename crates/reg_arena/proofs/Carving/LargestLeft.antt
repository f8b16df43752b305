-- The largest of the sizes whose offset isn't there yet.
use Rattle.std.proofs.Common.{◌≡◌, ℕ, zero, suc, ◌+◌, ◌<◌, ◌≤◌, ◌%◌, ◌⊎◌, inl, inr, Bool, true, false, cond, List, [], ◌∷◌, length, get_or, refl, arith, eqb}
use Rattle.std.proofs.lemmas.Bool.{cases_lt, eqb-true}
use Rattle.std.specs.List.{AllByRecursion}
use Rattle.reg_heap.specs.Kinds.{times}
use Rattle.reg_arena.specs.NewCells.{AreSizes}
use Rattle.reg_arena.specs.EachCell.{IsCarvedBefore}

-- a place whose offset isn't there yet
pub record IsLeft (none : ℕ) (sizes offsets : List ℕ) : Type 0 where
  pub place : ℕ
  pub within : place < length sizes
  pub left : get_or offsets place 0 ≡ none

-- where the mark is met there is such a place
pub some-left : (none : ℕ) (sizes offsets : List ℕ) → length offsets ≡ length sizes → 0 < times none offsets → IsLeft none sizes offsets
some-left none [] [] long some = absurd (omega (arith, some))
some-left none [] (o ∷ offsets) long some = absurd (omega (arith, long))
some-left none (s ∷ sizes) [] long some = absurd (omega (arith, some))
some-left none (s ∷ sizes) (o ∷ offsets) long some = by (eqb o none) refl (λ h. some-left none sizes offsets (omega (arith, long)) h) some
  where
    by : (b : Bool) → eqb o none ≡ b → (0 < times none offsets → IsLeft none sizes offsets) → 0 < cond b 1 0 + times none offsets →
        IsLeft none (s ∷ sizes) (o ∷ offsets)
    by true e rest h = record { place = 0; within = omega arith; left = eqb-true o none e }
    by false e rest h = (let r = rest (omega (arith, h)) in record { place = suc r.place; within = omega (arith, r.within); left = r.left })

-- what holds of each holds at a place
pub all-place : (P : ℕ → Type 0) (xs : List ℕ) (place : ℕ) → AllByRecursion P xs → place < length xs → P (get_or xs place 0)
all-place P [] place all l = absurd (omega (arith, l))
all-place P (x ∷ xs) zero all l = all.0
all-place P (x ∷ xs) (suc place) all l = all-place P xs place all.1 (omega (arith, l))

-- the largest so far: its place, and no other before it that is as large
pub record IsFirstOf (none : ℕ) (sizes offsets : List ℕ) (below most largest : ℕ) : Type 0 where
  pub within : largest < below
  pub left : get_or offsets largest 0 ≡ none
  pub size : get_or sizes largest 0 ≡ most
  pub first : (place : ℕ) → place < largest → get_or offsets place 0 ≡ none → get_or sizes place 0 < most

-- what was seen of the places below one
pub record IsLargest (none : ℕ) (sizes offsets : List ℕ) (below most largest : ℕ) : Type 0 where
  pub all : (place : ℕ) → place < below → get_or offsets place 0 ≡ none → get_or sizes place 0 ≤ most
  pub one : 0 < most → IsFirstOf none sizes offsets below most largest

-- the largest of all
pub record IsNext (none : ℕ) (sizes offsets : List ℕ) (largest : ℕ) : Type 0 where
  pub within : largest < length sizes
  pub left : get_or offsets largest 0 ≡ none
  pub first : (place : ℕ) → place < length sizes → get_or offsets place 0 ≡ none → (place ≡ largest) ⊎ IsCarvedBefore sizes largest place

pub largest-found : (none : ℕ) (sizes offsets : List ℕ) (below most largest : ℕ) → below ≡ length sizes → AreSizes sizes → length offsets ≡ length sizes →
    0 < times none offsets → IsLargest none sizes offsets below most largest → IsNext none sizes offsets largest
largest-found none sizes offsets below most largest end good long some v = record { within = omega (arith, one.within, end); left = one.left; first = first }
  where
    there : IsLeft none sizes offsets
    there = some-left none sizes offsets long some

    one : IsFirstOf none sizes offsets below most largest
    one = (let size = (all-place (λ (size : ℕ). (0 < size) × (size % 8 ≡ 0)) sizes there.place good there.within).0 in
        let most = v.all there.place (omega (arith, there.within, end)) there.left in v.one (omega (arith, size, most)))

    first : (place : ℕ) → place < length sizes → get_or offsets place 0 ≡ none → (place ≡ largest) ⊎ IsCarvedBefore sizes largest place
    first place l e = by (cases_lt (get_or sizes place 0) (get_or sizes largest 0)) (cases_lt place largest) (cases_lt largest place)
      where
        by : (get_or sizes place 0 < get_or sizes largest 0) ⊎ (get_or sizes largest 0 ≤ get_or sizes place 0) →
            (place < largest) ⊎ (largest ≤ place) → (largest < place) ⊎ (place ≤ largest) → (place ≡ largest) ⊎ IsCarvedBefore sizes largest place
        by (inl less) p q = inr (inl less)
        by (inr same) (inl before) q = (let less = one.first place before e in absurd (omega (arith, one.size, less, same)))
        by (inr same) (inr m) (inl behind) = (let most = v.all place (omega (arith, l, end)) e in inr (inr (omega (arith, one.size, most, same), behind)))
        by (inr same) (inr m) (inr n) = inl (omega (arith, m, n))
