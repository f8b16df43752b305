-- A walk along a free list.
use Rattle.std.proofs.Common.{◌≡◌, ℕ, suc, ◌+◌, ◌-◌, ◌<◌, ◌≤◌, List, [], ◌∷◌, ◌++◌, length, refl, sym, ap, ◌∙◌, subst, arith, append_assoc, length-append}
use Rattle.std.proofs.lemmas.List.{append-nil}
use Rattle.std.specs.List.{AllByRecursion}
use Rattle.reg_heap.specs.ByteWords.{word}
use Rattle.reg_arena.specs.Free.{chain, IsFit, Follows}
use Rattle.reg_arena.proofs.Contents.CellWrites.{all-append}

-- the first i cells of a list were passed, and cell is the next
pub record Passed (bins : List ℕ) (total count head i cell : ℕ) : Type 0 where
  pub front : List ℕ
  pub split : chain count bins head ≡ front ++ chain (count - i) bins cell
  pub long : length front ≡ i
  pub small : AllByRecursion (λ x. word bins x < total) front

pub passed-none : (bins : List ℕ) (total count head : ℕ) → Passed bins total count head 0 head
passed-none bins total count head = record { front = []; split = let e : count - 0 ≡ count = omega arith in rw e refl; long = refl; small = tt }

chain-more : (bins : List ℕ) (n m cell : ℕ) → n ≡ suc m → chain n bins cell ≡ cell ∷ chain m bins (word bins (cell + 4))
chain-more bins n m cell e = rw e refl

pub passed-more : (bins : List ℕ) (total count head i cell next : ℕ) → i < count → next ≡ word bins (cell + 4) →
    word bins cell < total → Passed bins total count head i cell → Passed bins total count head (i + 1) next
passed-more bins total count head i cell next l e small h = record {
  front = h.front ++ cell ∷ [];
  split = h.split ∙ ap (λ t. h.front ++ t) (chain-more bins (count - i) (count - (i + 1)) cell (omega arith)) ∙ rw e (sym (append_assoc h.front (cell ∷ []) _));
  long = omega (arith, length-append h.front (cell ∷ []), h.long);
  small = all-append _ h.front (cell ∷ []) h.small (small, tt);
}

pub passed-fit : (bins : List ℕ) (total count head i cell : ℕ) → i < count → total ≤ word bins cell →
    Passed bins total count head i cell → IsFit bins total (chain count bins head) cell
passed-fit bins total count head i cell l fits h = record {
  front = h.front;
  back = chain (count - (i + 1)) bins (word bins (cell + 4));
  split = h.split ∙ ap (λ t. h.front ++ t) (chain-more bins (count - i) (count - (i + 1)) cell (omega arith));
  fits = fits;
}

pub passed-all : (bins : List ℕ) (total count head i cell : ℕ) → count ≤ i → Passed bins total count head i cell → AllByRecursion (λ x. word bins x < total) (chain count bins head)
passed-all bins total count head i cell l h =
    let e : count - i ≡ 0 = omega arith in
    let none : chain (count - i) bins cell ≡ [] = rw e refl in
    subst (AllByRecursion (λ x. word bins x < total)) (sym (h.split ∙ ap (λ t. h.front ++ t) none ∙ append-nil h.front)) h.small

all-back : (P : ℕ → Type 0) (xs ys : List ℕ) → AllByRecursion P (xs ++ ys) → AllByRecursion P ys
all-back P [] ys h = h
all-back P (x ∷ xs) ys h = all-back P xs ys h.1

-- the cell at hand is one of the list
pub passed-cell : (P : ℕ → Type 0) (bins : List ℕ) (total count head i cell : ℕ) → i < count → AllByRecursion P (chain count bins head) → Passed bins total count head i cell → P cell
passed-cell P bins total count head i cell l a h =
    (all-back P h.front _ (subst (AllByRecursion P) (h.split ∙ ap (λ t. h.front ++ t) (chain-more bins (count - i) (count - (i + 1)) cell (omega arith))) a)).0

-- the links lead through the chain
pub Follows-chain : (bins : List ℕ) (offsets : List ℕ) (head : ℕ) → Follows bins head offsets → chain (length offsets) bins head ≡ offsets
Follows-chain bins [] head h = refl
Follows-chain bins (o ∷ os) head h = rw h.0 (ap (λ t. o ∷ t) (Follows-chain bins os (word bins (o + 4)) h.1))
