-- The sizes as a function, and where the free cells' words are.
use Rattle.std.proofs.Common.{◌≡◌, ℕ, ◌+◌, ◌/◌, ◌%◌, ◌<◌, ◌≤◌, ◌⊎◌, ◌&&◌, Bool, true, false, cond, inl, inr, List, length, refl, sym, ap, ◌∙◌, subst, arith, eqb}
use Rattle.std.proofs.lemmas.Bool.{eq-eqb, ne_eqb, cases_eq, lt-ltb, le-ltb, and_right}
use lib.Dec.{ltb}
use Rattle.reg_heap.specs.ByteWords.{word}
use Rattle.reg_arena.specs.Classes.{class_of}
use Rattle.reg_arena.specs.Internal.CellThreads.{AreThreads}
use Rattle.reg_arena.specs.Internal.SizeTables.{at_eight, head_at, back_in, counted}
use Rattle.reg_arena.specs.Internal.ListedCells.{AreTables, sized, added}
use Rattle.reg_arena.proofs.FreeList.ThreadLinks.{pigeon}
use Rattle.reg_arena.proofs.FreeList.ClassMembers.{of-member, of-most}
use Rattle.reg_arena.proofs.FreeList.TableReads.{IsPlace}
use Rattle.reg_arena.proofs.FreeList.LinkWords.{IsSpot}

pub counted-small : (s : ℕ) → s < 16384 → counted s ≡ 0
counted-small s l = let a : ltb s 16384 ≡ true = lt-ltb s 16384 l in rw a refl

pub counted-large : (s : ℕ) → 16384 ≤ s → counted s ≡ 1
counted-large s g = let a : ltb s 16384 ≡ false = le-ltb s 16384 g in rw a refl

pub counted-most : (s : ℕ) → counted s ≤ 1
counted-most s = by (ltb s 16384)
  where
    by : (b : Bool) → cond b 0 1 ≤ 1
    by true = omega arith
    by false = omega arith

pub sized-here : (c s : ℕ) (S : ℕ → ℕ) (x : ℕ) → x ≡ c → sized c s S x ≡ s
sized-here c s S x e = let q : eqb x c ≡ true = eq-eqb x c e in rw q refl

pub sized-other : (c s : ℕ) (S : ℕ → ℕ) (x : ℕ) → (x ≡ c → ⊥) → sized c s S x ≡ S x
sized-other c s S x o = let q : eqb x c ≡ false = ne_eqb x c o in rw q refl

pub sized-none : (c : ℕ) (S : ℕ → ℕ) → S c ≡ 0 → S ≡ sized c 0 S
sized-none c S z = λ i x. by x (cases_eq x c) i
  where
    by : (x : ℕ) → (x ≡ c) ⊎ (x ≡ c → ⊥) → S x ≡ sized c 0 S x
    by x (inl e) = ap S e ∙ z ∙ sym (sized-here c 0 S x e)
    by x (inr o) = sym (sized-other c 0 S x o)

pub added-none : (c s : ℕ) (S : ℕ → ℕ) → s ≡ 0 → S ≡ added c s S
added-none c s S z = λ i x. by x i
  where
    by : (x : ℕ) → S x ≡ added c s S x
    by x = (let l : ltb 0 s ≡ false = le-ltb 0 s (omega arith) in sym (ap (λ b. cond b s (S x)) (and_right (eqb x c) (ltb 0 s) l)))

pub added-some : (c s : ℕ) (S : ℕ → ℕ) → 0 < s → sized c s S ≡ added c s S
added-some c s S h = λ i x. by x (eqb x c) i
  where
    by : (x : ℕ) (b : Bool) → cond b s (S x) ≡ cond (b && ltb 0 s) s (S x)
    by x true = (let l : ltb 0 s ≡ true = lt-ltb 0 s h in rw l refl)
    by x false = refl

module _ (bytes : List ℕ) (S : ℕ → ℕ) (heads firsts words marks : List ℕ) (large top : ℕ) (w : AreTables bytes S heads firsts words marks large top) where
  abbrev N : ℕ → ℕ
  N x = word bytes (x + 4)

  abbrev t : AreThreads class_of 16384 S (λ x. word bytes (x + 4)) (back_in marks) (head_at heads) (at_eight firsts 4294967295)
  t = w.threads

  -- where a free cell is
  pub cell-spot : (x : ℕ) → 0 < S x → (x % 8 ≡ 0) × (x + 8 ≤ length bytes) × (x / 8 < length marks)
  cell-spot x h =
      let z = w.pieces x h in
      (z.eights, omega (arith, z.within, z.size_eights), omega (arith, z.within, z.size_eights, w.marks_long))

  pub cell-is-spot : (x : ℕ) → ((x ≡ 4294967295 → ⊥) → 0 < S x) → IsSpot bytes x
  cell-is-spot x h o = let z = cell-spot x (h o) in (z.0, z.1)

  pub cell-is-place : (x : ℕ) → ((x ≡ 4294967295 → ⊥) → 0 < S x) → IsPlace marks x
  cell-is-place x h o = let z = cell-spot x (h o) in (z.0, z.2)

  -- the last list has no more cells than there are eights
  pub few : large ≤ 33554433
  few = let z = pigeon (length bytes / 8 + 1) (t.lists 23) (λ x. omega (arith, t.exact 23 x, of-most class_of S 23 x))
      (λ x i. (let y = cell-spot x (of-member class_of S 23 x (subst (λ v. 0 < v) (t.exact 23 x) i)).0 in (y.0, omega (arith, y.1)))) in omega (arith, w.count, w.small)
