-- The numbers of the open handles, while an import opens handles of its own and closes them.
use Rattle.std.proofs.Common.{◌≡◌, ◌≢◌, ℕ, ◌<◌, Bool, true, false, cond, not, eqb, List, [], ◌∷◌, ◌++◌, filter, refl, sym, ap, ◌∙◌, arith, inl, inr, ◌⊎◌, append_assoc}
use Rattle.std.specs.List.{AllByRecursion}
use Rattle.std.proofs.lemmas.List.{map-append}
use Rattle.std.proofs.lemmas.Bool.{eq-eqb, ne_eqb}
use Rattle.reg_heap.specs.Paths.{Path}
use Rattle.reg_model.specs.Worlds.{Handle, closed, turned_past}
use Rattle.reg_dotreg_import.specs.Imports.{numbers_of}
use Rattle.reg_dotreg_import.specs.Internal.Standing.{AreOpen}

numbers-more : (hs : List Handle) (new : Handle) → numbers_of (hs ++ new ∷ []) ≡ numbers_of hs ++ new.number ∷ []
numbers-more hs new = map-append (λ (h : Handle). h.number) hs (new ∷ [])

pub numbers-turned : (gone : Path → Bool) (hs : List Handle) → numbers_of (turned_past gone hs) ≡ numbers_of hs
numbers-turned gone [] = refl
numbers-turned gone (h ∷ hs) = ap (λ (ns : List ℕ). h.number ∷ ns) (numbers-turned gone hs)

abbrev without : ℕ → List ℕ → List ℕ
without k ns = filter (λ (n : ℕ). not (eqb n k)) ns

numbers-closed : (k : ℕ) (hs : List Handle) → numbers_of (closed k hs) ≡ without k (numbers_of hs)
numbers-closed k [] = refl
numbers-closed k (h ∷ hs) = by (eqb h.number k) (numbers-closed k hs)
  where
    by : (b : Bool) → numbers_of (closed k hs) ≡ without k (numbers_of hs) →
        numbers_of (cond (not b) (h ∷ closed k hs) (closed k hs)) ≡ cond (not b) (h.number ∷ without k (numbers_of hs)) (without k (numbers_of hs))
    by true rest = rest
    by false rest = ap (λ (ns : List ℕ). h.number ∷ ns) rest

without-last : (k : ℕ) (ns : List ℕ) → AllByRecursion (λ (n : ℕ). n < k) ns → without k (ns ++ k ∷ []) ≡ ns
without-last k [] b = rw (eq-eqb k k refl) refl
without-last k (n ∷ ns) b =
    let l = b.0 in rw (ne_eqb n k (λ same. omega (arith, l, same))) (ap (λ (ms : List ℕ). n ∷ ms) (without-last k ns b.1))

below-more : (ns : List ℕ) (root key : ℕ) → root < key → AllByRecursion (λ (n : ℕ). n < root) ns → AllByRecursion (λ (n : ℕ). n < key) (ns ++ root ∷ [])
below-more [] root key l b = (l, tt)
below-more (n ∷ ns) root key l b = let m = b.0 in (omega (arith, l, m), below-more ns root key l b.1)

-- handles whose numbers are below one
pub numbers-below : (m : ℕ) (hs : List Handle) → AllByRecursion (λ (h : Handle). h.number < m) hs → AllByRecursion (λ (n : ℕ). n < m) (numbers_of hs)
numbers-below m [] b = tt
numbers-below m (h ∷ hs) b = (b.0, numbers-below m hs b.1)

only-root : (before : List ℕ) (root : ℕ) (hs : List Handle) → AreOpen before root root hs → numbers_of hs ≡ before ++ root ∷ []
only-root before root hs o = by o.own
  where
    by : ((root ≡ root) × (numbers_of hs ≡ before ++ root ∷ [])) ⊎ ((root < root) × (numbers_of hs ≡ before ++ root ∷ root ∷ [])) → numbers_of hs ≡ before ++ root ∷ []
    by (inl both) = both.1
    by (inr both) = let l = both.0 in absurd (omega (arith, l))

pub open-first : (hs : List Handle) (new : Handle) → AllByRecursion (λ (h : Handle). h.number < new.number) hs →
    AreOpen (numbers_of hs) new.number new.number (hs ++ new ∷ [])
open-first hs new b = record { below = numbers-below new.number hs b; own = inl (refl, numbers-more hs new) }

pub open-second : (before : List ℕ) (root : ℕ) (hs : List Handle) (new : Handle) → AreOpen before root root hs → root < new.number →
    AreOpen before root new.number (hs ++ new ∷ [])
open-second before root hs new o l = record {
  below = o.below;
  own = inr (
    l,
    numbers-more hs new ∙ ap (λ (ns : List ℕ). ns ++ new.number ∷ []) (only-root before root hs o) ∙ append_assoc before (root ∷ []) (new.number ∷ []),
  );
}

pub close-second : (before : List ℕ) (root key : ℕ) (hs : List Handle) → AreOpen before root key hs → root ≢ key → AreOpen before root root (closed key hs)
close-second before root key hs o other = record { below = o.below; own = inl (refl, numbers-closed key hs ∙ by o.own) }
  where
    by : ((key ≡ root) × (numbers_of hs ≡ before ++ root ∷ [])) ⊎ ((root < key) × (numbers_of hs ≡ before ++ root ∷ key ∷ [])) →
        without key (numbers_of hs) ≡ before ++ root ∷ []
    by (inl both) = absurd (other (sym both.0))
    by (inr both) =
        ap (without key) (both.1 ∙ sym (append_assoc before (root ∷ []) (key ∷ [])))
        ∙ without-last key (before ++ root ∷ []) (below-more before root key both.0 o.below)

pub close-first : (before : List ℕ) (root : ℕ) (hs : List Handle) → AreOpen before root root hs → numbers_of (closed root hs) ≡ before
close-first before root hs o = numbers-closed root hs ∙ ap (without root) (only-root before root hs o) ∙ without-last root before o.below

-- handles that have the same numbers as others are open as those are
pub open-still : (before : List ℕ) (root key : ℕ) (hs now : List Handle) → numbers_of now ≡ numbers_of hs → AreOpen before root key hs → AreOpen before root key now
open-still before root key hs now e o = record { below = o.below; own = by o.own }
  where
    by : ((key ≡ root) × (numbers_of hs ≡ before ++ root ∷ [])) ⊎ ((root < key) × (numbers_of hs ≡ before ++ root ∷ key ∷ [])) →
        ((key ≡ root) × (numbers_of now ≡ before ++ root ∷ [])) ⊎ ((root < key) × (numbers_of now ≡ before ++ root ∷ key ∷ []))
    by (inl both) = inl (both.0, e ∙ both.1)
    by (inr both) = inr (both.0, e ∙ both.1)
