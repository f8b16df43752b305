-- A table that is made of a ring as it stands.
use Rattle.std.proofs.Common.{◌≡◌, ◌≢◌, ◌⊎◌, inl, inr, ℕ, ◌+◌, ◌<◌, Bool, true, false, cond, List, [], ◌∷◌, ◌++◌, length, take, drop, get_or, Option, Some, refl, sym, ap, subst, ◌∙◌, arith}
use Rattle.std.specs.List.{AllByRecursion}
use Rattle.std.specs.Prelude.{bytes_eq}
use Rattle.std.proofs.lemmas.Bool.{cases_eq}
use Rattle.std.proofs.lemmas.List.{drop_more, take-append-drop, take_more}
use Rattle.std.proofs.lemmas.Option.{same_Some}
use Rattle.reg_heap.specs.Heaps.{Heap}
use Rattle.reg_heap.specs.Kinds.{times}
use Rattle.reg_shape.specs.Whole.{IsRing, descriptor_at}
use Rattle.reg_shape.specs.Written.{Pairwise}
use Rattle.reg_security.specs.Rings.{DescriptorCells, cell_of, Notes, MakesReady, Describes, Finds}
use Rattle.reg_security.proofs.RingTurned.{times-append}
use Rattle.reg_security.proofs.TableCells.{noted-here, noted-other, same-bytes, times-itself, times-other}

-- room made and then the cell set, or just set: it is noted
pub noted-twice : (t u v : DescriptorCells) (descriptor : List ℕ) (cell : ℕ) (made : Bool) → MakesReady t descriptor made u → Notes (cell_of u) descriptor (Some cell) (cell_of v) →
    Notes (cell_of t) descriptor (Some cell) (cell_of v)
noted-twice t u v descriptor cell true r n = λ other. n other ∙ by (bytes_eq descriptor other) (cell_of u other) (cell_of t other) (r.1 other)
  where
    by : (b : Bool) (x y : Option ℕ) → x ≡ cond b (Some 0) y → cond b (Some cell) x ≡ cond b (Some cell) y
    by true x y e = refl
    by false x y e = e
noted-twice t u v descriptor cell false r n = subst (λ w. Notes (cell_of w) descriptor (Some cell) (cell_of v)) r.0 n

-- a security more is noted, whose descriptor none of the others has
pub finds-one : (t u : DescriptorCells) (heap : Heap) (front : List ℕ) (cell : ℕ) (descriptor : List ℕ) → Finds t heap front →
    ((z : ℕ) → 0 < times z front → descriptor_at heap z ≢ Some descriptor) → descriptor_at heap cell ≡ Some descriptor →
    Notes (cell_of t) descriptor (Some cell) (cell_of u) → Finds u heap (front ++ cell ∷ [])
finds-one t u heap front cell descriptor f apart is n = record {
  found = λ other z e. by-found other z e (same-bytes other descriptor);
  listed = λ other z d. by-listed other z d (cases_eq z cell);
}
  where
    by-found : (other : List ℕ) (z : ℕ) → cell_of u other ≡ Some z → (other ≡ descriptor) ⊎ (other ≢ descriptor) → Describes heap (front ++ cell ∷ []) z other
    by-found other z e (inl same) =
        let at : z ≡ cell = same_Some _ _ (sym e ∙ (ap (cell_of u) same ∙ noted-here t u descriptor (Some cell) n)) in
        let m = times-append cell front (cell ∷ []) in
        subst (λ z. Describes heap (front ++ cell ∷ []) z other) (sym at) ((let o = times-itself cell in omega (arith, m, o)), is ∙ ap Some (sym same))
    by-found other z e (inr p) =
        let d = f.found other z (sym (noted-other t u descriptor other (Some cell) n p) ∙ e) in
        let m = times-append z front (cell ∷ []) in
        let l = d.0 in
        (omega (arith, m, l), d.1)

    by-listed : (other : List ℕ) (z : ℕ) → Describes heap (front ++ cell ∷ []) z other → (z ≡ cell) ⊎ (z ≢ cell) → cell_of u other ≡ Some z
    by-listed other z d (inl at) =
        let same : other ≡ descriptor = same_Some _ _ (sym d.1 ∙ (ap (descriptor_at heap) at ∙ is)) in
        ap (cell_of u) same ∙ (noted-here t u descriptor (Some cell) n ∙ ap Some (sym at))
    by-listed other z d (inr p) =
        let m = times-append z front (cell ∷ []) in
        let o = times-other z cell p in
        let l = d.0 in
        let there : 0 < times z front = omega (arith, m, o, l) in
        noted-other t u descriptor other (Some cell) n (λ same. apart z there (d.1 ∙ ap Some same)) ∙ f.listed other z (there, d.1)

-- of a ring's securities, none before one has its descriptor
before-apart : (heap : Heap) (front : List ℕ) (cell : ℕ) (rest : List ℕ) → Pairwise (λ a b. descriptor_at heap a ≢ descriptor_at heap b) (front ++ cell ∷ rest) →
    (z : ℕ) → 0 < times z front → descriptor_at heap z ≢ descriptor_at heap cell
before-apart heap [] cell rest p z l = absurd (omega arith)
before-apart heap (x ∷ front) cell rest p z l = by (cases_eq z x) (λ k. before-apart heap front cell rest p.1 z k)
  where
    all-at : (xs : List ℕ) → AllByRecursion (λ b. descriptor_at heap x ≢ descriptor_at heap b) (xs ++ cell ∷ rest) → descriptor_at heap x ≢ descriptor_at heap cell
    all-at [] a = a.0
    all-at (y ∷ xs) a = all-at xs a.1

    by : (z ≡ x) ⊎ (z ≢ x) → (0 < times z front → descriptor_at heap z ≢ descriptor_at heap cell) → descriptor_at heap z ≢ descriptor_at heap cell
    by (inl e) more = subst (λ k. descriptor_at heap k ≢ descriptor_at heap cell) (sym e) (all-at front p.0)
    by (inr o) more = more (let k = times-append z (x ∷ []) front in let n = times-other z x o in omega (arith, l, k, n))

-- one security more of a ring is noted, behind those before it
pub finds-more : (t u : DescriptorCells) (heap : Heap) (ring : List ℕ) (i : ℕ) (descriptor : List ℕ) → i < length ring → IsRing heap ring → Finds t heap (take i ring) →
    descriptor_at heap (get_or ring i 0) ≡ Some descriptor → Notes (cell_of t) descriptor (Some (get_or ring i 0)) (cell_of u) → Finds u heap (take (i + 1) ring)
finds-more t u heap ring i descriptor l r f is n =
    let cell : ℕ = get_or ring i 0 in
    let parts : take i ring ++ cell ∷ drop (i + 1) ring ≡ ring = ap (λ rest. take i ring ++ rest) (sym (drop_more ring i 0 l)) ∙ take-append-drop i ring in
    let pairs = subst (Pairwise (λ a b. descriptor_at heap a ≢ descriptor_at heap b)) (sym parts) r.apart in
    subst (Finds u heap) (sym (take_more ring i 0 l))
    (finds-one t u heap (take i ring) cell descriptor f (λ z k e. before-apart heap (take i ring) cell (drop (i + 1) ring) pairs z k (e ∙ sym is)) is n)
