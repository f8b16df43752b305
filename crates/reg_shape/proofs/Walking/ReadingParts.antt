-- A reading taken apart.
use Rattle.std.proofs.Common.{◌≡◌, Bool, true, false, ℕ, Option, Some, None, List, [], ◌∷◌, ◌++◌, refl, sym, ap, ◌∙◌}
use Rattle.std.specs.Option.{option_map, option_and_then}
use Rattle.std.proofs.lemmas.Option.{none-some, same_Some}
use Rattle.std.proofs.lemmas.List.{append-nil}
use Rattle.reg_heap.specs.Heaps.{Heap}
use Rattle.reg_heap.specs.Kinds.{Kind, Found}
use Rattle.reg_shape.specs.Readings.{Reading, noted, ◌>>=◌, give, given, cell, guard, each}

-- the first reading, and what it was asked for then
pub record IsBound {A B : Type 0} (r : Reading A) (f : A → Reading B) (heap : Heap) (y : B × List Found) : Type 0 where
  pub first : A
  pub before : List Found
  pub then : B × List Found
  pub first_is : r heap ≡ Some (first, before)
  pub then_is : f first heap ≡ Some then
  pub result : then.0 ≡ y.0
  pub all : before ++ then.1 ≡ y.1

pub bind-open : {A B : Type 0} (r : Reading A) (f : A → Reading B) (heap : Heap) (y : B × List Found) → ◌>>=◌ r f heap ≡ Some y → IsBound r f heap y
bind-open {A} {B} r f heap y e = outer (r heap) refl e
  where
    inner : (x : A) (zs : List Found) → r heap ≡ Some (x, zs) → (s : Option (B × List Found)) → f x heap ≡ s → option_map (noted zs) s ≡ Some y → IsBound r f heap y
    inner x zs a None b e = absurd (none-some _ e)
    inner x zs a (Some w) b e =
        let p : ◌≡◌ {A = B × List Found} (noted zs w) y = same_Some _ _ e in
        record { first = x; before = zs; then = w; first_is = a; then_is = b; result = ap (λ (p : B × List Found). p.0) p; all = ap (λ (p : B × List Found). p.1) p }

    outer : (s : Option (A × List Found)) → r heap ≡ s → option_and_then (λ x. option_map (noted x.1) (f x.0 heap)) s ≡ Some y → IsBound r f heap y
    outer None a e = absurd (none-some _ e)
    outer (Some x) a e = inner x.0 x.1 a (f x.0 heap) refl e

pub bind-made : {A B : Type 0} (r : Reading A) (f : A → Reading B) (heap : Heap) (x : A) (zs : List Found) (w : B × List Found) →
    r heap ≡ Some (x, zs) → f x heap ≡ Some w → ◌>>=◌ r f heap ≡ Some (noted zs w)
bind-made r f heap x zs w a b = ap (option_and_then (λ x. option_map (noted x.1) (f x.0 heap))) a ∙ ap (option_map (noted zs)) b

pub guard-made : {A : Type 0} (test : Bool) (r : Reading A) (heap : Heap) (y : A × List Found) → test ≡ true → r heap ≡ Some y → guard test r heap ≡ Some y
guard-made test r heap y t e = ap (λ b. guard b r heap) t ∙ e

pub given-made : {A : Type 0} (x : Option A) (a : A) (heap : Heap) → x ≡ Some a → given x heap ≡ Some (a, [])
given-made {A} x a heap e = ap (option_map {U = A × List Found} (λ a. (a, []))) e

pub cell-made : (kind : Kind) (offset : ℕ) (heap : Heap) (content : List ℕ) → heap offset ≡ Some content → cell kind offset heap ≡ Some (content, record { kind = kind; offset = offset } ∷ [])
cell-made kind offset heap content e = ap (option_map {U = List ℕ × List Found} (λ c. (c, record { kind = kind; offset = offset } ∷ []))) e

pub guard-open : {A : Type 0} (test : Bool) (r : Reading A) (heap : Heap) (y : A × List Found) → guard test r heap ≡ Some y → (test ≡ true) × (r heap ≡ Some y)
guard-open true r heap y e = (refl, e)
guard-open false r heap y e = absurd (none-some _ e)

pub given-open : {A : Type 0} (x : Option A) (heap : Heap) (y : A × List Found) → given x heap ≡ Some y → (x ≡ Some y.0) × (y.1 ≡ [])
given-open None heap y e = absurd (none-some _ e)
given-open {A} (Some x) heap y e =
    let p : ◌≡◌ {A = A × List Found} (x, []) y = same_Some _ _ e in (ap (λ (p : A × List Found). Some p.0) p, sym (ap (λ (p : A × List Found). p.1) p))

pub cell-open : (kind : Kind) (offset : ℕ) (heap : Heap) (content : List ℕ) (zs : List Found) → cell kind offset heap ≡ Some (content, zs) →
    (heap offset ≡ Some content) × (zs ≡ record { kind = kind; offset = offset } ∷ [])
cell-open kind offset heap content zs e = by (heap offset) refl e
  where
    by : (r : Option (List ℕ)) → heap offset ≡ r →
        ◌≡◌ {A = Option (List ℕ × List Found)} (option_map (λ (c : List ℕ). (c, record { kind = kind; offset = offset } ∷ [])) r)
        (Some (content, zs)) → (heap offset ≡ Some content) × (zs ≡ record { kind = kind; offset = offset } ∷ [])
    by None a e = absurd (none-some _ e)
    by (Some c) a e =
        let p : ◌≡◌ {A = List ℕ × List Found} (c, record { kind = kind; offset = offset } ∷ []) (content, zs) = same_Some _ _ e in
        (a ∙ ap (λ (p : List ℕ × List Found). Some p.0) p, sym (ap (λ (p : List ℕ × List Found). p.1) p))

-- the reading of the first, and of the others
pub record IsEach {A B : Type 0} (r : A → Reading B) (heap : Heap) (x : A) (xs : List A) (ys : List B) (zs : List Found) : Type 0 where
  pub head : B
  pub head_cells : List Found
  pub tail : List B
  pub tail_cells : List Found
  pub head_is : r x heap ≡ Some (head, head_cells)
  pub tail_is : each r xs heap ≡ Some (tail, tail_cells)
  pub result : head ∷ tail ≡ ys
  pub all : head_cells ++ tail_cells ≡ zs

pub each-open : {A B : Type 0} (r : A → Reading B) (heap : Heap) (x : A) (xs : List A) (ys : List B) (zs : List Found) → each r (x ∷ xs) heap ≡ Some (ys, zs) → IsEach r heap x xs ys zs
each-open {A} {B} r heap x xs ys zs e =
    let o = bind-open (r x) (λ y. each r xs >>= (λ ys. give (y ∷ ys))) heap (ys, zs) e in
    let t = bind-open (each r xs) (λ ys. give (o.first ∷ ys)) heap o.then o.then_is in
    let p : ◌≡◌ {A = List B × List Found} (o.first ∷ t.first, []) t.then = same_Some _ _ t.then_is in
    record {
      head = o.first;
      head_cells = o.before;
      tail = t.first;
      tail_cells = t.before;
      head_is = o.first_is;
      tail_is = t.first_is;
      result = ap (λ (p : List B × List Found). p.0) p ∙ t.result ∙ o.result;
      all = ap (λ cs. o.before ++ cs) (sym (append-nil t.before) ∙ ap (λ (p : List B × List Found). t.before ++ p.1) p ∙ t.all) ∙ o.all;
    }
