-- A key without keys below it, put among others or taken from them.
use Rattle.std.proofs.Common.{◌≡◌, ℕ, zero, suc, ◌+◌, ◌≤◌, max, Bool, true, false, cond, Some, None, List, [], ◌∷◌, ◌++◌, map, length, take, drop, refl, sym, ap, ◌∙◌, subst, arith}
use Rattle.std.specs.List.{AllByRecursion}
use Rattle.std.proofs.lemmas.Bool.{false≢true}
use Rattle.std.proofs.lemmas.Option.{none-some}
use Rattle.reg_names.specs.Names.{folded}
use Rattle.reg_heap.specs.Paths.{Path}
use Rattle.reg_heap.specs.Heaps.{Heap}
use Rattle.reg_shape.specs.Internal.Forests.{Forest, Branch, heads, total, Stand}
use Rattle.reg_shape.specs.Internal.Forests.Forest.{End, Rooted as Hangs}
use Rattle.reg_records.specs.SubkeyLists.{Entry, offsets_in}
use Rattle.reg_shape.specs.Nodes.{Node, entries_of}
use Rattle.reg_shape.specs.Spelt.{name_of}
use Rattle.reg_shape.specs.Written.{Fits}
use Rattle.reg_shape.specs.Internal.Shapes.{IsSeen, depth}
use Rattle.reg_shape.specs.Internal.Exchanges.{is_named, found_in, found_at}
use Rattle.reg_shape.specs.Internal.Grafts.{hang, unhang, IsLeafAt}
use Rattle.reg_shape.proofs.Refinement.RefinementAfterEdit.{name-is}
use Rattle.reg_shape.proofs.Refinement.RefinementAtPath.{IsOther, Apart}

-- ---- the keys side by side

pub heads-hang : (i o : ℕ) (n : Node) (F : Forest Node) → heads (hang i o n F) ≡ take i (heads F) ++ (o, n) ∷ drop i (heads F)
heads-hang zero o n F = refl
heads-hang (suc i) o n End = refl
heads-hang (suc i) o n (Hangs v k b s) = ap (λ es. (v, k) ∷ es) (heads-hang i o n s)

heads-cut : (i : ℕ) (F : Forest Node) → heads (unhang i F) ≡ take i (heads F) ++ drop (suc i) (heads F)
heads-cut zero End = refl
heads-cut (suc i) End = refl
heads-cut zero (Hangs v k b s) = refl
heads-cut (suc i) (Hangs v k b s) = ap (λ es. (v, k) ∷ es) (heads-cut i s)

pub heads-unhang : (i : ℕ) (F : Forest Node) → heads (unhang i F) ≡ take i (heads F) ++ drop (i + 1) (heads F)
heads-unhang i F = let e : suc i ≡ i + 1 = omega arith in heads-cut i F ∙ ap (λ j. take i (heads F) ++ drop j (heads F)) e

-- ---- numbers of all keys, and how many lead down

pub total-hang : (m : ℕ → Node → ℕ) (i o : ℕ) (n : Node) (F : Forest Node) → total m (hang i o n F) ≡ m o n + total m F
total-hang m zero o n F = omega arith
total-hang m (suc i) o n End = omega arith
total-hang m (suc i) o n (Hangs v k b s) = let t = total-hang m i o n s in omega (arith, t)

pub total-unhang : (m : ℕ → Node → ℕ) (i o : ℕ) (n : Node) (F : Forest Node) → IsLeafAt i o n F → total m (unhang i F) + m o n ≡ total m F
total-unhang m i o n End l = absurd l
total-unhang m zero o n (Hangs v k b s) l =
    let a : m v k ≡ m o n = ap (λ v. m v k) l.0 ∙ ap (m o) l.1 in
    let e : ◌≡◌ {A = ℕ} (total m b) 0 = ap (total m) l.2 in
    omega (arith, a, e)
total-unhang m (suc i) o n (Hangs v k b s) l = let t = total-unhang m i o n s l in omega (arith, t)

pub depth-hang : (i o : ℕ) (n : Node) (F : Forest Node) → depth (hang i o n F) ≤ max 1 (depth F)
depth-hang zero o n F = omega arith
depth-hang (suc i) o n End = omega arith
depth-hang (suc i) o n (Hangs v k b s) = let t = depth-hang i o n s in omega (arith, t)

pub depth-unhang : (i : ℕ) (F : Forest Node) → depth (unhang i F) ≤ depth F
depth-unhang zero End = omega arith
depth-unhang (suc i) End = omega arith
depth-unhang zero (Hangs v k b s) = omega arith
depth-unhang (suc i) (Hangs v k b s) = let t = depth-unhang i s in omega (arith, t)

-- ---- the keys stand

module _ (Sees : ℕ → Node → Type 0) (Suits : ℕ → Node → List (ℕ × Node) → Type 0) where
  pub stand-hang : (i o : ℕ) (n : Node) (F : Forest Node) → Sees o n → Suits o n [] → Stand Sees Suits F → Stand Sees Suits (hang i o n F)
  stand-hang zero o n F s f a = ((s, f, tt), a)
  stand-hang (suc i) o n End s f a = ((s, f, tt), tt)
  stand-hang (suc i) o n (Hangs v k b t) s f a = (a.0, stand-hang i o n t s f a.1)

  pub stand-unhang : (i : ℕ) (F : Forest Node) → Stand Sees Suits F → Stand Sees Suits (unhang i F)
  stand-unhang zero End a = tt
  stand-unhang (suc i) End a = tt
  stand-unhang zero (Hangs v k b t) a = a.1
  stand-unhang (suc i) (Hangs v k b t) a = (a.0, stand-unhang i t a.1)

-- ---- leaves

-- a key that says it has no subkeys is a leaf
no-heads : (F : Forest Node) (entries : List Entry) → map (λ (e : ℕ × Node). e.0) (heads F) ≡ offsets_in entries → length entries ≡ 0 → F ≡ End
no-heads End entries e l = refl
no-heads (Hangs v k b s) [] e l = absurd (let n = ap length e in omega (arith, n))
no-heads (Hangs v k b s) (x ∷ entries) e l = absurd (omega (arith, l))

pub leaf-below : (h : Heap) (root o : ℕ) (n : Node) (b : Forest Node) → IsSeen h root o n → Fits o n (heads b) → n.key.fields.subkeys ≡ 0 → b ≡ End
leaf-below h root o n b s f z = no-heads b (entries_of n.index) f.offsets (sym s.written.subkeys ∙ z)

some-entry : List (ℕ × Node) → Bool
some-entry [] = false
some-entry (e ∷ es) = true

first-entry : ℕ × Node → List (ℕ × Node) → ℕ × Node
first-entry d [] = d
first-entry d (e ∷ es) = e

pub leaf-at : (h : Heap) (root i o : ℕ) (n : Node) (F : Forest Node) (rest : List (ℕ × Node)) → Stand (IsSeen h root) Fits F →
    drop i (heads F) ≡ (o, n) ∷ rest → n.key.fields.subkeys ≡ 0 → IsLeafAt i o n F
unfolding some-entry first-entry
leaf-at h root zero o n End rest a e z = absurd (false≢true (ap some-entry e))
leaf-at h root (suc i) o n End rest a e z = absurd (false≢true (ap some-entry e))
leaf-at h root zero o n (Hangs v k b s) rest a e z =
    let q : ◌≡◌ {A = ℕ × Node} (v, k) (o, n) = ap (first-entry (v, k)) e in
    let node : k ≡ n = ap (λ (e : ℕ × Node). e.1) q in
    (ap (λ (e : ℕ × Node). e.0) q, node, leaf-below h root v k b a.0.0 a.0.1 (ap (λ (n : Node). n.key.fields.subkeys) node ∙ z))
leaf-at h root (suc i) o n (Hangs v k b s) rest a e z = leaf-at h root i o n s rest a.1 e z

leaf-other : (x : List ℕ) (i o : ℕ) (n : Node) (F : Forest Node) → IsLeafAt i o n F → AllByRecursion (IsOther x) (heads F) → is_named x n ≡ false
leaf-other x i o n End l a = absurd l
leaf-other x zero o n (Hangs v k b s) l a = ap (is_named x) (sym l.1) ∙ a.0
leaf-other x (suc i) o n (Hangs v k b s) l a = leaf-other x i o n s l a.1

-- ---- the key that a path finds

none-found : (x : List ℕ) (r : Path) (F : Forest Node) → AllByRecursion (IsOther x) (heads F) → found_in (x ∷ r) F ≡ None
none-found x r End a = refl
none-found x [] (Hangs v k b s) a = ap (λ t. cond t (Some (v, k)) (found_in (x ∷ []) s)) a.0 ∙ none-found x [] s a.1
none-found x (y ∷ r) (Hangs v k b s) a = ap (λ t. cond t (found_in (y ∷ r) b) (found_in (x ∷ y ∷ r) s)) a.0 ∙ none-found x (y ∷ r) s a.1

-- no key has that name
pub not-found : (x : List ℕ) (F : Forest Node) → found_in (x ∷ []) F ≡ None → AllByRecursion (IsOther x) (heads F)
not-found x End e = tt
not-found x (Hangs v k b s) e = by (is_named x k) refl e (not-found x s)
  where
    by : (t : Bool) → is_named x k ≡ t → cond t (Some (v, k)) (found_in (x ∷ []) s) ≡ None →
        (found_in (x ∷ []) s ≡ None → AllByRecursion (IsOther x) (heads s)) → AllByRecursion (IsOther x) (heads (Hangs v k b s))
    by true t e h = absurd (none-some _ (sym e))
    by false t e h = (t, h e)

-- nor is one below it
pub none-deeper : (x : List ℕ) (r : Path) (F : Forest Node) → found_in (x ∷ []) F ≡ None → found_in (x ∷ r) F ≡ None
none-deeper x r F e = none-found x r F (not-found x F e)

-- the first name of two equal ones decides
first-named : (y : List ℕ) (n k : Node) → is_named (folded (name_of n.key)) k ≡ false → is_named y k ≡ true → is_named y n ≡ false
first-named y n k e f = by (is_named y n) refl
  where
    by : (t : Bool) → is_named y n ≡ t → t ≡ false
    by true t = absurd (false≢true (sym e ∙ (ap (λ z. is_named z k) (sym (name-is y (folded (name_of n.key)) t)) ∙ f)))
    by false t = refl

abbrev pub its_leaf : ℕ → Node → Branch Node
its_leaf o n = record { offset = o; node = n; below = End }

found-among : (i o : ℕ) (n : Node) (F : Forest Node) → AllByRecursion (IsOther (folded (name_of n.key))) (heads F) → (y : List ℕ) (r : Path) →
    found_in (y ∷ r) (hang i o n F) ≡ cond (is_named y n) (found_at r (its_leaf o n)) (found_in (y ∷ r) F)
found-among zero o n F a y [] = refl
found-among zero o n F a y (z ∷ r) = refl
found-among (suc i) o n End a y [] = refl
found-among (suc i) o n End a y (z ∷ r) = refl
found-among (suc i) o n (Hangs v k b s) a y [] = by (is_named y k) refl (found-among i o n s a.1 y [])
  where
    by : (t : Bool) → is_named y k ≡ t → found_in (y ∷ []) (hang i o n s) ≡ cond (is_named y n) (Some (o, n)) (found_in (y ∷ []) s) →
        cond t (Some (v, k)) (found_in (y ∷ []) (hang i o n s)) ≡ cond (is_named y n) (Some (o, n)) (cond t (Some (v, k)) (found_in (y ∷ []) s))
    by true t h = sym (ap (λ t. cond t (Some (o, n)) (Some (v, k))) (first-named y n k a.0 t))
    by false t h = h
found-among (suc i) o n (Hangs v k b s) a y (z ∷ r) = by (is_named y k) refl (found-among i o n s a.1 y (z ∷ r))
  where
    by : (t : Bool) → is_named y k ≡ t → found_in (y ∷ z ∷ r) (hang i o n s) ≡ cond (is_named y n) None (found_in (y ∷ z ∷ r) s) →
        cond t (found_in (z ∷ r) b) (found_in (y ∷ z ∷ r) (hang i o n s)) ≡ cond (is_named y n) None
        (cond t (found_in (z ∷ r) b) (found_in (y ∷ z ∷ r) s))
    by true t h = sym (ap (λ t. cond t None (found_in (z ∷ r) b)) (first-named y n k a.0 t))
    by false t h = h

-- a key of another name was put among these
pub found-hang : (i o : ℕ) (n : Node) (F : Forest Node) → found_in (folded (name_of n.key) ∷ []) F ≡ None → (y : List ℕ) (r : Path) →
    found_in (y ∷ r) (hang i o n F) ≡ cond (is_named y n) (found_at r (its_leaf o n)) (found_in (y ∷ r) F)
found-hang i o n F e y r = found-among i o n F (not-found (folded (name_of n.key)) F e) y r

-- a leaf was taken from these
pub found-unhang : (i o : ℕ) (n : Node) (F : Forest Node) → Apart F → IsLeafAt i o n F → (y : List ℕ) (r : Path) → found_in (y ∷ r) (unhang i F) ≡ cond (is_named y n) None (found_in (y ∷ r) F)
found-unhang i o n End a l y r = absurd l
found-unhang zero o n (Hangs v k b s) a l y r = by (is_named y k) refl r ∙ ap (λ m. cond (is_named y m) None (found_in (y ∷ r) (Hangs v k b s))) l.1
  where
    by : (t : Bool) → is_named y k ≡ t → (r : Path) → found_in (y ∷ r) s ≡ cond (is_named y k) None (found_in (y ∷ r) (Hangs v k b s))
    by true t r = none-found y r s (subst (λ x. AllByRecursion (IsOther x) (heads s)) (sym (name-is y (folded (name_of k.key)) t)) a.0) ∙
        sym (ap (λ t. cond t None (found_in (y ∷ r) (Hangs v k b s))) t)
    by false t [] = sym (ap (λ t. cond t None (cond t (Some (v, k)) (found_in (y ∷ []) s))) t)
    by false t (z ∷ r) = sym (ap (λ t. cond t None (cond t (found_in (z ∷ r) b) (found_in (y ∷ z ∷ r) s))) t)
found-unhang (suc i) o n (Hangs v k b s) a l y [] = by (is_named y k) refl (found-unhang i o n s a.2 l y [])
  where
    by : (t : Bool) → is_named y k ≡ t → found_in (y ∷ []) (unhang i s) ≡ cond (is_named y n) None (found_in (y ∷ []) s) →
        cond t (Some (v, k)) (found_in (y ∷ []) (unhang i s)) ≡ cond (is_named y n) None (cond t (Some (v, k)) (found_in (y ∷ []) s))
    by true t h = sym (ap (λ t. cond t None (Some (v, k))) (ap (λ y. is_named y n) (name-is y (folded (name_of k.key)) t) ∙ leaf-other (folded (name_of k.key)) i o n s l a.0))
    by false t h = h
found-unhang (suc i) o n (Hangs v k b s) a l y (z ∷ r) = by (is_named y k) refl (found-unhang i o n s a.2 l y (z ∷ r))
  where
    by : (t : Bool) → is_named y k ≡ t → found_in (y ∷ z ∷ r) (unhang i s) ≡ cond (is_named y n) None (found_in (y ∷ z ∷ r) s) →
        cond t (found_in (z ∷ r) b) (found_in (y ∷ z ∷ r) (unhang i s)) ≡ cond (is_named y n) None
        (cond t (found_in (z ∷ r) b) (found_in (y ∷ z ∷ r) s))
    by true t h = sym (ap (λ t. cond t None (found_in (z ∷ r) b)) (ap (λ y. is_named y n) (name-is y (folded (name_of k.key)) t) ∙ leaf-other (folded (name_of k.key)) i o n s l a.0))
    by false t h = h

-- and nothing was below it
pub leaf-deeper : (i o : ℕ) (n : Node) (F : Forest Node) → Apart F → IsLeafAt i o n F → (y z : List ℕ) (r : Path) → is_named y n ≡ true → found_in (y ∷ z ∷ r) F ≡ None
leaf-deeper i o n End a l y z r e = absurd l
leaf-deeper zero o n (Hangs v k b s) a l y z r e =
    let named : is_named y k ≡ true = ap (is_named y) l.1 ∙ e in
    ap (λ t. cond t (found_in (z ∷ r) b) (found_in (y ∷ z ∷ r) s)) named ∙ ap (found_in (z ∷ r)) l.2
leaf-deeper (suc i) o n (Hangs v k b s) a l y z r e = by (is_named y k) refl (leaf-deeper i o n s a.2 l y z r e)
  where
    by : (t : Bool) → is_named y k ≡ t → found_in (y ∷ z ∷ r) s ≡ None → cond t (found_in (z ∷ r) b) (found_in (y ∷ z ∷ r) s) ≡ None
    by true t h = absurd (false≢true (sym (ap (λ y. is_named y n) (name-is y (folded (name_of k.key)) t) ∙ leaf-other (folded (name_of k.key)) i o n s l a.0) ∙ e))
    by false t h = h
