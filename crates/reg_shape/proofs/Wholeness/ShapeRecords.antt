-- The records of keys that stand in the cells: each fit, each met once, and how many there are.
use Rattle.std.proofs.Common.{◌≡◌, ℕ, zero, suc, ◌+◌, ◌<◌, ◌≤◌, Bool, true, false, cond, eqb, is_some, IsSome, Some, List, [], ◌∷◌, ◌++◌, length, take, drop, refl, sym, ap, ◌∙◌}
use Rattle.std.proofs.Common.{subst, arith}
use Rattle.std.specs.List.{AllByRecursion}
use Rattle.std.proofs.lemmas.Bool.{false≢true, eqb-true}
use Rattle.reg_arena.proofs.Contents.CellWrites.{all-append}
use Rattle.reg_heap.specs.Heaps.{Heap, allocated}
use Rattle.reg_heap.specs.Kinds.{Kind, Found, is_security, is_own, is_shared, times, owned, shared}
use Rattle.reg_heap.specs.Kinds.Kind.{Key, Class, SubList, Leaf, ValueList, Value, Data, BigHead, BigList, Segment, Security}
use Rattle.reg_shape.specs.Internal.Forests.{Forest, Branch, heads, total, Stand}
use Rattle.reg_shape.specs.Internal.Forests.Forest.{End, Rooted as Hangs}
use Rattle.reg_shape.specs.Nodes.{Node, KeyList, Index, met_of, look}
use Rattle.reg_shape.specs.Nodes.Index.{Unlisted, Listed, Rooted}
use Rattle.reg_shape.specs.Written.{Pairwise, Fits, IsWrittenSecurity}
use Rattle.reg_shape.specs.Whole.{AreApart, IsWritten}
use Rattle.reg_shape.specs.Internal.Shapes.{joined, lists_met, index_met, traces, trace, shares, cells_of, IsSeen, StandsIn, depth}
use Rattle.reg_shape.proofs.Walking.WalkFuel.{load}
use Rattle.reg_shape.proofs.Wholeness.FewerNumbers.{same-number}
use Rattle.reg_shape.proofs.Walking.InnerReadings.{is_inner, AreInner, class-inner, members-inner}
use Rattle.reg_shape.proofs.Walking.WalkRefinement.{look-open, AreSecured}
use Rattle.reg_shape.proofs.Wholeness.ShapeCounts.{tally-append}

-- ---- members of lists of numbers

pub all-at : (P : ℕ → Type 0) (xs : List ℕ) (z : ℕ) → AllByRecursion P xs → 0 < times z xs → P z
all-at P [] z a l = absurd (omega arith)
all-at P (x ∷ xs) z a l = by (all-at P xs z a.1) (eqb x z) refl l
  where
    by : (0 < times z xs → P z) → (b : Bool) → eqb x z ≡ b → 0 < cond b 1 0 + times z xs → P z
    by rest true e l = subst P (eqb-true x z e) a.0
    by rest false e l = rest (omega arith)

-- ---- once

security-alone : (kind : Kind) → is_security kind ≡ true → kind ≡ Security
security-alone Key e = absurd (false≢true e)
security-alone Class e = absurd (false≢true e)
security-alone SubList e = absurd (false≢true e)
security-alone Leaf e = absurd (false≢true e)
security-alone ValueList e = absurd (false≢true e)
security-alone Value e = absurd (false≢true e)
security-alone Data e = absurd (false≢true e)
security-alone BigHead e = absurd (false≢true e)
security-alone BigList e = absurd (false≢true e)
security-alone Segment e = absurd (false≢true e)
security-alone Security e = refl

pub own-here : (f : Found) → is_security f.kind ≡ false → is_own f.offset f ≡ 1
own-here f s = ap (λ b. cond b 0 (cond (eqb f.offset f.offset) 1 0)) s ∙ ap (λ b. cond b 1 0) (same-number f.offset)

pub shared-here : (f : Found) → is_security f.kind ≡ true → is_shared f.offset f ≡ 1
shared-here f s = ap (λ b. cond b (cond (eqb f.offset f.offset) 1 0) 0) s ∙ ap (λ b. cond b 1 0) (same-number f.offset)

-- the first is met nowhere else, save as a security
first-apart : (f : Found) (fs : List Found) → is_own f.offset f + owned f.offset fs ≤ 1 → (0 < is_own f.offset f + owned f.offset fs →
    is_shared f.offset f + shared f.offset fs ≡ 0) → AllByRecursion (AreApart f) fs
first-apart f [] l s = tt
first-apart f (g ∷ fs) l s = (one, first-apart f fs (omega arith) (λ h. let r = s (omega arith) in omega arith))
  where
    by : (a b : Bool) → is_security f.kind ≡ a → is_security g.kind ≡ b → f.offset ≡ g.offset → (f.kind ≡ Security) × (g.kind ≡ Security)
    by true true a b e = (security-alone f.kind a, security-alone g.kind b)
    by true false a b e =
        let x = shared-here f a in
        let y : is_own f.offset g ≡ 1 = ap (λ z. is_own z g) e ∙ own-here g b in
        let r = s (omega (arith, y)) in
        absurd (omega (arith, x, r))
    by false true a b e =
        let x = own-here f a in
        let y : is_shared f.offset g ≡ 1 = ap (λ z. is_shared z g) e ∙ shared-here g b in
        let r = s (omega (arith, x)) in
        absurd (omega (arith, y, r))
    by false false a b e =
        let x = own-here f a in
        let y : is_own f.offset g ≡ 1 = ap (λ z. is_own z g) e ∙ own-here g b in
        absurd (omega (arith, x, y, l))

    one : AreApart f g
    one e = by (is_security f.kind) (is_security g.kind) refl refl e

pub once : (fs : List Found) → ((z : ℕ) → owned z fs ≤ 1) → ((z : ℕ) → 0 < owned z fs → shared z fs ≡ 0) → Pairwise AreApart fs
once [] l s = tt
once (f ∷ fs) l s = (
  first-apart f fs (l f.offset) (s f.offset),
  once fs (λ z. let a = l z in omega arith) (λ z h. let a = s z (omega arith) in omega arith),
)

-- ---- keys

abbrev pub is_key : Kind → Bool
is_key Key = true
is_key kind = false

no-key : (kind : Kind) → is_key kind ≡ false → kind ≡ Key → ⊥
no-key kind i e = false≢true (sym i ∙ ap is_key e)

module _ (heap : Heap) (root : ℕ) where
  abbrev IsFine : Found → Type 0
  IsFine f = f.kind ≡ Key → IsWritten heap root f.offset

  inner-fine : (found : List Found) → AreInner found → AllByRecursion IsFine found
  inner-fine [] a = tt
  inner-fine (f ∷ found) a = ((λ e. absurd (false≢true (ap is_inner (sym e) ∙ a.0))), inner-fine found a.1)

  joined-fine : (ts : List (List Found)) → AllByRecursion (AllByRecursion IsFine) ts → AllByRecursion IsFine (joined ts)
  joined-fine [] a = tt
  joined-fine (t ∷ ts) a = all-append IsFine t (joined ts) a.0 (joined-fine ts a.1)

  front-fine : (n : ℕ) (ts : List (List Found)) → AllByRecursion (AllByRecursion IsFine) ts → AllByRecursion (AllByRecursion IsFine) (take n ts)
  front-fine zero ts a = tt
  front-fine (suc n) [] a = tt
  front-fine (suc n) (t ∷ ts) a = (a.0, front-fine n ts a.1)

  back-fine : (n : ℕ) (ts : List (List Found)) → AllByRecursion (AllByRecursion IsFine) ts → AllByRecursion (AllByRecursion IsFine) (drop n ts)
  back-fine zero ts a = a
  back-fine (suc n) [] a = tt
  back-fine (suc n) (t ∷ ts) a = back-fine n ts a.1

  lists-fine : (lists : List KeyList) (ts : List (List Found)) → AllByRecursion (AllByRecursion IsFine) ts → AllByRecursion IsFine (lists_met lists ts)
  lists-fine [] ts a = tt
  lists-fine (list ∷ lists) ts a =
      let n = length list.list.entries in (
        (λ e. absurd (no-key Leaf refl e)),
        all-append IsFine (joined (take n ts)) (lists_met lists (drop n ts)) (joined-fine (take n ts) (front-fine n ts a)) (lists-fine lists (drop n ts) (back-fine n ts a)),
      )

  index-fine : (index : Index) (ts : List (List Found)) → AllByRecursion (AllByRecursion IsFine) ts → AllByRecursion IsFine (index_met index ts)
  index-fine Unlisted ts a = tt
  index-fine (Listed list) ts a = ((λ e. absurd (no-key Leaf refl e)), joined-fine ts a)
  index-fine (Rooted offset lists) ts a = ((λ e. absurd (no-key SubList refl e)), lists-fine lists ts a)

  -- a key's own records
  own-fine : (offset : ℕ) (node : Node) → IsWritten heap root offset → look heap offset ≡ Some node → AllByRecursion IsFine node.cells
  own-fine offset node w e =
      let l = look-open heap offset node e in
      let key = node.key in
      let class = inner-fine l.class_cells (class-inner heap key.fields.class_length key.fields.class (node.class, l.class_cells) l.class_is) in
      let values = inner-fine l.value_cells (members-inner heap key.fields.values key.fields.values_list (node.values, l.value_cells) l.values_are) in
      subst (AllByRecursion IsFine) (sym l.cells)
      ((λ _. w), all-append IsFine l.class_cells (record { kind = Security; offset = key.fields.security } ∷ l.value_cells) class ((λ e. absurd (no-key Security refl e)), values))

  heads-seen : (F : Forest Node) → Stand (IsSeen heap root) Fits F → AllByRecursion (λ (e : ℕ × Node). look heap e.0 ≡ Some e.1) (heads F)
  heads-seen End a = tt
  heads-seen (Hangs offset node below beside) a = (a.0.0.reads, heads-seen beside a.1)

  written : (offset : ℕ) (node : Node) (below : Forest Node) → IsSeen heap root offset node → Fits offset node (heads below) → Stand (IsSeen heap root) Fits below → IsWritten heap root offset
  written offset node below seen fits a = record { node = node; seen = seen.reads; written = seen.written; below = heads below; reads = heads-seen below a; fits = fits }

  key-fine : (offset : ℕ) (node : Node) (below : Forest Node) → IsSeen heap root offset node → Fits offset node (heads below) →
      Stand (IsSeen heap root) Fits below → AllByRecursion (AllByRecursion IsFine) (traces below) →
      AllByRecursion IsFine (node.cells ++ index_met node.index (traces below))
  key-fine offset node below seen fits a under =
      all-append IsFine node.cells (index_met node.index (traces below)) (own-fine offset node (written offset node below seen fits a) seen.reads) (index-fine node.index (traces below) under)

  forest-fine : (F : Forest Node) → Stand (IsSeen heap root) Fits F → AllByRecursion (AllByRecursion IsFine) (traces F)
  forest-fine End a = tt
  forest-fine (Hangs offset node below beside) a =
      (key-fine offset node below a.0.0 a.0.1 a.0.2 (forest-fine below a.0.2), forest-fine beside a.1)

  pub branch-fine : (keys : Branch Node) → StandsIn heap root keys → AllByRecursion IsFine (trace keys)
  branch-fine keys a = key-fine keys.offset keys.node keys.below a.0 a.1 a.2 (forest-fine keys.below a.2)

  -- ---- securities

  -- a key names its security
  pub shares-own : (offset : ℕ) (node : Node) → look heap offset ≡ Some node → 0 < shared node.key.fields.security (cells_of node)
  shares-own offset node e =
      let l = look-open heap offset node e in
      let s = node.key.fields.security in
      let f : Found = record { kind = Security; offset = s } in
      let one : is_shared s f ≡ 1 = shared-here f refl in
      let cells : shared s node.cells ≡ shared s (met_of offset node.key l.class_cells l.value_cells) = ap (shared s) l.cells in
      let parts = tally-append (is_shared s) l.class_cells (f ∷ l.value_cells) in
      let all = tally-append (is_shared s) node.cells (index_met node.index []) in
      omega (arith, one, cells, parts, all)

  pub forest-secured : (F : Forest Node) → Stand (IsSeen heap root) Fits F → ((z : ℕ) → 0 < total (shares z) F → IsWrittenSecurity heap z) → AreSecured heap F
  forest-secured End a h = tt
  forest-secured (Hangs offset node below beside) a h = (
    h node.key.fields.security (let l = shares-own offset node a.0.0.reads in omega arith),
    forest-secured below a.0.2 (λ z l. h z (omega arith)),
    forest-secured beside a.1 (λ z l. h z (omega arith)),
  )

  -- ---- how many keys, and cells

  -- each key is met as a record that is no security
  pub key-load : (offset : ℕ) (node : Node) → look heap offset ≡ Some node → 0 < load (cells_of node)
  key-load offset node e =
      let l = look-open heap offset node e in
      let cells : load node.cells ≡ load (met_of offset node.key l.class_cells l.value_cells) = ap load l.cells in
      let all = tally-append (λ f. cond (is_security f.kind) 0 1) node.cells (index_met node.index []) in
      omega (arith, cells, all)

  pub forest-deep : (F : Forest Node) → Stand (IsSeen heap root) Fits F → depth F ≤ total (λ offset node. load (cells_of node)) F
  forest-deep End a = omega arith
  forest-deep (Hangs offset node below beside) a =
      let l = key-load offset node a.0.0.reads in
      let b = forest-deep below a.0.2 in
      let s = forest-deep beside a.1 in
      omega arith

-- the offsets that are met as own cells
pub own_offsets : List Found → List ℕ
own_offsets [] = []
own_offsets (f ∷ fs) = cond (is_security f.kind) (own_offsets fs) (f.offset ∷ own_offsets fs)

pub own-times : (z : ℕ) (fs : List Found) → times z (own_offsets fs) ≡ owned z fs
unfolding own_offsets
own-times z [] = refl
own-times z (f ∷ fs) = by (is_security f.kind) (own-times z fs)
  where
    by : (b : Bool) → times z (own_offsets fs) ≡ owned z fs → times z (cond b (own_offsets fs) (f.offset ∷ own_offsets fs)) ≡ cond b 0 (cond (eqb f.offset z) 1 0) + owned z fs
    by true e = omega arith
    by false e = omega arith

pub own-length : (fs : List Found) → length (own_offsets fs) ≡ load fs
unfolding own_offsets
own-length [] = refl
own-length (f ∷ fs) = by (is_security f.kind) (own-length fs)
  where
    by : (b : Bool) → length (own_offsets fs) ≡ load fs → length (cond b (own_offsets fs) (f.offset ∷ own_offsets fs)) ≡ cond b 0 1 + load fs
    by true e = omega arith
    by false e = omega arith

-- the allocated cells are at most so many
pub record AreAtMost (heap : Heap) (cells : ℕ) : Type 0 where
  pub offsets : List ℕ
  pub all : (z : ℕ) → allocated heap z ≤ times z offsets
  pub few : length offsets ≤ cells

pub at-most-one : (heap : Heap) (z : ℕ) → allocated heap z ≤ 1
at-most-one heap z = by (is_some (heap z))
  where
    by : (b : Bool) → cond b 1 0 ≤ 1
    by true = omega arith
    by false = omega arith

pub is-allocated : (heap : Heap) (z : ℕ) → 0 < allocated heap z → IsSome (heap z)
is-allocated heap z l = by (is_some (heap z)) l
  where
    by : (b : Bool) → 0 < cond b 1 0 → b ≡ true
    by true l = refl
    by false l = absurd (omega arith)

pub allocated-is : (heap : Heap) (z : ℕ) → IsSome (heap z) → ◌≡◌ {A = ℕ} (allocated heap z) 1
allocated-is heap z s = ap (λ b. cond b 1 0) s
