-- A key that got marks and a class: what its own cells are then, and which cells stay as they are.
use Rattle.std.proofs.Common.{◌≡◌, ◌≢◌, ℕ, zero, suc, ◌+◌, ◌≤◌, cond, Option, Some, None, is_some, List, [], ◌∷◌, ◌++◌, length, take, drop, bit_and, refl, sym, ap, ◌∙◌, subst, arith, length-append}
use Rattle.std.specs.Prelude.{unwrap_or}
use Rattle.std.proofs.lemmas.List.{append-nil}
use Rattle.std.proofs.Math.Seq.{take-append_seam}
use Rattle.std.proofs.lemmas.Option.{same_Some}
use Rattle.reg_heap.specs.declared.limits.TheConstants.{NONE}
use Rattle.reg_heap.specs.Paths.{Path}
use Rattle.reg_heap.specs.Heaps.{Heap, allocated}
use Rattle.reg_heap.specs.Kinds.{Found, times, is_own, owned, shared}
use Rattle.reg_heap.specs.Kinds.Kind.{Key, Class}
use Rattle.reg_arena.proofs.FreeList.ThreadLinks.{times-append}
use Rattle.reg_records.specs.BigData.{if_any, named}
use Rattle.reg_records.specs.KeyNodes.{key_at, IsPlainKey}
use Rattle.reg_records.specs.RecordCells.{held}
use Rattle.reg_shape.specs.Nodes.{Node, pieces_at}
use Rattle.reg_shape.specs.Written.{Fits}
use Rattle.reg_shape.specs.Internal.Forests.{Branch, total_of}
use Rattle.reg_shape.specs.Internal.Shapes.{index_cells, cells_of, owns, IsSeen}
use Rattle.reg_shape.specs.Internal.Grafts.{IsShape}
use Rattle.reg_shape.specs.PathLookup.{key_offset_at}
use Rattle.reg_shape.proofs.Frame.KeyFrame.{Keeps}
use Rattle.reg_shape.proofs.Frame.WrittenFrame.{same-held}
use Rattle.reg_shape.proofs.Walking.WalkRefinement.{IsLooked}
use Rattle.reg_shape.proofs.Wholeness.ShapeRecords.{at-most-one}
use Rattle.reg_values.proofs.ValueData.DataPieces.{piece-made}
use Rattle.reg_index.specs.Subkeys.{taken}
use Rattle.reg_tree.specs.Internal.KeyBuilding.{HasNoClass, IsClassCell, PutsClass, flags_with, noted_marks}
use Rattle.reg_tree.specs.Internal.KeyNodeChanges.{Notes}
use Rattle.reg_tree.proofs.Invariant.CellReadings.{is_some_of, key-exists, key-moved}
use Rattle.reg_tree.proofs.Invariant.KeyOfShape as keyed
use Rattle.reg_tree.proofs.Invariant.OwnCells.{own-parts, key-here}
use Rattle.reg_tree.proofs.Invariant.UntouchedCells.{not-there, written-allocated}
use Rattle.reg_tree.proofs.BuildKey.KeyMarks.{form-kept}
use Rattle.reg_tree.proofs.BuildKey.KeyRewritten.{rewritten, sees-rewritten, fits-rewritten, owned-rewritten, shared-rewritten}

-- the cells of a class
abbrev pub class_found : Option ℕ → List Found
class_found None = []
class_found (Some c) = record { kind = Class; offset = c } ∷ []

class-owned : (z : ℕ) (cell : Option ℕ) → owned z (class_found cell) ≡ times z (taken cell)
class-owned z None = refl
class-owned z (Some c) = refl

-- a class stands in its cell as it was written
abbrev Holds : Heap → Heap → Option ℕ → List ℕ → Type 0
Holds h k None class = Unit {0}
Holds h k (Some c) class = k c ≡ Some (class ++ drop (length class) (held h c))

class-reads : (h k : Heap) (cell : Option ℕ) (class : List ℕ) → IsClassCell h cell class → Holds h k cell class →
    pieces_at (if_any Class (length class) (unwrap_or cell NONE)) k ≡ Some (class, class_found cell)
class-reads h k None class c p = subst (λ class. pieces_at (if_any Class (length class) NONE) k ≡ Some (class, [])) (sym c) refl
class-reads h k (Some c) class is p =
    by (length class) refl (class ++ drop (length class) (held h c)) p (take-append_seam class (drop (length class) (held h c)))
    (let l = length-append class (drop (length class) (held h c)) in omega (arith, l))
  where
    by : (size : ℕ) → size ≡ length class → (content : List ℕ) → k c ≡ Some content → take (length class) content ≡ class → length class ≤ length content →
        pieces_at (if_any Class size c) k ≡ Some (class, record { kind = Class; offset = c } ∷ [])
    by zero e content here t long = absurd (let some = is.0 in omega (arith, e, some))
    by (suc n) e content here t long =
        piece-made k (named Class (suc n) c) [] content [] [] here (omega (arith, e, long)) refl
        ∙ ap (λ xs. Some (xs, record { kind = Class; offset = c } ∷ [])) (append-nil (take (suc n) content) ∙ (ap (λ n. take n content) e ∙ t))

-- a cell that no class took is as it was
pub class-calm : (h k : Heap) (cell : Option ℕ) (class : List ℕ) → PutsClass h k cell class → (z : ℕ) → times z (taken cell) ≡ 0 → k z ≡ h z
class-calm h k None class p z free = p z
class-calm h k (Some c) class p z free = p.1 z (not-there z c free)

class-allocated : (h k : Heap) (cell : Option ℕ) (class : List ℕ) → IsClassCell h cell class → PutsClass h k cell class → (z : ℕ) → allocated k z ≡ allocated h z
class-allocated h k None class c p z = ap (λ (o : Option (List ℕ)). cond (is_some o) 1 0) (p z)
class-allocated h k (Some c) class is p z = written-allocated h k c p.1 is.1.exists (ap is_some p.0) z

-- a key without a class has no cells for one
none-read : (h : Heap) (size offset : ℕ) (y : List ℕ × List Found) → size ≡ 0 → pieces_at (if_any Class size offset) h ≡ Some y → y.1 ≡ []
none-read h size offset y e r =
    ap (λ (y : List ℕ × List Found). y.1) (same_Some _ _ (sym r ∙ ap (λ size. pieces_at (if_any Class size offset) h) e))

module _ (h h1 h2 : Heap) (root : ℕ) (keys : Branch Node) (ring : List ℕ) (cell : Option ℕ) (left : List ℕ) (w : IsShape h root keys ring (taken cell ++ left)) (p : Path)
    (key : ℕ) (at : key_offset_at h root p ≡ Some key) (name class : List ℕ) (is : IsClassCell h cell class) (bare : HasNoClass h key name)
    (puts : PutsClass h h1 cell class) (marks : ℕ) (apart : bit_and marks 103 ≡ 0) (noted : Notes h1 h2 key (noted_marks marks cell (length class))) where
  abbrev pub was : Branch Node
  was = keyed.branch h root keys ring (taken cell ++ left) w p key at

  abbrev n : Node
  n = was.node

  abbrev seen : IsSeen h root was.offset n
  seen = keyed.seen h root keys ring (taken cell ++ left) w p key at

  abbrev l : IsLooked h was.offset n
  l = keyed.looked h root keys ring (taken cell ++ left) w p key at

  offset : was.offset ≡ key
  offset = keyed.offset h root keys ring (taken cell ++ left) w p key at

  notes : Notes h1 h2 was.offset (noted_marks marks cell (length class))
  notes = subst (λ o. Notes h1 h2 o (noted_marks marks cell (length class))) (sym offset) noted

  -- all that a cell is, at most once
  pub room : (z : ℕ) → total_of (owns z) was + (times z ring + (times z (taken cell) + times z left)) ≤ allocated h z
  room z =
      let r = keyed.branch_once h root keys ring (taken cell ++ left) w p key at z in
      let t = times-append z (taken cell) left in
      omega (arith, r, t)

  key-before : key_at h was.offset ≡ Some n.key
  key-before = subst (λ o. key_at h o ≡ Some n.key) (sym offset) (keyed.key_is h root keys ring (taken cell ++ left) w p key at)

  unclassed : n.key.fields.class_length ≡ 0
  unclassed = (bare n.key (keyed.key_is h root keys ring (taken cell ++ left) w p key at)).1

  no-cells : l.class_cells ≡ []
  no-cells = none-read h n.key.fields.class_length n.key.fields.class (n.class, l.class_cells) unclassed l.class_is

  parts : (z : ℕ) → owned z (cells_of n) ≡ is_own z (record { kind = Key; offset = was.offset }) + (owned z l.value_cells + owned z (index_cells n.index))
  parts z =
      let a = ap (λ (found : List Found). owned z (found ++ index_cells n.index)) l.cells ∙ own-parts z was.offset n.key l.class_cells l.value_cells n.index in
      let b = ap (λ (found : List Found). owned z found) no-cells in
      omega (arith, a, b)

  -- ---- which cells stay

  -- a cell that is no class's and not the key node's
  pub calm : (z : ℕ) → times z (taken cell) ≡ 0 → z ≢ was.offset → h2 z ≡ h z
  calm z free other = notes.others z other ∙ class-calm h h1 cell class puts z free

  -- a cell of others
  pub calm-others : (z : ℕ) → times z (taken cell) ≡ 0 → owned z (cells_of n) ≡ 0 → h2 z ≡ h z
  calm-others z free none = calm z free (λ e. (let q = parts z in let one = key-here z was.offset e in absurd (omega (arith, q, one, none))))

  pub values-calm : Keeps h h2 l.value_cells
  values-calm z some =
      let r = room z in let q = parts z in let o = at-most-one h z in
      calm z (omega (arith, r, q, o, some)) (λ e. (let one = key-here z was.offset e in absurd (omega (arith, one, r, q, o, some))))

  pub index-calm : Keeps h h2 (index_cells n.index)
  index-calm z some =
      let r = room z in let q = parts z in let o = at-most-one h z in
      calm z (omega (arith, r, q, o, some)) (λ e. (let one = key-here z was.offset e in absurd (omega (arith, one, r, q, o, some))))

  -- the key node's cell is no class's
  offset-free : times was.offset (taken cell) ≡ 0
  offset-free =
      let z = was.offset in let r = room z in let q = parts z in let o = at-most-one h z in let one = key-here z z refl in
      omega (arith, r, q, o, one)

  offset-then : h1 was.offset ≡ h was.offset
  offset-then = class-calm h h1 cell class puts was.offset offset-free

  -- ---- the key

  key-then : key_at h1 was.offset ≡ Some n.key
  key-then = key-moved h h1 was.offset offset-then ∙ key-before

  pub key-now : key_at h2 was.offset ≡ Some (noted_marks marks cell (length class) n.key)
  key-now = notes.reads n.key key-then

  pub plain-now : IsPlainKey (held h2 was.offset)
  plain-now = notes.plain (subst IsPlainKey (sym (same-held h h1 was.offset offset-then)) seen.written.plain)

  holds-now : (o : Option ℕ) → times was.offset (taken o) ≡ 0 → PutsClass h h1 o class → Holds h h2 o class
  holds-now None free q = tt
  holds-now (Some c) free q = notes.others c (λ e. not-there was.offset c free (sym e)) ∙ q.0

  pub class-now : pieces_at (if_any Class (length class) (unwrap_or cell NONE)) h2 ≡ Some (class, class_found cell)
  class-now = class-reads h h2 cell class is (holds-now cell offset-free puts)

  abbrev flags : ℕ
  flags = flags_with marks n.key.fields.flags

  abbrev its_class : ℕ
  its_class = unwrap_or cell NONE

  pub flags-same : bit_and flags 103 ≡ bit_and n.key.fields.flags 103
  flags-same = form-kept marks n.key.fields.flags apart

  pub class-none : length class ≡ 0 → its_class ≡ NONE
  class-none = by cell is
    where
      by : (o : Option ℕ) → IsClassCell h o class → length class ≡ 0 → unwrap_or o NONE ≡ NONE
      by None c e = refl
      by (Some o) c e = absurd (let some = c.0 in omega (arith, some, e))

  -- the key as it is then
  abbrev pub after : Node
  after = rewritten h h2 root was.offset n seen l flags n.key.fields.time its_class (length class) n.key.fields.largest_subkey_class key-now plain-now class
      (class_found cell) class-now values-calm index-calm flags-same class-none

  pub sees-after : IsSeen h2 root was.offset after
  sees-after = sees-rewritten h h2 root was.offset n seen l flags n.key.fields.time its_class (length class) n.key.fields.largest_subkey_class key-now plain-now class
      (class_found cell) class-now values-calm index-calm flags-same class-none

  pub fits-after : (below : List (ℕ × Node)) → Fits was.offset n below → Fits was.offset after below
  fits-after = fits-rewritten h h2 root was.offset n seen l flags n.key.fields.time its_class (length class) n.key.fields.largest_subkey_class key-now plain-now class
      (class_found cell) class-now values-calm index-calm flags-same class-none (omega arith)

  pub owned-after : (z : ℕ) → owned z (cells_of after) ≡ owned z (cells_of n) + times z (taken cell)
  owned-after z =
      let a = owned-rewritten h h2 root was.offset n seen l flags n.key.fields.time its_class (length class) n.key.fields.largest_subkey_class key-now plain-now class
      (class_found cell) class-now values-calm index-calm flags-same class-none z in
      let b = ap (λ (found : List Found). owned z found) no-cells in
      let c = class-owned z cell in
      omega (arith, a, b, c)

  pub shared-after : (z : ℕ) → shared z (cells_of after) ≡ shared z (cells_of n)
  shared-after = shared-rewritten h h2 root was.offset n seen l flags n.key.fields.time its_class (length class) n.key.fields.largest_subkey_class key-now plain-now class
      (class_found cell) class-now values-calm index-calm flags-same class-none

  -- as many cells are allocated as were
  pub allocated-after : (z : ℕ) → allocated h2 z ≡ allocated h z
  allocated-after z =
      written-allocated h1 h2 was.offset notes.others (key-exists h1 was.offset (is_some_of _ _ key-then)) (key-exists h2 was.offset (is_some_of _ _ key-now)) z
      ∙ class-allocated h h1 cell class is puts z
