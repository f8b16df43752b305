-- A key's class: where it is read, and what is told of it.
use Rattle.std.proofs.Common.{◌≡◌, ◌≢◌, ℕ, zero, suc, ◌≤◌, Some, IsSome, List, [], ◌++◌, length, take, arith, refl, sym, ap, ◌∙◌, subst, append-nil}
use Rattle.std.specs.FinMap.{get}
use Rattle.std.proofs.lemmas.Option.{same_Some}
use Rattle.std.proofs.lemmas.List.{length-take-le}
use Rattle.reg_heap.specs.Heaps.{Heap}
use Rattle.reg_heap.specs.Kinds.{Found}
use Rattle.reg_heap.specs.Kinds.Kind.{Class}
use Rattle.reg_heap.specs.Paths.{Rec}
use Rattle.reg_arena.specs.Cells.{cell_at}
use Rattle.reg_records.specs.declared.nk.KeyFields.{KeyFields}
use Rattle.reg_records.specs.KeyNodes.{KeyRecord, key_at}
use Rattle.reg_records.specs.BigData.{if_any}
use Rattle.reg_shape.specs.Nodes.{Node, pieces_at}
use Rattle.reg_values.proofs.ValueData.DataPieces.{piece-open, pieces-none}
use Rattle.reg_tree.specs.TreeKeys.{tree_in}
use Rattle.reg_tree.specs.Internal.TreeInvariant.{IsHere}
use Rattle.reg_tree.proofs.Invariant.CellReadings.{is_some_of}
use Rattle.reg_tree.proofs.Invariant.KeyOfTree.{branch, looked, key_is}
use Rattle.reg_tree.proofs.KeyAnswers.RefinementOfKey.{is-rec}

-- bytes that stand in a cell, if there are any
none-told : (h : Heap) (size offset : ℕ) (bytes : List ℕ) (met : List Found) → pieces_at (if_any Class size offset) h ≡ Some (bytes, met) → size ≡ 0 → [] ≡ bytes
none-told h zero offset bytes met e z = sym (pieces-none h bytes met e).0
none-told h (suc n) offset bytes met e z = absurd (cc)

some-there : (h : Heap) (size offset : ℕ) (bytes : List ℕ) (met : List Found) → pieces_at (if_any Class size offset) h ≡ Some (bytes, met) → size ≢ 0 →
    (content : List ℕ) × (h offset ≡ Some content) × (size ≤ length content) × (take size content ≡ bytes)
some-there h zero offset bytes met e z = absurd (z refl)
some-there h (suc n) offset bytes met e z =
    let p = piece-open h (record { kind = Class; size = suc n; offset = offset }) [] bytes met e in
    let none = pieces-none h p.rest p.cells p.rest_is in
    (p.content, p.here, p.long, sym (p.is ∙ (ap (λ (rest : List ℕ). take (suc n) p.content ++ rest) none.0 ∙ append-nil (take (suc n) p.content))))

module _ (bytes : List ℕ) (key : ℕ) (t : IsHere bytes key) (fields : KeyFields) (are : (k : KeyRecord) → key_at (cell_at bytes) key ≡ Some k → fields ≡ k.fields) where
  abbrev node : Node
  node = (branch bytes key t).node

  reads : pieces_at (if_any Class fields.class_length fields.class) (cell_at bytes) ≡ Some (node.class, (looked bytes key t).class_cells)
  reads =
      subst (λ (f : KeyFields). pieces_at (if_any Class f.class_length f.class) (cell_at bytes) ≡ Some (node.class, (looked bytes key t).class_cells))
      (sym (are node.key (key_is bytes key t))) (looked bytes key t).class_is

  pub no_class : fields.class_length ≡ 0 → (r : Rec) → get (tree_in bytes t.root) t.path ≡ Some r → [] ≡ r.class
  no_class z r e = none-told _ _ _ _ _ reads z ∙ ap (λ (r : Rec). r.class) (is-rec bytes key t r e)

  there : fields.class_length ≢ 0 → (content : List ℕ) × (cell_at bytes fields.class ≡ Some content) × (fields.class_length ≤ length content)
      × (take fields.class_length content ≡ node.class)
  there z = some-there _ _ _ _ _ reads z

  pub class_there : fields.class_length ≢ 0 → IsSome (cell_at bytes fields.class)
  class_there z = is_some_of _ _ (there z).1

  pub class_cut : fields.class_length ≢ 0 → (n : ℕ) → n ≡ fields.class_length → (content : List ℕ) → cell_at bytes fields.class ≡ Some content → n ≡ length (take n content)
  class_cut z n is content here =
      let c = there z in
      let l : fields.class_length ≤ length content = subst (λ (x : List ℕ). fields.class_length ≤ length x) (same_Some _ _ (sym c.1 ∙ here)) c.2 in
      sym (length-take-le n content (omega (arith, is, l)))

  pub class_told : fields.class_length ≢ 0 → (n : ℕ) → n ≡ fields.class_length → (content : List ℕ) → cell_at bytes fields.class ≡ Some content →
      (r : Rec) → get (tree_in bytes t.root) t.path ≡ Some r → take n content ≡ r.class
  class_told z n is content here r e =
      let c = there z in
      ap (λ (m : ℕ). take m content) is ∙ (ap (take fields.class_length) (same_Some _ _ (sym here ∙ c.1)) ∙ (c.3 ∙ ap (λ (r : Rec). r.class) (is-rec bytes key t r e)))
