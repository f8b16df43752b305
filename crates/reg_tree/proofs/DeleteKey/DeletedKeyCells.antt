-- A key's own cells, given up: its values, its class and its key node.
use Rattle.std.proofs.Common.{◌≡◌, ℕ, ◌+◌, Some, IsSome, List, [], ◌∷◌, refl, sym, ap, ◌∙◌, subst, arith}
use Rattle.std.proofs.lemmas.Option.{same_Some}
use Rattle.reg_heap.specs.Paths.{Member}
use Rattle.reg_heap.specs.Heaps.{Heap, CellFrame, GivesUp}
use Rattle.reg_heap.specs.Kinds.{Found, times, is_own, owned}
use Rattle.reg_heap.specs.Kinds.Kind.{Class, Security}
use Rattle.reg_records.specs.declared.nk.KeyFields.{KeyFields}
use Rattle.reg_records.specs.KeyNodes.{KeyRecord, key_at}
use Rattle.reg_records.specs.BigData.{if_any}
use Rattle.reg_shape.specs.Nodes.{Node, members_at, met_of, look}
use Rattle.reg_shape.proofs.Wholeness.ShapeCounts.{tally-append}
use Rattle.reg_shape.proofs.Walking.InnerReadings.{class-inner}
use Rattle.reg_shape.proofs.Frame.ReadingFrame.{pieces-local}
use Rattle.reg_shape.proofs.Lookup.LookupOfShape.{key-looked}
use Rattle.reg_shape.proofs.Walking.WalkRefinement.{IsLooked, look-open}
use Rattle.reg_values.specs.ValueLists.{AreValues}
use Rattle.reg_values.specs.Internal.ValueListParts.{Owns, GivesUpRead}
use Rattle.reg_values.proofs.ValueFreeing.FrameChains.{times-same, one-there, frame-then, frame-with, agree-apart}
use Rattle.reg_values.proofs.ValueFreeing.FreedRuns.{gone-more}
use Rattle.reg_tree.specs.Internal.KeyNodeChanges.{HasList}
use Rattle.reg_tree.specs.Internal.KeyDeletion.{IsSole, class_at}
use Rattle.reg_tree.proofs.Invariant.CellReadings.{is_some_of}

pub own-met : (z offset : ℕ) (key : KeyRecord) (class values : List Found) → owned z (met_of offset key class values) ≡ times z (offset ∷ []) + (owned z class + owned z values)
own-met z offset key class values = let a = tally-append (is_own z) class (record { kind = Security; offset = key.fields.security } ∷ values) in omega (arith, a)

module _ (h : Heap) (key : ℕ) (s : IsSole h key) where
  abbrev node : Node
  node = s.node

  l : IsLooked h key node
  l = look-open h key node s.reads

  key_is : key_at h key ≡ Some node.key
  key_is = key-looked h key node s.reads

  pub sole-there : IsSome (key_at h key)
  sole-there = is_some_of _ _ key_is

  abbrev class_cells : List Found
  class_cells = l.class_cells

  abbrev value_cells : List Found
  value_cells = l.value_cells

  parts : (z : ℕ) → owned z node.cells ≡ times z (key ∷ []) + (owned z class_cells + owned z value_cells)
  parts z = ap (owned z) l.cells ∙ own-met z key node.key class_cells value_cells

  module _ (count list : ℕ) (has : HasList h key count list) where
    abbrev same : (count ≡ node.key.fields.values) × (list ≡ node.key.fields.values_list)
    same = has node.key key_is

    reads : members_at count list h ≡ Some (node.values, value_cells)
    reads = ap (λ n. members_at n list h) same.0 ∙ (ap (λ o. members_at node.key.fields.values o h) same.1 ∙ l.values_are)

    listed : AreValues h node.key.fields.values node.key.fields.values_list
    listed = record {
      members = node.values;
      met = value_cells;
      reads = l.values_are;
      once = λ z. (let o = s.once z in let p = parts z in omega (arith, o, p));
      written = s.values;
    }

    pub sole-values : AreValues h count list
    sole-values = subst (λ n. AreValues h n list) (sym same.0) (subst (λ o. AreValues h node.key.fields.values o) (sym same.1) listed)

    module _ (h1 : Heap) (cleared : (members : List Member) → (met : List Found) → members_at count list h ≡ Some (members, met) → CellFrame h h1 (λ z. owned z met) (λ z. 0))
        (fields : KeyFields) (are : (r : KeyRecord) → key_at h key ≡ Some r → fields ≡ r.fields) where
      values-gone : CellFrame h h1 (λ z. owned z value_cells) (λ z. 0)
      values-gone = cleared node.values value_cells reads

      abbrev size : ℕ
      size = node.key.fields.class_length

      class-reads : class_at node.key.fields h1 ≡ Some (node.class, class_cells)
      class-reads =
          pieces-local (if_any Class size node.key.fields.class) h h1 (node.class, class_cells) l.class_is
          (agree-apart h h1 _ _ values-gone class_cells (class-inner h size node.key.fields.class (node.class, class_cells) l.class_is)
          (λ z. let o = s.once z in let p = parts z in omega (arith, o, p)))

      pub sole-class : Owns (class_at fields) h1
      sole-class = subst (λ f. Owns (class_at f) h1) (sym (are node.key key_is)) (record {
        result = node.class;
        met = class_cells;
        reads = class-reads;
        once = λ z. (let o = s.once z in let p = parts z in let c = values-gone.count z in omega (arith, o, p, c));
      })

      module _ (h2 : Heap) (freed : GivesUpRead (class_at fields) h1 h2) where
        class-gone : CellFrame h1 h2 (λ z. owned z class_cells) (λ z. 0)
        class-gone = subst (λ f. GivesUpRead (class_at f) h1 h2) (are node.key key_is) freed node.class class_cells class-reads

        both-gone : CellFrame h h2 (λ z. owned z value_cells + owned z class_cells) (λ z. 0)
        both-gone =
            frame-then h h1 h2 (λ z. owned z value_cells + owned z class_cells) (λ z. owned z class_cells) (λ z. 0)
            (frame-with h h1 (λ z. owned z value_cells) (λ z. 0) (λ z. owned z class_cells) (λ z. owned z value_cells + owned z class_cells)
            (λ z. owned z class_cells) values-gone (λ z. refl) (λ z. omega arith))
            class-gone

        pub sole-left : IsSome (h2 key)
        sole-left =
            let o = s.once key in
            let p = parts key in
            let c = both-gone.count key in
            let t = times-same key in
            one-there (h2 key) (omega (arith, o, p, c, t))

        pub sole-gone : (h3 : Heap) → GivesUp h2 h3 (key ∷ []) → (n : Node) → look h key ≡ Some n → CellFrame h h3 (λ z. owned z n.cells) (λ z. 0)
        sole-gone h3 g n e =
            subst (λ (n : Node). CellFrame h h3 (λ z. owned z n.cells) (λ z. 0)) (same_Some _ _ (sym s.reads ∙ e))
            (gone-more h h2 h3 key (λ z. owned z value_cells + owned z class_cells) (λ z. owned z node.cells) both-gone g (λ z. let p = parts z in omega (arith, p)))
