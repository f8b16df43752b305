-- The subkey of a name, where a list in the order of names says where it stands.
use Rattle.std.proofs.Common.{◌≡◌, ℕ, zero, suc, ◌≤◌, ◌<◌, Bool, true, false, cond, ltb, ◌⊎◌, inl, inr, Option, Some, None, List, [], ◌∷◌, map, length, get_or, drop, refl, sym, ap, ◌∙◌, subst, arith}
use Rattle.std.specs.Prelude.{Ok, Err}
use Rattle.std.specs.List.{AllByRecursion}
use Rattle.std.specs.Option.{option_and_then}
use Rattle.std.specs.Ordering.{nat_cmp}
use Rattle.std.specs.declared.cmp.Ordering.TheVariants.{Less}
use Rattle.std.specs.Cmp.Lexicographic.{slice_cmp, nat_list_cmp_total}
use Rattle.std.proofs.lemmas.Cmp.{tied_itself}
use Rattle.std.proofs.lemmas.Bool.{ltb-true, ltb-false}
use Rattle.reg_names.specs.Names.{folded}
use Rattle.reg_heap.specs.Heaps.{Heap}
use Rattle.reg_shape.specs.Internal.Forests.{Forest, Branch, heads, Stand}
use Rattle.reg_shape.specs.Internal.Forests.Forest.{End, Rooted as Hangs}
use Rattle.reg_records.specs.KeyNodes.{KeyRecord}
use Rattle.reg_records.specs.SubkeyLists.{Entry, offsets_in}
use Rattle.reg_shape.specs.Nodes.{Node, entries_of}
use Rattle.reg_shape.specs.Written.{Fits}
use Rattle.reg_shape.specs.Internal.Shapes.{StandsIn, IsSeen}
use Rattle.reg_shape.specs.PathLookup.{calls, is_called, key_named, subkey_named}
use Rattle.reg_shape.proofs.Refinement.RefinementAfterEdit.{same_name, name-is, name-self}
use Rattle.reg_shape.proofs.Refinement.RefinementAtPath.{name-written}
use Rattle.reg_shape.proofs.Lookup.LookupOfShape.{key-looked}
use Rattle.reg_index.specs.Subkeys.{name_at, name_or_none, names_in, IsIndexFor, Rises}
use Rattle.reg_index.proofs.NameSearch.{length-names}

abbrev pub no_entry : Entry
no_entry = record { offset = 0; hint = 0 }

-- ---- names in order

-- a name before another is another
before-other : (x y : List ℕ) → slice_cmp nat_cmp y x ≡ Less → same_name x y ≡ false
before-other x y e = by (same_name x y) refl
  where
    by : (t : Bool) → same_name x y ≡ t → t ≡ false
    by false f = refl
    by true f =
        let same = name-is x y f in
        let equal = tied_itself nat_list_cmp_total x in
        let less : slice_cmp nat_cmp x x ≡ Less = ap (λ z. slice_cmp nat_cmp z x) same ∙ e in
        absurd (cc)

behind-other : (x y : List ℕ) → slice_cmp nat_cmp x y ≡ Less → same_name x y ≡ false
behind-other x y e = by (same_name x y) refl
  where
    by : (t : Bool) → same_name x y ≡ t → t ≡ false
    by false f = refl
    by true f =
        let same = name-is x y f in
        let equal = tied_itself nat_list_cmp_total x in
        let less : slice_cmp nat_cmp x x ≡ Less = ap (slice_cmp nat_cmp x) same ∙ e in
        absurd (cc)

-- ---- the first entry that is called so

-- each entry is called by the name that its key node has
abbrev AreCalled : Heap → List Entry → Type 0
AreCalled h entries = AllByRecursion (λ (e : Entry). (x : List ℕ) → is_called h x e.offset ≡ same_name x (folded (name_at h e.offset))) entries

module _ (h : Heap) (x : List ℕ) where
  abbrev names : List Entry → List (List ℕ)
  names entries = names_in h entries

  named-first : (entries : List Entry) (i : ℕ) → AreCalled h entries → i < length entries → get_or (names entries) i [] ≡ x →
      ((j : ℕ) → j < i → slice_cmp nat_cmp (get_or (names entries) j []) x ≡ Less)
      → key_named h x (offsets_in entries) ≡ Some (get_or entries i no_entry).offset
  named-first [] i a l e b = absurd (omega (arith, l))
  named-first (entry ∷ entries) zero a l e b =
      ap (λ t. cond t (Some entry.offset) (key_named h x (offsets_in entries))) (a.0 x ∙ (ap (same_name x) e ∙ name-self x))
  named-first (entry ∷ entries) (suc i) a l e b =
      ap (λ t. cond t (Some entry.offset) (key_named h x (offsets_in entries))) (a.0 x ∙ before-other x (folded (name_at h entry.offset)) (b 0 (omega arith)))
      ∙ named-first entries i a.1 (omega (arith, l)) e (λ j m. b (suc j) (omega (arith, m)))

  named-none : (entries : List Entry) → AreCalled h entries → ((j : ℕ) → j < length entries → same_name x (get_or (names entries) j []) ≡ false) → key_named h x (offsets_in entries) ≡ None
  named-none [] a n = refl
  named-none (entry ∷ entries) a n =
      ap (λ t. cond t (Some entry.offset) (key_named h x (offsets_in entries))) (a.0 x ∙ n 0 (omega arith)) ∙ named-none entries a.1 (λ j m. n (suc j) (omega (arith, m)))

-- ---- the keys below a key are called by their names

called-one : (h : Heap) (root offset : ℕ) (node : Node) → IsSeen h root offset node → (x : List ℕ) → is_called h x offset ≡ same_name x (folded (name_at h offset))
called-one h root offset node s x =
    let e = key-looked h offset node s.reads in
    ap (calls x) e
    ∙ (ap (λ name. same_name x (folded name)) (name-written h root offset node s.written)
    ∙ ap (λ (o : Option KeyRecord). same_name x (folded (name_or_none o))) (sym e))

called-heads : (h : Heap) (root : ℕ) (F : Forest Node) (entries : List Entry) → Stand (IsSeen h root) Fits F → map (λ (e : ℕ × Node). e.0) (heads F) ≡ offsets_in entries → AreCalled h entries
called-heads h root End [] a p = tt
called-heads h root End (e ∷ entries) a p = absurd (let n = ap length p in omega (arith, n))
called-heads h root (Hangs o n b s) [] a p = absurd (let n = ap length p in omega (arith, n))
called-heads h root (Hangs o n b s) (e ∷ entries) a p =
    let first : o ≡ e.offset = ap (λ (ps : List ℕ). get_or ps 0 0) p in
    let rest : map (λ (e : ℕ × Node). e.0) (heads s) ≡ offsets_in entries = ap (λ (ps : List ℕ). drop 1 ps) p in (
      (λ x. subst (λ z. is_called h x z ≡ same_name x (folded (name_at h z))) first (called-one h root o n a.0.0 x)),
      called-heads h root s entries a.1 rest,
    )

module _ (h : Heap) (root : ℕ) (b : Branch Node) (stands : StandsIn h root b) (x : List ℕ) where
  abbrev entries : List Entry
  entries = entries_of b.node.index

  called : AreCalled h entries
  called = called-heads h root b.below entries stands.2 stands.1.offsets

  by-list : subkey_named h x b.offset ≡ key_named h x (offsets_in entries)
  by-list = ap (option_and_then (λ (node : Node). key_named h x (offsets_in (entries_of node.index)))) stands.0.reads

  -- the subkey at the index of its name
  pub named-ok : (index : ℕ) → Rises (names_in h entries) → IsIndexFor (names_in h entries) x (Ok index) → subkey_named h x b.offset ≡ Some (get_or entries index no_entry).offset
  named-ok index rises p =
      let n = length-names h entries in
      by-list ∙ named-first h x entries index called (let l = p.0 in
      omega (arith, l, n)) p.1 (λ j m. subst (λ y. slice_cmp nat_cmp (get_or (names_in h entries) j []) y ≡ Less) p.1 (rises j index m p.0))

  -- none where the name is missing
  pub named-err : (index : ℕ) → IsIndexFor (names_in h entries) x (Err index) → subkey_named h x b.offset ≡ None
  named-err index p = by-list ∙ named-none h x entries called (λ j l. by j (let n = length-names h entries in omega (arith, l, n)) (leb-or j index))
    where
      leb-or : (j i : ℕ) → (j < i) ⊎ (i ≤ j)
      leb-or j i = cases (ltb j i) refl
        where
          cases : (t : Bool) → ltb j i ≡ t → (j < i) ⊎ (i ≤ j)
          cases true e = inl (ltb-true j i e)
          cases false e = inr (ltb-false j i e)

      by : (j : ℕ) → j < length (names_in h entries) → (j < index) ⊎ (index ≤ j) → same_name x (get_or (names_in h entries) j []) ≡ false
      by j l (inl b) = before-other x (get_or (names_in h entries) j []) (p.1 j b)
      by j l (inr b) = behind-other x (get_or (names_in h entries) j []) (p.2 j b l)
