-- The keys among what a walk named, in their order.
use Rattle.std.proofs.Common.{◌≡◌, ℕ, zero, suc, ◌==◌, Bool, true, false, cond, Result, Ok, List, [], ◌∷◌, ◌++◌, refl, sym, ap, ◌∙◌}
use Rattle.std.specs.List.{AllByRecursion}
use Rattle.std.proofs.lemmas.Bool.{false≢true}
use Rattle.std.proofs.lemmas.List.{append-nil}
use Rattle.reg_heap.specs.Heaps.{Heap}
use Rattle.reg_heap.specs.Kinds.{Kind, Found}
use Rattle.reg_heap.specs.Kinds.Kind.{Key, Class, SubList, Leaf, ValueList, Value, Data, BigHead, BigList, Segment, Security}
use Rattle.reg_heap.specs.Paths.{Path}
use Rattle.reg_records.specs.KeyNodes.{KeyRecord}
use Rattle.reg_records.specs.SubkeyLists.{Entry, SubkeysList, list_of}
use Rattle.reg_records.specs.BigData.{Named, plainly, if_any}
use Rattle.reg_shape.specs.Walk.{kind_met}
use Rattle.reg_tree_image.specs.declared.LoadFault.TheVariants.{Record}
use Rattle.reg_tree_image.specs.declared.LoadFault.{LoadFault}
use Rattle.reg_tree_image.specs.declared.subkeys.SubkeyParts.{SubkeyParts}
use Rattle.reg_tree_image.specs.declared.table.CellState.{CellState}
use Rattle.reg_tree_image.specs.Internal.BegunKeys.{IsListed, parts_left}
use Rattle.reg_tree_image.specs.Internal.KeysNamed.{is_key, key_offsets}
use Rattle.reg_tree_image.specs.Internal.ListParts.{entries_in}
use Rattle.reg_tree_image.specs.WalkSteps.{Seen, Step, ◌>>=◌, ◌>>◌, give, given, cell}
use Rattle.reg_tree_image.specs.LoadingWalk.{leaf_as, head_from, leaf_from, list_from, rest_from}
use Rattle.reg_tree_image.proofs.WalkedBack.BackSteps.{Went, ok_is, bind-back, given-back, give-back, last-back, cell-back}
use Rattle.reg_tree_image.proofs.WalkedBack.BackKeys.{form-back, head-back, rest-back, part_names}
use Rattle.reg_tree_image.proofs.WalkedBack.WalkCounts.{is_low, AreLow, AreOf, if-any-of, low-gather, low-walk, met-else}

offsets-append : (xs ys : List Found) → key_offsets (xs ++ ys) ≡ key_offsets xs ++ key_offsets ys
offsets-append [] ys = refl
offsets-append (f ∷ xs) ys = by (is_key f.kind) (offsets-append xs ys)
  where
    by : (b : Bool) → key_offsets (xs ++ ys) ≡ key_offsets xs ++ key_offsets ys →
        cond b (f.offset ∷ key_offsets (xs ++ ys)) (key_offsets (xs ++ ys)) ≡ cond b (f.offset ∷ key_offsets xs) (key_offsets xs) ++ key_offsets ys
    by true e = ap (λ (l : List ℕ). f.offset ∷ l) e
    by false e = e

no-key : (kind : Kind) → is_low kind ≡ true → is_key kind ≡ false
no-key Key e = absurd (cc)
no-key SubList e = refl
no-key Leaf e = refl
no-key Class e = refl
no-key ValueList e = refl
no-key Value e = refl
no-key Data e = refl
no-key BigHead e = refl
no-key BigList e = refl
no-key Segment e = refl
no-key Security e = refl

low-none : (found : List Found) → AreLow found → key_offsets found ≡ []
low-none [] a = refl
low-none (f ∷ found) a = ap (λ (b : Bool). cond b (f.offset ∷ key_offsets found) (key_offsets found)) (no-key f.kind a.0) ∙ low-none found a.1

-- one that isn't a key
one-else : (before after : List Found) (f : Found) → after ≡ before ++ f ∷ [] → is_key f.kind ≡ false → key_offsets after ≡ key_offsets before
one-else before after f is other =
    ap key_offsets is ∙ (offsets-append before (f ∷ []) ∙ (ap (λ (b : Bool). key_offsets before ++ cond b (f.offset ∷ []) []) other ∙ append-nil (key_offsets before)))

both-of : (test : Kind → Bool) (xs ys : List Named) → AreOf test xs → AreOf test ys → AreOf test (xs ++ ys)
both-of test [] ys a b = b
both-of test (x ∷ xs) ys a b = (a.0, both-of test xs ys a.1 b)

module _ (heap : Heap) where
  went-low : (names : List Named) (a b : Seen) → AreOf is_low names → Went heap names a b → key_offsets b.found ≡ key_offsets a.found
  went-low names a b low w =
      let none = low-none w.met (low-gather w.walks.fuel heap (low-walk w.walks.fuel heap) names w.met low w.walks.walked) in
      ap key_offsets w.found ∙ (offsets-append a.found w.met ∙ (ap (λ (l : List ℕ). key_offsets a.found ++ l) none ∙ append-nil (key_offsets a.found)))

  pub list-keys : (path : List ℕ) (offset : ℕ) (seen : Seen) (list : SubkeysList) (after : Seen) → list_from heap path offset seen ≡ Ok (list, after) →
      key_offsets after.found ≡ key_offsets seen.found
  list-keys path offset seen list after e =
      let l = bind-back (cell heap path (kind_met SubList) offset) (λ content. given Record (list_of content)) seen list after e in
      let c = cell-back heap path (kind_met SubList) offset seen l.first l.mid l.first_is in
      let g = last-back Record (list_of l.first) l.mid list after l.then_is in
      ap (λ (s : Seen). key_offsets s.found) (sym g.1)
      ∙ one-else seen.found l.mid.found (record { kind = kind_met SubList l.first; offset = offset }) c.found (met-else SubList l.first refl)

  pub leaf-keys : (path : List ℕ) (offset : ℕ) (seen : Seen) (list : SubkeysList) (after : Seen) → leaf_from heap path offset seen ≡ Ok (list, after) →
      key_offsets after.found ≡ key_offsets seen.found
  leaf-keys path offset seen list after e =
      let whole = λ (list : SubkeysList). leaf_as list.form >> give list in
      let l = bind-back (cell heap path (λ _. Leaf) offset) (λ content. given Record (list_of content) >>= whole) seen list after e in
      let c = cell-back heap path (λ _. Leaf) offset seen l.first l.mid l.first_is in
      let r = given-back Record (list_of l.first) whole l.mid list after l.then_is in
      let f = form-back r.0.form (give r.0) l.mid list after r.2 in
      let g = give-back r.0 l.mid list after f.1 in
      ap (λ (s : Seen). key_offsets s.found) (sym g.1) ∙ one-else seen.found l.mid.found (record { kind = Leaf; offset = offset }) c.found refl

  -- the list of a key's subkeys names none, if there is one
  pub listed-keys : (path : List ℕ) (go : ℕ → Step (Unit {0})) (count offset : ℕ) (seen : Seen) (states : List CellState) (parts : SubkeyParts)
      (l : IsListed heap path go count offset seen states parts) → key_offsets l.after.found ≡ key_offsets seen.found
  listed-keys path go zero offset seen states parts l =
      let none : ◌≡◌ {A = Result (Unit {0} × Seen) LoadFault} (Ok (tt, seen)) (Ok (tt, l.after)) =
      l.rest ∙ (ap (λ (es : List Entry). parts_left heap path go es (entries_in parts.lists) l.after) l.source.0 ∙ ap (λ (es : List Entry). parts_left heap path go [] es l.after) l.source.1) in
      ap (λ (s : Seen). key_offsets s.found) (sym (ap (λ (q : Unit {0} × Seen). q.1) (ok_is (tt, seen) (tt, l.after) none)))
  listed-keys path go (suc n) offset seen states parts l = list-keys path offset seen l.source.0 l.after l.source.1

module _ (heap : Heap) (minor : ℕ) (new : (minor == 3) ≡ false) where
  pub head-keys : (path : List ℕ) (here : List ℕ → Path) (offset : ℕ) (seen : Seen) (head : KeyRecord × List ℕ) (after : Seen) →
      head_from heap path here offset seen ≡ Ok (head, after) → key_offsets after.found ≡ key_offsets seen.found ++ offset ∷ []
  head-keys path here offset seen head after e =
      let h = head-back heap minor new path here offset seen head after e in
      ap key_offsets h.named_so.found ∙ offsets-append seen.found (record { kind = Key; offset = offset } ∷ [])

  pub rest-keys : (path : List ℕ) (at : Path) (key : KeyRecord) (name : List ℕ) (seen : Seen) (u : Unit {0}) (after : Seen) →
      rest_from heap minor path at key name seen ≡ Ok (u, after) → key_offsets after.found ≡ key_offsets seen.found
  rest-keys path at key name seen u after e =
      went-low heap (part_names heap minor new key) seen after
      (both-of is_low (if_any Class key.fields.class_length key.fields.class) (plainly Security key.fields.security ∷ if_any ValueList key.fields.values key.fields.values_list)
      (if-any-of is_low Class refl key.fields.class_length key.fields.class) (refl, if-any-of is_low ValueList refl key.fields.values key.fields.values_list))
      (rest-back heap minor new path at key name seen u after e)

-- what holds of each key's offset holds of each key that was named
pub of-keys : (P : ℕ → Type 0) (found : List Found) → AllByRecursion P (key_offsets found) → AllByRecursion (λ (f : Found). f.kind ≡ Key → P f.offset) found
of-keys P [] a = tt
of-keys P (f ∷ found) a = by (λ (rest : AllByRecursion P (key_offsets found)). of-keys P found rest) (is_key f.kind) refl a
  where
    by : (AllByRecursion P (key_offsets found) → AllByRecursion (λ (g : Found). g.kind ≡ Key → P g.offset) found) → (b : Bool) → is_key f.kind ≡ b →
        AllByRecursion P (cond b (f.offset ∷ key_offsets found) (key_offsets found)) → AllByRecursion (λ (g : Found). g.kind ≡ Key → P g.offset) (f ∷ found)
    by later true k a = ((λ e. a.0), later a.1)
    by later false k a = ((λ e. absurd (false≢true (sym k ∙ ap is_key e))), later a)
