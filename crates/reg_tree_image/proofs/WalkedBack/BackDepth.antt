-- How deep the keys are that a walk met: no deeper than it had levels.
use Rattle.std.proofs.Common.{◌≡◌, ℕ, zero, suc, ◌==◌, ◌≤◌, nat_lt, false, Some, Ok, List, [], ◌∷◌, ◌++◌, length, map, flat_map, sym, ap, ◌∙◌, subst, arith}
use Rattle.std.specs.List.{AllByRecursion}
use Rattle.std.specs.Option.{option_map, option_and_then}
use Rattle.std.specs.Result.{result_ok}
use Rattle.std.proofs.lemmas.List.{append-nil}
use Rattle.std.proofs.lemmas.Option.{none-some, same_Some}
use Rattle.reg_names.specs.Names.{folded}
use Rattle.reg_heap.specs.Edits.{child_path}
use Rattle.reg_heap.specs.Heaps.{Heap}
use Rattle.reg_heap.specs.Kinds.Kind.{Leaf, SubList}
use Rattle.reg_heap.specs.Paths.{Path, Rec}
use Rattle.reg_records.specs.KeyNodes.{KeyRecord, nk_of}
use Rattle.reg_records.specs.SubkeyLists.{Entry, Form, SubkeysList, list_of, offsets_in}
use Rattle.reg_records.specs.declared.lists.ListForm.TheVariants.{IndexRoot, IndexLeaf, FastLeaf, HashLeaf}
use Rattle.reg_shape.specs.Nodes.{KeyList, Index, key_list_as, list_at, key_list_at, key_lists_at, index_as, index_at, entries_of}
use Rattle.reg_shape.specs.Nodes.Index.{Rooted}
use Rattle.reg_shape.specs.Spelt.{keys_from}
use Rattle.reg_shape.specs.Walk.{kind_met, gather}
use Rattle.reg_shape.proofs.Refinement.SpeltShapes.{Keys, keys-open, keys-none}
use Rattle.reg_shape.proofs.Walking.IndexWalks.{then-open, map-open}
use Rattle.reg_shape.proofs.Walking.WalkParts.{gather-open}
use Rattle.reg_shape.proofs.Walking.WalkRefinement.{look-open}
use Rattle.reg_tree_image.specs.declared.LoadFault.TheVariants.{Record, Limit}
use Rattle.reg_tree_image.specs.WalkSteps.{Seen, Step, ◌>>=◌, ◌>>◌, give, check, given, cell}
use Rattle.reg_tree_image.specs.LoadingWalk.{keys_each, leaf_as, head_from, leaf_from, lists_each, listed_as, list_from, subkeys_from, rest_from, key_from}
use Rattle.reg_tree_image.proofs.WalkedBack.BackSteps.{bind-back, check-back, given-back, give-back, last-back, cell-back, all-both}
use Rattle.reg_tree_image.proofs.WalkedBack.BackKeys.{form-back, head-back}

-- a key of a list was walked to its end
record IsGone (go : ℕ → Step (Unit {0})) (offset : ℕ) : Type 0 where
  seen : Seen
  end : Unit {0}
  after : Seen
  gone : go offset seen ≡ Ok (end, after)

abbrev AreGone : (ℕ → Step (Unit {0})) → List Entry → Type 0
AreGone go entries = AllByRecursion (IsGone go) (offsets_in entries)

both-gone : (go : ℕ → Step (Unit {0})) (xs ys : List Entry) → AreGone go xs → AreGone go ys → AreGone go (xs ++ ys)
both-gone go [] ys a b = b
both-gone go (x ∷ xs) ys a b = (a.0, both-gone go xs ys a.1 b)

module _ (heap : Heap) (go : ℕ → Step (Unit {0})) (path : List ℕ) where
  keys-gone : (entries : List Entry) (n : ℕ) (seen : Seen) (y : ℕ) (after : Seen) → keys_each go n entries seen ≡ Ok (y, after) → AreGone go entries
  keys-gone [] n seen y after e = tt
  keys-gone (entry ∷ entries) n seen y after e =
      let rest = keys_each go (suc n) entries in
      let k = check-back Limit (nat_lt n 60000) (go entry.offset >> rest) seen y after e in
      let o = bind-back (go entry.offset) (λ _. rest) seen y after k.1 in
      (record { seen = seen; end = o.first; after = o.mid; gone = o.first_is }, keys-gone entries (suc n) o.mid y after o.then_is)

  list-of : (offset : ℕ) (list : SubkeysList) (form : Form) (kl : KeyList) → key_list_as offset list form ≡ Some kl → list ≡ kl.list
  list-of offset list IndexRoot kl e = absurd (none-some _ e)
  list-of offset list IndexLeaf kl e = ap (λ (l : KeyList). l.list) (same_Some _ _ e)
  list-of offset list FastLeaf kl e = ap (λ (l : KeyList). l.list) (same_Some _ _ e)
  list-of offset list HashLeaf kl e = ap (λ (l : KeyList). l.list) (same_Some _ _ e)

  lists-gone : (entries : List Entry) (n : ℕ) (seen : Seen) (y : Unit {0}) (after : Seen) (lists : List KeyList) → lists_each heap go path n entries seen ≡ Ok (y, after) →
      key_lists_at heap (offsets_in entries) ≡ Some lists → AreGone go (flat_map (λ (l : KeyList). l.list.entries) lists)
  lists-gone [] n seen y after lists e are = subst (λ (ls : List KeyList). AreGone go (flat_map (λ (l : KeyList). l.list.entries) ls)) (same_Some _ _ are) tt
  lists-gone (entry ∷ entries) n seen y after lists e are =
      let last = λ (m : ℕ). lists_each heap go path m entries in
      let below = λ (list : SubkeysList). keys_each go n list.entries >>= last in
      let whole = λ (list : SubkeysList). leaf_as list.form >> give list in
      let o = bind-back (leaf_from heap path entry.offset) below seen y after e in
      let l = bind-back (cell heap path (λ _. Leaf) entry.offset) (λ content. given Record (list_of content) >>= whole) seen o.first o.mid o.first_is in
      let c = cell-back heap path (λ _. Leaf) entry.offset seen l.first l.mid l.first_is in
      let r = given-back Record (list_of l.first) whole l.mid o.first o.mid l.then_is in
      let f = form-back r.0.form (give r.0) l.mid o.first o.mid r.2 in
      let g = give-back r.0 l.mid o.first o.mid f.1 in
      let m = bind-back (keys_each go n o.first.entries) last o.mid y after o.then_is in
      let q = then-open (λ (list : KeyList). option_map (λ ls. list ∷ ls) (key_lists_at heap (offsets_in entries))) (key_list_at heap entry.offset) lists are in
      let t = map-open (λ (ls : List KeyList). q.0 ∷ ls) (key_lists_at heap (offsets_in entries)) lists q.2 in
      let p = then-open (λ (list : SubkeysList). key_list_as entry.offset list list.form) (list_at heap entry.offset) q.0 q.1 in
      let read : p.0 ≡ o.first = same_Some _ _ (sym p.1 ∙ (ap (option_and_then list_of) c.here ∙ (r.1 ∙ ap Some g.0))) in
      let here : q.0.list ≡ o.first = sym (list-of entry.offset p.0 p.0.form q.0 p.2) ∙ read in
      subst (λ (ls : List KeyList). AreGone go (flat_map (λ (l : KeyList). l.list.entries) ls)) t.2
      (both-gone go q.0.list.entries (flat_map (λ (l : KeyList). l.list.entries) t.0)
      (subst (λ (list : SubkeysList). AreGone go list.entries) (sym here) (keys-gone o.first.entries n o.mid m.first m.mid m.first_is))
      (lists-gone entries m.first m.mid y after t.0 m.then_is t.1))

  plain-gone : (entries : List Entry) (seen : Seen) (y : Unit {0}) (after : Seen) → (keys_each go 0 entries >> give tt) seen ≡ Ok (y, after) → AreGone go (entries ++ [])
  plain-gone entries seen y after e =
      let o = bind-back (keys_each go 0 entries) (λ _. give tt) seen y after e in
      subst (AreGone go) (sym (append-nil entries)) (keys-gone entries 0 seen o.first o.mid o.first_is)

  listed-gone : (form : Form) (offset : ℕ) (list : SubkeysList) (index : Index) (seen : Seen) (y : Unit {0}) (after : Seen) → listed_as heap go path list.entries form seen ≡ Ok (y, after) →
      index_as heap offset list form ≡ Some index → AreGone go (entries_of index)
  listed-gone IndexRoot offset list index seen y after e i =
      let m = map-open (Rooted offset) (key_lists_at heap (offsets_in list.entries)) index i in
      subst (λ (x : Index). AreGone go (entries_of x)) m.2 (lists-gone list.entries 0 seen y after m.0 e m.1)
  listed-gone IndexLeaf offset list index seen y after e i = subst (λ (x : Index). AreGone go (entries_of x)) (same_Some _ _ i) (plain-gone list.entries seen y after e)
  listed-gone FastLeaf offset list index seen y after e i = subst (λ (x : Index). AreGone go (entries_of x)) (same_Some _ _ i) (plain-gone list.entries seen y after e)
  listed-gone HashLeaf offset list index seen y after e i = subst (λ (x : Index). AreGone go (entries_of x)) (same_Some _ _ i) (plain-gone list.entries seen y after e)

  subkeys-gone : (count offset : ℕ) (index : Index) (seen : Seen) (y : Unit {0}) (after : Seen) → subkeys_from heap go path count offset seen ≡ Ok (y, after) →
      index_at heap count offset ≡ Some index → AreGone go (entries_of index)
  subkeys-gone zero offset index seen y after e i = subst (λ (x : Index). AreGone go (entries_of x)) (same_Some _ _ i) tt
  subkeys-gone (suc n) offset index seen y after e i =
      let o = bind-back (list_from heap path offset) (λ list. listed_as heap go path list.entries list.form) seen y after e in
      let l = bind-back (cell heap path (kind_met SubList) offset) (λ content. given Record (list_of content)) seen o.first o.mid o.first_is in
      let c = cell-back heap path (kind_met SubList) offset seen l.first l.mid l.first_is in
      let g = last-back Record (list_of l.first) l.mid o.first o.mid l.then_is in
      let q = then-open (λ (list : SubkeysList). index_as heap offset list list.form) (list_at heap offset) index i in
      let same : q.0 ≡ o.first = same_Some _ _ (sym q.1 ∙ (ap (option_and_then list_of) c.here ∙ g.0)) in
      listed-gone o.first.form offset o.first index o.mid y after o.then_is (subst (λ (list : SubkeysList). index_as heap offset list list.form ≡ Some index) same q.2)

-- ---- depth

AreWithin : ℕ → Keys → Type 0
AreWithin n keys = AllByRecursion (λ (e : Path × Rec). length e.0 ≤ n) keys

deeper : (name : List ℕ) (n : ℕ) (keys : Keys) → AreWithin n keys → AreWithin (suc n) (map (λ (e : Path × Rec). (name ∷ e.0, e.1)) keys)
unfolding AreWithin
deeper name n [] a = tt
deeper name n (e ∷ keys) a = (let l = a.0 in omega (arith, l), deeper name n keys a.1)

gathered-within : (k n : ℕ) (heap : Heap) (go : ℕ → Step (Unit {0})) →
    ((offset : ℕ) (keys : Keys) → IsGone go offset → keys_from k heap offset ≡ Some keys → AreWithin n keys) →
    (offsets : List ℕ) (keys : Keys) → AllByRecursion (IsGone go) offsets → gather (keys_from k heap) offsets ≡ Some keys → AreWithin n keys
unfolding AreWithin
gathered-within k n heap go one [] keys a e = subst (AreWithin n) (same_Some _ _ e) tt
gathered-within k n heap go one (o ∷ os) keys a e =
    let g = gather-open (keys_from k heap) o os keys e in
    subst (AreWithin n) g.all
    (all-both (λ (e : Path × Rec). length e.0 ≤ n) g.head g.tail (one o g.head a.0 g.head_is) (gathered-within k n heap go one os g.tail a.1 g.tail_is))

module _ (heap : Heap) (minor : ℕ) (new : (minor == 3) ≡ false) where
  pub depth-back : (levels k : ℕ) (path : List ℕ) (here : List ℕ → Path) (offset : ℕ) (seen : Seen) (u : Unit {0}) (after : Seen) (keys : Keys) →
      key_from heap minor levels path here offset seen ≡ Ok (u, after) → keys_from k heap offset ≡ Some keys → AllByRecursion (λ (e : Path × Rec). length e.0 ≤ levels) keys
  unfolding key_from AreWithin
  depth-back zero k path here offset seen u after keys e s =
      let o = bind-back (head_from heap path here offset) (λ head. check Limit false) seen u after e in
      absurd (cc (o.then_is))
  depth-back (suc levels) zero path here offset seen u after keys e s = absurd (keys-none heap offset keys s)
  depth-back (suc levels) (suc k) path here offset seen u after keys e s =
      let down = offset ∷ path in
      let go = λ (head : KeyRecord × List ℕ). key_from heap minor levels down (child_path (here head.1)) in
      let below = λ (head : KeyRecord × List ℕ). subkeys_from heap (go head) down head.0.fields.subkeys head.0.fields.subkeys_list in
      let whole = λ (head : KeyRecord × List ℕ). rest_from heap minor down (here head.1) head.0 head.1 >> below head in
      let o = bind-back (head_from heap path here offset) whole seen u after e in
      let key = o.first.0 in
      let h = head-back heap minor new path here offset seen o.first o.mid o.first_is in
      let r = bind-back (rest_from heap minor down (here o.first.1) key o.first.1) (λ _. below o.first) o.mid u after o.then_is in
      let m = keys-open k heap offset keys s in
      let l = look-open heap offset m.node m.node_is in
      let content : l.content ≡ h.content = same_Some _ _ (sym l.here ∙ h.named_so.here) in
      let same : m.node.key ≡ key = same_Some _ _ (sym l.key_is ∙ (ap (λ (c : List ℕ). result_ok (nk_of c)) content ∙ ap result_ok h.key_is)) in
      let index = subst (λ (k : KeyRecord). index_at heap k.fields.subkeys k.fields.subkeys_list ≡ Some m.node.index) same l.index_is in
      let gone = subkeys-gone heap (go o.first) down key.fields.subkeys key.fields.subkeys_list m.node.index r.mid u after r.then_is index in
      let within = gathered-within k levels heap (go o.first)
      (λ at ks g is. depth-back levels k down (child_path (here o.first.1)) at g.seen g.end g.after ks g.gone is) (offsets_in (entries_of m.node.index)) m.below gone m.below_is in
      subst (AreWithin (suc levels)) m.all (omega arith, deeper (folded m.rec.name) levels m.below within)
