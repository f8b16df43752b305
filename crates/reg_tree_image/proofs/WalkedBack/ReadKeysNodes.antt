-- What the walk of a key that met no fault read: its node, and that each of its subkeys was walked.
use Rattle.std.proofs.Common.{◌≡◌, ◌≢◌, ℕ, zero, suc, ◌==◌, nat_lt, not, true, false, Option, Some, Ok, List, [], ◌∷◌, ◌++◌, length, flat_map, bit_and, refl, sym, ap, ◌∙◌, subst}
use Rattle.std.specs.Prelude.{IsSome}
use Rattle.std.specs.List.{AllByRecursion}
use Rattle.std.specs.Option.{option_map, option_and_then}
use Rattle.std.proofs.lemmas.Bool.{false≢true}
use Rattle.std.proofs.lemmas.List.{append-nil}
use Rattle.reg_names.specs.Names.{is_key_name_byte}
use Rattle.reg_heap.specs.Edits.{child_path}
use Rattle.reg_heap.specs.Heaps.{Heap}
use Rattle.reg_heap.specs.Kinds.{Found}
use Rattle.reg_heap.specs.Kinds.Kind.{Key, SubList, Leaf}
use Rattle.reg_heap.specs.Paths.{Path, Rec, Member}
use Rattle.reg_records.specs.KeyNodes.{KeyRecord, nk_of}
use Rattle.reg_records.specs.KeySecurities.{security_at}
use Rattle.reg_records.specs.SubkeyLists.{Entry, Form, SubkeysList, list_of, offsets_in}
use Rattle.reg_records.specs.declared.lists.ListForm.TheVariants.{IndexRoot, IndexLeaf, FastLeaf, HashLeaf}
use Rattle.reg_shape.specs.Nodes.{KeyList, Index, key_list_as, key_list_at, key_lists_at, index_as, index_at, entries_of, Node, node_of, look}
use Rattle.reg_shape.specs.Nodes.Index.{Listed, Rooted, Unlisted}
use Rattle.reg_shape.specs.Spelt.{marks_of}
use Rattle.reg_shape.specs.Walk.{kind_met}
use Rattle.reg_tree_image.specs.declared.LoadFault.TheVariants.{Record, Twice, Limit}
use Rattle.reg_tree_image.specs.WalkSteps.{Seen, Step, ◌>>=◌, ◌>>◌, give, check, given, tell, cell}
use Rattle.reg_tree_image.specs.LoadingWalk.{read, name_in, key_name, is_free, no_sibling, keys_each, leaf_as, named_key, head_from, leaf_from, lists_each, listed_as, list_from, subkeys_from, parts_from, rest_from, key_from}
use Rattle.reg_tree_image.proofs.WalkedBack.BackSteps.{bind-back, check-back, given-back, read-back, give-back, last-back, cell-back, all-both}
use Rattle.reg_tree_image.proofs.WalkedBack.ReadKeysReadings.{look-made}
use Rattle.reg_tree_image.proofs.WalkedBack.ReadKeysValues.{AreTested, ArePartsRead, parts-read}

-- ---- subkeys

-- a key of a list was walked to its end
pub record IsGone (go : ℕ → Step (Unit {0})) (offset : ℕ) : Type 0 where
  pub seen : Seen
  pub end : Unit {0}
  pub after : Seen
  pub gone : go offset seen ≡ Ok (end, after)

abbrev pub AreGone : (ℕ → Step (Unit {0})) → List Entry → Type 0
AreGone go entries = AllByRecursion (λ (e : Entry). IsGone go e.offset) entries

module _ (heap : Heap) (go : ℕ → Step (Unit {0})) (path : List ℕ) where
  keys-gone : (entries : List Entry) (n : ℕ) (seen : Seen) (y : ℕ) (after : Seen) → keys_each go n entries seen ≡ Ok (y, after) → AreGone go entries
  keys-gone [] n seen y after e = tt
  keys-gone (entry ∷ entries) n seen y after e =
      let rest = keys_each go (suc n) entries in
      let k = check-back Limit (nat_lt n 60000) (go entry.offset >> rest) seen y after e in
      let o = bind-back (go entry.offset) (λ _. rest) seen y after k.1 in
      (record { seen = seen; end = o.first; after = o.mid; gone = o.first_is }, keys-gone entries (suc n) o.mid y after o.then_is)

  -- a list of keys, which an index root names
  leaf-read : (offset : ℕ) (seen : Seen) (list : SubkeysList) (after : Seen) → leaf_from heap path offset seen ≡ Ok (list, after) →
      key_list_at heap offset ≡ Some (record { offset = offset; list = list })
  leaf-read offset seen list after e =
      let whole = λ (l : SubkeysList). leaf_as l.form >> give l in
      let l = bind-back (cell heap path (λ _. Leaf) offset) (λ content. given Record (list_of content) >>= whole) seen list after e in
      let c = cell-back heap path (λ _. Leaf) offset seen l.first l.mid l.first_is in
      let r = given-back Record (list_of l.first) whole l.mid list after l.then_is in
      let g = by r.0 r.0.form l.mid r.2 in
      ap (λ (o : Option (List ℕ)). option_and_then (λ (l : SubkeysList). key_list_as offset l l.form) (option_and_then list_of o)) c.here
      ∙ (ap (option_and_then (λ (l : SubkeysList). key_list_as offset l l.form)) r.1 ∙ (g.1 ∙ ap (λ (l : SubkeysList). Some (record { offset = offset; list = l })) g.0))
    where
      by : (l : SubkeysList) (form : Form) (mid : Seen) → (leaf_as form >> give l) mid ≡ Ok (list, after) →
          (l ≡ list) × (key_list_as offset l form ≡ Some (record { offset = offset; list = l }))
      by l IndexRoot mid e = absurd (cc)
      by l IndexLeaf mid e = ((give-back l mid list after e).0, refl)
      by l FastLeaf mid e = ((give-back l mid list after e).0, refl)
      by l HashLeaf mid e = ((give-back l mid list after e).0, refl)

  lists-read : (entries : List Entry) (n : ℕ) (seen : Seen) (y : Unit {0}) (after : Seen) → lists_each heap go path n entries seen ≡ Ok (y, after) →
      (lists : List KeyList) × (key_lists_at heap (offsets_in entries) ≡ Some lists) × AreGone go (flat_map (λ (l : KeyList). l.list.entries) lists)
  lists-read [] n seen y after e = ([], refl, tt)
  lists-read (entry ∷ entries) n seen y after e =
      let last = λ (m : ℕ). lists_each heap go path m entries in
      let below = λ (list : SubkeysList). keys_each go n list.entries >>= last in
      let o = bind-back (leaf_from heap path entry.offset) below seen y after e in
      let m = bind-back (keys_each go n o.first.entries) last o.mid y after o.then_is in
      let r = lists-read entries m.first m.mid y after m.then_is in
      let one : KeyList = record { offset = entry.offset; list = o.first } in (
        one ∷ r.0,
        ap (option_and_then (λ (l : KeyList). option_map (λ (ls : List KeyList). l ∷ ls) (key_lists_at heap (offsets_in entries)))) (leaf-read entry.offset seen o.first o.mid o.first_is)
            ∙ ap (option_map (λ (ls : List KeyList). one ∷ ls)) r.1,
        all-both (λ (x : Entry). IsGone go x.offset) o.first.entries (flat_map (λ (l : KeyList). l.list.entries) r.0) (keys-gone o.first.entries n o.mid m.first m.mid m.first_is) r.2,
      )

  plain-read : (entries : List Entry) (seen : Seen) (y : Unit {0}) (after : Seen) → (keys_each go 0 entries >> give tt) seen ≡ Ok (y, after) → AreGone go (entries ++ [])
  plain-read entries seen y after e =
      let o = bind-back (keys_each go 0 entries) (λ _. give tt) seen y after e in
      subst (AreGone go) (sym (append-nil entries)) (keys-gone entries 0 seen o.first o.mid o.first_is)

  listed-read : (form : Form) (offset : ℕ) (list : SubkeysList) (seen : Seen) (y : Unit {0}) (after : Seen) → listed_as heap go path list.entries form seen ≡ Ok (y, after) →
      (index : Index) × (index_as heap offset list form ≡ Some index) × AreGone go (entries_of index)
  listed-read IndexRoot offset list seen y after e =
      let r = lists-read list.entries 0 seen y after e in
      (Rooted offset r.0, ap (option_map (Rooted offset)) r.1, r.2)
  listed-read IndexLeaf offset list seen y after e = (Listed (record { offset = offset; list = list }), refl, plain-read list.entries seen y after e)
  listed-read FastLeaf offset list seen y after e = (Listed (record { offset = offset; list = list }), refl, plain-read list.entries seen y after e)
  listed-read HashLeaf offset list seen y after e = (Listed (record { offset = offset; list = list }), refl, plain-read list.entries seen y after e)

  subkeys-read : (count offset : ℕ) (seen : Seen) (y : Unit {0}) (after : Seen) → subkeys_from heap go path count offset seen ≡ Ok (y, after) →
      (index : Index) × (index_at heap count offset ≡ Some index) × AreGone go (entries_of index)
  subkeys-read zero offset seen y after e = (Unlisted, refl, tt)
  subkeys-read (suc n) offset seen y after e =
      let o = bind-back (list_from heap path offset) (λ list. listed_as heap go path list.entries list.form) seen y after e in
      let l = bind-back (cell heap path (kind_met SubList) offset) (λ content. given Record (list_of content)) seen o.first o.mid o.first_is in
      let c = cell-back heap path (kind_met SubList) offset seen l.first l.mid l.first_is in
      let g = last-back Record (list_of l.first) l.mid o.first o.mid l.then_is in
      let r = listed-read o.first.form offset o.first o.mid y after o.then_is in (
        r.0,
        ap (λ (o : Option (List ℕ)). option_and_then (λ (l : SubkeysList). index_as heap offset l l.form) (option_and_then list_of o)) c.here
            ∙ (ap (option_and_then (λ (l : SubkeysList). index_as heap offset l l.form)) g.0 ∙ r.1),
        r.2,
      )

-- ---- a key

-- the walk of a key met no fault
pub record IsMet (heap : Heap) (minor offset : ℕ) : Type 0 where
  pub levels : ℕ
  pub path : List ℕ
  pub here : List ℕ → Path
  pub seen : Seen
  pub end : Unit {0}
  pub after : Seen
  pub met : key_from heap minor levels path here offset seen ≡ Ok (end, after)

-- what it read of the key
pub record IsKeyRead (heap : Heap) (minor offset : ℕ) : Type 0 where
  pub node : Node
  pub seen : look heap offset ≡ Some node
  pub name : node.key.name ≢ []
  pub values : AreTested heap node.key.fields.values node.key.fields.values_list node.values
  pub secured : IsSome (security_at heap node.key.fields.security)
  pub below : AllByRecursion (λ (e : Entry). IsMet heap minor e.offset) (entries_of node.index)

module _ (heap : Heap) where
  -- the record of a key, whose name isn't empty
  pub record IsHeadRead (offset : ℕ) (key : KeyRecord) : Type 0 where
    pub content : List ℕ
    pub here : heap offset ≡ Some content
    pub key_is : nk_of content ≡ Ok key
    pub name : key.name ≢ []

  some-name : (name : List ℕ) → nat_lt 0 (length name) ≡ true → name ≢ []
  some-name [] e n = false≢true e
  some-name (b ∷ bs) e n = cc

  named-key : (path : List ℕ) (offset : ℕ) (seen : Seen) (head : KeyRecord × List ℕ) (after : Seen) → named_key heap path offset seen ≡ Ok (head, after) → IsHeadRead offset head.0
  named-key path offset seen head after e =
      let with_name = λ (key : KeyRecord). key_name key >>= (λ name. give (key, name)) in
      let n = bind-back (cell heap path (λ _. Key) offset) (λ content. read (nk_of content) >>= with_name) seen head after e in
      let c = cell-back heap path (λ _. Key) offset seen n.first n.mid n.first_is in
      let r = read-back (nk_of n.first) with_name n.mid head after n.then_is in
      let w = bind-back (key_name r.0) (λ name. give (r.0, name)) n.mid head after r.2 in
      let some = check-back Record (nat_lt 0 (length r.0.name)) (name_in (not (bit_and r.0.fields.flags 32 == 0)) 255 is_key_name_byte r.0.name) n.mid w.first w.mid w.first_is in
      let g = give-back (r.0, w.first) w.mid head after w.then_is in
      subst (λ (h : KeyRecord × List ℕ). IsHeadRead offset h.0) {x = (r.0, w.first)} g.0
      (record { content = n.first; here = c.here; key_is = r.1; name = some-name r.0.name some.0 })

  pub head-read : (path : List ℕ) (here : List ℕ → Path) (offset : ℕ) (seen : Seen) (head : KeyRecord × List ℕ) (after : Seen) →
      head_from heap path here offset seen ≡ Ok (head, after) → IsHeadRead offset head.0
  head-read path here offset seen head after e =
      let o = bind-back (named_key heap path offset) (λ (h : KeyRecord × List ℕ). no_sibling (here h.1) >> give h) seen head after e in
      let k = check-back Twice (is_free (here o.first.1) o.mid.told) (give o.first) o.mid head after o.then_is in
      subst (λ (h : KeyRecord × List ℕ). IsHeadRead offset h.0) {x = o.first} (give-back o.first o.mid head after k.1).0 (named-key path offset seen o.first o.mid o.first_is)

module _ (heap : Heap) (minor : ℕ) (new : (minor == 3) ≡ false) where
  pub rest-read : (path : List ℕ) (at : Path) (key : KeyRecord) (name : List ℕ) (seen : Seen) (u : Unit {0}) (after : Seen) →
      rest_from heap minor path at key name seen ≡ Ok (u, after) → ArePartsRead heap key.fields
  rest-read path at key name seen u after e =
      let told : List ℕ × List ℕ × List Member → Rec = λ parts. record {
        name = name;
        marks = marks_of key.fields.flags;
        class = parts.0;
        descriptor = parts.1;
        time = key.fields.time;
        values = parts.2;
      } in
      let o = bind-back (parts_from heap minor path key.fields) (λ parts. tell at (told parts)) seen u after e in
      parts-read heap minor new path key.fields seen o.first o.mid o.first_is

  all-met : (levels : ℕ) (path : List ℕ) (here : List ℕ → Path) (entries : List Entry) → AreGone (key_from heap minor levels path here) entries →
      AllByRecursion (λ (e : Entry). IsMet heap minor e.offset) entries
  all-met levels path here [] a = tt
  all-met levels path here (x ∷ xs) a =
      (record { levels = levels; path = path; here = here; seen = a.0.seen; end = a.0.end; after = a.0.after; met = a.0.gone }, all-met levels path here xs a.1)

  node-read : (levels : ℕ) (path : List ℕ) (here : List ℕ → Path) (offset : ℕ) (seen : Seen) (u : Unit {0}) (after : Seen) →
      key_from heap minor levels path here offset seen ≡ Ok (u, after) → IsKeyRead heap minor offset
  unfolding key_from
  node-read zero path here offset seen u after e =
      let o = bind-back (head_from heap path here offset) (λ head. check Limit false) seen u after e in
      absurd (cc (o.then_is))
  node-read (suc levels) path here offset seen u after e =
      let down = offset ∷ path in
      let go = λ (head : KeyRecord × List ℕ). key_from heap minor levels down (child_path (here head.1)) in
      let below = λ (head : KeyRecord × List ℕ). subkeys_from heap (go head) down head.0.fields.subkeys head.0.fields.subkeys_list in
      let whole = λ (head : KeyRecord × List ℕ). rest_from heap minor down (here head.1) head.0 head.1 >> below head in
      let o = bind-back (head_from heap path here offset) whole seen u after e in
      let key = o.first.0 in
      let h = head-read heap path here offset seen o.first o.mid o.first_is in
      let r = bind-back (rest_from heap minor down (here o.first.1) key o.first.1) (λ _. below o.first) o.mid u after o.then_is in
      let parts = rest-read down (here o.first.1) key o.first.1 o.mid r.first r.mid r.first_is in
      let s = subkeys-read heap (go o.first) down key.fields.subkeys key.fields.subkeys_list r.mid u after r.then_is in
      let class : List ℕ × List Found = (parts.class, parts.class_is.0) in
      let values : List Member × List Found = (parts.members, parts.values.reads.0) in
      record {
        node = node_of offset key class values s.0;
        seen = look-made heap offset h.content key class values s.0 h.here h.key_is parts.class_is.1 parts.values.reads.1 s.1;
        name = h.name;
        values = parts.values;
        secured = parts.secured;
        below = all-met levels down (child_path (here o.first.1)) (entries_of s.0) s.2;
      }

  pub key-read : (offset : ℕ) → IsMet heap minor offset → IsKeyRead heap minor offset
  key-read offset m = node-read m.levels m.path m.here offset m.seen m.end m.after m.met
