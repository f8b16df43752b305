-- A key and all below it, as they were named.
use Rattle.std.proofs.Common.{◌≡◌, ℕ, zero, suc, ◌==◌, nat_lt, not, Bool, false, cond, Some, Result, Ok, List, [], ◌∷◌, ◌++◌, append_assoc, length, map, bit_and, refl, sym, ap, ◌∙◌, subst}
use Rattle.std.specs.List.{AllByRecursion}
use Rattle.std.specs.Option.{option_map, option_and_then}
use Rattle.std.specs.Prelude.{IsSome}
use Rattle.std.specs.Result.{result_ok}
use Rattle.std.proofs.lemmas.List.{append-nil}
use Rattle.std.proofs.lemmas.Option.{same_Some}
use Rattle.reg_names.specs.Names.{is_key_name_byte}
use Rattle.reg_heap.specs.Edits.{child_path}
use Rattle.reg_heap.specs.Heaps.{Heap}
use Rattle.reg_heap.specs.Paths.{Path, Rec, Member}
use Rattle.reg_heap.specs.Kinds.{Found}
use Rattle.reg_heap.specs.Kinds.Kind.{Key, Class, SubList, Leaf, ValueList, Security}
use Rattle.reg_records.specs.KeyNodes.{KeyRecord, nk_of}
use Rattle.reg_records.specs.SubkeyLists.{Entry, Form, SubkeysList, list_of, offsets_in}
use Rattle.reg_records.specs.declared.lists.ListForm.TheVariants.{IndexRoot, IndexLeaf, FastLeaf, HashLeaf}
use Rattle.reg_records.specs.BigData.{Named, named, plainly, if_any}
use Rattle.reg_shape.specs.Spelt.{marks_of}
use Rattle.reg_shape.specs.Walk.{kind_met, names_of, key_names, leaves_named, keys_named, walk}
use Rattle.reg_shape.specs.Whole.{AreApart}
use Rattle.reg_shape.specs.Written.{Pairwise}
use Rattle.reg_shape.proofs.Walking.WalkParts.{gather-open}
use Rattle.reg_tree_image.specs.Images.{nothing}
use Rattle.reg_tree_image.specs.declared.LoadFault.TheVariants.{Record, Twice, Limit}
use Rattle.reg_tree_image.specs.WalkSteps.{Seen, Step, ◌>>=◌, ◌>>◌, give, check, given, tell, cell}
use Rattle.reg_tree_image.specs.LoadingWalk.{read, root_path, name_in, key_name, is_free, no_sibling, keys_each, leaf_as, named_key, head_from, leaf_from, lists_each, listed_as, list_from, subkeys_from, parts_from, rest_from, key_from}
use Rattle.reg_tree_image.proofs.CleanWalks.CleanLists.{is_root, root-signed}
use Rattle.reg_tree_image.proofs.WalkedBack.BackSteps.{IsNamed, Went, ok_is, bind-back, check-back, given-back, read-back, give-back, last-back, cell-back, went-none, went-join, went-met, went-on}
use Rattle.reg_tree_image.proofs.WalkedBack.BackValues.{name-back, same-found, parts-back}

-- ---- lists

-- what a list names, by its form
abbrev form_names : Form → List Entry → List Named
form_names IndexRoot entries = map (plainly Leaf) (offsets_in entries)
form_names IndexLeaf entries = map (plainly Key) (offsets_in entries)
form_names FastLeaf entries = map (plainly Key) (offsets_in entries)
form_names HashLeaf entries = map (plainly Key) (offsets_in entries)

keys-are : (form : Form) (entries : List Entry) → is_root form ≡ false → keys_named form entries ≡ Some (map (plainly Key) (offsets_in entries))
keys-are IndexRoot entries e = absurd (cc)
keys-are IndexLeaf entries e = refl
keys-are FastLeaf entries e = refl
keys-are HashLeaf entries e = refl

pub form-back : {A : Type 0} (form : Form) (t : Step A) (seen : Seen) (y : A) (after : Seen) → (leaf_as form >> t) seen ≡ Ok (y, after) → (is_root form ≡ false) × (t seen ≡ Ok (y, after))
form-back IndexRoot t seen y after e = absurd (cc)
form-back IndexLeaf t seen y after e = (refl, e)
form-back FastLeaf t seen y after e = (refl, e)
form-back HashLeaf t seen y after e = (refl, e)

list-names : (size : ℕ) (content : List ℕ) (list : SubkeysList) (form : Form) → list_of content ≡ Some list → list.form ≡ form →
    names_of (cond (is_root form) SubList Leaf) size content ≡ Some (form_names form list.entries)
list-names size content list IndexRoot e f =
    ap (option_and_then (λ (l : SubkeysList). leaves_named l.form l.entries)) e ∙ ap (λ (g : Form). leaves_named g list.entries) f
list-names size content list IndexLeaf e f =
    ap (option_and_then (λ (l : SubkeysList). keys_named l.form l.entries)) e ∙ ap (λ (g : Form). keys_named g list.entries) f
list-names size content list FastLeaf e f =
    ap (option_and_then (λ (l : SubkeysList). keys_named l.form l.entries)) e ∙ ap (λ (g : Form). keys_named g list.entries) f
list-names size content list HashLeaf e f =
    ap (option_and_then (λ (l : SubkeysList). keys_named l.form l.entries)) e ∙ ap (λ (g : Form). keys_named g list.entries) f

module _ (heap : Heap) (go : ℕ → Step (Unit {0})) (path : List ℕ)
    (each : (offset : ℕ) (seen : Seen) (u : Unit {0}) (after : Seen) → go offset seen ≡ Ok (u, after) → Went heap (plainly Key offset ∷ []) seen after) where
  keys-back : (entries : List Entry) (n : ℕ) (seen : Seen) (y : ℕ) (after : Seen) → keys_each go n entries seen ≡ Ok (y, after) →
      Went heap (map (plainly Key) (offsets_in entries)) seen after
  keys-back [] n seen y after e = went-none heap seen after (same-found seen after (give-back n seen y after e).1)
  keys-back (entry ∷ entries) n seen y after e =
      let rest = keys_each go (suc n) entries in
      let k = check-back Limit (nat_lt n 60000) (go entry.offset >> rest) seen y after e in
      let o = bind-back (go entry.offset) (λ _. rest) seen y after k.1 in
      went-join heap (plainly Key entry.offset ∷ []) (map (plainly Key) (offsets_in entries)) seen o.mid after (each entry.offset seen o.first o.mid o.first_is)
      (keys-back entries (suc n) o.mid y after o.then_is)

  lists-back : (entries : List Entry) (n : ℕ) (seen : Seen) (y : Unit {0}) (after : Seen) → lists_each heap go path n entries seen ≡ Ok (y, after) →
      Went heap (map (plainly Leaf) (offsets_in entries)) seen after
  lists-back [] n seen y after e = went-none heap seen after (same-found seen after (give-back tt seen y after e).1)
  lists-back (entry ∷ entries) n seen y after e =
      let last = λ (m : ℕ). lists_each heap go path m entries in
      let below = λ (list : SubkeysList). keys_each go n list.entries >>= last in
      let whole = λ (list : SubkeysList). leaf_as list.form >> give list in
      let o = bind-back (leaf_from heap path entry.offset) below seen y after e in
      let l = bind-back (cell heap path (λ _. Leaf) entry.offset) (λ content. given Record (list_of content) >>= whole) seen o.first o.mid o.first_is in
      let c = cell-back heap path (λ _. Leaf) entry.offset seen l.first l.mid l.first_is in
      let r = given-back Record (list_of l.first) whole l.mid o.first o.mid l.then_is in
      let f = form-back r.0.form (give r.0) l.mid o.first o.mid r.2 in
      let g = give-back r.0 l.mid o.first o.mid f.1 in
      let m = bind-back (keys_each go n o.first.entries) last o.mid y after o.then_is in
      let keys = map (plainly Key) (offsets_in o.first.entries) in
      let names : names_of Leaf 0 l.first ≡ Some keys =
      ap (option_and_then (λ (x : SubkeysList). keys_named x.form x.entries)) (r.1 ∙ ap Some g.0) ∙ keys-are o.first.form o.first.entries (sym (ap (λ (x : SubkeysList). is_root x.form) g.0) ∙ f.0) in
      went-join heap (plainly Leaf entry.offset ∷ []) (map (plainly Leaf) (offsets_in entries)) seen m.mid after
      (went-met heap (plainly Leaf entry.offset) l.first keys seen l.mid m.mid c names
      (subst (λ (s : Seen). Went heap keys s m.mid) (sym g.1) (keys-back o.first.entries n o.mid m.first m.mid m.first_is)))
      (lists-back entries m.first m.mid y after m.then_is)

  plain-back : (entries : List Entry) (seen : Seen) (y : Unit {0}) (after : Seen) → (keys_each go 0 entries >> give tt) seen ≡ Ok (y, after) →
      Went heap (map (plainly Key) (offsets_in entries)) seen after
  plain-back entries seen y after e =
      let o = bind-back (keys_each go 0 entries) (λ _. give tt) seen y after e in
      let g = give-back tt o.mid y after o.then_is in
      went-on heap (map (plainly Key) (offsets_in entries)) seen o.mid after (keys-back entries 0 seen o.first o.mid o.first_is) (same-found o.mid after g.1)

  listed-back : (form : Form) (entries : List Entry) (seen : Seen) (y : Unit {0}) (after : Seen) → listed_as heap go path entries form seen ≡ Ok (y, after) →
      Went heap (form_names form entries) seen after
  listed-back IndexRoot entries seen y after e = lists-back entries 0 seen y after e
  listed-back IndexLeaf entries seen y after e = plain-back entries seen y after e
  listed-back FastLeaf entries seen y after e = plain-back entries seen y after e
  listed-back HashLeaf entries seen y after e = plain-back entries seen y after e

  subkeys-back : (count offset : ℕ) (seen : Seen) (y : Unit {0}) (after : Seen) → subkeys_from heap go path count offset seen ≡ Ok (y, after) →
      Went heap (if_any SubList count offset) seen after
  subkeys-back zero offset seen y after e = went-none heap seen after (same-found seen after (give-back tt seen y after e).1)
  subkeys-back (suc n) offset seen y after e =
      let o = bind-back (list_from heap path offset) (λ list. listed_as heap go path list.entries list.form) seen y after e in
      let l = bind-back (cell heap path (kind_met SubList) offset) (λ content. given Record (list_of content)) seen o.first o.mid o.first_is in
      let c = cell-back heap path (kind_met SubList) offset seen l.first l.mid l.first_is in
      let g = last-back Record (list_of l.first) l.mid o.first o.mid l.then_is in
      let names = form_names o.first.form o.first.entries in
      let are : names_of (kind_met SubList l.first) (suc n) l.first ≡ Some names =
      ap (λ (b : Bool). names_of (cond b SubList Leaf) (suc n) l.first) (root-signed l.first o.first g.0) ∙ list-names (suc n) l.first o.first o.first.form g.0 refl in
      went-met heap (named SubList (suc n) offset) l.first names seen l.mid after c are
      (subst (λ (s : Seen). Went heap names s after) (sym g.1) (listed-back o.first.form o.first.entries o.mid y after o.then_is))

-- ---- a key

module _ (heap : Heap) (minor : ℕ) (new : (minor == 3) ≡ false) where
  -- the record of a key, as it was named
  pub record IsHead (offset : ℕ) (seen : Seen) (key : KeyRecord) (after : Seen) : Type 0 where
    pub content : List ℕ
    pub named_so : IsNamed heap (λ _. Key) offset seen content after
    pub key_is : nk_of content ≡ Ok key

  pub head-back : (path : List ℕ) (here : List ℕ → Path) (offset : ℕ) (seen : Seen) (head : KeyRecord × List ℕ) (after : Seen) →
      head_from heap path here offset seen ≡ Ok (head, after) → IsHead offset seen head.0 after
  head-back path here offset seen head after e =
      let with_name = λ (key : KeyRecord). key_name key >>= (λ name. give (key, name)) in
      let whole = λ (head : KeyRecord × List ℕ). no_sibling (here head.1) >> give head in
      let o = bind-back (named_key heap path offset) whole seen head after e in
      let k = check-back Twice (is_free (here o.first.1) o.mid.told) (give o.first) o.mid head after o.then_is in
      let g = give-back o.first o.mid head after k.1 in
      let n = bind-back (cell heap path (λ _. Key) offset) (λ content. read (nk_of content) >>= with_name) seen o.first o.mid o.first_is in
      let c = cell-back heap path (λ _. Key) offset seen n.first n.mid n.first_is in
      let r = read-back (nk_of n.first) with_name n.mid o.first o.mid n.then_is in
      let key = r.0 in
      let w = bind-back (key_name key) (λ name. give (key, name)) n.mid o.first o.mid r.2 in
      let some = check-back Record (nat_lt 0 (length key.name)) (name_in (not (bit_and key.fields.flags 32 == 0)) 255 is_key_name_byte key.name) n.mid w.first w.mid w.first_is in
      let same : n.mid ≡ w.mid = name-back (not (bit_and key.fields.flags 32 == 0)) 255 is_key_name_byte key.name n.mid w.first w.mid some.1 in
      let gave = give-back (key, w.first) w.mid o.first o.mid w.then_is in
      record {
        content = n.first;
        named_so = subst (λ (s : Seen). IsNamed heap (λ _. Key) offset seen n.first s) (same ∙ (gave.1 ∙ g.1)) c;
        key_is = r.1 ∙ ap Ok (ap (λ (h : KeyRecord × List ℕ). h.0) (gave.0 ∙ g.0));
      }

  abbrev pub part_names : KeyRecord → List Named
  part_names key = if_any Class key.fields.class_length key.fields.class ++ (plainly Security key.fields.security ∷ if_any ValueList key.fields.values key.fields.values_list)

  pub rest-back : (path : List ℕ) (at : Path) (key : KeyRecord) (name : List ℕ) (seen : Seen) (u : Unit {0}) (after : Seen) →
      rest_from heap minor path at key name seen ≡ Ok (u, after) → Went heap (part_names key) seen after
  rest-back path at key name seen u after e =
      let told : List ℕ × List ℕ × List Member → Rec = λ parts. record {
        name = name;
        marks = marks_of key.fields.flags;
        class = parts.0;
        descriptor = parts.1;
        time = key.fields.time;
        values = parts.2;
      } in
      let o = bind-back (parts_from heap minor path key.fields) (λ parts. tell at (told parts)) seen u after e in
      let p = ok_is (tt, record o.mid { told = o.mid.told ++ (at, told o.first) ∷ [] }) (u, after) o.then_is in
      went-on heap (part_names key) seen o.mid after (parts-back heap minor new path key.fields seen o.first o.mid o.first_is)
      (sym (ap (λ (q : Unit {0} × Seen). q.1.found) p))

  pub key-back : (levels : ℕ) (path : List ℕ) (here : List ℕ → Path) (offset : ℕ) (seen : Seen) (u : Unit {0}) (after : Seen) →
      key_from heap minor levels path here offset seen ≡ Ok (u, after) → Went heap (plainly Key offset ∷ []) seen after
  unfolding key_from
  key-back zero path here offset seen u after e =
      let o = bind-back (head_from heap path here offset) (λ head. check Limit false) seen u after e in
      absurd (cc (o.then_is))
  key-back (suc levels) path here offset seen u after e =
      let down = offset ∷ path in
      let below = λ (head : KeyRecord × List ℕ). subkeys_from heap (key_from heap minor levels down (child_path (here head.1))) down head.0.fields.subkeys head.0.fields.subkeys_list in
      let whole = λ (head : KeyRecord × List ℕ). rest_from heap minor down (here head.1) head.0 head.1 >> below head in
      let o = bind-back (head_from heap path here offset) whole seen u after e in
      let key = o.first.0 in
      let h = head-back path here offset seen o.first o.mid o.first_is in
      let r = bind-back (rest_from heap minor down (here o.first.1) key o.first.1) (λ _. below o.first) o.mid u after o.then_is in
      let subkeys = if_any SubList key.fields.subkeys key.fields.subkeys_list in
      let both = went-join heap (part_names key) subkeys o.mid r.mid after (rest-back down (here o.first.1) key o.first.1 o.mid r.first r.mid r.first_is)
      (subkeys-back heap (key_from heap minor levels down (child_path (here o.first.1))) down (λ k s v a. key-back levels down (child_path (here o.first.1)) k s v a) key.fields.subkeys
      key.fields.subkeys_list r.mid u after r.then_is) in
      went-met heap (plainly Key offset) h.content (key_names key) seen o.mid after h.named_so
      (ap (λ (x : Result KeyRecord _). option_map key_names (result_ok x)) h.key_is)
      (subst (λ (names : List Named). Went heap names o.mid after)
      (append_assoc (if_any Class key.fields.class_length key.fields.class) (plainly Security key.fields.security ∷ if_any ValueList key.fields.values key.fields.values_list) subkeys) both)

-- ---- the whole walk

-- the walk from the root: each record apart from the others, where an allocated cell is
pub record IsWalked (heap : Heap) (root : ℕ) (found : List Found) : Type 0 where
  pub fuel : ℕ
  pub walked : walk fuel heap (plainly Key root) ≡ Some found
  pub once : Pairwise AreApart found
  pub there : AllByRecursion (λ (f : Found). IsSome (heap f.offset)) found

-- what the walk of an image named, where it met no fault, is what a hive's own walk names
pub walked-back : (heap : Heap) (minor levels root : ℕ) (u : Unit {0}) (after : Seen) → (minor == 3) ≡ false →
    key_from heap minor levels [] root_path root nothing ≡ Ok (u, after) → IsWalked heap root after.found
walked-back heap minor levels root u after new e =
    let w = key-back heap minor new levels [] root_path root nothing u after e in
    let o = gather-open (walk w.walks.fuel heap) (plainly Key root) [] w.met w.walks.walked in
    let whole : o.head ≡ w.met = sym (append-nil o.head) ∙ (ap (λ (zs : List Found). o.head ++ zs) (same_Some _ _ o.tail_is) ∙ o.all) in
    record {
      fuel = w.walks.fuel;
      walked = o.head_is ∙ ap Some (whole ∙ sym w.found);
      once = w.apart tt;
      there = subst (λ (zs : List Found). AllByRecursion (λ (f : Found). IsSome (heap f.offset)) zs) (sym w.found) w.there;
    }
