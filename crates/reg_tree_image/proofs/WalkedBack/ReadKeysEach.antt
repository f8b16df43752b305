-- What holds of each key whose walk met no fault holds of each that the walk noted.
use Rattle.std.proofs.Common.{◌≡◌, ℕ, zero, suc, ◌==◌, nat_lt, false, Some, Ok, List, [], ◌∷◌, sym, subst}
use Rattle.std.specs.Prelude.{IsSome}
use Rattle.std.specs.List.{AllByRecursion}
use Rattle.reg_heap.specs.Edits.{child_path}
use Rattle.reg_heap.specs.Heaps.{Heap}
use Rattle.reg_heap.specs.Paths.{Path}
use Rattle.reg_records.specs.KeyNodes.{KeyRecord}
use Rattle.reg_records.specs.KeySecurities.{security_at}
use Rattle.reg_records.specs.SubkeyLists.{Entry, Form, SubkeysList}
use Rattle.reg_records.specs.declared.lists.ListForm.TheVariants.{IndexRoot, IndexLeaf, FastLeaf, HashLeaf}
use Rattle.reg_shape.specs.Nodes.{Node, look}
use Rattle.reg_tree_image.specs.declared.LoadFault.TheVariants.{Limit}
use Rattle.reg_tree_image.specs.Images.{nothing}
use Rattle.reg_tree_image.specs.Internal.KeysNamed.{key_offsets}
use Rattle.reg_tree_image.specs.WalkSteps.{Seen, Step, ◌>>=◌, ◌>>◌, give, check}
use Rattle.reg_tree_image.specs.LoadingWalk.{root_path, keys_each, head_from, leaf_from, lists_each, listed_as, list_from, subkeys_from, rest_from, key_from}
use Rattle.reg_tree_image.proofs.WalkedBack.BackSteps.{bind-back, check-back, give-back, all-both}
use Rattle.reg_tree_image.proofs.WalkedBack.KeyOffsets.{list-keys, leaf-keys, head-keys, rest-keys}
use Rattle.reg_tree_image.proofs.WalkedBack.ReadKeysNodes.{IsMet, key-read}

module _ (P : ℕ → Type 0) where
  -- it holds of each key that was noted
  abbrev pub Holds : Seen → Type 0
  Holds seen = AllByRecursion P (key_offsets seen.found)

  holds-same : (a b : Seen) → key_offsets b.found ≡ key_offsets a.found → Holds a → Holds b
  holds-same a b same h = subst (AllByRecursion P) (sym same) h

  module _ (heap : Heap) (go : ℕ → Step (Unit {0})) (path : List ℕ)
      (each : (offset : ℕ) (seen : Seen) (u : Unit {0}) (after : Seen) → go offset seen ≡ Ok (u, after) → Holds seen → Holds after) where
    keys-hold : (entries : List Entry) (n : ℕ) (seen : Seen) (y : ℕ) (after : Seen) → keys_each go n entries seen ≡ Ok (y, after) → Holds seen → Holds after
    keys-hold [] n seen y after e h = subst Holds (give-back n seen y after e).1 h
    keys-hold (entry ∷ entries) n seen y after e h =
        let rest = keys_each go (suc n) entries in
        let k = check-back Limit (nat_lt n 60000) (go entry.offset >> rest) seen y after e in
        let o = bind-back (go entry.offset) (λ _. rest) seen y after k.1 in
        keys-hold entries (suc n) o.mid y after o.then_is (each entry.offset seen o.first o.mid o.first_is h)

    lists-hold : (entries : List Entry) (n : ℕ) (seen : Seen) (y : Unit {0}) (after : Seen) → lists_each heap go path n entries seen ≡ Ok (y, after) → Holds seen → Holds after
    lists-hold [] n seen y after e h = subst Holds (give-back tt seen y after e).1 h
    lists-hold (entry ∷ entries) n seen y after e h =
        let last = λ (m : ℕ). lists_each heap go path m entries in
        let below = λ (list : SubkeysList). keys_each go n list.entries >>= last in
        let o = bind-back (leaf_from heap path entry.offset) below seen y after e in
        let m = bind-back (keys_each go n o.first.entries) last o.mid y after o.then_is in
        lists-hold entries m.first m.mid y after m.then_is
        (keys-hold o.first.entries n o.mid m.first m.mid m.first_is (holds-same seen o.mid (leaf-keys heap path entry.offset seen o.first o.mid o.first_is) h))

    plain-hold : (entries : List Entry) (seen : Seen) (y : Unit {0}) (after : Seen) → (keys_each go 0 entries >> give tt) seen ≡ Ok (y, after) → Holds seen → Holds after
    plain-hold entries seen y after e h =
        let o = bind-back (keys_each go 0 entries) (λ _. give tt) seen y after e in
        subst Holds (give-back tt o.mid y after o.then_is).1 (keys-hold entries 0 seen o.first o.mid o.first_is h)

    listed-hold : (form : Form) (entries : List Entry) (seen : Seen) (y : Unit {0}) (after : Seen) → listed_as heap go path entries form seen ≡ Ok (y, after) → Holds seen → Holds after
    listed-hold IndexRoot entries seen y after e h = lists-hold entries 0 seen y after e h
    listed-hold IndexLeaf entries seen y after e h = plain-hold entries seen y after e h
    listed-hold FastLeaf entries seen y after e h = plain-hold entries seen y after e h
    listed-hold HashLeaf entries seen y after e h = plain-hold entries seen y after e h

    subkeys-hold : (count offset : ℕ) (seen : Seen) (y : Unit {0}) (after : Seen) → subkeys_from heap go path count offset seen ≡ Ok (y, after) → Holds seen → Holds after
    subkeys-hold zero offset seen y after e h = subst Holds (give-back tt seen y after e).1 h
    subkeys-hold (suc n) offset seen y after e h =
        let o = bind-back (list_from heap path offset) (λ list. listed_as heap go path list.entries list.form) seen y after e in
        listed-hold o.first.form o.first.entries o.mid y after o.then_is (holds-same seen o.mid (list-keys heap path offset seen o.first o.mid o.first_is) h)

  module _ (heap : Heap) (minor : ℕ) (new : (minor == 3) ≡ false) (one : (offset : ℕ) → IsMet heap minor offset → P offset) where
    -- what holds of each key whose walk meets no fault holds of each that such a walk notes
    pub each-walked : (levels : ℕ) (path : List ℕ) (here : List ℕ → Path) (offset : ℕ) (before : Seen) (u : Unit {0}) (after : Seen) →
        key_from heap minor levels path here offset before ≡ Ok (u, after) → Holds before → Holds after
    unfolding key_from
    each-walked zero path here offset before u after e h =
        let o = bind-back (head_from heap path here offset) (λ head. check Limit false) before u after e in
        absurd (cc (o.then_is))
    each-walked (suc levels) path here offset before u after e h =
        let down = offset ∷ path in
        let go = λ (head : KeyRecord × List ℕ). key_from heap minor levels down (child_path (here head.1)) in
        let below = λ (head : KeyRecord × List ℕ). subkeys_from heap (go head) down head.0.fields.subkeys head.0.fields.subkeys_list in
        let whole = λ (head : KeyRecord × List ℕ). rest_from heap minor down (here head.1) head.0 head.1 >> below head in
        let o = bind-back (head_from heap path here offset) whole before u after e in
        let key = o.first.0 in
        let r = bind-back (rest_from heap minor down (here o.first.1) key o.first.1) (λ _. below o.first) o.mid u after o.then_is in
        let it = one offset (record { levels = suc levels; path = path; here = here; seen = before; end = u; after = after; met = e }) in
        let head : Holds o.mid = subst (AllByRecursion P) (sym (head-keys heap minor new path here offset before o.first o.mid o.first_is))
        (all-both P (key_offsets before.found) (offset ∷ []) h (it, tt)) in
        let told = holds-same o.mid r.mid (rest-keys heap minor new down (here o.first.1) key o.first.1 o.mid r.first r.mid r.first_is) head in
        subkeys-hold heap (go o.first) down (λ k s v a w. each-walked levels down (child_path (here o.first.1)) k s v a w) key.fields.subkeys key.fields.subkeys_list r.mid u after r.then_is told

    pub all-walked : (levels root : ℕ) (u : Unit {0}) (seen : Seen) → key_from heap minor levels [] root_path root nothing ≡ Ok (u, seen) → AllByRecursion P (key_offsets seen.found)
    all-walked levels root u seen e = each-walked levels [] root_path root nothing u seen e tt

-- ---- securities

-- a key reads, and so does its security
abbrev pub IsSecured : Heap → ℕ → Type 0
IsSecured heap offset = (node : Node) × (look heap offset ≡ Some node) × IsSome (security_at heap node.key.fields.security)

secured-read : (heap : Heap) (minor : ℕ) → (minor == 3) ≡ false → (offset : ℕ) → IsMet heap minor offset → IsSecured heap offset
secured-read heap minor new offset m = let k = key-read heap minor new offset m in (k.node, k.seen, k.secured)

pub secured-back : (heap : Heap) (minor : ℕ) → (minor == 3) ≡ false → (levels : ℕ) (path : List ℕ) (here : List ℕ → Path) (offset : ℕ) (before after : Seen) →
    key_from heap minor levels path here offset before ≡ Ok (tt, after) → AllByRecursion (IsSecured heap) (key_offsets before.found) →
    AllByRecursion (IsSecured heap) (key_offsets after.found)
secured-back heap minor new levels path here offset before after e h =
    each-walked (IsSecured heap) heap minor new (secured-read heap minor new) levels path here offset before tt after e h

-- each key that a whole walk noted
pub all-secured : (heap : Heap) (minor : ℕ) → (minor == 3) ≡ false → (levels root : ℕ) (seen : Seen) → key_from heap minor levels [] root_path root nothing ≡ Ok (tt, seen) →
    AllByRecursion (IsSecured heap) (key_offsets seen.found)
all-secured heap minor new levels root seen e = all-walked (IsSecured heap) heap minor new (secured-read heap minor new) levels root tt seen e
