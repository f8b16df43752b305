-- The keys that the walk tells before it ends, whatever it meets behind them (Suhanov, Windows registry file format specification,
-- "Key node", "Subkeys list").
use Rattle.std.specs.Prelude.{◌≡◌, ◌<◌, ◌⊎◌, ℕ, zero, suc, Ok, List, [], ◌∷◌}
use Rattle.reg_heap.specs.declared.limits.TheConstants.{SUBKEYS_LIMIT}
use Rattle.reg_heap.specs.Heaps.{Heap}
use Rattle.reg_heap.specs.Paths.{Path}
use Rattle.reg_heap.specs.Edits.{child_path}
use Rattle.reg_records.specs.KeyNodes.{KeyRecord}
use Rattle.reg_records.specs.SubkeyLists.{Entry, Form, SubkeysList}
use Rattle.reg_records.specs.declared.lists.ListForm.TheVariants.{IndexRoot, IndexLeaf, FastLeaf, HashLeaf}
use Rattle.reg_tree_image.specs.WalkSteps.{Seen, Step}
use Rattle.reg_tree_image.specs.LoadingWalk.{keys_each, leaf_from, list_from, head_from, rest_from, key_from}

-- `after` is what was seen when a key has just been told. Each of these says that a part of the walk, from what was seen before it, meets
-- no fault until then; `go` walks a key of a list to its end, and `comes` says the same of the walk of a key of a list
module _ (heap : Heap) (after : Seen) where
  -- one of the keys of a list, those before it walked to their ends; n counts the subkeys
  abbrev pub ComesInKeys : (ℕ → Step (Unit {0})) → (ℕ → Seen → Type 0) → ℕ → List Entry → Seen → Type 0
  ComesInKeys go comes n [] seen = ⊥
  ComesInKeys go comes n (e ∷ entries) seen =
      (n < SUBKEYS_LIMIT)
      × (comes e.offset seen ⊎ ((then : Seen) × (go e.offset seen ≡ Ok (tt, then)) × ComesInKeys go comes (suc n) entries then))

  -- a key of one of an index root's lists, those before it walked to their ends
  abbrev pub ComesInLists : (ℕ → Step (Unit {0})) → (ℕ → Seen → Type 0) → List ℕ → ℕ → List Entry → Seen → Type 0
  ComesInLists go comes path n [] seen = ⊥
  ComesInLists go comes path n (e ∷ entries) seen =
      (list : SubkeysList) × (read : Seen) × (leaf_from heap path e.offset seen ≡ Ok (list, read))
      × (ComesInKeys go comes n list.entries read
      ⊎ ((m : ℕ) × (then : Seen) × (keys_each go n list.entries read ≡ Ok (m, then)) × ComesInLists go comes path m entries then))

  abbrev pub ComesListed : (ℕ → Step (Unit {0})) → (ℕ → Seen → Type 0) → List ℕ → List Entry → Form → Seen → Type 0
  ComesListed go comes path entries IndexRoot seen = ComesInLists go comes path 0 entries seen
  ComesListed go comes path entries IndexLeaf seen = ComesInKeys go comes 0 entries seen
  ComesListed go comes path entries FastLeaf seen = ComesInKeys go comes 0 entries seen
  ComesListed go comes path entries HashLeaf seen = ComesInKeys go comes 0 entries seen

  -- a key's subkeys
  abbrev pub ComesBelow : (ℕ → Step (Unit {0})) → (ℕ → Seen → Type 0) → List ℕ → ℕ → ℕ → Seen → Type 0
  ComesBelow go comes path zero offset seen = ⊥
  ComesBelow go comes path (suc n) offset seen =
      (list : SubkeysList) × (read : Seen) × (list_from heap path offset seen ≡ Ok (list, read))
      × ComesListed go comes path list.entries list.form read

module _ (heap : Heap) (minor : ℕ) (after : Seen) where
  -- a key's own record, class, descriptor and values meet no fault, and then it is told; or later one below it is
  unfoldable pub Comes : ℕ → List ℕ → (List ℕ → Path) → ℕ → Seen → Type 0
  Comes zero path here offset seen = ⊥
  Comes (suc levels) path here offset seen =
      (head : KeyRecord × List ℕ) × (named : Seen) × (told : Seen)
      × (head_from heap path here offset seen ≡ Ok (head, named))
      × (rest_from heap minor (offset ∷ path) (here head.1) head.0 head.1 named ≡ Ok (tt, told))
      × ((after ≡ told) ⊎ ComesBelow heap after (key_from heap minor levels (offset ∷ path) (child_path (here head.1)))
      (Comes levels (offset ∷ path) (child_path (here head.1))) (offset ∷ path)
      head.0.fields.subkeys head.0.fields.subkeys_list told)
