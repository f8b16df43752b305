-- What the walk along a path reads of the key that it comes to, where the key is listed: its values as loading reads them, and the names
-- of the keys right below it, of which nothing else is read but their records (Suhanov, Windows registry file format specification,
-- "Key node", "Subkeys list").
use Rattle.std.specs.Prelude.{◌≡◌, ℕ, zero, suc, Option, Some, None, List, [], ◌∷◌, ◌++◌, length, map}
use Rattle.std.specs.List.Sorted.{IsPermutation, IsSortedBy}
use Rattle.std.specs.Option.{option_map}
use Rattle.std.specs.Ordering.{is_lt}
use Rattle.std.specs.FinMap.{get}
use Rattle.reg_names.specs.Names.{folded, name_cmp}
use Rattle.reg_heap.specs.Paths.{Path, Rec, Tree, Member, children_of}
use Rattle.reg_heap.specs.Heaps.{Heap}
use Rattle.reg_records.specs.declared.lists.ListForm.TheVariants.{IndexRoot, IndexLeaf, FastLeaf, HashLeaf}
use Rattle.reg_records.specs.SubkeyLists.{Entry, Form}
use Rattle.reg_tree_image.specs.WalkSteps.{Step, ◌>>=◌, give}
use Rattle.reg_tree_image.specs.LoadingWalk.{named_key, list_from, leaf_from, values_from}
use Rattle.reg_tree_image.specs.PathWalk.{Reached, key_of_path}

-- a key's values, and the names of the keys right below it
pub record KeyRead : Type 0 where
  pub values : List Member
  pub subkeys : List (List ℕ)

module _ (heap : Heap) where
  -- the names of these keys, behind those before
  abbrev pub names_each : List ℕ → List (List ℕ) → List Entry → Step (List (List ℕ))
  names_each path before [] = give before
  names_each path before (e ∷ entries) = do
    head ← named_key heap path e.offset
    names_each path (before ++ head.1 ∷ []) entries

  -- those in the lists of an index root, each in turn
  abbrev pub names_in_lists : List ℕ → List (List ℕ) → List Entry → Step (List (List ℕ))
  names_in_lists path before [] = give before
  names_in_lists path before (e ∷ entries) = do
    list ← leaf_from heap path e.offset
    names ← names_each path before list.entries
    names_in_lists path names entries

  abbrev pub names_as : List ℕ → List (List ℕ) → List Entry → Form → Step (List (List ℕ))
  names_as path before entries IndexRoot = names_in_lists path before entries
  names_as path before entries IndexLeaf = names_each path before entries
  names_as path before entries FastLeaf = names_each path before entries
  names_as path before entries HashLeaf = names_each path before entries

  -- those of a key's subkeys, from their number, which is only tested for 0, and the offset of their list
  abbrev pub subkey_names : List ℕ → List (List ℕ) → ℕ → ℕ → Step (List (List ℕ))
  subkey_names path before zero offset = give before
  subkey_names path before (suc n) offset = do
    list ← list_from heap path offset
    names_as path before list.entries list.form

module _ (heap : Heap) (minor : ℕ) where
  -- a key that was come to, read: its values first
  abbrev pub key_read : Reached → Step KeyRead
  key_read at = do
    values ← values_from heap minor (at.offset ∷ at.above) at.key.fields.values at.key.fields.values_list
    subkeys ← subkey_names heap (at.offset ∷ at.above) [] at.key.fields.subkeys at.key.fields.subkeys_list
    give (record { values = values; subkeys = subkeys })

  abbrev pub reached_read : Option Reached → Step (Option KeyRead)
  reached_read None = give None
  reached_read (Some at) = do
    key ← key_read at
    give (Some key)

  -- the key at a path of names below the root; nothing where there is no such key
  abbrev pub key_on_path : List (List ℕ) → ℕ → Step (Option KeyRead)
  key_on_path names root = do
    found ← key_of_path heap names root
    reached_read found

-- a value as a line of a listing tells it
pub record ListedMember : Type 0 where
  pub name : List ℕ
  pub kind : ℕ
  pub size : ℕ

abbrev pub listed_member : Member → ListedMember
listed_member value = record { name = value.name; kind = value.kind; size = length value.bytes }

-- a key as it is listed: its values in their order, and the names of the keys right below it in the order of their folded forms
pub record Listing : Type 0 where
  pub values : List ListedMember
  pub subkeys : List (List ℕ)

-- these names put into the order of their folded forms
pub record AreInOrder (names sorted : List (List ℕ)) : Type 0 where
  pub moved : IsPermutation names sorted
  pub rising : IsSortedBy (λ a b. is_lt (name_cmp a b)) sorted

-- a key that was read, as it is listed
pub record IsListing (key : KeyRead) (listing : Listing) : Type 0 where
  pub values : listing.values ≡ map listed_member key.values
  pub subkeys : AreInOrder key.subkeys listing.subkeys

abbrev pub IsListed : Option KeyRead → Option Listing → Type 0
IsListed None None = Unit {0}
IsListed None (Some listing) = ⊥
IsListed (Some key) None = ⊥
IsListed (Some key) (Some listing) = IsListing key listing

-- the name of a key that was found
abbrev pub name_found : Option Rec → List ℕ
name_found None = []
name_found (Some key) = key.name

-- the names of the keys right below the one at a path, in the order of their folded forms
abbrev pub names_below : Tree → Path → List (List ℕ)
names_below tree path = map (λ child. name_found (get tree child)) (children_of tree path)

-- what is listed of the key at a path of a tree; nothing where it has no such key
abbrev pub listing_in_tree : Tree → List (List ℕ) → Option Listing
listing_in_tree tree names =
    option_map (λ (rec : Rec). record { values = map listed_member rec.values; subkeys = names_below tree (map folded names) })
    (get tree (map folded names))

-- whatever is listed of what was read there is that
abbrev pub ListsAs : Tree → List (List ℕ) → Option KeyRead → Type 0
ListsAs tree names found = (listing : Option Listing) → IsListed found listing → listing ≡ listing_in_tree tree names
