-- Where the walk that loads an image fails. Each line stands beside one of the walk's own definitions, whose step says whether it fails
-- (Suhanov, Windows registry file format specification, "Hive bin", "Cell", "Key node", "Key values list", "Subkeys list").
use Rattle.std.specs.Prelude.{◌≡◌, ◌<◌, ◌≤◌, ◌⊎◌, ℕ, zero, suc, ◌+◌, nat_le, nat_lt, ◌||◌, not, cond, is_some, Option, Some, None, Result}
use Rattle.std.specs.Prelude.{Ok, Err, List, [], ◌∷◌, ◌++◌, length, map, take, drop, reverse, vec_items}
use Rattle.std.specs.Option.{option_map}
use Rattle.std.specs.List.{list_any}
use Rattle.std.specs.Io.KnownBytes.{Consumes, IsAtEnd}
use Rattle.reg_names.specs.declared.TheConstants.{PATH_LIMIT}
use Rattle.reg_names.specs.Names.{text_of}
use Rattle.reg_heap.specs.declared.limits.TheConstants.{BINS_LIMIT, DATA_LIMIT, SUBKEYS_LIMIT, VALUES_LIMIT}
use Rattle.reg_heap.specs.ByteWords.{word}
use Rattle.reg_heap.specs.Paths.{Path, Member}
use Rattle.reg_heap.specs.Edits.{child_path}
use Rattle.reg_heap.specs.Heaps.{Heap}
use Rattle.reg_heap.specs.Members.{same_name}
use Rattle.reg_records.specs.BigData.{is_inline}
use Rattle.reg_heap.specs.Kinds.Kind.{ValueList}
use Rattle.reg_arena.specs.Cells.{BinPlace, size_in, choose, cells_from, bins_of, cells_of_bins, content_in}
use Rattle.reg_records.specs.declared.lists.ListForm.TheVariants.{IndexRoot, IndexLeaf, FastLeaf, HashLeaf}
use Rattle.reg_records.specs.declared.nk.KeyFields.{KeyFields}
use Rattle.reg_records.specs.KeyNodes.{KeyRecord}
use Rattle.reg_records.specs.SubkeyLists.{Entry, Form}
use Rattle.reg_tree_image.specs.declared.LoadFault.{LoadFault}
use Rattle.reg_tree_image.specs.declared.LoadFault.TheVariants.{Read, Short, Bins, Cells, Twice, Limit, Memory}
use Rattle.reg_tree_image.specs.declared.block.BaseBlock.{BaseBlock}
use Rattle.reg_tree_image.specs.declared.places.FaultPlace.{FaultPlace}
use Rattle.reg_tree_image.specs.WalkSteps.{Seen, Step, check, given}
use Rattle.reg_tree_image.specs.LoadingWalk.{root_path, keys_each, class_from, descriptor_from, row_from, named_value, data_by, value_from, named_key, head_from, rest_from}
use Rattle.reg_tree_image.specs.LoadingWalk.{leaf_from, list_from, key_from}
use Rattle.reg_tree_image.specs.BaseBlock.{block_walk}
use Rattle.reg_tree_image.specs.Images.{nothing}
use Rattle.reg_tree_image.specs.Loads.{asked_for, HasBlock}
use Rattle.reg_tree_image.specs.Internal.CellScans.{is_header_in, is_size_in}

-- an offset in the bins, and the offsets of the keys at whose reading it is met, from the lowest up to the root. A key's own node is met at
-- the reading of the key above it
pub record Spot : Type 0 where
  pub offset : ℕ
  pub path : List ℕ

-- an offset in the bins, and the path of the key at whose reading it is met: its names as they are spelt, with one backslash between each
-- two, none for the root. There is no such key for a bin, for the size of a cell, and for the root's own node
pub record Place : Type 0 where
  pub offset : ℕ
  pub key : Option (List ℕ)

-- where a part of the walk fails, by what was seen before it; none where it passes
abbrev pub Where : Type 0 → Type 0
Where P = Seen → Option P

abbrev pub nowhere : {P : Type 0} → Where P
nowhere seen = None

-- ---- steps one behind the other

-- a step, and where it is that it fails, if it does
pub record Tried (P A : Type 0) : Type 0 where
  pub place : Where P
  pub step : Step A

-- where what follows a result fails; or that place, where there is none
abbrev pub then_place : {P A : Type 0} → Where P → (A → Where P) → Seen → Result (A × Seen) LoadFault → Option P
then_place place then seen (Ok x) = then x.0 x.1
then_place place then seen (Err fault) = place seen

-- where one step fails, or else what its result asks for
infixl 10 ◌>>=◌
abbrev pub ◌>>=◌ : {P A : Type 0} → Tried P A → (A → Where P) → Where P
◌>>=◌ t then seen = then_place t.place then seen (t.step seen)

-- where one step fails, or else what follows it
infixl 10 ◌>>◌
abbrev pub ◌>>◌ : {P A : Type 0} → Tried P A → Where P → Where P
◌>>◌ t then seen = then_place t.place (λ _. then) seen (t.step seen)

-- an offset, at the reading of the lowest key of a path
abbrev pub spot : List ℕ → ℕ → Where Spot
spot path offset seen = Some (record { offset = offset; path = path })

-- a step that fails there
abbrev pub at_offset : {A : Type 0} → List ℕ → ℕ → Step A → Tried Spot A
at_offset path offset step = record { place = spot path offset; step = step }

-- a step that fails where its own parts do
abbrev pub in_part : {P A : Type 0} → Where P → Step A → Tried P A
in_part place step = record { place = place; step = step }

-- ---- the keys of lists: `go` walks one to its end, and `goes` is where that fails

-- the keys of a list; one too many fails at its own node
abbrev pub keys_spot : (ℕ → Step (Unit {0})) → (ℕ → Where Spot) → List ℕ → ℕ → List Entry → Where Spot
keys_spot go goes path n [] = nowhere
keys_spot go goes path n (e ∷ entries) = do
  at_offset path e.offset (check Limit (nat_lt n SUBKEYS_LIMIT))
  in_part (goes e.offset) (go e.offset)
  keys_spot go goes path (suc n) entries

module _ (heap : Heap) where
  -- the lists of an index root
  abbrev pub lists_spot : (ℕ → Step (Unit {0})) → (ℕ → Where Spot) → List ℕ → ℕ → List Entry → Where Spot
  lists_spot go goes path n [] = nowhere
  lists_spot go goes path n (e ∷ entries) = do
    list ← at_offset path e.offset (leaf_from heap path e.offset)
    m ← in_part (keys_spot go goes path n list.entries) (keys_each go n list.entries)
    lists_spot go goes path m entries

  abbrev pub listed_spot : (ℕ → Step (Unit {0})) → (ℕ → Where Spot) → List ℕ → List Entry → Form → Where Spot
  listed_spot go goes path entries IndexRoot = lists_spot go goes path 0 entries
  listed_spot go goes path entries IndexLeaf = in_part (keys_spot go goes path 0 entries) (keys_each go 0 entries) >> nowhere
  listed_spot go goes path entries FastLeaf = in_part (keys_spot go goes path 0 entries) (keys_each go 0 entries) >> nowhere
  listed_spot go goes path entries HashLeaf = in_part (keys_spot go goes path 0 entries) (keys_each go 0 entries) >> nowhere

  -- a key's subkeys: their list or index root, and then what that names
  abbrev pub subkeys_spot : (ℕ → Step (Unit {0})) → (ℕ → Where Spot) → List ℕ → ℕ → ℕ → Where Spot
  subkeys_spot go goes path zero offset = nowhere
  subkeys_spot go goes path (suc n) offset = do
    list ← at_offset path offset (list_from heap path offset)
    listed_spot go goes path list.entries list.form

-- ---- a key

-- where data stands, of a size and an offset as a value's record has them: in the record, or elsewhere, in one cell or behind a big data
-- record. Data that is too long isn't looked for
abbrev pub data_offset : ℕ → ℕ → ℕ → ℕ
data_offset held size offset = cond (is_inline size || nat_lt DATA_LIMIT size) held offset

module _ (heap : Heap) (minor : ℕ) where
  -- a value: its record and its name fail at the record; its data where that stands
  abbrev pub value_spot : List ℕ → List Member → ℕ → Where Spot
  value_spot path before offset = do
    value ← at_offset path offset (named_value heap path offset)
    at_offset path offset (check Twice (not (list_any (λ (m : Member). same_name m.name value.1) before)))
    at_offset path (data_offset offset value.0.fields.size value.0.fields.offset)
        (data_by heap minor path (is_inline value.0.fields.size) value.0.fields.size value.0.fields.offset)
    nowhere

  -- the values at these offsets
  abbrev pub values_spot : List ℕ → List Member → List ℕ → Where Spot
  values_spot path before [] = nowhere
  values_spot path before (offset ∷ offsets) = do
    member ← in_part (value_spot path before offset) (value_from heap minor path before offset)
    values_spot path (before ++ member ∷ []) offsets

  -- a key's values: their list, also where it counts too many, and then each
  abbrev pub value_list_spot : List ℕ → ℕ → ℕ → Where Spot
  value_list_spot path zero offset = nowhere
  value_list_spot path (suc n) offset = do
    at_offset path offset (check Limit (nat_le (suc n) VALUES_LIMIT))
    row ← at_offset path offset (row_from heap path ValueList (suc n) offset)
    values_spot path [] row

  -- a key's class, its security and its values
  abbrev pub parts_spot : List ℕ → KeyFields → Where Spot
  parts_spot path key = do
    at_offset path key.class (class_from heap path key.class_length key.class)
    at_offset path key.security (descriptor_from heap path key.security)
    value_list_spot path key.values key.values_list

  -- a key and all below it: its record, its name and its depth fail at its node, at the reading of the key above it
  unfoldable pub key_spot : ℕ → List ℕ → (List ℕ → Path) → ℕ → Where Spot
  key_spot zero path here offset = spot path offset
  key_spot (suc levels) path here offset = do
    head ← at_offset path offset (head_from heap path here offset)
    let at = here head.1 in do
      in_part (parts_spot (offset ∷ path) head.0.fields) (rest_from heap minor (offset ∷ path) at head.0 head.1)
      subkeys_spot heap (key_from heap minor levels (offset ∷ path) (child_path at)) (key_spot levels (offset ∷ path) (child_path at)) (offset ∷ path) head.0.fields.subkeys head.0.fields.subkeys_list

-- ---- names

abbrev pub name_in : Result ((KeyRecord × List ℕ) × Seen) LoadFault → List ℕ
name_in (Ok x) = x.0.1
name_in (Err fault) = []

-- the name of the key whose node stands at an offset, as it is spelt
abbrev pub name_there : Heap → ℕ → List ℕ
name_there heap offset = name_in (named_key heap [] offset nothing)

-- the names of the keys of a path, from the highest on, without the root's
abbrev pub names_on : Heap → List ℕ → List (List ℕ)
names_on heap path = map (name_there heap) (drop 1 (reverse path))

-- the path of the lowest key, where there is one
abbrev pub key_text : Heap → List ℕ → Option (List ℕ)
key_text heap [] = None
key_text heap (offset ∷ path) = Some (text_of (names_on heap (offset ∷ path)))

abbrev pub place_at : Heap → Spot → Place
place_at heap spot = record { offset = spot.offset; key = key_text heap spot.path }

-- a place as it is told
abbrev pub place_in : FaultPlace → Place
place_in place = record { offset = place.offset; key = option_map vec_items place.key }

-- ---- bins and cells

-- from a place on, bin by bin, the first place where no good header stands
abbrev pub headers_end : ℕ → List ℕ → ℕ → ℕ
headers_end zero bins at = at
headers_end (suc steps) bins at = choose (is_header_in bins at) (λ _. headers_end steps bins (at + word bins (at + 8))) (λ _. at)

-- from a place on, cell by cell, the first place where no good size stands, in a bin that ends at `stop`
abbrev pub sizes_end : ℕ → List ℕ → ℕ → ℕ → ℕ
sizes_end zero bins at stop = at
sizes_end (suc steps) bins at stop =
    choose (is_size_in (size_in (word bins at)) at stop) (λ _. sizes_end steps bins (at + size_in (word bins at)) stop) (λ _. at)

-- the first bad header
abbrev pub bad_bin : List ℕ → ℕ
bad_bin bins = headers_end (suc (length bins)) bins 0

-- the first bad size, in the first of these bins that has one
abbrev pub bad_cell : List ℕ → List BinPlace → Option ℕ
bad_cell bins [] = None
bad_cell bins (bin ∷ rest) =
    choose (is_some (cells_from (suc bin.size) bins (bin.start + 32) (bin.start + bin.size))) (λ _. bad_cell bins rest)
    (λ _. Some (sizes_end (suc bin.size) bins (bin.start + 32) (bin.start + bin.size)))

-- a place in no key
abbrev pub keyless : ℕ → Place
keyless offset = record { offset = offset; key = None }

abbrev pub bin_place : List ℕ → Where Place
bin_place bins seen = Some (keyless (bad_bin bins))

abbrev pub cell_place : List ℕ → List BinPlace → Where Place
cell_place bins places seen = option_map keyless (bad_cell bins places)

-- ---- the image

-- the keys of a heap, from the root at an offset on
abbrev pub root_place : Heap → ℕ → ℕ → Where Place
root_place heap minor root seen = option_map (place_at heap) (key_spot heap minor (suc PATH_LIMIT) [] root_path root seen)

-- the hive in the bins: a bin, a cell, or a key
unfoldable pub hive_place : List ℕ → ℕ → ℕ → Where Place
hive_place bins minor root = do
  places ← in_part (bin_place bins) (given Bins (bins_of bins))
  cells ← in_part (cell_place bins places) (given Cells (cells_of_bins bins places))
  in_part (root_place (content_in bins cells) minor root) (key_from (content_in bins cells) minor (suc PATH_LIMIT) [] root_path root)
  nowhere

-- an image: nowhere in the bins, where it ends too early or its base block fails
unfoldable pub image_place : List ℕ → Where Place
image_place bytes = do
  in_part nowhere (check Short (nat_le 4096 (length bytes)))
  block ← in_part nowhere (block_walk bytes)
  in_part nowhere (check Short (nat_le (4096 + block.size) (length bytes)))
  hive_place (take block.size (drop 4096 bytes)) block.minor block.root

-- the place in the bins of an image where the first test fails, if one fails there
unfoldable pub place_of : List ℕ → Option Place
place_of bytes = image_place bytes nothing

-- the base block of an image passes its tests, and all its bins are there
pub record HasBins (image : List ℕ) : Type 0 where
  pub block : BaseBlock
  pub passes : block_walk image nothing ≡ Ok (block, nothing)
  pub whole : 4096 ≤ length image
  pub long : 4096 + block.size ≤ length image

-- ---- what comes of looking for it

-- of the input so much of an image was read as its tests ask for, or all that there is; this is the place of its fault
pub record Locates (unread left : Option (List ℕ)) (place : Option Place) : Type 0 where
  pub image : List ℕ
  pub consumed : Consumes unread left image
  pub read : (length image ≡ asked_for image) ⊎ ((length image < asked_for image) × IsAtEnd left)
  pub is : place ≡ place_of image

-- a read failed before all was read that is asked for; or memory lacked, once the base block had passed its tests
abbrev pub IsUnlocated : LoadFault → List ℕ → Type 0
IsUnlocated Read image = length image < asked_for image
IsUnlocated Memory image = (length image ≤ asked_for image) × HasBlock image
IsUnlocated fault image = ⊥

-- so much of the input was read by then
pub record NotLocated (fault : LoadFault) (unread left : Option (List ℕ)) : Type 0 where
  pub image : List ℕ
  pub consumed : Consumes unread left image
  pub within : length image ≤ 4096 + BINS_LIMIT
  pub why : IsUnlocated fault image
