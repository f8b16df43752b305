-- There is a place in the bins of an image just where a test fails there.
use Rattle.std.proofs.Common.{◌≡◌, Bool, true, false, ℕ, zero, suc, ◌+◌, ◌≤◌, nat_le, nat_lt, not, is_some, Option, Some, None, Result, Ok, Err}
use Rattle.std.proofs.Common.{IsOk, List, [], ◌∷◌, ◌++◌, length, take, drop, refl, sym, ap, ◌∙◌, subst, arith}
use Rattle.std.specs.Option.{option_map}
use Rattle.std.specs.List.{list_any}
use Rattle.std.proofs.lemmas.Bool.Decides.{nat_tests}
use Rattle.reg_names.specs.declared.TheConstants.{PATH_LIMIT}
use Rattle.reg_heap.specs.declared.limits.TheConstants.{SUBKEYS_LIMIT, VALUES_LIMIT}
use Rattle.reg_heap.specs.Heaps.{Heap}
use Rattle.reg_heap.specs.Members.{same_name}
use Rattle.reg_heap.specs.Kinds.Kind.{ValueList}
use Rattle.reg_heap.specs.Paths.{Path, Member}
use Rattle.reg_heap.specs.Edits.{child_path}
use Rattle.reg_arena.specs.declared.Cell.{Cell}
use Rattle.reg_arena.specs.Cells.{BinPlace, cells_from, bins_of, cells_of_bins, joined, content_in}
use Rattle.reg_records.specs.declared.lists.ListForm.TheVariants.{IndexRoot, IndexLeaf, FastLeaf, HashLeaf}
use Rattle.reg_records.specs.declared.nk.KeyFields.{KeyFields}
use Rattle.reg_records.specs.BigData.{is_inline}
use Rattle.reg_records.specs.KeyNodes.{KeyRecord}
use Rattle.reg_records.specs.KeyValues.{KeyValueRecord}
use Rattle.reg_records.specs.SubkeyLists.{Entry, Form, SubkeysList}
use Rattle.reg_shape.specs.Nodes.{member_of}
use Rattle.reg_shape.specs.Spelt.{marks_of}
use Rattle.reg_tree_image.specs.declared.LoadFault.{LoadFault}
use Rattle.reg_tree_image.specs.declared.LoadFault.TheVariants.{Short, Twice, Bins, Cells, Limit}
use Rattle.reg_tree_image.specs.declared.block.BaseBlock.{BaseBlock}
use Rattle.reg_tree_image.specs.WalkSteps.{Seen, Step, ◌>>=◌, ◌>>◌, onward, give, check, given, tell}
use Rattle.reg_tree_image.specs.LoadingWalk.{root_path, keys_each, lists_each, leaf_from, list_from, listed_as, subkeys_from, class_from, descriptor_from, row_from, named_value, data_by, value_from}
use Rattle.reg_tree_image.specs.LoadingWalk.{values_each, values_from, parts_from, rest_from, head_from, key_from}
use Rattle.reg_tree_image.specs.BaseBlock.{block_walk}
use Rattle.reg_tree_image.specs.Images.{nothing, bins_walk, image_walk, tree_in, fault_in, loaded, fault_of}
use Rattle.reg_tree_image.specs.FaultPlaces.{Spot, Place, Where, nowhere, then_place, spot, keys_spot, lists_spot, listed_spot, subkeys_spot}
use Rattle.reg_tree_image.specs.FaultPlaces.{data_offset, value_spot, values_spot, value_list_spot, parts_spot, key_spot, place_at, keyless, bad_cell, bin_place, cell_place, root_place}
use Rattle.reg_tree_image.specs.FaultPlaces.{hive_place, image_place, place_of, HasBins}
use Rattle.reg_tree_image.proofs.Devices.BlockTests.{block-names-nothing}
use Rattle.reg_tree_image.proofs.Devices.LoadedImages.{at-least}

-- ---- steps and their places

-- there is a place where there is a fault, and none where there is a result
abbrev AgreeAt : {P A : Type 0} → Result (A × Seen) LoadFault → Option P → Type 0
AgreeAt (Ok x) place = is_some place ≡ false
AgreeAt (Err fault) place = is_some place ≡ true

abbrev Agree : {P A : Type 0} → Step A → Where P → Type 0
Agree step place = (seen : Seen) → AgreeAt (step seen) (place seen)

agree-give : {A : Type 0} (x : A) → Agree {P = Spot} {A = A} (give x) nowhere
agree-give x seen = refl

agree-done : Agree {P = Spot} {A = Unit {0}} (give tt) nowhere
agree-done seen = refl

module _ {P A B : Type 0} (f : A → Step B) (g : A → Where P) (then : (x : A) → Agree (f x) (g x)) where
  agree-then : (step : Step A) (place : Where P) → ((seen : Seen) (fault : LoadFault) → step seen ≡ Err fault → is_some (place seen) ≡ true) →
      Agree (λ seen. onward f (step seen)) (λ seen. then_place place g seen (step seen))
  agree-then step place fails seen = by (step seen) (fails seen)
    where
      by : (r : Result (A × Seen) LoadFault) → ((fault : LoadFault) → r ≡ Err fault → is_some (place seen) ≡ true) →
          AgreeAt (onward f r) (then_place place g seen r)
      by (Ok x) h = then x.0 x.1
      by (Err fault) h = h fault refl

  -- a step that agrees with its place
  agree-in : (step : Step A) (place : Where P) → Agree step place → Agree (λ seen. onward f (step seen)) (λ seen. then_place place g seen (step seen))
  agree-in step place agree =
      agree-then step place (λ seen fault e. subst (λ r. AgreeAt r (place seen)) e (agree seen))

-- a step that fails at an offset
agree-at : {A B : Type 0} (f : A → Step B) (g : A → Where Spot) → ((x : A) → Agree (f x) (g x)) → (path : List ℕ) (offset : ℕ) (step : Step A) →
    Agree (λ seen. onward f (step seen)) (λ seen. then_place (spot path offset) g seen (step seen))
agree-at f g then path offset step = agree-then f g then step (spot path offset) (λ seen fault e. refl)

-- what follows has no fault
agree-end : {P A B : Type 0} (f : A → Step B) → ((x : A) (seen : Seen) → IsOk (f x seen)) → (step : Step A) (place : Where P) → Agree step place →
    Agree (λ seen. onward f (step seen)) place
agree-end {P} {A} {B} f fine step place agree seen = by (step seen) (agree seen)
  where
    last : (r : Result (B × Seen) LoadFault) → IsOk r → is_some (place seen) ≡ false → AgreeAt r (place seen)
    last (Ok x) k n = n
    last (Err fault) k n = absurd (cc)

    by : (r : Result (A × Seen) LoadFault) → AgreeAt r (place seen) → AgreeAt (onward f r) (place seen)
    by (Ok x) n = last (f x.0 x.1) (fine x.0 x.1) n
    by (Err fault) n = n

-- ---- the keys of lists

module _ (go : ℕ → Step (Unit {0})) (goes : ℕ → Where Spot) (agree : (o : ℕ) → Agree (go o) (goes o)) where
  agree-keys : (path : List ℕ) (n : ℕ) (entries : List Entry) → Agree (keys_each go n entries) (keys_spot go goes path n entries)
  agree-keys path n [] = agree-give n
  agree-keys path n (e ∷ entries) =
      agree-at (λ _. go e.offset >> keys_each go (suc n) entries)
      (λ _ seen. then_place (goes e.offset) (λ _. keys_spot go goes path (suc n) entries) seen (go e.offset seen))
      (λ _. agree-in (λ _. keys_each go (suc n) entries) (λ _. keys_spot go goes path (suc n) entries) (λ _. agree-keys path (suc n) entries)
      (go e.offset) (goes e.offset) (agree e.offset))
      path e.offset (check Limit (nat_lt n SUBKEYS_LIMIT))

  module _ (heap : Heap) (path : List ℕ) where
    agree-lists : (n : ℕ) (entries : List Entry) → Agree (lists_each heap go path n entries) (lists_spot heap go goes path n entries)
    agree-lists n [] = agree-done
    agree-lists n (e ∷ entries) =
        agree-at (λ (list : SubkeysList). keys_each go n list.entries >>= (λ m. lists_each heap go path m entries))
        (λ (list : SubkeysList) seen. then_place (keys_spot go goes path n list.entries) (λ m. lists_spot heap go goes path m entries) seen
        (keys_each go n list.entries seen))
        (λ (list : SubkeysList). agree-in (λ m. lists_each heap go path m entries) (λ m. lists_spot heap go goes path m entries)
        (λ m. agree-lists m entries) (keys_each go n list.entries) (keys_spot go goes path n list.entries) (agree-keys path n list.entries))
        path e.offset (leaf_from heap path e.offset)

    agree-leaf : (entries : List Entry) →
        Agree {P = Spot} {A = Unit {0}} (keys_each go 0 entries >> give tt) (λ seen. then_place (keys_spot go goes path 0 entries) (λ _. nowhere) seen (keys_each go 0 entries seen))
    agree-leaf entries =
        agree-in {A = ℕ} {B = Unit {0}} (λ _. give tt) (λ _. nowhere) (λ _. agree-done) (keys_each go 0 entries) (keys_spot go goes path 0 entries) (agree-keys path 0 entries)

    agree-listed : (entries : List Entry) (form : Form) → Agree (listed_as heap go path entries form) (listed_spot heap go goes path entries form)
    agree-listed entries IndexRoot = agree-lists 0 entries
    agree-listed entries IndexLeaf = agree-leaf entries
    agree-listed entries FastLeaf = agree-leaf entries
    agree-listed entries HashLeaf = agree-leaf entries

    agree-subkeys : (count offset : ℕ) → Agree (subkeys_from heap go path count offset) (subkeys_spot heap go goes path count offset)
    agree-subkeys zero offset = agree-done
    agree-subkeys (suc n) offset =
        agree-at (λ (list : SubkeysList). listed_as heap go path list.entries list.form) (λ (list : SubkeysList). listed_spot heap go goes path list.entries list.form)
        (λ (list : SubkeysList). agree-listed list.entries list.form) path offset (list_from heap path offset)

-- ---- a key

abbrev is_other : List Member → List ℕ → Bool
is_other before name = not (list_any (λ (m : Member). same_name m.name name) before)

abbrev its-offset : ℕ → KeyValueRecord × List ℕ → ℕ
its-offset offset value = data_offset offset value.0.fields.size value.0.fields.offset

module _ (heap : Heap) (minor : ℕ) where
  abbrev its-data : List ℕ → KeyValueRecord × List ℕ → Step (List ℕ)
  its-data path value = data_by heap minor path (is_inline value.0.fields.size) value.0.fields.size value.0.fields.offset

  agree-value : (path : List ℕ) (before : List Member) (offset : ℕ) → Agree (value_from heap minor path before offset) (value_spot heap minor path before offset)
  agree-value path before offset =
      agree-at (λ (value : KeyValueRecord × List ℕ). check Twice (is_other before value.1) >> (its-data path value >>= (λ bytes. give (member_of value.0 bytes))))
      (λ (value : KeyValueRecord × List ℕ) seen. then_place (spot path offset)
      (λ _ seen. then_place (spot path (its-offset offset value)) (λ _. nowhere) seen (its-data path value seen)) seen (check Twice (is_other before value.1) seen))
      (λ (value : KeyValueRecord × List ℕ). agree-at (λ _. its-data path value >>= (λ bytes. give (member_of value.0 bytes)))
      (λ _ seen. then_place (spot path (its-offset offset value)) (λ _. nowhere) seen (its-data path value seen))
      (λ _. agree-at (λ bytes. give (member_of value.0 bytes)) (λ _. nowhere) (λ bytes. agree-give (member_of value.0 bytes))
      path (its-offset offset value) (its-data path value))
      path offset (check Twice (is_other before value.1)))
      path offset (named_value heap path offset)

  agree-values : (path : List ℕ) (before : List Member) (offsets : List ℕ) → Agree (values_each heap minor path before offsets) (values_spot heap minor path before offsets)
  agree-values path before [] = agree-give before
  agree-values path before (offset ∷ offsets) =
      agree-in (λ member. values_each heap minor path (before ++ member ∷ []) offsets) (λ member. values_spot heap minor path (before ++ member ∷ []) offsets)
      (λ member. agree-values path (before ++ member ∷ []) offsets) (value_from heap minor path before offset) (value_spot heap minor path before offset)
      (agree-value path before offset)

  agree-value-list : (path : List ℕ) (count offset : ℕ) → Agree (values_from heap minor path count offset) (value_list_spot heap minor path count offset)
  agree-value-list path zero offset = agree-give {A = List Member} []
  agree-value-list path (suc n) offset =
      agree-at (λ _. row_from heap path ValueList (suc n) offset >>= (λ row. values_each heap minor path [] row))
      (λ _ seen. then_place (spot path offset) (λ row. values_spot heap minor path [] row) seen (row_from heap path ValueList (suc n) offset seen))
      (λ _. agree-at (λ row. values_each heap minor path [] row) (λ row. values_spot heap minor path [] row) (λ row. agree-values path [] row)
      path offset (row_from heap path ValueList (suc n) offset))
      path offset (check Limit (nat_le (suc n) VALUES_LIMIT))

  agree-parts : (path : List ℕ) (key : KeyFields) → Agree (parts_from heap minor path key) (parts_spot heap minor path key)
  agree-parts path key =
      agree-at
      (λ class. descriptor_from heap path key.security >>= (λ descriptor. values_from heap minor path key.values key.values_list
      >>= (λ values. give (class, descriptor, values))))
      (λ _ seen. then_place (spot path key.security) (λ _. value_list_spot heap minor path key.values key.values_list) seen
      (descriptor_from heap path key.security seen))
      (λ class. agree-at (λ descriptor. values_from heap minor path key.values key.values_list >>= (λ values. give (class, descriptor, values)))
      (λ _. value_list_spot heap minor path key.values key.values_list)
      (λ descriptor. agree-end (λ values. give (class, descriptor, values)) (λ values seen. refl) (values_from heap minor path key.values key.values_list)
      (value_list_spot heap minor path key.values key.values_list) (agree-value-list path key.values key.values_list))
      path key.security (descriptor_from heap path key.security))
      path key.class (class_from heap path key.class_length key.class)

  agree-rest : (path : List ℕ) (at : Path) (key : KeyRecord) (name : List ℕ) → Agree (rest_from heap minor path at key name) (parts_spot heap minor path key.fields)
  agree-rest path at key name =
      agree-end (λ (parts : List ℕ × List ℕ × List Member). tell at (record {
        name = name;
        marks = marks_of key.fields.flags;
        class = parts.0;
        descriptor = parts.1;
        time = key.fields.time;
        values = parts.2;
      })) (λ parts seen. refl) (parts_from heap minor path key.fields) (parts_spot heap minor path key.fields) (agree-parts path key.fields)

  agree-key : (levels : ℕ) (path : List ℕ) (here : List ℕ → Path) (offset : ℕ) →
      Agree (key_from heap minor levels path here offset) (key_spot heap minor levels path here offset)
  unfolding key_from key_spot
  agree-key zero path here offset = λ seen. by seen (head_from heap path here offset seen)
    where
      by : (seen : Seen) (r : Result ((KeyRecord × List ℕ) × Seen) LoadFault) → AgreeAt {P = Spot} {A = Unit {0}} (onward (λ _. check Limit false) r) (spot path offset seen)
      by seen (Ok x) = refl
      by seen (Err fault) = refl
  agree-key (suc levels) path here offset =
      agree-at
      (λ (head : KeyRecord × List ℕ). rest_from heap minor (offset ∷ path) (here head.1) head.0 head.1
      >> subkeys_from heap (key_from heap minor levels (offset ∷ path) (child_path (here head.1))) (offset ∷ path) head.0.fields.subkeys head.0.fields.subkeys_list)
      (λ (head : KeyRecord × List ℕ) seen. then_place (parts_spot heap minor (offset ∷ path) head.0.fields)
      (λ _. subkeys_spot heap (key_from heap minor levels (offset ∷ path) (child_path (here head.1))) (key_spot heap minor levels (offset ∷ path) (child_path (here head.1)))
      (offset ∷ path) head.0.fields.subkeys head.0.fields.subkeys_list) seen
      (rest_from heap minor (offset ∷ path) (here head.1) head.0 head.1 seen))
      (λ (head : KeyRecord × List ℕ). agree-in
      (λ _. subkeys_from heap (key_from heap minor levels (offset ∷ path) (child_path (here head.1))) (offset ∷ path) head.0.fields.subkeys head.0.fields.subkeys_list)
      (λ _. subkeys_spot heap (key_from heap minor levels (offset ∷ path) (child_path (here head.1))) (key_spot heap minor levels (offset ∷ path) (child_path (here head.1)))
      (offset ∷ path) head.0.fields.subkeys head.0.fields.subkeys_list)
      (λ _. agree-subkeys (key_from heap minor levels (offset ∷ path) (child_path (here head.1))) (key_spot heap minor levels (offset ∷ path) (child_path (here head.1)))
      (λ o. agree-key levels (offset ∷ path) (child_path (here head.1)) o) heap (offset ∷ path) head.0.fields.subkeys head.0.fields.subkeys_list)
      (rest_from heap minor (offset ∷ path) (here head.1) head.0 head.1) (parts_spot heap minor (offset ∷ path) head.0.fields)
      (agree-rest (offset ∷ path) (here head.1) head.0 head.1))
      path offset (head_from heap path here offset)

-- ---- bins and cells

mapped : {A B : Type 0} (f : A → B) (o : Option A) → is_some (option_map f o) ≡ is_some o
mapped f None = refl
mapped f (Some x) = refl

missing : {A : Type 0} (fault other : LoadFault) (o : Option A) (seen : Seen) → given fault o seen ≡ Err other → o ≡ None
missing fault other None seen e = refl
missing fault other (Some x) seen e = absurd (cc)

-- where the cells of some bins don't fill them, there is a bad size
some-bad : (bins : List ℕ) (places : List BinPlace) → cells_of_bins bins places ≡ None → is_some (bad_cell bins places) ≡ true
some-bad bins [] e = absurd (cc)
some-bad bins (bin ∷ rest) e =
    by (cells_from (suc bin.size) bins (bin.start + 32) (bin.start + bin.size)) refl (λ n. some-bad bins rest n)
  where
    right : (xs : List Cell) (o : Option (List Cell)) → joined (Some xs) o ≡ None → o ≡ None
    right xs None q = refl
    right xs (Some ys) q = absurd (cc)

    by : (o : Option (List Cell)) → cells_from (suc bin.size) bins (bin.start + 32) (bin.start + bin.size) ≡ o →
        (cells_of_bins bins rest ≡ None → is_some (bad_cell bins rest) ≡ true) → is_some (bad_cell bins (bin ∷ rest)) ≡ true
    by None q more = rw q refl
    by (Some xs) q more = rw q (more (right xs (cells_of_bins bins rest) (sym (ap (λ o. joined o (cells_of_bins bins rest)) q) ∙ e)))

abbrev keys-of : List ℕ → ℕ → ℕ → List Cell → Step (Unit {0})
keys-of bins minor root cells = key_from (content_in bins cells) minor (suc PATH_LIMIT) [] root_path root

agree-hive : (bins : List ℕ) (minor root : ℕ) → Agree (bins_walk bins minor root) (hive_place bins minor root)
unfolding bins_walk hive_place
agree-hive bins minor root =
    agree-then (λ places. given Cells (cells_of_bins bins places) >>= (λ cells. keys-of bins minor root cells))
    (λ places seen. then_place (cell_place bins places) (λ cells seen. then_place (root_place (content_in bins cells) minor root) (λ _. nowhere) seen (keys-of bins minor root cells seen)) seen
    (given Cells (cells_of_bins bins places) seen))
    (λ places. agree-then (λ cells. keys-of bins minor root cells) (λ cells seen. then_place (root_place (content_in bins cells) minor root) (λ _. nowhere) seen (keys-of bins minor root cells seen))
    (λ cells seen. by cells seen (keys-of bins minor root cells seen) (agree-key (content_in bins cells) minor (suc PATH_LIMIT) [] root_path root seen))
    (given Cells (cells_of_bins bins places)) (cell_place bins places)
    (λ seen fault e. mapped keyless (bad_cell bins places) ∙ some-bad bins places (missing Cells fault (cells_of_bins bins places) seen e)))
    (given Bins (bins_of bins)) (bin_place bins) (λ seen fault e. refl)
  where
    by : (cells : List Cell) (seen : Seen) (r : Result (Unit {0} × Seen) LoadFault) →
        AgreeAt r (key_spot (content_in bins cells) minor (suc PATH_LIMIT) [] root_path root seen) →
        AgreeAt r (then_place (root_place (content_in bins cells) minor root) (λ _. nowhere) seen r)
    by cells seen (Ok x) n = refl
    by cells seen (Err fault) n = mapped (place_at (content_in bins cells)) (key_spot (content_in bins cells) minor (suc PATH_LIMIT) [] root_path root seen) ∙ n

-- ---- the image

long-enough : (a b : ℕ) → nat_le a b ≡ true → a ≤ b
long-enough a b e = grind (arith, nat_tests)

told-there : {P : Type 0} (r : Result (Unit {0} × Seen) LoadFault) (o : Option P) → AgreeAt r o → is_some o ≡ is_some (fault_in (tree_in r))
told-there (Ok x) o a = a
told-there (Err fault) o a = a

module _ (image : List ℕ) where
  -- all bins are there
  module _ (h : HasBins image) where
    walk-is : image_walk image nothing ≡ bins_walk (take h.block.size (drop 4096 image)) h.block.minor h.block.root nothing
    unfolding image_walk
    walk-is = rw (at-least 4096 (length image) h.whole, h.passes, at-least (4096 + h.block.size) (length image) h.long) refl

    place-is : place_of image ≡ hive_place (take h.block.size (drop 4096 image)) h.block.minor h.block.root nothing
    unfolding place_of image_place
    place-is = rw (at-least 4096 (length image) h.whole, h.passes, at-least (4096 + h.block.size) (length image) h.long) refl

    pub fault-has-place : is_some (place_of image) ≡ is_some (fault_of image)
    unfolding loaded
    fault-has-place =
        let bins = take h.block.size (drop 4096 image) in
        ap is_some place-is
        ∙ (told-there (bins_walk bins h.block.minor h.block.root nothing) (hive_place bins h.block.minor h.block.root nothing)
        (agree-hive bins h.block.minor h.block.root nothing)
        ∙ ap (λ (r : Result (Unit {0} × Seen) LoadFault). is_some (fault_in (tree_in r))) (sym walk-is))

  -- they aren't
  abbrev behind-block : BaseBlock → Where Place
  behind-block block seen =
      then_place nowhere (λ _. hive_place (take block.size (drop 4096 image)) block.minor block.root) seen
      (check Short (nat_le (4096 + block.size) (length image)) seen)

  pub no-place : (HasBins image → ⊥) → place_of image ≡ None
  unfolding place_of image_place
  no-place n = by (nat_le 4096 (length image)) refl
    where
      by-size : (whole : 4096 ≤ length image) (block : BaseBlock) → block_walk image nothing ≡ Ok (block, nothing) → (b : Bool) →
          nat_le (4096 + block.size) (length image) ≡ b →
          then_place nowhere (λ _. hive_place (take block.size (drop 4096 image)) block.minor block.root) nothing (check Short b nothing) ≡ None
      by-size whole block e true q =
          absurd (n (record { block = block; passes = e; whole = whole; long = long-enough (4096 + block.size) (length image) q }))
      by-size whole block e false q = refl

      by-block : (whole : 4096 ≤ length image) (r : Result (BaseBlock × Seen) LoadFault) → block_walk image nothing ≡ r →
          then_place nowhere behind-block nothing r ≡ None
      by-block whole (Err fault) e = refl
      by-block whole (Ok x) e =
          let same : nothing ≡ x.1 = block-names-nothing image x.0 nothing x.1 e in
          let passes : block_walk image nothing ≡ Ok (x.0, nothing) = e ∙ ap (λ (seen : Seen). Ok (x.0, seen)) (sym same) in
          ap (behind-block x.0) (sym same) ∙ by-size whole x.0 passes (nat_le (4096 + x.0.size) (length image)) refl

      by : (b : Bool) → nat_le 4096 (length image) ≡ b →
          then_place nowhere (λ _ seen. then_place nowhere behind-block seen (block_walk image seen)) nothing (check Short b nothing) ≡ None
      by true q = by-block (long-enough 4096 (length image) q) (block_walk image nothing) refl
      by false q = refl
