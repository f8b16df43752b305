-- The walk of an image asks of its minor version only if that is 3: so a whole hive walks without a fault under every other one.
use Rattle.std.proofs.Common.{◌≡◌, ℕ, zero, suc, ◌==◌, ◌||◌, nat_le, not, Bool, true, false, Ok, List, [], ◌∷◌, ◌++◌, length, refl, ap, ◌∙◌}
use Rattle.std.specs.List.{list_any}
use Rattle.reg_names.specs.declared.TheConstants.{PATH_LIMIT}
use Rattle.reg_heap.specs.declared.limits.TheConstants.{DATA_LIMIT, VALUES_LIMIT}
use Rattle.reg_heap.specs.Edits.{child_path}
use Rattle.reg_heap.specs.Heaps.{Heap}
use Rattle.reg_heap.specs.Kinds.Kind.{ValueList}
use Rattle.reg_heap.specs.Members.{same_name}
use Rattle.reg_heap.specs.Paths.{Path, Member}
use Rattle.reg_records.specs.declared.nk.KeyFields.{KeyFields}
use Rattle.reg_records.specs.KeyNodes.{KeyRecord}
use Rattle.reg_records.specs.KeyValues.{KeyValueRecord}
use Rattle.reg_records.specs.BigData.{segment_size, is_inline}
use Rattle.reg_arena.specs.Cells.{cell_at}
use Rattle.reg_shape.specs.Nodes.{member_of}
use Rattle.reg_shape.specs.Spelt.{marks_of}
use Rattle.reg_shape.specs.Whole.{Whole}
use Rattle.reg_tree.proofs.Invariant.ShapesOfWholeHives.{its_keys, shape-of-whole}
use Rattle.reg_tree_image.specs.declared.LoadFault.TheVariants.{Twice, Limit}
use Rattle.reg_tree_image.specs.WalkSteps.{Seen, Step, ◌>>=◌, ◌>>◌, give, check, tell}
use Rattle.reg_tree_image.specs.LoadingWalk.{root_path, far_from, row_from, named_value, data_by, value_from, values_each, values_from, class_from, descriptor_from}
use Rattle.reg_tree_image.specs.LoadingWalk.{parts_from, rest_from, head_from, subkeys_from, key_from}
use Rattle.reg_tree_image.specs.Images.{nothing, bins_walk}
use Rattle.reg_tree_image.proofs.CleanWalks.CleanHives.{hive-walked}
use Rattle.reg_tree_image.proofs.CleanWalks.CleanImages.{bins-walked}

module _ (heap : Heap) (minor : ℕ) (new : (minor == 3) ≡ false) where
  data-same : (path : List ℕ) (inline : Bool) (size offset : ℕ) → data_by heap minor path inline size offset ≡ data_by heap 5 path inline size offset
  data-same path true size offset = refl
  data-same path false size offset =
      ap (λ (b : Bool). check Limit (nat_le size DATA_LIMIT) >> far_from heap path (nat_le size segment_size || b) size offset) new

  value-same : (path : List ℕ) (before : List Member) (offset : ℕ) → value_from heap minor path before offset ≡ value_from heap 5 path before offset
  value-same path before offset =
      let all : data_by heap minor path ≡ data_by heap 5 path = λ i inline size place. data-same path inline size place i in
      ap (λ (by : Bool → ℕ → ℕ → Step (List ℕ)). named_value heap path offset >>= (λ (value : KeyValueRecord × List ℕ).
      check Twice (not (list_any (λ (m : Member). same_name m.name value.1) before))
      >> (by (is_inline value.0.fields.size) value.0.fields.size value.0.fields.offset >>= (λ bytes. give (member_of value.0 bytes))))) all

  each-same : (path : List ℕ) (offsets : List ℕ) (before : List Member) → values_each heap minor path before offsets ≡ values_each heap 5 path before offsets
  each-same path [] before = refl
  each-same path (offset ∷ offsets) before =
      let rest : (λ (m : Member). values_each heap minor path (before ++ m ∷ []) offsets) ≡ (λ (m : Member). values_each heap 5 path (before ++ m ∷ []) offsets) =
      λ i m. each-same path offsets (before ++ m ∷ []) i in
      ap (λ (s : Step Member). s >>= (λ (m : Member). values_each heap minor path (before ++ m ∷ []) offsets)) (value-same path before offset)
      ∙ ap (λ (f : Member → Step (List Member)). value_from heap 5 path before offset >>= f) rest

  values-same : (path : List ℕ) (count offset : ℕ) → values_from heap minor path count offset ≡ values_from heap 5 path count offset
  values-same path zero offset = refl
  values-same path (suc n) offset =
      let each : values_each heap minor path [] ≡ values_each heap 5 path [] = λ i row. each-same path row [] i in
      ap (λ (f : List ℕ → Step (List Member)). check Limit (nat_le (suc n) VALUES_LIMIT) >> (row_from heap path ValueList (suc n) offset >>= f)) each

  parts-same : (path : List ℕ) (fields : KeyFields) → parts_from heap minor path fields ≡ parts_from heap 5 path fields
  parts-same path fields =
      ap (λ (s : Step (List Member)). class_from heap path fields.class_length fields.class >>= (λ (class : List ℕ).
      descriptor_from heap path fields.security >>= (λ (descriptor : List ℕ). s >>= (λ (values : List Member). give (class, descriptor, values)))))
      (values-same path fields.values fields.values_list)

  rest-same : (path : List ℕ) (at : Path) (key : KeyRecord) (name : List ℕ) → rest_from heap minor path at key name ≡ rest_from heap 5 path at key name
  rest-same path at key name =
      ap (λ (s : Step (List ℕ × List ℕ × List Member)). s >>= (λ (parts : List ℕ × List ℕ × List Member). tell at (record {
        name = name;
        marks = marks_of key.fields.flags;
        class = parts.0;
        descriptor = parts.1;
        time = key.fields.time;
        values = parts.2;
      }))) (parts-same path key.fields)

  abbrev RestOf : Type 0
  RestOf = List ℕ → Path → KeyRecord → List ℕ → Step (Unit {0})

  abbrev WalkOf : Type 0
  WalkOf = List ℕ → (List ℕ → Path) → ℕ → Step (Unit {0})

  -- a key, and all below it, by what is done with each
  abbrev level : RestOf → WalkOf → WalkOf
  level rest below path here offset = head_from heap path here offset >>= (λ (head : KeyRecord × List ℕ).
      rest (offset ∷ path) (here head.1) head.0 head.1
      >> subkeys_from heap (below (offset ∷ path) (child_path (here head.1))) (offset ∷ path) head.0.fields.subkeys head.0.fields.subkeys_list)

  key-same : (levels : ℕ) → key_from heap minor levels ≡ key_from heap 5 levels
  unfolding key_from
  key-same zero = refl
  key-same (suc levels) =
      let rests : rest_from heap minor ≡ rest_from heap 5 = λ i path at key name. rest-same path at key name i in
      ap (λ (rest : RestOf). level rest (key_from heap minor levels)) rests ∙ ap (λ (below : WalkOf). level (rest_from heap 5) below) (key-same levels)

  -- the walk is the one of the minor version that this project writes
  pub minor-same : (levels : ℕ) (path : List ℕ) (here : List ℕ → Path) (offset : ℕ) (seen : Seen) →
      key_from heap minor levels path here offset seen ≡ key_from heap 5 levels path here offset seen
  minor-same levels path here offset seen = ap (λ (w : WalkOf). w path here offset seen) (key-same levels)

module _ (bins : List ℕ) (root : ℕ) (w : Whole bins root) (minor : ℕ) (new : (minor == 3) ≡ false) where
  seen-by : (seen : Seen) → key_from (cell_at bins) minor (suc PATH_LIMIT) [] root_path root nothing ≡ Ok (tt, seen) →
      (after : Seen) × (key_from (cell_at bins) minor (suc PATH_LIMIT) [] root_path root nothing ≡ Ok (tt, after))
  seen-by seen e = (seen, e)

  -- the keys of a whole hive are walked without a fault
  pub keys-of-whole : (seen : Seen) × (key_from (cell_at bins) minor (suc PATH_LIMIT) [] root_path root nothing ≡ Ok (tt, seen))
  keys-of-whole =
      seen-by _ (minor-same (cell_at bins) minor new (suc PATH_LIMIT) [] root_path root nothing
      ∙ hive-walked (cell_at bins) root (its_keys (cell_at bins) (length w.cells) root w.whole) w.whole.ring (shape-of-whole (cell_at bins) (length w.cells) root w.whole))

  -- so are its bins
  pub walk-of-whole : (seen : Seen) × (bins_walk bins minor root nothing ≡ Ok (tt, seen))
  walk-of-whole = let k = keys-of-whole in (k.0, bins-walked bins w.cells minor root nothing w.cells_are ∙ k.1)
