-- The lines of what is found, told part by part.
use Rattle.std.proofs.Common.{◌≡◌, ℕ, ◌+◌, Bool, true, false, List, [], ◌∷◌, ◌++◌, length, drop, Some, refl, sym, ap, ◌∙◌, subst}
use Rattle.std.specs.Prelude.{codes, slice_get, flat_map, ◌&&◌, ◌||◌, not, if◌then◌else◌, Result, Ok, Err, IfOk}
use Rattle.std.specs.FinMap.{get}
use Rattle.std.proofs.lemmas.Option.{same_Some}
use Rattle.reg_names.specs.Names.{text_of}
use Rattle.reg_heap.specs.Paths.{Path, Tree, Member}
use Rattle.reg_heap.specs.Edits.{values_of, values_at}
use Rattle.reg_text.specs.Texts.{escaped}
use Rattle.reg_values.specs.ValueLists.{Tells}
use Rattle.reg_tree_text.specs.DumpTexts.{Told}
use Rattle.reg_tree_text.specs.Internal.Gathered.{WriterState, IsSoFar}
use Rattle.reg_tree_text.proofs.SentTexts.{opened, swapped, then_gathered}
use Rattle.reg_tree_text.specs.Listings.{after_name, key_line}
use Rattle.reg_tree_text.specs.ValueTexts.{value_told}
use Rattle.reg_find.specs.declared.scope.Scope.{Scope}
use Rattle.reg_find.specs.Findings.{is_held, is_data_found, is_value_found, is_key_found, value_line, value_found, key_found}

-- a first part was gathered, and the next one is to be told
part : (begin now : WriterState) (whole first next rest left gathered more : List ℕ) (written : ℕ) →
    IsSoFar begin now whole ((first ++ (next ++ rest)) ++ left) gathered written → more ≡ gathered ++ first →
    IsSoFar begin now whole (next ++ (rest ++ left)) more written
part begin now whole first next rest left gathered more written s e =
    opened begin now whole next rest left more written (then_gathered begin now whole first (next ++ rest) left gathered more written s e)

-- what stands behind the path in a value's line
abbrev pub after_path : (name : List ℕ) (kind size : ℕ) → List ℕ
after_path name kind size = codes " =" ++ (escaped name ++ after_name kind size)

module _ (begin now : WriterState) (whole left gathered more : List ℕ) (written : ℕ) where
  pub path_start : (path name : List ℕ) (kind size : ℕ) →
      IsSoFar begin now whole (value_line path name kind size ++ left) gathered written → more ≡ gathered ++ codes "value =" →
      IsSoFar begin now whole (escaped path ++ (after_path name kind size ++ left)) more written
  unfolding value_line
  path_start path name kind size s e =
      part begin now whole (codes "value =") (escaped path) (after_path name kind size) left gathered more written s e

  pub name_start : (name : List ℕ) (kind size : ℕ) →
      IsSoFar begin now whole (after_path name kind size ++ left) gathered written → more ≡ gathered ++ codes " =" →
      IsSoFar begin now whole (escaped name ++ (after_name kind size ++ left)) more written
  name_start name kind size s e =
      part begin now whole (codes " =") (escaped name) (after_name kind size) left gathered more written s e

-- ---- a key by itself

module _ (matches : List ℕ → Bool) (scope : Scope) (told : Told) (name path : List ℕ) (found : Bool) (named : name ≡ told.key.name)
    (read : path ≡ text_of told.names) (asked : found ≡ is_key_found matches scope name path) where
  key_asked : is_key_found matches scope told.key.name (text_of told.names) ≡ found
  key_asked =
      sym (asked ∙ (ap (λ (n : List ℕ). is_key_found matches scope n path) named
      ∙ ap (λ (t : List ℕ). is_key_found matches scope told.key.name t) read))

  pub key_none : found ≡ false → key_found matches scope told ≡ []
  key_none e = ap (λ (b : Bool). if b then key_line (text_of told.names) else []) (key_asked ∙ e)

  pub key_some : found ≡ true → (written : List ℕ) → written ≡ text_of told.names → key_line written ≡ key_found matches scope told
  key_some e written p =
      ap key_line p ∙ sym (ap (λ (b : Bool). if b then key_line (text_of told.names) else []) (key_asked ∙ e))

-- ---- a value

neither : (texts held one other : Bool) → not (texts || held) ≡ true → (texts && one || held && other) ≡ false
neither false false one other e = refl
neither true held one other e = let bad : false ≡ true = e in cc
neither false true one other e = let bad : false ≡ true = e in cc

-- data that aren't searched aren't found
none_searched : (matches : List ℕ → Bool) (scope : Scope) (kind : ℕ) (bytes : List ℕ) → not (scope.texts || scope.bytes) ≡ true →
    is_data_found matches scope kind bytes ≡ false
none_searched matches scope kind bytes e =
    neither scope.texts scope.bytes (matches (value_told kind bytes)) (is_held matches bytes) e

-- its name isn't found
module _ (matches : List ℕ → Bool) (scope : Scope) (member : Member) (name : List ℕ) (named : Bool)
    (asked : named ≡ (scope.names && matches name)) (missed : named ≡ false) (told : name ≡ member.name) where
  by_data : is_value_found matches scope member ≡ is_data_found matches scope member.kind member.bytes
  by_data =
      ap (λ (b : Bool). b || is_data_found matches scope member.kind member.bytes)
      (ap (λ (n : List ℕ). scope.names && matches n) (sym told) ∙ (sym asked ∙ missed))

  -- but its data are searched
  pub data_searched : {E : Type 0} (same : List ℕ → Bool) → same ≡ matches → (r : Result Bool E) →
      IfOk r (λ found. found ≡ is_data_found same scope member.kind member.bytes) → IfOk r (λ found. found ≡ is_value_found matches scope member)
  data_searched same e (Err fault) found = tt
  data_searched same e (Ok x) found =
      found ∙ (ap (λ (m : List ℕ → Bool). is_data_found m scope member.kind member.bytes) e ∙ sym by_data)

  -- nor are its data searched
  pub data_passed : not (scope.texts || scope.bytes) ≡ true → false ≡ is_value_found matches scope member
  data_passed none = sym (by_data ∙ none_searched matches scope member.kind member.bytes none)

pub tells_here : (values : List Member) (index : ℕ) (member : Member) → slice_get values index ≡ Some member → (name : List ℕ) (kind size : ℕ) →
    ((m : Member) × (slice_get values index ≡ Some m) × Tells m name kind size) → Tells member name kind size
tells_here values index member here name kind size v =
    subst (λ (m : Member). Tells m name kind size) (same_Some _ _ (sym v.1 ∙ here)) v.2

module _ (matches : List ℕ → Bool) (scope : Scope) (path : List ℕ) (member : Member) (found : Bool)
    (asked : found ≡ is_value_found matches scope member) where
  abbrev line_if : Bool → List ℕ
  line_if b = if b then value_line path member.name member.kind (length member.bytes) else []

  pub value_none : found ≡ false → value_found matches scope path member ≡ []
  value_none e = ap line_if (sym asked ∙ e)

  pub value_some : found ≡ true → (name : List ℕ) (kind size : ℕ) → Tells member name kind size → (read : List ℕ) → read ≡ path →
      value_line read name kind size ≡ value_found matches scope path member
  value_some e name kind size t read p =
      ap (λ (w : List ℕ). value_line w name kind size) p
      ∙ ap (λ (w : List ℕ). value_line path w kind size) t.name_is
      ∙ (ap (λ (k : ℕ). value_line path member.name k size) t.kind_is
      ∙ (ap (λ (n : ℕ). value_line path member.name member.kind n) t.size_is ∙ sym (ap line_if (sym asked ∙ e))))

-- the line of the next value is told, by a pattern that matches what it matched before
pub value_next : (begin now : WriterState) (whole left gathered : List ℕ) (written : ℕ) (matches same : List ℕ → Bool) (scope : Scope)
    (path : List ℕ) (values : List Member) (index : ℕ) (member : Member) → same ≡ matches →
    drop index values ≡ member ∷ drop (index + 1) values →
    IsSoFar begin now whole (flat_map (value_found matches scope path) (drop index values) ++ left) gathered written →
    IsSoFar begin now whole (value_found same scope path member ++ (flat_map (value_found matches scope path) (drop (index + 1) values) ++ left))
    gathered written
value_next begin now whole left gathered written matches same scope path values index member e d s =
    let line = value_found matches scope path member in
    let behind = flat_map (value_found matches scope path) (drop (index + 1) values) in
    swapped begin now whole line (value_found same scope path member) (behind ++ left) gathered written
    (opened begin now whole line behind left gathered written
    (swapped begin now whole _ (line ++ behind) left gathered written s (sym (ap (flat_map (value_found matches scope path)) d))))
    (ap (λ (m : List ℕ → Bool). value_found m scope path member) e)

-- the values of a key that is told, by a pattern that matches what it matched before
pub values_same : (tree : Tree) (p : Path) (told : Told) (matches same : List ℕ → Bool) (scope : Scope) (path : List ℕ) →
    get tree p ≡ Some told.key → same ≡ matches → path ≡ text_of told.names →
    flat_map (value_found same scope path) (values_at tree p) ≡
    flat_map (value_found matches scope (text_of told.names)) told.key.values
values_same tree p told matches same scope path here e f =
    ap (λ (m : List ℕ → Bool). flat_map (value_found m scope path) (values_at tree p)) e
    ∙ (ap (λ (t : List ℕ). flat_map (value_found matches scope t) (values_at tree p)) f
    ∙ ap (λ o. flat_map (value_found matches scope (text_of told.names)) (values_of o)) here)
