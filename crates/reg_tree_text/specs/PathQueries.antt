-- What is looked up in a tree by paths and names, and told (this project's own).
use Rattle.std.specs.Prelude.{◌≡◌, ℕ, ◌&&◌, Bool, true, false, if◌then◌else◌, List, ◌++◌, Option, Some, None, is_some}
use Rattle.std.specs.FinMap.{get}
use Rattle.std.specs.Option.{option_and_then}
use Rattle.std.specs.Io.KnownBytes.{Appends}
use Rattle.reg_names.specs.Names.{is_path}
use Rattle.reg_heap.specs.Paths.{Path, Tree, Member}
use Rattle.reg_heap.specs.Edits.{folded_path, values_at}
use Rattle.reg_heap.specs.Members.{value_named}
use Rattle.reg_text.specs.Texts.{line_feed}
use Rattle.reg_tree.specs.TreeKeys.{Keys, IsAt}
use Rattle.reg_tree.specs.declared.node.Node.{Node}
use Rattle.reg_tree_text.specs.DumpFronts.{IsStopped}
use Rattle.reg_tree_text.specs.Listings.{list_text, tree_text}
use Rattle.reg_tree_text.specs.ValueTexts.{value_told}
use Rattle.reg_tree_text.specs.declared.path_fault.PathFault.{PathFault}
use Rattle.reg_tree_text.specs.declared.path_fault.PathFault.TheVariants.{NoKey, NoValue, Stopped}

-- the path of the key that a text leads to from the root: none where the text is no path, or where no key is there
abbrev pub key_at : Tree → List ℕ → Option Path
key_at tree text = if is_path text && is_some (get tree (folded_path text)) then Some (folded_path text) else None

-- the value of that name, after folding, of the key that a text leads to
abbrev pub value_at : Tree → (text name : List ℕ) → Option Member
value_at tree text name = option_and_then (λ path. value_named name (values_at tree path)) (key_at tree text)

-- what is listed of the key at a path: of itself, or with all that is below it
abbrev pub listed : Tree → (is_whole : Bool) → Path → List ℕ
listed tree true path = tree_text tree path
listed tree false path = list_text tree path

-- how a value is told: its bytes, or its data as a line
abbrev pub shown : (is_raw : Bool) → Member → List ℕ
shown true value = value.bytes
shown false value = value_told value.kind value.bytes ++ line_feed

-- a key that was found by a text
abbrev pub IsKeyFound : Keys → List ℕ → Option Node → Type 0
IsKeyFound keys text None = key_at keys.tree text ≡ None
IsKeyFound keys text (Some node) = (path : Path) × (key_at keys.tree text ≡ Some path) × IsAt keys path node

-- a text of something that was found was written
abbrev pub IsTold : {A : Type 0} → Option A → (A → List ℕ) → (before after : Option (List ℕ)) → Type 0
IsTold {A} found text before after = (a : A) × (found ≡ Some a) × Appends before after (text a)

-- why a key wasn't listed: there is none, and nothing was written; or a front of the text was
abbrev pub ListStops : PathFault → Tree → (text : List ℕ) → (is_whole : Bool) → (before after : Option (List ℕ)) → Type 0
ListStops NoKey tree text is_whole before after = (key_at tree text ≡ None) × (after ≡ before)
ListStops NoValue tree text is_whole before after = ⊥
ListStops (Stopped fault) tree text is_whole before after =
    (path : Path) × (key_at tree text ≡ Some path) × IsStopped before after (listed tree is_whole path) fault

-- why a value wasn't told: there is no such key, or the key has no such value, and nothing was written; or a front of the text was
abbrev pub GetStops : PathFault → Tree → (text name : List ℕ) → (is_raw : Bool) → (before after : Option (List ℕ)) → Type 0
GetStops NoKey tree text name is_raw before after = (key_at tree text ≡ None) × (after ≡ before)
GetStops NoValue tree text name is_raw before after =
    (is_some (key_at tree text) ≡ true) × (value_at tree text name ≡ None) × (after ≡ before)
GetStops (Stopped fault) tree text name is_raw before after =
    (value : Member) × (value_at tree text name ≡ Some value) × IsStopped before after (shown is_raw value) fault
