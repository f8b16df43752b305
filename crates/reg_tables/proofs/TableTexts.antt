-- The texts of keys and values, from what was gathered.
use Rattle.std.proofs.Common.{◌≡◌, ℕ, List, ◌++◌, Some, sym, ap, ◌∙◌}
use Rattle.std.specs.Prelude.{slice_get}
use Rattle.std.proofs.lemmas.Option.{same_Some}
use Rattle.serde_json.specs.Data.{Data}
use Rattle.serde_json.specs.Written.{compact_text}
use Rattle.std.specs.FinMap.{get}
use Rattle.reg_names.specs.Names.{text_of}
use Rattle.reg_heap.specs.Paths.{Path, Tree, Rec, Member}
use Rattle.reg_heap.specs.Edits.{values_of, values_at}
use Rattle.reg_values.specs.ValueLists.{Tells}
use Rattle.reg_tree_text.specs.DumpTexts.{Told}
use Rattle.reg_tree_text.specs.Internal.Gathered.{WriterState, IsSoFar}
use Rattle.reg_tree_text.proofs.SentTexts.{opened, swapped}
use Rattle.reg_tables.specs.Tables.{key_data, key_text, key_row, key_rows, value_row, value_rows, line_text}

-- the text of a key that was gathered
pub entry-same : (told : Told) (entry : Data) (text shown : List ℕ) → entry ≡ key_data told → text ≡ compact_text entry → shown ≡ text → shown ≡ key_text told
unfolding key_text
entry-same told entry text shown e t s = s ∙ (t ∙ ap compact_text e)

-- the row of a value that was found
pub member-same : (path : List ℕ) (values : List Member) (index : ℕ) (member : Member) → slice_get values index ≡ Some member →
    (name : List ℕ) (kind size : ℕ) → ((m : Member) × (slice_get values index ≡ Some m) × Tells m name kind size) → (items bytes : List ℕ) → bytes ≡ items →
    ((m : Member) × (slice_get values index ≡ Some m) × (items ≡ m.bytes)) →
    line_text (value_row path (record { name = name; kind = kind; bytes = bytes })) ≡ line_text (value_row path member)
member-same path values index member here name kind size v items bytes b d =
    let n : name ≡ member.name = v.2.name_is ∙ ap (λ (m : Member). m.name) (same_Some _ _ (sym v.1 ∙ here)) in
    let k : kind ≡ member.kind = v.2.kind_is ∙ ap (λ (m : Member). m.kind) (same_Some _ _ (sym v.1 ∙ here)) in
    let x : bytes ≡ member.bytes = b ∙ (d.2 ∙ ap (λ (m : Member). m.bytes) (same_Some _ _ (sym d.1 ∙ here))) in
    ap (λ (w : List ℕ). line_text (value_row path (record { name = w; kind = kind; bytes = bytes }))) n
    ∙ (ap (λ (w : ℕ). line_text (value_row path (record { name = member.name; kind = w; bytes = bytes }))) k
    ∙ ap (λ (w : List ℕ). line_text (value_row path (record { name = member.name; kind = member.kind; bytes = w }))) x)

-- the values of a key that is there
pub values-same : (tree : Tree) (p : Path) (key : Rec) → get tree p ≡ Some key → values_at tree p ≡ key.values
values-same tree p key here = ap values_of here

-- a key's row is next, and behind it those of its values
pub key-next : (begin now : WriterState) (whole left gathered : List ℕ) (written : ℕ) (told : Told) (path : List ℕ) (time : ℕ) (values : List Member) →
    path ≡ text_of told.names → time ≡ told.key.time → values ≡ told.key.values → IsSoFar begin now whole (key_rows told ++ left) gathered written →
    IsSoFar begin now whole (line_text (key_row path time) ++ (value_rows path values ++ left)) gathered written
key-next begin now whole left gathered written told path time values names moment same s =
    opened begin now whole (line_text (key_row path time)) (value_rows path values) left gathered written
    (swapped begin now whole _ _ left gathered written s
    (ap (λ (w : List ℕ). line_text (key_row w time) ++ value_rows w values) names
    ∙ (ap (λ (n : ℕ). line_text (key_row (text_of told.names) n) ++ value_rows (text_of told.names) values) moment
    ∙ ap (λ (v : List Member). line_text (key_row (text_of told.names) told.key.time) ++ value_rows (text_of told.names) v) same)))
