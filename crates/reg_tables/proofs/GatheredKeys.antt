-- Keys and values gathered from a tree have the data that is told of them.
use Rattle.std.proofs.Common.{◌≡◌, ℕ, ◌+◌, ◌≤◌, List, [], ◌∷◌, ◌++◌, map, drop, length, Some, sym, ap, ◌∙◌, append_assoc, append-nil}
use Rattle.std.specs.Prelude.{codes, slice_get}
use Rattle.std.specs.FinMap.{get}
use Rattle.std.proofs.lemmas.Option.{same_Some}
use Rattle.std.proofs.lemmas.List.{map-append, drop_all}
use Rattle.serde_json.specs.Data.{Data, number, unsigned, string, array, object, member, no_members}
use Rattle.serde_json.specs.View.{items_of}
use Rattle.reg_names.specs.Names.{text_of}
use Rattle.reg_heap.specs.Paths.{Path, Tree, Member}
use Rattle.reg_heap.specs.Edits.{values_of, values_at}
use Rattle.reg_text.specs.Texts.{digits_text}
use Rattle.reg_values.specs.ValueLists.{Tells}
use Rattle.reg_tree_text.specs.DumpTexts.{Told}
use Rattle.reg_tables.specs.declared.entry.ValueEntry.{ValueEntry}
use Rattle.reg_tables.specs.SecurityTexts.{security_told}
use Rattle.reg_tables.specs.Tables.{value_data, key_data}
use Rattle.reg_tables.specs.Times.{time_text}
use Rattle.reg_tables.specs.ValueForms.{data_of}
use Rattle.reg_tables.specs.Internal.Entries.{value_view}

-- ---- a value

abbrev pub value_object : (name : List ℕ) (kind : ℕ) → Data → Data
value_object name kind form =
    object (member (codes "name") (string name) (member (codes "type") (number (unsigned kind)) (member (codes "data") form no_members)))

pub value-told : (values : List Member) (index : ℕ) (m : Member) → slice_get values index ≡ Some m →
    (name : List ℕ) (kind size : ℕ) → ((m : Member) × (slice_get values index ≡ Some m) × Tells m name kind size) → (shown : List ℕ) → shown ≡ name →
    (form : Data) (items bytes : List ℕ) → form ≡ data_of kind bytes → bytes ≡ items →
    ((m : Member) × (slice_get values index ≡ Some m) × (items ≡ m.bytes)) → value_object shown kind form ≡ value_data m
value-told values index m here name kind size v shown s form items bytes f b d =
    let n : name ≡ m.name = v.2.name_is ∙ ap (λ (m : Member). m.name) (same_Some _ _ (sym v.1 ∙ here)) in
    let k : kind ≡ m.kind = v.2.kind_is ∙ ap (λ (m : Member). m.kind) (same_Some _ _ (sym v.1 ∙ here)) in
    let x : bytes ≡ m.bytes = b ∙ (d.2 ∙ ap (λ (m : Member). m.bytes) (same_Some _ _ (sym d.1 ∙ here))) in
    ap (λ (w : List ℕ). value_object w kind form) (s ∙ n)
    ∙ (ap (λ (w : Data). value_object m.name kind w) (f ∙ (ap (λ (w : ℕ). data_of w bytes) k ∙ ap (λ (w : List ℕ). data_of m.kind w) x))
    ∙ ap (λ (w : ℕ). value_object m.name w (data_of m.kind m.bytes)) k)

-- ---- the values of a key

-- those so far, and those behind them
abbrev pub AreGathered : List Member → ℕ → List ValueEntry → Type 0
AreGathered values index entries = map value_view entries ++ map value_data (drop index values) ≡ map value_data values

pub gathered_none : (values : List Member) (entries : List ValueEntry) → entries ≡ [] → AreGathered values 0 entries
gathered_none values entries e = ap (λ (x : List ValueEntry). map value_view x ++ map value_data values) e

pub gathered_more : (values : List Member) (index : ℕ) (entries new : List ValueEntry) (entry : ValueEntry) (m : Member) →
    drop index values ≡ m ∷ drop (index + 1) values → value_view entry ≡ value_data m → new ≡ entries ++ entry ∷ [] →
    AreGathered values index entries → AreGathered values (index + 1) new
gathered_more values index entries new entry m here told pushed so_far =
    let behind = map value_data (drop (index + 1) values) in
    ap (λ (x : List Data). x ++ behind) (ap (map value_view) pushed ∙ map-append value_view entries (entry ∷ []))
    ∙ (append_assoc (map value_view entries) (value_view entry ∷ []) behind
    ∙ (ap (λ (d : Data). map value_view entries ++ d ∷ behind) told
    ∙ (ap (λ (x : List Member). map value_view entries ++ map value_data x) (sym here) ∙ so_far)))

pub gathered_all : (values : List Member) (index : ℕ) (entries : List ValueEntry) → length values ≤ index → AreGathered values index entries →
    map value_view entries ≡ map value_data values
gathered_all values index entries l so_far =
    sym (append-nil (map value_view entries))
    ∙ (ap (λ (x : List Member). map value_view entries ++ map value_data x) (sym (drop_all index values l)) ∙ so_far)

-- ---- a key

abbrev pub key_object : (path time : List ℕ) (marks : ℕ) (class security : List ℕ) → List Data → Data
key_object path time marks class security values =
    object (member (codes "path") (string path) (member (codes "time") (string time) (member (codes "marks") (number (unsigned marks))
    (member (codes "class") (string class) (member (codes "security") (string security)
    (member (codes "values") (array (items_of values)) no_members))))))

pub key-told : (tree : Tree) (p : Path) (told : Told) → get tree p ≡ Some told.key → (path shown : List ℕ) → shown ≡ path → path ≡ text_of told.names →
    (ticks : ℕ) (time : List ℕ) → ticks ≡ told.key.time → time ≡ time_text ticks → (marks : ℕ) → marks ≡ told.key.marks →
    (class digits : List ℕ) → class ≡ told.key.class → digits ≡ digits_text class →
    (descriptor security : List ℕ) → descriptor ≡ told.key.descriptor → security ≡ security_told descriptor →
    (values : List Data) → values ≡ map value_data (values_at tree p) → key_object shown time marks digits security values ≡ key_data told
key-told tree p told here path shown s names ticks time t moment marks m class digits c hex descriptor security d hex_too values v =
    ap (λ (x : List ℕ). key_object x time marks digits security values) (s ∙ names)
    ∙ (ap (λ (x : List ℕ). key_object (text_of told.names) x marks digits security values) (moment ∙ ap time_text t)
    ∙ (ap (λ (x : ℕ). key_object (text_of told.names) (time_text told.key.time) x digits security values) m
    ∙ (ap (λ (x : List ℕ). key_object (text_of told.names) (time_text told.key.time) told.key.marks x security values) (hex ∙ ap digits_text c)
    ∙ (ap (λ (x : List ℕ). key_object (text_of told.names) (time_text told.key.time) told.key.marks (digits_text told.key.class) x values)
    (hex_too ∙ ap security_told d)
    ∙ ap (λ (x : List Data). key_object (text_of told.names) (time_text told.key.time) told.key.marks (digits_text told.key.class)
    (security_told told.key.descriptor) x) (v ∙ ap (λ (x : List Member). map value_data x) (ap values_of here))))))
