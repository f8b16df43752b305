-- A listing for which nothing more is asked is the plain one.
use Rattle.std.proofs.Common.{◌≡◌, ℕ, Bool, true, false, List, [], ◌∷◌, ◌++◌, length, Option, Some, None, refl, ap, ◌∙◌, append_assoc}
use Rattle.std.specs.Prelude.{codes, flat_map}
use Rattle.std.specs.Fmt.{decimal}
use Rattle.std.specs.FinMap.{get}
use Rattle.reg_names.specs.Names.{text_of}
use Rattle.reg_heap.specs.Paths.{Path, Tree, Rec, Member, children_of}
use Rattle.reg_heap.specs.Edits.{values_at}
use Rattle.reg_text.specs.Texts.{line_feed, escaped}
use Rattle.reg_tree_text.specs.DumpTexts.{Told, name_of}
use Rattle.reg_tree_text.specs.Listings.{keys_below}
use Rattle.reg_tree_text.specs.Listings as short
use Rattle.reg_tree_text.specs.PathQueries.{listed}
use Rattle.reg_tables.specs.declared.columns.Columns.{Columns}
use Rattle.reg_tables.specs.LongListings.{line_told, key_about, value_about, long_text}
use Rattle.reg_tables.specs.LongListings as long

-- nothing more is asked for
abbrev plain : Columns
plain = record { is_long = false; has_times = false; has_securities = false; ends_by_zero = false }

each-same : {A : Type 0} (f g : A → List ℕ) → ((a : A) → f a ≡ g a) → (items : List A) → flat_map f items ≡ flat_map g items
each-same f g h [] = refl
each-same f g h (a ∷ items) = ap (λ (x : List ℕ). x ++ flat_map f items) (h a) ∙ ap (λ (x : List ℕ). g a ++ x) (each-same f g h items)

value-plain : (value : Member) → long.value_line plain value ≡ short.value_line value.name value.kind (length value.bytes)
unfolding line_told value_about short.value_line short.after_name
value-plain value =
    ap (λ (w : List ℕ). codes "value =" ++ (escaped value.name ++ (codes " type " ++ w)))
    (append_assoc (decimal value.kind) (codes " size " ++ decimal (length value.bytes)) line_feed)

key-plain : (name : List ℕ) (key : Rec) → long.key_line plain name key ≡ short.key_line name
unfolding line_told key_about short.key_line
key-plain name key = refl

child-plain : (found : Option Rec) → long.child_line plain found ≡ short.key_line (name_of found)
unfolding line_told key_about short.key_line
child-plain None = refl
child-plain (Some key) = refl

values-plain : (values : List Member) → long.value_lines plain values ≡ short.value_lines values
values-plain values =
    each-same (long.value_line plain) (λ (value : Member). short.value_line value.name value.kind (length value.bytes)) value-plain values

told-plain : (told : Told) → long.told_lines plain told ≡ short.told_lines told
told-plain told =
    ap (λ (w : List ℕ). w ++ long.value_lines plain told.key.values) (key-plain (text_of told.names) told.key)
    ∙ ap (λ (w : List ℕ). short.key_line (text_of told.names) ++ w) (values-plain told.key.values)

below-plain : (is_tree : Bool) (tree : Tree) (path : Path) →
    short.value_lines (values_at tree path) ++ long.lines_below plain is_tree tree path ≡ listed tree is_tree path
unfolding short.tree_text short.list_text
below-plain true tree path =
    ap (λ (w : List ℕ). short.value_lines (values_at tree path) ++ w)
    (each-same (long.told_lines plain) short.told_lines told-plain (keys_below tree path))
below-plain false tree path =
    ap (λ (w : List ℕ). short.value_lines (values_at tree path) ++ w)
    (each-same (λ (child : Path). long.child_line plain (get tree child)) (λ (child : Path). short.key_line (name_of (get tree child)))
    (λ child. child-plain (get tree child)) (children_of tree path))

pub listed-plain : (is_tree : Bool) (tree : Tree) (path : Path) → long_text plain is_tree tree path ≡ listed tree is_tree path
unfolding long_text
listed-plain is_tree tree path =
    ap (λ (w : List ℕ). w ++ long.lines_below plain is_tree tree path) (values-plain (values_at tree path)) ∙ below-plain is_tree tree path
