-- The text of a gathered key is serde_json's compact text of its data.
use Rattle.std.proofs.Common.{◌≡◌, ℕ, suc, Bool, false, ◌||◌, List, [], ◌∷◌, length, map, refl, sym, ap, ◌∙◌, subst, Some}
use Rattle.serde.specs.Event.{Log, Logs, WritesEach, WritesSeq, seq_begins, seq_ends}
use Rattle.serde_json.specs.Data.{Data, array}
use Rattle.serde_json.specs.Events.{items_len, SendsValue, SendsItems}
use Rattle.serde_json.specs.View.{items_of}
use Rattle.serde_json.specs.Written.{has_float, items_have_float}
use Rattle.reg_tables.specs.declared.form.ValueForm.{ValueForm}
use Rattle.reg_tables.specs.declared.form.ValueForm.TheVariants as form
use Rattle.reg_tables.specs.declared.entry.ValueEntry.{ValueEntry}
use Rattle.reg_tables.specs.declared.entry.KeyEntry.{KeyEntry}
use Rattle.reg_tables.specs.Internal.Entries.{text_data, form_view, value_view, key_view}

-- ---- the events of a sequence

each-sent : {A : Type 0} (f : A → Data) (xs : List A) (first last new : Log) → WritesEach (λ x. SendsValue (f x)) xs first last →
    Logs last new seq_ends → SendsItems (items_of (map f xs)) first new
each-sent f [] first last new each ends = subst (λ (l : Log). Logs l new seq_ends) each ends
each-sent f (x ∷ xs) first last new each ends = (each.0, each.1, each-sent f xs each.0 last new each.2 ends)

items_len-map : {A : Type 0} (f : A → Data) (xs : List A) → items_len (items_of (map f xs)) ≡ length xs
items_len-map f [] = refl
items_len-map f (x ∷ xs) = ap suc (items_len-map f xs)

pub seq-sent : {A : Type 0} (f : A → Data) (xs : List A) (old new : Log) → WritesSeq (λ x. SendsValue (f x)) xs old new →
    SendsValue (array (items_of (map f xs))) old new
seq-sent f xs old new sent = (
  sent.0,
  subst (λ (n : ℕ). Logs old sent.0 (seq_begins (Some n))) (sym (items_len-map f xs)) sent.2,
  each-sent f xs sent.0 sent.1 new sent.3 sent.4,
)

-- ---- no number is a float

items-whole : {A : Type 0} (f : A → Data) → ((x : A) → has_float (f x) ≡ false) → (xs : List A) → items_have_float (items_of (map f xs)) ≡ false
items-whole f each [] = refl
items-whole f each (x ∷ xs) = ap (λ (b : Bool). b || items_have_float (items_of (map f xs))) (each x) ∙ items-whole f each xs

form-whole : (f : ValueForm) → has_float (form_view f) ≡ false
form-whole (form.Text text) = refl
form-whole (form.Texts texts) = items-whole text_data (λ _. refl) texts.items
form-whole (form.Number n) = refl
form-whole (form.Bytes digits) = refl

value-whole : (e : ValueEntry) → has_float (value_view e) ≡ false
value-whole e = ap (λ (b : Bool). b || false) (form-whole e.form)

pub key-whole : (e : KeyEntry) → has_float (key_view e) ≡ false
key-whole e =
    ap (λ (b : Bool). b || false) (items-whole value_view value-whole e.values.items)
