-- The lines of a dump, as they are told in parts.
use Rattle.std.proofs.Common.{◌≡◌, ℕ, zero, suc, ◌+◌, ◌<◌, List, [], ◌∷◌, ◌++◌, length, drop, Option, Some, None, IsSome, refl, sym, ap, ◌∙◌, arith, append_assoc, add-one}
use Rattle.std.specs.Prelude.{codes, slice_get}
use Rattle.std.specs.Fmt.{decimal}
use Rattle.std.proofs.lemmas.Option.{same_Some}
use Rattle.reg_names.specs.Names.{text_of}
use Rattle.reg_heap.specs.Paths.{Rec, Member}
use Rattle.reg_text.specs.Texts.{line_feed, escaped, digits_text}
use Rattle.reg_values.specs.ValueLists.{Tells}
use Rattle.reg_tree_text.specs.DumpTexts.{Told, name_of, key_line, value_line}
use Rattle.reg_tree_text.specs.Internal.Gathered.{WriterState, IsSoFar}
use Rattle.reg_tree_text.proofs.SentTexts.{swapped}
use Rattle.reg_tree_text.specs.Internal.LineParts.{after_class, after_path, key_in_parts, after_name, value_in_parts, root_in_parts, time_part}

-- a key's line
key_grouped : (path : List ℕ) (marks : ℕ) (class descriptor : List ℕ) (time : ℕ) → key_in_parts path marks class descriptor time ≡
    codes "key =" ++ (escaped path ++ (codes " marks " ++ (decimal marks ++ (codes " class x" ++ (digits_text class ++ (codes " security x"
    ++ (digits_text descriptor ++ (codes " time " ++ (decimal time ++ line_feed)))))))))
unfolding key_in_parts after_path after_class
key_grouped path marks class descriptor time =
    ap (λ (w : List ℕ). codes "key =" ++ (escaped path ++ (codes " marks " ++ w)))
    (append_assoc (decimal marks) (codes " class x")
    (digits_text class ++ (codes " security x" ++ (digits_text descriptor ++ time_part time))))

pub key_same : (told : Told) (path : List ℕ) (marks : ℕ) (class descriptor : List ℕ) (time : ℕ) → path ≡ text_of told.names →
    marks ≡ told.key.marks →
    class ≡ told.key.class → descriptor ≡ told.key.descriptor → time ≡ told.key.time →
    key_in_parts path marks class descriptor time ≡ key_line told
key_same told path marks class descriptor time p m c d t =
    ap (λ (x : List ℕ). key_in_parts x marks class descriptor time) p
    ∙ (ap (λ (x : ℕ). key_in_parts (text_of told.names) x class descriptor time) m
    ∙ (ap (λ (x : List ℕ). key_in_parts (text_of told.names) told.key.marks x descriptor time) c
    ∙ (ap (λ (x : List ℕ). key_in_parts (text_of told.names) told.key.marks told.key.class x time) d
    ∙ (ap (λ (x : ℕ). key_in_parts (text_of told.names) told.key.marks told.key.class told.key.descriptor x) t
    ∙ key_grouped (text_of told.names) told.key.marks told.key.class told.key.descriptor told.key.time))))

-- a value's line
value_grouped : (name : List ℕ) (kind : ℕ) (bytes : List ℕ) → value_in_parts name kind bytes ≡
    codes "value =" ++ (escaped name ++ (codes " type " ++ (decimal kind ++ (codes " x" ++ (digits_text bytes ++ line_feed)))))
unfolding value_in_parts after_name
value_grouped name kind bytes =
    ap (λ (w : List ℕ). codes "value =" ++ (escaped name ++ (codes " type " ++ w)))
    (append_assoc (decimal kind) (codes " x") (digits_text bytes ++ line_feed))

pub value_same : (values : List Member) (index : ℕ) (member : Member) → slice_get values index ≡ Some member →
    (name : List ℕ) (kind size : ℕ) →
    ((m : Member) × (slice_get values index ≡ Some m) × Tells m name kind size) → (items bytes : List ℕ) → bytes ≡ items →
    ((m : Member) × (slice_get values index ≡ Some m) × (items ≡ m.bytes)) → value_in_parts name kind bytes ≡ value_line member
value_same values index member here name kind size v items bytes b d =
    let n : name ≡ member.name = v.2.name_is ∙ ap (λ (m : Member). m.name) (same_Some _ _ (sym v.1 ∙ here)) in
    let k : kind ≡ member.kind = v.2.kind_is ∙ ap (λ (m : Member). m.kind) (same_Some _ _ (sym v.1 ∙ here)) in
    let x : bytes ≡ member.bytes = b ∙ (d.2 ∙ ap (λ (m : Member). m.bytes) (same_Some _ _ (sym d.1 ∙ here))) in
    ap (λ (w : List ℕ). value_in_parts w kind bytes) n
    ∙ (ap (λ (w : ℕ). value_in_parts member.name w bytes) k
    ∙ (ap (λ (w : List ℕ). value_in_parts member.name member.kind w) x ∙ value_grouped member.name member.kind member.bytes))

-- the value at an index, and those behind it
pub next_value : (values : List Member) (index : ℕ) → index < length values →
    (member : Member) × (slice_get values index ≡ Some member) × (drop index values ≡ member ∷ drop (index + 1) values)
next_value [] index l = absurd (omega (arith, l))
next_value (v ∷ values) zero l = (v, refl, refl)
next_value (v ∷ values) (suc index) l =
    let n = next_value values index (omega (arith, l)) in
    (n.0, n.1, n.2 ∙ ap (λ (k : ℕ). n.0 ∷ drop k values) (add-one index) ∙ ap (λ (w : List Member). n.0 ∷ w) (later (suc index)))
  where
    later : (k : ℕ) → drop k values ≡ drop (k + 1) (v ∷ values)
    later k = ap (λ (m : ℕ). drop m (v ∷ values)) (sym (add-one k))

-- the name of the root
pub root_named : (found : Option Rec) (name : List ℕ) → IsSome found → ((r : Rec) → found ≡ Some r → name ≡ r.name) → name ≡ name_of found
root_named None name there told = absurd (cc)
root_named (Some r) name there told = told r refl

pub root_state : (begin now : WriterState) (whole : List ℕ) (found : Option Rec) (left gathered : List ℕ) (written : ℕ)
    (name : List ℕ) →
    IsSoFar begin now whole ((codes "root =" ++ (escaped (name_of found) ++ line_feed)) ++ left) gathered written → IsSome found →
    ((r : Rec) → found ≡ Some r → name ≡ r.name) →
    IsSoFar begin now whole (root_in_parts name ++ left) gathered written
unfolding root_in_parts
root_state begin now whole found left gathered written name s there told =
    swapped begin now whole _ (codes "root =" ++ (escaped name ++ line_feed)) left gathered written s
    (ap (λ (w : List ℕ). codes "root =" ++ (escaped w ++ line_feed)) (root_named found name there told))
