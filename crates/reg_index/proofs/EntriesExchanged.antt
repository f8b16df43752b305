-- The entries of all lists, where those of one of them changed.
use Rattle.std.proofs.Common.{◌≡◌, ℕ, suc, ◌+◌, ◌<◌, ◌≤◌, List, [], ◌∷◌, ◌++◌, length, take, drop, refl, sym, ap, ◌∙◌, arith, append_assoc}
use Rattle.std.proofs.lemmas.Grind.{flat_map-append}
use Rattle.std.proofs.lemmas.List.{append-nil, take-append-drop, take-append-le, drop-append-le}
use Rattle.reg_records.specs.SubkeyLists.{Entry}
use Rattle.reg_shape.specs.Nodes.{KeyList}
use Rattle.reg_index.specs.declared.Place.{Place}
use Rattle.reg_index.specs.declared.plan.TheConstants.{FIRST_HALF}
use Rattle.reg_index.specs.Internal.IndexLists.{halves}
use Rattle.reg_index.specs.Subkeys.{entries_in, exchanged, flat_among, leaf_list, left_over, numbered, with_one, without}
use Rattle.reg_index.proofs.ListPlaces.{split-entries}

-- ---- a change in a piece

with-front : (xs ys : List Entry) (index : ℕ) (entry : Entry) → with_one (length xs + index) entry (xs ++ ys) ≡ xs ++ with_one index entry ys
with-front [] ys index entry = let e : 0 + index ≡ index = omega arith in ap (λ n. with_one n entry ys) e
with-front (x ∷ xs) ys index entry =
    let e : suc (length xs) + index ≡ suc (length xs + index) = omega arith in
    ap (λ n. with_one n entry (x ∷ (xs ++ ys))) e ∙ ap (λ es. x ∷ es) (with-front xs ys index entry)

with-back : (ys zs : List Entry) (index : ℕ) (entry : Entry) → index ≤ length ys → with_one index entry (ys ++ zs) ≡ with_one index entry ys ++ zs
with-back ys zs index entry l =
    (λ i. take-append-le index ys zs l i ++ entry ∷ drop-append-le index ys zs l i) ∙ sym (append_assoc (take index ys) (entry ∷ drop index ys) zs)

without-front : (xs ys : List Entry) (index : ℕ) → without (length xs + index) (xs ++ ys) ≡ xs ++ without index ys
without-front [] ys index = let e : 0 + index ≡ index = omega arith in ap (λ n. without n ys) e
without-front (x ∷ xs) ys index =
    let e : suc (length xs) + index ≡ suc (length xs + index) = omega arith in
    let f : suc (length xs + index) + 1 ≡ suc (length xs + index + 1) = omega arith in
    ap (λ n. without n (x ∷ (xs ++ ys))) e
    ∙ (ap (λ n. take (suc (length xs + index)) (x ∷ (xs ++ ys)) ++ drop n (x ∷ (xs ++ ys))) f ∙ ap (λ es. x ∷ es) (without-front xs ys index))

without-back : (ys zs : List Entry) (index : ℕ) → index < length ys → without index (ys ++ zs) ≡ without index ys ++ zs
without-back ys zs index l =
    (λ i. take-append-le index ys zs (omega (arith, l)) i ++ drop-append-le (index + 1) ys zs (omega (arith, l)) i) ∙ sym (append_assoc (take index ys) (drop (index + 1) ys) zs)

-- ---- the entries of lists

pub entries-exchanged : (number : ℕ) (others lists : List KeyList) →
    entries_in (exchanged number others lists) ≡ entries_in (take number lists) ++ (entries_in others ++ entries_in (drop (suc number) lists))
entries-exchanged number others lists =
    flat_map-append (λ (l : KeyList). l.list.entries) (take number lists) (others ++ drop (suc number) lists)
    ∙ ap (λ es. entries_in (take number lists) ++ es) (flat_map-append (λ (l : KeyList). l.list.entries) others (drop (suc number) lists))

-- ---- one fewer

over-entries : (offset : ℕ) (entries : List Entry) → entries_in (left_over offset entries) ≡ entries
over-entries offset [] = refl
over-entries offset (e ∷ es) = append-nil (e ∷ es)

pub entries-without : (lists : List KeyList) (place : Place) → place.list < length lists → place.index < length (numbered place.list lists).list.entries →
    entries_in (exchanged place.list (left_over (numbered place.list lists).offset (without place.index (numbered place.list lists).list.entries)) lists) ≡
    without (flat_among lists place) (entries_in lists)
entries-without lists place there l =
    let xs : List Entry = entries_in (take place.list lists) in
    let ys : List Entry = (numbered place.list lists).list.entries in
    let zs : List Entry = entries_in (drop (suc place.list) lists) in
    entries-exchanged place.list (left_over (numbered place.list lists).offset (without place.index ys)) lists
    ∙ (ap (λ es. xs ++ (es ++ zs)) (over-entries (numbered place.list lists).offset (without place.index ys))
    ∙ (ap (λ es. xs ++ es) (sym (without-back ys zs place.index l))
    ∙ (sym (without-front xs (ys ++ zs) place.index)
    ∙ ap (without (flat_among lists place)) (sym (split-entries lists place.list there)))))

-- ---- one more

-- where the lists that came have the entries of the one that they came for, and one more
pub entries-with : (lists others : List KeyList) (place : Place) (entry : Entry) → place.list < length lists → place.index ≤ length (numbered place.list lists).list.entries →
    entries_in others ≡ with_one place.index entry (numbered place.list lists).list.entries →
    entries_in (exchanged place.list others lists) ≡ with_one (flat_among lists place) entry (entries_in lists)
entries-with lists others place entry there l are =
    let xs : List Entry = entries_in (take place.list lists) in
    let ys : List Entry = (numbered place.list lists).list.entries in
    let zs : List Entry = entries_in (drop (suc place.list) lists) in
    entries-exchanged place.list others lists
    ∙ (ap (λ es. xs ++ (es ++ zs)) are
    ∙ (ap (λ es. xs ++ es) (sym (with-back ys zs place.index entry l))
    ∙ (sym (with-front xs (ys ++ zs) place.index entry)
    ∙ ap (with_one (flat_among lists place) entry) (sym (split-entries lists place.list there)))))

pub halves-entries : (first second : ℕ) (entries : List Entry) → entries_in (halves first second entries) ≡ entries
halves-entries first second entries = ap (λ es. take FIRST_HALF entries ++ es) (append-nil (drop FIRST_HALF entries)) ∙ take-append-drop FIRST_HALF entries

pub leaf-entries : (offset : ℕ) (entries : List Entry) → entries_in (leaf_list offset entries ∷ []) ≡ entries
leaf-entries offset entries = append-nil entries
