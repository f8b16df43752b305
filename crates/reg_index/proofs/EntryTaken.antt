-- An entry taken out of one of the lists.
use Rattle.std.proofs.Common.{◌≡◌, ℕ, zero, suc, ◌+◌, ◌<◌, ◌≤◌, List, [], ◌∷◌, ◌++◌, length, take, drop, refl, sym, ap, ◌∙◌, subst, arith, inl, inr, ◌⊎◌}
use Rattle.std.proofs.lemmas.Bool.{cases_lt}
use Rattle.std.proofs.lemmas.List.{length-append, length-take-le, length-drop}
use Rattle.reg_heap.specs.Heaps.{Heap, Writes}
use Rattle.reg_heap.specs.Kinds.{times}
use Rattle.reg_records.specs.SubkeyLists.{Entry}
use Rattle.reg_shape.specs.Nodes.{KeyList}
use Rattle.reg_index.specs.declared.Place.{Place}
use Rattle.reg_index.specs.Internal.HashLeaves.{IsLeaf}
use Rattle.reg_index.specs.Internal.IndexLists.{AreExchanged, HasLists, IsOnce, IsRoot, Stands, StandsAmong, cells_under, offsets_of}
use Rattle.reg_index.specs.Subkeys.{exchanged, leaf_list, left_over, numbered, without}
use Rattle.reg_index.proofs.CellCounts.{times-append}
use Rattle.reg_index.proofs.ListDropped.{once-nothing}
use Rattle.reg_index.proofs.ListPlaces.{list-stands}
use Rattle.reg_index.proofs.ListsExchanged.{IsHead, exchange, head-one, head-two, length-exchanged, offsets-exchanged, root-apart, root-stands, root-still, root_cells}

-- ---- what is left of a list

pub length-without : (index : ℕ) (entries : List Entry) → index < length entries → length (without index entries) + 1 ≡ length entries
length-without index entries l =
    omega (arith, l, length-append (take index entries) (drop (index + 1) entries), length-take-le index entries (omega (arith, l)), length-drop (index + 1) entries)

pub none-over : (offset index : ℕ) (entries : List Entry) → index < length entries → length entries ≡ 1 → left_over offset (without index entries) ≡ []
none-over offset index entries l one = by (without index entries) (omega (arith, length-without index entries l, one))
  where
    by : (es : List Entry) → length es ≡ 0 → left_over offset es ≡ []
    by [] e = refl
    by (x ∷ xs) e = absurd (omega (arith, e))

pub some-over : (offset : ℕ) (entries : List Entry) → 0 < length entries → left_over offset entries ≡ leaf_list offset entries ∷ []
some-over offset [] l = absurd (omega (arith, l))
some-over offset (x ∷ xs) l = refl

-- ---- a list that stays in its cell

set-same : (lists : List KeyList) (number offset : ℕ) → number < length lists → offset ≡ (numbered number lists).offset →
    take number (offsets_of lists) ++ offset ∷ drop (suc number) (offsets_of lists) ≡ offsets_of lists
set-same [] number offset l is = absurd (omega (arith, l))
set-same (list ∷ lists) zero offset l is = ap (λ o. o ∷ offsets_of lists) is
set-same (list ∷ lists) (suc number) offset l is = ap (λ os. list.offset ∷ os) (set-same lists number offset (omega (arith, l)) is)

pub roots-as : (offset : ℕ) (xs ys : List KeyList) → length xs ≡ length ys → root_cells offset xs ≡ root_cells offset ys
roots-as offset [] [] e = refl
roots-as offset [] (y ∷ ys) e = absurd (omega (arith, e))
roots-as offset (x ∷ xs) [] e = absurd (omega (arith, e))
roots-as offset (x ∷ []) (y ∷ []) e = refl
roots-as offset (x ∷ []) (y ∷ z ∷ ys) e = absurd (omega (arith, e))
roots-as offset (x ∷ z ∷ xs) (y ∷ []) e = absurd (omega (arith, e))
roots-as offset (x ∷ z ∷ xs) (y ∷ u ∷ ys) e = refl

pub length-one : (number : ℕ) (list : KeyList) (lists : List KeyList) → number < length lists → length (exchanged number (list ∷ []) lists) ≡ length lists
length-one number list lists l = omega (arith, length-exchanged number (list ∷ []) lists l)

alone : (heap : Heap) (offset number : ℕ) (list : KeyList) (lists : List KeyList) → number < length lists → length lists ≡ 1 → HasLists heap offset lists →
    list.offset ≡ (numbered number lists).offset → (numbered 0 (exchanged number (list ∷ []) lists)).offset ≡ offset
alone heap offset number list [] l one h is = absurd (omega (arith, one))
alone heap offset zero list (x ∷ []) l one h is = is ∙ h.0
alone heap offset (suc number) list (x ∷ []) l one h is = absurd (omega (arith, l))
alone heap offset number list (x ∷ y ∷ ys) l one h is = absurd (omega (arith, one))

-- the key names what it named
pub head-kept : (old new : Heap) (offset number : ℕ) (list : KeyList) (lists : List KeyList) → number < length lists → HasLists old offset lists →
    list.offset ≡ (numbered number lists).offset → (2 ≤ length lists → IsRoot new offset (offsets_of lists)) → IsHead new offset (exchanged number (list ∷ []) lists)
head-kept old new offset number list lists l h is root = by (cases_lt (length lists) 2)
  where
    long : length (exchanged number (list ∷ []) lists) ≡ length lists
    long = length-one number list lists l

    by : (length lists < 2) ⊎ (2 ≤ length lists) → IsHead new offset (exchanged number (list ∷ []) lists)
    by (inl m) =
        let one : length lists ≡ 1 = omega (arith, m, l) in
        head-one new offset (exchanged number (list ∷ []) lists) (long ∙ one) (alone old offset number list lists l one h is)
    by (inr m) =
        head-two new offset (exchanged number (list ∷ []) lists) (omega (arith, long, m))
        (subst (IsRoot new offset) (sym (offsets-exchanged number (list ∷ []) lists ∙ set-same lists number list.offset l is)) (root m))

-- ---- an entry fewer

module _ (h0 h1 : Heap) (offset leaf left : ℕ) (place : Place) (lists : List KeyList) (h : HasLists h0 offset lists) (stands : StandsAmong lists place) (once : IsOnce (cells_under offset lists))
    (leaf_is : (numbered place.list lists).offset ≡ leaf) (less : left + 1 ≡ length (numbered place.list lists).list.entries) where
  abbrev entries : List Entry
  entries = (numbered place.list lists).list.entries

  number_left : length (without place.index entries) ≡ left
  number_left = omega (arith, length-without place.index entries stands.1, less)

  pub none-left : left ≡ 0 → left_over (numbered place.list lists).offset (without place.index entries) ≡ []
  none-left none = none-over (numbered place.list lists).offset place.index entries stands.1 (omega (arith, less, none))

  pub one-fewer : 0 < left → Writes h0 h1 (leaf ∷ []) → IsLeaf h1 leaf (without place.index entries) →
      AreExchanged h0 h1 offset lists offset (exchanged place.list (left_over (numbered place.list lists).offset (without place.index entries)) lists) []
  one-fewer some w is =
      let list : KeyList = leaf_list (numbered place.list lists).offset (without place.index entries) in
      let same : root_cells offset (exchanged place.list (list ∷ []) lists) ≡ root_cells offset lists =
      roots-as offset (exchanged place.list (list ∷ []) lists) lists (length-one place.list list lists stands.0) in
      let few = (list-stands h0 offset lists place.list h stands.0).written.few in
      let stand : Stands h1 list = record {
        leaf = subst (λ o. IsLeaf h1 o (without place.index entries)) (sym leaf_is) is;
        written = record { form = refl; some = omega (arith, number_left, some); few = omega (arith, number_left, less, few) };
      } in
      let here : (z : ℕ) → times z ((numbered place.list lists).offset ∷ []) ≡ times z (leaf ∷ []) = λ z. ap (λ o. times z (o ∷ [])) leaf_is in
      let before : (z : ℕ) → times z (root_cells offset lists ++ (numbered place.list lists).offset ∷ []) ≡ times z (root_cells offset lists) + times z (leaf ∷ []) =
      λ z. omega (arith, times-append z (root_cells offset lists) ((numbered place.list lists).offset ∷ []), here z) in
      let after : (z : ℕ) → times z (root_cells offset (exchanged place.list (list ∷ []) lists) ++ (numbered place.list lists).offset ∷ []) ≡ times z (root_cells offset lists) + times z (leaf ∷ []) =
      λ z. ap (λ roots. times z (roots ++ (numbered place.list lists).offset ∷ [])) same ∙ before z in
      subst (λ others. AreExchanged h0 h1 offset lists offset (exchanged place.list others lists) [])
      (sym (some-over (numbered place.list lists).offset (without place.index entries) (omega (arith, number_left, some))))
      (exchange h0 h1 offset offset place.list lists (list ∷ []) [] stands.0 h (once-nothing (cells_under offset lists) once)
      (record {
        count = λ z. omega (arith, w.count z, before z, after z);
        same = λ z none no. w.same z (omega (arith, none, before z)) (omega (arith, no, after z));
      })
      (stand, tt)
      (head-kept h0 h1 offset place.list list lists stands.0 h refl (λ two. root-still h0 h1 (λ z. times z (leaf ∷ [])) (λ z. times z (leaf ∷ [])) offset (offsets_of lists) w
      (subst (λ o. times offset (o ∷ []) ≡ 0) leaf_is (root-apart offset place.list lists [] two stands.0 (once-nothing (cells_under offset lists) once)))
      (root-stands h0 offset lists h two))))
