-- The keys of entries, with one more and one fewer.
use Rattle.std.proofs.Common.{◌≡◌, ℕ, zero, suc, ◌+◌, ◌<◌, ◌≤◌, IsSome, List, [], ◌∷◌, ◌++◌, length, take, drop, refl, sym, ◌∙◌, subst, arith}
use Rattle.std.specs.Prelude.{Err}
use Rattle.std.specs.List.{AllByRecursion}
use Rattle.std.proofs.lemmas.List.{take-map, drop-map, map-append, length-append, length-take-le, length-drop}
use Rattle.reg_arena.proofs.Contents.CellWrites.{all-append}
use Rattle.reg_names.specs.Names.{folded, hash}
use Rattle.reg_heap.specs.Heaps.{Heap}
use Rattle.reg_records.specs.KeyNodes.{key_at}
use Rattle.reg_records.specs.SubkeyLists.{Entry}
use Rattle.reg_index.specs.Internal.IndexLists.{AreKeys}
use Rattle.reg_index.specs.Subkeys.{name_at, names_in, Rises, IsIndexFor, entry_for, with_one, without}
use Rattle.reg_index.proofs.NameSearch.{length-names}
use Rattle.reg_index.proofs.SortedNames.{rises-added, rises-left}

-- ---- all but one

pub all-take : (P : Entry → Type 0) (index : ℕ) (entries : List Entry) → AllByRecursion P entries → AllByRecursion P (take index entries)
all-take P zero entries all = tt
all-take P (suc index) [] all = tt
all-take P (suc index) (e ∷ es) all = (all.0, all-take P index es all.1)

pub all-drop : (P : Entry → Type 0) (index : ℕ) (entries : List Entry) → AllByRecursion P entries → AllByRecursion P (drop index entries)
all-drop P zero entries all = all
all-drop P (suc index) [] all = tt
all-drop P (suc index) (e ∷ es) all = all-drop P index es all.1

all-without : (P : Entry → Type 0) (index : ℕ) (entries : List Entry) → AllByRecursion P entries → AllByRecursion P (without index entries)
all-without P index entries all = all-append P (take index entries) (drop (index + 1) entries) (all-take P index entries all) (all-drop P (index + 1) entries all)

names-without : (heap : Heap) (index : ℕ) (entries : List Entry) → names_in heap (without index entries) ≡ take index (names_in heap entries) ++ drop (index + 1) (names_in heap entries)
names-without heap index entries =
    map-append (λ (e : Entry). folded (name_at heap e.offset)) (take index entries) (drop (index + 1) entries)
    ∙ (λ i. sym (take-map (λ (e : Entry). folded (name_at heap e.offset)) index entries) i ++ sym (drop-map (λ (e : Entry). folded (name_at heap e.offset)) (index + 1) entries) i)

pub keys-without : (heap : Heap) (index : ℕ) (entries : List Entry) → index < length entries → AreKeys heap entries → AreKeys heap (without index entries)
keys-without heap index entries l k = record {
  keys = all-without (λ (e : Entry). IsSome (key_at heap e.offset)) index entries k.keys;
  hashes = all-without (λ (e : Entry). e.hint ≡ hash (name_at heap e.offset)) index entries k.hashes;
  rising = subst Rises (sym (names-without heap index entries)) (rises-left (names_in heap entries) index (omega (arith, length-names heap entries, l)) k.rising);
}

-- ---- one more among all

all-with : (P : Entry → Type 0) (index : ℕ) (entry : Entry) (entries : List Entry) → P entry → AllByRecursion P entries → AllByRecursion P (with_one index entry entries)
all-with P index entry entries one all = all-append P (take index entries) (entry ∷ drop index entries) (all-take P index entries all) (one, all-drop P index entries all)

names-with : (heap : Heap) (index : ℕ) (entry : Entry) (entries : List Entry) →
    names_in heap (with_one index entry entries) ≡ take index (names_in heap entries) ++ folded (name_at heap entry.offset) ∷ drop index
    (names_in heap entries)
names-with heap index entry entries =
    map-append (λ (e : Entry). folded (name_at heap e.offset)) (take index entries) (entry ∷ drop index entries)
    ∙ (λ i. sym (take-map (λ (e : Entry). folded (name_at heap e.offset)) index entries) i ++ folded (name_at heap entry.offset) ∷ sym
    (drop-map (λ (e : Entry). folded (name_at heap e.offset)) index entries) i)

pub keys-with : (heap : Heap) (index key : ℕ) (entries : List Entry) → IsSome (key_at heap key) → AreKeys heap entries →
    IsIndexFor (names_in heap entries) (folded (name_at heap key)) (Err index) → AreKeys heap (with_one index (entry_for heap key) entries)
keys-with heap index key entries some k offset = record {
  keys = all-with (λ (e : Entry). IsSome (key_at heap e.offset)) index (entry_for heap key) entries some k.keys;
  hashes = all-with (λ (e : Entry). e.hint ≡ hash (name_at heap e.offset)) index (entry_for heap key) entries refl k.hashes;
  rising = subst Rises (sym (names-with heap index (entry_for heap key) entries)) (rises-added (names_in heap entries) index (folded (name_at heap key)) offset.0 k.rising offset);
}

pub length-with : (index : ℕ) (entry : Entry) (entries : List Entry) → index ≤ length entries → length (with_one index entry entries) ≡ length entries + 1
length-with index entry entries l = omega (arith, l, length-append (take index entries) (entry ∷ drop index entries), length-take-le index entries l, length-drop index entries)
