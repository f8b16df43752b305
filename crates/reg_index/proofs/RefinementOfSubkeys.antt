-- What callers ask of a key's subkeys: as names in order, and where other cells change.
use Rattle.std.proofs.Common.{◌≡◌, ℕ, zero, suc, ◌<◌, List, [], ◌∷◌, map, length, get_or, refl, sym, ap, ◌∙◌, arith}
use Rattle.std.specs.List.{AllByRecursion}
use Rattle.std.specs.Ordering.{nat_cmp}
use Rattle.std.specs.Cmp.Lexicographic.{slice_cmp}
use Rattle.std.proofs.lemmas.List.{get_or-map, length-map}
use Rattle.reg_names.specs.Names.{folded}
use Rattle.reg_heap.specs.declared.limits.TheConstants.{NONE}
use Rattle.reg_heap.specs.Heaps.{Heap}
use Rattle.reg_heap.specs.Kinds.{times}
use Rattle.reg_records.specs.KeyNodes.{key_at}
use Rattle.reg_records.specs.SubkeyLists.{Entry}
use Rattle.reg_shape.specs.Written.{Pairwise, Precedes}
use Rattle.reg_index.specs.Subkeys.{name_at, names_in, Rises, AreSubkeys, own}
use Rattle.reg_index.proofs.SubkeysFrame.{no-subkeys, subkeys-stay}

-- ---- names

pub length-names : (heap : Heap) (entries : List Entry) → length (names_in heap entries) ≡ length entries
length-names heap entries = length-map entries (λ (e : Entry). folded (name_at heap e.offset))

-- ---- names in order

all-at : (P : List ℕ → Type 0) (names : List (List ℕ)) → AllByRecursion P names → (index : ℕ) → index < length names → P (get_or names index [])
all-at P [] all index l = absurd (omega arith)
all-at P (x ∷ xs) all zero l = all.0
all-at P (x ∷ xs) all (suc index) l = all-at P xs all.1 index (omega arith)

all-from : (P : List ℕ → Type 0) (names : List (List ℕ)) → ((index : ℕ) → index < length names → P (get_or names index [])) → AllByRecursion P names
all-from P [] f = tt
all-from P (x ∷ xs) f = (f 0 (omega arith), all-from P xs (λ index l. f (suc index) (omega arith)))

folded-at : (names : List (List ℕ)) (index : ℕ) → index < length names → get_or (map folded names) index [] ≡ folded (get_or names index [])
folded-at names index l = get_or-map folded names index [] [] l

pub rises-of : (names : List (List ℕ)) → Pairwise Precedes names → Rises (map folded names)
rises-of [] p i j l m = absurd (omega arith)
rises-of (x ∷ xs) p i zero l m = absurd (omega arith)
rises-of (x ∷ xs) p zero (suc j) l m =
    let n : j < length xs = omega (arith, m, length-map xs folded) in
    ap (slice_cmp nat_cmp (folded x)) (folded-at xs j n) ∙ all-at (Precedes x) xs p.0 j n
rises-of (x ∷ xs) p (suc i) (suc j) l m = rises-of xs p.1 i j (omega arith) (omega arith)

pub pairwise-of : (names : List (List ℕ)) → Rises (map folded names) → Pairwise Precedes names
pairwise-of [] r = tt
pairwise-of (x ∷ xs) r = (
  all-from (Precedes x) xs (λ j n. ap (slice_cmp nat_cmp (folded x)) (sym (folded-at xs j n)) ∙ r 0 (suc j) (omega arith) (omega (arith, n, length-map xs folded))),
  pairwise-of xs (λ i j l m. r (suc i) (suc j) (omega arith) (omega arith)),
)

-- ---- where other cells change

abbrev pub subkeys-elsewhere : (old new : Heap) (count offset : ℕ) (entries : List Entry) → AreSubkeys old count offset entries →
    ((z : ℕ) → 0 < times z (own old count offset) → new z ≡ old z) → AllByRecursion (λ (e : Entry). key_at new e.offset ≡ key_at old e.offset) entries
    → AreSubkeys new count offset entries
subkeys-elsewhere old new count offset entries s same stay = subkeys-stay old new count offset entries s same stay

-- a key without subkeys has no list
pub without-subkeys : (heap : Heap) → AreSubkeys heap 0 NONE []
without-subkeys heap = no-subkeys heap 0 NONE [] refl refl refl
