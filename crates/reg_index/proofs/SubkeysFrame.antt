-- Subkeys that stay what they are where other cells change.
use Rattle.std.proofs.Common.{◌≡◌, ◌≢◌, ℕ, zero, suc, ◌<◌, ◌≤◌, ◌==◌, Bool, true, false, not, cond, Option, Some, None, IsSome, is_some}
use Rattle.std.proofs.Common.{List, [], ◌∷◌, map, length, take, drop, refl, sym, ap, ◌∙◌, subst, arith}
use Rattle.std.specs.Prelude.{slice_index, Ok}
use Rattle.std.specs.List.{AllByRecursion}
use Rattle.std.specs.Option.{option_and_then}
use Rattle.std.proofs.lemmas.Bool.{false≢true, eqb-true, ne_eqb, and_parts}
use Rattle.std.proofs.lemmas.Option.{none-some}
use Rattle.reg_names.specs.Names.{folded, hash}
use Rattle.reg_heap.specs.declared.limits.TheConstants.{NONE}
use Rattle.reg_heap.specs.Heaps.{Heap, CellFrame, allocated}
use Rattle.reg_heap.specs.Kinds.{times, is_own, owned}
use Rattle.reg_records.specs.KeyNodes.{KeyRecord, nk_of, key_at}
use Rattle.reg_records.specs.Letters.{is_signed}
use Rattle.reg_records.specs.SubkeyLists.{SubkeysList, Entry, form_of, list_as, list_of}
use Rattle.reg_shape.specs.Nodes.{KeyList, Index, index_at, list_at}
use Rattle.reg_shape.specs.Nodes.Index.{Unlisted, Listed, Rooted}
use Rattle.reg_shape.specs.Internal.Shapes.{joined, lists_met, index_cells}
use Rattle.reg_shape.proofs.Wholeness.ShapeCounts.{tally-append, nothing-met, nothing-taken}
use Rattle.reg_shape.proofs.Frame.KeyFrame.{index-local}
use Rattle.reg_records.proofs.RecordWriting.{read_at-open, read_at-same, no_fault}
use Rattle.reg_index.specs.Internal.HashLeaves.{IsLeaf}
use Rattle.reg_index.specs.Internal.IndexLists.{AreKeys}
use Rattle.reg_index.specs.Subkeys.{name_at, name_or_none, names_in, Rises, AreSubkeys, cells_of_index, own}
use Rattle.reg_index.proofs.ListsRead.{list-read}
use Rattle.reg_index.proofs.NameSearch.{key-here}
use Rattle.reg_index.proofs.SubkeysOpening.{own-is, keys-of}

-- ---- a list is no key

without_form : (content : List ℕ) → slice_index content 0 ≡ 110 → form_of content ≡ None
without_form content e = rw e refl

not-false : (b : Bool) → not b ≡ false → b ≡ true
not-false true e = refl
not-false false e = absurd (false≢true (sym e))

signed-key : (content : List ℕ) (key : KeyRecord) → nk_of content ≡ Ok key → slice_index content 0 ≡ 110
unfolding nk_of
signed-key content key e =
    let first = no_fault _ _ _ key e in
    let second = no_fault _ _ _ key first.1 in
    eqb-true (slice_index content 0) 110 (and_parts (slice_index content 0 == 110) (slice_index content 1 == 107) (not-false (is_signed 110 107 content) second.0)).0

some-is : {A : Type 0} (o : Option A) → IsSome o → (x : A) × (o ≡ Some x)
some-is None s = absurd (false≢true s)
some-is (Some x) s = (x, refl)

form-read : (content : List ℕ) (l : SubkeysList) → list_of content ≡ Some l → form_of content ≡ None → ⊥
unfolding list_of
form-read content l e none = none-some _ (sym (ap (option_and_then (λ form. list_as form content)) none) ∙ e)

pub key-or-list : (heap : Heap) (cell : ℕ) (l : SubkeysList) → list_at heap cell ≡ Some l → IsSome (key_at heap cell) → ⊥
unfolding key_at
key-or-list heap cell l is some =
    let key = some-is (key_at heap cell) some in
    let read = read_at-open nk_of heap cell key.0 key.1 in
    form-read read.0 l (list-read heap cell read.0 l read.1 is) (without_form read.0 (signed-key read.0 key.0 read.2))

pub key-or-leaf : (heap : Heap) (offset : ℕ) (entries : List Entry) → IsLeaf heap offset entries → IsSome (key_at heap offset) → ⊥
key-or-leaf heap offset entries leaf some = key-or-list heap offset _ leaf some

-- ---- a cell that nothing took

few : (o : Option (List ℕ)) → cond (is_some o) 1 0 ≤ 1
few None = omega arith
few (Some x) = omega arith

there : (heap : Heap) (cell : ℕ) → IsSome (heap cell) → allocated heap cell ≡ 1
there heap cell some = ap (λ b. cond b 1 0) some

pub cell-stays : (old new : Heap) (gone came : ℕ → ℕ) (cell : ℕ) → CellFrame old new gone came → IsSome (old cell) → gone cell ≡ 0 → new cell ≡ old cell
cell-stays old new gone came cell frame some none = frame.same cell none (omega (arith, frame.count cell, there old cell some, few (new cell), none))

key-same : (old new : Heap) (cell : ℕ) → new cell ≡ old cell → key_at new cell ≡ key_at old cell
unfolding key_at
key-same old new cell same = read_at-same nk_of old new cell same

pub key-stays : (old new : Heap) (gone came : ℕ → ℕ) (key : ℕ) → CellFrame old new gone came → IsSome (key_at old key) → gone key ≡ 0 → key_at new key ≡ key_at old key
key-stays old new gone came key frame some none = key-same old new key (cell-stays old new gone came key frame (key-here old key some) none)

pub times-not : (offset cell : ℕ) (cells : List ℕ) → cell ≢ offset → times offset cells ≡ 0 → times offset (cell ∷ cells) ≡ 0
times-not offset cell cells n none = let one : ◌≡◌ {A = ℕ} (cond (cell == offset) 1 0) 0 = ap (λ b. cond b 1 0) (ne_eqb cell offset n) in omega (arith, one, none)

-- ---- all entries

pub all-map : (P Q : Entry → Type 0) (entries : List Entry) → ((e : Entry) → P e → Q e) → AllByRecursion P entries → AllByRecursion Q entries
all-map P Q [] f all = tt
all-map P Q (e ∷ es) f all = (f e all.0, all-map P Q es f all.1)

pub all-both : (P Q R : Entry → Type 0) (entries : List Entry) → ((e : Entry) → P e → Q e → R e) → AllByRecursion P entries → AllByRecursion Q entries → AllByRecursion R entries
all-both P Q R [] f p q = tt
all-both P Q R (e ∷ es) f p q = (f e p.0 q.0, all-both P Q R es f p.1 q.1)

-- these keys are what they were
abbrev pub Stay : Heap → Heap → List Entry → Type 0
Stay old new entries = AllByRecursion (λ (e : Entry). key_at new e.offset ≡ key_at old e.offset) entries

pub names-stay : (old new : Heap) (entries : List Entry) → Stay old new entries → names_in new entries ≡ names_in old entries
names-stay old new [] stay = refl
names-stay old new (e ∷ es) stay = let one : folded (name_at new e.offset) ≡ folded (name_at old e.offset) = ap (λ k. folded (name_or_none k)) stay.0 in (λ i. one i ∷ names-stay old new es stay.1 i)

pub keys-stay : (old new : Heap) (entries : List Entry) → AreKeys old entries → Stay old new entries → AreKeys new entries
keys-stay old new entries k stay = record {
  keys = all-both (λ (e : Entry). IsSome (key_at old e.offset)) (λ (e : Entry). key_at new e.offset ≡ key_at old e.offset)
      (λ (e : Entry). IsSome (key_at new e.offset)) entries (λ e s same. subst IsSome (sym same) s) k.keys stay;
  hashes = all-both (λ (e : Entry). e.hint ≡ hash (name_at old e.offset)) (λ (e : Entry). key_at new e.offset ≡ key_at old e.offset) (λ (e : Entry). e.hint ≡ hash (name_at new e.offset)) entries
      (λ e h same. h ∙ ap (λ key. hash (name_or_none key)) (sym same)) k.hashes stay;
  rising = subst Rises (sym (names-stay old new entries stay)) k.rising;
}

-- without subkeys there is no list
pub no-subkeys : (heap : Heap) (count offset : ℕ) (entries : List Entry) → count ≡ 0 → offset ≡ NONE → length entries ≡ 0 → AreSubkeys heap count offset entries
no-subkeys heap zero offset [] e none n = record {
  index = Unlisted;
  read = refl;
  written = tt;
  entries_are = refl;
  number = refl;
  unlisted = λ _. none;
  keys = tt;
  hashes = tt;
  rising = λ i j l m. absurd (omega arith);
}
no-subkeys heap zero offset (x ∷ entries) e none n = absurd (omega (arith, n))
no-subkeys heap (suc count) offset entries e none n = absurd (omega (arith, e))

-- ---- where a change is elsewhere

-- an index's cells, counted
owned-lists : (z : ℕ) (lists : List KeyList) → owned z (lists_met lists []) ≡ times z (map (λ (list : KeyList). list.offset) lists)
owned-lists z [] = refl
owned-lists z (list ∷ lists) =
    let n = length list.list.entries in
    let rest = owned-lists z lists in
    let parts = tally-append (is_own z) (joined (take n [])) (lists_met lists (drop n [])) in
    let none = nothing-taken (is_own z) n in
    let same = nothing-met (is_own z) lists n in
    omega (arith, rest, parts, none, same)

pub owned-index : (z : ℕ) (index : Index) → owned z (index_cells index) ≡ times z (cells_of_index index)
owned-index z Unlisted = refl
owned-index z (Listed list) = omega arith
owned-index z (Rooted offset lists) = let l = owned-lists z lists in omega (arith, l)

-- an index stays, where its cells do
pub index-stays : (old new : Heap) (count offset : ℕ) (index : Index) → index_at old count offset ≡ Some index →
    ((z : ℕ) → 0 < times z (cells_of_index index) → new z ≡ old z) → index_at new count offset ≡ Some index
index-stays old new count offset index e same = index-local old new count offset index e (λ z l. same z (let o = owned-index z index in omega (arith, o, l)))

-- subkeys stay, where the index's cells and the keys do
abbrev pub subkeys-stay : (old new : Heap) (count offset : ℕ) (entries : List Entry) → AreSubkeys old count offset entries →
    ((z : ℕ) → 0 < times z (own old count offset) → new z ≡ old z) → Stay old new entries → AreSubkeys new count offset entries
subkeys-stay old new count offset entries s same stay =
    let k = keys-stay old new entries (keys-of old count offset entries s) stay in
    record {
      index = s.index;
      read = index-stays old new count offset s.index s.read (λ z l. same z (subst (λ cells. 0 < times z cells) (sym (own-is old count offset s.index s.read)) l));
      written = s.written;
      entries_are = s.entries_are;
      number = s.number;
      unlisted = s.unlisted;
      keys = k.keys;
      hashes = k.hashes;
      rising = k.rising;
    }

-- and its cells are the same
pub own-stays : (old new : Heap) (count offset : ℕ) (entries : List Entry) → AreSubkeys old count offset entries →
    ((z : ℕ) → 0 < times z (own old count offset) → new z ≡ old z) → own new count offset ≡ own old count offset
own-stays old new count offset entries s same =
    own-is new count offset s.index (index-stays old new count offset s.index s.read
    (λ z l. same z (subst (λ cells. 0 < times z cells) (sym (own-is old count offset s.index s.read)) l)))
    ∙ sym (own-is old count offset s.index s.read)
