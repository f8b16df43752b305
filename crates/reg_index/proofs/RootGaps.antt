-- An index root with an offset written over, one put in, and one taken out; and a root moved to another cell.
use Rattle.std.proofs.Common.{◌≡◌, ◌≢◌, ℕ, zero, suc, ◌+◌, ◌-◌, ◌*◌, ◌^◌, ◌<◌, ◌≤◌, ◌==◌, cond, Option, Some, None, IsSome, List, [], ◌∷◌, ◌++◌, length, take, drop, get_or, refl, sym, ap, ◌∙◌, subst, arith}
use Rattle.std.specs.Prelude.{unwrap_or, slice_index}
use Rattle.std.proofs.lemmas.List.{get_or-drop}
use Rattle.std.proofs.lemmas.Option.{same_Some}
use Rattle.byteorder.specs.Endian.{little_bytes, little_number, little_from}
use Rattle.byteorder.specs.Numbers.{little_number-reads_back}
use Rattle.reg_heap.specs.Heaps.{Heap}
use Rattle.reg_heap.specs.ByteWords.{half, word, splice}
use Rattle.reg_records.specs.declared.lists.ListForm.TheVariants.{IndexRoot}
use Rattle.reg_records.specs.OffsetRows.{offsets_at}
use Rattle.reg_arena.specs.Arena.{Bins, heap_of}
use Rattle.reg_records.specs.RecordCells.{held, HasRoom, WritesCell}
use Rattle.reg_records.specs.SubkeyLists.{SubkeysList, form_of, head_bytes}
use Rattle.reg_records.proofs.SplicedNumbers.{length-splice, drop-within, get_or-below}
use Rattle.reg_index.specs.Internal.IndexLists.{IsRoot}
use Rattle.reg_index.proofs.LeafEntries.{length-part, get_or-within, get_or-part}
use Rattle.reg_index.proofs.LeafGaps.{changed-here, changed-others, spliced-long}
use Rattle.reg_index.proofs.RootOffsets.{offsets-append, take-offsets, drop-offsets, copied-offsets, offsets-before, offsets-behind, plain-same}
use Rattle.reg_index.proofs.RootParts.{Root, root-open, root-made}

held-of : (heap : Heap) (cell : ℕ) (content : List ℕ) → heap cell ≡ Some content → held heap cell ≡ content
held-of heap cell content here = ap (λ (o : Option (List ℕ)). unwrap_or o []) here

-- ---- the head

-- the same first bytes, the same form and number
little-same : (i n p : ℕ) (xs ys : List ℕ) → ((k : ℕ) → k < p + i + n → get_or ys k 0 ≡ get_or xs k 0) → little_from i n (drop p ys) ≡ little_from i n (drop p xs)
little-same i zero p xs ys same = refl
little-same i (suc n) p xs ys same =
    let byte : get_or (drop p ys) i 0 ≡ get_or (drop p xs) i 0 = get_or-drop p ys i 0 ∙ same (p + i) (omega arith) ∙ sym (get_or-drop p xs i 0) in
    let rest = little-same (suc i) n p xs ys (λ k h. same k (omega (arith, h))) in
    rw (byte, rest) refl

half-same : (xs ys : List ℕ) → ((k : ℕ) → k < 4 → get_or ys k 0 ≡ get_or xs k 0) → half ys 2 ≡ half xs 2
unfolding half
half-same xs ys same = little-same 0 2 2 xs ys (λ k h. same k (omega (arith, h)))

form-same : (xs ys : List ℕ) → ((k : ℕ) → k < 4 → get_or ys k 0 ≡ get_or xs k 0) → form_of ys ≡ form_of xs
form-same xs ys same =
    let first : slice_index ys 0 ≡ slice_index xs 0 = same 0 (omega arith) in
    let second : slice_index ys 1 ≡ slice_index xs 1 = same 1 (omega arith) in
    rw (first, second) refl

-- a head written over the offsets
module _ (heap : Heap) (cell count : ℕ) (c offsets : List ℕ) (here : heap cell ≡ Some (splice 0 (head_bytes IndexRoot count) c))
    (few : count < 65536) (long : 4 + 4 * count ≤ length c) where
  fits : 0 + length (head_bytes IndexRoot count) ≤ length c
  fits = omega (arith, long)

  signed : form_of (splice 0 (head_bytes IndexRoot count) c) ≡ Some IndexRoot
  unfolding splice
  signed = refl

  counted : half (splice 0 (head_bytes IndexRoot count) c) 2 ≡ count
  unfolding splice half
  counted = little_number-reads_back 2 count [] few

  headed : offsets_at count 4 c ≡ offsets → IsRoot heap cell offsets
  headed body =
      root-made heap cell (splice 0 (head_bytes IndexRoot count) c) offsets count here signed counted (omega (arith, length-splice 0 (head_bytes IndexRoot count) c fits, long))
      (offsets-behind 0 (head_bytes IndexRoot count) c fits count 4 (omega arith) ∙ body)

-- ---- an offset

module _ (c : List ℕ) (at offset : ℕ) (fits : at + 4 ≤ length c) (small : offset < 2 ^ 32) where
  put-word : word (splice at (little_bytes 4 offset) c) at ≡ offset
  unfolding word
  put-word =
      let z : at + 0 ≡ at = omega arith in
      let put : List ℕ = splice at (little_bytes 4 offset) c in
      let there : drop at put ≡ little_bytes 4 offset ++ drop (at + 4) c = ap (λ n. drop n put) (sym z) ∙ drop-within at (little_bytes 4 offset) c fits 0 (omega arith) in
      ap (little_number 4) there ∙ little_number-reads_back 4 offset [] small

module _ (heap : Heap) (cell number m : ℕ) (offsets : List ℕ) (root : Root heap cell offsets) (parted : length offsets ≡ number + m) where
  whole : offsets ≡ offsets_at (number + m) 4 (held heap cell)
  whole = sym root.says.body ∙ ap (λ n. offsets_at n 4 (held heap cell)) parted

  front-is : offsets_at number 4 (held heap cell) ≡ take number offsets
  front-is = sym (ap (take number) whole ∙ take-offsets number m 4 (held heap cell))

  back-is : offsets_at m (4 + 4 * number) (held heap cell) ≡ drop number offsets
  back-is = sym (ap (drop number) whole ∙ drop-offsets number m 4 (held heap cell))

pub root-fits : (heap : Heap) (cell count : ℕ) → ((offsets : List ℕ) × IsRoot heap cell offsets × (length offsets ≡ count)) → 4 + 4 * count ≤ length (held heap cell)
root-fits heap cell count s = omega (arith, (root-open heap cell s.0 s.1).says.long, s.2)

pub number-room : (heap : Heap) (cell number : ℕ) → ((offsets : List ℕ) × IsRoot heap cell offsets × (number < length offsets)) → HasRoom heap cell (4 + 4 * (number + 1))
number-room heap cell number s = let r = root-open heap cell s.0 s.1 in record { exists = r.exists; enough = omega (arith, r.says.long, s.2) }

next-offset : (number m : ℕ) (d : List ℕ) (offset : ℕ) (xs ys : List ℕ) → offsets_at number 4 d ≡ xs → word d (4 + 4 * number) ≡ offset →
    offsets_at m (4 + 4 * number + 4) d ≡ ys → offsets_at number 4 d ++ offsets_at (suc m) (4 + 4 * number) d ≡ xs ++ offset ∷ ys
unfolding offsets_at
next-offset number m d offset xs ys front here back = (λ i. front i ++ here i ∷ back i)

-- ---- one written over

pub over : (h0 h1 : Heap) (cell number offset : ℕ) → offset < 2 ^ 32 → h1 cell ≡ Some (splice (4 + 4 * number) (little_bytes 4 offset) (held h0 cell))
    → (offsets : List ℕ) → IsRoot h0 cell offsets → number < length offsets → IsRoot h1 cell (take number offsets ++ offset ∷ drop (suc number) offsets)
over h0 h1 cell number offset small one offsets is l =
    let root = root-open h0 cell offsets is in
    let c : List ℕ = held h0 cell in
    let m : ℕ = length offsets - suc number in
    let piece : List ℕ = little_bytes 4 offset in
    let big = root.says.long in
    let fits : 4 + 4 * number + length piece ≤ length c = omega (arith, big, l) in
    let d : List ℕ = splice (4 + 4 * number) piece c in
    let first : length offsets ≡ number + suc m = omega (arith, l) in
    let second : length offsets ≡ suc number + m = omega (arith, l) in
    let head : (k : ℕ) → k < 4 → get_or d k 0 ≡ get_or c k 0 = λ k h. get_or-below (4 + 4 * number) piece c fits k (omega (arith, h)) in
    let front : offsets_at number 4 d ≡ take number offsets = offsets-before (4 + 4 * number) piece c fits number 4 (omega arith) ∙ front-is h0 cell number (suc m) offsets root first in
    let next : 4 + 4 * number + 4 ≡ 4 + 4 * suc number = omega arith in
    let back : offsets_at m (4 + 4 * number + 4) d ≡ drop (suc number) offsets =
    offsets-behind (4 + 4 * number) piece c fits m (4 + 4 * number + 4) (omega arith)
    ∙ (ap (λ a. offsets_at m a c) next ∙ back-is h0 cell (suc number) m offsets root second) in
    root-made h1 cell d (take number offsets ++ offset ∷ drop (suc number) offsets) (length offsets) one (form-same c d head ∙ root.says.form)
    (half-same c d head ∙ root.says.count) (omega (arith, length-splice (4 + 4 * number) piece c fits, big))
    (ap (λ n. offsets_at n 4 d) first ∙ (offsets-append number (suc m) 4 d
    ∙ next-offset number m d offset (take number offsets) (drop (suc number) offsets) front (put-word c (4 + 4 * number) offset fits small) back))

-- ---- one put in

pub inserted : (h0 h1 h2 h3 : Heap) (cell count number offset : ℕ) → offset < 2 ^ 32 → number ≤ count → count + 1 < 65536 → 4 + 4 * (count + 1) ≤ length (held h0 cell)
    → ((o : ℕ) → h1 o ≡ cond (o == cell) (Some (splice (8 + 4 * number) (take (4 * (count - number)) (drop (4 + 4 * number) (held h0 cell))) (held h0 cell))) (h0 o))
    → h2 cell ≡ Some (splice (4 + 4 * number) (little_bytes 4 offset) (held h1 cell))
    → h3 cell ≡ Some (splice 0 (head_bytes IndexRoot (count + 1)) (held h2 cell))
    → (offsets : List ℕ) → IsRoot h0 cell offsets → length offsets ≡ count → IsRoot h3 cell (take number offsets ++ offset ∷ drop number offsets)
inserted h0 h1 h2 h3 cell count number offset small within few room one two three offsets is length_is =
    let root = root-open h0 cell offsets is in
    let c : List ℕ = held h0 cell in
    let m : ℕ = count - number in
    let moved : List ℕ = take (4 * m) (drop (4 + 4 * number) c) in
    let long : length moved ≡ 4 * m = length-part (4 + 4 * number) (4 * m) c (omega (arith, room, within)) in
    let fits1 : 8 + 4 * number + length moved ≤ length c = omega (arith, long, room, within) in
    let c1 : List ℕ = splice (8 + 4 * number) moved c in
    let now1 : held h1 cell ≡ c1 = held-of h1 cell c1 (changed-here h0 h1 cell (Some c1) one) in
    let long1 : length c1 ≡ length c = length-splice (8 + 4 * number) moved c fits1 in
    let piece : List ℕ = little_bytes 4 offset in
    let fits2 : 4 + 4 * number + length piece ≤ length c1 = omega (arith, long1, room, within) in
    let c2 : List ℕ = splice (4 + 4 * number) piece c1 in
    let now2 : held h2 cell ≡ c2 = held-of h2 cell c2 (two ∙ ap (λ c. Some (splice (4 + 4 * number) piece c)) now1) in
    let long2 : length c2 ≡ length c1 = length-splice (4 + 4 * number) piece c1 fits2 in
    let here : h3 cell ≡ Some (splice 0 (head_bytes IndexRoot (count + 1)) c2) = three ∙ ap (λ c. Some (splice 0 (head_bytes IndexRoot (count + 1)) c)) now2 in
    let parted : length offsets ≡ number + m = omega (arith, length_is, within) in
    let front : offsets_at number 4 c2 ≡ take number offsets =
    offsets-before (4 + 4 * number) piece c1 fits2 number 4 (omega arith)
    ∙ (offsets-before (8 + 4 * number) moved c fits1 number 4 (omega arith) ∙ front-is h0 cell number m offsets root parted) in
    let shift : offsets_at m (8 + 4 * number + 0) c1 ≡ offsets_at m (4 + 4 * number + 0) c =
    copied-offsets (4 + 4 * number) (8 + 4 * number) (4 * m) c c (omega (arith, room, within)) (omega (arith, room, within)) m 0 (omega arith) in
    let p : 4 + 4 * number + 4 ≡ 8 + 4 * number + 0 = omega arith in
    let q : 4 + 4 * number + 0 ≡ 4 + 4 * number = omega arith in
    let back : offsets_at m (4 + 4 * number + 4) c2 ≡ drop number offsets =
    offsets-behind (4 + 4 * number) piece c1 fits2 m (4 + 4 * number + 4) (omega arith)
    ∙ (ap (λ a. offsets_at m a c1) p ∙ (shift ∙ (ap (λ a. offsets_at m a c) q ∙ back-is h0 cell number m offsets root parted))) in
    let total : count + 1 ≡ number + suc m = omega (arith, within) in
    headed h3 cell (count + 1) c2 (take number offsets ++ offset ∷ drop number offsets) here few (omega (arith, long2, long1, room))
    (ap (λ n. offsets_at n 4 c2) total ∙ (offsets-append number (suc m) 4 c2
    ∙ next-offset number m c2 offset (take number offsets) (drop number offsets) front (put-word c1 (4 + 4 * number) offset fits2 small) back))

-- ---- one taken out

pub taken-out : (h0 h1 h2 : Heap) (cell left number : ℕ) → left < 65536 → number ≤ left
    → ((o : ℕ) → h1 o ≡ cond (o == cell) (Some (splice (4 + 4 * number) (take (4 * (left - number)) (drop (8 + 4 * number) (held h0 cell))) (held h0 cell))) (h0 o))
    → h2 cell ≡ Some (splice 0 (head_bytes IndexRoot left) (held h1 cell))
    → (offsets : List ℕ) → IsRoot h0 cell offsets → length offsets ≡ left + 1 → IsRoot h2 cell (take number offsets ++ drop (suc number) offsets)
taken-out h0 h1 h2 cell left number few within one two offsets is length_is =
    let root = root-open h0 cell offsets is in
    let c : List ℕ = held h0 cell in
    let big = root.says.long in
    let m : ℕ = left - number in
    let piece : List ℕ = take (4 * m) (drop (8 + 4 * number) c) in
    let long : length piece ≡ 4 * m = length-part (8 + 4 * number) (4 * m) c (omega (arith, big, length_is, within)) in
    let fits : 4 + 4 * number + length piece ≤ length c = omega (arith, long, big, length_is, within) in
    let d : List ℕ = splice (4 + 4 * number) piece c in
    let now : held h1 cell ≡ d = held-of h1 cell d (changed-here h0 h1 cell (Some d) one) in
    let here : h2 cell ≡ Some (splice 0 (head_bytes IndexRoot left) d) = two ∙ ap (λ c. Some (splice 0 (head_bytes IndexRoot left) c)) now in
    let first : length offsets ≡ number + suc m = omega (arith, length_is, within) in
    let second : length offsets ≡ suc number + m = omega (arith, length_is, within) in
    let front : offsets_at number 4 d ≡ take number offsets = offsets-before (4 + 4 * number) piece c fits number 4 (omega arith) ∙ front-is h0 cell number (suc m) offsets root first in
    let shift : offsets_at m (4 + 4 * number + 0) d ≡ offsets_at m (8 + 4 * number + 0) c =
    copied-offsets (8 + 4 * number) (4 + 4 * number) (4 * m) c c (omega (arith, big, length_is, within)) (omega (arith, big, length_is, within)) m 0 (omega arith) in
    let p : 4 + 4 * number ≡ 4 + 4 * number + 0 = omega arith in
    let q : 8 + 4 * number + 0 ≡ 4 + 4 * suc number = omega arith in
    let back : offsets_at m (4 + 4 * number) d ≡ drop (suc number) offsets =
    ap (λ a. offsets_at m a d) p ∙ (shift ∙ (ap (λ a. offsets_at m a c) q ∙ back-is h0 cell (suc number) m offsets root second)) in
    let total : left ≡ number + m = omega (arith, within) in
    headed h2 cell left d (take number offsets ++ drop (suc number) offsets) here few (omega (arith, length-splice (4 + 4 * number) piece c fits, big, length_is))
    (ap (λ n. offsets_at n 4 d) total ∙ (offsets-append number m 4 d ∙ (λ i. front i ++ back i)))

-- ---- a root in another cell

pub root-moved : (h0 h1 h2 : Heap) (cell fresh count : ℕ) → 4 + 4 * count ≤ length (held h0 fresh) → fresh ≢ cell
    → ((o : ℕ) → h1 o ≡ cond (o == fresh) (Some (splice 0 (take (4 + 4 * count) (drop 0 (held h0 cell))) (held h0 fresh))) (h0 o))
    → ((o : ℕ) → h2 o ≡ cond (o == cell) None (h1 o))
    → (offsets : List ℕ) → length offsets ≡ count → IsRoot h0 cell offsets → IsRoot h2 fresh offsets
root-moved h0 h1 h2 cell fresh count room apart one two offsets length_is is =
    let root = root-open h0 cell offsets is in
    let c : List ℕ = held h0 cell in
    let d : List ℕ = held h0 fresh in
    let big = root.says.long in
    let piece : List ℕ = take (4 + 4 * count) (drop 0 c) in
    let long : length piece ≡ 4 + 4 * count = length-part 0 (4 + 4 * count) c (omega (arith, big, length_is)) in
    let fits : 0 + length piece ≤ length d = omega (arith, long, room) in
    let e : List ℕ = splice 0 piece d in
    let here : h2 fresh ≡ Some e = changed-others h1 h2 cell None two fresh apart ∙ changed-here h0 h1 fresh (Some e) one in
    let head : (k : ℕ) → k < 4 → get_or e k 0 ≡ get_or c k 0 = λ k h.
    let z : k ≡ 0 + k = omega arith in
    ap (λ n. get_or e n 0) z ∙ (get_or-within 0 k piece d fits (omega (arith, long, h))
    ∙ (get_or-part 0 (4 + 4 * count) k c (omega (arith, h)) ∙ ap (λ n. get_or c n 0) (sym z))) in
    root-made h2 fresh e offsets (length offsets) here (form-same c e head ∙ root.says.form) (half-same c e head ∙ root.says.count)
    (omega (arith, length-splice 0 piece d fits, room, length_is))
    (copied-offsets 0 0 (4 + 4 * count) c d (omega (arith, big, length_is)) (omega (arith, room)) (length offsets) 4 (omega (arith, length_is)) ∙ root.says.body)

pub moved-room : (h0 h1 h2 : Heap) (cell fresh count size : ℕ) → 4 + 4 * count ≤ length (held h0 cell) → 4 + 4 * count ≤ length (held h0 fresh) →
    size ≤ length (held h0 fresh) → fresh ≢ cell
    → ((o : ℕ) → h1 o ≡ cond (o == fresh) (Some (splice 0 (take (4 + 4 * count) (drop 0 (held h0 cell))) (held h0 fresh))) (h0 o))
    → ((o : ℕ) → h2 o ≡ cond (o == cell) None (h1 o)) → size ≤ length (held h2 fresh)
moved-room h0 h1 h2 cell fresh count size big room enough apart one two =
    let piece : List ℕ = take (4 + 4 * count) (drop 0 (held h0 cell)) in
    let long : length piece ≡ 4 + 4 * count = length-part 0 (4 + 4 * count) (held h0 cell) (omega (arith, big)) in
    let same : length (held h1 fresh) ≡ length (held h0 fresh) = spliced-long h0 h1 fresh 0 piece (omega (arith, long, room)) one in
    let kept : length (held h2 fresh) ≡ length (held h1 fresh) = ap (λ (o : Option (List ℕ)). length (unwrap_or o [])) (changed-others h1 h2 cell None two fresh apart) in
    omega (arith, same, kept, enough)

-- ---- what roots say of their cells

pub root-there : {P : List ℕ → Type 0} (heap : Heap) (cell : ℕ) → ((offsets : List ℕ) × IsRoot heap cell offsets × P offsets) → IsSome (heap cell)
root-there heap cell s = (root-open heap cell s.0 s.1).exists

pub written-room : (old new : Bins) (cell size : ℕ) (content : List ℕ) → HasRoom (heap_of old) cell size → WritesCell old new cell content → HasRoom (heap_of new) cell size
written-room old new cell size content room w = record {
  exists = subst IsSome (sym w.here) refl;
  enough = omega (arith, w.as_many, room.enough, ap length (held-of (heap_of new) cell content w.here));
}

-- a cell is the root of one row of offsets
pub root-same : (heap : Heap) (cell : ℕ) (a b : List ℕ) → IsRoot heap cell a → IsRoot heap cell b → a ≡ b
root-same heap cell a b x y = plain-same a b (ap (λ (l : SubkeysList). l.entries) (same_Some _ _ (sym x ∙ y)))

pub same-count : (heap : Heap) (cell count : ℕ) → ((offsets : List ℕ) × IsRoot heap cell offsets × (length offsets ≡ count)) →
    (offsets : List ℕ) → IsRoot heap cell offsets → length offsets ≡ count
same-count heap cell count s offsets is = ap length (root-same heap cell offsets s.0 is s.1) ∙ s.2

-- ---- two in the stead of one

abbrev pub set_offset : ℕ → ℕ → List ℕ → List ℕ
set_offset number offset offsets = take number offsets ++ offset ∷ drop (suc number) offsets

pub length-set : (number offset : ℕ) (offsets : List ℕ) → number < length offsets → length (set_offset number offset offsets) ≡ length offsets
length-set number offset [] l = absurd (omega (arith, l))
length-set zero offset (o ∷ os) l = refl
length-set (suc number) offset (o ∷ os) l = ap suc (length-set number offset os (omega (arith, l)))

pub second-in : (number first second : ℕ) (offsets : List ℕ) → number < length offsets →
    take (number + 1) (set_offset number first offsets) ++ second ∷ drop (number + 1) (set_offset number first offsets) ≡
    take number offsets ++ first ∷ second ∷ drop (suc number) offsets
second-in number first second [] l = absurd (omega (arith, l))
second-in zero first second (o ∷ os) l = refl
second-in (suc number) first second (o ∷ os) l =
    let n : suc number + 1 ≡ suc (number + 1) = omega arith in
    ap (λ n. take n (o ∷ set_offset number first os) ++ second ∷ drop n (o ∷ set_offset number first os)) n ∙ ap (λ xs. o ∷ xs) (second-in number first second os (omega (arith, l)))
