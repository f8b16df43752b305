-- Parts written into a cell, and what the cell reads as.
use Rattle.std.proofs.Common.{◌≡◌, ℕ, ◌+◌, ◌≤◌, Bool, true, false, cond, List, [], ◌∷◌, ◌++◌, length, take, drop, Option, Some, None, IsSome, unwrap_or, subst, refl, sym, ap, ◌∙◌, arith}
use Rattle.std.proofs.Common.{append_assoc, eqb}
use Rattle.std.proofs.lemmas.Bool.{eq-eqb, ne_eqb, false≢true}
use Rattle.std.proofs.lemmas.Option.{none-some, same_Some, option_and_then_some}
use Rattle.std.proofs.lemmas.List.{drop-drop, drop_at}
use Rattle.std.proofs.Math.Seq.{take-append_seam}
use Rattle.std.specs.Prelude.{Result, Ok, Err}
use Rattle.std.specs.Option.{option_and_then}
use Rattle.std.specs.Result.{result_ok}
use Rattle.reg_heap.specs.ByteWords.{splice}
use Rattle.reg_heap.specs.Heaps.{Writes}
use Rattle.reg_heap.proofs.CellFrame.{writes_twice}
use Rattle.reg_arena.specs.Arena.{Bins, heap_of}
use Rattle.reg_arena.specs.Cells.{cells_of}
use Rattle.reg_records.proofs.SplicedNumbers.{length-splice}
use Rattle.reg_records.specs.RecordCells.{Heap, held, read_at, HasRoom, WritesCell}

-- what a write of the arena does to a cell
pub wrote : (old new : Bins) (cell at : ℕ) (piece : List ℕ) → HasRoom (heap_of old) cell (at + length piece)
    → ((offset : ℕ) → heap_of new offset ≡ cond (eqb offset cell) (Some (splice at piece (held (heap_of old) cell))) (heap_of old offset))
    → cells_of new.bytes ≡ cells_of old.bytes → new.heads ≡ old.heads
    → Writes (heap_of old) (heap_of new) (cell ∷ [])
    → length new.bytes ≡ length old.bytes
    → WritesCell old new cell (splice at piece (held (heap_of old) cell))
wrote old new cell at piece room written cells heads writes long = record {
  here = written cell ∙ rw (eq-eqb cell cell refl) refl;
  as_many = length-splice at piece (held (heap_of old) cell) room.enough;
  others = λ offset n. written offset ∙ rw (ne_eqb offset cell n) refl;
  cells = cells;
  heads = heads;
  writes = writes;
  long = long;
}

-- a head and a tail, written one after the other
splice-twice : (head tail content : List ℕ) → splice (length head) tail (splice 0 head content) ≡ head ++ tail ++ drop (length head + length tail) content
unfolding splice
splice-twice head tail content =
    let once : List ℕ = head ++ drop (0 + length head) content in
    let front : take (length head) once ≡ head = take-append_seam head (drop (0 + length head) content) in
    let behind : drop (length head + length tail) once ≡ drop (length head + length tail) content =
    sym (drop-drop (length tail) (length head) once)
    ∙ ap (drop (length tail)) (drop_at head (drop (0 + length head) content) (length head) refl)
    ∙ drop-drop (length tail) (0 + length head) content
    ∙ ap (λ n. drop n content) (omega arith) in
    rw (front, behind) (sym (append_assoc head tail (drop (length head + length tail) content)))

-- a record of two parts, written by two writes
pub wrote_record : (old between new : Bins) (cell : ℕ) (head tail : List ℕ)
    → WritesCell old between cell (splice 0 head (held (heap_of old) cell))
    → WritesCell between new cell (splice (length head) tail (held (heap_of between) cell))
    → WritesCell old new cell (head ++ tail ++ drop (length head + length tail) (held (heap_of old) cell))
wrote_record old between new cell head tail first second =
    let now : held (heap_of between) cell ≡ splice 0 head (held (heap_of old) cell) = ap (λ (o : Option (List ℕ)). unwrap_or o []) first.here in
    let whole : splice (length head) tail (held (heap_of between) cell) ≡ head ++ tail ++ drop (length head + length tail) (held (heap_of old) cell) =
    ap (splice (length head) tail) now ∙ splice-twice head tail (held (heap_of old) cell) in
    record {
      here = second.here ∙ ap Some whole;
      as_many = ap length (sym whole) ∙ second.as_many ∙ ap length now ∙ first.as_many;
      others = λ offset n. second.others offset n ∙ first.others offset n;
      cells = second.cells ∙ first.cells;
      heads = second.heads ∙ first.heads;
      writes = writes_twice _ (heap_of between) _ (cell ∷ []) first.writes second.writes;
      long = second.long ∙ first.long;
    }

-- a cell reads as what its content reads as
pub read_at-made : {R F : Type 0} (reading : List ℕ → Result R F) (heap : Heap) (cell : ℕ) (content : List ℕ) (r : R)
    → heap cell ≡ Some content → reading content ≡ Ok r → read_at reading heap cell ≡ Some r
read_at-made reading heap cell content r here reads =
    ap (option_and_then (λ c. result_ok (reading c))) here ∙ ap result_ok reads

some_of : {R : Type 0} (o : Option R) → IsSome o → (r : R) × (o ≡ Some r)
some_of None h = absurd (false≢true h)
some_of (Some r) h = (r, refl)

ok_of : {R F : Type 0} (q : Result R F) (r : R) → result_ok q ≡ Some r → q ≡ Ok r
ok_of (Ok x) r e = ap Ok (same_Some _ _ e)
ok_of (Err f) r e = absurd (none-some r e)

-- what a cell that reads as something holds
pub read_at-open : {R F : Type 0} (reading : List ℕ → Result R F) (heap : Heap) (cell : ℕ) (r : R) → read_at reading heap cell ≡ Some r
    → (content : List ℕ) × (heap cell ≡ Some content) × (reading content ≡ Ok r)
read_at-open {R} reading heap cell r e =
    option_and_then_some (λ c. result_ok (reading c)) (heap cell) r e
    (λ content here reads. (content, here, ok_of (reading content) r reads))

-- a cell that holds so many bytes has room for them
pub room-of : (heap : Heap) (cell size : ℕ) (content : List ℕ) → heap cell ≡ Some content → size ≤ length content → HasRoom heap cell size
room-of heap cell size content here enough =
    let same : length (held heap cell) ≡ length content = ap (λ (o : Option (List ℕ)). length (unwrap_or o [])) here in
    record { exists = subst IsSome (sym here) refl; enough = omega arith }

-- a cell that reads as something has as much room as each content that does
pub read_at-room : {R F : Type 0} (reading : List ℕ → Result R F) (n : ℕ) → ((content : List ℕ) (r : R) → reading content ≡ Ok r → n ≤ length content)
    → (heap : Heap) (cell size : ℕ) → size ≤ n → IsSome (read_at reading heap cell) → HasRoom heap cell size
read_at-room reading n long heap cell size small some =
    let found = some_of _ some in
    let opened = read_at-open reading heap cell found.0 found.1 in
    let enough : n ≤ length opened.0 = long opened.0 found.0 opened.2 in
    room-of heap cell size opened.0 opened.1 (omega arith)

-- a part written over changes what the cell reads as, as it changes what contents read as
pub read_at-changed : {R F : Type 0} (reading : List ℕ → Result R F) (at : ℕ) (piece : List ℕ) (change : R → R)
    → ((content : List ℕ) (r : R) → reading content ≡ Ok r → reading (splice at piece content) ≡ Ok (change r))
    → (old new : Bins) (cell : ℕ) → WritesCell old new cell (splice at piece (held (heap_of old) cell))
    → (r : R) → read_at reading (heap_of old) cell ≡ Some r → read_at reading (heap_of new) cell ≡ Some (change r)
read_at-changed reading at piece change changes old new cell written r e =
    let opened = read_at-open reading (heap_of old) cell r e in
    let now : heap_of new cell ≡ Some (splice at piece opened.0) = written.here ∙ ap (λ (o : Option (List ℕ)). Some (splice at piece (unwrap_or o []))) opened.1 in
    read_at-made reading (heap_of new) cell (splice at piece opened.0) (change r) now (changes opened.0 r opened.2)

-- a test that finds a fault was false where none was found
pub no_fault : {R F : Type 0} (b : Bool) (fault : F) (rest : Result R F) (r : R) → cond b (Err fault) rest ≡ Ok r → (b ≡ false) × (rest ≡ Ok r)
no_fault true fault rest r e = absurd (cc e)
no_fault false fault rest r e = (refl, e)

pub same_ok : {R F : Type 0} (x y : R) → ◌≡◌ {A = Result R F} (Ok x) (Ok y) → x ≡ y
same_ok x y e = cc e

-- a reading looks at one cell
pub read_at-same : {R F : Type 0} (reading : List ℕ → Result R F) (old new : Heap) (cell : ℕ) → new cell ≡ old cell → read_at reading new cell ≡ read_at reading old cell
read_at-same reading old new cell same = ap (option_and_then (λ c. result_ok (reading c))) same
