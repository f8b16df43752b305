-- Big data records, written and read back.
use Rattle.std.proofs.Common.{◌≡◌, ℕ, ◌^◌, ◌<◌, ◌≤◌, Option, Some, List, [], ◌++◌, length, ap, ◌∙◌, arith}
use Rattle.std.proofs.lemmas.Bool.{le-ltb, cond-false}
use Rattle.std.specs.Prelude.{unwrap_or}
use Rattle.std.specs.Result.{result_ok}
use Rattle.byteorder.specs.Numbers.{little_number-reads_back}
use Rattle.reg_heap.specs.ByteWords.{half, word}
use Rattle.reg_arena.specs.Arena.{Bins, heap_of}
use Rattle.reg_records.specs.RecordCells.{WritesCell, held}
use Rattle.reg_records.specs.BigData.{db_in, db_of, db_bytes}

db-reads_back : (count list : ℕ) (rest : List ℕ) → count < 2 ^ 16 → list < 2 ^ 32 → db_of (db_bytes count list ++ rest) ≡ Some (record { count = count; list = list })
unfolding db_of db_in db_bytes half word
db-reads_back count list rest fits fits_list =
    let content : List ℕ = db_bytes count list ++ rest in
    let at_2 : half content 2 ≡ count = little_number-reads_back 2 count [] fits in
    let at_4 : word content 4 ≡ list = little_number-reads_back 4 list [] fits_list in
    let long : 8 ≤ length content = omega arith in
    ap result_ok (cond-false _ _ _ (le-ltb _ _ long)) ∙ (λ i. Some (record { count = at_2 i; list = at_4 i }))

-- a cell that a big data record was written into reads as it
pub db-written : (old new : Bins) (cell count list : ℕ) (rest : List ℕ) → WritesCell old new cell (db_bytes count list ++ rest) → count < 2 ^ 16 →
    list < 2 ^ 32 → db_of (held (heap_of new) cell) ≡ Some (record { count = count; list = list })
db-written old new cell count list rest written fits fits_list =
    ap (λ (o : Option (List ℕ)). db_of (unwrap_or o [])) written.here ∙ db-reads_back count list rest fits fits_list
