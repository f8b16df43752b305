-- Rows of offsets, written and read back.
use Rattle.std.proofs.Common.{◌≡◌, ◌≢◌, ℕ, ◌+◌, ◌*◌, ◌^◌, ◌<◌, ◌≤◌, ◌⊎◌, inl, inr, List, [], length, Option, unwrap_or, ap, ◌∙◌, arith}
use Rattle.std.proofs.lemmas.Bool.{cases_order}
use Rattle.byteorder.specs.Endian.{little_bytes, little_number}
use Rattle.byteorder.specs.Numbers.{little_number-reads_back}
use Rattle.reg_heap.specs.ByteWords.{word, splice}
use Rattle.reg_arena.specs.Arena.{Bins, heap_of}
use Rattle.reg_records.specs.RecordCells.{WritesCell, HasRoom, held}
use Rattle.reg_records.specs.OffsetRows.{offset_in}
use Rattle.reg_records.proofs.SplicedNumbers.{number-below, number-above, drop-within}

module _ (row : List ℕ) (index offset : ℕ) (fits : 4 * index + 4 ≤ length row) where
  offset-written : offset < 2 ^ 32 → offset_in (splice (4 * index) (little_bytes 4 offset) row) index ≡ offset
  unfolding offset_in word
  offset-written small =
      let new : List ℕ = splice (4 * index) (little_bytes 4 offset) row in
      ap (λ n. word new n) (omega arith) ∙ ap (little_number 4) (drop-within (4 * index) (little_bytes 4 offset) row fits 0 (omega arith)) ∙ little_number-reads_back 4 offset [] small

  offset-beside : (other : ℕ) → other ≢ index → offset_in (splice (4 * index) (little_bytes 4 offset) row) other ≡ offset_in row other
  unfolding offset_in word
  offset-beside other apart = by (cases_order other index)
    where
      by : (other ≡ index) ⊎ ((other < index) ⊎ (index < other)) → word (splice (4 * index) (little_bytes 4 offset) row) (4 * other) ≡ word row (4 * other)
      by (inl e) = absurd (apart e)
      by (inr (inl l)) = number-below (4 * index) (little_bytes 4 offset) row fits 4 (4 * other) (omega arith)
      by (inr (inr l)) = number-above (4 * index) (little_bytes 4 offset) row fits 4 (4 * other) (omega arith)

module _ (old new : Bins) (cell index offset : ℕ) (room : HasRoom (heap_of old) cell (4 * index + 4))
    (written : WritesCell old new cell (splice (4 * index) (little_bytes 4 offset) (held (heap_of old) cell))) where
  now : held (heap_of new) cell ≡ splice (4 * index) (little_bytes 4 offset) (held (heap_of old) cell)
  now = ap (λ (o : Option (List ℕ)). unwrap_or o []) written.here

  pub put-here : offset < 2 ^ 32 → offset_in (held (heap_of new) cell) index ≡ offset
  put-here small = ap (λ row. offset_in row index) now ∙ offset-written (held (heap_of old) cell) index offset room.enough small

  pub put-others : (other : ℕ) → other ≢ index → offset_in (held (heap_of new) cell) other ≡ offset_in (held (heap_of old) cell) other
  put-others other apart = ap (λ row. offset_in row other) now ∙ offset-beside (held (heap_of old) cell) index offset room.enough other apart
