-- A piece of a cell's content is a piece of the bytes.
use Rattle.std.proofs.Common.{◌≡◌, ℕ, ◌+◌, ◌-◌, ◌<◌, ◌≤◌, true, List, [], length, take, drop, get_or, sym, ap, ◌∙◌, subst, arith, Option, is_some, length-take, length-drop}
use Rattle.std.proofs.lemmas.List.{ext_get_or, get_or-take, get_or-drop}
use Rattle.std.specs.Prelude.{unwrap_or}
use Rattle.reg_heap.specs.ByteWords.{word, splice}
use Rattle.reg_arena.specs.Cells.{cell_at, size_in}
use Rattle.reg_arena.specs.Arena.{IsArena}
use Rattle.reg_arena.specs.declared.free_lists.FreeLists.{FreeLists}
use Rattle.reg_arena.specs.Internal.ListedCells.{IsIndexed}
use Rattle.reg_arena.proofs.Contents.CellWrites.{found, wrote, Wrote}

pub part-of : (xs : List ℕ) (p m k n : ℕ) → k + n ≤ m → p + m ≤ length xs → take n (drop k (take m (drop p xs))) ≡ take n (drop (p + k) xs)
part-of xs p m k n a b =
    let one : length (take n (drop k (take m (drop p xs)))) ≡ n = simp (length-take, length-drop) (omega arith) in
    let two : length (take n (drop (p + k) xs)) ≡ n = simp (length-take, length-drop) (omega arith) in
    ext_get_or 0 _ _ (one ∙ sym two)
    (λ i h.
    let lt : i < n = omega arith in
    get_or-take n (drop k (take m (drop p xs))) i 0 lt ∙ get_or-drop k (take m (drop p xs)) i 0 ∙ get_or-take m (drop p xs) (k + i) 0 (omega arith) ∙ get_or-drop p xs (k + i) 0
    ∙ sym (get_or-take n (drop (p + k) xs) i 0 lt ∙ get_or-drop (p + k) xs i 0 ∙ ap (λ (j : ℕ). get_or xs j 0) (sums p k i)))
  where
    sums : (p k i : ℕ) → p + k + i ≡ p + (k + i)
    sums p k i = omega arith

-- so many bytes of what a cell holds
pub part : (old : List ℕ) (source from len : ℕ) → IsArena old → is_some (cell_at old source) ≡ true →
    from + len ≤ length (unwrap_or (cell_at old source) []) →
    take len (drop from (unwrap_or (cell_at old source) [])) ≡ take len (drop (source + 4 + from) old)
part old source from len a h l =
    let f = found old source a h in
    let size : ℕ = size_in (word old source) in
    let value : unwrap_or (cell_at old source) [] ≡ take (size - 4) (drop (source + 4) old) = ap (λ (o : Option (List ℕ)). unwrap_or o []) f.content in
    let long : length (unwrap_or (cell_at old source) []) ≡ size - 4 = ap length value ∙ simp (length-take, length-drop) (omega (arith, f.within, f.eight)) in
    ap (λ (xs : List ℕ). take len (drop from xs)) value ∙ part-of old (source + 4) (size - 4) from len (omega arith) (omega (arith, f.within, f.eight))

length-part : (xs : List ℕ) (k n : ℕ) → k + n ≤ length xs → length (take n (drop k xs)) ≡ n
length-part xs k n l = simp (length-take, length-drop) (omega arith)

-- what copying leaves
pub copied : (old new : List ℕ) (lists : FreeLists) (source from cell at len : ℕ) → IsIndexed old lists → is_some (cell_at old source) ≡ true →
    is_some (cell_at old cell) ≡ true → from + len ≤ length (unwrap_or (cell_at old source) []) → at + len ≤ length (unwrap_or (cell_at old cell) []) →
    new ≡ splice (cell + 4 + at) (take len (drop (source + 4 + from) old)) old →
    Wrote old new lists cell at (take len (drop from (unwrap_or (cell_at old source) [])))
copied old new lists source from cell at len i h g l m e =
    let piece : List ℕ = take len (drop from (unwrap_or (cell_at old source) [])) in
    let same : piece ≡ take len (drop (source + 4 + from) old) = part old source from len i.arena h l in
    let long : length piece ≡ len = length-part (unwrap_or (cell_at old source) []) from len l in
    let now : new ≡ splice (cell + 4 + at) piece old = e ∙ ap (λ (xs : List ℕ). splice (cell + 4 + at) xs old) (sym same) in
    subst (λ (bytes : List ℕ). Wrote old bytes lists cell at piece) (sym now) (wrote old lists cell at piece i g (omega arith))
