-- How much longer the bins are after a carve.
use Rattle.std.proofs.Common.{◌≡◌, ℕ, ◌+◌, ◌*◌, ◌/◌, ◌≤◌, List, [], ◌∷◌, ◌++◌, Some, inl, inr, length, refl, sym, ap, ◌∙◌, subst, arith, length-append}
use Rattle.std.proofs.lemmas.Option.{same_Some}
use Rattle.reg_arena.specs.NewBin.{new_bin, IsBinSize, AppendsBin}
use Rattle.reg_arena.specs.declared.Cell.{Cell}
use Rattle.reg_arena.specs.Cells.{cells_of}
use Rattle.reg_arena.specs.NewCells.{total_of}
use Rattle.reg_arena.specs.Carves.{Carves, CarvesExactly, IsRoom}
use Rattle.reg_arena.proofs.Carving.NewBinBytes.{length-new_bin}

-- the least size is less than a page above what the header and the cells take
pub least-size : (size total : ℕ) → IsBinSize size total → size ≤ total + 4127
least-size size total l = let k = l.least ((total + 4127) / 4096 * 4096) (omega arith) (omega arith) in omega (arith, k)

-- a bin more has its size more
pub bin-long : (old mid : List ℕ) (total : ℕ) (b : AppendsBin old mid total) → length mid ≡ length old + b.size
bin-long old mid total b =
    let least = b.least in
    let n = length-new_bin (length old) b.size b.link (omega (arith, least.pages, least.holds)) in
    ap length b.bytes ∙ length-append old (new_bin (length old) b.size b.link) ∙ ap (λ n. length old + n) n

-- a carve of a free cell that was there
pub grows_none : {old new sizes offsets : List ℕ} → Carves old new sizes offsets → length new ≤ length old + 4127 + total_of sizes
grows_none c = let l = c.long in omega (arith, l)

pub keeps : {old new sizes offsets : List ℕ} → Carves old new sizes offsets → length old ≤ length new
keeps c = let l = c.long in omega (arith, l)

-- a carve of a new bin's free cell
pub grows_by_bin : {old mid new sizes offsets : List ℕ} {total : ℕ} → total ≡ total_of sizes → AppendsBin old mid total → Carves mid new sizes offsets →
    length new ≤ length old + 4127 + total_of sizes
grows_by_bin {old} {mid} {total = total} e b c =
    let l = c.long in
    let m = bin-long old mid total b in
    let s = least-size b.size total b.least in
    omega (arith, l, m, s, e)

pub keeps_by_bin : {old mid new sizes offsets : List ℕ} {total : ℕ} → AppendsBin old mid total → Carves mid new sizes offsets → length old ≤ length new
keeps_by_bin {old} {mid} {total = total} b c =
    let l = c.long in
    let m = bin-long old mid total b in
    omega (arith, l, m)

none-free : (before after : List Cell) (cell : Cell) → [] ≡ before ++ cell ∷ after → ⊥
none-free before after cell e = let l = ap length e in omega (arith, l, length-append before (cell ∷ after))

no-cells : cells_of [] ≡ Some []
unfolding cells_of
no-cells = refl

-- the first carve of all appends a bin of the least size
pub first_bin : (old new sizes offsets : List ℕ) → old ≡ [] → CarvesExactly old new sizes offsets → IsBinSize (length new) (total_of sizes)
first_bin old new sizes offsets none c = by c.room
  where
    by : IsRoom old c.mid (total_of sizes) → IsBinSize (length new) (total_of sizes)
    by (inl same) =
        absurd (none-free c.carves.before c.carves.after _
        (same_Some _ _ (sym no-cells ∙ (ap cells_of (sym (same ∙ none)) ∙ c.carves.was))))
    by (inr (full, b)) =
        let mid = c.carves.long in
        let one = bin-long old c.mid (total_of sizes) b in
        let zero = ap (λ (bytes : List ℕ). length bytes) none in
        let long : length new ≡ b.size = omega (arith, mid, one, zero) in
        subst (λ n. IsBinSize n (total_of sizes)) (sym long) b.least
