-- A carve takes a smallest cell that fits.
use Rattle.std.proofs.Common.{◌≡◌, ℕ, ◌+◌, ◌-◌, ◌<◌, ◌≤◌, false, List, [], ◌∷◌, ◌++◌, length, refl, sym, ap, ◌∙◌, subst, arith}
use Rattle.std.proofs.lemmas.Option.{same_Some}
use Rattle.std.specs.List.{AllByRecursion}
use Rattle.reg_arena.specs.declared.Cell.{Cell}
use Rattle.reg_arena.specs.declared.free_lists.Fit.{Fit}
use Rattle.reg_arena.specs.declared.free_lists.FreeLists.{FreeLists}
use Rattle.reg_arena.specs.Cells.{cells_in}
use Rattle.reg_arena.specs.NewBin.{AppendsBin}
use Rattle.reg_arena.specs.NewCells.{total_of, unused, offsets_of}
use Rattle.reg_arena.specs.Carves.{Carves, NoFit, IsSmallestFit}
use Rattle.reg_arena.specs.Internal.ListedCells.{free_size, HasFit}
use Rattle.reg_arena.proofs.Contents.CellContents.{AreOrdered, AreOrdered-AreBins}
use Rattle.reg_arena.proofs.Contents.CellWrites.{all-at}
use Rattle.reg_arena.proofs.FreeList.ListedArenas.{all-free, size-at}
use Rattle.reg_arena.proofs.Tiling.Tilings.{cells_of-AreBins}

-- ---- in a new bin

-- of the cells only the new bin's has room
only-new : (total at size : ℕ) (cells : List Cell) → AllByRecursion (λ (c : Cell). c.allocated ≡ false → c.size < total) cells →
    AllByRecursion (λ (c : Cell). c.allocated ≡ false → total ≤ c.size → c.size ≡ size) (cells ++ unused at size ∷ [])
only-new total at size [] none = ((λ f l. refl), tt)
only-new total at size (c ∷ cells) none = ((λ f l. (let z = none.0 f in absurd (omega arith))), only-new total at size cells none.1)

no-smaller : (total taken size : ℕ) (cells : List Cell) → taken ≡ size → AllByRecursion (λ (c : Cell). c.allocated ≡ false → total ≤ c.size → c.size ≡ size) cells →
    AllByRecursion (λ (c : Cell). c.allocated ≡ false → total ≤ c.size → c.size < 16384 → taken ≤ c.size) cells
no-smaller total taken size [] e all = tt
no-smaller total taken size (c ∷ cells) e all = ((λ f l s. (let z = all.0 f l in omega (arith, e, z))), no-smaller total taken size cells e all.1)

pub smallest_in_bin : (old mid new sizes offsets : List ℕ) → NoFit old (total_of sizes) → AppendsBin old mid (total_of sizes) → (c : Carves mid new sizes offsets) →
    IsSmallestFit mid (total_of sizes) c.size
smallest_in_bin old mid new sizes offsets none bin c cells e =
    let total = total_of sizes in
    let n : ℕ = bin.size - 32 in
    let all = only-new total (length old + 32) n bin.cells (none bin.cells bin.was) in
    let here : bin.cells ++ unused (length old + 32) n ∷ [] ≡ c.before ++ unused c.at c.size ∷ c.after = same_Some _ _ (sym bin.now ∙ c.was) in
    let taken : c.size ≡ n = all-at (λ (d : Cell). d.allocated ≡ false → total ≤ d.size → d.size ≡ n) c.before (unused c.at c.size) c.after
    (subst (AllByRecursion (λ (d : Cell). d.allocated ≡ false → total ≤ d.size → d.size ≡ n)) here all) refl c.fits in
    let these : bin.cells ++ unused (length old + 32) n ∷ [] ≡ cells = same_Some _ _ (sym bin.now ∙ e) in
    no-smaller total c.size n cells taken (subst (AllByRecursion (λ (d : Cell). d.allocated ≡ false → total ≤ d.size → d.size ≡ n)) these all)

-- ---- in the lists

-- the first offset is the cell's
first-offset : (sizes : List ℕ) (at cell : ℕ) → 0 < total_of sizes → offsets_of cell sizes ≡ offsets_of at sizes → cell ≡ at
first-offset [] at cell some e = absurd (omega arith)
first-offset (s ∷ sizes) at cell some e = cc (e)

pub smallest_found : (old new : List ℕ) (lists : FreeLists) (total : ℕ) (fit : Fit) (sizes : List ℕ) → HasFit old lists total fit → total ≡ total_of sizes → 0 < total →
    (c : Carves old new sizes (offsets_of fit.cell sizes)) → IsSmallestFit old (total_of sizes) c.size
smallest_found old new lists total fit sizes has e positive c cells now =
    let a = has.indexed.arena in
    let ordered = AreOrdered-AreBins old 0 a.layout a.tiled in
    let were : cells_in a.layout ≡ c.before ++ unused c.at c.size ∷ c.after = same_Some _ _ (sym (cells_of-AreBins old a.layout a.tiled) ∙ c.was) in
    let at : fit.cell ≡ c.at = first-offset sizes c.at fit.cell (omega (arith, e)) c.offsets_are in
    let there : free_size (cells_in a.layout) c.at ≡ c.size = ap (λ cs. free_size cs c.at) were ∙
    size-at 0 c.before (unused c.at c.size) c.after (subst (AreOrdered 0) were ordered) refl in
    let size : fit.size ≡ c.size = sym has.fit_is.free ∙ ap (free_size (cells_in a.layout)) at ∙ there in
    let these : cells_in a.layout ≡ cells = same_Some _ _ (sym (cells_of-AreBins old a.layout a.tiled) ∙ now) in
    subst (AllByRecursion (λ (d : Cell). d.allocated ≡ false → total_of sizes ≤ d.size → d.size < 16384 → c.size ≤ d.size)) these
    (all-free (λ (d : Cell). d.allocated ≡ false → total_of sizes ≤ d.size → d.size < 16384 → c.size ≤ d.size) (cells_in a.layout) [] (cells_in a.layout) refl
    (λ us d vs f free fits low. (let z : free_size (cells_in a.layout) d.offset ≡ d.size = ap (λ cs. free_size cs d.offset) f ∙ size-at 0 us d vs (subst (AreOrdered 0) f ordered) free in
    let least = has.fit_is.least d.offset (omega (arith, z, e)) (omega (arith, z)) in omega (arith, size, z, least))))
