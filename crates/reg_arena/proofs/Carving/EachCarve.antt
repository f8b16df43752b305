-- Cells carved one after the other.
use Rattle.std.proofs.Common.{◌≡◌, ℕ, ◌+◌, ◌<◌, ◌≤◌, inl, inr, List, [], ◌∷◌, ◌++◌, length}
use Rattle.std.proofs.Common.{refl, ap, ◌∙◌, subst, arith, Ok, Err}
use Rattle.std.specs.Prelude.{IsOk, OnOk}
use Rattle.std.specs.declared.result.Result.{Result}
use Rattle.reg_heap.specs.Heaps.{AreNew}
use Rattle.reg_arena.specs.declared.ArenaFault.{ArenaFault}
use Rattle.reg_arena.specs.Cells.{cell_at}
use Rattle.reg_arena.specs.NewCells.{AreSizes, total_of}
use Rattle.reg_arena.specs.Carves.{CarvesExactly, AddsCells, IsRoom}
use Rattle.reg_arena.specs.EachCell.{fresh_bin, EachExactly, EachFalling, HasRoomForEach, CarvesChange}
use Rattle.reg_arena.proofs.Carving.BinGrowth.{bin-long}
use Rattle.reg_arena.proofs.Carving.CarvedCells.{adds_cells, adds_cells_in_bin}
use Rattle.reg_arena.proofs.Carving.FreshBins.{fresh-is}

-- ---- one cell

-- a carve of one size has one offset
pub one-carved : (result : Result (Unit {0}) ArenaFault) (old new : List ℕ) (size : ℕ) (out more : List ℕ) → IsOk result →
    OnOk result ((offsets : List ℕ) × (more ≡ out ++ offsets) × CarvesExactly old new (size ∷ []) offsets × AddsCells old new (size ∷ []) offsets) →
    (offset : ℕ) × (more ≡ out ++ offset ∷ []) × CarvesExactly old new (size ∷ []) (offset ∷ [])
one-carved (Err e) old new size out more ok carved = absurd (cc (ok))
one-carved (Ok x) old new size out more ok carved =
    let at = carved.2.carves.at in
    let one : carved.0 ≡ at ∷ [] = carved.2.carves.offsets_are in
    (at, carved.1 ∙ ap (λ offsets. out ++ offsets) one, subst (CarvesExactly old new (size ∷ [])) one carved.2)

-- it adds that cell
pub one-added : (old new : List ℕ) (size offset : ℕ) → AreSizes (size ∷ []) → CarvesExactly old new (size ∷ []) (offset ∷ []) →
    AreNew (cell_at old) (cell_at new) (offset ∷ []) (size ∷ [])
one-added old new size offset good c = by c.room
  where
    by : IsRoom old c.mid (total_of (size ∷ [])) → AreNew (cell_at old) (cell_at new) (offset ∷ []) (size ∷ [])
    by (inl same) = subst (λ bytes. AreNew (cell_at bytes) (cell_at new) (offset ∷ []) (size ∷ [])) same (adds_cells good c.carves).are_new
    by (inr (none, bin)) = (adds_cells_in_bin good bin c.carves).are_new

-- the bins grow by one that it fits at most
pub one-longer : (old new : List ℕ) (size offset : ℕ) → CarvesExactly old new (size ∷ []) (offset ∷ []) →
    (length old ≤ length new) × (length new ≤ length old + fresh_bin size)
one-longer old new size offset c = by c.room
  where
    by : IsRoom old c.mid (total_of (size ∷ [])) → (length old ≤ length new) × (length new ≤ length old + fresh_bin size)
    by (inl same) = let l = c.carves.long ∙ ap length same in (omega (arith, l), omega (arith, l))
    by (inr (none, bin)) =
        let l = c.carves.long ∙ bin-long old c.mid (total_of (size ∷ [])) bin in
        let least = fresh-is bin.size (total_of (size ∷ [])) bin.least in
        (omega (arith, l), omega (arith, l, least))

-- ---- all cells

-- one more behind those that there are
pub each-more : (old mid new : List ℕ) (size offset : ℕ) (sizes offsets : List ℕ) → EachExactly old mid sizes offsets →
    CarvesExactly mid new (size ∷ []) (offset ∷ []) → EachExactly old new (sizes ++ size ∷ []) (offsets ++ offset ∷ [])
each-more old mid new size offset [] [] each one = (new, subst (λ bytes. CarvesExactly bytes new (size ∷ []) (offset ∷ [])) each one, refl)
each-more old mid new size offset [] (o ∷ offsets) each one = absurd each
each-more old mid new size offset (s ∷ sizes) [] each one = absurd each
each-more old mid new size offset (s ∷ sizes) (o ∷ offsets) each one = (each.0, each.1, each-more each.0 mid new size offset sizes offsets each.2 one)

-- ---- a change

-- side by side, where there is no room for each
pub change-together : (result : Result (Unit {0}) ArenaFault) (old new sizes out more : List ℕ) → 0 < length sizes → (HasRoomForEach old sizes → ⊥) →
    OnOk result (0 < length sizes → (offsets : List ℕ) × (more ≡ out ++ offsets) × CarvesExactly old new sizes offsets × AddsCells old new sizes offsets) →
    OnOk result ((offsets : List ℕ) × (more ≡ out ++ offsets) × CarvesChange old new sizes offsets × AreNew (cell_at old) (cell_at new) offsets sizes)
change-together (Err e) old new sizes out more some none carved = tt
change-together (Ok x) old new sizes out more some none carved =
    let c = carved some in
    (c.0, c.1, record { apart = λ room. absurd (none room); together = λ n. c.2 }, c.3.are_new)

pub change-apart : (result : Result (Unit {0}) ArenaFault) (old new sizes out more : List ℕ) → HasRoomForEach old sizes →
    OnOk result ((offsets : List ℕ) × (more ≡ out ++ offsets) × EachFalling old new sizes offsets × AreNew (cell_at old) (cell_at new) offsets sizes) →
    OnOk result ((offsets : List ℕ) × (more ≡ out ++ offsets) × CarvesChange old new sizes offsets × AreNew (cell_at old) (cell_at new) offsets sizes)
change-apart (Err e) old new sizes out more room carved = tt
change-apart (Ok x) old new sizes out more room carved =
    (carved.0, carved.1, record { apart = λ r. carved.2; together = λ none. absurd (none room) }, carved.3)
