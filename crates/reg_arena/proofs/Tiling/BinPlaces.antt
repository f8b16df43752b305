-- Where the bins stand, as their headers say, before and after a change of cells.
use Rattle.std.proofs.Common.{◌≡◌, ℕ, List, [], ◌∷◌, ◌++◌, refl, sym, ap, ◌∙◌, Some}
use Rattle.reg_arena.specs.declared.Cell.{Cell}
use Rattle.reg_arena.specs.Cells.{Bin, AreBins, bins_of}
use Rattle.reg_arena.specs.Internal.BinParts.{IsSplit}
use Rattle.reg_arena.proofs.Tiling.Tilings.{places, with_cells, bins_of-AreBins}

places-edit : (ps : List Bin) (b : Bin) (qs : List Bin) (cells : List Cell) → places (ps ++ with_cells b cells ∷ qs) ≡ places (ps ++ b ∷ qs)
places-edit [] b qs cells = refl
places-edit (p ∷ ps) b qs cells = ap (λ rest. record { start = p.start; size = p.size } ∷ rest) (places-edit ps b qs cells)

-- where the layout is the same
pub places-same : (old new : List ℕ) (layout : List Bin) → AreBins old 0 layout → AreBins new 0 layout → bins_of new ≡ bins_of old
places-same old new layout h g = bins_of-AreBins new layout g ∙ sym (bins_of-AreBins old layout h)

-- where one bin's cells changed
pub places-edited : (old new : List ℕ) (layout ps : List Bin) (b : Bin) (qs : List Bin) (cells : List Cell) → layout ≡ ps ++ b ∷ qs → AreBins old 0 layout →
    AreBins new 0 (ps ++ with_cells b cells ∷ qs) → bins_of new ≡ bins_of old
places-edited old new layout ps b qs cells e h g =
    bins_of-AreBins new (ps ++ with_cells b cells ∷ qs) g ∙ ap Some (places-edit ps b qs cells ∙ ap places (sym e)) ∙ sym (bins_of-AreBins old layout h)

pub split-kept : (old new parts parts' : List ℕ) → bins_of new ≡ bins_of old → parts' ≡ parts → IsSplit old parts → IsSplit new parts'
unfolding IsSplit
split-kept old new parts parts' e p h = (h.0, e ∙ h.1, h.2 ∙ sym p)
