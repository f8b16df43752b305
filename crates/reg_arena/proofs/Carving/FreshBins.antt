-- The least bins for cells, one for each.
use Rattle.std.proofs.Common.{◌≡◌, ℕ, zero, suc, ◌+◌, ◌<◌, ◌≤◌, List, [], ◌∷◌, ◌++◌, length, get_or, take, ap, ◌∙◌, arith}
use Rattle.std.proofs.lemmas.List.{take_more}
use Rattle.reg_heap.specs.declared.limits.TheConstants.{BINS_LIMIT}
use Rattle.reg_arena.specs.declared.TheConstants.{CARVE_LIMIT}
use Rattle.reg_arena.specs.NewBin.{IsBinSize, PassesLimit}
use Rattle.reg_arena.specs.NewCells.{total_of}
use Rattle.reg_arena.specs.EachCell.{fresh_bin, fresh_of, AreCarvable}

-- the definition's number is the least
pub fresh-least : (size : ℕ) → IsBinSize (fresh_bin size) size
fresh-least size = record { pages = omega arith; holds = omega arith; least = λ other pages holds. omega (arith, pages, holds) }

-- and no other is
pub fresh-is : (n size : ℕ) → IsBinSize n size → n ≡ fresh_bin size
fresh-is n size b =
    let least = b.least (fresh_bin size) (omega arith) (omega arith) in
    let more = (fresh-least size).least n b.pages b.holds in
    omega (arith, least, more)

pub fresh-room : (bytes : List ℕ) (limit size : ℕ) → length bytes + fresh_bin size ≤ limit → (n : ℕ) → IsBinSize n size → length bytes + n ≤ limit
fresh-room bytes limit size l n b = let e = fresh-is n size b in omega (arith, e, l)

-- ---- sums

fresh_of-append : (ss ts : List ℕ) → fresh_of (ss ++ ts) ≡ fresh_of ss + fresh_of ts
fresh_of-append [] ts = omega arith
fresh_of-append (s ∷ ss) ts = let e = fresh_of-append ss ts in omega (arith, e)

fresh_of-take : (n : ℕ) (ss : List ℕ) → fresh_of (take n ss) ≤ fresh_of ss
fresh_of-take zero ss = omega arith
fresh_of-take (suc n) [] = omega arith
fresh_of-take (suc n) (s ∷ ss) = let e = fresh_of-take n ss in omega (arith, e)

pub fresh_of-more : (ss : List ℕ) (i : ℕ) → i < length ss → fresh_of (take (i + 1) ss) ≡ fresh_of (take i ss) + fresh_bin (get_or ss i 0)
fresh_of-more ss i l = ap fresh_of (take_more ss i 0 l) ∙ fresh_of-append (take i ss) (get_or ss i 0 ∷ []) ∙ omega arith

pub fresh_of-room : (ss : List ℕ) (i : ℕ) → i < length ss → fresh_of (take i ss) + fresh_bin (get_or ss i 0) ≤ fresh_of ss
fresh_of-room ss i l = omega (arith, fresh_of-more ss i l, fresh_of-take (i + 1) ss)

-- one bin for all cells is no larger than theirs together
pub fresh-together : (ss : List ℕ) → 0 < length ss → fresh_bin (total_of ss) ≤ fresh_of ss
fresh-together [] l = absurd (omega arith)
fresh-together (s ∷ []) l = omega arith
fresh-together (s ∷ (t ∷ ss)) l = let e = fresh-together (t ∷ ss) (omega arith) in omega (arith, e)

pub fresh-some : (ss : List ℕ) → 0 < fresh_of ss → 0 < length ss
fresh-some [] l = absurd (omega arith)
fresh-some (s ∷ ss) l = omega arith

-- where each cell's bin has room, the one for all has
pub fresh-passes : (bytes : List ℕ) (ss : List ℕ) → 0 < length ss → length bytes + fresh_of ss ≤ BINS_LIMIT → PassesLimit bytes (total_of ss) → ⊥
fresh-passes bytes ss some room past =
    let least = fresh-is past.size (total_of ss) past.least in
    let all = fresh-together ss some in
    omega (arith, least, all, room, past.passes)

-- a size is no more than all
pub carvable : (ss : List ℕ) (limit : ℕ) → total_of ss ≤ limit → limit ≤ CARVE_LIMIT → AreCarvable ss
carvable [] limit l small = tt
carvable (s ∷ ss) limit l small = (omega (arith, l, small), carvable ss limit (omega (arith, l)) small)
