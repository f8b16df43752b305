use Rattle.std.proofs.Common.{◌≡◌, ◌+◌, ◌∷◌, [], arith, Err, ap, ℕ, List, length, refl, subst}
use Rattle.reg_arena.specs.NewBin.{IsBinSize}
use Rattle.reg_arena.specs.NewCells.{total_of}
use Rattle.reg_arena.proofs.Carving.BinGrowth.{first_bin}
use Rattle.reg_tree.proofs.cells.carve_two.Goals as goal

pub returns-in-Err-Full-clause-space : goal.returns-in-Err-Full-clause-space
returns-in-Err-Full-clause-space c = λ _. (c.in-Err-Full.ensures.full.0 (ap (λ f. Err f) c.in-Err-Full.field-0-is)).2

pub returns-in-Err-Full-clause-limit : goal.returns-in-Err-Full-clause-limit
returns-in-Err-Full-clause-limit c = λ _. (c.in-Err-Full.ensures.full.0 (ap (λ f. Err f) c.in-Err-Full.field-0-is)).1

-- a first bin is far below the limit
pub returns-in-Err-Full-clause-full : goal.returns-in-Err-Full-clause-full
returns-in-Err-Full-clause-full c = λ _ none.
    let past = (c.in-Err-Full.ensures.full.0 (ap (λ f. Err f) c.in-Err-Full.field-0-is)).1 in
    let small = past.least.least 16781312 refl (omega (arith, c.requires.sum)) in
    omega (arith, past.passes, small, ap (λ (bytes : List ℕ). length bytes) none)

pub returns-in-Ok-clause-bin : goal.returns-in-Ok-clause-bin
returns-in-Ok-clause-bin c = λ none.
    let new = c.in-Ok.ensures.ok (omega arith) in
    let total : total_of (c.args.first ∷ c.args.second ∷ []) ≡ c.args.first + c.args.second = omega arith in
    subst (IsBinSize (length c.carve.new.self.bytes)) total (first_bin _ _ _ new.0 none new.2)
