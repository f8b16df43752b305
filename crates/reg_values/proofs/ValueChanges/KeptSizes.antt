-- Cells that hold as many bytes as before.
use Rattle.std.proofs.Common.{ℕ, Option, IsSome, List, [], length, unwrap_or, refl, sym, ap, ◌∙◌, subst, arith}
use Rattle.reg_heap.specs.Heaps.{Heap, CellFrame}
use Rattle.reg_values.specs.ValueLists.{KeepsSizes}
use Rattle.reg_values.specs.Internal.ValueListParts.{Fills}
use Rattle.reg_values.proofs.ValueData.FilledCells.{fills-there}
use Rattle.reg_values.proofs.ValueFreeing.FrameChains.{allocated-le, there-one, kept-apart}

pub fills-keeps : (h k : Heap) (cells : List ℕ) → Fills h k cells → KeepsSizes h k
fills-keeps h k cells f = λ z e t. f.sizes z

-- cells were written first
pub fills-first : (h0 h1 h2 : Heap) (cells : List ℕ) → Fills h0 h1 cells → KeepsSizes h1 h2 → KeepsSizes h0 h2
fills-first h0 h1 h2 cells f k = λ z e t. k z (fills-there h0 h1 cells z f e) t ∙ f.sizes z

-- cells came first
pub new-first : (h0 h1 h2 : Heap) (came : ℕ → ℕ) → CellFrame h0 h1 (λ z. 0) came → KeepsSizes h1 h2 → KeepsSizes h0 h2
new-first h0 h1 h2 came s k = λ z e t.
    let one = there-one h0 z e in
    let same = kept-apart h0 h1 (λ z. 0) came s z (omega (arith, one)) refl in
    k z (subst IsSome (sym same) e) t ∙ ap (λ (o : Option (List ℕ)). length (unwrap_or o [])) same

-- cells were given up
pub gives-keeps : (h k : Heap) (f : ℕ → ℕ) → CellFrame h k f (λ z. 0) → KeepsSizes h k
gives-keeps h k f s = λ z e t.
    let a = there-one k z t in
    let b = allocated-le h z in
    let c = s.count z in
    ap (λ (o : Option (List ℕ)). length (unwrap_or o [])) (s.same z (omega (arith, a, b, c)) refl)
