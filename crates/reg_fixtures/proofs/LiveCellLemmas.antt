-- Live cells, after one was carved or freed.
use Rattle.std.proofs.Common.{◌≡◌, ℕ, ◌+◌, ◌<◌, ◌≤◌, Bool, true, false, cond, List, [], ◌∷◌, ◌++◌, length, length-append, get_or, refl, sym, subst, arith, eqb, is_some}
use Rattle.std.specs.Prelude.{sum_by, IsSome, Result, Ok, Err, OnOk, OnErr}
use Rattle.std.specs.List.{swap_remove}
use Rattle.std.proofs.lemmas.Bool.{eq-eqb}
use Rattle.std.proofs.lemmas.List.Sums.{sum_by-cons, sum_by-swap_remove}
use Rattle.reg_heap.specs.Heaps.{GivesUp, AreNew}
use Rattle.reg_heap.specs.Kinds.{times}
use Rattle.reg_arena.specs.Cells.{cell_at}
use Rattle.reg_arena.specs.Arena.{Bins}
use Rattle.reg_arena.specs.Carves.{CarvesExactly, AddsCells}
use Rattle.reg_arena.specs.declared.ArenaFault.{ArenaFault}
use Rattle.reg_fixtures.specs.LiveCells.{AreLive, FreesChosen}

abbrev pub is_at : ℕ → ℕ → ℕ
is_at x y = cond (eqb y x) 1 0

times-sum : (x : ℕ) (ys : List ℕ) → times x ys ≡ sum_by (is_at x) ys
times-sum x [] = refl
times-sum x (y ∷ ys) = let e = times-sum x ys in omega (arith, sum_by-cons (is_at x) y ys)

pub times-append : (x : ℕ) (ys zs : List ℕ) → times x (ys ++ zs) ≡ times x ys + times x zs
times-append x [] zs = omega arith
times-append x (y ∷ ys) zs = let e = times-append x ys zs in omega arith

pub times-removed : (x : ℕ) (ys : List ℕ) (i d : ℕ) → i < length ys → times x (swap_remove ys i d) + is_at x (get_or ys i d) ≡ times x ys
times-removed x ys i d l =
    omega (arith, times-sum x ys, times-sum x (swap_remove ys i d), sum_by-swap_remove (is_at x) ys i d l)

one-true : (b : Bool) → 1 ≤ cond b 1 0 → b ≡ true
one-true true h = refl
one-true false h = absurd (omega arith)

module _ (bytes live chosen : List ℕ) (every : AreLive bytes live chosen) where
  -- a live cell was taken out of its list, and noted as chosen where there was memory for it
  pub live-chosen : (rest more : List ℕ) (i cell : ℕ) (noted : Bool) → i < length live → cell ≡ get_or live i cell → rest ≡ swap_remove live i cell →
      more ≡ cond noted (chosen ++ cell ∷ []) chosen → AreLive bytes rest more
  live-chosen rest more i cell noted l e r m offset =
      let removed : times offset rest + is_at offset cell ≡ times offset live = subst (λ k. times offset rest + is_at offset k ≡ times offset live)
      (sym e) (rw r (times-removed offset live i cell l)) in
      let few : times offset more ≤ times offset chosen + is_at offset cell = rw m (few-by noted) in
      omega (arith, every offset)
    where
      few-by : (b : Bool) → times offset (cond b (chosen ++ cell ∷ []) chosen) ≤ times offset chosen + is_at offset cell
      few-by true = omega (arith, times-append offset chosen (cell ∷ []))
      few-by false = omega arith

  -- a chosen cell is allocated
  pub chosen-stands : (rest : List ℕ) (cell : ℕ) → chosen ≡ rest ++ cell ∷ [] → IsSome (cell_at bytes cell)
  chosen-stands rest cell e =
      let split : times cell chosen ≡ times cell rest + times cell (cell ∷ []) = rw e (times-append cell rest (cell ∷ [])) in
      let here : times cell (cell ∷ []) ≡ 1 = rw (eq-eqb cell cell refl) (omega arith) in
      one-true (is_some (cell_at bytes cell)) (omega (arith, every cell))

  -- a chosen cell was freed
  pub chosen-freed : (new rest : List ℕ) (cell : ℕ) → chosen ≡ rest ++ cell ∷ [] → GivesUp (cell_at bytes) (cell_at new) (cell ∷ []) → AreLive new live rest
  chosen-freed new rest cell e gone offset =
      let split : times offset chosen ≡ times offset rest + times offset (cell ∷ []) = rw e (times-append offset rest (cell ∷ [])) in
      omega (arith, every offset, gone.count offset)

  -- cells were carved
  live-carved : (new offsets more sizes : List ℕ) → more ≡ live ++ offsets → AreNew (cell_at bytes) (cell_at new) offsets sizes → AreLive new more chosen
  live-carved new offsets more sizes e come offset =
      let added : times offset more ≡ times offset live + times offset offsets = rw e (times-append offset live offsets) in
      omega (arith, every offset, come.come.count offset)

-- a carve of one cell, whatever it answered
pub live-carve : (old new : Bins) (live chosen more : List ℕ) (size : ℕ) (result : Result (Unit {0}) ArenaFault) → AreLive old.bytes live chosen →
    OnOk result (0 < length (size ∷ []) → (offsets : List ℕ) × (more ≡ live ++ offsets) × CarvesExactly old.bytes new.bytes (size ∷ []) offsets ×
    AddsCells old.bytes new.bytes (size ∷ []) offsets) → OnErr result ((new ≡ old) × (more ≡ live)) → AreLive new.bytes more chosen
live-carve old new live chosen more size (Ok x) every ok err =
    let added = ok (omega arith) in
    live-carved old.bytes live chosen every new.bytes added.0 more (size ∷ []) added.1 added.3.are_new
live-carve old new live chosen more size (Err e) every ok err = rw (err.0, err.1) every

-- one cell more is live then
pub live-longer : (old new : List ℕ) (live more : List ℕ) (size : ℕ) (result : Result (Unit {0}) ArenaFault) →
    OnOk result (0 < length (size ∷ []) → (offsets : List ℕ) × (more ≡ live ++ offsets) × CarvesExactly old new (size ∷ []) offsets ×
    AddsCells old new (size ∷ []) offsets) → OnOk result (length more ≡ length live + 1)
live-longer old new live more size (Ok x) ok =
    let added = ok (omega arith) in
    let one : length added.0 ≡ 1 = added.3.are_new.as_many in
    rw added.1 (rw length-append (omega arith))
live-longer old new live more size (Err e) ok = tt

-- a chosen cell was freed, counted
pub one-freed : (old new chosen rest : List ℕ) (cell : ℕ) → chosen ≡ rest ++ cell ∷ [] → GivesUp (cell_at old) (cell_at new) (cell ∷ []) → FreesChosen old new chosen rest
one-freed old new chosen rest cell e gone offset =
    let split : times offset chosen ≡ times offset rest + times offset (cell ∷ []) = rw e (times-append offset rest (cell ∷ [])) in
    omega (arith, gone.count offset)
