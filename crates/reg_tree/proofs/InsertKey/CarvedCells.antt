-- The cells carved for keys of a path's names, and behind them for a class and a descriptor: they are ready.
use Rattle.std.proofs.Common.{◌≡◌, ℕ, zero, suc, ◌+◌, ◌-◌, ◌≤◌, ◌<◌, Bool, true, false, cond, nat_lt, Option, Some, None, IsSome, List, [], ◌∷◌, ◌++◌, map, length, drop, get_or}
use Rattle.std.proofs.Common.{replicate, refl, sym, ap, ◌∙◌, subst, arith, length-append}
use Rattle.std.specs.Prelude.{unwrap_or, Result, Err}
use Rattle.std.specs.Option.{option_and_then}
use Rattle.std.specs.Result.{result_ok}
use Rattle.std.proofs.lemmas.Bool.{false≢true}
use Rattle.std.proofs.lemmas.List.{append_assoc, drop_all, length-map, length-replicate}
use Rattle.std.proofs.Math.Seq.{drop-append_seam, drop-cons}
use Rattle.reg_names.specs.Names.{path_of}
use Rattle.reg_heap.specs.Heaps.{Heap, AreNew}
use Rattle.reg_arena.specs.Cells.{cell_at}
use Rattle.reg_arena.specs.NewCells.{AreSizes}
use Rattle.reg_records.specs.RecordCells.{HasRoom, held}
use Rattle.reg_records.specs.declared.RecordFault.{RecordFault}
use Rattle.reg_records.specs.declared.RecordFault.TheVariants as record_fault
use Rattle.reg_records.specs.Letters.{is_signed}
use Rattle.reg_records.specs.KeyNodes.{KeyRecord, key_at, nk_of}
use Rattle.reg_index.specs.declared.IndexCells.{IndexCells}
use Rattle.reg_index.specs.declared.Place.{Place}
use Rattle.reg_index.specs.Subkeys.{IsReady, IsReadyCell, each_of, taken}
use Rattle.reg_index.proofs.PlannedSizes.{IsSizeTo}
use Rattle.reg_tree.specs.CellSizes.{first_cells, key_size, own_sizes, planned, planned_sizes, sizes_of}
use Rattle.reg_tree.specs.Internal.TreeInvariant.{IsHere}
use Rattle.reg_tree.specs.Internal.SpareCells.{HaveSizes, AreReady, IsClassSize, IsSecuritySize, IsSpared}
use Rattle.reg_tree.specs.Internal.DescriptorChange.{class_of, last_of}
use Rattle.reg_tree.proofs.InsertKey.PlanSizes.{IsPlan, first_plan, plan_good}
use Rattle.reg_tree.proofs.InsertKey.MadeCells.{carved_sizes}
use Rattle.reg_tree.proofs.InsertKey.PathCarve.{are-all-sizes, both-sizes}

-- ---- new cells

-- zeros are no key
no_letters : (size : ℕ) → is_signed 110 107 (replicate {A = ℕ} size 0) ≡ false
no_letters zero = refl
no_letters (suc size) = refl

no_zeros : (size : ℕ) → result_ok (nk_of (replicate {A = ℕ} size 0)) ≡ None
unfolding nk_of
no_zeros size = rw (no_letters size) (by (nat_lt (length (replicate {A = ℕ} size 0)) 76))
  where
    by : (b : Bool) → result_ok (cond {A = Result KeyRecord RecordFault} b (Err record_fault.Short) (Err record_fault.Signature)) ≡ None
    by true = refl
    by false = refl

held-long : (h : Heap) (cell size : ℕ) → h cell ≡ Some (replicate (size - 4) 0) → length (held h cell) ≡ size - 4
held-long h cell size z = ap (λ (o : Option (List ℕ)). length (unwrap_or o [])) z ∙ length-replicate {A = ℕ} (size - 4) 0

zeros-room : (h : Heap) (cell size room : ℕ) → h cell ≡ Some (replicate (size - 4) 0) → room + 4 ≤ size → HasRoom h cell room
zeros-room h cell size room z l = record { exists = subst IsSome (sym z) refl; enough = (let n = held-long h cell size z in omega (arith, n, l)) }

pub zeros-ready : (h : Heap) (cell size : ℕ) → h cell ≡ Some (replicate (size - 4) 0) → 4 ≤ size → IsReadyCell h (Some size) (Some cell)
unfolding key_at
zeros-ready h cell size z l = (
  subst IsSome (sym z) refl,
  (let n = held-long h cell size z in omega (arith, n, l)),
  ap (option_and_then (λ content. result_ok (nk_of content))) z ∙ no_zeros (size - 4),
)

abbrev Zeros : Heap → List ℕ → List ℕ → Type 0
Zeros h cells sizes = (index : ℕ) → index < length sizes → h (get_or cells index 0) ≡ Some (replicate (get_or sizes index 0 - 4) 0)

-- the first of some cells, where a size is planned for it, and those behind it
record Front (h : Heap) (plan : Option ℕ) (rest cells : List ℕ) : Type 0 where
  cell : Option ℕ
  left : List ℕ
  cells_are : cells ≡ taken cell ++ left
  ready : IsReadyCell h plan cell
  long : length left ≡ length rest
  zeros : Zeros h left rest

front : (h : Heap) (most : ℕ) (plan : Option ℕ) (rest cells : List ℕ) → IsSizeTo most plan → length cells ≡ length (taken plan ++ rest) → Zeros h cells (taken plan ++ rest) →
    Front h plan rest cells
front h most None rest cells p n z = record { cell = None; left = cells; cells_are = refl; ready = tt; long = n; zeros = z }
front h most (Some size) rest [] p n z = absurd (omega (arith, n))
front h most (Some size) rest (cell ∷ cells) p n z = record {
  cell = Some cell;
  left = cells;
  cells_are = refl;
  ready = zeros-ready h cell size (z 0 (omega arith)) (let q = (p size refl).1 in omega (arith, q));
  long = omega (arith, n);
  zeros = λ i l. z (suc i) (omega (arith, l));
}

-- the cells that a key's subkeys take, and those behind them
record Fronts (h : Heap) (plan : IndexCells) (rest cells : List ℕ) : Type 0 where
  each : IndexCells
  left : List ℕ
  cells_are : cells ≡ each_of each ++ left
  ready : IsReady h plan each
  long : length left ≡ length rest
  zeros : Zeros h left rest

rejoined : (a b c left behind rest cells : List ℕ) → cells ≡ a ++ rest → rest ≡ b ++ behind → behind ≡ c ++ left → cells ≡ ((a ++ b) ++ c) ++ left
rejoined a b c left behind rest cells e f g =
    e ∙ (ap (λ xs. a ++ xs) (f ∙ ap (λ xs. b ++ xs) g) ∙ (sym (append_assoc a b (c ++ left)) ∙ sym (append_assoc (a ++ b) c left)))

fronts : (h : Heap) (plan : IndexCells) (rest cells : List ℕ) → IsPlan plan → length cells ≡ length (each_of plan ++ rest) → Zeros h cells (each_of plan ++ rest) →
    Fronts h plan rest cells
fronts h plan rest cells p n z =
    let same : each_of plan ++ rest ≡ taken plan.list ++ (taken plan.second ++ (taken plan.root ++ rest)) =
    append_assoc (taken plan.list ++ taken plan.second) (taken plan.root) rest ∙ append_assoc (taken plan.list) (taken plan.second) (taken plan.root ++ rest) in
    let a = front h 4016 plan.list (taken plan.second ++ (taken plan.root ++ rest)) cells p.list (n ∙ ap length same) (subst (Zeros h cells) same z) in
    let b = front h 2016 plan.second (taken plan.root ++ rest) a.left p.second a.long a.zeros in
    let c = front h 240016 plan.root rest b.left p.root b.long b.zeros in
    record {
      each = record { list = a.cell; second = b.cell; root = c.cell };
      left = c.left;
      cells_are = rejoined (taken a.cell) (taken b.cell) (taken c.cell) c.left b.left a.left cells a.cells_are b.cells_are c.cells_are;
      ready = record { list = a.ready; second = b.ready; root = c.ready };
      long = c.long;
      zeros = c.zeros;
    }

-- the cells that keys of these names take, and those behind them
record Readied (h : Heap) (plan : IndexCells) (names : List (List ℕ)) (more cells : List ℕ) : Type 0 where
  used : List ℕ
  last : List ℕ
  parts : cells ≡ used ++ last
  ready : AreReady h last plan (map own_sizes names) cells
  long : length last ≡ length more
  zeros : Zeros h last more

-- of one key more: its subkeys' cells, its own, and those of the others
readied-with : (h : Heap) (plan : IndexCells) (name : List ℕ) (names : List (List ℕ)) (more cells : List ℕ) (each : IndexCells) (key : ℕ) (left : List ℕ) →
    Readied h first_cells names more left → cells ≡ each_of each ++ key ∷ left → IsReady h plan each → HasRoom h key (key_size name - 4) → Readied h plan (name ∷ names) more cells
readied-with h plan name names more cells each key left r are ready room = record {
  used = each_of each ++ key ∷ r.used;
  last = r.last;
  parts = are ∙ (ap (λ xs. each_of each ++ key ∷ xs) r.parts ∙ sym (append_assoc (each_of each) (key ∷ r.used) r.last));
  ready = record { cells = each; own = key ∷ []; left = left; spare_is = are; ready = ready; room = (room, tt); rest = r.ready };
  long = r.long;
  zeros = r.zeros;
}

readied-more : (h : Heap) (plan : IndexCells) (name : List ℕ) (names : List (List ℕ)) (more rest cells : List ℕ) (each : IndexCells) (left : List ℕ) → cells ≡ each_of each ++ left →
    IsReady h plan each → length left ≡ length (key_size name ∷ rest) → Zeros h left (key_size name ∷ rest) →
    ((cells : List ℕ) → length cells ≡ length rest → Zeros h cells rest → Readied h first_cells names more cells) → Readied h plan (name ∷ names) more cells
readied-more h plan name names more rest cells each [] are ready long zeros others = absurd (omega (arith, long))
readied-more h plan name names more rest cells each (key ∷ left) are ready long zeros others =
    readied-with h plan name names more cells each key left (others left (omega (arith, long)) (λ i l. zeros (suc i) (omega (arith, l)))) are ready
    (zeros-room h key (key_size name) (key_size name - 4) (zeros 0 (omega arith)) (omega arith))

readied : (h : Heap) (plan : IndexCells) (names : List (List ℕ)) (more cells : List ℕ) → IsPlan plan → length cells ≡ length (sizes_of plan (map own_sizes names) ++ more) →
    Zeros h cells (sizes_of plan (map own_sizes names) ++ more) → Readied h plan names more cells
readied h plan [] more cells p n z = record { used = []; last = cells; parts = refl; ready = refl; long = n; zeros = z }
readied h plan (name ∷ names) more cells p n z =
    let same : sizes_of plan (map own_sizes (name ∷ names)) ++ more ≡ each_of plan ++ (key_size name ∷ (sizes_of first_cells (map own_sizes names) ++ more)) =
    append_assoc (each_of plan) (key_size name ∷ sizes_of first_cells (map own_sizes names)) more in
    let f = fronts h plan (key_size name ∷ (sizes_of first_cells (map own_sizes names) ++ more)) cells p (n ∙ ap length same) (subst (Zeros h cells) same z) in
    readied-more h plan name names more (sizes_of first_cells (map own_sizes names) ++ more) cells f.each f.left f.cells_are f.ready f.long f.zeros
    (λ rest m y. readied h first_cells names more rest first_plan m y)

-- the cells behind them, of the sizes that are theirs
zeros-all : (h : Heap) (sizes cells : List ℕ) → AreSizes sizes → length cells ≡ length sizes → Zeros h cells sizes → HaveSizes h cells sizes
zeros-all h [] [] good n z = tt
zeros-all h [] (cell ∷ cells) good n z = absurd (omega (arith, n))
zeros-all h (size ∷ sizes) [] good n z = absurd (omega (arith, n))
zeros-all h (size ∷ sizes) (cell ∷ cells) good n z = (
  (let p = good.0.0 in let e = good.0.1 in zeros-room h cell size (size - 4) (z 0 (omega arith)) (omega (arith, p, e))),
  zeros-all h sizes cells good.1 (omega (arith, n)) (λ i l. z (suc i) (omega (arith, l))),
)

-- which are the last cell, where one is carved for a descriptor, or none
behind-last : (more : Option ℕ) (number : ℕ) (cells : List ℕ) → length cells ≡ number + length (planned_sizes more) → drop number cells ≡ taken (last_of more cells)
behind-last None number cells n = drop_all number cells (omega (arith, n))
behind-last (Some size) number cells n =
    let m : number < length cells = omega (arith, n) in
    let place : number ≡ length cells - 1 = omega (arith, n) in
    drop-cons cells number 0 m
    ∙ (ap (λ rest. get_or cells number 0 ∷ rest) (drop_all (suc number) cells (omega (arith, n)))
    ∙ ap (λ i. get_or cells i 0 ∷ []) place)

as-planned : (more : Option ℕ) → length (planned_sizes more) ≡ length (taken more)
as-planned None = refl
as-planned (Some size) = refl

-- and before it the one for a class, or none
behind-is : (class more : Option ℕ) (number : ℕ) (cells : List ℕ) → length cells ≡ number + length (planned_sizes class ++ planned_sizes more) →
    drop number cells ≡ taken (class_of class more cells) ++ taken (last_of more cells)
behind-is None more number cells n = behind-last more number cells n
behind-is (Some size) more number cells n =
    let same = as-planned more in
    let m : number < length cells = omega (arith, n) in
    let place : number ≡ length cells - 1 - length (taken more) = omega (arith, n, same) in
    drop-cons cells number 0 m
    ∙ (ap (λ rest. get_or cells number 0 ∷ rest) (behind-last more (suc number) cells (omega (arith, n)))
    ∙ ap (λ i. get_or cells i 0 ∷ taken (last_of more cells)) place)

last-is : (class more : Option ℕ) (used last cells : List ℕ) → cells ≡ used ++ last → length last ≡ length (planned_sizes class ++ planned_sizes more) →
    last ≡ taken (class_of class more cells) ++ taken (last_of more cells)
last-is class more used last cells parts long =
    sym (drop-append_seam used last)
    ∙ (ap (drop (length used)) (sym parts) ∙ behind-is class more (length used) cells (let e = ap length parts in let n = length-append used last in omega (arith, e, n, long)))

-- cells carved by these sizes are those that the keys take, the class's and the descriptor's
pub spared : (old new : List ℕ) (key : ℕ) (place : Place) (t : IsHere old key) (path : List ℕ) (plan : IndexCells) (class more : Option ℕ) →
    plan ≡ planned (cell_at old) key place → IsClassSize class → IsSecuritySize more → (sizes offsets cells : List ℕ) →
    sizes ≡ sizes_of plan (map own_sizes (path_of path)) ++ (planned_sizes class ++ planned_sizes more) → cells ≡ offsets → AreNew (cell_at old) (cell_at new) offsets sizes →
    IsSpared old new key place (path_of path) (planned_sizes class ++ planned_sizes more) (taken (class_of class more cells) ++ taken (last_of more cells)) cells
spared old new key place t path plan class more plan_is short security sizes offsets cells sizes_are cells_are adds =
    let own : IndexCells = planned (cell_at old) key place in
    let extra : List ℕ = planned_sizes class ++ planned_sizes more in
    let sized : sizes ≡ sizes_of own (map own_sizes (path_of path)) ++ extra =
    sizes_are ∙ ap (λ p. sizes_of p (map own_sizes (path_of path)) ++ extra) plan_is in
    let a : AreNew (cell_at old) (cell_at new) cells (sizes_of own (map own_sizes (path_of path)) ++ extra) =
    subst (λ c. AreNew (cell_at old) (cell_at new) c (sizes_of own (map own_sizes (path_of path)) ++ extra)) (sym cells_are)
    (subst (AreNew (cell_at old) (cell_at new) offsets) sized adds) in
    let good : IsPlan own = plan_good old key t place in
    let r = readied (cell_at new) own (path_of path) extra cells good a.as_many a.zeros in
    let last : r.last ≡ taken (class_of class more cells) ++ taken (last_of more cells) = last-is class more r.used r.last cells r.parts r.long in
    record {
      come = a.come;
      sizes = carved_sizes (cell_at new) cells (sizes_of own (map own_sizes (path_of path)) ++ extra) (are-all-sizes own (path_of path) class more good short security)
          a.as_many a.zeros (λ n. length-replicate {A = ℕ} n 0);
      ready = subst (λ left. AreReady (cell_at new) left own (map own_sizes (path_of path)) cells) last r.ready;
      others = subst (λ left. HaveSizes (cell_at new) left extra) last (zeros-all (cell_at new) extra r.last (both-sizes class more short security) r.long r.zeros);
    }

-- ---- the cells that are left

pub spare-long : (old mid : List ℕ) (key : ℕ) (place : Place) (names : List (List ℕ)) (more last cells : List ℕ) → IsSpared old mid key place names more last cells →
    length more ≤ length cells
spare-long old mid key place names more last cells s =
    let n = ap length s.sizes in
    let m = length-map cells (λ z. length (held (cell_at mid) z) + 4) in
    let l = length-append (sizes_of (planned (cell_at old) key place) (map own_sizes names)) more in
    omega (arith, n, m, l)

-- a descriptor's is among them
pub has-last : (class more : Option ℕ) (cells : List ℕ) → length (planned_sizes class ++ planned_sizes more) ≤ length cells → IsSome more → 0 < length cells
has-last class None cells l there = absurd (false≢true there)
has-last class (Some size) cells l there = let n = length-append (planned_sizes class) (size ∷ []) in omega (arith, n, l)

-- and a class's before it
pub has-class : (class more : Option ℕ) (cells : List ℕ) → length (planned_sizes class ++ planned_sizes more) ≤ length cells → IsSome class → length (taken more) < length cells
has-class None more cells l there = absurd (false≢true there)
has-class (Some size) more cells l there = let same = as-planned more in omega (arith, l, same)

pub rooms : (h : Heap) (class more : Option ℕ) (cells : List ℕ) →
    HaveSizes h (taken (class_of class more cells) ++ taken (last_of more cells)) (planned_sizes class ++ planned_sizes more) →
    HaveSizes h (taken (class_of class more cells)) (planned_sizes class) × HaveSizes h (taken (last_of more cells)) (planned_sizes more)
rooms h None more cells r = (tt, r)
rooms h (Some size) more cells r = ((r.0, tt), r.1)

pub both-taken : (class cell : Option ℕ) (a b : Option ℕ) → a ≡ class → b ≡ cell → taken class ++ taken cell ≡ taken a ++ taken b
both-taken class cell a b e f = ap (λ o. taken o ++ taken cell) (sym e) ∙ ap (λ o. taken a ++ taken o) (sym f)

-- of no sizes there is none
pub none-left : (h : Heap) (cell : Option ℕ) → HaveSizes h (taken cell) [] → taken cell ≡ []
none-left h None r = refl
none-left h (Some c) r = absurd r
