-- How the bins grow for the cells of a change: not at all where a free cell has room for all of them together.
use Rattle.std.proofs.Common.{◌≡◌, ℕ, zero, suc, ◌+◌, ◌-◌, ◌<◌, ◌≤◌, ◌%◌, ◌⊎◌, inl, inr, Bool, false, true, cond, List, [], ◌∷◌, ◌++◌, length, get_or, set}
use Rattle.std.proofs.Common.{refl, sym, ap, ◌∙◌, subst, arith, ltb, Option, Some, Ok, Err}
use Rattle.std.specs.Prelude.{OnOk}
use Rattle.std.specs.List.{AllByRecursion}
use Rattle.std.specs.declared.result.Result.{Result}
use Rattle.std.proofs.lemmas.Bool.{cases_lt, eq-eqb, le-ltb}
use Rattle.std.proofs.lemmas.List.{length-set}
use Rattle.reg_heap.specs.Kinds.{times}
use Rattle.reg_heap.specs.Heaps.{AreNew}
use Rattle.reg_arena.specs.declared.ArenaFault.{ArenaFault}
use Rattle.reg_arena.specs.declared.Cell.{Cell}
use Rattle.reg_arena.specs.Cells.{cell_at}
use Rattle.reg_arena.specs.NewCells.{AreSizes, total_of, carved}
use Rattle.reg_arena.specs.Carves.{AddsCells, Carves, CarvesExactly, IsRoom, NoFit, rest_of}
use Rattle.reg_arena.specs.EachCell.{fresh_of, at_places, EachExactly, EachFalling, HasRoomForEach, GrowsFor}
use Rattle.reg_arena.proofs.Contents.CellWrites.{all-append}
use Rattle.reg_arena.proofs.FreeList.ThreadLinks.{times-none}
use Rattle.reg_arena.proofs.Carving.BinGrowth.{bin-long}
use Rattle.reg_arena.proofs.Carving.EachCarve.{one-longer}
use Rattle.reg_arena.proofs.Carving.FallingCells.{at_places-set}
use Rattle.reg_arena.proofs.Carving.FreshBins.{fresh-is, fresh-together}
use Rattle.reg_arena.proofs.Carving.LargestLeft.{all-place}

-- ---- free cells that are too small

-- a cell that is free has fewer bytes than these
abbrev pub IsUnder : ℕ → Cell → Type 0
IsUnder total cell = cell.allocated ≡ false → cell.size < total

all-larger : (a b : ℕ) (cells : List Cell) → a ≤ b → AllByRecursion (IsUnder a) cells → AllByRecursion (IsUnder b) cells
all-larger a b [] l all = tt
all-larger a b (c ∷ cells) l all = ((λ e. (let less = all.0 e in omega (arith, less, l))), all-larger a b cells l all.1)

all-front : (P : Cell → Type 0) (xs ys : List Cell) → AllByRecursion P (xs ++ ys) → AllByRecursion P xs
all-front P [] ys all = tt
all-front P (x ∷ xs) ys all = (all.0, all-front P xs ys all.1)

all-back : (P : Cell → Type 0) (xs ys : List Cell) → AllByRecursion P (xs ++ ys) → AllByRecursion P ys
all-back P [] ys all = all
all-back P (x ∷ xs) ys all = all-back P xs ys all.1

pub no_fit-larger : (bytes : List ℕ) (a b : ℕ) → a ≤ b → NoFit bytes a → NoFit bytes b
no_fit-larger bytes a b l none cells e = all-larger a b cells l (none cells e)

rest-small : (at left rest : ℕ) → 0 < rest → AllByRecursion (IsUnder rest) (rest_of at left) → left < rest
rest-small at zero rest some all = some
rest-small at (suc n) rest some all = all.0 refl

some-same : (x y : List Cell) → ◌≡◌ {A = Option (List Cell)} (Some x) (Some y) → x ≡ y
some-same x y e = cc (e)

-- where no free cell is left for the rest, there was none for the cell that was cut and the rest
pub fit-before : (old new offsets : List ℕ) (size rest : ℕ) → 0 < rest → Carves old new (size ∷ []) offsets → NoFit new rest → NoFit old (size + rest)
fit-before old new offsets size rest some c none cells e =
    subst (AllByRecursion (IsUnder (size + rest))) (some-same _ _ (sym c.was ∙ e)) (all-append (IsUnder (size + rest)) c.before _ before ((λ free. here), after))
  where
    all : AllByRecursion (IsUnder rest) (c.before ++ ((carved c.at (size ∷ []) ++ rest_of (c.at + total_of (size ∷ [])) (c.size - total_of (size ∷ []))) ++ c.after))
    all = none _ c.now

    behind : AllByRecursion (IsUnder rest) ((carved c.at (size ∷ []) ++ rest_of (c.at + total_of (size ∷ [])) (c.size - total_of (size ∷ []))) ++ c.after)
    behind = all-back (IsUnder rest) c.before _ all

    before : AllByRecursion (IsUnder (size + rest)) c.before
    before = all-larger rest (size + rest) c.before (omega arith) (all-front (IsUnder rest) c.before _ all)

    after : AllByRecursion (IsUnder (size + rest)) c.after
    after = all-larger rest (size + rest) c.after (omega arith)
        (all-back (IsUnder rest) (carved c.at (size ∷ []) ++ rest_of (c.at + total_of (size ∷ [])) (c.size - total_of (size ∷ []))) c.after behind)

    left : c.size - total_of (size ∷ []) < rest
    left = rest-small (c.at + total_of (size ∷ [])) (c.size - total_of (size ∷ [])) rest some (all-back (IsUnder rest) (carved c.at (size ∷ []))
        (rest_of (c.at + total_of (size ∷ [])) (c.size - total_of (size ∷ [])))
        (all-front (IsUnder rest) (carved c.at (size ∷ []) ++ rest_of (c.at + total_of (size ∷ [])) (c.size - total_of (size ∷ []))) c.after behind))

    here : c.size < size + rest
    here = (let fits = c.fits in omega (arith, fits, left))

-- ---- one cell after the other

-- the bins keep their length, or no free cell had room for all
each-grows : (old new sizes offsets : List ℕ) → AllByRecursion (λ size. 0 < size) sizes → EachExactly old new sizes offsets →
    (length new ≡ length old) ⊎ NoFit old (total_of sizes)
each-grows old new [] [] good each = inl (ap length each)
each-grows old new [] (o ∷ offsets) good each = absurd each
each-grows old new (s ∷ sizes) [] good each = absurd each
each-grows old new (s ∷ sizes) (o ∷ offsets) good each = by each.1.room (each-grows each.0 new sizes offsets good.1 each.2)
  where
    first : CarvesExactly old each.0 (s ∷ []) (o ∷ [])
    first = each.1

    step : (sizes offsets : List ℕ) → AllByRecursion (λ size. 0 < size) sizes → EachExactly each.0 new sizes offsets →
        length each.0 ≡ length old → Carves old each.0 (s ∷ []) (o ∷ []) →
        (length new ≡ length each.0) ⊎ NoFit each.0 (total_of sizes) → (length new ≡ length old) ⊎ NoFit old (s + total_of sizes)
    step sizes offsets good rest long c (inl same) = inl (same ∙ long)
    step [] [] good rest long c (inr none) = inl (ap length rest ∙ long)
    step [] (p ∷ offsets) good rest long c (inr none) = absurd rest
    step (t ∷ sizes) offsets good rest long c (inr none) = inr (fit-before old each.0 (o ∷ []) s (t + total_of sizes) (let some = good.0 in omega (arith, some)) c none)

    by : IsRoom old each.1.mid (total_of (s ∷ [])) → (length new ≡ length each.0) ⊎ NoFit each.0 (total_of sizes) →
        (length new ≡ length old) ⊎ NoFit old (s + total_of sizes)
    by (inl same) rest =
        let c = subst (λ bytes. Carves bytes each.0 (s ∷ []) (o ∷ [])) same first.carves in
        step sizes offsets good.1 each.2 c.long c rest
    by (inr (none, bin)) rest = inr (no_fit-larger old (total_of (s ∷ [])) (s + total_of sizes) (omega arith) none)

-- they grow by no more than a bin for each
each-longer : (old new sizes offsets : List ℕ) → EachExactly old new sizes offsets → length new ≤ length old + fresh_of sizes
each-longer old new [] [] each = (let e = ap length each in omega (arith, e))
each-longer old new [] (o ∷ offsets) each = absurd each
each-longer old new (s ∷ sizes) [] each = absurd each
each-longer old new (s ∷ sizes) (o ∷ offsets) each =
    let one = (one-longer old each.0 s o each.1).1 in
    let more = each-longer each.0 new sizes offsets each.2 in
    omega (arith, one, more)

-- ---- the turn

total-set : (sizes : List ℕ) (place : ℕ) → place < length sizes → total_of (set sizes place 0) + get_or sizes place 0 ≡ total_of sizes
total-set [] place l = absurd (omega (arith, l))
total-set (s ∷ sizes) zero l = omega arith
total-set (s ∷ sizes) (suc place) l = let e = total-set sizes place (omega (arith, l)) in omega (arith, e)

-- each place at most once, and only places of the sizes
pub record IsTurn (sizes turn : List ℕ) : Type 0 where
  pub once : (place : ℕ) → times place turn ≤ 1
  pub within : (place : ℕ) → length sizes ≤ place → times place turn ≡ 0

turn-here : (sizes : List ℕ) (place : ℕ) (turn : List ℕ) → IsTurn sizes (place ∷ turn) → (place < length sizes) × (times place turn ≡ 0)
turn-here sizes place turn t = (by (cases_lt place (length sizes)), let once = t.once place in omega (arith, here, once))
  where
    here : times place (place ∷ turn) ≡ 1 + times place turn
    here = ap (λ (b : Bool). cond b 1 0 + times place turn) (eq-eqb place place refl)

    by : (place < length sizes) ⊎ (length sizes ≤ place) → place < length sizes
    by (inl l) = l
    by (inr l) = (let none = t.within place l in absurd (omega (arith, here, none)))

most : (b : Bool) → ◌≤◌ 0 (cond b 1 0)
most true = omega arith
most false = omega arith

turn-rest : (sizes : List ℕ) (place : ℕ) (turn : List ℕ) → IsTurn sizes (place ∷ turn) → IsTurn sizes turn
turn-rest sizes place turn t = record {
  once = λ p. (let once = t.once p in omega (arith, once));
  within = λ p l. (times-none p place turn (t.within p l)).1;
}

total-turn : (turn sizes : List ℕ) → IsTurn sizes turn → total_of (at_places sizes turn) ≤ total_of sizes
total-turn [] sizes t = omega arith
total-turn (place ∷ turn) sizes t =
    let here = turn-here sizes place turn t in
    let same = at_places-set sizes place 0 turn here.1 in
    let rest = total-turn turn (set sizes place 0) (subst (λ (n : ℕ). (q : IsTurn sizes turn) → IsTurn (set sizes place 0) turn) (length-set sizes place 0)
    (λ q. record { once = q.once; within = λ p l. q.within p (let long = length-set sizes place 0 in omega (arith, long, l)) }) (turn-rest sizes place turn t)) in
    let all = total-set sizes place here.0 in
    let e : total_of (at_places (set sizes place 0) turn) ≡ total_of (at_places sizes turn) = ap total_of same in
    omega (arith, rest, all, e)

some-turn : (turn sizes : List ℕ) → AreSizes sizes → IsTurn sizes turn → AllByRecursion (λ size. 0 < size) (at_places sizes turn)
some-turn [] sizes good t = tt
some-turn (place ∷ turn) sizes good t =
    let here = turn-here sizes place turn t in (
      (all-place (λ (size : ℕ). (0 < size) × (size % 8 ≡ 0)) sizes place good here.0).0,
      some-turn turn sizes good (turn-rest sizes place turn t),
    )

is_turn : (sizes turn : List ℕ) → ((place : ℕ) → times place turn ≡ cond (ltb place (length sizes)) 1 0) → IsTurn sizes turn
is_turn sizes turn each = record { once = λ p. by (ltb p (length sizes)) (each p); within = λ p l. each p ∙ rw (le-ltb p (length sizes) l) refl }
  where
    by : {n : ℕ} (b : Bool) → n ≡ cond b 1 0 → n ≤ 1
    by true e = omega (arith, e)
    by false e = omega (arith, e)

-- ---- a change

falling-grows : (old new sizes offsets : List ℕ) → AreSizes sizes → EachFalling old new sizes offsets → length new ≤ length old + fresh_of sizes →
    GrowsFor old new sizes
falling-grows old new sizes offsets good each grows = by (each-grows old new _ _ (some-turn each.turn sizes good turn) each.carves)
  where
    turn : IsTurn sizes each.turn
    turn = is_turn sizes each.turn each.each_once

    by : (length new ≡ length old) ⊎ NoFit old (total_of (at_places sizes each.turn)) → GrowsFor old new sizes
    by (inl same) = inl same
    by (inr none) = inr (no_fit-larger old _ _ (total-turn each.turn sizes turn) none, grows)

exact-grows : (old new sizes offsets : List ℕ) → 0 < length sizes → CarvesExactly old new sizes offsets → GrowsFor old new sizes
exact-grows old new sizes offsets some c = by c.room
  where
    by : IsRoom old c.mid (total_of sizes) → GrowsFor old new sizes
    by (inl same) = inl (c.carves.long ∙ ap length same)
    by (inr (none, bin)) =
        let l = c.carves.long ∙ bin-long old c.mid (total_of sizes) bin in
        let least = fresh-is bin.size (total_of sizes) bin.least in
        let all = fresh-together sizes some in
        inr (none, omega (arith, l, least, all))

-- each by itself
pub apart-grows : (result : Result (Unit {0}) ArenaFault) (old new sizes out more : List ℕ) → AreSizes sizes →
    OnOk result ((offsets : List ℕ) × (more ≡ out ++ offsets) × EachFalling old new sizes offsets × AreNew (cell_at old) (cell_at new) offsets sizes) →
    OnOk result (length new ≤ length old + fresh_of sizes) → OnOk result (GrowsFor old new sizes)
apart-grows (Err e) old new sizes out more good carved grows = tt
apart-grows (Ok x) old new sizes out more good carved grows = falling-grows old new sizes carved.0 good carved.2 grows

-- side by side
pub together-grows : (result : Result (Unit {0}) ArenaFault) (old new sizes out more : List ℕ) → 0 < length sizes → (HasRoomForEach old sizes → ⊥) →
    OnOk result (0 < length sizes → (offsets : List ℕ) × (more ≡ out ++ offsets) × CarvesExactly old new sizes offsets × AddsCells old new sizes offsets) →
    OnOk result (GrowsFor old new sizes)
together-grows (Err e) old new sizes out more some none carved = tt
together-grows (Ok x) old new sizes out more some none carved = let c = carved some in exact-grows old new sizes c.0 some c.2
