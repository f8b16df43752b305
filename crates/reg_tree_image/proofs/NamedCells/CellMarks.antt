-- Cells noted one after the other.
use Rattle.std.proofs.Common.{◌≡◌, ℕ, zero, suc, ◌+◌, ◌%◌, ◌<◌, ◌≤◌, ◌==◌, ◌&&◌, ◌||◌, nat_le, nat_lt, Bool, true, false, cond, is_some, Option, Some, None, List, [], ◌∷◌, ◌++◌}
use Rattle.std.proofs.Common.{append_assoc, take, drop, ◌-◌, refl, sym, ap, ◌∙◌, arith}
use Rattle.std.specs.Option.{option_map}
use Rattle.std.proofs.lemmas.Bool.{false≢true, eqb-true, eqb-false, ne_eqb}
use Rattle.std.proofs.lemmas.Bool.Decides.{nat_tests}
use Rattle.std.proofs.lemmas.List.{append-nil}
use Rattle.reg_heap.specs.ByteWords.{word}
use Rattle.reg_arena.specs.declared.Cell.{Cell}
use Rattle.reg_arena.specs.Cells.{size_in, is_allocated_in, cells_from, content_in}
use Rattle.reg_tree_image.specs.declared.table.CellState.{CellState}
use Rattle.reg_tree_image.specs.declared.table.CellState.TheVariants.{Unnamed}
use Rattle.reg_tree_image.specs.Internal.CellStates.{state_in, Puts}
use Rattle.reg_tree_image.specs.Internal.CellScans.{is_size_in, cell_there, Marks}

-- ---- what marks are made of

or-some : (bins : List ℕ) (xs ys : List Cell) (offset : ℕ) → is_some (content_in bins (xs ++ ys) offset) ≡ is_some (content_in bins xs offset) || is_some (content_in bins ys offset)
or-some bins [] ys offset = refl
or-some bins (x ∷ xs) ys offset =
    by ((x.offset == offset) && x.allocated) (take (x.size - 4) (drop (x.offset + 4) bins)) (content_in bins (xs ++ ys) offset) (content_in bins xs offset)
    (is_some (content_in bins ys offset)) (or-some bins xs ys offset)
  where
    by : (b : Bool) (e : List ℕ) (c d : Option (List ℕ)) (y : Bool) → is_some c ≡ is_some d || y → is_some (cond b (Some e) c) ≡ is_some (cond b (Some e) d) || y
    by true e c d y r = refl
    by false e c d y r = r

pub no-marks : (bins : List ℕ) (states : List CellState) → Marks bins [] states states
no-marks bins states offset = refl

pub join-marks : (bins : List ℕ) (xs ys : List Cell) (old mid new : List CellState) → Marks bins xs old mid → Marks bins ys mid new → Marks bins (xs ++ ys) old new
join-marks bins xs ys old mid new a b offset =
    b offset ∙ (ap (λ s. cond (is_some (content_in bins ys offset)) Unnamed s) (a offset)
    ∙ (by (is_some (content_in bins xs offset)) (is_some (content_in bins ys offset))
    ∙ ap (λ b. cond b Unnamed (state_in old offset)) (sym (or-some bins xs ys offset))))
  where
    by : (x y : Bool) → cond y Unnamed (cond x Unnamed (state_in old offset)) ≡ cond (x || y) Unnamed (state_in old offset)
    by true true = refl
    by true false = refl
    by false true = refl
    by false false = refl

-- one allocated cell
pub one-mark : (bins : List ℕ) (at : ℕ) (old new : List CellState) → is_allocated_in (word bins at) ≡ true → Puts old new at Unnamed → Marks bins (cell_there bins at ∷ []) old new
one-mark bins at old new a p offset = p offset ∙ by (offset == at) refl
  where
    by : (b : Bool) → (offset == at) ≡ b → cond b Unnamed (state_in old offset) ≡ cond (is_some (content_in bins (cell_there bins at ∷ []) offset)) Unnamed (state_in old offset)
    by true e =
        let same : (at == offset) ≡ true = equal at offset (sym (eqb-true offset at e)) in
        rw (same, a) refl
      where
        equal : (a b : ℕ) → a ≡ b → (a == b) ≡ true
        equal a b e = grind (arith, nat_tests)
    by false e = let other : (at == offset) ≡ false = ne_eqb at offset (λ z. eqb-false offset at e (sym z)) in rw other refl

-- one free cell
pub no-mark : (bins : List ℕ) (at : ℕ) (states : List CellState) → is_allocated_in (word bins at) ≡ false → Marks bins (cell_there bins at ∷ []) states states
no-mark bins at states a offset = rw a (by (at == offset) (take (size_in (word bins at) - 4) (drop (at + 4) bins)))
  where
    by : (b : Bool) (e : List ℕ) → state_in states offset ≡ cond (is_some (cond (b && false) (Some e) None)) Unnamed (state_in states offset)
    by true e = refl
    by false e = refl

pub is-free : (field word : ℕ) → field ≡ word → field < 2147483648 → is_allocated_in word ≡ false
is-free field word e l = grind (arith, nat_tests)

pub is-taken : (field word : ℕ) → field ≡ word → 2147483648 ≤ field → is_allocated_in word ≡ true
is-taken field word e l = grind (arith, nat_tests)

-- ---- one bin's cells

-- the cells up to here are good, and were noted
pub record AreNoted (bins : List ℕ) (from at stop : ℕ) (old now : List CellState) : Type 0 where
  pub done : List Cell
  pub more : (steps : ℕ) → stop < from + steps → (rest : ℕ) × (stop < at + rest) × (cells_from steps bins from stop ≡ option_map (λ cells. done ++ cells) (cells_from rest bins at stop))
  pub marks : Marks bins done old now
  pub eight : at % 8 ≡ 0
  pub within : at ≤ stop

pub none-noted : (bins : List ℕ) (from stop : ℕ) (states : List CellState) → from % 8 ≡ 0 → from ≤ stop → AreNoted bins from from stop states states
none-noted bins from stop states e l = record {
  done = [];
  more = λ steps s. (steps, s, sym (mapped (cells_from steps bins from stop)));
  marks = no-marks bins states;
  eight = e;
  within = l;
}
  where
    mapped : (o : Option (List Cell)) → option_map (λ cells. [] ++ cells) o ≡ o
    mapped None = refl
    mapped (Some x) = refl

-- eight bytes are left of a bin, or none
pub eight-left : (bins : List ℕ) (from at stop : ℕ) (old now : List CellState) → AreNoted bins from at stop old now → stop % 8 ≡ 0 → at < stop → at + 8 ≤ stop
eight-left bins from at stop old now n e l = let a = n.eight in omega (arith, a, e, l)

before-stop : (at stop : ℕ) → at < stop → (at == stop) ≡ false
before-stop at stop l = grind (arith, nat_tests)

next-cell : (bins : List ℕ) (at stop steps : ℕ) → at < stop → is_size_in (size_in (word bins at)) at stop ≡ true →
    cells_from (suc steps) bins at stop ≡ option_map (λ cells. cell_there bins at ∷ cells) (cells_from steps bins (at + size_in (word bins at)) stop)
next-cell bins at stop steps l s = let b = before-stop at stop l in rw (b, s) refl

bad-cell : (bins : List ℕ) (at stop steps : ℕ) → at < stop → is_size_in (size_in (word bins at)) at stop ≡ false → cells_from (suc steps) bins at stop ≡ None
bad-cell bins at stop steps l s = let b = before-stop at stop l in rw (b, s) refl

-- what a good size says
pub good-size : (size at stop : ℕ) → is_size_in size at stop ≡ true → (0 < size) × (size % 8 ≡ 0) × (at + size ≤ stop)
good-size size at stop e = by (nat_lt 0 size) refl (size % 8 == 0) refl (nat_le (at + size) stop) refl e
  where
    less : (a b : ℕ) → nat_lt a b ≡ true → a < b
    less a b e = grind (arith, nat_tests)

    most : (a b : ℕ) → nat_le a b ≡ true → a ≤ b
    most a b e = grind (arith, nat_tests)

    by : (a : Bool) → nat_lt 0 size ≡ a → (b : Bool) → (size % 8 == 0) ≡ b → (c : Bool) → nat_le (at + size) stop ≡ c → (a && b && c) ≡ true →
        (0 < size) × (size % 8 ≡ 0) × (at + size ≤ stop)
    by true p true q true r e = (less 0 size p, eqb-true _ _ q, most (at + size) stop r)
    by true p true q false r e = absurd (false≢true e)
    by true p false q c r e = absurd (false≢true e)
    by false p b q c r e = absurd (false≢true e)

twice : (f g : List Cell → List Cell) (o : Option (List Cell)) → option_map f (option_map g o) ≡ option_map (λ x. f (g x)) o
twice f g None = refl
twice f g (Some x) = refl

pub more-noted : (bins : List ℕ) (from at stop : ℕ) (old now new : List CellState) → AreNoted bins from at stop old now → at < stop →
    is_size_in (size_in (word bins at)) at stop ≡ true → Marks bins (cell_there bins at ∷ []) now new →
    AreNoted bins from (at + size_in (word bins at)) stop old new
more-noted bins from at stop old now new n l s m =
    let g = good-size (size_in (word bins at)) at stop s in
    record {
      done = n.done ++ cell_there bins at ∷ [];
      more = λ steps e. (let r = n.more steps e in by steps r.0 r.1 r.2);
      marks = join-marks bins n.done (cell_there bins at ∷ []) old now new n.marks m;
      eight = (let a = n.eight in omega (arith, a, g.1));
      within = g.2;
    }
  where
    by : (steps rest : ℕ) → stop < at + rest → cells_from steps bins from stop ≡ option_map (λ cells. n.done ++ cells) (cells_from rest bins at stop) →
        (rest : ℕ) × (stop < (at + size_in (word bins at)) + rest) ×
        (cells_from steps bins from stop ≡ option_map (λ cells. (n.done ++ cell_there bins at ∷ []) ++ cells) (cells_from rest bins (at + size_in (word bins at)) stop))
    by steps zero e r = absurd (omega (arith, e, l))
    by steps (suc rest) e r =
        let g = good-size (size_in (word bins at)) at stop s in (
          rest,
          omega (arith, e, g.0),
          r ∙ (ap (option_map (λ cells. n.done ++ cells)) (next-cell bins at stop rest l s)
              ∙ (twice (λ cells. n.done ++ cells) (λ cells. cell_there bins at ∷ cells) (cells_from rest bins (at + size_in (word bins at)) stop)
              ∙ regroup (cells_from rest bins (at + size_in (word bins at)) stop))),
        )
      where
        regroup : (o : Option (List Cell)) → option_map (λ cells. n.done ++ cell_there bins at ∷ cells) o ≡ option_map (λ cells. (n.done ++ cell_there bins at ∷ []) ++ cells) o
        regroup None = refl
        regroup (Some x) = ap Some (sym (append_assoc n.done (cell_there bins at ∷ []) x))

pub not-noted : (bins : List ℕ) (from at stop : ℕ) (old now : List CellState) → AreNoted bins from at stop old now → at < stop →
    is_size_in (size_in (word bins at)) at stop ≡ false → (steps : ℕ) → stop < from + steps → cells_from steps bins from stop ≡ None
not-noted bins from at stop old now n l s steps e = let r = n.more steps e in by r.0 r.1 r.2
  where
    by : (rest : ℕ) → stop < at + rest → cells_from steps bins from stop ≡ option_map (λ cells. n.done ++ cells) (cells_from rest bins at stop) → cells_from steps bins from stop ≡ None
    by zero e r = absurd (omega (arith, e, l))
    by (suc rest) e r = r ∙ ap (option_map (λ cells. n.done ++ cells)) (bad-cell bins at stop rest l s)

pub all-noted : (bins : List ℕ) (from at stop : ℕ) (old now : List CellState) → AreNoted bins from at stop old now → stop ≤ at → (steps : ℕ) → stop < from + steps →
    (cells : List Cell) × (cells_from steps bins from stop ≡ Some cells) × Marks bins cells old now
all-noted bins from at stop old now n l steps e = let r = n.more steps e in by r.0 r.1 r.2
  where
    equal : (a b : ℕ) → a ≡ b → (a == b) ≡ true
    equal a b e = grind (arith, nat_tests)

    by : (rest : ℕ) → stop < at + rest → cells_from steps bins from stop ≡ option_map (λ cells. n.done ++ cells) (cells_from rest bins at stop) →
        (cells : List Cell) × (cells_from steps bins from stop ≡ Some cells) × Marks bins cells old now
    by zero e r = let w = n.within in absurd (omega (arith, e, w))
    by (suc rest) e r =
        let w = n.within in
        let b : (at == stop) ≡ true = equal at stop (omega (arith, l, w)) in
        let last : cells_from (suc rest) bins at stop ≡ Some [] = rw b refl in
        (n.done, r ∙ (ap (option_map (λ cells. n.done ++ cells)) last ∙ ap Some (append-nil n.done)), n.marks)
