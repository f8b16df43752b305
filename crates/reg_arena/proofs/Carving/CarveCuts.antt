-- Allocated cells cut side by side.
use Rattle.std.proofs.Common.{◌≡◌, ℕ, ◌+◌, ◌-◌, ◌<◌, ◌≤◌, ◌%◌, Bool, true, false, cond, inl, List, [], ◌∷◌, ◌++◌, length, get_or, take, drop, replicate, refl, sym, ap, ◌∙◌, arith, Option}
use Rattle.std.proofs.Common.{Some, None, ◌&&◌, eqb, add_assoc}
use Rattle.std.proofs.lemmas.List.{take_at, take_more, take-append-drop, length-replicate}
use Rattle.std.proofs.lemmas.Bool.{le-ltb, le-leb}
use Rattle.std.specs.List.{AllByRecursion}
use Rattle.byteorder.specs.Endian.{little_bytes}
use Rattle.reg_heap.specs.ByteWords.{word, splice, SameOutside}
use Rattle.reg_arena.specs.Carves.{or_else}
use Rattle.reg_arena.specs.declared.Cell.{Cell}
use Rattle.reg_arena.specs.Cells.{IsCell, Tiles, content_in, size_in, is_allocated_in}
use Rattle.reg_arena.specs.NewCells.{total_of, used, carved, offsets_of, zeroed}
use Rattle.reg_arena.proofs.Contents.ByteSplices.{same-splice, same-trans, word-same_below, word-splice, length-splice, drop-splice}
use Rattle.reg_arena.proofs.Tiling.Tilings.{Tiles-append, Tiles-same_below, IsCell-eight}
use Rattle.reg_arena.proofs.Contents.CellContents.{content_in-append, IsBeside, content_in-beside}

-- the bytes of one new cell
abbrev pub one_cell : ℕ → ℕ → List ℕ → List ℕ
one_cell at size xs = splice (at + 4) (replicate (size - 4) 0) (splice at (little_bytes 4 (4294967295 - size + 1)) xs)

pub one-size : (at size : ℕ) (xs : List ℕ) → 8 ≤ size → at + size ≤ length xs → at + 4 + length {A = ℕ} (replicate (size - 4) 0) ≤ at + size
one-size at size xs e f = omega (arith, length-replicate {A = ℕ} (size - 4) 0)

pub one-region : (at size : ℕ) (xs : List ℕ) → 8 ≤ size → at + size ≤ length xs → SameOutside at (at + size) xs (one_cell at size xs)
one-region at size xs e f =
    let a : SameOutside at (at + size) xs (splice at (little_bytes 4 (4294967295 - size + 1)) xs) =
    same-splice at at (at + size) (little_bytes 4 (4294967295 - size + 1)) xs (omega arith) (omega arith) f in
    same-trans a (same-splice (at + 4) at (at + size) (replicate (size - 4) 0) _ (omega arith) (one-size at size xs e f) (omega (arith, a.long)))

field-size : (size : ℕ) → 0 < size → size ≤ 268435456 → size_in (4294967295 - size + 1) ≡ size
field-size size a b = let e = le-ltb (4294967295 - size + 1) 2147483648 (omega arith) in rw e (omega arith)

field-allocated : (size : ℕ) → 0 < size → size ≤ 268435456 → is_allocated_in (4294967295 - size + 1) ≡ true
field-allocated size a b = le-leb 2147483648 (4294967295 - size + 1) (omega arith)

pub one-is : (at size : ℕ) (xs : List ℕ) → 0 < size → size % 8 ≡ 0 → at + size ≤ length xs → length xs ≤ 268435456 → IsCell (one_cell at size xs) (at + size) (used at size)
one-is at size xs a b f small =
    let long = length-splice at (little_bytes 4 (4294967295 - size + 1)) xs (omega arith) in
    let s : SameOutside (at + 4) (at + size) (splice at (little_bytes 4 (4294967295 - size + 1)) xs) (one_cell at size xs) =
    same-splice (at + 4) (at + 4) (at + size) (replicate (size - 4) 0) _ (omega arith) (one-size at size xs (omega arith) f) (omega arith) in
    let w : word (one_cell at size xs) at ≡ 4294967295 - size + 1 = word-same_below s at (omega arith) ∙ word-splice at (4294967295 - size + 1) xs (omega arith) (omega arith) in
    record {
      size = rw w (field-size size a (omega arith));
      allocated = rw w (field-allocated size a (omega arith));
      positive = a;
      eights = b;
      within = omega arith;
    }

pub one-zero : (at size : ℕ) (xs : List ℕ) → 8 ≤ size → at + size ≤ length xs → take (size - 4) (drop (at + 4) (one_cell at size xs)) ≡ replicate (size - 4) 0
one-zero at size xs e f =
    let long = length-splice at (little_bytes 4 (4294967295 - size + 1)) xs (omega arith) in
    rw (drop-splice (at + 4) (replicate (size - 4) 0) (splice at (little_bytes 4 (4294967295 - size + 1)) xs) (omega arith))
    (take_at (replicate (size - 4) 0) _ (size - 4) (length-replicate (size - 4) 0))

-- ---- one more

pub total_of-append : (xs ys : List ℕ) → total_of (xs ++ ys) ≡ total_of xs + total_of ys
total_of-append [] ys = omega arith
total_of-append (x ∷ xs) ys = omega (arith, total_of-append xs ys)

pub carved-push : (at : ℕ) (ss : List ℕ) (s : ℕ) → carved at (ss ++ s ∷ []) ≡ carved at ss ++ used (at + total_of ss) s ∷ []
carved-push at [] s = let e : at + 0 ≡ at = omega arith in rw e refl
carved-push at (x ∷ ss) s = rw (← add_assoc at x (total_of ss)) (ap (λ t. used at x ∷ t) (carved-push (at + x) ss s))

pub offsets_of-push : (at : ℕ) (ss : List ℕ) (s : ℕ) → offsets_of at (ss ++ s ∷ []) ≡ offsets_of at ss ++ (at + total_of ss) ∷ []
offsets_of-push at [] s = let e : at + 0 ≡ at = omega arith in rw e refl
offsets_of-push at (x ∷ ss) s = rw (← add_assoc at x (total_of ss)) (ap (λ t. at ∷ t) (offsets_of-push (at + x) ss s))

zeroed-by : (b : Bool) (v : List ℕ) (x y z : Option (List ℕ)) → x ≡ or_else y z → cond b (Some v) x ≡ or_else (cond b (Some v) y) z
zeroed-by true v x y z e = refl
zeroed-by false v x y z e = e

pub zeroed-push : (at : ℕ) (ss : List ℕ) (s offset : ℕ) → zeroed at (ss ++ s ∷ []) offset ≡ or_else (zeroed at ss offset) (cond (eqb (at + total_of ss) offset) (Some (replicate (s - 4) 0)) None)
zeroed-push at [] s offset = let e : at + 0 ≡ at = omega arith in rw e refl
zeroed-push at (x ∷ ss) s offset = zeroed-by (eqb at offset) _ _ _ _ (rw (← add_assoc at x (total_of ss)) (zeroed-push (at + x) ss s offset))

Tiles-beside : (bytes : List ℕ) (hi at stop : ℕ) (cs : List Cell) → Tiles bytes at stop cs → AllByRecursion (IsBeside stop hi) cs
Tiles-beside bytes hi at stop [] h = tt
Tiles-beside bytes hi at stop (c ∷ cs) h = ((IsCell-eight h.1, inl h.1.within), Tiles-beside bytes hi (at + c.size) stop cs h.2)

-- the cells cut so far
pub record CutTo (old now : List ℕ) (cell : ℕ) (sizes : List ℕ) : Type 0 where
  pub region : SameOutside cell (cell + total_of sizes) old now
  pub tiles : Tiles now cell (cell + total_of sizes) (carved cell sizes)
  pub zero : (offset : ℕ) → content_in now (carved cell sizes) offset ≡ zeroed cell sizes offset

pub wider : {lo hi hi' : ℕ} {old new : List ℕ} → hi ≤ hi' → SameOutside lo hi old new → SameOutside lo hi' old new
wider l s = record { long = s.long; below = s.below; above = λ k m. s.above k (omega arith) }

pub lower : {lo lo' hi : ℕ} {old new : List ℕ} → lo' ≤ lo → SameOutside lo hi old new → SameOutside lo' hi old new
lower l s = record { long = s.long; below = λ k m. s.below k (omega arith); above = s.above }

last-by : (b : Bool) (x v : List ℕ) → x ≡ v → cond (b && true) (Some x) None ≡ cond b (Some v) None
last-by true x v e = ap Some e
last-by false x v e = refl

pub cut-more : (old now new : List ℕ) (cell : ℕ) (ss : List ℕ) (s at : ℕ) → at ≡ cell + total_of ss → CutTo old now cell ss →
    SameOutside at (at + s) now new → IsCell new (at + s) (used at s) → take (s - 4) (drop (at + 4) new) ≡ replicate (s - 4) 0 →
    CutTo old new cell (ss ++ s ∷ [])
cut-more old now new cell ss s at e h region c z =
    let total : total_of (ss ++ s ∷ []) ≡ total_of ss + s = omega (arith, total_of-append ss (s ∷ [])) in
    let end : cell + total_of (ss ++ s ∷ []) ≡ at + s = omega arith in
    let under : Tiles now cell at (carved cell ss) = rw e h.tiles in
    let one : Tiles new at (at + s) (used at s ∷ []) = (refl, c, refl) in
    let all : Tiles new cell (at + s) (carved cell ss ++ used at s ∷ []) = Tiles-append new cell at (at + s) (carved cell ss) (used at s ∷ [])
    (Tiles-same_below region cell at (carved cell ss) (omega arith) under) one in
    let push : carved cell (ss ++ s ∷ []) ≡ carved cell ss ++ used at s ∷ [] = rw e (carved-push cell ss s) in
    record {
      region = rw end (same-trans (wider (omega arith) h.region) (lower (omega arith) region));
      tiles = rw (end, push) all;
      zero = λ offset.
          ap (λ cs. content_in new cs offset) push ∙ content_in-append new (carved cell ss) (used at s ∷ []) offset
          ∙ ap (λ o. or_else o (content_in new (used at s ∷ []) offset)) (content_in-beside region (carved cell ss) offset (Tiles-beside now (at + s) cell at (carved cell ss) under) ∙ h.zero offset)
          ∙ ap (or_else (zeroed cell ss offset)) (last-by (eqb at offset) (take (s - 4) (drop (at + 4) new)) (replicate (s - 4) 0) z)
          ∙ ap (λ (k : ℕ). or_else (zeroed cell ss offset) (cond (eqb k offset) (Some (replicate (s - 4) 0)) None)) e
          ∙ sym (zeroed-push cell ss s offset);
    }

-- a step of the sizes
pub total_of-take : (n : ℕ) (ss : List ℕ) → total_of (take n ss) ≤ total_of ss
total_of-take n ss = let e = ap total_of (take-append-drop n ss) in omega (arith, total_of-append (take n ss) (drop n ss))

pub total_of-more : (ss : List ℕ) (i : ℕ) → i < length ss → total_of (take (i + 1) ss) ≡ total_of (take i ss) + get_or ss i 0
total_of-more ss i l = ap total_of (take_more ss i 0 l) ∙ total_of-append (take i ss) (get_or ss i 0 ∷ []) ∙ omega arith

pub total_of-room : (ss : List ℕ) (i : ℕ) → i < length ss → total_of (take i ss) + get_or ss i 0 ≤ total_of ss
total_of-room ss i l = omega (arith, total_of-more ss i l, total_of-take (i + 1) ss)
