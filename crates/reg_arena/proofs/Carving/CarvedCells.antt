-- The cells that a carve adds, as callers count them.
use Rattle.std.proofs.Common.{◌≡◌, ℕ, zero, suc, ◌+◌, ◌-◌, ◌<◌, ◌≤◌, Bool, true, false, cond, List, [], ◌∷◌, length, get_or, replicate, refl, sym, ap, ◌∙◌, subst, arith, eqb, Option, Some}
use Rattle.std.proofs.Common.{None, is_some}
use Rattle.std.proofs.lemmas.Bool.{eqb-true, eq-eqb}
use Rattle.reg_heap.specs.Kinds.{times}
use Rattle.reg_heap.specs.Heaps.{Heap, AreNew}
use Rattle.reg_arena.specs.Cells.{cell_at}
use Rattle.reg_arena.specs.NewBin.{AppendsBin}
use Rattle.reg_arena.specs.NewCells.{AreSizes, offsets_of, zeroed}
use Rattle.reg_arena.specs.Carves.{or_else, Carves, AddsCells}
use Rattle.reg_arena.proofs.Carving.CarveWhole.{zeroed-within}

length-offsets : (at : ℕ) (ss : List ℕ) → length (offsets_of at ss) ≡ length ss
length-offsets at [] = refl
length-offsets at (s ∷ ss) = ap suc (length-offsets (at + s) ss)

-- a new cell's offset occurs once among the offsets, and no other
times-offsets-by : (at s : ℕ) (ss : List ℕ) (offset : ℕ) (b c : Bool) → 0 < s → eqb at offset ≡ b → is_some (zeroed (at + s) ss offset) ≡ c →
    (is_some (zeroed (at + s) ss offset) ≡ true → at + s ≤ offset) →
    times offset (offsets_of (at + s) ss) ≡ cond (is_some (zeroed (at + s) ss offset)) 1 0 →
    cond b 1 0 + times offset (offsets_of (at + s) ss) ≡ cond (is_some (cond b (Some (replicate (s - 4) 0)) (zeroed (at + s) ss offset))) 1 0
times-offsets-by at s ss offset true true p e f within rest = (let same = eqb-true at offset e in let w = within f in absurd (omega arith))
times-offsets-by at s ss offset true false p e f within rest = let none : times offset (offsets_of (at + s) ss) ≡ 0 = rest ∙ rw f refl in rw none refl
times-offsets-by at s ss offset false c p e f within rest = omega (arith, rest)

pub times-offsets : (at : ℕ) (ss : List ℕ) (offset : ℕ) → AreSizes ss → times offset (offsets_of at ss) ≡ cond (is_some (zeroed at ss offset)) 1 0
times-offsets at [] offset a = refl
times-offsets at (s ∷ ss) offset a = times-offsets-by at s ss offset (eqb at offset) (is_some (zeroed (at + s) ss offset)) a.0.0 refl refl
    (λ h. (zeroed-within (at + s) ss offset a.1 h).0) (times-offsets (at + s) ss offset a.1)

-- each offset's cell holds as many zeros as its size asks for
later-zeros : (at s : ℕ) (ss : List ℕ) (offset : ℕ) (content : List ℕ) (b : Bool) → 0 < s → AreSizes ss → eqb at offset ≡ b →
    zeroed (at + s) ss offset ≡ Some content → cond b (Some (replicate (s - 4) 0)) (zeroed (at + s) ss offset) ≡ Some content
later-zeros at s ss offset content true p a e f = (let same = eqb-true at offset e in let w = zeroed-within (at + s) ss offset a (ap is_some f) in absurd (omega (arith, same, w.0, p)))
later-zeros at s ss offset content false p a e f = f

pub zeros-at : (at : ℕ) (ss : List ℕ) (index : ℕ) → AreSizes ss → index < length ss → zeroed at ss (get_or (offsets_of at ss) index 0) ≡ Some (replicate (get_or ss index 0 - 4) 0)
zeros-at at [] index a l = absurd (omega arith)
zeros-at at (s ∷ ss) zero a l = rw (eq-eqb at at refl) refl
zeros-at at (s ∷ ss) (suc index) a l =
    later-zeros at s ss (get_or (offsets_of (at + s) ss) index 0) _ (eqb at (get_or (offsets_of (at + s) ss) index 0)) a.0.0 a.1 refl (zeros-at (at + s) ss index a.1 (omega arith))

-- the cells are new
count-by : (z new old : Option (List ℕ)) (n : ℕ) → new ≡ or_else z old → (is_some z ≡ true → old ≡ None) → n ≡ cond (is_some z) 1 0 → cond (is_some new) 1 0 + 0 ≡ cond (is_some old) 1 0 + n
count-by None new old n e fresh t = rw (e, t) refl
count-by (Some x) new old n e fresh t = rw (e, t, fresh refl) refl

same-by : (z new old : Option (List ℕ)) (n : ℕ) → new ≡ or_else z old → n ≡ cond (is_some z) 1 0 → n ≡ 0 → new ≡ old
same-by None new old n e t none = e
same-by (Some x) new old n e t none = absurd (omega (arith, t, none))

pub are_new : (old new : Heap) (at : ℕ) (ss : List ℕ) → AreSizes ss → ((offset : ℕ) → new offset ≡ or_else (zeroed at ss offset) (old offset)) →
    ((offset : ℕ) → is_some (zeroed at ss offset) ≡ true → old offset ≡ None) → AreNew old new (offsets_of at ss) ss
are_new old new at ss a contents fresh = record {
  as_many = length-offsets at ss;
  come = record {
    count = λ offset. count-by (zeroed at ss offset) (new offset) (old offset) (times offset (offsets_of at ss)) (contents offset) (fresh offset) (times-offsets at ss offset a);
    same = λ offset gone came. same-by (zeroed at ss offset) (new offset) (old offset) (times offset (offsets_of at ss)) (contents offset) (times-offsets at ss offset a) came;
  };
  zeros = λ index l. contents (get_or (offsets_of at ss) index 0) ∙ ap (λ z. or_else z (old (get_or (offsets_of at ss) index 0))) (zeros-at at ss index a l);
}

adds-by : (old mid new : List ℕ) (ss offsets : List ℕ) → ((offset : ℕ) → cell_at mid offset ≡ cell_at old offset) → AreSizes ss → Carves mid new ss offsets → AddsCells old new ss offsets
adds-by old mid new ss offsets same a c =
    let contents : (offset : ℕ) → cell_at new offset ≡ or_else (zeroed c.at ss offset) (cell_at old offset) = λ offset. c.contents offset ∙ ap (or_else (zeroed c.at ss offset)) (same offset) in
    let fresh : (offset : ℕ) → is_some (zeroed c.at ss offset) ≡ true → cell_at old offset ≡ None = λ offset h. sym (same offset) ∙ c.fresh offset h in
    record {
      at = c.at;
      offsets_are = c.offsets_are;
      contents = contents;
      fresh = fresh;
      are_new = subst (λ os. AreNew (cell_at old) (cell_at new) os ss) (sym c.offsets_are) (are_new (cell_at old) (cell_at new) c.at ss a contents fresh);
    }

-- a carve of a free cell that was there
pub adds_cells : {old new : List ℕ} {ss offsets : List ℕ} → AreSizes ss → Carves old new ss offsets → AddsCells old new ss offsets
adds_cells {old} {new} {ss} {offsets} a c = adds-by old old new ss offsets (λ offset. refl) a c

-- a carve of a new bin's free cell
pub adds_cells_in_bin : {old mid new : List ℕ} {total : ℕ} {ss offsets : List ℕ} → AreSizes ss → AppendsBin old mid total → Carves mid new ss offsets → AddsCells old new ss offsets
adds_cells_in_bin {old} {mid} {new} {total} {ss} {offsets} a b c = adds-by old mid new ss offsets b.contents a c
