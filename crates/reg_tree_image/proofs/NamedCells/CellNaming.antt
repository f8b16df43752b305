-- A cell that is named: the table before and after.
use Rattle.std.proofs.Common.{◌≡◌, ℕ, ◌+◌, ◌<◌, ◌≤◌, ◌==◌, ◌&&◌, ◌||◌, Bool, true, false, cond, eqb, is_some, Option, Some, None, Ok, Err, List, [], ◌∷◌, ◌++◌, refl, sym, ap, ◌∙◌, subst, arith}
use Rattle.std.proofs.Common.{Result}
use Rattle.std.proofs.lemmas.Bool.{eqb-true, eqb-false, ne_eqb}
use Rattle.std.proofs.lemmas.Option.{none-some, same_Some}
use Rattle.reg_heap.specs.Heaps.{Heap}
use Rattle.reg_heap.specs.Kinds.{Kind, Found, is_security, is_own, is_shared, times, owned, shared}
use Rattle.reg_shape.proofs.Wholeness.ShapeCounts.{tally-append}
use Rattle.reg_shape.proofs.Wholeness.FewerNumbers.{same-number}
use Rattle.reg_tree_image.specs.declared.LoadFault.{LoadFault}
use Rattle.reg_tree_image.specs.declared.LoadFault.TheVariants.{Record, Loop, Twice}
use Rattle.reg_tree_image.specs.declared.table.CellState.{CellState}
use Rattle.reg_tree_image.specs.declared.table.CellState.TheVariants.{Named, NamedSecurity, OnPath}
use Rattle.reg_tree_image.specs.WalkSteps.{Seen, ◌>>◌, onward, give, check, given, note, cell}
use Rattle.reg_tree_image.specs.Internal.CellStates.{state_in, Puts, naming_fault, named_as, state_by, state_of, IsTable}
use Rattle.reg_tree_image.specs.Internal.ReaderOutcomes.{IsDone}

or-true : (b : Bool) → (b || true) ≡ true
or-true true = refl
or-true false = refl

-- what is known of another cell stays
module _ (heap : Heap) (path : List ℕ) (found : List Found) (f : Found) where
  later-owned : (o : ℕ) → owned o (found ++ f ∷ []) ≡ owned o found + is_own o f
  later-owned o = let e = tally-append (is_own o) found (f ∷ []) in omega (arith, e)

  later-shared : (o : ℕ) → shared o (found ++ f ∷ []) ≡ shared o found + is_shared o f
  later-shared o = let e = tally-append (is_shared o) found (f ∷ []) in omega (arith, e)

  not-own : (o : ℕ) → eqb f.offset o ≡ false → ◌≡◌ {A = ℕ} (is_own o f) 0
  not-own o e = ap (λ b. cond (is_security f.kind) 0 (cond b 1 0)) e ∙ by (is_security f.kind)
    where
      by : (b : Bool) → ◌≡◌ {A = ℕ} (cond b 0 0) 0
      by true = refl
      by false = refl

  not-shared : (o : ℕ) → eqb f.offset o ≡ false → ◌≡◌ {A = ℕ} (is_shared o f) 0
  not-shared o e = ap (λ b. cond (is_security f.kind) (cond b 1 0) 0) e ∙ by (is_security f.kind)
    where
      by : (b : Bool) → ◌≡◌ {A = ℕ} (cond b 0 0) 0
      by true = refl
      by false = refl

  pub other-stays : (o : ℕ) → eqb f.offset o ≡ false → state_of heap (found ++ f ∷ []) path o ≡ state_of heap found path o
  other-stays o e =
      let a : owned o (found ++ f ∷ []) ≡ owned o found = let x = later-owned o in let y = not-own o e in omega (arith, x, y) in
      let b : shared o (found ++ f ∷ []) ≡ shared o found = let x = later-shared o in let y = not-shared o e in omega (arith, x, y) in
      ap (λ n. state_by (is_some (heap o)) (times o path == 0) (n == 0) (shared o (found ++ f ∷ []) == 0)) a
      ∙ ap (λ n. state_by (is_some (heap o)) (times o path == 0) (owned o found == 0) (n == 0)) b

  here-by : (security : Bool) → is_security f.kind ≡ security → is_some (heap f.offset) ≡ true → (times f.offset path == 0) ≡ true → (owned f.offset found == 0) ≡ true →
      state_of heap (found ++ f ∷ []) path f.offset ≡ named_as security
  here-by true k s p o =
      let zero : owned f.offset found ≡ 0 = eqb-true _ _ o in
      let own : ◌≡◌ {A = ℕ} (is_own f.offset f) 0 = ap (λ b. cond b 0 (cond (eqb f.offset f.offset) 1 0)) k in
      let one : ◌≡◌ {A = ℕ} (is_shared f.offset f) 1 = ap (λ b. cond b (cond (eqb f.offset f.offset) 1 0) 0) k ∙ ap (λ b. cond b 1 0) (same-number f.offset) in
      let a : (owned f.offset (found ++ f ∷ []) == 0) ≡ true = ap (λ n. n == 0) (let x = later-owned f.offset in let y : owned f.offset (found ++ f ∷ []) ≡ 0 = omega (arith, x, own, zero) in y) in
      let b : (shared f.offset (found ++ f ∷ []) == 0) ≡ false = ne_eqb _ _ (λ z. let x = later-shared f.offset in absurd (omega (arith, x, one, z))) in
      ap (λ t. state_by t (times f.offset path == 0) (owned f.offset (found ++ f ∷ []) == 0) (shared f.offset (found ++ f ∷ []) == 0)) s
      ∙ ap (λ t. state_by true t (owned f.offset (found ++ f ∷ []) == 0) (shared f.offset (found ++ f ∷ []) == 0)) p
      ∙ ap (λ t. state_by true true t (shared f.offset (found ++ f ∷ []) == 0)) a
      ∙ ap (λ t. state_by true true true t) b
  here-by false k s p o =
      let one : ◌≡◌ {A = ℕ} (is_own f.offset f) 1 = ap (λ b. cond b 0 (cond (eqb f.offset f.offset) 1 0)) k ∙ ap (λ b. cond b 1 0) (same-number f.offset) in
      let a : (owned f.offset (found ++ f ∷ []) == 0) ≡ false = ne_eqb _ _ (λ z. let x = later-owned f.offset in absurd (omega (arith, x, one, z))) in
      ap (λ t. state_by t (times f.offset path == 0) (owned f.offset (found ++ f ∷ []) == 0) (shared f.offset (found ++ f ∷ []) == 0)) s
      ∙ ap (λ t. state_by true t (owned f.offset (found ++ f ∷ []) == 0) (shared f.offset (found ++ f ∷ []) == 0)) p
      ∙ ap (λ t. state_by true true t (shared f.offset (found ++ f ∷ []) == 0)) a

  -- the table after a cell was named
  pub named-table : (old new : List CellState) → IsTable heap found path old → Puts old new f.offset (named_as (is_security f.kind)) → is_some (heap f.offset) ≡ true →
      (times f.offset path == 0) ≡ true → (owned f.offset found == 0) ≡ true → IsTable heap (found ++ f ∷ []) path new
  named-table old new t p s a o = record {
    each = λ x. p x ∙ by x (eqb x f.offset) refl;
    once = λ x. (let e = later-owned x in let l = at-most x (eqb f.offset x) refl in omega (arith, e, l));
    keys = λ x. (let e = later-owned x in let l = t.keys x in omega (arith, e, l));
    real = λ x l. there x (eqb f.offset x) refl (let e = later-owned x in omega (arith, e, l));
  }
    where
      there : (x : ℕ) (b : Bool) → eqb f.offset x ≡ b → 0 < owned x found + is_own x f → is_some (heap x) ≡ true
      there x true e l = subst (λ y. is_some (heap y) ≡ true) (eqb-true f.offset x e) s
      there x false e l = let n = not-own x e in t.real x (omega (arith, n, l))

      at-one : (x : ℕ) → is_own x f ≤ 1
      at-one x = two (is_security f.kind) (eqb f.offset x)
        where
          two : (b d : Bool) → cond b 0 (cond d 1 0) ≤ 1
          two true d = omega arith
          two false true = omega arith
          two false false = omega arith

      at-most : (x : ℕ) (b : Bool) → eqb f.offset x ≡ b → owned x found + is_own x f ≤ 1
      at-most x true e =
          let zero : owned f.offset found ≡ 0 = eqb-true _ _ o in
          let same : owned x found ≡ 0 = subst (λ y. owned y found ≡ 0) (eqb-true f.offset x e) zero in
          let l = at-one x in
          omega (arith, same, l)
      at-most x false e = let n = not-own x e in let l = t.once x in omega (arith, n, l)

      by : (x : ℕ) (b : Bool) → eqb x f.offset ≡ b → cond b (named_as (is_security f.kind)) (state_in old x) ≡ state_of heap (found ++ f ∷ []) path x
      by x true e = sym (here-by (is_security f.kind) refl s a o) ∙ ap (λ y. state_of heap (found ++ f ∷ []) path y) (sym (eqb-true x f.offset e))
      by x false e = t.each x ∙ sym (other-stays x (ne_eqb f.offset x (λ z. eqb-false x f.offset e (sym z))))

-- a cell is named, or may not be, by the tests
module _ (kind : List ℕ → Kind) (offset : ℕ) (security : Bool) (kinds : (held : List ℕ) → is_security (kind held) ≡ security) (seen : Seen) where
  abbrev noted : List ℕ → Seen
  noted held = record seen { found = seen.found ++ record { kind = kind held; offset = offset } ∷ [] }

  -- the step, by what stands there and the tests
  abbrev tested : Option (List ℕ) → Bool → Bool → Bool → Result (List ℕ × Seen) LoadFault
  tested h a o s =
      onward (λ content. do
        check Loop a
        check Twice (o && (is_security (kind content) || s))
        note (record { kind = kind content; offset = offset })
        give content) (given Record h seen)

  fails-by : (fault : LoadFault) (h : Option (List ℕ)) (a o s : Bool) → naming_fault (state_by (is_some h) a o s) security ≡ Some fault → tested h a o s ≡ Err fault
  fails-by fault None a o s e = ap Err (same_Some _ _ e)
  fails-by fault (Some held) false o s e = ap Err (same_Some _ _ e)
  fails-by fault (Some held) true false s e = ap Err (same_Some _ _ e)
  fails-by fault (Some held) true true false e = by security (kinds held) e
    where
      by : (y : Bool) → is_security (kind held) ≡ y → naming_fault NamedSecurity y ≡ Some fault → tested (Some held) true true false ≡ Err fault
      by true k e = absurd (none-some _ e)
      by false k e = rw k (ap Err (same_Some _ _ e))
  fails-by fault (Some held) true true true e = absurd (none-some _ e)

  -- a cell that was named
  pub record IsNamed (h : Option (List ℕ)) (a o s : Bool) : Type 0 where
    pub held : List ℕ
    pub here : h ≡ Some held
    pub absent : a ≡ true
    pub unowned : o ≡ true
    pub gives : tested h a o s ≡ Ok (held, noted held)

  named-by : (h : Option (List ℕ)) (a o s : Bool) → naming_fault (state_by (is_some h) a o s) security ≡ None → IsNamed h a o s
  named-by None a o s e = absurd (none-some _ (sym e))
  named-by (Some held) false o s e = absurd (none-some _ (sym e))
  named-by (Some held) true false s e = absurd (none-some _ (sym e))
  named-by (Some held) true true false e = by security (kinds held) e
    where
      by : (y : Bool) → is_security (kind held) ≡ y → naming_fault NamedSecurity y ≡ None → IsNamed (Some held) true true false
      by true k e = record { held = held; here = refl; absent = refl; unowned = refl; gives = rw k refl }
      by false k e = absurd (none-some _ (sym e))
  named-by (Some held) true true true e = by (is_security (kind held))
    where
      by : (y : Bool) → IsNamed (Some held) true true true
      by y = record { held = held; here = refl; absent = refl; unowned = refl; gives = rw (or-true (is_security (kind held))) refl }

  module _ (heap : Heap) (path : List ℕ) (old : List CellState) (t : IsTable heap seen.found path old) where
    cell-by : (h : Option (List ℕ)) → heap offset ≡ h → (a : Bool) → (times offset path == 0) ≡ a →
        cell heap path kind offset seen ≡ tested h a (owned offset seen.found == 0) (shared offset seen.found == 0)
    cell-by None e a b = rw e refl
    cell-by (Some held) e true b = rw (e, b) refl
    cell-by (Some held) e false b = rw (e, b) refl

    cell-is : cell heap path kind offset seen ≡ tested (heap offset) (times offset path == 0) (owned offset seen.found == 0) (shared offset seen.found == 0)
    cell-is = cell-by (heap offset) refl (times offset path == 0) refl

    pub cell-fails : (fault : LoadFault) → naming_fault (state_in old offset) security ≡ Some fault → cell heap path kind offset seen ≡ Err fault
    cell-fails fault e =
        cell-is ∙ fails-by fault (heap offset) (times offset path == 0) (owned offset seen.found == 0) (shared offset seen.found == 0) (ap (λ s. naming_fault s security) (sym (t.each offset)) ∙ e)

    pub cell-done : (new : List CellState) (held : List ℕ) → ((h : List ℕ) → heap offset ≡ Some h → held ≡ h) → naming_fault (state_in old offset) security ≡ None →
        Puts old new offset (named_as security) → IsDone heap path (cell heap path kind offset) seen held new
    cell-done new held h e p =
        let n = named-by (heap offset) (times offset path == 0) (owned offset seen.found == 0) (shared offset seen.found == 0) (ap (λ s. naming_fault s security) (sym (t.each offset)) ∙ e) in
        let f : Found = record { kind = kind n.held; offset = offset } in
        record {
          after = noted n.held;
          gives = cell-is ∙ n.gives ∙ ap (λ x. Ok (x, noted n.held)) (sym (h n.held n.here));
          table = named-table heap path seen.found f old new t (subst (λ y. Puts old new offset (named_as y)) (sym (kinds n.held)) p) (ap is_some n.here) n.absent n.unowned;
          told = refl;
        }

-- the lowest key of the path is left
module _ (heap : Heap) (found : List Found) (offset : ℕ) (path : List ℕ) where
  pub left-table : (old new : List CellState) → IsTable heap found (offset ∷ path) old → (state_in old offset ≡ OnPath → Puts old new offset Named) → IsTable heap found path new
  left-table old new t p = record { each = λ x. puts x ∙ by x (eqb x offset) refl; once = t.once; keys = λ x. (let l = t.keys x in omega (arith, l)); real = t.real }
    where
      one : ◌≡◌ {A = ℕ} (cond (eqb offset offset) 1 0) 1
      one = ap (λ b. cond b 1 0) (same-number offset)

      is : is_some (heap offset) ≡ true
      is = t.real offset (let l = t.keys offset in omega (arith, l, one))

      here : state_in old offset ≡ OnPath
      here =
          let a : (times offset (offset ∷ path) == 0) ≡ false = ne_eqb _ _ (λ z. absurd (omega (arith, one, z))) in
          t.each offset
          ∙ (ap (λ b. state_by b (times offset (offset ∷ path) == 0) (owned offset found == 0) (shared offset found == 0)) is
          ∙ ap (λ b. state_by true b (owned offset found == 0) (shared offset found == 0)) a)

      gone : (times offset path == 0) ≡ true
      gone = ap (λ n. n == 0) (let n : times offset path ≡ 0 = (let l = t.keys offset in let o = t.once offset in omega (arith, one, l, o)) in n)

      owned-here : (owned offset found == 0) ≡ false
      owned-here = ne_eqb _ _ (λ z. let l = t.keys offset in absurd (omega (arith, one, l, z)))

      puts : Puts old new offset Named
      puts = p here

      by : (x : ℕ) (b : Bool) → eqb x offset ≡ b → cond b Named (state_in old x) ≡ state_of heap found path x
      by x true e = sym (
          ap (λ y. state_of heap found path y) (eqb-true x offset e)
          ∙ (ap (λ b. state_by b (times offset path == 0) (owned offset found == 0) (shared offset found == 0)) is
          ∙ (ap (λ b. state_by true b (owned offset found == 0) (shared offset found == 0)) gone
          ∙ ap (λ b. state_by true true b (shared offset found == 0)) owned-here))
          )
      by x false e = t.each x ∙ ap (λ b. state_by (is_some (heap x)) (cond b 1 0 + times x path == 0) (owned x found == 0) (shared x found == 0)) (ne_eqb offset x (λ z. eqb-false x offset e (sym z)))
          ∙ ap (λ n. state_by (is_some (heap x)) (n == 0) (owned x found == 0) (shared x found == 0)) (let n : 0 + times x path ≡ times x path = omega arith in n)

-- a key that was named is on the path
module _ (heap : Heap) (found : List Found) (offset : ℕ) (path : List ℕ) where
  record IsNamedKey (s a o : Bool) : Type 0 where
    there : s ≡ true
    absent : a ≡ true
    owned-once : o ≡ false

  named-key : (s a o h : Bool) → state_by s a o h ≡ Named → IsNamedKey s a o
  named-key false a o h e = absurd (cc)
  named-key true false o h e = absurd (cc)
  named-key true true false h e = record { there = refl; absent = refl; owned-once = refl }
  named-key true true true false e = absurd (cc)
  named-key true true true true e = absurd (cc)

  pub entered-table : (old new : List CellState) → IsTable heap found path old → state_in old offset ≡ Named → Puts old new offset OnPath →
      IsTable heap found (offset ∷ path) new
  entered-table old new t e p = record { each = λ x. p x ∙ by x (eqb x offset) refl; once = t.once; keys = keys; real = t.real }
    where
      n : IsNamedKey (is_some (heap offset)) (times offset path == 0) (owned offset found == 0)
      n = named-key (is_some (heap offset)) (times offset path == 0) (owned offset found == 0) (shared offset found == 0) (sym (t.each offset) ∙ e)

      one : ◌≡◌ {A = ℕ} (cond (eqb offset offset) 1 0) 1
      one = ap (λ b. cond b 1 0) (same-number offset)

      on : (times offset (offset ∷ path) == 0) ≡ false
      on = ne_eqb _ _ (λ z. absurd (omega (arith, one, z)))

      here : state_of heap found (offset ∷ path) offset ≡ OnPath
      here =
          ap (λ b. state_by b (times offset (offset ∷ path) == 0) (owned offset found == 0) (shared offset found == 0)) n.there
          ∙ ap (λ b. state_by true b (owned offset found == 0) (shared offset found == 0)) on

      by : (x : ℕ) (b : Bool) → eqb x offset ≡ b → cond b OnPath (state_in old x) ≡ state_of heap found (offset ∷ path) x
      by x true e = sym (ap (λ y. state_of heap found (offset ∷ path) y) (eqb-true x offset e) ∙ here)
      by x false e = t.each x
          ∙ ap (λ n. state_by (is_some (heap x)) (n == 0) (owned x found == 0) (shared x found == 0)) (let n : times x path ≡ 0 + times x path = omega arith in n)
          ∙ ap (λ b. state_by (is_some (heap x)) (cond b 1 0 + times x path == 0) (owned x found == 0) (shared x found == 0)) (sym (ne_eqb offset x (λ z. eqb-false x offset e (sym z))))

      keys : (x : ℕ) → times x (offset ∷ path) ≤ owned x found
      keys x = two (eqb offset x) refl
        where
          none : times offset path ≡ 0
          none = eqb-true _ _ n.absent

          some : owned offset found ≡ 0 → ⊥
          some = eqb-false _ _ n.owned-once

          first : 1 + times offset path ≤ owned offset found
          first = let z = some in omega (arith, none, z)

          two : (b : Bool) → eqb offset x ≡ b → cond b 1 0 + times x path ≤ owned x found
          two true e = subst (λ y. 1 + times y path ≤ owned y found) (eqb-true offset x e) first
          two false e = let l = t.keys x in omega (arith, l)
