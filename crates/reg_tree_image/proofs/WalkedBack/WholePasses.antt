-- A whole hive, once walked without a fault, passes the tests that come after the walk.
use Rattle.std.proofs.Common.{◌≡◌, ℕ, suc, ◌+◌, ◌*◌, ◌<◌, ◌==◌, ◌%◌, ◌/◌, Bool, true, false, cond, IsSome, is_some, Some, Ok, List, [], ◌∷◌, length, get_or, refl, sym, ap, ◌∙◌, subst, arith}
use Rattle.std.specs.List.{AllByRecursion}
use Rattle.std.specs.Option.{option_and_then}
use Rattle.std.specs.Result.{result_ok}
use Rattle.std.proofs.lemmas.Bool.{eqb-true}
use Rattle.std.proofs.lemmas.Option.{same_Some}
use Rattle.std.proofs.lemmas.List.Sums.{sum_by-cons}
use Rattle.reg_names.specs.declared.TheConstants.{PATH_LIMIT}
use Rattle.reg_heap.specs.Heaps.{Heap}
use Rattle.reg_heap.specs.Kinds.{Kind, Found, times, owned, shared}
use Rattle.reg_heap.specs.Kinds.Kind.{Key, Class, SubList, Leaf, ValueList, Value, Data, BigHead, BigList, Segment, Security}
use Rattle.reg_records.specs.KeyNodes.{nk_of, key_at}
use Rattle.reg_records.specs.BigData.{plainly}
use Rattle.reg_arena.specs.Cells.{cell_at}
use Rattle.reg_shape.specs.Whole.{Meets, IsWritten, Whole, count_at}
use Rattle.reg_shape.proofs.Walking.WalkParts.{walk-more}
use Rattle.reg_shape.proofs.Walking.WalkRefinement.{look-open}
use Rattle.reg_written.specs.SecurityRings.{IsRingOf}
use Rattle.reg_tree_image.specs.declared.table.CellState.{CellState}
use Rattle.reg_tree_image.specs.declared.table.CellState.TheVariants.{Unallocated}
use Rattle.reg_tree_image.specs.Images.{nothing}
use Rattle.reg_tree_image.specs.Internal.CellStates.{IsTable, state_by, state_in, not_yet, unnamed}
use Rattle.reg_tree_image.specs.Internal.KeysNamed.{is_key, key_offsets}
use Rattle.reg_tree_image.specs.LoadingWalk.{root_path, key_from}
use Rattle.reg_tree_image.specs.WalkSteps.{Seen}
use Rattle.reg_tree_image.proofs.WalkedBack.BackKeys.{IsWalked, walked-back}
use Rattle.reg_tree_image.proofs.WalkedBack.UsedShares.{used_in, used-shared}

-- ---- no cell is left that wasn't named

-- what stands at each place of a table stands at an offset
at-eight : (states : List CellState) (i : ℕ) → state_in states (8 * i) ≡ get_or states i Unallocated
at-eight states i =
    let r : (8 * i) % 8 ≡ 0 = omega arith in
    let q : (8 * i) / 8 ≡ i = omega arith in
    ap (λ (n : ℕ). cond (n == 0) (get_or states ((8 * i) / 8) Unallocated) Unallocated) r ∙ ap (λ (n : ℕ). get_or states n Unallocated) q

none-left : (states : List CellState) → ((i : ℕ) → not_yet (get_or states i Unallocated) ≡ 0) → unnamed states ≡ 0
none-left [] h = refl
none-left (s ∷ states) h =
    let c = sum_by-cons not_yet s states in
    let first : not_yet s ≡ 0 = h 0 in
    let rest : unnamed states ≡ 0 = none-left states (λ i. h (suc i)) in
    omega (arith, c, first, rest)

-- what is met, where it is allocated, was named
met-named : (there : Bool) (own share : ℕ) → (there ≡ true → 0 < own + share) → not_yet (state_by there true (own == 0) (share == 0)) ≡ 0
met-named false own share m = refl
met-named true own share m = by (own == 0) refl (share == 0) refl
  where
    by : (a : Bool) → (own == 0) ≡ a → (b : Bool) → (share == 0) ≡ b → not_yet (state_by true true a b) ≡ 0
    by false a s b = refl
    by true a false b = refl
    by true a true b =
        let l = m refl in
        let none = eqb-true own 0 a in
        let unshared = eqb-true share 0 b in
        absurd (omega (arith, l, none, unshared))

-- ---- keys, in their order

key-is : (kind : Kind) → is_key kind ≡ true → kind ≡ Key
key-is Key e = refl
key-is Class e = absurd (cc)
key-is SubList e = absurd (cc)
key-is Leaf e = absurd (cc)
key-is ValueList e = absurd (cc)
key-is Value e = absurd (cc)
key-is Data e = absurd (cc)
key-is BigHead e = absurd (cc)
key-is BigList e = absurd (cc)
key-is Segment e = absurd (cc)
key-is Security e = absurd (cc)

-- what holds of each key that was named holds of each key's offset
pub on-keys : (P : ℕ → Type 0) (found : List Found) → AllByRecursion (λ (f : Found). f.kind ≡ Key → P f.offset) found → AllByRecursion P (key_offsets found)
on-keys P [] a = tt
on-keys P (f ∷ found) a = by (on-keys P found a.1) (is_key f.kind) refl
  where
    by : AllByRecursion P (key_offsets found) → (b : Bool) → is_key f.kind ≡ b → AllByRecursion P (cond b (f.offset ∷ key_offsets found) (key_offsets found))
    by rest true k = (a.0 (key-is f.kind k), rest)
    by rest false k = rest

all-on : (P Q : ℕ → Type 0) → ((o : ℕ) → P o → Q o) → (os : List ℕ) → AllByRecursion P os → AllByRecursion Q os
all-on P Q h [] a = tt
all-on P Q h (o ∷ os) a = (h o a.0, all-on P Q h os a.1)

-- a key that is as it is written reads
written-reads : (heap : Heap) (root offset : ℕ) → IsWritten heap root offset → IsSome (key_at heap offset)
unfolding key_at
written-reads heap root offset w =
    let l = look-open heap offset w.node w.seen in
    ap is_some (ap (option_and_then (λ (c : List ℕ). result_ok (nk_of c))) l.here ∙ l.key_is)

-- ---- a whole hive

module _ (bins : List ℕ) (root : ℕ) (w : Whole bins root) (minor : ℕ) (new : (minor == 3) ≡ false) (seen : Seen)
    (e : key_from (cell_at bins) minor (suc PATH_LIMIT) [] root_path root nothing ≡ Ok (tt, seen)) where
  back : IsWalked (cell_at bins) root seen.found
  back = walked-back (cell_at bins) minor (suc PATH_LIMIT) root tt seen new e

  -- the walk of the image named just what the hive's own walk meets
  pub same-found : w.whole.found ≡ seen.found
  same-found =
      let fuel = back.fuel + length w.cells in
      same_Some _ _ (sym (walk-more (length w.cells) fuel (cell_at bins) (omega arith) (plainly Key root) w.whole.found w.whole.walked)
      ∙ walk-more back.fuel fuel (cell_at bins) (omega arith) (plainly Key root) seen.found back.walked)

  none-at : (states : List CellState) → IsTable (cell_at bins) seen.found [] states → (offset : ℕ) → not_yet (state_in states offset) ≡ 0
  none-at states t offset =
      ap not_yet (t.each offset)
      ∙ met-named (is_some (cell_at bins offset)) (owned offset seen.found) (shared offset seen.found)
      (λ there. subst (λ (found : List Found). Meets found offset) same-found ((w.whole.exact offset).1 there))

  pub passes-named : (states : List CellState) → IsTable (cell_at bins) seen.found [] states → unnamed states ≡ 0
  passes-named states t = none-left states (λ i. ap not_yet (sym (at-eight states i)) ∙ none-at states t (8 * i))

  pub passes-keys : AllByRecursion (IsWritten (cell_at bins) root) (key_offsets seen.found)
  passes-keys =
      on-keys (IsWritten (cell_at bins) root) seen.found
      (subst (λ (found : List Found). AllByRecursion (λ (f : Found). f.kind ≡ Key → IsWritten (cell_at bins) root f.offset) found) same-found w.whole.keys)

  -- a security is met as often as keys name it
  used : (offset : ℕ) → shared offset w.whole.found ≡ times offset (used_in (cell_at bins) seen.found)
  used offset =
      ap (shared offset) same-found
      ∙ used-shared back.fuel offset root (cell_at bins) seen.found back.walked
      (all-on (IsWritten (cell_at bins) root) (λ o. IsSome (key_at (cell_at bins) o)) (written-reads (cell_at bins) root) (key_offsets seen.found) passes-keys)

  pub passes-ring : IsRingOf (cell_at bins) (used_in (cell_at bins) seen.found) w.whole.ring
  passes-ring = record {
    closed = w.whole.closed;
    members = λ offset. (
      (λ l. (w.whole.ringed offset).0 (subst (λ (n : ℕ). 0 < n) (sym (used offset)) l)),
      λ l. subst (λ (n : ℕ). 0 < n) (used offset) ((w.whole.ringed offset).1 l),
    );
    counts = all-on (λ o. count_at (cell_at bins) o ≡ Some (shared o w.whole.found)) (λ o. count_at (cell_at bins) o ≡ Some (times o (used_in (cell_at bins) seen.found)))
        (λ o c. c ∙ ap Some (used o)) w.whole.ring w.whole.counts;
  }
