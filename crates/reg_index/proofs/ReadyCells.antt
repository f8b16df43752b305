-- Cells that were carved as they were planned.
use Rattle.std.proofs.Common.{◌≡◌, ℕ, suc, ◌+◌, ◌-◌, ◌*◌, ◌<◌, ◌≤◌, true, false, cond, Bool, nat_le, Option, Some, None, IsSome, List, [], ◌∷◌, ◌++◌, length, refl, sym, ap, ◌∙◌, subst, arith, inl, inr, ◌⊎◌}
use Rattle.std.specs.List.{AllByRecursion}
use Rattle.std.proofs.lemmas.Bool.{cases_eq, false≢true}
use Rattle.std.proofs.lemmas.Bool.Decides.{nat_tests}
use Rattle.std.proofs.lemmas.List.{append-nil, length-append}
use Rattle.std.proofs.lemmas.Option.{none-some}
use Rattle.reg_heap.specs.declared.limits.TheConstants.{LEAF_LIMIT, SUBKEYS_LIMIT}
use Rattle.reg_heap.specs.Heaps.{Heap}
use Rattle.reg_heap.specs.Kinds.{times}
use Rattle.reg_records.specs.KeyNodes.{key_at}
use Rattle.reg_records.specs.RecordCells.{HasRoom, held}
use Rattle.reg_records.specs.SubkeyLists.{Entry}
use Rattle.reg_shape.specs.Nodes.{KeyList, lists_of}
use Rattle.reg_index.specs.declared.Place.{Place}
use Rattle.reg_index.specs.declared.IndexCells.{IndexCells}
use Rattle.reg_index.specs.declared.plan.TheConstants.{FIRST_LIST_SIZE, FIRST_HALF, SECOND_HALF}
use Rattle.reg_index.specs.Internal.IndexLists.{HasLists, HasRoomAt, HasRoomFor, HasRoomForTwo, HasRootRoom, IsOnce, Stands, cells_under}
use Rattle.reg_index.specs.Subkeys.{AreSubkeys, IsPlaceIn, IsReady, IsReadyCell, each_of, entries_in, grown_size, index_of, index_under, insert_sizes, list_size, numbered, own, root_size, root_sizes, taken}
use Rattle.reg_index.proofs.CellCounts.{times-append}
use Rattle.reg_index.proofs.SubkeysFrame.{times-not}
use Rattle.reg_index.proofs.InsertSizes.{first-sizes, planned-one, planned-two, place-there}
use Rattle.reg_index.proofs.ListPlaces.{all-stand, list-stands}
use Rattle.reg_index.proofs.SubkeysOnce.{own-cells}
use Rattle.reg_index.proofs.SubkeysOpening.{lists-has}

-- ---- one cell

pub ready-none : (heap : Heap) (cell : Option ℕ) → IsReadyCell heap None cell → cell ≡ None
ready-none heap None r = refl
ready-none heap (Some cell) r = absurd r

pub record Carved (heap : Heap) (size : ℕ) (cell : Option ℕ) : Type 0 where
  pub at : ℕ
  pub is : cell ≡ Some at
  pub room : HasRoom heap at (size - 4)
  pub exact : length (held heap at) + 4 ≡ size

pub ready-some : (heap : Heap) (size : ℕ) (cell : Option ℕ) → IsReadyCell heap (Some size) cell → Carved heap size cell
ready-some heap size None r = absurd r
ready-some heap size (Some cell) r = record { at = cell; is = refl; room = record { exists = r.0; enough = omega (arith, r.1) }; exact = r.1 }

-- no key is in a cell that was carved
taken-none : (heap : Heap) (plan cell : Option ℕ) (key : ℕ) → IsReadyCell heap plan cell → IsSome (key_at heap key) → times key (taken cell) ≡ 0
taken-none heap plan None key ready some = refl
taken-none heap None (Some cell) key ready some = absurd ready
taken-none heap (Some size) (Some cell) key ready some =
    times-not key cell [] (λ same. false≢true (subst IsSome ready.2 (subst (λ z. IsSome (key_at heap z)) (sym same) some))) refl

pub each-count : (cells : IndexCells) (z : ℕ) → times z (each_of cells) ≡ times z (taken cells.list) + times z (taken cells.second) + times z (taken cells.root)
each-count cells z =
    omega (arith, times-append z (taken cells.list ++ taken cells.second) (taken cells.root), times-append z (taken cells.list) (taken cells.second))

pub each-none : (heap : Heap) (plan cells : IndexCells) → IsReady heap plan cells → (key : ℕ) → IsSome (key_at heap key) → times key (each_of cells) ≡ 0
each-none heap plan cells ready key some = omega (
  arith,
  each-count cells key,
  taken-none heap plan.list cells.list key ready.list some,
  taken-none heap plan.second cells.second key ready.second some,
  taken-none heap plan.root cells.root key ready.root some,
)

-- ---- room, as it was planned

abbrev sized : Bool → ℕ → Option ℕ
sized b size = cond b None (Some size)

-- in the cell, or in another one
room-by : (heap : Heap) (cell needed size : ℕ) (fresh : Option ℕ) → needed + 4 ≤ size → IsReadyCell heap (sized (nat_le needed (length (held heap cell))) size) fresh →
    HasRoomFor heap cell fresh needed
room-by heap cell needed size fresh enough ready = by (nat_le needed (length (held heap cell))) refl ready
  where
    by : (b : Bool) → nat_le needed (length (held heap cell)) ≡ b → IsReadyCell heap (sized b size) fresh → HasRoomFor heap cell fresh needed
    by true t r =
        let l : needed ≤ length (held heap cell) = grind (arith, nat_tests, t) in
        subst (λ fresh. HasRoomFor heap cell fresh needed) (sym (ready-none heap fresh r)) l
    by false t r =
        let c = ready-some heap size fresh r in
        let short : length (held heap cell) < needed = grind (arith, nat_tests, t) in
        subst (λ fresh. HasRoomFor heap cell fresh needed) (sym c.is) (
          record { exists = c.room.exists; enough = omega (arith, c.room.enough, enough) },
          λ same. absurd (omega (arith, ap (λ z. length (held heap z)) same, c.exact, enough, short)),
        )

leaf-room : (heap : Heap) (list : KeyList) (fresh : Option ℕ) → IsReadyCell heap (grown_size heap list) fresh →
    HasRoomFor heap list.offset fresh (4 + 8 * suc (length list.list.entries))
leaf-room heap list fresh ready =
    room-by heap list.offset (4 + 8 * suc (length list.list.entries)) (list_size (suc (length list.list.entries))) fresh (omega arith) ready

root-room : (heap : Heap) (offset : ℕ) (lists : List KeyList) (fresh : Option ℕ) → 0 < length lists → IsReadyCell heap (root_sizes heap (index_under offset lists)) fresh →
    HasRootRoom heap offset lists fresh
root-room heap offset [] fresh some ready = absurd (omega (arith, some))
root-room heap offset (list ∷ []) None some ready = absurd ready
root-room heap offset (list ∷ []) (Some cell) some ready = record { exists = ready.0; enough = omega (arith, ready.1) }
root-room heap offset (first ∷ second ∷ others) fresh some ready =
    let k : ℕ = suc (length (first ∷ second ∷ others)) in
    let big : 4 + 4 * k + 4 ≤ root_size k = omega arith in
    room-by heap offset (4 + 4 * k) (root_size k) fresh big ready

-- ---- no subkeys

module _ (heap : Heap) (count offset : ℕ) (place : Place) (cells : IndexCells) (none : count ≡ 0) (ready : IsReady heap (insert_sizes heap count offset place) cells) where
  first-ready : IsReady heap (record { list = Some FIRST_LIST_SIZE; second = None; root = None }) cells
  first-ready = subst (λ plan. IsReady heap plan cells) (sym (first-sizes heap count offset place none)) ready

  pub first-carved : cells.list ≡ None → ⊥
  first-carved e = let c = ready-some heap FIRST_LIST_SIZE cells.list first-ready.list in none-some _ (sym e ∙ c.is)

  pub first-room : (cell : ℕ) → cells.list ≡ Some cell → HasRoom heap cell 12
  first-room cell e =
      let r : IsReadyCell heap (Some FIRST_LIST_SIZE) (Some cell) = subst (IsReadyCell heap (Some FIRST_LIST_SIZE)) e first-ready.list in
      record { exists = r.0; enough = omega (arith, r.1) }

  pub first-alone : (cell : ℕ) → cells.list ≡ Some cell → each_of cells ≡ cell ∷ []
  first-alone cell e =
      λ i. (taken (e i) ++ taken (ready-none heap cells.second first-ready.second i)) ++ taken (ready-none heap cells.root first-ready.root i)

-- ---- some

-- as many lists as entries, at most
pub few-by : (heap : Heap) (lists : List KeyList) → AllByRecursion (Stands heap) lists → length lists ≤ length (entries_in lists)
few-by heap [] all = omega arith
few-by heap (list ∷ lists) all = omega (arith, few-by heap lists all.1, all.0.written.some, length-append list.list.entries (entries_in lists))

module _ (heap : Heap) (count offset : ℕ) (place : Place) (cells : IndexCells) (some : count ≡ 0 → ⊥) (p : IsPlaceIn (index_of heap count offset) place)
    (ready : IsReady heap (insert_sizes heap count offset place) cells) (once : IsOnce (own heap count offset ++ each_of cells))
    (entries : List Entry) (s : AreSubkeys heap count offset entries) where
  here : (place.list < length (lists_of s.index)) × (place.index ≤ length (numbered place.list (lists_of s.index)).list.entries)
  here = place-there heap count offset place entries s some p

  has : HasLists heap offset (lists_of s.index)
  has = lists-has heap count offset entries s

  part-ready : (length (numbered place.list (lists_of s.index)).list.entries ≡ LEAF_LIMIT → ⊥) →
      IsReady heap (record { list = grown_size heap (numbered place.list (lists_of s.index)); second = None; root = None }) cells
  part-ready n = subst (λ plan. IsReady heap plan cells) (sym (planned-one heap count offset place entries s some _ n refl)) ready

  full-ready : length (numbered place.list (lists_of s.index)).list.entries ≡ LEAF_LIMIT →
      IsReady heap (record { list = Some (list_size FIRST_HALF); second = Some (list_size SECOND_HALF); root = root_sizes heap (index_under offset (lists_of s.index)) }) cells
  full-ready e = subst (λ plan. IsReady heap plan cells) (sym (planned-two heap count offset place entries s some _ e refl)) ready

  -- no second cell, and so no full list
  pub not-full : cells.second ≡ None → length (numbered place.list (lists_of s.index)).list.entries ≡ LEAF_LIMIT → ⊥
  not-full none e = let c = ready-some heap (list_size SECOND_HALF) cells.second (full-ready e).second in none-some _ (sym none ∙ c.is)

  pub is-full : (second : ℕ) → cells.second ≡ Some second → length (numbered place.list (lists_of s.index)).list.entries ≡ LEAF_LIMIT
  is-full second e = by (cases_eq (length (numbered place.list (lists_of s.index)).list.entries) LEAF_LIMIT)
    where
      by : (length (numbered place.list (lists_of s.index)).list.entries ≡ LEAF_LIMIT) ⊎ (length (numbered place.list (lists_of s.index)).list.entries ≡ LEAF_LIMIT → ⊥) →
          length (numbered place.list (lists_of s.index)).list.entries ≡ LEAF_LIMIT
      by (inl f) = f
      by (inr n) = absurd (none-some _ (sym (ready-none heap cells.second (part-ready n).second) ∙ e))

  pub no-root : cells.second ≡ None → cells.root ≡ None
  no-root none = ready-none heap cells.root (part-ready (not-full none)).root

  pub one-alone : cells.second ≡ None → each_of cells ≡ taken cells.list
  one-alone none =
      (λ i. (taken cells.list ++ taken (none i)) ++ taken (no-root none i))
      ∙ (append-nil (taken cells.list ++ []) ∙ append-nil (taken cells.list))

  pub room-at : cells.second ≡ None → HasRoomAt heap offset (lists_of s.index) place cells.list
  room-at none = record {
    lists_are = has;
    within = here.0;
    index = here.1;
    few = omega (arith, (list-stands heap offset (lists_of s.index) place.list has here.0).written.few, not-full none);
    room = leaf-room heap (numbered place.list (lists_of s.index)) cells.list (part-ready (not-full none)).list;
    once = λ z. omega (
      arith,
      once z,
      each-count cells z,
      times-append z (own heap count offset) (each_of cells),
      times-append z (cells_under offset (lists_of s.index)) (taken cells.list),
      ap (times z) (own-cells heap count offset entries s),
    );
  }

  module _ (second : ℕ) (e : cells.second ≡ Some second) where
    pub first-there : cells.list ≡ None → ⊥
    first-there none = let c = ready-some heap (list_size FIRST_HALF) cells.list (full-ready (is-full second e)).list in none-some _ (sym none ∙ c.is)

    module _ (first : ℕ) (f : cells.list ≡ Some first) where
      pub all-three : each_of cells ≡ first ∷ second ∷ taken cells.root
      all-three = λ i. (taken (f i) ++ taken (e i)) ++ taken cells.root

      pub room-for-two : count < SUBKEYS_LIMIT → HasRoomForTwo heap offset (lists_of s.index) place first second cells.root
      room-for-two few =
          let r = full-ready (is-full second e) in
          let a : IsReadyCell heap (Some (list_size FIRST_HALF)) (Some first) = subst (IsReadyCell heap (Some (list_size FIRST_HALF))) f r.list in
          let b : IsReadyCell heap (Some (list_size SECOND_HALF)) (Some second) = subst (IsReadyCell heap (Some (list_size SECOND_HALF))) e r.second in
          record {
            lists_are = has;
            within = here.0;
            few_lists = omega (arith, few-by heap (lists_of s.index) (all-stand heap offset (lists_of s.index) has), ap length s.entries_are, s.number, few);
            index = here.1;
            full = is-full second e;
            first_room = record { exists = a.0; enough = omega (arith, a.1) };
            second_room = record { exists = b.0; enough = omega (arith, b.1) };
            root_room = root-room heap offset (lists_of s.index) cells.root (omega (arith, here.0)) r.root;
            once = λ z. omega (
              arith,
              once z,
              ap (times z) all-three,
              times-append z (own heap count offset) (each_of cells),
              times-append z (cells_under offset (lists_of s.index)) (first ∷ second ∷ taken cells.root),
              ap (times z) (own-cells heap count offset entries s),
            );
          }
