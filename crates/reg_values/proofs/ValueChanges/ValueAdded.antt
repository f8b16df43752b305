-- A list of values with one more.
use Rattle.std.proofs.Common.{◌≡◌, ℕ, zero, suc, ◌+◌, ◌<◌, ◌≤◌, true, Option, Some, None, IsSome, List, [], ◌∷◌, ◌++◌, length, refl, sym, ap, ◌∙◌, subst, arith}
use Rattle.reg_arena.proofs.Contents.CellWrites.{all-append}
use Rattle.reg_names.specs.Names.{is_value_name}
use Rattle.reg_heap.specs.Paths.{Member}
use Rattle.reg_heap.specs.Members.{index_named}
use Rattle.std.proofs.Common.{false, not, nat_le, cond, ◌==◌, ◌-◌, ◌*◌, get_or, take, drop, unwrap_or}
use Rattle.std.proofs.lemmas.Bool.{and_parts, leb-true, false≢true}
use Rattle.reg_heap.specs.declared.limits.TheConstants.{VALUES_LIMIT, DATA_LIMIT}
use Rattle.reg_arena.specs.NewCells.{AreSizes}
use Rattle.reg_records.specs.RecordCells.{HasRoom, held}
use Rattle.reg_arena.specs.NewCells.{cell_size}
use Rattle.reg_values.specs.ValueSizes.{data_sizes, room_for, list_sizes, sizes_by, has_room}
use Rattle.reg_values.proofs.ValueData.NewCellRoom.{new-room, list-one-more, list-two}
use Rattle.reg_values.proofs.ValueData.FilledCells.{fills-room}
use Rattle.reg_values.proofs.ValueData.CellSizeTotals.{makes}
use Rattle.reg_heap.specs.Heaps.{Heap, CellFrame, AreNew, allocated}
use Rattle.reg_heap.specs.Kinds.{Found, owned, times}
use Rattle.reg_shape.specs.Nodes.{members_at}
use Rattle.reg_shape.specs.Written.{AreWritten}
use Rattle.reg_shape.proofs.Walking.InnerReadings.{member-inner}
use Rattle.reg_values.specs.Internal.ValueListParts.{list_at, BecameList, Fills, HoldsValue, Owns, OwnsBeside, HaveRoom}
use Rattle.reg_values.specs.ValueLists.{Became, KeepsSizes, Makes}
use Rattle.reg_values.proofs.ValueFreeing.FrameChains.{owned-append, frame-then, frame-with, writes-in, allocated-le, one-there, there-one, kept-apart}
use Rattle.reg_values.proofs.ValueListing.ValueListFrame.{IsOpened, opened, AreRead, values-join, values-one, values-kept, closed, closed-written, list-kept, list-open}
use Rattle.reg_values.proofs.ValueListing.NamedValues.{new-apart, pairs-push}

module _ (h0 h1 h2 : Heap) (count offset : ℕ) (members : List Member) (met : List Found) (e : members_at count offset h0 ≡ Some (members, met))
    (once : (z : ℕ) → owned z met ≤ allocated h0 z) (w : AreWritten h0 count offset members)
    (all spare cells : List ℕ) (cell : ℕ) (parts : (z : ℕ) → times z all ≡ times z (cell ∷ cells) + times z spare)
    (new : CellFrame h0 h1 (λ z. 0) (λ z. times z all)) (f : Fills h1 h2 (cell ∷ cells)) where
  pub was : IsOpened h0 count offset members met
  was = opened h0 count offset members met e w.each

  split : (z : ℕ) → owned z met ≡ owned z was.list_met + owned z was.value_met
  split z = ap (owned z) was.met_is ∙ owned-append z was.list_met was.value_met

  -- all that there is at last
  there : (z : ℕ) → owned z was.list_met + owned z was.value_met + times z (cell ∷ cells) + times z spare ≤ allocated h2 z
  there z = let s = split z in let o = once z in let p = parts z in let n = new.count z in let c = f.writes.count z in omega (arith, s, o, p, n, c)

  there1 : (z : ℕ) → owned z was.list_met + owned z was.value_met + times z (cell ∷ cells) + times z spare ≤ allocated h1 z
  there1 z = let s = split z in let o = once z in let p = parts z in let n = new.count z in omega (arith, s, o, p, n)

  pub list2 : list_at count offset h2 ≡ Some (was.row, was.list_met)
  list2 =
      let k = list-kept count offset h0 h1 _ _ _ _ new was.list_is (λ z. let s = split z in let o = once z in omega (arith, s, o)) in
      list-kept count offset h1 h2 _ _ _ _ f.writes k (λ z. let t = there1 z in omega (arith, t))

  pub owns2 : Owns (list_at count offset) h2
  owns2 = record { result = was.row; met = was.list_met; reads = list2; once = λ z. (let t = there z in omega (arith, t)) }

  pub beside2 : OwnsBeside (list_at count offset) h2 spare
  beside2 = record { result = was.row; met = was.list_met; reads = list2; once = λ z. (let t = there z in omega (arith, t)) }

  module _ (h3 : Heap) (count3 offset3 : ℕ) (t : BecameList h2 h3 (λ z. owned z was.list_met + times z spare) count3 offset3 (was.row ++ cell ∷ []))
      (m : Member) (v : HoldsValue h2 cell m (cell ∷ cells)) where
    values3 : AreRead h3 (was.row ++ cell ∷ []) (members ++ m ∷ []) (was.value_met ++ v.met)
    values3 =
        let a1 = values-kept h0 h1 _ _ new _ _ _ (λ z. let s = split z in let o = once z in omega (arith, s, o)) was.values in
        let a2 = values-kept h1 h2 _ _ f.writes _ _ _ (λ z. let t = there1 z in omega (arith, t)) a1 in
        let a3 = values-kept h2 h3 _ _ t.frame _ _ _ (λ z. let t = there z in omega (arith, t)) a2 in
        let b2 = values-one h2 cell m v.met v.reads v.written (member-inner h2 cell (m, v.met) v.reads) in
        let b3 = values-kept h2 h3 _ _ t.frame _ _ _ (λ z. let t = there z in let o = v.owns z in omega (arith, t, o)) b2 in
        values-join h3 was.row (cell ∷ []) members (m ∷ []) was.value_met v.met a3 b3

    pub added : index_named m.name members ≡ None → count3 ≡ count + 1 → count < VALUES_LIMIT → is_value_name m.name ≡ true → length m.bytes ≤ DATA_LIMIT →
        Became h0 h3 met count3 offset3 (members ++ m ∷ [])
    added n less few named small =
        let T : ℕ → ℕ = λ z. owned z met + times z all in
        record {
          cells = t.cells ++ (was.value_met ++ v.met);
          reads = closed h3 count3 offset3 _ _ t.cells _ t.reads values3;
          frame = frame-then h0 h1 h3 (λ z. owned z met) T (λ z. owned z (t.cells ++ (was.value_met ++ v.met)))
              (frame-with h0 h1 _ _ (λ z. owned z met) (λ z. owned z met) T new (λ z. omega arith) (λ z. omega arith))
              (frame-then h1 h2 h3 T T (λ z. owned z (t.cells ++ (was.value_met ++ v.met)))
              (writes-in h1 h2 (cell ∷ cells) T f.writes (λ z. let p = parts z in omega (arith, p)))
              (frame-with h2 h3 _ _ (λ z. owned z was.value_met + times z (cell ∷ cells)) T (λ z. owned z (t.cells ++ (was.value_met ++ v.met))) t.frame
              (λ z. let s = split z in let p = parts z in omega (arith, s, p)) (λ z. let o = v.owns z in
              omega (arith, o, owned-append z t.cells (was.value_met ++ v.met), owned-append z was.value_met v.met))));
          written = record {
            few = omega (arith, less, few);
            none = λ z. absurd (omega (arith, less, z));
            each = closed-written h3 count3 offset3 _ _ t.cells _ t.reads values3;
            names = all-append _ members (m ∷ []) w.names (named, tt);
            apart = pairs-push members m w.apart (new-apart m.name m.kind m.bytes members n);
            sizes = all-append _ members (m ∷ []) w.sizes (small, tt);
          };
        }

    pub add-makes : (sizes : List ℕ) → AreNew h0 h1 all sizes → AreSizes sizes → KeepsSizes h2 h3 → 0 < count3 →
        ((z : ℕ) → times z (offset3 ∷ []) ≤ owned z was.list_met + times z spare) → ((z : ℕ) → times z spare ≤ times z (offset3 ∷ [])) → Makes h0 h3 sizes
    add-makes sizes a s k some less more =
        let r = list-open h3 count3 offset3 _ t.cells t.reads some in
        let came : (z : ℕ) → owned z t.cells ≡ times z (offset3 ∷ []) = λ z. ap (owned z) r.met_is in
        makes h0 h1 h3 all sizes a s
        (λ z. let c = t.frame.count z in let m = came z in let l = less z in let g = f.writes.count z in omega (arith, c, m, l, g))
        (λ z p.
        let c = t.frame.count z in
        let m = came z in
        let q = more z in
        let x = there z in
        let y = parts z in
        let b = allocated-le h2 z in
        k z (one-there (h2 z) (omega (arith, x, y, p))) (one-there (h3 z) (omega (arith, c, m, q, x, y, b, p))) ∙ f.sizes z)

-- ---- the new cells, in their parts

pub new-all : (h0 h1 : Heap) (os all ss sizes : List ℕ) → AreNew h0 h1 os ss → all ≡ os → ss ≡ sizes → AreNew h0 h1 all sizes
new-all h0 h1 os all ss sizes a e p = subst (λ xs. AreNew h0 h1 xs sizes) (sym e) (subst (AreNew h0 h1 os) p a)

module _ (h0 h1 : Heap) (all : List ℕ) (s : ℕ) (ds : List ℕ) (a : AreNew h0 h1 all (s ∷ ds)) where
  pub one-apart : all ≡ get_or all 0 0 ∷ take (length all - 1) (drop 1 all)
  one-apart = let n = a.as_many in list-one-more all (omega (arith, n))

  pub one-rooms : HaveRoom h1 (get_or all 0 0 ∷ take (length all - 1) (drop 1 all)) (s ∷ ds)
  one-rooms = subst (λ xs. HaveRoom h1 xs (s ∷ ds)) one-apart (new-room h0 h1 all (s ∷ ds) a)

  pub one-parts : (z : ℕ) → times z all ≡ times z (get_or all 0 0 ∷ take (length all - 1) (drop 1 all)) + times z []
  one-parts z = let e = ap (times z) one-apart in omega (arith, e)

module _ (h0 h1 : Heap) (all : List ℕ) (s l : ℕ) (ds : List ℕ) (a : AreNew h0 h1 all (s ∷ l ∷ ds)) where
  pub two-long : 2 ≤ length all
  two-long = let n = a.as_many in omega (arith, n)

  pub two-apart : all ≡ get_or all 0 0 ∷ get_or all 1 0 ∷ take (length all - 2) (drop 2 all)
  two-apart = list-two all two-long

  pub two-rooms : HaveRoom h1 (get_or all 0 0 ∷ take (length all - 2) (drop 2 all)) (s ∷ ds)
  two-rooms = without (get_or all 0 0) (get_or all 1 0) (take (length all - 2) (drop 2 all)) (subst (λ xs. HaveRoom h1 xs (s ∷ l ∷ ds)) two-apart (new-room h0 h1 all (s ∷ l ∷ ds) a))
    where
      without : (x y : ℕ) (xs : List ℕ) → HaveRoom h1 (x ∷ y ∷ xs) (s ∷ l ∷ ds) → HaveRoom h1 (x ∷ xs) (s ∷ ds)
      without x y xs r = record {
        as_many = (let n = r.as_many in omega (arith, n));
        once = λ z. (let o = r.once z in omega (arith, o));
        room = λ i l. rooms i l;
      }
        where
          rooms : (i : ℕ) → i < length (x ∷ xs) → HasRoom h1 (get_or (x ∷ xs) i 0) (get_or (s ∷ ds) i 0 - 4)
          rooms zero l = r.room 0 (omega arith)
          rooms (suc i) l = r.room (suc (suc i)) (omega (arith, l))

  pub two-list : HasRoom h1 (get_or all 1 0) (l - 4)
  two-list = (new-room h0 h1 all (s ∷ l ∷ ds) a).room 1 (let n = two-long in omega (arith, n))

  pub two-parts : (z : ℕ) → times z all ≡ times z (get_or all 0 0 ∷ take (length all - 2) (drop 2 all)) + times z (get_or all 1 0 ∷ [])
  two-parts z = let e = ap (times z) two-apart in omega (arith, e)

  pub two-spare : (z : ℕ) → times z (get_or all 0 0 ∷ take (length all - 2) (drop 2 all)) + times z (get_or all 1 0 ∷ []) ≤ 1
  two-spare z = let e = two-parts z in let o = (new-room h0 h1 all (s ∷ l ∷ ds) a).once z in omega (arith, e, o)

pub room-sizes : (h : Heap) (count offset name size : ℕ) → has_room h count offset ≡ true → sizes_by h count offset name size None ≡ cell_size (20 + name) ∷ data_sizes size
unfolding list_sizes
room-sizes h count offset name size r = ap (λ b. cell_size (20 + name) ∷ (cond b [] (cell_size (4 * room_for (count + 1)) ∷ []) ++ data_sizes size)) r

pub full-sizes : (h : Heap) (count offset name size : ℕ) → has_room h count offset ≡ false →
    sizes_by h count offset name size None ≡ cell_size (20 + name) ∷ cell_size (4 * room_for (count + 1)) ∷ data_sizes size
unfolding list_sizes
full-sizes h count offset name size r = ap (λ b. cell_size (20 + name) ∷ (cond b [] (cell_size (4 * room_for (count + 1)) ∷ []) ++ data_sizes size)) r

-- the list's own cell has room
pub list-space : (h0 h1 h2 : Heap) (count offset : ℕ) (cells more : List ℕ) → has_room h0 count offset ≡ true → IsSome (h0 offset) →
    CellFrame h0 h1 (λ z. 0) (λ z. times z more) → Fills h1 h2 cells → HasRoom h2 offset (4 * count + 4)
list-space h0 h1 h2 count offset cells more r s n f =
    let b = and_parts (not (count == 0)) (nat_le (4 * count + 4) (length (held h0 offset))) r in
    let l : 4 * count + 4 ≤ length (held h0 offset) = leb-true _ _ b.1 in
    let a = there-one h0 offset s in
    let same = kept-apart h0 h1 _ _ n offset (omega (arith, a)) refl in
    let room : HasRoom h1 offset (4 * count + 4) = record { exists = subst IsSome (sym same) s; enough = subst (λ (o : Option (List ℕ)). 4 * count + 4 ≤ length (unwrap_or o [])) (sym same) l } in
    fills-room h1 h2 cells offset _ f room

pub some-count : (h : Heap) (count offset : ℕ) → has_room h count offset ≡ true → 0 < count
some-count h zero offset r = absurd (false≢true r)
some-count h (suc n) offset r = omega arith

pub became-as : (h k : Heap) (f f' : ℕ → ℕ) (count offset : ℕ) (row : List ℕ) → ((z : ℕ) → f' z ≡ f z) → BecameList h k f count offset row → BecameList h k f' count offset row
became-as h k f f' count offset row e b = record { cells = b.cells; reads = b.reads; frame = frame-with h k f _ (λ z. 0) f' (λ z. owned z b.cells) b.frame (λ z. e z ∙ omega arith) (λ z. omega arith) }
