-- Cells that are freed, one after another.
use Rattle.std.proofs.Common.{◌≡◌, ℕ, zero, suc, ◌+◌, ◌*◌, ◌<◌, ◌≤◌, Some, IsSome, List, [], ◌∷◌, ◌++◌, length, take, get_or, refl, sym, ap, ◌∙◌, subst, arith, add-one}
use Rattle.std.proofs.lemmas.Option.{same_Some}
use Rattle.reg_heap.specs.Kinds.{Found, times, owned}
use Rattle.reg_heap.specs.Paths.{Member}
use Rattle.reg_heap.specs.Heaps.{Heap, CellFrame, GivesUp, allocated}
use Rattle.reg_records.specs.declared.db.TheConstants.{SEGMENT_SIZE}
use Rattle.reg_records.specs.declared.vk.ValueFields.{ValueFields}
use Rattle.reg_records.specs.RecordCells.{held}
use Rattle.reg_records.specs.KeyValues.{KeyValueRecord, value_record_at}
use Rattle.reg_records.specs.OffsetRows.{offsets_at}
use Rattle.reg_records.specs.BigData.{BigData, segments_for, db_of}
use Rattle.reg_shape.specs.Nodes.{big_at, data_at, member_at}
use Rattle.reg_values.specs.Internal.ValueListParts.{Owns}
use Rattle.reg_values.proofs.ValueListing.FoundValues.{IsMember, member-open}
use Rattle.reg_values.proofs.ValueData.DataPieces.{IsBig, big-open, segments-owned}
use Rattle.reg_values.proofs.ValueData.DataForms.{one-data}
use Rattle.reg_values.proofs.ValueFreeing.FrameChains.{times-same, times-append, allocated-le, one-there, frame-none, frame-then, frame-with, kept-apart}

take-suc : (row : List ℕ) (i : ℕ) → i < length row → take (suc i) row ≡ take i row ++ get_or row i 0 ∷ []
take-suc [] i l = absurd (omega arith)
take-suc (o ∷ row) zero l = refl
take-suc (o ∷ row) (suc i) l = ap (λ xs. o ∷ xs) (take-suc row i (omega arith))

take-next : (row : List ℕ) (i : ℕ) → i < length row → take (i + 1) row ≡ take i row ++ get_or row i 0 ∷ []
take-next row i l = ap (λ n. take n row) (add-one i) ∙ take-suc row i l

take-times : (z : ℕ) (row : List ℕ) (i : ℕ) → times z (take i row) ≤ times z row
take-times z [] zero = omega arith
take-times z [] (suc i) = omega arith
take-times z (o ∷ row) zero = omega arith
take-times z (o ∷ row) (suc i) = let k = take-times z row i in omega (arith, k)

take-whole : (row : List ℕ) (i : ℕ) → length row ≤ i → take i row ≡ row
take-whole [] zero l = refl
take-whole [] (suc i) l = refl
take-whole (o ∷ row) zero l = absurd (omega arith)
take-whole (o ∷ row) (suc i) l = ap (λ xs. o ∷ xs) (take-whole row i (omega arith))

next-times : (z : ℕ) (row : List ℕ) (i : ℕ) → i < length row → times z (take (i + 1) row) ≡ times z (take i row) + times z (get_or row i 0 ∷ [])
next-times z row i l = ap (times z) (take-next row i l) ∙ times-append z (take i row) (get_or row i 0 ∷ [])

module _ (h0 h : Heap) (list i : ℕ) (row : List ℕ) (once : (z : ℕ) → times z row + times z (list ∷ []) ≤ allocated h0 z) (s : GivesUp h0 h (take i row)) where
  pub list-kept : IsSome (h0 list) → h list ≡ h0 list
  list-kept e =
      let o = once list in let t = times-same list in let p = take-times list row i in let a = allocated-le h0 list in
      kept-apart h0 h _ _ s list (omega (arith, o, t)) (omega (arith, o, t, p, a))

  module _ (l : i < length row) where
    pub next-there : IsSome (h (get_or row i 0))
    next-there =
        let z = get_or row i 0 in
        let o = once z in
        let t = times-same z in
        let n = next-times z row i l in
        let p = take-times z row (i + 1) in
        let c = s.count z in
        one-there (h z) (omega (arith, o, t, n, p, c))

    pub freed-more : (k : Heap) → GivesUp h k (get_or row i 0 ∷ []) → GivesUp h0 k (take (i + 1) row)
    freed-more k g =
        let x = get_or row i 0 in
        frame-then h0 h k _ (λ z. times z (x ∷ [])) _
        (frame-with h0 h _ _ (λ z. times z (x ∷ [])) (λ z. times z (take (i + 1) row)) (λ z. times z (x ∷ [])) s (λ z. next-times z row i l) (λ z. omega arith))
        g

pub freed-none : (h : Heap) (row : List ℕ) → GivesUp h h (take 0 row)
freed-none h row = frame-none h

pub freed-all : (h k : Heap) (row : List ℕ) (i : ℕ) → length row ≤ i → GivesUp h k (take i row) → GivesUp h k row
freed-all h k row i l g = subst (GivesUp h k) (take-whole row i l) g

-- one more cell is given up
pub gone-more : (a b c : Heap) (x : ℕ) (f f' : ℕ → ℕ) → CellFrame a b f (λ z. 0) → GivesUp b c (x ∷ []) → ((z : ℕ) → f' z ≡ f z + times z (x ∷ [])) → CellFrame a c f' (λ z. 0)
gone-more a b c x f f' s g e = frame-then a b c f' (λ z. times z (x ∷ [])) (λ z. 0) (frame-with a b f (λ z. 0) (λ z. times z (x ∷ [])) f' (λ z. times z (x ∷ [])) s e (λ z. omega arith)) g

pub gone-as : (a b : Heap) (f f' : ℕ → ℕ) → CellFrame a b f (λ z. 0) → ((z : ℕ) → f' z ≡ f z) → CellFrame a b f' (λ z. 0)
gone-as a b f f' s e = frame-with a b f (λ z. 0) (λ z. 0) f' (λ z. 0) s (λ z. e z ∙ omega arith) (λ z. omega arith)

-- a cell that is met and not yet given up is there
pub still-there : (a b : Heap) (f : ℕ → ℕ) (x : ℕ) → CellFrame a b f (λ z. 0) → f x + times x (x ∷ []) ≤ allocated a x → IsSome (b x)
still-there a b f x s l = let c = s.count x in let t = times-same x in one-there (b x) (omega (arith, c, l, t))

-- ---- big data

module _ (h : Heap) (size cell : ℕ) (all : List ℕ) (met : List Found) (e : big_at size cell h ≡ Some (all, met)) (list count : ℕ)
    (d : db_of (held h cell) ≡ Some (record { count = count; list = list })) where
  big : IsBig h size cell all met
  big = big-open h size cell all met e

  same : big.big.list ≡ list
  same = ap (λ (b : BigData). b.list) (same_Some _ _ (sym big.big_is ∙ d))

  pub big-list : IsSome (h list)
  big-list = subst (λ l. IsSome (h l)) same big.list_here

  pub big-long : 4 * segments_for size ≤ length (held h list)
  big-long = subst (λ l. 4 * segments_for size ≤ length (held h l)) same big.long

  pub big-owned : (z : ℕ) → owned z met ≡ times z (offsets_at (segments_for size) 0 (held h list)) + times z (list ∷ []) + times z (cell ∷ [])
  big-owned z =
      let o = segments-owned h z size (offsets_at (segments_for size) 0 (held h big.big.list)) all big.cells big.pieces in
      let m = ap (owned z) big.met in
      let whole : owned z met ≡ times z (offsets_at (segments_for size) 0 (held h big.big.list)) + times z (big.big.list ∷ []) + times z (cell ∷ []) = omega (arith, o, m) in
      subst (λ l. owned z met ≡ times z (offsets_at (segments_for size) 0 (held h l)) + times z (l ∷ []) + times z (cell ∷ [])) same whole

pub big-same : (h : Heap) (size cell : ℕ) (b : Owns (big_at size cell) h) (all : List ℕ) (met : List Found) → big_at size cell h ≡ Some (all, met) → (z : ℕ) → owned z met ≤ allocated h z
big-same h size cell b all met e z = let q = ap (λ (p : List ℕ × List Found). owned z p.1) (same_Some _ _ (sym b.reads ∙ e)) in let o = b.once z in omega (arith, q, o)

-- ---- a value

module _ (h : Heap) (cell : ℕ) (m : Member) (met : List Found) (e : member_at cell h ≡ Some (m, met)) (fields : ValueFields) (name : List ℕ)
    (r : value_record_at h cell ≡ Some (record { fields = fields; name = name })) where
  pub member-parts : IsMember h cell m met
  member-parts = member-open h cell m met e

  pub member-data : data_at fields h ≡ Some (m.bytes, member-parts.cells)
  member-data = ap (λ (v : KeyValueRecord). data_at v.fields h) (same_Some _ _ (sym r ∙ member-parts.reads)) ∙ member-parts.data_is

  pub member-owned : (z : ℕ) → owned z met ≡ owned z member-parts.cells + times z (cell ∷ [])
  member-owned z = let q = ap (owned z) member-parts.met in omega (arith, q)

pub one-owned : (h : Heap) (fields : ValueFields) (all : List ℕ) (met : List Found) → data_at fields h ≡ Some (all, met) → 0 < fields.size →
    fields.size ≤ SEGMENT_SIZE → (z : ℕ) → owned z met ≡ times z (fields.offset ∷ [])
one-owned h fields all met e p l z = ap (owned z) (one-data h fields all met e p l).met_is
