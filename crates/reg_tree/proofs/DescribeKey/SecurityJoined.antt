-- A security that has a descriptor for one key more: one of the ring that has it, or a new one.
use Rattle.std.proofs.Common.{◌≡◌, ◌≢◌, inl, inr, ◌⊎◌, ℕ, ◌+◌, ◌<◌, ◌≤◌, Option, Some, None, IsSome, is_some, List, [], ◌∷◌, ◌++◌, length, drop, refl, sym, ap, ◌∙◌, subst, arith, length-append}
use Rattle.std.specs.Prelude.{Result, Err, unwrap_or}
use Rattle.std.specs.Option.{option_map}
use Rattle.std.proofs.lemmas.Bool.{cases_eq}
use Rattle.std.proofs.lemmas.List.{length-drop}
use Rattle.reg_heap.specs.declared.limits.TheConstants.{GROWTH_BOUND, BINS_LIMIT, DESCRIPTOR_LIMIT}
use Rattle.reg_heap.specs.Heaps.{Heap}
use Rattle.reg_heap.specs.Kinds.{times}
use Rattle.reg_arena.specs.declared.ArenaFault.{ArenaFault}
use Rattle.reg_arena.specs.Cells.{cell_at}
use Rattle.reg_arena.specs.NewBin.{PassesLimit}
use Rattle.reg_arena.specs.NewCells.{cell_size, total_of}
use Rattle.reg_records.specs.RecordCells.{HasRoom, held}
use Rattle.reg_records.specs.declared.sk.SecurityFields.{SecurityFields}
use Rattle.reg_records.specs.KeySecurities.{KeySecurityRecord, security_at, sk_bytes}
use Rattle.reg_records.proofs.KeySecurityCodec.{security_at-same}
use Rattle.reg_shape.specs.Written.{IsWrittenSecurity}
use Rattle.reg_shape.specs.Whole.{IsRing, count_at}
use Rattle.reg_shape.specs.Internal.Grafts.{uses_in}
use Rattle.reg_shape.proofs.Wholeness.ShapeRecords.{all-at, at-most-one}
use Rattle.reg_shape.proofs.Graft.WholeAfterGraft.{where-none, uses-counted}
use Rattle.reg_values.proofs.ValueFreeing.FrameChains.{times-same}
use Rattle.reg_index.proofs.SubkeysFrame.{times-not}
use Rattle.reg_security.specs.Rings.{DescriptorCells, Describes, Finds, Expects, IsAdded, IsPut, IsRelinked, Recounts, cell_of}
use Rattle.reg_security.proofs.RingCounted.{descriptor-recounted, security-there}
use Rattle.reg_security.proofs.TableCells.{finds-same}
use Rattle.reg_tree.specs.Internal.KeyNodeChanges.{SameSizes}
use Rattle.reg_tree.specs.Internal.DescriptorChange.{IsDescribable, Joins}
use Rattle.reg_tree.proofs.DeleteKey.SecurityReleased.{same-uses}
use Rattle.reg_tree.proofs.Invariant.CellReadings.{is_some_of, security-exists}
use Rattle.reg_tree.proofs.Invariant.KeyCountBound.{count-few}
use Rattle.reg_tree.proofs.Invariant.UntouchedCells.{written-allocated}

-- ---- a cell for a descriptor

-- a bin for one descriptor's cell is small
pub near-limit : (bytes : List ℕ) (size : ℕ) → size ≤ DESCRIPTOR_LIMIT → PassesLimit bytes (total_of (cell_size (20 + size) ∷ [])) → BINS_LIMIT < length bytes + GROWTH_BOUND
near-limit bytes size small past = let l = past.least.least GROWTH_BOUND refl (omega (arith, small)) in let p = past.passes in omega (arith, l, p)

-- which fault a carve's is
pub which-fault : {A : Type 0} (a b : ArenaFault) → ◌≡◌ {A = Result A ArenaFault} (Err a) (Err b) → a ≡ b
which-fault a b e = cc

-- ---- a new one

module _ (h k : Heap) (ring : List ℕ) (cell : ℕ) (descriptor : List ℕ) (fresh : times cell ring ≡ 0) (a : IsAdded h k ring cell descriptor) where
  used-added : (z : ℕ) → uses_in k a.after z ≡ uses_in h ring z + times z (cell ∷ [])
  used-added z = by (cases_eq z cell)
    where
      by : (z ≡ cell) ⊎ (z ≢ cell) → uses_in k a.after z ≡ uses_in h ring z + times z (cell ∷ [])
      by (inl e) = subst (λ z. uses_in k a.after z ≡ uses_in h ring z + times z (cell ∷ [])) (sym e)
          (let m = a.members cell in
          let t = times-same cell in
          let now = uses-counted k a.after cell 1 (omega (arith, m, t)) a.count in
          let before = where-none (times cell ring) (unwrap_or (count_at h cell) 0) fresh in
          omega (arith, now, before, t))
      by (inr n) =
          let t = times-not z cell [] (λ e. n (sym e)) refl in
          let m = a.members z in
          let same = same-uses h k ring a.after z (omega (arith, m, t)) (λ l. (a.same z (omega (arith, l, m, t))).count) in
          omega (arith, same, t)

  pub added-joins : Joins h k ring a.after (Some cell) cell descriptor
  added-joins = record {
    closed = a.closed;
    members = a.members;
    here = (let m = a.members cell in let t = times-same cell in omega (arith, m, t));
    newest = λ z. omega arith;
    describes = a.describes;
    used = used-added;
    described = λ z l. (a.same z l).descriptor;
    frame = a.frame;
  }

-- what joined, with the ring after
abbrev pub HasJoined : Heap → Heap → List ℕ → Option ℕ → ℕ → List ℕ → DescriptorCells → Type 0
HasJoined h k ring cell joined descriptor table = (after : List ℕ) × Joins h k ring after cell joined descriptor × Finds table k after

module _ (bytes : List ℕ) (key : ℕ) (table : DescriptorCells) (descriptor : List ℕ) where
  abbrev h : Heap
  h = cell_at bytes

  unringed : (cell : ℕ) (d : IsDescribable bytes key table descriptor (Some cell)) → times cell d.ring ≡ 0
  unringed cell d = let x = d.shape.exact cell in let o = at-most-one h cell in let t = times-same cell in omega (arith, x, o, t)

  pub joined-new : (cell : Option ℕ) (c near : ℕ) → cell ≡ Some c → (k : Heap) (u : DescriptorCells) →
      ((ring : List ℕ) → IsRing h ring → 0 < times near ring → times c ring ≡ 0 → Expects table h ring descriptor → (a : IsAdded h k ring c descriptor) × Finds u k a.after) →
      (d : IsDescribable bytes key table descriptor cell) → 0 < times near d.ring → HasJoined h k d.ring cell c descriptor u
  joined-new cell c near e k u added =
      subst (λ cell. (d : IsDescribable bytes key table descriptor cell) → 0 < times near d.ring → HasJoined h k d.ring cell c descriptor u) (sym e)
      (λ d l. (
      let a = added d.ring d.shape.closed l (unringed c d) d.placed.0 in
      (a.0.after, added-joins h k d.ring c descriptor (unringed c d) a.0, a.1)))

  -- it has room
  pub new-room : (cell : Option ℕ) (c : ℕ) → cell ≡ Some c → IsDescribable bytes key table descriptor cell → HasRoom h c (20 + length descriptor)
  new-room cell c e = subst (λ cell. IsDescribable bytes key table descriptor cell → HasRoom h c (20 + length descriptor)) (sym e) (λ d. d.placed.1)

  -- ---- one that was there

  module _ (s : ℕ) (noted : cell_of table descriptor ≡ Some s) where
    pub few-users : (cell : Option ℕ) → cell ≡ None → IsDescribable bytes key table descriptor cell → (r : KeySecurityRecord) → security_at h s ≡ Some r → r.fields.count < length bytes
    few-users cell none =
        subst (λ cell. IsDescribable bytes key table descriptor cell → (r : KeySecurityRecord) → security_at h s ≡ Some r → r.fields.count < length bytes) (sym none)
        (λ d. count-few bytes d.root d.keys d.ring [] d.shape s (d.placed.0.found descriptor s noted).0)

    -- it is there
    pub is-there : (cell : Option ℕ) → cell ≡ None → IsDescribable bytes key table descriptor cell → IsSome (security_at h s)
    is-there cell none =
        subst (λ cell. IsDescribable bytes key table descriptor cell → IsSome (security_at h s)) (sym none)
        (λ d. security-there h d.ring d.shape.closed s (d.placed.0.found descriptor s noted).0)

    module _ (d : IsDescribable bytes key table descriptor None) (k : Heap) (re : Recounts h k s (λ n. n + 1))
        (then : (ring : List ℕ) → IsRing h ring → IsRing k ring) where
      closed : IsRing h d.ring
      closed = d.shape.closed

      describes : Describes h d.ring s descriptor
      describes = d.placed.0.found descriptor s noted

      written : IsWrittenSecurity h s
      written = all-at (IsWrittenSecurity h) d.ring s closed.written describes.0

      now : security_at k s ≡ Some (record written.security { fields = record written.security.fields { count = written.security.fields.count + 1 } })
      now = re.reads written.security written.reads

      uses-before : uses_in h d.ring s ≡ written.security.fields.count
      uses-before = uses-counted h d.ring s written.security.fields.count describes.0 (ap (option_map (λ (s : KeySecurityRecord). s.fields.count)) written.reads)

      uses-here : uses_in k d.ring s ≡ written.security.fields.count + 1
      uses-here = uses-counted k d.ring s (written.security.fields.count + 1) describes.0 (ap (option_map (λ (s : KeySecurityRecord). s.fields.count)) now)

      used-once-more : (z : ℕ) → uses_in k d.ring z ≡ uses_in h d.ring z + times z (s ∷ [])
      used-once-more z = by (cases_eq z s)
        where
          by : (z ≡ s) ⊎ (z ≢ s) → uses_in k d.ring z ≡ uses_in h d.ring z + times z (s ∷ [])
          by (inl e) = subst (λ z. uses_in k d.ring z ≡ uses_in h d.ring z + times z (s ∷ [])) (sym e)
              (let a = uses-before in let b = uses-here in let t = times-same s in omega (arith, a, b, t))
          by (inr n) =
              let t = times-not z s [] (λ e. n (sym e)) refl in
              let same = same-uses h k d.ring d.ring z refl (λ l. ap (option_map (λ (s : KeySecurityRecord). s.fields.count)) (security_at-same h k z (re.others z n))) in
              omega (arith, same, t)

      unjoined : (z : ℕ) → times z d.ring ≡ 0 → z ≢ s
      unjoined z none e = let t = ap (λ y. times y d.ring) e in let l = describes.0 in omega (arith, t, none, l)

      shared-joins : Joins h k d.ring d.ring None s descriptor
      shared-joins = record {
        closed = then d.ring closed;
        members = λ z. omega arith;
        here = describes.0;
        newest = λ z. omega arith;
        describes = descriptor-recounted h k s (λ n. n + 1) re d.ring closed s describes.0 ∙ describes.1;
        used = used-once-more;
        described = descriptor-recounted h k s (λ n. n + 1) re d.ring closed;
        frame = record {
          count = λ z. (
              let a = written-allocated h k s re.others (security-exists h s (is_some_of _ _ written.reads)) (security-exists k s (is_some_of _ _ now)) z in
              omega (arith, a));
          same = λ z none gone. re.others z (unjoined z none);
        };
      }

      shared-there : HasJoined h k d.ring None s descriptor table
      shared-there = (d.ring, shared-joins, finds-same table h k d.ring d.placed.0 (descriptor-recounted h k s (λ n. n + 1) re d.ring closed))

    pub joined-there : (cell : Option ℕ) → cell ≡ None → (k : Heap) → Recounts h k s (λ n. n + 1) → ((ring : List ℕ) → IsRing h ring → IsRing k ring) →
        (d : IsDescribable bytes key table descriptor cell) → HasJoined h k d.ring cell s descriptor table
    joined-there cell none k re then =
        subst (λ cell. (d : IsDescribable bytes key table descriptor cell) → HasJoined h k d.ring cell s descriptor table) (sym none)
        (λ d. shared-there d k re then)

-- ---- its cells keep their sizes

content-long : (fields : SecurityFields) (descriptor rest : List ℕ) → length (sk_bytes fields descriptor ++ rest) ≡ 20 + (length descriptor + length rest)
unfolding sk_bytes
content-long fields descriptor rest = omega (arith, length-append descriptor rest)

pub new-sizes : (h k : Heap) (cell : ℕ) (descriptor : List ℕ) → HasRoom h cell (20 + length descriptor) → ((z : ℕ) → z ≢ cell → IsRelinked h k z) → IsPut h k cell descriptor → SameSizes h k
new-sizes h k cell descriptor room beside put z = by (cases_eq z cell)
  where
    by : (z ≡ cell) ⊎ (z ≢ cell) → (is_some (k z) ≡ is_some (h z)) × (length (held k z) ≡ length (held h z))
    by (inl e) = subst (λ z. (is_some (k z) ≡ is_some (h z)) × (length (held k z) ≡ length (held h z))) (sym e) (
      ap is_some put.holds ∙ sym room.exists,
      (let c = ap (λ (o : Option (List ℕ)). length (unwrap_or o [])) put.holds in
          let l = content-long (record { flink = put.flink; blink = put.blink; count = 1 }) descriptor (drop (20 + length descriptor) (held h cell)) in
          let d = length-drop (20 + length descriptor) (held h cell) in
          let r = room.enough in
          omega (arith, c, l, d, r)),
    )
    by (inr n) = let b = beside z n in (b.there, b.long)
