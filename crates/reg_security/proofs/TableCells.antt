-- The cells that a table notes for descriptors.
use Rattle.std.proofs.Common.{◌≡◌, ◌≢◌, ◌⊎◌, inl, inr, ℕ, ◌<◌, ◌≤◌, Bool, true, false, cond, List, [], ◌∷◌, ◌++◌, map, Option, Some, None, IsSome, refl, sym, ap, subst, ◌∙◌, arith, Vec}
use Rattle.std.specs.Prelude.{bytes_eq, MatchBool, MatchOption, OnOk, IfOk, Result, Ok, Err}
use Rattle.std.specs.Option.{option_or}
use Rattle.std.specs.Ordering.{is_eq, nat_cmp}
use Rattle.std.specs.Cmp.Lexicographic.{slice_cmp, bytes_decides}
use Rattle.std.specs.BTreeMap.{BTreeMap, UpdatesBy, is_at}
use Rattle.std.specs.Map.{lookup, IsKeyTest, AreApart, KeepsOthers}
use Rattle.std.proofs.lemmas.Bool.{cond-true, cond-false, false≢true}
use Rattle.std.proofs.lemmas.Cmp.{eq_by_cmp_equiv, nat_list_cmp_total, nat_list_eq_equiv}
use Rattle.std.proofs.lemmas.Map.Text.{is_eq-slice_cmp}
use Rattle.std.proofs.lemmas.Option.{same_Some}
use Rattle.std.proofs.lemmas.Bool.{cases_eq}
use Rattle.std.proofs.lemmas.Bool.Decides.{nat_tests}
use Rattle.reg_heap.specs.Heaps.{Heap}
use Rattle.reg_heap.specs.Kinds.{times}
use Rattle.reg_shape.specs.Whole.{descriptor_at}
use Rattle.reg_security.specs.Rings.{DescriptorCells, cell_of, Notes, MakesReady, Describes, Finds, Expects, IsAdded, IsRemoved}
use Rattle.reg_security.specs.Internal.Hashes.{IsHashFree}
use Rattle.reg_security.specs.Internal.MapEntries.{shown, found_for, MakesRoom}

-- ---- the two maps behind the table

-- a look-up in one list and another behind it
lookup-behind : {K X : Type 0} (test : K → Bool) (es fs : List (K × X)) → lookup test (es ++ fs) ≡ option_or (lookup test es) (lookup test fs)
lookup-behind test [] fs = refl
lookup-behind test (e ∷ es) fs = by (test e.0) refl (lookup-behind test es fs)
  where
    by : (b : Bool) → test e.0 ≡ b → lookup test (es ++ fs) ≡ option_or (lookup test es) (lookup test fs) →
        lookup test ((e ∷ es) ++ fs) ≡ option_or (lookup test (e ∷ es)) (lookup test fs)
    by true y rest = cond-true _ _ _ y ∙ sym (ap (λ o. option_or o (lookup test fs)) (cond-true _ _ _ y))
    by false n rest = cond-false _ _ _ n ∙ (rest ∙ sym (ap (λ o. option_or o (lookup test fs)) (cond-false _ _ _ n)))

other-found : {Y : Type 0} (es : List (Vec ℕ Y × ℕ)) (descriptor : List ℕ) →
    lookup (is_at (slice_cmp nat_cmp descriptor)) (map (λ (e : Vec ℕ Y × ℕ). (e.0.items, e.1)) es) ≡ found_for es descriptor
other-found [] descriptor = refl
other-found (e ∷ es) descriptor = ap (λ rest. cond (is_at (slice_cmp nat_cmp descriptor) e.0.items) (Some e.1) rest) (other-found es descriptor)

-- the cell of a descriptor is what stands by its hash, or else what the others have
pub cell-found : {Y : Type 0} (hashed : DescriptorCells) (others : List (Vec ℕ Y × ℕ)) (t : DescriptorCells) (descriptor : List ℕ) → shown hashed others ≡ t →
    cell_of t descriptor ≡ option_or (cell_of hashed descriptor) (found_for others descriptor)
cell-found hashed others t descriptor is =
    ap (λ t. cell_of t descriptor) (sym is) ∙
    (lookup-behind (is_at (slice_cmp nat_cmp descriptor)) hashed.entries _ ∙ ap (λ o. option_or (cell_of hashed descriptor) o) (other-found others descriptor))

apart : (bs cs ks : List ℕ) → bytes_eq bs cs ≡ false → is_eq (slice_cmp nat_cmp bs ks) ≡ true → is_eq (slice_cmp nat_cmp cs ks) ≡ false
apart bs cs ks n y =
    let same : bytes_eq bs ks ≡ true = sym (is_eq-slice_cmp bs ks) ∙ y in
    is_eq-slice_cmp cs ks ∙ (nat_list_eq_equiv.symm cs ks ∙ sym (nat_list_eq_equiv.congr bs ks cs same) ∙ n)

others : {K X : Type 0} (eq : K → K → Bool) (test : K → Bool) (old new : List (K × X)) → KeepsOthers eq test old new → (other : K → Bool) →
    IsKeyTest eq other → AreApart test other → lookup other new ≡ lookup other old
unfolding KeepsOthers
others eq test old new h = h

-- g is w at bs, and f at other bytes
by_bytes : (f g : List ℕ → Option ℕ) (bs : List ℕ) (w : Option ℕ) → g bs ≡ w → ((cs : List ℕ) → bytes_eq bs cs ≡ false → g cs ≡ f cs) →
    (cs : List ℕ) → g cs ≡ cond (bytes_eq bs cs) w (f cs)
by_bytes f g bs w here other cs = by (bytes_eq bs cs) refl
  where
    by : (b : Bool) → bytes_eq bs cs ≡ b → g cs ≡ cond (bytes_eq bs cs) w (f cs)
    by true y = subst (λ l. g l ≡ w) ((bytes_decides bs cs).0 y) here ∙ sym (cond-true (bytes_eq bs cs) w (f cs) y)
    by false n = other cs n ∙ sym (cond-false (bytes_eq bs cs) w (f cs) n)

-- the map after a change at one descriptor
pub updated : {Y : Type 0} (descriptor : List ℕ) (m n : BTreeMap (Vec ℕ Y) ℕ) (w : Option ℕ) →
    UpdatesBy (λ x y. slice_cmp nat_cmp x.items y.items) (λ k. slice_cmp nat_cmp descriptor k.items) m n w →
    Notes (found_for m.entries) descriptor w (found_for n.entries)
updated descriptor m n w h =
    by_bytes (found_for m.entries) (found_for n.entries) descriptor w h.1
    (λ cs e. others _ _ _ _ h.3 _ (λ x y. (eq_by_cmp_equiv nat_list_cmp_total).congr cs x.items y.items) (λ k. apart descriptor cs k.items e))

-- what is noted already
pub notes-same : (f : List ℕ → Option ℕ) (descriptor : List ℕ) (w : Option ℕ) → f descriptor ≡ w → Notes f descriptor w f
notes-same f descriptor w is = by_bytes f f descriptor w is (λ other n. refl)

-- a change of both
pub noted : {Y : Type 0} (descriptor : List ℕ) (v w x : Option ℕ) (before after : DescriptorCells) (old new : List (Vec ℕ Y × ℕ)) (t : DescriptorCells) →
    shown before old ≡ t → Notes (cell_of before) descriptor v (cell_of after) → Notes (found_for old) descriptor w (found_for new) → option_or v w ≡ x →
    Notes (cell_of t) descriptor x (cell_of (shown after new))
noted descriptor v w x before after old new t is n m joined =
    by_bytes (cell_of t) (cell_of (shown after new)) descriptor x (at descriptor (nat_list_eq_equiv.refl descriptor) ∙ joined) beside
  where
    at : (other : List ℕ) → bytes_eq descriptor other ≡ true → cell_of (shown after new) other ≡ option_or v w
    at other y =
        cell-found after new (shown after new) other refl ∙
        (ap (λ o. option_or o (found_for new other)) (n other ∙ cond-true _ _ _ y) ∙ ap (option_or v) (m other ∙ cond-true _ _ _ y))

    beside : (other : List ℕ) → bytes_eq descriptor other ≡ false → cell_of (shown after new) other ≡ cell_of t other
    beside other e =
        cell-found after new (shown after new) other refl ∙
        (ap (λ o. option_or o (found_for new other)) (n other ∙ cond-false _ _ _ e) ∙
        (ap (option_or (cell_of before other)) (m other ∙ cond-false _ _ _ e) ∙ sym (cell-found before old t other is)))

-- a change of what stands by its hash
pub noted-first : {Y : Type 0} (descriptor : List ℕ) (cell : ℕ) (before after : DescriptorCells) (others : List (Vec ℕ Y × ℕ)) (t : DescriptorCells) →
    shown before others ≡ t → Notes (cell_of before) descriptor (Some cell) (cell_of after) →
    Notes (cell_of t) descriptor (Some cell) (cell_of (shown after others))
noted-first descriptor cell before after others t is n =
    noted descriptor (Some cell) (found_for others descriptor) (Some cell) before after others others t is n
    (notes-same (found_for others) descriptor (found_for others descriptor) refl) refl

-- a change of the others, where this isn't what stands by its hash
pub noted-behind : {Y : Type 0} (descriptor : List ℕ) (cell : ℕ) (before after : DescriptorCells) (old new : List (Vec ℕ Y × ℕ)) (t : DescriptorCells) →
    shown before old ≡ t → after ≡ before → cell_of before descriptor ≡ None → Notes (found_for old) descriptor (Some cell) (found_for new) →
    Notes (cell_of t) descriptor (Some cell) (cell_of (shown after new))
noted-behind descriptor cell before after old new t is same none m =
    subst (λ a. Notes (cell_of t) descriptor (Some cell) (cell_of (shown a new))) (sym same)
    (noted descriptor None (Some cell) (Some cell) before before old new t is (notes-same (cell_of before) descriptor None none) m refl)

-- what is noted, but doesn't stand by its hash, is among the others
pub is-behind : {Y : Type 0} (hashed : DescriptorCells) (others : List (Vec ℕ Y × ℕ)) (t : DescriptorCells) (descriptor : List ℕ) → shown hashed others ≡ t →
    cell_of hashed descriptor ≡ None → IsSome (cell_of t descriptor) → IsSome (found_for others descriptor)
is-behind hashed others t descriptor is none there =
    subst IsSome (cell-found hashed others t descriptor is ∙ ap (λ o. option_or o (found_for others descriptor)) none) there

-- which of two facts a Bool tells
pub if-true : (P Q : Type 0) (b : Bool) → b ≡ true → MatchBool b P Q → P
if-true P Q b e m = subst (λ b. MatchBool b P Q) e m

pub if-false : (P Q : Type 0) (b : Bool) → b ≡ false → MatchBool b P Q → Q
if-false P Q b e m = subst (λ b. MatchBool b P Q) e m

-- where nothing that stands by its hash is this, the cell is what the others have
pub cell-behind : {Y : Type 0} (hashed : DescriptorCells) (others : List (Vec ℕ Y × ℕ)) (t : DescriptorCells) (descriptor : List ℕ) → shown hashed others ≡ t →
    cell_of hashed descriptor ≡ None → cell_of t descriptor ≡ found_for others descriptor
cell-behind hashed others t descriptor is none =
    cell-found hashed others t descriptor is ∙ ap (λ o. option_or o (found_for others descriptor)) none

-- where nothing stands by its hash, it isn't there
pub free-here : (hashed : DescriptorCells) (descriptor : List ℕ) → IsHashFree hashed descriptor → cell_of hashed descriptor ≡ None
free-here hashed descriptor free = by (cell_of hashed descriptor) refl
  where
    by : (o : Option ℕ) → cell_of hashed descriptor ≡ o → cell_of hashed descriptor ≡ None
    by None e = e
    by (Some cell) e = absurd (free descriptor (subst IsSome (sym e) refl) refl)

-- what stands by its hash is noted
pub cell-first : {Y : Type 0} (hashed : DescriptorCells) (others : List (Vec ℕ Y × ℕ)) (t : DescriptorCells) (descriptor : List ℕ) → shown hashed others ≡ t →
    IsSome (cell_of hashed descriptor) → IsSome (cell_of t descriptor)
cell-first hashed others t descriptor is there = by (cell_of hashed descriptor) refl there
  where
    by : (o : Option ℕ) → cell_of hashed descriptor ≡ o → IsSome o → IsSome (cell_of t descriptor)
    by None e h = absurd (false≢true h)
    by (Some cell) e h = subst IsSome (sym (cell-found hashed others t descriptor is ∙ ap (λ o. option_or o (found_for others descriptor)) e)) refl

-- room made by a hash, where neither it nor the others have the descriptor
pub ready-first : {Y : Type 0} (descriptor : List ℕ) (before after : DescriptorCells) (others : List (Vec ℕ Y × ℕ)) (t : DescriptorCells) →
    shown before others ≡ t → cell_of before descriptor ≡ None → found_for others descriptor ≡ None →
    Notes (cell_of before) descriptor (Some 0) (cell_of after) → MakesReady t descriptor true (shown after others)
ready-first descriptor before after others t is none free n =
    (cell-behind before others t descriptor is none ∙ free, noted-first descriptor 0 before after others t is n)

-- room made among the others, or not
pub ready-behind : {Y : Type 0} (descriptor : List ℕ) (before : DescriptorCells) (old new : List (Vec ℕ Y × ℕ)) (t : DescriptorCells) (made : Bool) →
    shown before old ≡ t → cell_of before descriptor ≡ None → MakesRoom old descriptor made new → MakesReady t descriptor made (shown before new)
ready-behind descriptor before old new t true is none m =
    (cell-behind before old t descriptor is none ∙ m.0, noted-behind descriptor 0 before before old new t is refl none m.1)
ready-behind descriptor before old new t false is none m =
    (ap (shown before) m.0 ∙ is, subst IsSome (sym (cell-behind before old t descriptor is none)) m.1)

-- a change of the map that is the table
pub noted-in : (map t u : DescriptorCells) (descriptor : List ℕ) (w : Option ℕ) → map ≡ t → Notes (cell_of map) descriptor w (cell_of u) →
    Notes (cell_of t) descriptor w (cell_of u)
noted-in map t u descriptor w is n = subst (λ t. Notes (cell_of t) descriptor w (cell_of u)) is n

pub ready-in : (map t u : DescriptorCells) (descriptor : List ℕ) (made : Bool) → map ≡ t → MakesReady map descriptor made u → MakesReady t descriptor made u
ready-in map t u descriptor made is r = subst (λ t. MakesReady t descriptor made u) is r

-- ---- what a table finds

-- the cell that is noted now, for the descriptor and for another one
pub noted-here : (t u : DescriptorCells) (descriptor : List ℕ) (w : Option ℕ) → Notes (cell_of t) descriptor w (cell_of u) → cell_of u descriptor ≡ w
noted-here t u descriptor w n = n descriptor ∙ cond-true _ _ _ (nat_list_eq_equiv.refl descriptor)

pub noted-other : (t u : DescriptorCells) (descriptor other : List ℕ) (w : Option ℕ) → Notes (cell_of t) descriptor w (cell_of u) → other ≢ descriptor → cell_of u other ≡ cell_of t other
noted-other t u descriptor other w n apart = n other ∙ by (bytes_eq descriptor other) refl
  where
    by : (b : Bool) → bytes_eq descriptor other ≡ b → cond (bytes_eq descriptor other) w (cell_of t other) ≡ cell_of t other
    by true y = absurd (apart (sym ((bytes_decides descriptor other).0 y)))
    by false e = cond-false _ _ _ e

-- two lists of bytes are one, or not
pub same-bytes : (a b : List ℕ) → (a ≡ b) ⊎ (a ≢ b)
same-bytes a b = by (bytes_eq a b) refl
  where
    by : (t : Bool) → bytes_eq a b ≡ t → (a ≡ b) ⊎ (a ≢ b)
    by true y = inl ((bytes_decides a b).0 y)
    by false n = inr (λ e. false≢true (sym n ∙ (bytes_decides a b).1 e))

none-some : {A : Type 0} (o : Option A) (x : A) → o ≡ None → o ≡ Some x → ⊥
none-some None x e f = absurd (cc)
none-some (Some y) x e f = absurd (cc)

pub times-itself : (z : ℕ) → times z (z ∷ []) ≡ 1
times-itself z = grind (arith, nat_tests)

pub times-other : (z cell : ℕ) → z ≢ cell → times z (cell ∷ []) ≡ 0
times-other z cell p = grind (arith, nat_tests, p)

-- a table that notes nothing finds just what a ring of no security has
pub none-found : (t : DescriptorCells) → ((descriptor : List ℕ) → cell_of t descriptor ≡ None) → (heap : Heap) → Finds t heap []
none-found t none heap = record {
  found = λ descriptor cell f. absurd (none-some _ cell (none descriptor) f);
  listed = λ descriptor cell d. absurd (let l = d.0 in omega (arith, l));
}

-- where nothing is noted for a descriptor, no security of the ring has it
pub free-where-none : (t : DescriptorCells) (heap : Heap) (ring : List ℕ) (descriptor : List ℕ) → Finds t heap ring → cell_of t descriptor ≡ None →
    (cell : ℕ) → 0 < times cell ring → descriptor_at heap cell ≢ Some descriptor
free-where-none t heap ring descriptor f none cell l d = none-some _ cell none (f.listed descriptor cell (l, d))

-- room made for a descriptor that none has
pub expects-noted : (t u : DescriptorCells) (descriptor : List ℕ) → cell_of t descriptor ≡ None → Notes (cell_of t) descriptor (Some 0) (cell_of u) →
    (heap : Heap) (ring : List ℕ) → Finds t heap ring → Expects u heap ring descriptor
expects-noted t u descriptor none n heap ring f = record {
  found = λ other cell apart e. f.found other cell (sym (noted-other t u descriptor other (Some 0) n apart) ∙ e);
  listed = λ other cell d. by other cell d (same-bytes other descriptor);
  room = subst IsSome (sym (noted-here t u descriptor (Some 0) n)) refl;
  free = free-where-none t heap ring descriptor f none;
}
  where
    by : (other : List ℕ) (cell : ℕ) → Describes heap ring cell other → (other ≡ descriptor) ⊎ (other ≢ descriptor) → cell_of u other ≡ Some cell
    by other cell d (inl e) = absurd (free-where-none t heap ring descriptor f none cell d.0 (d.1 ∙ ap Some e))
    by other cell d (inr a) = noted-other t u descriptor other (Some 0) n a ∙ f.listed other cell d

pub expects-ready : (t u : DescriptorCells) (descriptor : List ℕ) (made : Bool) → MakesReady t descriptor made u → made ≡ true →
    (heap : Heap) (ring : List ℕ) → Finds t heap ring → Expects u heap ring descriptor
expects-ready t u descriptor true r e = expects-noted t u descriptor r.0 r.1
expects-ready t u descriptor false r e = absurd (false≢true e)

-- the room given up
pub finds-forgotten : (t u : DescriptorCells) (descriptor : List ℕ) → Notes (cell_of t) descriptor None (cell_of u) →
    (heap : Heap) (ring : List ℕ) → Expects t heap ring descriptor → Finds u heap ring
finds-forgotten t u descriptor n heap ring x = record {
  found = λ other cell e. by-found other cell e (same-bytes other descriptor);
  listed = λ other cell d. by-listed other cell d (same-bytes other descriptor);
}
  where
    by-found : (other : List ℕ) (cell : ℕ) → cell_of u other ≡ Some cell → (other ≡ descriptor) ⊎ (other ≢ descriptor) → Describes heap ring cell other
    by-found other cell e (inl same) = absurd (none-some _ cell (ap (cell_of u) same ∙ noted-here t u descriptor None n) e)
    by-found other cell e (inr a) = x.found other cell a (sym (noted-other t u descriptor other None n a) ∙ e)

    by-listed : (other : List ℕ) (cell : ℕ) → Describes heap ring cell other → (other ≡ descriptor) ⊎ (other ≢ descriptor) → cell_of u other ≡ Some cell
    by-listed other cell d (inl same) = absurd (x.free cell d.0 (d.1 ∙ ap Some same))
    by-listed other cell d (inr a) = noted-other t u descriptor other None n a ∙ x.listed other cell d

-- what a look-up tells of the ring
pub equal-found : (t : DescriptorCells) (heap : Heap) (ring : List ℕ) (descriptor : List ℕ) (o : Option ℕ) → o ≡ cell_of t descriptor → Finds t heap ring →
    MatchOption o ((cell : ℕ) → 0 < times cell ring → descriptor_at heap cell ≢ Some descriptor) (λ cell. Describes heap ring cell descriptor)
equal-found t heap ring descriptor None e f = free-where-none t heap ring descriptor f (sym e)
equal-found t heap ring descriptor (Some cell) e f = f.found descriptor cell (sym e)

-- where a call went well, what follows from what it answered
pub if-ok : {A E : Type 0} {P Q : A → Type 0} (result : Result A E) → ((a : A) → P a → Q a) → IfOk result P → IfOk result Q
if-ok (Ok a) f p = f a p
if-ok (Err e) f p = p

-- where a call went well, one fact and what follows from it
pub on-ok : {A E : Type 0} {P Q : Type 0} (result : Result A E) → (P → Q) → OnOk result P → OnOk result Q
on-ok (Ok x) f p = f p
on-ok (Err e) f p = p

-- the securities of the ring describe what they did
pub finds-same : (t : DescriptorCells) (h k : Heap) (ring : List ℕ) → Finds t h ring → ((z : ℕ) → 0 < times z ring → descriptor_at k z ≡ descriptor_at h z) → Finds t k ring
finds-same t h k ring f same = record {
  found = λ descriptor cell e. (let d = f.found descriptor cell e in (d.0, same cell d.0 ∙ d.1));
  listed = λ descriptor cell d. f.listed descriptor cell (d.0, sym (same cell d.0) ∙ d.1);
}

-- a security came, for whose descriptor there was room
pub finds-added : (t u : DescriptorCells) (h k : Heap) (ring : List ℕ) (cell : ℕ) (descriptor : List ℕ) → Expects t h ring descriptor →
    (a : IsAdded h k ring cell descriptor) → Notes (cell_of t) descriptor (Some cell) (cell_of u) → Finds u k a.after
finds-added t u h k ring cell descriptor x a n = record {
  found = λ other z e. by-found other z e (same-bytes other descriptor);
  listed = λ other z d. by-listed other z d (cases_eq z cell);
}
  where
    by-found : (other : List ℕ) (z : ℕ) → cell_of u other ≡ Some z → (other ≡ descriptor) ⊎ (other ≢ descriptor) → Describes k a.after z other
    by-found other z e (inl same) =
        let is : z ≡ cell = same_Some _ _ (sym e ∙ (ap (cell_of u) same ∙ noted-here t u descriptor (Some cell) n)) in
        let m = a.members cell in
        subst (λ z. Describes k a.after z other) (sym is) ((let o = times-itself cell in omega (arith, m, o)), a.describes ∙ ap Some (sym same))
    by-found other z e (inr p) =
        let d = x.found other z p (sym (noted-other t u descriptor other (Some cell) n p) ∙ e) in
        let m = a.members z in
        let l = d.0 in
        (omega (arith, m, l), (a.same z d.0).descriptor ∙ d.1)

    by-listed : (other : List ℕ) (z : ℕ) → Describes k a.after z other → (z ≡ cell) ⊎ (z ≢ cell) → cell_of u other ≡ Some z
    by-listed other z d (inl is) =
        let same : other ≡ descriptor = same_Some _ _ (sym d.1 ∙ (ap (descriptor_at k) is ∙ a.describes)) in
        ap (cell_of u) same ∙ (noted-here t u descriptor (Some cell) n ∙ ap Some (sym is))
    by-listed other z d (inr p) =
        let m = a.members z in
        let o = times-other z cell p in
        let l = d.0 in
        let there : 0 < times z ring = omega (arith, m, o, l) in
        let before : descriptor_at h z ≡ Some other = sym (a.same z there).descriptor ∙ d.1 in
        noted-other t u descriptor other (Some cell) n (λ same. x.free z there (before ∙ ap Some same)) ∙ x.listed other z (there, before)

-- a security left
pub finds-removed : (t u : DescriptorCells) (h k : Heap) (ring : List ℕ) (cell : ℕ) (descriptor : List ℕ) → Finds t h ring → (r : IsRemoved h k ring cell) →
    times cell ring ≤ 1 → 0 < times cell ring → descriptor_at h cell ≡ Some descriptor → Notes (cell_of t) descriptor None (cell_of u) → Finds u k r.after
finds-removed t u h k ring cell descriptor f r once there describes n = record {
  found = λ other z e. by-found other z e (same-bytes other descriptor);
  listed = λ other z d. by-listed other z d (same-bytes other descriptor);
}
  where
    before-too : (z : ℕ) → 0 < times z r.after → 0 < times z ring
    before-too z l = let m = r.members z in omega (arith, m, l)

    by-found : (other : List ℕ) (z : ℕ) → cell_of u other ≡ Some z → (other ≡ descriptor) ⊎ (other ≢ descriptor) → Describes k r.after z other
    by-found other z e (inl same) = absurd (none-some _ z (ap (cell_of u) same ∙ noted-here t u descriptor None n) e)
    by-found other z e (inr p) =
        let d = f.found other z (sym (noted-other t u descriptor other None n p) ∙ e) in
        let o = times-other z cell (λ is. p (same_Some _ _ (sym d.1 ∙ (ap (descriptor_at h) is ∙ describes)))) in
        let m = r.members z in
        let l = d.0 in
        let still : 0 < times z r.after = omega (arith, m, o, l) in
        (still, (r.same z still).descriptor ∙ d.1)

    by-listed : (other : List ℕ) (z : ℕ) → Describes k r.after z other → (other ≡ descriptor) ⊎ (other ≢ descriptor) → cell_of u other ≡ Some z
    by-listed other z d (inl same) =
        let was : descriptor_at h z ≡ Some other = sym (r.same z d.0).descriptor ∙ d.1 in
        let first : cell_of t descriptor ≡ Some z = f.listed descriptor z (before-too z d.0, was ∙ ap Some same) in
        let is : cell ≡ z = same_Some _ _ (sym (f.listed descriptor cell (there, describes)) ∙ first) in
        let m = r.members cell in
        let o = times-itself cell in
        let l : 0 < times cell r.after = subst (λ z. 0 < times z r.after) (sym is) d.0 in
        absurd (omega (arith, m, o, l, once))
    by-listed other z d (inr p) =
        let was : descriptor_at h z ≡ Some other = sym (r.same z d.0).descriptor ∙ d.1 in
        noted-other t u descriptor other None n p ∙ f.listed other z (before-too z d.0, was)
