-- Descriptors that stand by their hashes: how one is found, and what a change at one hash makes of the others.
use Rattle.std.proofs.Common.{◌≡◌, ℕ, Bool, true, false, cond, not, List, [], ◌∷◌, Option, Some, None, IsSome, refl, sym, ap, subst, ◌∙◌}
use Rattle.std.specs.Prelude.{bytes_eq}
use Rattle.std.specs.Ordering.{nat_cmp, eq_by_cmp}
use Rattle.std.specs.Cmp.{IsEquivalence}
use Rattle.std.specs.Cmp.Lexicographic.{bytes_decides}
use Rattle.std.specs.List.Sorted.{IsStrictlySortedBy}
use Rattle.std.specs.BTreeMap.{BTreeMap, UpdatesBy, WritesThrough, is_at}
use Rattle.std.specs.Map.{lookup, keys_of}
use Rattle.std.proofs.lemmas.Bool.{cond-true, cond-false, false≢true}
use Rattle.std.proofs.lemmas.Cmp.{eq_by_cmp_equiv, nat_cmp_total, nat_list_eq_equiv}
use Rattle.std.proofs.lemmas.Map.{lookup-none}
use Rattle.std.proofs.lemmas.Map.Entries.{lookup_head, lookup_tail, none_past_head}
use Rattle.std.proofs.lemmas.Map.Keys.{sorted_tail, IsDistinct-from_sorted}
use Rattle.std.proofs.lemmas.Map.Lookups.{exact_unsigned}
use Rattle.std.proofs.lemmas.Map.Steps.{set_value_same}
use Rattle.std.proofs.lemmas.Map.Text.{is_eq-slice_cmp}
use Rattle.std.proofs.lemmas.Map.Views.{tells_apart}
use Rattle.std.proofs.lemmas.Option.{same_Some}
use Rattle.reg_security.specs.Rings.{DescriptorCells, cell_of, Notes}
use Rattle.reg_security.specs.Internal.Hashes.{descriptor_hash, shown_hashed, AreByHash, IsHashFree, IsHashTaken, is_this, cell_if, first_for}
use Rattle.reg_security.specs.declared.hashed.DescriptorCell.{DescriptorCell}

-- ---- entries in the order of their hashes

same-hash : IsEquivalence (eq_by_cmp nat_cmp)
same-hash = eq_by_cmp_equiv nat_cmp_total

none-some : {A : Type 0} (o : Option A) (x : A) → o ≡ None → o ≡ Some x → ⊥
none-some None x e f = absurd (cc)
none-some (Some y) x e f = absurd (cc)

-- behind the first entry nothing stands by its hash
none-behind : (e : ℕ × DescriptorCell) (es : List (ℕ × DescriptorCell)) (hash : ℕ) → IsStrictlySortedBy nat_cmp (keys_of (e ∷ es)) →
    is_at (nat_cmp hash) e.0 ≡ true → lookup (is_at (nat_cmp hash)) es ≡ None
none-behind e es hash rising y =
    lookup-none (is_at (nat_cmp hash)) es (none_past_head same-hash hash e es (IsDistinct-from_sorted nat_cmp (keys_of (e ∷ es)) rising) y)

-- the entries behind the first
behind : (e : ℕ × DescriptorCell) (es : List (ℕ × DescriptorCell)) → AreByHash (e ∷ es) → AreByHash es
behind e es a = record {
  rising = sorted_tail nat_cmp e.0 (keys_of es) a.rising;
  hashed = λ hash first is. a.hashed hash first (by hash first is (is_at (nat_cmp hash) e.0) refl);
}
  where
    by : (hash : ℕ) (first : DescriptorCell) → lookup (is_at (nat_cmp hash)) es ≡ Some first → (b : Bool) → is_at (nat_cmp hash) e.0 ≡ b →
        lookup (is_at (nat_cmp hash)) (e ∷ es) ≡ Some first
    by hash first is true y = absurd (none-some _ first (none-behind e es hash a.rising y) is)
    by hash first is false n = lookup_tail (is_at (nat_cmp hash)) e es n ∙ is

-- ---- how a descriptor is found

-- something stands by a hash, and has another descriptor
abbrev is_other : List ℕ → Option DescriptorCell → Bool
is_other descriptor None = false
is_other descriptor (Some first) = not (bytes_eq descriptor first.descriptor.items)

-- another descriptor than that of an entry is not the entry's
cell-apart : (descriptor : List ℕ) (first : DescriptorCell) → bytes_eq descriptor first.descriptor.items ≡ false → cell_if descriptor (Some first) ≡ None
cell-apart descriptor first n = cond-false _ _ _ n

-- among all descriptors, as among those that stand by its hash
pub cell-hashed : (firsts : List (ℕ × DescriptorCell)) (descriptor : List ℕ) → AreByHash firsts →
    cell_of (shown_hashed firsts) descriptor ≡ cell_if descriptor (first_for firsts descriptor)
cell-hashed [] descriptor a = refl
cell-hashed (e ∷ es) descriptor a = by (bytes_eq descriptor e.1.descriptor.items) refl (cell-hashed es descriptor (behind e es a))
  where
    at : ℕ → Bool
    at = is_at (nat_cmp (descriptor_hash descriptor))

    own : descriptor_hash e.1.descriptor.items ≡ e.0
    own = a.hashed e.0 e.1 (lookup_head (is_at (nat_cmp e.0)) e es (same-hash.refl e.0))

    by-hash : (b : Bool) → at e.0 ≡ b → bytes_eq descriptor e.1.descriptor.items ≡ false →
        cell_if descriptor (first_for es descriptor) ≡ cell_if descriptor (first_for (e ∷ es) descriptor)
    by-hash true y n =
        ap (cell_if descriptor) (none-behind e es (descriptor_hash descriptor) a.rising y) ∙
        (sym (cell-apart descriptor e.1 n) ∙ sym (ap (cell_if descriptor) (lookup_head at e es y)))
    by-hash false m n = ap (cell_if descriptor) (sym (lookup_tail at e es m))

    by : (b : Bool) → bytes_eq descriptor e.1.descriptor.items ≡ b →
        cell_of (shown_hashed es) descriptor ≡ cell_if descriptor (first_for es descriptor) →
        cell_of (shown_hashed (e ∷ es)) descriptor ≡ cell_if descriptor (first_for (e ∷ es) descriptor)
    by true y rest =
        let same : descriptor ≡ e.1.descriptor.items = (bytes_decides descriptor e.1.descriptor.items).0 y in
        let here : at e.0 ≡ true = subst (λ hash. is_at (nat_cmp hash) e.0 ≡ true) (sym (ap descriptor_hash same ∙ own)) (same-hash.refl e.0) in
        cond-true _ _ _ (is_eq-slice_cmp descriptor e.1.descriptor.items ∙ y) ∙
        (sym (cond-true _ _ _ y) ∙ sym (ap (cell_if descriptor) (lookup_head at e es here)))
    by false n rest = cond-false _ _ _ (is_eq-slice_cmp descriptor e.1.descriptor.items ∙ n) ∙ (rest ∙ by-hash (at e.0) refl n)

-- what is read of the entry at its hash is what is noted for it
pub found : (firsts : List (ℕ × DescriptorCell)) (t : DescriptorCells) (descriptor : List ℕ) (hash : ℕ) (o : Option DescriptorCell) →
    shown_hashed firsts ≡ t → AreByHash firsts → hash ≡ descriptor_hash descriptor → o ≡ lookup (is_at (nat_cmp hash)) firsts →
    cell_if descriptor o ≡ cell_of t descriptor
found firsts t descriptor hash o is a own at =
    ap (cell_if descriptor) (at ∙ ap (λ h. lookup (is_at (nat_cmp h)) firsts) own) ∙
    (sym (cell-hashed firsts descriptor a) ∙ ap (λ t. cell_of t descriptor) is)

-- what the comparison tells of the entry
pub cell-same : (descriptor : List ℕ) (first : DescriptorCell) (bytes : List ℕ) → bytes ≡ first.descriptor.items → true ≡ bytes_eq descriptor bytes →
    Some first.cell ≡ cell_if descriptor (Some first)
cell-same descriptor first bytes is y = sym (cond-true _ _ _ (ap (bytes_eq descriptor) (sym is) ∙ sym y))

pub cell-other : (descriptor : List ℕ) (first : DescriptorCell) (bytes : List ℕ) → bytes ≡ first.descriptor.items → false ≡ bytes_eq descriptor bytes →
    None ≡ cell_if descriptor (Some first)
cell-other descriptor first bytes is n = sym (cell-apart descriptor first (ap (bytes_eq descriptor) (sym is) ∙ sym n))

-- what stands by the hash isn't this descriptor
pub none-not-this : (descriptor : List ℕ) (o : Option DescriptorCell) → false ≡ is_this descriptor o → cell_if descriptor o ≡ None
none-not-this descriptor None n = refl
none-not-this descriptor (Some first) n = cell-apart descriptor first (sym n)

-- what stands by the hash is another one
pub none-taken : (descriptor : List ℕ) (o : Option DescriptorCell) → true ≡ is_other descriptor o → cell_if descriptor o ≡ None
none-taken descriptor None y = refl
none-taken descriptor (Some first) y = by (bytes_eq descriptor first.descriptor.items) refl
  where
    by : (b : Bool) → bytes_eq descriptor first.descriptor.items ≡ b → cell_if descriptor (Some first) ≡ None
    by true e = absurd (false≢true (sym (y ∙ ap not e)))
    by false e = cell-apart descriptor first e

-- what stands by a hash is there
first-there : (firsts : List (ℕ × DescriptorCell)) (t : DescriptorCells) (hash : ℕ) (first : DescriptorCell) → shown_hashed firsts ≡ t → AreByHash firsts →
    lookup (is_at (nat_cmp hash)) firsts ≡ Some first → Some first.cell ≡ cell_of t first.descriptor.items
first-there firsts t hash first is a at =
    cell-same first.descriptor.items first first.descriptor.items refl (sym (nat_list_eq_equiv.refl first.descriptor.items)) ∙
    found firsts t first.descriptor.items hash (Some first) is a (sym (a.hashed hash first at)) (sym at)

-- that one is there, and has the hash
pub hash-taken : (firsts : List (ℕ × DescriptorCell)) (t : DescriptorCells) (descriptor : List ℕ) (hash : ℕ) → shown_hashed firsts ≡ t → AreByHash firsts →
    hash ≡ descriptor_hash descriptor → true ≡ is_other descriptor (lookup (is_at (nat_cmp hash)) firsts) → IsHashTaken t descriptor
hash-taken firsts t descriptor hash is a own y = by (lookup (is_at (nat_cmp hash)) firsts) refl y
  where
    differs : (first : DescriptorCell) → true ≡ is_other descriptor (Some first) → (b : Bool) → bytes_eq descriptor first.descriptor.items ≡ b →
        bytes_eq descriptor first.descriptor.items ≡ false
    differs first y true e = absurd (false≢true (sym (y ∙ ap not e)))
    differs first y false e = e

    by : (o : Option DescriptorCell) → lookup (is_at (nat_cmp hash)) firsts ≡ o → true ≡ is_other descriptor o → IsHashTaken t descriptor
    by None at y = absurd (false≢true (sym y))
    by (Some first) at y = (
      first.descriptor.items,
      subst IsSome (first-there firsts t hash first is a at) refl,
      a.hashed hash first at ∙ own,
      differs first y (bytes_eq descriptor first.descriptor.items) refl,
    )

-- another descriptor stands by the hash
pub other-stands : (descriptor : List ℕ) (first : DescriptorCell) (bytes : List ℕ) (o : Option DescriptorCell) → bytes ≡ first.descriptor.items →
    false ≡ bytes_eq descriptor bytes → Some first ≡ o → true ≡ is_other descriptor o
other-stands descriptor first bytes o is n e = ap not (n ∙ ap (bytes_eq descriptor) is) ∙ ap (is_other descriptor) e

-- nothing stands by it
pub hash-free : (firsts : List (ℕ × DescriptorCell)) (t : DescriptorCells) (descriptor : List ℕ) (hash : ℕ) → shown_hashed firsts ≡ t → AreByHash firsts →
    hash ≡ descriptor_hash descriptor → None ≡ lookup (is_at (nat_cmp hash)) firsts → IsHashFree t descriptor
hash-free firsts t descriptor hash is a own none other there same =
    absurd (false≢true (subst IsSome (sym (found firsts t other hash None is a (own ∙ sym same) none)) there))

pub none-stands : (firsts : List (ℕ × DescriptorCell)) (t : DescriptorCells) (descriptor : List ℕ) (hash : ℕ) → shown_hashed firsts ≡ t → AreByHash firsts →
    hash ≡ descriptor_hash descriptor → IsHashFree t descriptor → lookup (is_at (nat_cmp hash)) firsts ≡ None
none-stands firsts t descriptor hash is a own free = by (lookup (is_at (nat_cmp hash)) firsts) refl
  where
    by : (o : Option DescriptorCell) → lookup (is_at (nat_cmp hash)) firsts ≡ o → lookup (is_at (nat_cmp hash)) firsts ≡ None
    by None at = at
    by (Some first) at = absurd (free first.descriptor.items (subst IsSome (first-there firsts t hash first is a at) refl) (a.hashed hash first at ∙ own))

pub free-none : (descriptor : List ℕ) (o : Option DescriptorCell) → o ≡ None → false ≡ is_other descriptor o
free-none descriptor o none = sym (ap (is_other descriptor) none)

-- what stands by the hash is this one
pub this-free : (descriptor : List ℕ) (o : Option DescriptorCell) → true ≡ is_this descriptor o → false ≡ is_other descriptor o
this-free descriptor None y = refl
this-free descriptor (Some first) y = ap not y

pub same-free : (descriptor : List ℕ) (first : DescriptorCell) (bytes : List ℕ) (o : Option DescriptorCell) → bytes ≡ first.descriptor.items →
    true ≡ bytes_eq descriptor bytes → Some first ≡ o → false ≡ is_other descriptor o
same-free descriptor first bytes o is y e = ap not (y ∙ ap (bytes_eq descriptor) is) ∙ ap (is_other descriptor) e

pub same-items : (descriptor : List ℕ) (first : DescriptorCell) (bytes : List ℕ) → bytes ≡ first.descriptor.items → true ≡ bytes_eq descriptor bytes →
    first.descriptor.items ≡ descriptor
same-items descriptor first bytes is y = sym ((bytes_decides descriptor bytes).0 (sym y) ∙ is)

-- ---- a change at the hash of a descriptor

-- what stands by each hash, once w stands by one
abbrev pub StandsBy : ℕ → Option DescriptorCell → List (ℕ × DescriptorCell) → List (ℕ × DescriptorCell) → Type 0
StandsBy hash w old new = (other : ℕ) → lookup (is_at (nat_cmp other)) new ≡ cond (is_at (nat_cmp hash) other) w (lookup (is_at (nat_cmp other)) old)

-- what isn't another descriptor than this has no other one's cell
none-other : (descriptor other : List ℕ) (o : Option DescriptorCell) → is_other descriptor o ≡ false → bytes_eq descriptor other ≡ false →
    cell_if other o ≡ None
none-other descriptor other None i n = refl
none-other descriptor other (Some first) i n = by (bytes_eq descriptor first.descriptor.items) refl
  where
    by : (b : Bool) → bytes_eq descriptor first.descriptor.items ≡ b → cell_if other (Some first) ≡ None
    by true y =
        let same : descriptor ≡ first.descriptor.items = (bytes_decides descriptor first.descriptor.items).0 y in
        cell-apart other first (subst (λ bytes. bytes_eq other bytes ≡ false) same (nat_list_eq_equiv.symm other descriptor ∙ n))
    by false m = absurd (false≢true (sym i ∙ ap not m))

-- the cells noted after it
pub notes-hashed : (old new : List (ℕ × DescriptorCell)) (descriptor : List ℕ) (w : Option DescriptorCell) → AreByHash old → AreByHash new →
    StandsBy (descriptor_hash descriptor) w old new → is_other descriptor (first_for old descriptor) ≡ false → is_other descriptor w ≡ false →
    Notes (cell_of (shown_hashed old)) descriptor (cell_if descriptor w) (cell_of (shown_hashed new))
notes-hashed old new descriptor w a b stands was is other = by (bytes_eq descriptor other) refl
  where
    hash : ℕ
    hash = descriptor_hash descriptor

    by-hash : (t : Bool) → is_at (nat_cmp hash) (descriptor_hash other) ≡ t → bytes_eq descriptor other ≡ false →
        cell_if other (first_for new other) ≡ cell_if other (first_for old other)
    by-hash true y n =
        let same : hash ≡ descriptor_hash other = tells_apart exact_unsigned hash (descriptor_hash other) y in
        ap (cell_if other) (stands (descriptor_hash other) ∙ cond-true _ _ _ y) ∙
        (none-other descriptor other w is n ∙
        (sym (none-other descriptor other (first_for old descriptor) was n) ∙
        ap (λ h. cell_if other (lookup (is_at (nat_cmp h)) old)) same))
    by-hash false m n = ap (cell_if other) (stands (descriptor_hash other) ∙ cond-false _ _ _ m)

    by : (t : Bool) → bytes_eq descriptor other ≡ t →
        cell_of (shown_hashed new) other ≡ cond (bytes_eq descriptor other) (cell_if descriptor w) (cell_of (shown_hashed old) other)
    by true y =
        ap (cell_of (shown_hashed new)) (sym ((bytes_decides descriptor other).0 y)) ∙
        (cell-hashed new descriptor b ∙
        (ap (cell_if descriptor) (stands hash ∙ cond-true _ _ _ (same-hash.refl hash)) ∙ sym (cond-true _ _ _ y)))
    by false n =
        cell-hashed new other b ∙
        (by-hash (is_at (nat_cmp hash) (descriptor_hash other)) refl n ∙ (sym (cell-hashed old other a) ∙ sym (cond-false _ _ _ n)))

-- each stands by its hash after it
pub by-hash-kept : (old new : List (ℕ × DescriptorCell)) (hash : ℕ) (w : Option DescriptorCell) → AreByHash old → StandsBy hash w old new →
    IsStrictlySortedBy nat_cmp (keys_of new) → ((first : DescriptorCell) → w ≡ Some first → descriptor_hash first.descriptor.items ≡ hash) → AreByHash new
by-hash-kept old new hash w a stands rising own = record {
  rising = rising;
  hashed = λ other first is. by other first is (is_at (nat_cmp hash) other) refl;
}
  where
    by : (other : ℕ) (first : DescriptorCell) → lookup (is_at (nat_cmp other)) new ≡ Some first → (t : Bool) → is_at (nat_cmp hash) other ≡ t →
        descriptor_hash first.descriptor.items ≡ other
    by other first is true y =
        own first (sym (cond-true _ _ _ y) ∙ (sym (stands other) ∙ is)) ∙ tells_apart exact_unsigned hash other y
    by other first is false n = a.hashed other first (sym (cond-false _ _ _ n) ∙ (sym (stands other) ∙ is))

-- ---- as the map's calls tell it

pub put : (old new : BTreeMap ℕ DescriptorCell) (t : DescriptorCells) (descriptor : List ℕ) (hash : ℕ) (w : DescriptorCell) →
    shown_hashed old.entries ≡ t → AreByHash old.entries → hash ≡ descriptor_hash descriptor → UpdatesBy nat_cmp (nat_cmp hash) old new (Some w) →
    IsStrictlySortedBy nat_cmp (keys_of new.entries) → false ≡ is_other descriptor (lookup (is_at (nat_cmp hash)) old.entries) →
    w.descriptor.items ≡ descriptor → Notes (cell_of t) descriptor (Some w.cell) (cell_of (shown_hashed new.entries))
put old new t descriptor hash w is a own u rising free same =
    let there : bytes_eq descriptor w.descriptor.items ≡ true = (bytes_decides descriptor w.descriptor.items).1 (sym same) in
    let stands = subst (λ h. StandsBy h (Some w) old.entries new.entries) own u.0 in
    let kept = by-hash-kept old.entries new.entries (descriptor_hash descriptor) (Some w) a stands rising
    (λ first e. ap (λ (first : DescriptorCell). descriptor_hash first.descriptor.items) (sym (same_Some _ _ e)) ∙ ap descriptor_hash same) in
    subst (λ t. Notes (cell_of t) descriptor (Some w.cell) (cell_of (shown_hashed new.entries))) is
    (subst (λ o. Notes (cell_of (shown_hashed old.entries)) descriptor o (cell_of (shown_hashed new.entries))) (cond-true _ _ _ there)
    (notes-hashed old.entries new.entries descriptor (Some w) a kept stands
    (sym free-there) (ap not there)))
  where
    free-there : false ≡ is_other descriptor (first_for old.entries descriptor)
    free-there = free ∙ ap (λ h. is_other descriptor (lookup (is_at (nat_cmp h)) old.entries)) own

pub taken : (old new : BTreeMap ℕ DescriptorCell) (t : DescriptorCells) (descriptor : List ℕ) (hash : ℕ) →
    shown_hashed old.entries ≡ t → AreByHash old.entries → hash ≡ descriptor_hash descriptor → UpdatesBy nat_cmp (nat_cmp hash) old new None →
    IsStrictlySortedBy nat_cmp (keys_of new.entries) → true ≡ is_this descriptor (lookup (is_at (nat_cmp hash)) old.entries) →
    Notes (cell_of t) descriptor None (cell_of (shown_hashed new.entries))
taken old new t descriptor hash is a own u rising here =
    let stands = subst (λ h. StandsBy h None old.entries new.entries) own u.0 in
    let kept = by-hash-kept old.entries new.entries (descriptor_hash descriptor) None a stands rising (λ first e. absurd (none-some None first refl e)) in
    subst (λ t. Notes (cell_of t) descriptor None (cell_of (shown_hashed new.entries))) is
    (notes-hashed old.entries new.entries descriptor None a kept stands
    (sym (this-free descriptor _ here ∙ ap (λ h. is_other descriptor (lookup (is_at (nat_cmp h)) old.entries)) own)) refl)

-- an entry that was lent and given back as it was
pub lent : (old new : BTreeMap ℕ DescriptorCell) (t : DescriptorCells) (hash : ℕ) (w : DescriptorCell) → shown_hashed old.entries ≡ t →
    WritesThrough nat_cmp (nat_cmp hash) old w new → Some w ≡ lookup (is_at (nat_cmp hash)) old.entries → shown_hashed new.entries ≡ t
lent old new t hash w is written was = ap shown_hashed (written.0 ∙ set_value_same (is_at (nat_cmp hash)) old.entries w (sym was)) ∙ is
