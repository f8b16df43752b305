-- A cell that is noted anew and then noted as before: the entries are those that they were.
use Rattle.std.proofs.Common.{◌≡◌, ℕ, true, false, List, [], ◌∷◌, Option, Some, None, IsSome, Bor, refl, sym, ap, subst, ◌∙◌, arith, Vec, Ordering, Less, Equal, Greater}
use Rattle.std.specs.Ordering.{is_eq, match_ordering, nat_cmp}
use Rattle.std.specs.Cmp.{IsTotalOrder}
use Rattle.std.specs.Cmp.Lexicographic.{slice_cmp}
use Rattle.std.specs.List.Sorted.{IsStrictlySortedBy}
use Rattle.std.specs.Option.{is_some, option_copied}
use Rattle.std.specs.BTreeMap.{BTreeMap, UpdatesBy, insert_entry, is_at}
use Rattle.std.specs.Map.{lookup, keys_of, set_value}
use Rattle.std.proofs.lemmas.Cmp.{nat_list_cmp_total}
use Rattle.std.proofs.lemmas.Map.Entries.{lookup_at_gap, lookup_head, lookup_tail}
use Rattle.std.proofs.lemmas.Map.Keys.{sorted_tail}
use Rattle.std.proofs.lemmas.Option.{same_Some}
use Rattle.std.proofs.lemmas.Bool.{cond-true, cond-false, false≢true}
use Rattle.reg_security.specs.Rings.{Notes}
use Rattle.reg_security.specs.Internal.MapEntries.{found_for, MakesRoom}
use Rattle.reg_security.proofs.TableCells.{updated}

none-some : {A : Type 0} (o : Option A) (x : A) → o ≡ None → o ≡ Some x → ⊥
none-some None x e f = absurd (cc)
none-some (Some y) x e f = absurd (cc)

module _ {K X : Type 0} {R : K → K → Ordering} (o : IsTotalOrder R) (k : K) (v x : X) where
  set-head : (e : K × X) (es : List (K × X)) → is_at (R k) e.0 ≡ true → set_value (is_at (R k)) (e ∷ es) x ≡ (e.0, x) ∷ es
  set-head e es y = cond-true (is_at (R k) e.0) ((e.0, x) ∷ es) (e ∷ set_value (is_at (R k)) es x) y

  set-tail : (e : K × X) (es : List (K × X)) → is_at (R k) e.0 ≡ false → set_value (is_at (R k)) (e ∷ es) x ≡ e ∷ set_value (is_at (R k)) es x
  set-tail e es n = cond-false (is_at (R k) e.0) ((e.0, x) ∷ es) (e ∷ set_value (is_at (R k)) es x) n

  pub restored : (es : List (K × X)) → IsStrictlySortedBy R (keys_of es) → lookup (is_at (R k)) es ≡ Some x →
      set_value (is_at (R k)) (insert_entry R es k v) x ≡ es
  restored [] rising there = absurd (none-some None x refl there)
  restored (e ∷ es) rising there = by (R k e.0) refl (restored es (sorted_tail R e.0 (keys_of es) rising))
    where
      inserted : (r : Ordering) → R k e.0 ≡ r →
          insert_entry R (e ∷ es) k v ≡ match_ordering r ((k, v) ∷ e ∷ es) ((e.0, v) ∷ es) (e ∷ insert_entry R es k v)
      inserted r is = ap (λ r. match_ordering r ((k, v) ∷ e ∷ es) ((e.0, v) ∷ es) (e ∷ insert_entry R es k v)) is

      by : (r : Ordering) → R k e.0 ≡ r →
          (lookup (is_at (R k)) es ≡ Some x → set_value (is_at (R k)) (insert_entry R es k v) x ≡ es) →
          set_value (is_at (R k)) (insert_entry R (e ∷ es) k v) x ≡ e ∷ es
      by Less is rest =
          absurd
          (none-some _ x (lookup_at_gap o k (e ∷ es) 0 rising (λ j p l. absurd (omega (arith, l)))
          (λ p at. ap (λ (p : K × X). R k p.0) (sym (same_Some _ _ at)) ∙ is)) there)
      by Equal is rest =
          ap (λ l. set_value (is_at (R k)) l x) (inserted Equal is) ∙
          (set-head (e.0, v) es (ap is_eq is) ∙
          ap (λ y. (e.0, y) ∷ es) (sym (same_Some _ _ (sym (lookup_head (is_at (R k)) e es (ap is_eq is)) ∙ there))))
      by Greater is rest =
          ap (λ l. set_value (is_at (R k)) l x) (inserted Greater is) ∙
          (set-tail e (insert_entry R es k v) (ap is_eq is) ∙
          ap (λ l. e ∷ l) (rest (sym (lookup_tail (is_at (R k)) e es (ap is_eq is)) ∙ there)))

-- descriptors in the order of their bytes
abbrev pub by_bytes : {Y : Type 0} → Vec ℕ Y → Vec ℕ Y → Ordering
by_bytes a b = slice_cmp nat_cmp a.items b.items

by-bytes : {Y : Type 0} → IsTotalOrder (by_bytes {Y = Y})
by-bytes = record {
  antisymm = λ a b. nat_list_cmp_total.antisymm a.items b.items;
  trans = λ a b c. nat_list_cmp_total.trans a.items b.items c.items;
  congr = λ a b c. nat_list_cmp_total.congr a.items b.items c.items;
}

-- a copy of a descriptor that is there was put in with no cell, and got its cell back
pub kept : {Y : Type 0} (old between new : List (Vec ℕ Y × ℕ)) (copy : Vec ℕ Y) (descriptor : List ℕ) (held : ℕ) (before : Option ℕ) →
    copy.items ≡ descriptor → IsStrictlySortedBy by_bytes (keys_of old) → between ≡ insert_entry by_bytes old copy 0 →
    new ≡ set_value (is_at (λ k. slice_cmp nat_cmp descriptor k.items)) between held → before ≡ lookup (is_at (by_bytes copy)) old → before ≡ Some held →
    MakesRoom old descriptor false new
kept old between new copy descriptor held before text rising put set was is = (
  set ∙
      (ap (λ l. set_value (is_at (λ k. slice_cmp nat_cmp descriptor k.items)) l held) put ∙
      subst (λ t. set_value (is_at (λ k. slice_cmp nat_cmp t k.items)) (insert_entry by_bytes old copy 0) held ≡ old) text
      (restored by-bytes copy 0 held old rising (sym was ∙ is))),
  subst (λ t. IsSome (found_for old t)) text (subst IsSome (sym (sym was ∙ is)) refl),
)

-- a copy of a descriptor that wasn't there was put in with no cell
pub fresh : {Y : Type 0} (old new : BTreeMap (Vec ℕ Y) ℕ) (copy : Vec ℕ Y) (descriptor : List ℕ) (before : Option ℕ) → copy.items ≡ descriptor →
    UpdatesBy by_bytes (by_bytes copy) old new (Some 0) → before ≡ lookup (is_at (by_bytes copy)) old.entries → before ≡ None →
    MakesRoom old.entries descriptor true new.entries
fresh old new copy descriptor before text put was is = (
  ap (found_for old.entries) (sym text) ∙ (sym was ∙ is),
  subst (λ t. Notes (found_for old.entries) t (Some 0) (found_for new.entries)) text (updated copy.items old new (Some 0) put),
)

-- whether a look-up found something
pub copied-some : (o : Option (Bor ℕ)) (w : Option ℕ) → option_copied o ≡ w → true ≡ is_some o → IsSome w
copied-some None w e y = absurd (false≢true (sym y))
copied-some (Some b) w e y = subst IsSome e refl

pub copied-none : (o : Option (Bor ℕ)) (w : Option ℕ) → option_copied o ≡ w → false ≡ is_some o → w ≡ None
copied-none None w e n = sym e
copied-none (Some b) w e n = absurd (false≢true n)
