-- The first security of a ring, as the table puts it there.
use Rattle.std.proofs.Common.{◌≡◌, ◌≢◌, ◌⊎◌, inl, inr, ℕ, Option, List, [], ◌∷◌, refl, sym, ap, ◌∙◌, subst, arith}
use Rattle.std.specs.Prelude.{unwrap_or}
use Rattle.std.specs.Option.{option_map}
use Rattle.std.proofs.lemmas.Bool.{cases_eq}
use Rattle.std.proofs.lemmas.Option.{same_Some}
use Rattle.reg_heap.specs.Heaps.{Heap}
use Rattle.reg_heap.specs.Kinds.{times}
use Rattle.reg_records.specs.KeySecurities.{KeySecurityRecord, IsPlainSecurity}
use Rattle.reg_records.proofs.KeySecurityCodec.{security_at-same}
use Rattle.reg_shape.specs.Whole.{IsRing}
use Rattle.reg_index.proofs.SubkeysFrame.{times-not}
use Rattle.reg_security.specs.Rings.{DescriptorCells, Finds, IsAdded}
use Rattle.reg_security.proofs.TableCells.{finds-same}
use Rattle.reg_tree.specs.Internal.FreshCells.{IsOnlySecurity}
use Rattle.reg_tree.proofs.Invariant.UntouchedCells.{times-one, there-is}

-- ---- a list of one number

none-left : (xs : List ℕ) → ((o : ℕ) → times o xs ≡ 0) → xs ≡ []
none-left [] n = refl
none-left (x ∷ xs) n = let a = n x in let one = times-one x in absurd (omega (arith, a, one))

alone : (z : ℕ) (xs : List ℕ) → ((o : ℕ) → times o xs ≡ times o (z ∷ [])) → xs ≡ z ∷ []
alone z [] m = let a = m z in let one = times-one z in absurd (omega (arith, a, one))
alone z (x ∷ xs) m = by (cases_eq x z)
  where
    by : (x ≡ z) ⊎ (x ≢ z) → x ∷ xs ≡ z ∷ []
    by (inl e) =
        ap (λ y. y ∷ xs) e
        ∙ ap (λ rest. z ∷ rest) (none-left xs (λ o. (let a = m o in let same = ap (λ y. times o (y ∷ [])) e in omega (arith, a, same))))
    by (inr p) = let a = m x in let one = times-one x in let none = times-not x z [] (λ e. p (sym e)) refl in absurd (omega (arith, a, one, none))

-- ---- before it

-- no security is a ring too
pub no-ring : (heap : Heap) → IsRing heap []
no-ring heap = record { circles = tt; apart = tt; written = tt }

-- ---- it alone

pub record IsFirst (heap : Heap) (cell : ℕ) (descriptor : List ℕ) : Type 0 where
  pub security : KeySecurityRecord
  pub only : IsOnlySecurity heap cell security
  pub described : security.descriptor ≡ descriptor

module _ (h i k : Heap) (cell : ℕ) (descriptor : List ℕ) (a : IsAdded h i [] cell descriptor) (same : k cell ≡ i cell) where
  ring-is : a.after ≡ cell ∷ []
  ring-is = alone cell a.after (λ o. (let m = a.members o in omega (arith, m)))

  pub first-security : IsFirst k cell descriptor
  first-security =
      let ring : IsRing i (cell ∷ []) = subst (IsRing i) ring-is a.closed in
      let w = ring.written.0 in
      record {
        security = w.security;
        only = record {
          security_is = security_at-same i k cell same ∙ w.reads;
          plain = subst IsPlainSecurity (sym (ap (λ (c : Option (List ℕ)). unwrap_or c []) same)) w.plain;
          flink = same_Some _ _ (sym (ap (option_map (λ (s : KeySecurityRecord). s.fields.flink)) w.reads) ∙ ring.circles.forward);
          blink = same_Some _ _ (sym (ap (option_map (λ (s : KeySecurityRecord). s.fields.blink)) w.reads) ∙ ring.circles.back);
          count = same_Some _ _ (sym (ap (option_map (λ (s : KeySecurityRecord). s.fields.count)) w.reads) ∙ a.count);
          some = w.some;
          short = w.short;
        };
        described = same_Some _ _ (sym (ap (option_map (λ (s : KeySecurityRecord). s.descriptor)) w.reads) ∙ a.describes);
      }

  pub first-found : (table : DescriptorCells) → Finds table i a.after → Finds table k (cell ∷ [])
  first-found table f = finds-same table i k (cell ∷ []) (subst (Finds table i) ring-is f)
      (λ z l. ap (option_map (λ (s : KeySecurityRecord). s.descriptor)) (security_at-same i k z (subst (λ y. k y ≡ i y) (sym (there-is z cell l)) same)))
