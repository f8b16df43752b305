-- The names of a key's subkeys, kept as they are while they rise.
use Rattle.std.proofs.Common.{◌≡◌, ℕ, ◌-◌, ◌||◌, Bool, true, false, not, Some, Result, Ok, Err, IfErr, List}
use Rattle.std.proofs.Common.{length, get_or, slice_get, inl, inr, refl, sym, ap, ◌∙◌, subst, arith}
use Rattle.std.specs.declared.borrow.CowSlice.{CowSlice}
use Rattle.std.specs.declared.cmp.Ordering.{Ordering}
use Rattle.std.specs.declared.cmp.Ordering.TheVariants.{Less, Equal, Greater}
use Rattle.std.specs.Cow.{cow_slice_items}
use Rattle.std.specs.Ordering.{is_lt, is_eq}
use Rattle.std.proofs.lemmas.Bool.{cases_lt, false≢true}
use Rattle.std.proofs.lemmas.Cmp.{nat_list_cmp_total}
use Rattle.std.proofs.lemmas.List.Folds.{list_any_none}
use Rattle.std.proofs.lemmas.Option.{get_or_from_slice_get}
use Rattle.reg_names.specs.Names.{folded, name_cmp}
use Rattle.reg_heap.specs.Members.{same_name}
use Rattle.reg_tree_image.specs.declared.LoadFault.{LoadFault}
use Rattle.reg_tree_image.specs.declared.LoadFault.TheVariants.{Memory, Twice}
use Rattle.reg_tree_image.specs.WalkSteps.{check}
use Rattle.reg_tree_image.specs.Internal.NamesMet.{is_one_of, AreRising, IsBehind}
use Rattle.reg_tree_image.specs.Internal.ReaderOutcomes.{Fails, Gives}
use Rattle.reg_tree_image.proofs.Readers.EqualNames.{or-turned}

-- ---- the order of names

lt-Less : (o : Ordering) → is_lt o ≡ true → o ≡ Less
lt-Less Less e = refl
lt-Less Equal e = absurd (false≢true e)
lt-Less Greater e = absurd (false≢true e)

lt-other : (o : Ordering) → is_lt o ≡ true → is_eq o ≡ false
lt-other Less e = refl
lt-other Equal e = absurd (false≢true e)
lt-other Greater e = refl

name-between : (a b c : List ℕ) → is_lt (name_cmp a b) ≡ true → is_lt (name_cmp b c) ≡ true → is_lt (name_cmp a c) ≡ true
name-between a b c l m =
    ap is_lt (nat_list_cmp_total.trans (folded a) (folded b) (folded c) (lt-Less (name_cmp a b) l) (lt-Less (name_cmp b c) m))

-- ---- a name behind rising ones

module _ {Z : Type 0} (names : List (CowSlice ℕ Z)) where
  -- one behind the last is behind all
  pub behind-last : (last : CowSlice ℕ Z) (name : List ℕ) → AreRising names → Some last ≡ slice_get names (length names - 1) →
      is_lt (name_cmp (cow_slice_items last) name) ≡ true → IsBehind names name
  behind-last last name rising e b k d l = elim (cases_lt k (length names - 1)) [
    | inl before ↦ name-between (cow_slice_items (get_or names k d)) (cow_slice_items last) name
        (subst (λ (n : CowSlice ℕ Z). is_lt (name_cmp (cow_slice_items (get_or names k d)) (cow_slice_items n)) ≡ true) (at d)
        (rising k (length names - 1) d before (omega (arith, l)))) b
    | inr there ↦
        let same : k ≡ length names - 1 = omega (arith, l, there) in
        subst (λ (n : CowSlice ℕ Z). is_lt (name_cmp (cow_slice_items n) name) ≡ true)
        (sym (at d) ∙ ap (λ i. get_or names i d) (sym same)) b
  ]
    where
      at : (d : CowSlice ℕ Z) → get_or names (length names - 1) d ≡ last
      at d = get_or_from_slice_get names (length names - 1) last d (sym e)

  -- one behind all is none of them
  pub behind-other : (name : List ℕ) → IsBehind names name → is_one_of name names ≡ false
  behind-other name b =
      list_any_none (λ (n : CowSlice ℕ Z). same_name (cow_slice_items n) name) names
      (λ k d l. lt-other (name_cmp (cow_slice_items (get_or names k d)) name) (b k d l))

  -- all of them in a set
  pub all-put : (given : List (CowSlice ℕ Z)) (old new : List ℕ → Bool) → given ≡ names →
      ((other : List ℕ) → new other ≡ (old other || is_one_of other given)) → (other : List ℕ) → new other ≡ (is_one_of other names || old other)
  all-put given old new same met other =
      met other ∙ (or-turned (old other) (is_one_of other given) ∙ ap (λ (ns : List (CowSlice ℕ Z)). is_one_of other ns || old other) same)

-- a name that wasn't met is kept, or memory lacks for it
pub one-kept : (met : Bool) (r : Result (Unit {0}) LoadFault) → met ≡ false → IfErr r (λ fault. fault ≡ Memory) →
    Gives {X = Unit {0}} (λ _. tt) (check Twice (not met)) r
one-kept met (Ok x) e m = λ seen. rw e refl
one-kept met (Err fault) e m = λ seen. subst (λ f. Fails f (check Twice (not met)) seen) (sym m) tt
