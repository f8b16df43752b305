-- The names of a few values are compared one by one, those of more are found in a set.
use Rattle.std.proofs.Common.{◌≡◌, ◌≢◌, ℕ, zero, suc, ◌+◌, ◌<◌, ◌≤◌, nat_lt, ◌||◌, Bool, true, false, Result, Ok, Err, OnOk, List, [], ◌∷◌, ◌++◌}
use Rattle.std.proofs.Common.{length, take, get_or, Vec, refl, sym, ap, ◌∙◌, subst, arith, length-append}
use Rattle.std.specs.List.{list_any}
use Rattle.std.specs.Cow.{cow_slice_items}
use Rattle.std.proofs.lemmas.Bool.Decides.{nat_tests}
use Rattle.std.proofs.lemmas.List.Folds.{list_any-append, list_any_at, list_any_more}
use Rattle.reg_heap.specs.Paths.{Member}
use Rattle.reg_heap.specs.Members.{same_name}
use Rattle.reg_tree_image.specs.declared.met_names.TheConstants.{FEW}
use Rattle.reg_tree_image.specs.declared.values.ReadValue.{ReadValue}
use Rattle.reg_tree_image.specs.Internal.NamedRecords.{member_in, members_in}
use Rattle.reg_tree_image.specs.Internal.NamesMet.{is_among, is_met, gathered, AreMet, AreKnown}

pub members-length : (values : List ReadValue) → length (members_in values) ≡ length values
members-length [] = refl
members-length (v ∷ values) = ap suc (members-length values)

any-read : (test : Member → Bool) (values : List ReadValue) → list_any test (members_in values) ≡ list_any (λ v. test (member_in v)) values
any-read test [] = refl
any-read test (v ∷ values) = ap (λ b. test (member_in v) || b) (any-read test values)

pub take-all : (values : List ReadValue) (n : ℕ) → length values ≤ n → take n values ≡ values
take-all [] zero l = refl
take-all [] (suc n) l = refl
take-all (v ∷ values) zero l = absurd (omega (arith, l))
take-all (v ∷ values) (suc n) l = ap (λ vs. v ∷ vs) (take-all values n (omega (arith, l)))

-- compared one by one
pub one_named : (values : List ReadValue) (name : List ℕ) →
    is_among name (members_in values) ≡ list_any (λ v. same_name (member_in v).name name) values
one_named values name = any-read (λ (m : Member). same_name m.name name) values

module _ (values : List ReadValue) (name : List ℕ) where
  abbrev is_its : ReadValue → Bool
  is_its v = same_name (member_in v).name name

  -- one of them has the name
  pub one-found : (index : ℕ) (v d : ReadValue) → index < length values → v ≡ get_or values index d → is_its v ≡ true →
      is_among name (members_in values) ≡ true
  one-found index v d l e t = one_named values name ∙ list_any_at is_its values index d l (ap is_its (sym e) ∙ t)

  -- none of the first so many has it, nor the next
  pub not-named : (index : ℕ) (v d : ReadValue) → index < length values → v ≡ get_or values index d → is_its v ≡ false →
      list_any is_its (take index values) ≡ false → list_any is_its (take (index + 1) values) ≡ false
  not-named index v d l e t none =
      list_any_more is_its values index d l ∙ ap (λ b. b || is_its (get_or values index d)) none ∙ ap is_its (sym e) ∙ t

  -- none of them has it
  pub none-found : (index : ℕ) → length values ≤ index → list_any is_its (take index values) ≡ false → is_among name (members_in values) ≡ false
  none-found index l none = one_named values name ∙ ap (list_any is_its) (sym (take-all values index l)) ∙ none

-- ---- what a call is told beside its result

pub whenever : {T E P : Type 0} (r : Result T E) → P → OnOk r P
whenever (Ok x) p = p
whenever (Err e) p = tt

pub weaker : {T E P Q : Type 0} (r : Result T E) → (P → Q) → OnOk r P → OnOk r Q
weaker (Ok x) f p = f p
weaker (Err e) f p = tt

-- ---- how many they are

pub few-gathered : (members : List Member) → length members ≤ FEW → gathered members ≡ []
few-gathered members l = let b : nat_lt FEW (length members) ≡ false = grind (arith, nat_tests) in rw b refl

pub many-gathered : (members : List Member) → FEW < length members → gathered members ≡ members
many-gathered members l = let b : nat_lt FEW (length members) ≡ true = grind (arith, nat_tests) in rw b refl

module _ {Y : Type 0} (values : List ReadValue) (old : List (ℕ × Vec ℕ Y)) (known : AreKnown (members_in values) old) where
  -- one more of a few
  pub still-few : length values < FEW → (m : Member) → AreKnown (members_in values ++ m ∷ []) old
  still-few l m =
      let n = members-length values in
      let k = length-append (members_in values) (m ∷ []) in
      subst (λ ms. AreMet ms old)
      (few-gathered (members_in values) (omega (arith, n, l)) ∙
      sym (few-gathered (members_in values ++ m ∷ []) (omega (arith, n, k, l))))
      known

  -- more than a few
  pub already-met : FEW ≤ length values → length values ≢ FEW → AreMet (members_in values) old
  already-met l d =
      let n = members-length values in
      subst (λ ms. AreMet ms old) (many-gathered (members_in values) (omega (arith, n, l, d))) known

  -- none of a few yet
  pub none-gathered : length values ≡ FEW → AreMet (members_in (take 0 values)) old
  none-gathered e =
      let n = members-length values in
      subst (λ ms. AreMet ms old) (few-gathered (members_in values) (omega (arith, n, e))) known

-- the names of the first values, and of one more
pub one-gathered : {Y : Type 0} (values : List ReadValue) (index : ℕ) (v d : ReadValue) (name : List ℕ) (old new : List (ℕ × Vec ℕ Y)) →
    index < length values → v ≡ get_or values index d → name ≡ cow_slice_items v.name → AreMet (members_in (take index values)) old →
    ((other : List ℕ) → is_met new other ≡ (is_met old other || same_name name other)) →
    AreMet (members_in (take (index + 1) values)) new
one-gathered values index v d name old new l e n a m other =
    let test : ReadValue → Bool = λ v. same_name (member_in v).name other in
    one_named (take (index + 1) values) other
    ∙ list_any_more test values index d l
    ∙ ap (λ b. b || test (get_or values index d)) (sym (one_named (take index values) other) ∙ a other)
    ∙ ap (λ (v : ReadValue). is_met old other || same_name (cow_slice_items v.name) other) (sym e)
    ∙ ap (λ name. is_met old other || same_name name other) (sym n)
    ∙ sym (m other)

pub all-gathered : {Y : Type 0} (values : List ReadValue) (index : ℕ) (new : List (ℕ × Vec ℕ Y)) → length values ≤ index →
    AreMet (members_in (take index values)) new → AreMet (members_in values) new
all-gathered values index new l a = subst (λ vs. AreMet (members_in vs) new) (take-all values index l) a

-- one more of many
pub one-known : {Y : Type 0} (values : List ReadValue) (name : List ℕ) (old new : List (ℕ × Vec ℕ Y)) → FEW ≤ length values →
    AreMet (members_in values) old → ((other : List ℕ) → is_met new other ≡ (is_met old other || same_name name other)) →
    (m : Member) → m.name ≡ name → AreKnown (members_in values ++ m ∷ []) new
one-known {Y} values name old new l a met m e =
    let n = members-length values in
    let k = length-append (members_in values) (m ∷ []) in
    subst (λ ms. AreMet ms new) (sym (many-gathered (members_in values ++ m ∷ []) (omega (arith, n, k, l)))) by
  where
    last : (b : Bool) → (b || false) ≡ b
    last true = refl
    last false = refl

    by : AreMet (members_in values ++ m ∷ []) new
    by other =
        list_any-append (λ (m : Member). same_name m.name other) (members_in values) (m ∷ [])
        ∙ ap (λ b. b || (same_name m.name other || false)) (a other)
        ∙ ap (λ b. is_met old other || b) (last (same_name m.name other) ∙ ap (λ name. same_name name other) e)
        ∙ sym (met other)
