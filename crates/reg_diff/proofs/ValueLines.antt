-- What is told of one value against the other key's values.
use Rattle.std.proofs.Common.{◌≡◌, ℕ, Bool, true, false, cond, List, [], Option, Some, None, is_some, slice_get, get_or, refl, sym, ap, ◌∙◌}
use Rattle.std.specs.Option.{option_and_then}
use Rattle.std.proofs.lemmas.Option.{slice_get-get_or}
use Rattle.std.proofs.lemmas.Bool.{false≢true}
use Rattle.reg_heap.specs.Paths.{Member}
use Rattle.reg_heap.specs.Members.{value_named, index_named}
use Rattle.reg_values.proofs.ValueListing.ToldValues.{named-at}
use Rattle.reg_tree.proofs.ValueChange.ValueAtPlace.{index_within, unnamed}
use Rattle.reg_diff.specs.declared.side.Side.{Side}
use Rattle.reg_diff.specs.declared.side.Side.TheVariants.{Old, New}
use Rattle.reg_diff.specs.Differences.{same_member, value_line, value_change, lost_here, come_here, lost_line, come_line}
use Rattle.reg_diff.specs.Internal.Parts.{is_nothing}

-- the value at the index of its name
pub named-found : (name : List ℕ) (values : List Member) (index : ℕ) → index_named name values ≡ Some index →
    (m : Member) × (slice_get values index ≡ Some m) × (value_named name values ≡ Some m)
named-found name values index e =
    let blank : Member = record { name = []; kind = 0; bytes = [] } in
    let at = slice_get-get_or values index blank (index_within name values index e) in
    (get_or values index blank, at, named-at name values ∙ (ap (option_and_then (slice_get values)) e ∙ at))

-- ---- an old value

pub gone-said : (path : List ℕ) (is : List Member) (was : Member) → index_named was.name is ≡ None → value_line Old path was ≡ lost_line path is was
gone-said path is was e = sym (ap (lost_here path was) (unnamed was.name is e))

module _ (path : List ℕ) (is : List Member) (was m now : Member) (found : value_named was.name is ≡ Some m) (read : now ≡ m) (b : Bool)
    (test : b ≡ same_member was now) where
  opened : lost_line path is was ≡ cond b [] (value_change path was now)
  opened =
      ap (lost_here path was) found
      ∙ (ap (λ (x : Member). cond (same_member was x) [] (value_change path was x)) (sym read)
      ∙ ap (λ (t : Bool). cond t [] (value_change path was now)) (sym test))

  pub kept-said : b ≡ true → lost_line path is was ≡ []
  kept-said e = opened ∙ ap (λ (t : Bool). cond t [] (value_change path was now)) e

  pub changed-said : b ≡ false → value_change path was now ≡ lost_line path is was
  changed-said e = sym (opened ∙ ap (λ (t : Bool). cond t [] (value_change path was now)) e)

-- ---- a new value

pub come-said : (path : List ℕ) (was : List Member) (is : Member) → index_named is.name was ≡ None → value_line New path is ≡ come_line path was is
come-said path was is e = sym (ap (come_here path is) (unnamed is.name was e))

named-some : (path : List ℕ) (is : Member) (o : Option Member) (m : Member) → o ≡ Some m → come_here path is o ≡ []
named-some path is o m e = ap (come_here path is) e

pub there-said : (path : List ℕ) (was : List Member) (is : Member) (index : Option ℕ) → index ≡ index_named is.name was → is_some index ≡ true →
    come_line path was is ≡ []
there-said path was is None e s = absurd (false≢true s)
there-said path was is (Some index) e s =
    let f = named-found is.name was index (sym e) in
    named-some path is (value_named is.name was) f.0 f.2

pub not-there : {A : Type 0} (o : Option A) → is_some o ≡ false → o ≡ None
not-there None e = refl
not-there (Some x) e = absurd (false≢true (sym e))

-- ---- whether something was told

pub line-some : (side : Side) (path : List ℕ) (value : Member) → false ≡ is_nothing (value_line side path value)
unfolding value_line
line-some Old path value = refl
line-some New path value = refl

pub change-some : (path : List ℕ) (was is : Member) → false ≡ is_nothing (value_change path was is)
unfolding value_change
change-some path was is = refl
