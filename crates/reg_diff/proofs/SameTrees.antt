-- At a path and below it two trees are alike, but for what is ignored, just where no line is told of how they differ there.
use Rattle.std.proofs.Common.{◌≡◌, ℕ, ◌==◌, Bool, true, false, cond, List, [], ◌∷◌, ◌++◌, map, Option, Some, None, IsSome, refl, sym, ap, ◌∙◌, subst}
use Rattle.std.specs.Prelude.{bytes_eq, codes}
use Rattle.std.specs.FinMap.{get}
use Rattle.std.specs.List.{AllByRecursion}
use Rattle.std.proofs.lemmas.Bool.{false≢true}
use Rattle.std.proofs.lemmas.Bool.Decides.{Decides-eqb}
use Rattle.std.proofs.lemmas.Slice.Eq.{bytes_eq-Decides}
use Rattle.reg_names.specs.Names.{folded, text_of}
use Rattle.reg_heap.specs.Paths.{Path, Tree, Rec}
use Rattle.reg_heap.specs.Trees.{IsTree, IsWithinLimits, NamesDiffer}
use Rattle.reg_tree_text.specs.DumpTexts.{Told}
use Rattle.reg_diff.specs.declared.ignored.Ignored.{Ignored}
use Rattle.reg_diff.specs.declared.side.Side.{Side}
use Rattle.reg_diff.specs.declared.side.Side.TheVariants.{Old, New}
use Rattle.reg_diff.specs.Alike.{Unless, IsAlike, IsAlikeThere, AreAlike}
use Rattle.reg_diff.specs.Branches.{keys_from}
use Rattle.reg_diff.specs.Differences.{key_line, whole_key, name_change, number_change, bytes_change, field_changes}
use Rattle.reg_diff.specs.Differences.{value_changes, key_changes, told_changes, side_text, diff_text}
use Rattle.reg_diff.specs.Internal.Parts.{is_nothing}
use Rattle.reg_diff.proofs.ToldKeys.{IsToldIn, all-told, keys-there}
use Rattle.reg_diff.proofs.SameValues.{nothing-both, nothing-joined, none_told, each_none, values-none, values-alike, values-ordered}

-- ---- one field

if-none : (b : Bool) (line : List ℕ) → is_nothing line ≡ false → cond b [] line ≡ [] → b ≡ true
if-none true line some e = refl
if-none false line some e = absurd (false≢true (sym some ∙ ap is_nothing e))

name-same : (path was is : List ℕ) → name_change path was is ≡ [] → was ≡ is
unfolding name_change
name-same path was is e = (bytes_eq-Decides was is).0 (if-none (bytes_eq was is) _ refl e)

number-same : (is_ignored : Bool) (what path : List ℕ) (was is : ℕ) → number_change is_ignored what path was is ≡ [] →
    Unless is_ignored (was ≡ is)
unfolding number_change
number-same true what path was is e = tt
number-same false what path was is e = (Decides-eqb was is).0 (if-none (was == is) _ refl e)

bytes-same : (is_ignored : Bool) (what path was is : List ℕ) → bytes_change is_ignored what path was is ≡ [] → Unless is_ignored (was ≡ is)
unfolding bytes_change
bytes-same true what path was is e = tt
bytes-same false what path was is e = (bytes_eq-Decides was is).0 (if-none (bytes_eq was is) _ refl e)

if-so : (b : Bool) (line : List ℕ) → b ≡ true → cond b [] line ≡ []
if-so true line e = refl
if-so false line e = absurd (false≢true e)

name-none : (path was is : List ℕ) → was ≡ is → name_change path was is ≡ []
unfolding name_change
name-none path was is e = if-so (bytes_eq was is) _ ((bytes_eq-Decides was is).1 e)

number-none : (is_ignored : Bool) (what path : List ℕ) (was is : ℕ) → Unless is_ignored (was ≡ is) →
    number_change is_ignored what path was is ≡ []
unfolding number_change
number-none true what path was is e = refl
number-none false what path was is e = if-so (was == is) _ ((Decides-eqb was is).1 e)

bytes-none : (is_ignored : Bool) (what path was is : List ℕ) → Unless is_ignored (was ≡ is) → bytes_change is_ignored what path was is ≡ []
unfolding bytes_change
bytes-none true what path was is e = refl
bytes-none false what path was is e = if-so (bytes_eq was is) _ ((bytes_eq-Decides was is).1 e)

-- ---- one key

module _ (ignored : Ignored) (path : List ℕ) (was is : Rec) where
  key-alike : field_changes ignored path was is ++ value_changes ignored.order path was.values is.values ≡ [] → IsAlike ignored was is
  unfolding field_changes
  key-alike e =
      let a = nothing-both (field_changes ignored path was is) (value_changes ignored.order path was.values is.values) e in
      let n = nothing-both (name_change path was.name is.name) _ a.0 in
      let m = nothing-both (number_change ignored.marks (codes "marks") path was.marks is.marks) _ n.1 in
      let c = nothing-both (bytes_change ignored.class (codes "class") path was.class is.class) _ m.1 in
      let d = nothing-both (bytes_change ignored.security (codes "security") path was.descriptor is.descriptor) _ c.1 in
      record {
        name = name-same _ _ _ n.0;
        marks = number-same ignored.marks _ _ _ _ m.0;
        class = bytes-same ignored.class _ _ _ _ c.0;
        security = bytes-same ignored.security _ _ _ _ d.0;
        time = number-same ignored.time _ _ _ _ d.1;
        values = values-alike ignored.order path was.values is.values a.1;
        order = values-ordered ignored.order path was.values is.values a.1;
      }

  key-none : IsAlike ignored was is → NamesDiffer was.values → NamesDiffer is.values →
      field_changes ignored path was is ++ value_changes ignored.order path was.values is.values ≡ []
  unfolding field_changes
  key-none a apart apart_too =
      nothing-joined _ _
      (nothing-joined _ _ (name-none path was.name is.name a.name)
      (nothing-joined _ _ (number-none ignored.marks (codes "marks") path was.marks is.marks a.marks)
      (nothing-joined _ _ (bytes-none ignored.class (codes "class") path was.class is.class a.class)
      (nothing-joined _ _ (bytes-none ignored.security (codes "security") path was.descriptor is.descriptor a.security)
      (number-none ignored.time (codes "time") path was.time is.time a.time)))))
      (values-none path was.values is.values apart apart_too a.values ignored.order a.order)

alone : (side : Side) (path : List ℕ) (key : Rec) → whole_key side path key ≡ [] → ⊥
unfolding key_line
alone Old path key e = false≢true (ap is_nothing e)
alone New path key e = false≢true (ap is_nothing e)

-- where nothing is told of an old key, the new tree has one like it
old-alike : (ignored : Ignored) (path : List ℕ) (key : Rec) (found : Option Rec) → key_changes ignored Old path key found ≡ [] →
    IsAlikeThere ignored (Some key) found
old-alike ignored path key None e = absurd (alone Old path key e)
old-alike ignored path key (Some other) e = key-alike ignored path key other e

-- where nothing is told of a new key, the old tree has one there
new-none : (ignored : Ignored) (path : List ℕ) (key : Rec) (found : Option Rec) → key_changes ignored New path key found ≡ [] → found ≡ None → ⊥
new-none ignored path key None e none = alone New path key e
new-none ignored path key (Some other) e none = cc

-- nothing is told of keys that are alike
alike-none : (ignored : Ignored) (side : Side) (path : List ℕ) (key : Rec) (found : Option Rec) → NamesDiffer key.values →
    ((other : Rec) → found ≡ Some other → NamesDiffer other.values) → IsAlikeThere ignored (Some key) found →
    key_changes ignored side path key found ≡ []
alike-none ignored side path key None apart all a = absurd a
alike-none ignored Old path key (Some other) apart all a = key-none ignored path key other a apart (all other refl)
alike-none ignored New path key (Some other) apart all a = refl

there-none : (ignored : Ignored) (path : List ℕ) (key : Rec) (found : Option Rec) → IsAlikeThere ignored found (Some key) →
    key_changes ignored New path key found ≡ []
there-none ignored path key None a = absurd a
there-none ignored path key (Some other) a = refl

-- ---- a key with all below it

module _ (ignored : Ignored) (old new : Tree) (i : IsTree old) (w : IsWithinLimits old) (j : IsTree new) (v : IsWithinLimits new) (path : Path) where
  module _ (none : diff_text ignored old new path ≡ []) where
    both : (side_text ignored Old old new path ≡ []) × (side_text ignored New new old path ≡ [])
    unfolding diff_text
    both = nothing-both (side_text ignored Old old new path) (side_text ignored New new old path) none

    old-there : (rest : Path) (key : Rec) → get old (path ++ rest) ≡ Some key → IsAlikeThere ignored (Some key) (get new (path ++ rest))
    old-there rest key e =
        let f = all-told old i (λ (t : Told). told_changes ignored Old new t ≡ []) w path rest key e
        (each_none (told_changes ignored Old new) (keys_from old path) both.0) in
        subst (λ (q : Path). IsAlikeThere ignored (Some key) (get new q)) f.at
        (subst (λ (r : Rec). IsAlikeThere ignored (Some r) (get new (map folded f.told.names))) f.same
        (old-alike ignored (text_of f.told.names) f.told.key (get new (map folded f.told.names)) f.holds))

    new-there : (rest : Path) (key : Rec) → get new (path ++ rest) ≡ Some key → get old (path ++ rest) ≡ None → ⊥
    new-there rest key e gone =
        let f = all-told new j (λ (t : Told). told_changes ignored New old t ≡ []) v path rest key e
        (each_none (told_changes ignored New old) (keys_from new path) both.1) in
        new-none ignored (text_of f.told.names) f.told.key (get old (map folded f.told.names)) f.holds (ap (get old) f.at ∙ gone)

    at-rest : (rest : Path) (was is : Option Rec) → get old (path ++ rest) ≡ was → get new (path ++ rest) ≡ is → IsAlikeThere ignored was is
    at-rest rest (Some key) is e f = subst (λ (o : Option Rec). IsAlikeThere ignored (Some key) o) f (old-there rest key e)
    at-rest rest None None e f = tt
    at-rest rest None (Some key) e f = absurd (new-there rest key f e)

    pub trees-alike : AreAlike ignored old new path
    trees-alike rest = at-rest rest (get old (path ++ rest)) (get new (path ++ rest)) refl refl

  module _ (alike : AreAlike ignored old new path) where
    old-none : (told : Told) → IsToldIn old path told → told_changes ignored Old new told ≡ []
    old-none told is =
        let here : get old (path ++ is.rest) ≡ Some told.key = sym (ap (get old) is.below) ∙ is.key in
        alike-none ignored Old (text_of told.names) told.key (get new (map folded told.names)) (i.apart (map folded told.names) told.key is.key)
        (λ other e. j.apart (map folded told.names) other e)
        (subst (λ (q : Path). IsAlikeThere ignored (Some told.key) (get new q)) (sym is.below)
        (subst (λ (o : Option Rec). IsAlikeThere ignored o (get new (path ++ is.rest))) here (alike is.rest)))

    new-quiet : (told : Told) → IsToldIn new path told → told_changes ignored New old told ≡ []
    new-quiet told is =
        let here : get new (path ++ is.rest) ≡ Some told.key = sym (ap (get new) is.below) ∙ is.key in
        there-none ignored (text_of told.names) told.key (get old (map folded told.names))
        (subst (λ (q : Path). IsAlikeThere ignored (get old q) (Some told.key)) (sym is.below)
        (subst (λ (o : Option Rec). IsAlikeThere ignored (get old (path ++ is.rest)) o) here (alike is.rest)))

    all-none : (P Q : Told → Type 0) → ((t : Told) → P t → Q t) → (told : List Told) → AllByRecursion P told → AllByRecursion Q told
    all-none P Q f [] a = tt
    all-none P Q f (t ∷ told) a = (f t a.0, all-none P Q f told a.1)

    -- nothing is told of what is alike
    pub alike-nothing : IsSome (get old path) → IsSome (get new path) → diff_text ignored old new path ≡ []
    unfolding diff_text
    alike-nothing has has_too =
        nothing-joined (side_text ignored Old old new path) (side_text ignored New new old path)
        (none_told (told_changes ignored Old new) (keys_from old path)
        (all-none (IsToldIn old path) (λ (t : Told). told_changes ignored Old new t ≡ []) old-none (keys_from old path) (keys-there old i w path has)))
        (none_told (told_changes ignored New old) (keys_from new path)
        (all-none (IsToldIn new path) (λ (t : Told). told_changes ignored New old t ≡ []) new-quiet (keys_from new path)
        (keys-there new j v path has_too)))
