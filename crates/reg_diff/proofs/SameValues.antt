-- Lists of values that are the same, but for their order where that is ignored, and what is told of them.
use Rattle.std.proofs.Common.{◌≡◌, ◌≢◌, ℕ, ◌==◌, ◌&&◌, Bool, true, false, cond, List, [], ◌∷◌, ◌++◌, Option, Some, None, refl, sym, ap, ◌∙◌, subst}
use Rattle.std.specs.Prelude.{flat_map, bytes_eq}
use Rattle.std.specs.Bool.{Decides}
use Rattle.std.specs.List.{AllByRecursion}
use Rattle.std.proofs.lemmas.Bool.{and_parts, and_from, false≢true}
use Rattle.std.proofs.lemmas.Bool.Decides.{Decides-eqb}
use Rattle.std.proofs.lemmas.Map.Text.{is_eq-slice_cmp}
use Rattle.std.proofs.lemmas.Slice.Eq.{bytes_eq-Decides, slice_eq-Decides}
use Rattle.reg_names.specs.Names.{folded}
use Rattle.reg_heap.specs.Paths.{Member}
use Rattle.reg_heap.specs.Members.{same_name, value_named}
use Rattle.reg_heap.specs.Trees.{NamesDiffer}
use Rattle.reg_diff.specs.Differences.{same_member, same_members, lost_here, come_here, lost_line, come_line, lost_values}
use Rattle.reg_diff.specs.Differences.{come_values, order_line, order_change, value_line, value_change, value_changes}
use Rattle.reg_diff.specs.Alike.{Unless}
use Rattle.reg_diff.specs.Internal.Parts.{is_nothing}

-- ---- texts of nothing

pub nothing_is : (text : List ℕ) → is_nothing text ≡ true → text ≡ []
nothing_is [] e = refl
nothing_is (letter ∷ letters) e = absurd (false≢true e)

pub nothing-both : (a b : List ℕ) → a ++ b ≡ [] → (a ≡ []) × (b ≡ [])
nothing-both [] b e = (refl, e)
nothing-both (letter ∷ a) b e = absurd (false≢true (ap is_nothing e))

pub nothing-joined : (a b : List ℕ) → a ≡ [] → b ≡ [] → a ++ b ≡ []
nothing-joined a b e f = ap (λ (t : List ℕ). t ++ b) e ∙ f

pub nothing-append : (a b : List ℕ) → is_nothing (a ++ b) ≡ (is_nothing a && is_nothing b)
nothing-append [] b = refl
nothing-append (letter ∷ a) b = refl

pub none_told : {A : Type 0} (f : A → List ℕ) (xs : List A) → AllByRecursion (λ (x : A). f x ≡ []) xs → flat_map f xs ≡ []
none_told f [] a = refl
none_told f (x ∷ xs) a = ap (λ (t : List ℕ). t ++ flat_map f xs) a.0 ∙ none_told f xs a.1

pub each_none : {A : Type 0} (f : A → List ℕ) (xs : List A) → flat_map f xs ≡ [] → AllByRecursion (λ (x : A). f x ≡ []) xs
each_none f [] e = tt
each_none f (x ∷ xs) e = let both = nothing-both (f x) (flat_map f xs) e in (both.0, each_none f xs both.1)

-- ---- the same values

member_of_parts : (a b : Member) → a.name ≡ b.name → a.kind ≡ b.kind → a.bytes ≡ b.bytes → a ≡ b
member_of_parts a b n k y =
    ap (λ (x : List ℕ). record { name = x; kind = a.kind; bytes = a.bytes }) n
    ∙ (ap (λ (x : ℕ). record { name = b.name; kind = x; bytes = a.bytes }) k
    ∙ ap (λ (x : List ℕ). record { name = b.name; kind = b.kind; bytes = x }) y)

pub same_member-Decides : (a b : Member) → Decides (same_member a b) (a ≡ b)
same_member-Decides a b = (
  λ e.
      let first = and_parts (bytes_eq a.name b.name) (a.kind == b.kind && bytes_eq a.bytes b.bytes) e in
      let second = and_parts (a.kind == b.kind) (bytes_eq a.bytes b.bytes) first.1 in
      member_of_parts a b ((bytes_eq-Decides a.name b.name).0 first.0) ((Decides-eqb a.kind b.kind).0 second.0)
      ((bytes_eq-Decides a.bytes b.bytes).0 second.1),
  λ e.
      and_from _ _ ((bytes_eq-Decides a.name b.name).1 (ap (λ (m : Member). m.name) e))
      (and_from _ _ ((Decides-eqb a.kind b.kind).1 (ap (λ (m : Member). m.kind) e))
      ((bytes_eq-Decides a.bytes b.bytes).1 (ap (λ (m : Member). m.bytes) e))),
)

pub same_members-Decides : (was is : List Member) → Decides (same_members was is) (was ≡ is)
same_members-Decides was is = slice_eq-Decides same_member-Decides was is (same_members was is) refl

-- ---- each value of a list is found by its name

same-itself : (name : List ℕ) → same_name name name ≡ true
same-itself name = is_eq-slice_cmp (folded name) (folded name) ∙ (bytes_eq-Decides (folded name) (folded name)).1 refl

pub other-name : (a b : List ℕ) → folded a ≢ folded b → same_name a b ≡ false
other-name a b differ = by (same_name a b) refl
  where
    by : (t : Bool) → same_name a b ≡ t → same_name a b ≡ false
    by true e = absurd (differ ((bytes_eq-Decides (folded a) (folded b)).0 (sym (is_eq-slice_cmp (folded a) (folded b)) ∙ e)))
    by false e = e

behind : (v : Member) (vs ws : List Member) → AllByRecursion (λ (w : Member). folded v.name ≢ folded w.name) ws →
    AllByRecursion (λ (w : Member). value_named w.name vs ≡ Some w) ws → AllByRecursion (λ (w : Member). value_named w.name (v ∷ vs) ≡ Some w) ws
behind v vs [] d a = tt
behind v vs (w ∷ ws) d a =
    (ap (λ (t : Bool). cond t (Some v) (value_named w.name vs)) (other-name v.name w.name d.0) ∙ a.0, behind v vs ws d.1 a.1)

pub named-itself : (vs : List Member) → NamesDiffer vs → AllByRecursion (λ (v : Member). value_named v.name vs ≡ Some v) vs
named-itself [] d = tt
named-itself (v ∷ vs) d =
    (ap (λ (t : Bool). cond t (Some v) (value_named v.name vs)) (same-itself v.name), behind v vs vs d.0 (named-itself vs d.1))

-- ---- nothing is told of lists in which each name has the same value

mapped : {A : Type 0} (P Q : A → Type 0) → ((x : A) → P x → Q x) → (xs : List A) → AllByRecursion P xs → AllByRecursion Q xs
mapped P Q f [] a = tt
mapped P Q f (x ∷ xs) a = (f x a.0, mapped P Q f xs a.1)

pub unless : (is_ignored : Bool) {A : Type 0} → A → Unless is_ignored A
unless true a = tt
unless false a = a

order-quiet : (is_ignored : Bool) (path : List ℕ) (was is : List Member) → Unless is_ignored (was ≡ is) → order_change is_ignored path [] was is ≡ []
order-quiet true path was is same = refl
order-quiet false path was is same = ap (λ (b : Bool). cond b [] (order_line path)) ((same_members-Decides was is).1 same)

module _ (path : List ℕ) (was is : List Member) (apart : NamesDiffer was) (apart_too : NamesDiffer is)
    (same : (name : List ℕ) → value_named name was ≡ value_named name is) where
  lost-none : lost_values path was is ≡ []
  lost-none =
      none_told (lost_line path is) was
      (mapped (λ (v : Member). value_named v.name was ≡ Some v) (λ (v : Member). lost_line path is v ≡ [])
      (λ v e. ap (lost_here path v) (sym (same v.name) ∙ e)
      ∙ ap (λ (b : Bool). cond b [] (value_change path v v)) ((same_member-Decides v v).1 refl)) was
      (named-itself was apart))

  come-none : come_values path was is ≡ []
  come-none =
      none_told (come_line path was) is
      (mapped (λ (v : Member). value_named v.name is ≡ Some v) (λ (v : Member). come_line path was v ≡ [])
      (λ v e. ap (come_here path v) (same v.name ∙ e)) is (named-itself is apart_too))

  pub values-none : (is_ignored : Bool) → Unless is_ignored (was ≡ is) → value_changes is_ignored path was is ≡ []
  unfolding value_changes
  values-none is_ignored order =
      let told = nothing-joined (lost_values path was is) (come_values path was is) lost-none come-none in
      ap (λ (t : List ℕ). t ++ order_change is_ignored path t was is) told ∙ order-quiet is_ignored path was is order

-- and the same for two lists that are one
pub same-none : (is_ignored : Bool) (path : List ℕ) (was is : List Member) → NamesDiffer was → same_members was is ≡ true →
    value_changes is_ignored path was is ≡ []
same-none is_ignored path was is differ e =
    subst (λ (vs : List Member). value_changes is_ignored path was vs ≡ []) ((same_members-Decides was is).0 e)
    (values-none path was was differ differ (λ _. refl) is_ignored (unless is_ignored refl))

-- ---- where nothing is told, each name has the same value

no-line : (path : List ℕ) (b : Bool) → cond b [] (order_line path) ≡ [] → b ≡ true
unfolding order_line
no-line path true e = refl
no-line path false e = absurd (false≢true (ap is_nothing e))

order-none : (is_ignored : Bool) (path told : List ℕ) (was is : List Member) → told ≡ [] →
    told ++ order_change is_ignored path told was is ≡ [] → Unless is_ignored (was ≡ is)
order-none true path told was is none e = tt
order-none false path [] was is none e = (same_members-Decides was is).0 (no-line path (same_members was is) e)
order-none false path (letter ∷ told) was is none e = absurd (false≢true (ap is_nothing none))

no-change : (path : List ℕ) (was is : Member) (b : Bool) → cond b [] (value_change path was is) ≡ [] → b ≡ true
unfolding value_change
no-change path was is true e = refl
no-change path was is false e = absurd (false≢true (ap is_nothing e))

-- an old value of which nothing is told stands in the new key
kept : (path : List ℕ) (was : Member) (found : Option Member) → lost_here path was found ≡ [] → found ≡ Some was
unfolding value_line
kept path was None e = absurd (false≢true (ap is_nothing e))
kept path was (Some is) e =
    ap (λ (m : Member). Some m) (sym ((same_member-Decides was is).0 (no-change path was is (same_member was is) e)))

-- and of a new one the old key has one of its name
known : (path : List ℕ) (is : Member) (found : Option Member) → come_here path is found ≡ [] → found ≡ None → ⊥
unfolding value_line
known path is None e none = false≢true (ap is_nothing e)
known path is (Some was) e none = cc

same-folded : (a b : List ℕ) → same_name a b ≡ true → folded a ≡ folded b
same-folded a b e = (bytes_eq-Decides (folded a) (folded b)).0 (sym (is_eq-slice_cmp (folded a) (folded b)) ∙ e)

-- names that are the same after folding have one value
renamed : (a b : List ℕ) → folded a ≡ folded b → (vs : List Member) → value_named a vs ≡ value_named b vs
renamed a b e [] = refl
renamed a b e (v ∷ vs) =
    let test : same_name v.name a ≡ same_name v.name b =
    is_eq-slice_cmp (folded v.name) (folded a)
    ∙ (ap (λ (f : List ℕ). bytes_eq (folded v.name) f) e ∙ sym (is_eq-slice_cmp (folded v.name) (folded b))) in
    ap (λ (t : Bool). cond t (Some v) (value_named a vs)) test
    ∙ ap (λ (o : Option Member). cond (same_name v.name b) (Some v) o) (renamed a b e vs)

-- what holds of all holds of the one that has a name
named-in : (P : Member → Type 0) (name : List ℕ) (vs : List Member) (v : Member) → AllByRecursion P vs → value_named name vs ≡ Some v →
    P v × (folded v.name ≡ folded name)
named-in P name [] v a e = absurd cc
named-in P name (x ∷ vs) v a e = by (same_name x.name name) refl e (named-in P name vs v a.1)
  where
    one : ◌≡◌ {A = Option Member} (Some x) (Some v) → x ≡ v
    one f = cc

    by : (b : Bool) → same_name x.name name ≡ b → cond b (Some x) (value_named name vs) ≡ Some v →
        (value_named name vs ≡ Some v → P v × (folded v.name ≡ folded name)) → P v × (folded v.name ≡ folded name)
    by true s f later = subst (λ (m : Member). P m × (folded m.name ≡ folded name)) (one f) (a.0, same-folded x.name name s)
    by false s f later = later f

module _ (is_ignored : Bool) (path : List ℕ) (was is : List Member) (none : value_changes is_ignored path was is ≡ []) where
  abbrev told : List ℕ
  told = lost_values path was is ++ come_values path was is

  untold : told ≡ []
  unfolding value_changes
  untold = (nothing-both told (order_change is_ignored path told was is) none).0

  all-kept : AllByRecursion (λ (v : Member). value_named v.name is ≡ Some v) was
  all-kept =
      mapped (λ (v : Member). lost_line path is v ≡ []) (λ (v : Member). value_named v.name is ≡ Some v)
      (λ v e. kept path v (value_named v.name is) e) was
      (each_none (lost_line path is) was (nothing-both (lost_values path was is) (come_values path was is) untold).0)

  all-known : AllByRecursion (λ (v : Member). value_named v.name was ≡ None → ⊥) is
  all-known =
      mapped (λ (v : Member). come_line path was v ≡ []) (λ (v : Member). value_named v.name was ≡ None → ⊥)
      (λ v e. known path v (value_named v.name was) e) is
      (each_none (come_line path was) is (nothing-both (lost_values path was is) (come_values path was is) untold).1)

  pub values-alike : (name : List ℕ) → value_named name was ≡ value_named name is
  values-alike name = by (value_named name was) (value_named name is) refl refl
    where
      by : (o p : Option Member) → value_named name was ≡ o → value_named name is ≡ p → o ≡ p
      by (Some v) p e f =
          let n = named-in (λ (m : Member). value_named m.name is ≡ Some m) name was v all-kept e in
          sym n.0 ∙ (renamed v.name name n.1 is ∙ f)
      by None None e f = refl
      by None (Some v) e f =
          let n = named-in (λ (m : Member). value_named m.name was ≡ None → ⊥) name is v all-known f in
          absurd (n.0 (renamed v.name name n.1 was ∙ e))

  pub values-ordered : Unless is_ignored (was ≡ is)
  unfolding value_changes
  values-ordered = order-none is_ignored path told was is untold none
