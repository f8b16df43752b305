-- The value of a name, once a value was set or removed.
use Rattle.std.proofs.Common.{◌≡◌, ◌≢◌, ℕ, Bool, true, false, cond, List, [], ◌∷◌, Option, Some, None, refl, sym, ap, ◌∙◌, subst}
use Rattle.std.specs.List.{AllByRecursion}
use Rattle.std.specs.Ordering.{nat_cmp, is_eq}
use Rattle.std.specs.declared.cmp.Ordering.{Ordering}
use Rattle.std.specs.declared.cmp.Ordering.TheVariants.{Less, Equal, Greater}
use Rattle.std.specs.Cmp.Lexicographic.{slice_cmp, nat_list_cmp_total}
use Rattle.std.specs.FinMap.{slice_cmp-IsAntisymmetric, nat_cmp-IsAntisymmetric}
use Rattle.std.proofs.lemmas.Bool.{false≢true}
use Rattle.std.proofs.lemmas.Cmp.{tied_itself}
use Rattle.std.proofs.lemmas.Option.{same_Some}
use Rattle.reg_names.specs.Names.{folded, name_cmp}
use Rattle.reg_heap.specs.Paths.{Member}
use Rattle.reg_heap.specs.Members.{same_name, value_named, values_with, values_without}
use Rattle.reg_heap.specs.Trees.{NamesDiffer}
use Rattle.reg_dotreg_law.proofs.ChildPaths.{no-true}

-- ---- names that are the same after folding

equal : (o : Ordering) → is_eq o ≡ true → o ≡ Equal
equal Less e = absurd (false≢true e)
equal Equal e = refl
equal Greater e = absurd (false≢true e)

pub same-folded : (a b : List ℕ) → same_name a b ≡ true → folded a ≡ folded b
same-folded a b e = slice_cmp-IsAntisymmetric nat_cmp-IsAntisymmetric (folded a) (folded b) (equal (name_cmp a b) e)

pub folded-same : (a b : List ℕ) → folded a ≡ folded b → same_name a b ≡ true
folded-same a b e = rw (e, tied_itself nat_list_cmp_total (folded b)) refl

-- the one name may stand for the other in a comparison
pub name-for : (a b c : List ℕ) → folded a ≡ folded b → same_name a c ≡ same_name b c
name-for a b c e = ap (λ (f : List ℕ). is_eq (slice_cmp nat_cmp f (folded c))) e

pub named-same : (a b : List ℕ) (vs : List Member) → folded a ≡ folded b → value_named a vs ≡ value_named b vs
named-same a b [] e = refl
named-same a b (v ∷ vs) e =
    ap (λ (f : List ℕ). cond (is_eq (slice_cmp nat_cmp (folded v.name) f)) (Some v) (value_named a vs)) e
    ∙ ap (λ (x : Option Member). cond (same_name v.name b) (Some v) x) (named-same a b vs e)

-- ---- a value that was found

pub picked-value : (P : Member → Type 0) (n : List ℕ) (vs : List Member) (m : Member) → value_named n vs ≡ Some m → AllByRecursion P vs →
    P m × (same_name m.name n ≡ true)
picked-value P n [] m e a = absurd (cc)
picked-value P n (v ∷ vs) m e a = by (same_name v.name n) refl e (λ f. picked-value P n vs m f a.1)
  where
    by : (b : Bool) → same_name v.name n ≡ b → cond b (Some v) (value_named n vs) ≡ Some m →
        (value_named n vs ≡ Some m → P m × (same_name m.name n ≡ true)) → P m × (same_name m.name n ≡ true)
    by true t f rest = subst (λ (x : Member). P x × (same_name x.name n ≡ true)) (same_Some v m f) (a.0, t)
    by false t f rest = rest f

none-named : (n : List ℕ) (v : Member) (vs : List Member) → folded v.name ≡ folded n →
    AllByRecursion (λ (w : Member). folded v.name ≢ folded w.name) vs → value_named n vs ≡ None
none-named n v [] f a = refl
none-named n v (w ∷ vs) f a =
    ap (λ (b : Bool). cond b (Some w) (value_named n vs)) (no-true (same_name w.name n) (λ e. a.0 (f ∙ sym (same-folded w.name n e))))
    ∙ none-named n v vs f a.1

-- ---- a value removed

pub without-same : (name n : List ℕ) (vs : List Member) → NamesDiffer vs → folded name ≡ folded n →
    value_named n (values_without name vs) ≡ None
without-same name n [] d f = refl
without-same name n (v ∷ vs) d f = by (same_name v.name name) refl (without-same name n vs d.1 f)
  where
    by : (b : Bool) → same_name v.name name ≡ b → value_named n (values_without name vs) ≡ None →
        value_named n (cond b vs (v ∷ values_without name vs)) ≡ None
    by true e rest = none-named n v vs (same-folded v.name name e ∙ f) d.0
    by false e rest =
        ap (λ (b : Bool). cond b (Some v) (value_named n (values_without name vs)))
        (no-true (same_name v.name n) (λ t. false≢true (sym e ∙ folded-same v.name name (same-folded v.name n t ∙ sym f))))
        ∙ rest

pub without-other : (name n : List ℕ) (vs : List Member) → same_name name n ≡ false →
    value_named n (values_without name vs) ≡ value_named n vs
without-other name n [] o = refl
without-other name n (v ∷ vs) o = by (same_name v.name name) refl (without-other name n vs o)
  where
    by : (b : Bool) → same_name v.name name ≡ b → value_named n (values_without name vs) ≡ value_named n vs →
        value_named n (cond b vs (v ∷ values_without name vs)) ≡ value_named n (v ∷ vs)
    by true e rest =
        sym (ap (λ (b : Bool). cond b (Some v) (value_named n vs)) (name-for v.name name n (same-folded v.name name e) ∙ o))
    by false e rest = ap (λ (x : Option Member). cond (same_name v.name n) (Some v) x) rest

-- ---- a value set

-- the name that a value keeps, or is given
abbrev pub spelt : Option Member → List ℕ → List ℕ
spelt None name = name
spelt (Some m) name = m.name

module _ (name : List ℕ) (kind : ℕ) (bytes n : List ℕ) where
  abbrev pub put : List ℕ → Member
  put given = record { name = given; kind = kind; bytes = bytes }

  pub with-same : (vs : List Member) → folded name ≡ folded n →
      value_named n (values_with name kind bytes vs) ≡ Some (put (spelt (value_named n vs) name))
  with-same [] f = ap (λ (b : Bool). cond b (Some (put name)) None) (folded-same name n f)
  with-same (v ∷ vs) f = by (same_name v.name name) refl (with-same vs f)
    where
      by : (b : Bool) → same_name v.name name ≡ b →
          value_named n (values_with name kind bytes vs) ≡ Some (put (spelt (value_named n vs) name)) →
          value_named n (cond b (put v.name ∷ vs) (v ∷ values_with name kind bytes vs)) ≡ Some (put (spelt (value_named n (v ∷ vs)) name))
      by true e rest =
          let t : same_name v.name n ≡ true = folded-same v.name n (same-folded v.name name e ∙ f) in
          ap (λ (b : Bool). cond b (Some (put v.name)) (value_named n vs)) t
          ∙ sym (ap (λ (b : Bool). Some (put (spelt (cond b (Some v) (value_named n vs)) name))) t)
      by false e rest =
          let t : same_name v.name n ≡ false =
          no-true (same_name v.name n) (λ s. false≢true (sym e ∙ folded-same v.name name (same-folded v.name n s ∙ sym f))) in
          ap (λ (b : Bool). cond b (Some v) (value_named n (values_with name kind bytes vs))) t
          ∙ (rest ∙ sym (ap (λ (b : Bool). Some (put (spelt (cond b (Some v) (value_named n vs)) name))) t))

  pub with-other : (vs : List Member) → same_name name n ≡ false → value_named n (values_with name kind bytes vs) ≡ value_named n vs
  with-other [] o = ap (λ (b : Bool). cond b (Some (put name)) None) o
  with-other (v ∷ vs) o = by (same_name v.name name) refl (with-other vs o)
    where
      by : (b : Bool) → same_name v.name name ≡ b → value_named n (values_with name kind bytes vs) ≡ value_named n vs →
          value_named n (cond b (put v.name ∷ vs) (v ∷ values_with name kind bytes vs)) ≡ value_named n (v ∷ vs)
      by true e rest =
          let t : same_name v.name n ≡ false = name-for v.name name n (same-folded v.name name e) ∙ o in
          ap (λ (b : Bool). cond b (Some (put v.name)) (value_named n vs)) t ∙ sym (ap (λ (b : Bool). cond b (Some v) (value_named n vs)) t)
      by false e rest = ap (λ (x : Option Member). cond (same_name v.name n) (Some v) x) rest
