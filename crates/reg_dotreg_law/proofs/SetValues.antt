-- Values set one after another, whose names differ: the list of them.
use Rattle.std.proofs.Common.{◌≡◌, ◌≢◌, ℕ, Bool, true, false, cond, List, [], ◌∷◌, ◌++◌, map, Some, refl, sym, ap, ◌∙◌, subst, append_assoc, append-nil}
use Rattle.std.specs.List.{AllByRecursion}
use Rattle.std.specs.Ordering.{is_eq}
use Rattle.std.specs.declared.cmp.Ordering.{Ordering}
use Rattle.std.specs.declared.cmp.Ordering.TheVariants.{Less, Equal, Greater}
use Rattle.std.specs.FinMap.{slice_cmp-IsAntisymmetric, nat_cmp-IsAntisymmetric}
use Rattle.std.proofs.lemmas.Bool.{false≢true}
use Rattle.reg_names.specs.Names.{folded, name_cmp}
use Rattle.reg_heap.specs.Paths.{Path, Rec, Member}
use Rattle.reg_heap.specs.Members.{same_name, values_with}
use Rattle.reg_heap.specs.Edits.{with_value}
use Rattle.reg_heap.specs.Trees.{NamesDiffer}
use Rattle.reg_heap.proofs.ChildrenOfPath.{path-is}
use Rattle.reg_model.proofs.HandleInvariant.{same-self}
use Rattle.reg_dotreg_import.specs.Imports.{Stand, after_entry, after_entries}
use Rattle.reg_dotreg_law.specs.EntriesDue.{entry_of_value}
use Rattle.reg_dotreg_law.proofs.SeenKeys.{Seen, seen, is_same, found-of, seen-edited}

-- ---- a value with a new name

equal : (o : Ordering) → is_eq o ≡ true → o ≡ Equal
equal Less e = absurd (false≢true e)
equal Equal e = refl
equal Greater e = absurd (false≢true e)

other-name : (a b : List ℕ) → folded a ≢ folded b → same_name a b ≡ false
other-name a b ne = by (same_name a b) refl
  where
    by : (same : Bool) → same_name a b ≡ same → same_name a b ≡ false
    by true e = absurd (ne (slice_cmp-IsAntisymmetric nat_cmp-IsAntisymmetric (folded a) (folded b) (equal (name_cmp a b) e)))
    by false e = e

abbrev AreApart : List Member → Member → Type 0
AreApart ws v = AllByRecursion (λ (w : Member). folded w.name ≢ folded v.name) ws

set-new : (ws : List Member) (v : Member) → AreApart ws v → values_with v.name v.kind v.bytes ws ≡ ws ++ v ∷ []
set-new [] v a = refl
set-new (w ∷ ws) v a =
    ap (λ (b : Bool). cond b (record { name = w.name; kind = v.kind; bytes = v.bytes } ∷ ws) (w ∷ values_with v.name v.kind v.bytes ws))
    (other-name w.name v.name a.0)
    ∙ ap (λ (x : List Member). w ∷ x) (set-new ws v a.1)

at-place : (P : Member → Type 0) (ws : List Member) (v : Member) (vs : List Member) → AllByRecursion P (ws ++ v ∷ vs) → P v
at-place P [] v vs a = a.0
at-place P (w ∷ ws) v vs a = at-place P ws v vs a.1

front-apart : (ws : List Member) (v : Member) (vs : List Member) → NamesDiffer (ws ++ v ∷ vs) → AreApart ws v
front-apart [] v vs d = tt
front-apart (w ∷ ws) v vs d = (at-place (λ (x : Member). folded w.name ≢ folded x.name) ws v vs d.0, front-apart ws v vs d.1)

-- ---- values in turn

pub cond-twice : {A : Type 0} (b : Bool) (x y z : A) → cond b x (cond b y z) ≡ cond b x z
cond-twice true x y z = refl
cond-twice false x y z = refl

pub at-itself : {A : Type 0} (p : Path) (x y : A) → cond (is_same p p) x y ≡ x
at-itself p x y = ap (λ (b : Bool). cond b x y) (same-self p)

-- what is seen at each path, once some values are set at one where others are
abbrev AreSet : ℕ → List Member → Stand → List ℕ → List Member → Path → Type 0
AreSet moment vs s name ws q =
    seen (after_entries moment s (map entry_of_value vs)).tree q ≡ cond (is_same q s.here) (Some (name, ws ++ vs)) (seen s.tree q)

none-set : (s : Stand) (name : List ℕ) (ws : List Member) (q : Path) → seen s.tree s.here ≡ Some (name, ws) → (b : Bool) → is_same q s.here ≡ b →
    seen s.tree q ≡ cond b (Some (name, ws)) (seen s.tree q)
none-set s name ws q e true same = subst (λ (x : Path). seen s.tree x ≡ Some (name, ws)) (sym (path-is q s.here same)) e
none-set s name ws q e false other = refl

one-set : (moment : ℕ) (v : Member) (s : Stand) (name : List ℕ) (ws : List Member) → seen s.tree s.here ≡ Some (name, ws) → AreApart ws v →
    (q : Path) → seen (after_entry moment s (entry_of_value v)).tree q ≡ cond (is_same q s.here) (Some (name, ws ++ v ∷ [])) (seen s.tree q)
one-set moment v s name ws e a q =
    let found = found-of _ name ws e in
    let r : Rec = found.0 in
    let set : values_with v.name v.kind v.bytes r.values ≡ ws ++ v ∷ [] = ap (values_with v.name v.kind v.bytes) found.3 ∙ set-new ws v a in
    seen-edited s.tree s.here (with_value v.name v.kind v.bytes moment) r q found.1
    ∙ (ap (λ (n : List ℕ). cond (is_same q s.here) (Some (n, values_with v.name v.kind v.bytes r.values)) (seen s.tree q)) found.2
    ∙ ap (λ (x : List Member). cond (is_same q s.here) (Some (name, x)) (seen s.tree q)) set)

pub values-set : (moment : ℕ) (vs : List Member) (s : Stand) (name : List ℕ) (ws : List Member) → seen s.tree s.here ≡ Some (name, ws) →
    NamesDiffer (ws ++ vs) → (q : Path) → AreSet moment vs s name ws q
values-set moment [] s name ws e d q =
    none-set s name ws q e (is_same q s.here) refl
    ∙ ap (λ (x : List Member). cond (is_same q s.here) (Some (name, x)) (seen s.tree q)) (sym (append-nil ws))
values-set moment (v ∷ vs) s name ws e d q =
    let next : Stand = after_entry moment s (entry_of_value v) in
    let longer : (ws ++ v ∷ []) ++ vs ≡ ws ++ v ∷ vs = append_assoc ws (v ∷ []) vs in
    let one = one-set moment v s name ws e (front-apart ws v vs d) in
    let here : seen next.tree s.here ≡ Some (name, ws ++ v ∷ []) = one s.here ∙ at-itself s.here (Some (name, ws ++ v ∷ [])) (seen s.tree s.here) in
    values-set moment vs next name (ws ++ v ∷ []) here (subst NamesDiffer (sym longer) d) q
    ∙ (ap (λ (x : List Member). cond (is_same q s.here) (Some (name, x)) (seen next.tree q)) longer
    ∙ (ap (λ (x : Seen). cond (is_same q s.here) (Some (name, ws ++ v ∷ vs)) x) (one q)
    ∙ cond-twice (is_same q s.here) (Some (name, ws ++ v ∷ vs)) (Some (name, ws ++ v ∷ [])) (seen s.tree q)))
