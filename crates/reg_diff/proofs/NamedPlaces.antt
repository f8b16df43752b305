-- A value that has a name at one place of a list in which names differ is the one of that name.
use Rattle.std.proofs.Common.{◌≡◌, ◌≢◌, ℕ, zero, suc, Bool, true, cond, List, [], ◌∷◌, Option, Some, sym, ap, subst, ◌∙◌}
use Rattle.std.specs.Prelude.{slice_get, option_map}
use Rattle.std.specs.List.{AllByRecursion}
use Rattle.std.proofs.lemmas.Slice.Eq.{bytes_eq-Decides}
use Rattle.std.proofs.lemmas.Map.Text.{is_eq-slice_cmp}
use Rattle.reg_names.specs.Names.{folded}
use Rattle.reg_heap.specs.Paths.{Path, Tree, Member}
use Rattle.reg_heap.specs.Edits.{values_at}
use Rattle.reg_heap.specs.Members.{same_name, index_named}
use Rattle.reg_heap.specs.Trees.{IsTree, NamesDiffer}
use Rattle.reg_diff.proofs.SameValues.{other-name}
use Rattle.reg_diff.proofs.SideSteps.{values-apart}

same-name : (a b : List ℕ) → folded a ≡ folded b → same_name a b ≡ true
same-name a b e = is_eq-slice_cmp (folded a) (folded b) ∙ (bytes_eq-Decides (folded a) (folded b)).1 e

one-value : (v m : Member) → ◌≡◌ {A = Option Member} (Some v) (Some m) → v ≡ m
one-value v m e = cc

-- what holds of all holds of the one at a place
at-place : (P : Member → Type 0) (vs : List Member) (i : ℕ) (m : Member) → AllByRecursion P vs → slice_get vs i ≡ Some m → P m
at-place P [] i m a e = absurd cc
at-place P (v ∷ vs) zero m a e = subst P (one-value v m e) a.0
at-place P (v ∷ vs) (suc i) m a e = at-place P vs i m a.1 e

index-at : (name : List ℕ) (vs : List Member) (i : ℕ) (m : Member) → NamesDiffer vs → slice_get vs i ≡ Some m → folded m.name ≡ folded name →
    index_named name vs ≡ Some i
index-at name [] i m d e same = absurd cc
index-at name (v ∷ vs) zero m d e same =
    ap (λ (b : Bool). cond b (Some 0) (option_map suc (index_named name vs)))
    (same-name v.name name (ap (λ (w : Member). folded w.name) (one-value v m e) ∙ same))
index-at name (v ∷ vs) (suc i) m d e same =
    let differs = at-place (λ (w : Member). folded v.name ≢ folded w.name) vs i m d.0 e in
    ap (λ (b : Bool). cond b (Some 0) (option_map suc (index_named name vs))) (other-name v.name name (λ alike. differs (alike ∙ sym same)))
    ∙ ap (λ (o : Option ℕ). option_map suc o) (index-at name vs i m d.1 e same)

-- the same of a key's values
pub placed : (tree : Tree) (path : Path) (name : List ℕ) (index : ℕ) → IsTree tree →
    ((member : Member) × (slice_get (values_at tree path) index ≡ Some member) × (folded member.name ≡ folded name)) →
    Some index ≡ index_named name (values_at tree path)
placed tree path name index is there =
    sym (index-at name (values_at tree path) index there.0 (values-apart tree path is) there.1 there.2)
