-- Values that were read are within the limits, and no two of them have one name.
use Rattle.std.proofs.Common.{◌≡◌, ℕ, zero, suc, not, Bool, true, false, Some, Ok, List, [], ◌∷◌, ◌++◌, take, slice_get, sym}
use Rattle.std.proofs.Common.{ap, ◌∙◌, subst, refl}
use Rattle.std.proofs.lemmas.Option.{none-some, same_Some}
use Rattle.std.proofs.lemmas.List.{append_assoc}
use Rattle.reg_heap.specs.Paths.{Member}
use Rattle.reg_heap.specs.Trees.{IsSmallValue}
use Rattle.reg_tree_image.specs.declared.LoadFault.TheVariants.{Twice}
use Rattle.reg_tree_image.specs.WalkSteps.{Seen, check}
use Rattle.reg_tree_image.specs.Images.{nothing}
use Rattle.reg_tree_image.specs.Internal.NamesMet.{is_among}
use Rattle.reg_tree_image.specs.Internal.FitKeys.{IsOther, AreNew}

-- a name that was not met
pub name-other : (before : List Member) (name read : List ℕ) → name ≡ read →
    ((seen : Seen) → check Twice (not (is_among name before)) seen ≡ Ok (tt, seen)) → IsOther before read
name-other before name read same g = ap (λ name. is_among name before) (sym same) ∙ by (is_among name before) (g nothing)
  where
    by : (b : Bool) → check Twice (not b) nothing ≡ Ok (tt, nothing) → b ≡ false
    by true e = absurd (cc)
    by false e = refl

append-none : (ms : List Member) → ms ++ [] ≡ ms
append-none [] = refl
append-none (m ∷ ms) = ap (λ ms. m ∷ ms) (append-none ms)

-- one more behind them
pub new-push : (members before : List Member) (m : Member) → AreNew before members → IsSmallValue m → IsOther (before ++ members) m.name →
    AreNew before (members ++ m ∷ [])
new-push [] before m a s o = (s, subst (λ ms. IsOther ms m.name) (append-none before) o, tt)
new-push (x ∷ members) before m a s o =
    (a.0, a.1, new-push members (before ++ x ∷ []) m a.2 s (subst (λ ms. IsOther ms m.name) (sym (append_assoc before (x ∷ []) members)) o))

-- one of them
pub new-behind : (members before : List Member) → AreNew before members → (index : ℕ) (m : Member) → slice_get members index ≡ Some m →
    IsSmallValue m × IsOther (before ++ take index members) m.name
new-behind [] before a index m e = absurd (none-some _ e)
new-behind (x ∷ members) before a zero m e =
    subst (λ (m : Member). IsSmallValue m × IsOther (before ++ []) m.name) (same_Some _ _ e)
    (a.0, subst (λ ms. IsOther ms x.name) (sym (append-none before)) a.1)
new-behind (x ∷ members) before a (suc i) m e =
    let r = new-behind members (before ++ x ∷ []) a.2 i m e in
    (r.0, subst (λ ms. IsOther ms m.name) (append_assoc before (x ∷ []) (take i members)) r.1)

-- ---- the first of them, and those behind these

pub new-front : (front back before : List Member) → AreNew before (front ++ back) → AreNew before front
new-front [] back before a = tt
new-front (m ∷ front) back before a = (a.0, a.1, new-front front back (before ++ m ∷ []) a.2)

pub new-back : (front back before : List Member) → AreNew before (front ++ back) → AreNew (before ++ front) back
new-back [] back before a = subst (λ ms. AreNew ms back) (sym (append-none before)) a
new-back (m ∷ front) back before a =
    subst (λ ms. AreNew ms back) (append_assoc before (m ∷ []) front) (new-back front back (before ++ m ∷ []) a.2)
