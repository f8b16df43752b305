-- Values read one after another, and compared.
use Rattle.std.proofs.Common.{◌≡◌, ℕ, ◌+◌, ◌≤◌, ◌&&◌, Bool, true, false, List, ◌∷◌, ◌++◌, length, drop, refl, sym, ap, ◌∙◌}
use Rattle.std.specs.Prelude.{flat_map}
use Rattle.std.proofs.lemmas.List.{drop_all}
use Rattle.reg_heap.specs.Paths.{Member}
use Rattle.reg_tree_text.specs.Internal.Gathered.{WriterState, IsSoFar}
use Rattle.reg_tree_text.proofs.SentTexts.{opened, swapped}
use Rattle.reg_diff.specs.Differences.{same_member, same_members}
use Rattle.reg_diff.specs.Internal.Parts.{is_nothing}
use Rattle.reg_diff.proofs.SameValues.{nothing-append}

-- ---- two lists compared

pub same-next : (was is : List Member) (index : ℕ) (a b : Member) → drop index was ≡ a ∷ drop (index + 1) was →
    drop index is ≡ b ∷ drop (index + 1) is → same_members was is ≡ same_members (drop index was) (drop index is) →
    same_members was is ≡ (same_member a b && same_members (drop (index + 1) was) (drop (index + 1) is))
same-next was is index a b e f s =
    s ∙ (ap (λ (x : List Member). same_members x (drop index is)) e
    ∙ ap (λ (x : List Member). same_members (a ∷ drop (index + 1) was) x) f)

pub same-pair : (a b m n : Member) (test value : Bool) → a ≡ m → b ≡ n → test ≡ same_member a b → test ≡ value → same_member m n ≡ value
same-pair a b m n test value e f t v =
    sym (t ∙ (ap (λ (x : Member). same_member x b) e ∙ ap (λ (x : Member). same_member m x) f)) ∙ v

-- ---- lines of values told one after another

pub line-next : (f : Member → List ℕ) (values : List Member) (index : ℕ) (begin now : WriterState) (whole left gathered : List ℕ) (written : ℕ) →
    (m : Member) → drop index values ≡ m ∷ drop (index + 1) values →
    IsSoFar begin now whole (flat_map f (drop index values) ++ left) gathered written →
    IsSoFar begin now whole (f m ++ (flat_map f (drop (index + 1) values) ++ left)) gathered written
line-next f values index begin now whole left gathered written m e s =
    opened begin now whole (f m) (flat_map f (drop (index + 1) values)) left gathered written
    (swapped begin now whole _ _ left gathered written s (sym (ap (flat_map f) e)))

-- whether nothing was told so far
pub quiet-next : (f : Member → List ℕ) (values : List Member) (index : ℕ) (m : Member) (quiet now : Bool) →
    drop index values ≡ m ∷ drop (index + 1) values →
    is_nothing (flat_map f values) ≡ (quiet && is_nothing (flat_map f (drop index values))) → now ≡ is_nothing (f m) →
    is_nothing (flat_map f values) ≡ ((quiet && now) && is_nothing (flat_map f (drop (index + 1) values)))
quiet-next f values index m quiet now e s n =
    s ∙ (ap (λ (x : List Member). quiet && is_nothing (flat_map f x)) e
    ∙ (ap (λ (b : Bool). quiet && b) (nothing-append (f m) (flat_map f (drop (index + 1) values)))
    ∙ (ap (λ (b : Bool). quiet && (b && is_nothing (flat_map f (drop (index + 1) values)))) (sym n)
    ∙ by quiet now (is_nothing (flat_map f (drop (index + 1) values))))))
  where
    by : (a b c : Bool) → (a && (b && c)) ≡ ((a && b) && c)
    by true b c = refl
    by false b c = refl

and-true : (b : Bool) → (b && true) ≡ b
and-true true = refl
and-true false = refl

pub quiet-all : (f : Member → List ℕ) (values : List Member) (index : ℕ) (quiet : Bool) → length values ≤ index →
    is_nothing (flat_map f values) ≡ (quiet && is_nothing (flat_map f (drop index values))) → quiet ≡ is_nothing (flat_map f values)
quiet-all f values index quiet l s =
    sym (s ∙ (ap (λ (x : List Member). quiet && is_nothing (flat_map f x)) (drop_all index values l) ∙ and-true quiet))
