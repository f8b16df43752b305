-- A key against the other tree; and the whole text, which is empty just where nothing was told.
use Rattle.std.proofs.Common.{◌≡◌, ℕ, Bool, List, [], ◌∷◌, ◌++◌, length, Option, Some, None, IsSome, refl, sym, ap, ◌∙◌, subst, arith, length-append}
use Rattle.std.specs.Prelude.{◌↔◌}
use Rattle.std.specs.FinMap.{get}
use Rattle.reg_heap.specs.Paths.{Path, Tree, Rec}
use Rattle.reg_heap.specs.Edits.{values_of, values_at}
use Rattle.reg_heap.specs.Trees.{IsTree, IsWithinLimits, NamesDiffer}
use Rattle.reg_tree.specs.TreeKeys.{Keys, IsAt, IsResolved}
use Rattle.reg_tree.specs.declared.node.Node.{Node}
use Rattle.reg_tree_text.specs.Internal.Gathered.{WriterState, IsSoFar}
use Rattle.reg_diff.specs.declared.ignored.Ignored.{Ignored}
use Rattle.reg_diff.specs.declared.side.Side.{Side}
use Rattle.reg_diff.specs.declared.side.Side.TheVariants.{Old}
use Rattle.reg_diff.specs.Alike.{AreAlike}
use Rattle.reg_diff.specs.Differences.{whole_key, field_changes, value_changes, key_changes, diff_text}
use Rattle.reg_diff.proofs.SameTrees.{trees-alike, alike-nothing}

-- the names of a key's values differ
pub values-apart : (tree : Tree) (path : Path) → IsTree tree → NamesDiffer (values_at tree path)
values-apart tree path i = by (get tree path) refl
  where
    by : (o : Option Rec) → get tree path ≡ o → NamesDiffer (values_of o)
    by None e = tt
    by (Some r) e = i.apart path r e

-- ---- what a key is against the one that was found

pub resolved-none : (keys : Keys) (path : Path) (found : Option Node) → IsResolved keys path found → found ≡ None → get keys.tree path ≡ None
resolved-none keys path found r e = subst (λ (o : Option Node). IsResolved keys path o) e r

pub resolved-some : (keys : Keys) (path : Path) (found : Option Node) (node : Node) → IsResolved keys path found → found ≡ Some node →
    IsAt keys path node × IsSome (get keys.tree path)
resolved-some keys path found node r e = subst (λ (o : Option Node). IsResolved keys path o) e r

pub alone-said : (ignored : Ignored) (side : Side) (path : List ℕ) (key : Rec) (found : Option Rec) → found ≡ None →
    whole_key side path key ≡ key_changes ignored side path key found
alone-said ignored side path key found e = sym (ap (key_changes ignored side path key) e)

pub both-said : (ignored : Ignored) (side : Side) (path : List ℕ) (key other : Rec) (found : Option Rec) → side ≡ Old → found ≡ Some other →
    field_changes ignored path key other ++ value_changes ignored.order path key.values other.values ≡ key_changes ignored side path key found
both-said ignored side path key other found s e =
    sym (ap (λ (x : Side). key_changes ignored x path key found) s ∙ ap (key_changes ignored Old path key) e)

pub values-said : (is_ignored : Bool) (path : List ℕ) (old new : Tree) (p q : Path) (was is : Rec) → get old p ≡ Some was → get new q ≡ Some is →
    value_changes is_ignored path (values_at old p) (values_at new q) ≡ value_changes is_ignored path was.values is.values
values-said is_ignored path old new p q was is here there =
    ap (λ (o : Option Rec). value_changes is_ignored path (values_of o) (values_at new q)) here
    ∙ ap (λ (o : Option Rec). value_changes is_ignored path was.values (values_of o)) there

-- ---- nothing told

no-length : (xs : List ℕ) → length xs ≡ 0 → xs ≡ []
no-length [] e = refl
no-length (x ∷ xs) e = absurd (omega (arith, e))

empty-whole : (begin now : WriterState) (whole gathered : List ℕ) (written : ℕ) → IsSoFar begin now whole [] gathered written →
    written ≡ 0 → gathered ≡ [] → whole ≡ []
empty-whole begin now whole gathered written s z none =
    let long = ap length s.splits ∙ length-append s.sent (gathered ++ []) in
    let rest = length-append gathered [] in
    let some = ap length none in
    let n = s.counts in
    no-length whole (omega (arith, long, rest, some, n, z))

whole-empty : (begin now : WriterState) (whole gathered : List ℕ) (written : ℕ) → IsSoFar begin now whole [] gathered written →
    whole ≡ [] → (written ≡ 0) × (gathered ≡ [])
whole-empty begin now whole gathered written s none =
    let long = ap length s.splits ∙ length-append s.sent (gathered ++ []) in
    let rest = length-append gathered [] in
    let some = ap length none in
    let n = s.counts in
    (omega (arith, long, rest, some, n), no-length gathered (omega (arith, long, rest, some, n)))

-- they are alike just where nothing was written and nothing is gathered
pub same-says : (ignored : Ignored) (old new : Tree) → IsTree old → IsWithinLimits old → IsTree new → IsWithinLimits new → (path : Path) →
    IsSome (get old path) → IsSome (get new path) → (begin now : WriterState) (gathered : List ℕ) (written : ℕ) →
    IsSoFar begin now (diff_text ignored old new path) [] gathered written → {A : Type 0} →
    A ↔ ((written ≡ 0) × (gathered ≡ [])) → A ↔ AreAlike ignored old new path
same-says ignored old new i w j v path has has_too begin now gathered written s a = (
  λ x.
      let n = a.0 x in
      trees-alike ignored old new i w j v path (empty-whole begin now (diff_text ignored old new path) gathered written s n.0 n.1),
  λ e.
      a.1 (whole-empty begin now (diff_text ignored old new path) gathered written s (alike-nothing ignored old new i w j v path e has has_too)),
)
