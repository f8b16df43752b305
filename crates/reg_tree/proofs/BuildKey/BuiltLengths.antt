-- The largest lengths of each key, where a key was built below another.
use Rattle.std.proofs.Common.{◌≡◌, ◌≢◌, ℕ, Option, Some, None, List, [], ◌∷◌, ◌++◌, map, length, length-append, refl, sym, ap, ◌∙◌, subst, arith}
use Rattle.std.specs.Option.{option_map}
use Rattle.reg_names.specs.Names.{folded}
use Rattle.reg_heap.specs.Paths.{Path, Tree}
use Rattle.reg_heap.specs.Edits.{last_there, missing}
use Rattle.reg_arena.specs.Cells.{cell_at}
use Rattle.reg_security.specs.Rings.{DescriptorCells}
use Rattle.reg_shape.specs.Nodes.{Node}
use Rattle.reg_shape.specs.Internal.Forests.{Branch}
use Rattle.reg_tree.specs.declared.build.NewKey.{NewKey}
use Rattle.reg_tree.specs.declared.node.Node.{Node as TreeNode}
use Rattle.reg_tree.specs.BuiltKeys.{MayBuild}
use Rattle.reg_tree.specs.KeyLengths.{Lengths, lengths_at, with_first_length, with_key_lengths}
use Rattle.reg_tree.specs.TreeKeys.{tree_in}
use Rattle.reg_tree.specs.Internal.DescriptorChange.{IsDescribed}
use Rattle.reg_tree.specs.Internal.KeyBuilding.{with_class_length}
use Rattle.reg_tree.specs.Internal.KeyCreation.{IsGrownAll}
use Rattle.reg_tree.specs.Internal.LengthChanges.{LengthsChange, LengthsStay, MadeLengths}
use Rattle.reg_tree.specs.Internal.SpareCells.{StillStand}
use Rattle.reg_tree.specs.Internal.TreeInvariant.{IsHere}
use Rattle.reg_tree.proofs.BuildKey.OneName.{all-missing, last-there}

-- one change after another
twice : (f g : Lengths → Lengths) (o : Option Lengths) → option_map f (option_map g o) ≡ option_map (λ l. f (g l)) o
twice f g None = refl
twice f g (Some l) = refl

-- what is below a path is another one
below-apart : (path : Path) (front : List (List ℕ)) → front ≢ [] → path ++ map folded front ≢ path
below-apart path [] some e = absurd (some refl)
below-apart path (x ∷ front) some e = let l = length-append path (folded x ∷ map folded front) in let n = ap length e in absurd (omega (arith, l, n))

-- made, its class noted above, marked, and described
module _ (old mid next marked new : List ℕ) (parent node : TreeNode) (t : IsHere old parent.offset) (key : NewKey) (time : ℕ) (last left : List ℕ)
    (g : IsGrownAll old mid t.root t.path (key.name.now ∷ []) time t.holds.ring last parent node) (may : MayBuild (tree_in old t.root) t.path key.name.now)
    {one two : Tree} (s : StillStand (cell_at mid) (cell_at next) t.root t.holds.ring last one)
    (noted : LengthsChange (cell_at mid) (cell_at next) t.root t.path (with_class_length (length key.class.now)))
    (m : StillStand (cell_at next) (cell_at marked) t.root t.holds.ring left two) (stay : LengthsStay (cell_at next) (cell_at marked) t.root)
    {path : Path} {keys : Branch Node} {table : DescriptorCells} {descriptor : List ℕ} {moment : ℕ}
    (d : IsDescribed marked new t.root path keys t.holds.ring table descriptor moment) where
  abbrev names : List (List ℕ)
  names = key.name.now ∷ []

  -- the name is all that is missing, and the parent the last that is there
  missing-is : missing (tree_in old t.root) t.path names ≡ names
  missing-is = all-missing (tree_in old t.root) t.path key.name.now may

  last-is : last_there (tree_in old t.root) t.path names ≡ t.path
  last-is = last-there (tree_in old t.root) t.path key.name.now may

  made-lengths : LengthsChange (cell_at old) (cell_at mid) t.root t.path (with_first_length names)
  made-lengths =
      subst (λ p. LengthsChange (cell_at old) (cell_at mid) t.root p (with_first_length names)) last-is
      (subst (λ missing. LengthsChange (cell_at old) (cell_at mid) t.root (last_there (tree_in old t.root) t.path names) (with_first_length missing)) missing-is g.lengths)

  made-noted : MadeLengths (cell_at mid) t.root t.path names
  made-noted =
      subst (λ p. MadeLengths (cell_at mid) t.root p names) last-is
      (subst (λ missing. MadeLengths (cell_at mid) t.root (last_there (tree_in old t.root) t.path names) missing) missing-is g.noted)

  -- the parent's were raised, and each other key's stay
  pub lengths-built : LengthsChange (cell_at old) (cell_at new) t.root t.path (with_key_lengths (length key.name.now) (length key.class.now))
  lengths-built = record {
    here = λ o e. (
        let at = g.keeps t.path o e in
        let at_next = s.offsets t.path ∙ at in
        let at_then = m.offsets t.path ∙ at_next in
        d.lengths t.path o at_then
        ∙ (stay t.path o at_next at_then
        ∙ (noted.here o at
        ∙ (ap (option_map (with_class_length (length key.class.now))) (made-lengths.here o e)
        ∙ twice (with_class_length (length key.class.now)) (with_first_length names) (lengths_at (cell_at old) o)))));
    others = λ q o other e. (
        let at = g.keeps q o e in
        let at_next = s.offsets q ∙ at in
        let at_then = m.offsets q ∙ at_next in
        d.lengths q o at_then ∙ (stay q o at_next at_then ∙ (noted.others q o other at ∙ made-lengths.others q o other e)));
  }

  -- the key that was built notes none
  pub made-built : MadeLengths (cell_at new) t.root t.path names
  made-built front back o parts some found =
      let q = t.path ++ map folded front in
      let at_then = sym (d.offsets q) ∙ found in
      let at_next = sym (m.offsets q) ∙ at_then in
      let at = sym (s.offsets q) ∙ at_next in
      d.lengths q o at_then
      ∙ (stay q o at_next at_then
      ∙ (noted.others q o (below-apart t.path front some) at
      ∙ made-noted front back o parts some at))
