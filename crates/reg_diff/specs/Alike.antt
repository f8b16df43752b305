-- Which trees differ at most in what is ignored, and what became of comparing them (this project's own).
use Rattle.std.specs.Prelude.{◌≡◌, ◌↔◌, ℕ, Bool, true, false, List, ◌++◌, Option, Some, None, ⊤}
use Rattle.std.specs.FinMap.{get}
use Rattle.std.specs.Io.KnownBytes.{Appends}
use Rattle.reg_heap.specs.Paths.{Path, Tree, Rec}
use Rattle.reg_heap.specs.Members.{value_named}
use Rattle.reg_text.specs.Failures.{Stays}
use Rattle.reg_tree_text.specs.DumpFronts.{IsStopped, IsBlamed}
use Rattle.reg_tree_text.specs.PathQueries.{key_at}
use Rattle.reg_diff.specs.Differences.{diff_text}
use Rattle.reg_diff.specs.declared.ignored.Ignored.{Ignored}
use Rattle.reg_diff.specs.declared.fault.BranchFault.{BranchFault}
use Rattle.reg_diff.specs.declared.fault.BranchFault.TheVariants.{NoOldKey, NoNewKey, Stopped}

-- what is to hold unless it's ignored
abbrev pub Unless : (is_ignored : Bool) → Type 0 → Type 0
Unless true claim = ⊤
Unless false claim = claim

-- two keys that differ at most in what is ignored: each name has the same value in both, or none, and unless the order is ignored, the values
-- stand in the same one
pub record IsAlike (ignored : Ignored) (was is : Rec) : Type 0 where
  pub name : was.name ≡ is.name
  pub marks : Unless ignored.marks (was.marks ≡ is.marks)
  pub class : Unless ignored.class (was.class ≡ is.class)
  pub security : Unless ignored.security (was.descriptor ≡ is.descriptor)
  pub time : Unless ignored.time (was.time ≡ is.time)
  pub values : (name : List ℕ) → value_named name was.values ≡ value_named name is.values
  pub order : Unless ignored.order (was.values ≡ is.values)

-- of two trees at one path: both have such keys, or none has one
abbrev pub IsAlikeThere : Ignored → Option Rec → Option Rec → Type 0
IsAlikeThere ignored None None = ⊤
IsAlikeThere ignored (Some was) (Some is) = IsAlike ignored was is
IsAlikeThere ignored was is = ⊥

-- two trees that are so at a path and everywhere below it
abbrev pub AreAlike : Ignored → (old new : Tree) → Path → Type 0
AreAlike ignored old new path = (rest : Path) → IsAlikeThere ignored (get old (path ++ rest)) (get new (path ++ rest))

-- both trees have the key that a text leads to, how they differ there was written, and it was answered whether they are alike
pub record IsCompared (ignored : Ignored) (old new : Tree) (text : List ℕ) (is_same : Bool) (before after : Option (List ℕ)) : Type 0 where
  pub path : Path
  pub old_key : key_at old text ≡ Some path
  pub new_key : key_at new text ≡ Some path
  pub written : Appends before after (diff_text ignored old new path)
  pub same : (is_same ≡ true) ↔ AreAlike ignored old new path

-- why they weren't compared, or not to the end: the old tree has no such key, or else the new one has none, and nothing was written; or a
-- front of the text was
abbrev pub CompareStops : BranchFault → Ignored → (old new : Tree) → (text : List ℕ) → (before after : Option (List ℕ)) → Type 0
CompareStops NoOldKey ignored old new text before after = (key_at old text ≡ None) × (after ≡ before)
CompareStops NoNewKey ignored old new text before after =
    (path : Path) × (key_at old text ≡ Some path) × (key_at new text ≡ None) × (after ≡ before)
CompareStops (Stopped fault) ignored old new text before after =
    (path : Path) × (key_at old text ≡ Some path) × (key_at new text ≡ Some path)
    × IsStopped before after (diff_text ignored old new path) fault

-- whether the writer failed: where a write stopped it, just once, and else never
abbrev pub CompareBlames : BranchFault → Option ℕ → Option ℕ → Type 0
CompareBlames NoOldKey before after = Stays before after
CompareBlames NoNewKey before after = Stays before after
CompareBlames (Stopped fault) before after = IsBlamed fault before after
