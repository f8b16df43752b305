-- The entries of the changes from one tree to another, imported into the old one: the keys and values of the new one.
use Rattle.std.proofs.Common.{◌≡◌, ℕ, ◌&&◌, Bool, true, false, is_some, List, [], ◌∷◌, map, Option, Some, None, refl, sym, ap, ◌∙◌, subst}
use Rattle.std.proofs.Common.{◌⊎◌, inl, inr}
use Rattle.std.specs.List.{AllByRecursion}
use Rattle.std.specs.FinMap.{get}
use Rattle.reg_names.specs.Names.{folded}
use Rattle.reg_heap.specs.Paths.{Path, Tree, Rec, Member}
use Rattle.reg_heap.specs.Members.{value_named}
use Rattle.reg_heap.specs.Edits.{values_of, values_at}
use Rattle.reg_heap.specs.Trees.{IsTree, IsWithinLimits}
use Rattle.reg_tree_text.specs.DumpTexts.{Told, keys_told}
use Rattle.reg_diff.proofs.ToldKeys.{IsToldIn}
use Rattle.reg_dotreg_writer.specs.Changes.{changes_of, changes}
use Rattle.reg_dotreg_writer.specs.declared.side.Side.TheVariants.{Old, New}
use Rattle.reg_dotreg_import.specs.Imports.{Stand, begun, imported}
use Rattle.reg_dotreg_law.specs.ChangesDue.{changes_due}
use Rattle.reg_dotreg_law.specs.MadeAgain.{HasAlike}
use Rattle.reg_dotreg_law.proofs.ToldOfTrees.{told-there, told-at}
use Rattle.reg_dotreg_law.proofs.RunsOver.{runs, keeps, way-end, each-hit}
use Rattle.reg_dotreg_law.proofs.ToldValues.{val, kept}
use Rattle.reg_dotreg_law.proofs.ToldBlocks.{changed_by, changed-append, told_by, side-runs}
use Rattle.reg_dotreg_law.proofs.OldSide.{IsThere, old-tree, old-has-goes, old-has-hit, old-val-goes, old-val-hit}
use Rattle.reg_dotreg_law.proofs.NewSide.{new-tree, new-has-goes, new-has-hit, new-val-goes, new-val-hit}

-- ---- the keys that are told of a tree

are-there : (tree : Tree) (all : List Told) → AllByRecursion (IsToldIn tree []) all → AllByRecursion (IsThere tree) all
are-there tree [] a = tt
are-there tree (told ∷ all) a = (record { names = a.0.names; key = a.0.key }, are-there tree all a.1)

all-there : (tree : Tree) → IsTree tree → IsWithinLimits tree → AllByRecursion (IsThere tree) (keys_told tree)
all-there tree i w = are-there tree (keys_told tree) (told-there tree i w)

-- ---- what is looked at, once all were made

module _ (tree : Tree) (i : IsTree tree) (w : IsWithinLimits tree) (run : Stand → Told → Stand)
    (keep : (s : Stand) (told : Told) → IsThere tree told → IsTree s.tree → IsTree (run s told).tree) where
  all-tree : (s : Stand) → IsTree s.tree → IsTree (runs Told run s (keys_told tree)).tree
  all-tree s is = keeps Told run (IsThere tree) (λ (u : Stand). IsTree u.tree) keep (keys_told tree) (all-there tree i w) s is

  module _ (A : Type 0) (p : Path) (look : Stand → A) (first last : A)
      (goes : (s : Stand) (told : Told) → IsThere tree told → IsTree s.tree → (look s ≡ first) ⊎ (look s ≡ last) →
      (look (run s told) ≡ look s) ⊎ (look (run s told) ≡ last))
      (hit : (s : Stand) (told : Told) → IsThere tree told → IsTree s.tree → (look s ≡ first) ⊎ (look s ≡ last) →
      map folded told.names ≡ p → look (run s told) ≡ last)
      (absent : get tree p ≡ None → first ≡ last) where
    all-looked : (s : Stand) → IsTree s.tree → look s ≡ first → look (runs Told run s (keys_told tree)) ≡ last
    all-looked s is begins = by (get tree p) refl
      where
        none : first ≡ last → (look (runs Told run s (keys_told tree)) ≡ first) ⊎ (look (runs Told run s (keys_told tree)) ≡ last) →
            look (runs Told run s (keys_told tree)) ≡ last
        none e (inl f) = f ∙ e
        none e (inr l) = l

        by : (o : Option Rec) → get tree p ≡ o → look (runs Told run s (keys_told tree)) ≡ last
        by None e =
            none (absent e) (way-end Told A run (IsThere tree) (λ (told : Told). map folded told.names ≡ p)
            (λ (u : Stand). IsTree u.tree) look first last keep goes (keys_told tree) (all-there tree i w) s is (inl begins))
        by (Some key) e =
            let found =
            told-at tree i w (λ (told : Told). map folded told.names ≡ p → look (runs Told run s (keys_told tree)) ≡ last) p key e
            (each-hit Told A run (IsThere tree) (λ (told : Told). map folded told.names ≡ p) (λ (u : Stand). IsTree u.tree) look first last
            keep goes hit (keys_told tree) (all-there tree i w) s is (inl begins)) in
            found.holds found.at

-- ---- the old tree's keys, and then the new one's

module _ (moment : ℕ) (old new : Tree) (i : IsTree old) (w : IsWithinLimits old) (j : IsTree new) (v : IsWithinLimits new) where
  abbrev lost : Stand
  lost = runs Told (told_by moment Old new) (begun old) (keys_told old)

  abbrev whole : Stand
  whole = runs Told (told_by moment New old) lost (keys_told new)

  whole-is : imported moment old (changes_due old new) ≡ whole.tree
  unfolding changes
  whole-is =
      ap (λ (s : Stand). s.tree)
      (changed-append moment (changes_of Old old new) (changes_of New new old) (begun old)
      ∙ (ap (λ (s : Stand). changed_by moment s (changes_of New new old)) (side-runs moment Old new (keys_told old) (begun old))
      ∙ side-runs moment New old (keys_told new) lost))

  lost-tree : IsTree lost.tree
  lost-tree = all-tree old i w (told_by moment Old new) (old-tree moment old new i j) (begun old) i

  pub changes-tree : IsTree (imported moment old (changes_due old new))
  changes-tree =
      subst IsTree (sym whole-is) (all-tree new j v (told_by moment New old) (new-tree moment old new i j) lost lost-tree)

  module _ (p : Path) where
    abbrev has : Stand → Bool
    has s = is_some (get s.tree p)

    abbrev had : Bool
    had = is_some (get old p)

    abbrev is_there : Bool
    is_there = is_some (get new p)

    lost-has : has lost ≡ (had && is_there)
    lost-has =
        all-looked old i w (told_by moment Old new) (old-tree moment old new i j) Bool p has had (had && is_there)
        (old-has-goes moment old new i j p) (old-has-hit moment old new i j p)
        (λ e. ap (λ (o : Option Rec). is_some o) e ∙ sym (ap (λ (o : Option Rec). is_some o && is_there) e)) (begun old) i refl

    and-false : (b : Bool) → (b && false) ≡ false
    and-false true = refl
    and-false false = refl

    whole-has : has whole ≡ is_there
    whole-has =
        all-looked new j v (told_by moment New old) (new-tree moment old new i j) Bool p has (had && is_there) is_there
        (new-has-goes moment old new i j p) (new-has-hit moment old new i j p)
        (λ e. ap (λ (o : Option Rec). had && is_some o) e ∙ (and-false had ∙ sym (ap (λ (o : Option Rec). is_some o) e)))
        lost lost-tree lost-has

    module _ (n : List ℕ) where
      abbrev was : Option Member
      was = value_named n (values_at old p)

      abbrev is : Option Member
      is = value_named n (values_at new p)

      lost-val : val moment n p lost ≡ kept was is
      lost-val =
          all-looked old i w (told_by moment Old new) (old-tree moment old new i j) (Option Member) p (val moment n p) was (kept was is)
          (old-val-goes moment old new i j p n) (old-val-hit moment old new i j p n)
          (λ e. ap (λ (o : Option Rec). value_named n (values_of o)) e
          ∙ sym (ap (λ (o : Option Rec). kept (value_named n (values_of o)) is) e)) (begun old) i refl

      kept-nothing : (x : Option Member) → kept x None ≡ None
      kept-nothing None = refl
      kept-nothing (Some m) = refl

      whole-val : val moment n p whole ≡ is
      whole-val =
          all-looked new j v (told_by moment New old) (new-tree moment old new i j) (Option Member) p (val moment n p) (kept was is) is
          (new-val-goes moment old new i j p n) (new-val-hit moment old new i j p n)
          (λ e. ap (λ (o : Option Rec). kept was (value_named n (values_of o))) e
          ∙ (kept-nothing was ∙ sym (ap (λ (o : Option Rec). value_named n (values_of o)) e))) lost lost-tree lost-val

  pub changes-made : HasAlike (imported moment old (changes_due old new)) new
  changes-made = record {
    keys = λ path. ap (λ (t : Tree). is_some (get t path)) whole-is ∙ whole-has path;
    values = λ path name. ap (λ (t : Tree). value_named name (values_at t path)) whole-is ∙ whole-val path name;
  }
