-- The entries that a tree's keys stand for are the same, whatever stands for the root's name.
use Rattle.std.proofs.Common.{◌≡◌, ℕ, zero, suc, ◌+◌, List, [], ◌∷◌, ◌++◌, Option, Some, None, refl, sym, ap, ◌∙◌}
use Rattle.std.specs.Prelude.{flat_map}
use Rattle.std.specs.FinMap.{get}
use Rattle.std.proofs.lemmas.List.Concat.{flat_map-append}
use Rattle.reg_names.specs.declared.TheConstants.{PATH_LIMIT}
use Rattle.reg_heap.specs.Paths.{Path, Tree, Rec, children_of}
use Rattle.reg_tree_text.specs.DumpTexts.{Told, name_of, told_here, told_from}
use Rattle.reg_dotreg_writer.specs.Entries.{names_behind, keys_from}
use Rattle.reg_dotreg_reader.specs.declared.entry.Entry.{Entry}
use Rattle.reg_dotreg_law.specs.EntriesDue.{entries_of_key, entries_below}

module _ (tree : Tree) (a b : List ℕ) where
  -- the keys at or below one, of so many levels, below that root
  abbrev told : ℕ → List ℕ → List (List ℕ) → Path → List Told
  told levels root names path = told_from levels tree (root ∷ names) path

  abbrev told_child : ℕ → List ℕ → List (List ℕ) → Path → List Told
  told_child levels root names child = told levels root (names ++ name_of (get tree child) ∷ []) child

  abbrev due : List Told → List Entry
  due all = flat_map entries_of_key all

  abbrev IsSame : ℕ → Type 0
  IsSame levels = (names : List (List ℕ)) (path : Path) → due (told levels a names path) ≡ due (told levels b names path)

  here-same : (names : List (List ℕ)) (found : Option Rec) → due (told_here (a ∷ names) found) ≡ due (told_here (b ∷ names) found)
  here-same names None = refl
  here-same names (Some key) = refl

  both-same : (xs ys zs ws : List Told) → due xs ≡ due ys → due zs ≡ due ws → due (xs ++ zs) ≡ due (ys ++ ws)
  both-same xs ys zs ws e f =
      flat_map-append entries_of_key xs zs
      ∙ (ap (λ (x : List Entry). x ++ due zs) e ∙ (ap (λ (x : List Entry). due ys ++ x) f ∙ sym (flat_map-append entries_of_key ys ws)))

  below-same : (levels : ℕ) → IsSame levels → (names : List (List ℕ)) (children : List Path) →
      due (flat_map (told_child levels a names) children) ≡ due (flat_map (told_child levels b names) children)
  below-same levels each names [] = refl
  below-same levels each names (child ∷ children) =
      both-same (told_child levels a names child) (told_child levels b names child) (flat_map (told_child levels a names) children)
      (flat_map (told_child levels b names) children) (each (names ++ name_of (get tree child) ∷ []) child) (below-same levels each names children)

  all-same : (levels : ℕ) → IsSame levels
  unfolding told_from
  all-same zero names path = refl
  all-same (suc levels) names path =
      both-same (told_here (a ∷ names) (get tree path)) (told_here (b ∷ names) (get tree path))
      (flat_map (told_child levels a names) (children_of tree path)) (flat_map (told_child levels b names) (children_of tree path))
      (here-same names (get tree path)) (below-same levels (all-same levels) names (children_of tree path))

pub due-below : (root : List ℕ) (tree : Tree) (path : Path) → flat_map entries_of_key (keys_from root tree path) ≡ entries_below tree path
unfolding keys_from
due-below root tree path = all-same tree root (name_of (get tree [])) (PATH_LIMIT + 1) (names_behind tree [] path) path
