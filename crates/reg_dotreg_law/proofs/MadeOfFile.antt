-- The file of a tree's keys from one on, read and applied to a tree of the root alone.
use Rattle.std.proofs.Common.{◌≡◌, ℕ, Bool, true, List, [], Option, IsSome, refl, sym, subst}
use Rattle.std.specs.FinMap.{get}
use Rattle.reg_names.specs.Names.{folded}
use Rattle.reg_heap.specs.Paths.{Path, Tree}
use Rattle.reg_heap.specs.Trees.{IsTree, IsWithinLimits}
use Rattle.reg_dotreg_writer.specs.Entries.{root_shown, can_stand, CanWrite, entries_text}
use Rattle.reg_dotreg_reader.specs.declared.entry.Entry.{Entry}
use Rattle.reg_dotreg_import.specs.Imports.{imported, entries_of}
use Rattle.reg_tree.specs.ValueBytes.{IsOfBytes}
use Rattle.reg_dotreg_law.specs.MadeAgain.{IsBare, HasSameBelow}
use Rattle.reg_dotreg_law.proofs.AnyBranch.{branch-again, whole-root}
use Rattle.reg_dotreg_law.specs.ReadBack.{IsReadBack}
use Rattle.reg_dotreg_law.specs.MadeOfFiles.{IsBranchOfFile, IsMadeOfFile}
use Rattle.reg_dotreg_law.proofs.ReadTrees.{tree-back, tree-file}

pub branch-of_file : (is_utf8 : Bool) (tree bare : Tree) (path : Path) (front : Option (List ℕ)) (name : List ℕ) (moment : ℕ) → IsTree tree →
    IsWithinLimits tree → IsOfBytes tree → IsSome (get tree path) → can_stand front ≡ true → CanWrite (root_shown front tree) tree path →
    IsBare bare → folded name ≡ folded (root_shown front tree) → IsBranchOfFile is_utf8 tree path front name bare moment
branch-of_file is_utf8 tree bare path front name moment i w o there stands can b same =
    let shown : List ℕ = root_shown front tree in
    let r : IsReadBack name shown tree path = tree-back name shown tree path same i w o there can in (
      imported moment bare (entries_of r.0),
      (entries_text shown tree path, r.0, tree-file is_utf8 tree path front i w o there stands can, r.1, refl),
      subst (λ (es : List Entry). HasSameBelow (imported moment bare es) tree path) (sym r.2) (branch-again tree i w moment bare b path there),
    )

pub made-of_file : (is_utf8 : Bool) (tree bare : Tree) (front : Option (List ℕ)) (name : List ℕ) (moment : ℕ) → IsTree tree → IsWithinLimits tree →
    IsOfBytes tree → can_stand front ≡ true → CanWrite (root_shown front tree) tree [] → IsBare bare → folded name ≡ folded (root_shown front tree) →
    IsMadeOfFile is_utf8 tree front name bare moment
made-of_file is_utf8 tree bare front name moment i w o stands can b same =
    let m : IsBranchOfFile is_utf8 tree [] front name bare moment =
    branch-of_file is_utf8 tree bare [] front name moment i w o i.root stands can b same in
    (m.0, m.1, whole-root m.0 tree m.2)
