-- The entries of keys that were written out by hand, and trees with the root alone.
use Rattle.std.proofs.Common.{◌≡◌, ℕ, List, [], ◌∷◌, is_some, Option, refl, sym, ap, ◌∙◌}
use Rattle.std.specs.Prelude.{codes, flat_map}
use Rattle.std.specs.FinMap.{get-from_sorted, from_sorted}
use Rattle.reg_heap.specs.Paths.{Tree, Rec, Member, path_cmp}
use Rattle.reg_heap.specs.Edits.{values_of}
use Rattle.reg_tree_text.specs.DumpTexts.{Told}
use Rattle.reg_dotreg_reader.specs.declared.entry.Entry.TheVariants.{Key, Value}
use Rattle.reg_dotreg_law.specs.EntriesDue.{entries_of_key}
use Rattle.reg_dotreg_law.specs.MadeAgain.{IsBare}

abbrev key : List ℕ → List Member → Rec
key name values = record { name = name; marks = 0; class = []; descriptor = 5 ∷ []; time = 7; values = values }

-- ---- entries

abbrev number : Member
number = record { name = codes "v"; kind = 4; bytes = 1 ∷ 0 ∷ 0 ∷ 0 ∷ [] }

abbrev default : Member
default = record { name = []; kind = 1; bytes = 72 ∷ 0 ∷ 0 ∷ 0 ∷ [] }

abbrev root : Told
root = record { names = codes "Root" ∷ []; key = key (codes "Root") [] }

abbrev deep : Told
deep = record { names = codes "Root" ∷ codes "a" ∷ codes "B c" ∷ []; key = key (codes "B c") (number ∷ default ∷ []) }

-- the root is the key of the empty path
of-root : entries_of_key root ≡ Key [] ∷ []
of-root = refl

-- a key by its path below the root, and its values in their order
of-deep : entries_of_key deep ≡ Key (codes "a\\B c") ∷ Value (codes "v") 4 (1 ∷ 0 ∷ 0 ∷ 0 ∷ []) ∷ Value [] 1 (72 ∷ 0 ∷ 0 ∷ 0 ∷ []) ∷ []
of-deep = refl

of-both : flat_map entries_of_key (root ∷ deep ∷ []) ≡ Key [] ∷ entries_of_key deep
of-both = refl

-- ---- trees with the root alone

abbrev alone : List Member → Tree
alone values = from_sorted (([], key (codes "R") values) ∷ [])

root-alone : IsBare (alone [])
root-alone = record {
  root = ap (λ (o : Option Rec). is_some o) (get-from_sorted path_cmp (([], key (codes "R") []) ∷ []) [] tt);
  values = ap values_of (get-from_sorted path_cmp (([], key (codes "R") []) ∷ []) [] tt);
  alone = λ name rest. get-from_sorted path_cmp (([], key (codes "R") []) ∷ []) (name ∷ rest) tt;
}

-- one with a value isn't
root-valued : IsBare (alone (number ∷ [])) → ⊥
root-valued b =
    let some : number ∷ [] ≡ [] = sym (ap values_of (get-from_sorted path_cmp (([], key (codes "R") (number ∷ [])) ∷ []) [] tt)) ∙ b.values in
    absurd (cc)
