-- What stands for the root's name, a front or the name itself, and what an export with it says.
use Rattle.std.proofs.Common.{◌≡◌, ℕ, ◌<◌, Bool, true, false, not, nat_lt, nat_le, ◌==◌, ◌&&◌, List, [], ◌∷◌, length, Option, Some, None, refl}
use Rattle.std.proofs.Common.{sym, ap, subst, arith, inl, inr}
use Rattle.std.specs.FinMap.{get}
use Rattle.std.specs.List.{list_all}
use Rattle.std.specs.Option.{option_map}
use Rattle.std.specs.Io.KnownBytes.{Appends}
use Rattle.std.proofs.lemmas.Bool.{and_parts, and_from, false≢true}
use Rattle.reg_names.specs.declared.TheConstants.{KEY_NAME_LIMIT}
use Rattle.reg_names.specs.Names.{is_value_name_byte, is_key_name_byte, is_key_name, text_of}
use Rattle.reg_heap.specs.Paths.{Tree}
use Rattle.reg_heap.specs.Trees.{IsTree, IsWithinLimits}
use Rattle.reg_heap.specs.Edits.{folded_path}
use Rattle.reg_tree.specs.declared.node.Node.{Node}
use Rattle.reg_tree.specs.TreeKeys.{Keys}
use Rattle.reg_tree.proofs.Invariant.CellReadings.{some_of}
use Rattle.reg_tree_text.specs.declared.fault.DumpFault.{DumpFault}
use Rattle.reg_tree_text.specs.declared.fault.DumpFault.TheVariants.{Memory}
use Rattle.reg_tree_text.specs.DumpFronts.{IsStopped}
use Rattle.reg_tree_text.specs.DumpTexts.{Told, name_of}
use Rattle.reg_tree_text.specs.PathQueries.{IsKeyFound}
use Rattle.reg_tree_text.proofs.WalkSteps.{name-some}
use Rattle.reg_dotreg_writer.specs.Entries.{root_shown, entries_text, file_bytes, is_line_name, begins_path, is_front, can_stand, CanWrite, unwritable}
use Rattle.reg_dotreg_writer.specs.Exports.{IsExported, IsUnwritable, IsCutOff}
use Rattle.reg_dotreg_writer.proofs.FileSteps.{found_at, none_unwritable, first_unwritable, nothing_yet}

-- ---- a front, or the root's name

key-allowed : (name : List ℕ) → list_all is_key_name_byte name ≡ true → list_all is_value_name_byte name ≡ true
key-allowed [] e = refl
key-allowed (b ∷ name) e =
    let both = and_parts (is_key_name_byte b) (list_all is_key_name_byte name) e in
    and_from (is_value_name_byte b) (list_all is_value_name_byte name) (and_parts (is_value_name_byte b) (not (b == 92)) both.0).0
    (key-allowed name both.1)

name-allowed : (name : List ℕ) → is_key_name name ≡ true → list_all is_value_name_byte name ≡ true
name-allowed name e =
    key-allowed name (and_parts (list_all is_key_name_byte name) (nat_lt 0 (length name))
    (and_parts (list_all is_key_name_byte name && nat_lt 0 (length name)) (nat_le (length name) KEY_NAME_LIMIT) e).0).0

-- what stands for the root's name has a character, and all are of the profile
pub record IsGood (root : List ℕ) : Type 0 where
  pub some : 0 < length root
  pub allowed : list_all is_value_name_byte root ≡ true

path-some : (front : List ℕ) → begins_path front ≡ true → 0 < length front
path-some [] e = absurd (false≢true e)
path-some (character ∷ front) e = omega arith

front-good : (front : List ℕ) → is_front front ≡ true → IsGood front
front-good front e =
    let both = and_parts (begins_path front) (list_all is_value_name_byte front && is_line_name front) e in
    record {
      some = path-some front both.0;
      allowed = (and_parts (list_all is_value_name_byte front) (is_line_name front) both.1).0;
    }

name-good : (tree : Tree) → IsTree tree → IsWithinLimits tree → IsGood (name_of (get tree []))
name-good tree is limits =
    let root = some_of (get tree []) is.root in
    let good = (limits.keys [] root.0 root.1).name in
    subst IsGood (sym (ap name_of root.1)) (record { some = name-some root.0.name good; allowed = name-allowed root.0.name good })

pub shown-good : (front : Option (List ℕ)) (tree : Tree) → IsTree tree → IsWithinLimits tree → can_stand front ≡ true →
    IsGood (root_shown front tree)
shown-good (Some front) tree is limits e = front-good front e
shown-good None tree is limits e = name-good tree is limits

pub root-good : (front : Option (List ℕ)) (tree : Tree) → IsTree tree → IsWithinLimits tree → can_stand front ≡ true → (root : List ℕ) →
    root ≡ root_shown front tree → IsGood root
root-good front tree is limits e root same = subst IsGood (sym same) (shown-good front tree is limits e)

-- ---- what an export says

abbrev first_bad : (root : List ℕ) → Keys → (text : List ℕ) → Option (List ℕ)
first_bad root keys text = option_map (λ (t : Told). text_of t.names) (unwritable root keys.tree (folded_path text))

abbrev file_of : (root : List ℕ) → Keys → (text : List ℕ) → Bool → List ℕ
file_of root keys text u = file_bytes u (entries_text root keys.tree (folded_path text))

module _ (keys : Keys) (text : List ℕ) (front : Option (List ℕ)) (node : Node) (root : List ℕ) (u : Bool) (before after : Option (List ℕ))
    (stands : can_stand front ≡ true) (f : IsKeyFound keys text (Some node)) (shown : root ≡ root_shown front keys.tree) where
  can-write : None ≡ first_bad root keys text → CanWrite (root_shown front keys.tree) keys.tree (folded_path text)
  can-write e =
      subst (λ (r : List ℕ). CanWrite r keys.tree (folded_path text)) shown (none_unwritable root keys.tree (folded_path text) e)

  pub is-exported : None ≡ first_bad root keys text → Appends before after (file_of root keys text u) →
      IsExported keys.tree text front u before after
  is-exported e written = record {
    stands = stands;
    path = folded_path text;
    found = (found_at keys text node f).key;
    can_write = can-write e;
    written = subst (λ (r : List ℕ). Appends before after (file_of r keys text u)) shown written;
  }

  pub is-cut_off : (fault : DumpFault) → None ≡ first_bad root keys text → IsStopped before after (file_of root keys text u) fault →
      IsCutOff fault keys.tree text front u before after
  is-cut_off fault e written = record {
    stands = stands;
    path = folded_path text;
    found = (found_at keys text node f).key;
    can_write = inl (can-write e);
    written = subst (λ (r : List ℕ). IsStopped before after (file_of r keys text u) fault) shown written;
  }

  pub is-unwritable : (names : List ℕ) → Some names ≡ first_bad root keys text → IsUnwritable keys.tree text front names
  is-unwritable names e =
      let first = first_unwritable (root_shown front keys.tree) keys.tree (folded_path text) names
      (subst (λ (r : List ℕ). Some names ≡ first_bad r keys text) shown e) in
      record {
        stands = stands;
        path = folded_path text;
        found = (found_at keys text node f).key;
        told = first.0;
        first = first.1;
        names_are = first.2;
      }

-- memory failed while the names were looked at
pub not-begun : (keys : Keys) (text : List ℕ) (front : Option (List ℕ)) (node : Node) (u : Bool) (before : Option (List ℕ)) →
    can_stand front ≡ true → IsKeyFound keys text (Some node) → IsCutOff Memory keys.tree text front u before before
not-begun keys text front node u before stands f = record {
  stands = stands;
  path = folded_path text;
  found = (found_at keys text node f).key;
  can_write = inr refl;
  written = nothing_yet before (file_of (root_shown front keys.tree) keys text u);
}
