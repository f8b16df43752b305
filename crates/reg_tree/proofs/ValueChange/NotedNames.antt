-- The names that are noted of one key's values.
use Rattle.std.proofs.Common.{◌≡◌, ℕ, suc, ◌+◌, ◌<◌, ◌≤◌, ◌⊎◌, inl, inr, leb, Bool, true, false, cond, Option, Some, None, List, [], ◌∷◌, refl, sym, ap, ◌∙◌, subst, arith}
use Rattle.std.proofs.Common.{true≢false, slice_get, length}
use Rattle.std.specs.Prelude.{Result, Ok, Err, OnOk, OnErr, nat_eq}
use Rattle.std.specs.List.{AllByRecursion, fold as fold_list}
use Rattle.std.specs.Option.{option_map}
use Rattle.std.specs.FinMap.{get}
use Rattle.std.specs.HashSet.{contains}
use Rattle.std.proofs.lemmas.Option.{none-some, same_Some, slice_get_within}
use Rattle.std.proofs.lemmas.Bool.Decides.{leb_tells}
use Rattle.std.proofs.lemmas.Map.Text.{is_eq-slice_cmp}
use Rattle.std.proofs.lemmas.Slice.Eq.{bytes_eq-Decides}
use Rattle.reg_names.specs.Names.{folded, hash, hash_with}
use Rattle.reg_heap.specs.Paths.{Path, Tree, Rec, Member}
use Rattle.reg_heap.specs.Members.{same_name, index_named, value_named}
use Rattle.reg_heap.specs.Edits.{edited, values_of, values_at, with_value}
use Rattle.reg_arena.specs.Arena.{Bins}
use Rattle.reg_arena.specs.Cells.{cell_at}
use Rattle.reg_shape.specs.PathLookup.{key_offset_at}
use Rattle.reg_values.specs.ValueLists.{Tells}
use Rattle.reg_security.specs.Rings.{DescriptorCells}
use Rattle.reg_tree.specs.declared.names_seen.NamesSeen.{NamesSeen}
use Rattle.reg_tree.specs.TreeKeys.{tree_in}
use Rattle.reg_tree.specs.ValueAnswers.{IsFound, fitted_by}
use Rattle.reg_tree.specs.Internal.NamesSeen.{may_have, HasNoted, AreNoted}
use Rattle.reg_tree.specs.Internal.TreeInvariant.{TreeInvariant, IsHere, IsChanged}
use Rattle.reg_tree.proofs.PruneTree.TreesWithout.{get-edited, same-true}
use Rattle.reg_tree.proofs.ValueChange.LargestLengths.{all-with}
use Rattle.reg_tree.proofs.ValueChange.ValueAtPlace.{unnamed}

-- the names of these values are all noted
abbrev AreAmong : NamesSeen → List Member → Type 0
AreAmong seen members = AllByRecursion (λ (m : Member). may_have seen m.name ≡ true) members

-- names that are the same after folding have one hash
same_hash : (a b : List ℕ) → same_name a b ≡ true → hash a ≡ hash b
unfolding hash
same_hash a b e = ap (fold_list hash_with 0) ((bytes_eq-Decides (folded a) (folded b)).0 (sym (is_eq-slice_cmp (folded a) (folded b)) ∙ e))

-- a name that isn't noted is that of none of them
absent : (seen : NamesSeen) (name : List ℕ) (members : List Member) → AreAmong seen members → may_have seen name ≡ false → index_named name members ≡ None
absent seen name [] all none = refl
absent seen name (m ∷ members) all none = by (same_name m.name name) refl (absent seen name members all.1 none)
  where
    by : (b : Bool) → same_name m.name name ≡ b → index_named name members ≡ None → cond b (Some 0) (option_map suc (index_named name members)) ≡ None
    by true same rest = absurd (true≢false (sym all.0 ∙ (ap (contains nat_eq seen.hashes) (same_hash m.name name same) ∙ none)))
    by false same rest = ap (option_map suc) rest

-- the names of so many of them are noted, where the key is
abbrev pub HasNotedFront : NamesSeen → ℕ → List Member → ℕ → Type 0
HasNotedFront seen key members count =
    seen.noted ≡ Some key → (index : ℕ) (member : Member) → index < count → slice_get members index ≡ Some member → may_have seen member.name ≡ true

-- one more of them
pub front-noted : (before after : NamesSeen) (key : ℕ) (members : List Member) (index : ℕ) (name : List ℕ) (kind size : ℕ) →
    ((key : ℕ) → after.noted ≡ Some key → before.noted ≡ Some key) → ((key : ℕ) → after.noted ≡ Some key → may_have after name ≡ true) →
    ((name : List ℕ) → may_have before name ≡ true → may_have after name ≡ true) →
    (member : Member) × (slice_get members index ≡ Some member) × Tells member name kind size →
    HasNotedFront before key members index → HasNotedFront after key members (index + 1)
front-noted before after key members index name kind size was is more told front = λ noted k member l at. by noted k member l at (leb_tells index k)
  where
    by : after.noted ≡ Some key → (k : ℕ) (member : Member) → k < index + 1 → slice_get members k ≡ Some member →
        ((leb index k ≡ true) × (index ≤ k)) ⊎ ((leb index k ≡ false) × (k < index)) → may_have after member.name ≡ true
    by noted k member l at (inr less) = more member.name (front (was key noted) k member less.1 at)
    by noted k member l at (inl most) =
        let most = most.1 in
        let same : index ≡ k = omega (arith, l, most) in
        let here : told.0 ≡ member = same_Some _ _ (sym told.1 ∙ (ap (slice_get members) same ∙ at)) in
        ap (may_have after) (ap (λ (m : Member). m.name) (sym here) ∙ sym told.2.name_is) ∙ is key noted

-- where each of some values has a noted name, all have
all-each : (seen : NamesSeen) (members : List Member) → ((index : ℕ) (member : Member) → slice_get members index ≡ Some member → may_have seen member.name ≡ true) →
    AreAmong seen members
all-each seen [] each = tt
all-each seen (m ∷ members) each = (each 0 m refl, all-each seen members (λ index member at. each (suc index) member at))

-- so it is where so many are all
pub front-all : (seen : NamesSeen) (key : ℕ) (members : List Member) (count : ℕ) → length members ≤ count → HasNotedFront seen key members count →
    HasNoted seen key members
front-all seen key members count all front = λ noted. all-each seen members (λ index member at.
    let within = slice_get_within members index member at in
    front noted index member (omega (arith, all, within)) at)

-- a value set, of a noted name
values-set : (seen : NamesSeen) (t : Tree) (p : Path) (name : List ℕ) (kind : ℕ) (bytes : List ℕ) (moment : ℕ) → may_have seen name ≡ true →
    AreAmong seen (values_at t p) → AreAmong seen (values_at (edited t p (with_value name kind bytes moment)) p)
values-set seen t p name kind bytes moment noted all =
    subst (λ (o : Option Rec). AreAmong seen (values_of o))
    (sym (get-edited t p f p ∙ ap (λ b. cond b (option_map f (get t p)) (get t p)) (same-true p p refl))) (by (get t p) all)
  where
    f : Rec → Rec
    f = with_value name kind bytes moment

    by : (o : Option Rec) → AreAmong seen (values_of o) → AreAmong seen (values_of (option_map f o))
    by None all = tt
    by (Some r) all =
        all-with (λ (m : Member). may_have seen m.name ≡ true) (λ (m : Member). may_have seen m.name ≡ true) (λ m h. h) name kind bytes noted
        (λ old h. h) r.values all

-- ---- of a tree's key

-- where no key is noted
pub none_noted : (seen : NamesSeen) (bytes : List ℕ) (root : ℕ) → seen.noted ≡ None → AreNoted seen bytes root
none_noted seen bytes root none = record { noted = λ key path at is. absurd (none-some _ (sym none ∙ is)) }

module _ (seen : NamesSeen) (bytes : List ℕ) (root : ℕ) (are : AreNoted seen bytes root) (key : ℕ) (path : Path) (at : key_offset_at (cell_at bytes) root path ≡ Some key)
    (name : List ℕ) (noted : seen.noted ≡ Some key) (none : may_have seen name ≡ false) where
  -- a key that lacks a name has no value of it
  pub lacking : index_named name (values_at (tree_in bytes root) path) ≡ None
  lacking = absent seen name (values_at (tree_in bytes root) path) (are.noted key path at noted) none

  pub lacking_found : IsFound (values_at (tree_in bytes root) path) (value_named name (values_at (tree_in bytes root) path)) None
  lacking_found =
      subst (λ (o : Option Member). IsFound (values_at (tree_in bytes root) path) o None)
      (sym (unnamed name (values_at (tree_in bytes root) path) lacking)) tt

  pub lacking_room : (room : List ℕ) → room ≡ fitted_by (value_named name (values_at (tree_in bytes root) path)) room
  lacking_room room = ap (λ (o : Option Member). fitted_by o room) (sym (unnamed name (values_at (tree_in bytes root) path) lacking))

-- ---- a value set on a key, whose name was expected

module _ (before after : NamesSeen) (old new : Bins) (root : ℕ) {table : DescriptorCells} (holds : TreeInvariant old.bytes root table) (are : AreNoted before old.bytes root)
    (key : ℕ) (name : List ℕ) (kind : ℕ) (bytes : List ℕ) (moment : ℕ)
    (only : (other : ℕ) → after.noted ≡ Some other → other ≡ key) (expected : (other : ℕ) → after.noted ≡ Some other → may_have after name ≡ true)
    (kept : (t : IsHere old.bytes key) → HasNoted before key (values_at (tree_in old.bytes t.root) t.path) → HasNoted after key (values_at (tree_in old.bytes t.root) t.path)) where
  abbrev here : (path : Path) → key_offset_at (cell_at old.bytes) root path ≡ Some key → IsHere old.bytes key
  here path at = record { root = root; table = table; path = path; holds = holds; at = at }

  -- before the set
  among : (path : Path) → key_offset_at (cell_at old.bytes) root path ≡ Some key → HasNoted after key (values_at (tree_in old.bytes root) path)
  among path at = kept (here path at) (are.noted key path at)

  still : AreNoted after old.bytes root
  still = record {
    noted = λ other path at is. subst (λ k. key_offset_at (cell_at old.bytes) root path ≡ Some k → HasNoted after k (values_at (tree_in old.bytes root) path))
        (sym (only other is)) (among path) at is;
  }

  changed : (q : Path) → IsChanged old.bytes new.bytes root table q (with_value name kind bytes moment) →
      ((p : Path) → key_offset_at (cell_at old.bytes) root p ≡ Some key → IsChanged old.bytes new.bytes root table p (with_value name kind bytes moment)) →
      AreNoted after new.bytes root
  changed q one each = record {
    noted = λ other path at is.
        let same = only other is in
        let was : key_offset_at (cell_at old.bytes) root path ≡ Some key = sym (one.offsets path) ∙ (at ∙ ap (λ k. Some k) same) in
        let all = among path was (is ∙ ap (λ k. Some k) same) in
        subst (λ (t : Tree). AreAmong after (values_at t path)) (sym (each path was).tree)
        (values-set after (tree_in old.bytes root) path name kind bytes moment (expected other is) all);
  }

  pub set_noted : {E : Type 0} (result : Result (Unit {0}) E) (q : Path) → key_offset_at (cell_at old.bytes) root q ≡ Some key →
      ((t : IsHere old.bytes key) → OnOk result (IsChanged old.bytes new.bytes t.root t.table t.path (with_value name kind bytes moment))) →
      OnErr result (new ≡ old) → AreNoted after new.bytes root
  set_noted {E} result q at ok err = by result (λ p at. ok (here p at)) err
    where
      by : (r : Result (Unit {0}) E) → ((p : Path) → key_offset_at (cell_at old.bytes) root p ≡ Some key →
          OnOk r (IsChanged old.bytes new.bytes root table p (with_value name kind bytes moment))) → OnErr r (new ≡ old) → AreNoted after new.bytes root
      by (Ok x) each e = changed q (each q at) each
      by (Err x) each e = subst (λ (b : Bins). AreNoted after b.bytes root) (sym e) still
