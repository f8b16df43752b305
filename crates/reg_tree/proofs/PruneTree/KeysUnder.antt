-- The keys below one deleted, one after another.
use Rattle.std.proofs.Common.{◌≡◌, ◌≢◌, ℕ, ◌+◌, ◌-◌, ◌*◌, ◌<◌, ◌≤◌, ◌==◌, Bool, true, false, not, cond, nat_lt, Some}
use Rattle.std.proofs.Common.{None, IsSome, is_some, List, [], ◌∷◌, ◌++◌, length, refl, sym, ap, ◌∙◌, subst, arith, true≢false, length-append}
use Rattle.std.specs.FinMap.{get, len}
use Rattle.std.proofs.lemmas.Bool.{false≢true, lt-ltb}
use Rattle.std.proofs.lemmas.List.{append-nil, append_assoc}
use Rattle.reg_names.specs.declared.TheConstants.{PATH_LIMIT}
use Rattle.reg_heap.specs.Paths.{Path, Tree, children_of}
use Rattle.reg_heap.specs.Edits.{is_under}
use Rattle.reg_arena.specs.Cells.{cell_at}
use Rattle.reg_shape.specs.PathLookup.{key_offset_at}
use Rattle.reg_security.specs.Rings.{DescriptorCells}
use Rattle.reg_tree.specs.declared.node.Node.{Node}
use Rattle.reg_index.specs.declared.PlacedKey.{PlacedKey}
use Rattle.reg_tree.specs.TreeKeys.{tree_in}
use Rattle.reg_tree.specs.KeyLengths.{lengths_at}
use Rattle.reg_tree.specs.Internal.TreeInvariant.{TreeInvariant, IsHere}
use Rattle.reg_tree.specs.Internal.KeyDeletion.{IsDeleted, IsLone}
use Rattle.reg_tree.specs.Internal.KeyOrder.{HasTop, IsAbove}
use Rattle.reg_tree.specs.Internal.LengthChanges.{LengthsStay}
use Rattle.reg_tree.specs.Internal.TreeDeletion.{IsFirstSubkey, IsBared}
use Rattle.reg_tree.proofs.DeleteKey.DeleteKeyFaults.{no_children}
use Rattle.reg_tree.proofs.DeleteKey.KeyAbove.{no-names}
use Rattle.reg_tree.proofs.Invariant.KeyOfTree.{get-some, shallow}
use Rattle.reg_tree.proofs.PruneTree.NextKeys.{front-there}
use Rattle.reg_tree.proofs.PruneTree.PathOrder.{child-at}
use Rattle.reg_tree.proofs.PruneTree.PathsWithin.{under-is}
use Rattle.reg_tree.proofs.PruneTree.PlaceAbove.{at_place, at_placed}
use Rattle.reg_tree.proofs.PruneTree.ThinnedTrees.{Thins, thins-none, thins-more, above-other, thinned-bare}
use Rattle.reg_tree.proofs.PruneTree.TopKeys.{over-top, last-name}
use Rattle.reg_tree.proofs.PruneTree.TreesWithout.{same-as, true-same, false-other, without-here, fewer-keys}

-- ---- lengths, where a key is deleted after other steps

module _ (old mid new : List ℕ) (root : ℕ) {table : DescriptorCells} (d : Path) (moment : ℕ) (deleted : IsDeleted mid new root table d moment) where
  pub lengths-then : LengthsStay (cell_at old) (cell_at mid) root → LengthsStay (cell_at mid) (cell_at new) root → LengthsStay (cell_at old) (cell_at new) root
  lengths-then a b q o at-old at-new = by (same-as q d) refl
    where
      Stays : Type 0
      Stays = lengths_at (cell_at new) o ≡ lengths_at (cell_at old) o

      by : (s : Bool) → same-as q d ≡ s → Stays
      by true e =
          let some = get-some new root deleted.holds d o (ap (key_offset_at (cell_at new) root) (sym (true-same q d e)) ∙ at-new) in
          absurd (true≢false (sym some ∙ ap is_some (ap (λ (t : Tree). get t d) deleted.tree ∙ without-here (tree_in mid root) d moment)))
      by false e = let at-mid = sym (deleted.offsets q (false-other q d e)) ∙ at-new in b q o at-mid at-new ∙ a q o at-old at-mid

-- ---- how much is left to do

-- at a key with no subkeys 2, and else 0
abbrev bareness : Tree → Path → ℕ
bareness t p = cond (nat_lt 0 (length (children_of t p))) 0 2

-- three steps at most for each key, and a way down
pub steps_left : Tree → Path → ℕ
steps_left t p = 3 * len t + (cond (nat_lt 0 (length (children_of t p))) 0 2 + (PATH_LIMIT - length p))

bareness-most : (t : Tree) (p : Path) → bareness t p ≤ 2
bareness-most t p = by (nat_lt 0 (length (children_of t p)))
  where
    by : (b : Bool) → cond b 0 2 ≤ 2
    by true = omega arith
    by false = omega arith

not-bare : (t : Tree) (p : Path) → 0 < length (children_of t p) → bareness t p ≡ 0
not-bare t p l = ap (λ b. cond b 0 2) (lt-ltb 0 (length (children_of t p)) l)

quite-bare : (t : Tree) (p : Path) → children_of t p ≡ [] → bareness t p ≡ 2
quite-bare t p e = ap (λ (paths : List Path). cond (nat_lt 0 (length paths)) 0 2) e

-- ---- midway

-- some keys below the one at a path are deleted, and this is it or one below it that is left
pub record Prunes (old : List ℕ) (root : ℕ) (p : Path) (moment : ℕ) (new : List ℕ) (table : DescriptorCells) (node : Node) : Type 0 where
  pub holds : TreeInvariant new root table
  pub thins : Thins (tree_in old root) (tree_in new root) p moment
  pub offsets : (q : Path) → is_under p q ≡ false → key_offset_at (cell_at new) root q ≡ key_offset_at (cell_at old) root q
  pub lengths : LengthsStay (cell_at old) (cell_at new) root
  pub names : Path
  pub at : key_offset_at (cell_at new) root (p ++ names) ≡ Some node.offset
  pub depth : node.depth ≡ length names

module _ (old : List ℕ) (key : ℕ) (t : IsHere old key) (moment : ℕ) where
  abbrev root : ℕ
  root = t.root

  abbrev p : Path
  p = t.path

  pub prunes-none : (table : DescriptorCells) → t.table ≡ table → Prunes old root p moment old table (record { offset = key; depth = 0 })
  prunes-none table same = record {
    holds = subst (λ (table : DescriptorCells). TreeInvariant old root table) same t.holds;
    thins = thins-none (tree_in old root) p moment;
    offsets = λ q u. refl;
    lengths = λ q o a b. refl;
    names = [];
    at = ap (key_offset_at (cell_at old) root) (append-nil p) ∙ t.at;
    depth = refl;
  }

  module _ (new : List ℕ) (table : DescriptorCells) (node : Node) (m : Prunes old root p moment new table node) where
    abbrev now : Tree
    now = tree_in new root

    abbrev pub node-top : HasTop new node
    node-top = record {
      here = record { root = root; table = table; path = p ++ m.names; holds = m.holds; at = m.at };
      top = p;
      names = m.names;
      parts = refl;
      depth = m.depth;
    }

    deep : length (p ++ m.names) ≤ PATH_LIMIT
    deep = let s = shallow new node.offset node-top.here in omega (arith, s)

    steps : at_place new node.offset steps_left ≡ steps_left now (p ++ m.names)
    steps = at_placed new node.offset steps_left node-top.here

    -- ---- it has no subkeys

    module _ (none : IsFirstSubkey new root (p ++ m.names) None) where
      pub all-bared : node.depth ≡ 0 → IsBared old new root table p moment
      all-bared e =
          let top : m.names ≡ [] = no-names m.names (sym m.depth ∙ e) in
          record {
            holds = m.holds;
            tree = thinned-bare (tree_in old root) (front-there old root t.holds) p moment now m.thins (front-there new root m.holds)
                (ap (children_of now) (sym (append-nil p) ∙ ap (λ ns. p ++ ns) (sym top)) ∙ none);
            offsets = m.offsets;
          }

      module _ (under : node.depth ≢ 0) (over : Node) (a : IsAbove new root (p ++ m.names) node over) where
        abbrev up : HasTop new over
        up = over-top new node node-top under over a

        pub prunes-up : Prunes old root p moment new table over
        prunes-up = record {
          holds = m.holds;
          thins = m.thins;
          offsets = m.offsets;
          lengths = m.lengths;
          names = up.names;
          at = up.here.at;
          depth = up.depth;
        }

        pub steps-up : at_place new over.offset steps_left < at_place new node.offset steps_left
        unfolding steps_left
        steps-up =
            let x = (last-name new node node-top under).1 in
            let parts : p ++ m.names ≡ (p ++ up.names) ++ x ∷ [] = ap (λ ns. p ++ ns) (last-name new node node-top under).2 ∙ sym (append_assoc p up.names (x ∷ [])) in
            let c = child-at now (p ++ up.names) x (get-some new root m.holds ((p ++ up.names) ++ x ∷ []) node.offset (ap (key_offset_at (cell_at new) root) (sym parts) ∙ m.at)) in
            let l = c.1 in
            let b = not-bare now (p ++ up.names) (omega (arith, l)) in
            let q = quite-bare now (p ++ m.names) none in
            let n = ap length parts ∙ length-append (p ++ up.names) (x ∷ []) in
            let s : at_place new over.offset steps_left ≡ steps_left now (p ++ up.names) = at_placed new over.offset steps_left up.here in
            fewer (p ++ up.names) (p ++ m.names) s steps b q n deep
          where
            fewer : {a c : ℕ} (q r : Path) → a ≡ steps_left now q → c ≡ steps_left now r → bareness now q ≡ 0 → bareness now r ≡ 2 → length r ≡ length q + 1 → length r ≤ PATH_LIMIT → a < c
            fewer q r s u b v n d = omega (arith, s, u, b, v, n, d)

    -- ---- its first subkey

    module _ (first : PlacedKey) (is_first : IsFirstSubkey new root (p ++ m.names) (Some first)) where
      abbrev x : List ℕ
      x = is_first.0

      abbrev names-first : Path
      names-first = m.names ++ x ∷ []

      pub at-first : key_offset_at (cell_at new) root (p ++ names-first) ≡ Some first.key
      at-first = ap (key_offset_at (cell_at new) root) (sym (append_assoc p m.names (x ∷ []))) ∙ is_first.1

      abbrev pub first-here : IsHere new first.key
      first-here = record { root = root; table = table; path = p ++ names-first; holds = m.holds; at = at-first }

      longer : length (p ++ names-first) ≡ length (p ++ m.names) + 1
      longer = ap length (sym (append_assoc p m.names (x ∷ []))) ∙ length-append (p ++ m.names) (x ∷ [])

      first-deep : length (p ++ names-first) ≤ PATH_LIMIT
      first-deep = let s = shallow new first.key first-here in omega (arith, s)

      pub low-first : node.depth + 1 ≤ PATH_LIMIT
      low-first = let d = m.depth in let l = longer in let e = first-deep in let a = length-append p m.names in omega (arith, d, l, e, a)

      pub prunes-down : Prunes old root p moment new table (record { offset = first.key; depth = node.depth + 1 })
      prunes-down = record {
        holds = m.holds;
        thins = m.thins;
        offsets = m.offsets;
        lengths = m.lengths;
        names = names-first;
        at = at-first;
        depth = (let d = m.depth in let l = length-append m.names (x ∷ []) in omega (arith, d, l));
      }

      pub steps-down : (r : Bool) → r ≡ not (length (children_of now (p ++ names-first)) == 0) → r ≡ true → at_place new first.key steps_left < at_place new node.offset steps_left
      unfolding steps_left
      steps-down r e f =
          let s : at_place new first.key steps_left ≡ steps_left now (p ++ names-first) = at_placed new first.key steps_left first-here in
          fewer (p ++ names-first) (p ++ m.names) s steps (not-bare now (p ++ names-first) (some (children_of now (p ++ names-first)) (sym e ∙ f))) longer first-deep
        where
          some : (paths : List Path) → not (length paths == 0) ≡ true → 0 < length paths
          some [] e = absurd (false≢true e)
          some (q ∷ paths) e = omega arith

          fewer : {a c : ℕ} (q r : Path) → a ≡ steps_left now q → c ≡ steps_left now r → bareness now q ≡ 0 → length q ≡ length r + 1 → length q ≤ PATH_LIMIT → a < c
          fewer q r s u b n d = omega (arith, s, u, b, n, d)

      module _ (r : Bool) (e : r ≡ not (length (children_of now (p ++ names-first)) == 0)) (f : r ≡ false) where
        pub first-lone : IsLone new first.key first-here
        first-lone = ((λ z. let n = ap length z in let l = longer in omega (arith, n, l)), no_children new first.key first-here r e f)

        module _ (after : List ℕ) (left : DescriptorCells) (d : IsDeleted new after root left (p ++ names-first) moment)
            (stay : LengthsStay (cell_at new) (cell_at after) root) where
          other : p ++ m.names ≢ p ++ names-first
          other z = let n = ap length z in let l = longer in omega (arith, n, l)

          first-under : is_under p (p ++ names-first) ≡ true
          first-under = under m.names
            where
              under : (ns : Path) → is_under p (p ++ (ns ++ x ∷ [])) ≡ true
              under [] = under-is p (p ++ x ∷ []) x [] refl
              under (n ∷ ns) = under-is p (p ++ n ∷ (ns ++ x ∷ [])) n (ns ++ x ∷ []) refl

          there-first : IsSome (get now (p ++ names-first))
          there-first = get-some new root m.holds (p ++ names-first) first.key at-first

          pub prunes-more : Prunes old root p moment after left node
          prunes-more = record {
            holds = d.holds;
            thins = subst (λ (now : Tree). Thins (tree_in old root) now p moment) (sym d.tree) (thins-more (tree_in old root) now p moment m.thins m.names x there-first);
            offsets = λ q u. d.offsets q (λ z. false≢true (sym u ∙ (ap (is_under p) z ∙ first-under))) ∙ m.offsets q u;
            lengths = lengths-then old new after root (p ++ names-first) moment d m.lengths stay;
            names = m.names;
            at = d.offsets (p ++ m.names) other ∙ m.at;
            depth = m.depth;
          }

          abbrev after-here : IsHere after node.offset
          after-here = record { root = root; table = left; path = p ++ m.names; holds = d.holds; at = d.offsets (p ++ m.names) other ∙ m.at }

          pub steps-more : at_place after node.offset steps_left < at_place new node.offset steps_left
          unfolding steps_left
          steps-more =
              let s : at_place after node.offset steps_left ≡ steps_left (tree_in after root) (p ++ m.names) = at_placed after node.offset steps_left after-here in
              let k = ap (λ (t : Tree). len t) d.tree in
              let g = fewer-keys now (p ++ names-first) moment (above-other (tree_in old root) now p moment m.thins m.names x there-first) there-first in
              fewer (p ++ m.names) s steps (bareness-most (tree_in after root) (p ++ m.names)) (omega (arith, k, g))
            where
              fewer : {a c : ℕ} (q : Path) → a ≡ steps_left (tree_in after root) q → c ≡ steps_left now q → bareness (tree_in after root) q ≤ 2 → len (tree_in after root) + 1 ≡ len now → a < c
              fewer q s u b n = omega (arith, s, u, b, n)
