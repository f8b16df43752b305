-- The keys of a tree, searched one after another.
use Rattle.std.proofs.Common.{◌≡◌, ℕ, ◌+◌, ◌∙◌, Bool, List, [], ◌∷◌, ◌++◌, length, length-append, append-nil, refl, ap, arith}
use Rattle.std.specs.Prelude.{flat_map, nat_lt}
use Rattle.reg_heap.specs.Trees.{IsTree}
use Rattle.reg_tree.specs.declared.node.Node.{Node}
use Rattle.reg_tree.specs.TreeKeys.{Keys, IsAt}
use Rattle.reg_tree_text.specs.declared.walk.Walk.{Walk}
use Rattle.reg_tree_text.specs.DumpTexts.{Told, keys_told}
use Rattle.reg_tree_text.specs.Internal.Gathered.{WriterState, IsSoFar}
use Rattle.reg_tree_text.specs.Internal.Walking.{Stands}
use Rattle.reg_tree_text.proofs.CountedKeys.{amid_start}
use Rattle.reg_tree_text.proofs.SentTexts.{opened, swapped}
use Rattle.reg_find.specs.declared.scope.Scope.{Scope}
use Rattle.reg_find.specs.Findings.{found_lines}

-- a walk stands at a key, and these are to come behind it
pub record IsAmid (keys : Keys) (walk : Walk) : Type 0 where
  pub here : Told
  pub rest : List Told
  pub stands : Stands keys walk here rest

-- it begins at the root
pub amid_root : (keys : Keys) (walk : Walk) (root : Node) → IsAt keys [] root → IsTree keys.tree → walk.node ≡ root →
    walk.path.items ≡ [] → walk.pending.items ≡ [] → (a : IsAmid keys walk) × (keys_told keys.tree ≡ a.here ∷ a.rest)
amid_root keys walk root at is_tree node path pending =
    let a = amid_start keys walk (record { keys = 0; values = 0 }) root at is_tree node path pending refl refl in
    (record { here = a.0.here; rest = a.0.rest; stands = a.0.stands }, a.1)

-- the lines of the key at which it stands are told, by a pattern that matches what it matched before
pub key_next : (begin now : WriterState) (whole left gathered : List ℕ) (written : ℕ) (matches same : List ℕ → Bool) (scope : Scope)
    (here : Told) (rest : List Told) → same ≡ matches →
    IsSoFar begin now whole (flat_map (found_lines matches scope) (here ∷ rest) ++ left) gathered written →
    IsSoFar begin now whole (found_lines same scope here ++ (flat_map (found_lines matches scope) rest ++ left)) gathered written
key_next begin now whole left gathered written matches same scope here rest e s =
    let lines = found_lines matches scope here in
    let behind = flat_map (found_lines matches scope) rest in
    swapped begin now whole lines (found_lines same scope here) (behind ++ left) gathered written
    (opened begin now whole lines behind left gathered written s) (ap (λ (m : List ℕ → Bool). found_lines m scope here) e)

-- so many bytes were told of a whole text
pub told_some : (begin now : WriterState) (whole gathered : List ℕ) (written : ℕ) → IsSoFar begin now whole [] gathered written →
    nat_lt 0 (written + length gathered) ≡ nat_lt 0 (length whole)
told_some begin now whole gathered written s =
    let joined = ap length s.splits ∙ (length-append s.sent (gathered ++ []) ∙ ap (λ (x : List ℕ). length s.sent + length x) (append-nil gathered)) in
    let counted = s.counts in
    let same : written + length gathered ≡ length whole = omega (arith, joined, counted) in
    ap (nat_lt 0) same
