-- The keys below one, gone over one after another.
use Rattle.std.proofs.Common.{◌≡◌, ℕ, ◌+◌, ◌<◌, ◌≤◌, List, [], ◌∷◌, ◌++◌, length, drop, reverse, get_or, Option, Some, None, IsSome, refl, sym, ap, ◌∙◌, subst, arith, append-nil}
use Rattle.std.specs.Prelude.{flat_map, MatchOption}
use Rattle.std.specs.FinMap.{get}
use Rattle.std.proofs.lemmas.List.{drop_more}
use Rattle.reg_names.specs.declared.TheConstants.{PATH_LIMIT}
use Rattle.reg_heap.specs.Paths.{Path, Tree, Rec, children_of}
use Rattle.reg_tree.specs.declared.node.Node.{Node}
use Rattle.reg_tree.specs.declared.node.Subkey.{Subkey}
use Rattle.reg_tree.specs.TreeKeys.{Keys, IsAt}
use Rattle.reg_tree.specs.SubkeyWalk.{IsSubkeyAt}
use Rattle.reg_tree.proofs.Invariant.CellReadings.{some_of}
use Rattle.reg_tree_text.specs.declared.walk.Pending.{Pending}
use Rattle.reg_tree_text.specs.declared.walk.Walk.{Walk}
use Rattle.reg_tree_text.specs.DumpTexts.{Told, name_of, told_here}
use Rattle.reg_tree_text.specs.Internal.Gathered.{WriterState, IsSoFar}
use Rattle.reg_tree_text.specs.Internal.Walking.{told_below, ArePending, Stands}
use Rattle.reg_tree_text.proofs.WalkSteps.{told-open}
use Rattle.reg_tree_text.proofs.LineTexts.{root_named}
use Rattle.reg_tree_text.proofs.SentTexts.{opened, swapped}
use Rattle.reg_tree_text.specs.Listings.{key_line, keys_below, told_lines}

-- ---- the keys right below one

-- the subkey at an index, or there are not so many
abbrev pub IsNext : Keys → Path → Node → ℕ → Option Subkey → Type 0
IsNext keys path node index None = length (children_of keys.tree path) ≤ index
IsNext keys path node index (Some subkey) = IsSubkeyAt keys path node index subkey

pub next_first : (keys : Keys) (path : Path) (node : Node) (next : Option Subkey) →
    MatchOption next (children_of keys.tree path ≡ []) (λ subkey. IsSubkeyAt keys path node 0 subkey) → IsNext keys path node 0 next
next_first keys path node None e = let l = ap length e in omega (arith, l)
next_first keys path node (Some subkey) e = e

pub next_behind : (keys : Keys) (path : Path) (node : Node) (index : ℕ) (next : Option Subkey) →
    MatchOption next (index + 1 ≡ length (children_of keys.tree path)) (λ subkey. IsSubkeyAt keys path node (index + 1) subkey) →
    IsNext keys path node (index + 1) next
next_behind keys path node index None e = omega (arith, e)
next_behind keys path node index (Some subkey) e = e

pub next_is : (keys : Keys) (path : Path) (node : Node) (index : ℕ) (next : Option Subkey) (subkey : Subkey) →
    IsNext keys path node index next → next ≡ Some subkey → IsSubkeyAt keys path node index subkey
next_is keys path node index next subkey n e = subst (λ (o : Option Subkey). IsNext keys path node index o) e n

pub next_none : (keys : Keys) (path : Path) (node : Node) (index : ℕ) (next : Option Subkey) →
    IsNext keys path node index next → next ≡ None → length (children_of keys.tree path) ≤ index
next_none keys path node index next n e = subst (λ (o : Option Subkey). IsNext keys path node index o) e n

-- the line of the key at a path
abbrev pub child_line : Tree → Path → List ℕ
child_line tree child = key_line (name_of (get tree child))

pub next_line : (tree : Tree) (children : List Path) (index : ℕ) → index < length children →
    flat_map (child_line tree) (drop index children) ≡
    child_line tree (get_or children index []) ++ flat_map (child_line tree) (drop (index + 1) children)
next_line tree children index l = ap (flat_map (child_line tree)) (drop_more children index [] l)

pub child_named : (tree : Tree) (child : Path) (name : List ℕ) → IsSome (get tree child) →
    ((r : Rec) → get tree child ≡ Some r → name ≡ r.name) → key_line name ≡ child_line tree child
child_named tree child name there told = ap key_line (root_named (get tree child) name there told)

-- the line of the next one is told
pub child_next : (begin now : WriterState) (whole : List ℕ) (tree : Tree) (children : List Path) (index : ℕ) (name left gathered : List ℕ)
    (written : ℕ) → index < length children → key_line name ≡ child_line tree (get_or children index []) →
    IsSoFar begin now whole (flat_map (child_line tree) (drop index children) ++ left) gathered written →
    IsSoFar begin now whole (key_line name ++ (flat_map (child_line tree) (drop (index + 1) children) ++ left)) gathered written
child_next begin now whole tree children index name left gathered written l e s =
    let line = child_line tree (get_or children index []) in
    let behind = flat_map (child_line tree) (drop (index + 1) children) in
    swapped begin now whole line (key_line name) (behind ++ left) gathered written
    (opened begin now whole line behind left gathered written
    (swapped begin now whole _ _ left gathered written s (sym (next_line tree children index l)))) e

-- ---- all keys below one

pub below-open : (tree : Tree) (path : Path) (r : Rec) → get tree path ≡ Some r →
    keys_below tree path ≡ told_below PATH_LIMIT tree [] (children_of tree path)
unfolding keys_below
below-open tree path r here =
    ap (λ (x : List Told). drop 1 x)
    (told-open PATH_LIMIT tree [] path
    ∙ ap (λ (o : Option Rec). told_here [] o ++ told_below PATH_LIMIT tree [] (children_of tree path)) here)

-- a walk stands at a key, and these are to come
pub record IsAmid (keys : Keys) (walk : Walk) : Type 0 where
  pub here : Told
  pub rest : List Told
  pub stands : Stands keys walk here rest

-- it begins
pub amid_start : (keys : Keys) (path : Path) (walk : Walk) (node : Node) → IsAt keys path node → (found : IsSome (get keys.tree path)) →
    walk.node ≡ node → walk.path.items ≡ [] → walk.pending.items ≡ [] →
    (a : IsAmid keys walk) × (keys_below keys.tree path ≡ a.rest)
amid_start keys path walk node at found same empty none =
    let k = some_of (get keys.tree path) found in (
      record {
        here = record { names = []; key = k.0 };
        rest = told_below PATH_LIMIT keys.tree [] (children_of keys.tree path) ++ [];
        stands = record {
          path = path;
          levels = PATH_LIMIT;
          more = [];
          place = record { deep = omega arith; long = λ _. refl };
          at = subst (λ (n : Node). IsAt keys path n) (sym same) at;
          key = k.1;
          text = empty;
          pending = subst (λ (x : List Pending). ArePending keys walk.path.items (length walk.path.items) (reverse x) []) (sym none) refl;
          rest_is = refl;
        };
      },
      below-open keys.tree path k.0 k.1 ∙ sym (append-nil (told_below PATH_LIMIT keys.tree [] (children_of keys.tree path))),
    )

-- the lines of the first of those that are to come are told
pub key_next : (begin now : WriterState) (whole : List ℕ) (rest more : List Told) (told : Told) (left gathered : List ℕ) (written : ℕ) →
    rest ≡ told ∷ more → IsSoFar begin now whole (flat_map told_lines rest ++ left) gathered written →
    IsSoFar begin now whole (told_lines told ++ (flat_map told_lines more ++ left)) gathered written
key_next begin now whole rest more told left gathered written e s =
    opened begin now whole (told_lines told) (flat_map told_lines more) left gathered written
    (swapped begin now whole _ _ left gathered written s (sym (ap (flat_map told_lines) e)))
