-- What is told of a subkey is that of its key.
use Rattle.std.proofs.Common.{◌≡◌, ℕ, ◌+◌, ◌≤◌, List, [], Option, Some, None, IsSome, MatchOption, length, get_or, refl, sym, subst, arith, true≢false}
use Rattle.std.proofs.lemmas.List.{get_or-drop}
use Rattle.reg_heap.specs.Paths.{Path, Rec, Tree, children_of}
use Rattle.reg_tree.specs.declared.node.Node.{Node}
use Rattle.reg_tree.specs.declared.node.Subkey.{Subkey}
use Rattle.reg_tree.specs.SubkeyWalk.{IsSubkeyAt}
use Rattle.reg_tree.specs.TreeKeys.{Keys}
use Rattle.zugmeled.specs.Lists.{name_of, subkeys_from}

-- the name of a key that is there
pub named : (found : Option Rec) (name : List ℕ) → IsSome found → ((r : Rec) → found ≡ Some r → name ≡ r.name) → name ≡ name_of found
named None name there told = absurd (true≢false (sym there))
named (Some r) name there told = told r refl

pub at-index : (index n : ℕ) (t : Tree) (p : Path) → get_or (subkeys_from index t p) n [] ≡ get_or (children_of t p) (index + n) []
at-index index n t p = get_or-drop index (children_of t p) n []

-- ---- the next of them

-- a subkey in turn is that of its index
pub in-turn : (keys : Keys) (p : Path) (node : Node) (n : ℕ) (next : Option Subkey) (subkey : Subkey) → next ≡ Some subkey →
    MatchOption next (length (children_of keys.tree p) ≤ n) (λ s. IsSubkeyAt keys p node n s) → IsSubkeyAt keys p node n subkey
in-turn keys p node n next subkey is turn =
    subst (λ (s : Option Subkey). MatchOption s (length (children_of keys.tree p) ≤ n) (λ s. IsSubkeyAt keys p node n s)) is turn

-- behind it there is another one, or it was the last
pub next-turn : (keys : Keys) (p : Path) (node : Node) (index n : ℕ) (next : Option Subkey) →
    MatchOption next (index + n + 1 ≡ length (children_of keys.tree p)) (λ s. IsSubkeyAt keys p node (index + n + 1) s) →
    MatchOption next (length (children_of keys.tree p) ≤ index + (n + 1)) (λ s. IsSubkeyAt keys p node (index + (n + 1)) s)
next-turn keys p node index n None last = omega (arith, last)
next-turn keys p node index n (Some subkey) turn =
    let on : index + n + 1 ≡ index + (n + 1) = omega arith in
    subst (λ (k : ℕ). IsSubkeyAt keys p node k subkey) on turn
