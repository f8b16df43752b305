-- The node of the key that a path leads to.
use Rattle.std.proofs.Common.{◌≡◌, ◌≢◌, ℕ, List, [], ◌∷◌, ◌++◌, map, length, refl, ap, ◌∙◌, arith, length-append}
use Rattle.std.specs.Option.{option_and_then}
use Rattle.std.proofs.lemmas.List.{append-nil}
use Rattle.reg_names.specs.Names.{folded, path_of}
use Rattle.reg_heap.specs.Paths.{Path}
use Rattle.reg_arena.specs.Arena.{heap_of}
use Rattle.reg_shape.specs.PathLookup.{key_offset_at}
use Rattle.reg_shape.proofs.Lookup.LookupOfShape.{offset-append}
use Rattle.reg_tree.specs.declared.node.Node.{Node}
use Rattle.reg_tree.specs.TreeKeys.{Keys, IsAt}
use Rattle.reg_tree.specs.Internal.PathWalks.{Passes}
use Rattle.reg_tree.proofs.PathWalk.PathSteps.{as-many}

module _ (keys : Keys) (from : Node) (path : List ℕ) (node : Node) (rest : List ℕ) (s : Passes (heap_of keys.bins) from path node rest) (p : Path) (at : IsAt keys p from) where
  -- it is the key's at the end of the names that were passed
  pub reached_at : IsAt keys (p ++ map folded s.names) node
  reached_at = record {
    offset =
        offset-append (heap_of keys.bins) keys.root p (map folded s.names)
        ∙ (ap (option_and_then (λ c. key_offset_at (heap_of keys.bins) c (map folded s.names))) at.offset ∙ s.offset);
    depth = (let d = s.depth in let a = at.depth in let l = length-append p (map folded s.names) in let m = as-many s.names in omega (arith, d, a, l, m));
  }

  -- at the end of a path that has names it isn't the root's
  pub reached_inner : path_of rest ≡ [] → path_of path ≢ [] → (q : Path) → IsAt keys q node → q ≢ []
  reached_inner none some q here e =
      let d = s.depth in
      let h = here.depth in
      let z = ap length e in
      some-length s.names (λ z. some (s.parts ∙ (ap (λ ns. s.names ++ ns) none ∙ (append-nil s.names ∙ z)))) (omega (arith, d, h, z))
    where
      some-length : (names : List (List ℕ)) → names ≢ [] → length names ≡ 0 → ⊥
      some-length [] some n = absurd (some refl)
      some-length (name ∷ names) some n = absurd (omega (arith, n))
