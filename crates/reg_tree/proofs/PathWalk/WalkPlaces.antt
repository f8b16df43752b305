-- Where the key stands that a walk comes to, and where the first name left belongs.
use Rattle.std.proofs.Common.{◌≡◌, ◌≢◌, ℕ, ◌+◌, true, Some, List, [], ◌∷◌, ◌++◌, length, refl, sym, ap, ◌∙◌, subst, arith, length-append}
use Rattle.std.proofs.lemmas.List.{append-nil}
use Rattle.reg_names.specs.Names.{folded, path_of, is_path, IsFirst}
use Rattle.reg_heap.specs.Heaps.{Heap}
use Rattle.reg_shape.specs.PathLookup.{subkey_named}
use Rattle.reg_index.specs.declared.Place.{Place}
use Rattle.reg_tree.specs.declared.node.Node.{Node}
use Rattle.reg_tree.specs.CellSizes.{first_place}
use Rattle.reg_tree.specs.Internal.PathWalks.{Passes}
use Rattle.reg_tree.specs.Internal.ReachedPlaces.{BelongsAt, StandsAt, IsPlace}
use Rattle.reg_tree.proofs.PathWalk.PathSteps.{starts, next}

-- keys on a path were passed, and the last of them stands at a place among its parent's subkeys
pub record PassesTo (heap : Heap) (from : Node) (path : List ℕ) (node : Node) (rest : List ℕ) (place : Place) : Type 0 where
  pub passes : Passes heap from path node rest
  pub stands : passes.names ≢ [] → StandsAt heap node.offset place
  pub none : passes.names ≡ [] → place ≡ first_place

-- lists of which one has an item are not empty
some-first : (xs ys : List (List ℕ)) (name : List ℕ) (names : List (List ℕ)) → xs ≡ ys ++ name ∷ names → xs ≢ []
some-first xs ys name names e z = let l = length-append ys (name ∷ names) in let n = ap length (sym z ∙ e) in absurd (omega (arith, l, n))

module _ (h : Heap) (from : Node) (path : List ℕ) where
  pub starts_at : is_path path ≡ true → PassesTo h from path from path first_place
  unfolding starts
  starts_at valid = record { passes = starts h from path valid; stands = λ some. absurd (some refl); none = λ _. refl }

  module _ (node : Node) (rest : List ℕ) (last : Place) (s : PassesTo h from path node rest last) where
    pub next_at : (name behind : List ℕ) (offset : ℕ) (place : Place) → IsFirst rest name behind → Some offset ≡ subkey_named h (folded name) node.offset →
        StandsAt h offset place → PassesTo h from path (record { offset = offset; depth = node.depth + 1 }) behind place
    unfolding next
    next_at name behind offset place f e stands = record {
      passes = next h from path node rest s.passes name behind offset f e;
      stands = λ _. stands;
      none = λ z. absurd (some-first [] s.passes.names name [] (sym z) refl);
    }

    -- nothing is left
    pub ends_at : path_of rest ≡ [] → IsPlace h path node.offset rest last
    ends_at e =
        let all : path_of path ≡ s.passes.names = s.passes.parts ∙ (ap (λ ns. s.passes.names ++ ns) e ∙ append-nil s.passes.names) in
        record {
          belongs = λ name names f. absurd (some-first (path_of rest) [] name names f e);
          stands = λ _ some. s.stands (λ z. some (all ∙ z));
          none = λ z. s.none (sym all ∙ z);
        }

    -- the first name left is missing
    pub stopped_at : (name behind : List ℕ) (place : Place) → IsFirst rest name behind → BelongsAt h node.offset name place → IsPlace h path node.offset rest place
    stopped_at name behind place f belongs = record {
      belongs = λ n names g. subst (λ n. BelongsAt h node.offset n place) (same-first name n (path_of behind) names (sym f.names ∙ g)) belongs;
      stands = λ z _. absurd (some-first (path_of rest) [] name (path_of behind) f.names z);
      none = λ z. absurd (some-first (path_of path) s.passes.names name (path_of behind) (s.passes.parts ∙ ap (λ ns. s.passes.names ++ ns) f.names) z);
    }
      where
        same-first : (a b : List ℕ) (xs ys : List (List ℕ)) → a ∷ xs ≡ b ∷ ys → a ≡ b
        same-first a b xs ys e = cc
