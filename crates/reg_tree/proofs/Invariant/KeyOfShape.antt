-- A key of a shape: the branch at its path, how it reads, and that its cells are its own.
use Rattle.std.proofs.Common.{◌≡◌, ℕ, ◌+◌, ◌≤◌, ◌<◌, Option, Some, None, List, length, refl, sym, ap, ◌∙◌, subst, arith}
use Rattle.std.specs.Option.{option_map}
use Rattle.std.specs.FinMap.{get}
use Rattle.std.proofs.lemmas.Option.{none-some, same_Some}
use Rattle.reg_names.specs.declared.TheConstants.{PATH_LIMIT}
use Rattle.reg_heap.specs.Paths.{Path}
use Rattle.reg_heap.specs.Heaps.{Heap, allocated}
use Rattle.reg_heap.specs.Kinds.{times, owned}
use Rattle.reg_shape.specs.Internal.Forests.{Branch, total_of}
use Rattle.reg_records.specs.KeyNodes.{key_at}
use Rattle.reg_shape.specs.Nodes.{Node}
use Rattle.reg_shape.specs.Spelt.{rec_of}
use Rattle.reg_shape.specs.Internal.Shapes.{cells_of, owns, shares, descriptor_in, tree_of, depth, StandsIn, IsSeen}
use Rattle.reg_shape.specs.Internal.Grafts.{IsShape, branch_at}
use Rattle.reg_shape.specs.PathLookup.{key_offset_at}
use Rattle.reg_shape.proofs.Walking.WalkRefinement.{IsLooked, look-open}
use Rattle.reg_shape.proofs.Wholeness.ShapeRecords.{shares-own}
use Rattle.reg_shape.proofs.Graft.Branches.{branch-stands, branch-total, branch-depth}
use Rattle.reg_shape.proofs.Lookup.LookupOfShape.{placed, key-looked}
use Rattle.reg_shape.proofs.Refinement.RefinementAtPath.{told}

-- the branch whose key stands at an offset
branch_of : (o : Option (Branch Node)) (key : ℕ) → option_map (λ (b : Branch Node). b.offset) o ≡ Some key → (b : Branch Node) × (o ≡ Some b) × (b.offset ≡ key)
branch_of None key e = absurd (none-some _ e)
branch_of (Some b) key e = (b, refl, same_Some _ _ e)

module _ (h : Heap) (root : ℕ) (keys : Branch Node) (ring spare : List ℕ) (w : IsShape h root keys ring spare) where
  -- the key at the end of a path is the branch there
  pub key_offset_in : (p : Path) → key_offset_at h root p ≡ option_map (λ (b : Branch Node). b.offset) (branch_at p keys)
  key_offset_in p = subst (λ r. key_offset_at h r p ≡ option_map (λ (b : Branch Node). b.offset) (branch_at p keys)) w.offset (placed h root keys p w.stands)

  -- what the tree has at a path is what is told of the branch there
  pub rec_in : (p : Path) → get (tree_of h keys) p ≡ option_map (λ (b : Branch Node). rec_of b.node (descriptor_in h b.node.key.fields.security)) (branch_at p keys)
  rec_in p = told h root keys w.stands p

  module _ (p : Path) (key : ℕ) (at : key_offset_at h root p ≡ Some key) where
    found : (b : Branch Node) × (branch_at p keys ≡ Some b) × (b.offset ≡ key)
    found = branch_of (branch_at p keys) key (sym (key_offset_in p) ∙ at)

    pub branch : Branch Node
    branch = found.0

    pub branch_is : branch_at p keys ≡ Some branch
    unfolding branch
    branch_is = found.1

    pub offset : branch.offset ≡ key
    unfolding branch
    offset = found.2

    pub stands : StandsIn h root branch
    stands = branch-stands h root branch p keys branch_is w.stands

    pub seen : IsSeen h root branch.offset branch.node
    seen = stands.0

    pub looked : IsLooked h branch.offset branch.node
    looked = look-open h branch.offset branch.node seen.reads

    pub key_is : key_at h key ≡ Some branch.node.key
    key_is = subst (λ o. key_at h o ≡ Some branch.node.key) offset (key-looked h branch.offset branch.node seen.reads)

    pub branch_once : (z : ℕ) → total_of (owns z) branch + (times z ring + times z spare) ≤ allocated h z
    branch_once z = let l = branch-total (owns z) branch p keys branch_is in let e = w.exact z in omega (arith, l, e)

    -- each of its own cells is met once
    pub own_once : (z : ℕ) → owned z (cells_of branch.node) ≤ allocated h z
    own_once z = let l = branch_once z in omega (arith, l)

    pub shallow : length p + depth branch.below ≤ PATH_LIMIT
    shallow = let d = branch-depth branch p keys branch_is in let s = w.shallow in omega (arith, d, s)

    -- its security is in the ring
    pub secured : 0 < times branch.node.key.fields.security ring
    secured =
        let s = branch.node.key.fields.security in
        let own = shares-own h root branch.offset branch.node seen.reads in
        let all = branch-total (shares s) branch p keys branch_is in
        (w.ringed s).0 (omega (arith, own, all))

    -- what the tree has at its path
    pub rec_there : get (tree_of h keys) p ≡ Some (rec_of branch.node (descriptor_in h branch.node.key.fields.security))
    rec_there = rec_in p ∙ ap (option_map (λ (b : Branch Node). rec_of b.node (descriptor_in h b.node.key.fields.security))) branch_is
