-- What is met, counted: all that the keys of a shape have, and no more.
use Rattle.std.proofs.Common.{◌≡◌, ℕ, zero, suc, ◌+◌, List, [], ◌∷◌, ◌++◌, map, flat_map, length, take, drop, refl, ap, ◌∙◌, arith, length-append, length-drop}
use Rattle.reg_heap.specs.Heaps.{Heap}
use Rattle.reg_heap.specs.Kinds.{Found, tally}
use Rattle.reg_shape.specs.Internal.Forests.{Forest, Branch, heads, total, total_of, Stand}
use Rattle.reg_shape.specs.Internal.Forests.Forest.{End, Rooted as Hangs}
use Rattle.reg_records.specs.SubkeyLists.{Entry, offsets_in}
use Rattle.reg_shape.specs.Nodes.{Node, KeyList, Index, entries_of}
use Rattle.reg_shape.specs.Nodes.Index.{Unlisted, Listed, Rooted}
use Rattle.reg_shape.specs.Written.{Fits}
use Rattle.reg_shape.specs.Internal.Shapes.{joined, lists_met, index_met, index_cells, cells_of, traces, trace, IsSeen, StandsIn}

module _ (m : Found → ℕ) where
  pub tally-append : (xs ys : List Found) → tally m (xs ++ ys) ≡ tally m xs + tally m ys
  tally-append [] ys = omega arith
  tally-append (x ∷ xs) ys = let e = tally-append xs ys in omega arith

  tally-split : (n : ℕ) (ts : List (List Found)) → tally m (joined ts) ≡ tally m (joined (take n ts)) + tally m (joined (drop n ts))
  tally-split zero ts = omega arith
  tally-split (suc n) [] = refl
  tally-split (suc n) (t ∷ ts) =
      let e = tally-split n ts in
      let a = tally-append t (joined ts) in
      let b = tally-append t (joined (take n ts)) in
      omega arith

  pub nothing-met : (lists : List KeyList) (n : ℕ) → tally m (lists_met lists (drop n [])) ≡ tally m (lists_met lists [])
  nothing-met lists zero = refl
  nothing-met lists (suc n) = refl

  pub nothing-taken : (n : ℕ) → tally m (joined (take n [])) ≡ 0
  nothing-taken zero = refl
  nothing-taken (suc n) = refl

  no-traces : (ts : List (List Found)) → length ts ≡ 0 → tally m (joined ts) ≡ 0
  no-traces [] e = refl
  no-traces (t ∷ ts) e = absurd (omega arith)

  -- lists of keys: what is met below the keys comes between
  tally-lists : (lists : List KeyList) (ts : List (List Found)) → length ts ≡ length (flat_map (λ (l : KeyList). l.list.entries) lists) →
      tally m (lists_met lists ts) ≡ tally m (lists_met lists []) + tally m (joined ts)
  tally-lists [] ts e = let z = no-traces ts e in omega arith
  tally-lists (list ∷ lists) ts e =
      let n = length list.list.entries in
      let sum : length ts ≡ n + length (flat_map (λ (l : KeyList). l.list.entries) lists) = e ∙ length-append list.list.entries (flat_map (λ (l : KeyList). l.list.entries) lists) in
      let rest = tally-lists lists (drop n ts) (length-drop n ts ∙ (let s = sum in omega arith)) in
      let one = tally-append (joined (take n ts)) (lists_met lists (drop n ts)) in
      let two = tally-append (joined (take n [])) (lists_met lists (drop n [])) in
      let none = nothing-taken n in
      let same = nothing-met lists n in
      let parts = tally-split n ts in
      omega arith

  -- an index: its lists' cells, and what is met below the keys
  tally-index : (index : Index) (ts : List (List Found)) → length ts ≡ length (entries_of index) → tally m (index_met index ts) ≡ tally m (index_cells index) + tally m (joined ts)
  tally-index Unlisted ts e = let z = no-traces ts e in omega arith
  tally-index (Listed list) ts e = omega arith
  tally-index (Rooted offset lists) ts e = let l = tally-lists lists ts e in omega arith

  length-traces : (F : Forest Node) → length (traces F) ≡ length (map (λ (e : ℕ × Node). e.0) (heads F))
  length-traces End = refl
  length-traces (Hangs offset node below beside) = ap suc (length-traces beside)

  length-offsets : (entries : List Entry) → length (offsets_in entries) ≡ length entries
  length-offsets [] = refl
  length-offsets (e ∷ entries) = ap suc (length-offsets entries)

  module _ (heap : Heap) (root : ℕ) where
    -- a key: its own cells, and what is met below it
    tally-key : (offset : ℕ) (node : Node) (below : Forest Node) → Fits offset node (heads below) →
        tally m (node.cells ++ index_met node.index (traces below)) ≡ tally m (cells_of node) + tally m (joined (traces below))
    tally-key offset node below fits =
        let long : length (traces below) ≡ length (entries_of node.index) = length-traces below ∙ (ap length fits.offsets ∙ length-offsets (entries_of node.index)) in
        let index = tally-index node.index (traces below) long in
        let one = tally-append node.cells (index_met node.index (traces below)) in
        let two = tally-append node.cells (index_cells node.index) in
        omega arith

    -- all keys of a forest
    pub tally-forest : (F : Forest Node) → Stand (IsSeen heap root) Fits F → tally m (joined (traces F)) ≡ total (λ offset node. tally m (cells_of node)) F
    tally-forest End a = refl
    tally-forest (Hangs offset node below beside) a =
        let one = tally-append (node.cells ++ index_met node.index (traces below)) (joined (traces beside)) in
        let key = tally-key offset node below a.0.1 in
        let under = tally-forest below a.0.2 in
        let next = tally-forest beside a.1 in
        omega arith

    -- a key with all below it
    pub tally-branch : (branch : Branch Node) → StandsIn heap root branch → tally m (trace branch) ≡ total_of (λ offset node. tally m (cells_of node)) branch
    tally-branch branch a =
        let key = tally-key branch.offset branch.node branch.below a.1 in
        let under = tally-forest branch.below a.2 in
        omega arith
