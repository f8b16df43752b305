-- Bins that pass the tests are a whole hive, and their tree is the one that the walk told.
use Rattle.std.proofs.Common.{◌≡◌, ℕ, suc, ◌<◌, Option, Some, Ok, IsSome, List, [], ◌∷◌, map, length, get_or, unwrap_or, is_some, refl, sym, ap, ◌∙◌, subst, arith}
use Rattle.std.specs.List.{AllByRecursion}
use Rattle.std.specs.Option.{option_map, option_and_then}
use Rattle.std.specs.FinMap.{empty}
use Rattle.reg_names.specs.declared.TheConstants.{PATH_LIMIT}
use Rattle.reg_heap.specs.Heaps.{Heap}
use Rattle.reg_heap.specs.Kinds.{times, shared}
use Rattle.reg_heap.specs.Paths.{Tree}
use Rattle.reg_arena.specs.declared.Cell.{Cell}
use Rattle.reg_arena.specs.Cells.{cells_of, cell_at}
use Rattle.reg_records.specs.KeyNodes.{KeyRecord, key_at}
use Rattle.reg_records.specs.KeySecurities.{security_at}
use Rattle.reg_shape.specs.Whole.{IsWritten, IsWhole, Whole, Meets, count_at}
use Rattle.reg_shape.specs.Spelt.{spelt}
use Rattle.reg_shape.specs.Internal.Shapes.{tree_of}
use Rattle.reg_shape.proofs.Lookup.LookupOfShape.{key-looked}
use Rattle.reg_shape.proofs.Wholeness.AllocatedCells.{spelt-in}
use Rattle.reg_tree.specs.TreeKeys.{IsWholeWith, tree_in as tree_at}
use Rattle.reg_tree.proofs.Invariant.ShapesOfWholeHives.{its_keys, shape-of-whole}
use Rattle.reg_written.specs.ReadKeys.{IsRead, security_in}
use Rattle.reg_written.specs.SecurityRings.{IsRingOf}
use Rattle.reg_tree_image.specs.WalkSteps.{Seen}
use Rattle.reg_tree_image.specs.LoadingWalk.{root_path, key_from}
use Rattle.reg_tree_image.specs.Images.{nothing, bins_walk, tree_in}
use Rattle.reg_tree_image.specs.Internal.KeysNamed.{key_offsets}
use Rattle.reg_tree_image.specs.Internal.WholeTests.{IsMet}
use Rattle.reg_tree_image.proofs.CleanWalks.CleanHives.{hive-walked, hive-told}
use Rattle.reg_tree_image.proofs.CleanWalks.CleanImages.{bins-walked}
use Rattle.reg_tree_image.proofs.WalkedBack.BackKeys.{walked-back}
use Rattle.reg_tree_image.proofs.WalkedBack.BackDepth.{depth-back}
use Rattle.reg_tree_image.proofs.WalkedBack.AllMet.{meets-there}
use Rattle.reg_tree_image.proofs.WalkedBack.KeyOffsets.{of-keys}
use Rattle.reg_tree_image.proofs.WalkedBack.ReadKeys.{all-read}
use Rattle.reg_tree_image.proofs.WalkedBack.ReadKeysEach.{IsSecured, all-secured}
use Rattle.reg_tree_image.proofs.WalkedBack.WholePasses.{passes-keys, passes-ring}
use Rattle.reg_tree_image.proofs.WalkedBack.UsedShares.{used_in, used-shared}
use Rattle.reg_tree_image.proofs.WalkedBack.ShortClasses.{spelt-short}

-- what the walk of an image found, where it met no fault
module _ (heap : Heap) (root : ℕ) (seen : Seen) (e : key_from heap 5 (suc PATH_LIMIT) [] root_path root nothing ≡ Ok (tt, seen)) where
  keys-there : (os : List ℕ) → AllByRecursion (IsRead heap) os → AllByRecursion (λ (o : ℕ). IsSome (key_at heap o)) os
  keys-there [] a = tt
  keys-there (o ∷ os) a = (ap is_some (key-looked heap o a.0.node a.0.seen), keys-there os a.1)

  pub its-shares : (z : ℕ) → shared z seen.found ≡ times z (used_in heap seen.found)
  its-shares z =
      let w = walked-back heap 5 (suc PATH_LIMIT) root tt seen refl e in
      used-shared w.fuel z root heap seen.found w.walked (keys-there (key_offsets seen.found) (all-read heap 5 refl (suc PATH_LIMIT) root seen e))

  -- where all cells were met, the keys are as they are written, and their securities form a ring, the hive is whole
  module _ (met : (o : ℕ) → IsSome (heap o) → Meets seen.found o)
      (keys : AllByRecursion (IsWritten heap root) (key_offsets seen.found)) (ring : List ℕ) (r : IsRingOf heap (used_in heap seen.found) ring) where
    abbrev its_fuel : ℕ
    its_fuel = (walked-back heap 5 (suc PATH_LIMIT) root tt seen refl e).fuel

    counted : (os : List ℕ) → AllByRecursion (λ (o : ℕ). count_at heap o ≡ Some (times o (used_in heap seen.found))) os → AllByRecursion (λ (o : ℕ). count_at heap o ≡ Some (shared o seen.found)) os
    counted [] a = tt
    counted (o ∷ os) a = (a.0 ∙ ap Some (sym (its-shares o)), counted os a.1)

    pub is-whole : IsWhole heap its_fuel root
    is-whole =
        let w = walked-back heap 5 (suc PATH_LIMIT) root tt seen refl e in
        record {
          found = seen.found;
          walked = w.walked;
          once = w.once;
          exact = λ o. (meets-there heap seen.found o w.there, met o);
          ring = ring;
          closed = r.closed;
          ringed = λ o. ((λ l. (r.members o).0 (let s = its-shares o in omega (arith, s, l))), (λ l. let m = (r.members o).1 l in let s = its-shares o in omega (arith, s, m)));
          counts = counted ring r.counts;
          keys = of-keys (IsWritten heap root) seen.found keys;
          depth = λ spelled s. depth-back heap 5 refl (suc PATH_LIMIT) its_fuel [] root_path root nothing tt seen spelled e s;
        }

-- the tree that the records of a whole hive spell is the one that the walk of its bins tells
module _ (bins : List ℕ) (root fuel : ℕ) (cells : List Cell) (c : cells_of bins ≡ Some cells) (w : IsWhole (cell_at bins) fuel root) where
  spelt-is : spelt (length cells) (cell_at bins) root ≡ Some (tree_of (cell_at bins) (its_keys (cell_at bins) fuel root w))
  spelt-is = spelt-in bins root (its_keys (cell_at bins) fuel root w) w.ring cells c (shape-of-whole (cell_at bins) fuel root w)

  tree-is : tree_at bins root ≡ tree_of (cell_at bins) (its_keys (cell_at bins) fuel root w)
  unfolding tree_at
  tree-is =
      ap (λ (o : Option (List Cell)). unwrap_or (option_and_then (λ (cells : List Cell). spelt (length cells) (cell_at bins) root) o) empty) c
      ∙ ap (λ (o : Option Tree). unwrap_or o empty) spelt-is

  pub tree-told : tree_in (bins_walk bins 5 root nothing) ≡ Ok (tree_at bins root)
  tree-told =
      let shape = shape-of-whole (cell_at bins) fuel root w in
      let keys = its_keys (cell_at bins) fuel root w in
      ap tree_in (bins-walked bins cells 5 root nothing c ∙ hive-walked (cell_at bins) root keys w.ring shape)
      ∙ (ap Ok (hive-told (cell_at bins) root keys w.ring shape) ∙ ap Ok (sym tree-is))

  pub whole-with : ((i : ℕ) → get_or bins i 0 < 256) → IsWholeWith bins root w.ring
  whole-with bytes = record {
    fuel = fuel;
    whole = w;
    ring_is = refl;
    short = λ p r g. spelt-short bins bytes (length cells) root (tree_at bins root) (spelt-is ∙ ap Some (sym tree-is)) p r g;
  }

-- ---- what the code takes of it

module _ (bins : List ℕ) (root : ℕ) (keys : List ℕ) (m : IsMet bins root keys) where
  pub keys-read : AllByRecursion (IsRead (cell_at bins)) keys
  keys-read = subst (AllByRecursion (IsRead (cell_at bins))) (sym m.keys_are) (all-read (cell_at bins) 5 refl (suc PATH_LIMIT) root m.seen m.walked)

  secured : (os : List ℕ) → AllByRecursion (IsSecured (cell_at bins)) os → AllByRecursion (λ (o : ℕ). IsSome (security_at (cell_at bins) o)) (map (security_in (cell_at bins)) os)
  secured [] a = tt
  secured (o ∷ os) a =
      let key = ap (λ (k : Option KeyRecord). unwrap_or (option_map (λ (k : KeyRecord). k.fields.security) k) 0) (key-looked (cell_at bins) o a.0.0 a.0.1) in
      (subst (λ (z : ℕ). IsSome (security_at (cell_at bins) z)) (sym key) a.0.2, secured os a.1)

  pub securities-read : AllByRecursion (λ (o : ℕ). IsSome (security_at (cell_at bins) o)) (map (security_in (cell_at bins)) keys)
  securities-read =
      subst (λ (os : List ℕ). AllByRecursion (λ (o : ℕ). IsSome (security_at (cell_at bins) o)) (map (security_in (cell_at bins)) os)) (sym m.keys_are)
      (secured (key_offsets m.seen.found) (all-secured (cell_at bins) 5 refl (suc PATH_LIMIT) root m.seen m.walked))

  module _ (written : AllByRecursion (IsWritten (cell_at bins) root) keys) (ring : List ℕ) (r : IsRingOf (cell_at bins) (map (security_in (cell_at bins)) keys) ring) where
    abbrev its_ring : IsRingOf (cell_at bins) (used_in (cell_at bins) m.seen.found) ring
    its_ring = subst (λ (os : List ℕ). IsRingOf (cell_at bins) (map (security_in (cell_at bins)) os) ring) m.keys_are r

    abbrev its_keys_written : AllByRecursion (IsWritten (cell_at bins) root) (key_offsets m.seen.found)
    its_keys_written = subst (AllByRecursion (IsWritten (cell_at bins) root)) m.keys_are written

    pub met-whole : ((i : ℕ) → get_or bins i 0 < 256) → IsWholeWith bins root ring
    unfolding is-whole
    met-whole bytes =
        whole-with bins root _ m.cells m.cells_are (is-whole (cell_at bins) root m.seen m.walked m.met its_keys_written ring its_ring) bytes

    pub met-told : tree_in (bins_walk bins 5 root nothing) ≡ Ok (tree_at bins root)
    met-told = tree-told bins root _ m.cells m.cells_are (is-whole (cell_at bins) root m.seen m.walked m.met its_keys_written ring its_ring)

  -- where the hive is whole, the tests say so
  pub whole-keys : Whole bins root → AllByRecursion (IsWritten (cell_at bins) root) keys
  whole-keys w = subst (AllByRecursion (IsWritten (cell_at bins) root)) (sym m.keys_are) (passes-keys bins root w 5 refl m.seen m.walked)

  pub whole-ring : (w : Whole bins root) → IsRingOf (cell_at bins) (map (security_in (cell_at bins)) keys) w.whole.ring
  whole-ring w =
      subst (λ (os : List ℕ). IsRingOf (cell_at bins) (map (security_in (cell_at bins)) os) w.whole.ring) (sym m.keys_are) (passes-ring bins root w 5 refl m.seen m.walked)
