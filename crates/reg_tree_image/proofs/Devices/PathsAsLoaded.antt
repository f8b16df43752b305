-- What is found along a path of an image that loads is that of its tree.
use Rattle.std.proofs.Common.{◌≡◌, ℕ, suc, ◌+◌, nat_le, Option, Some, Result, Ok, Err, List, [], length, take, drop, refl, sym, ap, ◌∙◌, subst}
use Rattle.reg_names.specs.declared.TheConstants.{PATH_LIMIT}
use Rattle.reg_heap.specs.Heaps.{Heap}
use Rattle.reg_heap.specs.Paths.{Tree}
use Rattle.reg_arena.specs.declared.Cell.{Cell}
use Rattle.reg_arena.specs.Cells.{BinPlace, bins_of, cells_of_bins, content_in}
use Rattle.reg_tree_image.specs.declared.LoadFault.{LoadFault}
use Rattle.reg_tree_image.specs.declared.LoadFault.TheVariants.{Read, Short, Bins, Cells, Memory}
use Rattle.reg_tree_image.specs.declared.block.BaseBlock.{BaseBlock}
use Rattle.reg_tree_image.specs.WalkSteps.{Seen, ◌>>=◌, ◌>>◌, onward, check, given}
use Rattle.reg_tree_image.specs.LoadingWalk.{key_from, root_path}
use Rattle.reg_tree_image.specs.BaseBlock.{block_walk}
use Rattle.reg_tree_image.specs.Images.{nothing, bins_walk, image_walk, tree_in, tree_told, loaded, fault_in}
use Rattle.reg_tree_image.specs.Loads.{IsOutside}
use Rattle.reg_tree_image.specs.PathLoads.{Walk, bins_path, image_path, result_in, looked_up, IsMissed, value_walk, IsValueOf, key_walk, IsKeyOf}
use Rattle.reg_tree_image.proofs.Devices.BlockTests.{block-names-nothing}
use Rattle.reg_tree_image.proofs.WalkedBack.BackSteps.{ok_is, bind-back, check-back, given-back}
use Rattle.reg_tree_image.proofs.WalkedBack.PathWalks.{value-answer}
use Rattle.reg_tree_image.proofs.WalkedBack.PathWalksListed.{key-answer}

-- a walk meets no fault, and finds what is that of a tree
pub record IsAnswered {A : Type 0} (IsOf : Tree → A → Type 0) (tree : Tree) (r : Result (A × Seen) LoadFault) : Type 0 where
  pub found : A
  pub later : Seen
  pub is : r ≡ Ok (found, later)
  pub of : IsOf tree found

-- it does so where the cells load
abbrev pub Answers : {A : Type 0} → Walk A → (Tree → A → Type 0) → Type 0
Answers walk IsOf =
    (heap : Heap) (minor levels root : ℕ) (seen : Seen) → key_from heap minor levels [] root_path root nothing ≡ Ok (tt, seen) →
    IsAnswered IsOf (tree_told seen) (walk heap minor root nothing)

pub value-answers : (names : List (List ℕ)) (name : List ℕ) → Answers (value_walk names name) (IsValueOf names name)
value-answers names name heap minor levels root seen e =
    let v = value-answer heap minor levels root seen e names name in record { found = _; later = v.0; is = v.1; of = refl }

pub key-answers : (names : List (List ℕ)) → Answers (key_walk names) (IsKeyOf names)
key-answers names heap minor levels root seen e =
    let k = key-answer heap minor levels root seen e names in record { found = k.found; later = k.later; is = k.is; of = k.lists }

module _ {A : Type 0} (walk : Walk A) (IsOf : Tree → A → Type 0) (answers : Answers walk IsOf) where
  -- in bins that load
  pub bins-answer : (bins : List ℕ) (minor root : ℕ) (seen : Seen) → bins_walk bins minor root nothing ≡ Ok (tt, seen) →
      IsAnswered IsOf (tree_told seen) (bins_path walk bins minor root nothing)
  unfolding bins_walk bins_path
  bins-answer bins minor root seen e =
      let keys = λ (cells : List Cell). key_from (content_in bins cells) minor (suc PATH_LIMIT) [] root_path root in
      let there = λ (cells : List Cell). walk (content_in bins cells) minor root in
      let o = given-back Bins (bins_of bins) (λ (places : List BinPlace). given Cells (cells_of_bins bins places) >>= keys) nothing tt seen e in
      let p = given-back Cells (cells_of_bins bins o.0) keys nothing tt seen o.2 in
      let v = answers (content_in bins p.0) minor (suc PATH_LIMIT) root seen p.2 in
      record {
        found = v.found;
        later = v.later;
        is = ap (λ places. onward (λ (places : List BinPlace). given Cells (cells_of_bins bins places) >>= there) (given Bins places nothing)) o.1
            ∙ (ap (λ cells. onward there (given Cells cells nothing)) p.1 ∙ v.is);
        of = v.of;
      }

  -- in an image that loads
  image-answer : (bytes : List ℕ) (seen : Seen) → image_walk bytes nothing ≡ Ok (tt, seen) → IsAnswered IsOf (tree_told seen) (image_path walk bytes nothing)
  unfolding image_walk image_path
  image-answer bytes seen e =
      let last = λ (block : BaseBlock). bins_walk (take block.size (drop 4096 bytes)) block.minor block.root in
      let behind = λ (block : BaseBlock). check Short (nat_le (4096 + block.size) (length bytes)) >> last block in
      let last-path = λ (block : BaseBlock). bins_path walk (take block.size (drop 4096 bytes)) block.minor block.root in
      let behind-path = λ (block : BaseBlock). check Short (nat_le (4096 + block.size) (length bytes)) >> last-path block in
      let a = check-back Short (nat_le 4096 (length bytes)) (block_walk bytes >>= behind) nothing tt seen e in
      let o = bind-back (block_walk bytes) behind nothing tt seen a.1 in
      let none : nothing ≡ o.mid = block-names-nothing bytes o.first nothing o.mid o.first_is in
      let b = check-back Short (nat_le (4096 + o.first.size) (length bytes)) (last o.first) o.mid tt seen o.then_is in
      let v = bins-answer (take o.first.size (drop 4096 bytes)) o.first.minor o.first.root seen
      (subst (λ (s : Seen). last o.first s ≡ Ok (tt, seen)) (sym none) b.1) in
      record {
        found = v.found;
        later = v.later;
        is = ap (λ t. onward (λ _. block_walk bytes >>= behind-path) (check Short t nothing)) a.0
            ∙ (ap (onward behind-path) o.first_is
            ∙ (ap (λ (s : Seen). behind-path o.first s) (sym none)
            ∙ (ap (λ t. onward (λ _. last-path o.first) (check Short t nothing)) b.0 ∙ v.is)));
        of = v.of;
      }

  as-loaded : (bytes : List ℕ) (tree : Tree) → loaded bytes ≡ Ok tree → (found : A) × (looked_up walk bytes ≡ Ok found) × IsOf tree found
  unfolding loaded looked_up
  as-loaded bytes tree e = by (image_walk bytes nothing) refl e
    where
      by : (r : Result (Unit {0} × Seen) LoadFault) → image_walk bytes nothing ≡ r → tree_in r ≡ Ok tree →
          (found : A) × (result_in (image_path walk bytes nothing) ≡ Ok found) × IsOf tree found
      by (Ok x) q e =
          let v = image-answer bytes x.1 q in
          (v.found, ap result_in v.is, subst (λ (t : Tree). IsOf t v.found) (ok_is (tree_told x.1) tree e) v.of)
      by (Err fault) q e = absurd (cc)

  -- so whatever was found is that
  pub found-as-loaded : (bytes : List ℕ) (found : A) → looked_up walk bytes ≡ Ok found → (tree : Tree) → loaded bytes ≡ Ok tree → IsOf tree found
  found-as-loaded bytes found e tree l =
      let v = as-loaded bytes tree l in subst (IsOf tree) (ok_is v.0 found (sym v.1 ∙ e)) v.2

  no-fault : (bytes : List ℕ) (tree : Tree) (fault : LoadFault) → loaded bytes ≡ Ok tree → fault_in (looked_up walk bytes) ≡ Some fault → ⊥
  no-fault bytes tree fault l f =
      let none = ap (fault_in {A = A}) (as-loaded bytes tree l).1 in absurd (cc)

  -- and no fault of the image is met
  pub missed-as-loaded : (fault : LoadFault) (bytes : List ℕ) (left : Option (List ℕ)) → IsMissed fault walk bytes left → (tree : Tree) →
      loaded bytes ≡ Ok tree → IsOutside fault
  missed-as-loaded Read bytes left m tree l = tt
  missed-as-loaded Memory bytes left m tree l = tt
  missed-as-loaded Short bytes left m tree l = absurd (no-fault bytes tree Short l m.1)
  missed-as-loaded fault bytes left m tree l = absurd (no-fault bytes tree fault l m.1)
