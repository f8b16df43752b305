-- An image that was read, or a part of it.
use Rattle.std.proofs.Common.{◌≡◌, ℕ, ◌+◌, ◌<◌, ◌≤◌, ◌++◌, nat_le, nat_lt, true, false, Result, Ok, Err, IsOk, Some, None, List, length, take}
use Rattle.std.proofs.Common.{drop}
use Rattle.std.proofs.Common.{refl, sym, ap, ◌∙◌, subst, inl, inr, arith, length-append}
use Rattle.std.proofs.Math.Seq.{take-append_seam, drop-append_seam, take-length}
use Rattle.std.proofs.lemmas.Bool.Decides.{nat_tests}
use Rattle.reg_heap.specs.ByteWords.{word}
use Rattle.reg_heap.specs.Paths.{Tree}
use Rattle.reg_tree_image.specs.declared.LoadFault.{LoadFault}
use Rattle.reg_tree_image.specs.declared.LoadFault.TheVariants.{Read, Short, Limit, Memory}
use Rattle.reg_tree_image.specs.declared.block.BaseBlock.{BaseBlock}
use Rattle.reg_tree_image.specs.WalkSteps.{Seen, Step, ◌>>=◌, ◌>>◌, onward, check}
use Rattle.reg_tree_image.specs.BaseBlock.{block_walk}
use Rattle.reg_tree_image.specs.Images.{nothing, bins_walk, image_walk, tree_in, fault_in, loaded, fault_of}
use Rattle.reg_tree_image.specs.Loads.{asked_for, HasBlock, IsRefusedBy}
use Rattle.reg_tree_image.specs.Internal.InputParts.{IsCut, IsGivenUp}
use Rattle.reg_tree_image.specs.CrowdedBins.{AreCrowded}
use Rattle.reg_tree_image.specs.Internal.Stacks.{FailsAs}
use Rattle.reg_tree_image.proofs.Readers.BlockWords.{word-front, block-front}
use Rattle.reg_tree_image.proofs.Devices.FaultsOfSteps.{IsOfImage}
use Rattle.reg_tree_image.proofs.Devices.FaultsOfWalks.{bins-meet}
use Rattle.reg_tree_image.proofs.Devices.BlockTests.{block-meets, block-good}

pub at-least : (a b : ℕ) → a ≤ b → nat_le a b ≡ true
at-least a b l = grind (arith, nat_tests)

pub too-few : (a b : ℕ) → b < a → nat_le a b ≡ false
too-few a b l = grind (arith, nat_tests)

pub below : (a b : ℕ) → a < b → nat_lt a b ≡ true
below a b l = grind (arith, nat_tests)

pub not-below : (a b : ℕ) → b ≤ a → nat_lt a b ≡ false
not-below a b l = grind (arith, nat_tests)

-- what follows the base block
abbrev pub after-block : List ℕ → BaseBlock → Step (Unit {0})
after-block bytes block =
    check Short (nat_le (4096 + block.size) (length bytes)) >> bins_walk (take block.size (drop 4096 bytes)) block.minor block.root

-- the fault of the walk is that of the image
fault-is : (bytes : List ℕ) (fault : LoadFault) → image_walk bytes nothing ≡ Err fault → fault_of bytes ≡ Some fault
unfolding loaded
fault-is bytes fault e = ap (λ r. fault_in (tree_in r)) e

-- a walk that meets no fault
none-is : (bytes : List ℕ) → IsOk (image_walk bytes nothing) → fault_of bytes ≡ None
unfolding loaded
none-is bytes ok = by (image_walk bytes nothing) ok
  where
    by : (r : Result (Unit {0} × Seen) LoadFault) → IsOk r → fault_in (tree_in r) ≡ None
    by (Ok x) ok = refl
    by (Err fault) ok = absurd (cc)

-- ---- fewer bytes than a base block has

pub asked-first : (bytes : List ℕ) → length bytes < 4096 → asked_for bytes ≡ 4096
asked-first bytes l = rw (below (length bytes) 4096 l) refl

short-block : (bytes : List ℕ) → length bytes < 4096 → image_walk bytes nothing ≡ Err Short
unfolding image_walk
short-block bytes l = rw (too-few 4096 (length bytes) l) refl

pub refused-before-block : (IsBuilt : List ℕ → Type 0) (fault : LoadFault) (bytes : List ℕ) (left : _) → IsCut fault 4096 bytes left →
    (length bytes ≤ 268439552) × IsRefusedBy IsBuilt fault bytes left
refused-before-block IsBuilt Read bytes left k = (omega (arith, k), let a = asked-first bytes k in omega (arith, k, a))
refused-before-block IsBuilt Short bytes left k = (
  let l = k.0 in omega (arith, l),
  ((let a = asked-first bytes k.0 in let l = k.0 in omega (arith, l, a)), fault-is bytes Short (short-block bytes k.0), k.1),
)
refused-before-block IsBuilt fault bytes left k = absurd k

-- ---- a base block that doesn't pass

module _ (head : List ℕ) (long : length head ≡ 4096) where
  pub asked-bad : (fault : LoadFault) → block_walk head nothing ≡ Err fault → asked_for head ≡ 4096
  asked-bad fault e = let l = not-below (length head) 4096 (omega (arith, long)) in rw (l, e) refl

  bad-block : (fault : LoadFault) → block_walk head nothing ≡ Err fault → image_walk head nothing ≡ Err fault
  unfolding image_walk
  bad-block fault e =
      let l = at-least 4096 (length head) (omega (arith, long)) in
      ap (λ b. onward (λ _. block_walk head >>= after-block head) (check Short b nothing)) l ∙ ap (onward (after-block head)) e

  pub refused-at-block : (IsBuilt : List ℕ → Type 0) (fault : LoadFault) (left : _) → block_walk head nothing ≡ Err fault →
      (length head ≤ 268439552) × IsRefusedBy IsBuilt fault head left
  refused-at-block IsBuilt fault left e = (
    omega (arith, long),
    by fault e (fault-is head fault (bad-block fault e)) (block-meets head nothing fault e),
  )
    where
      by : (f : LoadFault) → block_walk head nothing ≡ Err f → fault_of head ≡ Some f → IsOfImage f → IsRefusedBy IsBuilt f head left
      by Read e w i = absurd i
      by Short e w i = absurd i
      by Memory e w i = absurd i
      by Limit e w i = (long ∙ sym (asked-bad Limit e), inl w)
      by f e w i = (long ∙ sym (asked-bad f e), w)

  -- ---- a base block that passes

  module _ (block : BaseBlock) (e : block_walk head nothing ≡ Ok (block, nothing)) (more : List ℕ) where
    front : take 4096 (head ++ more) ≡ head
    front = ap (λ n. take n (head ++ more)) (sym long) ∙ take-append_seam head more

    pub behind : drop 4096 (head ++ more) ≡ more
    behind = ap (λ n. drop n (head ++ more)) (sym long) ∙ drop-append_seam head more

    pub size-is : length (head ++ more) ≡ 4096 + length more
    size-is = length-append head more ∙ ap (λ n. n + length more) long

    pub block-is : block_walk (head ++ more) nothing ≡ Ok (block, nothing)
    block-is = sym (block-front (head ++ more) nothing) ∙ (ap (λ bytes. block_walk bytes nothing) front ∙ e)

    pub has-block : HasBlock (head ++ more)
    has-block = ((let s = size-is in omega (arith, s)), subst (λ (r : Result (BaseBlock × Seen) LoadFault). IsOk r) (sym block-is) refl)

    pub asked-good : asked_for (head ++ more) ≡ 4096 + block.size
    asked-good = let s = size-is in let l = not-below (length (head ++ more)) 4096 (omega (arith, s)) in rw (l, block-is) refl

    opened : image_walk (head ++ more) nothing ≡ after-block (head ++ more) block nothing
    unfolding image_walk
    opened =
        let s = size-is in
        let l = at-least 4096 (length (head ++ more)) (omega (arith, s)) in
        ap (λ b. onward (λ _. block_walk (head ++ more) >>= after-block (head ++ more)) (check Short b nothing)) l ∙
        ap (onward (after-block (head ++ more))) block-is

    its-bins : length more ≡ block.size → take block.size (drop 4096 (head ++ more)) ≡ more
    its-bins k = ap (take block.size) behind ∙ (ap (λ n. take n more) (sym k) ∙ take-length more)

    short-bins : length more < block.size → image_walk (head ++ more) nothing ≡ Err Short
    short-bins k =
        let s = size-is in
        opened ∙
        ap (λ b. onward (λ _. bins_walk (take block.size (drop 4096 (head ++ more))) block.minor block.root) (check Short b nothing))
        (too-few (4096 + block.size) (length (head ++ more)) (omega (arith, s, k)))

    pub whole-walked : length more ≡ block.size → image_walk (head ++ more) nothing ≡ bins_walk more block.minor block.root nothing
    whole-walked k =
        let s = size-is in
        opened ∙
        (ap (λ b. onward (λ _. bins_walk (take block.size (drop 4096 (head ++ more))) block.minor block.root) (check Short b nothing))
        (at-least (4096 + block.size) (length (head ++ more)) (omega (arith, s, k)))
        ∙ (ap (λ bytes. bins_walk (take block.size bytes) block.minor block.root nothing) behind
        ∙ ap (λ bytes. bins_walk bytes block.minor block.root nothing) (ap (λ n. take n more) (sym k) ∙ take-length more)))

    pub whole-loaded : (tree : Tree) → length more ≡ block.size → tree_in (bins_walk more block.minor block.root nothing) ≡ Ok tree →
        loaded (head ++ more) ≡ Ok tree
    unfolding loaded
    whole-loaded tree k w = ap tree_in (whole-walked k) ∙ w

    -- the image has as many bytes as its block says
    pub whole-size : length more ≡ block.size → length (head ++ more) ≡ 4096 + word (head ++ more) 40
    whole-size k = let s = size-is in let w = (block-good (head ++ more) block nothing nothing block-is).size in omega (arith, s, k, w)

    -- a number that its block has
    pub whole-numbered : (number : ℕ) → number ≡ word head 4 → number ≡ word (head ++ more) 4
    whole-numbered number is = is ∙ (ap (λ bytes. word bytes 4) (sym front) ∙ word-front 4096 4 (head ++ more) (omega arith))

    pub refused-before-bins : (IsBuilt : List ℕ → Type 0) (fault : LoadFault) (left : _) → block.size ≤ 268435456 → IsGivenUp fault block.size more left →
        (length (head ++ more) ≤ 268439552) × IsRefusedBy IsBuilt fault (head ++ more) left
    refused-before-bins IsBuilt Read left m k = let s = size-is in let a = asked-good in (omega (arith, s, k, m), omega (arith, s, k, a))
    refused-before-bins IsBuilt Short left m k =
        let s = size-is in
        let a = asked-good in
        let l = k.0 in (omega (arith, s, l, m), (omega (arith, s, l, a), fault-is (head ++ more) Short (short-bins k.0), k.1))
    refused-before-bins IsBuilt Memory left m k = let s = size-is in let a = asked-good in
        (omega (arith, s, k, m), (omega (arith, s, k, a), has-block))
    refused-before-bins IsBuilt fault left m k = absurd k

    pub refused-at-bins : (IsBuilt : List ℕ → Type 0) (fault : LoadFault) (left : _) → (fault ≡ Limit → IsBuilt (head ++ more)) →
        block.size ≤ 268435456 → length more ≡ block.size →
        FailsAs (IsOk (bins_walk more block.minor block.root nothing) × AreCrowded false more block.minor block.root) fault
        (bins_walk more block.minor block.root nothing) →
        (length (head ++ more) ≤ 268439552) × IsRefusedBy IsBuilt fault (head ++ more) left
    refused-at-bins IsBuilt fault left built m k w =
        let s = size-is in
        let a = asked-good in (omega (arith, s, k, m), by fault built (omega (arith, s, k, a)) w)
      where
        is : (f : LoadFault) → bins_walk more block.minor block.root nothing ≡ Err f → fault_of (head ++ more) ≡ Some f
        is f w = fault-is (head ++ more) f (whole-walked k ∙ w)

        by : (f : LoadFault) → (f ≡ Limit → IsBuilt (head ++ more)) → length (head ++ more) ≡ asked_for (head ++ more) →
            FailsAs (IsOk (bins_walk more block.minor block.root nothing) × AreCrowded false more block.minor block.root) f
            (bins_walk more block.minor block.root nothing) → IsRefusedBy IsBuilt f (head ++ more) left
        by Read b a w = absurd (bins-meet more block.minor block.root nothing Read w)
        by Short b a w = absurd (bins-meet more block.minor block.root nothing Short w)
        by Memory b a w = (omega (arith, a), has-block)
        by Limit b a (inl w) = (a, inl (is Limit w))
        by Limit b a (inr c) = (
          a,
          inr (
            none-is (head ++ more) (subst (λ (r : Result (Unit {0} × Seen) LoadFault). IsOk r) (sym (whole-walked k)) c.0),
            (block, block-is, subst (λ bytes. AreCrowded false bytes block.minor block.root) (sym (its-bins k)) c.1),
            b refl,
          ),
        )
        by f b a w = (a, is f w)
