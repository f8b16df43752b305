-- What passes the tests of a base block, and what doesn't.
use Rattle.std.proofs.Common.{◌≡◌, ℕ, ◌<◌, ◌≤◌, ◌%◌, ◌==◌, ◌&&◌, nat_le, nat_lt, Bool, true, false, Ok, List, refl, sym, ap, ◌∙◌, subst, arith}
use Rattle.std.proofs.lemmas.Bool.Decides.{nat_tests}
use Rattle.reg_heap.specs.ByteWords.{word}
use Rattle.reg_tree_image.specs.declared.LoadFault.{LoadFault}
use Rattle.reg_tree_image.specs.declared.LoadFault.TheVariants.{Signature, Version, Checksum, Dirty, Bins, Limit}
use Rattle.reg_tree_image.specs.declared.block.BaseBlock.{BaseBlock}
use Rattle.reg_tree_image.specs.WalkSteps.{Seen, Step, ◌>>◌, give, check}
use Rattle.reg_tree_image.specs.BaseBlock.{is_version, checksum_of, block_walk}
use Rattle.reg_tree_image.proofs.Devices.FaultsOfSteps.{Meets, meets-check, meets-give, meets-then}

-- the tests meet no fault but those of an image
pub block-meets : (bytes : List ℕ) → Meets (block_walk bytes)
block-meets bytes =
    meets-then (check Signature _) _ (meets-check Signature _ tt)
    (meets-then (check Version _) _ (meets-check Version _ tt)
    (meets-then (check Checksum _) _ (meets-check Checksum _ tt)
    (meets-then (check Dirty _) _ (meets-check Dirty _ tt)
    (meets-then (check Bins _) _ (meets-check Bins _ tt)
    (meets-then (check Limit _) _ (meets-check Limit _ tt) (meets-give _))))))

-- a test that was passed
pub passes : {A : Type 0} (fault : LoadFault) (b : Bool) (t : Step A) (seen : Seen) (x : A × Seen) → (check fault b >> t) seen ≡ Ok x →
    (b ≡ true) × (t seen ≡ Ok x)
passes fault true t seen x e = (refl, e)
passes fault false t seen x e = absurd (cc)

-- what is known of a block that passes
pub record IsGood (bytes : List ℕ) (block : BaseBlock) : Type 0 where
  pub size : block.size ≡ word bytes 40
  pub some : 0 < block.size
  pub pages : block.size % 4096 ≡ 0
  pub small : block.size ≤ 268435456

sized : (size : ℕ) → (nat_lt 0 size && (size % 4096 == 0)) ≡ true → size % 4096 ≡ 0
sized size e = grind (arith, nat_tests)

positive : (size : ℕ) → (nat_lt 0 size && (size % 4096 == 0)) ≡ true → 0 < size
positive size e = grind (arith, nat_tests)

few : (size : ℕ) → nat_le size 268435456 ≡ true → size ≤ 268435456
few size e = grind (arith, nat_tests)

pub block-good : (bytes : List ℕ) (block : BaseBlock) (seen after : Seen) → block_walk bytes seen ≡ Ok (block, after) → IsGood bytes block
block-good bytes block seen after e =
    let a = passes Signature (word bytes 0 == 0x66676572) _ seen (block, after) e in
    let b = passes Version (is_version bytes) _ seen (block, after) a.1 in
    let c = passes Checksum (word bytes 508 == checksum_of bytes) _ seen (block, after) b.1 in
    let d = passes Dirty (word bytes 4 == word bytes 8) _ seen (block, after) c.1 in
    let f = passes Bins (nat_lt 0 (word bytes 40) && (word bytes 40 % 4096 == 0)) _ seen (block, after) d.1 in
    let l = passes Limit (nat_le (word bytes 40) 268435456) _ seen (block, after) f.1 in
    let is : block.size ≡ word bytes 40 =
    sym (sizes (record { minor = word bytes 24; root = word bytes 36; size = word bytes 40 }) seen l.1) in
    record {
      size = is;
      some = subst (λ n. 0 < n) (sym is) (positive (word bytes 40) f.0);
      pages = ap (λ n. n % 4096) is ∙ sized (word bytes 40) f.0;
      small = subst (λ n. n ≤ 268435456) (sym is) (few (word bytes 40) l.0);
    }
  where
    sizes : (b : BaseBlock) (s : Seen) → give b s ≡ Ok (block, after) → b.size ≡ block.size
    sizes b s e =
        let p : BaseBlock × Seen = (b, s) in
        let q : BaseBlock × Seen = (block, after) in
        let same : p ≡ q = cc in
        ap (λ (x : BaseBlock × Seen). x.0.size) same

-- the tests name nothing
pub block-names-nothing : (bytes : List ℕ) (block : BaseBlock) (seen after : Seen) → block_walk bytes seen ≡ Ok (block, after) → seen ≡ after
block-names-nothing bytes block seen after e =
    let a = passes Signature (word bytes 0 == 0x66676572) _ seen (block, after) e in
    let b = passes Version (is_version bytes) _ seen (block, after) a.1 in
    let c = passes Checksum (word bytes 508 == checksum_of bytes) _ seen (block, after) b.1 in
    let d = passes Dirty (word bytes 4 == word bytes 8) _ seen (block, after) c.1 in
    let f = passes Bins (nat_lt 0 (word bytes 40) && (word bytes 40 % 4096 == 0)) _ seen (block, after) d.1 in
    let l = passes Limit (nat_le (word bytes 40) 268435456) _ seen (block, after) f.1 in
    same (record { minor = word bytes 24; root = word bytes 36; size = word bytes 40 }) l.1
  where
    same : (b : BaseBlock) → give b seen ≡ Ok (block, after) → seen ≡ after
    same b e =
        let p : BaseBlock × Seen = (b, seen) in
        let q : BaseBlock × Seen = (block, after) in
        let same : p ≡ q = cc in
        ap (λ (x : BaseBlock × Seen). x.1) same
