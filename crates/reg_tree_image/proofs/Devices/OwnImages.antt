-- A reader whose bytes hold the image of a whole hive: what is read of it is that image, and it meets only faults that no bytes are to blame for.
use Rattle.std.proofs.Common.{◌≡◌, ℕ, ◌+◌, ◌<◌, ◌≤◌, ◌%◌, ◌==◌, ◌&&◌, nat_le, nat_lt, Bool, true, Option, Some, None, Ok, List}
use Rattle.std.proofs.Common.{◌++◌, append_assoc, length, length-append, take, drop, refl, sym, ap, ◌∙◌, subst, arith}
use Rattle.std.specs.Io.KnownBytes.{Consumes, IsAtEnd}
use Rattle.std.proofs.Math.Seq.{take-append_seam, drop-append_seam}
use Rattle.std.proofs.lemmas.Bool.Decides.{nat_tests}
use Rattle.reg_heap.specs.ByteWords.{word}
use Rattle.reg_arena.specs.Cells.{cell_at}
use Rattle.reg_shape.specs.Whole.{Whole}
use Rattle.reg_shape.proofs.Walking.WalkRefinement.{look-open}
use Rattle.reg_tree.proofs.Invariant.ShapesOfWholeHives.{branch}
use Rattle.reg_tree_image.specs.declared.LoadFault.{LoadFault}
use Rattle.reg_tree_image.specs.declared.LoadFault.TheVariants.{Read, Short, Signature, Version, Checksum, Dirty, Bins, Limit, Memory}
use Rattle.reg_tree_image.specs.WalkSteps.{Seen, Step, ◌>>◌, onward, check}
use Rattle.reg_tree_image.specs.BaseBlock.{block_of, block_walk}
use Rattle.reg_tree_image.specs.Images.{image_of, nothing}
use Rattle.reg_tree_image.specs.Loads.{HoldsOwn, IsOutside}
use Rattle.reg_tree_image.specs.Internal.InputParts.{IsCut, IsGivenUp}
use Rattle.reg_tree_image.proofs.NamedCells.CellContents.{content-is}
use Rattle.reg_tree_image.proofs.Readers.BlockWords.{block-front}
use Rattle.reg_tree_image.proofs.CleanWalks.CleanImages.{IsBlock, image-block}
use Rattle.reg_tree_image.proofs.CleanWalks.WholeImages.{pages}

-- ---- a base block whose words are those of an image passes

pass : {B : Type 0} (fault : LoadFault) (b : Bool) (t : Step B) (seen : Seen) → b ≡ true → (check fault b >> t) seen ≡ t seen
pass fault b t seen e = ap (λ c. onward (λ _. t) (check fault c seen)) e

equal : (a b : ℕ) → a ≡ b → (a == b) ≡ true
equal a b e = grind (arith, nat_tests)

less : (a b : ℕ) → a ≤ b → nat_le a b ≡ true
less a b l = grind (arith, nat_tests)

under : (a b : ℕ) → a < b → nat_lt a b ≡ true
under a b l = grind (arith, nat_tests)

both : (a b : Bool) → a ≡ true → b ≡ true → (a && b) ≡ true
both a b p q = ap (λ c. c && b) p ∙ q

block-passes : (bytes : List ℕ) (size root : ℕ) (seen : Seen) → IsBlock bytes size root →
    block_walk bytes seen ≡ Ok (record { minor = 5; root = root; size = size }, seen)
block-passes bytes size root seen b =
    pass Signature _ _ seen (equal _ _ b.signature)
    ∙ (pass Version _ _ seen b.version
    ∙ (pass Checksum _ _ seen (equal _ _ b.checksum)
    ∙ (pass Dirty _ _ seen (equal _ _ b.sequence)
    ∙ (pass Bins _ _ seen (both _ _ (under 0 (word bytes 40) (subst (λ n. 0 < n) (sym b.size_is) b.some)) (equal _ _ (ap (λ n. n % 4096) b.size_is ∙ b.pages)))
    ∙ (pass Limit _ _ seen (less _ _ (subst (λ n. n ≤ 268435456) (sym b.size_is) b.few))
    ∙ (ap (λ n. Ok (record { minor = n; root = word bytes 36; size = word bytes 40 }, seen)) b.minor
    ∙ (ap (λ n. Ok (record { minor = 5; root = n; size = word bytes 40 }, seen)) b.root_is
    ∙ ap (λ n. Ok (record { minor = 5; root = root; size = n }, seen)) b.size_is)))))))

-- ---- parts of bytes

-- equal bytes, of which as many are taken, begin alike and go on alike
fronts : (a b c d : List ℕ) → a ++ b ≡ c ++ d → length a ≡ length c → a ≡ c
fronts a b c d e l =
    sym (take-append_seam a b) ∙ (ap (take (length a)) e ∙ (ap (λ n. take n (c ++ d)) l ∙ take-append_seam c d))

backs : (a b c d : List ℕ) → a ++ b ≡ c ++ d → length a ≡ length c → b ≡ d
backs a b c d e l =
    sym (drop-append_seam a b) ∙ (ap (drop (length a)) e ∙ (ap (λ n. drop n (c ++ d)) l ∙ drop-append_seam c d))

-- what a reader gave to its end is all that it had
all-given : (bytes piece : List ℕ) (left : Option (List ℕ)) → Consumes (Some bytes) left piece → IsAtEnd left → length bytes ≡ length piece
all-given bytes piece (Some xs) c e =
    ap length c ∙ (length-append piece xs ∙ (let n : length xs ≡ 0 = ap length e in omega (arith, n)))
all-given bytes piece None c e = absurd c

pub block-length : (size root moment sequence : ℕ) → length (block_of size root moment sequence) ≡ 4096
unfolding block_of
block-length size root moment sequence = refl

parts-of : (bins : List ℕ) (root moment sequence : ℕ) → image_of bins root moment sequence ≡ block_of (length bins) root moment sequence ++ bins
unfolding image_of
parts-of bins root moment sequence = refl

-- ---- what a whole hive says of its root and its bins

module _ (bins : List ℕ) (root : ℕ) (w : Whole bins root) where
  root-within : (root < length bins) × (0 < length bins)
  root-within =
      let l = look-open (cell_at bins) root (branch (cell_at bins) (length w.cells) root w.whole).node (branch (cell_at bins) (length w.cells) root w.whole).seen.reads in
      let held = content-is bins root l.content l.here in
      let a = held.eight in
      let b = held.within in (omega (arith, a, b), omega (arith, a, b))

-- ---- the image

module _ (bytes : List ℕ) (own : HoldsOwn bytes) where
  abbrev block : List ℕ
  block = block_of (length own.bins) own.root own.moment own.sequence

  abbrev image : List ℕ
  image = image_of own.bins own.root own.moment own.sequence

  long : length block ≡ 4096
  long = block-length (length own.bins) own.root own.moment own.sequence

  parted : bytes ≡ block ++ (own.bins ++ own.rest)
  parted = own.is ∙ (ap (λ xs. xs ++ own.rest) (parts-of own.bins own.root own.moment own.sequence) ∙ append_assoc block own.bins own.rest)

  size-is : length bytes ≡ 4096 + (length own.bins + length own.rest)
  size-is = ap length parted ∙ (length-append block (own.bins ++ own.rest) ∙
      (ap (λ n. n + length (own.bins ++ own.rest)) long ∙ ap (λ n. 4096 + n) (length-append own.bins own.rest)))

  image-passes : block_walk image nothing ≡ Ok (record { minor = 5; root = own.root; size = length own.bins }, nothing)
  image-passes =
      let few = own.arena.small in
      let w = root-within own.bins own.root own.whole in
      let r = w.0 in
      block-passes image (length own.bins) own.root nothing
      (image-block own.bins own.root own.moment own.sequence (omega (arith, r, few)) few w.1 (pages own.bins own.root own.whole))

  block-passed : block_walk block nothing ≡ Ok (record { minor = 5; root = own.root; size = length own.bins }, nothing)
  block-passed =
      let front : take 4096 image ≡ block =
      ap (take 4096) (parts-of own.bins own.root own.moment own.sequence) ∙
      (ap (λ n. take n (block ++ own.bins)) (sym long) ∙ take-append_seam block own.bins) in
      ap (λ xs. block_walk xs nothing) (sym front) ∙ (block-front image nothing ∙ image-passes)

  -- fewer bytes than a base block has are no image
  pub own-cut : (fault : LoadFault) (piece : List ℕ) (left : Option (List ℕ)) → Consumes (Some bytes) left piece →
      IsCut fault 4096 piece left → IsOutside fault
  own-cut Read piece left c k = tt
  own-cut Short piece left c k =
      let l = k.0 in
      let s = size-is in let n = all-given bytes piece left c k.1 in absurd (omega (arith, l, s, n))
  own-cut fault piece left c k = absurd k

  -- the first 4,096 bytes are the image's base block
  head-is : (head : List ℕ) (left : Option (List ℕ)) → Consumes (Some bytes) left head → length head ≡ 4096 → head ≡ block
  head-is head (Some xs) c k = fronts head xs block (own.bins ++ own.rest) (sym c ∙ parted) (k ∙ sym long)
  head-is head None c k = absurd c

  -- its tests pass, and tell the root and the size of the bins
  pub own-block : (head : List ℕ) (left : Option (List ℕ)) → Consumes (Some bytes) left head → length head ≡ 4096 →
      block_walk head nothing ≡ Ok (record { minor = 5; root = own.root; size = length own.bins }, nothing)
  own-block head left c k = ap (λ xs. block_walk xs nothing) (head-is head left c k) ∙ block-passed

  -- fewer bytes than the bins have are no image
  pub own-given-up : (head piece : List ℕ) (mid left : Option (List ℕ)) (fault : LoadFault) → Consumes (Some bytes) mid head →
      length head ≡ 4096 → Consumes mid left piece → IsGivenUp fault (length own.bins) piece left → IsOutside fault
  own-given-up head piece mid left Read c k d g = tt
  own-given-up head piece mid left Memory c k d g = tt
  own-given-up head piece (Some xs) left Short c k d g =
      let l = g.0 in
      let s = size-is in
      let e : length bytes ≡ length head + length xs = ap length c ∙ length-append head xs in
      let n = all-given xs piece left d g.1 in absurd (omega (arith, l, s, e, k, n))
  own-given-up head piece None left Short c k d g = absurd c
  own-given-up head piece mid left fault c k d g = absurd g

  -- the bytes behind it, as many as its bins have, are these
  pub own-bins : (head b : List ℕ) (mid left : Option (List ℕ)) → Consumes (Some bytes) mid head → length head ≡ 4096 →
      Consumes mid left b → length b ≡ length own.bins → b ≡ own.bins
  own-bins head b (Some xs) (Some ys) c k d n =
      let behind : xs ≡ own.bins ++ own.rest = backs head xs block (own.bins ++ own.rest) (sym c ∙ parted) (k ∙ sym long) in
      fronts b ys own.bins own.rest (sym d ∙ behind) n
  own-bins head b (Some xs) None c k d n = absurd d
  own-bins head b None left c k d n = absurd c
