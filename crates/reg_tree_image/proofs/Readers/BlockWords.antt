-- The words of a base block: counted from the last to the first, and the same in the image that it begins.
use Rattle.std.proofs.Common.{◌≡◌, ℕ, zero, suc, ◌+◌, ◌-◌, ◌*◌, ◌%◌, ◌<◌, ◌≤◌, ◌==◌, ◌&&◌, nat_le, nat_lt, bit_xor, Bool, List, take, drop}
use Rattle.std.proofs.Common.{refl, sym, ap, ◌∙◌, arith}
use Rattle.std.proofs.lemmas.List.{drop-take}
use Rattle.byteorder.specs.Endian.{little_number}
use Rattle.byteorder.specs.Numbers.{little_from-take}
use Rattle.reg_heap.specs.ByteWords.{word}
use Rattle.reg_tree_image.specs.declared.LoadFault.TheVariants.{Signature, Version, Checksum, Dirty, Bins, Limit}
use Rattle.reg_tree_image.specs.declared.block.BaseBlock.{BaseBlock}
use Rattle.reg_tree_image.specs.WalkSteps.{Seen, Step, ◌>>◌, give, check}
use Rattle.reg_tree_image.specs.BaseBlock.{xor_words, checksum_of, as_checksum, is_version, block_walk}

-- the words from here up to 508 are counted
pub record AreCounted (block : List ℕ) (at sum : ℕ) : Type 0 where
  pub words : ℕ
  pub place : at + 4 * words ≡ 508
  pub sum_is : sum ≡ xor_words words at block

pub none-counted : (block : List ℕ) → AreCounted block 508 0
none-counted block = record { words = 0; place = refl; sum_is = refl }

pub more-counted : (block : List ℕ) (at next sum one : ℕ) → AreCounted block at sum → next + 4 ≡ at → one ≡ word block next →
    AreCounted block next (bit_xor one sum)
more-counted block at next sum one c e w = record {
  words = suc c.words;
  place = (let p = c.place in omega (arith, p, e));
  sum_is = ap (λ w. bit_xor w sum) w ∙ ap (λ s. bit_xor (word block next) s) (c.sum_is ∙ ap (λ n. xor_words c.words n block) (sym e));
}

-- a word begins at a place among the first 127, none below it where it isn't the first
pub counted-four : (block : List ℕ) (at sum : ℕ) → AreCounted block at sum → 0 < at → (4 ≤ at) × (at ≤ 508)
counted-four block at sum c l = let p = c.place in (omega (arith, p, l), omega (arith, p))

pub all-counted : (block : List ℕ) (at sum : ℕ) → AreCounted block at sum → at ≡ 0 → as_checksum sum ≡ checksum_of block
unfolding checksum_of
all-counted block at sum c e =
    let n : c.words ≡ 127 = let p = c.place in omega (arith, p, e) in
    ap as_checksum (c.sum_is ∙ (ap (λ n. xor_words n at block) n ∙ ap (λ a. xor_words 127 a block) e))

-- ---- an image's first 4,096 bytes alone

-- a word before a place is the same in the bytes up to there
pub word-front : (n at : ℕ) (bytes : List ℕ) → at + 4 ≤ n → word (take n bytes) at ≡ word bytes at
unfolding word
word-front n at bytes l =
    let e : at + (n - at) ≡ n = omega arith in
    ap (λ k. little_number 4 (drop at (take k bytes))) (sym e) ∙
    (ap (little_number 4) (drop-take at (n - at) bytes) ∙ little_from-take 0 4 (n - at) (drop at bytes) (omega arith))

xor-front : (words n at : ℕ) (bytes : List ℕ) → at + 4 * words ≤ n → xor_words words at (take n bytes) ≡ xor_words words at bytes
xor-front zero n at bytes l = refl
xor-front (suc k) n at bytes l =
    ap (λ w. bit_xor w (xor_words k (at + 4) (take n bytes))) (word-front n at bytes (omega arith)) ∙ ap (bit_xor (word bytes at))
    (xor-front k n (at + 4) bytes (omega arith))

-- the checksum of an image is that of its base block
pub checksum-front : (n : ℕ) (bytes : List ℕ) → 508 ≤ n → checksum_of (take n bytes) ≡ checksum_of bytes
unfolding checksum_of
checksum-front n bytes l = ap as_checksum (xor-front 127 n 0 bytes l)

-- the tests, by the words that they read
block-by : (signature sum stored first second size minor root : ℕ) (version : Bool) → Step BaseBlock
block-by signature sum stored first second size minor root version = do
  check Signature (signature == 0x66676572)
  check Version version
  check Checksum (stored == sum)
  check Dirty (first == second)
  check Bins (nat_lt 0 size && (size % 4096 == 0))
  check Limit (nat_le size 268435456)
  give (record { minor = minor; root = root; size = size })

block-is : (bytes : List ℕ) (seen : Seen) →
    block_walk bytes seen ≡ block-by (word bytes 0) (checksum_of bytes) (word bytes 508) (word bytes 4) (word bytes 8) (word bytes 40)
    (word bytes 24) (word bytes 36) (is_version bytes) seen
unfolding block-by
block-is bytes seen = refl

version-front : (n : ℕ) (bytes : List ℕ) → 36 ≤ n → is_version (take n bytes) ≡ is_version bytes
version-front n bytes l =
    rw (
      word-front n 20 bytes (omega arith),
      word-front n 24 bytes (omega arith),
      word-front n 28 bytes (omega arith),
      word-front n 32 bytes (omega arith),
    ) refl

-- a base block is walked as the image that it begins
pub block-front : (bytes : List ℕ) (seen : Seen) → block_walk (take 4096 bytes) seen ≡ block_walk bytes seen
block-front bytes seen =
    let signature = word-front 4096 0 bytes (omega arith) in
    let sum = checksum-front 4096 bytes (omega arith) in
    let stored = word-front 4096 508 bytes (omega arith) in
    let first = word-front 4096 4 bytes (omega arith) in
    let second = word-front 4096 8 bytes (omega arith) in
    let size = word-front 4096 40 bytes (omega arith) in
    let minor = word-front 4096 24 bytes (omega arith) in
    let root = word-front 4096 36 bytes (omega arith) in
    let version = version-front 4096 bytes (omega arith) in
    block-is (take 4096 bytes) seen ∙ ((cc) ∙ sym (block-is bytes seen))
