-- The image of a whole hive loads, and gives the tree that the hive spells.
use Rattle.std.proofs.Common.{◌≡◌, ℕ, suc, ◌+◌, ◌^◌, ◌<◌, ◌≤◌, ◌%◌, ◌==◌, ◌&&◌, nat_le, nat_lt, Bool, true, false, Some, Ok, List, [], length, take, drop, refl, sym, ap, ◌∙◌, subst, arith}
use Rattle.std.proofs.Common.{length-append, cond, lit<}
use Rattle.std.proofs.lemmas.Bool.Decides.{nat_tests}
use Rattle.std.proofs.lemmas.Nat.{xor_lt}
use Rattle.std.proofs.Math.Seq.{take-length}
use Rattle.reg_tree_image.proofs.CleanWalks.CleanLists.{drop-front}
use Rattle.byteorder.specs.Numbers.{little_number-reads_back}
use Rattle.reg_heap.specs.ByteWords.{word}
use Rattle.reg_shape.specs.Internal.Forests.{Branch}
use Rattle.reg_arena.specs.declared.Cell.{Cell}
use Rattle.reg_arena.specs.Cells.{bins_of, cells_of_bins, cells_of, content_in, content_of, cell_at}
use Rattle.reg_shape.specs.Nodes.{Node}
use Rattle.reg_shape.specs.Internal.Shapes.{IsWholeShape, tree_of}
use Rattle.reg_tree_image.specs.declared.LoadFault.{LoadFault}
use Rattle.reg_tree_image.specs.declared.block.BaseBlock.{BaseBlock}
use Rattle.reg_tree_image.specs.declared.LoadFault.TheVariants.{Short, Signature, Version, Checksum, Dirty, Bins, Cells, Limit}
use Rattle.reg_tree_image.specs.WalkSteps.{Seen, Step, ◌>>=◌, ◌>>◌, onward, check, given}
use Rattle.reg_tree_image.specs.LoadingWalk.{root_path, key_from}
use Rattle.reg_tree_image.specs.BaseBlock.{xor_words, as_checksum, checksum_of, block_head, block_of, is_version, block_walk}
use Rattle.reg_tree_image.specs.Images.{image_of, bins_walk, image_walk, nothing, tree_in, loaded}
use Rattle.reg_shape.proofs.Walking.IndexWalks.{then-open}
use Rattle.reg_tree_image.proofs.CleanWalks.CleanHives.{hive-walked, hive-told}

-- ---- tests passed

pass : {B : Type 0} (fault : LoadFault) (b : Bool) (t : Step B) (seen : Seen) → b ≡ true → (check fault b >> t) seen ≡ t seen
pass fault b t seen e = ap (λ c. onward (λ _. t) (check fault c seen)) e

contents : (bins : List ℕ) (cells : List Cell) → cells_of bins ≡ Some cells → content_in bins cells ≡ cell_at bins
unfolding cell_at
contents bins cells e = ap (λ c. content_of bins c) (sym e)

pub bins-walked : (bins : List ℕ) (cells : List Cell) (minor root : ℕ) (seen : Seen) → cells_of bins ≡ Some cells →
    bins_walk bins minor root seen ≡ key_from (cell_at bins) minor 513 [] root_path root seen
unfolding bins_walk cells_of
bins-walked bins cells minor root seen e =
    let o = then-open (cells_of_bins bins) (bins_of bins) cells e in
    ap (λ places. onward (λ places. given Cells (cells_of_bins bins places) >>= (λ cells. key_from (content_in bins cells) minor 513 [] root_path root)) (given Bins places seen)) o.1
    ∙ (ap (λ cells. onward (λ cells. key_from (content_in bins cells) minor 513 [] root_path root) (given Cells cells seen)) o.2
    ∙ ap (λ heap. key_from heap minor 513 [] root_path root seen) (contents bins cells e))

-- what an image's first 4096 bytes say
pub record IsBlock (bytes : List ℕ) (size root : ℕ) : Type 0 where
  pub long : 4096 ≤ length bytes
  pub signature : word bytes 0 ≡ 1718052210
  pub version : is_version bytes ≡ true
  pub minor : word bytes 24 ≡ 5
  pub checksum : word bytes 508 ≡ checksum_of bytes
  pub sequence : word bytes 4 ≡ word bytes 8
  pub root_is : word bytes 36 ≡ root
  pub size_is : word bytes 40 ≡ size
  pub some : 0 < size
  pub pages : size % 4096 ≡ 0
  pub few : size ≤ 268435456
  pub enough : 4096 + size ≤ length bytes

equal : (a b : ℕ) → a ≡ b → (a == b) ≡ true
equal a b e = grind (arith, nat_tests)

less : (a b : ℕ) → a ≤ b → nat_le a b ≡ true
less a b l = grind (arith, nat_tests)

under : (a b : ℕ) → a < b → nat_lt a b ≡ true
under a b l = grind (arith, nat_tests)

both : (a b : Bool) → a ≡ true → b ≡ true → (a && b) ≡ true
both a b p q = ap (λ c. c && b) p ∙ q

block-walked : (bytes : List ℕ) (size root : ℕ) (seen : Seen) → IsBlock bytes size root → block_walk bytes seen ≡ Ok (record { minor = 5; root = root; size = size }, seen)
block-walked bytes size root seen b =
    pass Signature _ _ seen (equal _ _ b.signature)
    ∙ (pass Version _ _ seen b.version
    ∙ (pass Checksum _ _ seen (equal _ _ b.checksum)
    ∙ (pass Dirty _ _ seen (equal _ _ b.sequence)
    ∙ (pass Bins _ _ seen (both _ _ (under 0 (word bytes 40) (subst (λ n. 0 < n) (sym b.size_is) b.some)) (equal _ _ (ap (λ n. n % 4096) b.size_is ∙ b.pages)))
    ∙ (pass Limit _ _ seen (less _ _ (subst (λ n. n ≤ 268435456) (sym b.size_is) b.few))
    ∙ (ap (λ n. Ok (record { minor = n; root = word bytes 36; size = word bytes 40 }, seen)) b.minor
    ∙ (ap (λ n. Ok (record { minor = 5; root = n; size = word bytes 40 }, seen)) b.root_is
    ∙ ap (λ n. Ok (record { minor = 5; root = root; size = n }, seen)) b.size_is)))))))

walked : (bytes : List ℕ) (size root : ℕ) (seen : Seen) → IsBlock bytes size root → image_walk bytes seen ≡ bins_walk (take size (drop 4096 bytes)) 5 root seen
unfolding image_walk
walked bytes size root seen b =
    pass Short _ _ seen (less 4096 (length bytes) b.long)
    ∙ (ap (onward (λ (block : BaseBlock). check Short (nat_le (4096 + block.size) (length bytes))
    >> bins_walk (take block.size (drop 4096 bytes)) block.minor block.root)) (block-walked bytes size root seen b)
    ∙ pass Short _ _ seen (less _ _ b.enough))

-- ---- the law, for bytes that are an image

pub loads : (bytes bins : List ℕ) (root : ℕ) (cells : List Cell) (keys : Branch Node) (ring : List ℕ) → IsBlock bytes (length bins) root → take (length bins) (drop 4096 bytes) ≡ bins →
    cells_of bins ≡ Some cells → IsWholeShape (cell_at bins) root keys ring → loaded bytes ≡ Ok (tree_of (cell_at bins) keys)
unfolding loaded
loads bytes bins root cells keys ring block body e w =
    ap tree_in (walked bytes (length bins) root nothing block
    ∙ (ap (λ bins. bins_walk bins 5 root nothing) body
    ∙ (bins-walked bins cells 5 root nothing e
    ∙ hive-walked (cell_at bins) root keys ring w)))
    ∙ ap Ok (hive-told (cell_at bins) root keys ring w)

-- ---- an image as it is written

small-checksum : (x : ℕ) → x < 2 ^ 32 → as_checksum x < 2 ^ 32
small-checksum x l = by (x == 0) (x == 4294967295)
  where
    by : (a b : Bool) → cond a 1 (cond b 4294967294 x) < 2 ^ 32
    by true b = lit< tt
    by false true = lit< tt
    by false false = l

xor-more : (n at : ℕ) (bytes : List ℕ) → word bytes at < 2 ^ 32 → xor_words n (at + 4) bytes < 2 ^ 32 → xor_words (suc n) at bytes < 2 ^ 32
xor-more n at bytes a b = xor_lt 32 (word bytes at) (xor_words n (at + 4) bytes) a b

module _ (bins : List ℕ) (root moment sequence : ℕ) (root-fits : root < 2 ^ 32) (bins-fit : length bins ≤ 268435456) where
  size-fits : length bins < 2 ^ 32
  size-fits = omega arith

  abbrev head : List ℕ
  head = block_head (length bins) root moment sequence

  block-length : length (block_of (length bins) root moment sequence) ≡ 4096
  unfolding block_of
  block-length = refl

  sequences : word (image_of bins root moment sequence) 4 ≡ word (image_of bins root moment sequence) 8
  unfolding image_of block_of word
  sequences = refl

  at_36 : word (image_of bins root moment sequence) 36 ≡ root
  unfolding image_of block_of word
  at_36 = little_number-reads_back 4 root [] root-fits

  at_40 : word (image_of bins root moment sequence) 40 ≡ length bins
  unfolding image_of block_of word
  at_40 = little_number-reads_back 4 (length bins) [] size-fits

  version-is : is_version (image_of bins root moment sequence) ≡ true
  unfolding image_of block_of word
  version-is = refl

  same-checksum : checksum_of head ≡ checksum_of (image_of bins root moment sequence)
  unfolding image_of block_of word checksum_of
  same-checksum = refl

  -- each word before the checksum
  low-moment : word head 12 < 2 ^ 32
  unfolding word
  low-moment = omega arith

  high-moment : word head 16 < 2 ^ 32
  unfolding word
  high-moment = omega arith

  word-4 : word head 4 < 2 ^ 32
  unfolding word
  word-4 = omega arith

  word-8 : word head 8 < 2 ^ 32
  unfolding word
  word-8 = omega arith

  word-36 : word head 36 < 2 ^ 32
  unfolding word
  word-36 = omega arith

  word-40 : word head 40 < 2 ^ 32
  unfolding word
  word-40 = omega arith

  word-0 : word head 0 < 2 ^ 32
  unfolding word
  word-0 = omega arith

  word-20 : word head 20 < 2 ^ 32
  unfolding word
  word-20 = omega arith

  word-24 : word head 24 < 2 ^ 32
  unfolding word
  word-24 = omega arith

  word-28 : word head 28 < 2 ^ 32
  unfolding word
  word-28 = omega arith

  word-32 : word head 32 < 2 ^ 32
  unfolding word
  word-32 = omega arith

  word-44 : word head 44 < 2 ^ 32
  unfolding word
  word-44 = omega arith

  zeros : xor_words 115 48 head < 2 ^ 32
  unfolding word
  zeros = omega arith

  checksum-fits : checksum_of head < 2 ^ 32
  unfolding checksum_of
  checksum-fits = small-checksum (xor_words 127 0 head)
      (xor-more 126 0 head word-0 (xor-more 125 4 head word-4 (xor-more 124 8 head word-8 (xor-more 123 12 head low-moment
      (xor-more 122 16 head high-moment (xor-more 121 20 head word-20 (xor-more 120 24 head word-24
      (xor-more 119 28 head word-28 (xor-more 118 32 head word-32 (xor-more 117 36 head word-36 (xor-more 116 40 head word-40 (xor-more 115 44 head word-44 zeros))))))))))))

  at_508 : word (image_of bins root moment sequence) 508 ≡ checksum_of head
  unfolding image_of block_of word
  at_508 = little_number-reads_back 4 (checksum_of head) [] checksum-fits

  image-length : length (image_of bins root moment sequence) ≡ 4096 + length bins
  unfolding image_of
  image-length = length-append (block_of (length bins) root moment sequence) bins ∙ ap (λ n. n + length bins) block-length

  signature-is : word (image_of bins root moment sequence) 0 ≡ 1718052210
  unfolding image_of block_of word
  signature-is = refl

  minor-is : word (image_of bins root moment sequence) 24 ≡ 5
  unfolding image_of block_of word
  minor-is = refl

  pub image-block : 0 < length bins → length bins % 4096 ≡ 0 → IsBlock (image_of bins root moment sequence) (length bins) root
  image-block some pages = record {
    long = (let l = image-length in omega (arith, l));
    signature = signature-is;
    version = version-is;
    minor = minor-is;
    checksum = at_508 ∙ same-checksum;
    sequence = sequences;
    root_is = at_36;
    size_is = at_40;
    some = some;
    pages = pages;
    few = bins-fit;
    enough = (let l = image-length in omega (arith, l));
  }

  pub image-body : take (length bins) (drop 4096 (image_of bins root moment sequence)) ≡ bins
  unfolding image_of
  image-body = ap (λ xs. take (length bins) xs) (drop-front 4096 (block_of (length bins) root moment sequence) bins (sym block-length)) ∙ take-length bins

  -- the image of a hive whose shape stands in its cells loads, and gives the tree that it spells
  pub image-loads : 0 < length bins → length bins % 4096 ≡ 0 → (cells : List Cell) (keys : Branch Node) (ring : List ℕ) → cells_of bins ≡ Some cells → IsWholeShape (cell_at bins) root keys ring →
      loaded (image_of bins root moment sequence) ≡ Ok (tree_of (cell_at bins) keys)
  image-loads some pages cells keys ring e w = loads (image_of bins root moment sequence) bins root cells keys ring (image-block some pages) image-body e w
