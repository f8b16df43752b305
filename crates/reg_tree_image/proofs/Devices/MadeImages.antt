-- An image as it is made: its base block, and then the bins, page by page.
use Rattle.std.proofs.Common.{◌≡◌, ℕ, ◌+◌, ◌*◌, ◌/◌, ◌<◌, ◌≤◌, ◌++◌, List, [], Ok, length, take, drop, replicate, sym, ap, ◌∙◌, arith}
use Rattle.std.proofs.Common.{append_assoc, refl}
use Rattle.std.proofs.Math.Seq.{take-add, take-length}
use Rattle.std.proofs.lemmas.List.{take-replicate, drop-replicate}
use Rattle.byteorder.specs.Endian.{little_bytes}
use Rattle.reg_heap.specs.ByteWords.{splice}
use Rattle.reg_arena.specs.Arena.{Bins, IsSound}
use Rattle.reg_arena.specs.Cells.{IsInBin}
use Rattle.reg_arena.proofs.Tiling.BinPieces.{page-in_bin}
use Rattle.std.proofs.lemmas.Option.{same_Some}
use Rattle.reg_heap.specs.Paths.{Tree}
use Rattle.reg_shape.specs.PathLookup.{key_offset_at}
use Rattle.reg_tree.specs.declared.node.Node.{Node}
use Rattle.reg_tree.specs.TreeKeys.{Keys, IsAt, IsWholeTree}
use Rattle.reg_tree_image.specs.Images.{image_of, loaded}
use Rattle.reg_tree_image.proofs.CleanWalks.WholeImages.{whole-loads}
use Rattle.reg_tree_image.specs.BaseBlock.{checksum_of, block_head, block_of}
use Rattle.reg_tree_image.specs.Internal.BlockFields.{block_fields}
use Rattle.reg_tree_image.proofs.Readers.BlockWords.{checksum-front}

module _ (size root moment sequence : ℕ) where
  -- the fields over zeros
  pub fields-put : (a : List ℕ) → a ≡ splice 0 (block_fields size root moment sequence) (replicate 4096 0) →
      a ≡ block_fields size root moment sequence ++ replicate 4048 0
  unfolding splice
  fields-put a e = e ∙ ap (λ xs. block_fields size root moment sequence ++ xs) (drop-replicate 48 4096 0)

  pub head-put : (a : List ℕ) → a ≡ block_fields size root moment sequence ++ replicate 4048 0 → take 508 a ≡ block_head size root moment sequence
  head-put a e = ap (take 508) e ∙ ap (λ xs. block_fields size root moment sequence ++ xs) (take-replicate 460 4048 0 (omega arith))

  -- then the checksum
  pub block-put : (a d : List ℕ) (sum : ℕ) → a ≡ block_fields size root moment sequence ++ replicate 4048 0 → sum ≡ checksum_of a →
      d ≡ splice 508 (little_bytes 4 sum) a → d ≡ block_of size root moment sequence
  unfolding splice block_of
  block-put a d sum e s p =
      let front = head-put a e in
      let behind : drop 512 a ≡ replicate 3584 0 = ap (drop 512) e ∙ drop-replicate 464 4048 0 in
      let said : sum ≡ checksum_of (block_head size root moment sequence) =
      s ∙ (sym (checksum-front 508 a (omega arith)) ∙ ap checksum_of front) in
      p ∙ (ap (λ xs. xs ++ (little_bytes 4 sum ++ drop 512 a)) front
      ∙ (ap (λ xs. block_head size root moment sequence ++ (little_bytes 4 sum ++ xs)) behind
      ∙ ap (λ n. block_head size root moment sequence ++ (little_bytes 4 n ++ replicate 3584 0)) said))

module _ (bytes heads : List ℕ) (sound : IsSound bytes heads) where
  pub page-there : (page : ℕ) → page < length bytes / 4096 → IsInBin bytes (page * 4096) 4096
  page-there page l = page-in_bin bytes sound.bins sound.bins_are (page * 4096) (page * 4096) 4096 (omega arith) (omega (arith, l))
      (omega arith) (omega arith)

  -- one page more
  pub page-copied : (front out : List ℕ) (page : ℕ) → out ≡ front ++ take (4096 * page) bytes →
      out ++ take 4096 (drop (page * 4096) bytes) ≡ front ++ take (4096 * (page + 1)) bytes
  page-copied front out page e =
      let at : page * 4096 ≡ 4096 * page = omega arith in
      let next : 4096 * (page + 1) ≡ 4096 * page + 4096 = omega arith in
      ap (λ xs. xs ++ take 4096 (drop (page * 4096) bytes)) e ∙
      (ap (λ n. (front ++ take (4096 * page) bytes) ++ take 4096 (drop n bytes)) at
      ∙ (append_assoc front (take (4096 * page) bytes) (take 4096 (drop (4096 * page) bytes))
      ∙ ap (λ xs. front ++ xs) (sym (take-add (4096 * page) 4096 bytes) ∙ ap (λ n. take n bytes) (sym next))))

  pub pages-copied : (front out : List ℕ) (page : ℕ) → out ≡ front ++ take (4096 * page) bytes → page ≡ length bytes / 4096 →
      out ≡ front ++ bytes
  pages-copied front out page e l =
      let p = sound.pages in
      let all : 4096 * page ≡ length bytes = omega (arith, p, l) in
      e ∙ ap (λ xs. front ++ xs) (ap (λ n. take n bytes) all ∙ take-length bytes)

-- the root's node is at the root's offset
pub root-is : (keys : Keys) (node : Node) → IsAt keys [] node → node.offset ≡ keys.root
unfolding key_offset_at
root-is keys node a = sym (same_Some keys.root node.offset a.offset)

module _ (bins : List ℕ) (root moment sequence : ℕ) where
  pub image-made : (size offset : ℕ) (block all copied : List ℕ) → block ≡ block_of size offset moment sequence → all ≡ block ++ copied →
      copied ≡ bins →
      size ≡ length copied → offset ≡ root → all ≡ image_of bins root moment sequence
  unfolding image_of
  image-made size offset block all copied b a c s r =
      a ∙ (ap (λ xs. xs ++ copied) b ∙ (ap (λ n. block_of n offset moment sequence ++ copied) s
      ∙ (ap (λ xs. block_of (length xs) offset moment sequence ++ xs) c ∙ ap (λ n. block_of (length bins) n moment sequence ++ bins) r)))

  pub image-loads : (all : List ℕ) (tree : Tree) → IsWholeTree bins root tree → length bins ≤ 268435456 →
      all ≡ image_of bins root moment sequence →
      loaded all ≡ Ok tree
  image-loads all tree w l e =
      ap loaded e ∙ whole-loads bins root
      (record { cells = w.cells; cells_are = w.cells_are; whole = w.whole }) l moment sequence tree w.spells

-- a tree's base block, and its bins behind it
pub parts-image : (keys : Keys) (bins : Bins) (node : Node) (block : List ℕ) (size moment sequence : ℕ) → bins ≡ keys.bins →
    IsAt keys [] node → size ≡ length bins.bytes → block ≡ block_of size node.offset moment sequence →
    block ++ bins.bytes ≡ image_of keys.bins.bytes keys.root moment sequence
parts-image keys bins node block size moment sequence b a s is =
    image-made keys.bins.bytes keys.root moment sequence size node.offset block (block ++ bins.bytes) bins.bytes is refl
    (ap (λ (held : Bins). held.bytes) b) s (root-is keys node a)
