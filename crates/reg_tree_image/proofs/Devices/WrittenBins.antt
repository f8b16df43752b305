-- Bins as they are written, one behind the other.
use Rattle.std.proofs.Common.{◌≡◌, ℕ, suc, ◌+◌, ◌<◌, ◌≤◌, ◌++◌, List, [], ◌∷◌, Option, length, take, drop, refl, sym, ap, ◌∙◌, subst, arith}
use Rattle.std.proofs.lemmas.List.{length-drop, length-take-le, take-take, take-append-le, drop-drop, drop_at}
use Rattle.std.specs.Prelude.{Contains}
use Rattle.std.specs.Io.KnownBytes.{Appends}
use Rattle.byteorder.specs.Endian.{little_number}
use Rattle.reg_heap.specs.ByteWords.{word}
use Rattle.reg_text.proofs.AppendedBytes.{Appends-more}
use Rattle.reg_arena.specs.Cells.{Bin, AreBins, IsHeader, IsInBin}
use Rattle.reg_arena.proofs.Tiling.BinPieces.{in_bin-within}
use Rattle.reg_tree_image.proofs.Readers.BlockWords.{word-front}

-- where a bin begins, or all end: the bins from there on are some of all
pub record IsBoundary (bytes : List ℕ) (at : ℕ) : Type 0 where
  pub bins : List Bin
  pub bins_are : AreBins bytes 0 bins
  pub rest : List Bin
  pub rest_are : AreBins bytes at rest
  pub among : (bin : Bin) → Contains rest bin → Contains bins bin

-- a bin begins there
record IsBegun (bytes : List ℕ) (at : ℕ) : Type 0 where
  bin : Bin
  start : bin.start ≡ at
  header : IsHeader bytes bin
  holds : (len : ℕ) → len ≤ bin.size → IsInBin bytes at len
  next : IsBoundary bytes (at + bin.size)

module _ (bytes : List ℕ) (at : ℕ) where
  begun-by : (bins : List Bin) → AreBins bytes 0 bins → (rest : List Bin) → AreBins bytes at rest →
      ((bin : Bin) → Contains rest bin → Contains bins bin) → at < length bytes → IsBegun bytes at
  begun-by bins b [] r among l = absurd (omega (arith, r))
  begun-by bins b (bin ∷ rest) r among l = record {
    bin = bin;
    start = r.0;
    header = r.1;
    holds = λ len fits. record {
      bins = bins;
      bins_are = b;
      bin = bin;
      among = among bin (0, omega arith, refl);
      from = omega (arith, r.0);
      to = omega (arith, r.0);
    };
    next = record {
      bins = bins;
      bins_are = b;
      rest = rest;
      rest_are = r.3;
      among = λ other there. among other (suc there.0, omega (arith, there.1), there.2);
    };
  }

module _ (bytes : List ℕ) (at : ℕ) (boundary : IsBoundary bytes at) (inside : at < length bytes) where
  begun : IsBegun bytes at
  begun = begun-by bytes at boundary.bins boundary.bins_are boundary.rest boundary.rest_are boundary.among inside

  size-is : (size : ℕ) → size ≡ word bytes (at + 8) → size ≡ begun.bin.size
  size-is size e = e ∙ (ap (λ n. word bytes (n + 8)) (sym begun.start) ∙ begun.header.size)

  pub header-there : IsInBin bytes at 12
  header-there = begun.holds 12 (omega (arith, begun.header.positive, begun.header.pages))

  module _ (size : ℕ) (said : size ≡ word bytes (at + 8)) where
    pub bin-there : IsInBin bytes at size
    bin-there = begun.holds size (omega (arith, size-is size said))

    pub next-boundary : IsBoundary bytes (at + size)
    next-boundary = subst (λ n. IsBoundary bytes (at + n)) (sym (size-is size said)) begun.next

    pub bin-some : 0 < size
    bin-some = omega (arith, size-is size said, begun.header.positive)

    pub bin-within : at + size ≤ length bytes
    bin-within = omega (arith, size-is size said, begun.start, begun.header.within)

word-drop : (bytes : List ℕ) (at n : ℕ) → word (drop at bytes) n ≡ word bytes (at + n)
unfolding word
word-drop bytes at n = ap (little_number 4) (drop-drop n at bytes)

-- a piece of the bytes, of which so many were taken
module _ (bytes : List ℕ) (at size taken : ℕ) (within : at + size ≤ length bytes) (piece : List ℕ) (is : piece ≡ take size (drop at bytes)) where
  pub piece-length : length piece ≡ size
  piece-length = ap length is ∙ length-take-le size (drop at bytes) (omega (arith, length-drop at bytes))

  pub piece-appended : (old mid new : Option (List ℕ)) → taken ≤ length piece → Appends old mid (take at bytes) →
      Appends mid new (take taken piece) → Appends old new (take (at + taken) bytes)
  piece-appended old mid new few before more =
      let fits : taken ≤ size = omega (arith, piece-length) in
      Appends-more old mid new bytes at taken before
      (subst (λ xs. Appends mid new xs) (ap (take taken) is ∙ take-take taken size (drop at bytes) fits) more)

  -- all of it was taken
  pub whole-appended : (old mid new : Option (List ℕ)) → size ≤ taken → taken ≤ length piece → Appends old mid (take at bytes) →
      Appends mid new (take taken piece) → Appends old new (take (at + size) bytes)
  whole-appended old mid new all few before more =
      let same : taken ≡ size = omega (arith, piece-length) in
      subst (λ n. Appends old new (take (at + n) bytes)) same (piece-appended old mid new few before more)

-- a bin's header as it was read
module _ (bytes : List ℕ) (at : ℕ) (there : IsInBin bytes at 12) (header : List ℕ) (is : header ≡ take 12 (drop at bytes)) where
  pub header-length : length header ≡ 12
  header-length = let within = in_bin-within bytes at 12 there in piece-length bytes at 12 12 within header is

  pub header-size : word header 8 ≡ word bytes (at + 8)
  header-size = ap (λ xs. word xs 8) is ∙ (word-front 12 8 (drop at bytes) (omega arith) ∙ word-drop bytes at 8)

-- a block, and the bins behind it
module _ (block bytes : List ℕ) (long : length block ≡ 4096) where
  -- the block was written, and then so many bytes of the bins
  pub parts-appended : (old mid new : Option (List ℕ)) (taken n : ℕ) → taken ≤ length block → 4096 ≤ taken → Appends old mid (take taken block) →
      Appends mid new (take n bytes) → Appends old new (take (taken + n) (block ++ bytes))
  parts-appended old mid new taken n few all before more =
      let is : length block ≡ taken = omega (arith, long) in
      Appends-more old mid new (block ++ bytes) taken n
      (subst (λ xs. Appends old mid xs) (sym (take-append-le taken block bytes few)) before)
      (subst (λ xs. Appends mid new (take n xs)) (sym (drop_at block bytes taken is)) more)
