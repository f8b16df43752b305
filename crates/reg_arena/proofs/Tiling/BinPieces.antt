-- Pieces of the bytes that lie in one bin. Crates above may cite this file.
use Rattle.std.proofs.Common.{◌≡◌, ℕ, suc, ◌+◌, ◌%◌, ◌<◌, ◌≤◌, ◌⊎◌, inl, inr, List, [], ◌∷◌, length, refl, arith}
use Rattle.std.specs.Prelude.{Contains}
use Rattle.std.specs.List.{AllByRecursion}
use Rattle.std.proofs.lemmas.Bool.{cases_lt}
use Rattle.std.proofs.lemmas.List.Elements.{All-from_recursion, All-contains}
use Rattle.reg_arena.specs.Cells.{Bin, AreBins, IsInBin}

AreBins-within : (bytes : List ℕ) (at : ℕ) (bins : List Bin) → AreBins bytes at bins → AllByRecursion (λ (b : Bin). b.start + b.size ≤ length bytes) bins
AreBins-within bytes at [] h = tt
AreBins-within bytes at (b ∷ bins) h = (h.1.within, AreBins-within bytes (at + b.size) bins h.3)

-- a piece of a bin is a piece of the bytes
pub in_bin-within : (bytes : List ℕ) (at len : ℕ) → IsInBin bytes at len → at + len ≤ length bytes
in_bin-within bytes at len p =
    let within = All-contains (λ (b : Bin). b.start + b.size ≤ length bytes) p.bins p.bin (All-from_recursion _ p.bins (AreBins-within bytes 0 p.bins p.bins_are)) p.among in
    omega (arith, within, p.to)

-- one of the bins has the piece
record IsHeldBy (bins : List Bin) (at len : ℕ) : Type 0 where
  bin : Bin
  among : Contains bins bin
  from : bin.start ≤ at
  to : at + len ≤ bin.start + bin.size

page-held : (bytes : List ℕ) (from : ℕ) (bins : List Bin) → from % 4096 ≡ 0 → AreBins bytes from bins → (page at len : ℕ) → page % 4096 ≡ 0 →
    from ≤ page → page < length bytes → page ≤ at → at + len ≤ page + 4096 → IsHeldBy bins at len
page-held bytes from [] e h page at len p l m a b = absurd (omega arith)
page-held bytes from (bin ∷ bins) e h page at len p l m a b =
    by (cases_lt page (from + bin.size)) (λ past. page-held bytes (from + bin.size) bins (omega (arith, h.1.pages)) h.3 page at len p past m a b)
  where
    by : (page < from + bin.size) ⊎ (from + bin.size ≤ page) → (from + bin.size ≤ page → IsHeldBy bins at len) → IsHeldBy (bin ∷ bins) at len
    by (inl less) f = record { bin = bin; among = (0, omega arith, refl); from = omega (arith, h.0); to = omega (arith, h.0, h.1.pages) }
    by (inr past) f =
        let r = f past in
        record { bin = r.bin; among = (suc r.among.0, omega (arith, r.among.1), r.among.2); from = r.from; to = r.to }

-- what lies in one page of 4096 bytes, counted from the first bin, lies in one bin
pub page-in_bin : (bytes : List ℕ) (bins : List Bin) → AreBins bytes 0 bins → (page at len : ℕ) → page % 4096 ≡ 0 → page < length bytes → page ≤ at →
    at + len ≤ page + 4096 → IsInBin bytes at len
page-in_bin bytes bins h page at len p m a b =
    let r = page-held bytes 0 bins (omega arith) h page at len p (omega arith) m a b in
    record { bins = bins; bins_are = h; bin = r.bin; among = r.among; from = r.from; to = r.to }
