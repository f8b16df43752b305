-- Pages that were looked at, one after another: the bytes so far.
use Rattle.std.proofs.Common.{◌≡◌, ℕ, ◌+◌, ◌*◌, ◌/◌, ◌<◌, List, length, take, drop, sym, ap, ◌∙◌, subst, arith}
use Rattle.std.proofs.Math.Seq.{take-add, take-length}
use Rattle.reg_arena.specs.Arena.{IsSound}
use Rattle.reg_arena.specs.Cells.{IsInBin}
use Rattle.reg_arena.proofs.Tiling.BinPieces.{page-in_bin}
use Rattle.reg_tree.specs.ValueBytes.{AreBytes}
use Rattle.reg_tree.proofs.ByteValues.BytePieces.{bytes-append}

module _ (bytes heads : List ℕ) (sound : IsSound bytes heads) where
  pub page-there : (page : ℕ) → page < length bytes / 4096 → IsInBin bytes (page * 4096) 4096
  page-there page l = page-in_bin bytes sound.bins sound.bins_are (page * 4096) (page * 4096) 4096 (omega arith) (omega (arith, l))
      (omega arith) (omega arith)

  -- one page more
  pub page-seen : (page : ℕ) → AreBytes (take (page * 4096) bytes) → AreBytes (take 4096 (drop (page * 4096) bytes)) →
      AreBytes (take ((page + 1) * 4096) bytes)
  page-seen page a b =
      let next : (page + 1) * 4096 ≡ page * 4096 + 4096 = omega arith in
      subst AreBytes (sym (ap (λ (n : ℕ). take n bytes) next ∙ take-add (page * 4096) 4096 bytes))
      (bytes-append (take (page * 4096) bytes) (take 4096 (drop (page * 4096) bytes)) a b)

  pub pages-seen : (page : ℕ) → page ≡ length bytes / 4096 → AreBytes (take (page * 4096) bytes) → AreBytes bytes
  pages-seen page l a =
      let p = sound.pages in
      let all : page * 4096 ≡ length bytes = omega (arith, p, l) in
      subst AreBytes (ap (λ (n : ℕ). take n bytes) all ∙ take-length bytes) a
