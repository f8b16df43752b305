-- What an insert and a removal leave, as their callers see it.
use Rattle.std.proofs.Common.{◌≡◌, ℕ, ◌+◌, ◌/◌, ◌<◌, ◌≤◌, Bool, true, false, cond, inl, inr, List, set, get_or, length, refl, sym, ap, ◌∙◌, subst, arith, eqb}
use Rattle.std.proofs.lemmas.Bool.{eqb-false}
use Rattle.byteorder.specs.Endian.{little_bytes}
use Rattle.reg_heap.specs.ByteWords.{word, splice, SameOutside}
use Rattle.reg_arena.specs.declared.free_lists.FreeLists.{FreeLists}
use Rattle.reg_arena.specs.Classes.{class_of}
use Rattle.reg_arena.specs.Internal.SizeTables.{marked, ended, tagged, untagged, head_linked, linked, freed, following, size_or_none, first_put, first_taken, counted}
use Rattle.reg_arena.specs.Internal.ListedCells.{IsPiece, IsFreeOf, IsListed, Adds, Drops, Relinks}
use Rattle.reg_arena.proofs.FreeList.LinkWords.{freed-region, length-linked}
use Rattle.reg_arena.proofs.FreeList.ListedSpots.{cell-is-spot, sized-none, added-none, added-some}
use Rattle.reg_arena.proofs.FreeList.ListedPut.{p-cell, put-done}
use Rattle.reg_arena.proofs.FreeList.ListedTake.{p-in, taken-done}

same-all : (lo hi : ℕ) (bytes : List ℕ) → SameOutside lo hi bytes bytes
same-all lo hi bytes = record { long = refl; below = λ k l. refl; above = λ k l. refl }

pub inserted-none : (bytes : List ℕ) (sizes : ℕ → ℕ) (lists : FreeLists) (c s : ℕ) → IsListed bytes sizes lists → s ≡ 0 → Adds sizes c s bytes bytes lists
inserted-none bytes sizes lists c s w z = record {
  listed = subst (λ f. IsListed bytes f lists) (added-none c s sizes z) w;
  mid = bytes;
  relinks = inl refl;
  region = same-all c (c + s) bytes;
}

pub removed-none : (bytes : List ℕ) (sizes : ℕ → ℕ) (lists : FreeLists) (c s : ℕ) → IsListed bytes sizes lists → sizes c ≡ s → s ≡ 0 → Drops sizes c bytes bytes lists
removed-none bytes sizes lists c s w there z = record {
  listed = subst (λ f. IsListed bytes f lists) (sized-none c sizes (subst (λ v. sizes c ≡ v) z there)) w;
  relinks = inl refl;
}

one-link : (bytes : List ℕ) (sizes : ℕ → ℕ) (p v : ℕ) → ((p ≡ 4294967295 → ⊥) → 0 < sizes p) → Relinks sizes bytes (linked p v bytes)
one-link bytes sizes p v h = by (eqb p 4294967295) refl
  where
    by : (b : Bool) → eqb p 4294967295 ≡ b → Relinks sizes bytes (cond b bytes (splice (p + 4) (little_bytes 4 v) bytes))
    by true e = inl refl
    by false e = inr (p, v, h (eqb-false p 4294967295 e), refl)

pub inserted : (bytes : List ℕ) (sizes : ℕ → ℕ) (lists lists' : FreeLists) (c s p class : ℕ) (bytes' : List ℕ) → IsListed bytes sizes lists → IsPiece bytes c s →
    IsFreeOf sizes c s → 0 < s → (s < 16384 → p ≡ get_or lists.firsts (s / 8) 4294967295) → (16384 ≤ s → p ≡ 4294967295) → class ≡ class_of s →
    bytes' ≡ freed c s (following bytes lists.heads class p) (linked p c bytes) → lists'.heads ≡ head_linked class p c lists.heads →
    lists'.firsts ≡ first_put p c s lists.firsts →
    length lists'.words ≡ length lists.words → (mid-marks : List ℕ) → lists'.marks ≡ ended c s c mid-marks →
    mid-marks ≡ set (marked (following bytes lists.heads class p) (tagged c) lists.marks) (c / 8) (tagged p) → following bytes lists.heads class p < 4294967296 →
    lists'.large ≡ lists.large + counted s → lists.top ≤ lists'.top → s < lists'.top → Adds sizes c s bytes bytes' lists'
inserted bytes sizes lists lists' c s p class bytes' w piece free some low high e a b d long mid-marks f g short more le less = record {
  listed = subst (λ v. IsListed bytes' v lists') (added-some c s sizes some)
      (put-done bytes sizes _ _ _ _ _ _ w c s p piece some free low high class e bytes' _ _ _ _ _ _ a b d long (f ∙ ap (ended c s c) g) short more le less);
  mid = linked p c bytes;
  relinks = one-link bytes sizes p c cells;
  region = subst (SameOutside c (c + s) (linked p c bytes)) (sym a)
      (freed-region c s _ (c + s) (linked p c bytes) (omega (arith, piece.size_eights)) (omega
      (arith, length-linked p c bytes (λ o. (cell-is-spot bytes sizes _ _ _ _ _ _ w p cells o).1), piece.within)));
}
  where
    cells : (p ≡ 4294967295 → ⊥) → 0 < sizes p
    cells = p-cell bytes sizes _ _ _ _ _ _ w c s p piece some free low high

pub removed : (bytes : List ℕ) (sizes : ℕ → ℕ) (lists lists' : FreeLists) (c s class p n : ℕ) (bytes' : List ℕ) → IsListed bytes sizes lists → sizes c ≡ s → 0 < s →
    p ≡ untagged (get_or lists.marks (c / 8) 0) → n ≡ word bytes (c + 4) → n < 4294967296 → class ≡ class_of s →
    bytes' ≡ linked p n bytes → lists'.heads ≡ head_linked class p n lists.heads →
    lists'.firsts ≡ first_taken c s n (size_or_none bytes' n) lists.firsts →
    length lists'.words ≡ length lists.words → (mid-marks : List ℕ) → lists'.marks ≡ ended c s 0 mid-marks →
    mid-marks ≡ set (marked n (tagged p) lists.marks) (c / 8) 0 → lists'.large + counted s ≡ lists.large → lists'.top ≡ lists.top → Drops sizes c bytes bytes' lists'
removed bytes sizes lists lists' c s class p n bytes' w there some pe ne short e a b d long mid-marks f g more top = record {
  listed = rw top (taken-done bytes sizes _ _ _ _ _ _ w c s p n some there pe ne class e bytes' _ _ _ _ _ a b d long (f ∙ ap (ended c s 0) g) short more);
  relinks = subst (Relinks sizes bytes) (sym a) (one-link bytes sizes p n (p-in bytes sizes _ _ _ _ _ _ w c s p n some there pe ne));
}
