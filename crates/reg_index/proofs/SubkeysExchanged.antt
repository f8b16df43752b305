-- Subkeys of which the lists were exchanged.
use Rattle.std.proofs.Common.{◌≡◌, ℕ, IsSome, List, [], ◌++◌, length, refl, sym, ap, ◌∙◌, subst, arith}
use Rattle.std.proofs.lemmas.List.{append-nil}
use Rattle.reg_heap.specs.Heaps.{Heap}
use Rattle.reg_heap.specs.Kinds.{times}
use Rattle.reg_records.specs.KeyNodes.{key_at}
use Rattle.reg_records.specs.SubkeyLists.{Entry}
use Rattle.reg_shape.specs.Nodes.{KeyList, lists_of}
use Rattle.reg_index.specs.Internal.IndexLists.{AreExchanged, AreKeys, cells_under}
use Rattle.reg_index.specs.Subkeys.{AreSubkeys, Moves, entries_in, own}
use Rattle.reg_index.proofs.CellCounts.{times-append}
use Rattle.reg_index.proofs.SubkeysFrame.{Stay, all-map, key-stays, keys-stay}
use Rattle.reg_index.proofs.SubkeysOnce.{own-cells, own-no-key}
use Rattle.reg_index.proofs.SubkeysOpening.{own-under, subkeys-made}

module _ (old new : Heap) (count offset after result : ℕ) (carved : List ℕ) (entries left : List Entry) (others : List KeyList) (s : AreSubkeys old count offset entries)
    (x : AreExchanged old new offset (lists_of s.index) result others carved) (free : (z : ℕ) → IsSome (key_at old z) → times z carved ≡ 0)
    (are : entries_in others ≡ left) (keys : AreKeys old left) (number : length left ≡ after) where
  -- no key's cell was given up
  stay : Stay old new left
  stay =
      all-map (λ (e : Entry). IsSome (key_at old e.offset)) (λ (e : Entry). key_at new e.offset ≡ key_at old e.offset) left
      (λ e some. key-stays old new (λ z. times z (cells_under offset (lists_of s.index) ++ carved)) (λ z. times z (cells_under result others)) e.offset x.moves some
      (omega (
        arith,
        times-append e.offset (cells_under offset (lists_of s.index)) carved,
        free e.offset some,
        own-no-key old count offset entries s e.offset some,
        ap (times e.offset) (own-cells old count offset entries s),
      )))
      keys.keys

  long : length (entries_in others) ≡ after
  long = ap length are ∙ number

  pub subkeys-exchanged : AreSubkeys new after result left
  subkeys-exchanged =
      subst (AreSubkeys new after result) are (subkeys-made new after result others x.now (subst (AreKeys new) (sym are) (keys-stay old new left keys stay)) long)

  pub moves-exchanged : Moves old new (own old count offset ++ carved) (own new after result)
  moves-exchanged =
      subst (λ cells. Moves old new (cells ++ carved) (own new after result)) (sym (own-cells old count offset entries s))
      (subst (λ cells. Moves old new (cells_under offset (lists_of s.index) ++ carved) cells) (sym (own-under new after result others x.now long)) x.moves)

-- no cells were carved
pub moves-only : (old new : Heap) (before after : List ℕ) → Moves old new (before ++ []) after → Moves old new before after
moves-only old new before after m = subst (λ cells. Moves old new cells after) (append-nil before) m

pub none-carved : (heap : Heap) (z : ℕ) → IsSome (key_at heap z) → times z [] ≡ 0
none-carved heap z some = refl
