-- A list without entries left, freed.
use Rattle.std.proofs.Common.{◌≡◌, ℕ, zero, suc, ◌+◌, ◌-◌, ◌<◌, ◌≤◌, IsSome, List, [], ◌∷◌, ◌++◌, length, take, drop, refl, sym, ap, ◌∙◌, subst, arith}
use Rattle.std.proofs.lemmas.List.{append-nil, length-map}
use Rattle.reg_heap.specs.Heaps.{Heap, GivesUp, Writes}
use Rattle.reg_heap.specs.Kinds.{times}
use Rattle.reg_shape.specs.Nodes.{KeyList}
use Rattle.reg_index.specs.Internal.IndexLists.{AreExchanged, HasLists, IsOnce, IsRoot, cells_under, offsets_of}
use Rattle.reg_index.specs.Subkeys.{exchanged, numbered}
use Rattle.reg_index.proofs.ListPlaces.{leaf-of}
use Rattle.reg_index.proofs.ListsRead.{list-there}
use Rattle.reg_index.proofs.ListsExchanged.{exchange, head-one, head-two, length-exchanged, offsets-exchanged, root-apart, root-stands, root-still, roots-none, roots-some}

-- no cells were carved
pub once-nothing : (cells : List ℕ) → IsOnce cells → IsOnce (cells ++ [])
once-nothing cells once = subst IsOnce (sym (append-nil cells)) once

-- the other one of two
other-left : (lists : List KeyList) (number : ℕ) → length lists ≡ 2 → number < length lists → (numbered 0 (exchanged number [] lists)).offset ≡ (numbered (1 - number) lists).offset
other-left [] number two l = absurd (omega (arith, two))
other-left (a ∷ []) number two l = absurd (omega (arith, two))
other-left (a ∷ b ∷ []) zero two l = refl
other-left (a ∷ b ∷ []) (suc zero) two l = refl
other-left (a ∷ b ∷ []) (suc (suc number)) two l = absurd (omega (arith, l))
other-left (a ∷ b ∷ c ∷ others) number two l = absurd (omega (arith, two))

pub leaf-found : (heap : Heap) (offset number leaf : ℕ) (lists : List KeyList) → HasLists heap offset lists → number < length lists → (numbered number lists).offset ≡ leaf → IsSome (heap leaf)
leaf-found heap offset number leaf lists h there is = list-there heap leaf _ (leaf-of heap offset lists number leaf h there is)

module _ (h0 h1 h2 : Heap) (offset number leaf : ℕ) (lists : List KeyList) (h : HasLists h0 offset lists) (there : number < length lists) (once : IsOnce (cells_under offset lists))
    (leaf_is : (numbered number lists).offset ≡ leaf) (freed : GivesUp h0 h1 (leaf ∷ [])) where
  -- it is one cell, and the root another
  pub apart : 2 ≤ length lists → times offset (leaf ∷ []) ≡ 0
  apart two = subst (λ o. times offset (o ∷ []) ≡ 0) leaf_is (root-apart offset number lists [] two there (once-nothing (cells_under offset lists) once))

  pub root-left : 2 ≤ length lists → IsRoot h1 offset (offsets_of lists)
  root-left two = root-still h0 h1 (λ z. times z (leaf ∷ [])) (λ z. 0) offset (offsets_of lists) freed (apart two) (root-stands h0 offset lists h two)

  pub root-left-long : (left : ℕ) → 2 ≤ length lists → left + 1 ≡ length lists → (offsets : List ℕ) × IsRoot h1 offset offsets × (length offsets ≡ left + 1)
  root-left-long left two e = (offsets_of lists, root-left two, length-map lists (λ (list : KeyList). list.offset) ∙ sym e)

  here : (z : ℕ) → times z ((numbered number lists).offset ∷ []) ≡ times z (leaf ∷ [])
  here z = ap (λ o. times z (o ∷ [])) leaf_is

  -- of two, the other is left, and the root freed
  pub one-left : (result : ℕ) → length lists ≡ 2 → GivesUp h1 h2 (offset ∷ []) → (numbered (1 - number) lists).offset ≡ result →
      AreExchanged h0 h2 offset lists result (exchanged number [] lists) []
  one-left result two gone is =
      let short : length (exchanged number [] lists) ≡ 1 = omega (arith, length-exchanged number [] lists there, two) in
      exchange h0 h2 offset result number lists [] [] there h (once-nothing (cells_under offset lists) once)
      (record {
        count = λ z. omega (
          arith,
          freed.count z,
          gone.count z,
          here z,
          roots-some offset lists ((numbered number lists).offset ∷ []) (omega (arith, two)) z,
          roots-none result (exchanged number [] lists) [] (omega (arith, short)) z,
        );
        same = λ z none no.
            let r = roots-some offset lists ((numbered number lists).offset ∷ []) (omega (arith, two)) z in
            gone.same z (omega (arith, none, r)) refl ∙ freed.same z (omega (arith, none, r, here z)) refl;
      })
      tt (head-one h2 result (exchanged number [] lists) short (other-left lists number two there ∙ is))

  -- of more, the others are left, and the root lost an offset
  pub more-left : 3 ≤ length lists → Writes h1 h2 (offset ∷ []) → IsRoot h2 offset (take number (offsets_of lists) ++ drop (suc number) (offsets_of lists)) →
      AreExchanged h0 h2 offset lists offset (exchanged number [] lists) []
  more-left three w root =
      let long : 2 ≤ length (exchanged number [] lists) = omega (arith, length-exchanged number [] lists there, three) in
      exchange h0 h2 offset offset number lists [] [] there h (once-nothing (cells_under offset lists) once)
      (record {
        count = λ z. omega (
          arith,
          freed.count z,
          w.count z,
          here z,
          roots-some offset lists ((numbered number lists).offset ∷ []) (omega (arith, three)) z,
          roots-some offset (exchanged number [] lists) [] long z,
        );
        same = λ z none no.
            let r = roots-some offset lists ((numbered number lists).offset ∷ []) (omega (arith, three)) z in
            w.same z (omega (arith, none, r)) (omega (arith, none, r)) ∙ freed.same z (omega (arith, none, r, here z)) refl;
      })
      tt (head-two h2 offset (exchanged number [] lists) long (subst (IsRoot h2 offset) (sym (offsets-exchanged number [] lists)) root))
