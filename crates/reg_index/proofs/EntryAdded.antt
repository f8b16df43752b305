-- An entry added to a list that is not full.
use Rattle.std.proofs.Common.{◌≡◌, ℕ, suc, ◌<◌, ◌≤◌, Option, Some, None, List, [], ◌∷◌, ◌++◌, length, take, drop, refl, sym, ap, ◌∙◌, subst, arith}
use Rattle.std.specs.Prelude.{unwrap_or}
use Rattle.std.proofs.lemmas.List.{length-map}
use Rattle.reg_heap.specs.Heaps.{Heap, Writes}
use Rattle.reg_heap.specs.Kinds.{times}
use Rattle.reg_records.specs.SubkeyLists.{Entry}
use Rattle.reg_shape.specs.Nodes.{KeyList}
use Rattle.reg_index.specs.declared.Place.{Place}
use Rattle.reg_index.specs.Internal.HashLeaves.{IsLeaf}
use Rattle.reg_index.specs.Internal.IndexLists.{AreExchanged, HasRoomAt, IsRoot, Stands, cells_under, grown, offsets_of}
use Rattle.reg_index.specs.Subkeys.{Moves, exchanged, numbered, taken, with_one}
use Rattle.reg_index.proofs.CellCounts.{times-append, times-self}
use Rattle.reg_index.proofs.EntryKeys.{length-with}
use Rattle.reg_index.proofs.EntryTaken.{length-one}
use Rattle.reg_index.proofs.ListPlaces.{leaf-of}
use Rattle.reg_index.proofs.ListsExchanged.{cells-are, exchange, head-two, list-stays, offsets-exchanged, offsets-parted, root-apart, root-stands, root-still, roots-some, roots-two}

-- the cell that the list has now is its own, or the one that was carved
pub now-of : (leaf : ℕ) (fresh : Option ℕ) → 1 ≤ times (unwrap_or fresh leaf) (leaf ∷ taken fresh)
now-of leaf None = omega (arith, times-self leaf [])
now-of leaf (Some cell) = omega (arith, times-self cell [])

module _ (h0 h1 : Heap) (offset leaf at : ℕ) (place : Place) (fresh : Option ℕ) (entry : Entry) (lists : List KeyList) (r : HasRoomAt h0 offset lists place fresh)
    (two : 2 ≤ length lists) (leaf_is : (numbered place.list lists).offset ≡ leaf) (at_is : at ≡ unwrap_or fresh leaf) (moved : Moves h0 h1 (leaf ∷ taken fresh) (at ∷ [])) where
  apart : times offset (leaf ∷ taken fresh) ≡ 0
  apart = subst (λ o. times offset (o ∷ taken fresh) ≡ 0) leaf_is (root-apart offset place.list lists (taken fresh) two r.within r.once)

  -- the root is as it was
  pub root-waits : IsRoot h1 offset (offsets_of lists)
  root-waits = root-still h0 h1 (λ z. times z (leaf ∷ taken fresh)) (λ z. times z (at ∷ [])) offset (offsets_of lists) moved apart (root-stands h0 offset lists r.lists_are two)

  pub root-waits-for : (offsets : List ℕ) × IsRoot h1 offset offsets × (place.list < length offsets)
  root-waits-for = (offsets_of lists, root-waits, omega (arith, length-map lists (λ (list : KeyList). list.offset), r.within))

  here : (z : ℕ) → times z ((numbered place.list lists).offset ∷ taken fresh) ≡ times z (leaf ∷ taken fresh)
  here z = ap (λ o. times z (o ∷ taken fresh)) leaf_is

  now : at ≡ unwrap_or fresh (numbered place.list lists).offset
  now = at_is ∙ ap (unwrap_or fresh) (sym leaf_is)

  at-apart : times at (offset ∷ []) ≡ 0
  at-apart = omega (
    arith,
    subst (λ c. 1 ≤ times c (leaf ∷ taken fresh)) (sym at_is) (now-of leaf fresh),
    here at,
    r.once at,
    cells-are offset lists at,
    ap (times at) (roots-two offset lists two),
    offsets-parted lists place.list r.within at,
    times-append at (cells_under offset lists) (taken fresh),
  )

  module _ (h2 : Heap) (w : Writes h1 h2 (offset ∷ []))
      (put : IsLeaf h1 at (with_one place.index entry (numbered place.list lists).list.entries))
      (root : IsRoot h2 offset (take place.list (offsets_of lists) ++ at ∷ drop (suc place.list) (offsets_of lists))) where
    stand : Stands h2 (grown (numbered place.list lists) fresh place.index entry)
    stand = record {
      leaf = subst (λ o. IsLeaf h2 o (with_one place.index entry (numbered place.list lists).list.entries)) now (list-stays h1 h2 at _ (w.same at at-apart at-apart) put);
      written = record {
        form = refl;
        some = omega (arith, length-with place.index entry (numbered place.list lists).list.entries r.index);
        few = omega (arith, length-with place.index entry (numbered place.list lists).list.entries r.index, r.few);
      };
    }

    abbrev others : List KeyList
    others = grown (numbered place.list lists) fresh place.index entry ∷ []

    long : 2 ≤ length (exchanged place.list others lists)
    long = omega (arith, length-one place.list (grown (numbered place.list lists) fresh place.index entry) lists r.within, two)

    there : (z : ℕ) → times z (offsets_of others) ≡ times z (at ∷ [])
    there z = ap (λ o. times z (o ∷ [])) (sym now)

    pub one-more-under : AreExchanged h0 h2 offset lists offset (exchanged place.list (grown (numbered place.list lists) fresh place.index entry ∷ []) lists) (taken fresh)
    one-more-under =
        exchange h0 h2 offset offset place.list lists others (taken fresh) r.within r.lists_are r.once
        (record {
          count = λ z. omega (
            arith,
            moved.count z,
            w.count z,
            here z,
            there z,
            roots-some offset lists ((numbered place.list lists).offset ∷ taken fresh) two z,
            roots-some offset (exchanged place.list others lists) (offsets_of others) long z,
          );
          same = λ z gone came.
              let a = roots-some offset lists ((numbered place.list lists).offset ∷ taken fresh) two z in
              let b = roots-some offset (exchanged place.list others lists) (offsets_of others) long z in
              w.same z (omega (arith, gone, a)) (omega (arith, gone, a)) ∙ moved.same z (omega (arith, gone, a, here z)) (omega (arith, came, b, there z));
        })
        (stand, tt)
        (head-two h2 offset (exchanged place.list others lists) long
        (subst (IsRoot h2 offset)
        ((λ i. take place.list (offsets_of lists) ++ now i ∷ drop (suc place.list) (offsets_of lists)) ∙ sym (offsets-exchanged place.list others lists))
        root))

pub placed-leaf : (heap : Heap) (offset leaf : ℕ) (place : Place) (fresh : Option ℕ) (lists : List KeyList) → HasRoomAt heap offset lists place fresh →
    (numbered place.list lists).offset ≡ leaf → IsLeaf heap leaf (numbered place.list lists).list.entries
placed-leaf heap offset leaf place fresh lists r is = leaf-of heap offset lists place.list leaf r.lists_are r.within is
