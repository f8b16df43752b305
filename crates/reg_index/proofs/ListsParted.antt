-- The lists with an entry more, in the cells that were carved for them.
use Rattle.std.proofs.Common.{◌≡◌, Bool, true, false, cond, nat_le, ℕ, ◌<◌, ◌≤◌, Some, List, [], ◌∷◌, length, take, drop, refl, ap, ◌∙◌, arith}
use Rattle.std.specs.Prelude.{unwrap_or}
use Rattle.std.proofs.lemmas.Bool.{le-leb, leb-true}
use Rattle.reg_heap.specs.declared.limits.TheConstants.{NONE, LEAF_LIMIT}
use Rattle.reg_records.specs.SubkeyLists.{Entry}
use Rattle.reg_shape.specs.Nodes.{KeyList}
use Rattle.reg_shape.specs.Nodes.Index.{Rooted}
use Rattle.reg_index.specs.declared.Place.{Place}
use Rattle.reg_index.specs.declared.IndexCells.{IndexCells}
use Rattle.reg_index.specs.declared.plan.TheConstants.{FIRST_HALF}
use Rattle.reg_index.specs.Internal.IndexLists.{halves}
use Rattle.reg_index.specs.Subkeys.{exchanged, index_under, leaf_list, lists_with, numbered, parted, with_one}

-- as few as a list has, or more
module _ (cells : IndexCells) (offset : ℕ) (entries : List Entry) where
  abbrev by-length : Bool → List KeyList
  by-length b =
      cond b (leaf_list (unwrap_or cells.list offset) entries ∷ [])
      (leaf_list (unwrap_or cells.list NONE) (take FIRST_HALF entries) ∷ leaf_list (unwrap_or cells.second NONE) (drop FIRST_HALF entries) ∷ [])

  pub parted-few : length entries ≤ LEAF_LIMIT → parted cells offset entries ≡ leaf_list (unwrap_or cells.list offset) entries ∷ []
  parted-few l = ap by-length (le-leb (length entries) LEAF_LIMIT l)

  pub parted-many : (first second : ℕ) → cells.list ≡ Some first → cells.second ≡ Some second → LEAF_LIMIT < length entries →
      parted cells offset entries ≡ halves first second entries
  parted-many first second f s l =
      ap by-length (by (nat_le (length entries) LEAF_LIMIT) refl)
      ∙ (λ i. leaf_list (unwrap_or (f i) NONE) (take FIRST_HALF entries) ∷ leaf_list (unwrap_or (s i) NONE) (drop FIRST_HALF entries) ∷ [])
    where
      by : (b : Bool) → nat_le (length entries) LEAF_LIMIT ≡ b → nat_le (length entries) LEAF_LIMIT ≡ false
      by false e = e
      by true e = absurd (omega (arith, l, leb-true (length entries) LEAF_LIMIT e))

-- an entry more in the list at a place
pub with-parted : (place : Place) (entry : Entry) (cells : IndexCells) (others lists : List KeyList) → place.list < length lists →
    others ≡ parted cells (numbered place.list lists).offset (with_one place.index entry (numbered place.list lists).list.entries) →
    exchanged place.list others lists ≡ lists_with place entry cells lists
with-parted place entry cells others [] l are = absurd (omega (arith, l))
with-parted place entry cells others (x ∷ xs) l are = ap (λ os. exchanged place.list os (x ∷ xs)) are

-- a root's cell counts where there are several lists
pub under-same : (a b : ℕ) (lists : List KeyList) → (1 < length lists → a ≡ b) → index_under a lists ≡ index_under b lists
under-same a b [] same = refl
under-same a b (list ∷ []) same = refl
under-same a b (first ∷ second ∷ others) same = ap (λ o. Rooted o (first ∷ second ∷ others)) (same (omega arith))
