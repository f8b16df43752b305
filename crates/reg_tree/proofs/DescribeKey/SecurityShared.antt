-- The security of a key that has the descriptor already.
use Rattle.std.proofs.Common.{◌≡◌, ℕ, ◌<◌, Option, Some, None, List, [], sym, ap, ◌∙◌, subst}
use Rattle.std.specs.Prelude.{unwrap_or}
use Rattle.std.specs.Option.{option_map}
use Rattle.std.specs.FinMap.{get}
use Rattle.std.proofs.lemmas.Option.{none-some}
use Rattle.reg_heap.specs.Paths.{Path}
use Rattle.reg_heap.specs.Kinds.{times}
use Rattle.reg_heap.specs.Edits.{descriptor_of}
use Rattle.reg_arena.specs.Cells.{cell_at}
use Rattle.reg_records.specs.declared.nk.KeyFields.{KeyFields}
use Rattle.reg_records.specs.KeyNodes.{KeyRecord, key_at}
use Rattle.reg_records.specs.KeySecurities.{KeySecurityRecord}
use Rattle.reg_shape.specs.Written.{IsWrittenSecurity}
use Rattle.reg_shape.specs.Whole.{descriptor_at}
use Rattle.reg_shape.specs.PathLookup.{key_offset_at}
use Rattle.reg_shape.proofs.Wholeness.ShapeRecords.{all-at}
use Rattle.reg_security.specs.Rings.{DescriptorCells, cell_of}
use Rattle.reg_tree.specs.declared.node.Node.{Node}
use Rattle.reg_tree.specs.TreeKeys.{tree_in}
use Rattle.reg_tree.specs.Internal.TreeInvariant.{TreeInvariant, IsHere}
use Rattle.reg_tree.specs.Internal.DescriptorChange.{IsExpected, IsKnown}
use Rattle.reg_tree.proofs.Invariant.KeyOfTree.{branch, key_is, rec_there}
use Rattle.reg_tree.proofs.Invariant.KeyOfShape as keyed

-- a table that was made ready for a descriptor still notes the cell that is known of it
pub known-expected : (old new : DescriptorCells) (descriptor : List ℕ) (size known : Option ℕ) → IsExpected old new descriptor size →
    IsKnown old descriptor known → IsKnown new descriptor known
known-expected old new descriptor size None e k = tt
known-expected old new descriptor None (Some cell) e k = subst (λ table. cell_of table descriptor ≡ Some cell) (sym e.0) k
known-expected old new descriptor (Some size) (Some cell) e k = absurd (none-some _ (sym e.1 ∙ k))

module _ (bytes : List ℕ) (root : ℕ) (table : DescriptorCells) (t : TreeInvariant bytes root table) where
  abbrev here : (q : Path) (key : ℕ) → key_offset_at (cell_at bytes) root q ≡ Some key → IsHere bytes key
  here q key at = record { root = root; table = table; path = q; holds = t; at = at }

  -- the table finds a key's descriptor in the cell that its key node names
  module _ (q : Path) (key : ℕ) (at : key_offset_at (cell_at bytes) root q ≡ Some key) (descriptor : List ℕ)
      (is : descriptor_of (get (tree_in bytes root) q) ≡ descriptor) where
    abbrev security : ℕ
    security = (branch bytes key (here q key at)).node.key.fields.security

    ringed : 0 < times security t.ring
    ringed = keyed.secured (cell_at bytes) root t.keys t.ring [] t.shape q key at

    describes : descriptor_at (cell_at bytes) security ≡ Some descriptor
    describes =
        let s = all-at (IsWrittenSecurity (cell_at bytes)) t.ring security t.shape.closed.written ringed in
        let e = ap (option_map (λ (s : KeySecurityRecord). s.descriptor)) s.reads in
        e ∙ sym (ap (λ o. Some (unwrap_or o [])) e) ∙ ap Some (sym (ap descriptor_of (rec_there bytes key (here q key at))) ∙ is)

    noted : cell_of table descriptor ≡ Some security
    noted = t.finds.listed descriptor security (ringed, describes)

    pub noted-there : (fields : KeyFields) → ((k : KeyRecord) → key_at (cell_at bytes) key ≡ Some k → fields ≡ k.fields) →
        cell_of table descriptor ≡ Some fields.security
    noted-there fields are = noted ∙ ap (λ (f : KeyFields). Some f.security) (sym (are _ (key_is bytes key (here q key at))))

  pub like-there : (node : Node) (q : Path) → key_offset_at (cell_at bytes) root q ≡ Some node.offset → IsHere bytes node.offset
  like-there node q at = here q node.offset at
