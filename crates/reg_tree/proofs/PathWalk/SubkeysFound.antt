-- The subkeys of a tree's key, and the one of a name.
use Rattle.std.proofs.Common.{◌≡◌, ℕ, ◌<◌, Option, Some, None, List, get_or, sym, ap, ◌∙◌, subst, arith}
use Rattle.std.specs.Prelude.{Ok, Err}
use Rattle.reg_names.specs.Names.{folded}
use Rattle.reg_heap.specs.Heaps.{Heap}
use Rattle.reg_arena.specs.Cells.{cell_at}
use Rattle.reg_records.specs.SubkeyLists.{Entry}
use Rattle.reg_shape.specs.Nodes.{Node, entries_of}
use Rattle.reg_shape.specs.PathLookup.{subkey_named}
use Rattle.reg_index.specs.Subkeys.{AreSubkeys, IsIndexFor, IsKeyNamed, names_in}
use Rattle.reg_index.proofs.NameSearch.{length-names}
use Rattle.reg_tree.specs.Internal.TreeInvariant.{IsHere}
use Rattle.reg_tree.specs.Internal.KeyNodeChanges.{HasSubkeysList}
use Rattle.reg_tree.proofs.Invariant.KeyOfTree.{branch, stands, offset, key_is}
use Rattle.reg_tree.proofs.InsertKey.ParentReindexed.{branch-subkeys}
use Rattle.reg_tree.proofs.InsertKey.SubkeyByName.{no_entry, named-ok, named-err}

module _ (bytes : List ℕ) (key : ℕ) (t : IsHere bytes key) where
  abbrev h : Heap
  h = cell_at bytes

  abbrev node : Node
  node = (branch bytes key t).node

  pub own_subkeys : AreSubkeys h node.key.fields.subkeys node.key.fields.subkeys_list (entries_of node.index)
  own_subkeys = branch-subkeys h t.root (branch bytes key t) (stands bytes key t)

  module _ (count list : ℕ) (has : HasSubkeysList h key count list) where
    is-list : (count ≡ node.key.fields.subkeys) × (list ≡ node.key.fields.subkeys_list)
    is-list = has node.key (key_is bytes key t)

    pub subkeys : AreSubkeys h count list (entries_of node.index)
    subkeys = subst (λ n. AreSubkeys h n list (entries_of node.index)) (sym is-list.0) (subst (λ o. AreSubkeys h node.key.fields.subkeys o (entries_of node.index)) (sym is-list.1) own_subkeys)

    pub some_subkeys : (entries : List Entry) × AreSubkeys h count list entries
    some_subkeys = (entries_of node.index, subkeys)

    pub index_within : (name : List ℕ) (index : ℕ) → ((entries : List Entry) → AreSubkeys h count list entries → IsIndexFor (names_in h entries) name (Ok index)) → index < count
    index_within name index find =
        let p = find (entries_of node.index) subkeys in
        let n = subkeys.number in
        let l = p.0 in
        let m = length-names h (entries_of node.index) in
        omega (arith, l, n, m)

    pub child_found : (name : List ℕ) (index child : ℕ) → ((entries : List Entry) → AreSubkeys h count list entries → IsIndexFor (names_in h entries) (folded name) (Ok index))
        → ((entries : List Entry) → AreSubkeys h count list entries → (get_or entries index no_entry).offset ≡ child) → Some child ≡ subkey_named h (folded name) key
    child_found name index child find at =
        let e = entries_of node.index in
        subst (λ o. Some child ≡ subkey_named h (folded name) o) (offset bytes key t)
        (sym (named-ok h t.root (branch bytes key t) (stands bytes key t) (folded name) index subkeys.rising (find e subkeys) ∙ ap Some (at e subkeys)))

    pub child_missing : (name : List ℕ) (index : ℕ) → ((entries : List Entry) → AreSubkeys h count list entries →
        IsIndexFor (names_in h entries) (folded name) (Err index)) → None ≡ subkey_named h (folded name) key
    child_missing name index find =
        subst (λ o. None ≡ subkey_named h (folded name) o) (offset bytes key t)
        (sym (named-err h t.root (branch bytes key t) (stands bytes key t) (folded name) index (find (entries_of node.index) subkeys)))

    pub named_found : (name : List ℕ) (found : Option ℕ) → ((entries : List Entry) → AreSubkeys h count list entries → IsKeyNamed h entries (folded name) found) →
        found ≡ subkey_named h (folded name) key
    named_found name found is = subst (λ o. found ≡ subkey_named h (folded name) o) (offset bytes key t) (by found (is (entries_of node.index) subkeys))
      where
        by : (found : Option ℕ) → IsKeyNamed h (entries_of node.index) (folded name) found → found ≡ subkey_named h (folded name) (branch bytes key t).offset
        by (Some child) n =
            sym (named-ok h t.root (branch bytes key t) (stands bytes key t) (folded name) n.0 subkeys.rising n.1 ∙ ap Some n.2)
        by None n = sym (named-err h t.root (branch bytes key t) (stands bytes key t) (folded name) n.0 n.1)
