-- What stands when a key was made below another: the shape, the tree that is spelt, and where each key stands.
use Rattle.std.proofs.Common.{◌≡◌, ◌≢◌, ℕ, ◌+◌, ◌≤◌, ◌<◌, Bool, true, false, cond, Option, Some, None, IsSome, List, [], ◌∷◌, ◌++◌, length}
use Rattle.std.proofs.Common.{refl, sym, ap, ◌∙◌, subst, arith}
use Rattle.std.specs.Prelude.{Err}
use Rattle.std.specs.Option.{option_map, option_and_then}
use Rattle.std.specs.FinMap.{get, insert}
use Rattle.std.proofs.lemmas.Option.{none-some, same_Some}
use Rattle.reg_names.specs.declared.TheConstants.{PATH_LIMIT, KEY_NAME_LIMIT}
use Rattle.reg_names.specs.Names.{folded, is_key_name}
use Rattle.reg_heap.specs.declared.limits.TheConstants.{NONE, SUBKEYS_LIMIT}
use Rattle.reg_heap.specs.Paths.{Path, Tree, Rec}
use Rattle.reg_heap.specs.Edits.{edited, at_time, made_key, with_key, descriptor_of}
use Rattle.reg_heap.specs.Heaps.{Heap}
use Rattle.reg_heap.specs.Kinds.{times, owned}
use Rattle.reg_shape.specs.Internal.Forests.{Branch}
use Rattle.reg_records.specs.RecordCells.{held}
use Rattle.reg_records.specs.KeyNodes.{KeyRecord, key_at, IsPlainKey}
use Rattle.reg_records.specs.SubkeyLists.{Entry, offsets_in}
use Rattle.reg_shape.specs.Nodes.{Node, entries_of}
use Rattle.reg_shape.specs.Internal.Shapes.{descriptor_in, tree_of, IsSeen, StandsIn}
use Rattle.reg_shape.specs.Spelt.{rec_of, name_of}
use Rattle.reg_shape.specs.Internal.Exchanges.{is_named, found_in, found_at}
use Rattle.reg_shape.specs.Internal.Grafts.{IsShape, IsGrafted, IsGraftedInRing, branch_at, graft_at, hang}
use Rattle.reg_shape.specs.PathLookup.{key_offset_at, key_named, subkey_named}
use Rattle.reg_records.proofs.KeyNodeCodec.{key_at-same}
use Rattle.reg_shape.proofs.Walking.WalkRefinement.{IsLooked}
use Rattle.reg_shape.proofs.Graft.ForestInsert.{its_leaf, none-deeper, found-hang}
use Rattle.reg_shape.proofs.Graft.Branches.{its_key, branch-found}
use Rattle.reg_shape.proofs.Graft.ForestInsertFits.{deep-hung}
use Rattle.reg_shape.proofs.Refinement.RefinementAfterEdit.{same_path, name-is}
use Rattle.reg_shape.proofs.Graft.WholeAfterGraft.{grafted}
use Rattle.reg_shape.proofs.Graft.GraftInRing.{descriptor-recounted, graft-in-ring, tree-hung-in-ring}
use Rattle.reg_shape.proofs.Refinement.RefinementAfterGraft.{grafted-name}
use Rattle.reg_shape.proofs.Lookup.LookupAfterGraft.{offsets-hung}
use Rattle.reg_shape.proofs.Lookup.LookupOfShape.{placed, offset-more}
use Rattle.reg_index.specs.Subkeys.{AreSubkeys, IsIndexFor, Moves, names_in, entry_for, with_one, cells_of_index, own}
use Rattle.reg_index.proofs.InsertSizes.{first-sizes}
use Rattle.reg_security.specs.Rings.{Recounts}
use Rattle.reg_tree.specs.Internal.KeyNodeChanges.{Notes, noted_subkeys}
use Rattle.reg_tree.specs.CellSizes.{first_cells, first_place, planned, planned_by}
use Rattle.reg_tree.specs.Internal.SpareCells.{Grows}
use Rattle.reg_tree.proofs.InsertKey.MadeKeyRecord.{made_record, made_node}
use Rattle.reg_tree.proofs.InsertKey.ParentReindexed.{reindexed}
use Rattle.reg_tree.proofs.ValueChange.TreeAfterValueChange.{edited-at}
use Rattle.reg_tree.specs.KeyLengths.{lengths_of, with_first_length}
use Rattle.reg_tree.proofs.Invariant.LengthsAfterGraft.{lengths_which}
use Rattle.reg_tree.proofs.Invariant.KeyOfShape as keyed
use Rattle.reg_tree.proofs.InsertKey.InsertKeyCells as cells
use Rattle.reg_tree.proofs.InsertKey.InsertKeyGraft as grafting

module _ (h0 h1 h2 h3 h4 : Heap) (root : ℕ) (keys : Branch Node) (ring : List ℕ) (p : Path) (parent : ℕ)
    (carved : List ℕ) (key : ℕ) (left : List ℕ)
    (w : IsShape h0 root keys ring (carved ++ key ∷ left)) (at : key_offset_at h0 root p ≡ Some parent) where
  abbrev spare : List ℕ
  spare = carved ++ key ∷ left

  abbrev was : Branch Node
  was = keyed.branch h0 root keys ring spare w p parent at

  abbrev node : Node
  node = was.node

  abbrev above : KeyRecord
  above = node.key

  abbrev entries : List Entry
  entries = entries_of node.index

  abbrev looked : IsLooked h0 was.offset node
  looked = cells.looked h0 h1 h2 h3 h4 root keys ring p parent carved key left w at

  abbrev seen : IsSeen h0 root was.offset node
  seen = cells.seen h0 h1 h2 h3 h4 root keys ring p parent carved key left w at

  offset : was.offset ≡ parent
  offset = cells.offset h0 h1 h2 h3 h4 root keys ring p parent carved key left w at

  abbrev stands0 : StandsIn h0 root was
  stands0 = keyed.stands h0 root keys ring spare w p parent at

  abbrev old_list : List ℕ
  old_list = cells_of_index node.index

  module _ (others1 : (z : ℕ) → z ≢ key → h1 z ≡ h0 z) (there1 : IsSome (h1 key)) where
    module _ (count1 list1 : ℕ) (moves : Moves h1 h2 (old_list ++ carved) (own h2 count1 list1)) where
      abbrev P : ℕ
      P = was.offset

      module _ (name : List ℕ) (moment : ℕ) (notes : Notes h2 h3 parent (noted_subkeys count1 list1 (length name) moment)) where
        module _ (index : ℕ) (good : is_key_name name ≡ true) (short : length name ≤ KEY_NAME_LIMIT)
            (key1 : key_at h1 key ≡ Some (made_record parent above.fields.security moment name)) (plain1 : IsPlainKey (held h1 key))
            (stands_at : IsIndexFor (names_in h0 entries) (folded name) (Err index)) (missing : subkey_named h0 (folded name) parent ≡ None)
            (subkeys2 : AreSubkeys h2 count1 list1 (with_one index (entry_for h1 key) entries)) (count_is : count1 ≡ above.fields.subkeys + 1)
            (few : above.fields.subkeys < SUBKEYS_LIMIT) (recounts : Recounts h3 h4 above.fields.security (λ n. n + 1)) where
          abbrev security : ℕ
          security = above.fields.security

          abbrev entries1 : List Entry
          entries1 = with_one index (entry_for h1 key) entries

          pub calm-class : (z : ℕ) → 0 < owned z looked.class_cells → h4 z ≡ h0 z
          calm-class = cells.calm-class h0 h1 h2 h3 h4 root keys ring p parent carved key left w at others1 there1 count1 list1
              moves name moment notes index good short key1 plain1 stands_at missing subkeys2 count_is few recounts

          pub calm-values : (z : ℕ) → 0 < owned z looked.value_cells → h4 z ≡ h0 z
          calm-values = cells.calm-values h0 h1 h2 h3 h4 root keys ring p parent carved key left w at others1 there1 count1 list1
              moves name moment notes index good short key1 plain1 stands_at missing subkeys2 count_is few recounts

          abbrev new_above : KeyRecord
          new_above = noted_subkeys count1 list1 (length name) moment above

          pub key-now : key_at h4 P ≡ Some new_above
          key-now = cells.key-now h0 h1 h2 h3 h4 root keys ring p parent carved key left w at others1 there1 count1 list1 moves
              name moment notes index good short key1 plain1 stands_at missing subkeys2 count_is few recounts

          pub plain-now : IsPlainKey (held h4 P)
          plain-now = cells.plain-now h0 h1 h2 h3 h4 root keys ring p parent carved key left w at others1 there1 count1 list1 moves
              name moment notes index good short key1 plain1 stands_at missing subkeys2 count_is few recounts

          key-calm : h4 key ≡ h1 key
          key-calm = cells.key-calm h0 h1 h2 h3 h4 root keys ring p parent carved key left w at others1 there1 count1 list1 moves
              name moment notes index good short key1 plain1 stands_at missing subkeys2 count_is few recounts

          abbrev made : Node
          made = made_node key (made_record parent security moment name)

          made-is : IsSeen h4 root key made
          made-is = cells.made-is h0 h1 h2 h3 h4 root keys ring p parent carved key left w at others1 there1 count1 list1 moves
              name moment notes index good short key1 plain1 stands_at missing subkeys2 count_is few recounts

          abbrev pub subkeys4 : AreSubkeys h4 count1 list1 entries1
          subkeys4 = cells.subkeys4 h0 h1 h2 h3 h4 root keys ring p parent carved key left w at others1 there1 count1 list1 moves
              name moment notes index good short key1 plain1 stands_at missing subkeys2 count_is few recounts

          abbrev now : Node
          now = reindexed h0 h4 root P node seen looked count1 list1 (length name) moment entries1 key-now plain-now calm-class calm-values subkeys4

          abbrev is : Branch Node
          is = record { offset = P; node = now; below = hang index key made was.below }

          in-ring : IsGraftedInRing h0 h4 root was is ring spare left
          in-ring = grafting.grafts h0 h1 h2 h3 h4 root keys ring p parent carved key left w at others1 there1 count1 list1 moves
              name moment notes index good short key1 plain1 stands_at missing subkeys2 count_is few recounts

          grafts : IsGrafted h0 h4 root was is ring spare ring left
          grafts = graft-in-ring h0 h4 root p keys was is ring spare left (keyed.branch_is h0 root keys ring spare w p parent at) in-ring w

          spare-made : (z : ℕ) → 0 < times z left → h4 z ≡ h0 z
          spare-made = grafting.spare-made h0 h1 h2 h3 h4 root keys ring p parent carved key left w at others1 there1 count1 list1
              moves name moment notes index good short key1 plain1 stands_at missing subkeys2 count_is few recounts

          -- ---- what stands then

          abbrev keys_now : Branch Node
          keys_now = graft_at p now (hang index key made was.below) keys

          pub shape-made : length p + 1 ≤ PATH_LIMIT → IsShape h4 root keys_now ring left
          shape-made deep = grafted h0 h4 root p keys was is ring spare ring left (keyed.branch_is h0 root keys ring spare w p parent at) grafts
              (deep-hung p keys was index key made (keyed.branch_is h0 root keys ring spare w p parent at) w.shallow deep) w

          free : branch_at (folded name ∷ []) was ≡ None
          free =
              none-mapped (branch_at (folded name ∷ []) was)
              (sym (placed h0 root was (folded name ∷ []) stands0)
              ∙ (offset-more h0 P (folded name) []
              ∙ ap (option_and_then (λ c. key_offset_at h0 c [])) (subst (λ o. subkey_named h0 (folded name) o ≡ None) (sym offset) missing)))
            where
              none-mapped : (o : Option (Branch Node)) → option_map (λ (b : Branch Node). b.offset) o ≡ None → o ≡ None
              none-mapped None e = refl
              none-mapped (Some b) e = absurd (none-some _ (sym e))

          abbrev rec_above : Rec
          rec_above = rec_of node (descriptor_in h0 security)

          above-there : get (tree_of h0 keys) p ≡ Some rec_above
          above-there = keyed.rec_there h0 root keys ring spare w p parent at

          pub tree-made : tree_of h4 keys_now ≡ with_key (tree_of h0 keys) p name None moment
          tree-made =
              tree-hung-in-ring h0 h4 root p keys was is ring spare left (keyed.branch_is h0 root keys ring spare w p parent at) in-ring w index key made (folded name) refl refl free
              ∙ (ap (λ (t : Tree). insert t (p ++ folded name ∷ []) (made_key name (descriptor_in h0 security) moment)) (sym (edited-at (tree_of h0 keys) p rec_above (at_time moment) above-there))
              ∙ ap (λ (o : Option Rec). insert (edited (tree_of h0 keys) p (at_time moment)) (p ++ folded name ∷ []) (made_key name (descriptor_of o) moment)) (sym above-there))

          pub offsets-made : (q : Path) → key_offset_at h4 root q ≡ cond (same_path q (p ++ folded name ∷ [])) (Some key) (key_offset_at h0 root q)
          offsets-made = offsets-hung h0 h4 root p keys was is ring spare ring left (keyed.branch_is h0 root keys ring spare w p parent at) grafts w index key made (folded name) refl refl free

          pub grows : length p < PATH_LIMIT → Grows h0 h4 root p keys ring key left name moment
          grows deep = record {
            now = keys_now;
            shape = shape-made (omega (arith, deep));
            tree = tree-made;
            offsets =
                offsets-made;
            spare = spare-made;
            childless = childless;
            unlisted = unlisted;
            none = none;
            lengths =
                lengths_which h0 h4 root p keys was is (keyed.branch_is h0 root keys ring spare w p parent at) same-name w.offset w.stands
                (shape-made (omega (arith, deep))).offset (shape-made (omega (arith, deep))).stands below-same (with_first_length (name ∷ [])) refl;
            fresh = ap (option_map lengths_of) key4;
            described = λ z l. descriptor-recounted h0 h4 was is z (in-ring.recounted z l);
          }
            where
              same-name : name_of now.key ≡ name_of was.node.key
              same-name = grafted-name h0 h4 root p keys was is ring spare ring left (keyed.branch_is h0 root keys ring spare w p parent at) grafts w

              none-free : found_in (folded name ∷ []) was.below ≡ None
              none-free = branch-found (folded name ∷ []) was ∙ ap (option_map its_key) free

              below-same : (y : List ℕ) (r : Path) (o : ℕ) (m n : Node) → found_in (y ∷ r) was.below ≡ Some (o, m) →
                  found_in (y ∷ r) (hang index key made was.below) ≡ Some (o, n) → n ≡ m
              below-same y r o m n e f = by (is_named y made) refl (sym (found-hang index key made was.below none-free y r) ∙ f)
                where
                  by : (named : Bool) → is_named y made ≡ named → cond named (found_at r (its_leaf key made)) (found_in (y ∷ r) was.below) ≡ Some (o, n) → n ≡ m
                  by true t g =
                      absurd (none-some _ (sym (ap (λ x. found_in (x ∷ r) was.below) (name-is y (folded name) t) ∙ none-deeper (folded name) r was.below none-free) ∙ e))
                  by false t g = ap (λ (z : ℕ × Node). z.1) (same_Some _ _ (sym g ∙ e))

              key4 : key_at h4 key ≡ Some (made_record parent above.fields.security moment name)
              key4 = key_at-same h1 h4 key key-calm ∙ key1

              childless : (x : List ℕ) → subkey_named h4 x key ≡ None
              childless x = ap (option_and_then (λ (node : Node). key_named h4 x (offsets_in (entries_of node.index)))) made-is.reads

              unlisted : planned h4 key first_place ≡ first_cells
              unlisted = ap (planned_by h4 first_place) key4 ∙ sym (first-sizes h4 0 NONE first_place refl)

              none : (k : KeyRecord) → key_at h4 key ≡ Some k → k.fields.subkeys ≡ 0
              none k e = ap (λ (k : KeyRecord). k.fields.subkeys) (same_Some _ _ (sym e ∙ key4))
