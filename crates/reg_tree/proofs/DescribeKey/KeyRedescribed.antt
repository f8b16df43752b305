-- A key that names another security, and has another time: it is seen as it is then.
use Rattle.std.proofs.Common.{◌≡◌, ℕ, Some, List, ◌++◌, ap, ◌∙◌, arith}
use Rattle.std.specs.Option.{option_map, option_and_then}
use Rattle.reg_heap.specs.Heaps.{Heap}
use Rattle.reg_heap.specs.Kinds.{Found, owned}
use Rattle.reg_heap.specs.Kinds.Kind.{Class}
use Rattle.reg_records.specs.BigData.{if_any}
use Rattle.reg_records.specs.KeyNodes.{KeyRecord, key_at, IsPlainKey}
use Rattle.reg_records.specs.RecordCells.{held}
use Rattle.reg_shape.specs.Nodes.{Node, members_at, index_at, node_of, node_in, met_of, look}
use Rattle.reg_shape.specs.Written.{Fits}
use Rattle.reg_shape.specs.Internal.Shapes.{index_cells, cells_of, IsSeen}
use Rattle.reg_shape.proofs.Frame.KeyFrame.{Keeps, agree-inner, index-local}
use Rattle.reg_shape.proofs.Frame.ReadingFrame.{pieces-local, members-local}
use Rattle.reg_shape.proofs.Frame.WrittenFrame.{list-kept}
use Rattle.reg_shape.proofs.Walking.InnerReadings.{class-inner, members-inner}
use Rattle.reg_shape.proofs.Walking.WalkRefinement.{IsLooked}
use Rattle.reg_tree.specs.Internal.KeyNodeChanges.{noted_security}
use Rattle.reg_tree.proofs.Invariant.OwnCells.{own-parts}

module _ (h k : Heap) (root offset : ℕ) (node : Node) (seen : IsSeen h root offset node) (l : IsLooked h offset node) (security moment : ℕ)
    (key-now : key_at k offset ≡ Some (noted_security security moment node.key)) (plain-now : IsPlainKey (held k offset))
    (class-calm : Keeps h k l.class_cells) (values-calm : Keeps h k l.value_cells) (index-calm : Keeps h k (index_cells node.index)) where
  abbrev new_key : KeyRecord
  new_key = noted_security security moment node.key

  -- the key as it is after the change
  abbrev pub redescribed : Node
  redescribed = record { key = new_key; class = node.class; values = node.values; cells = met_of offset new_key l.class_cells l.value_cells; index = node.index }

  pub looks-redescribed : look k offset ≡ Some redescribed
  unfolding look
  looks-redescribed =
      let key = node.key in
      let class = pieces-local (if_any Class key.fields.class_length key.fields.class) h k (node.class, l.class_cells) l.class_is
      (agree-inner h k l.class_cells (class-inner h key.fields.class_length key.fields.class (node.class, l.class_cells) l.class_is) class-calm) in
      let values = members-local key.fields.values key.fields.values_list h k (node.values, l.value_cells) l.values_are
      (agree-inner h k l.value_cells (members-inner h key.fields.values key.fields.values_list (node.values, l.value_cells) l.values_are)
      values-calm) in
      let index = index-local h k key.fields.subkeys key.fields.subkeys_list node.index l.index_is index-calm in
      ap (option_and_then (node_in k offset)) key-now
      ∙ (ap (option_and_then (λ class. option_and_then (λ values. option_map (node_of offset new_key class values)
      (index_at k key.fields.subkeys key.fields.subkeys_list)) (members_at key.fields.values key.fields.values_list k))) class
      ∙ (ap (option_and_then (λ values. option_map (node_of offset new_key (node.class, l.class_cells) values)
      (index_at k key.fields.subkeys key.fields.subkeys_list))) values
      ∙ ap (option_map (node_of offset new_key (node.class, l.class_cells) (node.values, l.value_cells))) index))

  pub sees-redescribed : IsSeen k root offset redescribed
  sees-redescribed =
      let w = seen.written in
      let key = node.key in
      record {
        reads = looks-redescribed;
        written = record {
          plain = plain-now;
          flags = w.flags;
          name = w.name;
          parent = w.parent;
          class = w.class;
          values = record {
            list = list-kept h k key.fields.values key.fields.values_list node.values l.value_cells l.values_are
                (agree-inner h k l.value_cells (members-inner h key.fields.values key.fields.values_list (node.values, l.value_cells) l.values_are)
                values-calm) w.values.list;
            longest_name = w.values.longest_name;
            largest = w.values.largest;
          };
          subkeys = w.subkeys;
          few = w.few;
          none = w.none;
          upper = w.upper;
          index = w.index;
        };
      }

  -- it fits the keys below it as before
  pub fits-redescribed : (below : List (ℕ × Node)) → Fits offset node below → Fits offset redescribed below
  fits-redescribed below f = record {
    offsets = f.offsets;
    hashes = f.hashes;
    order = f.order;
    parents = f.parents;
    longest_name = f.longest_name;
    longest_class = f.longest_class;
  }

  -- its own cells are what they were
  pub owned-redescribed : (z : ℕ) → owned z (cells_of redescribed) ≡ owned z (cells_of node)
  owned-redescribed z =
      let a = ap (λ (found : List Found). owned z (found ++ index_cells node.index)) l.cells ∙ own-parts z offset node.key l.class_cells l.value_cells node.index in
      let b = own-parts z offset new_key l.class_cells l.value_cells node.index in
      omega (arith, a, b)
