-- A key node written anew, with flags, a time, a class and a largest length of a subkey's class of its own: the key is seen as it is then.
use Rattle.std.proofs.Common.{◌≡◌, ℕ, ◌+◌, ◌≤◌, Some, List, ◌++◌, ap, ◌∙◌, arith, bit_and}
use Rattle.std.specs.Option.{option_map, option_and_then}
use Rattle.reg_heap.specs.declared.limits.TheConstants.{NONE}
use Rattle.reg_heap.specs.Heaps.{Heap}
use Rattle.reg_heap.specs.Kinds.{Found, is_own, owned, shared}
use Rattle.reg_heap.specs.Kinds.Kind.{Key, Class}
use Rattle.reg_records.specs.BigData.{if_any}
use Rattle.reg_records.specs.KeyNodes.{KeyRecord, key_at, IsPlainKey}
use Rattle.reg_records.specs.RecordCells.{held}
use Rattle.reg_shape.specs.Nodes.{Node, pieces_at, members_at, index_at, node_of, node_in, met_of, look}
use Rattle.reg_shape.specs.Written.{Fits}
use Rattle.reg_shape.specs.Internal.Shapes.{index_cells, cells_of, IsSeen}
use Rattle.reg_shape.proofs.Frame.KeyFrame.{Keeps, agree-inner, index-local}
use Rattle.reg_shape.proofs.Frame.ReadingFrame.{members-local}
use Rattle.reg_shape.proofs.Frame.WrittenFrame.{list-kept}
use Rattle.reg_shape.proofs.Walking.InnerReadings.{class-inner, members-inner}
use Rattle.reg_shape.proofs.Walking.WalkRefinement.{IsLooked}
use Rattle.reg_shape.proofs.Wholeness.WholeAfterExchange.{all-weaker}
use Rattle.reg_tree.proofs.Invariant.OwnCells.{own-parts, shared-parts, inner-unshared}

module _ (h k : Heap) (root offset : ℕ) (node : Node) (seen : IsSeen h root offset node) (l : IsLooked h offset node)
    (flags time class_offset class_length largest : ℕ) where
  abbrev pub new_key : KeyRecord
  new_key = record node.key {
    fields = record node.key.fields {
      flags = flags;
      time = time;
      class = class_offset;
      class_length = class_length;
      largest_subkey_class = largest;
    };
  }

  module _ (key-now : key_at k offset ≡ Some new_key) (plain-now : IsPlainKey (held k offset)) (class : List ℕ) (class_cells : List Found)
      (class-now : pieces_at (if_any Class class_length class_offset) k ≡ Some (class, class_cells))
      (values-calm : Keeps h k l.value_cells) (index-calm : Keeps h k (index_cells node.index))
      (flags-same : bit_and flags 103 ≡ bit_and node.key.fields.flags 103) (class-none : class_length ≡ 0 → class_offset ≡ NONE) where
    -- the key as it is after the change
    abbrev pub rewritten : Node
    rewritten = record { key = new_key; class = class; values = node.values; cells = met_of offset new_key class_cells l.value_cells; index = node.index }

    looks-rewritten : look k offset ≡ Some rewritten
    unfolding look
    looks-rewritten =
        let key = node.key in
        let values = members-local key.fields.values key.fields.values_list h k (node.values, l.value_cells) l.values_are
        (agree-inner h k l.value_cells (members-inner h key.fields.values key.fields.values_list (node.values, l.value_cells) l.values_are)
        values-calm) in
        let index = index-local h k key.fields.subkeys key.fields.subkeys_list node.index l.index_is index-calm in
        ap (option_and_then (node_in k offset)) key-now
        ∙ (ap (option_and_then (λ class. option_and_then (λ values. option_map (node_of offset new_key class values)
        (index_at k key.fields.subkeys key.fields.subkeys_list)) (members_at key.fields.values key.fields.values_list k))) class-now
        ∙ (ap (option_and_then (λ values. option_map (node_of offset new_key (class, class_cells) values)
        (index_at k key.fields.subkeys key.fields.subkeys_list))) values
        ∙ ap (option_map (node_of offset new_key (class, class_cells) (node.values, l.value_cells))) index))

    pub sees-rewritten : IsSeen k root offset rewritten
    sees-rewritten =
        let w = seen.written in
        let key = node.key in
        record {
          reads = looks-rewritten;
          written = record {
            plain = plain-now;
            flags = flags-same ∙ w.flags;
            name = w.name;
            parent = w.parent;
            class = class-none;
            values = record {
              list = list-kept h k key.fields.values key.fields.values_list node.values l.value_cells l.values_are
                  (agree-inner h k l.value_cells (members-inner h key.fields.values key.fields.values_list (node.values, l.value_cells) l.values_are)
                  values-calm) w.values.list;
              longest_name = w.values.longest_name;
              largest = w.values.largest;
            };
            subkeys = w.subkeys;
            few = w.few;
            none = w.none;
            upper = w.upper;
            index = w.index;
          };
        }

    -- it fits the keys below it as before, where it notes no smaller length of a class
    pub fits-rewritten : node.key.fields.largest_subkey_class ≤ largest → (below : List (ℕ × Node)) → Fits offset node below → Fits offset rewritten below
    fits-rewritten more below f = record {
      offsets = f.offsets;
      hashes = f.hashes;
      order = f.order;
      parents = f.parents;
      longest_name = f.longest_name;
      longest_class =
          all-weaker (λ (e : ℕ × Node). e.1.key.fields.class_length ≤ node.key.fields.largest_subkey_class)
          (λ (e : ℕ × Node). e.1.key.fields.class_length ≤ largest) (λ e few. omega (arith, few, more)) below f.longest_class;
    }

    pub owned-before : (z : ℕ) → owned z (cells_of node) ≡ is_own z (record { kind = Key; offset = offset }) + ((owned z l.class_cells + owned z l.value_cells) + owned z (index_cells node.index))
    owned-before z = ap (λ (found : List Found). owned z (found ++ index_cells node.index)) l.cells ∙ own-parts z offset node.key l.class_cells l.value_cells node.index

    -- its own cells are what they were, but for those of its class
    pub owned-rewritten : (z : ℕ) → owned z (cells_of rewritten) + owned z l.class_cells ≡ owned z (cells_of node) + owned z class_cells
    owned-rewritten z =
        let a = owned-before z in
        let b = own-parts z offset new_key class_cells l.value_cells node.index in
        omega (arith, a, b)

    -- it names the same security
    pub shared-rewritten : (z : ℕ) → shared z (cells_of rewritten) ≡ shared z (cells_of node)
    shared-rewritten z =
        let key = node.key in
        let a = ap (λ (found : List Found). shared z (found ++ index_cells node.index)) l.cells ∙ shared-parts z offset key l.class_cells l.value_cells node.index in
        let b = shared-parts z offset new_key class_cells l.value_cells node.index in
        let v = inner-unshared z l.class_cells (class-inner h key.fields.class_length key.fields.class (node.class, l.class_cells) l.class_is) in
        let w = inner-unshared z class_cells (class-inner k class_length class_offset (class, class_cells) class-now) in
        omega (arith, a, b, v, w)
