-- A made key, as it is read: no class, no values, no subkeys.
use Rattle.std.proofs.Common.{◌≡◌, ◌≢◌, ℕ, true, cond, Some, List, [], ◌∷◌, refl, sym, ap, arith}
use Rattle.std.specs.Option.{option_and_then}
use Rattle.std.proofs.lemmas.Bool.{ne_eqb}
use Rattle.reg_names.specs.Names.{is_key_name}
use Rattle.reg_heap.specs.Heaps.{Heap}
use Rattle.reg_heap.specs.Kinds.{times, owned, shared}
use Rattle.reg_records.specs.RecordCells.{held}
use Rattle.reg_records.specs.KeyNodes.{KeyRecord, key_at, IsPlainKey}
use Rattle.reg_records.specs.OffsetRows.{offsets_at}
use Rattle.reg_shape.specs.Nodes.{Node, node_in, met_of, look}
use Rattle.reg_shape.specs.Nodes.Index.{Unlisted}
use Rattle.reg_shape.specs.Written.{AreWrittenValues}
use Rattle.reg_shape.specs.Internal.Shapes.{cells_of, IsSeen}
use Rattle.reg_tree.specs.Internal.KeyNodeChanges.{made_fields}

-- its key node
abbrev pub made_record : ℕ → ℕ → ℕ → List ℕ → KeyRecord
made_record parent security moment name = record { fields = made_fields parent security moment; name = name }

abbrev pub made_node : ℕ → KeyRecord → Node
made_node key r = record { key = r; class = []; values = []; cells = met_of key r [] []; index = Unlisted }

module _ (h : Heap) (key parent security moment : ℕ) (name : List ℕ) where
  abbrev r : KeyRecord
  r = made_record parent security moment name

  pub made-look : key_at h key ≡ Some r → look h key ≡ Some (made_node key r)
  unfolding look
  made-look e = ap (option_and_then (node_in h key)) e

  made-values : AreWrittenValues h (made_node key r)
  unfolding offsets_at
  made-values = record {
    list = record { few = omega arith; none = λ _. refl; each = tt; names = tt; apart = tt; sizes = tt };
    longest_name = tt;
    largest = tt;
  }

  pub made-seen : (root : ℕ) → key ≢ root → key_at h key ≡ Some r → is_key_name name ≡ true → IsPlainKey (held h key) → IsSeen h root key (made_node key r)
  made-seen root other e good plain = record {
    reads = made-look e;
    written = record {
      plain = plain;
      flags = ap (λ b. cond b 36 32) (sym (ne_eqb key root other));
      name = good;
      parent = λ same. absurd (other same);
      class = λ _. refl;
      values = made-values;
      subkeys = refl;
      few = omega arith;
      none = λ _. refl;
      upper = omega arith;
      index = tt;
    };
  }

  -- its own cell is its key node's
  pub made-owns : (z : ℕ) → owned z (cells_of (made_node key r)) ≡ times z (key ∷ [])
  made-owns z = omega arith

  -- and it names its security
  pub made-shares : (z : ℕ) → shared z (cells_of (made_node key r)) ≡ times z (security ∷ [])
  made-shares z = omega arith
