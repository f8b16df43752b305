-- The hive after its first value is whole; a hive whose security counts one key too many is not.
use Rattle.std.proofs.Common.{◌≡◌, ℕ, ◌+◌, ◌<◌, ◌≤◌, ◌↔◌, ◌&&◌, Bool, true, false, cond, List, [], ◌∷◌, ◌++◌, replicate, Some, None, refl, sym, ap, ◌∙◌, subst, arith, eqb, IsSome, length}
use Rattle.std.proofs.lemmas.Bool.{false≢true}
use Rattle.std.proofs.lemmas.Option.{same_Some}
use Rattle.std.specs.List.{AllByRecursion}
use Rattle.reg_heap.specs.ByteWords.{half, word, long}
use Rattle.reg_heap.specs.Paths.{Path, Rec}
use Rattle.reg_heap.specs.Kinds.{Kind, Found, shared}
use Rattle.reg_heap.specs.Kinds.Kind.{Key, ValueList, Value, Security}
use Rattle.reg_arena.specs.Cells.{cells_of, cell_at, content_of}
use Rattle.reg_records.specs.KeyNodes.{nk_of, nk_bytes, key_at}
use Rattle.reg_records.specs.KeySecurities.{sk_of, sk_bytes, security_at}
use Rattle.reg_records.specs.KeyValues.{vk_of, vk_bytes, value_record_at}
use Rattle.reg_records.specs.declared.vk.ValueFields.{ValueFields}
use Rattle.reg_records.specs.OffsetRows.{row_in, offsets_at}
use Rattle.reg_records.specs.BigData.{plainly, segment_size}
use Rattle.reg_shape.specs.Walk.{walk}
use Rattle.reg_arena.specs.NewCells.{used, unused}
use Rattle.reg_shape.specs.Nodes.{Node}
use Rattle.reg_shape.specs.Nodes.Index.{Unlisted}
use Rattle.reg_shape.proofs.Wholeness.ShapeRecords.{is_key, all-at}
use Rattle.reg_shape.specs.Nodes.{look}
use Rattle.reg_shape.specs.Spelt.{keys_from}
use Rattle.reg_shape.specs.Written.{IsWrittenValue, AreWrittenValues}
use Rattle.reg_shape.specs.Whole.{Meets, count_at, IsRing, IsWritten, Whole}
use Rattle.reg_shape.proofs.Computed.RowsOfHives.{header, zeros, none, root_cell, security_cell, valued, valued-cells, valued-walk, fresh_found, fresh_fields, descriptor, root_name}

abbrev valued_found : List Found
valued_found =
    record { kind = Key; offset = 32 } ∷ record { kind = Security; offset = 120 } ∷ record { kind = ValueList; offset = 192 } ∷ record { kind = Value; offset = 168 } ∷ []

abbrev valued_node : Node
valued_node = record {
  key = record { fields = record fresh_fields { values = 1; values_list = 192; largest_value_data = 4 }; name = root_name };
  class = [];
  values = record { name = []; kind = 4; bytes = 1 ∷ 0 ∷ 0 ∷ 0 ∷ [] } ∷ [];
  cells = valued_found;
  index = Unlisted;
}

-- an offset is met where its cell is allocated, by the tests of the cells' offsets
one : (a b c d e : Bool) (v w x y z : List ℕ) → (0 < (cond a 1 0 + (0 + (cond c 1 0 + (cond d 1 0 + 0)))) + (0 + (cond b 1 0 + 0))) ↔
    IsSome (cond (a && true) (Some w)
    (cond (b && true) (Some x) (cond (d && true) (Some y) (cond (c && true) (Some z) (cond (e && false) (Some v) None)))))
one true b c d e v w x y z = ((λ _. refl), λ _. omega arith)
one false true c d e v w x y z = ((λ _. refl), λ _. omega arith)
one false false c true e v w x y z = ((λ _. refl), λ _. omega arith)
one false false true false e v w x y z = ((λ _. refl), λ _. omega arith)
one false false false false true v w x y z = ((λ l. absurd (omega arith)), λ e. absurd (false≢true e))
one false false false false false v w x y z = ((λ l. absurd (omega arith)), λ e. absurd (false≢true e))

exact : (offset : ℕ) → Meets valued_found offset ↔ IsSome (cell_at valued offset)
unfolding cell_at
exact offset =
    subst (λ cells. Meets valued_found offset ↔ IsSome (content_of valued cells offset)) (sym valued-cells)
    (one (eqb 32 offset) (eqb 120 offset) (eqb 192 offset) (eqb 168 offset) (eqb 200 offset) _ _ _ _ _)

closed : IsRing (cell_at valued) (120 ∷ [])
unfolding security_at sk_of sk_bytes cell_at cells_of half word
closed = record {
  circles = record { forward = refl; back = refl };
  apart = (tt, tt);
  written = (
    record {
      security = record { fields = record { flink = 120; blink = 120; count = 1 }; descriptor = descriptor };
      reads = refl;
      plain =
          refl;
      some = omega arith;
      short = omega arith;
    },
    tt,
  );
}

value_fields : ValueFields
value_fields = record { size = 2147483652; offset = 1; kind = 4; flags = 0 }

written : IsWrittenValue (cell_at valued) 168
unfolding value_record_at vk_of vk_bytes cell_at cells_of half word value_fields
written = record {
  value = record { fields = value_fields; name = [] };
  reads = refl;
  plain = refl;
  flags = refl;
  data_is = record { inline = λ _. refl; far = λ e. absurd (false≢true (sym e)); big = λ e l. absurd (false≢true (sym e)) };
}

values : AreWrittenValues (cell_at valued) valued_node
unfolding offsets_at cell_at cells_of word
values = record {
  list = record {
    few = omega arith;
    none = λ e. absurd (omega (arith, e));
    each = (written, tt);
    names = (refl, tt);
    apart = (tt, tt);
    sizes = (omega arith, tt);
  };
  longest_name = (omega arith, tt);
  largest = (omega arith, tt);
}

valued-look : look (cell_at valued) 32 ≡ Some valued_node
unfolding look key_at nk_of vk_of row_in offsets_at cell_at cells_of half word long segment_size
valued-look = refl

root-written : IsWritten (cell_at valued) 32 32
unfolding nk_bytes cell_at cells_of half word long
root-written = record {
  node = valued_node;
  seen = valued-look;
  written = record {
    plain = record { access = refl; volatile_subkeys = refl; volatile_list = refl; work = refl };
    flags = refl;
    name = refl;
    parent = λ _. refl;
    class = λ _. refl;
    values = values;
    subkeys = refl;
    few = omega arith;
    none = λ _. refl;
    upper = omega arith;
    index = tt;
  };
  below = [];
  reads = tt;
  fits = record { offsets = refl; hashes = refl; order = tt; parents = tt; longest_name = tt; longest_class = tt };
}

root_rec : Rec
root_rec = record { name = root_name; marks = 8; class = []; descriptor = descriptor; time = 0; values = record { name = []; kind = 4; bytes = 1 ∷ 0 ∷ 0 ∷ 0 ∷ [] } ∷ [] }

valued-keys : keys_from 5 (cell_at valued) 32 ≡ Some ((root_name ∷ [], root_rec) ∷ [])
unfolding keys_from look key_at nk_of vk_of row_in offsets_at security_at sk_of cell_at cells_of half word long segment_size root_rec
valued-keys = refl

depth : (keys : List (Path × Rec)) → keys_from 5 (cell_at valued) 32 ≡ Some keys → AllByRecursion (λ (e : Path × Rec). length e.0 ≤ 513) keys
depth keys e = subst (λ ks. AllByRecursion (λ (e : Path × Rec). length e.0 ≤ 513) ks) (same_Some _ _ (sym valued-keys ∙ e)) (omega arith, tt)

counts : count_at (cell_at valued) 120 ≡ Some 1
unfolding security_at sk_of cell_at cells_of half word
counts = refl

other : (kind : Kind) → is_key kind ≡ false → kind ≡ Key → ⊥
other kind i e = false≢true (sym i ∙ ap is_key e)

pub valued-whole : Whole valued 32
valued-whole = record {
  cells = _;
  cells_are = valued-cells;
  whole = record {
    found = valued_found;
    walked = valued-walk;
    once = (
      ((λ e. absurd (omega arith)), ((λ e. absurd (omega arith)), ((λ e. absurd (omega arith)), tt))),
      (((λ e. absurd (omega arith)), ((λ e. absurd (omega arith)), tt)), (((λ e. absurd (omega arith)), tt), (tt, tt))),
    );
    exact = exact;
    ring = 120 ∷ [];
    closed = closed;
    ringed = λ offset. ((λ l. omega arith), λ l. omega arith);
    counts = (counts, tt);
    keys = ((λ _. root-written), ((λ e. absurd (other Security refl e)), ((λ e. absurd (other ValueList refl e)), ((λ e. absurd (other Value refl e)), tt))));
    depth = depth;
  };
}

-- ---- a wrong count

abbrev miscounted : List ℕ
miscounted = header ++ (root_cell zeros none zeros ++ (security_cell 2 ++ ((88 ∷ 15 ∷ 0 ∷ 0 ∷ 255 ∷ 255 ∷ 255 ∷ 255 ∷ []) ++ replicate 3920 0)))

miscounted-cells : cells_of miscounted ≡ Some (used 32 88 ∷ used 120 48 ∷ unused 168 3928 ∷ [])
unfolding cells_of word
miscounted-cells = refl

miscounted-walk : walk 3 (cell_at miscounted) (plainly Key 32) ≡ Some fresh_found
unfolding cell_at cells_of word half long walk nk_of sk_of
miscounted-walk = refl

miscounted-count : count_at (cell_at miscounted) 120 ≡ Some 2
unfolding security_at sk_of cell_at cells_of half word
miscounted-count = refl

miscounted-not-whole : Whole miscounted 32 → ⊥
miscounted-not-whole w =
    let h = w.whole in
    let cells : length w.cells ≡ 3 = ap length (same_Some _ _ (sym w.cells_are ∙ miscounted-cells)) in
    let found : h.found ≡ fresh_found = same_Some _ _ (sym h.walked ∙ (ap (λ k. walk k (cell_at miscounted) (plainly Key 32)) cells ∙ miscounted-walk)) in
    let one : ◌≡◌ {A = ℕ} (shared 120 h.found) 1 = ap (shared 120) found in
    let said = all-at (λ z. count_at (cell_at miscounted) z ≡ Some (shared z h.found)) h.ring 120 h.counts ((h.ringed 120).0 (omega (arith, one))) in
    let two : ◌≡◌ {A = ℕ} 2 (shared 120 h.found) = same_Some _ _ (sym miscounted-count ∙ said) in
    omega (arith, one, two)
