-- The fresh hive is whole: the definition can be met.
use Rattle.std.proofs.Common.{◌≡◌, ℕ, ◌+◌, ◌<◌, ◌≤◌, ◌↔◌, ◌&&◌, Bool, true, false, cond, List, [], ◌∷◌, Some, None, refl, sym, ap, ◌∙◌, subst, arith, eqb, IsSome, length}
use Rattle.std.proofs.lemmas.Bool.{false≢true}
use Rattle.std.proofs.lemmas.Option.{same_Some}
use Rattle.std.specs.List.{AllByRecursion}
use Rattle.reg_heap.specs.ByteWords.{half, word, long}
use Rattle.reg_heap.specs.Paths.{Path, Rec}
use Rattle.reg_heap.specs.Heaps.{Heap}
use Rattle.reg_heap.specs.Kinds.{is_security}
use Rattle.reg_arena.specs.Cells.{cells_of, cell_at, content_of}
use Rattle.reg_records.specs.KeyNodes.{nk_of, nk_bytes, key_at}
use Rattle.reg_records.specs.KeySecurities.{sk_of, sk_bytes, security_at}
use Rattle.reg_records.specs.OffsetRows.{offsets_at}
use Rattle.reg_shape.specs.Nodes.{look}
use Rattle.reg_shape.specs.Spelt.{keys_from}
use Rattle.reg_shape.specs.Written.{AreWrittenValues}
use Rattle.reg_shape.specs.Whole.{Meets, count_at, Links, Circles, IsRing, IsWritten, Whole}
use Rattle.reg_shape.proofs.Computed.RowsOfHives.{fresh, fresh-cells, fresh-walk, fresh_found, fresh_node, descriptor, root_name}

-- an offset is met where its cell is allocated, by the tests of the cells' offsets
one : (a b c : Bool) (x y z : List ℕ) → (0 < (cond a 1 0 + 0) + (0 + (cond b 1 0 + 0))) ↔ IsSome (cond (a && true) (Some x) (cond (b && true) (Some y) (cond (c && false) (Some z) None)))
one true b c x y z = ((λ _. refl), λ _. omega arith)
one false true c x y z = ((λ _. refl), λ _. omega arith)
one false false true x y z = ((λ l. absurd (omega arith)), λ e. absurd (false≢true e))
one false false false x y z = ((λ l. absurd (omega arith)), λ e. absurd (false≢true e))

exact : (offset : ℕ) → Meets fresh_found offset ↔ IsSome (cell_at fresh offset)
unfolding cell_at
exact offset =
    subst (λ cells. Meets fresh_found offset ↔ IsSome (content_of fresh cells offset)) (sym fresh-cells)
    (one (eqb 32 offset) (eqb 120 offset) (eqb 168 offset) _ _ _)

closed : IsRing (cell_at fresh) (120 ∷ [])
unfolding security_at sk_of sk_bytes cell_at cells_of half word
closed = record {
  circles = record { forward = refl; back = refl };
  apart = (tt, tt);
  written = (
    record {
      security = record { fields = record { flink = 120; blink = 120; count = 1 }; descriptor = descriptor };
      reads = refl;
      plain =
          refl;
      some = omega arith;
      short = omega arith;
    },
    tt,
  );
}

values : AreWrittenValues (cell_at fresh) fresh_node
unfolding offsets_at
values = record { list = record { few = omega arith; none = λ _. refl; each = tt; names = tt; apart = tt; sizes = tt }; longest_name = tt; largest = tt }

root-written : IsWritten (cell_at fresh) 32 32
unfolding look key_at nk_of nk_bytes cell_at cells_of half word long
root-written = record {
  node = fresh_node;
  seen = refl;
  written = record {
    plain = record { access = refl; volatile_subkeys = refl; volatile_list = refl; work = refl };
    flags = refl;
    name = refl;
    parent = λ _. refl;
    class = λ _. refl;
    values = values;
    subkeys = refl;
    few = omega arith;
    none = λ _. refl;
    upper = omega arith;
    index = tt;
  };
  below = [];
  reads = tt;
  fits = record { offsets = refl; hashes = refl; order = tt; parents = tt; longest_name = tt; longest_class = tt };
}

root_rec : Rec
root_rec = record { name = root_name; marks = 8; class = []; descriptor = descriptor; time = 0; values = [] }

fresh-keys : keys_from 3 (cell_at fresh) 32 ≡ Some ((root_name ∷ [], root_rec) ∷ [])
unfolding keys_from look key_at nk_of security_at sk_of cell_at cells_of half word long root_rec
fresh-keys = refl

depth : (keys : List (Path × Rec)) → keys_from 3 (cell_at fresh) 32 ≡ Some keys → AllByRecursion (λ (e : Path × Rec). length e.0 ≤ 513) keys
depth keys e = subst (λ ks. AllByRecursion (λ (e : Path × Rec). length e.0 ≤ 513) ks) (same_Some _ _ (sym fresh-keys ∙ e)) (omega arith, tt)

-- a ring of none, and one of three
no-ring : (heap : Heap) → IsRing heap []
no-ring heap = record { circles = tt; apart = tt; written = tt }

three-linked : (heap : Heap) (a b c : ℕ) → Circles heap (a ∷ b ∷ c ∷ []) ≡ (Links heap a b × (Links heap b c × Links heap c a))
three-linked heap a b c = refl

counts : count_at (cell_at fresh) 120 ≡ Some 1
unfolding security_at sk_of cell_at cells_of half word
counts = refl

pub fresh-whole : Whole fresh 32
fresh-whole = record {
  cells = _;
  cells_are = fresh-cells;
  whole = record {
    found = fresh_found;
    walked = fresh-walk;
    once = (((λ e. absurd (omega arith)), tt), (tt, tt));
    exact = exact;
    ring = 120 ∷ [];
    closed = closed;
    ringed = λ offset. ((λ l. omega arith), λ l. omega arith);
    counts = (counts, tt);
    keys = ((λ _. root-written), ((λ e. absurd (false≢true (ap is_security (sym e)))), tt));
    depth = depth;
  };
}
