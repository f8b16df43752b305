-- The sizes of the cells that a key's subkeys take with one more, at any place: how large they are.
use Rattle.std.proofs.Common.{◌≡◌, ℕ, zero, suc, ◌+◌, ◌*◌, ◌%◌, ◌≤◌, ◌==◌, Bool, true, false, cond, nat_le, Some, None, List, [], ◌∷◌, length, refl, sym, ap, subst, arith}
use Rattle.std.specs.List.{AllByRecursion}
use Rattle.std.proofs.lemmas.Option.{none-some, same_Some}
use Rattle.reg_heap.specs.declared.limits.TheConstants.{LEAF_LIMIT, SUBKEYS_LIMIT}
use Rattle.reg_heap.specs.Heaps.{Heap}
use Rattle.reg_arena.specs.Cells.{cell_at}
use Rattle.reg_records.specs.RecordCells.{held}
use Rattle.reg_records.specs.SubkeyLists.{Entry}
use Rattle.reg_shape.specs.Nodes.{KeyList, Index, lists_of}
use Rattle.reg_shape.specs.Nodes.Index.{Unlisted, Listed, Rooted}
use Rattle.reg_shape.specs.Written.{IsWrittenList, IsWrittenIndex}
use Rattle.reg_index.specs.declared.IndexCells.{IndexCells}
use Rattle.reg_index.specs.declared.Place.{Place}
use Rattle.reg_index.specs.declared.plan.TheConstants.{FIRST_LIST_SIZE, FIRST_HALF, SECOND_HALF}
use Rattle.reg_index.specs.Subkeys.{AreSubkeys, grown_size, insert_sizes, list_size, numbered, root_size, root_sizes, sizes_in}
use Rattle.reg_index.proofs.InsertSizes.{sizes-are}
use Rattle.reg_index.proofs.ListPlaces.{all-stand}
use Rattle.reg_index.proofs.PlannedSizes.{IsSizeTo}
use Rattle.reg_index.proofs.ReadyCells.{few-by}
use Rattle.reg_index.proofs.SubkeysOpening.{lists-has}
use Rattle.reg_tree.specs.CellSizes.{first_cells, planned, planned_by}
use Rattle.reg_tree.specs.Internal.TreeInvariant.{IsHere}
use Rattle.reg_tree.proofs.Invariant.KeyOfTree as here
use Rattle.reg_tree.proofs.PathWalk.SubkeysFound.{own_subkeys}

-- sizes of the cells of an index: those of a list of 501 subkeys at most, of a second half, and of an index root of 60,001 lists
pub record IsPlan (plan : IndexCells) : Type 0 where
  pub list : IsSizeTo 4016 plan.list
  pub second : IsSizeTo 2016 plan.second
  pub root : IsSizeTo 240016 plan.root

no-size : (most : ℕ) → IsSizeTo most None
no-size most n e = absurd (none-some _ e)

some-size : (most size : ℕ) → (size % 8 ≡ 0) × (16 ≤ size) × (size ≤ most) → IsSizeTo most (Some size)
some-size most size l n e = subst (λ n. (n % 8 ≡ 0) × (16 ≤ n) × (n ≤ most)) (same_Some _ _ e) l

test-size : (most size : ℕ) (b : Bool) → (size % 8 ≡ 0) × (16 ≤ size) × (size ≤ most) → IsSizeTo most (cond b None (Some size))
test-size most size true l = no-size most
test-size most size false l = some-size most size l

pub first_plan : IsPlan first_cells
first_plan = record { list = some-size 4016 FIRST_LIST_SIZE (refl, omega arith, omega arith); second = no-size 2016; root = no-size 240016 }

-- the list of a number, where there is one or not
numbered-few : (lists : List KeyList) (number : ℕ) → AllByRecursion IsWrittenList lists → length (numbered number lists).list.entries ≤ LEAF_LIMIT
numbered-few [] number all = omega arith
numbered-few (list ∷ lists) zero all = all.0.few
numbered-few (list ∷ lists) (suc number) all = numbered-few lists number all.1

grown-to : (heap : Heap) (list : KeyList) → length list.list.entries ≤ LEAF_LIMIT → IsSizeTo 4016 (grown_size heap list)
grown-to heap list l =
    test-size 4016 (list_size (suc (length list.list.entries))) (nat_le (4 + 8 * suc (length list.list.entries)) (length (held heap list.offset))) (omega arith, omega arith, omega (arith, l))

roots-to : (heap : Heap) (index : Index) → length (lists_of index) ≤ SUBKEYS_LIMIT → IsSizeTo 240016 (root_sizes heap index)
roots-to heap Unlisted few = no-size 240016
roots-to heap (Listed list) few = some-size 240016 16 (refl, omega arith, omega arith)
roots-to heap (Rooted offset lists) few =
    let k : ℕ = suc (length lists) in
    test-size 240016 (root_size k) (nat_le (4 + 4 * k) (length (held heap offset))) (omega arith, omega arith, omega (arith, few))

some-plan : (heap : Heap) (index : Index) (number : ℕ) (b : Bool) → length (lists_of index) ≤ SUBKEYS_LIMIT → AllByRecursion IsWrittenList (lists_of index) →
    IsPlan (cond b (record { list = Some (list_size FIRST_HALF); second = Some (list_size SECOND_HALF); root = root_sizes heap index })
    (record { list = grown_size heap (numbered number (lists_of index)); second = None; root = None }))
some-plan heap index number true few all = record {
  list = some-size 4016 (list_size FIRST_HALF) (refl, omega arith, omega arith);
  second = some-size 2016 (list_size SECOND_HALF) (refl, omega arith, omega arith);
  root = roots-to heap index few;
}
some-plan heap index number false few all =
    record { list = grown-to heap (numbered number (lists_of index)) (numbered-few (lists_of index) number all); second = no-size 2016; root = no-size 240016 }

index-plan : (heap : Heap) (index : Index) (number : ℕ) → length (lists_of index) ≤ SUBKEYS_LIMIT → IsWrittenIndex index → IsPlan (sizes_in heap index number)
index-plan heap Unlisted number few w = first_plan
index-plan heap (Listed list) number few w = some-plan heap (Listed list) number (length (numbered number (list ∷ [])).list.entries == LEAF_LIMIT) few (w, tt)
index-plan heap (Rooted offset lists) number few w = some-plan heap (Rooted offset lists) number (length (numbered number lists).list.entries == LEAF_LIMIT) few w.1

subkeys-plan : (heap : Heap) (count offset : ℕ) (place : Place) (entries : List Entry) → AreSubkeys heap count offset entries → count ≤ SUBKEYS_LIMIT →
    IsPlan (insert_sizes heap count offset place)
subkeys-plan heap count offset place entries s few =
    let lists = few-by heap (lists_of s.index) (all-stand heap offset (lists_of s.index) (lists-has heap count offset entries s)) in
    let same = ap length s.entries_are in
    let number = s.number in
    subst IsPlan (sym (sizes-are heap count offset place entries s)) (index-plan heap s.index place.list (omega (arith, lists, same, number, few)) s.written)

-- of a key of the tree
pub plan_good : (bytes : List ℕ) (key : ℕ) → IsHere bytes key → (place : Place) → IsPlan (planned (cell_at bytes) key place)
plan_good bytes key t place =
    let node = (here.branch bytes key t).node in
    subst IsPlan (sym (ap (planned_by (cell_at bytes) place) (here.key_is bytes key t)))
    (subkeys-plan (cell_at bytes) node.key.fields.subkeys node.key.fields.subkeys_list place _ (own_subkeys bytes key t) (here.seen bytes key t).written.few)
