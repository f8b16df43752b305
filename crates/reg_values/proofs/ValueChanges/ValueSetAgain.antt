-- A value that is there, set again.
use Rattle.std.proofs.Common.{◌≡◌, ℕ, ◌+◌, ◌<◌, ◌≤◌, ◌⊎◌, inl, inr, true, Some, None, List, [], ◌∷◌, ◌++◌, length, take, drop, sym, ap, ◌∙◌, subst, arith}
use Rattle.std.specs.List.{AllByRecursion}
use Rattle.reg_arena.proofs.Contents.CellWrites.{all-append}
use Rattle.reg_names.specs.Names.{is_value_name}
use Rattle.reg_heap.specs.declared.limits.TheConstants.{VALUES_LIMIT, DATA_LIMIT}
use Rattle.reg_heap.specs.Paths.{Member}
use Rattle.reg_heap.specs.Members.{index_named, values_with}
use Rattle.reg_heap.specs.Heaps.{Heap, allocated}
use Rattle.reg_heap.specs.Kinds.{Found, owned}
use Rattle.reg_shape.specs.Nodes.{member_at, members_at}
use Rattle.reg_shape.specs.Written.{Pairwise, AreWritten}
use Rattle.reg_shape.proofs.Walking.InnerReadings.{member-inner}
use Rattle.reg_shape.proofs.Frame.ReadingFrame.{all-front, all-back}
use Rattle.reg_values.specs.Internal.ValueListParts.{list_at, Owns, BecameValue}
use Rattle.reg_values.specs.ValueLists.{IsNamed, Became}
use Rattle.reg_values.proofs.ValueFreeing.FrameChains.{owned-append, frame-with}
use Rattle.reg_values.proofs.ValueListing.ValueListFrame.{AreRead, values-join, values-one, values-kept, closed, closed-written, list-kept}
use Rattle.reg_values.proofs.ValueListing.NamedValues.{Apart, changed, with-at, pairs-changed, named-index}
use Rattle.reg_values.proofs.ValueChanges.ValueRemoved.{IsAt}

module _ (h : Heap) (count offset : ℕ) (members : List Member) (met : List Found) (index : ℕ) (once : (z : ℕ) → owned z met ≤ allocated h z)
    (w : AreWritten h count offset members) (a : IsAt h count offset members met index) where
  pub value-owns : Owns (member_at a.cell) h
  value-owns = record { result = a.first.head; met = a.first.head_met; reads = a.first.reads; once = λ z. (let o = once z in let p = a.owned_are z in omega (arith, o, p)) }

  module _ (k : Heap) (kind : ℕ) (bytes : List ℕ) (b : BecameValue h k (λ z. owned z a.first.head_met) a.cell (changed a.first.head kind bytes)) where
    list-then : list_at count offset k ≡ Some (a.row, a.list_met)
    list-then = list-kept count offset h k _ _ _ _ b.frame a.list_is (λ z. let o = once z in let p = a.owned_are z in omega (arith, o, p))

    values-then : AreRead k a.row (a.front ++ changed a.first.head kind bytes ∷ a.first.tail) (a.front_met ++ (b.cells ++ a.first.tail_met))
    values-then =
        let f = values-kept h k _ _ b.frame _ _ _ (λ z. let o = once z in let p = a.owned_are z in omega (arith, o, p)) a.fronts in
        let t = values-kept h k _ _ b.frame _ _ _ (λ z. let o = once z in let p = a.owned_are z in omega (arith, o, p)) a.first.rest in
        let m = values-one k a.cell (changed a.first.head kind bytes) b.cells b.reads b.written (member-inner k a.cell (changed a.first.head kind bytes, b.cells) b.reads) in
        let tail = values-join k (a.cell ∷ []) (drop (index + 1) a.row) (changed a.first.head kind bytes ∷ []) a.first.tail b.cells a.first.tail_met m t in
        let all = values-join k (take index a.row) (a.cell ∷ drop (index + 1) a.row) a.front (changed a.first.head kind bytes ∷ a.first.tail) a.front_met (b.cells ++ a.first.tail_met) f tail in
        subst (λ row. AreRead k row (a.front ++ changed a.first.head kind bytes ∷ a.first.tail) (a.front_met ++ (b.cells ++ a.first.tail_met))) (sym a.row_is) all

    pub set-again : (name : List ℕ) → index_named name members ≡ Some index → length bytes ≤ DATA_LIMIT → Became h k met count offset (values_with name kind bytes members)
    set-again name n small =
        let ms = a.is in
        let p : index_named name (a.front ++ a.first.head ∷ a.first.tail) ≡ Some (length a.front) = ap (index_named name) (sym ms) ∙ (n ∙ ap (λ n. Some n) (sym a.as_many)) in
        let is : values_with name kind bytes members ≡ a.front ++ changed a.first.head kind bytes ∷ a.first.tail =
        ap (values_with name kind bytes) ms ∙ with-at name kind bytes a.front a.first.head a.first.tail p in
        let names = subst (AllByRecursion (λ (m : Member). is_value_name m.name ≡ true)) ms w.names in
        let sizes = subst (AllByRecursion (λ (m : Member). length m.bytes ≤ DATA_LIMIT)) ms w.sizes in
        let back_names = all-back _ a.front (a.first.head ∷ a.first.tail) names in
        let back_sizes = all-back _ a.front (a.first.head ∷ a.first.tail) sizes in
        subst (Became h k met count offset) (sym is) (record {
          cells = a.list_met ++ (a.front_met ++ (b.cells ++ a.first.tail_met));
          reads = closed k count offset _ _ a.list_met _ list-then values-then;
          frame = frame-with h k _ _ (λ z. owned z a.list_met + (owned z a.front_met + owned z a.first.tail_met)) (λ z. owned z met)
              (λ z. owned z (a.list_met ++ (a.front_met ++ (b.cells ++ a.first.tail_met)))) b.frame
              (λ z. let o = a.owned_are z in omega (arith, o))
              (λ z. omega (
                arith,
                owned-append z a.list_met (a.front_met ++ (b.cells ++ a.first.tail_met)),
                owned-append z a.front_met (b.cells ++ a.first.tail_met),
                owned-append z b.cells a.first.tail_met,
              ));
          written = record {
            few = w.few;
            none = w.none;
            each = closed-written k count offset _ _ a.list_met _ list-then values-then;
            names = all-append _ a.front (changed a.first.head kind bytes ∷ a.first.tail) (all-front _ a.front (a.first.head ∷ a.first.tail) names) (back_names.0, back_names.1);
            apart = pairs-changed a.front a.first.head kind bytes a.first.tail (subst (Pairwise Apart) ms w.apart);
            sizes = all-append _ a.front (changed a.first.head kind bytes ∷ a.first.tail) (all-front _ a.front (a.first.head ∷ a.first.tail) sizes) (small, back_sizes.1);
          };
        })

-- room for one more
pub has-space : (h : Heap) (count offset : ℕ) (name : List ℕ) → (count < VALUES_LIMIT) ⊎ IsNamed h count offset name →
    ((members : List Member) → (met : List Found) → members_at count offset h ≡ Some (members, met) → None ≡ index_named name members) → count < VALUES_LIMIT
has-space h count offset name (inl l) f = l
has-space h count offset name (inr n) f = absurd (named-index name n.members n.there (sym (f n.members n.met n.reads)))
