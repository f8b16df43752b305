-- Which values of a key are told against the other tree's, one after another.
use Rattle.std.proofs.Common.{◌≡◌, ℕ, ◌+◌, ◌≤◌, Bool, true, false, not, cond, ◌&&◌, ◌||◌, List, [], ◌∷◌, ◌++◌, length, drop, Option, Some, None}
use Rattle.std.proofs.Common.{is_some, IsSome, refl, sym, ap, ◌∙◌}
use Rattle.std.specs.Prelude.{flat_map, filter}
use Rattle.std.specs.FinMap.{get}
use Rattle.std.specs.List.{list_all, list_any}
use Rattle.std.proofs.lemmas.List.{drop_all}
use Rattle.reg_heap.specs.Paths.{Path, Rec, Member}
use Rattle.reg_heap.specs.Edits.{values_of}
use Rattle.reg_heap.specs.Members.{value_named}
use Rattle.reg_tree.specs.declared.node.Node.{Node}
use Rattle.reg_tree.specs.TreeKeys.{Keys, IsResolved}
use Rattle.reg_dotreg_writer.specs.Entries.{is_line_name}
use Rattle.reg_dotreg_writer.specs.Changes.{is_new, is_kept, is_told}
use Rattle.reg_dotreg_writer.specs.Internal.ChangePieces.{is_fine, value_pieces, all_told_pieces}
use Rattle.reg_dotreg_writer.specs.declared.side.Side.{Side}

-- ---- one value

pub none-told : (keys : Keys) (q : Path) (found : Option Node) (side : Side) (v : Member) (b : Bool) → IsResolved keys q found → found ≡ None →
    b ≡ is_new side → b ≡ is_told (get keys.tree q) side v
none-told keys q None side v b r e n = n ∙ sym (ap (λ (o : Option Rec). is_told o side v) r)
none-told keys q (Some node) side v b r e n = absurd (cc)

-- where the other tree has the key, and this as the value of that name
pub there-told : (o : Option Rec) (side : Side) (v : Member) (named : Option Member) → IsSome o → value_named v.name (values_of o) ≡ named →
    not (is_kept named side v) ≡ is_told o side v
there-told None side v named s n = absurd (cc)
there-told (Some r) side v named s n = sym (ap (λ (x : Option Member). not (is_kept x side v)) n)

pub resolved-same : (keys : Keys) (q : Path) (found : Option Node) → IsResolved keys q found → is_some found ≡ is_some (get keys.tree q)
resolved-same keys q None r = sym (ap is_some r)
resolved-same keys q (Some node) r = sym r.1

-- there is none, where there is not some
pub none-of : (none some found : Bool) → some ≡ not none → some ≡ found → none ≡ not found
none-of none some found e f = twice none ∙ ap not (sym e ∙ f)
  where
    twice : (b : Bool) → b ≡ not (not b)
    twice true = refl
    twice false = refl

-- ---- one after another

module _ (o : Option Rec) (side : Side) where
  or-two : (a b c : Bool) → ((a || b) || c) ≡ (a || (b || c))
  or-two true b c = refl
  or-two false b c = refl

  and-two : (a b c : Bool) → ((a && b) && c) ≡ (a && (b && c))
  and-two true b c = refl
  and-two false b c = refl

  or-none : (a : Bool) → (a || false) ≡ a
  or-none true = refl
  or-none false = refl

  and-all : (a : Bool) → (a && true) ≡ a
  and-all true = refl
  and-all false = refl

  module _ (values : List Member) (index : ℕ) where
    pub any-next : (m : Member) (before now told : Bool) → drop index values ≡ m ∷ drop (index + 1) values →
        (before || list_any (is_told o side) (drop index values)) ≡ list_any (is_told o side) values → told ≡ is_told o side m →
        now ≡ (before || told) → (now || list_any (is_told o side) (drop (index + 1) values)) ≡ list_any (is_told o side) values
    any-next m before now told d s t n =
        ap (λ (b : Bool). b || list_any (is_told o side) (drop (index + 1) values)) n
        ∙ (or-two before told (list_any (is_told o side) (drop (index + 1) values))
        ∙ (ap (λ (b : Bool). before || (b || list_any (is_told o side) (drop (index + 1) values))) t
        ∙ (ap (λ (x : List Member). before || list_any (is_told o side) x) (sym d) ∙ s)))

    pub fine-next : (m : Member) (before now told : Bool) → drop index values ≡ m ∷ drop (index + 1) values →
        (before && list_all (is_fine o side) (drop index values)) ≡ list_all (is_fine o side) values → told ≡ is_told o side m →
        now ≡ (before && (not told || is_line_name m.name)) →
        (now && list_all (is_fine o side) (drop (index + 1) values)) ≡ list_all (is_fine o side) values
    fine-next m before now told d s t n =
        ap (λ (b : Bool). b && list_all (is_fine o side) (drop (index + 1) values)) n
        ∙ (and-two before (not told || is_line_name m.name) (list_all (is_fine o side) (drop (index + 1) values))
        ∙ (ap (λ (b : Bool). before && ((not b || is_line_name m.name) && list_all (is_fine o side) (drop (index + 1) values))) t
        ∙ (ap (λ (x : List Member). before && list_all (is_fine o side) x) (sym d) ∙ s)))

    pub any-all : (now : Bool) → length values ≤ index →
        (now || list_any (is_told o side) (drop index values)) ≡ list_any (is_told o side) values → now ≡ list_any (is_told o side) values
    any-all now l s =
        sym (or-none now) ∙ (ap (λ (x : List Member). now || list_any (is_told o side) x) (sym (drop_all index values l)) ∙ s)

    pub fine-all : (now : Bool) → length values ≤ index →
        (now && list_all (is_fine o side) (drop index values)) ≡ list_all (is_fine o side) values → now ≡ list_all (is_fine o side) values
    fine-all now l s =
        sym (and-all now) ∙ (ap (λ (x : List Member). now && list_all (is_fine o side) x) (sym (drop_all index values l)) ∙ s)

  -- ---- those that are told

  pub told-filter : (u : Bool) (values : List Member) →
      all_told_pieces u o side values ≡ flat_map (value_pieces u side) (filter (is_told o side) values)
  told-filter u [] = refl
  told-filter u (v ∷ values) = by (is_told o side v) (told-filter u values)
    where
      by : (b : Bool) → all_told_pieces u o side values ≡ flat_map (value_pieces u side) (filter (is_told o side) values) →
          cond b (value_pieces u side v) [] ++ all_told_pieces u o side values ≡
          flat_map (value_pieces u side) (cond b (v ∷ filter (is_told o side) values) (filter (is_told o side) values))
      by true e = ap (λ (x : List ℕ). value_pieces u side v ++ x) e
      by false e = e

  pub fine-filter : (values : List Member) →
      list_all (is_fine o side) values ≡ list_all (λ (value : Member). is_line_name value.name) (filter (is_told o side) values)
  fine-filter [] = refl
  fine-filter (v ∷ values) = by (is_told o side v) (fine-filter values)
    where
      by : (b : Bool) → list_all (is_fine o side) values ≡ list_all (λ (value : Member). is_line_name value.name) (filter (is_told o side) values) →
          ((not b || is_line_name v.name) && list_all (is_fine o side) values) ≡
          list_all (λ (value : Member). is_line_name value.name) (cond b (v ∷ filter (is_told o side) values) (filter (is_told o side) values))
      by true e = ap (λ (x : Bool). is_line_name v.name && x) e
      by false e = e
