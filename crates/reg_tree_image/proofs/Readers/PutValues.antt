-- A key's values, put in groups, one behind the other.
use Rattle.std.proofs.Common.{◌≡◌, ℕ, zero, suc, ◌+◌, ◌-◌, ◌*◌, ◌<◌, ◌≤◌, ◌||◌, Bool, true, false, cond, Option, Some, None, List, [], ◌∷◌, ◌++◌}
use Rattle.std.proofs.Common.{length, take, drop, refl, sym, ap, ◌∙◌, subst, arith, length-append, length-take, length-drop}
use Rattle.std.specs.Option.{option_map}
use Rattle.std.specs.List.{list_any, AllByRecursion}
use Rattle.std.specs.FinMap.{get, insert, get-insert}
use Rattle.std.proofs.lemmas.Bool.{false≢true}
use Rattle.std.proofs.lemmas.List.{append_assoc, append-nil, take-map, drop-map, length-map, take-append-drop, drop-drop}
use Rattle.reg_heap.specs.Heaps.{Heap}
use Rattle.reg_heap.specs.Paths.{Path, Rec, Tree, Member}
use Rattle.reg_heap.specs.Members.{same_name, index_named}
use Rattle.reg_heap.specs.Edits.{edited, values_at, values_of}
use Rattle.reg_heap.specs.Trees.{IsSmallValue}
use Rattle.reg_arena.specs.Arena.{heap_of}
use Rattle.reg_arena.specs.declared.TheConstants.{CARVE_LIMIT}
use Rattle.reg_shape.proofs.Refinement.SpeltTrees.{path_total}
use Rattle.reg_values.specs.declared.making.NewValue.{NewValue}
use Rattle.reg_values.specs.NewValues.{told, all_told, each_value_sizes, MayFollow}
use Rattle.reg_values.proofs.ValueData.NewCellRoom.{room-less}
use Rattle.reg_values.proofs.ValueChanges.ValuesPlanned.{small-each, take-all}
use Rattle.reg_tree.specs.declared.node.Node.{Node}
use Rattle.reg_tree.specs.CellSizes.{LacksRoom}
use Rattle.reg_tree.specs.MoreValues.{with_more_values, HasListRoom, MayExtend}
use Rattle.reg_tree.specs.TreeKeys.{Keys, IsAt, KeepsNodes}
use Rattle.reg_tree.proofs.ValueChange.TreeAfterValueChange.{edited-at}
use Rattle.reg_tree.proofs.InsertKey.LastDescribed.{insert-twice}
use Rattle.reg_tree.proofs.InsertKey.PathGrowth.{path-self}
use Rattle.reg_tree_image.specs.Internal.FitKeys.{IsOther, AreNew}
use Rattle.reg_tree_image.specs.CrowdedBins.{PassesCarve, IsGroup, PutsMore, PutsGroups, CrowdsGroups, more_bytes_taken}
use Rattle.reg_tree_image.specs.Internal.BegunKeys.{IsBegun}
use Rattle.reg_tree_image.proofs.KeyStacks.BuiltChains.{groups-more}
use Rattle.reg_tree_image.proofs.Readers.NewValues.{new-front, new-back}

-- ---- a name that no value has

index-none : (name : List ℕ) (members : List Member) → IsOther members name → index_named name members ≡ None
index-none name [] o = refl
index-none name (m ∷ members) o = by (λ q. index-none name members q) (same_name m.name name) o
  where
    by : (IsOther members name → index_named name members ≡ None) → (b : Bool) →
        (b || list_any (λ (m : Member). same_name m.name name) members) ≡ false →
        ◌≡◌ {A = Option ℕ} (cond b (Some 0) (option_map suc (index_named name members))) None
    by rest true e = absurd (false≢true (sym e))
    by rest false e = ap (option_map suc) (rest e)

-- values may be put one behind the other
pub may-follow : (members before : List Member) → AreNew before members → MayFollow before members
may-follow [] before a = tt
may-follow (m ∷ members) before a = (a.0, index-none m.name before a.1, may-follow members (before ++ m ∷ []) a.2)

-- ---- the key in the tree

pub there : (t : Tree) (p : Path) (r : Rec) → get (insert t p r) p ≡ Some r
there t p r = get-insert path_total t p r p ∙ ap (λ e. cond e (Some r) (get t p)) (path-self p)

-- ---- as many as one carve may take

pub passes : (bytes : List Member → ℕ) (members before : List Member) (count : ℕ) →
    (count < length members → CARVE_LIMIT < bytes (before ++ take (suc count) members)) →
    PassesCarve bytes (before ++ take count members) (drop count members)
passes bytes [] before zero f = tt
passes bytes [] before (suc n) f = tt
passes bytes (m ∷ members) before zero f =
    subst (λ ms. CARVE_LIMIT < bytes (ms ++ m ∷ [])) (sym (append-nil before)) (f (omega arith))
passes bytes (m ∷ members) before (suc n) f =
    subst (λ ms. PassesCarve bytes ms (drop n members)) (append_assoc before (m ∷ []) (take n members))
    (passes bytes members (before ++ m ∷ []) n
    (λ l. subst (λ ms. CARVE_LIMIT < bytes ms) (sym (append_assoc before (m ∷ []) (take (suc n) members))) (f (omega (arith, l)))))

-- ---- groups

room-fewer : (h : Heap) (offset a b : ℕ) → b ≤ a → HasListRoom h offset a → HasListRoom h offset b
room-fewer h offset a b l r = record { key = r.key; reads = r.reads; holds = room-less h r.key.fields.values_list (4 * a) (4 * b) (omega (arith, l)) r.holds }

take-none : (count : ℕ) → take {A = Member} count [] ≡ []
take-none zero = refl
take-none (suc count) = refl

two-parts : (members : List Member) (from count : ℕ) → take from members ++ take count (drop from members) ≡ take (from + count) members
two-parts members zero count = ap (λ n. take n members) (let e : count ≡ 0 + count = omega arith in e)
two-parts [] (suc from) count = take-none count ∙ sym (take-none (suc from + count))
two-parts (m ∷ members) (suc from) count =
    ap (λ ms. m ∷ ms) (two-parts members from count)
    ∙ ap (λ n. take n (m ∷ members)) (let e : suc (from + count) ≡ suc from + count = omega arith in e)

-- behind the values that the key had the first of these were put
pub record ArePut (old now : Keys) (node : Node) (time : ℕ) (members : List Member) (from : ℕ) : Type 0 where
  pub within : from ≤ length members
  pub nodes : KeepsNodes old now
  pub groups : (p : Path) → IsAt old p node → (groups : List (List Member)) × PutsGroups p time groups members (drop from members) old now
  pub tree : (p : Path) → IsAt old p node → (base : Tree) → (r : Rec) → old.tree ≡ insert base p r → r.time ≡ time →
      now.tree ≡ insert base p (record r { values = r.values ++ take from members })
  pub room : (room : ℕ) → HasListRoom (heap_of old.bins) node.offset room → HasListRoom (heap_of now.bins) node.offset room

-- so far none
pub begins : (keys : Keys) (node : Node) (time : ℕ) (members : List Member) → ArePut keys keys node time members 0
begins keys node time members = record {
  within = omega arith;
  nodes = λ p n at. at;
  groups = λ p at. ([], (refl, refl));
  tree = λ p at base r o t. o ∙ ap (λ (ms : List Member). insert base p (record r { values = ms })) (sym (append-nil r.values));
  room = λ room r. r;
}

module _ (old now : Keys) (node : Node) (time : ℕ) (values : List NewValue) (from : ℕ) (a : ArePut old now node time (all_told values) from)
    (rest : List NewValue) (rest_is : rest ≡ take (length values - from) (drop from values)) where
  abbrev members : List Member
  members = all_told values

  abbrev left : List Member
  left = drop from members

  left-is : all_told rest ≡ left
  left-is =
      ap all_told (rest_is ∙ take-all (drop from values) (length values - from) (let l = length-drop from values in omega (arith, l)))
      ∙ sym (drop-map told from values)

  put-values : (b : IsBegun old node time members) → values_at now.tree b.path ≡ b.key.values ++ take from members
  put-values b =
      ap (λ t. values_of (get t b.path)) (a.tree b.path b.at b.base b.key b.put b.timed)
      ∙ ap values_of (there b.base b.path (record b.key { values = b.key.values ++ take from members }))

  new-left : (b : IsBegun old node time members) → AreNew (b.key.values ++ take from members) left
  new-left b = new-back (take from members) left b.key.values (subst (AreNew b.key.values) (sym (take-append-drop from members)) b.follow.new)

  pub small-left : IsBegun old node time members → AllByRecursion IsSmallValue (all_told rest)
  small-left b = subst (AllByRecursion IsSmallValue) (sym left-is) (small-each left _ (may-follow left _ (new-left b)))

  module _ (count : ℕ) (within : count ≤ length rest) (some : 0 < count) (fits : more_bytes_taken (take count (all_told rest)) ≤ CARVE_LIMIT)
      (longest : count < length rest → CARVE_LIMIT < more_bytes_taken (take (count + 1) (all_told rest))) where
    abbrev group : List Member
    group = all_told (take count rest)

    abbrev back : List Member
    back = drop (from + count) members

    group-is : group ≡ take count left
    group-is = sym (take-map told count rest) ∙ ap (take count) left-is

    back-is : drop count left ≡ back
    back-is = drop-drop count from members

    parts : left ≡ group ++ back
    parts =
        sym (take-append-drop count left)
        ∙ (ap (λ ms. ms ++ drop count left) (sym group-is) ∙ ap (λ ms. group ++ ms) back-is)

    group-long : length group ≡ count
    group-long = length-map (take count rest) told ∙ (let l = length-take count rest in omega (arith, l, within))

    pub fit-group : more_bytes_taken group ≤ CARVE_LIMIT
    fit-group = subst (λ ms. more_bytes_taken ms ≤ CARVE_LIMIT) (take-map told count rest) fits

    is-group : IsGroup left group back
    is-group = record {
      some = (let l = group-long in omega (arith, l, some));
      first = record {
        parts = parts;
        fit = fit-group;
        most = subst (λ ms. PassesCarve more_bytes_taken ms back) (sym group-is)
            (subst (PassesCarve more_bytes_taken (take count left)) back-is (passes more_bytes_taken left [] count past));
      };
    }
      where
        past : count < length left → CARVE_LIMIT < more_bytes_taken (take (suc count) left)
        past l =
            let n = ap length left-is in
            let m = length-map rest told in
            subst (λ i. CARVE_LIMIT < more_bytes_taken (take i left)) (let s : count + 1 ≡ suc count = omega arith in s)
            (subst (λ ms. CARVE_LIMIT < more_bytes_taken (take (count + 1) ms)) left-is (longest (omega (arith, l, n, m))))

    -- they may be put
    pub may-put : IsBegun old node time members → (p : Path) × IsAt now p node × MayExtend (heap_of now.bins) node.offset (values_at now.tree p) group
    may-put b =
        let n = length-append b.key.values (take from members) in
        let l = length-take from members in
        let d = length-drop from members in
        let k = ap length parts in
        let g = length-append group back in
        let w = a.within in
        let few = b.follow.few in
        let some = b.some in (
          b.path,
          a.nodes b.path node b.at,
          subst (λ ms. MayExtend (heap_of now.bins) node.offset ms group) (sym (put-values b))
              (record {
                some = omega (arith, n, some);
                room = room-fewer (heap_of now.bins) node.offset (length b.key.values + length members) _ (omega (arith, n, l, d, k, g, w)) (a.room _ b.room);
                few = omega (arith, n, l, d, k, g, w, few);
                new = may-follow group _ (new-front group back _ (subst (AreNew (b.key.values ++ take from members)) parts (new-left b)));
              }),
        )

    -- there is no room for them
    pub none-put : (p : Path) → IsAt old p node → LacksRoom now.bins (each_value_sizes group) → CrowdsGroups old p time members
    none-put p at l =
        let g = a.groups p at in
        record { groups = g.0; left = left; now = now; put = g.1; next = group; back = back; group = is-group; lacks = l }

    -- they were put
    pub one-put : (new : Keys) →
        ((p : Path) → IsAt now p node → new.tree ≡ edited now.tree p (with_more_values group time)) → KeepsNodes now new →
        ((room : ℕ) → HasListRoom (heap_of now.bins) node.offset room → HasListRoom (heap_of new.bins) node.offset room) →
        ((p : Path) → IsAt now p node → PutsMore now new p time group) → ArePut old new node time members (from + count)
    one-put new e k more v = record {
      within = (let l = ap length parts in let d = length-drop from members in let g = length-append group back in let n = group-long in
          let w = a.within in omega (arith, l, d, g, n, w));
      nodes = λ p n at. k p n (a.nodes p n at);
      groups = λ p at. (let g = a.groups p at in
          (g.0 ++ group ∷ [], groups-more p time g.0 members left back old now new group g.1 is-group (v p (a.nodes p node at))));
      tree = λ p at base r o t.
          let before : Rec = record r { values = r.values ++ take from members } in
          let f : Rec → Rec = with_more_values group time in
          let all : (r.values ++ take from members) ++ group ≡ r.values ++ take (from + count) members =
          append_assoc r.values (take from members) group
          ∙ ap (λ ms. r.values ++ ms) (ap (λ ms. take from members ++ ms) group-is ∙ two-parts members from count) in
          e p (a.nodes p node at)
          ∙ (ap (λ (t : Tree). edited t p f) (a.tree p at base r o t)
          ∙ (edited-at (insert base p before) p before f (there base p before)
          ∙ (insert-twice base p before (f before)
          ∙ (λ i. insert base p (record r { time = sym t i; values = all i })))));
      room = λ room r. more room (a.room room r);
    }

-- some are left
pub some-left : (values : List NewValue) (from : ℕ) (rest : List NewValue) → rest ≡ take (length values - from) (drop from values) → from < length values →
    0 < length rest
some-left values from rest e l =
    let n = ap length e in
    let t = length-take (length values - from) (drop from values) in
    let d = length-drop from values in
    omega (arith, n, t, d, l)

-- ---- all were put

none-left : (members : List Member) (from : ℕ) → length members ≤ from → drop from members ≡ []
none-left [] zero l = refl
none-left [] (suc from) l = refl
none-left (m ∷ members) zero l = absurd (omega (arith, l))
none-left (m ∷ members) (suc from) l = none-left members from (omega (arith, l))

whole : (members : List Member) (from : ℕ) → length members ≤ from → take from members ≡ members
whole [] zero l = refl
whole [] (suc from) l = refl
whole (m ∷ members) zero l = absurd (omega (arith, l))
whole (m ∷ members) (suc from) l = ap (λ ms. m ∷ ms) (whole members from (omega (arith, l)))

module _ (old now : Keys) (node : Node) (time : ℕ) (values : List NewValue) (from : ℕ) (a : ArePut old now node time (all_told values) from)
    (l : length values ≤ from) (p : Path) (at : IsAt old p node) where
  no-more : length (all_told values) ≤ from
  no-more = let n = length-map values told in omega (arith, n, l)

  pub all-put : (groups : List (List Member)) × PutsGroups p time groups (all_told values) [] old now
  all-put =
      let g = a.groups p at in
      (g.0, subst (λ left. PutsGroups p time g.0 (all_told values) left old now) (none-left (all_told values) from no-more) g.1)

  pub all-there : (base : Tree) (r : Rec) → old.tree ≡ insert base p r → r.time ≡ time →
      now.tree ≡ insert base p (record r { values = r.values ++ all_told values })
  all-there base r o t =
      subst (λ ms. now.tree ≡ insert base p (record r { values = r.values ++ ms })) (whole (all_told values) from no-more) (a.tree p at base r o t)
