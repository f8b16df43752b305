-- All values of a key, put at once or in groups, one behind the other.
use Rattle.std.proofs.Common.{◌≡◌, ℕ, zero, suc, ◌+◌, ◌-◌, ◌<◌, ◌≤◌, Result, Ok, Err, OnOk, IfErr, Some, List, [], ◌∷◌, ◌++◌, inl, inr}
use Rattle.std.proofs.Common.{length, take, drop, slice_get, get_or, refl, sym, ap, ◌∙◌, subst, arith, length-append, length-take, length-drop}
use Rattle.std.specs.Cow.{cow_slice_items}
use Rattle.std.specs.FinMap.{get, insert}
use Rattle.std.proofs.lemmas.Option.{none-some, same_Some}
use Rattle.std.proofs.lemmas.List.{map-append, take-map, drop-map, length-map, take-append-drop}
use Rattle.reg_heap.specs.declared.limits.TheConstants.{VALUES_LIMIT}
use Rattle.reg_heap.specs.Paths.{Path, Rec, Tree, Member}
use Rattle.reg_heap.specs.Edits.{edited, values_at, values_of}
use Rattle.reg_arena.specs.Arena.{heap_of}
use Rattle.reg_arena.specs.declared.TheConstants.{CARVE_LIMIT}
use Rattle.reg_values.specs.declared.making.NewValue.{NewValue}
use Rattle.reg_values.proofs.ValueChanges.ValuesPlanned.{take-all}
use Rattle.reg_values.specs.NewValues.{told, all_told, all_value_sizes, MayFollow}
use Rattle.reg_tree.specs.declared.node.Node.{Node}
use Rattle.reg_tree.specs.BuiltKeys.{with_values}
use Rattle.reg_tree.specs.MoreValues.{HasListRoom}
use Rattle.reg_tree.specs.CellSizes.{LacksRoom}
use Rattle.reg_tree.specs.TreeKeys.{Keys, IsAt, KeepsNodes}
use Rattle.reg_tree.proofs.ValueChange.TreeAfterValueChange.{edited-at}
use Rattle.reg_tree.proofs.InsertKey.LastDescribed.{insert-twice}
use Rattle.reg_tree_image.specs.declared.LoadFault.{LoadFault}
use Rattle.reg_tree_image.specs.declared.values.ReadValue.{ReadValue}
use Rattle.reg_tree_image.specs.CrowdedBins.{bytes_taken, PassesCarve, IsFront, PutsGroups, PutsAll, PutsFirst, PutsValues, CrowdsGroups, CrowdsValues}
use Rattle.reg_tree_image.specs.Internal.NamedRecords.{data_in, member_in, members_in}
use Rattle.reg_tree_image.specs.Internal.FitKeys.{AreNew, AreFit, AreFitBehind}
use Rattle.reg_tree_image.specs.Internal.BegunKeys.{IsBare, IsBegun, IsLack}
use Rattle.reg_tree_image.proofs.KeyStacks.BuiltChains.{lack-as}
use Rattle.reg_tree_image.proofs.Readers.PutValues.{may-follow, passes, there}
use Rattle.reg_tree_image.proofs.Readers.NewValues.{new-front, new-back}

-- ---- the values as they are to be built

-- the value of a turn
pub turn : (values : List ReadValue) (index : ℕ) (v d : ReadValue) → index < length values → v ≡ get_or values index d →
    slice_get values index ≡ Some v
turn [] index v d l e = absurd (omega (arith, l))
turn (x ∷ values) zero v d l e = ap Some (sym e)
turn (x ∷ values) (suc index) v d l e = turn values index v d (omega (arith, l)) e

take-read : (values : List ReadValue) (index : ℕ) (v : ReadValue) → slice_get values index ≡ Some v →
    take (suc index) (members_in values) ≡ take index (members_in values) ++ member_in v ∷ []
take-read [] index v e = absurd (none-some _ e)
take-read (x ∷ values) zero v e = ap (λ (v : ReadValue). member_in v ∷ []) (same_Some _ _ e)
take-read (x ∷ values) (suc index) v e = ap (λ ms. member_in x ∷ ms) (take-read values index v e)

same-member : (name bytes : List ℕ) (v : ReadValue) → name ≡ cow_slice_items v.name → bytes ≡ data_in v.bytes →
    ◌≡◌ {A = Member} (record { name = name; kind = v.kind; bytes = bytes }) (member_in v)
same-member name bytes v e f =
    ap (λ (n : List ℕ). record { name = n; kind = v.kind; bytes = bytes }) e
    ∙ ap (λ (b : List ℕ). record { name = cow_slice_items v.name; kind = v.kind; bytes = b }) f

pub one-told : (before after : List NewValue) (values : List ReadValue) (index : ℕ) (v : ReadValue) (n : NewValue) →
    slice_get values index ≡ Some v → n.kind ≡ v.kind → n.name.now ≡ cow_slice_items v.name → n.bytes.now ≡ data_in v.bytes →
    all_told before ≡ take index (members_in values) → after ≡ before ++ n ∷ [] → all_told after ≡ take (index + 1) (members_in values)
one-told before after values index v n here k name bytes e a =
    let same : told n ≡ member_in v =
    ap (λ k. record { name = n.name.now; kind = k; bytes = n.bytes.now }) k ∙ same-member n.name.now n.bytes.now v name bytes in
    ap all_told a
    ∙ (map-append told before (n ∷ [])
    ∙ (ap (λ (ms : List Member). ms ++ told n ∷ []) e
    ∙ (ap (λ (m : Member). take index (members_in values) ++ m ∷ []) same
    ∙ (sym (take-read values index v here)
    ∙ ap (λ i. take i (members_in values)) (let s : suc index ≡ index + 1 = omega arith in s)))))

pub all-read : (values : List ReadValue) (index : ℕ) → length values ≤ index → take index (members_in values) ≡ members_in values
all-read [] zero l = refl
all-read [] (suc index) l = refl
all-read (x ∷ values) zero l = absurd (omega (arith, l))
all-read (x ∷ values) (suc index) l = ap (λ ms. member_in x ∷ ms) (all-read values index (omega (arith, l)))

-- ---- the key in the tree

-- it has no values, whichever path its node is found by
pub none-there : (keys : Keys) (node : Node) (time : ℕ) (b : IsBare keys node time) (p : Path) → p ≡ b.path → values_at keys.tree p ≡ []
none-there keys node time b p e =
    ap (values_at keys.tree) e
    ∙ (ap (λ t. values_of (get t b.path)) b.put ∙ (ap values_of (there b.base b.path b.key) ∙ b.bare))

-- it gets them
pub values-put : (tree new base : Tree) (p : Path) (r : Rec) (members : List Member) (time : ℕ) → tree ≡ insert base p r → r.time ≡ time →
    new ≡ edited tree p (with_values members time) → new ≡ insert base p (record r { values = members })
values-put tree new base p r members time o t e =
    let f : Rec → Rec = with_values members time in
    e
    ∙ (ap (λ t. edited t p f) o
    ∙ (edited-at (insert base p r) p r f (there base p r)
    ∙ (insert-twice base p r (f r) ∙ ap (λ t. insert base p (record r { time = t; values = members })) (sym t))))

-- it gets none
pub none-put : (tree base : Tree) (p : Path) (r : Rec) (values : List ReadValue) → length values ≡ 0 → tree ≡ insert base p r →
    r.values ≡ [] → tree ≡ insert base p (record r { values = members_in values })
none-put tree base p r [] l o v = o ∙ ap (λ (ms : List Member). insert base p (record r { values = ms })) v
none-put tree base p r (x ∷ values) l o v = absurd (omega (arith, l))

module _ (bare new : Keys) (path : Path) (time : ℕ) where
  pub puts-none : (values : List ReadValue) → length values ≡ 0 → new ≡ bare → PutsValues path time (members_in values) bare new
  puts-none [] l e = e
  puts-none (v ∷ values) l e = absurd (omega (arith, l))

  some-put : (values : List ReadValue) → 0 < length values → PutsFirst bare new path time (members_in values) →
      PutsValues path time (members_in values) bare new
  some-put [] l p = absurd (omega (arith, l))
  some-put (v ∷ values) l p = p

-- ---- the first of them, at once, and the others

module _ (values : List ReadValue) (all : List NewValue) (same : all_told all ≡ members_in values) (count : ℕ) where
  abbrev members : List Member
  members = members_in values

  abbrev front : List Member
  front = all_told (take count all)

  -- the values behind these, as the code's slice has them
  abbrev others : List NewValue
  others = take (length all - count) (drop count all)

  abbrev back : List Member
  back = all_told others

  front-is : front ≡ take count members
  front-is = sym (take-map told count all) ∙ ap (take count) same

  back-is : drop count members ≡ back
  back-is =
      ap (drop count) (sym same)
      ∙ (drop-map told count all
      ∙ ap all_told (sym (take-all (drop count all) (length all - count) (let l = length-drop count all in omega (arith, l)))))

  as-many : length all ≡ length members
  as-many = sym (length-map all told) ∙ ap length same

  pub as-read : length all ≡ length values
  as-read = as-many ∙ length-map values member_in

  parts : members ≡ front ++ back
  parts =
      sym (take-append-drop count members)
      ∙ (ap (λ ms. ms ++ drop count members) (sym front-is) ∙ ap (λ ms. front ++ ms) back-is)

  module _ (fit : AreFit members) where
    new-parts : AreNew [] (front ++ back)
    new-parts = subst (AreNew []) parts fit.new

    pub few-all : length all ≤ VALUES_LIMIT
    few-all = let n = as-many in let f = fit.few in omega (arith, n, f)

    pub follow-all : MayFollow [] (all_told all)
    follow-all = subst (MayFollow []) (sym same) (may-follow members [] fit.new)

    -- the first of them
    pub fit-front : AreFit front
    fit-front = record {
      new = new-front front back [] new-parts;
      few = let n = ap length parts in let l = length-append front back in let f = fit.few in omega (arith, n, l, f);
    }

    -- the others
    pub fit-back : AreFitBehind front back
    fit-back = record {
      new = new-back front back [] new-parts;
      few = let n = ap length parts in let l = length-append front back in let f = fit.few in omega (arith, n, l, f);
    }

    -- of a key that got the first of them
    module _ (bare now : Keys) (node : Node) (time : ℕ) (keep : KeepsNodes bare now)
        (put : (p : Path) → IsAt bare p node → (base : Tree) → (r : Rec) → bare.tree ≡ insert base p r → r.values ≡ [] → r.time ≡ time →
        now.tree ≡ insert base p (record r { values = front })) (room : 0 < length (take count all) → HasListRoom (heap_of now.bins) node.offset (length all))
        (within : count ≤ length all) (some : 0 < count) where
      slice-some : 0 < length (take count all)
      slice-some = let l = length-take count all in omega (arith, l, within, some)

      pub then-begun : IsBare bare node time → IsBegun now node time back
      then-begun b = record {
        path = b.path;
        base = b.base;
        key = record b.key { values = front };
        at = keep b.path node b.at;
        put = put b.path b.at b.base b.key b.put b.bare b.timed;
        timed = b.timed;
        follow = fit-back;
        some = (let l = length-map (take count all) told in let s = slice-some in omega (arith, l, s));
        room = subst (HasListRoom (heap_of now.bins) node.offset) (as-many ∙ (ap length parts ∙ length-append front back)) (room slice-some);
      }

  -- the key that got the first of them, and then the others, has all
  pub joined : (tree base : Tree) (p : Path) (r : Rec) → tree ≡ insert base p (record r { values = front ++ back }) →
      tree ≡ insert base p (record r { values = members })
  joined tree base p r e = subst (λ ms. tree ≡ insert base p (record r { values = ms })) (sym parts) e

  module _ (fits : bytes_taken (length all) (take count (all_told all)) ≤ CARVE_LIMIT)
      (longest : count < length all → CARVE_LIMIT < bytes_taken (length all) (take (count + 1) (all_told all))) where
    -- they are as many as one carve may take
    pub fit-carve : bytes_taken (length all) front ≤ CARVE_LIMIT
    fit-carve = subst (λ ms. bytes_taken (length all) ms ≤ CARVE_LIMIT) (take-map told count all) fits

    first : IsFront members front back
    first = record {
      parts = parts;
      fit = subst (λ n. bytes_taken n front ≤ CARVE_LIMIT) as-many fit-carve;
      most = subst (λ ms. PassesCarve (bytes_taken (length members)) ms back) (sym front-is)
          (subst (PassesCarve (bytes_taken (length members)) (take count members)) back-is
          (passes (bytes_taken (length members)) members [] count (λ l. past (subst (λ n. count < n) (sym as-many) l))));
    }
      where
        past : count < length all → CARVE_LIMIT < bytes_taken (length members) (take (suc count) members)
        past l =
            subst (λ i. CARVE_LIMIT < bytes_taken (length members) (take i members)) (let s : count + 1 ≡ suc count = omega arith in s)
            (subst (λ ms. CARVE_LIMIT < bytes_taken (length members) (take (count + 1) ms)) same
            (subst (λ n. CARVE_LIMIT < bytes_taken n (take (count + 1) (all_told all))) as-many (longest l)))

    module _ (bare : Keys) (path : Path) (time : ℕ) where
      pub crowds-all : LacksRoom bare.bins (all_value_sizes (length all) front) → CrowdsValues bare path time members
      crowds-all l = record {
        front = front;
        back = back;
        first = first;
        lacks = inl (subst (λ n. LacksRoom bare.bins (all_value_sizes n front)) as-many l);
      }

      module _ (now : Keys) (together : PutsAll bare now path time (length all) front) where
        put-together : PutsAll bare now path time (length members) front
        put-together = subst (λ n. PutsAll bare now path time n front) as-many together

        pub crowds-some : CrowdsGroups now path time back → CrowdsValues bare path time members
        crowds-some c = record { front = front; back = back; first = first; lacks = inr (now, put-together, c) }

        pub puts-some : (new : Keys) → 0 < length values → (groups : List (List Member)) × PutsGroups path time groups back [] now new →
            PutsValues path time members bare new
        puts-some new some others =
            some-put bare new path time values some
            (record { front = front; back = back; first = first; now = now; together = put-together; groups = others.0; others = others.1 })

-- ---- a result as it is

pub on_ok : {T E : Type 0} {A B : Type 0} (r : Result T E) → (A → B) → OnOk r A → OnOk r B
on_ok (Ok x) f a = f a
on_ok (Err e) f a = tt

pub if_lack : {T : Type 0} (here crowded : Type 0) (r : Result T LoadFault) → (here → crowded) → IfErr r (IsLack here) →
    IfErr r (IsLack crowded)
if_lack here crowded (Ok x) f l = tt
if_lack here crowded (Err fault) f l = lack-as here crowded fault f l
