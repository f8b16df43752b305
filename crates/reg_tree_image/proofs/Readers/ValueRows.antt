-- The values at the offsets of a row, read one after the other.
use Rattle.std.proofs.Common.{◌≡◌, ℕ, zero, suc, ◌+◌, ◌<◌, ◌≤◌, nat_le, true, Result, Ok, Err, IfErr, List}
use Rattle.std.proofs.Common.{[], ◌∷◌, ◌++◌, length, drop, Vec, Global, add-one, refl, sym, ap, ◌∙◌, subst}
use Rattle.std.proofs.Common.{drop-cons, length-append, arith}
use Rattle.std.specs.Result.{IsErrAnd}
use Rattle.std.proofs.lemmas.Bool.Decides.{nat_tests}
use Rattle.std.specs.Cow.{cow_slice_items}
use Rattle.reg_heap.specs.declared.limits.TheConstants.{VALUES_LIMIT}
use Rattle.reg_heap.specs.Heaps.{Heap}
use Rattle.reg_heap.specs.Kinds.Kind.{ValueList}
use Rattle.reg_heap.specs.Paths.{Member}
use Rattle.reg_heap.specs.Trees.{IsSmallValue}
use Rattle.reg_records.specs.OffsetRows.{offset_in, offsets_at}
use Rattle.reg_values.proofs.ValueListing.ValueListOpening.{length-offsets}
use Rattle.reg_values.proofs.ValueListing.FoundValues.{offset-at}
use Rattle.reg_tree_image.specs.declared.LoadFault.{LoadFault}
use Rattle.reg_tree_image.specs.declared.LoadFault.TheVariants.{Limit}
use Rattle.reg_tree_image.specs.declared.table.CellState.{CellState}
use Rattle.reg_tree_image.specs.declared.values.ReadValue.{ReadValue}
use Rattle.reg_tree_image.specs.WalkSteps.{Seen, Step, ◌>>=◌, onward}
use Rattle.reg_tree_image.specs.LoadingWalk.{row_from, value_from, values_each, values_from}
use Rattle.reg_tree_image.specs.FaultPlaces.{then_place, value_spot, values_spot}
use Rattle.reg_tree_image.specs.Internal.CellStates.{IsTable, unnamed}
use Rattle.reg_tree_image.specs.Internal.NamedRecords.{member_in, members_in}
use Rattle.reg_tree_image.specs.Internal.NamesMet.{AreKnown}
use Rattle.reg_tree_image.specs.Internal.FitKeys.{IsOther, AreNew}
use Rattle.reg_tree_image.specs.Internal.ReaderOutcomes.{Fails, Follows}
use Rattle.reg_tree_image.specs.Internal.FaultSpots.{IsMetAt}
use Rattle.reg_tree_image.proofs.Readers.ReaderSteps.{fails-on, fails-same, exit-follows, follows-then}
use Rattle.reg_tree_image.proofs.Readers.ValueReadings.{check-follows}
use Rattle.reg_tree_image.proofs.Readers.NewValues.{new-push}
use Rattle.reg_tree_image.proofs.Readers.FaultSpots.{met-part, met-exit}

-- ---- the row

pub next-offset : (count : ℕ) (row : List ℕ) (index offset : ℕ) → index < count → offset ≡ offset_in row index →
    drop index (offsets_at count 0 row) ≡ offset ∷ drop (index + 1) (offsets_at count 0 row)
next-offset count row index offset l e =
    let long : index < length (offsets_at count 0 row) = omega (arith, l, length-offsets count 0 row) in
    rw add-one (drop-cons (offsets_at count 0 row) index 0 long ∙
    ap (λ o. o ∷ drop (suc index) (offsets_at count 0 row)) (offset-at count row index l ∙ sym e))

none-left : (xs : List ℕ) (n : ℕ) → length xs ≤ n → drop n xs ≡ []
none-left [] zero l = refl
none-left [] (suc n) l = refl
none-left (x ∷ xs) zero l = absurd (omega (arith, l))
none-left (x ∷ xs) (suc n) l = none-left xs n (omega (arith, l))

members-behind : (values : List ReadValue) (v : ReadValue) → members_in (values ++ v ∷ []) ≡ members_in values ++ member_in v ∷ []
members-behind [] v = refl
members-behind (w ∷ values) v = ap (λ ms. member_in w ∷ ms) (members-behind values v)

abbrev members : Vec ReadValue Global → List Member
members values = members_in values.items

-- ---- so many were read

module _ (heap : Heap) (minor : ℕ) (offsets : List ℕ) (old : List CellState) where
  -- the values behind these
  abbrev rest-of : List ℕ → List Member → List ℕ → Step (List Member)
  rest-of path before left = values_each heap minor path before left

  -- what is left of the step, with a table that says what was named by then
  pub record IsLeft (path : List ℕ) (seen : Seen) (index : ℕ) (values : List ReadValue) (now : List CellState) : Type 0 where
    pub after : Seen
    pub goes : values_each heap minor path [] offsets seen ≡ values_each heap minor path (members_in values) (drop index offsets) after
    pub table : IsTable heap after.found path now
    pub told : after.told ≡ seen.told
    pub spots : values_spot heap minor path [] offsets seen ≡ values_spot heap minor path (members_in values) (drop index offsets) after

  -- the first values were read, and just their names are met
  pub record AreValuesRead {Y : Type 0} (index : ℕ) (values : List ReadValue) (met : List (ℕ × Vec ℕ Y)) (now : List CellState) : Type 0 where
    pub names : AreKnown (members_in values) met
    pub new : AreNew [] (members_in values)
    pub many : length (members_in values) ≡ index
    pub no_more : unnamed now ≤ unnamed old
    pub left : (path : List ℕ) (seen : Seen) → IsTable heap seen.found path old → IsLeft path seen index values now

  pub none-read : {Y : Type 0} (values : List ReadValue) (met : List (ℕ × Vec ℕ Y)) → values ≡ [] → AreKnown [] met →
      AreValuesRead 0 values met old
  none-read values met e m = subst (λ values. AreValuesRead 0 values met old) (sym e) (record {
    names = m;
    new = tt;
    many = refl;
    no_more = omega arith;
    left = λ path seen t. record { after = seen; goes = refl; table = t; told = refl; spots = refl };
  })

  module _ {Y : Type 0} (index offset : ℕ) (next : drop index offsets ≡ offset ∷ drop (index + 1) offsets) (values : List ReadValue)
      (met : List (ℕ × Vec ℕ Y)) (now : List CellState) (a : AreValuesRead index values met now) (new : List CellState)
      (before : List ReadValue) (same : before ≡ values) where
    -- the reader of the next value
    abbrev FollowsNext : List ReadValue → Result ReadValue LoadFault → Type 0
    FollowsNext vs r = (path : List ℕ) → Follows heap path member_in (value_from heap minor path (members_in vs) offset) now new r

    -- it may be told the values before it as a slice of them
    turned : (r : Result ReadValue LoadFault) → FollowsNext before r → FollowsNext values r
    turned r f = subst (λ vs. FollowsNext vs r) same f

    pub more-read : (v : ReadValue) (grown : List ReadValue) (more : List (ℕ × Vec ℕ Y)) → grown ≡ values ++ v ∷ [] → FollowsNext before (Ok v) →
        AreKnown (members_in before ++ member_in v ∷ []) more → unnamed new ≤ unnamed now →
        IsSmallValue (member_in v) → IsOther (members_in before) (cow_slice_items v.name) →
        AreValuesRead (index + 1) grown more new
    more-read v grown more g f m l s o = subst (λ values. AreValuesRead (index + 1) values more new) (sym g) (record {
      names = subst (λ ms. AreKnown ms more) (ap (λ vs. members_in vs ++ member_in v ∷ []) same ∙ sym (members-behind values v)) m;
      new =
          subst (λ ms. AreNew [] ms) (sym (members-behind values v))
          (new-push (members_in values) [] (member_in v) a.new s (subst (λ vs. IsOther (members_in vs) (cow_slice_items v.name)) same o));
      many = ap length (members-behind values v) ∙ (let n = length-append (members_in values) (member_in v ∷ []) in omega (arith, n, a.many));
      no_more = omega (arith, l, a.no_more);
      left = λ path seen t.
          let w = a.left path seen t in
          let d = turned (Ok v) f path w.after w.table in
          record {
            after = d.after;
            goes = w.goes ∙ (ap (λ os. rest-of path (members_in values) os w.after) next
                ∙ (ap (onward (λ member. rest-of path (members_in values ++ member ∷ []) (drop (index + 1) offsets))) d.gives
                ∙ ap (λ ms. rest-of path ms (drop (index + 1) offsets) d.after) (sym (members-behind values v))));
            table = d.table;
            told = d.told ∙ w.told;
            spots = w.spots ∙ (ap (λ os. values_spot heap minor path (members_in values) os w.after) next
                ∙ (ap (then_place (value_spot heap minor path (members_in values) offset)
                (λ member. values_spot heap minor path (members_in values ++ member ∷ []) (drop (index + 1) offsets)) w.after) d.gives
                ∙ ap (λ ms. values_spot heap minor path ms (drop (index + 1) offsets) d.after) (sym (members-behind values v))));
          };
    })

    pub value-exit : (fault : LoadFault) (r : Result (Vec ReadValue Global) LoadFault) → IsErrAnd r (λ e. e ≡ fault) →
        FollowsNext before (Err fault) → (path : List ℕ) → Follows heap path members (values_each heap minor path [] offsets) old new r
    value-exit fault (Ok values) i f path seen t = absurd i
    value-exit fault (Err e) i f path seen t =
        let w = a.left path seen t in
        let one = value_from heap minor path (members_in values) offset in
        let rest = λ (member : Member). rest-of path (members_in values ++ member ∷ []) (drop (index + 1) offsets) in
        subst (λ e. Fails e (rest-of path [] offsets) seen) (sym i)
        (fails-same fault (rest-of path [] offsets) (one >>= rest) seen w.after
        (w.goes ∙ ap (λ os. rest-of path (members_in values) os w.after) next)
        (fails-on fault one rest w.after (turned (Err fault) f path w.after w.table)))

    -- it fails where it says
    pub value-exit-spot : (fault : LoadFault) (r : Result (Vec ReadValue Global) LoadFault) → IsErrAnd r (λ e. e ≡ fault) → (failed : ℕ) →
        FollowsNext before (Err fault) →
        ((path : List ℕ) (seen : Seen) → IsTable heap seen.found path now →
        IsMetAt fault (record { offset = failed; path = path }) (value_spot heap minor path (members_in before) offset seen)) →
        (path : List ℕ) (seen : Seen) → IsTable heap seen.found path old →
        IfErr r (λ e. IsMetAt e (record { offset = failed; path = path }) (values_spot heap minor path [] offsets seen))
    value-exit-spot fault r i failed f m path seen t =
        let w = a.left path seen t in
        met-exit fault (record { offset = failed; path = path }) _ r i
        (met-part fault (value_from heap minor path (members_in values) offset) (value_spot heap minor path (members_in values) offset)
        (λ member. values_spot heap minor path (members_in values ++ member ∷ []) (drop (index + 1) offsets)) w.after
        (record { offset = failed; path = path }) _
        (w.spots ∙ ap (λ os. values_spot heap minor path (members_in values) os w.after) next)
        (turned (Err fault) f path w.after w.table)
        (subst (λ vs. IsMetAt fault (record { offset = failed; path = path }) (value_spot heap minor path (members_in vs) offset w.after)) same
        (m path w.after w.table)))

  pub all-read : {Y : Type 0} (index : ℕ) (values : Vec ReadValue Global) (met : List (ℕ × Vec ℕ Y)) (now : List CellState) →
      length offsets ≤ index → AreValuesRead index values.items met now → (path : List ℕ) →
      Follows heap path members (values_each heap minor path [] offsets) old now (Ok values)
  all-read index values met now l a path seen t =
      let w = a.left path seen t in
      record {
        after = w.after;
        gives = w.goes ∙ ap (λ os. rest-of path (members values) os w.after) (none-left offsets index l);
        table = w.table;
        told = w.told;
      }

-- ---- the list, of some values and not too many

module _ {X : Type 0} (heap : Heap) (minor : ℕ) (path : List ℕ) (offset : ℕ) (old : List CellState) (first : X → List ℕ)
    (count : ℕ) (some : count ≡ 0 → ⊥) (few : count ≤ VALUES_LIMIT) where
  abbrev row : ℕ → Step (List ℕ)
  row n = row_from heap path ValueList n offset

  abbrev values-of : List ℕ → Step (List Member)
  values-of offsets = values_each heap minor path [] offsets

  abbrev FollowsValues : List CellState → Result (Vec ReadValue Global) LoadFault → Type 0
  FollowsValues new r = Follows heap path members (values_from heap minor path count offset) old new r

  listed : (new : List CellState) (r : Result (Vec ReadValue Global) LoadFault) →
      Follows heap path members (row count >>= values-of) old new r → FollowsValues new r
  listed new r f = by count some few f
    where
      by : (n : ℕ) → (n ≡ 0 → ⊥) → n ≤ VALUES_LIMIT → Follows heap path members (row n >>= values-of) old new r →
          Follows heap path members (values_from heap minor path n offset) old new r
      by zero s l f = absurd (s refl)
      by (suc n) s l f =
          let b : nat_le (suc n) VALUES_LIMIT ≡ true = grind (arith, nat_tests) in
          check-follows heap path members Limit (nat_le (suc n) VALUES_LIMIT) (row (suc n) >>= values-of) old new r b f

  pub list-exit : (mid : List CellState) (fault : LoadFault) (r : Result (Vec ReadValue Global) LoadFault) → IsErrAnd r (λ e. e ≡ fault) →
      Follows heap path first (row count) old mid (Err fault) → FollowsValues mid r
  list-exit mid fault r i a = listed mid r (exit-follows heap path first members (row count) values-of old mid mid fault r i a)

  pub list-read : (mid new : List CellState) (x : X) (r : Result (Vec ReadValue Global) LoadFault) →
      Follows heap path first (row count) old mid (Ok x) → Follows heap path members (values-of (first x)) mid new r → FollowsValues new r
  list-read mid new x r a b = listed new r (follows-then heap path first members (row count) values-of old mid new x r a b)
