-- A value of a name, looked for among the values of a key.
use Rattle.std.proofs.Common.{◌≡◌, ℕ, zero, suc, ◌+◌, ◌<◌, ◌≤◌, nat_le, not, ◌==◌, bit_and, true, false}
use Rattle.std.proofs.Common.{Option, Some, None, Result, Ok, Err, List, ◌∷◌, length, drop, refl, sym, subst}
use Rattle.std.proofs.Common.{arith}
use Rattle.std.proofs.Math.ListN.{drop_of_length-le}
use Rattle.std.specs.Result.{IsErrAnd}
use Rattle.std.specs.Cow.{cow_slice_items}
use Rattle.std.proofs.lemmas.Bool.Decides.{nat_tests}
use Rattle.reg_heap.specs.declared.limits.TheConstants.{VALUES_LIMIT}
use Rattle.reg_heap.specs.Heaps.{Heap}
use Rattle.reg_heap.specs.Kinds.Kind.{ValueList}
use Rattle.reg_heap.specs.Members.{same_name}
use Rattle.reg_heap.specs.Paths.{Member}
use Rattle.reg_records.specs.BigData.{is_inline}
use Rattle.reg_records.specs.KeyValues.{KeyValueRecord}
use Rattle.reg_shape.specs.Nodes.{letters, member_of}
use Rattle.reg_tree_image.specs.declared.LoadFault.{LoadFault}
use Rattle.reg_tree_image.specs.declared.LoadFault.TheVariants.{Limit}
use Rattle.reg_tree_image.specs.declared.table.CellState.{CellState}
use Rattle.reg_tree_image.specs.declared.data.ReadData.{ReadData}
use Rattle.reg_tree_image.specs.declared.values.NamedValue.{NamedValue}
use Rattle.reg_tree_image.specs.declared.values.ReadValue.{ReadValue}
use Rattle.reg_tree_image.specs.WalkSteps.{Seen, Step, ◌>>=◌, give}
use Rattle.reg_tree_image.specs.LoadingWalk.{named_value, data_by, row_from}
use Rattle.reg_tree_image.specs.PathWalk.{either, value_among, value_from}
use Rattle.reg_tree_image.specs.Internal.NamedRecords.{value_of, data_in}
use Rattle.reg_tree_image.specs.Internal.ReachedKeys.{value_found, with_data}
use Rattle.reg_tree_image.specs.Internal.ReaderOutcomes.{Fails, Follows}
use Rattle.reg_tree_image.proofs.Readers.ReaderSteps.{follows-then, exit-follows}
use Rattle.reg_tree_image.proofs.Readers.ValueReadings.{check-follows, named-open}
use Rattle.reg_tree_image.proofs.Readers.PathSteps.{follows-give, follows-either}

module _ (heap : Heap) (minor : ℕ) (path : List ℕ) where
  abbrev pub FindsValue : Step (Option Member) → List CellState → List CellState → Result (Option ReadValue) LoadFault → Type 0
  FindsValue step old new r = Follows heap path value_found step old new r

  -- ---- the data of a value that was found

  module _ (v : NamedValue) (old new : List CellState) where
    abbrev data-step : Step (List ℕ)
    data-step = data_by heap minor path (is_inline v.value.fields.size) v.value.fields.size v.value.fields.offset

    abbrev with-bytes : List ℕ → Step (Option Member)
    with-bytes bytes = give (Some (record { name = cow_slice_items v.name; kind = v.value.fields.kind; bytes = bytes }))

    pub found-exit : (fault : LoadFault) (r : Result (Option ReadValue) LoadFault) → IsErrAnd r (λ e. e ≡ fault) →
        Follows heap path data_in data-step old new (Err fault) → FindsValue (with_data heap minor path v) old new r
    found-exit fault r i f = exit-follows heap path data_in value_found data-step with-bytes old new new fault r i f

    pub found-read : (bytes : ReadData) → Follows heap path data_in data-step old new (Ok bytes) →
        FindsValue (with_data heap minor path v) old new (Ok (Some (record { name = v.name; kind = v.value.fields.kind; bytes = bytes })))
    found-read bytes f =
        let read : Option ReadValue = Some (record { name = v.name; kind = v.value.fields.kind; bytes = bytes }) in
        follows-then heap path data_in value_found data-step with-bytes old new new bytes (Ok read) f
        (follows-give heap path value_found (value_found read) new read refl)

  -- ---- the values of a row

  module _ (name : List ℕ) (offsets : List ℕ) (old : List CellState) where
    -- whoever follows the walk over what is left of the row follows it over all
    abbrev pub AreLeft : ℕ → List CellState → Type 0
    AreLeft index now =
        (r : Result (Option ReadValue) LoadFault) (new : List CellState) → FindsValue (value_among heap minor path name (drop index offsets)) now new r →
        FindsValue (value_among heap minor path name offsets) old new r

    module _ (index : ℕ) (now : List CellState) (left : AreLeft index now) where
      -- none is left
      pub no-value-left : length offsets ≤ index → FindsValue (value_among heap minor path name offsets) old now (Ok None)
      no-value-left l =
          left (Ok None) now
          (subst (λ (os : List ℕ). FindsValue (value_among heap minor path name os) now now (Ok None)) (sym (drop_of_length-le offsets l))
          (follows-give heap path value_found None now None refl))

      module _ (offset : ℕ) (is : drop index offsets ≡ offset ∷ drop (index + 1) offsets) where
        abbrev more : Step (Option Member)
        more = value_among heap minor path name (drop (index + 1) offsets)

        abbrev read-of : KeyValueRecord × List ℕ → Step (Option Member)
        read-of value =
            data_by heap minor path (is_inline value.0.fields.size) value.0.fields.size value.0.fields.offset
            >>= (λ bytes. give (Some (member_of value.0 bytes)))

        abbrev if-named : KeyValueRecord × List ℕ → Step (Option Member)
        if-named value = either (same_name value.1 name) (read-of value) more

        onto : (new : List CellState) (r : Result (Option ReadValue) LoadFault) → FindsValue (named_value heap path offset >>= if-named) now new r →
            FindsValue (value_among heap minor path name offsets) old new r
        onto new r f = left r new (subst (λ (os : List ℕ). FindsValue (value_among heap minor path name os) now new r) (sym is) f)

        -- its record doesn't read
        pub value-exit : (mid : List CellState) (fault : LoadFault) (r : Result (Option ReadValue) LoadFault) → IsErrAnd r (λ e. e ≡ fault) →
            Follows heap path value_of (named_value heap path offset) now mid (Err fault) → FindsValue (value_among heap minor path name offsets) old mid r
        value-exit mid fault r i f = onto mid r (exit-follows heap path value_of value_found (named_value heap path offset) if-named now mid mid fault r i f)

        module _ (mid : List CellState) (v : NamedValue) (f : Follows heap path value_of (named_value heap path offset) now mid (Ok v))
            (new : List CellState) (r : Result (Option ReadValue) LoadFault) where
          then : FindsValue (if-named (value_of v)) mid new r → FindsValue (value_among heap minor path name offsets) old new r
          then g = onto new r (follows-then heap path value_of value_found (named_value heap path offset) if-named now mid new v r f g)

          -- it is another
          pub value-passed : same_name (value_of v).1 name ≡ false → FindsValue more mid new r → FindsValue (value_among heap minor path name offsets) old new r
          value-passed e g = then (follows-either heap path value_found (same_name (value_of v).1 name) false (read-of (value_of v)) more mid new r e g)

          -- it is the one; its record has the name that was read
          abbrev named-so : List ℕ → Step (Option Member)
          named-so n =
              data_by heap minor path (is_inline v.value.fields.size) v.value.fields.size v.value.fields.offset
              >>= (λ bytes. give (Some (record { name = n; kind = v.value.fields.kind; bytes = bytes })))

          pub value-found : same_name (value_of v).1 name ≡ true → FindsValue (with_data heap minor path v) mid new r →
              FindsValue (value_among heap minor path name offsets) old new r
          value-found e g =
              onto new r (λ seen t.
              let d = f seen t in
              let is-name : letters (not (bit_and v.value.fields.flags 1 == 0)) v.value.name.now ≡ cow_slice_items v.name =
              named-open heap path offset (value_of v) seen d.after d.gives in
              follows-then heap path value_of value_found (named_value heap path offset) if-named now mid new v r f
              (follows-either heap path value_found (same_name (value_of v).1 name) true (read-of (value_of v)) more mid new r e
              (subst (λ (n : List ℕ). FindsValue (named-so n) mid new r) (sym is-name) g)) seen t)

  -- ---- the list, of some values and not too many

  module _ (name : List ℕ) (count offset : ℕ) where
    pub no-values : (states : List CellState) → count ≡ 0 → FindsValue (value_from heap minor path name count offset) states states (Ok None)
    no-values states e =
        subst (λ (n : ℕ). FindsValue (value_from heap minor path name n offset) states states (Ok None)) (sym e)
        (follows-give heap path value_found None states None refl)

    pub too-many : VALUES_LIMIT < count → (seen : Seen) → Fails Limit (value_from heap minor path name count offset) seen
    too-many l seen = by count l
      where
        by : (n : ℕ) → VALUES_LIMIT < n → value_from heap minor path name n offset seen ≡ Err Limit
        by zero l = absurd (omega (arith, l))
        by (suc n) l =
            let b : nat_le (suc n) VALUES_LIMIT ≡ false = grind (arith, nat_tests) in rw b refl

    module _ (some : count ≡ 0 → ⊥) (few : count ≤ VALUES_LIMIT) {X : Type 0} (first : X → List ℕ) (old : List CellState) where
      abbrev row : ℕ → Step (List ℕ)
      row n = row_from heap path ValueList n offset

      abbrev among : List ℕ → Step (Option Member)
      among offsets = value_among heap minor path name offsets

      listed : (new : List CellState) (r : Result (Option ReadValue) LoadFault) → FindsValue (row count >>= among) old new r →
          FindsValue (value_from heap minor path name count offset) old new r
      listed new r f = by count some few f
        where
          by : (n : ℕ) → (n ≡ 0 → ⊥) → n ≤ VALUES_LIMIT → FindsValue (row n >>= among) old new r →
              FindsValue (value_from heap minor path name n offset) old new r
          by zero s l f = absurd (s refl)
          by (suc n) s l f =
              let b : nat_le (suc n) VALUES_LIMIT ≡ true = grind (arith, nat_tests) in
              check-follows heap path value_found Limit (nat_le (suc n) VALUES_LIMIT) (row (suc n) >>= among) old new r b f

      pub row-fails : (mid : List CellState) (fault : LoadFault) (r : Result (Option ReadValue) LoadFault) → IsErrAnd r (λ e. e ≡ fault) →
          Follows heap path first (row count) old mid (Err fault) → FindsValue (value_from heap minor path name count offset) old mid r
      row-fails mid fault r i a = listed mid r (exit-follows heap path first value_found (row count) among old mid mid fault r i a)

      pub row-read : (mid new : List CellState) (x : X) (r : Result (Option ReadValue) LoadFault) →
          Follows heap path first (row count) old mid (Ok x) → FindsValue (among (first x)) mid new r →
          FindsValue (value_from heap minor path name count offset) old new r
      row-read mid new x r a b = listed new r (follows-then heap path first value_found (row count) among old mid new x r a b)
