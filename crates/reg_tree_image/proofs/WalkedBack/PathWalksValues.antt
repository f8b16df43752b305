-- The walk to a value of a key gives the first of the values that were told whose name folds as its.
use Rattle.std.proofs.Common.{◌≡◌, ℕ, zero, suc, ◌==◌, ◌%◌, ◌||◌, nat_le, not, Bool, true, false, cond, Option, Some, Result, Ok, List, [], ◌∷◌, ◌++◌, append_assoc, length, bit_and, refl, sym, ap, ◌∙◌, subst}
use Rattle.std.specs.List.{list_all, list_any}
use Rattle.std.proofs.lemmas.List.{append-nil, append_cancel_left}
use Rattle.reg_names.specs.declared.TheConstants.{VALUE_NAME_LIMIT}
use Rattle.reg_names.specs.Names.{is_value_name_byte}
use Rattle.reg_heap.specs.declared.limits.TheConstants.{VALUES_LIMIT}
use Rattle.reg_heap.specs.Paths.{Member}
use Rattle.reg_heap.specs.Heaps.{Heap}
use Rattle.reg_heap.specs.Kinds.Kind.{Value, ValueList}
use Rattle.reg_heap.specs.Members.{same_name, value_named}
use Rattle.reg_records.specs.KeyValues.{KeyValueRecord, vk_of}
use Rattle.reg_records.specs.BigData.{is_inline}
use Rattle.reg_shape.specs.Nodes.{letters, member_of}
use Rattle.reg_tree_image.specs.declared.LoadFault.{LoadFault}
use Rattle.reg_tree_image.specs.declared.LoadFault.TheVariants.{Record, Twice, NotInProfile, Limit}
use Rattle.reg_tree_image.specs.WalkSteps.{Seen, Step, ◌>>=◌, ◌>>◌, onward, give, check, cell}
use Rattle.reg_tree_image.specs.LoadingWalk.{read, name_in, value_name, named_value, row_from, data_by, values_each, values_from, value_from}
use Rattle.reg_tree_image.proofs.CleanWalks.CleanSteps.{named_too}
use Rattle.reg_tree_image.proofs.WalkedBack.BackSteps.{bind-back, check-back, read-back, give-back}
use Rattle.reg_tree_image.specs.PathWalk as Along
use Rattle.reg_tree_image.specs.PathWalk.{either, value_among}
use Rattle.reg_tree_image.proofs.WalkedBack.PathWalksSteps.{AreFewer, Fits, fits-then, fits-more, fewer-then, fewer-join}
use Rattle.reg_tree_image.proofs.WalkedBack.PathWalksParts.{repeats-row, repeats-value-named, repeats-data}

-- a step meets no fault, and gives this
pub record IsGiven {A : Type 0} (r : Result (A × Seen) LoadFault) (x : A) : Type 0 where
  pub later : Seen
  pub is : r ≡ Ok (x, later)

-- the name that was read is that of the record
letters-back : (single : Bool) (most : ℕ) (allowed : ℕ → Bool) (name : List ℕ) (seen : Seen) (y : List ℕ) (after : Seen) → name_in single most allowed name seen ≡ Ok (y, after) →
    letters single name ≡ y
letters-back single most allowed name seen y after e =
    let last = give (letters single name) in
    let third = check NotInProfile (list_all allowed (letters single name)) >> last in
    let second = check Limit (nat_le (length (letters single name)) most) >> third in
    let a = check-back Record (single || (length name % 2 == 0)) second seen y after e in
    let b = check-back Limit (nat_le (length (letters single name)) most) third seen y after a.1 in
    let c = check-back NotInProfile (list_all allowed (letters single name)) last seen y after b.1 in
    (give-back (letters single name) seen y after c.1).0

module _ (heap : Heap) where
  name-back : (path : List ℕ) (offset : ℕ) (seen : Seen) (v : KeyValueRecord × List ℕ) (after : Seen) → named_value heap path offset seen ≡ Ok (v, after) →
      letters (not (bit_and v.0.fields.flags 1 == 0)) v.0.name ≡ v.1
  name-back path offset seen v after e =
      let with_name = λ (value : KeyValueRecord). value_name value >>= (λ name. give (value, name)) in
      let n = bind-back (cell heap path (λ _. Value) offset) (λ content. read (vk_of content) >>= with_name) seen v after e in
      let r = read-back (vk_of n.first) with_name n.mid v after n.then_is in
      let w = bind-back (value_name r.0) (λ name. give (r.0, name)) n.mid v after r.2 in
      let g = give-back (r.0, w.first) w.mid v after w.then_is in
      subst (λ (h : KeyValueRecord × List ℕ). letters (not (bit_and h.0.fields.flags 1 == 0)) h.0.name ≡ h.1) g.0
      (letters-back (not (bit_and r.0.fields.flags 1 == 0)) VALUE_NAME_LIMIT is_value_name_byte r.0.name n.mid w.first w.mid w.first_is)

  module _ (minor : ℕ) where
    -- one value, and those behind it
    record IsOneRead (path name : List ℕ) (offset : ℕ) (seen : Seen) (m : Member) (mid : Seen) : Type 0 where
      more : AreFewer seen mid
      reads : (now : Seen) (next : Step (Option Member)) (told : Option Member) → Fits path now seen → ((n : Seen) → Fits path n mid → IsGiven (next n) told) →
          IsGiven ((named_value heap path offset >>= (λ value. either (same_name value.1 name)
          (data_by heap minor path (is_inline value.0.fields.size) value.0.fields.size value.0.fields.offset >>= (λ bytes. give (Some (member_of value.0 bytes)))) next)) now)
          (cond (same_name m.name name) (Some m) told)

    one-read : (above path : List ℕ) (before : List Member) (name : List ℕ) (offset : ℕ) (seen : Seen) (m : Member) (mid : Seen) → value_from heap minor above before offset seen ≡ Ok (m, mid) →
        IsOneRead path name offset seen m mid
    one-read above path before name offset seen m mid e =
        let bytes = λ (v : KeyValueRecord × List ℕ). data_by heap minor above (is_inline v.0.fields.size) v.0.fields.size v.0.fields.offset in
        let made = λ (v : KeyValueRecord × List ℕ) (held : List ℕ). give (member_of v.0 held) in
        let rest = λ (v : KeyValueRecord × List ℕ). check Twice (not (list_any (λ (m : Member). same_name m.name v.1) before)) >> (bytes v >>= made v) in
        let o = bind-back (named_value heap above offset) rest seen m mid e in
        let v = o.first in
        let n = repeats-value-named heap above path offset seen v o.mid o.first_is in
        let k = check-back Twice (not (list_any (λ (m : Member). same_name m.name v.1) before)) (bytes v >>= made v) o.mid m mid o.then_is in
        let d = bind-back (bytes v) (made v) o.mid m mid k.1 in
        let r = repeats-data heap minor above path (is_inline v.0.fields.size) v.0.fields.size v.0.fields.offset o.mid d.first d.mid d.first_is in
        let g = give-back (member_of v.0 d.first) d.mid m mid d.then_is in
        let called : m.name ≡ v.1 = sym (ap (λ (x : Member). x.name) g.0) ∙ name-back above offset seen v o.mid o.first_is in
        let more_d : AreFewer o.mid mid = fewer-then o.mid mid r.met (sym (ap (λ (s : Seen). s.found) g.1) ∙ ap (λ (s : Seen). s.found) r.is) in
        record {
          more = fewer-join seen o.mid mid (fewer-then seen o.mid n.met (ap (λ (s : Seen). s.found) n.is)) more_d;
          reads = λ now next told f nexts.
              (let at = named_too now n.met in
              let fits = fits-then path now seen o.mid n.met n.is f in
              let here = data_by heap minor path (is_inline v.0.fields.size) v.0.fields.size v.0.fields.offset >>= (λ bytes. give (Some (member_of v.0 bytes))) in
              let taken : here at ≡ Ok (Some m, named_too at r.met) =
              ap (onward (λ bytes. give (Some (member_of v.0 bytes)))) (r.again at fits) ∙ ap (λ (x : Member). Ok (Some x, named_too at r.met)) g.0 in
              let first = ap (onward (λ (value : KeyValueRecord × List ℕ). either (same_name value.1 name)
              (data_by heap minor path (is_inline value.0.fields.size) value.0.fields.size value.0.fields.offset >>= (λ bytes. give (Some (member_of value.0 bytes)))) next)) (n.again now f) in
              let by : IsGiven (either (same_name v.1 name) here next at) (cond (same_name v.1 name) (Some m) told) =
              chosen (same_name v.1 name) here next at (named_too at r.met) m told taken (nexts at (fits-more path at o.mid mid more_d fits)) in
              record { later = by.later; is = first ∙ (by.is ∙ ap (λ (t : List ℕ). Ok (cond (same_name t name) (Some m) told, by.later)) (sym called)) });
        }
      where
        chosen : (t : Bool) (here next : Step (Option Member)) (at end : Seen) (m : Member) (told : Option Member) → here at ≡ Ok (Some m, end) → IsGiven (next at) told →
            IsGiven (either t here next at) (cond t (Some m) told)
        chosen true here next at end m told e n = record { later = end; is = e }
        chosen false here next at end m told e n = record { later = n.later; is = n.is }

    among-read : (above path : List ℕ) (name : List ℕ) (offsets : List ℕ) (before : List Member) (seen : Seen) (y : List Member) (after now : Seen) →
        values_each heap minor above before offsets seen ≡ Ok (y, after) → Fits path now seen →
        (more : List Member) × (before ++ more ≡ y) × IsGiven (value_among heap minor path name offsets now) (value_named name more)
    among-read above path name [] before seen y after now e f = ([], append-nil before ∙ (give-back before seen y after e).0, record { later = now; is = refl })
    among-read above path name (offset ∷ offsets) before seen y after now e f =
        let o = bind-back (value_from heap minor above before offset) (λ member. values_each heap minor above (before ++ member ∷ []) offsets) seen y after e in
        let one = one-read above path before name offset seen o.first o.mid o.first_is in
        let next = λ (n : Seen) (f : Fits path n o.mid). among-read above path name offsets (before ++ o.first ∷ []) o.mid y after n o.then_is f in
        let rest = next now (fits-more path now seen o.mid one.more f) in (
          o.first ∷ rest.0,
          sym (append_assoc before (o.first ∷ []) rest.0) ∙ rest.1,
          one.reads now (value_among heap minor path name offsets) (value_named name rest.0) f (λ n g.
              let r = next n g in
              subst (λ (ms : List Member). IsGiven (value_among heap minor path name offsets n) (value_named name ms))
              (append_cancel_left (before ++ o.first ∷ []) r.0 rest.0 (r.1 ∙ sym rest.1)) r.2),
        )

    -- a key's values, as they were told, and one of them as the walk along a path comes to it
    pub value-read : (above path : List ℕ) (name : List ℕ) (count offset : ℕ) (seen : Seen) (y : List Member) (after now : Seen) →
        values_from heap minor above count offset seen ≡ Ok (y, after) → Fits path now seen →
        IsGiven (Along.value_from heap minor path name count offset now) (value_named name y)
    value-read above path name zero offset seen y after now e f =
        subst (λ (ms : List Member). IsGiven (Along.value_from heap minor path name zero offset now) (value_named name ms)) (give-back [] seen y after e).0 (record { later = now; is = refl })
    value-read above path name (suc n) offset seen y after now e f =
        let each = λ (row : List ℕ). values_each heap minor above [] row in
        let search = λ (row : List ℕ). value_among heap minor path name row in
        let k = check-back Limit (nat_le (suc n) VALUES_LIMIT) (row_from heap above ValueList (suc n) offset >>= each) seen y after e in
        let o = bind-back (row_from heap above ValueList (suc n) offset) each seen y after k.1 in
        let r = repeats-row heap above path ValueList (suc n) offset seen o.first o.mid o.first_is in
        let a = among-read above path name o.first [] o.mid y after (named_too now r.met) o.then_is (fits-then path now seen o.mid r.met r.is f) in
        record {
          later = a.2.later;
          is = ap (λ (t : Bool). onward (λ _. row_from heap path ValueList (suc n) offset >>= search) (check Limit t now)) k.0
              ∙ (ap (onward search) (r.again now f) ∙ (a.2.is ∙ ap (λ (ms : List Member). Ok (value_named name ms, a.2.later)) a.1));
        }
