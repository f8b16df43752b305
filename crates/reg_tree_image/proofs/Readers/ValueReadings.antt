-- A value read, with a name that no value before it has.
use Rattle.std.proofs.Common.{◌≡◌, ℕ, ◌%◌, ◌==◌, ◌||◌, nat_le, not, Bool, true, false, Result}
use Rattle.std.proofs.Common.{Ok, Err, List, length, bit_and, refl, sym, ap, ◌∙◌, subst}
use Rattle.std.specs.Result.{IsErrAnd}
use Rattle.std.specs.List.{list_all}
use Rattle.std.specs.Cow.{cow_slice_items}
use Rattle.reg_names.specs.declared.TheConstants.{VALUE_NAME_LIMIT}
use Rattle.reg_names.specs.Names.{is_value_name_byte}
use Rattle.reg_heap.specs.Heaps.{Heap}
use Rattle.reg_heap.specs.Kinds.Kind.{Value}
use Rattle.reg_heap.specs.Paths.{Member}
use Rattle.reg_records.specs.BigData.{is_inline}
use Rattle.reg_records.specs.KeyValues.{KeyValueRecord, vk_of}
use Rattle.reg_shape.specs.Nodes.{letters, member_of}
use Rattle.reg_tree_image.specs.declared.LoadFault.{LoadFault}
use Rattle.reg_tree_image.specs.declared.LoadFault.TheVariants.{Record, Twice, NotInProfile, Limit}
use Rattle.reg_tree_image.specs.declared.table.CellState.{CellState}
use Rattle.reg_tree_image.specs.declared.data.ReadData.{ReadData}
use Rattle.reg_tree_image.specs.declared.values.NamedValue.{NamedValue}
use Rattle.reg_tree_image.specs.declared.values.ReadValue.{ReadValue}
use Rattle.reg_tree_image.specs.WalkSteps.{Seen, Step, ◌>>=◌, ◌>>◌, onward, give, check, cell}
use Rattle.reg_tree_image.specs.LoadingWalk.{read, name_in, value_name, named_value, data_by, value_from}
use Rattle.reg_tree_image.specs.Internal.NameReadings.{value_in}
use Rattle.reg_tree_image.specs.Internal.NamedRecords.{value_of, data_in, member_in}
use Rattle.reg_tree_image.specs.Internal.NamesMet.{is_among}
use Rattle.reg_tree_image.specs.Internal.ReaderOutcomes.{Fails, Follows}
use Rattle.reg_tree_image.proofs.Readers.ReaderSteps.{fails-same, exit-follows, exit-gives, follows-then, cell-gives}

-- a test that holds, and what follows it
pub check-follows : {X A : Type 0} (heap : Heap) (path : List ℕ) (view : X → A) (fault : LoadFault) (test : Bool) (t : Step A)
    (old new : List CellState) (r : Result X LoadFault) → test ≡ true → Follows heap path view t old new r →
    Follows heap path view (check fault test >> t) old new r
check-follows heap path view fault test t old new (Ok x) e f seen s =
    let d = f seen s in
    record { after = d.after; gives = ap (λ b. onward (λ _. t) (check fault b seen)) e ∙ d.gives; table = d.table; told = d.told }
check-follows heap path view fault test t old new (Err x) e f seen s =
    fails-same x (check fault test >> t) t seen seen (ap (λ b. onward (λ _. t) (check fault b seen)) e) (f seen s)

-- ---- the name that a value's record has

-- a step that gives, taken apart
record IsOnward {A B : Type 0} (s : Step A) (f : A → Step B) (seen : Seen) (y : B) (after : Seen) : Type 0 where
  first : A
  mid : Seen
  first_is : s seen ≡ Ok (first, mid)
  then_is : f first mid ≡ Ok (y, after)

onward-open : {A B : Type 0} (s : Step A) (f : A → Step B) (seen : Seen) (y : B) (after : Seen) → (s >>= f) seen ≡ Ok (y, after) →
    IsOnward s f seen y after
onward-open {A} s f seen y after e = by (s seen) refl e
  where
    by : (r : Result (A × Seen) LoadFault) → s seen ≡ r → onward f r ≡ Ok (y, after) → IsOnward s f seen y after
    by (Ok p) q e = record { first = p.0; mid = p.1; first_is = q; then_is = e }
    by (Err fault) q e = absurd (cc)

pub check-open : {A : Type 0} (fault : LoadFault) (test : Bool) (t : Step A) (seen : Seen) (y : A) (after : Seen) →
    (check fault test >> t) seen ≡ Ok (y, after) → t seen ≡ Ok (y, after)
check-open fault true t seen y after e = e
check-open fault false t seen y after e = absurd (cc)

pub give-open : {A : Type 0} (x y : A) (seen after : Seen) → give x seen ≡ Ok (y, after) → x ≡ y
give-open {A} x y seen after e = let p : ◌≡◌ {A = A × Seen} (x, seen) (y, after) = cc in ap (λ (p : A × Seen). p.0) p

pub name-open : (single : Bool) (most : ℕ) (ok : ℕ → Bool) (name read : List ℕ) (seen after : Seen) →
    name_in single most ok name seen ≡ Ok (read, after) → letters single name ≡ read
name-open single most ok name read seen after e =
    let chars = letters single name in
    let last : Step (List ℕ) = check NotInProfile (list_all ok chars) >> give chars in
    let short : Step (List ℕ) = check Limit (nat_le (length chars) most) >> last in
    give-open chars read seen after
    (check-open NotInProfile (list_all ok chars) (give chars) seen read after
    (check-open Limit (nat_le (length chars) most) last seen read after
    (check-open Record (single || (length name % 2 == 0)) short seen read after e)))

pub named-open : (heap : Heap) (path : List ℕ) (offset : ℕ) (v : KeyValueRecord × List ℕ) (seen after : Seen) →
    named_value heap path offset seen ≡ Ok (v, after) → letters (not (bit_and v.0.fields.flags 1 == 0)) v.0.name ≡ v.1
named-open heap path offset v seen after e =
    let named : KeyValueRecord → Step (KeyValueRecord × List ℕ) = λ value. value_name value >>= (λ name. give (value, name)) in
    let o = onward-open (cell heap path (λ _. Value) offset) value_in seen v after e in
    let r = onward-open (read (vk_of o.first)) named o.mid v after o.then_is in
    let n = onward-open (value_name r.first) (λ name. give (r.first, name)) r.mid v after r.then_is in
    let is : ◌≡◌ {A = KeyValueRecord × List ℕ} (r.first, n.first) v = give-open (r.first, n.first) v n.mid after n.then_is in
    subst (λ (v : KeyValueRecord × List ℕ). letters (not (bit_and v.0.fields.flags 1 == 0)) v.0.name ≡ v.1) is
    (name-open (not (bit_and r.first.fields.flags 1 == 0)) VALUE_NAME_LIMIT is_value_name_byte r.first.name n.first r.mid n.mid n.first_is)

-- ---- the value

module _ (heap : Heap) (minor : ℕ) (path : List ℕ) (offset : ℕ) (before : List Member) (old mid : List CellState) where
  abbrev named-step : Step (KeyValueRecord × List ℕ)
  named-step = named_value heap path offset

  abbrev data-of : KeyValueRecord × List ℕ → Step (List ℕ)
  data-of value = data_by heap minor path (is_inline value.0.fields.size) value.0.fields.size value.0.fields.offset

  abbrev told-of : KeyValueRecord × List ℕ → List ℕ → Step Member
  told-of value bytes = give (member_of value.0 bytes)

  abbrev with-data : KeyValueRecord × List ℕ → Step Member
  with-data value = data-of value >>= told-of value

  abbrev is_other : KeyValueRecord × List ℕ → Bool
  is_other value = not (is_among value.1 before)

  abbrev then : KeyValueRecord × List ℕ → Step Member
  then value = check Twice (is_other value) >> with-data value

  abbrev FollowsValue : List CellState → Result ReadValue LoadFault → Type 0
  FollowsValue new r = Follows heap path member_in (value_from heap minor path before offset) old new r

  module _ (named : NamedValue) (a : Follows heap path value_of named-step old mid (Ok named))
      (name : List ℕ) (same : name ≡ cow_slice_items named.name) where
    abbrev value : KeyValueRecord × List ℕ
    value = value_of named

    is-test : is_other value ≡ not (is_among name before)
    is-test = ap (λ name. not (is_among name before)) (sym same)

    pub name-exit : (fault : LoadFault) (r : Result ReadValue LoadFault) → IsErrAnd r (λ e. e ≡ fault) →
        ((seen : Seen) → Fails fault (check Twice (not (is_among name before))) seen) → FollowsValue mid r
    name-exit fault r i g =
        cell-gives heap path value_of member_in named-step then old mid named r a
        (exit-gives {X = Unit {0}} (λ _. tt) member_in (check Twice (is_other value)) (λ _. with-data value) fault r i
        (subst (λ b. (seen : Seen) → Fails fault (check Twice b) seen) (sym is-test) g))

    module _ (g : (seen : Seen) → check Twice (not (is_among name before)) seen ≡ Ok (tt, seen)) (new : List CellState) where
      passes : (seen : Seen) → is_other value ≡ true
      passes seen = is-test ∙ by (not (is_among name before)) (g seen)
        where
          by : (b : Bool) → check Twice b seen ≡ Ok (tt, seen) → b ≡ true
          by true e = refl
          by false e = absurd (cc)

      pub data-exit : (fault : LoadFault) (r : Result ReadValue LoadFault) → IsErrAnd r (λ e. e ≡ fault) →
          Follows heap path data_in (data-of value) mid new (Err fault) → FollowsValue new r
      data-exit fault r i d seen t =
          follows-then heap path value_of member_in named-step then old mid new named r a
          (check-follows heap path member_in Twice (is_other value) (with-data value) mid new r (passes seen)
          (exit-follows heap path data_in member_in (data-of value) (told-of value) mid new new fault r i d)) seen t

      pub value-done : (bytes : ReadData) → Follows heap path data_in (data-of value) mid new (Ok bytes) →
          FollowsValue new (Ok (record { name = named.name; kind = named.value.fields.kind; bytes = bytes }))
      value-done bytes d seen t =
          let read : ReadValue = record { name = named.name; kind = named.value.fields.kind; bytes = bytes } in
          let n = a seen t in
          let is : member_of value.0 (data_in bytes) ≡ member_in read =
          ap (λ name. record { name = name; kind = named.value.fields.kind; bytes = data_in bytes })
          (named-open heap path offset value seen n.after n.gives) in
          follows-then heap path value_of member_in named-step then old mid new named (Ok read) a
          (check-follows heap path member_in Twice (is_other value) (with-data value) mid new (Ok read) (passes seen)
          (cell-gives heap path data_in member_in (data-of value) (told-of value) mid new bytes (Ok read) d
          (λ seen. ap (λ m. Ok (m, seen)) is))) seen t
