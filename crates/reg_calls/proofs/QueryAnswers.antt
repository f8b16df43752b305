-- What questions are answered.
use Rattle.std.proofs.Common.{◌≡◌, ◌≢◌, ℕ, ◌<◌, ◌≤◌, true, false, not, nat_lt, nat_le, is_some, List, [], length, slice_get, get_or, Option, Some, None, refl}
use Rattle.std.proofs.Common.{sym, ap, ◌∙◌, subst, arith, inl, inr, ◌⊎◌}
use Rattle.std.specs.Prelude.{bit_and, IsSome}
use Rattle.std.specs.FinMap.{get, insert, empty}
use Rattle.std.proofs.lemmas.Bool.Decides.{nat_tests}
use Rattle.std.proofs.lemmas.Option.{slice_get_within, slice_get_cases}
use Rattle.reg_names.specs.Names.{is_value_name}
use Rattle.reg_heap.specs.Paths.{Path, Tree, Rec, Member, children_of}
use Rattle.reg_heap.specs.Members.{value_named}
use Rattle.reg_heap.specs.Edits.{values_at, descriptor_of}
use Rattle.reg_model.specs.Causes.{State, early_query_cause, late_query_cause, query_cause, refuse, asked, has, subkeys_of, members_of, lacks_value, ◌or◌}
use Rattle.reg_model.specs.Replies.{body_of, value_told, key_told, member_told, info_told, security_told}
use Rattle.reg_model.specs.declared.rights.TheConstants.{READ_CONTROL}
use Rattle.reg_model.specs.declared.answer.AnswerBody.{AnswerBody}
use Rattle.reg_model.specs.declared.answer.AnswerBody.TheVariants.{Refused}
use Rattle.reg_model.specs.declared.call.Query.{Query}
use Rattle.reg_model.specs.declared.call.Query.TheVariants.{QueryValue, EnumKey, EnumValue, QueryInfo, GetSecurity}
use Rattle.reg_tree.specs.declared.value.ValueFound.{ValueFound}
use Rattle.reg_tree.specs.ValueAnswers.{IsFound}
use Rattle.reg_calls.specs.declared.store.Store.{Store}
use Rattle.reg_calls.specs.Internal.Stores.{at, IsTarget}
use Rattle.reg_calls.specs.Internal.RoomQuestions.{IsSubkeyTold}
use Rattle.reg_calls.specs.Rooms.{due_by}
use Rattle.reg_calls.specs.Views.{IsReadBy, IsTold, is_told}
use Rattle.reg_calls.proofs.HandleLookUps.{by_handle-at, target-at}
use Rattle.reg_model.proofs.HandleInvariant.{has-put}
use Rattle.reg_calls.specs.declared.store.JournalEnd.{JournalEnd}
use Rattle.reg_calls.proofs.RefusalTests.{Refuses, first}

-- a refusal is told
pub refused : (s : State) (session c status : ℕ) (q : Query) → query_cause s session q c ≡ Some status → IsReadBy c s session q (Refused status)
refused s session c status q e = rw e (inl refl)

-- a refusal is due, or what is told
pub refusal-due : (s : State) (session c status : ℕ) (q : Query) → query_cause s session q c ≡ Some status → due_by c s session q ≡ Refused status
refusal-due s session c status q e = ap (λ (o : Option ℕ). is_told o (body_of s session q)) e

pub body-due : (s : State) (session c : ℕ) (q : Query) (body : AnswerBody) → query_cause s session q c ≡ None → body_of s session q ≡ body → due_by c s session q ≡ body
body-due s session c q body none is = ap (λ (o : Option ℕ). is_told o (body_of s session q)) none ∙ is

-- the answer due is told, or 8 in its place
pub told : (s : State) (session c : ℕ) (q : Query) (due body : AnswerBody) → query_cause s session q c ≡ None → body_of s session q ≡ due → IsTold due body → IsReadBy c s session q body
told s session c q due body none is t = rw (none, is) t

module _ (n : JournalEnd) (store : Store) (session h c : ℕ) where
  abbrev s : State
  s = at n store

  abbrev tree : Tree
  tree = store.tree.tree

  abbrev t : Type 0
  t = IsTarget store session h

  -- ---- QueryValue

  pub value-refused : (name : List ℕ) (room : Option ℕ) (status : ℕ) → Refuses store session h status → due_by c s session (QueryValue h name room) ≡ Refused status
  unfolding early_query_cause late_query_cause
  value-refused name room status r =
      refusal-due s session c status (QueryValue h name room) (first _ _ _ status (r (λ x. refuse (not (is_value_name name)) 87 or refuse (not (has 1 x.mask)) 5)))

  pub value-causes : (name : List ℕ) (room : Option ℕ) (mask : ℕ) (g : t) → mask ≡ g.handle.mask →
      query_cause s session (QueryValue h name room) c ≡ (refuse (not (is_value_name name)) 87 or refuse (not (has 1 mask)) 5 or asked c or refuse
      (not (is_some (value_named name (values_at tree g.path)))) 2)
  unfolding early_query_cause late_query_cause
  value-causes name room mask g m =
      ap (λ (a : Option ℕ). a or asked c or refuse (lacks_value s session h name) 2) (by_handle-at store session h g (λ x. refuse (not (is_value_name name)) 87 or refuse (not (has 1 x.mask)) 5))
      ∙ (ap (λ (q : Path). refuse (not (is_value_name name)) 87 or refuse (not (has 1 g.handle.mask)) 5 or asked c or refuse
      (not (is_some (value_named name (values_at tree q)))) 2) (target-at store session h g)
      ∙ ap (λ (k : ℕ). refuse (not (is_value_name name)) 87 or refuse (not (has 1 k)) 5 or asked c or refuse (not (is_some (value_named name (values_at tree g.path)))) 2) (sym m))

  pub value-due : (name : List ℕ) (room : Option ℕ) (g : t) → body_of s session (QueryValue h name room) ≡ value_told (value_named name (values_at tree g.path)) room
  unfolding body_of
  value-due name room g = ap (λ (q : Path). value_told (value_named name (values_at tree q)) room) (target-at store session h g)

  -- what is told of the value of a name, or that there is none, is due
  pub value-read : (name : List ℕ) (room : Option ℕ) (mask : ℕ) (g : t) → mask ≡ g.handle.mask → is_value_name name ≡ true → has 1 mask ≡ true → asked c ≡ None →
      due_by c s session (QueryValue h name room) ≡ value_told (value_named name (values_at tree g.path)) room
  value-read name room mask g m named right asks =
      by (value-causes name room mask g m) (value-due name room g) (value_named name (values_at tree g.path)) refl
    where
      by : query_cause s session (QueryValue h name room) c ≡ (refuse (not (is_value_name name)) 87 or refuse (not (has 1 mask)) 5 or asked c or refuse
          (not (is_some (value_named name (values_at tree g.path)))) 2) →
          body_of s session (QueryValue h name room) ≡ value_told (value_named name (values_at tree g.path)) room →
          (o : Option Member) → value_named name (values_at tree g.path) ≡ o →
          due_by c s session (QueryValue h name room) ≡ value_told (value_named name (values_at tree g.path)) room
      by chain due None e =
          refusal-due s session c 2 (QueryValue h name room) (chain ∙ rw (named, right, asks, e) refl) ∙ ap (λ (o : Option Member). value_told o room) (sym e)
      by chain due (Some x) e = body-due s session c (QueryValue h name room) _ (chain ∙ rw (named, right, asks, e) refl) due

  -- ---- EnumKey

  pub key-refused : (index room status : ℕ) → Refuses store session h status → due_by c s session (EnumKey h index room) ≡ Refused status
  unfolding early_query_cause late_query_cause
  key-refused index room status r = refusal-due s session c status (EnumKey h index room) (first _ _ _ status (r (λ x. refuse (not (has 8 x.mask)) 5)))

  pub key-causes : (index room mask : ℕ) (g : t) → mask ≡ g.handle.mask →
      query_cause s session (EnumKey h index room) c ≡ (refuse (not (has 8 mask)) 5 or asked c or refuse
      (nat_le (length (children_of tree g.path)) index) 259)
  unfolding early_query_cause late_query_cause
  key-causes index room mask g m =
      ap (λ (a : Option ℕ). a or asked c or refuse (nat_le (length (subkeys_of s session h)) index) 259) (by_handle-at store session h g (λ x. refuse (not (has 8 x.mask)) 5))
      ∙ (ap (λ (q : Path). refuse (not (has 8 g.handle.mask)) 5 or asked c or refuse (nat_le (length (children_of tree q)) index) 259) (target-at store session h g)
      ∙ ap (λ (k : ℕ). refuse (not (has 8 k)) 5 or asked c or refuse (nat_le (length (children_of tree g.path)) index) 259) (sym m))

  pub key-due : (index room : ℕ) (g : t) → body_of s session (EnumKey h index room) ≡ key_told (get tree (get_or (children_of tree g.path) index [])) room
  unfolding body_of
  key-due index room g = ap (λ (q : Path). key_told (get tree (get_or (children_of tree q) index [])) room) (target-at store session h g)

  -- what is told of the subkey at an index, or that there is none, is due
  pub key-read : (index room mask : ℕ) (g : t) (body : AnswerBody) → mask ≡ g.handle.mask → has 8 mask ≡ true → asked c ≡ None →
      IsSubkeyTold tree g.path index room body → due_by c s session (EnumKey h index room) ≡ body
  key-read index room mask g body m right asks (inl x) =
      let past : nat_le (length (children_of tree g.path)) index ≡ true = let l = x.0 in grind (arith, nat_tests, l) in
      refusal-due s session c 259 (EnumKey h index room) (key-causes index room mask g m ∙ rw (right, asks, past) refl) ∙ sym x.1
  key-read index room mask g body m right asks (inr x) =
      let below : nat_le (length (children_of tree g.path)) index ≡ false = let l = x.0 in grind (arith, nat_tests, l) in
      body-due s session c (EnumKey h index room) _ (key-causes index room mask g m ∙ rw (right, asks, below) refl) (key-due index room g ∙ sym x.1)

  -- ---- EnumValue

  pub member-refused : (index name_room : ℕ) (room : Option ℕ) (status : ℕ) → Refuses store session h status → IsReadBy c s session (EnumValue h index name_room room) (Refused status)
  unfolding early_query_cause late_query_cause
  member-refused index name_room room status r = refused s session c status (EnumValue h index name_room room) (first _ _ _ status (r (λ x. refuse (not (has 1 x.mask)) 5)))

  pub member-causes : (index name_room : ℕ) (room : Option ℕ) (mask : ℕ) (g : t) → mask ≡ g.handle.mask →
      query_cause s session (EnumValue h index name_room room) c ≡ (refuse (not (has 1 mask)) 5 or asked c or refuse
      (nat_le (length (values_at tree g.path)) index) 259)
  unfolding early_query_cause late_query_cause
  member-causes index name_room room mask g m =
      ap (λ (a : Option ℕ). a or asked c or refuse (nat_le (length (members_of s session h)) index) 259) (by_handle-at store session h g (λ x. refuse (not (has 1 x.mask)) 5))
      ∙ (ap (λ (q : Path). refuse (not (has 1 g.handle.mask)) 5 or asked c or refuse (nat_le (length (values_at tree q)) index) 259) (target-at store session h g)
      ∙ ap (λ (k : ℕ). refuse (not (has 1 k)) 5 or asked c or refuse (nat_le (length (values_at tree g.path)) index) 259) (sym m))

  member-due : (index name_room : ℕ) (room : Option ℕ) (g : t) → body_of s session (EnumValue h index name_room room) ≡ member_told (slice_get (values_at tree g.path) index) name_room room
  unfolding body_of
  member-due index name_room room g = ap (λ (q : Path). member_told (slice_get (values_at tree q) index) name_room room) (target-at store session h g)

  -- an index past the last is told 259, and any other the member
  pub member-read : (index name_room : ℕ) (room : Option ℕ) (mask : ℕ) (g : t) (body : AnswerBody) → mask ≡ g.handle.mask → has 1 mask ≡ true → asked c ≡ None →
      IsTold (member_told (slice_get (values_at tree g.path) index) name_room room) body → IsReadBy c s session (EnumValue h index name_room room) body
  member-read index name_room room mask g body m right asks is =
      let chain = member-causes index name_room room mask g m in
      let due = member-due index name_room room g in
      let cases = slice_get_cases (values_at tree g.path) index in
      by chain due cases.1
    where
      by : query_cause s session (EnumValue h index name_room room) c ≡ (refuse (not (has 1 mask)) 5 or asked c or refuse
          (nat_le (length (values_at tree g.path)) index) 259) →
          body_of s session (EnumValue h index name_room room) ≡ member_told (slice_get (values_at tree g.path) index) name_room room
          → (((x : Member) × (index < length (values_at tree g.path)) × (slice_get (values_at tree g.path) index ≡ Some x) ×
          (get_or (values_at tree g.path) index x ≡ x)) ⊎ ((length (values_at tree g.path) ≤ index) ×
          (slice_get (values_at tree g.path) index ≡ None))) → IsReadBy c s session (EnumValue h index name_room room) body
      by chain due (inl x) =
          let below : nat_le (length (values_at tree g.path)) index ≡ false = let l = x.1 in grind (arith, nat_tests, l) in
          told s session c (EnumValue h index name_room room) _ body (chain ∙ rw (right, asks, below) refl) due is
      by chain due (inr x) =
          let past : nat_le (length (values_at tree g.path)) index ≡ true = let l = x.0 in grind (arith, nat_tests, l) in
          let none : query_cause s session (EnumValue h index name_room room) c ≡ Some 259 = chain ∙ rw (right, asks, past) refl in
          subst (λ (o : Option ℕ). IsTold (is_told o (body_of s session (EnumValue h index name_room room))) body) (sym none)
          (subst (λ (o : Option Member). IsTold (member_told o name_room room) body) x.1 is)

  -- ---- QueryInfo

  pub info-refused : (status : ℕ) → Refuses store session h status → IsReadBy c s session (QueryInfo h) (Refused status)
  unfolding early_query_cause late_query_cause
  info-refused status r = refused s session c status (QueryInfo h) (first _ _ _ status (r (λ x. refuse (not (has 1 x.mask)) 5)))

  pub info-causes : (mask : ℕ) (g : t) → mask ≡ g.handle.mask → query_cause s session (QueryInfo h) c ≡ (refuse (not (has 1 mask)) 5 or asked c or None)
  unfolding early_query_cause late_query_cause
  info-causes mask g m =
      ap (λ (a : Option ℕ). a or asked c or None) (by_handle-at store session h g (λ x. refuse (not (has 1 x.mask)) 5)) ∙ ap (λ (k : ℕ). refuse (not (has 1 k)) 5 or asked c or None) (sym m)

  pub info-due : (g : t) → body_of s session (QueryInfo h) ≡ info_told tree g.path
  unfolding body_of
  info-due g = ap (info_told tree) (target-at store session h g)

  -- ---- GetSecurity

  pub security-refused : (room status : ℕ) → Refuses store session h status → IsReadBy c s session (GetSecurity h room) (Refused status)
  unfolding early_query_cause late_query_cause
  security-refused room status r = refused s session c status (GetSecurity h room) (first _ _ _ status (r (λ x. refuse (not (has READ_CONTROL x.mask)) 5)))

  pub security-causes : (room mask : ℕ) (g : t) → mask ≡ g.handle.mask →
      query_cause s session (GetSecurity h room) c ≡ (refuse (not (has READ_CONTROL mask)) 5 or asked c or None)
  unfolding early_query_cause late_query_cause
  security-causes room mask g m =
      ap (λ (a : Option ℕ). a or asked c or None) (by_handle-at store session h g (λ x. refuse (not (has READ_CONTROL x.mask)) 5))
      ∙ ap (λ (k : ℕ). refuse (not (has READ_CONTROL k)) 5 or asked c or None) (sym m)

  pub security-due : (room : ℕ) (g : t) → body_of s session (GetSecurity h room) ≡ security_told (descriptor_of (get tree g.path)) room
  unfolding body_of
  security-due room g = ap (λ (q : Path). security_told (descriptor_of (get tree q)) room) (target-at store session h g)

-- ---- 8 in the place of bytes

-- no memory for a value's bytes, where there are some
pub value-lacks : (member : Member) (room : ℕ) → length member.bytes ≤ room → member.bytes ≢ [] → IsTold (value_told (Some member) (Some room)) (Refused 8)
value-lacks member room fits some = let b : nat_lt room (length member.bytes) ≡ false = grind (arith, nat_tests, fits) in rw b (inr (refl, some))

-- the same of a value that is enumerated
pub member-lacks : (member : Member) (name_room room : ℕ) → length member.name ≤ name_room → length member.bytes ≤ room → member.bytes ≢ [] →
    IsTold (member_told (Some member) name_room (Some room)) (Refused 8)
member-lacks member name_room room named fits some =
    let a : nat_lt name_room (length member.name) ≡ false = grind (arith, nat_tests, named) in
    let b : nat_lt room (length member.bytes) ≡ false = grind (arith, nat_tests, fits) in
    rw (a, b) (inr (refl, inr some))

-- what was found is the value of that name
pub record IsFoundAs (members : List Member) (o : Option Member) (found : ValueFound) : Type 0 where
  pub member : Member
  pub is : o ≡ Some member
  pub at_index : slice_get members found.index ≡ Some member
  pub kind : found.kind ≡ member.kind
  pub size : found.size ≡ length member.bytes
  pub within : found.index < length members

pub found_as : (members : List Member) (o : Option Member) (found : ValueFound) → IsFound members o (Some found) → IsFoundAs members o found
found_as members None found h = absurd h
found_as members (Some m) found h = record { member = m; is = refl; at_index = h.0; kind = h.1; size = h.2; within = slice_get_within members found.index m h.0 }

pub found_not : (members : List Member) (o : Option Member) → IsFound members o None → o ≡ None
found_not members None h = refl
found_not members (Some m) h = absurd h

-- a mask that has QUERY_VALUE, or ENUMERATE_SUB_KEYS
pub allowed_is : (mask : ℕ) → bit_and mask 1 ≡ 1 → has 1 mask ≡ true
allowed_is mask e = grind (arith, nat_tests)

pub enumerable_is : (mask : ℕ) → bit_and mask 8 ≡ 8 → has 8 mask ≡ true
enumerable_is mask e = grind (arith, nat_tests)

-- a tree made of its root has it
pub made-rooted : (t : Tree) (r : Rec) → t ≡ insert empty [] r → IsSome (get t [])
made-rooted t r e = subst (λ (x : Tree). IsSome (get x [])) (sym e) (has-put empty [] r)
