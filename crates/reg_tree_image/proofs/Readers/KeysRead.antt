-- A key that was come to, read, and as it is listed.
use Rattle.std.proofs.Common.{◌≡◌, ℕ, zero, suc, ◌+◌, ◌<◌, ◌≤◌, Option, Some, Result, Ok, Err, List, [], ◌∷◌, ◌++◌}
use Rattle.std.proofs.Common.{length, map, take, get_or, Vec, refl, sym, ap, ◌∙◌, subst, arith}
use Rattle.std.specs.Result.{IsErrAnd}
use Rattle.std.specs.List.Sorted.{IsPermutation, IsSortedBy}
use Rattle.std.specs.Ordering.{is_lt}
use Rattle.std.proofs.Math.Seq.{take-suc}
use Rattle.std.proofs.lemmas.List.{get_or-map, map_push, length-map}
use Rattle.std.proofs.lemmas.List.Sorted.{IsPermutation-map}
use Rattle.reg_names.specs.Names.{name_cmp}
use Rattle.reg_heap.specs.declared.limits.TheConstants.{DATA_LIMIT}
use Rattle.reg_heap.specs.Heaps.{Heap}
use Rattle.reg_heap.specs.Paths.{Member}
use Rattle.reg_heap.specs.Trees.{IsSmallValue}
use Rattle.reg_tree_image.specs.declared.LoadFault.{LoadFault}
use Rattle.reg_tree_image.specs.declared.table.CellState.{CellState}
use Rattle.reg_tree_image.specs.declared.path_walk.ReachedKey.{ReachedKey}
use Rattle.reg_tree_image.specs.declared.path_listing.ReadKey.{ReadKey}
use Rattle.reg_tree_image.specs.declared.values.ReadValue.{ReadValue}
use Rattle.reg_tree_image.specs.WalkSteps.{Seen, Step, ◌>>=◌, give}
use Rattle.reg_tree_image.specs.LoadingWalk.{values_from}
use Rattle.reg_tree_image.specs.KeyListing.{KeyRead, ListedMember, listed_member, AreInOrder, subkey_names, key_read, reached_read}
use Rattle.reg_tree_image.specs.KeysAtPaths.{names_in}
use Rattle.reg_tree_image.specs.Internal.CellStates.{IsTable}
use Rattle.reg_tree_image.specs.Internal.FitKeys.{AreNew, AreFit}
use Rattle.reg_tree_image.specs.Internal.KeysRead.{read_in, reading_in}
use Rattle.reg_tree_image.specs.Internal.NamedRecords.{member_in, members_in}
use Rattle.reg_tree_image.specs.Internal.ReachedKeys.{reached_of}
use Rattle.reg_tree_image.specs.Internal.ReaderOutcomes.{Follows, Outcome}
use Rattle.reg_tree_image.proofs.Readers.ReaderSteps.{follows-then, follows-err, exit-follows}
use Rattle.reg_tree_image.proofs.Readers.FewNames.{take-all}
use Rattle.reg_tree_image.proofs.Readers.PathSteps.{follows-give}

-- ---- a key read: its values, then the names of its subkeys

module _ (heap : Heap) (minor : ℕ) (key : ReachedKey) (above : List ℕ) (old : List CellState) (seen : Seen)
    (t : IsTable heap seen.found (key.offset ∷ above) old)
    {V W : Type 0} (members : V → List Member) (names : W → List (List ℕ)) (mid : List CellState) where
  abbrev path : List ℕ
  path = key.offset ∷ above

  abbrev values-step : Step (List Member)
  values-step = values_from heap minor path key.named.node.fields.values key.named.node.fields.values_list

  abbrev names-step : Step (List (List ℕ))
  names-step = subkey_names heap path [] key.named.node.fields.subkeys key.named.node.fields.subkeys_list

  abbrev both : List Member → List (List ℕ) → Step KeyRead
  both values subkeys = give (record { values = values; subkeys = subkeys })

  abbrev second : List Member → Step KeyRead
  second values = names-step >>= both values

  abbrev whole : Step KeyRead
  whole = key_read heap minor (reached_of above key)

  abbrev told : KeyRead → Step (Option KeyRead)
  told read = give (Some read)

  abbrev ItsReading : List CellState → Result (Option ReadKey) LoadFault → Type 0
  ItsReading new r = Outcome heap path reading_in (reached_read heap minor (Some (reached_of above key))) new seen r

  -- its values don't read
  pub values-exit : (fault : LoadFault) (r : Result (Option ReadKey) LoadFault) → IsErrAnd r (λ e. e ≡ fault) →
      Follows heap path members values-step old mid (Err fault) → ItsReading mid r
  values-exit fault r i f =
      exit-follows heap path read_in reading_in whole told old mid mid fault r i
      (follows-err heap path members read_in values-step second old mid mid fault f) seen t

  module _ (values : V) (f : Follows heap path members values-step old mid (Ok values)) (new : List CellState) where
    -- its subkeys don't
    pub names-exit : (fault : LoadFault) (r : Result (Option ReadKey) LoadFault) → IsErrAnd r (λ e. e ≡ fault) →
        Follows heap path names names-step mid new (Err fault) → ItsReading new r
    names-exit fault r i g =
        exit-follows heap path read_in reading_in whole told old new new fault r i
        (follows-then heap path members read_in values-step second old mid new values (Err fault) f
        (follows-err heap path names read_in names-step (both (members values)) mid new new fault g)) seen t

    pub key-is-read : (subkeys : W) → Follows heap path names names-step mid new (Ok subkeys) →
        (read : ReadKey) → read_in read ≡ record { values = members values; subkeys = names subkeys } → ItsReading new (Ok (Some read))
    key-is-read subkeys g read e =
        follows-then heap path read_in reading_in whole told old new new read (Ok (Some read))
        (follows-then heap path members read_in values-step second old mid new values (Ok read) f
        (follows-then heap path names read_in names-step (both (members values)) mid new new subkeys (Ok read) g
        (follows-give heap path read_in (record { values = members values; subkeys = names subkeys }) new read (sym e))))
        (follows-give heap path reading_in (Some (read_in read)) new (Some read) refl) seen t

-- ---- its subkeys' names in order

module _ {Y : Type 0} where
  mapped : (names : List (Vec ℕ Y)) → IsSortedBy (λ (a b : Vec ℕ Y). is_lt (name_cmp a.items b.items)) names →
      IsSortedBy (λ a b. is_lt (name_cmp a b)) (names_in names)
  mapped [] s k d low inside = absurd (omega (arith, inside))
  mapped (x ∷ xs) s k d low inside =
      let long = length-map (x ∷ xs) (λ (name : Vec ℕ Y). name.items) in
      let a = get_or-map (λ (name : Vec ℕ Y). name.items) (x ∷ xs) (k + 1) x d (omega (arith, long, inside)) in
      let b = get_or-map (λ (name : Vec ℕ Y). name.items) (x ∷ xs) k x d (omega (arith, long, inside)) in
      ap (λ name. is_lt (name_cmp name (get_or (names_in (x ∷ xs)) k d))) a
      ∙ (ap (λ name. is_lt (name_cmp (get_or (x ∷ xs) (k + 1) x).items name)) b ∙ s k x low (omega (arith, long, inside)))

  pub in-order : (old new : List (Vec ℕ Y)) → IsPermutation old new → IsSortedBy (λ (a b : Vec ℕ Y). is_lt (name_cmp a.items b.items)) new →
      AreInOrder (names_in old) (names_in new)
  in-order old new moved rising = record { moved = IsPermutation-map (λ (name : Vec ℕ Y). name.items) old new moved; rising = mapped new rising }

-- ---- its values as they are listed

small-at : (before : List Member) (values : List ReadValue) (index : ℕ) (d : ReadValue) → AreNew before (members_in values) → index < length values →
    IsSmallValue (member_in (get_or values index d))
small-at before [] index d a l = absurd (omega (arith, l))
small-at before (v ∷ values) zero d a l = a.0
small-at before (v ∷ values) (suc n) d a l = small-at (before ++ member_in v ∷ []) values n d a.2 (omega (arith, l))

pub small-one : (values : List ReadValue) (index : ℕ) (v d : ReadValue) → AreFit (members_in values) → index < length values → v ≡ get_or values index d →
    length (member_in v).bytes ≤ DATA_LIMIT
small-one values index v d fit l e =
    let small = small-at [] values index d fit.new l in
    subst (λ (w : ReadValue). length (member_in w).bytes ≤ DATA_LIMIT) (sym e) small.bytes

pub value-listed : (values : List ReadValue) (index : ℕ) (v d : ReadValue) (old new : List ListedMember) → index < length values → v ≡ get_or values index d →
    old ≡ map listed_member (members_in (take index values)) → new ≡ old ++ listed_member (member_in v) ∷ [] →
    new ≡ map listed_member (members_in (take (index + 1) values))
value-listed values index v d old new l e o n =
    n ∙ (ap (λ (ms : List ListedMember). ms ++ listed_member (member_in v) ∷ []) o
    ∙ (sym (map_push listed_member (members_in (take index values)) (member_in v))
    ∙ (ap (map listed_member) (sym (map_push member_in (take index values) v))
    ∙ (ap (λ (w : ReadValue). map listed_member (members_in (take index values ++ w ∷ []))) e
    ∙ (ap (λ (vs : List ReadValue). map listed_member (members_in vs)) (sym (take-suc values index d l)) ∙ ap (λ (n : ℕ). map listed_member (members_in
    (take n values))) next)))))
  where
    next : suc index ≡ index + 1
    next = omega arith

pub values-listed : (values : List ReadValue) (index : ℕ) (listed : List ListedMember) → length values ≤ index →
    listed ≡ map listed_member (members_in (take index values)) → listed ≡ map listed_member (members_in values)
values-listed values index listed l e = e ∙ ap (λ (vs : List ReadValue). map listed_member (members_in vs)) (take-all values index l)
