-- The names of a path, each looked for below the key that the others led to.
use Rattle.std.proofs.Common.{◌≡◌, ℕ, Option, Some, None, Result, Ok, Err, IfOk, IfErr, List, [], ◌∷◌, sym, ap, ◌∙◌, subst}
use Rattle.std.specs.Result.{IsErrAnd}
use Rattle.reg_heap.specs.Heaps.{Heap}
use Rattle.reg_heap.specs.Paths.{Member}
use Rattle.reg_records.specs.KeyNodes.{KeyRecord}
use Rattle.reg_tree_image.specs.declared.LoadFault.{LoadFault}
use Rattle.reg_tree_image.specs.declared.table.CellState.{CellState}
use Rattle.reg_tree_image.specs.declared.keys.NamedKey.{NamedKey}
use Rattle.reg_tree_image.specs.declared.path_walk.ReachedKey.{ReachedKey}
use Rattle.reg_tree_image.specs.declared.path_walk.FoundOnPath.{FoundOnPath}
use Rattle.reg_tree_image.specs.declared.values.ReadValue.{ReadValue}
use Rattle.reg_tree_image.specs.WalkSteps.{Seen, Step, ◌>>=◌, onward, give}
use Rattle.reg_tree_image.specs.LoadingWalk.{named_key}
use Rattle.reg_tree_image.specs.Images.{nothing}
use Rattle.reg_tree_image.specs.PathWalk.{Reached, go_on, subkey_from, reached_from, key_of_path, value_from, value_reached}
use Rattle.reg_tree_image.specs.Internal.CellStates.{IsTable}
use Rattle.reg_tree_image.specs.Internal.NamedRecords.{key_of}
use Rattle.reg_tree_image.specs.Internal.ReachedKeys.{reached_of, reached_in, value_found, found_in, Arrives}
use Rattle.reg_tree_image.specs.Internal.ReaderOutcomes.{IsDone, Fails, Outcome, Follows}
use Rattle.reg_tree_image.proofs.Readers.ReaderSteps.{fails-on, fails-same, follows-then, exit-follows}
use Rattle.reg_tree_image.proofs.Readers.PathSteps.{follows-give}

module _ (heap : Heap) (names : List (List ℕ)) (root : ℕ) where
  -- the walk came to this key, and goes on along the names that are left
  pub record IsOnPath (key : ReachedKey) (left : List (List ℕ)) (now : List CellState) : Type 0 where
    pub above : List ℕ
    pub after : Seen
    pub goes : key_of_path heap names root nothing ≡ reached_from heap left (reached_of above key) after
    pub table : IsTable heap after.found above now
    pub told : after.told ≡ []

  abbrev from-root : KeyRecord × List ℕ → Step (Option Reached)
  from-root head = reached_from heap names (record { offset = root; key = head.0; name = head.1; above = [] })

  -- the root
  pub root-named : (named : NamedKey) (new : List CellState) → IsDone heap [] (named_key heap [] root) nothing (key_of named) new →
      IsOnPath (record { offset = root; named = named }) names new
  root-named named new d = record { above = []; after = d.after; goes = ap (onward from-root) d.gives; table = d.table; told = d.told }

  -- what is known of a result
  abbrev ArrivesAt : List CellState → Result (Option ReachedKey) LoadFault → Type 0
  ArrivesAt new r = Arrives heap names root new r

  fails-here : (fault : LoadFault) (r : Result (Option ReachedKey) LoadFault) (new : List CellState) → IsErrAnd r (λ e. e ≡ fault) →
      Fails fault (key_of_path heap names root) nothing → ArrivesAt new r
  fails-here fault (Ok found) new i f = absurd i
  fails-here fault (Err e) new i f = ([], subst (λ e. Fails e (key_of_path heap names root) nothing) (sym i) f)

  pub root-exit : (new : List CellState) (fault : LoadFault) (r : Result (Option ReachedKey) LoadFault) → IsErrAnd r (λ e. e ≡ fault) →
      Fails fault (named_key heap [] root) nothing → ArrivesAt new r
  root-exit new fault r i f = fails-here fault r new i (fails-on fault (named_key heap [] root) from-root nothing f)

  module _ (key : ReachedKey) (left : List (List ℕ)) (now : List CellState) (on : IsOnPath key left now) where
    -- no name is left
    pub path-ends : left ≡ [] → ArrivesAt now (Ok (Some key))
    path-ends e = (
      on.above,
      record {
        after = on.after;
        gives = on.goes ∙ ap (λ (ns : List (List ℕ)). reached_from heap ns (reached_of on.above key) on.after) e;
        table = on.table;
        told = on.told;
      },
    )

    module _ (name : List ℕ) (more : List (List ℕ)) (is : left ≡ name ∷ more) where
      abbrev below-step : Step (Option Reached)
      below-step = subkey_from heap (key.offset ∷ on.above) name key.named.node.fields.subkeys key.named.node.fields.subkeys_list

      abbrev further : Option Reached → Step (Option Reached)
      further found = go_on found (reached_from heap more)

      goes-below : key_of_path heap names root nothing ≡ (below-step >>= further) on.after
      goes-below = on.goes ∙ ap (λ (ns : List (List ℕ)). reached_from heap ns (reached_of on.above key) on.after) is

      -- what is known of the search for the subkey
      abbrev FoundBelow : List CellState → Result (Option ReachedKey) LoadFault → Type 0
      FoundBelow new r = (above : List ℕ) (seen : Seen) → IsTable heap seen.found above now →
          Outcome heap (key.offset ∷ above) (reached_in (key.offset ∷ above))
          (subkey_from heap (key.offset ∷ above) name key.named.node.fields.subkeys key.named.node.fields.subkeys_list) new seen r

      -- it meets a fault
      pub below-exit : (new : List CellState) (fault : LoadFault) (r : Result (Option ReachedKey) LoadFault) → IsErrAnd r (λ e. e ≡ fault) →
          FoundBelow new (Err fault) → ArrivesAt new r
      below-exit new fault r i f =
          fails-here fault r new i
          (fails-same fault (key_of_path heap names root) (below-step >>= further) nothing on.after goes-below
          (fails-on fault below-step further on.after (f on.above on.after on.table)))

      -- there is no such subkey
      pub none-below : (new : List CellState) → FoundBelow new (Ok None) → ArrivesAt new (Ok None)
      none-below new f =
          let d = f on.above on.after on.table in (
            key.offset ∷ on.above,
            record { after = d.after; gives = goes-below ∙ ap (onward further) d.gives; table = d.table; told = d.told ∙ on.told },
          )

      -- there is
      pub one-below : (new : List CellState) (below : ReachedKey) → FoundBelow new (Ok (Some below)) → IsOnPath below more new
      one-below new below f =
          let d = f on.above on.after on.table in
          record {
            above = key.offset ∷ on.above;
            after = d.after;
            goes = goes-below ∙ ap (onward further) d.gives;
            table = d.table;
            told = d.told ∙ on.told;
          }

-- ---- a key's value

module _ (heap : Heap) (minor : ℕ) (name : List ℕ) (key : ReachedKey) (above : List ℕ) (old : List CellState) (seen : Seen)
    (t : IsTable heap seen.found (key.offset ∷ above) old)
    (new : List CellState) where
  abbrev value-step : Step (Option Member)
  value-step = value_from heap minor (key.offset ∷ above) name key.named.node.fields.values key.named.node.fields.values_list

  abbrev there : Option Member → Step (Option (Option Member))
  there value = give (Some value)

  abbrev ItsValue : Result FoundOnPath LoadFault → Type 0
  ItsValue r = Outcome heap (key.offset ∷ above) found_in (value_reached heap minor name (Some (reached_of above key))) new seen r

  -- it doesn't read
  pub value-not-read : (fault : LoadFault) (r : Result FoundOnPath LoadFault) → IsErrAnd r (λ e. e ≡ fault) →
      Follows heap (key.offset ∷ above) value_found value-step old new (Err fault) → ItsValue r
  value-not-read fault r i f = exit-follows heap (key.offset ∷ above) value_found found_in value-step there old new new fault r i f seen t

  -- it is there, or there is none
  pub value-there : (found : Option ReadValue) (told : FoundOnPath) → found_in told ≡ Some (value_found found) →
      Follows heap (key.offset ∷ above) value_found value-step old new (Ok found) → ItsValue (Ok told)
  value-there found told e f =
      follows-then heap (key.offset ∷ above) value_found found_in value-step there old new new found (Ok told) f
      (follows-give heap (key.offset ∷ above) found_in (Some (value_found found)) new told (sym e)) seen t

-- ---- what is read of a key that was come to

module _ (heap : Heap) (names : List (List ℕ)) (root : ℕ) {B X : Type 0} (to : Option Reached → Step B) (view : X → B) where
  abbrev whole : Step B
  whole = key_of_path heap names root >>= to

  -- there is no key
  pub no-key : (x : X) → ((seen : Seen) → to None seen ≡ Ok (view x, seen)) → (new : List CellState) → Arrives heap names root new (Ok None) →
      (after : Seen) × (whole nothing ≡ Ok (view x, after))
  no-key x none new a = (a.1.after, ap (onward to) a.1.gives ∙ none a.1.after)

  pub key-fails : {T : Type 0} (new : List CellState) (fault : LoadFault) (r : Result T LoadFault) → IsErrAnd r (λ e. e ≡ fault) →
      Arrives heap names root new (Err fault) →
      IfErr r (λ fault. Fails fault whole nothing)
  key-fails new fault (Ok x) i a = absurd i
  key-fails new fault (Err e) i a = subst (λ e. Fails e whole nothing) (sym i) (fails-on fault (key_of_path heap names root) to nothing a.1)

  module _ (mid : List CellState) (key : ReachedKey) (a : Arrives heap names root mid (Ok (Some key))) (new : List CellState) (r : Result X LoadFault)
      (v : (above : List ℕ) (seen : Seen) → IsTable heap seen.found above mid →
      Outcome heap (key.offset ∷ above) view (to (Some (reached_of above key))) new seen r) where
    abbrev here : Outcome heap (key.offset ∷ a.0) view (to (Some (reached_of a.0 key))) new a.1.after r
    here = v a.0 a.1.after a.1.table

    pub found-told : IfOk r (λ found. (after : Seen) × (whole nothing ≡ Ok (view found, after)))
    found-told = by r here
      where
        by : (r : Result X LoadFault) → Outcome heap (key.offset ∷ a.0) view (to (Some (reached_of a.0 key))) new a.1.after r →
            IfOk r (λ found. (after : Seen) × (whole nothing ≡ Ok (view found, after)))
        by (Ok found) d = (d.after, ap (onward to) a.1.gives ∙ d.gives)
        by (Err fault) d = tt

    pub found-fails : IfErr r (λ fault. Fails fault whole nothing)
    found-fails = by r here
      where
        by : (r : Result X LoadFault) → Outcome heap (key.offset ∷ a.0) view (to (Some (reached_of a.0 key))) new a.1.after r →
            IfErr r (λ fault. Fails fault whole nothing)
        by (Ok found) d = tt
        by (Err fault) d = fails-same fault whole (to (Some (reached_of a.0 key))) nothing a.1.after (ap (onward to) a.1.gives) d
