-- A key that is checked and not built: from the steps that were read to what is left of it.
use Rattle.std.proofs.Common.{◌≡◌, ℕ, suc, ◌||◌, not, Bool, true, false, Option, None, Some, is_some, Result, Ok, Err, IsOk, List, ◌∷◌, inl, inr, refl, sym, ap, ◌∙◌, subst}
use Rattle.std.specs.Result.{IsErrAnd, MatchResult}
use Rattle.std.specs.FinMap.{get, from_entries}
use Rattle.std.specs.Cow.{cow_slice_items}
use Rattle.reg_heap.specs.Paths.{Path, Rec, path_cmp}
use Rattle.reg_heap.specs.Edits.{child_path}
use Rattle.reg_heap.specs.Heaps.{Heap}
use Rattle.reg_heap.specs.Members.{same_name}
use Rattle.reg_records.specs.KeyNodes.{KeyRecord}
use Rattle.reg_tree_image.specs.declared.LoadFault.{LoadFault}
use Rattle.reg_tree_image.specs.declared.LoadFault.TheVariants.{Twice, Limit, Memory}
use Rattle.reg_tree_image.specs.declared.table.CellState.{CellState}
use Rattle.reg_tree_image.specs.declared.keys.NamedKey.{NamedKey}
use Rattle.reg_tree_image.specs.declared.key_parts.KeyParts.{KeyParts}
use Rattle.reg_tree_image.specs.declared.subkeys.SubkeyParts.{SubkeyParts}
use Rattle.reg_tree_image.specs.declared.sibling_names.SiblingNames.{SiblingNames}
use Rattle.reg_tree_image.specs.WalkSteps.{Seen, Step, onward, give, check}
use Rattle.reg_tree_image.specs.LoadingWalk.{is_free, named_key, head_from, parts_from, key_from}
use Rattle.reg_tree_image.specs.FaultPlaces.{key_spot}
use Rattle.reg_tree_image.specs.Internal.CellStates.{IsTable}
use Rattle.reg_tree_image.specs.Internal.ListParts.{entries_in}
use Rattle.reg_tree_image.specs.Internal.NamedRecords.{key_of, parts_in}
use Rattle.reg_tree_image.specs.Internal.ReaderOutcomes.{IsDone, Fails, Gives}
use Rattle.reg_tree_image.specs.Internal.BegunKeys.{Stops, told_as, IsListed, Lists}
use Rattle.reg_tree_image.specs.Internal.Stacks.{FailsAs}
use Rattle.reg_tree_image.specs.Internal.CheckedStacks.{Meets, has_met, AreSiblings, IsChecked}
use Rattle.reg_tree_image.proofs.Readers.SiblingTests.{free-is}
use Rattle.reg_tree_image.proofs.Readers.BegunSteps.{stops-bind, head-is, head-done, head-stops, head-fails, parts-fail, told_then, begun, rest-gives, told-are, list-fails}
use Rattle.reg_tree_image.proofs.Readers.SpotSteps.{spot-left}
use Rattle.reg_tree_image.proofs.WalkedBack.KeyOffsets.{head-keys, rest-keys, listed-keys}

-- ---- faults

-- where no key is built, no fault comes of that
pub only-meets : (fault : LoadFault) (whole : Result (Unit {0} × Seen) LoadFault) → FailsAs ⊥ fault whole → Meets fault whole
only-meets Memory whole f = tt
only-meets Limit whole (inl e) = e
only-meets Limit whole (inr k) = absurd k
only-meets fault whole e = e

-- the exit of a `?`
pub meets-exit : {T : Type 0} (P : T → Type 0) (whole : Result (Unit {0} × Seen) LoadFault) (fault : LoadFault) (r : Result T LoadFault) →
    IsErrAnd r (λ e. e ≡ fault) → Meets fault whole → MatchResult r P (λ fault. Meets fault whole)
meets-exit P whole fault (Ok x) i f = absurd i
meets-exit P whole fault (Err e) i f = subst (λ e. Meets e whole) (sym i) f

module _ (heap : Heap) (minor levels : ℕ) (path : List ℕ) (here : List ℕ → Path) (offset : ℕ) (seen : Seen) where
  abbrev Whole : LoadFault → Type 0
  Whole fault = Meets fault (key_from heap minor levels path here offset seen)

  -- ---- the head

  stopped : (fault : LoadFault) → Stops levels fault (head_from heap path here offset seen) → Whole fault
  stopped fault s = only-meets fault _ (head-fails heap minor levels path here offset seen fault ⊥ s)

  pub not-named : (fault : LoadFault) → Fails fault (named_key heap path offset) seen → Whole fault
  not-named fault f = stopped fault (head-stops heap levels path here offset seen fault f)

  module _ (siblings : SiblingNames) (are : AreSiblings here seen.told siblings) (named : NamedKey) (states : List CellState)
      (done : IsDone heap path (named_key heap path offset) seen (key_of named) states) where
    abbrev given : List ℕ
    given = cow_slice_items named.name

    abbrev at : Path
    at = here given

    free-by : is_free at seen.told ≡ not (has_met siblings given)
    free-by = are given

    -- a sibling has its name, or memory lacks for it
    pub new-stops : (fault : LoadFault) → Gives {X = Unit {0}} (λ _. tt) (check Twice (not (has_met siblings given))) (Err fault) →
        Stops levels fault (head_from heap path here offset seen)
    new-stops fault g =
        let asked : check Twice (is_free at done.after.told) done.after ≡ check Twice (not (has_met siblings given)) done.after =
        ap (λ b. check Twice b done.after) (ap (is_free at) done.told ∙ free-by) in
        let head : head_from heap path here offset seen ≡ onward (λ _. give (key_of named)) (check Twice (not (has_met siblings given)) done.after) =
        head-is heap path here offset seen named states done ∙ ap (onward (λ _. give (key_of named))) asked in
        subst (λ r. Stops levels fault r) (sym head)
        (stops-bind levels fault (check Twice (not (has_met siblings given))) (λ _. give (key_of named)) done.after (g done.after))

    pub not-new : (fault : LoadFault) → Gives {X = Unit {0}} (λ _. tt) (check Twice (not (has_met siblings given))) (Err fault) → Whole fault
    not-new fault g = stopped fault (new-stops fault g)

    -- none has
    passed : (b : Bool) → check Twice b seen ≡ Ok (tt, seen) → b ≡ true
    passed true e = refl
    passed false e = absurd (cc)

    pub new-free : Gives {X = Unit {0}} (λ _. tt) (check Twice (not (has_met siblings given))) (Ok tt) → is_free at seen.told ≡ true
    new-free g = free-by ∙ passed (not (has_met siblings given)) (g seen)

    none-there : (o : Option Rec) → not (is_some o) ≡ true → o ≡ None
    none-there None e = refl
    none-there (Some r) e = absurd (cc)

    pub head-new : is_free at seen.told ≡ true → IsDone heap path (head_from heap path here offset) seen (key_of named) states
    head-new free =
        head-done heap path here offset seen named states done
        (none-there (get (from_entries {R = path_cmp} seen.told) at) (sym (free-is at seen.told) ∙ free))

  module _ (named : NamedKey) (mid : List CellState)
      (head : IsDone heap path (head_from heap path here offset) seen (key_of named) mid) where
    -- no level is left for it
    pub deep-stops : levels ≡ 0 → Stops levels Limit (head_from heap path here offset seen)
    deep-stops z = inr (z, subst (λ (r : Result ((KeyRecord × List ℕ) × Seen) LoadFault). IsOk r) (sym head.gives) refl)

    pub too-deep : levels ≡ 0 → Whole Limit
    too-deep z = stopped Limit (deep-stops z)

    -- ---- the key behind its head

    module _ (lower : ℕ) (level : levels ≡ suc lower) where
      abbrev WholeOf : LoadFault → ℕ → Type 0
      WholeOf fault n = Meets fault (key_from heap minor n path here offset seen)

      abbrev below : ℕ → Step (Unit {0})
      below = key_from heap minor lower (offset ∷ path) (child_path (here (cow_slice_items named.name)))

      abbrev ListsAny : List CellState → List CellState → Result SubkeyParts LoadFault → Type 0
      ListsAny next last r = (go : ℕ → Step (Unit {0})) (seen : Seen) → IsTable heap seen.found (offset ∷ path) next →
          Lists heap (offset ∷ path) go named.node.fields.subkeys named.node.fields.subkeys_list seen last r

      pub not-read : (fault : LoadFault) → Fails fault (parts_from heap minor (offset ∷ path) named.node.fields) head.after → Whole fault
      not-read fault f =
          subst (WholeOf fault) (sym level)
          (only-meets fault _ (parts-fail heap minor lower path here offset seen named mid head ⊥ fault f))

      module _ (parts : KeyParts) (next : List CellState)
          (own : IsDone heap (offset ∷ path) (parts_from heap minor (offset ∷ path) named.node.fields) head.after (parts_in parts) next)
          (last : List CellState) where
        pub not-listed : (fault : LoadFault) → ListsAny next last (Err fault) → Whole fault
        not-listed fault l =
            subst (WholeOf fault) (sym level)
            (only-meets fault _ (list-fails heap minor lower path here offset seen named mid head parts next own last ⊥ fault
            (l below (told_then heap minor lower path here offset seen named mid head parts next own) own.table)))

        pub is-checked : (subkeys : SubkeyParts) → ListsAny next last (Ok subkeys) → is_free (here (cow_slice_items named.name)) seen.told ≡ true →
            (old new names : SiblingNames) → ((other : List ℕ) → has_met new other ≡ (has_met old other || same_name (cow_slice_items named.name) other)) →
            ((other : List ℕ) → has_met names other ≡ false) → (left : ℕ) → left ≡ lower →
            IsChecked heap minor levels path here offset seen last old new
            (record { offset = offset; levels = left; count = 0; names = names; leaf = subkeys.leaf; lists = subkeys.lists })
        is-checked subkeys lists free old new names one none left its =
            let l : IsListed heap (offset ∷ path) below named.node.fields.subkeys named.node.fields.subkeys_list
            (told_then heap minor lower path here offset seen named mid head parts next own) last subkeys =
            lists below (told_then heap minor lower path here offset seen named mid head parts next own) own.table in
            record {
              lower = lower;
              levels_are = level;
              after = l.after;
              name = cow_slice_items named.name;
              rec = told_as named parts;
              free = free;
              told = l.told ∙ told-are heap minor lower path here offset seen named mid head parts next own;
              offset_is = refl;
              level_is = its;
              count_is = refl;
              none = none;
              one = one;
              table = l.table;
              rest = ap (λ n. key_from heap minor n path here offset seen) level
                  ∙ (begun heap minor lower path here offset seen named mid head parts next own ∙ l.rest);
              keys = λ new.
                  listed-keys heap (offset ∷ path) below named.node.fields.subkeys named.node.fields.subkeys_list
                  (told_then heap minor lower path here offset seen named mid head parts next own) last subkeys l
                  ∙ (rest-keys heap minor new (offset ∷ path) (here (cow_slice_items named.name)) (key_of named).0 (cow_slice_items named.name) head.after tt (told_then heap minor lower path here offset seen named mid head parts next own)
                  (rest-gives heap minor lower path here offset seen named mid head parts next own)
                  ∙ head-keys heap minor new path here offset seen (key_of named) head.after head.gives);
              spot = ap (λ n. key_spot heap minor n path here offset seen) level
                  ∙ spot-left heap minor lower path here offset seen named mid head parts next own l.after (entries_in subkeys.leaf)
                  (entries_in subkeys.lists) l.source;
            }
