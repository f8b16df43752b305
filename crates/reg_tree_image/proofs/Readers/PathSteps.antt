-- Keys of a name, looked for one after another.
use Rattle.std.proofs.Common.{◌≡◌, ◌≢◌, ℕ, zero, suc, Bool, true, false, Option, Some, None, Result, Ok, Err, List, [], ◌∷◌, refl, sym, ap, subst}
use Rattle.std.specs.Result.{IsErrAnd}
use Rattle.reg_heap.specs.Heaps.{Heap}
use Rattle.reg_heap.specs.Members.{same_name}
use Rattle.reg_records.specs.KeyNodes.{KeyRecord}
use Rattle.reg_records.specs.SubkeyLists.{Entry, Form, SubkeysList}
use Rattle.reg_records.specs.declared.lists.ListForm.TheVariants.{IndexRoot, IndexLeaf, FastLeaf, HashLeaf}
use Rattle.reg_tree_image.specs.declared.LoadFault.{LoadFault}
use Rattle.reg_tree_image.specs.declared.table.CellState.{CellState}
use Rattle.reg_tree_image.specs.declared.keys.NamedKey.{NamedKey}
use Rattle.reg_tree_image.specs.declared.list_part.ListPart.{ListPart}
use Rattle.reg_tree_image.specs.declared.path_walk.ReachedKey.{ReachedKey}
use Rattle.reg_tree_image.specs.WalkSteps.{Step, ◌>>=◌, give}
use Rattle.reg_tree_image.specs.LoadingWalk.{named_key, leaf_from, list_from}
use Rattle.reg_tree_image.specs.PathWalk.{Reached, or_else, either, key_among, key_in_lists, key_as, subkey_from}
use Rattle.reg_tree_image.specs.Internal.ListParts.{entries_in, list_in}
use Rattle.reg_tree_image.specs.Internal.NamedRecords.{key_of}
use Rattle.reg_tree_image.specs.Internal.ReachedKeys.{reached_of, reached_in}
use Rattle.reg_tree_image.specs.Internal.ReaderOutcomes.{Follows}
use Rattle.reg_tree_image.proofs.Readers.ReaderSteps.{follows-then, exit-follows}

-- a result, for which nothing is named
pub follows-give : {X A : Type 0} (heap : Heap) (path : List ℕ) (view : X → A) (v : A) (states : List CellState) (x : X) → v ≡ view x →
    Follows heap path view (give v) states states (Ok x)
follows-give heap path view v states x e seen t = record { after = seen; gives = ap (λ a. Ok (a, seen)) e; table = t; told = refl }

-- one of two steps
pub follows-either : {X A : Type 0} (heap : Heap) (path : List ℕ) (view : X →
    A) (test b : Bool) (this other : Step A) (old new : List CellState) (r : Result X LoadFault) →
    test ≡ b → Follows heap path view (either b this other) old new r → Follows heap path view (either test this other) old new r
follows-either heap path view test b this other old new r e f = subst (λ (t : Bool). Follows heap path view (either t this other) old new r) (sym e) f

module _ (heap : Heap) (path : List ℕ) (name : List ℕ) where
  abbrev pub Finds : Step (Option Reached) → List CellState → List CellState → Result (Option ReachedKey) LoadFault → Type 0
  Finds step old new r = Follows heap path (reached_in path) step old new r

  abbrev pub found_key : ℕ → NamedKey → ReachedKey
  found_key offset named = record { offset = offset; named = named }

  -- ---- the keys of a list

  -- whoever follows the walk over what is left of the entries follows it over all
  abbrev pub IsLeft : List Entry → List CellState → List Entry → List CellState → Type 0
  IsLeft whole old rest now =
      (r : Result (Option ReachedKey) LoadFault) (new : List CellState) → Finds (key_among heap path name rest) now new r →
      Finds (key_among heap path name whole) old new r

  module _ (whole : List Entry) (old : List CellState) (rest : List Entry) (now : List CellState) (left : IsLeft whole old rest now) where
    -- none is left
    pub none-left : rest ≡ [] → Finds (key_among heap path name whole) old now (Ok None)
    none-left e = left (Ok None) now (subst (λ (es : List Entry). Finds (key_among heap path name es) now now (Ok None)) (sym e)
        (follows-give heap path (reached_in path) None now None refl))

    module _ (entry : Entry) (more : List Entry) (is : rest ≡ entry ∷ more) where
      abbrev if-named : KeyRecord × List ℕ → Step (Option Reached)
      if-named head = either (same_name head.1 name) (give (Some (record { offset = entry.offset; key = head.0; name = head.1; above = path })))
          (key_among heap path name more)

      onto : (new : List CellState) (r : Result (Option ReachedKey) LoadFault) → Finds (named_key heap path entry.offset >>= if-named) now new r →
          Finds (key_among heap path name whole) old new r
      onto new r f = left r new (subst (λ (es : List Entry). Finds (key_among heap path name es) now new r) (sym is) f)

      -- its record doesn't read
      pub key-exit : (mid : List CellState) (fault : LoadFault) (r : Result (Option ReachedKey) LoadFault) → IsErrAnd r (λ e. e ≡ fault) →
          Follows heap path key_of (named_key heap path entry.offset) now mid (Err fault) → Finds (key_among heap path name whole) old mid r
      key-exit mid fault r i f = onto mid r (exit-follows heap path key_of (reached_in path) (named_key heap path entry.offset) if-named now mid mid fault r i
          f)

      module _ (mid : List CellState) (named : NamedKey) (f : Follows heap path key_of (named_key heap path entry.offset) now mid (Ok named)) where
        then : (new : List CellState) (r : Result (Option ReachedKey) LoadFault) → Finds (if-named (key_of named)) mid new r →
            Finds (key_among heap path name whole) old new r
        then new r g = onto new r (follows-then heap path key_of (reached_in path) (named_key heap path entry.offset) if-named now mid new named r f g)

        -- it is the one
        pub key-found : same_name (key_of named).1 name ≡ true → Finds (key_among heap path name whole) old mid (Ok (Some (found_key entry.offset named)))
        key-found e =
            let found : Option ReachedKey = Some (found_key entry.offset named) in
            then mid (Ok found)
            (follows-either heap path (reached_in path) (same_name (key_of named).1 name) true (give (reached_in path found)) (key_among heap path name more)
            mid mid (Ok found) e
            (follows-give heap path (reached_in path) (reached_in path found) mid found refl))

        -- it is another
        pub key-passed : same_name (key_of named).1 name ≡ false → IsLeft whole old more mid
        key-passed e r new g =
            then new r
            (follows-either heap path (reached_in path) (same_name (key_of named).1 name) false (give (reached_in path (Some (found_key entry.offset named))))
            (key_among heap path name more)
            mid new r e g)

  -- ---- the lists of an index root

  -- whoever follows the walk over what is left of the lists follows it over all
  abbrev pub AreListsLeft : List Entry → List CellState → List Entry → List CellState → Type 0
  AreListsLeft whole old rest now =
      (r : Result (Option ReachedKey) LoadFault) (new : List CellState) → Finds (key_in_lists heap path name rest) now new r →
      Finds (key_in_lists heap path name whole) old new r

  module _ (whole : List Entry) (old : List CellState) (rest : List Entry) (now : List CellState) (left : AreListsLeft whole old rest now) where
    -- none is left
    pub no-list-left : rest ≡ [] → Finds (key_in_lists heap path name whole) old now (Ok None)
    no-list-left e =
        left (Ok None) now (subst (λ (es : List Entry). Finds (key_in_lists heap path name es) now now (Ok None)) (sym e)
        (follows-give heap path (reached_in path) None now None refl))

    module _ (entry : Entry) (more : List Entry) (is : rest ≡ entry ∷ more) where
      abbrev next : Option Reached → Step (Option Reached)
      next found = or_else found (key_in_lists heap path name more)

      abbrev searched : SubkeysList → Step (Option Reached)
      searched list = key_among heap path name list.entries >>= next

      onto-list : (new : List CellState) (r : Result (Option ReachedKey) LoadFault) → Finds (leaf_from heap path entry.offset >>= searched) now new r →
          Finds (key_in_lists heap path name whole) old new r
      onto-list new r f = left r new (subst (λ (es : List Entry). Finds (key_in_lists heap path name es) now new r) (sym is) f)

      -- it doesn't read
      pub list-exit : (mid : List CellState) (fault : LoadFault) (r : Result (Option ReachedKey) LoadFault) → IsErrAnd r (λ e. e ≡ fault) →
          Follows heap path list_in (leaf_from heap path entry.offset) now mid (Err fault) → Finds (key_in_lists heap path name whole) old mid r
      list-exit mid fault r i f = onto-list mid r (exit-follows heap path list_in (reached_in path) (leaf_from heap path entry.offset) searched now mid mid
          fault r i f)

      module _ (mid : List CellState) (list : ListPart) (f : Follows heap path list_in (leaf_from heap path entry.offset) now mid (Ok list))
          (then-at : List CellState) where
        in-list : (new : List CellState) (r : Result (Option ReachedKey) LoadFault) → Finds (key_among heap path name (entries_in list) >>= next) mid new r →
            Finds (key_in_lists heap path name whole) old new r
        in-list new r g = onto-list new r (follows-then heap path list_in (reached_in path) (leaf_from heap path entry.offset) searched now mid new list r f g)

        -- a key of it doesn't read
        pub search-exit : (fault : LoadFault) (r : Result (Option ReachedKey) LoadFault) → IsErrAnd r (λ e. e ≡ fault) →
            Finds (key_among heap path name (entries_in list)) mid then-at (Err fault) → Finds (key_in_lists heap path name whole) old then-at r
        search-exit fault r i g =
            in-list then-at r (exit-follows heap path (reached_in path) (reached_in path) (key_among heap path name (entries_in list)) next mid then-at
            then-at fault r i g)

        module _ (found : Option ReachedKey) (g : Finds (key_among heap path name (entries_in list)) mid then-at (Ok found)) where
          behind : (new : List CellState) (r : Result (Option ReachedKey) LoadFault) → Finds (next (reached_in path found)) then-at new r →
              Finds (key_in_lists heap path name whole) old new r
          behind new r h =
              in-list new r
              (follows-then heap path (reached_in path) (reached_in path) (key_among heap path name (entries_in list)) next mid then-at new found r g h)

          -- the key is in it
          pub search-found : (key : ReachedKey) → found ≡ Some key → Finds (key_in_lists heap path name whole) old then-at (Ok (Some key))
          search-found key e =
              behind then-at (Ok (Some key))
              (subst (λ (o : Option ReachedKey). Finds (next (reached_in path o)) then-at then-at (Ok (Some key))) (sym e)
              (follows-give heap path (reached_in path) (Some (reached_of path key)) then-at (Some key) refl))

          -- the key isn't in it
          pub search-passed : found ≡ None → AreListsLeft whole old more then-at
          search-passed e r new h = behind new r (subst (λ (o : Option ReachedKey). Finds (next (reached_in path o)) then-at new r) (sym e) h)

  -- ---- a key's subkeys

  module _ (count offset : ℕ) where
    pub no-subkeys : (states : List CellState) → count ≡ 0 → Finds (subkey_from heap path name count offset) states states (Ok None)
    no-subkeys states e =
        subst (λ (n : ℕ). Finds (subkey_from heap path name n offset) states states (Ok None)) (sym e)
        (follows-give heap path (reached_in path) None states None refl)

    module _ (some : count ≡ 0 → ⊥) (old : List CellState) where
      abbrev as-told : SubkeysList → Step (Option Reached)
      as-told list = key_as heap path name list.entries list.form

      listed : (new : List CellState) (r : Result (Option ReachedKey) LoadFault) → Finds (list_from heap path offset >>= as-told) old new r →
          Finds (subkey_from heap path name count offset) old new r
      listed new r f = by count some
        where
          by : (n : ℕ) → (n ≡ 0 → ⊥) → Finds (subkey_from heap path name n offset) old new r
          by zero s = absurd (s refl)
          by (suc n) s = f

      -- the list doesn't read
      pub subkeys-exit : (mid : List CellState) (fault : LoadFault) (r : Result (Option ReachedKey) LoadFault) → IsErrAnd r (λ e. e ≡ fault) →
          Follows heap path list_in (list_from heap path offset) old mid (Err fault) → Finds (subkey_from heap path name count offset) old mid r
      subkeys-exit mid fault r i f = listed mid r (exit-follows heap path list_in (reached_in path) (list_from heap path offset) as-told old mid mid fault r i
          f)

      module _ (mid : List CellState) (list : ListPart) (f : Follows heap path list_in (list_from heap path offset) old mid (Ok list)) (new : List CellState)
          (r : Result (Option ReachedKey) LoadFault) where
        in-form : Finds (key_as heap path name (entries_in list) list.form) mid new r → Finds (subkey_from heap path name count offset) old new r
        in-form g = listed new r (follows-then heap path list_in (reached_in path) (list_from heap path offset) as-told old mid new list r f g)

        -- it is an index root
        pub in-root : list.form ≡ IndexRoot → Finds (key_in_lists heap path name (entries_in list)) mid new r →
            Finds (subkey_from heap path name count offset) old new r
        in-root e g = in-form (subst (λ (form : Form). Finds (key_as heap path name (entries_in list) form) mid new r) (sym e) g)

        -- it is a list of keys
        pub in-leaf : list.form ≢ IndexRoot → Finds (key_among heap path name (entries_in list)) mid new r →
            Finds (subkey_from heap path name count offset) old new r
        in-leaf n g = in-form (by list.form n)
          where
            by : (form : Form) → form ≢ IndexRoot → Finds (key_as heap path name (entries_in list) form) mid new r
            by IndexRoot n = absurd (n refl)
            by IndexLeaf n = g
            by FastLeaf n = g
            by HashLeaf n = g
