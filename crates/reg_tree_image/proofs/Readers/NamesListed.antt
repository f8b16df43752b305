-- The names of a key's subkeys, read one behind the other.
use Rattle.std.proofs.Common.{◌≡◌, ◌≢◌, ℕ, zero, suc, Result, Ok, Err, List, [], ◌∷◌, ◌++◌, refl, sym, ap, ◌∙◌, subst}
use Rattle.std.specs.Result.{IsErrAnd}
use Rattle.reg_heap.specs.Heaps.{Heap}
use Rattle.reg_records.specs.KeyNodes.{KeyRecord}
use Rattle.reg_records.specs.SubkeyLists.{Entry, Form, SubkeysList}
use Rattle.reg_records.specs.declared.lists.ListForm.TheVariants.{IndexRoot, IndexLeaf, FastLeaf, HashLeaf}
use Rattle.reg_tree_image.specs.declared.LoadFault.{LoadFault}
use Rattle.reg_tree_image.specs.declared.table.CellState.{CellState}
use Rattle.reg_tree_image.specs.declared.keys.NamedKey.{NamedKey}
use Rattle.reg_tree_image.specs.declared.list_part.ListPart.{ListPart}
use Rattle.reg_tree_image.specs.WalkSteps.{Step, ◌>>=◌, give}
use Rattle.reg_tree_image.specs.LoadingWalk.{named_key, leaf_from, list_from}
use Rattle.reg_tree_image.specs.KeyListing.{names_each, names_in_lists, names_as, subkey_names}
use Rattle.reg_tree_image.specs.Internal.ListParts.{entries_in, list_in}
use Rattle.reg_tree_image.specs.Internal.NamedRecords.{key_of}
use Rattle.reg_tree_image.specs.Internal.ReaderOutcomes.{Follows}
use Rattle.reg_tree_image.proofs.Readers.ReaderSteps.{follows-then, exit-follows}
use Rattle.reg_tree_image.proofs.Readers.PathSteps.{follows-give}

module _ (heap : Heap) (path : List ℕ) where
  -- what was put behind names is what the step gives
  abbrev pub Lists : Step (List (List ℕ)) → List CellState → List CellState → List (List ℕ) → Result (Unit {0}) LoadFault → Type 0
  Lists step old new names r = Follows heap path (λ (_ : Unit {0}). names) step old new r

  pub lists-give : (names : List (List ℕ)) (states : List CellState) → Lists (give names) states states names (Ok tt)
  lists-give names states = follows-give heap path (λ (_ : Unit {0}). names) names states tt refl

  -- ---- the keys of a list

  -- whoever follows the walk over what is left of the entries, behind the names so far, follows it over all
  abbrev pub IsLeft : List (List ℕ) → List Entry → List CellState → List (List ℕ) → List Entry → List CellState → Type 0
  IsLeft before whole old names rest now =
      (after : List (List ℕ)) (r : Result (Unit {0}) LoadFault) (new : List CellState) → Lists (names_each heap path names rest) now new after r →
      Lists (names_each heap path before whole) old new after r

  module _ (before : List (List ℕ)) (whole : List Entry) (old : List CellState) (names : List (List ℕ)) (rest : List Entry) (now : List CellState)
      (left : IsLeft before whole old names rest now) where
    -- none is left
    pub none-left : rest ≡ [] → Lists (names_each heap path before whole) old now names (Ok tt)
    none-left e = left names (Ok tt) now (subst (λ (es : List Entry). Lists (names_each heap path names es) now now names (Ok tt)) (sym e)
        (lists-give names now))

    module _ (entry : Entry) (more : List Entry) (is : rest ≡ entry ∷ more) where
      abbrev behind : KeyRecord × List ℕ → Step (List (List ℕ))
      behind head = names_each heap path (names ++ head.1 ∷ []) more

      onto : (after : List (List ℕ)) (r : Result (Unit {0}) LoadFault) (new : List CellState) → Lists
          (named_key heap path entry.offset >>= behind) now new after r →
          Lists (names_each heap path before whole) old new after r
      onto after r new f = left after r new (subst (λ (es : List Entry). Lists (names_each heap path names es) now new after r) (sym is) f)

      -- its record doesn't read
      pub key-exit : (after : List (List ℕ)) (mid : List CellState) (fault : LoadFault) (r : Result (Unit {0}) LoadFault) → IsErrAnd r (λ e. e ≡ fault) →
          Follows heap path key_of (named_key heap path entry.offset) now mid (Err fault) → Lists (names_each heap path before whole) old mid after r
      key-exit after mid fault r i f =
          onto after r mid (exit-follows heap path key_of (λ (_ : Unit {0}). after) (named_key heap path entry.offset) behind now mid mid fault r i f)

      -- its name was put behind the others
      pub key-listed : (mid : List CellState) (named : NamedKey) → Follows heap path key_of (named_key heap path entry.offset) now mid (Ok named) →
          (longer : List (List ℕ)) → longer ≡ names ++ (key_of named).1 ∷ [] → IsLeft before whole old longer more mid
      key-listed mid named f longer e after r new g =
          onto after r new
          (follows-then heap path key_of (λ (_ : Unit {0}). after) (named_key heap path entry.offset) behind now mid new named r f
          (subst (λ (ns : List (List ℕ)). Lists (names_each heap path ns more) mid new after r) e g))

  -- ---- the lists of an index root

  -- whoever follows the walk over what is left of the lists, behind the names so far, follows it over all
  abbrev pub AreListsLeft : List (List ℕ) → List Entry → List CellState → List (List ℕ) → List Entry → List CellState → Type 0
  AreListsLeft before whole old names rest now =
      (after : List (List ℕ)) (r : Result (Unit {0}) LoadFault) (new : List CellState) → Lists (names_in_lists heap path names rest) now new after r →
      Lists (names_in_lists heap path before whole) old new after r

  module _ (before : List (List ℕ)) (whole : List Entry) (old : List CellState) (names : List (List ℕ)) (rest : List Entry) (now : List CellState)
      (left : AreListsLeft before whole old names rest now) where
    -- none is left
    pub no-list-left : rest ≡ [] → Lists (names_in_lists heap path before whole) old now names (Ok tt)
    no-list-left e =
        left names (Ok tt) now (subst (λ (es : List Entry). Lists (names_in_lists heap path names es) now now names (Ok tt)) (sym e) (lists-give names now))

    module _ (entry : Entry) (more : List Entry) (is : rest ≡ entry ∷ more) where
      abbrev next : List (List ℕ) → Step (List (List ℕ))
      next longer = names_in_lists heap path longer more

      abbrev listed : SubkeysList → Step (List (List ℕ))
      listed list = names_each heap path names list.entries >>= next

      onto-list : (after : List (List ℕ)) (r : Result (Unit {0}) LoadFault) (new : List CellState) → Lists
          (leaf_from heap path entry.offset >>= listed) now new after r →
          Lists (names_in_lists heap path before whole) old new after r
      onto-list after r new f = left after r new (subst (λ (es : List Entry). Lists (names_in_lists heap path names es) now new after r) (sym is) f)

      -- it doesn't read
      pub list-exit : (after : List (List ℕ)) (mid : List CellState) (fault : LoadFault) (r : Result (Unit {0}) LoadFault) → IsErrAnd r (λ e. e ≡ fault) →
          Follows heap path list_in (leaf_from heap path entry.offset) now mid (Err fault) → Lists (names_in_lists heap path before whole) old mid after r
      list-exit after mid fault r i f =
          onto-list after r mid (exit-follows heap path list_in (λ (_ : Unit {0}). after) (leaf_from heap path entry.offset) listed now mid mid fault r i f)

      module _ (mid : List CellState) (list : ListPart) (f : Follows heap path list_in (leaf_from heap path entry.offset) now mid (Ok list))
          (longer : List (List ℕ)) (then-at : List CellState) where
        in-list : (after : List (List ℕ)) (r : Result (Unit {0}) LoadFault) (new : List CellState) →
            Lists (names_each heap path names (entries_in list) >>= next) mid new after r → Lists (names_in_lists heap path before whole) old new after r
        in-list after r new g =
            onto-list after r new
            (follows-then heap path list_in (λ (_ : Unit {0}). after) (leaf_from heap path entry.offset) listed now mid new list r f g)

        -- a key of it doesn't read
        pub names-exit : (after : List (List ℕ)) (fault : LoadFault) (r : Result (Unit {0}) LoadFault) → IsErrAnd r (λ e. e ≡ fault) →
            Lists (names_each heap path names (entries_in list)) mid then-at longer (Err fault) → Lists
            (names_in_lists heap path before whole) old then-at after r
        names-exit after fault r i g =
            in-list after r then-at
            (exit-follows heap path (λ (_ : Unit {0}). longer) (λ (_ : Unit {0}). after) (names_each heap path names
            (entries_in list)) next mid then-at then-at fault r i g)

        -- the names of its keys were put behind the others
        pub list-listed : Lists (names_each heap path names (entries_in list)) mid then-at longer (Ok tt) → AreListsLeft before whole old longer more then-at
        list-listed g after r new h =
            in-list after r new
            (follows-then heap path (λ (_ : Unit {0}). longer) (λ (_ : Unit {0}). after) (names_each heap path names
            (entries_in list)) next mid then-at new tt r g h)

  -- ---- a key's subkeys

  module _ (before : List (List ℕ)) (count offset : ℕ) where
    pub no-subkeys : (states : List CellState) → count ≡ 0 → Lists (subkey_names heap path before count offset) states states before (Ok tt)
    no-subkeys states e =
        subst (λ (n : ℕ). Lists (subkey_names heap path before n offset) states states before (Ok tt)) (sym e) (lists-give before states)

    module _ (some : count ≡ 0 → ⊥) (old : List CellState) (after : List (List ℕ)) where
      abbrev as-listed : SubkeysList → Step (List (List ℕ))
      as-listed list = names_as heap path before list.entries list.form

      any : (new : List CellState) (r : Result (Unit {0}) LoadFault) → Lists (list_from heap path offset >>= as-listed) old new after r →
          Lists (subkey_names heap path before count offset) old new after r
      any new r f = by count some
        where
          by : (n : ℕ) → (n ≡ 0 → ⊥) → Lists (subkey_names heap path before n offset) old new after r
          by zero s = absurd (s refl)
          by (suc n) s = f

      -- the list doesn't read
      pub subkeys-exit : (mid : List CellState) (fault : LoadFault) (r : Result (Unit {0}) LoadFault) → IsErrAnd r (λ e. e ≡ fault) →
          Follows heap path list_in (list_from heap path offset) old mid (Err fault) → Lists (subkey_names heap path before count offset) old mid after r
      subkeys-exit mid fault r i f =
          any mid r (exit-follows heap path list_in (λ (_ : Unit {0}). after) (list_from heap path offset) as-listed old mid mid fault r i f)

      module _ (mid : List CellState) (list : ListPart) (f : Follows heap path list_in (list_from heap path offset) old mid (Ok list)) (new : List CellState)
          (r : Result (Unit {0}) LoadFault) where
        in-form : Lists (names_as heap path before (entries_in list) list.form) mid new after r → Lists
            (subkey_names heap path before count offset) old new after r
        in-form g = any new r (follows-then heap path list_in (λ (_ : Unit {0}). after) (list_from heap path offset) as-listed old mid new list r f g)

        -- it is an index root
        pub in-root : list.form ≡ IndexRoot → Lists (names_in_lists heap path before (entries_in list)) mid new after r →
            Lists (subkey_names heap path before count offset) old new after r
        in-root e g = in-form (subst (λ (form : Form). Lists (names_as heap path before (entries_in list) form) mid new after r) (sym e) g)

        -- it is a list of keys
        pub in-leaf : list.form ≢ IndexRoot → Lists (names_each heap path before (entries_in list)) mid new after r →
            Lists (subkey_names heap path before count offset) old new after r
        in-leaf n g = in-form (by list.form n)
          where
            by : (form : Form) → form ≢ IndexRoot → Lists (names_as heap path before (entries_in list) form) mid new after r
            by IndexRoot n = absurd (n refl)
            by IndexLeaf n = g
            by FastLeaf n = g
            by HashLeaf n = g

-- ---- names that were put behind none, handed on

module _ (heap : Heap) (path : List ℕ) {V : Type 0} (view : V → List (List ℕ)) (before after : List (List ℕ)) (none : before ≡ []) (count offset : ℕ)
    (old new : List CellState) where
  pub handed-exit : (fault : LoadFault) (r : Result V LoadFault) → IsErrAnd r (λ e. e ≡ fault) →
      Lists heap path (subkey_names heap path before count offset) old new after (Err fault) → Follows heap path view
      (subkey_names heap path [] count offset) old new r
  handed-exit fault (Ok names) i f = absurd i
  handed-exit fault (Err e) i f =
      subst (λ (e : LoadFault). Follows heap path view (subkey_names heap path [] count offset) old new (Err e)) (sym i)
      (subst (λ (b : List (List ℕ)). Follows heap path view (subkey_names heap path b count offset) old new (Err fault)) none f)

  pub handed-on : (names : V) → view names ≡ after → Lists heap path (subkey_names heap path before count offset) old new after (Ok tt) →
      Follows heap path view (subkey_names heap path [] count offset) old new (Ok names)
  handed-on names e f seen t =
      let d = subst (λ (b : List (List ℕ)). Lists heap path (subkey_names heap path b count offset) old new after (Ok tt)) none f seen t in
      record { after = d.after; gives = d.gives ∙ ap (λ (ns : List (List ℕ)). Ok (ns, d.after)) (sym e); table = d.table; told = d.told }
