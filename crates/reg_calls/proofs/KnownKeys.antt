-- The nodes of the keys that handles lead to stay known.
use Rattle.std.proofs.Common.{◌≡◌, ◌≢◌, ℕ, Bool, true, false, cond, List, Option, Some, None, is_some, refl, sym, ap, ◌∙◌, subst}
use Rattle.std.specs.Prelude.{bytes_eq, unwrap_or, Err}
use Rattle.std.specs.Cmp.Lexicographic.{bytes_decides}
use Rattle.std.proofs.lemmas.Bool.{cond-true, cond-false, false≢true}
use Rattle.std.proofs.lemmas.Cmp.{nat_list_eq_equiv}
use Rattle.reg_names.specs.Names.{path_of}
use Rattle.reg_heap.specs.Paths.{Path}
use Rattle.reg_heap.proofs.ChildrenOfPath.{path-is}
use Rattle.reg_model.specs.Worlds.{Handle, At, numbered, same_path}
use Rattle.reg_handles.specs.HandleTables.{Table, payload_on, leads_there, is_open}
use Rattle.reg_handles.proofs.PathTextKeys.{path_of-one, same_path-texts}
use Rattle.reg_notify.specs.Tables.{Table as Watches}
use Rattle.reg_tree.specs.TreeKeys.{Keys, IsAt, KeepsNodes}
use Rattle.reg_tree.specs.declared.node.Node.{Node}
use Rattle.reg_model.specs.declared.call.Change.{Change}
use Rattle.reg_calls.specs.declared.store.Store.{Store}
use Rattle.reg_calls.specs.declared.lack.Lack.{Lack}
use Rattle.reg_calls.specs.declared.lack.Lack.TheVariants.{Space, Memory as Short}
use Rattle.reg_calls.specs.declared.store.JournalEnd.{JournalEnd}
use Rattle.reg_calls.specs.Internal.Stores.{KnowsKeys, IsUnchanged, IsMade}

some_one : (a b : Node) → Some a ≡ Some b → a ≡ b
some_one a b e = cc

none_some : (o : Option Node) (a : Node) → o ≡ None → o ≡ Some a → ⊥
none_some None a e f = absurd (cc)
none_some (Some x) a e f = absurd (cc)

-- a table with nothing kept
pub none_known : (store : Store) → ((text : List ℕ) → payload_on store.handles text ≡ None) → KnowsKeys store
none_known store none = λ text node e. absurd (none_some _ node (none text) e)

abbrev pub store_of : Watches → Keys → Table Node → Store
store_of watches keys table = record { tree = keys; handles = table; watches = watches }

-- a store as it was
pub unchanged : (old new : Store) → KnowsKeys old → new ≡ old → IsUnchanged old new
unchanged old new known same = record {
  tree = ap (λ (s : Store). s.tree) same;
  handles = ap (λ (s : Store). s.handles.handles) same;
  watches = ap (λ (s : Store). s.watches) same;
  known = subst KnowsKeys (sym same) known;
}

-- what a change that isn't made leaves
pub unmade : (old new : Store) (session moment : ℕ) (n : JournalEnd) (change : Change) (lack : Lack) → IsMade old new session moment n change (Err lack) → IsUnchanged old new
unmade old new session moment n change Space made = made.0
unmade old new session moment n change Short made = made.0

module _ (store : Store) (known : KnowsKeys store) where
  abbrev kept : List ℕ → Option Node
  kept = payload_on store.handles

  -- another tree that keeps the nodes
  pub kept_known : (keys : Keys) → KeepsNodes store.tree keys → KnowsKeys (record { tree = keys; handles = store.handles; watches = store.watches })
  kept_known keys keeps = λ text node e. keeps (path_of text) node (known text node e)

  -- ---- handles that come

  -- one to a key that another handle leads to
  pub beside_known : (table : Table Node) → ((text : List ℕ) → payload_on table text ≡ kept text) → KnowsKeys (record { tree = store.tree; handles = table; watches = store.watches })
  beside_known table same = λ text node e. known text node (sym (same text) ∙ e)

  module _ (table : Table Node) (path : List ℕ) (node : Node)
      (added : (text : List ℕ) → payload_on table text ≡ cond (bytes_eq path text) (Some (unwrap_or (kept path) node)) (kept text)) where
    -- a handle to a key
    pub added_known : IsAt store.tree (path_of path) node → KnowsKeys (record { tree = store.tree; handles = table; watches = store.watches })
    added_known at = λ text other e. by text other (sym (added text) ∙ e) (bytes_eq path text) refl
      where
        here : (o : Option Node) → kept path ≡ o → (other : Node) → Some (unwrap_or o node) ≡ Some other → IsAt store.tree (path_of path) other
        here None none other e = subst (IsAt store.tree (path_of path)) (some_one node other e) at
        here (Some k) some other e = known path other (some ∙ e)

        by : (text : List ℕ) (other : Node) → cond (bytes_eq path text) (Some (unwrap_or (kept path) node)) (kept text) ≡ Some other →
            (b : Bool) → bytes_eq path text ≡ b → IsAt store.tree (path_of text) other
        by text other e true is =
            subst (λ (t : List ℕ). IsAt store.tree (path_of t) other) ((bytes_decides path text).0 is) (here (kept path) refl other (sym (cond-true _ _ _ is) ∙ e))
        by text other e false is = known text other (sym (cond-false _ _ _ is) ∙ e)

    -- a handle to a key that was made after it
    pub made_known : (keys : Keys) → KeepsNodes store.tree keys → (n : ℕ) (handle : Handle) → numbered n table.handles ≡ Some handle →
        handle.destination ≡ At (path_of path) → (made : Node) → IsAt keys (path_of path) made → (table' : Table Node) →
        ((text : List ℕ) → payload_on table' text ≡ cond (leads_there (path_of text) (numbered n table.handles)) (Some made) (payload_on table text)) →
        KnowsKeys (record { tree = keys; handles = table'; watches = store.watches })
    made_known keys keeps n handle found leads made at table' set = λ text other e.
        by text other (sym (told text) ∙ sym (set text) ∙ e) (same_path (path_of path) (path_of text)) refl
      where
        told : (text : List ℕ) → cond (leads_there (path_of text) (numbered n table.handles)) (Some made) (payload_on table text) ≡
            cond (same_path (path_of path) (path_of text)) (Some made) (payload_on table text)
        told text = rw (found, leads) refl

        by : (text : List ℕ) (other : Node) → cond (same_path (path_of path) (path_of text)) (Some made) (payload_on table text) ≡ Some other →
            (b : Bool) → same_path (path_of path) (path_of text) ≡ b → IsAt keys (path_of text) other
        by text other e true is =
            subst (λ (p : Path). IsAt keys p other) (path-is _ _ is) (subst (IsAt keys (path_of path)) (some_one made other (sym (cond-true _ _ _ is) ∙ e)) at)
        by text other e false is =
            let apart : bytes_eq path text ≡ false = nat_list_eq_equiv.symm path text ∙ sym (same_path-texts path text) ∙ is in
            keeps (path_of text) other (known text other (sym (cond-false _ _ _ apart) ∙ sym (added text) ∙ sym (cond-false _ _ _ is) ∙ e))

    -- a handle that was taken back
    pub again_known : (table' : Table Node) → ((text : List ℕ) → is_some (kept text) ≡ is_open (path_of text) store.handles.handles) →
        table'.handles ≡ store.handles.handles → ((text : List ℕ) → payload_on table' text ≡ cond (is_open (path_of text) table'.handles) (payload_on table text) None) →
        KnowsKeys (record { tree = store.tree; handles = table'; watches = store.watches })
    again_known table' law same shut = λ text other e. by text other (is_open (path_of text) table'.handles) refl e
      where
        was : (text : List ℕ) (o : Option Node) → kept text ≡ o → is_some o ≡ true → (other : Node) →
            (b : Bool) → bytes_eq path text ≡ b → payload_on table text ≡ Some other → kept text ≡ Some other
        was text o is some other false apart e = sym (cond-false _ _ _ apart) ∙ sym (added text) ∙ e
        was text None is some other true here e = absurd (false≢true some)
        was text (Some k) is some other true here e =
            let before : kept path ≡ Some k = ap kept ((bytes_decides path text).0 here) ∙ is in
            is ∙ ap (λ (x : Option Node). Some (unwrap_or x node)) (sym before) ∙ sym (cond-true _ _ _ here) ∙ sym (added text) ∙ e

        by : (text : List ℕ) (other : Node) (b : Bool) → is_open (path_of text) table'.handles ≡ b → payload_on table' text ≡ Some other → IsAt store.tree (path_of text) other
        by text other true is e =
            let some : is_some (kept text) ≡ true = law text ∙ ap (is_open (path_of text)) (sym same) ∙ is in
            known text other (was text (kept text) refl some other (bytes_eq path text) refl (sym (cond-true _ _ _ is) ∙ sym (shut text) ∙ e))
        by text other false is e = absurd (none_some _ other (shut text ∙ cond-false _ _ _ is) e)

  -- ---- handles that go

  pub closed_known : (table : Table Node) → ((text : List ℕ) → payload_on table text ≡ cond (is_open (path_of text) table.handles) (kept text) None) →
      KnowsKeys (record { tree = store.tree; handles = table; watches = store.watches })
  closed_known table closed = λ text other e. by text other (is_open (path_of text) table.handles) refl e
    where
      by : (text : List ℕ) (other : Node) (b : Bool) → is_open (path_of text) table.handles ≡ b → payload_on table text ≡ Some other → IsAt store.tree (path_of text) other
      by text other true is e = known text other (sym (cond-true _ _ _ is) ∙ sym (closed text) ∙ e)
      by text other false is e = absurd (none_some _ other (closed text ∙ cond-false _ _ _ is) e)

  -- a key that was deleted
  pub deleted_known : (keys : Keys) (table : Table Node) (path : List ℕ) → ((q : Path) (other : Node) → IsAt store.tree q other → q ≢ path_of path → IsAt keys q other) →
      ((text : List ℕ) → payload_on table text ≡ cond (bytes_eq path text) None (kept text)) → KnowsKeys (record { tree = keys; handles = table; watches = store.watches })
  deleted_known keys table path keeps marked = λ text other e. by text other (bytes_eq path text) refl e
    where
      by : (text : List ℕ) (other : Node) (b : Bool) → bytes_eq path text ≡ b → payload_on table text ≡ Some other → IsAt keys (path_of text) other
      by text other true is e = absurd (none_some _ other (marked text ∙ cond-true _ _ _ is) e)
      by text other false is e =
          keeps (path_of text) other (known text other (sym (cond-false _ _ _ is) ∙ sym (marked text) ∙ e))
          (λ same. false≢true (sym is ∙ (bytes_decides path text).1 (sym (path_of-one text path same))))

  -- keys that were deleted, whose paths pass a test
  pub past_known : (keys : Keys) (table : Table Node) (gone : Path → Bool) → ((q : Path) (other : Node) → IsAt store.tree q other → gone q ≡ false → IsAt keys q other) →
      ((text : List ℕ) → payload_on table text ≡ cond (gone (path_of text)) None (kept text)) → KnowsKeys (record { tree = keys; handles = table; watches = store.watches })
  past_known keys table gone keeps marked = λ text other e. by text other (gone (path_of text)) refl e
    where
      by : (text : List ℕ) (other : Node) (b : Bool) → gone (path_of text) ≡ b → payload_on table text ≡ Some other → IsAt keys (path_of text) other
      by text other true is e = absurd (none_some _ other (marked text ∙ cond-true _ _ _ is) e)
      by text other false is e = keeps (path_of text) other (known text other (sym (cond-false _ _ _ is) ∙ sym (marked text) ∙ e)) is
