-- One entry, applied or refused.
use Rattle.std.proofs.Common.{◌≡◌, ◌≢◌, ℕ, Bool, true, false, not, ◌==◌, List, [], ◌∷◌, ◌++◌, length, Option, Some, None, refl, sym, ap, ◌∙◌, subst, is_some, ◌&&◌, inl, inr, ◌⊎◌, arith}
use Rattle.std.specs.Prelude.{Result, Ok, Err, IfErr, IsErrAnd}
use Rattle.std.proofs.lemmas.Bool.Decides.{nat_tests}
use Rattle.std.specs.FinMap.{get}
use Rattle.std.specs.declared.alloc.Global.{Global}
use Rattle.reg_names.specs.Names.{is_path, are_key_names}
use Rattle.reg_heap.specs.Paths.{Path, Tree}
use Rattle.reg_heap.specs.Edits.{folded_path, values_at}
use Rattle.reg_heap.specs.Members.{value_named}
use Rattle.reg_model.specs.declared.call.Change.{Change}
use Rattle.reg_model.specs.declared.call.Change.TheVariants.{CreateKey, SetValue, DeleteValue, DeleteTree, Close}
use Rattle.reg_model.specs.declared.reply.ChangeReply.{ChangeReply}
use Rattle.reg_model.specs.Callbacks.{Callbacks}
use Rattle.reg_callbacks.specs.declared.callbacks.Callbacks.{Callbacks as TheCallbacks}
use Rattle.reg_callbacks.specs.Asking.{Answers, asks}
use Rattle.reg_callbacks.specs.Lists.{answers_of}
use Rattle.reg_calls.specs.Views.{View, IsAccepted}
use Rattle.reg_dotreg_reader.specs.declared.entry.Entry.{Entry}
use Rattle.reg_dotreg_reader.specs.declared.entry.Entry.TheVariants.{Key, GoneKey, Value, GoneValue}
use Rattle.reg_dotreg_import.specs.declared.entries.TheConstants.{ALL_RIGHTS}
use Rattle.reg_dotreg_import.specs.declared.entries.Handles.{Handles}
use Rattle.reg_dotreg_import.specs.declared.fault.ImportFault.{ImportFault}
use Rattle.reg_dotreg_import.specs.declared.fault.ImportFault.TheVariants.{Refused, Memory}
use Rattle.reg_dotreg_import.specs.Imports.{Stand, after_entry, begun}
use Rattle.reg_dotreg_import.specs.ImportCalls.{Accepts, Hands, calls_of_entry, is_absent}
use Rattle.reg_dotreg_import.specs.ImportStops.{IsOpenAt, IsAskedFor, IsEntryLeft, IsStoppedAt}
use Rattle.reg_dotreg_import.specs.Internal.Standing.{IsMade, IsFaultOf, IsRooted, IsImporting}
use Rattle.reg_dotreg_import.proofs.ImportSteps.{Leaves, key-made, value-set, value-gone, contents-gone, branch-gone, closed-other}

-- ---- refused

-- by a call of which those of its entry that come before it were accepted
pub stopped : (asked : Callbacks) (moment line : ℕ) (h : Hands) (e : Entry) (old v : View) (before : List Change) (change : Change) (fault : ImportFault) →
    calls_of_entry h e ≡ before ++ change ∷ [] → Accepts moment old before v → v.keys.tree ≡ h.stand.tree → IsAskedFor v h.stand.here e change →
    IsFaultOf asked v moment line change fault → IsStoppedAt asked moment line h e old v fault
stopped asked moment line h e old v before change (Refused n status) calls led tree asks f =
    (f.0, record { tree = tree; change = change; asks = asks; before = before; calls = calls; led = led; refused = f.1 })
stopped asked moment line h e old v before change Memory calls led tree asks f =
    record { tree = tree; before = before; others = change ∷ []; calls = calls; led = led }

-- by a call that was refused, told of the hive after the refusal, which is as it was and has the same callbacks
pub stopped-later : {C : Type 0} (answers : C → Answers) (a b : TheCallbacks C) (moment line : ℕ) (h : Hands) (e : Entry) (old mid new : View)
    (before : List Change) (change : Change) (fault : ImportFault) → a ≡ b → new ≡ mid → calls_of_entry h e ≡ before ++ change ∷ [] →
    Accepts moment old before mid → mid.keys.tree ≡ h.stand.tree → IsAskedFor mid h.stand.here e change →
    IsFaultOf (asks (answers_of answers a)) mid moment line change fault → IsStoppedAt (asks (answers_of answers b)) moment line h e old new fault
stopped-later answers a b moment line h e old mid new before change fault callbacks same calls led tree asked f =
    subst (λ (v : View). IsStoppedAt (asks (answers_of answers b)) moment line h e old v fault) (sym same)
    (subst (λ k. IsStoppedAt (asks (answers_of answers k)) moment line h e old mid fault) callbacks
    (stopped (asks (answers_of answers a)) moment line h e old mid before change fault calls led tree asked f))

-- memory was refused before any call of the entry
pub stopped-before : (moment : ℕ) (h : Hands) (e : Entry) (v : View) → v.keys.tree ≡ h.stand.tree → IsEntryLeft moment h e v v
stopped-before moment h e v tree = record { tree = tree; before = []; others = calls_of_entry h e; calls = refl; led = refl }

-- an `Err` that a `?` hands on
pub if_err : {A E : Type 0} (P : E → Type 0) (r : Result A E) (e : E) → IsErrAnd r (λ y. y ≡ e) → P e → IfErr r P
if_err P (Ok x) e h q = tt
if_err P (Err y) e h q = subst P (sym h) q

-- ---- what was looked up

flip : (b x : Bool) → b ≡ not x → x ≡ not b
flip b true e = rw e refl
flip b false e = rw e refl

pub value_looked_up : (tree tree' : Tree) (path path' name name' : List ℕ) (b : Bool) → tree' ≡ tree → path' ≡ path → name' ≡ name → is_path path ≡ true →
    (is_path path' ≡ true → b ≡ not (is_some (value_named name' (values_at tree' (folded_path path'))))) →
    is_some (value_named name (values_at tree (folded_path path))) ≡ not b
value_looked_up tree tree' path path' name name' b te pe ne good f =
    flip b (is_some (value_named name (values_at tree (folded_path path)))) (f (ap is_path pe ∙ good) ∙ rw (te, pe, ne) refl)

-- a key that isn't absent is the root, or no path leads to it, or it is there
one-fails : (empty good there : Bool) → empty ≡ false → (not empty && good && not there) ≡ false → (good ≡ false) ⊎ (there ≡ true)
one-fails true good there e f = absurd cc
one-fails false false there e f = inl refl
one-fails false true true e f = inr refl
one-fails false true false e f = absurd cc

to-go : (tree : Tree) (path : List ℕ) → is_absent tree path ≡ false →
    (path ≡ []) ⊎ (is_path path ≡ false) ⊎ (is_some (get tree (folded_path path)) ≡ true)
to-go tree [] e = inl refl
to-go tree (letter ∷ path) e =
    let longer : (length (letter ∷ path) == 0) ≡ false = grind (arith, nat_tests) in
    inr (one-fails (length (letter ∷ path) == 0) (is_path (letter ∷ path)) (is_some (get tree (folded_path (letter ∷ path)))) longer e)

module _ (before : List ℕ) (handles : Handles) (old : View) (s : Stand) (i : IsImporting before handles old s) where
  -- of the value at the path as it was given
  there-here : (name : List ℕ) (b : Bool) → is_some (value_named name (values_at old.keys.tree (folded_path handles.path))) ≡ b →
      is_some (value_named name (values_at old.keys.tree s.here)) ≡ b
  there-here name b e = subst (λ (p : Path). is_some (value_named name (values_at old.keys.tree p)) ≡ b) i.here e

  -- in the tree that was made so far
  pub value-there : (name : List ℕ) (b : Bool) → is_some (value_named name (values_at old.keys.tree (folded_path handles.path))) ≡ b →
      is_some (value_named name (values_at s.tree s.here)) ≡ b
  value-there name b e = subst (λ (t : Tree). is_some (value_named name (values_at t s.here)) ≡ b) i.rooted.tree_is (there-here name b e)

  pub key-absent : (tree : Tree) (path given : List ℕ) (b : Bool) → tree ≡ old.keys.tree → given ≡ path → b ≡ is_absent tree given → is_absent s.tree path ≡ b
  key-absent tree path given b te pe is =
      sym (is ∙ ap (λ (t : Tree). is_absent t given) (te ∙ i.rooted.tree_is) ∙ ap (is_absent s.tree) pe)

  -- what an entry asks for by the handles that are open
  pub asks-value : (name : List ℕ) (kind : ℕ) (bytes : List ℕ) → IsAskedFor old s.here (Value name kind bytes) (SetValue handles.key name kind bytes)
  asks-value name kind bytes = (handles.key, i.key_open, refl)

  pub asks-gone_key : (path : List ℕ) → is_absent s.tree path ≡ false → IsAskedFor old s.here (GoneKey path) (DeleteTree handles.root path)
  asks-gone_key path there =
      (handles.root, i.rooted.root_open, refl, to-go old.keys.tree path (ap (λ (t : Tree). is_absent t path) i.rooted.tree_is ∙ there))

  pub asks-gone_value : (name : List ℕ) → is_some (value_named name (values_at old.keys.tree (folded_path handles.path))) ≡ true →
      IsAskedFor old s.here (GoneValue name) (DeleteValue handles.key name)
  asks-gone_value name there = (handles.key, i.key_open, refl, there-here name true there)

  -- ---- applied

  rooted-as : (new : View) (t t' : Tree) → t ≡ t' → IsRooted before handles.root handles.key new t → IsRooted before handles.root handles.key new t'
  rooted-as new t t' e r = subst (IsRooted before handles.root handles.key new) e r

  goes-on : (new : View) (t t' : Tree) → t ≡ t' → Leaves before old new handles.moment handles.root handles.key s.tree i.rooted t →
      IsImporting before handles new (record s { tree = t' })
  goes-on new t t' e l =
      record { rooted = rooted-as new t t' e l.rooted; key_open = l.keeps handles.key s.here i.key_open; path = i.path; here = i.here }

  pub value-applied : (new : View) (name : List ℕ) (kind : ℕ) (bytes : List ℕ) (handle : Option ℕ) →
      IsMade old new handles.moment (SetValue handles.key name kind bytes) handle →
      IsImporting before handles new (after_entry handles.moment s (Value name kind bytes))
  value-applied new name kind bytes handle m =
      goes-on new _ _ refl (value-set before old new handles.moment handles.root handles.key s.tree i.rooted handles.key s.here name kind bytes handle i.key_open m)

  pub gone_value-applied : (new : View) (name : List ℕ) (handle : Option ℕ) →
      is_some (value_named name (values_at old.keys.tree (folded_path handles.path))) ≡ true →
      IsMade old new handles.moment (DeleteValue handles.key name) handle →
      IsImporting before handles new (after_entry handles.moment s (GoneValue name))
  gone_value-applied new name handle there m =
      let is = subst (λ (t : Tree). is_some (value_named name (values_at t s.here)) ≡ true) i.rooted.tree_is (there-here name true there) in
      goes-on new _ _ (rw is refl) (value-gone before old new handles.moment handles.root handles.key s.tree i.rooted handles.key s.here name handle i.key_open m)

  pub gone_key-applied : (new : View) (path : List ℕ) (handle : Option ℕ) → IsMade old new handles.moment (DeleteTree handles.root path) handle →
      IsImporting before handles new (after_entry handles.moment s (GoneKey path))
  gone_key-applied new path handle m = by (length path == 0) refl
    where
      by : (b : Bool) → (length path == 0) ≡ b → IsImporting before handles new (after_entry handles.moment s (GoneKey path))
      by true e = goes-on new _ _ (rw e refl) (contents-gone before old new handles.moment handles.root handles.key s.tree i.rooted path handle e m)
      by false e =
          let both = branch-gone before old new handles.moment handles.root handles.key s.tree i.rooted path handle e m in
          goes-on new _ _ (rw (e, both.1) refl) both.0

  -- the handle of the key closed, unless it is the root's
  pub left : (new : View) (reply : ChangeReply) → handles.key ≢ handles.root → IsAccepted old new 0 handles.moment (Close handles.key) reply →
      IsRooted before handles.root handles.root new s.tree
  left new reply other a =
      closed-other before old new handles.moment handles.root handles.key s.tree i.rooted reply (λ e. other (sym e)) a

-- ---- a key

module _ (before : List ℕ) (handles : Handles) (mid : View) (s : Stand) (path : List ℕ) (r : IsRooted before handles.root handles.root mid s.tree) where
  pub asks-key : IsAskedFor mid s.here (Key path) (CreateKey handles.root path ALL_RIGHTS None)
  asks-key = (handles.root, r.root_open, refl)

  pub key-applied : (new : View) (key : ℕ) (given : List ℕ) → given ≡ path →
      IsMade mid new handles.moment (CreateKey handles.root path ALL_RIGHTS None) (Some key) →
      IsImporting before (record handles { key = key; path = given }) new (after_entry handles.moment s (Key path))
  key-applied new key given e m =
      let k = key-made before mid new handles.moment handles.root s.tree r path key m in
      record {
        rooted = k.rooted;
        key_open = k.key_open;
        path = subst (λ (text : List ℕ). is_path text ≡ true) (sym e) k.good;
        here = ap folded_path e;
      }

-- ---- before the first entry

pub importing-begun : (before : List ℕ) (handles : Handles) (v : View) (tree : Tree) → handles.key ≡ handles.root → handles.path ≡ [] →
    IsRooted before handles.root handles.root v tree → IsImporting before handles v (begun tree)
unfolding are_key_names
importing-begun before handles v tree same empty r = record {
  rooted = subst (λ (key : ℕ). IsRooted before handles.root key v tree) (sym same) r;
  key_open = subst (λ (key : ℕ). IsOpenAt v.handles key []) (sym same) r.root_open;
  path = rw empty refl;
  here = rw empty refl;
}

abbrev pub handles_with : Global → ℕ → ℕ → List ℕ → Handles
handles_with alloc moment root path = record { alloc = alloc; moment = moment; root = root; key = root; path = path }
