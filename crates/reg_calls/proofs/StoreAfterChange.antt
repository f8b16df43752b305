-- What the changes of accepted calls make of a store.
use Rattle.std.proofs.Common.{◌≡◌, ◌≢◌, ℕ, ◌+◌, ◌<◌, ◌≤◌, Bool, true, false, not, nat_lt, nat_le, cond, is_some, List, [], ◌∷◌, ◌++◌, length, Option}
use Rattle.std.proofs.Common.{Some, None, refl, sym, ap, ◌∙◌, subst, arith}
use Rattle.std.specs.Prelude.{Err, IfSome, option_map, ◌==◌}
use Rattle.std.proofs.lemmas.Bool.{cond-true, cond-false}
use Rattle.std.proofs.lemmas.Bool.Decides.{nat_tests}
use Rattle.reg_model.specs.declared.limits.TheConstants.{HANDLES_LIMIT, WATCHES_LIMIT}
use Rattle.reg_heap.specs.declared.limits.TheConstants.{DATA_LIMIT, DESCRIPTOR_LIMIT, GROWTH_BOUND}
use Rattle.reg_names.specs.Names.{path_of, is_value_name}
use Rattle.reg_heap.specs.Paths.{Path, Tree}
use Rattle.reg_heap.specs.Edits.{edited, with_value, without_value, with_descriptor, child_path, has_child, if_last, with_key, with_keys, missing, without_key}
use Rattle.reg_heap.specs.Edits.{is_within, is_under, without_tree, emptied}
use Rattle.reg_model.specs.Worlds.{World, Handle, At, look, path_at, path_from, closed, turned, turned_past, without_branch, without_contents, after}
use Rattle.reg_model.specs.Watches.{Watch, watch_of}
use Rattle.reg_notify.specs.Tables.{Table as Watches}
use Rattle.reg_notify.specs.Asked.{Adds}
use Rattle.reg_model.specs.Causes.{State, change_cause, handles_of, no_handle_room, is_full, watches_of, is_bad_descriptor, is_bad_given}
use Rattle.reg_model.specs.Replies.{reply_to, disposition_of}
use Rattle.reg_model.specs.Calls.{changes_keys}
use Rattle.reg_model.specs.declared.reply.ChangeReply.{ChangeReply}
use Rattle.reg_model.specs.declared.call.Change.{Change}
use Rattle.reg_model.specs.declared.call.Change.TheVariants.{OpenRoot, OpenKey, CreateKey, SetValue, DeleteValue, DeleteKey, DeleteTree, SetSecurity, Notify, Close}
use Rattle.reg_model.proofs.AcceptedCalls.{both_false, not_false, root-met, open-met, create-met, SetMet, set-met, secure-met, notify-met, close-met, Target}
use Rattle.reg_handles.specs.HandleTables.{Table}
use Rattle.reg_arena.specs.Arena.{heap_of}
use Rattle.reg_arena.specs.declared.ArenaFault.{ArenaFault}
use Rattle.reg_arena.specs.declared.ArenaFault.TheVariants.{Full, Memory as NoMemory}
use Rattle.reg_tree.specs.CellSizes.{value_sizes, value_sizes_at, LacksRoom}
use Rattle.reg_tree.specs.declared.node.Node.{Node}
use Rattle.reg_tree.specs.TreeKeys.{Keys, IsAt}
use Rattle.reg_tree.proofs.InsertKey.MadeCells.{sizes_by_path}
use Rattle.reg_tree.proofs.PathWalk.PathSteps.{some_names}
use Rattle.reg_calls.specs.declared.store.Store.{Store}
use Rattle.reg_calls.specs.declared.lack.Lack.{Lack}
use Rattle.reg_calls.specs.declared.lack.Lack.TheVariants.{Space, Memory as Short}
use Rattle.reg_calls.specs.Internal.Stores.{at, world_of, KnowsKeys, IsReady, IsDone, IsUnchanged, IsMade}
use Rattle.reg_calls.specs.Internal.Lacks.{lack_of}
use Rattle.reg_calls.specs.Shortages.{LacksSpace, is_closing}
use Rattle.reg_calls.proofs.FoundTrees.{has-names, from-nowhere}
use Rattle.reg_calls.specs.declared.store.JournalEnd.{JournalEnd}
use Rattle.reg_calls.proofs.TableAndLimitLemmas.{not_above}

-- ---- keys of which none is missing

none-step : (b : Bool) (t : Tree) (p : Path) (name : List ℕ) (names : List (List ℕ)) (given : Option (List ℕ)) (moment : ℕ) →
    (missing t (child_path p name) names ≡ [] → with_keys t (child_path p name) names given moment ≡ t) → cond b (missing t (child_path p name) names) (name ∷ names) ≡ [] →
    with_keys (cond b t (with_key t p name (if_last names given) moment)) (child_path p name) names given moment ≡ t
none-step true t p name names given moment on none = on none
none-step false t p name names given moment on none = absurd (cc)

none-made : (t : Tree) (p : Path) (names : List (List ℕ)) (given : Option (List ℕ)) (moment : ℕ) → missing t p names ≡ [] → with_keys t p names given moment ≡ t
none-made t p [] given moment e = refl
none-made t p (name ∷ names) given moment e =
    none-step (has_child t p name) t p name names given moment (none-made t (child_path p name) names given moment) e

pub with-names : (text : List ℕ) → text ≢ [] → path_of text ≡ [] → ⊥
with-names [] some e = absurd (some refl)
with-names (x ∷ xs) some e = some_names (x ∷ xs) false (sym (grind (arith, nat_tests))) refl e

-- ---- descriptors that aren't bad

described : (descriptor : List ℕ) → is_bad_descriptor descriptor ≡ false → (1 ≤ length descriptor) × (length descriptor ≤ DESCRIPTOR_LIMIT)
described descriptor good =
    let b = both_false (length descriptor == 0) (nat_lt DESCRIPTOR_LIMIT (length descriptor)) good in
    let some : 1 ≤ length descriptor = grind (arith, nat_tests, b.0) in
    (some, not_above DESCRIPTOR_LIMIT (length descriptor) b.1)

given-described : {A : Type 0} (given : Option A) (bytes : A → List ℕ) → is_bad_given (option_map bytes given) ≡ false →
    IfSome given (λ descriptor. (1 ≤ length (bytes descriptor)) × (length (bytes descriptor) ≤ DESCRIPTOR_LIMIT))
given-described None bytes good = tt
given-described (Some descriptor) bytes good = described (bytes descriptor) good

-- ---- the calls

-- a change that leaves the keys as they are takes no space
no-growth : (store : Store) → length store.tree.bins.bytes ≤ length store.tree.bins.bytes + 0
no-growth store = omega arith

module _ (n : JournalEnd) (store : Store) (session : ℕ) (ready : IsReady n store) where
  abbrev s : State
  s = at n store

  abbrev hs : List Handle
  hs = store.handles.handles

  abbrev tree : Tree
  tree = store.tree.tree

  pub room-few : no_handle_room session s ≡ false → handles_of session hs < HANDLES_LIMIT
  room-few e = let b = both_false (nat_le HANDLES_LIMIT (handles_of session hs)) (is_full 2 s) e in grind (arith, nat_tests, b.0)

  abbrev added : Table Node → ℕ → List ℕ → Type 0
  added table mask text = table.handles ≡ hs ++ record { number = n.next; session = session; mask = mask; destination = At (path_of text) } ∷ []

  abbrev pub opening : Option ℕ → ChangeReply
  opening disposition = record { status = 0; number = Some n.next; handle = Some n.next; disposition = disposition }

  abbrev pub plain : ChangeReply
  plain = record { status = 0; number = Some n.next; handle = None; disposition = None }

  -- ---- OpenRoot

  pub root-room : (mask : ℕ) → change_cause s session (OpenRoot mask) 0 ≡ None → handles_of session hs < HANDLES_LIMIT
  root-room mask c = let m = root-met s session mask 0 c in room-few m.room

  pub root-done : (moment mask : ℕ) (table : Table Node) (text : List ℕ) → text ≡ [] → added table mask text → (told : ChangeReply) →
      told ≡ opening None → KnowsKeys (record { tree = store.tree; handles = table; watches = store.watches }) →
      IsDone store (record { tree = store.tree; handles = table; watches = store.watches }) session moment n (OpenRoot mask) told
  unfolding after reply_to watch_of changes_keys
  root-done moment mask table text empty add told e known =
      let handles = add ∙ ap (λ (t : List ℕ). hs ++ record { number = n.next; session = session; mask = mask; destination = At (path_of t) } ∷ []) empty in
      record { world = λ i. record { tree = tree; handles = handles i }; reply = e; kept_keys = λ none. refl; kept = omega arith; grows = no-growth store; known = known; watches = refl }

  -- ---- OpenKey

  module _ (h : ℕ) (path : List ℕ) (mask : ℕ) (c : change_cause s session (OpenKey h path mask) 0 ≡ None) where
    pub open-room : handles_of session hs < HANDLES_LIMIT
    open-room = let m = open-met s session h path mask 0 c in room-few m.room

    pub open-done : (moment : ℕ) (table : Table Node) (to : Path) → to ≡ path_from session h hs path →
        table.handles ≡ hs ++ record { number = n.next; session = session; mask = mask; destination = At to } ∷ [] → (told : ChangeReply) → told ≡ opening None → KnowsKeys (record { tree = store.tree; handles = table; watches = store.watches }) →
        IsDone store (record { tree = store.tree; handles = table; watches = store.watches }) session moment n
        (OpenKey h path mask) told
    unfolding after reply_to watch_of changes_keys
    open-done moment table to names add told e known =
        let handles = add ∙ ap (λ (p : Path). hs ++ record { number = n.next; session = session; mask = mask; destination = At p } ∷ []) names in
        record { world = λ i. record { tree = tree; handles = handles i }; reply = e; kept_keys = λ none. refl; kept = omega arith; grows = no-growth store; known = known; watches = refl }

  -- ---- CreateKey

  pub create-given : {A : Type 0} (given : Option A) (bytes : A → List ℕ) (h : ℕ) (path : List ℕ) (mask : ℕ) →
      change_cause s session (CreateKey h path mask (option_map bytes given)) 0 ≡ None →
      IfSome given (λ descriptor. (1 ≤ length (bytes descriptor)) × (length (bytes descriptor) ≤ DESCRIPTOR_LIMIT))
  create-given given bytes h path mask c = let m = create-met s session h path mask (option_map bytes given) 0 c in given-described given bytes m.sound

  module _ (h : ℕ) (path : List ℕ) (mask : ℕ) (given : Option (List ℕ)) (c : change_cause s session (CreateKey h path mask given) 0 ≡ None) where
    pub create-room : handles_of session hs < HANDLES_LIMIT
    create-room = let m = create-met s session h path mask given 0 c in room-few m.room

    pub create-done : (moment : ℕ) (keys : Keys) (table : Table Node) (text : List ℕ) → path_of text ≡ path_from session h hs path →
        keys.tree ≡ with_keys tree (path_at session h hs) (path_of path) given moment → added table mask text → (told : ChangeReply) →
        told ≡ opening (Some (disposition_of (missing tree (path_at session h hs) (path_of path)))) →
        (changes_keys (CreateKey h path mask given) told ≡ false → keys ≡ store.tree) →
        length store.tree.bins.bytes ≤ length keys.bins.bytes → length keys.bins.bytes ≤ length store.tree.bins.bytes + GROWTH_BOUND →
        KnowsKeys (record { tree = keys; handles = table; watches = store.watches }) →
        IsDone store (record { tree = keys; handles = table; watches = store.watches }) session moment n (CreateKey h path mask given) told
    unfolding after reply_to watch_of
    create-done moment keys table text names made add told e same kept larger known =
        let handles = add ∙ ap (λ (p : Path). hs ++ record { number = n.next; session = session; mask = mask; destination = At p } ∷ []) names in
        record { world = λ i. record { tree = made i; handles = handles i }; reply = e; kept_keys = same; kept = kept; grows = larger; known = known; watches = refl }

    -- where no key is missing
    pub create-there : (rest : List ℕ) → path_of rest ≡ missing tree (path_at session h hs) (path_of path) → rest ≡ [] →
        (moment : ℕ) (table : Table Node) (text : List ℕ) → path_of text ≡ path_from session h hs path → added table mask text → (told : ChangeReply) → told ≡ opening (Some 2) →
        KnowsKeys (record { tree = store.tree; handles = table; watches = store.watches }) →
        IsDone store (record { tree = store.tree; handles = table; watches = store.watches }) session moment n (CreateKey h path mask given) told
    create-there rest missed empty moment table text names add told e known =
        let none : missing tree (path_at session h hs) (path_of path) ≡ [] = sym missed ∙ ap path_of empty in
        create-done moment store.tree table text names (sym (none-made tree (path_at session h hs) (path_of path) given moment none)) add told
        (e ∙ ap (λ (m : List (List ℕ)). opening (Some (disposition_of m))) (sym none)) (λ is. refl) (omega arith) (omega arith) known

    -- where some are
    pub made-disposition : (rest : List ℕ) → path_of rest ≡ missing tree (path_at session h hs) (path_of path) → rest ≢ [] →
        opening (Some 1) ≡ opening (Some (disposition_of (missing tree (path_at session h hs) (path_of path))))
    made-disposition rest missed some = ap (λ (d : ℕ). opening (Some d)) (by (missing tree (path_at session h hs) (path_of path)) missed)
      where
        by : (m : List (List ℕ)) → path_of rest ≡ m → 1 ≡ disposition_of m
        by [] e = absurd (with-names rest some e)
        by (x ∷ xs) e = refl

    -- and it may have changed keys
    pub made-changed : (told : ChangeReply) → told ≡ opening (Some 1) → {X : Type 0} → changes_keys (CreateKey h path mask given) told ≡ false → X
    unfolding changes_keys
    made-changed told e none = absurd (cc)

  -- ---- SetValue

  module _ (h : ℕ) (name : List ℕ) (kind : ℕ) (bytes : List ℕ) (c : change_cause s session (SetValue h name kind bytes) 0 ≡ None) where
    abbrev set-facts : SetMet s session h name bytes
    set-facts = set-met s session h name kind bytes 0 c

    pub set-name : is_value_name name ≡ true
    set-name = let b = both_false (not (is_value_name name)) _ set-facts.good in not_false (is_value_name name) b.0

    pub set-bytes : length bytes ≤ DATA_LIMIT
    set-bytes = let b = both_false (not (is_value_name name)) (nat_lt DATA_LIMIT (length bytes)) set-facts.good in not_above DATA_LIMIT (length bytes) b.1

    pub set-done : (moment : ℕ) (keys : Keys) → keys.tree ≡ edited tree (path_at session h hs) (with_value name kind bytes moment) → (told : ChangeReply) →
        told ≡ plain → length store.tree.bins.bytes ≤ length keys.bins.bytes → length keys.bins.bytes ≤ length store.tree.bins.bytes + GROWTH_BOUND →
        KnowsKeys (record { tree = keys; handles = store.handles; watches = store.watches }) →
        IsDone store (record { tree = keys; handles = store.handles; watches = store.watches }) session moment n (SetValue h name kind bytes) told
    unfolding after reply_to watch_of changes_keys
    set-done moment keys set told e kept larger known = record { world = λ i. record { tree = set i; handles = hs }; reply = e; kept_keys = λ none. absurd (cc); kept = kept; grows = larger; known = known; watches = refl }

  -- ---- DeleteValue

  module _ (h : ℕ) (name : List ℕ) (c : change_cause s session (DeleteValue h name) 0 ≡ None) where
    pub drop-done : (moment : ℕ) (keys : Keys) → keys.tree ≡ edited tree (path_at session h hs) (without_value name moment) → (told : ChangeReply) → told ≡ plain →
        length keys.bins.bytes ≡ length store.tree.bins.bytes → KnowsKeys (record { tree = keys; handles = store.handles; watches = store.watches }) →
        IsDone store (record { tree = keys; handles = store.handles; watches = store.watches }) session moment n (DeleteValue h name) told
    unfolding after reply_to watch_of changes_keys
    drop-done moment keys set told e long known =
        record { world = λ i. record { tree = set i; handles = hs }; reply = e; kept_keys = λ none. absurd (cc); kept = omega (arith, long); grows = omega (arith, long); known = known; watches = refl }

  -- ---- DeleteKey

  module _ (h : ℕ) (path : List ℕ) (c : change_cause s session (DeleteKey h path) 0 ≡ None) where
    pub delete-done : (moment : ℕ) (keys : Keys) (table : Table Node) (text : List ℕ) → path_of text ≡ path_from session h hs path →
        keys.tree ≡ without_key tree (path_from session h hs path) moment → table.handles ≡ turned (path_of text) hs → (told : ChangeReply) →
        told ≡ plain → length keys.bins.bytes ≡ length store.tree.bins.bytes →
        KnowsKeys (record { tree = keys; handles = table; watches = store.watches }) →
        IsDone store (record { tree = keys; handles = table; watches = store.watches }) session moment n (DeleteKey h path) told
    unfolding after reply_to watch_of changes_keys
    delete-done moment keys table text names gone turn told e long known =
        let handles = turn ∙ ap (λ (p : Path). turned p hs) names in
        record { world = λ i. record { tree = gone i; handles = handles i }; reply = e; kept_keys = λ none. absurd (cc); kept = omega (arith, long); grows = omega (arith, long); known = known; watches = refl }

  -- ---- DeleteTree

  module _ (h : ℕ) (path : List ℕ) (c : change_cause s session (DeleteTree h path) 0 ≡ None) where
    abbrev gone-tree : ℕ → World
    gone-tree moment = without_branch (world_of store) (path_from session h hs path) moment

    abbrev gone-contents : ℕ → World
    gone-contents moment = without_contents (world_of store) (path_at session h hs) moment

    tree-done : (moment : ℕ) (keys : Keys) (table : Table Node) → world_of (record { tree = keys; handles = table; watches = store.watches }) ≡
        cond (length path == 0) (gone-contents moment) (gone-tree moment) → (told : ChangeReply) → told ≡ plain → length keys.bins.bytes ≡ length store.tree.bins.bytes →
        KnowsKeys (record { tree = keys; handles = table; watches = store.watches }) →
        IsDone store (record { tree = keys; handles = table; watches = store.watches }) session moment n (DeleteTree h path) told
    unfolding after reply_to watch_of changes_keys
    tree-done moment keys table world told e long known = record { world = world; reply = e; kept_keys = λ none. absurd (cc); kept = omega (arith, long); grows = omega (arith, long); known = known; watches = refl }

    -- by a path that has names
    pub branch-done : (moment : ℕ) (keys : Keys) (table : Table Node) (text : List ℕ) → path_of path ≢ [] → path_of text ≡ path_from session h hs path →
        keys.tree ≡ without_tree tree (path_from session h hs path) moment → table.handles ≡ turned_past (is_within (path_of text)) hs → (told : ChangeReply) →
        told ≡ plain → length keys.bins.bytes ≡ length store.tree.bins.bytes →
        KnowsKeys (record { tree = keys; handles = table; watches = store.watches }) →
        IsDone store (record { tree = keys; handles = table; watches = store.watches }) session moment n (DeleteTree h path) told
    branch-done moment keys table text some names gone turn told e long known =
        let handles = turn ∙ ap (λ (p : Path). turned_past (is_within p) hs) names in
        let world : world_of (record { tree = keys; handles = table; watches = store.watches }) ≡ gone-tree moment = λ i. record { tree = gone i; handles = handles i } in
        tree-done moment keys table (world ∙ sym (cond-false (length path == 0) _ _ (has-names path some))) told e long known

    -- by the empty path
    pub contents-done : (moment : ℕ) (keys : Keys) (table : Table Node) (text : List ℕ) → path ≡ [] → path_of text ≡ path_from session h hs path →
        keys.tree ≡ emptied tree (path_at session h hs) moment → table.handles ≡ turned_past (is_under (path_of text)) hs → (told : ChangeReply) →
        told ≡ plain → length keys.bins.bytes ≡ length store.tree.bins.bytes →
        KnowsKeys (record { tree = keys; handles = table; watches = store.watches }) →
        IsDone store (record { tree = keys; handles = table; watches = store.watches }) session moment n (DeleteTree h path) told
    contents-done moment keys table text none names gone turn told e long known =
        let own : path_of text ≡ path_at session h hs = names ∙ from-nowhere (path_at session h hs) path none in
        let handles = turn ∙ ap (λ (p : Path). turned_past (is_under p) hs) own in
        let world : world_of (record { tree = keys; handles = table; watches = store.watches }) ≡ gone-contents moment = λ i. record { tree = gone i; handles = handles i } in
        tree-done moment keys table (world ∙ sym (cond-true (length path == 0) _ _ (ap (λ (x : List ℕ). length x == 0) none))) told e long known

  -- ---- SetSecurity

  module _ (h : ℕ) (descriptor : List ℕ) (c : change_cause s session (SetSecurity h descriptor) 0 ≡ None) where
    pub secure-described : (1 ≤ length descriptor) × (length descriptor ≤ DESCRIPTOR_LIMIT)
    secure-described = let m = secure-met s session h descriptor 0 c in described descriptor m.good

    pub secure-done : (moment : ℕ) (keys : Keys) → keys.tree ≡ edited tree (path_at session h hs) (with_descriptor descriptor moment) → (told : ChangeReply) →
        told ≡ plain → length store.tree.bins.bytes ≤ length keys.bins.bytes → length keys.bins.bytes ≤ length store.tree.bins.bytes + GROWTH_BOUND →
        KnowsKeys (record { tree = keys; handles = store.handles; watches = store.watches }) →
        IsDone store (record { tree = keys; handles = store.handles; watches = store.watches }) session moment n (SetSecurity h descriptor) told
    unfolding after reply_to watch_of changes_keys
    secure-done moment keys set told e kept larger known = record { world = λ i. record { tree = set i; handles = hs }; reply = e; kept_keys = λ none. absurd (cc); kept = kept; grows = larger; known = known; watches = refl }

  -- ---- Notify

  module _ (h filter : ℕ) (subtree : Bool) (c : change_cause s session (Notify h filter subtree) 0 ≡ None) where
    pub watch-room : watches_of session store.watches.pending < WATCHES_LIMIT
    watch-room = let m = notify-met s session h filter subtree 0 c in let few = m.few in grind (arith, nat_tests, few)

    pub watch-target : Target (look session h hs)
    watch-target = let m = notify-met s session h filter subtree 0 c in m.target

    abbrev watch : Path → Watch
    watch p = record { number = n.next; session = session; handle = h; path = p; filter = filter; subtree = subtree }

    pub notify-done : (moment : ℕ) (watches : Watches) (p : Path) → p ≡ path_at session h hs → Adds (watch p) store.watches watches → (told : ChangeReply) → told ≡ plain →
        IsDone store (record { tree = store.tree; handles = store.handles; watches = watches }) session moment n (Notify h filter subtree) told
    unfolding after reply_to watch_of changes_keys
    notify-done moment watches p here adds told e = record {
      world = refl;
      reply = e;
      kept_keys = λ none. refl;
      kept = omega arith;
      grows = no-growth store;
      known = ready.known;
      watches = subst (λ (q : Path). Adds (watch q) store.watches watches) here adds;
    }

  -- ---- Close

  pub close-has : (h : ℕ) → change_cause s session (Close h) 0 ≡ None → is_some (look session h hs) ≡ true
  close-has h c = close-met s session h 0 c

  pub close-done : (moment h : ℕ) (table : Table Node) → table.handles ≡ closed h hs → (told : ChangeReply) → told ≡ plain →
      KnowsKeys (record { tree = store.tree; handles = table; watches = store.watches }) →
      IsDone store (record { tree = store.tree; handles = table; watches = store.watches }) session moment n (Close h) told
  unfolding after reply_to watch_of changes_keys
  close-done moment h table shut told e known = record { world = λ i. record { tree = tree; handles = shut i }; reply = e; kept_keys = λ none. refl; kept = omega arith; grows = no-growth store; known = known; watches = refl }

-- ---- a change that isn't made

pub lacks_full : (fault : ArenaFault) (lack : Lack) → lack ≡ lack_of fault → lack ≡ Space → fault ≡ Full
lacks_full Full lack e space = refl
lacks_full NoMemory lack e space = absurd (cc)

pub lacking : (old new : Store) (session moment : ℕ) (n : JournalEnd) (change : Change) (lack : Lack) → IsUnchanged old new → is_closing change ≡ false →
    (lack ≡ Space → LacksSpace old.tree old.handles.handles session change) → IsMade old new session moment n change (Err lack)
lacking old new session moment n change Space same opens space = (same, space refl)
lacking old new session moment n change Short same opens space = (same, opens)

-- ---- no space for the cells of a change, by the path of the handle's key

pub set-lacks : (store : Store) (session h : ℕ) (node : Node) → IsAt store.tree (path_at session h store.handles.handles) node → (name : List ℕ) (size : ℕ) →
    LacksRoom store.tree.bins (value_sizes (heap_of store.tree.bins) node.offset name size) →
    LacksRoom store.tree.bins (value_sizes_at store.tree (path_at session h store.handles.handles) name size)
set-lacks store session h node at name size lacks =
    subst (LacksRoom store.tree.bins) (sizes_by_path store.tree (path_at session h store.handles.handles) node at name size) lacks
