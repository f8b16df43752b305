-- What an accepted change of an import leaves, by the handles that it has open.
use Rattle.std.proofs.Common.{◌≡◌, ◌≢◌, ℕ, ◌<◌, Bool, true, false, cond, ◌==◌, List, [], ◌∷◌, ◌++◌, length, Option, Some, None, refl, sym, ap, ◌∙◌, subst, is_some, not}
use Rattle.std.specs.List.{AllByRecursion}
use Rattle.std.specs.FinMap.{get}
use Rattle.reg_names.specs.Names.{is_path, path_of}
use Rattle.reg_heap.specs.Paths.{Path, Tree}
use Rattle.reg_heap.specs.Edits.{folded_path, with_keys, edited, with_value, without_value, without_tree, emptied, is_under, is_within}
use Rattle.reg_model.specs.declared.call.Change.{Change}
use Rattle.reg_model.specs.declared.call.Change.TheVariants.{OpenRoot, CreateKey, SetValue, DeleteValue, DeleteTree, Close}
use Rattle.reg_model.specs.declared.reply.ChangeReply.{ChangeReply}
use Rattle.reg_model.specs.Worlds.{World, Handle, after, opened, look, path_at, path_from, without_branch, without_contents, turned_past}
use Rattle.reg_model.specs.Causes.{Opening, rule_of, is_mask}
use Rattle.reg_model.specs.Replies.{reply_to, if_opened}
use Rattle.reg_model.specs.Histories.{replay}
use Rattle.reg_model.proofs.JournalGrowth.{replay-push}
use Rattle.reg_model.proofs.LegalJournals.{rising-all}
use Rattle.reg_model.proofs.AcceptedCalls.{Target, create-met, set-met, drop-met, delete-tree-met, both_false, not_false}
use Rattle.reg_calls.specs.Views.{View, IsHive, IsAccepted, next_of, state, entry_of}
use Rattle.reg_dotreg_import.specs.declared.entries.TheConstants.{ALL_RIGHTS}
use Rattle.reg_dotreg_import.specs.ImportStops.{IsOpenAt}
use Rattle.reg_dotreg_import.specs.Imports.{numbers_of}
use Rattle.reg_dotreg_import.specs.Internal.Standing.{IsMade, IsRooted, AreOpen}
use Rattle.reg_dotreg_import.proofs.OpenNumbers.{numbers-turned, open-first, open-second, close-second, close-first, open-still}
use Rattle.reg_dotreg_import.proofs.OpenHandleLemmas.{open-below, open-more, open-closed, open-new, open-turned, open-path}

-- ---- the world that a change leaves

abbrev pub world_of : View → World
world_of v = record { tree = v.keys.tree; handles = v.handles }

world-is : (v : View) → IsHive v → world_of v ≡ (state v).world
world-is v h =
    ap (λ (t : Tree). record { tree = t; handles = v.handles }) h.tree
    ∙ ap (λ (hs : List Handle). record { tree = (replay v.origin v.journal).tree; handles = hs }) h.handles

pub stepped : (old new : View) (moment : ℕ) (change : Change) (reply : ChangeReply) → IsHive old → IsAccepted old new 0 moment change reply →
    world_of new ≡ after (world_of old) (entry_of old 0 moment change)
stepped old new moment change reply h a =
    let e = entry_of old 0 moment change in
    world-is new a.hive ∙ ap (λ (t : Tree). replay t new.journal) a.origin ∙ ap (replay old.origin) a.journal ∙ replay-push old.origin old.journal e
    ∙ ap (λ (w : World). after w e) (sym (world-is old h))

pub below : (v : View) → IsHive v → AllByRecursion (λ (x : Handle). x.number < next_of v) v.handles
below v h = let r = rising-all v.base v.origin v.journal h.legal in subst (AllByRecursion (λ (x : Handle). x.number < next_of v)) (sym h.handles) r.below

-- a handle that is opened has the number of the entry
told : (old new : View) (moment : ℕ) (change : Change) (handle : Option ℕ) (o : Opening) → (rule_of change).opens ≡ Some o →
    IsMade old new moment change handle → handle ≡ Some (next_of old)
unfolding reply_to
told old new moment change handle o e m =
    m.opened ∙ ap (λ (r : ChangeReply). r.handle) m.accepted.says ∙ ap (λ (o : Option Opening). if_opened o (next_of old)) e

number-is : (n m : ℕ) → Some n ≡ Some m → n ≡ m
number-is n m e = cc

pub key-told : (old new : View) (moment root : ℕ) (path : List ℕ) (key : Option ℕ) → IsMade old new moment (CreateKey root path ALL_RIGHTS None) key →
    key ≡ Some (next_of old)
key-told old new moment root path key m =
    told old new moment (CreateKey root path ALL_RIGHTS None) key (record { path = path; mask = ALL_RIGHTS }) refl m

-- ---- a handle to the root

pub root-told : (old new : View) (moment : ℕ) (root : Option ℕ) → IsMade old new moment (OpenRoot ALL_RIGHTS) root → root ≡ Some (next_of old)
root-told old new moment root m = told old new moment (OpenRoot ALL_RIGHTS) root (record { path = []; mask = ALL_RIGHTS }) refl m

module _ (old new : View) (moment : ℕ) (hive : IsHive old) where
  root-world : (root : Option ℕ) → IsMade old new moment (OpenRoot ALL_RIGHTS) root →
      world_of new ≡ record { tree = old.keys.tree; handles = old.handles ++ opened (entry_of old 0 moment (OpenRoot ALL_RIGHTS)) [] ALL_RIGHTS ∷ [] }
  unfolding after
  root-world root m = stepped old new moment (OpenRoot ALL_RIGHTS) m.reply hive m.accepted

  pub root-opened : (root : ℕ) → IsMade old new moment (OpenRoot ALL_RIGHTS) (Some root) → IsRooted (numbers_of old.handles) root root new old.keys.tree
  root-opened root m =
      let w = root-world (Some root) m in
      let e = entry_of old 0 moment (OpenRoot ALL_RIGHTS) in
      let number = number-is root (next_of old) (root-told old new moment (Some root) m) in
      record {
        hive = m.accepted.hive;
        tree_is = ap (λ (w : World). w.tree) w;
        root_open = subst (λ (n : ℕ). IsOpenAt new.handles n []) (sym number)
            (subst (λ (hs : List Handle). IsOpenAt hs (next_of old) []) (sym (ap (λ (w : World). w.handles) w))
            (open-new old.handles e [] refl (below old hive)));
        own = subst (λ (n : ℕ). AreOpen (numbers_of old.handles) n n new.handles) (sym number)
            (subst (λ (hs : List Handle). AreOpen (numbers_of old.handles) (next_of old) (next_of old) hs)
            (sym (ap (λ (w : World). w.handles) w)) (open-first old.handles (opened e [] ALL_RIGHTS) (below old hive)));
      }

-- ---- changes by an open handle

module _ (before : List ℕ) (old new : View) (moment root key : ℕ) (tree : Tree) (r : IsRooted before root key old tree) where
  -- where a handle leads that was accepted
  pub led-here : (n : ℕ) (p : Path) → IsOpenAt old.handles n p → Target (look 0 n (state old).world.handles) → path_at 0 n old.handles ≡ p
  led-here n p o t = open-path old.handles n p o (subst (λ (hs : List Handle). Target (look 0 n hs)) (sym r.hive.handles) t)

  -- what a change leaves of the tree and of the open handles, where it opens and closes none
  pub record Leaves (made : Tree) : Type 0 where
    pub rooted : IsRooted before root key new made
    pub keeps : (n : ℕ) → (p : Path) → IsOpenAt old.handles n p → IsOpenAt new.handles n p

  leave : (made : Tree) → IsHive new → new.keys.tree ≡ made → ((n : ℕ) → (p : Path) → IsOpenAt old.handles n p → IsOpenAt new.handles n p) →
      numbers_of new.handles ≡ numbers_of old.handles → Leaves made
  leave made hive is keeps same = record {
    rooted = record {
      hive = hive;
      tree_is = is;
      root_open = keeps root [] r.root_open;
      own = open-still before root key old.handles new.handles same r.own;
    };
    keeps = keeps;
  }

  -- a handle closed
  pub closed-other : (reply : ChangeReply) → root ≢ key → IsAccepted old new 0 moment (Close key) reply → IsRooted before root root new tree
  unfolding after
  closed-other reply other a =
      let w = stepped old new moment (Close key) reply r.hive a in
      record {
        hive = a.hive;
        tree_is = ap (λ (w : World). w.tree) w ∙ r.tree_is;
        root_open = subst (λ (hs : List Handle). IsOpenAt hs root []) (sym (ap (λ (w : World). w.handles) w))
            (open-closed old.handles key root [] other r.root_open);
        own = subst (AreOpen before root root) (sym (ap (λ (w : World). w.handles) w)) (close-second before root key old.handles r.own other);
      }

  pub closed-tree : (n : ℕ) (reply : ChangeReply) → IsAccepted old new 0 moment (Close n) reply → new.keys.tree ≡ tree
  unfolding after
  closed-tree n reply a = ap (λ (w : World). w.tree) (stepped old new moment (Close n) reply r.hive a) ∙ r.tree_is

module _ (before : List ℕ) (old new : View) (moment root : ℕ) (tree : Tree) (r : IsRooted before root root old tree) where
  -- the last one closed
  pub closed-root : (reply : ChangeReply) → IsAccepted old new 0 moment (Close root) reply → numbers_of new.handles ≡ before
  unfolding after
  closed-root reply a =
      ap (λ (w : World). numbers_of w.handles) (stepped old new moment (Close root) reply r.hive a) ∙ close-first before root old.handles r.own

  -- a key made
  pub record KeyMade (path : List ℕ) (key : ℕ) : Type 0 where
    pub rooted : IsRooted before root key new (with_keys tree [] (path_of path) None moment)
    pub key_open : IsOpenAt new.handles key (folded_path path)
    pub good : is_path path ≡ true

  pub key-made : (path : List ℕ) (key : ℕ) → IsMade old new moment (CreateKey root path ALL_RIGHTS None) (Some key) → KeyMade path key
  unfolding after
  key-made path key m =
      let change = CreateKey root path ALL_RIGHTS None in
      let met = create-met (state old) 0 root path ALL_RIGHTS None m.status m.none in
      let at = led-here before old new moment root root tree r root [] r.root_open met.target in
      let e = entry_of old 0 moment change in
      let w = stepped old new moment change m.reply r.hive m.accepted in
      let number = number-is key (next_of old) (key-told old new moment root path (Some key) m) in
      let here = path_from 0 root old.handles path in
      let hs = sym (ap (λ (w : World). w.handles) w) in
      let root_below = open-below old.handles root (next_of old) [] (below old r.hive) r.root_open in
      record {
        rooted = record {
          hive = m.accepted.hive;
          tree_is = ap (λ (w : World). w.tree) w ∙ ap (λ (p : Path). with_keys old.keys.tree p (path_of path) None moment) at
              ∙ ap (λ (t : Tree). with_keys t [] (path_of path) None moment) r.tree_is;
          root_open = subst (λ (hs : List Handle). IsOpenAt hs root []) hs (open-more old.handles (opened e here ALL_RIGHTS) root [] root_below r.root_open);
          own = subst (λ (n : ℕ). AreOpen before root n new.handles) (sym number)
              (subst (AreOpen before root (next_of old)) hs (open-second before root old.handles (opened e here ALL_RIGHTS) r.own root_below));
        };
        key_open = subst (λ (n : ℕ). IsOpenAt new.handles n (folded_path path)) (sym number)
            (subst (λ (p : Path). IsOpenAt new.handles (next_of old) (p ++ folded_path path)) at
            (subst (λ (hs : List Handle). IsOpenAt hs (next_of old) here) hs (open-new old.handles e here refl (below old r.hive))));
        good = not_false (is_path path) (both_false (not (is_path path)) (not (is_mask ALL_RIGHTS)) met.good).0;
      }

module _ (before : List ℕ) (old new : View) (moment root key : ℕ) (tree : Tree) (r : IsRooted before root key old tree) where
  -- a value set
  pub value-set : (n : ℕ) (p : Path) (name : List ℕ) (kind : ℕ) (bytes : List ℕ) (handle : Option ℕ) → IsOpenAt old.handles n p →
      IsMade old new moment (SetValue n name kind bytes) handle → Leaves before old new moment root key tree r (edited tree p (with_value name kind bytes moment))
  unfolding after
  value-set n p name kind bytes handle o m =
      let met = set-met (state old) 0 n name kind bytes m.status m.none in
      let at = led-here before old new moment root key tree r n p o met.target in
      let w = stepped old new moment (SetValue n name kind bytes) m.reply r.hive m.accepted in
      leave before old new moment root key tree r _ m.accepted.hive
      (ap (λ (w : World). w.tree) w ∙ ap (λ (p : Path). edited old.keys.tree p (with_value name kind bytes moment)) at
      ∙ ap (λ (t : Tree). edited t p (with_value name kind bytes moment)) r.tree_is)
      (λ k q o'. subst (λ (hs : List Handle). IsOpenAt hs k q) (sym (ap (λ (w : World). w.handles) w)) o')
      (ap (λ (w : World). numbers_of w.handles) w)

  -- a value gone
  pub value-gone : (n : ℕ) (p : Path) (name : List ℕ) (handle : Option ℕ) → IsOpenAt old.handles n p →
      IsMade old new moment (DeleteValue n name) handle → Leaves before old new moment root key tree r (edited tree p (without_value name moment))
  unfolding after
  value-gone n p name handle o m =
      let met = drop-met (state old) 0 n name m.status m.none in
      let at = led-here before old new moment root key tree r n p o met.target in
      let w = stepped old new moment (DeleteValue n name) m.reply r.hive m.accepted in
      leave before old new moment root key tree r _ m.accepted.hive
      (ap (λ (w : World). w.tree) w ∙ ap (λ (p : Path). edited old.keys.tree p (without_value name moment)) at
      ∙ ap (λ (t : Tree). edited t p (without_value name moment)) r.tree_is)
      (λ k q o'. subst (λ (hs : List Handle). IsOpenAt hs k q) (sym (ap (λ (w : World). w.handles) w)) o')
      (ap (λ (w : World). numbers_of w.handles) w)

  -- keys gone
  tree-world : (path : List ℕ) (handle : Option ℕ) → IsMade old new moment (DeleteTree root path) handle →
      world_of new ≡ cond (length path == 0) (without_contents (world_of old) (path_at 0 root old.handles) moment)
      (without_branch (world_of old) (path_from 0 root old.handles path) moment)
  unfolding after
  tree-world path handle m = stepped old new moment (DeleteTree root path) m.reply r.hive m.accepted

  turned-all : (gone : Path → Bool) → turned_past gone old.handles ≡ new.handles → (n : ℕ) → (p : Path) → IsOpenAt old.handles n p → IsOpenAt new.handles n p
  turned-all gone e n p o = subst (λ (hs : List Handle). IsOpenAt hs n p) e (open-turned old.handles gone n p o)

  pub contents-gone : (path : List ℕ) (handle : Option ℕ) → (length path == 0) ≡ true → IsMade old new moment (DeleteTree root path) handle →
      Leaves before old new moment root key tree r (emptied tree [] moment)
  contents-gone path handle empty m =
      let met = delete-tree-met (state old) 0 root path m.status m.none in
      let at = led-here before old new moment root key tree r root [] r.root_open met.target in
      let p = path_at 0 root old.handles in
      let w = tree-world path handle m
      ∙ ap (λ (b : Bool). cond b (without_contents (world_of old) p moment) (without_branch (world_of old) (path_from 0 root old.handles path) moment)) empty in
      leave before old new moment root key tree r _ m.accepted.hive
      (ap (λ (w : World). w.tree) w ∙ ap (λ (p : Path). emptied old.keys.tree p moment) at ∙ ap (λ (t : Tree). emptied t [] moment) r.tree_is)
      (turned-all (is_under p) (sym (ap (λ (w : World). w.handles) w)))
      (ap (λ (w : World). numbers_of w.handles) w ∙ numbers-turned (is_under p) old.handles)

  pub branch-gone : (path : List ℕ) (handle : Option ℕ) → (length path == 0) ≡ false → IsMade old new moment (DeleteTree root path) handle →
      Leaves before old new moment root key tree r (without_tree tree (folded_path path) moment) × (is_some (get tree (folded_path path)) ≡ true)
  branch-gone path handle longer m =
      let met = delete-tree-met (state old) 0 root path m.status m.none in
      let at = led-here before old new moment root key tree r root [] r.root_open met.target in
      let p = path_from 0 root old.handles path in
      let is : p ≡ folded_path path = ap (λ (q : Path). q ++ folded_path path) at in
      let w = tree-world path handle m
      ∙ ap (λ (b : Bool). cond b (without_contents (world_of old) (path_at 0 root old.handles) moment) (without_branch (world_of old) p moment)) longer in
      let there = met.branch longer in
      let there_at = subst (λ (hs : List Handle). is_some (get (state old).world.tree (path_from 0 root hs path)) ≡ true) (sym r.hive.handles) there.there in
      let there_in = subst (λ (t : Tree). is_some (get t p) ≡ true) (sym r.hive.tree ∙ r.tree_is) there_at in (
        leave before old new moment root key tree r _ m.accepted.hive
            (ap (λ (w : World). w.tree) w ∙ ap (λ (p : Path). without_tree old.keys.tree p moment) is
            ∙ ap (λ (t : Tree). without_tree t (folded_path path) moment) r.tree_is)
            (turned-all (is_within p) (sym (ap (λ (w : World). w.handles) w)))
            (ap (λ (w : World). numbers_of w.handles) w ∙ numbers-turned (is_within p) old.handles),
        subst (λ (p : Path). is_some (get tree p) ≡ true) is there_in,
      )
