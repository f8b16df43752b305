-- What was read so far, and the rest of the walk, stay the whole walk in each turn.
use Rattle.std.proofs.Common.{◌≡◌, ℕ, suc, ◌+◌, ◌<◌, nat_lt, ◌≤◌, ◌≢◌, cond, length, Bool, true, false, Result, Ok, Err, List, [], ◌∷◌, add-one, inl, inr, refl, sym, ap, ◌∙◌, subst, arith}
use Rattle.std.proofs.lemmas.Bool.Decides.{nat_tests}
use Rattle.std.specs.FinMap.{from_entries}
use Rattle.reg_names.specs.declared.TheConstants.{PATH_LIMIT}
use Rattle.reg_heap.specs.declared.limits.TheConstants.{SUBKEYS_LIMIT}
use Rattle.reg_heap.specs.Heaps.{Heap}
use Rattle.reg_heap.specs.Paths.{Path, Rec, Tree, is_child, children_of}
use Rattle.reg_heap.specs.Edits.{child_path}
use Rattle.reg_records.specs.SubkeyLists.{Entry, SubkeysList}
use Rattle.reg_tree.specs.TreeKeys.{Keys, IsAt, KeepsNodes}
use Rattle.reg_tree_image.specs.declared.LoadFault.{LoadFault}
use Rattle.reg_tree_image.specs.declared.LoadFault.TheVariants.{Limit, Memory}
use Rattle.reg_tree_image.specs.declared.table.CellState.{CellState}
use Rattle.reg_tree_image.specs.declared.table.CellState.TheVariants.{Named, OnPath}
use Rattle.reg_tree_image.specs.declared.list_part.ListPart.{ListPart}
use Rattle.reg_tree_image.specs.declared.frames.KeyFrame.{KeyFrame}
use Rattle.reg_tree_image.specs.WalkSteps.{Seen, Step, ◌>>=◌, onward}
use Rattle.reg_tree_image.specs.LoadingWalk.{root_path, key_from, leaf_from, keys_each, lists_each}
use Rattle.reg_tree_image.specs.Images.{nothing, tree_told}
use Rattle.reg_tree_image.specs.WalkedKeys.{Comes}
use Rattle.reg_tree_image.specs.CrowdedBins.{BuildsAll}
use Rattle.reg_tree_image.specs.Internal.CellStates.{state_in, Puts, IsTable}
use Rattle.reg_tree_image.specs.Internal.ReaderOutcomes.{Fails, Follows}
use Rattle.reg_tree_image.specs.Internal.ListParts.{entries_in, list_in}
use Rattle.reg_tree_image.specs.Internal.Frames.{Frame, frame_left, left, ComesInFrame, ComesLeft}
use Rattle.reg_tree_image.specs.Internal.Stacks.{path_of, Shows, AreShown, IsDeep, IsWalking, IsReadAt, FailsAs, IsBegun, Begins}
use Rattle.reg_tree_image.specs.Internal.Stacks.{ComesCrowded, IsRootCrowded}
use Rattle.reg_tree_image.proofs.KeyStacks.ChildCounts.{no-child-of}
use Rattle.reg_tree_image.proofs.KeyStacks.WalkedOn.{left-comes, list-comes, key-comes, next-comes}
use Rattle.reg_tree_image.proofs.NamedCells.CellNaming.{left-table}

-- what a walk gives
abbrev Told : Type 0
Told = Result (Unit {0} × Seen) LoadFault

-- a key below one of the path, and all below it
abbrev go : Heap → ℕ → ℕ → Frame → ℕ → Step (Unit {0})
go heap minor levels f = key_from heap minor levels f.path (child_path f.at)

-- ---- faults

-- a fault of a list of keys is the whole walk's
list-fails : {A : Type 0} (crowded : Type 0) (fault : LoadFault) (s : Step A) (f : Result (A × Seen) LoadFault → Told) (seen : Seen)
    (whole : Told) → ((e : LoadFault) → f (Err e) ≡ Err e) → f (s seen) ≡ whole → Fails fault s seen → FailsAs crowded fault whole
list-fails crowded Memory s f seen whole h w e = tt
list-fails crowded Limit s f seen whole h w e = inl (sym w ∙ (ap f e ∙ h Limit))
list-fails crowded fault s f seen whole h w e = sym w ∙ (ap f e ∙ h fault)

-- a fault of a key is the whole walk's
key-fails : (here crowded : Type 0) (fault : LoadFault) (x : Told) (f : Told → Told) (whole : Told) →
    ((e : LoadFault) → f (Err e) ≡ Err e) → f x ≡ whole → (here → crowded) → FailsAs here fault x → FailsAs crowded fault whole
key-fails here crowded Memory x f whole h w c e = tt
key-fails here crowded Limit x f whole h w c (inl e) = inl (sym w ∙ (ap f e ∙ h Limit))
key-fails here crowded Limit x f whole h w c (inr k) = inr (c k)
key-fails here crowded fault x f whole h w c e = sym w ∙ (ap f e ∙ h fault)

pub not-many : (n : ℕ) → n < SUBKEYS_LIMIT → nat_lt n SUBKEYS_LIMIT ≡ true
not-many n l = grind (arith, nat_tests)

-- what follows a result, in two ways
pub regroup : {A B C D : Type 0} (f : A → Step B) (g : B → Step C) (h : C → Step D) (x : Result (A × Seen) LoadFault) →
    onward h (onward g (onward f x)) ≡ onward (λ a. (f a >>= g) >>= h) x
regroup f g h (Ok x) = refl
regroup f g h (Err e) = refl

-- one was named more, and no more than one was built
one-named : (b : Bool) (old new count : ℕ) → new ≤ old + cond b 1 0 → old ≤ count → new ≤ suc count
one-named true old new count l few = omega (arith, l, few)
one-named false old new count l few = omega (arith, l, few)

-- ---- the keys above

-- a key of another length than a child's isn't below the one at a path, so none more is there
no-more : (p q : Path) (old new count : ℕ) → new ≤ old + cond (is_child p q) 1 0 → length q ≢ length p + 1 → old ≤ count → new ≤ count
no-more p q old new count l n few =
    let none : ◌≡◌ {A = ℕ} (cond (is_child p q) 1 0) 0 = ap {B = ℕ} (λ b. cond b 1 0) (no-child-of p q n) in
    omega (arith, l, none, few)

module _ (old new : Keys) (keeps : KeepsNodes old new) (at : Path) (lower : ℕ) (deep : lower + length at ≡ PATH_LIMIT)
    (one : (p : Path) → length (children_of new.tree p) ≤ length (children_of old.tree p) + cond (is_child p at) 1 0) where
  -- each stays in its place while another one is built, two levels deeper or more
  shown-on : (levels : ℕ) → lower + 2 ≤ levels → (stack : List KeyFrame) (frames : List Frame) → IsDeep levels stack →
      AreShown old stack frames → AreShown new stack frames
  shown-on levels apart [] [] d a = tt
  shown-on levels apart [] (f ∷ frames) d a = absurd a
  shown-on levels apart (key ∷ above) [] d a = absurd a
  shown-on levels apart (key ∷ above) (f ∷ frames) d a = (
    record {
      node = keeps f.at key.node a.0.node;
      count = a.0.count;
      few = no-more f.at at (length (children_of old.tree f.at)) (length (children_of new.tree f.at)) f.count (one f.at)
          (λ e. let here = a.0.node.depth in let its = d.0 in absurd (omega (arith, e, here, its, deep, apart))) a.0.few;
      entries = a.0.entries;
      lists = a.0.lists;
    },
    a.1,
    shown-on (suc levels) (omega (arith, apart)) above frames d.1 a.2,
  )

module _ (ahead : Bool) (heap : Heap) (minor root : ℕ) (whole : Told) (key : KeyFrame) (above : List KeyFrame) (old new : List CellState) (keys : Keys)
    (w : IsWalking ahead heap minor root whole (key ∷ above) old keys) where
  -- the root of the walk comes to a key that there is no room for
  abbrev crowded : Type 0
  crowded = IsRootCrowded ahead heap minor root

  -- what comes in what is left comes in the walk from the root on
  abbrev AllComes : ℕ → List Frame → Seen → Type 0
  AllComes levels frames seen =
      (later : Seen) → ComesLeft heap minor later levels frames seen → Comes heap minor later (suc PATH_LIMIT) [] root_path root nothing

  -- what is made of the lowest key's frame and those above it
  abbrev FromLowest : Type 0 → Type 0
  FromLowest R =
      (f : Frame) (frames : List Frame) → Shows keys key f → f.path ≡ key.offset ∷ path_of frames → AreShown keys above frames →
      IsTable heap w.seen.found f.path old → left heap minor w.levels (f ∷ frames) w.seen ≡ whole →
      AllComes w.levels (f ∷ frames) w.seen → R

  by-frame : {R : Type 0} → FromLowest R → R
  by-frame {R} then = by w.frames w.shown w.table w.rest w.comes
    where
      by : (frames : List Frame) → AreShown keys (key ∷ above) frames → IsTable heap w.seen.found (path_of frames) old →
          left heap minor w.levels frames w.seen ≡ whole → AllComes w.levels frames w.seen → R
      by [] a t r m = absurd a
      by (f ∷ frames) a t r m = then f frames a.0 a.1 a.2 t r m

  -- ---- nothing is left of the key
  pub walking-left : entries_in key.leaf ≡ [] → entries_in key.lists ≡ [] →
      (state_in old key.offset ≡ OnPath → Puts old new key.offset Named) → IsWalking ahead heap minor root whole above new keys
  walking-left e l p = by-frame by
    where
      by : FromLowest (IsWalking ahead heap minor root whole above new keys)
      by f frames a path shown t r m =
          let es : f.entries ≡ [] = sym a.entries ∙ e in
          let ls : f.lists ≡ [] = sym a.lists ∙ l in
          let t' : IsTable heap w.seen.found (key.offset ∷ path_of frames) old = subst (λ x. IsTable heap w.seen.found x old) path t in
          record {
            seen = w.seen;
            frames = frames;
            levels = suc w.levels;
            shown = shown;
            depths = w.depths.1;
            table = left-table heap w.seen.found key.offset (path_of frames) old new t' p;
            told = w.told;
            built = w.built;
            rest = rw (es, ls) at r;
            comes = λ later k. m later (left-comes heap minor later w.levels f frames w.seen es ls k);
          }

  -- ---- the next list of keys
  module _ (e : Entry) (part : ListPart) (empty : entries_in key.leaf ≡ []) (more : entries_in key.lists ≡ e ∷ entries_in part) where
    pub walking-list : (leaf : ListPart) → ((path : List ℕ) → Follows heap path list_in (leaf_from heap path e.offset) old new (Ok leaf)) →
        IsWalking ahead heap minor root whole (record key { leaf = leaf; lists = part } ∷ above) new keys
    walking-list leaf follows = by-frame by
      where
        by : FromLowest (IsWalking ahead heap minor root whole (record key { leaf = leaf; lists = part } ∷ above) new keys)
        by f frames a path shown t r m =
            let es : f.entries ≡ [] = sym a.entries ∙ empty in
            let ls : f.lists ≡ e ∷ entries_in part = sym a.lists ∙ more in
            let d = follows f.path w.seen t in
            let g = d.gives in
            record {
              seen = d.after;
              frames = record f { entries = entries_in leaf; lists = entries_in part } ∷ frames;
              levels = w.levels;
              shown = (record { node = a.node; count = a.count; few = a.few; entries = refl; lists = refl }, path, shown);
              depths = w.depths;
              table = d.table;
              told = w.told ∙ ap (λ (told : List (Path × Rec)). from_entries told) (sym d.told);
              built = subst (λ (told : List (Path × Rec)). BuildsAll ahead told keys) (sym d.told) w.built;
              rest = rw g at (rw (es, ls) at r);
              comes = λ later k. m later
                  (list-comes heap minor later w.levels f frames w.seen e (entries_in part) es ls (list_in leaf) d.after g k);
            }

    pub walking-list-fails : (fault : LoadFault) →
        ((path : List ℕ) → Follows heap path list_in (leaf_from heap path e.offset) old new (Err fault)) → FailsAs crowded fault whole
    walking-list-fails fault follows = by-frame by
      where
        by : FromLowest (FailsAs crowded fault whole)
        by f frames a path shown t r m =
            let es : f.entries ≡ [] = sym a.entries ∙ empty in
            let ls : f.lists ≡ e ∷ entries_in part = sym a.lists ∙ more in
            let rest : SubkeysList → Step (Unit {0}) =
            (λ list. keys_each (go heap minor w.levels f) f.count list.entries
            >>= (λ m. lists_each heap (go heap minor w.levels f) f.path m (entries_in part))) in
            list-fails crowded fault (leaf_from heap f.path e.offset) (λ x. onward (λ _. left heap minor (suc w.levels) frames) (onward rest x))
            w.seen whole (λ e. refl) (rw (es, ls) at r) (follows f.path w.seen t)

  -- ---- the next key
  module _ (e : Entry) (part : ListPart) (more : entries_in key.leaf ≡ e ∷ entries_in part) (few : key.count < SUBKEYS_LIMIT) where
    -- the next subkey is begun, or its fault is met, wherever the lowest key stands and whatever was seen by then
    abbrev Goes : Keys → Result KeyFrame LoadFault → Type 0
    Goes after result =
        (levels : ℕ) → (path : List ℕ) → (at : Path) → (seen : Seen) → IsTable heap seen.found path old → keys.tree ≡ tree_told seen →
        BuildsAll ahead seen.told keys → IsAt keys at key.node → levels + key.node.depth ≡ PATH_LIMIT →
        Begins ahead heap minor levels path (child_path at) e.offset seen new after result

    -- the lowest key, of which one subkey more was named
    abbrev named-one : Frame → Frame
    named-one f = record f { count = suc f.count; entries = entries_in part }

    -- what is left once that subkey was walked
    abbrev behind : ℕ → Frame → List Frame → Told → Told
    behind levels f frames = onward (λ _. left heap minor levels (named-one f ∷ frames))

    goes-on : (levels : ℕ) (f : Frame) (frames : List Frame) (seen : Seen) → Shows keys key f →
        left heap minor levels (f ∷ frames) seen ≡ behind levels f frames (go heap minor levels f e.offset seen)
    goes-on levels f frames seen a =
        let es : f.entries ≡ e ∷ entries_in part = sym a.entries ∙ more in
        let n = not-many f.count (subst (λ n. n < SUBKEYS_LIMIT) a.count few) in
        rw (es, n)
        (regroup (λ _. keys_each (go heap minor levels f) (suc f.count) (entries_in part))
        (λ m. lists_each heap (go heap minor levels f) f.path m f.lists)
        (λ _. left heap minor (suc levels) frames) (go heap minor levels f e.offset seen))

    -- what comes in the subkey, or behind it, comes in what was left before
    below-comes : (later : Seen) (f : Frame) (frames : List Frame) → Shows keys key f → (lower : ℕ) → w.levels ≡ suc lower →
        (frame : Frame) (after : Seen) →
        (ComesInFrame heap minor later lower frame after → Comes heap minor later w.levels f.path (child_path f.at) e.offset w.seen) →
        go heap minor w.levels f e.offset w.seen ≡ frame_left heap minor lower frame after →
        ComesLeft heap minor later lower (frame ∷ named-one f ∷ frames) after → ComesLeft heap minor later w.levels (f ∷ frames) w.seen
    below-comes later f frames a lower level frame after begun rest k = by k
      where
        es : f.entries ≡ e ∷ entries_in part
        es = sym a.entries ∙ more

        less : f.count < SUBKEYS_LIMIT
        less = subst (λ n. n < SUBKEYS_LIMIT) a.count few

        by : ComesLeft heap minor later lower (frame ∷ named-one f ∷ frames) after → ComesLeft heap minor later w.levels (f ∷ frames) w.seen
        by (inl k) = key-comes heap minor later w.levels f frames w.seen e (entries_in part) es less (not-many f.count less) (begun k)
        by (inr k) =
            next-comes heap minor later w.levels f frames w.seen e (entries_in part) es less (not-many f.count less) k.0 (rest ∙ k.1)
            (subst (λ n. ComesLeft heap minor later n (named-one f ∷ frames) k.0) (sym level) k.2)

    pub walking-key : (below : KeyFrame) (after : Keys) → KeepsNodes keys after → Goes after (Ok below) →
        IsWalking ahead heap minor root whole (below ∷ record key { count = key.count + 1; leaf = part } ∷ above) new after
    walking-key below after keeps goes = by-frame by
      where
        by : FromLowest (IsWalking ahead heap minor root whole (below ∷ record key { count = key.count + 1; leaf = part } ∷ above) new after)
        by f frames a path shown t r m =
            let b : IsBegun ahead heap minor w.levels f.path (child_path f.at) e.offset w.seen new after below =
            goes w.levels f.path f.at w.seen t w.told w.built a.node w.depths.0 in
            let one = subst (λ (tree : Tree). (p : Path) → length (children_of after.tree p) ≤
            length (children_of tree p) + cond (is_child p b.frame.at) 1 0) (sym w.told) b.one in
            record {
              seen = b.after;
              frames = b.frame ∷ named-one f ∷ frames;
              levels = b.lower;
              shown = (
                b.shown,
                b.path_is ∙ ap (λ o. o ∷ f.path) (sym b.offset_is),
                (
                  record {
                    node = keeps f.at key.node a.node;
                    count = add-one key.count ∙ ap suc a.count;
                    few = one-named (is_child f.at b.frame.at) (length (children_of keys.tree f.at)) (length (children_of after.tree f.at))
                        f.count (one f.at) a.few;
                    entries = refl;
                    lists = a.lists;
                  },
                  path,
                  shown-on keys after keeps b.frame.at b.lower (let d = b.depth in let n = b.shown.node.depth in omega (arith, d, n)) one
                      (suc w.levels) (let l = b.levels_are in omega (arith, l)) above frames w.depths.1 shown,
                ),
              );
              depths = (b.depth, subst (λ n. IsDeep n (key ∷ above)) b.levels_are w.depths);
              table = subst (λ x. IsTable heap b.after.found x new) (sym b.path_is) b.table;
              told = b.told;
              built = b.built;
              rest = ap (behind (suc b.lower) f frames) (sym b.rest)
                  ∙ (ap (λ n. behind n f frames (go heap minor w.levels f e.offset w.seen)) (sym b.levels_are)
                  ∙ (sym (goes-on w.levels f frames w.seen a) ∙ r));
              comes = λ later k. m later
                  (below-comes later f frames a b.lower b.levels_are b.frame b.after (b.comes later) b.rest k);
            }

    pub walking-key-fails : (after : Keys) (fault : LoadFault) → Goes after (Err fault) → FailsAs crowded fault whole
    walking-key-fails after fault goes = by-frame by
      where
        by : FromLowest (FailsAs crowded fault whole)
        by f frames a path shown t r m =
            key-fails (ComesCrowded ahead heap minor w.levels f.path (child_path f.at) e.offset w.seen) crowded fault
            (go heap minor w.levels f e.offset w.seen) (behind w.levels f frames) whole (λ e. refl)
            (sym (goes-on w.levels f frames w.seen a) ∙ r)
            (λ c. (
              c.0,
              m c.0 (key-comes heap minor c.0 w.levels f frames w.seen e (entries_in part) (sym a.entries ∙ more)
                  (subst (λ n. n < SUBKEYS_LIMIT) a.count few) (not-many f.count (subst (λ n. n < SUBKEYS_LIMIT) a.count few)) c.1),
              c.2,
            ))
            (goes w.levels f.path f.at w.seen t w.told w.built a.node w.depths.0)

-- of the lowest key fewer subkeys were built than a key may have
pub few-built : (ahead : Bool) (heap : Heap) (minor root : ℕ) (whole : Told) (key : KeyFrame) (above : List KeyFrame) (old : List CellState) (keys : Keys) →
    IsWalking ahead heap minor root whole (key ∷ above) old keys → key.count < SUBKEYS_LIMIT →
    (p : Path) × IsAt keys p key.node × (length (children_of keys.tree p) < SUBKEYS_LIMIT)
few-built ahead heap minor root whole key above old keys w few =
    by-frame ahead heap minor root whole key above old old keys w (λ f frames a path shown t r m.
    (f.at, a.node, (let n = a.count in let l = a.few in omega (arith, n, l, few))))

-- the walk has come to the lowest key
pub read-at : (ahead : Bool) (heap : Heap) (minor root : ℕ) (whole : Told) (key : KeyFrame) (above : List KeyFrame) (old : List CellState) (keys : Keys) →
    IsWalking ahead heap minor root whole (key ∷ above) old keys → IsReadAt heap old keys key.node
read-at ahead heap minor root whole key above old keys w =
    by-frame ahead heap minor root whole key above old old keys w (λ f frames a path shown t r m.
    record { levels = w.levels; path = f.path; at = f.at; seen = w.seen; table = t; told = w.told; there = a.node; deep = w.depths.0 })

-- ---- the first key

pub onward-same : (x : Told) → onward (λ _ seen. Ok (tt, seen)) x ≡ x
onward-same (Ok x) = refl
onward-same (Err e) = refl

pub walking-first : (ahead : Bool) (heap : Heap) (minor root : ℕ) (states : List CellState) (keys : Keys) (key : KeyFrame) →
    IsBegun ahead heap minor (suc PATH_LIMIT) [] root_path root nothing states keys key →
    IsWalking ahead heap minor root (key_from heap minor (suc PATH_LIMIT) [] root_path root nothing) (key ∷ []) states keys
walking-first ahead heap minor root states keys key b = record {
  seen = b.after;
  frames = b.frame ∷ [];
  levels = b.lower;
  shown = (b.shown, b.path_is ∙ ap (λ o. o ∷ []) (sym b.offset_is), tt);
  depths = (b.depth, tt);
  table = subst (λ path. IsTable heap b.after.found path states) (sym b.path_is) b.table;
  told = b.told;
  built = b.built;
  rest = onward-same (frame_left heap minor b.lower b.frame b.after) ∙ sym b.rest;
  comes = λ later k. only later k;
}
  where
    only : (later : Seen) → ComesLeft heap minor later b.lower (b.frame ∷ []) b.after →
        Comes heap minor later (suc PATH_LIMIT) [] root_path root nothing
    only later (inl k) = b.comes later k
    only later (inr k) = absurd k.2
