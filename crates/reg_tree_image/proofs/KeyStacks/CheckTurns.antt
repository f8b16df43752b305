-- Where no key is built, what was read so far, and the rest of the walk, stay the whole walk in each turn.
use Rattle.std.proofs.Common.{◌≡◌, ℕ, suc, ◌+◌, ◌<◌, ◌≤◌, nat_lt, false, length, reverse, Option, Some, Result, Ok, Err, List, [], ◌∷◌, ◌++◌, add-one, refl, sym, ap, ◌∙◌, subst, arith}
use Rattle.std.specs.Result.{MatchResult}
use Rattle.std.proofs.lemmas.Bool.Decides.{nat_tests}
use Rattle.std.proofs.lemmas.List.{reverse-append}
use Rattle.reg_names.specs.declared.TheConstants.{PATH_LIMIT}
use Rattle.reg_heap.specs.declared.limits.TheConstants.{SUBKEYS_LIMIT}
use Rattle.reg_heap.specs.Heaps.{Heap}
use Rattle.reg_heap.specs.Paths.{Path, Rec}
use Rattle.reg_heap.specs.Edits.{child_path}
use Rattle.reg_records.specs.SubkeyLists.{Entry, SubkeysList}
use Rattle.reg_tree_image.specs.declared.LoadFault.{LoadFault}
use Rattle.reg_tree_image.specs.declared.LoadFault.TheVariants.{Limit, Memory}
use Rattle.reg_tree_image.specs.declared.table.CellState.{CellState}
use Rattle.reg_tree_image.specs.declared.table.CellState.TheVariants.{Named, OnPath}
use Rattle.reg_tree_image.specs.declared.list_part.ListPart.{ListPart}
use Rattle.reg_tree_image.specs.declared.sibling_names.SiblingNames.{SiblingNames}
use Rattle.reg_tree_image.specs.declared.checking.CheckedKey.{CheckedKey}
use Rattle.reg_tree_image.specs.WalkSteps.{Seen, Step, ◌>>=◌, onward}
use Rattle.reg_tree_image.specs.LoadingWalk.{is_free, root_path, key_from, leaf_from, keys_each, lists_each}
use Rattle.reg_tree_image.specs.Images.{nothing}
use Rattle.reg_tree_image.specs.FaultPlaces.{Spot, Where, nowhere, spot, then_place, keys_spot, lists_spot, key_spot}
use Rattle.reg_tree_image.specs.Internal.CellStates.{state_in, Puts, IsTable}
use Rattle.reg_tree_image.specs.Internal.ReaderOutcomes.{Fails, Follows}
use Rattle.reg_tree_image.specs.Internal.ListParts.{entries_in, list_in}
use Rattle.reg_tree_image.specs.Internal.Frames.{Frame, frame_left, left}
use Rattle.reg_tree_image.specs.Internal.FaultSpots.{frame_spot, left_spot, root_spot, IsMetAt}
use Rattle.reg_tree_image.specs.Internal.Stacks.{path_of}
use Rattle.reg_tree_image.specs.Internal.CheckedStacks.{Meets, AreSiblings, HasAllAbove, Shows, AreShown, IsChecking, frame_of, IsChecked}
use Rattle.reg_tree_image.proofs.KeyStacks.WalkTurns.{not-many, regroup, onward-same}
use Rattle.reg_tree_image.proofs.KeyStacks.KeysTold.{child-length, all-above-first, all-above-more, taken-still, taken-last, one-sibling, same-siblings, no-siblings}
use Rattle.reg_tree_image.proofs.NamedCells.CellNaming.{left-table}
use Rattle.reg_tree_image.proofs.WalkedBack.KeyOffsets.{leaf-keys}

-- what a walk gives
abbrev Told : Type 0
Told = Result (Unit {0} × Seen) LoadFault

-- a key below one of the path, and all below it
abbrev go : Heap → ℕ → ℕ → Frame → ℕ → Step (Unit {0})
go heap minor levels f = key_from heap minor levels f.path (child_path f.at)

-- and where that fails
abbrev goes : Heap → ℕ → ℕ → Frame → ℕ → Where Spot
goes heap minor levels f = key_spot heap minor levels f.path (child_path f.at)

-- ---- faults

-- a fault of a list of keys is the whole walk's
list-meets : {A : Type 0} (fault : LoadFault) (s : Step A) (f : Result (A × Seen) LoadFault → Told) (seen : Seen) (whole : Told) →
    ((e : LoadFault) → f (Err e) ≡ Err e) → f (s seen) ≡ whole → Fails fault s seen → Meets fault whole
list-meets Memory s f seen whole h w e = tt
list-meets fault s f seen whole h w e = sym w ∙ (ap f e ∙ h fault)

-- a fault of a key is the whole walk's
key-meets : (fault : LoadFault) (x : Told) (f : Told → Told) (whole : Told) → ((e : LoadFault) → f (Err e) ≡ Err e) → f x ≡ whole →
    Meets fault x → Meets fault whole
key-meets Memory x f whole h w e = tt
key-meets fault x f whole h w e = sym w ∙ (ap f e ∙ h fault)

-- a list of keys fails at its own offset, and so does the whole walk
list-spot : {A : Type 0} (fault : LoadFault) (s : Step A) (f : Result (A × Seen) LoadFault → Option Spot) (seen : Seen) (its : Spot) (there : Option Spot) →
    ((e : LoadFault) → f (Err e) ≡ Some its) → f (s seen) ≡ there → Fails fault s seen → IsMetAt fault its there
list-spot Memory s f seen its there h w e = tt
list-spot fault s f seen its there h w e = sym w ∙ (ap f e ∙ h fault)

-- where a key fails, the whole walk fails
key-spot-met : (fault : LoadFault) (x : Told) (place then : Where Spot) (seen : Seen) (its : Spot) (there : Option Spot) →
    then_place place (λ _. then) seen x ≡ there → Meets fault x → IsMetAt fault its (place seen) → IsMetAt fault its there
key-spot-met Memory x place then seen its there w e m = tt
key-spot-met fault x place then seen its there w e m = sym w ∙ (ap (then_place place (λ _. then) seen) e ∙ m)

-- a step, and where it fails, put in the place of another
behind-same : (p q then : Where Spot) (s t : Seen) (x y : Told) → p s ≡ q t → x ≡ y → then_place p (λ _. then) s x ≡ then_place q (λ _. then) t y
behind-same p q then s t x y e f = ap (then_place p (λ _. then) s) f ∙ by y
  where
    by : (y : Told) → then_place p (λ _. then) s y ≡ then_place q (λ _. then) t y
    by (Ok x) = refl
    by (Err fault) = e

-- ---- the keys above

-- each stays as it is while another key is told, two levels deeper or more
module _ (at : Path) (rec : Rec) (seen after : Seen) (told : after.told ≡ seen.told ++ (at, rec) ∷ []) where
  shown-on : (levels : ℕ) → PATH_LIMIT + 2 ≤ length at + levels → (stack : List CheckedKey) (frames : List Frame) →
      AreShown seen.told levels stack frames → AreShown after.told levels stack frames
  shown-on levels apart [] [] a = tt
  shown-on levels apart [] (f ∷ frames) a = absurd a
  shown-on levels apart (key ∷ above) [] a = absurd a
  shown-on levels apart (key ∷ above) (f ∷ frames) a = (
    record {
      count = a.0.count;
      entries = a.0.entries;
      lists = a.0.lists;
      names = same-siblings f.at at rec seen after key.names told
          (λ e. let deep = a.3 in absurd (omega (arith, e, deep, apart))) a.0.names;
      itself = ap (is_free f.at) told ∙ taken-still f.at at rec seen.told a.0.itself;
    },
    a.1,
    a.2,
    a.3,
    shown-on (suc levels) (omega (arith, apart)) above frames a.4,
  )

module _ (heap : Heap) (minor : ℕ) (whole : Told) (there : Option Spot) (key : CheckedKey) (above : List CheckedKey) (old new : List CellState)
    (noted trail : List ℕ) (w : IsChecking heap minor whole there (key ∷ above) old noted trail) where
  -- what is made of the lowest key's frame and those above it
  abbrev FromLowest : Type 0 → Type 0
  FromLowest R =
      (f : Frame) (frames : List Frame) → Shows w.seen.told key f → f.path ≡ key.offset ∷ path_of frames → key.levels ≡ w.levels →
      w.levels + length f.at ≡ PATH_LIMIT → AreShown w.seen.told (suc w.levels) above frames →
      IsTable heap w.seen.found f.path old → left heap minor w.levels (f ∷ frames) w.seen ≡ whole →
      left_spot heap minor w.levels (f ∷ frames) w.seen ≡ there → reverse trail ≡ f.path → R

  by-frame : {R : Type 0} → FromLowest R → R
  by-frame {R} then = by w.frames w.shown w.table w.rest w.spot w.trailed
    where
      by : (frames : List Frame) → AreShown w.seen.told w.levels (key ∷ above) frames → IsTable heap w.seen.found (path_of frames) old →
          left heap minor w.levels frames w.seen ≡ whole → left_spot heap minor w.levels frames w.seen ≡ there → reverse trail ≡ path_of frames → R
      by [] a t r s q = absurd a
      by (f ∷ frames) a t r s q = then f frames a.0 a.1 a.2 a.3 a.4 t r s q

  -- ---- nothing is left of the key
  pub checking-left : entries_in key.leaf ≡ [] → entries_in key.lists ≡ [] →
      (state_in old key.offset ≡ OnPath → Puts old new key.offset Named) → (left : List ℕ) →
      ((k : ℕ) → (ks : List ℕ) → reverse trail ≡ k ∷ ks → reverse left ≡ ks) → IsChecking heap minor whole there above new noted left
  checking-left e l p left k = by-frame by
    where
      by : FromLowest (IsChecking heap minor whole there above new noted left)
      by f frames a path level deep shown t r s q =
          let es : f.entries ≡ [] = sym a.entries ∙ e in
          let ls : f.lists ≡ [] = sym a.lists ∙ l in
          let t' : IsTable heap w.seen.found (key.offset ∷ path_of frames) old = subst (λ x. IsTable heap w.seen.found x old) path t in
          record {
            seen = w.seen;
            frames = frames;
            levels = suc w.levels;
            shown = shown;
            table = left-table heap w.seen.found key.offset (path_of frames) old new t' p;
            above = w.above;
            rest = rw (es, ls) at r;
            keys = w.keys;
            spot = rw (es, ls) at s;
            trailed = k key.offset (path_of frames) (q ∙ path);
          }

  -- ---- the next list of keys
  module _ (e : Entry) (part : ListPart) (empty : entries_in key.leaf ≡ []) (more : entries_in key.lists ≡ e ∷ entries_in part) where
    -- where what is left fails, by what the reading of the list gives
    abbrev list-place : Frame → List Frame → Seen → Result (SubkeysList × Seen) LoadFault → Option Spot
    list-place f frames seen x =
        then_place
        (λ _. then_place (spot f.path e.offset)
        (λ list seen. then_place (keys_spot (go heap minor w.levels f) (goes heap minor w.levels f) f.path f.count list.entries)
        (λ m. lists_spot heap (go heap minor w.levels f) (goes heap minor w.levels f) f.path m (entries_in part)) seen
        (keys_each (go heap minor w.levels f) f.count list.entries seen)) seen x)
        (λ _. left_spot heap minor (suc w.levels) frames) seen
        (onward (λ list. keys_each (go heap minor w.levels f) f.count list.entries
        >>= (λ m. lists_each heap (go heap minor w.levels f) f.path m (entries_in part))) x)

    pub checking-list : (leaf : ListPart) → ((path : List ℕ) → Follows heap path list_in (leaf_from heap path e.offset) old new (Ok leaf)) →
        IsChecking heap minor whole there (record key { leaf = leaf; lists = part } ∷ above) new noted trail
    checking-list leaf follows = by-frame by
      where
        by : FromLowest (IsChecking heap minor whole there (record key { leaf = leaf; lists = part } ∷ above) new noted trail)
        by f frames a path level deep shown t r s q =
            let es : f.entries ≡ [] = sym a.entries ∙ empty in
            let ls : f.lists ≡ e ∷ entries_in part = sym a.lists ∙ more in
            let d = follows f.path w.seen t in
            let g = d.gives in
            let now : AreShown w.seen.told w.levels (record key { leaf = leaf; lists = part } ∷ above)
            (record f { entries = entries_in leaf; lists = entries_in part } ∷ frames) = (
              record { count = a.count; entries = refl; lists = refl; names = a.names; itself = a.itself },
              path,
              level,
              deep,
              shown,
            ) in
            record {
              seen = d.after;
              frames = record f { entries = entries_in leaf; lists = entries_in part } ∷ frames;
              levels = w.levels;
              shown = subst (λ (told : List (Path × Rec)). AreShown told w.levels (record key { leaf = leaf; lists = part } ∷ above)
                  (record f { entries = entries_in leaf; lists = entries_in part } ∷ frames)) (sym d.told) now;
              table = d.table;
              above = subst (λ (told : List (Path × Rec)). HasAllAbove told) (sym d.told) w.above;
              rest = rw g at (rw (es, ls) at r);
              keys = λ n. w.keys n ∙ sym (leaf-keys heap f.path e.offset w.seen (list_in leaf) d.after g);
              spot = sym (ap (list-place f frames w.seen) g) ∙ (rw (es, ls) at s);
              trailed = q;
            }

    pub checking-list-fails : (fault : LoadFault) →
        ((path : List ℕ) → Follows heap path list_in (leaf_from heap path e.offset) old new (Err fault)) → Meets fault whole
    checking-list-fails fault follows = by-frame by
      where
        by : FromLowest (Meets fault whole)
        by f frames a path level deep shown t r s q =
            let es : f.entries ≡ [] = sym a.entries ∙ empty in
            let ls : f.lists ≡ e ∷ entries_in part = sym a.lists ∙ more in
            let rest : SubkeysList → Step (Unit {0}) =
            (λ list. keys_each (go heap minor w.levels f) f.count list.entries
            >>= (λ m. lists_each heap (go heap minor w.levels f) f.path m (entries_in part))) in
            list-meets fault (leaf_from heap f.path e.offset) (λ x. onward (λ _. left heap minor (suc w.levels) frames) (onward rest x))
            w.seen whole (λ e. refl) (rw (es, ls) at r) (follows f.path w.seen t)

    pub checking-list-spot : (fault : LoadFault) →
        ((path : List ℕ) → Follows heap path list_in (leaf_from heap path e.offset) old new (Err fault)) →
        IsMetAt fault (record { offset = e.offset; path = reverse trail }) there
    checking-list-spot fault follows = by-frame by
      where
        by : FromLowest (IsMetAt fault (record { offset = e.offset; path = reverse trail }) there)
        by f frames a path level deep shown t r s q =
            let es : f.entries ≡ [] = sym a.entries ∙ empty in
            let ls : f.lists ≡ e ∷ entries_in part = sym a.lists ∙ more in
            list-spot fault (leaf_from heap f.path e.offset) (list-place f frames w.seen)
            w.seen (record { offset = e.offset; path = reverse trail }) there
            (λ e₀. ap (λ (p : List ℕ). Some (record { offset = e.offset; path = p })) (sym q)) (rw (es, ls) at s) (follows f.path w.seen t)

  -- ---- one key too many
  pub checking-many : (e : Entry) (part : ListPart) → entries_in key.leaf ≡ e ∷ entries_in part → SUBKEYS_LIMIT ≤ key.count →
      IsMetAt Limit (record { offset = e.offset; path = reverse trail }) there
  checking-many e part more many = by-frame by
    where
      too-many : (n : ℕ) → SUBKEYS_LIMIT ≤ n → nat_lt n SUBKEYS_LIMIT ≡ false
      too-many n l = grind (arith, nat_tests)

      by : FromLowest (IsMetAt Limit (record { offset = e.offset; path = reverse trail }) there)
      by f frames a path level deep shown t r s q =
          let es : f.entries ≡ e ∷ entries_in part = sym a.entries ∙ more in
          let n = too-many f.count (subst (λ n. SUBKEYS_LIMIT ≤ n) a.count many) in
          sym (rw (es, n) at s) ∙ ap (λ (p : List ℕ). Some (record { offset = e.offset; path = p })) (sym q)

  -- ---- the next key
  module _ (e : Entry) (part : ListPart) (more : entries_in key.leaf ≡ e ∷ entries_in part) (few : key.count < SUBKEYS_LIMIT) where
    -- the next subkey is checked, or its fault is met, wherever the lowest key stands and whatever was seen by then
    abbrev Goes : SiblingNames → Result CheckedKey LoadFault → Type 0
    Goes names result =
        (path : List ℕ) → (here : List ℕ → Path) → (seen : Seen) → IsTable heap seen.found path old → AreSiblings here seen.told key.names →
        MatchResult result (λ below. IsChecked heap minor key.levels path here e.offset seen new key.names names below)
        (λ fault. Meets fault (key_from heap minor key.levels path here e.offset seen))

    -- the lowest key, of which one subkey more was named
    abbrev named-one : Frame → Frame
    named-one f = record f { count = suc f.count; entries = entries_in part }

    -- what is left once that subkey was walked
    abbrev behind : ℕ → Frame → List Frame → Told → Told
    behind levels f frames = onward (λ _. left heap minor levels (named-one f ∷ frames))

    goes-on : (levels : ℕ) (f : Frame) (frames : List Frame) (seen : Seen) → Shows w.seen.told key f →
        left heap minor levels (f ∷ frames) seen ≡ behind levels f frames (go heap minor levels f e.offset seen)
    goes-on levels f frames seen a =
        let es : f.entries ≡ e ∷ entries_in part = sym a.entries ∙ more in
        let n = not-many f.count (subst (λ n. n < SUBKEYS_LIMIT) a.count few) in
        rw (es, n)
        (regroup (λ _. keys_each (go heap minor levels f) (suc f.count) (entries_in part))
        (λ m. lists_each heap (go heap minor levels f) f.path m f.lists)
        (λ _. left heap minor (suc levels) frames) (go heap minor levels f e.offset seen))

    -- where that fails
    abbrev behind-spot : ℕ → Frame → List Frame → Where Spot
    behind-spot levels f frames = left_spot heap minor levels (named-one f ∷ frames)

    spots-on : (levels : ℕ) (f : Frame) (frames : List Frame) (seen : Seen) → Shows w.seen.told key f →
        left_spot heap minor levels (f ∷ frames) seen
        ≡ then_place (goes heap minor levels f e.offset) (λ _. behind-spot levels f frames) seen (go heap minor levels f e.offset seen)
    spots-on levels f frames seen a =
        let es : f.entries ≡ e ∷ entries_in part = sym a.entries ∙ more in
        let n = not-many f.count (subst (λ n. n < SUBKEYS_LIMIT) a.count few) in
        rw (es, n) (by (go heap minor levels f e.offset seen))
      where
        keys : Step ℕ
        keys = keys_each (go heap minor levels f) (suc f.count) (entries_in part)

        keys-fail : Where Spot
        keys-fail = keys_spot (go heap minor levels f) (goes heap minor levels f) f.path (suc f.count) (entries_in part)

        lists : ℕ → Step (Unit {0})
        lists m = lists_each heap (go heap minor levels f) f.path m f.lists

        lists-fail : ℕ → Where Spot
        lists-fail m = lists_spot heap (go heap minor levels f) (goes heap minor levels f) f.path m f.lists

        by : (x : Told) →
            then_place (λ _. then_place (λ _. then_place (goes heap minor levels f e.offset) (λ _. keys-fail) seen x) lists-fail seen (onward (λ _. keys) x))
            (λ _. left_spot heap minor (suc levels) frames) seen (onward lists (onward (λ _. keys) x))
            ≡ then_place (goes heap minor levels f e.offset) (λ _. behind-spot levels f frames) seen x
        by (Ok x) = refl
        by (Err fault) = refl

    pub checking-key : (below : CheckedKey) (names : SiblingNames) → Goes names (Ok below) → (longer : List ℕ) → longer ≡ trail ++ e.offset ∷ [] →
        IsChecking heap minor whole there (below ∷ record key { count = key.count + 1; leaf = part; names = names } ∷ above) new (noted ++ e.offset ∷ []) longer
    checking-key below names goes longer added = by-frame by
      where
        by : FromLowest (IsChecking heap minor whole there (below ∷ record key { count = key.count + 1; leaf = part; names = names } ∷ above) new (noted ++ e.offset ∷ []) longer)
        by f frames a path level deep shown t r s q =
            let b : IsChecked heap minor w.levels f.path (child_path f.at) e.offset w.seen new key.names names below =
            subst (λ n. IsChecked heap minor n f.path (child_path f.at) e.offset w.seen new key.names names below) level
            (goes f.path (child_path f.at) w.seen t a.names) in
            let at : Path = child_path f.at b.name in
            let frame : Frame = frame_of (e.offset ∷ f.path) at below in
            let long : length at ≡ length f.at + 1 = child-length f.at b.name in
            record {
              seen = b.after;
              frames = frame ∷ named-one f ∷ frames;
              levels = b.lower;
              shown = (
                record {
                  count = b.count_is;
                  entries = refl;
                  lists = refl;
                  names = no-siblings at b.rec w.seen b.after below.names b.told b.free w.above b.none;
                  itself = ap (is_free at) b.told ∙ taken-last at b.rec w.seen.told;
                },
                ap (λ o. o ∷ f.path) (sym b.offset_is),
                b.level_is,
                (let l = b.levels_are in omega (arith, l, long, deep)),
                (
                  record {
                    count = add-one key.count ∙ ap suc a.count;
                    entries = refl;
                    lists = a.lists;
                    names = one-sibling f.at b.name b.rec w.seen b.after key.names names b.told b.one a.names;
                    itself = ap (is_free f.at) b.told ∙ taken-still f.at at b.rec w.seen.told a.itself;
                  },
                  path,
                  level ∙ b.levels_are,
                  (let l = b.levels_are in omega (arith, l, deep)),
                  shown-on at b.rec w.seen b.after b.told (suc (suc b.lower))
                      (let l = b.levels_are in omega (arith, l, long, deep)) above frames
                      (subst (λ n. AreShown w.seen.told (suc n) above frames) b.levels_are shown),
                ),
              );
              table = b.table;
              above = subst (λ (told : List (Path × Rec)). HasAllAbove told) (sym b.told)
                  (all-above-more f.at b.name b.rec w.seen.told a.itself w.above);
              rest = ap (behind (suc b.lower) f frames) (sym b.rest)
                  ∙ (ap (λ n. behind n f frames (go heap minor w.levels f e.offset w.seen)) (sym b.levels_are)
                  ∙ (sym (goes-on w.levels f frames w.seen a) ∙ r));
              keys = λ n. ap (λ (l : List ℕ). l ++ e.offset ∷ []) (w.keys n) ∙ sym (b.keys n);
              spot = behind-same (frame_spot heap minor b.lower frame) (key_spot heap minor w.levels f.path (child_path f.at) e.offset)
                  (left_spot heap minor (suc b.lower) (named-one f ∷ frames)) b.after w.seen (frame_left heap minor b.lower frame b.after)
                  (go heap minor w.levels f e.offset w.seen) (sym b.spot) (sym b.rest)
                  ∙ (ap (λ n. then_place (key_spot heap minor w.levels f.path (child_path f.at) e.offset) (λ _. behind-spot n f frames) w.seen
                  (go heap minor w.levels f e.offset w.seen)) (sym b.levels_are)
                  ∙ (sym (spots-on w.levels f frames w.seen a) ∙ s));
              trailed = ap reverse added ∙ (reverse-append trail (e.offset ∷ []) ∙ ap (λ (p : List ℕ). e.offset ∷ p) q);
            }

    pub checking-key-fails : (names : SiblingNames) (fault : LoadFault) → Goes names (Err fault) → Meets fault whole
    checking-key-fails names fault goes = by-frame by
      where
        by : FromLowest (Meets fault whole)
        by f frames a path level deep shown t r s q =
            key-meets fault (go heap minor w.levels f e.offset w.seen) (behind w.levels f frames) whole (λ e. refl)
            (sym (goes-on w.levels f frames w.seen a) ∙ r)
            (subst (λ n. Meets fault (key_from heap minor n f.path (child_path f.at) e.offset w.seen)) level
            (goes f.path (child_path f.at) w.seen t a.names))

    pub checking-key-spot : (names : SiblingNames) (fault : LoadFault) → Goes names (Err fault) → (its : Spot) →
        ((path : List ℕ) → (here : List ℕ → Path) → (seen : Seen) → IsTable heap seen.found path old → AreSiblings here seen.told key.names →
        reverse trail ≡ path → IsMetAt fault its (key_spot heap minor key.levels path here e.offset seen)) → IsMetAt fault its there
    checking-key-spot names fault go-meets its spots = by-frame by
      where
        by : FromLowest (IsMetAt fault its there)
        by f frames a path level deep shown t r s q =
            key-spot-met fault (go heap minor w.levels f e.offset w.seen) (goes heap minor w.levels f e.offset) (behind-spot w.levels f frames) w.seen its there
            (sym (spots-on w.levels f frames w.seen a) ∙ s)
            (subst (λ n. Meets fault (key_from heap minor n f.path (child_path f.at) e.offset w.seen)) level
            (go-meets f.path (child_path f.at) w.seen t a.names))
            (subst (λ n. IsMetAt fault its (key_spot heap minor n f.path (child_path f.at) e.offset w.seen)) level
            (spots f.path (child_path f.at) w.seen t a.names q))

-- ---- the first key

pub checking-first : (heap : Heap) (minor root : ℕ) (states : List CellState) (old new : SiblingNames) (key : CheckedKey) →
    IsChecked heap minor (suc PATH_LIMIT) [] root_path root nothing states old new key →
    IsChecking heap minor (key_from heap minor (suc PATH_LIMIT) [] root_path root nothing) (root_spot heap minor root) (key ∷ []) states (root ∷ []) (root ∷ [])
checking-first heap minor root states old new key b = record {
  seen = b.after;
  frames = frame_of (root ∷ []) [] key ∷ [];
  levels = b.lower;
  shown = (
    record {
      count = b.count_is;
      entries = refl;
      lists = refl;
      names = no-siblings [] b.rec nothing b.after key.names b.told refl (λ path name e. refl) b.none;
      itself = ap (is_free []) b.told ∙ taken-last [] b.rec [];
    },
    ap (λ o. o ∷ []) (sym b.offset_is),
    b.level_is,
    (let l = b.levels_are in omega (arith, l)),
    tt,
  );
  table = b.table;
  above = subst (λ (told : List (Path × Rec)). HasAllAbove told) (sym b.told) (all-above-first b.rec);
  rest = onward-same (frame_left heap minor b.lower (frame_of (root ∷ []) [] key) b.after) ∙ sym b.rest;
  keys = λ n. sym (b.keys n);
  spot = behind-same (frame_spot heap minor b.lower (frame_of (root ∷ []) [] key)) (key_spot heap minor (suc PATH_LIMIT) [] root_path root) nowhere b.after nothing
      (frame_left heap minor b.lower (frame_of (root ∷ []) [] key) b.after) (key_from heap minor (suc PATH_LIMIT) [] root_path root nothing)
      (sym b.spot) (sym b.rest);
  trailed = refl;
}

-- ---- the first fault

-- where the whole walk fails, its root does
pub root-met : (heap : Heap) (minor root : ℕ) (fault : LoadFault) (its : Spot) →
    Meets fault (key_from heap minor (suc PATH_LIMIT) [] root_path root nothing) → IsMetAt fault its (root_spot heap minor root) →
    IsMetAt fault its (key_spot heap minor (suc PATH_LIMIT) [] root_path root nothing)
root-met heap minor root Memory its e m = tt
root-met heap minor root fault its e m =
    sym (ap (then_place (key_spot heap minor (suc PATH_LIMIT) [] root_path root) (λ _. nowhere) nothing) e) ∙ m
