-- A key that is begun: from the steps that were read to what is left of it.
use Rattle.std.proofs.Common.{◌≡◌, Bool, ℕ, zero, suc, ◌+◌, ◌-◌, ◌<◌, ◌≤◌, cond, not, true, false, None, is_some, IsSome, Result, Ok, Err, IsOk, List, inl, inr}
use Rattle.std.proofs.Common.{[], ◌∷◌, ◌++◌}
use Rattle.std.proofs.Common.{length, length-append, refl, sym, ap, ◌∙◌, subst, arith}
use Rattle.std.specs.Result.{IsErrAnd, MatchResult}
use Rattle.std.specs.FinMap.{get, insert, find, from_entries, get-from_entries, from_entries_push}
use Rattle.std.specs.Cow.{cow_slice_items}
use Rattle.reg_names.specs.declared.TheConstants.{PATH_LIMIT}
use Rattle.reg_heap.specs.Paths.{Path, Tree, Member, path_cmp, is_child, children_of}
use Rattle.reg_heap.specs.Edits.{child_path}
use Rattle.reg_heap.specs.Heaps.{Heap}
use Rattle.reg_records.specs.KeyNodes.{KeyRecord}
use Rattle.reg_shape.specs.Spelt.{marks_of}
use Rattle.reg_shape.proofs.Refinement.SpeltTrees.{path_total, path_same}
use Rattle.reg_tree.specs.declared.node.Node.{Node}
use Rattle.reg_tree.specs.TreeKeys.{Keys, IsAt}
use Rattle.reg_tree_image.specs.declared.LoadFault.{LoadFault}
use Rattle.reg_tree_image.specs.declared.LoadFault.TheVariants.{Twice, Limit, Memory}
use Rattle.reg_tree_image.specs.declared.table.CellState.{CellState}
use Rattle.reg_tree_image.specs.declared.keys.NamedKey.{NamedKey}
use Rattle.reg_tree_image.specs.declared.key_parts.KeyParts.{KeyParts}
use Rattle.reg_tree_image.specs.declared.subkeys.SubkeyParts.{SubkeyParts}
use Rattle.reg_tree_image.specs.declared.frames.KeyFrame.{KeyFrame}
use Rattle.reg_tree_image.specs.declared.begin.BegunRoot.{BegunRoot}
use Rattle.reg_tree_image.specs.WalkSteps.{Seen, Step, ◌>>=◌, ◌>>◌, onward, give, check, tell}
use Rattle.reg_tree_image.specs.LoadingWalk.{is_free, no_sibling, named_key, head_from, parts_from, rest_from, subkeys_from, key_from}
use Rattle.reg_tree_image.specs.Images.{nothing, tree_told}
use Rattle.reg_tree_image.specs.Internal.CellStates.{IsTable}
use Rattle.reg_tree_image.specs.Internal.ListParts.{entries_in}
use Rattle.reg_tree_image.specs.Internal.NamedRecords.{key_of, parts_in}
use Rattle.reg_tree_image.specs.Internal.ReaderOutcomes.{IsDone, Fails}
use Rattle.reg_tree_image.specs.WalkedKeys.{ComesBelow, Comes}
use Rattle.reg_tree_image.specs.CrowdedBins.{BuildsAll, CrowdsNext}
use Rattle.reg_tree_image.specs.Internal.BegunKeys.{IsLack, Stops, Heads, told_as, IsListed, Lists}
use Rattle.reg_tree_image.specs.Internal.Frames.{Frame}
use Rattle.reg_tree_image.specs.Internal.Stacks.{ComesCrowded, FailsAs, IsBegun, Begins}
use Rattle.reg_tree_image.proofs.KeyStacks.WalkedOn.{source-comes}
use Rattle.reg_tree_image.proofs.KeyStacks.ChildCounts.{HasParents, child-more, no-child-of, none-below}
use Rattle.reg_tree_image.proofs.Readers.SiblingTests.{free-is}

-- ---- faults

-- a fault of a step is the whole walk's
pub fails-as : {A : Type 0} (crowded : Type 0) (fault : LoadFault) (s : Step A) (g : Result (A × Seen) LoadFault → Result (Unit {0} × Seen) LoadFault)
    (seen : Seen) (whole : Result (Unit {0} × Seen) LoadFault) → ((e : LoadFault) → g (Err e) ≡ Err e) → whole ≡ g (s seen) →
    Fails fault s seen → FailsAs crowded fault whole
fails-as crowded Memory s g seen whole h w e = tt
fails-as crowded Limit s g seen whole h w e = inl (w ∙ (ap g e ∙ h Limit))
fails-as crowded fault s g seen whole h w e = w ∙ (ap g e ∙ h fault)

-- a fault of the first step of a head is the head's
pub stops-bind : {A B : Type 0} (levels : ℕ) (fault : LoadFault) (s : Step A) (f : A → Step B) (seen : Seen) → Fails fault s seen →
    Stops levels fault ((s >>= f) seen)
stops-bind levels Memory s f seen e = tt
stops-bind levels Limit s f seen e = inl (ap (onward f) e)
stops-bind levels fault s f seen e = ap (onward f) e

-- ---- the head

module _ (heap : Heap) (path : List ℕ) (here : List ℕ → Path) (offset : ℕ) (seen : Seen) (named : NamedKey) (states : List CellState)
    (done : IsDone heap path (named_key heap path offset) seen (key_of named) states) where
  abbrev at : Path
  at = here (cow_slice_items named.name)

  abbrev headed : KeyRecord × List ℕ → Step (KeyRecord × List ℕ)
  headed head = no_sibling (here head.1) >> give head

  pub head-is : head_from heap path here offset seen ≡ onward (λ _. give (key_of named)) (check Twice (is_free at done.after.told) done.after)
  head-is = ap (onward headed) done.gives

  pub head-twice : IsSome (get (from_entries {R = path_cmp} seen.told) at) → head_from heap path here offset seen ≡ Err Twice
  head-twice s =
      let taken : is_free at done.after.told ≡ false =
      ap (is_free at) done.told ∙ (free-is at seen.told ∙ ap not s) in
      head-is ∙ ap (λ b. onward (λ _. give (key_of named)) (check Twice b done.after)) taken

  pub head-done : get (from_entries {R = path_cmp} seen.told) at ≡ None →
      IsDone heap path (head_from heap path here offset) seen (key_of named) states
  head-done n =
      let free : is_free at done.after.told ≡ true =
      ap (is_free at) done.told ∙ (free-is at seen.told ∙ ap (λ o. not (is_some o)) n) in
      record {
        after = done.after;
        gives = head-is ∙ ap (λ b. onward (λ _. give (key_of named)) (check Twice b done.after)) free;
        table = done.table;
        told = done.told;
      }

pub head-stops : (heap : Heap) (levels : ℕ) (path : List ℕ) (here : List ℕ → Path) (offset : ℕ) (seen : Seen) (fault : LoadFault) →
    Fails fault (named_key heap path offset) seen → Stops levels fault (head_from heap path here offset seen)
head-stops heap levels path here offset seen fault f =
    stops-bind levels fault (named_key heap path offset) (λ (head : KeyRecord × List ℕ). no_sibling (here head.1) >> give head) seen f

-- a key that no level is left for
pub head-deep : (heap : Heap) (levels depth : ℕ) (path : List ℕ) (here : List ℕ → Path) (offset : ℕ) (seen : Seen) (named : NamedKey)
    (states : List CellState) → IsDone heap path (head_from heap path here offset) seen (key_of named) states → PATH_LIMIT ≤ depth →
    levels + depth ≡ PATH_LIMIT → Heads heap levels path here offset seen states (Err Limit)
head-deep heap levels depth path here offset seen named states done deep all =
    inr (omega (arith, deep, all), subst (λ (r : Result ((KeyRecord × List ℕ) × Seen) LoadFault). IsOk r) (sym done.gives) refl)

-- a fault of the head is one of the key
pub head-fails : (heap : Heap) (minor levels : ℕ) (path : List ℕ) (here : List ℕ → Path) (offset : ℕ) (seen : Seen) (fault : LoadFault)
    (crowded : Type 0) → Stops levels fault (head_from heap path here offset seen) →
    FailsAs crowded fault (key_from heap minor levels path here offset seen)
unfolding key_from
head-fails heap minor zero path here offset seen fault crowded s = by fault s
  where
    r : Result ((KeyRecord × List ℕ) × Seen) LoadFault
    r = head_from heap path here offset seen

    deep : (r : Result ((KeyRecord × List ℕ) × Seen) LoadFault) → IsOk r → onward (λ _. check Limit false) r ≡ Err Limit
    deep (Ok x) k = refl
    deep (Err e) k = absurd (cc)

    by : (f : LoadFault) → Stops zero f r → FailsAs crowded f (onward (λ _. check Limit false) r)
    by Memory s = tt
    by Limit (inl e) = inl (ap (onward (λ _. check Limit false)) e)
    by Limit (inr k) = inl (deep r k.1)
    by f s = ap (onward (λ _. check Limit false)) s
head-fails heap minor (suc lower) path here offset seen fault crowded s = by fault s
  where
    r : Result ((KeyRecord × List ℕ) × Seen) LoadFault
    r = head_from heap path here offset seen

    then : KeyRecord × List ℕ → Step (Unit {0})
    then head = rest_from heap minor (offset ∷ path) (here head.1) head.0 head.1
        >> subkeys_from heap (key_from heap minor lower (offset ∷ path) (child_path (here head.1)))
        (offset ∷ path) head.0.fields.subkeys head.0.fields.subkeys_list

    by : (f : LoadFault) → Stops (suc lower) f r → FailsAs crowded f (onward then r)
    by Memory s = tt
    by Limit (inl e) = inl (ap (onward then) e)
    by Limit (inr k) = absurd (let z = k.0 in omega (arith, z))
    by f s = ap (onward then) s

-- ---- the key behind its head

module _ (heap : Heap) (minor lower : ℕ) (path : List ℕ) (here : List ℕ → Path) (offset : ℕ) (seen : Seen) (named : NamedKey)
    (mid : List CellState)
    (head : IsDone heap path (head_from heap path here offset) seen (key_of named) mid) where
  abbrev its_path : Path
  its_path = here (cow_slice_items named.name)

  abbrev go : ℕ → Step (Unit {0})
  go = key_from heap minor lower (offset ∷ path) (child_path its_path)

  abbrev the_key : KeyRecord
  the_key = record { fields = named.node.fields; name = named.node.name.now }

  abbrev below : Step (Unit {0})
  below = subkeys_from heap go (offset ∷ path) named.node.fields.subkeys named.node.fields.subkeys_list

  -- the key behind its head
  key-is : key_from heap minor (suc lower) path here offset seen
      ≡ (rest_from heap minor (offset ∷ path) its_path the_key (cow_slice_items named.name) >> below) head.after
  unfolding key_from
  key-is =
      ap (onward (λ (head : KeyRecord × List ℕ). rest_from heap minor (offset ∷ path) (here head.1) head.0 head.1
      >> subkeys_from heap (key_from heap minor lower (offset ∷ path) (child_path (here head.1)))
      (offset ∷ path) head.0.fields.subkeys head.0.fields.subkeys_list))
      head.gives

  abbrev pub telling : List ℕ × List ℕ × List Member → Step (Unit {0})
  telling parts = tell its_path (record {
    name = cow_slice_items named.name;
    marks = marks_of named.node.fields.flags;
    class = parts.0;
    descriptor = parts.1;
    time = named.node.fields.time;
    values = parts.2;
  })

  abbrev parts_step : Step (List ℕ × List ℕ × List Member)
  parts_step = parts_from heap minor (offset ∷ path) named.node.fields

  pub parts-fail : (crowded : Type 0) (fault : LoadFault) → Fails fault parts_step head.after →
      FailsAs crowded fault (key_from heap minor (suc lower) path here offset seen)
  parts-fail crowded fault f =
      fails-as crowded fault parts_step (λ r. onward (λ _. below) (onward telling r)) head.after _ (λ e. refl) key-is f

  module _ (parts : KeyParts) (next : List CellState) (own : IsDone heap (offset ∷ path) parts_step head.after (parts_in parts) next) where
    abbrev pub told_then : Seen
    told_then = record { found = own.after.found; told = own.after.told ++ (its_path, told_as named parts) ∷ [] }

    pub begun : key_from heap minor (suc lower) path here offset seen ≡ below told_then
    begun = key-is ∙ ap (λ r. onward (λ _. below) (onward telling r)) own.gives

    pub rest-gives : rest_from heap minor (offset ∷ path) its_path the_key (cow_slice_items named.name) head.after ≡ Ok (tt, told_then)
    rest-gives = ap (onward telling) own.gives

    -- the walk comes to the key itself
    pub comes-here : Comes heap minor told_then (suc lower) path here offset seen
    unfolding Comes
    comes-here = (key_of named, head.after, told_then, head.gives, rest-gives, inl refl)

    pub told-are : told_then.told ≡ seen.told ++ (its_path, told_as named parts) ∷ []
    told-are = ap (λ told. told ++ (its_path, told_as named parts) ∷ []) (own.told ∙ head.told)

    -- and there is no room for it
    pub crowded-here : {ahead : Bool} → CrowdsNext ahead seen.told its_path (told_as named parts) → ComesCrowded ahead heap minor (suc lower) path here offset seen
    crowded-here c = (
      told_then,
      comes-here,
      record {
        told = seen.told;
        path = its_path;
        key = told_as named parts;
        told_are = told-are;
        crowds = c;
      },
    )

    -- the tree of what was told then
    pub tree-then : get (tree_told seen) its_path ≡ None → tree_told told_then ≡ insert (tree_told seen) its_path (told_as named parts)
    tree-then n =
        let same : own.after.told ≡ seen.told = own.told ∙ head.told in
        from_entries_push path_total path_same own.after.told its_path (told_as named parts)
        (ap (λ es. find path_cmp its_path es) same ∙ (sym (get-from_entries path_total seen.told its_path) ∙ n))
        ∙ ap (λ es. insert (from_entries {R = path_cmp} es) its_path (told_as named parts)) same

    abbrev its_comes : Seen → ℕ → Seen → Type 0
    its_comes later = Comes heap minor later lower (offset ∷ path) (child_path its_path)

    comes-below : (later : Seen) →
        ComesBelow heap later go (its_comes later) (offset ∷ path) named.node.fields.subkeys named.node.fields.subkeys_list told_then →
        Comes heap minor later (suc lower) path here offset seen
    unfolding Comes
    comes-below later k = (key_of named, head.after, told_then, head.gives, rest-gives, inr k)

    module _ (last : List CellState) where
      pub list-fails : (crowded : Type 0) (fault : LoadFault) → Fails fault below told_then →
          FailsAs crowded fault (key_from heap minor (suc lower) path here offset seen)
      list-fails crowded fault f = fails-as crowded fault below (λ r. r) told_then _ (λ e. refl) begun f

      module _ (subkeys : SubkeyParts) (node : Node) where
        abbrev frame : Frame
        frame = record { path = offset ∷ path; at = its_path; count = 0; entries = entries_in subkeys.leaf; lists = entries_in subkeys.lists }

        abbrev code_frame : KeyFrame
        code_frame = record { offset = offset; node = node; count = 0; leaf = subkeys.leaf; lists = subkeys.lists }

        one-more : (keys : Keys) → keys.tree ≡ insert (tree_told seen) its_path (told_as named parts) → (p : Path) →
            length (children_of keys.tree p) ≤ length (children_of (tree_told seen) p) + cond (is_child p its_path) 1 0
        one-more keys t p =
            subst (λ (tree : Tree). length (children_of tree p) ≤ length (children_of (tree_told seen) p) + cond (is_child p its_path) 1 0)
            (sym t) (child-more (tree_told seen) p its_path (told_as named parts))

        none-yet : (keys : Keys) → get (tree_told seen) its_path ≡ None →
            keys.tree ≡ insert (tree_told seen) its_path (told_as named parts) → HasParents (tree_told seen) →
            length (children_of keys.tree its_path) ≤ 0
        none-yet keys n t parents =
            let one = one-more keys t its_path in
            let none = ap length (none-below (tree_told seen) its_path parents n) in
            let itself : ◌≡◌ {A = ℕ} (cond (is_child its_path its_path) 1 0) 0 = ap {B = ℕ} (λ b. cond b 1 0) (no-child-of its_path its_path (λ e. absurd (omega (arith, e)))) in
            omega (arith, one, none, itself)

        pub key-begun : {ahead : Bool} → IsListed heap (offset ∷ path) go named.node.fields.subkeys named.node.fields.subkeys_list told_then last subkeys →
            (keys : Keys) → IsAt keys its_path node → lower + node.depth ≡ PATH_LIMIT → get (tree_told seen) its_path ≡ None →
            keys.tree ≡ insert (tree_told seen) its_path (told_as named parts) →
            BuildsAll ahead (seen.told ++ (its_path, told_as named parts) ∷ []) keys → HasParents (tree_told seen) →
            IsBegun ahead heap minor (suc lower) path here offset seen last keys code_frame
        key-begun {ahead = ahead} l keys is deep n t built parents = record {
          lower = lower;
          levels_are = refl;
          after = l.after;
          frame = frame;
          shown = record { node = is; count = refl; few = none-yet keys n t parents; entries = refl; lists = refl };
          offset_is = refl;
          path_is = refl;
          depth = deep;
          table = l.table;
          told = t ∙ (sym (tree-then n) ∙ ap (λ es. from_entries {R = path_cmp} es) (sym l.told));
          built = subst (λ told. BuildsAll ahead told keys) (sym (l.told ∙ told-are)) built;
          one = one-more keys t;
          rest = begun ∙ l.rest;
          comes = λ later k. comes-below later (source-comes heap later go (its_comes later) (offset ∷ path) named.node.fields.subkeys
              named.node.fields.subkeys_list told_then l.after (entries_in subkeys.leaf) (entries_in subkeys.lists) l.source k);
        }

-- ---- the list of its subkeys

-- as one asks who only knows that there are some
pub lists-some : (heap : Heap) (path : List ℕ) (go : ℕ → Step (Unit {0})) (count offset : ℕ) (seen : Seen) (states : List CellState)
    (r : Result SubkeyParts LoadFault) → (count ≡ 0 → ⊥) → ((more : ℕ) → Lists heap path go (suc more) offset seen states r) →
    Lists heap path go count offset seen states r
lists-some heap path go zero offset seen states r some l = absurd (some refl)
lists-some heap path go (suc more) offset seen states r some l = l more

-- ---- levels of keys

-- where names may come below another key's, there is a level for them
pub level-below : (levels depth : ℕ) → levels + depth ≡ PATH_LIMIT → depth < PATH_LIMIT → levels ≡ suc (levels - 1)
level-below levels depth e l = omega (arith, e, l)

-- a key below another has one level less
pub depth-below : (levels above depth : ℕ) (p : Path) (x : List ℕ) → levels + above ≡ PATH_LIMIT → above < PATH_LIMIT → above ≡ length p →
    depth ≡ length (p ++ x ∷ []) → levels - 1 + depth ≡ PATH_LIMIT
depth-below levels above depth p x e l a d = let n = length-append p (x ∷ []) in omega (arith, e, l, a, d, n)

-- the root has none above it
pub root-deep : (depth : ℕ) → depth ≡ 0 → PATH_LIMIT + depth ≡ PATH_LIMIT
root-deep depth z = omega (arith, z)

-- ---- a key below another one

module _ (ahead : Bool) (heap : Heap) (minor levels lower : ℕ) (level : levels ≡ suc lower) (path : List ℕ) (here : List ℕ → Path) (offset : ℕ)
    (seen : Seen) (named : NamedKey)
    (mid : List CellState) (head : IsDone heap path (head_from heap path here offset) seen (key_of named) mid) where
  abbrev Whole : LoadFault → Type 0
  Whole fault = FailsAs (ComesCrowded ahead heap minor levels path here offset seen) fault (key_from heap minor levels path here offset seen)

  abbrev WholeOf : LoadFault → ℕ → Type 0
  WholeOf fault n = FailsAs (ComesCrowded ahead heap minor n path here offset seen) fault (key_from heap minor n path here offset seen)

  -- what is known where a level is left for the key, by the number of levels
  leveled : (P : ℕ → Type 0) → P (suc lower) → P levels
  leveled P p = subst P (sym level) p

  -- the list of the subkeys is read, whatever the keys below are
  abbrev ListsAny : List CellState → List CellState → Result SubkeyParts LoadFault → Type 0
  ListsAny next last r = (go : ℕ → Step (Unit {0})) (seen : Seen) → IsTable heap seen.found (offset ∷ path) next →
      Lists heap (offset ∷ path) go named.node.fields.subkeys named.node.fields.subkeys_list seen last r

  pub no-parts : (fault : LoadFault) → Fails fault (parts_from heap minor (offset ∷ path) named.node.fields) head.after → Whole fault
  no-parts fault f =
      leveled (WholeOf fault) (parts-fail heap minor lower path here offset seen named mid head _ fault f)

  module _ (parts : KeyParts) (next : List CellState)
      (own : IsDone heap (offset ∷ path) (parts_from heap minor (offset ∷ path) named.node.fields) head.after (parts_in parts) next)
      (last : List CellState) where
    pub no-list : (fault : LoadFault) → ListsAny next last (Err fault) → Whole fault
    no-list fault l =
        leveled (WholeOf fault)
        (list-fails heap minor lower path here offset seen named mid head parts next own last _ fault
        (l (go heap minor lower path here offset seen named mid head)
        (told_then heap minor lower path here offset seen named mid head parts next own) own.table))

    -- what building the key lacked
    pub no-room : (fault : LoadFault) (here_crowded : Type 0) → (here_crowded → CrowdsNext ahead seen.told (here (cow_slice_items named.name)) (told_as named parts)) →
        IsLack here_crowded fault → Whole fault
    no-room Memory k f l = tt
    no-room Limit k f l =
        inr (leveled (λ n. ComesCrowded ahead heap minor n path here offset seen)
        (crowded-here heap minor lower path here offset seen named mid head parts next own (f l)))
    no-room fault k f l = absurd l

    pub is-begun : (subkeys : SubkeyParts) (node : Node) → ListsAny next last (Ok subkeys) → (keys : Keys) →
        IsAt keys (here (cow_slice_items named.name)) node →
        lower + node.depth ≡ PATH_LIMIT → get (tree_told seen) (here (cow_slice_items named.name)) ≡ None →
        keys.tree ≡ insert (tree_told seen) (here (cow_slice_items named.name)) (told_as named parts) →
        BuildsAll ahead (seen.told ++ (here (cow_slice_items named.name), told_as named parts) ∷ []) keys → HasParents (tree_told seen) →
        IsBegun ahead heap minor levels path here offset seen last keys
        (record { offset = offset; node = node; count = 0; leaf = subkeys.leaf; lists = subkeys.lists })
    is-begun subkeys node l keys is deep n t built parents =
        leveled (λ n. IsBegun ahead heap minor n path here offset seen last keys
        (record { offset = offset; node = node; count = 0; leaf = subkeys.leaf; lists = subkeys.lists }))
        (key-begun heap minor lower path here offset seen named mid head parts next own last subkeys node
        (l (go heap minor lower path here offset seen named mid head)
        (told_then heap minor lower path here offset seen named mid head parts next own) own.table)
        keys is deep n t built parents)

-- ---- the exit of a `?`

pub begins-exit : (ahead : Bool) (heap : Heap) (minor levels : ℕ) (path : List ℕ) (here : List ℕ → Path) (offset : ℕ) (seen : Seen)
    (states : List CellState) (keys : Keys)
    (fault : LoadFault) (r : Result KeyFrame LoadFault) → IsErrAnd r (λ e. e ≡ fault) →
    FailsAs (ComesCrowded ahead heap minor levels path here offset seen) fault (key_from heap minor levels path here offset seen) →
    Begins ahead heap minor levels path here offset seen states keys r
begins-exit ahead heap minor levels path here offset seen states keys fault (Ok key) i f = absurd i
begins-exit ahead heap minor levels path here offset seen states keys fault (Err e) i f =
    subst (λ e. FailsAs (ComesCrowded ahead heap minor levels path here offset seen) e (key_from heap minor levels path here offset seen)) (sym i) f

pub root-exit : (P : BegunRoot → Type 0) (crowded : Type 0) (whole : Result (Unit {0} × Seen) LoadFault) (fault : LoadFault)
    (r : Result BegunRoot LoadFault) →
    IsErrAnd r (λ e. e ≡ fault) → FailsAs crowded fault whole → MatchResult r P (λ fault. FailsAs crowded fault whole)
root-exit P crowded whole fault (Ok root) i f = absurd i
root-exit P crowded whole fault (Err e) i f = subst (λ e. FailsAs crowded e whole) (sym i) f

-- nothing was told yet
pub none-told : (p : Path) → get (tree_told nothing) p ≡ None
none-told p = get-from_entries path_total [] p
