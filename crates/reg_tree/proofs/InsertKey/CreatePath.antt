-- The keys of a path made where they are missing: what is there already, and what stands at the end.
use Rattle.std.proofs.Common.{◌≡◌, ◌≢◌, ◌↔◌, ℕ, ◌+◌, ◌≤◌, ◌<◌, ◌⊎◌, inl, inr, true, false, cond, Option, Some, None, is_some, List, [], ◌∷◌, ◌++◌, map, length, refl, sym, ap, ◌∙◌, subst}
use Rattle.std.proofs.Common.{arith, length-append}
use Rattle.std.specs.Option.{option_and_then}
use Rattle.std.proofs.lemmas.Bool.{false≢true, cases_lt}
use Rattle.std.proofs.lemmas.List.{append-nil, append_assoc, map-append}
use Rattle.std.proofs.lemmas.Option.{none-some, same_Some}
use Rattle.reg_names.specs.declared.TheConstants.{PATH_LIMIT}
use Rattle.reg_names.specs.Names.{folded, path_of}
use Rattle.reg_heap.specs.declared.limits.TheConstants.{SUBKEYS_LIMIT, MADE_LIMIT}
use Rattle.reg_heap.specs.Paths.{Path, Tree, children_of}
use Rattle.reg_heap.specs.Edits.{child_path, has_child, if_last, with_key, with_keys, missing, last_there, are_too_many}
use Rattle.reg_heap.specs.Heaps.{Heap}
use Rattle.reg_arena.specs.Cells.{cell_at}
use Rattle.reg_records.specs.KeyNodes.{KeyRecord, key_at}
use Rattle.reg_shape.specs.PathLookup.{key_offset_at, subkey_named}
use Rattle.reg_shape.proofs.Lookup.LookupOfShape.{offset-none, offset-more, offset-append}
use Rattle.reg_security.specs.Rings.{DescriptorCells}
use Rattle.reg_tree.specs.declared.node.Node.{Node as TreeNode}
use Rattle.reg_tree.specs.TreeKeys.{tree_in}
use Rattle.reg_tree.specs.KeyLengths.{lengths_at, with_first_length}
use Rattle.reg_tree.specs.Internal.LengthChanges.{LengthsChange, MadeLengths}
use Rattle.reg_tree.specs.Internal.TreeInvariant.{TreeInvariant, IsHere}
use Rattle.reg_tree.specs.Internal.PathWalks.{Stops, Reaches}
use Rattle.reg_tree.specs.Internal.KeyCreation.{IsCreated, AreTooMany}
use Rattle.reg_tree.proofs.Invariant.KeyOfTree.{get-none, get-some, shallow, key_is}
use Rattle.reg_tree.proofs.DeleteKey.DeleteKeyFaults as children
use Rattle.reg_tree.proofs.InsertKey.KeyLimits.{too_many-test}
use Rattle.reg_tree.proofs.PathWalk.PathSteps.{as-many, here_then}
use Rattle.reg_tree.proofs.InsertKey.PathGrowth.{unchanged}
use Rattle.reg_tree.proofs.InsertKey.LengthsOfMade.{none_made}

-- ---- keys that are there

-- names that lead to a key that is there: none of them is missing
pub record IsThrough (t : Tree) (p : Path) (names more : List (List ℕ)) (moment : ℕ) : Type 0 where
  pub made : (given : Option (List ℕ)) → with_keys t p (names ++ more) given moment ≡ with_keys t (p ++ map folded names) more given moment
  pub missed : missing t p (names ++ more) ≡ missing t (p ++ map folded names) more
  pub last : last_there t p (names ++ more) ≡ last_there t (p ++ map folded names) more

module _ (bytes : List ℕ) (root : ℕ) {table : DescriptorCells} (holds : TreeInvariant bytes root table) (more : List (List ℕ)) (moment : ℕ) where
  abbrev h : Heap
  h = cell_at bytes

  abbrev T : Tree
  T = tree_in bytes root

  one-there : (p : Path) (name : List ℕ) (o : ℕ) → key_offset_at h root (child_path p name) ≡ Some o → has_child T p name ≡ true
  one-there p name o e = get-some bytes root holds (child_path p name) o e

  next-there : (x : List ℕ) (o c : ℕ) (xs : Path) → key_offset_at h o (x ∷ xs) ≡ Some c → (d : ℕ) × (subkey_named h x o ≡ Some d) × (key_offset_at h d xs ≡ Some c)
  next-there x o c xs e = by (subkey_named h x o) refl (sym (offset-more h o x xs) ∙ e)
    where
      by : (s : Option ℕ) → subkey_named h x o ≡ s → option_and_then (λ d. key_offset_at h d xs) s ≡ Some c → (d : ℕ) × (subkey_named h x o ≡ Some d) × (key_offset_at h d xs ≡ Some c)
      by None f e = absurd (none-some _ e)
      by (Some d) f e = (d, f, e)

  child-offset : (p : Path) (x : List ℕ) (o d : ℕ) → key_offset_at h root p ≡ Some o → subkey_named h x o ≡ Some d → key_offset_at h root (p ++ x ∷ []) ≡ Some d
  child-offset p x o d e f =
      offset-append h root p (x ∷ [])
      ∙ (ap (option_and_then (λ c. key_offset_at h c (x ∷ []))) e
      ∙ (offset-more h o x [] ∙ (ap (option_and_then (λ d. key_offset_at h d [])) f ∙ offset-none h d)))

  pub through : (names : List (List ℕ)) (p : Path) (o c : ℕ) → key_offset_at h root p ≡ Some o → key_offset_at h o (map folded names) ≡ Some c → IsThrough T p names more moment
  through [] p o c e f = record {
    made = λ given. ap (λ p. with_keys T p more given moment) (sym (append-nil p));
    missed = ap (λ p. missing T p more) (sym (append-nil p));
    last = ap (λ p. last_there T p more) (sym (append-nil p));
  }
  through (name ∷ names) p o c e f =
      let n = next-there (folded name) o c (map folded names) f in
      let q = child-offset p (folded name) o n.0 e n.1 in
      let r = through names (child_path p name) n.0 c q n.2 in
      let b = one-there p name n.0 q in
      let all : child_path p name ++ map folded names ≡ p ++ folded name ∷ map folded names = append_assoc p (folded name ∷ []) (map folded names) in
      record {
        made = λ given. ap (λ b. with_keys (cond b T (with_key T p name (if_last (names ++ more) given) moment)) (child_path p name) (names ++ more) given moment) b
            ∙ (r.made given ∙ ap (λ p. with_keys T p more given moment) all);
        missed = ap (λ b. cond b (missing T (child_path p name) (names ++ more)) (name ∷ names ++ more)) b ∙ (r.missed ∙ ap (λ p. missing T p more) all);
        last = ap (λ b. cond b (last_there T (child_path p name) (names ++ more)) p) b ∙ (r.last ∙ ap (λ p. last_there T p more) all);
      }

  -- ---- the first that is missing

  none-there : (p : Path) (name : List ℕ) (o : ℕ) → key_offset_at h root p ≡ Some o → subkey_named h (folded name) o ≡ None → has_child T p name ≡ false
  none-there p name o e f =
      ap is_some (get-none bytes root holds (child_path p name)
      (offset-append h root p (folded name ∷ [])
      ∙ (ap (option_and_then (λ c. key_offset_at h c (folded name ∷ []))) e
      ∙ (offset-more h o (folded name) [] ∙ ap (option_and_then (λ d. key_offset_at h d [])) f))))

  -- where the first of some names is missing, all are, and the path leads no further
  pub missing-all : (names : List (List ℕ)) (p : Path) (o : ℕ) → key_offset_at h root p ≡ Some o → Stops h o names → missing T p names ≡ names
  missing-all [] p o e s = refl
  missing-all (name ∷ names) p o e s = ap (λ b. cond b (missing T (child_path p name) names) (name ∷ names)) (none-there p name o e s)

  pub last-here : (names : List (List ℕ)) (p : Path) (o : ℕ) → key_offset_at h root p ≡ Some o → Stops h o names → last_there T p names ≡ p
  last-here [] p o e s = refl
  last-here (name ∷ names) p o e s = ap (λ b. cond b (last_there T (child_path p name) names) p) (none-there p name o e s)

-- ---- numbers within their limits

within : (most deep full made long below : ℕ) → (((most < made) ⊎ ((deep < long) ⊎ (full ≤ below))) → ⊥) → (made ≤ most) × (long ≤ deep) × (below < full)
within most deep full made long below none = (
  elim (cases_lt most made) [ inl l ↦ absurd (none (inl l)) | inr l ↦ omega (arith, l) ],
  elim (cases_lt deep long) [ inl l ↦ absurd (none (inr (inl l))) | inr l ↦ omega (arith, l) ],
  elim (cases_lt below full) [ inl l ↦ l | inr l ↦ absurd (none (inr (inr (omega (arith, l))))) ],
)

-- ---- a path reached as far as it is there

module _ (old : List ℕ) (from : TreeNode) (t : IsHere old from.offset) (path : List ℕ) (parent : TreeNode) (rest : List ℕ) (r : Reaches (cell_at old) from path parent rest) (moment : ℕ) where
  abbrev pub names : List (List ℕ)
  names = path_of path

  abbrev pub left : List (List ℕ)
  left = path_of rest

  abbrev pub passed : List (List ℕ)
  passed = r.passes.names

  -- the last key that is there
  abbrev pub parent_here : IsHere old parent.offset
  parent_here = here_then old from t path parent rest r.passes

  abbrev pub tree : Tree
  tree = tree_in old t.root

  way : IsThrough tree t.path passed left moment
  way = through old t.root t.holds left moment passed t.path from.offset parent.offset t.at r.passes.offset

  pub parent-at : key_offset_at (cell_at old) t.root (t.path ++ map folded passed) ≡ Some parent.offset
  unfolding here_then
  parent-at = parent_here.at

  pub missing-are : missing tree t.path names ≡ left
  missing-are = ap (missing tree t.path) r.passes.parts ∙ (way.missed ∙ missing-all old t.root t.holds left moment left (t.path ++ map folded passed) parent.offset parent-at r.stops)

  pub last-is : last_there tree t.path names ≡ t.path ++ map folded passed
  last-is = ap (last_there tree t.path) r.passes.parts ∙ (way.last ∙ last-here old t.root t.holds left moment left (t.path ++ map folded passed) parent.offset parent-at r.stops)

  pub with-left : (given : Option (List ℕ)) → with_keys tree t.path names given moment ≡ with_keys tree (t.path ++ map folded passed) left given moment
  with-left given = ap (λ ns. with_keys tree t.path ns given moment) r.passes.parts ∙ way.made given

  pub all-names : (t.path ++ map folded passed) ++ map folded left ≡ t.path ++ map folded names
  all-names =
      append_assoc t.path (map folded passed) (map folded left)
      ∙ ap (λ ns. t.path ++ ns) (sym (map-append folded passed left) ∙ ap (map folded) (sym r.passes.parts))

  pub number : length names ≡ length passed + length left
  number = ap length r.passes.parts ∙ length-append passed left

  -- ---- all are there

  pub created_none : (table : DescriptorCells) → t.table ≡ table → (given : Option (List ℕ)) → left ≡ [] → IsCreated old old t.root table t.path from names given moment parent
  created_none table same given e = record {
    holds = subst (TreeInvariant old t.root) same t.holds;
    tree = sym (with-left given ∙ ap (λ ns. with_keys tree (t.path ++ map folded passed) ns given moment) e);
    offset = subst (λ p. key_offset_at (cell_at old) t.root p ≡ Some parent.offset) (sym (append-nil (t.path ++ map folded passed)) ∙
        (ap (λ ns. (t.path ++ map folded passed) ++ map folded ns) (sym e) ∙ all-names)) parent-at;
    depth = (let d = r.passes.depth in let n = number in let z = ap length e in omega (arith, d, n, z));
    keeps = λ q o e. e;
    lengths = subst (λ ns. LengthsChange (cell_at old) (cell_at old) t.root (last_there tree t.path names) (with_first_length ns)) (sym (missing-are ∙ e))
        (record { here = λ o f. unchanged (lengths_at (cell_at old) o); others = λ q o n f. refl });
    noted = subst (MadeLengths (cell_at old) t.root (last_there tree t.path names)) (sym (missing-are ∙ e)) (none_made (cell_at old) t.root (last_there tree t.path names));
  }

  pub new_none : left ≡ [] → (false ≡ true) ↔ (missing tree t.path names ≢ [])
  new_none e = ((λ f. absurd (false≢true f)), λ some. absurd (some (missing-are ∙ e)))

  pub new_some : (left ≡ [] → ⊥) → (true ≡ true) ↔ (missing tree t.path names ≢ [])
  new_some some = ((λ f e. some (sym missing-are ∙ e)), λ e. refl)

  -- ---- too many

  pub none_many : left ≡ [] → AreTooMany tree t.path names → ⊥
  none_many e m = m.some (missing-are ∙ e)

  module _ (depth : from.depth ≡ length t.path) where
    abbrev Many : Type 0
    Many = (MADE_LIMIT < length left) ⊎ ((PATH_LIMIT < parent.depth + length left) ⊎ (SUBKEYS_LIMIT ≤ length (children_of (tree_in old parent_here.root) parent_here.path)))

    same-depth : parent.depth + length left ≡ length t.path + length names
    same-depth = let d = r.passes.depth in let n = number in omega (arith, d, n, depth)

    pub too_many : (left ≡ [] → ⊥) → Many → AreTooMany tree t.path names
    unfolding here_then
    too_many some m = record { some = λ e. some (sym missing-are ∙ e); many = by m }
      where
        by : Many → (MADE_LIMIT < length (missing tree t.path names)) ⊎ ((PATH_LIMIT < length t.path + length names) ⊎ (SUBKEYS_LIMIT ≤ length (children_of tree (last_there tree t.path names))))
        by (inl l) = inl (subst (λ ns. MADE_LIMIT < length ns) (sym missing-are) l)
        by (inr (inl l)) = inr (inl (subst (λ n. PATH_LIMIT < n) same-depth l))
        by (inr (inr l)) = inr (inr (subst (λ p. SUBKEYS_LIMIT ≤ length (children_of tree p)) (sym last-is) l))

    pub are_many : AreTooMany tree t.path names → Many
    unfolding here_then
    are_many m = by m.many
      where
        by : (MADE_LIMIT < length (missing tree t.path names)) ⊎ ((PATH_LIMIT < length t.path + length names) ⊎ (SUBKEYS_LIMIT ≤ length (children_of tree (last_there tree t.path names)))) → Many
        by (inl l) = inl (subst (λ ns. MADE_LIMIT < length ns) missing-are l)
        by (inr (inl l)) = inr (inl (subst (λ n. PATH_LIMIT < n) (sym same-depth) l))
        by (inr (inr l)) = inr (inr (subst (λ p. SUBKEYS_LIMIT ≤ length (children_of tree p)) last-is l))

    -- where they aren't, there is room
    pub has_room : (left ≡ [] → ⊥) → are_too_many tree t.path names ≡ false → (length left ≤ MADE_LIMIT) × (parent.depth + length left ≤ PATH_LIMIT)
        × ((k : KeyRecord) → key_at (cell_at old) parent.offset ≡ Some k → k.fields.subkeys < SUBKEYS_LIMIT)
    has_room some few =
        let w = within MADE_LIMIT PATH_LIMIT SUBKEYS_LIMIT (length left) (parent.depth + length left) (length (children_of (tree_in old parent_here.root) parent_here.path))
        (λ m. false≢true (sym few ∙ too_many-test tree t.path names (too_many some m))) in (
          w.0,
          w.1,
          λ k reads. (
              let n = children.number old parent.offset parent_here in
              let same = ap (λ (k : KeyRecord). k.fields.subkeys) (same_Some _ _ (sym (key_is old parent.offset parent_here) ∙ reads)) in
              let below = w.2 in
              omega (arith, n, same, below)),
        )

  pub parent-deep : from.depth ≤ PATH_LIMIT → parent.depth ≤ 1024
  unfolding here_then
  parent-deep d =
      let s = shallow old parent.offset parent_here in
      let a = length-append t.path (map folded passed) in
      let m = as-many passed in
      let e = r.passes.depth in
      omega (arith, s, a, m, e, d)
