-- A path walked from key to key.
use Rattle.std.proofs.Common.{◌≡◌, ℕ, suc, ◌+◌, ◌≤◌, ◌<◌, Bool, true, false, ◌==◌, Some, None, List, [], ◌∷◌, ◌++◌, map, length, refl, sym, ap, ◌∙◌, subst, arith, length-append}
use Rattle.std.specs.Option.{option_and_then}
use Rattle.std.proofs.lemmas.List.{append-nil, append_assoc, map-append}
use Rattle.std.proofs.lemmas.Bool.{false≢true}
use Rattle.std.proofs.lemmas.List.Splits.{length-slice_split}
use Rattle.reg_names.specs.declared.TheConstants.{PATH_LIMIT}
use Rattle.reg_names.specs.Names.{folded, path_of, is_path, is_backslash, IsFirst}
use Rattle.reg_heap.specs.Paths.{Path}
use Rattle.reg_heap.specs.Heaps.{Heap}
use Rattle.reg_heap.specs.Edits.{folded_path}
use Rattle.reg_arena.specs.Cells.{cell_at}
use Rattle.reg_shape.specs.PathLookup.{key_offset_at, subkey_named}
use Rattle.reg_shape.proofs.Lookup.LookupOfShape.{offset-none, offset-more, offset-append}
use Rattle.reg_tree.specs.declared.node.Node.{Node}
use Rattle.reg_tree.specs.Internal.TreeInvariant.{IsHere}
use Rattle.reg_tree.specs.Internal.PathWalks.{IsWalked, Stops, Passes, Reaches}
use Rattle.reg_tree.proofs.Invariant.KeyOfTree.{shallow}

pub as-many : (ns : List (List ℕ)) → length (map folded ns) ≡ length ns
as-many [] = refl
as-many (n ∷ ns) = ap suc (as-many ns)

-- one key further
pub offset-then : (h : Heap) (o : ℕ) (p : Path) (x : List ℕ) (c d : ℕ) → key_offset_at h o p ≡ Some c → subkey_named h x c ≡ Some d → key_offset_at h o (p ++ x ∷ []) ≡ Some d
offset-then h o p x c d e f =
    offset-append h o p (x ∷ [])
    ∙ (ap (option_and_then (λ c. key_offset_at h c (x ∷ []))) e
    ∙ (offset-more h c x []
    ∙ (ap (option_and_then (λ d. key_offset_at h d [])) f ∙ offset-none h d)))

module _ (h : Heap) (from : Node) (path : List ℕ) where
  unfoldable pub starts : is_path path ≡ true → Passes h from path from path
  starts v = record { names = []; parts = refl; offset = offset-none h from.offset; depth = omega arith; valid = v }

  module _ (node : Node) (rest : List ℕ) (s : Passes h from path node rest) where
    unfoldable pub next : (name behind : List ℕ) (offset : ℕ) → IsFirst rest name behind → Some offset ≡ subkey_named h (folded name) node.offset →
        Passes h from path (record { offset = offset; depth = node.depth + 1 }) behind
    next name behind offset f e = record {
      names = s.names ++ name ∷ [];
      parts = s.parts ∙ (ap (λ ns. s.names ++ ns) f.names ∙ sym (append_assoc s.names (name ∷ []) (path_of behind)));
      offset = subst (λ p. key_offset_at h from.offset p ≡ Some offset) (sym (map-append folded s.names (name ∷ [])))
          (offset-then h from.offset (map folded s.names) (folded name) node.offset offset s.offset (sym e));
      depth = (let d = s.depth in let l = length-append s.names (name ∷ []) in omega (arith, d, l));
      valid = f.valid;
    }

    pub ends : path_of rest ≡ [] → Reaches h from path node rest
    ends e = record { passes = s; stops = subst (λ ns. Stops h node.offset ns) (sym e) tt }

    pub stopped : (name behind : List ℕ) → IsFirst rest name behind → None ≡ subkey_named h (folded name) node.offset → Reaches h from path node rest
    stopped name behind f e = record { passes = s; stops = subst (λ ns. Stops h node.offset ns) (sym f.names) (sym e) }

-- the key that was reached is one of the tree's
module _ (bytes : List ℕ) (from : Node) (t : IsHere bytes from.offset) (path : List ℕ) (node : Node) (rest : List ℕ) (s : Passes (cell_at bytes) from path node rest) where
  unfoldable pub here_then : IsHere bytes node.offset
  here_then = record {
    root = t.root;
    table = t.table;
    path = t.path ++ map folded s.names;
    holds = t.holds;
    at = offset-append (cell_at bytes) t.root t.path (map folded s.names) ∙ (ap (option_and_then (λ c. key_offset_at (cell_at bytes) c (map folded s.names))) t.at ∙ s.offset);
  }

  pub deep_then : from.depth ≤ PATH_LIMIT → node.depth + 1 < 2000
  unfolding here_then
  deep_then d =
      let l = shallow bytes node.offset here_then in
      let a = length-append t.path (map folded s.names) in
      let m = as-many s.names in
      let e = s.depth in
      omega (arith, l, a, m, e, d)

-- where nothing of the path is left, it was walked to its end, and else a key is missing
pub walked : (h : Heap) (from : Node) (path : List ℕ) (node : Node) (rest : List ℕ) → Passes h from path node rest → path_of rest ≡ [] →
    IsWalked h from (folded_path path) (Some node)
walked h from path node rest s none =
    let all : path_of path ≡ s.names = s.parts ∙ (ap (λ ns. s.names ++ ns) none ∙ append-nil s.names) in (
      ap (λ ns. key_offset_at h from.offset (map folded ns)) all ∙ s.offset,
      s.depth ∙ ap (λ k. from.depth + k) (ap length (sym all) ∙ sym (as-many (path_of path))),
    )

offset-missing : (h : Heap) (o : ℕ) (p : Path) (x : List ℕ) (q : Path) (c : ℕ) → key_offset_at h o p ≡ Some c → subkey_named h x c ≡ None → key_offset_at h o (p ++ x ∷ q) ≡ None
offset-missing h o p x q c e f =
    offset-append h o p (x ∷ q)
    ∙ (ap (option_and_then (λ c. key_offset_at h c (x ∷ q))) e
    ∙ (offset-more h c x q ∙ ap (option_and_then (λ d. key_offset_at h d q)) f))

missing-by : (h : Heap) (from : Node) (path : List ℕ) (node : Node) (rest : List ℕ) (s : Passes h from path node rest) (left : List (List ℕ)) →
    path_of rest ≡ left → (left ≡ [] → ⊥) → Stops h node.offset left → key_offset_at h from.offset (folded_path path) ≡ None
missing-by h from path node rest s [] e some stops = absurd (some refl)
missing-by h from path node rest s (name ∷ names) e some stops =
    ap (λ ns. key_offset_at h from.offset (map folded ns)) (s.parts ∙ ap (λ ns. s.names ++ ns) e)
    ∙ (ap (key_offset_at h from.offset) (map-append folded s.names (name ∷ names))
    ∙ offset-missing h from.offset (map folded s.names) (folded name) (map folded names) node.offset s.offset stops)

pub not_walked : (h : Heap) (from : Node) (path : List ℕ) (node : Node) (rest : List ℕ) → Reaches h from path node rest → (path_of rest ≡ [] → ⊥) → IsWalked h from (folded_path path) None
not_walked h from path node rest r some = missing-by h from path node rest r.passes (path_of rest) refl some r.stops

-- no key has the first name left
pub none_named : (h : Heap) (from : Node) (path : List ℕ) (node : Node) (rest : List ℕ) → Passes h from path node rest → (name behind : List ℕ) →
    IsFirst rest name behind → None ≡ subkey_named h (folded name) node.offset → IsWalked h from (folded_path path) None
none_named h from path node rest s name behind f e =
    not_walked h from path node rest (stopped h from path node rest s name behind f e) (λ z. absurd (some-first (path_of rest) (path_of behind) f.names z))
  where
    some-first : (xs names : List (List ℕ)) → xs ≡ name ∷ names → xs ≡ [] → ⊥
    some-first xs names is z = let n = ap length (sym z ∙ is) in absurd (omega (arith, n))

-- a text that has names has bytes
pub some_names : (text : List ℕ) (e : Bool) → e ≡ (length text == 0) → e ≡ false → path_of text ≡ [] → ⊥
some_names [] e h k p = absurd (false≢true (sym k ∙ h))
some_names (b ∷ bs) e h k p = let l = length-slice_split is_backslash (b ∷ bs) in let z : length (path_of (b ∷ bs)) ≡ 0 = ap length p in omega (arith, l, z)
