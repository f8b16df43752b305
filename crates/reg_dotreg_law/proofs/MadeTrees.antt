-- What the entries of a tree's keys make: each key with those below it, one level after another.
use Rattle.std.proofs.Common.{◌≡◌, ◌≢◌, ℕ, zero, suc, ◌<◌, ◌||◌, Bool, true, false, cond, is_some, List, [], ◌∷◌, ◌++◌, length, map, drop, Option}
use Rattle.std.proofs.Common.{Some, None, IsSome, refl, sym, ap, ◌∙◌, subst, arith, append_assoc, append-nil}
use Rattle.std.specs.Prelude.{flat_map}
use Rattle.std.specs.List.{AllByRecursion, list_all}
use Rattle.std.specs.FinMap.{get}
use Rattle.std.proofs.lemmas.Bool.{and_from, false≢true}
use Rattle.std.proofs.lemmas.List.{map-append}
use Rattle.std.proofs.lemmas.List.Folds.{list_all-append}
use Rattle.reg_names.specs.Names.{folded, is_key_name}
use Rattle.reg_heap.specs.Paths.{Path, Tree, Rec, children_of}
use Rattle.reg_heap.specs.Edits.{is_within}
use Rattle.reg_heap.specs.Trees.{IsTree, IsWithinLimits}
use Rattle.reg_heap.proofs.ChildrenOfPath.{below, children-named, path-is}
use Rattle.reg_heap.proofs.DeletedTrees.{within-rest}
use Rattle.reg_model.proofs.HandleInvariant.{same-self}
use Rattle.reg_model.proofs.TreesOfChanges.{snoc-long, some-of}
use Rattle.reg_tree_text.specs.DumpTexts.{Told, name_of, told_here, told_from}
use Rattle.reg_dotreg_import.specs.Imports.{Stand}
use Rattle.reg_dotreg_law.proofs.SeenKeys.{Seen, seen, shown, is_same, some-shown}
use Rattle.reg_dotreg_law.proofs.SetValues.{at-itself}
use Rattle.reg_dotreg_law.proofs.MadeKeys.{made_by, made-append, tree-made, Comes, key-made}
use Rattle.reg_dotreg_law.proofs.ChildPaths.{no-true, is_within_any, Distinct, distinct, below-apart, any-within, same-within}
use Rattle.reg_dotreg_law.proofs.ChildPaths.{outside, none-below, child-there}

-- ---- what is seen

pub none-shown : (o : Option Rec) → shown o ≡ None → o ≡ None
none-shown None e = refl
none-shown (Some r) e = absurd (cc)

pub some-either : (b : Bool) (x y : Seen) → is_some x ≡ true → is_some y ≡ true → is_some (cond b x y) ≡ true
some-either true x y h k = h
some-either false x y h k = k

either-within : {A : Type 0} (a b : Bool) (x y : A) → cond b x (cond a x y) ≡ cond (a || b) x y
either-within true true x y = refl
either-within true false x y = refl
either-within false true x y = refl
either-within false false x y = refl

not-above : (path : Path) (n : List ℕ) → is_same (below path n) path ≡ false
not-above path n =
    no-true (is_same (below path n) path) (λ e.
    let whole = ap length (path-is (below path n) path e) in
    let long = snoc-long path n in
    omega (arith, whole, long))

-- keys right below one that aren't there
abbrev pub AreMissing : Tree → Path → List (List ℕ) → Type 0
AreMissing t path names = AllByRecursion (λ (n : List ℕ). get t (below path n) ≡ None) names

-- none is there once the key above them is made
made-missing : (t u : Tree) (path : Path) (key : Seen) → ((x : Path) → seen u x ≡ cond (is_same x path) key (seen t x)) → IsTree t →
    get t path ≡ None → (names : List (List ℕ)) → AreMissing u path names
made-missing t u path key h i none [] = tt
made-missing t u path key h i none (n ∷ names) = (
  none-shown (get u (below path n))
      (h (below path n) ∙ (ap (λ (b : Bool). cond b key (seen t (below path n))) (not-above path n) ∙ ap shown (none-below t i path (n ∷ []) none))),
  made-missing t u path key h i none names,
)

-- so many levels are enough for all that is below a path
abbrev pub Enough : Tree → ℕ → Path → Type 0
Enough tree levels path = (rest : Path) → IsSome (get tree (path ++ rest)) → length rest < levels

module _ (tree : Tree) (i : IsTree tree) where
  -- those beside one stay missing when it is made, with all that is below it
  still-missing : (t u : Tree) (path : Path) (n : List ℕ) →
      ((x : Path) → seen u x ≡ cond (is_within (below path n) x) (seen tree x) (seen t x)) → (names : List (List ℕ)) →
      AllByRecursion (λ (m : List ℕ). n ≢ m) names → AreMissing t path names → AreMissing u path names
  still-missing t u path n h [] ne a = tt
  still-missing t u path n h (m ∷ names) ne a = (
    none-shown (get u (below path m))
        (h (below path m)
        ∙ (ap (λ (b : Bool). cond b (seen tree (below path m)) (seen t (below path m))) (below-apart path n m ne.0) ∙ ap shown a.0)),
    still-missing t u path n h names ne.1 a.1,
  )

  -- a key is made, and what is below those that are right below it: all that is at or below it
  module _ (t : Tree) (is : IsTree t) (path : Path) (key : Rec) (e : get tree path ≡ Some key) (none : get t path ≡ None) (q : Path) where
    abbrev among : Bool
    among = is_within_any (children_of tree path) q

    behind : (rest : Path) → q ≡ path ++ rest → is_same q path ≡ false → among ≡ false → seen t q ≡ seen tree q
    behind [] w other out = absurd (false≢true (sym other ∙ (ap (λ (x : Path). is_same x path) (w ∙ append-nil path) ∙ same-self path)))
    behind (n ∷ rest) w other out =
        ap shown (ap (get t) w ∙ none-below t is path (n ∷ rest) none)
        ∙ sym (ap shown (ap (get tree) w ∙ outside tree i path n rest (sym (ap (is_within_any (children_of tree path)) w) ∙ out)))

    among-within : among ≡ true → is_within path q ≡ true
    among-within a =
        let named = children-named tree path in
        any-within path named.names q (ap (λ (x : List Path). is_within_any x q) (sym named.are) ∙ a)

    pub joined : cond among (seen tree q) (cond (is_same q path) (Some (key.name, key.values)) (seen t q)) ≡
        cond (is_within path q) (seen tree q) (seen t q)
    joined = by (is_within path q) (is_same q path) among refl refl refl
      where
        by : (w s a : Bool) → is_within path q ≡ w → is_same q path ≡ s → among ≡ a →
            cond a (seen tree q) (cond s (Some (key.name, key.values)) (seen t q)) ≡ cond w (seen tree q) (seen t q)
        by true s true ew es ea = refl
        by true true false ew es ea = sym (ap shown (ap (get tree) (path-is q path es) ∙ e))
        by true false false ew es ea = behind (drop (length path) q) (within-rest path q ew) es ea
        by false true a ew es ea = absurd (false≢true (sym ew ∙ same-within path q es))
        by false false true ew es ea = absurd (false≢true (sym ew ∙ among-within ea))
        by false false false ew es ea = refl

-- ---- keys with all that is below them

module _ (tree : Tree) (i : IsTree tree) (limits : IsWithinLimits tree) (moment : ℕ) (root : List ℕ) where
  -- the keys at or below one, the names that lead to it behind the root's
  abbrev pub told_child : ℕ → List (List ℕ) → Path → List Told
  told_child levels names child = told_from levels tree (root ∷ (names ++ name_of (get tree child) ∷ [])) child

  -- a key that comes is made with all that is below it, and nothing else is changed
  abbrev Makes : ℕ → Type 0
  Makes levels =
      (s : Stand) (names : List (List ℕ)) (name : List ℕ) (path : Path) (c : Comes s names name path) (key : Rec) →
      get tree path ≡ Some key → key.name ≡ name → Enough tree levels path → (q : Path) →
      seen (made_by moment s (told_from levels tree (root ∷ (names ++ name ∷ [])) path)).tree q ≡
      cond (is_within path q) (seen tree q) (seen s.tree q)

  child-comes : (s : Stand) (names : List (List ℕ)) (path : Path) (n : List ℕ) (key : Rec) → get tree (below path n) ≡ Some key →
      map folded names ≡ path → list_all is_key_name names ≡ true → IsTree s.tree → IsSome (get s.tree path) →
      get s.tree (below path n) ≡ None → Comes s names (name_of (get tree (below path n))) (below path n)
  child-comes s names path n key e at good is above missing =
      let name : List ℕ = name_of (get tree (below path n)) in
      let named : key.name ≡ name = sym (ap name_of e) in
      record {
        is = is;
        at = map-append folded names (name ∷ [])
            ∙ (ap (λ (x : Path). x ++ folded name ∷ []) at
            ∙ ap (λ (x : List ℕ). path ++ x ∷ []) (ap folded (sym named) ∙ i.names path n key e));
        good = list_all-append is_key_name names (name ∷ [])
            ∙ and_from _ _ good (and_from _ _ (subst (λ (x : List ℕ). is_key_name x ≡ true) named (limits.keys (below path n) key e).name) refl);
        above = subst (λ (x : Path). IsSome (get s.tree x)) (sym at) above;
        missing = missing;
      }

  fewer : (levels : ℕ) (path : Path) (n : List ℕ) → Enough tree (suc levels) path → Enough tree levels (below path n)
  fewer levels path n enough rest h =
      let l = enough (n ∷ rest) (subst (λ (x : Path). IsSome (get tree x)) (append_assoc path (n ∷ []) rest) h) in
      omega (arith, l)

  -- keys right below one are made in turn
  module _ (levels : ℕ) (makes : Makes levels) (names : List (List ℕ)) (path : Path) (at : map folded names ≡ path)
      (good : list_all is_key_name names ≡ true) (enough : Enough tree (suc levels) path) (there : IsSome (get tree path)) where
    pub children-made : (last : List (List ℕ)) → Distinct last → AllByRecursion (λ (n : List ℕ). IsSome (get tree (below path n))) last →
        (s : Stand) → IsTree s.tree → IsSome (get s.tree path) → AreMissing s.tree path last → (q : Path) →
        seen (made_by moment s (flat_map (told_child levels names) (map (below path) last))).tree q ≡
        cond (is_within_any (map (below path) last) q) (seen tree q) (seen s.tree q)
    children-made [] d a s is here m q = refl
    children-made (n ∷ last) d a s is here m q =
        let child : Path = below path n in
        let name : List ℕ = name_of (get tree child) in
        let found = some-of (get tree child) a.0 in
        let first : List Told = told_child levels names child in
        let rest : List Told = flat_map (told_child levels names) (map (below path) last) in
        let next : Stand = made_by moment s first in
        let comes : Comes s names name child = child-comes s names path n found.0 found.1 at good is here m.0 in
        let one : (x : Path) → seen next.tree x ≡ cond (is_within child x) (seen tree x) (seen s.tree x) =
        makes s names name child comes found.0 found.1 (sym (ap name_of found.1)) (fewer levels path n enough) in
        let still : IsSome (get next.tree path) =
        sym (some-shown (get next.tree path))
        ∙ (ap (λ (x : Seen). is_some x) (one path)
        ∙ some-either (is_within child path) (seen tree path) (seen s.tree path) (some-shown (get tree path) ∙ there)
        (some-shown (get s.tree path) ∙ here)) in
        ap (λ (x : Stand). seen x.tree q) (made-append moment s first rest)
        ∙ (children-made last d.1 a.1 next (tree-made moment first s is) still (still-missing tree i s.tree next.tree path n one last d.0 m.1) q
        ∙ (ap (λ (x : Seen). cond (is_within_any (map (below path) last) q) (seen tree q) x) (one q)
        ∙ either-within (is_within child q) (is_within_any (map (below path) last) q) (seen tree q) (seen s.tree q)))

    -- all of them
    pub below-made : (s : Stand) → IsTree s.tree → IsSome (get s.tree path) → ((names : List (List ℕ)) → AreMissing s.tree path names) → (q : Path) →
        seen (made_by moment s (flat_map (told_child levels names) (children_of tree path))).tree q ≡
        cond (is_within_any (children_of tree path) q) (seen tree q) (seen s.tree q)
    below-made s is here missing q =
        let named = children-named tree path in
        subst (λ (x : List Path). seen (made_by moment s (flat_map (told_child levels names) x)).tree q ≡
        cond (is_within_any x q) (seen tree q) (seen s.tree q)) (sym named.are)
        (children-made named.names (distinct named.names named.rising) (child-there tree i path named.names named.are) s is here (missing named.names) q)

  key-below : (levels : ℕ) → Makes levels → Makes (suc levels)
  unfolding told_from
  key-below levels makes s names name path c key e named enough q =
      let all : List (List ℕ) = names ++ name ∷ [] in
      let first : List Told = record { names = root ∷ all; key = key } ∷ [] in
      let rest : List Told = flat_map (told_child levels all) (children_of tree path) in
      let next : Stand = made_by moment s first in
      let one : (x : Path) → seen next.tree x ≡ cond (is_same x path) (Some (key.name, key.values)) (seen s.tree x) =
      key-made moment s names name path c root key named (i.apart path key e) in
      let here : IsSome (get next.tree path) =
      sym (some-shown (get next.tree path))
      ∙ ap (λ (x : Seen). is_some x) (one path ∙ at-itself path (Some (key.name, key.values)) (seen s.tree path)) in
      ap (λ (o : Option Rec). seen (made_by moment s (told_here (root ∷ all) o ++ rest)).tree q) e
      ∙ (ap (λ (x : Stand). seen x.tree q) (made-append moment s first rest)
      ∙ (below-made levels makes all path c.at c.good enough (ap is_some e) next (tree-made moment first s c.is) here
      (made-missing s.tree next.tree path (Some (key.name, key.values)) one c.is c.missing) q
      ∙ (ap (λ (x : Seen). cond (is_within_any (children_of tree path) q) (seen tree q) x) (one q)
      ∙ joined tree i s.tree c.is path key e c.missing q)))

  pub makes-all : (levels : ℕ) → Makes levels
  makes-all zero s names name path c key e named enough q =
      let l = enough [] (subst (λ (x : Path). IsSome (get tree x)) (sym (append-nil path)) (ap is_some e)) in absurd (omega (arith, l))
  makes-all (suc levels) s names name path c key e named enough q = key-below levels (makes-all levels) s names name path c key e named enough q
