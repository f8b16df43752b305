-- What the entries of the keys from one on make of a tree with the root alone: that key with all below it, and the keys on the way.
use Rattle.std.proofs.Common.{◌≡◌, ℕ, suc, ◌||◌, ◌&&◌, Bool, true, false, cond, is_some, List, [], ◌∷◌, ◌++◌, length, map, drop, Option, Some, None}
use Rattle.std.proofs.Common.{IsSome, refl, sym, ap, ◌∙◌, subst, arith, append_assoc, append-nil, length-append}
use Rattle.std.specs.Prelude.{flat_map}
use Rattle.std.specs.List.{list_all}
use Rattle.std.specs.FinMap.{get}
use Rattle.std.proofs.lemmas.Bool.{and_from, false≢true}
use Rattle.std.proofs.lemmas.List.{map-append}
use Rattle.std.proofs.lemmas.List.Folds.{list_all-append}
use Rattle.reg_names.specs.declared.TheConstants.{PATH_LIMIT}
use Rattle.reg_names.specs.Names.{folded, is_key_name, path_of, text_of}
use Rattle.reg_heap.specs.Paths.{Path, Tree, Rec, Member, children_of}
use Rattle.reg_heap.specs.Edits.{values_at, with_keys, is_within}
use Rattle.reg_heap.specs.Trees.{IsTree, IsWithinLimits}
use Rattle.reg_heap.proofs.DeletedTrees.{within-rest, within-append, within-self}
use Rattle.reg_model.proofs.HandleInvariant.{has-made}
use Rattle.reg_model.proofs.TreesOfChanges.{snoc-long, snoc-same, some-of, tree-with_keys}
use Rattle.reg_model.proofs.FewEvents.{snoc}
use Rattle.reg_tree_text.specs.DumpTexts.{Told, name_of, told_here, told_from}
use Rattle.reg_dotreg_writer.specs.Entries.{names_behind, names_to, keys_from}
use Rattle.reg_dotreg_writer.proofs.NamesOnWay.{front_there}
use Rattle.reg_dotreg_reader.specs.declared.entry.Entry.{Entry}
use Rattle.reg_dotreg_import.specs.Imports.{Stand, after_entries, begun, imported}
use Rattle.reg_dotreg_law.specs.EntriesDue.{entry_of_value, entries_of_key, entries_below}
use Rattle.reg_dotreg_law.specs.MadeAgain.{IsBare, HasSameBelow}
use Rattle.reg_dotreg_law.proofs.SeenKeys.{Seen, seen, shown, values_seen, values-shown, name_seen, name-shown, some-shown}
use Rattle.reg_dotreg_law.proofs.SeenKeys.{same-values, same-name, same-there}
use Rattle.reg_dotreg_law.proofs.JoinedNames.{names-back}
use Rattle.reg_dotreg_law.proofs.MadeKeys.{made_by, Comes}
use Rattle.reg_dotreg_law.proofs.ChildPaths.{no-true}
use Rattle.reg_dotreg_law.proofs.MadeTrees.{none-shown, Enough, makes-all}
use Rattle.reg_dotreg_law.proofs.TreesMadeAgain.{bare-tree}
use Rattle.reg_dotreg_law.proofs.WayKeys.{is_between, between-from, between-is, keys-again, behind-folded, behind-good, behind-last, way-seen}

-- an entry's key is made whatever stood before, where the keys on the way are made anyhow
abbrev set_at : ℕ → Tree → Path → List Member → List Entry → Stand
set_at moment t here values rest = after_entries moment (record { tree = t; here = here }) (map entry_of_value values ++ rest)

some-in : (b : Bool) (x y : Seen) → b ≡ true → is_some x ≡ true → is_some (cond b x y) ≡ true
some-in true x y e h = h
some-in false x y e h = absurd (false≢true e)

both-true : (a b : Bool) → a ≡ true → b ≡ true → (a && b) ≡ true
both-true a b e f = and_from a b e f

not-both : (a b : Bool) → (b ≡ true → ⊥) → (a && b) ≡ false
not-both true b h = no-true b h
not-both false b h = refl

pub and-always : (a : Bool) → a ≡ (a && true)
and-always true = refl
and-always false = refl

module _ (tree : Tree) (i : IsTree tree) (limits : IsWithinLimits tree) (moment : ℕ) (bare : Tree) (b : IsBare bare)
    (above : Path) (last : List ℕ) (there : IsSome (get tree (above ++ last ∷ []))) where
  abbrev path : Path
  path = above ++ last ∷ []

  abbrev names : List (List ℕ)
  names = names_behind tree [] above

  abbrev name : List ℕ
  name = name_of (get tree path)

  key : (r : Rec) × (get tree path ≡ Some r)
  key = some-of (get tree path) there

  above-there : IsSome (get tree above)
  above-there = front_there tree i above (last ∷ []) there

  -- the tree with the keys above the one at the path
  abbrev way : Tree
  way = with_keys bare [] names None moment

  way-at : (q : Path) → seen way q ≡ cond (is_between [] above q) (Some (name_of (get tree q), [])) (seen bare q)
  way-at q = way-seen tree i moment above bare [] b.alone above-there q

  bare-none : (a : Path) (n : List ℕ) → get bare (a ++ n ∷ []) ≡ None
  bare-none [] n = b.alone n []
  bare-none (m ∷ a) n = b.alone m (a ++ n ∷ [])

  -- the path is behind the keys above it
  path-past : is_between [] above path ≡ false
  path-past =
      no-true (is_between [] above path) (λ e.
      let o = between-is [] above path e in
      let whole = ap length o.whole ∙ length-append o.front (o.name ∷ o.behind) in
      let at = ap length o.at in
      let long = snoc-long above last in
      let short = snoc-long o.front o.name in
      omega (arith, whole, at, long, short))

  -- the root isn't below itself
  root-past : is_between [] above [] ≡ false
  root-past =
      no-true (is_between [] above []) (λ e.
      let o = between-is [] above [] e in
      let at = ap length o.at in
      let short = snoc-long o.front o.name in
      omega (arith, at, short))

  all-good : list_all is_key_name (names ++ name ∷ []) ≡ true
  all-good =
      list_all-append is_key_name names (name ∷ [])
      ∙ and_from (list_all is_key_name names) (is_key_name name && true) (behind-good tree i limits [] above above-there)
      (and_from (is_key_name name) true (ap (λ (o : Option Rec). is_key_name (name_of o)) key.1 ∙ (limits.keys path key.0 key.1).name) refl)

  all-folded : map folded (names ++ name ∷ []) ≡ path
  all-folded =
      map-append folded names (name ∷ [])
      ∙ (ap (λ (x : Path). x ++ folded name ∷ []) (behind-folded tree i [] above above-there)
      ∙ ap (λ (n : List ℕ). above ++ n ∷ []) (ap (λ (o : Option Rec). folded (name_of o)) key.1 ∙ i.names above last key.0 key.1))

  abbrev stand : Stand
  stand = begun way

  comes : Comes stand names name path
  comes = record {
    is = tree-with_keys bare [] names None moment (bare-tree bare b) b.root;
    at = all-folded;
    good = all-good;
    above = has-made bare [] names None moment b.root;
    missing = none-shown (get way path)
        (way-at path ∙ (ap (λ (x : Bool). cond x (Some (name, [])) (seen bare path)) path-past ∙ ap shown (bare-none above last)));
  }

  -- the first entry makes the keys on the way, whether they are there or not
  same-start : (root : List ℕ) (levels : ℕ) →
      made_by moment (begun bare) (told_from (suc levels) tree (root ∷ (names ++ name ∷ [])) path)
      ≡ made_by moment stand (told_from (suc levels) tree (root ∷ (names ++ name ∷ [])) path)
  unfolding told_from
  same-start root levels =
      let all : List (List ℕ) = names ++ name ∷ [] in
      let told : Told = record { names = root ∷ all; key = key.0 } in
      let rest : List Told = flat_map (λ child. told_from levels tree ((root ∷ all) ++ name_of (get tree child) ∷ []) child) (children_of tree path) in
      let text : path_of (text_of all) ≡ all = names-back all all-good in
      let same : with_keys bare [] (path_of (text_of all)) None moment ≡ with_keys way [] (path_of (text_of all)) None moment =
      ap (λ (x : List (List ℕ)). with_keys bare [] x None moment) text
      ∙ (sym (keys-again bare [] names name moment b.root)
      ∙ sym (ap (λ (x : List (List ℕ)). with_keys way [] x None moment) text)) in
      ap (λ (o : Option Rec). made_by moment (begun bare) (told_here (root ∷ all) o ++ rest)) key.1
      ∙ (ap (λ (t : Tree). set_at moment t (map folded (path_of (text_of all))) key.0.values (flat_map entries_of_key rest)) same
      ∙ sym (ap (λ (o : Option Rec). made_by moment stand (told_here (root ∷ all) o ++ rest)) key.1))

  whole : (levels : ℕ) → Enough tree (suc levels) path → (q : Path) →
      seen (made_by moment (begun bare) (told_from (suc levels) tree (names_to (name_of (get tree [])) tree path) path)).tree q
      ≡ cond (is_within path q) (seen tree q) (seen way q)
  whole levels enough q =
      let root : List ℕ = name_of (get tree []) in
      ap (λ (ns : List (List ℕ)). seen (made_by moment (begun bare) (told_from (suc levels) tree (root ∷ ns) path)).tree q) (behind-last tree i [] above last)
      ∙ (ap (λ (s : Stand). seen s.tree q) (same-start root levels)
      ∙ makes-all tree i limits moment root (suc levels) stand names name path comes key.0 key.1 (sym (ap name_of key.1)) enough q)

  abbrev new : Tree
  new = imported moment bare (entries_below tree path)

  made : (q : Path) → seen new q ≡ cond (is_within path q) (seen tree q) (seen way q)
  unfolding keys_from
  made q =
      whole PATH_LIMIT (λ rest h.
      let l = limits.shallow (path ++ rest) h in
      let sum = length-append path rest in
      omega (arith, l, sum)) q

  -- ---- what is elsewhere

  bare-plain : (q : Path) → values_seen (seen bare q) ≡ []
  bare-plain [] = sym (values-shown (get bare [])) ∙ b.values
  bare-plain (n ∷ rest) = ap values_seen (ap shown (b.alone n rest))

  way-plain : (q : Path) → values_seen (seen way q) ≡ []
  way-plain q = ap values_seen (way-at q) ∙ by (is_between [] above q)
    where
      by : (x : Bool) → values_seen (cond x (Some (name_of (get tree q), [])) (seen bare q)) ≡ []
      by true = refl
      by false = bare-plain q

  -- a key on the way is the tree's
  on-way : (q : Path) → is_between [] above q ≡ true → (is_some (get tree q) && is_within q path) ≡ true
  on-way q e =
      let o = between-is [] above q e in
      let behind : path ≡ q ++ (o.behind ++ last ∷ []) =
      ap (λ (x : Path). x ++ last ∷ []) (o.whole ∙ sym (append_assoc o.front (o.name ∷ []) o.behind) ∙ ap (λ (x : Path). x ++ o.behind) (sym o.at))
      ∙ append_assoc q o.behind (last ∷ []) in
      both-true (is_some (get tree q)) (is_within q path)
      (front_there tree i q (o.behind ++ last ∷ []) (subst (λ (x : Path). IsSome (get tree x)) behind there))
      (subst (λ (x : Path). is_within q x ≡ true) (sym behind) (within-append q (o.behind ++ last ∷ [])))

  -- what the path goes on from, and isn't the path, is the root or on the way
  front-between : (n : List ℕ) (r rest : Path) → path ≡ (n ∷ r) ++ rest → is_within path (n ∷ r) ≡ false → is_between [] above (n ∷ r) ≡ true
  front-between n r [] e out =
      absurd (false≢true (sym out ∙ subst (λ (x : Path). is_within path x ≡ true) (e ∙ append-nil (n ∷ r)) (within-self path)))
  front-between n r (m ∷ rest) e out =
      let s = snoc m rest in
      let t = snoc n r in
      let ends = snoc-same above ((n ∷ r) ++ s.front) last s.name
      (e ∙ (ap (λ (x : Path). (n ∷ r) ++ x) s.is ∙ sym (append_assoc (n ∷ r) s.front (s.name ∷ [])))) in
      let split : above ≡ t.front ++ t.name ∷ s.front = ends.0 ∙ (ap (λ (x : Path). x ++ s.front) t.is ∙ append_assoc t.front (t.name ∷ []) s.front) in
      subst (λ (x : Path). is_between [] x (n ∷ r) ≡ true) (sym split)
      (subst (λ (x : Path). is_between [] (t.front ++ t.name ∷ s.front) x ≡ true) (sym t.is) (between-from [] t.front t.name s.front))

  way-keys : (q : Path) → is_within path q ≡ false → is_some (seen way q) ≡ (is_some (get tree q) && is_within q path)
  way-keys [] out =
      ap (λ (x : Seen). is_some x) (way-at [])
      ∙ (ap (λ (x : Bool). is_some (cond x (Some (name_of (get tree []), [])) (seen bare []))) root-past
      ∙ (some-shown (get bare []) ∙ (b.root ∙ sym (both-true (is_some (get tree [])) (is_within [] path) i.root (within-append [] path)))))
  way-keys (n ∷ r) out = ap (λ (x : Seen). is_some x) (way-at (n ∷ r)) ∙ by (is_between [] above (n ∷ r)) refl
    where
      by : (x : Bool) → is_between [] above (n ∷ r) ≡ x →
          is_some (cond x (Some (name_of (get tree (n ∷ r)), [])) (seen bare (n ∷ r))) ≡ (is_some (get tree (n ∷ r)) && is_within (n ∷ r) path)
      by true e = sym (on-way (n ∷ r) e)
      by false e =
          ap (λ (o : Option Rec). is_some (shown o)) (b.alone n r)
          ∙ sym (not-both (is_some (get tree (n ∷ r))) (is_within (n ∷ r) path) (λ w.
          false≢true (sym e ∙ front-between n r (drop (length (n ∷ r)) path) (within-rest (n ∷ r) path w) out)))

  -- ---- the branch

  in-branch : (q : Path) → is_within path q ≡ true → seen new q ≡ seen tree q
  in-branch q e = made q ∙ ap (λ (x : Bool). cond x (seen tree q) (seen way q)) e

  off-branch : (q : Path) → is_within path q ≡ false → seen new q ≡ seen way q
  off-branch q e = made q ∙ ap (λ (x : Bool). cond x (seen tree q) (seen way q)) e

  same-keys : (q : Path) → is_some (get new q) ≡ (is_some (get tree q) && (is_within path q || is_within q path))
  same-keys q = by (is_within path q) refl
    where
      by : (x : Bool) → is_within path q ≡ x → is_some (get new q) ≡ (is_some (get tree q) && (x || is_within q path))
      by true e = same-there (get new q) (get tree q) (in-branch q e) ∙ and-always (is_some (get tree q))
      by false e = sym (some-shown (get new q)) ∙ (ap (λ (x : Seen). is_some x) (off-branch q e) ∙ way-keys q e)

  all-values : (q : Path) → values_at new q ≡ cond (is_within path q) (values_at tree q) []
  all-values q = by (is_within path q) refl
    where
      by : (x : Bool) → is_within path q ≡ x → values_at new q ≡ cond x (values_at tree q) []
      by true e = same-values (get new q) (get tree q) (in-branch q e)
      by false e = values-shown (get new q) ∙ (ap values_seen (off-branch q e) ∙ way-plain q)

  way-names : (n : List ℕ) (r : Path) → is_some (seen way (n ∷ r)) ≡ true → name_seen (seen way (n ∷ r)) ≡ name_of (get tree (n ∷ r))
  way-names n r some = by (is_between [] above (n ∷ r)) refl
    where
      at : (x : Bool) → is_between [] above (n ∷ r) ≡ x → seen way (n ∷ r) ≡ cond x (Some (name_of (get tree (n ∷ r)), [])) None
      at x e = way-at (n ∷ r)
          ∙ (ap (λ (y : Bool). cond y (Some (name_of (get tree (n ∷ r)), [])) (seen bare (n ∷ r))) e
          ∙ ap (λ (o : Option Rec). cond x (Some (name_of (get tree (n ∷ r)), [])) (shown o)) (b.alone n r))

      by : (x : Bool) → is_between [] above (n ∷ r) ≡ x → name_seen (seen way (n ∷ r)) ≡ name_of (get tree (n ∷ r))
      by true e = ap name_seen (at true e)
      by false e = absurd (false≢true (sym (ap (λ (x : Seen). is_some x) (at false e)) ∙ some))

  same-names : (n : List ℕ) (r : Path) → IsSome (get new (n ∷ r)) → name_of (get new (n ∷ r)) ≡ name_of (get tree (n ∷ r))
  same-names n r some = by (is_within path (n ∷ r)) refl
    where
      by : (x : Bool) → is_within path (n ∷ r) ≡ x → name_of (get new (n ∷ r)) ≡ name_of (get tree (n ∷ r))
      by true e = same-name (get new (n ∷ r)) (get tree (n ∷ r)) (in-branch (n ∷ r) e)
      by false e =
          name-shown (get new (n ∷ r))
          ∙ (ap name_seen (off-branch (n ∷ r) e)
          ∙ way-names n r (sym (ap (λ (x : Seen). is_some x) (off-branch (n ∷ r) e)) ∙ (some-shown (get new (n ∷ r)) ∙ some)))

  pub branch-made : HasSameBelow new tree path
  branch-made = record { keys = same-keys; values = all-values; names = same-names }

  -- the root keeps its name
  pub branch-root : name_of (get new []) ≡ name_of (get bare [])
  branch-root =
      name-shown (get new [])
      ∙ (ap name_seen (off-branch [] path-below) ∙ (ap name_seen (way-at [])
      ∙ (ap (λ (x : Bool). name_seen (cond x (Some (name_of (get tree []), [])) (seen bare []))) root-past ∙ sym (name-shown (get bare [])))))
    where
      path-below : is_within path [] ≡ false
      path-below =
          no-true (is_within path []) (λ e.
          let at = ap length (within-rest path [] e) ∙ length-append path (drop (length path) []) in
          let long = snoc-long above last in
          omega (arith, at, long))
