-- The names that lead to a key, met on the way along its path.
use Rattle.std.proofs.Common.{◌≡◌, ℕ, zero, suc, ◌+◌, ◌≤◌, ◌&&◌, Bool, true, false, List, [], ◌∷◌, ◌++◌, length, map, Option, Some, None}
use Rattle.std.proofs.Common.{IsSome, refl, sym, ap, ◌∙◌, subst, arith, append_assoc, append-nil, length-append}
use Rattle.std.specs.Prelude.{if◌then◌else◌, is_some, reverse}
use Rattle.std.specs.FinMap.{get}
use Rattle.std.proofs.lemmas.Bool.{false≢true}
use Rattle.reg_names.specs.declared.TheConstants.{PATH_LIMIT}
use Rattle.reg_names.specs.Names.{folded, text_of, path_of, is_path, is_key_name, IsFirst}
use Rattle.reg_heap.specs.Paths.{Path, Tree, Rec, children_of}
use Rattle.reg_heap.specs.Edits.{folded_path}
use Rattle.reg_heap.specs.Trees.{IsTree, IsWithinLimits}
use Rattle.reg_tree.specs.declared.node.Node.{Node}
use Rattle.reg_tree.specs.TreeKeys.{Keys, IsAt, IsResolved}
use Rattle.reg_tree.proofs.Invariant.CellReadings.{some_of}
use Rattle.reg_tree_text.specs.declared.walk.Pending.{Pending}
use Rattle.reg_tree_text.specs.declared.walk.Walk.{Walk}
use Rattle.reg_tree_text.specs.DumpTexts.{Told, name_of, told_here, told_from}
use Rattle.reg_tree_text.specs.Internal.Walking.{text_below, told_below, ArePending, Goes}
use Rattle.reg_tree_text.proofs.WalkSteps.{text-below, name-some, told-open}
use Rattle.reg_tree_text.proofs.LineTexts.{root_named}
use Rattle.reg_tree_text.specs.PathQueries.{key_at}
use Rattle.reg_diff.specs.Branches.{names_along, names_to, keys_from}
use Rattle.reg_diff.proofs.ToldPaths.{IsOneName, one_name}

-- ---- keys above one that is there

pub above_there : (tree : Tree) → IsTree tree → (front rest : Path) → IsSome (get tree (front ++ rest)) → IsSome (get tree front)
above_there tree is front [] there = subst (λ (p : Path). IsSome (get tree p)) (append-nil front) there
above_there tree is front (name ∷ rest) there =
    is.parents front name (above_there tree is (front ++ name ∷ []) rest
    (subst (λ (p : Path). IsSome (get tree p)) (sym (append_assoc front (name ∷ []) rest)) there))

-- the path that a text leads to, where a key is there
found_by : (b : Bool) (path p : Path) → (if b then Some path else None) ≡ Some p → path ≡ p
found_by true path p e = cc
found_by false path p e = absurd (cc)

there_by : (b c : Bool) (path p : Path) → (if b && c then Some path else None) ≡ Some p → (b ≡ true) × (c ≡ true)
there_by true true path p e = (refl, refl)
there_by true false path p e = absurd (cc)
there_by false c path p e = absurd (cc)

some_is : {A : Type 0} (o : Option A) → is_some o ≡ true → IsSome o
some_is None e = absurd (false≢true e)
some_is (Some x) e = refl

pub path_found : (tree : Tree) (text : List ℕ) (p : Path) → key_at tree text ≡ Some p →
    (is_path text ≡ true) × (folded_path text ≡ p) × IsSome (get tree (folded_path text))
path_found tree text p e =
    let both = there_by (is_path text) (is_some (get tree (folded_path text))) (folded_path text) p e in
    (both.0, found_by (is_path text && is_some (get tree (folded_path text))) (folded_path text) p e, some_is (get tree (folded_path text)) both.1)

pub there_at : (tree : Tree) (text : List ℕ) (p : Path) → key_at tree text ≡ Some p → IsSome (get tree p)
there_at tree text p e = let f = path_found tree text p e in subst (λ (q : Path). IsSome (get tree q)) f.1 f.2

-- two trees have it at one path
pub same_path : (tree other : Tree) (text : List ℕ) (p q : Path) → key_at tree text ≡ Some p → key_at other text ≡ Some q → q ≡ p
same_path tree other text p q e f = sym (path_found other text q f).1 ∙ (path_found tree text p e).1

-- ---- names along a path

names-more : (tree : Tree) (above path : Path) (name : List ℕ) →
    names_along tree above (path ++ name ∷ []) ≡ names_along tree above path ++ name_of (get tree (above ++ (path ++ name ∷ []))) ∷ []
unfolding names_along
names-more tree above [] name = refl
names-more tree above (x ∷ path) name =
    ap (λ (w : List (List ℕ)). name_of (get tree (above ++ x ∷ [])) ∷ w)
    (names-more tree (above ++ x ∷ []) path name
    ∙ ap (λ (p : Path). names_along tree (above ++ x ∷ []) path ++ name_of (get tree p) ∷ []) (append_assoc above (x ∷ []) (path ++ name ∷ [])))

below-same : (m n : ℕ) (front name : List ℕ) → (m ≡ 0 → n ≡ 0) → (n ≡ 0 → m ≡ 0) → text_below m front name ≡ text_below n front name
below-same zero zero front name a b = refl
below-same zero (suc n) front name a b = absurd (omega (arith, a refl))
below-same (suc m) zero front name a b = absurd (omega (arith, b refl))
below-same (suc m) (suc n) front name a b = refl

below-some : (n : ℕ) (front name : List ℕ) → length name ≤ length (text_below n front name)
below-some zero front name = omega (arith, length-append front name)
below-some (suc n) front name = omega (arith, length-append (front ++ 92 ∷ []) name)

no-text : (names : List (List ℕ)) → length names ≡ 0 → length (text_of names) ≡ 0
no-text [] e = refl
no-text (x ∷ names) e = absurd (omega (arith, e))

-- ---- on the way

-- a walk is at the key at a front of a path, with the names that lead there, and nothing is pending
pub record IsOnWay (keys : Keys) (path : List ℕ) (walk : Walk) (rest : List ℕ) : Type 0 where
  pub front : Path
  pub valid : is_path rest ≡ true
  pub splits : folded_path path ≡ front ++ folded_path rest
  pub at : IsAt keys front walk.node
  pub there : IsSome (get keys.tree front)
  pub text : walk.path.items ≡ text_of (names_to keys.tree front)
  pub long : length (text_of (names_to keys.tree front)) ≡ 0 → length (names_to keys.tree front) ≡ 0
  pub none : walk.pending.items ≡ []

-- it begins at the root
pub way_start : (keys : Keys) (path : List ℕ) (walk : Walk) (node : Node) → is_path path ≡ true → IsTree keys.tree → IsAt keys [] node →
    walk.node ≡ node → walk.path.items ≡ [] → walk.pending.items ≡ [] → IsOnWay keys path walk path
unfolding names_along
way_start keys path walk node valid is at same text none = record {
  front = [];
  valid = valid;
  splits = refl;
  at = subst (λ (n : Node). IsAt keys [] n) (sym same) at;
  there = is.root;
  text = text;
  long = λ _. refl;
  none = none;
}

module _ (keys : Keys) (path : List ℕ) (walk : Walk) (rest : List ℕ) (way : IsOnWay keys path walk rest) (is : IsTree keys.tree)
    (limits : IsWithinLimits keys.tree) (whole : IsSome (get keys.tree (folded_path path))) (name behind : List ℕ) (first : IsFirst rest name behind) where
  one : IsOneName name
  one = one_name name first.good

  next : Path
  next = way.front ++ folded_path name

  one_more : next ≡ way.front ++ folded name ∷ []
  unfolding next
  one_more = ap (λ (p : Path). way.front ++ p) one.names

  splits : folded_path path ≡ next ++ folded_path behind
  unfolding next
  splits =
      way.splits
      ∙ (ap (λ (names : List (List ℕ)). way.front ++ map folded names) first.names
      ∙ (sym (append_assoc way.front (folded name ∷ []) (folded_path behind))
      ∙ ap (λ (p : Path). (way.front ++ p) ++ folded_path behind) (sym one.names)))

  next_there : IsSome (get keys.tree next)
  next_there = above_there keys.tree is next (folded_path behind) (subst (λ (p : Path). IsSome (get keys.tree p)) splits whole)

  none_missing : (o : Option Rec) → IsSome o → o ≡ None → ⊥
  none_missing None there e = false≢true there
  none_missing (Some r) there e = cc

  pub never_missing : IsResolved keys (way.front ++ folded_path name) None → ⊥
  unfolding next
  never_missing gone = none_missing (get keys.tree (way.front ++ folded_path name)) next_there gone

  pub way_next : (node : Node) (told : List ℕ) (new : Walk) → IsResolved keys (way.front ++ folded_path name) (Some node) →
      ((p : Path) → IsAt keys p node → (r : Rec) → get keys.tree p ≡ Some r → told ≡ r.name) →
      new.node ≡ node → new.path.items ≡ text_below (length walk.path.items) walk.path.items told → new.pending.items ≡ walk.pending.items →
      IsOnWay keys path new behind
  unfolding next
  way_next node told new found tells same text kept =
      let names = names_to keys.tree way.front in
      let r = some_of (get keys.tree next) next_there in
      let is_told : told ≡ name_of (get keys.tree next) = root_named (get keys.tree next) told next_there (tells next found.0) in
      let all : names_to keys.tree next ≡ names ++ told ∷ [] =
      ap (names_to keys.tree) one_more
      ∙ (names-more keys.tree [] way.front (folded name)
      ∙ ap (λ (w : List ℕ). names ++ w ∷ []) (ap (λ (p : Path). name_of (get keys.tree p)) (sym one_more) ∙ sym is_told)) in
      let same_text : text_of (names ++ told ∷ []) ≡ text_below (length walk.path.items) walk.path.items told =
      text-below names told
      ∙ (ap (λ (w : List ℕ). text_below (length names) w told) (sym way.text)
      ∙ below-same (length names) (length walk.path.items) walk.path.items told
      (λ e. ap length way.text ∙ no-text names e) (λ e. way.long (sym (ap length way.text) ∙ e))) in
      let good : is_key_name told ≡ true =
      subst (λ (w : List ℕ). is_key_name w ≡ true) (sym (tells next found.0 r.0 r.1)) (limits.keys next r.0 r.1).name in
      let some = name-some told good in
      let long = below-some (length walk.path.items) walk.path.items told in
      record {
        front = next;
        valid = first.valid;
        splits = splits;
        at = subst (λ (n : Node). IsAt keys next n) (sym same) found.0;
        there = next_there;
        text = text ∙ (sym same_text ∙ ap text_of (sym all));
        long = λ e. absurd (let l = sym (ap length (ap text_of all ∙ same_text)) ∙ e in omega (arith, some, long, l));
        none = kept ∙ way.none;
      }

-- it stands at the key that the path leads to
pub way_end : (keys : Keys) (path : List ℕ) (walk : Walk) (rest : List ℕ) (p : Path) → IsOnWay keys path walk rest → path_of rest ≡ [] →
    folded_path path ≡ p → Goes keys walk (keys_from keys.tree p)
unfolding keys_from
way_end keys path walk rest p way ended is =
    let same : way.front ≡ p = sym (append-nil way.front) ∙ (ap (λ (names : List (List ℕ)). way.front ++ map folded names) (sym ended) ∙ (sym way.splits ∙ is)) in
    let names = names_to keys.tree way.front in
    let r = some_of (get keys.tree way.front) way.there in
    let below = told_below PATH_LIMIT keys.tree names (children_of keys.tree way.front) in
    record {
      told = record { names = names; key = r.0 };
      rest = below ++ [];
      all_is =
          ap (λ (q : Path). told_from (PATH_LIMIT + 1) keys.tree (names_to keys.tree q) q) (sym same)
          ∙ (told-open PATH_LIMIT keys.tree names way.front
          ∙ (ap (λ (o : Option Rec). told_here names o ++ below) r.1
          ∙ ap (λ (w : List Told). record { names = names; key = r.0 } ∷ w) (sym (append-nil below))));
      stands = record {
        path = way.front;
        levels = PATH_LIMIT;
        more = [];
        place = record { deep = omega arith; long = way.long };
        at = way.at;
        key = r.1;
        text = way.text;
        pending = subst (λ (x : List Pending). ArePending keys walk.path.items (length walk.path.items) (reverse x) []) (sym way.none) refl;
        rest_is = refl;
      };
    }
