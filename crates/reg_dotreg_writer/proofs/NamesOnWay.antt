-- The names on the way to a key, one after another, and a walk that begins there.
use Rattle.std.proofs.Common.{◌≡◌, ℕ, ◌<◌, Bool, true, List, [], ◌∷◌, ◌++◌, length, map, reverse, Option, Some, None, IsSome, refl, sym}
use Rattle.std.proofs.Common.{ap, ◌∙◌, subst, arith, append_assoc, append-nil, length-append}
use Rattle.std.specs.Prelude.{flat_map, ◌&&◌, nat_le}
use Rattle.std.specs.FinMap.{get}
use Rattle.std.specs.List.{list_all}
use Rattle.reg_names.specs.declared.TheConstants.{PATH_LIMIT}
use Rattle.reg_names.specs.Names.{folded, is_key_name, path_of, text_of, are_key_names, is_path, IsFirst}
use Rattle.reg_heap.specs.Paths.{Path, Tree, Rec, children_of}
use Rattle.reg_heap.specs.Edits.{folded_path}
use Rattle.reg_heap.specs.Trees.{IsTree}
use Rattle.reg_tree.specs.declared.node.Node.{Node}
use Rattle.reg_tree.specs.TreeKeys.{Keys, IsAt, IsResolved}
use Rattle.reg_tree.proofs.BuildKey.OneName.{name-path}
use Rattle.reg_tree.proofs.Invariant.CellReadings.{some_of}
use Rattle.reg_tree_text.specs.declared.walk.Pending.{Pending}
use Rattle.reg_tree_text.specs.declared.walk.Walk.{Walk}
use Rattle.reg_tree_text.specs.DumpTexts.{Told, name_of, told_here}
use Rattle.reg_tree_text.specs.Internal.Walking.{told_below, ArePending, Goes}
use Rattle.reg_tree_text.proofs.WalkSteps.{told-open}
use Rattle.reg_tree_text.proofs.LineTexts.{root_named}
use Rattle.reg_dotreg_writer.specs.Entries.{names_behind, names_to, keys_from}

-- ---- texts of names

-- names behind the first one, each with its backslash
abbrev pub names_tail : List (List ℕ) → List ℕ
names_tail names = flat_map (λ (name : List ℕ). 92 ∷ name) names

pub text-tail : (x : List ℕ) (names : List (List ℕ)) → text_of (x ∷ names) ≡ x ++ names_tail names
text-tail x [] = sym (append-nil x)
text-tail x (y ∷ names) = ap (λ (w : List ℕ). x ++ 92 ∷ w) (text-tail y names)

-- ---- keys on the way

-- each key on the way to one is there
pub front_there : (tree : Tree) → IsTree tree → (p q : Path) → IsSome (get tree (p ++ q)) → IsSome (get tree p)
front_there tree is p [] some = subst (λ (w : Path). IsSome (get tree w)) (append-nil p) some
front_there tree is p (x ∷ q) some =
    is.parents p x (front_there tree is (p ++ x ∷ []) q (subst (λ (w : Path). IsSome (get tree w)) (sym (append_assoc p (x ∷ []) q)) some))

pub one_name : (name : List ℕ) → is_key_name name ≡ true → is_path name ≡ true
unfolding are_key_names
one_name name good =
    ap (λ (names : List (List ℕ)). list_all is_key_name names && nat_le (length names) PATH_LIMIT) (name-path name good)
    ∙ ap (λ (b : Bool). (b && true) && true) good

-- the node of a key on the way, the names that lead to it, and the path behind it
pub record IsOnWay (keys : Keys) (root path : List ℕ) (node : Node) (text rest : List ℕ) : Type 0 where
  pub over : Path
  pub at : IsAt keys over node
  pub valid : is_path rest ≡ true
  pub whole : over ++ folded_path rest ≡ folded_path path
  pub told : text ++ names_tail (names_behind keys.tree over (folded_path rest)) ≡ text_of (names_to root keys.tree (folded_path path))

pub way_start : (keys : Keys) (root path : List ℕ) (node : Node) (empty text : List ℕ) → IsAt keys [] node → is_path path ≡ true →
    empty ≡ [] → text ≡ empty ++ root → IsOnWay keys root path node text path
way_start keys root path node empty text at valid none e =
    record {
      over = [];
      at = at;
      valid = valid;
      whole = refl;
      told = ap (λ (w : List ℕ). w ++ names_tail (names_behind keys.tree [] (folded_path path)))
          (e ∙ ap (λ (w : List ℕ). w ++ root) none) ∙ sym (text-tail root (names_behind keys.tree [] (folded_path path)));
    }

module _ (keys : Keys) (root path : List ℕ) (node : Node) (text rest name behind : List ℕ) (w : IsOnWay keys root path node text rest)
    (first : IsFirst rest name behind) where
  abbrev below : Path
  below = w.over ++ folded name ∷ []

  pub named : w.over ++ folded_path name ≡ below
  named = ap (λ (names : List (List ℕ)). w.over ++ map folded names) (name-path name first.good)

  parted : folded_path rest ≡ folded name ∷ folded_path behind
  parted = ap (map folded) first.names

  whole_below : below ++ folded_path behind ≡ folded_path path
  whole_below = append_assoc w.over (folded name ∷ []) (folded_path behind) ∙ (ap (λ (p : Path). w.over ++ p) (sym parted) ∙ w.whole)

  -- the next key is there
  pub next_there : IsTree keys.tree → IsSome (get keys.tree (folded_path path)) → (found : Option Node) →
      IsResolved keys (w.over ++ folded_path name) found → found ≡ None → ⊥
  next_there is there None r e =
      let some = front_there keys.tree is below (folded_path behind) (subst (λ (p : Path). IsSome (get keys.tree p)) (sym whole_below) there) in
      let none : get keys.tree below ≡ None = subst (λ (p : Path). get keys.tree p ≡ None) named r in
      absurd (lost (get keys.tree below) some none)
    where
      lost : (o : Option Rec) → IsSome o → o ≡ None → ⊥
      lost None s n = absurd (cc)
      lost (Some k) s n = absurd (cc)
  next_there is there (Some n) r e = absurd (cc)

  pub next_at : (found : Option Node) (child : Node) → IsResolved keys (w.over ++ folded_path name) found → found ≡ Some child →
      IsAt keys below child
  next_at found child r e =
      subst (λ (p : Path). IsAt keys p child) named
      (subst (λ (o : Option Node). IsResolved keys (w.over ++ folded_path name) o) e r).0

  pub way_on : (child : Node) (spelt new : List ℕ) → IsAt keys below child → IsSome (get keys.tree below) →
      ((r : Rec) → get keys.tree below ≡ Some r → spelt ≡ r.name) → new ≡ text ++ 92 ∷ spelt → IsOnWay keys root path child new behind
  way_on child spelt new at there told e =
      let behind_names = names_behind keys.tree below (folded_path behind) in
      record {
        over = below;
        at = at;
        valid = first.valid;
        whole = whole_below;
        told = ap (λ (x : List ℕ). x ++ names_tail behind_names) (e ∙ ap (λ (x : List ℕ). text ++ 92 ∷ x) (root_named (get keys.tree below) spelt there told))
            ∙ (append_assoc text (92 ∷ name_of (get keys.tree below)) (names_tail behind_names)
            ∙ (ap (λ (p : Path). text ++ names_tail (names_behind keys.tree w.over p)) (sym parted) ∙ w.told));
      }

-- no name is left
pub way_ends : (keys : Keys) (root path : List ℕ) (node : Node) (text rest : List ℕ) → IsOnWay keys root path node text rest → path_of rest ≡ [] →
    text ≡ text_of (names_to root keys.tree (folded_path path))
way_ends keys root path node text rest w none =
    sym (append-nil text)
    ∙ (ap (λ (names : List (List ℕ)). text ++ names_tail (names_behind keys.tree w.over (map folded names))) (sym none) ∙ w.told)

-- ---- a walk

long-text : (x : List ℕ) (names : List (List ℕ)) → 0 < length x → length (text_of (x ∷ names)) ≡ 0 → length (x ∷ names) ≡ 0
long-text x names some e =
    let t = ap length (text-tail x names) in let l = length-append x (names_tail names) in absurd (omega (arith, e, t, l, some))

pub start_goes : (keys : Keys) (root : List ℕ) (path : Path) (walk : Walk) (node : Node) → 0 < length root → IsAt keys path node →
    IsSome (get keys.tree path) → walk.node ≡ node → walk.pending.items ≡ [] → walk.path.items ≡ text_of (names_to root keys.tree path) →
    Goes keys walk (keys_from root keys.tree path)
unfolding keys_from
start_goes keys root path walk node some at there same none text =
    let names = names_to root keys.tree path in
    let k = some_of (get keys.tree path) there in
    let below = told_below PATH_LIMIT keys.tree names (children_of keys.tree path) in
    record {
      told = record { names = names; key = k.0 };
      rest = below ++ [];
      all_is = told-open PATH_LIMIT keys.tree names path
          ∙ (ap (λ (o : Option Rec). told_here names o ++ below) k.1
          ∙ ap (λ (x : List Told). record { names = names; key = k.0 } ∷ x) (sym (append-nil below)));
      stands = record {
        path = path;
        levels = PATH_LIMIT;
        more = [];
        place = record { deep = omega arith; long = long-text root (names_behind keys.tree [] path) some };
        at = subst (λ (n : Node). IsAt keys path n) (sym same) at;
        key = k.1;
        text = text;
        pending = subst (λ (x : List Pending). ArePending keys walk.path.items (length walk.path.items) (reverse x) []) (sym none) refl;
        rest_is = refl;
      };
    }
