-- The keys on the way to one, made by their names below a key that has none: without values, with the names that another tree has.
use Rattle.std.proofs.Common.{◌≡◌, ℕ, ◌||◌, Bool, true, false, cond, is_some, List, [], ◌∷◌, ◌++◌, length, map, Option, Some, None, IsSome}
use Rattle.std.proofs.Common.{refl, sym, ap, ◌∙◌, subst, arith, append_assoc, append-nil, length-append}
use Rattle.std.specs.List.{list_all}
use Rattle.std.specs.FinMap.{get}
use Rattle.std.proofs.lemmas.Bool.{and_from, false≢true}
use Rattle.reg_names.specs.Names.{folded, is_key_name}
use Rattle.reg_heap.specs.Paths.{Path, Tree, Rec}
use Rattle.reg_heap.specs.Edits.{with_key, with_keys, has_child, child_path, if_last}
use Rattle.reg_heap.specs.Trees.{IsTree, IsWithinLimits}
use Rattle.reg_heap.proofs.ChildrenOfPath.{below, path-is}
use Rattle.reg_model.proofs.HandleInvariant.{same-self, has-with_keys, has-made}
use Rattle.reg_model.proofs.TreesOfChanges.{some-of}
use Rattle.reg_tree_text.specs.DumpTexts.{name_of}
use Rattle.reg_dotreg_writer.specs.Entries.{names_behind}
use Rattle.reg_dotreg_writer.proofs.NamesOnWay.{front_there}
use Rattle.reg_dotreg_law.proofs.SeenKeys.{Seen, seen, shown, is_same, seen-made}
use Rattle.reg_dotreg_law.proofs.ChildPaths.{no-true}
use Rattle.reg_dotreg_law.proofs.MadeTrees.{none-shown}

-- ---- names made one below the other

none-given : (names : List (List ℕ)) → if_last names None ≡ None
none-given [] = refl
none-given (n ∷ names) = refl

-- the tree with the first of them
abbrev step : Tree → Path → List ℕ → ℕ → Tree
step t p n moment = cond (has_child t p n) t (with_key t p n None moment)

first-made : (t : Tree) (p : Path) (n : List ℕ) (names : List (List ℕ)) (moment : ℕ) →
    with_keys t p (n ∷ names) None moment ≡ with_keys (step t p n moment) (child_path p n) names None moment
first-made t p n names moment =
    ap (λ (g : Option (List ℕ)). with_keys (cond (has_child t p n) t (with_key t p n g moment)) (child_path p n) names None moment) (none-given names)

has-first : (t : Tree) (p : Path) (n : List ℕ) (moment : ℕ) → IsSome (get t p) → has_child (step t p n moment) p n ≡ true
has-first t p n moment there = has-made t p (n ∷ []) None moment there

-- keys that are made once more with one below them: the same as made with it at once
pub keys-again : (t : Tree) (p : Path) (names : List (List ℕ)) (name : List ℕ) (moment : ℕ) → IsSome (get t p) →
    with_keys (with_keys t p names None moment) p (names ++ name ∷ []) None moment ≡ with_keys t p (names ++ name ∷ []) None moment
keys-again t p [] name moment there = refl
keys-again t p (n ∷ names) name moment there =
    let next : Tree = step t p n moment in
    let child : Path = child_path p n in
    let all : Tree = with_keys next child names None moment in
    let here : has_child next p n ≡ true = has-first t p n moment there in
    let has : has_child all p n ≡ true = has-with_keys next child names None moment child here in
    ap (λ (x : Tree). with_keys x p (n ∷ (names ++ name ∷ [])) None moment) (first-made t p n names moment)
    ∙ (first-made all p n (names ++ name ∷ []) moment
    ∙ (ap (λ (b : Bool). with_keys (cond b all (with_key all p n None moment)) child (names ++ name ∷ []) None moment) has
    ∙ (keys-again next child names name moment here
    ∙ sym (first-made t p n (names ++ name ∷ []) moment))))

-- ---- paths strictly below one, and at or above what comes behind it

abbrev pub is_between : Path → Path → Path → Bool
is_between p [] q = false
is_between p (n ∷ rest) q = is_same q (below p n) || is_between (below p n) rest q

or-right : (a b : Bool) → b ≡ true → (a || b) ≡ true
or-right true b e = refl
or-right false b e = e

pub between-from : (p a : Path) (n : List ℕ) (b : Path) → is_between p (a ++ n ∷ b) (p ++ (a ++ n ∷ [])) ≡ true
between-from p [] n b = ap (λ (x : Bool). x || is_between (below p n) b (below p n)) (same-self (below p n))
between-from p (m ∷ a) n b =
    or-right (is_same (p ++ (m ∷ (a ++ n ∷ []))) (below p m)) (is_between (below p m) (a ++ n ∷ b) (p ++ (m ∷ (a ++ n ∷ []))))
    (subst (λ (x : Path). is_between (below p m) (a ++ n ∷ b) x ≡ true) (append_assoc p (m ∷ []) (a ++ n ∷ [])) (between-from (below p m) a n b))

-- such a path, as a front of what comes behind
pub record IsOnWay (p rest q : Path) : Type 0 where
  pub front : Path
  pub name : List ℕ
  pub behind : Path
  pub whole : rest ≡ front ++ name ∷ behind
  pub at : q ≡ p ++ (front ++ name ∷ [])

pub between-is : (p rest q : Path) → is_between p rest q ≡ true → IsOnWay p rest q
between-is p [] q e = absurd (false≢true e)
between-is p (n ∷ rest) q e = by (is_same q (below p n)) refl e (between-is (below p n) rest q)
  where
    by : (b : Bool) → is_same q (below p n) ≡ b → (b || is_between (below p n) rest q) ≡ true →
        (is_between (below p n) rest q ≡ true → IsOnWay (below p n) rest q) → IsOnWay p (n ∷ rest) q
    by true same e deeper = record { front = []; name = n; behind = rest; whole = refl; at = path-is q (below p n) same }
    by false other e deeper =
        let d = deeper e in
        record {
          front = n ∷ d.front;
          name = d.name;
          behind = d.behind;
          whole = ap (λ (x : Path). n ∷ x) d.whole;
          at = d.at ∙ append_assoc p (n ∷ []) (d.front ++ d.name ∷ []);
        }

-- ---- the names that a tree has on the way

module _ (tree : Tree) (i : IsTree tree) where
  next-there : (p : Path) (n : List ℕ) (rest : Path) → IsSome (get tree (p ++ n ∷ rest)) → IsSome (get tree (below p n ++ rest))
  next-there p n rest there = subst (λ (x : Path). IsSome (get tree x)) (sym (append_assoc p (n ∷ []) rest)) there

  spelt : (p : Path) (n : List ℕ) → IsSome (get tree (below p n)) → folded (name_of (get tree (below p n))) ≡ n
  spelt p n there = let found = some-of (get tree (below p n)) there in ap (λ (o : Option Rec). folded (name_of o)) found.1 ∙ i.names p n found.0 found.1

  pub behind-folded : (p rest : Path) → IsSome (get tree (p ++ rest)) → map folded (names_behind tree p rest) ≡ rest
  behind-folded p [] there = refl
  behind-folded p (n ∷ rest) there =
      let deep = next-there p n rest there in
      ap (λ (x : List ℕ). x ∷ map folded (names_behind tree (below p n) rest)) (spelt p n (front_there tree i (below p n) rest deep))
      ∙ ap (λ (x : Path). n ∷ x) (behind-folded (below p n) rest deep)

  pub behind-good : IsWithinLimits tree → (p rest : Path) → IsSome (get tree (p ++ rest)) → list_all is_key_name (names_behind tree p rest) ≡ true
  behind-good w p [] there = refl
  behind-good w p (n ∷ rest) there =
      let deep = next-there p n rest there in
      let found = some-of (get tree (below p n)) (front_there tree i (below p n) rest deep) in
      and_from (is_key_name (name_of (get tree (below p n)))) (list_all is_key_name (names_behind tree (below p n) rest))
      (ap (λ (o : Option Rec). is_key_name (name_of o)) found.1 ∙ (w.keys (below p n) found.0 found.1).name) (behind-good w (below p n) rest deep)

  pub behind-last : (p a : Path) (n : List ℕ) →
      names_behind tree p (a ++ n ∷ []) ≡ names_behind tree p a ++ name_of (get tree (below (p ++ a) n)) ∷ []
  behind-last p [] n = ap (λ (x : Path). name_of (get tree (below x n)) ∷ []) (sym (append-nil p))
  behind-last p (m ∷ a) n =
      ap (λ (x : List (List ℕ)). name_of (get tree (below p m)) ∷ x)
      (behind-last (below p m) a n
      ∙ ap (λ (x : Path). names_behind tree (below p m) a ++ name_of (get tree (below x n)) ∷ []) (append_assoc p (m ∷ []) a))

  -- ---- made in another tree, below a key that has none

  abbrev pub EndsAt : Tree → Path → Type 0
  EndsAt t p = (n : List ℕ) (rest : Path) → get t (p ++ n ∷ rest) ≡ None

  longer : (child : Path) (m : List ℕ) (rest : Path) → is_same (child ++ m ∷ rest) child ≡ false
  longer child m rest =
      no-true (is_same (child ++ m ∷ rest) child) (λ e.
      let whole = ap length (path-is (child ++ m ∷ rest) child e) in
      let long = length-append child (m ∷ rest) in
      omega (arith, whole, long))

  either-seen : (q child : Path) (s b : Bool) (old : Seen) → is_same q child ≡ s →
      cond b (Some (name_of (get tree q), [])) (cond s (Some (name_of (get tree child), [])) old)
      ≡ cond (s || b) (Some (name_of (get tree q), [])) old
  either-seen q child true true old e = refl
  either-seen q child true false old e = ap (λ (x : Path). Some (name_of (get tree x), [])) (sym (path-is q child e))
  either-seen q child false true old e = refl
  either-seen q child false false old e = refl

  pub way-seen : (moment : ℕ) (rest : Path) (t : Tree) (p : Path) → EndsAt t p → IsSome (get tree (p ++ rest)) → (q : Path) →
      seen (with_keys t p (names_behind tree p rest) None moment) q ≡ cond (is_between p rest q) (Some (name_of (get tree q), [])) (seen t q)
  way-seen moment [] t p ends there q = refl
  way-seen moment (n ∷ rest) t p ends there q =
      let child : Path = below p n in
      let name : List ℕ = name_of (get tree child) in
      let names : List (List ℕ) = names_behind tree child rest in
      let deep : IsSome (get tree (child ++ rest)) = next-there p n rest there in
      let fold : folded name ≡ n = spelt p n (front_there tree i child rest deep) in
      let at : child_path p name ≡ child = ap (λ (x : List ℕ). p ++ x ∷ []) fold in
      let missing : has_child t p name ≡ false = ap is_some (ap (get t) at ∙ ends n []) in
      let next : Tree = with_key t p name None moment in
      let made : (x : Path) → seen next x ≡ cond (is_same x child) (Some (name, [])) (seen t x) =
      λ x. seen-made t p name moment x ∙ ap (λ (y : Path). cond (is_same x y) (Some (name, [])) (seen t x)) at in
      let over : EndsAt next child =
      λ m r. none-shown (get next (child ++ m ∷ r))
      (made (child ++ m ∷ r)
      ∙ (ap (λ (b : Bool). cond b (Some (name, [])) (seen t (child ++ m ∷ r))) (longer child m r)
      ∙ ap shown (ap (get t) (append_assoc p (n ∷ []) (m ∷ r)) ∙ ends n (m ∷ r)))) in
      ap (λ (x : Tree). seen x q) (first-made t p name names moment)
      ∙ (ap (λ (b : Bool). seen (with_keys (cond b t next) (child_path p name) names None moment) q) missing
      ∙ (ap (λ (x : Path). seen (with_keys next x names None moment) q) at
      ∙ (way-seen moment rest next child over deep q
      ∙ (ap (λ (x : Seen). cond (is_between child rest q) (Some (name_of (get tree q), [])) x) (made q)
      ∙ either-seen q child (is_same q child) (is_between child rest q) (seen t q) refl))))
