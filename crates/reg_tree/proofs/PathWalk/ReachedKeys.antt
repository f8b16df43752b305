-- What callers need of a path that was walked: where none of its names is missing, making its keys makes none.
use Rattle.std.proofs.Common.{◌≡◌, ℕ, Bool, true, false, cond, Option, List, [], ◌∷◌, ◌++◌, map, length, refl, sym, ap, ◌∙◌, arith}
use Rattle.std.proofs.lemmas.List.{append-nil, append_assoc}
use Rattle.reg_names.specs.Names.{folded}
use Rattle.reg_heap.specs.Paths.{Path, Tree}
use Rattle.reg_heap.specs.Edits.{child_path, has_child, if_last, with_key, with_keys, missing, last_there}

-- the first of names of which none is missing is there
first-there : (t : Tree) (p : Path) (name : List ℕ) (names : List (List ℕ)) → missing t p (name ∷ names) ≡ [] → has_child t p name ≡ true
first-there t p name names e = by (has_child t p name) e
  where
    by : (b : Bool) → cond b (missing t (child_path p name) names) (name ∷ names) ≡ [] → b ≡ true
    by true f = refl
    by false f = absurd (let n = ap length f in omega (arith, n))

rest-there : (t : Tree) (p : Path) (name : List ℕ) (names : List (List ℕ)) → missing t p (name ∷ names) ≡ [] → missing t (child_path p name) names ≡ []
rest-there t p name names e = ap (λ b. cond b (missing t (child_path p name) names) (name ∷ names)) (sym (first-there t p name names e)) ∙ e

-- where none is missing, the tree has them all
pub all_there : (t : Tree) (p : Path) (names : List (List ℕ)) (given : Option (List ℕ)) (moment : ℕ) → missing t p names ≡ [] → with_keys t p names given moment ≡ t
all_there t p [] given moment e = refl
all_there t p (name ∷ names) given moment e =
    ap (λ b. with_keys (cond b t (with_key t p name (if_last names given) moment)) (child_path p name) names given moment) (first-there t p name names e)
    ∙ all_there t (child_path p name) names given moment (rest-there t p name names e)

-- and the last that is there is the last of them
pub all_reached : (t : Tree) (p : Path) (names : List (List ℕ)) → missing t p names ≡ [] → last_there t p names ≡ p ++ map folded names
all_reached t p [] e = sym (append-nil p)
all_reached t p (name ∷ names) e =
    ap (λ b. cond b (last_there t (child_path p name) names) p) (first-there t p name names e)
    ∙ (all_reached t (child_path p name) names (rest-there t p name names e)
    ∙ append_assoc p (folded name ∷ []) (map folded names))
