-- The last of some keys that are made, with a descriptor that is given: as if it was first made with its parent's, and then described.
use Rattle.std.proofs.Common.{◌≡◌, ◌≢◌, ℕ, ◌+◌, Bool, true, false, cond, Option, Some, None, is_some, List, [], ◌∷◌, ◌++◌, map, length, refl, sym, ap, ◌∙◌, arith, length-append}
use Rattle.std.specs.Ordering.{eq_by_cmp}
use Rattle.std.specs.FinMap.{get, insert, get-insert, same_map}
use Rattle.std.proofs.lemmas.List.{append_assoc}
use Rattle.std.specs.Prelude.{unwrap_or}
use Rattle.reg_names.specs.Names.{folded}
use Rattle.reg_heap.specs.Paths.{Path, Tree, Rec, path_cmp}
use Rattle.reg_heap.specs.Edits.{edited, at_time, made_key, with_descriptor, descriptor_of, child_path, has_child, with_key, with_keys}
use Rattle.reg_heap.proofs.ChildrenOfPath.{path-is}
use Rattle.reg_shape.proofs.Refinement.SpeltTrees.{path_total, path_same}
use Rattle.reg_tree.proofs.ValueChange.TreeAfterValueChange.{edited-at}
use Rattle.reg_tree.proofs.InsertKey.PathGrowth.{path-self}

-- of two records put at one path the last counts
pub insert-twice : (t : Tree) (p : Path) (a b : Rec) → insert (insert t p a) p b ≡ insert t p b
insert-twice t p a b =
    same_map path_total path_same (insert (insert t p a) p b) (insert t p b)
    (λ q. get-insert path_total (insert t p a) p b q ∙ (ap (λ o. cond (eq_by_cmp path_cmp q p) (Some b) o) (get-insert path_total t p a q)
    ∙ (by q (eq_by_cmp path_cmp q p) ∙ sym (get-insert path_total t p b q))))
  where
    by : (q : Path) (e : Bool) → cond e (Some b) (cond e (Some a) (get t q)) ≡ cond e (Some b) (get t q)
    by q true = refl
    by q false = refl

-- at another path nothing changed
get-elsewhere : (t : Tree) (p q : Path) (r : Rec) → q ≢ p → get (insert t p r) q ≡ get t q
get-elsewhere t p q r apart = get-insert path_total t p r q ∙ by (eq_by_cmp path_cmp q p) refl
  where
    by : (e : Bool) → eq_by_cmp path_cmp q p ≡ e → cond e (Some r) (get t q) ≡ get t q
    by true e = absurd (apart (path-is q p e))
    by false e = refl

edited-none : (t : Tree) (p : Path) (f : Rec → Rec) → get t p ≡ None → edited t p f ≡ t
edited-none t p f e = rw e refl

edited-elsewhere : (t : Tree) (p q : Path) (f : Rec → Rec) → q ≢ p → get (edited t p f) q ≡ get t q
edited-elsewhere t p q f apart = by (get t p) refl
  where
    by : (o : Option Rec) → get t p ≡ o → get (edited t p f) q ≡ get t q
    by None e = ap (λ (t : Tree). get t q) (edited-none t p f e)
    by (Some r) e = ap (λ (t : Tree). get t q) (edited-at t p r f e) ∙ get-elsewhere t p q (f r) apart

-- one key
given_one : (t : Tree) (p : Path) (name descriptor : List ℕ) (moment : ℕ) →
    with_key t p name (Some descriptor) moment ≡ edited (with_key t p name None moment) (child_path p name) (with_descriptor descriptor moment)
given_one t p name descriptor moment =
    let above : Tree = edited t p (at_time moment) in
    let key : Rec = made_key name (descriptor_of (get t p)) moment in
    let there = get-insert path_total above (child_path p name) key (child_path p name)
    ∙ ap (λ e. cond e (Some key) (get above (child_path p name))) (path-self (child_path p name)) in
    sym (edited-at (insert above (child_path p name) key) (child_path p name) key (with_descriptor descriptor moment) there
    ∙ insert-twice above (child_path p name) key (with_descriptor descriptor moment key))

-- what is further below is as it was
further : (t : Tree) (p q : Path) (name : List ℕ) (given : Option (List ℕ)) (moment : ℕ) → q ≢ p → q ≢ child_path p name → get (with_key t p name given moment) q ≡ get t q
further t p q name given moment a b =
    get-elsewhere (edited t p (at_time moment)) (child_path p name) q (made_key name (unwrap_or given (descriptor_of (get t p))) moment) b
    ∙ edited-elsewhere t p q (at_time moment) a

-- some keys, of which the last is missing
pub given_last : (t : Tree) (p : Path) (names : List (List ℕ)) (descriptor : List ℕ) (moment : ℕ) → names ≢ [] → get t (p ++ map folded names) ≡ None →
    with_keys t p names (Some descriptor) moment ≡ edited (with_keys t p names None moment) (p ++ map folded names) (with_descriptor descriptor moment)
given_last t p [] descriptor moment some none = absurd (some refl)
given_last t p (name ∷ []) descriptor moment some none =
    let free : has_child t p name ≡ false = ap is_some none in
    ap (λ e. cond e t (with_key t p name (Some descriptor) moment)) free
    ∙ (given_one t p name descriptor moment
    ∙ ap (λ e. edited (cond e t (with_key t p name None moment)) (child_path p name) (with_descriptor descriptor moment)) (sym free))
given_last t p (name ∷ next ∷ names) descriptor moment some none =
    let all : child_path p name ++ map folded (next ∷ names) ≡ p ++ map folded (name ∷ next ∷ names) = append_assoc p (folded name ∷ []) (map folded (next ∷ names)) in
    let then : Tree = cond (has_child t p name) t (with_key t p name None moment) in
    given_last then (child_path p name) (next ∷ names) descriptor moment (λ e. absurd (let n = ap length e in omega (arith, n)))
    (ap (get then) all ∙ (by (has_child t p name) ∙ none))
    ∙ ap (λ q. edited (with_keys then (child_path p name) (next ∷ names) None moment) q (with_descriptor descriptor moment)) all
  where
    far : (q : Path) → length q ≡ length p + 1 → p ++ map folded (name ∷ next ∷ names) ≢ q
    far q l e =
        let n = length-append p (map folded (name ∷ next ∷ names)) in
        let m = ap length e in
        omega (arith, n, m, l)

    near : p ++ map folded (name ∷ next ∷ names) ≢ p
    near e =
        let n = length-append p (map folded (name ∷ next ∷ names)) in
        let m = ap length e in
        omega (arith, n, m)

    by : (e : Bool) → get (cond e t (with_key t p name None moment)) (p ++ map folded (name ∷ next ∷ names)) ≡ get t (p ++ map folded (name ∷ next ∷ names))
    by true = refl
    by false = further t p (p ++ map folded (name ∷ next ∷ names)) name None moment near (far (child_path p name) (length-append p (folded name ∷ [])))
