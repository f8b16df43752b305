-- The keys that were told, as one more is told.
use Rattle.std.proofs.Common.{◌≡◌, ◌≢◌, ◌↔◌, ℕ, ◌+◌, Bool, true, false, not, ◌||◌, ◌&&◌, List, [], ◌∷◌, ◌++◌, length, length-append, take, drop, refl, sym, ap, ◌∙◌, subst, arith}
use Rattle.std.specs.List.{list_any}
use Rattle.std.specs.Ordering.{eq_by_cmp}
use Rattle.std.proofs.Math.Seq.{take-append_seam, drop-append_seam}
use Rattle.std.proofs.lemmas.Bool.{false≢true}
use Rattle.std.proofs.lemmas.List.Folds.{list_any-append}
use Rattle.reg_names.specs.Names.{folded}
use Rattle.reg_heap.specs.Paths.{Path, Rec, path_cmp}
use Rattle.reg_heap.specs.Edits.{child_path}
use Rattle.reg_heap.specs.Members.{same_name}
use Rattle.reg_heap.proofs.ChildrenOfPath.{path-is}
use Rattle.reg_tree.proofs.InsertKey.PathGrowth.{path-self}
use Rattle.reg_values.proofs.ValueListing.FoundValues.{same-is}
use Rattle.reg_tree_image.specs.WalkSteps.{Seen}
use Rattle.reg_tree_image.specs.LoadingWalk.{is_free}
use Rattle.reg_tree_image.specs.declared.sibling_names.SiblingNames.{SiblingNames}
use Rattle.reg_tree_image.specs.Internal.CheckedStacks.{has_met, AreSiblings, HasAllAbove}

-- ---- paths

-- two paths are one by the order just where they are the same
same-by : (p q : Path) (b : Bool) → ((b ≡ true) ↔ (p ≡ q)) → eq_by_cmp path_cmp p q ≡ b
same-by p q true f = subst (λ x. eq_by_cmp path_cmp p x ≡ true) (f.0 refl) (path-self p)
same-by p q false f = by (eq_by_cmp path_cmp p q) refl
  where
    by : (b : Bool) → eq_by_cmp path_cmp p q ≡ b → b ≡ false
    by true e = absurd (false≢true (f.1 (path-is p q e)))
    by false e = refl

-- paths of other lengths differ
pub other-length : (p q : Path) → length p ≢ length q → eq_by_cmp path_cmp p q ≡ false
other-length p q n = same-by p q false (λ e. absurd (false≢true e), λ e. absurd (n (ap length e)))

pub child-length : (p : Path) (name : List ℕ) → length (child_path p name) ≡ length p + 1
child-length p name = length-append p (folded name ∷ [])

-- a path has one key above it
pub one-above : (a p : Path) (m n : List ℕ) → child_path a m ≡ child_path p n → a ≡ p
one-above a p m n e =
    let k = child-length a m in
    let l = child-length p n in
    let s = ap length e in
    let same : length a ≡ length p = omega (arith, k, l, s) in
    sym (take-append_seam a (folded m ∷ []))
    ∙ (ap (take (length a)) e ∙ (ap (λ i. take i (child_path p n)) same ∙ take-append_seam p (folded n ∷ [])))

-- below one key paths are one just where names fold alike
child-same : (p : Path) (m n : List ℕ) → eq_by_cmp path_cmp (child_path p m) (child_path p n) ≡ same_name m n
child-same p m n = by (eq_by_cmp path_cmp (child_path p m) (child_path p n)) refl
  where
    first : List (List ℕ) → List ℕ
    first [] = []
    first (x ∷ xs) = x

    last-of : (x : List ℕ) → first (drop (length p) (p ++ x ∷ [])) ≡ x
    last-of x = ap first (drop-append_seam p (x ∷ []))

    by : (b : Bool) → eq_by_cmp path_cmp (child_path p m) (child_path p n) ≡ b → b ≡ same_name m n
    by true e = sym (same-is m n true (
      λ t. sym (last-of (folded m)) ∙ (ap (λ q. first (drop (length p) q)) (path-is (child_path p m) (child_path p n) e) ∙ last-of (folded n)),
      λ t. refl,
    ))
    by false e = sym (same-is m n false (
      λ t. absurd (false≢true t),
      λ t. absurd (false≢true (sym e ∙ same-by (child_path p m) (child_path p n) true (λ s. ap (λ x. p ++ x ∷ []) t, λ s. refl))),
    ))

-- ---- one more is told

pub free-more : (p q : Path) (r : Rec) (told : List (Path × Rec)) →
    is_free p (told ++ (q, r) ∷ []) ≡ (is_free p told && not (eq_by_cmp path_cmp q p))
free-more p q r told =
    ap not (list_any-append (λ (e : Path × Rec). eq_by_cmp path_cmp e.0 p) told ((q, r) ∷ []))
    ∙ by (list_any (λ (e : Path × Rec). eq_by_cmp path_cmp e.0 p) told) (eq_by_cmp path_cmp q p)
  where
    by : (a b : Bool) → not (a || (b || false)) ≡ (not a && not b)
    by true b = refl
    by false true = refl
    by false false = refl

and-not : (a b : Bool) → b ≡ false → (a && not b) ≡ a
and-not true b e = ap not e
and-not false b e = refl

-- of another length a path stays free or not
pub free-still : (p q : Path) (r : Rec) (told : List (Path × Rec)) → length q ≢ length p → is_free p (told ++ (q, r) ∷ []) ≡ is_free p told
free-still p q r told n = free-more p q r told ∙ and-not (is_free p told) (eq_by_cmp path_cmp q p) (other-length q p n)

-- what was told stays so
pub taken-still : (p q : Path) (r : Rec) (told : List (Path × Rec)) → is_free p told ≡ false → is_free p (told ++ (q, r) ∷ []) ≡ false
taken-still p q r told e = free-more p q r told ∙ ap (λ b. b && not (eq_by_cmp path_cmp q p)) e

-- what is told last isn't free
pub taken-last : (q : Path) (r : Rec) (told : List (Path × Rec)) → is_free q (told ++ (q, r) ∷ []) ≡ false
taken-last q r told = free-more q q r told ∙ (ap (λ b. is_free q told && not b) (path-self q) ∙ by (is_free q told))
  where
    by : (a : Bool) → (a && false) ≡ false
    by true = refl
    by false = refl

-- free with one more, it was free before, and isn't that one
free-before : (p q : Path) (r : Rec) (told : List (Path × Rec)) → is_free p (told ++ (q, r) ∷ []) ≡ true →
    (is_free p told ≡ true) × (eq_by_cmp path_cmp q p ≡ false)
free-before p q r told e = by (is_free p told) (eq_by_cmp path_cmp q p) (sym (free-more p q r told) ∙ e)
  where
    by : (a b : Bool) → (a && not b) ≡ true → (a ≡ true) × (b ≡ false)
    by true true e = absurd (false≢true e)
    by true false e = (refl, refl)
    by false b e = absurd (false≢true e)

-- ---- with a key that wasn't told none below it was

pub all-above-first : (r : Rec) → HasAllAbove (([], r) ∷ [])
all-above-first r p n e =
    free-still (child_path p n) [] r [] (λ l. let k = child-length p n in absurd (omega (arith, l, k)))

pub all-above-more : (a : Path) (m : List ℕ) (r : Rec) (told : List (Path × Rec)) → is_free a told ≡ false → HasAllAbove told →
    HasAllAbove (told ++ (child_path a m, r) ∷ [])
all-above-more a m r told there above p n e =
    let before = free-before p (child_path a m) r told e in
    free-more (child_path p n) (child_path a m) r told
    ∙ (ap (λ b. b && not (eq_by_cmp path_cmp (child_path a m) (child_path p n))) (above p n before.0)
    ∙ ap not (by (eq_by_cmp path_cmp (child_path a m) (child_path p n)) refl before.0))
  where
    by : (b : Bool) → eq_by_cmp path_cmp (child_path a m) (child_path p n) ≡ b → is_free p told ≡ true → b ≡ false
    by true s free =
        let up : a ≡ p = one-above a p m n (path-is (child_path a m) (child_path p n) s) in
        absurd (false≢true (sym there ∙ (ap (λ q. is_free q told) up ∙ free)))
    by false s free = refl

-- ---- the names of siblings

-- a key's own names, as one of its subkeys is told
pub one-sibling : (p : Path) (m : List ℕ) (r : Rec) (seen after : Seen) (old new : SiblingNames) →
    after.told ≡ seen.told ++ (child_path p m, r) ∷ [] →
    ((other : List ℕ) → has_met new other ≡ (has_met old other || same_name m other)) →
    AreSiblings (child_path p) seen.told old → AreSiblings (child_path p) after.told new
one-sibling p m r seen after old new told one s n =
    ap (is_free (child_path p n)) told
    ∙ (free-more (child_path p n) (child_path p m) r seen.told
    ∙ (ap (λ a. a && not (eq_by_cmp path_cmp (child_path p m) (child_path p n))) (s n)
    ∙ (ap (λ b. not (has_met old n) && not b) (child-same p m n)
    ∙ (by (has_met old n) (same_name m n) ∙ ap not (sym (one n))))))
  where
    by : (a b : Bool) → (not a && not b) ≡ not (a || b)
    by true b = refl
    by false b = refl

-- those of a key of another depth
pub same-siblings : (p q : Path) (r : Rec) (seen after : Seen) (names : SiblingNames) → after.told ≡ seen.told ++ (q, r) ∷ [] →
    length q ≢ length p + 1 → AreSiblings (child_path p) seen.told names → AreSiblings (child_path p) after.told names
same-siblings p q r seen after names told l s n =
    ap (is_free (child_path p n)) told
    ∙ (free-still (child_path p n) q r seen.told (λ e. let k = child-length p n in l (e ∙ k)) ∙ s n)

-- and of the key that is told, which has none yet
pub no-siblings : (q : Path) (r : Rec) (seen after : Seen) (names : SiblingNames) → after.told ≡ seen.told ++ (q, r) ∷ [] →
    is_free q seen.told ≡ true → HasAllAbove seen.told → ((other : List ℕ) → has_met names other ≡ false) →
    AreSiblings (child_path q) after.told names
no-siblings q r seen after names told free above none n =
    ap (is_free (child_path q n)) told
    ∙ (free-still (child_path q n) q r seen.told (λ l. let k = child-length q n in absurd (omega (arith, l, k)))
    ∙ (above q n free ∙ ap not (sym (none n))))
