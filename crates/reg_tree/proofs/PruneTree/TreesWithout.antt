-- What a tree has at each path after a key of it was removed or changed.
use Rattle.std.proofs.Common.{◌≡◌, ◌≢◌, ℕ, ◌+◌, ◌-◌, ◌<◌, Bool, true, false, not, cond, ◌&&◌, nat_lt, Option, Some, None, IsSome, is_some, [], length, refl, sym, ap, ◌∙◌, subst, arith}
use Rattle.std.specs.Option.{option_map}
use Rattle.std.specs.Ordering.{is_eq, eq_by_cmp}
use Rattle.std.specs.FinMap.{get, insert, retain_keys, contains_key, contains_key-keys, keys, len, entries, get-insert, get-remove, get-retain_keys, len-insert, len-remove, len-entries, same_map}
use Rattle.std.specs.FinMap.{slice_cmp-IsAntisymmetric, nat_cmp-IsAntisymmetric}
use Rattle.std.proofs.lemmas.Bool.{false≢true}
use Rattle.std.proofs.lemmas.Cmp.{tied_itself}
use Rattle.std.proofs.lemmas.List.{append-nil, length-map}
use Rattle.reg_heap.specs.Paths.{Path, Tree, Rec, path_cmp}
use Rattle.reg_heap.specs.Edits.{edited, above, at_time, without_key, is_within, is_under}
use Rattle.reg_heap.proofs.ChildrenOfPath.{path-is}
use Rattle.reg_shape.proofs.Refinement.SpeltTrees.{path_total}
use Rattle.reg_tree.proofs.PruneTree.PathOrder.{any-at}
use Rattle.reg_tree.proofs.PruneTree.PathsWithin.{within-is, within-case, not-under-itself}

-- ---- two paths

pub same-as : Path → Path → Bool
same-as p q = eq_by_cmp path_cmp p q

pub same-true : (p q : Path) → p ≡ q → same-as p q ≡ true
unfolding same-as
same-true p q e = ap (eq_by_cmp path_cmp p) (sym e) ∙ ap is_eq (tied_itself path_total p)

pub true-same : (p q : Path) → same-as p q ≡ true → p ≡ q
unfolding same-as
true-same p q e = path-is p q e

pub same-false : (p q : Path) → p ≢ q → same-as p q ≡ false
same-false p q n = by (same-as p q) refl
  where
    by : (b : Bool) → same-as p q ≡ b → b ≡ false
    by true e = absurd (n (true-same p q e))
    by false e = refl

pub false-other : (p q : Path) → same-as p q ≡ false → p ≢ q
false-other p q e f = false≢true (sym e ∙ same-true p q f)

-- ---- a key changed

pub get-edited : (t : Tree) (p : Path) (f : Rec → Rec) (q : Path) → get (edited t p f) q ≡ cond (same-as q p) (option_map f (get t p)) (get t q)
unfolding same-as
get-edited t p f q = by (get t p) refl
  where
    by : (o : Option Rec) → get t p ≡ o → get (edited t p f) q ≡ cond (eq_by_cmp path_cmp q p) (option_map f o) (get t q)
    by None e =
        ap (λ (t : Tree). get t q) (edited-none e)
        ∙ at (eq_by_cmp path_cmp q p) refl
      where
        edited-none : get t p ≡ None → edited t p f ≡ t
        edited-none e = rw e refl

        at : (b : Bool) → eq_by_cmp path_cmp q p ≡ b → get t q ≡ cond b None (get t q)
        at true g = ap (get t) (path-is q p g) ∙ e
        at false g = refl
    by (Some r) e = ap (λ (t : Tree). get t q) (edited-some e) ∙ get-insert path_total t p (f r) q
      where
        edited-some : get t p ≡ Some r → edited t p f ≡ insert t p (f r)
        edited-some e = rw e refl

-- ---- a key removed

module _ (t : Tree) (d : Path) (moment : ℕ) where
  abbrev now : Tree
  now = without_key t d moment

  pub get-without : (q : Path) → get now q ≡ cond (same-as q d) None (cond (same-as q (above d)) (option_map (at_time moment) (get t (above d))) (get t q))
  unfolding same-as
  get-without q =
      get-remove path_total (edited t (above d) (at_time moment)) d q
      ∙ ap (λ (o : Option Rec). cond (eq_by_cmp path_cmp q d) None o) (get-edited t (above d) (at_time moment) q)

  abbrev seen : Path → Bool → Bool → Option Rec
  seen q a b = cond a None (cond b (option_map (at_time moment) (get t (above d))) (get t q))

  pub without-here : get now d ≡ None
  without-here = get-without d ∙ ap (λ a. seen d a (same-as d (above d))) (same-true d d refl)

  pub without-above : above d ≢ d → get now (above d) ≡ option_map (at_time moment) (get t (above d))
  without-above n =
      get-without (above d)
      ∙ (ap (λ a. seen (above d) a (same-as (above d) (above d))) (same-false (above d) d n) ∙ ap (λ b. seen (above d) false b) (same-true (above d) (above d) refl))

  pub without-other : (q : Path) → q ≢ d → q ≢ above d → get now q ≡ get t q
  without-other q n m =
      get-without q ∙ (ap (λ a. seen q a (same-as q (above d))) (same-false q d n) ∙ ap (λ b. seen q false b) (same-false q (above d) m))

  -- what is there was there
  pub without-there : (q : Path) → IsSome (get now q) → IsSome (get t q)
  without-there q some = by (same-as q d) (same-as q (above d)) refl (sym (ap is_some (get-without q)) ∙ some)
    where
      by : (a b : Bool) → same-as q (above d) ≡ b → is_some (seen q a b) ≡ true → IsSome (get t q)
      by true b g e = absurd (false≢true e)
      by false true g e = mapped (get t (above d)) (ap (get t) (sym (true-same q (above d) g))) e
        where
          mapped : (o : Option Rec) → o ≡ get t q → is_some (option_map (at_time moment) o) ≡ true → IsSome (get t q)
          mapped None f e = absurd (false≢true e)
          mapped (Some r) f e = ap is_some (sym f)
      by false false g e = e

  -- each other key stays
  pub without-stays : (q : Path) → q ≢ d → IsSome (get t q) → IsSome (get now q)
  without-stays q n some = by (same-as q (above d)) refl
    where
      mapped : (o : Option Rec) → is_some o ≡ true → is_some (option_map (at_time moment) o) ≡ true
      mapped None e = e
      mapped (Some r) e = refl

      by : (b : Bool) → same-as q (above d) ≡ b → IsSome (get now q)
      by true g =
          ap is_some (get-without q ∙ (ap (λ a. seen q a (same-as q (above d))) (same-false q d n) ∙ ap (λ b. seen q false b) g))
          ∙ mapped (get t (above d)) (ap (λ q. is_some (get t q)) (sym (true-same q (above d) g)) ∙ some)
      by false g = ap is_some (without-other q n (false-other q (above d) g)) ∙ some

-- ---- how many keys a tree has

some-left : (t : Tree) (d : Path) → IsSome (get t d) → 0 < len t
some-left t d some =
    let r = any-at (eq_by_cmp path_cmp d) [] (keys t) (sym (contains_key-keys t d) ∙ some) in
    let l = r.1 in
    let k = length-map (entries t) (λ (e : Path × Rec). e.0) in
    let n = len-entries t in
    omega (arith, l, k, n)

len-edited : (t : Tree) (p : Path) (f : Rec → Rec) → len (edited t p f) ≡ len t
len-edited t p f = by (get t p) refl
  where
    by : (o : Option Rec) → get t p ≡ o → len (edited t p f) ≡ len t
    by None e = ap (λ (t : Tree). len t) (edited-none e)
      where
        edited-none : get t p ≡ None → edited t p f ≡ t
        edited-none e = rw e refl
    by (Some r) e = ap (λ (t : Tree). len t) (edited-some e) ∙ (len-insert path_total t p (f r) ∙ ap (λ b. cond b (len t) (len t + 1)) (ap is_some e))
      where
        edited-some : get t p ≡ Some r → edited t p f ≡ insert t p (f r)
        edited-some e = rw e refl

pub fewer-keys : (t : Tree) (d : Path) (moment : ℕ) → above d ≢ d → IsSome (get t d) → len (without_key t d moment) + 1 ≡ len t
fewer-keys t d moment n some =
    let r = len-remove path_total (edited t (above d) (at_time moment)) d in
    let there : contains_key (edited t (above d) (at_time moment)) d ≡ true =
    (ap is_some (get-edited t (above d) (at_time moment) d ∙ ap (λ b. cond b (option_map (at_time moment) (get t (above d))) (get t d))
    (same-false d (above d) (λ e. n (sym e)))) ∙ some) in
    let c = ap (λ b. cond b (len (edited t (above d) (at_time moment)) - 1) (len (edited t (above d) (at_time moment)))) there in
    let l = len-edited t (above d) (at_time moment) in
    let p = some-left t d some in
    omega (arith, r, c, l, p)

-- ---- some of its keys kept

pub get-kept : (t : Tree) (f : Path → Bool) (q : Path) → get (retain_keys t f) q ≡ cond (f q) (get t q) None
get-kept t f q = get-retain_keys t f q (λ x e. ap f (sym (slice_cmp-IsAntisymmetric (slice_cmp-IsAntisymmetric nat_cmp-IsAntisymmetric) q x e)))

pub same-tree : (s t : Tree) → ((q : Path) → get s q ≡ get t q) → s ≡ t
same-tree = same_map path_total (slice_cmp-IsAntisymmetric (slice_cmp-IsAntisymmetric nat_cmp-IsAntisymmetric))

-- a key that stays what it is
pub edited-same : (t : Tree) (p : Path) (f : Rec → Rec) → option_map f (get t p) ≡ get t p → t ≡ edited t p f
edited-same t p f e = same-tree t (edited t p f) (λ q. sym (get-edited t p f q ∙ by q (same-as q p) refl))
  where
    by : (q : Path) (b : Bool) → same-as q p ≡ b → cond b (option_map f (get t p)) (get t q) ≡ get t q
    by q true g = e ∙ ap (get t) (sym (true-same q p g))
    by q false g = refl

-- where a tree is looked at: not at or below a path, at it, or below it
module _ (p : Path) (P : Path → Type 0) (others : (q : Path) → is_within p q ≡ false → P q) (here : P p) (under : (q : Path) → is_under p q ≡ true → P q) where
  pub wherever : (q : Path) → P q
  wherever q = by (is_within p q) (is_under p q) refl refl
    where
      by : (a b : Bool) → is_within p q ≡ a → is_under p q ≡ b → P q
      by false b e f = others q e
      by true false e f = subst P (sym (within-case p q e f)) here
      by true true e f = under q f

-- a key changed, and all keys below it removed
abbrev pub kept_of : Tree → Path → (Rec → Rec) → Tree
kept_of t p f = retain_keys (edited t p f) (λ (q : Path). not (is_under p q))

module _ (t : Tree) (p : Path) (f : Rec → Rec) where
  abbrev keeps : Path → Bool
  keeps q = not (is_under p q)

  pub kept-others : (q : Path) → is_within p q ≡ false → get (kept_of t p f) q ≡ get t q
  kept-others q w =
      get-kept (edited t p f) keeps q
      ∙ (ap (λ b. cond (not (b && nat_lt (length p) (length q))) (get (edited t p f) q) None) w
      ∙ (get-edited t p f q
      ∙ ap (λ b. cond b (option_map f (get t p)) (get t q)) (same-false q p (λ e. false≢true (sym w ∙ within-is p q [] (e ∙ sym (append-nil p)))))))

  pub kept-here : get (kept_of t p f) p ≡ option_map f (get t p)
  kept-here =
      get-kept (edited t p f) keeps p
      ∙ (ap (λ b. cond (not b) (get (edited t p f) p) None) (not-under-itself p)
      ∙ (get-edited t p f p ∙ ap (λ b. cond b (option_map f (get t p)) (get t p)) (same-true p p refl)))

  pub kept-under : (q : Path) → is_under p q ≡ true → get (kept_of t p f) q ≡ None
  kept-under q u = get-kept (edited t p f) keeps q ∙ ap (λ b. cond (not b) (get (edited t p f) q) None) u
