-- The tree that is left of one of which all keys below a path went: the key removed too, or emptied.
use Rattle.std.proofs.Common.{◌≡◌, ◌≢◌, ℕ, Bool, true, false, not, cond, ◌||◌, nat_lt, Option, Some, None, List, [], ◌∷◌, ◌++◌, length, drop, refl, sym, ap, ◌∙◌, arith, length-append}
use Rattle.std.specs.Option.{option_map}
use Rattle.std.specs.FinMap.{get}
use Rattle.std.proofs.lemmas.Bool.{false≢true, lt-ltb}
use Rattle.std.proofs.lemmas.List.{append-nil}
use Rattle.reg_heap.specs.Paths.{Path, Tree, Rec, Member, children_of}
use Rattle.reg_heap.specs.Edits.{edited, above, at_time, without_key, without_tree, without_values, emptied, has_contents, values_of, is_within, is_under}
use Rattle.reg_tree.specs.Internal.TreeDeletion.{bared, if_valued}
use Rattle.reg_tree.proofs.DeleteKey.DeletedKeyPosition.{snoc, above-is}
use Rattle.reg_tree.proofs.PruneTree.PathsWithin.{within-parts, within-is, under-within, not-under-itself}
use Rattle.reg_tree.proofs.PruneTree.ThinnedTrees.{IsClosed, children-none, none-under, bared-others, bared-here, bared-under}
use Rattle.reg_tree.proofs.PruneTree.TreesWithout.{same-as, same-true, same-false, get-edited, get-without, without-here, without-other}
use Rattle.reg_tree.proofs.PruneTree.TreesWithout.{get-kept, same-tree, wherever, kept_of, kept-others, kept-here, kept-under}

-- ---- the key removed too

module _ (p : Path) (inner : p ≢ []) where
  parts : (q : Path) × (x : List ℕ) × (p ≡ q ++ x ∷ [])
  parts = snoc p inner

  pub above-not-within : is_within p (above p) ≡ false
  above-not-within = by (is_within p (above p)) refl
    where
      by : (b : Bool) → is_within p (above p) ≡ b → b ≡ false
      by false e = refl
      by true e =
          let a = ap length (ap above parts.2 ∙ above-is parts.0 parts.1) in
          let l = ap length parts.2 ∙ length-append parts.0 (parts.1 ∷ []) in
          let w = ap length (within-parts p (above p) e) ∙ length-append p (drop (length p) (above p)) in
          absurd (omega (arith, a, l, w))

  not-within-other : (q r : Path) → is_within p q ≡ true → is_within p r ≡ false → q ≢ r
  not-within-other q r w n e = false≢true (sym n ∙ (ap (is_within p) (sym e) ∙ w))

  module _ (old : Tree) (closed : IsClosed old) (moment : ℕ) where
    abbrev bare : Tree
    bare = bared old p moment

    abbrev up : Path
    up = above p

    seen : (q : Path) → get (without_tree old p moment) q ≡ cond (not (is_within p q)) (cond (same-as q up) (option_map (at_time moment) (get old up)) (get old q)) None
    seen q =
        get-kept (edited old up (at_time moment)) (λ q. not (is_within p q)) q
        ∙ ap (λ (o : Option Rec). cond (not (is_within p q)) o None) (get-edited old up (at_time moment) q)

    gone : (q : Path) → is_within p q ≡ true → get (without_tree old p moment) q ≡ None
    gone q w = seen q ∙ ap (λ b. cond (not b) (cond (same-as q up) (option_map (at_time moment) (get old up)) (get old q)) None) w

    itself : is_within p p ≡ true
    itself = within-is p p [] (sym (append-nil p))

    stays : (q : Path) → is_within p q ≡ false → get (without_key bare p moment) q ≡ get (without_tree old p moment) q
    stays q w =
        get-without bare p moment q
        ∙ (ap (λ a. cond a None (cond (same-as q up) (option_map (at_time moment) (get bare up)) (get bare q)))
        (same-false q p (λ e. not-within-other p q itself w (sym e)))
        ∙ (ap (λ o. cond (same-as q up) (option_map (at_time moment) o) (get bare q)) (bared-others old closed p moment up above-not-within)
        ∙ (ap (λ o. cond (same-as q up) (option_map (at_time moment) (get old up)) o) (bared-others old closed p moment q w)
        ∙ sym (seen q ∙ ap (λ b. cond (not b) (cond (same-as q up) (option_map (at_time moment) (get old up)) (get old q)) None) w))))

    below : (q : Path) → is_under p q ≡ true → get (without_key bare p moment) q ≡ get (without_tree old p moment) q
    below q u =
        let w = under-within p q u in
        without-other bare p moment q (λ e. false≢true (sym (ap (is_under p) e ∙ not-under-itself p) ∙ u)) (not-within-other q up w above-not-within)
        ∙ (bared-under old closed p moment q u ∙ sym (gone q w))

    pub pruned-is : without_key bare p moment ≡ without_tree old p moment
    pruned-is = same-tree (without_key bare p moment) (without_tree old p moment)
        (wherever p (λ q. get (without_key bare p moment) q ≡ get (without_tree old p moment) q) stays (without-here bare p moment ∙ sym (gone p itself)) below)

-- ---- the key emptied

module _ (old : Tree) (closed : IsClosed old) (p : Path) (moment : ℕ) where
  abbrev left : Tree
  left = bared old p moment

  abbrev some : Bool
  some = nat_lt 0 (length (children_of old p))

  abbrev valued : Option Rec → Bool
  valued o = nat_lt 0 (length (values_of o))

  -- its record, whether it had subkeys or not
  record-is : (o : Option Rec) (b : Bool) → option_map (if_valued moment) (cond b (option_map (at_time moment) o) o) ≡ cond (b || valued o) (option_map (without_values moment) o) o
  record-is None true = refl
  record-is None false = refl
  record-is (Some r) true = by r.values refl
    where
      by : (vs : List Member) → r.values ≡ vs → Some (if_valued moment (at_time moment r)) ≡ Some (without_values moment r)
      by [] e =
          ap (λ (vs : List Member). Some (cond (nat_lt 0 (length vs)) (without_values moment r) (at_time moment r))) e
          ∙ ap (λ (vs : List Member). Some (record r { time = moment; values = vs })) e
      by (v ∷ vs) e =
          ap (λ b. Some (cond b (without_values moment r) (at_time moment r)))
          (lt-ltb 0 (length r.values) (let l = ap (λ (vs : List Member). length vs) e in omega (arith, l)))
  record-is (Some r) false = by (nat_lt 0 (length r.values))
    where
      by : (b : Bool) → Some (cond b (without_values moment r) r) ≡ cond b (Some (without_values moment r)) (Some r)
      by true = refl
      by false = refl

  abbrev Emptied : Bool → Tree
  Emptied b = cond b (kept_of old p (without_values moment)) old

  emptied-others : (q : Path) → is_within p q ≡ false → get (emptied old p moment) q ≡ get old q
  emptied-others q w = by (has_contents old p)
    where
      by : (b : Bool) → get (Emptied b) q ≡ get old q
      by true = kept-others old p (without_values moment) q w
      by false = refl

  emptied-here : get (emptied old p moment) p ≡ cond (some || valued (get old p)) (option_map (without_values moment) (get old p)) (get old p)
  emptied-here = by (has_contents old p)
    where
      by : (b : Bool) → get (Emptied b) p ≡ cond b (option_map (without_values moment) (get old p)) (get old p)
      by true = kept-here old p (without_values moment)
      by false = refl

  emptied-under : (q : Path) → is_under p q ≡ true → get (emptied old p moment) q ≡ None
  emptied-under q u = by some (valued (get old p)) refl
    where
      by : (b c : Bool) → some ≡ b → get (Emptied (b || c)) q ≡ None
      by true c e = kept-under old p (without_values moment) q u
      by false true e = kept-under old p (without_values moment) q u
      by false false e = none-under old closed p (children-none old p e) q u

  dropped : (q : Path) → get (edited left p (if_valued moment)) q ≡ cond (same-as q p) (option_map (if_valued moment) (get left p)) (get left q)
  dropped q = get-edited left p (if_valued moment) q

  elsewhere : (q : Path) → q ≢ p → get (edited left p (if_valued moment)) q ≡ get left q
  elsewhere q n = dropped q ∙ ap (λ b. cond b (option_map (if_valued moment) (get left p)) (get left q)) (same-false q p n)

  here : get (edited left p (if_valued moment)) p ≡ get (emptied old p moment) p
  here =
      dropped p
      ∙ (ap (λ b. cond b (option_map (if_valued moment) (get left p)) (get left p)) (same-true p p refl)
      ∙ (ap (option_map (if_valued moment)) (bared-here old closed p moment) ∙ (record-is (get old p) some ∙ sym emptied-here)))

  pub emptied-is : edited left p (if_valued moment) ≡ emptied old p moment
  emptied-is = same-tree (edited left p (if_valued moment)) (emptied old p moment)
      (wherever p (λ q. get (edited left p (if_valued moment)) q ≡ get (emptied old p moment) q)
      (λ q w. elsewhere q (λ e. false≢true (sym w ∙ within-is p q [] (e ∙ sym (append-nil p)))) ∙ (bared-others old closed p moment q w ∙ sym (emptied-others q w)))
      here
      (λ q u. elsewhere q (λ e. false≢true (sym (ap (is_under p) e ∙ not-under-itself p) ∙ u)) ∙ (bared-under old closed p moment q u ∙ sym (emptied-under q u))))
