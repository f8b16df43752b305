-- The keys that are told from a path on are just those of the whole tree that stand there or below, in their order.
use Rattle.std.proofs.Common.{◌≡◌, ◌≢◌, ℕ, zero, suc, ◌+◌, ◌-◌, ◌<◌, ◌||◌, Bool, true, false, cond, List, [], ◌∷◌, ◌++◌, length, map, filter}
use Rattle.std.proofs.Common.{drop, is_some, Option, Some, None, refl, sym, ap, ◌∙◌, subst, arith, append_assoc, append-nil, length-append}
use Rattle.std.specs.Prelude.{flat_map, bytes_eq}
use Rattle.std.specs.FinMap.{get, keys}
use Rattle.std.specs.List.{AllByRecursion, starts_with, list_all, list_any}
use Rattle.std.specs.List.Sorted.{IsStrictlySortedBy}
use Rattle.std.specs.Ordering.{eq_by_cmp, is_eq}
use Rattle.std.specs.declared.cmp.Ordering.{Ordering}
use Rattle.std.specs.declared.cmp.Ordering.TheVariants.{Less, Equal}
use Rattle.std.specs.Cmp.Lexicographic.{lists_total, nat_list_cmp_total}
use Rattle.std.proofs.lemmas.Cmp.{tied_itself}
use Rattle.std.proofs.lemmas.Bool.{false≢true, and_from}
use Rattle.std.proofs.lemmas.List.Elements.{filter-append}
use Rattle.std.proofs.lemmas.List.Folds.{list_all-append}
use Rattle.std.proofs.lemmas.List.Kept.{IsStrictlySortedBy-filter}
use Rattle.std.proofs.lemmas.List.{map-append}
use Rattle.std.proofs.lemmas.Slice.Eq.{starts_is, bytes_eq-Decides}
use Rattle.reg_names.specs.declared.TheConstants.{PATH_LIMIT}
use Rattle.reg_names.specs.Names.{folded, is_key_name}
use Rattle.reg_heap.specs.Paths.{Path, Tree, Rec, path_cmp, is_child, children_of}
use Rattle.reg_heap.specs.Trees.{IsTree, IsWithinLimits}
use Rattle.reg_heap.proofs.ChildrenOfPath.{named, is_child-below, keys_rise, path-is, children-contain}
use Rattle.reg_tree.proofs.Invariant.CellReadings.{some_of}
use Rattle.reg_tree_text.specs.DumpTexts.{Told, name_of, told_here, told_from, keys_told}
use Rattle.reg_diff.specs.Branches.{names_along, names_to, keys_from, is_within}
use Rattle.reg_diff.proofs.ToldKeys.{IsToldIn, Has, held-above, first-folded, children-below, told-each}

-- ---- lists

keeps : (p : Told → Bool) (xs : List Told) → AllByRecursion (λ (x : Told). p x ≡ true) xs → filter p xs ≡ xs
keeps p [] a = refl
keeps p (x ∷ xs) a = ap (λ (b : Bool). cond b (x ∷ filter p xs) (filter p xs)) a.0 ∙ ap (λ (w : List Told). x ∷ w) (keeps p xs a.1)

drops : (p : Told → Bool) (xs : List Told) → AllByRecursion (λ (x : Told). p x ≡ false) xs → filter p xs ≡ []
drops p [] a = refl
drops p (x ∷ xs) a = ap (λ (b : Bool). cond b (x ∷ filter p xs) (filter p xs)) a.0 ∙ drops p xs a.1

each-told : (P Q : Told → Type 0) → ((t : Told) → P t → Q t) → (told : List Told) → AllByRecursion P told → AllByRecursion Q told
each-told P Q f [] a = tt
each-told P Q f (t ∷ told) a = (f t a.0, each-told P Q f told a.1)

fronts : (a b x y : Path) → length a ≡ length b → a ++ x ≡ b ++ y → a ≡ b
fronts [] [] x y l e = refl
fronts [] (n ∷ b) x y l e = absurd (omega (arith, l))
fronts (m ∷ a) [] x y l e = absurd (omega (arith, l))
fronts (m ∷ a) (n ∷ b) x y l e =
    let same : ◌≡◌ {A = Path} (m ∷ (a ++ x)) (n ∷ (b ++ y)) = e in
    let first : m ≡ n = cc in
    let rest : a ++ x ≡ b ++ y = cc in
    ap (λ (z : List ℕ). z ∷ a) first ∙ ap (λ (p : Path). n ∷ p) (fronts a b x y (omega (arith, l)) rest)

-- ---- what stands within

within : (path rest : Path) (told : Told) → map folded told.names ≡ path ++ rest → is_within path told ≡ true
within path rest told e =
    (starts_is bytes_eq-Decides (map folded told.names) path (starts_with bytes_eq (map folded told.names) path) refl).1 rest e

parts : (path : Path) (told : Told) → is_within path told ≡ true →
    map folded told.names ≡ path ++ drop (length path) (map folded told.names)
parts path told e =
    (starts_is bytes_eq-Decides (map folded told.names) path (starts_with bytes_eq (map folded told.names) path) refl).0 e

not-true : (b : Bool) → (b ≡ true → ⊥) → b ≡ false
not-true true n = absurd (n refl)
not-true false n = refl

-- a key that stands at or below another child isn't
apart : (child other rest back : Path) (told : Told) → length child ≡ length other → other ≢ child → map folded told.names ≡ other ++ back →
    is_within (child ++ rest) told ≡ false
apart child other rest back told l differ e =
    not-true (is_within (child ++ rest) told) (λ is.
    differ (fronts other child back (rest ++ drop (length (child ++ rest)) (map folded told.names)) (sym l)
    (sym e ∙ (parts (child ++ rest) told is ∙ append_assoc child rest (drop (length (child ++ rest)) (map folded told.names))))))

-- nor is one above
above : (path : Path) (told : Told) → length (map folded told.names) < length path → is_within path told ≡ false
above path told l =
    not-true (is_within path told) (λ is.
    let e = ap length (parts path told is) ∙ length-append path (drop (length path) (map folded told.names)) in omega (arith, l, e))

same-path : (k : Path) → eq_by_cmp path_cmp k k ≡ true
same-path k = ap is_eq (tied_itself (lists_total nat_list_cmp_total) k)

module _ (tree : Tree) (i : IsTree tree) (w : IsWithinLimits tree) where
  -- ---- levels that no key has make nothing

  none-deep : (path : Path) → PATH_LIMIT < length path → get tree path ≡ None
  none-deep path l = by (get tree path) refl
    where
      by : (o : Option Rec) → get tree path ≡ o → o ≡ None
      by None e = refl
      by (Some key) e = let s = w.shallow path (ap is_some e) in absurd (omega (arith, s, l))

  child-long : (path child : Path) → is_child path child ≡ true → length child ≡ length path + 1
  child-long path child is = let n = named path child is in ap length n.1 ∙ length-append path (n.0 ∷ [])

  none-below : (path : Path) → PATH_LIMIT < length path → children_of tree path ≡ []
  none-below path l = by (children_of tree path) (children-below tree i w [] path)
    where
      by : (children : List Path) → AllByRecursion (λ (child : Path). (is_child path child ≡ true) × Has tree child) children →
          children ≡ []
      by [] a = refl
      by (child ∷ children) a =
          let s = w.shallow child a.0.1 in let c = child-long path child a.0.0 in absurd (omega (arith, s, c, l))

  flat-same : (f g : Path → List Told) (xs : List Path) → AllByRecursion (λ (x : Path). f x ≡ g x) xs → flat_map f xs ≡ flat_map g xs
  flat-same f g [] a = refl
  flat-same f g (x ∷ xs) a =
      ap (λ (t : List Told). t ++ flat_map f xs) a.0 ∙ ap (λ (t : List Told). g x ++ t) (flat-same f g xs a.1)

  each-path : (P Q : Path → Type 0) → ((x : Path) → P x → Q x) → (xs : List Path) → AllByRecursion P xs → AllByRecursion Q xs
  each-path P Q f [] a = tt
  each-path P Q f (x ∷ xs) a = (f x a.0, each-path P Q f xs a.1)

  nothing-from : (levels : ℕ) (names : List (List ℕ)) (path : Path) → PATH_LIMIT < length path → told_from levels tree names path ≡ []
  unfolding told_from
  nothing-from zero names path l = refl
  nothing-from (suc levels) names path l =
      ap (λ (o : Option Rec). told_here names o
      ++ flat_map (λ child. told_from levels tree (names ++ name_of (get tree child) ∷ []) child) (children_of tree path))
      (none-deep path l)
      ∙ ap (flat_map (λ child. told_from levels tree (names ++ name_of (get tree child) ∷ []) child)) (none-below path l)

  enough : (m n : ℕ) (names : List (List ℕ)) (path : Path) → PATH_LIMIT < m + length path → PATH_LIMIT < n + length path →
      told_from m tree names path ≡ told_from n tree names path
  unfolding told_from
  enough zero n names path l k = sym (nothing-from n names path (omega (arith, l)))
  enough (suc m) zero names path l k = nothing-from (suc m) names path (omega (arith, k))
  enough (suc m) (suc n) names path l k =
      ap (λ (t : List Told). told_here names (get tree path) ++ t)
      (flat-same (λ child. told_from m tree (names ++ name_of (get tree child) ∷ []) child)
      (λ child. told_from n tree (names ++ name_of (get tree child) ∷ []) child) (children_of tree path)
      (each-path (λ (child : Path). (is_child path child ≡ true) × Has tree child)
      (λ (child : Path). told_from m tree (names ++ name_of (get tree child) ∷ []) child
      ≡ told_from n tree (names ++ name_of (get tree child) ∷ []) child)
      (λ child a.
      let c = child-long path child a.0 in
      enough m n (names ++ name_of (get tree child) ∷ []) child (omega (arith, l, c)) (omega (arith, k, c))) (children_of tree path)
      (children-below tree i w [] path)))

  -- ---- one child among others

  module _ (p : Told → Bool) (f : Path → List Told) (child : Path) where
    others-drop : (paths : List Path) → AllByRecursion (λ (q : Path). path_cmp child q ≡ Less) paths →
        AllByRecursion (λ (q : Path). q ≢ child → filter p (f q) ≡ []) paths → filter p (flat_map f paths) ≡ []
    others-drop [] r d = refl
    others-drop (q ∷ paths) r d =
        filter-append p (f q) (flat_map f paths)
        ∙ (ap (λ (t : List Told). t ++ filter p (flat_map f paths)) (d.0 (λ e. unlike e r.0)) ∙ others-drop paths r.1 d.1)
      where
        less-equal : (o : Ordering) → o ≡ Less → o ≡ Equal → ⊥
        less-equal o l e = let t : ◌≡◌ {A = Ordering} Less Equal = sym l ∙ e in cc

        unlike : q ≡ child → path_cmp child q ≡ Less → ⊥
        unlike e l =
            less-equal (path_cmp child q) l (ap (path_cmp child) e ∙ tied_itself (lists_total nat_list_cmp_total) child)

    one-kept : (paths : List Path) → IsStrictlySortedBy path_cmp paths → list_any (eq_by_cmp path_cmp child) paths ≡ true →
        AllByRecursion (λ (q : Path). q ≢ child → filter p (f q) ≡ []) paths → filter p (flat_map f paths) ≡ filter p (f child)
    unfolding IsStrictlySortedBy
    one-kept [] r e d = absurd (false≢true e)
    one-kept (q ∷ paths) r e d =
        filter-append p (f q) (flat_map f paths) ∙ by (eq_by_cmp path_cmp child q) refl e (λ later. one-kept paths r.1 later d.1)
      where
        by : (b : Bool) → eq_by_cmp path_cmp child q ≡ b → (b || list_any (eq_by_cmp path_cmp child) paths) ≡ true →
            (list_any (eq_by_cmp path_cmp child) paths ≡ true → filter p (flat_map f paths) ≡ filter p (f child)) →
            filter p (f q) ++ filter p (flat_map f paths) ≡ filter p (f child)
        by true same g rest =
            let is : child ≡ q = path-is child q same in
            ap (λ (t : List Told). filter p (f q) ++ t)
            (others-drop paths (subst (λ (k : Path). AllByRecursion (λ (y : Path). path_cmp k y ≡ Less) paths) (sym is) r.0) d.1)
            ∙ (append-nil (filter p (f q)) ∙ ap (λ (k : Path). filter p (f k)) (sym is))
        by false other g rest =
            ap (λ (t : List Told). t ++ filter p (flat_map f paths))
            (d.0 (λ (e : q ≡ child). false≢true (sym other ∙ (ap (eq_by_cmp path_cmp child) e ∙ same-path child)))) ∙ rest g

  -- ---- on the way to the key

  names-below : (names : List (List ℕ)) (q k : Path) → map folded names ≡ q → list_all is_key_name names ≡ true → is_child q k ≡ true →
      Has tree k →
      (map folded (names ++ name_of (get tree k) ∷ []) ≡ k) × (list_all is_key_name (names ++ name_of (get tree k) ∷ []) ≡ true)
  names-below names q k m good below has =
      let last = named q k below in
      let found = some_of (get tree k) has in
      let name : folded (name_of (get tree k)) ≡ last.0 =
      subst (λ (x : Path). folded (name_of (get tree x)) ≡ last.0) (sym last.1)
      (first-folded tree i q last.0 (subst (Has tree) last.1 has)) in (
        map-append folded names (name_of (get tree k) ∷ [])
            ∙ (ap (λ (x : Path). x ++ folded (name_of (get tree k)) ∷ []) m ∙ (ap (λ (n : List ℕ). q ++ n ∷ []) name ∙ sym last.1)),
        list_all-append is_key_name names (name_of (get tree k) ∷ [])
            ∙ and_from (list_all is_key_name names) (list_all is_key_name (name_of (get tree k) ∷ [])) good
            (and_from (is_key_name (name_of (get tree k))) true
            (ap (λ (o : Option Rec). is_key_name (name_of o)) found.1 ∙ (w.keys k found.0 found.1).name) refl),
      )

  rises : (q : Path) → IsStrictlySortedBy path_cmp (children_of tree q)
  rises q = IsStrictlySortedBy-filter path_cmp (is_child q) (keys tree) (keys_rise tree)

  -- so many levels more than the path has names
  abbrev deeper : Path → ℕ → ℕ
  deeper [] levels = levels
  deeper (n ∷ rest) levels = suc (deeper rest levels)

  deeper-sum : (rest : Path) (levels : ℕ) → deeper rest levels ≡ length rest + levels
  deeper-sum [] levels = omega arith
  deeper-sum (n ∷ rest) levels = let e = deeper-sum rest levels in omega (arith, e)

  module _ (path : Path) (has : Has tree path) where
    here-above : (names : List (List ℕ)) (found : Option Rec) → length (map folded names) < length path →
        filter (is_within path) (told_here names found) ≡ []
    here-above names None l = refl
    here-above names (Some key) l =
        drops (is_within path) (told_here names (Some key)) (above path (record { names = names; key = key }) l, tt)

    other-child : (levels : ℕ) (names : List (List ℕ)) (q : Path) (n : List ℕ) (rest k : Path) → map folded names ≡ q →
        list_all is_key_name names ≡ true → (q ++ n ∷ []) ++ rest ≡ path → (is_child q k ≡ true) × Has tree k → k ≢ (q ++ n ∷ []) →
        filter (is_within path) (told_from levels tree (names ++ name_of (get tree k) ∷ []) k) ≡ []
    other-child levels names q n rest k m good e below differ =
        let nb = names-below names q k m good below.0 below.1 in
        let long = child-long q k below.0 in
        let same : length (q ++ n ∷ []) ≡ length k = let s = length-append q (n ∷ []) in omega (arith, s, long) in
        drops (is_within path) (told_from levels tree (names ++ name_of (get tree k) ∷ []) k)
        (each-told (IsToldIn tree k) (λ (t : Told). is_within path t ≡ false)
        (λ t is. subst (λ (p : Path). is_within p t ≡ false) e (apart (q ++ n ∷ []) k rest is.rest t same differ is.below))
        (told_from levels tree (names ++ name_of (get tree k) ∷ []) k)
        (told-each tree i w k levels (names ++ name_of (get tree k) ∷ []) k [] nb.0 nb.1 (sym (append-nil k))))

    reached : (rest : Path) (levels : ℕ) (names : List (List ℕ)) (q : Path) → map folded names ≡ q → list_all is_key_name names ≡ true →
        q ++ rest ≡ path →
        filter (is_within path) (told_from (deeper rest levels) tree names q) ≡
        told_from levels tree (names ++ names_along tree q rest) path
    unfolding told_from names_along
    reached [] levels names q m good e =
        let same : q ≡ path = sym (append-nil q) ∙ e in
        keeps (is_within path) (told_from levels tree names q)
        (each-told (IsToldIn tree path) (λ (t : Told). is_within path t ≡ true) (λ t is. within path is.rest t is.below)
        (told_from levels tree names q) (told-each tree i w path levels names q [] m good (same ∙ sym (append-nil path))))
        ∙ (ap (λ (p : Path). told_from levels tree names p) same
        ∙ ap (λ (x : List (List ℕ)). told_from levels tree x path) (sym (append-nil names)))
    reached (n ∷ rest) levels names q m good e =
        let longer : (q ++ n ∷ []) ++ rest ≡ path = append_assoc q (n ∷ []) rest ∙ e in
        let there : Has tree (q ++ n ∷ []) = held-above tree i (q ++ n ∷ []) rest (subst (Has tree) (sym longer) has) in
        let found = some_of (get tree (q ++ n ∷ [])) there in
        let among : list_any (eq_by_cmp path_cmp (q ++ n ∷ [])) (children_of tree q) ≡ true =
        children-contain tree q (q ++ n ∷ []) ∙ and_from _ _ (is_child-below q n) (ap is_some found.1) in
        let nb = names-below names q (q ++ n ∷ []) m good (is_child-below q n) there in
        let long = ap length e in
        let sum = length-append q (n ∷ rest) in
        let short = ap length m in
        filter-append (is_within path) (told_here names (get tree q))
        (flat_map (λ k. told_from (deeper rest levels) tree (names ++ name_of (get tree k) ∷ []) k) (children_of tree q))
        ∙ (ap (λ (t : List Told). t ++ filter (is_within path)
        (flat_map (λ k. told_from (deeper rest levels) tree (names ++ name_of (get tree k) ∷ []) k) (children_of tree q)))
        (here-above names (get tree q) (omega (arith, long, sum, short)))
        ∙ (one-kept (is_within path) (λ k. told_from (deeper rest levels) tree (names ++ name_of (get tree k) ∷ []) k) (q ++ n ∷ [])
        (children_of tree q) (rises q) among
        (each-path (λ (k : Path). (is_child q k ≡ true) × Has tree k)
        (λ (k : Path). k ≢ (q ++ n ∷ []) →
        filter (is_within path) (told_from (deeper rest levels) tree (names ++ name_of (get tree k) ∷ []) k) ≡ [])
        (λ k below differ. other-child (deeper rest levels) names q n rest k m good longer below differ) (children_of tree q)
        (children-below tree i w [] q))
        ∙ (reached rest levels (names ++ name_of (get tree (q ++ n ∷ [])) ∷ []) (q ++ n ∷ []) nb.0 nb.1 longer
        ∙ ap (λ (x : List (List ℕ)). told_from levels tree x path)
        (append_assoc names (name_of (get tree (q ++ n ∷ [])) ∷ []) (names_along tree (q ++ n ∷ []) rest)))))

  pub branch-of-whole : (path : Path) → Has tree path → filter (is_within path) (keys_told tree) ≡ keys_from tree path
  unfolding keys_told keys_from
  branch-of-whole path has =
      let s = w.shallow path has in
      let levels = PATH_LIMIT + 1 - length path in
      let sum = deeper-sum path levels in
      let all : deeper path levels ≡ PATH_LIMIT + 1 = omega (arith, s, sum) in
      ap (λ (l : ℕ). filter (is_within path) (told_from l tree [] [])) (sym all)
      ∙ (reached path has path levels [] [] refl refl refl
      ∙ enough levels (PATH_LIMIT + 1) (names_to tree path) path (omega (arith, s)) (omega arith))
