-- Which paths are below one, by their texts.
use Rattle.std.proofs.Common.{◌≡◌, ℕ, ◌<◌, Bool, true, false, ◌&&◌, ◌||◌, nat_lt, nat_le, List, [], ◌∷◌, ◌++◌, length, drop, refl, sym, ap, subst, ◌∙◌, arith}
use Rattle.std.proofs.Common.{append_assoc}
use Rattle.std.specs.List.{list_all}
use Rattle.std.specs.Cmp.{both_ways}
use Rattle.std.proofs.lemmas.Bool.{and_parts, or_left, or_right}
use Rattle.std.proofs.lemmas.Bool.Decides.{nat_tests}
use Rattle.std.proofs.lemmas.Cmp.{eq_by_cmp_equiv}
use Rattle.std.proofs.lemmas.List.{append-nil}
use Rattle.std.proofs.lemmas.List.Folds.{list_all-append}
use Rattle.std.proofs.lemmas.List.Splits.{length-slice_split}
use Rattle.reg_names.specs.declared.TheConstants.{PATH_LIMIT, KEY_NAME_LIMIT}
use Rattle.reg_names.specs.Names.{path_of, text_of, is_path, is_key_name, is_key_name_byte, is_backslash, are_key_names}
use Rattle.reg_names.proofs.PathTexts.{text_of-path_of}
use Rattle.reg_names.proofs.PathJoins.{parts, parts-joined}
use Rattle.reg_heap.specs.Paths.{Path}
use Rattle.reg_heap.specs.Edits.{is_within, is_under}
use Rattle.reg_heap.proofs.ChildrenOfPath.{path-is}
use Rattle.reg_heap.proofs.DeletedTrees.{within-rest, within-self, under-parts, under-rest, under-append}
use Rattle.reg_model.specs.Worlds.{same_path}
use Rattle.reg_handles.specs.Internal.OpenKeySlab.{start_below}
use Rattle.reg_model.specs.Internal.TextNumbers.{goes_on}
use Rattle.reg_handles.proofs.PathTextKeys.{path_total}
use Rattle.reg_model.proofs.LongerTexts.{goes_on-rest, goes_on-append}

-- ---- the text of a path below another

some-parts : (text : List ℕ) → 0 < length (parts text)
some-parts text = let l = length-slice_split is_backslash text in omega (arith, l)

-- names and more names, as text
joined-text : (name : List ℕ) (names : Path) (x : List ℕ) (more : Path) → text_of ((name ∷ names) ++ x ∷ more) ≡ text_of (name ∷ names) ++ 92 ∷ text_of (x ∷ more)
joined-text name [] x more = refl
joined-text name (other ∷ names) x more =
    ap (λ (t : List ℕ). name ++ 92 ∷ t) (joined-text other names x more) ∙ sym (append_assoc name (92 ∷ text_of (other ∷ names)) (92 ∷ text_of (x ∷ more)))

-- that of a name that isn't empty isn't either
some-text : (x : List ℕ) (more : Path) → 0 < length x → (b : ℕ) × (bs : List ℕ) × (text_of (x ∷ more) ≡ b ∷ bs)
some-text [] more some = absurd (omega (arith, some))
some-text (b ∷ bs) [] some = (b, bs, refl)
some-text (b ∷ bs) (y ∷ more) some = (b, bs ++ 92 ∷ text_of (y ∷ more), refl)

name-some : (x : List ℕ) → is_key_name x ≡ true → 0 < length x
name-some x is =
    let some = (and_parts (list_all is_key_name_byte x) (nat_lt 0 (length x)) (and_parts (list_all is_key_name_byte x && nat_lt 0 (length x)) (nat_le (length x) KEY_NAME_LIMIT) is).0).1 in
    grind (arith, nat_tests, some)

names-behind : (limit : ℕ) (front : Path) (x : List ℕ) (more : Path) → are_key_names limit (front ++ x ∷ more) ≡ true → is_key_name x ≡ true
unfolding are_key_names
names-behind limit front x more is =
    let all = (and_parts (list_all is_key_name (front ++ x ∷ more)) _ is).0 in
    let behind = (and_parts (list_all is_key_name front) (list_all is_key_name (x ∷ more)) (sym (list_all-append is_key_name front (x ∷ more)) ∙ all)).1 in
    (and_parts (is_key_name x) (list_all is_key_name more) behind).0

-- a text of names behind those of another goes on behind its backslash
behind-goes : (p text : List ℕ) (x : List ℕ) (more : Path) → 0 < length x → path_of text ≡ path_of p ++ x ∷ more → goes_on (start_below p) text ≡ true
behind-goes [] text x more some names =
    let t = some-text x more some in
    let is : text ≡ t.0 ∷ t.1 = sym (text_of-path_of text) ∙ ap text_of names ∙ t.2 in
    rw is (goes_on-append [] t.0 t.1)
behind-goes (b ∷ bs) text x more some names =
    let t = some-text x more some in
    by (path_of (b ∷ bs)) (some-parts (b ∷ bs)) (text_of-path_of (b ∷ bs)) (sym (text_of-path_of text) ∙ ap text_of names) t.0 t.1 t.2
  where
    by : (front : Path) → 0 < length front → text_of front ≡ b ∷ bs → text ≡ text_of (front ++ x ∷ more) → (c : ℕ) (cs : List ℕ) → text_of (x ∷ more) ≡ c ∷ cs →
        goes_on (start_below (b ∷ bs)) text ≡ true
    by [] none is whole c cs rest = absurd (omega (arith, none))
    by (name ∷ front) some is whole c cs rest =
        let same : text ≡ ((b ∷ bs) ++ 92 ∷ []) ++ c ∷ cs = whole ∙ joined-text name front x more ∙ ap (λ (t : List ℕ). t ++ 92 ∷ text_of (x ∷ more)) is ∙
        ap (λ (t : List ℕ). (b ∷ bs) ++ 92 ∷ t) rest ∙ sym (append_assoc (b ∷ bs) (92 ∷ []) (c ∷ cs)) in
        rw same (goes_on-append ((b ∷ bs) ++ 92 ∷ []) c cs)

under-goes : (p text : List ℕ) → is_path text ≡ true → is_under (path_of p) (path_of text) ≡ true → goes_on (start_below p) text ≡ true
under-goes p text good is =
    let r = under-rest (path_of p) (path_of text) is in
    let names : are_key_names PATH_LIMIT (path_of p ++ r.0 ∷ r.1) ≡ true = subst (λ (q : Path). are_key_names PATH_LIMIT q ≡ true) r.2 good in
    behind-goes p text r.0 r.1 (name-some r.0 (names-behind PATH_LIMIT (path_of p) r.0 r.1 names)) r.2

-- ---- and the other way round

under-more : (front more : Path) → 0 < length more → is_under front (front ++ more) ≡ true
under-more front [] some = absurd (omega (arith, some))
under-more front (name ∷ names) some = under-append front name names

goes-under : (p text : List ℕ) → goes_on (start_below p) text ≡ true → is_under (path_of p) (path_of text) ≡ true
goes-under [] text is =
    let r = goes_on-rest [] text is in
    subst (λ (t : List ℕ). is_under [] (path_of t) ≡ true) (sym r.2) (under-more [] (parts (r.0 ∷ r.1)) (some-parts (r.0 ∷ r.1)))
goes-under (b ∷ bs) text is =
    let r = goes_on-rest ((b ∷ bs) ++ 92 ∷ []) text is in
    let whole : text ≡ (b ∷ bs) ++ 92 ∷ r.0 ∷ r.1 = r.2 ∙ append_assoc (b ∷ bs) (92 ∷ []) (r.0 ∷ r.1) in
    let names : path_of text ≡ parts (b ∷ bs) ++ parts (r.0 ∷ r.1) = ap path_of whole ∙ parts-joined (b ∷ bs) (r.0 ∷ r.1) in
    subst (λ (q : Path). is_under (parts (b ∷ bs)) q ≡ true) (sym names) (under-more (parts (b ∷ bs)) (parts (r.0 ∷ r.1)) (some-parts (r.0 ∷ r.1)))

-- a path is below another exactly where its text goes on behind the other's backslash
pub under-texts : (p text : List ℕ) → is_path text ≡ true → is_under (path_of p) (path_of text) ≡ goes_on (start_below p) text
under-texts p text good = both_ways _ _ (under-goes p text good) (goes-under p text)

-- ---- a path is at or below another where it is the same or below

pub within-parts : (p q : Path) → is_within p q ≡ (same_path q p || is_under p q)
within-parts p q = both_ways _ _ (from p q) (to p q)
  where
    same-self : (p : Path) → same_path p p ≡ true
    same-self p = let o = eq_by_cmp_equiv path_total in o.refl p

    behind : (p rest : Path) → (same_path (p ++ rest) p || is_under p (p ++ rest)) ≡ true
    behind p [] = or_left _ _ (subst (λ (x : Path). same_path x p ≡ true) (sym (append-nil p)) (same-self p))
    behind p (name ∷ names) = or_right _ _ (under-append p name names)

    from : (p q : Path) → is_within p q ≡ true → (same_path q p || is_under p q) ≡ true
    from p q is = subst (λ (x : Path). (same_path x p || is_under p x) ≡ true) (sym (within-rest p q is)) (behind p (drop (length p) q))

    to : (p q : Path) → (same_path q p || is_under p q) ≡ true → is_within p q ≡ true
    to p q is = by (same_path q p) refl is
      where
        by : (b : Bool) → same_path q p ≡ b → (b || is_under p q) ≡ true → is_within p q ≡ true
        by true same is = subst (λ (x : Path). is_within p x ≡ true) (sym (path-is q p same)) (within-self p)
        by false other is = (under-parts p q is).0
