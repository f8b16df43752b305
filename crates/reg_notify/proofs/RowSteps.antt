-- A row that goes, and one that comes.
use Rattle.std.proofs.Common.{◌≡◌, ℕ, Bool, true, false, cond, List, [], ◌∷◌, ◌++◌, Option, Some, None, refl, sym, ap, ◌∙◌, subst, arith}
use Rattle.std.specs.Prelude.{bytes_eq}
use Rattle.std.specs.List.{AllByRecursion}
use Rattle.std.specs.List.Sorted.{IsStrictlySortedBy}
use Rattle.std.specs.Ordering.{nat_cmp}
use Rattle.std.specs.declared.cmp.Ordering.TheVariants.{Less}
use Rattle.std.specs.BTreeMap.{is_at}
use Rattle.std.specs.Map.{remove_entry, keys_of}
use Rattle.std.specs.Cmp.{nat_cmp_total, eq_by_cmp_equiv}
use Rattle.std.specs.Cmp.Lexicographic.{bytes_decides}
use Rattle.std.proofs.lemmas.Bool.{cond-true, cond-false, false≢true}
use Rattle.std.proofs.lemmas.Bool.Decides.{nat_tests}
use Rattle.std.proofs.lemmas.Map.{lookup-remove_entry}
use Rattle.std.proofs.lemmas.Map.Keys.{IsDistinct-from_sorted}
use Rattle.reg_notify.specs.Internal.Indexes.{UpdatesText}
use Rattle.reg_notify.specs.Internal.Rows.{row_at, IsIndex, IsTable, place_of, holder_of}
use Rattle.reg_notify.specs.declared.table.Row.{Row}

at_same : (n k : ℕ) → is_at (nat_cmp n) k ≡ true → n ≡ k
at_same n k is = grind (arith, nat_tests)

at_self : (n : ℕ) → is_at (nat_cmp n) n ≡ true
at_self n = grind (arith, nat_tests)

-- ---- where a row stands

pub record Split (n : ℕ) (r : Row) (es : List (ℕ × Row)) : Type 0 where
  pub front : List (ℕ × Row)
  pub back : List (ℕ × Row)
  pub is : es ≡ front ++ (n, r) ∷ back
  pub rest : remove_entry (is_at (nat_cmp n)) es ≡ front ++ back

split-one : (b : Bool) (n : ℕ) (r : Row) (e : ℕ × Row) (es : List (ℕ × Row)) → is_at (nat_cmp n) e.0 ≡ b → (row_at n es ≡ Some r → Split n r es) →
    cond b (Some e.1) (row_at n es) ≡ Some r → Split n r (e ∷ es)
split-one true n r e es at rest found =
    let same : n ≡ e.0 = at_same n e.0 at in
    let row : e.1 ≡ r = cc in
    record {
      front = [];
      back = es;
      is = ap (λ (k : ℕ). (k, e.1) ∷ es) (sym same) ∙ ap (λ (x : Row). (n, x) ∷ es) row;
      rest = cond-true _ _ _ at;
    }
split-one false n r e es at rest found =
    let s = rest found in
    record {
      front = e ∷ s.front;
      back = s.back;
      is = ap (λ (l : List (ℕ × Row)). e ∷ l) s.is;
      rest = cond-false _ _ _ at ∙ ap (λ (l : List (ℕ × Row)). e ∷ l) s.rest;
    }

pub split : (n : ℕ) (r : Row) (es : List (ℕ × Row)) → row_at n es ≡ Some r → Split n r es
split n r [] found = absurd (cc)
split n r (e ∷ es) found = split-one (is_at (nat_cmp n) e.0) n r e es refl (split n r es) found

-- ---- order

all_less : (x : ℕ) (test : ℕ → Bool) (es : List (ℕ × Row)) → AllByRecursion (λ y. nat_cmp x y ≡ Less) (keys_of es) → AllByRecursion (λ y. nat_cmp x y ≡ Less)
    (keys_of (remove_entry test es))
all_less x test [] all = tt
all_less x test (e ∷ es) all = by (test e.0) (all_less x test es all.1)
  where
    by : (b : Bool) → AllByRecursion (λ y. nat_cmp x y ≡ Less) (keys_of (remove_entry test es)) → AllByRecursion (λ y. nat_cmp x y ≡ Less)
        (keys_of (cond b es (e ∷ remove_entry test es)))
    by true rest = all.1
    by false rest = (all.0, rest)

pub rises_less : (test : ℕ → Bool) (es : List (ℕ × Row)) → IsStrictlySortedBy nat_cmp (keys_of es) → IsStrictlySortedBy nat_cmp (keys_of (remove_entry test es))
unfolding IsStrictlySortedBy
rises_less test [] rises = tt
rises_less test (e ∷ es) rises = by (test e.0) (rises_less test es rises.1)
  where
    by : (b : Bool) → IsStrictlySortedBy nat_cmp (keys_of (remove_entry test es)) → IsStrictlySortedBy nat_cmp (keys_of (cond b es (e ∷ remove_entry test es)))
    by true rest = rises.1
    by false rest = (all_less e.0 test es rises.0, rest)

-- what a number finds once a row is gone
pub row_less : (n m : ℕ) (es : List (ℕ × Row)) → IsStrictlySortedBy nat_cmp (keys_of es) → row_at m (remove_entry (is_at (nat_cmp n)) es) ≡ cond
    (is_at (nat_cmp n) m) None (row_at m es)
row_less n m es rises =
    let laws = eq_by_cmp_equiv nat_cmp_total in
    lookup-remove_entry laws (is_at (nat_cmp n)) (laws.congr n) m es (IsDistinct-from_sorted nat_cmp (keys_of es) rises)

-- ---- the indexes

none_there : (index index' : List ℕ → Option ℕ) (key text : List ℕ) (n : ℕ) → UpdatesText index key None index' → index' text ≡ Some n →
    (bytes_eq key text ≡ false) × (index text ≡ Some n)
none_there index index' key text n up found = by (bytes_eq key text) refl
  where
    by : (b : Bool) → bytes_eq key text ≡ b → (bytes_eq key text ≡ false) × (index text ≡ Some n)
    by true e = absurd (let none : index' text ≡ None = up text ∙ cond-true _ _ _ e in cc)
    by false e = (e, sym (up text ∙ cond-false _ _ _ e) ∙ found)

module _ (text_of : ℕ → Row → List ℕ) (es : List (ℕ × Row)) (index : List ℕ → Option ℕ) (i : IsIndex text_of es index) where
  pub index-less : (es' : List (ℕ × Row)) (index' : List ℕ → Option ℕ) (n : ℕ) (r : Row) → row_at n es ≡ Some r →
      ((m : ℕ) → row_at m es' ≡ cond (is_at (nat_cmp n) m) None (row_at m es)) → UpdatesText index (text_of n r) None index' → IsIndex text_of es' index'
  index-less es' index' n r found rows up = record {
    placed = λ m x is. by m x (is_at (nat_cmp n) m) refl (sym (rows m) ∙ is);
    listed = λ text m is.
        let before = none_there index index' (text_of n r) text m up is in
        let l = i.listed text m before.1 in
        (l.0, still text m before.0 l.0 l.1 l.2 (is_at (nat_cmp n) m) refl, l.2);
  }
    where
      apart : (m : ℕ) (x : Row) → is_at (nat_cmp n) m ≡ false → row_at m es ≡ Some x → bytes_eq (text_of n r) (text_of m x) ≡ false
      apart m x other is = clash (bytes_eq (text_of n r) (text_of m x)) refl
        where
          clash : (b : Bool) → bytes_eq (text_of n r) (text_of m x) ≡ b → bytes_eq (text_of n r) (text_of m x) ≡ false
          clash false e = e
          clash true e =
              let same : text_of n r ≡ text_of m x = (bytes_decides (text_of n r) (text_of m x)).0 e in
              let one = i.placed n r found in
              let two : index (text_of n r) ≡ Some m = ap index same ∙ i.placed m x is in
              let numbers : n ≡ m = cc in
              absurd (false≢true (sym other ∙ subst (λ (k : ℕ). is_at (nat_cmp n) k ≡ true) numbers (at_self n)))

      by : (m : ℕ) (x : Row) (b : Bool) → is_at (nat_cmp n) m ≡ b → cond (is_at (nat_cmp n) m) None (row_at m es) ≡ Some x → index' (text_of m x) ≡ Some m
      by m x true e is = absurd (let none : None ≡ Some x = sym (cond-true _ _ _ e) ∙ is in cc)
      by m x false e is =
          let was : row_at m es ≡ Some x = sym (cond-false _ _ _ e) ∙ is in
          up (text_of m x) ∙ cond-false _ _ _ (apart m x e was) ∙ i.placed m x was

      still : (text : List ℕ) (m : ℕ) → bytes_eq (text_of n r) text ≡ false → (x : Row) → row_at m es ≡ Some x → text_of m x ≡ text → (b : Bool) → is_at
          (nat_cmp n) m ≡ b → row_at m es' ≡ Some x
      still text m other x is text_is false e = rows m ∙ cond-false _ _ _ e ∙ is
      still text m other x is text_is true e =
          let same : n ≡ m = at_same n m e in
          let rows_same : Some r ≡ Some x = sym found ∙ ap (λ (k : ℕ). row_at k es) same ∙ is in
          let row : r ≡ x = cc in
          let key : text_of n r ≡ text = ap (λ (k : ℕ). text_of k r) same ∙ ap (text_of m) row ∙ text_is in
          absurd (false≢true (sym other ∙ (bytes_decides (text_of n r) text).1 key))

-- ---- a table with a row less

pub table-less : (es es' : List (ℕ × Row)) (places handles places' handles' : List ℕ → Option ℕ) (n : ℕ) (r : Row) → IsTable es places handles →
    row_at n es ≡ Some r →
    es' ≡ remove_entry (is_at (nat_cmp n)) es → UpdatesText places (place_of n r) None places' → UpdatesText handles (holder_of n r) None handles' →
    IsTable es' places' handles'
table-less es es' places handles places' handles' n r t found gone up uh =
    subst (λ (l : List (ℕ × Row)). IsTable l places' handles') (sym gone) (record {
      rising = rises_less (is_at (nat_cmp n)) es t.rising;
      fits = λ m x is. t.fits m x (was m x (is_at (nat_cmp n) m) refl (sym (row_less n m es t.rising) ∙ is));
      by_place = index-less place_of es places t.by_place (remove_entry (is_at (nat_cmp n)) es) places' n r found (λ m. row_less n m es t.rising) up;
      by_handle = index-less holder_of es handles t.by_handle (remove_entry (is_at (nat_cmp n)) es) handles' n r found (λ m. row_less n m es t.rising) uh;
    })
  where
    was : (m : ℕ) (x : Row) (b : Bool) → is_at (nat_cmp n) m ≡ b → cond (is_at (nat_cmp n) m) None (row_at m es) ≡ Some x → row_at m es ≡ Some x
    was m x true e is = absurd (let none : None ≡ Some x = sym (cond-true _ _ _ e) ∙ is in cc)
    was m x false e is = sym (cond-false _ _ _ e) ∙ is
