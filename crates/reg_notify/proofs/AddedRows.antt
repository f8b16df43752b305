-- A row that comes behind all others.
use Rattle.std.proofs.Common.{◌≡◌, ℕ, ◌+◌, ◌<◌, ◌^◌, Bool, true, false, cond, eqb, List, [], ◌∷◌, ◌++◌, Option, Some, None, refl, sym, ap, ◌∙◌, subst}
use Rattle.std.proofs.Common.{arith, ◌⊎◌, inl, inr}
use Rattle.std.specs.Prelude.{bytes_eq}
use Rattle.std.specs.List.{AllByRecursion}
use Rattle.std.specs.List.Sorted.{IsStrictlySortedBy}
use Rattle.std.specs.Ordering.{nat_cmp}
use Rattle.std.specs.declared.cmp.Ordering.TheVariants.{Less, Greater}
use Rattle.std.specs.BTreeMap.{is_at, insert_entry}
use Rattle.std.specs.Map.{remove_entry, keys_of}
use Rattle.std.specs.Cmp.Lexicographic.{bytes_decides}
use Rattle.std.proofs.lemmas.Bool.{cond-true, cond-false}
use Rattle.std.proofs.lemmas.Bool.Decides.{nat_tests}
use Rattle.reg_notify.specs.declared.table.Row.{Row}
use Rattle.reg_notify.specs.Internal.Indexes.{UpdatesText}
use Rattle.reg_notify.specs.Internal.Keys.{class_of, handle_text}
use Rattle.reg_notify.specs.Internal.Rows.{row_at, rows_of, IsRow, IsIndex, IsTable, place_of, holder_of}
use Rattle.reg_notify.proofs.KeyTexts.{key-number, handle-number}

abbrev Rows : Type 0
Rows = List (ℕ × Row)

-- all numbers are below one
abbrev pub AreBelow : ℕ → Rows → Type 0
AreBelow n es = AllByRecursion (λ (e : ℕ × Row). e.0 < n) es

-- ---- at the end

greater : (n m : ℕ) → m < n → nat_cmp n m ≡ Greater
greater n m l = grind (arith, nat_tests)

not-at : (n m : ℕ) → m < n → is_at (nat_cmp n) m ≡ false
not-at n m l = grind (arith, nat_tests)

at-self : (n : ℕ) → is_at (nat_cmp n) n ≡ true
at-self n = grind (arith, nat_tests)

at-same : (n m : ℕ) → is_at (nat_cmp n) m ≡ true → n ≡ m
at-same n m is = grind (arith, nat_tests)

pub insert-last : (n : ℕ) (r : Row) (es : Rows) → AreBelow n es → insert_entry nat_cmp es n r ≡ es ++ (n, r) ∷ []
insert-last n r [] below = refl
insert-last n r (e ∷ es) below = rw (greater n e.0 below.0) (ap (λ (l : Rows). e ∷ l) (insert-last n r es below.1))

pub remove-last : (n : ℕ) (r : Row) (es : Rows) → AreBelow n es → remove_entry (is_at (nat_cmp n)) (es ++ (n, r) ∷ []) ≡ es
remove-last n r [] below = cond-true _ _ _ (at-self n)
remove-last n r (e ∷ es) below = cond-false _ _ _ (not-at n e.0 below.0) ∙ ap (λ (l : Rows). e ∷ l) (remove-last n r es below.1)

-- ---- what numbers find

pub none-there : (n : ℕ) (es : Rows) → AreBelow n es → row_at n es ≡ None
none-there n [] below = refl
none-there n (e ∷ es) below = cond-false _ _ _ (not-at n e.0 below.0) ∙ none-there n es below.1

pub here-last : (n : ℕ) (r : Row) (es : Rows) → AreBelow n es → row_at n (es ++ (n, r) ∷ []) ≡ Some r
here-last n r [] below = cond-true _ _ _ (at-self n)
here-last n r (e ∷ es) below = cond-false _ _ _ (not-at n e.0 below.0) ∙ here-last n r es below.1

still-there : (n : ℕ) (r : Row) (es : Rows) (m : ℕ) (x : Row) → row_at m es ≡ Some x → row_at m (es ++ (n, r) ∷ []) ≡ Some x
still-there n r [] m x found = absurd (cc)
still-there n r (e ∷ es) m x found = by (is_at (nat_cmp m) e.0) refl (λ f. still-there n r es m x f)
  where
    by : (b : Bool) → is_at (nat_cmp m) e.0 ≡ b → (row_at m es ≡ Some x → row_at m (es ++ (n, r) ∷ []) ≡ Some x) → row_at m ((e ∷ es) ++ (n, r) ∷ []) ≡ Some x
    by true at rest = cond-true _ _ _ at ∙ sym (cond-true _ _ _ at) ∙ found
    by false at rest = cond-false _ _ _ at ∙ rest (sym (cond-false _ _ _ at) ∙ found)

abbrev WasThere : ℕ → Row → Rows → ℕ → Row → Type 0
WasThere n r es m x = (row_at m es ≡ Some x) ⊎ ((m ≡ n) × (x ≡ r))

was-there : (n : ℕ) (r : Row) (es : Rows) (m : ℕ) (x : Row) → row_at m (es ++ (n, r) ∷ []) ≡ Some x → WasThere n r es m x
was-there n r [] m x found = by (is_at (nat_cmp m) n) refl
  where
    by : (b : Bool) → is_at (nat_cmp m) n ≡ b → WasThere n r [] m x
    by true at =
        let row : Some r ≡ Some x = sym (cond-true _ _ _ at) ∙ found in
        inr (at-same m n at, cc)
    by false at = absurd (let none : None ≡ Some x = sym (cond-false _ _ _ at) ∙ found in cc)
was-there n r (e ∷ es) m x found = by (is_at (nat_cmp m) e.0) refl (λ f. was-there n r es m x f)
  where
    by : (b : Bool) → is_at (nat_cmp m) e.0 ≡ b → (row_at m (es ++ (n, r) ∷ []) ≡ Some x → WasThere n r es m x) → WasThere n r (e ∷ es) m x
    by true at rest = inl (cond-true _ _ _ at ∙ sym (cond-true _ _ _ at) ∙ found)
    by false at rest = more (rest (sym (cond-false _ _ _ at) ∙ found))
      where
        more : WasThere n r es m x → WasThere n r (e ∷ es) m x
        more (inl f) = inl (cond-false _ _ _ at ∙ f)
        more (inr p) = inr p

found-below : (n : ℕ) (es : Rows) (m : ℕ) (x : Row) → AreBelow n es → row_at m es ≡ Some x → m < n
found-below n [] m x below found = absurd (cc)
found-below n (e ∷ es) m x below found = by (is_at (nat_cmp m) e.0) refl (λ f. found-below n es m x below.1 f)
  where
    by : (b : Bool) → is_at (nat_cmp m) e.0 ≡ b → (row_at m es ≡ Some x → m < n) → m < n
    by true at rest = let same = at-same m e.0 at in let l = below.0 in omega (arith, same, l)
    by false at rest = rest (sym (cond-false _ _ _ at) ∙ found)

-- ---- their order

all-push : (x : ℕ) (n : ℕ) (r : Row) (es : Rows) → x < n → AllByRecursion (λ y. nat_cmp x y ≡ Less) (keys_of es) → AllByRecursion (λ y. nat_cmp x y ≡ Less)
    (keys_of (es ++ (n, r) ∷ []))
all-push x n r [] l all = (less x n l, tt)
  where
    less : (x n : ℕ) → x < n → nat_cmp x n ≡ Less
    less x n l = grind (arith, nat_tests)
all-push x n r (e ∷ es) l all = (all.0, all-push x n r es l all.1)

rises-push : (n : ℕ) (r : Row) (es : Rows) → AreBelow n es → IsStrictlySortedBy nat_cmp (keys_of es) → IsStrictlySortedBy nat_cmp (keys_of (es ++ (n, r) ∷ []))
unfolding IsStrictlySortedBy
rises-push n r [] below rises = (tt, tt)
rises-push n r (e ∷ es) below rises = (all-push e.0 n r es below.0 rises.0, rises-push n r es below.1 rises.1)

-- ---- the indexes

module _ (text_of : ℕ → Row → List ℕ) (n : ℕ) (r : Row) (es : Rows) (below : AreBelow n es) (index index' : List ℕ → Option ℕ) (i : IsIndex text_of es index)
    (up : UpdatesText index (text_of n r) (Some n) index') (numbers : (m : ℕ) (x : Row) → row_at m es ≡ Some x → text_of n r ≡ text_of m x → n ≡ m) where
  apart : (m : ℕ) (x : Row) → row_at m es ≡ Some x → (b : Bool) → bytes_eq (text_of n r) (text_of m x) ≡ b → bytes_eq (text_of n r) (text_of m x) ≡ false
  apart m x found false e = e
  apart m x found true e =
      let same = numbers m x found ((bytes_decides (text_of n r) (text_of m x)).0 e) in
      let less = found-below n es m x below found in
      absurd (omega (arith, same, less))

  placed : (m : ℕ) (x : Row) → WasThere n r es m x → index' (text_of m x) ≡ Some m
  placed m x (inl found) = up (text_of m x) ∙ cond-false _ _ _ (apart m x found _ refl) ∙ i.placed m x found
  placed m x (inr p) =
      let text : text_of m x ≡ text_of n r = ap (λ (k : ℕ). text_of k x) p.0 ∙ ap (text_of n) p.1 in
      ap index' text ∙ up (text_of n r) ∙ cond-true _ _ _ ((bytes_decides (text_of n r) (text_of n r)).1 refl) ∙ ap Some (sym p.0)

  listed : (text : List ℕ) (m : ℕ) → index' text ≡ Some m → (b : Bool) → bytes_eq (text_of n r) text ≡ b → (x : Row) ×
      (row_at m (es ++ (n, r) ∷ []) ≡ Some x) × (text_of m x ≡ text)
  listed text m is true e =
      let number : Some n ≡ Some m = sym (cond-true _ _ _ e) ∙ sym (up text) ∙ is in
      let same : n ≡ m = cc in (
        r,
        subst (λ (k : ℕ). row_at k (es ++ (n, r) ∷ []) ≡ Some r) same (here-last n r es below),
        subst (λ (k : ℕ). text_of k r ≡ text) same ((bytes_decides (text_of n r) text).0 e),
      )
  listed text m is false e =
      let l = i.listed text m (sym (cond-false _ _ _ e) ∙ sym (up text) ∙ is) in
      (l.0, still-there n r es m l.0 l.1, l.2)

  pub index-more : IsIndex text_of (es ++ (n, r) ∷ []) index'
  index-more = record {
    placed = λ m x found. placed m x (was-there n r es m x found);
    listed = λ text m is. listed text m is
        (bytes_eq (text_of n r) text) refl;
  }

-- ---- a table with a row more

module _ (n : ℕ) (r : Row) (es : Rows) (below : AreBelow n es) (places handles places' handles' : List ℕ → Option ℕ) (t : IsTable es places handles)
    (fit : IsRow n r)
    (up : UpdatesText places (place_of n r) (Some n) places') (uh : UpdatesText handles (holder_of n r) (Some n) handles') where
  of-place : (m : ℕ) (x : Row) → row_at m es ≡ Some x → place_of n r ≡ place_of m x → n ≡ m
  of-place m x found same =
      let other = t.fits m x found in
      key-number r.place x.place (class_of r.filter r.subtree) (class_of x.filter x.subtree) n m fit.clean other.clean fit.small other.small
      same

  of-holder : (m : ℕ) (x : Row) → row_at m es ≡ Some x → holder_of n r ≡ holder_of m x → n ≡ m
  of-holder m x found same = let other = t.fits m x found in handle-number r.handle x.handle n m fit.small other.small same

  fits : (m : ℕ) (x : Row) → WasThere n r es m x → IsRow m x
  fits m x (inl found) = t.fits m x found
  fits m x (inr p) = subst (λ (k : ℕ). IsRow k x) (sym p.0) (subst (λ (y : Row). IsRow n y) (sym p.1) fit)

  pub table-more : IsTable (es ++ (n, r) ∷ []) places' handles'
  table-more = record {
    rising = rises-push n r es below t.rising;
    fits = λ m x found. fits m x (was-there n r es m x found);
    by_place = index-more place_of n r es below places places' t.by_place up of-place;
    by_handle = index-more holder_of n r es below handles handles' t.by_handle uh of-holder;
  }

-- no row is found by the text of a number above all
pub none-held : (n : ℕ) (h : ℕ) (es : Rows) (places handles : List ℕ → Option ℕ) → AreBelow n es → n < 2 ^ 64 → IsTable es places handles → (o : Option ℕ) →
    handles (handle_text h n) ≡ o → handles (handle_text h n) ≡ None
none-held n h es places handles below small t None is = is
none-held n h es places handles below small t (Some m) is =
    let l = t.by_handle.listed (handle_text h n) m is in
    let other = t.fits m l.0 l.1 in
    let same = handle-number l.0.handle h m n other.small small l.2 in
    let less = found-below n es m l.0 below l.1 in
    absurd (omega (arith, same, less))

-- ---- the same table by indexes that find the same

same-index : (text_of : ℕ → Row → List ℕ) (es : Rows) (index index' : List ℕ → Option ℕ) → ((text : List ℕ) → index' text ≡ index text) →
    IsIndex text_of es index → IsIndex text_of es index'
same-index text_of es index index' same i = record {
  placed = λ m x found. same (text_of m x) ∙ i.placed m x found;
  listed = λ text m is. i.listed text m (sym (same text) ∙ is);
}

pub table-same : (es : Rows) (places handles places' handles' : List ℕ → Option ℕ) → IsTable es places handles →
    ((text : List ℕ) → places' text ≡ places text) →
    ((text : List ℕ) → handles' text ≡ handles text) → IsTable es places' handles'
table-same es places handles places' handles' t sp sh = record {
  rising = t.rising;
  fits = t.fits;
  by_place = same-index place_of es places places' sp t.by_place;
  by_handle = same-index holder_of es handles handles' sh t.by_handle;
}

pub rows-push : (s n : ℕ) (r : Row) (es : Rows) → rows_of s (es ++ (n, r) ∷ []) ≡ rows_of s es + cond (eqb r.session s) 1 0
rows-push s n r [] = omega arith
rows-push s n r (e ∷ es) = let rest = rows-push s n r es in omega (arith, rest)
