-- Texts that begin with another and are longer: in a map they stand behind it, with no other text between them.
use Rattle.std.proofs.Common.{◌≡◌, ℕ, ◌<◌, Bool, true, false, cond, List, [], ◌∷◌, ◌++◌, length, drop, nat_eq, nat_lt, Option, Some, None, refl, sym, ap}
use Rattle.std.proofs.Common.{subst, ◌∙◌, arith, Vec}
use Rattle.std.proofs.Common.{length-append}
use Rattle.std.specs.Prelude.{IsSome, IfSome}
use Rattle.std.specs.List.{starts_with, slice_get}
use Rattle.std.specs.Ordering.{nat_cmp, is_eq, is_gt, ordering_then}
use Rattle.std.specs.declared.cmp.Ordering.{Ordering}
use Rattle.std.specs.declared.cmp.Ordering.TheVariants.{Less, Equal, Greater}
use Rattle.std.specs.declared.ops.Bound.TheVariants.{Excluded, Unbounded}
use Rattle.std.specs.Cmp.Lexicographic.{slice_cmp, bytes_decides}
use Rattle.std.specs.FinMap.{nat_cmp-IsAntisymmetric}
use Rattle.std.specs.BTreeMap.{BTreeMap}
use Rattle.std.specs.BTreeMap.Range.{IsRangeOf, IsEntryInRange, IsLeBy}
use Rattle.std.proofs.lemmas.Bool.{and_parts, and_from, false≢true}
use Rattle.std.proofs.lemmas.Bool.Decides.{nat_tests, Decides-eqb}
use Rattle.std.proofs.lemmas.Cmp.{nat_cmp_total, nat_list_cmp_total, tied_itself}
use Rattle.std.proofs.lemmas.List.{append-nil}
use Rattle.std.proofs.lemmas.Map.Text.{is_eq-slice_cmp}
use Rattle.std.proofs.lemmas.Slice.Eq.{starts_is}
use Rattle.reg_model.specs.Internal.TextNumbers.{number_at, goes_on}

abbrev order : List ℕ → List ℕ → Ordering
order = slice_cmp nat_cmp

-- ---- texts

begins : (text start : List ℕ) → starts_with nat_eq text start ≡ true → text ≡ start ++ drop (length start) text
begins text start is = (starts_is Decides-eqb text start (starts_with nat_eq text start) refl).0 is

pub begins-append : (start rest : List ℕ) → starts_with nat_eq (start ++ rest) start ≡ true
begins-append start rest = (starts_is Decides-eqb (start ++ rest) start (starts_with nat_eq (start ++ rest) start) refl).1 rest refl

-- a text that goes on is the other and a byte or more
pub goes_on-rest : (start text : List ℕ) → goes_on start text ≡ true → (b : ℕ) × (bs : List ℕ) × (text ≡ start ++ b ∷ bs)
goes_on-rest start text is = by (drop (length start) text) (begins text start both.0) longer
  where
    both : (starts_with nat_eq text start ≡ true) × (nat_lt (length start) (length text) ≡ true)
    both = and_parts (starts_with nat_eq text start) (nat_lt (length start) (length text)) is

    longer : length start < length text
    longer = let l = both.1 in grind (arith, nat_tests, l)

    by : (rest : List ℕ) → text ≡ start ++ rest → length start < length text → (b : ℕ) × (bs : List ℕ) × (text ≡ start ++ b ∷ bs)
    by [] e l = let same = ap length (e ∙ append-nil start) in absurd (omega (arith, same, l))
    by (b ∷ bs) e l = (b, bs, e)

pub goes_on-append : (start : List ℕ) (b : ℕ) (bs : List ℕ) → goes_on start (start ++ b ∷ bs) ≡ true
goes_on-append start b bs =
    let long = length-append start (b ∷ bs) in
    let longer : length start < length (start ++ b ∷ bs) = omega (arith, long) in
    and_from _ _ (begins-append start (b ∷ bs)) (grind (arith, nat_tests, longer))

-- ---- their order

-- a text stands before one that goes on
less-append : (start : List ℕ) (b : ℕ) (bs : List ℕ) → order start (start ++ b ∷ bs) ≡ Less
less-append [] b bs = refl
less-append (a ∷ start) b bs = rw (tied_itself nat_cmp_total a) (less-append start b bs)

pub less-longer : (start text : List ℕ) → goes_on start text ≡ true → order start text ≡ Less
less-longer start text is = let r = goes_on-rest start text is in subst (λ (t : List ℕ). order start t ≡ Less) (sym r.2) (less-append start r.0 r.1)

-- what begins with a text stands before each that stands behind that text and doesn't begin with it
apart-behind : (a b : ℕ) (start other : List ℕ) → a ≡ b → starts_with nat_eq (b ∷ other) (a ∷ start) ≡ false → starts_with nat_eq other start ≡ false
apart-behind a b start other same apart = by (starts_with nat_eq other start) refl
  where
    by : (c : Bool) → starts_with nat_eq other start ≡ c → starts_with nat_eq other start ≡ false
    by true is =
        let whole : b ∷ other ≡ (a ∷ start) ++ drop (length start) other = rw same (ap (λ (t : List ℕ). b ∷ t) (begins other start is)) in
        absurd (false≢true (sym apart ∙ subst (λ (t : List ℕ). starts_with nat_eq t (a ∷ start) ≡ true) (sym whole)
        (begins-append (a ∷ start) (drop (length start) other))))
    by false is = is

before-behind : (o : Ordering) (x y : Ordering) → ordering_then o x ≡ Less → (o ≡ Equal → x ≡ Less → y ≡ Less) → ordering_then o y ≡ Less
before-behind Less x y less rest = refl
before-behind Equal x y less rest = rest refl less
before-behind Greater x y less rest = absurd (cc)

before-others : (start rest other : List ℕ) → order start other ≡ Less → starts_with nat_eq other start ≡ false → order (start ++ rest) other ≡ Less
before-others [] rest other less apart = absurd (false≢true (sym apart ∙ begins-append [] other))
before-others (a ∷ start) rest [] less apart = absurd (cc)
before-others (a ∷ start) rest (b ∷ other) less apart =
    before-behind (nat_cmp a b) (order start other) (order (start ++ rest) other) less
    (λ same behind. before-others start rest other behind (apart-behind a b start other (nat_cmp-IsAntisymmetric a b same) apart))

-- ---- the first such text of a map

-- the text of a key that is found
stored-one : {Y : Type 0} (e : Vec ℕ Y × ℕ) (text : List ℕ) (key : ℕ) (b : Bool) (o : Option ℕ) → is_eq (order text e.0.items) ≡ b →
    (o ≡ Some key → (q : Vec ℕ Y) × (q.items ≡ text)) → cond b (Some e.1) o ≡ Some key → (q : Vec ℕ Y) × (q.items ≡ text)
stored-one e text key true o is rest found = (e.0, sym ((bytes_decides text e.0.items).0 (sym (is_eq-slice_cmp text e.0.items) ∙ is)))
stored-one e text key false o is rest found = rest found

stored : {Y : Type 0} (es : List (Vec ℕ Y × ℕ)) (text : List ℕ) (key : ℕ) → number_at es text ≡ Some key → (q : Vec ℕ Y) × (q.items ≡ text)
stored [] text key found = absurd (cc)
stored (e ∷ es) text key found = stored-one e text key (is_eq (order text e.0.items)) (number_at es text) refl (stored es text key) found

not_after : (a b : List ℕ) → order b a ≡ Less → is_gt (order a b) ≡ false → ⊥
not_after a b less up = let turned : is_gt (order a b) ≡ true = rw (nat_list_cmp_total.antisymm a b, less) refl in false≢true (sym up ∙ turned)

module _ {Y : Type 0} (m : BTreeMap (Vec ℕ Y) ℕ) (start : Vec ℕ Y) (r : List (Vec ℕ Y × ℕ))
    (range : IsRangeOf (λ (x y : Vec ℕ Y). order x.items y.items) (Excluded start) Unbounded m r) where
  abbrev cmp : Vec ℕ Y → Vec ℕ Y → Ordering
  cmp x y = order x.items y.items

  -- none stands behind the text
  pub none-behind : r ≡ [] → (text : List ℕ) → goes_on start.items text ≡ true → number_at m.entries text ≡ None
  none-behind empty text is = by (number_at m.entries text) refl
    where
      by : (o : Option ℕ) → number_at m.entries text ≡ o → number_at m.entries text ≡ None
      by None e = e
      by (Some key) e =
          let q = stored m.entries text key e in
          let less : order start.items q.0.items ≡ Less = rw q.1 (less-longer start.items text is) in
          sym (ap (number_at m.entries) q.1) ∙ range.5 empty q.0 (less, tt)

  -- the first one behind it
  module _ (e : Vec ℕ Y × ℕ) (rest : List (Vec ℕ Y × ℕ)) (first : r ≡ e ∷ rest) where
    in-map : (order start.items e.0.items ≡ Less) × (number_at m.entries e.0.items ≡ Some e.1)
    in-map =
        let is : IfSome (slice_get (e ∷ rest) 0) (IsEntryInRange cmp (Excluded start) Unbounded m) = subst (λ (r : List (Vec ℕ Y × ℕ)). IfSome (slice_get r 0) (IsEntryInRange cmp
        (Excluded start) Unbounded m)) first range.1 in
        (is.0.0, is.1)

    -- doesn't begin with it
    pub none-first : starts_with nat_eq e.0.items start.items ≡ false → (text : List ℕ) → goes_on start.items text ≡ true → number_at m.entries text ≡ None
    none-first apart text is = by (number_at m.entries text) refl
      where
        by : (o : Option ℕ) → number_at m.entries text ≡ o → number_at m.entries text ≡ None
        by None e = e
        by (Some key) found =
            let q = stored m.entries text key found in
            let less : order start.items q.0.items ≡ Less = rw q.1 (less-longer start.items text is) in
            let there : IsSome (number_at m.entries q.0.items) = rw (q.1, found) refl in
            let least : IfSome (slice_get (e ∷ rest) 0) (λ x. IsLeBy cmp x.0 q.0) =
            subst (λ (r : List (Vec ℕ Y × ℕ)). IfSome (slice_get r 0) (λ x. IsLeBy cmp x.0 q.0)) first (range.2 q.0 (less, tt) there) in
            let longer = goes_on-rest start.items text is in
            let before : order q.0.items e.0.items ≡ Less = rw (q.1, longer.2) (before-others start.items (longer.0 ∷ longer.1) e.0.items in-map.0 apart) in
            absurd (not_after e.0.items q.0.items before least)

    -- begins with it
    pub one-first : starts_with nat_eq e.0.items start.items ≡ true → (text : List ℕ) × (goes_on start.items text ≡ true) ×
        (number_at m.entries text ≡ Some e.1)
    one-first is = (e.0.items, longer (drop (length start.items) e.0.items) (begins e.0.items start.items is), in-map.1)
      where
        longer : (behind : List ℕ) → e.0.items ≡ start.items ++ behind → goes_on start.items e.0.items ≡ true
        longer [] same =
            let tied : order start.items e.0.items ≡ Equal = rw (same, append-nil start.items) (tied_itself nat_list_cmp_total start.items) in
            let less = in-map.0 in
            absurd (cc)
        longer (b ∷ bs) same = rw same (goes_on-append start.items b bs)
