-- Values that may follow one another, and the sizes of their cells.
use Rattle.std.proofs.Common.{◌≡◌, ℕ, zero, suc, ◌+◌, ◌*◌, ◌<◌, ◌≤◌, Some, None, List, [], ◌∷◌, ◌++◌}
use Rattle.std.proofs.Common.{length, take, get_or, slice_get, refl, sym, ap, ◌∙◌, subst, arith, add-one}
use Rattle.std.specs.List.{AllByRecursion}
use Rattle.std.proofs.lemmas.Option.{none-some, same_Some}
use Rattle.std.proofs.lemmas.List.{append_assoc, append-nil}
use Rattle.reg_arena.specs.NewCells.{AreSizes, cell_size, total_of}
use Rattle.reg_heap.specs.Paths.{Member}
use Rattle.reg_heap.specs.Members.{index_named}
use Rattle.reg_heap.specs.Trees.{IsSmallValue}
use Rattle.reg_values.specs.declared.making.NewValue.{NewValue}
use Rattle.reg_values.specs.ValueSizes.{data_sizes}
use Rattle.reg_values.specs.NewValues.{told, all_told, MayFollow, one_value_sizes, each_value_sizes, all_value_sizes}
use Rattle.reg_values.proofs.ValueData.CellSizeTotals.{all-app, cell-ok, data-ok, data-total, total-append, value-name}

-- ---- values that may follow others

pub read-at : (values : List NewValue) (index : ℕ) (v : NewValue) → slice_get values index ≡ Some v → slice_get (all_told values) index ≡ Some (told v)
read-at [] index v e = absurd (none-some _ e)
read-at (x ∷ values) zero v e = ap (λ (v : NewValue). Some (told v)) (same_Some _ _ e)
read-at (x ∷ values) (suc index) v e = read-at values index v e

-- the value of a turn
pub turn : (values : List NewValue) (index : ℕ) (d : NewValue) → index < length values → slice_get (all_told values) index ≡ Some (told (get_or values index d))
turn values index d l = read-at values index _ (here values index l)
  where
    here : (values : List NewValue) (index : ℕ) → index < length values → slice_get values index ≡ Some (get_or values index d)
    here [] index l = absurd (omega (arith, l))
    here (x ∷ values) zero l = refl
    here (x ∷ values) (suc index) l = here values index (omega (arith, l))

pub take-more : (members : List Member) (index : ℕ) (m : Member) → slice_get members index ≡ Some m → take (suc index) members ≡ take index members ++ m ∷ []
take-more [] index m e = absurd (none-some _ e)
take-more (x ∷ members) zero m e = ap (λ m. m ∷ []) (same_Some _ _ e)
take-more (x ∷ members) (suc index) m e = ap (λ ms. x ∷ ms) (take-more members index m e)

pub record Follows (before members : List Member) (index : ℕ) (m : Member) : Type 0 where
  pub small : IsSmallValue m
  pub new : index_named m.name (before ++ take index members) ≡ None

pub follows-at : (before members : List Member) → MayFollow before members → (index : ℕ) (m : Member) → slice_get members index ≡ Some m → Follows before members index m
follows-at before [] f index m e = absurd (none-some _ e)
follows-at before (x ∷ members) f zero m e =
    subst (λ (m : Member). Follows before (x ∷ members) 0 m) (same_Some _ _ e)
    (record { small = f.0; new = subst (λ ms. index_named x.name ms ≡ None) (sym (append-nil before)) f.1 })
follows-at before (x ∷ members) f (suc i) m e =
    let r = follows-at (before ++ x ∷ []) members f.2 i m e in
    record { small = r.small; new = subst (λ ms. index_named m.name ms ≡ None) (append_assoc before (x ∷ []) (take i members)) r.new }

-- values that may follow others are each within the limits
pub small-each : (members before : List Member) → MayFollow before members → AllByRecursion IsSmallValue members
small-each [] before f = tt
small-each (m ∷ members) before f = (f.0, small-each members (before ++ m ∷ []) f.2)

pub small-at : (values : List NewValue) (index : ℕ) (d : NewValue) → AllByRecursion IsSmallValue (all_told values) → index < length values →
    IsSmallValue (told (get_or values index d))
small-at [] index d f l = absurd (omega (arith, l))
small-at (v ∷ values) zero d f l = f.0
small-at (v ∷ values) (suc index) d f l = small-at values index d f.1 (omega (arith, l))

pub take-all : {A : Type 0} (xs : List A) (index : ℕ) → length xs ≤ index → take index xs ≡ xs
take-all [] zero l = refl
take-all [] (suc index) l = refl
take-all (x ∷ xs) zero l = absurd (omega (arith, l))
take-all (x ∷ xs) (suc index) l = ap (λ ys. x ∷ ys) (take-all xs index (omega (arith, l)))

pub told-length : (values : List NewValue) → length (all_told values) ≡ length values
told-length [] = refl
told-length (v ∷ values) = ap suc (told-length values)

pub all-made : (values : List NewValue) (index : ℕ) → length values ≤ index → take index (all_told values) ≡ all_told values
all-made values index l = let n = told-length values in take-all (all_told values) index (omega (arith, n, l))

-- ---- the sizes of their cells

pub one-ok : (m : Member) → AreSizes (one_value_sizes m)
one-ok m = (cell-ok (20 + length m.name), data-ok (length m.bytes))

pub each-ok : (ms : List Member) → AreSizes (each_value_sizes ms)
each-ok [] = tt
each-ok (m ∷ ms) = all-app _ (one_value_sizes m) (each_value_sizes ms) (one-ok m) (each-ok ms)

pub all-ok : (room : ℕ) (members : List Member) → AreSizes (all_value_sizes room members)
all-ok room [] = tt
all-ok room (m ∷ members) = (cell-ok (4 * room), each-ok (m ∷ members))

pub each-push : (ms : List Member) (m : Member) → each_value_sizes (ms ++ m ∷ []) ≡ each_value_sizes ms ++ one_value_sizes m
each-push [] m = append-nil (one_value_sizes m)
each-push (x ∷ ms) m = ap (λ ss. one_value_sizes x ++ ss) (each-push ms m) ∙ sym (append_assoc (one_value_sizes x) (each_value_sizes ms) (one_value_sizes m))

pub sizes-more : (values : List NewValue) (index : ℕ) (d : NewValue) (first old new : List ℕ) → index < length values →
    old ≡ first ++ each_value_sizes (take index (all_told values)) → new ≡ old ++ one_value_sizes (told (get_or values index d)) →
    new ≡ first ++ each_value_sizes (take (index + 1) (all_told values))
sizes-more values index d first old new l e f =
    let m = told (get_or values index d) in
    let more = ap (λ i. take i (all_told values)) (add-one index) ∙ take-more (all_told values) index m (turn values index d l) in
    f
    ∙ (ap (λ xs. xs ++ one_value_sizes m) e
    ∙ (append_assoc first (each_value_sizes (take index (all_told values))) (one_value_sizes m)
    ∙ ap (λ xs. first ++ xs) (sym (each-push (take index (all_told values)) m) ∙ ap each_value_sizes (sym more))))

pub sizes-all : (values : List NewValue) (index : ℕ) (first sizes : List ℕ) → length values ≤ index →
    sizes ≡ first ++ each_value_sizes (take index (all_told values)) → sizes ≡ first ++ each_value_sizes (all_told values)
sizes-all values index first sizes l e = e ∙ ap (λ ms. first ++ each_value_sizes ms) (all-made values index l)

pub all-sizes : (values : List NewValue) (room : ℕ) → 0 < length values →
    cell_size (4 * room) ∷ each_value_sizes (all_told values) ≡ all_value_sizes room (all_told values)
all-sizes [] room l = absurd (omega (arith, l))
all-sizes (v ∷ values) room l = refl

pub some-each : (values : List NewValue) (sizes : List ℕ) → sizes ≡ each_value_sizes (all_told values) → 0 < length values → 0 < length sizes
some-each [] sizes e some = absurd (omega (arith, some))
some-each (v ∷ values) sizes e some = let l = ap length e in omega (arith, l)

pub some-sizes : (values : List NewValue) (room : ℕ) (sizes : List ℕ) → sizes ≡ all_value_sizes room (all_told values) → 0 < length values → 0 < length sizes
some-sizes values room sizes e some = let l = ap length (e ∙ sym (all-sizes values room some)) in omega (arith, l)

-- ---- how much that is together

pub total-more : (values : List NewValue) (index : ℕ) (d : NewValue) → index < length values →
    total_of (each_value_sizes (take (index + 1) (all_told values)))
    ≡ total_of (each_value_sizes (take index (all_told values))) + total_of (one_value_sizes (told (get_or values index d)))
total-more values index d l =
    let m = told (get_or values index d) in
    let more = ap (λ i. take i (all_told values)) (add-one index) ∙ take-more (all_told values) index m (turn values index d l) in
    ap (λ ms. total_of (each_value_sizes ms)) more
    ∙ (ap total_of (each-push (take index (all_told values)) m)
    ∙ total-append (each_value_sizes (take index (all_told values))) (one_value_sizes m))

-- what the list and these values take, where there is one
pub total-some : (room : ℕ) (ms : List Member) → 0 < length ms → total_of (all_value_sizes room ms) ≡ cell_size (4 * room) + total_of (each_value_sizes ms)
total-some room [] l = absurd (omega (arith, l))
total-some room (m ∷ ms) l = refl

-- and at most
pub total-within : (room : ℕ) (ms : List Member) → total_of (all_value_sizes room ms) ≤ cell_size (4 * room) + total_of (each_value_sizes ms)
total-within room [] = omega arith
total-within room (m ∷ ms) = omega arith

-- a value up to one is there
pub some-taken : (values : List NewValue) (index : ℕ) → index < length values → 0 < length (take (index + 1) (all_told values))
some-taken [] index l = absurd (omega (arith, l))
some-taken (v ∷ values) index l = subst (λ i. 0 < length (take i (all_told (v ∷ values)))) (sym (add-one index)) (omega arith)

-- the first of some values always fits
pub some-fit : (values : List NewValue) (n most : ℕ) → AllByRecursion IsSmallValue (all_told values) → 0 < length values → 1306592 ≤ most →
    (n < length values → most < total_of (each_value_sizes (take (n + 1) (all_told values)))) → 0 < n
some-fit [] n most f l m g = absurd (omega (arith, l))
some-fit (v ∷ values) (suc n) most f l m g = omega arith
some-fit (v ∷ values) zero most f l m g =
    let d = data-total (length v.bytes.now) f.0.bytes in
    let n = value-name v.name.now f.0.name in
    let e = total-append (data_sizes (length v.bytes.now)) [] in
    let p = g (omega arith) in
    absurd (omega (arith, d, n, e, p, m))
