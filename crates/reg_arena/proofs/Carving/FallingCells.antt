-- Cells carved each by itself, the largest first, whose offsets are put in the order of the sizes. A number that is no offset marks
-- the places whose cell isn't carved yet.
use Rattle.std.proofs.Common.{◌≡◌, ◌≢◌, ℕ, zero, suc, ◌+◌, ◌-◌, ◌<◌, ◌≤◌, ◌%◌, ◌⊎◌, inl, inr, Bool, true, false, cond, List, [], ◌∷◌, ◌++◌, length, get_or, set, take, drop, replicate}
use Rattle.std.proofs.Common.{refl, sym, ap, ◌∙◌, subst, arith, eqb, ltb, is_some, Some, Ok, Err}
use Rattle.std.specs.Prelude.{IsOk, is_ok}
use Rattle.std.specs.declared.result.Result.{Result}
use Rattle.std.specs.declared.alloc.AllocError.{AllocError}
use Rattle.std.proofs.Math.Seq.{drop-append_seam}
use Rattle.std.proofs.lemmas.Bool.{cases_eq, cases_lt, eq-eqb, ne_eqb, lt-ltb, le-ltb}
use Rattle.std.proofs.lemmas.List.{map-append, length-set, length-replicate, get_or-set_same, get_or-set_other, get_or_default, get_or_past, set-append_right, take_all, take_rest}
use Rattle.std.specs.List.{AllByRecursion}
use Rattle.reg_heap.specs.declared.limits.TheConstants.{NONE}
use Rattle.reg_heap.specs.Kinds.{times}
use Rattle.reg_heap.specs.Heaps.{Heap, allocated, AreNew}
use Rattle.reg_arena.specs.declared.free_lists.FreeLists.{FreeLists}
use Rattle.reg_arena.specs.Internal.ListedCells.{IsIndexed}
use Rattle.reg_arena.specs.Cells.{cell_at}
use Rattle.reg_arena.specs.NewCells.{AreSizes}
use Rattle.reg_arena.specs.Carves.{CarvesExactly}
use Rattle.reg_arena.specs.EachCell.{fresh_bin, fresh_of, EachExactly, IsCarvedBefore, AreFalling, at_places, EachFalling}
use Rattle.reg_arena.proofs.Contents.CellWrites.{all-append, found}
use Rattle.reg_arena.proofs.FreeList.ThreadLinks.{times-append, times-none}
use Rattle.reg_arena.proofs.Carving.EachCarve.{one-added, one-longer, each-more}
use Rattle.reg_arena.proofs.Carving.LargestLeft.{all-place, IsNext}

-- ---- lists of numbers

-- how often a number stands in a list of which one place is set
pub times-set : (x : ℕ) (l : List ℕ) (place y : ℕ) → place < length l →
    times x (set l place y) + cond (eqb (get_or l place 0) x) 1 0 ≡ times x l + cond (eqb y x) 1 0
times-set x [] place y h = absurd (omega (arith, h))
times-set x (z ∷ l) zero y h = omega arith
times-set x (z ∷ l) (suc place) y h = let e = times-set x l place y (omega (arith, h)) in omega (arith, e)

one-if : (x y : ℕ) → x ≡ y → ◌≡◌ {A = ℕ} (cond (eqb x y) 1 0) 1
one-if x y e = ap (λ (b : Bool). cond b 1 0) (eq-eqb x y e)

none-if : (x y : ℕ) → x ≢ y → ◌≡◌ {A = ℕ} (cond (eqb x y) 1 0) 0
none-if x y differs = ap (λ (b : Bool). cond b 1 0) (ne_eqb x y differs)

-- what stands nowhere in a list stands at no place
not-at : (x : ℕ) (l : List ℕ) (place : ℕ) → times x l ≡ 0 → place < length l → get_or l place 0 ≢ x
not-at x [] place missing h = absurd (omega (arith, h))
not-at x (y ∷ l) zero missing h = (times-none x y l missing).0
not-at x (y ∷ l) (suc place) missing h = not-at x l place (times-none x y l missing).1 (omega (arith, h))

pub times-replicate : (x : ℕ) (n : ℕ) → times x (replicate n x) ≡ n
times-replicate x zero = refl
times-replicate x (suc n) = let e = times-replicate x n in let one = one-if x x refl in omega (arith, e, one)

times-other : (x y : ℕ) (n : ℕ) → y ≢ x → times x (replicate n y) ≡ 0
times-other x y zero differs = refl
times-other x y (suc n) differs = let e = times-other x y n differs in let none = none-if y x differs in omega (arith, e, none)

replicate-at : (x : ℕ) (n place : ℕ) → get_or (replicate n x) place x ≡ x
replicate-at x zero place = refl
replicate-at x (suc n) zero = refl
replicate-at x (suc n) (suc place) = replicate-at x n place

-- a slice behind a front
behind-is : (slice items out rest : List ℕ) (from : ℕ) → slice ≡ items → items ≡ out ++ rest → from ≡ length out →
    take (length slice - from) (drop from slice) ≡ rest
behind-is slice items out rest from e1 e2 e3 = take_rest slice from ∙ rw (e1, e2, e3) (drop-append_seam out rest)

-- the marks behind what there was
pub marked-behind : (result : Result (Unit {0}) AllocError) (none : ℕ) (out more : List ℕ) (n m k : ℕ) → IsOk result → m ≡ length out →
    k ≡ length out → more ≡ cond (is_ok result) (take (m + n) out ++ replicate (m + n - k) none) out → more ≡ out ++ replicate n none
marked-behind (Err e) none out more n m k ok from long is = absurd (cc (ok))
marked-behind (Ok x) none out more n m k ok from long is =
    let all : take (m + n) out ≡ out = take_all (m + n) out (omega (arith, from)) in
    let count : m + n - k ≡ n = omega (arith, from, long) in
    is ∙ rw (all, count) refl

-- one of the marks gives way
pub set-behind : (items now out offsets : List ℕ) (from place offset : ℕ) → items ≡ out ++ offsets → from ≡ length out →
    now ≡ set items (from + place) offset → now ≡ out ++ set offsets place offset
set-behind items now out offsets from place offset e1 e2 e3 =
    let at : from + place - from ≡ place = omega arith in
    e3 ∙ ap (λ (l : List ℕ). set l (from + place) offset) e1 ∙ set-append_right out offsets from (from + place) offset (sym e2) (omega arith)
    ∙ ap (λ (k : ℕ). out ++ set offsets k offset) at

pub less-left : (none : ℕ) (offsets : List ℕ) (place offset : ℕ) → place < length offsets → get_or offsets place 0 ≡ none → offset ≢ none →
    times none (set offsets place offset) + 1 ≡ times none offsets
less-left none offsets place offset h left differs =
    let count = times-set none offsets place offset h in
    let was = one-if (get_or offsets place 0) none left in
    let now = none-if offset none differs in
    omega (arith, count, was, now)

-- ---- the turn

-- the offset of a place that is in no turn yet
pub at_places-set : (offsets : List ℕ) (place offset : ℕ) (turn : List ℕ) → times place turn ≡ 0 →
    at_places (set offsets place offset) turn ≡ at_places offsets turn
at_places-set offsets place offset [] missing = refl
at_places-set offsets place offset (p ∷ turn) missing =
    let apart = times-none place p turn missing in
    let rest = at_places-set offsets place offset turn apart.1 in
    let here = get_or-set_other offsets place p offset 0 apart.0 in
    rw (here, rest) refl

falling-more : (sizes turn : List ℕ) (place : ℕ) → AreFalling sizes turn → AllByRecursion (λ p. IsCarvedBefore sizes p place) turn →
    AreFalling sizes (turn ++ place ∷ [])
falling-more sizes [] place f l = (tt, tt)
falling-more sizes (p ∷ turn) place f l = (all-append (IsCarvedBefore sizes p) turn (place ∷ []) f.0 (l.0, tt), falling-more sizes turn place f.1 l.1)

-- ---- the least bins

-- the least bins of the sizes at the marked places, together
abbrev pub fresh_left : ℕ → List ℕ → List ℕ → ℕ
fresh_left none [] offsets = 0
fresh_left none (s ∷ sizes) [] = 0
fresh_left none (s ∷ sizes) (o ∷ offsets) = cond (eqb o none) (fresh_bin s) 0 + fresh_left none sizes offsets

fresh_left-all : (none : ℕ) (sizes : List ℕ) → fresh_left none sizes (replicate (length sizes) none) ≡ fresh_of sizes
fresh_left-all none [] = refl
fresh_left-all none (s ∷ sizes) =
    let rest = fresh_left-all none sizes in
    let here : cond (eqb none none) (fresh_bin s) 0 ≡ fresh_bin s = ap (λ (b : Bool). cond b (fresh_bin s) 0) (eq-eqb none none refl) in
    omega (arith, rest, here)

pub fresh_left-set : (none : ℕ) (sizes offsets : List ℕ) (place offset : ℕ) → length offsets ≡ length sizes → place < length sizes →
    get_or offsets place 0 ≡ none → offset ≢ none →
    fresh_left none sizes (set offsets place offset) + fresh_bin (get_or sizes place 0) ≡ fresh_left none sizes offsets
fresh_left-set none [] offsets place offset long h left differs = absurd (omega (arith, h))
fresh_left-set none (s ∷ sizes) [] place offset long h left differs = absurd (omega (arith, long))
fresh_left-set none (s ∷ sizes) (o ∷ offsets) zero offset long h left differs =
    let before : cond (eqb o none) (fresh_bin s) 0 ≡ fresh_bin s = ap (λ (b : Bool). cond b (fresh_bin s) 0) (eq-eqb o none left) in
    let after : cond (eqb offset none) (fresh_bin s) 0 ≡ 0 = ap (λ (b : Bool). cond b (fresh_bin s) 0) (ne_eqb offset none differs) in
    omega (arith, before, after)
fresh_left-set none (s ∷ sizes) (o ∷ offsets) (suc place) offset long h left differs =
    let rest = fresh_left-set none sizes offsets place offset (omega (arith, long)) (omega (arith, h)) left differs in
    omega (arith, rest)

-- a marked place's bin is one of them
fresh_left-room : (none : ℕ) (sizes offsets : List ℕ) (place : ℕ) → length offsets ≡ length sizes → place < length sizes →
    get_or offsets place 0 ≡ none → fresh_bin (get_or sizes place 0) ≤ fresh_left none sizes offsets
fresh_left-room none sizes offsets place long h left =
    let set = fresh_left-set none sizes offsets place (none + 1) long h left (λ e. absurd (omega (arith, e))) in
    omega (arith, set)

-- ---- the cells

most : (b : Bool) → cond b 1 0 ≤ 1
most true = omega arith
most false = omega arith

-- how often an offset was put in
abbrev pub placed : ℕ → ℕ → List ℕ → ℕ
placed none x offsets = cond (eqb x none) 0 (times x offsets)

placed-start : (none x : ℕ) (n : ℕ) → placed none x (replicate n none) ≡ 0
placed-start none x n = by (cases_eq x none)
  where
    by : (x ≡ none) ⊎ (x ≢ none) → placed none x (replicate n none) ≡ 0
    by (inl e) = rw (eq-eqb x none e) refl
    by (inr differs) = rw (ne_eqb x none differs) (times-other x none n (λ e. differs (sym e)))

placed-set : (none x : ℕ) (offsets : List ℕ) (place offset : ℕ) → place < length offsets → get_or offsets place 0 ≡ none → offset ≢ none →
    placed none x (set offsets place offset) ≡ placed none x offsets + cond (eqb offset x) 1 0
placed-set none x offsets place offset h left differs = by (cases_eq x none)
  where
    by : (x ≡ none) ⊎ (x ≢ none) → placed none x (set offsets place offset) ≡ placed none x offsets + cond (eqb offset x) 1 0
    by (inl e) = rw (eq-eqb x none e, none-if offset x (λ q. differs (q ∙ e))) refl
    by (inr n) =
        let count = times-set x offsets place offset h in
        let was : cond (eqb (get_or offsets place 0) x) 1 0 ≡ 0 = none-if _ x (λ q. n (sym q ∙ left)) in
        rw (ne_eqb x none n) (omega (arith, count, was))

placed-all : (none x : ℕ) (offsets : List ℕ) → times none offsets ≡ 0 → placed none x offsets ≡ times x offsets
placed-all none x offsets all = by (cases_eq x none)
  where
    by : (x ≡ none) ⊎ (x ≢ none) → placed none x offsets ≡ times x offsets
    by (inl e) = rw (eq-eqb x none e) (sym (subst (λ (y : ℕ). times y offsets ≡ 0) (sym e) all))
    by (inr n) = rw (ne_eqb x none n) refl

-- the cells whose offsets were put in are new
pub record ArePlaced (none : ℕ) (old now : Heap) (sizes offsets : List ℕ) : Type 0 where
  pub count : (x : ℕ) → allocated now x ≡ allocated old x + placed none x offsets
  pub same : (x : ℕ) → placed none x offsets ≡ 0 → now x ≡ old x
  pub zeros : (place : ℕ) → place < length sizes → get_or offsets place 0 ≢ none →
      now (get_or offsets place 0) ≡ Some (replicate (get_or sizes place 0 - 4) 0)

are_placed-start : (none : ℕ) (heap : Heap) (sizes : List ℕ) → ArePlaced none heap heap sizes (replicate (length sizes) none)
are_placed-start none heap sizes = record {
  count = λ x. (let e = placed-start none x (length sizes) in omega (arith, e));
  same = λ x e. refl;
  zeros = λ place h differs. absurd (differs (get_or_default (replicate (length sizes) none) place 0 none (simp length-replicate h) ∙ replicate-at none (length sizes) place));
}

are_placed-more : (none : ℕ) (old now next : Heap) (sizes offsets : List ℕ) (place offset : ℕ) → ArePlaced none old now sizes offsets →
    length offsets ≡ length sizes → place < length sizes → get_or offsets place 0 ≡ none → offset ≢ none →
    AreNew now next (offset ∷ []) (get_or sizes place 0 ∷ []) → ArePlaced none old next sizes (set offsets place offset)
are_placed-more none old now next sizes offsets place offset v long h left differs new = record { count = count; same = same; zeros = zeros }
  where
    step : (x : ℕ) → placed none x (set offsets place offset) ≡ placed none x offsets + cond (eqb offset x) 1 0
    step x = placed-set none x offsets place offset (omega (arith, h, long)) left differs

    count : (x : ℕ) → allocated next x ≡ allocated old x + placed none x (set offsets place offset)
    count x = (let s = step x in let c = new.come.count x in let was = v.count x in omega (arith, s, c, was))

    same : (x : ℕ) → placed none x (set offsets place offset) ≡ 0 → next x ≡ old x
    same x e = (let s = step x in new.come.same x refl (omega (arith, s, e)) ∙ v.same x (omega (arith, s, e)))

    here : next offset ≡ Some (replicate (get_or sizes place 0 - 4) 0)
    here = new.zeros 0 (omega arith)

    -- a cell that was put in before is another one
    other : (x : ℕ) (bytes : List ℕ) → now x ≡ Some bytes → times x (offset ∷ []) ≡ 0
    other x bytes e =
        let one : allocated now x ≡ 1 = ap (λ v. cond (is_some v) 1 0) e in
        let c = new.come.count x in
        omega (arith, one, c, most (is_some (next x)))

    zeros : (q : ℕ) → q < length sizes → get_or (set offsets place offset) q 0 ≢ none →
        next (get_or (set offsets place offset) q 0) ≡ Some (replicate (get_or sizes q 0 - 4) 0)
    zeros q l n = by (cases_eq q place)
      where
        by : (q ≡ place) ⊎ (q ≢ place) → next (get_or (set offsets place offset) q 0) ≡ Some (replicate (get_or sizes q 0 - 4) 0)
        by (inl e) = rw (e, get_or-set_same offsets place offset 0 (omega (arith, h, long))) here
        by (inr d) =
            let at = get_or-set_other offsets place q offset 0 d in
            let was = v.zeros q l (λ e. n (at ∙ e)) in
            rw at (new.come.same (get_or offsets q 0) refl (other (get_or offsets q 0) _ was) ∙ was)

are_placed-all : (none : ℕ) (old now : Heap) (sizes offsets : List ℕ) → ArePlaced none old now sizes offsets → length offsets ≡ length sizes →
    times none offsets ≡ 0 → AreNew old now offsets sizes
are_placed-all none old now sizes offsets v long all = record {
  as_many = long;
  come = record {
    count = λ x. (let c = v.count x in let p = placed-all none x offsets all in omega (arith, c, p));
    same = λ x gone came. v.same x (placed-all none x offsets all ∙ came);
  };
  zeros = λ place h. v.zeros place h (not-at none offsets place all (omega (arith, h, long)));
}

-- ---- the loop

-- after some turns: the cells at these places are carved, in this order, and all other places are marked
pub record IsCarved (none : ℕ) (old now sizes offsets turn : List ℕ) : Type 0 where
  pub long : length offsets ≡ length sizes
  pub once : (place : ℕ) → times place turn ≡ cond (eqb (get_or offsets place none) none) 0 1
  pub falls : AreFalling sizes turn
  pub later : (place : ℕ) → place < length sizes → get_or offsets place 0 ≡ none → AllByRecursion (λ p. IsCarvedBefore sizes p place) turn
  pub carves : EachExactly old now (at_places sizes turn) (at_places offsets turn)
  pub cells : ArePlaced none (cell_at old) (cell_at now) sizes offsets
  pub longest : length now + fresh_left none sizes offsets ≤ length old + fresh_of sizes
  pub kept : length old ≤ length now

pub carved-start : (none : ℕ) (old sizes : List ℕ) → IsCarved none old old sizes (replicate (length sizes) none) []
carved-start none old sizes = record {
  long = length-replicate _ _;
  once = λ place. rw (replicate-at none (length sizes) place, eq-eqb none none refl) refl;
  falls = tt;
  later = λ place h e. tt;
  carves = refl;
  cells = are_placed-start none (cell_at old) sizes;
  longest = (let all = fresh_left-all none sizes in omega (arith, all));
  kept = omega arith;
}

pub carved-more : (none : ℕ) (old now next sizes offsets turn : List ℕ) (place offset : ℕ) → IsCarved none old now sizes offsets turn →
    IsNext none sizes offsets place → AreSizes sizes → offset ≢ none → CarvesExactly now next (get_or sizes place 0 ∷ []) (offset ∷ []) →
    IsCarved none old next sizes (set offsets place offset) (turn ++ place ∷ [])
carved-more none old now next sizes offsets turn place offset v n good differs one = record {
  long = length-set offsets place offset ∙ v.long;
  once = once;
  falls = falling-more sizes turn place v.falls (v.later place n.within n.left);
  later = later;
  carves = carves;
  cells = are_placed-more none (cell_at old) (cell_at now) (cell_at next) sizes offsets place offset v.cells v.long n.within n.left differs added;
  longest = omega (arith, longer.1, v.longest, left);
  kept = omega (arith, longer.0, v.kept);
}
  where
    there : place < length offsets
    there = omega (arith, n.within, v.long)

    added : AreNew (cell_at now) (cell_at next) (offset ∷ []) (get_or sizes place 0 ∷ [])
    added = one-added now next (get_or sizes place 0) offset
        (all-place (λ (size : ℕ). (0 < size) × (size % 8 ≡ 0)) sizes place good n.within, tt) one

    longer : (length now ≤ length next) × (length next ≤ length now + fresh_bin (get_or sizes place 0))
    longer = one-longer now next (get_or sizes place 0) offset one

    left : fresh_left none sizes (set offsets place offset) + fresh_bin (get_or sizes place 0) ≡ fresh_left none sizes offsets
    left = fresh_left-set none sizes offsets place offset v.long n.within n.left differs

    new-here : times place turn ≡ 0
    new-here = (let marked : get_or offsets place none ≡ none = get_or_default offsets place none 0 there ∙ n.left in
        v.once place ∙ ap (λ (b : Bool). cond b 0 1) (eq-eqb (get_or offsets place none) none marked))

    once : (q : ℕ) → times q (turn ++ place ∷ []) ≡ cond (eqb (get_or (set offsets place offset) q none) none) 0 1
    once q = by (cases_eq q place)
      where
        by : (q ≡ place) ⊎ (q ≢ place) → times q (turn ++ place ∷ []) ≡ cond (eqb (get_or (set offsets place offset) q none) none) 0 1
        by (inl e) =
            let count = times-append place turn (place ∷ []) in
            let here = one-if place place refl in
            rw (e, get_or-set_same offsets place offset none there, ne_eqb offset none differs) (omega (arith, count, here, new-here))
        by (inr d) =
            let count = times-append q turn (place ∷ []) in
            let here = none-if place q (λ e. d (sym e)) in
            let was = v.once q in
            rw (get_or-set_other offsets place q offset none d) (omega (arith, count, here, was))

    later : (q : ℕ) → q < length sizes → get_or (set offsets place offset) q 0 ≡ none →
        AllByRecursion (λ p. IsCarvedBefore sizes p q) (turn ++ place ∷ [])
    later q l e = all-append (λ p. IsCarvedBefore sizes p q) turn (place ∷ []) (v.later q l was) (by (n.first q l was), tt)
      where
        apart : q ≢ place
        apart same = differs (sym (get_or-set_same offsets place offset 0 there) ∙ subst (λ (k : ℕ). get_or (set offsets place offset) k 0 ≡ none) same e)

        was : get_or offsets q 0 ≡ none
        was = sym (get_or-set_other offsets place q offset 0 apart) ∙ e

        by : (q ≡ place) ⊎ IsCarvedBefore sizes place q → IsCarvedBefore sizes place q
        by (inl same) = absurd (apart same)
        by (inr before) = before

    carves : EachExactly old next (at_places sizes (turn ++ place ∷ [])) (at_places (set offsets place offset) (turn ++ place ∷ []))
    carves =
        let sizes-are = map-append (λ (p : ℕ). get_or sizes p 0) turn (place ∷ []) in
        let offsets-are = map-append (λ (p : ℕ). get_or (set offsets place offset) p 0) turn (place ∷ []) in
        rw (sizes-are, offsets-are, at_places-set offsets place offset turn new-here, get_or-set_same offsets place offset 0 there)
        (each-more old now next (get_or sizes place 0) offset (at_places sizes turn) (at_places offsets turn) v.carves one)

-- the size that comes next, as `largest_left` finds it in what stands behind a front
pub next-is : (none : ℕ) (sizes slice items out offsets : List ℕ) (from place : ℕ) → slice ≡ items → items ≡ out ++ offsets → from ≡ length out →
    place < length sizes → get_or (take (length slice - from) (drop from slice)) place 0 ≡ none →
    ((q : ℕ) → q < length sizes → get_or (take (length slice - from) (drop from slice)) q 0 ≡ none → (q ≡ place) ⊎ IsCarvedBefore sizes place q) →
    IsNext none sizes offsets place
next-is none sizes slice items out offsets from place e1 e2 e3 within left first =
    let rest = behind-is slice items out offsets from e1 e2 e3 in
    record {
      within = within;
      left = subst (λ (l : List ℕ). get_or l place 0 ≡ none) rest left;
      first = λ q l e. first q l (subst (λ (l : List ℕ). get_or l q 0 ≡ none) (sym rest) e);
    }

-- a bin for it has room
pub next-room : (none : ℕ) (old now sizes offsets turn : List ℕ) (place : ℕ) → IsCarved none old now sizes offsets turn → IsNext none sizes offsets place →
    length now + fresh_bin (get_or sizes place 0) ≤ length old + fresh_of sizes
next-room none old now sizes offsets turn place v n =
    let room = fresh_left-room none sizes offsets place v.long n.within n.left in
    omega (arith, v.longest, room)

-- after all turns
pub carved-all : (none : ℕ) (old now sizes offsets turn : List ℕ) → IsCarved none old now sizes offsets turn → times none offsets ≡ 0 →
    EachFalling old now sizes offsets × AreNew (cell_at old) (cell_at now) offsets sizes
carved-all none old now sizes offsets turn v all = (
  record { turn = turn; each_once = once; falls = v.falls; as_many = v.long; carves = v.carves },
  are_placed-all none (cell_at old) (cell_at now) sizes offsets v.cells v.long all,
)
  where
    once : (place : ℕ) → times place turn ≡ cond (ltb place (length sizes)) 1 0
    once place = by (cases_lt place (length sizes))
      where
        by : (place < length sizes) ⊎ (length sizes ≤ place) → times place turn ≡ cond (ltb place (length sizes)) 1 0
        by (inl l) =
            let there : place < length offsets = omega (arith, l, v.long) in
            let some : get_or offsets place none ≢ none = λ e. not-at none offsets place all there (get_or_default offsets place 0 none there ∙ e) in
            let was = v.once place in
            rw (lt-ltb place (length sizes) l) (was ∙ ap (λ (b : Bool). cond b 0 1) (ne_eqb (get_or offsets place none) none some))
        by (inr l) =
            let past : get_or offsets place none ≡ none = get_or_past offsets place none (omega (arith, l, v.long)) in
            let was = v.once place in
            rw (le-ltb place (length sizes) l) (was ∙ ap (λ (b : Bool). cond b 0 1) (eq-eqb (get_or offsets place none) none past))

-- no cell's offset is the mark
pub not-none : (old new : List ℕ) (lists : FreeLists) (size offset : ℕ) → IsIndexed new lists → (0 < size) × (size % 8 ≡ 0) →
    CarvesExactly old new (size ∷ []) (offset ∷ []) → offset ≢ NONE
not-none old new lists size offset indexed good one same =
    let added = one-added old new size offset (good, tt) one in
    let some : is_some (cell_at new offset) ≡ true = ap is_some (added.zeros 0 (omega arith)) in
    let f = found new offset indexed.arena some in
    let small = indexed.arena.small in
    absurd (omega (arith, f.within, f.eight, small, same))
