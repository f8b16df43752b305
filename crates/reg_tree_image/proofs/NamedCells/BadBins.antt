-- The bad header or the bad size that foreign bins have.
use Rattle.std.proofs.Common.{◌≡◌, ℕ, zero, suc, ◌+◌, ◌%◌, ◌<◌, ◌≤◌, ◌==◌, Bool, true, false, is_some, Option, Some, None, List, ◌∷◌, length, refl}
use Rattle.std.proofs.Common.{sym, ap, ◌∙◌, subst, arith}
use Rattle.std.specs.Option.{option_map}
use Rattle.std.proofs.lemmas.Bool.Decides.{nat_tests}
use Rattle.std.proofs.lemmas.Option.{same_Some}
use Rattle.reg_heap.specs.ByteWords.{word}
use Rattle.reg_arena.specs.declared.Cell.{Cell}
use Rattle.reg_arena.specs.Cells.{BinPlace, size_in, is_allocated_in, cells_from, bins_from, bins_of}
use Rattle.reg_tree_image.specs.Internal.CellScans.{is_header_in, is_size_in}
use Rattle.reg_tree_image.specs.FaultPlaces.{headers_end, sizes_end, bad_bin, bad_cell}
use Rattle.reg_tree_image.proofs.NamedCells.BinScans.{good-header, places-of, first-of, none-left}

-- ---- headers

-- the headers up to here are good
pub record IsHeaded (bins : List ℕ) (at : ℕ) : Type 0 where
  pub steps : ℕ
  pub enough : length bins < at + steps
  pub rest : bad_bin bins ≡ headers_end steps bins at
  pub page : at % 4096 ≡ 0
  pub within : at ≤ length bins

pub none-headed : (bins : List ℕ) → IsHeaded bins 0
none-headed bins = record { steps = suc (length bins); enough = omega arith; rest = refl; page = refl; within = omega arith }

pub page-behind : (bins : List ℕ) (at : ℕ) → length bins % 4096 ≡ 0 → IsHeaded bins at → at < length bins → at + 4096 ≤ length bins
page-behind bins at p g l = let q = g.page in omega (arith, p, q, l)

pub more-headed : (bins : List ℕ) (at : ℕ) → IsHeaded bins at → at < length bins → is_header_in bins at ≡ true → IsHeaded bins (at + word bins (at + 8))
more-headed bins at g l h = by g.steps g.enough g.rest
  where
    by : (steps : ℕ) → length bins < at + steps → bad_bin bins ≡ headers_end steps bins at → IsHeaded bins (at + word bins (at + 8))
    by zero e r = absurd (omega (arith, e, l))
    by (suc steps) e r =
        let k = good-header bins at h in
        record {
          steps = steps;
          enough = (let s = k.some in omega (arith, e, s));
          rest = r ∙ rw h refl;
          page = (let p = k.pages in let q = g.page in omega (arith, p, q));
          within = k.within;
        }

pub bad-found : (bins : List ℕ) (at : ℕ) → IsHeaded bins at → at < length bins → is_header_in bins at ≡ false → at ≡ bad_bin bins
bad-found bins at g l h = by g.steps g.enough g.rest
  where
    by : (steps : ℕ) → length bins < at + steps → bad_bin bins ≡ headers_end steps bins at → at ≡ bad_bin bins
    by zero e r = absurd (omega (arith, e, l))
    by (suc steps) e r = let q : headers_end (suc steps) bins at ≡ at = rw h refl in sym (r ∙ q)

-- behind the last one none stands
pub none-bad : (bins : List ℕ) (at : ℕ) → IsHeaded bins at → length bins ≤ at → at ≡ bad_bin bins
none-bad bins at g l = by g.steps g.enough g.rest
  where
    not-there : (b : Bool) → is_header_in bins at ≡ b → is_header_in bins at ≡ false
    not-there true h = let k = good-header bins at h in absurd (let s = k.some in let w = k.within in omega (arith, s, w, l))
    not-there false h = h

    by : (steps : ℕ) → length bins < at + steps → bad_bin bins ≡ headers_end steps bins at → at ≡ bad_bin bins
    by zero e r = let w = g.within in absurd (omega (arith, e, w))
    by (suc steps) e r =
        let h : is_header_in bins at ≡ false = not-there (is_header_in bins at) refl in
        let q : headers_end (suc steps) bins at ≡ at = rw h refl in sym (r ∙ q)

-- ---- sizes

-- the sizes from one place up to here are good
pub record IsSized (bins : List ℕ) (from at stop : ℕ) : Type 0 where
  pub rest : (steps : ℕ) → stop < from + steps → (fewer : ℕ) × (stop < at + fewer) × (sizes_end steps bins from stop ≡ sizes_end fewer bins at stop)
  pub eight : at % 8 ≡ 0
  pub within : at ≤ stop

pub none-sized : (bins : List ℕ) (from stop : ℕ) → from % 8 ≡ 0 → from ≤ stop → IsSized bins from from stop
none-sized bins from stop e l = record { rest = λ steps m. (steps, m, refl); eight = e; within = l }

-- eight bytes at least are left
pub room-left : (bins : List ℕ) (from at stop : ℕ) → IsSized bins from at stop → stop % 8 ≡ 0 → at < stop → at + 8 ≤ stop
room-left bins from at stop g e l = let q = g.eight in omega (arith, q, e, l)

-- what a good size says
pub record IsGoodSize (size at stop : ℕ) : Type 0 where
  pub some : 0 < size
  pub eights : size % 8 ≡ 0
  pub within : at + size ≤ stop

good-size : (size at stop : ℕ) → is_size_in size at stop ≡ true → IsGoodSize size at stop
good-size size at stop e = record { some = grind (arith, nat_tests); eights = grind (arith, nat_tests); within = grind (arith, nat_tests) }

pub more-sized : (bins : List ℕ) (from at stop : ℕ) → IsSized bins from at stop → at < stop → is_size_in (size_in (word bins at)) at stop ≡ true →
    IsSized bins from (at + size_in (word bins at)) stop
more-sized bins from at stop g l h =
    let k = good-size (size_in (word bins at)) at stop h in
    record {
      rest = λ steps m. let r = g.rest steps m in by r.0 r.1 r.2;
      eight = (let a = g.eight in let b = k.eights in omega (arith, a, b));
      within = k.within;
    }
  where
    by : {n : ℕ} (fewer : ℕ) → stop < at + fewer → n ≡ sizes_end fewer bins at stop →
        (less : ℕ) × (stop < at + size_in (word bins at) + less) × (n ≡ sizes_end less bins (at + size_in (word bins at)) stop)
    by zero m r = absurd (omega (arith, m, l))
    by (suc fewer) m r =
        let k = good-size (size_in (word bins at)) at stop h in
        (fewer, (let s = k.some in omega (arith, m, s)), r ∙ rw h refl)

pub size-found : (bins : List ℕ) (from at stop : ℕ) → IsSized bins from at stop → at ≤ stop → is_size_in (size_in (word bins at)) at stop ≡ false →
    (steps : ℕ) → stop < from + steps → at ≡ sizes_end steps bins from stop
size-found bins from at stop g l h steps m = let r = g.rest steps m in by r.0 r.1 r.2
  where
    by : {n : ℕ} (fewer : ℕ) → stop < at + fewer → n ≡ sizes_end fewer bins at stop → at ≡ n
    by zero m r = absurd (omega (arith, m, l))
    by (suc fewer) m r = let q : sizes_end (suc fewer) bins at stop ≡ at = rw h refl in sym (r ∙ q)

-- no size is good at the end
at-stop : (size at stop : ℕ) → stop ≤ at → is_size_in size at stop ≡ false
at-stop size at stop l = grind (arith, nat_tests)

pub none-found : (bins : List ℕ) (from at stop : ℕ) → IsSized bins from at stop → stop ≤ at →
    (steps : ℕ) → stop < from + steps → at ≡ sizes_end steps bins from stop
none-found bins from at stop g l steps m =
    let w = g.within in
    size-found bins from at stop g w (at-stop (size_in (word bins at)) at stop l) steps m

-- ---- cells

mapped : {A B : Type 0} (f : A → B) (o : Option A) → is_some (option_map f o) ≡ is_some o
mapped f None = refl
mapped f (Some x) = refl

equal : (a b : ℕ) → a ≡ b → (a == b) ≡ true
equal a b e = grind (arith, nat_tests)

unequal : (a b : ℕ) → (a ≡ b → ⊥) → (a == b) ≡ false
unequal a b n = grind (arith, nat_tests)

-- the cells of a bin fill it just where the good sizes end with it
pub filled : (steps : ℕ) (bins : List ℕ) (at stop : ℕ) → stop < at + steps →
    is_some (cells_from steps bins at stop) ≡ (sizes_end steps bins at stop == stop)
filled zero bins at stop m = sym (unequal at stop (λ e. absurd (omega (arith, m, e))))
filled (suc steps) bins at stop m =
    by (at == stop) (is_size_in (size_in (word bins at)) at stop) refl refl (λ s. filled steps bins (at + size_in (word bins at)) stop (omega (arith, m, s)))
  where
    its : List Cell → List Cell
    its cells = record { offset = at; size = size_in (word bins at); allocated = is_allocated_in (word bins at) } ∷ cells

    by : (b c : Bool) → (at == stop) ≡ b → is_size_in (size_in (word bins at)) at stop ≡ c →
        (0 < size_in (word bins at) → is_some (cells_from steps bins (at + size_in (word bins at)) stop)
        ≡ (sizes_end steps bins (at + size_in (word bins at)) stop == stop)) →
        is_some (cells_from (suc steps) bins at stop) ≡ (sizes_end (suc steps) bins at stop == stop)
    by true true e h more =
        let k = good-size (size_in (word bins at)) at stop h in
        let same : at ≡ stop = grind (arith, nat_tests) in
        absurd (let s = k.some in let w = k.within in omega (arith, s, w, same))
    by true false e h more = rw (e, h) (sym e)
    by false true e h more =
        let k = good-size (size_in (word bins at)) at stop h in
        rw (e, h) (mapped its (cells_from steps bins (at + size_in (word bins at)) stop) ∙ more k.some)
    by false false e h more = rw (e, h) (sym e)

-- ---- bins

-- no size is bad in the bins up to here
pub record IsFilled (bins : List ℕ) (at : ℕ) : Type 0 where
  pub steps : ℕ
  pub back : List BinPlace
  pub back_are : bins_from steps bins at ≡ Some back
  pub same : (places : List BinPlace) → bins_of bins ≡ Some places → bad_cell bins places ≡ bad_cell bins back
  pub page : at % 4096 ≡ 0
  pub within : at ≤ length bins

pub none-filled : (bins : List ℕ) → is_some (bins_of bins) ≡ true → IsFilled bins 0
none-filled bins e =
    let p = places-of bins e in
    record {
      steps = suc (length bins);
      back = p.0;
      back_are = p.1;
      same = λ places q. ap (bad_cell bins) (same_Some _ _ (sym q ∙ p.1));
      page = refl;
      within = omega arith;
    }

-- what is known of the bin that begins here
pub record IsBin (bins : List ℕ) (at : ℕ) : Type 0 where
  pub page : at + 4096 ≤ length bins
  pub some : 0 < word bins (at + 8)
  pub pages : word bins (at + 8) % 4096 ≡ 0
  pub within : at + word bins (at + 8) ≤ length bins
  pub eight : at % 8 ≡ 0

pub bin-there : (bins : List ℕ) (at : ℕ) → length bins % 4096 ≡ 0 → IsFilled bins at → at < length bins → IsBin bins at
bin-there bins at p g l =
    let n = first-of bins g.steps at g.back l g.back_are in
    record {
      page = (let q = g.page in omega (arith, p, q, l));
      some = n.good.some;
      pages = n.good.pages;
      within = n.good.within;
      eight = (let q = g.page in omega (arith, q));
    }

module _ (bins : List ℕ) (at : ℕ) (g : IsFilled bins at) (l : at < length bins) where
  abbrev size : ℕ
  size = word bins (at + 8)

  abbrev end : ℕ
  end = sizes_end (suc size) bins (at + 32) (at + size)

  its-cells : is_some (cells_from (suc size) bins (at + 32) (at + size)) ≡ (end == (at + size))
  its-cells = filled (suc size) bins (at + 32) (at + size) (omega arith)

  module _ (n last : ℕ) (s : n ≡ word bins (at + 8)) (f : last ≡ sizes_end (suc n) bins (at + 32) (at + n)) where
    last-is : last ≡ end
    last-is = subst (λ n. last ≡ sizes_end (suc n) bins (at + 32) (at + n)) s f

    pub more-filled : at + n ≤ last → last ≤ at + n → IsFilled bins (at + n)
    more-filled e w =
        let k = first-of bins g.steps at g.back l g.back_are in
        let same : end ≡ at + size = let o = last-is in omega (arith, o, e, w, s) in
        let b : is_some (cells_from (suc size) bins (at + 32) (at + size)) ≡ true = its-cells ∙ equal end (at + size) same in
        subst (λ n. IsFilled bins (at + n)) (sym s) (record {
          steps = k.fewer;
          back = k.rest;
          back_are = k.rest_is;
          same = λ places q. g.same places q ∙ (ap (bad_cell bins) k.back_is ∙ rw b refl);
          page = (let q = g.page in let p = k.good.pages in omega (arith, p, q));
          within = k.good.within;
        })

    pub bad-in : last < at + n → (places : List BinPlace) → bins_of bins ≡ Some places → Some last ≡ bad_cell bins places
    bad-in e places q =
        let k = first-of bins g.steps at g.back l g.back_are in
        let b : is_some (cells_from (suc size) bins (at + 32) (at + size)) ≡ false =
        its-cells ∙ unequal end (at + size) (λ x. let o = last-is in absurd (omega (arith, o, e, x, s))) in
        ap Some last-is ∙ sym (g.same places q ∙ (ap (bad_cell bins) k.back_is ∙ rw b refl))

pub all-filled : (bins : List ℕ) (at : ℕ) → IsFilled bins at → length bins ≤ at → (places : List BinPlace) → bins_of bins ≡ Some places →
    None ≡ bad_cell bins places
all-filled bins at g l places q =
    let w = g.within in
    let e : at ≡ length bins = omega (arith, l, w) in
    sym (g.same places q ∙ ap (bad_cell bins) (none-left bins g.steps at g.back e g.back_are))
