-- Headers of bins, one after the other.
use Rattle.std.proofs.Common.{◌≡◌, ℕ, zero, suc, ◌+◌, ◌%◌, ◌<◌, ◌≤◌, ◌==◌, ◌&&◌, nat_le, nat_lt, Bool, true, false, is_some, Option, Some, None, List, [], ◌∷◌, length, refl}
use Rattle.std.proofs.Common.{sym, ap, ◌∙◌, arith}
use Rattle.std.specs.Option.{option_map}
use Rattle.std.proofs.lemmas.Bool.{false≢true, eqb-true}
use Rattle.std.proofs.lemmas.Bool.Decides.{nat_tests}
use Rattle.std.proofs.lemmas.Option.{none-some, same_Some}
use Rattle.reg_heap.specs.ByteWords.{word}
use Rattle.reg_arena.specs.Cells.{BinPlace, bins_from, bins_of}
use Rattle.reg_tree_image.specs.Internal.CellScans.{is_header_in}

-- what a good header says
pub record IsGood (bins : List ℕ) (at : ℕ) : Type 0 where
  pub some : 0 < word bins (at + 8)
  pub pages : word bins (at + 8) % 4096 ≡ 0
  pub within : at + word bins (at + 8) ≤ length bins

all-five : (a b c d e : Bool) → (a && b && c && d && e) ≡ true → (c ≡ true) × (d ≡ true) × (e ≡ true)
all-five true true true true true p = (refl, refl, refl)
all-five true true true true false p = absurd (false≢true p)
all-five true true true false e p = absurd (false≢true p)
all-five true true false d e p = absurd (false≢true p)
all-five true false c d e p = absurd (false≢true p)
all-five false b c d e p = absurd (false≢true p)

less-is : (a b : ℕ) → nat_lt a b ≡ true → a < b
less-is a b e = grind (arith, nat_tests)

most-is : (a b : ℕ) → nat_le a b ≡ true → a ≤ b
most-is a b e = grind (arith, nat_tests)

pub good-header : (bins : List ℕ) (at : ℕ) → is_header_in bins at ≡ true → IsGood bins at
good-header bins at e =
    let p = all-five (word bins at == 1852400232) (word bins (at + 4) == at) (nat_lt 0 (word bins (at + 8))) (word bins (at + 8) % 4096 == 0) (nat_le (at + word bins (at + 8)) (length bins)) e in
    record { some = less-is 0 (word bins (at + 8)) p.0; pages = eqb-true _ _ p.1; within = most-is (at + word bins (at + 8)) (length bins) p.2 }

-- one step of the bins' list
abbrev pub place_at : List ℕ → ℕ → BinPlace
place_at bins at = record { start = at; size = word bins (at + 8) }

at-end : (at : ℕ) (bins : List ℕ) (steps : ℕ) → at ≡ length bins → bins_from (suc steps) bins at ≡ Some []
at-end at bins steps e = let b : (at == length bins) ≡ true = equal at (length bins) e in rw b refl
  where
    equal : (a b : ℕ) → a ≡ b → (a == b) ≡ true
    equal a b e = grind (arith, nat_tests)

before-end : (at : ℕ) (bins : List ℕ) → at < length bins → (at == length bins) ≡ false
before-end at bins l = less at (length bins) l
  where
    less : (a b : ℕ) → a < b → (a == b) ≡ false
    less a b l = grind (arith, nat_tests)

pub next-bin : (at : ℕ) (bins : List ℕ) (steps : ℕ) → at < length bins → is_header_in bins at ≡ true →
    bins_from (suc steps) bins at ≡ option_map (λ rest. place_at bins at ∷ rest) (bins_from steps bins (at + word bins (at + 8)))
next-bin at bins steps l h = let b = before-end at bins l in rw (b, h) refl

no-bin : (at : ℕ) (bins : List ℕ) (steps : ℕ) → at < length bins → is_header_in bins at ≡ false → bins_from (suc steps) bins at ≡ None
no-bin at bins steps l h = let b = before-end at bins l in rw (b, h) refl

-- ---- all headers

-- the headers up to here are good
pub record AreGood (bins : List ℕ) (at : ℕ) : Type 0 where
  pub steps : ℕ
  pub enough : length bins < at + steps
  pub rest : is_some (bins_of bins) ≡ is_some (bins_from steps bins at)
  pub page : at % 4096 ≡ 0
  pub within : at ≤ length bins

pub none-good : (bins : List ℕ) → AreGood bins 0
none-good bins = record { steps = suc (length bins); enough = omega arith; rest = refl; page = refl; within = omega arith }

-- a whole page is left
pub page-left : (bins : List ℕ) (at : ℕ) → length bins % 4096 ≡ 0 → AreGood bins at → at < length bins → at + 4096 ≤ length bins
page-left bins at p g l = let q = g.page in omega (arith, p, q, l)

mapped : {A B : Type 0} (f : A → B) (o : Option A) → is_some (option_map f o) ≡ is_some o
mapped f None = refl
mapped f (Some x) = refl

pub more-good : (bins : List ℕ) (at : ℕ) → AreGood bins at → at < length bins → is_header_in bins at ≡ true → AreGood bins (at + word bins (at + 8))
more-good bins at g l h = by g.steps g.enough g.rest
  where
    by : (steps : ℕ) → length bins < at + steps → is_some (bins_of bins) ≡ is_some (bins_from steps bins at) → AreGood bins (at + word bins (at + 8))
    by zero e r = absurd (omega (arith, e, l))
    by (suc steps) e r =
        let k = good-header bins at h in
        record {
          steps = steps;
          enough = (let s = k.some in omega (arith, e, s));
          rest = r ∙ (ap is_some (next-bin at bins steps l h) ∙ mapped (λ rest. place_at bins at ∷ rest) (bins_from steps bins (at + word bins (at + 8))));
          page = (let p = k.pages in let q = g.page in omega (arith, p, q));
          within = k.within;
        }

pub not-good : (bins : List ℕ) (at : ℕ) → AreGood bins at → at < length bins → is_header_in bins at ≡ false → false ≡ is_some (bins_of bins)
not-good bins at g l h = by g.steps g.enough g.rest
  where
    by : (steps : ℕ) → length bins < at + steps → is_some (bins_of bins) ≡ is_some (bins_from steps bins at) → false ≡ is_some (bins_of bins)
    by zero e r = absurd (omega (arith, e, l))
    by (suc steps) e r = sym (r ∙ ap is_some (no-bin at bins steps l h))

pub all-good : (bins : List ℕ) (at : ℕ) → AreGood bins at → length bins ≤ at → true ≡ is_some (bins_of bins)
all-good bins at g l = by g.steps g.enough g.rest
  where
    by : (steps : ℕ) → length bins < at + steps → is_some (bins_of bins) ≡ is_some (bins_from steps bins at) → true ≡ is_some (bins_of bins)
    by zero e r = let w = g.within in absurd (omega (arith, e, w))
    by (suc steps) e r = let w = g.within in sym (r ∙ ap is_some (at-end at bins steps (omega (arith, l, w))))

-- ---- the bins, known to be good

pub places-of : (bins : List ℕ) → is_some (bins_of bins) ≡ true → (places : List BinPlace) × (bins_of bins ≡ Some places)
places-of bins e = by (bins_of bins) refl e
  where
    by : (o : Option (List BinPlace)) → bins_of bins ≡ o → is_some o ≡ true → (places : List BinPlace) × (bins_of bins ≡ Some places)
    by None p e = absurd (false≢true e)
    by (Some places) p e = (places, p)

pub no-places : (bins : List ℕ) → false ≡ is_some (bins_of bins) → bins_of bins ≡ None
no-places bins e = by (bins_of bins) refl e
  where
    by : (o : Option (List BinPlace)) → bins_of bins ≡ o → false ≡ is_some o → bins_of bins ≡ None
    by None p e = p
    by (Some places) p e = absurd (false≢true e)

-- the first of those that are left
pub record IsNext (bins : List ℕ) (steps at : ℕ) (back : List BinPlace) : Type 0 where
  pub good : IsGood bins at
  pub rest : List BinPlace
  pub fewer : ℕ
  pub steps_are : steps ≡ suc fewer
  pub back_is : back ≡ place_at bins at ∷ rest
  pub rest_is : bins_from fewer bins (at + word bins (at + 8)) ≡ Some rest

pub first-of : (bins : List ℕ) (steps at : ℕ) (back : List BinPlace) → at < length bins → bins_from steps bins at ≡ Some back → IsNext bins steps at back
first-of bins zero at back l e = absurd (none-some _ e)
first-of bins (suc steps) at back l e = by (is_header_in bins at) refl
  where
    rest-of : (o : Option (List BinPlace)) → bins_from steps bins (at + word bins (at + 8)) ≡ o → option_map (λ rest. place_at bins at ∷ rest) o ≡ Some back → is_header_in bins at ≡ true →
        IsNext bins (suc steps) at back
    rest-of None p e h = absurd (none-some _ e)
    rest-of (Some rest) p e h = record { good = good-header bins at h; rest = rest; fewer = steps; steps_are = refl; back_is = sym (same_Some _ _ e); rest_is = p }

    by : (b : Bool) → is_header_in bins at ≡ b → IsNext bins (suc steps) at back
    by true h = rest-of (bins_from steps bins (at + word bins (at + 8))) refl (sym (next-bin at bins steps l h) ∙ e) h
    by false h = absurd (none-some _ (sym (no-bin at bins steps l h) ∙ e))

pub none-left : (bins : List ℕ) (steps at : ℕ) (back : List BinPlace) → at ≡ length bins → bins_from steps bins at ≡ Some back → back ≡ []
none-left bins zero at back l e = absurd (none-some _ e)
none-left bins (suc steps) at back l e = sym (same_Some _ _ (sym (at-end at bins steps l) ∙ e))
