-- Numbers in a row, each page of 512 of them apart.
use Rattle.std.proofs.Common.{◌≡◌, ℕ, zero, suc, ◌+◌, ◌-◌, ◌*◌, ◌/◌, ◌<◌, ◌≤◌, List, [], ◌∷◌, ◌++◌, length, get_or, set, take, replicate, refl, sym, ap, ◌∙◌, arith, length-append, append_assoc}
use Rattle.std.proofs.lemmas.List.{get_or_append_left, get_or-append_right, set-append_left, set-append_right, append-nil}
use Rattle.std.proofs.Math.Seq.{take-nil}
use Rattle.reg_bins.specs.declared.tables.PageTable.{PageTable}
use Rattle.reg_bins.specs.Internal.{numbers_of, AreWhole}

-- pages have 512 numbers each
pub length-pages : (pages : List PageTable) → AreWhole pages → length (numbers_of pages) ≡ 512 * length pages
length-pages [] h = refl
length-pages (p ∷ ps) h =
    let rest = length-pages ps h.1 in
    length-append p.numbers.items (numbers_of ps) ∙ omega (arith, h.0, rest)

-- the page of a place
pub page_of : (pages : List PageTable) (place : ℕ) → AreWhole pages → place < length (numbers_of pages) → place / 512 < length pages
page_of pages place h l = omega (arith, length-pages pages h)

-- each page that is named is whole
pub whole-at : (pages : List PageTable) (q : ℕ) (page : PageTable) → AreWhole pages → q < length pages → page ≡ get_or pages q page → length page.numbers.items ≡ 512
whole-at [] q page h l e = absurd (omega arith)
whole-at (p ∷ ps) zero page h l e = ap (λ (x : PageTable). length x.numbers.items) e ∙ h.0
whole-at (p ∷ ps) (suc q) page h l e = whole-at ps q page h.1 (omega arith) e

-- a number's place in its page
pub number-at : (pages : List PageTable) (place q r : ℕ) (page : PageTable) → AreWhole pages → place ≡ 512 * q + r → r < 512 → q < length pages →
    page ≡ get_or pages q page → get_or (numbers_of pages) place 0 ≡ get_or page.numbers.items r 0
number-at [] place q r page h e k l is = absurd (omega arith)
number-at (p ∷ ps) place zero r page h e k l is =
    let same : place ≡ r = omega arith in
    get_or_append_left p.numbers.items (numbers_of ps) 0 place (omega (arith, h.0)) ∙ ap (λ n. get_or p.numbers.items n 0) same ∙ ap (λ (x : PageTable). get_or x.numbers.items r 0) (sym is)
number-at (p ∷ ps) place (suc q) r page h e k l is =
    get_or-append_right p.numbers.items (numbers_of ps) 512 place 0 h.0 (omega arith) ∙ number-at ps (place - 512) q r page h.1 (omega arith) k (omega arith) is

-- a number that is set in its page
pub number-set : (pages : List PageTable) (place q r n : ℕ) (page new : PageTable) → AreWhole pages → place ≡ 512 * q + r → r < 512 → q < length pages →
    page ≡ get_or pages q page → new.numbers.items ≡ set page.numbers.items r n → numbers_of (set pages q new) ≡ set (numbers_of pages) place n
number-set [] place q r n page new h e k l is made = absurd (omega arith)
number-set (p ∷ ps) place zero r n page new h e k l is made =
    let same : place ≡ r = omega arith in
    ap (λ xs. xs ++ numbers_of ps) (made ∙ ap (λ (x : PageTable). set x.numbers.items r n) is ∙ ap (λ m. set p.numbers.items m n) (sym same)) ∙
    sym (set-append_left p.numbers.items (numbers_of ps) place n (omega (arith, h.0)))
number-set (p ∷ ps) place (suc q) r n page new h e k l is made =
    ap (λ xs. p.numbers.items ++ xs) (number-set ps (place - 512) q r n page new h.1 (omega arith) k (omega arith) is made) ∙
    sym (set-append_right p.numbers.items (numbers_of ps) 512 place n h.0 (omega arith))

-- a page more at the end
numbers-append : (pages : List PageTable) (page : PageTable) → numbers_of (pages ++ page ∷ []) ≡ numbers_of pages ++ page.numbers.items
numbers-append [] page = append-nil page.numbers.items
numbers-append (p ∷ ps) page = ap (λ xs. p.numbers.items ++ xs) (numbers-append ps page) ∙ sym (append_assoc p.numbers.items (numbers_of ps) page.numbers.items)

-- zeros behind numbers show no more than there was
zeros-at : (n place : ℕ) → ◌≡◌ {A = ℕ} (get_or (replicate n 0) place 0) 0
zeros-at zero place = refl
zeros-at (suc n) zero = refl
zeros-at (suc n) (suc place) = zeros-at n place

same-zeros : (xs : List ℕ) (n place : ℕ) → get_or (xs ++ replicate n 0) place 0 ≡ get_or xs place 0
same-zeros [] n place = zeros-at n place
same-zeros (x ∷ xs) n zero = refl
same-zeros (x ∷ xs) n (suc place) = same-zeros xs n place

-- nothing filled up with zeros is zeros
zeros-only : (n m : ℕ) (xs : List ℕ) → xs ≡ [] → take n xs ++ replicate m 0 ≡ replicate m 0
zeros-only n m [] h = ap (λ ys. ys ++ replicate m 0) (take-nil n)
zeros-only n m (x ∷ xs) h = cc

-- another page of zeros keeps each number
pub same-append : (pages more : List PageTable) (page : PageTable) (n m place : ℕ) (xs : List ℕ) → more ≡ pages ++ page ∷ [] → xs ≡ [] → page.numbers.items ≡ take n xs ++ replicate m 0 →
    get_or (numbers_of more) place 0 ≡ get_or (numbers_of pages) place 0
same-append pages more page n m place xs is none e =
    ap (λ ys. get_or ys place 0) (ap numbers_of is ∙ numbers-append pages page ∙ ap (λ ys. numbers_of pages ++ ys) (e ∙ zeros-only n m xs none)) ∙ same-zeros (numbers_of pages) m place

pub longer-append : (pages more : List PageTable) (page : PageTable) → more ≡ pages ++ page ∷ [] → length (numbers_of pages) ≤ length (numbers_of more)
longer-append pages more page is = rw (is, numbers-append pages page, length-append (numbers_of pages) page.numbers.items) (omega arith)

pub length-more : (pages more : List PageTable) (page : PageTable) → more ≡ pages ++ page ∷ [] → length page.numbers.items ≡ 512 →
    length (numbers_of more) ≡ length (numbers_of pages) + 512
length-more pages more page is long =
    ap (λ (ps : List PageTable). length (numbers_of ps)) is ∙ ap length (numbers-append pages page) ∙ length-append (numbers_of pages) page.numbers.items ∙
    ap (λ (n : ℕ). length (numbers_of pages) + n) long
