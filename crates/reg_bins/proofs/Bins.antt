-- Where a byte of bins in a row lies, and what a change of its bin makes of the row.
use Rattle.std.proofs.Common.{◌≡◌, ℕ, zero, suc, ◌+◌, ◌-◌, ◌*◌, ◌/◌, ◌%◌, ◌<◌, ◌≤◌, inl, inr, List, [], ◌∷◌, ◌++◌, length, get_or, set, take, drop, refl, sym, ap, ◌∙◌, subst, arith, append_assoc, length-append, length-drop, length-take-le}
use Rattle.std.proofs.lemmas.Bool.{cases_lt}
use Rattle.std.proofs.lemmas.Bool.Decides.{nat_tests}
use Rattle.std.proofs.lemmas.List.{get_or_at, get_or-set_other, set_at, set-get_or, set-set, append-nil}
use Rattle.reg_heap.specs.ByteWords.{splice}
use Rattle.reg_bins.specs.declared.row.Page.{Page}
use Rattle.reg_bins.specs.Rows.{end_from, IsInPart}
use Rattle.reg_bins.specs.Internal.{bytes_of, size_of, sizes_of, ArePlaced, AreWithin, IsPut, IsBin}
use Rattle.reg_bins.proofs.BinBytes.{take-middle, splice-middle, length-splice}

-- ---- sizes

size-some : (bytes : List ℕ) → 0 < length bytes → size_of bytes ≡ length bytes ∷ []
size-some [] h = absurd (omega arith)
size-some (byte ∷ bytes) h = refl

size-same : (old new : List ℕ) → length new ≡ length old → size_of new ≡ size_of old
size-same [] [] e = refl
size-same [] (b ∷ new) e = absurd (omega (arith, e))
size-same (a ∷ old) [] e = absurd (omega (arith, e))
size-same (a ∷ old) (b ∷ new) e = ap (λ n. n ∷ []) e

sizes-first : (page : Page) (pages : List Page) → 0 < length page.bytes.items → sizes_of (page ∷ pages) ≡ length page.bytes.items ∷ sizes_of pages
sizes-first page pages some = ap (λ sizes. sizes ++ sizes_of pages) (size-some page.bytes.items some)

sizes-next : (page : Page) (pages : List Page) → page.bytes.items ≡ [] → sizes_of (page ∷ pages) ≡ sizes_of pages
sizes-next page pages none = rw none refl

bytes-next : (page : Page) (pages : List Page) → page.bytes.items ≡ [] → bytes_of (page ∷ pages) ≡ bytes_of pages
bytes-next page pages none = rw none refl

pub sizes-same : (before : List Page) (old new : Page) (behind : List Page) → length new.bytes.items ≡ length old.bytes.items
    → sizes_of (before ++ new ∷ behind) ≡ sizes_of (before ++ old ∷ behind)
sizes-same [] old new behind e = ap (λ sizes. sizes ++ sizes_of behind) (size-same old.bytes.items new.bytes.items e)
sizes-same (first ∷ before) old new behind e = ap (λ sizes. size_of first.bytes.items ++ sizes) (sizes-same before old new behind e)

-- the bytes, with one page between those before it and those behind it
pub bytes-split : (before : List Page) (page : Page) (behind : List Page) → bytes_of (before ++ page ∷ behind) ≡ bytes_of before ++ (page.bytes.items ++ bytes_of behind)
bytes-split [] page behind = refl
bytes-split (first ∷ before) page behind =
    ap (λ bytes. first.bytes.items ++ bytes) (bytes-split before page behind)
    ∙ sym (append_assoc first.bytes.items (bytes_of before) (page.bytes.items ++ bytes_of behind))

-- there is a page for each 4096 bytes
pub pages-long : (at start left : ℕ) (pages : List Page) → ArePlaced at start left pages → length pages * 4096 ≡ left * 4096 + length (bytes_of pages)
pages-long at start left [] p = omega (arith, p)
pages-long at start zero (page ∷ pages) (s, some, whole, rest) =
    let n = pages-long (at + 4096) at (length page.bytes.items / 4096 - 1) pages rest in
    omega (arith, n, length-append page.bytes.items (bytes_of pages))
pages-long at start (suc left) (page ∷ pages) (s, none, rest) =
    let n = pages-long (at + 4096) start left pages rest in
    let l = ap length (bytes-next page pages none) in
    omega (arith, n, l)

-- ---- where the bins end

abbrev total_of : List ℕ → ℕ
total_of [] = 0
total_of (size ∷ sizes) = size + total_of sizes

total-size : (bytes : List ℕ) (sizes : List ℕ) → total_of (size_of bytes ++ sizes) ≡ length bytes + total_of sizes
total-size [] sizes = omega arith
total-size (byte ∷ bytes) sizes = omega arith

total-sizes : (pages : List Page) → total_of (sizes_of pages) ≡ length (bytes_of pages)
total-sizes [] = refl
total-sizes (page ∷ pages) = total-size page.bytes.items (sizes_of pages) ∙ ap (λ n. length page.bytes.items + n) (total-sizes pages) ∙ sym (length-append page.bytes.items (bytes_of pages))

end-here : (start size : ℕ) (sizes : List ℕ) (at : ℕ) → at < start + size → end_from start (size ∷ sizes) at ≡ start + size
end-here start size sizes at h = grind (arith, nat_tests)

end-behind : (start size : ℕ) (sizes : List ℕ) (at : ℕ) → start + size ≤ at → end_from start (size ∷ sizes) at ≡ end_from (start + size) sizes at
end-behind start size sizes at h = grind (arith, nat_tests)

end-within : (start : ℕ) (sizes : List ℕ) (at : ℕ) → at < end_from start sizes at → at < start + total_of sizes
end-within start [] at h = absurd (omega arith)
end-within start (size ∷ sizes) at h =
    elim (cases_lt at (start + size)) [
      | inl l ↦ omega arith
      | inr l ↦
          let e = end-behind start size sizes at l in
          let n : at < start + size + total_of sizes = end-within (start + size) sizes at (omega (arith, e, h)) in
          omega (arith, n)
    ]

-- a byte that lies in a bin is one of them
pub end-in : (pages : List Page) (at : ℕ) → at < end_from 0 (sizes_of pages) at → at < length (bytes_of pages)
end-in pages at h = let n = end-within 0 (sizes_of pages) at h in omega (arith, n, total-sizes pages)

-- ---- the bin of a byte

-- what the page of a byte of the bin says that is being gone through
record IsNext (pages : List Page) (start number : ℕ) : Type 0 where
  within : number < length pages
  begins : (other : Page) → (get_or pages number other).start ≡ start
  none : (other : Page) → (get_or pages number other).bytes.items ≡ []

next : (at start left : ℕ) (pages : List Page) → ArePlaced at start left pages → (number : ℕ) → number < left → IsNext pages start number
next at start left [] p number h = absurd (omega (arith, p))
next at start zero (page ∷ pages) p number h = absurd (omega arith)
next at start (suc left) (page ∷ pages) (s, none, rest) zero h = record { within = omega arith; begins = λ other. s; none = λ other. none }
next at start (suc left) (page ∷ pages) (s, none, rest) (suc number) h =
    let n = next (at + 4096) start left pages rest number (omega (arith, h)) in
    record { within = omega (arith, n.within); begins = λ other. n.begins other; none = λ other. n.none other }

-- the bin in which a byte lies of these pages, which are those from a place on: the pages before its first page, those behind it, and
-- what the byte's own page says of it
record Found (from start left : ℕ) (pages : List Page) (at : ℕ) : Type 0 where
  within : (at - from) / 4096 < length pages
  before : List Page
  page : Page
  behind : List Page
  split : pages ≡ before ++ page ∷ behind
  named : (other : Page) → (get_or pages ((at - from) / 4096) other).start ≡ page.start
  own : (other : Page) → 0 < length (get_or pages ((at - from) / 4096) other).bytes.items → (at - from) / 4096 ≡ length before
  place : from + 4096 * length before ≡ page.start
  begins : from + 4096 * left + length (bytes_of before) ≡ page.start
  low : page.start ≤ at
  high : at < page.start + length page.bytes.items
  ends : end_from (from + 4096 * left) (sizes_of pages) at ≡ page.start + length page.bytes.items
  -- a bin in its place and as long takes its place
  placed : (q : Page) → q.start ≡ page.start → length q.bytes.items ≡ length page.bytes.items → ArePlaced from start left (before ++ q ∷ behind)

-- by its number
found-next : (from start left : ℕ) (page : Page) (pages : List Page) (at left' start' : ℕ) (f : Found (from + 4096) start' left' pages at)
    → from + 4096 ≤ at
    → from + 4096 * left + length page.bytes.items ≡ from + 4096 + 4096 * left'
    → end_from (from + 4096 * left) (sizes_of (page ∷ pages)) at ≡ end_from (from + 4096 + 4096 * left') (sizes_of pages) at
    → ((rest : List Page) → ArePlaced (from + 4096) start' left' rest → ArePlaced from start left (page ∷ rest))
    → Found from start left (page ∷ pages) at
found-next from start left page pages at left' start' f h long ends placed =
    let index : (at - from) / 4096 ≡ suc ((at - (from + 4096)) / 4096) = omega arith in
    record {
      within = omega (arith, index, f.within);
      before = page ∷ f.before;
      page = f.page;
      behind = f.behind;
      split = ap (λ ps. page ∷ ps) f.split;
      named = λ other. ap (λ n. (get_or (page ∷ pages) n other).start) index ∙ f.named other;
      own = λ other some. index ∙ ap suc (f.own other (subst (λ n. 0 < length (get_or (page ∷ pages) n other).bytes.items) index some));
      place = omega (arith, f.place);
      begins = omega (arith, f.begins, long, length-append page.bytes.items (bytes_of f.before));
      low = f.low;
      high = f.high;
      ends = ends ∙ f.ends;
      placed = λ q s l. placed (f.before ++ q ∷ f.behind) (f.placed q s l);
    }

-- in the first bin
found-here : (from start : ℕ) (page : Page) (pages : List Page) (at : ℕ) → page.start ≡ from → 0 < length page.bytes.items → length page.bytes.items % 4096 ≡ 0
    → ArePlaced (from + 4096) from (length page.bytes.items / 4096 - 1) pages → from ≤ at → at < from + length page.bytes.items → Found from start 0 (page ∷ pages) at
found-here from start page pages at s some whole rest l h = record {
  within = (elim (cases_lt at (from + 4096)) [
    | inl first ↦ omega arith
    | inr later ↦ let n = following later in let index = index-of later in omega (arith, n.within, index)
  ]);
  before = [];
  page = page;
  behind = pages;
  split = refl;
  named = λ other. (elim (cases_lt at (from + 4096)) [
    | inl first ↦ ap (λ n. (get_or (page ∷ pages) n other).start) (none-of first)
    | inr later ↦ ap (λ n. (get_or (page ∷ pages) n other).start) (index-of later) ∙ (following later).begins other ∙ sym s
  ]);
  own = λ other own. (elim (cases_lt at (from + 4096)) [
    | inl first ↦ none-of first
    | inr later ↦
        let none = ap (λ n. length (get_or (page ∷ pages) n other).bytes.items) (index-of later) ∙ ap length ((following later).none other) in
        absurd (omega (arith, own, none))
  ]);
  place = omega (arith, s);
  begins = omega (arith, s);
  low = omega (arith, s, l);
  high = omega (arith, s, h);
  ends =
      ap (λ sizes. end_from (from + 4096 * 0) sizes at) (sizes-first page pages some)
      ∙ end-here (from + 4096 * 0) (length page.bytes.items) (sizes_of pages) at (omega (arith, h)) ∙ omega (arith, s);
  placed = λ q a b. (a ∙ s, omega (arith, b, some), rw b whole, subst (λ n. ArePlaced (from + 4096) from (n / 4096 - 1) pages) (sym b) rest);
}
  where
    none-of : at < from + 4096 → (at - from) / 4096 ≡ 0
    none-of first = omega arith

    index-of : from + 4096 ≤ at → (at - from) / 4096 ≡ suc ((at - (from + 4096)) / 4096)
    index-of later = omega arith

    following : from + 4096 ≤ at → IsNext pages from ((at - (from + 4096)) / 4096)
    following later = next (from + 4096) from (length page.bytes.items / 4096 - 1) pages rest ((at - (from + 4096)) / 4096) (omega (arith, h, whole, later))

find : (from start left : ℕ) (pages : List Page) (at : ℕ) → ArePlaced from start left pages → from + 4096 * left ≤ at
    → at < from + 4096 * left + length (bytes_of pages) → Found from start left pages at
find from start left [] at p l h = absurd (omega (arith, l, h))
find from start zero (page ∷ pages) at (s, some, whole, rest) l h =
    elim (cases_lt at (from + length page.bytes.items)) [
      | inl here ↦ found-here from start page pages at s some whole rest (omega (arith, l)) here
      | inr later ↦
          let left : ℕ = length page.bytes.items / 4096 - 1 in
          let long : from + 4096 * 0 + length page.bytes.items ≡ from + 4096 + 4096 * left = omega (arith, some, whole) in
          found-next from start 0 page pages at left from
          (find (from + 4096) from left pages at rest (omega (arith, later, long)) (omega (arith, h, long, length-append page.bytes.items (bytes_of pages))))
          (omega (arith, later, some, whole))
          long
          (ap (λ sizes. end_from (from + 4096 * 0) sizes at) (sizes-first page pages some)
          ∙ end-behind (from + 4096 * 0) (length page.bytes.items) (sizes_of pages) at (omega (arith, later)) ∙ ap (λ n. end_from n (sizes_of pages) at) long)
          (λ ps placed. (s, some, whole, placed))
    ]
find from start (suc left) (page ∷ pages) at (s, none, rest) l h =
    let long : from + 4096 * suc left + length page.bytes.items ≡ from + 4096 + 4096 * left = omega (arith, ap length none) in
    let same : from + 4096 * suc left ≡ from + 4096 + 4096 * left = omega arith in
    found-next from start (suc left) page pages at left start
    (find (from + 4096) start left pages at rest (omega (arith, l)) (omega (arith, h, ap length (bytes-next page pages none))))
    (omega (arith, l))
    long
    (ap (λ sizes. end_from (from + 4096 * suc left) sizes at) (sizes-next page pages none) ∙ ap (λ n. end_from n (sizes_of pages) at) same)
    (λ ps placed. (s, none, placed))

bin-of : (before : List Page) (page : Page) (behind : List Page) (at : ℕ)
    → page.start ≡ length (bytes_of before) → page.start ≤ at → at < page.start + length page.bytes.items
    → end_from 0 (sizes_of (before ++ page ∷ behind)) at ≡ page.start + length page.bytes.items
    → ((q : Page) → q.start ≡ page.start → length q.bytes.items ≡ length page.bytes.items → ArePlaced 0 0 0 (before ++ q ∷ behind))
    → IsBin (before ++ page ∷ behind) at (length before) page
bin-of before page behind at begins from to ends placed =
    let split = bytes-split before page behind in
    let within : page.start + length page.bytes.items ≤ length (bytes_of (before ++ page ∷ behind)) =
    omega (arith, begins, ap length split, length-append (bytes_of before) (page.bytes.items ++ bytes_of behind), length-append page.bytes.items (bytes_of behind)) in
    record {
      from = from;
      to = to;
      ends = ends;
      within = within;
      read = λ n l.
          ap (λ k. take n (drop (at - k) page.bytes.items)) begins
          ∙ sym (take-middle (bytes_of before) page.bytes.items (bytes_of behind) at n (omega (arith, begins, from)) (omega (arith, begins, l)))
          ∙ ap (λ bytes. take n (drop at bytes)) (sym split);
      put = λ piece new l s e.
          let long : length new.bytes.items ≡ length page.bytes.items = ap length e ∙ length-splice (at - page.start) piece page.bytes.items l in
          let made : bytes_of (before ++ new ∷ behind) ≡ splice at piece (bytes_of (before ++ page ∷ behind)) =
          bytes-split before new behind
          ∙ ap (λ bytes. bytes_of before ++ (bytes ++ bytes_of behind)) (e ∙ ap (λ k. splice (at - k) piece page.bytes.items) begins)
          ∙ splice-middle (bytes_of before) page.bytes.items (bytes_of behind) piece at (omega (arith, begins, from)) (omega (arith, begins, l))
          ∙ ap (splice at piece) (sym split) in
          subst (IsPut (before ++ page ∷ behind) at piece) (sym (set_at before page behind new (length before) refl))
          record {
            placed = placed new s long;
            sizes = sizes-same before page new behind long;
            bytes = made;
            long = ap length made ∙ length-splice at piece (bytes_of (before ++ page ∷ behind)) (omega (arith, l, from, within));
          };
    }

module _ (pages : List Page) (placed : ArePlaced 0 0 0 pages) (at : ℕ) (inside : at < length (bytes_of pages)) where
  found : Found 0 0 0 pages at
  found = find 0 0 0 pages at placed (omega arith) (omega (arith, inside))

  index : (at - 0) / 4096 ≡ at / 4096
  index = omega arith

  -- the byte's page, and the first one of its bin
  pub in-pages : at / 4096 < length pages
  in-pages = let f = found in omega (arith, f.within)

  bin-at : (number : ℕ) → number ≡ length found.before → (bin : Page) → bin ≡ get_or pages number bin → IsBin pages at number bin
  bin-at number here bin e =
      let f = found in
      let same : bin ≡ f.page = e ∙ ap (λ ps. get_or ps number bin) f.split ∙ get_or_at f.before f.page f.behind bin number (sym here) in
      subst (λ ps. IsBin ps at number bin) (sym f.split)
      (subst (λ k. IsBin (f.before ++ f.page ∷ f.behind) at k bin) (sym here)
      (subst (IsBin (f.before ++ f.page ∷ f.behind) at (length f.before)) (sym same)
      (bin-of f.before f.page f.behind at (omega (arith, f.begins)) f.low f.high (ap (λ ps. end_from 0 (sizes_of ps) at) (sym f.split) ∙ f.ends) f.placed)))

  module _ (page : Page) (read : page ≡ get_or pages (at / 4096) page) where
    first : page.start / 4096 ≡ length found.before
    first =
        let f = found in
        let named : page.start ≡ f.page.start = ap (λ (p : Page). p.start) read ∙ ap (λ n. (get_or pages n page).start) (sym index) ∙ f.named page in
        omega (arith, named, f.place)

    pub first-in : page.start / 4096 < length pages
    first-in =
        let f = found in
        let long : length pages ≡ length f.before + suc (length f.behind) = ap length f.split ∙ length-append f.before (f.page ∷ f.behind) in
        omega (arith, first, long)

    pub first-bin : (bin : Page) → bin ≡ get_or pages (page.start / 4096) bin → IsBin pages at (page.start / 4096) bin
    first-bin = bin-at (page.start / 4096) first

    pub own-bin : 0 < length page.bytes.items → IsBin pages at (at / 4096) page
    own-bin some =
        let f = found in
        let there = subst (λ n. 0 < length (get_or pages n page).bytes.items) (sym index) (subst (λ (p : Page). 0 < length p.bytes.items) read some) in
        bin-at (at / 4096) (sym index ∙ f.own page there) page read

-- the bytes from there on to the bin's end
pub rest-read : (pages : List Page) (at number : ℕ) (bin : Page) (bytes : List ℕ) → IsBin pages at number bin → bytes ≡ bin.bytes.items
    → take (length bytes - (at - bin.start)) (drop (at - bin.start) bytes) ≡ take (end_from 0 (sizes_of pages) at - at) (drop at (bytes_of pages))
rest-read pages at number bin bytes b e =
    rw e (b.read (length bin.bytes.items - (at - bin.start)) (omega (arith, b.from, b.to)) ∙ ap (λ n. take n (drop at (bytes_of pages))) (omega (arith, b.from, b.to, b.ends)))

-- a bin put back as it was
pub set-same : (pages : List Page) (number : ℕ) (page : Page) → page ≡ get_or pages number page → set pages number page ≡ pages
set-same pages number page e = ap (set pages number) e ∙ set-get_or pages number page

-- the same in the pages as the struct has them
pub bin-there : {pages there : List Page} {at number : ℕ} → there ≡ pages → ((bin : Page) → bin ≡ get_or there number bin → IsBin there at number bin)
    → (bin : Page) → bin ≡ get_or pages number bin → IsBin pages at number bin
bin-there {at = at} {number = number} e all = subst (λ ps. (bin : Page) → bin ≡ get_or ps number bin → IsBin ps at number bin) e all

-- ---- some bytes that lie in one bin

pub is-inside : (pages : List Page) (at len : ℕ) → IsInPart (sizes_of pages) at len → 0 < len → at < length (bytes_of pages)
is-inside pages at len one some = let l : at + len ≤ end_from 0 (sizes_of pages) at = one some in end-in pages at (omega (arith, l, some))

-- they fit in it
pub piece-fits : (pages : List Page) (at len number : ℕ) (bin : Page) → IsInPart (sizes_of pages) at len → 0 < len → IsBin pages at number bin
    → at - bin.start + len ≤ length bin.bytes.items
piece-fits pages at len number bin one some b = let l : at + len ≤ end_from 0 (sizes_of pages) at = one some in omega (arith, b.from, b.ends, l)

pub piece-long : (pages : List Page) (at len number : ℕ) (bin : Page) → IsBin pages at number bin → at - bin.start + len ≤ length bin.bytes.items
    → length (take len (drop (at - bin.start) bin.bytes.items)) ≡ len
piece-long pages at len number bin b fits = length-take-le len (drop (at - bin.start) bin.bytes.items) (rw length-drop (omega (arith, fits)))

-- bytes of a bin written over others of it, and over those of another bin, which was taken out for it
pub moved : (pages : List Page) (from to len number : ℕ) (bin new : Page) → IsBin pages from number bin → from - bin.start + len ≤ length bin.bytes.items
    → IsBin pages to number bin → to - bin.start + len ≤ length bin.bytes.items
    → new.start ≡ bin.start → new.bytes.items ≡ splice (to - bin.start) (take len (drop (from - bin.start) bin.bytes.items)) bin.bytes.items
    → IsPut pages to (take len (drop from (bytes_of pages))) (set pages number new)
moved pages from to len number bin new f fits t room s w =
    let long = ap length (sym (f.read len fits)) ∙ piece-long pages from len number bin f fits in
    t.put (take len (drop from (bytes_of pages))) new
    (omega (arith, long, room))
    s (w ∙ ap (λ bytes. splice (to - bin.start) bytes bin.bytes.items) (f.read len fits))

pub still-there : (pages : List Page) (other number : ℕ) (mid page : Page) → (number ≡ other → ⊥) → page ≡ get_or (set pages other mid) number page → page ≡ get_or pages number page
still-there pages other number mid page n e = e ∙ get_or-set_other pages other number mid page n

pub copied : (pages : List Page) (from to len source target : ℕ) (bin here : Page) → IsBin pages from source bin → from - bin.start + len ≤ length bin.bytes.items
    → IsBin pages to target here → to - here.start + len ≤ length here.bytes.items
    → (piece : List ℕ) (mid old new : Page) → piece ≡ take len (drop (from - bin.start) bin.bytes.items) → old ≡ here
    → new.start ≡ old.start → new.bytes.items ≡ splice (to - old.start) piece old.bytes.items
    → IsPut pages to (take len (drop from (bytes_of pages))) (set (set pages target mid) target new)
copied pages from to len source target bin here f fits t room piece mid old new p o s w =
    let long = ap length (sym (f.read len fits)) ∙ piece-long pages from len source bin f fits in
    subst (IsPut pages to (take len (drop from (bytes_of pages)))) (sym (set-set pages target mid new))
    (t.put (take len (drop from (bytes_of pages))) new
    (omega (arith, long, room))
    (s ∙ ap (λ (q : Page). q.start) o)
    (w ∙ ap (λ (q : Page). splice (to - q.start) piece q.bytes.items) o ∙ ap (λ bytes. splice (to - here.start) bytes here.bytes.items) (p ∙ f.read len fits)))

-- ---- one bin more, at the end

pub within-more : (start more : ℕ) (pages : List Page) (page : Page) → AreWithin start more pages → page.start ≡ start → page.bytes.items ≡ []
    → AreWithin start (more + 1) (pages ++ page ∷ [])
within-more start zero [] page w s none = (s, none, tt)
within-more start zero (front ∷ pages) page w s none = absurd w
within-more start (suc more) [] page w s none = absurd w
within-more start (suc more) (front ∷ pages) page w s none =
    let e : suc more + 1 ≡ suc (more + 1) = omega arith in
    subst (λ n. AreWithin start n (front ∷ (pages ++ page ∷ []))) (sym e) (w.0, w.1, within-more start more pages page w.2 s none)

within-placed : (at start more : ℕ) (pages : List Page) → AreWithin start more pages → ArePlaced at start more pages
within-placed at start zero [] w = refl
within-placed at start zero (front ∷ pages) w = absurd w
within-placed at start (suc more) [] w = absurd w
within-placed at start (suc more) (front ∷ pages) w = (w.0, w.1, within-placed (at + 4096) start more pages w.2)

within-none : (start more : ℕ) (pages : List Page) → AreWithin start more pages → bytes_of pages ≡ []
within-none start zero [] w = refl
within-none start zero (front ∷ pages) w = absurd w
within-none start (suc more) [] w = absurd w
within-none start (suc more) (front ∷ pages) w = bytes-next front pages w.1 ∙ within-none start more pages w.2

within-sizes : (start more : ℕ) (pages : List Page) → AreWithin start more pages → sizes_of pages ≡ []
within-sizes start zero [] w = refl
within-sizes start zero (front ∷ pages) w = absurd w
within-sizes start (suc more) [] w = absurd w
within-sizes start (suc more) (front ∷ pages) w = sizes-next front pages w.1 ∙ within-sizes start more pages w.2

placed-more : (at start left : ℕ) (pages : List Page) (page : Page) (rest : List Page) → ArePlaced at start left pages → page.start ≡ at + 4096 * length pages
    → 0 < length page.bytes.items → length page.bytes.items % 4096 ≡ 0 → AreWithin page.start (length page.bytes.items / 4096 - 1) rest
    → ArePlaced at start left (pages ++ page ∷ rest)
placed-more at start zero [] page rest p s some whole w =
    let here : page.start ≡ at = omega (arith, s) in
    (here, some, whole, subst (λ n. ArePlaced (at + 4096) n (length page.bytes.items / 4096 - 1) rest) here (within-placed (at + 4096) page.start (length page.bytes.items / 4096 - 1) rest w))
placed-more at start (suc left) [] page rest p s some whole w = absurd (omega (arith, p))
placed-more at start zero (front ∷ pages) page rest (a, b, c, d) s some whole w =
    (a, b, c, placed-more (at + 4096) at (length front.bytes.items / 4096 - 1) pages page rest d (omega (arith, s)) some whole w)
placed-more at start (suc left) (front ∷ pages) page rest (a, b, c) s some whole w =
    (a, b, placed-more (at + 4096) start left pages page rest c (omega (arith, s)) some whole w)

bytes-more : (pages : List Page) (page : Page) (rest : List Page) (start more : ℕ) → AreWithin start more rest → bytes_of (pages ++ page ∷ rest) ≡ bytes_of pages ++ page.bytes.items
bytes-more pages page rest start more w =
    bytes-split pages page rest ∙ ap (λ bytes. bytes_of pages ++ (page.bytes.items ++ bytes)) (within-none start more rest w) ∙ ap (λ bytes. bytes_of pages ++ bytes) (append-nil page.bytes.items)

sizes-more : (pages : List Page) (page : Page) (rest : List Page) (start more : ℕ) → 0 < length page.bytes.items → AreWithin start more rest
    → sizes_of (pages ++ page ∷ rest) ≡ sizes_of pages ++ length page.bytes.items ∷ []
sizes-more [] page rest start more some w = sizes-first page rest some ∙ ap (λ sizes. length page.bytes.items ∷ sizes) (within-sizes start more rest w)
sizes-more (front ∷ pages) page rest start more some w =
    ap (λ sizes. size_of front.bytes.items ++ sizes) (sizes-more pages page rest start more some w)
    ∙ sym (append_assoc (size_of front.bytes.items) (sizes_of pages) (length page.bytes.items ∷ []))

-- a bin at the end, with its pages
pub record IsPushed (old : List Page) (bytes : List ℕ) (pages : List Page) : Type 0 where
  pub placed : ArePlaced 0 0 0 pages
  pub items : bytes_of pages ≡ bytes_of old ++ bytes
  pub sizes : sizes_of pages ≡ sizes_of old ++ length bytes ∷ []

pub pushed : (old : List Page) → ArePlaced 0 0 0 old → (page : Page) (more : ℕ) (mid new rest : List Page)
    → page.start ≡ length (bytes_of old) → 0 < length page.bytes.items → length page.bytes.items % 4096 ≡ 0 → more ≡ length page.bytes.items / 4096 - 1
    → mid ≡ old ++ page ∷ [] → new ≡ mid ++ rest → AreWithin page.start more rest → IsPushed old page.bytes.items new
pushed old placed page more mid new rest s some whole m a b w =
    let all : new ≡ old ++ page ∷ rest = b ∙ ap (λ ps. ps ++ rest) a ∙ append_assoc old (page ∷ []) rest in
    let n = pages-long 0 0 0 old placed in
    subst (IsPushed old page.bytes.items) (sym all) record {
      placed = placed-more 0 0 0 old page rest placed (omega (arith, s, n)) some whole (subst (λ k. AreWithin page.start k rest) m w);
      items = bytes-more old page rest page.start more w;
      sizes = sizes-more old page rest page.start more some w;
    }
