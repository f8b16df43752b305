-- The vectors in which the bins stand have the sizes that the headers tell: what lies in one bin lies in one vector.
use Rattle.std.proofs.Common.{◌≡◌, ℕ, ◌+◌, ◌-◌, ◌<◌, ◌≤◌, zero, suc, ◌⊎◌, inl, inr, true, List, [], ◌∷◌, ◌++◌, length, take, drop, get_or, length-take, length-drop}
use Rattle.std.proofs.Common.{refl, sym, ap, ◌∙◌, subst, arith, Option, Some, is_some, append_assoc, add_assoc}
use Rattle.std.specs.Prelude.{Contains, flat_map, map, unwrap_or}
use Rattle.std.proofs.lemmas.Grind.{flat_map-append}
use Rattle.std.proofs.lemmas.List.{append-nil, get_or-take, get_or-drop, map-append}
use Rattle.std.proofs.lemmas.Bool.{cases_lt, lt-ltb, le-ltb}
use Rattle.std.proofs.lemmas.Option.{same_Some}
use Rattle.reg_heap.specs.ByteWords.{word}
use Rattle.reg_bins.specs.Rows.{end_from, IsInPart}
use Rattle.reg_arena.specs.declared.Cell.{Cell}
use Rattle.reg_arena.specs.declared.free_lists.FreeLists.{FreeLists}
use Rattle.reg_arena.specs.Cells.{Bin, BinPlace, AreBins, IsInBin, bins_of, cells_in, cell_at, size_in}
use Rattle.reg_arena.specs.Arena.{IsArena}
use Rattle.reg_arena.specs.Internal.BinParts.{sum_of, IsSplit}
use Rattle.reg_arena.specs.Internal.ListedCells.{LacksCell}
use Rattle.reg_arena.proofs.Tiling.Tilings.{places, bins_of-AreBins}
use Rattle.reg_arena.proofs.Tiling.CellPositions.{stands, looked}
use Rattle.reg_arena.proofs.Tiling.Tilings.{cell_at-AreBins}
use Rattle.reg_arena.proofs.FreeList.FreeSizes.{free_at}
use Rattle.reg_arena.proofs.Contents.ByteSplices.{word-at}
use Rattle.reg_arena.proofs.Contents.CellWrites.{found}
use Rattle.reg_arena.proofs.Contents.CellCopies.{part-of}

-- ---- bins in vectors

-- the bins stand one behind the other, from a place on
abbrev pub AreInRow : ℕ → List BinPlace → Type 0
AreInRow at [] = Unit {0}
AreInRow at (bin ∷ bins) = (bin.start ≡ at) × AreInRow (at + bin.size) bins

pub places-in-row : (bytes : List ℕ) (at : ℕ) (layout : List Bin) → AreBins bytes at layout → AreInRow at (places layout)
places-in-row bytes at [] h = tt
places-in-row bytes at (b ∷ layout) h = (h.0, places-in-row bytes (at + b.size) layout h.3)

-- the bins behind some
row-behind : (at : ℕ) (xs ys : List BinPlace) → AreInRow at (xs ++ ys) → AreInRow (at + sum_of xs) ys
row-behind at [] ys r = let e : at + 0 ≡ at = omega arith in rw e r
row-behind at (x ∷ xs) ys r = rw (← add_assoc at x.size (sum_of xs)) (row-behind (at + x.size) xs ys r.1)

sum-append : (xs ys : List BinPlace) → sum_of (xs ++ ys) ≡ sum_of xs + sum_of ys
sum-append [] ys = omega arith
sum-append (x ∷ xs) ys = let e = sum-append xs ys in omega arith

-- where a bin stands that is one of two rows
data Half (xs ys gs hs : List BinPlace) (b : BinPlace) : Type 0 where
  InFirst : (mid : List BinPlace) → gs ≡ xs ++ b ∷ mid → Half xs ys gs hs b
  InSecond : (mid : List BinPlace) → xs ≡ gs ++ mid → mid ++ b ∷ ys ≡ hs → Half xs ys gs hs b

head-of : {x y : BinPlace} {xs ys : List BinPlace} → x ∷ xs ≡ y ∷ ys → x ≡ y
head-of e = cc (e)

tail-of : {x y : BinPlace} {xs ys : List BinPlace} → x ∷ xs ≡ y ∷ ys → xs ≡ ys
tail-of e = cc (e)

half : (xs ys gs hs : List BinPlace) (b : BinPlace) → xs ++ b ∷ ys ≡ gs ++ hs → Half xs ys gs hs b
half xs ys [] hs b e = InSecond xs refl e
half [] ys (g ∷ gs) hs b e = InFirst gs (ap (λ (p : BinPlace). p ∷ gs) (sym (head-of e)))
half (x ∷ xs) ys (g ∷ gs) hs b e = by (half xs ys gs hs b (tail-of e))
  where
    by : Half xs ys gs hs b → Half (x ∷ xs) ys (g ∷ gs) hs b
    by (InFirst mid f) = InFirst mid (ap (λ (p : BinPlace). p ∷ gs) (sym (head-of e)) ∙ ap (λ (ps : List BinPlace). x ∷ ps) f)
    by (InSecond mid f k) = InSecond mid (ap (λ (p : BinPlace). p ∷ xs) (head-of e) ∙ ap (λ (ps : List BinPlace). g ∷ ps) f) k

-- a byte's vector goes on to the end of its bin, or further
part-reaches : (start : ℕ) (held : List (List BinPlace)) (xs ys : List BinPlace) (b : BinPlace) → xs ++ b ∷ ys ≡ flat_map (λ bins. bins) held →
    AreInRow start (xs ++ b ∷ ys) → (at : ℕ) → b.start ≤ at → at < b.start + b.size → b.start + b.size ≤ end_from start (map sum_of held) at
part-reaches start [] [] ys b e r at l m = absurd (cc (e))
part-reaches start [] (x ∷ xs) ys b e r at l m = absurd (cc (e))
part-reaches start (gs ∷ held) xs ys b e r at l m =
    by (half xs ys gs (flat_map (λ bins. bins) held) b e) (λ mid k rest. part-reaches (start + sum_of gs) held mid ys b k rest at l m)
  where
    place : b.start ≡ start + sum_of xs
    place = (row-behind start xs (b ∷ ys) r).0

    by : Half xs ys gs (flat_map (λ bins. bins) held) b →
        ((mid : List BinPlace) → mid ++ b ∷ ys ≡ flat_map (λ bins. bins) held → AreInRow (start + sum_of gs) (mid ++ b ∷ ys) →
        b.start + b.size ≤ end_from (start + sum_of gs) (map sum_of held) at) → b.start + b.size ≤ end_from start (sum_of gs ∷ map sum_of held) at
    by (InFirst mid f) more =
        let all : sum_of gs ≡ sum_of xs + (b.size + sum_of mid) = ap sum_of f ∙ sum-append xs (b ∷ mid) in
        rw (lt-ltb at (start + sum_of gs) (omega (arith, all, place, m))) (omega (arith, all, place))
    by (InSecond mid f k) more =
        let all : sum_of xs ≡ sum_of gs + sum_of mid = ap sum_of f ∙ sum-append gs mid in
        let same : gs ++ (mid ++ b ∷ ys) ≡ xs ++ b ∷ ys = sym (append_assoc gs mid (b ∷ ys)) ∙ ap (λ (ps : List BinPlace). ps ++ b ∷ ys) (sym f) in
        let rest : AreInRow (start + sum_of gs) (mid ++ b ∷ ys) = row-behind start gs (mid ++ b ∷ ys) (subst (AreInRow start) (sym same) r) in
        rw (le-ltb at (start + sum_of gs) (omega (arith, all, place, l))) (more mid k rest)

-- ---- a bin more

-- what the vectors have are the bins
held-are : (bytes parts : List ℕ) (layout : List Bin) (held : List (List BinPlace)) → AreBins bytes 0 layout → bins_of bytes ≡ Some (flat_map (λ bins. bins) held) →
    places layout ≡ flat_map (λ bins. bins) held
held-are bytes parts layout held h split = same_Some _ _ (sym (bins_of-AreBins bytes layout h) ∙ split)

places-append : (xs ys : List Bin) → places (xs ++ ys) ≡ places xs ++ places ys
places-append [] ys = refl
places-append (x ∷ xs) ys = ap (λ (ps : List BinPlace). record { start = x.start; size = x.size } ∷ ps) (places-append xs ys)

pub split-more : (old new parts : List ℕ) (layout : List Bin) (bin : Bin) → AreBins old 0 layout → IsSplit old parts → bin.start ≡ length old →
    AreBins new 0 (layout ++ bin ∷ []) → IsSplit new (parts ++ bin.size ∷ [])
unfolding IsSplit
split-more old new parts layout bin h split s g =
    let held = split.0 in
    let one : List (List BinPlace) = (record { start = bin.start; size = bin.size } ∷ []) ∷ [] in
    let none : bin.size + 0 ≡ bin.size = omega arith in (
      held ++ one,
      bins_of-AreBins new (layout ++ bin ∷ []) g ∙ ap Some (places-append layout (bin ∷ []) ∙ ap (λ (ps : List BinPlace). ps ++ record { start = bin.start; size = bin.size } ∷ [])
          (held-are old parts layout held h split.1) ∙ sym (flat_map-append (λ bins. bins) held one)),
      map-append sum_of held one ∙ ap (λ (ns : List ℕ). ns ++ (bin.size + 0) ∷ []) split.2 ∙ ap (λ (n : ℕ). parts ++ n ∷ []) none,
    )

-- bins that are taken as they stand, in one vector
pub split-whole : (bytes : List ℕ) (layout : List Bin) → AreBins bytes 0 layout → IsSplit bytes (length bytes ∷ [])
unfolding IsSplit
split-whole bytes layout h =
    let one : List (List BinPlace) = places layout ∷ [] in (
      one,
      bins_of-AreBins bytes layout h ∙ ap Some (sym (append-nil (places layout))),
      ap (λ (n : ℕ). n ∷ []) (let s = all-sum 0 layout h in omega (arith, s)),
    )
  where
    all-sum : (at : ℕ) (bins : List Bin) → AreBins bytes at bins → at + sum_of (places bins) ≡ length bytes
    all-sum at [] k = omega (arith, k)
    all-sum at (b ∷ bins) k = let r = all-sum (at + b.size) bins k.3 in omega (arith, r)

-- ---- what lies in one bin

-- so many bytes in one bin are in one vector
pub bin-part : (bytes parts : List ℕ) (layout ps : List Bin) (b : Bin) (qs : List Bin) → AreBins bytes 0 layout → IsSplit bytes parts → layout ≡ ps ++ b ∷ qs →
    (at len : ℕ) → b.start ≤ at → at + len ≤ b.start + b.size → IsInPart parts at len
unfolding IsSplit
bin-part bytes parts layout ps b qs h split e at len from to some =
    let place : BinPlace = record { start = b.start; size = b.size } in
    let there : places ps ++ place ∷ places qs ≡ places layout = sym (ap places e ∙ places-append ps (b ∷ qs)) in
    let row : AreInRow 0 (places ps ++ place ∷ places qs) = subst (AreInRow 0) (sym there) (places-in-row bytes 0 layout h) in
    let end = part-reaches 0 split.0 (places ps) (places qs) place (there ∙ held-are bytes parts layout split.0 h split.1) row at from (omega (arith, to, some)) in
    let same : end_from 0 (map sum_of split.0) at ≡ end_from 0 parts at = ap (λ (ns : List ℕ). end_from 0 ns at) split.2 in
    omega (arith, end, same, to)

-- so is what one cell has
pub cell-part : (bytes parts : List ℕ) (layout : List Bin) (xs : List Cell) (c : Cell) (ys : List Cell) → AreBins bytes 0 layout → IsSplit bytes parts →
    cells_in layout ≡ xs ++ c ∷ ys → (at len : ℕ) → c.offset ≤ at → at + len ≤ c.offset + c.size → IsInPart parts at len
cell-part bytes parts layout xs c ys h split e at len from to =
    let st = stands bytes layout xs c ys h e in
    let p = st.place in
    bin-part bytes parts layout p.ps p.b p.qs h split p.bins at len (omega (arith, st.header, from)) (omega (arith, st.bin, to))

-- a free cell
pub free-part : (bytes parts : List ℕ) (lists : FreeLists) (cell size : ℕ) → LacksCell bytes lists cell size → IsSplit bytes parts →
    (at len : ℕ) → cell ≤ at → at + len ≤ cell + size → IsInPart parts at len
free-part bytes parts lists cell size l split at len from to =
    let there = l.there in
    let f = free_at (cells_in l.arena.layout) cell (omega (arith, there, l.some)) in
    cell-part bytes parts l.arena.layout f.xs f.c f.ys l.arena.tiled split f.cells_are at len (omega (arith, f.offset_is, from))
    (omega (arith, f.offset_is, f.size_is, there, to))

-- an allocated cell
pub used-part : (bytes parts : List ℕ) (cell : ℕ) (a : IsArena bytes) → is_some (cell_at bytes cell) ≡ true → IsSplit bytes parts →
    (at len : ℕ) → cell ≤ at → at + len ≤ cell + size_in (word bytes cell) → IsInPart parts at len
used-part bytes parts cell a some split at len from to =
    let l = looked bytes (cells_in a.layout) cell (ap is_some (sym (cell_at-AreBins bytes a.layout cell a.tiled)) ∙ some) in
    let st = stands bytes a.layout l.xs l.c l.ys a.tiled l.cells_are in
    let size : size_in (word bytes cell) ≡ l.c.size = ap (λ (k : ℕ). size_in (word bytes k)) (sym l.offset_is) ∙ st.cell.size in
    cell-part bytes parts a.layout l.xs l.c l.ys a.tiled split l.cells_are at len (omega (arith, l.offset_is, from)) (omega (arith, l.offset_is, size, to))

-- a piece of a bin
record StandsIn (layout : List Bin) (b : Bin) : Type 0 where
  ps : List Bin
  qs : List Bin
  layout_is : layout ≡ ps ++ b ∷ qs

stands-in : (layout : List Bin) (b : Bin) → Contains layout b → StandsIn layout b
stands-in [] b h = absurd (omega (arith, h.1))
stands-in (p ∷ layout) b (zero, l, e) = record { ps = []; qs = layout; layout_is = ap (λ (x : Bin). x ∷ layout) e }
stands-in (p ∷ layout) b (suc k, l, e) =
    let r = stands-in layout b (k, omega (arith, l), e) in
    record { ps = p ∷ r.ps; qs = r.qs; layout_is = ap (λ (xs : List Bin). p ∷ xs) r.layout_is }

pub piece-part : (bytes parts : List ℕ) (at len : ℕ) → IsSplit bytes parts → IsInBin bytes at len → IsInPart parts at len
piece-part bytes parts at len split p =
    let s = stands-in p.bins p.bin p.among in
    bin-part bytes parts p.bins s.ps p.bin s.qs p.bins_are split s.layout_is at len p.from p.to

-- ---- a part of a piece

end-by : (start n : ℕ) (parts : List ℕ) (at more : ℕ) → at ≤ more → more < end_from start (n ∷ parts) at →
    (more < end_from (start + n) parts at → end_from (start + n) parts more ≡ end_from (start + n) parts at) → (at < start + n) ⊎ (start + n ≤ at) →
    end_from start (n ∷ parts) more ≡ end_from start (n ∷ parts) at
end-by start n parts at more l m rest (inl less) =
    let here : end_from start (n ∷ parts) at ≡ start + n = rw (lt-ltb at (start + n) less) refl in
    rw (lt-ltb more (start + n) (omega (arith, m, here)), lt-ltb at (start + n) less) refl
end-by start n parts at more l m rest (inr past) =
    let here : end_from start (n ∷ parts) at ≡ end_from (start + n) parts at = rw (le-ltb at (start + n) past) refl in
    rw (le-ltb more (start + n) (omega (arith, past, l)), le-ltb at (start + n) past) (rest (omega (arith, m, here)))

-- where the vector of a byte goes on past another byte, that one lies in it too
pub end-same : (start : ℕ) (parts : List ℕ) (at more : ℕ) → at ≤ more → more < end_from start parts at → end_from start parts more ≡ end_from start parts at
end-same start [] at more l m = absurd (omega (arith, m))
end-same start (n ∷ parts) at more l m = end-by start n parts at more l m (end-same (start + n) parts at more l) (cases_lt at (start + n))

-- a piece of what lies in one vector lies in it
pub in_part-inside : (parts : List ℕ) (at len from n : ℕ) → at ≤ from → from + n ≤ at + len → IsInPart parts at len → IsInPart parts from n
in_part-inside parts at len from n l m part some =
    let end = part (omega (arith, l, m, some)) in
    let same = end-same 0 parts at from l (omega (arith, end, m, some)) in
    omega (arith, same, end, m)

-- ---- what an allocated cell holds

-- a piece of what a cell holds
pub content-part : (bytes parts : List ℕ) (cell at n : ℕ) (a : IsArena bytes) → IsSplit bytes parts → is_some (cell_at bytes cell) ≡ true →
    at + n ≤ length (unwrap_or (cell_at bytes cell) []) → IsInPart parts (cell + 4 + at) n
content-part bytes parts cell at n a split some fits =
    let f = found bytes cell a some in
    let size : ℕ = size_in (word bytes cell) in
    let long : length (unwrap_or (cell_at bytes cell) []) ≡ size - 4 = ap (λ (o : Option (List ℕ)). length (unwrap_or o [])) f.content ∙
    simp (length-take, length-drop) (omega (arith, f.within, f.eight)) in
    used-part bytes parts cell a some split (cell + 4 + at) n (omega arith) (omega (arith, long, fits, f.eight))

-- an allocated cell in the bytes from it to the end of its vector
pub record RestCell (bytes : List ℕ) (cell n : ℕ) : Type 0 where
  pub eight : 8 ≤ size_in (word (take n (drop cell bytes)) 0)
  pub within : size_in (word (take n (drop cell bytes)) 0) ≤ length (take n (drop cell bytes))
  pub content : cell_at bytes cell ≡ Some (take (size_in (word (take n (drop cell bytes)) 0) - 4) (drop 4 (take n (drop cell bytes))))

word-front : (bytes : List ℕ) (at n : ℕ) → 4 ≤ n → word (take n (drop at bytes)) 0 ≡ word bytes at
word-front bytes at n l =
    let same : (k : ℕ) → k < 4 → get_or (take n (drop at bytes)) k 0 ≡ get_or bytes (at + k) 0 = λ k m. get_or-take n (drop at bytes) k 0 (omega arith) ∙ get_or-drop at bytes k 0 in
    let none : at + 0 ≡ at = omega arith in
    rw (word-at (take n (drop at bytes)) 0, word-at bytes at, same 0 (omega arith), same 1 (omega arith), same 2 (omega arith), same 3 (omega arith), none) refl

pub rest-cell : (bytes parts : List ℕ) (cell : ℕ) (a : IsArena bytes) → IsSplit bytes parts → is_some (cell_at bytes cell) ≡ true →
    end_from 0 parts cell ≤ length bytes → RestCell bytes cell (end_from 0 parts cell - cell)
rest-cell bytes parts cell a split some top =
    let f = found bytes cell a some in
    let n : ℕ = end_from 0 parts cell - cell in
    let part = used-part bytes parts cell a some split cell (size_in (word bytes cell)) (omega arith) (omega arith) (omega (arith, f.eight)) in
    let same : word (take n (drop cell bytes)) 0 ≡ word bytes cell = word-front bytes cell n (omega (arith, part, f.eight)) in
    let long : length (take n (drop cell bytes)) ≡ n = simp (length-take, length-drop) (omega (arith, top)) in
    let piece = part-of bytes cell n 4 (size_in (word bytes cell) - 4) (omega (arith, part, f.eight)) (omega (arith, part, f.eight, top)) in
    record {
      eight = rw same f.eight;
      within = rw (same, long) (omega (arith, part));
      content = rw same (f.content ∙ ap Some (sym piece));
    }
