-- What the cells hold, after an edit of some of them.
use Rattle.std.proofs.Common.{◌≡◌, ℕ, ◌+◌, ◌-◌, ◌<◌, ◌≤◌, min, Bool, true, false, cond, ◌⊎◌, inl, inr, List, [], ◌∷◌, ◌++◌, length, get_or, take, drop, refl, sym, ◌∙◌, arith, Some, ◌&&◌}
use Rattle.std.proofs.Common.{eqb, length-take, length-drop}
use Rattle.std.proofs.lemmas.List.{get_or-take, get_or-drop, ext_get_or}
use Rattle.std.specs.List.{AllByRecursion}
use Rattle.reg_heap.specs.ByteWords.{SameOutside}
use Rattle.reg_arena.specs.Carves.{or_else}
use Rattle.reg_arena.specs.declared.Cell.{Cell}
use Rattle.reg_arena.specs.Cells.{Bin, Tiles, AreBins, cells_in, content_in}
use Rattle.reg_arena.proofs.Tiling.Tilings.{IsCell-eight}

pub content_in-append : (bytes : List ℕ) (xs ys : List Cell) (offset : ℕ) → content_in bytes (xs ++ ys) offset ≡ or_else (content_in bytes xs offset) (content_in bytes ys offset)
content_in-append bytes [] ys offset = refl
content_in-append bytes (c ∷ xs) ys offset = content_in-append-by bytes (eqb c.offset offset && c.allocated) c xs ys offset (content_in-append bytes xs ys offset)
  where
    content_in-append-by : (bytes : List ℕ) (b : Bool) (c : Cell) (xs ys : List Cell) (offset : ℕ) →
        content_in bytes (xs ++ ys) offset ≡ or_else (content_in bytes xs offset) (content_in bytes ys offset) →
        cond b (Some (take (c.size - 4) (drop (c.offset + 4) bytes))) (content_in bytes (xs ++ ys) offset) ≡ or_else
        (cond b (Some (take (c.size - 4) (drop (c.offset + 4) bytes))) (content_in bytes xs offset)) (content_in bytes ys offset)
    content_in-append-by bytes true c xs ys offset h = refl
    content_in-append-by bytes false c xs ys offset h = h

-- a piece of two lists that agree there
pub piece-same : (n p : ℕ) (xs ys : List ℕ) → length xs ≡ length ys → ((k : ℕ) → p ≤ k → k < p + n → get_or xs k 0 ≡ get_or ys k 0) → take n (drop p xs) ≡ take n (drop p ys)
piece-same n p xs ys e f =
    ext_get_or 0 (take n (drop p xs)) (take n (drop p ys)) (simp (length-take, length-drop, e) refl)
    (λ k h.
    let below : k < min n (length xs - p) = simp (length-take, length-drop) at h in
    let lt : k < n = omega arith in
    get_or-take n (drop p xs) k 0 lt ∙ get_or-drop p xs k 0 ∙ f (p + k) (omega arith) (omega arith) ∙ sym (get_or-take n (drop p ys) k 0 lt ∙ get_or-drop p ys k 0))

-- a cell lies before lo or from hi on
abbrev pub IsBeside : ℕ → ℕ → Cell → Type 0
IsBeside lo hi c = (8 ≤ c.size) × ((c.offset + c.size ≤ lo) ⊎ (hi ≤ c.offset))

pub piece-beside : {lo hi : ℕ} {old new : List ℕ} → SameOutside lo hi old new → (c : Cell) → IsBeside lo hi c →
    take (c.size - 4) (drop (c.offset + 4) new) ≡ take (c.size - 4) (drop (c.offset + 4) old)
piece-beside {lo = lo} {hi = hi} {old = old} {new = new} s c (e, inl b) = piece-same (c.size - 4) (c.offset + 4) new old s.long (λ k l m. s.below k (omega arith))
piece-beside {lo = lo} {hi = hi} {old = old} {new = new} s c (e, inr b) = piece-same (c.size - 4) (c.offset + 4) new old s.long (λ k l m. s.above k (omega arith))

pub content_in-beside : {lo hi : ℕ} {old new : List ℕ} → SameOutside lo hi old new → (cells : List Cell) (offset : ℕ) →
    AllByRecursion (IsBeside lo hi) cells → content_in new cells offset ≡ content_in old cells offset
content_in-beside s [] offset h = refl
content_in-beside s (c ∷ cells) offset h = rw (piece-beside s c h.0, content_in-beside s cells offset h.1) refl

-- the cells in order
abbrev pub AreOrdered : ℕ → List Cell → Type 0
AreOrdered at [] = Unit {0}
AreOrdered at (c ∷ cs) = (at ≤ c.offset) × (8 ≤ c.size) × AreOrdered (c.offset + c.size) cs

pub AreOrdered-weaker : (at from : ℕ) (cs : List Cell) → from ≤ at → AreOrdered at cs → AreOrdered from cs
AreOrdered-weaker at from [] l h = tt
AreOrdered-weaker at from (c ∷ cs) l h = (omega arith, h.1, h.2)

pub AreOrdered-Tiles : (bytes : List ℕ) (at stop : ℕ) (cs rest : List Cell) → Tiles bytes at stop cs → AreOrdered stop rest → AreOrdered at (cs ++ rest)
AreOrdered-Tiles bytes at stop [] rest h r = AreOrdered-weaker stop at rest (omega arith) r
AreOrdered-Tiles bytes at stop (c ∷ cs) rest h r =
    let e : c.offset + c.size ≡ at + c.size = omega arith in
    (omega arith, IsCell-eight h.1, rw e (AreOrdered-Tiles bytes (at + c.size) stop cs rest h.2 r))

pub AreOrdered-AreBins : (bytes : List ℕ) (at : ℕ) (bs : List Bin) → AreBins bytes at bs → AreOrdered at (cells_in bs)
AreOrdered-AreBins bytes at [] h = tt
AreOrdered-AreBins bytes at (b ∷ bs) h =
    AreOrdered-weaker (at + 32) at _ (omega arith) (AreOrdered-Tiles bytes (at + 32) (at + b.size) b.cells (cells_in bs) h.2 (AreOrdered-AreBins bytes (at + b.size) bs h.3))

pub beside-after : (lo hi at : ℕ) (cs : List Cell) → hi ≤ at → AreOrdered at cs → AllByRecursion (IsBeside lo hi) cs
beside-after lo hi at [] l h = tt
beside-after lo hi at (c ∷ cs) l h = ((h.1, inr (omega arith)), beside-after lo hi (c.offset + c.size) cs (omega arith) h.2)

-- an order's last part
pub AreOrdered-back : (at : ℕ) (xs ys : List Cell) → AreOrdered at (xs ++ ys) → AreOrdered at ys
AreOrdered-back at [] ys h = h
AreOrdered-back at (x ∷ xs) ys h = AreOrdered-weaker _ at ys (omega arith) (AreOrdered-back (x.offset + x.size) xs ys h.2)

-- the cells before a place and after it
pub besides-before : (at lo hi : ℕ) (xs : List Cell) (c : Cell) (ys : List Cell) → lo ≡ c.offset → AreOrdered at (xs ++ c ∷ ys) → AllByRecursion (IsBeside lo hi) xs
besides-before at lo hi [] c ys e h = tt
besides-before at lo hi (x ∷ xs) c ys e h =
    let back = AreOrdered-back (x.offset + x.size) xs (c ∷ ys) h.2 in
    ((h.1, inl (omega arith)), besides-before (x.offset + x.size) lo hi xs c ys e h.2)

pub besides-after : (at lo hi : ℕ) (xs : List Cell) (c : Cell) (ys : List Cell) → hi ≤ c.offset + c.size → AreOrdered at (xs ++ c ∷ ys) → AllByRecursion (IsBeside lo hi) ys
besides-after at lo hi xs c ys l h =
    beside-after lo hi (c.offset + c.size) ys l (AreOrdered-back at xs (c ∷ ys) h).2
