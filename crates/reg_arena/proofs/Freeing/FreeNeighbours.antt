-- The free cells beside an allocated one.
use Rattle.std.proofs.Common.{◌≡◌, ℕ, zero, suc, ◌+◌, ◌-◌, ◌<◌, ◌≤◌, Bool, true, false, cond, inl, inr, List, [], ◌∷◌, ◌++◌, length, refl, sym, ap, ◌∙◌, subst, arith, append_assoc}
use Rattle.std.proofs.Common.{eqb}
use Rattle.std.proofs.lemmas.Bool.{eqb-true, eqb-false, leb-false, lt-ltb}
use Rattle.std.specs.List.{AllByRecursion}
use Rattle.reg_heap.specs.ByteWords.{word}
use Rattle.reg_arena.specs.declared.Cell.{Cell}
use Rattle.reg_arena.specs.Cells.{Bin, Tiles, AreBins, cells_in, size_in, is_allocated_in}
use Rattle.reg_arena.specs.Free.{Touch, AreApart}
use Rattle.reg_arena.specs.NewCells.{unused}
use Rattle.reg_arena.specs.Internal.ListedCells.{free_size}
use Rattle.reg_arena.proofs.FreeList.FreeSizes.{free_at}
use Rattle.reg_arena.proofs.FreeList.CellMarks.{EndsAt}
use Rattle.reg_arena.proofs.FreeList.ListedArenas.{size-at, all-free}
use Rattle.reg_arena.specs.Frees.{IsFreePiece, IsRight, start_of}
use Rattle.reg_arena.proofs.Tiling.Tilings.{Tiles-back}
use Rattle.reg_arena.proofs.Tiling.CellPositions.{Placed, placed, stands, AreBins-at}
use Rattle.reg_arena.proofs.Contents.CellContents.{AreOrdered, AreOrdered-AreBins}
use Rattle.reg_arena.proofs.Carving.CarveWhole.{as_unused, free-size, free-flag}
use Rattle.reg_arena.proofs.Freeing.MergedCells.{PlacedRow, apart-back}
use Rattle.reg_arena.proofs.Freeing.Neighbours.{neighbour, row-of-two, AreBins-rest}

all-part : (P : Cell → Type 0) (xs ys : List Cell) → AllByRecursion P (xs ++ ys) → AllByRecursion P xs
all-part P [] ys h = tt
all-part P (x ∷ xs) ys h = (h.0, all-part P xs ys h.1)

-- ---- the left

pub record Lefts (layout : List Bin) (c : Cell) (ys : List Cell) (lo left : ℕ) : Type 0 where
  pub at_start : lo ≡ c.offset → left ≡ 0
  pub xs : List Cell
  pub lefts : List Cell
  pub cells_are : cells_in layout ≡ xs ++ (lefts ++ c ∷ ys)
  pub row : PlacedRow layout xs (lefts ++ c ∷ []) ys
  pub lefts_are : IsFreePiece lo c.offset lefts
  pub before : AllByRecursion (λ (x : Cell). x.allocated ≡ false → x.offset + x.size ≡ lo → ⊥) xs

row-of-one : (layout : List Bin) (xs : List Cell) (c : Cell) (ys : List Cell) → Placed layout xs c ys → PlacedRow layout xs (c ∷ []) ys
row-of-one layout xs c ys p = record { ps = p.ps; b = p.b; qs = p.qs; us = p.us; vs = p.vs; bins = p.bins; cells = p.cells; before = p.before; after = p.after }

apart-front : (ds : List Cell) (d : Cell) (bs : List Cell) → d.allocated ≡ false → AreApart (ds ++ d ∷ bs) → AllByRecursion (λ (x : Cell). x.allocated ≡ false → x.offset + x.size ≡ d.offset → ⊥) ds
apart-front [] d bs f h = tt
apart-front (x ∷ ds) d bs f h = ((λ u e. here ds h.0 (record { first = u; second = f; ends = e })), apart-front ds d bs f h.1)
  where
    here : (zs : List Cell) → AllByRecursion (λ y. Touch x y → ⊥) (zs ++ d ∷ bs) → Touch x d → ⊥
    here [] a t = a.0 t
    here (z ∷ zs) a t = here zs a.1 t

-- where no free cell ends
lefts-none : (bytes : List ℕ) (layout : List Bin) (xs : List Cell) (c : Cell) (ys : List Cell) → AreBins bytes 0 layout →
    EndsAt (free_size (cells_in layout)) c.offset 0 → cells_in layout ≡ xs ++ c ∷ ys → Lefts layout c ys c.offset 0
lefts-none bytes layout xs c ys tiled k e = record {
  at_start = λ _. refl;
  xs = xs;
  lefts = [];
  cells_are = e;
  row = row-of-one layout xs c ys (placed layout xs c ys e);
  lefts_are = refl;
  before = all-part (λ (x : Cell). x.allocated ≡ false → x.offset + x.size ≡ c.offset → ⊥) xs (c ∷ ys)
      (all-free (λ (x : Cell). x.allocated ≡ false → x.offset + x.size ≡ c.offset → ⊥) (xs ++ c ∷ ys) [] (xs ++ c ∷ ys) refl none);
}
  where
    ordered : AreOrdered 0 (cells_in layout)
    ordered = AreOrdered-AreBins bytes 0 layout tiled

    none : (us : List Cell) (d : Cell) (vs : List Cell) → xs ++ c ∷ ys ≡ us ++ d ∷ vs → d.allocated ≡ false → d.offset + d.size ≡ c.offset → ⊥
    none us d vs f free end =
        let st = stands bytes layout us d vs tiled (e ∙ f) in
        let s : free_size (cells_in layout) d.offset ≡ d.size = ap (λ cs. free_size cs d.offset) (e ∙ f) ∙ size-at 0 us d vs (subst (AreOrdered 0) (e ∙ f) ordered) free in
        let t : 0 ≡ d.offset = k.none d.offset (omega (arith, s, st.cell.positive)) (omega (arith, s, end)) in
        omega (arith, t, st.header)

as_free : (d : Cell) (hi : ℕ) → d.allocated ≡ false → d.offset + d.size ≡ hi → d ≡ unused d.offset (hi - d.offset)
as_free d hi f e = (let n : d.size ≡ hi - d.offset = omega arith in as_unused d f ∙ ap (λ (k : ℕ). unused d.offset k) n)

lefts-some : (bytes : List ℕ) (layout : List Bin) (xs : List Cell) (c : Cell) (ys : List Cell) (left : ℕ) → AreBins bytes 0 layout →
    AreApart (cells_in layout) → cells_in layout ≡ xs ++ c ∷ ys → 0 < free_size (cells_in layout) left → left + free_size (cells_in layout) left ≡ c.offset →
    Lefts layout c ys left left
lefts-some bytes layout xs c ys left tiled apart e some end =
    let r = free_at (cells_in layout) left some in
    let d = r.c in
    let ordered : AreOrdered 0 (r.xs ++ d ∷ r.ys) = subst (AreOrdered 0) r.cells_are (AreOrdered-AreBins bytes 0 layout tiled) in
    let touch : d.offset + d.size ≡ c.offset = omega (arith, r.offset_is, r.size_is, end) in
    let n = neighbour 0 r.xs d r.ys xs c ys ordered (sym r.cells_are ∙ e) touch in
    let st = stands bytes layout r.xs d r.ys tiled r.cells_are in
    let eight : 8 ≤ d.size = omega (arith, st.cell.positive, st.cell.eights) in
    let cells : cells_in layout ≡ r.xs ++ d ∷ (c ∷ ys) = r.cells_are ∙ ap (λ (t : List Cell). r.xs ++ d ∷ t) n.1 in
    rw (← r.offset_is) (record {
      at_start = λ same. absurd (omega (arith, touch, eight, same));
      xs = r.xs;
      lefts = d ∷ [];
      cells_are = cells;
      row = row-of-two bytes layout r.xs d c ys tiled cells touch;
      lefts_are = (as_free d c.offset r.free touch, omega arith);
      before = apart-front r.xs d r.ys r.free (subst AreApart r.cells_are apart);
    })

lefts-by : (bytes : List ℕ) (layout : List Bin) (xs : List Cell) (c : Cell) (ys : List Cell) (left : ℕ) → AreBins bytes 0 layout →
    AreApart (cells_in layout) → EndsAt (free_size (cells_in layout)) c.offset left → cells_in layout ≡ xs ++ c ∷ ys →
    (b : Bool) → eqb left 0 ≡ b → Lefts layout c ys (cond b c.offset left) left
lefts-by bytes layout xs c ys left tiled apart k e true z =
    let zero_left = eqb-true left 0 z in
    rw zero_left (lefts-none bytes layout xs c ys tiled (subst (EndsAt (free_size (cells_in layout)) c.offset) zero_left k) e)
lefts-by bytes layout xs c ys left tiled apart k e false z =
    let t = k.some (positive left (eqb-false left 0 z)) in
    lefts-some bytes layout xs c ys left tiled apart e t.0 t.1
  where
    positive : (n : ℕ) → (n ≡ 0 → ⊥) → 0 < n
    positive zero h = absurd (h refl)
    positive (suc n) h = omega arith

pub lefts : (bytes : List ℕ) (layout : List Bin) (xs : List Cell) (c : Cell) (ys : List Cell) (left : ℕ) → AreBins bytes 0 layout →
    AreApart (cells_in layout) → EndsAt (free_size (cells_in layout)) c.offset left → cells_in layout ≡ xs ++ c ∷ ys → Lefts layout c ys (start_of left c.offset) left
lefts bytes layout xs c ys left tiled apart k e = lefts-by bytes layout xs c ys left tiled apart k e (eqb left 0) refl

-- ---- the right

pub record Rights (layout : List Bin) (xs : List Cell) (lefts : List Cell) (c : Cell) (hi : ℕ) : Type 0 where
  pub rights : List Cell
  pub ys : List Cell
  pub cells_are : cells_in layout ≡ xs ++ ((lefts ++ c ∷ rights) ++ ys)
  pub row : PlacedRow layout xs (lefts ++ c ∷ rights) ys
  pub rights_are : IsFreePiece (c.offset + c.size) hi rights
  pub after : AllByRecursion (λ (y : Cell). y.allocated ≡ false → hi ≡ y.offset → ⊥) ys

word-of-free : (field size : ℕ) → size_in field ≡ size → is_allocated_in field ≡ false → size ≤ 268435456 → field ≡ size
word-of-free field size a b l =
    let low : field < 2147483648 = leb-false 2147483648 field b in
    let same : size_in field ≡ field = (let e = lt-ltb field 2147483648 low in rw e refl) in
    sym same ∙ a

-- no free cell stands where the word is none of a free cell
after-none : (bytes : List ℕ) (layout : List Bin) (end : ℕ) → AreBins bytes 0 layout → length bytes ≤ 268435456 →
    (end < length bytes → word bytes end ≤ 268435456 → ⊥) → (xs ys : List Cell) → cells_in layout ≡ xs ++ ys →
    AllByRecursion (λ (y : Cell). y.allocated ≡ false → end ≡ y.offset → ⊥) ys
after-none bytes layout end tiled small none xs [] e = tt
after-none bytes layout end tiled small none xs (y ∷ ys) e =
    let st = stands bytes layout xs y ys tiled e in
    let within = st.cell.within in (
      (λ f g. (let w : word bytes y.offset ≡ y.size = word-of-free (word bytes y.offset) y.size st.cell.size (st.cell.allocated ∙ f) (omega arith) in
          let w' : word bytes end ≡ y.size = ap (word bytes) g ∙ w in none (omega (arith, st.cell.positive)) (omega (arith, w')))),
      after-none bytes layout end tiled small none (xs ++ y ∷ []) ys (e ∙ sym (append_assoc xs (y ∷ []) ys)),
    )

rights-none : (bytes : List ℕ) (layout : List Bin) (c : Cell) (ys : List Cell) (lo left : ℕ) (l : Lefts layout c ys lo left) →
    AreBins bytes 0 layout → length bytes ≤ 268435456 → (c.offset + c.size < length bytes → word bytes (c.offset + c.size) ≤ 268435456 → ⊥) →
    Rights layout l.xs l.lefts c (c.offset + c.size)
rights-none bytes layout c ys lo left l tiled small none = record {
  rights = [];
  ys = ys;
  cells_are = l.cells_are ∙ ap (λ (t : List Cell). l.xs ++ t) (sym (append_assoc l.lefts (c ∷ []) ys));
  row = l.row;
  rights_are = refl;
  after = after-none bytes layout (c.offset + c.size) tiled small none (l.xs ++ (l.lefts ++ c ∷ [])) ys (l.cells_are ∙
      sym (append_assoc l.xs (l.lefts ++ c ∷ []) ys ∙ ap (λ (t : List Cell). l.xs ++ t) (append_assoc l.lefts (c ∷ []) ys)));
}

regroup : (a b : List Cell) (c v : Cell) (w : List Cell) → a ++ ((b ++ c ∷ []) ++ v ∷ w) ≡ a ++ ((b ++ c ∷ (v ∷ [])) ++ w)
regroup a b c v w = simp append_assoc

regroup2 : (a b : List Cell) (c : Cell) (w : List Cell) → a ++ ((b ++ c ∷ []) ++ w) ≡ (a ++ b) ++ c ∷ w
regroup2 a b c w = simp append_assoc

end-of-bins : (bytes : List ℕ) (end : ℕ) (qs : List Bin) → AreBins bytes end qs → end < length bytes → word bytes end ≤ 268435456 → ⊥
end-of-bins bytes end [] h l w = omega arith
end-of-bins bytes end (q ∷ qs) h l w = (let s : word bytes end ≡ 1852400232 = ap (word bytes) (sym h.0) ∙ h.1.signature in omega (arith, s))

rights-by : (bytes : List ℕ) (layout : List Bin) (c : Cell) (ys : List Cell) (lo left : ℕ) (l : Lefts layout c ys lo left) → AreBins bytes 0 layout →
    AreApart (cells_in layout) → c.offset + c.size < length bytes → word bytes (c.offset + c.size) ≤ 268435456 → (vs : List Cell) → l.row.vs ≡ vs →
    Rights layout l.xs l.lefts c (c.offset + c.size + word bytes (c.offset + c.size))
rights-by bytes layout c ys lo left l tiled apart inside free [] e =
    let p = l.row in
    let laid = subst (AreBins bytes 0) p.bins tiled in
    let here = AreBins-at bytes 0 p.ps p.b p.qs laid in
    let cells : p.b.cells ≡ (p.us ++ l.lefts) ++ c ∷ [] = p.cells ∙ ap (λ (t : List Cell). p.us ++ ((l.lefts ++ c ∷ []) ++ t)) e ∙ regroup2 p.us l.lefts c [] in
    let tiles = Tiles-back bytes (p.b.start + 32) (p.b.start + p.b.size) (p.us ++ l.lefts) (c ∷ []) (subst (Tiles bytes (p.b.start + 32) (p.b.start + p.b.size)) cells here.1) in
    let end : p.b.start + p.b.size ≡ c.offset + c.size = omega (arith, tiles.0, tiles.2) in
    let rest : AreBins bytes (c.offset + c.size) p.qs = subst (λ (k : ℕ). AreBins bytes k p.qs) end (AreBins-rest bytes 0 p.ps p.b p.qs laid) in
    absurd (end-of-bins bytes (c.offset + c.size) p.qs rest inside free)
rights-by bytes layout c ys lo left l tiled apart inside free (v ∷ vs) e =
    let p = l.row in
    let laid = subst (AreBins bytes 0) p.bins tiled in
    let here = AreBins-at bytes 0 p.ps p.b p.qs laid in
    let cells : p.b.cells ≡ (p.us ++ l.lefts) ++ c ∷ (v ∷ vs) = p.cells ∙ ap (λ (t : List Cell). p.us ++ ((l.lefts ++ c ∷ []) ++ t)) e ∙ regroup2 p.us l.lefts c (v ∷ vs) in
    let tiles = Tiles-back bytes (p.b.start + 32) (p.b.start + p.b.size) (p.us ++ l.lefts) (c ∷ (v ∷ vs)) (subst (Tiles bytes (p.b.start + 32) (p.b.start + p.b.size)) cells here.1) in
    let place : v.offset ≡ c.offset + c.size = omega (arith, tiles.0, tiles.2.0) in
    let field : word bytes v.offset ≡ word bytes (c.offset + c.size) = ap (word bytes) place in
    let low : word bytes v.offset ≤ 268435456 = omega (arith, field) in
    let size : v.size ≡ word bytes (c.offset + c.size) = sym tiles.2.1.size ∙ free-size (word bytes v.offset) low ∙ field in
    let unit : v.allocated ≡ false = sym tiles.2.1.allocated ∙ free-flag (word bytes v.offset) low in
    let some : 0 < v.size = tiles.2.1.positive in
    let later : List Cell = vs ++ cells_in p.qs in
    let ys_are : ys ≡ v ∷ later = p.after ∙ ap (λ (t : List Cell). t ++ cells_in p.qs) e in
    let all : cells_in layout ≡ l.xs ++ (l.lefts ++ c ∷ (v ∷ later)) = l.cells_are ∙ ap (λ (t : List Cell). l.xs ++ (l.lefts ++ c ∷ t)) ys_are in
    let back : AreApart (v ∷ later) = apart-back (l.xs ++ (l.lefts ++ c ∷ [])) (v ∷ later) (subst AreApart (all ∙ shuffle l.xs l.lefts c (v ∷ later)) apart) in
    record {
      rights = v ∷ [];
      ys = later;
      cells_are = all ∙ shuffle2 l.xs l.lefts c v later;
      row = record {
        ps = p.ps;
        b = p.b;
        qs = p.qs;
        us = p.us;
        vs = vs;
        bins = p.bins;
        cells = p.cells ∙
            ap (λ (t : List Cell). p.us ++ ((l.lefts ++ c ∷ []) ++ t)) e ∙ regroup p.us l.lefts c v vs;
        before = p.before;
        after = refl;
      };
      rights_are = (piece v (c.offset + c.size) (word bytes (c.offset + c.size)) unit place size, omega arith);
      after = touching later back.0 unit place size;
    }
  where
    shuffle : (a b : List Cell) (c : Cell) (w : List Cell) → a ++ (b ++ c ∷ w) ≡ (a ++ (b ++ c ∷ [])) ++ w
    shuffle a b c w = simp append_assoc

    shuffle2 : (a b : List Cell) (c v : Cell) (w : List Cell) → a ++ (b ++ c ∷ (v ∷ w)) ≡ a ++ ((b ++ c ∷ (v ∷ [])) ++ w)
    shuffle2 a b c v w = simp append_assoc

    piece : (v : Cell) (at n : ℕ) → v.allocated ≡ false → v.offset ≡ at → v.size ≡ n → v ≡ unused at (at + n - at)
    piece v at n f a b = (let m : v.size ≡ at + n - at = omega arith in as_unused v f ∙ ap (λ (k : ℕ). unused k v.size) a ∙ ap (λ (k : ℕ). unused at k) m)

    touching : (zs : List Cell) → AllByRecursion (λ y. Touch v y → ⊥) zs → v.allocated ≡ false → v.offset ≡ c.offset + c.size →
        v.size ≡ word bytes (c.offset + c.size) → AllByRecursion (λ (y : Cell). y.allocated ≡ false →
        c.offset + c.size + word bytes (c.offset + c.size) ≡ y.offset → ⊥) zs
    touching [] a f g h = tt
    touching (z ∷ zs) a f g h = ((λ u q. a.0 (record { first = f; second = u; ends = omega (arith, g, h, q) })), touching zs a.1 f g h)

pub rights : (bytes : List ℕ) (layout : List Bin) (c : Cell) (ys : List Cell) (lo left right : ℕ) (l : Lefts layout c ys lo left) →
    AreBins bytes 0 layout → AreApart (cells_in layout) → length bytes ≤ 268435456 → IsRight bytes (c.offset + c.size) right →
    Rights layout l.xs l.lefts c (c.offset + c.size + right)
rights bytes layout c ys lo left right l tiled apart small (inl h) = rw h.2 (rights-by bytes layout c ys lo left l tiled apart h.0 h.1 l.row.vs refl)
rights bytes layout c ys lo left right l tiled apart small (inr h) = (let e : c.offset + c.size + right ≡ c.offset + c.size = omega (arith, h.0) in
    rw e (rights-none bytes layout c ys lo left l tiled small h.1))
