-- One list of an index that gave way to others.
use Rattle.std.proofs.Common.{◌≡◌, ℕ, zero, suc, ◌+◌, ◌<◌, ◌≤◌, Some, List, [], ◌∷◌, ◌++◌, length, take, drop, refl, sym, ap, ◌∙◌, arith, ◌*◌}
use Rattle.std.specs.Prelude.{slice_get}
use Rattle.std.specs.List.{AllByRecursion}
use Rattle.std.specs.Option.{option_and_then}
use Rattle.std.proofs.lemmas.List.{length-map, map-append, take-map, drop-map, length-append, length-take-le, length-drop}
use Rattle.reg_heap.specs.declared.limits.TheConstants.{NONE}
use Rattle.reg_heap.specs.Heaps.{Heap, CellFrame}
use Rattle.reg_heap.specs.Kinds.{times}
use Rattle.reg_records.specs.SubkeyLists.{Entry, SubkeysList, list_of, plain_entries}
use Rattle.reg_shape.specs.Nodes.{KeyList, list_at}
use Rattle.reg_index.specs.Internal.IndexLists.{AreExchanged, HasLists, IsOnce, IsRoot, Stands, cells_under, offsets_of}
use Rattle.reg_index.specs.Subkeys.{Moves, exchanged, numbered}
use Rattle.reg_index.proofs.CellCounts.{times-append, times-self}
use Rattle.reg_index.proofs.ListPlaces.{all-stand, split-lists}
use Rattle.reg_index.proofs.ListsRead.{list-there, numbered-root, root-room}
use Rattle.reg_index.proofs.SubkeysFrame.{cell-stays}

-- ---- lists that stand where other cells change

pub list-stays : (old new : Heap) (cell : ℕ) (l : SubkeysList) → new cell ≡ old cell → list_at old cell ≡ Some l → list_at new cell ≡ Some l
list-stays old new cell l same is = ap (option_and_then list_of) same ∙ is

pub stands-still : (old new : Heap) (list : KeyList) → new list.offset ≡ old list.offset → Stands old list → Stands new list
stands-still old new list same s = record { leaf = list-stays old new list.offset _ same s.leaf; written = s.written }

-- lists of which no cell was given up
pub all-still : (old new : Heap) (gone came : ℕ → ℕ) → CellFrame old new gone came → (lists : List KeyList) → AllByRecursion (Stands old) lists →
    ((z : ℕ) → 0 < times z (offsets_of lists) → gone z ≡ 0) → AllByRecursion (Stands new) lists
all-still old new gone came frame [] all none = tt
all-still old new gone came frame (list ∷ lists) all none = (
  stands-still old new list
      (cell-stays old new gone came list.offset frame (list-there old list.offset _ all.0.leaf) (none list.offset (omega (arith, times-self list.offset (offsets_of lists))))) all.0,
  all-still old new gone came frame lists all.1 (λ z l. none z (omega (arith, l))),
)

all-front : (P : KeyList → Type 0) (number : ℕ) (lists : List KeyList) → AllByRecursion P lists → AllByRecursion P (take number lists)
all-front P zero lists all = tt
all-front P (suc number) [] all = tt
all-front P (suc number) (list ∷ lists) all = (all.0, all-front P number lists all.1)

all-back : (P : KeyList → Type 0) (number : ℕ) (lists : List KeyList) → AllByRecursion P lists → AllByRecursion P (drop number lists)
all-back P zero lists all = all
all-back P (suc number) [] all = tt
all-back P (suc number) (list ∷ lists) all = all-back P number lists all.1

all-joined : (P : KeyList → Type 0) (xs ys : List KeyList) → AllByRecursion P xs → AllByRecursion P ys → AllByRecursion P (xs ++ ys)
all-joined P [] ys a b = b
all-joined P (x ∷ xs) ys a b = (a.0, all-joined P xs ys a.1 b)

-- ---- the root's cell, and the lists'

-- the root's cell, where there is a root
abbrev pub root_cells : ℕ → List KeyList → List ℕ
root_cells offset [] = []
root_cells offset (list ∷ []) = []
root_cells offset (first ∷ second ∷ others) = offset ∷ []

pub cells-are : (offset : ℕ) (lists : List KeyList) (z : ℕ) → times z (cells_under offset lists) ≡ times z (root_cells offset lists) + times z (offsets_of lists)
cells-are offset [] z = refl
cells-are offset (list ∷ []) z = omega arith
cells-are offset (first ∷ second ∷ others) z = omega arith

-- what stands at the offset that a key names
abbrev pub IsHead : Heap → ℕ → List KeyList → Type 0
IsHead heap offset [] = offset ≡ NONE
IsHead heap offset (list ∷ []) = list.offset ≡ offset
IsHead heap offset (first ∷ second ∷ others) = IsRoot heap offset (offsets_of (first ∷ second ∷ others))

pub lists-of-head : (heap : Heap) (offset : ℕ) (lists : List KeyList) → IsHead heap offset lists → AllByRecursion (Stands heap) lists → HasLists heap offset lists
lists-of-head heap offset [] h all = h
lists-of-head heap offset (list ∷ []) h all = (h, all.0)
lists-of-head heap offset (first ∷ second ∷ others) h all = (h, all)

-- the cells of the lists beside the one of a number
abbrev pub beside : ℕ → List KeyList → ℕ → ℕ
beside number lists z = times z (offsets_of (take number lists)) + times z (offsets_of (drop (suc number) lists))

pub offsets-parted : (lists : List KeyList) (number : ℕ) → number < length lists → (z : ℕ) →
    times z (offsets_of lists) ≡ beside number lists z + times z ((numbered number lists).offset ∷ [])
offsets-parted lists number l z =
    let parts = ap (times z) (ap offsets_of (split-lists lists number l)
    ∙ map-append (λ (list : KeyList). list.offset) (take number lists) (numbered number lists ∷ drop (suc number) lists)) in
    omega (arith, parts, times-append z (offsets_of (take number lists)) ((numbered number lists).offset ∷ offsets_of (drop (suc number) lists)))

pub offsets-exchanged : (number : ℕ) (others lists : List KeyList) → offsets_of (exchanged number others lists) ≡
    take number (offsets_of lists) ++ (offsets_of others ++ drop (suc number) (offsets_of lists))
offsets-exchanged number others lists =
    map-append (λ (list : KeyList). list.offset) (take number lists) (others ++ drop (suc number) lists)
    ∙ (λ i. sym (take-map (λ (list : KeyList). list.offset) number lists) i
    ++ (map-append (λ (list : KeyList). list.offset) others (drop (suc number) lists)
    ∙ ap (λ t. offsets_of others ++ t) (sym (drop-map (λ (list : KeyList). list.offset) (suc number) lists))) i)

pub exchanged-parted : (number : ℕ) (others lists : List KeyList) (z : ℕ) →
    times z (offsets_of (exchanged number others lists)) ≡ beside number lists z + times z (offsets_of others)
exchanged-parted number others lists z =
    let whole = ap (times z) (map-append (λ (list : KeyList). list.offset) (take number lists) (others ++ drop (suc number) lists)
    ∙ ap (λ t. offsets_of (take number lists) ++ t) (map-append (λ (list : KeyList). list.offset) others (drop (suc number) lists))) in
    omega (
      arith,
      whole,
      times-append z (offsets_of (take number lists)) (offsets_of others ++ offsets_of (drop (suc number) lists)),
      times-append z (offsets_of others) (offsets_of (drop (suc number) lists)),
    )

pub length-exchanged : (number : ℕ) (others lists : List KeyList) → number < length lists → length (exchanged number others lists) + 1 ≡ length lists + length others
length-exchanged number others lists l = omega (
  arith,
  l,
  length-append (take number lists) (others ++ drop (suc number) lists),
  length-append others (drop (suc number) lists),
  length-take-le number lists (omega (arith, l)),
  length-drop (suc number) lists,
)

-- ---- a list gave way to others

module _ (old new : Heap) (offset result number : ℕ) (lists others : List KeyList) (carved : List ℕ) (there : number < length lists) (h : HasLists old offset lists)
    (once : IsOnce (cells_under offset lists ++ carved))
    (frame : CellFrame old new (λ z. times z (root_cells offset lists ++ (numbered number lists).offset ∷ carved))
    (λ z. times z (root_cells result (exchanged number others lists) ++ offsets_of others))) where
  -- the other lists' cells were not given up
  calm : (z : ℕ) → 0 < beside number lists z → times z (root_cells offset lists ++ (numbered number lists).offset ∷ carved) ≡ 0
  calm z l = omega (
    arith,
    l,
    once z,
    cells-are offset lists z,
    offsets-parted lists number there z,
    times-append z (cells_under offset lists) carved,
    times-append z (root_cells offset lists) ((numbered number lists).offset ∷ carved),
  )

  others-stand : AllByRecursion (Stands new) others → AllByRecursion (Stands new) (exchanged number others lists)
  others-stand stand =
      let all = all-stand old offset lists h in
      all-joined (Stands new) (take number lists) (others ++ drop (suc number) lists)
      (all-still old new _ _ frame (take number lists) (all-front (Stands old) number lists all) (λ z l. calm z (omega (arith, l))))
      (all-joined (Stands new) others (drop (suc number) lists) stand
      (all-still old new _ _ frame (drop (suc number) lists) (all-back (Stands old) (suc number) lists all) (λ z l. calm z (omega (arith, l)))))

  moved : Moves old new (cells_under offset lists ++ carved) (cells_under result (exchanged number others lists))
  moved = record {
    count = λ z. omega (
      arith,
      frame.count z,
      cells-are offset lists z,
      cells-are result (exchanged number others lists) z,
      offsets-parted lists number there z,
      exchanged-parted number others lists z,
      times-append z (cells_under offset lists) carved,
      times-append z (root_cells offset lists) ((numbered number lists).offset ∷ carved),
      times-append z (root_cells result (exchanged number others lists)) (offsets_of others),
    );
    same = λ z gone came. frame.same z
        (omega (
          arith,
          gone,
          cells-are offset lists z,
          offsets-parted lists number there z,
          times-append z (cells_under offset lists) carved,
          times-append z (root_cells offset lists) ((numbered number lists).offset ∷ carved),
        ))
        (omega (
          arith,
          came,
          cells-are result (exchanged number others lists) z,
          exchanged-parted number others lists z,
          times-append z (root_cells result (exchanged number others lists)) (offsets_of others),
        ));
  }

  pub exchange : AllByRecursion (Stands new) others → IsHead new result (exchanged number others lists) →
      AreExchanged old new offset lists result (exchanged number others lists) carved
  exchange stand head = record {
    now = lists-of-head new result (exchanged number others lists) head (others-stand stand);
    moves = moved;
  }

-- ---- an index root

pub root-stands : (heap : Heap) (offset : ℕ) (lists : List KeyList) → HasLists heap offset lists → 2 ≤ length lists → IsRoot heap offset (offsets_of lists)
root-stands heap offset [] h l = absurd (omega (arith, l))
root-stands heap offset (list ∷ []) h l = absurd (omega (arith, l))
root-stands heap offset (first ∷ second ∷ others) h l = h.0

pub roots-two : (offset : ℕ) (lists : List KeyList) → 2 ≤ length lists → root_cells offset lists ≡ offset ∷ []
roots-two offset [] l = absurd (omega (arith, l))
roots-two offset (list ∷ []) l = absurd (omega (arith, l))
roots-two offset (first ∷ second ∷ others) l = refl

pub roots-one : (offset : ℕ) (lists : List KeyList) → length lists ≤ 1 → root_cells offset lists ≡ []
roots-one offset [] l = refl
roots-one offset (list ∷ []) l = refl
roots-one offset (first ∷ second ∷ others) l = absurd (omega (arith, l))

pub head-two : (heap : Heap) (offset : ℕ) (lists : List KeyList) → 2 ≤ length lists → IsRoot heap offset (offsets_of lists) → IsHead heap offset lists
head-two heap offset [] l root = absurd (omega (arith, l))
head-two heap offset (list ∷ []) l root = absurd (omega (arith, l))
head-two heap offset (first ∷ second ∷ others) l root = root

pub head-one : (heap : Heap) (offset : ℕ) (lists : List KeyList) → length lists ≡ 1 → (numbered 0 lists).offset ≡ offset → IsHead heap offset lists
head-one heap offset [] l is = absurd (omega (arith, l))
head-one heap offset (list ∷ []) l is = is
head-one heap offset (first ∷ second ∷ others) l is = absurd (omega (arith, l))

-- its cell is none of the others
pub root-apart : (offset number : ℕ) (lists : List KeyList) (carved : List ℕ) → 2 ≤ length lists → number < length lists → IsOnce (cells_under offset lists ++ carved) →
    times offset ((numbered number lists).offset ∷ carved) ≡ 0
root-apart offset number lists carved two there once = omega (
  arith,
  once offset,
  cells-are offset lists offset,
  ap (times offset) (roots-two offset lists two),
  times-self offset [],
  offsets-parted lists number there offset,
  times-append offset (cells_under offset lists) carved,
)

pub root-still : (old new : Heap) (gone came : ℕ → ℕ) (cell : ℕ) (offsets : List ℕ) → CellFrame old new gone came → gone cell ≡ 0 → IsRoot old cell offsets → IsRoot new cell offsets
root-still old new gone came cell offsets frame none root = list-stays old new cell _ (cell-stays old new gone came cell frame (list-there old cell _ root) none) root

pub roots-none : (offset : ℕ) (lists : List KeyList) (cells : List ℕ) → length lists ≤ 1 → (z : ℕ) → times z (root_cells offset lists ++ cells) ≡ times z cells
roots-none offset lists cells one z = ap (λ roots. times z (roots ++ cells)) (roots-one offset lists one)

pub roots-some : (offset : ℕ) (lists : List KeyList) (cells : List ℕ) → 2 ≤ length lists → (z : ℕ) → times z (root_cells offset lists ++ cells) ≡ times z (offset ∷ cells)
roots-some offset lists cells two z = ap (λ roots. times z (roots ++ cells)) (roots-two offset lists two)

-- the leaf of a number, read in the root's cell
module _ (heap : Heap) (offset number count : ℕ) (lists : List KeyList) (h : HasLists heap offset lists) (there : number < length lists) (counted : count ≡ length lists) (some : count ≡ 1 → ⊥)
    (content : List ℕ) (here : heap offset ≡ Some content) where
  several : IsRoot heap offset (offsets_of lists)
  several = root-stands heap offset lists h (omega (arith, there, counted, some))

  pub under-fits : 4 + 4 * (number + 1) ≤ length content
  under-fits = root-room heap offset (offsets_of lists) number content several (omega (arith, there, length-map lists (λ (list : KeyList). list.offset))) here

  pub under-root : (entry : Entry) → ((k : ℕ) → number < k → slice_get (plain_entries k 4 content) number ≡ Some entry) → (numbered number lists).offset ≡ entry.offset
  under-root entry reads = numbered-root heap offset number lists content entry several there here reads
