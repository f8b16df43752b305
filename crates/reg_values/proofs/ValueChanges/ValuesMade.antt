-- All values of a key, in new cells.
use Rattle.std.proofs.Common.{◌≡◌, ℕ, ◌-◌, ◌*◌, ◌<◌, ◌≤◌, inl, inr, true, List, [], ◌∷◌, ◌++◌, length, take, drop, get_or, refl, sym, ap, ◌∙◌, subst}
use Rattle.std.proofs.Common.{arith}
use Rattle.std.specs.List.{AllByRecursion}
use Rattle.std.proofs.lemmas.List.{append_assoc, append-nil}
use Rattle.reg_names.specs.Names.{is_value_name}
use Rattle.reg_heap.specs.declared.limits.TheConstants.{NONE, VALUES_LIMIT, DATA_LIMIT}
use Rattle.reg_heap.specs.Paths.{Member}
use Rattle.reg_heap.specs.Heaps.{Heap, AreNew}
use Rattle.reg_heap.specs.Kinds.{owned, times}
use Rattle.reg_heap.specs.Kinds.Kind.{ValueList}
use Rattle.reg_arena.specs.Carves.{CarvesExactly, IsRoom}
use Rattle.reg_arena.specs.EachCell.{GrowsFor}
use Rattle.reg_arena.proofs.Carving.BinGrowth.{bin-long}
use Rattle.reg_arena.proofs.Carving.FreshBins.{fresh-is, fresh-together}
use Rattle.reg_arena.specs.NewCells.{AreSizes, cell_size, total_of}
use Rattle.reg_records.specs.RecordCells.{HasRoom, held}
use Rattle.reg_records.specs.OffsetRows.{offsets_at}
use Rattle.reg_shape.specs.Written.{AreWritten, Pairwise}
use Rattle.reg_values.specs.ValueLists.{Became, Makes}
use Rattle.reg_values.specs.declared.making.NewValue.{NewValue}
use Rattle.reg_values.specs.NewValues.{all_told, MayFollow, each_value_sizes, all_value_sizes}
use Rattle.reg_values.specs.Internal.ValueListParts.{Fills, HaveRoom, StandBehind}
use Rattle.reg_values.proofs.ValueData.NewCellRoom.{new-room, room-tail, room-head, list-one-more}
use Rattle.reg_values.proofs.ValueData.CellSizeTotals.{makes}
use Rattle.reg_values.proofs.ValueFreeing.FrameChains.{times-same, frame-none, frame-then, frame-with}
use Rattle.reg_values.proofs.ValueData.FilledCells.{fills-room}
use Rattle.reg_values.proofs.ValueListing.ValueListFrame.{closed, list-made}
use Rattle.reg_values.proofs.ValueListing.NamedValues.{Apart, new-apart, pairs-push}
use Rattle.reg_values.proofs.ValueChanges.ValuesPlanned.{all-sizes}
use Rattle.reg_values.proofs.ValueChanges.ValuesFilled.{stand-read}

-- ---- values that may follow one another are as they may stand in a list

pub follow-names : (members before : List Member) → MayFollow before members → AllByRecursion (λ (m : Member). is_value_name m.name ≡ true) members
follow-names [] before f = tt
follow-names (m ∷ members) before f = (f.0.name, follow-names members (before ++ m ∷ []) f.2)

pub follow-sizes : (members before : List Member) → MayFollow before members → AllByRecursion (λ (m : Member). length m.bytes ≤ DATA_LIMIT) members
follow-sizes [] before f = tt
follow-sizes (m ∷ members) before f = (f.0.bytes, follow-sizes members (before ++ m ∷ []) f.2)

pub follow-apart : (members before : List Member) → MayFollow before members → Pairwise Apart before → Pairwise Apart (before ++ members)
follow-apart [] before f p = subst (Pairwise Apart) (sym (append-nil before)) p
follow-apart (m ∷ members) before f p =
    subst (Pairwise Apart) (append_assoc before (m ∷ []) members)
    (follow-apart members (before ++ m ∷ []) f.2 (pairs-push before m p (new-apart m.name m.kind m.bytes before f.1)))

-- ---- the list's cell and the others

module _ (h0 h1 : Heap) (all : List ℕ) (l : ℕ) (ss : List ℕ) (a : AreNew h0 h1 all (l ∷ ss)) where
  pub some-cells : 0 < length all
  some-cells = let n = a.as_many in omega (arith, n)

  abbrev pub list_cell : ℕ
  list_cell = get_or all 0 0

  abbrev pub other_cells : List ℕ
  other_cells = take (length all - 1) (drop 1 all)

  cells-are : all ≡ list_cell ∷ other_cells
  cells-are = list-one-more all (let s = some-cells in omega (arith, s))

  cells-room : HaveRoom h1 (list_cell ∷ other_cells) (l ∷ ss)
  cells-room = subst (λ xs. HaveRoom h1 xs (l ∷ ss)) cells-are (new-room h0 h1 all (l ∷ ss) a)

  pub list-space : HasRoom h1 list_cell (l - 4)
  list-space = room-head h1 list_cell other_cells l ss cells-room

  pub other-room : HaveRoom h1 other_cells ss
  other-room = room-tail h1 list_cell other_cells l ss cells-room

  pub list-apart : times list_cell other_cells ≡ 0
  list-apart = let o = cells-room.once list_cell in let t = times-same list_cell in omega (arith, o, t)

  module _ (h2 : Heap) (f : Fills h1 h2 (list_cell ∷ other_cells)) where
    pub filled-makes : AreSizes (l ∷ ss) → Makes h0 h2 (l ∷ ss)
    filled-makes ok = makes h0 h1 h2 all (l ∷ ss) a ok (λ z. let c = f.writes.count z in omega (arith, c)) (λ z p. f.sizes z)

    pub list-space2 : HasRoom h2 list_cell (l - 4)
    list-space2 = fills-room h1 h2 (list_cell ∷ other_cells) list_cell (l - 4) f list-space

    pub together : (members : List Member) → 4 * length members ≤ l - 4 → StandBehind h2 list_cell 0 members other_cells → MayFollow [] members → 0 < length members → length members ≤ VALUES_LIMIT →
        Became h0 h2 [] (length members) list_cell members
    together members enough s follow some few =
        let n = length members in
        let r = list-space2 in
        let long = r.enough in
        let read = list-made h2 n list_cell some r.exists (omega (arith, long, enough)) in
        let came : (z : ℕ) → owned z (record { kind = ValueList; offset = list_cell } ∷ s.met) ≡ times z all =
        λ z. (let o = s.owns z in let e = ap (times z) cells-are in omega (arith, o, e)) in
        record {
          cells = record { kind = ValueList; offset = list_cell } ∷ s.met;
          reads = closed h2 n list_cell (offsets_at n 0 (held h2 list_cell)) members _ s.met read (stand-read h2 list_cell 0 members other_cells s);
          frame = frame-then h0 h1 h2 (λ z. owned z []) (λ z. times z all) (λ z. owned z (record { kind = ValueList; offset = list_cell } ∷ s.met)) a.come
              (frame-with h1 h2 (λ z. times z (list_cell ∷ other_cells)) (λ z. times z (list_cell ∷ other_cells)) (λ z. 0) (λ z. times z all)
              (λ z. owned z (record { kind = ValueList; offset = list_cell } ∷ s.met)) f.writes
              (λ z. let e = ap (times z) cells-are in omega (arith, e)) (λ z. let c = came z in let e = ap (times z) cells-are in omega (arith, c, e)));
          written = record {
            few = few;
            none = λ z. absurd (omega (arith, z, some));
            each = s.written;
            names = follow-names members [] follow;
            apart = follow-apart members [] follow tt;
            sizes = follow-sizes members [] follow;
          };
        }

-- ---- what the carve gave

pub new-cells : (h0 h1 : Heap) (values : List NewValue) (room : ℕ) (sizes all out before offsets : List ℕ) → sizes ≡ all_value_sizes room (all_told values) → 0 < length values →
    all ≡ out → out ≡ before ++ offsets → before ≡ [] → AreNew h0 h1 offsets sizes →
    AreNew h0 h1 all (cell_size (4 * room) ∷ each_value_sizes (all_told values))
new-cells h0 h1 values room sizes all out before offsets e some a o b n =
    subst (λ xs. AreNew h0 h1 xs (cell_size (4 * room) ∷ each_value_sizes (all_told values))) (sym (a ∙ (o ∙ ap (λ xs. xs ++ offsets) b)))
    (subst (AreNew h0 h1 offsets) (e ∙ sym (all-sizes values room some)) n)

-- ---- how the bins grew

pub exact-grows : (old new sizes offsets : List ℕ) → 0 < length sizes → CarvesExactly old new sizes offsets → GrowsFor old new sizes
exact-grows old new sizes offsets some c = by c.room
  where
    by : IsRoom old c.mid (total_of sizes) → GrowsFor old new sizes
    by (inl same) = inl (c.carves.long ∙ ap length same)
    by (inr (none, bin)) =
        let l = c.carves.long ∙ bin-long old c.mid (total_of sizes) bin in
        let least = fresh-is bin.size (total_of sizes) bin.least in
        let all = fresh-together sizes some in
        inr (none, omega (arith, l, least, all))

pub grows-as : (old mid new sizes : List ℕ) → length new ≡ length mid → GrowsFor old mid sizes → GrowsFor old new sizes
grows-as old mid new sizes e (inl same) = inl (e ∙ same)
grows-as old mid new sizes e (inr (none, l)) = inr (none, omega (arith, e, l))

-- ---- no values

none-written : (h : Heap) → AreWritten h 0 NONE []
unfolding offsets_at
none-written h = record { few = omega arith; none = λ _. refl; each = tt; names = tt; apart = tt; sizes = tt }

pub no-made : (h : Heap) (values : List NewValue) → length values ≡ 0 → Became h h [] 0 NONE (all_told values)
no-made h [] e = record { cells = []; reads = refl; frame = frame-none h; written = none-written h }
no-made h (v ∷ values) e = absurd (omega (arith, e))
