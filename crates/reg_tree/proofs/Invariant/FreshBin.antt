-- The bin that a new hive's two cells are cut from.
use Rattle.std.proofs.Common.{◌≡◌, ℕ, ◌+◌, ◌-◌, Option, Some, List, drop, replicate, [], ◌∷◌, ◌++◌, ◌⊎◌, inl, inr, get_or, length, length-append, refl, sym, ap, ◌∙◌, subst, arith}
use Rattle.std.specs.Prelude.{unwrap_or}
use Rattle.std.proofs.lemmas.List.{append-nil, drop-replicate}
use Rattle.std.proofs.lemmas.Option.{same_Some}
use Rattle.reg_arena.specs.declared.Cell.{Cell}
use Rattle.reg_arena.specs.Arena.{Bins, heap_of}
use Rattle.reg_arena.specs.Carves.{rest_of, NoFit, CarvesExactly}
use Rattle.reg_arena.specs.Cells.{cells_of}
use Rattle.reg_arena.specs.NewBin.{IsBinSize, AppendsBin}
use Rattle.reg_arena.specs.NewCells.{cell_size, total_of, carved, offsets_of, unused}
use Rattle.reg_records.specs.RecordCells.{held, WritesRecord}
use Rattle.reg_records.specs.KeyNodes.{nk_bytes}
use Rattle.reg_records.specs.KeySecurities.{sk_bytes}
use Rattle.reg_records.specs.declared.nk.KeyFields.{KeyFields}
use Rattle.reg_records.specs.declared.sk.SecurityFields.{SecurityFields}
use Rattle.reg_tree.specs.TreeKeys.{tree_in}
use Rattle.reg_tree.specs.NewHive.{new_sizes, security_offset, root_fields, in_cell, IsNewHive}
use Rattle.reg_tree.specs.Internal.FreshCells.{AreCarved}

-- what was cut from the one free cell of a first bin
record IsCut (new sizes offsets : List ℕ) : Type 0 where
  pub size : ℕ
  pub least : IsBinSize size (total_of sizes)
  pub offsets_are : offsets ≡ offsets_of 32 sizes
  pub cells : cells_of new ≡ Some (carved 32 sizes ++ rest_of (32 + total_of sizes) (size - 32 - total_of sizes))

no-bins : cells_of [] ≡ Some []
unfolding cells_of
no-bins = refl

record IsAlone (before : List Cell) (x : Cell) (after : List Cell) (y : Cell) : Type 0 where
  pub before_is : before ≡ []
  pub is : x ≡ y
  pub after_is : after ≡ []

alone : (before : List Cell) (x : Cell) (after : List Cell) (y : Cell) → before ++ x ∷ after ≡ y ∷ [] → IsAlone before x after y
alone [] x after y e = record { before_is = refl; is = cc; after_is = cc }
alone (b ∷ before) x after y e = let n = ap length e in let l = length-append before (x ∷ after) in absurd (omega (arith, n, l))

cut_first : (new sizes offsets : List ℕ) → CarvesExactly [] new sizes offsets → IsCut new sizes offsets
cut_first new sizes offsets c = by c.room
  where
    cells_then : (at size : ℕ) (before after : List Cell) → before ≡ [] → after ≡ [] →
        before ++ ((carved at sizes ++ rest_of (at + total_of sizes) (size - total_of sizes)) ++ after) ≡ carved at sizes ++ rest_of (at + total_of sizes) (size - total_of sizes)
    cells_then at size before after e f =
        ap (λ (cells : List Cell). cells ++ ((carved at sizes ++ rest_of (at + total_of sizes) (size - total_of sizes)) ++ after)) e
        ∙ (ap (λ (cells : List Cell). (carved at sizes ++ rest_of (at + total_of sizes) (size - total_of sizes)) ++ cells) f
        ∙ append-nil (carved at sizes ++ rest_of (at + total_of sizes) (size - total_of sizes)))

    by : (c.mid ≡ []) ⊎ (NoFit [] (total_of sizes) × AppendsBin [] c.mid (total_of sizes)) → IsCut new sizes offsets
    by (inl e) =
        let same = same_Some _ _ (sym no-bins ∙ (ap cells_of (sym e) ∙ c.carves.was)) in
        let n = ap length same in
        let l = length-append c.carves.before (unused c.carves.at c.carves.size ∷ c.carves.after) in
        absurd (omega (arith, n, l))
    by (inr r) =
        let a = r.1 in
        let none : a.cells ≡ [] = sym (same_Some _ _ (sym no-bins ∙ a.was)) in
        let was = same_Some _ _ (sym c.carves.was ∙ a.now) ∙ ap (λ (cells : List Cell). cells ++ unused 32 (a.size - 32) ∷ []) none in
        let o = alone c.carves.before (unused c.carves.at c.carves.size) c.carves.after (unused 32 (a.size - 32)) was in
        let at : c.carves.at ≡ 32 = ap (λ (cell : Cell). cell.offset) o.is in
        let size : c.carves.size ≡ a.size - 32 = ap (λ (cell : Cell). cell.size) o.is in
        record {
          size = a.size;
          least = a.least;
          offsets_are = c.carves.offsets_are ∙ ap (λ at. offsets_of at sizes) at;
          cells = c.carves.now
              ∙ (ap Some (cells_then c.carves.at c.carves.size c.carves.before c.carves.after o.before_is o.after_is)
              ∙ (ap (λ at. Some (carved at sizes ++ rest_of (at + total_of sizes) (c.carves.size - total_of sizes))) at
              ∙ ap (λ size. Some (carved 32 sizes ++ rest_of (32 + total_of sizes) (size - total_of sizes))) size));
        }

-- what a cell of zeros holds once a record was written there
in-zeros : (size cell : ℕ) (bytes was : List ℕ) → was ≡ replicate (cell - 4) 0 → cell ≡ cell_size size → bytes ++ drop size was ≡ in_cell size bytes
in-zeros size cell bytes was zeros is =
    ap (λ w. bytes ++ drop size w) zeros ∙ (ap (λ rest. bytes ++ rest) (drop-replicate size (cell - 4) 0) ∙ ap (λ n. bytes ++ replicate (n - 4 - size) 0) is)

record AreWritten (k : Bins) (root security : ℕ) (name descriptor : List ℕ) (moment : ℕ) : Type 0 where
  pub node : heap_of k root ≡ Some (in_cell (76 + length name) (nk_bytes (root_fields security moment) name))
  pub ring : heap_of k security ≡ Some (in_cell (20 + length descriptor) (sk_bytes (record { flink = security; blink = security; count = 1 }) descriptor))

written : (a b i k : Bins) (root security node_size ring_size : ℕ) (fields : KeyFields) (ring : SecurityFields) (name descriptor : List ℕ) (moment : ℕ) →
    fields ≡ root_fields security moment → ring ≡ record { flink = security; blink = security; count = 1 } → node_size ≡ cell_size (76 + length name) →
    ring_size ≡ cell_size (20 + length descriptor) → AreCarved a b root security node_size ring_size →
    WritesRecord b i security (20 + length descriptor) (sk_bytes ring descriptor) → WritesRecord i k root (76 + length name) (nk_bytes fields name) →
    AreWritten k root security name descriptor moment
written a b i k root security node_size ring_size fields ring name descriptor moment fields_are ring_is node_is ring_size_is c w x =
    let zeros : held (heap_of i) root ≡ replicate (node_size - 4) 0 = ap (λ (o : Option (List ℕ)). unwrap_or o []) (w.others root c.apart ∙ c.first_is) in
    let empty : held (heap_of b) security ≡ replicate (ring_size - 4) 0 = ap (λ (o : Option (List ℕ)). unwrap_or o []) c.second_is in
    record {
      node = x.here ∙ ap (λ bytes. Some bytes) (in-zeros (76 + length name) node_size (nk_bytes fields name) (held (heap_of i) root) zeros node_is
          ∙ ap (λ f. in_cell (76 + length name) (nk_bytes f name)) fields_are);
      ring = x.others security (λ e. c.apart (sym e)) ∙ (w.here
          ∙ ap (λ bytes. Some bytes) (in-zeros (20 + length descriptor) ring_size (sk_bytes ring descriptor) (held (heap_of b) security) empty ring_size_is
          ∙ ap (λ r. in_cell (20 + length descriptor) (sk_bytes r descriptor)) ring_is));
    }

-- a new root and its security stand in it
pub fresh_bin : (e b i k : Bins) (root security node_size ring_size : ℕ) (fields : KeyFields) (ring : SecurityFields) (name descriptor : List ℕ) (moment : ℕ) →
    e.bytes ≡ [] → fields ≡ root_fields security moment → ring ≡ record { flink = security; blink = security; count = 1 } →
    node_size ≡ cell_size (76 + length name) → ring_size ≡ cell_size (20 + length descriptor) → AreCarved e b root security node_size ring_size →
    CarvesExactly e.bytes b.bytes (node_size ∷ ring_size ∷ []) (root ∷ security ∷ []) →
    WritesRecord b i security (20 + length descriptor) (sk_bytes ring descriptor) → WritesRecord i k root (76 + length name) (nk_bytes fields name) →
    IsNewHive (record { bins = k; root = root; tree = tree_in k.bytes root }) name descriptor moment
fresh_bin e b i k root security node_size ring_size fields ring name descriptor moment none fields_are ring_are node_is ring_is carved_two exact w x =
    let sizes : node_size ∷ ring_size ∷ [] ≡ new_sizes name descriptor =
    ap (λ n. n ∷ ring_size ∷ []) node_is ∙ ap (λ n. cell_size (76 + length name) ∷ n ∷ []) ring_is in
    let c = subst (λ sizes. CarvesExactly [] b.bytes sizes (root ∷ security ∷ [])) sizes
    (subst (λ bytes. CarvesExactly bytes b.bytes (node_size ∷ ring_size ∷ []) (root ∷ security ∷ [])) none exact) in
    let cut = cut_first b.bytes (new_sizes name descriptor) (root ∷ security ∷ []) c in
    let here : root ≡ 32 = ap (λ offsets. get_or offsets 0 0) cut.offsets_are in
    let behind : security ≡ security_offset name = ap (λ offsets. get_or offsets 1 0) cut.offsets_are in
    let both = written e b i k root security node_size ring_size fields ring name descriptor moment fields_are ring_are node_is ring_is carved_two w x in
    record {
      size = cut.size;
      least = cut.least;
      root = here;
      cells = x.cells ∙ (w.cells ∙ cut.cells);
      node = subst (λ at. heap_of k at ≡ Some (in_cell (76 + length name) (nk_bytes (root_fields (security_offset name) moment) name))) here
          (subst (λ s. heap_of k root ≡ Some (in_cell (76 + length name) (nk_bytes (root_fields s moment) name))) behind both.node);
      security = subst (λ s. heap_of k s ≡ Some (in_cell (20 + length descriptor) (sk_bytes (record { flink = s; blink = s; count = 1 }) descriptor))) behind both.ring;
    }
