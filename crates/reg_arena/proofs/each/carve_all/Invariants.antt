use Rattle.std.proofs.Common.{◌≡◌, ℕ, ◌+◌, ◌<◌, ◌≤◌, List, ◌++◌, length, vec_len, vec_capacity}
use Rattle.reg_heap.specs.declared.limits.TheConstants.{NONE}
use Rattle.reg_heap.specs.Kinds.{times}
use Rattle.reg_arena.specs.Internal.ListedCells.{IsIndexed}
use Rattle.reg_arena.specs.Carves.{NoFit}
use Rattle.reg_arena.specs.EachCell.{fresh_of}
use Rattle.reg_arena.specs.Internal.BinParts.{IsSplit}
use Rattle.reg_arena.specs.Internal.Spares.{AreSpare}
use Rattle.reg_arena.specs.Internal.Reserved.{AreReserved, KeepsRoom}
use Rattle.reg_arena.proofs.Carving.SpareBins.{total_left}
use Rattle.reg_arena.proofs.Carving.FallingCells.{IsCarved}
use Rattle.reg_arena.proofs.each.carve_all.Given as goal

abbrev pub invariant-loop-turn : goal.invariant-loop-turn
invariant-loop-turn l = record {
  arena : IsIndexed l.bins.items l.lists;
  split : IsSplit l.bins.items l.bins.parts;
  offsets : List ℕ;
  turn : List ℕ;
  items : l.out.items ≡ l.fn.out.items ++ offsets;
  carved : IsCarved NONE l.fn.bins.items l.bins.items l.sizes offsets turn;
  left : times NONE offsets + l._turn ≡ length l.sizes;
  keeps : KeepsRoom l.fn.bins.room l.fn.lists l.bins.room l.lists;
  room : vec_len l.out + 1 ≤ vec_capacity l.out;
  reserved : 0 < total_left NONE l.sizes offsets → NoFit l.bins.items (total_left NONE l.sizes offsets) →
      AreReserved (length l.fn.bins.items + fresh_of l.sizes) l.fn.bins.room l.fn.lists × AreSpare NONE l.sizes offsets l.spares.items;
}
