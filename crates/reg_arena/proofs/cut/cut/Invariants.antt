use Rattle.std.proofs.Common.{◌≡◌, ◌+◌, ◌-◌, ◌≤◌, ◌++◌, length, take, vec_len, vec_capacity}
use Rattle.reg_arena.specs.NewCells.{total_of, offsets_of}
use Rattle.reg_arena.proofs.Carving.CarveCuts.{CutTo}
use Rattle.reg_arena.proofs.cut.cut.Given as goal

abbrev pub invariant-loop-size : goal.invariant-loop-size
invariant-loop-size l = record {
  cut : CutTo l.initial.bins.items l.bins.items l.cell (take l.size-index l.sizes);
  at : l.at ≡ l.cell + total_of (take l.size-index l.sizes);
  out : l.out.items ≡ l.initial.out.items ++ offsets_of l.cell (take l.size-index l.sizes);
  room : vec_len l.out + (length l.sizes - l.size-index) ≤ vec_capacity l.out;
  bins_room : l.bins.room ≡ l.initial.bins.room;
  parts : l.bins.parts ≡ l.initial.bins.parts;
  out_capacity : vec_capacity l.initial.out ≤ vec_capacity l.out;
}
