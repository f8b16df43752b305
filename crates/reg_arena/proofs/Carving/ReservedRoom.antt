-- Room that is kept from one step to the next.
use Rattle.std.proofs.Common.{ℕ, ◌/◌, arith}
use Rattle.reg_arena.specs.declared.free_lists.FreeLists.{FreeLists}
use Rattle.reg_arena.specs.Internal.ListedCells.{HasRoom}
use Rattle.reg_arena.specs.Internal.Reserved.{AreReserved, KeepsTables, KeepsRoom}

pub tables-then : (a b c : FreeLists) → KeepsTables a b → KeepsTables b c → KeepsTables a c
tables-then a b c one two = record {
  marks_long = omega (arith, one.marks_long, two.marks_long);
  firsts_long = omega (arith, one.firsts_long, two.firsts_long);
  words_long = omega (arith, one.words_long, two.words_long);
}

pub room-then : (p : ℕ) (a : FreeLists) (q : ℕ) (b : FreeLists) (r : ℕ) (c : FreeLists) → KeepsRoom p a q b → KeepsRoom q b r c → KeepsRoom p a r c
room-then p a q b r c one two = record {
  bytes = omega (arith, one.bytes, two.bytes);
  tables = tables-then a b c one.tables two.tables;
}

pub room_same : (p : ℕ) (a : FreeLists) → KeepsRoom p a p a
room_same p a = record {
  bytes = omega arith;
  tables = record { marks_long = omega arith; firsts_long = omega arith; words_long = omega arith };
}

pub tables-first : (p : ℕ) (a b : FreeLists) (q : ℕ) (c : FreeLists) → KeepsTables a b → KeepsRoom p b q c → KeepsRoom p a q c
tables-first p a b q c one two = record { bytes = two.bytes; tables = tables-then a b c one two.tables }

pub reserved-then : (limit capacity : ℕ) (a b : FreeLists) → KeepsTables a b → AreReserved limit capacity a → AreReserved limit capacity b
reserved-then limit capacity a b k r = record {
  bytes = r.bytes;
  marks_long = omega (arith, k.marks_long, r.marks_long);
  firsts_long = omega (arith, k.firsts_long, r.firsts_long);
  words_long = omega (arith, k.words_long, r.words_long);
}

pub reserved-room : (limit capacity : ℕ) (lists : FreeLists) → AreReserved limit capacity lists → HasRoom (limit / 8) lists
reserved-room limit capacity lists r = record { marks = omega (arith, r.marks_long); firsts = r.firsts_long; words = r.words_long }
