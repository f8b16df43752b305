use Rattle.std.proofs.Common.{arith}
use Rattle.reg_arena.proofs.Tiling.ArenaFaults.{on_ok}
use Rattle.reg_arena.proofs.bin.blank_bin.Goals as goal

pub returns-in_err-make_room-clause-listed : goal.returns-in_err-make_room-clause-listed
returns-in_err-make_room-clause-listed c = λ free w. c.in_err-make_room.ensures.listed _ free w

pub returns-in_err-reserve-clause-listed : goal.returns-in_err-reserve-clause-listed
returns-in_err-reserve-clause-listed c = λ free w. c.in_ok-make_room.ensures.listed _ free w

pub returns-clause-listed : goal.returns-clause-listed
returns-clause-listed c = λ free w. c.in_ok-make_room.ensures.listed _ free w

pub returns-clause-ok : goal.returns-clause-ok
returns-clause-ok c =
    let long = c.len.ensures.long in
    let room = c.in_ok-make_room.ensures.ok in
    on_ok c.blank.result _ (record {
      bytes = omega (arith, c.in_ok-reserve.ensures.ok, c.requires.pages);
      marks_long = omega (arith, room.marks, long, c.requires.pages);
      firsts_long = room.firsts;
      words_long = room.words;
    })
