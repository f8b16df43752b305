use Rattle.std.proofs.Common.{arith, ◌≡◌, ◌∙◌, ◌+◌, ◌<◌, ◌∷◌, [], ◌++◌, ap, length, length-append, length-set, replicate, set, get_or}
use Rattle.std.proofs.lemmas.List.{length-replicate}
use Rattle.reg_heap.specs.declared.limits.TheConstants.{NONE}
use Rattle.reg_arena.proofs.Carving.LargestLeft.{all-place}
use Rattle.reg_arena.proofs.Carving.FallingCells.{carved-start, carved-more, carved-all, less-left, marked-behind, next-is, next-room, not-none, set-behind, times-replicate}
use Rattle.reg_arena.proofs.Carving.GrownBins.{no_fit-larger}
use Rattle.reg_arena.proofs.Carving.SpareBins.{none-before, spare-at, total_left, total_left-all, total_left-room, total_left-set}
use Rattle.reg_arena.proofs.Carving.ReservedRoom.{room_same, room-then}
use Rattle.reg_arena.proofs.each.carve_all.Goals as goal

pub loop-turn-init : goal.loop-turn-init
loop-turn-init c =
    let n = length c.args.sizes.now in
    let long = c.args.out.now.ok.0 in
    let from : c.len-from.result ≡ length c.args.out.now.items = c.len-from.ensures ∙ long in
    let ok = c.resize.ensures.succeeds (omega (arith, c.len-from.ensures, c.requires.room)) in
    let items = marked-behind c.resize.result NONE _ _ n _ _ ok from long c.resize.ensures.items in
    record {
      arena = c.requires.arena;
      split = c.requires.split;
      offsets = replicate n NONE;
      turn = [];
      items = items;
      carved = carved-start NONE c.args.bins.now.items c.args.sizes.now;
      left = (let all = times-replicate NONE n in omega (arith, all));
      keeps = room_same _ _;
      reserved = λ some none. (let all = total_left-all NONE c.args.sizes.now in c.requires.reserved (rw all at none));
      room =
          let now = ap length items ∙ length-append c.args.out.now.items (replicate n NONE) in
          let marks = length-replicate n NONE in
          omega (arith, now, marks, long, c.resize.new.self.ok.0, c.resize.ensures.capacity, c.requires.room);
    }

pub carve_to-requires-clause-limit : goal.carve_to-requires-clause-limit
carve_to-requires-clause-limit c =
    let v = c.loop-turn.invariant in
    let l = c.largest_left-place.ensures in
    let from = c.len-from.ensures ∙ c.args.out.now.ok.0 in
    let next = next-is NONE _ _ _ _ v.offsets _ _ c.deref.ensures.value v.items from l.within l.left l.first in
    let room = next-room NONE _ _ _ _ _ _ v.carved next in
    omega (arith, room, c.requires.limit)

pub carve_to-requires-clause-reserved : goal.carve_to-requires-clause-reserved
carve_to-requires-clause-reserved c =
    let v = c.loop-turn.invariant in
    let l = c.largest_left-place.ensures in
    let from = c.len-from.ensures ∙ c.args.out.now.ok.0 in
    let next = next-is NONE _ _ _ _ v.offsets _ _ c.deref.ensures.value v.items from l.within l.left l.first in
    let room = next-room NONE _ _ _ _ _ _ v.carved next in
    let k = v.keeps in
    let small = total_left-room NONE c.args.sizes.now v.offsets _ v.carved.long next.within next.left in
    let good = all-place _ c.args.sizes.now c.largest_left-place.result c.requires.sizes l.within in
    λ none. let r = (v.reserved (omega (arith, small, good.0)) (no_fit-larger _ _ _ small none)).0 in record {
      bytes = omega (arith, room, r.bytes, k.bytes);
      marks_long = omega (arith, room, r.marks_long, k.tables.marks_long);
      firsts_long = omega (arith, r.firsts_long, k.tables.firsts_long);
      words_long = omega (arith, r.words_long, k.tables.words_long);
    }

pub carve_to-requires-clause-spare : goal.carve_to-requires-clause-spare
carve_to-requires-clause-spare c =
    let v = c.loop-turn.invariant in
    let l = c.largest_left-place.ensures in
    let from = c.len-from.ensures ∙ c.args.out.now.ok.0 in
    let next = next-is NONE _ _ _ _ v.offsets _ _ c.deref.ensures.value v.items from l.within l.left l.first in
    let small = total_left-room NONE c.args.sizes.now v.offsets _ v.carved.long next.within next.left in
    let good = all-place _ c.args.sizes.now c.largest_left-place.result c.requires.sizes l.within in
    λ none. let r = v.reserved (omega (arith, small, good.0)) (no_fit-larger _ _ _ small none) in
    spare-at NONE _ v.offsets _ _ r.1 next.within next.left

pub loop-turn-preserved : goal.loop-turn-preserved
loop-turn-preserved c =
    let v = c.loop-turn.invariant in
    let l = c.largest_left-place.ensures in
    let from = c.len-from.ensures ∙ c.args.out.now.ok.0 in
    let next = next-is NONE _ _ _ _ v.offsets _ _ c.deref.ensures.value v.items from l.within l.left l.first in
    let one = c.carve_to.ensures.carves in
    let good = all-place _ c.args.sizes.now c.largest_left-place.result c.requires.sizes l.within in
    let differs = not-none _ _ _ _ one.0 c.carve_to.ensures.arena good one.2 in
    let there : c.largest_left-place.result < length v.offsets = omega (arith, l.within, v.carved.long) in
    let long = ap length one.1 ∙ length-set c.loop-turn.out.items (c.len-from.result + c.largest_left-place.result) one.0 in
    record {
      arena = c.carve_to.ensures.arena;
      split = c.carve_to.ensures.split;
      offsets = set v.offsets c.largest_left-place.result one.0;
      turn = v.turn ++ c.largest_left-place.result ∷ [];
      items = set-behind _ _ _ v.offsets _ _ one.0 v.items from one.1;
      carved = carved-more NONE _ _ _ _ _ _ _ one.0 v.carved next c.requires.sizes differs one.2;
      left = (let less = less-left NONE v.offsets c.largest_left-place.result one.0 there next.left differs in omega (arith, less, v.left));
      keeps = room-then _ _ _ _ _ _ v.keeps c.carve_to.ensures.keeps;
      room = omega (arith, v.room, long, c.loop-turn.out.ok.0, c.carve_to.new.out.ok.0, c.carve_to.ensures.out_capacity);
      reserved = λ some none.
          let rest = total_left-set NONE c.args.sizes.now v.offsets _ one.0 v.carved.long next.within next.left differs in
          let before = none-before _ _ _ one.0 _ some one.2 none in
          let sum : get_or c.args.sizes.now c.largest_left-place.result 0 + total_left NONE c.args.sizes.now (set v.offsets c.largest_left-place.result one.0) ≡
          total_left NONE c.args.sizes.now v.offsets = omega (arith, rest) in
          let r = v.reserved (omega (arith, rest, some)) (rw sum at before) in
          (r.0, c.carve_to.ensures.left _ v.offsets one.0 r.1 differs);
    }

pub returns-clause-each : goal.returns-clause-each
returns-clause-each c =
    let v = c.loop-turn.invariant in
    let all = carved-all NONE _ _ _ _ _ v.carved (omega (arith, v.left, c.loop-turn-test.false)) in
    (v.offsets, v.items, all.0, all.1)
