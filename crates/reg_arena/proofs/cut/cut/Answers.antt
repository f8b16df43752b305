use Rattle.std.proofs.Common.{◌≡◌, ℕ, ◌<◌, ◌+◌, ◌∷◌, [], ◌++◌, List, ap, ◌∙◌, append_assoc, arith, take, get_or, vec_len, vec_capacity}
use Rattle.std.proofs.lemmas.List.{take_more}
use Rattle.reg_arena.specs.NewCells.{offsets_of, total_of}
use Rattle.reg_arena.proofs.Carving.CarveCuts.{cut-more, total_of-room, total_of-more, offsets_of-push}
use Rattle.reg_arena.proofs.Tiling.BinParts.{in_part-inside}
use Rattle.reg_arena.proofs.cut.cut.Goals as goal

pub cut_one-requires-clause-fits : goal.cut_one-requires-clause-fits
cut_one-requires-clause-fits c =
    omega (arith, total_of-room c.args.sizes.now c.loop-size.size-index c.loop-size-test.true, c.loop-size.invariant.at, c.loop-size.invariant.cut.region.long)

pub cut_one-requires-clause-part : goal.cut_one-requires-clause-part
cut_one-requires-clause-part c =
    let room = total_of-room c.args.sizes.now c.loop-size.size-index c.loop-size-test.true in
    let at = c.loop-size.invariant.at in
    rw c.loop-size.invariant.parts
    (λ some. (in_part-inside c.args.bins.now.parts c.args.cell (total_of c.args.sizes.now) c.loop-size.at _ (omega (arith, at)) (omega (arith, at, room)) c.requires.part some))

pub loop-size-preserved : goal.loop-size-preserved
loop-size-preserved c =
    let i = c.loop-size.size-index in
    let sizes = c.args.sizes.now in
    let v = c.loop-size.invariant in
    let more : take (i + 1) sizes ≡ take i sizes ++ get_or sizes i 0 ∷ [] = take_more sizes i 0 c.loop-size-test.true in
    let room : vec_len c.loop-size.out < vec_capacity c.loop-size.out = omega (arith, v.room) in
    let ok = c.push.ensures.succeeds room in
    let items = rw ok at c.push.ensures.items in
    let len = rw ok at c.push.ensures.len in
    record {
      cut = rw more (cut-more c.args.bins.now.items c.loop-size.bins.items c.cut_one.new.bins.items c.args.cell (take i sizes)
          (get_or sizes i 0) c.loop-size.at v.at v.cut c.cut_one.ensures.region c.cut_one.ensures.cell c.cut_one.ensures.zero);
      at = omega (arith, v.at, total_of-more sizes i c.loop-size-test.true);
      out = rw (more, offsets_of-push c.args.cell (take i sizes) (get_or sizes i 0), ← v.at) (items ∙
          ap (λ (t : List ℕ). t ++ c.loop-size.at ∷ []) v.out ∙ append_assoc c.args.out.now.items (offsets_of c.args.cell (take i sizes))
          (c.loop-size.at ∷ []));
      room = omega (arith, v.room, len, c.push.ensures.capacity, c.loop-size-test.true);
      bins_room = omega (arith, v.bins_room, c.cut_one.ensures.room);
      parts = c.cut_one.ensures.parts ∙ v.parts;
      out_capacity = omega (arith, v.out_capacity, c.push.ensures.capacity);
    }
