use Rattle.std.proofs.Common.{w64, arith, ◌≡◌, get_or, ◌/◌, ◌%◌, ◌<◌, ◌∙◌, ap}
use Rattle.std.specs.Int.{bit_at}
use Rattle.std.proofs.lemmas.List.{get_or_default}
use Rattle.std.proofs.lemmas.Nat.Bits.{bit_at_set_same, bit_at_set_other}
use Rattle.reg_arena.proofs.FreeList.SizeBits.{word-set}
use Rattle.reg_arena.proofs.bitmap.set_bit.Goals as goal

-- src/bitmap.rt:5:1
pub returns-clause-bits : goal.returns-clause-bits
returns-clause-bits c =
    let e : c.index-word.result.now ≡ get_or c.args.words.now.items (c.args.i / 64) 0 = c.index-word.ensures ∙ get_or_default _ _ _ 0 c.requires in
    let l : c.args.i % 64 < 64 = omega arith in
    word-set _ _ 1 _ c.requires (bit_at_set_same w64 _ _ l) (λ j k n. bit_at_set_other w64 _ _ l j n ∙ ap (λ x. bit_at x j) e)
