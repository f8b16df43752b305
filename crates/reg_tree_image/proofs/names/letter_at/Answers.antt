use Rattle.std.proofs.Common.{◌∙◌, ap, arith, Some, ◌+◌, ◌*◌, get_or, sym}
use Rattle.reg_tree_image.proofs.Readers.LetterReadings.{letter-within, wide-letter}
use Rattle.reg_tree_image.proofs.names.letter_at.Goals as goal

pub overflow_mul-index : goal.overflow_mul-index
overflow_mul-index c = let w = letter-within c.args.name.now c.args.index c.requires.even c.requires.within in omega (arith, w, c.requires.small)

pub bounds-name-index : goal.bounds-name-index
bounds-name-index c = let w = letter-within c.args.name.now c.args.index c.requires.even c.requires.within in omega (arith, w)

pub overflow_mul-index-2 : goal.overflow_mul-index-2
overflow_mul-index-2 c = let w = letter-within c.args.name.now c.args.index c.requires.even c.requires.within in omega (arith, w, c.requires.small)

pub overflow_add-index : goal.overflow_add-index
overflow_add-index c = let w = letter-within c.args.name.now c.args.index c.requires.even c.requires.within in omega (arith, w, c.requires.small)

pub bounds-name-index-2 : goal.bounds-name-index-2
bounds-name-index-2 c = letter-within c.args.name.now c.args.index c.requires.even c.requires.within

pub returns : goal.returns
returns c =
    wide-letter c.args.name.now c.requires.even c.args.index c.requires.within
    ∙ ap (λ low. Some (low + 256 * get_or c.args.name.now (2 * c.args.index + 1) 0)) (sym c.from-low.ensures)
    ∙ ap (λ high. Some (c.from-low.result + 256 * high)) (sym c.from-high.ensures)
