use Rattle.std.proofs.Common.{◌≡◌, false, true, is_ok, sym, ◌∙◌, subst, arith}
use Rattle.reg_shape.specs.Nodes.{letters}
use Rattle.reg_tree_image.specs.Internal.NameReadings.{is_allowed_in}
use Rattle.reg_tree_image.proofs.Readers.LetterReadings.{AreRead, wide-length, none-read, more-read, bad-letter, good-letters}
use Rattle.reg_tree_image.proofs.names.wide_letters.Goals as goal

pub loop-index-init : goal.loop-index-init
loop-index-init c =
    subst (λ read. AreRead (letters false c.args.name.now) (is_allowed_in c.args.key) 0 read) (sym c.in-Ok.ensures.items)
    (none-read (letters false c.args.name.now) (is_allowed_in c.args.key))

pub letter_at-letter-requires-clause-within : goal.letter_at-letter-requires-clause-within
letter_at-letter-requires-clause-within c = let n = wide-length c.args.name.now c.requires in let m = c.loop-index-test.true in omega (arith, n, m)

pub returns-then-not-is_allowed : goal.returns-then-not-is_allowed
returns-then-not-is_allowed c =
    bad-letter (letters false c.args.name.now) (is_allowed_in c.args.key) c.loop-index.index c.loop-index.read.items c.loop-index.invariant
    c.letter_at-letter.result c.letter_at-letter.ensures (sym c.is_allowed.ensures ∙ c.if-not-is_allowed.true)

pub loop-index-preserved : goal.loop-index-preserved
loop-index-preserved c =
    let ok : is_ok c.push.result ≡ true = rw c.if-is_err.false at c.is_err.ensures.negation in
    let items = rw ok at c.push.ensures.items in
    rw items (more-read (letters false c.args.name.now) (is_allowed_in c.args.key) c.loop-index.index c.loop-index.read.items c.letter_at-letter.result
    c.loop-index.invariant c.letter_at-letter.ensures (sym c.is_allowed.ensures ∙ c.if-not-is_allowed.false))

pub returns : goal.returns
returns c =
    good-letters (letters false c.args.name.now) (is_allowed_in c.args.key) c.loop-index.index c.loop-index.read.items c.loop-index.invariant
    (let n = wide-length c.args.name.now c.requires in let m = c.loop-index-test.false in omega (arith, n, m))
