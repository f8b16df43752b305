use Rattle.std.proofs.Common.{arith, ◌++◌, ℕ, List, length, ap, ◌∙◌, length-append, replicate, sym}
use Rattle.reg_arena.proofs.Carving.NewBinBytes.{length-headed}
use Rattle.reg_arena.proofs.Carving.BinAppend.{added, added-split}
use Rattle.reg_arena.proofs.bin.add_bin.Goals as goal

pub put_free-requires : goal.put_free-requires
put_free-requires c =
    let old = c.args.bins.now.items in
    let long = ap length c.push.ensures.items ∙ length-append old c.args.blank.items in
    let header = length-headed c.len-at.result c.len-size.result c.push.new.self.items (omega (arith, long, c.len-at.ensures.long, c.requires.some)) in
    rw c.put_header.ensures.bytes (omega (arith, header, long, c.len-at.ensures.long, c.requires.some))

pub returns-clause-added : goal.returns-clause-added
returns-clause-added c = λ lists total i units least some.
    let at = c.len-at.ensures.long in
    let size = c.len-size.ensures ∙ c.args.blank.ok.0 in
    let long = c.push.ensures.items ∙ ap (λ (xs : List ℕ). c.args.bins.now.items ++ xs) (c.requires.zeros ∙ ap (λ (n : ℕ). replicate n 0) (sym size)) in
    added _ _ _ _ _ 4294967295 c.len-at.result c.len-size.result total at (omega (arith, size, c.requires.limit)) (omega arith)
    (omega (arith, size, c.requires.some)) long c.put_header.ensures.bytes c.put_free.ensures.bytes i (rw size units) (rw size least) some

pub returns-clause-split : goal.returns-clause-split
returns-clause-split c = λ a split.
    let at = c.len-at.ensures.long in
    let size = c.len-size.ensures ∙ c.args.blank.ok.0 in
    let long = c.push.ensures.items ∙ ap (λ (xs : List ℕ). c.args.bins.now.items ++ xs) (c.requires.zeros ∙ ap (λ (n : ℕ). replicate n 0) (sym size)) in
    let parts = c.put_free.ensures.parts ∙ c.put_header.ensures.parts ∙ c.push.ensures.parts in
    rw (parts, ← size) (added-split _ _ _ _ _ 4294967295 c.len-at.result c.len-size.result at (omega (arith, size, c.requires.limit)) (omega arith)
    (omega (arith, size, c.requires.some)) (rw size c.requires.pages) long c.put_header.ensures.bytes c.put_free.ensures.bytes a split)
