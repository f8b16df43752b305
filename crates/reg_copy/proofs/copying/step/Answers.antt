use Rattle.std.proofs.Common.{◌≡◌, sym, ap, ◌∙◌, subst, refl, ◌++◌, [], None, get_or}
use Rattle.std.specs.Prelude.{bit_and, reverse}
use Rattle.std.specs.FinMap.{get}
use Rattle.reg_heap.specs.Edits.{child_path}
use Rattle.reg_heap.specs.Paths.{Path, children_of}
use Rattle.reg_tree_text.proofs.SentTexts.{err_exits}
use Rattle.reg_copy.specs.Internal.Copying.{IsKeyCopied}
use Rattle.reg_copy.proofs.CopySteps.{next-there, free-next, refused-next, stepped}
use Rattle.reg_copy.proofs.copying.step.Goals as goal

pub copy_key-requires-clause-marks : goal.copy_key-requires-clause-marks
copy_key-requires-clause-marks c =
    let s = c.requires.3 in
    let above = c.requires.0 ++ s.are.1.below in
    let k = get_or (children_of c.args.source.now.tree above) s.are.1.index [] in
    let r = next-there c.args.source.now.tree above s.are.1.index s.are.1.subkey.within in
    subst (λ n. bit_and n 103 ≡ 0) (sym (c.marks-marks.ensures k s.are.1.subkey.at r.0 r.1)) (c.root.ensures.limits.keys k r.0 r.1).marks

pub copy_key-requires-clause-free : goal.copy_key-requires-clause-free
copy_key-requires-clause-free c p q r at e there =
    let s = c.requires.3 in
    let k = get_or (children_of c.args.source.now.tree (c.requires.0 ++ s.are.1.below)) s.are.1.index [] in
    subst (λ (x : Path). get c.args.target.now.tree (child_path x r.name) ≡ None)
    (c.root-2.ensures.one_path (c.requires.1 ++ s.are.1.below) q c.args.next.copy s.are.1.copy there)
    (free-next c.args.source.now c.args.target.now c.root.ensures.tree c.requires.0 c.requires.1 c.requires.2 c.args.next
    (reverse c.args.pending.now.items) s r
    (ap (get c.args.source.now.tree) (c.root.ensures.one_path k p c.args.next.subkey.node s.are.1.subkey.at at) ∙ e))

pub returns-in_err-copy-clause-err : goal.returns-in_err-copy-clause-err
returns-in_err-copy-clause-err c from to old s =
    let r = next-there c.args.source.now.tree (from ++ s.are.1.below) s.are.1.index s.are.1.subkey.within in
    err_exits _ c.from_residual-in_err-copy.result _ c.from_residual-in_err-copy.ensures.1
    (refused-next c.args.source.now c.args.target.now c.root.ensures.tree from to old c.args.next (reverse c.args.pending.now.items) s r.0 r.1
    c.root.ensures.limits _ (c.in_err-copy.ensures.err (to ++ s.are.1.below) s.are.1.copy))

pub returns-clause-ok : goal.returns-clause-ok
returns-clause-ok c from to old s =
    let above = from ++ s.are.1.below in
    let k = get_or (children_of c.args.source.now.tree above) s.are.1.index [] in
    let r = next-there c.args.source.now.tree above s.are.1.index s.are.1.subkey.within in
    stepped c.args.source.now c.args.target.now c.root.ensures.tree from to old c.args.next (reverse c.args.pending.now.items) s r.0 r.1
    c.copy_key.new.target c.in_ok-copy.copy
    (subst (λ n. IsKeyCopied c.args.target.now c.copy_key.new.target (to ++ s.are.1.below) r.0.name (record r.0 { marks = n }) c.in_ok-copy.copy)
    (c.marks-marks.ensures k s.are.1.subkey.at r.0 r.1)
    (c.in_ok-copy.ensures.ok k (to ++ s.are.1.below) r.0 s.are.1.subkey.at r.1 s.are.1.copy))
    c.args.pending.now.items c.note_next.new.pending.items c.note_first.new.pending.items refl s.are.1.subkey.at
    (c.in_ok-note_next.ensures above s.are.1.index s.are.1.at s.are.1.subkey)
    (c.in_ok-note_first.ensures k s.are.1.subkey.at)

pub returns-clause-nodes : goal.returns-clause-nodes
returns-clause-nodes c =
    let s = c.requires.3 in
    let above = c.requires.0 ++ s.are.1.below in
    let k = get_or (children_of c.args.source.now.tree above) s.are.1.index [] in
    let r = next-there c.args.source.now.tree above s.are.1.index s.are.1.subkey.within in
    (c.in_ok-copy.ensures.ok k (c.requires.1 ++ s.are.1.below) r.0 s.are.1.subkey.at r.1 s.are.1.copy).nodes
