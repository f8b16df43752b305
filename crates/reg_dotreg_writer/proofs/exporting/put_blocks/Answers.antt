use Rattle.std.proofs.Common.{ap, ◌∙◌}
use Rattle.std.specs.Prelude.{flat_map}
use Rattle.reg_tree_text.proofs.SentTexts.{ends, stops_full, exits}
use Rattle.reg_tree_text.proofs.CountedKeys.{went, ended}
use Rattle.reg_dotreg_writer.specs.Internal.Pieces.{block_pieces}
use Rattle.reg_dotreg_writer.proofs.FileSteps.{block_next}
use Rattle.reg_dotreg_writer.proofs.exporting.put_blocks.Goals as goal

pub loop-key-init : goal.loop-key-init
loop-key-init g c = λ all goes. (record { now = all; goes = goes }, λ begin whole left s. s)

pub put_key-requires : goal.put_key-requires
put_key-requires g c = let w = (c.loop-key.invariant c.requires.0 c.requires.1).0 in (w.goes.stands.path, w.goes.stands.at)

pub returns-in_err-put_key : goal.returns-in_err-put_key
returns-in_err-put_key g c =
    λ all goes begin whole left s.
    (let v = c.loop-key.invariant all goes in
    let n = v.0.goes in
    exits _ _ _ _ c.from_residual.ensures.1
    (c.in_err-put_key.ensures n.stands.path n.stands.at n.told n.stands.key (c.deref.ensures.value ∙ n.stands.text) begin whole _
    (block_next begin _ whole c.args.is_utf8 v.0.now n.rest n.told left _ _ n.all_is (v.1 begin whole left s))))

pub advance-requires : goal.advance-requires
advance-requires g c =
    let n = (c.loop-key.invariant c.requires.0 c.requires.1).0.goes in (n.told, n.rest, n.stands)

pub returns-in_err-advance : goal.returns-in_err-advance
returns-in_err-advance g c =
    λ all goes begin whole left s.
    (let v = c.loop-key.invariant all goes in
    let n = v.0.goes in
    exits _ _ _ _ c.from_residual-in_err-advance.ensures.1
    (stops_full begin _ whole _ _ _
    (c.in_ok-put_key.ensures n.stands.path n.stands.at n.told n.stands.key (c.deref.ensures.value ∙ n.stands.text) begin whole _
    (block_next begin _ whole c.args.is_utf8 v.0.now n.rest n.told left _ _ n.all_is (v.1 begin whole left s)))))

pub returns-then-not-branch : goal.returns-then-not-branch
returns-then-not-branch g c =
    λ all goes begin whole left s.
    (let v = c.loop-key.invariant all goes in
    let n = v.0.goes in
    ends begin _ whole _ left _ _
    (c.in_ok-put_key.ensures n.stands.path n.stands.at n.told n.stands.key (c.deref.ensures.value ∙ n.stands.text) begin whole _
    (block_next begin _ whole c.args.is_utf8 v.0.now n.rest n.told left _ _ n.all_is (v.1 begin whole left s)))
    (ap (flat_map (block_pieces c.args.is_utf8)) (ended _ _ _ _ c.if-not-branch.true (c.in_ok-advance.ensures n.told n.rest n.stands))))

pub loop-key-preserved : goal.loop-key-preserved
loop-key-preserved g c =
    λ all goes.
    (let v = c.loop-key.invariant all goes in
    let n = v.0.goes in (
      record { now = n.rest; goes = went _ _ _ _ c.if-not-branch.false (c.in_ok-advance.ensures n.told n.rest n.stands) },
      λ begin whole left s.
          c.in_ok-put_key.ensures n.stands.path n.stands.at n.told n.stands.key (c.deref.ensures.value ∙ n.stands.text) begin whole _
          (block_next begin _ whole c.args.is_utf8 v.0.now n.rest n.told left _ _ n.all_is (v.1 begin whole left s)),
    ))

pub returns : goal.returns
returns g c = λ all goes begin whole left s. stops_full begin _ whole _ _ _ ((c.loop-key.invariant all goes).1 begin whole left s)
