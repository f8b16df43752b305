use Rattle.std.proofs.Common.{◌+◌, ◌-◌, length, length-drop, drop, arith}
use Rattle.std.proofs.lemmas.List.{take_all}
use Rattle.reg_words.proofs.FieldLemmas.{gathered_fields}
use Rattle.reg_words.proofs.fields.read_ignored.Goals as goal

pub loop-at-preserved : goal.loop-at-preserved
loop-at-preserved c =
    gathered_fields c.args.text.now c.loop-at.rest.now _ _ _ c.loop-at.ignored c.in_ok-field_of.field-0 c.both-ignored.result _ c.loop-at.invariant
    c.in-Some.ensures.1 c.field_of.ensures c.in_ok-field_of.was c.both-ignored.ensures
    (take_all (length c.loop-at.rest.now - (c.in-Some.at + 1)) (drop (c.in-Some.at + 1) c.loop-at.rest.now) (simp length-drop (omega arith)))
