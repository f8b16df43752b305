use Rattle.std.proofs.Common.{arith, rules, string_bytes}
use Rattle.std.proofs.lemmas.Str.Pattern.{split_parts}
use Rattle.reg_tables.proofs.Shielded.{shown_more, shown_all}
use Rattle.reg_tables.proofs.shield.shield.Goals as goal

pub loop-before-preserved : goal.loop-before-preserved
loop-before-preserved c =
    let cut = rw c.in-Some.is at (split_parts 60 c.loop-before.rest.now c.split_once.result c.split_once.ensures.cases (omega arith)) in (
      search rules,
      shown_more c.args.text.now (string_bytes c.loop-before.shown) c.loop-before.rest.now c.in-Some.before.now c.in-Some.behind.now _ _
          c.loop-before.invariant.1 cut.0 cut.1 c.in_ok-push_str.ensures.bytes c.in_ok-push_str-2.ensures.bytes,
    )

pub returns : goal.returns
returns c =
    let none = rw c.in_default.is at (split_parts 60 c.loop-before.rest.now c.split_once.result c.split_once.ensures.cases (omega arith)) in
    shown_all c.args.text.now (string_bytes c.loop-before.shown) c.loop-before.rest.now _ c.loop-before.invariant.1 none c.in_ok-push_str-3.ensures.bytes
