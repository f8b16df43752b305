use Rattle.std.proofs.Common.{ap, sym, ◌∙◌}
use Rattle.std.specs.Prelude.{flat_map}
use Rattle.reg_tree_text.proofs.SentTexts.{swapped, ends, stops_full, exits}
use Rattle.reg_tree_text.proofs.CountedKeys.{went, ended}
use Rattle.reg_tree_text.proofs.ListedKeys.{amid_start}
use Rattle.reg_tables.specs.LongListings.{told_lines}
use Rattle.reg_tables.proofs.LongLines.{first-next}
use Rattle.reg_tables.proofs.long_listing.put_below.Goals as goal

pub loop-key-init : goal.loop-key-init
loop-key-init g c =
    λ p at.
    (let a = amid_start _ p _ _ at (c.name-name.ensures.key p at) c.new-walk.ensures.node c.new-walk.ensures.path c.new-walk.ensures.pending in
    (a.0, λ begin whole left s. swapped begin _ whole _ _ left _ _ s (ap (flat_map (told_lines c.args.columns)) (sym a.1))))

pub advance-requires : goal.advance-requires
advance-requires g c = let a = (c.loop-key.invariant c.requires.0 c.requires.1).0 in (a.here, a.rest, a.stands)

pub returns-in_err-advance : goal.returns-in_err-advance
returns-in_err-advance g c =
    λ p at begin whole left s.
    exits _ _ _ _ c.from_residual.ensures.1 (stops_full begin _ whole _ _ _ ((c.loop-key.invariant p at).1 begin whole left s))

pub returns-then-not-branch : goal.returns-then-not-branch
returns-then-not-branch g c =
    λ p at begin whole left s.
    (let v = c.loop-key.invariant p at in
    let a = v.0 in
    ends begin _ whole _ left _ _ (v.1 begin whole left s)
    (ap (flat_map (told_lines c.args.columns)) (ended _ _ _ _ c.if-not-branch.true (c.in_ok-advance.ensures a.here a.rest a.stands))))

pub put_key-requires : goal.put_key-requires
put_key-requires g c =
    let a = (c.loop-key.invariant c.requires.0 c.requires.1).0 in
    let n = went _ _ _ _ c.if-not-branch.false (c.in_ok-advance.ensures a.here a.rest a.stands) in
    (_, n.stands.at)

pub returns-in_err-put_key : goal.returns-in_err-put_key
returns-in_err-put_key g c =
    λ p at begin whole left s.
    (let v = c.loop-key.invariant p at in
    let a = v.0 in
    let n = went _ _ _ _ c.if-not-branch.false (c.in_ok-advance.ensures a.here a.rest a.stands) in
    exits _ _ _ _ c.from_residual-in_err-put_key.ensures.1
    (c.in_err-put_key.ensures n.stands.path n.stands.at n.told n.stands.key (c.deref.ensures.value ∙ n.stands.text) begin whole _
    (first-next begin _ whole (told_lines c.args.columns) a.rest n.rest n.told left _ _ n.all_is (v.1 begin whole left s))))

pub loop-key-preserved : goal.loop-key-preserved
loop-key-preserved g c =
    λ p at.
    (let v = c.loop-key.invariant p at in
    let a = v.0 in
    let n = went _ _ _ _ c.if-not-branch.false (c.in_ok-advance.ensures a.here a.rest a.stands) in (
      record { here = n.told; rest = n.rest; stands = n.stands },
      λ begin whole left s.
          c.in_ok-put_key.ensures n.stands.path n.stands.at n.told n.stands.key (c.deref.ensures.value ∙ n.stands.text) begin whole _
          (first-next begin _ whole (told_lines c.args.columns) a.rest n.rest n.told left _ _ n.all_is (v.1 begin whole left s)),
    ))

pub returns : goal.returns
returns g c = λ p at begin whole left s. stops_full begin _ whole _ _ _ ((c.loop-key.invariant p at).1 begin whole left s)
