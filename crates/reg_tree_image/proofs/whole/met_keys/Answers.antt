use Rattle.std.proofs.Common.{◌∙◌, sym, Err}
use Rattle.std.proofs.lemmas.Bool.{false≢true}
use Rattle.reg_tree_image.proofs.Devices.InputPieces.{exit-with}
use Rattle.reg_tree_image.proofs.Devices.TreesOfBins.{scan-meets, scanned, test-fails}
use Rattle.reg_tree_image.proofs.WalkedBack.RingsFound.{scanned-bins, met-is, not-whole}
use Rattle.reg_tree_image.proofs.whole.met_keys.Goals as goal

pub returns-in_err-table-clause-err : goal.returns-in_err-table-clause-err
returns-in_err-table-clause-err c =
    exit-with _ c.from_residual.result _ c.from_residual.ensures.1 (scan-meets c.args.bins.now 5 c.args.root _ c.in_err-table.ensures)

pub is_arena-requires-clause-tiled : goal.is_arena-requires-clause-tiled
is_arena-requires-clause-tiled c = scanned-bins c.args.bins.now c.in_ok-table.table.states.items c.in_ok-table.ensures

pub returns-then-not-is_arena-clause-ok : goal.returns-then-not-is_arena-clause-ok
returns-then-not-is_arena-clause-ok c = λ a w. absurd (false≢true (sym c.if-not-is_arena.true ∙ c.is_arena.ensures.1 a))

pub check_keys-requires-clause-table : goal.check_keys-requires-clause-table
check_keys-requires-clause-table c = scanned c.args.bins.now 5 c.args.root _ c.in_ok-table.ensures

pub returns-in_err-check_keys-clause-err : goal.returns-in_err-check_keys-clause-err
returns-in_err-check_keys-clause-err c =
    exit-with _ c.from_residual-in_err-check_keys.result _ c.from_residual-in_err-check_keys.ensures.1
    (test-fails c.args.bins.now 5 c.args.root _ c.in_ok-table.ensures (Err c.in_err-check_keys.field-0.0) c.in_err-check_keys.ensures.err)

pub returns-then-not-is_named-clause-ok : goal.returns-then-not-is_named-clause-ok
returns-then-not-is_named-clause-ok c = λ a w.
    let k = c.in_ok-check_keys.ensures.ok in
    not-whole c.args.bins.now c.args.root c.in_ok-table.table.states.items c.in_ok-table.ensures k.0 k.1 c.check_keys.new.table.states.items k.2
    (λ n. absurd (false≢true (sym c.if-not-is_named.true ∙ c.is_named.ensures.1 n))) w

pub returns-clause-ok : goal.returns-clause-ok
returns-clause-ok c =
    let k = c.in_ok-check_keys.ensures.ok in (
      c.is_arena.ensures.0 c.if-not-is_arena.false,
      met-is c.args.bins.now c.args.root c.in_ok-table.table.states.items c.in_ok-table.ensures k.0 k.1 c.check_keys.new.table.states.items k.2
          (c.is_named.ensures.0 c.if-not-is_named.false) c.check_keys.new.noted.items k.3,
    )
