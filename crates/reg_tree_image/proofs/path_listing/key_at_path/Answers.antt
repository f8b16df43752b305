use Rattle.std.proofs.Common.{rules, ◌≤◌, ◌%◌, ◌++◌, length, sym, ap, ◌∙◌, subst}
use Rattle.std.proofs.KnownBytes.{Consumes-trans}
use Rattle.reg_text.proofs.FailureCounts.{stays-then}
use Rattle.reg_names.specs.Names.{path_of}
use Rattle.reg_tree_image.specs.Images.{nothing}
use Rattle.reg_tree_image.specs.PathLoads.{key_walk, IsKeyOf}
use Rattle.reg_tree_image.specs.KeysAtPaths.{listing_there}
use Rattle.reg_tree_image.proofs.Devices.InputPieces.{exit-with}
use Rattle.reg_tree_image.proofs.Devices.BlockTests.{block-good, block-meets}
use Rattle.reg_tree_image.proofs.Devices.OwnLoads.{spared-cut, spared-block, spared-bins}
use Rattle.reg_tree_image.proofs.Devices.OwnPaths.{spared-path}
use Rattle.reg_tree_image.proofs.Devices.PathsAsLoaded.{key-answers}
use Rattle.reg_tree_image.proofs.Devices.PathsRead.{key-sound, missed-before-block, missed-at-block, missed-before-bins, missed-here, listing-there, bins-missed, bins-blamed}
use Rattle.reg_tree_image.proofs.Devices.ReadFailures.{exit-either, blamed-then, image-stays}
use Rattle.reg_tree_image.proofs.path_listing.key_at_path.Goals as goal

pub returns-in_err-fill-clause-err : goal.returns-in_err-fill-clause-err
returns-in_err-fill-clause-err g c =
    exit-with _ c.from_residual.result _ c.from_residual.ensures.1
    (let p = c.in_err-fill.ensures.err in missed-here (key-sound (path_of c.args.path.now)) p.0 p.1
    (missed-before-block (key-sound (path_of c.args.path.now)) _ p.0 _ p.2))

pub returns-in_err-block-clause-err : goal.returns-in_err-block-clause-err
returns-in_err-block-clause-err g c =
    exit-with _ c.from_residual-in_err-block.result _ c.from_residual-in_err-block.ensures.1
    (missed-here (key-sound (path_of c.args.path.now)) c.fill.new.buffer c.in_ok-fill.ensures.ok
    (missed-at-block (key-sound (path_of c.args.path.now)) c.fill.new.buffer (search rules) _ _ (c.in_err-block.ensures nothing)))

pub returns-in_err-bins-clause-err : goal.returns-in_err-bins-clause-err
returns-in_err-bins-clause-err g c =
    let block = c.in_ok-block.ensures nothing in
    let good = block-good _ _ _ _ block in
    exit-with _ c.from_residual-in_err-bins.result _ c.from_residual-in_err-bins.ensures.1
    (let p = c.in_err-bins.ensures.err in
    missed-here (key-sound (path_of c.args.path.now)) (c.fill.new.buffer ++ p.0) (Consumes-trans _ _ _ c.fill.new.buffer p.0 c.in_ok-fill.ensures.ok p.1)
    (missed-before-bins (key-sound (path_of c.args.path.now)) c.fill.new.buffer (search rules) c.in_ok-block.block block p.0 _ _ good.small p.2))

pub key_in_bins-requires-clause-pages : goal.key_in_bins-requires-clause-pages
key_in_bins-requires-clause-pages g c =
    let good = block-good _ _ _ _ (c.in_ok-block.ensures nothing) in
    ap (λ bins. length bins % 4096) c.as_slice.ensures.value ∙ (ap (λ n. n % 4096) c.in_ok-bins.ensures.ok.1 ∙ good.pages)

pub key_in_bins-requires-clause-small : goal.key_in_bins-requires-clause-small
key_in_bins-requires-clause-small g c =
    let good = block-good _ _ _ _ (c.in_ok-block.ensures nothing) in
    subst (λ n. n ≤ 268435456) (sym (ap length c.as_slice.ensures.value ∙ c.in_ok-bins.ensures.ok.1)) good.small

pub returns-clause-err : goal.returns-clause-err
returns-clause-err g c =
    let passed = c.in_ok-block.ensures nothing in
    let good = block-good _ _ _ _ passed in
    bins-missed (key-sound (path_of c.args.path.now)) _ _ _ c.fill.new.buffer (search rules) c.in_ok-block.block passed good.small c.in_ok-bins.bins.items
    c.as_slice.result.now
    c.as_slice.ensures.value c.in_ok-bins.ensures.ok.1 c.in_ok-fill.ensures.ok c.in_ok-bins.ensures.ok.0 c.key_in_bins.result c.key_in_bins.ensures.err

pub returns-clause-ok : goal.returns-clause-ok
returns-clause-ok g c =
    let passed = c.in_ok-block.ensures nothing in
    let good = block-good _ _ _ _ passed in
    listing-there (path_of c.args.path.now) _ _ _ c.fill.new.buffer (search rules) c.in_ok-block.block passed good.small c.in_ok-bins.bins.items
    c.as_slice.result.now
    c.as_slice.ensures.value c.in_ok-bins.ensures.ok.1 c.in_ok-fill.ensures.ok c.in_ok-bins.ensures.ok.0 listing_there c.key_in_bins.result
    c.key_in_bins.ensures.ok

-- ---- what the reader is to blame for

pub returns-in_err-fill-clause-failures : goal.returns-in_err-fill-clause-failures
returns-in_err-fill-clause-failures g c =
    exit-either _ _ c.from_residual.result _ c.from_residual.ensures.1 c.in_err-fill.ensures.failures

pub returns-in_err-block-clause-failures : goal.returns-in_err-block-clause-failures
returns-in_err-block-clause-failures g c =
    exit-either _ _ c.from_residual-in_err-block.result _ c.from_residual-in_err-block.ensures.1
    (image-stays _ _ _ (block-meets c.fill.new.buffer nothing _ (c.in_err-block.ensures nothing)) c.in_ok-fill.ensures.failures)

pub returns-in_err-bins-clause-failures : goal.returns-in_err-bins-clause-failures
returns-in_err-bins-clause-failures g c =
    exit-either _ _ c.from_residual-in_err-bins.result _ c.from_residual-in_err-bins.ensures.1
    (blamed-then _ _ _ _ c.in_ok-fill.ensures.failures c.in_err-bins.ensures.failures)

pub returns-clause-failures : goal.returns-clause-failures
returns-clause-failures g c =
    let passed = c.in_ok-block.ensures nothing in
    let good = block-good _ _ _ _ passed in
    bins-blamed (key-sound (path_of c.args.path.now)) _ _ _ c.fill.new.buffer (search rules) c.in_ok-block.block passed good.small c.in_ok-bins.bins.items
    c.as_slice.result.now
    c.as_slice.ensures.value c.in_ok-bins.ensures.ok.1 c.in_ok-fill.ensures.ok c.in_ok-bins.ensures.ok.0 c.key_in_bins.result _ _ c.key_in_bins.ensures.err
    (stays-then _ _ _ c.in_ok-fill.ensures.failures c.in_ok-bins.ensures.failures)

-- ---- what an image of a whole hive may meet

pub returns-in_err-fill-clause-own : goal.returns-in_err-fill-clause-own
returns-in_err-fill-clause-own g c =
    exit-with _ c.from_residual.result _ c.from_residual.ensures.1 (let p = c.in_err-fill.ensures.err in spared-cut _ _ p.0 _ p.1 p.2)

pub returns-in_err-block-clause-own : goal.returns-in_err-block-clause-own
returns-in_err-block-clause-own g c =
    exit-with _ c.from_residual-in_err-block.result _ c.from_residual-in_err-block.ensures.1
    (spared-block _ _ c.fill.new.buffer _ c.in_ok-fill.ensures.ok (search rules) (c.in_err-block.ensures nothing))

pub returns-in_err-bins-clause-own : goal.returns-in_err-bins-clause-own
returns-in_err-bins-clause-own g c =
    exit-with _ c.from_residual-in_err-bins.result _ c.from_residual-in_err-bins.ensures.1
    (let p = c.in_err-bins.ensures.err in
    spared-bins _ _ c.fill.new.buffer c.in_ok-block.block c.in_ok-fill.ensures.ok (search rules) (c.in_ok-block.ensures nothing) _ p.0 _ p.1 p.2)

pub returns-clause-own : goal.returns-clause-own
returns-clause-own g c =
    spared-path (key_walk (path_of c.args.path.now)) (IsKeyOf (path_of c.args.path.now)) (key-answers (path_of c.args.path.now)) _ _ _ c.fill.new.buffer c.in_ok-block.block c.in_ok-fill.ensures.ok (search rules)
    (c.in_ok-block.ensures nothing)
    c.in_ok-bins.bins.items c.as_slice.result.now c.as_slice.ensures.value c.in_ok-bins.ensures.ok.1 c.in_ok-bins.ensures.ok.0 c.key_in_bins.result
    c.key_in_bins.ensures.err
