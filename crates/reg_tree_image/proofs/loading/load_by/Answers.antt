use Rattle.std.proofs.Common.{rules, ◌<◌, ◌≤◌, ◌%◌, ◌++◌, sym, ap, ◌∙◌, subst}
use Rattle.std.proofs.KnownBytes.{Consumes-trans}
use Rattle.reg_tree_image.specs.declared.LoadFault.TheVariants.{Read}
use Rattle.reg_tree_image.specs.Images.{nothing, bins_walk}
use Rattle.reg_tree_image.proofs.Devices.InputPieces.{exit-with}
use Rattle.reg_tree_image.proofs.Devices.BlockTests.{block-good, block-meets}
use Rattle.reg_tree_image.proofs.Devices.LoadedImages.{refused-before-block, refused-at-block, refused-before-bins, refused-at-bins}
use Rattle.reg_tree_image.proofs.Devices.LoadedImages.{whole-loaded, whole-size, whole-numbered}
use Rattle.reg_tree_image.proofs.Devices.FaultsOfWalks.{bins-meet}
use Rattle.reg_tree_image.proofs.Devices.OwnLoads.{spared-cut, spared-block, spared-bins, spared-tree, foreign, stood}
use Rattle.reg_tree_image.proofs.Devices.ReadFailures.{exit-either, blamed-then, image-stays, walk-stays}
use Rattle.reg_text.proofs.FailureCounts.{stays-then}
use Rattle.reg_tree_image.proofs.loading.load_by.Goals as goal

pub returns-in_err-fill-clause-err : goal.returns-in_err-fill-clause-err
returns-in_err-fill-clause-err g c =
    exit-with _ c.from_residual.result _ c.from_residual.ensures.1
    (let p = c.in_err-fill.ensures.err in let r = refused-before-block _ _ p.0 _ p.2 in
    record { image = p.0; consumed = p.1; within = r.0; refused = r.1 })

pub returns-in_err-block-clause-err : goal.returns-in_err-block-clause-err
returns-in_err-block-clause-err g c =
    exit-with _ c.from_residual-in_err-block.result _ c.from_residual-in_err-block.ensures.1
    (let r = refused-at-block c.fill.new.buffer (search rules) _ _ _ (c.in_err-block.ensures nothing) in
    record { image = c.fill.new.buffer; consumed = c.in_ok-fill.ensures.ok; within = r.0; refused = r.1 })

pub returns-in_err-bins-clause-err : goal.returns-in_err-bins-clause-err
returns-in_err-bins-clause-err g c =
    let block = c.in_ok-block.ensures nothing in
    let good = block-good _ _ _ _ block in
    exit-with _ c.from_residual-in_err-bins.result _ c.from_residual-in_err-bins.ensures.1
    (let p = c.in_err-bins.ensures.err in
    let r = refused-before-bins c.fill.new.buffer (search rules) c.in_ok-block.block block p.0 _ _ _ good.small p.2 in
    record {
      image = c.fill.new.buffer ++ p.0;
      consumed = Consumes-trans _ _ _ c.fill.new.buffer p.0 c.in_ok-fill.ensures.ok p.1;
      within = r.0;
      refused = r.1;
    })

pub tree_of-requires-clause-some : goal.tree_of-requires-clause-some
tree_of-requires-clause-some g c =
    let good = block-good _ _ _ _ (c.in_ok-block.ensures nothing) in
    subst (λ n. 0 < n) (sym c.in_ok-bins.ensures.ok.1) good.some

pub tree_of-requires-clause-pages : goal.tree_of-requires-clause-pages
tree_of-requires-clause-pages g c =
    let good = block-good _ _ _ _ (c.in_ok-block.ensures nothing) in
    ap (λ n. n % 4096) c.in_ok-bins.ensures.ok.1 ∙ good.pages

pub tree_of-requires-clause-small : goal.tree_of-requires-clause-small
tree_of-requires-clause-small g c =
    let good = block-good _ _ _ _ (c.in_ok-block.ensures nothing) in
    subst (λ n. n ≤ 268435456) (sym c.in_ok-bins.ensures.ok.1) good.small

pub returns-in_err-tree-clause-err : goal.returns-in_err-tree-clause-err
returns-in_err-tree-clause-err g c =
    let block = c.in_ok-block.block in
    let passed = c.in_ok-block.ensures nothing in
    let bins = c.in_ok-bins.bins.items in
    let good = block-good _ _ _ _ passed in
    exit-with _ c.from_residual-in_err-tree.result _ c.from_residual-in_err-tree.ensures.1
    (let r = refused-at-bins c.fill.new.buffer (search rules) block passed bins _ _ _
    (λ limit taken. foreign c.fill.new.buffer block (search rules) passed bins c.in_ok-bins.ensures.ok.1 _ limit (c.in_err-tree.ensures.own taken))
    good.small c.in_ok-bins.ensures.ok.1 c.in_err-tree.ensures.err in
    record {
      image = c.fill.new.buffer ++ bins;
      consumed = Consumes-trans _ _ _ c.fill.new.buffer bins c.in_ok-fill.ensures.ok c.in_ok-bins.ensures.ok.0;
      within = r.0;
      refused = r.1;
    })

pub returns-clause-ok : goal.returns-clause-ok
returns-clause-ok g c =
    let block = c.in_ok-block.block in
    let passed = c.in_ok-block.ensures nothing in
    let bins = c.in_ok-bins.bins.items in
    let tree = c.in_ok-tree.tree in
    record {
      image = c.fill.new.buffer ++ bins;
      consumed = Consumes-trans _ _ _ c.fill.new.buffer bins c.in_ok-fill.ensures.ok c.in_ok-bins.ensures.ok.0;
      size = whole-size c.fill.new.buffer (search rules) block passed bins c.in_ok-bins.ensures.ok.1;
      loads = whole-loaded c.fill.new.buffer (search rules) block passed bins tree.tree c.in_ok-bins.ensures.ok.1 c.in_ok-tree.ensures.ok;
      numbered = whole-numbered c.fill.new.buffer (search rules) block passed bins _ c.word_at-sequence.ensures;
    }

-- ---- what the reader is to blame for

pub returns-in_err-fill-clause-failures : goal.returns-in_err-fill-clause-failures
returns-in_err-fill-clause-failures g c =
    exit-either _ _ c.from_residual.result _ c.from_residual.ensures.1 c.in_err-fill.ensures.failures

pub returns-in_err-block-clause-failures : goal.returns-in_err-block-clause-failures
returns-in_err-block-clause-failures g c =
    exit-either _ _ c.from_residual-in_err-block.result _ c.from_residual-in_err-block.ensures.1
    (image-stays _ _ _ (block-meets c.fill.new.buffer nothing _ (c.in_err-block.ensures nothing)) c.in_ok-fill.ensures.failures)

pub returns-in_err-bins-clause-failures : goal.returns-in_err-bins-clause-failures
returns-in_err-bins-clause-failures g c =
    exit-either _ _ c.from_residual-in_err-bins.result _ c.from_residual-in_err-bins.ensures.1
    (blamed-then _ _ _ _ c.in_ok-fill.ensures.failures c.in_err-bins.ensures.failures)

pub returns-in_err-tree-clause-failures : goal.returns-in_err-tree-clause-failures
returns-in_err-tree-clause-failures g c =
    let block = c.in_ok-block.block in
    exit-either _ _ c.from_residual-in_err-tree.result _ c.from_residual-in_err-tree.ensures.1
    (walk-stays _ c.in_err-tree.field-0.0 (bins_walk c.in_ok-bins.bins.items block.minor block.root nothing) _ _
    (bins-meet c.in_ok-bins.bins.items block.minor block.root nothing Read) c.in_err-tree.ensures.err
    (stays-then _ _ _ c.in_ok-fill.ensures.failures c.in_ok-bins.ensures.failures))

pub returns-clause-failures : goal.returns-clause-failures
returns-clause-failures g c = stays-then _ _ _ c.in_ok-fill.ensures.failures c.in_ok-bins.ensures.failures

-- ---- what an image of a whole hive may meet

pub returns-in_err-fill-clause-own : goal.returns-in_err-fill-clause-own
returns-in_err-fill-clause-own g c = λ taken.
    exit-with _ c.from_residual.result _ c.from_residual.ensures.1
    (let p = c.in_err-fill.ensures.err in spared-cut _ _ p.0 _ p.1 p.2)

pub returns-in_err-block-clause-own : goal.returns-in_err-block-clause-own
returns-in_err-block-clause-own g c = λ taken.
    exit-with _ c.from_residual-in_err-block.result _ c.from_residual-in_err-block.ensures.1
    (spared-block _ _ c.fill.new.buffer _ c.in_ok-fill.ensures.ok (search rules) (c.in_err-block.ensures nothing))

pub returns-in_err-bins-clause-own : goal.returns-in_err-bins-clause-own
returns-in_err-bins-clause-own g c = λ taken.
    exit-with _ c.from_residual-in_err-bins.result _ c.from_residual-in_err-bins.ensures.1
    (let p = c.in_err-bins.ensures.err in
    spared-bins _ _ c.fill.new.buffer c.in_ok-block.block c.in_ok-fill.ensures.ok (search rules) (c.in_ok-block.ensures nothing) _ p.0 _ p.1 p.2)

pub returns-in_err-tree-clause-own : goal.returns-in_err-tree-clause-own
returns-in_err-tree-clause-own g c = λ taken.
    exit-with _ c.from_residual-in_err-tree.result _ c.from_residual-in_err-tree.ensures.1
    (spared-tree _ _ c.fill.new.buffer c.in_ok-block.block c.in_ok-fill.ensures.ok (search rules) (c.in_ok-block.ensures nothing) _ c.in_ok-bins.bins.items _
    c.in_ok-bins.ensures.ok.0 c.in_ok-bins.ensures.ok.1 (c.in_err-tree.ensures.own taken))

-- ---- that an image of a whole hive is taken as it stands

pub returns-clause-stands : goal.returns-clause-stands
returns-clause-stands g c = λ taken.
    stood _ _ c.fill.new.buffer c.in_ok-block.block c.in_ok-fill.ensures.ok (search rules) (c.in_ok-block.ensures nothing) _ c.in_ok-bins.bins.items
    c.in_ok-bins.ensures.ok.0 c.in_ok-bins.ensures.ok.1 c.in_ok-tree.tree.bins (c.in_ok-tree.ensures.stands taken)
