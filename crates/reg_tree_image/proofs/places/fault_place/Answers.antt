use Rattle.std.proofs.Common.{rules, ◌≤◌, ◌%◌, length, sym, ap, ◌∙◌, subst}
use Rattle.std.proofs.KnownBytes.{Consumes-trans}
use Rattle.reg_tree_image.specs.Images.{nothing}
use Rattle.reg_tree_image.proofs.Devices.BlockTests.{block-good}
use Rattle.reg_tree_image.proofs.Devices.PlacesFound.{ends-first, block-bad, ends-later, bins-sought}
use Rattle.reg_tree_image.proofs.places.fault_place.Goals as goal

pub returns-in-Err-clause-ok : goal.returns-in-Err-clause-ok
returns-in-Err-clause-ok g c =
    let p = c.in-Err.ensures.err in (ends-first _ _ c.in-Err.fault p.0 p.1 p.2 c.unread.result c.unread.ensures).0

pub returns-in-Err-clause-err : goal.returns-in-Err-clause-err
returns-in-Err-clause-err g c =
    let p = c.in-Err.ensures.err in (ends-first _ _ c.in-Err.fault p.0 p.1 p.2 c.unread.result c.unread.ensures).1

pub returns-in_default-read_block-clause-ok : goal.returns-in_default-read_block-clause-ok
returns-in_default-read_block-clause-ok g c =
    block-bad _ _ c.fill.new.buffer (search rules) c.in_default-read_block.field-0 c.in_default.ensures.ok (c.in_default-read_block.ensures nothing)

pub place_in_bins-requires-clause-pages : goal.place_in_bins-requires-clause-pages
place_in_bins-requires-clause-pages g c =
    let good = block-good _ _ _ _ (c.in-Ok.ensures nothing) in
    ap (λ bins. length bins % 4096) c.as_slice.ensures.value ∙ (ap (λ n. n % 4096) c.in-Ok-read_bytes.ensures.ok.1 ∙ good.pages)

pub place_in_bins-requires-clause-small : goal.place_in_bins-requires-clause-small
place_in_bins-requires-clause-small g c =
    let good = block-good _ _ _ _ (c.in-Ok.ensures nothing) in
    subst (λ n. n ≤ 268435456) (sym (ap length c.as_slice.ensures.value ∙ c.in-Ok-read_bytes.ensures.ok.1)) good.small

pub returns-in-Ok-read_bytes-clause-ok : goal.returns-in-Ok-read_bytes-clause-ok
returns-in-Ok-read_bytes-clause-ok g c =
    let good = block-good _ _ _ _ (c.in-Ok.ensures nothing) in
    let bins = c.in-Ok-read_bytes.bins.items in
    (bins-sought _ _ c.fill.new.buffer (search rules) c.in-Ok.block (c.in-Ok.ensures nothing) good.small bins
    (Consumes-trans _ _ _ c.fill.new.buffer bins c.in_default.ensures.ok c.in-Ok-read_bytes.ensures.ok.0) c.in-Ok-read_bytes.ensures.ok.1
    c.as_slice.result.now c.as_slice.ensures.value c.place_in_bins.result c.place_in_bins.ensures.ok c.place_in_bins.ensures.err).0

pub returns-in-Ok-read_bytes-clause-err : goal.returns-in-Ok-read_bytes-clause-err
returns-in-Ok-read_bytes-clause-err g c =
    let good = block-good _ _ _ _ (c.in-Ok.ensures nothing) in
    let bins = c.in-Ok-read_bytes.bins.items in
    (bins-sought _ _ c.fill.new.buffer (search rules) c.in-Ok.block (c.in-Ok.ensures nothing) good.small bins
    (Consumes-trans _ _ _ c.fill.new.buffer bins c.in_default.ensures.ok c.in-Ok-read_bytes.ensures.ok.0) c.in-Ok-read_bytes.ensures.ok.1
    c.as_slice.result.now c.as_slice.ensures.value c.place_in_bins.result c.place_in_bins.ensures.ok c.place_in_bins.ensures.err).1

pub returns-in-Err-read_bytes-clause-ok : goal.returns-in-Err-read_bytes-clause-ok
returns-in-Err-read_bytes-clause-ok g c =
    let good = block-good _ _ _ _ (c.in-Ok.ensures nothing) in
    let p = c.in-Err-read_bytes.ensures.err in
    (ends-later _ _ c.fill.new.buffer (search rules) c.in-Ok.block (c.in-Ok.ensures nothing) good.small p.0
    (Consumes-trans _ _ _ c.fill.new.buffer p.0 c.in_default.ensures.ok p.1) c.in-Err-read_bytes.fault p.2
    c.unread-in-Err-read_bytes.result c.unread-in-Err-read_bytes.ensures).0

pub returns-in-Err-read_bytes-clause-err : goal.returns-in-Err-read_bytes-clause-err
returns-in-Err-read_bytes-clause-err g c =
    let good = block-good _ _ _ _ (c.in-Ok.ensures nothing) in
    let p = c.in-Err-read_bytes.ensures.err in
    (ends-later _ _ c.fill.new.buffer (search rules) c.in-Ok.block (c.in-Ok.ensures nothing) good.small p.0
    (Consumes-trans _ _ _ c.fill.new.buffer p.0 c.in_default.ensures.ok p.1) c.in-Err-read_bytes.fault p.2
    c.unread-in-Err-read_bytes.result c.unread-in-Err-read_bytes.ensures).1
