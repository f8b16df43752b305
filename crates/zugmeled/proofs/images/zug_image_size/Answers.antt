use Rattle.std.proofs.Common.{◌+◌, ap, ◌∙◌, length}
use Rattle.reg_arena.specs.Arena.{Bins}
use Rattle.reg_calls.specs.Views.{next_of}
use Rattle.zugmeled.specs.Held.{HeldHive}
use Rattle.zugmeled.specs.Calls.{seen}
use Rattle.zugmeled.proofs.ImageSizes.{sized}
use Rattle.zugmeled.proofs.images.zug_image_size.Goals as goal

pub returns-clause-told : goal.returns-clause-told
returns-clause-told c =
    let bins = ap (λ (bins : Bins). length bins.bytes) c.arena.ensures.bins
    ∙ ap (λ (held : HeldHive). length (seen held).keys.bins.bytes) c.deref.ensures in
    sized c.args.hive.now.held.value c.in-Some.held.value (4096 + c.bins_size.result) c.len.result c.in-Some.ensures.hive
    (ap (λ n. 4096 + n) (c.bins_size.ensures.size ∙ bins)) (c.len.ensures.len ∙ ap (λ (held : HeldHive). next_of (seen held)) c.deref-2.ensures)
