use Rattle.std.proofs.Common.{◌≡◌, ◌+◌, ◌-◌, length, take, vec_len, ◌∷◌, [], ap, ◌∙◌, length-append, arith}
use Rattle.std.proofs.lemmas.Grind.{common_steps}
use Rattle.std.proofs.lemmas.List.{take-append-le}
use Rattle.reg_bins.specs.declared.tables.PageTable.{PageTable}
use Rattle.reg_bins.proofs.TablePages.{same-append}
use Rattle.reg_bins.proofs.tables.add_tables.Goals as goal

pub loop-alloc-preserved : goal.loop-alloc-preserved
loop-alloc-preserved c =
    let before = c.loop-alloc.pages.items in
    let more = c.push.new.self.items in
    let page : PageTable = record { numbers = c.resize.new.self } in
    let is = c.in_ok-push.ensures.items in
    let long : length c.resize.new.self.items ≡ 512 = omega (arith, c.in_ok-resize.ensures.len, c.resize.new.self.ok.0) in
    let longer : length more ≡ length before + 1 = ap length is ∙ length-append before (page ∷ []) in
    let i = c.loop-alloc.invariant in
    record {
      front = ap (λ pages. take (length c.args.pages.now.items) pages) is ∙ take-append-le (length c.args.pages.now.items) before (page ∷ []) i.longer ∙ i.front;
      whole = rw is (grind (arith, common_steps));
      same = λ place.
          same-append before more page 512 (512 - vec_len c.new-numbers.result) place c.new-numbers.result.items is c.new-numbers.ensures.items
          c.in_ok-resize.ensures.items ∙ i.same place;
      longer = omega (arith, longer, i.longer);
      most = omega (arith, longer, i.most, c.loop-alloc-test.true, c.loop-alloc.pages.ok.0);
    }
