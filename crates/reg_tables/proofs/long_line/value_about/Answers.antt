use Rattle.std.proofs.Common.{◌≡◌, ◌++◌, ◌∙◌, string_bytes}
use Rattle.std.specs.Prelude.{codes}
use Rattle.std.specs.Fmt.{decimal}
use Rattle.std.proofs.lemmas.Result.{IfOk-weaker}
use Rattle.reg_heap.specs.Edits.{values_at}
use Rattle.reg_tables.specs.TypedValues.{typed_told}
use Rattle.reg_tables.specs.LongListings.{value_about}
use Rattle.reg_tables.proofs.LongLines.{size-told, data-told}
use Rattle.reg_tables.proofs.long_line.value_about.Goals as goal

pub returns-then-not-is_long : goal.returns-then-not-is_long
returns-then-not-is_long c =
    λ p at member here.
    IfOk-weaker c.size_text.result
    (λ text. string_bytes text ≡ codes " type " ++ (decimal c.in-Some.value.kind ++ (codes " size " ++ decimal c.in-Some.value.size)))
    (λ text. string_bytes text ≡ value_about c.args.is_long member)
    (λ text e.
    e ∙
    size-told (values_at c.args.tree.now.tree p) c.args.index member here _ _ _ (c.in-Some.ensures.told p at) c.args.is_long c.if-not-is_long.true)
    c.size_text.ensures

pub returns : goal.returns
returns c =
    λ p at member here.
    IfOk-weaker c.data_text.result (λ text. string_bytes text ≡ codes " " ++ typed_told c.in-Some.value.kind c.deref.result.now)
    (λ text. string_bytes text ≡ value_about c.args.is_long member)
    (λ text e.
    e ∙
    data-told (values_at c.args.tree.now.tree p) c.args.index member here _ _ _ (c.in-Some.ensures.told p at) c.args.is_long c.if-not-is_long.false
    _ _ c.deref.ensures.value (c.in_ok-bytes.ensures.told p at))
    c.data_text.ensures
