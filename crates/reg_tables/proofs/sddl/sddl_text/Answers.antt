use Rattle.std.proofs.Common.{◌≡◌, ◌∙◌, string_bytes}
use Rattle.std.specs.Option.{option_map}
use Rattle.std.proofs.lemmas.Result.{IfOk-weaker}
use Rattle.reg_tables.specs.SecurityTexts.{joined, sddl_of}
use Rattle.reg_tables.proofs.SecurityParts.{descriptor-told}
use Rattle.reg_tables.proofs.sddl.sddl_text.Goals as goal

pub returns : goal.returns
returns c =
    let told = descriptor-told c.args.bytes.now _ _ _ _ _ _ _ _ _ _ _ c.if-not-is_descriptor.ensures c.short_at-control.ensures c.long_at.ensures c.long_at-2.ensures
    c.long_at-4.ensures c.long_at-3.ensures c.in_ok-owner.ensures c.in_ok-group.ensures c.in_ok-dacl.ensures c.in_ok-sacl.ensures c.in_ok-sids.ensures c.in_ok-acls.ensures in
    IfOk-weaker c.join-3.result (λ text. option_map string_bytes text ≡ joined (option_map string_bytes c.in_ok-sids.sids) (option_map string_bytes c.in_ok-acls.acls))
    (λ text. option_map string_bytes text ≡ sddl_of c.args.bytes.now) (λ text e. e ∙ told) c.join-3.ensures
