use Rattle.std.proofs.Common.{◌≡◌, ◌∙◌, string_bytes}
use Rattle.std.proofs.lemmas.Result.{IfOk-weaker}
use Rattle.reg_tables.specs.SecurityTexts.{mask_text, rights_text}
use Rattle.reg_tables.proofs.SecurityParts.{rights-named, rights-unnamed}
use Rattle.reg_tables.proofs.sddl.ace.rights_text.Goals as goal

pub returns-in-Some : goal.returns-in-Some
returns-in-Some c =
    IfOk-weaker c.from_str.result (λ text. string_bytes text ≡ c.in-Some.name.now) (λ text. string_bytes text ≡ rights_text c.args.kind c.args.mask)
    (λ text e. e ∙ rights-named c.args.kind c.args.mask c.in-Some.name.now c.in-Some.ensures) c.from_str.ensures.ok

pub returns-in-None : goal.returns-in-None
returns-in-None c =
    IfOk-weaker c.mask_text.result (λ text. string_bytes text ≡ mask_text c.args.mask) (λ text. string_bytes text ≡ rights_text c.args.kind c.args.mask)
    (λ text e. e ∙ rights-unnamed c.args.kind c.args.mask c.in-None.ensures) c.mask_text.ensures
