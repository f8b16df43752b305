use Rattle.std.proofs.Common.{◌++◌, sym, ap, ◌∙◌, String, Global, string_bytes}
use Rattle.std.specs.Option.{option_map}
use Rattle.reg_tables.proofs.SecurityParts.{aces-bad, aces-more, ace-header}
use Rattle.reg_tables.proofs.sddl.acl.aces_text.Goals as goal

pub returns-in_default : goal.returns-in_default
returns-in_default c =
    aces-bad c.args.count c.loop-ace._ace c.args.bytes.now c.loop-ace.rest.now (string_bytes c.loop-ace.text) c.loop-ace-test.true c.loop-ace.invariant
    (sym (ap (option_map (λ (s : String Global). string_bytes s)) c.in_default.is) ∙ c.in_ok-ace.ensures)

pub short_at-requires : goal.short_at-requires
short_at-requires c =
    ace-header c.loop-ace.rest.now (string_bytes c.in-Some.ace)
    (sym (ap (option_map (λ (s : String Global). string_bytes s)) c.in-Some.is) ∙ c.in_ok-ace.ensures)

pub loop-ace-preserved : goal.loop-ace-preserved
loop-ace-preserved c =
    aces-more c.args.count c.loop-ace._ace c.from.result c.args.bytes.now c.loop-ace.rest.now c.behind-rest.result.now (string_bytes c.loop-ace.text)
    (string_bytes c.push_str.new.self) (string_bytes c.in-Some.ace) c.loop-ace-test.true c.loop-ace.invariant
    (sym (ap (option_map (λ (s : String Global). string_bytes s)) c.in-Some.is) ∙ c.in_ok-ace.ensures)
    (c.in_ok-push_str.ensures.bytes ∙ ap (λ x. string_bytes c.loop-ace.text ++ x) c.as_str.ensures.value) (c.from.ensures ∙ c.short_at.ensures) c.behind-rest.ensures
