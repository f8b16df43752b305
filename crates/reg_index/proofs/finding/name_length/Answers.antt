use Rattle.std.proofs.Common.{ap, ◌∙◌, length}
use Rattle.reg_index.proofs.NameSearch.{key-here, key-reads, name-read}
use Rattle.reg_index.proofs.finding.name_length.Goals as goal

pub content-requires : goal.content-requires
content-requires c = key-here _ c.args.key c.requires

pub nk_name_length-requires : goal.nk_name_length-requires
nk_name_length-requires c = key-reads _ c.args.key _ c.requires c.content.ensures

pub returns : goal.returns
returns c =
    let r = key-reads _ c.args.key _ c.requires c.content.ensures in
    c.from.ensures ∙ (c.nk_name_length.ensures r.0 r.1 ∙ ap length (name-read _ c.args.key _ r.0 c.content.ensures r.1))
