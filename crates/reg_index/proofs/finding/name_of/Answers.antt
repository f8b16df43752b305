use Rattle.std.proofs.Common.{◌∙◌}
use Rattle.reg_index.proofs.NameSearch.{key-here, key-reads, name-read}
use Rattle.reg_index.proofs.finding.name_of.Goals as goal

pub content-requires : goal.content-requires
content-requires c = key-here _ c.args.key c.requires

pub nk_name-requires : goal.nk_name-requires
nk_name-requires c = key-reads _ c.args.key _ c.requires c.content.ensures

pub returns : goal.returns
returns c =
    let r = key-reads _ c.args.key _ c.requires c.content.ensures in
    c.nk_name.ensures r.0 r.1 ∙ name-read _ c.args.key _ r.0 c.content.ensures r.1
