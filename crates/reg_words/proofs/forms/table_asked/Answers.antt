use Rattle.std.proofs.Common.{◌∙◌, ap, codes}
use Rattle.std.specs.Prelude.{option_map}
use Rattle.clap.specs.Words.{found_of, rows_of}
use Rattle.reg_words.proofs.AskedForms.{no_encoding, no_front, unset_so}
use Rattle.reg_words.proofs.AskedWords.{first_is}
use Rattle.reg_words.proofs.forms.table_asked.Goals as goal

pub returns-in-Some : goal.returns-in-Some
returns-in-Some c =
    no_front (rows_of (found_of c.args.matches.now)) c.args.name.now c.requires.form c.requires.table _
    (first_is (found_of c.args.matches.now) (codes "prefix") _ c.get_str.ensures ∙ ap (option_map (λ s. s.now)) c.in-Some.is)

pub table_of-requires-clause-plain : goal.table_of-requires-clause-plain
table_of-requires-clause-plain c =
    first_is (found_of c.args.matches.now) (codes "prefix") _ c.get_str.ensures ∙ ap (option_map (λ s. s.now)) c.in-None.is

pub returns-then-is_encoded : goal.returns-then-is_encoded
returns-then-is_encoded c =
    no_encoding (rows_of (found_of c.args.matches.now)) c.args.name.now c.requires.form c.requires.table
    (c.is_set-is_encoded.ensures.0 c.if-is_encoded.true)

pub table_of-requires-clause-encoded : goal.table_of-requires-clause-encoded
table_of-requires-clause-encoded c = unset_so c.is_set-is_encoded.result c.if-is_encoded.false c.is_set-is_encoded.ensures
