use Rattle.std.proofs.Common.{codes, rules}
use Rattle.std.proofs.lemmas.Result.{IfOk-weaker}
use Rattle.clap.specs.Words.{found_of, rows_of}
use Rattle.reg_words.proofs.AskedChanges.{change_so, no_change}
use Rattle.reg_words.proofs.changes.key_change.Goals as goal

pub returns-then-eq : goal.returns-then-eq
returns-then-eq c =
    IfOk-weaker c.set_asked.result _ _
    (λ r h. change_so c.args.name.now (codes "set") (rows_of (found_of c.args.matches.now)) r (search rules) h) c.set_asked.ensures

pub returns-then-eq-2 : goal.returns-then-eq-2
returns-then-eq-2 c =
    IfOk-weaker c.create_asked.result _ _
    (λ r h. change_so c.args.name.now (codes "create") (rows_of (found_of c.args.matches.now)) r (search rules) h) c.create_asked.ensures

pub returns-then-eq-3 : goal.returns-then-eq-3
returns-then-eq-3 c =
    IfOk-weaker c.delete_asked.result _ _
    (λ r h. change_so c.args.name.now (codes "delete") (rows_of (found_of c.args.matches.now)) r (search rules) h) c.delete_asked.ensures

pub returns : goal.returns
returns c =
    no_change (rows_of (found_of c.args.matches.now)) c.args.name.now (λ e. search (rules, e)) (λ e. search (rules, e)) (λ e. search (rules, e))
