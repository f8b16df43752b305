use Rattle.std.proofs.Common.{refl}
use Rattle.reg_model.specs.declared.call.Change.TheVariants.{OpenKey, CreateKey, SetValue, DeleteValue, DeleteKey, DeleteTree, SetSecurity}
use Rattle.zugmeled.specs.Makers.{given_of}
use Rattle.zugmeled.proofs.Lacks.{lack-of, of-number}
use Rattle.zugmeled.proofs.causes.made.Goals as goal

pub returns-then-change-eq1-clause-lack : goal.returns-then-change-eq1-clause-lack
returns-then-change-eq1-clause-lack c =
    lack-of c.open_key.result c.some.result c.some.ensures.made c.open_key.ensures.lack
    (of-number c.args.change 1 c.args.handle c.args.text.now c.args.number c.args.bytes.now c.args.below
    (OpenKey c.args.handle c.args.text.now c.args.number) c.if-change-eq1.true refl)

pub returns-then-change-eq2-clause-lack : goal.returns-then-change-eq2-clause-lack
returns-then-change-eq2-clause-lack c =
    lack-of c.create_key.result c.some-then-change-eq2.result c.some-then-change-eq2.ensures.made c.create_key.ensures.lack
    (of-number c.args.change 2 c.args.handle c.args.text.now c.args.number c.args.bytes.now c.args.below
    (CreateKey c.args.handle c.args.text.now c.args.number (given_of c.args.bytes.now)) c.if-change-eq2.true refl)

pub returns-then-change-eq3-clause-lack : goal.returns-then-change-eq3-clause-lack
returns-then-change-eq3-clause-lack c =
    lack-of c.set_value.result c.some-then-change-eq3.result c.some-then-change-eq3.ensures.made c.set_value.ensures.lack
    (of-number c.args.change 3 c.args.handle c.args.text.now c.args.number c.args.bytes.now c.args.below
    (SetValue c.args.handle c.args.text.now c.args.number c.args.bytes.now) c.if-change-eq3.true refl)

pub returns-then-change-eq4-clause-lack : goal.returns-then-change-eq4-clause-lack
returns-then-change-eq4-clause-lack c =
    lack-of c.delete_value.result c.some-then-change-eq4.result c.some-then-change-eq4.ensures.made c.delete_value.ensures.lack
    (of-number c.args.change 4 c.args.handle c.args.text.now c.args.number c.args.bytes.now c.args.below
    (DeleteValue c.args.handle c.args.text.now) c.if-change-eq4.true refl)

pub returns-then-change-eq5-clause-lack : goal.returns-then-change-eq5-clause-lack
returns-then-change-eq5-clause-lack c =
    lack-of c.delete_key.result c.some-then-change-eq5.result c.some-then-change-eq5.ensures.made c.delete_key.ensures.lack
    (of-number c.args.change 5 c.args.handle c.args.text.now c.args.number c.args.bytes.now c.args.below
    (DeleteKey c.args.handle c.args.text.now) c.if-change-eq5.true refl)

pub returns-then-change-eq6-clause-lack : goal.returns-then-change-eq6-clause-lack
returns-then-change-eq6-clause-lack c =
    lack-of c.delete_tree.result c.some-then-change-eq6.result c.some-then-change-eq6.ensures.made c.delete_tree.ensures.lack
    (of-number c.args.change 6 c.args.handle c.args.text.now c.args.number c.args.bytes.now c.args.below
    (DeleteTree c.args.handle c.args.text.now) c.if-change-eq6.true refl)

pub returns-then-change-eq7-clause-lack : goal.returns-then-change-eq7-clause-lack
returns-then-change-eq7-clause-lack c =
    lack-of c.set_security.result c.some-then-change-eq7.result c.some-then-change-eq7.ensures.made c.set_security.ensures.lack
    (of-number c.args.change 7 c.args.handle c.args.text.now c.args.number c.args.bytes.now c.args.below
    (SetSecurity c.args.handle c.args.bytes.now) c.if-change-eq7.true refl)
