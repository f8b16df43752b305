use Rattle.std.proofs.Common.{◌≡◌, length, ◌∙◌, ap, inr, arith, sym, false, Result, Ok, Err, is_err, OnOk}
use Rattle.reg_bins.specs.Rows.{Table}
use Rattle.reg_bins.proofs.TablePages.{length-pages}
use Rattle.reg_bins.proofs.tables.PageTables.lengthen.Goals as goal

pub returns-then-long-before-clause-ok : goal.returns-then-long-before-clause-ok
returns-then-long-before-clause-ok c =
    let long = length-pages c.self.inside.pages.items c.self.invariant in
    rw (← ap (λ (t : Table). t.items) c.self.view_is) (omega (arith, long, c.if-long-before.true, c.len-before.ensures, c.self.inside.pages.ok.0))

pub returns-then-is_err-clause-succeeds : goal.returns-then-is_err-clause-succeeds
returns-then-is_err-clause-succeeds c = λ l.
    let long = length-pages c.self.inside.pages.items c.self.invariant in
    let seen = ap (λ (t : Table). length t.items) c.self.view_is in
    absurd (omega (arith, l, seen, long, c.if-long-before.false, c.len-before.ensures, c.self.inside.pages.ok.0))

pub returns-clause-longer : goal.returns-clause-longer
returns-clause-longer c =
    let before = length-pages c.self.inside.pages.items c.self.invariant in
    let seen = ap (λ (t : Table). length t.items) c.self.view_is in
    let now = length-pages c.add_tables.new.pages.items c.add_tables.ensures.whole in
    omega (arith, before, seen, now, c.add_tables.ensures.longer)

pub returns-clause-most : goal.returns-clause-most
returns-clause-most c =
    let before = length-pages c.self.inside.pages.items c.self.invariant in
    let now = length-pages c.add_tables.new.pages.items c.add_tables.ensures.whole in
    inr (omega (arith, before, now, c.if-long-before.false, c.len-before.ensures, c.self.inside.pages.ok.0, c.add_tables.ensures.most, c.pages_for-pages.ensures.enough, c.pages_for-pages.ensures.most))

pub returns-clause-few : goal.returns-clause-few
returns-clause-few c =
    let before = length-pages c.self.inside.pages.items c.self.invariant in
    let now = length-pages c.add_tables.new.pages.items c.add_tables.ensures.whole in
    inr (omega (arith, before, now, c.if-long-before.false, c.len-before.ensures, c.self.inside.pages.ok.0, c.add_tables.ensures.most, c.pages_for-pages.ensures.enough, c.pages_for-pages.ensures.few))

met : {T E : Type 0} (r : Result T E) (P : Type 0) → is_err r ≡ false → OnOk r P → P
met (Ok x) P e h = h
met (Err y) P e h = cc

pub returns-clause-ok : goal.returns-clause-ok
returns-clause-ok c =
    let now = length-pages c.add_tables.new.pages.items c.add_tables.ensures.whole in
    let made = met c.add_tables.result _ (sym c.is_err.ensures.value ∙ c.if-is_err.false) c.add_tables.ensures.ok in
    omega (arith, now, made, c.pages_for-pages.ensures.enough)
