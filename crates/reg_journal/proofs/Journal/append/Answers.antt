use Rattle.std.proofs.Common.{◌≡◌, subst, sym, arith}
use Rattle.reg_journal.specs.Kept.{Kept, Seat, seat, IsCurrent}
use Rattle.reg_journal.proofs.Book.{book_push, current_or_not, row_at_most}
use Rattle.reg_journal.proofs.Journal.append.Goals as goal

pub raise-requires : goal.raise-requires
raise-requires c =
    let rows = c.self.inside.rows in
    let es = c.self.inside.entries.items in
    let noted = c.self.inside.noted.value.items in
    let session = c.share.inside.session in
    let current = subst (λ (x : Seat). IsCurrent noted es x) (sym c.share.view_is)
    (subst (λ (k : Kept). IsCurrent k.noted k.entries c.args.share.now) (sym c.self.view_is) c.requires.current) in
    let was = current_or_not c.self.inside.base noted rows.items es (seat session c.share.inside.count) c.self.invariant current in
    let most = row_at_most c.self.inside.base noted rows.items es c.self.invariant session in
    let within = was.0 in
    let numbers = c.self.invariant.numbers in
    let small = c.self.inside.entries.small in
    let many = c.self.inside.entries.ok in
    let rows_ok = rows.ok in
    (omega (arith, within, rows_ok), omega (arith, most, numbers, small, many))

pub overflow_add-share : goal.overflow_add-share
overflow_add-share c =
    let rows = c.self.inside.rows in
    let es = c.self.inside.entries.items in
    let noted = c.self.inside.noted.value.items in
    let session = c.share.inside.session in
    let current = subst (λ (x : Seat). IsCurrent noted es x) (sym c.share.view_is)
    (subst (λ (k : Kept). IsCurrent k.noted k.entries c.args.share.now) (sym c.self.view_is) c.requires.current) in
    let was = current_or_not c.self.inside.base noted rows.items es (seat session c.share.inside.count) c.self.invariant current in
    let most = row_at_most c.self.inside.base noted rows.items es c.self.invariant session in
    let counted = was.1 in
    let numbers = c.self.invariant.numbers in
    let small = c.self.inside.entries.small in
    let many = c.self.inside.entries.ok in
    omega (arith, counted, most, numbers, small, many)

pub invariant_of-self : goal.invariant_of-self
invariant_of-self c =
    let es = c.self.inside.entries.items in
    let noted = c.self.inside.noted.value.items in
    let session = c.share.inside.session in
    let current = subst (λ (x : Seat). IsCurrent noted es x) (sym c.share.view_is)
    (subst (λ (k : Kept). IsCurrent k.noted k.entries c.args.share.now) (sym c.self.view_is) c.requires.current) in
    let own = subst (λ (x : Seat). c.args.entry.session ≡ x.session) (sym c.share.view_is) c.requires.own in
    book_push c.self.inside.base noted c.self.inside.rows.items es c.args.entry session c.raise.new.rows.items c.push.new.self.items c.self.invariant
    current.seated own c.raise.ensures c.in-Ok.ensures.items
