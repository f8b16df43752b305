use Rattle.std.proofs.Common.{rules, subst}
use Rattle.std.proofs.lemmas.Bool.{both_ways}
use Rattle.reg_callbacks.specs.Rows.{IsOneMore}
use Rattle.reg_callbacks.proofs.RowLemmas.{one_more_than_rest, all_less, pairs_less, is_read, is_gone, was_among}
use Rattle.reg_callbacks.proofs.callbacks.Callbacks.unregister.Goals as goal

pub invariant_of-self : goal.invariant_of-self
invariant_of-self g c =
    let more = one_more_than_rest c.in-Some.ensures.bound c.remove.ensures.value c.remove.ensures.items in
    record {
      within = c.args.self.now.within;
      falling = pairs_less _ _ _ more (λ row. row.altitude) _ c.args.self.now.falling;
      below = all_less _ _ _ more (λ row. row.cookie) _ c.args.self.now.below;
      distinct = pairs_less _ _ _ more (λ row. row.cookie) _ c.args.self.now.distinct;
    }

pub returns-in-Some-clause-taken : goal.returns-in-Some-clause-taken
returns-in-Some-clause-taken g c =
    let more = one_more_than_rest c.in-Some.ensures.bound c.remove.ensures.value c.remove.ensures.items in (
      c.remove.result.altitude,
      subst (λ n. IsOneMore (record { altitude = c.remove.result.altitude; cookie = n; callback = c.remove.result.callback }) c.remove.new.self.items c.args.self.now.rows.items)
          (is_read (λ row. row.cookie) c.args.self.now.rows.items c.in-Some.place c.args.cookie.number c.remove.result c.in-Some.ensures.found c.in-Some.ensures.bound c.remove.ensures.value)
          more,
    )

pub returns-in-Some-clause-gone : goal.returns-in-Some-clause-gone
returns-in-Some-clause-gone g c =
    let more = one_more_than_rest c.in-Some.ensures.bound c.remove.ensures.value c.remove.ensures.items in
    let is = is_read (λ row. row.cookie) c.args.self.now.rows.items c.in-Some.place c.args.cookie.number c.remove.result c.in-Some.ensures.found c.in-Some.ensures.bound c.remove.ensures.value in
    is_gone _ _ _ more (λ row. row.cookie) c.args.cookie.number is c.args.self.now.distinct

pub returns-in-Some-clause-no_such_cookie : goal.returns-in-Some-clause-no_such_cookie
returns-in-Some-clause-no_such_cookie g c =
    let more = one_more_than_rest c.in-Some.ensures.bound c.remove.ensures.value c.remove.ensures.items in
    let is = is_read (λ row. row.cookie) c.args.self.now.rows.items c.in-Some.place c.args.cookie.number c.remove.result c.in-Some.ensures.found c.in-Some.ensures.bound c.remove.ensures.value in
    (search rules, λ none. absurd (both_ways _ none (was_among _ _ _ more (λ row. row.cookie) c.args.cookie.number is)))
