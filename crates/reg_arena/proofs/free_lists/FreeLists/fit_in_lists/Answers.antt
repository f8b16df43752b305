use Rattle.std.proofs.Common.{arith, ◌∙◌}
use Rattle.std.proofs.lemmas.List.{get_or_default}
use Rattle.reg_arena.proofs.FreeList.BestFits.{set-first, small-fit, last-within, none-fits, large-fit, fit-within}
use Rattle.reg_arena.proofs.free_lists.FreeLists.fit_in_lists.Goals as goal

pub index-requires : goal.index-requires
index-requires c =
    let h = rw (← c.self.view_is) at c.requires.lists in
    let z = set-first _ _ _ _ _ _ _ _ h.listed c.self.invariant c.in-Some.place c.in-Some.ensures.is_set in omega (arith, z.1)

pub returns-in-Some : goal.returns-in-Some
returns-in-Some c = rw (← c.self.view_is) (λ sizes w.
    let h = rw (← c.self.view_is) at c.requires.lists in
    let z = set-first _ _ _ _ _ _ _ _ h.listed c.self.invariant c.in-Some.place c.in-Some.ensures.is_set in
    small-fit _ _ _ _ _ _ _ _ w c.self.invariant c.args.total c.in-Some.place _ c.requires.eights c.requires.some c.in-Some.ensures (c.index.ensures ∙ get_or_default _ _ _ 4294967295 z.1))

pub find_large-requires : goal.find_large-requires
find_large-requires c =
    let h = rw (← c.self.view_is) at c.requires.lists in
    last-within _ _ _ _ _ _ _ _ h.listed _ (get_or_default c.self.inside.heads 23 0 4294967295 (let z = h.listed.heads_long in omega arith))

pub returns-in_default-find_large : goal.returns-in_default-find_large
returns-in_default-find_large c = rw (← c.self.view_is) (λ sizes w.
    none-fits _ _ _ _ _ _ _ _ w c.self.invariant c.args.total _ c.requires.eights c.requires.some c.in_default.ensures
    (get_or_default c.self.inside.heads 23 0 4294967295 (let z = w.heads_long in omega arith)) c.in_default-find_large.ensures)

pub word_at-requires : goal.word_at-requires
word_at-requires c =
    let h = rw (← c.self.view_is) at c.requires.lists in
    let z = fit-within _ _ _ _ _ _ _ _ h.listed _ _ _ (get_or_default c.self.inside.heads 23 0 4294967295
    (let z = h.listed.heads_long in omega arith)) c.in-Some-find_large.ensures in omega (arith, z)

pub returns : goal.returns
returns c = rw (← c.self.view_is) (λ sizes w.
    let e = c.word_at.ensures in
    rw e (large-fit _ _ _ _ _ _ _ _ w c.self.invariant c.args.total _ _ c.requires.eights c.requires.some c.in_default.ensures
    (get_or_default c.self.inside.heads 23 0 4294967295 (let z = w.heads_long in omega arith)) c.in-Some-find_large.ensures))
