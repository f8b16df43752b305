-- Memory for bins of one page that is kept from call to call.
use Rattle.std.proofs.Common.{◌≡◌, ◌<◌, Bool, true, false, if◌then◌else◌, List, [], ◌∷◌, ◌++◌, length, subst, ◌≤◌, arith, length-append}
use Rattle.std.specs.List.{AllByRecursion}
use Rattle.reg_arena.specs.declared.each.Spare.{Spare}
use Rattle.reg_arena.specs.Internal.Spares.{ArePages, IsPage}
use Rattle.reg_arena.proofs.Contents.CellWrites.{all-append}

pub none_kept : ArePages []
unfolding ArePages
none_kept = (omega arith, tt)

front : (front rest : List Spare) → AllByRecursion IsPage (front ++ rest) → AllByRecursion IsPage front
front [] rest h = tt
front (spare ∷ spares) rest h = (h.0, front spares rest h.1)

-- some are taken from the end
pub fewer_kept : (old new rest : List Spare) → old ≡ new ++ rest → ArePages old → ArePages new
unfolding ArePages
fewer_kept old new rest is pages =
    let both = subst (λ (kept : List Spare). (length kept ≤ 16) × AllByRecursion IsPage kept) is pages in
    (omega (arith, both.0, length-append new rest), front new rest both.1)

-- one more, where it was put there
pub more_kept : (there : Bool) (old new : List Spare) (spare : Spare) → new ≡ (if there then old ++ spare ∷ [] else old) → length old < 16 → IsPage spare →
    ArePages old → ArePages new
unfolding ArePages
more_kept false old new spare is few page pages = rw is pages
more_kept true old new spare is few page pages =
    rw is (omega (arith, few, length-append old (spare ∷ [])), all-append IsPage old (spare ∷ []) pages.1 (page, tt))
