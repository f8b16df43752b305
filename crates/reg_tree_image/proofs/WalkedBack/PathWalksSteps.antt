-- A step that met no fault gives the same where fewer records were named.
use Rattle.std.proofs.Common.{◌≡◌, ℕ, ◌≤◌, ◌==◌, ◌&&◌, ◌||◌, arith, Bool, true, false, Option, Some, None, Result, Ok, Err, List, [], ◌∷◌, ◌++◌, append_assoc, refl, sym, ap, ◌∙◌, subst}
use Rattle.std.proofs.lemmas.Bool.{eqb-true}
use Rattle.std.proofs.lemmas.List.{append-nil}
use Rattle.reg_heap.specs.Heaps.{Heap}
use Rattle.reg_heap.specs.Kinds.{Kind, Found, is_security, is_own, is_shared, times, tally, owned, shared}
use Rattle.reg_records.specs.declared.RecordFault.{RecordFault}
use Rattle.reg_shape.proofs.Wholeness.ShapeCounts.{tally-append}
use Rattle.reg_tree_image.specs.declared.LoadFault.{LoadFault}
use Rattle.reg_tree_image.specs.declared.LoadFault.TheVariants.{Record, Loop, Twice}
use Rattle.reg_tree_image.specs.WalkSteps.{Seen, Step, ◌>>=◌, ◌>>◌, onward, give, check, given, note, not_named, cell, is_new, is_absent}
use Rattle.reg_tree_image.specs.LoadingWalk.{read}
use Rattle.reg_tree_image.proofs.CleanWalks.CleanSteps.{named_too}
use Rattle.reg_tree_image.proofs.WalkedBack.BackSteps.{bind-back, check-back, given-back, give-back}

-- no record was named by `now` that wasn't named by `seen`
abbrev pub AreFewer : Seen → Seen → Type 0
AreFewer now seen = (m : Found → ℕ) → tally m now.found ≤ tally m seen.found

-- no record was named by `now` that wasn't named by `seen`, and each key of the path was
pub record Fits (path : List ℕ) (now seen : Seen) : Type 0 where
  pub fewer : AreFewer now seen
  pub keys : (o : ℕ) → times o path ≤ owned o now.found

-- what a step gave and named, and that it does so wherever fewer were named
pub record IsAgain {A : Type 0} (path : List ℕ) (s : Step A) (seen : Seen) (y : A) (after : Seen) : Type 0 where
  pub met : List Found
  pub is : after ≡ named_too seen met
  pub again : (now : Seen) → Fits path now seen → s now ≡ Ok (y, named_too now met)

-- where the one step meets no fault, the other gives the same wherever fewer were named
abbrev pub Repeats : {A : Type 0} → List ℕ → Step A → Step A → Type 0
Repeats {A} path s t = (seen : Seen) (y : A) (after : Seen) → s seen ≡ Ok (y, after) → IsAgain path t seen y after

-- ---- fewer

pub fits-then : (path : List ℕ) (now seen mid : Seen) (met : List Found) → mid ≡ named_too seen met → Fits path now seen → Fits path (named_too now met) mid
fits-then path now seen mid met e f = subst (Fits path (named_too now met)) (sym e)
    (record {
      fewer = λ m. (let l = f.fewer m in let a = tally-append m now.found met in let b = tally-append m seen.found met in omega (arith, l, a, b));
      keys = λ o. (let l = f.keys o in let a = tally-append (is_own o) now.found met in omega (arith, l, a));
    })

-- more may be named on the other walk
pub fits-more : (path : List ℕ) (now seen mid : Seen) → AreFewer seen mid → Fits path now seen → Fits path now mid
fits-more path now seen mid more f = record { fewer = λ m. (let a = f.fewer m in let b = more m in omega (arith, a, b)); keys = f.keys }

pub fewer-then : (seen mid : Seen) (met : List Found) → mid.found ≡ seen.found ++ met → AreFewer seen mid
fewer-then seen mid met e m = let a = ap (tally m) e in let b = tally-append m seen.found met in omega (arith, a, b)

pub fewer-join : (a b c : Seen) → AreFewer a b → AreFewer b c → AreFewer a c
fewer-join a b c f g m = let p = f m in let q = g m in omega (arith, p, q)

both-true : (a b : Bool) → (a && b) ≡ true → (a ≡ true) × (b ≡ true)
both-true true b e = (refl, e)
both-true false b e = absurd (cc)

fewer-new : (kind : Kind) (offset : ℕ) (few many : List Found) → ((m : Found → ℕ) → tally m few ≤ tally m many) → is_new kind offset many ≡ true → is_new kind offset few ≡ true
fewer-new kind offset few many l new =
    let b = both-true (owned offset many == 0) (is_security kind || (shared offset many == 0)) new in
    let z = eqb-true (owned offset many) 0 b.0 in
    let none : owned offset few ≡ 0 = (let i = l (is_own offset) in omega (arith, z, i)) in
    ap (λ (n : ℕ). (n == 0) && (is_security kind || (shared offset few == 0))) none ∙ by (is_security kind) b.1
  where
    by : (s : Bool) → (s || (shared offset many == 0)) ≡ true → (s || (shared offset few == 0)) ≡ true
    by true e = refl
    by false e =
        let z = eqb-true (shared offset many) 0 e in
        let none : shared offset few ≡ 0 = (let i = l (is_shared offset) in omega (arith, z, i)) in
        ap (λ (n : ℕ). n == 0) none

absent-by : (kind : Kind) (offset : ℕ) (path : List ℕ) (found : List Found) → times offset path ≤ owned offset found → is_new kind offset found ≡ true → is_absent offset path ≡ true
absent-by kind offset path found l new =
    let z = eqb-true (owned offset found) 0 (both-true (owned offset found == 0) (is_security kind || (shared offset found == 0)) new).0 in
    let none : times offset path ≡ 0 = omega (arith, l, z) in
    ap (λ (n : ℕ). n == 0) none

-- ---- steps

pub repeats-give : {A : Type 0} (path : List ℕ) (x : A) → Repeats path (give x) (give x)
repeats-give path x seen y after e =
    let g = give-back x seen y after e in
    record {
      met = [];
      is = sym g.1 ∙ ap (λ (zs : List Found). record seen { found = zs }) (sym (append-nil seen.found));
      again = λ now f. ap (λ (z : _). Ok (z, now)) g.0 ∙ ap (λ (zs : List Found). Ok (y, record now { found = zs })) (sym (append-nil now.found));
    }

pub repeats-bind : {A B : Type 0} (path : List ℕ) (s t : Step A) (f g : A → Step B) → Repeats path s t → ((x : A) → Repeats path (f x) (g x)) → Repeats path (s >>= f) (t >>= g)
repeats-bind path s t f g one then seen y after e =
    let o = bind-back s f seen y after e in
    let a = one seen o.first o.mid o.first_is in
    let b = then o.first o.mid y after o.then_is in
    record {
      met = a.met ++ b.met;
      is = b.is ∙ (ap (λ (z : Seen). named_too z b.met) a.is ∙ ap (λ (zs : List Found). record seen { found = zs }) (append_assoc seen.found a.met b.met));
      again = λ now f. ap (onward g) (a.again now f)
          ∙ (b.again (named_too now a.met) (fits-then path now seen o.mid a.met a.is f)
          ∙ ap (λ (zs : List Found). Ok (y, record now { found = zs })) (append_assoc now.found a.met b.met));
    }

pub repeats-check : {B : Type 0} (path : List ℕ) (fault : LoadFault) (test : Bool) (s t : Step B) → Repeats path s t → Repeats path (check fault test >> s) (check fault test >> t)
repeats-check path fault test s t r seen y after e =
    let k = check-back fault test s seen y after e in
    let a = r seen y after k.1 in
    record { met = a.met; is = a.is; again = λ now f. ap (λ (c : Bool). onward (λ _. t) (check fault c now)) k.0 ∙ a.again now f }

pub repeats-given : {A B : Type 0} (path : List ℕ) (fault : LoadFault) (o : Option A) (f g : A → Step B) → ((x : A) → Repeats path (f x) (g x)) →
    Repeats path (given fault o >>= f) (given fault o >>= g)
repeats-given path fault None f g r seen y after e = absurd (cc)
repeats-given path fault (Some x) f g r seen y after e = let a = r x seen y after e in record { met = a.met; is = a.is; again = λ now h. a.again now h }

pub repeats-last : {A : Type 0} (path : List ℕ) (fault : LoadFault) (o : Option A) → Repeats path (given fault o) (given fault o)
repeats-last path fault None seen y after e = absurd (cc)
repeats-last path fault (Some x) seen y after e = let a = repeats-give path x seen y after e in record { met = a.met; is = a.is; again = λ now h. a.again now h }

pub repeats-read : {R B : Type 0} (path : List ℕ) (r : Result R RecordFault) (f g : R → Step B) → ((x : R) → Repeats path (f x) (g x)) → Repeats path (read r >>= f) (read r >>= g)
repeats-read path (Err fault) f g m seen y after e = absurd (cc)
repeats-read path (Ok x) f g m seen y after e = let a = m x seen y after e in record { met = a.met; is = a.is; again = λ now h. a.again now h }

-- ---- a cell

pub repeats-cell : (heap : Heap) (above path : List ℕ) (kind : List ℕ → Kind) (offset : ℕ) → Repeats path (cell heap above kind offset) (cell heap path kind offset)
repeats-cell heap above path kind offset seen content after e =
    let at : List ℕ → Found = λ held. record { kind = kind held; offset = offset } in
    let o = given-back Record (heap offset) (λ held. check Loop (is_absent offset above) >> (not_named (kind held) offset >> (note (at held) >> give held))) seen content after e in
    let l = check-back Loop (is_absent offset above) (not_named (kind o.0) offset >> (note (at o.0) >> give o.0)) seen content after o.2 in
    let n = check-back Twice (is_new (kind o.0) offset seen.found) (note (at o.0) >> give o.0) seen content after l.1 in
    let g = give-back o.0 (named_too seen (at o.0 ∷ [])) content after n.1 in
    subst (λ (held : List ℕ). IsAgain path (cell heap path kind offset) seen held after) g.0
    (record {
      met = at o.0 ∷ [];
      is = sym g.1;
      again = λ now f. here o.0 now o.1 (fewer-new (kind o.0) offset now.found seen.found f.fewer n.0) (f.keys offset);
    })
  where
    here : (held : List ℕ) (now : Seen) → heap offset ≡ Some held → is_new (kind held) offset now.found ≡ true → times offset path ≤ owned offset now.found →
        cell heap path kind offset now ≡ Ok (held, named_too now (record { kind = kind held; offset = offset } ∷ []))
    here held now e n l =
        let a = absent-by (kind held) offset path now.found l n in
        rw (e, a, n) refl
