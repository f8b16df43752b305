-- One queue of many changed.
use Rattle.std.proofs.Common.{◌≡◌, ℕ, ◌<◌, ◌≤◌, List, [], length, map, get_or, Bool, true, false, eqb, nat_lt, Option, Some, None, refl, sym, ap, ◌∙◌}
use Rattle.std.proofs.Common.{subst, arith, Vec}
use Rattle.std.specs.Prelude.{slice_get, unwrap_or, option_map, vec_len}
use Rattle.std.proofs.Math.ListN.{set, length-set}
use Rattle.std.proofs.lemmas.Bool.{eqb-true, eqb-false}
use Rattle.std.proofs.lemmas.Bool.Decides.{nat_tests}
use Rattle.std.proofs.lemmas.List.{get_or-set_same, get_or-set_other, ext_get_or, length-map}
use Rattle.std.proofs.lemmas.Option.{slice_get-get_or, slice_get_past, slice_get-map, unwrap_or-slice_get}
use Rattle.reg_model.specs.declared.notice.Notice.{Notice}
use Rattle.reg_notify.specs.declared.queues.Queue.{Queue}
use Rattle.reg_notify.specs.Internal.Queues.{told_in, taken_in, told_at, taken_at}
use Rattle.reg_notify.specs.Internal.Settled.{told_of, taken_of}

set-there : (qs : List Queue) (i : ℕ) (q : Queue) → i < length qs → slice_get (set qs i q) i ≡ Some q
set-there qs i q within =
    let long = length-set qs i q in
    let inside : i < length (set qs i q) = omega (arith, long, within) in
    slice_get-get_or (set qs i q) i q inside ∙ ap Some (get_or-set_same qs i q q within)

set-others : (qs : List Queue) (i : ℕ) (q : Queue) (s : ℕ) → eqb s i ≡ false → slice_get (set qs i q) s ≡ slice_get qs s
set-others qs i q s other = by (nat_lt s (length qs)) refl
  where
    long : length (set qs i q) ≡ length qs
    long = length-set qs i q

    by : (b : Bool) → nat_lt s (length qs) ≡ b → slice_get (set qs i q) s ≡ slice_get qs s
    by true e =
        let inside : s < length qs = grind (arith, nat_tests, e) in
        let within : s < length (set qs i q) = omega (arith, long, inside) in
        slice_get-get_or (set qs i q) s q within ∙ ap Some (get_or-set_other qs i s q q (eqb-false s i other)) ∙ sym (slice_get-get_or qs s q inside)
    by false e =
        let past : length qs ≤ s = grind (arith, nat_tests, e) in
        let beyond : length (set qs i q) ≤ s = omega (arith, long, past) in
        slice_get_past (set qs i q) s beyond ∙ sym (slice_get_past qs s past)

-- what holds of each queue and itself, and of the one that was and the one that is put, holds of each that was and is
pub set-kept : (P : Option Queue → Option Queue → Type 0) (qs : List Queue) (i : ℕ) (q : Queue) → ((o : Option Queue) → P o o) → P (slice_get qs i) (Some q) →
    i < length qs →
    (s : ℕ) → P (slice_get qs s) (slice_get (set qs i q) s)
set-kept P qs i q same put within s = by (eqb s i) refl
  where
    by : (b : Bool) → eqb s i ≡ b → P (slice_get qs s) (slice_get (set qs i q) s)
    by false e = subst (P (slice_get qs s)) (sym (set-others qs i q s e)) (same (slice_get qs s))
    by true e = subst (λ (k : ℕ). P (slice_get qs k) (slice_get (set qs i q) k)) (sym (eqb-true s i e))
        (subst (P (slice_get qs i)) (sym (set-there qs i q within)) put)

-- the queue at an index
pub queue-at : (qs : List Queue) (i : ℕ) (q : Queue) → i < length qs → q ≡ get_or qs i q → slice_get qs i ≡ Some q
queue-at qs i q within is = slice_get-get_or qs i q within ∙ ap Some (sym is)

-- ---- the lists that callers see

-- vectors of one length have lists of one length
pub same-length-of : {X Y Z : Type 0} (v : Vec X Y) (w : Vec X Z) → vec_len w ≡ vec_len v → length w.items ≡ length v.items
same-length-of v w e = let a = v.ok in let b = w.ok in sym b.0 ∙ e ∙ a.0

pub told-is : (qs : List Queue) (s : ℕ) → get_or (map told_of qs) s [] ≡ told_at qs s
told-is qs s = sym (unwrap_or-slice_get (map told_of qs) s []) ∙ ap (λ (o : Option (List Notice)). unwrap_or o []) (slice_get-map told_of qs s) ∙ by
    (slice_get qs s)
  where
    by : (o : Option Queue) → unwrap_or (option_map told_of o) [] ≡ told_in o
    by None = refl
    by (Some q) = refl

pub taken-is : (qs : List Queue) (s : ℕ) → get_or (map taken_of qs) s 0 ≡ taken_at qs s
taken-is qs s = sym (unwrap_or-slice_get (map taken_of qs) s 0) ∙ ap (λ (o : Option ℕ). unwrap_or o 0) (slice_get-map taken_of qs s) ∙ by (slice_get qs s)
  where
    by : (o : Option Queue) → unwrap_or (option_map taken_of o) 0 ≡ taken_in o
    by None = refl
    by (Some q) = refl

-- queues that tell the same at each session are of the same lists
pub told-same : (qs rs : List Queue) → length rs ≡ length qs → ((s : ℕ) → told_at rs s ≡ told_at qs s) → map told_of rs ≡ map told_of qs
told-same qs rs long same =
    ext_get_or [] (map told_of rs) (map told_of qs) (length-map rs told_of ∙ long ∙ sym (length-map qs told_of))
    (λ s within. told-is rs s ∙ same s ∙ sym (told-is qs s))

pub taken-same : (qs rs : List Queue) → length rs ≡ length qs → ((s : ℕ) → taken_at rs s ≡ taken_at qs s) → map taken_of rs ≡ map taken_of qs
taken-same qs rs long same =
    ext_get_or 0 (map taken_of rs) (map taken_of qs) (length-map rs taken_of ∙ long ∙ sym (length-map qs taken_of))
    (λ s within. taken-is rs s ∙ same s ∙ sym (taken-is qs s))
