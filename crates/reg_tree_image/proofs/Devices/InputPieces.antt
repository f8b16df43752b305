-- What was read, piece by piece.
use Rattle.std.proofs.Common.{Bool, true, false, cond, ◌==◌, ◌≡◌, ℕ, ◌+◌, ◌-◌, ◌<◌, ◌≤◌, ◌++◌, Option, Result, Ok, Err, IfErr, List, length}
use Rattle.std.proofs.Common.{take, drop, sym, ap, ◌∙◌, subst, arith}
use Rattle.std.proofs.Common.{le_refl, drop_at, length-append, length-take-le, length-drop}
use Rattle.std.specs.Result.{IsErrAnd}
use Rattle.std.specs.Io.KnownBytes.{Consumes}
use Rattle.std.proofs.KnownBytes.{Consumes-trans}
use Rattle.std.proofs.lemmas.Slice.{take-put_mid_below}
use borrow.Rule.Slice.PartMut.{put_mid, post_of}
use lib.Seq.{take-add, take-append-le}
use Rattle.reg_tree_image.specs.declared.LoadFault.{LoadFault}
use Rattle.reg_tree_image.specs.declared.LoadFault.TheVariants.{Read, Short, Memory}
use Rattle.reg_tree_image.specs.Internal.InputParts.{told_by, IsCut, IsGivenUp}

-- what holds of the fault that a `?` passes on
pub exit-with : {T E : Type 0} (P : E → Type 0) (r : Result T E) (e : E) → IsErrAnd r (λ y. y ≡ e) → P e → IfErr r P
exit-with P (Ok x) e i p = absurd i
exit-with P (Err y) e i p = subst P (sym i) p

-- so many bytes more stand in a buffer behind those that were there
pub Consumes-filled : (a b c : Option (List ℕ)) (at n : ℕ) (old part : List ℕ) → at < length old → n ≤ length part →
    length part ≡ length old - at →
    Consumes a b (take at old) → Consumes b c (take n part) → Consumes a c (take (at + n) (put_mid at (length old - at) old part))
Consumes-filled a b c at n old part l f k before read =
    let new = put_mid at (length old - at) old part in
    let within : at ≤ length old = omega arith in
    let front = take-put_mid_below at (length old - at) old part at (le_refl at) within in
    let behind : take n (drop at new) ≡ take n part =
    ap (take n) (drop_at (take at old) (part ++ post_of at (length old - at) old) at (length-take-le at old within)) ∙
    take-append-le n part (post_of at (length old - at) old) f in
    subst (Consumes a c) (sym (take-add at n new ∙ (ap (λ xs. xs ++ take n (drop at new)) front ∙ ap (λ xs. take at old ++ xs) behind)))
    (Consumes-trans a b c (take at old) (take n part) before read)

-- a part of a buffer that was cut, behind what was read before
pub cut-behind : (a b c : Option (List ℕ)) (front : List ℕ) (room size : ℕ) (fault : LoadFault) → Consumes a b front →
    length front + room ≤ size →
    (piece : List ℕ) × Consumes b c piece × IsCut fault room piece c → (piece : List ℕ) × Consumes a c piece × IsGivenUp fault size piece c
cut-behind a b c front room size fault before l p = (front ++ p.0, Consumes-trans a b c front p.0 before p.1, by fault p.2)
  where
    long : length (front ++ p.0) ≡ length front + length p.0
    long = length-append front p.0

    by : (f : LoadFault) → IsCut f room p.0 c → IsGivenUp f size (front ++ p.0) c
    by Read k = let e = long in omega (arith, k, l, e)
    by Short k = let e = long in (omega (arith, k.0, l, e), k.1)
    by Memory k = absurd k
    by f k = k

-- a part of so many bytes behind those that were there
pub part-fits : (front whole : List ℕ) (from more size : ℕ) → from ≡ length front → length whole ≡ from + more → from + more ≤ size →
    length front + length (take (length whole - from) (drop from whole)) ≤ size
part-fits front whole from more size f w l =
    let e = length-take-le (length whole - from) (drop from whole) (let d = length-drop from whole in omega (arith, d)) in
    omega (arith, e, f, w, l)

-- a read that gave bytes
pub told-ok : {E : Type 0} (r : Result ℕ E) (n : ℕ) → Ok n ≡ told_by r → r ≡ Ok n
told-ok (Ok k) n e = ap Ok (by (k == 0) e)
  where
    by : (b : Bool) → Ok n ≡ cond b (Err Short) (Ok k) → k ≡ n
    by true e = absurd (cc)
    by false e = let same : n ≡ k = cc in sym same
told-ok (Err x) n e = absurd (cc)
