-- Texts in UTF-16 that bytes hold.
use Rattle.std.proofs.Common.{◌≡◌, ℕ, ◌+◌, ◌-◌, ◌*◌, ◌<◌, ◌≤◌, List, [], ◌∷◌, ◌++◌, length, get_or, take, drop, sym, ap, ◌∙◌, arith, append_assoc, append-nil}
use Rattle.std.proofs.lemmas.List.{take_all}
use Rattle.reg_find.specs.Findings.{unit_or_end, units_in}

-- ---- units read so far

pub units_start : (bytes empty : List ℕ) → empty ≡ [] → units_in bytes ≡ empty ++ units_in bytes
units_start bytes empty e = ap (λ (x : List ℕ). x ++ units_in bytes) (sym e)

pub units_more : (bytes taken new rest behind : List ℕ) (number unit : ℕ) → units_in bytes ≡ taken ++ units_in rest → 2 ≤ length rest →
    behind ≡ take (length rest - 2) (drop 2 rest) → number ≡ get_or rest 0 0 + 256 * get_or rest 1 0 → unit ≡ unit_or_end number →
    new ≡ taken ++ unit ∷ [] → units_in bytes ≡ new ++ units_in behind
units_more bytes taken new [] behind number unit so_far two b s u n = absurd (omega (arith, two))
units_more bytes taken new (low ∷ []) behind number unit so_far two b s u n = absurd (omega (arith, two))
units_more bytes taken new (low ∷ high ∷ rest) behind number unit so_far two b s u n =
    let all : behind ≡ rest = b ∙ take_all (length (low ∷ high ∷ rest) - 2) rest (omega arith) in
    so_far
    ∙ (ap (λ (x : ℕ). taken ++ (x ∷ units_in rest)) (sym (u ∙ ap unit_or_end s))
    ∙ (sym (append_assoc taken (unit ∷ []) (units_in rest))
    ∙ (ap (λ (x : List ℕ). x ++ units_in rest) (sym n) ∙ ap (λ (x : List ℕ). new ++ units_in x) (sym all))))

-- fewer than two bytes are left
pub units_all : (bytes taken rest : List ℕ) → units_in bytes ≡ taken ++ units_in rest → length rest < 2 → taken ≡ units_in bytes
units_all bytes taken [] so_far few = sym (append-nil taken) ∙ sym so_far
units_all bytes taken (low ∷ []) so_far few = sym (append-nil taken) ∙ sym so_far
units_all bytes taken (low ∷ high ∷ rest) so_far few = absurd (omega (arith, few))
