-- Events that hit no pending watch, as they are remembered.
use Rattle.std.proofs.Common.{◌≡◌, ℕ, zero, suc, true, ◌&&◌, eqb, ltb, leb, List, [], ◌∷◌, ◌++◌, get_or, refl, sym, ap, ◌∙◌, arith}
use Rattle.std.proofs.lemmas.Bool.{and_parts, eqb-true, ltb-true, leb-true}
use Rattle.reg_calls.specs.declared.quiet.Quiet.{Quiet}
use Rattle.reg_calls.specs.declared.quiet.Unhit.{Unhit}
use Rattle.reg_calls.specs.Internal.QuietKeys.{nothing, Remembers}

-- one more empty row
pub still-empty : (rows : List Unhit) → ((i : ℕ) → get_or rows i nothing ≡ nothing) → (i : ℕ) → get_or (rows ++ nothing ∷ []) i nothing ≡ nothing
still-empty [] none zero = refl
still-empty [] none (suc i) = refl
still-empty (row ∷ rows) none zero = none zero
still-empty (row ∷ rows) none (suc i) = still-empty rows (λ j. none (suc j)) i

-- nothing is remembered in empty rows
pub none-remembered : (q : Quiet) → ((i : ℕ) → get_or q.rows.items i nothing ≡ nothing) → (handle bits number : ℕ) → Remembers q handle bits number → ⊥
none-remembered q none handle bits number r =
    let same = ap (λ (row : Unhit). row.bits) (sym (none r.place) ∙ r.row) in
    let some = r.kind in
    omega (arith, same, some)

-- a row that was found
pub remembered-at : (q : Quiet) (handle bits place : ℕ) (row : Unhit) → row ≡ get_or q.rows.items place nothing →
    (ltb 0 bits && eqb row.handle handle && eqb row.bits bits && leb q.since row.at) ≡ true → (number : ℕ) × Remembers q handle bits number
remembered-at q handle bits place row is tests =
    let a = and_parts (ltb 0 bits && eqb row.handle handle && eqb row.bits bits) (leb q.since row.at) tests in
    let b = and_parts (ltb 0 bits && eqb row.handle handle) (eqb row.bits bits) a.0 in
    let c = and_parts (ltb 0 bits) (eqb row.handle handle) b.0 in
    let same_handle = eqb-true row.handle handle c.1 in
    let same_bits = eqb-true row.bits bits b.1 in (
      row.at,
      record {
        kind = ltb-true 0 bits c.0;
        since = leb-true q.since row.at a.1;
        place = place;
        row = sym is ∙ (λ i. record { handle = same_handle i; bits = same_bits i; at = row.at });
      },
    )
