-- How often each of the securities is used, counted run by run.
use Rattle.std.proofs.Common.{◌≡◌, ℕ, ◌+◌, ◌-◌, ◌<◌, ◌≤◌, zero, suc, Bool, true, false, cond, eqb, List, [], ◌∷◌, length, take, get_or, Option, Some, unwrap_or, refl, sym, ap, ◌∙◌, subst, arith}
use Rattle.std.proofs.lemmas.Bool.{eqb-true}
use Rattle.std.proofs.lemmas.List.{take_more}
use Rattle.reg_heap.specs.Kinds.{times}
use Rattle.reg_arena.proofs.FreeList.ThreadLinks.{times-append}
use Rattle.reg_written.specs.Internal.RingWalks.{if_used, AreUses}

-- one more of a list
times-more : (o : ℕ) (xs : List ℕ) (i : ℕ) → i < length xs → times o (take (i + 1) xs) ≡ times o (take i xs) + cond (eqb (get_or xs i 0) o) 1 0
times-more o xs i l =
    let e : times o (take (i + 1) xs) ≡ times o (take i xs) + times o (get_or xs i 0 ∷ []) =
    ap (times o) (take_more xs i 0 l) ∙ times-append o (take i xs) (get_or xs i 0 ∷ []) in
    omega (arith, e)

-- none stands more often than there are numbers
times-few : (o : ℕ) (xs : List ℕ) (i : ℕ) → times o (take i xs) ≤ i
times-few o xs zero = omega arith
times-few o [] (suc i) = omega arith
times-few o (x ∷ xs) (suc i) = by (eqb x o) (times-few o xs i)
  where
    by : (b : Bool) → times o (take i xs) ≤ i → cond b 1 0 + times o (take i xs) ≤ suc i
    by true l = omega arith
    by false l = omega arith

-- so often the first of a run stands in it, and nothing else
abbrev pub Runs : List ℕ → ℕ → ℕ → Type 0
Runs used start end =
    (offset : ℕ) → times offset (take end used) ≡ times offset (take start used) + cond (eqb (get_or used start 0) offset) (end - start) 0

-- a run of one
pub run-start : (used : List ℕ) (start : ℕ) → start < length used → Runs used start (start + 1)
run-start used start l offset =
    times-more offset used start l ∙ ap (λ n. times offset (take start used) + cond (eqb (get_or used start 0) offset) n 0) (omega arith)

-- a run with one more
pub run-more : (used : List ℕ) (start end : ℕ) → start < end → end < length used → get_or used end 0 ≡ get_or used start 0 → Runs used start end → Runs used start (end + 1)
run-more used start end s l same r offset =
    by (eqb (get_or used start 0) offset) (r offset) (times-more offset used end l ∙ ap (λ x. times offset (take end used) + cond (eqb x offset) 1 0) same)
  where
    by : (b : Bool) → times offset (take end used) ≡ times offset (take start used) + cond b (end - start) 0 →
        times offset (take (end + 1) used) ≡ times offset (take end used) + cond b 1 0 →
        times offset (take (end + 1) used) ≡ times offset (take start used) + cond b (end + 1 - start) 0
    by true e f = omega (arith, e, f)
    by false e f = omega (arith, e, f)

module _ (counts : ℕ → Option ℕ) (used : List ℕ) (start : ℕ) (are : AreUses counts (take start used)) where
  unwrap-used : (n : ℕ) → unwrap_or (if_used n) 0 ≡ n
  unwrap-used zero = refl
  unwrap-used (suc n) = refl

  counted : (offset : ℕ) → unwrap_or (counts offset) 0 ≡ times offset (take start used)
  counted offset = ap (λ n. unwrap_or n 0) (are offset) ∙ unwrap-used (times offset (take start used))

  -- what is counted of one is no more than there are
  pub counts-few : (offset : ℕ) → unwrap_or (counts offset) 0 ≤ start
  counts-few offset = let c = counted offset in let f = times-few offset used start in omega (arith, c, f)

  -- a run more is counted
  pub run-counted : (end first more : ℕ) (new : ℕ → Option ℕ) → start < end → first ≡ get_or used start 0 → more ≡ end - start → Runs used start end →
      ((other : ℕ) → new other ≡ cond (eqb first other) (Some (unwrap_or (counts first) 0 + more)) (counts other)) → AreUses new (take end used)
  run-counted end first more new s f m r is offset =
      is offset ∙ by (eqb first offset) refl (subst (λ x. times offset (take end used) ≡ times offset (take start used) + cond (eqb x offset) (end - start) 0) (sym f) (r offset))
    where
      some : (a b : ℕ) → 0 < b → a ≡ b → Some a ≡ if_used b
      some a zero l e = absurd (omega arith)
      some a (suc b) l e = ap (λ n. Some n) e

      by : (b : Bool) → eqb first offset ≡ b → times offset (take end used) ≡ times offset (take start used) + cond b (end - start) 0 →
          cond b (Some (unwrap_or (counts first) 0 + more)) (counts offset) ≡ if_used (times offset (take end used))
      by true same e =
          let c : unwrap_or (counts first) 0 ≡ times offset (take start used) = ap (λ o. unwrap_or (counts o) 0) (eqb-true first offset same) ∙ counted offset in
          some _ _ (omega (arith, e)) (omega (arith, c, e, m))
      by false same e = are offset ∙ ap if_used (omega (arith, e))
