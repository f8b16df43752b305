-- Bins to come, which are needed only where no free cell has room for all cells that are left.
use Rattle.std.proofs.Common.{◌≡◌, ◌≢◌, ℕ, zero, suc, ◌+◌, ◌<◌, ◌≤◌, ◌%◌, Bool, cond, List, [], ◌∷◌, ◌++◌, length, get_or, set, replicate}
use Rattle.std.proofs.Common.{refl, sym, ap, ◌∙◌, subst, arith, eqb, inl, inr, Ok, Err}
use Rattle.std.proofs.lemmas.Bool.{eq-eqb, ne_eqb}
use Rattle.std.specs.Prelude.{IfOk, MatchOption, vec_capacity}
use Rattle.std.specs.declared.result.Result.{Result}
use Rattle.reg_arena.specs.declared.each.Spare.{Spare}
use Rattle.reg_arena.specs.Internal.Reserved.{IsBlank, IsRoomFor}
use Rattle.reg_arena.specs.Internal.Spares.{AreSpare, HasSpare}
use Rattle.std.proofs.lemmas.List.{length-replicate}
use Rattle.reg_arena.specs.NewBin.{IsBinSize}
use Rattle.reg_arena.specs.NewCells.{total_of}
use Rattle.reg_arena.specs.Carves.{Carves, CarvesExactly, IsRoom, NoFit}
use Rattle.reg_arena.specs.EachCell.{fresh_of}
use Rattle.reg_arena.proofs.Carving.FreshBins.{fresh-is}
use Rattle.reg_arena.proofs.Carving.GrownBins.{fit-before, no_fit-larger}

-- the sizes at the marked places, together
abbrev pub total_left : ℕ → List ℕ → List ℕ → ℕ
total_left none [] offsets = 0
total_left none (s ∷ sizes) [] = 0
total_left none (s ∷ sizes) (o ∷ offsets) = cond (eqb o none) s 0 + total_left none sizes offsets

pub total_left-all : (none : ℕ) (sizes : List ℕ) → total_left none sizes (replicate (length sizes) none) ≡ total_of sizes
total_left-all none [] = refl
total_left-all none (s ∷ sizes) =
    let rest = total_left-all none sizes in
    let here : cond (eqb none none) s 0 ≡ s = ap (λ (b : Bool). cond b s 0) (eq-eqb none none refl) in
    omega (arith, rest, here)

pub total_left-set : (none : ℕ) (sizes offsets : List ℕ) (place offset : ℕ) → length offsets ≡ length sizes → place < length sizes →
    get_or offsets place 0 ≡ none → offset ≢ none →
    total_left none sizes (set offsets place offset) + get_or sizes place 0 ≡ total_left none sizes offsets
total_left-set none [] offsets place offset long h left differs = absurd (omega (arith, h))
total_left-set none (s ∷ sizes) [] place offset long h left differs = absurd (omega (arith, long))
total_left-set none (s ∷ sizes) (o ∷ offsets) zero offset long h left differs =
    let before : cond (eqb o none) s 0 ≡ s = ap (λ (b : Bool). cond b s 0) (eq-eqb o none left) in
    let after : cond (eqb offset none) s 0 ≡ 0 = ap (λ (b : Bool). cond b s 0) (ne_eqb offset none differs) in
    omega (arith, before, after)
total_left-set none (s ∷ sizes) (o ∷ offsets) (suc place) offset long h left differs =
    let rest = total_left-set none sizes offsets place offset (omega (arith, long)) (omega (arith, h)) left differs in
    omega (arith, rest)

-- a marked place's size is one of them
pub total_left-room : (none : ℕ) (sizes offsets : List ℕ) (place : ℕ) → length offsets ≡ length sizes → place < length sizes →
    get_or offsets place 0 ≡ none → get_or sizes place 0 ≤ total_left none sizes offsets
total_left-room none sizes offsets place long h left =
    let set = total_left-set none sizes offsets place (none + 1) long h left (λ e. absurd (omega (arith, e))) in
    omega (arith, set)

-- the sizes are no more than their bins
pub total-fresh : (sizes : List ℕ) → total_of sizes ≤ fresh_of sizes
total-fresh [] = omega arith
total-fresh (s ∷ sizes) = let rest = total-fresh sizes in omega (arith, rest)

-- where after a cell no free cell has room for the rest, none had for that cell and the rest
pub none-before : (old new : List ℕ) (size offset rest : ℕ) → 0 < rest → CarvesExactly old new (size ∷ []) (offset ∷ []) → NoFit new rest → NoFit old (size + rest)
none-before old new size offset rest some c none = by c.room
  where
    by : IsRoom old c.mid (total_of (size ∷ [])) → NoFit old (size + rest)
    by (inl same) = fit-before old new (offset ∷ []) size rest some (subst (λ bytes. Carves bytes new (size ∷ []) (offset ∷ [])) same c.carves) none
    by (inr (full, bin)) = no_fit-larger old (total_of (size ∷ [])) (size + rest) (omega arith) full

-- ---- the bins to come

-- the one of a marked place
pub spare-at : (none : ℕ) (sizes offsets : List ℕ) (spares : List Spare) (place : ℕ) → AreSpare none sizes offsets spares → place < length sizes →
    get_or offsets place 0 ≡ none → HasSpare spares place (get_or sizes place 0)
spare-at none [] offsets spares place h within left = absurd (omega (arith, within))
spare-at none (s ∷ sizes) [] spares place h within left = absurd h
spare-at none (s ∷ sizes) (o ∷ offsets) [] place h within left = absurd h
spare-at none (s ∷ sizes) (o ∷ offsets) (p ∷ spares) zero h within left = record { there = omega arith; room = λ other. h.0 left }
spare-at none (s ∷ sizes) (o ∷ offsets) (p ∷ spares) (suc place) h within left =
    let rest = spare-at none sizes offsets spares place h.1 (omega (arith, within)) left in
    record { there = omega (arith, rest.there); room = λ other. rest.room other }

-- after a cell was carved and none was taken
pub spare-skip : (none : ℕ) (sizes offsets : List ℕ) (spares : List Spare) (place offset : ℕ) → AreSpare none sizes offsets spares → offset ≢ none →
    AreSpare none sizes (set offsets place offset) spares
spare-skip none [] [] [] place offset h differs = h
spare-skip none [] [] (p ∷ spares) place offset h differs = absurd h
spare-skip none [] (o ∷ offsets) spares place offset h differs = absurd h
spare-skip none (s ∷ sizes) [] spares place offset h differs = absurd h
spare-skip none (s ∷ sizes) (o ∷ offsets) [] place offset h differs = absurd h
spare-skip none (s ∷ sizes) (o ∷ offsets) (p ∷ spares) zero offset h differs = ((λ e. absurd (differs e)), h.1)
spare-skip none (s ∷ sizes) (o ∷ offsets) (p ∷ spares) (suc place) offset h differs = (h.0, spare-skip none sizes offsets spares place offset h.1 differs)

-- after it was taken
pub spare-set : (none : ℕ) (sizes offsets : List ℕ) (spares : List Spare) (place offset : ℕ) (other : Spare) → AreSpare none sizes offsets spares → offset ≢ none →
    AreSpare none sizes (set offsets place offset) (set spares place other)
spare-set none [] [] [] place offset other h differs = h
spare-set none [] [] (p ∷ spares) place offset other h differs = absurd h
spare-set none [] (o ∷ offsets) spares place offset other h differs = absurd h
spare-set none (s ∷ sizes) [] spares place offset other h differs = absurd h
spare-set none (s ∷ sizes) (o ∷ offsets) [] place offset other h differs = absurd h
spare-set none (s ∷ sizes) (o ∷ offsets) (p ∷ spares) zero offset other h differs = ((λ e. absurd (differs e)), h.1)
spare-set none (s ∷ sizes) (o ∷ offsets) (p ∷ spares) (suc place) offset other h differs = (h.0, spare-set none sizes offsets spares place offset other h.1 differs)

-- one more at the end
pub spare-more : (none : ℕ) (sizes offsets : List ℕ) (spares : List Spare) (size : ℕ) (spare : Spare) → AreSpare none sizes offsets spares →
    MatchOption spare.memory ⊥ (λ memory. IsRoomFor memory.items (vec_capacity memory) size) → AreSpare none (sizes ++ size ∷ []) (offsets ++ none ∷ []) (spares ++ spare ∷ [])
spare-more none [] [] [] size spare h blank = ((λ e. blank), tt)
spare-more none [] [] (p ∷ spares) size spare h blank = absurd h
spare-more none [] (o ∷ offsets) spares size spare h blank = absurd h
spare-more none (s ∷ sizes) [] spares size spare h blank = absurd h
spare-more none (s ∷ sizes) (o ∷ offsets) [] size spare h blank = absurd h
spare-more none (s ∷ sizes) (o ∷ offsets) (p ∷ spares) size spare h blank = (h.0, spare-more none sizes offsets spares size spare h.1 blank)

-- memory for a bin of a size, and the zeros in it
pub room-some : (size bin : ℕ) (items : List ℕ) (capacity : ℕ) → items ≡ [] → capacity ≡ bin → IsBinSize bin size → IsRoomFor items capacity size
room-some size bin items capacity none room least = record {
  none = none;
  fits = λ n other. (let a = fresh-is n size other in let b = fresh-is bin size least in omega (arith, a, b, room));
}

pub blank-some : (size bin : ℕ) (blank : List ℕ) → blank ≡ replicate bin 0 → IsBinSize bin size → IsBlank blank size
blank-some size bin blank zeros least =
    let long : length blank ≡ bin = ap length zeros ∙ length-replicate bin 0 in
    record { zeros = zeros ∙ ap (λ (n : ℕ). replicate n 0) (sym long); least = subst (λ (n : ℕ). IsBinSize n size) (sym long) least }

pub replicate-more : (n x : ℕ) → replicate (n + 1) x ≡ replicate n x ++ x ∷ []
replicate-more zero x = refl
replicate-more (suc n) x =
    let e : suc n + 1 ≡ suc (n + 1) = omega arith in
    rw e (ap (λ (xs : List ℕ). x ∷ xs) (replicate-more n x))

-- they are of whole pages
pub fresh-pages : (sizes : List ℕ) → fresh_of sizes % 4096 ≡ 0
fresh-pages [] = omega arith
fresh-pages (s ∷ sizes) = let rest = fresh-pages sizes in omega (arith, rest)

pub spares-ok : {A E R : Type 0} (P : A → Type 0) (N : Type 0) (result : Result A E) → R → IfOk result P → IfOk result (λ x. N → R × P x)
spares-ok P N (Ok x) r p = λ none. (r, p)
spares-ok P N (Err e) r p = tt
