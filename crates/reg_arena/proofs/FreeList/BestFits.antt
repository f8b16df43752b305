-- The best fit.
use Rattle.std.proofs.Common.{◌≡◌, ℕ, ◌+◌, ◌*◌, ◌/◌, ◌%◌, ◌<◌, ◌≤◌, Bool, true, false, cond, inl, inr, List, [], ◌∷◌, ◌++◌, get_or, length, refl, sym, ap, ◌∙◌, subst, arith, eqb}
use Rattle.std.proofs.lemmas.Bool.{eqb-true, eq-eqb, cases_lt}
use Rattle.std.proofs.lemmas.List.{get_or_past}
use Rattle.std.proofs.lemmas.Nat.Bits.{bit_at-zero}
use Rattle.std.specs.Int.{bit_at}
use Rattle.std.specs.List.{AllByRecursion}
use Rattle.reg_heap.specs.ByteWords.{word}
use Rattle.reg_heap.specs.Kinds.{times}
use Rattle.reg_arena.specs.Classes.{class_of}
use Rattle.reg_arena.specs.Free.{chain, Follows, IsFit}
use Rattle.reg_arena.specs.Internal.CellThreads.{Linked, link, AreThreads}
use Rattle.reg_arena.specs.Internal.SizeTables.{at_eight, head_at, back_in, bit_in, AreSizeTables, IsLeast}
use Rattle.reg_arena.specs.Internal.ListedCells.{AreTables, IsBestFit, NoneFits}
use Rattle.reg_arena.proofs.FreeList.ListMembers.{all_from_times, times-all}
use Rattle.reg_arena.proofs.FreeList.FreeListWalk.{Follows-chain}
use Rattle.reg_arena.proofs.FreeList.ThreadLinks.{times-here, times-there, times-append, first-there}
use Rattle.reg_arena.proofs.FreeList.ClassMembers.{link-some, of-some, of-member}
use Rattle.reg_arena.proofs.FreeList.SizeClasses.{class-large, class-small}
use Rattle.reg_arena.proofs.FreeList.TableReads.{at-get}
use Rattle.reg_arena.proofs.FreeList.ListedSpots.{cell-spot}

pub follows-linked : (bytes : List ℕ) (B : ℕ → ℕ) (h prev : ℕ) (xs : List ℕ) → (0 < times 4294967295 xs → ⊥) → Linked (link (λ x. word bytes (x + 4)) h) B prev xs →
    Follows bytes (link (λ x. word bytes (x + 4)) h prev) xs
follows-linked bytes B h prev [] some l = l
follows-linked bytes B h prev (x ∷ xs) some l =
    let o : x ≡ 4294967295 → ⊥ = λ e. some (subst (λ v. 0 < times v (x ∷ xs)) e (times-here x xs)) in
    (l.0, subst (λ v. Follows bytes v xs) (link-some (λ x. word bytes (x + 4)) h x o) (follows-linked bytes B h x xs (λ i. some (times-there 4294967295 x xs i)) l.2))

module _ (bytes : List ℕ) (S : ℕ → ℕ) (heads firsts words marks : List ℕ) (large top : ℕ) (w : AreTables bytes S heads firsts words marks large top) where
  abbrev N : ℕ → ℕ
  N x = word bytes (x + 4)

  abbrev t : AreThreads class_of 16384 S (λ x. word bytes (x + 4)) (back_in marks) (head_at heads) (at_eight firsts 4294967295)
  t = w.threads

  member : (j x : ℕ) → 0 < times x (t.lists j) → (0 < S x) × (class_of (S x) ≡ j)
  member j x h = of-member class_of S j x (subst (λ v. 0 < v) (t.exact j x) h)

  no-none : (j : ℕ) → 0 < times 4294967295 (t.lists j) → ⊥
  no-none j h = let z = member j 4294967295 h in omega (arith, z.0, t.none)

  pub list-follows : (j : ℕ) → Follows bytes (head_at heads j) (t.lists j)
  list-follows j = follows-linked bytes (back_in marks) (head_at heads j) 4294967295 (t.lists j) (no-none j) (t.linked j)

  -- where a size has a cell, it has a first one
  first-some : (x : ℕ) → 0 < S x → S x < 16384 → at_eight firsts 4294967295 (S x) ≡ 4294967295 → ⊥
  first-some x h l e =
      let j : ℕ = class_of (S x) in
      let i = first-there S (link N (head_at heads j)) (back_in marks) (at_eight firsts 4294967295) 16384 (S x) x 4294967295 (t.lists j) (t.linked j)
      (λ y q. t.runs y (member j y q).0) l (λ z. omega (arith, t.none)) (let z = t.exact j x ∙ of-some class_of S j x h refl in omega arith) refl in
      no-none j (subst (λ v. 0 < times v (t.lists j)) e i)

  -- ---- the last list

  pub last-list : chain large bytes (head_at heads 23) ≡ t.lists 23
  last-list = subst (λ n. chain n bytes (head_at heads 23) ≡ t.lists 23) w.count (Follows-chain bytes (t.lists 23) (head_at heads 23) (list-follows 23))

  pub last-within : (head : ℕ) → head ≡ head_at heads 23 → AllByRecursion (λ offset. offset + 8 ≤ length bytes) (chain large bytes head)
  last-within head e = rw (e, last-list) (all_from_times (λ offset. offset + 8 ≤ length bytes) (t.lists 23)
      (λ o i. (cell-spot bytes S heads firsts words marks large top w o (member 23 o i).0).1))

  in-last : (x : ℕ) → 16384 ≤ S x → 0 < times x (t.lists 23)
  in-last x g = let z = t.exact 23 x ∙ of-some class_of S 23 x (omega arith) (class-large (S x) g) in omega arith

  is-large : (x : ℕ) → 0 < times x (t.lists 23) → 16384 ≤ S x
  is-large x i = elim (cases_lt (S x) 16384) [
    | inr g ↦ g
    | inl l ↦ absurd (let m = member 23 x i in let z = class-small (S x) l (w.pieces x m.0).size_eights in omega (arith, m.1))
  ]

  -- there is a word where the fit is
  pub fit-within : (size head cell : ℕ) → head ≡ head_at heads 23 → IsFit bytes size (chain large bytes head) cell → cell + 8 ≤ length bytes
  fit-within size head cell e fit =
      let same : t.lists 23 ≡ fit.front ++ cell ∷ fit.back = sym last-list ∙ ap (chain large bytes) (sym e) ∙ fit.split in
      let i : 0 < times cell (t.lists 23) = subst (λ l. 0 < times cell l) (sym same) (omega (arith, times-append cell fit.front (cell ∷ fit.back), times-here cell fit.back)) in
      (cell-spot bytes S heads firsts words marks large top w cell (member 23 cell i).0).1

  -- sizes stay below a size that nothing fits
  pub lowered : (size : ℕ) → NoneFits S size → AreTables bytes S heads firsts words marks large size
  lowered size none = record {
    threads = w.threads;
    pieces = w.pieces;
    fields = w.fields;
    apart = w.apart;
    marks_are = w.marks_are;
    below = none;
    words_long = w.words_long;
    firsts_long = w.firsts_long;
    marks_long = w.marks_long;
    heads_long = w.heads_long;
    small = w.small;
    count = w.count;
  }

  module _ (own : AreSizeTables firsts words) where
    -- ---- sizes below the limit

    -- a bit that is not set: no cell of that size
    no-size : (j x : ℕ) → bit_in words j ≡ 0 → ◌≡◌ {A = ℕ} (S x) (8 * j) → 0 < j → j < 2048 → ⊥
    no-size j x b e some low =
        let f : get_or firsts j 4294967295 ≡ 4294967295 = is-none (eqb (get_or firsts j 4294967295) 4294967295) refl (sym (own.bits j) ∙ b) in
        let g : at_eight firsts 4294967295 (8 * j) ≡ 4294967295 = at-get firsts 4294967295 (8 * j) (omega arith) ∙ ap (λ i. get_or firsts i 4294967295) (omega arith) ∙ f in
        first-some x (omega arith) (omega arith) (ap (at_eight firsts 4294967295) e ∙ g)
      where
        is-none : (v : Bool) → eqb (get_or firsts j 4294967295) 4294967295 ≡ v → ◌≡◌ {A = ℕ} (cond {A = ℕ} v 0 1) 0 → get_or firsts j 4294967295 ≡ 4294967295
        is-none true e h = eqb-true (get_or firsts j 4294967295) 4294967295 e
        is-none false e h = absurd (omega arith)

    none-between : (size i : ℕ) → size % 8 ≡ 0 → 0 < size → i ≤ 2048 → ((j : ℕ) → size / 8 ≤ j → j < i → bit_in words j ≡ 0) → (x : ℕ) → size ≤ S x → 8 * i ≤ S x
    none-between size i s8 some low zero_bits x fits = elim (cases_lt (S x) (8 * i)) [
      | inr g ↦ g
      | inl l ↦ absurd (
          let z = (w.pieces x (omega arith)).size_eights in
          let e : S x ≡ 8 * (S x / 8) = omega arith in
          no-size (S x / 8) x (zero_bits (S x / 8) (omega arith) (omega arith)) e (omega arith) (omega arith))
    ]

    -- a bit that is set: there is a first cell
    pub set-first : (i : ℕ) → bit_in words i ≡ 1 → (i < 2048) × (i < length firsts) × (get_or firsts i 4294967295 ≡ 4294967295 → ⊥)
    set-first i b =
        let some : get_or firsts i 4294967295 ≡ 4294967295 → ⊥ = λ e. (let q : eqb (get_or firsts i 4294967295) 4294967295 ≡ true = eq-eqb
        (get_or firsts i 4294967295) 4294967295 e in let z = rw q at (own.bits i) in omega arith) in (
          elim (cases_lt (i / 64) (length words)) [
            | inl l ↦ (let z = own.words_small in omega arith)
            | inr g ↦ absurd (let e : bit_in words i ≡ 0 = ap (λ v. bit_at v (i % 64)) (get_or_past words (i / 64) 0 g) ∙ bit_at-zero (i % 64) in omega arith)
          ],
          elim (cases_lt i (length firsts)) [ inl l ↦ l | inr g ↦ absurd (some (get_or_past firsts i 4294967295 g)) ],
          some,
        )

    pub small-fit : (size i offset : ℕ) → size % 8 ≡ 0 → 0 < size → IsLeast words (size / 8) i → offset ≡ get_or firsts i 4294967295 →
        IsBestFit S size (record { cell = offset; size = 8 * i })
    small-fit size i offset s8 some l e =
        let z = set-first i l.is_set in
        let from = l.from_there in
        let g : at_eight firsts 4294967295 (8 * i) ≡ offset = at-get firsts 4294967295 (8 * i) (omega arith) ∙ ap (λ j. get_or firsts j 4294967295) (omega arith) ∙ sym e in
        record {
          free = ap S (sym g) ∙ t.firsts (8 * i) (omega arith) (omega (arith, z.0)) (λ q. z.2 (sym e ∙ sym g ∙ q));
          fits = omega arith;
          least = λ x f h. none-between size i s8 some (omega (arith, z.0)) l.least x f;
        }

    -- no smaller cell has room
    abbrev NoSmall : ℕ → Type 0
    NoSmall size = (j : ℕ) → size / 8 ≤ j → j < 2048 → bit_in words j ≡ 0

    past-small : (size : ℕ) → size % 8 ≡ 0 → 0 < size → NoSmall size → (x : ℕ) → size ≤ S x → 16384 ≤ S x
    past-small size s8 some none x fits = none-between size 2048 s8 some (omega arith) none x fits

    pub none-fits : (size head : ℕ) → size % 8 ≡ 0 → 0 < size → NoSmall size → head ≡ head_at heads 23 →
        AllByRecursion (λ offset. word bytes offset < size) (chain large bytes head) → NoneFits S size
    none-fits size head s8 some none e all x h = elim (cases_lt (S x) size) [
      | inl l ↦ l
      | inr g ↦ (
          let a : AllByRecursion (λ offset. word bytes offset < size) (t.lists 23) = subst (AllByRecursion (λ offset. word bytes offset < size)) (ap (chain large bytes) e ∙ last-list) all in
          let l = times-all (λ offset. word bytes offset < size) (t.lists 23) a x (in-last x (past-small size s8 some none x g)) in
          omega (arith, l, w.fields x h))
    ]

    pub large-fit : (size head cell : ℕ) → size % 8 ≡ 0 → 0 < size → NoSmall size → head ≡ head_at heads 23 → IsFit bytes size (chain large bytes head) cell →
        IsBestFit S size (record { cell = cell; size = word bytes cell })
    large-fit size head cell s8 some none e fit =
        let same : t.lists 23 ≡ fit.front ++ cell ∷ fit.back = sym last-list ∙ ap (chain large bytes) (sym e) ∙ fit.split in
        let i : 0 < times cell (t.lists 23) = subst (λ l. 0 < times cell l) (sym same) (omega (arith, times-append cell fit.front (cell ∷ fit.back), times-here cell fit.back)) in
        let m = member 23 cell i in
        record {
          free = sym (w.fields cell m.0);
          fits = fit.fits;
          least = λ x f h. absurd (let z = past-small size s8 some none x f in omega arith);
        }
