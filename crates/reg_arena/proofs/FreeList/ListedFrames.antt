-- The tables of the free lists where the free cells stay.
use Rattle.std.proofs.Common.{◌≡◌, ℕ, zero, suc, ◌+◌, ◌*◌, ◌/◌, ◌%◌, ◌<◌, ◌≤◌, Bool, true, false, cond, ◌⊎◌, inl, inr, List, [], get_or, length, replicate, refl, sym, ap, ◌∙◌, subst, arith, eqb}
use Rattle.std.proofs.lemmas.Bool.{eq-eqb, ne_eqb, cases_eq}
use Rattle.reg_heap.specs.ByteWords.{word, SameOutside}
use Rattle.reg_arena.specs.declared.free_lists.FreeLists.{FreeLists}
use Rattle.reg_arena.specs.Classes.{class_of}
use Rattle.reg_arena.specs.Internal.CellThreads.{AreThreads, link}
use Rattle.reg_arena.specs.Internal.SizeTables.{at_eight, head_at, untagged, back_in}
use Rattle.reg_arena.specs.Internal.ListedCells.{AreMarks, AreTables, IsListed, IsFreeOf}
use Rattle.reg_arena.proofs.Contents.ByteSplices.{word-same_below, word-same_above}
use Rattle.reg_arena.proofs.FreeList.ThreadLinks.{frame}
use Rattle.reg_arena.proofs.FreeList.CellMarks.{opened, closed}
use Rattle.reg_arena.proofs.FreeList.ClassMembers.{of-member, of-zero}

-- ---- other bytes

link-same : (N N' : ℕ → ℕ) (h x : ℕ) → ((x ≡ 4294967295 → ⊥) → N' x ≡ N x) → link N' h x ≡ link N h x
link-same N N' h x e = by (cases_eq x 4294967295)
  where
    by : (x ≡ 4294967295) ⊎ (x ≡ 4294967295 → ⊥) → link N' h x ≡ link N h x
    by (inl z) = (let q : eqb x 4294967295 ≡ true = eq-eqb x 4294967295 z in rw q refl)
    by (inr o) = (let q : eqb x 4294967295 ≡ false = ne_eqb x 4294967295 o in rw q (e o))

threads-next : (class_of : ℕ → ℕ) (m : ℕ) (S N N' B H F : ℕ → ℕ) → ((x : ℕ) → 0 < S x → N' x ≡ N x) → AreThreads class_of m S N B H F → AreThreads class_of m S N' B H F
threads-next class_of m S N N' B H F e t = record {
  lists = t.lists;
  linked = λ k. frame (link N (H k)) B (link N' (H k)) B 4294967295 (t.lists k) (link-same N N' (H k) 4294967295 (λ o. absurd (o refl)))
      (λ x i. (link-same N N' (H k) x (λ _. e x (of-member class_of S k x (subst (λ v. 0 < v) (t.exact k x) i)).0), refl)) (t.linked k);
  exact = t.exact;
  runs = t.runs;
  firsts = t.firsts;
  none = t.none;
}

-- the words of the free cells stay
pub framed : (old new : List ℕ) (sizes : ℕ → ℕ) (lists : FreeLists) → IsListed old sizes lists → length old ≤ length new → length new ≤ 8 * length lists.marks →
    (0 < length new → 32 ≤ length lists.words) → (0 < length new → 2048 ≤ length lists.firsts) →
    length new ≤ 268435456 → ((x : ℕ) → 0 < sizes x → word new x ≡ word old x) → ((x : ℕ) → 0 < sizes x → word new (x + 4) ≡ word old (x + 4)) →
    IsListed new sizes lists
unfolding threads-next
framed old new sizes lists w long marks words firsts small field next = record {
  threads = threads-next class_of 16384 sizes (λ x. word old (x + 4)) (λ x. word new (x + 4)) _ _ _ next w.threads;
  pieces = λ x h. (let z = w.pieces x h in record { eights = z.eights; some = z.some; size_eights = z.size_eights; within = omega (arith, z.within) });
  fields = λ x h. field x h ∙ w.fields x h;
  apart = w.apart;
  marks_are = w.marks_are;
  below = w.below;
  words_long = words;
  firsts_long = firsts;
  marks_long = marks;
  heads_long = w.heads_long;
  small = small;
  count = w.count;
}

-- bytes changed where no free cell is
pub beside-free : (old new : List ℕ) (sizes : ℕ → ℕ) (lists : FreeLists) (lo n : ℕ) → IsListed old sizes lists → SameOutside lo (lo + n) old new → IsFreeOf sizes lo n → IsListed new sizes lists
beside-free old new sizes lists lo n w s free =
    framed old new sizes lists w (omega (arith, s.long)) (omega (arith, s.long, w.marks_long)) (λ h. w.words_long (omega (arith, s.long)))
    (λ h. w.firsts_long (omega (arith, s.long))) (omega (arith, s.long, w.small)) (λ x h. (same x h).0) (λ x h. (same x h).1)
  where
    same : (x : ℕ) → 0 < sizes x → (word new x ≡ word old x) × (word new (x + 4) ≡ word old (x + 4))
    same x h =
        let z = w.pieces x h in
        elim (free x h) [
          | inl l ↦ (word-same_below s x (omega (arith, z.size_eights)), word-same_below s (x + 4) (omega (arith, z.size_eights)))
          | inr l ↦ (word-same_above s x l, word-same_above s (x + 4) (omega arith))
        ]

-- ---- longer tables

same-eight : (t t' : List ℕ) (d : ℕ) → ((x : ℕ) → get_or t' x d ≡ get_or t x d) → at_eight t' d ≡ at_eight t d
same-eight t t' d h = λ i x. ap (λ v. cond (eqb (x % 8) 0) v d) (h (x / 8)) i

same-back : (t t' : List ℕ) → ((x : ℕ) → get_or t' x 0 ≡ get_or t x 0) → back_in t' ≡ back_in t
same-back t t' h = λ i x. ap (λ v. untagged (cond (eqb (x % 8) 0) v 0)) (h (x / 8)) i

-- threads with a count of the last list
abbrev Counted : (ℕ → ℕ) → (ℕ → ℕ) → (ℕ → ℕ) → ℕ → (ℕ → ℕ) → (ℕ → ℕ) → Type 0
Counted S N H large B F = (r : AreThreads class_of 16384 S N B H F) × (length (r.lists 23) ≡ large)

pub longer : (bytes : List ℕ) (S : ℕ → ℕ) (heads firsts words marks : List ℕ) (large top : ℕ) → AreTables bytes S heads firsts words marks large top →
    (firsts' words' marks' : List ℕ) → ((x : ℕ) → get_or firsts' x 4294967295 ≡ get_or firsts x 4294967295) →
    ((x : ℕ) → get_or marks' x 0 ≡ get_or marks x 0) → length firsts ≤ length firsts' →
    length words ≤ length words' → length marks ≤ length marks' → AreTables bytes S heads firsts' words' marks' large top
longer bytes S heads firsts words marks large top w firsts' words' marks' f e lf lw le =
    let N : ℕ → ℕ = λ x. word bytes (x + 4) in
    let z : Counted S N (head_at heads) large (back_in marks) (at_eight firsts 4294967295) = (w.threads, w.count) in
    let z1 = subst (λ t. Counted S N (head_at heads) large t (at_eight firsts 4294967295)) (sym (same-back marks marks' e)) z in
    let z2 = subst (λ t. Counted S N (head_at heads) large (back_in marks') t) (sym (same-eight firsts firsts' 4294967295 f)) z1 in
    record {
      threads = z2.0;
      pieces = w.pieces;
      fields = w.fields;
      apart = w.apart;
      marks_are = closed S marks' (subst (AreMarks S) (sym (same-eight marks marks' 0 e)) (opened S marks w.marks_are));
      below = w.below;
      words_long = λ h. (let y = w.words_long h in omega arith);
      firsts_long = λ h. (let y = w.firsts_long h in omega arith);
      marks_long = omega (arith, w.marks_long);
      heads_long = w.heads_long;
      small = w.small;
      count = z2.1;
    }

-- ---- no cell

none-at : (x d : ℕ) → at_eight [] d x ≡ d
none-at x d = by (eqb (x % 8) 0)
  where
    by : (b : Bool) → cond b d d ≡ d
    by true = refl
    by false = refl

heads-none : (n k : ℕ) → ◌≡◌ {A = ℕ} (get_or (replicate n 4294967295) k 4294967295) 4294967295
heads-none zero k = refl
heads-none (suc n) zero = refl
heads-none (suc n) (suc k) = heads-none n k

pub fresh : (heads firsts words marks : List ℕ) (n : ℕ) → heads ≡ replicate n 4294967295 → length heads ≡ 24 → firsts ≡ [] → words ≡ [] → marks ≡ [] →
    AreTables [] (λ x. 0) heads firsts words marks 0 0
fresh heads firsts words marks n e l ef ew em = rw (ef, ew, em) (record {
  threads = record {
    lists = λ k. [];
    linked = λ k. ap (λ h. get_or h k 4294967295) e ∙ heads-none n k;
    exact = λ k x. sym (of-zero class_of (λ x. 0) k x refl);
    runs = λ x h. absurd (omega arith);
    firsts = λ s h g o. absurd (o (none-at s 4294967295));
    none = refl;
  };
  pieces = λ x h. absurd (omega arith);
  fields = λ x h. absurd (omega arith);
  apart = λ x y h. absurd (omega arith);
  marks_are = closed (λ x. 0) [] (record {
    begins = λ x h. absurd (omega arith);
    ends = λ x h. absurd (omega arith);
    odd = λ x h. absurd (let z = none-at x 0 in omega arith);
    even = λ x h g. absurd (let z = none-at x 0 in omega arith);
  });
  below = λ x h. absurd (omega arith);
  words_long = λ h. absurd (omega arith);
  firsts_long = λ h. absurd (omega arith);
  marks_long = omega arith;
  heads_long = l;
  small = omega arith;
  count = refl;
})
