-- The tables of the free lists, after a cell went.
use Rattle.std.proofs.Common.{◌≡◌, ℕ, suc, ◌+◌, ◌-◌, ◌/◌, ◌%◌, ◌<◌, ◌≤◌, true, false, inl, inr, List, set, get_or, length, refl, sym, ap, ◌∙◌, subst, arith, eqb}
use Rattle.std.proofs.Common.{length-set}
use Rattle.std.proofs.lemmas.Bool.{eq-eqb, ne_eqb, cases_eq, cases_lt, cond-true, cond-false}
use Rattle.reg_heap.specs.ByteWords.{word}
use Rattle.reg_arena.specs.Classes.{class_of}
use Rattle.reg_arena.specs.Internal.CellThreads.{AreThreads, Takes}
use Rattle.reg_arena.specs.Internal.SizeTables.{at_eight, head_at, back_in, marked, ended, tagged, untagged, head_linked, linked, size_or_none, first_taken, counted}
use Rattle.reg_arena.specs.Internal.ListedCells.{IsPiece, AreMarks, AreTables, sized}
use Rattle.reg_arena.proofs.FreeList.ThreadLinks.{times-cases}
use Rattle.reg_arena.proofs.FreeList.ClassMembers.{of-member}
use Rattle.reg_arena.proofs.FreeList.CellTaking as taking
use Rattle.reg_arena.proofs.FreeList.CellMarks.{opened, closed, marks-linked, marks-taken}
use Rattle.reg_arena.proofs.FreeList.SizeClasses.{class-in, class-large, class-small}
use Rattle.reg_arena.proofs.FreeList.TableReads.{at-get, at-same, at-other, IsPlace, marked-same, marked-other, length-marked, length-head_linked, head_linked-is, head_linked-kept, head_linked-other}
use Rattle.reg_arena.proofs.FreeList.TableReads.{ended-last, ended-other, length-ended, IsLink, untagged-tagged, tagged-odd}
use Rattle.reg_arena.proofs.FreeList.TableReads.{first_taken-kept, first_taken-is, first_taken-other, length-first_taken}
use Rattle.reg_arena.proofs.FreeList.LinkWords.{IsSpot, length-linked, linked-same, linked-other, linked-field}
use Rattle.reg_arena.proofs.FreeList.ListedSpots.{counted-small, counted-large, sized-here, sized-other, cell-spot, cell-is-spot, cell-is-place}

module _ (bytes : List ℕ) (S : ℕ → ℕ) (heads firsts words marks : List ℕ) (large top : ℕ) (w : AreTables bytes S heads firsts words marks large top) where
  abbrev N : ℕ → ℕ
  N x = word bytes (x + 4)

  abbrev t : AreThreads class_of 16384 S (λ x. word bytes (x + 4)) (back_in marks) (head_at heads) (at_eight firsts 4294967295)
  t = w.threads

  spot : (x : ℕ) → 0 < S x → (x % 8 ≡ 0) × (x + 8 ≤ length bytes) × (x / 8 < length marks)
  spot = cell-spot bytes S heads firsts words marks large top w

  is-spot : (x : ℕ) → ((x ≡ 4294967295 → ⊥) → 0 < S x) → IsSpot bytes x
  is-spot = cell-is-spot bytes S heads firsts words marks large top w

  is-place : (x : ℕ) → ((x ≡ 4294967295 → ⊥) → 0 < S x) → IsPlace marks x
  is-place = cell-is-place bytes S heads firsts words marks large top w

  module _ (c s p n : ℕ) (some : 0 < s) (there : S c ≡ s) (p_is : p ≡ untagged (get_or marks (c / 8) 0)) (n_is : n ≡ word bytes (c + 4)) where
    abbrev class : ℕ
    class = class_of s

    here : 0 < S c
    here = omega (arith, there)

    pub piece-of : IsPiece bytes c s
    piece-of = subst (IsPiece bytes c) there (w.pieces c here)

    p-is : p ≡ back_in marks c
    p-is = p_is ∙ sym (ap untagged (at-get marks 0 c (spot c here).0))

    pub p-in : (p ≡ 4294967295 → ⊥) → 0 < S p
    p-in o =
        let b = taking.p-before class_of 16384 S N (back_in marks) (head_at heads) (at_eight firsts 4294967295) class c s p n t some there refl p-is n_is in
        elim (times-cases p 4294967295 (t.lists class) b.1) [
          | inl e ↦ absurd (o e)
          | inr i ↦ (of-member class_of S class p (subst (λ v. 0 < v) (t.exact class p) i)).0
        ]

    pub n-in : (n ≡ 4294967295 → ⊥) → 0 < S n
    n-in o =
        let b = taking.behind-c class_of 16384 S N (back_in marks) (head_at heads) (at_eight firsts 4294967295) class c s p n t some there refl p-is n_is o in
        (of-member class_of S class n (subst (λ v. 0 < v) (t.exact class n) b.1)).0

    pub take-previous : (p ≡ 4294967295 → ⊥) → p + 8 ≤ length bytes
    take-previous o = (spot p (p-in o)).1

    pub take-next : (n ≡ 4294967295 → ⊥) → n / 8 < length marks
    take-next o = (spot n (n-in o)).2

    -- what the code's steps ask for
    pub take-room : (c + 8 ≤ length bytes) × (c / 8 < length marks) × ((c + s - 8) / 8 < length marks) × (c + s ≤ 268435456) × (class_of s < length heads) × (c ≡ 4294967295 → ⊥)
    take-room =
        let z = spot c here in
        let y = piece-of in (
          z.1,
          z.2,
          omega (arith, y.within, y.size_eights, y.some, w.marks_long),
          omega (arith, y.within, w.small),
          (let q = class-in s y.size_eights in omega (arith, w.heads_long)),
          (λ e. omega (arith, z.1, w.small)),
        )

    abbrev bytes1 : List ℕ
    bytes1 = linked p n bytes

    long1 : length bytes1 ≡ length bytes
    long1 = length-linked p n bytes take-previous

    pub take-next-size : (n ≡ 4294967295 → ⊥) → n + 4 ≤ length bytes1
    take-next-size o = let z = spot n (n-in o) in omega (arith, z.1, long1)

    -- what the code reads as the size of the next one
    abbrev m : ℕ
    m = size_or_none bytes1 n

    m-is : m ≡ S n
    m-is = elim (cases_eq n 4294967295) [
      | inl e ↦ (let q : eqb n 4294967295 ≡ true = eq-eqb n 4294967295 e in rw q (sym (ap S e ∙ t.none)))
      | inr o ↦ (let q : eqb n 4294967295 ≡ false = ne_eqb n 4294967295 o in let h = n-in o in rw q (linked-field p n bytes n (is-spot p p-in) (spot n h).0 ∙ w.fields n h))
    ]

    -- the marks after it
    abbrev marks1 : List ℕ
    marks1 = marked n (tagged p) marks

    abbrev marks2 : List ℕ
    marks2 = set marks1 (c / 8) 0

    abbrev new-marks : List ℕ
    new-marks = ended c s 0 marks2

    last-eights : (c + s - 8) % 8 ≡ 0
    last-eights = let y = piece-of in omega (arith, y.eights, y.size_eights, y.some)

    p-link : IsLink p
    p-link o = (spot p (p-in o)).0

    mark-here : at_eight new-marks 0 c ≡ 0
    mark-here =
        let z = spot c here in
        ended-other marks2 0 c s 0 c last-eights (λ l e. omega arith) ∙ at-same marks1 0 c 0 z.0 (omega (arith, z.2, length-marked n (tagged p) marks))

    mark-there : at_eight new-marks 0 (c + s - 8) ≡ 0
    mark-there = elim (cases_lt 8 s) [
      | inl l ↦ (
          let long : length marks2 ≡ length marks = length-set marks1 (c / 8) 0 ∙ length-marked n (tagged p) marks in
          ended-last marks2 0 c s 0 l last-eights (let r = take-room in omega (arith, r.2)))
      | inr g ↦ (
          let y = piece-of in
          let place : c + s - 8 ≡ c = omega (arith, y.size_eights) in
          ap (at_eight new-marks 0) place ∙ mark-here)
    ]

    mark-elsewhere : (x : ℕ) → (x ≡ c → ⊥) → (x ≡ c + s - 8 → ⊥) → at_eight new-marks 0 x ≡ at_eight marks1 0 x
    mark-elsewhere x o d = ended-other marks2 0 c s 0 x last-eights (λ l. d) ∙ at-other marks1 0 c 0 x (spot c here).0 o

    -- no other free cell begins at its last eight bytes
    not-last : (x : ℕ) → 0 < S x → (x ≡ c → ⊥) → x ≡ c + s - 8 → ⊥
    not-last x h o e =
        let y = piece-of in
        elim (cases_lt x c) [
          | inl l ↦ omega (arith, y.size_eights)
          | inr g ↦ (let q = w.apart c x here h (omega arith) in omega (arith, there, y.size_eights, y.some))
        ]

    marks-right : AreMarks (sized c 0 S) (at_eight new-marks 0)
    marks-right =
        let linked-marks = marks-linked bytes S marks n (tagged p) w.pieces w.apart (opened S marks w.marks_are) (is-place n n-in) n-in (tagged-odd p p-link) in
        marks-taken bytes S (at_eight marks1 0) w.pieces linked-marks w.apart (at_eight new-marks 0) c s there some mark-here mark-there mark-elsewhere

    takes : n < 4294967296 → Takes 16384 S N (back_in marks) (head_at heads) (at_eight firsts 4294967295)
        (sized c 0 S) (λ x. word bytes1 (x + 4)) (back_in new-marks) (head_at (head_linked class p n heads)) (at_eight (first_taken c s n m firsts) 4294967295) class c s p n
    takes short =
        let sp = is-spot p p-in in
        let ln = is-place n n-in in
        let s8 = piece-of.size_eights in
        let within = (spot c here).1 in
        let other-next = taking.n-other class_of 16384 S N (back_in marks) (head_at heads) (at_eight firsts 4294967295) class c s p n t some there refl p-is n_is in
        let long : s < 16384 → s / 8 < length firsts = λ l. (let z = w.firsts_long (omega arith) in omega arith) in
        record {
          size_is = sized-here c 0 S c refl;
          sizes = λ x o. sized-other c 0 S x o;
          next_before = λ o. linked-same p n bytes sp short o;
          nexts = λ x h op. linked-other p n bytes x sp (spot x h).0 op;
          back_behind = λ o. ap untagged (mark-elsewhere n (other-next o) (not-last n (n-in o) (other-next o)) ∙ marked-same marks 0 n (tagged p) ln o) ∙ untagged-tagged p p-link;
          backs = λ x h op oc. ap untagged (mark-elsewhere x oc (not-last x h oc) ∙ marked-other marks 0 n (tagged p) x ln op);
          head_is = head_linked-is class p n heads (let z = class-in s s8 in omega (arith, w.heads_long));
          head_kept = head_linked-kept class p n class heads;
          heads = λ j o. head_linked-other class p n j heads o;
          first_kept = λ l o. first_taken-kept c s n m firsts s8 l o;
          first_next = λ l e q. first_taken-is c s n m firsts s8 l (long l) e ∙ cond-true (eqb m s) n 4294967295 (eq-eqb m s (m-is ∙ q));
          first_none = λ l e q. first_taken-is c s n m firsts s8 l (long l) e ∙ cond-false (eqb m s) n 4294967295 (ne_eqb m s (λ z. q (sym m-is ∙ z)));
          firsts = λ x o. first_taken-other c s n m firsts s8 x o;
        }

    -- another free cell, which stays
    stays : (x : ℕ) → 0 < sized c 0 S x → (x ≡ c → ⊥) × (sized c 0 S x ≡ S x)
    stays x h =
        let o : x ≡ c → ⊥ = λ e. (let v = sized-here c 0 S x e in omega arith) in
        (o, sized-other c 0 S x o)

    by-stay : (P : ℕ → ℕ → Type 0) → ((x : ℕ) → 0 < S x → (x ≡ c → ⊥) → P x (S x)) → (x : ℕ) → 0 < sized c 0 S x → P x (sized c 0 S x)
    by-stay P f x h = let z = stays x h in subst (λ v. P x v) (sym z.1) (f x (omega (arith, z.1)) z.0)

    pub taken-kept : n < 4294967296 → (words' : List ℕ) (large' : ℕ) → length words' ≡ length words → large' + counted s ≡ large →
        AreTables bytes1 (sized c 0 S) (head_linked class p n heads) (first_taken c s n m firsts) words' new-marks large' top
    taken-kept short words' large' long more =
        let r = taking.taken class_of 16384 S N (back_in marks) (head_at heads) (at_eight firsts 4294967295) class c s p n t some there refl p-is n_is
        (sized c 0 S) (λ x. word bytes1 (x + 4)) (back_in new-marks) (head_at (head_linked class p n heads)) (at_eight (first_taken c s n m firsts) 4294967295) (takes short) in
        let all : length bytes1 ≡ length bytes = long1 in
        let y = piece-of in
        record {
          threads = r;
          pieces = by-stay (λ x v. IsPiece bytes1 x v) (λ x h o. (let z = w.pieces x h in record { eights = z.eights; some = z.some; size_eights = z.size_eights; within = rw all z.within }));
          fields = by-stay (λ x v. word bytes1 x ≡ v) (λ x h o. linked-field p n bytes x (is-spot p p-in) (spot x h).0 ∙ w.fields x h);
          apart = λ x z h g l. (
              let a = stays x h in
              let b = stays z g in
              let q = w.apart x z (omega (arith, a.1)) (omega (arith, b.1)) l in
              omega (arith, a.1));
          marks_are = closed (sized c 0 S) new-marks marks-right;
          below = by-stay (λ x v. v < top) (λ x h o. w.below x h);
          words_long = λ h. (let z = w.words_long (omega arith) in omega arith);
          firsts_long = λ h. (let z = w.firsts_long (omega arith) in omega (arith, length-first_taken c s n m firsts y.size_eights));
          marks_long = omega (arith, all, length-ended c s 0 marks2, length-set marks1 (c / 8) 0, length-marked n (tagged p) marks, w.marks_long);
          heads_long = length-head_linked class p n heads ∙ w.heads_long;
          small = omega (arith, all, w.small);
          count = elim (cases_lt s 16384) [
            | inl l ↦ (
                let z = class-small s l y.size_eights in
                let x = counted-small s l in
                omega (
                  arith,
                  w.count,
                  taking.taken-other class_of 16384 S N (back_in marks) (head_at heads) (at_eight firsts 4294967295) class c s p n t some there refl p-is n_is
                      (sized c 0 S) (λ x. word bytes1 (x + 4)) (back_in new-marks) (head_at (head_linked class p n heads)) (at_eight (first_taken c s n m firsts) 4294967295)
                      (takes short) 23 (λ e. omega arith),
                ))
            | inr g ↦ (
                let z : class ≡ 23 = class-large s g in
                let x = counted-large s g in
                let u = taking.taken-here class_of 16384 S N (back_in marks) (head_at heads) (at_eight firsts 4294967295) class c s p n t some there refl p-is n_is
                (sized c 0 S) (λ x. word bytes1 (x + 4)) (back_in new-marks) (head_at (head_linked class p n heads)) (at_eight (first_taken c s n m firsts) 4294967295) (takes short) in
                let v : suc (length (r.lists 23)) ≡ length (t.lists 23) = subst (λ i. suc (length (r.lists i)) ≡ length (t.lists i)) z u in
                omega (arith, w.count))
          ];
        }

    -- the last list has the cell
    pub last-some : n < 4294967296 → counted s ≤ large
    last-some short = elim (cases_lt s 16384) [
      | inl l ↦ (let z = counted-small s l in omega arith)
      | inr g ↦ (
          let x = counted-large s g in
          let u = taking.taken-here class_of 16384 S N (back_in marks) (head_at heads) (at_eight firsts 4294967295) class c s p n t some there refl p-is n_is
          (sized c 0 S) (λ x. word bytes1 (x + 4)) (back_in new-marks) (head_at (head_linked class p n heads)) (at_eight (first_taken c s n m firsts) 4294967295) (takes short) in
          let r = taking.taken class_of 16384 S N (back_in marks) (head_at heads) (at_eight firsts 4294967295) class c s p n t some there refl p-is n_is
          (sized c 0 S) (λ x. word bytes1 (x + 4)) (back_in new-marks) (head_at (head_linked class p n heads)) (at_eight (first_taken c s n m firsts) 4294967295) (takes short) in
          let v : suc (length (r.lists 23)) ≡ length (t.lists 23) = subst (λ i. suc (length (r.lists i)) ≡ length (t.lists i)) (class-large s g) u in
          omega (arith, w.count))
    ]

    pub taken-done : (k : ℕ) → k ≡ class_of s → (bytes' heads' firsts' words' marks' : List ℕ) (large' : ℕ) →
        bytes' ≡ linked p n bytes → heads' ≡ head_linked k p n heads → firsts' ≡ first_taken c s n (size_or_none bytes' n) firsts →
        length words' ≡ length words → marks' ≡ ended c s 0 (set (marked n (tagged p) marks) (c / 8) 0) → n < 4294967296 →
        large' + counted s ≡ large → AreTables bytes' (sized c 0 S) heads' firsts' words' marks' large' top
    taken-done k e bytes' heads' firsts' words' marks' large' a b d long f short more =
        let d' : firsts' ≡ first_taken c s n (size_or_none (linked p n bytes) n) firsts = rw a at d in
        rw (a, b, d', f, e) (taken-kept short words' large' long more)
