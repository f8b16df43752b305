-- The tables of the free lists, after a cell came.
use Rattle.std.proofs.Common.{◌≡◌, ℕ, suc, ◌+◌, ◌-◌, ◌/◌, ◌%◌, ◌<◌, ◌≤◌, inl, inr, List, set, get_or, length, refl, sym, ap, ◌∙◌, subst, arith}
use Rattle.std.proofs.Common.{length-set}
use Rattle.std.proofs.lemmas.Bool.{cases_eq, cases_lt}
use Rattle.reg_heap.specs.ByteWords.{word}
use Rattle.reg_arena.specs.Classes.{class_of}
use Rattle.reg_arena.specs.Internal.CellThreads.{AreThreads, Puts}
use Rattle.reg_arena.specs.Internal.SizeTables.{at_eight, head_at, back_in, marked, ended, tagged, untagged, head_linked, linked, freed, following, first_put, counted}
use Rattle.reg_arena.specs.Internal.ListedCells.{IsPiece, IsFreeOf, AreMarks, AreTables, sized}
use Rattle.reg_arena.proofs.FreeList.ClassMembers.{of-member}
use Rattle.reg_arena.proofs.FreeList.CellPutting as putting
use Rattle.reg_arena.proofs.FreeList.CellMarks.{opened, closed, marks-linked, marks-put}
use Rattle.reg_arena.proofs.FreeList.SizeClasses.{class-in, class-large, class-small}
use Rattle.reg_arena.proofs.FreeList.TableReads.{at-get, at-same, at-other, IsPlace, marked-same, marked-other, length-marked, length-head_linked, head_linked-is, head_linked-kept, head_linked-other}
use Rattle.reg_arena.proofs.FreeList.TableReads.{ended-last, ended-other, length-ended, IsLink, untagged-tagged, tagged-odd}
use Rattle.reg_arena.proofs.FreeList.TableReads.{first_put-is, first_put-kept, first_put-other, length-first_put}
use Rattle.reg_arena.proofs.FreeList.LinkWords.{IsSpot, length-linked, linked-same, linked-other, linked-field, length-freed, freed-size, freed-next, freed-other}
use Rattle.reg_arena.proofs.FreeList.ListedSpots.{counted-small, counted-large, sized-here, sized-other, cell-spot, cell-is-spot, cell-is-place}

module _ (bytes : List ℕ) (S : ℕ → ℕ) (heads firsts words marks : List ℕ) (large top : ℕ) (w : AreTables bytes S heads firsts words marks large top) where
  abbrev N : ℕ → ℕ
  N x = word bytes (x + 4)

  abbrev t : AreThreads class_of 16384 S (λ x. word bytes (x + 4)) (back_in marks) (head_at heads) (at_eight firsts 4294967295)
  t = w.threads

  spot : (x : ℕ) → 0 < S x → (x % 8 ≡ 0) × (x + 8 ≤ length bytes) × (x / 8 < length marks)
  spot = cell-spot bytes S heads firsts words marks large top w

  is-spot : (x : ℕ) → ((x ≡ 4294967295 → ⊥) → 0 < S x) → IsSpot bytes x
  is-spot = cell-is-spot bytes S heads firsts words marks large top w

  is-place : (x : ℕ) → ((x ≡ 4294967295 → ⊥) → 0 < S x) → IsPlace marks x
  is-place = cell-is-place bytes S heads firsts words marks large top w

  module _ (c s p : ℕ) (piece : IsPiece bytes c s) (some : 0 < s) (free : IsFreeOf S c s)
      (low : s < 16384 → p ≡ get_or firsts (s / 8) 4294967295) (high : 16384 ≤ s → p ≡ 4294967295) where
    abbrev k : ℕ
    k = class_of s

    abbrev n : ℕ
    n = following bytes heads k p

    cell : c ≡ 4294967295 → ⊥
    cell e = let z = w.small in let y = piece.within in omega arith

    -- another free cell
    other : (x : ℕ) → 0 < S x → x ≡ c → ⊥
    other x h e = elim (free x h) [ inl l ↦ omega arith | inr l ↦ omega arith ]

    pub new : S c ≡ 0
    new = elim (cases_lt 0 (S c)) [ inl l ↦ absurd (other c l refl) | inr g ↦ omega arith ]

    low' : s < 16384 → p ≡ at_eight firsts 4294967295 s
    low' l = low l ∙ sym (at-get firsts 4294967295 s piece.size_eights)

    pub p-cell : (p ≡ 4294967295 → ⊥) → 0 < S p
    p-cell o = elim (cases_lt s 16384) [
      | inl l ↦ (let z = ap S (low' l) ∙ t.firsts s some l (λ e. o (low' l ∙ e)) in omega arith)
      | inr g ↦ absurd (o (high g))
    ]

    pub n-cell : (n ≡ 4294967295 → ⊥) → 0 < S n
    n-cell o =
        let b = putting.n-behind class_of 16384 S N (back_in marks) (head_at heads) (at_eight firsts 4294967295) k c s p n t some cell new refl low' high refl o in
        (of-member class_of S k n (subst (λ v. 0 < v) (t.exact k n) b.1)).0

    abbrev mid : List ℕ
    mid = linked p c bytes

    mid-long : length mid ≡ length bytes
    mid-long = length-linked p c bytes (λ o. (is-spot p p-cell o).1)

    c-in : c + 8 ≤ length mid
    c-in = let z = mid-long in omega (arith, piece.within, piece.size_eights)

    c-short : c < 4294967296
    c-short = omega (arith, piece.within, w.small)

    -- what the code's steps ask for
    pub put-previous : (p ≡ 4294967295 → ⊥) → p + 8 ≤ length bytes
    put-previous o = (spot p (p-cell o)).1

    pub put-next : (class : ℕ) → class ≡ class_of s → (following bytes heads class p ≡ 4294967295 → ⊥) → following bytes heads class p / 8 < length marks
    put-next class e = rw e (λ o. (spot n (n-cell o)).2)

    pub put-room : (c + 8 ≤ length bytes) × (c / 8 < length marks) × ((c + s - 8) / 8 < length marks) × (c + s ≤ 268435456) × (class_of s < length heads) × (c ≡ 4294967295 → ⊥)
    put-room = (
      omega (arith, piece.within, piece.size_eights),
      omega (arith, piece.within, piece.size_eights, piece.eights, w.marks_long),
      omega (arith, piece.within, piece.size_eights, piece.some, w.marks_long),
      omega (arith, piece.within, w.small),
      (let z = class-in s piece.size_eights in omega (arith, w.heads_long)),
      cell,
    )

    -- the words of the cells after it
    field-is : s < 4294967296 → word (freed c s n mid) c ≡ s
    field-is f = freed-size c s n mid c-in f

    field-kept : (x : ℕ) → 0 < S x → word (freed c s n mid) x ≡ word bytes x
    field-kept x h = let z = spot x h in (freed-other c s n mid x c-in piece.eights z.0 (other x h)).0 ∙ linked-field p c bytes x (is-spot p p-cell) z.0

    next-kept : (x : ℕ) → 0 < S x → (x ≡ p → ⊥) → word (freed c s n mid) (x + 4) ≡ word bytes (x + 4)
    next-kept x h o = let z = spot x h in (freed-other c s n mid x c-in piece.eights z.0 (other x h)).1 ∙ linked-other p c bytes x (is-spot p p-cell) z.0 o

    next-before : (p ≡ 4294967295 → ⊥) → word (freed c s n mid) (p + 4) ≡ c
    next-before o = let h = p-cell o in let z = spot p h in (freed-other c s n mid p c-in piece.eights z.0 (other p h)).1 ∙ linked-same p c bytes (is-spot p p-cell) c-short o

    -- the marks after it
    abbrev marks1 : List ℕ
    marks1 = marked n (tagged c) marks

    abbrev marks2 : List ℕ
    marks2 = set marks1 (c / 8) (tagged p)

    abbrev new-marks : List ℕ
    new-marks = ended c s c marks2

    last-eights : (c + s - 8) % 8 ≡ 0
    last-eights = omega (arith, piece.eights, piece.size_eights, piece.some)

    p-link : IsLink p
    p-link o = (spot p (p-cell o)).0

    mark-here : at_eight new-marks 0 c ≡ tagged p
    mark-here =
        let room : c / 8 < length marks1 = omega (arith, length-marked n (tagged c) marks, w.marks_long, piece.within, piece.size_eights, piece.eights) in
        ended-other marks2 0 c s c c last-eights (λ l e. omega arith) ∙ at-same marks1 0 c (tagged p) piece.eights room

    mark-there : 8 < s → at_eight new-marks 0 (c + s - 8) ≡ c
    mark-there l =
        let long : length marks2 ≡ length marks = length-set marks1 (c / 8) (tagged p) ∙ length-marked n (tagged c) marks in
        ended-last marks2 0 c s c l last-eights (let r = put-room in omega (arith, r.2))

    mark-elsewhere : (x : ℕ) → (x ≡ c → ⊥) → (x ≡ c + s - 8 → ⊥) → at_eight new-marks 0 x ≡ at_eight marks1 0 x
    mark-elsewhere x o d = ended-other marks2 0 c s c x last-eights (λ l. d) ∙ at-other marks1 0 c (tagged p) x piece.eights o

    -- no free cell begins at its last eight bytes
    not-last : (x : ℕ) → 0 < S x → x ≡ c + s - 8 → ⊥
    not-last x h e = elim (free x h) [ inl l ↦ omega (arith, piece.size_eights) | inr l ↦ omega (arith, piece.size_eights, piece.some) ]

    marks-right : AreMarks (sized c s S) (at_eight new-marks 0)
    marks-right =
        let linked-marks = marks-linked bytes S marks n (tagged c) w.pieces w.apart (opened S marks w.marks_are) (is-place n n-cell) n-cell (tagged-odd c (λ o. piece.eights)) in
        marks-put bytes S (at_eight marks1 0) w.pieces linked-marks (at_eight new-marks 0) c s piece some free
        (ap (λ m. m % 2) mark-here ∙ tagged-odd p p-link) mark-there mark-elsewhere

    puts : n < 4294967296 → Puts 16384 S N (back_in marks) (head_at heads) (at_eight firsts 4294967295)
        (sized c s S) (λ x. word (freed c s n mid) (x + 4)) (back_in new-marks) (head_at (head_linked k p c heads)) (at_eight (first_put p c s firsts) 4294967295) k c s p n
    puts short =
        let ln = is-place n n-cell in
        let nc : (n ≡ 4294967295 → ⊥) → n ≡ c → ⊥ = λ o e. other n (n-cell o) e in
        record {
          size_is = sized-here c s S c refl;
          sizes = λ x o. sized-other c s S x o;
          next_is = freed-next c s n mid c-in short;
          next_before = next-before;
          nexts = λ x h op oc. next-kept x h op;
          back_is = ap untagged mark-here ∙ untagged-tagged p p-link;
          back_behind = λ o. ap untagged (mark-elsewhere n (nc o) (not-last n (n-cell o)) ∙ marked-same marks 0 n (tagged c) ln o) ∙ untagged-tagged c (λ z. piece.eights);
          backs = λ x h op oc. ap untagged (mark-elsewhere x oc (not-last x h) ∙ marked-other marks 0 n (tagged c) x ln op);
          head_is = head_linked-is k p c heads (let z = class-in s piece.size_eights in omega (arith, w.heads_long));
          head_kept = head_linked-kept k p c k heads;
          heads = λ j o. head_linked-other k p c j heads o;
          first_is = λ e l. first_put-is p c s firsts piece.size_eights (let z = w.firsts_long (omega (arith, piece.within)) in omega arith) e l;
          first_kept = first_put-kept p c s s firsts;
          firsts = λ x o. first_put-other p c s x firsts piece.size_eights o;
        }

    -- what holds of each free cell now
    by-cell : (P : ℕ → ℕ → Type 0) → P c s → ((x : ℕ) → 0 < S x → P x (S x)) → (x : ℕ) → 0 < sized c s S x → P x (sized c s S x)
    by-cell P here there x h = elim (cases_eq x c) [
      | inl e ↦ subst (λ v. P x v) (sym (sized-here c s S x e)) (subst (λ v. P v s) (sym e) here)
      | inr o ↦ (let v = sized-other c s S x o in subst (λ y. P x y) (sym v) (there x (omega arith)))
    ]

    pub put-kept : n < 4294967296 → (words' : List ℕ) (large' top' : ℕ) → length words' ≡ length words →
        large' ≡ large + counted s → top ≤ top' → s < top' →
        AreTables (freed c s n mid) (sized c s S) (head_linked k p c heads) (first_put p c s firsts) words' new-marks large' top'
    put-kept short words' large' top' long more le less =
        let r = putting.put class_of 16384 S N (back_in marks) (head_at heads) (at_eight firsts 4294967295) k c s p n t some cell new refl low' high refl
        (sized c s S) (λ x. word (freed c s n mid) (x + 4)) (back_in new-marks) (head_at (head_linked k p c heads)) (at_eight (first_put p c s firsts) 4294967295)
        (puts short) in
        let all : length (freed c s n mid) ≡ length bytes = length-freed c s n mid c-in ∙ mid-long in
        record {
          threads = r;
          pieces = by-cell (λ x v. IsPiece (freed c s n mid) x v)
              (record { eights = piece.eights; some = piece.some; size_eights = piece.size_eights; within = rw all piece.within })
              (λ x h. (let z = w.pieces x h in record { eights = z.eights; some = z.some; size_eights = z.size_eights; within = rw all z.within }));
          fields = by-cell (λ x v. word (freed c s n mid) x ≡ v) (field-is (omega (arith, piece.within, w.small))) (λ x h. field-kept x h ∙ w.fields x h);
          apart = λ x y h g l. elim (cases_eq x c) [
            | inl e ↦ elim (cases_eq y c) [
              | inl f ↦ absurd (omega arith)
              | inr f ↦ (
                  let a = sized-here c s S x e in
                  let b = sized-other c s S y f in
                  elim (free y (omega arith)) [ inl q ↦ absurd (omega arith) | inr q ↦ omega arith ])
            ]
            | inr e ↦ (
                let a = sized-other c s S x e in
                elim (cases_eq y c) [
                  | inl f ↦ elim (free x (omega arith)) [ inl q ↦ omega arith | inr q ↦ absurd (omega arith) ]
                  | inr f ↦ (let b = sized-other c s S y f in let q = w.apart x y (omega arith) (omega arith) l in omega arith)
                ])
          ];
          marks_are = closed (sized c s S) new-marks marks-right;
          below = by-cell (λ x v. v < top') less (λ x h. (let z = w.below x h in omega arith));
          words_long = λ h. (let z = w.words_long (omega arith) in omega arith);
          firsts_long = λ h. (let z = w.firsts_long (omega arith) in omega (arith, length-first_put p c s firsts));
          marks_long = omega (arith, all, length-ended c s c marks2, length-set marks1 (c / 8) (tagged p), length-marked n (tagged c) marks, w.marks_long);
          heads_long = length-head_linked k p c heads ∙ w.heads_long;
          small = omega (arith, all, w.small);
          count = elim (cases_lt s 16384) [
            | inl l ↦ (
                let z = class-small s l piece.size_eights in
                let y = counted-small s l in
                omega (
                  arith,
                  w.count,
                  putting.put-other class_of 16384 S N (back_in marks) (head_at heads) (at_eight firsts 4294967295) k c s p n t some cell new refl low' high refl
                      (sized c s S) (λ x. word (freed c s n mid) (x + 4)) (back_in new-marks) (head_at (head_linked k p c heads))
                      (at_eight (first_put p c s firsts) 4294967295) (puts short) 23 (λ e. omega arith),
                ))
            | inr g ↦ (
                let z : k ≡ 23 = class-large s g in
                let y = counted-large s g in
                let x = putting.put-here class_of 16384 S N (back_in marks) (head_at heads) (at_eight firsts 4294967295) k c s p n t some cell new refl low' high refl
                (sized c s S) (λ x. word (freed c s n mid) (x + 4)) (back_in new-marks) (head_at (head_linked k p c heads))
                (at_eight (first_put p c s firsts) 4294967295) (puts short) in
                let v : length (r.lists 23) ≡ suc (length (t.lists 23)) = subst (λ i. length (r.lists i) ≡ suc (length (t.lists i))) z x in
                omega (arith, w.count))
          ];
        }

    -- the same at what the code's steps leave
    pub put-done : (class : ℕ) → class ≡ class_of s → (bytes' heads' firsts' words' marks' : List ℕ) (large' top' : ℕ) →
        bytes' ≡ freed c s (following bytes heads class p) (linked p c bytes) → heads' ≡ head_linked class p c heads → firsts' ≡ first_put p c s firsts →
        length words' ≡ length words →
        marks' ≡ ended c s c (set (marked (following bytes heads class p) (tagged c) marks) (c / 8) (tagged p)) → following bytes heads class p < 4294967296 →
        large' ≡ large + counted s → top ≤ top' → s < top' → AreTables bytes' (sized c s S) heads' firsts' words' marks' large' top'
    put-done class e bytes' heads' firsts' words' marks' large' top' a b d long f short more le less =
        rw (a, b, d, f, e) (put-kept (rw e at short) words' large' top' long more le less)
