-- A journal beside the receipts of all sessions, entry by entry.
use Rattle.std.proofs.Common.{◌≡◌, ◌+◌, ◌==◌, ◌≤◌, ◌<◌, ◌≢◌, ℕ, Bool, true, false, cond, List, [], ◌∷◌, ◌++◌, length, get_or, map, slice_get, slice_index, set, take, drop, replicate, refl, sym, ap, ◌∙◌, subst, inl, inr, Some, None, Option, arith, if◌then◌else◌, append_assoc, append-nil, eq-eqb, ne_eqb}
use Rattle.std.specs.List.{filter}
use Rattle.std.proofs.lemmas.List.{get_or-set_same, get_or-set_other, take_all, length-take-le, length-set, take-append-drop, take_more, map-append}
use Rattle.std.proofs.lemmas.List.Elements.{filter_more, filter-append}
use Rattle.std.proofs.lemmas.Bool.{cases_eq, cases_lt}
use Rattle.std.proofs.lemmas.Option.{slice_get_past, slice_get-get_or, slice_get_within, get_or_from_slice_get}
use Rattle.std.proofs.Math.ListN.{get_or-eq_default}
use Rattle.reg_journal.proofs.Totals.{replicated}
use Rattle.reg_model.specs.declared.reply.Entry.{Entry}
use Rattle.reg_model.specs.declared.reply.Receipt.{Receipt}
use Rattle.reg_model.specs.Histories.{is_of, receipt_of, receipts_of}
use Rattle.reg_sessions.specs.Sessions.{SessionState, receipts_at, no_session}
use Rattle.reg_sessions.specs.Gathering.{receipts_by, IsGathered, Differ}

-- each session's place is the number of its entries so far, whose receipts are those up to there
pub record Compared (journal : List Entry) (h : ℕ) (ss : List SessionState) (i : ℕ) (places : List ℕ) : Type 0 where
  pub size : length places ≡ 64
  pub strays : (s : ℕ) → length ss ≤ s → receipts_of s (take i journal) ≡ []
  pub matches : (s : ℕ) → s < length ss → receipts_of s (take i journal) ≡ take (slice_index places s) (receipts_by ss h s)
  pub small : (s : ℕ) → s < length ss → slice_index places s ≤ i
  pub within : (s : ℕ) → s < length ss → slice_index places s ≤ length (receipts_by ss h s)

pub starts : (journal : List Entry) (h : ℕ) (ss : List SessionState) → Compared journal h ss 0 (replicate 64 0)
starts journal h ss = record {
  size = refl;
  strays = λ s _. refl;
  matches = λ s _. rw (replicated 64 s) refl;
  small = λ s _. omega (arith, replicated 64 s);
  within = λ s _. omega (arith, replicated 64 s);
}

seam : (a b : List Receipt) (r : Receipt) → slice_get (a ++ r ∷ b) (length a) ≡ Some r
seam [] b r = refl
seam (x ∷ a) b r = seam a b r

-- the receipts of the first i + 1 entries
entries_more : (s : ℕ) (journal : List Entry) (i : ℕ) (e : Entry) → i < length journal → e ≡ get_or journal i e →
    receipts_of s (take (i + 1) journal) ≡ receipts_of s (take i journal) ++ (if e.session == s then receipt_of e ∷ [] else [])
entries_more s journal i e below is =
    ap (λ (l : List Entry). map receipt_of l) (filter_more (is_of s) journal i e below)
    ∙ ap (λ (x : Entry). map receipt_of (filter (is_of s) (take i journal) ++ cond (is_of s x) (x ∷ []) [])) (sym is)
    ∙ map-append receipt_of (filter (is_of s) (take i journal)) (cond (is_of s e) (e ∷ []) [])
    ∙ ap (λ (l : List Receipt). receipts_of s (take i journal) ++ l) (mapped (is_of s e))
  where
    mapped : (b : Bool) → map receipt_of (cond b (e ∷ []) []) ≡ (if b then receipt_of e ∷ [] else [])
    mapped true = refl
    mapped false = refl

own_more : (journal : List Entry) (i : ℕ) (e : Entry) → i < length journal → e ≡ get_or journal i e →
    receipts_of e.session (take (i + 1) journal) ≡ receipts_of e.session (take i journal) ++ receipt_of e ∷ []
own_more journal i e below is =
    entries_more e.session journal i e below is
    ∙ ap (λ (b : Bool). receipts_of e.session (take i journal) ++ (if b then receipt_of e ∷ [] else [])) (eq-eqb e.session e.session refl)

other_more : (s : ℕ) (journal : List Entry) (i : ℕ) (e : Entry) → i < length journal → e ≡ get_or journal i e → (s ≡ e.session → ⊥) →
    receipts_of s (take (i + 1) journal) ≡ receipts_of s (take i journal)
other_more s journal i e below is ne =
    entries_more s journal i e below is
    ∙ ap (λ (b : Bool). receipts_of s (take i journal) ++ (if b then receipt_of e ∷ [] else [])) (ne_eqb e.session s (λ h. ne (sym h)))
    ∙ append-nil (receipts_of s (take i journal))

-- the receipts of e's session up to e, e's own, and those after it
cut : (journal : List Entry) (i : ℕ) (e : Entry) → i < length journal → e ≡ get_or journal i e →
    receipts_of e.session journal ≡ receipts_of e.session (take i journal) ++ receipt_of e ∷ receipts_of e.session (drop (i + 1) journal)
cut journal i e below is =
    ap (λ (l : List Entry). receipts_of e.session l) (sym (take-append-drop (i + 1) journal))
    ∙ ap (λ (l : List Entry). map receipt_of l) (filter-append (is_of e.session) (take (i + 1) journal) (drop (i + 1) journal))
    ∙ map-append receipt_of (filter (is_of e.session) (take (i + 1) journal)) (filter (is_of e.session) (drop (i + 1) journal))
    ∙ ap (λ (l : List Receipt). l ++ receipts_of e.session (drop (i + 1) journal)) (own_more journal i e below is)
    ∙ append_assoc (receipts_of e.session (take i journal)) (receipt_of e ∷ []) (receipts_of e.session (drop (i + 1) journal))

at_place : (journal : List Entry) (i : ℕ) (e : Entry) → i < length journal → e ≡ get_or journal i e →
    slice_get (receipts_of e.session journal) (length (receipts_of e.session (take i journal))) ≡ Some (receipt_of e)
at_place journal i e below is =
    ap (λ (l : List Receipt). slice_get l (length (receipts_of e.session (take i journal)))) (cut journal i e below is)
    ∙ seam (receipts_of e.session (take i journal)) (receipts_of e.session (drop (i + 1) journal)) (receipt_of e)

none_some : (r : Receipt) (o : Option Receipt) → o ≡ None → o ≡ Some r → ⊥
none_some r o h k = cc

no_receipt : (ss : List SessionState) (h s : ℕ) (r : Receipt) → length ss ≤ s → slice_get (receipts_by ss h s) 0 ≢ Some r
no_receipt ss h s r past same = none_some r _ (ap (λ (x : SessionState). slice_get (receipts_at h x) 0) (get_or-eq_default ss no_session past)) same

place_is : (journal : List Entry) (h : ℕ) (ss : List SessionState) (i : ℕ) (places : List ℕ) (s : ℕ) → Compared journal h ss i places → s < length ss →
    length (receipts_of s (take i journal)) ≡ slice_index places s
place_is journal h ss i places s p known =
    ap (λ (l : List Receipt). length l) (p.matches s known) ∙ length-take-le (slice_index places s) (receipts_by ss h s) (p.within s known)

-- an entry of no session
pub stray : (journal : List Entry) (h : ℕ) (ss : List SessionState) (i : ℕ) (places : List ℕ) (e : Entry) → Compared journal h ss i places → i < length journal →
    e ≡ get_or journal i e → length ss ≤ e.session → Differ journal h ss e.session 0
stray journal h ss i places e p below is past same =
    let at = at_place journal i e below is in
    let none = p.strays e.session past in
    let first : slice_get (receipts_of e.session journal) 0 ≡ Some (receipt_of e) =
    ap (λ (l : List Receipt). slice_get (receipts_of e.session journal) (length l)) (sym none) ∙ at in
    no_receipt ss h e.session (receipt_of e) past (sym same ∙ first)

-- an entry of which the session has no receipt at its place
pub differs : (journal : List Entry) (h : ℕ) (ss : List SessionState) (i : ℕ) (places : List ℕ) (e : Entry) → Compared journal h ss i places → i < length journal →
    e ≡ get_or journal i e → e.session < length ss → slice_get (receipts_by ss h e.session) (slice_index places e.session) ≢ Some (receipt_of e) →
    Differ journal h ss e.session (slice_index places e.session)
differs journal h ss i places e p below is known ne same =
    let at = at_place journal i e below is in
    let here = place_is journal h ss i places e.session p known in
    ne (sym same ∙ ap (λ (n : ℕ). slice_get (receipts_of e.session journal) n) (sym here) ∙ at)

matches_more : (journal : List Entry) (h : ℕ) (ss : List SessionState) (i : ℕ) (places : List ℕ) (e : Entry) → e.session < length places → Compared journal h ss i places →
    i < length journal → e ≡ get_or journal i e → e.session < length ss → slice_get (receipts_by ss h e.session) (slice_index places e.session) ≡ Some (receipt_of e) →
    receipts_of e.session (take (i + 1) journal) ≡ take (slice_index (set places e.session (slice_index places e.session + 1)) e.session) (receipts_by ss h e.session)
matches_more journal h ss i places e small p below is known same =
    let n = slice_index places e.session in
    let rs = receipts_by ss h e.session in
    let within = slice_get_within rs n (receipt_of e) same in
    own_more journal i e below is
    ∙ ap (λ (l : List Receipt). l ++ receipt_of e ∷ []) (p.matches e.session known)
    ∙ ap (λ (x : Receipt). take n rs ++ x ∷ []) (sym (get_or_from_slice_get rs n (receipt_of e) (receipt_of e) same))
    ∙ sym (take_more rs n (receipt_of e) within)
    ∙ ap (λ (k : ℕ). take k rs) (sym (get_or-set_same places e.session (n + 1) 0 small))

-- an entry of which it has
pub goes_on : (journal : List Entry) (h : ℕ) (ss : List SessionState) (i : ℕ) (places : List ℕ) (e : Entry) → length ss ≤ 64 → Compared journal h ss i places →
    i < length journal → e ≡ get_or journal i e → e.session < length ss → slice_get (receipts_by ss h e.session) (slice_index places e.session) ≡ Some (receipt_of e) →
    Compared journal h ss (i + 1) (set places e.session (slice_index places e.session + 1))
goes_on journal h ss i places e small p below is known same =
    let at = e.session in
    let next = slice_index places at + 1 in
    record {
      size = length-set places at next ∙ p.size;
      strays = λ s past. other_more s journal i e below is (λ x. absurd (omega (arith, x, past, known))) ∙ p.strays s past;
      matches = λ s here. (elim (cases_eq s at) [
        | inl same_one ↦ (let Q : ℕ → Type 0 = λ n. receipts_of n (take (i + 1) journal) ≡ take (slice_index (set places at next) n) (receipts_by ss h n) in
            subst Q (sym same_one) (matches_more journal h ss i places e (omega (arith, p.size)) p below is known same))
        | inr ne ↦ other_more s journal i e below is ne ∙ p.matches s here ∙ ap (λ (n : ℕ). take n (receipts_by ss h s)) (sym (get_or-set_other places at s next 0 ne))
      ]);
      small = λ s here. (elim (cases_eq s at) [
        | inl same_one ↦ (let Q : ℕ → Type 0 = λ n. slice_index (set places at next) n ≤ i + 1 in
            subst Q (sym same_one) (rw (get_or-set_same places at next 0 (omega (arith, p.size))) (omega (arith, p.small at known))))
        | inr ne ↦ rw (get_or-set_other places at s next 0 ne) (omega (arith, p.small s here))
      ]);
      within = λ s here. (elim (cases_eq s at) [
        | inl same_one ↦ (let Q : ℕ → Type 0 = λ n. slice_index (set places at next) n ≤ length (receipts_by ss h n) in
            subst Q (sym same_one)
            (rw (get_or-set_same places at next 0 (omega (arith, p.size))) (omega (arith, slice_get_within (receipts_by ss h at) (slice_index places at) (receipt_of e) same))))
        | inr ne ↦ rw (get_or-set_other places at s next 0 ne) (p.within s here)
      ]);
    }

none_get : (xs : List Receipt) (i : ℕ) → i < length xs → slice_get xs i ≢ None
none_get [] i below none = absurd (omega (arith, below))
none_get (x ∷ xs) i below none = none_some (get_or (x ∷ xs) i x) _ none (slice_get-get_or (x ∷ xs) i x below)

-- a session has more receipts than entries
pub is_short : (journal : List Entry) (h : ℕ) (ss : List SessionState) (places : List ℕ) (s : ℕ) → Compared journal h ss (length journal) places → s < length ss →
    slice_index places s < length (receipts_by ss h s) → Differ journal h ss s (slice_index places s)
is_short journal h ss places s p known more same =
    let here = ap (λ (l : List Entry). length (receipts_of s l)) (sym (take_all (length journal) journal (omega arith))) ∙ place_is journal h ss (length journal) places s p known in
    none_get (receipts_by ss h s) (slice_index places s) more (sym same ∙ slice_get_past (receipts_of s journal) (slice_index places s) (omega (arith, here)))

pub gathered : (journal : List Entry) (h : ℕ) (ss : List SessionState) (places : List ℕ) → Compared journal h ss (length journal) places →
    ((s : ℕ) → s < length ss → length (receipts_by ss h s) ≤ slice_index places s) → IsGathered journal h ss
gathered journal h ss places p all s =
    ap (λ (l : List Entry). receipts_of s l) (sym (take_all (length journal) journal (omega arith)))
    ∙ elim (cases_lt s (length ss)) [
      | inl known ↦ p.matches s known ∙ take_all (slice_index places s) (receipts_by ss h s) (all s known)
      | inr past ↦ p.strays s past ∙ ap (λ (x : SessionState). receipts_at h x) (sym (get_or-eq_default ss no_session past))
    ]

pub small : (journal : List Entry) (h : ℕ) (ss : List SessionState) (i : ℕ) (places : List ℕ) (s : ℕ) → Compared journal h ss i places → s < length ss → slice_index places s ≤ i
small journal h ss i places s p known = p.small s known

pub denied : (b : Bool) → b ≡ true → b ≡ false → ⊥
denied b t f = cc

-- an entry as code finds it
pub found : (journal : List Entry) (i : ℕ) (e : Entry) → Some e ≡ slice_get journal i → (i < length journal) × (e ≡ get_or journal i e)
found journal i e is = (slice_get_within journal i e (sym is), sym (get_or_from_slice_get journal i e e (sym is)))
