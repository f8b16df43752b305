-- The shares of a hive's sessions, after a call and after calls.
use Rattle.std.proofs.Common.{◌≡◌, ◌+◌, ◌<◌, ◌++◌, ◌∷◌, ◌==◌, [], ℕ, List, length, if◌then◌else◌, arith, refl, sym, ap, ◌∙◌, subst, length-append, set, slice_index_or, map, replicate, Option, Some, None, inl, inr}
use Rattle.std.specs.List.{range_with_len}
use Rattle.std.proofs.lemmas.List.Elements.{filter-append}
use Rattle.std.proofs.lemmas.Bool.Decides.{nat_tests}
use Rattle.std.proofs.lemmas.List.{get_or_default, get_or-replicate, get_or-set_same, get_or-set_other, length-replicate, length-set}
use Rattle.std.proofs.lemmas.List.FromFn.{get_or-map-range_with_len, length-map-range_with_len}
use Rattle.std.proofs.lemmas.Bool.{cases_eq}
use Rattle.reg_model.specs.Callbacks.{Callbacks, change_status}
use Rattle.reg_model.specs.Causes.{change_cause}
use Rattle.reg_model.specs.Histories.{is_of, entries_of, count_of}
use Rattle.reg_model.specs.declared.call.Change.{Change}
use Rattle.reg_model.specs.declared.reply.Entry.{Entry}
use Rattle.reg_model.specs.declared.reply.ChangeReply.{ChangeReply}
use Rattle.reg_journal.specs.Kept.{Seat, seat, IsCurrent, row_of}
use Rattle.reg_calls.specs.Views.{View, state, IsApplied, IsAppliedBy, entry_of}
use Rattle.reg_calls.specs.Seats.{share_at, IsSeated, AreSeated, HaveCounted}

-- ---- one entry more

count-more : (t : ℕ) (es : List Entry) (e : Entry) → count_of t (es ++ e ∷ []) ≡ count_of t es + (if e.session == t then 1 else 0)
count-more t es e = grind (arith, filter-append (is_of t) es (e ∷ []), length-append (entries_of t es) (entries_of t (e ∷ [])))

-- of the share's session, and one more in its count
pub current-more : (noted : List ℕ) (es : List Entry) (e : Entry) (share new : Seat) → IsCurrent noted es share → e.session ≡ share.session → new.session ≡ share.session →
    new.count ≡ share.count + 1 → IsCurrent noted (es ++ e ∷ []) new
current-more noted es e share new c own same more =
    record {
      seated = (let s = c.seated in omega (arith, s, same));
      counted = (let k = c.counted in let m = count-more new.session es e in grind (arith, nat_tests));
    }

-- the same by a book and a journal that are the same
pub current-at : {noted noted' : List ℕ} {es es' : List Entry} {share : Seat} → noted' ≡ noted → es' ≡ es → IsCurrent noted es share → IsCurrent noted' es' share
current-at {noted = noted} {es' = es'} {share = share} same_noted same c =
    subst (λ (x : List ℕ). IsCurrent x es' share) (sym same_noted) (subst (λ (x : List Entry). IsCurrent noted x share) (sym same) c)

count-other : (t : ℕ) (es : List Entry) (e : Entry) → (e.session ≡ t → ⊥) → count_of t (es ++ e ∷ []) ≡ count_of t es
count-other t es e ne = let m = count-more t es e in grind (arith, nat_tests)

counts-by : (o : Option ℕ) (old new : View) (session moment : ℕ) (change : Change) (reply : ChangeReply) → IsAppliedBy o old new session moment change reply →
    (t : ℕ) → (session ≡ t → ⊥) → count_of t new.journal ≡ count_of t old.journal
counts-by (Some status) old new session moment change reply a t ne = ap (λ (v : View). count_of t v.journal) a.1
counts-by None old new session moment change reply (inl a) t ne =
    ap (λ (es : List Entry). count_of t es) a.journal ∙ count-other t old.journal (entry_of old session moment change) ne
counts-by None old new session moment change reply (inr a) t ne = ap (λ (v : View). count_of t v.journal) a.same

-- a change leaves the counts of other sessions
counts-other : (k : Callbacks) (old new : View) (session moment : ℕ) (change : Change) (reply : ChangeReply) → IsApplied k old new session moment change reply →
    (t : ℕ) → (session ≡ t → ⊥) → count_of t new.journal ≡ count_of t old.journal
counts-other k old new session moment change reply a t ne =
    counts-by (change_cause (state old) session change (change_status k (state old).world session moment change)) old new session moment change reply a t ne

-- ---- shares in their places

-- the share at a session's place, as code finds it there
pub seat-found : (noted : List ℕ) (es : List Entry) (shares : List Seat) (session : ℕ) (found : Seat) → IsSeated noted es shares session →
    found ≡ slice_index_or shares session found → (found.session ≡ session) × IsCurrent noted es found
seat-found noted es shares session found was is =
    subst (λ (x : Seat). (x.session ≡ session) × IsCurrent noted es x) (sym (is ∙ get_or_default shares session found (seat 0 0) was.within)) (was.own, was.current)

-- the shares of sessions that have made no call
pub fresh-seated : (noted : List ℕ) (es : List Entry) (shares : List Seat) → noted ≡ replicate 64 0 → es ≡ [] →
    shares ≡ map (λ (s : ℕ). seat s 0) (range_with_len 0 64) → AreSeated noted es shares
fresh-seated noted es shares rows none are =
    let long : length shares ≡ 64 = ap (λ (l : List Seat). length l) are ∙ length-map-range_with_len (λ (s : ℕ). seat s 0) 0 64 in
    record {
      many = long;
      all = λ session below.
          let is : share_at shares session ≡ seat session 0 =
          ap (λ (l : List Seat). share_at l session) are ∙ get_or-map-range_with_len (λ (s : ℕ). seat s 0) 0 64 session session (seat 0 0) below (omega arith) in
          record {
            within = omega (arith, long, below);
            own = ap (λ (x : Seat). x.session) is;
            current = subst (λ (x : Seat). IsCurrent noted es x) (sym is)
                (subst (λ (l : List ℕ). IsCurrent l es (seat session 0)) (sym rows)
                (subst (λ (l : List Entry). IsCurrent (replicate 64 0) l (seat session 0)) (sym none) (record {
                  seated = (let l = length-replicate {A = ℕ} 64 0 in omega (arith, l, below));
                  counted = (let z = get_or-replicate {A = ℕ} 64 session 0 0 below in omega (arith, z));
                })));
          };
    }

-- a call of a session by the share in its place
pub counted-applied : (k : Callbacks) (noted : List ℕ) (old new : View) (session moment : ℕ) (change : Change) (reply : ChangeReply) (shares : List Seat) (share : Seat) →
    IsSeated noted old.journal shares session → IsApplied k old new session moment change reply → IsCurrent noted new.journal share → share.session ≡ session →
    HaveCounted old.journal new.journal shares (set shares session share)
counted-applied k noted old new session moment change reply shares share was a current own = record {
  many = length-set shares session share;
  sessions = λ place. elim (cases_eq session place) [
    | inl e ↦ subst (λ (p : ℕ). (share_at (set shares session share) p).session ≡ (share_at shares p).session) e
        (ap (λ (x : Seat). x.session) (get_or-set_same shares session share (seat 0 0) was.within) ∙ (own ∙ sym was.own))
    | inr ne ↦ ap (λ (x : Seat). x.session) (get_or-set_other shares session place share (seat 0 0) (λ e. ne (sym e)))
  ];
  counts = λ place below. elim (cases_eq session place) [
    | inl e ↦ subst (λ (p : ℕ). (share_at (set shares session share) p).count + count_of p old.journal ≡ (share_at shares p).count + count_of p new.journal) e
        (let now = ap (λ (x : Seat). x.count) (get_or-set_same shares session share (seat 0 0) was.within) in
        let counted = subst (λ (s : ℕ). share.count ≡ row_of noted new.journal s) own current.counted in
        let before = subst (λ (s : ℕ). (share_at shares session).count ≡ row_of noted old.journal s) was.own was.current.counted in
        omega (arith, now, counted, before))
    | inr ne ↦ (let now = ap (λ (x : Seat). x.count) (get_or-set_other shares session place share (seat 0 0) (λ e. ne (sym e))) in
        let same = counts-other k old new session moment change reply a place ne in
        omega (arith, now, same))
  ];
}

pub counted-none : (es : List Entry) (shares : List Seat) → HaveCounted es es shares shares
counted-none es shares = record { many = refl; sessions = λ place. refl; counts = λ place below. refl }

-- one call after others
pub counted-more : (a b c : List Entry) (first mid last : List Seat) → HaveCounted a b first mid → HaveCounted b c mid last → HaveCounted a c first last
counted-more a b c first mid last h k = record {
  many = k.many ∙ h.many;
  sessions = λ place. k.sessions place ∙ h.sessions place;
  counts = λ place below.
      let x = h.counts place below in
      let y = k.counts place (let m = h.many in omega (arith, m, below)) in
      omega (arith, x, y);
}

-- a share that was in its place is, and its count is the row
pub seated-counted : (noted : List ℕ) (old new : List Entry) (shares after : List Seat) → HaveCounted old new shares after → (session : ℕ) →
    IsSeated noted old shares session → IsSeated noted new after session
seated-counted noted old new shares after h session was =
    let m = h.many in
    let w = was.within in
    let own = h.sessions session ∙ was.own in
    record {
      within = omega (arith, m, w);
      own = own;
      current = record {
        seated = subst (λ (s : ℕ). s < length noted) (sym (h.sessions session)) was.current.seated;
        counted =
            (let before = subst (λ (s : ℕ). (share_at shares session).count ≡ row_of noted old s) was.own was.current.counted in
            let more = h.counts session w in
            subst (λ (s : ℕ). (share_at after session).count ≡ row_of noted new s) (sym own) (omega (arith, before, more)));
      };
    }

pub all-seated : (noted : List ℕ) (old new : List Entry) (shares after : List Seat) → HaveCounted old new shares after → AreSeated noted old shares → AreSeated noted new after
all-seated noted old new shares after h a =
    record { many = h.many ∙ a.many; all = λ session below. seated-counted noted old new shares after h session (a.all session below) }
