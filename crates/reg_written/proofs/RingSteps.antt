-- A walk over the ring of the securities that are used, from its start, step by step, to its end.
use Rattle.std.proofs.Common.{◌≡◌, ◌≢◌, ◌⊎◌, inl, inr, ℕ, ◌<◌, zero, suc, Bool, true, false, ◌||◌, cond, eqb, List, [], ◌∷◌, ◌++◌, Option, Some, None, refl, sym, ap, ◌∙◌, subst, append_assoc, arith}
use Rattle.std.specs.Prelude.{◌↔◌, IsTrue, MatchBool, bytes_eq}
use Rattle.std.specs.Option.{option_map}
use Rattle.std.specs.List.{AllByRecursion}
use Rattle.std.proofs.lemmas.Bool.{false≢true, eq-eqb, ne_eqb, cases_eq, or_cases, or_left, or_right, false_from_ne_true}
use Rattle.std.proofs.lemmas.List.{append-nil}
use Rattle.std.proofs.lemmas.Option.{same_Some}
use Rattle.std.proofs.lemmas.Slice.Eq.{bytes_eq-Decides}
use Rattle.reg_heap.specs.Heaps.{Heap}
use Rattle.reg_heap.specs.Kinds.{times}
use Rattle.reg_arena.proofs.Contents.CellWrites.{all-append}
use Rattle.reg_arena.proofs.FreeList.ListMembers.{all_from_times}
use Rattle.reg_arena.proofs.FreeList.ThreadLinks.{times-append}
use Rattle.reg_records.specs.KeySecurities.{KeySecurityRecord}
use Rattle.reg_shape.specs.Whole.{count_at, flink_at, blink_at, descriptor_at}
use Rattle.reg_shape.specs.Written.{Pairwise, IsWrittenSecurity}
use Rattle.reg_written.specs.SecurityRings.{IsRingOf}
use Rattle.reg_written.specs.Internal.RingWalks.{if_left, AreUses, IsBetween, Goes, IsRound, IsFront, AreMet, Way, IsWay, IsFit, IsNext}
use Rattle.reg_written.proofs.RingRounds.{times-first, circles-gone, goes-more}
use Rattle.reg_written.proofs.LeftUses.{times-itself, times-other, member-last, left-some, left-none, left-met, left-unused}

module _ (heap : Heap) (used : List ℕ) (first last : ℕ) where
  -- at the start
  pub way-start : (left : ℕ → Option ℕ) (met : List ℕ → Bool) → blink_at heap first ≡ Some last → AreUses left used → ((descriptor : List ℕ) → met descriptor ≡ false) →
      IsWay heap used first last (record { ring = []; left = left; met = met; before = last; at = first })
  way-start left met closes uses none = record {
    goes = (refl, refl);
    closes = closes;
    left = λ offset. uses offset;
    among = λ offset k. absurd (omega arith);
    counts = tt;
    written = tt;
    apart = tt;
    met = record {
      found = λ descriptor e. absurd (false≢true (sym (none descriptor) ∙ e));
      noted = λ descriptor offset k e. absurd (omega arith);
    };
    exact = λ whole r. record { rest = whole; is = refl; goes = r.goes };
  }

  module _ (way : Way) (w : IsWay heap used first last way) where
    -- what is known of the next security, if it is one that is used and wasn't met
    record IsAhead (count : ℕ) : Type 0 where
      new : times way.at way.ring ≡ 0
      uses : times way.at used ≡ count
      some : 0 < count

    ahead : (count : ℕ) → way.left way.at ≡ Some count → IsAhead count
    ahead count e =
        let t = left-some (times way.at way.ring) (times way.at used) count (sym (w.left way.at) ∙ e) in
        record { new = t.0; uses = t.1; some = t.2 }

    -- the next security is used
    pub used-next : (count : ℕ) → way.left way.at ≡ Some count → 0 < times way.at used
    used-next count e = let a = ahead count e in let uses = a.uses in let some = a.some in omega (arith, uses, some)

    -- how a ring goes on behind its front, with the next security
    record GoesOn (whole : List ℕ) : Type 0 where
      rest : List ℕ
      on : ℕ
      is : whole ≡ way.ring ++ way.at ∷ rest
      between : IsBetween heap way.at way.before on
      goes : Goes heap way.at on rest last first

    goes-on : (count : ℕ) → way.left way.at ≡ Some count → (whole : List ℕ) → IsRound heap used first last whole → GoesOn whole
    goes-on count e whole r = let f = w.exact whole r in by f.rest f.is f.goes
      where
        by : (rest : List ℕ) → whole ≡ way.ring ++ rest → Goes heap way.before way.at rest last first → GoesOn whole
        by [] is g =
            let a = ahead count e in
            let new = a.new in
            let uses = a.uses in
            let some = a.some in
            let there : 0 < times way.at whole = (r.members way.at).0 (omega (arith, uses, some)) in
            let t : times way.at whole ≡ times way.at way.ring = ap (times way.at) (is ∙ append-nil way.ring) in
            absurd (omega (arith, new, there, t))
        by (x ∷ xs) is g = record {
          rest = xs;
          on = g.0;
          is = is ∙ ap (λ k. way.ring ++ k ∷ xs) (sym g.1);
          between = subst (λ k. IsBetween heap k way.before g.0) (sym g.1) g.2;
          goes = subst (λ k. Goes heap k g.0 xs last first) (sym g.1) g.3;
        }

    -- the next security stands in such a ring
    there-next : (whole : List ℕ) (g : GoesOn whole) → 0 < times way.at whole
    there-next whole g =
        let t : times way.at whole ≡ times way.at (way.ring ++ way.at ∷ g.rest) = ap (times way.at) g.is in
        let s = times-append way.at way.ring (way.at ∷ g.rest) in
        let f = times-first way.at g.rest in
        omega (arith, t, s, f)

    -- so does each that was gone through
    there-gone : (whole : List ℕ) (g : GoesOn whole) (z : ℕ) → 0 < times z way.ring → 0 < times z whole
    there-gone whole g z k =
        let t : times z whole ≡ times z (way.ring ++ way.at ∷ g.rest) = ap (times z) g.is in
        let s = times-append z way.ring (way.at ∷ g.rest) in
        omega (arith, t, s)

    -- ---- a step

    module _ (left : ℕ → Option ℕ) (count : ℕ) (e : way.left way.at ≡ Some count) (taken : (offset : ℕ) → left offset ≡ cond (eqb way.at offset) None (way.left offset)) where
      left-next : (offset : ℕ) → left offset ≡ if_left (times offset (way.ring ++ way.at ∷ [])) (times offset used)
      left-next offset = by (cases_eq offset way.at)
        where
          by : (offset ≡ way.at) ⊎ (offset ≢ way.at) → left offset ≡ if_left (times offset (way.ring ++ way.at ∷ [])) (times offset used)
          by (inl same) =
              let t = times-append offset way.ring (way.at ∷ []) in
              let o : times offset (way.at ∷ []) ≡ 1 = subst (λ k. times offset (k ∷ []) ≡ 1) same (times-itself offset) in
              let m : if_left (times offset (way.ring ++ way.at ∷ [])) (times offset used) ≡ None =
              left-met (times offset (way.ring ++ way.at ∷ [])) (times offset used) (omega (arith, t, o)) in
              let q : eqb way.at offset ≡ true = eq-eqb way.at offset (sym same) in
              taken offset ∙ (ap (λ b. cond b None (way.left offset)) q ∙ sym m)
          by (inr p) =
              let t = times-append offset way.ring (way.at ∷ []) in
              let o = times-other offset way.at p in
              let same : times offset (way.ring ++ way.at ∷ []) ≡ times offset way.ring = omega (arith, t, o) in
              let q : eqb way.at offset ≡ false = ne_eqb way.at offset (λ s. p (sym s)) in
              taken offset ∙ (ap (λ b. cond b None (way.left offset)) q ∙ (w.left offset ∙ ap (λ n. if_left n (times offset used)) (sym same)))

      module _ (met : List ℕ → Bool) (on : ℕ) (fit : IsFit heap way.at way.before count way.met) (forward : flink_at heap way.at ≡ Some on)
          (more : (descriptor : List ℕ) → descriptor_at heap way.at ≡ Some descriptor → (other : List ℕ) → met other ≡ (way.met other || bytes_eq descriptor other)) where
        text : List ℕ
        text = fit.standing.written.security.descriptor

        text-is : descriptor_at heap way.at ≡ Some fit.standing.written.security.descriptor
        text-is = ap (option_map (λ (s : KeySecurityRecord). s.descriptor)) fit.standing.written.reads

        among-next : (offset : ℕ) → 0 < times offset (way.ring ++ way.at ∷ []) → 0 < times offset used
        among-next offset k = by (member-last way.ring way.at offset k)
          where
            by : (offset ≡ way.at) ⊎ (0 < times offset way.ring) → 0 < times offset used
            by (inl same) = let a = ahead count e in subst (λ z. 0 < times z used) (sym same) (let u = a.uses in let s = a.some in omega (arith, u, s))
            by (inr l) = w.among offset l

        pairs-more : (xs : List ℕ) → Pairwise (λ a b. descriptor_at heap a ≢ descriptor_at heap b) xs →
            AllByRecursion (λ a. descriptor_at heap a ≢ descriptor_at heap way.at) xs → Pairwise (λ a b. descriptor_at heap a ≢ descriptor_at heap b) (xs ++ way.at ∷ [])
        pairs-more [] p a = (tt, tt)
        pairs-more (x ∷ xs) p a = (all-append (λ b. descriptor_at heap x ≢ descriptor_at heap b) xs (way.at ∷ []) p.0 (a.0, tt), pairs-more xs p.1 a.1)

        met-next : AreMet heap (way.ring ++ way.at ∷ []) met
        met-next = record {
          found = λ descriptor k. by-found descriptor (or_cases _ _ (sym (more fit.standing.written.security.descriptor text-is descriptor) ∙ k));
          noted = λ descriptor offset k d. more fit.standing.written.security.descriptor text-is descriptor ∙ by-noted descriptor offset d (member-last way.ring way.at offset k);
        }
          where
            by-found : (descriptor : List ℕ) → (way.met descriptor ≡ true) ⊎ (bytes_eq fit.standing.written.security.descriptor descriptor ≡ true) →
                (offset : ℕ) × (0 < times offset (way.ring ++ way.at ∷ [])) × (descriptor_at heap offset ≡ Some descriptor)
            by-found descriptor (inl k) =
                let t = w.met.found descriptor k in
                let s = times-append t.0 way.ring (way.at ∷ []) in
                let l = t.1 in
                (t.0, omega (arith, s, l), t.2)
            by-found descriptor (inr k) =
                let s = times-append way.at way.ring (way.at ∷ []) in
                let o = times-itself way.at in
                (way.at, omega (arith, s, o), text-is ∙ ap Some ((bytes_eq-Decides fit.standing.written.security.descriptor descriptor).0 k))

            by-noted : (descriptor : List ℕ) (offset : ℕ) → descriptor_at heap offset ≡ Some descriptor → (offset ≡ way.at) ⊎ (0 < times offset way.ring) →
                (way.met descriptor || bytes_eq fit.standing.written.security.descriptor descriptor) ≡ true
            by-noted descriptor offset d (inl same) =
                or_right _ _ ((bytes_eq-Decides fit.standing.written.security.descriptor descriptor).1 (same_Some _ _ (sym text-is ∙ (ap (descriptor_at heap) (sym same) ∙ d))))
            by-noted descriptor offset d (inr l) = or_left _ _ (w.met.noted descriptor offset l d)

        exact-next : (whole : List ℕ) → IsRound heap used first last whole → IsFront heap first last whole (way.ring ++ way.at ∷ []) way.at on
        exact-next whole r =
            let g = goes-on count e whole r in
            let same : g.on ≡ on = same_Some _ _ (sym g.between.on ∙ forward) in
            record {
              rest = g.rest;
              is = g.is ∙ sym (append_assoc way.ring (way.at ∷ []) g.rest);
              goes = subst (λ k. Goes heap way.at k g.rest last first) same g.goes;
            }

        way-more : IsWay heap used first last (record { ring = way.ring ++ way.at ∷ []; left = left; met = met; before = way.at; at = on })
        way-more = record {
          goes = goes-more heap last first way.ring way.before way.at on w.goes (record { back = fit.standing.back; on = forward });
          closes = w.closes;
          left = left-next;
          among = among-next;
          counts = all-append (λ offset. count_at heap offset ≡ Some (times offset used)) way.ring (way.at ∷ []) w.counts
              (fit.standing.counts ∙ ap Some (sym (ahead count e).uses), tt);
          written = all-append (IsWrittenSecurity heap) way.ring (way.at ∷ []) w.written (fit.standing.written, tt);
          apart = pairs-more way.ring w.apart (all_from_times (λ a. descriptor_at heap a ≢ descriptor_at heap way.at) way.ring
              (λ a k same. false≢true (sym (fit.new fit.standing.written.security.descriptor text-is) ∙ w.met.noted fit.standing.written.security.descriptor a k (same ∙ text-is))));
          met = met-next;
          exact = exact-next;
        }

    -- ---- where it ends

    -- the next security was met, or isn't used
    module _ (e : way.left way.at ≡ None) where
      -- there is such a ring: it is back at the first, from the last, and nothing is left
      pub record IsEnd : Type 0 where
        pub at : way.at ≡ first
        pub before : way.before ≡ last
        pub none : (offset : ℕ) → way.left offset ≡ None

      pub ended : (whole : List ℕ) → IsRound heap used first last whole → IsEnd
      ended whole r = let f = w.exact whole r in by f.rest f.is f.goes
        where
          by : (rest : List ℕ) → whole ≡ way.ring ++ rest → Goes heap way.before way.at rest last first → IsEnd
          by [] is g = record {
            at = g.1;
            before = g.0;
            none = λ offset. (let t : times offset whole ≡ times offset way.ring = ap (times offset) (is ∙ append-nil way.ring) in
                w.left offset ∙ none-of (times offset way.ring) (times offset used) (λ k. omega (arith, t, (r.members offset).0 k)));
          }
            where
              none-of : (met uses : ℕ) → (0 < uses → 0 < met) → if_left met uses ≡ None
              none-of met zero k = left-unused met zero refl
              none-of met (suc uses) k = left-met met (suc uses) (k (omega arith))
          by (x ∷ xs) is g =
              let t : times way.at whole ≡ times way.at (way.ring ++ way.at ∷ xs) = ap (times way.at) (is ∙ ap (λ k. way.ring ++ k ∷ xs) (sym g.1)) in
              let s = times-append way.at way.ring (way.at ∷ xs) in
              let f = times-first way.at xs in
              let there : 0 < times way.at used = (r.members way.at).1 (omega (arith, t, s, f)) in
              let m : 0 < times way.at way.ring = left-none (times way.at way.ring) (times way.at used) (sym (w.left way.at) ∙ e) there in
              let o = r.once way.at in
              absurd (omega (arith, t, s, f, m, o))

    -- the next security isn't one to go on with
    pub unfit : (count : ℕ) → way.left way.at ≡ Some count → (IsFit heap way.at way.before count way.met → ⊥) → (whole : List ℕ) → IsRound heap used first last whole → ⊥
    unfit count e never whole r =
        let g = goes-on count e whole r in
        let there = there-next whole g in
        let a = ahead count e in
        never (record {
          standing = record {
            back = g.between.back;
            counts = r.counts way.at there ∙ ap Some a.uses;
            written = r.written way.at there;
          };
          new = λ descriptor d. false_from_ne_true (way.met descriptor) (λ k.
              (let t = w.met.found descriptor k in
              let new = a.new in
              let l = t.1 in
              r.apart t.0 way.at (there-gone whole g t.0 t.1) there (λ same. absurd (let s : times way.at way.ring ≡ times t.0 way.ring = ap (λ z. times z way.ring) (sym same) in omega (arith, new, l, s))) (t.2 ∙ sym d)));
        })

    -- it is back at the first, from the last, and nothing is left
    pub closed : way.at ≡ first → way.before ≡ last → ((offset : ℕ) → way.left offset ≡ None) → IsRingOf heap used way.ring
    closed at before none = record {
      closed = record {
        circles = circles-gone heap first last way.ring
            (subst (λ k. Goes heap last first way.ring k first) before (subst (λ k. Goes heap last first way.ring way.before k) at w.goes)) w.closes;
        apart = w.apart;
        written = w.written;
      };
      members = λ offset. (λ k. left-none (times offset way.ring) (times offset used) (sym (w.left offset) ∙ none offset) k, w.among offset);
      counts = w.counts;
    }

-- a step of the walk
pub way-next : (heap : Heap) (used : List ℕ) (first last : ℕ) (old new : Way) (left : ℕ → Option ℕ) (count : ℕ) → IsWay heap used first last old →
    old.left old.at ≡ Some count → ((offset : ℕ) → left offset ≡ cond (eqb old.at offset) None (old.left offset)) →
    IsNext heap count (record old { left = left }) new → IsWay heap used first last new
way-next heap used first last old new left count w e taken n =
    subst (λ ring. IsWay heap used first last (record new { ring = ring })) (sym n.ring)
    (subst (λ before. IsWay heap used first last (record new { ring = old.ring ++ old.at ∷ []; before = before })) (sym n.before)
    (way-more heap used first last old w new.left count e (λ offset. n.left offset ∙ taken offset) new.met new.at n.fit n.on n.met))

-- the end of the walk, at a test whether it is a ring
pub way-end : (heap : Heap) (used : List ℕ) (first last : ℕ) (way : Way) (left : ℕ → Option ℕ) (closes : Bool) → IsWay heap used first last way →
    way.left way.at ≡ None → ((offset : ℕ) → left offset ≡ cond (eqb way.at offset) None (way.left offset)) →
    (IsTrue closes ↔ ((way.at ≡ first) × (way.before ≡ last) × ((offset : ℕ) → left offset ≡ None))) →
    MatchBool closes (IsRingOf heap used way.ring) ((whole : List ℕ) → IsRound heap used first last whole → ⊥)
way-end heap used first last way left closes w e taken t = by closes t
  where
    same : (offset : ℕ) → left offset ≡ way.left offset
    same offset = taken offset ∙ of (cases_eq way.at offset)
      where
        of : (way.at ≡ offset) ⊎ (way.at ≢ offset) → cond (eqb way.at offset) None (way.left offset) ≡ way.left offset
        of (inl s) = ap (λ b. cond b None (way.left offset)) (eq-eqb way.at offset s) ∙ sym (subst (λ k. way.left k ≡ None) s e)
        of (inr p) = ap (λ b. cond b None (way.left offset)) (ne_eqb way.at offset p)

    by : (b : Bool) → (IsTrue b ↔ ((way.at ≡ first) × (way.before ≡ last) × ((offset : ℕ) → left offset ≡ None))) →
        MatchBool b (IsRingOf heap used way.ring) ((whole : List ℕ) → IsRound heap used first last whole → ⊥)
    by true t = let h = t.0 refl in closed heap used first last way w h.0 h.1 (λ offset. sym (same offset) ∙ h.2 offset)
    by false t = λ whole r.
        (let h = ended heap used first last way w e whole r in false≢true (t.1 (h.at, h.before, λ offset. same offset ∙ h.none offset)))
