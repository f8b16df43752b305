-- As much fuel as there are cells is enough for a walk that meets none of them twice.
use Rattle.std.proofs.Common.{◌≡◌, ℕ, zero, suc, ◌+◌, ◌≤◌, Bool, true, false, cond, Option, Some, None, List, [], ◌∷◌, ◌++◌, length, ◌==◌, refl, sym, ap, ◌∙◌, arith}
use Rattle.std.specs.Option.{option_and_then}
use Rattle.std.specs.Result.{result_ok}
use Rattle.std.proofs.lemmas.Option.{none-some, same_Some}
use Rattle.std.proofs.lemmas.Bool.{false≢true}
use Rattle.reg_heap.specs.Heaps.{Heap}
use Rattle.reg_heap.specs.Kinds.{Kind, Found, is_security, tally}
use Rattle.reg_heap.specs.Kinds.Kind.{Key, Class, SubList, Leaf, ValueList, Value, Data, BigHead, BigList, Segment, Security}
use Rattle.reg_records.specs.KeySecurities.{KeySecurityRecord, sk_of}
use Rattle.reg_records.specs.BigData.{Named}
use Rattle.reg_shape.specs.Walk.{names_of, security_names, kind_met, gather, walk}
use Rattle.reg_shape.proofs.Walking.WalkParts.{gather-open, gather-made, IsMet, walk-open, walk-made, walk-more, walk-none}

-- how many records are met that are no securities
abbrev pub load : List Found → ℕ
load found = tally (λ f. cond (is_security f.kind) 0 1) found

pub load-append : (xs ys : List Found) → load (xs ++ ys) ≡ load xs + load ys
load-append [] ys = omega arith
load-append (x ∷ xs) ys = let e = load-append xs ys in omega arith

-- a security names nothing that is walked
security-bare : (kind : Kind) (size : ℕ) (content : List ℕ) (names : List Named) → is_security kind ≡ true → names_of kind size content ≡ Some names → names ≡ []
security-bare Key size content names k e = absurd (false≢true k)
security-bare Class size content names k e = absurd (false≢true k)
security-bare SubList size content names k e = absurd (false≢true k)
security-bare Leaf size content names k e = absurd (false≢true k)
security-bare ValueList size content names k e = absurd (false≢true k)
security-bare Value size content names k e = absurd (false≢true k)
security-bare Data size content names k e = absurd (false≢true k)
security-bare BigHead size content names k e = absurd (false≢true k)
security-bare BigList size content names k e = absurd (false≢true k)
security-bare Segment size content names k e = absurd (false≢true k)
security-bare Security size content names k e = by (result_ok (sk_of content)) e
  where
    test : (b : Bool) → ◌≡◌ {A = Option (List Named)} (cond b None (Some [])) (Some names) → names ≡ []
    test true e = absurd (none-some _ e)
    test false e = sym (same_Some _ _ e)

    by : (r : Option KeySecurityRecord) → option_and_then security_names r ≡ Some names → names ≡ []
    by None e = absurd (none-some _ e)
    by (Some s) e = test (length s.descriptor == 0) e

-- each of several is walked by a bound on the records that all of them meet
gather-within : (f g : Named → Option (List Found)) (bound : ℕ) → ((n : Named) (found : List Found) → f n ≡ Some found → load found ≤ bound →
    g n ≡ Some found) → (names : List Named) (below : List Found) → gather f names ≡ Some below → load below ≤ bound → gather g names ≡ Some below
gather-within f g bound h [] below e l = e
gather-within f g bound h (n ∷ names) below e l =
    let o = gather-open f n names below e in
    let sum : load below ≡ load o.head + load o.tail = ap load (sym o.all) ∙ load-append o.head o.tail in
    gather-made g n names o.head o.tail (h n o.head o.head_is (omega arith)) (gather-within f g bound h names o.tail o.tail_is (omega arith))
    ∙ ap Some o.all

-- fuel for each record met that is no security, and one more
pub walk-enough : (k : ℕ) (heap : Heap) (n : Named) (found : List Found) → walk k heap n ≡ Some found → walk (suc (load found)) heap n ≡ Some found
walk-enough zero heap n found e = absurd (walk-none heap n found e)
walk-enough (suc k) heap n found e =
    let m = walk-open k heap n found e in
    by m (walk-enough k heap) (is_security (kind_met n.kind m.content)) refl
  where
    by : (m : IsMet (walk k heap) heap n found) → ((x : Named) (ys : List Found) → walk k heap x ≡ Some ys → walk (suc (load ys)) heap x ≡ Some ys) →
        (b : Bool) → is_security (kind_met n.kind m.content) ≡ b → walk (suc (load found)) heap n ≡ Some found
    by m ih true s =
        let bare = security-bare (kind_met n.kind m.content) n.size m.content m.names s m.names_are in
        walk-made (load found) heap n found (record {
          content = m.content;
          names = m.names;
          below = m.below;
          here = m.here;
          names_are = m.names_are;
          below_is = ap (gather (walk (load found) heap)) bare ∙ (ap (gather (walk k heap)) (sym bare) ∙ m.below_is);
          all = m.all;
        })
    by m ih false s =
        let one : load found ≡ suc (load m.below) = ap load (sym m.all) ∙ ap (λ b. cond b 0 1 + load m.below) s ∙ omega arith in
        walk-made (load found) heap n found (record {
          content = m.content;
          names = m.names;
          below = m.below;
          here = m.here;
          names_are = m.names_are;
          below_is = gather-within (walk k heap) (walk (load found) heap) (load m.below)
              (λ x ys e l. walk-more (suc (load ys)) (load found) heap (omega arith) x ys (ih x ys e)) m.names m.below m.below_is (omega arith);
          all = m.all;
        })
