-- Steps that met no fault, taken apart, and what they named.
use Rattle.std.proofs.Common.{◌≡◌, ℕ, ◌+◌, ◌==◌, ◌&&◌, ◌||◌, eqb, cond, arith, Bool, true, false, Option, Some, None, Result, Ok, Err, List, [], ◌∷◌, ◌++◌, append_assoc, refl, sym, ap, ◌∙◌, subst}
use Rattle.std.specs.Prelude.{IsSome, is_some}
use Rattle.std.specs.List.{AllByRecursion}
use Rattle.std.proofs.lemmas.Bool.{eqb-true}
use Rattle.std.proofs.lemmas.List.{append-nil}
use Rattle.reg_heap.specs.Heaps.{Heap}
use Rattle.reg_heap.specs.Kinds.{Kind, Found, is_security, is_own, is_shared, owned, shared}
use Rattle.reg_heap.specs.Kinds.Kind.{Key, Class, SubList, Leaf, ValueList, Value, Data, BigHead, BigList, Segment, Security}
use Rattle.reg_records.specs.BigData.{Named}
use Rattle.reg_records.specs.declared.RecordFault.{RecordFault}
use Rattle.reg_shape.specs.Walk.{kind_met, names_of}
use Rattle.reg_shape.specs.Whole.{AreApart}
use Rattle.reg_shape.specs.Written.{Pairwise}
use Rattle.reg_shape.proofs.Walking.WalkParts.{Walks, walks-none, walks-join, walks-met}
use Rattle.reg_shape.proofs.Wholeness.FewerNumbers.{same-number}
use Rattle.reg_tree_image.specs.declared.LoadFault.{LoadFault}
use Rattle.reg_tree_image.specs.declared.LoadFault.TheVariants.{Record, Loop, Twice}
use Rattle.reg_tree_image.specs.WalkSteps.{Seen, Step, ◌>>=◌, ◌>>◌, onward, give, check, given, note, not_named, cell, is_new, is_absent}
use Rattle.reg_tree_image.specs.LoadingWalk.{read}

pub ok_is : {A E : Type 0} (x y : A) → ◌≡◌ {A = Result A E} (Ok x) (Ok y) → x ≡ y
ok_is x y e = cc

-- two steps, of which the second asks for what the first gives
pub record IsOpened {A B : Type 0} (s : Step A) (f : A → Step B) (seen : Seen) (y : B) (after : Seen) : Type 0 where
  pub first : A
  pub mid : Seen
  pub first_is : s seen ≡ Ok (first, mid)
  pub then_is : f first mid ≡ Ok (y, after)

pub bind-back : {A B : Type 0} (s : Step A) (f : A → Step B) (seen : Seen) (y : B) (after : Seen) → (s >>= f) seen ≡ Ok (y, after) → IsOpened s f seen y after
bind-back {A} s f seen y after e = by (s seen) refl e
  where
    by : (r : Result (A × Seen) LoadFault) → s seen ≡ r → onward f r ≡ Ok (y, after) → IsOpened s f seen y after
    by (Ok p) q e = record { first = p.0; mid = p.1; first_is = q; then_is = e }
    by (Err fault) q e = absurd (cc)

pub check-back : {A : Type 0} (fault : LoadFault) (test : Bool) (t : Step A) (seen : Seen) (y : A) (after : Seen) → (check fault test >> t) seen ≡ Ok (y, after) →
    (test ≡ true) × (t seen ≡ Ok (y, after))
check-back fault true t seen y after e = (refl, e)
check-back fault false t seen y after e = absurd (cc)

pub given-back : {A B : Type 0} (fault : LoadFault) (o : Option A) (f : A → Step B) (seen : Seen) (y : B) (after : Seen) → (given fault o >>= f) seen ≡ Ok (y, after) →
    (x : A) × (o ≡ Some x) × (f x seen ≡ Ok (y, after))
given-back fault None f seen y after e = absurd (cc)
given-back fault (Some x) f seen y after e = (x, refl, e)

pub read-back : {R B : Type 0} (r : Result R RecordFault) (f : R → Step B) (seen : Seen) (y : B) (after : Seen) → (read r >>= f) seen ≡ Ok (y, after) →
    (x : R) × (r ≡ Ok x) × (f x seen ≡ Ok (y, after))
read-back (Ok x) f seen y after e = (x, refl, e)
read-back (Err fault) f seen y after e = absurd (cc)

-- what gives without a step
pub give-back : {A : Type 0} (x : A) (seen : Seen) (y : A) (after : Seen) → give x seen ≡ Ok (y, after) → (x ≡ y) × (seen ≡ after)
give-back {A} x seen y after e =
    let p = ok_is (x, seen) (y, after) e in
    (ap (λ (q : A × Seen). q.0) p, ap (λ (q : A × Seen). q.1) p)

pub last-back : {A : Type 0} (fault : LoadFault) (o : Option A) (seen : Seen) (y : A) (after : Seen) → given fault o seen ≡ Ok (y, after) → (o ≡ Some y) × (seen ≡ after)
last-back fault None seen y after e = absurd (cc)
last-back fault (Some x) seen y after e = let g = give-back x seen y after e in (ap Some g.0, g.1)

-- a cell that was named
pub record IsNamed (heap : Heap) (kind : List ℕ → Kind) (offset : ℕ) (seen : Seen) (content : List ℕ) (after : Seen) : Type 0 where
  pub here : heap offset ≡ Some content
  pub is_fresh : is_new (kind content) offset seen.found ≡ true
  pub found : after.found ≡ seen.found ++ record { kind = kind content; offset = offset } ∷ []

pub cell-back : (heap : Heap) (path : List ℕ) (kind : List ℕ → Kind) (offset : ℕ) (seen : Seen) (content : List ℕ) (after : Seen) →
    cell heap path kind offset seen ≡ Ok (content, after) → IsNamed heap kind offset seen content after
cell-back heap path kind offset seen content after e =
    let at : List ℕ → Found = λ held. record { kind = kind held; offset = offset } in
    let o = given-back Record (heap offset) (λ held. check Loop (is_absent offset path) >> (not_named (kind held) offset >> (note (at held) >> give held))) seen content after e in
    let l = check-back Loop (is_absent offset path) (not_named (kind o.0) offset >> (note (at o.0) >> give o.0)) seen content after o.2 in
    let n = check-back Twice (is_new (kind o.0) offset seen.found) (note (at o.0) >> give o.0) seen content after l.1 in
    let g = give-back o.0 (record seen { found = seen.found ++ at o.0 ∷ [] }) content after n.1 in
    record {
      here = o.1 ∙ ap Some g.0;
      is_fresh = sym (ap (λ (held : List ℕ). is_new (kind held) offset seen.found) g.0) ∙ n.0;
      found = sym (ap (λ (s : Seen). s.found) g.1) ∙ ap (λ (held : List ℕ). seen.found ++ record { kind = kind held; offset = offset } ∷ []) g.0;
    }

-- ---- what was named

-- one more that is apart from all before it
pair-more : (xs : List Found) (x : Found) → Pairwise AreApart xs → AllByRecursion (λ (y : Found). AreApart y x) xs → Pairwise AreApart (xs ++ x ∷ [])
pair-more [] x p a = (tt, tt)
pair-more (y ∷ xs) x p a = (all-more xs y x p.0 a.0, pair-more xs x p.1 a.1)
  where
    all-more : (zs : List Found) (w z : Found) → AllByRecursion (AreApart w) zs → AreApart w z → AllByRecursion (AreApart w) (zs ++ z ∷ [])
    all-more [] w z all one = (one, tt)
    all-more (v ∷ zs) w z all one = (all.0, all-more zs w z all.1 one)

security-is : (kind : Kind) → is_security kind ≡ true → kind ≡ Security
security-is Security e = refl
security-is Key e = absurd (cc)
security-is Class e = absurd (cc)
security-is SubList e = absurd (cc)
security-is Leaf e = absurd (cc)
security-is ValueList e = absurd (cc)
security-is Value e = absurd (cc)
security-is Data e = absurd (cc)
security-is BigHead e = absurd (cc)
security-is BigList e = absurd (cc)
security-is Segment e = absurd (cc)

both-true : (a b : Bool) → (a && b) ≡ true → (a ≡ true) × (b ≡ true)
both-true true true e = (refl, refl)
both-true true false e = absurd (cc)
both-true false b e = absurd (cc)

-- what wasn't named before is apart from all that was
fresh-apart : (kind : Kind) (offset : ℕ) (found : List Found) → is_new kind offset found ≡ true → AllByRecursion (λ (y : Found). AreApart y (record { kind = kind; offset = offset })) found
fresh-apart kind offset found new = each found (eqb-true _ _ (both-true (owned offset found == 0) _ new).0) (both-true (owned offset found == 0) _ new).1
  where
    one : (f : Found) (own share : ℕ) → is_own offset f + own ≡ 0 → (is_security kind || (is_shared offset f + share == 0)) ≡ true → f.offset ≡ offset →
        (f.kind ≡ Security) × (kind ≡ Security)
    one f own share none some at = by (is_security f.kind) refl (is_security kind) refl
      where
        by : (a : Bool) → is_security f.kind ≡ a → (b : Bool) → is_security kind ≡ b → (f.kind ≡ Security) × (kind ≡ Security)
        by true a true b = (security-is f.kind a, security-is kind b)
        by true a false b =
            let it : ◌≡◌ {A = ℕ} (is_shared offset f) 1 = ap (λ (t : Bool). cond t (cond (eqb f.offset offset) 1 0) 0) a ∙ (ap (λ (n : ℕ). cond (eqb n offset) 1 0) at ∙ ap (λ (t : Bool). cond t 1 0) (same-number offset)) in
            let zero : is_shared offset f + share ≡ 0 = eqb-true _ _ (sym (ap (λ (t : Bool). t || (is_shared offset f + share == 0)) b) ∙ some) in
            absurd (omega (arith, it, zero))
        by false a b c =
            let it : ◌≡◌ {A = ℕ} (is_own offset f) 1 = ap (λ (t : Bool). cond t 0 (cond (eqb f.offset offset) 1 0)) a ∙ (ap (λ (n : ℕ). cond (eqb n offset) 1 0) at ∙ ap (λ (t : Bool). cond t 1 0) (same-number offset)) in
            absurd (omega (arith, it, none))

    weaker : (f : Found) (share : ℕ) → (is_security kind || (is_shared offset f + share == 0)) ≡ true → (is_security kind || (share == 0)) ≡ true
    weaker f share some = by (is_security kind) some
      where
        by : (b : Bool) → (b || (is_shared offset f + share == 0)) ≡ true → (b || (share == 0)) ≡ true
        by true e = refl
        by false e = let zero : is_shared offset f + share ≡ 0 = eqb-true _ _ e in ap (λ (n : ℕ). n == 0) (let z : share ≡ 0 = omega (arith, zero) in z)

    each : (fs : List Found) → owned offset fs ≡ 0 → (is_security kind || (shared offset fs == 0)) ≡ true →
        AllByRecursion (λ (y : Found). AreApart y (record { kind = kind; offset = offset })) fs
    each [] none some = tt
    each (f ∷ fs) none some =
        ((λ at. one f (owned offset fs) (shared offset fs) none some at), each fs (omega (arith, none)) (weaker f (shared offset fs) some))

pub all-both : {A : Type 0} (P : A → Type 0) (xs ys : List A) → AllByRecursion P xs → AllByRecursion P ys → AllByRecursion P (xs ++ ys)
all-both P [] ys a b = b
all-both P (x ∷ xs) ys a b = (a.0, all-both P xs ys a.1 b)

-- what was seen grew by what these names walk to: cells that are there, and apart from what was found before
pub record Went (heap : Heap) (names : List Named) (before after : Seen) : Type 0 where
  pub met : List Found
  pub walks : Walks heap names met
  pub found : after.found ≡ before.found ++ met
  pub there : AllByRecursion (λ (f : Found). IsSome (heap f.offset)) met
  pub apart : Pairwise AreApart before.found → Pairwise AreApart after.found

module _ (heap : Heap) where
  pub went-none : (a b : Seen) → b.found ≡ a.found → Went heap [] a b
  went-none a b same = record {
    met = [];
    walks = walks-none heap;
    found = same ∙ sym (append-nil a.found);
    there = tt;
    apart = λ p. subst (λ (zs : List Found). Pairwise AreApart zs) (sym same) p;
  }

  pub went-join : (xs us : List Named) (a b c : Seen) → Went heap xs a b → Went heap us b c → Went heap (xs ++ us) a c
  went-join xs us a b c p q = record {
    met = p.met ++ q.met;
    walks = walks-join heap xs us p.met q.met p.walks q.walks;
    found = q.found ∙ (ap (λ (zs : List Found). zs ++ q.met) p.found ∙ append_assoc a.found p.met q.met);
    there = all-both (λ (f : Found). IsSome (heap f.offset)) p.met q.met p.there q.there;
    apart = λ x. q.apart (p.apart x);
  }

  -- a record that was named, and behind it what it names
  pub went-met : (n : Named) (content : List ℕ) (names : List Named) (a b c : Seen) → IsNamed heap (λ held. kind_met n.kind held) n.offset a content b →
      names_of (kind_met n.kind content) n.size content ≡ Some names → Went heap names b c → Went heap (n ∷ []) a c
  went-met n content names a b c it are w =
      let one : Found = record { kind = kind_met n.kind content; offset = n.offset } in
      record {
        met = one ∷ w.met;
        walks = walks-met heap n content names w.met it.here are w.walks;
        found = w.found ∙ (ap (λ (zs : List Found). zs ++ w.met) it.found ∙ append_assoc a.found (one ∷ []) w.met);
        there = (ap (λ (o : Option (List ℕ)). is_some o) it.here, w.there);
        apart = λ p. w.apart (subst (λ (zs : List Found). Pairwise AreApart zs) (sym it.found)
            (pair-more a.found one p (fresh-apart (kind_met n.kind content) n.offset a.found it.is_fresh)));
      }

  -- what follows changed nothing that was found
  pub went-on : (names : List Named) (a b c : Seen) → Went heap names a b → c.found ≡ b.found → Went heap names a c
  went-on names a b c w same = record {
    met = w.met;
    walks = w.walks;
    found = same ∙ w.found;
    there = w.there;
    apart = λ p. subst (λ (zs : List Found). Pairwise AreApart zs) (sym same) (w.apart p);
  }
