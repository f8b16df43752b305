-- The walk over the ring of the securities that keys use, from the first of them on.
use Rattle.std.specs.Prelude.{◌≡◌, ◌≢◌, ◌↔◌, ◌<◌, ◌||◌, ℕ, zero, suc, Bool, true, false, Option, Some, None, bytes_eq, List, [], ◌∷◌, ◌++◌}
use Rattle.std.specs.List.{AllByRecursion}
use Rattle.reg_heap.specs.Heaps.{Heap}
use Rattle.reg_heap.specs.Kinds.{times}
use Rattle.reg_shape.specs.Whole.{count_at, flink_at, blink_at, descriptor_at}
use Rattle.reg_shape.specs.Written.{Pairwise, IsWrittenSecurity}

-- how often something is used, if it is
abbrev pub if_used : ℕ → Option ℕ
if_used zero = None
if_used (suc n) = Some (suc n)

-- how often something is used, if it is and wasn't met
abbrev pub if_left : ℕ → ℕ → Option ℕ
if_left zero uses = if_used uses
if_left (suc met) uses = None

-- for each offset how often it is used, if it is
abbrev pub AreUses : (ℕ → Option ℕ) → List ℕ → Type 0
AreUses counts used = (offset : ℕ) → counts offset ≡ if_used (times offset used)

-- a security leads back to the one before it, and on to the next
pub record IsBetween (heap : Heap) (offset before next : ℕ) : Type 0 where
  pub back : blink_at heap offset ≡ Some before
  pub on : flink_at heap offset ≡ Some next

-- the way from a security on, which comes behind another one, leads through these securities, of which the last is given, too, and
-- then to the one that is given behind it
abbrev pub Goes : Heap → ℕ → ℕ → List ℕ → ℕ → ℕ → Type 0
Goes heap before at [] last next = (before ≡ last) × (at ≡ next)
Goes heap before at (offset ∷ rest) last next = (on : ℕ) × (at ≡ offset) × IsBetween heap offset before on × Goes heap offset on rest last next

-- a ring of just the securities that are used, from the first on, with what is to be known of each of them
pub record IsRound (heap : Heap) (used : List ℕ) (first last : ℕ) (ring : List ℕ) : Type 0 where
  pub goes : Goes heap last first ring last first
  pub once : (offset : ℕ) → times offset ring < 2
  pub members : (offset : ℕ) → (0 < times offset used) ↔ (0 < times offset ring)
  pub counts : (offset : ℕ) → 0 < times offset ring → count_at heap offset ≡ Some (times offset used)
  pub written : (offset : ℕ) → 0 < times offset ring → IsWrittenSecurity heap offset
  pub apart : (one other : ℕ) → 0 < times one ring → 0 < times other ring → one ≢ other → descriptor_at heap one ≢ descriptor_at heap other

-- the way that was gone is the front of such a ring, and the rest of that leads back to the first
pub record IsFront (heap : Heap) (first last : ℕ) (whole ring : List ℕ) (before at : ℕ) : Type 0 where
  pub rest : List ℕ
  pub is : whole ≡ ring ++ rest
  pub goes : Goes heap before at rest last first

-- just the descriptors of these securities were met
pub record AreMet (heap : Heap) (ring : List ℕ) (met : List ℕ → Bool) : Type 0 where
  pub found : (descriptor : List ℕ) → met descriptor ≡ true → (offset : ℕ) × (0 < times offset ring) × (descriptor_at heap offset ≡ Some descriptor)
  pub noted : (descriptor : List ℕ) (offset : ℕ) → 0 < times offset ring → descriptor_at heap offset ≡ Some descriptor → met descriptor ≡ true

-- how far a walk has come: the securities that were gone through, how often each other one is used, the descriptors that were met,
-- and the last that was gone through, and the next
pub record Way : Type 0 where
  pub ring : List ℕ
  pub left : ℕ → Option ℕ
  pub met : List ℕ → Bool
  pub before : ℕ
  pub at : ℕ

-- so far a walk has come from the first security on, which names another one as the last, and each such ring begins so
pub record IsWay (heap : Heap) (used : List ℕ) (first last : ℕ) (way : Way) : Type 0 where
  pub goes : Goes heap last first way.ring way.before way.at
  pub closes : blink_at heap first ≡ Some last
  pub left : (offset : ℕ) → way.left offset ≡ if_left (times offset way.ring) (times offset used)
  pub among : (offset : ℕ) → 0 < times offset way.ring → 0 < times offset used
  pub counts : AllByRecursion (λ offset. count_at heap offset ≡ Some (times offset used)) way.ring
  pub written : AllByRecursion (IsWrittenSecurity heap) way.ring
  pub apart : Pairwise (λ a b. descriptor_at heap a ≢ descriptor_at heap b) way.ring
  pub met : AreMet heap way.ring way.met
  pub exact : (whole : List ℕ) → IsRound heap used first last whole → IsFront heap first last whole way.ring way.before way.at

-- a security leads back to another one, is used so often, and is as it is written
pub record IsStanding (heap : Heap) (offset before count : ℕ) : Type 0 where
  pub back : blink_at heap offset ≡ Some before
  pub counts : count_at heap offset ≡ Some count
  pub written : IsWrittenSecurity heap offset

-- a security is one that the ring goes on with, behind another one, where these descriptors were met and it is used so often
pub record IsFit (heap : Heap) (offset before count : ℕ) (met : List ℕ → Bool) : Type 0 where
  pub standing : IsStanding heap offset before count
  pub new : (descriptor : List ℕ) → descriptor_at heap offset ≡ Some descriptor → met descriptor ≡ false

-- the next security is one to go on with, and was gone through
pub record IsNext (heap : Heap) (count : ℕ) (old new : Way) : Type 0 where
  pub fit : IsFit heap old.at old.before count old.met
  pub ring : new.ring ≡ old.ring ++ old.at ∷ []
  pub before : new.before ≡ old.at
  pub on : flink_at heap old.at ≡ Some new.at
  pub met : (descriptor : List ℕ) → descriptor_at heap old.at ≡ Some descriptor →
      (other : List ℕ) → new.met other ≡ (old.met other || bytes_eq descriptor other)
  pub left : (offset : ℕ) → new.left offset ≡ old.left offset
