-- What was read of an input, part by part.
use Rattle.std.proofs.Common.{◌≡◌, ℕ, ◌<◌, List, [], ◌++◌, length, take, sym, ap, ◌∙◌, subst, append-nil}
use Rattle.std.specs.Prelude.{Option}
use Rattle.std.specs.Io.KnownBytes.{Consumes, IsAtEnd}
use Rattle.std.proofs.KnownBytes.{Consumes-nil, Consumes-trans}

-- nothing so far
pub read_none : (at : Option (List ℕ)) (bytes : List ℕ) → bytes ≡ [] → Consumes at at bytes
read_none at bytes none = subst (λ (w : List ℕ). Consumes at at w) (sym none) (Consumes-nil at)

-- one part more
pub read_more : (a b c : Option (List ℕ)) (bytes part new : List ℕ) → Consumes a b bytes → Consumes b c part → new ≡ bytes ++ part →
    Consumes a c new
read_more a b c bytes part new before read same = subst (λ (w : List ℕ). Consumes a c w) (sym same) (Consumes-trans a b c bytes part before read)

-- a part of no byte, which is the end
pub read_end : (a b c : Option (List ℕ)) (bytes part : List ℕ) (n : ℕ) → n ≡ 0 → 0 < length part → Consumes a b bytes →
    Consumes b c (take n part) × (n ≡ 0 → 0 < length part → IsAtEnd c) → IsAtEnd c × Consumes a c bytes
read_end a b c bytes part n none room before read = (
  read.1 none room,
  read_more a b c bytes (take n part) bytes before read.0
      (sym (ap (λ (k : ℕ). bytes ++ take k part) none ∙ append-nil bytes)),
)
