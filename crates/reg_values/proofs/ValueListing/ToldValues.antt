-- Lists of values as they are told.
use Rattle.std.proofs.Common.{◌≡◌, ℕ, suc, Bool, true, false, cond, Option, Some, None, List, [], ◌∷◌, refl, ◌∙◌}
use Rattle.std.specs.List.{slice_get}
use Rattle.std.specs.Option.{option_map, option_and_then}
use Rattle.reg_heap.specs.Paths.{Member}
use Rattle.reg_heap.specs.Members.{same_name, value_named, index_named}

pub named-at : (name : List ℕ) (vs : List Member) → value_named name vs ≡ option_and_then (slice_get vs) (index_named name vs)
named-at name [] = refl
named-at name (v ∷ vs) = by (named-at name vs) (same_name v.name name)
  where
    later : (o : Option ℕ) → option_and_then (slice_get vs) o ≡ option_and_then (slice_get (v ∷ vs)) (option_map suc o)
    later None = refl
    later (Some i) = refl

    by : value_named name vs ≡ option_and_then (slice_get vs) (index_named name vs) → (b : Bool) →
        cond b (Some v) (value_named name vs) ≡ option_and_then (slice_get (v ∷ vs)) (cond b (Some 0) (option_map suc (index_named name vs)))
    by rest true = refl
    by rest false = rest ∙ later (index_named name vs)
