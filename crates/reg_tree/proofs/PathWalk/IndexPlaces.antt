-- The place of an index among the entries of all lists.
use Rattle.std.proofs.Common.{◌≡◌, ℕ, suc, ◌-◌, ◌<◌, inl, inr, List, [], ◌∷◌, length, take, arith, length-append}
use Rattle.std.proofs.lemmas.Bool.{cases_lt}
use Rattle.reg_shape.specs.Nodes.{KeyList}
use Rattle.reg_index.specs.declared.Place.{Place}
use Rattle.reg_index.specs.Subkeys.{entries_in, flat_among, numbered}

pub record HasPlace (lists : List KeyList) (index : ℕ) : Type 0 where
  pub place : Place
  pub list : place.list < length lists
  pub within : place.index < length (numbered place.list lists).list.entries
  pub flat : flat_among lists place ≡ index

pub place_for : (lists : List KeyList) (index : ℕ) → index < length (entries_in lists) → HasPlace lists index
place_for [] index l = absurd (omega arith)
place_for (x ∷ xs) index l = elim (cases_lt index (length x.list.entries)) [
  | inl a ↦ record { place = record { list = 0; index = index }; list = omega arith; within = a; flat = omega arith }
  | inr b ↦
      let n = length-append x.list.entries (entries_in xs) in
      let r = place_for xs (index - length x.list.entries) (omega (arith, l, n, b)) in
      let m = length-append x.list.entries (entries_in (take r.place.list xs)) in
      let s = r.list in
      let f = r.flat in
      record { place = record { list = suc r.place.list; index = r.place.index }; list = omega (arith, s); within = r.within; flat = omega (arith, f, m, b) }
]
