-- What a key has as its own cells, and as its security.
use Rattle.std.proofs.Common.{◌≡◌, ℕ, ◌+◌, cond, eqb, List, [], ◌∷◌, ◌++◌, refl, ap, ◌∙◌, arith}
use Rattle.reg_heap.specs.Kinds.{Found, is_own, is_shared, owned, shared}
use Rattle.reg_heap.specs.Kinds.Kind.{Key, Security}
use Rattle.reg_records.specs.KeyNodes.{KeyRecord}
use Rattle.reg_shape.specs.Nodes.{Index, met_of}
use Rattle.reg_shape.specs.Internal.Shapes.{index_cells}
use Rattle.reg_shape.proofs.Wholeness.ShapeCounts.{tally-append}
use Rattle.reg_shape.proofs.Walking.InnerReadings.{AreInner}
use Rattle.reg_shape.proofs.Frame.KeyFrame.{inner-own}
use Rattle.reg_shape.proofs.Wholeness.ShapeRecords.{own-here}

-- ---- what a key has as its own, and as its security

pub own-parts : (z offset : ℕ) (key : KeyRecord) (class values : List Found) (index : Index) →
    owned z (met_of offset key class values ++ index_cells index) ≡ is_own z (record { kind = Key; offset = offset }) +
    ((owned z class + owned z values) + owned z (index_cells index))
own-parts z offset key class values index =
    let a = tally-append (is_own z) (met_of offset key class values) (index_cells index) in
    let b = tally-append (is_own z) class (record { kind = Security; offset = key.fields.security } ∷ values) in
    omega (arith, a, b)

pub shared-parts : (z offset : ℕ) (key : KeyRecord) (class values : List Found) (index : Index) →
    shared z (met_of offset key class values ++ index_cells index) ≡ shared z class +
    ((is_shared z (record { kind = Security; offset = key.fields.security }) + shared z values) + shared z (index_cells index))
shared-parts z offset key class values index =
    let a = tally-append (is_shared z) (met_of offset key class values) (index_cells index) in
    let b = tally-append (is_shared z) class (record { kind = Security; offset = key.fields.security } ∷ values) in
    omega (arith, a, b)

-- what is met inside a key is no security
pub inner-unshared : (z : ℕ) (found : List Found) → AreInner found → ◌≡◌ {A = ℕ} (shared z found) 0
inner-unshared z [] a = refl
inner-unshared z (f ∷ found) a =
    let none : ◌≡◌ {A = ℕ} (is_shared z f) 0 = ap (λ b. cond b (cond (eqb f.offset z) 1 0) 0) (inner-own f.kind a.0) in
    let rest = inner-unshared z found a.1 in
    omega (arith, none, rest)

-- a key's own cell is met at its offset, and at no other
pub key-here : (z offset : ℕ) → z ≡ offset → is_own z (record { kind = Key; offset = offset }) ≡ 1
key-here z offset e = ap (λ x. is_own x (record { kind = Key; offset = offset })) e ∙ own-here (record { kind = Key; offset = offset }) refl
