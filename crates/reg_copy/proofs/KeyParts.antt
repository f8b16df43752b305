-- The parts of a key that is built as another one.
use Rattle.std.proofs.Common.{◌≡◌, ℕ, zero, suc, ◌+◌, ◌<◌, ◌≤◌, true, None, Some, List, [], ◌∷◌, length, take, refl, sym, ap, ◌∙◌, subst, arith, Result, Ok, Err}
use Rattle.std.specs.Prelude.{slice_get, bit_and, IsErrAnd}
use Rattle.std.specs.FinMap.{get, insert}
use Rattle.reg_names.specs.Names.{is_key_name}
use Rattle.reg_heap.specs.declared.limits.TheConstants.{VALUES_LIMIT, DESCRIPTOR_LIMIT}
use Rattle.reg_heap.specs.Paths.{Path, Tree, Rec, Member}
use Rattle.reg_heap.specs.Edits.{child_path, edited, values_of, values_at, with_value}
use Rattle.reg_heap.specs.Members.{index_named}
use Rattle.reg_heap.specs.Trees.{NamesDiffer, IsSmallKey}
use Rattle.reg_copy.specs.declared.fault.CopyFault.{CopyFault}
use Rattle.reg_copy.specs.declared.fault.CopyFault.TheVariants.{Full, Memory}
use Rattle.reg_copy.specs.Internal.Copying.{front_copy}
use Rattle.reg_copy.proofs.FrontValues.{front-unnamed, set-next, length-front}

pub good-name : (name : List ℕ) (r : Rec) → name ≡ r.name → IsSmallKey r → is_key_name name ≡ true
good-name name r e small = subst (λ (n : List ℕ). is_key_name n ≡ true) (sym e) small.name

-- a key of the same name, class and descriptor is within the limits too, with marks that may be
pub small-copy : (r : Rec) → IsSmallKey r → (name class descriptor : List ℕ) (marks time : ℕ) → name ≡ r.name → class ≡ r.class →
    descriptor ≡ r.descriptor → bit_and marks 103 ≡ 0 →
    IsSmallKey (record { name = name; marks = marks; class = class; descriptor = descriptor; time = time; values = [] })
small-copy r small name class descriptor marks time n c d m =
    record {
      name = good-name name r n small;
      marks = m;
      class = subst (λ (x : List ℕ). length x < 65536) (sym c) small.class;
      described = subst (λ (x : List ℕ). 1 ≤ length x) (sym d) small.described;
      descriptor = subst (λ (x : List ℕ). length x ≤ DESCRIPTOR_LIMIT) (sym d) small.descriptor;
      few = omega arith;
      values = tt;
    }

-- what was inserted is the copy
pub built-is : (new tree : Tree) (q : Path) (r : Rec) (name class descriptor : List ℕ) (marks time : ℕ) → name ≡ r.name → class ≡ r.class →
    descriptor ≡ r.descriptor → time ≡ r.time →
    new ≡ insert tree (child_path q name)
    (record { name = name; marks = marks; class = class; descriptor = descriptor; time = time; values = [] }) →
    new ≡ insert tree (child_path q r.name) (front_copy marks 0 r)
built-is new tree q r name class descriptor marks time n c d t e =
    e
    ∙ (ap (λ (x : List ℕ). insert tree (child_path q x)
    (record { name = x; marks = marks; class = class; descriptor = descriptor; time = time; values = [] })) n
    ∙ (ap (λ (x : List ℕ). insert tree (child_path q r.name)
    (record { name = r.name; marks = marks; class = x; descriptor = descriptor; time = time; values = [] })) c
    ∙ (ap (λ (x : List ℕ). insert tree (child_path q r.name)
    (record { name = r.name; marks = marks; class = r.class; descriptor = x; time = time; values = [] })) d
    ∙ ap (λ (x : ℕ). insert tree (child_path q r.name)
    (record { name = r.name; marks = marks; class = r.class; descriptor = r.descriptor; time = x; values = [] })) t)))

-- ---- a value

pub slice-some : (vs : List Member) (i : ℕ) → i < length vs → (m : Member) × (slice_get vs i ≡ Some m)
slice-some [] i l = absurd (omega (arith, l))
slice-some (v ∷ vs) zero l = (v, refl)
slice-some (v ∷ vs) (suc i) l = slice-some vs i (omega (arith, l))

-- the value at an index of a key
pub next-member : (tree : Tree) (p q : Path) (r : Rec) (index : ℕ) → q ≡ p → get tree p ≡ Some r → index < length (values_at tree q) →
    (m : Member) × (slice_get r.values index ≡ Some m) × (slice_get (values_at tree p) index ≡ Some m) × (index < length r.values)
next-member tree p q r index same e less =
    let values : values_at tree p ≡ r.values = ap values_of e in
    let fewer : index < length r.values = subst (λ (vs : List Member). index < length vs) (ap (values_at tree) same ∙ values) less in
    let m = slice-some r.values index fewer in
    (m.0, m.1, subst (λ (vs : List Member). slice_get vs index ≡ Some m.0) (sym values) m.1, fewer)

module _ (tree : Tree) (q : Path) (r : Rec) (marks index : ℕ) (there : get tree q ≡ Some (front_copy marks index r)) (m : Member)
    (at : slice_get r.values index ≡ Some m) where
  front-values : values_at tree q ≡ take index r.values
  front-values = ap values_of there

  pub no-place : NamesDiffer r.values → (name : List ℕ) → name ≡ m.name → None ≡ index_named name (values_at tree q)
  no-place differ name e =
      sym (ap (λ (n : List ℕ). index_named n (values_at tree q)) e
      ∙ (ap (index_named m.name) front-values ∙ front-unnamed r.values index m differ at))

  pub some-room : index < length r.values → length r.values ≤ VALUES_LIMIT → length (values_at tree q) < VALUES_LIMIT
  some-room less few =
      let l = ap length front-values in
      let n = length-front r.values index (omega (arith, less)) in
      omega (arith, l, n, less, few)

  pub value-set : NamesDiffer r.values → (new : Tree) (name bytes : List ℕ) (kind moment : ℕ) →
      record { name = name; kind = kind; bytes = bytes } ≡ m → moment ≡ r.time → new ≡ edited tree q (with_value name kind bytes moment) →
      new ≡ insert tree q (front_copy marks (index + 1) r)
  value-set differ new name bytes kind moment e timed is =
      is
      ∙ (ap (λ (v : Member). edited tree q (with_value v.name v.kind v.bytes moment)) e
      ∙ set-next tree q r marks index moment m there differ at timed)

-- ---- faults

pub not-full : {A : Type 0} (result : Result A CopyFault) → IsErrAnd result (λ y. y ≡ Memory) → result ≡ Err Full → ⊥
not-full (Ok x) h e = absurd h
not-full (Err y) h e = let f : ◌≡◌ {A = CopyFault} y Full = cc in let g : ◌≡◌ {A = CopyFault} Memory Full = sym h ∙ f in absurd cc
