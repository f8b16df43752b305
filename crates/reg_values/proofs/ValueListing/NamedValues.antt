-- Values by their names: one taken out, replaced or added.
use Rattle.std.proofs.Common.{◌≡◌, ◌≢◌, ℕ, zero, suc, ◌+◌, Bool, true, false, cond, Option, Some, None, IsSome, List, [], ◌∷◌, ◌++◌, length, take, drop, refl, sym, ap, ◌∙◌, arith, add-one}
use Rattle.std.specs.List.{AllByRecursion}
use Rattle.std.specs.Option.{option_map}
use Rattle.std.specs.Ordering.{nat_cmp, is_eq}
use Rattle.std.specs.Cmp.Lexicographic.{slice_cmp, nat_list_cmp_total}
use Rattle.std.proofs.lemmas.Cmp.{tied_itself}
use Rattle.std.proofs.lemmas.Option.{none-some, same_Some}
use Rattle.std.proofs.lemmas.Bool.{false≢true}
use Rattle.reg_arena.proofs.Contents.CellWrites.{all-append}
use Rattle.reg_names.specs.Names.{folded}
use Rattle.reg_heap.specs.Paths.{Member}
use Rattle.reg_heap.specs.Members.{same_name, index_named, value_named, values_with, values_without}
use Rattle.reg_shape.specs.Written.{Pairwise}
use Rattle.reg_shape.proofs.Frame.ReadingFrame.{all-front, all-back}

-- what is decided by the first name and the rest
later-none : (p : Option ℕ) → ◌≡◌ {A = Option ℕ} (option_map suc p) None → p ≡ None
later-none None e = refl
later-none (Some k) e = absurd (none-some _ (sym e))

later-some : (i : ℕ) (p : Option ℕ) → option_map suc p ≡ Some (suc i) → p ≡ Some i
later-some i None e = absurd (none-some _ e)
later-some i (Some k) e = let n = same_Some _ _ e in ap (λ n. Some n) (omega (arith, n))

later-zero : (p : Option ℕ) → option_map suc p ≡ Some 0 → ⊥
later-zero None e = none-some _ e
later-zero (Some k) e = let n = same_Some _ _ e in omega (arith, n)

-- the values without the one of a name are those before its index and those behind it
pub without-index : (name : List ℕ) (members : List Member) (index : ℕ) → index_named name members ≡ Some index →
    values_without name members ≡ take index members ++ drop (index + 1) members
without-index name members index e = around members index e ∙ ap (λ n. take index members ++ drop n members) (sym (add-one index))
  where
    around : (members : List Member) (index : ℕ) → index_named name members ≡ Some index → values_without name members ≡ take index members ++ drop (suc index) members
    around [] index e = absurd (none-some _ e)
    around (v ∷ vs) zero e = by (same_name v.name name) e
      where
        by : (b : Bool) → cond b (Some 0) (option_map suc (index_named name vs)) ≡ Some 0 → cond b vs (v ∷ values_without name vs) ≡ vs
        by true e = refl
        by false e = absurd (later-zero _ e)
    around (v ∷ vs) (suc i) e = by (λ q. around vs i q) (same_name v.name name) e
      where
        by : (index_named name vs ≡ Some i → values_without name vs ≡ take i vs ++ drop (suc i) vs) → (b : Bool) →
            cond b (Some 0) (option_map suc (index_named name vs)) ≡ Some (suc i) → cond b vs (v ∷ values_without name vs) ≡ v ∷ (take i vs ++ drop (suc i) vs)
        by f true e = absurd (let n = same_Some _ _ e in omega (arith, n))
        by f false e = ap (λ ms. v ∷ ms) (f (later-some _ _ e))

-- the values before an index and those behind it
pub without-here : (front : List Member) (m : Member) (back : List Member) (index : ℕ) → length front ≡ index →
    take index (front ++ m ∷ back) ++ drop (index + 1) (front ++ m ∷ back) ≡ front ++ back
without-here front m back index e =
    ap (λ n. take index (front ++ m ∷ back) ++ drop n (front ++ m ∷ back)) (add-one index)
    ∙ (ap (λ n. take n (front ++ m ∷ back) ++ drop (suc n) (front ++ m ∷ back)) (sym e) ∙ by front)
  where
    by : (front : List Member) → take (length front) (front ++ m ∷ back) ++ drop (suc (length front)) (front ++ m ∷ back) ≡ front ++ back
    by [] = refl
    by (v ∷ front) = ap (λ ms. v ∷ ms) (by front)

abbrev pub changed : Member → ℕ → List ℕ → Member
changed m kind bytes = record { name = m.name; kind = kind; bytes = bytes }

pub with-at : (name : List ℕ) (kind : ℕ) (bytes : List ℕ) (front : List Member) (m : Member) (back : List Member) →
    index_named name (front ++ m ∷ back) ≡ Some (length front) → values_with name kind bytes (front ++ m ∷ back) ≡ front ++ changed m kind bytes ∷ back
with-at name kind bytes [] m back e = by (same_name m.name name) e
  where
    by : (b : Bool) → cond b (Some 0) (option_map suc (index_named name back)) ≡ Some 0 → cond b (changed m kind bytes ∷ back) (m ∷ values_with name kind bytes back) ≡ changed m kind bytes ∷ back
    by true e = refl
    by false e = absurd (later-zero _ e)
with-at name kind bytes (v ∷ front) m back e = by (λ q. with-at name kind bytes front m back q) (same_name v.name name) e
  where
    by : (index_named name (front ++ m ∷ back) ≡ Some (length front) →
        values_with name kind bytes (front ++ m ∷ back) ≡ front ++ changed m kind bytes ∷ back) → (b : Bool) →
        cond b (Some 0) (option_map suc (index_named name (front ++ m ∷ back))) ≡ Some (suc (length front))
        → cond b (changed v kind bytes ∷ (front ++ m ∷ back)) (v ∷ values_with name kind bytes (front ++ m ∷ back)) ≡ v ∷ (front ++ changed m kind bytes ∷ back)
    by f true e = absurd (let n = same_Some _ _ e in omega (arith, n))
    by f false e = ap (λ ms. v ∷ ms) (f (later-some _ _ e))

pub with-new : (name : List ℕ) (kind : ℕ) (bytes : List ℕ) (members : List Member) → index_named name members ≡ None →
    values_with name kind bytes members ≡ members ++ record { name = name; kind = kind; bytes = bytes } ∷ []
with-new name kind bytes [] e = refl
with-new name kind bytes (v ∷ vs) e = by (λ q. with-new name kind bytes vs q) (same_name v.name name) e
  where
    by : (index_named name vs ≡ None → values_with name kind bytes vs ≡ vs ++ record { name = name; kind = kind; bytes = bytes } ∷ []) → (b : Bool) →
        ◌≡◌ {A = Option ℕ} (cond b (Some 0) (option_map suc (index_named name vs))) None
        → cond b (changed v kind bytes ∷ vs) (v ∷ values_with name kind bytes vs) ≡ v ∷ (vs ++ record { name = name; kind = kind; bytes = bytes } ∷ [])
    by f true e = absurd (none-some _ (sym e))
    by f false e = ap (λ ms. v ∷ ms) (f (later-none _ e))

-- ---- names that differ

abbrev pub Apart : Member → Member → Type 0
Apart a b = folded a.name ≢ folded b.name

not-same : (a b : List ℕ) → same_name a b ≡ false → folded a ≢ folded b
not-same a b e q =
    let one : same_name a b ≡ true = ap (λ n. is_eq (slice_cmp nat_cmp n (folded b))) q ∙ ap is_eq (tied_itself nat_list_cmp_total (folded b)) in
    false≢true (sym e ∙ one)

pub new-apart : (name : List ℕ) (kind : ℕ) (bytes : List ℕ) (members : List Member) → index_named name members ≡ None →
    AllByRecursion (λ (m : Member). Apart m (record { name = name; kind = kind; bytes = bytes })) members
new-apart name kind bytes [] e = tt
new-apart name kind bytes (v ∷ vs) e = by (λ q. new-apart name kind bytes vs q) (same_name v.name name) refl e
  where
    by : (index_named name vs ≡ None → AllByRecursion (λ (m : Member). Apart m (record { name = name; kind = kind; bytes = bytes })) vs) →
        (b : Bool) → same_name v.name name ≡ b → ◌≡◌ {A = Option ℕ} (cond b (Some 0) (option_map suc (index_named name vs))) None →
        AllByRecursion (λ (m : Member). Apart m (record { name = name; kind = kind; bytes = bytes })) (v ∷ vs)
    by f true s e = absurd (none-some _ (sym e))
    by f false s e = (not-same v.name name s, f (later-none _ e))

pub pairs-push : (members : List Member) (m : Member) → Pairwise Apart members → AllByRecursion (λ (v : Member). Apart v m) members → Pairwise Apart (members ++ m ∷ [])
pairs-push [] m p a = (tt, tt)
pairs-push (v ∷ vs) m p a = (all-append (Apart v) vs (m ∷ []) p.0 (a.0, tt), pairs-push vs m p.1 a.1)

pub pairs-without : (front : List Member) (m : Member) (back : List Member) → Pairwise Apart (front ++ m ∷ back) → Pairwise Apart (front ++ back)
pairs-without [] m back p = p.1
pairs-without (v ∷ front) m back p =
    (all-append (Apart v) front back (all-front (Apart v) front (m ∷ back) p.0) (all-back (Apart v) front (m ∷ back) p.0).1, pairs-without front m back p.1)

pub pairs-changed : (front : List Member) (m : Member) (kind : ℕ) (bytes : List ℕ) (back : List Member) → Pairwise Apart (front ++ m ∷ back) → Pairwise Apart (front ++ changed m kind bytes ∷ back)
pairs-changed [] m kind bytes back p = p
pairs-changed (v ∷ front) m kind bytes back p =
    let b = all-back (Apart v) front (m ∷ back) p.0 in
    (all-append (Apart v) front (changed m kind bytes ∷ back) (all-front (Apart v) front (m ∷ back) p.0) (b.0, b.1), pairs-changed front m kind bytes back p.1)

-- ---- a value that is there has an index

pub named-index : (name : List ℕ) (members : List Member) → IsSome (value_named name members) → index_named name members ≡ None → ⊥
named-index name [] s e = false≢true s
named-index name (v ∷ vs) s e = by (λ s q. named-index name vs s q) (same_name v.name name) s e
  where
    by : (IsSome (value_named name vs) → index_named name vs ≡ None → ⊥) → (b : Bool) → IsSome (cond b (Some v) (value_named name vs)) →
        ◌≡◌ {A = Option ℕ} (cond b (Some 0) (option_map suc (index_named name vs))) None → ⊥
    by f true s e = none-some _ (sym e)
    by f false s e = f s (later-none _ e)
