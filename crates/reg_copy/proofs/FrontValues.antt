-- The values of a key, copied one behind the other.
use Rattle.std.proofs.Common.{◌≡◌, ◌≢◌, ℕ, zero, suc, ◌+◌, ◌≤◌, Bool, cond, Option, Some, None, List, [], ◌∷◌, ◌++◌, length, take, refl, sym, ap, ◌∙◌, subst, arith, add-one}
use Rattle.std.specs.Prelude.{slice_get}
use Rattle.std.specs.FinMap.{get, insert}
use Rattle.std.specs.List.{AllByRecursion}
use Rattle.std.specs.Option.{option_map}
use Rattle.std.proofs.lemmas.List.{length-take-le, take_all}
use Rattle.reg_names.specs.Names.{folded}
use Rattle.reg_heap.specs.Paths.{Path, Tree, Rec, Member}
use Rattle.reg_heap.specs.Edits.{edited, with_value}
use Rattle.reg_heap.specs.Members.{index_named, values_with}
use Rattle.reg_heap.specs.Trees.{NamesDiffer}
use Rattle.reg_values.proofs.ValueListing.NamedValues.{with-new}
use Rattle.reg_tree.proofs.ValueChange.TreeAfterValueChange.{edited-at}
use Rattle.reg_diff.proofs.SameValues.{other-name}
use Rattle.reg_copy.specs.Internal.Copying.{front_copy}

one-value : (v m : Member) → ◌≡◌ {A = Option Member} (Some v) (Some m) → v ≡ m
one-value v m e = cc

-- what holds of all values holds of the one at an index
pub at-index : (P : Member → Type 0) (vs : List Member) (i : ℕ) (m : Member) → AllByRecursion P vs → slice_get vs i ≡ Some m → P m
at-index P [] i m a e = absurd cc
at-index P (v ∷ vs) zero m a e = subst P (one-value v m e) a.0
at-index P (v ∷ vs) (suc i) m a e = at-index P vs i m a.1 e

-- no value before one has its name
pub front-unnamed : (vs : List Member) (i : ℕ) (m : Member) → NamesDiffer vs → slice_get vs i ≡ Some m → index_named m.name (take i vs) ≡ None
front-unnamed [] i m d e = absurd cc
front-unnamed (v ∷ vs) zero m d e = refl
front-unnamed (v ∷ vs) (suc i) m d e =
    ap (λ (b : Bool). cond b (Some 0) (option_map suc (index_named m.name (take i vs))))
    (other-name v.name m.name (at-index (λ (w : Member). folded v.name ≢ folded w.name) vs i m d.0 e))
    ∙ ap (λ (o : Option ℕ). option_map suc o) (front-unnamed vs i m d.1 e)

take-suc : (vs : List Member) (i : ℕ) (m : Member) → slice_get vs i ≡ Some m → take (suc i) vs ≡ take i vs ++ m ∷ []
take-suc [] i m e = absurd cc
take-suc (v ∷ vs) zero m e = ap (λ (w : Member). w ∷ []) (one-value v m e)
take-suc (v ∷ vs) (suc i) m e = ap (λ (ws : List Member). v ∷ ws) (take-suc vs i m e)

take-next : (vs : List Member) (i : ℕ) (m : Member) → slice_get vs i ≡ Some m → take (i + 1) vs ≡ take i vs ++ m ∷ []
take-next vs i m e = ap (λ (n : ℕ). take n vs) (add-one i) ∙ take-suc vs i m e

-- a value put behind those before it
pub set-next : (tree : Tree) (q : Path) (r : Rec) (marks index moment : ℕ) (m : Member) → get tree q ≡ Some (front_copy marks index r) →
    NamesDiffer r.values → slice_get r.values index ≡ Some m → moment ≡ r.time →
    edited tree q (with_value m.name m.kind m.bytes moment) ≡ insert tree q (front_copy marks (index + 1) r)
set-next tree q r marks index moment m there differ e timed =
    edited-at tree q (front_copy marks index r) (with_value m.name m.kind m.bytes moment) there
    ∙ ap (insert tree q)
    (ap (λ (t : ℕ). record (front_copy marks index r) { time = t; values = values_with m.name m.kind m.bytes (take index r.values) }) timed
    ∙ ap (λ (vs : List Member). record r { marks = marks; values = vs })
    (with-new m.name m.kind m.bytes (take index r.values) (front-unnamed r.values index m differ e) ∙ sym (take-next r.values index m e)))

pub length-front : (vs : List Member) (index : ℕ) → index ≤ length vs → length (take index vs) ≡ index
length-front vs index l = length-take-le index vs l

-- all values are a front of themselves
pub whole-front : (marks count : ℕ) (r : Rec) → count ≡ length r.values → front_copy marks count r ≡ record r { marks = marks }
whole-front marks count r e =
    ap (λ (vs : List Member). record r { marks = marks; values = vs }) (take_all count r.values (let f = e in omega (arith, f)))
