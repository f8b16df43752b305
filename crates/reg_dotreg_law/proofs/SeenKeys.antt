-- A tree's keys seen by their names and values, which is what entries tell: after a key is changed in its place, or one is made.
use Rattle.std.proofs.Common.{◌≡◌, ℕ, Bool, true, false, cond, is_some, unwrap_or, List, [], ◌∷◌, ◌++◌, map, Option, Some, None, IsSome}
use Rattle.std.proofs.Common.{refl, sym, ap, ◌∙◌, subst, append_assoc, append-nil}
use Rattle.std.specs.Ordering.{eq_by_cmp}
use Rattle.std.specs.FinMap.{get, insert, get-insert}
use Rattle.std.proofs.lemmas.Option.{same_Some}
use Rattle.reg_names.specs.Names.{folded}
use Rattle.reg_heap.specs.Paths.{Path, Tree, Rec, Member, path_cmp}
use Rattle.reg_heap.specs.Edits.{values_of, edited, at_time, with_key, with_keys, has_child, child_path, made_key, descriptor_of, if_last}
use Rattle.reg_heap.specs.Trees.{IsTree}
use Rattle.reg_heap.proofs.ChildrenOfPath.{path-is}
use Rattle.reg_model.proofs.HandleInvariant.{path_total}
use Rattle.reg_tree_text.specs.DumpTexts.{name_of}
use Rattle.reg_dotreg_writer.proofs.NamesOnWay.{front_there}

-- a name and values, where there is a key
abbrev pub Seen : Type 0
Seen = Option (List ℕ × List Member)

abbrev pub shown : Option Rec → Seen
shown None = None
shown (Some r) = Some (r.name, r.values)

-- what is seen of a tree's key at a path
abbrev pub seen : Tree → Path → Seen
seen t q = shown (get t q)

abbrev pub is_same : Path → Path → Bool
is_same q p = eq_by_cmp path_cmp q p

-- ---- what of a key is seen

pub found-of : (o : Option Rec) (name : List ℕ) (values : List Member) → shown o ≡ Some (name, values) →
    (r : Rec) × (o ≡ Some r) × (r.name ≡ name) × (r.values ≡ values)
found-of None name values e = absurd (cc)
found-of (Some r) name values e =
    let both : (r.name, r.values) ≡ (name, values) = same_Some _ _ e in
    (r, refl, ap (λ (p : List ℕ × List Member). p.0) both, ap (λ (p : List ℕ × List Member). p.1) both)

pub some-shown : (o : Option Rec) → is_some (shown o) ≡ is_some o
some-shown None = refl
some-shown (Some r) = refl

abbrev pub values_seen : Seen → List Member
values_seen None = []
values_seen (Some p) = p.1

abbrev pub name_seen : Seen → List ℕ
name_seen None = []
name_seen (Some p) = p.0

pub values-shown : (o : Option Rec) → values_of o ≡ values_seen (shown o)
values-shown None = refl
values-shown (Some r) = refl

pub name-shown : (o : Option Rec) → name_of o ≡ name_seen (shown o)
name-shown None = refl
name-shown (Some r) = refl

pub same-values : (a b : Option Rec) → shown a ≡ shown b → values_of a ≡ values_of b
same-values a b e = values-shown a ∙ (ap values_seen e ∙ sym (values-shown b))

pub same-name : (a b : Option Rec) → shown a ≡ shown b → name_of a ≡ name_of b
same-name a b e = name-shown a ∙ (ap name_seen e ∙ sym (name-shown b))

pub same-there : (a b : Option Rec) → shown a ≡ shown b → is_some a ≡ is_some b
same-there a b e = sym (some-shown a) ∙ (ap (λ (s : Seen). is_some s) e ∙ some-shown b)

-- ---- a key put or changed

shown-cond : (b : Bool) (r : Rec) (o : Option Rec) → shown (cond b (Some r) o) ≡ cond b (Some (r.name, r.values)) (shown o)
shown-cond true r o = refl
shown-cond false r o = refl

pub seen-insert : (t : Tree) (p : Path) (r : Rec) (q : Path) → seen (insert t p r) q ≡ cond (is_same q p) (Some (r.name, r.values)) (seen t q)
seen-insert t p r q = ap shown (get-insert path_total t p r q) ∙ shown-cond (is_same q p) r (get t q)

pub seen-edited : (t : Tree) (p : Path) (f : Rec → Rec) (r : Rec) (q : Path) → get t p ≡ Some r →
    seen (edited t p f) q ≡ cond (is_same q p) (Some ((f r).name, (f r).values)) (seen t q)
seen-edited t p f r q e = rw e (seen-insert t p (f r) q)

-- what is put where it stood already
put-again : (t : Tree) (p : Path) (r : Rec) (q : Path) → get t p ≡ Some r → (b : Bool) → is_same q p ≡ b →
    cond b (Some (r.name, r.values)) (seen t q) ≡ seen t q
put-again t p r q e true same = sym (ap shown (subst (λ (x : Path). get t x ≡ Some r) (sym (path-is q p same)) e))
put-again t p r q e false other = refl

pub seen-timed : (t : Tree) (p : Path) (moment : ℕ) (q : Path) → seen (edited t p (at_time moment)) q ≡ seen t q
seen-timed t p moment q = by (get t p) refl
  where
    by : (o : Option Rec) → get t p ≡ o → seen (edited t p (at_time moment)) q ≡ seen t q
    by None e = rw e refl
    by (Some r) e = seen-edited t p (at_time moment) r q e ∙ put-again t p r q e (is_same q p) refl

-- ---- a key made

pub seen-made : (t : Tree) (p : Path) (name : List ℕ) (moment : ℕ) (q : Path) →
    seen (with_key t p name None moment) q ≡ cond (is_same q (child_path p name)) (Some (name, [])) (seen t q)
seen-made t p name moment q =
    seen-insert (edited t p (at_time moment)) (child_path p name) (made_key name (unwrap_or None (descriptor_of (get t p))) moment) q
    ∙ ap (λ (s : Seen). cond (is_same q (child_path p name)) (Some (name, [])) s) (seen-timed t p moment q)

-- where all keys on the way are there, and the last isn't, only that one is made
pub one-made : (t : Tree) (p : Path) (names : List (List ℕ)) (name : List ℕ) (moment : ℕ) → IsTree t → IsSome (get t (p ++ map folded names)) →
    has_child t (p ++ map folded names) name ≡ false →
    with_keys t p (names ++ name ∷ []) None moment ≡ with_key t (p ++ map folded names) name None moment
one-made t p [] name moment i there none =
    let here : has_child t p name ≡ false = subst (λ (x : Path). has_child t x name ≡ false) (append-nil p) none in
    ap (λ (b : Bool). cond b t (with_key t p name None moment)) here
    ∙ ap (λ (x : Path). with_key t x name None moment) (sym (append-nil p))
one-made t p (n ∷ names) name moment i there none =
    let longer : child_path p n ++ map folded names ≡ p ++ folded n ∷ map folded names = append_assoc p (folded n ∷ []) (map folded names) in
    let next : IsSome (get t (child_path p n ++ map folded names)) = subst (λ (x : Path). IsSome (get t x)) (sym longer) there in
    let has : has_child t p n ≡ true = front_there t i (child_path p n) (map folded names) next in
    ap (λ (b : Bool). with_keys (cond b t (with_key t p n (if_last (names ++ name ∷ []) None) moment)) (child_path p n)
    (names ++ name ∷ []) None moment) has
    ∙ (one-made t (child_path p n) names name moment i next (subst (λ (x : Path). has_child t x name ≡ false) (sym longer) none)
    ∙ ap (λ (x : Path). with_key t x name None moment) longer)
