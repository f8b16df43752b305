-- Which rows a removed key ends.
use Rattle.std.proofs.Common.{◌≡◌, ℕ, ◌<◌, Bool, true, false, ◌||◌, List, [], ◌∷◌, ◌++◌, length, drop, Vec, refl, sym, ap, ◌∙◌, subst, arith}
use Rattle.std.specs.Prelude.{vec_len}
use Rattle.std.specs.Cmp.{both_ways}
use Rattle.std.specs.List.{AllByRecursion}
use Rattle.std.specs.Int.Bits.{mask_lt}
use Rattle.std.proofs.lemmas.Bool.{or_left, or_right}
use Rattle.std.proofs.lemmas.List.{append-nil}
use Rattle.reg_heap.specs.Paths.{Path}
use Rattle.reg_heap.specs.Edits.{is_within, is_under}
use Rattle.reg_heap.proofs.ChildrenOfPath.{path-is}
use Rattle.reg_heap.proofs.DeletedTrees.{within-rest, within-self, under-parts, under-append}
use Rattle.reg_model.specs.Worlds.{same_path}
use Rattle.reg_model.specs.declared.notice.Reason.TheVariants.{Matched, Gone}
use Rattle.reg_model.proofs.HandleInvariant.{same-self}
use Rattle.reg_notify.specs.declared.table.Row.{Row}
use Rattle.reg_notify.specs.declared.table.Table.{Table}
use Rattle.reg_notify.specs.declared.asked.Event.{Event}
use Rattle.reg_model.specs.Internal.TextNumbers.{goes_on}
use Rattle.reg_notify.specs.Internal.Keys.{lead_of, IsClean, class_of}
use Rattle.reg_notify.specs.Internal.Rows.{IsRow, place_of}
use Rattle.reg_notify.specs.Internal.Hits.{is_event_hit, any_event}
use Rattle.reg_notify.specs.Internal.Firing.{if_passes}
use Rattle.reg_notify.specs.Internal.States.{IsReady, Ends}
use Rattle.reg_notify.proofs.KeyTexts.{at-place, below-place}
use Rattle.reg_notify.proofs.EndsSteps.{each, ends-or, ends-test}
use Rattle.reg_notify.proofs.TableSteps.{all-at}

pub rows-fit : (P : ℕ × Row → Type 0) (t : Table) → IsReady t → ((n : ℕ) (r : Row) → IsRow n r → P (n, r)) → AllByRecursion P t.rows.entries
rows-fit P t ready f = let table = ready.table in all-at P t.rows.entries table.rising (λ n r found. f n r (table.fits n r found))

-- there are 32 classes
pub class-small : (filter : ℕ) (subtree : Bool) → class_of filter subtree < 32
class-small filter true = let l = mask_lt filter 4 in omega (arith, l)
class-small filter false = let l = mask_lt filter 4 in omega (arith, l)

empty : (xs : List ℕ) → length xs ≡ 0 → xs ≡ []
empty [] e = refl
empty (x ∷ xs) e = absurd (omega (arith, e))

pub none-left : {Y : Type 0} (v : Vec ℕ Y) → vec_len v ≡ 0 → v.items ≡ []
none-left v e = let ok = v.ok in empty v.items (sym ok.0 ∙ e)

empty-events : (xs : List Event) → length xs ≡ 0 → xs ≡ []
empty-events [] e = refl
empty-events (x ∷ xs) e = absurd (omega (arith, e))

pub no-events : {Y : Type 0} (v : Vec Event Y) → vec_len v ≡ 0 → v.items ≡ []
no-events v e = let ok = v.ok in empty-events v.items (sym ok.0 ∙ e)

-- ---- removed keys

pub gone-there : (p : Path) (by : ℕ) (text : List ℕ) (t t' : Table) → IsReady t → IsClean p → text ≡ lead_of p →
    Ends by (if_passes (λ (e : ℕ × Row). goes_on (text ++ 0 ∷ []) (place_of e.0 e.1)) Gone) t t' → Ends by
    (if_passes (λ (e : ℕ × Row). same_path e.1.place p) Gone) t t'
gone-there p by text t t' ready clean is x =
    ends-test by (λ (e : ℕ × Row). goes_on (text ++ 0 ∷ []) (place_of e.0 e.1)) (λ (e : ℕ × Row). same_path e.1.place p) Gone t t' (rows-fit _ t ready one) x
  where
    one : (n : ℕ) (r : Row) → IsRow n r → goes_on (text ++ 0 ∷ []) (place_of n r) ≡ same_path r.place p
    one n r fit = ap (λ (s : List ℕ). goes_on (s ++ 0 ∷ []) (place_of n r)) is ∙ at-place p r.place
        (class_of r.filter r.subtree) n clean fit.clean

pub gone-below : (p : Path) (by : ℕ) (text : List ℕ) (t t' : Table) → IsReady t → IsClean p → text ≡ lead_of p →
    Ends by (if_passes (λ (e : ℕ × Row). goes_on (text ++ 92 ∷ []) (place_of e.0 e.1)) Gone) t t' → Ends by
    (if_passes (λ (e : ℕ × Row). is_under p e.1.place) Gone) t t'
gone-below p by text t t' ready clean is x =
    ends-test by (λ (e : ℕ × Row). goes_on (text ++ 92 ∷ []) (place_of e.0 e.1)) (λ (e : ℕ × Row). is_under p e.1.place) Gone t t' (rows-fit _ t ready one) x
  where
    one : (n : ℕ) (r : Row) → IsRow n r → goes_on (text ++ 92 ∷ []) (place_of n r) ≡ is_under p r.place
    one n r fit = ap (λ (s : List ℕ). goes_on (s ++ 92 ∷ []) (place_of n r)) is ∙ below-place p r.place
        (class_of r.filter r.subtree) n clean fit.clean

behind : (p rest : Path) → (same_path (p ++ rest) p || is_under p (p ++ rest)) ≡ true
behind p [] = or_left _ _ (subst (λ (x : Path). same_path x p ≡ true) (sym (append-nil p)) (same-self p))
behind p (name ∷ names) = or_right _ _ (under-append p name names)

-- a path is at or below another where it is the same or below
pub within-parts : (p q : Path) → (same_path q p || is_under p q) ≡ is_within p q
within-parts p q = both_ways _ _ (λ is. to is (same_path q p) refl) from
  where
    from : is_within p q ≡ true → (same_path q p || is_under p q) ≡ true
    from is = subst (λ (x : Path). (same_path x p || is_under p x) ≡ true) (sym (within-rest p q is)) (behind p (drop (length p) q))

    to : (same_path q p || is_under p q) ≡ true → (b : Bool) → same_path q p ≡ b → is_within p q ≡ true
    to is true same = subst (λ (x : Path). is_within p x ≡ true) (sym (path-is q p same)) (within-self p)
    to is false other = (under-parts p q (sym (ap (λ (b : Bool). b || is_under p q) other) ∙ is)).0

pub gone-within : (p : Path) (by : ℕ) (t t' t'' : Table) → Ends by (if_passes (λ (e : ℕ × Row). same_path e.1.place p) Gone) t t' →
    Ends by (if_passes (λ (e : ℕ × Row). is_under p e.1.place) Gone) t' t'' → Ends by (if_passes (λ (e : ℕ × Row). is_within p e.1.place) Gone) t t''
gone-within p by t t' t'' x y =
    ends-test by (λ (e : ℕ × Row). same_path e.1.place p || is_under p e.1.place) (λ (e : ℕ × Row). is_within p e.1.place) Gone t t''
    (each _ (λ e. within-parts p e.1.place) t.rows.entries)
    (ends-or by (λ (e : ℕ × Row). same_path e.1.place p) (λ (e : ℕ × Row). is_under p e.1.place) Gone t t' t'' x y)

-- ---- one event more, from the last

swap-or : (a b : Bool) → (a || b) ≡ (b || a)
swap-or true true = refl
swap-or true false = refl
swap-or false true = refl
swap-or false false = refl

pub one-event : (by : ℕ) (x : Event) (done : List Event) (t t' t'' : Table) → Ends by (if_passes (any_event done) Matched) t t' → Ends by
    (if_passes (is_event_hit x.place x.bits) Matched) t' t'' →
    Ends by (if_passes (any_event (x ∷ done)) Matched) t t''
one-event by x done t t' t'' a b =
    ends-test by (λ (e : ℕ × Row). any_event done e || is_event_hit x.place x.bits e) (any_event (x ∷ done)) Matched t t''
    (each _ (λ e. swap-or (any_event done e) (is_event_hit x.place x.bits e)) t.rows.entries)
    (ends-or by (any_event done) (is_event_hit x.place x.bits) Matched t t' t'' a b)

-- some events were seen, from the last on
pub record AreSeen (by : ℕ) (all left : List Event) (t t' : Table) : Type 0 where
  pub done : List Event
  pub whole : all ≡ left ++ done
  pub ready : IsReady t'
  pub ends : Ends by (if_passes (any_event done) Matched) t t'
