-- What is known of handles that come and go, and of limits that were not passed.
use Rattle.std.proofs.Common.{◌≡◌, ℕ, ◌+◌, ◌<◌, ◌≤◌, Bool, true, false, ◌||◌, ◌&&◌, nat_lt, cond, is_some, List, [], ◌∷◌, ◌++◌, map, length}
use Rattle.std.proofs.Common.{Some, refl, sym, ap, ◌∙◌, subst, arith, true≢false, append_assoc, length-append}
use Rattle.std.specs.Prelude.{All}
use Rattle.std.specs.List.{AllByRecursion}
use Rattle.std.proofs.lemmas.List.{append-nil, length-map}
use Rattle.std.proofs.lemmas.List.Elements.{recursion_from_All}
use Rattle.std.proofs.lemmas.Bool.{eq-eqb, ne_eqb}
use Rattle.std.proofs.lemmas.Bool.Decides.{nat_tests}
use Rattle.reg_names.specs.declared.TheConstants.{PATH_LIMIT}
use Rattle.reg_names.specs.Names.{folded}
use Rattle.reg_heap.specs.Paths.{Path, Tree}
use Rattle.reg_heap.specs.Edits.{missing, has_child, child_path, are_too_many}
use Rattle.reg_model.specs.Worlds.{Handle, look, numbered, closed}
use Rattle.reg_model.proofs.HandleInvariant.{Has}
use Rattle.reg_model.proofs.LegalJournals.{numbered-push}

-- ---- handles

closed-all : (n : ℕ) (hs : List Handle) → AllByRecursion (λ (x : Handle). x.number < n) hs → (h : Handle) → h.number ≡ n → closed n (hs ++ h ∷ []) ≡ hs
closed-all n [] b h e = rw (eq-eqb h.number n e) refl
closed-all n (x ∷ hs) b h e = rw (ne_eqb x.number n (λ same. omega (arith, b.0))) (ap (λ (r : List Handle). x ∷ r) (closed-all n hs b.1 h e))

-- a handle that was added and closed leaves the others
pub closed-push : (n : ℕ) (hs : List Handle) → All (λ (x : Handle). x.number < n) hs → (h : Handle) → h.number ≡ n → closed n (hs ++ h ∷ []) ≡ hs
closed-push n hs all h e = closed-all n hs (recursion_from_All (λ (x : Handle). x.number < n) hs all) h e

-- it is the one of its number
pub numbered-new : (n : ℕ) (hs : List Handle) → All (λ (x : Handle). x.number < n) hs → (h : Handle) → h.number ≡ n → numbered n (hs ++ h ∷ []) ≡ Some h
numbered-new n hs all h e = numbered-push n hs h e (recursion_from_All (λ (x : Handle). x.number < n) hs all)

-- its session has it
pub look-push : (session n : ℕ) (hs : List Handle) → All (λ (x : Handle). x.number < n) hs → (h : Handle) → h.number ≡ n → h.session ≡ session → is_some (look session n (hs ++ h ∷ [])) ≡ true
look-push session n hs all h e f =
    rw (numbered-push n hs h e (recursion_from_All (λ (x : Handle). x.number < n) hs all), eq-eqb h.session session f) refl

-- ---- limits

few-of : (count : ℕ) (a b c : Bool) → 0 < count → (nat_lt 0 count && (a || b || c)) ≡ false → b ≡ false
few-of count a b c some e =
    let t : nat_lt 0 count ≡ true = grind (arith, nat_tests, some) in
    by a b c (sym (ap (λ (x : Bool). x && (a || b || c)) t) ∙ e)
  where
    by : (a b c : Bool) → (a || b || c) ≡ false → b ≡ false
    by true b c e = absurd (true≢false e)
    by false true c e = absurd (true≢false e)
    by false false c e = refl

pub not_above : (m n : ℕ) → nat_lt m n ≡ false → n ≤ m
not_above m n e = grind (arith, nat_tests)

-- where no key is missing on a path, the last one is there
there-step : (b : Bool) (t : Tree) (p : Path) (name : List ℕ) (names : List (List ℕ)) → has_child t p name ≡ b →
    (missing t (child_path p name) names ≡ [] → Has t (child_path p name) → Has t (child_path p name ++ map folded names)) →
    cond b (missing t (child_path p name) names) (name ∷ names) ≡ [] → Has t (child_path p name ++ map folded names)
there-step true t p name names there on none = on none there
there-step false t p name names there on none = absurd (cc)

all-there : (t : Tree) (p : Path) (names : List (List ℕ)) → missing t p names ≡ [] → Has t p → Has t (p ++ map folded names)
all-there t p [] e h = subst (Has t) (sym (append-nil p)) h
all-there t p (name ∷ names) e h =
    subst (Has t) (append_assoc p (folded name ∷ []) (map folded names)) (there-step (has_child t p name) t p name names refl (all-there t (child_path p name) names) e)

pub path-short : (t : Tree) (p : Path) (names : List (List ℕ)) → ((q : Path) → Has t q → length q ≤ PATH_LIMIT) → Has t p → are_too_many t p names ≡ false → length (p ++ map folded names) ≤ PATH_LIMIT
path-short t p names shallow h few = by (missing t p names) refl
  where
    by : (m : List (List ℕ)) → missing t p names ≡ m → length (p ++ map folded names) ≤ PATH_LIMIT
    by [] e = shallow (p ++ map folded names) (all-there t p names e h)
    by (x ∷ xs) e =
        let some : 0 < length (missing t p names) = rw e (omega arith) in
        let b = few-of (length (missing t p names)) _ (nat_lt PATH_LIMIT (length p + length names)) _ some few in
        let l = not_above PATH_LIMIT (length p + length names) b in
        let a = length-append p (map folded names) in
        let m = length-map names folded in
        omega (arith, l, a, m)
