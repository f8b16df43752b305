-- The texts by which watches are found: which begin with which.
use Rattle.std.proofs.Common.{◌≡◌, ℕ, ◌<◌, ◌^◌, true, false, ◌&&◌, ◌==◌, List, [], ◌∷◌, ◌++◌, refl, sym, ap, ◌∙◌, subst, append_assoc}
use Rattle.std.specs.Cmp.{both_ways}
use Rattle.std.specs.Int.{to_be_bytes, from_be_bytes, w64}
use Rattle.std.specs.List.{list_all}
use Rattle.std.proofs.lemmas.Bool.{and_parts, and_from, false≢true, eqb-true, eq-eqb}
use Rattle.std.proofs.lemmas.List.{append-nil}
use Rattle.std.proofs.lemmas.Nat.{from_be_bytes-to_be_bytes_8}
use Rattle.reg_names.specs.Names.{is_key_name, is_key_name_byte, is_path, path_of, text_of, are_key_names}
use Rattle.reg_names.proofs.PathTexts.{text_of-path_of}
use Rattle.reg_heap.specs.Paths.{Path}
use Rattle.reg_heap.specs.Edits.{is_under}
use Rattle.reg_heap.proofs.ChildrenOfPath.{path-is}
use Rattle.reg_heap.proofs.DeletedTrees.{under-rest, under-append}
use Rattle.reg_model.specs.Worlds.{same_path}
use Rattle.reg_model.proofs.HandleInvariant.{same-self}
use Rattle.reg_model.specs.Internal.TextNumbers.{goes_on}
use Rattle.reg_notify.specs.Internal.Keys.{lead_of, IsClean, key_text, handle_text}
use Rattle.reg_model.proofs.LongerTexts.{goes_on-rest, goes_on-append}

-- ---- a path as text

lead-text : (n : List ℕ) (p : Path) → lead_of (n ∷ p) ≡ 92 ∷ text_of (n ∷ p)
lead-text n [] = ap (λ (t : List ℕ). 92 ∷ t) (append-nil n)
lead-text n (m ∷ p) = ap (λ (t : List ℕ). 92 ∷ n ++ t) (lead-text m p)

lead-names : (p : Path) (b : ℕ) (bs : List ℕ) → text_of p ≡ b ∷ bs → lead_of p ≡ 92 ∷ b ∷ bs
lead-names [] b bs e = absurd (cc)
lead-names (n ∷ p) b bs e = lead-text n p ∙ ap (λ (t : List ℕ). 92 ∷ t) e

-- a text that isn't empty, behind a backslash
pub lead-path : (b : ℕ) (bs : List ℕ) → lead_of (path_of (b ∷ bs)) ≡ 92 ∷ b ∷ bs
lead-path b bs = lead-names (path_of (b ∷ bs)) b bs (text_of-path_of (b ∷ bs))

clean-names : (p : Path) → list_all is_key_name p ≡ true → IsClean p
clean-names [] all = tt
clean-names (n ∷ p) all =
    let both = and_parts (is_key_name n) (list_all is_key_name p) all in
    ((and_parts _ _ (and_parts _ _ both.0).0).0, clean-names p both.1)

pub clean-path : (text : List ℕ) → is_path text ≡ true → IsClean (path_of text)
unfolding are_key_names
clean-path text is = clean-names (path_of text) (and_parts (list_all is_key_name (path_of text)) _ is).0

pub lead-append : (p q : Path) → lead_of (p ++ q) ≡ lead_of p ++ lead_of q
lead-append [] q = refl
lead-append (n ∷ p) q = ap (λ (t : List ℕ). 92 ∷ n ++ t) (lead-append p q) ∙ ap (λ (t : List ℕ). 92 ∷ t) (sym (append_assoc n (lead_of p) (lead_of q)))

-- ---- names and what ends them

pub record Cut (n m r s : List ℕ) : Type 0 where
  pub name : n ≡ m
  pub rest : r ≡ s

-- a name and what comes behind it, which begins with no byte of a name
cut : (n m : List ℕ) (x y : ℕ) (r s : List ℕ) → is_key_name_byte x ≡ false → is_key_name_byte y ≡ false → list_all is_key_name_byte n ≡ true →
    list_all is_key_name_byte m ≡ true →
    n ++ x ∷ r ≡ m ++ y ∷ s → Cut n m (x ∷ r) (y ∷ s)
cut [] [] x y r s ex ey cn cm e = record { name = refl; rest = e }
cut [] (b ∷ m) x y r s ex ey cn cm e =
    let same : x ≡ b = cc in
    absurd (false≢true (sym ex ∙ ap is_key_name_byte same ∙ (and_parts (is_key_name_byte b) (list_all is_key_name_byte m) cm).0))
cut (a ∷ n) [] x y r s ex ey cn cm e =
    let same : a ≡ y = cc in
    absurd (false≢true (sym ey ∙ ap is_key_name_byte (sym same) ∙ (and_parts (is_key_name_byte a) (list_all is_key_name_byte n) cn).0))
cut (a ∷ n) (b ∷ m) x y r s ex ey cn cm e =
    let first : a ≡ b = cc in
    let rest : n ++ x ∷ r ≡ m ++ y ∷ s = cc in
    let c = cut n m x y r s ex ey (and_parts (is_key_name_byte a) (list_all is_key_name_byte n) cn).1 (and_parts (is_key_name_byte b) (list_all is_key_name_byte m) cm).1 rest in
    record { name = ap (λ (h : ℕ). h ∷ n) first ∙ ap (λ (t : List ℕ). b ∷ t) c.name; rest = c.rest }

-- what comes behind a name in a path's text, and behind the path
record Behind (p : Path) (x : ℕ) (r : List ℕ) : Type 0 where
  byte : ℕ
  bytes : List ℕ
  is : lead_of p ++ x ∷ r ≡ byte ∷ bytes
  ends : is_key_name_byte byte ≡ false

behind : (p : Path) (x : ℕ) (r : List ℕ) → is_key_name_byte x ≡ false → Behind p x r
behind [] x r e = record { byte = x; bytes = r; is = refl; ends = e }
behind (n ∷ p) x r e = record { byte = 92; bytes = (n ++ lead_of p) ++ x ∷ r; is = refl; ends = refl }

-- the first name of two paths
cut-first : (n m : List ℕ) (p q : Path) (x y : ℕ) (r s : List ℕ) → is_key_name_byte x ≡ false → is_key_name_byte y ≡ false →
    list_all is_key_name_byte n ≡ true → list_all is_key_name_byte m ≡ true →
    lead_of (n ∷ p) ++ x ∷ r ≡ lead_of (m ∷ q) ++ y ∷ s → Cut n m (lead_of p ++ x ∷ r) (lead_of q ++ y ∷ s)
cut-first n m p q x y r s ex ey cn cm e =
    let bp = behind p x r ex in
    let bq = behind q y s ey in
    let tail : (n ++ lead_of p) ++ x ∷ r ≡ (m ++ lead_of q) ++ y ∷ s = cc in
    let split : n ++ bp.byte ∷ bp.bytes ≡ m ++ bq.byte ∷ bq.bytes =
    ap (λ (t : List ℕ). n ++ t) (sym bp.is) ∙ sym (append_assoc n (lead_of p) (x ∷ r)) ∙ tail ∙ append_assoc m (lead_of q) (y ∷ s) ∙ ap
    (λ (t : List ℕ). m ++ t) bq.is in
    let c = cut n m bp.byte bq.byte bp.bytes bq.bytes bp.ends bq.ends cn cm split in
    record { name = c.name; rest = bp.is ∙ c.rest ∙ sym bq.is }

pub record SamePlace (p q : Path) (r s : List ℕ) : Type 0 where
  pub path : p ≡ q
  pub rest : r ≡ s

-- two texts that are ended by 0
pub same-place : (p q : Path) (r s : List ℕ) → IsClean p → IsClean q → lead_of p ++ 0 ∷ r ≡ lead_of q ++ 0 ∷ s → SamePlace p q r s
same-place [] [] r s cp cq e = record { path = refl; rest = (let t : r ≡ s = cc in t) }
same-place [] (m ∷ q) r s cp cq e = absurd (cc)
same-place (n ∷ p) [] r s cp cq e = absurd (cc)
same-place (n ∷ p) (m ∷ q) r s cp cq e =
    let c = cut-first n m p q 0 0 r s refl refl cp.0 cq.0 e in
    let rest = same-place p q r s cp.1 cq.1 c.rest in
    record { path = ap (λ (h : List ℕ). h ∷ p) c.name ∙ ap (λ (t : Path). m ∷ t) rest.path; rest = rest.rest }

-- one that goes on with a name where the other ends by 0
pub place-below : (p q : Path) (r s : List ℕ) → IsClean p → IsClean q → lead_of p ++ 92 ∷ r ≡ lead_of q ++ 0 ∷ s → is_under p q ≡ true
place-below p q r s cp cq e = by (longer p q r s cp cq e)
  where
    longer : (p q : Path) (r s : List ℕ) → IsClean p → IsClean q → lead_of p ++ 92 ∷ r ≡ lead_of q ++ 0 ∷ s → (name : List ℕ) × (names : Path) ×
        (q ≡ p ++ name ∷ names)
    longer [] [] r s cp cq e = absurd (cc)
    longer [] (m ∷ q) r s cp cq e = (m, q, refl)
    longer (n ∷ p) [] r s cp cq e = absurd (cc)
    longer (n ∷ p) (m ∷ q) r s cp cq e =
        let c = cut-first n m p q 92 0 r s refl refl cp.0 cq.0 e in
        let l = longer p q r s cp.1 cq.1 c.rest in
        (l.0, l.1, ap (λ (h : List ℕ). h ∷ q) (sym c.name) ∙ ap (λ (t : Path). n ∷ t) l.2)

    by : (name : List ℕ) × (names : Path) × (q ≡ p ++ name ∷ names) → is_under p q ≡ true
    by l = subst (λ (x : Path). is_under p x ≡ true) (sym l.2) (under-append p l.0 l.1)

-- ---- which watches begin with a text

some-be : (n : ℕ) → (b : ℕ) × (bs : List ℕ) × (to_be_bytes w64 n ≡ b ∷ bs)
some-be n = (_, _, refl)

-- all at a place
pub at-place : (p q : Path) (class n : ℕ) → IsClean p → IsClean q → goes_on (lead_of p ++ 0 ∷ []) (key_text q class n) ≡ same_path q p
at-place p q class n cp cq = both_ways _ _ from to
  where
    from : goes_on (lead_of p ++ 0 ∷ []) (key_text q class n) ≡ true → same_path q p ≡ true
    from is =
        let r = goes_on-rest (lead_of p ++ 0 ∷ []) (key_text q class n) is in
        let e = same-place q p (class ∷ to_be_bytes w64 n) (r.0 ∷ r.1) cq cp (r.2 ∙ append_assoc (lead_of p) (0 ∷ []) (r.0 ∷ r.1)) in
        subst (λ (x : Path). same_path q x ≡ true) e.path (same-self q)

    to : same_path q p ≡ true → goes_on (lead_of p ++ 0 ∷ []) (key_text q class n) ≡ true
    to is = subst (λ (t : List ℕ). goes_on (lead_of p ++ 0 ∷ []) t ≡ true)
        (append_assoc (lead_of p) (0 ∷ []) (class ∷ to_be_bytes w64 n) ∙ ap (λ (x : Path). lead_of x ++ 0 ∷ class ∷ to_be_bytes w64 n) (sym (path-is q p is)))
        (goes_on-append (lead_of p ++ 0 ∷ []) class (to_be_bytes w64 n))

-- those of a class
pub at-class : (p q : Path) (c class n : ℕ) → IsClean p → IsClean q → goes_on (lead_of p ++ 0 ∷ c ∷ []) (key_text q class n) ≡ (same_path q p && (class == c))
at-class p q c class n cp cq = both_ways _ _ from to
  where
    from : goes_on (lead_of p ++ 0 ∷ c ∷ []) (key_text q class n) ≡ true → (same_path q p && (class == c)) ≡ true
    from is =
        let r = goes_on-rest (lead_of p ++ 0 ∷ c ∷ []) (key_text q class n) is in
        let e = same-place q p (class ∷ to_be_bytes w64 n) (c ∷ r.0 ∷ r.1) cq cp (r.2 ∙ append_assoc (lead_of p) (0 ∷ c ∷ []) (r.0 ∷ r.1)) in
        let rest = e.rest in
        let same : class ≡ c = cc in
        and_from _ _ (subst (λ (x : Path). same_path q x ≡ true) e.path (same-self q)) (eq-eqb class c same)

    to : (same_path q p && (class == c)) ≡ true → goes_on (lead_of p ++ 0 ∷ c ∷ []) (key_text q class n) ≡ true
    to is =
        let both = and_parts (same_path q p) (class == c) is in
        let b = some-be n in
        let whole : (lead_of p ++ 0 ∷ c ∷ []) ++ b.0 ∷ b.1 ≡ key_text q class n =
        append_assoc (lead_of p) (0 ∷ c ∷ []) (b.0 ∷ b.1) ∙ ap (λ (x : Path). lead_of x ++ 0 ∷ c ∷ b.0 ∷ b.1) (sym (path-is q p both.0))
        ∙ ap (λ (t : List ℕ). lead_of q ++ 0 ∷ c ∷ t) (sym b.2) ∙ ap (λ (k : ℕ). lead_of q ++ 0 ∷ k ∷ to_be_bytes w64 n) (sym (eqb-true class c both.1)) in
        subst (λ (t : List ℕ). goes_on (lead_of p ++ 0 ∷ c ∷ []) t ≡ true) whole (goes_on-append (lead_of p ++ 0 ∷ c ∷ []) b.0 b.1)

-- all below a place
pub below-place : (p q : Path) (class n : ℕ) → IsClean p → IsClean q → goes_on (lead_of p ++ 92 ∷ []) (key_text q class n) ≡ is_under p q
below-place p q class n cp cq = both_ways _ _ from to
  where
    from : goes_on (lead_of p ++ 92 ∷ []) (key_text q class n) ≡ true → is_under p q ≡ true
    from is =
        let r = goes_on-rest (lead_of p ++ 92 ∷ []) (key_text q class n) is in
        place-below p q (r.0 ∷ r.1) (class ∷ to_be_bytes w64 n) cp cq (sym (append_assoc (lead_of p) (92 ∷ []) (r.0 ∷ r.1)) ∙ sym r.2)

    some : (name : List ℕ) (names : Path) (class n : ℕ) → (b : ℕ) × (bs : List ℕ) × ((name ++ lead_of names) ++ 0 ∷ class ∷ to_be_bytes w64 n ≡ b ∷ bs)
    some [] [] class n = (_, _, refl)
    some [] (m ∷ names) class n = (_, _, refl)
    some (b ∷ name) names class n = (_, _, refl)

    to : is_under p q ≡ true → goes_on (lead_of p ++ 92 ∷ []) (key_text q class n) ≡ true
    to is =
        let u = under-rest p q is in
        let s = some u.0 u.1 class n in
        let whole : (lead_of p ++ 92 ∷ []) ++ s.0 ∷ s.1 ≡ key_text q class n =
        append_assoc (lead_of p) (92 ∷ []) (s.0 ∷ s.1) ∙ ap (λ (t : List ℕ). lead_of p ++ 92 ∷ t) (sym s.2)
        ∙ sym (append_assoc (lead_of p) (lead_of (u.0 ∷ u.1)) (0 ∷ class ∷ to_be_bytes w64 n))
        ∙ ap (λ (t : List ℕ). t ++ 0 ∷ class ∷ to_be_bytes w64 n) (sym (lead-append p (u.0 ∷ u.1)) ∙ ap lead_of (sym u.2)) in
        subst (λ (t : List ℕ). goes_on (lead_of p ++ 92 ∷ []) t ≡ true) whole (goes_on-append (lead_of p ++ 92 ∷ []) s.0 s.1)

-- ---- numbers in texts

pub same-number : (n m : ℕ) → n < 2 ^ 64 → m < 2 ^ 64 → to_be_bytes w64 n ≡ to_be_bytes w64 m → n ≡ m
same-number n m ln lm e = sym (from_be_bytes-to_be_bytes_8 n ln) ∙ ap (from_be_bytes w64) e ∙ from_be_bytes-to_be_bytes_8 m lm

-- a key's text is of one number
pub key-number : (p q : Path) (c d n m : ℕ) → IsClean p → IsClean q → n < 2 ^ 64 → m < 2 ^ 64 → key_text p c n ≡ key_text q d m → n ≡ m
key-number p q c d n m cp cq ln lm e =
    let s = same-place p q (c ∷ to_be_bytes w64 n) (d ∷ to_be_bytes w64 m) cp cq e in
    let rest = s.rest in
    let bytes : to_be_bytes w64 n ≡ to_be_bytes w64 m = cc in
    same-number n m ln lm bytes

front-be : (n m : ℕ) (r s : List ℕ) → to_be_bytes w64 n ++ r ≡ to_be_bytes w64 m ++ s → (to_be_bytes w64 n ≡ to_be_bytes w64 m) × (r ≡ s)
front-be n m r s e = (cc, cc)

-- a handle's text is of one number
pub handle-number : (h k n m : ℕ) → n < 2 ^ 64 → m < 2 ^ 64 → handle_text h n ≡ handle_text k m → n ≡ m
handle-number h k n m ln lm e = same-number n m ln lm (front-be h k (to_be_bytes w64 n) (to_be_bytes w64 m) e).1

-- all of a handle
pub of-handle : (h k n : ℕ) → h < 2 ^ 64 → k < 2 ^ 64 → goes_on (to_be_bytes w64 h) (handle_text k n) ≡ (h == k)
of-handle h k n lh lk = both_ways _ _ from to
  where
    from : goes_on (to_be_bytes w64 h) (handle_text k n) ≡ true → (h == k) ≡ true
    from is =
        let r = goes_on-rest (to_be_bytes w64 h) (handle_text k n) is in
        eq-eqb h k (same-number h k lh lk (sym (front-be k h (to_be_bytes w64 n) (r.0 ∷ r.1) r.2).0))

    to : (h == k) ≡ true → goes_on (to_be_bytes w64 h) (handle_text k n) ≡ true
    to is =
        let b = some-be n in
        let whole : to_be_bytes w64 h ++ b.0 ∷ b.1 ≡ handle_text k n = ap (λ (x : ℕ). to_be_bytes w64 x ++ b.0 ∷ b.1) (eqb-true h k is) ∙ ap (λ (t : List ℕ). to_be_bytes w64 k ++ t) (sym b.2) in
        subst (λ (t : List ℕ). goes_on (to_be_bytes w64 h) t ≡ true) whole (goes_on-append (to_be_bytes w64 h) b.0 b.1)
