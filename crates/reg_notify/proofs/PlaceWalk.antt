-- A place's text, from its end to its beginning: at each backslash what is left is the place above.
use Rattle.std.proofs.Common.{◌≡◌, ℕ, ◌<◌, Bool, true, false, ◌⊎◌, inl, inr, eqb, ◌&&◌, ◌||◌, List, [], ◌∷◌, ◌++◌, length, drop, refl, sym, ap, ◌∙◌, subst}
use Rattle.std.proofs.Common.{arith, append_assoc}
use Rattle.std.specs.Cmp.{both_ways}
use Rattle.std.specs.List.{list_all, AllByRecursion}
use Rattle.std.proofs.lemmas.Bool.{and_parts, and_from, or_left, or_right, false≢true, eq-eqb}
use Rattle.std.proofs.lemmas.List.{append-nil}
use Rattle.reg_names.specs.Names.{is_key_name_byte}
use Rattle.reg_heap.specs.Paths.{Path}
use Rattle.reg_heap.specs.Edits.{is_within, is_under}
use Rattle.reg_heap.proofs.ChildrenOfPath.{path-is}
use Rattle.reg_heap.proofs.DeletedTrees.{within-rest, within-append, within-self, under-rest, under-append, under-parts, within-long}
use Rattle.reg_model.specs.declared.notice.Reason.TheVariants.{Matched}
use Rattle.reg_model.specs.Worlds.{same_path}
use Rattle.reg_model.proofs.FewEvents.{fronts}
use Rattle.reg_model.proofs.HandleInvariant.{same-self}
use Rattle.reg_notify.specs.declared.table.Row.{Row}
use Rattle.reg_notify.specs.declared.table.Table.{Table}
use Rattle.reg_notify.specs.Internal.Keys.{lead_of, IsClean, class_of, is_met}
use Rattle.reg_notify.specs.Internal.Rows.{IsRow}
use Rattle.reg_notify.specs.Internal.Hits.{any_class, hit_itself, is_event_hit}
use Rattle.reg_notify.specs.Internal.Firing.{if_passes}
use Rattle.reg_notify.specs.Internal.States.{IsReady, Ends}
use Rattle.reg_notify.proofs.EndsSteps.{each, ends-or, ends-test}
use Rattle.reg_notify.proofs.HitSteps.{any-all}
use Rattle.reg_notify.proofs.TableSteps.{all-at}

or_cases : (a b : Bool) → (a || b) ≡ true → (a ≡ true) ⊎ (b ≡ true)
or_cases true b e = inl refl
or_cases false b e = inr e

-- ---- the last name of a place

-- a name holds no backslash
no_slash : (m s : List ℕ) → list_all is_key_name_byte (m ++ 92 ∷ s) ≡ true → ⊥
no_slash [] s all = false≢true all
no_slash (a ∷ m) s all = no_slash m s (and_parts (is_key_name_byte a) (list_all is_key_name_byte (m ++ 92 ∷ s)) all).1

-- a name stands before the first backslash
past_name : (m t n s : List ℕ) → list_all is_key_name_byte m ≡ true → t ++ 92 ∷ n ≡ m ++ s → (u : List ℕ) × (t ≡ m ++ u) × (u ++ 92 ∷ n ≡ s)
past_name [] t n s clean e = (t, refl, e)
past_name (a ∷ m) [] n s clean e =
    let same : 92 ≡ a = cc in
    absurd (false≢true (ap is_key_name_byte same ∙ (and_parts (is_key_name_byte a) (list_all is_key_name_byte m) clean).0))
past_name (a ∷ m) (b ∷ t) n s clean e =
    let first : b ≡ a = cc in
    let rest : t ++ 92 ∷ n ≡ m ++ s = cc in
    let r = past_name m t n s (and_parts (is_key_name_byte a) (list_all is_key_name_byte m) clean).1 rest in
    (r.0, ap (λ (x : ℕ). x ∷ t) first ∙ ap (λ (l : List ℕ). a ∷ l) r.1, r.2)

pub record Last (p : Path) (t n : List ℕ) : Type 0 where
  pub front : Path
  pub is : p ≡ front ++ n ∷ []
  pub text : t ≡ lead_of front

none_after : (t n : List ℕ) → t ++ 92 ∷ n ≡ [] → ⊥
none_after [] n e = absurd (cc)
none_after (a ∷ t) n e = absurd (cc)

pub last : (p : Path) (t n : List ℕ) → IsClean p → list_all is_key_name_byte n ≡ true → t ++ 92 ∷ n ≡ lead_of p → Last p t n
last [] t n cp cn e = absurd (none_after t n e)
last (m ∷ p) [] n cp cn e = at_first p (let rest : n ≡ m ++ lead_of p = cc in rest)
  where
    at_first : (p : Path) → n ≡ m ++ lead_of p → Last (m ∷ p) [] n
    at_first [] e = record { front = []; is = ap (λ (x : List ℕ). x ∷ []) (sym (e ∙ append-nil m)); text = refl }
    at_first (k ∷ p) e = absurd (no_slash m (k ++ lead_of p) (ap (list_all is_key_name_byte) (sym e) ∙ cn))
last (m ∷ p) (b ∷ t) n cp cn e =
    let first : b ≡ 92 = cc in
    let rest : t ++ 92 ∷ n ≡ m ++ lead_of p = cc in
    let u = past_name m t n (lead_of p) cp.0 rest in
    let l = last p u.0 n cp.1 cn u.2 in
    record {
      front = m ∷ l.front;
      is = ap (λ (x : Path). m ∷ x) l.is;
      text = ap (λ (x : ℕ). x ∷ t) first ∙ ap (λ (x : List ℕ). 92 ∷ x) (u.1 ∙ ap (λ (x : List ℕ). m ++ x) l.text);
    }

-- a place whose text holds no backslash is the root
root_left : (p : Path) (n : List ℕ) → list_all is_key_name_byte n ≡ true → n ≡ lead_of p → p ≡ []
root_left [] n cn e = refl
root_left (m ∷ p) n cn e = absurd (no_slash [] (m ++ lead_of p) (ap (list_all is_key_name_byte) (sym e) ∙ cn))

clean-front : (p rest : Path) → IsClean (p ++ rest) → IsClean p
clean-front [] rest c = tt
clean-front (n ∷ p) rest c = (c.0, clean-front p rest c.1)

-- ---- which rows are hit from a place upward

-- strictly above p, and at or below a place above it: or at that place
upward : (p front : Path) (n : List ℕ) (q : Path) → is_within (front ++ n ∷ []) p ≡ true →
    ((is_under q p && is_within (front ++ n ∷ []) q) || same_path q front) ≡ (is_under q p && is_within front q)
upward p front n q in_p = both_ways _ _ from to
  where
    whole : p ≡ front ++ n ∷ drop (length (front ++ n ∷ [])) p
    whole = within-rest (front ++ n ∷ []) p in_p ∙ append_assoc front (n ∷ []) (drop (length (front ++ n ∷ [])) p)

    from : ((is_under q p && is_within (front ++ n ∷ []) q) || same_path q front) ≡ true → (is_under q p && is_within front q) ≡ true
    from is = by (or_cases (is_under q p && is_within (front ++ n ∷ []) q) (same_path q front) is)
      where
        by : ((is_under q p && is_within (front ++ n ∷ []) q) ≡ true) ⊎ (same_path q front ≡ true) → (is_under q p && is_within front q) ≡ true
        by (inl both) =
            let parts = and_parts (is_under q p) (is_within (front ++ n ∷ []) q) both in
            and_from _ _ parts.0 (subst (λ (x : Path). is_within front x ≡ true)
            (sym (within-rest (front ++ n ∷ []) q parts.1 ∙ append_assoc front (n ∷ []) (drop (length (front ++ n ∷ [])) q)))
            (within-append front (n ∷ drop (length (front ++ n ∷ [])) q)))
        by (inr same) =
            subst (λ (x : Path). (is_under x p && is_within front x) ≡ true) (sym (path-is q front same))
            (and_from _ _ (subst (λ (x : Path). is_under front x ≡ true) (sym whole) (under-append front n (drop (length (front ++ n ∷ [])) p)))
            (within-self front))

    to : (is_under q p && is_within front q) ≡ true → ((is_under q p && is_within (front ++ n ∷ []) q) || same_path q front) ≡ true
    to is =
        let parts = and_parts (is_under q p) (is_within front q) is in
        let u = under-rest q p parts.0 in
        by parts.0 (fronts q (front ++ n ∷ []) (u.0 ∷ u.1) (drop (length (front ++ n ∷ [])) p) (sym u.2 ∙ within-rest (front ++ n ∷ []) p in_p))
        (within-rest front q parts.1)
      where
        at_front : (x : Path) → front ++ n ∷ [] ≡ q ++ x → (r : Path) → q ≡ front ++ r →
            ((is_under q p && is_within (front ++ n ∷ []) q) || same_path q front) ≡ true
        at_front x e [] same = or_right _ _ (subst (λ (z : Path). same_path z front ≡ true) (sym (same ∙ append-nil front)) (same-self front))
        at_front x e (y ∷ ys) same = or_left _ _ (and_from _ _ (and_parts (is_under q p) (is_within front q) is).0
            (subst (λ (z : Path). is_within (front ++ n ∷ []) z ≡ true) (whole_q x y ys e same) (within-self (front ++ n ∷ []))))
          where
            nothing : (front : Path) (x ys : Path) (y : List ℕ) → front ++ n ∷ [] ≡ (front ++ y ∷ ys) ++ x → front ++ n ∷ [] ≡ front ++ y ∷ ys
            nothing [] x [] y e = let s : n ≡ y = cc in ap (λ (z : List ℕ). z ∷ []) s
            nothing [] x (z ∷ ys) y e = absurd (cc)
            nothing (f ∷ front) x ys y e = ap (λ (z : Path). f ∷ z) (nothing front x ys y (let t : front ++ n ∷ [] ≡ (front ++ y ∷ ys) ++ x = cc in t))

            whole_q : (x : Path) (y : List ℕ) (ys : Path) → front ++ n ∷ [] ≡ q ++ x → q ≡ front ++ y ∷ ys → front ++ n ∷ [] ≡ q
            whole_q x y ys e same = nothing front x ys y (e ∙ ap (λ (z : Path). z ++ x) same) ∙ sym same

        by : is_under q p ≡ true → ((x : Path) × (front ++ n ∷ [] ≡ q ++ x)) ⊎ ((x : Path) × (q ≡ (front ++ n ∷ []) ++ x)) → q ≡ front ++ drop
            (length front) q →
            ((is_under q p && is_within (front ++ n ∷ []) q) || same_path q front) ≡ true
        by under (inl l) rest = at_front l.0 l.1 (drop (length front) q) rest
        by under (inr r) rest =
            or_left _ _ (and_from _ _ under (subst (λ (z : Path). is_within (front ++ n ∷ []) z ≡ true) (sym r.1) (within-append (front ++ n ∷ []) r.0)))

-- ---- the walk

abbrev walked : Path → Path → ℕ → ℕ × Row → Bool
walked p front bits e = hit_itself p bits e || (is_under e.1.place p && is_within front e.1.place) && is_met bits false (class_of e.1.filter e.1.subtree)

-- what is left of the text, and what of the last name was taken off; all watches at or below the front were seen
pub record IsWalked (p : Path) (bits by : ℕ) (text : List ℕ) (t t' : Table) : Type 0 where
  pub front : Path
  pub rest : Path
  pub popped : List ℕ
  pub name : list_all is_key_name_byte popped ≡ true
  pub is : text ++ popped ≡ lead_of front
  pub whole : p ≡ front ++ rest
  pub ends : Ends by (if_passes (walked p front bits) Matched) t t'

rows-fit : (P : ℕ × Row → Type 0) (t : Table) → IsReady t → ((n : ℕ) (r : Row) → IsRow n r → P (n, r)) → AllByRecursion P t.rows.entries
rows-fit P t ready f = let table = ready.table in all-at P t.rows.entries table.rising (λ n r found. f n r (table.fits n r found))

bool-none : (a m : Bool) → a ≡ (a || false && m)
bool-none true m = refl
bool-none false m = refl

-- at the place itself
pub walked-first : (p : Path) (bits by : ℕ) (text : List ℕ) (classes : ℕ) (t t' : Table) →
    ((n : ℕ) (r : Row) → IsRow n r → class_of r.filter r.subtree < classes) → IsClean p → IsReady t → text ≡ lead_of p →
    Ends by (if_passes (any_class classes text bits true) Matched) t t' → IsWalked p bits by text t t'
walked-first p bits by text classes t t' small clean ready is ends = record {
  front = p;
  rest = [];
  popped = [];
  name = refl;
  is = append-nil text ∙ is;
  whole = sym (append-nil p);
  ends = ends-test by (any_class classes text bits true) (walked p p bits) Matched t t' (rows-fit _ t ready (λ n r fit.
      first n r fit)) ends;
}
  where
    nothing : (n : ℕ) (r : Row) (u : Bool) → is_under r.place p ≡ u → (w : Bool) → is_within p r.place ≡ w → hit_itself p bits (n, r) ≡ walked p p bits (n, r)
    nothing n r false eu w ew = rw eu (bool-none (hit_itself p bits (n, r)) (is_met bits false (class_of r.filter r.subtree)))
    nothing n r true eu false ew = rw (eu, ew) (bool-none (hit_itself p bits (n, r)) (is_met bits false (class_of r.filter r.subtree)))
    nothing n r true eu true ew =
        let longer = (under-parts r.place p eu).1 in
        let long = within-long p r.place ew in
        absurd (omega (arith, longer, long))

    first : (n : ℕ) (r : Row) → IsRow n r → any_class classes text bits true (n, r) ≡ walked p p bits (n, r)
    first n r fit =
        ap (λ (s : List ℕ). any_class classes s bits true (n, r)) is ∙ any-all n r fit p clean bits true classes (small n r fit)
        ∙ nothing n r (is_under r.place p) refl (is_within p r.place) refl

bool-more : (a u s m : Bool) (v : Bool) → (u || s) ≡ v → ((a || u && m) || (s && m)) ≡ (a || v && m)
bool-more true u s m v e = refl
bool-more false true s m v e = rw (sym e) (one m s)
  where
    one : (m s : Bool) → ((true && m) || (s && m)) ≡ ((true || s) && m)
    one true s = refl
    one false true = refl
    one false false = refl
bool-more false false s m v e = rw (sym e) refl

-- at a backslash
pub walked-up : (p : Path) (bits by : ℕ) (text : List ℕ) (classes : ℕ) (t t' t'' : Table) →
    ((n : ℕ) (r : Row) → IsRow n r → class_of r.filter r.subtree < classes) → IsClean p →
    IsWalked p bits by (text ++ 92 ∷ []) t t' → Ends by (if_passes (any_class classes text bits false) Matched) t' t'' → IsWalked p bits by text t t''
walked-up p bits by text classes t t' t'' small clean w ends =
    let l = last w.front text w.popped (clean-front w.front w.rest (subst IsClean w.whole clean)) w.name (sym (append_assoc text (92 ∷ []) w.popped) ∙ w.is) in
    let clean_front = clean-front l.front (w.popped ∷ w.rest) (subst IsClean (w.whole ∙ ap (λ (x : Path). x ++ w.rest) l.is ∙ append_assoc l.front (w.popped ∷ []) w.rest) clean) in
    let here : Ends by (if_passes (λ (e : ℕ × Row). same_path e.1.place l.front && is_met bits false (class_of e.1.filter e.1.subtree)) Matched) t' t'' =
    ends-test by (any_class classes text bits false) _ Matched t' t'' (rows-fit _ t' w.ends.ready (λ n r fit.
    ap (λ (s : List ℕ). any_class classes s bits false (n, r)) l.text ∙ any-all n r fit l.front clean_front bits false classes (small n r fit))) ends in
    let in_p : is_within (l.front ++ w.popped ∷ []) p ≡ true =
    subst (λ (x : Path). is_within x p ≡ true) l.is
    (subst (λ (x : Path). is_within w.front x ≡ true) (sym w.whole) (within-append w.front w.rest)) in
    record {
      front = l.front;
      rest = w.popped ∷ w.rest;
      popped = [];
      name = refl;
      is = append-nil text ∙ l.text;
      whole = w.whole ∙ ap (λ (x : Path). x ++ w.rest) l.is ∙ append_assoc l.front (w.popped ∷ []) w.rest;
      ends = ends-test by (λ (e : ℕ × Row). walked p w.front bits e || (same_path e.1.place l.front && is_met bits false (class_of e.1.filter e.1.subtree)))
          (walked p l.front bits) Matched t t''
          (each _ (λ e. bool-more (hit_itself p bits e) (is_under e.1.place p && is_within w.front e.1.place) (same_path e.1.place l.front)
          (is_met bits false (class_of e.1.filter e.1.subtree)) _
          (ap (λ (x : Path). (is_under e.1.place p && is_within x e.1.place) || same_path e.1.place l.front) l.is ∙
          upward p l.front w.popped e.1.place in_p)) t.rows.entries)
          (ends-or by (walked p w.front bits) _ Matched t t' t'' w.ends here);
    }

-- at a byte of a name
pub walked-on : (p : Path) (bits by : ℕ) (text : List ℕ) (b : ℕ) (t t' : Table) → IsClean p → (eqb b 92 ≡ false) → IsWalked p bits by (text ++ b ∷ []) t t' →
    IsWalked p bits by text t t'
walked-on p bits by text b t t' clean other w = record {
  front = w.front;
  rest = w.rest;
  popped = b ∷ w.popped;
  name = and_from _ _ (byte w.front text (clean-front w.front w.rest (subst IsClean w.whole clean)) joined) w.name;
  is = joined;
  whole = w.whole;
  ends = w.ends;
}
  where
    joined : text ++ b ∷ w.popped ≡ lead_of w.front
    joined = sym (append_assoc text (b ∷ []) w.popped) ∙ w.is

    -- each byte of a place's text is a backslash or a name's
    in_name : (m text s r : List ℕ) → list_all is_key_name_byte m ≡ true → text ++ b ∷ r ≡ m ++ s →
        ((u : List ℕ) → u ++ b ∷ r ≡ s → is_key_name_byte b ≡ true) → is_key_name_byte b ≡ true
    in_name [] text s r clean e f = f text e
    in_name (a ∷ m) [] s r clean e f = let same : a ≡ b = cc in ap is_key_name_byte (sym same) ∙
        (and_parts (is_key_name_byte a) (list_all is_key_name_byte m) clean).0
    in_name (a ∷ m) (c ∷ text) s r clean e f = in_name m text s r (and_parts (is_key_name_byte a) (list_all is_key_name_byte m) clean).1
        (let t : text ++ b ∷ r ≡ m ++ s = cc in t) f

    byte : (q : Path) (text : List ℕ) → IsClean q → text ++ b ∷ w.popped ≡ lead_of q → is_key_name_byte b ≡ true
    byte [] text c e = absurd (none text e)
      where
        none : (t : List ℕ) → t ++ b ∷ w.popped ≡ [] → ⊥
        none [] e = absurd (cc)
        none (a ∷ t) e = absurd (cc)
    byte (m ∷ q) [] c e = absurd (let same : b ≡ 92 = cc in false≢true (sym other ∙ eq-eqb b 92 same))
    byte (m ∷ q) (a ∷ text) c e = in_name m text (lead_of q) w.popped c.0 (let t : text ++ b ∷ w.popped ≡ m ++ lead_of q = cc in t) (λ u is. byte q u c.1 is)

-- at the beginning
pub walked-all : (p : Path) (bits by : ℕ) (t t' : Table) → IsWalked p bits by [] t t' → Ends by (if_passes (is_event_hit p bits) Matched) t t'
walked-all p bits by t t' w =
    let root = root_left w.front w.popped w.name w.is in
    ends-test by (walked p w.front bits) (is_event_hit p bits) Matched t t'
    (each _ (λ e. ap (λ (x : Path). walked p x bits e) root ∙ all e (is_under e.1.place p)) t.rows.entries) w.ends
  where
    all : (e : ℕ × Row) (u : Bool) → (hit_itself p bits e || (u && is_within [] e.1.place) && is_met bits false (class_of e.1.filter e.1.subtree)) ≡
        (hit_itself p bits e || u && is_met bits false (class_of e.1.filter e.1.subtree))
    all e true = refl
    all e false = refl
