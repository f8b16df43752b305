-- Paths without their last names. The limit is a variable, so that nothing counts up to it.
use Rattle.std.proofs.Common.{◌≡◌, ℕ, ◌+◌, ◌-◌, ◌<◌, ◌≤◌, Bool, true, false, not, eqb, nat_le, List, [], ◌∷◌, ◌++◌, length, take, drop, get_or}
use Rattle.std.proofs.Common.{refl, sym, ap, ◌∙◌, subst, arith, length-append}
use Rattle.std.specs.List.{list_all}
use Rattle.std.proofs.lemmas.Bool.{and_parts, and_from, le-leb, leb-true, false≢true}
use Rattle.std.proofs.lemmas.List.{take-append-drop, drop_more, append_assoc, append-nil}
use Rattle.std.proofs.lemmas.List.Folds.{list_all-append}
use Rattle.std.proofs.lemmas.List.Splits.{slice_split-cons_no}
use Rattle.reg_names.specs.Names.{is_backslash, is_key_name, are_key_names, has_no_backslash, path_of}
use Rattle.reg_names.proofs.PathJoins.{parts, parts-joined}
use Rattle.reg_heap.specs.Paths.{Path}
use Rattle.reg_heap.specs.Edits.{above}
use Rattle.reg_model.proofs.FewEvents.{above-push, snoc}

-- ---- the last name

-- a text without a backslash is one name
one-part : (text : List ℕ) → has_no_backslash text ≡ true → parts text ≡ text ∷ []
one-part [] none = refl
one-part (x ∷ xs) none =
    let b = and_parts (not (eqb x 92)) (has_no_backslash xs) none in
    slice_split-cons_no is_backslash x xs (no (eqb x 92) b.0) ∙ rw (one-part xs b.1) refl
  where
    no : (b : Bool) → not b ≡ true → b ≡ false
    no true e = absurd (false≢true e)
    no false e = refl

-- the names but the last of a path are a path's
front-names : (limit : ℕ) (names : List (List ℕ)) (name : List ℕ) → are_key_names limit (names ++ name ∷ []) ≡ true → are_key_names limit names ≡ true
unfolding are_key_names
front-names limit names name e =
    let b = and_parts (list_all is_key_name (names ++ name ∷ [])) (nat_le (length (names ++ name ∷ [])) limit) e in
    let each = and_parts (list_all is_key_name names) _ (sym (list_all-append is_key_name names (name ∷ [])) ∙ b.0) in
    let most = leb-true (length (names ++ name ∷ [])) limit b.1 in
    let l = length-append names (name ∷ []) in
    and_from _ _ each.0 (le-leb (length names) limit (omega (arith, most, l)))

-- none of them is empty
no-empty : (limit : ℕ) (names : List (List ℕ)) → are_key_names limit (parts [] ++ names) ≡ true → ⊥
unfolding are_key_names
no-empty limit names e = false≢true (and_parts (list_all is_key_name (parts [] ++ names)) (nat_le (length (parts [] ++ names)) limit) e).0

path-parts : (x : ℕ) (text : List ℕ) → path_of (x ∷ text) ≡ parts (x ∷ text)
path-parts x text = refl

-- a path that ends with a backslash and a name, without them
pub record IsFront (limit : ℕ) (front text : List ℕ) : Type 0 where
  pub names : path_of front ≡ above (path_of text)
  pub valid : are_key_names limit (path_of front) ≡ true

text-parts : (front name : List ℕ) → path_of (front ++ 92 ∷ name) ≡ parts (front ++ 92 ∷ name)
text-parts [] name = refl
text-parts (x ∷ front) name = refl

front-is : (limit : ℕ) (front name : List ℕ) → has_no_backslash name ≡ true → are_key_names limit (path_of (front ++ 92 ∷ name)) ≡ true → IsFront limit front (front ++ 92 ∷ name)
front-is limit front name one valid = by front split (subst (λ (ns : List (List ℕ)). are_key_names limit ns ≡ true) split valid)
  where
    split : path_of (front ++ 92 ∷ name) ≡ parts front ++ name ∷ []
    split = text-parts front name ∙ parts-joined front name ∙ ap (λ (ps : List (List ℕ)). parts front ++ ps) (one-part name one)

    by : (f : List ℕ) → path_of (f ++ 92 ∷ name) ≡ parts f ++ name ∷ [] → are_key_names limit (parts f ++ name ∷ []) ≡ true → IsFront limit f (f ++ 92 ∷ name)
    by [] is good = absurd (no-empty limit (name ∷ []) good)
    by (x ∷ f) is good = record { names = sym (ap above is ∙ above-push (parts (x ∷ f)) name); valid = front-names limit (parts (x ∷ f)) name good }

-- the text in front of the place where a path's last name begins
module _ (limit : ℕ) (text : List ℕ) (start : ℕ) (within : start ≤ length text) (one : has_no_backslash (drop start text) ≡ true)
    (cut : 0 < start → get_or text (start - 1) 0 ≡ 92) (valid : are_key_names limit (path_of text) ≡ true) where
  pub front-at : 0 < start → IsFront limit (take (start - 1) text) text
  front-at some =
      let here = drop_more text (start - 1) 0 (omega (arith, within, some)) in
      let next : start - 1 + 1 ≡ start = omega (arith, some) in
      let rest = here ∙ ap (λ (b : ℕ). b ∷ drop (start - 1 + 1) text) (cut some) ∙ ap (λ (k : ℕ). 92 ∷ drop k text) next in
      let whole : take (start - 1) text ++ 92 ∷ drop start text ≡ text = ap (λ (r : List ℕ). take (start - 1) text ++ r) (sym rest) ∙ take-append-drop (start - 1) text in
      subst (IsFront limit (take (start - 1) text)) whole
      (front-is limit (take (start - 1) text) (drop start text) one (subst (λ (t : List ℕ). are_key_names limit (path_of t) ≡ true) (sym whole) valid))

-- of a path of one name, or of none, no name is left
pub front-none : (text : List ℕ) → has_no_backslash text ≡ true → path_of [] ≡ above (path_of text)
front-none [] one = refl
front-none (x ∷ xs) one = sym (ap above (one-part (x ∷ xs) one))

pub no-names : (limit : ℕ) → are_key_names limit (path_of []) ≡ true
unfolding are_key_names
no-names limit = le-leb 0 limit (omega arith)

-- ---- several names

-- a path is a front of a whole one, and as many names behind it as some that are left
abbrev pub IsCutTo : Path → Path → Path → Path → Type 0
IsCutTo whole names now left =
    (front behind : Path) → whole ≡ front ++ behind → length behind ≡ length names → (more : Path) × (now ≡ front ++ more) × (length more ≡ length left)

pub cut-none : (whole names : Path) → IsCutTo whole names whole names
cut-none whole names = λ front behind is long. (behind, is, long)

pub cut-more : (whole names now left left' : Path) (name : List ℕ) → IsCutTo whole names now left → left ≡ name ∷ left' → (now' : Path) → now' ≡ above now → IsCutTo whole names now' left'
cut-more whole names now left left' name cut is now' one = λ front behind e long. by front (cut front behind e long).0 (cut front behind e long).1 (cut front behind e long).2
  where
    by : (front more : Path) → now ≡ front ++ more → length more ≡ length left → (m : Path) × (now' ≡ front ++ m) × (length m ≡ length left')
    by front [] e long = let l = ap (λ (p : Path). length p) is in absurd (omega (arith, long, l))
    by front (x ∷ more) e long =
        let s = snoc x more in
        let l = ap (λ (p : Path). length p) is in
        let m = ap (λ (p : Path). length p) s.is in
        let a = length-append s.front (s.name ∷ []) in (
          s.front,
          one ∙ ap above (e ∙ ap (λ (p : Path). front ++ p) s.is ∙ sym (append_assoc front s.front (s.name ∷ []))) ∙ above-push (front ++ s.front) s.name,
          omega (arith, long, l, m, a),
        )

pub cut-all : (whole names now left : Path) → IsCutTo whole names now left → left ≡ [] → (front behind : Path) → whole ≡ front ++ behind → length behind ≡ length names → now ≡ front
cut-all whole names now left cut none front behind e long = by (cut front behind e long).0 (cut front behind e long).1 (cut front behind e long).2
  where
    by : (more : Path) → now ≡ front ++ more → length more ≡ length left → now ≡ front
    by [] is l = is ∙ append-nil front
    by (x ∷ more) is l = let n = ap (λ (p : Path). length p) none in absurd (omega (arith, l, n))
