-- The key at which a walk stands: its names as a path's text, and what is told of it.
use Rattle.std.proofs.Common.{◌≡◌, ◌≢◌, ℕ, ◌<◌, ◌==◌, ◌&&◌, not, nat_lt, nat_le, Bool, true, List, [], ◌∷◌, ◌++◌, length, map}
use Rattle.std.proofs.Common.{refl, sym, ap, ◌∙◌, subst, arith}
use Rattle.std.specs.Prelude.{flat_map}
use Rattle.std.specs.FinMap.{get}
use Rattle.std.specs.List.{AllByRecursion, list_all}
use Rattle.std.proofs.lemmas.Bool.{and_parts, and_from, ltb-true}
use Rattle.reg_names.specs.declared.TheConstants.{KEY_NAME_LIMIT, PATH_LIMIT}
use Rattle.reg_names.specs.Names.{folded, text_of, path_of, is_key_name, is_key_name_byte, is_value_name_byte, has_no_backslash}
use Rattle.reg_names.specs.Names.{are_key_names, is_path}
use Rattle.reg_names.proofs.PathTexts.{path_of-text_of}
use Rattle.reg_heap.specs.Paths.{Path, Tree}
use Rattle.reg_heap.specs.Edits.{folded_path}
use Rattle.reg_tree.specs.TreeKeys.{Keys}
use Rattle.reg_tree_text.specs.declared.walk.Walk.{Walk}
use Rattle.reg_tree_text.specs.DumpTexts.{Told}
use Rattle.reg_tree_text.specs.Internal.Gathered.{WriterState, IsSoFar}
use Rattle.reg_tree_text.specs.Internal.Walking.{Goes}
use Rattle.reg_tree_text.proofs.SentTexts.{opened, swapped}
use Rattle.reg_diff.specs.declared.ignored.Ignored.{Ignored}
use Rattle.reg_diff.specs.declared.side.Side.{Side}
use Rattle.reg_diff.specs.Differences.{key_changes, told_changes}
use Rattle.reg_diff.proofs.ToldKeys.{IsToldIn}

-- ---- names as a text

bytes-good : (name : List ℕ) → is_key_name name ≡ true → (list_all is_key_name_byte name ≡ true) × (0 < length name)
bytes-good name e =
    let front = and_parts (list_all is_key_name_byte name && nat_lt 0 (length name)) (nat_le (length name) KEY_NAME_LIMIT) e in
    let both = and_parts (list_all is_key_name_byte name) (nat_lt 0 (length name)) front.0 in
    (both.0, ltb-true 0 (length name) both.1)

unparted : (name : List ℕ) → list_all is_key_name_byte name ≡ true → has_no_backslash name ≡ true
unparted [] e = refl
unparted (b ∷ bs) e =
    let both = and_parts (is_key_name_byte b) (list_all is_key_name_byte bs) e in
    and_from (not (b == 92)) (has_no_backslash bs) (and_parts (is_value_name_byte b) (not (b == 92)) both.0).1 (unparted bs both.1)

all-unparted : (names : List (List ℕ)) → list_all is_key_name names ≡ true → list_all has_no_backslash names ≡ true
all-unparted [] e = refl
all-unparted (name ∷ names) e =
    let both = and_parts (is_key_name name) (list_all is_key_name names) e in
    and_from (has_no_backslash name) _ (unparted name (bytes-good name both.0).0) (all-unparted names both.1)

not-one-empty : (names : List (List ℕ)) → list_all is_key_name names ≡ true → names ≢ ([] ∷ [])
not-one-empty [] e same = cc
not-one-empty (name ∷ names) e same =
    let some = (bytes-good name (and_parts (is_key_name name) (list_all is_key_name names) e).0).1 in
    let none : length name ≡ 0 = ap (λ (x : List (List ℕ)). length (first x)) same in
    omega (arith, some, none)
  where
    first : List (List ℕ) → List ℕ
    first [] = []
    first (x ∷ xs) = x

pub read-back : (names : List (List ℕ)) → are_key_names PATH_LIMIT names ≡ true → path_of (text_of names) ≡ names
unfolding are_key_names
read-back names e =
    let all = (and_parts (list_all is_key_name names) (nat_le (length names) PATH_LIMIT) e).0 in
    path_of-text_of names (all-unparted names all) (not-one-empty names all)

pub text-path : (names : List (List ℕ)) (text : List ℕ) → text ≡ text_of names → are_key_names PATH_LIMIT names ≡ true → is_path text ≡ true
text-path names text t e = ap (are_key_names PATH_LIMIT) (ap path_of t ∙ read-back names e) ∙ e

-- a key's name is a path of one name
pub record IsOneName (name : List ℕ) : Type 0 where
  pub valid : is_path name ≡ true
  pub names : folded_path name ≡ folded name ∷ []

one-good : (limit : ℕ) (name : List ℕ) → nat_le 1 limit ≡ true → is_key_name name ≡ true → are_key_names limit (name ∷ []) ≡ true
unfolding are_key_names
one-good limit name few k = ap (λ (b : Bool). (b && true) && nat_le 1 limit) k ∙ few

pub one_name : (name : List ℕ) → is_key_name name ≡ true → IsOneName name
one_name name k =
    let good = one-good PATH_LIMIT name refl k in
    record { valid = text-path (name ∷ []) name refl good; names = ap (map folded) (read-back (name ∷ []) good) }

-- ---- what is told of a key

pub told-line : (ignored : Ignored) (side : Side) (other : Tree) (told : Told) (text : List ℕ) → text ≡ text_of told.names →
    are_key_names PATH_LIMIT told.names ≡ true → key_changes ignored side text told.key (get other (folded_path text)) ≡ told_changes ignored side other told
told-line ignored side other told text t e =
    ap (λ (x : List ℕ). key_changes ignored side x told.key (get other (folded_path x))) t
    ∙ ap (λ (names : List (List ℕ)). key_changes ignored side (text_of told.names) told.key (get other (map folded names))) (read-back told.names e)

-- ---- the key at which a walk stands

-- a walk goes over some keys, which are told of a tree at a path and below it
pub record IsTelling (keys : Keys) (top : Path) (walk : Walk) : Type 0 where
  pub now : List Told
  pub goes : Goes keys walk now
  pub told : AllByRecursion (IsToldIn keys.tree top) now

-- the first of them, and those behind it
pub first-told : (tree : Tree) (top : Path) (all rest : List Told) (here : Told) → all ≡ here ∷ rest → AllByRecursion (IsToldIn tree top) all →
    IsToldIn tree top here × AllByRecursion (IsToldIn tree top) rest
first-told tree top all rest here e a = subst (λ (told : List Told). AllByRecursion (IsToldIn tree top) told) e a

-- what is told of the first is next
pub key-next : (ignored : Ignored) (side : Side) (other : Tree) (begin now : WriterState) (whole : List ℕ) (all : List Told) (here : Told)
    (rest : List Told) (text left gathered : List ℕ) (written : ℕ) → all ≡ here ∷ rest → text ≡ text_of here.names →
    are_key_names PATH_LIMIT here.names ≡ true →
    IsSoFar begin now whole (flat_map (told_changes ignored side other) all ++ left) gathered written →
    IsSoFar begin now whole
    (key_changes ignored side text here.key (get other (folded_path text)) ++ (flat_map (told_changes ignored side other) rest ++ left)) gathered
    written
key-next ignored side other begin now whole all here rest text left gathered written first t e s =
    swapped begin now whole (told_changes ignored side other here) (key_changes ignored side text here.key (get other (folded_path text)))
    (flat_map (told_changes ignored side other) rest ++ left) gathered written
    (opened begin now whole (told_changes ignored side other here) (flat_map (told_changes ignored side other) rest) left gathered written
    (swapped begin now whole (flat_map (told_changes ignored side other) all) (flat_map (told_changes ignored side other) (here ∷ rest)) left
    gathered written s (sym (ap (flat_map (told_changes ignored side other)) first))))
    (told-line ignored side other here text t e)
