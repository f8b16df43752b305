-- The text of a tree, computed at trees that were worked out by hand.
use Rattle.std.proofs.Common.{◌≡◌, ℕ, zero, suc, ◌+◌, List, [], ◌∷◌, ◌++◌, map, Option, refl, ap, ◌∙◌}
use Rattle.std.specs.Prelude.{codes, filter, flat_map}
use Rattle.std.specs.FinMap.{from_sorted, entries-from_sorted, get-from_sorted, get}
use Rattle.std.specs.FinMap.Entries.{find}
use Rattle.std.specs.Fmt.{digits}
use Rattle.hex.proofs.OnLiterals.{hex_on_literals}
use Rattle.reg_names.specs.declared.TheConstants.{PATH_LIMIT}
use Rattle.reg_heap.specs.Paths.{Path, Tree, Rec, Member, path_cmp, is_child, children_of}
use Rattle.reg_text.specs.Texts.{byte_text, escaped, line_feed}
use Rattle.reg_tree_text.specs.DumpTexts.{Told, name_of, told_here, told_from, keys_told, key_line, value_line, key_lines, counts_text, dump_text, check_text}

-- ---- the recursion, over functions that compute

told_by : ℕ → (Path → Option Rec) → (Path → List Path) → List (List ℕ) → Path → List Told
told_by zero at below names path = []
told_by (suc levels) at below names path =
    told_here names (at path) ++ flat_map (λ child. told_by levels at below (names ++ name_of (at child) ∷ []) child) (below path)

each-same : (f g : Path → List Told) → ((p : Path) → f p ≡ g p) → (ps : List Path) → flat_map f ps ≡ flat_map g ps
each-same f g h [] = refl
each-same f g h (p ∷ ps) = ap (λ (x : List Told). x ++ flat_map f ps) (h p) ∙ ap (λ (x : List Told). g p ++ x) (each-same f g h ps)

told-same : (tree : Tree) (at : Path → Option Rec) (below : Path → List Path) → ((p : Path) → get tree p ≡ at p) →
    ((p : Path) → children_of tree p ≡ below p) →
    (levels : ℕ) (names : List (List ℕ)) (path : Path) → told_from levels tree names path ≡ told_by levels at below names path
unfolding told_by told_from
told-same tree at below a b zero names path = refl
told-same tree at below a b (suc levels) names path =
    ap (λ (o : Option Rec). told_here names o ++ flat_map (λ child. told_from levels tree (names ++ name_of (get tree child) ∷ []) child)
    (children_of tree path)) (a path)
    ∙ ap (λ (x : List Told). told_here names (at path) ++ x)
    (ap (flat_map (λ child. told_from levels tree (names ++ name_of (get tree child) ∷ []) child)) (b path)
    ∙ each-same _ _
    (λ child.
    ap (λ (o : Option Rec). told_from levels tree (names ++ name_of o ∷ []) child) (a child)
    ∙ told-same tree at below a b levels (names ++ name_of (at child) ∷ []) child)
    (below path))

-- ---- a tree of four keys, one with two values

abbrev descriptor : List ℕ
descriptor = 1 ∷ 0 ∷ 4 ∷ 128 ∷ []

abbrev key : List ℕ → ℕ → List Member → Rec
key name marks values = record { name = name; marks = marks; class = []; descriptor = descriptor; time = 7; values = values }

abbrev values : List Member
values = record { name = codes "v"; kind = 4; bytes = 1 ∷ 0 ∷ 0 ∷ 0 ∷ [] } ∷ record { name = []; kind = 1; bytes = [] } ∷ []

abbrev entries : List (Path × Rec)
entries =
    ([], key (codes "ROOT") 8 []) ∷ (codes "A" ∷ [], key (codes "A") 0 []) ∷ (codes "A" ∷ codes "C" ∷ [], key (codes "c") 0 [])
    ∷ (codes "B" ∷ [], key (codes "b") 0 values) ∷ []

abbrev tree : Tree
tree = from_sorted entries

abbrev at : Path → Option Rec
at p = find path_cmp p entries

abbrev below : Path → List Path
below p = filter (is_child p) (map (λ (e : Path × Rec). e.0) entries)

at-same : (p : Path) → get tree p ≡ at p
at-same p = get-from_sorted path_cmp entries p tt

below-same : (p : Path) → children_of tree p ≡ below p
below-same p =
    ap (λ (es : List (Path × Rec)). filter (is_child p) (map (λ (e : Path × Rec). e.0) es)) (entries-from_sorted path_cmp entries tt)

told : List Told
told =
    record { names = []; key = key (codes "ROOT") 8 [] } ∷ record { names = codes "A" ∷ []; key = key (codes "A") 0 [] }
    ∷ record { names = codes "A" ∷ codes "c" ∷ []; key = key (codes "c") 0 [] } ∷ record {
      names = codes "b" ∷ [];
      key = key
          (codes "b") 0 values;
    } ∷ []

-- each key behind the one above it, and its values in between
told-is : keys_told tree ≡ told
unfolding keys_told told told_by
told-is = told-same tree at below at-same below-same (PATH_LIMIT + 1) [] [] ∙ refl

-- ---- its lines

lines-root : key_line (record { names = []; key = key (codes "ROOT") 8 [] }) ≡ codes "key = marks 8 class x security x01000480 time 7\n"
unfolding digits hex_on_literals byte_text
lines-root = refl

-- the names as given, and not folded
lines-inner : key_line
    (record {
      names = codes "A" ∷ codes "c" ∷ [];
      key = key (codes "c") 0
          [];
    }) ≡ codes "key =A\\c marks 0 class x security x01000480 time 7\n"
unfolding digits hex_on_literals byte_text
lines-inner = refl

-- escaped as in replies, but for the backslashes between names; and a class
lines-escaped : key_line
    (record {
      names = codes "a b" ∷ codes "50%" ∷
          [];
      key = record {
        name = codes "50%";
        marks = 65432;
        class = 0 ∷ 255 ∷ [];
        descriptor = 171 ∷
            [];
        time = 116444736000000000;
        values = [];
      };
    }) ≡
    codes "key =a%20b\\50%25 marks 65432 class x00ff security xab time 116444736000000000\n"
unfolding digits hex_on_literals byte_text
lines-escaped = refl

lines-value : value_line (record { name = codes "v"; kind = 4; bytes = 1 ∷ 0 ∷ 0 ∷ 0 ∷ [] }) ≡ codes "value =v type 4 x01000000\n"
unfolding digits hex_on_literals byte_text
lines-value = refl

lines-default : value_line (record { name = []; kind = 1; bytes = [] }) ≡ codes "value = type 1 x\n"
unfolding digits hex_on_literals
lines-default = refl

-- ---- all of it

dumped : dump_text tree ≡
    codes "root =ROOT\nkey = marks 8 class x security x01000480 time 7\nkey =A marks 0 class x security x01000480 time 7\n"
    ++ (codes "key =A\\c marks 0 class x security x01000480 time 7\nkey =b marks 0 class x security x01000480 time 7\n"
    ++ codes "value =v type 4 x01000000\nvalue = type 1 x\nkeys 4 values 2\n")
unfolding dump_text told digits hex_on_literals byte_text
dumped =
    ap (λ (o : Option Rec). root_named o ++ (flat_map key_lines (keys_told tree) ++ counts_text (keys_told tree))) (at-same [])
    ∙ ap (λ (ts : List Told). root_named (at []) ++ (flat_map key_lines ts ++ counts_text ts)) told-is
  where
    root_named : Option Rec → List ℕ
    root_named o = codes "root =" ++ (escaped (name_of o) ++ line_feed)

checked : check_text tree ≡ codes "ok keys 4 values 2\n"
unfolding check_text told digits
checked = ap (λ (ts : List Told). codes "ok " ++ counts_text ts) told-is
