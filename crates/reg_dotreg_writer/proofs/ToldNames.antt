-- The names of all keys that are told are characters of ASCII, so a file is told piece by piece.
use Rattle.std.proofs.Common.{◌≡◌, ℕ, zero, suc, ◌+◌, ◌==◌, ◌&&◌, Bool, true, not, List, [], ◌∷◌, ◌++◌, length, Option, Some, None, refl}
use Rattle.std.proofs.Common.{sym, ap, ◌∙◌, arith, append_assoc}
use Rattle.std.specs.Prelude.{nat_lt, nat_le, flat_map}
use Rattle.std.specs.FinMap.{get}
use Rattle.std.specs.List.{list_all, AllByRecursion}
use Rattle.std.proofs.lemmas.Bool.{and_parts, and_from}
use Rattle.std.proofs.lemmas.Bool.Decides.{nat_tests}
use Rattle.std.proofs.lemmas.List.Folds.{list_all-append}
use Rattle.reg_names.specs.declared.TheConstants.{KEY_NAME_LIMIT, VALUE_NAME_LIMIT, PATH_LIMIT}
use Rattle.reg_names.specs.Names.{is_key_name, is_key_name_byte, is_value_name, is_value_name_byte}
use Rattle.reg_heap.specs.Paths.{Path, Tree, Rec, Member, children_of}
use Rattle.reg_heap.specs.Trees.{IsWithinLimits, IsSmallValue}
use Rattle.reg_tree_text.specs.DumpTexts.{name_of, told_here, told_from}
use Rattle.reg_dotreg_writer.specs.Entries.{names_behind, names_to, keys_from, heading, key_block, entries_text, mark, file_bytes}
use Rattle.reg_dotreg_writer.specs.Internal.Pieces.{plain, block_pieces, head_pieces, file_pieces}
use Rattle.reg_dotreg_writer.proofs.EncodedTexts.{IsWell, are_ascii, ascii-well, ascii-before, well-append}
use Rattle.reg_dotreg_writer.proofs.WholeEntries.{is_ascii_named, is_ascii_told, blocks-well, blocks-encoded}

-- ---- names

byte-ascii : (b : ℕ) → is_value_name_byte b ≡ true → nat_lt b 128 ≡ true
byte-ascii b e = let both = and_parts (nat_le 1 b) (nat_le b 127) e in grind (arith, nat_tests, both.1)

pub value-bytes : (name : List ℕ) → list_all is_value_name_byte name ≡ true → are_ascii name ≡ true
value-bytes [] e = refl
value-bytes (b ∷ name) e =
    let both = and_parts (is_value_name_byte b) (list_all is_value_name_byte name) e in
    and_from (nat_lt b 128) (are_ascii name) (byte-ascii b both.0) (value-bytes name both.1)

key-bytes : (name : List ℕ) → list_all is_key_name_byte name ≡ true → are_ascii name ≡ true
key-bytes [] e = refl
key-bytes (b ∷ name) e =
    let both = and_parts (is_key_name_byte b) (list_all is_key_name_byte name) e in
    and_from (nat_lt b 128) (are_ascii name) (byte-ascii b (and_parts (is_value_name_byte b) (not (b == 92)) both.0).0) (key-bytes name both.1)

key-name : (name : List ℕ) → is_key_name name ≡ true → are_ascii name ≡ true
key-name name e =
    key-bytes name (and_parts (list_all is_key_name_byte name) (nat_lt 0 (length name))
    (and_parts (list_all is_key_name_byte name && nat_lt 0 (length name)) (nat_le (length name) KEY_NAME_LIMIT) e).0).0

value-name : (name : List ℕ) → is_value_name name ≡ true → are_ascii name ≡ true
value-name name e = value-bytes name (and_parts (list_all is_value_name_byte name) (nat_le (length name) VALUE_NAME_LIMIT) e).0

values-ascii : (values : List Member) → AllByRecursion IsSmallValue values → list_all is_ascii_named values ≡ true
values-ascii [] a = refl
values-ascii (v ∷ values) a = and_from (are_ascii v.name) (list_all is_ascii_named values) (value-name v.name a.0.name) (values-ascii values a.1)

-- ---- keys

module _ (tree : Tree) (limits : IsWithinLimits tree) where
  pub found-ascii : (path : Path) → are_ascii (name_of (get tree path)) ≡ true
  found-ascii path = by (get tree path) refl
    where
      by : (o : Option Rec) → get tree path ≡ o → are_ascii (name_of o) ≡ true
      by None e = refl
      by (Some r) e = key-name r.name (limits.keys path r e).name

  behind-ascii : (path rest : Path) → list_all are_ascii (names_behind tree path rest) ≡ true
  behind-ascii path [] = refl
  behind-ascii path (name ∷ rest) =
      and_from (are_ascii (name_of (get tree (path ++ name ∷ [])))) (list_all are_ascii (names_behind tree (path ++ name ∷ []) rest))
      (found-ascii (path ++ name ∷ [])) (behind-ascii (path ++ name ∷ []) rest)

  names-ascii : (root : List ℕ) → are_ascii root ≡ true → (path : Path) → list_all are_ascii (names_to root tree path) ≡ true
  names-ascii root r path = and_from (are_ascii root) (list_all are_ascii (names_behind tree [] path)) r (behind-ascii [] path)

  here-ascii : (names : List (List ℕ)) (path : Path) → list_all are_ascii names ≡ true →
      list_all is_ascii_told (told_here names (get tree path)) ≡ true
  here-ascii names path e = by (get tree path) refl
    where
      by : (o : Option Rec) → get tree path ≡ o → list_all is_ascii_told (told_here names o) ≡ true
      by None f = refl
      by (Some r) f =
          and_from (list_all are_ascii names && list_all is_ascii_named r.values) true
          (and_from (list_all are_ascii names) (list_all is_ascii_named r.values) e (values-ascii r.values (limits.keys path r f).values)) refl

  abbrev below_name : List (List ℕ) → Path → List (List ℕ)
  below_name names child = names ++ name_of (get tree child) ∷ []

  below-ascii : (levels : ℕ) →
      ((names : List (List ℕ)) (path : Path) → list_all are_ascii names ≡ true → list_all is_ascii_told (told_from levels tree names path) ≡ true) →
      (names : List (List ℕ)) → list_all are_ascii names ≡ true → (children : List Path) →
      list_all is_ascii_told (flat_map (λ child. told_from levels tree (below_name names child) child) children) ≡ true
  below-ascii levels each names e [] = refl
  below-ascii levels each names e (child ∷ children) =
      let name : list_all are_ascii (below_name names child) ≡ true =
      list_all-append are_ascii names (name_of (get tree child) ∷ [])
      ∙ and_from (list_all are_ascii names) (are_ascii (name_of (get tree child)) && true) e
      (and_from (are_ascii (name_of (get tree child))) true (found-ascii child) refl) in
      list_all-append is_ascii_told (told_from levels tree (below_name names child) child)
      (flat_map (λ child. told_from levels tree (below_name names child) child) children)
      ∙ and_from (list_all is_ascii_told (told_from levels tree (below_name names child) child))
      (list_all is_ascii_told (flat_map (λ child. told_from levels tree (below_name names child) child) children))
      (each (below_name names child) child name) (below-ascii levels each names e children)

  pub told-ascii : (levels : ℕ) (names : List (List ℕ)) (path : Path) → list_all are_ascii names ≡ true →
      list_all is_ascii_told (told_from levels tree names path) ≡ true
  unfolding told_from
  told-ascii zero names path e = refl
  told-ascii (suc levels) names path e =
      list_all-append is_ascii_told (told_here names (get tree path))
      (flat_map (λ child. told_from levels tree (below_name names child) child) (children_of tree path))
      ∙ and_from (list_all is_ascii_told (told_here names (get tree path)))
      (list_all is_ascii_told (flat_map (λ child. told_from levels tree (below_name names child) child) (children_of tree path)))
      (here-ascii names path e) (below-ascii levels (told-ascii levels) names e (children_of tree path))

  pub keys-ascii : (root : List ℕ) → are_ascii root ≡ true → (path : Path) → list_all is_ascii_told (keys_from root tree path) ≡ true
  unfolding keys_from
  keys-ascii root r path = told-ascii (PATH_LIMIT + 1) (names_to root tree path) path (names-ascii root r path)

  -- ---- the file

  pub text-well : (root : List ℕ) → are_ascii root ≡ true → (path : Path) → IsWell (entries_text root tree path)
  unfolding entries_text heading
  text-well root r path =
      well-append heading (flat_map key_block (keys_from root tree path)) (ascii-well heading refl)
      (blocks-well (keys_from root tree path) (keys-ascii root r path))

  pub file-told : (root : List ℕ) → are_ascii root ≡ true → (u : Bool) (path : Path) → file_pieces u root tree path ≡ file_bytes u (entries_text root tree path)
  unfolding file_pieces head_pieces file_bytes entries_text heading
  file-told root r u path =
      append_assoc (mark u) (plain u heading) (flat_map (block_pieces u) (keys_from root tree path))
      ∙ ap (λ (x : List ℕ). mark u ++ x)
      (ap (λ (x : List ℕ). plain u heading ++ x) (sym (blocks-encoded u (keys_from root tree path) (keys-ascii root r path)))
      ∙ sym (ascii-before u heading (flat_map key_block (keys_from root tree path)) refl))
