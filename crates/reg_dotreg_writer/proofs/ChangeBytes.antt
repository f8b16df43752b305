-- The names of all that changes are characters of ASCII, so a file of changes is told piece by piece.
use Rattle.std.proofs.Common.{◌≡◌, ℕ, ◌+◌, ◌&&◌, ◌||◌, Bool, true, false, not, cond, List, [], ◌∷◌, ◌++◌, Option, is_some, refl, sym, ap, ◌∙◌, append_assoc}
use Rattle.std.specs.Prelude.{if◌then◌else◌, flat_map, filter, map}
use Rattle.std.specs.FinMap.{get}
use Rattle.std.specs.List.{list_all, list_any}
use Rattle.std.proofs.lemmas.Bool.{and_parts, and_from}
use Rattle.std.proofs.lemmas.List.Folds.{list_all-append}
use Rattle.reg_names.specs.declared.TheConstants.{PATH_LIMIT}
use Rattle.reg_names.specs.Names.{folded, text_of}
use Rattle.reg_heap.specs.Paths.{Tree, Rec, Member}
use Rattle.reg_heap.specs.Trees.{IsWithinLimits}
use Rattle.reg_tree_text.specs.DumpTexts.{Told, name_of, keys_told}
use Rattle.reg_dotreg_writer.specs.EntryTexts.{line_end, name_told}
use Rattle.reg_dotreg_writer.specs.Entries.{heading, key_line, encoded, mark, file_bytes}
use Rattle.reg_dotreg_writer.specs.Changes.{Change, is_new, is_told, change_here, changes_of, changes, rooted, gone_line, value_change}
use Rattle.reg_dotreg_writer.specs.Changes.{change_line, change_block, changes_text}
use Rattle.reg_dotreg_writer.specs.Internal.Pieces.{plain, head_pieces}
use Rattle.reg_dotreg_writer.specs.Internal.ChangePieces.{value_pieces, change_pieces, changes_pieces}
use Rattle.reg_dotreg_writer.specs.declared.side.Side.{Side}
use Rattle.reg_dotreg_writer.specs.declared.side.Side.TheVariants.{Old, New}
use Rattle.reg_dotreg_writer.proofs.PieceBytes.{plain-none}
use Rattle.reg_dotreg_writer.proofs.EncodedTexts.{IsWell, are_ascii, ascii-well, ascii-before, ascii-append, ascii-encoded, well-append, encoded-append}
use Rattle.reg_dotreg_writer.proofs.WholeEntries.{is_ascii_named, is_ascii_told, name-ascii, text-ascii, line-ascii, entry-well, entry-encoded}
use Rattle.reg_dotreg_writer.proofs.ToldNames.{told-ascii, found-ascii}

-- ---- values

gone-ascii : (name : List ℕ) → are_ascii name ≡ true → are_ascii (name_told name ++ (61 ∷ 45 ∷ line_end)) ≡ true
gone-ascii name e = ascii-append (name_told name) (61 ∷ 45 ∷ line_end) (name-ascii name e) refl

value-well : (side : Side) (v : Member) → are_ascii v.name ≡ true → IsWell (value_change side v)
value-well Old v e = ascii-well (value_change Old v) (gone-ascii v.name e)
value-well New v e = entry-well v.name v.kind v.bytes e

value-encoded : (u : Bool) (side : Side) (v : Member) → are_ascii v.name ≡ true → encoded u (value_change side v) ≡ value_pieces u side v
value-encoded u Old v e =
    ascii-before u (name_told v.name) (61 ∷ 45 ∷ line_end) (name-ascii v.name e)
    ∙ ap (λ (x : List ℕ). plain u (name_told v.name) ++ x) (ascii-encoded u (61 ∷ 45 ∷ line_end) refl)
value-encoded u New v e = entry-encoded u v.name v.kind v.bytes e

values-well : (side : Side) (values : List Member) → list_all is_ascii_named values ≡ true → IsWell (flat_map (value_change side) values)
values-well side [] e = ascii-well [] refl
values-well side (v ∷ values) e =
    let both = and_parts (are_ascii v.name) (list_all is_ascii_named values) e in
    well-append (value_change side v) (flat_map (value_change side) values) (value-well side v both.0) (values-well side values both.1)

values-encoded : (u : Bool) (side : Side) (values : List Member) → list_all is_ascii_named values ≡ true →
    encoded u (flat_map (value_change side) values) ≡ flat_map (value_pieces u side) values
values-encoded u side [] e = ascii-encoded u [] refl ∙ plain-none u
values-encoded u side (v ∷ values) e =
    let both = and_parts (are_ascii v.name) (list_all is_ascii_named values) e in
    encoded-append u (value_change side v) (flat_map (value_change side) values) (value-well side v both.0)
    ∙ (ap (λ (x : List ℕ). x ++ encoded u (flat_map (value_change side) values)) (value-encoded u side v both.0)
    ∙ ap (λ (x : List ℕ). value_pieces u side v ++ x) (values-encoded u side values both.1))

-- ---- blocks

rooted-ascii : (root path : List ℕ) → are_ascii root ≡ true → are_ascii path ≡ true → are_ascii (rooted root path) ≡ true
rooted-ascii root [] r e = r
rooted-ascii root (b ∷ path) r e = ascii-append root (92 ∷ b ∷ path) r e

gone-line-ascii : (path : List ℕ) → are_ascii path ≡ true → are_ascii (gone_line path) ≡ true
unfolding gone_line
gone-line-ascii path e = ascii-append path (93 ∷ line_end) e refl

-- names of ASCII
abbrev pub is_ascii_change : Change → Bool
is_ascii_change change = are_ascii change.path && list_all is_ascii_named change.values

module _ (root : List ℕ) (r : are_ascii root ≡ true) where
  line-ascii-of : (change : Change) → are_ascii change.path ≡ true → are_ascii (change_line root change) ≡ true
  line-ascii-of change e =
      let all = rooted-ascii root change.path r e in
      by (change.is_alone && not (is_new change.side)) (gone-line-ascii (rooted root change.path) all) (line-ascii (rooted root change.path) all)
    where
      by : (b : Bool) → are_ascii (gone_line (rooted root change.path)) ≡ true → are_ascii (key_line (rooted root change.path)) ≡ true →
          are_ascii (if b then gone_line (rooted root change.path) else key_line (rooted root change.path)) ≡ true
      by true x y = x
      by false x y = y

  block-well : (change : Change) → is_ascii_change change ≡ true → IsWell (change_block root change)
  block-well change e =
      let both = and_parts (are_ascii change.path) (list_all is_ascii_named change.values) e in
      well-append (change_line root change) (flat_map (value_change change.side) change.values ++ line_end)
      (ascii-well (change_line root change) (line-ascii-of change both.0))
      (well-append (flat_map (value_change change.side) change.values) line_end (values-well change.side change.values both.1)
      (ascii-well line_end refl))

  blocks-well : (all : List Change) → list_all is_ascii_change all ≡ true → IsWell (flat_map (change_block root) all)
  blocks-well [] e = ascii-well [] refl
  blocks-well (c ∷ all) e =
      let both = and_parts (is_ascii_change c) (list_all is_ascii_change all) e in
      well-append (change_block root c) (flat_map (change_block root) all) (block-well c both.0) (blocks-well all both.1)

  block-encoded : (u : Bool) (change : Change) → is_ascii_change change ≡ true → encoded u (change_block root change) ≡ change_pieces u root change
  block-encoded u change e =
      let both = and_parts (are_ascii change.path) (list_all is_ascii_named change.values) e in
      let values : List ℕ = flat_map (value_change change.side) change.values in
      ascii-before u (change_line root change) (values ++ line_end) (line-ascii-of change both.0)
      ∙ ap (λ (x : List ℕ). plain u (change_line root change) ++ x)
      (encoded-append u values line_end (values-well change.side change.values both.1)
      ∙ (ap (λ (x : List ℕ). x ++ encoded u line_end) (values-encoded u change.side change.values both.1)
      ∙ ap (λ (x : List ℕ). flat_map (value_pieces u change.side) change.values ++ x) (ascii-encoded u line_end refl)))

  blocks-encoded : (u : Bool) (all : List Change) → list_all is_ascii_change all ≡ true →
      encoded u (flat_map (change_block root) all) ≡ flat_map (change_pieces u root) all
  blocks-encoded u [] e = ascii-encoded u [] refl ∙ plain-none u
  blocks-encoded u (c ∷ all) e =
      let both = and_parts (is_ascii_change c) (list_all is_ascii_change all) e in
      encoded-append u (change_block root c) (flat_map (change_block root) all) (block-well c both.0)
      ∙ (ap (λ (x : List ℕ). x ++ encoded u (flat_map (change_block root) all)) (block-encoded u c both.0)
      ∙ ap (λ (x : List ℕ). change_pieces u root c ++ x) (blocks-encoded u all both.1))

-- ---- what is told of a tree

kept-all : {A : Type 0} (p f : A → Bool) (xs : List A) → list_all p xs ≡ true → list_all p (filter f xs) ≡ true
kept-all p f [] e = refl
kept-all p f (x ∷ xs) e =
    let both = and_parts (p x) (list_all p xs) e in by (f x) both.0 (kept-all p f xs both.1)
  where
    by : (b : Bool) → p x ≡ true → list_all p (filter f xs) ≡ true → list_all p (cond b (x ∷ filter f xs) (filter f xs)) ≡ true
    by true h t = and_from (p x) (list_all p (filter f xs)) h t
    by false h t = t

here-ascii : (side : Side) (told : Told) (other : Option Rec) → is_ascii_told told ≡ true →
    list_all is_ascii_change (change_here side (text_of told.names) told.key other) ≡ true
here-ascii side told other e =
    by (not (is_some other) || list_any (is_told other side) told.key.values)
  where
    by : (b : Bool) → list_all is_ascii_change (if b
        then record { side = side; is_alone = not (is_some other); path = text_of told.names; values = filter (is_told other side) told.key.values } ∷ []
        else []) ≡ true
    by true =
        let both = and_parts (list_all are_ascii told.names) (list_all is_ascii_named told.key.values) e in
        and_from (are_ascii (text_of told.names) && list_all is_ascii_named (filter (is_told other side) told.key.values)) true
        (and_from (are_ascii (text_of told.names)) (list_all is_ascii_named (filter (is_told other side) told.key.values))
        (text-ascii told.names both.0) (kept-all is_ascii_named (is_told other side) told.key.values both.1)) refl
    by false = refl

all-ascii : (side : Side) (other : Tree) (all : List Told) → list_all is_ascii_told all ≡ true →
    list_all is_ascii_change (flat_map (λ (told : Told). change_here side (text_of told.names) told.key (get other (map folded told.names))) all)
    ≡ true
all-ascii side other [] e = refl
all-ascii side other (t ∷ all) e =
    let both = and_parts (is_ascii_told t) (list_all is_ascii_told all) e in
    let first : List Change = change_here side (text_of t.names) t.key (get other (map folded t.names)) in
    let rest : List Change =
    flat_map (λ (told : Told). change_here side (text_of told.names) told.key (get other (map folded told.names))) all in
    list_all-append is_ascii_change first rest
    ∙ and_from (list_all is_ascii_change first) (list_all is_ascii_change rest) (here-ascii side t (get other (map folded t.names)) both.0)
    (all-ascii side other all both.1)

keys-ascii : (tree : Tree) → IsWithinLimits tree → list_all is_ascii_told (keys_told tree) ≡ true
unfolding keys_told
keys-ascii tree limits = told-ascii tree limits (PATH_LIMIT + 1) [] [] refl

module _ (old new : Tree) (old_limits : IsWithinLimits old) (new_limits : IsWithinLimits new) where
  pub changes-ascii : list_all is_ascii_change (changes old new) ≡ true
  unfolding changes
  changes-ascii =
      list_all-append is_ascii_change (changes_of Old old new) (changes_of New new old)
      ∙ and_from (list_all is_ascii_change (changes_of Old old new)) (list_all is_ascii_change (changes_of New new old))
      (all-ascii Old new (keys_told old) (keys-ascii old old_limits)) (all-ascii New old (keys_told new) (keys-ascii new new_limits))

  pub changes-well : IsWell (changes_text old new)
  unfolding changes_text heading
  changes-well =
      let root : List ℕ = name_of (get old []) in
      well-append heading (flat_map (change_block root) (changes old new)) (ascii-well heading refl)
      (blocks-well root (found-ascii old old_limits []) (changes old new) changes-ascii)

  pub changes-told : (u : Bool) → changes_pieces u old new ≡ file_bytes u (changes_text old new)
  unfolding changes_pieces head_pieces file_bytes changes_text heading
  changes-told u =
      let root : List ℕ = name_of (get old []) in
      append_assoc (mark u) (plain u heading) (flat_map (change_pieces u root) (changes old new))
      ∙ ap (λ (x : List ℕ). mark u ++ x)
      (ap (λ (x : List ℕ). plain u heading ++ x) (sym (blocks-encoded root (found-ascii old old_limits []) u (changes old new) changes-ascii))
      ∙ sym (ascii-before u heading (flat_map (change_block root) (changes old new)) refl))
