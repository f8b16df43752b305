-- The blocks of keys, and a whole text, read as the entries that they stand for.
use Rattle.std.proofs.Common.{◌≡◌, ℕ, Bool, true, false, List, [], ◌∷◌, ◌++◌, map, drop}
use Rattle.std.proofs.Common.{Some, refl, sym, ap, ◌∙◌, subst, append-nil}
use Rattle.std.specs.Prelude.{flat_map, Ok}
use Rattle.std.specs.List.{AllByRecursion, list_all}
use Rattle.reg_names.specs.declared.TheConstants.{PATH_LIMIT}
use Rattle.reg_names.specs.Names.{folded, text_of, are_key_names}
use Rattle.reg_heap.specs.Paths.{Member}
use Rattle.reg_tree_text.specs.DumpTexts.{Told}
use Rattle.reg_dotreg_writer.specs.EntryTexts.{line_end, value_entry}
use Rattle.reg_dotreg_writer.specs.Entries.{heading, key_line, key_block, value_entries, is_line_name}
use Rattle.reg_dotreg_reader.specs.declared.entry.Entry.{Entry}
use Rattle.reg_dotreg_reader.specs.declared.entry.Entry.TheVariants.{Key, Value}
use Rattle.reg_dotreg_reader.specs.declared.entry.Numbered.{Numbered}
use Rattle.reg_dotreg_reader.specs.EntryWords.{before_blanks, before_mark}
use Rattle.reg_dotreg_reader.specs.EntryLines.{lines_of, whole_lines}
use Rattle.reg_dotreg_reader.specs.EntryMeanings.{with_entries, entries_from, title, untitled, titled, long_form, entries_in}
use Rattle.reg_dotreg_reader.proofs.TextLines.{lines_empty}
use Rattle.reg_dotreg_import.specs.Imports.{entries_of}
use Rattle.reg_dotreg_law.specs.EntriesDue.{entries_of_key}
use Rattle.reg_dotreg_law.specs.ReadBack.{IsKept, reading, Goes, Says}
use Rattle.reg_dotreg_law.proofs.LineEnds.{line-back}
use Rattle.reg_dotreg_law.proofs.ReadingOn.{says-none, says-both, says-empty_line}
use Rattle.reg_dotreg_law.proofs.EntriesBack.{value-says}
use Rattle.reg_dotreg_law.proofs.RootsBack.{long-same}
use Rattle.reg_dotreg_law.proofs.KeysBack.{key-says}

-- ---- a key

abbrev entry_of : Member → Entry
entry_of value = Value value.name value.kind value.bytes

values-say : (root : List ℕ) (values : List Member) → AllByRecursion IsKept values → Says root true (value_entries values) (map entry_of values) true
values-say root [] a = says-none root true
values-say root (v ∷ values) a =
    says-both root true true true (value_entry v.name v.kind v.bytes) (value_entries values) (entry_of v ∷ []) (map entry_of values)
    (value-says root v a.0) (values-say root values a.1)

-- a key that is told below a root's name: its names, on one line each, and its values
pub record IsKeptBelow (root : List ℕ) (told : Told) : Type 0 where
  pub names : List (List ℕ)
  pub are : told.names ≡ root ∷ names
  pub good : are_key_names PATH_LIMIT names ≡ true
  pub lines : list_all is_line_name (root ∷ names) ≡ true
  pub values : AllByRecursion IsKept told.key.values

block-says : (name root : List ℕ) (is_open : Bool) (told : Told) → folded name ≡ folded (long_form root) → IsKeptBelow root told →
    Says name is_open (key_block told) (entries_of_key told) true
block-says name root is_open told f k =
    let values : List Member = told.key.values in
    let all : map entry_of values ++ [] ≡ map entry_of values = append-nil (map entry_of values) in
    subst (λ (ns : List (List ℕ)). Says name is_open (key_line (text_of ns) ++ (value_entries values ++ line_end))
    (Key (text_of (drop 1 ns)) ∷ map entry_of values) true) (sym k.are)
    (subst (λ (es : List Entry). Says name is_open (key_line (text_of (root ∷ k.names)) ++ (value_entries values ++ line_end))
    (Key (text_of k.names) ∷ es) true) all
    (says-both name is_open true true (key_line (text_of (root ∷ k.names))) (value_entries values ++ line_end)
    (Key (text_of k.names) ∷ []) (map entry_of values ++ []) (key-says name root is_open k.names f k.good k.lines)
    (says-both name true true true (value_entries values) line_end (map entry_of values) [] (values-say name values k.values)
    (says-empty_line name true))))

-- ---- all keys

abbrev after : Bool → List Told → Bool
after is_open [] = is_open
after is_open (t ∷ told) = after true told

blocks-say : (name root : List ℕ) (is_open : Bool) (told : List Told) → folded name ≡ folded (long_form root) → AllByRecursion (IsKeptBelow root) told →
    Says name is_open (flat_map key_block told) (flat_map entries_of_key told) (after is_open told)
blocks-say name root is_open [] f a = says-none name is_open
blocks-say name root is_open (t ∷ told) f a =
    says-both name is_open true (after true told) (key_block t) (flat_map key_block told) (entries_of_key t) (flat_map entries_of_key told)
    (block-says name root is_open t f a.0) (blocks-say name root true told f a.1)

-- ---- a whole text

pub nothing-left : (root : List ℕ) (is_open : Bool) (number : ℕ) → reading root is_open number [] ≡ Ok []
unfolding entries_from whole_lines
nothing-left root is_open number = ap (λ (w : List (List ℕ)). entries_from root false is_open (whole_lines 0 number w)) (lines_empty [] refl)

titled-lines : (lines : List (List ℕ)) → untitled ((title ++ 13 ∷ []) ∷ lines) ≡ Some (false, lines)
unfolding before_blanks before_mark
titled-lines lines = refl

pub headed : (blocks : List ℕ) → untitled (lines_of (heading ++ blocks)) ≡ Some (false, lines_of (13 ∷ 10 ∷ blocks))
unfolding heading
headed blocks = ap untitled (line-back title (13 ∷ 10 ∷ blocks) refl) ∙ titled-lines (lines_of (13 ∷ 10 ∷ blocks))

-- what a text of such blocks is read as
pub blocks-back : (name root : List ℕ) (told : List Told) → folded name ≡ folded root → AllByRecursion (IsKeptBelow root) told →
    (entries : List Numbered) × (entries_in name (heading ++ flat_map key_block told) ≡ Ok entries)
    × (entries_of entries ≡ flat_map entries_of_key told)
unfolding entries_in
blocks-back name root told f a =
    let long : List ℕ = long_form name in
    let blocks : List ℕ = flat_map key_block told in
    let due : List Entry = flat_map entries_of_key told in
    let g : Goes long false 2 ((13 ∷ 10 ∷ blocks) ++ []) due (after false told) [] =
    says-both long false false (after false told) (13 ∷ 10 ∷ []) blocks [] due (says-empty_line long false)
    (blocks-say long root false told (long-same name root f) a) 2 [] in
    let all : reading long false 2 (13 ∷ 10 ∷ blocks) ≡ Ok (g.read ++ []) =
    ap (reading long false 2) (sym (append-nil (13 ∷ 10 ∷ blocks)))
    ∙ (g.is ∙ ap (with_entries g.read) (nothing-left long (after false told) g.later)) in
    (g.read, ap (titled long) (headed blocks) ∙ (all ∙ ap (λ (w : List Numbered). Ok w) (append-nil g.read)), g.same)
