-- The text of the changes from one tree to another, read as the entries that they stand for.
use Rattle.std.proofs.Common.{◌≡◌, ℕ, ◌&&◌, ◌||◌, not, cond, Bool, true, false, List, [], ◌∷◌, ◌++◌, map, Option, Some, None}
use Rattle.std.proofs.Common.{is_some, refl, sym, ap, ◌∙◌, subst, append-nil}
use Rattle.std.specs.Prelude.{if◌then◌else◌, flat_map, filter, Ok}
use Rattle.std.specs.List.{AllByRecursion, list_all, list_any}
use Rattle.std.specs.FinMap.{get}
use Rattle.std.proofs.lemmas.Bool.{and_parts, false≢true}
use Rattle.std.proofs.lemmas.List.Folds.{list_all-append}
use Rattle.reg_names.specs.declared.TheConstants.{PATH_LIMIT}
use Rattle.reg_names.specs.Names.{folded, text_of, is_value_name, is_key_name, are_key_names}
use Rattle.reg_heap.specs.Paths.{Tree, Rec, Member}
use Rattle.reg_heap.specs.Trees.{IsTree, IsWithinLimits, IsSmallValue}
use Rattle.reg_tree.specs.ValueBytes.{HoldsBytes, IsOfBytes}
use Rattle.reg_tree_text.specs.DumpTexts.{Told, name_of, keys_told}
use Rattle.reg_diff.proofs.ToldKeys.{IsToldIn}
use Rattle.reg_dotreg_writer.specs.EntryTexts.{line_end}
use Rattle.reg_dotreg_writer.specs.Entries.{heading, key_line, is_line_name}
use Rattle.reg_dotreg_writer.specs.Changes.{Change, is_new, is_told, change_here, changes_of, changes, rooted, gone_line, value_change}
use Rattle.reg_dotreg_writer.specs.Changes.{change_block, changes_text, is_writable_change, CanWriteChanges}
use Rattle.reg_dotreg_writer.specs.declared.side.Side.{Side}
use Rattle.reg_dotreg_writer.specs.declared.side.Side.TheVariants.{Old, New}
use Rattle.reg_dotreg_writer.proofs.WritableNames.{text-lines}
use Rattle.reg_dotreg_writer.proofs.ToldChanges.{key_changes, all_changes}
use Rattle.reg_dotreg_reader.specs.declared.entry.Entry.{Entry}
use Rattle.reg_dotreg_reader.specs.declared.entry.Entry.TheVariants.{Key, GoneKey}
use Rattle.reg_dotreg_reader.specs.declared.entry.Numbered.{Numbered}
use Rattle.reg_dotreg_reader.specs.EntryMeanings.{with_entries, titled, long_form, entries_in}
use Rattle.reg_dotreg_import.specs.Imports.{entries_of}
use Rattle.reg_dotreg_law.specs.ChangesDue.{value_entry_of, entries_of_change, AreReadBack}
use Rattle.reg_dotreg_law.specs.ReadBack.{IsKept, reading, Goes, Says}
use Rattle.reg_dotreg_law.proofs.ReadingOn.{says-none, says-both, says-empty_line}
use Rattle.reg_dotreg_law.proofs.EntriesBack.{value-says}
use Rattle.reg_dotreg_law.proofs.RootsBack.{long-same}
use Rattle.reg_dotreg_law.proofs.ValuesBack.{line-inline}
use Rattle.reg_dotreg_law.proofs.KeysBack.{key-says}
use Rattle.reg_dotreg_law.proofs.BlocksBack.{headed, nothing-left}
use Rattle.reg_dotreg_law.proofs.ToldOfTrees.{told-there}
use Rattle.reg_dotreg_law.proofs.GonesBack.{gone-value-says, gone-says}

-- ---- values

-- a value that can be told: by its name, or whole
abbrev pub IsKeptOf : Side → Member → Type 0
IsKeptOf Old value = (is_value_name value.name ≡ true) × (is_line_name value.name ≡ true)
IsKeptOf New value = IsKept value

value-change-says : (root : List ℕ) (side : Side) (v : Member) → IsKeptOf side v → Says root true (value_change side v) (value_entry_of side v ∷ []) true
value-change-says root Old v k = gone-value-says root v.name k.0 (line-inline v.name k.1)
value-change-says root New v k = value-says root v k

values-say : (root : List ℕ) (side : Side) (values : List Member) → AllByRecursion (IsKeptOf side) values →
    Says root true (flat_map (value_change side) values) (map (value_entry_of side) values) true
values-say root side [] a = says-none root true
values-say root side (v ∷ values) a =
    says-both root true true true (value_change side v) (flat_map (value_change side) values) (value_entry_of side v ∷ [])
    (map (value_entry_of side) values) (value-change-says root side v a.0) (values-say root side values a.1)

-- ---- a key

-- a block that can be told below a root's name: its names, on one line each, and its values; none where the key is gone
pub record IsKeptChange (root : List ℕ) (change : Change) : Type 0 where
  pub names : List (List ℕ)
  pub are : change.path ≡ text_of names
  pub good : are_key_names PATH_LIMIT names ≡ true
  pub lines : list_all is_line_name (root ∷ names) ≡ true
  pub values : AllByRecursion (IsKeptOf change.side) change.values
  pub none : (change.is_alone && not (is_new change.side)) ≡ true → change.values ≡ []

first-some : (root n : List ℕ) (names : List (List ℕ)) → is_key_name n ≡ true → rooted root (text_of (n ∷ names)) ≡ text_of (root ∷ n ∷ names)
first-some root [] names e = absurd (cc)
first-some root (b ∷ n) [] e = refl
first-some root (b ∷ n) (m ∷ names) e = refl

rooted-same : (root : List ℕ) (names : List (List ℕ)) → are_key_names PATH_LIMIT names ≡ true → rooted root (text_of names) ≡ text_of (root ∷ names)
unfolding are_key_names
rooted-same root [] e = refl
rooted-same root (n ∷ names) e =
    first-some root n names (and_parts (is_key_name n) (list_all is_key_name names) (and_parts (list_all is_key_name (n ∷ names)) _ e).0).0

module _ (name root : List ℕ) (f : folded name ≡ folded (long_form root)) where
  -- a block with the line of a key
  key-block-says : (is_open : Bool) (side : Side) (names : List (List ℕ)) (values : List Member) → are_key_names PATH_LIMIT names ≡ true →
      list_all is_line_name (root ∷ names) ≡ true → AllByRecursion (IsKeptOf side) values →
      Says name is_open (key_line (text_of (root ∷ names)) ++ (flat_map (value_change side) values ++ line_end))
      (Key (text_of names) ∷ map (value_entry_of side) values) true
  key-block-says is_open side names values good lines a =
      let all : map (value_entry_of side) values ++ [] ≡ map (value_entry_of side) values = append-nil (map (value_entry_of side) values) in
      subst (λ (es : List Entry). Says name is_open (key_line (text_of (root ∷ names)) ++ (flat_map (value_change side) values ++ line_end))
      (Key (text_of names) ∷ es) true) all
      (says-both name is_open true true (key_line (text_of (root ∷ names))) (flat_map (value_change side) values ++ line_end)
      (Key (text_of names) ∷ []) (map (value_entry_of side) values ++ []) (key-says name root is_open names f good lines)
      (says-both name true true true (flat_map (value_change side) values) line_end (map (value_entry_of side) values) []
      (values-say name side values a) (says-empty_line name true)))

  -- a block with the line of a key that is gone
  gone-block-says : (is_open : Bool) (names : List (List ℕ)) → are_key_names PATH_LIMIT names ≡ true →
      list_all is_line_name (root ∷ names) ≡ true → Says name is_open (gone_line (text_of (root ∷ names)) ++ line_end) (GoneKey (text_of names) ∷ []) false
  gone-block-says is_open names good lines =
      says-both name is_open false false (gone_line (text_of (root ∷ names))) line_end (GoneKey (text_of names) ∷ []) []
      (gone-says name root is_open names f good lines) (says-empty_line name false)

  -- whether values may stand behind a block
  abbrev takes : Change → Bool
  takes change = not (change.is_alone && not (is_new change.side))

  abbrev BlockSays : (is_open : Bool) → Side → (is_gone : Bool) → (whole below : List ℕ) → List Member → Type 0
  BlockSays is_open side is_gone whole below values =
      Says name is_open ((if is_gone then gone_line whole else key_line whole) ++ (flat_map (value_change side) values ++ line_end))
      ((if is_gone then GoneKey below else Key below) ∷ map (value_entry_of side) values) (not is_gone)

  change-says : (is_open : Bool) (change : Change) → IsKeptChange root change →
      Says name is_open (change_block root change) (entries_of_change change) (takes change)
  change-says is_open change k = by (change.is_alone && not (is_new change.side)) k.none
    where
      path : rooted root change.path ≡ text_of (root ∷ k.names)
      path = ap (rooted root) k.are ∙ rooted-same root k.names k.good

      by : (b : Bool) → (b ≡ true → change.values ≡ []) → BlockSays is_open change.side b (rooted root change.path) change.path change.values
      by true none =
          subst (λ (w : List ℕ). BlockSays is_open change.side true w change.path change.values) (sym path)
          (subst (λ (w : List ℕ). BlockSays is_open change.side true (text_of (root ∷ k.names)) w change.values) (sym k.are)
          (subst (λ (vs : List Member). BlockSays is_open change.side true (text_of (root ∷ k.names)) (text_of k.names) vs) (sym (none refl))
          (gone-block-says is_open k.names k.good k.lines)))
      by false none =
          subst (λ (w : List ℕ). BlockSays is_open change.side false w change.path change.values) (sym path)
          (subst (λ (w : List ℕ). BlockSays is_open change.side false (text_of (root ∷ k.names)) w change.values) (sym k.are)
          (key-block-says is_open change.side k.names change.values k.good k.lines k.values))

  abbrev after : Bool → List Change → Bool
  after is_open [] = is_open
  after is_open (c ∷ all) = after (takes c) all

  blocks-say : (is_open : Bool) (all : List Change) → AllByRecursion (IsKeptChange root) all →
      Says name is_open (flat_map (change_block root) all) (flat_map entries_of_change all) (after is_open all)
  blocks-say is_open [] a = says-none name is_open
  blocks-say is_open (c ∷ all) a =
      says-both name is_open (takes c) (after (takes c) all) (change_block root c) (flat_map (change_block root) all) (entries_of_change c)
      (flat_map entries_of_change all) (change-says is_open c a.0) (blocks-say (takes c) all a.1)

-- ---- a whole text

blocks-back : (name root : List ℕ) (all : List Change) → folded name ≡ folded root → AllByRecursion (IsKeptChange root) all →
    (entries : List Numbered) × (entries_in name (heading ++ flat_map (change_block root) all) ≡ Ok entries)
    × (entries_of entries ≡ flat_map entries_of_change all)
unfolding entries_in
blocks-back name root all f a =
    let long : List ℕ = long_form name in
    let g : folded long ≡ folded (long_form root) = long-same name root f in
    let blocks : List ℕ = flat_map (change_block root) all in
    let due : List Entry = flat_map entries_of_change all in
    let last : Bool = after long root g false all in
    let goes : Goes long false 2 ((13 ∷ 10 ∷ blocks) ++ []) due last [] =
    says-both long false false last (13 ∷ 10 ∷ []) blocks [] due (says-empty_line long false) (blocks-say long root g false all a) 2 [] in
    let whole : reading long false 2 (13 ∷ 10 ∷ blocks) ≡ Ok (goes.read ++ []) =
    ap (reading long false 2) (sym (append-nil (13 ∷ 10 ∷ blocks)))
    ∙ (goes.is ∙ ap (with_entries goes.read) (nothing-left long last goes.later)) in
    (goes.read, ap (titled long) (headed blocks) ∙ (whole ∙ ap (λ (w : List Numbered). Ok w) (append-nil goes.read)), goes.same)

-- ---- the changes of a tree can be told

kept-some : (P : Member → Type 0) (f : Member → Bool) (vs : List Member) → AllByRecursion P vs → AllByRecursion P (filter f vs)
kept-some P f [] a = tt
kept-some P f (v ∷ vs) a = by (f v) (kept-some P f vs a.1)
  where
    by : (b : Bool) → AllByRecursion P (filter f vs) → AllByRecursion P (cond b (v ∷ filter f vs) (filter f vs))
    by true h = (a.0, h)
    by false h = h

none-told : (vs : List Member) → filter (is_told None Old) vs ≡ []
none-told [] = refl
none-told (v ∷ vs) = none-told vs

-- what a side keeps of a value but that its name stands on one line
abbrev IsFit : Side → Member → Type 0
IsFit Old value = is_value_name value.name ≡ true
IsFit New value = (is_value_name value.name ≡ true) × HoldsBytes value

fit-kept : (side : Side) (vs : List Member) → AllByRecursion (IsFit side) vs → list_all (λ (value : Member). is_line_name value.name) vs ≡ true →
    AllByRecursion (IsKeptOf side) vs
fit-kept Old [] a e = tt
fit-kept New [] a e = tt
fit-kept Old (v ∷ vs) a e =
    let both = and_parts (is_line_name v.name) (list_all (λ (value : Member). is_line_name value.name) vs) e in
    ((a.0, both.0), fit-kept Old vs a.1 both.1)
fit-kept New (v ∷ vs) a e =
    let both = and_parts (is_line_name v.name) (list_all (λ (value : Member). is_line_name value.name) vs) e in
    (record { name = a.0.0; line = both.0; kind = a.0.1.0; bytes = a.0.1.1 }, fit-kept New vs a.1 both.1)

old-fit : (vs : List Member) → AllByRecursion IsSmallValue vs → AllByRecursion (IsFit Old) vs
old-fit [] s = tt
old-fit (v ∷ vs) s = (s.0.name, old-fit vs s.1)

new-fit : (vs : List Member) → AllByRecursion IsSmallValue vs → AllByRecursion HoldsBytes vs → AllByRecursion (IsFit New) vs
new-fit [] s b = tt
new-fit (v ∷ vs) s b = ((s.0.name, b.0), new-fit vs s.1 b.1)

-- the values of each key that is told fit
abbrev AreFit : Side → List Told → Type 0
AreFit side all = AllByRecursion (λ (t : Told). AllByRecursion (IsFit side) t.key.values) all

lines-parts : (root : List ℕ) (names : List (List ℕ)) → are_key_names PATH_LIMIT names ≡ true → is_line_name (rooted root (text_of names)) ≡ true →
    list_all is_line_name (root ∷ names) ≡ true
lines-parts root names good e = sym (text-lines (root ∷ names)) ∙ (sym (ap is_line_name (rooted-same root names good)) ∙ e)

module _ (root : List ℕ) (side : Side) (other : Tree) where
  here-kept : (told : Told) (o : Option Rec) → are_key_names PATH_LIMIT told.names ≡ true → AllByRecursion (IsFit side) told.key.values →
      list_all (is_writable_change root) (change_here side (text_of told.names) told.key o) ≡ true →
      AllByRecursion (IsKeptChange root) (change_here side (text_of told.names) told.key o)
  here-kept told o good fit can = by (not (is_some o) || list_any (is_told o side) told.key.values) can
    where
      at : Change
      at = record { side = side; is_alone = not (is_some o); path = text_of told.names; values = filter (is_told o side) told.key.values }

      gone : (x : Option Rec) (s : Side) → (not (is_some x) && not (is_new s)) ≡ true → filter (is_told x s) told.key.values ≡ []
      gone None Old e = none-told told.key.values
      gone None New e = absurd (false≢true e)
      gone (Some r) s e = absurd (false≢true e)

      by : (b : Bool) → list_all (is_writable_change root) (if b then at ∷ [] else []) ≡ true →
          AllByRecursion (IsKeptChange root) (if b then at ∷ [] else [])
      by true e =
          let both = and_parts (is_line_name (rooted root (text_of told.names)))
          (list_all (λ (value : Member). is_line_name value.name) at.values) (and_parts (is_writable_change root at) true e).0 in (
            record {
              names = told.names;
              are = refl;
              good = good;
              lines = lines-parts root told.names good both.0;
              values = fit-kept side at.values (kept-some (IsFit side) (is_told o side) told.key.values fit) both.1;
              none = gone o side;
            },
            tt,
          )
      by false e = tt

  both-kept : (xs ys : List Change) → AllByRecursion (IsKeptChange root) xs → AllByRecursion (IsKeptChange root) ys →
      AllByRecursion (IsKeptChange root) (xs ++ ys)
  both-kept [] ys a b = b
  both-kept (x ∷ xs) ys a b = (a.0, both-kept xs ys a.1 b)

  pub side-kept : (tree : Tree) (all : List Told) → AllByRecursion (IsToldIn tree []) all → AreFit side all →
      list_all (is_writable_change root) (all_changes side other all) ≡ true → AllByRecursion (IsKeptChange root) (all_changes side other all)
  side-kept tree [] t a can = tt
  side-kept tree (told ∷ all) t a can =
      let first : List Change = key_changes side other told in
      let rest : List Change = all_changes side other all in
      let both = and_parts (list_all (is_writable_change root) first) (list_all (is_writable_change root) rest)
      (sym (list_all-append (is_writable_change root) first rest) ∙ can) in
      both-kept first rest (here-kept told (get other (map folded told.names)) t.0.names a.0 both.0) (side-kept tree all t.1 a.1 both.1)

old-all : (tree : Tree) → IsWithinLimits tree → (all : List Told) → AllByRecursion (IsToldIn tree []) all → AreFit Old all
old-all tree w [] t = tt
old-all tree w (told ∷ all) t = (old-fit told.key.values (w.keys (map folded told.names) told.key t.0.key).values, old-all tree w all t.1)

new-all : (tree : Tree) → IsWithinLimits tree → IsOfBytes tree → (all : List Told) → AllByRecursion (IsToldIn tree []) all → AreFit New all
new-all tree w o [] t = tt
new-all tree w o (told ∷ all) t = (
  new-fit told.key.values (w.keys (map folded told.names) told.key t.0.key).values (o.values (map folded told.names) told.key t.0.key),
  new-all tree w o all t.1,
)

module _ (old new : Tree) (i : IsTree old) (w : IsWithinLimits old) (j : IsTree new) (v : IsWithinLimits new) (o : IsOfBytes new)
    (can : CanWriteChanges old new) where
  abbrev root : List ℕ
  root = name_of (get old [])

  pub changes-kept : AllByRecursion (IsKeptChange root) (changes old new)
  unfolding changes
  changes-kept =
      let both = and_parts (list_all (is_writable_change root) (changes_of Old old new)) (list_all (is_writable_change root) (changes_of New new old))
      (sym (list_all-append (is_writable_change root) (changes_of Old old new) (changes_of New new old)) ∙ can) in
      let told_old = told-there old i w in
      let told_new = told-there new j v in
      both-kept root Old new (changes_of Old old new) (changes_of New new old)
      (side-kept root Old new old (keys_told old) told_old (old-all old w (keys_told old) told_old) both.0)
      (side-kept root New old new (keys_told new) told_new (new-all new v o (keys_told new) told_new) both.1)

  pub text-back : (name : List ℕ) → folded name ≡ folded root → AreReadBack name old new
  unfolding changes_text
  text-back name f = blocks-back name root (changes old new) f changes-kept
