-- The tool's command line (this project's own).
use Rattle.std.specs.Prelude.{ℕ, ◌≡◌, ◌≢◌, ◌↔◌, ◌⊎◌, List, [], ◌∷◌, codes, map, option_map, unwrap_or, Option, Some, None}
use Rattle.std.specs.Prelude.{Bool, true, false, string_bytes, String}
use Rattle.clap.specs.Words.{Kinds, Row, Text, all_of, fault_of, first_of, one_of, subcommand_of}
use Rattle.reg_words.specs.CommandShapes.{regtool}
use Rattle.reg_words.specs.ChangeWords.{path_in, name_in, value_in}
use Rattle.reg_words.specs.declared.typed.change.KeyChange.{KeyChange}
use Rattle.reg_words.specs.declared.typed.change.KeyChange.TheVariants.{CreateKey, SetValue, DeleteValue, DeleteKey}
use Rattle.reg_words.specs.PlaceLists.{places_in}
use Rattle.reg_words.specs.FieldLists.{ignored_in, nothing}
use Rattle.reg_words.specs.Moments.{IsMoment, TellsMoment}
use Rattle.reg_words.specs.StreamLines.{AsksOfStream, GivesBoth, IsNumber, IsSet}
use Rattle.reg_words.specs.declared.request.Columns.{Columns}
use Rattle.reg_words.specs.declared.request.DataForm.{DataForm}
use Rattle.reg_words.specs.declared.request.DataForm.TheVariants.{Told, Typed, Raw}
use Rattle.reg_words.specs.declared.request.DiffForm.{DiffForm}
use Rattle.reg_words.specs.declared.request.DiffForm.TheVariants.{Lines, Reg as ChangesText}
use Rattle.reg_words.specs.declared.request.Ignored.{Ignored}
use Rattle.reg_words.specs.declared.request.Shell.{Shell}
use Rattle.reg_words.specs.declared.request.Shell.TheVariants.{Bash, Zsh, Fish}
use Rattle.reg_words.specs.declared.request.TimelineForm.{TimelineForm}
use Rattle.reg_words.specs.declared.request.TimelineForm.TheVariants.{Text as Lined, Csv as Tabled, Bodyfile}
use Rattle.reg_words.specs.declared.request.EditRequest.{EditRequest}
use Rattle.reg_words.specs.declared.request.Form.{Form}
use Rattle.reg_words.specs.declared.request.Form.TheVariants.{Reg, Json, JsonLines, Csv, Html}
use Rattle.reg_words.specs.declared.request.HiveFile.{HiveFile}
use Rattle.reg_words.specs.declared.request.Places.{Places}
use Rattle.reg_words.specs.declared.request.Begin.{Begin}
use Rattle.reg_words.specs.declared.request.Begin.TheVariants.{Now, At}
use Rattle.reg_words.specs.declared.request.StreamRequest.{StreamRequest}
use Rattle.reg_words.specs.declared.request.Request.{Request}
use Rattle.reg_words.specs.declared.request.Request.TheVariants.{Stream, Dump, Check, Listing, Get, Find, Diff, Export, Timeline, New, Edit, Import}
use Rattle.reg_words.specs.declared.request.Request.TheVariants.{Change, Copy, Manual, Completions, Version}

-- the words of a command line, as text
abbrev pub texts : {A : Type 0} → List (String A) → List (List ℕ)
texts words = map string_bytes words

-- the kinds of fault that `clap` finds in the words of a command line, the program's name first: none where it takes them
unfoldable pub faults_in : List (List ℕ) → Kinds
faults_in words = fault_of regtool words

-- the subcommand that `clap` finds in the words, and the matches of its options
unfoldable pub found_in : List (List ℕ) → Option (Text × List Row)
found_in words = subcommand_of regtool words

-- the moment that the matches of a command that saves ask for: that of the clock, or one that is given, and then not that of the clock too
abbrev pub AsksToBegin : List Row → Begin → Type 0
AsksToBegin rows Now = one_of (codes "at") rows ≡ None
AsksToBegin rows (At moment) =
    (IsSet (codes "now") rows → ⊥) × ((text : Text) × (one_of (codes "at") rows ≡ Some text) × IsMoment text moment)

-- how many seconds they ask to wait for a file that is locked: none where they don't say
abbrev pub AsksToWait : List Row → (seconds : ℕ) → Type 0
AsksToWait rows seconds =
    ((one_of (codes "wait") rows ≡ None) × (seconds ≡ 0))
    ⊎ ((text : Text) × (one_of (codes "wait") rows ≡ Some text) × IsNumber text seconds)

-- what the matches of a command that saves ask for, where the word of that name tells the file
pub record AsksToSave (name : Text) (rows : List Row) (edit : EditRequest) : Type 0 where
  pub file : first_of name rows ≡ Some edit.file.now
  pub output : option_map (λ output. output.now) edit.output ≡ first_of (codes "output") rows
  pub begin : AsksToBegin rows edit.begin
  pub wait : AsksToWait rows edit.wait
  pub dry_run : (edit.dry_run ≡ true) ↔ IsSet (codes "dry-run") rows

-- what those of a command ask for that names no other file
abbrev pub AsksToEdit : List Row → EditRequest → Type 0
AsksToEdit rows edit = AsksToSave (codes "file") rows edit

-- the places that a text after `--in` names, if it names some, and the first three where nothing is said
abbrev pub places_asked : Option Text → Option Places
places_asked None = Some (record { keys = true; names = true; texts = true; paths = false; bytes = false })
places_asked (Some text) = places_in text

-- the places that the matches of `find` ask for
abbrev pub AsksForPlaces : List Row → Places → Type 0
AsksForPlaces rows places = places_asked (first_of (codes "in") rows) ≡ Some places

-- the matches of `export` ask for the form of that name, which is no .reg text, and so has nothing in the place of the root, and no
-- encoding
abbrev pub AsksForTable : List Row → (form : Text) → Type 0
AsksForTable rows form =
    (first_of (codes "as") rows ≡ Some form) × (first_of (codes "prefix") rows ≡ None) × (IsSet (codes "utf8") rows → ⊥)

-- the form that they ask for, and of a .reg text its encoding, and what stands in it for the root where that is said
abbrev pub AsksForForm : List Row → Form → Type 0
AsksForForm rows (Reg is_utf8 prefix) =
    (first_of (codes "as") rows ≡ Some (codes "reg")) × ((is_utf8 ≡ true) ↔ IsSet (codes "utf8") rows)
    × (option_map (λ prefix. prefix.now) prefix ≡ first_of (codes "prefix") rows)
AsksForForm rows Json = AsksForTable rows (codes "json")
AsksForForm rows JsonLines = AsksForTable rows (codes "jsonl")
AsksForForm rows Csv = AsksForTable rows (codes "csv")
AsksForForm rows Html = AsksForTable rows (codes "html")

-- the file that the matches of a command that looks into it name, and whether it may be one that wasn't written to its end
abbrev pub AsksForHive : List Row → HiveFile → Type 0
AsksForHive rows hive = (first_of (codes "file") rows ≡ Some hive.file.now) × ((hive.is_dirty ≡ true) ↔ IsSet (codes "dirty") rows)

-- the path of the key that they look for: the root's where they name none
abbrev pub AsksForPath : List Row → (path : List ℕ) → Type 0
AsksForPath rows path =
    (is_slash : Bool) × ((is_slash ≡ true) ↔ IsSet (codes "slash") rows)
    × (path ≡ path_in is_slash (unwrap_or (first_of (codes "path") rows) []))

-- the name of the value that they look for: the default value's where they name none
abbrev pub AsksForValue : List Row → (name : List ℕ) → Type 0
AsksForValue rows name = name ≡ name_in (unwrap_or (first_of (codes "value") rows) [])

-- what the matches of `ls` ask to tell beside names
pub record AsksForColumns (rows : List Row) (columns : Columns) : Type 0 where
  pub told : (columns.data ≡ true) ↔ IsSet (codes "long") rows
  pub times : (columns.times ≡ true) ↔ IsSet (codes "time") rows
  pub securities : (columns.securities ≡ true) ↔ IsSet (codes "security") rows
  pub zeros : (columns.ends_by_zero ≡ true) ↔ IsSet (codes "null") rows

-- how the matches of `get` ask for data: as text, where nothing is said; never in two ways
abbrev pub AsksForData : List Row → DataForm → Type 0
AsksForData rows Told = (IsSet (codes "raw") rows → ⊥) × (IsSet (codes "type") rows → ⊥)
AsksForData rows Typed = (IsSet (codes "raw") rows → ⊥) × IsSet (codes "type") rows
AsksForData rows Raw = IsSet (codes "raw") rows × (IsSet (codes "type") rows → ⊥)

-- what a text after `--ignore` names, if it names something, and nothing where nothing is said
abbrev pub ignored_asked : Option Text → Option Ignored
ignored_asked None = Some nothing
ignored_asked (Some text) = ignored_in text

-- how the matches of `diff` ask for what differs: in lines, of the key at a path, and then in no encoding of a .reg text; or as such a
-- text, of all keys, with nothing passed over
abbrev pub AsksForDifferences : List Row → DiffForm → Type 0
AsksForDifferences rows (Lines path ignored) =
    (first_of (codes "as") rows ≡ None) × AsksForPath rows path.items
    × (ignored_asked (first_of (codes "ignore") rows) ≡ Some ignored) × (IsSet (codes "utf8") rows → ⊥)
AsksForDifferences rows (ChangesText is_utf8) =
    (first_of (codes "as") rows ≡ Some (codes "reg")) × (first_of (codes "path") rows ≡ None) × (first_of (codes "ignore") rows ≡ None)
    × ((is_utf8 ≡ true) ↔ IsSet (codes "utf8") rows)

-- the moment that the option of that name tells, `--from` or `--to`; another where it isn't given
abbrev pub AsksForMoment : (name : Text) (other : ℕ) → List Row → (moment : ℕ) → Type 0
AsksForMoment name other rows moment =
    ((first_of name rows ≡ None) × (moment ≡ other)) ⊎ ((text : Text) × (first_of name rows ≡ Some text) × TellsMoment text moment)

-- the form that the matches of `timeline` ask for
abbrev pub AsksForTimeline : List Row → TimelineForm → Type 0
AsksForTimeline rows Lined = unwrap_or (first_of (codes "as") rows) (codes "text") ≡ codes "text"
AsksForTimeline rows Tabled = first_of (codes "as") rows ≡ Some (codes "csv")
AsksForTimeline rows Bodyfile = first_of (codes "as") rows ≡ Some (codes "bodyfile")

-- the word of a shell
abbrev pub shell_word : Shell → Text
shell_word Bash = codes "bash"
shell_word Zsh = codes "zsh"
shell_word Fish = codes "fish"

-- the key's path that the word of that name tells, of the matches of a command that changes the key, or copies it
abbrev pub AsksForKey : (name : Text) → List Row → (path : List ℕ) → Type 0
AsksForKey name rows path =
    (word : Text) × (first_of name rows ≡ Some word)
    × ((is_slash : Bool) × ((is_slash ≡ true) ↔ IsSet (codes "slash") rows) × (path ≡ path_in is_slash word))

-- the value's name that they name
abbrev pub AsksForName : List Row → (name : List ℕ) → Type 0
AsksForName rows name = (word : Text) × (first_of (codes "value") rows ≡ Some word) × (name ≡ name_in word)

-- the type and the data that they tell
abbrev pub AsksForContents : List Row → (kind : ℕ) → (bytes : List ℕ) → Type 0
AsksForContents rows kind bytes =
    (word : Text) × (first_of (codes "type") rows ≡ Some word)
    × (value_in word (unwrap_or (all_of (codes "data") rows) []) ≡ Some (kind, bytes))

-- the change that a subcommand with its matches asks for
abbrev pub AsksToChange : Text × List Row → KeyChange → Type 0
AsksToChange found (CreateKey path makes_parents) =
    (found.0 ≡ codes "create") × AsksForKey (codes "path") found.1 path.items × ((makes_parents ≡ true) ↔ IsSet (codes "parents") found.1)
AsksToChange found (SetValue path makes_parents name contents) =
    (found.0 ≡ codes "set") × AsksForKey (codes "path") found.1 path.items × AsksForName found.1 name.items
    × AsksForContents found.1 contents.kind contents.bytes.items × ((makes_parents ≡ true) ↔ IsSet (codes "parents") found.1)
AsksToChange found (DeleteValue path name) =
    (found.0 ≡ codes "delete") × AsksForKey (codes "path") found.1 path.items × AsksForName found.1 name.items × (IsSet (codes "tree") found.1 → ⊥)
AsksToChange found (DeleteKey path is_tree) =
    (found.0 ≡ codes "delete") × AsksForKey (codes "path") found.1 path.items × (first_of (codes "value") found.1 ≡ None)
    × ((is_tree ≡ true) ↔ IsSet (codes "tree") found.1)

-- what a subcommand with its matches asks for
abbrev pub Asks : Text × List Row → Request → Type 0
Asks found (Stream request) = AsksOfStream found request
Asks found (Dump hive) = (found.0 ≡ codes "dump") × AsksForHive found.1 hive
Asks found (Check files is_dirty is_verbose) =
    (found.0 ≡ codes "check") × (all_of (codes "files") found.1 ≡ Some (map (λ file. file.now) files.items))
    × ((is_dirty ≡ true) ↔ IsSet (codes "dirty") found.1) × ((is_verbose ≡ true) ↔ IsSet (codes "verbose") found.1)
Asks found (Listing list) =
    (found.0 ≡ codes "ls") × AsksForHive found.1 list.hive × AsksForPath found.1 list.path.items
    × ((list.is_tree ≡ true) ↔ IsSet (codes "tree") found.1) × ((list.is_whole ≡ true) ↔ IsSet (codes "whole") found.1)
    × AsksForColumns found.1 list.columns
Asks found (Get value) =
    (found.0 ≡ codes "get") × AsksForHive found.1 value.hive × AsksForPath found.1 value.path.items × AsksForValue found.1 value.name.items
    × AsksForData found.1 value.form × ((value.is_whole ≡ true) ↔ IsSet (codes "whole") found.1)
Asks found (Find sought) =
    (found.0 ≡ codes "find") × AsksForHive found.1 sought.hive
    × (first_of (codes "pattern") found.1 ≡ Some sought.pattern.now) × AsksForPlaces found.1 sought.places
    × ((sought.ignores_case ≡ true) ↔ IsSet (codes "ignore-case") found.1)
Asks found (Diff old new is_dirty form) =
    (found.0 ≡ codes "diff") × (first_of (codes "old") found.1 ≡ Some old.now) × (first_of (codes "new") found.1 ≡ Some new.now)
    × ((is_dirty ≡ true) ↔ IsSet (codes "dirty") found.1) × AsksForDifferences found.1 form
Asks found (Export hive path form) =
    (found.0 ≡ codes "export") × AsksForHive found.1 hive × AsksForPath found.1 path.items × AsksForForm found.1 form
Asks found (Timeline timeline) =
    (found.0 ≡ codes "timeline") × (all_of (codes "files") found.1 ≡ Some (map (λ file. file.now) timeline.files.items))
    × ((timeline.is_dirty ≡ true) ↔ IsSet (codes "dirty") found.1) × AsksForMoment (codes "from") 0 found.1 timeline.from
    × AsksForMoment (codes "to") 18446744073709551615 found.1 timeline.to × AsksForTimeline found.1 timeline.form
Asks found (New file name) =
    (found.0 ≡ codes "new") × (first_of (codes "file") found.1 ≡ Some file.now)
    × (name.now ≡ unwrap_or (first_of (codes "name") found.1) (codes "ROOT"))
Asks found (Edit edit keeps_going) =
    (found.0 ≡ codes "edit") × AsksToEdit found.1 edit × ((keeps_going ≡ true) ↔ IsSet (codes "keep-going") found.1)
Asks found (Import edit text prefix tells_all) =
    (found.0 ≡ codes "import") × AsksToEdit found.1 edit × (option_map (λ text. text.now) text ≡ first_of (codes "text") found.1)
    × (option_map (λ prefix. prefix.now) prefix ≡ first_of (codes "prefix") found.1)
    × ((tells_all ≡ true) ↔ IsSet (codes "all-errors") found.1)
Asks found (Change edit change) = AsksToEdit found.1 edit × AsksToChange found change
Asks found (Copy edit source path into) =
    (found.0 ≡ codes "copy") × AsksToSave (codes "to-file") found.1 edit × AsksForHive found.1 source
    × AsksForKey (codes "path") found.1 path.items × AsksForKey (codes "to-path") found.1 into.items
Asks found Manual = found.0 ≡ codes "manual"
Asks found (Completions shell) = (found.0 ≡ codes "completions") × (first_of (codes "shell") found.1 ≡ Some (shell_word shell))
Asks found Version = found.0 ≡ codes "version"

-- what a subcommand asks for, if there is one
abbrev pub AsksIn : Option (Text × List Row) → Request → Type 0
AsksIn (Some found) request = Asks found request
AsksIn None request = ⊥

-- a word stands behind the program's name, and it doesn't ask for help
abbrev pub IsNamed : List (List ℕ) → Type 0
IsNamed [] = ⊥
IsNamed (program ∷ []) = ⊥
IsNamed (program ∷ word ∷ more) = (word ≢ codes "--help") × (word ≢ codes "-h") × (word ≢ codes "help")

-- these words are a command line of the tool, which asks for that: `clap` takes them
pub record IsCommandLine (words : List (List ℕ)) (request : Request) : Type 0 where
  pub named : IsNamed words
  pub taken : faults_in words ≡ []
  pub asks : AsksIn (found_in words) request

-- `clap` takes these words, and `run` has both its options, for which there is no answer
pub record HasBothOptions (words : List (List ℕ)) : Type 0 where
  pub taken : faults_in words ≡ []
  pub both : GivesBoth (found_in words)

-- these words are no command line of the tool: whatever is asked, they don't ask for it
abbrev pub AsksNothing : List (List ℕ) → Type 0
AsksNothing words = (request : Request) → IsCommandLine words request → ⊥

-- these words ask for nothing of the standard streams alone
abbrev pub AsksNoStream : List (List ℕ) → Type 0
AsksNoStream words = (request : StreamRequest) → IsCommandLine words (Stream request) → ⊥
