-- The tool's command as `clap` is given it: its subcommands, and what each takes (this project's own).
use Rattle.std.specs.Prelude.{ℕ, Bool, true, false, Some, codes, pos}
use Rattle.clap.specs.Words.{App, Rule, Text, new_app, new_rule, with_rule, with_subcommand}
use Rattle.clap.specs.Lexer.{usize_max}
use Rattle.clap.specs.declared.builder.action.ArgAction.TheVariants as action
use Rattle.clap.specs.declared.builder.value_parser.ValueParser.TheVariants as parser

-- a command one of whose subcommands must be given
abbrev pub required : App → App
required a = record a { top = record a.top { subcommand_required = true } }

-- an option by its name, with one value
abbrev pub option_rule : Text → Rule
option_rule name = record (new_rule name) { long = Some name; value_names = 1 }

-- an option with one value, which must be given or may be left out
abbrev pub valued_rule : Text → Bool → Rule
valued_rule name is_required = record (option_rule name) { required = is_required }

-- an option with a number of 32 bits, with one of 64 bits, and with one from 1 to 16
abbrev pub half_rule : Text → Rule
half_rule name = record (option_rule name) { parser = Some (parser.Signed (pos 0) (pos 4294967295)) }

abbrev pub whole_rule : Text → Rule
whole_rule name = record (option_rule name) { parser = Some (parser.Unsigned 0 18446744073709551615) }

abbrev pub count_rule : Text → Rule
count_rule name = record (option_rule name) { parser = Some (parser.Signed (pos 1) (pos 16)) }

-- an option without a value
abbrev pub flag_rule : Text → Rule
flag_rule name = record (new_rule name) { long = Some name; action = Some action.SetTrue }

-- an argument by its place, which must be given or may be left out
abbrev pub place_rule : Text → Bool → Rule
place_rule name is_required = record (new_rule name) { value_names = 1; required = is_required }

-- a flag that has a letter, too
abbrev pub short_rule : Text → ℕ → Rule
short_rule name letter = record (flag_rule name) { short = Some letter }

-- a file, by its place
abbrev pub file_rule : Bool → Rule
file_rule is_required = place_rule (codes "file") is_required

-- arguments by their places, one or more where any is given; one must be given, or none need be
abbrev pub many_rule : Text → Bool → Rule
many_rule name is_required = record (new_rule name) {
  value_names = 1;
  action = Some action.Append;
  range = Some (record { start_inclusive = 1; end_inclusive = usize_max });
  required = is_required;
}

-- files by their places
abbrev pub files_rule : Rule
files_rule = many_rule (codes "files") false

-- files by their places, of which one must be given
abbrev pub hives_rule : Rule
hives_rule = many_rule (codes "files") true

-- the data of a value by their places
abbrev pub data_rule : Rule
data_rule = many_rule (codes "data") false

-- the flag `--ignore-case`, or `-i`
abbrev pub case_rule : Rule
case_rule = short_rule (codes "ignore-case") 105

-- the option `--at`: a moment, a number of 64 bits
abbrev pub at_rule : Rule
at_rule = whole_rule (codes "at")

-- the option `--wait`: a number of seconds, of 32 bits
abbrev pub wait_rule : Rule
wait_rule = half_rule (codes "wait")

-- the option `--image`: a sequence number, of 32 bits
abbrev pub image_rule : Rule
image_rule = half_rule (codes "image")

-- the option `--workers`: a number of hives, from 1 to 16
abbrev pub workers_rule : Rule
workers_rule = count_rule (codes "workers")

-- `run`, which may be asked for an image, or for workers on several hives
abbrev pub run_command : App
run_command = with_rule (with_rule (new_app (codes "run")) image_rule) workers_rule

-- the flag `--dirty`: a file that wasn't written to its end is read as it stands
abbrev pub dirty_rule : Rule
dirty_rule = flag_rule (codes "dirty")

-- `dump`, of a file or of the standard input
abbrev pub dump_command : App
dump_command = with_rule (with_rule (new_app (codes "dump")) (file_rule false)) dirty_rule

-- `check`, of files or of the standard input, and whether more is told of each file
abbrev pub check_command : App
check_command = with_rule (with_rule (with_rule (new_app (codes "check")) files_rule) dirty_rule) (short_rule (codes "verbose") 118)

-- a command of that name that looks into a file, with its file
abbrev pub looking_command : Text → App
looking_command name = with_rule (with_rule (new_app name) (file_rule true)) dirty_rule

-- one that looks for a key of a file, by a path that must be given or may be left out, and whether slashes part the names of that
abbrev pub keyed_command : Text → (is_required : Bool) → App
keyed_command name is_required =
    with_rule (with_rule (looking_command name) (place_rule (codes "path") is_required)) (flag_rule (codes "slash"))

-- `ls`, of a file, with a path that may be left out, whether all below it is listed, and whether the whole hive is tested first
abbrev pub listing_command : App
listing_command = with_rule (with_rule (keyed_command (codes "ls") false) (flag_rule (codes "tree"))) (flag_rule (codes "whole"))

-- and what it tells beside names: data, times, descriptors; and whether lines end by zeros
abbrev pub list_command : App
list_command =
    with_rule
    (with_rule (with_rule (with_rule listing_command (short_rule (codes "long") 108)) (flag_rule (codes "time"))) (flag_rule (codes "security")))
    (flag_rule (codes "null"))

-- `get`, of a file and a path, with a value's name that may be left out, whether the value's bytes alone are written, or its type too, and
-- whether the whole hive is tested first
abbrev pub get_command : App
get_command =
    with_rule
    (with_rule
    (with_rule (with_rule (keyed_command (codes "get") true) (place_rule (codes "value") false)) (flag_rule (codes "raw")))
    (flag_rule (codes "type")))
    (flag_rule (codes "whole"))

-- `find`, of a file and a pattern, and where it is looked for
abbrev pub find_command : App
find_command =
    with_rule (with_rule (with_rule (looking_command (codes "find")) (place_rule (codes "pattern") true)) (option_rule (codes "in"))) case_rule

-- `diff`, of an old file and a new one, and a path that may be left out
abbrev pub comparing_command : App
comparing_command =
    with_rule
    (with_rule
    (with_rule (with_rule (with_rule (new_app (codes "diff")) (place_rule (codes "old") true)) (place_rule (codes "new") true)) dirty_rule)
    (place_rule (codes "path") false))
    (flag_rule (codes "slash"))

-- and what it passes over, or the form to write
abbrev pub diff_command : App
diff_command =
    with_rule
    (with_rule (with_rule comparing_command (option_rule (codes "ignore"))) (option_rule (codes "as")))
    (flag_rule (codes "utf8"))

-- `timeline`, of files, the first moment and the last one, and the form to write
abbrev pub timeline_command : App
timeline_command =
    with_rule
    (with_rule
    (with_rule (with_rule (with_rule (new_app (codes "timeline")) hives_rule) dirty_rule) (option_rule (codes "from")))
    (option_rule (codes "to")))
    (option_rule (codes "as"))

-- `export`, of a file, with a path that may be left out, the form to write, whether a `.reg` text is UTF-8, and what stands in it for the
-- root
abbrev pub export_command : App
export_command =
    with_rule
    (with_rule (with_rule (keyed_command (codes "export") false) (valued_rule (codes "as") true)) (flag_rule (codes "utf8")))
    (option_rule (codes "prefix"))

-- `new`, of a file, and the name of its root
abbrev pub new_command : App
new_command = with_rule (with_rule (new_app (codes "new")) (file_rule true)) (option_rule (codes "name"))

-- a command with the options of one that saves a file
abbrev pub saving_options : App → App
saving_options command =
    with_rule
    (with_rule (with_rule (with_rule (with_rule command (option_rule (codes "output"))) (flag_rule (codes "now"))) at_rule) (flag_rule (codes "dry-run")))
    wait_rule

-- a command of that name that saves a file
abbrev pub saving_command : Text → App
saving_command name = saving_options (with_rule (new_app name) (file_rule true))

-- `import`, of a text that is standard input where no file is named, what stands in it for the root, and whether all its faults are told
abbrev pub import_command : App
import_command =
    with_rule
    (with_rule (with_rule (saving_command (codes "import")) (place_rule (codes "text") false)) (option_rule (codes "prefix")))
    (flag_rule (codes "all-errors"))

-- `edit`, which saves a file, and whether it goes on after lines that fail
abbrev pub edit_command : App
edit_command = with_rule (saving_command (codes "edit")) (flag_rule (codes "keep-going"))

-- a command of that name that changes a key of a file that it saves, and whether slashes part the names of its path
abbrev pub changing_command : Text → App
changing_command name = with_rule (with_rule (saving_command name) (place_rule (codes "path") true)) (flag_rule (codes "slash"))

-- `set`, of a value's name, its type and its data, and whether missing keys are made
abbrev pub set_command : App
set_command =
    with_rule
    (with_rule
    (with_rule (with_rule (changing_command (codes "set")) (place_rule (codes "value") true)) (place_rule (codes "type") true))
    data_rule)
    (flag_rule (codes "parents"))

-- `create`, and whether missing keys above the key are made
abbrev pub create_command : App
create_command = with_rule (changing_command (codes "create")) (flag_rule (codes "parents"))

-- `delete`, with a value's name that may be left out, and whether all keys below the key go too
abbrev pub delete_command : App
delete_command = with_rule (with_rule (changing_command (codes "delete")) (place_rule (codes "value") false)) (flag_rule (codes "tree"))

-- `copy`, of a file and a path, to a file that it saves, and a path there
abbrev pub copied_command : App
copied_command =
    with_rule (with_rule (keyed_command (codes "copy") true) (place_rule (codes "to-file") true)) (place_rule (codes "to-path") true)

-- and how it saves that file
abbrev pub copy_command : App
copy_command = saving_options copied_command

-- the tool's command with the subcommands that work on the standard streams
abbrev pub stream_commands : App
stream_commands =
    with_subcommand
    (with_subcommand (with_subcommand (required (new_app (codes "regtool"))) run_command.top) dump_command.top)
    check_command.top

-- the tool's command with the subcommands that look into a file too
abbrev pub query_commands : App
query_commands =
    with_subcommand
    (with_subcommand
    (with_subcommand
    (with_subcommand (with_subcommand (with_subcommand stream_commands list_command.top) get_command.top) find_command.top)
    diff_command.top)
    export_command.top)
    timeline_command.top

-- the tool's command with `new`, `edit` and `import` too
abbrev pub saving_commands : App
saving_commands =
    with_subcommand
    (with_subcommand (with_subcommand query_commands new_command.top) edit_command.top)
    import_command.top

-- the tool's command with those that make one change, and the one that copies a key, too
abbrev pub changing_commands : App
changing_commands =
    with_subcommand
    (with_subcommand (with_subcommand (with_subcommand saving_commands set_command.top) create_command.top) delete_command.top)
    copy_command.top

-- `completions`, of a shell
abbrev pub completions_command : App
completions_command = with_rule (new_app (codes "completions")) (place_rule (codes "shell") true)

-- `clap`'s command `regtool`, one of whose subcommands must be there: `run` with the options `--image` of a number of 32 bits and
-- `--workers` of one from 1 to 16, which may be left out; `dump`, which may have a file, and `check`, which may have files, with the flag
-- `--verbose` or `-v`; `ls` with a file, a path that may be left out, and the flags `--tree`, `--whole`, `--long` or `-l`, `--time`,
-- `--security` and `--null`; `get` with a file, a path, a value's name that may be left out, and the flags `--raw`, `--type` and `--whole`;
-- `find` with a file, a pattern, the option `--in` and the flag `--ignore-case` or `-i`; `diff` with two files, a path that may be left
-- out, the options `--ignore` and `--as`, and the flag `--utf8`; `export` with a file, a path that may be left out, the option `--as`,
-- which must be given, the flag `--utf8`, and the option `--prefix`; `timeline` with files, of which one must be given, and the options
-- `--from`, `--to` and `--as`; all these with the flag `--dirty`, `ls`, `get`, `diff` and `export` with `--slash`; `new` with a file and
-- the option `--name`; and `edit` and `import`, each with a file, the options `--output`, `--at`, which is a number of 64 bits, and
-- `--wait`, which is one of 32, and the flags `--now` and `--dry-run`, `edit` with the flag `--keep-going`, `import` with a text's file
-- that may be left out, the option `--prefix` and the flag `--all-errors`; and with a file and what both have `set` with a path, a name, a
-- type and data that may be left out, `create` with a path, and `delete` with a path and a name that may be left out, all with the flag
-- `--slash`, the first two with `--parents`, and the last with `--tree`; `copy` with a file, a path, another file, a path there, the flags
-- `--dirty` and `--slash`, and those options and flags that `edit` and `import` both have; and `manual`, `completions` with a shell, and
-- `version`
unfoldable pub regtool : App
regtool =
    with_subcommand
    (with_subcommand (with_subcommand changing_commands (new_app (codes "manual")).top) completions_command.top)
    (new_app (codes "version")).top
