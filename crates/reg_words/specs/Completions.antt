-- The scripts by which shells complete a command's words (this project's own; bash(1) "Programmable Completion", zshcompsys(1), fish's
-- `complete`). What stands before, between and behind what they have of the command are constants of the code.
use Rattle.std.specs.Prelude.{ℕ, ◌≡◌, List, [], ◌++◌, codes, flat_map, Option, Some, None}
use Rattle.std.specs.Borrow.{Bor}
use Rattle.std.specs.Prelude.{encode_utf8}
use Rattle.clap.specs.declared.builder.action.ArgAction.{ArgAction}
use Rattle.clap.specs.declared.builder.action.ArgAction.TheVariants.{SetTrue}
use Rattle.clap.specs.declared.builder.arg.Arg.{Arg}
use Rattle.clap.specs.declared.builder.command.Command.{Command}
use Rattle.reg_words.specs.Manuals.{action_of}
use Rattle.reg_words.specs.Settings.{words_of, text_in, name_of, about_of, arguments_of, commands_of}
use Rattle.reg_words.specs.declared.settings.Setting.TheVariants as setting
use Rattle.reg_words.specs.CommandShapes.{regtool}
use Rattle.reg_words.specs.Internal.Commands.{IsCommand}
use Rattle.reg_words.specs.declared.request.Shell.{Shell}
use Rattle.reg_words.specs.declared.request.Shell.TheVariants as shell
use Rattle.reg_words.specs.declared.scripts.bash.TheConstants as bash
use Rattle.reg_words.specs.declared.scripts.zsh.TheConstants as zsh
use Rattle.reg_words.specs.declared.scripts.fish.TheConstants as fish

-- ---- bash

-- a name, and a space behind it
abbrev pub bash_name : List ℕ → List ℕ
bash_name name = name ++ codes " "

abbrev pub bash_short : Option ℕ → List ℕ
bash_short (Some character) = codes "-" ++ (encode_utf8 character ++ codes " ")
bash_short None = []

abbrev pub bash_long : Option (Bor (List ℕ)) → List ℕ
bash_long (Some name) = codes "--" ++ bash_name name.now
bash_long None = []

-- the names of an option; an argument by its place has none
abbrev pub bash_option : Arg → List ℕ
bash_option argument = bash_short argument.short ++ bash_long argument.long

-- the case of a command: the names of its options
unfoldable pub bash_case : Command → List ℕ
bash_case command =
    bash.CASE.now
    ++ (name_of command ++ (bash.OPTIONS.now ++ (flat_map bash_option (arguments_of command) ++ bash.LAST.now)))

-- the names of the subcommands, and the case of each
unfoldable pub bash_text : Command → List ℕ
bash_text command =
    let commands = commands_of command in
    bash.FRONT.now
    ++ (flat_map (λ sub. bash_name (name_of sub)) commands
    ++ (bash.MIDDLE.now ++ (flat_map bash_case commands ++ bash.BACK.now)))

-- ---- zsh

-- a command, with what it does
unfoldable pub zsh_command : Command → List ℕ
zsh_command command =
    codes "        '"
    ++ (name_of command ++ (codes ":" ++ (text_in setting.Zsh (about_of command) ++ codes "'\n")))

-- the end of what is said of an option: that a value follows, if it is no flag
abbrev pub zsh_value : ArgAction → List ℕ → List ℕ
zsh_value SetTrue id = codes "]' \\\n"
zsh_value action id = codes "]:" ++ (id ++ zsh.FILES.now)

-- what is said of an option
unfoldable pub zsh_told : Arg → List ℕ
zsh_told argument = codes "[" ++ (text_in setting.Zsh (words_of argument.help) ++ zsh_value (action_of argument) argument.id.now)

abbrev pub zsh_short_of : Option ℕ → Arg → List ℕ
zsh_short_of (Some character) argument = codes "                '-" ++ (encode_utf8 character ++ zsh_told argument)
zsh_short_of None argument = []

abbrev pub zsh_long_of : Option (Bor (List ℕ)) → Arg → List ℕ
zsh_long_of (Some name) argument = codes "                '--" ++ (name.now ++ zsh_told argument)
zsh_long_of None argument = []

-- an option by its short name, and by its long one; an argument by its place has none
abbrev pub zsh_short : Arg → List ℕ
zsh_short argument = zsh_short_of argument.short argument

abbrev pub zsh_long : Arg → List ℕ
zsh_long argument = zsh_long_of argument.long argument

abbrev pub zsh_option : Arg → List ℕ
zsh_option argument = zsh_short argument ++ zsh_long argument

-- the case of a command: its options, and files
unfoldable pub zsh_case : Command → List ℕ
zsh_case command =
    zsh.CASE.now
    ++ (name_of command ++ (zsh.OPTIONS.now ++ (flat_map zsh_option (arguments_of command) ++ zsh.LAST.now)))

-- the subcommands, and the case of each
unfoldable pub zsh_text : Command → List ℕ
zsh_text command =
    let commands = commands_of command in
    zsh.FRONT.now ++ (flat_map zsh_command commands ++ (zsh.MIDDLE.now ++ (flat_map zsh_case commands ++ zsh.BACK.now)))

-- ---- fish

-- what is said of a command or an option, and the end of the line
unfoldable pub fish_told : List ℕ → List ℕ
fish_told help = codes " -d '" ++ (text_in setting.Fish help ++ codes "'\n")

abbrev pub fish_short : Option ℕ → List ℕ
fish_short (Some character) = codes " -s " ++ encode_utf8 character
fish_short None = []

-- a value follows, if it is no flag
abbrev pub fish_value : ArgAction → List ℕ
fish_value SetTrue = []
fish_value action = codes " -r"

-- the names of an option
unfoldable pub fish_names : Option ℕ → (long : List ℕ) → List ℕ
fish_names short long = codes "'" ++ (fish_short short ++ (codes " -l " ++ long))

-- the line of an option of a command, which has that long name
unfoldable pub fish_line : (long command : List ℕ) → Arg → List ℕ
fish_line long command argument =
    fish.OPTION.now
    ++ (command ++ (fish_names argument.short long ++ (fish_value (action_of argument) ++ fish_told (words_of argument.help))))

abbrev pub fish_option_of : Option (Bor (List ℕ)) → (command : List ℕ) → Arg → List ℕ
fish_option_of (Some long) command argument = fish_line long.now command argument
fish_option_of None command argument = []

-- the line of an option of a command; an argument by its place has none
abbrev pub fish_option : (command : List ℕ) → Arg → List ℕ
fish_option command argument = fish_option_of argument.long command argument

-- the line of a command, and those of its options
unfoldable pub fish_command : Command → List ℕ
fish_command command =
    fish.COMMAND.now
    ++ (name_of command
    ++ (fish_told (about_of command) ++ flat_map (fish_option (name_of command)) (arguments_of command)))

-- the subcommands, with their options
unfoldable pub fish_text : Command → List ℕ
fish_text command = fish.FRONT.now ++ flat_map fish_command (commands_of command)

-- ---- each

-- the script of a shell
abbrev pub completions_text : Shell → Command → List ℕ
completions_text shell.Bash command = bash_text command
completions_text shell.Zsh command = zsh_text command
completions_text shell.Fish command = fish_text command

-- the script of the command by which command lines are read
abbrev pub AreCompletions : Shell → List ℕ → Type 0
AreCompletions shell script = (command : Command) × IsCommand regtool command × (script ≡ completions_text shell command)
