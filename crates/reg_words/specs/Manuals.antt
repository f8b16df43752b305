-- A command's manual page, in the macros of man(7) (this project's own). Its front, its middle and its back are constants of the code.
use Rattle.std.specs.Prelude.{ℕ, ◌≡◌, if◌then◌else◌, List, [], ◌++◌, codes, flat_map, map, unwrap_or, Option, Some, None}
use Rattle.std.specs.Borrow.{Bor}
use Rattle.std.specs.Prelude.{encode_utf8}
use Rattle.std.specs.Char.{to_ascii_uppercase}
use Rattle.clap.specs.declared.builder.action.ArgAction.{ArgAction}
use Rattle.clap.specs.declared.builder.action.ArgAction.TheVariants.{Set, Append, SetTrue}
use Rattle.clap.specs.declared.builder.arg.Arg.{Arg}
use Rattle.clap.specs.declared.builder.command.Command.{Command}
use Rattle.reg_words.specs.CommandShapes.{regtool}
use Rattle.reg_words.specs.Internal.Commands.{IsCommand}
use Rattle.reg_words.specs.Settings.{words_of, text_in, name_of, about_of, arguments_of, commands_of}
use Rattle.reg_words.specs.declared.settings.Setting.TheVariants.{Page}
use Rattle.reg_words.specs.declared.page.TheConstants.{FRONT, MIDDLE, BACK, CALL}

-- a text as it stands in the page
abbrev pub paged : List ℕ → List ℕ
paged text = text_in Page text

-- the name of an argument's value: the argument's in upper case, in italics
abbrev pub value_words : List ℕ → List ℕ
value_words id = codes "\\fI" ++ (paged (map to_ascii_uppercase id) ++ codes "\\fR")

-- what an argument does where nothing else is said: it takes a value
abbrev pub action_of : Arg → ArgAction
action_of argument = unwrap_or argument.action Set

-- dots, where there may be several values
abbrev pub dots : ArgAction → List ℕ
dots Append = codes " ...\\&"
dots action = []

abbrev pub values_words : ArgAction → List ℕ → List ℕ
values_words action id = value_words id ++ dots action

-- a flag has no value, and each other option one
abbrev pub given_words : ArgAction → List ℕ → List ℕ
given_words SetTrue id = []
given_words action id = codes " " ++ values_words action id

-- an argument: an option by its long name and its value, every other one by its value
abbrev pub named_words : Option (Bor (List ℕ)) → ArgAction → List ℕ → List ℕ
named_words (Some name) action id = codes "\\fB\\-\\-" ++ (paged name.now ++ (codes "\\fR" ++ given_words action id))
named_words None action id = values_words action id

abbrev pub argument_words : Arg → List ℕ
argument_words argument = named_words argument.long (action_of argument) argument.id.now

-- an argument's line in the synopsis of its command: in brackets where it may be left out
abbrev pub place_words : Arg → List ℕ
place_words argument =
    if argument.required then argument_words argument ++ codes "\n" else codes "[" ++ (argument_words argument ++ codes "]\n")

-- an option's short name, before its long one
abbrev pub short_words : Option ℕ → List ℕ
short_words (Some character) = codes "\\fB\\-" ++ (encode_utf8 character ++ codes "\\fR, ")
short_words None = []

-- what is said of an argument
abbrev pub option_item : Arg → List ℕ
option_item argument =
    codes ".TP\n"
    ++ (short_words argument.short ++ (argument_words argument ++ (codes "\n\\&" ++ (paged (words_of argument.help) ++ codes ".\n"))))

-- how a command is called, below its name
unfoldable pub called_words : Command → List ℕ
called_words command =
    codes ".SS "
    ++ (paged (name_of command) ++ (CALL.now ++ (paged (name_of command) ++ (codes "\\fR\n"
    ++ flat_map place_words (arguments_of command)))))

-- what is said of a command: how it is called, what it does, and what each of its arguments is
unfoldable pub command_section : Command → List ℕ
command_section command =
    called_words command
    ++ (codes ".PP\n\\&" ++ (paged (about_of command) ++ (codes ".\n" ++ flat_map option_item (arguments_of command))))

-- the page of a command: what it does, and each of its subcommands
unfoldable pub manual_text : Command → List ℕ
manual_text command =
    FRONT.now
    ++ (paged (about_of command)
    ++ (MIDDLE.now ++ (flat_map command_section (commands_of command) ++ BACK.now)))

-- the page of the command by which command lines are read
abbrev pub IsManual : List ℕ → Type 0
IsManual page = (command : Command) × IsCommand regtool command × (page ≡ manual_text command)
