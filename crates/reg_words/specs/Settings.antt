-- Texts of a command as they stand in a page or in a shell's script (this project's own; groff_man(7), zshcompsys(1), fish's "Quotes").
use Rattle.std.specs.Prelude.{ℕ, ◌==◌, ◌||◌, if◌then◌else◌, List, [], ◌++◌, codes, flat_map, Option, Some, None}
use Rattle.std.specs.Borrow.{Bor}
use Rattle.std.specs.Prelude.{encode_utf8}
use Rattle.std.specs.Str.{chars}
use Rattle.clap.specs.declared.builder.arg.Arg.{Arg}
use Rattle.clap.specs.declared.builder.command.Command.{Command}
use Rattle.clap.specs.declared.builder.command.Command.TheViews.{out-Command}
use Rattle.reg_words.specs.declared.settings.Setting.{Setting}
use Rattle.reg_words.specs.declared.settings.Setting.TheVariants.{Page, Zsh, Fish}

-- a text, and the empty one where there is none
abbrev pub words_of : Option (Bor (List ℕ)) → List ℕ
words_of (Some text) = text.now
words_of None = []

-- a command's name, what it does, its arguments and its subcommands
abbrev pub name_of : Command → List ℕ
name_of command = (out-Command command).name.now

abbrev pub about_of : Command → List ℕ
about_of command = words_of (out-Command command).about

abbrev pub arguments_of : Command → List Arg
arguments_of command = (out-Command command).args.items

abbrev pub commands_of : Command → List Command
commands_of command = (out-Command command).subcommands.items

-- a character of a page: a minus sign, a backslash and a quote are written by their escapes
abbrev pub page_character : ℕ → List ℕ
page_character c = if c == 45 then codes "\\-" else (if c == 92 then codes "\\e" else (if c == 39 then codes "\\(aq" else encode_utf8 c))

-- a character of a description of zsh, in quotes: a quote is written outside of them, and a backslash stands before what parts it
abbrev pub zsh_character : ℕ → List ℕ
zsh_character c =
    if c == 39 then codes "'\\''" else (if c == 92 || (c == 91 || (c == 93 || c == 58)) then codes "\\" ++ encode_utf8 c else encode_utf8 c)

-- a character of a text of fish, in quotes
abbrev pub fish_character : ℕ → List ℕ
fish_character c = if c == 39 || c == 92 then codes "\\" ++ encode_utf8 c else encode_utf8 c

abbrev pub character_in : Setting → ℕ → List ℕ
character_in Page c = page_character c
character_in Zsh c = zsh_character c
character_in Fish c = fish_character c

-- a text so written that it means itself where it stands
unfoldable pub text_in : Setting → List ℕ → List ℕ
text_in setting text = flat_map (character_in setting) (chars text)
