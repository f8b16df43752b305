-- `clap`'s commands as they are put together, and what is read of their matches (this project's own).
use Rattle.jiff.specs.declared.timestamp.Timestamp.{Timestamp}
use Rattle.jiff_core.specs.declared.error.Error.{Error}
use Rattle.std.specs.Prelude.{◌≡◌, ℕ, ℤ, List, codes, false, Option, Some, None, Result, Ok, Err, IfOk}
use Rattle.clap.specs.Words.{App, Rule, app_of, rule_of}
use Rattle.clap.specs.declared.builder.command.Command.TheViews.{out-Command}
use Rattle.clap.specs.declared.builder.arg.Arg.{Arg}
use Rattle.clap.specs.declared.builder.command.Command.{Command}
use Rattle.reg_words.specs.declared.builder.CommandBuilder.{CommandBuilder}
use Rattle.reg_words.specs.declared.request.StreamRequest.{StreamRequest}
use Rattle.reg_words.specs.declared.request.Request.{Request}
use Rattle.reg_words.specs.declared.request.Request.TheVariants.{Stream}

-- an argument by this rule, of its command alone
pub record IsRule (rule : Rule) (arg : Arg) : Type 0 where
  pub rule_is : rule_of arg ≡ rule
  pub local : arg.global ≡ false

-- a command of that form, whose arguments are its own alone
pub record IsCommand (app : App) (command : Command) : Type 0 where
  pub app_is : app_of command ≡ app
  pub local : (out-Command command).has_globals ≡ false

-- what is put together is such a command, unless memory was refused for a part of it
abbrev pub IsMade : App → CommandBuilder → Type 0
IsMade app making = IfOk making.made (IsCommand app)

-- something of which this holds, or none, where it holds of none
abbrev pub IsFound : {A : Type 0} → (A → Type 0) → Option A → Type 0
IsFound P (Some a) = P a
IsFound {A} P None = (a : A) → P a → ⊥

-- the instant that a reading gives, or none where it fails
abbrev pub Tries : Option Timestamp → Result ℤ Error → Type 0
Tries (Some instant) r = r ≡ Ok instant.nanosecond
Tries None r = (e : Error) × (r ≡ Err e)

-- what is asked of the standard streams, if anything is
abbrev pub stream_of : Request → Option StreamRequest
stream_of (Stream stream) = Some stream
stream_of request = None

-- a subcommand of another name than `run`, `dump` and `check`
pub record IsNoStream (name : List ℕ) : Type 0 where
  pub no_run_word : name ≡ codes "run" → ⊥
  pub no_dump_word : name ≡ codes "dump" → ⊥
  pub no_check_word : name ≡ codes "check" → ⊥

-- and than `ls`, `get` and `find`
pub record IsNoLook (name : List ℕ) : Type 0 where
  pub no_stream : IsNoStream name
  pub no_ls_word : name ≡ codes "ls" → ⊥
  pub no_get_word : name ≡ codes "get" → ⊥
  pub no_find_word : name ≡ codes "find" → ⊥

-- and than `diff`, `export` and `timeline`
pub record IsNoQuery (name : List ℕ) : Type 0 where
  pub no_look : IsNoLook name
  pub no_diff_word : name ≡ codes "diff" → ⊥
  pub no_export_word : name ≡ codes "export" → ⊥
  pub no_timeline_word : name ≡ codes "timeline" → ⊥

-- and than `new`, `edit`, `import` and `copy`
pub record IsNoSave (name : List ℕ) : Type 0 where
  pub no_query : IsNoQuery name
  pub no_new_word : name ≡ codes "new" → ⊥
  pub no_edit_word : name ≡ codes "edit" → ⊥
  pub no_import_word : name ≡ codes "import" → ⊥
  pub no_copy_word : name ≡ codes "copy" → ⊥

-- and than all others that ask for something but a change
pub record IsOther (name : List ℕ) : Type 0 where
  pub no_save : IsNoSave name
  pub no_manual_word : name ≡ codes "manual" → ⊥
  pub no_completions_word : name ≡ codes "completions" → ⊥
  pub no_version_word : name ≡ codes "version" → ⊥
