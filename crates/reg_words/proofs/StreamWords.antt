-- What is asked of the standard streams.
use Rattle.std.proofs.Common.{◌≡◌, ◌∙◌, List, ℕ, true, false, codes, sym, ap, refl, subst, bytes_eq, inl, inr, ◌⊎◌}
use Rattle.std.specs.Prelude.{Some, None}
use Rattle.std.proofs.lemmas.Option.{same_Some}
use Rattle.clap.specs.Words.{Row, Text, all_of, first_of, one_of}
use Rattle.reg_words.specs.StreamLines.{AreBothGiven, IsSet, AsksOfStream, IsHiveCount, IsNumber}
use Rattle.reg_words.specs.declared.request.StreamRequest.{StreamRequest}
use Rattle.reg_words.specs.declared.request.StreamRequest.TheVariants.{Run, Image, Workers, Dump, Check}

-- two words that differ
pub apart : (a b : List ℕ) → bytes_eq a b ≡ false → bytes_eq a a ≡ true → a ≡ b → ⊥
apart a b differ same e = let bad : true ≡ false = sym same ∙ (ap (bytes_eq a) e ∙ differ) in cc

-- the word of the subcommand that asks for something of the standard streams
abbrev pub stream_word : StreamRequest → List ℕ
stream_word Run = codes "run"
stream_word (Image sequence) = codes "run"
stream_word (Workers count) = codes "run"
stream_word Dump = codes "dump"
stream_word Check = codes "check"

pub stream_named : (found : Text × List Row) (request : StreamRequest) → AsksOfStream found request → found.0 ≡ stream_word request
stream_named found Run h = h.0
stream_named found (Image sequence) h = h.0
stream_named found (Workers count) h = h.0
stream_named found Dump h = h.0
stream_named found Check h = h.0

-- a subcommand of another name asks for nothing of them
pub stream_apart : (found : Text × List Row) (request : StreamRequest) → (found.0 ≡ codes "run" → ⊥) → (found.0 ≡ codes "dump" → ⊥) →
    (found.0 ≡ codes "check" → ⊥) → AsksOfStream found request → ⊥
stream_apart found Run run dump check h = run h.0
stream_apart found (Image sequence) run dump check h = run h.0
stream_apart found (Workers count) run dump check h = run h.0
stream_apart found Dump run dump check h = dump h.0
stream_apart found Check run dump check h = check h.0

-- two names of one subcommand
same_name : (found : Text × List Row) (word other : Text) → found.0 ≡ word → bytes_eq word word ≡ true → bytes_eq word other ≡ false →
    found.0 ≡ other → ⊥
same_name found word other is same differ e = apart word other differ same (sym is ∙ e)

pub other_stream : (found : Text × List Row) (word : Text) (request : StreamRequest) → found.0 ≡ word → bytes_eq word word ≡ true →
    bytes_eq word (codes "run") ≡ false → bytes_eq word (codes "dump") ≡ false → bytes_eq word (codes "check") ≡ false →
    AsksOfStream found request → ⊥
other_stream found word request is same run dump check h =
    stream_apart found request (same_name found word (codes "run") is same run) (same_name found word (codes "dump") is same dump)
    (same_name found word (codes "check") is same check) h

-- where a file is named, or some
pub dump_of_file : (found : Text × List Row) (file : Text) (request : StreamRequest) → found.0 ≡ codes "dump" →
    first_of (codes "file") found.1 ≡ Some file → AsksOfStream found request → ⊥
dump_of_file found file Run is some h = same_name found (codes "dump") (codes "run") is refl refl h.0
dump_of_file found file (Image sequence) is some h = same_name found (codes "dump") (codes "run") is refl refl h.0
dump_of_file found file (Workers count) is some h = same_name found (codes "dump") (codes "run") is refl refl h.0
dump_of_file found file Dump is some h = let bad : None ≡ Some file = sym h.1 ∙ some in cc
dump_of_file found file Check is some h = same_name found (codes "dump") (codes "check") is refl refl h.0

pub check_of_files : (found : Text × List Row) (files : List Text) (request : StreamRequest) → found.0 ≡ codes "check" →
    all_of (codes "files") found.1 ≡ Some files → AsksOfStream found request → ⊥
check_of_files found files Run is some h = same_name found (codes "check") (codes "run") is refl refl h.0
check_of_files found files (Image sequence) is some h = same_name found (codes "check") (codes "run") is refl refl h.0
check_of_files found files (Workers count) is some h = same_name found (codes "check") (codes "run") is refl refl h.0
check_of_files found files Dump is some h = same_name found (codes "check") (codes "dump") is refl refl h.0
check_of_files found files Check is some h = let bad : None ≡ Some files = sym h.1 ∙ some in cc

-- standard input that wasn't written to its end, or of which more is to be told
pub no_dirty_dump : (rows : List Row) (request : StreamRequest) → IsSet (codes "dirty") rows → AsksOfStream (codes "dump", rows) request → ⊥
no_dirty_dump rows Run dirty h = apart (codes "dump") (codes "run") refl refl h.0
no_dirty_dump rows (Image sequence) dirty h = apart (codes "dump") (codes "run") refl refl h.0
no_dirty_dump rows (Workers count) dirty h = apart (codes "dump") (codes "run") refl refl h.0
no_dirty_dump rows Dump dirty h = h.2 dirty
no_dirty_dump rows Check dirty h = apart (codes "dump") (codes "check") refl refl h.0

pub no_flagged_check : (rows : List Row) (request : StreamRequest) → (IsSet (codes "dirty") rows ⊎ IsSet (codes "verbose") rows) →
    AsksOfStream (codes "check", rows) request → ⊥
no_flagged_check rows Run set h = apart (codes "check") (codes "run") refl refl h.0
no_flagged_check rows (Image sequence) set h = apart (codes "check") (codes "run") refl refl h.0
no_flagged_check rows (Workers count) set h = apart (codes "check") (codes "run") refl refl h.0
no_flagged_check rows Dump set h = apart (codes "check") (codes "dump") refl refl h.0
no_flagged_check rows Check (inl dirty) h = h.2 dirty
no_flagged_check rows Check (inr verbose) h = h.3 verbose

-- an option that was given and wasn't
given_too : (name : Text) (rows : List Row) (text : Text) → one_of name rows ≡ Some text → one_of name rows ≡ None → ⊥
given_too name rows text some none = let bad : None ≡ Some text = sym none ∙ some in cc

-- `run` with a sequence number that is none
pub no_running : (rows : List Row) (text : Text) → one_of (codes "image") rows ≡ Some text → ((number : ℕ) → IsNumber text number → ⊥) →
    (request : StreamRequest) → AsksOfStream (codes "run", rows) request → ⊥
no_running rows text some never Run h = given_too (codes "image") rows text some h.1
no_running rows text some never (Image sequence) h =
    never sequence (subst (λ (u : Text). IsNumber u sequence) (same_Some h.1.0 text (sym h.1.1 ∙ some)) h.1.2)
no_running rows text some never (Workers count) h = given_too (codes "image") rows text some h.1
no_running rows text some never Dump h = apart (codes "run") (codes "dump") refl refl h.0
no_running rows text some never Check h = apart (codes "run") (codes "check") refl refl h.0

-- `run` with a number of hives that is none
pub no_working : (rows : List Row) (text : Text) → one_of (codes "workers") rows ≡ Some text → ((number : ℕ) → IsHiveCount text number → ⊥) →
    (request : StreamRequest) → AsksOfStream (codes "run", rows) request → ⊥
no_working rows text some never Run h = given_too (codes "workers") rows text some h.2
no_working rows text some never (Image sequence) h = given_too (codes "workers") rows text some h.2
no_working rows text some never (Workers count) h =
    never count.number (subst (λ (u : Text). IsHiveCount u count.number) (same_Some h.2.0 text (sym h.2.1 ∙ some)) h.2.2)
no_working rows text some never Dump h = apart (codes "run") (codes "dump") refl refl h.0
no_working rows text some never Check h = apart (codes "run") (codes "check") refl refl h.0

-- `run` with both its options
pub no_stream_of_both : (found : Text × List Row) → AreBothGiven found → (request : StreamRequest) → AsksOfStream found request → ⊥
no_stream_of_both found both Run h = given_too (codes "image") found.1 both.1.0 both.1.1 h.1
no_stream_of_both found both (Image sequence) h = given_too (codes "workers") found.1 both.2.0 both.2.1 h.2
no_stream_of_both found both (Workers count) h = given_too (codes "image") found.1 both.1.0 both.1.1 h.1
no_stream_of_both found both Dump h = same_name found (codes "run") (codes "dump") both.0 refl refl h.0
no_stream_of_both found both Check h = same_name found (codes "run") (codes "check") both.0 refl refl h.0
