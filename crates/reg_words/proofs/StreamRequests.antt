-- What is asked of files asks for nothing of the standard streams alone.
use Rattle.std.proofs.Common.{◌≡◌, List, ℕ, codes, refl, subst, map}
use Rattle.std.specs.Prelude.{Option, Some, None}
use Rattle.clap.specs.Words.{Row, Text}
use Rattle.reg_words.specs.StreamLines.{AsksOfStream}
use Rattle.reg_words.specs.declared.typed.change.KeyChange.{KeyChange}
use Rattle.reg_words.specs.declared.typed.change.KeyChange.TheVariants.{CreateKey, SetValue, DeleteValue, DeleteKey}
use Rattle.reg_words.specs.CommandLines.{found_in, AsksToChange, Asks, AsksIn, AsksNoStream, HasBothOptions, IsCommandLine}
use Rattle.reg_words.specs.Internal.Commands.{stream_of}
use Rattle.reg_words.specs.declared.request.StreamRequest.{StreamRequest}
use Rattle.reg_words.specs.declared.request.Request.{Request}
use Rattle.reg_words.specs.declared.request.Request.TheVariants.{Stream, Dump, Check, Listing, Get, Find, Diff, Export, Timeline, New, Edit, Import}
use Rattle.reg_words.specs.declared.request.Request.TheVariants.{Change, Copy, Manual, Completions, Version}
use Rattle.reg_words.proofs.CommandShapes.{nothing_of_both}
use Rattle.reg_words.proofs.StreamWords.{other_stream, dump_of_file, check_of_files}

change_of_file : (found : Text × List Row) (change : KeyChange) (stream : StreamRequest) → AsksToChange found change →
    AsksOfStream found stream → ⊥
change_of_file found (CreateKey path makes_parents) stream h asks = other_stream found (codes "create") stream h.0 refl refl refl refl asks
change_of_file found (SetValue path makes_parents name contents) stream h asks =
    other_stream found (codes "set") stream h.0 refl refl refl refl asks
change_of_file found (DeleteValue path name) stream h asks = other_stream found (codes "delete") stream h.0 refl refl refl refl asks
change_of_file found (DeleteKey path is_tree) stream h asks = other_stream found (codes "delete") stream h.0 refl refl refl refl asks

pub of_files : (found : Text × List Row) (request : Request) (stream : StreamRequest) → stream_of request ≡ None → Asks found request →
    AsksOfStream found stream → ⊥
of_files found (Stream other) stream e h asks = cc
of_files found (Dump hive) stream e h asks = dump_of_file found hive.file.now stream h.0 h.1.0 asks
of_files found (Check files is_dirty is_verbose) stream e h asks = check_of_files found (map (λ file. file.now) files.items) stream h.0 h.1 asks
of_files found (Listing list) stream e h asks = other_stream found (codes "ls") stream h.0 refl refl refl refl asks
of_files found (Get value) stream e h asks = other_stream found (codes "get") stream h.0 refl refl refl refl asks
of_files found (Find sought) stream e h asks = other_stream found (codes "find") stream h.0 refl refl refl refl asks
of_files found (Diff old new is_dirty form) stream e h asks = other_stream found (codes "diff") stream h.0 refl refl refl refl asks
of_files found (Export hive path form) stream e h asks = other_stream found (codes "export") stream h.0 refl refl refl refl asks
of_files found (Timeline timeline) stream e h asks =
    other_stream found (codes "timeline") stream h.0 refl refl refl refl asks
of_files found (New file name) stream e h asks = other_stream found (codes "new") stream h.0 refl refl refl refl asks
of_files found (Edit edit keeps_going) stream e h asks = other_stream found (codes "edit") stream h.0 refl refl refl refl asks
of_files found (Import edit text prefix tells_all) stream e h asks = other_stream found (codes "import") stream h.0 refl refl refl refl asks
of_files found (Change edit change) stream e h asks = change_of_file found change stream h.1 asks
of_files found (Copy edit source path into) stream e h asks = other_stream found (codes "copy") stream h.0 refl refl refl refl asks
of_files found Manual stream e h asks = other_stream found (codes "manual") stream h refl refl refl refl asks
of_files found (Completions shell) stream e h asks = other_stream found (codes "completions") stream h.0 refl refl refl refl asks
of_files found Version stream e h asks = other_stream found (codes "version") stream h refl refl refl refl asks

found_of_files : (found : Option (Text × List Row)) (request : Request) (stream : StreamRequest) → stream_of request ≡ None →
    AsksIn found request → AsksIn found (Stream stream) → ⊥
found_of_files None request stream e h asks = h
found_of_files (Some found) request stream e h asks = of_files found request stream e h asks

-- the words of such a request ask for nothing of the streams
pub no_stream : (words : List (List ℕ)) (request : Request) (result : Option StreamRequest) → result ≡ stream_of request → result ≡ None →
    IsCommandLine words request → AsksNoStream words
no_stream words request result is none line stream other =
    found_of_files (found_in words) request stream (subst (λ (o : Option StreamRequest). o ≡ None) is none) line.asks other.asks

-- words that ask for something don't have both options of `run`
pub asks_not_both : {T : Type 0} (words : List (List ℕ)) (request : Request) → IsCommandLine words request → HasBothOptions words → T
asks_not_both words request line both = absurd (nothing_of_both words both request line)

-- those of one of the streams' ask for that
stream_is : (request : Request) (stream : StreamRequest) → stream_of request ≡ Some stream → request ≡ Stream stream
stream_is (Stream other) stream e = cc
stream_is (Dump hive) stream e = cc
stream_is (Check files is_dirty is_verbose) stream e = cc
stream_is (Listing list) stream e = cc
stream_is (Get value) stream e = cc
stream_is (Find sought) stream e = cc
stream_is (Diff old new is_dirty form) stream e = cc
stream_is (Export hive path form) stream e = cc
stream_is (Timeline timeline) stream e = cc
stream_is (New file name) stream e = cc
stream_is (Edit edit keeps_going) stream e = cc
stream_is (Import edit text prefix tells_all) stream e = cc
stream_is (Change edit change) stream e = cc
stream_is (Copy edit source path into) stream e = cc
stream_is Manual stream e = cc
stream_is (Completions shell) stream e = cc
stream_is Version stream e = cc

pub some_stream : (words : List (List ℕ)) (request : Request) (result : Option StreamRequest) (stream : StreamRequest) →
    result ≡ stream_of request → result ≡ Some stream → IsCommandLine words request → IsCommandLine words (Stream stream)
some_stream words request result stream is some line =
    subst (IsCommandLine words) (stream_is request stream (subst (λ (o : Option StreamRequest). o ≡ Some stream) is some)) line
