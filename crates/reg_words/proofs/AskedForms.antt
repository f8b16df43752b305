-- Forms that a command line asks for, and none of them.
use Rattle.std.proofs.Common.{◌≡◌, ◌∙◌, List, ℕ, Bool, true, false, codes, map, sym, refl, ap, subst, inl, inr, ◌⊎◌}
use Rattle.std.specs.Prelude.{Option, Some, None, unwrap_or, ◌↔◌}
use Rattle.std.proofs.lemmas.Option.{same_Some}
use Rattle.clap.specs.Words.{Row, Text, all_of, first_of, one_of}
use Rattle.reg_words.specs.StreamLines.{IsNumber, IsSet}
use Rattle.reg_words.specs.CommandLines.{Asks, AsksForData, AsksForDifferences, AsksForForm, AsksForMoment, AsksForTimeline, AsksToWait}
use Rattle.reg_words.specs.CommandLines.{ignored_asked, shell_word}
use Rattle.reg_words.specs.Moments.{TellsMoment}
use Rattle.reg_words.specs.Internal.Commands.{IsFound}
use Rattle.reg_words.proofs.AskedWords.{none_there}
use Rattle.reg_words.proofs.AskedNames.{other, other_change}
use Rattle.reg_words.proofs.StreamWords.{other_stream, apart}
use Rattle.reg_words.specs.declared.request.DataForm.{DataForm}
use Rattle.reg_words.specs.declared.request.DataForm.TheVariants.{Told, Typed, Raw}
use Rattle.reg_words.specs.declared.request.DiffForm.{DiffForm}
use Rattle.reg_words.specs.declared.request.DiffForm.TheVariants.{Lines, Reg as ChangesText}
use Rattle.reg_words.specs.declared.request.Form.{Form}
use Rattle.reg_words.specs.declared.request.Form.TheVariants.{Reg, Json, JsonLines, Csv, Html}
use Rattle.reg_words.specs.declared.request.Request.{Request}
use Rattle.reg_words.specs.declared.request.Request.TheVariants.{Stream, Timeline, Change, Completions}
use Rattle.reg_words.specs.declared.request.Shell.{Shell}
use Rattle.reg_words.specs.declared.request.Shell.TheVariants.{Bash, Zsh, Fish}
use Rattle.reg_words.specs.declared.request.TimelineForm.{TimelineForm}
use Rattle.reg_words.specs.declared.request.TimelineForm.TheVariants.{Text as Lined, Csv as Tabled, Bodyfile}

-- a flag that a test says is given, or isn't
pub set_so : {P : Type 0} (test : Bool) → test ≡ true → (test ≡ true) ↔ P → P
set_so test e is = is.0 e

pub unset_so : {P : Type 0} (test : Bool) → test ≡ false → (test ≡ true) ↔ P → P → ⊥
unset_so test e is p = let bad : true ≡ false = sym (is.1 p) ∙ e in cc

-- data in two ways
pub two_ways : (rows : List Row) → IsSet (codes "raw") rows → IsSet (codes "type") rows → (form : DataForm) → AsksForData rows form → ⊥
two_ways rows raw typed Told h = h.0 raw
two_ways rows raw typed Typed h = h.0 raw
two_ways rows raw typed Raw h = h.1 typed

-- ---- forms of an export

pub no_name : (rows : List Row) → first_of (codes "as") rows ≡ None → (form : Form) → AsksForForm rows form → ⊥
no_name rows e (Reg is_utf8 prefix) h = none_there _ (codes "reg") e h.0
no_name rows e Json h = none_there _ (codes "json") e h.0
no_name rows e JsonLines h = none_there _ (codes "jsonl") e h.0
no_name rows e Csv h = none_there _ (codes "csv") e h.0
no_name rows e Html h = none_there _ (codes "html") e h.0

module _ (rows : List Row) (name : Text) (e : first_of (codes "as") rows ≡ Some name) (table : name ≡ codes "reg" → ⊥) where
  -- the name of none
  pub other_form : (name ≡ codes "json" → ⊥) → (name ≡ codes "jsonl" → ⊥) → (name ≡ codes "csv" → ⊥) → (name ≡ codes "html" → ⊥) →
      (form : Form) → AsksForForm rows form → ⊥
  other_form json lines csv html (Reg is_utf8 prefix) h = table (same_Some name (codes "reg") (sym e ∙ h.0))
  other_form json lines csv html Json h = json (same_Some name (codes "json") (sym e ∙ h.0))
  other_form json lines csv html JsonLines h = lines (same_Some name (codes "jsonl") (sym e ∙ h.0))
  other_form json lines csv html Csv h = csv (same_Some name (codes "csv") (sym e ∙ h.0))
  other_form json lines csv html Html h = html (same_Some name (codes "html") (sym e ∙ h.0))

  -- an encoding that it doesn't have
  pub no_encoding : IsSet (codes "utf8") rows → (form : Form) → AsksForForm rows form → ⊥
  no_encoding set (Reg is_utf8 prefix) h = table (same_Some name (codes "reg") (sym e ∙ h.0))
  no_encoding set Json h = h.2 set
  no_encoding set JsonLines h = h.2 set
  no_encoding set Csv h = h.2 set
  no_encoding set Html h = h.2 set

  -- a front that stands nowhere in it
  pub no_front : (front : Text) → first_of (codes "prefix") rows ≡ Some front → (form : Form) → AsksForForm rows form → ⊥
  no_front front some (Reg is_utf8 prefix) h = table (same_Some name (codes "reg") (sym e ∙ h.0))
  no_front front some Json h = none_there _ front h.1 some
  no_front front some JsonLines h = none_there _ front h.1 some
  no_front front some Csv h = none_there _ front h.1 some
  no_front front some Html h = none_there _ front h.1 some

-- ---- what differs

module _ (rows : List Row) where
  -- what is passed over isn't understood
  pub no_lines : first_of (codes "as") rows ≡ None → ignored_asked (first_of (codes "ignore") rows) ≡ None → (form : DiffForm) →
      AsksForDifferences rows form → ⊥
  no_lines none lacks (Lines path ignored) h = none_there _ ignored lacks h.2
  no_lines none lacks (ChangesText is_utf8) h = none_there _ (codes "reg") none h.0

  -- lines in an encoding of a .reg text
  pub no_encoded : first_of (codes "as") rows ≡ None → IsSet (codes "utf8") rows → (form : DiffForm) → AsksForDifferences rows form → ⊥
  no_encoded none set (Lines path ignored) h = h.3 set
  no_encoded none set (ChangesText is_utf8) h = none_there _ (codes "reg") none h.0

  -- a form of another name
  pub no_text : (name : Text) → first_of (codes "as") rows ≡ Some name → (name ≡ codes "reg" → ⊥) → (form : DiffForm) →
      AsksForDifferences rows form → ⊥
  no_text name e differs (Lines path ignored) h = none_there _ name h.0 e
  no_text name e differs (ChangesText is_utf8) h = differs (same_Some name (codes "reg") (sym e ∙ h.0))

  -- a text of some keys, or one that passes something over
  pub no_part : (name given : Text) → first_of (codes "as") rows ≡ Some name →
      ((first_of (codes "path") rows ≡ Some given) ⊎ (first_of (codes "ignore") rows ≡ Some given)) → (form : DiffForm) →
      AsksForDifferences rows form → ⊥
  no_part name given e part (Lines path ignored) h = none_there _ name h.0 e
  no_part name given e (inl path) (ChangesText is_utf8) h = none_there _ given h.1 path
  no_part name given e (inr ignore) (ChangesText is_utf8) h = none_there _ given h.2 ignore

-- ---- timelines

module _ (rows : List Row) where
  pub no_timeline : ((all_of (codes "files") rows ≡ None) ⊎ (((form : TimelineForm) → AsksForTimeline rows form → ⊥)
      ⊎ (((from : ℕ) → AsksForMoment (codes "from") 0 rows from → ⊥)
      ⊎ ((to : ℕ) → AsksForMoment (codes "to") 18446744073709551615 rows to → ⊥)))) → (request : Request) →
      Asks (codes "timeline", rows) request → ⊥
  no_timeline (inl e) (Timeline timeline) h = none_there _ (map (λ file. file.now) timeline.files.items) e h.1
  no_timeline (inr (inl never)) (Timeline timeline) h = never timeline.form h.5
  no_timeline (inr (inr (inl never))) (Timeline timeline) h = never timeline.from h.3
  no_timeline (inr (inr (inr never))) (Timeline timeline) h = never timeline.to h.4
  no_timeline e (Stream request) h = other_stream (codes "timeline", rows) (codes "timeline") request refl refl refl refl refl h
  no_timeline e (Change edit change) h = other_change (codes "timeline") rows edit change refl refl refl refl h
  no_timeline e request h = other (codes "timeline") rows request refl refl h

  module _ (name : Text) (e : unwrap_or (first_of (codes "as") rows) (codes "text") ≡ name) where
    pub lined : name ≡ codes "text" → AsksForTimeline rows Lined
    lined is = e ∙ is

    -- another name was given
    given : (word : Text) (o : Option Text) → unwrap_or o (codes "text") ≡ word → (word ≡ codes "text" → ⊥) → o ≡ Some word
    given word None is differs = absurd (differs (sym is))
    given word (Some text) is differs = ap Some is

    pub tabled : name ≡ codes "csv" → AsksForTimeline rows Tabled
    tabled is = given (codes "csv") (first_of (codes "as") rows) (e ∙ is) (λ bad. apart (codes "csv") (codes "text") refl refl bad)

    pub bodied : name ≡ codes "bodyfile" → AsksForTimeline rows Bodyfile
    bodied is = given (codes "bodyfile") (first_of (codes "as") rows) (e ∙ is) (λ bad. apart (codes "bodyfile") (codes "text") refl refl bad)

    named_by : (o : Option Text) (word : Text) → o ≡ Some word → unwrap_or o (codes "text") ≡ name → name ≡ word
    named_by o word is by = sym by ∙ ap (λ (p : Option Text). unwrap_or p (codes "text")) is

    pub no_form : (name ≡ codes "text" → ⊥) → (name ≡ codes "csv" → ⊥) → (name ≡ codes "bodyfile" → ⊥) → (form : TimelineForm) →
        AsksForTimeline rows form → ⊥
    no_form text csv body Lined h = text (sym e ∙ h)
    no_form text csv body Tabled h = csv (named_by (first_of (codes "as") rows) (codes "csv") h e)
    no_form text csv body Bodyfile h = body (named_by (first_of (codes "as") rows) (codes "bodyfile") h e)

-- a moment that an option tells, or another where it isn't given
pub moment_given : (name : Text) (other : ℕ) (rows : List Row) (text : Text) (r : Option ℕ) → first_of name rows ≡ Some text →
    IsFound (TellsMoment text) r → IsFound (AsksForMoment name other rows) r
moment_given name instead rows text None e never =
    λ moment h. either moment h
  where
    either : (moment : ℕ) → AsksForMoment name instead rows moment → ⊥
    either moment (inl none) = none_there _ text none.0 e
    either moment (inr given) = never moment (subst (λ (t : Text). TellsMoment t moment) (same_Some given.0 text (sym given.1 ∙ e)) given.2)
moment_given name instead rows text (Some moment) e tells = inr (text, e, tells)

-- ---- how long to wait

pub waits_none : (rows : List Row) → one_of (codes "wait") rows ≡ None → AsksToWait rows 0
waits_none rows none = inl (none, refl)

pub no_wait : (rows : List Row) (text : Text) → one_of (codes "wait") rows ≡ Some text → ((number : ℕ) → IsNumber text number → ⊥) →
    (seconds : ℕ) → AsksToWait rows seconds → ⊥
no_wait rows text some never seconds (inl none) = none_there _ text none.0 some
no_wait rows text some never seconds (inr given) =
    never seconds (subst (λ (t : Text). IsNumber t seconds) (same_Some given.0 text (sym given.1 ∙ some)) given.2)

-- ---- shells

pub no_shell : (rows : List Row) → first_of (codes "shell") rows ≡ None → (shell : Shell) → first_of (codes "shell") rows ≡ Some (shell_word shell) →
    ⊥
no_shell rows none shell h = none_there _ (shell_word shell) none h

pub other_shell : (rows : List Row) (name : Text) → first_of (codes "shell") rows ≡ Some name → (name ≡ codes "bash" → ⊥) →
    (name ≡ codes "zsh" → ⊥) → (name ≡ codes "fish" → ⊥) → (shell : Shell) → first_of (codes "shell") rows ≡ Some (shell_word shell) → ⊥
other_shell rows name e bash zsh fish Bash h = bash (same_Some name (codes "bash") (sym e ∙ h))
other_shell rows name e bash zsh fish Zsh h = zsh (same_Some name (codes "zsh") (sym e ∙ h))
other_shell rows name e bash zsh fish Fish h = fish (same_Some name (codes "fish") (sym e ∙ h))

pub no_completions : (rows : List Row) → ((shell : Shell) → first_of (codes "shell") rows ≡ Some (shell_word shell) → ⊥) → (request : Request) →
    Asks (codes "completions", rows) request → ⊥
no_completions rows never (Completions shell) h = never shell h.1
no_completions rows never (Stream request) h =
    other_stream (codes "completions", rows) (codes "completions") request refl refl refl refl refl h
no_completions rows never (Change edit change) h = other_change (codes "completions") rows edit change refl refl refl refl h
no_completions rows never request h = other (codes "completions") rows request refl refl h
