-- What a script writes (this project's own rules of the script).
use Rattle.std.specs.Prelude.{◌≡◌, ℕ, List, [], ◌∷◌, ◌++◌, codes, length, replicate, Option}
use Rattle.std.specs.FinMap.{insert, empty}
use Rattle.reg_model.specs.declared.notice.Notice.{Notice}
use Rattle.reg_model.specs.declared.step.Outcome.{Outcome}
use Rattle.reg_tree.specs.TreeKeys.{made_root}
use Rattle.reg_model.specs.Callbacks.{Callbacks, no_callbacks}
use Rattle.reg_calls.specs.Views.{View, IsHive, IsNoticeTaken}
use Rattle.reg_calls.specs.Runs.{IsStep}
use Rattle.reg_script.specs.LineWords.{lines_of}
use Rattle.reg_script.specs.LineMeanings.{Meaning, nothing, at_moment, as_session, on_hive, asks, takes_notice, bad, meaning_of}
use Rattle.reg_script.specs.ReplyTexts.{outcome_text, notice_text}

-- where a script stands between two lines: the hive, what its callbacks answer, and the settings
pub record Stand : Type 0 where
  pub hive : View
  pub callbacks : Callbacks
  pub moment : ℕ
  pub session : ℕ

-- a line that gives no reply, and takes the script there
abbrev pub IsSilent : Stand → List ℕ → Stand → Type 0
IsSilent there text new = (text ≡ []) × (new ≡ there)

-- a line's reply, and where the script stands after it: a call is answered at the moment and of the session that are set, and the
-- taking of a notice by the first of all that this session was told and hasn't taken
abbrev pub IsSaid : Meaning → Stand → List ℕ → Stand → Type 0
IsSaid nothing old text new = IsSilent old text new
IsSaid (at_moment moment) old text new = IsSilent (record old { moment = moment }) text new
IsSaid (as_session session) old text new = IsSilent (record old { session = session }) text new
IsSaid (on_hive hive) old text new = IsSilent old text new
IsSaid bad old text new = (text ≡ codes "bad\n") × (new ≡ old)
IsSaid (asks call) old text new =
    (outcome : Outcome) ×
    IsStep old.callbacks old.hive (record { session = old.session; moment = old.moment; call = call }) outcome new.hive ×
    (text ≡ outcome_text call outcome) × (new ≡ record old { hive = new.hive })
IsSaid takes_notice old text new =
    (notice : Option Notice) × IsNoticeTaken old.hive new.hive old.session notice × (text ≡ notice_text notice) ×
    (new ≡ record old { hive = new.hive })

-- lines after one another, and their replies in one text
abbrev pub AreSaid : List (List ℕ) → Stand → List ℕ → Stand → Type 0
AreSaid [] old text new = (text ≡ []) × (new ≡ old)
AreSaid (line ∷ lines) old text new =
    (mid : Stand) × (reply : List ℕ) × (rest : List ℕ) × IsSaid (meaning_of line) old reply mid × AreSaid lines mid rest new ×
    (text ≡ reply ++ rest)

-- where it begins on a hive with these callbacks, at this moment: the session is 0 at first
abbrev pub begins_at : ℕ → Callbacks → View → Stand
begins_at begin callbacks hive = record { hive = hive; callbacks = callbacks; moment = begin; session = 0 }

-- the moment is 0 at first where none is given
abbrev pub begins : Callbacks → View → Stand
begins callbacks hive = begins_at 0 callbacks hive

-- a script that runs on a hive with these callbacks may write this text, and leave the hive so
abbrev pub Lines : Callbacks → View → List ℕ → List ℕ → View → Type 0
Lines callbacks old script text new =
    (last : Stand) × AreSaid (lines_of script) (begins callbacks old) text last × (last.hive ≡ new)

-- a script that begins at one moment may write this text, leave the hive so, and end at another: that of the last line that sets one, if any
abbrev pub LinesFrom : ℕ → Callbacks → View → List ℕ → List ℕ → View → ℕ → Type 0
LinesFrom begin callbacks old script text new moment =
    (last : Stand) × AreSaid (lines_of script) (begins_at begin callbacks old) text last × (last.hive ≡ new)
    × (last.moment ≡ moment)

-- a script that begins at the moment 0 may write this text, leave the hive so, and end at this moment
abbrev pub LinesTo : Callbacks → View → List ℕ → List ℕ → View → ℕ → Type 0
LinesTo callbacks old script text new moment = LinesFrom 0 callbacks old script text new moment

-- the root's descriptor: a self-relative security descriptor with nothing in it
abbrev pub fresh_descriptor : List ℕ
fresh_descriptor = 1 ∷ 0 ∷ 4 ∷ 128 ∷ replicate 16 0

-- a script's hive at first: a root, no entries, also none before its journal, no notices, one bin
pub record IsFresh (hive : View) : Type 0 where
  pub is_hive : IsHive hive
  pub bin : length hive.keys.bins.bytes ≡ 4096
  pub origin : hive.origin ≡ insert empty [] (made_root (codes "ROOT") fresh_descriptor 0)
  pub base : hive.base ≡ 0
  pub before : hive.before ≡ []
  pub journal : hive.journal ≡ []

-- a script may write this text, on a fresh hive without callbacks
pub record Writes (script text : List ℕ) : Type 0 where
  pub fresh : View
  pub is_fresh : IsFresh fresh
  pub last : View
  pub lines : Lines no_callbacks fresh script text last
