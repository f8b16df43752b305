-- Why a text wasn't read.
use Rattle.std.proofs.Common.{◌≡◌, ◌∙◌, ℕ, Bool, List, sym, ap, subst}
use Rattle.std.specs.Prelude.{Option, Some, Err}
use Rattle.reg_dotreg_reader.specs.FileUnits.{units_of}
use Rattle.reg_dotreg_reader.specs.EntryMeanings.{Reading, entries_in}
use Rattle.reg_dotreg_reader.specs.BadLines.{bad_lines_in, told, Tells}
use Rattle.reg_edits.specs.TextImports.{TextStops, front_of, ApplyStops}
use Rattle.reg_calls.specs.Views.{View}
use Rattle.reg_edits.specs.declared.bad_text.BadText.{BadText}
use Rattle.reg_edits.specs.declared.importing.ImportEnd.{ImportEnd}
use Rattle.reg_edits.specs.declared.importing.ImportEnd.TheVariants.{Load, Input, Text, Lines, Entry, Memory}

-- lines of it aren't understood
pub bad_read : (root units text : List ℕ) (tells_all : Bool) (bad : BadText) (number : ℕ) → bad.root.items ≡ root →
    bad.lines.items ≡ told tells_all (bad_lines_in root units) → Tells (entries_in root units) bad.lines.items →
    entries_in root units ≡ Err number → units_of text ≡ Some units → TextStops (Lines bad) root tells_all text
bad_read root units text tells_all bad number named lines first not_read are = record {
  units = units;
  units_are = are;
  number = number;
  not_read = not_read;
  lines_are = lines;
  first_is = subst (λ (r : Reading). Tells r bad.lines.items) not_read first;
  root_is = named;
}

-- it has units, of which one line isn't understood, and that is told
pub line_stops : (fault : ImportEnd) (root units read text : List ℕ) (tells_all : Bool) (number : ℕ) →
    ((n : ℕ) → entries_in root read ≡ Err n → (t : List ℕ) → units_of t ≡ Some read → TextStops fault root tells_all t) →
    entries_in root read ≡ Err number → units_of text ≡ Some units → read ≡ units → TextStops fault root tells_all text
line_stops fault root units read text tells_all number all not_read are same = all number not_read text (are ∙ ap Some (sym same))

-- an import ends where its text wasn't read
pub text_not_read : (fault : ImportEnd) (front : Option (List ℕ)) (tells_all : Bool) (moment : ℕ) (text : List ℕ) (old : View) →
    TextStops fault (front_of front old) tells_all text → ApplyStops fault front tells_all moment text old
text_not_read (Load fault) front tells_all moment text old h = absurd h
text_not_read (Input error) front tells_all moment text old h = absurd h
text_not_read (Text fault) front tells_all moment text old h = h
text_not_read (Lines bad) front tells_all moment text old h = h
text_not_read (Entry fault) front tells_all moment text old h = absurd h
text_not_read Memory front tells_all moment text old h = absurd h
