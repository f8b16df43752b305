-- What is read of a text's front, and then of what comes after it.
use Rattle.std.proofs.Common.{◌≡◌, ℕ, ◌+◌, ◌||◌, Bool, true, false, cond, List, [], ◌∷◌, ◌++◌, length}
use Rattle.std.proofs.Common.{drop, Option, Some, None, refl, sym, ap, ◌∙◌, append_assoc}
use Rattle.std.specs.Prelude.{Ok, Err}
use Rattle.std.proofs.lemmas.List.{map-append}
use Rattle.reg_dotreg_reader.specs.declared.entry.Entry.{Entry}
use Rattle.reg_dotreg_reader.specs.declared.entry.Numbered.{Numbered}
use Rattle.reg_dotreg_reader.specs.EntryWords.{behind_blanks, before_blanks, before_mark}
use Rattle.reg_dotreg_reader.specs.EntryLines.{Line, lines_of, whole_of, whole_lines}
use Rattle.reg_dotreg_reader.specs.EntryMeanings.{Reading, with_entries, one_read, is_key, takes_values, said, entries_from}
use Rattle.reg_dotreg_reader.proofs.TextLines.{skipped}
use Rattle.reg_dotreg_import.specs.Imports.{entries_of}
use Rattle.reg_dotreg_law.specs.ReadBack.{reading, Goes, Says}
use Rattle.reg_dotreg_law.proofs.LineEnds.{line-back}

with-both : (a b : List Numbered) (r : Reading) → with_entries a (with_entries b r) ≡ with_entries (a ++ b) r
with-both a b (Ok others) = ap (λ (w : List Numbered). Ok w) (sym (append_assoc a b others))
with-both a b (Err number) = refl

with-none : (r : Reading) → r ≡ with_entries [] r
with-none (Ok others) = refl
with-none (Err number) = refl

pub says-none : (root : List ℕ) (is_open : Bool) → Says root is_open [] [] is_open
says-none root is_open number rest = record { later = number; read = []; same = refl; is = with-none (reading root is_open number rest) }

pub says-both : (root : List ℕ) (first second third : Bool) (a b : List ℕ) (es fs : List Entry) → Says root first a es second →
    Says root second b fs third → Says root first (a ++ b) (es ++ fs) third
says-both root first second third a b es fs p q number rest =
    let x = p number (b ++ rest) in
    let y = q x.later rest in
    record {
      later = y.later;
      read = x.read ++ y.read;
      same =
          map-append (λ (n : Numbered). n.entry) x.read y.read
          ∙ (ap (λ (w : List Entry). w ++ entries_of y.read) x.same ∙ ap (λ (w : List Entry). es ++ w) y.same);
      is =
          ap (reading root first number) (append_assoc a b rest)
          ∙ (x.is ∙ (ap (with_entries x.read) y.is ∙ with-both x.read y.read (reading root third y.later rest)));
    }

-- ---- one line, or several that are joined

behind-more : (more others : List (List ℕ)) → drop (length more) (more ++ others) ≡ others
behind-more [] [] = refl
behind-more [] (o ∷ others) = refl
behind-more (m ∷ more) others = behind-more more others

whole-first : (number : ℕ) (line units : List ℕ) (more others : List (List ℕ)) → whole_of line (more ++ others) ≡ (units, length more) →
    whole_lines 0 number (line ∷ (more ++ others)) ≡
    record { number = number; units = units } ∷ whole_lines 0 (number + 1 + length more) others
unfolding whole_lines
whole-first number line units more others e =
    ap (λ (p : List ℕ × ℕ). record { number = number; units = p.0 } ∷ whole_lines p.1 (number + 1) (more ++ others)) e
    ∙ ap (λ (w : List Line). record { number = number; units = units } ∷ w)
    (skipped (length more) (number + 1) (more ++ others)
    ∙ ap (λ (w : List (List ℕ)). whole_lines 0 (number + 1 + length more) w) (behind-more more others))

read-first : (root : List ℕ) (is_open : Bool) (line : Line) (lines : List Line) (found : Option (Option Entry)) →
    said root false line.units ≡ found →
    entries_from root false is_open (line ∷ lines) ≡ one_read line.number is_open found (λ open_then. entries_from root false open_then lines)
unfolding entries_from
read-first root is_open line lines found e =
    ap (λ (o : Option (Option Entry)). one_read line.number is_open o (λ open_then. entries_from root false open_then lines)) e

allowed : (number : ℕ) (is_open : Bool) (entry : Entry) (others : Bool → Reading) → (is_key entry || is_open) ≡ true →
    one_read number is_open (Some (Some entry)) others ≡
    with_entries (record { line = number; entry = entry } ∷ []) (others (takes_values is_open entry))
allowed number is_open entry others e =
    ap (λ (b : Bool). cond b (with_entries (record { line = number; entry = entry } ∷ []) (others (takes_values is_open entry))) (Err number)) e

pub goes-lines : (root : List ℕ) (is_open : Bool) (number : ℕ) (text line units : List ℕ) (more : List (List ℕ)) (entry : Entry) (rest : List ℕ) →
    lines_of text ≡ line ∷ (more ++ lines_of rest) → whole_of line (more ++ lines_of rest) ≡ (units, length more) →
    said root false units ≡ Some (Some entry) → (is_key entry || is_open) ≡ true →
    Goes root is_open number text (entry ∷ []) (takes_values is_open entry) rest
goes-lines root is_open number text line units more entry rest l w s k =
    let later : ℕ = number + 1 + length more in
    let whole : Line = record { number = number; units = units } in
    record {
      later = later;
      read = record { line = number; entry = entry } ∷ [];
      same = refl;
      is =
          ap (λ (ls : List (List ℕ)). entries_from root false is_open (whole_lines 0 number ls)) l
          ∙ (ap (entries_from root false is_open) (whole-first number line units more (lines_of rest) w)
          ∙ (read-first root is_open whole (whole_lines 0 later (lines_of rest)) (Some (Some entry)) s
          ∙ allowed number is_open entry (λ open_then. entries_from root false open_then (whole_lines 0 later (lines_of rest))) k));
    }

-- a line that says nothing
goes-empty-line : (root : List ℕ) (is_open : Bool) (number : ℕ) (text rest : List ℕ) → lines_of text ≡ (13 ∷ []) ∷ lines_of rest →
    whole_of (13 ∷ []) (lines_of rest) ≡ ([], 0) → said root false [] ≡ Some None → Goes root is_open number text [] is_open rest
goes-empty-line root is_open number text rest l w s =
    let later : ℕ = number + 1 + length {A = List ℕ} [] in
    let whole : Line = record { number = number; units = [] } in
    record {
      later = later;
      read = [];
      same = refl;
      is =
          ap (λ (ls : List (List ℕ)). entries_from root false is_open (whole_lines 0 number ls)) l
          ∙ (ap (entries_from root false is_open) (whole-first number (13 ∷ []) [] [] (lines_of rest) w)
          ∙ (read-first root is_open whole (whole_lines 0 later (lines_of rest)) (Some None) s
          ∙ with-none (reading root is_open later rest)));
    }

empty-said : (root : List ℕ) → said root false [] ≡ Some None
unfolding said behind_blanks before_blanks
empty-said root = refl

empty-whole : (next : List (List ℕ)) → whole_of (13 ∷ []) next ≡ ([], 0)
unfolding whole_of behind_blanks before_mark
empty-whole next = refl

pub says-empty_line : (root : List ℕ) (is_open : Bool) → Says root is_open (13 ∷ 10 ∷ []) [] is_open
says-empty_line root is_open number rest =
    goes-empty-line root is_open number (13 ∷ 10 ∷ rest) rest (line-back [] rest refl) (empty-whole (lines_of rest)) (empty-said root)
