-- The entry of a value, read as that value.
use Rattle.std.proofs.Common.{◌≡◌, ℕ, ◌==◌, not, true, false, List, [], ◌∷◌, ◌++◌}
use Rattle.std.proofs.Common.{Some, refl, sym, ap, ◌∙◌, subst, append_assoc, append-nil}
use Rattle.std.specs.Prelude.{flat_map}
use Rattle.std.specs.List.{list_all}
use Rattle.std.specs.Option.{option_map}
use Rattle.std.proofs.lemmas.Bool.{and_parts, and_from}
use Rattle.reg_names.specs.Names.{is_value_name}
use Rattle.reg_dotreg_writer.specs.EntryTexts.{line_end, is_line_unit, is_text_unit, quoted_unit, quoted, name_told}
use Rattle.reg_dotreg_writer.specs.EntryTexts.{hex_from, hex_rows}
use Rattle.reg_dotreg_writer.specs.Entries.{is_line_name}
use Rattle.reg_dotreg_reader.specs.declared.entry.Entry.{Entry}
use Rattle.reg_dotreg_reader.specs.declared.entry.Entry.TheVariants.{Value}
use Rattle.reg_dotreg_reader.specs.declared.rows.Place.TheVariants.{Outside}
use Rattle.reg_dotreg_reader.specs.EntryWords.{behind_blanks}
use Rattle.reg_dotreg_reader.specs.EntryLines.{lines_of, is_value_line}
use Rattle.reg_dotreg_reader.specs.EntryMeanings.{data_of, value_said, said, said_by}
use Rattle.reg_dotreg_reader.proofs.ValueRows.{whole_joined}
use Rattle.reg_dotreg_law.specs.ReadBack.{Says}
use Rattle.reg_dotreg_law.proofs.LineEnds.{is_solid, is_inline, are_inline, inline-append, Ends, ends-behind, ends-blanks}
use Rattle.reg_dotreg_law.proofs.QuotesBack.{quotes-inline}
use Rattle.reg_dotreg_law.proofs.ListsBack.{AreBytes, list_from, list-ends}
use Rattle.reg_dotreg_law.proofs.PlacesBack.{Passes, passes-both, are_bare, bare-append, bare-passes, name-passes}
use Rattle.reg_dotreg_law.proofs.RowsBack.{AreRows, row-alone, rows-back}
use Rattle.reg_dotreg_law.proofs.DataBack.{said-back}
use Rattle.reg_dotreg_law.proofs.ReadingOn.{goes-lines}

-- ---- lines

pub line-inline : (units : List ℕ) → is_line_name units ≡ true → are_inline units ≡ true
line-inline [] e = refl
line-inline (u ∷ units) e =
    let both = and_parts (is_line_unit u) (is_line_name units) e in
    and_from (is_inline u) (are_inline units) (and_parts (not (u == 13)) (not (u == 10)) both.0).1 (line-inline units both.1)

pub text-inline : (units : List ℕ) → list_all is_text_unit units ≡ true → are_inline units ≡ true
text-inline [] e = refl
text-inline (u ∷ units) e =
    let both = and_parts (is_text_unit u) (list_all is_text_unit units) e in
    let line = (and_parts (not (u == 0)) (is_line_unit u) both.0).1 in
    and_from (is_inline u) (are_inline units) (and_parts (not (u == 13)) (not (u == 10)) line).1 (text-inline units both.1)

pub between-inline : (text : List ℕ) → are_inline text ≡ true → are_inline (quoted text) ≡ true
unfolding quoted
between-inline text e = inline-append (34 ∷ []) (flat_map quoted_unit text ++ 34 ∷ []) refl
    (inline-append (flat_map quoted_unit text) (34 ∷ []) (quotes-inline text e) refl)

pub name-inline : (name : List ℕ) → are_inline name ≡ true → are_inline (name_told name) ≡ true
name-inline [] e = refl
name-inline (b ∷ name) e = between-inline (b ∷ name) e

pub begins-value : (name rest : List ℕ) → is_value_line (name_told name ++ rest) ≡ true
unfolding behind_blanks quoted
begins-value [] rest = refl
begins-value (b ∷ name) rest = refl

pub said-line : (root name rest : List ℕ) → Ends (name_told name ++ rest) →
    said root false (name_told name ++ rest) ≡ option_map Some (value_said false (name_told name ++ rest))
unfolding said behind_blanks quoted
said-line root [] rest e = ap (said_by root false) (ends-blanks (64 ∷ rest) e)
said-line root (b ∷ name) rest e = ap (said_by root false) (ends-blanks (quoted (b ∷ name) ++ rest) e)

no-rows : hex_from 24 [] ≡ []
unfolding hex_from
no-rows = refl

-- ---- a value of any form

module _ (root name : List ℕ) (kind : ℕ) (bytes : List ℕ) (named : is_value_name name ≡ true) (inline : are_inline name ≡ true) where
  abbrev value : Entry
  value = Value name kind bytes

  abbrev start : List ℕ → List ℕ
  start head = name_told name ++ 61 ∷ head

  -- some data as it is told, as one that is joined of its rows
  says-rows : (head text list given : List ℕ) (u : ℕ) → ((rest : List ℕ) → AreRows (start head) text list rest) → head ++ list ≡ u ∷ given →
      Ends (u ∷ given) → is_solid u ≡ true → (u == 45) ≡ false → data_of false (u ∷ given) ≡ Some (kind, bytes) →
      Says root true (name_told name ++ (61 ∷ ((head ++ text) ++ line_end))) (value ∷ []) true
  says-rows head text list given u rows e ends solid dash read number rest =
      let r = rows rest in
      let whole : List ℕ = (name_told name ++ (61 ∷ ((head ++ text) ++ line_end))) ++ rest in
      let parts : whole ≡ start head ++ (text ++ 13 ∷ 10 ∷ rest) =
      append_assoc (name_told name) (61 ∷ ((head ++ text) ++ line_end)) rest
      ∙ (ap (λ (w : List ℕ). name_told name ++ 61 ∷ w)
      (append_assoc (head ++ text) line_end rest ∙ append_assoc head text (13 ∷ 10 ∷ rest))
      ∙ sym (append_assoc (name_told name) (61 ∷ head) (text ++ 13 ∷ 10 ∷ rest))) in
      let begins : is_value_line r.line ≡ true =
      ap is_value_line (r.begins ∙ append_assoc (name_told name) (61 ∷ head) r.tail) ∙ begins-value name (61 ∷ (head ++ r.tail)) in
      let units : start head ++ list ≡ name_told name ++ 61 ∷ u ∷ given =
      append_assoc (name_told name) (61 ∷ head) list ∙ ap (λ (w : List ℕ). name_told name ++ 61 ∷ w) e in
      let line : List ℕ = name_told name ++ 61 ∷ u ∷ given in
      let said : said root false (start head ++ list) ≡ Some (Some value) =
      ap (said root false) units
      ∙ (said-line root name (61 ∷ u ∷ given) (ends-behind (name_told name) (61 ∷ u ∷ given) (ends-behind (61 ∷ []) (u ∷ given) ends))
      ∙ ap (option_map Some) (said-back name given u kind bytes named inline solid dash read)) in
      goes-lines root true number whole r.line (start head ++ list) r.more value rest
      (ap lines_of parts ∙ r.lines) (whole_joined r.line (r.more ++ lines_of rest) begins ∙ r.joins) said refl

  -- on one line
  pub says-alone : (given : List ℕ) (u : ℕ) → are_inline (u ∷ given) ≡ true → Passes Outside (u ∷ given) Outside → Ends (u ∷ given) → is_solid u ≡ true → (u == 45) ≡ false →
      data_of false (u ∷ given) ≡ Some (kind, bytes) → Says root true (name_told name ++ (61 ∷ (u ∷ given) ++ line_end)) (value ∷ []) true
  says-alone given u i p ends solid dash read =
      let fine : are_inline (start []) ≡ true = inline-append (name_told name) (61 ∷ []) (name-inline name inline) refl in
      let before : Passes Outside (start []) Outside =
      passes-both Outside Outside Outside (name_told name) (61 ∷ []) (name-passes name) (bare-passes (61 ∷ []) refl) in
      says-rows [] (u ∷ given) (u ∷ given) given u
      (λ rest. row-alone (start []) (u ∷ given) rest (inline-append (start []) (u ∷ given) fine i) (ends-behind (start []) (u ∷ given) ends)
      (passes-both Outside Outside Outside (start []) (u ∷ given) before p))
      refl ends solid dash read

  -- in rows
  pub says-hex : (head given : List ℕ) (u : ℕ) → are_inline head ≡ true → are_bare head ≡ true → Ends head → AreBytes bytes → head ++ list_from 24 bytes ≡ u ∷ given →
      is_solid u ≡ true → (u == 45) ≡ false → data_of false (u ∷ given) ≡ Some (kind, bytes) →
      Says root true (name_told name ++ (61 ∷ ((head ++ hex_rows bytes) ++ line_end))) (value ∷ []) true
  says-hex head given u i bare ends a e solid dash read =
      by bytes a e
    where
      fine : are_inline (start head) ≡ true
      fine = inline-append (name_told name) (61 ∷ head) (name-inline name inline) (inline-append (61 ∷ []) head refl i)

      passes : Passes Outside (start head) Outside
      passes =
          passes-both Outside Outside Outside (name_told name) (61 ∷ head) (name-passes name)
          (bare-passes (61 ∷ head) (bare-append (61 ∷ []) head refl bare))

      by : (bs : List ℕ) → AreBytes bs → head ++ list_from 24 bs ≡ u ∷ given →
          Says root true (name_told name ++ (61 ∷ ((head ++ hex_rows bs) ++ line_end))) (value ∷ []) true
      by [] a e =
          let all : head ++ [] ≡ head = append-nil head in
          subst (λ (w : List ℕ). Says root true (name_told name ++ (61 ∷ ((head ++ w) ++ line_end))) (value ∷ []) true) (sym no-rows)
          (says-rows head [] [] given u
          (λ rest. row-alone (start head) [] rest (ap are_inline (append-nil (start head)) ∙ fine)
          (subst Ends (sym (append-nil (start head))) (ends-behind (name_told name) (61 ∷ head) (ends-behind (61 ∷ []) head ends)))
          (subst (λ (w : List ℕ). Passes Outside w Outside) (sym (append-nil (start head))) passes))
          e (subst Ends (sym all ∙ e) ends) solid dash read)
      by (b ∷ bs) a e =
          says-rows head (hex_from 24 (b ∷ bs)) (list_from 24 (b ∷ bs)) given u
          (λ rest. rows-back rest (start head) 24 b bs fine passes a)
          e (subst Ends e (ends-behind head (list_from 24 (b ∷ bs)) (list-ends 24 b bs a))) solid dash read
