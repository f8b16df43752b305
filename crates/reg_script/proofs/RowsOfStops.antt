-- What may stand after a script's fault and what may not, by the definitions alone.
use Rattle.std.specs.Prelude.{◌≡◌, ◌⊎◌, ℕ, List, [], ◌∷◌, ◌++◌, length, codes, Option, Some, refl}
use Rattle.std.specs.Fmt.{decimal}
use Rattle.std.proofs.Common.{ap, sym, subst, ◌∙◌, arith, inl, inr, append-nil, length-append}
use Rattle.reg_model.specs.Callbacks.{Callbacks}
use Rattle.reg_model.specs.declared.call.Call.TheVariants.{Change}
use Rattle.reg_model.specs.declared.call.Change.TheVariants.{OpenRoot}
use Rattle.reg_model.specs.declared.step.Outcome.{Outcome}
use Rattle.reg_model.specs.declared.step.Outcome.TheVariants.{Changed, Answered}
use Rattle.reg_calls.specs.Views.{View}
use Rattle.reg_calls.specs.Runs.{IsStep}
use Rattle.reg_script.specs.declared.engine.ScriptFault.TheVariants.{Read, Memory}
use Rattle.reg_script.specs.LineWords.{lines_of}
use Rattle.reg_script.specs.LineMeanings.{asks}
use Rattle.reg_script.specs.Lines.{Stand, begins, IsSaid, AreSaid}
use Rattle.reg_script.specs.ReplyTexts.{handle_text, disposition_text, outcome_text}
use Rattle.reg_script.specs.Stops.{longest_line, most_lines, PassesBound, EndsWithFeed, IsLeft, Stops}
use Rattle.reg_script.proofs.RowsOfLines.{on_lines}

-- after a failed read no line that ended is left, and none was answered that hadn't
no_line_left : (left : Option (List ℕ)) → IsLeft Read [] (codes "root 1\n") left → ⊥
unfolding on_lines
no_line_left left h = h.1.1.1.1.1.1.1.0 refl

-- the last byte
abbrev last_of : List ℕ → ℕ
last_of [] = 0
last_of (b ∷ []) = b
last_of (b ∷ d ∷ bs) = last_of (d ∷ bs)

last_is : (front : List ℕ) → last_of (front ++ 10 ∷ []) ≡ 10
last_is [] = refl
last_is (b ∷ []) = refl
last_is (b ∷ d ∷ bs) = last_is (d ∷ bs)

no_part_answered : (left : Option (List ℕ)) → IsLeft Read (codes "root 1") [] left → ⊥
unfolding on_lines
no_part_answered left h = by h.0
  where
    by : EndsWithFeed (codes "root 1") → ⊥
    by (inl e) = cc
    by (inr k) = omega (arith, ap last_of k.1, last_is k.0)

-- a read failed past a line and two bytes of the next
stopped : (callbacks : Callbacks) (hive : View) → Stops Read (Some (codes "frob\nro")) (Some []) callbacks hive hive (Some []) (Some (codes "bad\n"))
unfolding on_lines longest_line most_lines
stopped callbacks hive = record {
  lines = codes "frob\n";
  rest = codes "ro";
  read = refl;
  within = record { few = omega arith; short = (omega arith, tt) };
  text = codes "bad\n";
  last = begins callbacks hive;
  said = (begins callbacks hive, codes "bad\n", [], (refl, refl), (refl, refl), refl);
  stands = (inr (codes "frob", refl), (search arith, (search arith, tt)), within_bounds);
  hive = refl;
  written = refl;
}
  where
    within_bounds : PassesBound 1 (codes "ro") → ⊥
    within_bounds (inl h) = omega (arith, h.0)
    within_bounds (inr h) = omega (arith, h.long, ap (λ (w : List ℕ). length w) h.bytes_are, length-append h.line h.more)

-- ---- a change whose reply wasn't written wasn't made

whole_line : (lines rest : List ℕ) → EndsWithFeed lines → lines ++ rest ≡ codes "root 1\n" → (lines ≡ []) ⊎ (lines ≡ codes "root 1\n")
whole_line lines rest (inl none) e = inl none
whole_line lines rest (inr h) e = inr (subst (λ (w : List ℕ). w ≡ codes "root 1\n") (sym h.1) (by h.0 rest (subst (λ (w : List ℕ). w ++ rest ≡ codes "root 1\n") h.1 e)))
  where
    by : (front rest : List ℕ) → (front ++ 10 ∷ []) ++ rest ≡ codes "root 1\n" → front ++ 10 ∷ [] ≡ codes "root 1\n"
    by [] rest e = cc
    by (a ∷ []) rest e = cc
    by (a ∷ b ∷ []) rest e = cc
    by (a ∷ b ∷ c ∷ []) rest e = cc
    by (a ∷ b ∷ c ∷ d ∷ []) rest e = cc
    by (a ∷ b ∷ c ∷ d ∷ f ∷ []) rest e = cc
    by (a ∷ b ∷ c ∷ d ∷ f ∷ g ∷ []) rest e = cc
    by (a ∷ b ∷ c ∷ d ∷ f ∷ g ∷ i ∷ bs) rest e = absurd (omega (arith, ap (λ (w : List ℕ). length w) e, length-append (bs ++ 10 ∷ []) rest, length-append bs (10 ∷ [])))

-- a reply has its LF at least
was_told : (old new : Stand) (reply : List ℕ) → IsSaid (asks (Change (OpenRoot 1))) old reply new → reply ≡ [] → ⊥
was_told old new reply h none = by h.0 h.1 (sym h.2 ∙ none)
  where
    by : (outcome : Outcome) → IsStep old.callbacks old.hive
        (record { session = old.session; moment = old.moment; call = Change (OpenRoot 1) }) outcome new.hive →
        outcome_text (Change (OpenRoot 1)) outcome ≡ [] → ⊥
    by (Changed told) step e = omega (
      arith,
      ap (λ (w : List ℕ). length w) e,
      length-append (decimal told.status) (handle_text told.handle ++ (disposition_text told.disposition ++ 10 ∷ [])),
      length-append (handle_text told.handle) (disposition_text told.disposition ++ 10 ∷ []),
      length-append (disposition_text told.disposition) (10 ∷ []),
    )
    by (Answered answer) step e = absurd step

none_of : (a b : List ℕ) → a ++ b ≡ [] → a ≡ []
none_of [] b e = refl
none_of (x ∷ a) b e = cc

not_made : (callbacks : Callbacks) (hive new : View) → Stops Memory (Some (codes "root 1\n")) (Some []) callbacks hive new (Some []) (Some []) → new ≡ hive
unfolding on_lines
not_made callbacks hive new h = by (whole_line h.lines h.rest h.stands (sym (h.read ∙ append-nil (h.lines ++ h.rest))))
  where
    start : Stand
    start = begins callbacks hive

    by : (h.lines ≡ []) ⊎ (h.lines ≡ codes "root 1\n") → new ≡ hive
    by (inl none) = let said : AreSaid [] start h.text h.last = subst
        (λ (w : List ℕ). AreSaid (lines_of w) start h.text h.last) none h.said in
        h.hive ∙ ap (λ (s : Stand). s.hive) said.1
    by (inr one) = let said : AreSaid ((codes "root 1") ∷ []) start h.text h.last = subst
        (λ (w : List ℕ). AreSaid (lines_of w) start h.text h.last) one h.said in
        absurd (was_told start said.0 said.1 said.3 (none_of said.1 said.2 (sym said.5 ∙ sym h.written)))
