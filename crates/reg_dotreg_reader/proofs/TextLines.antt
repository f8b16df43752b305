-- The lines of a text, one after another, and those that a value goes on in.
use Rattle.std.proofs.Common.{◌≡◌, ℕ, zero, suc, ◌+◌, ◌-◌, ◌<◌, ◌==◌, Bool, true, false, cond, List, [], ◌∷◌, length, take, drop}
use Rattle.std.proofs.Common.{Some, None, refl, sym, ap, ◌∙◌, arith}
use Rattle.std.specs.List.{slice_split, position}
use Rattle.std.proofs.lemmas.Bool.Decides.{nat_tests}
use Rattle.reg_text.proofs.AppendedBytes.{rest_is}
use Rattle.reg_dotreg_reader.specs.EntryLines.{is_feed, ended, lines_of, whole_lines}
use Rattle.reg_dotreg_reader.proofs.DigitLists.{split_first, split_last, split_some}

-- ---- lines

ended_more : (part : List ℕ) (parts : List (List ℕ)) → (parts ≡ [] → ⊥) → ended (part ∷ parts) ≡ part ∷ ended parts
unfolding ended
ended_more part [] some = absurd (some refl)
ended_more part (next ∷ parts) some = refl

pub lines_empty : (text : List ℕ) → length text ≡ 0 → lines_of text ≡ []
unfolding lines_of ended
lines_empty [] e = refl
lines_empty (u ∷ us) e = absurd (omega (arith, e))

-- a line that ends with LF
pub line_first : (text line rest : List ℕ) (end : ℕ) → position is_feed text ≡ Some end → line ≡ take end text →
    rest ≡ take (length text - (end + 1)) (drop (end + 1) text) → lines_of text ≡ line ∷ lines_of rest
unfolding lines_of
line_first text line rest end at is left =
    ap ended (split_first is_feed text end at)
    ∙ (ended_more (take end text) (slice_split is_feed (drop (end + 1) text)) (split_some is_feed (drop (end + 1) text))
    ∙ (ap (λ (w : List ℕ). w ∷ ended (slice_split is_feed (drop (end + 1) text))) (sym is)
    ∙ ap (λ (w : List ℕ). line ∷ ended (slice_split is_feed w)) (sym (left ∙ rest_is (end + 1) text))))

ended_last : (text : List ℕ) → 0 < length text → ended (text ∷ []) ≡ text ∷ []
unfolding ended
ended_last [] some = absurd (omega (arith, some))
ended_last (u ∷ us) some = by (length (u ∷ us) == 0) (grind (arith, nat_tests))
  where
    by : (b : Bool) → b ≡ false → cond b [] ((u ∷ us) ∷ []) ≡ (u ∷ us) ∷ []
    by true e = absurd cc
    by false e = refl

-- the last line, which ends with the text
pub line_last : (text line rest : List ℕ) → position is_feed text ≡ None → 0 < length text → line ≡ text →
    length rest ≡ 0 → lines_of text ≡ line ∷ lines_of rest
unfolding lines_of
line_last text line rest none some is nothing =
    ap ended (split_last is_feed text none)
    ∙ (ended_last text some
    ∙ (ap (λ (w : List ℕ). w ∷ []) (sym is) ∙ ap (λ (w : List (List ℕ)). line ∷ w) (sym (lines_empty rest nothing))))

-- lines that are skipped
pub skipped : (count number : ℕ) (lines : List (List ℕ)) → whole_lines count number lines ≡ whole_lines 0 (number + count) (drop count lines)
unfolding whole_lines
skipped zero number lines = ap (λ (n : ℕ). whole_lines 0 n lines) (omega arith)
skipped (suc count) number [] = refl
skipped (suc count) number (line ∷ lines) =
    let same : number + 1 + count ≡ number + suc count = omega arith in
    skipped count (number + 1) lines ∙ ap (λ (n : ℕ). whole_lines 0 n (drop count lines)) same

pub ruleset lines = (lines_empty, line_first, line_last)
