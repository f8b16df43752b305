-- What the readers of a line's words give.
use Rattle.std.specs.Prelude.{◌≡◌, ℕ, List, [], Option, Some, None, Result, MatchResult}
use Rattle.reg_script.specs.declared.line.Line.{Line}
use Rattle.reg_script.specs.declared.words.ParseFault.{ParseFault}
use Rattle.reg_script.specs.declared.words.ParseFault.TheVariants.{Form}
use Rattle.reg_script.specs.LineWords.{words_of}
use Rattle.reg_script.specs.LineMeanings.{Meaning, first_of, ending}
use Rattle.reg_script.specs.ReadLines.{said}

-- the words of what is left of a line, if anything is
abbrev pub words_left : Option (List ℕ) → List (List ℕ)
words_left None = []
words_left (Some rest) = words_of rest

-- the first word was read so, and the others are left; or it isn't of that form, or there was no memory for it
abbrev pub Reads : {A : Type 0} → (List ℕ → Option A) → List (List ℕ) → Result A ParseFault → List (List ℕ) → Type 0
Reads word old result new = MatchResult result (λ a. first_of word old ≡ Some (a, new)) (λ e. e ≡ Form → first_of word old ≡ None)

-- what the words mean, if no more is left than these; or they mean nothing, or there was no memory for them
abbrev pub Means : (List (List ℕ) → Option Meaning) → List (List ℕ) → Result Line ParseFault → List (List ℕ) → Type 0
Means words old result new = MatchResult result (λ line. words old ≡ ending (said line) new) (λ e. e ≡ Form → words old ≡ None)
