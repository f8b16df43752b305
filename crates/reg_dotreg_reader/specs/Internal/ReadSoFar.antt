-- What a reader's calls gave, and what it has read so far.
use Rattle.std.specs.Prelude.{◌≡◌, ℕ, Bool, Option, Some, None, Result, MatchResult}
use Rattle.reg_dotreg_reader.specs.declared.fault.LineFault.{LineFault}
use Rattle.reg_dotreg_reader.specs.declared.fault.LineFault.TheVariants.{Form}
use Rattle.reg_dotreg_reader.specs.declared.expected.BadLine.{BadLine}
use Rattle.reg_dotreg_reader.specs.BadLines.{Step}

-- what was read is what is there, seen so; or nothing is there; or there was no memory for it
abbrev pub Reads : {A B : Type 0} → (A → B) → Option B → Result A LineFault → Type 0
Reads seen there result = MatchResult result (λ a. there ≡ Some (seen a)) (λ fault. fault ≡ Form → there ≡ None)

-- what a line gives
pub record IsStep (step : Step) (bad : Option BadLine) (open_then : Bool) (skipped : ℕ) : Type 0 where
  pub bad_is : bad ≡ step.bad
  pub open_is : open_then ≡ step.open_then
  pub skipped_is : skipped ≡ step.skipped
