-- What a pattern finds in an image (this project's own).
use Rattle.std.specs.Prelude.{◌≡◌, ℕ, Bool, List, Option, is_some}
use Rattle.std.specs.Io.KnownBytes.{Appends}
use Rattle.regex.specs.Patterns.{find}
use Rattle.regex.specs.Bytes.{regex_pattern}
use Rattle.regex.specs.declared.bytes.regex.Regex.{Regex}
use Rattle.reg_heap.specs.Paths.{Tree}
use Rattle.reg_tree_text.specs.DumpFronts.{IsStopped}
use Rattle.reg_tree_image.specs.Loads.{ReadsImage, MeetsFault}
use Rattle.reg_find.specs.Findings.{found_text, is_found_in}
use Rattle.reg_find.specs.PatternTexts.{IsPatternOf, IsRefusedFor}
use Rattle.reg_find.specs.declared.scope.Scope.{Scope}
use Rattle.reg_queries.specs.declared.fault.FindFault.{FindFault}
use Rattle.reg_queries.specs.declared.fault.FindFault.TheVariants.{Pattern, Load, Stopped}

-- which texts a regular expression matches: those in a part of which it is found
abbrev pub matched_by : Regex → List ℕ → Bool
matched_by regex text = is_some (find (regex_pattern regex) text 0)

-- an image was read, what matches in its tree was written, and it was answered whether anything does
pub record FindsBy (unread left : Option (List ℕ)) (matches : List ℕ → Bool) (scope : Scope) (is_found : Bool) (before after : Option (List ℕ))
    : Type 0 where
  pub tree : Tree
  pub reads : ReadsImage unread left tree
  pub written : Appends before after (found_text matches scope tree)
  pub found : is_found ≡ is_found_in matches scope tree

-- an image was read, what the regular expression in a text finds in its tree was written, and it was answered whether it finds anything
pub record Finds (unread left : Option (List ℕ)) (pattern : List ℕ) (ignores_case : Bool) (scope : Scope) (is_found : Bool)
    (before after : Option (List ℕ)) : Type 0 where
  pub regex : Regex
  pub is_pattern : IsPatternOf pattern ignores_case regex
  pub finds : FindsBy unread left (matched_by regex) scope is_found before after

-- why a search wasn't made, or not to the end: the image doesn't load, and nothing was written; or a write or memory failed
abbrev pub SearchStops : FindFault → (unread left : Option (List ℕ)) → (matches : List ℕ → Bool) → Scope → (before after : Option (List ℕ)) → Type 0
SearchStops (Pattern fault) unread left matches scope before after = ⊥
SearchStops (Load fault) unread left matches scope before after = MeetsFault fault unread left × (after ≡ before)
SearchStops (Stopped fault) unread left matches scope before after =
    (tree : Tree) × ReadsImage unread left tree × IsStopped before after (found_text matches scope tree) fault

-- why a search for the regular expression in a text wasn't made, or not to the end: it is none that is compiled, and nothing was read or written; or its search stopped
abbrev pub FindStops : FindFault → (unread left : Option (List ℕ)) → (pattern : List ℕ) → (ignores_case : Bool) → Scope →
    (before after : Option (List ℕ)) → Type 0
FindStops (Pattern fault) unread left pattern ignores_case scope before after =
    IsRefusedFor pattern ignores_case fault × (left ≡ unread) × (after ≡ before)
FindStops fault unread left pattern ignores_case scope before after =
    (regex : Regex) × IsPatternOf pattern ignores_case regex × SearchStops fault unread left (matched_by regex) scope before after
