-- What a pattern found in an image: of the pattern itself, and of the text that it was compiled from.
use Rattle.std.proofs.Common.{◌≡◌, List, ℕ, Bool, subst}
use Rattle.std.specs.Prelude.{Option, Result, Ok, Err, IfOk, IfErr}
use Rattle.regex.specs.declared.bytes.regex.Regex.{Regex}
use Rattle.reg_find.specs.declared.scope.Scope.{Scope}
use Rattle.reg_find.specs.PatternTexts.{IsPatternOf}
use Rattle.reg_queries.specs.Finds.{matched_by, Finds, FindsBy, FindStops, SearchStops}
use Rattle.reg_queries.specs.declared.fault.FindFault.{FindFault}
use Rattle.reg_queries.specs.declared.fault.FindFault.TheVariants.{Pattern, Load, Stopped}

module _ (unread left : Option (List ℕ)) (pattern : List ℕ) (ignores_case : Bool) (scope : Scope) (regex : Regex) (is_pattern : IsPatternOf pattern ignores_case regex)
    (matches : List ℕ → Bool) (is : matches ≡ matched_by regex) (before after : Option (List ℕ)) where
  pub found_by : {E : Type 0} (r : Result Bool E) → IfOk r (λ is_found. FindsBy unread left matches scope is_found before after) →
      IfOk r (λ is_found. Finds unread left pattern ignores_case scope is_found before after)
  found_by (Ok is_found) h = record {
    regex = regex;
    is_pattern = is_pattern;
    finds = subst (λ (m : List ℕ → Bool). FindsBy unread left m scope is_found before after) is h;
  }
  found_by (Err e) h = h

  stops_by : (fault : FindFault) → SearchStops fault unread left matches scope before after →
      FindStops fault unread left pattern ignores_case scope before after
  stops_by (Pattern fault) h = absurd h
  stops_by (Load fault) h = (regex, is_pattern, h)
  stops_by (Stopped fault) h =
      (regex, is_pattern, subst (λ (m : List ℕ → Bool). SearchStops (Stopped fault) unread left m scope before after) is h)

  pub stopped_by : {T : Type 0} (r : Result T FindFault) → IfErr r (λ fault. SearchStops fault unread left matches scope before after) →
      IfErr r (λ fault. FindStops fault unread left pattern ignores_case scope before after)
  stopped_by (Ok v) h = h
  stopped_by (Err fault) h = stops_by fault h
