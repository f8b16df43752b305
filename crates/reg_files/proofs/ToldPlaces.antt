-- Where a fault is met, told behind it.
use Rattle.std.proofs.Common.{◌≡◌, ◌∙◌, ◌++◌, List, ℕ, codes, ap, sym, subst}
use Rattle.std.specs.Prelude.{Option, Some, Result, Ok, Err, IfOk, String, option_map, string_bytes, vec_items}
use Rattle.std.specs.Fmt.{decimal}
use Rattle.std.specs.declared.alloc.Global.{Global}
use Rattle.reg_tree_image.specs.declared.places.FaultPlace.{FaultPlace}
use Rattle.reg_tree_image.specs.FaultPlaces.{place_in}
use Rattle.reg_tree_image.specs.FaultPlaces.{Place}
use Rattle.reg_tree_image.specs.Loads.{fault_number}
use Rattle.reg_tree_image.specs.declared.LoadFault.{LoadFault}
use Rattle.reg_text.specs.Texts.{line_feed}
use Rattle.reg_files.specs.Counting.{key_told, place_told, place_line}

pub place_is : (place : Option FaultPlace) (some : FaultPlace) (key : List ℕ) → place ≡ Some some → key ≡ key_told (option_map vec_items some.key) →
    {E : Type 0} (r : Result (String Global) E) →
    IfOk r (λ t. string_bytes t ≡ codes ", at " ++ (decimal some.offset ++ (codes " of its bins" ++ key))) →
    IfOk r (λ t. string_bytes t ≡ place_told (option_map place_in place))
place_is place some key is same (Ok t) h =
    subst (λ (p : Option FaultPlace). string_bytes t ≡ place_told (option_map place_in p)) (sym is)
    (h ∙ ap (λ (k : List ℕ). codes ", at " ++ (decimal some.offset ++ (codes " of its bins" ++ k))) same)
place_is place some key is same (Err e) h = h

-- the whole line
pub line_is : (file : List ℕ) (fault : LoadFault) (place : Option Place) (number : ℕ) (shown words : List ℕ) → number ≡ fault_number fault →
    shown ≡ place_told place → {E : Type 0} (r : Result (String Global) E) →
    IfOk r (λ t. string_bytes t ≡ codes "error 1009 load " ++ (decimal number ++ (codes " " ++ (file ++ (shown ++ (codes ": " ++ (words ++ line_feed))))))) →
    IfOk r (λ t. (some : List ℕ) × (string_bytes t ≡ place_line file fault place some))
line_is file fault place number shown words same are (Ok t) h = (
  words,
  h ∙ ap (λ (n : ℕ). codes "error 1009 load " ++ (decimal n ++ (codes " " ++ (file ++ (shown ++ (codes ": " ++ (words ++ line_feed))))))) same
      ∙ ap (λ (p : List ℕ). codes "error 1009 load " ++ (decimal (fault_number fault) ++ (codes " " ++ (file ++ (p ++ (codes ": " ++ (words ++ line_feed)))))))
      are,
)
line_is file fault place number shown words same are (Err e) h = h
