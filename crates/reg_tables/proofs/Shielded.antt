-- JSON with each `<` as `\u003c`, made from part to part.
use Rattle.std.proofs.Common.{◌≡◌, ◌≢◌, ℕ, suc, ◌<◌, ◌==◌, ◌&&◌, not, Bool, true, false, List, [], ◌∷◌, ◌++◌, length, get_or, refl, ap, ◌∙◌, sym, arith, append_assoc}
use Rattle.std.specs.Prelude.{codes, if◌then◌else◌}
use Rattle.std.specs.List.{list_all}
use Rattle.std.proofs.lemmas.Bool.Decides.{nat_tests}
use Rattle.std.proofs.lemmas.Grind.{flat_map-append}
use Rattle.reg_tables.specs.Pages.{shielded_byte, shielded}

-- nothing is to be done in it
abbrev pub HasNone : List ℕ → Type 0
HasNone text = (i : ℕ) → i < length text → get_or text i 0 ≢ 60

plain : (text : List ℕ) → HasNone text → shielded text ≡ text
plain [] none = refl
plain (byte ∷ text) none =
    let other : (byte == 60) ≡ false = grind (arith, nat_tests, none 0 (omega arith)) in
    ap (λ (b : Bool). (if b then codes "\\u003c" else byte ∷ []) ++ shielded text) other
    ∙ ap (λ (w : List ℕ). byte ∷ w) (plain text (λ i l. none (suc i) (omega (arith, l))))

pub shielded-append : (a b : List ℕ) → shielded (a ++ b) ≡ shielded a ++ shielded b
shielded-append a b = flat_map-append shielded_byte a b

first : (text before behind : List ℕ) → text ≡ before ++ (60 ∷ behind) → HasNone before → shielded text ≡ before ++ (codes "\\u003c" ++ shielded behind)
first text before behind e none =
    ap shielded e
    ∙ (shielded-append before (60 ∷ behind) ∙ ap (λ (w : List ℕ). w ++ (codes "\\u003c" ++ shielded behind)) (plain before none))

-- what is shown of a text, and what is left of it
abbrev pub IsShown : (text shown rest : List ℕ) → Type 0
IsShown text shown rest = shielded text ≡ shown ++ shielded rest

pub shown_more : (text shown rest before behind more new : List ℕ) → IsShown text shown rest → rest ≡ before ++ (60 ∷ behind) → HasNone before →
    more ≡ shown ++ before → new ≡ more ++ codes "\\u003c" → IsShown text new behind
shown_more text shown rest before behind more new so_far e none m n =
    so_far
    ∙ (ap (λ (w : List ℕ). shown ++ w) (first rest before behind e none)
    ∙ (sym (append_assoc shown before (codes "\\u003c" ++ shielded behind))
    ∙ (sym (append_assoc (shown ++ before) (codes "\\u003c") (shielded behind))
    ∙ (ap (λ (w : List ℕ). (w ++ codes "\\u003c") ++ shielded behind) (sym m) ∙ ap (λ (w : List ℕ). w ++ shielded behind) (sym n)))))

pub shown_all : (text shown rest whole : List ℕ) → IsShown text shown rest → HasNone rest → whole ≡ shown ++ rest → whole ≡ shielded text
shown_all text shown rest whole so_far none w = w ∙ sym (so_far ∙ ap (λ (x : List ℕ). shown ++ x) (plain rest none))

-- no `<` is left, so nothing in it ends a script
abbrev pub is_other : ℕ → Bool
is_other byte = not (byte == 60)

shielded-each : (b : Bool) (byte : ℕ) (rest : List ℕ) → (byte == 60) ≡ b → list_all is_other rest ≡ true →
    list_all is_other ((if b then codes "\\u003c" else byte ∷ []) ++ rest) ≡ true
shielded-each true byte rest e r = r
shielded-each false byte rest e r = ap (λ (b : Bool). not b && list_all is_other rest) e ∙ r

pub shielded-none : (text : List ℕ) → list_all is_other (shielded text) ≡ true
shielded-none [] = refl
shielded-none (byte ∷ text) = shielded-each (byte == 60) byte (shielded text) refl (shielded-none text)
