-- Texts appended piece by piece.
use Rattle.std.proofs.Common.{◌≡◌, ◌∙◌, ℕ, List, [], ◌∷◌, ◌++◌, sym, ap}
use Rattle.std.proofs.Common.{append_assoc, append-nil, chars}
use Rattle.std.specs.Prelude.{flat_map, is_ok, Result, Ok, Err, OnOk, if◌then◌else◌}
use Rattle.reg_words.specs.Settings.{character_in, text_in}
use Rattle.reg_words.specs.declared.settings.Setting.{Setting}

module _ {X : Type 0} (f : X → List ℕ) (text new : List ℕ) where
  -- one piece more
  pub piece_more : (x : X) (whole : List ℕ) (rest later : List X) → text ++ flat_map f rest ≡ whole → rest ≡ x ∷ later →
      new ≡ text ++ f x → new ++ flat_map f later ≡ whole
  piece_more x whole rest later so_far e n =
      ap (λ (w : List ℕ). w ++ flat_map f later) n
      ∙ (append_assoc text (f x) (flat_map f later) ∙ (ap (λ (w : List X). text ++ flat_map f w) (sym e) ∙ so_far))

-- none is left
pub pieces_end : {X : Type 0} (f : X → List ℕ) (text whole : List ℕ) (rest : List X) → text ++ flat_map f rest ≡ whole → rest ≡ [] →
    text ≡ whole
pieces_end f text whole rest so_far e =
    sym (append-nil text) ∙ (ap (λ (w : List _). text ++ flat_map f w) (sym e) ∙ so_far)

-- the characters of a text
pub told_all : (setting : Setting) (text old : List ℕ) (words : List ℕ) (rest : List ℕ) →
    text ++ flat_map (character_in setting) rest ≡ old ++ flat_map (character_in setting) (chars words) → rest ≡ [] →
    text ≡ old ++ text_in setting words
unfolding text_in
told_all setting text old words rest so_far e = pieces_end (character_in setting) text _ rest so_far e

-- ---- several pieces, one after another

pub piece : (old new x y : List ℕ) → new ≡ old ++ x → x ≡ y → new ≡ old ++ y
piece old new x y e same = e ∙ ap (λ (w : List ℕ). old ++ w) same

joined : (a rest old mid new : List ℕ) → mid ≡ old ++ a → new ≡ mid ++ rest → new ≡ old ++ (a ++ rest)
joined a rest old mid new e f = f ∙ (ap (λ (w : List ℕ). w ++ rest) e ∙ append_assoc old a rest)

-- the first piece is the whole so far
pub begun : (a rest mid new : List ℕ) → mid ≡ a → new ≡ mid ++ rest → new ≡ a ++ rest
begun a rest mid new e f = f ∙ ap (λ (w : List ℕ). w ++ rest) e

pub four : (a b c d t0 t1 t2 t3 t4 : List ℕ) → t1 ≡ t0 ++ a → t2 ≡ t1 ++ b → t3 ≡ t2 ++ c → t4 ≡ t3 ++ d →
    t4 ≡ t0 ++ (a ++ (b ++ (c ++ d)))
four a b c d t0 t1 t2 t3 t4 p q r s = joined a _ t0 t1 t4 p (joined b _ t1 t2 t4 q (joined c d t2 t3 t4 r s))

pub five : (a b c d e t0 t1 t2 t3 t4 t5 : List ℕ) → t1 ≡ t0 ++ a → t2 ≡ t1 ++ b → t3 ≡ t2 ++ c → t4 ≡ t3 ++ d → t5 ≡ t4 ++ e →
    t5 ≡ t0 ++ (a ++ (b ++ (c ++ (d ++ e))))
five a b c d e t0 t1 t2 t3 t4 t5 p q r s t = joined a _ t0 t1 t5 p (four b c d e t1 t2 t3 t4 t5 q r s t)

pub six : (a b c d e f t0 t1 t2 t3 t4 t5 t6 : List ℕ) → t1 ≡ t0 ++ a → t2 ≡ t1 ++ b → t3 ≡ t2 ++ c → t4 ≡ t3 ++ d → t5 ≡ t4 ++ e →
    t6 ≡ t5 ++ f → t6 ≡ t0 ++ (a ++ (b ++ (c ++ (d ++ (e ++ f)))))
six a b c d e f t0 t1 t2 t3 t4 t5 t6 p q r s t u = joined a _ t0 t1 t6 p (five b c d e f t1 t2 t3 t4 t5 t6 q r s t u)

-- the last piece was appended, if it could be
pub pushed : {E : Type 0} (result : Result (Unit {0}) E) (new x y : List ℕ) → new ≡ (if is_ok result then x else y) → OnOk result (new ≡ x)
pushed (Ok done) new x y e = e
pushed (Err error) new x y e = tt
