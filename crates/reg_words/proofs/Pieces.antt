-- The bytes of words, one word after another.
use Rattle.std.proofs.Common.{◌≡◌, ◌∙◌, ℕ, zero, suc, ◌+◌, ◌<◌, ◌≤◌, ◌==◌, Bool, true, false, List, [], ◌∷◌, ◌++◌, length, get_or, drop, map, Option}
use Rattle.std.proofs.Common.{Some, None, refl, sym, ap}
use Rattle.std.proofs.Common.{arith, append_assoc}
use Rattle.std.proofs.Math.Seq.{drop-cons}
use Rattle.std.proofs.lemmas.Bool.Decides.{nat_tests}
use Rattle.std.specs.Prelude.{option_map, option_and_then}
use Rattle.reg_words.specs.ChangeWords.{pieces, listed_text, ended}

-- the bytes so far, before those of what is left
abbrev pub onto : List ℕ → Option (List ℕ) → Option (List ℕ)
onto bytes rest = option_map (λ more. bytes ++ more) rest

pub onto_none : (found : Option (List ℕ)) (bytes : List ℕ) → bytes ≡ [] → found ≡ onto bytes found
onto_none None bytes e = refl
onto_none (Some found) bytes e = ap (λ (w : List ℕ). Some (w ++ found)) (sym e)

onto_more : (bytes front : List ℕ) (rest : Option (List ℕ)) → onto bytes (onto front rest) ≡ onto (bytes ++ front) rest
onto_more bytes front None = refl
onto_more bytes front (Some rest) = ap (λ (w : List ℕ). Some w) (sym (append_assoc bytes front rest))

module _ {X : Type 0} (now : X → List ℕ) (words : List X) (i : ℕ) (d : X) where
  next : i < length words → map now (drop i words) ≡ now (get_or words i d) ∷ map now (drop (i + 1) words)
  next below =
      let e : suc i ≡ i + 1 = omega arith in
      ap (map now) (drop-cons words i d below) ∙ ap (λ (n : ℕ). now (get_or words i d) ∷ map now (drop n words)) e

  module _ (read : List ℕ → Option (List ℕ)) (last : List ℕ) (found : Option (List ℕ)) (bytes : List ℕ)
      (so_far : found ≡ onto bytes (pieces read last (map now (drop i words)))) where
    step : i < length words → found ≡ onto bytes (option_and_then (λ front. onto front (pieces read last (map now (drop (i + 1) words))))
        (read (now (get_or words i d))))
    unfolding pieces
    step below = so_far ∙ ap (λ (ws : List (List ℕ)). onto bytes (pieces read last ws)) (next below)

    -- a word's bytes
    pub piece_more : (front more : List ℕ) → i < length words → read (now (get_or words i d)) ≡ Some front → more ≡ bytes ++ front →
        found ≡ onto more (pieces read last (map now (drop (i + 1) words)))
    piece_more front more below is new =
        let rest = pieces read last (map now (drop (i + 1) words)) in
        step below ∙ (ap (λ (o : Option (List ℕ)). onto bytes (option_and_then (λ w. onto w rest) o)) is
        ∙ (onto_more bytes front rest ∙ ap (λ (w : List ℕ). onto w rest) (sym new)))

    -- a word that has none
    pub piece_none : i < length words → read (now (get_or words i d)) ≡ None → found ≡ None
    piece_none below is =
        step below
        ∙ ap (λ (o : Option (List ℕ)). onto bytes (option_and_then (λ w. onto w (pieces read last (map now (drop (i + 1) words)))) o)) is

none_left : {X : Type 0} (now : X → List ℕ) (words : List X) (i : ℕ) → length words ≤ i → map now (drop i words) ≡ []
none_left now [] zero l = refl
none_left now [] (suc i) l = refl
none_left now (word ∷ words) zero l = absurd (omega (arith, l))
none_left now (word ∷ words) (suc i) l = none_left now words i (omega (arith, l))

-- behind the last word
pub pieces_end : {X : Type 0} (now : X → List ℕ) (words : List X) (i : ℕ) (read : List ℕ → Option (List ℕ)) (last : List ℕ)
    (found : Option (List ℕ)) (bytes whole : List ℕ) → found ≡ onto bytes (pieces read last (map now (drop i words))) → length words ≤ i →
    whole ≡ bytes ++ last → found ≡ Some whole
unfolding pieces
pieces_end now words i read last found bytes whole so_far past is =
    so_far ∙ (ap (λ (ws : List (List ℕ)). onto bytes (pieces read last ws)) (none_left now words i past) ∙ ap (λ (w : List ℕ). Some w) (sym is))

-- what was read of a word
module _ {V : Type 0} (items : V → List ℕ) (o : Option V) (read : Option (List ℕ)) (same : option_map items o ≡ read) where
  pub none_read : o ≡ None → read ≡ None
  none_read e = sym same ∙ ap (option_map items) e

  pub some_read : (v : V) → o ≡ Some v → read ≡ Some (items v)
  some_read v e = sym same ∙ ap (option_map items) e

-- ---- a text of several

pub no_text : (word : List ℕ) (test : Bool) → test ≡ (length word == 0) → test ≡ true → listed_text word ≡ None
no_text [] test e is = refl
no_text (b ∷ bs) test e is = let bad : true ≡ (length (b ∷ bs) == 0) = sym is ∙ e in absurd (grind (arith, nat_tests, bad))

pub some_text : (word : List ℕ) (test : Bool) → test ≡ (length word == 0) → test ≡ false → listed_text word ≡ Some (ended word)
some_text [] test e is = let bad : false ≡ true = sym is ∙ e in cc
some_text (b ∷ bs) test e is = refl
