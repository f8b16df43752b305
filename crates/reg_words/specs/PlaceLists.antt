-- Where a pattern is searched for, as it is written: words parted by commas (this project's own).
use Rattle.std.specs.Prelude.{ℕ, ◌==◌, ◌||◌, true, false, if◌then◌else◌, List, [], ◌∷◌, codes, bytes_eq, Option, Some, None}
use Rattle.std.specs.Option.{option_map, option_and_then}
use Rattle.reg_words.specs.declared.request.Places.{Places}

-- a text's first part with a letter before it
abbrev pub with_letter : ℕ → List (List ℕ) → List (List ℕ)
with_letter letter [] = []
with_letter letter (part ∷ parts) = (letter ∷ part) ∷ parts

-- the parts of a text between its commas
abbrev pub parts_of : List ℕ → List (List ℕ)
parts_of [] = [] ∷ []
parts_of (letter ∷ letters) = if letter == 44 then [] ∷ parts_of letters else with_letter letter (parts_of letters)

-- no place
abbrev pub nowhere : Places
nowhere = record { keys = false; names = false; texts = false; paths = false; bytes = false }

-- a place by its word
abbrev pub place_of : List ℕ → Option Places
place_of word =
    if bytes_eq word (codes "keys") then Some (record nowhere { keys = true })
    else if bytes_eq word (codes "names") then Some (record nowhere { names = true })
    else if bytes_eq word (codes "data") then Some (record nowhere { texts = true })
    else if bytes_eq word (codes "paths") then Some (record nowhere { paths = true })
    else if bytes_eq word (codes "bytes") then Some (record nowhere { bytes = true })
    else None

-- the places of two
abbrev pub both : Places → Places → Places
both one other = record {
  keys = one.keys || other.keys;
  names = one.names || other.names;
  texts = one.texts || other.texts;
  paths = one.paths || other.paths;
  bytes = one.bytes || other.bytes;
}

-- the places of some words together, where each is one; of none no place
abbrev pub places_of : List (List ℕ) → Option Places
places_of [] = Some nowhere
places_of (word ∷ words) = option_and_then (λ place. option_map (both place) (places_of words)) (place_of word)

-- the places that a text names
abbrev pub places_in : List ℕ → Option Places
places_in text = places_of (parts_of text)
