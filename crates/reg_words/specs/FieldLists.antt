-- What `diff` passes over, as it is written: words parted by commas (this project's own).
use Rattle.std.specs.Prelude.{ℕ, ◌||◌, true, false, if◌then◌else◌, List, [], ◌∷◌, codes, bytes_eq, Option, Some, None}
use Rattle.std.specs.Option.{option_map, option_and_then}
use Rattle.reg_words.specs.PlaceLists.{parts_of}
use Rattle.reg_words.specs.declared.request.Ignored.{Ignored}

-- nothing that is passed over
abbrev pub nothing : Ignored
nothing = record { time = false; security = false; order = false; class = false; marks = false }

-- what a word names
abbrev pub field_of : List ℕ → Option Ignored
field_of word =
    if bytes_eq word (codes "time") then Some (record nothing { time = true })
    else if bytes_eq word (codes "security") then Some (record nothing { security = true })
    else if bytes_eq word (codes "order") then Some (record nothing { order = true })
    else if bytes_eq word (codes "class") then Some (record nothing { class = true })
    else if bytes_eq word (codes "marks") then Some (record nothing { marks = true })
    else None

-- what two name
abbrev pub both_fields : Ignored → Ignored → Ignored
both_fields one other = record {
  time = one.time || other.time;
  security = one.security || other.security;
  order = one.order || other.order;
  class = one.class || other.class;
  marks = one.marks || other.marks;
}

-- what some words name together, where each names something
abbrev pub fields_of : List (List ℕ) → Option Ignored
fields_of [] = Some nothing
fields_of (word ∷ words) = option_and_then (λ field. option_map (both_fields field) (fields_of words)) (field_of word)

-- what a text names
abbrev pub ignored_in : List ℕ → Option Ignored
ignored_in text = fields_of (parts_of text)
