-- The units of a file's bytes: UTF-16 behind its mark, else UTF-8 (Unicode Standard, chapter 3, D90 to D98 and "Byte Order Mark").
use Rattle.std.specs.Prelude.{◌≡◌, ℕ, ◌+◌, ◌*◌, if◌then◌else◌, List, [], ◌∷◌, flat_map, Option, Some, None, option_map}
use Rattle.std.specs.Option.{unwrap_or}
use Rattle.std.specs.Str.{chars, is_utf8}
use Rattle.std.specs.Char.Escape.{encode_utf16}
use Rattle.reg_dotreg_reader.specs.declared.fault.ReadFault.{ReadFault}
use Rattle.reg_dotreg_reader.specs.declared.fault.ReadFault.TheVariants.{Line, Encoding, Memory}
use Rattle.reg_dotreg_reader.specs.EntryWords.{behind_or}

-- the mark U+FEFF in UTF-16, the low byte first, and in UTF-8
abbrev pub wide_mark : List ℕ
wide_mark = 255 ∷ 254 ∷ []

abbrev pub narrow_mark : List ℕ
narrow_mark = 239 ∷ 187 ∷ 191 ∷ []

-- units of two bytes each, the low byte first; `None` where a last byte is alone
unfoldable pub wide_units : List ℕ → Option (List ℕ)
wide_units [] = Some []
wide_units (low ∷ []) = None
wide_units (low ∷ high ∷ bytes) = option_map (λ units. (low + 256 * high) ∷ units) (wide_units bytes)

-- the units of the characters that bytes spell in UTF-8; `None` where they are no UTF-8
unfoldable pub narrow_units : List ℕ → Option (List ℕ)
narrow_units bytes = if is_utf8 bytes then Some (flat_map encode_utf16 (chars bytes)) else None

-- a file's units: two bytes each behind the mark of UTF-16, else those of UTF-8, behind its mark where it has one
unfoldable pub units_of : List ℕ → Option (List ℕ)
units_of bytes = behind_or wide_mark wide_units (behind_or narrow_mark narrow_units (narrow_units bytes) bytes) bytes

-- the units of a front that is given in UTF-8; of bytes that are no UTF-8 each is one
unfoldable pub front_units : List ℕ → List ℕ
front_units bytes = unwrap_or (narrow_units bytes) bytes

-- why there are no units of bytes: they have none; or memory was refused
abbrev pub IsUnread : Option (List ℕ) → ReadFault → Type 0
IsUnread units Encoding = units ≡ None
IsUnread units (Line number) = ⊥
IsUnread units Memory = Unit {0}
