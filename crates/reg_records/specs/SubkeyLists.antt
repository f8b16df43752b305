-- Subkeys lists (Suhanov, Windows registry file format specification, "Subkeys list").
use Rattle.std.specs.Prelude.{ℕ, zero, suc, ◌+◌, ◌*◌, nat_le, nat_lt, ◌++◌, if◌then◌else◌, Option, Some, None, List, [], ◌∷◌, length, map}
use Rattle.std.specs.Option.{option_and_then}
use Rattle.reg_heap.specs.ByteWords.{half, word}
use Rattle.byteorder.specs.Endian.{little_bytes}
use Rattle.reg_records.specs.declared.RecordFault.{RecordFault}
use Rattle.reg_records.specs.declared.RecordFault.TheVariants.{Short, Signature, Length}
use Rattle.reg_records.specs.declared.lists.ListEntry.{ListEntry}
use Rattle.reg_records.specs.declared.lists.ListForm.{ListForm}
use Rattle.reg_records.specs.declared.lists.ListForm.TheVariants.{IndexRoot, IndexLeaf, FastLeaf, HashLeaf}
use Rattle.reg_records.specs.Letters.{is_signed}

-- an index root `ri` lists lists; an index leaf `li`, a fast leaf `lf` and a hash leaf `lh` list keys
abbrev pub Form : Type 0
Form = ListForm

-- an entry of a list: the offset of a list or a key, and its hint, the `lf`'s first letters or the `lh`'s hash; else 0
abbrev pub Entry : Type 0
Entry = ListEntry

-- a subkeys list as it is read
pub record SubkeysList : Type 0 where
  pub form : Form
  pub entries : List Entry

abbrev pub form_of : List ℕ → Option Form
form_of content =
    if is_signed 114 105 content then Some IndexRoot
    else if is_signed 108 105 content then Some IndexLeaf
    else if is_signed 108 102 content then Some FastLeaf
    else if is_signed 108 104 content then Some HashLeaf
    else None

-- so many entries of 4 bytes each, which are offsets, from an offset on
abbrev pub plain_entries : ℕ → ℕ → List ℕ → List Entry
plain_entries zero at content = []
plain_entries (suc count) at content = record { offset = word content at; hint = 0 } ∷ plain_entries count (at + 4) content

-- so many entries of 8 bytes each, an offset and a hint, from an offset on
abbrev pub hinted_entries : ℕ → ℕ → List ℕ → List Entry
hinted_entries zero at content = []
hinted_entries (suc count) at content = record { offset = word content at; hint = word content (at + 4) } ∷ hinted_entries count (at + 8) content

abbrev pub plain : Form → List ℕ → Option SubkeysList
plain form content =
    if nat_le (4 + 4 * half content 2) (length content) then Some (record { form = form; entries = plain_entries (half content 2) 4 content }) else None

abbrev pub hinted : Form → List ℕ → Option SubkeysList
hinted form content =
    if nat_le (4 + 8 * half content 2) (length content) then Some (record { form = form; entries = hinted_entries (half content 2) 4 content }) else None

-- a list of a form: the signature, the number of entries in 16 bits, and the entries; None where they pass the end
abbrev pub list_as : Form → List ℕ → Option SubkeysList
list_as IndexRoot content = plain IndexRoot content
list_as IndexLeaf content = plain IndexLeaf content
list_as FastLeaf content = hinted FastLeaf content
list_as HashLeaf content = hinted HashLeaf content

-- the subkeys list at the start of a content, or None where there is none
unfoldable pub list_of : List ℕ → Option SubkeysList
list_of content = option_and_then (λ form. list_as form content) (form_of content)

-- the offsets in a list
abbrev pub offsets_in : List Entry → List ℕ
offsets_in entries = map (λ (e : Entry). e.offset) entries

-- ---- why a content is no list, and lists as they are written

abbrev pub letters_of : Form → List ℕ
letters_of IndexRoot = 114 ∷ 105 ∷ []
letters_of IndexLeaf = 108 ∷ 105 ∷ []
letters_of FastLeaf = 108 ∷ 102 ∷ []
letters_of HashLeaf = 108 ∷ 104 ∷ []

-- how many bytes an entry takes
abbrev pub entry_size : Form → ℕ
entry_size IndexRoot = 4
entry_size IndexLeaf = 4
entry_size FastLeaf = 8
entry_size HashLeaf = 8

-- so many entries of a form, from an offset on
abbrev pub entries_as : Form → ℕ → ℕ → List ℕ → List Entry
entries_as IndexRoot count at content = plain_entries count at content
entries_as IndexLeaf count at content = plain_entries count at content
entries_as FastLeaf count at content = hinted_entries count at content
entries_as HashLeaf count at content = hinted_entries count at content

abbrev pub form_fault : List ℕ → Option Form → Option RecordFault
form_fault content None = Some Signature
form_fault content (Some form) = if nat_lt (length content) (4 + entry_size form * half content 2) then Some Length else None

-- the first fault that holds: too short, none of the four signatures, entries past the end; None where there is a list
unfoldable pub list_fault : List ℕ → Option RecordFault
list_fault content = if nat_lt (length content) 4 then Some Short else form_fault content (form_of content)

-- an entry as it is written: its offset, and its hint where the form has hints
abbrev pub entry_bytes : Form → Entry → List ℕ
entry_bytes IndexRoot entry = little_bytes 4 entry.offset
entry_bytes IndexLeaf entry = little_bytes 4 entry.offset
entry_bytes FastLeaf entry = little_bytes 4 entry.offset ++ little_bytes 4 entry.hint
entry_bytes HashLeaf entry = little_bytes 4 entry.offset ++ little_bytes 4 entry.hint

unfoldable pub entries_bytes : Form → List Entry → List ℕ
entries_bytes form [] = []
entries_bytes form (entry ∷ entries) = entry_bytes form entry ++ entries_bytes form entries

-- what stands before the entries: the signature and their number
abbrev pub head_bytes : Form → ℕ → List ℕ
head_bytes form count = letters_of form ++ little_bytes 2 count

-- a list as it is written
unfoldable pub list_bytes : Form → List Entry → List ℕ
list_bytes form entries = head_bytes form (length entries) ++ entries_bytes form entries

abbrev pub without_hint : Entry → Entry
without_hint entry = record { offset = entry.offset; hint = 0 }

-- entries as they are read back: with hint 0 where the form has no hints
abbrev pub as_read : Form → List Entry → List Entry
as_read IndexRoot entries = map without_hint entries
as_read IndexLeaf entries = map without_hint entries
as_read FastLeaf entries = entries
as_read HashLeaf entries = entries
