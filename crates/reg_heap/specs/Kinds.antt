-- The kinds of records, and how often cells are met as them (Suhanov, Windows registry file format specification, section
-- "Cell": the types of a cell's data).
use Rattle.std.specs.Prelude.{ℕ, ◌+◌, ◌==◌, Bool, true, false, cond, List, [], ◌∷◌}

-- a key node; its class; an `ri`, which lists lists; an `li`, `lf` or `lh`, which lists keys; the list of a key's values; a
-- value; its data in one cell; or a `db` record, its list of segments, and a segment; and a key security
pub data Kind : Type 0 where
  Key : Kind
  Class : Kind
  SubList : Kind
  Leaf : Kind
  ValueList : Kind
  Value : Kind
  Data : Kind
  BigHead : Kind
  BigList : Kind
  Segment : Kind
  Security : Kind

-- a record that is met: its kind and its offset
pub record Found : Type 0 where
  pub kind : Kind
  pub offset : ℕ

-- a security is the one kind that several keys may name
abbrev pub is_security : Kind → Bool
is_security Key = false
is_security Class = false
is_security SubList = false
is_security Leaf = false
is_security ValueList = false
is_security Value = false
is_security Data = false
is_security BigHead = false
is_security BigList = false
is_security Segment = false
is_security Security = true

-- how often a number stands in a list
abbrev pub times : ℕ → List ℕ → ℕ
times x [] = 0
times x (y ∷ ys) = cond (y == x) 1 0 + times x ys

-- a number of each record that is met, added up
abbrev pub tally : (Found → ℕ) → List Found → ℕ
tally m [] = 0
tally m (f ∷ fs) = m f + tally m fs

-- 1 where a record is met at the offset as a key's own cell, and so not as a security
abbrev pub is_own : ℕ → Found → ℕ
is_own offset f = cond (is_security f.kind) 0 (cond (f.offset == offset) 1 0)

-- 1 where a record is met at the offset as a security
abbrev pub is_shared : ℕ → Found → ℕ
is_shared offset f = cond (is_security f.kind) (cond (f.offset == offset) 1 0) 0

-- how often an offset is met as a key's own cell
abbrev pub owned : ℕ → List Found → ℕ
owned offset found = tally (is_own offset) found

-- how often an offset is met as a security
abbrev pub shared : ℕ → List Found → ℕ
shared offset found = tally (is_shared offset) found
