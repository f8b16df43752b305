-- A tree's keys and values as a page that stands alone (this project's own; HTML Living Standard, "Restrictions for contents of script
-- elements"). Its front and its back are constants of the code.
use Rattle.std.specs.Prelude.{ℕ, ◌==◌, if◌then◌else◌, List, [], ◌∷◌, ◌++◌, flat_map, codes}
use Rattle.reg_heap.specs.Paths.{Path, Tree}
use Rattle.reg_tables.specs.declared.page.TheConstants.{FRONT, BACK}
use Rattle.reg_tables.specs.Tables.{json_text}

-- a byte of JSON in a script, which only `<` could end: it stands in strings alone, where its escape means the same
abbrev pub shielded_byte : ℕ → List ℕ
shielded_byte byte = if byte == 60 then codes "\\u003c" else byte ∷ []

-- JSON with each `<` as `\u003c`
abbrev pub shielded : List ℕ → List ℕ
shielded text = flat_map shielded_byte text

-- the key at a path and all below it: the array between the page's front and its back
unfoldable pub html_text : Tree → Path → List ℕ
html_text tree path = FRONT.now ++ (shielded (json_text tree path) ++ BACK.now)
