-- How keys are laid out as JSON, as they are told one after another.
use Rattle.std.specs.Prelude.{ℕ, List, [], ◌∷◌, ◌++◌, codes, flat_map}
use Rattle.reg_heap.specs.Paths.{Path, Tree}
use Rattle.reg_tree_text.specs.DumpTexts.{Told}
use Rattle.reg_tables.specs.declared.layout.Layout.{Layout}
use Rattle.reg_tables.specs.declared.layout.Layout.TheVariants.{Array, Lines, Page}
use Rattle.reg_tables.specs.declared.page.TheConstants.{FRONT, BACK}
use Rattle.reg_tables.specs.Tables.{key_text, json_text, jsonl_text}
use Rattle.reg_tables.specs.Pages.{shielded, html_text}

-- the front of what the keys stand in
abbrev pub front_of : Layout → List ℕ
front_of Array = []
front_of Lines = []
front_of Page = FRONT.now

-- what stands before the keys
abbrev pub before_keys : Layout → List ℕ
before_keys Array = codes "[\n"
before_keys Lines = []
before_keys Page = codes "[\n"

-- what stands between each two
abbrev pub between_keys : Layout → List ℕ
between_keys Array = codes ",\n"
between_keys Lines = codes "\n"
between_keys Page = codes ",\n"

-- what stands behind them
abbrev pub behind_keys : Layout → List ℕ
behind_keys Array = codes "\n]\n"
behind_keys Lines = codes "\n"
behind_keys Page = codes "\n]\n"

-- the back of what they stand in
abbrev pub back_of : Layout → List ℕ
back_of Array = []
back_of Lines = []
back_of Page = BACK.now

-- the text of a key
abbrev pub laid : Layout → List ℕ → List ℕ
laid Array text = text
laid Lines text = text
laid Page text = shielded text

-- that of one behind another
unfoldable pub more_laid : Layout → Told → List ℕ
more_laid layout told = between_keys layout ++ laid layout (key_text told)

-- those of some keys
abbrev pub keys_laid : Layout → List Told → List ℕ
keys_laid layout [] = []
keys_laid layout (told ∷ rest) = laid layout (key_text told) ++ flat_map (more_laid layout) rest

-- the whole text
abbrev pub table_text : Layout → Tree → Path → List ℕ
table_text Array tree path = json_text tree path
table_text Lines tree path = jsonl_text tree path
table_text Page tree path = html_text tree path
