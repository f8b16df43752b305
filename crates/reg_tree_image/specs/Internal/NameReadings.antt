-- Names as their readers are asked for them, and records with the names that were read.
use Rattle.std.specs.Prelude.{ℕ, Bool, true, false, List}
use Rattle.std.specs.List.{list_all}
use Rattle.reg_names.specs.Names.{is_key_name_byte, is_value_name_byte}
use Rattle.reg_records.specs.KeyNodes.{KeyRecord, nk_of}
use Rattle.reg_records.specs.KeyValues.{KeyValueRecord, vk_of}
use Rattle.reg_tree_image.specs.declared.LoadFault.TheVariants.{NotInProfile}
use Rattle.reg_tree_image.specs.WalkSteps.{Step, ◌>>=◌, ◌>>◌, give, check}
use Rattle.reg_tree_image.specs.LoadingWalk.{read, key_name, value_name}

-- a character of a key's name, or of a value's
abbrev pub is_allowed_in : Bool → ℕ → Bool
is_allowed_in true = is_key_name_byte
is_allowed_in false = is_value_name_byte

-- a name's characters, each of which may stand in one
abbrev pub letters_in : (ℕ → Bool) → List ℕ → Step (List ℕ)
letters_in is_allowed letters = do
  check NotInProfile (list_all is_allowed letters)
  give letters

-- a key's record and its name, from what its cell holds
abbrev pub key_in : List ℕ → Step (KeyRecord × List ℕ)
key_in content = do
  key ← read (nk_of content)
  name ← key_name key
  give (key, name)

-- a value's record and its name, from what its cell holds
abbrev pub value_in : List ℕ → Step (KeyValueRecord × List ℕ)
value_in content = do
  value ← read (vk_of content)
  name ← value_name value
  give (value, name)
