-- Keys and values gathered for JSON.
use Rattle.std.specs.Prelude.{List, map, codes, String, string_bytes}
use Rattle.std.specs.declared.alloc.Global.{Global}
use Rattle.serde_json.specs.Data.{Data, number, unsigned, string, array, object, member, no_members}
use Rattle.serde_json.specs.View.{items_of}
use Rattle.reg_tables.specs.declared.form.ValueForm.{ValueForm}
use Rattle.reg_tables.specs.declared.form.ValueForm.TheVariants as form
use Rattle.reg_tables.specs.declared.entry.ValueEntry.{ValueEntry}
use Rattle.reg_tables.specs.declared.entry.KeyEntry.{KeyEntry}

-- a text that was spelt
abbrev pub text_data : String Global → Data
text_data text = string (string_bytes text)

-- texts that were spelt
abbrev pub texts_view : List (String Global) → Data
texts_view texts = array (items_of (map text_data texts))

-- the data of a value in its form
abbrev pub form_view : ValueForm → Data
form_view (form.Text text) = text_data text
form_view (form.Texts texts) = texts_view texts.items
form_view (form.Number n) = number (unsigned n)
form_view (form.Bytes digits) = object (member (codes "hex") (text_data digits) no_members)

-- a value
abbrev pub value_view : ValueEntry → Data
value_view e =
    object (member (codes "name") (string e.name.now) (member (codes "type") (number (unsigned e.kind))
    (member (codes "data") (form_view e.form) no_members)))

-- a key
abbrev pub key_view : KeyEntry → Data
key_view e =
    object (member (codes "path") (string e.path.now) (member (codes "time") (text_data e.time)
    (member (codes "marks") (number (unsigned e.marks)) (member (codes "class") (text_data e.class)
    (member (codes "security") (text_data e.security) (member (codes "values") (array (items_of (map value_view e.values.items))) no_members))))))
