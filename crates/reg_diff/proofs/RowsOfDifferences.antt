-- What is told of how keys and values differ, computed of keys that were worked out by hand.
use Rattle.std.proofs.Common.{◌≡◌, true, false, List, ℕ, [], ◌∷◌, ◌++◌, Some, None, refl}
use Rattle.std.specs.Prelude.{codes}
use Rattle.std.specs.Fmt.{digits}
use Rattle.hex.proofs.OnLiterals.{hex_on_literals}
use Rattle.reg_heap.specs.Paths.{Rec, Member}
use Rattle.reg_text.specs.Texts.{byte_text}
use Rattle.reg_diff.specs.declared.ignored.Ignored.{Ignored}
use Rattle.reg_diff.specs.declared.side.Side.TheVariants.{Old, New}
use Rattle.reg_diff.specs.Differences.{key_line, value_line, name_change, number_change, bytes_change, field_changes}
use Rattle.reg_diff.specs.Differences.{value_change, order_line, value_changes, key_changes}
use Rattle.reg_diff.proofs.EqualTrees.{nothing}

abbrev value : List ℕ → ℕ → List ℕ → Member
value name kind bytes = record { name = name; kind = kind; bytes = bytes }

abbrev key : List Member → Rec
key values = record { name = codes "Key"; marks = 8; class = []; descriptor = 1 ∷ 255 ∷ []; time = 7; values = values }

-- ---- keys that one tree alone has

-- with their values, in their order; the path is escaped but for its backslashes
gone-key : key_changes nothing Old (codes "A\\b c") (key (value (codes "v") 4 (1 ∷ 0 ∷ 171 ∷ []) ∷ value [] 1 [] ∷ [])) None ≡
    codes "gone key =A\\b%20c\ngone value =A\\b%20c =v type 4 x0100ab\ngone value =A\\b%20c = type 1 x\n"
unfolding key_line value_line digits hex_on_literals byte_text
gone-key = refl

come-key : key_changes nothing New (codes "A") (key (value (codes "50%") 11 (9 ∷ []) ∷ [])) None ≡
    codes "come key =A\ncome value =A =50%25 type 11 x09\n"
unfolding key_line value_line digits hex_on_literals byte_text
come-key = refl

-- a new key that the old tree has: told by the old one
new-there : key_changes nothing New (codes "A") (key []) (Some (key (value [] 1 [] ∷ []))) ≡ []
new-there = refl

-- ---- what a key holds beside its values

same-key : key_changes nothing Old (codes "A") (key (value [] 1 [] ∷ [])) (Some (key (value [] 1 [] ∷ []))) ≡ []
unfolding field_changes name_change number_change bytes_change value_changes
same-key = refl

-- each of the five, in this order
all-fields : key_changes nothing Old (codes "key") (key [])
    (Some (record { name = codes "kEY"; marks = 16; class = 0 ∷ 16 ∷ []; descriptor = 2 ∷ []; time = 10; values = [] })) ≡
    codes "changed name =key from =Key to =kEY\nchanged marks =key from 8 to 16\nchanged class =key from x to x0010\n"
    ++ codes "changed security =key from x01ff to x02\nchanged time =key from 7 to 10\n"
unfolding field_changes name_change number_change bytes_change value_changes digits hex_on_literals byte_text
all-fields = refl

-- ---- values

-- an old one of which none has the name, and a new one
gone-come : value_changes false (codes "A") (value (codes "v") 1 [] ∷ value (codes "w") 1 [] ∷ [])
    (value (codes "x") 3 (1 ∷ []) ∷ value (codes "v") 1 [] ∷ []) ≡
    codes "gone value =A =w type 1 x\ncome value =A =x type 3 x01\n"
unfolding value_changes value_line value_change digits hex_on_literals byte_text
gone-come = refl

-- another spelling, another type, and other data
spelling : value_changes false (codes "A") (value (codes "v") 1 [] ∷ []) (value (codes "V") 1 [] ∷ []) ≡
    codes "changed value =A from =v type 1 x to =V type 1 x\n"
unfolding value_changes value_change digits hex_on_literals byte_text
spelling = refl

type : value_changes false (codes "A") (value (codes "v") 1 [] ∷ []) (value (codes "v") 2 [] ∷ []) ≡
    codes "changed value =A from =v type 1 x to =v type 2 x\n"
unfolding value_changes value_change digits hex_on_literals byte_text
type = refl

data_bytes : value_changes false (codes "A") (value (codes "v") 1 (1 ∷ []) ∷ []) (value (codes "v") 1 (2 ∷ 3 ∷ []) ∷ []) ≡
    codes "changed value =A from =v type 1 x01 to =v type 1 x0203\n"
unfolding value_changes value_change digits hex_on_literals byte_text
data_bytes = refl

-- the same values in another order
order : value_changes false (codes "A") (value (codes "v") 1 [] ∷ value (codes "w") 1 [] ∷ []) (value (codes "w") 1 [] ∷ value (codes "v") 1 [] ∷ []) ≡
    codes "changed order =A\n"
unfolding value_changes value_line value_change order_line digits byte_text
order = refl

-- another order isn't told beside another line
order-beside : value_changes false (codes "A") (value (codes "v") 1 [] ∷ value (codes "w") 1 [] ∷ [])
    (value (codes "w") 1 [] ∷ value (codes "v") 2 [] ∷ []) ≡ codes "changed value =A from =v type 1 x to =v type 2 x\n"
unfolding value_changes value_line value_change order_line digits hex_on_literals byte_text
order-beside = refl

-- fields first, then values
both : key_changes nothing Old (codes "A") (key (value (codes "v") 1 [] ∷ []))
    (Some (record { name = codes "Key"; marks = 8; class = []; descriptor = 1 ∷ 255 ∷ []; time = 8; values = [] })) ≡
    codes "changed time =A from 7 to 8\ngone value =A =v type 1 x\n"
unfolding field_changes name_change number_change bytes_change value_changes value_line digits hex_on_literals byte_text
both = refl

-- ---- what is ignored

-- of each of the five that may be no line tells, though all differ
abbrev other : Rec
other = record { name = codes "Key"; marks = 16; class = 0 ∷ 16 ∷ []; descriptor = 2 ∷ []; time = 10; values = [] }

marks-ignored : key_changes (record nothing { marks = true }) Old (codes "key") (key []) (Some other) ≡
    codes "changed class =key from x to x0010\nchanged security =key from x01ff to x02\nchanged time =key from 7 to 10\n"
unfolding field_changes name_change number_change bytes_change value_changes digits hex_on_literals byte_text
marks-ignored = refl

class-ignored : key_changes (record nothing { class = true }) Old (codes "key") (key []) (Some other) ≡
    codes "changed marks =key from 8 to 16\nchanged security =key from x01ff to x02\nchanged time =key from 7 to 10\n"
unfolding field_changes name_change number_change bytes_change value_changes digits hex_on_literals byte_text
class-ignored = refl

security-ignored : key_changes (record nothing { security = true }) Old (codes "key") (key []) (Some other) ≡
    codes "changed marks =key from 8 to 16\nchanged class =key from x to x0010\nchanged time =key from 7 to 10\n"
unfolding field_changes name_change number_change bytes_change value_changes digits hex_on_literals byte_text
security-ignored = refl

time-ignored : key_changes (record nothing { time = true }) Old (codes "key") (key []) (Some other) ≡
    codes "changed marks =key from 8 to 16\nchanged class =key from x to x0010\nchanged security =key from x01ff to x02\n"
unfolding field_changes name_change number_change bytes_change value_changes digits hex_on_literals byte_text
time-ignored = refl

order-ignored : key_changes (record nothing { order = true }) Old (codes "A") (key (value (codes "v") 1 [] ∷ value (codes "w") 1 [] ∷ []))
    (Some (key (value (codes "w") 1 [] ∷ value (codes "v") 1 [] ∷ []))) ≡ []
unfolding field_changes name_change number_change bytes_change value_changes value_line value_change order_line digits byte_text
order-ignored = refl

-- values that changed are told, and names, whatever is ignored
abbrev all : Ignored
all = record { time = true; security = true; order = true; class = true; marks = true }

still-told : key_changes all Old (codes "A") (key (value (codes "v") 1 [] ∷ []))
    (Some (record other { name = codes "KEY"; values = value (codes "v") 2 [] ∷ [] })) ≡
    codes "changed name =A from =Key to =KEY\nchanged value =A from =v type 1 x to =v type 2 x\n"
unfolding field_changes name_change number_change bytes_change value_changes value_line value_change order_line digits hex_on_literals byte_text
still-told = refl

still-gone : key_changes all Old (codes "A") (key (value (codes "v") 1 [] ∷ [])) None ≡ codes "gone key =A\ngone value =A =v type 1 x\n"
unfolding key_line value_line digits hex_on_literals byte_text
still-gone = refl
