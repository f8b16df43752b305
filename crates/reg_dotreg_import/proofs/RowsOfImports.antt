-- Imports of a tree that was worked out by hand. Expected values are those of the rules.
use Rattle.std.proofs.Common.{◌≡◌, ℕ, List, [], ◌∷◌, refl}
use Rattle.std.specs.Prelude.{codes, None}
use Rattle.std.specs.FinMap.{from_sorted}
use Rattle.reg_names.specs.Names.{are_key_names}
use Rattle.reg_heap.specs.Paths.{Path, Tree, Rec, Member}
use Rattle.reg_dotreg_reader.specs.declared.entry.Entry.{Entry}
use Rattle.reg_dotreg_reader.specs.declared.entry.Entry.TheVariants.{Key, GoneKey, Value, GoneValue}
use Rattle.reg_dotreg_import.specs.declared.entries.TheConstants.{ALL_RIGHTS}
use Rattle.reg_model.specs.declared.call.Change.TheVariants.{CreateKey, SetValue, DeleteTree, Close}
use Rattle.reg_dotreg_import.specs.Imports.{imported, begun}
use Rattle.reg_dotreg_import.specs.ImportCalls.{calls_of}
use Rattle.reg_dotreg_import.proofs.WrittenImports.{Keys, imported-written}

-- ---- the root, `a` with a value `v`, `a\B` and `c`

abbrev at_a : Path
at_a = codes "A" ∷ []

abbrev at_a_b : Path
at_a_b = codes "A" ∷ codes "B" ∷ []

abbrev at_c : Path
at_c = codes "C" ∷ []

abbrev v : Member
v = record { name = codes "v"; kind = 4; bytes = 1 ∷ [] }

abbrev key : List ℕ → ℕ → List Member → Rec
key name time values = record { name = name; marks = 0; class = []; descriptor = 5 ∷ []; time = time; values = values }

abbrev keys : Keys
keys = ([], key (codes "R") 0 []) ∷ (at_a, key (codes "a") 1 (v ∷ [])) ∷ (at_a_b, key (codes "B") 2 []) ∷ (at_c, key (codes "c") 3 []) ∷ []

-- what entries make of it at moment 9
abbrev made : List Entry → Tree
made entries = imported 9 (from_sorted keys) entries

-- `c` and the root as they were, and `a` with values
abbrev with_a : ℕ → List Member → Tree
with_a time values =
    from_sorted (([], key (codes "R") 0 []) ∷ (at_a, key (codes "a") time values) ∷ (at_a_b, key (codes "B") 2 []) ∷ (at_c, key (codes "c") 3 []) ∷ [])

nothing : made [] ≡ from_sorted keys
nothing = refl

-- ---- keys: those that are missing are made at the moment, with the descriptor of the key above, whose time is set

key-there : made (Key (codes "A\\b") ∷ []) ≡ from_sorted keys
key-there = imported-written 9 keys (Key (codes "A\\b") ∷ []) tt

key-root : made (Key [] ∷ []) ≡ from_sorted keys
key-root = imported-written 9 keys (Key [] ∷ []) tt

keys-made : made (Key (codes "a\\x\\Y") ∷ []) ≡
    from_sorted (([], key (codes "R") 0 []) ∷ (at_a, key (codes "a") 9 (v ∷ [])) ∷ (at_a_b, key (codes "B") 2 [])
    ∷ (codes "A" ∷ codes "X" ∷ [], key (codes "x") 9 []) ∷ (codes "A" ∷ codes "X" ∷ codes "Y" ∷ [], key (codes "Y") 9 [])
    ∷ (at_c, key (codes "c") 3 []) ∷ [])
keys-made = imported-written 9 keys (Key (codes "a\\x\\Y") ∷ []) tt

-- ---- keys gone: with all below them, and the time of the key above is set

key-gone : made (GoneKey (codes "A") ∷ []) ≡ from_sorted (([], key (codes "R") 9 []) ∷ (at_c, key (codes "c") 3 []) ∷ [])
key-gone = imported-written 9 keys (GoneKey (codes "A") ∷ []) tt

key-gone-below : made (GoneKey (codes "a\\b") ∷ []) ≡
    from_sorted (([], key (codes "R") 0 []) ∷ (at_a, key (codes "a") 9 (v ∷ [])) ∷ (at_c, key (codes "c") 3 []) ∷ [])
key-gone-below = imported-written 9 keys (GoneKey (codes "a\\b") ∷ []) tt

-- where none is there nothing changes, the times neither
no-key-gone : made (GoneKey (codes "a\\c") ∷ []) ≡ from_sorted keys
no-key-gone = imported-written 9 keys (GoneKey (codes "a\\c") ∷ []) tt

-- the root stays, without its values
root-emptied : made (Value (codes "r") 3 [] ∷ GoneKey [] ∷ []) ≡ from_sorted (([], key (codes "R") 9 []) ∷ [])
root-emptied = imported-written 9 keys (Value (codes "r") 3 [] ∷ GoneKey [] ∷ []) tt

-- ---- values: one of that name, after folding, is replaced in its place and keeps its name, another goes behind; the key's time is set

value-replaced : made (Key (codes "a") ∷ Value (codes "V") 1 (7 ∷ 8 ∷ []) ∷ []) ≡ with_a 9 (record { name = codes "v"; kind = 1; bytes = 7 ∷ 8 ∷ [] } ∷ [])
value-replaced = imported-written 9 keys (Key (codes "a") ∷ Value (codes "V") 1 (7 ∷ 8 ∷ []) ∷ []) tt

value-added : made (Key (codes "a") ∷ Value [] 3 [] ∷ []) ≡ with_a 9 (v ∷ record { name = []; kind = 3; bytes = [] } ∷ [])
value-added = imported-written 9 keys (Key (codes "a") ∷ Value [] 3 [] ∷ []) tt

value-gone : made (Key (codes "a") ∷ GoneValue (codes "V") ∷ []) ≡ with_a 9 []
value-gone = imported-written 9 keys (Key (codes "a") ∷ GoneValue (codes "V") ∷ []) tt

-- where none is there nothing changes
no-value-gone : made (Key (codes "a") ∷ GoneValue (codes "w") ∷ []) ≡ from_sorted keys
no-value-gone = imported-written 9 keys (Key (codes "a") ∷ GoneValue (codes "w") ∷ []) tt

-- another key's value isn't the key's
no-value-there : made (Key (codes "c") ∷ GoneValue (codes "v") ∷ []) ≡ from_sorted keys
no-value-there = imported-written 9 keys (Key (codes "c") ∷ GoneValue (codes "v") ∷ []) tt

-- ---- one after another: a value before the first key is the root's, those behind a key are its own, and behind another key that one's

in-turn : made (Value (codes "r") 3 [] ∷ Key (codes "A") ∷ GoneValue (codes "v") ∷ Key (codes "c\\d") ∷ Value (codes "w") 4 (2 ∷ [])
    ∷ GoneKey (codes "a\\b") ∷ []) ≡
    from_sorted (([], key (codes "R") 9 (record { name = codes "r"; kind = 3; bytes = [] } ∷ [])) ∷ (at_a, key (codes "a") 9 []) ∷ (at_c, key (codes "c") 9 [])
    ∷ (codes "C" ∷ codes "D" ∷ [], key (codes "d") 9 (record { name = codes "w"; kind = 4; bytes = 2 ∷ [] } ∷ [])) ∷ [])
in-turn = imported-written 9 keys (Value (codes "r") 3 [] ∷ Key (codes "A") ∷ GoneValue (codes "v") ∷ Key (codes "c\\d") ∷ Value (codes "w") 4 (2 ∷ []) ∷ GoneKey (codes "a\\b") ∷ []) tt

-- a key that was made and went takes its values along, and what is made anew has none
made-anew : made (Key (codes "q") ∷ Value [] 3 [] ∷ GoneKey (codes "Q") ∷ Key (codes "Q") ∷ []) ≡
    from_sorted (([], key (codes "R") 9 []) ∷ (at_a, key (codes "a") 1 (v ∷ [])) ∷ (at_a_b, key (codes "B") 2 []) ∷ (at_c, key (codes "c") 3 [])
    ∷ (codes "Q" ∷ [], key (codes "Q") 9 []) ∷ [])
made-anew = imported-written 9 keys (Key (codes "q") ∷ Value [] 3 [] ∷ GoneKey (codes "Q") ∷ Key (codes "Q") ∷ []) tt

-- values stay with the key of the last key line also where another key goes in between, and with none where that key went
value-behind-gone : made (Key (codes "a") ∷ GoneKey (codes "c") ∷ GoneValue (codes "v") ∷ []) ≡
    from_sorted (([], key (codes "R") 9 []) ∷ (at_a, key (codes "a") 9 []) ∷ (at_a_b, key (codes "B") 2 []) ∷ [])
value-behind-gone = imported-written 9 keys (Key (codes "a") ∷ GoneKey (codes "c") ∷ GoneValue (codes "v") ∷ []) tt

-- ---- calls: a handle has the number of the call that opens it, the root's here 5; a key's is closed before the next key is made, and the
-- root's isn't

calls-in-turn : (tree : Tree) → calls_of 9 (record { stand = begun tree; root = 5; key = 5; next = 6 })
    (Value (codes "r") 3 [] ∷ Key (codes "a") ∷ Value (codes "w") 4 (2 ∷ []) ∷ Key (codes "c\\d") ∷ Key (codes "A") ∷ []) ≡
    SetValue 5 (codes "r") 3 [] ∷ CreateKey 5 (codes "a") 983103 None ∷ SetValue 7 (codes "w") 4 (2 ∷ []) ∷ Close 7 ∷ CreateKey 5 (codes "c\\d") 983103 None
    ∷ Close 10 ∷ CreateKey 5 (codes "A") 983103 None ∷ []
calls-in-turn tree = refl

-- the root goes with all that is in it, and a path that is none is asked to go and refused
calls-to-go : (tree : Tree) → calls_of 9 (record { stand = begun tree; root = 5; key = 8; next = 9 }) (GoneKey [] ∷ GoneKey (codes "a\\\\b") ∷ []) ≡
    DeleteTree 5 [] ∷ DeleteTree 5 (codes "a\\\\b") ∷ []
unfolding are_key_names
calls-to-go tree = refl

-- ---- the limits of the calls: all rights are 0xF003F

all_rights : ALL_RIGHTS ≡ 983103
all_rights = refl
