-- Security descriptors as texts, computed of bytes that were written out by hand.
use Rattle.std.proofs.Common.{◌≡◌, List, ℕ, [], ◌∷◌, ◌++◌, drop, map, Some, None, refl}
use Rattle.std.specs.Prelude.{codes, replicate}
use Rattle.std.specs.Fmt.{digits}
use Rattle.hex.proofs.OnLiterals.{hex_on_literals}
use Rattle.reg_tables.specs.SecurityTexts.{short_at, long_at, authority_text, nt_name, short_name, sid_of}
use Rattle.reg_tables.specs.SecurityTexts.{ace_flags, right_name, mask_text, rights_text, ace_text, ace_of, acl_of, acl_flags, sddl_of}

-- S-1-5-32-544, S-1-5-18, S-1-16-12288
abbrev administrators : List ℕ
administrators = 1 ∷ 2 ∷ 0 ∷ 0 ∷ 0 ∷ 0 ∷ 0 ∷ 5 ∷ 32 ∷ 0 ∷ 0 ∷ 0 ∷ 32 ∷ 2 ∷ 0 ∷ 0 ∷ []

abbrev system : List ℕ
system = 1 ∷ 1 ∷ 0 ∷ 0 ∷ 0 ∷ 0 ∷ 0 ∷ 5 ∷ 18 ∷ 0 ∷ 0 ∷ 0 ∷ []

abbrev high : List ℕ
high = 1 ∷ 1 ∷ 0 ∷ 0 ∷ 0 ∷ 0 ∷ 0 ∷ 16 ∷ 0 ∷ 48 ∷ 0 ∷ 0 ∷ []

-- all access for the administrators, for keys and values below too: 24 bytes; reading for the system, inherited: 20 bytes
abbrev all : List ℕ
all = 0 ∷ 3 ∷ 24 ∷ 0 ∷ 63 ∷ 0 ∷ 15 ∷ 0 ∷ administrators

abbrev read : List ℕ
read = 0 ∷ 18 ∷ 20 ∷ 0 ∷ 25 ∷ 0 ∷ 2 ∷ 0 ∷ system

-- ---- a whole descriptor, with its DACL at 20, its owner at 72 and its group at 88

abbrev whole : List ℕ
whole = 1 ∷ 0 ∷ 4 ∷ 148 ∷ 72 ∷ 0 ∷ 0 ∷ 0 ∷ 88 ∷ 0 ∷ 0 ∷ 0 ∷ 0 ∷ 0 ∷ 0 ∷ 0 ∷ 20 ∷ 0 ∷ 0 ∷ 0 ∷ 2 ∷ 0 ∷ 52 ∷ 0 ∷ 2 ∷ 0 ∷ 0 ∷ 0 ∷ all ++ read ++ administrators ++ system

whole-owner : sid_of (drop 72 whole) ≡ Some (codes "BA")
unfolding sid_of short_at long_at short_name nt_name authority_text digits hex_on_literals
whole-owner = refl

whole-group : sid_of (drop 88 whole) ≡ Some (codes "SY")
unfolding sid_of short_at long_at short_name nt_name authority_text digits hex_on_literals
whole-group = refl

whole-dacl : acl_of (drop 20 whole) ≡ Some (codes "(A;OICI;KA;;;BA)(A;CIID;KR;;;SY)")
unfolding acl_of ace_of ace_text rights_text right_name mask_text sid_of short_at long_at short_name nt_name authority_text digits hex_on_literals
whole-dacl = refl

descriptor-whole : sddl_of whole ≡ Some (codes "O:BAG:SYD:PAI(A;OICI;KA;;;BA)(A;CIID;KR;;;SY)")
unfolding sddl_of short_at long_at
descriptor-whole = rw (whole-owner, whole-group, whole-dacl) refl

-- ---- descriptors of a header alone: a null DACL, no part, a SACL at offset 0

abbrev header : (revision low high owner : ℕ) → List ℕ
header revision low high owner = revision ∷ 0 ∷ low ∷ high ∷ owner ∷ replicate 15 0

descriptor-null_dacl : sddl_of (header 1 4 128 0) ≡ Some (codes "D:NO_ACCESS_CONTROL")
unfolding sddl_of short_at long_at
descriptor-null_dacl = refl

descriptor-empty : sddl_of (header 1 0 128 0) ≡ Some []
unfolding sddl_of short_at long_at
descriptor-empty = refl

descriptor-null_sacl : sddl_of (header 1 16 128 0) ≡ Some []
unfolding sddl_of short_at long_at
descriptor-null_sacl = refl

-- with an owner behind the bytes, of revision 2, in absolute form, and without the last byte
sid-none : sid_of [] ≡ None
unfolding sid_of short_at long_at short_name nt_name authority_text digits hex_on_literals
sid-none = refl

descriptor-bad_offset : sddl_of (header 1 0 128 40) ≡ None
unfolding sddl_of short_at long_at
descriptor-bad_offset = rw sid-none refl

descriptor-revision : sddl_of (header 2 4 128 0) ≡ None
unfolding sddl_of short_at long_at
descriptor-revision = refl

descriptor-absolute : sddl_of (header 1 4 0 0) ≡ None
unfolding sddl_of short_at long_at
descriptor-absolute = refl

descriptor-short : sddl_of (1 ∷ 0 ∷ 4 ∷ 128 ∷ replicate 15 0) ≡ None
unfolding sddl_of short_at long_at
descriptor-short = refl

-- ---- a SACL at 20, with a label

abbrev label : List ℕ
label = 17 ∷ 0 ∷ 20 ∷ 0 ∷ 1 ∷ 0 ∷ 0 ∷ 0 ∷ high

abbrev labelled : List ℕ
labelled = 1 ∷ 0 ∷ 16 ∷ 128 ∷ 0 ∷ 0 ∷ 0 ∷ 0 ∷ 0 ∷ 0 ∷ 0 ∷ 0 ∷ 20 ∷ 0 ∷ 0 ∷ 0 ∷ 0 ∷ 0 ∷ 0 ∷ 0 ∷ 2 ∷ 0 ∷ 28 ∷ 0 ∷ 1 ∷ 0 ∷ 0 ∷ 0 ∷ label

labelled-sacl : acl_of (drop 20 labelled) ≡ Some (codes "(ML;;NW;;;S-1-16-12288)")
unfolding acl_of ace_of ace_text rights_text right_name mask_text sid_of short_at long_at short_name nt_name authority_text digits hex_on_literals
labelled-sacl = refl

descriptor-labelled : sddl_of labelled ≡ Some (codes "S:(ML;;NW;;;S-1-16-12288)")
unfolding sddl_of short_at long_at
descriptor-labelled = rw labelled-sacl refl

-- the flags of a DACL and of a SACL
flags-dacl : map (λ control. acl_flags control 0x1000 0x100 0x400) (0x1000 ∷ 0x100 ∷ 0x400 ∷ 0x1500 ∷ 0x2A00 ∷ []) ≡ codes "P" ∷ codes "AR" ∷ codes "AI" ∷ codes "PARAI" ∷ [] ∷ []
flags-dacl = refl

-- ---- ACLs: an empty one, one of 7 bytes by its size, one that is longer than the bytes, and one with fewer ACEs than it says

acl-empty : acl_of (2 ∷ 0 ∷ 8 ∷ 0 ∷ 0 ∷ 0 ∷ 0 ∷ 0 ∷ []) ≡ Some []
unfolding acl_of short_at
acl-empty = refl

acl-small : acl_of (2 ∷ 0 ∷ 7 ∷ 0 ∷ 0 ∷ 0 ∷ 0 ∷ 0 ∷ []) ≡ None
unfolding acl_of short_at
acl-small = refl

acl-long : acl_of (2 ∷ 0 ∷ 9 ∷ 0 ∷ 0 ∷ 0 ∷ 0 ∷ 0 ∷ []) ≡ None
unfolding acl_of short_at
acl-long = refl

acl-few : acl_of (2 ∷ 0 ∷ 28 ∷ 0 ∷ 2 ∷ 0 ∷ 0 ∷ 0 ∷ label) ≡ None
unfolding acl_of ace_of ace_text rights_text right_name mask_text sid_of short_at long_at short_name nt_name authority_text digits hex_on_literals
acl-few = refl

-- ---- ACEs

-- denied all access by a mask without letters; audited; with 4 bytes behind its SID
ace-denied : ace_of (1 ∷ 0 ∷ 20 ∷ 0 ∷ 3 ∷ 0 ∷ 2 ∷ 0 ∷ system) ≡ Some (codes "(D;;0x20003;;;SY)")
unfolding ace_of ace_text rights_text right_name mask_text sid_of short_at long_at short_name nt_name authority_text digits hex_on_literals
ace-denied = refl

ace-audited : ace_of (2 ∷ 192 ∷ 20 ∷ 0 ∷ 0 ∷ 0 ∷ 0 ∷ 16 ∷ system) ≡ Some (codes "(AU;SAFA;GA;;;SY)")
unfolding ace_of ace_text rights_text right_name mask_text sid_of short_at long_at short_name nt_name authority_text digits hex_on_literals
ace-audited = refl

ace-longer : ace_of (0 ∷ 0 ∷ 24 ∷ 0 ∷ 0 ∷ 0 ∷ 0 ∷ 0 ∷ system ++ 1 ∷ 2 ∷ 3 ∷ 4 ∷ []) ≡ Some (codes "(A;;0x0;;;SY)")
unfolding ace_of ace_text rights_text right_name mask_text sid_of short_at long_at short_name nt_name authority_text digits hex_on_literals
ace-longer = refl

-- of another type; with a flag without letters; with a SID that is longer than the ACE; longer than the bytes
ace-object : ace_of (5 ∷ 0 ∷ 20 ∷ 0 ∷ 63 ∷ 0 ∷ 15 ∷ 0 ∷ system) ≡ None
unfolding ace_of ace_text rights_text right_name mask_text sid_of short_at long_at short_name nt_name authority_text digits hex_on_literals
ace-object = refl

ace-flag : ace_of (0 ∷ 32 ∷ 20 ∷ 0 ∷ 63 ∷ 0 ∷ 15 ∷ 0 ∷ system) ≡ None
unfolding ace_of ace_text rights_text right_name mask_text sid_of short_at long_at short_name nt_name authority_text digits hex_on_literals
ace-flag = refl

ace-cut : ace_of (0 ∷ 0 ∷ 16 ∷ 0 ∷ 63 ∷ 0 ∷ 15 ∷ 0 ∷ system) ≡ None
unfolding ace_of ace_text rights_text right_name mask_text sid_of short_at long_at short_name nt_name authority_text digits hex_on_literals
ace-cut = refl

ace-beyond : ace_of (0 ∷ 0 ∷ 24 ∷ 0 ∷ 63 ∷ 0 ∷ 15 ∷ 0 ∷ system) ≡ None
unfolding ace_of ace_text rights_text right_name mask_text sid_of short_at long_at short_name nt_name authority_text digits hex_on_literals
ace-beyond = refl

flags-all : ace_flags 0xDF ≡ codes "OICINPIOIDSAFA"
flags-all = refl

flags-each : map ace_flags (1 ∷ 2 ∷ 4 ∷ 8 ∷ 16 ∷ 64 ∷ 128 ∷ []) ≡
    codes "OI" ∷ codes "CI" ∷ codes "NP" ∷ codes "IO" ∷ codes "ID" ∷ codes "SA" ∷ codes "FA" ∷ []
flags-each = refl

rights-access : map (rights_text 0) (983103 ∷ 131097 ∷ 131078 ∷ 268435456 ∷ 2147483648 ∷ 1073741824 ∷ 536870912 ∷ 1 ∷ 4294967295 ∷ []) ≡
    codes "KA" ∷ codes "KR" ∷ codes "KW" ∷ codes "GA" ∷ codes "GR" ∷ codes "GW" ∷ codes "GX" ∷ codes "0x1" ∷ codes "0xffffffff" ∷ []
unfolding rights_text right_name mask_text digits
rights-access = refl

rights-label : map (rights_text 17) (1 ∷ 2 ∷ 4 ∷ 3 ∷ 983103 ∷ []) ≡ codes "NW" ∷ codes "NR" ∷ codes "NX" ∷ codes "0x3" ∷ codes "0xf003f" ∷ []
unfolding rights_text right_name mask_text digits
rights-label = refl

-- ---- SIDs

-- with no sub-authority; with one of 32 bits; of revision 2; with 16 sub-authorities; one byte too short
sid-bare : sid_of (1 ∷ 0 ∷ 0 ∷ 0 ∷ 0 ∷ 0 ∷ 0 ∷ 5 ∷ []) ≡ Some (codes "S-1-5")
unfolding sid_of short_at long_at short_name nt_name authority_text digits hex_on_literals
sid-bare = refl

sid-long : sid_of (1 ∷ 2 ∷ 0 ∷ 0 ∷ 0 ∷ 0 ∷ 1 ∷ 5 ∷ 255 ∷ 255 ∷ 255 ∷ 255 ∷ 1 ∷ 2 ∷ 0 ∷ 0 ∷ []) ≡ Some (codes "S-1-261-4294967295-513")
unfolding sid_of short_at long_at short_name nt_name authority_text digits hex_on_literals
sid-long = refl

sid-revision : sid_of (2 ∷ 0 ∷ 0 ∷ 0 ∷ 0 ∷ 0 ∷ 0 ∷ 5 ∷ []) ≡ None
unfolding sid_of short_at long_at short_name nt_name authority_text digits hex_on_literals
sid-revision = refl

sid-many : sid_of (1 ∷ 16 ∷ replicate 70 0) ≡ None
unfolding sid_of short_at long_at short_name nt_name authority_text digits hex_on_literals
sid-many = refl

sid-cut : sid_of (1 ∷ 1 ∷ 0 ∷ 0 ∷ 0 ∷ 0 ∷ 0 ∷ 5 ∷ 18 ∷ 0 ∷ 0 ∷ []) ≡ None
unfolding sid_of short_at long_at short_name nt_name authority_text digits hex_on_literals
sid-cut = refl

-- authorities below 2 ^ 32, and that number
authority-last : authority_text (0 ∷ 0 ∷ 255 ∷ 255 ∷ 255 ∷ 255 ∷ []) ≡ codes "4294967295"
unfolding authority_text digits hex_on_literals
authority-last = refl

authority-long : authority_text (0 ∷ 1 ∷ 0 ∷ 0 ∷ 0 ∷ 171 ∷ []) ≡ codes "0x0001000000ab"
unfolding authority_text digits hex_on_literals
authority-long = refl

names-first : map short_name (codes "S-1-5-18" ∷ codes "S-1-5-32-544" ∷ codes "S-1-5-32-545" ∷ codes "S-1-1-0" ∷ codes "S-1-3-0" ∷ codes "S-1-15-2-1" ∷ []) ≡
    codes "SY" ∷ codes "BA" ∷ codes "BU" ∷ codes "WD" ∷ codes "CO" ∷ codes "AC" ∷ []
unfolding short_name nt_name
names-first = refl

names-last : map short_name (codes "S-1-5-19" ∷ codes "S-1-5-20" ∷ codes "S-1-5-11" ∷ codes "S-1-5-12" ∷ codes "S-1-3-4" ∷ codes "S-1-5-180" ∷ []) ≡
    codes "LS" ∷ codes "NS" ∷ codes "AU" ∷ codes "RC" ∷ codes "OW" ∷ codes "S-1-5-180" ∷ []
unfolding short_name nt_name
names-last = refl
