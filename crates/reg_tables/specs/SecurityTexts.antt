-- The text of a security descriptor ([MS-DTYP] 2.5.1, the security descriptor description language).
use Rattle.std.specs.Prelude.{ℕ, zero, suc, ◌+◌, ◌*◌, ◌^◌, ◌==◌, ◌&&◌, ◌||◌, not, nat_lt, nat_le, Bool, false, bit_and, if◌then◌else◌}
use Rattle.std.specs.Prelude.{List, [], ◌++◌, length, take, drop, slice_index, codes, bytes_eq, Option, Some, None}
use Rattle.std.specs.Option.{option_map, option_and_then, unwrap_or}
use Rattle.std.specs.Fmt.{decimal, digits}
use Rattle.byteorder.specs.Endian.{little_number, big_number}
use Rattle.hex.specs.Hex.{encode_lower}
use Rattle.reg_text.specs.Texts.{digits_text}

-- ---- numbers, flags and parts

-- the number of 16 bits at a place, and that of 32, the low byte first
unfoldable pub short_at : (place : ℕ) (bytes : List ℕ) → ℕ
short_at place bytes = little_number 2 (drop place bytes)

unfoldable pub long_at : (place : ℕ) (bytes : List ℕ) → ℕ
long_at place bytes = little_number 4 (drop place bytes)

-- whether a flag is set
abbrev pub is_set : (flags flag : ℕ) → Bool
is_set flags flag = not (bit_and flags flag == 0)

-- a flag's letters, where it is set
abbrev pub flag_text : (flags flag : ℕ) (letters : List ℕ) → List ℕ
flag_text flags flag letters = if is_set flags flag then letters else []

-- two texts in one, where both are there
abbrev pub joined : (first second : Option (List ℕ)) → Option (List ℕ)
joined first second = option_and_then (λ text. option_map (λ more. text ++ more) second) first

-- ---- SIDs ([MS-DTYP] 2.4.2.1, 2.4.2.2; the letters of some: 2.5.1.1, "sid-token")

-- whether bytes begin with a SID: of revision 1, and with at most 15 sub-authorities, which are there
abbrev pub is_sid : List ℕ → Bool
is_sid bytes = slice_index bytes 0 == 1 && nat_le (slice_index bytes 1) 15 && nat_le (8 + 4 * slice_index bytes 1) (length bytes)

-- an authority of 48 bits, the high byte first: in decimal below 2 ^ 32, else as 12 hexadecimal digits
unfoldable pub authority_text : List ℕ → List ℕ
authority_text bytes = if nat_lt (big_number 6 bytes) (2 ^ 32) then decimal (big_number 6 bytes) else codes "0x" ++ encode_lower (take 6 bytes)

-- so many sub-authorities
abbrev pub parts_text : (count : ℕ) (bytes : List ℕ) → List ℕ
parts_text zero bytes = []
parts_text (suc count) bytes = codes "-" ++ (decimal (long_at 0 bytes) ++ parts_text count (drop 4 bytes))

-- a SID in numbers
abbrev pub numbers_text : List ℕ → List ℕ
numbers_text bytes = codes "S-1-" ++ (authority_text (drop 2 bytes) ++ parts_text (slice_index bytes 1) (drop 8 bytes))

-- the two letters that stand for a SID of the NT authority in numbers, or the numbers
unfoldable pub nt_name : List ℕ → List ℕ
nt_name numbers =
    if bytes_eq numbers (codes "S-1-5-18") then codes "SY"
    else if bytes_eq numbers (codes "S-1-5-32-544") then codes "BA"
    else if bytes_eq numbers (codes "S-1-5-32-545") then codes "BU"
    else if bytes_eq numbers (codes "S-1-5-19") then codes "LS"
    else if bytes_eq numbers (codes "S-1-5-20") then codes "NS"
    else if bytes_eq numbers (codes "S-1-5-11") then codes "AU"
    else if bytes_eq numbers (codes "S-1-5-12") then codes "RC"
    else numbers

-- those that stand for any SID, or the numbers
unfoldable pub short_name : List ℕ → List ℕ
short_name numbers =
    if bytes_eq numbers (codes "S-1-1-0") then codes "WD"
    else if bytes_eq numbers (codes "S-1-3-0") then codes "CO"
    else if bytes_eq numbers (codes "S-1-15-2-1") then codes "AC"
    else if bytes_eq numbers (codes "S-1-3-4") then codes "OW"
    else nt_name numbers

-- the SID that bytes begin with
unfoldable pub sid_of : List ℕ → Option (List ℕ)
sid_of bytes = if is_sid bytes then Some (short_name (numbers_text bytes)) else None

-- ---- ACEs ([MS-DTYP] 2.4.4.1 the header, 2.4.4.2 allowed, 2.4.4.4 denied, 2.4.4.10 audited, 2.4.4.13 a label; 2.5.1.1, "ace")

-- whether ACEs of a type are told: that allow, deny or audit access, and mandatory labels
abbrev pub is_told : (kind : ℕ) → Bool
is_told kind = nat_le kind 2 || kind == 0x11

-- whether bytes begin with an ACE that is told: with flags that have letters, and of a size that a mask fits in, and that the bytes have
abbrev pub is_ace : List ℕ → Bool
is_ace bytes =
    is_told (slice_index bytes 0) && not (is_set (slice_index bytes 1) 0x20) && nat_le 8 (short_at 2 bytes) && nat_le (short_at 2 bytes) (length bytes)

abbrev pub kind_text : (kind : ℕ) → List ℕ
kind_text kind = if kind == 0 then codes "A" else if kind == 1 then codes "D" else if kind == 2 then codes "AU" else codes "ML"

-- the letters of flags, in the order in which Windows writes them
abbrev pub ace_flags : (flags : ℕ) → List ℕ
ace_flags flags =
    flag_text flags 0x1 (codes "OI") ++ (flag_text flags 0x2 (codes "CI") ++ (flag_text flags 0x4 (codes "NP") ++ (flag_text flags 0x8 (codes "IO")
    ++ (flag_text flags 0x10 (codes "ID") ++ (flag_text flags 0x40 (codes "SA") ++ flag_text flags 0x80 (codes "FA"))))))

-- the letters of just these rights: of a label, and of any other ACE
abbrev pub label_name : (mask : ℕ) → Option (List ℕ)
label_name mask = if mask == 0x1 then Some (codes "NW") else if mask == 0x2 then Some (codes "NR") else if mask == 0x4 then Some (codes "NX") else None

abbrev pub access_name : (mask : ℕ) → Option (List ℕ)
access_name mask =
    if mask == 0xF003F then Some (codes "KA")
    else if mask == 0x20019 then Some (codes "KR")
    else if mask == 0x20006 then Some (codes "KW")
    else if mask == 0x10000000 then Some (codes "GA")
    else if mask == 0x80000000 then Some (codes "GR")
    else if mask == 0x40000000 then Some (codes "GW")
    else if mask == 0x20000000 then Some (codes "GX")
    else None

unfoldable pub right_name : (kind mask : ℕ) → Option (List ℕ)
right_name kind mask = if kind == 0x11 then label_name mask else access_name mask

-- a mask in hexadecimal digits
unfoldable pub mask_text : (mask : ℕ) → List ℕ
mask_text mask = codes "0x" ++ digits 16 false mask

-- rights: their letters, or the mask
unfoldable pub rights_text : (kind mask : ℕ) → List ℕ
rights_text kind mask = unwrap_or (right_name kind mask) (mask_text mask)

-- an ACE with its SID's text
unfoldable pub ace_text : (bytes sid : List ℕ) → List ℕ
ace_text bytes sid =
    codes "(" ++ (kind_text (slice_index bytes 0) ++ (codes ";" ++ (ace_flags (slice_index bytes 1) ++ (codes ";"
    ++ (rights_text (slice_index bytes 0) (long_at 4 bytes) ++ (codes ";;;" ++ (sid ++ codes ")")))))))

-- the ACE that bytes begin with; its SID is within its size
unfoldable pub ace_of : List ℕ → Option (List ℕ)
ace_of bytes = if is_ace bytes then option_map (λ sid. ace_text bytes sid) (sid_of (drop 8 (take (short_at 2 bytes) bytes))) else None

-- so many ACEs, one behind the other
abbrev pub aces_of : (count : ℕ) (bytes : List ℕ) → Option (List ℕ)
aces_of zero bytes = Some []
aces_of (suc count) bytes = joined (ace_of bytes) (aces_of count (drop (short_at 2 bytes) bytes))

-- the ACEs of the ACL that bytes begin with, within its size ([MS-DTYP] 2.4.5)
unfoldable pub acl_of : List ℕ → Option (List ℕ)
acl_of bytes =
    if nat_le 8 (short_at 2 bytes) && nat_le (short_at 2 bytes) (length bytes) then aces_of (short_at 4 bytes) (drop 8 (take (short_at 2 bytes) bytes)) else None

-- ---- the descriptor ([MS-DTYP] 2.4.6; 2.5.1.1, "sddl")

-- the owner or the group at an offset, where that isn't 0
abbrev pub sid_part : (title : List ℕ) (offset : ℕ) (bytes : List ℕ) → Option (List ℕ)
sid_part title offset bytes = if offset == 0 then Some [] else option_map (λ sid. title ++ sid) (sid_of (drop offset bytes))

-- an ACL at an offset, with its flags
abbrev pub acl_part : (title flags : List ℕ) (offset : ℕ) (bytes : List ℕ) → Option (List ℕ)
acl_part title flags offset bytes = option_map (λ aces. title ++ (flags ++ aces)) (acl_of (drop offset bytes))

-- the letters of three flags of a control
abbrev pub acl_flags : (control protected required inherited : ℕ) → List ℕ
acl_flags control protected required inherited =
    flag_text control protected (codes "P") ++ (flag_text control required (codes "AR") ++ flag_text control inherited (codes "AI"))

-- the DACL, where there is one; one at offset 0 is null
abbrev pub dacl_part : (control offset : ℕ) (bytes : List ℕ) → Option (List ℕ)
dacl_part control offset bytes =
    if not (is_set control 0x4) then Some []
    else if offset == 0 then Some (codes "D:NO_ACCESS_CONTROL")
    else acl_part (codes "D:") (acl_flags control 0x1000 0x100 0x400) offset bytes

-- the SACL, where there is one
abbrev pub sacl_part : (control offset : ℕ) (bytes : List ℕ) → Option (List ℕ)
sacl_part control offset bytes =
    if not (is_set control 0x10) || offset == 0 then Some []
    else acl_part (codes "S:") (acl_flags control 0x2000 0x200 0x800) offset bytes

-- whether bytes begin with the header of a descriptor in self-relative form, of revision 1
abbrev pub is_descriptor : List ℕ → Bool
is_descriptor bytes = nat_le 20 (length bytes) && slice_index bytes 0 == 1 && is_set (short_at 2 bytes) 0x8000

-- the text of a descriptor: the owner, the group, the DACL and the SACL; `None` of bytes that are none
unfoldable pub sddl_of : List ℕ → Option (List ℕ)
sddl_of bytes =
    if is_descriptor bytes
    then joined (joined (sid_part (codes "O:") (long_at 4 bytes) bytes) (sid_part (codes "G:") (long_at 8 bytes) bytes))
    (joined (dacl_part (short_at 2 bytes) (long_at 16 bytes) bytes) (sacl_part (short_at 2 bytes) (long_at 12 bytes) bytes))
    else None

-- what is told of a key's security: the text of its descriptor, or the bytes of what is none, as two digits each
unfoldable pub security_told : List ℕ → List ℕ
security_told bytes = unwrap_or (sddl_of bytes) (digits_text bytes)
