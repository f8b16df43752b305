-- The parts of a security descriptor's text, one behind the other.
use Rattle.std.proofs.Common.{◌≡◌, ℕ, suc, ◌+◌, ◌*◌, ◌-◌, ◌≤◌, ◌<◌, Bool, true, false, List, ◌++◌, length, length-drop, drop, take}
use Rattle.std.proofs.Common.{Option, Some, None, refl, sym, ap, ◌∙◌, arith, append_assoc}
use Rattle.std.specs.Prelude.{codes, cond, if◌then◌else◌}
use Rattle.std.specs.Fmt.{decimal}
use Rattle.std.specs.Option.{option_map, unwrap_or}
use Rattle.std.proofs.lemmas.Bool.Decides.{nat_tests}
use Rattle.reg_tables.specs.SecurityTexts.{short_at, long_at, joined, parts_text, sid_of, is_ace, right_name, mask_text, rights_text, ace_text, ace_of, aces_of}
use Rattle.reg_tables.specs.SecurityTexts.{sid_part, dacl_part, sacl_part, is_descriptor, sddl_of}

-- ---- sub-authorities

pub parts-more : (count part number : ℕ) (bytes rest behind text new : List ℕ) → part < count → parts_text count bytes ≡ text ++ parts_text (count - part) rest →
    number ≡ long_at 0 rest → new ≡ text ++ (codes "-" ++ decimal number) → behind ≡ drop 4 rest →
    parts_text count bytes ≡ new ++ parts_text (count - (part + 1)) behind
parts-more count part number bytes rest behind text new within told read is after =
    let more : count - part ≡ suc (count - (part + 1)) = omega arith in
    told ∙ (ap (λ (n : ℕ). text ++ parts_text n rest) more
    ∙ (sym (append_assoc text (codes "-" ++ decimal (long_at 0 rest)) (parts_text (count - (part + 1)) (drop 4 rest)))
    ∙ (ap (λ (n : ℕ). (text ++ (codes "-" ++ decimal n)) ++ parts_text (count - (part + 1)) (drop 4 rest)) (sym read)
    ∙ (ap (λ (x : List ℕ). x ++ parts_text (count - (part + 1)) (drop 4 rest)) (sym is)
    ∙ ap (λ (x : List ℕ). new ++ parts_text (count - (part + 1)) x) (sym after)))))

pub parts-room : (count part : ℕ) (rest behind : List ℕ) → part < count → 4 * (count - part) ≤ length rest → behind ≡ drop 4 rest →
    4 * (count - (part + 1)) ≤ length behind
parts-room count part rest behind within room after = omega (arith, room, ap length after, length-drop {A = ℕ} 4 rest)

-- ---- ACEs

-- what is told so far before what is to come
abbrev pub Before : (text : List ℕ) (all more : Option (List ℕ)) → Type 0
Before text all more = all ≡ option_map (λ rest. text ++ rest) more

then_more : (text ace : List ℕ) (more : Option (List ℕ)) →
    option_map (λ rest. text ++ rest) (joined (Some ace) more) ≡ option_map (λ rest. (text ++ ace) ++ rest) more
then_more text ace None = refl
then_more text ace (Some more) = ap Some (sym (append_assoc text ace more))

pub aces-more : (count place size : ℕ) (bytes rest behind text new ace : List ℕ) → place < count →
    Before text (aces_of count bytes) (aces_of (count - place) rest) → Some ace ≡ ace_of rest → new ≡ text ++ ace → size ≡ short_at 2 rest →
    behind ≡ drop size rest → Before new (aces_of count bytes) (aces_of (count - (place + 1)) behind)
aces-more count place size bytes rest behind text new ace within told here is read after =
    let next : count - place ≡ suc (count - (place + 1)) = omega arith in
    let there : behind ≡ drop (short_at 2 rest) rest = after ∙ ap (λ (n : ℕ). drop n rest) read in
    told ∙ (ap (λ (n : ℕ). option_map (λ x. text ++ x) (aces_of n rest)) next
    ∙ (ap (λ (x : Option (List ℕ)). option_map (λ y. text ++ y) (joined x (aces_of (count - (place + 1)) (drop (short_at 2 rest) rest)))) (sym here)
    ∙ (then_more text ace (aces_of (count - (place + 1)) (drop (short_at 2 rest) rest))
    ∙ (ap (λ (t : List ℕ). option_map (λ x. t ++ x) (aces_of (count - (place + 1)) (drop (short_at 2 rest) rest))) (sym is)
    ∙ ap (λ (b : List ℕ). option_map (λ x. new ++ x) (aces_of (count - (place + 1)) b)) (sym there)))))

pub aces-bad : (count place : ℕ) (bytes rest text : List ℕ) → place < count → Before text (aces_of count bytes) (aces_of (count - place) rest) →
    None ≡ ace_of rest → None ≡ aces_of count bytes
aces-bad count place bytes rest text within told here =
    let next : count - place ≡ suc (count - (place + 1)) = omega arith in
    sym (told ∙ (ap (λ (n : ℕ). option_map (λ x. text ++ x) (aces_of n rest)) next
    ∙ ap (λ (x : Option (List ℕ)). option_map (λ y. text ++ y) (joined x (aces_of (count - (place + 1)) (drop (short_at 2 rest) rest)))) (sym here)))

-- an ACE that is told has its header
pub ace-header : (bytes ace : List ℕ) → Some ace ≡ ace_of bytes → 4 ≤ length bytes
unfolding ace_of
ace-header bytes ace e =
    let told : is_ace bytes ≡ true = only_where (is_ace bytes) (option_map (λ sid. ace_text bytes sid) (sid_of (drop 8 (take (short_at 2 bytes) bytes)))) ace e in
    long bytes told
  where
    only_where : (b : Bool) (x : Option (List ℕ)) (ace : List ℕ) → Some ace ≡ cond b x None → b ≡ true
    only_where true x ace e = refl
    only_where false x ace e = cc

    long : (bytes : List ℕ) → is_ace bytes ≡ true → 4 ≤ length bytes
    long bytes told = grind (arith, nat_tests)

-- ---- rights

pub rights-named : (kind mask : ℕ) (name : List ℕ) → Some name ≡ right_name kind mask → name ≡ rights_text kind mask
unfolding rights_text
rights-named kind mask name e = ap (λ (o : Option (List ℕ)). unwrap_or o (mask_text mask)) e

pub rights-unnamed : (kind mask : ℕ) → None ≡ right_name kind mask → mask_text mask ≡ rights_text kind mask
unfolding rights_text
rights-unnamed kind mask e = ap (λ (o : Option (List ℕ)). unwrap_or o (mask_text mask)) e

-- ---- the descriptor

pub descriptor-told : (bytes : List ℕ) (control at_owner at_group at_sacl at_dacl : ℕ) (owner group dacl sacl sids acls : Option (List ℕ)) →
    true ≡ is_descriptor bytes → control ≡ short_at 2 bytes → at_owner ≡ long_at 4 bytes → at_group ≡ long_at 8 bytes → at_sacl ≡ long_at 12 bytes →
    at_dacl ≡ long_at 16 bytes → owner ≡ sid_part (codes "O:") at_owner bytes → group ≡ sid_part (codes "G:") at_group bytes →
    dacl ≡ dacl_part control at_dacl bytes → sacl ≡ sacl_part control at_sacl bytes → sids ≡ joined owner group → acls ≡ joined dacl sacl →
    joined sids acls ≡ sddl_of bytes
unfolding sddl_of
descriptor-told bytes control at_owner at_group at_sacl at_dacl owner group dacl sacl sids acls is c o g s d eo eg ed es one two =
    let owner_is = eo ∙ ap (λ (n : ℕ). sid_part (codes "O:") n bytes) o in
    let group_is = eg ∙ ap (λ (n : ℕ). sid_part (codes "G:") n bytes) g in
    let dacl_is = ed ∙ (ap (λ (n : ℕ). dacl_part n at_dacl bytes) c ∙ ap (λ (n : ℕ). dacl_part (short_at 2 bytes) n bytes) d) in
    let sacl_is = es ∙ (ap (λ (n : ℕ). sacl_part n at_sacl bytes) c ∙ ap (λ (n : ℕ). sacl_part (short_at 2 bytes) n bytes) s) in
    let sids_is = one ∙ (ap (λ (x : Option (List ℕ)). joined x group) owner_is ∙ ap (joined (sid_part (codes "O:") (long_at 4 bytes) bytes)) group_is) in
    let acls_is = two ∙ (ap (λ (x : Option (List ℕ)). joined x sacl) dacl_is ∙ ap (joined (dacl_part (short_at 2 bytes) (long_at 16 bytes) bytes)) sacl_is) in
    ap (λ (x : Option (List ℕ)). joined x acls) sids_is
    ∙ (ap (joined (joined (sid_part (codes "O:") (long_at 4 bytes) bytes) (sid_part (codes "G:") (long_at 8 bytes) bytes))) acls_is
    ∙ sym (ap (λ (b : Bool). if b then joined (joined (sid_part (codes "O:") (long_at 4 bytes) bytes) (sid_part (codes "G:") (long_at 8 bytes) bytes))
    (joined (dacl_part (short_at 2 bytes) (long_at 16 bytes) bytes) (sacl_part (short_at 2 bytes) (long_at 12 bytes) bytes)) else None) (sym is)))
