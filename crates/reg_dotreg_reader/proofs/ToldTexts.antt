-- Texts that are told of units.
use Rattle.std.proofs.Common.{◌≡◌, ℕ, ◌+◌, ◌-◌, ◌<◌, ◌≤◌, ◌&&◌, Bool, true, false, cond, List, [], ◌∷◌, ◌++◌, length, take, drop}
use Rattle.std.proofs.Common.{get_or, refl, sym, ap, ◌∙◌, arith}
use Rattle.std.specs.Prelude.{map, nat_lt}
use Rattle.std.specs.Str.{encode_utf8_all}
use Rattle.std.specs.Char.Utf16.{utf16_lossy_chars}
use Rattle.std.proofs.lemmas.Bool.Decides.{nat_tests}
use Rattle.std.proofs.lemmas.List.{take_all, take_more, map-append}
use Rattle.reg_text.proofs.AppendedBytes.{rest_is}
use Rattle.reg_dotreg_reader.specs.ToldLines.{plain_unit, shown, has_hives, first_end, second_end, hive_front}

pub plain_more : (items new units : List ℕ) (i u : ℕ) → items ≡ map plain_unit (take i units) → i < length units → u ≡ get_or units i 0 →
    new ≡ items ++ plain_unit u ∷ [] → new ≡ map plain_unit (take (i + 1) units)
plain_more items new units i u so_far below is pushed =
    pushed ∙ (ap (λ (w : List ℕ). w ++ plain_unit u ∷ []) so_far
    ∙ (ap (λ (k : ℕ). map plain_unit (take i units) ++ plain_unit k ∷ []) is
    ∙ (sym (map-append plain_unit (take i units) (get_or units i 0 ∷ [])) ∙ sym (ap (λ (w : List ℕ). map plain_unit w) (take_more units i 0 below)))))

pub plain_end : (items units : List ℕ) (i : ℕ) → items ≡ map plain_unit (take i units) → length units ≤ i → items ≡ map plain_unit units
plain_end items units i so_far past = so_far ∙ ap (λ (w : List ℕ). map plain_unit w) (take_all i units past)

pub ruleset plain = (plain_more, plain_end)

pub shown_is : (units plain text : List ℕ) → plain ≡ map plain_unit units → text ≡ encode_utf8_all (utf16_lossy_chars plain) → text ≡ shown units
unfolding shown
shown_is units plain text is e = e ∙ ap (λ (w : List ℕ). encode_utf8_all (utf16_lossy_chars w)) is

pub few_found : (found : List ℕ) → length found < 200 → found ≡ take 200 found
few_found found few = sym (take_all 200 found (omega (arith, few)))

abbrev front_by : Bool → Bool → List ℕ → List ℕ
front_by inside hives key = cond (inside && hives) (take (second_end key) key) (take (first_end key) key)

pub front_whole : (key : List ℕ) (end : ℕ) → end ≡ first_end key → length key ≤ end → take end key ≡ hive_front key
unfolding hive_front
front_whole key end is past =
    let outside : nat_lt (first_end key) (length key) ≡ false = grind (arith, nat_tests, is, past) in
    ap (λ (n : ℕ). take n key) is ∙ sym (ap (λ (b : Bool). front_by b (has_hives (take (first_end key) key)) key) outside)

front_not : (inside hives : Bool) (key : List ℕ) → hives ≡ false → front_by inside hives key ≡ take (first_end key) key
front_not true hives key e = ap (λ (b : Bool). cond b (take (second_end key) key) (take (first_end key) key)) e
front_not false hives key e = refl

pub front_one : (key : List ℕ) (end : ℕ) (hives : Bool) → end ≡ first_end key → hives ≡ has_hives (take end key) → hives ≡ false →
    take end key ≡ hive_front key
unfolding hive_front
front_one key end hives is test none =
    ap (λ (n : ℕ). take n key) is
    ∙ sym (front_not (nat_lt (first_end key) (length key)) (has_hives (take (first_end key) key)) key
    (ap (λ (n : ℕ). has_hives (take n key)) (sym is) ∙ (sym test ∙ none)))

front_both : (inside hives : Bool) (key : List ℕ) → inside ≡ true → hives ≡ true → front_by inside hives key ≡ take (second_end key) key
front_both inside hives key i h =
    ap (λ (b : Bool). front_by b hives key) i ∙ ap (λ (b : Bool). cond b (take (second_end key) key) (take (first_end key) key)) h

pub front_two : (key : List ℕ) (end second : ℕ) (hives : Bool) → end ≡ first_end key → end < length key → hives ≡ has_hives (take end key) →
    hives ≡ true → second ≡ first_end (take (length key - (end + 1)) (drop (end + 1) key)) → take (end + 1 + second) key ≡ hive_front key
unfolding hive_front
front_two key end second hives is inside test some next =
    let within : nat_lt (first_end key) (length key) ≡ true = grind (arith, nat_tests, is, inside) in
    let rest = next ∙ ap first_end (rest_is (end + 1) key) in
    ap (λ (n : ℕ). take (end + 1 + n) key) rest
    ∙ (ap (λ (n : ℕ). take (n + 1 + first_end (drop (n + 1) key)) key) is
    ∙ sym (front_both (nat_lt (first_end key) (length key)) (has_hives (take (first_end key) key)) key within
    (ap (λ (n : ℕ). has_hives (take n key)) (sym is) ∙ (sym test ∙ some))))

pub ruleset fronts = (front_whole, front_one, front_two)
