-- The parts of units between their zeros, one after another.
use Rattle.std.proofs.Common.{◌≡◌, ◌≢◌, ℕ, ◌+◌, ◌-◌, ◌≤◌, ◌<◌, ◌==◌, Bool, true, false, List, [], ◌∷◌, ◌++◌, length, length-drop, take, drop, map}
use Rattle.std.proofs.Common.{Option, Some, None, String, Global, string_bytes, refl, sym, ap, ◌∙◌, arith, append-nil, append_assoc}
use Rattle.std.specs.Prelude.{if◌then◌else◌, cond, MatchOption, Vec}
use Rattle.std.specs.List.{onto_first, position_or_len}
use Rattle.std.specs.Option.{option_map, option_and_then}
use Rattle.std.proofs.lemmas.Bool.Decides.{nat_tests}
use Rattle.std.proofs.lemmas.List.{take_all, map-append}
use Rattle.std.proofs.lemmas.List.Splits.{slice_split_first}
use Rattle.reg_names.proofs.PathParts.{only}
use Rattle.serde_json.specs.Data.{Data, string, array}
use Rattle.serde_json.specs.View.{items_of}
use Rattle.reg_tree_text.specs.ValueTexts.{spelt, units_of}
use Rattle.reg_tables.specs.ValueForms.{parts_of, is_end, string_in, with_text, strings_in, texts_data, strings_form}
use Rattle.reg_tables.specs.Internal.Entries.{text_data}

pub one_part : (units : List ℕ) (place : ℕ) → place ≡ position_or_len (λ u. u == 0) units → place ≡ length units → parts_of units ≡ units ∷ []
one_part units place is all = only (λ u. u == 0) units (sym is ∙ all)

pub more_parts : (units : List ℕ) (place : ℕ) → place ≡ position_or_len (λ u. u == 0) units → place ≤ length units → place ≢ length units →
    parts_of units ≡ take place units ∷ parts_of (take (length units - (place + 1)) (drop (place + 1) units))
more_parts units place is within other =
    let inside : position_or_len (λ u. u == 0) units < length units = omega (arith, is, within, other) in
    let rest : take (length units - (place + 1)) (drop (place + 1) units) ≡ drop (place + 1) units =
    take_all (length units - (place + 1)) (drop (place + 1) units) (let l = length-drop {A = ℕ} (place + 1) units in omega (arith, l)) in
    slice_split_first (λ u. u == 0) units 0 inside
    ∙ (ap (λ (n : ℕ). take n units ∷ parts_of (drop (n + 1) units)) (sym is)
    ∙ ap (λ (x : List ℕ). take place units ∷ parts_of x) (sym rest))

-- ---- whether something is behind a zero

some_by : (b : Bool) (x : ℕ) (parts : List (List ℕ)) → ((p : List ℕ) × (ps : List (List ℕ)) × (parts ≡ p ∷ ps)) →
    (p : List ℕ) × (ps : List (List ℕ)) × (cond b ([] ∷ parts) (onto_first x parts) ≡ p ∷ ps)
some_by true x parts s = ([], parts, refl)
some_by false x parts s = (x ∷ s.0, s.1, ap (onto_first x) s.2)

some_parts : (units : List ℕ) → (p : List ℕ) × (ps : List (List ℕ)) × (parts_of units ≡ p ∷ ps)
some_parts [] = ([], [], refl)
some_parts (x ∷ units) = some_by (x == 0) x (parts_of units) (some_parts units)

single : (x : ℕ) (p : List ℕ) (ps : List (List ℕ)) → is_end ((x ∷ p) ∷ ps) ≡ false
single x p [] = grind (arith, nat_tests)
single x p (q ∷ ps) = refl

not_end_by : (b : Bool) (x : ℕ) (parts : List (List ℕ)) → ((p : List ℕ) × (ps : List (List ℕ)) × (parts ≡ p ∷ ps)) →
    is_end (cond b ([] ∷ parts) (onto_first x parts)) ≡ false
not_end_by true x parts s = ap (λ (y : List (List ℕ)). is_end ([] ∷ y)) s.2
not_end_by false x parts s = ap (λ (y : List (List ℕ)). is_end (onto_first x y)) s.2 ∙ single x s.0 s.1

pub is_end-none : (units : List ℕ) → length units ≡ 0 → is_end (parts_of units) ≡ true
is_end-none [] e = refl
is_end-none (x ∷ units) e = absurd (omega (arith, e))

pub is_end-some : (units : List ℕ) → 0 < length units → is_end (parts_of units) ≡ false
is_end-some [] l = absurd (omega (arith, l))
is_end-some (x ∷ units) l = not_end_by (x == 0) x (parts_of units) (some_parts units)

-- ---- a string

pub string-none : (units : List ℕ) → parts_of units ≡ units ∷ [] → None ≡ string_in (parts_of units)
string-none units e = sym (ap string_in e)

pub string-more : (units part behind : List ℕ) → parts_of units ≡ part ∷ parts_of behind → 0 < length behind → None ≡ string_in (parts_of units)
string-more units part behind e l =
    sym (ap string_in e ∙ ap (λ (b : Bool). if b then spelt part else None) (is_end-some behind l))

pub string-one : (units part behind : List ℕ) → parts_of units ≡ part ∷ parts_of behind → length behind ≡ 0 → spelt part ≡ string_in (parts_of units)
string-one units part behind e n =
    sym (ap string_in e ∙ ap (λ (b : Bool). if b then spelt part else None) (is_end-none behind n))

-- ---- several strings

abbrev pub texts_of : List (String Global) → List (List ℕ)
texts_of texts = map string_bytes texts

-- the texts so far, and those that are to come
abbrev pub AreTexts : (units rest : List ℕ) → List (String Global) → Type 0
AreTexts units rest texts = strings_in (parts_of units) ≡ option_map (λ more. texts_of texts ++ more) (strings_in (parts_of rest))

pub texts_start : (units : List ℕ) (texts : List (String Global)) → texts ≡ [] → AreTexts units units texts
texts_start units texts e = none_before (strings_in (parts_of units)) (texts_of texts) (ap texts_of e)
  where
    none_before : (found : Option (List (List ℕ))) (before : List (List ℕ)) → before ≡ [] → found ≡ option_map (λ more. before ++ more) found
    none_before None before e = refl
    none_before (Some found) before e = ap (λ (x : List (List ℕ)). Some (x ++ found)) (sym e)

nothing : (text : Option (List ℕ)) → with_text text None ≡ None
nothing None = refl
nothing (Some text) = refl

no_zero : (rest : List ℕ) (b : Bool) → (if b then None else with_text (spelt rest) None) ≡ None
no_zero rest true = refl
no_zero rest false = nothing (spelt rest)

pub texts-unended : (units rest : List ℕ) (texts : List (String Global)) → AreTexts units rest texts → parts_of rest ≡ rest ∷ [] → None ≡ strings_in (parts_of units)
texts-unended units rest texts so_far e =
    sym (so_far ∙ ap (option_map (λ more. texts_of texts ++ more)) (ap strings_in e ∙ no_zero rest (length rest == 0)))

module _ (units rest part behind : List ℕ) (texts : List (String Global)) (so_far : AreTexts units rest texts) (e : parts_of rest ≡ part ∷ parts_of behind) where
  by_part : (found : Option (List (List ℕ))) → strings_in (part ∷ parts_of behind) ≡ found → strings_in (parts_of units) ≡ option_map (λ more. texts_of texts ++ more) found
  by_part found is = so_far ∙ ap (option_map (λ more. texts_of texts ++ more)) (ap strings_in e ∙ is)

  abbrev either_way : Bool → Bool → Option (List (List ℕ))
  either_way empty end = if empty then (if end then Some [] else None) else with_text (spelt part) (strings_in (parts_of behind))

  pub texts-all : length part ≡ 0 → length behind ≡ 0 → Some (texts_of texts) ≡ strings_in (parts_of units)
  texts-all none end =
      let empty : (length part == 0) ≡ true = grind (arith, nat_tests, none) in
      sym (by_part (Some []) (ap (λ (b : Bool). either_way b (is_end (parts_of behind))) empty ∙ ap (either_way true) (is_end-none behind end))
      ∙ ap (λ (x : List (List ℕ)). Some x) (append-nil (texts_of texts)))

  pub texts-broken : length part ≡ 0 → 0 < length behind → None ≡ strings_in (parts_of units)
  texts-broken none more =
      let empty : (length part == 0) ≡ true = grind (arith, nat_tests, none) in
      sym (by_part None (ap (λ (b : Bool). either_way b (is_end (parts_of behind))) empty ∙ ap (either_way true) (is_end-some behind more)))

  spelt_first : 0 < length part → strings_in (part ∷ parts_of behind) ≡ with_text (spelt part) (strings_in (parts_of behind))
  spelt_first some =
      let full : (length part == 0) ≡ false = grind (arith, nat_tests, some) in
      ap (λ (b : Bool). either_way b (is_end (parts_of behind))) full

  pub texts-bad : 0 < length part → None ≡ spelt part → None ≡ strings_in (parts_of units)
  texts-bad some bad =
      sym (by_part None (spelt_first some ∙ ap (λ (x : Option (List ℕ)). with_text x (strings_in (parts_of behind))) (sym bad)))

  pub texts-more : (text : String Global) (new : List (String Global)) → 0 < length part → Some (string_bytes text) ≡ spelt part → new ≡ texts ++ text ∷ [] →
      AreTexts units behind new
  texts-more text new some is pushed =
      by_part _ (spelt_first some ∙ ap (λ (x : Option (List ℕ)). with_text x (strings_in (parts_of behind))) (sym is))
      ∙ (one_more (strings_in (parts_of behind)) (texts_of texts) (string_bytes text)
      ∙ ap (λ (x : List (List ℕ)). option_map (λ more. x ++ more) (strings_in (parts_of behind)))
      (sym (ap texts_of pushed ∙ map-append string_bytes texts (text ∷ []))))
    where
      one_more : (found : Option (List (List ℕ))) (before : List (List ℕ)) (text : List ℕ) →
          option_map (λ more. before ++ more) (option_map (λ others. text ∷ others) found) ≡ option_map (λ more. (before ++ text ∷ []) ++ more) found
      one_more None before text = refl
      one_more (Some found) before text = ap (λ (x : List (List ℕ)). Some x) (sym (append_assoc before (text ∷ []) found))

  -- an empty part ends them, where nothing is behind it
  pub texts-ended : (held : Vec (String Global) Global) → held.items ≡ texts → length part ≡ 0 → (r : Option (Vec (String Global) Global)) →
      MatchOption r (0 < length behind) (λ v. (v ≡ held) × (length behind ≡ 0)) →
      option_map (λ (v : Vec (String Global) Global). texts_of v.items) r ≡ strings_in (parts_of units)
  texts-ended held same none None m = texts-broken none m
  texts-ended held same none (Some v) m =
      ap (λ (w : Vec (String Global) Global). Some (texts_of w.items)) m.0 ∙ (ap (λ (x : List (String Global)). Some (texts_of x)) same ∙ texts-all none m.1)

-- ---- several strings in JSON

map_twice : (texts : List (String Global)) → map text_data texts ≡ map string (texts_of texts)
map_twice [] = refl
map_twice (t ∷ texts) = ap (λ (x : List Data). text_data t ∷ x) (map_twice texts)

pub strings-formed : (bytes units shown : List ℕ) (texts : List (String Global)) → Some units ≡ units_of bytes → shown ≡ units →
    Some (texts_of texts) ≡ strings_in (parts_of shown) → Some (array (items_of (map text_data texts))) ≡ strings_form bytes
strings-formed bytes units shown texts u s t =
    ap (λ (x : List Data). Some (array (items_of x))) (map_twice texts)
    ∙ (ap (option_map texts_data) (t ∙ ap (λ (x : List ℕ). strings_in (parts_of x)) s)
    ∙ ap (λ (x : Option (List ℕ)). option_map texts_data (option_and_then (λ units. strings_in (parts_of units)) x)) u)
