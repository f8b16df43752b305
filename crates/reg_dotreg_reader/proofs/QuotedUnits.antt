-- Quoted texts, names and units as bytes, read one unit after another.
use Rattle.std.proofs.Common.{◌≡◌, ◌≢◌, ℕ, ◌+◌, ◌/◌, ◌%◌, ◌<◌, ◌≤◌, ◌==◌, Bool, true, false, cond, List, [], ◌∷◌, ◌++◌}
use Rattle.std.proofs.Common.{length, get_or, take, drop, Option, Some, None, refl, sym, ap, ◌∙◌, arith, add-one, drop-cons, append_assoc}
use Rattle.std.proofs.Common.{append-nil}
use Rattle.std.specs.Prelude.{option_map, codes}
use Rattle.std.specs.List.{list_all}
use Rattle.std.proofs.lemmas.Bool.Decides.{nat_tests}
use Rattle.std.proofs.lemmas.List.{drop_all, take_all, take_more}
use Rattle.std.proofs.lemmas.List.Folds.{list_all_at}
use Rattle.reg_dotreg_reader.specs.EntryWords.{is_escaped, behind_word, with_unit, quoted_from, quoted, unit_bytes, is_plain, plain_bytes}

-- what is read where a quoted text ends here
abbrev pub closed : List ℕ → Option (List ℕ × List ℕ)
closed text = option_map (λ rest. ([], rest)) (behind_word (codes "\"") text)

-- ---- a unit of a quoted text

pub stops_empty : (text : List ℕ) → length text ≡ 0 → quoted text ≡ closed text
unfolding quoted quoted_from behind_word
stops_empty [] e = refl
stops_empty (u ∷ us) e = absurd (omega (arith, e))

pub stops_quote : (text rest : List ℕ) (u : ℕ) → text ≡ u ∷ rest → u ≡ 34 → quoted text ≡ closed text
unfolding quoted quoted_from behind_word
stops_quote text rest u e is =
    let here : text ≡ 34 ∷ rest = e ∙ ap (λ (w : ℕ). w ∷ rest) is in
    rw here refl

pub stops_backslash : (text rest : List ℕ) (u : ℕ) → text ≡ u ∷ rest → u ≡ 92 → length rest ≡ 0 → quoted text ≡ closed text
unfolding quoted quoted_from behind_word
stops_backslash text [] u e is none =
    let here : text ≡ 92 ∷ [] = e ∙ ap (λ (w : ℕ). w ∷ []) is in
    rw here refl
stops_backslash text (v ∷ rest) u e is none = absurd (omega (arith, none))

stops_other : (v : ℕ) (rest : List ℕ) → is_escaped v ≡ false → quoted (92 ∷ v ∷ rest) ≡ closed (92 ∷ v ∷ rest)
unfolding quoted quoted_from behind_word
stops_other v rest not = ap (λ (b : Bool). cond b (with_unit v (quoted_from false rest)) None) not

goes_escaped : (v : ℕ) (rest : List ℕ) → is_escaped v ≡ true → quoted (92 ∷ v ∷ rest) ≡ with_unit v (quoted rest)
unfolding quoted quoted_from
goes_escaped v rest is = ap (λ (b : Bool). cond b (with_unit v (quoted_from false rest)) None) is

pub stops_escape : (text rest others : List ℕ) (u v : ℕ) → text ≡ u ∷ rest → u ≡ 92 → rest ≡ v ∷ others → is_escaped v ≡ false →
    quoted text ≡ closed text
stops_escape text rest others u v e is behind not =
    let here : text ≡ 92 ∷ v ∷ others = e ∙ (ap (λ (w : ℕ). w ∷ rest) is ∙ ap (λ (w : List ℕ). 92 ∷ w) behind) in
    rw here (stops_other v others not)

pub next_escape : (text rest others : List ℕ) (u v : ℕ) → text ≡ u ∷ rest → u ≡ 92 → rest ≡ v ∷ others → is_escaped v ≡ true →
    (quoted text ≡ with_unit v (quoted others)) × (length others < length text)
next_escape text rest others u v e is behind one =
    let here : text ≡ 92 ∷ v ∷ others = e ∙ (ap (λ (w : ℕ). w ∷ rest) is ∙ ap (λ (w : List ℕ). 92 ∷ w) behind) in
    rw here (goes_escaped v others one, omega arith)

plain_by : (u : ℕ) (rest : List ℕ) (quote backslash : Bool) → quote ≡ false → backslash ≡ false →
    cond quote (Some ([], rest)) (cond backslash (quoted_from backslash rest) (with_unit u (quoted_from backslash rest)))
    ≡ with_unit u (quoted_from false rest)
plain_by u rest true backslash a b = absurd cc
plain_by u rest false true a b = absurd cc
plain_by u rest false false a b = refl

goes_plain : (u : ℕ) (rest : List ℕ) → u ≢ 34 → u ≢ 92 → quoted (u ∷ rest) ≡ with_unit u (quoted rest)
unfolding quoted quoted_from
goes_plain u rest quote backslash =
    plain_by u rest (u == 34) (u == 92) (grind (arith, nat_tests, quote)) (grind (arith, nat_tests, backslash))

pub next_plain : (text rest : List ℕ) (u : ℕ) → text ≡ u ∷ rest → u ≢ 34 → u ≢ 92 →
    (quoted text ≡ with_unit u (quoted rest)) × (length rest < length text)
next_plain text rest u e quote backslash = rw e (goes_plain u rest quote backslash, omega arith)

pub ruleset stops = (stops_empty, stops_quote, stops_backslash, stops_escape, next_escape, next_plain)

-- ---- a quoted text

-- the units so far, before those of what is left
abbrev pub with_units : List ℕ → Option (List ℕ × List ℕ) → Option (List ℕ × List ℕ)
with_units units read = option_map (λ p. (units ++ p.0, p.1)) read

pub units_start : (read : Option (List ℕ × List ℕ)) (empty : List ℕ) → empty ≡ [] → read ≡ with_units empty read
units_start None empty e = refl
units_start (Some read) empty e = ap (λ (w : List ℕ). Some (w ++ read.0, read.1)) (sym e)

one_more : (units : List ℕ) (unit : ℕ) (read : Option (List ℕ × List ℕ)) → with_units units (with_unit unit read) ≡ with_units (units ++ unit ∷ []) read
one_more units unit None = refl
one_more units unit (Some read) = ap (λ (w : List ℕ). Some (w, read.1)) (sym (append_assoc units (unit ∷ []) read.0))

pub units_more : (found : Option (List ℕ × List ℕ)) (units more rest others : List ℕ) (unit : ℕ) → found ≡ with_units units (quoted rest) →
    quoted rest ≡ with_unit unit (quoted others) → more ≡ units ++ unit ∷ [] → found ≡ with_units more (quoted others)
units_more found units more rest others unit so_far next new =
    so_far ∙ (ap (λ (o : Option (List ℕ × List ℕ)). with_units units o) next ∙ (one_more units unit (quoted others)
    ∙ ap (λ (w : List ℕ). with_units w (quoted others)) (sym new)))

pub units_end : (found : Option (List ℕ × List ℕ)) (units rest behind : List ℕ) → found ≡ with_units units (quoted rest) →
    quoted rest ≡ closed rest → behind_word (codes "\"") rest ≡ Some behind → found ≡ Some (units, behind)
units_end found units rest behind so_far stops is =
    so_far ∙ (ap (λ (o : Option (List ℕ × List ℕ)). with_units units o) stops
    ∙ (ap (λ (o : Option (List ℕ)). with_units units (option_map (λ rest. ([], rest)) o)) is ∙ ap (λ (w : List ℕ). Some (w, behind)) (append-nil units)))

pub units_open : (found : Option (List ℕ × List ℕ)) (units rest : List ℕ) → found ≡ with_units units (quoted rest) →
    quoted rest ≡ closed rest → behind_word (codes "\"") rest ≡ None → found ≡ None
units_open found units rest so_far stops is =
    so_far ∙ (ap (λ (o : Option (List ℕ × List ℕ)). with_units units o) stops
    ∙ ap (λ (o : Option (List ℕ)). with_units units (option_map (λ rest. ([], rest)) o)) is)

-- ---- names

pub name_more : (units bytes more : List ℕ) (i : ℕ) → bytes ≡ take i units → i < length units → more ≡ bytes ++ get_or units i 0 ∷ [] →
    more ≡ take (i + 1) units
name_more units bytes more i so_far below new =
    new ∙ (ap (λ (w : List ℕ). w ++ get_or units i 0 ∷ []) so_far ∙ sym (take_more units i 0 below))

pub good_more : (p : ℕ → Bool) (units : List ℕ) (i : ℕ) → list_all p units ≡ list_all p (drop i units) → i < length units →
    p (get_or units i 0) ≡ true → list_all p units ≡ list_all p (drop (i + 1) units)
good_more p units i so_far below good =
    so_far ∙ rw (add-one, drop-cons units i 0, good) refl

pub name_bad : (p : ℕ → Bool) (units : List ℕ) (i : ℕ) → i < length units → p (get_or units i 0) ≡ false →
    cond (list_all p units) (Some units) None ≡ None
name_bad p units i below bad = ap (λ (b : Bool). cond b (Some units) None) (list_all_at p units i 0 below bad)

pub name_end : (p : ℕ → Bool) (units bytes : List ℕ) (i : ℕ) → bytes ≡ take i units → list_all p units ≡ list_all p (drop i units) →
    length units ≤ i → cond (list_all p units) (Some units) None ≡ Some bytes
name_end p units bytes i so_far good past =
    let all : list_all p units ≡ true = good ∙ ap (list_all p) (drop_all i units past) in
    ap (λ (b : Bool). cond b (Some units) None) all ∙ ap (λ (w : List ℕ). Some w) (sym (so_far ∙ take_all i units past))

-- ---- units as bytes

pub bytes_more : (units bytes low high : List ℕ) (i u : ℕ) → bytes ++ unit_bytes (drop i units ++ 0 ∷ []) ≡ unit_bytes (units ++ 0 ∷ []) →
    i < length units → u ≡ get_or units i 0 → low ≡ bytes ++ u % 256 ∷ [] → high ≡ low ++ u / 256 ∷ [] →
    high ++ unit_bytes (drop (i + 1) units ++ 0 ∷ []) ≡ unit_bytes (units ++ 0 ∷ [])
unfolding unit_bytes
bytes_more units bytes low high i u so_far below is first second =
    let rest : List ℕ = unit_bytes (drop (i + 1) units ++ 0 ∷ []) in
    let pieces : high ≡ (bytes ++ get_or units i 0 % 256 ∷ []) ++ get_or units i 0 / 256 ∷ [] =
    second ∙ (ap (λ (w : List ℕ). w ++ u / 256 ∷ []) first ∙ ap (λ (n : ℕ). (bytes ++ n % 256 ∷ []) ++ n / 256 ∷ []) is) in
    ap (λ (w : List ℕ). w ++ rest) pieces
    ∙ (append_assoc (bytes ++ get_or units i 0 % 256 ∷ []) (get_or units i 0 / 256 ∷ []) rest
    ∙ (append_assoc bytes (get_or units i 0 % 256 ∷ []) (get_or units i 0 / 256 ∷ rest)
    ∙ (ap (λ (w : List ℕ). bytes ++ unit_bytes (w ++ 0 ∷ [])) (here units i below) ∙ so_far)))
  where
    here : (units : List ℕ) (i : ℕ) → i < length units → get_or units i 0 ∷ drop (i + 1) units ≡ drop i units
    here units i below = rw (add-one, drop-cons units i 0) refl

pub bytes_end : (units bytes low high : List ℕ) (i : ℕ) → bytes ++ unit_bytes (drop i units ++ 0 ∷ []) ≡ unit_bytes (units ++ 0 ∷ []) →
    length units ≤ i → low ≡ bytes ++ 0 ∷ [] → high ≡ low ++ 0 ∷ [] → high ≡ unit_bytes (units ++ 0 ∷ [])
unfolding unit_bytes
bytes_end units bytes low high i so_far past first second =
    second ∙ (ap (λ (w : List ℕ). w ++ 0 ∷ []) first ∙ (append_assoc bytes (0 ∷ []) (0 ∷ [])
    ∙ (ap (λ (w : List ℕ). bytes ++ unit_bytes (w ++ 0 ∷ [])) (sym (drop_all i units past)) ∙ so_far)))

-- ---- characters of one byte

pub plain_more : (bytes units low high : List ℕ) (i b : ℕ) → units ++ unit_bytes (drop i bytes) ≡ unit_bytes bytes →
    i < length bytes → b ≡ get_or bytes i 0 → is_plain b ≡ true → low ≡ units ++ b ∷ [] → high ≡ low ++ 0 ∷ [] →
    high ++ unit_bytes (drop (i + 1) bytes) ≡ unit_bytes bytes
unfolding unit_bytes
plain_more bytes units low high i b so_far below is plain first second =
    let rest : List ℕ = unit_bytes (drop (i + 1) bytes) in
    let here : b ∷ 0 ∷ rest ≡ unit_bytes (drop i bytes) =
    ap (λ (n : ℕ). n ∷ 0 ∷ rest) (low_is b (small b plain)) ∙ (ap (λ (n : ℕ). b % 256 ∷ n ∷ rest) (high_is b (small b plain))
    ∙ (ap (λ (n : ℕ). n % 256 ∷ n / 256 ∷ rest) is ∙ one_left bytes i below)) in
    ap (λ (w : List ℕ). w ++ rest) (second ∙ ap (λ (w : List ℕ). w ++ 0 ∷ []) first)
    ∙ (append_assoc (units ++ b ∷ []) (0 ∷ []) rest ∙ (append_assoc units (b ∷ []) (0 ∷ rest)
    ∙ (ap (λ (w : List ℕ). units ++ w) here ∙ so_far)))
  where
    small : (b : ℕ) → is_plain b ≡ true → b ≤ 127
    small b e = grind (arith, nat_tests)

    low_is : (b : ℕ) → b ≤ 127 → b ≡ b % 256
    low_is b plain = omega arith

    high_is : (b : ℕ) → b ≤ 127 → 0 ≡ b / 256
    high_is b plain = omega arith

    one_left : (bytes : List ℕ) (i : ℕ) → i < length bytes →
        get_or bytes i 0 % 256 ∷ get_or bytes i 0 / 256 ∷ unit_bytes (drop (i + 1) bytes) ≡ unit_bytes (drop i bytes)
    one_left bytes i below = rw (add-one, drop-cons bytes i 0) refl

pub plain_not : (bytes : List ℕ) (i : ℕ) → i < length bytes → is_plain (get_or bytes i 0) ≡ false → plain_bytes bytes ≡ None
unfolding plain_bytes
plain_not bytes i below over = ap (λ (b : Bool). cond b (Some (unit_bytes bytes)) None) (list_all_at is_plain bytes i 0 below over)

pub plain_end : (bytes units : List ℕ) (i : ℕ) → units ++ unit_bytes (drop i bytes) ≡ unit_bytes bytes →
    list_all is_plain bytes ≡ list_all is_plain (drop i bytes) → length bytes ≤ i → plain_bytes bytes ≡ Some units
unfolding plain_bytes unit_bytes
plain_end bytes units i so_far good past =
    let nothing : drop i bytes ≡ [] = drop_all i bytes past in
    let all : list_all is_plain bytes ≡ true = good ∙ ap (list_all is_plain) nothing in
    ap (λ (b : Bool). cond b (Some (unit_bytes bytes)) None) all
    ∙ ap (λ (w : List ℕ). Some w) (sym so_far ∙ (ap (λ (w : List ℕ). units ++ unit_bytes w) nothing ∙ append-nil units))

pub ruleset texts = (units_start, units_more, units_end, units_open)

pub ruleset names = (name_more, good_more, name_bad, name_end)
