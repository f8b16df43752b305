-- The rows of a value, without comments, and joined.
use Rattle.std.proofs.Common.{◌≡◌, ℕ, zero, suc, ◌+◌, ◌<◌, ◌≤◌, ◌==◌, ◌&&◌, Bool, true, false, cond, List, [], ◌∷◌, ◌++◌, length, take, drop}
use Rattle.std.proofs.Common.{get_or, Option, Some, None, refl, sym, ap, subst, ◌∙◌, arith, append_assoc, append-nil, add-one, drop-cons}
use Rattle.std.specs.Prelude.{option_map, Result, Ok, Err, IfOk}
use Rattle.std.specs.Option.{unwrap_or}
use Rattle.std.specs.List.{prefix_len}
use Rattle.std.proofs.lemmas.List.{drop_all, take_all, take_more}
use Rattle.reg_dotreg_reader.specs.declared.rows.Place.{Place}
use Rattle.reg_dotreg_reader.specs.declared.rows.Place.TheVariants.{Outside, Quoted}
use Rattle.reg_dotreg_reader.specs.EntryLines.{is_value_line, place_behind, is_outside, cut, kept, ending, without_return, is_comment, goes_on, carried, passed, joined}
use Rattle.reg_dotreg_reader.specs.EntryLines.{whole_of}

-- ---- comments behind rows

-- what was kept so far, and the place there
pub record IsCutSoFar (whole : List ℕ × Place) (row : List ℕ) (place : Place) (i : ℕ) : Type 0 where
  pub kept_is : whole.0 ≡ take i row ++ (cut place (drop i row)).0
  pub place_is : whole.1 ≡ (cut place (drop i row)).1

pub cut_start : (place : Place) (row : List ℕ) → IsCutSoFar (cut place row) row place 0
cut_start place row = record { kept_is = refl; place_is = refl }

cut_here : (place : Place) (row : List ℕ) (i : ℕ) → i < length row → cut place (drop i row) ≡
    cond (is_outside place && get_or row i 0 == 59) ([], place)
    (get_or row i 0 ∷ (cut (place_behind place (get_or row i 0)) (drop (i + 1) row)).0, (cut (place_behind place (get_or row i 0)) (drop (i + 1) row)).1)
unfolding cut
cut_here place row i below = rw (add-one, drop-cons row i 0) refl

cut_on : (place : Place) (row : List ℕ) (i : ℕ) → i < length row → (is_outside place && get_or row i 0 == 59) ≡ false →
    cut place (drop i row) ≡
    (get_or row i 0 ∷ (cut (place_behind place (get_or row i 0)) (drop (i + 1) row)).0, (cut (place_behind place (get_or row i 0)) (drop (i + 1) row)).1)
cut_on place row i below clear =
    cut_here place row i below ∙ ap (λ (b : Bool). cond b ([], place)
    (get_or row i 0 ∷ (cut (place_behind place (get_or row i 0)) (drop (i + 1) row)).0, (cut (place_behind place (get_or row i 0)) (drop (i + 1) row)).1)) clear

pub cut_more : (whole : List ℕ × Place) (row : List ℕ) (place next : Place) (i : ℕ) → IsCutSoFar whole row place i → i < length row →
    (is_outside place && get_or row i 0 == 59) ≡ false → next ≡ place_behind place (get_or row i 0) → IsCutSoFar whole row next (i + 1)
cut_more whole row place next i s below clear is =
    let here = cut_on place row i below clear in
    let unit : ℕ = get_or row i 0 in
    record {
      kept_is =
          s.kept_is ∙ (ap (λ (p : List ℕ × Place). take i row ++ p.0) here
          ∙ (sym (append_assoc (take i row) (unit ∷ []) (cut (place_behind place unit) (drop (i + 1) row)).0)
          ∙ (ap (λ (w : List ℕ). w ++ (cut (place_behind place unit) (drop (i + 1) row)).0) (sym (take_more row i 0 below))
          ∙ ap (λ (q : Place). take (i + 1) row ++ (cut q (drop (i + 1) row)).0) (sym is))));
      place_is = s.place_is ∙ (ap (λ (p : List ℕ × Place). p.1) here ∙ ap (λ (q : Place). (cut q (drop (i + 1) row)).1) (sym is));
    }

cut_stops : (place : Place) (row : List ℕ) (i : ℕ) → i < length row → (is_outside place && get_or row i 0 == 59) ≡ true →
    cut place (drop i row) ≡ ([], place)
cut_stops place row i below yes_so =
    cut_here place row i below ∙ ap (λ (b : Bool). cond b ([], place)
    (get_or row i 0 ∷ (cut (place_behind place (get_or row i 0)) (drop (i + 1) row)).0, (cut (place_behind place (get_or row i 0)) (drop (i + 1) row)).1)) yes_so

pub cut_at : (whole : List ℕ × Place) (row : List ℕ) (place : Place) (i : ℕ) → IsCutSoFar whole row place i → i < length row →
    (is_outside place && get_or row i 0 == 59) ≡ true → (take i row ≡ whole.0) × (place ≡ whole.1)
cut_at whole row place i s below yes_so =
    let here = cut_stops place row i below yes_so in (
      sym (s.kept_is ∙ (ap (λ (p : List ℕ × Place). take i row ++ p.0) here ∙ append-nil (take i row))),
      sym (s.place_is ∙ ap (λ (p : List ℕ × Place). p.1) here),
    )

pub cut_end : (whole : List ℕ × Place) (row : List ℕ) (place : Place) (i : ℕ) → IsCutSoFar whole row place i → length row ≤ i →
    (row ≡ whole.0) × (place ≡ whole.1)
unfolding cut
cut_end whole row place i s past =
    let nothing : drop i row ≡ [] = drop_all i row past in (
      sym (s.kept_is ∙ (ap (λ (w : List ℕ). take i row ++ (cut place w).0) nothing ∙ (append-nil (take i row) ∙ take_all i row past))),
      sym (s.place_is ∙ ap (λ (w : List ℕ). (cut place w).1) nothing),
    )

-- ---- lines of a comment alone

pub record IsPassedSoFar (lines : List (List ℕ)) (rest : List (List ℕ)) (count : ℕ) : Type 0 where
  pub count_is : prefix_len is_comment lines ≡ count + prefix_len is_comment rest
  pub rest_are : rest ≡ drop count lines

pub pass_start : (lines : List (List ℕ)) → IsPassedSoFar lines lines 0
pass_start lines = record { count_is = omega arith; rest_are = refl }

drop_next : (xs : List (List ℕ)) (n : ℕ) (x : List ℕ) (rest : List (List ℕ)) → x ∷ rest ≡ drop n xs → rest ≡ drop (n + 1) xs
drop_next [] zero x rest e = absurd cc
drop_next [] (suc n) x rest e = absurd cc
drop_next (y ∷ ys) zero x rest e = cc
drop_next (y ∷ ys) (suc n) x rest e =
    let same : suc n + 1 ≡ suc (n + 1) = omega arith in
    drop_next ys n x rest e ∙ ap (λ k. drop k (y ∷ ys)) (sym same)

pub pass_more : (lines rest others : List (List ℕ)) (line : List ℕ) (count : ℕ) → IsPassedSoFar lines rest count → rest ≡ line ∷ others →
    is_comment line ≡ true → IsPassedSoFar lines others (count + 1)
pass_more lines rest others line count s is one =
    let here : prefix_len is_comment rest ≡ 1 + prefix_len is_comment others =
    ap (prefix_len is_comment) is ∙ ap (λ (b : Bool). cond b (1 + prefix_len is_comment others) 0) one in
    record { count_is = let c = s.count_is in omega (arith, c, here); rest_are = drop_next lines count line others (sym is ∙ s.rest_are) }

pub pass_stops : (lines rest others : List (List ℕ)) (line : List ℕ) (count : ℕ) → IsPassedSoFar lines rest count → rest ≡ line ∷ others →
    is_comment line ≡ false → count ≡ prefix_len is_comment lines
pass_stops lines rest others line count s is clear =
    let here : prefix_len is_comment rest ≡ 0 =
    ap (prefix_len is_comment) is ∙ ap (λ (b : Bool). cond b (1 + prefix_len is_comment others) 0) clear in
    let c = s.count_is in
    omega (arith, c, here)

pub pass_end : (lines rest : List (List ℕ)) (count : ℕ) → IsPassedSoFar lines rest count → rest ≡ [] → count ≡ prefix_len is_comment lines
pass_end lines rest count s e =
    let here : prefix_len is_comment rest ≡ 0 = ap (prefix_len is_comment) e in
    let c = s.count_is in
    omega (arith, c, here)

-- ---- rows that go on

-- what is carried of a row, by what stands before its comment
abbrev carried_by : (outside : Bool) (row : List ℕ) → Option (List ℕ) → Option (List ℕ × Place)
carried_by outside row front = cond outside (option_map (λ f. (f, Outside)) front) (Some (row, Quoted))

pub carries_some : (place end : Place) (row left front : List ℕ) → end ≡ ending place row → left ≡ kept place row → is_outside end ≡ true →
    goes_on left ≡ Some front → carried place row ≡ Some (front, Outside)
unfolding carried
carries_some place end row left front at is outside e =
    ap (λ (b : Bool). carried_by b row (goes_on (kept place row))) (ap is_outside (sym at) ∙ outside)
    ∙ ap (carried_by true row) (ap goes_on (sym is) ∙ e)

pub carries_not : (place end : Place) (row left : List ℕ) → end ≡ ending place row → left ≡ kept place row → is_outside end ≡ true →
    goes_on left ≡ None → carried place row ≡ None
unfolding carried
carries_not place end row left at is outside e =
    ap (λ (b : Bool). carried_by b row (goes_on (kept place row))) (ap is_outside (sym at) ∙ outside)
    ∙ ap (carried_by true row) (ap goes_on (sym is) ∙ e)

pub carries_quoted : (place end : Place) (row : List ℕ) → end ≡ ending place row → is_outside end ≡ false →
    carried place row ≡ Some (row, Quoted)
unfolding carried
carries_quoted place end row at outside =
    ap (λ (b : Bool). carried_by b row (goes_on (kept place row))) (ap is_outside (sym at) ∙ outside)

-- what a row is with those behind it, where it says so much itself
abbrev joined_by : Option (List ℕ × Place) → (alone over : List ℕ × ℕ) → (List ℕ × Place → Bool) → (List ℕ × Place → List ℕ × ℕ) → List ℕ × ℕ
joined_by o alone over passes next = unwrap_or (option_map (λ (part : List ℕ × Place). cond (passes part) over (next part)) o) alone

joined_step : (place : Place) (row next : List ℕ) (lines : List (List ℕ)) → joined place row (next ∷ lines) ≡
    joined_by (carried place row) (kept place row, 0) ((joined place row lines).0, suc (joined place row lines).1)
    (λ part. is_outside part.1 && is_comment next) (λ part. (part.0 ++ 10 ∷ (joined part.1 next lines).0, suc (joined part.1 next lines).1))
unfolding joined
joined_step place row next lines = refl

pub joined_not : (place : Place) (row : List ℕ) (next : List (List ℕ)) → carried place row ≡ None → joined place row next ≡ (kept place row, 0)
unfolding joined
joined_not place row [] e = refl
joined_not place row (next ∷ lines) e =
    ap (λ (o : Option (List ℕ × Place)). joined_by o (kept place row, 0) ((joined place row lines).0, suc (joined place row lines).1)
    (λ part. is_outside part.1 && is_comment next) (λ part. (part.0 ++ 10 ∷ (joined part.1 next lines).0, suc (joined part.1 next lines).1))) e

joined_part : (place then : Place) (row front next : List ℕ) (lines : List (List ℕ)) → carried place row ≡ Some (front, then) →
    joined place row (next ∷ lines) ≡ cond (is_outside then && is_comment next) ((joined place row lines).0, suc (joined place row lines).1)
    (front ++ 10 ∷ (joined then next lines).0, suc (joined then next lines).1)
joined_part place then row front next lines e =
    joined_step place row next lines
    ∙ ap (λ (o : Option (List ℕ × Place)). joined_by o (kept place row, 0) ((joined place row lines).0, suc (joined place row lines).1)
    (λ part. is_outside part.1 && is_comment next) (λ part. (part.0 ++ 10 ∷ (joined part.1 next lines).0, suc (joined part.1 next lines).1))) e

pub joined_some : (place then : Place) (row front next : List ℕ) (lines : List (List ℕ)) → carried place row ≡ Some (front, then) →
    (is_outside then && is_comment next) ≡ false →
    joined place row (next ∷ lines) ≡ (front ++ 10 ∷ (joined then next lines).0, suc (joined then next lines).1)
joined_some place then row front next lines e clear =
    joined_part place then row front next lines e
    ∙ ap (λ (b : Bool). cond b ((joined place row lines).0, suc (joined place row lines).1)
    (front ++ 10 ∷ (joined then next lines).0, suc (joined then next lines).1)) clear

-- so many lines are passed over
pub record IsPassed (place : Place) (row : List ℕ) (lines : List (List ℕ)) (count : ℕ) : Type 0 where
  pub units_are : (joined place row lines).0 ≡ (joined place row (drop count lines)).0
  pub count_is : (joined place row lines).1 ≡ count + (joined place row (drop count lines)).1

passed_none : (place : Place) (row : List ℕ) (lines : List (List ℕ)) → IsPassed place row lines 0
passed_none place row lines = record { units_are = refl; count_is = omega arith }

passed_one : (place then : Place) (row front next : List ℕ) (lines : List (List ℕ)) (count : ℕ) → carried place row ≡ Some (front, then) →
    is_outside then ≡ true → is_comment next ≡ true → IsPassed place row lines count → IsPassed place row (next ∷ lines) (1 + count)
passed_one place then row front next lines count e o c p =
    let both : (is_outside then && is_comment next) ≡ true = ap (λ (b : Bool). b && is_comment next) o ∙ c in
    let here : joined place row (next ∷ lines) ≡ ((joined place row lines).0, suc (joined place row lines).1) =
    joined_part place then row front next lines e
    ∙ ap (λ (b : Bool). cond b ((joined place row lines).0, suc (joined place row lines).1)
    (front ++ 10 ∷ (joined then next lines).0, suc (joined then next lines).1)) both in
    let one : suc count ≡ 1 + count = omega arith in
    let units : (joined place row (next ∷ lines)).0 ≡ (joined place row (drop (suc count) (next ∷ lines))).0 =
    ap (λ (w : List ℕ × ℕ). w.0) here ∙ p.units_are in
    let number : (joined place row (next ∷ lines)).1 ≡ suc count + (joined place row (drop (suc count) (next ∷ lines))).1 =
    ap (λ (w : List ℕ × ℕ). w.1) here ∙ (ap suc p.count_is ∙ more count (joined place row (drop count lines)).1) in
    subst (IsPassed place row (next ∷ lines)) one (record { units_are = units; count_is = number })
  where
    more : (a b : ℕ) → suc (a + b) ≡ suc a + b
    more a b = omega arith

passed_comments : (place then : Place) (row front : List ℕ) (lines : List (List ℕ)) → carried place row ≡ Some (front, then) →
    is_outside then ≡ true → IsPassed place row lines (prefix_len is_comment lines)
passed_comments place then row front [] e o = passed_none place row []
passed_comments place then row front (next ∷ lines) e o = by (is_comment next) refl (passed_comments place then row front lines e o)
  where
    by : (b : Bool) → is_comment next ≡ b → IsPassed place row lines (prefix_len is_comment lines) →
        IsPassed place row (next ∷ lines) (cond b (1 + prefix_len is_comment lines) 0)
    by true c p = passed_one place then row front next lines (prefix_len is_comment lines) e o c p
    by false c p = passed_none place row (next ∷ lines)

pub passed_by : (place then : Place) (row front : List ℕ) (lines : List (List ℕ)) (count : ℕ) → carried place row ≡ Some (front, then) →
    count ≡ passed then lines → IsPassed place row lines count
passed_by place then row front lines count e is =
    subst (IsPassed place row lines) (sym is) (by (is_outside then) refl)
  where
    by : (b : Bool) → is_outside then ≡ b → IsPassed place row lines (cond b (prefix_len is_comment lines) 0)
    by true o = passed_comments place then row front lines e o
    by false o = passed_none place row lines

-- behind them no such line stands
behind_comments : (lines others : List (List ℕ)) (next : List ℕ) → drop (prefix_len is_comment lines) lines ≡ next ∷ others →
    is_comment next ≡ false
behind_comments [] others next e = absurd cc
behind_comments (line ∷ lines) others next e = by (is_comment line) refl e (behind_comments lines others next)
  where
    by : (b : Bool) → is_comment line ≡ b → drop (cond b (1 + prefix_len is_comment lines) 0) (line ∷ lines) ≡ next ∷ others →
        (drop (prefix_len is_comment lines) lines ≡ next ∷ others → is_comment next ≡ false) → is_comment next ≡ false
    by true c d later =
        let one : 1 + prefix_len is_comment lines ≡ suc (prefix_len is_comment lines) = omega arith in
        later (ap (λ (n : ℕ). drop n (line ∷ lines)) (sym one) ∙ d)
    by false c d later = let same : line ≡ next = cc in ap is_comment (sym same) ∙ c

pub behind_passed : (then : Place) (lines others : List (List ℕ)) (next : List ℕ) (count : ℕ) → count ≡ passed then lines →
    drop count lines ≡ next ∷ others → (is_outside then && is_comment next) ≡ false
behind_passed then lines others next count is d = by (is_outside then) (ap (λ (n : ℕ). drop n lines) (sym is) ∙ d)
  where
    by : (b : Bool) → drop (cond b (prefix_len is_comment lines) 0) lines ≡ next ∷ others → (b && is_comment next) ≡ false
    by true e = behind_comments lines others next e
    by false e = refl

-- ---- rows, joined

-- what was joined so far, and what the last row goes on with
pub record IsJoinedSoFar (whole : List ℕ × ℕ) (behind : List (List ℕ)) (units : List ℕ) (place : Place) (row : List ℕ) (rest : List (List ℕ))
    (taken : ℕ) : Type 0 where
  pub units_are : whole.0 ≡ units ++ (joined place row rest).0
  pub count_is : whole.1 ≡ taken + (joined place row rest).1
  pub rest_are : rest ≡ drop taken behind

pub join_start : (place : Place) (row : List ℕ) (behind : List (List ℕ)) (empty : List ℕ) → empty ≡ [] →
    IsJoinedSoFar (joined place row behind) behind empty place row behind 0
join_start place row behind empty e = record {
  units_are = ap (λ (w : List ℕ). w ++ (joined place row behind).0) (sym e);
  count_is = omega arith;
  rest_are = refl;
}

drop_none : (n : ℕ) → drop {A = List ℕ} n [] ≡ []
drop_none zero = refl
drop_none (suc n) = refl

drop_both : (m n : ℕ) (xs : List (List ℕ)) → drop n (drop m xs) ≡ drop (m + n) xs
drop_both zero n xs = let same : n ≡ zero + n = omega arith in ap (λ (k : ℕ). drop k xs) same
drop_both (suc m) n [] = drop_none n ∙ sym (drop_none (suc m + n))
drop_both (suc m) n (x ∷ xs) =
    let same : suc (m + n) ≡ suc m + n = omega arith in
    drop_both m n xs ∙ ap (λ (k : ℕ). drop k (x ∷ xs)) same

-- lines were passed over
pub join_pass : (whole : List ℕ × ℕ) (behind : List (List ℕ)) (units : List ℕ) (place then : Place) (row front : List ℕ)
    (rest others : List (List ℕ)) (taken count more : ℕ) → IsJoinedSoFar whole behind units place row rest taken →
    carried place row ≡ Some (front, then) → count ≡ passed then rest → others ≡ drop count rest → more ≡ taken + count →
    IsJoinedSoFar whole behind units place row others more
join_pass whole behind units place then row front rest others taken count more s e is left sum =
    let p = passed_by place then row front rest count e is in
    record {
      units_are =
          s.units_are ∙ (ap (λ (w : List ℕ). units ++ w) p.units_are
          ∙ ap (λ (w : List (List ℕ)). units ++ (joined place row w).0) (sym left));
      count_is = number p.count_is (ap (λ (w : List (List ℕ)). (joined place row w).1) (sym left));
      rest_are =
          left ∙ (ap (drop count) s.rest_are ∙ (drop_both taken count behind ∙ ap (λ (k : ℕ). drop k behind) (sym sum)));
    }
  where
    number : (joined place row rest).1 ≡ count + (joined place row (drop count rest)).1 →
        (joined place row (drop count rest)).1 ≡ (joined place row others).1 → whole.1 ≡ more + (joined place row others).1
    number a b = let c = s.count_is in omega (arith, a, b, c, sum)

-- a row more
pub join_more : (whole : List ℕ × ℕ) (behind : List (List ℕ)) (units with_front more : List ℕ) (place then : Place) (row front next : List ℕ)
    (rest left others : List (List ℕ)) (taken count all : ℕ) → IsJoinedSoFar whole behind units place row rest taken →
    carried place row ≡ Some (front, then) → count ≡ passed then rest → left ≡ drop count rest → left ≡ next ∷ others →
    with_front ≡ units ++ front → more ≡ with_front ++ 10 ∷ [] → all ≡ taken + (count + 1) →
    IsJoinedSoFar whole behind more then next others all
join_more whole behind units with_front more place then row front next rest left others taken count all s e is passing here first second sum =
    let t = join_pass whole behind units place then row front rest left taken count (taken + count) s e is passing refl in
    let step : joined place row left ≡ (front ++ 10 ∷ (joined then next others).0, suc (joined then next others).1) =
    ap (joined place row) here ∙ joined_some place then row front next others e
    (behind_passed then rest others next count is (sym passing ∙ here)) in
    let text : more ≡ (units ++ front) ++ 10 ∷ [] = second ∙ ap (λ (w : List ℕ). w ++ 10 ∷ []) first in
    let number = ap (λ (p : List ℕ × ℕ). p.1) step in
    record {
      units_are =
          t.units_are ∙ (ap (λ (p : List ℕ × ℕ). units ++ p.0) step
          ∙ (sym (append_assoc units front (10 ∷ (joined then next others).0))
          ∙ (sym (append_assoc (units ++ front) (10 ∷ []) (joined then next others).0)
          ∙ ap (λ (w : List ℕ). w ++ (joined then next others).0) (sym text))));
      count_is = let c = t.count_is in omega (arith, c, number, sum);
      rest_are =
          let same : taken + count + 1 ≡ all = omega (arith, sum) in
          drop_next behind (taken + count) next others (sym here ∙ t.rest_are) ∙ ap (λ (k : ℕ). drop k behind) same;
    }

joined_last : (place : Place) (row : List ℕ) (lines : List (List ℕ)) → lines ≡ [] → joined place row lines ≡ (kept place row, 0)
unfolding joined
joined_last place row [] e = refl
joined_last place row (next ∷ lines) e = absurd cc

pub record IsJoined (whole : List ℕ × ℕ) (behind : List (List ℕ)) (units : List ℕ) (rest : List (List ℕ)) (taken : ℕ) : Type 0 where
  pub units_are : units ≡ whole.0
  pub taken_is : taken ≡ whole.1
  pub rest_are : rest ≡ drop taken behind

-- nothing more is joined
join_end : (whole : List ℕ × ℕ) (behind : List (List ℕ)) (units all : List ℕ) (place : Place) (row : List ℕ) (rest : List (List ℕ)) (taken : ℕ) →
    IsJoinedSoFar whole behind units place row rest taken → joined place row rest ≡ (kept place row, 0) → all ≡ units ++ kept place row →
    IsJoined whole behind all rest taken
join_end whole behind units all place row rest taken s end is =
    let number = ap (λ (p : List ℕ × ℕ). p.1) end in
    record {
      units_are = is ∙ sym (s.units_are ∙ ap (λ (p : List ℕ × ℕ). units ++ p.0) end);
      taken_is = let c = s.count_is in omega (arith, c, number);
      rest_are = s.rest_are;
    }

pub join_alone : (whole : List ℕ × ℕ) (behind : List (List ℕ)) (units all : List ℕ) (place : Place) (row : List ℕ) (rest : List (List ℕ)) (taken : ℕ) →
    IsJoinedSoFar whole behind units place row rest taken → carried place row ≡ None → all ≡ units ++ kept place row →
    IsJoined whole behind all rest taken
join_alone whole behind units all place row rest taken s e is =
    join_end whole behind units all place row rest taken s (joined_not place row rest e) is

pub join_last : (whole : List ℕ × ℕ) (behind : List (List ℕ)) (units all : List ℕ) (place : Place) (row : List ℕ) (rest : List (List ℕ)) (taken : ℕ) →
    IsJoinedSoFar whole behind units place row rest taken → rest ≡ [] → all ≡ units ++ kept place row → IsJoined whole behind all rest taken
join_last whole behind units all place row rest taken s e is =
    join_end whole behind units all place row rest taken s (joined_last place row rest e) is

-- what holds of a value that was made holds of what it is
pub if_made : {T E : Type 0} (r : Result T E) (P Q : T → Type 0) → ((v : T) → P v → Q v) → IfOk r P → IfOk r Q
if_made (Ok v) P Q f h = f v h
if_made (Err e) P Q f h = h

-- ---- whole lines

pub whole_joined : (line : List ℕ) (next : List (List ℕ)) → is_value_line line ≡ true → whole_of line next ≡ joined Outside line next
unfolding whole_of
whole_joined line next e = ap (λ (b : Bool). cond b (joined Outside line next) (without_return line, 0)) e

pub whole_other : (line : List ℕ) (next : List (List ℕ)) → is_value_line line ≡ false → whole_of line next ≡ (without_return line, 0)
unfolding whole_of
whole_other line next e = ap (λ (b : Bool). cond b (joined Outside line next) (without_return line, 0)) e

pub whole_ends : (line : List ℕ) (next : List (List ℕ)) → is_value_line line ≡ true → carried Outside line ≡ None →
    whole_of line next ≡ (kept Outside line, 0)
whole_ends line next e none = whole_joined line next e ∙ joined_not Outside line next none

pub ruleset cuts = (cut_start, cut_more, cut_at, cut_end)

pub ruleset comments = (pass_start, pass_more, pass_stops, pass_end)

pub ruleset carries = (carries_some, carries_not, carries_quoted)

pub ruleset wholes = (whole_joined, whole_other, whole_ends)
