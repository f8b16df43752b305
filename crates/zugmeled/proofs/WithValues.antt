-- Keys told with their values, one behind the other.
use Rattle.std.proofs.Common.{◌≡◌, ℕ, ◌+◌, ◌-◌, ◌<◌, ◌≤◌, ◌⊎◌, inl, inr, ⊎_elim, List, [], ◌∷◌, ◌++◌, length, take, drop, map, get_or, set, slice_get, flat_map, Some, sym, ap, subst, ◌∙◌, arith, length-append, append_assoc, append-nil}
use Rattle.std.proofs.lemmas.List.{take_more, map_more, drop_more, drop-drop, set-append_right, length-map, length-take-le, take_all, take_at, drop_at, take-append-drop, map-append}
use Rattle.std.proofs.lemmas.Option.{get_or_from_slice_get}
use Rattle.std.proofs.lemmas.List.Concat.{flat_map-append}
use Rattle.std.proofs.lemmas.List.Folds.{length-flat_map-take}
use Rattle.reg_heap.specs.Paths.{Path, Tree, Member}
use Rattle.reg_heap.specs.Edits.{values_at}
use Rattle.zugmeled.specs.Lists.{value_bytes, value_row}
use Rattle.zugmeled.specs.WithValues.{bytes_with_values, values_of}
use Rattle.zugmeled.specs.Internal.ValuesBehind.{FitNotIn, HasNoPlace, IsPutAt}
use Rattle.zugmeled.specs.declared.lists.ZugValue.{ZugValue}
use Rattle.zugmeled.specs.declared.with_values.Told.{Told}
use Rattle.zugmeled.proofs.ValueRows.{no_value}

-- what one more item gives stands behind what those before it give
pub one-more : {A C : Type 0} (f : A → List C) (items : List A) (n : ℕ) (d x : A) → n < length items → get_or items n d ≡ x →
    flat_map f (take (n + 1) items) ≡ flat_map f (take n items) ++ f x
one-more f items n d x lt is =
    ap (flat_map f) (take_more items n d lt) ∙ flat_map-append f (take n items) (get_or items n d ∷ [])
    ∙ ap (λ y. flat_map f (take n items) ++ (f y ++ [])) is ∙ ap (λ l. flat_map f (take n items) ++ l) (append-nil (f x))

pub one-longer : {A C : Type 0} (f : A → List C) (items : List A) (n : ℕ) (d x : A) → n < length items → get_or items n d ≡ x →
    length (flat_map f (take (n + 1) items)) ≡ length (flat_map f (take n items)) + length (f x)
one-longer f items n d x lt is = ap length (one-more f items n d x lt is) ∙ length-append (flat_map f (take n items)) (f x)

-- ---- pieces written over a list

module _ {A : Type 0} where
  -- nothing is written
  pub put-none : (at : ℕ) (old : List A) → IsPutAt at [] old old
  put-none at old =
      let n : at + 0 ≡ at = omega arith in
      sym (ap (λ (l : List A). l ++ drop (at + 0) old) (append-nil (take at old)) ∙ ap (λ (k : ℕ). take at old ++ drop k old) n ∙ take-append-drop at old)

  front-long : (at : ℕ) (a old : List A) → at ≤ length old → length (take at old ++ a) ≡ at + length a
  front-long at a old le = length-append (take at old) a ∙ ap (λ (n : ℕ). n + length a) (length-take-le at old le)

  -- a piece behind a piece is both
  pub put-behind : (at from : ℕ) (a b old mid new : List A) → at + length a ≤ length old → from ≡ at + length a → IsPutAt at a old mid → IsPutAt from b mid new →
      IsPutAt at (a ++ b) old new
  put-behind at from a b old mid new within is first then =
      let front = take at old ++ a in
      let long = front-long at a old (omega (arith, within)) in
      let here : take from mid ≡ front = ap (take from) first ∙ take_at front (drop (at + length a) old) from (long ∙ sym is) in
      let rest : drop (from + length b) mid ≡ drop (from + length b) old =
      sym (drop-drop (length b) from mid) ∙ ap (λ (l : List A). drop (length b) (drop from l)) first
      ∙ ap (drop (length b)) (drop_at front (drop (at + length a) old) from (long ∙ sym is) ∙ ap (λ (k : ℕ). drop k old) (sym is)) ∙ drop-drop (length b) from old in
      let end : from + length b ≡ at + length (a ++ b) = let both = length-append a b in omega (arith, both, is) in
      then ∙ ap (λ (l : List A). l ++ b ++ drop (from + length b) mid) here ∙ ap (λ (l : List A). front ++ b ++ l) rest
      ∙ ap (λ (k : ℕ). front ++ b ++ drop k old) end ∙ ap (λ (l : List A). l ++ drop (at + length (a ++ b)) old) (append_assoc (take at old) a b)

  -- one element is a piece
  pub put-one : (at : ℕ) (x : A) (old : List A) → at < length old → IsPutAt at (x ∷ []) old (set old at x)
  put-one at x old lt =
      let front = take at old in
      let long : length front ≡ at = length-take-le at old (omega (arith, lt)) in
      let first : at - at ≡ 0 = omega arith in
      ap (λ (l : List A). set l at x) (sym (take-append-drop at old)) ∙ set-append_right front (drop at old) at at x long (omega arith)
      ∙ ap (λ (l : List A). front ++ set l (at - at) x) (drop_more old at x lt)
      ∙ ap (λ (k : ℕ). front ++ set (get_or old at x ∷ drop (at + 1) old) k x) first
      ∙ sym (append_assoc front (x ∷ []) (drop (at + 1) old))

  -- behind a front that stands there already
  pub after-front : (at : ℕ) (f b old mid new : List A) → at ≡ length f → mid ≡ f ++ drop at old → IsPutAt at b mid new → new ≡ (f ++ b) ++ drop (at + length b) old
  after-front at f b old mid new is first then =
      let here : take at mid ≡ f = ap (take at) first ∙ take_at f (drop at old) at (sym is) in
      let rest : drop (at + length b) mid ≡ drop (at + length b) old =
      sym (drop-drop (length b) at mid) ∙ ap (λ (l : List A). drop (length b) (drop at l)) first
      ∙ ap (drop (length b)) (drop_at f (drop at old) at (sym is)) ∙ drop-drop (length b) at old in
      then ∙ ap (λ (l : List A). l ++ b ++ drop (at + length b) mid) here ∙ ap (λ (l : List A). f ++ b ++ l) rest

-- ---- the values of a key

module _ (t : Tree) where
  pub at-index : (values : List Member) (index : ℕ) (m : Member) → slice_get values index ≡ Some m → get_or values index no_value ≡ m
  at-index values index m is = get_or_from_slice_get values index m no_value is

  -- so many bytes are left behind one value more
  pub left-behind : (values : List Member) (index : ℕ) (m : Member) (left size after room : ℕ) → index < length values → get_or values index no_value ≡ m →
      size ≡ length (m.name ++ m.bytes) → left + length (flat_map (value_bytes t) (take index values)) ≡ room → after + size ≡ left →
      after + length (flat_map (value_bytes t) (take (index + 1) values)) ≡ room
  left-behind values index m left size after room lt is long sum less = omega (arith, one-longer (value_bytes t) values index no_value m lt is, sum, less, long)

  -- where one has no place, all of them have none
  pub none-left : (values : List Member) (index : ℕ) (m : Member) (left size room rows : ℕ) → index < length values → get_or values index no_value ≡ m →
      size ≡ length (m.name ++ m.bytes) → left + length (flat_map (value_bytes t) (take index values)) ≡ room → left < size →
      FitNotIn t values rows room
  none-left values index m left size room rows lt is long sum short =
      let most = length-flat_map-take (value_bytes t) values index no_value lt in
      let same : length (value_bytes t (get_or values index no_value)) ≡ size = ap (λ (v : Member). length (value_bytes t v)) is ∙ sym long in
      inr (omega (arith, most, same, sum, short))

  -- where all of them have place, the next one has it behind those before
  pub next-fits : (values : List Member) (index : ℕ) (m : Member) (size first used room : ℕ) → index < length values → get_or values index no_value ≡ m →
      size ≡ length (m.name ++ m.bytes) → used ≡ first + length (flat_map (value_bytes t) (take index values)) →
      length (flat_map (value_bytes t) values) ≤ room - first → first ≤ room → used + size ≤ room
  next-fits values index m size first used room lt is long sum fit start =
      let most = length-flat_map-take (value_bytes t) values index no_value lt in
      let same : length (value_bytes t (get_or values index no_value)) ≡ size = ap (λ (v : Member). length (value_bytes t v)) is ∙ sym long in
      omega (arith, most, same, sum, fit, start)

  pub all-fit : (values : List Member) (index left room : ℕ) → length values ≤ index → left + length (flat_map (value_bytes t) (take index values)) ≡ room →
      length (flat_map (value_bytes t) values) ≤ room
  all-fit values index left room all sum =
      omega (arith, ap (λ (vs : List Member). length (flat_map (value_bytes t) vs)) (take_all index values all), sum)

  -- one value more is told: its row behind the rows, and its bytes behind the bytes
  pub row-more : (values : List Member) (index : ℕ) (m : Member) (first count : ℕ) (row : ZugValue) (rows mid : List ZugValue) → index < length values →
      get_or values index no_value ≡ m → row ≡ value_row t m → count ≡ first + index → first + length values ≤ length rows → length mid ≡ length rows →
      IsPutAt first (map (value_row t) (take index values)) rows mid → IsPutAt first (map (value_row t) (take (index + 1) values)) rows (set mid count row)
  row-more values index m first count row rows mid lt is row-is count-is fit same put =
      let before = map (value_row t) (take index values) in
      let long : length before ≡ index = length-map (take index values) (value_row t) ∙ length-take-le index values (omega (arith, lt)) in
      let then = put-one count row mid (omega (arith, lt, count-is, fit, same)) in
      let both = put-behind first count before (row ∷ []) rows mid (set mid count row) (omega (arith, long, lt, fit)) (omega (arith, long, count-is)) put then in
      let piece : before ++ row ∷ [] ≡ map (value_row t) (take (index + 1) values) =
      ap (λ (y : ZugValue). before ++ y ∷ []) (row-is ∙ ap (value_row t) (sym is)) ∙ sym (map_more (value_row t) values index no_value lt) in
      subst (λ (l : List ZugValue). IsPutAt first l rows (set mid count row)) piece both

  pub bytes-more : (values : List Member) (index : ℕ) (m : Member) (first used : ℕ) (room mid new : List ℕ) → index < length values →
      get_or values index no_value ≡ m → used ≡ first + length (flat_map (value_bytes t) (take index values)) → used ≤ length room →
      IsPutAt first (flat_map (value_bytes t) (take index values)) room mid → IsPutAt used (value_bytes t m) mid new →
      IsPutAt first (flat_map (value_bytes t) (take (index + 1) values)) room new
  bytes-more values index m first used room mid new lt is used-is fit put then =
      let before = flat_map (value_bytes t) (take index values) in
      subst (λ (l : List ℕ). IsPutAt first l room new) (sym (one-more (value_bytes t) values index no_value m lt is))
      (put-behind first used before (value_bytes t m) room mid new (omega (arith, used-is, fit)) used-is put then)

  -- ---- the values of keys

  -- those of one key more are told behind the others'
  pub values-more : (keys : List Path) (n : ℕ) (child : Path) (count : ℕ) (values mid new : List ZugValue) → n < length keys → get_or keys n [] ≡ child →
      count ≡ length (values_of t (take n keys)) → mid ≡ map (value_row t) (values_of t (take n keys)) ++ drop (length (values_of t (take n keys))) values →
      IsPutAt count (map (value_row t) (values_at t child)) mid new →
      new ≡ map (value_row t) (values_of t (take (n + 1) keys)) ++ drop (length (values_of t (take (n + 1) keys))) values
  values-more keys n child count values mid new lt is count-is put then =
      let before = values_of t (take n keys) in
      let f = map (value_row t) before in
      let long : length f ≡ length before = length-map before (value_row t) in
      let front = after-front count f (map (value_row t) (values_at t child)) values mid new (count-is ∙ sym long)
      (put ∙ ap (λ (k : ℕ). f ++ drop k values) (sym count-is)) then in
      let all : f ++ map (value_row t) (values_at t child) ≡ map (value_row t) (values_of t (take (n + 1) keys)) =
      sym (map-append (value_row t) before (values_at t child)) ∙ ap (map (value_row t)) (sym (one-more (values_at t) keys n [] child lt is)) in
      let end : count + length (map (value_row t) (values_at t child)) ≡ length (values_of t (take (n + 1) keys)) =
      omega (arith, length-map (values_at t child) (value_row t), one-longer (values_at t) keys n [] child lt is, count-is) in
      front ∙ ap (λ (l : List ZugValue). l ++ drop (count + length (map (value_row t) (values_at t child))) values) all
      ∙ ap (λ (k : ℕ). map (value_row t) (values_of t (take (n + 1) keys)) ++ drop k values) end

  -- a key that has no place behind the others has none with them
  pub not-more : (keys : List Path) (n : ℕ) (child : Path) (told : Told) (values mid : List ZugValue) (room filled : List ℕ) → n < length keys → get_or keys n [] ≡ child →
      told.count ≡ length (values_of t (take n keys)) → told.used ≡ length (flat_map (bytes_with_values t) (take n keys)) →
      length mid ≡ length values → length filled ≡ length room → HasNoPlace t child told mid filled →
      (length values < length (values_of t (take (n + 1) keys))) ⊎ (length room < length (flat_map (bytes_with_values t) (take (n + 1) keys)))
  not-more keys n child told values mid room filled lt is count-is used-is same same-room none =
      let rows = one-longer (values_at t) keys n [] child lt is in
      let bytes = one-longer (bytes_with_values t) keys n [] child lt is in
      ⊎_elim (λ few. inl (omega (arith, few, rows, count-is, same))) (λ short. inr (omega (arith, short, bytes, used-is, same-room))) none
