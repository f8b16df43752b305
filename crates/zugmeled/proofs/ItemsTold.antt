-- Items told by a row of each and by the bytes of each, one behind the other.
use Rattle.std.proofs.Common.{◌≡◌, ℕ, ◌+◌, ◌-◌, ◌<◌, ◌≤◌, List, [], ◌∷◌, ◌++◌, length, take, drop, map, get_or, set, flat_map, refl, sym, ap, subst, ◌∙◌, arith, length-append, length-drop, append_assoc, append-nil}
use Rattle.std.proofs.lemmas.List.{take_more, map_more, drop_more, drop-drop, set-append_right, length-map, length-take-le, take_all, take_at, drop_at}
use Rattle.std.proofs.lemmas.List.Concat.{flat_map-append}
use Rattle.zugmeled.specs.Lists.{AreTold, AreMost}

module _ {A B : Type 0} (row : A → B) (bytes : A → List ℕ) (items : List A) where
  pub none : (rows : List B) (room : List ℕ) → AreTold row bytes items 0 rows rows room room
  none rows room = record { there = omega arith; placed = omega arith; fits = omega arith; rows_are = refl; room_is = refl }

  pub bytes-more : (n : ℕ) (d x : A) → n < length items → get_or items n d ≡ x →
      flat_map bytes (take (n + 1) items) ≡ flat_map bytes (take n items) ++ bytes x
  bytes-more n d x lt is =
      ap (flat_map bytes) (take_more items n d lt) ∙ flat_map-append bytes (take n items) (get_or items n d ∷ [])
      ∙ ap (λ (y : A). flat_map bytes (take n items) ++ (bytes y ++ [])) is ∙ ap (λ (l : List ℕ). flat_map bytes (take n items) ++ l) (append-nil (bytes x))

  pub longer : (n : ℕ) (d x : A) (used : ℕ) → n < length items → get_or items n d ≡ x → used ≡ length (flat_map bytes (take n items)) →
      used + length (bytes x) ≡ length (flat_map bytes (take (n + 1) items))
  longer n d x used lt is long =
      ap (λ (m : ℕ). m + length (bytes x)) long ∙ sym (ap length (bytes-more n d x lt is) ∙ length-append (flat_map bytes (take n items)) (bytes x))

  rows-more : (n : ℕ) (d x : A) (rows rs : List B) → n < length items → n < length rows → get_or items n d ≡ x →
      rs ≡ map row (take n items) ++ drop n rows → set rs n (row x) ≡ map row (take (n + 1) items) ++ drop (n + 1) rows
  rows-more n d x rows rs lt place is before =
      let front = map row (take n items) in
      let long : length front ≡ n = length-map (take n items) row ∙ length-take-le n items (omega (arith, lt)) in
      let first : n - n ≡ 0 = omega arith in
      ap (λ (l : List B). set l n (row x)) before ∙ set-append_right front (drop n rows) n n (row x) long (omega arith)
      ∙ ap (λ (l : List B). front ++ set l (n - n) (row x)) (drop_more rows n (row x) place)
      ∙ ap (λ (k : ℕ). front ++ set (get_or rows n (row x) ∷ drop (n + 1) rows) k (row x)) first
      ∙ sym (append_assoc front (row x ∷ []) (drop (n + 1) rows))
      ∙ ap (λ (l : List B). l ++ drop (n + 1) rows) (sym (map_more row items n d lt ∙ ap (λ (y : A). front ++ row y ∷ []) is))

  -- the first row over the front of the rows
  pub first-row : (d x : A) (rows : List B) (y : B) → 0 < length items → 0 < length rows → get_or items 0 d ≡ x → y ≡ row x →
      set rows 0 y ≡ take (length rows) (map row (take 1 items)) ++ drop 1 rows
  first-row d x rows y there place is row-is =
      let one : length (map row (take 1 items)) ≡ 1 = length-map (take 1 items) row ∙ length-take-le 1 items (omega (arith, there)) in
      ap (set rows 0) row-is ∙ rows-more 0 d x rows rows there place is refl
      ∙ ap (λ (l : List B). l ++ drop 1 rows) (sym (take_all (length rows) (map row (take 1 items)) (omega (arith, one, place))))

  room-more : (n : ℕ) (d x : A) (room rm : List ℕ) (used : ℕ) → n < length items → get_or items n d ≡ x →
      used ≡ length (flat_map bytes (take n items)) → rm ≡ flat_map bytes (take n items) ++ drop (length (flat_map bytes (take n items))) room →
      take used rm ++ bytes x ++ drop (used + length (bytes x)) rm
      ≡ flat_map bytes (take (n + 1) items) ++ drop (length (flat_map bytes (take (n + 1) items))) room
  room-more n d x room rm used lt is long before =
      let front = flat_map bytes (take n items) in
      let more = length (bytes x) in
      let first : take used rm ≡ front = ap (take used) before ∙ take_at front (drop (length front) room) used (sym long) in
      let rest : drop (used + more) rm ≡ drop (used + more) room =
      sym (drop-drop more used rm) ∙ ap (λ (l : List ℕ). drop more (drop used l)) before
      ∙ ap (drop more) (drop_at front (drop (length front) room) used (sym long) ∙ ap (λ (k : ℕ). drop k room) (sym long)) ∙ drop-drop more used room in
      ap (λ (l : List ℕ). l ++ bytes x ++ drop (used + more) rm) first ∙ ap (λ (l : List ℕ). front ++ bytes x ++ l) rest
      ∙ ap (λ (l : List ℕ). l ++ drop (used + more) room) (sym (bytes-more n d x lt is))
      ∙ ap (λ (k : ℕ). flat_map bytes (take (n + 1) items) ++ drop k room) (longer n d x used lt is long)

  pub more : (n : ℕ) (d x : A) (rows rs : List B) (room rm : List ℕ) (used : ℕ) → AreTold row bytes items n rows rs room rm →
      used ≡ length (flat_map bytes (take n items)) → n < length items → n < length rows → get_or items n d ≡ x →
      used + length (bytes x) ≤ length room →
      AreTold row bytes items (n + 1) rows (set rs n (row x)) room (take used rm ++ bytes x ++ drop (used + length (bytes x)) rm)
  more n d x rows rs room rm used t long lt place is fit = record {
    there = omega (arith, lt);
    placed = omega (arith, place);
    fits = omega (arith, fit, longer n d x used lt is long);
    rows_are = rows-more n d x rows rs lt place is t.rows_are;
    room_is = room-more n d x room rm used lt is long t.room_is;
  }

  pub room-long : (n : ℕ) (rows rs : List B) (room rm : List ℕ) → AreTold row bytes items n rows rs room rm → length rm ≡ length room
  room-long n rows rs room rm t =
      let front = flat_map bytes (take n items) in
      ap length t.room_is ∙ length-append front (drop (length front) room) ∙ ap (λ (k : ℕ). length front + k) (length-drop (length front) room)
      ∙ omega (arith, t.fits)

  pub rows-long : (n : ℕ) (rows rs : List B) (room rm : List ℕ) → AreTold row bytes items n rows rs room rm → length rs ≡ length rows
  rows-long n rows rs room rm t =
      let front = map row (take n items) in
      let long : length front ≡ n = length-map (take n items) row ∙ length-take-le n items t.there in
      ap length t.rows_are ∙ length-append front (drop n rows) ∙ ap (λ (k : ℕ). length front + k) (length-drop n rows) ∙ omega (arith, long, t.placed)

  -- one more is told: its row is written, and its bytes behind those before
  pub goes-on : (n : ℕ) (d x : A) (rows rs : List B) (room rm rm-after : List ℕ) (used : ℕ) (y : B) (b : List ℕ) → AreTold row bytes items n rows rs room rm →
      used ≡ length (flat_map bytes (take n items)) → n < length items → n < length rs → get_or items n d ≡ x → y ≡ row x → b ≡ bytes x →
      used + length b ≤ length rm → rm-after ≡ take used rm ++ b ++ drop (used + length b) rm →
      AreTold row bytes items (n + 1) rows (set rs n y) room rm-after × (used + length b ≡ length (flat_map bytes (take (n + 1) items)))
  goes-on n d x rows rs room rm rm-after used y b t long lt place is row-is bytes-are fit after =
      let fits : used + length (bytes x) ≤ length room =
      omega (arith, fit, ap length bytes-are, room-long n rows rs room rm t) in
      let told = more n d x rows rs room rm used t long lt (omega (arith, place, rows-long n rows rs room rm t)) is fits in
      let b-same : take used rm ++ bytes x ++ drop (used + length (bytes x)) rm ≡ rm-after =
      ap (λ (l : List ℕ). take used rm ++ l ++ drop (used + length l) rm) (sym bytes-are) ∙ sym after in (
        subst (λ (l : List ℕ). AreTold row bytes items (n + 1) rows (set rs n y) room l) b-same
            (subst (λ (z : B). AreTold row bytes items (n + 1) rows (set rs n z) room (take used rm ++ bytes x ++ drop (used + length (bytes x)) rm)) (sym row-is) told),
        ap (λ (l : List ℕ). used + length l) bytes-are ∙ longer n d x used lt is long,
      )

  -- where the next has no room, no more have place
  pub no-room : (n : ℕ) (d x : A) (rows : List B) (room : List ℕ) (used : ℕ) → used ≡ length (flat_map bytes (take n items)) →
      get_or items n d ≡ x → length room < used + length (bytes x) → AreMost bytes items n rows room
  no-room n d x rows room used long is short lt place = omega (arith, short, longer n d x used lt is long)

-- two pieces, one behind the other, are one
pub two-pieces : (at : ℕ) (a b room rm : List ℕ) → at + length a ≤ length room → rm ≡ take at room ++ a ++ drop (at + length a) room →
    take (at + length a) rm ++ (b ++ drop (length b) (drop (at + length a) rm)) ≡ take at room ++ (a ++ b) ++ drop (at + length (a ++ b)) room
two-pieces at a b room rm within is =
    let front = take at room ++ a in
    let long : length front ≡ at + length a = length-append (take at room) a ∙ ap (λ (n : ℕ). n + length a) (length-take-le at room (omega (arith, within))) in
    let first : take (at + length a) rm ≡ front = ap (take (at + length a)) is ∙ take_at front (drop (at + length a) room) (at + length a) long in
    let rest : drop (at + length a) rm ≡ drop (at + length a) room = ap (drop (at + length a)) is ∙ drop_at front (drop (at + length a) room) (at + length a) long in
    let end : (at + length a) + length b ≡ at + length (a ++ b) = let both = length-append a b in omega (arith, both) in
    ap (λ (l : List ℕ). l ++ (b ++ drop (length b) (drop (at + length a) rm))) first
    ∙ ap (λ (l : List ℕ). front ++ (b ++ drop (length b) l)) rest
    ∙ ap (λ (l : List ℕ). front ++ (b ++ l)) (drop-drop (length b) (at + length a) room ∙ ap (λ (n : ℕ). drop n room) end)
    ∙ sym (append_assoc front b (drop (at + length (a ++ b)) room)) ∙ ap (λ (l : List ℕ). l ++ drop (at + length (a ++ b)) room) (append_assoc (take at room) a b)
