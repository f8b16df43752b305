-- The keys of a timeline, gathered and told.
use Rattle.std.proofs.Common.{◌≡◌, ℕ, ◌+◌, ◌/◌, ◌%◌, ◌<◌, Bool, true, false, List, [], ◌∷◌, ◌++◌, map, drop, length, get_or, sym, ap, ◌∙◌, arith, append_assoc, append-nil, length-append}
use Rattle.std.specs.Prelude.{◌==◌, ◌||◌, nat_lt, if◌then◌else◌, codes}
use Rattle.std.specs.Fmt.{decimal, digit_glyph}
use Rattle.std.proofs.lemmas.List.{drop_more}
use Rattle.reg_heap.specs.Paths.{Tree}
use Rattle.reg_text.specs.Texts.{escaped}
use Rattle.reg_tree_text.specs.DumpTexts.{Told, keys_told}
use Rattle.reg_tree_text.specs.Internal.Gathered.{WriterState, IsSoFar}
use Rattle.reg_tree_text.proofs.SentTexts.{opened, swapped}
use Rattle.reg_tables.specs.declared.timeline.Timeline.{Timeline}
use Rattle.reg_tables.specs.declared.timeline.TimedKey.{TimedKey}
use Rattle.reg_tables.specs.declared.timeline.TimelineForm.{TimelineForm}
use Rattle.reg_tables.specs.Timelines.{Timed, key_within, keys_within, keys_among, by_time, timed, hive_name, form_line, form_lines, ordered_text, timeline_text, IsGathered}
use Rattle.reg_tables.specs.Timelines.{precise_time, unix_seconds, field_byte, field_text, text_line, csv_line, body_line}
use Rattle.reg_tables.specs.Tables.{line_text}

-- ---- gathered

-- the next of the keys that are to come was gathered, and none is to come
pub within_next : (hive from to : ℕ) (old now new : List Timed) (all rest more : List Told) (told : Told) →
    old ++ keys_within hive from to all ≡ now ++ keys_within hive from to rest → rest ≡ told ∷ more → new ≡ now ++ key_within hive from to told →
    old ++ keys_within hive from to all ≡ new ++ keys_within hive from to more
within_next hive from to old now new all rest more told so_far e gathers =
    so_far
    ∙ (ap (λ (x : List Told). now ++ keys_within hive from to x) e
    ∙ (sym (append_assoc now (key_within hive from to told) (keys_within hive from to more))
    ∙ ap (λ (x : List Timed). x ++ keys_within hive from to more) (sym gathers)))

pub within_end : (hive from to : ℕ) (old now : List Timed) (all rest : List Told) →
    old ++ keys_within hive from to all ≡ now ++ keys_within hive from to rest → rest ≡ [] → now ≡ old ++ keys_within hive from to all
within_end hive from to old now all rest so_far e =
    sym (so_far ∙ (ap (λ (x : List Told). now ++ keys_within hive from to x) e ∙ append-nil now))

-- the keys of a tree: the first one, and those behind it
pub within_all : (hive from to : ℕ) (old now new : List Timed) (told : Told) (rest all : List Told) → all ≡ told ∷ rest →
    now ≡ old ++ key_within hive from to told → new ≡ now ++ keys_within hive from to rest → new ≡ old ++ keys_within hive from to all
within_all hive from to old now new told rest all e first others =
    others
    ∙ (ap (λ (x : List Timed). x ++ keys_within hive from to rest) first
    ∙ (append_assoc old (key_within hive from to told) (keys_within hive from to rest) ∙ ap (λ (x : List Told). old ++ keys_within hive from to x) (sym e)))

-- one tree more
among_more : (hive : ℕ) (trees : List Tree) (tree : Tree) (from to : ℕ) →
    keys_among hive (trees ++ tree ∷ []) from to ≡ keys_among hive trees from to ++ keys_within (hive + length trees) from to (keys_told tree)
among_more hive [] tree from to =
    append-nil (keys_within hive from to (keys_told tree))
    ∙ (let n : hive ≡ hive + 0 = omega arith in ap (λ (k : ℕ). keys_within k from to (keys_told tree)) n)
among_more hive (first ∷ trees) tree from to =
    let here = keys_within hive from to (keys_told first) in
    let n : hive + 1 + length trees ≡ hive + length (first ∷ trees) = omega arith in
    ap (λ (x : List Timed). here ++ x) (among_more (hive + 1) trees tree from to)
    ∙ (sym (append_assoc here (keys_among (hive + 1) trees from to) (keys_within (hive + 1 + length trees) from to (keys_told tree)))
    ∙ ap (λ (k : ℕ). (here ++ keys_among (hive + 1) trees from to) ++ keys_within k from to (keys_told tree)) n)

pub gathered_more : (trees : List Tree) (tree : Tree) (from to : ℕ) (old new : Timeline) → IsGathered old trees from to → new.hives ≡ old.hives + 1 →
    map timed new.keys.items ≡ map timed old.keys.items ++ keys_within old.hives from to (keys_told tree) → IsGathered new (trees ++ tree ∷ []) from to
gathered_more trees tree from to old new g next keys =
    record {
      count = let k = g.count in let l = length-append trees (tree ∷ []) in omega (arith, k, l, next);
      keys =
          keys
          ∙ (ap (λ (x : List Timed). x ++ keys_within old.hives from to (keys_told tree)) g.keys
          ∙ (ap (λ (k : ℕ). keys_among 0 trees from to ++ keys_within k from to (keys_told tree)) (let k = g.count in omega (arith, k))
          ∙ sym (among_more 0 trees tree from to)));
    }

-- ---- told

-- the next of some keys is told, and behind it the others
pub line_next : (begin now : WriterState) (whole : List ℕ) (form : TimelineForm) (names : List (List ℕ)) (keys : List TimedKey) (index : ℕ) (key : TimedKey)
    (name left gathered : List ℕ) (written : ℕ) → index < length keys → key ≡ get_or keys index key → name ≡ hive_name names key.hive →
    IsSoFar begin now whole (form_lines form names (map timed (drop index keys)) ++ left) gathered written →
    IsSoFar begin now whole (form_line form name (timed key) ++ (form_lines form names (map timed (drop (index + 1) keys)) ++ left)) gathered written
line_next begin now whole form names keys index key name left gathered written l is named s =
    let rest = form_lines form names (map timed (drop (index + 1) keys)) in
    opened begin now whole (form_line form name (timed key)) rest left gathered written
    (swapped begin now whole _ _ left gathered written s
    (ap (λ (w : List ℕ). form_line form w (timed key) ++ rest) named
    ∙ (ap (λ (k : TimedKey). form_line form (hive_name names k.hive) (timed k) ++ rest) is
    ∙ sym (ap (λ (x : List TimedKey). form_lines form names (map timed x)) (drop_more keys index key l)))))

-- all that was gathered
pub timeline-told : (form : TimelineForm) (names : List (List ℕ)) (timeline : Timeline) (trees : List Tree) (from to : ℕ) → IsGathered timeline trees from to →
    (sorted : List Timed) → sorted ≡ by_time (map timed timeline.keys.items) → ordered_text form names sorted ≡ timeline_text form names trees from to
unfolding timeline_text
timeline-told form names timeline trees from to g sorted e =
    ap (λ (x : List Timed). ordered_text form names x) (e ∙ ap by_time g.keys)

-- ---- lines

pub field_whole : (b : ℕ) → (b == 37 || b == 124 || nat_lt b 32 || b == 127) ≡ false → field_byte b ≡ b ∷ []
unfolding field_byte
field_whole b e = ap (λ (t : Bool). if t then 37 ∷ digit_glyph true (b / 16) ∷ digit_glyph true (b % 16) ∷ [] else b ∷ []) e

pub field_parting : (b : ℕ) → (b == 37 || b == 124 || nat_lt b 32 || b == 127) ≡ true → (high low : ℕ) → high ≡ digit_glyph true (b / 16) →
    low ≡ digit_glyph true (b % 16) → 37 ∷ high ∷ low ∷ [] ≡ field_byte b
unfolding field_byte
field_parting b e high low h l =
    ap (λ (x : ℕ). 37 ∷ x ∷ low ∷ []) h
    ∙ (ap (λ (x : ℕ). 37 ∷ digit_glyph true (b / 16) ∷ x ∷ []) l
    ∙ sym (ap (λ (t : Bool). if t then 37 ∷ digit_glyph true (b / 16) ∷ digit_glyph true (b % 16) ∷ [] else b ∷ []) e))

pub text_built : (name : List ℕ) (key : Timed) (path a b c d e f : List ℕ) → path ≡ key.path → a ≡ precise_time key.time → b ≡ a ++ codes " " → c ≡ b ++ name →
    d ≡ c ++ codes " =" → e ≡ d ++ escaped path → f ≡ e ++ codes "\n" → f ≡ text_line name key
unfolding text_line
text_built name key path a b c d e f same p q r s t u =
    let joined : f ≡ ((((precise_time key.time ++ codes " ") ++ name) ++ codes " =") ++ escaped key.path) ++ codes "\n" = cc in
    joined ∙ six (precise_time key.time) (codes " ") name (codes " =") (escaped key.path) (codes "\n")
  where
    six : (a b c d e f : List ℕ) → ((((a ++ b) ++ c) ++ d) ++ e) ++ f ≡ a ++ (b ++ (c ++ (d ++ (e ++ f))))
    six a b c d e f = simp append_assoc

pub body_built : (name : List ℕ) (key : Timed) (path seconds empty a b c d e f g : List ℕ) → path ≡ key.path → seconds ≡ decimal (unix_seconds key.time) → empty ≡ [] →
    a ≡ empty ++ codes "0|" → b ≡ a ++ field_text name → c ≡ b ++ 32 ∷ [] → d ≡ c ++ field_text path → e ≡ d ++ codes "|0|0|0|0|0|0|" →
    f ≡ e ++ seconds → g ≡ f ++ codes "|0|0\n" → g ≡ body_line name key
unfolding body_line
body_built name key path seconds empty a b c d e f g same n o p q r s t u v =
    let first : a ≡ codes "0|" = p ∙ ap (λ (w : List ℕ). w ++ codes "0|") o in
    let joined : g ≡
    (((((codes "0|" ++ field_text name) ++ 32 ∷ []) ++ field_text key.path) ++ codes "|0|0|0|0|0|0|") ++ decimal (unix_seconds key.time)) ++ codes "|0|0\n" = cc in
    joined ∙ seven (codes "0|") (field_text name) (32 ∷ []) (field_text key.path) (codes "|0|0|0|0|0|0|") (decimal (unix_seconds key.time)) (codes "|0|0\n")
  where
    seven : (a b c d e f g : List ℕ) → (((((a ++ b) ++ c) ++ d) ++ e) ++ f) ++ g ≡ a ++ (b ++ (c ++ (d ++ (e ++ (f ++ g)))))
    seven a b c d e f g = simp append_assoc

pub cells_told : (name : List ℕ) (key : Timed) (time shown path : List ℕ) → time ≡ precise_time key.time → shown ≡ name → path ≡ key.path →
    line_text (time ∷ shown ∷ path ∷ []) ≡ csv_line name key
unfolding csv_line
cells_told name key time shown path t n p =
    ap (λ (w : List ℕ). line_text (w ∷ shown ∷ path ∷ [])) t
    ∙ (ap (λ (w : List ℕ). line_text (precise_time key.time ∷ w ∷ path ∷ [])) n ∙ ap (λ (w : List ℕ). line_text (precise_time key.time ∷ name ∷ w ∷ [])) p)
