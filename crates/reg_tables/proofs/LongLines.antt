-- The lines of a listing that tells what is asked for, told one after another.
use Rattle.std.proofs.Common.{◌≡◌, ℕ, ◌+◌, ◌<◌, Bool, true, false, List, ◌∷◌, ◌++◌, length, drop, get_or, Option, Some, sym, ap, ◌∙◌}
use Rattle.std.specs.Prelude.{codes, flat_map, slice_get, if◌then◌else◌}
use Rattle.std.specs.Fmt.{decimal}
use Rattle.std.specs.FinMap.{get}
use Rattle.std.proofs.lemmas.List.{drop_more}
use Rattle.std.proofs.lemmas.Option.{same_Some}
use Rattle.reg_names.specs.Names.{text_of}
use Rattle.reg_heap.specs.Paths.{Path, Tree, Rec, Member}
use Rattle.reg_values.specs.ValueLists.{Tells}
use Rattle.reg_tree_text.specs.DumpTexts.{Told}
use Rattle.reg_tree_text.specs.Internal.Gathered.{WriterState, IsSoFar}
use Rattle.reg_tree_text.proofs.SentTexts.{opened, swapped}
use Rattle.reg_tables.specs.declared.columns.Columns.{Columns}
use Rattle.reg_tables.specs.TypedValues.{typed_told}
use Rattle.reg_tables.specs.LongListings.{line_told, time_part, security_part, key_about, key_line, child_line, value_about, value_lines, told_lines}

-- ---- what is told

pub key-told : (columns : Columns) (key : Rec) (time : ℕ) (descriptor : List ℕ) → time ≡ key.time → descriptor ≡ key.descriptor →
    time_part columns.has_times time ++ security_part columns.has_securities descriptor ≡ key_about columns key
unfolding key_about
key-told columns key time descriptor t d =
    ap (λ (n : ℕ). time_part columns.has_times n ++ security_part columns.has_securities descriptor) t
    ∙ ap (λ (w : List ℕ). time_part columns.has_times key.time ++ security_part columns.has_securities w) d

module _ (values : List Member) (index : ℕ) (member : Member) (here : slice_get values index ≡ Some member) (name : List ℕ) (kind size : ℕ)
    (told : (m : Member) × (slice_get values index ≡ Some m) × Tells m name kind size) where
  same : told.0 ≡ member
  same = same_Some _ _ (sym told.1 ∙ here)

  pub name-same : name ≡ member.name
  name-same = told.2.name_is ∙ ap (λ (m : Member). m.name) same

  -- without its data
  pub size-told : (is_long : Bool) → is_long ≡ false →
      codes " type " ++ (decimal kind ++ (codes " size " ++ decimal size)) ≡ value_about is_long member
  unfolding value_about
  size-told is_long short =
      let k : kind ≡ member.kind = told.2.kind_is ∙ ap (λ (m : Member). m.kind) same in
      let l : size ≡ length member.bytes = told.2.size_is ∙ ap (λ (m : Member). length m.bytes) same in
      ap (λ (n : ℕ). codes " type " ++ (decimal n ++ (codes " size " ++ decimal size))) k
      ∙ (ap (λ (n : ℕ). codes " type " ++ (decimal member.kind ++ (codes " size " ++ decimal n))) l
      ∙ sym (ap
      (λ (b : Bool).
      if b then codes " " ++ typed_told member.kind member.bytes
      else codes " type " ++ (decimal member.kind ++ (codes " size " ++ decimal (length member.bytes))))
      short))

  -- with them
  pub data-told : (is_long : Bool) → is_long ≡ true → (items bytes : List ℕ) → bytes ≡ items →
      ((m : Member) × (slice_get values index ≡ Some m) × (items ≡ m.bytes)) → codes " " ++ typed_told kind bytes ≡ value_about is_long member
  unfolding value_about
  data-told is_long long items bytes b d =
      let k : kind ≡ member.kind = told.2.kind_is ∙ ap (λ (m : Member). m.kind) same in
      let x : bytes ≡ member.bytes = b ∙ (d.2 ∙ ap (λ (m : Member). m.bytes) (same_Some _ _ (sym d.1 ∙ here))) in
      ap (λ (n : ℕ). codes " " ++ typed_told n bytes) k
      ∙ (ap (λ (w : List ℕ). codes " " ++ typed_told member.kind w) x
      ∙ sym (ap
      (λ (b : Bool).
      if b then codes " " ++ typed_told member.kind member.bytes
      else codes " type " ++ (decimal member.kind ++ (codes " size " ++ decimal (length member.bytes))))
      long))

-- ---- lines

pub line-same : (head name given about told : List ℕ) (ends_by_zero : Bool) → name ≡ given → about ≡ told →
    line_told head name about ends_by_zero ≡ line_told head given told ends_by_zero
line-same head name given about told ends_by_zero n a =
    ap (λ (w : List ℕ). line_told head w about ends_by_zero) n ∙ ap (λ (w : List ℕ). line_told head given w ends_by_zero) a

-- the line of a key that was found, by its name
pub child-same : (columns : Columns) (found : Option Rec) (key : Rec) (name : List ℕ) → found ≡ Some key → name ≡ key.name →
    key_line columns name key ≡ child_line columns found
child-same columns found key name here n = ap (λ (w : List ℕ). key_line columns w key) n ∙ sym (ap (child_line columns) here)

-- the lines of the key at a path, found by that
abbrev pub child_at : Columns → Tree → Path → List ℕ
child_at columns tree child = child_line columns (get tree child)

module _ (begin now : WriterState) (whole : List ℕ) where
  -- the line of the next one of some items is told
  pub item-next : {X : Type 0} (line : X → List ℕ) (items : List X) (index : ℕ) (blank : X) (left gathered : List ℕ) (written : ℕ) → index < length items →
      IsSoFar begin now whole (flat_map line (drop index items) ++ left) gathered written →
      IsSoFar begin now whole (line (get_or items index blank) ++ (flat_map line (drop (index + 1) items) ++ left)) gathered written
  item-next line items index blank left gathered written l s =
      opened begin now whole (line (get_or items index blank)) (flat_map line (drop (index + 1) items)) left gathered written
      (swapped begin now whole _ _ left gathered written s (sym (ap (flat_map line) (drop_more items index blank l))))

  -- that of the first one
  pub first-next : {X : Type 0} (line : X → List ℕ) (items rest : List X) (item : X) (left gathered : List ℕ) (written : ℕ) → items ≡ item ∷ rest →
      IsSoFar begin now whole (flat_map line items ++ left) gathered written →
      IsSoFar begin now whole (line item ++ (flat_map line rest ++ left)) gathered written
  first-next line items rest item left gathered written e s =
      opened begin now whole (line item) (flat_map line rest) left gathered written
      (swapped begin now whole _ _ left gathered written s (sym (ap (flat_map line) e)))

  -- a key's line is next, and behind it those of its values
  pub told-next : (columns : Columns) (told : Told) (path : List ℕ) (values : List Member) (left gathered : List ℕ) (written : ℕ) →
      path ≡ text_of told.names → values ≡ told.key.values → IsSoFar begin now whole (told_lines columns told ++ left) gathered written →
      IsSoFar begin now whole (key_line columns path told.key ++ (value_lines columns values ++ left)) gathered written
  told-next columns told path values left gathered written names same s =
      opened begin now whole (key_line columns path told.key) (value_lines columns values) left gathered written
      (swapped begin now whole _ _ left gathered written s
      (ap (λ (w : List ℕ). key_line columns w told.key ++ value_lines columns values) names
      ∙ ap (λ (v : List Member). key_line columns (text_of told.names) told.key ++ value_lines columns v) same))
