-- Lines as they are told part by part.
use Rattle.std.proofs.Common.{◌≡◌, ℕ, ◌+◌, ◌<◌, ◌==◌, ◌||◌, Bool, true, false, cond, List, [], ◌++◌, length, drop, get_or, refl, sym, ap, ◌∙◌}
use Rattle.std.specs.Prelude.{bytes_eq, codes, flat_map}
use Rattle.std.proofs.lemmas.List.{drop_more}
use Rattle.std.specs.Fmt.{decimal}
use Rattle.std.proofs.lemmas.Bool.{false≢true}
use Rattle.reg_heap.specs.Paths.{Member}
use Rattle.reg_text.specs.Texts.{line_feed, escaped, digits_text}
use Rattle.reg_tree_text.specs.Internal.Gathered.{WriterState, IsSoFar}
use Rattle.reg_tree_text.proofs.SentTexts.{opened, swapped}
use Rattle.reg_diff.specs.declared.line.Part.{Part}
use Rattle.reg_diff.specs.declared.side.Side.{Side}
use Rattle.reg_diff.specs.Differences.{word, value_line, value_change, name_change, number_change, bytes_change}
use Rattle.reg_diff.specs.Internal.Parts.{part_text}

-- ---- the parts of a line, one after another

pub part-next : (begin now : WriterState) (whole : List ℕ) (parts : List Part) (index : ℕ) (blank : Part) (left gathered : List ℕ) (written : ℕ) →
    index < length parts → IsSoFar begin now whole (flat_map part_text (drop index parts) ++ left) gathered written →
    IsSoFar begin now whole (part_text (get_or parts index blank) ++ (flat_map part_text (drop (index + 1) parts) ++ left)) gathered written
part-next begin now whole parts index blank left gathered written l s =
    opened begin now whole (part_text (get_or parts index blank)) (flat_map part_text (drop (index + 1) parts)) left gathered written
    (swapped begin now whole _ _ left gathered written s (sym (ap (flat_map part_text) (drop_more parts index blank l))))

-- ---- what a key holds

if-so : (b : Bool) (line : List ℕ) → b ≡ true → cond b [] line ≡ []
if-so true line e = refl
if-so false line e = absurd (false≢true e)

if-not : (b : Bool) (line : List ℕ) → b ≡ false → line ≡ cond b [] line
if-not true line e = absurd (false≢true (sym e))
if-not false line e = refl

module _ (path was is : List ℕ) (b : Bool) (eq : b ≡ bytes_eq was is) where
  pub name-alike : b ≡ true → name_change path was is ≡ []
  unfolding name_change
  name-alike e = if-so (bytes_eq was is) _ (sym eq ∙ e)

  pub name-told : b ≡ false →
      codes "changed name =" ++ (escaped path ++ (codes " from =" ++ (escaped was ++ (codes " to =" ++ (escaped is ++ line_feed))))) ≡
      name_change path was is
  unfolding name_change
  name-told e = if-not (bytes_eq was is) _ (sym eq ∙ e)

  pub bytes-alike : (is_ignored : Bool) (what : List ℕ) → (is_ignored || b) ≡ true → bytes_change is_ignored what path was is ≡ []
  unfolding bytes_change
  bytes-alike is_ignored what e = if-so (is_ignored || bytes_eq was is) _ (ap (λ (t : Bool). is_ignored || t) (sym eq) ∙ e)

  pub bytes-told : (is_ignored : Bool) (what : List ℕ) → (is_ignored || b) ≡ false →
      codes "changed "
      ++ (what ++ (codes " =" ++ (escaped path ++ (codes " from x" ++ (digits_text was ++ (codes " to x" ++ (digits_text is ++ line_feed)))))))
      ≡ bytes_change is_ignored what path was is
  unfolding bytes_change
  bytes-told is_ignored what e = if-not (is_ignored || bytes_eq was is) _ (ap (λ (t : Bool). is_ignored || t) (sym eq) ∙ e)

pub number-alike : (is_ignored : Bool) (what path : List ℕ) (was is : ℕ) → (is_ignored || (was == is)) ≡ true →
    number_change is_ignored what path was is ≡ []
unfolding number_change
number-alike is_ignored what path was is e = if-so (is_ignored || (was == is)) _ e

pub number-told : (is_ignored : Bool) (what path : List ℕ) (was is : ℕ) → (is_ignored || (was == is)) ≡ false →
    codes "changed "
    ++ (what ++ (codes " =" ++ (escaped path ++ (codes " from " ++ (decimal was ++ (codes " to " ++ (decimal is ++ line_feed)))))))
    ≡ number_change is_ignored what path was is
unfolding number_change
number-told is_ignored what path was is e = if-not (is_ignored || (was == is)) _ e

-- ---- values

pub value-told : (side : Side) (path : List ℕ) (value : Member) (first : List ℕ) (kind : ℕ) (bytes : List ℕ) → first ≡ word side →
    kind ≡ value.kind → bytes ≡ value.bytes →
    first ++ (codes " value =" ++ (escaped path ++ (codes " =" ++ (escaped value.name ++ (codes " type " ++ (decimal kind ++ (codes " x"
    ++ (digits_text bytes ++ line_feed)))))))) ≡ value_line side path value
unfolding value_line
value-told side path value first kind bytes f k b =
    ap (λ (w : List ℕ). w ++ (codes " value =" ++ (escaped path ++ (codes " =" ++ (escaped value.name ++ (codes " type " ++ (decimal kind
    ++ (codes " x" ++ (digits_text bytes ++ line_feed))))))))) f
    ∙ (ap (λ (n : ℕ). word side ++ (codes " value =" ++ (escaped path ++ (codes " =" ++ (escaped value.name ++ (codes " type " ++ (decimal n
    ++ (codes " x" ++ (digits_text bytes ++ line_feed))))))))) k
    ∙ ap (λ (w : List ℕ). word side ++ (codes " value =" ++ (escaped path ++ (codes " =" ++ (escaped value.name ++ (codes " type "
    ++ (decimal value.kind ++ (codes " x" ++ (digits_text w ++ line_feed))))))))) b)

-- the second half of a changed value's line, and all of it
abbrev said : List ℕ → ℕ → List ℕ → List ℕ → List ℕ
said name kind bytes behind = escaped name ++ (codes " type " ++ (decimal kind ++ (codes " x" ++ (digits_text bytes ++ behind))))

said-same : (name behind : List ℕ) (kind n : ℕ) (bytes b : List ℕ) → kind ≡ n → bytes ≡ b → said name kind bytes behind ≡ said name n b behind
said-same name behind kind n bytes b k d =
    ap (λ (x : ℕ). said name x bytes behind) k ∙ ap (λ (x : List ℕ). said name n x behind) d

pub change-told : (path : List ℕ) (was is : Member) (old_kind : ℕ) (old_bytes : List ℕ) (new_kind : ℕ) (new_bytes : List ℕ) →
    old_kind ≡ was.kind → old_bytes ≡ was.bytes → new_kind ≡ is.kind → new_bytes ≡ is.bytes →
    codes "changed value =" ++ (escaped path ++ (codes " from =" ++ (escaped was.name ++ (codes " type " ++ (decimal old_kind ++ (codes " x"
    ++ (digits_text old_bytes ++ (codes " to =" ++ (escaped is.name ++ (codes " type " ++ (decimal new_kind ++ (codes " x"
    ++ (digits_text new_bytes ++ line_feed))))))))))))) ≡ value_change path was is
unfolding value_change
change-told path was is old_kind old_bytes new_kind new_bytes k d m e =
    ap (λ (w : List ℕ). codes "changed value =" ++ (escaped path ++ (codes " from =" ++ w)))
    (said-same was.name (codes " to =" ++ said is.name new_kind new_bytes line_feed) old_kind was.kind old_bytes was.bytes k d
    ∙ ap (λ (w : List ℕ). said was.name was.kind was.bytes (codes " to =" ++ w))
    (said-same is.name line_feed new_kind is.kind new_bytes is.bytes m e))
