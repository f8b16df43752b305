-- A file of changes told, how long it is where nothing changes, and whether all names can be written.
use Rattle.std.proofs.Common.{◌≡◌, ℕ, ◌+◌, ◌<◌, ◌&&◌, Bool, true, false, not, cond, List, [], ◌∷◌, ◌++◌, length, Option, Some, None}
use Rattle.std.proofs.Common.{refl, sym, ap, ◌∙◌, subst, arith, length-append}
use Rattle.std.specs.Prelude.{◌↔◌, if◌then◌else◌, flat_map, find, Result, Ok, Err, IfOk}
use Rattle.std.specs.FinMap.{get}
use Rattle.std.specs.List.{list_all}
use Rattle.std.specs.Io.KnownBytes.{Appends}
use Rattle.std.specs.Option.{option_map}
use Rattle.std.proofs.lemmas.Option.{same_Some}
use Rattle.reg_heap.specs.Paths.{Tree}
use Rattle.reg_tree_text.specs.DumpTexts.{name_of}
use Rattle.reg_tree_text.specs.Internal.Gathered.{WriterState, IsSoFar}
use Rattle.reg_tree_text.proofs.SentTexts.{then_gathered}
use Rattle.reg_dotreg_writer.specs.EntryTexts.{line_end}
use Rattle.reg_dotreg_writer.specs.Entries.{key_line}
use Rattle.reg_dotreg_writer.specs.Changes.{Change, is_new, changes_of, changes, rooted, gone_line, change_line, is_writable_change}
use Rattle.reg_dotreg_writer.specs.Changes.{CanWriteChanges, unwritable_change}
use Rattle.reg_dotreg_writer.specs.Internal.Pieces.{plain, head_pieces}
use Rattle.reg_dotreg_writer.specs.Internal.ChangePieces.{value_pieces, change_pieces, body_pieces, changes_pieces}
use Rattle.reg_dotreg_writer.specs.declared.side.Side.TheVariants.{Old, New}
use Rattle.reg_dotreg_writer.proofs.ToldChanges.{first_bad, first-found, none-found}

-- what changes is next
pub body-next : (begin now : WriterState) (whole : List ℕ) (u : Bool) (old new : Tree) (left gathered more : List ℕ) (written : ℕ) →
    IsSoFar begin now whole (changes_pieces u old new ++ left) gathered written → more ≡ gathered ++ head_pieces u →
    IsSoFar begin now whole (body_pieces u old new ++ left) more written
unfolding changes_pieces
body-next begin now whole u old new left gathered more written s e =
    then_gathered begin now whole (head_pieces u) (body_pieces u old new) left gathered more written s e

-- ---- how long it is

plain-some : (u : Bool) (b : ℕ) (text : List ℕ) → 0 < length (plain u (b ∷ text))
plain-some true b text = omega arith
plain-some false b text = omega arith

line-some : (u : Bool) (root : List ℕ) (change : Change) → 0 < length (plain u (change_line root change))
unfolding gone_line key_line
line-some u root change = by (change.is_alone && not (is_new change.side))
  where
    by : (b : Bool) → 0 < length (plain u (if b then gone_line (rooted root change.path) else key_line (rooted root change.path)))
    by true = plain-some u 91 (45 ∷ (rooted root change.path ++ 93 ∷ line_end))
    by false = plain-some u 91 (rooted root change.path ++ 93 ∷ line_end)

some-length : (u : Bool) (root : List ℕ) (all : List Change) → length (flat_map (change_pieces u root) all) ≡ 0 → all ≡ []
some-length u root [] e = refl
some-length u root (c ∷ all) e =
    let rest : List ℕ = flat_map (value_pieces u c.side) c.values ++ plain u line_end in
    let line = line-some u root c in
    let one = length-append (change_pieces u root c) (flat_map (change_pieces u root) all) in
    let two = length-append (plain u (change_line root c)) rest in
    absurd (omega (arith, e, line, one, two))

module _ (begin now : WriterState) (u : Bool) (old new : Tree) (gathered : List ℕ) (written size : ℕ)
    (s : IsSoFar begin now (changes_pieces u old new) [] gathered written) (heading : size ≡ length (head_pieces u)) where
  abbrev body : List ℕ
  body = body_pieces u old new

  told-long : written + length gathered ≡ size + length body
  unfolding changes_pieces
  told-long =
      let whole = ap length s.splits in
      let parts = length-append (head_pieces u) body in
      let sent = length-append s.sent (gathered ++ []) in
      let last = length-append gathered [] in
      let count = s.counts in
      omega (arith, whole, parts, sent, last, count, heading)

  pub none-says : (b : Bool) → ((b ≡ true) ↔ (written + length gathered ≡ size)) → (b ≡ true) ↔ (changes old new ≡ [])
  none-says b h = (
    λ t. some-length u (name_of (get old [])) (changes old new)
        (let l = told-long in let m = h.0 t in omega (arith, l, m)),
    λ e. h.1 (let l = told-long in let z = ap (λ (x : List Change). length (flat_map (change_pieces u (name_of (get old []))) x)) e in
        omega (arith, l, z)),
  )

-- the same bytes, said in another way
pub as_appends : (before after : Option (List ℕ)) (whole same : List ℕ) → whole ≡ same → Appends before after whole → Appends before after same
as_appends before after whole same e a = subst (λ (w : List ℕ). Appends before after w) e a

-- ---- names

all-fine : (root : List ℕ) (all : List Change) → None ≡ first_bad root all → list_all (is_writable_change root) all ≡ true
all-fine root [] e = refl
all-fine root (c ∷ all) e = by (is_writable_change root c) e (all-fine root all)
  where
    by : (b : Bool) → None ≡ option_map (λ (change : Change). rooted root change.path)
        (cond (not b) (Some c) (find (λ (change : Change). not (is_writable_change root change)) all)) →
        (None ≡ first_bad root all → list_all (is_writable_change root) all ≡ true) → (b && list_all (is_writable_change root) all) ≡ true
    by true e h = h e
    by false e h = absurd (cc)

pub all-writable : (old new : Tree) →
    None ≡ option_map (λ (change : Change). rooted (name_of (get old [])) change.path) (unwritable_change old new) → CanWriteChanges old new
all-writable old new e = all-fine (name_of (get old [])) (changes old new) e

pub first-unwritable : (old new : Tree) (key : List ℕ) →
    Some key ≡ option_map (λ (change : Change). rooted (name_of (get old [])) change.path) (unwritable_change old new) →
    (change : Change) × (unwritable_change old new ≡ Some change) × (key ≡ rooted (name_of (get old [])) change.path)
first-unwritable old new key e = by (unwritable_change old new) refl e
  where
    by : (o : Option Change) → unwritable_change old new ≡ o →
        Some key ≡ option_map (λ (change : Change). rooted (name_of (get old [])) change.path) o →
        (change : Change) × (unwritable_change old new ≡ Some change) × (key ≡ rooted (name_of (get old [])) change.path)
    by None u f = absurd (cc)
    by (Some change) u f = (change, u, same_Some _ _ f)

-- of the two trees, where the first one has it
module _ (old new : Tree) (root : List ℕ) (r : root ≡ name_of (get old [])) where
  pub old-found : (key : List ℕ) → Some key ≡ first_bad root (changes_of Old old new) → Some key ≡ first_bad (name_of (get old [])) (changes old new)
  unfolding changes
  old-found key e =
      first-found root (changes_of Old old new) (changes_of New new old) key e
      ∙ ap (λ (x : List ℕ). first_bad x (changes_of Old old new ++ changes_of New new old)) r

  -- and else
  pub new-found : (key : Option (List ℕ)) → None ≡ first_bad root (changes_of Old old new) → key ≡ first_bad root (changes_of New new old) →
      key ≡ first_bad (name_of (get old [])) (changes old new)
  unfolding changes
  new-found key e f =
      f ∙ (sym (none-found root (changes_of Old old new) (changes_of New new old) e)
      ∙ ap (λ (x : List ℕ). first_bad x (changes_of Old old new ++ changes_of New new old)) r)

-- a fact that a call gives, turned into another one
pub if_ok : {A E : Type 0} (P Q : A → Type 0) (r : Result A E) → ((x : A) → P x → Q x) → IfOk r P → IfOk r Q
if_ok P Q (Ok x) f p = f x p
if_ok P Q (Err e) f p = tt
