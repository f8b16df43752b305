-- An index root taken apart, and put together.
use Rattle.std.proofs.Common.{◌≡◌, ℕ, ◌+◌, ◌*◌, ◌≤◌, Bool, true, false, cond, Option, Some, None, IsSome, List, [], length, map, nat_le, refl, sym, ap, ◌∙◌, subst, arith}
use Rattle.std.specs.Prelude.{unwrap_or}
use Rattle.std.specs.Option.{option_and_then}
use Rattle.std.proofs.lemmas.Bool.{leb-true, false≢true}
use Rattle.std.proofs.lemmas.Option.{none-some, same_Some, option_and_then_some}
use Rattle.reg_heap.specs.Heaps.{Heap}
use Rattle.reg_heap.specs.ByteWords.{half}
use Rattle.reg_records.specs.declared.lists.ListForm.TheVariants.{IndexRoot, IndexLeaf, FastLeaf, HashLeaf}
use Rattle.reg_records.specs.OffsetRows.{offsets_at}
use Rattle.reg_records.specs.RecordCells.{held}
use Rattle.reg_records.specs.SubkeyLists.{SubkeysList, Entry, Form, form_of, list_as, list_of, plain_entries, offsets_in}
use Rattle.reg_records.proofs.SubkeyListReading.{is-read}
use Rattle.reg_shape.specs.Nodes.{list_at}
use Rattle.reg_index.specs.Internal.IndexLists.{IsRoot, plain}
use Rattle.reg_index.proofs.RootOffsets.{length-offsets, offsets-plain, plain-offsets, plain-same}

-- what the content of an index root's cell says
pub record SaysRoot (content : List ℕ) (offsets : List ℕ) : Type 0 where
  pub form : form_of content ≡ Some IndexRoot
  pub count : half content 2 ≡ length offsets
  pub long : 4 + 4 * length offsets ≤ length content
  pub body : offsets_at (length offsets) 4 content ≡ offsets

pub record Root (heap : Heap) (cell : ℕ) (offsets : List ℕ) : Type 0 where
  pub exists : IsSome (heap cell)
  pub here : heap cell ≡ Some (held heap cell)
  pub says : SaysRoot (held heap cell) offsets

abbrev entries-of : SubkeysList → List Entry
entries-of list = list.entries

abbrev is_root : Form → Bool
is_root IndexRoot = true
is_root IndexLeaf = false
is_root FastLeaf = false
is_root HashLeaf = false

test-some : {A : Type 0} (b : Bool) (x y : A) → cond b (Some x) None ≡ Some y → (b ≡ true) × (x ≡ y)
test-some true x y e = (refl, same_Some _ _ e)
test-some false x y e = absurd (none-some _ e)

other : (form : Form) (b : Bool) (read entries : List Entry) → is_root form ≡ false →
    cond {A = Option SubkeysList} b (Some (record { form = form; entries = read })) None ≡ Some (record { form = IndexRoot; entries = entries }) → ⊥
other form b read entries n e = let s = test-some b _ _ e in false≢true (sym n ∙ ap (λ (l : SubkeysList). is_root l.form) s.1)

says-as : (content : List ℕ) (offsets : List ℕ) (form : Form) → form_of content ≡ Some form →
    list_as form content ≡ Some (record { form = IndexRoot; entries = map plain offsets }) → SaysRoot content offsets
says-as content offsets IndexRoot is e =
    let s = test-some (nat_le (4 + 4 * half content 2) (length content)) _ _ e in
    let read : offsets_at (half content 2) 4 content ≡ offsets = plain-same _ _ (sym (plain-offsets (half content 2) 4 content) ∙ ap entries-of s.1) in
    let number : half content 2 ≡ length offsets = sym (length-offsets (half content 2) 4 content) ∙ ap length read in
    record {
      form = is;
      count = number;
      long = subst (λ n. 4 + 4 * n ≤ length content) number (leb-true _ _ s.0);
      body = ap (λ n. offsets_at n 4 content) (sym number) ∙ read;
    }
says-as content offsets IndexLeaf is e = absurd (other IndexLeaf _ _ (map plain offsets) refl e)
says-as content offsets FastLeaf is e = absurd (other FastLeaf _ _ (map plain offsets) refl e)
says-as content offsets HashLeaf is e = absurd (other HashLeaf _ _ (map plain offsets) refl e)

pub says-root : (content : List ℕ) (offsets : List ℕ) → list_of content ≡ Some (record { form = IndexRoot; entries = map plain offsets }) → SaysRoot content offsets
unfolding list_of
says-root content offsets e = option_and_then_some (λ form. list_as form content) (form_of content) _ e (λ form is reads. says-as content offsets form is reads)

pub root-open : (heap : Heap) (cell : ℕ) (offsets : List ℕ) → IsRoot heap cell offsets → Root heap cell offsets
root-open heap cell offsets e =
    option_and_then_some list_of (heap cell) _ e (λ content here reads.
    let same : held heap cell ≡ content = ap (λ (o : Option (List ℕ)). unwrap_or o []) here in
    record {
      exists = subst IsSome (sym here) refl;
      here = here ∙ ap Some (sym same);
      says = subst (λ c. SaysRoot c offsets) (sym same) (says-root content offsets reads);
    })

pub root-made : (heap : Heap) (cell : ℕ) (content : List ℕ) (offsets : List ℕ) (count : ℕ) → heap cell ≡ Some content →
    form_of content ≡ Some IndexRoot → half content 2 ≡ count → 4 + 4 * count ≤ length content → offsets_at count 4 content ≡ offsets
    → IsRoot heap cell offsets
root-made heap cell content offsets count here form number long body =
    ap (option_and_then list_of) here
    ∙ (is-read content (omega arith) IndexRoot form count 4 (sym number) refl long
    ∙ ap (λ es. Some (record { form = IndexRoot; entries = es })) (plain-offsets count 4 content ∙ ap (map plain) body))

-- a list that is an index root has no hints
plain-as : (content : List ℕ) (form : Form) (list : SubkeysList) → list_as form content ≡ Some list → list.form ≡ IndexRoot → list.entries ≡ map plain (offsets_in list.entries)
plain-as content IndexRoot list e is =
    let s = test-some (nat_le (4 + 4 * half content 2) (length content)) _ _ e in
    let read : plain_entries (half content 2) 4 content ≡ list.entries = ap entries-of s.1 in
    let offsets : List ℕ = offsets_at (half content 2) 4 content in
    let body : list.entries ≡ map plain offsets = sym read ∙ plain-offsets (half content 2) 4 content in
    body ∙ ap (map plain) (sym (ap offsets_in body ∙ offsets-plain offsets))
plain-as content IndexLeaf list e is =
    let s = test-some (nat_le (4 + 4 * half content 2) (length content)) _ _ e in
    absurd (false≢true (ap (λ (l : SubkeysList). is_root l.form) s.1 ∙ ap is_root is))
plain-as content FastLeaf list e is =
    let s = test-some (nat_le (4 + 8 * half content 2) (length content)) _ _ e in
    absurd (false≢true (ap (λ (l : SubkeysList). is_root l.form) s.1 ∙ ap is_root is))
plain-as content HashLeaf list e is =
    let s = test-some (nat_le (4 + 8 * half content 2) (length content)) _ _ e in
    absurd (false≢true (ap (λ (l : SubkeysList). is_root l.form) s.1 ∙ ap is_root is))

plain-of : (content : List ℕ) (list : SubkeysList) → list_of content ≡ Some list → list.form ≡ IndexRoot → list.entries ≡ map plain (offsets_in list.entries)
unfolding list_of
plain-of content list e root = option_and_then_some (λ form. list_as form content) (form_of content) list e (λ form is reads. plain-as content form list reads root)

pub root-plain : (heap : Heap) (cell : ℕ) (list : SubkeysList) → list_at heap cell ≡ Some list → list.form ≡ IndexRoot → list.entries ≡ map plain (offsets_in list.entries)
root-plain heap cell list e root = option_and_then_some list_of (heap cell) list e (λ content here reads. plain-of content list reads root)
