-- A hash leaf taken apart, and put together.
use Rattle.std.proofs.Common.{◌≡◌, ℕ, ◌+◌, ◌*◌, ◌≤◌, Bool, true, false, cond, Option, Some, None, IsSome, List, [], length, nat_le, refl, sym, ap, ◌∙◌, subst, arith}
use Rattle.std.specs.Prelude.{unwrap_or}
use Rattle.std.specs.Option.{option_and_then}
use Rattle.std.proofs.lemmas.Bool.{leb-true, false≢true}
use Rattle.std.proofs.lemmas.Option.{none-some, same_Some, option_and_then_some}
use Rattle.reg_heap.specs.Heaps.{Heap}
use Rattle.reg_heap.specs.ByteWords.{half}
use Rattle.reg_records.specs.declared.lists.ListForm.TheVariants.{IndexRoot, IndexLeaf, FastLeaf, HashLeaf}
use Rattle.reg_records.specs.RecordCells.{held}
use Rattle.reg_records.specs.SubkeyLists.{SubkeysList, Entry, Form, form_of, list_as, list_of, hinted_entries}
use Rattle.reg_records.proofs.SubkeyListReading.{is-read}
use Rattle.reg_index.specs.Internal.HashLeaves.{IsLeaf}
use Rattle.reg_index.proofs.LeafEntries.{length-hinted}

-- what the content of a hash leaf's cell says
pub record Says (content : List ℕ) (entries : List Entry) : Type 0 where
  pub form : form_of content ≡ Some HashLeaf
  pub count : half content 2 ≡ length entries
  pub long : 4 + 8 * length entries ≤ length content
  pub body : hinted_entries (length entries) 4 content ≡ entries

pub record Leaf (heap : Heap) (offset : ℕ) (entries : List Entry) : Type 0 where
  pub exists : IsSome (heap offset)
  pub here : heap offset ≡ Some (held heap offset)
  pub says : Says (held heap offset) entries

abbrev entries-in : SubkeysList → List Entry
entries-in list = list.entries

abbrev is_hash : Form → Bool
is_hash IndexRoot = false
is_hash IndexLeaf = false
is_hash FastLeaf = false
is_hash HashLeaf = true

test-some : {A : Type 0} (b : Bool) (x y : A) → cond b (Some x) None ≡ Some y → (b ≡ true) × (x ≡ y)
test-some true x y e = (refl, same_Some _ _ e)
test-some false x y e = absurd (none-some _ e)

other : (form : Form) (b : Bool) (read entries : List Entry) → is_hash form ≡ false →
    cond {A = Option SubkeysList} b (Some (record { form = form; entries = read })) None ≡ Some (record { form = HashLeaf; entries = entries }) → ⊥
other form b read entries n e = let s = test-some b _ _ e in false≢true (sym n ∙ ap (λ (l : SubkeysList). is_hash l.form) s.1)

says-as : (content : List ℕ) (entries : List Entry) (form : Form) → form_of content ≡ Some form → list_as form content ≡ Some (record { form = HashLeaf; entries = entries }) → Says content entries
says-as content entries IndexRoot is e = absurd (other IndexRoot _ _ entries refl e)
says-as content entries IndexLeaf is e = absurd (other IndexLeaf _ _ entries refl e)
says-as content entries FastLeaf is e = absurd (other FastLeaf _ _ entries refl e)
says-as content entries HashLeaf is e =
    let s = test-some (nat_le (4 + 8 * half content 2) (length content)) _ _ e in
    let read : hinted_entries (half content 2) 4 content ≡ entries = ap entries-in s.1 in
    let number : half content 2 ≡ length entries = sym (length-hinted (half content 2) 4 content) ∙ ap length read in
    record {
      form = is;
      count = number;
      long = subst (λ n. 4 + 8 * n ≤ length content) number (leb-true _ _ s.0);
      body = ap (λ n. hinted_entries n 4 content) (sym number) ∙ read;
    }

says-of : (content : List ℕ) (entries : List Entry) → list_of content ≡ Some (record { form = HashLeaf; entries = entries }) → Says content entries
unfolding list_of
says-of content entries e = option_and_then_some (λ form. list_as form content) (form_of content) _ e (λ form is reads. says-as content entries form is reads)

pub leaf-open : (heap : Heap) (offset : ℕ) (entries : List Entry) → IsLeaf heap offset entries → Leaf heap offset entries
leaf-open heap offset entries e =
    option_and_then_some list_of (heap offset) _ e (λ content here reads.
    let same : held heap offset ≡ content = ap (λ (o : Option (List ℕ)). unwrap_or o []) here in
    record {
      exists = subst IsSome (sym here) refl;
      here = here ∙ ap Some (sym same);
      says = subst (λ c. Says c entries) (sym same) (says-of content entries reads);
    })

pub leaf-made : (heap : Heap) (offset : ℕ) (content : List ℕ) (entries : List Entry) (count : ℕ) → heap offset ≡ Some content →
    form_of content ≡ Some HashLeaf → half content 2 ≡ count → 4 + 8 * count ≤ length content → hinted_entries count 4 content ≡ entries
    → IsLeaf heap offset entries
leaf-made heap offset content entries count here form number long body =
    ap (option_and_then list_of) here
    ∙ (is-read content (omega arith) HashLeaf form count 8 (sym number) refl long
    ∙ ap (λ es. Some (record { form = HashLeaf; entries = es })) body)
