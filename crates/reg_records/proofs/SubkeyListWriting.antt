-- Lists of subkeys, written entry by entry and read back.
use Rattle.std.proofs.Common.{◌≡◌, ℕ, ◌+◌, ◌*◌, ◌^◌, ◌<◌, ◌≤◌, List, [], ◌∷◌, ◌++◌, length, take, drop, get_or, map, Option, Some, refl, sym, ap, ◌∙◌, subst, arith, length-append, append_assoc}
use Rattle.std.specs.Prelude.{unwrap_or}
use Rattle.std.specs.List.{AllByRecursion}
use Rattle.std.proofs.lemmas.List.{take_all, take_more, length-take-le, drop-drop, append-nil}
use Rattle.byteorder.specs.Endian.{little_bytes, little_number}
use Rattle.byteorder.specs.Numbers.{little_number-reads_back}
use Rattle.reg_heap.specs.ByteWords.{half, word, splice}
use Rattle.reg_arena.specs.Arena.{Bins, heap_of}
use Rattle.reg_arena.proofs.Contents.CellWrites.{all-append}
use Rattle.reg_records.specs.RecordCells.{held, WritesCell, WritesPart, WritesRecord}
use Rattle.reg_records.specs.declared.lists.ListForm.TheVariants.{IndexRoot, IndexLeaf, FastLeaf, HashLeaf}
use Rattle.reg_records.specs.SubkeyLists.{Form, Entry, form_of, list_of, entry_size, entry_bytes, entries_bytes, head_bytes, list_bytes, entries_as, plain_entries, hinted_entries}
use Rattle.reg_records.specs.SubkeyLists.{without_hint, as_read}
use Rattle.reg_records.proofs.RecordWriting.{wrote_record}
use Rattle.reg_records.proofs.SubkeyListReading.{is-read}

pub record IsFit (entry : Entry) : Type 0 where
  pub offset : entry.offset < 2 ^ 32
  pub hint : entry.hint < 2 ^ 32

-- ---- bytes of entries

length-entry : (form : Form) (entry : Entry) → length (entry_bytes form entry) ≡ entry_size form
length-entry IndexRoot entry = refl
length-entry IndexLeaf entry = refl
length-entry FastLeaf entry = refl
length-entry HashLeaf entry = refl

length-entries : (form : Form) (entries : List Entry) → length (entries_bytes form entries) ≡ entry_size form * length entries
unfolding entries_bytes
length-entries IndexRoot [] = refl
length-entries IndexLeaf [] = refl
length-entries FastLeaf [] = refl
length-entries HashLeaf [] = refl
length-entries IndexRoot (e ∷ es) = omega (arith, length-entries IndexRoot es)
length-entries IndexLeaf (e ∷ es) = omega (arith, length-entries IndexLeaf es)
length-entries FastLeaf (e ∷ es) = omega (arith, length-entries FastLeaf es)
length-entries HashLeaf (e ∷ es) = omega (arith, length-entries HashLeaf es)

entries_bytes-push : (form : Form) (entries : List Entry) (entry : Entry) → entries_bytes form (entries ++ entry ∷ []) ≡ entries_bytes form entries ++ entry_bytes form entry
unfolding entries_bytes
entries_bytes-push form [] entry = append-nil (entry_bytes form entry)
entries_bytes-push form (e ∷ es) entry = ap (λ t. entry_bytes form e ++ t) (entries_bytes-push form es entry) ∙ sym (append_assoc (entry_bytes form e) (entries_bytes form es) (entry_bytes form entry))

-- what is written of a list so far
abbrev pub front : Form → ℕ → List Entry → List ℕ
front form count entries = head_bytes form count ++ entries_bytes form entries

length-head : (form : Form) (count : ℕ) → length (head_bytes form count) ≡ 4
length-head IndexRoot count = refl
length-head IndexLeaf count = refl
length-head FastLeaf count = refl
length-head HashLeaf count = refl

length-front : (form : Form) (count : ℕ) (entries : List Entry) → length (front form count entries) ≡ 4 + entry_size form * length entries
length-front form count entries = length-append (head_bytes form count) (entries_bytes form entries) ∙
    (ap (λ n. n + length (entries_bytes form entries)) (length-head form count) ∙ ap (λ n. 4 + n) (length-entries form entries))

-- ---- one entry more

one-written : (old between now : Bins) (cell : ℕ) (form : Form) (count : ℕ) (es : List Entry) (e : Entry)
    → WritesCell old between cell (splice 0 (front form count es) (held (heap_of old) cell))
    → WritesPart between now cell (4 + entry_size form * length es) (entry_bytes form e)
    → WritesCell old now cell (splice 0 (front form count (es ++ e ∷ [])) (held (heap_of old) cell))
unfolding splice
one-written old between now cell form count es e first second =
    let piece = entry_bytes form e in
    let whole : front form count (es ++ e ∷ []) ≡ front form count es ++ piece = ap (λ t. head_bytes form count ++ t)
    (entries_bytes-push form es e) ∙ sym (append_assoc (head_bytes form count) (entries_bytes form es) piece) in
    let behind : length (front form count es) + length piece ≡ length (front form count (es ++ e ∷ [])) = sym (length-append (front form count es) piece) ∙ ap length (sym whole) in
    let there : WritesCell between now cell (splice (length (front form count es)) piece (held (heap_of between) cell)) =
    subst (λ at. WritesCell between now cell (splice at piece (held (heap_of between) cell))) (sym (length-front form count es)) second in
    subst (WritesCell old now cell)
    (ap (λ t. t ++ drop (length (front form count es) + length piece) (held (heap_of old) cell)) (sym whole)
    ∙ ap (λ n. front form count (es ++ e ∷ []) ++ drop n (held (heap_of old) cell)) (behind ∙ sym (zero_more _)))
    (wrote_record old between now cell (front form count es) piece first there)
  where
    zero_more : (n : ℕ) → 0 + n ≡ n
    zero_more n = omega arith

pub record IsListed (old now : Bins) (cell : ℕ) (form : Form) (all : List Entry) (i : ℕ) : Type 0 where
  pub written : WritesCell old now cell (splice 0 (front form (length all) (take i all)) (held (heap_of old) cell))
  pub fit : AllByRecursion IsFit (take i all)

-- before the first entry
pub none-listed : (old now : Bins) (cell : ℕ) (form : Form) (all : List Entry) (count : ℕ) → count ≡ length all → WritesPart old now cell 0 (head_bytes form count) → IsListed old now cell form all 0
unfolding entries_bytes
none-listed old now cell form all count e w = record {
  written = subst (λ bytes. WritesCell old now cell (splice 0 bytes (held (heap_of old) cell))) (sym (append-nil (head_bytes form count)) ∙ ap (λ n. front form n []) e) w;
  fit = tt;
}

pub one-listed : (old between now : Bins) (cell : ℕ) (form : Form) (all : List Entry) (i : ℕ) (e d : Entry) → i < length all → e ≡ get_or all i d →
    IsListed old between cell form all i → WritesPart between now cell (4 + entry_size form * i) (entry_bytes form e)
    → e.offset < 2 ^ 32 → e.hint < 2 ^ 32 → IsListed old now cell form all (i + 1)
one-listed old between now cell form all i e d l is before w offset hint =
    let one : take i all ++ e ∷ [] ≡ take (i + 1) all = ap (λ x. take i all ++ x ∷ []) is ∙ sym (take_more all i d l) in
    let so_far : length (take i all) ≡ i = length-take-le i all (omega arith) in
    record {
      written = subst (λ es. WritesCell old now cell (splice 0 (front form (length all) es) (held (heap_of old) cell))) one
          (one-written old between now cell form (length all) (take i all) e before.written (subst (λ n. WritesPart between now cell (4 + entry_size form * n) (entry_bytes form e)) (sym so_far) w));
      fit = subst (AllByRecursion IsFit) one (all-append IsFit (take i all) (e ∷ []) before.fit (record { offset = offset; hint = hint }, tt));
    }

-- ---- read back

plain-on : (bytes : List Entry → List ℕ) → ((e : Entry) (es : List Entry) → bytes (e ∷ es) ≡ little_bytes 4 e.offset ++ bytes es)
    → (es : List Entry) → AllByRecursion IsFit es → (at : ℕ) (content rest : List ℕ) → drop at content ≡ bytes es ++ rest → plain_entries (length es) at content ≡ map without_hint es
unfolding word
plain-on bytes cut [] fit at content rest h = refl
plain-on bytes cut (e ∷ es) fit at content rest h =
    let here : drop at content ≡ (little_bytes 4 e.offset ++ bytes es) ++ rest = h ∙ ap (λ t. t ++ rest) (cut e es) in
    let offset : word content at ≡ e.offset = ap (little_number 4) here ∙ little_number-reads_back 4 e.offset [] fit.0.offset in
    let behind : drop (at + 4) content ≡ bytes es ++ rest = sym (drop-drop 4 at content) ∙ ap (drop 4) here in
    let others = plain-on bytes cut es fit.1 (at + 4) content rest behind in
    (λ i. record { offset = offset i; hint = 0 } ∷ others i)

hinted-on : (bytes : List Entry → List ℕ) → ((e : Entry) (es : List Entry) → bytes (e ∷ es) ≡ (little_bytes 4 e.offset ++ little_bytes 4 e.hint) ++ bytes es)
    → (es : List Entry) → AllByRecursion IsFit es → (at : ℕ) (content rest : List ℕ) → drop at content ≡ bytes es ++ rest → hinted_entries (length es) at content ≡ es
unfolding word
hinted-on bytes cut [] fit at content rest h = refl
hinted-on bytes cut (e ∷ es) fit at content rest h =
    let here : drop at content ≡ ((little_bytes 4 e.offset ++ little_bytes 4 e.hint) ++ bytes es) ++ rest = h ∙ ap (λ t. t ++ rest) (cut e es) in
    let between : drop (at + 4) content ≡ (little_bytes 4 e.hint ++ bytes es) ++ rest = sym (drop-drop 4 at content) ∙ ap (drop 4) here in
    let behind : drop (at + 8) content ≡ bytes es ++ rest = sym (drop-drop 8 at content) ∙ ap (drop 8) here in
    let offset : word content at ≡ e.offset = ap (little_number 4) here ∙ little_number-reads_back 4 e.offset [] fit.0.offset in
    let hint : word content (at + 4) ≡ e.hint = ap (little_number 4) between ∙ little_number-reads_back 4 e.hint [] fit.0.hint in
    let others = hinted-on bytes cut es fit.1 (at + 8) content rest behind in
    (λ i. record { offset = offset i; hint = hint i } ∷ others i)

entries-on : (form : Form) (es : List Entry) → AllByRecursion IsFit es → (at : ℕ) (content rest : List ℕ) →
    drop at content ≡ entries_bytes form es ++ rest → entries_as form (length es) at content ≡ as_read form es
unfolding entries_bytes
entries-on IndexRoot es fit at content rest h = plain-on (entries_bytes IndexRoot) (λ e es. refl) es fit at content rest h
entries-on IndexLeaf es fit at content rest h = plain-on (entries_bytes IndexLeaf) (λ e es. refl) es fit at content rest h
entries-on FastLeaf es fit at content rest h = hinted-on (entries_bytes FastLeaf) (λ e es. refl) es fit at content rest h
entries-on HashLeaf es fit at content rest h = hinted-on (entries_bytes HashLeaf) (λ e es. refl) es fit at content rest h

signed : (form : Form) (count : ℕ) (rest : List ℕ) → form_of (head_bytes form count ++ rest) ≡ Some form
signed IndexRoot count rest = refl
signed IndexLeaf count rest = refl
signed FastLeaf count rest = refl
signed HashLeaf count rest = refl

counted : (form : Form) (count : ℕ) (rest : List ℕ) → count < 2 ^ 16 → half (head_bytes form count ++ rest) 2 ≡ count
unfolding half
counted IndexRoot count rest l = little_number-reads_back 2 count [] l
counted IndexLeaf count rest l = little_number-reads_back 2 count [] l
counted FastLeaf count rest l = little_number-reads_back 2 count [] l
counted HashLeaf count rest l = little_number-reads_back 2 count [] l

behind-head : (form : Form) (count : ℕ) (rest : List ℕ) → drop 4 (head_bytes form count ++ rest) ≡ rest
behind-head IndexRoot count rest = refl
behind-head IndexLeaf count rest = refl
behind-head FastLeaf count rest = refl
behind-head HashLeaf count rest = refl

pub list-reads_back : (form : Form) (es : List Entry) (rest : List ℕ) → AllByRecursion IsFit es → length es < 2 ^ 16 →
    list_of (list_bytes form es ++ rest) ≡ Some (record { form = form; entries = as_read form es })
unfolding list_bytes
list-reads_back form es rest fit few =
    let body : List ℕ = entries_bytes form es ++ rest in
    let whole : list_bytes form es ++ rest ≡ head_bytes form (length es) ++ body = append_assoc (head_bytes form (length es)) (entries_bytes form es) rest in
    let size : length (head_bytes form (length es) ++ body) ≡ 4 + (entry_size form * length es + length rest) =
    length-append (head_bytes form (length es)) body ∙ (ap (λ n. n + length body) (length-head form (length es)) ∙
    ap (λ n. 4 + n) (length-append (entries_bytes form es) rest ∙ ap (λ n. n + length rest) (length-entries form es))) in
    ap list_of whole
    ∙ (is-read (head_bytes form (length es) ++ body) (omega (arith, size)) form (signed form (length es) body) (length es) (entry_size form)
    (sym (counted form (length es) body few)) refl (omega (arith, size))
    ∙ ap (λ read. Some (record { form = form; entries = read })) (entries-on form es fit 4 (head_bytes form (length es) ++ body) rest (behind-head form (length es) body)))

-- ---- all of them

module _ (old now : Bins) (cell : ℕ) (form : Form) (all : List Entry) (i : ℕ) (end : length all ≤ i) (listed : IsListed old now cell form all i) where
  every : take i all ≡ all
  every = take_all i all end

  pub all-written : WritesRecord old now cell (4 + entry_size form * length all) (list_bytes form all)
  unfolding splice list_bytes
  all-written =
      subst (WritesCell old now cell)
      (ap (λ es. front form (length all) es ++ drop (0 + length (front form (length all) es)) (held (heap_of old) cell)) every
      ∙ ap (λ n. front form (length all) all ++ drop n (held (heap_of old) cell)) (zero_more _ ∙ length-front form (length all) all))
      listed.written
    where
      zero_more : (n : ℕ) → 0 + n ≡ n
      zero_more n = omega arith

  all-fit : AllByRecursion IsFit all
  all-fit = subst (AllByRecursion IsFit) every listed.fit

  pub all-reads : length all < 2 ^ 16 → list_of (held (heap_of now) cell) ≡ Some (record { form = form; entries = as_read form all })
  all-reads few =
      ap list_of (ap (λ (o : Option (List ℕ)). unwrap_or o []) all-written.here) ∙ list-reads_back form all (drop (4 + entry_size form * length all) (held (heap_of old) cell)) all-fit few
