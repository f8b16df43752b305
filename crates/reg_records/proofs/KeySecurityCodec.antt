-- Key securities, written and read back.
use Rattle.std.proofs.Common.{◌≡◌, ℕ, ◌+◌, ◌^◌, ◌<◌, ◌≤◌, true, not, List, [], ◌++◌, length, get_or, take, drop, lit≤, ◌==◌, ◌&&◌, refl, sym, ap, ◌∙◌, arith, length-append}
use Rattle.std.proofs.lemmas.Bool.{le-ltb, ltb-false, not-false, cond-false}
use Rattle.std.proofs.Math.Seq.{take-append_seam}
use Rattle.std.specs.Prelude.{Ok, Some, IsSome}
use Rattle.byteorder.specs.Numbers.{little_number-reads_back}
use Rattle.byteorder.specs.Endian.{little_bytes, little_number}
use Rattle.reg_heap.specs.ByteWords.{word, splice}
use Rattle.reg_records.specs.declared.sk.SecurityFields.{SecurityFields}
use Rattle.reg_arena.specs.Arena.{Bins, heap_of}
use Rattle.reg_records.specs.Letters.{is_signed}
use Rattle.reg_records.specs.RecordCells.{Heap, HasRoom, WritesCell, held}
use Rattle.reg_records.proofs.RecordWriting.{read_at-same, read_at-open, read_at-made, read_at-room, read_at-changed, no_fault, same_ok}
use Rattle.reg_records.proofs.SplicedNumbers.{length-splice, get_or-below, number-below, number-above, drop-within, drop-above}
use Rattle.reg_records.specs.KeySecurities.{KeySecurityRecord, FitSecurity, sk_fields_of, sk_of, sk_bytes, security_at}

sk-made : (content : List ℕ) → 20 ≤ length content → is_signed 115 107 content ≡ true → 20 + word content 16 ≤ length content
    → sk_of content ≡ Ok (record { fields = sk_fields_of content; descriptor = take (word content 16) (drop 20 content) })
unfolding sk_of
sk-made content long signed enough =
    cond-false _ _ _ (le-ltb _ _ long) ∙ (cond-false _ _ _ (ap not signed) ∙ cond-false _ _ _ (le-ltb _ _ enough))

sk-reads_back : (fields : SecurityFields) (descriptor rest : List ℕ) → FitSecurity fields → length descriptor < 2 ^ 32
    → sk_of (sk_bytes fields descriptor ++ rest) ≡ Ok (record { fields = fields; descriptor = descriptor })
unfolding sk_bytes word
sk-reads_back fields descriptor rest fit size =
    let content : List ℕ = sk_bytes fields descriptor ++ rest in
    let at_16 : word content 16 ≡ length descriptor = little_number-reads_back 4 (length descriptor) [] size in
    let at_4 : word content 4 ≡ fields.flink = little_number-reads_back 4 fields.flink [] fit.flink in
    let at_8 : word content 8 ≡ fields.blink = little_number-reads_back 4 fields.blink [] fit.blink in
    let at_12 : word content 12 ≡ fields.count = little_number-reads_back 4 fields.count [] fit.count in
    let long : length content ≡ 20 + (length descriptor + length rest) = omega (arith, length-append descriptor rest) in
    let text : take (word content 16) (drop 20 content) ≡ descriptor = ap (λ n. take n (descriptor ++ rest)) at_16 ∙ take-append_seam descriptor rest in
    sk-made content (omega (arith, long)) refl (omega (arith, long, at_16))
    ∙ (λ i. Ok (record { fields = record { flink = at_4 i; blink = at_8 i; count = at_12 i }; descriptor = text i }))

-- a cell that a key security was written into reads as it
pub security_at-written : (old new : Bins) (cell : ℕ) (fields : SecurityFields) (descriptor rest : List ℕ)
    → WritesCell old new cell (sk_bytes fields descriptor ++ rest) → FitSecurity fields → length descriptor < 2 ^ 32
    → security_at (heap_of new) cell ≡ Some (record { fields = fields; descriptor = descriptor })
unfolding security_at
security_at-written old new cell fields descriptor rest written fit size =
    read_at-made sk_of (heap_of new) cell _ _ written.here (sk-reads_back fields descriptor rest fit size)

-- a key security stands in one cell
pub security_at-same : (old new : Heap) (cell : ℕ) → new cell ≡ old cell → security_at new cell ≡ security_at old cell
unfolding security_at
security_at-same old new cell same = read_at-same sk_of old new cell same

-- what a reader of the cell's content answers
pub security_at-made : (heap : Heap) (cell : ℕ) (content : List ℕ) (r : KeySecurityRecord) → heap cell ≡ Some content → sk_of content ≡ Ok r → security_at heap cell ≡ Some r
unfolding security_at
security_at-made heap cell content r here reads = read_at-made sk_of heap cell content r here reads

-- the content of a cell that holds a key security
pub security_at-open : (heap : Heap) (cell : ℕ) (r : KeySecurityRecord) → security_at heap cell ≡ Some r → (content : List ℕ) × (heap cell ≡ Some content) × (sk_of content ≡ Ok r)
unfolding security_at
security_at-open heap cell r e = read_at-open sk_of heap cell r e

-- what a content that is a key security is like
pub record IsSecurity (content : List ℕ) (r : KeySecurityRecord) : Type 0 where
  pub long : 20 ≤ length content
  pub signed : is_signed 115 107 content ≡ true
  pub enough : 20 + word content 16 ≤ length content
  pub same : r ≡ record { fields = sk_fields_of content; descriptor = take (word content 16) (drop 20 content) }

pub sk-open : (content : List ℕ) (r : KeySecurityRecord) → sk_of content ≡ Ok r → IsSecurity content r
unfolding sk_of
sk-open content r e =
    let a = no_fault _ _ _ r e in
    let b = no_fault _ _ _ r a.1 in
    let d = no_fault _ _ _ r b.1 in
    record { long = ltb-false _ _ a.0; signed = not-false _ b.0; enough = ltb-false _ _ d.0; same = same_ok _ _ (sym d.1) }

-- another count
pub sk-counted : (count : ℕ) → count < 2 ^ 32 → (content : List ℕ) (r : KeySecurityRecord) → sk_of content ≡ Ok r
    → sk_of (splice 12 (little_bytes 4 count) content) ≡ Ok (record r { fields = record r.fields { count = count } })
unfolding word
sk-counted count fit content r is =
    let piece : List ℕ = little_bytes 4 count in
    let open_is = sk-open content r is in
    let f : 12 + length piece ≤ length content = let l = open_is.long in omega arith in
    let new : List ℕ = splice 12 piece content in
    let same_length : length new ≡ length content = length-splice 12 piece content f in
    let size : word new 16 ≡ word content 16 = number-above 12 piece content f 4 16 (lit≤ tt) in
    let flink : word new 4 ≡ word content 4 = number-below 12 piece content f 4 4 (lit≤ tt) in
    let blink : word new 8 ≡ word content 8 = number-below 12 piece content f 4 8 (lit≤ tt) in
    let counted : word new 12 ≡ count = ap (little_number 4) (drop-within 12 piece content f 0 (lit≤ tt)) ∙ little_number-reads_back 4 count [] fit in
    let first : get_or new 0 0 ≡ get_or content 0 0 = get_or-below 12 piece content f 0 (lit≤ tt) in
    let second : get_or new 1 0 ≡ get_or content 1 0 = get_or-below 12 piece content f 1 (lit≤ tt) in
    let signed : is_signed 115 107 new ≡ true = ap (λ x. (x == 115) && (get_or new 1 0 == 107)) first ∙ ap (λ x. (get_or content 0 0 == 115) && (x == 107)) second ∙ open_is.signed in
    let behind : drop 20 new ≡ drop 20 content = drop-above 12 piece content f 20 (lit≤ tt) in
    let text : take (word new 16) (drop 20 new) ≡ take (word content 16) (drop 20 content) = ap (λ n. take n (drop 20 new)) size ∙ ap (take (word content 16)) behind in
    let long = open_is.long in
    let enough = open_is.enough in
    sk-made new (omega arith) signed (omega arith)
    ∙ ((λ i. Ok (record { fields = record { flink = flink i; blink = blink i; count = counted i }; descriptor = text i }))
    ∙ ap (λ (k : KeySecurityRecord). Ok (record k { fields = record k.fields { count = count } })) (sym open_is.same))

-- another next one
pub sk-led : (flink : ℕ) → flink < 2 ^ 32 → (content : List ℕ) (r : KeySecurityRecord) → sk_of content ≡ Ok r
    → sk_of (splice 4 (little_bytes 4 flink) content) ≡ Ok (record r { fields = record r.fields { flink = flink } })
unfolding word
sk-led flink fit content r is =
    let piece : List ℕ = little_bytes 4 flink in
    let open_is = sk-open content r is in
    let f : 4 + length piece ≤ length content = let l = open_is.long in omega arith in
    let new : List ℕ = splice 4 piece content in
    let same_length : length new ≡ length content = length-splice 4 piece content f in
    let size : word new 16 ≡ word content 16 = number-above 4 piece content f 4 16 (lit≤ tt) in
    let to_flink : word new 4 ≡ flink = ap (little_number 4) (drop-within 4 piece content f 0 (lit≤ tt)) ∙ little_number-reads_back 4 flink [] fit in
    let blink : word new 8 ≡ word content 8 = number-above 4 piece content f 4 8 (lit≤ tt) in
    let counted : word new 12 ≡ word content 12 = number-above 4 piece content f 4 12 (lit≤ tt) in
    let first : get_or new 0 0 ≡ get_or content 0 0 = get_or-below 4 piece content f 0 (lit≤ tt) in
    let second : get_or new 1 0 ≡ get_or content 1 0 = get_or-below 4 piece content f 1 (lit≤ tt) in
    let signed : is_signed 115 107 new ≡ true = ap (λ x. (x == 115) && (get_or new 1 0 == 107)) first ∙ ap (λ x. (get_or content 0 0 == 115) && (x == 107)) second ∙ open_is.signed in
    let behind : drop 20 new ≡ drop 20 content = drop-above 4 piece content f 20 (lit≤ tt) in
    let text : take (word new 16) (drop 20 new) ≡ take (word content 16) (drop 20 content) = ap (λ n. take n (drop 20 new)) size ∙ ap (take (word content 16)) behind in
    let long = open_is.long in
    let enough = open_is.enough in
    sk-made new (omega arith) signed (omega arith)
    ∙ ((λ i. Ok (record { fields = record { flink = to_flink i; blink = blink i; count = counted i }; descriptor = text i }))
    ∙ ap (λ (k : KeySecurityRecord). Ok (record k { fields = record k.fields { flink = flink } })) (sym open_is.same))

-- another one before
pub sk-led_back : (blink : ℕ) → blink < 2 ^ 32 → (content : List ℕ) (r : KeySecurityRecord) → sk_of content ≡ Ok r
    → sk_of (splice 8 (little_bytes 4 blink) content) ≡ Ok (record r { fields = record r.fields { blink = blink } })
unfolding word
sk-led_back blink fit content r is =
    let piece : List ℕ = little_bytes 4 blink in
    let open_is = sk-open content r is in
    let f : 8 + length piece ≤ length content = let l = open_is.long in omega arith in
    let new : List ℕ = splice 8 piece content in
    let same_length : length new ≡ length content = length-splice 8 piece content f in
    let size : word new 16 ≡ word content 16 = number-above 8 piece content f 4 16 (lit≤ tt) in
    let flink : word new 4 ≡ word content 4 = number-below 8 piece content f 4 4 (lit≤ tt) in
    let to_blink : word new 8 ≡ blink = ap (little_number 4) (drop-within 8 piece content f 0 (lit≤ tt)) ∙ little_number-reads_back 4 blink [] fit in
    let counted : word new 12 ≡ word content 12 = number-above 8 piece content f 4 12 (lit≤ tt) in
    let first : get_or new 0 0 ≡ get_or content 0 0 = get_or-below 8 piece content f 0 (lit≤ tt) in
    let second : get_or new 1 0 ≡ get_or content 1 0 = get_or-below 8 piece content f 1 (lit≤ tt) in
    let signed : is_signed 115 107 new ≡ true = ap (λ x. (x == 115) && (get_or new 1 0 == 107)) first ∙ ap (λ x. (get_or content 0 0 == 115) && (x == 107)) second ∙ open_is.signed in
    let behind : drop 20 new ≡ drop 20 content = drop-above 8 piece content f 20 (lit≤ tt) in
    let text : take (word new 16) (drop 20 new) ≡ take (word content 16) (drop 20 content) = ap (λ n. take n (drop 20 new)) size ∙ ap (take (word content 16)) behind in
    let long = open_is.long in
    let enough = open_is.enough in
    sk-made new (omega arith) signed (omega arith)
    ∙ ((λ i. Ok (record { fields = record { flink = flink i; blink = to_blink i; count = counted i }; descriptor = text i }))
    ∙ ap (λ (k : KeySecurityRecord). Ok (record k { fields = record k.fields { blink = blink } })) (sym open_is.same))

-- a key security has room for its fixed part
pub security-room : (heap : Heap) (cell size : ℕ) → size ≤ 20 → IsSome (security_at heap cell) → HasRoom heap cell size
unfolding security_at
security-room heap cell size small some = read_at-room sk_of 20 (λ content r is. (sk-open content r is).long) heap cell size small some

-- what a part written over does to a key security
pub security-changed : (at : ℕ) (piece : List ℕ) (change : KeySecurityRecord → KeySecurityRecord) → ((content : List ℕ) (r : KeySecurityRecord) →
    sk_of content ≡ Ok r → sk_of (splice at piece content) ≡ Ok (change r))
    → (old new : Bins) (cell : ℕ) → WritesCell old new cell (splice at piece (held (heap_of old) cell))
    → (r : KeySecurityRecord) → security_at (heap_of old) cell ≡ Some r → security_at (heap_of new) cell ≡ Some (change r)
unfolding security_at
security-changed at piece change changes old new cell written r e = read_at-changed sk_of at piece change changes old new cell written r e
