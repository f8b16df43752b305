-- What is read of a file ahead.
use Rattle.std.proofs.Common.{◌≡◌, ◌∙◌, ℕ, ◌<◌, ◌≤◌, List, [], ◌++◌, length, take, drop, Bool, true, false, nat_lt, sym, ap, ap₂, subst, refl, arith}
use Rattle.std.proofs.Common.{append-nil}
use Rattle.std.specs.Prelude.{Option, Some, None}
use Rattle.std.specs.Fmt.{option_append}
use Rattle.std.specs.Io.KnownBytes.{Consumes, IsAtEnd}
use Rattle.std.proofs.KnownBytes.{Consumes-nil, Consumes-trans}
use Rattle.std.proofs.Math.Seq.{take-append_seam, drop-append_seam}
use Rattle.std.proofs.lemmas.List.{take_all, drop_all}
use Rattle.std.proofs.lemmas.Bool.Decides.{nat_tests}
use Rattle.std.proofs.lemmas.Option.{same_Some}
use Rattle.reg_files.specs.Mended.{is_torn_block, mended_block}
use Rattle.reg_files.specs.Looking.{as_read, Warns, IsOpened}
use Rattle.reg_files.specs.Internal.Fronts.{AreBytesOf, IsFront}

-- nothing so far
pub read_none : (at : Option (List ℕ)) (bytes : List ℕ) → bytes ≡ [] → Consumes at at bytes
read_none at bytes none = subst (λ (w : List ℕ). Consumes at at w) (sym none) (Consumes-nil at)

-- one part more
pub read_more : (a b c : Option (List ℕ)) (bytes part new : List ℕ) → Consumes a b bytes → Consumes b c part → new ≡ bytes ++ part →
    Consumes a c new
read_more a b c bytes part new before read same = subst (λ (w : List ℕ). Consumes a c w) (sym same) (Consumes-trans a b c bytes part before read)

-- a part of no byte, which is the end
pub read_end : (a b c : Option (List ℕ)) (bytes part : List ℕ) (n : ℕ) → n ≡ 0 → 0 < length part → length bytes ≤ 4096 → Consumes a b bytes →
    Consumes b c (take n part) × (n ≡ 0 → 0 < length part → IsAtEnd c) → IsFront a c bytes
read_end a b c bytes part n none room within before read = record {
  consumed = read_more a b c bytes (take n part) bytes before read.0
      (sym (ap (λ (k : ℕ). bytes ++ take k part) none ∙ append-nil bytes));
  within = within;
  ends = λ _. read.1 none room;
}

-- a front is as long as a base block, or it is all
seam : (front rest : List ℕ) → length front ≤ 4096 → (length front < 4096 → rest ≡ []) →
    (take 4096 (front ++ rest) ≡ front) × (drop 4096 (front ++ rest) ≡ rest)
seam front rest within ends = go (nat_lt (length front) 4096) refl
  where
    short : nat_lt (length front) 4096 ≡ true → (take 4096 (front ++ rest) ≡ front) × (drop 4096 (front ++ rest) ≡ rest)
    short is =
        let less : length front < 4096 = grind (arith, nat_tests, is) in
        let none : rest ≡ [] = ends less in
        let all : front ++ rest ≡ front = ap (λ r. front ++ r) none ∙ append-nil front in
        (ap (take 4096) all ∙ take_all 4096 front within, ap (drop 4096) all ∙ (drop_all 4096 front within ∙ sym none))

    long : nat_lt (length front) 4096 ≡ false → (take 4096 (front ++ rest) ≡ front) × (drop 4096 (front ++ rest) ≡ rest)
    long is =
        let size : length front ≡ 4096 = grind (arith, nat_tests, is, within) in (
          ap (λ n. take n (front ++ rest)) (sym size) ∙ take-append_seam front rest,
          ap (λ n. drop n (front ++ rest)) (sym size) ∙ drop-append_seam front rest,
        )

    go : (b : Bool) → nat_lt (length front) 4096 ≡ b → (take 4096 (front ++ rest) ≡ front) × (drop 4096 (front ++ rest) ≡ rest)
    go true is = short is
    go false is = long is

-- what is read of a file whose front was mended
pub read_mended : (unread left : Option (List ℕ)) (front block : List ℕ) → IsFront unread left front → block ≡ mended_block front →
    option_append (Some block) left ≡ as_read true (option_append (Some front) left)
read_mended unread None front block is made = refl
read_mended unread (Some rest) front block is made =
    let parts = seam front rest is.within is.ends in
    ap Some (ap (λ b. b ++ rest) made ∙ ap₂ (λ b r. mended_block b ++ r) (sym parts.0) (sym parts.1))

-- the bytes of a front and what is left behind it are the reader's
pub bytes_known : (unread left : Option (List ℕ)) (front : List ℕ) → Consumes unread left front → AreBytesOf (option_append (Some front) left) unread
bytes_known None left front consumed = λ known e. cc
bytes_known (Some bytes) None front consumed = absurd consumed
bytes_known (Some bytes) (Some rest) front consumed = λ known e. ap Some (sym consumed) ∙ e

-- it was opened, and told of where it wasn't written to its end
pub opened : (unread left told told_after : Option (List ℕ)) (failed now_failed : Option ℕ) (file front : List ℕ) (is_torn_front : Bool) →
    IsFront unread left front → is_torn_front ≡ is_torn_block front → Warns is_torn_front file told told_after failed now_failed →
    IsOpened true file (option_append (Some front) left) told told_after failed now_failed
opened unread None told told_after failed now_failed file front is_torn_front is torn warns =
    record { is_warned = is_torn_front; asked = λ _. refl; torn = λ image e. cc; warns = warns }
opened unread (Some rest) told told_after failed now_failed file front is_torn_front is torn warns =
    let parts = seam front rest is.within is.ends in
    record {
      is_warned = is_torn_front;
      asked = λ _. refl;
      torn = λ image e. torn ∙ ap is_torn_block (sym parts.0 ∙ ap (take 4096) (same_Some (front ++ rest) image e));
      warns = warns;
    }

-- as it is, and nothing told
pub opened_as_it_is : (bytes told : Option (List ℕ)) (failed : Option ℕ) (file : List ℕ) → IsOpened false file bytes told told failed failed
opened_as_it_is bytes told failed file = record { is_warned = false; asked = λ e. e; torn = λ image e. refl; warns = (refl, refl) }

-- nothing was read ahead
pub read_plain : (left : Option (List ℕ)) (front : List ℕ) → front ≡ [] → option_append (Some front) left ≡ left
read_plain None front none = refl
read_plain (Some rest) front none = ap Some (ap (λ f. f ++ rest) none)

-- it was opened as it is
pub opened_plain : (is_dirty : Bool) → is_dirty ≡ false → (image left told : Option (List ℕ)) (failed : Option ℕ) (file front : List ℕ) →
    image ≡ option_append (Some front) left → front ≡ [] →
    (bytes : Option (List ℕ)) × (image ≡ as_read is_dirty bytes) × IsOpened is_dirty file bytes told told failed failed
opened_plain is_dirty plain image left told failed file front is none =
    subst (λ b. (bytes : Option (List ℕ)) × (image ≡ as_read b bytes) × IsOpened b file bytes told told failed failed) (sym plain)
    (left, is ∙ read_plain left front none, opened_as_it_is left told failed file)

-- a vector whose bytes were written over is as long as it was
pub written : (len : ℕ) (new items : List ℕ) → len ≡ length items → length new ≡ length items → take len (new ++ drop (length new) items) ≡ new
written len new items size same =
    let behind : drop (length new) items ≡ [] = drop_all (length new) items (omega (arith, same)) in
    ap (λ r. take len (new ++ r)) behind ∙ (ap (take len) (append-nil new) ∙ take_all len new (omega (arith, size, same)))
