-- Parts of an image, copied to a room.
use Rattle.std.proofs.Common.{◌≡◌, ℕ, ◌+◌, ◌-◌, ◌/◌, ◌%◌, ◌*◌, ◌<◌, ◌≤◌, min, ◌++◌, List, [], length, take, drop, sym, refl, ap, ◌∙◌, arith, append_assoc}
use Rattle.std.proofs.Common.{take_all, take-take, take-add, drop-drop, take_at, drop_at, length-take, length-drop, length-append, length-take-le}
use Rattle.std.proofs.lemmas.List.{drop_all, drop_min, drop-append-le, drop-take}
use Rattle.reg_arena.specs.Arena.{IsSound}
use Rattle.reg_arena.specs.Cells.{IsInBin}
use Rattle.reg_arena.proofs.Tiling.BinPieces.{page-in_bin}
use Rattle.reg_tree_image.specs.BaseBlock.{block_of}
use Rattle.reg_tree_image.specs.Images.{image_of}
use Rattle.reg_tree_image.specs.Rooms.{filled}
use Rattle.reg_tree_image.proofs.Devices.OwnImages.{block-length}

-- bytes in front of others: the others fill what of the room is behind the first
pub filled-more : (a b room : List ℕ) → length a ≤ length room →
    take (length a) (filled a room) ++ filled b (drop (length a) (filled a room)) ≡ filled (a ++ b) room
filled-more a b room fits =
    let behind = drop (length a) room in
    let first : filled a room ≡ a ++ behind = ap (λ xs. xs ++ behind) (take_all (length room) a fits) in
    let long : length room ≡ length a + length behind = simp (length-drop) (omega (arith, fits)) in
    let front : take (length a) (filled a room) ≡ a = ap (take (length a)) first ∙ take_at a behind (length a) refl in
    let rest : drop (length a) (filled a room) ≡ behind = ap (drop (length a)) first ∙ drop_at a behind (length a) refl in
    let end : drop (length b) behind ≡ drop (length (a ++ b)) room =
    drop-drop (length b) (length a) room ∙ ap (λ n. drop n room) (sym (length-append a b)) in
    let both : take (length room) (a ++ b) ≡ a ++ take (length behind) b =
    ap (λ n. take n (a ++ b)) long ∙ (take-add (length a) (length behind) (a ++ b)
    ∙ (ap (λ xs. xs ++ take (length behind) (drop (length a) (a ++ b))) (take_at a b (length a) refl)
    ∙ ap (λ xs. a ++ take (length behind) xs) (drop_at a b (length a) refl))) in
    ap (λ xs. xs ++ filled b (drop (length a) (filled a room))) front
    ∙ (ap (λ xs. a ++ filled b xs) rest
    ∙ (ap (λ xs. a ++ (take (length behind) b ++ xs)) end
    ∙ (sym (append_assoc a (take (length behind) b) (drop (length (a ++ b)) room))
    ∙ ap (λ xs. xs ++ drop (length (a ++ b)) room) (sym both))))

pub length-filled : (bytes room : List ℕ) → length (filled bytes room) ≡ length room
length-filled bytes room = simp (length-append, length-take, length-drop) (omega arith)

-- so many bytes fill all that they can where the room has no more place, or there are no more bytes
pub filled-room : (n : ℕ) (bytes room : List ℕ) → length room ≤ n → filled (take n bytes) room ≡ filled bytes room
filled-room n bytes room full =
    let same : min (length (take n bytes)) (length room) ≡ min (length bytes) (length room) = simp length-take (omega (arith, full)) in
    ap (λ xs. xs ++ drop (length (take n bytes)) room) (take-take (length room) n bytes full)
    ∙ ap (λ xs. take (length room) bytes ++ xs)
    (sym (drop_min (length (take n bytes)) room) ∙ (ap (λ k. drop k room) same ∙ drop_min (length bytes) room))

pub filled-all : (n : ℕ) (bytes room : List ℕ) → length bytes ≤ n → filled (take n bytes) room ≡ filled bytes room
filled-all n bytes room all = ap (λ xs. filled xs room) (take_all n bytes all)

-- from a place in a page to the page's end
pub piece-of : (bytes : List ℕ) (page r : ℕ) → r ≤ 4096 → drop r (take 4096 (drop page bytes)) ≡ take (4096 - r) (drop (page + r) bytes)
piece-of bytes page r within =
    let whole : 4096 ≡ r + (4096 - r) = omega (arith, within) in
    ap (λ n. drop r (take n (drop page bytes))) whole
    ∙ (drop-take r (4096 - r) (drop page bytes) ∙ ap (take (4096 - r)) (drop-drop r page bytes))

module _ (bytes room : List ℕ) (from done : ℕ) where
  -- how far the bins were copied
  pub record IsFilledTo (now : List ℕ) : Type 0 where
    pub within : from + done ≤ length bytes
    pub is : now ≡ filled (take done (drop from bytes)) room

  pub long-to : (now : List ℕ) → IsFilledTo now → length now ≡ length room
  long-to now f = ap length f.is ∙ length-filled (take done (drop from bytes)) room

  -- one page more, or the rest of the first
  pub page-filled : (now page new : List ℕ) → IsFilledTo now → done < length now → (k : ℕ) → k ≡ 4096 - (from + done) % 4096 →
      page ≡ take 4096 (drop ((from + done) / 4096 * 4096) bytes) →
      new ≡ take done now ++ filled (drop ((from + done) % 4096) page) (drop done now) →
      new ≡ filled (take (done + k) (drop from bytes)) room
  page-filled now page new f less k ks is e =
      let front = take done (drop from bytes) in
      let w = f.within in
      let long : length front ≡ done = length-take-le done (drop from bytes) (simp length-drop (omega (arith, w))) in
      let lt : done < length room = rw (sym (long-to now f)) less in
      let fits : length front ≤ length room = omega (arith, long, lt) in
      let r = (from + done) % 4096 in
      let place : (from + done) / 4096 * 4096 + r ≡ from + done = omega arith in
      let piece : drop r page ≡ take k (drop done (drop from bytes)) =
      ap (drop r) is ∙ (piece-of bytes ((from + done) / 4096 * 4096) r (omega arith)
      ∙ (ap (λ n. take (4096 - r) (drop n bytes)) place
      ∙ (ap (λ n. take n (drop (from + done) bytes)) (sym ks) ∙ ap (take k) (sym (drop-drop done from bytes))))) in
      e ∙ (ap (λ xs. take done now ++ filled xs (drop done now)) piece
      ∙ (ap (λ xs. take done xs ++ filled (take k (drop done (drop from bytes))) (drop done xs)) f.is
      ∙ (ap (λ n. take n (filled front room) ++ filled (take k (drop done (drop from bytes))) (drop n (filled front room))) (sym long)
      ∙ (filled-more front (take k (drop done (drop from bytes))) room fits
      ∙ ap (λ xs. filled xs room) (sym (take-add done k (drop from bytes)))))))

  -- all of them
  pub filled-by_room : (now : List ℕ) → IsFilledTo now → length now ≤ done → now ≡ filled (drop from bytes) room
  filled-by_room now f full = f.is ∙ filled-room done (drop from bytes) room (rw (sym (long-to now f)) full)

  pub filled-by_bytes : (now : List ℕ) → IsFilledTo now → length bytes ≤ from + done → now ≡ filled (drop from bytes) room
  filled-by_bytes now f all = f.is ∙ filled-all done (drop from bytes) room (simp length-drop (omega (arith, all)))

pub filled-none : (bytes room : List ℕ) (from : ℕ) → room ≡ filled (take 0 (drop from bytes)) room
filled-none bytes room from = ap (λ xs. xs ++ room) (sym (take_all (length room) [] (omega arith)))

-- the page of a place in the bins
module _ (bytes heads : List ℕ) (sound : IsSound bytes heads) where
  pub page-there_at : (at : ℕ) → at < length bytes → IsInBin bytes (at / 4096 * 4096) 4096
  page-there_at at inside =
      let p = sound.pages in
      page-in_bin bytes sound.bins sound.bins_are (at / 4096 * 4096) (at / 4096 * 4096) 4096 (omega arith) (omega (arith, inside)) (omega arith)
      (omega arith)

  pub page-long : (at : ℕ) → at < length bytes → (page : List ℕ) → page ≡ take 4096 (drop (at / 4096 * 4096) bytes) → length page ≡ 4096
  page-long at inside page is =
      let p = sound.pages in
      ap length is ∙ length-take-le 4096 (drop (at / 4096 * 4096) bytes) (simp length-drop (omega (arith, p, inside)))

  pub page-within : (from done : ℕ) → from + done < length bytes → from + (done + (4096 - (from + done) % 4096)) ≤ length bytes
  page-within from done inside = let p = sound.pages in omega (arith, p, inside)

-- a base block, and the bins behind it
module _ (block bins room : List ℕ) (offset : ℕ) (long : length block ≡ 4096) where
  pub parts-bins : (now : List ℕ) → 4096 ≤ offset → now ≡ filled (drop (offset - 4096) bins) room → now ≡ filled (drop offset (block ++ bins)) room
  parts-bins now behind e =
      let place : 4096 + (offset - 4096) ≡ offset = omega (arith, behind) in
      e ∙ ap (λ xs. filled xs room)
      (ap (drop (offset - 4096)) (sym (drop_at block bins 4096 long))
      ∙ (drop-drop (offset - 4096) 4096 (block ++ bins) ∙ ap (λ n. drop n (block ++ bins)) place))

  module _ (before : offset < 4096) where
    front-long : length (drop offset block) ≡ 4096 - offset
    front-long = length-drop offset block ∙ ap (λ n. n - offset) long

    both : drop offset (block ++ bins) ≡ drop offset block ++ bins
    both = drop-append-le offset block bins (omega (arith, before, long))

    pub parts-front : (now : List ℕ) → length now ≤ 4096 - offset → now ≡ filled (drop offset block) room →
        now ≡ filled (drop offset (block ++ bins)) room
    parts-front now short e =
        let a = drop offset block in
        let fits : length room ≤ length a = rw (sym (ap length e ∙ length-filled a room), front-long) short in
        e ∙ (ap (λ xs. filled xs room) (sym (take_at a bins (length a) refl))
        ∙ (filled-room (length a) (a ++ bins) room fits ∙ ap (λ xs. filled xs room) (sym both)))

    pub parts-both : (now new : List ℕ) → 4096 - offset < length now → now ≡ filled (drop offset block) room →
        new ≡ take (4096 - offset) now ++ filled bins (drop (4096 - offset) now) → new ≡ filled (drop offset (block ++ bins)) room
    parts-both now new more e is =
        let a = drop offset block in
        let fits : 4096 - offset < length room = rw (sym (ap length e ∙ length-filled a room)) more in
        let l = front-long in
        is ∙ (ap (λ n. take n now ++ filled bins (drop n now)) (sym l)
        ∙ (ap (λ xs. take (length a) xs ++ filled bins (drop (length a) xs)) e
        ∙ (filled-more a bins room (omega (arith, l, fits)) ∙ ap (λ xs. filled xs room) (sym both))))

-- an offset behind an image's end leaves a room as it was
pub none-filled : (bytes room : List ℕ) (offset : ℕ) → length bytes ≤ offset → room ≡ filled (drop offset bytes) room
none-filled bytes room offset behind =
    filled-none [] room 0 ∙ ap (λ xs. filled xs room) (sym (drop_all offset bytes behind))

pub image-passed : (bins : List ℕ) (root moment sequence : ℕ) (room : List ℕ) (offset : ℕ) → 4096 + length bins < offset →
    room ≡ filled (drop offset (image_of bins root moment sequence)) room
unfolding image_of
image-passed bins root moment sequence room offset behind =
    let block = block_of (length bins) root moment sequence in
    let long = block-length (length bins) root moment sequence in
    none-filled (block ++ bins) room offset (simp (length-append, long) (omega (arith, behind)))
