-- A path of an image that was read, or of a part of it.
use Rattle.std.proofs.Common.{◌≡◌, ℕ, ◌+◌, ◌<◌, ◌≤◌, ◌++◌, nat_le, Option, Some, Result, Ok, Err, IfOk, IfErr, List, length, take, drop}
use Rattle.std.proofs.Common.{refl, sym, ap, ◌∙◌, subst, arith}
use Rattle.std.proofs.Math.Seq.{take-length}
use Rattle.std.specs.Prelude.{MatchResult}
use Rattle.std.specs.Io.KnownBytes.{Consumes}
use Rattle.std.proofs.KnownBytes.{Consumes-trans}
use Rattle.reg_heap.specs.ByteWords.{word}
use Rattle.reg_heap.specs.Heaps.{Heap}
use Rattle.reg_heap.specs.Paths.{Tree}
use Rattle.reg_arena.specs.declared.Cell.{Cell}
use Rattle.reg_arena.specs.Cells.{BinPlace, cells_of_bins, content_in, cell_at}
use Rattle.reg_tree_image.specs.declared.LoadFault.{LoadFault}
use Rattle.reg_tree_image.specs.declared.LoadFault.TheVariants.{Read, Short, Bins, Cells, Memory}
use Rattle.reg_tree_image.specs.declared.block.BaseBlock.{BaseBlock}
use Rattle.reg_tree_image.specs.declared.table.CellState.{CellState}
use Rattle.reg_tree_image.specs.WalkSteps.{Seen, Step, ◌>>=◌, ◌>>◌, onward, check, given}
use Rattle.reg_tree_image.specs.BaseBlock.{block_walk}
use Rattle.reg_tree_image.specs.Images.{nothing, fault_in}
use Rattle.reg_tree_image.specs.Loads.{IsBlamed, asked_for}
use Rattle.reg_tree_image.specs.PathLoads.{Walk, bins_path, image_path, result_in, looked_up, IsMissed, Misses, Finds, ListsThere, value_walk}
use Rattle.reg_tree_image.specs.PathLoads.{IsValueOf, key_walk, IsKeyOf}
use Rattle.reg_tree_image.specs.Internal.CellScans.{IsScanned, IsNoScan}
use Rattle.reg_tree_image.specs.Internal.InputParts.{IsCut, IsGivenUp}
use Rattle.reg_tree_image.specs.KeyListing.{KeyRead, Listing, IsListed}
use Rattle.reg_tree_image.specs.Internal.KeysRead.{HasListing}
use Rattle.reg_tree_image.specs.Internal.ReaderOutcomes.{Fails}
use Rattle.reg_text.specs.Failures.{Stays}
use Rattle.reg_tree_image.proofs.Devices.BlockTests.{block-meets}
use Rattle.reg_tree_image.proofs.Devices.FaultsOfSteps.{IsOfImage}
use Rattle.reg_tree_image.proofs.Devices.FaultsOfPaths.{WalkMeets, value-meets, key-meets, path-meets}
use Rattle.reg_tree_image.proofs.Devices.PathsAsLoaded.{Answers, value-answers, key-answers, found-as-loaded, missed-as-loaded}
use Rattle.reg_tree_image.proofs.Devices.TreesOfBins.{heap-is}
use Rattle.reg_tree_image.proofs.Devices.LoadedImages.{at-least, too-few, asked-first, asked-bad, size-is, block-is, asked-good, behind, has-block}
use Rattle.reg_tree_image.proofs.Devices.LoadedImages.{whole-size}

module _ {A : Type 0} (walk : Walk A) where
  -- ---- foreign bins

  module _ (bins : List ℕ) (minor root : ℕ) where
    abbrev its-path : Step A
    its-path = bins_path walk bins minor root

    abbrev cells-then : List Cell → Step A
    cells-then cells = walk (content_in bins cells) minor root

    abbrev places-then : List BinPlace → Step A
    places-then places = given Cells (cells_of_bins bins places) >>= cells-then

    -- where a header or a size is bad, or memory lacks
    pub scan-misses : (fault : LoadFault) → IsNoScan bins fault → Fails fault its-path nothing
    unfolding bins_path
    scan-misses Bins n = ap (λ places. onward places-then (given Bins places nothing)) n
    scan-misses Cells n = ap (λ places. onward places-then (given Bins places nothing)) n.1 ∙ ap (λ cells. onward cells-then (given Cells cells nothing)) n.2
    scan-misses Memory n = tt
    scan-misses fault n = absurd n

    module _ (states : List CellState) (s : IsScanned bins states) where
      -- what is left are the keys
      path-walked : its-path nothing ≡ walk (cell_at bins) minor root nothing
      unfolding bins_path
      path-walked =
          ap (λ places. onward places-then (given Bins places nothing)) s.places_are
          ∙ (ap (λ cells. onward cells-then (given Cells cells nothing)) s.cells_are
          ∙ ap (λ (heap : Heap). walk heap minor root nothing) (heap-is bins minor root states s))

      pub path-fails : (fault : LoadFault) → Fails fault (walk (cell_at bins) minor root) nothing → Fails fault its-path nothing
      path-fails Memory f = tt
      path-fails fault f = path-walked ∙ f

      pub path-is : (found : A) (after : Seen) → walk (cell_at bins) minor root nothing ≡ Ok (found, after) → result_in (its-path nothing) ≡ Ok found
      path-is found after e = ap result_in (path-walked ∙ e)

      pub path-found : (found : A) (after : Seen) → walk (cell_at bins) minor root nothing ≡ Ok (found, after) →
          {T : Type 0} (view : T → A) (r : Result T LoadFault) → IfOk r (λ x. view x ≡ found) →
          IfOk r (λ x. result_in (its-path nothing) ≡ Ok (view x))
      path-found found after e view (Ok x) v = path-is found after e ∙ ap Ok (sym v)
      path-found found after e view (Err fault) v = tt

    pub memory-misses : {T : Type 0} (r : Result T LoadFault) → IfErr r (λ fault. fault ≡ Memory) → IfErr r (λ fault. Fails fault its-path nothing)
    memory-misses (Ok x) e = tt
    memory-misses (Err fault) e = subst (λ f. Fails f its-path nothing) (sym e) tt

-- ---- images

-- a walk that meets no fault of the reader's, and finds what is the tree's where the cells load
pub record IsSound {A : Type 0} (walk : Walk A) (IsOf : Tree → A → Type 0) : Type 0 where
  pub meets : WalkMeets walk
  pub answers : Answers walk IsOf

pub value-sound : (names : List (List ℕ)) (name : List ℕ) → IsSound (value_walk names name) (IsValueOf names name)
value-sound names name = record { meets = value-meets names name; answers = value-answers names name }

pub key-sound : (names : List (List ℕ)) → IsSound (key_walk names) (IsKeyOf names)
key-sound names = record { meets = key-meets names; answers = key-answers names }

module _ {A : Type 0} {walk : Walk A} {IsOf : Tree → A → Type 0} (sound : IsSound walk IsOf) where
  -- the fault of the walk is that of the image
  fault-is : (bytes : List ℕ) (fault : LoadFault) → image_path walk bytes nothing ≡ Err fault → fault_in (looked_up walk bytes) ≡ Some fault
  unfolding looked_up
  fault-is bytes fault e = ap (λ r. fault_in (result_in r)) e

  abbrev then-block : List ℕ → BaseBlock → Step A
  then-block bytes block = check Short (nat_le (4096 + block.size) (length bytes)) >> bins_path walk (take block.size
      (drop 4096 bytes)) block.minor block.root

  short-block : (bytes : List ℕ) → length bytes < 4096 → image_path walk bytes nothing ≡ Err Short
  unfolding image_path
  short-block bytes l = rw (too-few 4096 (length bytes) l) refl

  pub missed-before-block : (fault : LoadFault) (bytes : List ℕ) (left : _) → IsCut fault 4096 bytes left →
      (length bytes ≤ 268439552) × IsMissed fault walk bytes left
  missed-before-block Read bytes left k = (omega (arith, k), let a = asked-first bytes k in omega (arith, k, a))
  missed-before-block Short bytes left k = (
    let l = k.0 in omega (arith, l),
    ((let a = asked-first bytes k.0 in let l = k.0 in omega (arith, l, a)), fault-is bytes Short (short-block bytes k.0), k.1),
  )
  missed-before-block fault bytes left k = absurd k

  module _ (head : List ℕ) (long : length head ≡ 4096) where
    bad-block : (fault : LoadFault) → block_walk head nothing ≡ Err fault → image_path walk head nothing ≡ Err fault
    unfolding image_path
    bad-block fault e =
        let l = at-least 4096 (length head) (omega (arith, long)) in
        ap (λ b. onward (λ _. block_walk head >>= then-block head) (check Short b nothing)) l ∙ ap (onward (then-block head)) e

    pub missed-at-block : (fault : LoadFault) (left : _) → block_walk head nothing ≡ Err fault → (length head ≤ 268439552) × IsMissed fault walk head left
    missed-at-block fault left e = (
      omega (arith, long),
      by fault e (fault-is head fault (bad-block fault e)) (block-meets head nothing fault e),
    )
      where
        by : (f : LoadFault) → block_walk head nothing ≡ Err f → fault_in (looked_up walk head) ≡ Some f → IsOfImage f → IsMissed f walk head left
        by Read e w i = absurd i
        by Short e w i = absurd i
        by Memory e w i = absurd i
        by f e w i = (long ∙ sym (asked-bad head long f e), w)

    module _ (block : BaseBlock) (e : block_walk head nothing ≡ Ok (block, nothing)) (more : List ℕ) where
      abbrev image : List ℕ
      image = head ++ more

      abbrev its-bins-path : Step A
      its-bins-path = bins_path walk more block.minor block.root

      opened : image_path walk image nothing ≡ then-block image block nothing
      unfolding image_path
      opened =
          let s = size-is head long block e more in
          let l = at-least 4096 (length image) (omega (arith, s)) in
          ap (λ b. onward (λ _. block_walk image >>= then-block image) (check Short b nothing)) l ∙ ap (onward (then-block image))
          (block-is head long block e more)

      short-bins : length more < block.size → image_path walk image nothing ≡ Err Short
      short-bins k =
          let s = size-is head long block e more in
          opened ∙
          ap (λ b. onward (λ _. bins_path walk (take block.size (drop 4096 image)) block.minor block.root) (check Short b nothing))
          (too-few (4096 + block.size) (length image) (omega (arith, s, k)))

      whole-path : length more ≡ block.size → image_path walk image nothing ≡ its-bins-path nothing
      whole-path k =
          let s = size-is head long block e more in
          opened ∙
          (ap (λ b. onward (λ _. bins_path walk (take block.size (drop 4096 image)) block.minor block.root) (check Short b nothing))
          (at-least (4096 + block.size) (length image) (omega (arith, s, k)))
          ∙ (ap (λ bytes. bins_path walk (take block.size bytes) block.minor block.root nothing) (behind head long block e more)
          ∙ ap (λ bytes. bins_path walk bytes block.minor block.root nothing) (ap (λ n. take n more) (sym k) ∙ take-length more)))

      pub whole-found : (found : A) → length more ≡ block.size → result_in (its-bins-path nothing) ≡ Ok found →
          looked_up walk image ≡ Ok found
      unfolding looked_up
      whole-found found k w = ap result_in (whole-path k) ∙ w

      pub missed-before-bins : (fault : LoadFault) (left : _) → block.size ≤ 268435456 → IsGivenUp fault block.size more left →
          (length image ≤ 268439552) × IsMissed fault walk image left
      missed-before-bins Read left m k =
          let s = size-is head long block e more in
          let a = asked-good head long block e more in (omega (arith, s, k, m), omega (arith, s, k, a))
      missed-before-bins Short left m k =
          let s = size-is head long block e more in
          let a = asked-good head long block e more in
          let l = k.0 in (omega (arith, s, l, m), (omega (arith, s, l, a), fault-is image Short (short-bins k.0), k.1))
      missed-before-bins Memory left m k =
          let s = size-is head long block e more in
          let a = asked-good head long block e more in (omega (arith, s, k, m), (omega (arith, s, k, a), has-block head long block e more))
      missed-before-bins fault left m k = absurd k

      pub missed-at-bins : (fault : LoadFault) (left : _) → block.size ≤ 268435456 → length more ≡ block.size → Fails fault its-bins-path nothing →
          (length image ≤ 268439552) × IsMissed fault walk image left
      missed-at-bins fault left m k w =
          let s = size-is head long block e more in
          let a = asked-good head long block e more in (omega (arith, s, k, m), by fault (omega (arith, s, k, a)) w)
        where
          by : (f : LoadFault) → length image ≡ asked_for image → Fails f its-bins-path nothing → IsMissed f walk image left
          by Read a w = absurd (path-meets walk sound.meets more block.minor block.root nothing Read w)
          by Short a w = absurd (path-meets walk sound.meets more block.minor block.root nothing Short w)
          by Memory a w = (omega (arith, a), has-block head long block e more)
          by f a w = (a, fault-is image f (whole-path k ∙ w))

      -- a fault of the path is none of the reader's
      pub path-stays : (fault : LoadFault) (old new : Option ℕ) → Fails fault its-bins-path nothing → Stays old new → IsBlamed fault old new
      path-stays Read old new w s = absurd (path-meets walk sound.meets more block.minor block.root nothing Read w)
      path-stays fault old new w s = s

module _ {A : Type 0} {walk : Walk A} {IsOf : Tree → A → Type 0} (sound : IsSound walk IsOf) {unread left : Option (List ℕ)} where
  -- so much was read, and looking ended there
  pub missed-here : {fault : LoadFault} (image : List ℕ) → Consumes unread left image → (length image ≤ 268439552) × IsMissed fault walk image left →
      Misses fault walk unread left
  missed-here {fault} image c m =
      record { image = image; consumed = c; within = m.0; missed = m.1; as_loaded = missed-as-loaded walk IsOf sound.answers fault image left m.1 }

  -- an image was read, and this found in it
  pub found-here : {found : A} (image : List ℕ) → Consumes unread left image → length image ≡ 4096 + word image 40 →
      looked_up walk image ≡ Ok found →
      Finds walk IsOf unread left found
  found-here {found} image c s e = record { image = image; consumed = c; size = s; finds = e; as_loaded = found-as-loaded walk IsOf sound.answers image found e }

-- the bins were read behind a base block that passes, and looked through
module _ {A : Type 0} {walk : Walk A} {IsOf : Tree → A → Type 0} (sound : IsSound walk IsOf) (unread mid left : Option (List ℕ)) (head : List ℕ)
    (long : length head ≡ 4096) (block : BaseBlock)
    (passed : block_walk head nothing ≡ Ok (block, nothing)) (small : block.size ≤ 268435456)
    (bins more : List ℕ) (same : more ≡ bins) (sized : length bins ≡ block.size) (first : Consumes unread mid head) (then : Consumes mid left bins) where
  long-enough : length more ≡ block.size
  long-enough = ap length same ∙ sized

  all : Consumes unread left (head ++ more)
  all = Consumes-trans unread mid left head more first (subst (Consumes mid left) (sym same) then)

  abbrev path-step : Step A
  path-step = bins_path walk more block.minor block.root

  pub bins-has : (found : A) → result_in (path-step nothing) ≡ Ok found → Finds walk IsOf unread left found
  bins-has found e =
      found-here sound (head ++ more) all (whole-size head long block passed more long-enough)
      (whole-found sound head long block passed more found long-enough e)

  pub bins-found : {T : Type 0} (view : T → A) (r : Result T LoadFault) → IfOk r (λ x. result_in (path-step nothing) ≡ Ok (view x)) →
      IfOk r (λ x. Finds walk IsOf unread left (view x))
  bins-found view (Ok x) e = bins-has (view x) e
  bins-found view (Err fault) e = tt

  pub bins-missed : {T : Type 0} (r : Result T LoadFault) → IfErr r (λ fault. Fails fault path-step nothing) →
      IfErr r (λ fault. Misses fault walk unread left)
  bins-missed (Ok x) f = tt
  bins-missed (Err fault) f = missed-here sound (head ++ more) all (missed-at-bins sound head long block passed more fault left small long-enough f)

  pub bins-blamed : {T : Type 0} (r : Result T LoadFault) (old new : Option ℕ) → IfErr r (λ fault. Fails fault path-step nothing) → Stays old new →
      MatchResult r (λ _. Stays old new) (λ fault. IsBlamed fault old new)
  bins-blamed (Ok x) old new f s = s
  bins-blamed (Err fault) old new f s = path-stays sound head long block passed more fault old new f s

-- ---- the key that is listed

pub listing-found : (names : List (List ℕ)) (bins : List ℕ) (minor root : ℕ) (states : List CellState) → IsScanned bins states →
    (found : Option KeyRead) (after : Seen) → key_walk names (cell_at bins) minor root nothing ≡ Ok (found, after) →
    {T : Type 0} (view : T → Option Listing) (r : Result T LoadFault) → IfOk r (λ x. IsListed found (view x)) → IfOk r
    (λ x. HasListing bins minor root names (view x))
listing-found names bins minor root states s found after e view (Ok x) l = (found, path-is (key_walk names) bins minor root states s found after e, l)
listing-found names bins minor root states s found after e view (Err fault) l = tt

pub listing-there : (names : List (List ℕ)) (unread mid left : Option (List ℕ)) (head : List ℕ) (long : length head ≡ 4096) (block : BaseBlock)
    (passed : block_walk head nothing ≡ Ok (block, nothing)) (small : block.size ≤ 268435456) (bins more : List ℕ) (same : more ≡ bins)
    (sized : length bins ≡ block.size)
    (first : Consumes unread mid head) (then : Consumes mid left bins) → {T : Type 0} (view : T → Option Listing) (r : Result T LoadFault) →
    IfOk r (λ x. HasListing more block.minor block.root names (view x)) → IfOk r (λ x. ListsThere unread left names (view x))
listing-there names unread mid left head long block passed small bins more same sized first then view (Ok x) h =
    record {
      read = h.0;
      finds = bins-has
          (key-sound names) unread mid left head long block passed small bins more same sized first then h.0 h.1;
      listed = h.2;
    }
listing-there names unread mid left head long block passed small bins more same sized first then view (Err fault) h = tt
