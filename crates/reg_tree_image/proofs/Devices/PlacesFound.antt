-- The place of a fault of an image that was read, or of a part of it.
use Rattle.std.proofs.Common.{◌≡◌, false, ℕ, suc, ◌+◌, ◌<◌, ◌≤◌, ◌++◌, nat_le, Option, Some, None, Result, Ok, Err, IfOk, IfErr, List, [], length, take, drop}
use Rattle.std.proofs.Common.{inl, inr, refl, sym, ap, ◌∙◌, subst, arith}
use Rattle.std.proofs.Math.Seq.{take-length}
use Rattle.std.specs.Option.{option_map}
use Rattle.std.specs.Io.KnownBytes.{Consumes}
use Rattle.reg_names.specs.declared.TheConstants.{PATH_LIMIT}
use Rattle.reg_heap.specs.Heaps.{Heap}
use Rattle.reg_arena.specs.declared.Cell.{Cell}
use Rattle.reg_arena.specs.Cells.{BinPlace, bins_of, cells_of_bins, content_in, cell_at}
use Rattle.reg_tree_image.specs.declared.LoadFault.{LoadFault}
use Rattle.reg_tree_image.specs.declared.LoadFault.TheVariants.{Read, Short, Bins, Cells, Memory}
use Rattle.reg_tree_image.specs.declared.block.BaseBlock.{BaseBlock}
use Rattle.reg_tree_image.specs.declared.places.FaultPlace.{FaultPlace}
use Rattle.reg_tree_image.specs.declared.table.CellState.{CellState}
use Rattle.reg_tree_image.specs.WalkSteps.{Seen, check, given}
use Rattle.reg_tree_image.specs.LoadingWalk.{root_path, key_from}
use Rattle.reg_tree_image.specs.BaseBlock.{block_walk}
use Rattle.reg_tree_image.specs.Images.{nothing}
use Rattle.reg_tree_image.specs.Loads.{asked_for}
use Rattle.reg_tree_image.specs.FaultPlaces.{Spot, Place, Where, nowhere, then_place, ◌>>◌, in_part, key_spot, place_at, keyless, bad_bin, bad_cell, place_in}
use Rattle.reg_tree_image.specs.FaultPlaces.{bin_place, cell_place, root_place, hive_place, image_place, place_of, Locates, NotLocated}
use Rattle.reg_tree_image.specs.Internal.CellScans.{IsScanned}
use Rattle.reg_tree_image.specs.Internal.InputParts.{IsCut, IsGivenUp}
use Rattle.reg_tree_image.specs.Internal.CheckedStacks.{Meets}
use Rattle.reg_tree_image.specs.Internal.FaultSpots.{IsMetAt, is_lack, EndsAs, walked_place}
use Rattle.reg_tree_image.proofs.Devices.TreesOfBins.{heap-is}
use Rattle.reg_tree_image.proofs.Devices.LoadedImages.{at-least, too-few, asked-first, asked-bad, size-is, block-is, asked-good, behind as bytes-behind, has-block}

-- ---- the keys

-- what isn't want of memory is the walk's own fault, and where it was met
pub own-fault : (fault : LoadFault) (whole : Result (Unit {0} × Seen) LoadFault) → is_lack fault ≡ false → Meets fault whole → whole ≡ Err fault
own-fault Memory whole l m = absurd (cc)
own-fault fault whole l m = m

pub own-spot : (fault : LoadFault) (its : Spot) (there : Option Spot) → is_lack fault ≡ false → IsMetAt fault its there → there ≡ Some its
own-spot Memory its there l m = absurd (cc)
own-spot fault its there l m = m

module _ (heap : Heap) (minor root : ℕ) where
  abbrev whole : Result (Unit {0} × Seen) LoadFault
  whole = key_from heap minor (suc PATH_LIMIT) [] root_path root nothing

  pub walked-through : (seen : Seen) → whole ≡ Ok (tt, seen) → walked_place heap minor root ≡ None
  walked-through seen e = ap (then_place (root_place heap minor root) (λ _. nowhere) nothing) e

  pub walked-to : (fault : LoadFault) (its : Spot) → is_lack fault ≡ false → Meets fault whole →
      IsMetAt fault its (key_spot heap minor (suc PATH_LIMIT) [] root_path root nothing) → walked_place heap minor root ≡ Some (place_at heap its)
  walked-to fault its l m s =
      ap (then_place (root_place heap minor root) (λ _. nowhere) nothing) (own-fault fault whole l m)
      ∙ ap (option_map (place_at heap)) (own-spot fault its _ l s)

-- ---- the bins

module _ (bins : List ℕ) (minor root : ℕ) where
  abbrev cells-then : List Cell → Where Place
  cells-then cells =
      in_part (root_place (content_in bins cells) minor root) (key_from (content_in bins cells) minor (suc PATH_LIMIT) [] root_path root) >> nowhere

  abbrev cells-place : List BinPlace → Option (List Cell) → Option Place
  cells-place places cells = then_place (cell_place bins places) cells-then nothing (given Cells cells nothing)

  hive-is : hive_place bins minor root nothing
      ≡ then_place (bin_place bins) (λ places _. cells-place places (cells_of_bins bins places)) nothing (given Bins (bins_of bins) nothing)
  unfolding hive_place
  hive-is = by (bins_of bins)
    where
      by : (o : Option (List BinPlace)) →
          then_place (bin_place bins) (λ places seen. then_place (cell_place bins places) cells-then seen (given Cells (cells_of_bins bins places) seen)) nothing (given Bins o nothing)
          ≡ then_place (bin_place bins) (λ places _. cells-place places (cells_of_bins bins places)) nothing (given Bins o nothing)
      by None = refl
      by (Some places) = refl

  -- the first bad header
  pub bad-header : bins_of bins ≡ None → hive_place bins minor root nothing ≡ Some (keyless (bad_bin bins))
  bad-header e =
      hive-is ∙ ap (λ o. then_place (bin_place bins) (λ places _. cells-place places (cells_of_bins bins places)) nothing (given Bins o nothing)) e

  -- the first bad size
  pub bad-size : (places : List BinPlace) → bins_of bins ≡ Some places → cells_of_bins bins places ≡ None →
      hive_place bins minor root nothing ≡ option_map keyless (bad_cell bins places)
  bad-size places e n =
      hive-is ∙ (ap (λ o. then_place (bin_place bins) (λ places _. cells-place places (cells_of_bins bins places)) nothing (given Bins o nothing)) e
      ∙ ap (cells-place places) n)

  -- the keys
  module _ (states : List CellState) (s : IsScanned bins states) where
    pub keys-left : hive_place bins minor root nothing ≡ walked_place (cell_at bins) minor root
    keys-left =
        hive-is ∙ (ap (λ o. then_place (bin_place bins) (λ places _. cells-place places (cells_of_bins bins places)) nothing (given Bins o nothing)) s.places_are
        ∙ (ap (cells-place s.places) s.cells_are
        ∙ ap (λ (heap : Heap). walked_place heap minor root) (heap-is bins minor root states s)))

    pub keys-placed : (r : Result (Option FaultPlace) LoadFault) → IfOk r (λ place. option_map place_in place ≡ walked_place (cell_at bins) minor root) →
        IfOk r (λ place. option_map place_in place ≡ hive_place bins minor root nothing)
    keys-placed (Ok place) p = p ∙ sym keys-left
    keys-placed (Err fault) p = tt

-- ---- the image

-- what comes of looking for a place
abbrev pub IsSought : (unread left : Option (List ℕ)) → Result (Option FaultPlace) LoadFault → Type 0
IsSought unread left r =
    IfOk r (λ place. Locates unread left (option_map place_in place)) × IfErr r (λ fault. NotLocated fault unread left)

module _ (unread left : Option (List ℕ)) where
  abbrev Sought : Result (Option FaultPlace) LoadFault → Type 0
  Sought r = IsSought unread left r

  -- ---- fewer bytes than a base block has

  short-block : (bytes : List ℕ) → length bytes < 4096 → None ≡ place_of bytes
  unfolding place_of image_place
  short-block bytes l = rw (too-few 4096 (length bytes) l) refl

  pub ends-first : (fault : LoadFault) (bytes : List ℕ) → Consumes unread left bytes → IsCut fault 4096 bytes left →
      (r : Result (Option FaultPlace) LoadFault) → EndsAs fault r → Sought r
  ends-first Read bytes c k r e =
      subst Sought (sym e) (
        tt,
        record { image = bytes; consumed = c; within = omega (arith, k); why = (let a = asked-first bytes k in omega (arith, k, a)) },
      )
  ends-first Short bytes c k r e =
      subst Sought (sym e) (
        record {
          image = bytes;
          consumed = c;
          read = inr ((let a = asked-first bytes k.0 in let l = k.0 in omega (arith, l, a)), k.1);
          is = short-block bytes k.0;
        },
        tt,
      )
  ends-first fault bytes c k r e = absurd k

  -- ---- a base block that doesn't pass

  module _ (head : List ℕ) (long : length head ≡ 4096) where
    bad-block : (fault : LoadFault) → block_walk head nothing ≡ Err fault → None ≡ place_of head
    unfolding place_of image_place
    bad-block fault e = let l = at-least 4096 (length head) (omega (arith, long)) in rw (l, e) refl

    pub block-bad : (fault : LoadFault) → Consumes unread left head → block_walk head nothing ≡ Err fault → Locates unread left None
    block-bad fault c e = record {
      image = head;
      consumed = c;
      read = inl (long ∙ sym (asked-bad head long fault e));
      is = bad-block fault e;
    }

    -- ---- a base block that passes

    module _ (block : BaseBlock) (e : block_walk head nothing ≡ Ok (block, nothing)) (small : block.size ≤ 268435456) (more : List ℕ)
        (c : Consumes unread left (head ++ more)) where
      its-size : length (head ++ more) ≡ 4096 + length more
      its-size = size-is head long block e more

      its-asked : asked_for (head ++ more) ≡ 4096 + block.size
      its-asked = asked-good head long block e more

      opened : place_of (head ++ more)
          ≡ then_place nowhere (λ _. hive_place (take block.size (drop 4096 (head ++ more))) block.minor block.root) nothing
          (check Short (nat_le (4096 + block.size) (length (head ++ more))) nothing)
      unfolding place_of image_place
      opened =
          let s = its-size in
          let l = at-least 4096 (length (head ++ more)) (omega (arith, s)) in
          rw (l, block-is head long block e more) refl

      short-bins : length more < block.size → None ≡ place_of (head ++ more)
      short-bins k =
          let s = its-size in
          sym (opened ∙ ap (λ b. then_place nowhere (λ _. hive_place (take block.size (drop 4096 (head ++ more))) block.minor block.root) nothing
          (check Short b nothing)) (too-few (4096 + block.size) (length (head ++ more)) (omega (arith, s, k))))

      pub ends-later : (fault : LoadFault) → IsGivenUp fault block.size more left → (r : Result (Option FaultPlace) LoadFault) → EndsAs fault r → Sought r
      ends-later Read k r q =
          let s = its-size in
          let a = its-asked in
          subst Sought (sym q) (
            tt,
            record { image = head ++ more; consumed = c; within = omega (arith, s, k, small); why = omega (arith, s, k, a) },
          )
      ends-later Memory k r q =
          let s = its-size in
          let a = its-asked in
          subst Sought (sym q) (
            tt,
            record {
              image = head ++ more;
              consumed = c;
              within = omega (arith, s, k, small);
              why = (omega (arith, s, k, a), has-block head long block e more);
            },
          )
      ends-later Short k r q =
          let s = its-size in
          let a = its-asked in
          let l = k.0 in
          subst Sought (sym q) (
            record { image = head ++ more; consumed = c; read = inr (omega (arith, s, l, a), k.1); is = short-bins k.0 },
            tt,
          )
      ends-later fault k r q = absurd k

      -- ---- all bins

      module _ (all : length more ≡ block.size) where
        whole-is : place_of (head ++ more) ≡ hive_place more block.minor block.root nothing
        whole-is =
            let s = its-size in
            opened
            ∙ (ap (λ b. then_place nowhere (λ _. hive_place (take block.size (drop 4096 (head ++ more))) block.minor block.root) nothing (check Short b nothing))
            (at-least (4096 + block.size) (length (head ++ more)) (omega (arith, s, all)))
            ∙ ap (λ bytes. hive_place bytes block.minor block.root nothing)
            (ap (take block.size) (bytes-behind head long block e more) ∙ (ap (λ n. take n more) (sym all) ∙ take-length more)))

        pub bins-sought : (bins : List ℕ) → bins ≡ more → (r : Result (Option FaultPlace) LoadFault) →
            IfOk r (λ place. option_map place_in place ≡ hive_place bins block.minor block.root nothing) → IfErr r (λ fault. fault ≡ Memory) → Sought r
        bins-sought bins same (Ok place) p f = (
          record {
            image = head ++ more;
            consumed = c;
            read = inl (let s = its-size in let a = its-asked in omega (arith, s, a, all));
            is = p ∙ (ap (λ bytes. hive_place bytes block.minor block.root nothing) same ∙ sym whole-is);
          },
          tt,
        )
        bins-sought bins same (Err fault) p f = (
          tt,
          subst (λ fault. NotLocated fault unread left) (sym f) (let s = its-size in let a = its-asked in record {
            image = head ++ more;
            consumed = c;
            within = omega (arith, s, all, small);
            why = (omega (arith, s, a, all), has-block head long block e more);
          }),
        )
