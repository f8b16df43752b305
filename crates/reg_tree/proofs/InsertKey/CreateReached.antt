-- Keys made below the one that a path leads to, as it is seen in the tree.
use Rattle.std.proofs.Common.{◌≡◌, ◌≢◌, ℕ, Bool, true, false, Option, List, [], refl, sym, ap, ◌∙◌, subst}
use Rattle.std.specs.Prelude.{Result, OnOk, OnErr, IfOk, IfErr}
use Rattle.reg_names.specs.Names.{path_of}
use Rattle.reg_heap.specs.Paths.{Path, Tree}
use Rattle.reg_heap.specs.Edits.{are_too_many, missing, last_there}
use Rattle.reg_arena.specs.Arena.{Bins, heap_of}
use Rattle.reg_arena.specs.EachCell.{GrowsFor}
use Rattle.reg_arena.specs.declared.ArenaFault.{ArenaFault}
use Rattle.reg_index.specs.declared.Place.{Place}
use Rattle.reg_security.specs.Rings.{DescriptorCells}
use Rattle.reg_values.specs.ValueLists.{Makes}
use Rattle.reg_tree.specs.CellSizes.{BelongsThere, create_sizes, LacksRoom}
use Rattle.reg_tree.specs.declared.node.Node.{Node}
use Rattle.reg_tree.specs.declared.node.Reached.{Reached}
use Rattle.reg_tree.specs.KeyLengths.{ChangesLengths, NotesMade, with_first_length}
use Rattle.reg_tree.specs.TreeKeys.{Keys, tree_in, IsAt, IsThere, MakesKeys}
use Rattle.reg_tree.specs.Reaching.{IsWalkedTo}
use Rattle.reg_tree.specs.Internal.TreeInvariant.{TreeInvariant}
use Rattle.reg_tree.specs.Internal.DescriptorChange.{KeepsFinds}
use Rattle.reg_tree.specs.Internal.KeyCreation.{IsCreated, LeadsTo}
use Rattle.reg_tree.specs.Internal.PathWalks.{Reaches}
use Rattle.reg_tree.specs.Internal.ReachedPlaces.{BelongsFirst}
use Rattle.reg_tree.proofs.Invariant.NodeLemmas.{seen_as, here_at, of_tree}
use Rattle.reg_tree.proofs.InsertKey.CreateKeepsNodes.{if_ok, on_made, on_both, if_full, cells_created, room_created, holds_after, keys_made, lengths_made, noted_made}
use Rattle.reg_tree.proofs.InsertKey.CreatePath.{new_some}
use Rattle.reg_tree.proofs.InsertKey.CreatePathMade.{belongs_there}
use Rattle.reg_tree.proofs.PathWalk.ReachedSeen.{named}

module _ (bins : Bins) (root : ℕ) {table : DescriptorCells} (holds : TreeInvariant bins.bytes root table) (now : Keys) (view_is : seen_as bins root ≡ now) (reached : Reached) where
  abbrev pub reaches_at : (from : Node) (path : List ℕ) → IsWalkedTo now from path reached → Reaches (heap_of bins) from path reached.node reached.missing.now
  reaches_at from path r = subst (λ (k : Keys). Reaches (heap_of k.bins) from path reached.node reached.missing.now) (sym view_is) r.reaches

  abbrev pub leads_at : (from : Node) (path : List ℕ) → IsWalkedTo now from path reached → (p : Path) → IsAt now p from →
      LeadsTo bins.bytes from path reached.node reached.missing.now
  leads_at from path r p at = record {
    here = here_at bins root holds now view_is from p at;
    depth = at.depth;
    reaches = reaches_at from path r;
  }

  -- where the first of its names belongs that are missing
  pub place_at : (from : Node) (path : List ℕ) → IsWalkedTo now from path reached → BelongsFirst (heap_of bins) reached.node.offset (path_of reached.missing.now) reached.place
  place_at from path r = subst (λ (k : Keys). BelongsFirst (heap_of k.bins) reached.node.offset (path_of reached.missing.now) reached.place) (sym view_is) r.place.belongs

  belongs_seen : (from : Node) (path : List ℕ) → IsWalkedTo now from path reached → (p : Path) → IsAt now p from → BelongsThere (seen_as bins root) p (path_of path) reached.place
  belongs_seen from path r p at =
      let l = leads_at from path r p at in
      belongs_there bins from l.here path reached.node reached.missing.now l.reaches 0 reached.place (place_at from path r)

  -- the cells that come where it belongs, how the bins grew for them, and no room for them
  pub cells_reached : {A E : Type 0} (new : Bins) (result : Result A E) (given : Option (List ℕ)) (from : Node) (path : List ℕ) → IsWalkedTo now from path reached → (p : Path) → IsAt now p from →
      OnOk result (Makes (heap_of bins) (heap_of new) (create_sizes (seen_as bins root) p (path_of path) reached.place given)) →
      OnOk result (GrowsFor bins.bytes new.bytes (create_sizes (seen_as bins root) p (path_of path) reached.place given)) →
      OnOk result ((place : Place) × BelongsThere now p (path_of path) place × Makes (heap_of now.bins) (heap_of new) (create_sizes now p (path_of path) place given)
      × GrowsFor now.bins.bytes new.bytes (create_sizes now p (path_of path) place given))
  cells_reached new result given from path r p at c g =
      cells_created bins root holds now view_is new result p (path_of path) given (on_both result (λ m grown. (reached.place, belongs_seen from path r p at, m, grown)) c g)

  pub room_reached : {A E : Type 0} (full : E) (result : Result A E) (given : Option (List ℕ)) (from : Node) (path : List ℕ) → IsWalkedTo now from path reached → (p : Path) → IsAt now p from →
      IfErr result (λ fault. fault ≡ full → LacksRoom bins (create_sizes (seen_as bins root) p (path_of path) reached.place given)) →
      IfErr result (λ fault. fault ≡ full → (place : Place) × BelongsThere now p (path_of path) place × LacksRoom now.bins (create_sizes now p (path_of path) place given))
  room_reached full result given from path r p at c =
      room_created bins root holds now view_is full result p (path_of path) given (if_full full result (λ m. (reached.place, belongs_seen from path r p at, m)) c)

  -- an answer that is told of the tree spelt is told of the tree seen
  pub limit_seen : {b : Bool} → ((from : Node) → (path : List ℕ) → (l : LeadsTo bins.bytes from path reached.node reached.missing.now) →
      b ≡ are_too_many (tree_in bins.bytes l.here.root) l.here.path (path_of path)) → (from : Node) → (path : List ℕ) → IsWalkedTo now from path reached → (p : Path) →
      IsAt now p from → b ≡ are_too_many now.tree p (path_of path)
  limit_seen {b} told from path r p at = of_tree bins root holds now view_is (λ (t : Tree). b ≡ are_too_many t p (path_of path)) (told from path (leads_at from path r p at))

  module _ (there : (from : Node) × (path : List ℕ) × IsWalkedTo now from path reached × IsThere now from)
      (few : (from : Node) → (path : List ℕ) → IsWalkedTo now from path reached → (p : Path) → IsAt now p from → are_too_many now.tree p (path_of path) ≡ false) where
    -- they may be made
    pub leads_there : (from : Node) × (path : List ℕ) × (l : LeadsTo bins.bytes from path reached.node reached.missing.now)
        × (l.here.table ≡ table) × (are_too_many (tree_in bins.bytes l.here.root) l.here.path (path_of path) ≡ false)
    leads_there = (
      there.0,
      there.1,
      leads_at there.0 there.1 there.2 there.3.0 there.3.1,
      refl,
      ap (λ (k : Keys). are_too_many k.tree there.3.0 (path_of there.1)) view_is ∙ few there.0 there.1 there.2 there.3.0 there.3.1,
    )

    module _ (new : Bins) (after : DescriptorCells) (result : Result Node ArenaFault) (given : Option (List ℕ)) (moment : ℕ)
        (ok : (from : Node) → (path : List ℕ) → (l : LeadsTo bins.bytes from path reached.node reached.missing.now) → l.here.table ≡ table →
        IfOk result (λ made. IsCreated bins.bytes new.bytes l.here.root after l.here.path from (path_of path) given moment made)) where
      pub holds_made : OnErr result (new ≡ bins) → OnErr result (KeepsFinds table after) → TreeInvariant new.bytes root after
      holds_made err kept =
          holds_after bins root holds now view_is (λ made. IsCreated bins.bytes new.bytes root after there.3.0 there.0 (path_of there.1) given moment made) new after result
          (λ made c. c.holds) (ok there.0 there.1 (leads_at there.0 there.1 there.2 there.3.0 there.3.1) refl) err kept

      module _ (from : Node) (path : List ℕ) (r : IsWalkedTo now from path reached) (p : Path) (at : IsAt now p from) where
        abbrev Its : Node → Type 0
        Its made = IsCreated bins.bytes new.bytes root after p from (path_of path) given moment made

        its : IfOk result Its
        its = ok from path (leads_at from path r p at) refl

        pub keys_seen : reached.missing.now ≢ [] →
            IfOk result (λ node. MakesKeys now (seen_as new root) p (path_of path) given moment (record { node = node; is_new = true }))
        keys_seen some =
            let l = leads_at from path r p at in
            if_ok Its _ result
            (λ node c. keys_made bins root holds now view_is new after from (path_of path) given moment p at node c true
            (new_some bins.bytes from l.here path reached.node reached.missing.now l.reaches moment (named reached.missing.now some))) its

        pub lengths_seen : OnOk result (ChangesLengths now (seen_as new root) (last_there now.tree p (path_of path)) (with_first_length (missing now.tree p (path_of path))))
        lengths_seen = on_made Its _ result (λ node c. lengths_made bins root holds now view_is new after from (path_of path) given moment p at node c) its

        pub noted_seen : OnOk result (NotesMade (seen_as new root) (last_there now.tree p (path_of path)) (missing now.tree p (path_of path)))
        noted_seen = on_made Its _ result (λ node c. noted_made bins root holds now view_is new after from (path_of path) given moment p at node c) its
