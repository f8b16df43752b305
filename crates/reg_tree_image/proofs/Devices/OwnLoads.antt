-- What a load of an image of a whole hive may meet, step by step.
use Rattle.std.proofs.Common.{◌≡◌, ℕ, Option, Some, Result, Ok, Err, IfErr, List, [], ◌++◌, inl, inr, length, refl, sym, ap, ◌∙◌, subst}
use Rattle.std.specs.Io.KnownBytes.{Consumes}
use Rattle.std.proofs.lemmas.List.{append-nil}
use Rattle.reg_heap.specs.Paths.{Tree}
use Rattle.reg_arena.specs.Arena.{IsArena, IsSound, Bins as ArenaBins}
use Rattle.reg_tree.specs.TreeKeys.{IsWholeTree}
use Rattle.reg_shape.specs.Whole.{Whole}
use Rattle.reg_tree_image.specs.declared.LoadFault.{LoadFault}
use Rattle.reg_tree_image.specs.declared.LoadFault.TheVariants.{Read, Short, Signature, Version, Checksum, Dirty, Bins, Cells, Record, Loop}
use Rattle.reg_tree_image.specs.declared.LoadFault.TheVariants.{Twice, NotInProfile, Limit, Memory}
use Rattle.reg_tree_image.specs.declared.block.BaseBlock.{BaseBlock}
use Rattle.reg_tree_image.specs.WalkSteps.{Seen}
use Rattle.reg_tree_image.specs.BaseBlock.{block_walk}
use Rattle.reg_tree_image.specs.Images.{nothing, image_of, bins_walk}
use Rattle.reg_tree_image.specs.Loads.{HoldsOwn, IsOutside, SparesOwn, IsForeign, IsRefusedBy, MeetsFaultBy, StandAs, TakesOwn}
use Rattle.reg_tree_image.specs.Internal.CheckedStacks.{Meets}
use Rattle.reg_tree_image.specs.Internal.InputParts.{IsCut, IsGivenUp}
use Rattle.reg_tree_image.proofs.Devices.OwnImages.{own-cut, own-block, own-given-up, own-bins}
use Rattle.reg_tree_image.proofs.WalkedBack.MinorVersions.{walk-of-whole}

pub spared-cut : (unread left : Option (List ℕ)) (piece : List ℕ) (fault : LoadFault) → Consumes unread left piece → IsCut fault 4096 piece left → SparesOwn fault unread
spared-cut unread left piece fault c k bytes e own = own-cut bytes own fault piece left (subst (λ (o : Option (List ℕ)). Consumes o left piece) e c) k

pub ok-err : {A B : Type 0} (r : Result A B) (x : A) (y : B) → r ≡ Ok x → r ≡ Err y → ⊥
ok-err r x y p q = cc

pub spared-block : (unread left : Option (List ℕ)) (head : List ℕ) (fault : LoadFault) → Consumes unread left head → length head ≡ 4096 → block_walk head nothing ≡ Err fault → SparesOwn fault unread
spared-block unread left head fault c l f bytes e own =
    absurd (ok-err (block_walk head nothing) _ fault (own-block bytes own head left (subst (λ (o : Option (List ℕ)). Consumes o left head) e c) l) f)

same-ok : {A B : Type 0} (x y : A) → ◌≡◌ {A = Result A B} (Ok x) (Ok y) → x ≡ y
same-ok x y e = cc

module _ (unread mid : Option (List ℕ)) (head : List ℕ) (block : BaseBlock) (c : Consumes unread mid head) (l : length head ≡ 4096) (b : block_walk head nothing ≡ Ok (block, nothing)) where
  abbrev Own : List ℕ → Type 0
  Own bytes = unread ≡ Some bytes

  module _ (bytes : List ℕ) (e : Own bytes) (own : HoldsOwn bytes) where
    from : Consumes (Some bytes) mid head
    from = subst (λ (o : Option (List ℕ)). Consumes o mid head) e c

    block-is : ◌≡◌ {A = BaseBlock} (record { minor = 5; root = own.root; size = length own.bins }) block
    block-is = ap (λ (p : BaseBlock × Seen). p.0) (same-ok _ _ (sym (own-block bytes own head mid from l) ∙ b))

  pub spared-bins : (left : Option (List ℕ)) (piece : List ℕ) (fault : LoadFault) → Consumes mid left piece → IsGivenUp fault block.size piece left → SparesOwn fault unread
  spared-bins left piece fault d k bytes e own =
      own-given-up bytes own head piece mid left fault (from bytes e own) l d
      (subst (λ (n : ℕ). IsGivenUp fault n piece left) (sym (ap (λ (x : BaseBlock). x.size) (block-is bytes e own))) k)

  pub spared-tree : (left : Option (List ℕ)) (bins : List ℕ) (fault : LoadFault) → Consumes mid left bins → length bins ≡ block.size →
      (block.minor ≡ 5 → IsArena bins → Whole bins block.root → fault ≡ Memory) → SparesOwn fault unread
  spared-tree left bins fault d n f bytes e own =
      let same = block-is bytes e own in
      let size = ap (λ (x : BaseBlock). x.size) same in
      let root = ap (λ (x : BaseBlock). x.root) same in
      let all = own-bins bytes own head bins mid left (from bytes e own) l d (n ∙ sym size) in
      let whole = subst (λ (r : ℕ). Whole bins r) root (subst (λ (b : List ℕ). Whole b own.root) (sym all) own.whole) in
      subst IsOutside (sym (f (sym (ap (λ (x : BaseBlock). x.minor) same)) (subst IsArena (sym all) own.arena) whole)) tt

  -- what holds these cells then holds what the image does
  pub stood : (left : Option (List ℕ)) (bins : List ℕ) → Consumes mid left bins → length bins ≡ block.size → (taken : ArenaBins) →
      (block.minor ≡ 5 → IsArena bins → Whole bins block.root → StandAs taken bins) → TakesOwn taken unread
  stood left bins d n taken f bytes e own =
      let same = block-is bytes e own in
      let size = ap (λ (x : BaseBlock). x.size) same in
      let root = ap (λ (x : BaseBlock). x.root) same in
      let all = own-bins bytes own head bins mid left (from bytes e own) l d (n ∙ sym size) in
      let whole = subst (λ (r : ℕ). Whole bins r) root (subst (λ (b : List ℕ). Whole b own.root) (sym all) own.whole) in
      subst (StandAs taken) all (f (sym (ap (λ (x : BaseBlock). x.minor) same)) (subst IsArena (sym all) own.arena) whole)

-- what is said of fewer images is said of more
refused-of : (A B : List ℕ → Type 0) (fault : LoadFault) (image : List ℕ) (left : Option (List ℕ)) → (A image → B image) →
    IsRefusedBy A fault image left → IsRefusedBy B fault image left
refused-of A B Limit image left f (size, inl e) = (size, inl e)
refused-of A B Limit image left f (size, inr c) = (size, inr (c.0, c.1, f c.2))
refused-of A B Read image left f r = r
refused-of A B Short image left f r = r
refused-of A B Memory image left f r = r
refused-of A B fault image left f r = r

meets-of : (A B : List ℕ → Type 0) (fault : LoadFault) (unread left : Option (List ℕ)) → ((image : List ℕ) → A image → B image) →
    MeetsFaultBy A fault unread left → MeetsFaultBy B fault unread left
meets-of A B fault unread left f m =
    record { image = m.image; consumed = m.consumed; within = m.within; refused = refused-of A B fault m.image left (f m.image) m.refused }

pub met-of : {T : Type 0} (A B : List ℕ → Type 0) (unread left : Option (List ℕ)) (r : Result T LoadFault) → ((image : List ℕ) → A image → B image) →
    IfErr r (λ fault. MeetsFaultBy A fault unread left) → IfErr r (λ fault. MeetsFaultBy B fault unread left)
met-of A B unread left (Ok x) f h = h
met-of A B unread left (Err fault) f h = meets-of A B fault unread left f h

-- an image whose bins may lack room is none of a whole hive
pub foreign : (head : List ℕ) (block : BaseBlock) → length head ≡ 4096 → block_walk head nothing ≡ Ok (block, nothing) →
    (bins : List ℕ) → length bins ≡ block.size → (fault : LoadFault) → fault ≡ Limit →
    (block.minor ≡ 5 → IsArena bins → Whole bins block.root → fault ≡ Memory) → IsForeign (head ++ bins)
foreign head block l b bins n fault limit f own =
    subst IsOutside limit
    (spared-tree (Some (head ++ bins)) (Some bins) head block refl l b (Some []) bins fault (sym (append-nil bins)) n f (head ++ bins) refl own)

-- where the walk meets none, only memory may lack
pub only-memory : (fault : LoadFault) (walk : Result (Unit {0} × Seen) LoadFault) (x : Unit {0} × Seen) → walk ≡ Ok x → Meets fault walk → fault ≡ Memory
only-memory Memory walk x e m = refl
only-memory Read walk x e m = absurd (ok-err walk x Read e m)
only-memory Short walk x e m = absurd (ok-err walk x Short e m)
only-memory Signature walk x e m = absurd (ok-err walk x Signature e m)
only-memory Version walk x e m = absurd (ok-err walk x Version e m)
only-memory Checksum walk x e m = absurd (ok-err walk x Checksum e m)
only-memory Dirty walk x e m = absurd (ok-err walk x Dirty e m)
only-memory Bins walk x e m = absurd (ok-err walk x Bins e m)
only-memory Cells walk x e m = absurd (ok-err walk x Cells e m)
only-memory Record walk x e m = absurd (ok-err walk x Record e m)
only-memory Loop walk x e m = absurd (ok-err walk x Loop e m)
only-memory Twice walk x e m = absurd (ok-err walk x Twice e m)
only-memory NotInProfile walk x e m = absurd (ok-err walk x NotInProfile e m)
only-memory Limit walk x e m = absurd (ok-err walk x Limit e m)

pub own-memory : (bins : List ℕ) (root minor : ℕ) (fault : LoadFault) → minor ≡ 5 → Whole bins root → Meets fault (bins_walk bins minor root nothing) → fault ≡ Memory
own-memory bins root minor fault five w m =
    let k = walk-of-whole bins root w 5 refl in
    only-memory fault (bins_walk bins 5 root nothing) (tt, k.0) k.1 (subst (λ (n : ℕ). Meets fault (bins_walk bins n root nothing)) five m)

-- ---- images that are made

pub own-of : (bins heads : List ℕ) (root moment sequence : ℕ) (tree : Tree) → IsWholeTree bins root tree → IsSound bins heads → HoldsOwn (image_of bins root moment sequence)
own-of bins heads root moment sequence tree w s = record {
  bins = bins;
  root = root;
  moment = moment;
  sequence = sequence;
  rest = [];
  is = sym (append-nil (image_of bins root moment sequence));
  arena = record { layout = s.bins; tiled = s.bins_are; blank = s.blank; apart = s.free.apart; small = s.small };
  whole = record { cells = w.cells; cells_are = w.cells_are; whole = w.whole };
}
