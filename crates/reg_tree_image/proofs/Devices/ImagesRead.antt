-- An image that was read whole: what its walk passed, and what follows where memory lacks for what is made of its tree.
use Rattle.std.proofs.Common.{◌≡◌, ℕ, ◌+◌, ◌≤◌, nat_le, nat_lt, true, false, Option, Result, Ok, Err, IsOk, List, length, refl, sym, subst, arith}
use Rattle.std.proofs.lemmas.Bool.Decides.{nat_tests}
use Rattle.reg_heap.specs.Paths.{Tree}
use Rattle.reg_tree_image.specs.declared.LoadFault.{LoadFault}
use Rattle.reg_tree_image.specs.declared.LoadFault.TheVariants.{Short, Memory}
use Rattle.reg_tree_image.specs.declared.block.BaseBlock.{BaseBlock}
use Rattle.reg_tree_image.specs.WalkSteps.{Seen, Step, ◌>>=◌, onward}
use Rattle.reg_tree_image.specs.BaseBlock.{block_walk}
use Rattle.reg_tree_image.specs.Images.{nothing, image_walk, tree_in, loaded}
use Rattle.reg_tree_image.specs.Loads.{asked_for, ReadsImage, ReadsNumbered, MeetsFault}
use Rattle.reg_tree_image.proofs.Devices.BlockTests.{block-good, passes}
use Rattle.reg_tree_image.proofs.Devices.LoadedImages.{after-block}

-- the sequence number left aside
pub numbered-reads : (unread left : Option (List ℕ)) (tree : Tree) (sequence : ℕ) → ReadsNumbered unread left tree sequence →
    ReadsImage unread left tree
numbered-reads unread left tree sequence r = record { image = r.image; consumed = r.consumed; size = r.size; loads = r.loads }

-- a walk that told a tree met no fault
walked : (tree : Tree) (r : Result (Unit {0} × Seen) LoadFault) → tree_in r ≡ Ok tree → (x : Unit {0} × Seen) × (r ≡ Ok x)
walked tree (Ok x) e = (x, refl)
walked tree (Err fault) e = absurd (cc)

-- nor did its first step
first-step : {A B : Type 0} (f : A → Step B) (x : B × Seen) (r : Result (A × Seen) LoadFault) → onward f r ≡ Ok x →
    (y : A × Seen) × (r ≡ Ok y)
first-step f x (Ok y) e = (y, refl)
first-step f x (Err fault) e = absurd (cc)

long-enough : (a b : ℕ) → nat_le a b ≡ true → a ≤ b
long-enough a b e = grind (arith, nat_tests)

not-below : (a b : ℕ) → b ≤ a → nat_lt a b ≡ false
not-below a b l = grind (arith, nat_tests)

module _ (image : List ℕ) where
  -- the base block of an image that loads passed
  block-passed : (x : Unit {0} × Seen) → image_walk image nothing ≡ Ok x →
      (4096 ≤ length image) × (y : BaseBlock × Seen) × (block_walk image nothing ≡ Ok y)
  unfolding image_walk
  block-passed x e =
      let p = passes Short (nat_le 4096 (length image)) (block_walk image >>= after-block image) nothing x e in
      let first = first-step (after-block image) x (block_walk image nothing) p.1 in
      (long-enough 4096 (length image) p.0, first.0, first.1)

  block-loaded : (tree : Tree) → loaded image ≡ Ok tree → (4096 ≤ length image) × (y : BaseBlock × Seen) × (block_walk image nothing ≡ Ok y)
  unfolding loaded
  block-loaded tree e = let w = walked tree (image_walk image nothing) e in block-passed w.0 w.1

  -- so much was asked for
  asked : (y : BaseBlock × Seen) → 4096 ≤ length image → block_walk image nothing ≡ Ok y → asked_for image ≡ 4096 + y.0.size
  asked y l e = rw (not-below (length image) 4096 l, e) refl

-- memory may lack for what is made of the tree of an image that was read
pub memory-met : (unread left : Option (List ℕ)) (tree : Tree) → ReadsImage unread left tree → MeetsFault Memory unread left
memory-met unread left tree r =
    let p = block-loaded r.image tree r.loads in
    let a = asked r.image p.1 p.0 p.2 in
    let good = block-good r.image p.1.0 nothing p.1.1 p.2 in
    let s = r.size in
    let w = good.size in
    let m = good.small in
    record {
      image = r.image;
      consumed = r.consumed;
      within = omega (arith, s, w, m);
      refused = (omega (arith, s, w, a), (p.0, subst (λ (b : Result (BaseBlock × Seen) LoadFault). IsOk b) (sym p.2) refl));
    }
