-- A walk along a path of an image of a whole hive meets no fault but those that no bytes are to blame for.
use Rattle.std.proofs.Common.{◌≡◌, ◌==◌, ℕ, Option, Result, Ok, Err, IfErr, List, length, refl, sym, ap, ◌∙◌, subst}
use Rattle.std.specs.Io.KnownBytes.{Consumes}
use Rattle.reg_heap.specs.Paths.{Tree}
use Rattle.reg_shape.specs.Whole.{Whole}
use Rattle.reg_tree_image.specs.declared.LoadFault.{LoadFault}
use Rattle.reg_tree_image.specs.declared.LoadFault.TheVariants.{Memory}
use Rattle.reg_tree_image.specs.declared.block.BaseBlock.{BaseBlock}
use Rattle.reg_tree_image.specs.WalkSteps.{Seen, Step}
use Rattle.reg_tree_image.specs.BaseBlock.{block_walk}
use Rattle.reg_tree_image.specs.Images.{nothing}
use Rattle.reg_tree_image.specs.Loads.{SparesOwn}
use Rattle.reg_tree_image.specs.PathLoads.{Walk, bins_path}
use Rattle.reg_tree_image.specs.Internal.ReaderOutcomes.{Fails}
use Rattle.reg_tree_image.proofs.Devices.OwnLoads.{ok-err, spared-tree}
use Rattle.reg_tree_image.proofs.Devices.PathsAsLoaded.{Answers, bins-answer}
use Rattle.reg_tree_image.proofs.WalkedBack.MinorVersions.{walk-of-whole}

-- where a step meets no fault, only memory may lack
only-memory : {A : Type 0} (fault : LoadFault) (s : Step A) (x : A × Seen) → s nothing ≡ Ok x → Fails fault s nothing → fault ≡ Memory
only-memory Memory s x e f = refl
only-memory fault s x e f = absurd (ok-err (s nothing) x fault e f)

module _ {A : Type 0} (walk : Walk A) (IsOf : Tree → A → Type 0) (answers : Answers walk IsOf) where
  own-path : (bins : List ℕ) (root minor : ℕ) (fault : LoadFault) → minor ≡ 5 → Whole bins root → Fails fault (bins_path walk bins minor root) nothing →
      fault ≡ Memory
  own-path bins root minor fault five w f =
      let k = walk-of-whole bins root w minor (ap (λ (n : ℕ). n == 3) five) in
      let a = bins-answer walk IsOf answers bins minor root k.0 k.1 in
      only-memory fault (bins_path walk bins minor root) (a.found, a.later) a.is f

  pub spared-path : (unread mid left : Option (List ℕ)) (head : List ℕ) (block : BaseBlock) → Consumes unread mid head → length head ≡ 4096 →
      block_walk head nothing ≡ Ok (block, nothing) →
      (bins more : List ℕ) → more ≡ bins → length bins ≡ block.size → Consumes mid left bins → {T : Type 0} (r : Result T LoadFault) →
      IfErr r (λ fault. Fails fault (bins_path walk more block.minor block.root) nothing) → IfErr r (λ fault. SparesOwn fault unread)
  spared-path unread mid left head block c l b bins more same n d (Ok x) f = tt
  spared-path unread mid left head block c l b bins more same n d (Err fault) f =
      spared-tree unread mid head block c l b left more fault (subst (Consumes mid left) (sym same) d) (ap length same ∙ n)
      (λ five arena whole. own-path more block.root block.minor fault five whole f)
