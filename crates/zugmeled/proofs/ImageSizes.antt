-- How long the image of the hive that C holds is.
use Rattle.std.proofs.Common.{◌≡◌, ℕ, ◌+◌, List, length, Option, Some, refl, sym, ap, subst, ◌∙◌, length-append}
use Rattle.reg_calls.specs.Views.{next_of}
use Rattle.reg_tree_image.specs.BaseBlock.{block_of}
use Rattle.reg_tree_image.specs.Images.{image_of}
use Rattle.reg_tree_image.proofs.Devices.OwnImages.{block-length}
use Rattle.zugmeled.specs.Held.{HeldHive}
use Rattle.zugmeled.specs.Calls.{seen}
use Rattle.zugmeled.specs.Images.{IsSizeTold}

image-long : (bins : List ℕ) (root moment sequence : ℕ) → length (image_of bins root moment sequence) ≡ 4096 + length bins
unfolding image_of
image-long bins root moment sequence =
    length-append (block_of (length bins) root moment sequence) bins ∙ ap (λ n. n + length bins) (block-length (length bins) root moment sequence)

pub sized : (old : Option HeldHive) (h : HeldHive) (size entries : ℕ) → Some h ≡ old → size ≡ 4096 + length (seen h).keys.bins.bytes →
    entries ≡ next_of (seen h) → IsSizeTold old 0 size entries
sized old h size entries was long many =
    subst (λ (o : Option HeldHive). IsSizeTold o 0 size entries) was
    (refl, (λ moment sequence. long ∙ sym (image-long (seen h).keys.bins.bytes (seen h).keys.root moment sequence)), many)
