-- What comes of loading a hive from a reader.
use Rattle.std.specs.Prelude.{◌≡◌, ℕ, ◌+◌, Ok, List, [], length}
use Rattle.reg_heap.specs.ByteWords.{word}
use Rattle.reg_calls.specs.Views.{View, IsHive}
use Rattle.reg_tree_image.specs.Images.{loaded}

-- a hive that was loaded: its origin is the image's tree, and nothing was done to it yet: its journal begins with number 0, and nobody was
-- told anything. The image ends with its bins
pub record IsLoaded (image : List ℕ) (view : View) : Type 0 where
  pub tree : loaded image ≡ Ok view.origin
  pub size : length image ≡ 4096 + word image 40
  pub base : view.base ≡ 0
  pub before : view.before ≡ []
  pub journal : view.journal ≡ []
  pub keys : view.keys.tree ≡ view.origin
  pub hive : IsHive view
