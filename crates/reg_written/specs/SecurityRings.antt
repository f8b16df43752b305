-- The ring of the securities that keys use (Suhanov, Windows registry file format specification, section "Key security").
use Rattle.std.specs.Prelude.{◌≡◌, ◌↔◌, ◌<◌, ℕ, Some, List}
use Rattle.std.specs.List.{AllByRecursion}
use Rattle.reg_heap.specs.Heaps.{Heap}
use Rattle.reg_heap.specs.Kinds.{times}
use Rattle.reg_shape.specs.Whole.{IsRing, count_at}

-- these form one ring, which has just the securities that are used, and each counts how often it is
pub record IsRingOf (heap : Heap) (used : List ℕ) (ring : List ℕ) : Type 0 where
  pub closed : IsRing heap ring
  pub members : (offset : ℕ) → (0 < times offset used) ↔ (0 < times offset ring)
  pub counts : AllByRecursion (λ offset. count_at heap offset ≡ Some (times offset used)) ring
