-- What differs of a key, told one after another: what is next, and what is left behind it.
use Rattle.std.proofs.Common.{◌≡◌, ℕ, ◌&&◌, ◌||◌, not, Bool, true, false, cond, List, [], ◌∷◌, ◌++◌, refl, sym, ap, ◌∙◌, append_assoc}
use Rattle.std.specs.Prelude.{codes}
use Rattle.std.proofs.lemmas.Bool.{false≢true}
use Rattle.reg_heap.specs.Paths.{Rec, Member}
use Rattle.reg_tree_text.specs.Internal.Gathered.{WriterState, IsSoFar}
use Rattle.reg_tree_text.proofs.SentTexts.{opened, swapped}
use Rattle.reg_diff.specs.Differences.{name_change, number_change, bytes_change, field_changes, same_members, lost_values}
use Rattle.reg_diff.specs.Differences.{come_values, order_line, order_change, value_changes}
use Rattle.reg_diff.specs.Internal.Parts.{is_nothing}
use Rattle.reg_diff.specs.declared.ignored.Ignored.{Ignored}
use Rattle.reg_diff.proofs.SameValues.{nothing_is, nothing-append}

-- ---- the fields

unfoldable pub from_time : Ignored → (path : List ℕ) (was is : Rec) → List ℕ
from_time ignored path was is = number_change ignored.time (codes "time") path was.time is.time

unfoldable pub from_security : Ignored → (path : List ℕ) (was is : Rec) → List ℕ
from_security ignored path was is =
    bytes_change ignored.security (codes "security") path was.descriptor is.descriptor ++ from_time ignored path was is

unfoldable pub from_class : Ignored → (path : List ℕ) (was is : Rec) → List ℕ
from_class ignored path was is = bytes_change ignored.class (codes "class") path was.class is.class ++ from_security ignored path was is

unfoldable pub from_marks : Ignored → (path : List ℕ) (was is : Rec) → List ℕ
from_marks ignored path was is = number_change ignored.marks (codes "marks") path was.marks is.marks ++ from_class ignored path was is

-- ---- the values

unfoldable pub from_order : (is_ignored : Bool) (path : List ℕ) (was is : List Member) → List ℕ
from_order is_ignored path was is = order_change is_ignored path (lost_values path was is ++ come_values path was is) was is

unfoldable pub from_come : (is_ignored : Bool) (path : List ℕ) (was is : List Member) → List ℕ
from_come is_ignored path was is = come_values path was is ++ from_order is_ignored path was is

changes-grouped : (is_ignored : Bool) (path : List ℕ) (was is : List Member) →
    lost_values path was is ++ from_come is_ignored path was is ≡ value_changes is_ignored path was is
unfolding value_changes from_come from_order
changes-grouped is_ignored path was is =
    sym (append_assoc (lost_values path was is) (come_values path was is)
    (order_change is_ignored path (lost_values path was is ++ come_values path was is) was is))

module _ (begin now : WriterState) (whole left gathered : List ℕ) (written : ℕ) where
  abbrev Next : List ℕ → Type 0
  Next text = IsSoFar begin now whole (text ++ left) gathered written

  abbrev Split : List ℕ → List ℕ → Type 0
  Split first rest = IsSoFar begin now whole (first ++ (rest ++ left)) gathered written

  module _ (ignored : Ignored) (path : List ℕ) (was is : Rec) where
    pub name-next : (a b : List ℕ) → a ≡ was.name → b ≡ is.name → Next (field_changes ignored path was is) →
        Split (name_change path a b) (from_marks ignored path was is)
    unfolding field_changes from_marks from_class from_security from_time
    name-next a b e f s =
        swapped begin now whole (name_change path was.name is.name) (name_change path a b)
        (from_marks ignored path was is ++ left) gathered written
        (opened begin now whole (name_change path was.name is.name) (from_marks ignored path was is) left gathered written s)
        (ap (λ (x : List ℕ). name_change path x b) e ∙ ap (λ (x : List ℕ). name_change path was.name x) f)

    pub marks-next : (a b : ℕ) → a ≡ was.marks → b ≡ is.marks → Next (from_marks ignored path was is) →
        Split (number_change ignored.marks (codes "marks") path a b) (from_class ignored path was is)
    unfolding from_marks
    marks-next a b e f s =
        swapped begin now whole (number_change ignored.marks (codes "marks") path was.marks is.marks)
        (number_change ignored.marks (codes "marks") path a b)
        (from_class ignored path was is ++ left) gathered written
        (opened begin now whole (number_change ignored.marks (codes "marks") path was.marks is.marks)
        (from_class ignored path was is) left gathered written s)
        (ap (λ (x : ℕ). number_change ignored.marks (codes "marks") path x b) e
        ∙ ap (λ (x : ℕ). number_change ignored.marks (codes "marks") path was.marks x) f)

    pub class-next : (a b : List ℕ) → a ≡ was.class → b ≡ is.class → Next (from_class ignored path was is) →
        Split (bytes_change ignored.class (codes "class") path a b) (from_security ignored path was is)
    unfolding from_class
    class-next a b e f s =
        swapped begin now whole (bytes_change ignored.class (codes "class") path was.class is.class)
        (bytes_change ignored.class (codes "class") path a b)
        (from_security ignored path was is ++ left) gathered written
        (opened begin now whole (bytes_change ignored.class (codes "class") path was.class is.class)
        (from_security ignored path was is) left gathered written s)
        (ap (λ (x : List ℕ). bytes_change ignored.class (codes "class") path x b) e
        ∙ ap (λ (x : List ℕ). bytes_change ignored.class (codes "class") path was.class x) f)

    pub security-next : (a b : List ℕ) → a ≡ was.descriptor → b ≡ is.descriptor → Next (from_security ignored path was is) →
        Split (bytes_change ignored.security (codes "security") path a b) (from_time ignored path was is)
    unfolding from_security
    security-next a b e f s =
        swapped begin now whole (bytes_change ignored.security (codes "security") path was.descriptor is.descriptor)
        (bytes_change ignored.security (codes "security") path a b)
        (from_time ignored path was is ++ left) gathered written
        (opened begin now whole (bytes_change ignored.security (codes "security") path was.descriptor is.descriptor)
        (from_time ignored path was is) left gathered
        written s)
        (ap (λ (x : List ℕ). bytes_change ignored.security (codes "security") path x b) e
        ∙ ap (λ (x : List ℕ). bytes_change ignored.security (codes "security") path was.descriptor x) f)

    pub time-next : (a b : ℕ) → a ≡ was.time → b ≡ is.time → Next (from_time ignored path was is) →
        Next (number_change ignored.time (codes "time") path a b)
    unfolding from_time
    time-next a b e f s =
        swapped begin now whole (number_change ignored.time (codes "time") path was.time is.time)
        (number_change ignored.time (codes "time") path a b) left gathered
        written s
        (ap (λ (x : ℕ). number_change ignored.time (codes "time") path x b) e
        ∙ ap (λ (x : ℕ). number_change ignored.time (codes "time") path was.time x) f)

  module _ (is_ignored : Bool) (path : List ℕ) (was is : List Member) where
    pub lost-next : Next (value_changes is_ignored path was is) → Split (lost_values path was is) (from_come is_ignored path was is)
    lost-next s =
        opened begin now whole (lost_values path was is) (from_come is_ignored path was is) left gathered written
        (swapped begin now whole (value_changes is_ignored path was is)
        (lost_values path was is ++ from_come is_ignored path was is) left gathered written s
        (changes-grouped is_ignored path was is))

    pub come-next : Next (from_come is_ignored path was is) → Split (come_values path was is) (from_order is_ignored path was is)
    unfolding from_come
    come-next s = opened begin now whole (come_values path was is) (from_order is_ignored path was is) left gathered written s

-- ---- the order

unlike : (is_ignored : Bool) (path told : List ℕ) (was is : List Member) → told ≡ [] → (is_ignored || same_members was is) ≡ false →
    order_line path ≡ order_change is_ignored path told was is
unlike is_ignored path [] was is none e = ap (λ (b : Bool). cond b [] (order_line path)) (sym e)
unlike is_ignored path (letter ∷ told) was is none e = absurd (false≢true (ap is_nothing none))

beside : (is_ignored : Bool) (path told : List ℕ) (was is : List Member) → (is_nothing told && not is_ignored) ≡ false →
    order_change is_ignored path told was is ≡ []
beside false path [] was is some = absurd (false≢true (sym some))
beside true path [] was is some = refl
beside is_ignored path (letter ∷ told) was is some = refl

both-quiet : (lost come ignored : Bool) → ((lost && come) && not ignored) ≡ true → ((lost && come) ≡ true) × (ignored ≡ false)
both-quiet true true false e = (refl, refl)
both-quiet true true true e = absurd (false≢true e)
both-quiet true false ignored e = absurd (false≢true e)
both-quiet false come ignored e = absurd (false≢true e)

module _ (is_ignored : Bool) (path : List ℕ) (was is : List Member) (lost come : Bool) (l : lost ≡ is_nothing (lost_values path was is))
    (c : come ≡ is_nothing (come_values path was is)) where
  both : is_nothing (lost_values path was is ++ come_values path was is) ≡ (lost && come)
  both =
      nothing-append (lost_values path was is) (come_values path was is)
      ∙ (ap (λ (b : Bool). b && is_nothing (come_values path was is)) (sym l) ∙ ap (λ (b : Bool). lost && b) (sym c))

  pub order-told : (same : Bool) → same ≡ same_members was is → same ≡ false → ((lost && come) && not is_ignored) ≡ true →
      order_line path ≡ from_order is_ignored path was is
  unfolding from_order
  order-told same s unlike_is quiet =
      let parts = both-quiet lost come is_ignored quiet in
      unlike is_ignored path (lost_values path was is ++ come_values path was is) was is (nothing_is _ (both ∙ parts.0))
      (ap (λ (b : Bool). b || same_members was is) parts.1 ∙ (sym s ∙ unlike_is))

  pub order-not : ((lost && come) && not is_ignored) ≡ false → from_order is_ignored path was is ≡ []
  unfolding from_order
  order-not loud =
      beside is_ignored path (lost_values path was is ++ come_values path was is) was is
      (ap (λ (b : Bool). b && not is_ignored) both ∙ loud)
