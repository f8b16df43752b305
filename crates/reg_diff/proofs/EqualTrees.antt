-- Where nothing is ignored, trees that are alike from the root on are equal.
use Rattle.std.proofs.Common.{◌≡◌, ℕ, false, List, [], Option, Some, None, refl, ap, ◌∙◌, subst}
use Rattle.std.specs.Prelude.{◌↔◌}
use Rattle.std.specs.FinMap.{get, same_map, slice_cmp-IsAntisymmetric, nat_cmp-IsAntisymmetric}
use Rattle.std.specs.Cmp.Lexicographic.{lists_total, nat_list_cmp_total}
use Rattle.reg_heap.specs.Paths.{Tree, Rec, Member}
use Rattle.reg_diff.specs.declared.ignored.Ignored.{Ignored}
use Rattle.reg_diff.specs.Alike.{IsAlikeThere, AreAlike}

-- nothing is ignored
abbrev pub nothing : Ignored
nothing = record { time = false; security = false; order = false; class = false; marks = false }

record-same : (a b : Rec) → a.name ≡ b.name → a.marks ≡ b.marks → a.class ≡ b.class → a.descriptor ≡ b.descriptor → a.time ≡ b.time →
    a.values ≡ b.values → a ≡ b
record-same a b n m c d t v =
    ap (λ (x : List ℕ). record { name = x; marks = a.marks; class = a.class; descriptor = a.descriptor; time = a.time; values = a.values }) n
    ∙ (ap (λ (x : ℕ). record { name = b.name; marks = x; class = a.class; descriptor = a.descriptor; time = a.time; values = a.values }) m
    ∙ (ap (λ (x : List ℕ). record { name = b.name; marks = b.marks; class = x; descriptor = a.descriptor; time = a.time; values = a.values }) c
    ∙ (ap (λ (x : List ℕ). record { name = b.name; marks = b.marks; class = b.class; descriptor = x; time = a.time; values = a.values }) d
    ∙ (ap (λ (x : ℕ). record { name = b.name; marks = b.marks; class = b.class; descriptor = b.descriptor; time = x; values = a.values }) t
    ∙ ap (λ (x : List Member).
    record { name = b.name; marks = b.marks; class = b.class; descriptor = b.descriptor; time = b.time; values = x }) v))))

same-there : (was is : Option Rec) → IsAlikeThere nothing was is → was ≡ is
same-there None None a = refl
same-there (Some was) (Some is) a =
    ap (λ (r : Rec). Some r) (record-same was is a.name a.marks a.class a.security a.time a.order)
same-there None (Some is) a = absurd a
same-there (Some was) None a = absurd a

like-itself : (key : Option Rec) → IsAlikeThere nothing key key
like-itself None = tt
like-itself (Some key) =
    record { name = refl; marks = refl; class = refl; security = refl; time = refl; values = λ _. refl; order = refl }

pub equal : (old new : Tree) → AreAlike nothing old new [] ↔ (old ≡ new)
equal old new = (
  λ a.
      same_map (lists_total nat_list_cmp_total) (slice_cmp-IsAntisymmetric (slice_cmp-IsAntisymmetric nat_cmp-IsAntisymmetric)) old new
      (λ path. same-there (get old path) (get new path) (a path)),
  λ e. subst (λ (t : Tree). AreAlike nothing old t []) e (λ rest. like-itself (get old rest)),
)
