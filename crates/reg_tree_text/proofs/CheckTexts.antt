-- The texts of a whole tree, put together.
use Rattle.std.proofs.Common.{◌≡◌, ℕ, List, [], ◌++◌, length, ap, ◌∙◌}
use Rattle.std.specs.Prelude.{codes}
use Rattle.reg_heap.specs.Paths.{Tree}
use Rattle.reg_tree_text.specs.declared.counts.Counts.{Counts}
use Rattle.reg_tree_text.specs.DumpTexts.{keys_told, counts_line, counts_text, check_text}
use Rattle.reg_tree_text.specs.DumpCounts.{IsCounted}

pub counts-same : (tree : Tree) (counts : Counts) → IsCounted tree counts →
    counts_line counts.keys counts.values ≡ counts_text (keys_told tree)
counts-same tree counts n = ap (λ (k : ℕ). counts_line k counts.values) n.keys ∙ ap (counts_line (length (keys_told tree))) n.values

pub checked : (tree : Tree) (counts : Counts) → IsCounted tree counts → (empty front all : List ℕ) → empty ≡ [] →
    front ≡ empty ++ codes "ok " →
    all ≡ front ++ counts_line counts.keys counts.values → all ≡ check_text tree
unfolding check_text
checked tree counts n empty front all none e f =
    f ∙ (ap (λ (x : List ℕ). x ++ counts_line counts.keys counts.values) (e ∙ ap (λ (x : List ℕ). x ++ codes "ok ") none) ∙
    ap (λ (x : List ℕ). codes "ok " ++ x) (counts-same tree counts n))
