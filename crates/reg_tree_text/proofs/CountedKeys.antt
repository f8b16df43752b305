-- The keys of a tree counted on a walk over them.
use Rattle.std.proofs.Common.{◌≡◌, ◌-◌, ◌<◌, Bool, true, false, List, [], ◌∷◌, ◌++◌, length, reverse, Option, Some, refl, sym, ap, ◌∙◌, subst, arith, append_assoc, append-nil, length-append}
use Rattle.std.proofs.lemmas.List.Sums.{sum_by-append}
use Rattle.std.specs.FinMap.{get}
use Rattle.reg_names.specs.declared.TheConstants.{PATH_LIMIT}
use Rattle.reg_heap.specs.Paths.{Tree, Rec, children_of}
use Rattle.reg_heap.specs.Trees.{IsTree}
use Rattle.reg_tree.specs.declared.node.Node.{Node}
use Rattle.reg_tree.specs.TreeKeys.{Keys, IsAt}
use Rattle.reg_tree.proofs.Invariant.CellReadings.{some_of}
use Rattle.reg_tree_text.specs.declared.counts.Counts.{Counts}
use Rattle.reg_tree_text.specs.declared.walk.Pending.{Pending}
use Rattle.reg_tree_text.specs.declared.walk.Walk.{Walk}
use Rattle.reg_tree_text.specs.DumpTexts.{Told, told_here, keys_told, values_in}
use Rattle.reg_tree_text.specs.DumpCounts.{IsCounted}
use Rattle.reg_tree_text.specs.Internal.Walking.{told_below, ArePending, Goes, Advances, IsAmid, CountsKey}
use Rattle.reg_tree_text.proofs.WalkSteps.{told-open}

keys-open : (tree : Tree) → keys_told tree ≡ told_here [] (get tree []) ++ told_below PATH_LIMIT tree [] (children_of tree [])
unfolding keys_told
keys-open tree = told-open PATH_LIMIT tree [] []

-- a walk at the root
module _ (keys : Keys) (walk : Walk) (counts : Counts) (root : Node) (at : IsAt keys [] root) (is_tree : IsTree keys.tree)
    (node : walk.node ≡ root)
    (path : walk.path.items ≡ []) (pending : walk.pending.items ≡ []) (no_keys : counts.keys ≡ 0) (no_values : counts.values ≡ 0) where
  found : (r : Rec) × (get keys.tree [] ≡ Some r)
  found = some_of (get keys.tree []) is_tree.root

  abbrev here : Told
  here = record { names = []; key = found.0 }

  abbrev below : List Told
  below = told_below PATH_LIMIT keys.tree [] (children_of keys.tree [])

  all_is : keys_told keys.tree ≡ here ∷ (below ++ [])
  all_is = keys-open keys.tree ∙
      (ap (λ (o : Option Rec). told_here [] o ++ below) found.1 ∙ ap (λ (x : List Told). here ∷ x) (sym (append-nil below)))

  pub amid_start : (a : IsAmid keys walk counts) × (keys_told keys.tree ≡ a.here ∷ a.rest)
  amid_start = (
    record {
      done = [];
      here = here;
      rest = below ++ [];
      all_is = all_is;
      stands = record {
        path = [];
        levels = PATH_LIMIT;
        more = [];
        place = record { deep = omega arith; long = λ _. refl };
        at = subst (λ (n : Node). IsAt keys [] n) (sym node) at;
        key = found.1;
        text = path;
        pending = subst (λ (x : List Pending). ArePending keys walk.path.items (length walk.path.items) (reverse x) []) (sym pending) refl;
        rest_is = refl;
      };
      keys_is = no_keys;
      values_is = no_values;
    },
    all_is,
  )

-- a walk that has come to a key, which is counted
module _ (keys : Keys) (walk : Walk) (counts : Counts) (a : IsAmid keys walk counts) where
  pub still : counts.keys < length (keys_told keys.tree)
  still = let k = a.keys_is in let l = ap length a.all_is ∙ length-append a.done (a.here ∷ a.rest) in omega (arith, k, l)

  module _ (more : Counts) (n : CountsKey a.here counts more) where
    keys_more : more.keys ≡ length (a.done ++ a.here ∷ [])
    keys_more = let k = a.keys_is in let m = n.keys in let l = length-append a.done (a.here ∷ []) in omega (arith, k, m, l)

    values_more : more.values ≡ values_in (a.done ++ a.here ∷ [])
    values_more =
        let k = a.values_is in
        let m = n.values in
        let l = sum_by-append (λ (t : Told). length t.key.values) a.done (a.here ∷ []) in
        omega (arith, k, m, l)

    pub amid_next : (new : Walk) → Goes keys new a.rest → (b : IsAmid keys new more) × (a.rest ≡ b.here ∷ b.rest)
    amid_next new g = (
      record {
        done = a.done ++ a.here ∷ [];
        here = g.told;
        rest = g.rest;
        all_is = a.all_is ∙
            (ap (λ (x : List Told). a.done ++ a.here ∷ x) g.all_is ∙ sym (append_assoc a.done (a.here ∷ []) (g.told ∷ g.rest)));
        stands = g.stands;
        keys_is = keys_more;
        values_is = values_more;
      },
      g.all_is,
    )

    pub all_counted : a.rest ≡ [] → IsCounted keys.tree more
    all_counted none =
        let all : keys_told keys.tree ≡ a.done ++ a.here ∷ [] = a.all_is ∙ ap (λ (x : List Told). a.done ++ a.here ∷ x) none in
        record { keys = keys_more ∙ ap length (sym all); values = values_more ∙ ap values_in (sym all) }

    pub fewer : length (keys_told keys.tree) - more.keys < length (keys_told keys.tree) - counts.keys
    fewer = let m = n.keys in omega (arith, m, still)

-- whether a walk went on
pub went : (keys : Keys) (new : Walk) (rest : List Told) (moved : Bool) → moved ≡ true → Advances keys new rest moved → Goes keys new rest
went keys new rest true e a = a
went keys new rest false e a = absurd (cc)

pub ended : (keys : Keys) (new : Walk) (rest : List Told) (moved : Bool) → moved ≡ false → Advances keys new rest moved → rest ≡ []
ended keys new rest true e a = absurd (cc)
ended keys new rest false e a = a
