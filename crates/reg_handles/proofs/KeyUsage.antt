-- A key with a row more, and a key that goes.
use Rattle.std.proofs.Common.{◌≡◌, ℕ, ◌+◌, ◌==◌, Bool, true, false, cond, List, Option, Some, None, refl, sym, ap, subst, ◌∙◌, arith}
use Rattle.std.specs.Prelude.{bytes_eq, option_map, unwrap_or}
use Rattle.std.specs.Cmp.Lexicographic.{bytes_decides}
use Rattle.std.proofs.lemmas.Bool.{cond-true, cond-false}
use Rattle.std.proofs.lemmas.Bool.Decides.{nat_tests}
use Rattle.slab.specs.Slab.{Slab, get, Updates}
use Rattle.reg_handles.specs.Internal.OpenKeySlab.{rows_of, is_freed, with_one_more, payload_of, IsOpenAt, UpdatesPath, IsHeld}
use Rattle.reg_handles.specs.declared.keys.OpenKey.{OpenKey}

more_stands : {K : Type 0} (o : Option (OpenKey K)) (text : List ℕ) → IsOpenAt o text → IsOpenAt (option_map with_one_more o) text
more_stands None text is = absurd is
more_stands (Some k) text is = is

more_rows : {K : Type 0} (o : Option (OpenKey K)) (text : List ℕ) → IsOpenAt o text → rows_of (option_map with_one_more o) ≡ rows_of o + 1
more_rows None text is = absurd is
more_rows (Some k) text is = refl

more_payload : {K : Type 0} (o : Option (OpenKey K)) (text : List ℕ) (payload : K) → IsOpenAt o text → payload_of (option_map with_one_more o) ≡ Some (unwrap_or (payload_of o) payload)
more_payload None text payload is = absurd is
more_payload (Some k) text payload is = refl

same_destination : (a b : ℕ) → Some a ≡ Some b → a ≡ b
same_destination a b e = cc

module _ {K : Type 0} (s s' : Slab (OpenKey K)) (before after : List ℕ → Option ℕ) (path : List ℕ) (payload : K) (key : ℕ) where
  pub held_found : ((text : List ℕ) (at : ℕ) → before text ≡ Some at → IsOpenAt (get s at) text) → before path ≡ Some key →
      Updates s s' key (option_map with_one_more (get s key)) → ((text : List ℕ) → after text ≡ before text)
      → IsHeld s s' before after path payload key
  held_found found here slots same = record {
    was = λ k is. found path key here;
    alone = λ other is. same_destination other key (sym is ∙ here);
    stands = subst (λ o. IsOpenAt o path) (sym slots.changed) (more_stands (get s key) path (found path key here));
    rows = ap rows_of slots.changed ∙ more_rows (get s key) path (found path key here);
    keeps = ap payload_of slots.changed ∙ more_payload (get s key) path payload (found path key here);
    others = slots.others;
    paths = λ other. by other (bytes_eq path other) refl;
  }
    where
      by : (other : List ℕ) (b : Bool) → bytes_eq path other ≡ b → after other ≡ cond (bytes_eq path other) (Some key) (before other)
      by other true e = same other ∙ ap before (sym ((bytes_decides path other).0 e)) ∙ here ∙ sym (cond-true _ _ _ e)
      by other false e = same other ∙ sym (cond-false _ _ _ e)

-- with a key's last row its path is free
pub freed : {K : Type 0} (o : Option (OpenKey K)) (k : OpenKey K) → Some k ≡ o → rows_of o ≡ 1 → k.is_deleted ≡ false → (before after : List ℕ → Option ℕ) → UpdatesPath before k.path.items None after
    → (text : List ℕ) → after text ≡ cond (is_freed o text) None (before text)
freed o k is one stays before after paths text =
    subst (λ o. rows_of o ≡ 1 → after text ≡ cond (is_freed o text) None (before text)) is
    (λ one. let last : (k.rows == 1) ≡ true = grind (arith, nat_tests, one) in rw (last, stays) (paths text)) one
