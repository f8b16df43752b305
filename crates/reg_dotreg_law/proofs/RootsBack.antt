-- The long forms of roots' names, and of a text that begins with one.
use Rattle.std.proofs.Common.{◌≡◌, ℕ, ◌+◌, ◌-◌, ◌==◌, ◌&&◌, not, Bool, true, false, cond, List, [], ◌∷◌, ◌++◌, take, drop}
use Rattle.std.proofs.Common.{Option, Some, None, refl, sym, ap, ◌∙◌, arith, append_assoc}
use Rattle.std.specs.Prelude.{nat_le, if◌then◌else◌}
use Rattle.std.specs.List.{position_or_len}
use Rattle.std.specs.Option.{unwrap_or}
use Rattle.std.proofs.lemmas.Bool.Decides.{nat_tests}
use Rattle.std.proofs.lemmas.List.{map-append, take-map, drop-map, take-append-le, drop-append-le}
use Rattle.reg_names.specs.Names.{fold, folded, is_backslash}
use Rattle.reg_dotreg_reader.specs.EntryMeanings.{long_of, long_name, lengthened, long_form}
use Rattle.reg_dotreg_reader.proofs.RootNames.{end_within, front_is, front_not}

abbrev end_of : List ℕ → ℕ
end_of text = position_or_len is_backslash text

unwrapped : (text : List ℕ) (o : Option (List ℕ)) → lengthened text ≡ o → long_form text ≡ unwrap_or o text
unwrapped text o e = ap (λ (p : Option (List ℕ)). unwrap_or p text) e

-- ---- letters of either case

same-mark : (u : ℕ) → (fold u == 92) ≡ (u == 92)
same-mark u = by (nat_le 97 u && nat_le u 122) refl
  where
    by : (b : Bool) → (nat_le 97 u && nat_le u 122) ≡ b → ((if b then u - 32 else u) == 92) ≡ (u == 92)
    by true e = grind (arith, nat_tests, e)
    by false e = refl

end-folded : (text : List ℕ) → end_of (folded text) ≡ end_of text
end-folded [] = refl
end-folded (u ∷ text) =
    ap (λ (b : Bool). cond (not b) (1 + end_of (folded text)) 0) (same-mark u)
    ∙ ap (λ (n : ℕ). cond (not (u == 92)) (1 + n) 0) (end-folded text)

module _ (a b : List ℕ) (e : folded a ≡ folded b) where
  same-end : end_of a ≡ end_of b
  same-end = sym (end-folded a) ∙ (ap end_of e ∙ end-folded b)

  same-front : folded (take (end_of a) a) ≡ folded (take (end_of b) b)
  same-front =
      sym (take-map fold (end_of a) a) ∙ (ap (take (end_of a)) e ∙ (ap (λ (n : ℕ). take n (folded b)) same-end ∙ take-map fold (end_of b) b))

  same-behind : folded (drop (end_of a) a) ≡ folded (drop (end_of b) b)
  same-behind =
      sym (drop-map fold (end_of a) a) ∙ (ap (drop (end_of a)) e ∙ (ap (λ (n : ℕ). drop n (folded b)) same-end ∙ drop-map fold (end_of b) b))

  same-name : long_name (take (end_of a) a) ≡ long_name (take (end_of b) b)
  same-name = ap long_of same-front

  -- names that are the same but for the case of letters are so in their long forms
  pub long-same : folded (long_form a) ≡ folded (long_form b)
  long-same = by (long_name (take (end_of a) a)) refl
    where
      by : (o : Option (List ℕ)) → long_name (take (end_of a) a) ≡ o → folded (long_form a) ≡ folded (long_form b)
      by None is =
          ap folded (unwrapped a None (front_not a (end_of a) refl is))
          ∙ (e ∙ ap folded (sym (unwrapped b None (front_not b (end_of b) refl (sym same-name ∙ is)))))
      by (Some long) is =
          ap folded (unwrapped a (Some (long ++ drop (end_of a) a)) (front_is a long (end_of a) refl is))
          ∙ (map-append fold long (drop (end_of a) a)
          ∙ (ap (λ (w : List ℕ). folded long ++ w) same-behind
          ∙ (sym (map-append fold long (drop (end_of b) b))
          ∙ ap folded (sym (unwrapped b (Some (long ++ drop (end_of b) b)) (front_is b long (end_of b) refl (sym same-name ∙ is)))))))

-- ---- a name, and a path behind it

end-before : (root rest : List ℕ) → end_of (root ++ 92 ∷ rest) ≡ end_of root
end-before [] rest = refl
end-before (u ∷ root) rest = ap (λ (n : ℕ). cond (not (u == 92)) (1 + n) 0) (end-before root rest)

pub long-before : (root rest : List ℕ) → long_form (root ++ 92 ∷ rest) ≡ long_form root ++ 92 ∷ rest
long-before root rest = by (long_name (take (end_of root) root)) refl
  where
    whole : List ℕ
    whole = root ++ 92 ∷ rest

    front : take (end_of root) whole ≡ take (end_of root) root
    front = take-append-le (end_of root) root (92 ∷ rest) (end_within root)

    behind : drop (end_of root) whole ≡ drop (end_of root) root ++ 92 ∷ rest
    behind = drop-append-le (end_of root) root (92 ∷ rest) (end_within root)

    at : end_of root ≡ end_of whole
    at = sym (end-before root rest)

    by : (o : Option (List ℕ)) → long_name (take (end_of root) root) ≡ o → long_form whole ≡ long_form root ++ 92 ∷ rest
    by None is =
        unwrapped whole None (front_not whole (end_of root) at (ap long_name front ∙ is))
        ∙ ap (λ (w : List ℕ). w ++ 92 ∷ rest) (sym (unwrapped root None (front_not root (end_of root) refl is)))
    by (Some long) is =
        unwrapped whole (Some (long ++ drop (end_of root) whole)) (front_is whole long (end_of root) at (ap long_name front ∙ is))
        ∙ (ap (λ (w : List ℕ). long ++ w) behind
        ∙ (sym (append_assoc long (drop (end_of root) root) (92 ∷ rest))
        ∙ ap (λ (w : List ℕ). w ++ 92 ∷ rest)
        (sym (unwrapped root (Some (long ++ drop (end_of root) root)) (front_is root long (end_of root) refl is)))))
