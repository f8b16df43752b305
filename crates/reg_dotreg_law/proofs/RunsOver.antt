-- Steps over a list, one after another, and something that is looked at: each step leaves it, or brings it to where it is to be in the end.
use Rattle.std.proofs.Common.{◌≡◌, List, [], ◌∷◌, ◌∙◌, ◌⊎◌, inl, inr}
use Rattle.std.specs.List.{AllByRecursion}
use Rattle.reg_dotreg_import.specs.Imports.{Stand}

module _ (X : Type 0) (run : Stand → X → Stand) where
  abbrev pub runs : Stand → List X → Stand
  runs s [] = s
  runs s (x ∷ xs) = runs (run s x) xs

  -- what each step keeps
  pub keeps : (Ok : X → Type 0) (P : Stand → Type 0) → ((s : Stand) (x : X) → Ok x → P s → P (run s x)) →
      (xs : List X) → AllByRecursion Ok xs → (s : Stand) → P s → P (runs s xs)
  keeps Ok P k [] a s h = h
  keeps Ok P k (x ∷ xs) a s h = keeps Ok P k xs a.1 (run s x) (k s x a.0 h)

module _ (X A : Type 0) (run : Stand → X → Stand) (Ok Hit : X → Type 0) (Here : Stand → Type 0) (look : Stand → A) (first last : A) where
  -- it's as it was at first, or as it is to be in the end
  abbrev pub IsOnWay : Stand → Type 0
  IsOnWay s = (look s ≡ first) ⊎ (look s ≡ last)

  -- it stayed, or it's as it is to be
  abbrev pub Goes : Stand → Stand → Type 0
  Goes s t = (look t ≡ look s) ⊎ (look t ≡ last)

  on : (s t : Stand) → Goes s t → IsOnWay s → IsOnWay t
  on s t (inl same) (inl f) = inl (same ∙ f)
  on s t (inl same) (inr l) = inr (same ∙ l)
  on s t (inr l) h = inr l

  stay : (s t : Stand) → Goes s t → look s ≡ last → look t ≡ last
  stay s t (inl same) l = same ∙ l
  stay s t (inr m) l = m

  module _ (keep : (s : Stand) (x : X) → Ok x → Here s → Here (run s x))
      (goes : (s : Stand) (x : X) → Ok x → Here s → IsOnWay s → Goes s (run s x)) where
    pub way-end : (xs : List X) → AllByRecursion Ok xs → (s : Stand) → Here s → IsOnWay s → IsOnWay (runs X run s xs)
    way-end [] a s h w = w
    way-end (x ∷ xs) a s h w = way-end xs a.1 (run s x) (keep s x a.0 h) (on s (run s x) (goes s x a.0 h w) w)

    last-stays : (xs : List X) → AllByRecursion Ok xs → (s : Stand) → Here s → look s ≡ last → look (runs X run s xs) ≡ last
    last-stays [] a s h l = l
    last-stays (x ∷ xs) a s h l = last-stays xs a.1 (run s x) (keep s x a.0 h) (stay s (run s x) (goes s x a.0 h (inr l)) l)

    -- where a step over one of the list brings it there, it's there in the end
    pub each-hit : ((s : Stand) (x : X) → Ok x → Here s → IsOnWay s → Hit x → look (run s x) ≡ last) →
        (xs : List X) → AllByRecursion Ok xs → (s : Stand) → Here s → IsOnWay s →
        AllByRecursion (λ (x : X). Hit x → look (runs X run s xs) ≡ last) xs
    each-hit hit [] a s h w = tt
    each-hit hit (x ∷ xs) a s h w =
        let here : Here (run s x) = keep s x a.0 h in (
          λ (k : Hit x). last-stays xs a.1 (run s x) here (hit s x a.0 h w k),
          each-hit hit xs a.1 (run s x) here (on s (run s x) (goes s x a.0 h w) w),
        )
