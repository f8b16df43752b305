-- What a walk is made of, and how much fuel it takes.
use Rattle.std.proofs.Common.{◌≡◌, ℕ, zero, suc, ◌≤◌, max, Option, Some, None, List, [], ◌∷◌, ◌++◌, refl, sym, ap, ◌∙◌, arith, append_assoc}
use Rattle.std.specs.Option.{option_map, option_and_then}
use Rattle.std.proofs.lemmas.Option.{none-some, same_Some}
use Rattle.std.proofs.lemmas.List.{append-nil}
use Rattle.reg_heap.specs.Heaps.{Heap}
use Rattle.reg_heap.specs.Kinds.{Found}
use Rattle.reg_records.specs.BigData.{Named}
use Rattle.reg_shape.specs.Walk.{names_of, kind_met, gather, met, walk}

-- ---- gathering

-- what the first gives, and what the others give
pub record IsGathered {A B : Type 0} (f : A → Option (List B)) (x : A) (xs : List A) (zs : List B) : Type 0 where
  pub head : List B
  pub tail : List B
  pub head_is : f x ≡ Some head
  pub tail_is : gather f xs ≡ Some tail
  pub all : head ++ tail ≡ zs

pub gather-open : {A B : Type 0} (f : A → Option (List B)) (x : A) (xs : List A) (zs : List B) → gather f (x ∷ xs) ≡ Some zs → IsGathered f x xs zs
gather-open {A} {B} f x xs zs e = outer (f x) refl e
  where
    inner : (ys : List B) → f x ≡ Some ys → (s : Option (List B)) → gather f xs ≡ s → option_map (λ ws. ys ++ ws) s ≡ Some zs → IsGathered f x xs zs
    inner ys a None b e = absurd (none-some _ e)
    inner ys a (Some ws) b e = record { head = ys; tail = ws; head_is = a; tail_is = b; all = same_Some _ _ e }

    outer : (r : Option (List B)) → f x ≡ r → option_and_then (λ ys. option_map (λ ws. ys ++ ws) (gather f xs)) r ≡ Some zs → IsGathered f x xs zs
    outer None a e = absurd (none-some _ e)
    outer (Some ys) a e = inner ys a (gather f xs) refl e

pub gather-made : {A B : Type 0} (f : A → Option (List B)) (x : A) (xs : List A) (ys ws : List B) → f x ≡ Some ys → gather f xs ≡ Some ws → gather f (x ∷ xs) ≡ Some (ys ++ ws)
gather-made f x xs ys ws a b = ap (option_and_then (λ ys. option_map (λ ws. ys ++ ws) (gather f xs))) a ∙ ap (option_map (λ ws. ys ++ ws)) b

pub gather-join : {A B : Type 0} (f : A → Option (List B)) (xs us : List A) (ys ws : List B) → gather f xs ≡ Some ys → gather f us ≡ Some ws → gather f (xs ++ us) ≡ Some (ys ++ ws)
gather-join f [] us ys ws a b = b ∙ ap (λ y. Some (y ++ ws)) (same_Some _ _ a)
gather-join f (x ∷ xs) us ys ws a b =
    let o = gather-open f x xs ys a in
    gather-made f x (xs ++ us) o.head (o.tail ++ ws) o.head_is (gather-join f xs us o.tail ws o.tail_is b)
    ∙ ap Some (sym (append_assoc o.head o.tail ws) ∙ ap (λ y. y ++ ws) o.all)

pub gather-more : {A B : Type 0} (f g : A → Option (List B)) → ((x : A) (ys : List B) → f x ≡ Some ys → g x ≡ Some ys) → (xs : List A) (zs : List B) → gather f xs ≡ Some zs → gather g xs ≡ Some zs
gather-more f g h [] zs e = e
gather-more f g h (x ∷ xs) zs e =
    let o = gather-open f x xs zs e in gather-made g x xs o.head o.tail (h x o.head o.head_is) (gather-more f g h xs o.tail o.tail_is) ∙ ap Some o.all

-- ---- one step of a walk

-- a record that is met, and what it names walked
pub record IsMet (go : Named → Option (List Found)) (heap : Heap) (n : Named) (found : List Found) : Type 0 where
  pub content : List ℕ
  pub names : List Named
  pub below : List Found
  pub here : heap n.offset ≡ Some content
  pub names_are : names_of (kind_met n.kind content) n.size content ≡ Some names
  pub below_is : gather go names ≡ Some below
  pub all : record { kind = kind_met n.kind content; offset = n.offset } ∷ below ≡ found

pub met-open : (go : Named → Option (List Found)) (heap : Heap) (n : Named) (found : List Found) →
    option_and_then (λ content. met go (kind_met n.kind content) n content) (heap n.offset) ≡ Some found → IsMet go heap n found
met-open go heap n found e = first (heap n.offset) refl e
  where
    third : (content : List ℕ) → heap n.offset ≡ Some content → (names : List Named) →
        names_of (kind_met n.kind content) n.size content ≡ Some names → (s : Option (List Found)) → gather go names ≡ s →
        option_map (λ below. record { kind = kind_met n.kind content; offset = n.offset } ∷ below) s ≡ Some found → IsMet go heap n found
    third content a names b None c e = absurd (none-some _ e)
    third content a names b (Some below) c e = record { content = content; names = names; below = below; here = a; names_are = b; below_is = c; all = same_Some _ _ e }

    second : (content : List ℕ) → heap n.offset ≡ Some content → (r : Option (List Named)) → names_of (kind_met n.kind content) n.size content ≡ r →
        option_map (λ below. record { kind = kind_met n.kind content; offset = n.offset } ∷ below) (option_and_then (gather go) r) ≡ Some found →
        IsMet go heap n found
    second content a None b e = absurd (none-some _ e)
    second content a (Some names) b e = third content a names b (gather go names) refl e

    first : (r : Option (List ℕ)) → heap n.offset ≡ r → option_and_then (λ content. met go (kind_met n.kind content) n content) r ≡ Some found → IsMet go heap n found
    first None a e = absurd (none-some _ e)
    first (Some content) a e = second content a (names_of (kind_met n.kind content) n.size content) refl e

pub met-made : (go : Named → Option (List Found)) (heap : Heap) (n : Named) (found : List Found) → IsMet go heap n found →
    option_and_then (λ content. met go (kind_met n.kind content) n content) (heap n.offset) ≡ Some found
met-made go heap n found m =
    ap (option_and_then (λ content. met go (kind_met n.kind content) n content)) m.here
    ∙ ap (λ r. option_map (λ below. record { kind = kind_met n.kind m.content; offset = n.offset } ∷ below) (option_and_then (gather go) r)) m.names_are
    ∙ ap (option_map (λ below. record { kind = kind_met n.kind m.content; offset = n.offset } ∷ below)) m.below_is
    ∙ ap Some m.all

pub walk-open : (k : ℕ) (heap : Heap) (n : Named) (found : List Found) → walk (suc k) heap n ≡ Some found → IsMet (walk k heap) heap n found
unfolding walk
walk-open k heap n found e = met-open (walk k heap) heap n found e

pub walk-made : (k : ℕ) (heap : Heap) (n : Named) (found : List Found) → IsMet (walk k heap) heap n found → walk (suc k) heap n ≡ Some found
unfolding walk
walk-made k heap n found m = met-made (walk k heap) heap n found m

pub walk-none : (heap : Heap) (n : Named) (found : List Found) → walk zero heap n ≡ Some found → ⊥
unfolding walk
walk-none heap n found e = none-some _ e

-- what is walked by less fuel is walked by more
pub walk-more : (k j : ℕ) (heap : Heap) → k ≤ j → (n : Named) (found : List Found) → walk k heap n ≡ Some found → walk j heap n ≡ Some found
walk-more zero j heap l n found e = absurd (walk-none heap n found e)
walk-more (suc k) zero heap l n found e = absurd (omega arith)
walk-more (suc k) (suc j) heap l n found e =
    let m = walk-open k heap n found e in
    walk-made j heap n found (record {
      content = m.content;
      names = m.names;
      below = m.below;
      here = m.here;
      names_are = m.names_are;
      below_is = gather-more (walk k heap) (walk j heap) (λ x ys a. walk-more k j heap (omega arith) x ys a) m.names m.below m.below_is;
      all = m.all;
    })

-- ---- walks, without a word of fuel

-- some fuel is enough to walk these, one behind the other
pub record Walks (heap : Heap) (names : List Named) (found : List Found) : Type 0 where
  pub fuel : ℕ
  pub walked : gather (walk fuel heap) names ≡ Some found

pub walks-none : (heap : Heap) → Walks heap [] []
walks-none heap = record { fuel = 0; walked = refl }

pub walks-join : (heap : Heap) (xs us : List Named) (ys ws : List Found) → Walks heap xs ys → Walks heap us ws → Walks heap (xs ++ us) (ys ++ ws)
walks-join heap xs us ys ws a b = record {
  fuel = max a.fuel b.fuel;
  walked = gather-join (walk (max a.fuel b.fuel) heap) xs us ys ws
      (gather-more (walk a.fuel heap) (walk (max a.fuel b.fuel) heap) (λ n found e. walk-more a.fuel (max a.fuel b.fuel) heap (omega arith) n found e) xs ys a.walked)
      (gather-more (walk b.fuel heap) (walk (max a.fuel b.fuel) heap) (λ n found e. walk-more b.fuel (max a.fuel b.fuel) heap (omega arith) n found e) us ws b.walked);
}

-- one record, and what it names
pub walks-met : (heap : Heap) (n : Named) (content : List ℕ) (names : List Named) (below : List Found) → heap n.offset ≡ Some content →
    names_of (kind_met n.kind content) n.size content ≡ Some names → Walks heap names below →
    Walks heap (n ∷ []) (record { kind = kind_met n.kind content; offset = n.offset } ∷ below)
walks-met heap n content names below here are w = record {
  fuel = suc w.fuel;
  walked = gather-made (walk (suc w.fuel) heap) n [] _ []
      (walk-made w.fuel heap n (record { kind = kind_met n.kind content; offset = n.offset } ∷ below)
      (record { content = content; names = names; below = below; here = here; names_are = are; below_is = w.walked; all = refl }))
      refl ∙ ap Some (append-nil _);
}
