-- A hive stays whole where one key's own cells are exchanged for others.
use Rattle.std.proofs.Common.{◌≡◌, ℕ, suc, ◌+◌, ◌*◌, ◌%◌, ◌<◌, ◌≤◌, max, Bool, true, false, cond, eqb, Option, Some, List, [], ◌∷◌, map, length, refl, sym, ap, ◌∙◌, subst, arith}
use Rattle.std.specs.Prelude.{unwrap_or}
use Rattle.std.specs.List.{AllByRecursion}
use Rattle.std.specs.Option.{option_map}
use Rattle.std.proofs.lemmas.Option.{none-some, same_Some}
use Rattle.reg_names.specs.Names.{hash}
use Rattle.reg_heap.specs.Paths.{Path}
use Rattle.reg_heap.specs.Heaps.{Heap, allocated}
use Rattle.reg_heap.specs.Kinds.{times, owned}
use Rattle.reg_shape.specs.Internal.Forests.{Forest, Branch, heads, total, total_of, Stand}
use Rattle.reg_shape.specs.Internal.Forests.Forest.{End, Rooted as Hangs}
use Rattle.reg_records.specs.KeySecurities.{KeySecurityRecord, IsPlainSecurity}
use Rattle.reg_shape.specs.Nodes.{Node}
use Rattle.reg_shape.specs.Written.{Pairwise, Precedes, Fits, IsWrittenSecurity}
use Rattle.reg_shape.specs.Whole.{IsRing, Links, Leads, Circles, count_at, descriptor_at}
use Rattle.reg_shape.specs.Internal.Shapes.{cells_of, owns, shares, IsSeen, StandsIn, depth, IsWholeShape}
use Rattle.reg_shape.specs.Internal.Exchanges.{is_named, found_in, found_at, edit_in, edit_at, IsAlike, IsExchanged}
use Rattle.reg_records.proofs.KeySecurityCodec.{security_at-same}
use Rattle.reg_shape.proofs.Wholeness.ShapeRecords.{at-most-one}
use Rattle.reg_shape.proofs.Wholeness.FewerNumbers.{same-number}
use Rattle.reg_shape.proofs.Frame.WrittenFrame.{seen-kept}

-- ---- the way to a key

-- what holds where the key stands, and goes on from the keys below and beside, holds of the whole way
module _ (offset : ℕ) (n m : Node) (P : Path → Forest Node → Forest Node → Type 0)
    (here : (x : List ℕ) (b s : Forest Node) → is_named x n ≡ true → P (x ∷ []) (Hangs offset n b s) (Hangs offset m b s))
    (under : (x y : List ℕ) (p : Path) (o : ℕ) (k : Node) (b c s : Forest Node) → is_named x k ≡ true → P (y ∷ p) b c → P (x ∷ y ∷ p) (Hangs o k b s) (Hangs o k c s))
    (next : (x : List ℕ) (p : Path) (o : ℕ) (k : Node) (b s t : Forest Node) → is_named x k ≡ false → P (x ∷ p) s t → P (x ∷ p) (Hangs o k b s) (Hangs o k b t)) where
  pub way : (p : Path) (F : Forest Node) → found_in p F ≡ Some (offset, n) → P p F (edit_in p m F)
  way [] F e = absurd (none-some _ e)
  way (x ∷ p) End e = absurd (none-some _ e)
  way (x ∷ []) (Hangs o k b s) e = by (way (x ∷ []) s) (is_named x k) refl e
    where
      by : (found_in (x ∷ []) s ≡ Some (offset, n) → P (x ∷ []) s (edit_in (x ∷ []) m s)) → (t : Bool) → is_named x k ≡ t →
          cond t (Some (o, k)) (found_in (x ∷ []) s) ≡ Some (offset, n) →
          P (x ∷ []) (Hangs o k b s) (cond t (Hangs o m b s) (Hangs o k b (edit_in (x ∷ []) m s)))
      by rest true t e =
          let q : ◌≡◌ {A = ℕ × Node} (o, k) (offset, n) = same_Some _ _ e in
          subst (λ (z : ℕ × Node). P (x ∷ []) (Hangs z.0 z.1 b s) (Hangs z.0 m b s)) (sym q) (here x b s (ap (λ (z : ℕ × Node). is_named x z.1) (sym q) ∙ t))
      by rest false t e = next x [] o k b s (edit_in (x ∷ []) m s) t (rest e)
  way (x ∷ y ∷ p) (Hangs o k b s) e = by (way (y ∷ p) b) (way (x ∷ y ∷ p) s) (is_named x k) refl e
    where
      by : (found_in (y ∷ p) b ≡ Some (offset, n) → P (y ∷ p) b (edit_in (y ∷ p) m b)) → (found_in (x ∷ y ∷ p) s ≡ Some (offset, n) →
          P (x ∷ y ∷ p) s (edit_in (x ∷ y ∷ p) m s)) → (t : Bool) → is_named x k ≡ t →
          cond t (found_in (y ∷ p) b) (found_in (x ∷ y ∷ p) s) ≡ Some (offset, n) →
          P (x ∷ y ∷ p) (Hangs o k b s) (cond t (Hangs o k (edit_in (y ∷ p) m b) s) (Hangs o k b (edit_in (x ∷ y ∷ p) m s)))
      by down along true t e = under x y p o k b (edit_in (y ∷ p) m b) s t (down e)
      by down along false t e = next x (y ∷ p) o k b s (edit_in (x ∷ y ∷ p) m s) t (along e)

-- ---- numbers of all keys

pub total-exchanged : (f : ℕ → Node → ℕ) (offset : ℕ) (n m : Node) (p : Path) (F : Forest Node) → found_in p F ≡ Some (offset, n) → total f (edit_in p m F) + f offset n ≡ total f F + f offset m
total-exchanged f offset n m = way offset n m (λ p F G. total f G + f offset n ≡ total f F + f offset m)
    (λ x b s e. omega arith) (λ x y p o k b c s e h. omega (arith, h)) (λ x p o k b s t e h. omega (arith, h))

total-has : (f : ℕ → Node → ℕ) (offset : ℕ) (n m : Node) (p : Path) (F : Forest Node) → found_in p F ≡ Some (offset, n) → f offset n ≤ total f F
total-has f offset n m = way offset n m (λ p F G. f offset n ≤ total f F)
    (λ x b s e. omega arith) (λ x y p o k b c s e h. omega (arith, h)) (λ x p o k b s t e h. omega (arith, h))

depth-same : (offset : ℕ) (n m : Node) (p : Path) (F : Forest Node) → found_in p F ≡ Some (offset, n) → depth (edit_in p m F) ≡ depth F
depth-same offset n m = way offset n m (λ p F G. depth G ≡ depth F)
    (λ x b s e. refl) (λ x y p o k b c s e h. ap (λ d. max (suc d) (depth s)) h) (λ x p o k b s t e h. ap (λ d. max (suc (depth b)) d) h)

-- ---- what the keys show

abbrev pub AreAlike : List (ℕ × Node) → List (ℕ × Node) → Type 0
AreAlike [] [] = Unit {0}
AreAlike (a ∷ us) (b ∷ bs) = (b.0 ≡ a.0) × IsAlike a.1 b.1 × AreAlike us bs
AreAlike [] (b ∷ bs) = ⊥
AreAlike (a ∷ us) [] = ⊥

pub alike-self : (us : List (ℕ × Node)) → AreAlike us us
alike-self [] = tt
alike-self (a ∷ us) = (refl, record { name = refl; parent = refl; class_length = refl }, alike-self us)

heads-alike : (offset : ℕ) (n m : Node) → IsAlike n m → (p : Path) (F : Forest Node) → found_in p F ≡ Some (offset, n) → AreAlike (heads F) (heads (edit_in p m F))
heads-alike offset n m a = way offset n m (λ p F G. AreAlike (heads F) (heads G))
    (λ x b s e. (refl, a, alike-self (heads s)))
    (λ x y p o k b c s e h. (refl, record { name = refl; parent = refl; class_length = refl }, alike-self (heads s)))
    (λ x p o k b s t e h. (refl, record { name = refl; parent = refl; class_length = refl }, h))

map-alike : {B : Type 0} (f : ℕ × Node → B) → ((a b : ℕ × Node) → b.0 ≡ a.0 → IsAlike a.1 b.1 → f b ≡ f a) → (us bs : List (ℕ × Node)) → AreAlike us bs → map f bs ≡ map f us
map-alike f h [] [] a = refl
map-alike f h [] (y ∷ ys) a = absurd a
map-alike f h (x ∷ xs) [] a = absurd a
map-alike f h (x ∷ xs) (y ∷ ys) a = ap (λ b. b ∷ map f ys) (h x y a.0 a.1) ∙ ap (λ bs. f x ∷ bs) (map-alike f h xs ys a.2)

all-alike : (P : ℕ × Node → Type 0) → ((a b : ℕ × Node) → b.0 ≡ a.0 → IsAlike a.1 b.1 → P a → P b) → (us bs : List (ℕ × Node)) → AreAlike us bs → AllByRecursion P us → AllByRecursion P bs
all-alike P h [] [] a l = tt
all-alike P h [] (y ∷ ys) a l = absurd a
all-alike P h (x ∷ xs) [] a l = absurd a
all-alike P h (x ∷ xs) (y ∷ ys) a l = (h x y a.0 a.1 l.0, all-alike P h xs ys a.2 l.1)

pub all-weaker : {A : Type 0} (P Q : A → Type 0) → ((x : A) → P x → Q x) → (xs : List A) → AllByRecursion P xs → AllByRecursion Q xs
all-weaker P Q h [] l = tt
all-weaker P Q h (x ∷ xs) l = (h x l.0, all-weaker P Q h xs l.1)

abbrev Before : ℕ × Node → ℕ × Node → Type 0
Before a b = Precedes a.1.key.name b.1.key.name

order-alike : (us bs : List (ℕ × Node)) → AreAlike us bs → Pairwise Before us → Pairwise Before bs
order-alike [] [] a l = tt
order-alike [] (y ∷ ys) a l = absurd a
order-alike (x ∷ xs) [] a l = absurd a
order-alike (x ∷ xs) (y ∷ ys) a l = (
  all-weaker (Before x) (Before y) (λ b t. subst (λ name. Precedes name b.1.key.name) (sym a.1.name) t) ys
      (all-alike (Before x) (λ b c e f t. subst (λ name. Precedes x.1.key.name name) (sym f.name) t) xs ys a.2 l.0),
  order-alike xs ys a.2 l.1,
)

pub fits-alike : (o : ℕ) (k : Node) (us bs : List (ℕ × Node)) → AreAlike us bs → Fits o k us → Fits o k bs
fits-alike o k us bs a f = record {
  offsets = map-alike (λ (e : ℕ × Node). e.0) (λ x y e s. e) us bs a ∙ f.offsets;
  hashes = map-alike (λ (e : ℕ × Node). hash e.1.key.name) (λ x y e s. ap hash s.name) us bs a ∙ f.hashes;
  order = order-alike us bs a f.order;
  parents = all-alike (λ (e : ℕ × Node). e.1.key.fields.parent ≡ o) (λ x y e s t. s.parent ∙ t) us bs a f.parents;
  longest_name = all-alike (λ (e : ℕ × Node). 2 * length e.1.key.name ≤ k.key.fields.largest_subkey_name % 65536)
      (λ x y e s t. subst (λ name. 2 * length name ≤ k.key.fields.largest_subkey_name % 65536) (sym s.name) t) us bs a f.longest_name;
  longest_class = all-alike (λ (e : ℕ × Node). e.1.key.fields.class_length ≤ k.key.fields.largest_subkey_class)
      (λ x y e s t. subst (λ l. l ≤ k.key.fields.largest_subkey_class) (sym s.class_length) t) us bs a f.longest_class;
}

-- ---- the keys stand

module _ (h k : Heap) (root : ℕ) where
  pub forest-kept : (F : Forest Node) → Stand (IsSeen h root) Fits F → ((z : ℕ) → 0 < total (owns z) F → k z ≡ h z) → Stand (IsSeen k root) Fits F
  forest-kept End a s = tt
  forest-kept (Hangs o node b f) a s = (
    (seen-kept h k root o node a.0.0 (λ z l. s z (omega arith)), a.0.1, forest-kept b a.0.2 (λ z l. s z (omega arith))),
    forest-kept f a.1 (λ z l. s z (omega arith)),
  )

  module _ (offset : ℕ) (n m : Node) (x : IsExchanged h k root offset n m) where
    -- a cell that the key did not have holds the same
    pub keep : (z : ℕ) → owned z (cells_of n) ≡ 0 → 0 < allocated h z → k z ≡ h z
    keep z none some =
        let c = x.frame.count z in
        let a = at-most-one h z in
        let b = at-most-one k z in
        x.frame.same z none (omega (arith, c, a, b, none, some))

    -- what an edit of a forest does
    record Goes (F G : Forest Node) : Type 0 where
      has : (z : ℕ) → owned z (cells_of n) ≤ total (owns z) F
      shows : AreAlike (heads F) (heads G)
      stand : Stand (IsSeen h root) Fits F → ((z : ℕ) → total (owns z) F ≤ allocated h z) → Stand (IsSeen k root) Fits G

    goes-here : (b s : Forest Node) → Goes (Hangs offset n b s) (Hangs offset m b s)
    goes-here b s = record {
      has = λ z. omega arith;
      shows = (refl, x.alike, alike-self (heads s));
      stand = λ a c. (
        (x.seen, x.fits (heads b) a.0.1, forest-kept b a.0.2 (λ z l. (let t = c z in let o = at-most-one h z in keep z (omega (arith, t, o, l)) (omega (arith, t, l))))),
        forest-kept s a.1 (λ z l. (let t = c z in let o = at-most-one h z in keep z (omega (arith, t, o, l)) (omega (arith, t, l)))),
      );
    }

    goes-under : (o : ℕ) (key : Node) (b c s : Forest Node) → Goes b c → Goes (Hangs o key b s) (Hangs o key c s)
    goes-under o key b c s g = record {
      has = λ z. (let u = g.has z in omega (arith, u));
      shows = (refl, record { name = refl; parent = refl; class_length = refl }, alike-self (heads s));
      stand = λ a t. (
        (
          seen-kept h k root o key a.0.0 (λ z l. (let c = t z in let u = g.has z in let one = at-most-one h z in keep z (omega (arith, c, u, one, l)) (omega (arith, c, l)))),
          fits-alike o key (heads b) (heads c) g.shows a.0.1,
          g.stand a.0.2 (λ z. (let c = t z in omega (arith, c))),
        ),
        forest-kept s a.1 (λ z l. (let c = t z in let u = g.has z in let one = at-most-one h z in keep z (omega (arith, c, u, one, l)) (omega (arith, c, l)))),
      );
    }

    goes-next : (o : ℕ) (key : Node) (b s f : Forest Node) → Goes s f → Goes (Hangs o key b s) (Hangs o key b f)
    goes-next o key b s f g = record {
      has = λ z. (let u = g.has z in omega (arith, u));
      shows = (refl, record { name = refl; parent = refl; class_length = refl }, g.shows);
      stand = λ a t. (
        (
          seen-kept h k root o key a.0.0 (λ z l. (let c = t z in let u = g.has z in let one = at-most-one h z in keep z (omega (arith, c, u, one, l)) (omega (arith, c, l)))),
          a.0.1,
          forest-kept b a.0.2 (λ z l. (let c = t z in let u = g.has z in let one = at-most-one h z in keep z (omega (arith, c, u, one, l)) (omega (arith, c, l)))),
        ),
        g.stand a.1 (λ z. (let c = t z in omega (arith, c))),
      );
    }

    goes : (p : Path) (F : Forest Node) → found_in p F ≡ Some (offset, n) → Goes F (edit_in p m F)
    goes = way offset n m (λ p F G. Goes F G) (λ x b s e. goes-here b s) (λ x y p o key b c s e g. goes-under o key b c s g) (λ x p o key b s t e g. goes-next o key b s t g)

    -- the keys of a branch
    branch-exchanged : (p : Path) (keys : Branch Node) → found_at p keys ≡ Some (offset, n) → StandsIn h root keys →
        ((z : ℕ) → total_of (owns z) keys ≤ allocated h z) → StandsIn k root (edit_at p m keys)
    branch-exchanged [] keys e a c =
        let q : ◌≡◌ {A = ℕ × Node} (keys.offset, keys.node) (offset, n) = same_Some _ _ e in
        let here : keys.offset ≡ offset = ap (λ (z : ℕ × Node). z.0) q in
        let node : keys.node ≡ n = ap (λ (z : ℕ × Node). z.1) q in
        let own : (z : ℕ) → owned z (cells_of keys.node) ≡ owned z (cells_of n) = λ z. ap (λ (t : Node). owned z (cells_of t)) node in (
          subst (λ o. IsSeen k root o m) (sym here) x.seen,
          subst (λ o. Fits o m (heads keys.below)) (sym here) (x.fits (heads keys.below) (subst (λ o. Fits o n (heads keys.below)) here (subst (λ t. Fits keys.offset t (heads keys.below)) node a.1))),
          forest-kept keys.below a.2 (λ z l. (let t = c z in let u = own z in let one = at-most-one h z in keep z (omega (arith, t, u, one, l)) (omega (arith, t, l)))),
        )
    branch-exchanged (y ∷ p) keys e a c =
        let g = goes (y ∷ p) keys.below e in (
          seen-kept h k root keys.offset keys.node a.0 (λ z l. (let t = c z in let u = g.has z in let one = at-most-one h z in keep z (omega (arith, t, u, one, l)) (omega (arith, t, l)))),
          fits-alike keys.offset keys.node (heads keys.below) (heads (edit_in (y ∷ p) m keys.below)) g.shows a.1,
          g.stand a.2 (λ z. (let t = c z in omega (arith, t))),
        )

branch-total : (f : ℕ → Node → ℕ) (offset : ℕ) (n m : Node) (p : Path) (keys : Branch Node) → found_at p keys ≡ Some (offset, n) →
    total_of f (edit_at p m keys) + f offset n ≡ total_of f keys + f offset m
branch-total f offset n m [] keys e =
    let q : ◌≡◌ {A = ℕ × Node} (keys.offset, keys.node) (offset, n) = same_Some _ _ e in
    let a : f keys.offset keys.node ≡ f offset n = ap (λ (z : ℕ × Node). f z.0 z.1) q in
    let b : f keys.offset m ≡ f offset m = ap (λ (z : ℕ × Node). f z.0 m) q in
    omega (arith, a, b)
branch-total f offset n m (y ∷ p) keys e = let t = total-exchanged f offset n m (y ∷ p) keys.below e in omega (arith, t)

branch-depth : (offset : ℕ) (n m : Node) (p : Path) (keys : Branch Node) → found_at p keys ≡ Some (offset, n) → depth (edit_at p m keys).below ≡ depth keys.below
branch-depth offset n m [] keys e = refl
branch-depth offset n m (y ∷ p) keys e = depth-same offset n m (y ∷ p) keys.below e

branch-offset : (m : Node) (p : Path) (keys : Branch Node) → (edit_at p m keys).offset ≡ keys.offset
branch-offset m [] keys = refl
branch-offset m (y ∷ p) keys = refl

-- ---- the ring

module _ (h k : Heap) where
  links-kept : (a b : ℕ) → k a ≡ h a → k b ≡ h b → Links h a b → Links k a b
  links-kept a b ea eb l = record {
    forward = ap (option_map (λ (s : KeySecurityRecord). s.fields.flink)) (security_at-same h k a ea) ∙ l.forward;
    back = ap (option_map (λ (s : KeySecurityRecord). s.fields.blink)) (security_at-same h k b eb) ∙ l.back;
  }

  leads-kept : (y end : ℕ) (rest : List ℕ) → k y ≡ h y → AllByRecursion (λ z. k z ≡ h z) rest → k end ≡ h end → Leads h y rest end → Leads k y rest end
  leads-kept y end [] e a f c = links-kept y end e f c
  leads-kept y end (z ∷ rest) e a f c = (links-kept y z e a.0 c.0, leads-kept z end rest a.0 a.1 f c.1)

  circles-kept : (ring : List ℕ) → AllByRecursion (λ z. k z ≡ h z) ring → Circles h ring → Circles k ring
  circles-kept [] a c = c
  circles-kept (first ∷ rest) a c = leads-kept first first rest a.0 a.1 a.0 c

  abbrev Differ : ℕ → ℕ → Type 0
  Differ a b = descriptor_at k a ≡ descriptor_at k b → ⊥

  differ-one : (y : ℕ) → k y ≡ h y → (ring : List ℕ) → AllByRecursion (λ z. k z ≡ h z) ring → AllByRecursion (λ z. descriptor_at h y ≡ descriptor_at h z → ⊥) ring → AllByRecursion (Differ y) ring
  differ-one y e [] a d = tt
  differ-one y e (z ∷ ring) a d = (
    (λ same. d.0 (sym (ap (option_map (λ (s : KeySecurityRecord). s.descriptor)) (security_at-same h k y e)) ∙
        (same ∙ ap (option_map (λ (s : KeySecurityRecord). s.descriptor)) (security_at-same h k z a.0)))),
    differ-one y e ring a.1 d.1,
  )

  differ-kept : (ring : List ℕ) → AllByRecursion (λ z. k z ≡ h z) ring → Pairwise (λ a b. descriptor_at h a ≡ descriptor_at h b → ⊥) ring → Pairwise Differ ring
  differ-kept [] a d = tt
  differ-kept (z ∷ ring) a d = (differ-one z a.0 ring a.1 d.0, differ-kept ring a.1 d.1)

  securities-kept : (ring : List ℕ) → AllByRecursion (λ z. k z ≡ h z) ring → AllByRecursion (IsWrittenSecurity h) ring → AllByRecursion (IsWrittenSecurity k) ring
  securities-kept [] a w = tt
  securities-kept (z ∷ ring) a w = (
    record {
      security = w.0.security;
      reads = security_at-same h k z a.0 ∙ w.0.reads;
      plain =
          subst IsPlainSecurity (sym (ap (λ (c : Option (List ℕ)). unwrap_or c []) a.0)) w.0.plain;
      some = w.0.some;
      short = w.0.short;
    },
    securities-kept ring a.1 w.1,
  )

  ring-kept : (ring : List ℕ) → AllByRecursion (λ z. k z ≡ h z) ring → IsRing h ring → IsRing k ring
  ring-kept ring a r = record {
    circles = circles-kept ring a r.circles;
    apart = differ-kept ring a r.apart;
    written = securities-kept ring a r.written;
  }

pub all-members : (P : ℕ → Type 0) (xs : List ℕ) → ((z : ℕ) → 0 < times z xs → P z) → AllByRecursion P xs
all-members P [] h = tt
all-members P (x ∷ xs) h = (
  h x (let one : ◌≡◌ {A = ℕ} (cond (eqb x x) 1 0) 1 = ap (λ b. cond b 1 0) (same-number x) in omega (arith, one)),
  all-members P xs (λ z l. h z (omega arith)),
)

branch-has : (f : ℕ → Node → ℕ) (offset : ℕ) (n m : Node) (p : Path) (keys : Branch Node) → found_at p keys ≡ Some (offset, n) → f offset n ≤ total_of f keys
branch-has f offset n m [] keys e =
    let q : ◌≡◌ {A = ℕ × Node} (keys.offset, keys.node) (offset, n) = same_Some _ _ e in
    let a : f keys.offset keys.node ≡ f offset n = ap (λ (z : ℕ × Node). f z.0 z.1) q in
    omega (arith, a)
branch-has f offset n m (y ∷ p) keys e = let t = total-has f offset n m (y ∷ p) keys.below e in omega (arith, t)

counts-kept : (h k : Heap) (f g : ℕ → ℕ) → ((z : ℕ) → g z ≡ f z) → (ring : List ℕ) → AllByRecursion (λ z. k z ≡ h z) ring →
    AllByRecursion (λ z. count_at h z ≡ Some (f z)) ring → AllByRecursion (λ z. count_at k z ≡ Some (g z)) ring
counts-kept h k f g e [] a c = tt
counts-kept h k f g e (z ∷ ring) a c =
    (ap (option_map (λ (s : KeySecurityRecord). s.fields.count)) (security_at-same h k z a.0) ∙ (c.0 ∙ ap Some (sym (e z))), counts-kept h k f g e ring a.1 c.1)

-- ---- whole

pub exchanged : (h k : Heap) (root offset : ℕ) (n m : Node) (p : Path) (keys : Branch Node) (ring : List ℕ) →
    found_at p keys ≡ Some (offset, n) → IsExchanged h k root offset n m → IsWholeShape h root keys ring →
    IsWholeShape k root (edit_at p m keys) ring
exchanged h k root offset n m p keys ring e x w =
    let own : (z : ℕ) → total_of (owns z) (edit_at p m keys) + owned z (cells_of n) ≡ total_of (owns z) keys + owned z (cells_of m) = λ z. branch-total (owns z) offset n m p keys e in
    let share : (z : ℕ) → total_of (shares z) (edit_at p m keys) ≡ total_of (shares z) keys =
    λ z. (let t = branch-total (shares z) offset n m p keys e in let s = x.security z in omega (arith, t, s)) in
    let has : (z : ℕ) → owned z (cells_of n) ≤ total_of (owns z) keys = λ z. branch-has (owns z) offset n m p keys e in
    let calm : AllByRecursion (λ z. k z ≡ h z) ring = all-members (λ z. k z ≡ h z) ring
    (λ z l. keep h k root offset n m x z (let a = w.exact z in let b = has z in let o = at-most-one h z in
    omega (arith, a, b, o, l)) (let a = w.exact z in omega (arith, a, l))) in
    record {
      offset = branch-offset m p keys ∙ w.offset;
      stands = branch-exchanged h k root offset n m x p keys e w.stands (λ z. (let a = w.exact z in omega (arith, a)));
      exact = λ z. (let a = w.exact z in let b = own z in let c = x.frame.count z in omega (arith, a, b, c));
      closed = ring-kept h k ring calm w.closed;
      ringed = λ z. ((λ l. (w.ringed z).0 (let s = share z in omega (arith, s, l))), λ l. (let r = (w.ringed z).1 l in let s = share z in omega (arith, r, s)));
      counts = counts-kept h k (λ z. total_of (shares z) keys) (λ z. total_of (shares z) (edit_at p m keys)) share ring calm w.counts;
      shallow = (let d = branch-depth offset n m p keys e in let s = w.shallow in omega (arith, d, s));
    }
