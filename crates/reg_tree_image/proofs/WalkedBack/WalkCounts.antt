-- What a hive's walk meets, counted: a security once for each key that names it, and keys by lists of keys alone.
use Rattle.std.proofs.Common.{◌≡◌, ℕ, zero, suc, ◌+◌, ◌==◌, Bool, true, false, cond, Option, Some, None, List, [], ◌∷◌, ◌++◌, length, map, nat_le, refl, sym, ap, ◌∙◌, subst, arith}
use Rattle.std.specs.List.{AllByRecursion}
use Rattle.std.specs.Option.{option_and_then}
use Rattle.std.specs.Result.{result_ok}
use Rattle.std.proofs.lemmas.Option.{none-some, same_Some}
use Rattle.reg_heap.specs.Heaps.{Heap}
use Rattle.reg_heap.specs.Kinds.{Kind, Found, is_security, is_shared, shared, tally}
use Rattle.reg_heap.specs.Kinds.Kind.{Key, Class, SubList, Leaf, ValueList, Value, Data, BigHead, BigList, Segment, Security}
use Rattle.reg_records.specs.KeyNodes.{KeyRecord, nk_of, key_at}
use Rattle.reg_records.specs.KeyValues.{KeyValueRecord, vk_of}
use Rattle.reg_records.specs.KeySecurities.{KeySecurityRecord, sk_of}
use Rattle.reg_records.specs.Letters.{is_signed}
use Rattle.reg_records.specs.OffsetRows.{row_in}
use Rattle.reg_records.specs.SubkeyLists.{Entry, Form, SubkeysList, list_of, offsets_in}
use Rattle.reg_records.specs.declared.lists.ListForm.TheVariants.{IndexRoot, IndexLeaf, FastLeaf, HashLeaf}
use Rattle.reg_records.specs.BigData.{Named, named, plainly, if_any, segment_size, is_inline, inline_size, segments_for, segments, db_of}
use Rattle.reg_tree_image.specs.Internal.KeysNamed.{is_key}
use Rattle.reg_shape.specs.Walk.{kind_met, names_of, key_names, leaves_named, keys_named, value_names, big_names, security_names, gather, walk}
use Rattle.reg_shape.proofs.Walking.IndexWalks.{then-open, map-open}
use Rattle.reg_shape.proofs.Walking.WalkParts.{gather-open, walk-open, walk-none}
use Rattle.reg_shape.proofs.Wholeness.ShapeCounts.{tally-append}

-- ---- names of one kind

abbrev pub AreOf : (Kind → Bool) → List Named → Type 0
AreOf test names = AllByRecursion (λ (n : Named). test n.kind ≡ true) names

test-some : {A : Type 0} (b : Bool) (x y : A) → cond b (Some x) None ≡ Some y → x ≡ y
test-some true x y e = same_Some _ _ e
test-some false x y e = absurd (none-some _ e)

plainly-of : (test : Kind → Bool) (kind : Kind) → test kind ≡ true → (os : List ℕ) → AreOf test (map (plainly kind) os)
plainly-of test kind e [] = tt
plainly-of test kind e (o ∷ os) = (e, plainly-of test kind e os)

pub if-any-of : (test : Kind → Bool) (kind : Kind) → test kind ≡ true → (size offset : ℕ) → AreOf test (if_any kind size offset)
if-any-of test kind e zero offset = tt
if-any-of test kind e (suc n) offset = (e, tt)

segments-of : (test : Kind → Bool) → test Segment ≡ true → (os : List ℕ) (size : ℕ) → AreOf test (segments size os)
segments-of test e [] size = tt
segments-of test e (o ∷ os) size = (e, segments-of test e os _)

-- ---- records that aren't keys, nor lists that lead to keys

abbrev pub is_low : Kind → Bool
is_low Key = false
is_low Class = true
is_low SubList = false
is_low Leaf = false
is_low ValueList = true
is_low Value = true
is_low Data = true
is_low BigHead = true
is_low BigList = true
is_low Segment = true
is_low Security = true

low-met : (kind : Kind) (content : List ℕ) → is_low kind ≡ true → kind_met kind content ≡ kind
low-met Key content e = absurd (cc)
low-met Class content e = refl
low-met SubList content e = absurd (cc)
low-met Leaf content e = absurd (cc)
low-met ValueList content e = refl
low-met Value content e = refl
low-met Data content e = refl
low-met BigHead content e = refl
low-met BigList content e = refl
low-met Segment content e = refl
low-met Security content e = refl

-- what such a record names
module _ (test : Kind → Bool) (value : test Value ≡ true) (one_cell : test Data ≡ true) (head : test BigHead ≡ true) (list : test BigList ≡ true) (segment : test Segment ≡ true) where
  none-of : (b : Bool) (names : List Named) → cond b (Some []) None ≡ Some names → AreOf test names
  none-of b names e = subst (AreOf test) (test-some b [] names e) tt

  value-of : (v : KeyValueRecord) (names : List Named) → value_names v ≡ Some names → AreOf test names
  value-of v names e = by (is_inline v.fields.size) (nat_le v.fields.size segment_size) (nat_le (inline_size v.fields.size) 4) e
    where
      by : (a b c : Bool) → cond a (cond c (Some []) None) (cond b (Some (if_any Data v.fields.size v.fields.offset)) (Some (named BigHead v.fields.size v.fields.offset ∷ []))) ≡ Some names →
          AreOf test names
      by true b c e = none-of c names e
      by false true c e = subst (AreOf test) (same_Some _ _ e) (if-any-of test Data one_cell v.fields.size v.fields.offset)
      by false false c e = subst (AreOf test) (same_Some _ _ e) (head, tt)

  security-of : (s : KeySecurityRecord) (names : List Named) → security_names s ≡ Some names → AreOf test names
  security-of s names e = by (length s.descriptor == 0) e
    where
      by : (b : Bool) → cond b None (Some []) ≡ Some names → AreOf test names
      by true e = absurd (none-some _ e)
      by false e = subst (AreOf test) (same_Some _ _ e) tt

  pub low-named : (kind : Kind) (size : ℕ) (content : List ℕ) (names : List Named) → is_low kind ≡ true → names_of kind size content ≡ Some names → AreOf test names
  low-named Key size content names l e = absurd (cc)
  low-named SubList size content names l e = absurd (cc)
  low-named Leaf size content names l e = absurd (cc)
  low-named Class size content names l e = none-of (nat_le size (length content)) names e
  low-named Data size content names l e = none-of (nat_le size (length content)) names e
  low-named Segment size content names l e = none-of (nat_le size (length content)) names e
  low-named ValueList size content names l e =
      let m = map-open (map (plainly Value)) (row_in size content) names e in
      subst (AreOf test) m.2 (plainly-of test Value value m.0)
  low-named Value size content names l e = let o = then-open value_names (result_ok (vk_of content)) names e in value-of o.0 names o.2
  low-named BigHead size content names l e =
      let o = then-open (big_names size) (db_of content) names e in
      subst (AreOf test) (test-some (nat_le (segments_for size) o.0.count) (named BigList size o.0.list ∷ []) names o.2) (list, tt)
  low-named BigList size content names l e =
      let m = map-open (segments size) (row_in (segments_for size) content) names e in
      subst (AreOf test) m.2 (segments-of test segment m.0 size)
  low-named Security size content names l e = let o = then-open security_names (result_ok (sk_of content)) names e in security-of o.0 names o.2

-- ---- what such records walk to: none is a key

all-both : (P : Found → Type 0) (xs ys : List Found) → AllByRecursion P xs → AllByRecursion P ys → AllByRecursion P (xs ++ ys)
all-both P [] ys a b = b
all-both P (x ∷ xs) ys a b = (a.0, all-both P xs ys a.1 b)

abbrev pub AreLow : List Found → Type 0
AreLow found = AllByRecursion (λ (f : Found). is_low f.kind ≡ true) found

pub low-gather : (k : ℕ) (heap : Heap) → ((n : Named) (found : List Found) → is_low n.kind ≡ true → walk k heap n ≡ Some found → AreLow found) →
    (names : List Named) (found : List Found) → AreOf is_low names → gather (walk k heap) names ≡ Some found → AreLow found
low-gather k heap one [] found a e = subst AreLow (same_Some _ _ e) tt
low-gather k heap one (n ∷ names) found a e =
    let o = gather-open (walk k heap) n names found e in
    subst AreLow o.all (all-both (λ (f : Found). is_low f.kind ≡ true) o.head o.tail (one n o.head a.0 o.head_is) (low-gather k heap one names o.tail a.1 o.tail_is))

pub low-walk : (k : ℕ) (heap : Heap) (n : Named) (found : List Found) → is_low n.kind ≡ true → walk k heap n ≡ Some found → AreLow found
low-walk zero heap n found l e = absurd (walk-none heap n found e)
low-walk (suc k) heap n found l e =
    let m = walk-open k heap n found e in
    let kind = low-met n.kind m.content l in
    let names = subst (λ (x : Kind). names_of x n.size m.content ≡ Some m.names) kind m.names_are in
    subst AreLow m.all
    (ap is_low kind ∙ l, low-gather k heap (low-walk k heap) m.names m.below (low-named is_low refl refl refl refl refl n.kind n.size m.content m.names l names) m.below_is)

-- ---- securities, as often as keys name them

-- 1 where a key names this security
abbrev pub uses_by : Option KeyRecord → ℕ → ℕ
uses_by None z = 0
uses_by (Some key) z = cond (key.fields.security == z) 1 0

abbrev pub uses : Heap → ℕ → Found → ℕ
uses heap z f = cond (is_key f.kind) (uses_by (key_at heap f.offset) z) 0

-- 1 where this security is named
abbrev share_of : ℕ → Named → ℕ
share_of z n = cond (is_security n.kind) (cond (n.offset == z) 1 0) 0

shares_of : ℕ → List Named → ℕ
shares_of z [] = 0
shares_of z (n ∷ names) = share_of z n + shares_of z names

shares-append : (z : ℕ) (xs ys : List Named) → shares_of z (xs ++ ys) ≡ shares_of z xs + shares_of z ys
unfolding shares_of
shares-append z [] ys = omega arith
shares-append z (x ∷ xs) ys = let e = shares-append z xs ys in omega (arith, e)

abbrev is_else : Kind → Bool
is_else kind = cond (is_security kind) false true

else-none : (z : ℕ) (names : List Named) → AreOf is_else names → shares_of z names ≡ 0
unfolding shares_of
else-none z [] a = refl
else-none z (n ∷ names) a = let one = by (is_security n.kind) a.0 in let rest = else-none z names a.1 in omega (arith, one, rest)
  where
    by : (b : Bool) → cond b false true ≡ true → ◌≡◌ {A = ℕ} (cond b (cond (n.offset == z) 1 0) 0) 0
    by true e = absurd (cc)
    by false e = refl

lists-of : (names : List Named) (form : Form) (entries : List Entry) → leaves_named form entries ≡ Some names → AreOf is_else names
lists-of names IndexRoot entries e = subst (AreOf is_else) (same_Some _ _ e) (plainly-of is_else Leaf refl (offsets_in entries))
lists-of names IndexLeaf entries e = absurd (none-some _ e)
lists-of names FastLeaf entries e = absurd (none-some _ e)
lists-of names HashLeaf entries e = absurd (none-some _ e)

keys-of : (names : List Named) (form : Form) (entries : List Entry) → keys_named form entries ≡ Some names → AreOf is_else names
keys-of names IndexRoot entries e = absurd (none-some _ e)
keys-of names IndexLeaf entries e = subst (AreOf is_else) (same_Some _ _ e) (plainly-of is_else Key refl (offsets_in entries))
keys-of names FastLeaf entries e = subst (AreOf is_else) (same_Some _ _ e) (plainly-of is_else Key refl (offsets_in entries))
keys-of names HashLeaf entries e = subst (AreOf is_else) (same_Some _ _ e) (plainly-of is_else Key refl (offsets_in entries))

-- what a record names of a security, but a key
names-else : (kind : Kind) (size : ℕ) (content : List ℕ) (names : List Named) → is_key kind ≡ false → names_of kind size content ≡ Some names → AreOf is_else names
names-else Key size content names k e = absurd (cc)
names-else SubList size content names k e =
    let o = then-open (λ (list : SubkeysList). leaves_named list.form list.entries) (list_of content) names e in lists-of names o.0.form o.0.entries o.2
names-else Leaf size content names k e =
    let o = then-open (λ (list : SubkeysList). keys_named list.form list.entries) (list_of content) names e in keys-of names o.0.form o.0.entries o.2
names-else Class size content names k e = low-named is_else refl refl refl refl refl Class size content names refl e
names-else ValueList size content names k e = low-named is_else refl refl refl refl refl ValueList size content names refl e
names-else Value size content names k e = low-named is_else refl refl refl refl refl Value size content names refl e
names-else Data size content names k e = low-named is_else refl refl refl refl refl Data size content names refl e
names-else BigHead size content names k e = low-named is_else refl refl refl refl refl BigHead size content names refl e
names-else BigList size content names k e = low-named is_else refl refl refl refl refl BigList size content names refl e
names-else Segment size content names k e = low-named is_else refl refl refl refl refl Segment size content names refl e
names-else Security size content names k e = low-named is_else refl refl refl refl refl Security size content names refl e

-- a key names one
key-shares : (z : ℕ) (key : KeyRecord) → shares_of z (key_names key) ≡ cond (key.fields.security == z) 1 0
unfolding shares_of
key-shares z key =
    let class = if_any Class key.fields.class_length key.fields.class in
    let values = if_any ValueList key.fields.values key.fields.values_list in
    let lists = if_any SubList key.fields.subkeys key.fields.subkeys_list in
    let a = shares-append z class (plainly Security key.fields.security ∷ (values ++ lists)) in
    let b = shares-append z values lists in
    let c = else-none z class (if-any-of is_else Class refl key.fields.class_length key.fields.class) in
    let d = else-none z values (if-any-of is_else ValueList refl key.fields.values key.fields.values_list) in
    let e = else-none z lists (if-any-of is_else SubList refl key.fields.subkeys key.fields.subkeys_list) in
    omega (arith, a, b, c, d, e)

-- a record, and what it names: as often a security as keys name it
abbrev IsFair : Heap → ℕ → List Found → ℕ → Type 0
IsFair heap z found own = shared z found ≡ tally (uses heap z) found + own

fair-gather : (k z : ℕ) (heap : Heap) → ((n : Named) (found : List Found) → walk k heap n ≡ Some found → IsFair heap z found (share_of z n)) →
    (names : List Named) (found : List Found) → gather (walk k heap) names ≡ Some found → IsFair heap z found (shares_of z names)
unfolding shares_of
fair-gather k z heap one [] found e = subst (λ (fs : List Found). IsFair heap z fs 0) (same_Some _ _ e) refl
fair-gather k z heap one (n ∷ names) found e =
    let o = gather-open (walk k heap) n names found e in
    let a = one n o.head o.head_is in
    let b = fair-gather k z heap one names o.tail o.tail_is in
    let s = tally-append (is_shared z) o.head o.tail in
    let u = tally-append (uses heap z) o.head o.tail in
    subst (λ (fs : List Found). IsFair heap z fs (shares_of z (n ∷ names))) o.all (omega (arith, a, b, s, u))

key-is : (kind : Kind) → is_key kind ≡ true → kind ≡ Key
key-is Key e = refl
key-is Class e = absurd (cc)
key-is SubList e = absurd (cc)
key-is Leaf e = absurd (cc)
key-is ValueList e = absurd (cc)
key-is Value e = absurd (cc)
key-is Data e = absurd (cc)
key-is BigHead e = absurd (cc)
key-is BigList e = absurd (cc)
key-is Segment e = absurd (cc)
key-is Security e = absurd (cc)

pub met-else : (kind : Kind) (content : List ℕ) → is_key kind ≡ false → is_key (kind_met kind content) ≡ false
met-else Key content e = absurd (cc)
met-else Class content e = refl
met-else SubList content e = by (is_signed 114 105 content)
  where
    by : (b : Bool) → is_key (cond b SubList Leaf) ≡ false
    by true = refl
    by false = refl
met-else Leaf content e = refl
met-else ValueList content e = refl
met-else Value content e = refl
met-else Data content e = refl
met-else BigHead content e = refl
met-else BigList content e = refl
met-else Segment content e = refl
met-else Security content e = refl

met-security : (kind : Kind) (content : List ℕ) → is_security (kind_met kind content) ≡ is_security kind
met-security Key content = refl
met-security Class content = refl
met-security SubList content = by (is_signed 114 105 content)
  where
    by : (b : Bool) → is_security (cond b SubList Leaf) ≡ false
    by true = refl
    by false = refl
met-security Leaf content = refl
met-security ValueList content = refl
met-security Value content = refl
met-security Data content = refl
met-security BigHead content = refl
met-security BigList content = refl
met-security Segment content = refl
met-security Security content = refl

pub fair-walk : (k z : ℕ) (heap : Heap) (n : Named) (found : List Found) → walk k heap n ≡ Some found → IsFair heap z found (share_of z n)
unfolding key_at
fair-walk zero z heap n found e = absurd (walk-none heap n found e)
fair-walk (suc k) z heap n found e =
    let m = walk-open k heap n found e in
    let below = fair-gather k z heap (fair-walk k z heap) m.names m.below m.below_is in
    subst (λ (fs : List Found). IsFair heap z fs (share_of z n)) m.all (by n.kind refl m.content m.here m.names m.names_are m.below below)
  where
    by : (kind : Kind) → n.kind ≡ kind → (content : List ℕ) → heap n.offset ≡ Some content → (names : List Named) → names_of (kind_met n.kind content) n.size content ≡ Some names →
        (below : List Found) → IsFair heap z below (shares_of z names) → IsFair heap z (record { kind = kind_met n.kind content; offset = n.offset } ∷ below) (share_of z n)
    by kind is content here names are below fair = on (is_key kind) refl
      where
        on : (b : Bool) → is_key kind ≡ b → IsFair heap z (record { kind = kind_met n.kind content; offset = n.offset } ∷ below) (share_of z n)
        on false k =
            let no = ap is_key is ∙ k in
            let none = else-none z names (names-else (kind_met n.kind content) n.size content names (met-else n.kind content no) are) in
            let self : is_shared z (record { kind = kind_met n.kind content; offset = n.offset }) ≡ share_of z n = ap (λ (t : Bool). cond t (cond (n.offset == z) 1 0) 0) (met-security n.kind content) in
            let used : uses heap z (record { kind = kind_met n.kind content; offset = n.offset }) ≡ 0 = ap (λ (t : Bool). cond t (uses_by (key_at heap n.offset) z) 0) (met-else n.kind content no) in
            omega (arith, none, self, used, fair)
        on true k =
            let at : n.kind ≡ Key = is ∙ key-is kind k in
            let it = λ (x : Kind) (m : ℕ → Found → ℕ). m z (record { kind = kind_met x content; offset = n.offset }) in
            let q = map-open key_names (result_ok (nk_of content)) names (subst (λ (x : Kind). names_of (kind_met x content) n.size content ≡ Some names) at are) in
            let named_so = ap (shares_of z) (sym q.2) ∙ key-shares z q.0 in
            let reads : key_at heap n.offset ≡ Some q.0 = ap (option_and_then (λ (c : List ℕ). result_ok (nk_of c))) here ∙ q.1 in
            let self : is_shared z (record { kind = kind_met n.kind content; offset = n.offset }) ≡ 0 = ap (λ (x : Kind). it x is_shared) at in
            let share : share_of z n ≡ 0 = ap (λ (x : Kind). cond (is_security x) (cond (n.offset == z) 1 0) 0) at in
            let used : uses heap z (record { kind = kind_met n.kind content; offset = n.offset }) ≡ cond (q.0.fields.security == z) 1 0 =
            ap (λ (x : Kind). it x (uses heap)) at ∙ ap (λ (o : Option KeyRecord). uses_by o z) reads in
            omega (arith, named_so, self, share, used, fair)
