-- Subkeys that were looked at one after another fit their parent, and those that fit are gone through.
use Rattle.std.proofs.Common.{◌≡◌, ℕ, ◌+◌, ◌-◌, ◌*◌, ◌<◌, ◌≤◌, ◌%◌, ◌==◌, ◌&&◌, nat_le, nat_lt, Bool, true, cond, Option, Some, None, List, [], ◌∷◌, ◌++◌, map, length, refl, sym, ap, ◌∙◌, subst, arith}
use Rattle.std.specs.List.{AllByRecursion}
use Rattle.std.specs.Option.{option_and_then}
use Rattle.std.specs.Ordering.{is_lt}
use Rattle.std.specs.declared.cmp.Ordering.{Ordering}
use Rattle.std.specs.declared.cmp.Ordering.TheVariants.{Less, Equal, Greater}
use Rattle.std.specs.Cmp.Lexicographic.{nat_list_cmp_total}
use Rattle.std.proofs.lemmas.Bool.{eqb-true, eq-eqb, leb-true, le-leb, false≢true}
use Rattle.std.proofs.lemmas.Option.{same_Some}
use Rattle.reg_names.specs.Names.{folded, hash, name_cmp}
use Rattle.reg_heap.specs.Heaps.{Heap}
use Rattle.reg_records.specs.declared.nk.KeyFields.{KeyFields}
use Rattle.reg_records.specs.KeyNodes.{key_at}
use Rattle.reg_records.specs.SubkeyLists.{Entry}
use Rattle.reg_shape.specs.Nodes.{Node}
use Rattle.reg_shape.specs.Written.{Pairwise, Precedes}
use Rattle.reg_shape.proofs.Walking.IndexWalks.{then-open}
use Rattle.reg_written.proofs.CellsRead.{both, and-made, when}
use Rattle.reg_written.specs.Internal.KeyTests.{Siblings, is_behind, is_child, with_child, with_entry, with_entries}

-- ---- orders

pub precedes : (a b : List ℕ) → is_lt (name_cmp a b) ≡ true → Precedes a b
precedes a b e = by (name_cmp a b) refl e
  where
    by : (o : Ordering) → name_cmp a b ≡ o → is_lt o ≡ true → name_cmp a b ≡ Less
    by Less e f = e
    by Equal e f = absurd (false≢true f)
    by Greater e f = absurd (false≢true f)

later : (last : Option (List ℕ)) (a b : List ℕ) → is_behind last a ≡ true → Precedes a b → is_behind last b ≡ true
later None a b e p = refl
later (Some last) a b e p = ap is_lt (nat_list_cmp_total.trans (folded last) (folded a) (folded b) (precedes last a e) p)

module _ (heap : Heap) (parent : ℕ) (fields : KeyFields) where
  -- the entries name these keys, as they are read
  abbrev pub AreBelow : List Entry → List (ℕ × Node) → Type 0
  AreBelow [] [] = Unit {0}
  AreBelow [] (n ∷ nodes) = ⊥
  AreBelow (e ∷ entries) [] = ⊥
  AreBelow (e ∷ entries) (n ∷ nodes) = (e.offset ≡ n.0) × (key_at heap e.offset ≡ Some n.1.key) × AreBelow entries nodes

  -- each is one of the parent's
  record IsChild (entry : Entry) (n : ℕ × Node) : Type 0 where
    parent_is : n.1.key.fields.parent ≡ parent
    hash_is : hash n.1.key.name ≡ entry.hint
    name_is : 2 * length n.1.key.name ≤ fields.largest_subkey_name % 65536
    class_is : n.1.key.fields.class_length ≤ fields.largest_subkey_class

  child-open : (entry : Entry) (n : ℕ × Node) → is_child parent fields entry n.1.key ≡ true → IsChild entry n
  child-open entry n e =
      let a = both (n.1.key.fields.parent == parent) _ e in
      let b = both (hash n.1.key.name == entry.hint) _ a.1 in
      let c = both (nat_le (2 * length n.1.key.name) (fields.largest_subkey_name % 65536)) _ b.1 in
      record { parent_is = eqb-true _ _ a.0; hash_is = eqb-true _ _ b.0; name_is = leb-true _ _ c.0; class_is = leb-true _ _ c.1 }

  child-made : (entry : Entry) (n : ℕ × Node) → IsChild entry n → is_child parent fields entry n.1.key ≡ true
  child-made entry n c =
      and-made (n.1.key.fields.parent == parent) _ (eq-eqb _ _ c.parent_is)
      (and-made (hash n.1.key.name == entry.hint) _ (eq-eqb _ _ c.hash_is)
      (and-made (nat_le (2 * length n.1.key.name) (fields.largest_subkey_name % 65536)) _ (le-leb _ _ c.name_is) (le-leb _ _ c.class_is)))

  -- the keys of these entries fit, one after another, behind a last name
  pub record FollowFrom (before : Siblings) (entries : List Entry) (nodes : List (ℕ × Node)) : Type 0 where
    pub hashes : map (λ (n : ℕ × Node). hash n.1.key.name) nodes ≡ map (λ (e : Entry). e.hint) entries
    pub order : Pairwise (λ (a b : ℕ × Node). Precedes a.1.key.name b.1.key.name) nodes
    pub behind : AllByRecursion (λ (n : ℕ × Node). is_behind before.last n.1.key.name ≡ true) nodes
    pub parents : AllByRecursion (λ (n : ℕ × Node). n.1.key.fields.parent ≡ parent) nodes
    pub longest_name : AllByRecursion (λ (n : ℕ × Node). 2 * length n.1.key.name ≤ fields.largest_subkey_name % 65536) nodes
    pub longest_class : AllByRecursion (λ (n : ℕ × Node). n.1.key.fields.class_length ≤ fields.largest_subkey_class) nodes

  -- ---- one entry

  record IsOneMore (before : Siblings) (entry : Entry) (n : ℕ × Node) (after : Siblings) : Type 0 where
    some : 0 < before.left
    behind : is_behind before.last n.1.key.name ≡ true
    child : IsChild entry n
    after_is : record { left = before.left - 1; last = Some n.1.key.name } ≡ after

  one-open : (before : Siblings) (entry : Entry) (n : ℕ × Node) (after : Siblings) → key_at heap entry.offset ≡ Some n.1.key →
      with_entry heap parent fields before entry ≡ Some after → IsOneMore before entry n after
  one-open before entry n after k e =
      let w = when (nat_lt 0 before.left && (is_behind before.last n.1.key.name && is_child parent fields entry n.1.key))
      (record { left = before.left - 1; last = Some n.1.key.name }) after (ap (with_child parent fields before entry) (sym k) ∙ e) in
      let a = both (nat_lt 0 before.left) _ w.0 in
      let b = both (is_behind before.last n.1.key.name) _ a.1 in
      record { some = leb-true _ _ a.0; behind = b.0; child = child-open entry n b.1; after_is = w.1 }

  one-made : (before : Siblings) (entry : Entry) (n : ℕ × Node) → key_at heap entry.offset ≡ Some n.1.key → 0 < before.left → is_behind before.last n.1.key.name ≡ true → IsChild entry n →
      with_entry heap parent fields before entry ≡ Some (record { left = before.left - 1; last = Some n.1.key.name })
  one-made before entry n k some behind child =
      ap (with_child parent fields before entry) k
      ∙ ap (λ (b : Bool). cond b (Some (record { left = before.left - 1; last = Some n.1.key.name })) None)
      (and-made (nat_lt 0 before.left) _ (le-leb _ _ some) (and-made (is_behind before.last n.1.key.name) _ behind (child-made entry n child)))

  -- ---- all entries

  all-behind : (last : Option (List ℕ)) (n : ℕ × Node) (nodes : List (ℕ × Node)) → is_behind last n.1.key.name ≡ true →
      AllByRecursion (λ (m : ℕ × Node). is_behind (Some n.1.key.name) m.1.key.name ≡ true) nodes →
      AllByRecursion (λ (m : ℕ × Node). is_behind last m.1.key.name ≡ true) nodes
  all-behind last n [] e a = tt
  all-behind last n (m ∷ nodes) e a = (later last n.1.key.name m.1.key.name e (precedes n.1.key.name m.1.key.name a.0), all-behind last n nodes e a.1)

  all-precede : (name : List ℕ) (nodes : List (ℕ × Node)) → AllByRecursion (λ (m : ℕ × Node). is_behind (Some name) m.1.key.name ≡ true) nodes →
      AllByRecursion (λ (m : ℕ × Node). Precedes name m.1.key.name) nodes
  all-precede name [] a = tt
  all-precede name (m ∷ nodes) a = (precedes name m.1.key.name a.0, all-precede name nodes a.1)

  all-follow : (name : List ℕ) (nodes : List (ℕ × Node)) → AllByRecursion (λ (m : ℕ × Node). Precedes name m.1.key.name) nodes →
      AllByRecursion (λ (m : ℕ × Node). is_behind (Some name) m.1.key.name ≡ true) nodes
  all-follow name [] a = tt
  all-follow name (m ∷ nodes) a = (ap is_lt a.0, all-follow name nodes a.1)

  pub record Followed (before : Siblings) (entries : List Entry) (nodes : List (ℕ × Node)) (after : Siblings) : Type 0 where
    pub fits : FollowFrom before entries nodes
    pub counts : before.left ≡ after.left + length entries

  pub all-open : (entries : List Entry) (nodes : List (ℕ × Node)) (before after : Siblings) → AreBelow entries nodes →
      with_entries heap parent fields entries before ≡ Some after → Followed before entries nodes after
  all-open [] [] before after a e =
      let same = same_Some _ _ e in
      record {
        fits = record { hashes = refl; order = tt; behind = tt; parents = tt; longest_name = tt; longest_class = tt };
        counts = (let l = ap (λ (s : Siblings). s.left) same in omega (arith, l));
      }
  all-open [] (n ∷ nodes) before after a e = absurd a
  all-open (entry ∷ entries) [] before after a e = absurd a
  all-open (entry ∷ entries) (n ∷ nodes) before after a e =
      let o = then-open (with_entries heap parent fields entries) (with_entry heap parent fields before entry) after e in
      let one = one-open before entry n o.0 a.1 o.1 in
      let rest = all-open entries nodes o.0 after a.2 o.2 in
      let behind : AllByRecursion (λ (m : ℕ × Node). is_behind (Some n.1.key.name) m.1.key.name ≡ true) nodes =
      subst (λ (s : Siblings). AllByRecursion (λ (m : ℕ × Node). is_behind s.last m.1.key.name ≡ true) nodes) (sym one.after_is) rest.fits.behind in
      let left : before.left - 1 ≡ o.0.left = ap (λ (s : Siblings). s.left) one.after_is in
      record {
        fits = record {
          hashes = ap (λ (h : ℕ). h ∷ map (λ (n : ℕ × Node). hash n.1.key.name) nodes) one.child.hash_is ∙ ap (λ (hs : List ℕ). entry.hint ∷ hs) rest.fits.hashes;
          order = (all-precede n.1.key.name nodes behind, rest.fits.order);
          behind = (one.behind, all-behind before.last n nodes one.behind behind);
          parents = (one.child.parent_is, rest.fits.parents);
          longest_name = (one.child.name_is, rest.fits.longest_name);
          longest_class = (one.child.class_is, rest.fits.longest_class);
        };
        counts = (let c = rest.counts in let s = one.some in omega (arith, c, s, left));
      }

  heads : (h : ℕ) (hs : List ℕ) (k : ℕ) (ks : List ℕ) → h ∷ hs ≡ k ∷ ks → (h ≡ k) × (hs ≡ ks)
  heads h hs k ks e = (cc, cc)

  pub all-made : (entries : List Entry) (nodes : List (ℕ × Node)) (before : Siblings) → AreBelow entries nodes → FollowFrom before entries nodes → length entries ≤ before.left →
      (after : Siblings) × (with_entries heap parent fields entries before ≡ Some after) × (before.left ≡ after.left + length entries)
  all-made [] [] before a f l = (before, refl, omega arith)
  all-made [] (n ∷ nodes) before a f l = absurd a
  all-made (entry ∷ entries) [] before a f l = absurd a
  all-made (entry ∷ entries) (n ∷ nodes) before a f l =
      let h = heads _ _ _ _ f.hashes in
      let mid : Siblings = record { left = before.left - 1; last = Some n.1.key.name } in
      let one = one-made before entry n a.1 (omega (arith, l)) f.behind.0 (record { parent_is = f.parents.0; hash_is = h.0; name_is = f.longest_name.0; class_is = f.longest_class.0 }) in
      let rest = all-made entries nodes mid a.2
      (record {
        hashes = h.1;
        order = f.order.1;
        behind = all-follow n.1.key.name nodes f.order.0;
        parents = f.parents.1;
        longest_name = f.longest_name.1;
        longest_class = f.longest_class.1;
      })
      (omega (arith, l)) in
      (rest.0, ap (option_and_then (with_entries heap parent fields entries)) one ∙ rest.1, (let c = rest.2 in omega (arith, c, l)))

  -- ---- entries behind others

  pub with-append : (xs ys : List Entry) (before : Siblings) →
      with_entries heap parent fields (xs ++ ys) before ≡ option_and_then (with_entries heap parent fields ys) (with_entries heap parent fields xs before)
  with-append [] ys before = refl
  with-append (x ∷ xs) ys before = by (λ (mid : Siblings). with-append xs ys mid) (with_entry heap parent fields before x)
    where
      by : ((mid : Siblings) → with_entries heap parent fields (xs ++ ys) mid ≡ option_and_then (with_entries heap parent fields ys) (with_entries heap parent fields xs mid)) →
          (o : Option Siblings) → option_and_then (with_entries heap parent fields (xs ++ ys)) o ≡
          option_and_then (with_entries heap parent fields ys) (option_and_then (with_entries heap parent fields xs) o)
      by rest None = refl
      by rest (Some mid) = rest mid
