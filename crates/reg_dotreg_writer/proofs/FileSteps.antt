-- A file told block by block.
use Rattle.std.proofs.Common.{◌≡◌, ℕ, Bool, true, false, not, cond, ◌&&◌, List, [], ◌∷◌, ◌++◌, is_some, Option, Some, None, IsSome, Result}
use Rattle.std.proofs.Common.{refl, sym, ap, subst}
use Rattle.std.specs.Prelude.{if◌then◌else◌, find, flat_map, OnOk, IfErr}
use Rattle.std.specs.FinMap.{get}
use Rattle.std.specs.List.{list_all}
use Rattle.std.specs.Option.{option_map}
use Rattle.std.specs.Io.KnownBytes.{Appends}
use Rattle.std.proofs.lemmas.Bool.{and_parts, and_from}
use Rattle.std.proofs.lemmas.Option.{same_Some}
use Rattle.reg_names.specs.Names.{is_path, text_of}
use Rattle.reg_heap.specs.Paths.{Path, Tree}
use Rattle.reg_heap.specs.Edits.{folded_path}
use Rattle.reg_tree.specs.declared.node.Node.{Node}
use Rattle.reg_tree.specs.TreeKeys.{Keys, IsAt}
use Rattle.reg_text.specs.Failures.{Stays}
use Rattle.reg_text.proofs.FailureCounts.{stays-at}
use Rattle.reg_tree_text.specs.declared.fault.DumpFault.{DumpFault}
use Rattle.reg_tree_text.specs.declared.fault.DumpFault.TheVariants.{Memory}
use Rattle.reg_tree_text.specs.declared.walk.Walk.{Walk}
use Rattle.reg_tree_text.specs.DumpTexts.{Told}
use Rattle.reg_tree_text.specs.DumpFronts.{IsStopped}
use Rattle.reg_tree_text.specs.Internal.Gathered.{WriterState, IsSoFar}
use Rattle.reg_tree_text.specs.Internal.Walking.{Goes}
use Rattle.reg_tree_text.proofs.SentTexts.{opened, swapped, then_gathered, appends_none}
use Rattle.reg_tree_text.specs.PathQueries.{key_at, IsKeyFound}
use Rattle.reg_dotreg_writer.specs.Entries.{heading, mark, keys_from, is_writable, CanWrite, unwritable}
use Rattle.reg_dotreg_writer.specs.Internal.Pieces.{plain, block_pieces, head_pieces, file_pieces}
use Rattle.reg_dotreg_writer.proofs.PieceBytes.{two}

-- a walk has come to a key
pub record IsWriting (keys : Keys) (walk : Walk) : Type 0 where
  pub now : List Told
  pub goes : Goes keys walk now

-- the block of the first of the keys that are to come is next
pub block_next : (begin now : WriterState) (whole : List ℕ) (u : Bool) (all rest : List Told) (told : Told) (left gathered : List ℕ) (written : ℕ) →
    all ≡ told ∷ rest → IsSoFar begin now whole (flat_map (block_pieces u) all ++ left) gathered written →
    IsSoFar begin now whole (block_pieces u told ++ (flat_map (block_pieces u) rest ++ left)) gathered written
block_next begin now whole u all rest told left gathered written e s =
    opened begin now whole (block_pieces u told) (flat_map (block_pieces u) rest) left gathered written
    (swapped begin now whole _ _ left gathered written s (sym (ap (flat_map (block_pieces u)) e)))

pub heading_told : (u : Bool) (old mid new : List ℕ) → mid ≡ old ++ mark u → new ≡ mid ++ plain u heading → new ≡ old ++ head_pieces u
unfolding head_pieces
heading_told u old mid new p q = two old mid new (mark u) (plain u heading) p q

-- the keys' blocks are next
pub blocks_start : (begin now : WriterState) (whole : List ℕ) (u : Bool) (root : List ℕ) (tree : Tree) (path : Path) (left gathered more : List ℕ)
    (written : ℕ) →
    IsSoFar begin now whole (file_pieces u root tree path ++ left) gathered written → more ≡ gathered ++ head_pieces u →
    IsSoFar begin now whole (flat_map (block_pieces u) (keys_from root tree path) ++ left) more written
unfolding file_pieces
blocks_start begin now whole u root tree path left gathered more written s e =
    then_gathered begin now whole (head_pieces u) (flat_map (block_pieces u) (keys_from root tree path)) left gathered more written s e

-- ---- the key that a text leads to

pub record IsFoundAt (keys : Keys) (text : List ℕ) (node : Node) : Type 0 where
  pub valid : is_path text ≡ true
  pub there : IsSome (get keys.tree (folded_path text))
  pub at : IsAt keys (folded_path text) node
  pub key : key_at keys.tree text ≡ Some (folded_path text)

pub found_at : (keys : Keys) (text : List ℕ) (node : Node) → IsKeyFound keys text (Some node) → IsFoundAt keys text node
found_at keys text node f = by (is_path text && is_some (get keys.tree (folded_path text))) refl f.1
  where
    by : (b : Bool) → (is_path text && is_some (get keys.tree (folded_path text))) ≡ b →
        (if b then Some (folded_path text) else None) ≡ Some f.0 → IsFoundAt keys text node
    by true t e =
        let both = and_parts (is_path text) (is_some (get keys.tree (folded_path text))) t in
        record {
          valid = both.0;
          there = both.1;
          at = subst (λ (p : Path). IsAt keys p node) (sym (same_Some _ _ e)) f.2;
          key = ap (λ (b : Bool). if b then Some (folded_path text) else None) t;
        }
    by false t e = absurd (cc)

-- ---- names that can't be written

fine-by : (t : Told) (told : List Told) (b : Bool) → is_writable t ≡ b →
    (option_map (λ (t : Told). text_of t.names) (find (λ (t : Told). not (is_writable t)) told) ≡ None → list_all is_writable told ≡ true) →
    option_map (λ (t : Told). text_of t.names) (cond (not b) (Some t) (find (λ (t : Told). not (is_writable t)) told)) ≡ None →
    list_all is_writable (t ∷ told) ≡ true
fine-by t told true w rest f = and_from (is_writable t) (list_all is_writable told) w (rest f)
fine-by t told false w rest f = absurd (cc)

all-fine : (told : List Told) → option_map (λ (t : Told). text_of t.names) (find (λ (t : Told). not (is_writable t)) told) ≡ None →
    list_all is_writable told ≡ true
all-fine [] e = refl
all-fine (t ∷ told) e = fine-by t told (is_writable t) refl (λ f. all-fine told f) e

pub none_unwritable : (root : List ℕ) (tree : Tree) (path : Path) →
    None ≡ option_map (λ (t : Told). text_of t.names) (unwritable root tree path) → CanWrite root tree path
none_unwritable root tree path e = all-fine (keys_from root tree path) (sym e)

pub first_unwritable : (root : List ℕ) (tree : Tree) (path : Path) (key : List ℕ) →
    Some key ≡ option_map (λ (t : Told). text_of t.names) (unwritable root tree path) →
    (told : Told) × (unwritable root tree path ≡ Some told) × (key ≡ text_of told.names)
first_unwritable root tree path key e = by (unwritable root tree path) refl e
  where
    by : (o : Option Told) → unwritable root tree path ≡ o → Some key ≡ option_map (λ (t : Told). text_of t.names) o →
        (told : Told) × (unwritable root tree path ≡ Some told) × (key ≡ text_of told.names)
    by None u f = absurd (cc)
    by (Some told) u f = (told, u, same_Some _ _ f)

-- ---- the file's bytes, said in another way

pub as_ok : {A E : Type 0} (r : Result A E) (before after : Option (List ℕ)) (whole same : List ℕ) → whole ≡ same →
    OnOk r (Appends before after whole) → OnOk r (Appends before after same)
as_ok r before after whole same e o = subst (λ (w : List ℕ). OnOk r (Appends before after w)) e o

pub as_err : {A : Type 0} (r : Result A DumpFault) (before after : Option (List ℕ)) (whole same : List ℕ) → whole ≡ same →
    IfErr r (λ fault. IsStopped before after whole fault) → IfErr r (λ fault. IsStopped before after same fault)
as_err r before after whole same e o = subst (λ (w : List ℕ). IfErr r (λ fault. IsStopped before after w fault)) e o

-- nothing was written yet
pub nothing_yet : (before : Option (List ℕ)) (whole : List ℕ) → IsStopped before before whole Memory
nothing_yet before whole = (0, appends_none before)

-- a writer that wasn't asked
pub stays_at : (at : Option ℕ) → Stays at at
stays_at at = stays-at at
