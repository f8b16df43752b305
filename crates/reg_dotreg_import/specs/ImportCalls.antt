-- The calls by which the entries of a .reg text are made in a hive, one after another (this project's own).
use Rattle.std.specs.Prelude.{◌≡◌, ℕ, ◌+◌, ◌==◌, ◌&&◌, not, Bool, if◌then◌else◌, List, [], ◌∷◌, ◌++◌, length, is_some, None}
use Rattle.std.specs.FinMap.{get}
use Rattle.reg_names.specs.Names.{is_path}
use Rattle.reg_heap.specs.Paths.{Tree}
use Rattle.reg_heap.specs.Members.{value_named}
use Rattle.reg_heap.specs.Edits.{folded_path, values_at}
use Rattle.reg_model.specs.declared.call.Change.{Change}
use Rattle.reg_model.specs.declared.call.Change.TheVariants.{OpenRoot, CreateKey, SetValue, DeleteValue, DeleteTree, Close}
use Rattle.reg_model.specs.declared.reply.ChangeReply.{ChangeReply}
use Rattle.reg_calls.specs.Views.{View, next_of, IsAccepted}
use Rattle.reg_dotreg_reader.specs.declared.entry.Entry.{Entry}
use Rattle.reg_dotreg_reader.specs.declared.entry.Entry.TheVariants.{Key, GoneKey, Value, GoneValue}
use Rattle.reg_dotreg_import.specs.Imports.{Stand, begun, after_entry}
use Rattle.reg_dotreg_import.specs.declared.entries.TheConstants.{ALL_RIGHTS}

-- changes of session 0 at a moment lead from one hive to another: each is accepted, one after another
abbrev pub Accepts : ℕ → View → List Change → View → Type 0
Accepts moment old [] new = new ≡ old
Accepts moment old (change ∷ changes) new =
    (next : View) × (reply : ChangeReply) × IsAccepted old next 0 moment change reply × Accepts moment next changes new

-- where an import stands between two entries: the tree with the path of the key that values go to, the handle to the root, that to the
-- key (before the first key it is the root's), and the number of the journal's next entry, which is that of the handle it opens
pub record Hands : Type 0 where
  pub stand : Stand
  pub root : ℕ
  pub key : ℕ
  pub next : ℕ

-- no key is at the end of a path, which isn't the root's
abbrev pub is_absent : Tree → List ℕ → Bool
is_absent tree path = not (length path == 0) && is_path path && not (is_some (get tree (folded_path path)))

-- the key's handle closed, unless it is the root's
abbrev pub leaving : Hands → List Change
leaving h = if h.key == h.root then [] else Close h.key ∷ []

-- the calls of an entry: a key is made by the root's handle, once the last key's is closed; what isn't there isn't asked to go
abbrev pub calls_of_entry : Hands → Entry → List Change
calls_of_entry h (Key path) = leaving h ++ CreateKey h.root path ALL_RIGHTS None ∷ []
calls_of_entry h (GoneKey path) = if is_absent h.stand.tree path then [] else DeleteTree h.root path ∷ []
calls_of_entry h (Value name kind bytes) = SetValue h.key name kind bytes ∷ []
calls_of_entry h (GoneValue name) =
    if is_some (value_named name (values_at h.stand.tree h.stand.here)) then DeleteValue h.key name ∷ [] else []

-- the handle of the key that values go to behind an entry
abbrev pub key_after : Hands → Entry → ℕ
key_after h (Key path) = h.next + length (leaving h)
key_after h (GoneKey path) = h.key
key_after h (Value name kind bytes) = h.key
key_after h (GoneValue name) = h.key

abbrev pub hands_after : ℕ → Hands → Entry → Hands
hands_after moment h e = record {
  stand = after_entry moment h.stand e;
  root = h.root;
  key = key_after h e;
  next = h.next + length (calls_of_entry h e);
}

abbrev pub hands_behind : ℕ → Hands → List Entry → Hands
hands_behind moment h [] = h
hands_behind moment h (e ∷ es) = hands_behind moment (hands_after moment h e) es

-- the calls of entries, one entry after another
abbrev pub calls_of : ℕ → Hands → List Entry → List Change
calls_of moment h [] = []
calls_of moment h (e ∷ es) = calls_of_entry h e ++ calls_of moment (hands_after moment h e) es

-- once the root was opened in a hive
abbrev pub opened : View → Hands
opened old = record { stand = begun old.keys.tree; root = next_of old; key = next_of old; next = next_of old + 1 }

-- the calls of a whole import: the root opened, those of the entries, and both handles closed
abbrev pub import_calls : ℕ → View → List Entry → List Change
import_calls moment old entries =
    let last = hands_behind moment (opened old) entries in
    OpenRoot ALL_RIGHTS ∷ (calls_of moment (opened old) entries ++ (leaving last ++ Close last.root ∷ []))
