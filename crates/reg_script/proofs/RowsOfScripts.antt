-- Short scripts, from their bytes to the text of their replies, by the definitions alone.
use Rattle.std.specs.Prelude.{◌≡◌, ℕ, zero, suc, ◌+◌, ◌==◌, ◌||◌, ◌&&◌, Bool, true, false, if◌then◌else◌, List, [], ◌∷◌, ◌++◌, length, get_or, codes}
use Rattle.std.specs.Prelude.{Option, Some, None, refl}
use Rattle.std.proofs.Common.{inl, arith}
use Rattle.std.proofs.lemmas.Bool.Decides.{nat_tests}
use Rattle.std.specs.Fmt.{digits}
use Rattle.std.specs.FinMap.{insert, empty}
use Rattle.hex.proofs.OnLiterals.{hex_on_literals}
use Rattle.reg_model.specs.Calls.{changes_keys}
use Rattle.reg_model.specs.Worlds.{after}
use Rattle.reg_model.specs.Callbacks.{Callbacks, no_callbacks}
use Rattle.reg_model.specs.Causes.{early_cause, late_cause, change_cause, early_query_cause, late_query_cause}
use Rattle.reg_model.specs.Replies.{refusal, reply_to, body_of}
use Rattle.reg_model.specs.declared.answer.AnswerBody.TheVariants.{Refused, Short, Security}
use Rattle.reg_model.specs.declared.call.Change.{Change}
use Rattle.reg_model.specs.declared.call.Change.TheVariants.{OpenRoot, SetValue, DeleteTree, SetSecurity, Notify}
use Rattle.reg_model.specs.Watches.{events, removes, closing, watch_of, ending, reason}
use Rattle.reg_model.specs.declared.notice.Reason.TheVariants.{Matched}
use Rattle.reg_model.specs.declared.reply.Entry.{Entry}
use Rattle.reg_model.proofs.RowsReplies.{root_put}
use Rattle.reg_tree.specs.TreeKeys.{Keys, made_root}
use Rattle.reg_model.specs.declared.step.Outcome.TheVariants.{Changed, Answered}
use Rattle.reg_calls.specs.Views.{View, IsHive, next_of, state, entry_of}
use Rattle.reg_script.specs.Lines.{Stand, begins, Lines, fresh_descriptor}
use Rattle.reg_script.proofs.RowsOfLines.{on_lines}

true-false : true ≡ false → ⊥
true-false e = cc

-- a hive with no entries and no notices, and with the first entry
abbrev begun : View → View
begun hive = record hive { base = 0; before = []; journal = [] }

abbrev opened : View → View
opened hive = record (begun hive) { journal = entry_of (begun hive) 0 0 (OpenRoot 1) ∷ [] }

abbrev there : View → Stand
there hive = record { hive = opened hive; callbacks = no_callbacks; moment = 0; session = 0 }

-- a handle with the right to query alone: it may not set; a mask with another bit; a handle that isn't there. That the hive after the
-- first entry is one isn't computed here, but taken
refused_script : (hive : View) → IsHive (opened hive) →
    Lines no_callbacks (begun hive) (codes "root 1\nset 0 = 4 x01\nroot 1048576\n#\nquery 9 = -\nfrob")
    (codes "0 handle 0\n5\n87\n6\nbad\n") (opened hive)
unfolding on_lines digits after early_cause late_cause early_query_cause late_query_cause reply_to
refused_script hive is =
    let here = there hive in (
      here,
      (
        here,
        codes "0 handle 0\n",
        codes "5\n87\n6\nbad\n",
        (
          Changed (record { status = 0; number = Some 0; handle = Some 0; disposition = None }),
          inl (record { says = refl; journal = refl; origin = refl; base = refl; before = refl; taken = refl; kept_keys = λ e. refl; kept = omega arith; grows = omega arith; hive = is }),
          refl,
          refl,
        ),
        (
          here,
          codes "5\n",
          codes "87\n6\nbad\n",
          (Changed (refusal 5), (refl, refl), refl, refl),
          (
            here,
            codes "87\n",
            codes "6\nbad\n",
            (Changed (refusal 87), (refl, refl), refl, refl),
            (
              here,
              [],
              codes "6\nbad\n",
              (refl, refl),
              (
                here,
                codes "6\n",
                codes "bad\n",
                (Answered (record { at = 1; body = Refused 6 }), (refl, inl refl, refl), refl, refl),
                (here, codes "bad\n", [], (refl, refl), (refl, refl), refl),
                refl,
              ),
              refl,
            ),
            refl,
          ),
          refl,
        ),
        refl,
      ),
      refl,
    )

-- callbacks that refuse each call, and a script on a hive with these
abbrev refusing : Callbacks
refusing session moment path call = 1223

abbrev refused_at : View → Stand
refused_at hive = begins refusing (begun hive)

-- a mask with another bit and a handle that isn't there are refused before they are asked; else the status is theirs
refused_by_callbacks : (hive : View) → Lines refusing (begun hive) (codes "root 1048576\nroot 1\nquery 9 = -\n") (codes "87\n1223\n6\n") (begun hive)
unfolding on_lines digits early_cause late_cause early_query_cause late_query_cause
refused_by_callbacks hive =
    let here = refused_at hive in (
      here,
      (
        here,
        codes "87\n",
        codes "1223\n6\n",
        (Changed (refusal 87), (refl, refl), refl, refl),
        (
          here,
          codes "1223\n",
          codes "6\n",
          (Changed (refusal 1223), (refl, refl), refl, refl),
          (here, codes "6\n", [], (Answered (record { at = 0; body = Refused 6 }), (refl, inl refl, refl), refl, refl), (refl, refl), refl),
          refl,
        ),
        refl,
      ),
      refl,
    )

-- a bad descriptor is refused whatever else is bad
or_true : (other : Bool) → (other || true) ≡ true
or_true true = refl
or_true false = refl

-- a handle with the mask 1 may not set a descriptor nor read one; an empty descriptor is refused before its rights are asked,
-- for a key to be made too; a room of `-` and an empty word where a descriptor may stand are bad
refused_securities : (hive : View) → IsHive (opened hive) →
    Lines no_callbacks (begun hive) (codes "root 1\nsetsec 0 x0102\nsetsec 0 x\ngetsec 0 1\ncreate 0 =K 1 x\ngetsec 0 -\ncreate 0 =K 1 ")
    (codes "0 handle 0\n5\n87\n5\n87\nbad\nbad\n") (opened hive)
unfolding on_lines digits after early_cause late_cause early_query_cause late_query_cause reply_to
refused_securities hive is =
    let here = there hive in (
      here,
      (
        here,
        codes "0 handle 0\n",
        codes "5\n87\n5\n87\nbad\nbad\n",
        (
          Changed (record { status = 0; number = Some 0; handle = Some 0; disposition = None }),
          inl (record { says = refl; journal = refl; origin = refl; base = refl; before = refl; taken = refl; kept_keys = λ e. refl; kept = omega arith; grows = omega arith; hive = is }),
          refl,
          refl,
        ),
        (
          here,
          codes "5\n",
          codes "87\n5\n87\nbad\nbad\n",
          (Changed (refusal 5), (refl, refl), refl, refl),
          (
            here,
            codes "87\n",
            codes "5\n87\nbad\nbad\n",
            (Changed (refusal 87), (refl, refl), refl, refl),
            (
              here,
              codes "5\n",
              codes "87\nbad\nbad\n",
              (Answered (record { at = 1; body = Refused 5 }), (refl, inl refl, refl), refl, refl),
              (
                here,
                codes "87\n",
                codes "bad\nbad\n",
                (Changed (refusal 87), rw or_true (refl, refl), refl, refl),
                (here, codes "bad\n", codes "bad\n", (refl, refl), (here, codes "bad\n", [], (refl, refl), (refl, refl), refl), refl),
                refl,
              ),
              refl,
            ),
            refl,
          ),
          refl,
        ),
        refl,
      ),
      refl,
    )

-- a fresh hive's root, and the hive with no entries, with a handle that may read and set descriptors, and with a descriptor that was set
abbrev fresh : View → View
fresh hive = record hive { origin = insert empty [] (made_root (codes "ROOT") fresh_descriptor 0); base = 0; before = []; journal = [] }

abbrev allowed : View → View
allowed hive = record (fresh hive) { journal = entry_of (fresh hive) 0 0 (OpenRoot 393216) ∷ [] }

abbrev described : View → Keys → View
described hive keys =
    record (allowed hive) { journal = (allowed hive).journal ++ entry_of (allowed hive) 0 0 (SetSecurity 0 (1 ∷ 2 ∷ [])) ∷ []; keys = keys }

abbrev at_allowed : View → Stand
at_allowed hive = record { hive = allowed hive; callbacks = no_callbacks; moment = 0; session = 0 }

abbrev at_described : View → Keys → Stand
at_described hive keys = record { hive = described hive keys; callbacks = no_callbacks; moment = 0; session = 0 }

-- the descriptor that was set is told, where there is room for it
set_and_told : (hive : View) (keys : Keys) → IsHive (allowed hive) → IsHive (described hive keys) →
    length keys.bins.bytes ≡ length hive.keys.bins.bytes →
    Lines no_callbacks (fresh hive) (codes "root 393216\ngetsec 0 19\nsetsec 0 x0102\ngetsec 0 1\ngetsec 0 2\n")
    (codes "0 handle 0\n122 size 20\n0\n122 size 2\n0 x0102\n") (described hive keys)
unfolding on_lines digits hex_on_literals after early_cause late_cause early_query_cause late_query_cause reply_to body_of changes_keys
set_and_told hive keys is_allowed is_described same =
    let here = at_allowed hive in
    let there = at_described hive keys in (
      there,
      (
        here,
        codes "0 handle 0\n",
        codes "122 size 20\n0\n122 size 2\n0 x0102\n",
        (
          Changed (record { status = 0; number = Some 0; handle = Some 0; disposition = None }),
          inl (record { says = refl; journal = refl; origin = refl; base = refl; before = refl; taken = refl; kept_keys = λ e. refl; kept = omega arith; grows = omega arith; hive = is_allowed }),
          refl,
          refl,
        ),
        (
          here,
          codes "122 size 20\n",
          codes "0\n122 size 2\n0 x0102\n",
          (Answered (record { at = 1; body = Short 122 0 20 }), (refl, inl (rw root_put refl), refl), refl, refl),
          (
            there,
            codes "0\n",
            codes "122 size 2\n0 x0102\n",
            (
              Changed (record { status = 0; number = Some 1; handle = None; disposition = None }),
              inl (record {
                says = refl;
                journal = refl;
                origin = refl;
                base = refl;
                before = refl;
                taken = refl;
                kept_keys = λ e. absurd (true-false e);
                kept = omega (arith, same);
                grows = omega
                    (arith, same);
                hive = is_described;
              }),
              refl,
              refl,
            ),
            (
              there,
              codes "122 size 2\n",
              codes "0 x0102\n",
              (Answered (record { at = 2; body = Short 122 0 2 }), (refl, inl (rw (root_put, root_put) refl), refl), refl, refl),
              (
                there,
                codes "0 x0102\n",
                [],
                (Answered (record { at = 2; body = Security (1 ∷ 2 ∷ []) }), (refl, inl (rw (root_put, root_put) refl), refl), refl, refl),
                (refl, refl),
                refl,
              ),
              refl,
            ),
            refl,
          ),
          refl,
        ),
        refl,
      ),
      refl,
    )

-- a tree of a handle that isn't there, with a path and without one; and a word too few, another word than a path, and one too many
refused_trees : (hive : View) → IsHive (opened hive) →
    Lines no_callbacks (begun hive) (codes "root 1\ndeltree 9 =A\ndeltree 9 =\ndeltree 0\ndeltree 0 K\ndeltree 0 =K 1")
    (codes "0 handle 0\n6\n6\nbad\nbad\nbad\n") (opened hive)
unfolding on_lines digits after early_cause late_cause reply_to
refused_trees hive is =
    let here = there hive in (
      here,
      (
        here,
        codes "0 handle 0\n",
        codes "6\n6\nbad\nbad\nbad\n",
        (
          Changed (record { status = 0; number = Some 0; handle = Some 0; disposition = None }),
          inl (record { says = refl; journal = refl; origin = refl; base = refl; before = refl; taken = refl; kept_keys = λ e. refl; kept = omega arith; grows = omega arith; hive = is }),
          refl,
          refl,
        ),
        (
          here,
          codes "6\n",
          codes "6\nbad\nbad\nbad\n",
          (Changed (refusal 6), (refl, refl), refl, refl),
          (
            here,
            codes "6\n",
            codes "bad\nbad\nbad\n",
            (Changed (refusal 6), (refl, refl), refl, refl),
            (
              here,
              codes "bad\n",
              codes "bad\nbad\n",
              (refl, refl),
              (here, codes "bad\n", codes "bad\n", (refl, refl), (here, codes "bad\n", [], (refl, refl), (refl, refl), refl), refl),
              refl,
            ),
            refl,
          ),
          refl,
        ),
        refl,
      ),
      refl,
    )

-- a key deleted with all below it, and then what the handle's own key holds
abbrev tree : Change
tree = DeleteTree 0 (codes "A")

abbrev contents : Change
contents = DeleteTree 0 []

-- a hive with one entry more, of session 0 and moment 0, and with these keys
abbrev grown : View → Change → Keys → View
grown hive change keys = record hive { journal = hive.journal ++ entry_of hive 0 0 change ∷ []; keys = keys }

abbrev past_tree : View → Keys → View
past_tree hive left = grown hive tree left

abbrev past_both : View → Keys → Keys → View
past_both hive left root = grown (past_tree hive left) contents root

-- no setting yet
abbrev unset : View → Stand
unset hive = record { hive = hive; callbacks = no_callbacks; moment = 0; session = 0 }

-- both are told by `0` alone. That nothing refuses them isn't computed here, but taken
trees_deleted : (hive : View) (left root : Keys) →
    change_cause (state hive) 0 tree 0 ≡ None → change_cause (state (past_tree hive left)) 0 contents 0 ≡ None →
    IsHive (past_tree hive left) → IsHive (past_both hive left root) →
    length left.bins.bytes ≡ length hive.keys.bins.bytes → length root.bins.bytes ≡ length left.bins.bytes →
    Lines no_callbacks hive (codes "deltree 0 =A\ndeltree 0 =") (codes "0\n0\n") (past_both hive left root)
unfolding on_lines digits reply_to changes_keys
trees_deleted hive left root free-tree free-contents is_left is_root same-left same-root =
    let there = unset (past_tree hive left) in
    let last = unset (past_both hive left root) in (
      last,
      (
        there,
        codes "0\n",
        codes "0\n",
        (
          Changed (record { status = 0; number = Some (next_of hive); handle = None; disposition = None }),
          rw free-tree
              (inl (record {
                says = refl;
                journal = refl;
                origin = refl;
                base = refl;
                before = refl;
                taken = refl;
                kept_keys = λ e. absurd (true-false e);
                kept = omega (arith, same-left);
                grows = omega
                    (arith, same-left);
                hive = is_left;
              })),
          refl,
          refl,
        ),
        (
          last,
          codes "0\n",
          [],
          (
            Changed (record { status = 0; number = Some (next_of (past_tree hive left)); handle = None; disposition = None }),
            rw free-contents
                (inl (record {
                  says = refl;
                  journal = refl;
                  origin = refl;
                  base = refl;
                  before = refl;
                  taken = refl;
                  kept_keys = λ e. absurd (true-false e);
                  kept = omega (arith, same-root);
                  grows = omega
                      (arith, same-root);
                  hive = is_root;
                })),
            refl,
            refl,
          ),
          (refl, refl),
          refl,
        ),
        refl,
      ),
      refl,
    )

-- a root opened with the rights to set values and to be told of changes, a watch of its values, and a value that was set
abbrev changed : Change → ℕ → Option ℕ → Entry
changed change number handle = record {
  number = number;
  session = 0;
  moment = 0;
  change = change;
  reply = record { status = 0; number = Some number; handle = handle; disposition = None };
}

abbrev watched : List Entry
watched = changed (OpenRoot 18) 0 (Some 0) ∷ changed (Notify 0 4 false) 1 None ∷ changed (SetValue 0 [] 4 (1 ∷ [])) 2 None ∷ []

-- a hive with these entries, of which session 0 took so many notices
abbrev told_of : View → ℕ → View
told_of hive taken = record hive { base = 0; before = []; journal = watched; watches = record hive.watches { taken = taken ∷ [] } }

abbrev set_to : View → ℕ → ℕ → Stand
set_to hive taken session = record { hive = told_of hive taken; callbacks = no_callbacks; moment = 0; session = session }

none_next : (x : ℕ) → (suc x == 0) ≡ false
none_next x = grind (arith, nat_tests)

one_more : (x : ℕ) → get_or (1 ∷ []) x 0 ≡ (if x == 0 && true then get_or (0 ∷ []) x 0 + 1 else get_or (0 ∷ []) x 0)
one_more zero = refl
one_more (suc x) = rw (none_next x) refl

no_more : (x session n : ℕ) → n ≡ (if x == session && false then n + 1 else n)
no_more x session n = by (x == session)
  where
    by : (same : Bool) → n ≡ (if same && false then n + 1 else n)
    by true = refl
    by false = refl

-- the watch's notice is handed to the session that asked for it and to no other, and once
notice_taken : (hive : View) → IsHive (told_of hive 0) → IsHive (told_of hive 1) →
    Lines no_callbacks (told_of hive 0) (codes "as 1\nnotice\nas 0\nnotice\nnotice\nnotice 0\n")
    (codes "notice none\nnotice 1 2 matched\nnotice none\nbad\n") (told_of hive 1)
unfolding on_lines digits after events removes closing watch_of ending reason
notice_taken hive is_first is =
    let first = set_to hive 0 1 in
    let second = set_to hive 0 0 in
    let last = set_to hive 1 0 in (
      last,
      (
        first,
        [],
        codes "notice none\nnotice 1 2 matched\nnotice none\nbad\n",
        (refl, refl),
        (
          first,
          codes "notice none\n",
          codes "notice 1 2 matched\nnotice none\nbad\n",
          (
            None,
            record {
              next = refl;
              taken = λ x. no_more x 1 (get_or (0 ∷ []) x 0);
              origin = refl;
              base = refl;
              before = refl;
              journal = refl;
              keys = refl;
              handles = refl;
              pending = refl;
              told = refl;
              hive = is_first;
            },
            refl,
            refl,
          ),
          (
            second,
            [],
            codes "notice 1 2 matched\nnotice none\nbad\n",
            (refl, refl),
            (
              last,
              codes "notice 1 2 matched\n",
              codes "notice none\nbad\n",
              (
                Some (record { watch = 1; by = 2; reason = Matched }),
                record {
                  next = refl;
                  taken = one_more;
                  origin = refl;
                  base = refl;
                  before = refl;
                  journal = refl;
                  keys = refl;
                  handles = refl;
                  pending = refl;
                  told = refl;
                  hive = is;
                },
                refl,
                refl,
              ),
              (
                last,
                codes "notice none\n",
                codes "bad\n",
                (
                  None,
                  record {
                    next = refl;
                    taken = λ x. no_more x 0 (get_or (1 ∷ []) x 0);
                    origin = refl;
                    base = refl;
                    before = refl;
                    journal = refl;
                    keys = refl;
                    handles = refl;
                    pending = refl;
                    told = refl;
                    hive = is;
                  },
                  refl,
                  refl,
                ),
                (last, codes "bad\n", [], (refl, refl), (refl, refl), refl),
                refl,
              ),
              refl,
            ),
            refl,
          ),
          refl,
        ),
        refl,
      ),
      refl,
    )

-- a hive whose journal begins with the number 7, and which told session 0 a notice before that; session 0 took so many
abbrev continued : View → ℕ → View
continued hive taken = record hive {
  base = 7;
  before = (record { watch = 3; by = 5; reason = Matched } ∷ []) ∷ [];
  journal = [];
  watches = record hive.watches { taken = taken ∷ [] };
}

abbrev opened_again : View → View
opened_again hive = record (continued hive 1) { journal = entry_of (continued hive 1) 0 0 (OpenRoot 1) ∷ [] }

-- the notice from before is handed out, and once; the next entry and its handle have the number 7
numbered_on : (hive : View) → IsHive (continued hive 1) → IsHive (opened_again hive) →
    Lines no_callbacks (continued hive 0) (codes "notice\nnotice\nroot 1\n") (codes "notice 3 5 matched\nnotice none\n0 handle 7\n") (opened_again hive)
unfolding on_lines digits after early_cause late_cause reply_to
numbered_on hive is_taken is_opened =
    let there = unset (continued hive 1) in
    let last = unset (opened_again hive) in (
      last,
      (
        there,
        codes "notice 3 5 matched\n",
        codes "notice none\n0 handle 7\n",
        (
          Some (record { watch = 3; by = 5; reason = Matched }),
          record {
            next = refl;
            taken = one_more;
            origin = refl;
            base = refl;
            before = refl;
            journal = refl;
            keys = refl;
            handles = refl;
            pending = refl;
            told = refl;
            hive = is_taken;
          },
          refl,
          refl,
        ),
        (
          there,
          codes "notice none\n",
          codes "0 handle 7\n",
          (
            None,
            record {
              next = refl;
              taken = λ x. no_more x 0 (get_or (1 ∷ []) x 0);
              origin = refl;
              base = refl;
              before = refl;
              journal = refl;
              keys = refl;
              handles = refl;
              pending = refl;
              told = refl;
              hive = is_taken;
            },
            refl,
            refl,
          ),
          (
            last,
            codes "0 handle 7\n",
            [],
            (
              Changed (record { status = 0; number = Some 7; handle = Some 7; disposition = None }),
              inl (record {
                says = refl;
                journal = refl;
                origin = refl;
                base = refl;
                before = refl;
                taken = refl;
                kept_keys = λ e. refl;
                kept = omega arith;
                grows = omega arith;
                hive = is_opened;
              }),
              refl,
              refl,
            ),
            (refl, refl),
            refl,
          ),
          refl,
        ),
        refl,
      ),
      refl,
    )
