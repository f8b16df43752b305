-- The entries of .reg texts, computed of texts that were written out by hand.
use Rattle.std.proofs.Common.{◌≡◌, [], ◌∷◌, ◌++◌, Ok, Err, refl}
use Rattle.std.specs.Prelude.{codes}
use Rattle.reg_dotreg_reader.specs.declared.entry.Entry.TheVariants.{Key, GoneKey, Value, GoneValue}
use Rattle.reg_dotreg_reader.specs.EntryMeanings.{title, entries_in}
use Rattle.reg_dotreg_reader.proofs.EntriesOnLiterals.{on_texts}

-- the first line: without LF, with CR LF, with blanks at its end
title-alone : entries_in (codes "ROOT") title ≡
    Ok []
unfolding on_texts
title-alone = refl

title-return : entries_in (codes "ROOT") (title ++ (13 ∷ codes "\n")) ≡
    Ok []
unfolding on_texts
title-return = refl

title-blanks : entries_in (codes "ROOT") (title ++ (codes " " ++ (9 ∷ 13 ∷ codes "\n"))) ≡
    Ok []
unfolding on_texts
title-blanks = refl

-- no line, another one, blanks before it, or a line before it
title-none : entries_in (codes "ROOT") [] ≡
    Err 1
unfolding on_texts
title-none = refl

title-other : entries_in (codes "ROOT") (codes "REGEDIT5\n") ≡
    Err 1
unfolding on_texts
title-other = refl

title-longer : entries_in (codes "ROOT") (title ++ (codes "0\n")) ≡
    Err 1
unfolding on_texts
title-longer = refl

title-blank_first : entries_in (codes "ROOT") (codes " Windows Registry Editor Version 5.00\n") ≡
    Err 1
unfolding on_texts
title-blank_first = refl

title-second : entries_in (codes "ROOT") (codes "\nWindows Registry Editor Version 5.00\n") ≡
    Err 1
unfolding on_texts
title-second = refl

-- the first line of a narrow text: blanks at its end, a letter more, other letters
title-narrow : entries_in (codes "ROOT") (codes "REGEDIT4 " ++ (9 ∷ 13 ∷ codes "\n\n[ROOT]\n\"a\"=hex(2):41,00\n@=hex:41\n")) ≡
    Ok (record { line = 3; entry = Key [] } ∷ record { line = 4; entry = Value (codes "a") 2 (65 ∷ 0 ∷ 0 ∷ 0 ∷ []) }
    ∷ record { line = 5; entry = Value [] 3 (65 ∷ []) } ∷ [])
unfolding on_texts
title-narrow = refl

title-narrow_longer : entries_in (codes "ROOT") (codes "REGEDIT45\n") ≡
    Err 1
unfolding on_texts
title-narrow_longer = refl

title-narrow_case : entries_in (codes "ROOT") (codes "Regedit4\n") ≡
    Err 1
unfolding on_texts
title-narrow_case = refl

-- in a narrow text, and in another
narrow-high : entries_in (codes "ROOT") (codes "REGEDIT4\n[ROOT]\n@=hex(1):41\n@=hex(1):ff\n") ≡
    Err 4
unfolding on_texts
narrow-high = refl

wide-bytes : entries_in (codes "ROOT") (title ++ (codes "\n[ROOT]\n@=hex(1):ff,00\n")) ≡
    Ok (record { line = 2; entry = Key [] } ∷ record { line = 3; entry = Value [] 1 (255 ∷ 0 ∷ []) } ∷ [])
unfolding on_texts
wide-bytes = refl

-- lines are counted from 1, those that say nothing too
text-numbers : entries_in (codes "ROOT") (title ++ (codes "\n" ++ (13 ∷ codes "\n; x" ++ (13 ∷ codes "\n[ROOT]\n\n@=-" ++ (13 ∷ codes "\n"))))) ≡
    Ok (record { line = 4; entry = Key [] } ∷ record { line = 6; entry = GoneValue [] } ∷ [])
unfolding on_texts
text-numbers = refl

-- the last line may end with the text
text-last_line : entries_in (codes "ROOT") (title ++ (codes "\n[ROOT]\n@=-")) ≡
    Ok (record { line = 2; entry = Key [] } ∷ record { line = 3; entry = GoneValue [] } ∷ [])
unfolding on_texts
text-last_line = refl

-- values without a key
text-no_key : entries_in (codes "ROOT") (title ++ (codes "\n@=-\n")) ≡
    Err 2
unfolding on_texts
text-no_key = refl

-- values below a key that goes
text-gone_key : entries_in (codes "ROOT") (title ++ (codes "\n[ROOT]\n[-ROOT\\A]\n@=-\n")) ≡
    Err 4
unfolding on_texts
text-gone_key = refl

text-made_behind : entries_in (codes "ROOT") (title ++ (codes "\n[-ROOT\\A]\n[ROOT]\n@=-\n")) ≡
    Ok (record { line = 2; entry = GoneKey (codes "A") } ∷ record { line = 3; entry = Key [] } ∷ record { line = 4; entry = GoneValue [] } ∷ [])
unfolding on_texts
text-made_behind = refl

-- the first line that isn't understood is told
text-first_fault : entries_in (codes "ROOT") (title ++ (codes "\n[ROOT]\nx\n[OTHER]\n")) ≡
    Err 3
unfolding on_texts
text-first_fault = refl

text-value_after_fault : entries_in (codes "ROOT") (title ++ (codes "\n@=-\nx\n")) ≡
    Err 2
unfolding on_texts
text-value_after_fault = refl

-- a value that goes on, blanks behind the backslash, and the number of what follows
goes_on-bytes : entries_in (codes "ROOT") (title ++ (codes "\n[ROOT]\n@=hex:01,\\ " ++ (13 ∷ codes "\n  02,\\\n03\n\"a\"=-\n"))) ≡
    Ok (record { line = 2; entry = Key [] } ∷ record { line = 3; entry = Value [] 3 (1 ∷ 2 ∷ 3 ∷ []) } ∷ record { line = 6; entry = GoneValue (codes "a") } ∷ [])
unfolding on_texts
goes_on-bytes = refl

-- its first line is told
goes_on-fault : entries_in (codes "ROOT") (title ++ (codes "\n[ROOT]\n@=hex:01,\\\n  x\n")) ≡
    Err 3
unfolding on_texts
goes_on-fault = refl

-- anywhere behind the name
goes_on-number : entries_in (codes "ROOT") (title ++ (codes "\n[ROOT]\n@=\\\n  dword:\\\n")) ≡
    Err 3
unfolding on_texts
goes_on-number = refl

goes_on-equals : entries_in (codes "ROOT") (title ++ (codes "\n[ROOT]\n@\\\n = \\\n-\n")) ≡
    Ok (record { line = 2; entry = Key [] } ∷ record { line = 3; entry = GoneValue [] } ∷ [])
unfolding on_texts
goes_on-equals = refl

-- not in quotes
goes_on-quotes : entries_in (codes "ROOT") (title ++ (codes "\n[ROOT]\n@=\"a\\\nb\"\n")) ≡
    Err 3
unfolding on_texts
goes_on-quotes = refl

-- a backslash in quotes at the end of a line is none that goes on
goes_on-escaped : entries_in (codes "ROOT") (title ++ (codes "\n[ROOT]\n@=\"a\\\\\"\n@=-\n")) ≡
    Ok (record { line = 2; entry = Key [] } ∷ record { line = 3; entry = Value [] 1 (97 ∷ 0 ∷ 92 ∷ 0 ∷ 0 ∷ 0 ∷ []) } ∷ record { line = 4; entry = GoneValue [] } ∷ [])
unfolding on_texts
goes_on-escaped = refl

-- no line follows
goes_on-end : entries_in (codes "ROOT") (title ++ (codes "\n[ROOT]\n@=hex:01,\\\n")) ≡
    Err 3
unfolding on_texts
goes_on-end = refl

-- an empty line follows, with which it ends
goes_on-empty : entries_in (codes "ROOT") (title ++ (codes "\n[ROOT]\n@=hex:01,\\\n\n@=-\n")) ≡
    Ok (record { line = 2; entry = Key [] } ∷ record { line = 3; entry = Value [] 3 (1 ∷ []) } ∷ record { line = 5; entry = GoneValue [] } ∷ [])
unfolding on_texts
goes_on-empty = refl

-- what follows is the value's, whatever it looks like
goes_on-key : entries_in (codes "ROOT") (title ++ (codes "\n[ROOT]\n@=hex:01,\\\n[ROOT]\n")) ≡
    Err 3
unfolding on_texts
goes_on-key = refl

-- lines of keys and comments don't go on
goes_on-comment : entries_in (codes "ROOT") (title ++ (codes "\n; x \\\n[ROOT]\n")) ≡
    Ok (record { line = 3; entry = Key [] } ∷ [])
unfolding on_texts
goes_on-comment = refl

goes_on-key_line : entries_in (codes "ROOT") (title ++ (codes "\n[ROOT]\\\n\n")) ≡
    Err 2
unfolding on_texts
goes_on-key_line = refl

-- a CR that isn't at the end of a line
return-within : entries_in (codes "ROOT") (title ++ (codes "\n[ROOT" ++ (13 ∷ codes "]\n"))) ≡
    Err 2
unfolding on_texts
return-within = refl

return-two : entries_in (codes "ROOT") (title ++ (codes "\n[ROOT]" ++ (13 ∷ 13 ∷ codes "\n"))) ≡
    Err 2
unfolding on_texts
return-two = refl

-- the root's name and a key's in their long forms, whichever they are given in
root-short : entries_in (codes "hklm") (title ++ (codes "\n[HKEY_LOCAL_MACHINE\\A]\n[HKLM]\n")) ≡
    Ok (record { line = 2; entry = Key (codes "A") } ∷ record { line = 3; entry = Key [] } ∷ [])
unfolding on_texts
root-short = refl

root-long : entries_in (codes "HKEY_LOCAL_MACHINE") (title ++ (codes "\n[HKLM\\A]\n")) ≡
    Ok (record { line = 2; entry = Key (codes "A") } ∷ [])
unfolding on_texts
root-long = refl

root-below : entries_in (codes "HKLM\\SOFTWARE") (title ++ (codes "\n[HKEY_LOCAL_MACHINE\\software\\A]\n[-hklm\\Software]\n")) ≡
    Ok (record { line = 2; entry = Key (codes "A") } ∷ record { line = 3; entry = GoneKey [] } ∷ [])
unfolding on_texts
root-below = refl

root-above : entries_in (codes "HKLM\\SOFTWARE") (title ++ (codes "\n[HKLM\\A]\n")) ≡
    Err 2
unfolding on_texts
root-above = refl

root-other : entries_in (codes "HKLM") (title ++ (codes "\n[HKCU\\A]\n")) ≡
    Err 2
unfolding on_texts
root-other = refl

-- comments behind values: behind bytes, numbers, texts and `-`, with blanks or without
comment-bytes : entries_in (codes "ROOT") (title ++ (codes "\n[ROOT]\n@=hex:01,02 ; x\n")) ≡
    Ok (record { line = 2; entry = Key [] } ∷ record { line = 3; entry = Value [] 3 (1 ∷ 2 ∷ []) } ∷ [])
unfolding on_texts
comment-bytes = refl

comment-number : entries_in (codes "ROOT") (title ++ (codes "\n[ROOT]\n@=dword:1;2" ++ (13 ∷ codes "\n"))) ≡
    Ok (record { line = 2; entry = Key [] } ∷ record { line = 3; entry = Value [] 4 (1 ∷ 0 ∷ 0 ∷ 0 ∷ []) } ∷ [])
unfolding on_texts
comment-number = refl

comment-text : entries_in (codes "ROOT") (title ++ (codes "\n[ROOT]\n@=\"a\" ; \"b\"\n")) ≡
    Ok (record { line = 2; entry = Key [] } ∷ record { line = 3; entry = Value [] 1 (97 ∷ 0 ∷ 0 ∷ 0 ∷ []) } ∷ [])
unfolding on_texts
comment-text = refl

comment-goes : entries_in (codes "ROOT") (title ++ (codes "\n[ROOT]\n@=- ; x \\\n@=-\n")) ≡
    Ok (record { line = 2; entry = Key [] } ∷ record { line = 3; entry = GoneValue [] } ∷ record { line = 4; entry = GoneValue [] } ∷ [])
unfolding on_texts
comment-goes = refl

-- a `;` in quotes stands for itself, also behind a quote behind a backslash, and behind a backslash behind one
comment-in_text : entries_in (codes "ROOT") (title ++ (codes "\n[ROOT]\n@=\"a;b\"\n")) ≡
    Ok (record { line = 2; entry = Key [] } ∷ record { line = 3; entry = Value [] 1 (97 ∷ 0 ∷ 59 ∷ 0 ∷ 98 ∷ 0 ∷ 0 ∷ 0 ∷ []) } ∷ [])
unfolding on_texts
comment-in_text = refl

comment-in_name : entries_in (codes "ROOT") (title ++ (codes "\n[ROOT]\n\"a;b\"=-;c\n")) ≡
    Ok (record { line = 2; entry = Key [] } ∷ record { line = 3; entry = GoneValue (codes "a;b") } ∷ [])
unfolding on_texts
comment-in_name = refl

comment-quote_within : entries_in (codes "ROOT") (title ++ (codes "\n[ROOT]\n@=\"\\\";\"\n")) ≡
    Ok (record { line = 2; entry = Key [] } ∷ record { line = 3; entry = Value [] 1 (34 ∷ 0 ∷ 59 ∷ 0 ∷ 0 ∷ 0 ∷ []) } ∷ [])
unfolding on_texts
comment-quote_within = refl

comment-backslash_within : entries_in (codes "ROOT") (title ++ (codes "\n[ROOT]\n@=\"\\\\\";\"\n")) ≡
    Ok (record { line = 2; entry = Key [] } ∷ record { line = 3; entry = Value [] 1 (92 ∷ 0 ∷ 0 ∷ 0 ∷ []) } ∷ [])
unfolding on_texts
comment-backslash_within = refl

-- one that begins before the value ends
comment-early : entries_in (codes "ROOT") (title ++ (codes "\n[ROOT]\n@;=-\n")) ≡
    Err 3
unfolding on_texts
comment-early = refl

comment-no_data : entries_in (codes "ROOT") (title ++ (codes "\n[ROOT]\n@=; x\n")) ≡
    Err 3
unfolding on_texts
comment-no_data = refl

-- behind the backslash at a row's end, behind the last row, and on lines alone between rows
comment-rows : entries_in (codes "ROOT") (title ++ (codes "\n[ROOT]\n\"a\"=hex:01,02,\\ ; first" ++ (13 ∷ codes "\n; between" ++ (13 ∷ codes "\n  ; and \\\n  03 ; last\n@=-\n")))) ≡
    Ok (record { line = 2; entry = Key [] } ∷ record { line = 3; entry = Value (codes "a") 3 (1 ∷ 2 ∷ 3 ∷ []) } ∷ record { line = 7; entry = GoneValue [] } ∷ [])
unfolding on_texts
comment-rows = refl

-- a line of blanks alone ends the value, as it does without comments
comment-blank_line : entries_in (codes "ROOT") (title ++ (codes "\n[ROOT]\n@=hex:01,\\\n; x\n \n@=-\n")) ≡
    Ok (record { line = 2; entry = Key [] } ∷ record { line = 3; entry = Value [] 3 (1 ∷ []) } ∷ record { line = 6; entry = GoneValue [] } ∷ [])
unfolding on_texts
comment-blank_line = refl

-- no row follows the comment
comment-last : entries_in (codes "ROOT") (title ++ (codes "\n[ROOT]\n@=hex:01,\\\n; x\n")) ≡
    Err 3
unfolding on_texts
comment-last = refl

-- a comment between rows, before the backslash
comment-before_backslash : entries_in (codes "ROOT") (title ++ (codes "\n[ROOT]\n@=hex:01, ; x \\\n  02\n")) ≡
    Err 4
unfolding on_texts
comment-before_backslash = refl

-- lines of keys have no comments
comment-key : entries_in (codes "ROOT") (title ++ (codes "\n[ROOT] ; x\n")) ≡
    Err 2
unfolding on_texts
comment-key = refl

comment-key_named : entries_in (codes "ROOT") (title ++ (codes "\n[ROOT\\a;b]\n")) ≡
    Ok (record { line = 2; entry = Key (codes "a;b") } ∷ [])
unfolding on_texts
comment-key_named = refl

-- texts over several lines, whose ends stand for themselves: CR LF, LF, and blanks before them
lines-return : entries_in (codes "ROOT") (title ++ (codes "\n[ROOT]\n@=\"a" ++ (13 ∷ codes "\nb\"" ++ (13 ∷ codes "\n@=-\n")))) ≡
    Ok (record { line = 2; entry = Key [] } ∷ record { line = 3; entry = Value [] 1 (97 ∷ 0 ∷ 13 ∷ 0 ∷ 10 ∷ 0 ∷ 98 ∷ 0 ∷ 0 ∷ 0 ∷ []) } ∷ record { line = 5; entry = GoneValue [] } ∷ [])
unfolding on_texts
lines-return = refl

lines-feed : entries_in (codes "ROOT") (title ++ (codes "\n[ROOT]\n\"n\"=\"a \n\n b\"\n@=-\n")) ≡
    Ok (record { line = 2; entry = Key [] }
    ∷ record { line = 3; entry = Value (codes "n") 1 (97 ∷ 0 ∷ 32 ∷ 0 ∷ 10 ∷ 0 ∷ 10 ∷ 0 ∷ 32 ∷ 0 ∷ 98 ∷ 0 ∷ 0 ∷ 0 ∷ []) }
    ∷ record { line = 6; entry = GoneValue [] } ∷ [])
unfolding on_texts
lines-feed = refl

-- within, nothing but a quote and a backslash says something else
lines-within : entries_in (codes "ROOT") (title ++ (codes "\n[ROOT]\n@=\"\n;c\n[K]\n\\\"\\\\\"\n@=-\n")) ≡
    Ok (record { line = 2; entry = Key [] }
    ∷ record {
      line = 3;
      entry = Value [] 1 (10 ∷ 0 ∷ 59 ∷ 0 ∷ 99 ∷ 0 ∷ 10 ∷ 0 ∷ 91 ∷ 0 ∷ 75 ∷ 0 ∷ 93 ∷ 0 ∷ 10 ∷ 0 ∷ 34 ∷ 0 ∷ 92 ∷ 0 ∷ 0 ∷ 0 ∷ []);
    } ∷ record { line = 7; entry = GoneValue [] } ∷ [])
unfolding on_texts
lines-within = refl

-- blanks and a comment behind the quote that closes it, and nothing else
lines-comment : entries_in (codes "ROOT") (title ++ (codes "\n[ROOT]\n@=\"a\nb\" ; \"\n@=-\n")) ≡
    Ok (record { line = 2; entry = Key [] } ∷ record { line = 3; entry = Value [] 1 (97 ∷ 0 ∷ 10 ∷ 0 ∷ 98 ∷ 0 ∷ 0 ∷ 0 ∷ []) } ∷ record { line = 5; entry = GoneValue [] } ∷ [])
unfolding on_texts
lines-comment = refl

lines-behind : entries_in (codes "ROOT") (title ++ (codes "\n[ROOT]\n@=\"a\nb\"c\n")) ≡
    Err 3
unfolding on_texts
lines-behind = refl

-- behind a row that goes on, and before one
lines-carried : entries_in (codes "ROOT") (title ++ (codes "\n[ROOT]\n@=\\\n\"a\nb\"\\\n ; c\n\n@=-\n")) ≡
    Ok (record { line = 2; entry = Key [] } ∷ record { line = 3; entry = Value [] 1 (97 ∷ 0 ∷ 10 ∷ 0 ∷ 98 ∷ 0 ∷ 0 ∷ 0 ∷ []) } ∷ record { line = 8; entry = GoneValue [] } ∷ [])
unfolding on_texts
lines-carried = refl

-- a backslash before a line's end, in quotes
lines-backslash : entries_in (codes "ROOT") (title ++ (codes "\n[ROOT]\n@=\"a\\\nb\"\n")) ≡
    Err 3
unfolding on_texts
lines-backslash = refl

lines-backslash_return : entries_in (codes "ROOT") (title ++ (codes "\n[ROOT]\n@=\"a\\" ++ (13 ∷ codes "\nb\"\n"))) ≡
    Err 3
unfolding on_texts
lines-backslash_return = refl

-- no quote closes it, whatever follows
lines-open : entries_in (codes "ROOT") (title ++ (codes "\n[ROOT]\n@=\"a\n[ROOT]\nx\n")) ≡
    Err 3
unfolding on_texts
lines-open = refl

lines-open_last : entries_in (codes "ROOT") (title ++ (codes "\n[ROOT]\n@=\"a\nb")) ≡
    Err 3
unfolding on_texts
lines-open_last = refl

-- names stand on one line
lines-name : entries_in (codes "ROOT") (title ++ (codes "\n[ROOT]\n\"a\nb\"=-\n")) ≡
    Err 3
unfolding on_texts
lines-name = refl

lines-key : entries_in (codes "ROOT") (title ++ (codes "\n[ROOT\\a\nb]\n")) ≡
    Err 2
unfolding on_texts
lines-key = refl
