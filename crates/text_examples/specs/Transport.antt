-- The transport key's line, and files that ask for codes (R-9).
use Prim.Native.String.{String}
use Rattle.std.specs.Prelude.{ℕ, Bool, ◌&&◌, not, List, [], ◌∷◌, ◌++◌}
use Rattle.files.specs.State.{new_file, with_newest, with_used}
use Rattle.texts.specs.Text.{new, old}
use Rattle.texts.specs.Calls.{accepted, to_new, to_old}
use Rattle.text_examples.specs.Bytes.{lines, hex}
use Rattle.text_examples.specs.Table.{Row, in-both-forms, swept, turns-not}
use Rattle.text_examples.specs.Cards.{session, holder}
use Rattle.text_examples.specs.Refusals.{device-line, admin-line, user-line, transport-line, session-line}

-- files of each type that ask for a code, alone or beside rights, to be read, written or both
abbrev pub coded-files : List Row
coded-files =
    in-both-forms
    (holder (session 0 0 0 3 [])
    (new_file 0xA1 0x01 0x28 0 2 0x04 0x44
    ∷ new_file 0xA1 0x02 0x2A 2 1 0xC4 0xC6
    ∷ with_used (new_file 0xA1 0x03 0x2C 0 4 0x86 0x05) 3
    ∷ with_newest (new_file 0xA1 0x04 0x2E 2 1 0x47 0x0F) 1 0
    ∷ []))
    (hex 0x1_0A0B ++ hex 0x1_0C0D ++ hex 0x1_02A1A2FF ++ hex 0x1_0E00)
    (lines ("000102030405060708090A0B0C0D0E0F\t128\t128"
    ∷ "3837363534333231\t5\t5"
    ∷ "313233343536\t3\t3"
    ∷ "101112131415161718191A1B1C1D1E1F\t10\t10"
    ∷ "0\t0\t0\tA103\t-\t0\t-"
    ∷ "A101\t2800020444\t0\t0"
    ∷ "0A0B"
    ∷ "A102\t2A0201C4C6\t0\t0"
    ∷ "0C0D"
    ∷ "A103\t2C00048605\t3\t0"
    ∷ "02A1A2FF"
    ∷ "A104\t2E0201470F\t1\t0"
    ∷ "0E00"
    ∷ []))
    (lines ("000102030405060708090A0B0C0D0E0F\t128\t128"
    ∷ "3837363534333231\t5\t5"
    ∷ "313233343536\t3\t3"
    ∷ "101112131415161718191A1B1C1D1E1F\t10\t10"
    ∷ "0\t0\t0\tA103\t-\t0\t-\t3F00"
    ∷ "A101\t2800020444\t0\t0\t3F00"
    ∷ "0A0B"
    ∷ "A102\t2A0201C4C6\t0\t0\t3F00"
    ∷ "0C0D"
    ∷ "A103\t2C00048605\t3\t0\t3F00"
    ∷ "02A1A2FF"
    ∷ "A104\t2E0201470F\t1\t0\t3F00"
    ∷ "0E00"
    ∷ []))
    ∷ []

-- a text of neither form, which neither converter takes
abbrev pub no_text : List ℕ → Bool
no_text s = not (accepted new s) && (not (accepted old s) && (turns-not to_new 11 s 3 && turns-not to_old 11 s 3))

-- lines around those of the session, with the root's FID as the new form has it and without it
abbrev pub refused : (String → List String) → Row
refused around = swept 1 (λ o. no_text (lines (around session-line)) && no_text (lines (around "1\t1\t1\t-\t-\t0\t-")))

abbrev pub line-misplaced : List Row
line-misplaced =
    -- left out, as in a text of before R-9, and twice
    refused (λ l. device-line ∷ admin-line ∷ user-line ∷ l ∷ [])
    ∷ refused (λ l. device-line ∷ admin-line ∷ user-line ∷ transport-line ∷ transport-line ∷ l ∷ [])
    -- before each of the other three, behind the session's, and there once more
    ∷ refused (λ l. transport-line ∷ device-line ∷ admin-line ∷ user-line ∷ l ∷ [])
    ∷ refused (λ l. device-line ∷ transport-line ∷ admin-line ∷ user-line ∷ l ∷ [])
    ∷ refused (λ l. device-line ∷ admin-line ∷ transport-line ∷ user-line ∷ l ∷ [])
    ∷ refused (λ l. device-line ∷ admin-line ∷ user-line ∷ l ∷ transport-line ∷ [])
    ∷ refused (λ l. device-line ∷ admin-line ∷ user-line ∷ transport-line ∷ l ∷ transport-line ∷ [])
    -- on the user PIN's line, an empty one, and without its limit or its tries
    ∷ refused (λ l. device-line ∷ admin-line ∷ "313233343536\t3\t3\t101112131415161718191A1B1C1D1E1F\t10\t10" ∷ l ∷ [])
    ∷ refused (λ l. device-line ∷ admin-line ∷ user-line ∷ "" ∷ l ∷ [])
    ∷ refused (λ l. device-line ∷ admin-line ∷ user-line ∷ "101112131415161718191A1B1C1D1E1F" ∷ l ∷ [])
    ∷ refused (λ l. device-line ∷ admin-line ∷ user-line ∷ "101112131415161718191A1B1C1D1E1F\t10" ∷ l ∷ [])
    ∷ []
