-- Which texts are lines: the words, and how many fields there are.
use Rattle.std.specs.Prelude.{ℕ, List, [], ◌∷◌, ◌++◌, take, drop, set}
use Prim.Native.String.{String}
use Rattle.digits.specs.Digits.{chars}
use Rattle.line_examples.specs.Table.{Row, issued, sent, reset, other, parted, each_chars, text}

-- the fields of a good ISSUE, one of them another
abbrev pub good : List (List ℕ)
good = each_chars ("ISSUE" ∷ "0A0B" ∷ "128" ∷ "87654321" ∷ "5" ∷ "123456" ∷ "3" ∷ "1" ∷ "C0DE0F" ∷ "10" ∷ [])

abbrev pub but : ℕ → List ℕ → List ℕ
but n f = parted (set good n f)

abbrev pub but_chars : ℕ → String → List ℕ
but_chars n f = but n (chars f)

-- the numbers that it says: lengths, values, limits and the mode
abbrev pub good_numbers : List ℕ
good_numbers =
    2 ∷ 0x0A ∷ 0x0B ∷ 128 ∷ 8 ∷ 0x38 ∷ 0x37 ∷ 0x36 ∷ 0x35 ∷ 0x34 ∷ 0x33 ∷ 0x32 ∷ 0x31 ∷ 5 ∷ 6 ∷ 0x31 ∷ 0x32 ∷ 0x33 ∷ 0x34 ∷ 0x35 ∷ 0x36 ∷ 3 ∷ 1
    ∷ 3 ∷ 0xC0 ∷ 0xDE ∷ 0x0F ∷ 10 ∷ []

-- ISSUE: ten fields, the word first; each of 1 to 9, and 11 and 12
abbrev pub issue-fields : List Row
issue-fields =
    issued (parted good) good_numbers
    ∷ other (parted (take 1 good)) ∷ other (parted (take 2 good)) ∷ other (parted (take 3 good)) ∷ other (parted (take 4 good)) ∷ other (parted (take 5 good))
    ∷ other (parted (take 6 good)) ∷ other (parted (take 7 good)) ∷ other (parted (take 8 good)) ∷ other (parted (take 9 good))
    ∷ other (parted (good ++ ([] ∷ []))) ∷ other (parted (good ++ (chars "1" ∷ []))) ∷ other (parted (good ++ ([] ∷ [] ∷ [])))
    ∷ other (parted ([] ∷ good)) ∷ other (parted (take 1 good ++ ([] ∷ drop 1 good)))
    ∷ other (parted (drop 1 good))
    ∷ other (but_chars 0 "issue") ∷ other (but_chars 0 "ISSU") ∷ other (but_chars 0 "ISSUED") ∷ other (but_chars 0 " ISSUE") ∷ other (but_chars 0 "") ∷ other (but_chars 0 "CMD")
    ∷ other (text ("ISSUE 0A0B 128 87654321 5 123456 3 1 C0DE0F 10" ∷ []))
    -- no field but a PIN or a key may be empty
    ∷ other (but_chars 2 "") ∷ other (but_chars 4 "") ∷ other (but_chars 6 "") ∷ other (but_chars 7 "") ∷ other (but_chars 9 "")
    ∷ issued (parted (set (set (set (set good 1 []) 3 []) 5 []) 8 [])) (0 ∷ 128 ∷ 0 ∷ 5 ∷ 0 ∷ 3 ∷ 1 ∷ 0 ∷ 10 ∷ [])
    -- a CR is a byte like others
    ∷ other (parted good ++ (0x0D ∷ [])) ∷ other (but 1 (chars "0A0B" ++ (0x0D ∷ []))) ∷ other (but 7 (chars "1" ++ (0x0D ∷ [])))
    ∷ issued (but 3 (0x0D ∷ [])) (2 ∷ 0x0A ∷ 0x0B ∷ 128 ∷ 1 ∷ 0x0D ∷ drop 13 good_numbers)
    ∷ []

-- CMD: three fields; RESET: one
abbrev pub command-fields : List Row
command-fields =
    sent (text ("CMD" ∷ "00A40000023F00" ∷ "FF00" ∷ [])) (0x00 ∷ 0xA4 ∷ 0 ∷ 0 ∷ 2 ∷ 0x3F ∷ 0 ∷ []) (0xFF ∷ 0 ∷ [])
    ∷ sent (text ("CMD" ∷ "" ∷ "" ∷ [])) [] []
    ∷ sent (text ("CMD" ∷ "12" ∷ "" ∷ [])) (0x12 ∷ []) []
    ∷ sent (text ("CMD" ∷ "" ∷ "34" ∷ [])) [] (0x34 ∷ [])
    ∷ other (text ("CMD" ∷ [])) ∷ other (text ("CMD" ∷ "12" ∷ [])) ∷ other (text ("CMD" ∷ "12" ∷ "34" ∷ "" ∷ [])) ∷ other (text ("CMD" ∷ "12" ∷ "34" ∷ "56" ∷ []))
    ∷ other (text ("" ∷ "CMD" ∷ "12" ∷ "34" ∷ [])) ∷ other (text ("" ∷ "12" ∷ "34" ∷ [])) ∷ other (text ("12" ∷ "34" ∷ []))
    ∷ other (text ("cmd" ∷ "12" ∷ "34" ∷ [])) ∷ other (text ("CMDS" ∷ "12" ∷ "34" ∷ [])) ∷ other (text ("CM" ∷ "12" ∷ "34" ∷ [])) ∷ other (text ("RESET" ∷ "12" ∷ "34" ∷ []))
    ∷ other (text ("CMD 12 34" ∷ [])) ∷ other (text ("CMD" ∷ "12" ∷ "34" ∷ []) ++ (0x0D ∷ [])) ∷ other (text ("CMD" ∷ "1 2" ∷ "34" ∷ []))
    ∷ []

abbrev pub reset-fields : List Row
reset-fields =
    reset (text ("RESET" ∷ []))
    ∷ other [] ∷ other (9 ∷ []) ∷ other (0x0D ∷ []) ∷ other (0 ∷ [])
    ∷ other (text ("RESET" ∷ "" ∷ [])) ∷ other (text ("" ∷ "RESET" ∷ [])) ∷ other (text ("RESET" ∷ "" ∷ "" ∷ [])) ∷ other (chars "RESET" ++ (0x0D ∷ []))
    ∷ other (chars "reset") ∷ other (chars "Reset") ∷ other (chars "RESE") ∷ other (chars "RESETS") ∷ other (chars "RESET ") ∷ other (chars " RESET") ∷ other (chars "TESER")
    ∷ other (chars "ISSUE") ∷ other (chars "CMD") ∷ other (chars "# RESET")
    ∷ []
