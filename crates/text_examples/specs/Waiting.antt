-- Both modes of R-6, and the numbers of bytes that wait, on both sides of 256.
use Rattle.std.specs.Prelude.{ℕ, ◌+◌, ◌-◌, Bool, false, cond, ◌&&◌, List, [], ◌∷◌, ◌++◌, eqb, leb, take, replicate}
use Rattle.rules.specs.declared.Card.{Card}
use Rattle.texts.specs.Text.{new, session_line}
use Rattle.text_examples.specs.Bytes.{chars, lines, equal}
use Rattle.text_examples.specs.Table.{Row, written, swept, is}
use Rattle.text_examples.specs.Cards.{session, waits, told, holder}
use Rattle.text_examples.specs.Own.{counting, counted, digits, fields}
use Rattle.text_examples.specs.Refusals.{device-line, admin-line, user-line, transport-line}

-- a card in which these bytes wait
abbrev pub waiting : ℕ → List ℕ → Card
waiting mode bytes = waits mode bytes (holder (session 0 0 0 0 []) [])

-- its session's line, and its text, by mode and what waits
abbrev pub ending : List ℕ → List ℕ → List ℕ
ending mode said = fields (chars "0" ∷ chars "0" ∷ chars "0" ∷ chars "-" ∷ chars "-" ∷ mode ∷ said ∷ chars "3F00" ∷ [])

abbrev pub said-so : List ℕ → List ℕ → List ℕ
said-so mode said = lines (device-line ∷ admin-line ∷ user-line ∷ transport-line ∷ []) ++ ending mode said

-- n bytes that tell their index, and how they are said
abbrev pub some : ℕ → List ℕ
some n = take n told

abbrev pub said : ℕ → List ℕ
said n = cond (eqb n 0) (chars "-") (digits (some n))

abbrev pub some-wait : ℕ → Row
some-wait n = written (waiting 1 (some n)) [] (said-so (chars "1") (said n))

abbrev pub waiting-written : List Row
waiting-written =
    -- nothing waits, in both modes
    written (waiting 0 []) [] (said-so (chars "0") (chars "-"))
    ∷ some-wait 0
    -- one byte, and two; 255 and 256; 256 of 00
    ∷ some-wait 1
    ∷ some-wait 2
    ∷ some-wait 255
    ∷ some-wait 256
    ∷ written (waiting 1 (replicate 256 0)) [] (said-so (chars "1") (digits (replicate 256 0)))
    -- each number of bytes in its line, and every byte at both ends of three
    ∷ swept 257 (λ n. equal (session_line new (waiting 1 (some n))) (ending (chars "1") (said n)))
    ∷ swept 256 (λ b. equal (session_line new (waiting 1 (b ∷ 7 ∷ (255 - b) ∷ []))) (ending (chars "1") (digits (b ∷ 7 ∷ (255 - b) ∷ []))))
    ∷ []

-- as many may wait in mode 1, and in mode 0 none
abbrev pub may-wait : ℕ → Bool
may-wait n = is (leb n 256) (said-so (chars "1") (said n)) && is (eqb n 0) (said-so (chars "0") (said n))

-- the numbers at both ends: of every other one `WrittenRead` and `AcceptedText` of `texts` say it
abbrev pub waiting-read : List Row
waiting-read = swept 18 may-wait ∷ swept 3 (λ n. may-wait (n + 127)) ∷ []

-- and past 256
abbrev pub more-read : List Row
more-read = swept 10 (λ n. may-wait (n + 250)) ∷ swept 1 (λ o. may-wait 511 && (may-wait 512 && may-wait 513)) ∷ []

-- no mode but 0 and 1, those neither that are 0 or 1 in a byte or in two
abbrev pub modes-read : List Row
modes-read =
    swept 1 (λ o. counted 20 (λ n d. is (leb n 1) (said-so d (chars "-"))))
    ∷ swept 1 (λ o. counting 6 254 (chars "452") (λ n d. is false (said-so d (chars "-"))))
    ∷ swept 1 (λ o. counting 6 510 (chars "015") (λ n d. is false (said-so d (chars "-"))))
    ∷ swept 1 (λ o. counting 8 65532 (chars "23556") (λ n d. is false (said-so d (chars "-")) && is false (said-so d (chars "90"))))
    ∷ []
