-- Codes on the bus (R-9): the comparison, and what a code leaves. The codes are openssl's: `openssl enc -aes-128-cbc -nopad` over the padded message, with the
-- challenge filled with 00 as initial value; the first four bytes of the last block. The cipher is computed here, so these rows are few.
use Rattle.std.specs.Prelude.{Bool, true, false, List, [], ◌∷◌, take}
use Rattle.rules.specs.declared.Card.{Card}
use Rattle.rules.specs.State.{with_challenge}
use Rattle.rules.specs.Step.{step}
use Rattle.edges.specs.Table.{hex, random, equal, Edge, given, swept, line}
use Rattle.edges.specs.Cards.{told, bytes_at, card-is}
use Rattle.edges.specs.Codes.{bus}

-- nine tries are left of ten, and there is a challenge of four bytes; with no right held, and with all
abbrev pub asked : Bool → Card
asked held = with_challenge (bus held held held 9) (hex 0x1_00112233)

-- a right code, and not the right that is asked beside it (6982): all tries again, no right held, no challenge
abbrev pub code-late : List Edge
code-late = given (asked false) told (line 0x1_04B0_8400_04_7A97E3A8_01 0x6982 ∷ card-is (bus false false false 10) ∷ []) ∷ []

-- a code wrong in its last byte (6988): one try less, no challenge, and nothing else: no right is dropped
abbrev pub code-wrong : List Edge
code-wrong = given (asked true) told (line 0x1_04B0_8200_04_1E299BD9_04 0x6988 ∷ card-is (bus true true true 8) ∷ bytes_at 0 4096 told ∷ []) ∷ []

-- a right code over a message of 16 bytes, which is padded to two blocks, with a challenge of 16 bytes: the file asks no code, and the command is served
abbrev pub code-served : List Edge
code-served =
    swept 1 (λ n. equal
    (take 12 (step (with_challenge (bus false false false 9) random) told (hex 0x1_04D6_8100_0F_A0A1A2A3A4A5A6A7A8A9AA_CFF9ED3F) random).area)
    (hex 0x1_A0A1A2A3A4A5A6A7A8A9AA_0B))
    ∷ []
