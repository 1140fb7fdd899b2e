-- The stores of commands, address by address. The numbers are those of C's layout: credential n from 19 n on, tries left 17 behind; file n's entry from
-- 76 + 12 n on, what it knows of its records 7 behind; their number 268; directory n from 269 + 3 n on; their number 281; the journal from 563 on; the area from
-- 581 on.
use Rattle.std.specs.Prelude.{ℕ, ◌+◌, List, [], ◌∷◌, ◌++◌, replicate}
use Rattle.power_examples.specs.Table.{Row, stored}
use Rattle.power_examples.specs.Cards.{area, card, tired, blocked, asked}

-- bytes in a row from an address on
abbrev pub from : ℕ → List ℕ → List ℕ
from at [] = []
from at (b ∷ bs) = at ∷ b ∷ from (at + 1) bs

-- tries fall first, also with all tries left, and are restored where the PIN agrees; a query, no tries left and no digit store nothing
abbrev pub presented : List Row
presented =
    stored card area (0x00 ∷ 0x20 ∷ 0x00 ∷ 0x01 ∷ 0x06 ∷ replicate 6 0x31) (55 ∷ 2 ∷ 55 ∷ 3 ∷ [])
    ∷ stored tired area (0x00 ∷ 0x20 ∷ 0x00 ∷ 0x01 ∷ 0x06 ∷ replicate 6 0x31) (55 ∷ 0 ∷ 55 ∷ 3 ∷ [])
    ∷ stored card area (0x00 ∷ 0x20 ∷ 0x00 ∷ 0x01 ∷ 0x06 ∷ replicate 6 0x32) (55 ∷ 2 ∷ [])
    ∷ stored tired area (0x00 ∷ 0x20 ∷ 0x00 ∷ 0x00 ∷ 0x06 ∷ replicate 6 0x32) (36 ∷ 4 ∷ [])
    ∷ stored card area (0x00 ∷ 0x20 ∷ 0x00 ∷ 0x01 ∷ []) []
    ∷ stored blocked area (0x00 ∷ 0x20 ∷ 0x00 ∷ 0x01 ∷ 0x06 ∷ replicate 6 0x31) []
    ∷ stored card area (0x00 ∷ 0x20 ∷ 0x00 ∷ 0x01 ∷ 0x06 ∷ replicate 6 0x41) []
    ∷ []

-- a new PIN: into the journal with its length, the commit, over the PIN, and the journal cleared; a reload stores the tries last
abbrev pub new-pin : List ℕ
new-pin = replicate 6 0x32 ++ (replicate 10 0 ++ (6 ∷ []))

abbrev pub journaled : List ℕ
journaled = from 564 new-pin ++ (563 ∷ 3 ∷ from 38 new-pin ++ (563 ∷ 0 ∷ from 564 (replicate 17 0)))

abbrev pub pins : List Row
pins =
    stored card area (0x00 ∷ 0x24 ∷ 0x01 ∷ 0x01 ∷ 0x06 ∷ replicate 6 0x32) journaled
    ∷ stored tired area (0x00 ∷ 0x2C ∷ 0x02 ∷ 0x01 ∷ 0x06 ∷ replicate 6 0x32) (journaled ++ (55 ∷ 3 ∷ []))
    ∷ stored tired area (0x00 ∷ 0x24 ∷ 0x01 ∷ 0x01 ∷ 0x06 ∷ replicate 6 0x32) []
    ∷ []

-- an update lists every byte, also one that stays; what a file knows of its records goes by the journal; a file and a directory are counted last
abbrev pub counted : ℕ → ℕ → List ℕ → List ℕ
counted what at bytes = from 564 bytes ++ (563 ∷ what ∷ from at bytes ++ (563 ∷ 0 ∷ from 564 (replicate 4 0)))

abbrev pub files : List Row
files =
    stored card area (0x00 ∷ 0xD6 ∷ 0x83 ∷ 0x01 ∷ 0x02 ∷ 0xAA ∷ 3 ∷ []) (592 ∷ 0xAA ∷ 593 ∷ 3 ∷ [])
    ∷ stored card area (0x00 ∷ 0xD6 ∷ 0x83 ∷ 0x03 ∷ 0x02 ∷ 0xAA ∷ 0xBB ∷ []) []
    ∷ stored card area (0x00 ∷ 0xDC ∷ 0x02 ∷ 0x0C ∷ 0x01 ∷ 99 ∷ []) (581 ∷ 99 ∷ [])
    ∷ stored card area (0x00 ∷ 0xE2 ∷ 0x00 ∷ 0x08 ∷ 0x01 ∷ 12 ∷ []) (83 ∷ 1 ∷ 581 ∷ 12 ∷ counted 16 83 (2 ∷ 0 ∷ 0 ∷ 0 ∷ []))
    ∷ stored card area (0x00 ∷ 0xE2 ∷ 0x00 ∷ 0x20 ∷ 0x01 ∷ 21 ∷ []) (596 ∷ 21 ∷ counted 19 119 (2 ∷ 1 ∷ 0 ∷ 0 ∷ []))
    ∷ stored card area (0x00 ∷ 0xE2 ∷ 0x00 ∷ 0x10 ∷ 0x01 ∷ 0x43 ∷ []) (586 ∷ 1 ∷ 587 ∷ 0x43 ∷ counted 17 95 (0 ∷ 0 ∷ 0 ∷ 5 ∷ []))
    ∷ stored card area (0x80 ∷ 0xE0 ∷ 0x01 ∷ 0x05 ∷ 0x05 ∷ 0x28 ∷ 0x00 ∷ 0x02 ∷ 0x80 ∷ 0x40 ∷ [])
    (597 ∷ 0 ∷ 598 ∷ 0 ∷ from 124 (0x01 ∷ 0x05 ∷ 0x28 ∷ 0x00 ∷ 0x02 ∷ 0x80 ∷ 0x40 ∷ replicate 5 0) ++ (268 ∷ 5 ∷ []))
    ∷ stored card area (0x80 ∷ 0xE0 ∷ 0x52 ∷ 0x02 ∷ 0x05 ∷ 0x38 ∷ 0x00 ∷ 0x00 ∷ 0x41 ∷ 0x00 ∷ []) (from 272 (0x52 ∷ 0x02 ∷ 0x41 ∷ []) ++ (281 ∷ 2 ∷ []))
    ∷ stored card area (0x80 ∷ 0xE0 ∷ 0x01 ∷ 0x04 ∷ 0x05 ∷ 0x28 ∷ 0x00 ∷ 0x02 ∷ 0x00 ∷ 0x00 ∷ []) []
    ∷ stored card area (0x00 ∷ 0xA4 ∷ 0x00 ∷ 0x00 ∷ 0x02 ∷ 0x51 ∷ 0x01 ∷ []) []
    ∷ stored card area (0x00 ∷ 0xB0 ∷ 0x83 ∷ 0x00 ∷ 0x04 ∷ []) []
    ∷ stored card area (0x00 ∷ 0x84 ∷ 0x00 ∷ 0x00 ∷ 0x04 ∷ []) []
    ∷ []

-- a code: the transport key's tries, then the file's bytes. The codes are openssl's; the cipher is computed here, so each row is a group
abbrev pub code-right : List Row
code-right =
    stored asked area (0x04 ∷ 0xD6 ∷ 0x83 ∷ 0x01 ∷ 0x06 ∷ 0xAA ∷ 0xBB ∷ 0x51 ∷ 0x55 ∷ 0xEC ∷ 0x0A ∷ []) (74 ∷ 8 ∷ 74 ∷ 10 ∷ 592 ∷ 0xAA ∷ 593 ∷ 0xBB ∷ [])
    ∷ []

-- restored also where a later check refuses
abbrev pub code-late : List Row
code-late = stored asked area (0x04 ∷ 0xD6 ∷ 0x83 ∷ 0x09 ∷ 0x06 ∷ 0xAA ∷ 0xBB ∷ 0xEF ∷ 0x55 ∷ 0xD4 ∷ 0x84 ∷ []) (74 ∷ 8 ∷ 74 ∷ 10 ∷ []) ∷ []

-- a wrong code stores one byte, and a code without a challenge none
abbrev pub code-wrong : List Row
code-wrong =
    stored asked area (0x04 ∷ 0xD6 ∷ 0x83 ∷ 0x01 ∷ 0x06 ∷ 0xAA ∷ 0xBB ∷ 0x51 ∷ 0x55 ∷ 0xEC ∷ 0x0B ∷ []) (74 ∷ 8 ∷ [])
    ∷ stored card area (0x04 ∷ 0xD6 ∷ 0x83 ∷ 0x01 ∷ 0x06 ∷ 0xAA ∷ 0xBB ∷ 0x51 ∷ 0x55 ∷ 0xEC ∷ 0x0A ∷ []) []
    ∷ []
