-- Whole cards, read: sixteen files over the root and four directories; 4,096 used bytes; and 4,096 bytes of which all but three are free. Reading decides which
-- texts of sound cards are accepted.
use Rattle.std.specs.Prelude.{ℕ, zero, suc, Bool, ◌&&◌, List, [], ◌∷◌, ◌++◌, drop, replicate}
use Prim.Native.String.{String}
use Rattle.files.specs.State.{new_file, in_folder, with_newest, with_used}
use Rattle.rules.specs.declared.Card.{Card}
use Rattle.texts.specs.Text.{new}
use Rattle.texts.specs.Reading.{bytes_in, files_part, card_in}
use Rattle.text_examples.specs.Bytes.{lines, hex, equal}
use Rattle.text_examples.specs.Table.{Row, numbers, with-folders, swept}
use Rattle.text_examples.specs.Cards.{session, holder, in-folders, told}
use Rattle.text_examples.specs.Own.{dump}
use Rattle.text_examples.specs.Refusals.{device-line, admin-line, user-line, transport-line}
use Rattle.text_examples.specs.Folders.{four}

-- files of each type in each of them, the fourteenth current
abbrev pub sixteen-files : List Row
sixteen-files =
    with-folders
    (in-folders four 4
    (holder (session 0 0 0 14 [])
    (in_folder 1 (new_file 0xA1 0x02 0x2A 2 1 0x00 0x40)
    ∷ in_folder 2 (with_used (new_file 0xA2 0x03 0x2C 0 4 0x00 0x40) 2)
    ∷ in_folder 3 (with_newest (new_file 0xA3 0x04 0x2E 2 2 0x00 0x40) 1 0)
    ∷ in_folder 4 (new_file 0xA4 0x05 0x28 0 2 0x00 0x40)
    ∷ new_file 0xA5 0x06 0x2A 2 1 0x00 0x40
    ∷ in_folder 1 (with_used (new_file 0xA6 0x07 0x2C 0 4 0x00 0x40) 2)
    ∷ in_folder 2 (with_newest (new_file 0xA7 0x08 0x2E 2 2 0x00 0x40) 1 0)
    ∷ in_folder 3 (new_file 0xA8 0x09 0x28 0 2 0x00 0x40)
    ∷ in_folder 4 (new_file 0xA9 0x0A 0x2A 2 1 0x00 0x40)
    ∷ with_used (new_file 0xA0 0x0B 0x2C 0 4 0x00 0x40) 2
    ∷ in_folder 1 (with_newest (new_file 0xA1 0x0C 0x2E 2 2 0x00 0x40) 1 0)
    ∷ in_folder 2 (new_file 0xA2 0x0D 0x28 0 2 0x00 0x40)
    ∷ in_folder 3 (new_file 0xA3 0x0E 0x2A 2 1 0x00 0x40)
    ∷ in_folder 4 (with_used (new_file 0xA4 0x0F 0x2C 0 4 0x00 0x40) 2)
    ∷ with_newest (new_file 0xA5 0x10 0x2E 2 2 0x00 0x40) 1 0
    ∷ in_folder 1 (new_file 0xA6 0x01 0x28 0 2 0x00 0x40)
    ∷ [])))
    (hex 0x1_111201C2F202313233344142515201C6F606717273748182919201CAFA0AB1B2B3B4C1C2D1D201CEFE0EF1F2F3F40102)
    (lines ("000102030405060708090A0B0C0D0E0F\t128\t128"
    ∷ "3837363534333231\t5\t5"
    ∷ "313233343536\t3\t3"
    ∷ "101112131415161718191A1B1C1D1E1F\t10\t10"
    ∷ "0\t0\t0\tA40F\t-\t0\t-\t0001"
    ∷ "B101\t00"
    ∷ "B201\t40"
    ∷ "B301\t80"
    ∷ "0001\t0F"
    ∷ "A102\t2A02010040\t0\t0\tB101"
    ∷ "1112"
    ∷ "A203\t2C00040040\t2\t0\tB201"
    ∷ "01C2F202"
    ∷ "A304\t2E02020040\t1\t0\tB301"
    ∷ "31323334"
    ∷ "A405\t2800020040\t0\t0\t0001"
    ∷ "4142"
    ∷ "A506\t2A02010040\t0\t0\t3F00"
    ∷ "5152"
    ∷ "A607\t2C00040040\t2\t0\tB101"
    ∷ "01C6F606"
    ∷ "A708\t2E02020040\t1\t0\tB201"
    ∷ "71727374"
    ∷ "A809\t2800020040\t0\t0\tB301"
    ∷ "8182"
    ∷ "A90A\t2A02010040\t0\t0\t0001"
    ∷ "9192"
    ∷ "A00B\t2C00040040\t2\t0\t3F00"
    ∷ "01CAFA0A"
    ∷ "A10C\t2E02020040\t1\t0\tB101"
    ∷ "B1B2B3B4"
    ∷ "A20D\t2800020040\t0\t0\tB201"
    ∷ "C1C2"
    ∷ "A30E\t2A02010040\t0\t0\tB301"
    ∷ "D1D2"
    ∷ "A40F\t2C00040040\t2\t0\t0001"
    ∷ "01CEFE0E"
    ∷ "A510\t2E02020040\t1\t0\t3F00"
    ∷ "F1F2F3F4"
    ∷ "A601\t2800020040\t0\t0\tB101"
    ∷ "0102"
    ∷ []))
    ∷ []

-- a 2C file of 4,096 bytes, of which so many are used
abbrev pub note-card : ℕ → Card
note-card used = holder (session 0 0 0 1 []) (with_used (new_file 0xA1 0x03 0x2C 16 0 0x00 0x40) used ∷ [])

-- so many notes of 127 bytes, each behind its length
abbrev pub notes-of-127 : ℕ → List ℕ → List ℕ
notes-of-127 zero tail = tail
notes-of-127 (suc n) tail = 127 ∷ (replicate 127 n ++ notes-of-127 n tail)

-- its text, in the words of Own, is read as this card and these bytes. That such a text is accepted takes more steps than a statement has; it follows for every
-- text of a sound card (TextAccepted)
abbrev pub reads_as : ℕ → String → List ℕ → Bool
reads_as used file-line bytes =
    let s = lines (device-line ∷ admin-line ∷ user-line ∷ transport-line ∷ "0\t0\t0\tA103\t-\t0\t-\t3F00" ∷ file-line ∷ []) ++ dump bytes in
    equal (numbers (card_in new s)) (numbers (note-card used)) && equal (bytes_in new 16 4096 (files_part new s)) bytes

abbrev pub all-used : List Row
all-used = swept 1 (λ o. reads_as 4096 "A103\t2C10000040\t4096\t0\t3F00" (notes-of-127 32 [])) ∷ []

-- three bytes are used, and the others are free
abbrev pub most-free : List Row
most-free = swept 1 (λ o. reads_as 3 "A103\t2C10000040\t3\t0\t3F00" (2 ∷ drop 1 told)) ∷ []
