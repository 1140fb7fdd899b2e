-- Every byte and every count of a file's line, contents of every length, and files one behind the other.
use Rattle.std.specs.Prelude.{ℕ, zero, suc, ◌+◌, ◌*◌, ◌%◌, Bool, cond, ◌&&◌, List, [], ◌∷◌, ◌++◌, eqb, leb, take, drop, replicate}
use Prim.Native.String.{String}
use Rattle.files.specs.declared.File.{File}
use Rattle.files.specs.State.{new_file, with_newest, with_used, no_files}
use Rattle.rules.specs.Sound.{sound}
use Rattle.texts.specs.Text.{new, held_or_used, file_line, lines_for, contents, text}
use Rattle.text_examples.specs.Bytes.{chars, lines, equal}
use Rattle.text_examples.specs.Table.{Row, area_of, swept}
use Rattle.text_examples.specs.Cards.{session, told, holder}
use Rattle.text_examples.specs.Own.{counting, counted, digits, fields, dump}
use Rattle.text_examples.specs.FieldRanges.{sixteen}

-- the line of a file in the root, by its seven bytes and its two counts
abbrev pub line-is : File → List ℕ → List ℕ → List ℕ → Bool
line-is f made n newest =
    equal (file_line new no_files f) (fields (digits (take 2 made) ∷ digits (drop 2 made) ∷ n ∷ newest ∷ chars "3F00" ∷ []))

-- a new file of these bytes
abbrev pub new_is : ℕ → ℕ → ℕ → ℕ → ℕ → ℕ → ℕ → Bool
new_is a b c d e f g = line-is (new_file a b c d e f g) (a ∷ b ∷ c ∷ d ∷ e ∷ f ∷ g ∷ []) (chars "0") (chars "0")

-- the byte so many further on
abbrev pub after : ℕ → ℕ → ℕ
after n b = (b + n) % 256

-- a cyclic file that holds n records, with its newest place
abbrev pub held-is : ℕ → ℕ → List ℕ → List ℕ → Bool
held-is held newest h n = line-is (with_newest (new_file 0xA1 0x01 0x2E 254 16 0x40 0x01) held newest) (0xA1 ∷ 0x01 ∷ 0x2E ∷ 254 ∷ 16 ∷ 0x40 ∷ 0x01 ∷ []) h n

-- a file of 4,096 bytes of which n are used
abbrev pub used-is : ℕ → List ℕ → Bool
used-is n d = line-is (with_used (new_file 0xA1 0x03 0x2C 16 0 0x40 0x80) n) (0xA1 ∷ 0x03 ∷ 0x2C ∷ 16 ∷ 0 ∷ 0x40 ∷ 0x80 ∷ []) d (chars "0")

abbrev pub file-lines : List Row
file-lines =
    -- each of the seven bytes with every value, and so every type
    swept 256 (λ b. new_is b (after 37 b) (after 74 b) (after 111 b) (after 148 b) (after 185 b) (after 222 b))
    -- all records held and all newest places
    ∷ swept 1 (λ o. counted 254 (λ n d. held-is n 0 d (chars "0") && held-is 254 n (chars "254") d))
    -- all used bytes; in the line those up to 130, around 1,000 and up to 4,096
    ∷ swept 4097 (λ n. eqb (held_or_used (with_used (new_file 0xA1 0x03 0x2C 16 0 0x40 0x80) n)) n)
    ∷ swept 1 (λ o. counted 130 used-is)
    ∷ swept 1 (λ o. counting 60 980 (chars "089") used-is)
    ∷ swept 1 (λ o. counting 17 4080 (chars "0804") used-is)
    ∷ []

-- as many lines as it takes, for each number of bytes
abbrev pub line-counts : List Row
line-counts = swept 4097 (λ n. leb n (lines_for n * 32) && leb (lines_for n * 32) (n + 31)) ∷ []

abbrev pub is-dump : List ℕ → Bool
is-dump bytes = equal (contents bytes) (dump bytes)

-- each number of bytes up to two lines and some more; `AsDumped` says it of all
abbrev pub contents-written : List Row
contents-written = swept 70 (λ n. is-dump (take n told)) ∷ []

abbrev pub front : List ℕ
front = lines ("000102030405060708090A0B0C0D0E0F\t128\t128" ∷ "3837363534333231\t5\t5" ∷ "313233343536\t3\t3" ∷ "101112131415161718191A1B1C1D1E1F\t10\t10" ∷ "0\t0\t0\t-\t-\t0\t-\t3F00" ∷ [])

-- line and contents of the sixteen files: the first of four has one byte, the others have two
abbrev pub their-text : ℕ → List File → List ℕ → List ℕ
their-text i [] area = []
their-text i (f ∷ fs) area =
    let n : ℕ = cond (eqb (i % 4) 0) 1 2 in
    fields (digits (f.fid1 ∷ f.fid2 ∷ []) ∷ digits (f.kind ∷ f.size1 ∷ f.size2 ∷ f.read ∷ f.write ∷ []) ∷ chars "0" ∷ chars "0" ∷ chars "3F00" ∷ [])
    ++ dump (take n area) ++ their-text (suc i) fs (drop n area)

-- so many records of 178 bytes, each behind its length
abbrev pub notes : ℕ → List ℕ → List ℕ
notes zero tail = tail
notes (suc n) tail = 178 ∷ replicate 178 0x61 ++ notes n tail

-- 4,096 bytes of records
abbrev pub full-notes : List ℕ
full-notes = notes 22 (157 ∷ replicate 157 0x62)

-- a card with one file and these bytes: the file's line, and the contents
abbrev pub one-file : File → List ℕ → String → Row
one-file f bytes l =
    swept 1 (λ o.
    let c = holder (session 0 0 0 0 []) (f ∷ []) in
    sound c (area_of 0 bytes) && equal (text new c (area_of 0 bytes)) (front ++ lines (l ∷ []) ++ dump bytes))

abbrev pub files-written : List Row
files-written =
    -- each number of files
    swept 17 (λ n. equal (text new (holder (session 0 0 0 0 []) (take n sixteen)) told) (front ++ their-text 0 (take n sixteen) told))
    -- the largest ones
    ∷ one-file (new_file 0xA1 0x02 0x28 16 0 0x00 0x40) told "A102\t2810000040\t0\t0\t3F00"
    ∷ one-file (with_used (new_file 0xA1 0x03 0x2C 16 0 0x40 0x40) 4096) full-notes "A103\t2C10004040\t4096\t0\t3F00"
    ∷ one-file (with_newest (new_file 0xA1 0x01 0x2E 254 1 0x40 0x01) 254 253) (take 254 told) "A101\t2EFE014001\t254\t253\t3F00"
    ∷ []
