-- Every number and every byte as a field has it; every limit, tries, length of a PIN, right, current file and challenge in its line.
use Rattle.std.specs.Prelude.{ℕ, suc, ◌+◌, ◌-◌, ◌/◌, ◌%◌, Bool, cond, ◌&&◌, List, [], ◌∷◌, ◌++◌, eqb, take, drop, replicate}
use Rattle.files.specs.declared.File.{File}
use Rattle.files.specs.State.{new_file}
use Rattle.rules.specs.declared.Credential.{Credential}
use Rattle.digits.specs.Digits.{decimal, hex_of, or_dash, value, hex_pair}
use Rattle.texts.specs.Text.{new, credential_line, credential_lines, session_line}
use Rattle.text_examples.specs.Bytes.{chars, hex, equal}
use Rattle.text_examples.specs.Table.{Row, swept}
use Rattle.text_examples.specs.Cards.{credential, session, waits, told, key, transport-key, holder, card}
use Rattle.text_examples.specs.Own.{counting, counted, sixteen-digits, digit, digits, fields}

-- every number that a card can have in a text, around the next powers of ten, and the last ones of 32 and of 64 bits
abbrev pub every-number : List Row
every-number =
    swept 1 (λ o. counted 4096 (λ n d. equal (decimal n) d))
    ∷ swept 1 (λ o. counting 20 9990 (chars "0999") (λ n d. equal (decimal n) d))
    ∷ swept 1 (λ o. counting 20 65530 (chars "03556") (λ n d. equal (decimal n) d))
    ∷ swept 1 (λ o. counting 20 999999990 (chars "099999999") (λ n d. equal (decimal n) d))
    ∷ swept 1 (λ o. counting 16 4294967280 (chars "0827694924") (λ n d. equal (decimal n) d))
    ∷ swept 1 (λ o. counting 16 18446744073709551600 (chars "00615590737044764481") (λ n d. equal (decimal n) d))
    ∷ []

-- every byte, alone and in a row; - for none
abbrev pub every_byte : List Row
every_byte =
    swept 256 (λ b. equal (hex_of (b ∷ [])) (digits (b ∷ [])) && equal (or_dash (b ∷ [])) (digits (b ∷ [])))
    ∷ swept 1 (λ o. equal (hex_of (take 256 told)) (digits (take 256 told)) && equal (or_dash (take 256 told)) (digits (take 256 told)))
    ∷ swept 1 (λ o. equal (or_dash []) (chars "-") && equal (hex_of []) [])
    ∷ []

-- what each byte stands for as a digit, 16 for none; and two digits
abbrev pub place_in : List ℕ → ℕ → ℕ
place_in [] b = 0
place_in (x ∷ xs) b = cond (eqb x b) 0 (suc (place_in xs b))

abbrev pub every-digit : List Row
every-digit =
    swept 256 (λ b. eqb (value b) (place_in sixteen-digits b))
    ∷ swept 256 (λ b. eqb (hex_pair (digit (b / 16)) (digit (b % 16))) b)
    ∷ []

-- a credential's line
abbrev pub is-line : Credential → List ℕ → List ℕ → List ℕ → Bool
is-line x value limit left = equal (credential_line x) (fields (digits value ∷ limit ∷ left ∷ []))

-- a PIN of n digits
abbrev pub of_length : ℕ → List ℕ
of_length n = take n (chars "9081726354102938")

abbrev pub credentials-written : List Row
credentials-written =
    -- all limits with all tries left and with none, and all tries of the largest limit
    swept 1 (λ o. counted 128 (λ n d. is-line (credential key n n) key d d && (is-line (credential key n 0) key d (chars "0")
    && is-line (credential key 128 n) key (chars "128") d)))
    -- all lengths of a PIN
    ∷ swept 11 (λ n. is-line (credential (of_length (n + 6)) 128 5) (of_length (n + 6)) (chars "128") (chars "5"))
    -- each in its place, whatever the others are
    ∷ swept 11 (λ n.
    let a = of_length (n + 6) in
    let u = of_length (16 - n) in
    equal (credential_lines (card (credential key 7 6) (credential a 90 5) (credential u 100 40) (credential transport-key 64 33) (session 0 0 0 0 []) []))
    (fields (digits key ∷ chars "7" ∷ chars "6" ∷ []) ++ fields (digits a ∷ chars "90" ∷ chars "5" ∷ []) ++ fields (digits u ∷ chars "100" ∷ chars "40" ∷ [])
    ++ fields (digits transport-key ∷ chars "64" ∷ chars "33" ∷ [])))
    ∷ []

-- sixteen files, of which each has another FID
abbrev pub sixteen : List File
sixteen =
    new_file 0x01 0x01 0x28 0 1 0 0 ∷ new_file 0x02 0x22 0x2A 2 1 0 0 ∷ new_file 0x13 0x43 0x2C 0 2 0 0 ∷ new_file 0x24 0x64 0x2E 2 1 0 0
    ∷ new_file 0x35 0x85 0x28 0 1 0 0 ∷ new_file 0x46 0xA6 0x2A 2 1 0 0 ∷ new_file 0x57 0xC7 0x2C 0 2 0 0 ∷ new_file 0x68 0xE8 0x2E 2 1 0 0
    ∷ new_file 0x79 0x09 0x28 0 1 0 0 ∷ new_file 0x8A 0x2A 0x2A 2 1 0 0 ∷ new_file 0x9B 0x4B 0x2C 0 2 0 0 ∷ new_file 0xAC 0x6C 0x2E 2 1 0 0
    ∷ new_file 0xBD 0x8D 0x28 0 1 0 0 ∷ new_file 0xCE 0xAE 0x2A 2 1 0 0 ∷ new_file 0xDF 0xCF 0x2C 0 2 0 0 ∷ new_file 0xF0 0xF0 0x2E 2 1 0 0 ∷ []

abbrev pub their-fids : List ℕ
their-fids = hex 0x1_01010222134324643585_46A657C768E879098A2A_9B4BAC6CBD8DCEAEDFCFF0F0

-- the FID of a place plus one, or -
abbrev pub fid-of : ℕ → List ℕ
fid-of place = cond (eqb place 0) (chars "-") (digits (take 2 (drop (place + place - 2) their-fids)))

-- the session's line in mode 0, and with two bytes that wait
abbrev pub session-is : ℕ → ℕ → List ℕ → List ℕ → Bool
session-is rights place challenge said =
    let d = rights / 4 in
    let a = rights / 2 % 2 in
    let u = rights % 2 in
    let c = holder (session d a u place challenge) sixteen in
    let some = rights ∷ place ∷ [] in
    equal (session_line new c) (fields ((digit d ∷ []) ∷ (digit a ∷ []) ∷ (digit u ∷ []) ∷ fid-of place ∷ said ∷ chars "0" ∷ chars "-" ∷ chars "3F00" ∷ []))
    && equal (session_line new (waits 1 some c)) (fields ((digit d ∷ []) ∷ (digit a ∷ []) ∷ (digit u ∷ []) ∷ fid-of place ∷ said ∷ chars "1" ∷ digits some ∷ chars "3F00" ∷ []))

-- with each of the eight sets of rights
abbrev pub with-rights : ℕ → List ℕ → List ℕ → Row
with-rights place challenge said = swept 8 (λ rights. session-is rights place challenge said)

abbrev pub sessions-written : List Row
sessions-written =
    -- no challenge, and each file or none current
    swept 17 (λ place. session-is (place % 8) place [] (chars "-") && session-is (7 - place % 8) place [] (chars "-"))
    -- challenges of 4, 8 and 16 bytes, of 00 too
    ∷ with-rights 0 [] (chars "-")
    ∷ with-rights 0 (hex 0x1_00112233) (chars "00112233")
    ∷ with-rights 16 (hex 0x1_0011223344556677) (chars "0011223344556677")
    ∷ with-rights 9 (hex 0x1_00112233445566778899AABBCCDDEEFF) (chars "00112233445566778899AABBCCDDEEFF")
    ∷ with-rights 1 (replicate 4 0) (chars "00000000")
    ∷ with-rights 0 (replicate 16 0) (chars "00000000000000000000000000000000")
    -- every byte at both ends of one
    ∷ swept 256 (λ b. session-is 5 3 (b ∷ 1 ∷ 2 ∷ (255 - b) ∷ []) (digits (b ∷ 1 ∷ 2 ∷ (255 - b) ∷ [])))
    ∷ []
