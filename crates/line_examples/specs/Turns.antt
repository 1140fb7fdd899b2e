-- What lines do, one after the other, and the lines printed for them.
use Rattle.std.specs.Prelude.{ℕ, List, [], ◌∷◌, ◌++◌, replicate}
use Prim.Native.String.{String}
use Rattle.digits.specs.Digits.{chars}
use Rattle.line_examples.specs.Table.{Row, turns, unanswered, Turn, parted, text}

-- no card; document 01's card with so many tries left of its user PIN, and a challenge of so many bytes
abbrev pub none : List ℕ
none = replicate 8 0

abbrev pub left : ℕ → ℕ → List ℕ
left user challenge = 1 ∷ 0 ∷ 0 ∷ challenge ∷ 128 ∷ 5 ∷ user ∷ 10 ∷ []

abbrev pub printed : List String → List ℕ
printed fields = text fields ++ (10 ∷ [])

abbrev pub turn : List ℕ → List String → List ℕ → ℕ → Turn
turn given fields bench area = record { given = given; printed = printed fields; bench = bench; area = area }

-- document 01's ISSUE, with the mode of R-6 and the transport key of R-9
abbrev pub key : String
key = "000102030405060708090A0B0C0D0E0F"

abbrev pub transport : String
transport = "101112131415161718191A1B1C1D1E1F"

abbrev pub issue : List ℕ
issue = text ("ISSUE" ∷ key ∷ "128" ∷ "87654321" ∷ "5" ∷ "123456" ∷ "3" ∷ "0" ∷ transport ∷ "10" ∷ [])

-- a command with the example's random
abbrev pub command : String → List ℕ
command c = text ("CMD" ∷ c ∷ "00112233445566778899AABBCCDDEEFF" ∷ [])

abbrev pub reset : List ℕ
reset = chars "RESET"

-- the example
abbrev pub example : List Row
example =
    turns 1
    (turn issue ("1" ∷ "0" ∷ "-" ∷ "-" ∷ []) (left 3 0) 0
    ∷ turn (command "0020000106313131313131") ("2" ∷ "0" ∷ "-" ∷ "63C2" ∷ []) (left 2 0) 0
    ∷ turn (command "00200001") ("3" ∷ "0" ∷ "-" ∷ "63C2" ∷ []) (left 2 0) 0
    ∷ turn (command "0020000106313233343536") ("4" ∷ "0" ∷ "-" ∷ "9000" ∷ []) (left 3 0) 0
    ∷ turn (command "0084000004") ("5" ∷ "0" ∷ "00112233" ∷ "9000" ∷ []) (left 3 4) 0
    ∷ turn (command "00A40000021234") ("6" ∷ "0" ∷ "-" ∷ "6A82" ∷ []) (left 3 0) 0
    ∷ turn reset ("7" ∷ "0" ∷ "-" ∷ "-" ∷ []) (left 3 0) 0
    ∷ turn (command "00200001") ("8" ∷ "0" ∷ "-" ∷ "63C3" ∷ []) (left 3 0) 0
    ∷ [])
    ∷ []

-- before a good ISSUE all else is 9, and a refused one changes nothing
abbrev pub before-issue : List Row
before-issue =
    turns 9
    (turn (command "00200001") ("9" ∷ "9" ∷ "-" ∷ "-" ∷ []) none 0x5A
    ∷ turn reset ("10" ∷ "9" ∷ "-" ∷ "-" ∷ []) none 0x5A
    ∷ turn [] ("11" ∷ "9" ∷ "-" ∷ "-" ∷ []) none 0x5A
    ∷ turn (text ("ISSUE" ∷ "" ∷ "0" ∷ "" ∷ "0" ∷ "" ∷ "0" ∷ "2" ∷ "" ∷ "0" ∷ [])) ("12" ∷ "5" ∷ "-" ∷ "-" ∷ []) none 0x5A
    ∷ turn reset ("13" ∷ "9" ∷ "-" ∷ "-" ∷ []) none 0x5A
    ∷ turn issue ("14" ∷ "0" ∷ "-" ∷ "-" ∷ []) (left 3 0) 0
    ∷ [])
    ∷ []

-- a line that is none, one over 1,024 bytes, a refused ISSUE and a command without random change nothing: the challenge waits, and a try is gone
abbrev pub long : ℕ → List ℕ
long n = parted (chars "ISSUE" ∷ [] ∷ chars "1" ∷ replicate n 0x31 ∷ chars "5" ∷ [] ∷ chars "3" ∷ chars "0" ∷ [] ∷ chars "10" ∷ [])

abbrev pub keeping : List Row
keeping =
    turns 65527
    (turn issue ("65527" ∷ "0" ∷ "-" ∷ "-" ∷ []) (left 3 0) 0
    ∷ turn (command "0020000106313131313131") ("65528" ∷ "0" ∷ "-" ∷ "63C2" ∷ []) (left 2 0) 0
    ∷ turn (command "0084000008") ("65529" ∷ "0" ∷ "0011223344556677" ∷ "9000" ∷ []) (left 2 8) 0
    ∷ turn (text ("CMD" ∷ "0084000008" ∷ [])) ("65530" ∷ "9" ∷ "-" ∷ "-" ∷ []) (left 2 8) 0
    ∷ turn (text ("CMD" ∷ "0084000008" ∷ "" ∷ [])) ("65531" ∷ "3" ∷ "-" ∷ "-" ∷ []) (left 2 8) 0
    ∷ turn (text ("ISSUE" ∷ key ∷ "0" ∷ "87654321" ∷ "5" ∷ "123456" ∷ "3" ∷ "0" ∷ transport ∷ "10" ∷ [])) ("65532" ∷ "5" ∷ "-" ∷ "-" ∷ []) (left 2 8) 0
    ∷ turn (long 1004) ("65533" ∷ "5" ∷ "-" ∷ "-" ∷ []) (left 2 8) 0
    ∷ turn (long 1005) ("65534" ∷ "9" ∷ "-" ∷ "-" ∷ []) (left 2 8) 0
    ∷ turn issue ("65535" ∷ "0" ∷ "-" ∷ "-" ∷ []) (left 3 0) 0
    ∷ [])
    ∷ []

-- an area of 4,096 bytes, and a buffer that takes the longest line printed: less of either, or more of the area, is no call that is answered
abbrev pub no_call : List Row
no_call =
    unanswered issue 4095 532 ∷ unanswered issue 4097 532 ∷ unanswered issue 0 532 ∷ unanswered issue 4096 531 ∷ unanswered issue 4096 0 ∷ unanswered [] 0 0
    ∷ []
