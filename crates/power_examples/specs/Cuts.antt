-- Cut after each number of stores, and recovered.
use Rattle.std.specs.Prelude.{ℕ, List, [], ◌∷◌, ◌++◌, replicate}
use Rattle.power_examples.specs.Table.{Row, cut}
use Rattle.power_examples.specs.Cards.{area, card, tired, list, pin, counts}

-- an append to a full file: the old list, without the oldest, the new list
abbrev pub append-cut : List Row
append-cut =
    cut card area (0x00 ∷ 0xE2 ∷ 0x00 ∷ 0x08 ∷ 0x01 ∷ 12 ∷ []) (list 1) ((11 ∷ 10 ∷ []) ∷ replicate 6 (11 ∷ []) ++ replicate 11 (12 ∷ 11 ∷ []))
    ∷ cut card area (0x00 ∷ 0xE2 ∷ 0x00 ∷ 0x20 ∷ 0x01 ∷ 21 ∷ []) (list 4) (replicate 6 (20 ∷ []) ++ replicate 11 (21 ∷ 20 ∷ []))
    ∷ cut card area (0x00 ∷ 0xE2 ∷ 0x00 ∷ 0x10 ∷ 0x01 ∷ 0x43 ∷ []) (list 2) (replicate 7 (0x41 ∷ 0x42 ∷ []) ++ replicate 11 (0x41 ∷ 0x42 ∷ 0x43 ∷ []))
    ∷ []

-- a new PIN: the old one up to seventeen stores, from the eighteenth on the new one; a reload's tries with the last
abbrev pub user-pin : ℕ → ℕ → List ℕ
user-pin left digit = left ∷ replicate 6 digit

abbrev pub pin-cut : List Row
pin-cut =
    cut card area (0x00 ∷ 0x24 ∷ 0x01 ∷ 0x01 ∷ 0x06 ∷ replicate 6 0x32) (λ c a. pin c) (replicate 18 (user-pin 3 0x31) ++ replicate 37 (user-pin 3 0x32))
    ∷ cut tired area (0x00 ∷ 0x2C ∷ 0x02 ∷ 0x01 ∷ 0x06 ∷ replicate 6 0x32) (λ c a. pin c)
    (replicate 18 (user-pin 1 0x31) ++ (replicate 36 (user-pin 1 0x32) ++ replicate 2 (user-pin 3 0x32)))
    ∷ []

-- a presentation: the tries fall first, and are restored only where it agrees
abbrev pub present-cut : List Row
present-cut =
    cut card area (0x00 ∷ 0x20 ∷ 0x00 ∷ 0x01 ∷ 0x06 ∷ replicate 6 0x32) (λ c a. pin c) (user-pin 3 0x31 ∷ replicate 3 (user-pin 2 0x31))
    ∷ cut tired area (0x00 ∷ 0x20 ∷ 0x00 ∷ 0x01 ∷ 0x06 ∷ replicate 6 0x31) (λ c a. pin c) (user-pin 1 0x31 ∷ user-pin 0 0x31 ∷ replicate 2 (user-pin 3 0x31))
    ∷ []

-- a new file of two bytes, and a new directory: none until the last store
abbrev pub make-cut : List Row
make-cut =
    cut card area (0x80 ∷ 0xE0 ∷ 0x01 ∷ 0x05 ∷ 0x05 ∷ 0x28 ∷ 0x00 ∷ 0x02 ∷ 0x80 ∷ 0x40 ∷ []) (λ c a. counts c) (replicate 15 (4 ∷ 1 ∷ []) ++ replicate 2 (5 ∷ 1 ∷ []))
    ∷ cut card area (0x80 ∷ 0xE0 ∷ 0x52 ∷ 0x02 ∷ 0x05 ∷ 0x38 ∷ 0x00 ∷ 0x00 ∷ 0x41 ∷ 0x00 ∷ []) (λ c a. counts c) (replicate 4 (4 ∷ 1 ∷ []) ++ replicate 2 (4 ∷ 2 ∷ []))
    ∷ []
