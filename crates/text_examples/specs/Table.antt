-- The table's rows and when one holds. What a row expects is put in words of its own, and not in those of the definitions that it tests.
use Rattle.std.specs.Prelude.{ℕ, zero, suc, ◌+◌, ◌-◌, Bool, true, false, ◌&&◌, not, List, [], ◌∷◌, ◌++◌, eqb, length, replicate}
use Rattle.files.specs.declared.File.{File}
use Rattle.files.specs.declared.Folder.{Folder}
use Rattle.rules.specs.declared.Credential.{Credential}
use Rattle.rules.specs.declared.Card.{Card}
use Rattle.rules.specs.Sound.{sound}
use Rattle.texts.specs.Text.{Form, new, old, text}
use Rattle.texts.specs.Calls.{Wrote, to_text, Got, accepted, from_text, to_new, to_old}
use Rattle.text_examples.specs.Bytes.{equal}

-- every number of a card
abbrev pub credentials_numbers : List Credential → List ℕ
credentials_numbers [] = []
credentials_numbers (x ∷ xs) = x.value ++ (x.len ∷ x.tries.left ∷ x.tries.limit ∷ []) ++ credentials_numbers xs

abbrev pub files_numbers : List File → List ℕ
files_numbers [] = []
files_numbers (f ∷ fs) =
    f.fid1 ∷ f.fid2 ∷ f.kind ∷ f.size1 ∷ f.size2 ∷ f.read ∷ f.write ∷ f.held ∷ f.newest ∷ f.used1 ∷ f.used2 ∷ f.folder ∷ files_numbers fs

abbrev pub folders_numbers : List Folder → List ℕ
folders_numbers [] = []
folders_numbers (x ∷ xs) = x.fid1 ∷ x.fid2 ∷ x.right ∷ folders_numbers xs

abbrev pub numbers : Card → List ℕ
numbers c =
    credentials_numbers c.credentials ++ files_numbers c.directory.files ++ (c.directory.count ∷ []) ++ folders_numbers c.directory.folders ++ (c.directory.number ∷ []) ++ c.session.rights
    ++ (c.session.current ∷ c.session.len ∷ c.session.folder ∷ []) ++ c.session.challenge
    ++ (c.response.mode ∷ c.response.count1 ∷ c.response.count2 ∷ []) ++ c.response.bytes
    ++ (c.journal.what ∷ c.journal.bytes)

-- a buffer and an area that were in use
abbrev pub filler : ℕ → List ℕ
filler n = replicate n 0x5A

-- file bytes, and an area behind them that was in use or is 00
abbrev pub area_of : ℕ → List ℕ → List ℕ
area_of b bytes = bytes ++ replicate (4096 - length bytes) b

-- the writer's answer, with the given state, and its buffer then
abbrev pub writes : Wrote → ℕ → Card → ℕ → List ℕ → Bool
writes w outcome c n out =
    eqb w.answer.outcome outcome && (eqb w.answer.n n && (equal w.out out && equal (numbers w.answer.card) (numbers c)))

-- the reader's answer, with a card of these numbers, and its area then
abbrev pub reads : Got → ℕ → List ℕ → List ℕ → Bool
reads g outcome card area =
    eqb g.answer.outcome outcome && (eqb g.answer.n 0 && (equal (numbers g.answer.card) card && equal g.area area))

-- a blank state, all zero
abbrev pub blank : List ℕ
blank = replicate 581 0

-- a text is accepted, or is not
abbrev pub agree : Bool → Bool → Bool
agree true b = b
agree false b = not b

abbrev pub is : Bool → List ℕ → Bool
is good s = agree good (accepted new s)

pub data Row : Type 0 where
  -- a sound card, the bytes of its files, and its text: written where it just fits and where there is more room, refused by 10 in one byte less,
  -- and read
  written : Card → List ℕ → List ℕ → Row
  -- the same of a card without directories in both forms, old and new, and converted both ways; neither text is one of the other form
  in-both-forms : Card → List ℕ → List ℕ → List ℕ → Row
  -- the same of a card with directories, which has no text of the old form: 13 whatever room there is
  with-folders : Card → List ℕ → List ℕ → Row
  -- a card, an area and a buffer of so many bytes: the writer refuses by this number
  unwritten : Card → List ℕ → ℕ → ℕ → Row
  -- a text, and an area of so many bytes: the reader refuses by this number
  unread : List ℕ → ℕ → ℕ → Row
  -- a whole range: what holds of each number below an end
  swept : ℕ → (ℕ → Bool) → Row

abbrev pub sweep : ℕ → (ℕ → Bool) → Bool
sweep zero p = true
sweep (suc n) p = p n && sweep n p

abbrev pub holds_in : Form → Card → List ℕ → List ℕ → Bool
holds_in form c bytes s =
    let n = length s in
    let area = area_of 0x5A bytes in
    sound c area && (equal (text form c area) s
    && (writes (to_text form c area (filler n)) 0 c n s
    && (writes (to_text form c area (filler (n + 3))) 0 c n (s ++ filler 3)
    && (writes (to_text form c area (filler (n - 1))) 10 c 0 (filler (n - 1))
    && reads (from_text form s (filler 4096)) 0 (numbers c) (area_of 0 bytes)))))

-- refused by 13 whatever room there is, with nothing written
abbrev pub no-old-text : Card → List ℕ → ℕ → Bool
no-old-text c area room = writes (to_text old c area (filler room)) 13 c 0 (filler room)

-- what a converter makes of a text: another, where it just fits; nothing in one byte less
abbrev pub turns : (List ℕ → List ℕ → Wrote) → Card → List ℕ → List ℕ → Bool
turns convert c s t =
    let n = length t in
    writes (convert s (filler n)) 0 c n t && writes (convert s (filler (n - 1))) 10 c 0 (filler (n - 1))

-- refused by this number
abbrev pub turns-not : (List ℕ → List ℕ → Wrote) → ℕ → List ℕ → ℕ → Bool
turns-not convert outcome s room =
    eqb (convert s (filler room)).answer.outcome outcome && (eqb (convert s (filler room)).answer.n 0 && equal (convert s (filler room)).out (filler room))

abbrev pub holds : Row → Bool
holds (written c bytes s) = holds_in new c bytes s
holds (in-both-forms c bytes s t) =
    holds_in old c bytes s && (holds_in new c bytes t && (not (accepted new s) && (not (accepted old t)
    && (turns to_new c s t && (turns to_old c t s
    && (turns-not to_new 11 t 3 && turns-not to_old 11 s 3))))))
holds (with-folders c bytes t) =
    holds_in new c bytes t && (no-old-text c (area_of 0 bytes) 0 && (no-old-text c (area_of 0 bytes) 9559
    && (turns-not to_old 13 t 3 && (turns-not to_old 13 t 9559 && turns-not to_new 11 t 9559))))
holds (unwritten c area room outcome) = writes (to_text new c area (filler room)) outcome c 0 (filler room)
holds (unread s size outcome) = reads (from_text new s (filler size)) outcome blank (filler size)
holds (swept n p) = sweep n p

abbrev pub all_hold : List Row → Bool
all_hold [] = true
all_hold (r ∷ rs) = holds r && all_hold rs
