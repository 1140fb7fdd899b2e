-- The wrong cards answer a command of a card in use otherwise than the rules, by computation.
use Prim.Native.Nat.{ℕ, zero, suc}
use mathlib.Core.List.{List, [], ◌∷◌, ◌++◌}
use mathlib.Core.Bool.{Bool, true, false}
use mathlib.Core.Path.{◌≡◌, refl, sym, ap, subst, ◌∙◌}
use native.Mathlib.Omega.{arith}
use lib.ListN.{length, drop}
use Rattle.cipher.specs.Cipher.{last_round, cipher, aes128}
use Rattle.codes.specs.Padding.{padded}
use Rattle.codes.specs.Chaining.{link, chain, first_blocks}
use Rattle.codes.specs.Code.{mac, code}
use Rattle.files.specs.Words.{all_below, seek}
use Rattle.files.specs.Part.{part, splice, over, zeros}
use Rattle.files.specs.Types.{count, record_length, size, good_shape}
use Rattle.files.specs.Rights.{all_held, any_held, allowed, good_rights, good_file_rights}
use Rattle.files.specs.Directory.{used, start_at, find_fid, find_sfi, find_folder}
use Rattle.files.specs.Record.{bytes_used, sound_held, sound_used, parted_file}
use Rattle.files.specs.Create.{area_size, good_contents, apart, name_unused, room, created, good_folder, fid_unused, founded}
use Rattle.files.specs.Sound.{sound_file, unused_place, sfis_differ, unused_folder, sound_folder, sound_folders, sound_directory, parted_area}
use Rattle.rules.specs.declared.Answer.{Answer}
use Rattle.rules.specs.declared.Ins.TheVariants.{ReadBinary}
use Rattle.rules.specs.declared.Card.{Card}
use Rattle.rules.specs.Words.{or_else, first, all_of, same, byte}
use Rattle.rules.specs.State.{Which, user, transport, for_each, Login, login, logins, challenge, waiting, with_rights}
use Rattle.rules.specs.Sound.{good_mode, good_pin, good_value, sound_value, sound_tries, sound_credential, sound_challenge, sound_response, sound_journal, sound_current, sound_state, sound}
use Rattle.rules.specs.Frame.{Command, case_of, framed, frame_sw, class_sw}
use Rattle.rules.specs.List.{rows, find, listed, rule}
use Rattle.rules.specs.Select.{select_checks}
use Rattle.rules.specs.Binary.{read_count, read_binary_front, read_binary_checks}
use Rattle.rules.specs.Target.{target}
use Rattle.rules.specs.Record.{record_found}
use Rattle.rules.specs.Create.{file_given, folder_given, good_folder_given, creation_right, create_checks}
use Rattle.rules.specs.Pins.{compared_at, verify_checks}
use Rattle.rules.specs.Device.{authenticate_checks, get_challenge_checks}
use Rattle.rules.specs.Response.{wait_sw, get_response_checks, fetches, fetched}
use Rattle.rules.specs.Code.{code_sw, presents_code, credentials_after}
use Rattle.rules.specs.Step.{checks, effect_of, kept, ruled, outcome, settled, at_once, step}
use Rattle.rules.specs.Calls.{Done, Order, reply_size, command, reset, good_order, fresh, issue}
use Rattle.rules.proofs.Equal.{same-equal, equal-same}
use Rattle.demands.specs.Ledger.{Event, sent, Page}
use Rattle.demands.specs.Run.{World, world, run, Served, after}
use Rattle.demands.specs.Credentials.{Agrees}
use Rattle.demands.specs.WrongCards.{Box, Fails, drops_at_refusal, keeps_waiting, says_nothing_waits, drops_challenge, enters_new, keeps_file, looks_in_root, stays_inside, undoes_tries, code_for_right, UndoesTries, CodeForRight, EntersNew, KeepsFile, LooksInRoot, StaysInside, DropsAtRefusal, KeepsWaiting, SaysNothingWaits, DropsChallenge, refuses_all, only_says, never_alters, obeys_once, FailsNotMeets, RefusesAll, OnlySays, NeverAlters, ObeysOnce, RulesMeet, MadeUpBreaks}
use Rattle.demands.proofs.Live.{after-live}
use Rattle.demands.proofs.Credentials.{login-set, full}
use Rattle.demands.proofs.Bound.{credentials-follow}

pub fails-not-meets : FailsNotMeets
fails-not-meets box f m = f.differs (m f.before _ _ f.cmd f.random f.reply)

pub rules-meet : RulesMeet
rules-meet before c area cmd random reply = refl

-- the order of the example script, in a mode, with a key of 00
unfoldable order : ℕ → Order
order m = record {
  given =
      for_each (record { value = zeros 16; limit = 128 })
      (record { value = 0x38 ∷ 0x37 ∷ 0x36 ∷ 0x35 ∷ 0x34 ∷ 0x33 ∷ 0x32 ∷ 0x31 ∷ []; limit = 5 })
      (record { value = 0x31 ∷ 0x32 ∷ 0x33 ∷ 0x34 ∷ 0x35 ∷ 0x36 ∷ []; limit = 3 })
      (record { value = zeros 16; limit = 128 });
  mode = m;
}

abbrev in_use : ℕ → List Event → World
in_use m before = after (order m) (zeros area_size) before

abbrev answered : ℕ → List Event → List ℕ → Done
answered m before cmd = command (in_use m before).card (in_use m before).area cmd (zeros 16) (zeros reply_size)

-- commands in a row
abbrev calls : List (List ℕ) → List Event
calls [] = []
calls (cmd ∷ more) = sent cmd (zeros 16) (zeros reply_size) ∷ calls more

-- a number of the answer by which a box differs
module _ (m : ℕ) (good : good_mode m ≡ true) where
  fails-at : (box : Box) (before : List Event) (cmd : List ℕ) (see : Done → ℕ) (x y : ℕ) → see (answered m before cmd) ≡ x
      → see (box before (in_use m before).card (in_use m before).area cmd (zeros 16) (zeros reply_size)) ≡ y → (y ≡ x → ⊥) → Fails box
  unfolding issue good_order good_value good_pin all_of order
  fails-at box before cmd see x y p q n = record {
    order = order m;
    area = zeros area_size;
    before = before;
    cmd = cmd;
    random = zeros 16;
    reply = zeros reply_size;
    is-served = rw good;
    differs = λ e. n (sym q ∙ ap see e ∙ p);
  }

  -- where the card in use is known
  fails-on : (box : Box) (before : List Event) (w : World) → in_use m before ≡ w → (cmd : List ℕ) (see : Done → ℕ) (x y : ℕ)
      → see (command w.card w.area cmd (zeros 16) (zeros reply_size)) ≡ x
      → see (box before w.card w.area cmd (zeros 16) (zeros reply_size)) ≡ y → (y ≡ x → ⊥) → Fails box
  fails-on box before w e cmd see x y p q n =
      fails-at box before cmd see x y (subst (λ (v : World). see (command v.card v.area cmd (zeros 16) (zeros reply_size)) ≡ x) (sym e) p)
      (subst (λ (v : World). see (box before v.card v.area cmd (zeros 16) (zeros reply_size)) ≡ y) (sym e) q) n

-- the order is served
order-served : Served (order 0) (zeros area_size)
unfolding issue good_order good_value good_pin all_of order
order-served = refl

-- a wrong user PIN, and a query; a challenge of four bytes 00; its cryptogram, which logs the device in
unfoldable wrong-pin : List ℕ
wrong-pin = 0x00 ∷ 0x20 ∷ 0x00 ∷ 0x01 ∷ 0x06 ∷ 0x31 ∷ 0x31 ∷ 0x31 ∷ 0x31 ∷ 0x31 ∷ 0x31 ∷ []

unfoldable query : List ℕ
query = 0x00 ∷ 0x20 ∷ 0x00 ∷ 0x01 ∷ []

unfoldable get-challenge : List ℕ
get-challenge = 0x00 ∷ 0x84 ∷ 0x00 ∷ 0x00 ∷ 0x04 ∷ []

-- it is written byte by byte, so that its length is known without the cipher being computed
unfoldable first-bytes : ℕ → List ℕ → List ℕ
first-bytes zero s = []
first-bytes (suc n) s = byte s 0 ∷ first-bytes n (drop 1 s)

unfoldable log-in : List ℕ
log-in = 0x00 ∷ 0x82 ∷ 0x00 ∷ 0x00 ∷ 0x10 ∷ first-bytes 16 (aes128 (zeros 16) (zeros 16))

-- GET RESPONSE for five bytes, and for four
unfoldable asks-five : List ℕ
asks-five = 0x00 ∷ 0xC0 ∷ 0x00 ∷ 0x00 ∷ 0x05 ∷ []

unfoldable asks-four : List ℕ
asks-four = 0x00 ∷ 0xC0 ∷ 0x00 ∷ 0x00 ∷ 0x04 ∷ []

-- a binary file 2002 of one byte is made, and a directory 5101; the root is selected, and the directory; the file is read by its SFI
unfoldable make-file : List ℕ
make-file = 0x80 ∷ 0xE0 ∷ 0x20 ∷ 0x02 ∷ 0x05 ∷ 0x28 ∷ 0x00 ∷ 0x01 ∷ 0x00 ∷ 0x00 ∷ []

unfoldable make-directory : List ℕ
make-directory = 0x80 ∷ 0xE0 ∷ 0x51 ∷ 0x01 ∷ 0x05 ∷ 0x38 ∷ 0x00 ∷ 0x00 ∷ 0x00 ∷ 0x00 ∷ []

unfoldable select-root : List ℕ
select-root = 0x00 ∷ 0xA4 ∷ 0x00 ∷ 0x00 ∷ 0x02 ∷ 0x3F ∷ 0x00 ∷ []

unfoldable select-directory : List ℕ
select-directory = 0x00 ∷ 0xA4 ∷ 0x00 ∷ 0x00 ∷ 0x02 ∷ 0x51 ∷ 0x01 ∷ []

unfoldable read-file : List ℕ
read-file = 0x00 ∷ 0xB0 ∷ 0x82 ∷ 0x00 ∷ 0x01 ∷ []

-- a binary file 2002 of one byte whose read right is 86: the admin right and a code
unfoldable make-coded : List ℕ
make-coded = 0x80 ∷ 0xE0 ∷ 0x20 ∷ 0x02 ∷ 0x05 ∷ 0x28 ∷ 0x00 ∷ 0x01 ∷ 0x86 ∷ 0x00 ∷ []

-- it is read by its SFI with this code
unfoldable coded-read : List ℕ → List ℕ
coded-read d = 0x04 ∷ 0xB0 ∷ 0x82 ∷ 0x00 ∷ 0x04 ∷ (first-bytes 4 d ++ 0x01 ∷ [])

-- a card in use, by computation: to unfold this is to unfold all that these commands need, the cipher apart
computed : ℕ → List Event → World
unfolding code_sw presents_code credentials_after order wrong-pin query get-challenge first-bytes log-in asks-five asks-four make-file make-directory select-root select-directory read-file make-coded coded-read after run issue good_order good_value good_pin all_of command sound sound_state parted_area sound_value sound_tries sound_credential sound_challenge sound_response sound_journal sound_directory sound_file unused_place sfis_differ sound_folders sound_folder unused_folder sound_current sound_held good_shape count record_length size used start_at all_below over part splice or_else case_of framed rows find listed rule checks effect_of kept outcome settled at_once fetches step get_challenge_checks same verify_checks compared_at fetched get_response_checks wait_sw select_checks seek find_fid find_folder authenticate_checks allowed all_held any_held good_rights good_file_rights good_contents good_folder good_folder_given find_sfi fid_unused name_unused apart room created founded file_given folder_given creation_right create_checks target read_count read_binary_checks sound_used bytes_used parted_file
computed m before = in_use m before

-- a challenge has data
challenge-length : (answered 0 [] get-challenge).answer.n ≡ 6
unfolding computed
challenge-length = refl

-- a wrong PIN costs a try, and is answered 63 and a count
tries-after : (login user (answered 0 [] wrong-pin).answer.card).tries.left ≡ 2
unfolding computed
tries-after = refl

tries-before : (login user (in_use 0 []).card).tries.left ≡ 3
unfolding computed
tries-before = refl

-- the second command
once : List Event
once = calls (get-challenge ∷ [])

second-answer : byte (answered 0 once wrong-pin).reply 0 ≡ 0x63
unfolding once computed
second-answer = refl

pub refuses-all : RefusesAll
refuses-all number = fails-at 0 refl (refuses_all number) [] get-challenge (λ d. d.answer.n) 6 0 challenge-length refl (λ e. absurd (omega arith))

pub only-says : OnlySays
only-says sw = fails-at 0 refl (only_says sw) [] get-challenge (λ d. d.answer.n) 6 2 challenge-length refl (λ e. absurd (omega arith))

pub never-alters : NeverAlters
never-alters =
    fails-at 0 refl never_alters [] wrong-pin (λ d. (login user d.answer.card).tries.left) 2 3 tries-after tries-before (λ e. absurd (omega arith))

pub obeys-once : ObeysOnce
unfolding once over
obeys-once = fails-at 0 refl obeys_once once wrong-pin (λ d. byte d.reply 0) 0x63 0x90 second-answer refl (λ e. absurd (omega arith))

-- in mode 1, where the four bytes of a challenge wait: five of them, another command without data, one that ends 9000, and all four
abbrev how-many : Done → ℕ
how-many d = length (waiting d.answer.card)

pub drops-at-refusal : DropsAtRefusal
unfolding once computed
drops-at-refusal = fails-at 1 refl drops_at_refusal once asks-five how-many 4 0 refl refl (λ e. absurd (omega arith))

pub keeps-waiting : KeepsWaiting
unfolding once computed
keeps-waiting = fails-at 1 refl keeps_waiting once query how-many 0 4 refl refl (λ e. absurd (omega arith))

pub says-nothing-waits : SaysNothingWaits
unfolding once computed
says-nothing-waits = fails-at 1 refl says_nothing_waits once select-root (λ d. byte d.reply 0) 0x90 0x61 refl refl (λ e. absurd (omega arith))

pub drops-challenge : DropsChallenge
unfolding once computed
drops-challenge = fails-at 1 refl drops_challenge once asks-four (λ d. length (challenge d.answer.card)) 4 0 refl refl (λ e. absurd (omega arith))

-- where the device right is held
all-bytes : (s : List ℕ) → first-bytes (length s) s ≡ s
unfolding first-bytes
all-bytes [] = refl
all-bytes (x ∷ s) = ap (λ (z : List ℕ). x ∷ z) (all-bytes s)

sixteen : (key block : List ℕ) → length (aes128 key block) ≡ 16
unfolding aes128 cipher last_round
sixteen key block = refl

accepted : same (aes128 (zeros 16) (zeros 16)) (first-bytes 16 (aes128 (zeros 16) (zeros 16))) ≡ true
accepted =
    let c = aes128 (zeros 16) (zeros 16) in
    equal-same c (first-bytes 16 c) (sym (ap (λ n. first-bytes n c) (sym (sixteen (zeros 16) (zeros 16))) ∙ all-bytes c))

abbrev logged-in : World
logged-in = world (with_rights (fresh (order 0)) (1 ∷ 0 ∷ 0 ∷ [])) (zeros area_size)

logged : in_use 0 (calls (get-challenge ∷ log-in ∷ [])) ≡ logged-in
unfolding computed
logged = rw accepted

then : (more : List (List ℕ)) → in_use 0 (calls (get-challenge ∷ log-in ∷ more)) ≡ run logged-in (calls more)
unfolding after run
then more = ap (λ (w : World). run w (calls more)) logged

pub enters-new : EntersNew
unfolding computed
enters-new =
    fails-on 0 refl enters_new (calls (get-challenge ∷ log-in ∷ [])) logged-in logged make-directory (λ d. d.answer.card.session.folder) 0 1 refl refl
    (λ e. absurd (omega arith))

-- the same after a file is made, and after a directory besides, which is selected
pub keeps-file : KeepsFile
unfolding computed
keeps-file =
    fails-on 0 refl keeps_file (calls (get-challenge ∷ log-in ∷ make-file ∷ [])) (run logged-in (calls (make-file ∷ []))) (then (make-file ∷ [])) select-root
    (λ d. d.answer.card.session.current) 0 1 refl refl (λ e. absurd (omega arith))

pub looks-in-root : LooksInRoot
unfolding computed
looks-in-root =
    fails-on 0 refl looks_in_root (calls (get-challenge ∷ log-in ∷ make-file ∷ make-directory ∷ select-directory ∷ []))
    (run logged-in (calls (make-file ∷ make-directory ∷ select-directory ∷ []))) (then (make-file ∷ make-directory ∷ select-directory ∷ [])) read-file
    (λ d. d.answer.n) 2 3 refl refl (λ e. absurd (omega arith))

-- the folder that is current after a reset
abbrev inside_of : Answer → ℕ
inside_of a = a.card.session.folder

in-directory : World
unfolding computed
in-directory = run logged-in (calls (make-directory ∷ select-directory ∷ []))

returns : inside_of (reset in-directory.card in-directory.area) ≡ 0
unfolding computed in-directory reset
returns = refl

stays : inside_of (stays_inside in-directory.card in-directory.area) ≡ 1
unfolding computed in-directory reset
stays = refl

pub stays-inside : StaysInside
unfolding in-directory
stays-inside = record {
  order = order 0;
  area = zeros area_size;
  before = calls (get-challenge ∷ log-in ∷ make-directory ∷ select-directory ∷ []);
  is-served = order-served;
  differs = subst (λ (w : World). stays_inside w.card w.area ≡ reset w.card w.area → ⊥) (sym (then (make-directory ∷ select-directory ∷ [])))
      (λ e. let q : 1 ≡ 0 = sym stays ∙ ap inside_of e ∙ returns in absurd (omega (arith, q)));
}

-- ---- codes: the right one of this command, behind a challenge of four bytes 00
abbrev right-code : List ℕ
right-code = code (mac (zeros 16) (zeros 16) (0x04 ∷ 0xB0 ∷ 0x82 ∷ 0x00 ∷ 0x04 ∷ []))

four : length right-code ≡ 4
unfolding mac chain first_blocks padded link aes128 cipher last_round
four = refl

is_right : same right-code (first-bytes 4 right-code) ≡ true
is_right = equal-same right-code (first-bytes 4 right-code) (sym (ap (λ n. first-bytes n right-code) (sym four) ∙ all-bytes right-code))

-- a wrong one costs a try
undone : (a b d e : ℕ) → same right-code (a ∷ b ∷ d ∷ e ∷ []) ≡ false → Fails undoes_tries
unfolding once computed
undone a b d e n =
    fails-at 0 refl undoes_tries once (coded-read (a ∷ b ∷ d ∷ e ∷ [])) (λ x. (login transport x.answer.card).tries.left) 127 128 (rw n) (rw n) (λ z. absurd (omega arith))

-- of two codes one is wrong
pub undoes-tries : UndoesTries
unfolding same
undoes-tries = go (same right-code (0 ∷ 0 ∷ 0 ∷ 0 ∷ [])) refl
  where
    go : (b : Bool) → same right-code (0 ∷ 0 ∷ 0 ∷ 0 ∷ []) ≡ b → Fails undoes_tries
    go false e = undone 0 0 0 0 e
    go true e = undone 0 0 0 1 (ap (λ (d : List ℕ). same d (0 ∷ 0 ∷ 0 ∷ 1 ∷ [])) (same-equal right-code (0 ∷ 0 ∷ 0 ∷ 0 ∷ []) e))

-- the file asks for the admin right and a code, the device right alone is held, and no file is current: a read makes it so where it is served
coded-file : World
unfolding computed
coded-file = run logged-in (calls (make-coded ∷ select-root ∷ get-challenge ∷ []))

there : in_use 0 (calls (get-challenge ∷ log-in ∷ make-coded ∷ select-root ∷ get-challenge ∷ [])) ≡ coded-file
unfolding coded-file
there = then (make-coded ∷ select-root ∷ get-challenge ∷ [])

as-held : (before : List Event) (c : Card) (area rest : List ℕ)
    → (code_for_right before c area (0x04 ∷ rest) (zeros 16) (zeros reply_size)).answer.card.session.current
    ≡ (command (with_rights c (1 ∷ 1 ∷ 1 ∷ [])) area (0x04 ∷ rest) (zeros 16) (zeros reply_size)).answer.card.session.current
as-held before c area rest = refl

module _ (a b d e : ℕ) (n : same right-code (a ∷ b ∷ d ∷ e ∷ []) ≡ true) where
  abbrev asked : Command
  asked = framed (coded-read (a ∷ b ∷ d ∷ e ∷ []))

  code-passes : code_sw (logins coded-file.card) (challenge coded-file.card) (framed (coded-read (a ∷ b ∷ d ∷ e ∷ []))) ≡ 0x9000
  unfolding computed coded-file
  code-passes = rw n

  also-passes :
      code_sw (logins (with_rights coded-file.card (1 ∷ 1 ∷ 1 ∷ []))) (challenge (with_rights coded-file.card (1 ∷ 1 ∷ 1 ∷ []))) (framed (coded-read (a ∷ b ∷ d ∷ e ∷ []))) ≡ 0x9000
  unfolding computed coded-file
  also-passes = rw n

  -- the current file afterwards, by what the check of the code says
  abbrev current-by : Card → ℕ → ℕ
  current-by c sw =
      (ruled (first (frame_sw asked ∷ class_sw asked ∷ first (first (read_binary_front asked) ∷ sw ∷ read_binary_checks c asked) ∷ []))
      (kept ReadBinary c asked) (effect_of ReadBinary c (record_found c coded-file.area asked) asked (zeros 16))).card.session.current

  abbrev current-after : Card → ℕ
  current-after c = (command c coded-file.area (coded-read (a ∷ b ∷ d ∷ e ∷ [])) (zeros 16) (zeros reply_size)).answer.card.session.current

  refused-there : current-after coded-file.card ≡ 0
  unfolding computed coded-file
  refused-there = subst (λ sw. current-by coded-file.card sw ≡ 0) (sym code-passes) refl

  let-in-there : current-after (with_rights coded-file.card (1 ∷ 1 ∷ 1 ∷ [])) ≡ 1
  unfolding computed coded-file
  let-in-there = subst (λ sw. current-by (with_rights coded-file.card (1 ∷ 1 ∷ 1 ∷ [])) sw ≡ 1) (sym also-passes) refl

  let-in : Fails code_for_right
  unfolding coded-read
  let-in =
      let before : List Event = calls (get-challenge ∷ log-in ∷ make-coded ∷ select-root ∷ get-challenge ∷ []) in
      let rest : List ℕ = 0xB0 ∷ 0x82 ∷ 0x00 ∷ 0x04 ∷ (first-bytes 4 (a ∷ b ∷ d ∷ e ∷ []) ++ 0x01 ∷ []) in
      fails-on 0 refl code_for_right before coded-file there (coded-read (a ∷ b ∷ d ∷ e ∷ [])) (λ x. x.answer.card.session.current) 0 1 refused-there
      (as-held before coded-file.card coded-file.area rest ∙ let-in-there) (λ z. absurd (omega arith))

pub code-for-right : CodeForRight
unfolding first-bytes
code-for-right = let r = right-code in let-in (byte r 0) (byte (drop 1 r) 0) (byte (drop 1 (drop 1 r)) 0) (byte (drop 1 (drop 1 (drop 1 r))) 0) is_right

-- two counts that agree with one page are equal
one-count : (w : Which) (x y : Login) (p : Page) → Agrees w x p → Agrees w y p → x.tries.left ≡ y.tries.left
one-count w x y p a b = omega (arith, a.tries-are, b.tries-are)

pub made-up-breaks : MadeUpBreaks
made-up-breaks o area es h w n other a =
    let c = (after o area es).card in
    let made_up = ap (λ (x : Login). x.tries.left) (login-set c (full c _ (after-live o area es h)) w (record { left = n; limit = (login w c).tries.limit }) (login w c).held) in
    other (sym made_up ∙ one-count w _ _ _ a (credentials-follow o area es h w))
