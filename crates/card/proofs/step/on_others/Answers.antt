use mathlib.Core.Path.{◌≡◌, ap, refl}
use mathlib.Core.Bool.{false, true}
use mathlib.Core.List.{List, []}
use Prim.Native.Nat.{ℕ}
use native.Mathlib.Omega.{arith}
use lib.ListN.{get_or}
use Rattle.files.proofs.Checks.{clash}
use Rattle.rules.specs.declared.Credential.{Credential}
use Rattle.rules.specs.Words.{first}
use Rattle.rules.specs.State.{challenge, credential, device, login, logins, no_credential}
use Rattle.rules.specs.Select.{select_checks, select_deed}
use Rattle.rules.specs.Create.{create_checks, create_deed}
use Rattle.rules.specs.Pins.{change_checks, change_touch, reload_checks, reload_touch, verify_checks, verify_touch}
use Rattle.rules.specs.Device.{authenticate_checks, authenticate_touch, cryptogram, get_challenge_checks, get_challenge_touch}
use Rattle.rules.specs.Effect.{answers}
use Rattle.rules.specs.List.{rule}
use Rattle.rules.specs.Step.{did, ruled, touched}
use Rattle.rules.proofs.Good.{sound-good}
use Rattle.card.specs.Head.{command_of}
use Rattle.card.specs.Coded.{done, rest, takes_code}
use Rattle.card.proofs.Carrying.{leaves-same, quiet, quiet-ruled, says-ruled, stores-ruled}
use Rattle.card.proofs.Outcomes.{presents-quiet, verify-quiet, verify-random}
use Rattle.card.proofs.Serving.{create-from, create-says, create-shows, key-whole, select-quiet}
use Rattle.rules.specs.declared.Ins.{Ins}
use Rattle.rules.specs.declared.Ins.TheVariants.{Select, ReadBinary, UpdateBinary, ReadRecord, UpdateRecord, AppendRecord, Verify, Authenticate, ChangePin, ReloadPin, CreateFile, GetChallenge, GetResponse, Unlisted}
use Rattle.rules.specs.declared.Card.{Card}
use Rattle.files.specs.declared.Located.{Located}
use Rattle.rules.specs.Frame.{Command}
use Rattle.rules.specs.Record.{record_found}
use Rattle.card.proofs.step.on_others.Goals as goal

pub verify-requires : goal.verify-requires
verify-requires c = c.pin_named-n.ensures

pub change-requires : goal.change-requires
change-requires c = c.pin_named-n.ensures

pub get_challenge-requires : goal.get_challenge-requires
get_challenge-requires c = c.requires

pub returns-in-Select : goal.returns-in-Select
unfolding rest done rule
returns-in-Select c = λ card es ed ex ready tc.
    let a = c.args in
    let k = command_of a.h a.given.now in
    rw c.in-Select.is
    (quiet-ruled card a.random.now a.area.now a.reply.now (first (select_checks card k)) (did card (select_deed card k)) c.select.result (select-quiet card k) (c.select.ensures card es ed))

pub returns-in-Verify : goal.returns-in-Verify
unfolding rest done rule
returns-in-Verify c = λ card es ed ex ready tc.
    let a = c.args in
    let k = command_of a.h a.given.now in
    let n = c.pin_named-n in
    let pin : credential card n.result ≡ get_or a.credentials n.result no_credential = ap (λ (y : List Credential). get_or y n.result no_credential) ex in
    rw c.in-Verify.is
    (rw (← verify-random card (logins card) k a.random.now)
    (quiet-ruled card a.random.now a.area.now a.reply.now (first (verify_checks (logins card) k)) (touched card (verify_touch (logins card) k) []) c.verify.result (verify-quiet card (logins card) k []) (c.verify.ensures card es pin)))

pub returns-in-Authenticate : goal.returns-in-Authenticate
unfolding rest done rule
returns-in-Authenticate c = λ card es ed ex ready tc.
    let a = c.args in
    let k = command_of a.h a.given.now in
    rw c.in-Authenticate.is
    (quiet-ruled card a.random.now a.area.now a.reply.now (first (authenticate_checks (logins card) (challenge card) k)) (touched card (authenticate_touch (logins card) (challenge card) k) []) c.authenticate.result (presents-quiet device card (cryptogram (login device card).value (challenge card)) k.given [])
    (c.authenticate.ensures card es (ap (λ (y : List Credential). get_or y 0 no_credential) ex) (key-whole card a.area.now ready 0 (omega arith) refl)))

pub returns-in-ChangePin : goal.returns-in-ChangePin
unfolding rest done rule
returns-in-ChangePin c = λ card es ed ex ready tc.
    let a = c.args in
    let k = command_of a.h a.given.now in
    let n = c.pin_named-n in
    let pin : credential card n.result ≡ get_or a.credentials n.result no_credential = ap (λ (y : List Credential). get_or y n.result no_credential) ex in
    rw c.in-ChangePin.is
    (quiet-ruled card a.random.now a.area.now a.reply.now (first (change_checks (logins card) k)) (touched card (change_touch k) []) c.change.result refl (c.change.ensures card es (ap (λ (z : Credential). z.tries) pin)))

pub returns-in-ReloadPin : goal.returns-in-ReloadPin
unfolding rest done rule
returns-in-ReloadPin c = λ card es ed ex ready tc.
    let a = c.args in
    let k = command_of a.h a.given.now in
    rw c.in-ReloadPin.is
    (quiet-ruled card a.random.now a.area.now a.reply.now (first (reload_checks (logins card) k)) (touched card (reload_touch k) []) c.reload.result refl
    (c.reload.ensures card es (ap (λ (y : List Credential). (get_or y 2 no_credential).tries) ex) (omega (arith, (sound-good card a.area.now ready.is-sound).all_there))))

pub returns-in-CreateFile : goal.returns-in-CreateFile
unfolding rest done rule
returns-in-CreateFile c = λ card es ed ex ready tc.
    let a = c.args in
    let k = command_of a.h a.given.now in
    rw c.in-CreateFile.is
    (stores-ruled card a.random.now a.area.now a.reply.now (first (create_checks card k)) (did card (create_deed card k)) c.create_file.result (create-says card k) (create-from card k) (create-shows card k) _ (c.create_file.ensures card es ed ready))

pub returns-in-GetChallenge : goal.returns-in-GetChallenge
unfolding rest done rule get_challenge_checks
returns-in-GetChallenge c = λ card es ed ex ready tc.
    let a = c.args in
    let k = command_of a.h a.given.now in
    rw c.in-GetChallenge.is
    (says-ruled card a.random.now a.area.now a.reply.now (first (get_challenge_checks k)) (touched card (get_challenge_touch k) a.random.now) c.get_challenge.result refl refl refl refl _ c.requires.0 (c.get_challenge.ensures card es))

pub returns-in-GetResponse : goal.returns-in-GetResponse
unfolding rest done rule
returns-in-GetResponse c = λ card es ed ex ready tc.
    let a = c.args in
    let s = c.same_session in
    rw c.in-GetResponse.is
    (quiet card a.random.now a.area.now a.reply.now (answers 0x6D00 card) s.result refl (leaves-same card a.session es s.result 0x6D00 s.ensures))

-- the other commands that take no code are in no list here
unanswered : (i : Ins) (x : Card) (l : Located) (k : Command) (random : List ℕ) → takes_code (rule i) ≡ false
    → (i ≡ Select → ⊥) → (i ≡ Verify → ⊥) → (i ≡ Authenticate → ⊥) → (i ≡ ChangePin → ⊥) → (i ≡ ReloadPin → ⊥) → (i ≡ CreateFile → ⊥) → (i ≡ GetChallenge → ⊥)
    → ruled (first (rest i x l k)) x (done i x l k random) ≡ answers 0x6D00 x
unfolding rest done rule
unanswered Select x l k random tc a b d e f g h = absurd (a refl)
unanswered Verify x l k random tc a b d e f g h = absurd (b refl)
unanswered Authenticate x l k random tc a b d e f g h = absurd (d refl)
unanswered ChangePin x l k random tc a b d e f g h = absurd (e refl)
unanswered ReloadPin x l k random tc a b d e f g h = absurd (f refl)
unanswered CreateFile x l k random tc a b d e f g h = absurd (g refl)
unanswered GetChallenge x l k random tc a b d e f g h = absurd (h refl)
unanswered ReadBinary x l k random tc a b d e f g h = clash true refl tc
unanswered UpdateBinary x l k random tc a b d e f g h = clash true refl tc
unanswered ReadRecord x l k random tc a b d e f g h = clash true refl tc
unanswered UpdateRecord x l k random tc a b d e f g h = clash true refl tc
unanswered AppendRecord x l k random tc a b d e f g h = clash true refl tc
unanswered GetResponse x l k random tc a b d e f g h = refl
unanswered Unlisted x l k random tc a b d e f g h = refl

pub returns-in-ReadBinary : goal.returns-in-ReadBinary
returns-in-ReadBinary c = λ card es ed ex ready tc.
    let a = c.args in
    let s = c.in-ReadBinary.is in
    let r = c.same_session-in-ReadBinary in
    rw (unanswered a.ins card (record_found card a.area.now (command_of a.h [])) (command_of a.h a.given.now) a.random.now tc (λ q. grind (arith, s, q)) (λ q. grind (arith, s, q)) (λ q. grind (arith, s, q)) (λ q. grind (arith, s, q)) (λ q. grind (arith, s, q)) (λ q. grind (arith, s, q)) (λ q. grind (arith, s, q)))
    (quiet card a.random.now a.area.now a.reply.now (answers 0x6D00 card) r.result refl (leaves-same card a.session es r.result 0x6D00 r.ensures))
