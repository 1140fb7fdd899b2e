use mathlib.Core.Path.{◌≡◌, refl, subst}
use mathlib.Core.Bool.{false, true}
use mathlib.Core.List.{[]}
use native.Mathlib.Omega.{arith}
use Rattle.files.specs.Directory.{addressed}
use Rattle.files.proofs.Checks.{clash}
use Rattle.rules.specs.Words.{first}
use Rattle.rules.specs.Binary.{read_binary_checks, read_binary_deed, read_count, update_binary_checks, update_binary_deed}
use Rattle.rules.specs.Target.{target}
use Rattle.rules.specs.Record.{append_checks, append_deed, read_record_checks, read_record_deed, record_found, update_record_checks, update_record_deed}
use Rattle.rules.specs.List.{rule}
use Rattle.rules.specs.Step.{did}
use Rattle.card.specs.Head.{command_of}
use Rattle.card.specs.Coded.{done, rest, sfi_asked, takes_code}
use Rattle.card.proofs.Carrying.{shows-ruled, stores-ruled}
use Rattle.rules.specs.declared.Ins.{Ins}
use Rattle.rules.specs.declared.Ins.TheVariants.{Select, ReadBinary, UpdateBinary, ReadRecord, UpdateRecord, AppendRecord, Verify, Authenticate, ChangePin, ReloadPin, CreateFile, GetChallenge, GetResponse, Unlisted}
use Rattle.card.proofs.step.on_contents.Goals as goal

pub read_binary-requires : goal.read_binary-requires
read_binary-requires c = c.requires

pub read_record-requires : goal.read_record-requires
read_record-requires c = c.requires.1

pub returns-in-ReadBinary : goal.returns-in-ReadBinary
unfolding rest done rule read_binary_checks read_count
returns-in-ReadBinary c = λ card random es aim ready tc.
    let a = c.args in
    let k = command_of a.h a.given.now in
    let l = record_found card a.area.now k in
    rw c.in-ReadBinary.is
    (shows-ruled card random a.area.now a.reply.now (first (read_binary_checks card k)) (did card (read_binary_deed card k)) c.read_binary.result refl refl refl _ (c.read_binary.ensures card es (subst (λ (z : Ins). a.x ≡ addressed card.directory (target card (sfi_asked z (command_of a.h [])))) c.in-ReadBinary.is aim) ready))

pub returns-in-UpdateBinary : goal.returns-in-UpdateBinary
unfolding rest done rule
returns-in-UpdateBinary c = λ card random es aim ready tc.
    let a = c.args in
    let k = command_of a.h a.given.now in
    let l = record_found card a.area.now k in
    rw c.in-UpdateBinary.is
    (stores-ruled card random a.area.now a.reply.now (first (update_binary_checks card k)) (did card (update_binary_deed card k)) c.update_binary.result refl refl refl _ (c.update_binary.ensures card es (subst (λ (z : Ins). a.x ≡ addressed card.directory (target card (sfi_asked z (command_of a.h [])))) c.in-UpdateBinary.is aim) ready))

pub returns-in-ReadRecord : goal.returns-in-ReadRecord
unfolding rest done rule record_found read_record_checks
returns-in-ReadRecord c = λ card random es aim ready tc.
    let a = c.args in
    let k = command_of a.h a.given.now in
    let l = record_found card a.area.now k in
    rw c.in-ReadRecord.is
    (shows-ruled card random a.area.now a.reply.now (first (read_record_checks card l k)) (did card (read_record_deed card l k)) c.read_record.result refl refl refl _ (c.read_record.ensures card es (subst (λ (z : Ins). a.x ≡ addressed card.directory (target card (sfi_asked z (command_of a.h [])))) c.in-ReadRecord.is aim) ready))

pub returns-in-UpdateRecord : goal.returns-in-UpdateRecord
unfolding rest done rule record_found
returns-in-UpdateRecord c = λ card random es aim ready tc.
    let a = c.args in
    let k = command_of a.h a.given.now in
    let l = record_found card a.area.now k in
    rw c.in-UpdateRecord.is
    (stores-ruled card random a.area.now a.reply.now (first (update_record_checks card l k)) (did card (update_record_deed card l k)) c.update_record.result refl refl refl _ (c.update_record.ensures card es (subst (λ (z : Ins). a.x ≡ addressed card.directory (target card (sfi_asked z (command_of a.h [])))) c.in-UpdateRecord.is aim) ready))

pub returns-in-AppendRecord : goal.returns-in-AppendRecord
unfolding rest done rule
returns-in-AppendRecord c = λ card random es aim ready tc.
    let a = c.args in
    let k = command_of a.h a.given.now in
    let l = record_found card a.area.now k in
    rw c.in-AppendRecord.is
    (stores-ruled card random a.area.now a.reply.now (first (append_checks card k)) (did card (append_deed card k)) c.append_record.result refl refl refl _ (c.append_record.ensures card es (subst (λ (z : Ins). a.x ≡ addressed card.directory (target card (sfi_asked z (command_of a.h [])))) c.in-AppendRecord.is aim) ready))

-- only the five above take a code
others : (i : Ins) → takes_code (rule i) ≡ true → (i ≡ ReadBinary → ⊥) → (i ≡ UpdateBinary → ⊥) → (i ≡ ReadRecord → ⊥) → (i ≡ UpdateRecord → ⊥) → (i ≡ AppendRecord → ⊥) → ⊥
unfolding rule
others ReadBinary tc a b d e f = a refl
others UpdateBinary tc a b d e f = b refl
others ReadRecord tc a b d e f = d refl
others UpdateRecord tc a b d e f = e refl
others AppendRecord tc a b d e f = f refl
others Select tc a b d e f = clash false tc refl
others Verify tc a b d e f = clash false tc refl
others Authenticate tc a b d e f = clash false tc refl
others ChangePin tc a b d e f = clash false tc refl
others ReloadPin tc a b d e f = clash false tc refl
others CreateFile tc a b d e f = clash false tc refl
others GetChallenge tc a b d e f = clash false tc refl
others GetResponse tc a b d e f = clash false tc refl
others Unlisted tc a b d e f = clash false tc refl

pub returns-in-Select : goal.returns-in-Select
returns-in-Select c = λ card random es aim ready tc.
    let s = c.in-Select.is in
    absurd (others c.args.ins tc (λ q. grind (arith, s, q)) (λ q. grind (arith, s, q)) (λ q. grind (arith, s, q)) (λ q. grind (arith, s, q)) (λ q. grind (arith, s, q)))
