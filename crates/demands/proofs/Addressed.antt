-- The file that a command is to alter or to show, by the rules' roles and targets, is the one that its bytes name.
use Prim.Native.Nat.{ℕ, ◌≤◌}
use mathlib.Core.Logic.{inl, inr}
use mathlib.Core.Path.{◌≡◌, subst}
use native.Mathlib.Omega.{arith}
use Rattle.rules.specs.declared.Card.{Card}
use Rattle.rules.specs.declared.Ins.{Ins}
use Rattle.rules.specs.declared.Ins.TheVariants.{Select, ReadBinary, UpdateBinary, ReadRecord, UpdateRecord, AppendRecord, Verify, Authenticate, ChangePin, ReloadPin, CreateFile, GetChallenge, GetResponse, Unlisted}
use Rattle.rules.specs.Frame.{Command}
use Rattle.rules.specs.List.{listed}
use Rattle.demands.specs.Role.{Role, touches_nothing, selects, reads_binary, reads_record, writes_binary, writes_record, appends_record, makes_file, presents_pin, presents_key, changes_pin, reloads_pin, asks_challenge, role}
use Rattle.rules.specs.Binary.{binary_target}
use Rattle.rules.specs.Target.{target}
use Rattle.rules.specs.Record.{record_target}
use Rattle.rules.proofs.Good.{Good}
use Rattle.demands.specs.Held.{Named, binary_sfi, record_sfi}
use Rattle.demands.specs.Framing.{EitherClass, NamedBy}
use Rattle.demands.specs.Files.{Addresses, WritesTo, ReadsFrom}
use Rattle.demands.proofs.Framing.{listed-by-bytes}
use Rattle.demands.proofs.Named.{target-named}

-- the file that a command is to alter, an UPDATE BINARY, UPDATE RECORD or APPEND RECORD: its place plus one, 0 for none
unfoldable pub writes_to : Role → Card → Command → ℕ
writes_to touches_nothing c k = 0
writes_to selects c k = 0
writes_to reads_binary c k = 0
writes_to reads_record c k = 0
writes_to writes_binary c k = binary_target c k
writes_to writes_record c k = record_target c k
writes_to appends_record c k = record_target c k
writes_to makes_file c k = 0
writes_to presents_pin c k = 0
writes_to presents_key c k = 0
writes_to changes_pin c k = 0
writes_to reloads_pin c k = 0
writes_to asks_challenge c k = 0

-- the file that a command is to show, a READ BINARY or READ RECORD
unfoldable pub reads_from : Role → Card → Command → ℕ
reads_from touches_nothing c k = 0
reads_from selects c k = 0
reads_from reads_binary c k = binary_target c k
reads_from reads_record c k = record_target c k
reads_from writes_binary c k = 0
reads_from writes_record c k = 0
reads_from appends_record c k = 0
reads_from makes_file c k = 0
reads_from presents_pin c k = 0
reads_from presents_key c k = 0
reads_from changes_pin c k = 0
reads_from reloads_pin c k = 0
reads_from asks_challenge c k = 0

module _ (c : Card) (g : Good c) (k : Command) (n : ℕ) (some : 1 ≤ n) where
  pub by-target : (ins sfi : ℕ) → EitherClass k.cla × (k.ins ≡ ins) → target c sfi ≡ n → Addresses c k ins sfi n
  by-target ins sfi b e =
      let there : 1 ≤ target c sfi = omega (arith, e, some) in
      record { class-is = b.0; instruction-is = b.1; named = subst (Named c sfi) e (target-named c g sfi there) }

  writes-it : (i : Ins) → NamedBy i k.cla k.ins → writes_to (role i) c k ≡ n → WritesTo c k n
  unfolding writes_to
  writes-it Select b e = absurd (omega (arith, e, some))
  writes-it ReadBinary b e = absurd (omega (arith, e, some))
  writes-it UpdateBinary b e = inl (by-target 0xD6 (binary_sfi k) b e)
  writes-it ReadRecord b e = absurd (omega (arith, e, some))
  writes-it UpdateRecord b e = inr (inl (by-target 0xDC (record_sfi k) b e))
  writes-it AppendRecord b e = inr (inr (by-target 0xE2 (record_sfi k) b e))
  writes-it Verify b e = absurd (omega (arith, e, some))
  writes-it Authenticate b e = absurd (omega (arith, e, some))
  writes-it ChangePin b e = absurd (omega (arith, e, some))
  writes-it ReloadPin b e = absurd (omega (arith, e, some))
  writes-it CreateFile b e = absurd (omega (arith, e, some))
  writes-it GetChallenge b e = absurd (omega (arith, e, some))
  writes-it GetResponse b e = absurd (omega (arith, e, some))
  writes-it Unlisted b e = absurd (omega (arith, e, some))

  reads-it : (i : Ins) → NamedBy i k.cla k.ins → reads_from (role i) c k ≡ n → ReadsFrom c k n
  unfolding reads_from
  reads-it Select b e = absurd (omega (arith, e, some))
  reads-it ReadBinary b e = inl (by-target 0xB0 (binary_sfi k) b e)
  reads-it UpdateBinary b e = absurd (omega (arith, e, some))
  reads-it ReadRecord b e = inr (by-target 0xB2 (record_sfi k) b e)
  reads-it UpdateRecord b e = absurd (omega (arith, e, some))
  reads-it AppendRecord b e = absurd (omega (arith, e, some))
  reads-it Verify b e = absurd (omega (arith, e, some))
  reads-it Authenticate b e = absurd (omega (arith, e, some))
  reads-it ChangePin b e = absurd (omega (arith, e, some))
  reads-it ReloadPin b e = absurd (omega (arith, e, some))
  reads-it CreateFile b e = absurd (omega (arith, e, some))
  reads-it GetChallenge b e = absurd (omega (arith, e, some))
  reads-it GetResponse b e = absurd (omega (arith, e, some))
  reads-it Unlisted b e = absurd (omega (arith, e, some))

  pub writes-to : writes_to (role (listed k)) c k ≡ n → WritesTo c k n
  writes-to e = writes-it (listed k) (listed-by-bytes k) e

  pub reads-from : reads_from (role (listed k)) c k ≡ n → ReadsFrom c k n
  reads-from e = reads-it (listed k) (listed-by-bytes k) e
