-- The call that hands over a command's stores one at a time.
use Rattle.std.specs.Prelude.{ℕ, Bool, cond, ◌&&◌, List, [], ◌∷◌, length, eqb}
use Rattle.files.specs.declared.Located.{Located}
use Rattle.files.specs.Create.{area_size}
use Rattle.rules.specs.declared.Card.{Card}
use Rattle.rules.specs.declared.Ins.{Ins}
use Rattle.rules.specs.Words.{first}
use Rattle.rules.specs.State.{transport, logins, challenge}
use Rattle.rules.specs.Effect.{Deed, Touch}
use Rattle.rules.specs.Sound.{sound}
use Rattle.rules.specs.Frame.{Command, frame_sw, class_sw}
use Rattle.rules.specs.List.{rule}
use Rattle.rules.specs.Code.{presents_code}
use Rattle.rules.specs.Calls.{random_size}
use Rattle.card.specs.Coded.{takes_code, front, rest}
use Rattle.power.specs.declared.Numbered.{Numbered}
use Rattle.power.specs.Store.{Store}
use Rattle.power.specs.Plan.{deed_stores, touch_stores, lowers, restores, work_by, planned, work_stores, stores_for, stores_of}
use Rattle.power.specs.Address.{no_store, store_at}
use Rattle.stores.specs.declared.Handed.{Handed}

-- what a status word lets be stored: all of it for 9000, else nothing
abbrev pub stores_if : ℕ → List Store → List Store
stores_if sw xs = cond (eqb sw 0x9000) xs []

-- of a touch and of a deed behind the command's checks
abbrev pub touch_if : List ℕ → Card → Touch → List Store
touch_if checks c t = stores_if (first checks) (touch_stores c t)

abbrev pub deed_if : List ℕ → Card → Deed → List Store
deed_if checks c d = stores_if (first checks) (deed_stores c d)

-- of a command by its name, l the record that it addresses: past P, case and code of those that may have one
abbrev pub rest_stores : Ins → Card → Located → Command → List Store
rest_stores i c l k = stores_if (first (rest i c l k)) (work_stores c (work_by (rule i) c l k))

-- framing, class, P and case
abbrev pub open_sw : Ins → Command → ℕ
open_sw i k = first (frame_sw k ∷ class_sw k ∷ first (front i k) ∷ [])

-- these pass, and a code is presented (R-9): then one try less before anything is compared, and all the others only where the code is right
abbrev pub presented : Ins → Card → Command → Bool
presented i c k = takes_code (rule i) && presents_code (front i k) (logins c) (challenge c) k

abbrev pub coded_stores : Card → Bool → List Store → List Store
coded_stores c right xs = lowers transport c ∷ cond right (restores transport c ∷ xs) []

-- all of it
abbrev pub plan_stores : Ins → Card → Located → Command → List Store
plan_stores i c l k = stores_for c (planned i c l k)

abbrev pub handed : ℕ → Numbered → Handed
handed outcome store = record { outcome = outcome; store = store }

-- refused as a command is, in this order: 2 data area not 4,096 bytes; 3 fresh random input not 16 bytes; 4 state not sound; 0 where it is served
unfoldable pub refusal : Card → List ℕ → List ℕ → ℕ
refusal c area random = cond (eqb (length area) area_size) (cond (eqb (length random) random_size) (cond (sound c area) 0 4) 3) 2

-- store number n of the command, from 0, or none where it makes no more than n; none where the call is refused
unfoldable pub store : Card → List ℕ → List ℕ → List ℕ → ℕ → Handed
store c area cmd random n = handed (refusal c area random) (cond (eqb (refusal c area random) 0) (store_at (stores_of c area cmd) n) no_store)
