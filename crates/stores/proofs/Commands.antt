-- The stores of each command, as the code works them out behind its checks.
use Prim.Native.Nat.{ℕ, ◌+◌, ◌-◌, ◌/◌, ◌≤◌, ◌<◌}
use mathlib.Core.Bool.{Bool, true, false, cond, not}
use mathlib.Core.List.{List, [], ◌∷◌, ◌++◌}
use mathlib.Core.Logic.{◌⊎◌, inl, inr}
use mathlib.Core.Path.{◌≡◌, refl, sym, ap, ◌∙◌}
use native.Mathlib.Omega.{arith}
use lib.Dec.{eqb, leb, ltb}
use lib.ListN.{length}
use Rattle.std.proofs.Common.{Ok, Err}
use Rattle.std.specs.Prelude.{Result}
use Rattle.std.specs.Result.{is_err}
use borrow.Author.Tests.{eq-eqb, eqb-false, eqb-true, ltb-true, ne_eqb, not-false, not-true}
use Rattle.files.specs.declared.File.{File}
use Rattle.files.specs.declared.Folder.{Folder}
use Rattle.files.specs.declared.Located.{Located}
use Rattle.files.specs.Words.{is_zero}
use Rattle.files.specs.Part.{zeros}
use Rattle.files.specs.State.{emptied, file_bytes, folder_bytes}
use Rattle.files.specs.Types.{size}
use Rattle.files.specs.Directory.{most_files, start, end}
use Rattle.files.specs.Record.{next_start, appends_record, appended}
use Rattle.files.specs.Record as records
use Rattle.files.specs.Create.{area_size, room, folder_room}
use Rattle.files.proofs.Checks.{each}
use Rattle.rules.specs.declared.Tries.{Tries}
use Rattle.rules.specs.declared.Card.{Card}
use Rattle.rules.specs.declared.Ins.{Ins}
use Rattle.rules.specs.declared.Ins.TheVariants.{Select, ReadBinary, ReadRecord, GetChallenge, GetResponse, Unlisted}
use Rattle.rules.specs.Words.{first, same}
use Rattle.rules.specs.State.{Which, number_of, logins, login_at, login}
use Rattle.rules.specs.Frame.{Command}
use Rattle.rules.specs.Effect.{enters, turns}
use Rattle.rules.specs.List.{rule}
use Rattle.rules.specs.Select.{selected, entered, select_checks, select_deed}
use Rattle.rules.specs.Target.{file_of}
use Rattle.rules.specs.Record.{record_target, record_found, update_record_checks, append_checks}
use Rattle.rules.specs.Pins.{pin_named, verify_checks, verify_touch}
use Rattle.rules.specs.Create.{file_given, is_folder, folder_given, create_checks, create_deed}
use Rattle.rules.proofs.Checks.{Passed, passed, holds}
use Rattle.rules.proofs.Good.{sound-good}
use Rattle.rules.proofs.Targets.{target-low, place-run}
use Rattle.rules.proofs.Asked.{some-file}
use Rattle.rules.proofs.Found.{update-fits, appends}
use Rattle.card.specs.declared.Refused.{Refused}
use Rattle.card.specs.Checks.{checked}
use Rattle.card.specs.Carried.{Ready}
use Rattle.card.specs.Coded.{rest}
use Rattle.card.proofs.Serving.{count-few}
use Rattle.power.specs.Store.{Store, tries_left, entry_byte, file_count, folder_byte, folder_count, area_byte, row}
use Rattle.power.specs.Journal.{entry, known_bytes, journaled}
use Rattle.power.specs.Plan.{oldest_goes, append_stores, deed_stores, lowers, restores, present_stores, touch_stores}
use Rattle.power.specs.Address.{no_store, a_store, store_at}
use Rattle.stores.specs.Handing.{stores_if, touch_if, deed_if, rest_stores}
use Rattle.stores.proofs.Numbers.{store-head, store_tail, store-none}

-- ---- checks that pass, or of which one refuses
abbrev verdict : Bool → ℕ → Result Unit Refused
verdict t sw = cond t (Ok tt) (Err (record { sw = sw }))

err-by : (t : Bool) (a : ℕ) → is_err (verdict t a) ≡ not t
err-by true a = refl
err-by false a = refl

some-refuses : (a : ℕ) {r : Result Unit Refused} {b : Bool} → r ≡ checked a → b ≡ is_err r → b ≡ not (eqb a 0x9000)
unfolding checked
some-refuses a is asked = asked ∙ ap is_err is ∙ err-by (eqb a 0x9000) a

pub refused : (a : ℕ) {r : Result Unit Refused} {b : Bool} → r ≡ checked a → b ≡ is_err r → b ≡ true → a ≡ 0x9000 → ⊥
refused a is asked e = eqb-false a 0x9000 (not-true (eqb a 0x9000) (sym (some-refuses a is asked) ∙ e))

pub all-pass : (a : ℕ) {r : Result Unit Refused} {b : Bool} → r ≡ checked a → b ≡ is_err r → b ≡ false → a ≡ 0x9000
all-pass a is asked e = eqb-true a 0x9000 (not-false (eqb a 0x9000) (sym (some-refuses a is asked) ∙ e))

-- ---- a status word lets all be stored, or nothing
module _ {sw s : ℕ} (is : s ≡ sw) (xs : List Store) (k : ℕ) where
  pub held_back : (s ≡ 0x9000 → ⊥) → no_store ≡ store_at (stores_if sw xs) k
  held_back o = rw (ne_eqb sw 0x9000 (λ t. o (is ∙ t))) (store-none k)

  pub let_through : s ≡ 0x9000 → store_at xs k ≡ store_at (stores_if sw xs) k
  let_through e = rw (eq-eqb sw 0x9000 (sym is ∙ e))

pub nothing_stored : (sw k : ℕ) → no_store ≡ store_at (stores_if sw []) k
nothing_stored sw k = go (eqb sw 0x9000)
  where
    go : (b : Bool) → no_store ≡ store_at (cond b [] []) k
    go true = store-none k
    go false = store-none k

-- SELECT stores nothing, whichever it makes current
pub select-none : (c : Card) (k : Command) (i : ℕ) → no_store ≡ store_at (deed_if (select_checks c k) c (select_deed c k)) i
select-none c k i = go (is_zero (selected c k))
  where
    go : (b : Bool) → no_store ≡ store_at (deed_if (select_checks c k) c (cond b (enters (entered c k)) (turns (selected c k)))) i
    go true = nothing_stored (first (select_checks c k)) i
    go false = nothing_stored (first (select_checks c k)) i

-- neither do the others that show, ask for a challenge or are none
pub shows-none : (i : Ins) → ((i ≡ Select) ⊎ ((i ≡ ReadBinary) ⊎ ((i ≡ ReadRecord) ⊎ ((i ≡ GetChallenge) ⊎ ((i ≡ GetResponse) ⊎ (i ≡ Unlisted))))))
    → (c : Card) (l : Located) (k : Command) (n : ℕ) → no_store ≡ store_at (rest_stores i c l k) n
unfolding rest rule
shows-none i (inl e) c l k n = rw e (select-none c k n)
shows-none i (inr (inl e)) c l k n = rw e (nothing_stored _ n)
shows-none i (inr (inr (inl e))) c l k n = rw e (nothing_stored _ n)
shows-none i (inr (inr (inr (inl e)))) c l k n = rw e (nothing_stored _ n)
shows-none i (inr (inr (inr (inr (inl e))))) c l k n = rw e (nothing_stored 0x6D00 n)
shows-none i (inr (inr (inr (inr (inr e))))) c l k n = rw e (nothing_stored 0x6D00 n)

-- ---- a presentation: store 0 whatever is compared, and then the rest
module _ (c : Card) (w : Which) (agrees : Bool) {n : ℕ} (named : n ≡ number_of w) {t : Tries} (is : t ≡ (login_at n c).tries) (k : ℕ) where
  pub presented-first : k ≡ 0 → a_store (tries_left n (t.left - 1)) ≡ store_at (present_stores c w agrees) k
  presented-first z = rw (is, named) (store-head (lowers w c) (cond agrees (restores w c ∷ []) []) k z)

  pub presented-next : (k ≡ 0 → ⊥) → {a : Bool} → a ≡ agrees → store_at (cond a (tries_left n t.limit ∷ []) []) (k - 1) ≡ store_at (present_stores c w agrees) k
  presented-next o e = rw (e, is, named) (store_tail (lowers w c) (cond agrees (restores w c ∷ []) []) k (omega (arith, o)))

-- VERIFY presents where its checks pass and there are data
module _ (c : Card) (k : Command) (pass : first (verify_checks (logins c) k) ≡ 0x9000) where
  pub verify-presents : (k.case ≡ 1 → ⊥)
      → present_stores c (pin_named k) (same (login (pin_named k) c).value k.given) ≡ touch_if (verify_checks (logins c) k) c (verify_touch (logins c) k)
  verify-presents o = rw (eq-eqb (first (verify_checks (logins c) k)) 0x9000 pass, ne_eqb k.case 1 o)

  pub verify-none : k.case ≡ 1 → (i : ℕ) → no_store ≡ store_at (touch_if (verify_checks (logins c) k) c (verify_touch (logins c) k)) i
  verify-none e i = rw (eq-eqb k.case 1 e) (nothing_stored (first (verify_checks (logins c) k)) i)

-- ---- where the checks of a command on files pass on a sound card
update-file : (c : Card) (l : Located) (k : Command) → Passed (update_record_checks c l k) → 1 ≤ record_target c k
unfolding update_record_checks
update-file c l k p = some-file (record_target c k) p.0

append-file : (c : Card) (k : Command) → Passed (append_checks c k) → 1 ≤ record_target c k
unfolding append_checks
append-file c k p = some-file (record_target c k) p.0

module _ (c : Card) (area : List ℕ) (h : Ready c area) where
  pub update-inside : (k : Command) {l : Located} → l ≡ record_found c area k → first (update_record_checks c l k) ≡ 0x9000 → l.start ≤ 4096
  update-inside k {l} is checked =
      let p = passed (update_record_checks c (record_found c area k) k) (rw is at checked) in
      let g = sound-good c area h.is-sound in
      let some = update-file c (record_found c area k) k p in
      let f = update-fits c area h.is-sound k some p in
      let e : l.start ≡ (record_found c area k).start = ap (λ (x : Located). x.start) is in
      omega (arith, e, place-run c.directory g.directory (record_target c k) some (target-low c g (k.p2 / 8)) (record_found c area k).start (length k.given) f)

  module _ (k : Command) {place : ℕ} (e : place ≡ record_target c k) (checked : first (append_checks c k) ≡ 0x9000) where
    pub append-place : place - 1 < 16
    append-place =
        let some = append-file c k (passed (append_checks c k) checked) in
        omega (arith, e, some, target-low c (sound-good c area h.is-sound) (k.p2 / 8), count-few c area h.is-sound)

    -- the file that the code appends to, its place and where its record goes
    pub append-is : {f next : File} {p s x : ℕ} → f ≡ file_of c place → next ≡ cond (appends_record f (length k.given)) (appended f (length k.given)) f → p ≡ place - 1
        → s ≡ start c.directory place → x ≡ next_start f
        → oldest_goes f p ++ (row area_byte (s + x) (records.entry f k.given) ++ journaled (entry p) (known_bytes next)) ≡ append_stores c (record_target c k) k.given
    append-is ef en ep es ex =
        let p' = passed (append_checks c k) checked in
        let taken = appends c area h.is-sound k (append-file c k p') p' in
        rw (en, ex, es, ep, ef, e, taken)

-- ---- CREATE leaves a place
create-room : (c : Card) (k : Command) → first (create_checks c k) ≡ 0x9000 → cond (is_folder k) (folder_room c.directory) (room c.directory (file_given c.session.folder k)) ≡ true
unfolding create_checks
create-room c k checked =
    let p = passed (create_checks c k) checked in
    holds (cond (is_folder k) (folder_room c.directory) (room c.directory (file_given c.session.folder k))) 0x6A84 refl p.1.1.1.1.1.1.0

module _ (c : Card) (k : Command) where
  pub create-place : first (create_checks c k) ≡ 0x9000 → is_folder k ≡ false → c.directory.count < 16
  unfolding room
  create-place checked e =
      let r : room c.directory (file_given c.session.folder k) ≡ true = rw e at (create-room c k checked) in
      ltb-true _ _ (each (ltb c.directory.count most_files ∷ leb (end c.directory + size (file_given c.session.folder k)) area_size ∷ []) r).0

  pub create-folder : first (create_checks c k) ≡ 0x9000 → is_folder k ≡ true → c.directory.number < 4
  create-folder checked e = ltb-true _ _ (rw e at (create-room c k checked))

  -- where the code worked the new file or directory and its place out
  pub make-is : {f : File} {n e s : ℕ} → is_folder k ≡ false → f ≡ file_given c.session.folder k → n ≡ c.directory.count → e ≡ end c.directory → s ≡ size f
      → row area_byte e (zeros s) ++ (row (entry_byte n) 0 (file_bytes (emptied f)) ++ (file_count (n + 1) ∷ [])) ≡ deed_stores c (create_deed c k)
  make-is o ef en ee es = rw (es, ee, en, ef, o)

  pub found-is : {x : Folder} {n : ℕ} → is_folder k ≡ true → x ≡ folder_given k → n ≡ c.directory.number
      → row (folder_byte n) 0 (folder_bytes x) ++ (folder_count (n + 1) ∷ []) ≡ deed_stores c (create_deed c k)
  found-is o ex en = rw (en, ex, o)
