-- P, case and code passed or refused, and the command behind them with the tries that the code leaves.
-- Assumes nothing.
use Prim.Native.Nat.{ℕ, ◌+◌, ◌-◌}
use Rattle.std.proofs.Common.{◌≢◌}
use mathlib.Core.Bool.{true, false, and-false}
use mathlib.Core.List.{List, [], ◌∷◌}
use mathlib.Core.Path.{◌≡◌, refl, sym, ap, ap₂, ◌∙◌}
use lib.Dec.{eqb}
use borrow.Author.Tests.{eq-eqb, ne_eqb}
use lib.ListN.{take, drop}
use Rattle.files.specs.declared.Located.{Located}
use Rattle.files.proofs.Checks.{clash, split}
use Rattle.rules.specs.declared.Card.{Card}
use Rattle.rules.specs.declared.Ins.{Ins}
use Rattle.rules.specs.declared.Ins.TheVariants.{Select, ReadBinary, UpdateBinary, ReadRecord, UpdateRecord, AppendRecord, Verify, Authenticate, ChangePin, ReloadPin, CreateFile, GetChallenge, GetResponse, Unlisted}
use Rattle.rules.specs.Words.{byte, or_else, first}
use Rattle.rules.specs.State.{transport, credential, login, logins, challenge}
use Rattle.rules.specs.Frame.{Command, lc_before, framed, frame_sw, class_sw, coded}
use Rattle.rules.specs.Select.{select_checks}
use Rattle.rules.specs.Binary.{read_count, read_binary_checks, update_binary_checks}
use Rattle.rules.specs.Target.{target}
use Rattle.rules.specs.Record.{record_found, read_record_checks, update_record_checks, append_checks}
use Rattle.rules.specs.Pins.{tries_sw, verify_checks, change_checks, reload_checks}
use Rattle.rules.specs.Device.{challenge_sw, authenticate_checks, get_challenge_checks}
use Rattle.rules.specs.Create.{file_given, folder_given, good_folder_given, create_checks}
use Rattle.rules.specs.Effect.{Effect, answers}
use Rattle.rules.specs.List.{Rule, of_files, of_contents, of_credentials, rule}
use Rattle.rules.specs.Code.{code_sw, presents_code, credentials_after, after_code}
use Rattle.rules.specs.Step.{checks_of, kept_by, effect_by, did, touched, checks, kept, effect_of, ruled, outcome}
use Rattle.rules.proofs.Checks.{passed, passing}
use Rattle.card.specs.declared.Header.{Header}
use Rattle.card.specs.declared.Heard.{Heard}
use Rattle.card.specs.Head.{head_of, coded_of, command_of}
use Rattle.card.specs.Carried.{with_key_left}
use Rattle.card.specs.Checks.{checked}
use Rattle.card.specs.Coded.{takes_code, front_of, opened_by, rest_of, done_by, front, opened, rest, done, heard_so, Hears, Opens}
use Rattle.card.proofs.Carrying.{stops}
use Rattle.card.proofs.Sparing.{same_left, keyed, did-keyed, ruled-keyed, SparesBy, spares, touched-keyed}

-- ---- checks in a row: the first two, and then the others
module _ (a b own : ℕ) where
  pub framed-on : or_else a b ≡ 0x9000 → or_else a (or_else b own) ≡ own
  unfolding or_else
  framed-on h =
      let p = passed (a ∷ b ∷ []) h in
      rw (eq-eqb a 0x9000 p.0, eq-eqb b 0x9000 p.1.0)

  pub framed-off : (or_else a b ≡ 0x9000 → ⊥) → or_else a (or_else b own) ≡ or_else a b
  unfolding or_else
  framed-off h =
      split (λ z. z ≡ or_else a b) (eqb a 0x9000)
      (λ e. let o : or_else a b ≡ b = rw e in rw (e, ne_eqb b 0x9000 (λ q. h (o ∙ q))))
      (λ e. rw e)

-- ---- the code heard, by the command's name
-- what a code covers is nothing to P and case
-- the other commands have no checks before a code
pub no-front : (k : Command) (i : Ins) → i ≢ ReadBinary → i ≢ UpdateBinary → i ≢ ReadRecord → i ≢ UpdateRecord → i ≢ AppendRecord → first (front i k) ≡ 0x9000
unfolding front rule
no-front k Select a b c d e = refl
no-front k ReadBinary a b c d e = absurd (a refl)
no-front k UpdateBinary a b c d e = absurd (b refl)
no-front k ReadRecord a b c d e = absurd (c refl)
no-front k UpdateRecord a b c d e = absurd (d refl)
no-front k AppendRecord a b c d e = absurd (e refl)
no-front k Verify a b c d e = refl
no-front k Authenticate a b c d e = refl
no-front k ChangePin a b c d e = refl
no-front k ReloadPin a b c d e = refl
no-front k CreateFile a b c d e = refl
no-front k GetChallenge a b c d e = refl
no-front k GetResponse a b c d e = refl
no-front k Unlisted a b c d e = refl

module _ (h : Header) (g x v : List ℕ) where
  pub front-covered : (i : Ins) → first (front i (coded_of h g x [])) ≡ first (front i (coded_of h g x v))
  unfolding front rule
  front-covered Select = refl
  front-covered ReadBinary = refl
  front-covered UpdateBinary = refl
  front-covered ReadRecord = refl
  front-covered UpdateRecord = refl
  front-covered AppendRecord = refl
  front-covered Verify = refl
  front-covered Authenticate = refl
  front-covered ChangePin = refl
  front-covered ReloadPin = refl
  front-covered CreateFile = refl
  front-covered GetChallenge = refl
  front-covered GetResponse = refl
  front-covered Unlisted = refl

  module _ (c : Card) (r : Heard) where
    heard-by : (sw : ℕ) (q : Rule) → takes_code q ≡ true → sw ≡ first (front_of q (coded_of h g x v)) → Hears sw c (coded_of h [] x v) r
        → (with_key_left c r.left ≡ kept_by q c (coded_of h g x v)) × (r.verdict ≡ checked (opened_by q c (coded_of h g x v)))
    unfolding credentials_after presents_code code_sw
    heard-by sw (of_files t d) y e w = clash false y refl
    heard-by sw (of_contents f t d) y e w =
        (w.left_is ∙ ap (λ (z : ℕ). after_code (z ∷ []) c (coded_of h [] x v)) e, w.verdict-is ∙ ap (λ (z : ℕ). checked (or_else z (code_sw (logins c) (challenge c) (coded_of h [] x v)))) e)
    heard-by sw (of_credentials t d) y e w = clash false y refl

    plain_by : (q : Rule) → takes_code q ≡ false → r ≡ heard_so (checked 0x9000) (credential c 3).tries.left
        → (with_key_left c r.left ≡ kept_by q c (coded_of h g x v)) × (r.verdict ≡ checked (opened_by q c (coded_of h g x v)))
    plain_by (of_files t d) y a = (ap (λ (z : Heard). with_key_left c z.left) a ∙ same_left c, ap (λ (z : Heard). z.verdict) a)
    plain_by (of_contents f t d) y a = clash true refl y
    plain_by (of_credentials t d) y a = (ap (λ (z : Heard). with_key_left c z.left) a ∙ same_left c, ap (λ (z : Heard). z.verdict) a)

    module _ (i : Ins) where
      pub opens-heard : (sw : ℕ) → sw ≡ first (front i (coded_of h g x [])) → takes_code (rule i) ≡ true → Hears sw c (coded_of h [] x v) r → Opens i c (coded_of h g x v) r
      unfolding kept opened front
      opens-heard sw e y w =
          let p = heard-by sw (rule i) y (e ∙ front-covered i) w in
          record { left_is = p.0; verdict-is = p.1; plain = λ z. clash (takes_code (rule i)) y z }

      pub opens_plain : takes_code (rule i) ≡ false → r ≡ heard_so (checked 0x9000) (credential c 3).tries.left → Opens i c (coded_of h g x v) r
      unfolding kept opened
      opens_plain y a = let p = plain_by (rule i) y a in record { left_is = p.0; verdict-is = p.1; plain = λ z. ap (λ (z : Heard). z.left) a }

-- ---- the command behind them
module _ (c : Card) (k : Command) where
  plain-opened-by : (q : Rule) → takes_code q ≡ false → opened_by q c k ≡ 0x9000
  plain-opened-by (of_files t d) y = refl
  plain-opened-by (of_contents f t d) y = clash true refl y
  plain-opened-by (of_credentials t d) y = refl

  -- of a command that takes no code, nothing is asked before its own checks
  pub plain-opened : (i : Ins) → takes_code (rule i) ≡ false → opened i c k ≡ 0x9000
  unfolding opened
  plain-opened i y = plain-opened-by (rule i) y

  opened-by : (q : Rule) (l : Located) → opened_by q c k ≡ 0x9000 → first (rest_of q c l k) ≡ first (checks_of q c l k)
  opened-by (of_files t d) l h = refl
  opened-by (of_contents f t d) l h = rest-on (t c l k)
    where
      rest-on : (m : List ℕ) → first m ≡ first (first (f k) ∷ code_sw (logins c) (challenge c) k ∷ m)
      rest-on [] = sym h
      rest-on (a ∷ m) = sym (framed-on (first (f k)) (code_sw (logins c) (challenge c) k) (first (a ∷ m)) h)
  opened-by (of_credentials t d) l h = refl

  closed-by : (q : Rule) (l : Located) → (opened_by q c k ≡ 0x9000 → ⊥) → opened_by q c k ≡ first (checks_of q c l k)
  closed-by (of_files t d) l h = absurd (h refl)
  closed-by (of_contents f t d) l h = rest-off (t c l k)
    where
      rest-off : (m : List ℕ) → or_else (first (f k)) (code_sw (logins c) (challenge c) k) ≡ first (first (f k) ∷ code_sw (logins c) (challenge c) k ∷ m)
      rest-off [] = refl
      rest-off (a ∷ m) = sym (framed-off (first (f k)) (code_sw (logins c) (challenge c) k) (first (a ∷ m)) h)
  closed-by (of_credentials t d) l h = absurd (h refl)

  -- what it does, with the tries that the code leaves
  keyed-by : (q : Rule) (l : Located) (random : List ℕ) (n : ℕ) → with_key_left c n ≡ kept_by q c k → (takes_code q ≡ false → n ≡ (credential c 3).tries.left) → SparesBy q k c
      → keyed n (done_by q c l k random) ≡ effect_by q c l k random
  keyed-by (of_files t d) l random n e same o = sym (did-keyed n c (d c k)) ∙ ap (λ (z : Card). did z (d c k)) e
  keyed-by (of_contents f t d) l random n e same o = sym (did-keyed n c (d c l k)) ∙ ap (λ (z : Card). did z (d c l k)) e
  keyed-by (of_credentials t d) l random n e same o =
      ap (λ (m : ℕ). keyed m (touched c (d (logins c) (challenge c) k) random)) (same refl) ∙ touched-keyed c (d (logins c) (challenge c) k) o random

-- where framing or class refuses, no code was presented
module _ (c : Card) (k : Command) (h : or_else (frame_sw k) (class_sw k) ≡ 0x9000 → ⊥) where
  unheard : (f : List ℕ) → after_code f c k ≡ c
  unfolding credentials_after presents_code
  unheard f =
      let n : eqb (first (frame_sw k ∷ class_sw k ∷ first f ∷ tries_sw (login transport c) ∷ challenge_sw (challenge c) ∷ [])) 0x9000 ≡ false =
      ne_eqb _ 0x9000 (λ e. let p = passed (frame_sw k ∷ class_sw k ∷ first f ∷ tries_sw (login transport c) ∷ challenge_sw (challenge c) ∷ []) e in h (passing (frame_sw k ∷ class_sw k ∷ []) (p.0, (p.1.0, tt)))) in
      rw (n, and-false (coded k))

  kept-framed : (q : Rule) → kept_by q c k ≡ c
  kept-framed (of_files t d) = refl
  kept-framed (of_contents f t d) = unheard (f k)
  kept-framed (of_credentials t d) = refl

module _ (i : Ins) (c : Card) (l : Located) (k : Command) (random : List ℕ) where
  pub obeys : or_else (frame_sw k) (class_sw k) ≡ 0x9000 → ruled (first (checks i c l k)) (kept i c k) (effect_of i c l k random) ≡ outcome i c l k random
  unfolding outcome
  obeys h = ap (λ z. ruled z (kept i c k) (effect_of i c l k random)) (sym (framed-on _ _ (first (checks i c l k)) h))

  pub refuses : (or_else (frame_sw k) (class_sw k) ≡ 0x9000 → ⊥) → answers (or_else (frame_sw k) (class_sw k)) c ≡ outcome i c l k random
  unfolding outcome kept
  refuses h =
      let sw = framed-off (frame_sw k) (class_sw k) (first (checks i c l k)) h in
      ap (answers (or_else (frame_sw k) (class_sw k))) (sym (kept-framed c k h (rule i)))
      ∙ sym (stops _ (kept i c k) (effect_of i c l k random) h) ∙ ap (λ z. ruled z (kept i c k) (effect_of i c l k random)) (sym sw)

-- ---- behind a code no check and no deed looks at it, or at what it covers
module _ (c : Card) (area : List ℕ) (l : Located) (h : Header) (g x v random : List ℕ) where
  same-found : record_found c area (command_of h []) ≡ record_found c area (coded_of h g x v)
  unfolding record_found target
  same-found = refl

  same_rest : (i : Ins) → rest i c l (command_of h g) ≡ rest i c l (coded_of h g x v)
  unfolding rest rule target select_checks read_binary_checks update_binary_checks read_record_checks update_record_checks append_checks verify_checks change_checks reload_checks authenticate_checks get_challenge_checks create_checks read_count good_folder_given file_given
  same_rest Select = refl
  same_rest ReadBinary = refl
  same_rest UpdateBinary = refl
  same_rest ReadRecord = refl
  same_rest UpdateRecord = refl
  same_rest AppendRecord = refl
  same_rest Verify = refl
  same_rest Authenticate = refl
  same_rest ChangePin = refl
  same_rest ReloadPin = refl
  same_rest CreateFile = refl
  same_rest GetChallenge = refl
  same_rest GetResponse = refl
  same_rest Unlisted = refl

  same-done : (i : Ins) → done i c l (command_of h g) random ≡ done i c l (coded_of h g x v) random
  unfolding done rule target read_count folder_given file_given
  same-done Select = refl
  same-done ReadBinary = refl
  same-done UpdateBinary = refl
  same-done ReadRecord = refl
  same-done UpdateRecord = refl
  same-done AppendRecord = refl
  same-done Verify = refl
  same-done Authenticate = refl
  same-done ChangePin = refl
  same-done ReloadPin = refl
  same-done CreateFile = refl
  same-done GetChallenge = refl
  same-done GetResponse = refl
  same-done Unlisted = refl

module _ (i : Ins) (c : Card) (area : List ℕ) (h : Header) (g x v random : List ℕ) (heard : Heard) (w : Opens i c (coded_of h g x v) heard) where
  abbrev by_code : Effect
  by_code = ruled (first (rest i c (record_found c area (command_of h [])) (command_of h g))) c (done i c (record_found c area (command_of h [])) (command_of h g) random)

  -- passed: the command itself
  opened-on : opened i c (coded_of h g x v) ≡ 0x9000
      → keyed heard.left by_code
      ≡ ruled (first (checks i c (record_found c area (coded_of h g x v)) (coded_of h g x v))) (kept i c (coded_of h g x v)) (effect_of i c (record_found c area (coded_of h g x v)) (coded_of h g x v) random)
  unfolding opened checks rest done effect_of kept
  opened-on e =
      let k = coded_of h g x v in
      let l = record_found c area k in
      let n = heard.left in
      ap (λ (z : Located). keyed n (ruled (first (rest i c z (command_of h g))) c (done i c z (command_of h g) random))) (same-found c area l h g x v random)
      ∙ ruled-keyed n (first (rest i c l (command_of h g))) c (done i c l (command_of h g) random)
      ∙ ap₂ (λ (m : List ℕ) (z : Effect). ruled (first m) (with_key_left c n) (keyed n z)) (same_rest c area l h g x v random i) (same-done c area l h g x v random i)
      ∙ ap₂ (λ (s : ℕ) (y : Card). ruled s y (keyed n (done i c l k random))) (passes e) w.left_is
      ∙ ap (ruled (first (checks i c l k)) (kept i c k)) does-all
    where
      passes : opened_by (rule i) c (coded_of h g x v) ≡ 0x9000 → first (rest i c (record_found c area (coded_of h g x v)) (coded_of h g x v)) ≡ first (checks i c (record_found c area (coded_of h g x v)) (coded_of h g x v))
      passes e = opened-by c (coded_of h g x v) (rule i) (record_found c area (coded_of h g x v)) e

      does-all : keyed heard.left (done i c (record_found c area (coded_of h g x v)) (coded_of h g x v) random) ≡ effect_of i c (record_found c area (coded_of h g x v)) (coded_of h g x v) random
      does-all = keyed-by c (coded_of h g x v) (rule i) (record_found c area (coded_of h g x v)) random heard.left w.left_is w.plain (spares i (coded_of h g x v) c)

  -- refused: the card that the code leaves
  opened-off : (sw : ℕ) → sw ≡ opened i c (coded_of h g x v) → (sw ≡ 0x9000 → ⊥)
      → answers sw (with_key_left c heard.left)
      ≡ ruled (first (checks i c (record_found c area (coded_of h g x v)) (coded_of h g x v))) (kept i c (coded_of h g x v)) (effect_of i c (record_found c area (coded_of h g x v)) (coded_of h g x v) random)
  unfolding opened checks
  opened-off sw q n =
      let e : sw ≡ first (checks i c (record_found c area (coded_of h g x v)) (coded_of h g x v)) =
      q ∙ closed-by c (coded_of h g x v) (rule i) (record_found c area (coded_of h g x v)) (λ z. n (q ∙ z)) in
      ap₂ answers e w.left_is ∙ sym (stops _ (kept i c (coded_of h g x v)) (effect_of i c (record_found c area (coded_of h g x v)) (coded_of h g x v) random) (λ z. n (e ∙ z)))

  -- the same of a command's bytes
  module _ (cmd : List ℕ) (p : coded_of h g x v ≡ framed cmd) where
    abbrev by_rule : Command → Effect
    by_rule k = ruled (first (checks i c (record_found c area k) k)) (kept i c k) (effect_of i c (record_found c area k) k random)

    pub coded-on : opened i c (coded_of h g x v) ≡ 0x9000 → keyed heard.left by_code ≡ by_rule (framed cmd)
    coded-on e = opened-on e ∙ ap by_rule p

    pub coded-off : (sw : ℕ) → sw ≡ opened i c (coded_of h g x v) → (sw ≡ 0x9000 → ⊥) → answers sw (with_key_left c heard.left) ≡ by_rule (framed cmd)
    coded-off sw q n = opened-off sw q n ∙ ap by_rule p

-- ---- the parts of a command are the command
pub parts_are : (cmd : List ℕ) (h : Header) (g x v : List ℕ) → h ≡ head_of cmd → g ≡ take (lc_before cmd) (drop 5 cmd)
    → x ≡ take (byte cmd 4 - lc_before cmd) (drop (5 + lc_before cmd) cmd) → v ≡ take (5 + lc_before cmd) cmd → coded_of h g x v ≡ framed cmd
unfolding framed head_of
parts_are cmd h g x v eh eg ex ev =
    ap (λ (z : Header). coded_of z g x v) eh ∙ ap (λ (z : List ℕ). coded_of (head_of cmd) z x v) eg
    ∙ ap (λ (z : List ℕ). coded_of (head_of cmd) (take (lc_before cmd) (drop 5 cmd)) z v) ex
    ∙ ap (λ (z : List ℕ). coded_of (head_of cmd) (take (lc_before cmd) (drop 5 cmd)) (take (byte cmd 4 - lc_before cmd) (drop (5 + lc_before cmd) cmd)) z) ev

pub head-frames : (cmd : List ℕ) (h : Header) → h ≡ head_of cmd
    → or_else (frame_sw (command_of h [])) (class_sw (command_of h [])) ≡ or_else (frame_sw (framed cmd)) (class_sw (framed cmd))
unfolding framed head_of
head-frames cmd h e = ap (λ (z : Header). or_else (frame_sw (command_of z [])) (class_sw (command_of z []))) e
