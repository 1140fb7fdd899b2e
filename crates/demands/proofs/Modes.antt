-- No command's own rule knows the mode or what waits: on the same card in mode 0 it does the same.
use Prim.Native.Nat.{ℕ}
use mathlib.Core.Bool.{Bool, true, false, cond}
use mathlib.Core.List.{List, [], ◌∷◌}
use mathlib.Core.Path.{◌≡◌, refl, ap, ap₂, ◌∙◌}
use lib.Dec.{eqb}
use Rattle.files.specs.declared.Located.{Located}
use Rattle.rules.specs.declared.Card.{Card}
use Rattle.rules.specs.declared.Ins.{Ins}
use Rattle.rules.specs.declared.Ins.TheVariants.{Select, ReadBinary, UpdateBinary, ReadRecord, UpdateRecord, AppendRecord, Verify, Authenticate, ChangePin, ReloadPin, CreateFile, GetChallenge, GetResponse, Unlisted}
use Rattle.rules.specs.Words.{first, same}
use Rattle.rules.specs.State.{logins, challenge}
use Rattle.rules.specs.Frame.{Command, framed, frame_sw, class_sw}
use Rattle.rules.specs.Effect.{Deed, turns, enters, shows, stores, appends, makes, founds, Touch, nothing, presents, changes, reloads, challenges, Effect, effect, answers, Stepped}
use Rattle.rules.specs.Select.{select_checks}
use Rattle.rules.specs.Binary.{read_binary_checks, update_binary_checks}
use Rattle.rules.specs.Target.{target}
use Rattle.rules.specs.Record.{record_found, read_record_checks, update_record_checks, append_checks}
use Rattle.rules.specs.Pins.{compared_at}
use Rattle.rules.specs.Create.{creation_right, create_checks}
use Rattle.rules.specs.Code.{code_sw, credentials_after, after_code}
use Rattle.rules.specs.List.{listed, Rule, of_files, of_contents, of_credentials, rule}
use Rattle.rules.specs.Step.{checks_of, kept_by, did, touched, effect_by, checks, effect_of, kept, ruled, outcome, settled, at_once}
use Rattle.demands.specs.Response.{in_mode0}

-- the same effect on the card in mode 0
abbrev blind_effect : Effect → Effect
blind_effect e = effect e.sw (in_mode0 e.card) e.says e.from e.shows e.into e.stores

abbrev pub blind_step : Stepped → Stepped
blind_step s = record { card = in_mode0 s.card; area = s.area; bytes = s.bytes; sw = s.sw }

-- a rule that goes by the card: its checks and its deed
abbrev Blind : Rule → Type 0
Blind (of_files t d) = (c : Card) (k : Command) → (t (in_mode0 c) k ≡ t c k) × (d (in_mode0 c) k ≡ d c k)
Blind (of_contents f t d) = (c : Card) (l : Located) (k : Command) → (t (in_mode0 c) l k ≡ t c l k) × (d (in_mode0 c) l k ≡ d c l k)
Blind (of_credentials t d) = Unit

blind : (i : Ins) → Blind (rule i)
unfolding rule select_checks read_binary_checks update_binary_checks read_record_checks update_record_checks append_checks create_checks creation_right target
blind Select = λ c k. (refl, refl)
blind ReadBinary = λ c l k. (refl, refl)
blind UpdateBinary = λ c l k. (refl, refl)
blind ReadRecord = λ c l k. (refl, refl)
blind UpdateRecord = λ c l k. (refl, refl)
blind AppendRecord = λ c l k. (refl, refl)
blind Verify = tt
blind Authenticate = tt
blind ChangePin = tt
blind ReloadPin = tt
blind CreateFile = λ c k. (refl, refl)
blind GetChallenge = tt
blind GetResponse = tt
blind Unlisted = tt

module _ (c : Card) where
  did-blind : (d : Deed) → did (in_mode0 c) d ≡ blind_effect (did c d)
  did-blind (turns place) = refl
  did-blind (enters n) = refl
  did-blind (shows place at n) = refl
  did-blind (stores place at bytes) = refl
  did-blind (appends place bytes) = refl
  did-blind (makes f) = refl
  did-blind (founds x) = refl

  compared-blind : (n : ℕ) (b : Bool) → compared_at n (in_mode0 c) b ≡ blind_effect (compared_at n c b)
  unfolding compared_at
  compared-blind n true = refl
  compared-blind n false = refl

  touched-blind : (t : Touch) (random : List ℕ) → touched (in_mode0 c) t random ≡ blind_effect (touched c t random)
  touched-blind nothing random = refl
  touched-blind (presents w value given) random = compared-blind _ (same value given)
  touched-blind (changes w d) random = refl
  touched-blind (reloads w d) random = refl
  touched-blind (challenges n) random = refl

  ruled-blind : (sw : ℕ) (e : Effect) → ruled sw (in_mode0 c) (blind_effect e) ≡ blind_effect (ruled sw c e)
  ruled-blind sw e = go (eqb sw 0x9000)
    where
      go : (b : Bool) → cond b (blind_effect e) (answers sw (in_mode0 c)) ≡ blind_effect (cond b e (answers sw c))
      go true = refl
      go false = refl

module _ (c : Card) where
  code-blind : (front : List ℕ) (k : Command) → after_code front (in_mode0 c) k ≡ in_mode0 (after_code front c k)
  unfolding credentials_after
  code-blind front k = refl

  module _ (i : Ins) (l : Located) (k : Command) (random : List ℕ) where
    abbrev sw_by : Rule → Card → ℕ
    sw_by r x = first (frame_sw k ∷ class_sw k ∷ first (checks_of r x l k) ∷ [])

    outcome-blind : outcome i (in_mode0 c) l k random ≡ blind_effect (outcome i c l k random)
    unfolding outcome effect_of checks kept
    outcome-blind = go (rule i) (blind i)
      where
        go : (r : Rule) → Blind r
            → ruled (sw_by r (in_mode0 c)) (kept_by r (in_mode0 c) k) (effect_by r (in_mode0 c) l k random) ≡ blind_effect (ruled (sw_by r c) (kept_by r c k) (effect_by r c l k random))
        go (of_files t d) q =
            ap₂ (λ (a : List ℕ) (x : Deed). ruled (first (frame_sw k ∷ class_sw k ∷ first a ∷ [])) (in_mode0 c) (did (in_mode0 c) x)) (q c k).0 (q c k).1
            ∙ ap (ruled (sw_by (of_files t d) c) (in_mode0 c)) (did-blind c (d c k))
            ∙ ruled-blind c (sw_by (of_files t d) c) (did c (d c k))
        go (of_contents f t d) q =
            let v = after_code (f k) c k in
            let s = sw_by (of_contents f t d) c in
            ap₂ (λ (a : List ℕ) (x : Deed). ruled (first (frame_sw k ∷ class_sw k ∷ first (first (f k) ∷ code_sw (logins c) (challenge c) k ∷ a) ∷ []))
            (after_code (f k) (in_mode0 c) k) (did (after_code (f k) (in_mode0 c) k) x)) (q c l k).0 (q c l k).1
            ∙ ap (λ (z : Card). ruled s z (did z (d c l k))) (code-blind (f k) k)
            ∙ ap (ruled s (in_mode0 v)) (did-blind v (d c l k))
            ∙ ruled-blind v s (did v (d c l k))
        go (of_credentials t d) q =
            ap (ruled (sw_by (of_credentials t d) c) (in_mode0 c)) (touched-blind c (d (logins c) (challenge c) k) random)
            ∙ ruled-blind c (sw_by (of_credentials t d) c) (touched c (d (logins c) (challenge c) k) random)

  found-blind : (area : List ℕ) (k : Command) → record_found (in_mode0 c) area k ≡ record_found c area k
  unfolding record_found target
  found-blind area k = refl

  pub at-once-blind : (area cmd random : List ℕ) → at_once (in_mode0 c) area cmd random ≡ blind_step (at_once c area cmd random)
  unfolding at_once settled
  at-once-blind area cmd random =
      let k = framed cmd in
      let i = listed k in
      let e : outcome i (in_mode0 c) (record_found (in_mode0 c) area k) k random ≡ blind_effect (outcome i c (record_found c area k) k random) =
      ap (λ (l : Located). outcome i (in_mode0 c) l k random) (found-blind area k) ∙ outcome-blind i (record_found c area k) k random in
      ap (λ (x : Effect). settled x area) e
