-- Bytes that wait are shown by the command that made them wait.
use Prim.Native.Nat.{ℕ, ◌≤◌, min}
use mathlib.Core.Bool.{true}
use mathlib.Core.List.{List, [], ◌++◌, append-nil}
use mathlib.Core.Logic.{◌⊎◌, inl, inr, ⊎_elim, by_cases}
use mathlib.Core.Path.{◌≡◌, refl, sym, ap, ◌∙◌}
use native.Mathlib.Decide.{dec_le}
use native.Mathlib.Omega.{arith}
use lib.ListN.{length, take, drop, length-take, length-drop, drop_of_length-le}
use lib.Seq.{take_all, take-take}
use Rattle.files.specs.Words.{is_zero}
use Rattle.files.specs.Part.{part}
use Rattle.files.specs.Types.{size}
use Rattle.files.specs.Rights.{asks_code}
use Rattle.files.specs.Directory.{start, extent}
use Rattle.files.proofs.Checks.{split}
use Rattle.files.proofs.Parts.{part-part}
use Rattle.files.proofs.Extents.{lies}
use Rattle.files.proofs.Kept.{lies-in-area}
use Rattle.rules.specs.declared.Credential.{Credential}
use Rattle.rules.specs.declared.Card.{Card}
use Rattle.rules.specs.declared.Ins.{Ins}
use Rattle.rules.specs.declared.Response.{Response}
use Rattle.rules.specs.Words.{same}
use Rattle.rules.specs.State.{logins, mode, response_size, wait_count, waiting, with_credentials, with_waiting}
use Rattle.rules.specs.Frame.{Command, framed}
use Rattle.rules.specs.Effect.{Deed, turns, enters, shows, stores, appends, makes, founds, Touch, nothing, presents, changes, reloads, challenges, Effect, answers, Stepped}
use Rattle.rules.specs.Target.{file_of, opens}
use Rattle.rules.specs.Record.{record_found}
use Rattle.rules.specs.Pins.{compared_at}
use Rattle.rules.specs.List.{listed}
use Rattle.demands.specs.Role.{role}
use Rattle.rules.specs.Response.{fetch_count}
use Rattle.rules.specs.Step.{did, touched, outcome, settled, at_once, step}
use Rattle.rules.proofs.Good.{sound-good, sound-parted, filled-back, said-short, waiting-set, waits_back}
use Rattle.rules.proofs.Checks.{either}
use Rattle.rules.proofs.Targets.{place-named}
use Rattle.demands.specs.Ledger.{Event, sent, resets, right as rightly, Ledger, servable, ledger}
use Rattle.demands.specs.Run.{World, world, SoundWorld, called}
use Rattle.demands.specs.Response.{PutByRead, PutByChallenge, LeftOf, PutBy, WaitingByRight}
use Rattle.demands.specs.Held.{IsFile}
use Rattle.demands.proofs.Rows.{code_in, Fair, FairTouch, by-rule}
use Rattle.demands.proofs.Delivered.{at-once-response, fetched-by, step_by}
use Rattle.demands.proofs.Soundness.{waiting_few}
use Rattle.demands.proofs.Live.{after-live, command-is, reset-is}
use Rattle.demands.proofs.Credentials.{Agree, follows}
use Rattle.demands.proofs.History.{right-told, code-told}
use Rattle.demands.proofs.Addressed.{reads_from, reads-from}
use Rattle.demands.proofs.View.{bytes-are}

nothing-shown : (area : List ℕ) → part 0 0 area ≡ []
unfolding part
nothing-shown area = refl

-- all of it gone
all-gone : (d : List ℕ) → drop (length d) d ≡ []
all-gone d = let e : length d ≤ length d = omega arith in drop_of_length-le d e

cut_twice : (m n : ℕ) (l : List ℕ) → take m (take n l) ≡ take (min m n) l
cut_twice m n l =
    by_cases (dec_le m n) (λ h. let e : min m n ≡ m = omega arith in take-take m n l h ∙ ap (λ k. take k l) (sym e))
    (λ h. let e : min m n ≡ n = omega arith in take_all m (take n l) (omega (arith, length-take n l)) ∙ ap (λ k. take k l) (sym e))

part_cut : (m from n : ℕ) (xs : List ℕ) → take m (part from n xs) ≡ part from (min m n) xs
unfolding part
part_cut m from n xs = cut_twice m n (drop from xs)

abbrev data_of : Effect → List ℕ → List ℕ
data_of e area = e.says ++ part e.from e.shows area

-- the data of an effect are a part of a file that is read by right
record ReadData (i : Ins) (c : Card) (area : List ℕ) (k : Command) (e : Effect) : Type 0 where
  place : ℕ
  from : ℕ
  count : ℕ
  here : IsFile c place
  named : reads_from (role i) c k ≡ place
  held : opens c (file_of c place).read ≡ true
  by_code : asks_code (file_of c place).read ≡ true → code_in i c k ≡ rightly
  data-are : data_of e area ≡ part from count (extent c.directory place area)

-- or none, or what it says of itself
abbrev Source : Ins → Card → List ℕ → Command → Effect → Type 0
Source i c area k e = (data_of e area ≡ []) ⊎ (ReadData i c area k e ⊎ ((data_of e area ≡ e.says) × (length e.says ≤ response_size)))

module _ (c : Card) (area : List ℕ) (live : SoundWorld (world c area)) (i : Ins) (k : Command) where
  none : (sw : ℕ) (x : Card) → Source i c area k (answers sw x)
  unfolding part
  none sw x = inl refl

  deed-source : (xs : List Credential) (d : Deed) → Fair i c area k d → Source i c area k (did (with_credentials c xs) d)
  unfolding extent
  deed-source xs (turns place) q = none _ _
  deed-source xs (enters n) q = none _ _
  deed-source xs (shows place at n) q =
      let g = sound-good c area live.sound-card in
      let named = place-named c.directory g.directory place q.entitled.some q.entitled.low in
      let fits = (lies c.directory place (length area) (lies-in-area c.directory area (sound-parted c area live.sound-card) place named)).fits in
      inr (inl (record {
        place = place;
        from = at;
        count = n;
        here = record { first = q.entitled.some; last = q.entitled.low };
        named = q.entitled.named-is;
        held = q.entitled.held;
        by_code = q.entitled.by_code;
        data-are = sym (part-part area (start c.directory place) (size (file_of c place)) at n fits q.fits);
      }))
  deed-source xs (stores place at bytes) q = inl (nothing-shown area)
  deed-source xs (appends place bytes) q = inl (nothing-shown area)
  deed-source xs (makes f) q = inl (nothing-shown area)
  deed-source xs (founds x) q = none _ _

  touch-source : (t : Touch) (random : List ℕ) → FairTouch (logins c) t → Source i c area k (touched c t random)
  unfolding compared_at
  touch-source nothing random q = none _ _
  touch-source (presents w value given) random q = split (Source i c area k) (same value given) (λ e. none _ _) (λ e. none _ _)
  touch-source (changes w d) random q = none _ _
  touch-source (reloads w d) random q = none _ _
  touch-source (challenges n) random q =
      inr (inr (ap (λ z. take n random ++ z) (nothing-shown area) ∙ append-nil (take n random), omega (arith, length-take n random, said-short n (either (is_zero n) q))))

-- the command at once: where its data come from
module _ (c : Card) (area : List ℕ) (live : SoundWorld (world c area)) (l : Ledger) (agree : Agree c l) (cmd random : List ℕ) where
  abbrev v : World
  v = world (with_waiting (at_once c area cmd random).card (at_once c area cmd random).bytes) (at_once c area cmd random).area

  source : Source (listed (framed cmd)) c area (framed cmd) (outcome (listed (framed cmd)) c (record_found c area (framed cmd)) (framed cmd) random)
  source =
      let i = listed (framed cmd) in
      by-rule (Source i c area (framed cmd)) i c area live.sound-card (framed cmd) random (λ xs v. deed-source c area live i (framed cmd) xs)
      (λ t q. touch-source c area live i (framed cmd) t random q) (λ xs v sw. none c area live i (framed cmd) sw (with_credentials c xs))

  kept-source : LeftOf (world c area) v ⊎ (PutByRead (world c area) v l cmd ⊎ PutByChallenge v)
  unfolding at_once settled part
  kept-source =
      let e = outcome (listed (framed cmd)) c (record_found c area (framed cmd)) (framed cmd) random in
      let waits = waits_back (mode e.card) (take response_size (data_of e area)) in
      ⊎_elim
      (λ (n : data_of e area ≡ []). inl (record {
        gone = length (waiting c);
        waiting-are = waits ∙ ap (take response_size) n ∙ sym (all-gone (waiting c));
      }))
      (λ z. inr (⊎_elim
      (λ (r : ReadData (listed (framed cmd)) c area (framed cmd) e). inl (record {
        n = r.place;
        from = r.from;
        count = min response_size r.count;
        read = record {
          addressed = reads-from c (sound-good c area live.sound-card) (framed cmd) r.place r.here.first r.named;
          by_right = right-told c area live l agree r.place r.here (λ x. x.read) r.held;
          by_code = code-told c area live l agree cmd r.place r.here (λ x. x.read) r.by_code;
        };
        waiting-are =
            waits ∙ ap (take response_size) r.data-are ∙ part_cut response_size r.from r.count (extent c.directory r.place area)
            ∙ ap (λ (b : List ℕ). take (min response_size r.count) (drop r.from b)) (sym (bytes-are c area r.place));
      }))
      (λ (q : (data_of e area ≡ e.says) × (length e.says ≤ response_size)).
      inr (waits ∙ ap (take response_size) q.0 ∙ take_all response_size e.says q.1 ∙ sym (filled-back e.says))) z)) source

-- the step and the call
module _ (c : Card) (area : List ℕ) (live : SoundWorld (world c area)) (l : Ledger) (agree : Agree c l) where
  abbrev Put : List ℕ → World → Type 0
  Put cmd x = LeftOf (world c area) x ⊎ (PutByRead (world c area) x l cmd ⊎ PutByChallenge x)

  -- nothing of it gone
  same_left : (x : World) → x.card.response ≡ c.response → LeftOf (world c area) x
  same_left x e = record { gone = 0; waiting-are = ap (λ (r : Response). take (wait_count r) r.bytes) e }

  step-put : (cmd random : List ℕ) → Put cmd (world (step c area cmd random).card (step c area cmd random).area)
  step-put cmd random =
      let few = waiting_few c (sound-good c area live.sound-card) in
      step_by (λ (s : Stepped). Put cmd (world s.card s.area)) c area cmd random
      (λ f. fetched-by (λ (s : Stepped). Put cmd (world s.card s.area)) c area (framed cmd)
      (λ q. let t = fetch_count (length (waiting c)) (framed cmd) in
      inl (record { gone = t; waiting-are = waiting-set c (drop t (waiting c)) (omega (arith, length-drop t (waiting c), few)) }))
      (λ sw. inl (same_left _ refl)))
      (λ m f. kept-source c area live l agree cmd random)
      (λ m f. inl (same_left _ (at-once-response c area cmd random)))

  pub call-put : (e : Event) → PutBy (world c area) (called (world c area) e) l e
  call-put (sent cmd random reply) =
      rw (command-is c area live cmd random reply)
      (split (Put cmd) (servable random reply) (λ q. step-put cmd random) (λ q. inl (same_left _ refl)))
  call-put resets =
      rw (reset-is c area live) (record { gone = length (waiting c); waiting-are = waits_back (mode c) [] ∙ sym (all-gone (waiting c)) })

pub waiting-by-right : WaitingByRight
waiting-by-right o area es h e = call-put _ _ (after-live o area es h) (ledger o es) (follows o area es h) e
