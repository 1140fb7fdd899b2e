-- A card in use with cuts: it stays sound, and the ledger agrees with it.
use Prim.Native.Nat.{ℕ, zero, suc}
use mathlib.Core.Bool.{Bool, true, false, cond, ◌&&◌}
use mathlib.Core.List.{List, [], ◌∷◌}
use mathlib.Core.Path.{◌≡◌, refl, sym, ap, subst, ◌∙◌}
use lib.Dec.{eqb, leb}
use lib.ListN.{length, take}
use Rattle.rules.specs.declared.Card.{Card}
use Rattle.rules.specs.declared.Session.{Session}
use Rattle.rules.specs.declared.Response.{Response}
use Rattle.rules.specs.declared.Answer.{Answer}
use Rattle.rules.specs.Step.{step}
use Rattle.rules.specs.Calls.{Order, Done, reply_size, random_size, refused, served, reset, issue}
use Rattle.rules.proofs.Good.{sound-good}
use Rattle.demands.specs.Ledger.{resets, Ledger, servable, next}
use Rattle.demands.specs.Ledger as calls
use Rattle.demands.specs.Run.{World, world, SoundWorld, Served}
use Rattle.demands.specs.Run as calls-run
use Rattle.demands.proofs.Live.{call-live, after-live, issue-fresh, command-served, reset-is}
use Rattle.demands.proofs.Credentials.{Agree, call-agrees, fresh-agrees}
use Rattle.power.specs.Store.{Memory, memory, Store, puts}
use Rattle.power.specs.Plan.{stores_of}
use Rattle.power.specs.Recovery.{tidied, lost}
use Rattle.power.proofs.Tidy.{tidied-sound}
use Rattle.cuts.specs.Ledger.{Happening, call, cut, cut_entered, entered, tell, ledger}
use Rattle.cuts.specs.Cut.{cut_at}
use Rattle.cuts.specs.Run.{stores_of_call, left_by, restarted, happened, run, after}
use Rattle.cuts.proofs.Cut.{cut-recovers}
use Rattle.cuts.proofs.Agrees.{cut-agrees}

module _ (c : Card) (area : List ℕ) (live : SoundWorld (world c area)) (cmd random reply : List ℕ) where
  -- a call is served where its own arguments are good
  stores-are : stores_of_call (world c area) cmd random reply ≡ cond (servable random reply) (stores_of c area cmd) []
  unfolding stores_of_call
  stores-are =
      ap (λ (x : Done). cond (eqb x.answer.outcome 0) (stores_of c area cmd) []) (command-served c area live cmd random reply)
      ∙ go (leb reply_size (length reply)) (eqb (length random) random_size)
    where
      go : (a b : Bool)
          → cond (eqb (cond a (cond b (served (step c area cmd random) reply) (refused 3 c area reply)) (refused 1 c area reply)).answer.outcome 0) (stores_of c area cmd) []
          ≡ cond (a && b) (stores_of c area cmd) []
      go true true = refl
      go true false = refl
      go false b = refl

  -- so a cut is one of the command, or of nothing at all
  abbrev pub reached : ℕ → ℕ
  reached n = cond (servable random reply) n 0

  left_is : (n : ℕ) → left_by (world c area) cmd random reply n ≡ cut_at c area cmd (reached n)
  left_is n = ap (λ (l : List Store). puts (take n l) (memory c area)) stores-are ∙ go (servable random reply) n
    where
      go : (b : Bool) (n : ℕ) → puts (take n (cond b (stores_of c area cmd) [])) (memory c area) ≡ puts (take (cond b n 0) (stores_of c area cmd)) (memory c area)
      go true n = refl
      go false zero = refl
      go false (suc n) = refl

  -- and what recovery and reset leave is what recovery gives
  pub cut-is : (n : ℕ) (s : Session) (r : Response)
      → happened (world c area) (cut cmd random reply n s r) ≡ world (tidied (cut_at c area cmd (reached n)).card) (cut_at c area cmd (reached n)).area
  cut-is n s r =
      let m = cut_at c area cmd (reached n) in
      let k = cut-recovers c area cmd (reached n) live.sound-card live.size_is in
      ap (λ (m : Memory). restarted (lost s r m.card) m.area) (left_is n)
      ∙ ap (λ (a : Answer). world (reset a.card m.area).card m.area) (k.served s r)
      ∙ ap (λ (a : Answer). world a.card m.area) k.reset-same

  pub cut-live : (n : ℕ) → SoundWorld (world (tidied (cut_at c area cmd n).card) (cut_at c area cmd n).area)
  cut-live n =
      let k = cut-recovers c area cmd n live.sound-card live.size_is in
      record { sound-card = k.sound-card; size_is = k.size_is }

  reached-agrees : (l : Ledger) → Agree c l → (n : ℕ)
      → Agree (tidied (cut_at c area cmd (reached n)).card) (cond (servable random reply) (cut_entered l cmd n) (next l resets))
  reached-agrees l a n = go (servable random reply)
    where
      go : (b : Bool) → Agree (tidied (cut_at c area cmd (cond b n 0)).card) (cond b (cut_entered l cmd n) (next l resets))
      go true = cut-agrees c area live l a cmd n
      go false =
          let g = sound-good c area live.sound-card in
          subst (λ (x : Card). Agree x (next l resets)) (reset-is c area live ∙ sym (tidied-sound c g.journal g.directory)) (call-agrees (world c area) l resets live a)

pub happened-live : (w : World) (x : Happening) → SoundWorld w → SoundWorld (happened w x)
happened-live w (call e) v = call-live w e v
happened-live w (cut cmd random reply n s r) v = rw (cut-is w.card w.area v cmd random reply n s r) (cut-live w.card w.area v cmd random reply (reached w.card w.area v cmd random reply n))

pub happened-agrees : (w : World) (l : Ledger) (x : Happening) → SoundWorld w → Agree w.card l → Agree (happened w x).card (entered l x)
happened-agrees w l (call e) v h = call-agrees w l e v h
happened-agrees w l (cut cmd random reply n s r) v h =
    subst (λ (u : World). Agree u.card (entered l (cut cmd random reply n s r))) (sym (cut-is w.card w.area v cmd random reply n s r))
    (reached-agrees w.card w.area v cmd random reply l h n)

run-live : (w : World) (xs : List Happening) → SoundWorld w → SoundWorld (run w xs)
unfolding run
run-live w [] v = v
run-live w (x ∷ xs) v = run-live (happened w x) xs (happened-live w x v)

run-agrees : (w : World) (l : Ledger) (xs : List Happening) → SoundWorld w → Agree w.card l → Agree (run w xs).card (tell l xs)
unfolding run tell
run-agrees w l [] v h = h
run-agrees w l (x ∷ xs) v h = run-agrees (happened w x) (entered l x) xs (happened-live w x v) (happened-agrees w l x v h)

-- what a served issue leaves
issued-live : (o : Order) (area : List ℕ) → Served o area → SoundWorld (world (issue o area).answer.card (issue o area).area)
unfolding calls-run.after calls-run.run
issued-live o area h = after-live o area [] h

pub live-after : (o : Order) (area : List ℕ) (xs : List Happening) → Served o area → SoundWorld (after o area xs)
unfolding after
live-after o area xs h = run-live _ xs (issued-live o area h)

pub agree_after : (o : Order) (area : List ℕ) (xs : List Happening) → Served o area → Agree (after o area xs).card (ledger o xs)
unfolding after ledger calls.ledger calls.tell
agree_after o area xs h = run-agrees _ _ xs (issued-live o area h) (rw (issue-fresh o area h) (fresh-agrees o))
