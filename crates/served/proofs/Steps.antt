-- A step by its checks: the first that fails gives the word and leaves all else, and where none fails the effect is what is left.
use Prim.Native.Nat.{ℕ, ◌≤◌}
use mathlib.Core.Bool.{Bool, true, false, not}
use mathlib.Core.List.{List, [], ◌∷◌, ◌++◌}
use mathlib.Core.Logic.{◌⊎◌, inl, inr, ⊎_elim}
use mathlib.Core.Path.{◌≡◌, refl, sym, ap, ◌∙◌, subst}
use native.Mathlib.Omega.{arith}
use lib.Dec.{eqb}
use lib.ListN.{length, take}
use borrow.Author.Tests.{eqb-true, eqb-false, ne_eqb}
use Rattle.files.specs.Words.{is_zero}
use Rattle.files.specs.Part.{part, splice}
use Rattle.files.proofs.Checks.{clash, third-fails}
use Rattle.rules.specs.declared.Card.{Card}
use Rattle.rules.specs.declared.Response.{Response}
use Rattle.rules.specs.declared.Ins.{Ins}
use Rattle.rules.specs.Words.{unless, or_else, first}
use Rattle.rules.specs.State.{marked, mode, wait_count, waiting, with_session, with_current}
use Rattle.rules.specs.Sound.{sound}
use Rattle.rules.specs.Frame.{Command, framed, class_sw}
use Rattle.rules.specs.Effect.{Effect, effect, answers, Stepped}
use Rattle.rules.specs.Record.{record_found}
use Rattle.rules.specs.Target.{target, file_sw}
use Rattle.rules.specs.List.{listed, find, rows, is_get_response}
use Rattle.rules.specs.Response.{wait_sw, fetches, delivered}
use Rattle.rules.specs.Step.{checks, effect_of, kept, sw_of, outcome, settled, at_once, step}
use Rattle.rules.proofs.Checks.{one_of}
use Rattle.rules.proofs.Good.{sound-good, responded, waiting-set}
use Rattle.rules.proofs.Equal.{filled-behind}
use Rattle.rules.proofs.Targets.{not-zero}
use Rattle.demands.specs.Soundness.{Bytes}
use Rattle.demands.specs.Framing.{Sent}
use Rattle.demands.specs.Held.{Named}
use Rattle.demands.proofs.Delivered.{at-once-response}
use Rattle.demands.proofs.Soundness.{at-once-few, step-sound}
use Rattle.demands.proofs.Named.{named-target, target-named}
use Rattle.served.specs.Left.{Ask, Says, Challenge, LeftIn, Left, Refused}
use Rattle.served.specs.Answers.{AsksFile, Answers, EitherAnswers}

-- checks in a row
pub first_on : (more : List ℕ) → first (0x9000 ∷ more) ≡ first more
unfolding or_else
first_on [] = refl
first_on (b ∷ more) = refl

-- the same of a word that is 9000
pub first_after : (sw : ℕ) (more : List ℕ) → sw ≡ 0x9000 → first (sw ∷ more) ≡ first more
first_after sw more e = ap (λ (x : ℕ). first (x ∷ more)) e ∙ first_on more

pub first_stops : (sw : ℕ) (more : List ℕ) → (sw ≡ 0x9000 → ⊥) → first (sw ∷ more) ≡ sw
unfolding or_else
first_stops sw [] o = refl
first_stops sw (b ∷ more) o = rw (ne_eqb sw 0x9000 o)

-- what is left of an effect, in both modes
pub record Settled (c : Card) (area : List ℕ) (e : Effect) (s : Stepped) : Type 0 where
  pub says : Says c e.sw (e.says ++ part e.from e.shows area) s
  pub credentials-are : s.card.credentials ≡ e.card.credentials
  pub rights-are : s.card.session.rights ≡ e.card.session.rights
  pub directory-is : s.card.directory ≡ e.card.directory
  pub folder-is : s.card.session.folder ≡ e.card.session.folder
  pub current-is : s.card.session.current ≡ e.card.session.current
  pub challenge-is : Challenge s.card e.says
  pub area-is : s.area ≡ splice area e.into e.stores

-- an effect that touches no credential, no file and no byte of the area; n and m become the current directory and file
pub quiet-in : (c : Card) (area : List ℕ) (sw n m : ℕ) (said : List ℕ) (from i : ℕ) (d : List ℕ) (s : Stepped)
    → Settled c area (effect sw (with_session c (record { rights = c.session.rights; current = m; challenge = c.session.challenge; len = c.session.len; folder = n })) said from i 0 []) s
    → said ++ part from i area ≡ d → LeftIn c area sw d n m said s
unfolding splice
quiet-in c area sw n m said from i d s q e = record {
  says = subst (λ z. Says c sw z s) e q.says;
  credentials-are = q.credentials-are;
  rights-are = q.rights-are;
  directory-is = q.directory-is;
  area-is = q.area-is;
  folder-is = q.folder-is;
  current-is = q.current-is;
  challenge-is = q.challenge-is;
}

-- the current directory stays
pub quiet : (c : Card) (area : List ℕ) (sw n : ℕ) (said : List ℕ) (from m : ℕ) (d : List ℕ) (s : Stepped) → Settled c area (effect sw (with_current c n) said from m 0 []) s
    → said ++ part from m area ≡ d → Left c area sw d n said s
quiet c area sw n said from m d s q e = quiet-in c area sw c.session.folder n said from m d s q e

-- a sound card of mode 0 has nothing waiting
none-wait : (c : Card) (area : List ℕ) → sound c area ≡ true → mode c ≡ 0 → waiting c ≡ []
none-wait c area h m =
    let r = responded c.response (sound-good c area h).response in
    let none : wait_count c.response ≡ 0 =
    one_of (marked (mode c)) (is_zero (wait_count c.response)) r.none (λ t. absurd (omega (arith, eqb-true (mode c) 1 t, m))) (λ t. eqb-true _ _ t) in
    ap (λ n. take n c.response.bytes) none

-- what a command leaves that is no GET RESPONSE of mode 1
module _ (c : Card) (area cmd random : List ℕ) (h : sound c area ≡ true) (l : length random ≡ 16) (b : Bytes cmd) (not-fetched : fetches c (framed cmd) ≡ false) where
  abbrev e : Effect
  e = outcome (listed (framed cmd)) c (record_found c area (framed cmd)) (framed cmd) random

  by_mode : step c area cmd random ≡ delivered (marked (mode c)) (at_once c area cmd random)
  unfolding step
  by_mode = rw not-fetched

  few : length (at_once c area cmd random).bytes ≤ 256
  few = at-once-few c area cmd random h l b

  pub settles : Settled c area (outcome (listed (framed cmd)) c (record_found c area (framed cmd)) (framed cmd) random) (step c area cmd random)
  unfolding at_once settled wait_sw
  settles = rw by_mode (go (marked (mode c)) refl)
    where
      go : (t : Bool) → marked (mode c) ≡ t → Settled c area e (delivered t (at_once c area cmd random))
      go true q = record {
        says = record {
          mode-stays = ap (λ (r : Response). r.mode) (at-once-response c area cmd random);
          at-once = λ m. absurd (omega (arith, m, eqb-true (mode c) 1 q));
          later = λ m. (refl, waiting-set (at_once c area cmd random).card (at_once c area cmd random).bytes few);
          no-data = λ m z. rw z;
          some-data = λ m z. rw (ne_eqb (length (at_once c area cmd random).bytes) 0 (λ y. omega (arith, y, z)));
        };
        credentials-are = refl;
        rights-are = refl;
        directory-is = refl;
        folder-is = refl;
        current-is = refl;
        challenge-is = record { length-is = refl; bytes-are = filled-behind e.says };
        area-is = refl;
      }
      go false q = record {
        says = record {
          mode-stays = ap (λ (r : Response). r.mode) (at-once-response c area cmd random);
          at-once = λ m. (refl, refl, ap (λ (r : Response). take (wait_count r) r.bytes) (at-once-response c area cmd random) ∙ none-wait c area h m);
          later = λ m. absurd (eqb-false (mode c) 1 q m);
          no-data = λ m z. absurd (eqb-false (mode c) 1 q m);
          some-data = λ m z. absurd (eqb-false (mode c) 1 q m);
        };
        credentials-are = refl;
        rights-are = refl;
        directory-is = refl;
        folder-is = refl;
        current-is = refl;
        challenge-is = record { length-is = refl; bytes-are = filled-behind e.says };
        area-is = refl;
      }

pub not-fetched : (c : Card) (k : Command) (i : Ins) → listed k ≡ i → is_get_response i ≡ false → fetches c k ≡ false
unfolding fetches
not-fetched c k i named other = rw named (third-fails (marked (mode c)) (not (is_zero k.case)) (is_get_response i) other)

-- the command's own checks
abbrev pub word : Ins → Card → List ℕ → Command → ℕ
word i c area k = first (checks i c (record_found c area k) k)

abbrev pub effect_in : Ins → Card → List ℕ → Command → List ℕ → Effect
effect_in i c area k random = effect_of i c (record_found c area k) k random

-- these checks are left
pub record Rest (w : ℕ) (l : List ℕ) : Type 0 where
  pub is : w ≡ first l

-- a check that says whether a condition holds; R is what a refusal is
pub checks-by : {R : ℕ → Type 0} {A next : Type 0} {w : ℕ} (t : Bool) (sw : ℕ) (more : List ℕ) → ((n : ℕ) → (n ≡ 0x9000 → ⊥) → w ≡ n → R n) → (t ≡ true → A) → (A → t ≡ true)
    → eqb sw 0x9000 ≡ false → Rest w (unless t sw ∷ more) → (A → Rest w more → next) → Ask R A sw next
checks-by true sw more r to back o e f = (λ n. absurd (n (to refl)), λ q. f q (record { is = e.is ∙ first_on more }))
checks-by false sw more r to back o e f = (λ n. r sw (eqb-false sw 0x9000 o) (e.is ∙ first_stops sw more (eqb-false sw 0x9000 o)), λ q. absurd (clash false (back q) refl))

-- a word w on a sound card: another than 9000 is a refusal, and 9000 has the effect e
pub record Checked (c : Card) (area : List ℕ) (w : ℕ) (e : Effect) (s : Stepped) : Type 0 where
  pub card-sound : sound c area ≡ true
  pub area-long : length area ≡ 4096
  pub after-sound : sound s.card s.area ≡ true
  pub refused : (sw : ℕ) → (sw ≡ 0x9000 → ⊥) → w ≡ sw → Settled c area (answers sw c) s
  pub served : w ≡ 0x9000 → Settled c area e s

module _ {c : Card} {area : List ℕ} {w : ℕ} {e : Effect} {s : Stepped} (r : Checked c area w e s) where
  pub refuses : (sw : ℕ) → (sw ≡ 0x9000 → ⊥) → w ≡ sw → Refused c area sw s
  unfolding part
  refuses sw o q = quiet c area sw c.session.current [] 0 0 [] s (r.refused sw o q) refl

  pub serves : w ≡ 0x9000 → Settled c area e s
  serves = r.served

  pub check : {A next : Type 0} (t : Bool) (sw : ℕ) (more : List ℕ) → (t ≡ true → A) → (A → t ≡ true) → eqb sw 0x9000 ≡ false → Rest w (unless t sw ∷ more)
      → (A → Rest w more → next) → Ask (λ v. Refused c area v s) A sw next
  check t sw more to back o q f = checks-by t sw more refuses to back o q f

  -- a file that the command names
  pub check-file : (random cmd : List ℕ) (sfi : ℕ) (next : ℕ → Type 0) (more : List ℕ) → Rest w (file_sw (target c sfi) ∷ more)
      → (Named c sfi (target c sfi) → Rest w more → next (target c sfi)) → AsksFile c area random cmd s sfi next
  check-file random cmd sfi next more q f = go (is_zero (target c sfi)) refl
    where
      go : (t : Bool) → is_zero (target c sfi) ≡ t → AsksFile c area random cmd s sfi next
      go true z = (
        λ none. refuses 0x6A82 (λ y. omega (arith, y))
            (q.is ∙ ap (λ (b : Bool). first (unless (not b) 0x6A82 ∷ more)) z ∙ first_stops 0x6A82 more (λ y. omega (arith, y))),
        λ n v. absurd (omega (arith, eqb-true (target c sfi) 0 z, named-target c (sound-good c area r.card-sound) sfi n v, v.there.first)),
      )
      go false z =
          let there = target-named c (sound-good c area r.card-sound) sfi (not-zero (target c sfi) z) in
          let found : file_sw (target c sfi) ≡ 0x9000 = rw z in (
            λ none. absurd (none (target c sfi) there),
            λ n v. subst next (named-target c (sound-good c area r.card-sound) sfi n v) (f there (record { is = q.is ∙ first_after (file_sw (target c sfi)) more found })),
          )

-- a command on a sound card, by its name
pub record Sends (c : Card) (area cmd random : List ℕ) (i : Ins) : Type 0 where
  pub card-sound : sound c area ≡ true
  pub area-long : length area ≡ 4096
  pub random-long : length random ≡ 16
  pub bytes : Bytes cmd
  pub good-frame : (framed cmd).case ≡ 0 → ⊥
  pub good-class : class_sw (framed cmd) ≡ 0x9000
  pub named : listed (framed cmd) ≡ i
  pub other : is_get_response i ≡ false

-- an effect on one card is one on another that has its mode
pub settled_on : (c x : Card) (area : List ℕ) (e : Effect) (s : Stepped) → x.response ≡ c.response → Settled c area e s → Settled x area e s
settled_on c x area e s m q =
    let same : x.response.mode ≡ c.response.mode = ap (λ (r : Response). r.mode) m in
    let said = q.says in
    record {
      says = record {
        mode-stays = said.mode-stays ∙ sym same;
        at-once = λ z. said.at-once (sym same ∙ z);
        later = λ z. said.later (sym same ∙ z);
        no-data = λ z. said.no-data (sym same ∙ z);
        some-data = λ z. said.some-data (sym same ∙ z);
      };
      credentials-are = q.credentials-are;
      rights-are = q.rights-are;
      directory-is = q.directory-is;
      folder-is = q.folder-is;
      current-is = q.current-is;
      challenge-is = q.challenge-is;
      area-is = q.area-is;
    }

module _ {c : Card} {area cmd random : List ℕ} {i : Ins} (r : Sends c area cmd random i) where
  all-checks : sw_of i c (record_found c area (framed cmd)) (framed cmd) ≡ word i c area (framed cmd)
  unfolding or_else
  all-checks = rw (ne_eqb (framed cmd).case 0 r.good-frame, r.good-class)

  refused-is : (sw : ℕ) → (sw ≡ 0x9000 → ⊥) → word i c area (framed cmd) ≡ sw
      → outcome (listed (framed cmd)) c (record_found c area (framed cmd)) (framed cmd) random ≡ answers sw (kept i c (framed cmd))
  unfolding outcome
  refused-is sw o e =
      let q : sw_of i c (record_found c area (framed cmd)) (framed cmd) ≡ sw = all-checks ∙ e in
      rw (r.named, q, ne_eqb sw 0x9000 o)

  served-is : word i c area (framed cmd) ≡ 0x9000
      → outcome (listed (framed cmd)) c (record_found c area (framed cmd)) (framed cmd) random ≡ effect_in i c area (framed cmd) random
  unfolding outcome
  served-is e =
      let q : sw_of i c (record_found c area (framed cmd)) (framed cmd) ≡ 0x9000 = all-checks ∙ e in
      rw (r.named, q)

  leaves : (x : Effect) → outcome (listed (framed cmd)) c (record_found c area (framed cmd)) (framed cmd) random ≡ x → Settled c area x (step c area cmd random)
  leaves x e = subst (λ (y : Effect). Settled c area y (step c area cmd random)) e (settles c area cmd random r.card-sound r.random-long r.bytes (not-fetched c (framed cmd) i r.named r.other))

  -- x is the card that a refusal leaves
  pub checked : (x : Card) (w : ℕ) (e : Effect) → kept i c (framed cmd) ≡ x → x.response ≡ c.response → sound x area ≡ true → word i c area (framed cmd) ≡ w
      → effect_in i c area (framed cmd) random ≡ e → Checked x area w e (step c area cmd random)
  checked x w e k m h p q = record {
    card-sound = h;
    area-long = r.area-long;
    after-sound = step-sound c area cmd random r.card-sound r.area-long r.random-long;
    refused = λ sw o z. settled_on c x area (answers sw x) (step c area cmd random) m (leaves (answers sw x) (refused-is sw o (p ∙ z) ∙ ap (answers sw) k));
    served = λ z. settled_on c x area e (step c area cmd random) m (leaves e (served-is (p ∙ z) ∙ q));
  }

-- a command that has no code
abbrev pub Runs : Card → List ℕ → List ℕ → List ℕ → Ins → Type 0
Runs c area cmd random i = Checked c area (word i c area (framed cmd)) (effect_in i c area (framed cmd) random) (step c area cmd random)

-- what holds of every run of a command holds of every command with its two bytes
pub sends : (cla ins : ℕ) (i : Ins) → (cla ≡ 0x00) ⊎ ((cla ≡ 0x80) ⊎ (cla ≡ 0x04)) → find rows cla ins ≡ i → is_get_response i ≡ false → (c : Card) (area cmd random : List ℕ)
    → sound c area ≡ true → length area ≡ 4096 → length random ≡ 16 → Bytes cmd → Sent cla ins cmd → Sends c area cmd random i
unfolding listed
sends cla ins i class named other c area cmd random h la l b sent = record {
  card-sound = h;
  area-long = la;
  random-long = l;
  bytes = b;
  good-frame = sent.good-frame;
  good-class = rw sent.class-is (⊎_elim (λ e. rw e) (⊎_elim (λ e. rw e) (λ e. rw e)) class);
  named = rw (sent.class-is, sent.instruction-is) named;
  other = other;
}

pub by_name : (cla ins : ℕ) (Paper : Card → List ℕ → List ℕ → List ℕ → Stepped → Type 0) (i : Ins) → (cla ≡ 0x00) ⊎ ((cla ≡ 0x80) ⊎ (cla ≡ 0x04)) → find rows cla ins ≡ i
    → is_get_response i ≡ false → ((c : Card) (k : Command) → kept i c k ≡ c)
    → ((c : Card) (area cmd random : List ℕ) → Runs c area cmd random i → Paper c area random cmd (step c area cmd random)) → Answers cla ins Paper
by_name cla ins Paper i class named other keeps f c area cmd random h la l b sent =
    f c area cmd random
    (checked (sends cla ins i class named other c area cmd random h la l b sent) c _ _ (keeps c (framed cmd)) refl h refl refl)

-- and of a command that may have a code, with its two classes
pub by-either : (ins : ℕ) (Paper : Card → List ℕ → List ℕ → List ℕ → Stepped → Type 0) (i : Ins) → find rows 0x00 ins ≡ i → find rows 0x04 ins ≡ i → is_get_response i ≡ false
    → ((c : Card) (area cmd random : List ℕ) → Sends c area cmd random i → Paper c area random cmd (step c area cmd random)) → EitherAnswers ins Paper
by-either ins Paper i plain coded other f = (
  λ c area cmd random h la l b sent. f c area cmd random (sends 0x00 ins i (inl refl) plain other c area cmd random h la l b sent),
  λ c area cmd random h la l b sent. f c area cmd random (sends 0x04 ins i (inr (inr refl)) coded other c area cmd random h la l b sent),
)
