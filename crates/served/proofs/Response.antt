-- GET RESPONSE.
use Prim.Native.Nat.{ℕ, ◌+◌, ◌-◌, ◌%◌, ◌≤◌, min}
use mathlib.Core.Bool.{Bool, true, false, not}
use mathlib.Core.List.{List, [], ◌∷◌}
use mathlib.Core.Logic.{◌⊎◌, inl, inr, ⊎_elim, by_cases}
use mathlib.Core.Path.{◌≡◌, refl, sym, ◌∙◌, subst}
use native.Mathlib.Decide.{ℕ_discrete}
use native.Mathlib.Omega.{arith}
use lib.Dec.{eqb, leb}
use lib.ListN.{length, drop, length-drop}
use borrow.Author.Tests.{eqb-true, eqb-false, eq-eqb, ne_eqb, leb-true, le-leb, not-true}
use Rattle.files.specs.Words.{is_zero}
use Rattle.files.proofs.Checks.{clash, both}
use Rattle.rules.specs.declared.Card.{Card}
use Rattle.rules.specs.Words.{unless, all_of}
use Rattle.rules.specs.State.{mode, waiting}
use Rattle.rules.specs.Sound.{sound}
use Rattle.rules.specs.Frame.{Command, framed, p}
use Rattle.rules.specs.Response.{wait_sw, fetch_count, get_response_checks, gives, fetch_sw, fetched}
use Rattle.rules.specs.Step.{step}
use Rattle.rules.specs.Effect.{Stepped}
use Rattle.rules.proofs.Good.{sound-good, waiting-set}
use Rattle.rules.proofs.Targets.{not-zero}
use Rattle.demands.specs.Soundness.{Bytes}
use Rattle.demands.specs.Framing.{Sent}
use Rattle.demands.proofs.Soundness.{waiting_few, le_low}
use Rattle.demands.proofs.Waiting.{step-fetched}
use Rattle.served.specs.Left.{Ask, Refused, Kept, Fetched}
use Rattle.served.specs.Answers.{OneOf, GetResponseAnswers}
use Rattle.served.specs.Answers as answers
use Rattle.served.proofs.Frames.{le-some}
use Rattle.served.proofs.Steps.{first_on, first_stops, Rest}
use Rattle.served.proofs.Unknown.{unknown-answers}

-- none of these numbers
none_of : (n : ℕ) (l : List ℕ) → all_of (λ x. not (eqb n x)) l ≡ true → OneOf n l → ⊥
unfolding all_of
none_of n [] h = λ q. q
none_of n (x ∷ l) h =
    let e = both (not (eqb n x)) (all_of (λ y. not (eqb n y)) l) h in
    ⊎_elim (λ z. eqb-false n x (not-true (eqb n x) e.0) z) (none_of n l e.1)

not_listed : (n : ℕ) → n ≡ 0xC0 → OneOf n (0xA4 ∷ 0xB0 ∷ 0xD6 ∷ 0xB2 ∷ 0xDC ∷ 0xE2 ∷ 0x20 ∷ 0x82 ∷ 0x24 ∷ 0x2C ∷ 0x84 ∷ []) → ⊥
unfolding all_of
not_listed n e q =
    none_of 0xC0 (0xA4 ∷ 0xB0 ∷ 0xD6 ∷ 0xB2 ∷ 0xDC ∷ 0xE2 ∷ 0x20 ∷ 0x82 ∷ 0x24 ∷ 0x2C ∷ 0x84 ∷ []) refl
    (subst (λ m. OneOf m (0xA4 ∷ 0xB0 ∷ 0xD6 ∷ 0xB2 ∷ 0xDC ∷ 0xE2 ∷ 0x20 ∷ 0x82 ∷ 0x24 ∷ 0x2C ∷ 0x84 ∷ [])) e q)

-- in mode 1: its checks, a refusal that keeps all, and the bytes that it gives
module _ (c : Card) (area : List ℕ) (k : Command) (few : length (waiting c) ≤ 256) (m : mode c ≡ 1) where
  abbrev n : ℕ
  n = length (waiting c)

  refuses : (sw : ℕ) → (sw ≡ 0x9000 → ⊥) → fetch_sw c k ≡ sw → Kept c area sw (fetched c area k)
  unfolding fetched
  refuses sw o e = rw (ne_eqb (fetch_sw c k) 0x9000 (λ q. o (sym e ∙ q)), e) (record { sw-is = refl; bytes-are = refl; card-is = refl; area-is = refl })

  check : {A next : Type 0} (t : Bool) (sw : ℕ) (more : List ℕ) → (t ≡ true → A) → (A → t ≡ true) → eqb sw 0x9000 ≡ false → Rest (fetch_sw c k) (unless t sw ∷ more)
      → (A → Rest (fetch_sw c k) more → next) → Ask (λ w. Kept c area w (fetched c area k)) A sw next
  check true sw more to back o e f = (λ no. absurd (no (to refl)), λ q. f q (record { is = e.is ∙ first_on more }))
  check false sw more to back o e f = (λ no. refuses sw (eqb-false sw 0x9000 o) (e.is ∙ first_stops sw more (eqb-false sw 0x9000 o)), λ q. absurd (clash false (back q) refl))

  given : (t : ℕ) → 1 ≤ t → t ≤ length (waiting c) → Fetched c area t (gives c area t)
  unfolding wait_sw
  given t some low =
      let rest : length (drop t (waiting c)) ≡ length (waiting c) - t = length-drop t (waiting c) in
      record {
        bytes-are = refl;
        waiting-are = waiting-set c (drop t (waiting c)) (omega (arith, rest, few));
        some-remain = λ l.
            let low_byte : 0x6100 + length (drop t (waiting c)) % 256 ≡ 0x6100 + (length (waiting c) - t) = omega (arith, rest, few, some) in
            rw (ne_eqb (length (drop t (waiting c))) 0 (λ e. omega (arith, rest, e, l))) low_byte;
        none-remain = λ e. rw (eq-eqb (length (drop t (waiting c))) 0 (omega (arith, rest, e)));
        mode-stays = refl;
        credentials-are = refl;
        directory-is = refl;
        session-is = refl;
        area-is = refl;
      }

  -- as many as are asked for
  count-is : 1 ≤ k.le → k.le ≤ 256 → (k.le ≡ 256) ⊎ (k.le ≤ length (waiting c)) → fetch_count (length (waiting c)) k ≡ min k.le (length (waiting c))
  count-is some low q =
      by_cases (ℕ_discrete k.le 256) (λ e. let z : min k.le n ≡ n = omega (arith, e, few) in rw (eq-eqb k.le 256 e) (sym z))
      (λ o. let fits : k.le ≤ n = ⊎_elim (λ e. absurd (o e)) (λ l. l) q in
      let z : min k.le n ≡ k.le = omega (arith, fits) in
      rw (ne_eqb k.le 256 o) (sym z))

  serves : 1 ≤ length (waiting c) → 1 ≤ k.le → k.le ≤ 256 → (k.le ≡ 256) ⊎ (k.le ≤ length (waiting c)) → fetch_sw c k ≡ 0x9000
      → Fetched c area (min k.le (length (waiting c))) (fetched c area k)
  unfolding fetched
  serves wait some low q e =
      rw (eq-eqb (fetch_sw c k) 0x9000 e, count-is some low q) (given (min k.le n) (omega (arith, some, wait)) (omega arith))

  over : (k.le ≡ 256) ⊎ (k.le ≤ length (waiting c)) → leb (fetch_count (length (waiting c)) k) (length (waiting c)) ≡ true
  over q =
      by_cases (ℕ_discrete k.le 256) (λ e. rw (eq-eqb k.le 256 e) (le-leb n n (omega arith)))
      (λ o. rw (ne_eqb k.le 256 o) (le-leb k.le n (⊎_elim (λ e. absurd (o e)) (λ l. l) q)))

  not-over : leb (fetch_count (length (waiting c)) k) (length (waiting c)) ≡ true → (k.le ≡ 256) ⊎ (k.le ≤ length (waiting c))
  not-over t = by_cases (ℕ_discrete k.le 256) inl (λ o. inr (leb-true k.le n (rw (ne_eqb k.le 256 o) at t)))

  -- 6C and the count, which is under 256 where Le is over it
  last : 1 ≤ length (waiting c) → 1 ≤ k.le → k.le ≤ 256 → Rest (fetch_sw c k) (unless (leb (fetch_count (length (waiting c)) k) (length (waiting c))) (0x6C00 + length (waiting c) % 256) ∷ [])
      → Ask (λ w. Kept c area w (fetched c area k)) ((k.le ≡ 256) ⊎ (k.le ≤ length (waiting c))) (0x6C00 + length (waiting c))
      (Fetched c area (min k.le (length (waiting c))) (fetched c area k))
  last wait some low e =
      let a = check (leb (fetch_count n k) n) (0x6C00 + n % 256) [] not-over over (ne_eqb (0x6C00 + n % 256) 0x9000 (λ z. omega (arith, z))) e (λ q z. serves wait some low q z.is) in
      (λ o. subst (λ w. Kept c area w (fetched c area k)) (word o) (a.0 o), a.1)
    where
      word : ((k.le ≡ 256) ⊎ (k.le ≤ length (waiting c)) → ⊥) → 0x6C00 + length (waiting c) % 256 ≡ 0x6C00 + length (waiting c)
      word o =
          let one : k.le ≡ 256 → ⊥ = λ z. o (inl z) in
          let two : k.le ≤ length (waiting c) → ⊥ = λ z. o (inr z) in
          omega (arith, one, two, low)

module _ (c : Card) (area cmd random : List ℕ) (h : sound c area ≡ true) (la : length area ≡ 4096) (l : length random ≡ 16) (b : Bytes cmd) (sent : Sent 0x00 0xC0 cmd) where
  abbrev g : Command
  g = framed cmd

  in-mode-0 : (mode c ≡ 1 → ⊥) → Refused c area 0x6D00 (step c area cmd random)
  in-mode-0 o =
      let some : 1 ≤ (framed cmd).case = (let z = sent.good-frame in omega (arith, z)) in
      ((unknown-answers c area cmd random h la l b).1 some).1 (inl sent.class-is)
      (record {
        of-class-00 = λ e q. not_listed g.ins sent.instruction-is q;
        get-response = λ e i m. o m;
        of-class-80 = λ e i. omega (arith, e, sent.class-is);
        of-class-04 = λ e i. omega (arith, e, sent.class-is);
      })

  -- the rule's list and the statement's chain
  abbrev Chain : Stepped → Type 0
  Chain s =
      answers.Keeping c area random cmd s (answers.p c area random cmd s ≡ 0x0000) 0x6A86
      (answers.Keeping c area random cmd s ((framed cmd).case ≡ 2) 0x6700
      (answers.Keeping c area random cmd s (1 ≤ length (waiting c)) 0x6985
      (answers.Keeping c area random cmd s (((framed cmd).le ≡ 256) ⊎ ((framed cmd).le ≤ length (waiting c))) (0x6C00 + length (waiting c))
      (Fetched c area (min (framed cmd).le (length (waiting c))) s))))

  in-mode-1 : mode c ≡ 1 → Chain (step c area cmd random)
  unfolding get_response_checks
  in-mode-1 m =
      let few = waiting_few c (sound-good c area h) in
      let low = le_low cmd b in
      rw (step-fetched c area cmd random m sent)
      (check c area g few m (eqb (p g) 0x0000) 0x6A86 _ (eqb-true _ _) (eq-eqb _ _) refl (record { is = refl }) (λ z e1.
      check c area g few m (eqb g.case 2) 0x6700 _ (eqb-true _ _) (eq-eqb _ _) refl e1 (λ two e2.
      check c area g few m (not (is_zero (length (waiting c)))) 0x6985 _ (λ t. not-zero (length (waiting c)) (not-true (is_zero (length (waiting c))) t))
      (λ some. rw (ne_eqb (length (waiting c)) 0 (λ y. omega (arith, y, some)))) refl e2 (λ wait e3.
      last c area g few m wait (le-some cmd two) low e3))))

pub get-response-answers : GetResponseAnswers
get-response-answers c area cmd random h la l b sent = (in-mode-0 c area cmd random h la l b sent, in-mode-1 c area cmd random h la l b sent)
