-- What is done with a line, and printed for it.
-- Assumes nothing.
use Prim.Native.Nat.{ℕ, suc, ◌+◌, ◌-◌, ◌≤◌, ◌<◌}
use mathlib.Core.Bool.{Bool, true, false, cond, ◌&&◌}
use mathlib.Core.List.{List, [], ◌++◌, append_assoc}
use mathlib.Core.Path.{◌≡◌, refl, sym, ap, ap₂, subst, ◌∙◌}
use native.Mathlib.Omega.{arith}
use lib.Dec.{eqb, leb}
use lib.ListN.{length, take, drop, length-append}
use lib.Seq.{take_at, drop_at}
use borrow.Author.Tests.{eqb-true, eq-eqb, ne_eqb, leb-true, le-leb}
use Rattle.files.specs.Part.{over, zeros}
use Rattle.files.specs.Create.{area_size}
use Rattle.files.proofs.Checks.{both, split}
use Rattle.rules.specs.declared.Card.{Card}
use Rattle.rules.specs.declared.Answer.{Answer}
use Rattle.rules.specs.Words.{sw_bytes}
use Rattle.rules.specs.Step.{step}
use Rattle.rules.specs.Sound.{sound}
use Rattle.rules.specs.Calls.{Order, Issued, good_order, issue, Done, served, refused, reply_size, command, reset}
use Rattle.lines.specs.declared.Bench.{Bench}
use Rattle.lines.specs.Grammar.{is_issue, order_in, is_command, command_in, random_in, is_reset}
use Rattle.lines.specs.Text.{printed}
use Rattle.lines.specs.Script.{bench, Told, told, bad, after_issue, after_command, after_reset, on_card, handled, answered, text_of, Written, written, out_size, written-line, answer}
use Rattle.lines.specs.Says.{joined, Line, issues, commands, resets, IsLine, order_for, ReadAs, reported, leaves, Unchanged, Issues, Commands, Resets, Does, LinesAnswered, NotAnswered, NoCardFirst}
use Rattle.lines.proofs.Telling.{bad-long, issue-answered, early-answered, command-answered, reset-answered}
use Rattle.lines.proofs.Spelt.{spelled-read, read-spelled}

-- the line printed
printed-as : (number outcome : ℕ) (bytes sw : List ℕ) → printed number outcome bytes sw ≡ reported number outcome bytes sw
unfolding printed reported joined
printed-as number outcome bytes sw = simp append_assoc

-- data and SW of a served command
answer-taken : (bytes sw reply : List ℕ) → length sw ≡ 2 → take (length bytes + 2) (over (bytes ++ sw) reply) ≡ bytes ++ sw
unfolding over
answer-taken bytes sw reply h = take_at (bytes ++ sw) (drop (length (bytes ++ sw)) reply) (length bytes + 2) (omega (arith, length-append bytes sw))

answer-parts : (number outcome : ℕ) (bytes sw : List ℕ) → length sw ≡ 2 → text_of number outcome (bytes ++ sw) ≡ reported number outcome bytes sw
answer-parts number outcome bytes sw h =
    let n : length bytes ≡ length (bytes ++ sw) - 2 = omega (arith, length-append bytes sw) in
    rw (take_at bytes sw (length (bytes ++ sw) - 2) n, drop_at bytes sw (length (bytes ++ sw) - 2) n) (printed-as number outcome bytes sw)

module _ (b : Bench) (area : List ℕ) (number : ℕ) (out : List ℕ) (size : length area ≡ 4096) (room : 532 ≤ length out) where
  -- a call that is answered
  by-told : (s : List ℕ) (t : Told) (text : List ℕ) → answered b area s ≡ t → text_of number t.outcome t.bytes ≡ text → answer b area s number out ≡ leaves t.bench t.area text out
  unfolding answer
  by-told s t text e f =
      let k : eqb (length area) area_size ≡ true = eq-eqb _ _ size in
      let l : leb out_size (length out) ≡ true = le-leb _ _ room in
      rw (k, l) (ap (λ (x : Told). written-line x number out) e ∙ ap (λ (x : List ℕ). leaves t.bench t.area x out) f)

  quiet : (s : List ℕ) (next : Bench) (left : List ℕ) (outcome : ℕ) → answered b area s ≡ told next left outcome [] → answer b area s number out ≡ leaves next left (reported number outcome [] []) out
  quiet s next left outcome e = by-told s (told next left outcome []) (reported number outcome [] []) e (printed-as number outcome [] [])

  abbrev Is : (List ℕ) → Written
  Is s = answer b area s number out

  -- a line over 1,024 bytes, and one that is none of the three
  long-line : (s : List ℕ) → 1024 < length s → Unchanged b area number out (Is s) 9
  long-line s h = quiet s b area 9 (bad-long b area s h)

  none_told : (s : List ℕ) → is_issue s ≡ false → is_command s ≡ false → is_reset s ≡ false → answered b area s ≡ bad b area
  unfolding handled on_card
  none_told s e f g = rw (e, f, g) (either (leb (length s) 1024) b.issued)
    where
      either : (x y : Bool) → cond x (cond y (bad b area) (bad b area)) (bad b area) ≡ bad b area
      either true true = refl
      either true false = refl
      either false y = refl

  other-line : (s : List ℕ) → (IsLine s → ⊥) → Unchanged b area number out (Is s) 9
  other-line s h = go (is_issue s) refl (is_command s) refl (is_reset s) refl
    where
      go : (x : Bool) → is_issue s ≡ x → (y : Bool) → is_command s ≡ y → (z : Bool) → is_reset s ≡ z → Unchanged b area number out (Is s) 9
      go true e y f z g = absurd (h (read-spelled s (rw e)))
      go false e true f z g = absurd (h (read-spelled s (rw (e, f))))
      go false e false f true g = absurd (h (read-spelled s (rw (e, f, g))))
      go false e false f false g = quiet s b area 9 (none_told s e f g)

  -- an ISSUE
  issue-kept : (o : Order) → ((issue o area).answer.outcome ≡ 0 → ⊥) → (issue o area).area ≡ area
  unfolding issue
  issue-kept o =
      let P : Issued → Type 0 = λ i. (i.answer.outcome ≡ 0 → ⊥) → i.area ≡ area in
      split P (eqb (length area) area_size) (λ _. split P (good_order o) (λ _ h. absurd (h refl)) (λ _ h. refl)) (λ _ h. refl)

  module _ (s : List ℕ) (few : length s ≤ 1024) where
    issue-line : (o : Order) → is_issue s ≡ true → order_in s ≡ o → Issues b area number out (Is s) o
    issue-line o e f =
        let t : answered b area s ≡ after_issue b (issue o area) = issue-answered b area s few e ∙ ap (λ (x : Order). after_issue b (issue x area)) f in
        let i : Issued = issue o area in
        record {
          good = λ z. quiet s (bench true i.answer.card) i.area 0 (t ∙ rw z);
          refused = λ z.
              quiet s b area i.answer.outcome (t ∙ rw (ne_eqb i.answer.outcome 0 z, issue-kept o z));
        }

    -- CMD and RESET before a good ISSUE
    early : is_issue s ≡ false → b.issued ≡ false → Unchanged b area number out (Is s) 9
    early e f = quiet s b area 9 (early-answered b area s few e f)

same-bench : (b : Bench) → b.issued ≡ true → bench true b.card ≡ b
same-bench b is-card = ap (λ (x : Bool). bench x b.card) (sym is-card)

-- a command that is served, and one that is not
each-end : (P : Done → Type 0) (t₁ t₂ t₃ t₄ : Bool) (d₀ d₁ d₂ d₃ d₄ : Done) → P d₀ → P d₄ → P d₃ → P d₂ → P d₁
    → P (cond t₁ (cond t₂ (cond t₃ (cond t₄ d₀ d₄) d₃) d₂) d₁)
each-end P true true true true d₀ d₁ d₂ d₃ d₄ p₀ p₄ p₃ p₂ p₁ = p₀
each-end P true true true false d₀ d₁ d₂ d₃ d₄ p₀ p₄ p₃ p₂ p₁ = p₄
each-end P true true false t₄ d₀ d₁ d₂ d₃ d₄ p₀ p₄ p₃ p₂ p₁ = p₃
each-end P true false t₃ t₄ d₀ d₁ d₂ d₃ d₄ p₀ p₄ p₃ p₂ p₁ = p₂
each-end P false t₂ t₃ t₄ d₀ d₁ d₂ d₃ d₄ p₀ p₄ p₃ p₂ p₁ = p₁

module _ (c : Card) (area cmd random reply : List ℕ) where
  by_end : (P : Done → Type 0) → P (served (step c area cmd random) reply) → ((n : ℕ) → P (refused (suc n) c area reply)) → P (command c area cmd random reply)
  unfolding command
  by_end P p r =
      each-end P (leb reply_size (length reply)) (eqb (length area) area_size) (eqb (length random) 16) (sound c area)
      (served (step c area cmd random) reply) (refused 1 c area reply) (refused 2 c area reply) (refused 3 c area reply) (refused 4 c area reply)
      p (r 3) (r 2) (r 1) (r 0)

  command-served : (command c area cmd random reply).answer.outcome ≡ 0 → command c area cmd random reply ≡ served (step c area cmd random) reply
  command-served = by_end (λ d. d.answer.outcome ≡ 0 → d ≡ served (step c area cmd random) reply) (λ h. refl) (λ n h. absurd (omega (arith, h)))

  command-refused : ((command c area cmd random reply).answer.outcome ≡ 0 → ⊥)
      → command c area cmd random reply ≡ refused (command c area cmd random reply).answer.outcome c area reply
  command-refused = by_end (λ d. (d.answer.outcome ≡ 0 → ⊥) → d ≡ refused d.answer.outcome c area reply) (λ h. absurd (h refl)) (λ n h. refl)

reset-refused : (c : Card) (area : List ℕ) → ((reset c area).outcome ≡ 0 → ⊥) → (reset c area).card ≡ c
unfolding reset
reset-refused c area =
    let P : Answer → Type 0 = λ a. (a.outcome ≡ 0 → ⊥) → a.card ≡ c in
    split P (eqb (length area) area_size) (λ _. split P (sound c area) (λ _ h. absurd (h refl)) (λ _ h. refl)) (λ _ h. refl)

module _ (b : Bench) (area : List ℕ) (number : ℕ) (out : List ℕ) (size : length area ≡ 4096) (room : 532 ≤ length out) (s : List ℕ) (few : length s ≤ 1024)
    (no-issue : is_issue s ≡ false) (is-card : b.issued ≡ true) where
  command-line : (cmd random : List ℕ) → is_command s ≡ true → command_in s ≡ cmd → random_in s ≡ random → Commands b area number out (answer b area s number out) b.card cmd random
  command-line cmd random e f g =
      let d : Done = command b.card area cmd random (zeros 258) in
      let t : answered b area s ≡ after_command d =
      command-answered b area s few no-issue is-card e
      ∙ ap₂ (λ (x y : List ℕ). after_command (command b.card area x y (zeros reply_size))) f g in
      let st = step b.card area cmd random in
      record {
        served = λ z.
            let k : after_command d ≡ told (bench true st.card) st.area 0 (st.bytes ++ sw_bytes st.sw) =
            ap after_command (command-served b.card area cmd random (zeros 258) z)
            ∙ ap (told (bench true st.card) st.area 0) (answer-taken st.bytes (sw_bytes st.sw) (zeros 258) refl) in
            by-told b area number out size room s (told (bench true st.card) st.area 0 (st.bytes ++ sw_bytes st.sw))
            (reported number 0 st.bytes (sw_bytes st.sw)) (t ∙ k) (answer-parts number 0 st.bytes (sw_bytes st.sw) refl);
        not-served = λ z.
            let k : after_command d ≡ told b area d.answer.outcome [] =
            ap after_command (command-refused b.card area cmd random (zeros 258) z)
            ∙ ap (λ (x : Bench). told x area d.answer.outcome []) (same-bench b is-card) in
            quiet b area number out size room s b area d.answer.outcome (t ∙ k);
      }

  reset-line : is_command s ≡ false → is_reset s ≡ true → Resets b area number out (answer b area s number out) b.card
  reset-line e f =
      let a : Answer = reset b.card area in
      let t : answered b area s ≡ after_reset area a = reset-answered b area s few no-issue is-card e f in
      record {
        served = λ z. quiet b area number out size room s (bench true a.card) area 0 (t ∙ ap (λ (o : ℕ). told (bench true a.card) area o []) z);
        not-served = λ z.
            quiet b area number out size room s b area a.outcome
            (t ∙ ap (λ (x : Card). told (bench true x) area a.outcome []) (reset-refused b.card area z)
            ∙ ap (λ (x : Bench). told x area a.outcome []) (same-bench b is-card));
      }

-- what each of the three does
does : (b : Bench) (area s : List ℕ) (number : ℕ) (out : List ℕ) → length area ≡ 4096 → 532 ≤ length out → length s ≤ 1024
    → (l : Line) → ReadAs l s → Does b area number out (answer b area s number out) l
does b area s number out size room few (issues i) r = issue-line b area number out size room s few (order_for i) r.0 r.3
does b area s number out size room few (commands cmd random) r = (
  λ e. command-line b area number out size room s few r.0 e cmd random r.1 r.3 r.4,
  λ e. early b area number out size room s few r.0 e,
)
does b area s number out size room few resets r = (
  λ e. reset-line b area number out size room s few r.0 e r.1 r.2,
  λ e. early b area number out size room s few r.0 e,
)

pub lines-answered : LinesAnswered
lines-answered b area s number out size room = record {
  line = λ l g e few. does b area s number out size room few l (subst (ReadAs l) (sym e) (spelled-read l g));
  other = other-line b area number out size room s;
  long = long-line b area number out size room s;
}

pub not-answered : NotAnswered
unfolding answer
not-answered b area s number out h =
    split (λ (w : Written). w ≡ written b 0 area out) (eqb (length area) area_size && leb out_size (length out))
    (λ e. let k = both (eqb (length area) area_size) (leb out_size (length out)) e in absurd (h (eqb-true _ _ k.0, leb-true _ _ k.1)))
    (λ _. refl)

pub no-card-first : NoCardFirst
no-card-first = refl
