-- SELECT.
use Prim.Native.Nat.{ℕ}
use mathlib.Core.Bool.{◌&&◌, ◌||◌, not}
use mathlib.Core.List.{List, [], ◌∷◌}
use mathlib.Core.Path.{◌≡◌, refl, ◌∙◌, subst}
use mathlib.Core.Logic.{inl, by_cases}
use native.Mathlib.Decide.{ℕ_discrete}
use native.Mathlib.Omega.{arith}
use lib.Dec.{eqb}
use borrow.Author.Tests.{eqb-true, eq-eqb, ne_eqb}
use Rattle.files.specs.Words.{is_zero}
use Rattle.files.specs.Part.{part}
use Rattle.files.specs.Directory.{find_fid, find_folder}
use Rattle.files.proofs.Checks.{both, join}
use Rattle.rules.specs.declared.Card.{Card}
use Rattle.rules.specs.declared.Ins.TheVariants.{Select}
use Rattle.rules.specs.Words.{unless, first}
use Rattle.rules.specs.Frame.{Command, framed, p, lc}
use Rattle.rules.specs.Effect.{Deed, turns, enters, Stepped}
use Rattle.rules.specs.Select.{root, fid_given, selected, entered, select_checks, select_deed}
use Rattle.rules.specs.List.{find, rows, rule}
use Rattle.rules.specs.Step.{did, checks, effect_of, kept, step}
use Rattle.rules.proofs.Good.{Good, sound-good}
use Rattle.demands.proofs.Named.{the-fid, found-fid, the-folder, found-folder}
use Rattle.served.specs.Left.{LeftIn, Left}
use Rattle.served.specs.Answers.{FileHas, FolderHas, Selects, SelectAnswers}
use Rattle.served.specs.Answers as answers
use Rattle.served.proofs.Steps.{Settled, quiet-in, quiet, word, Rest, Runs, by_name, refuses, serves, check}

-- what the two searches find
module _ (c : Card) (g : Good c) (x : ℕ) where
  pub no-file : ((n : ℕ) → FileHas c x n → ⊥) → find_fid c.directory c.session.folder x ≡ 0
  no-file none =
      by_cases (ℕ_discrete (find_fid c.directory c.session.folder x) 0) (λ z. z)
      (λ o. let q = found-fid c g c.session.folder x (omega (arith, o)) in absurd (none (find_fid c.directory c.session.folder x) (record { within = q.0; fid-is = q.1 })))

  pub no-folder : ((n : ℕ) → FolderHas c x n → ⊥) → find_folder c.directory x ≡ 0
  no-folder none =
      by_cases (ℕ_discrete (find_folder c.directory x) 0) (λ z. z)
      (λ o. let q = found-folder c x (omega (arith, o)) in absurd (none (find_folder c.directory x) (record { there = q.0; fid-is = q.1 })))

module _ (c : Card) (area cmd random : List ℕ) (r : Runs c area cmd random Select) where
  abbrev k : Command
  k = framed cmd

  abbrev s : Stepped
  s = step c area cmd random

  word-is : word Select c area (framed cmd) ≡ first (select_checks c (framed cmd))
  unfolding checks rule
  word-is = refl

  abbrev g : Good c
  g = sound-good c area r.card-sound

  module _ (e : word Select c area (framed cmd) ≡ 0x9000) where
    done : Settled c area (did c (select_deed c (framed cmd))) (step c area cmd random)
    unfolding effect_of rule
    done = serves r e

    turned : (n : ℕ) → select_deed c (framed cmd) ≡ turns n → Left c area 0x9000 [] n [] (step c area cmd random)
    unfolding part
    turned n q = quiet c area 0x9000 n [] 0 0 [] s (subst (λ (x : Deed). Settled c area (did c x) s) q done) refl

    entered-as : (n : ℕ) → select_deed c (framed cmd) ≡ enters n → LeftIn c area 0x9000 [] n 0 [] (step c area cmd random)
    unfolding part
    entered-as n q = quiet-in c area 0x9000 n 0 [] 0 0 [] s (subst (λ (x : Deed). Settled c area (did c x) s) q done) refl

  module _ (e : Rest (word Select c area (framed cmd)) (unless (not (is_zero (selected c (framed cmd))) || (not (is_zero (entered c (framed cmd))) || eqb (fid_given (framed cmd)) root)) 0x6A82 ∷ [])) where
    selects : Selects c area random cmd (step c area cmd random)
    selects = record {
      file = λ n h.
          let there : selected c k ≡ n = the-fid c g c.session.folder (fid_given k) n h.within h.fid-is in
          let some = ne_eqb n 0 (λ z. omega (arith, z, h.within.there.first)) in
          turned (e.is ∙ rw (there, some)) n (rw (there, some));
      directory = λ o n h.
          let there : entered c k ≡ n = the-folder c g (fid_given k) n h.there h.fid-is in
          let none = eq-eqb (selected c k) 0 (no-file c g (fid_given k) o) in
          let some = ne_eqb n 0 (λ z. omega (arith, z, h.there.first)) in
          entered-as (e.is ∙ rw (none, there, some)) n (rw (none, there));
      root = λ o u z.
          let none = eq-eqb (selected c k) 0 (no-file c g (fid_given k) o) in
          let nowhere = no-folder c g (fid_given k) u in
          entered-as (e.is ∙ rw (none, nowhere, eq-eqb (fid_given k) root z)) 0 (rw (none, nowhere));
      none = λ o u z.
          let nothing = eq-eqb (selected c k) 0 (no-file c g (fid_given k) o) in
          refuses r 0x6A82 (λ y. omega (arith, y)) (e.is ∙ rw (nothing, no-folder c g (fid_given k) u, ne_eqb (fid_given k) root z));
    }

  selecting : answers.Select c area random cmd (step c area cmd random)
  unfolding select_checks
  selecting =
      check r (eqb (p k) 0x0000) 0x6A86 _ (eqb-true _ _) (eq-eqb _ _) refl (record { is = word-is }) (λ z e1.
      check r (eqb k.case 3 && eqb (lc k) 2) 0x6700 _
      (λ t. let q = both (eqb k.case 3) (eqb (lc k) 2) t in (eqb-true _ _ q.0, eqb-true _ _ q.1)) (λ q. join (eq-eqb _ _ q.0) (eq-eqb _ _ q.1))
      refl e1 (λ q e2. selects e2))

pub select-answers : SelectAnswers
unfolding find rows kept rule
select-answers = by_name 0x00 0xA4 answers.Select Select (inl refl) refl refl (λ c k. refl) selecting
