-- SELECT: refused early, a file, a directory or the root, or none of these.
-- Assumes nothing.
use Prim.Native.Nat.{ℕ}
use mathlib.Core.Bool.{true, false, ◌||◌, not}
use mathlib.Core.Path.{◌≡◌, sym, ◌∙◌}
use lib.Dec.{eqb}
use Rattle.files.specs.Words.{is_zero}
use Rattle.rules.specs.declared.Card.{Card}
use Rattle.rules.specs.Words.{or_else, first, unless}
use Rattle.rules.specs.State.{with_current, with_folder}
use Rattle.rules.specs.Frame.{Command, p_sw, lc_sw}
use Rattle.rules.specs.Effect.{becomes}
use Rattle.rules.specs.Select.{root, fid_given, selected, entered, select_checks, select_deed}
use Rattle.rules.specs.Step.{did}
use Rattle.card.specs.declared.Carried.{Carried}
use Rattle.card.specs.Carried.{does, Leaves}
use Rattle.card.proofs.Carrying.{goes_on}
use Rattle.card.proofs.Opening.{framed-on, framed-off}

module _ (c : Card) (k : Command) (early : ℕ) (is : early ≡ or_else (p_sw 0x0000 k) (lc_sw 2 k)) where
  pub select-early : (early ≡ 0x9000 → ⊥) → early ≡ first (select_checks c k)
  unfolding select_checks
  select-early n = is ∙ sym (framed-off _ _ _ (λ e. n (is ∙ e)))

  module _ (good : early ≡ 0x9000) where
    late : first (select_checks c k) ≡ unless (not (is_zero (selected c k)) || (not (is_zero (entered c k)) || eqb (fid_given k) root)) 0x6A82
    unfolding select_checks
    late = framed-on _ _ _ (sym is ∙ good)

    pub select-none : is_zero (selected c k) ≡ true → (not (is_zero (entered c k)) || eqb (fid_given k) root) ≡ false → 0x6A82 ≡ first (select_checks c k)
    select-none f g = sym (late ∙ rw (f, g))

    module _ (r : Carried) where
      pub select-file : is_zero (selected c k) ≡ false → Leaves c (becomes (with_current c (selected c k))) 0 0 r
          → Leaves c (does (first (select_checks c k)) c (select_deed c k)) 0 0 r
      select-file f h =
          let checked : first (select_checks c k) ≡ 0x9000 = late ∙ rw f in
          rw (goes_on (first (select_checks c k)) c (did c (select_deed c k)) checked, f) h

      pub select-folder : is_zero (selected c k) ≡ true → (not (is_zero (entered c k)) || eqb (fid_given k) root) ≡ true
          → Leaves c (becomes (with_folder c (entered c k))) 0 0 r → Leaves c (does (first (select_checks c k)) c (select_deed c k)) 0 0 r
      select-folder f g h =
          let checked : first (select_checks c k) ≡ 0x9000 = late ∙ rw (f, g) in
          rw (goes_on (first (select_checks c k)) c (did c (select_deed c k)) checked, f) h
