use Prim.Native.Nat.{ℕ}
use mathlib.Core.Bool.{Bool, true, false, ◌&&◌}
use mathlib.Core.List.{List, [], ◌∷◌}
use mathlib.Core.Path.{◌≡◌, refl, sym, ap, ◌∙◌}
use lib.Dec.{eqb}
use lib.ListN.{length, get_or}
use borrow.Author.Rules.{rules}
use borrow.Author.Tests.{eq-eqb}
use Rattle.files.specs.Words.{all_below}
use Rattle.files.specs.Sound.{sound_directory, parted_area}
use Rattle.files.proofs.Checks.{some-fails, both}
use Rattle.rules.specs.declared.Card.{Card}
use Rattle.rules.specs.State.{how_many, how_many_rights}
use Rattle.rules.specs.Sound.{sound_at, sound_current, sound_challenge, sound_response, sound_journal, sound_state, sound}
use native.Mathlib.Omega.{arith}
use Rattle.card.proofs.sound.is_sound.Goals as goal

module _ (x : Card) (area : List ℕ) where
  abbrev tests : List Bool
  tests =
      eqb (length x.credentials) how_many ∷ eqb (length x.session.rights) how_many_rights ∷ all_below (sound_at x) how_many ∷ sound_directory x.directory
      ∷ sound_current x.directory x.session ∷ sound_challenge x.session ∷ sound_response x.response ∷ sound_journal x.journal ∷ []

  fails : (n : ℕ) → get_or tests n true ≡ false → false ≡ sound x area
  unfolding sound sound_state
  fails n e = sym (ap (λ b. b && parted_area x.directory area) (some-fails tests n e))

  either-fails : (sound_challenge x.session && all_below (sound_at x) how_many) ≡ false → false ≡ sound x area
  either-fails e = go (sound_challenge x.session) refl
    where
      go : (b : Bool) → sound_challenge x.session ≡ b → false ≡ sound x area
      go true h = fails 2 (sym (ap (λ b. b && all_below (sound_at x) how_many) h) ∙ e)
      go false h = fails 5 h

-- the area before the current file
swapped : (d p c : Bool) → ((d && p) && c) ≡ ((d && (c && true)) && p)
swapped d p c = grind arith

pub returns-then-not-sound_response : goal.returns-then-not-sound_response
returns-then-not-sound_response c = let s = c in
    fails s.args.card s.args.area.now 6 (sym c.sound_response.ensures ∙ c.if-not-sound_response.true)

pub returns-then-not-sound_journal : goal.returns-then-not-sound_journal
returns-then-not-sound_journal c = let s = c in
    fails s.args.card s.args.area.now 7 (sym c.sound_journal.ensures ∙ c.if-not-sound_journal.true)

pub returns-then-not-sound_logins : goal.returns-then-not-sound_logins
returns-then-not-sound_logins c = let s = c in
    either-fails s.args.card s.args.area.now (sym c.sound_logins.ensures ∙ c.if-not-sound_logins.true)

pub returns : goal.returns
unfolding sound sound_state sound_current
returns c = let s = c in
    let x = s.args.card in
    let n : length x.credentials ≡ how_many = search rules in
    let m : length x.session.rights ≡ how_many_rights = search rules in
    let r : sound_response x.response ≡ true = sym c.sound_response.ensures ∙ c.if-not-sound_response.false in
    let j : sound_journal x.journal ≡ true = sym c.sound_journal.ensures ∙ c.if-not-sound_journal.false in
    let h = both (sound_challenge x.session) (all_below (sound_at x) how_many) (sym c.sound_logins.ensures ∙ c.if-not-sound_logins.false) in
    c.is_sound.ensures
    ∙ rw (eq-eqb _ _ n, eq-eqb _ _ m, h.1, h.0, r, j)
    (swapped (sound_directory x.directory) (parted_area x.directory s.args.area.now) (sound_current x.directory x.session))
