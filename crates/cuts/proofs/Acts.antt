-- What a command does, in the ledger's words.
use Prim.Native.Nat.{ℕ}
use mathlib.Core.Bool.{Bool, true, false, cond, ◌&&◌}
use mathlib.Core.List.{List, [], ◌∷◌}
use mathlib.Core.Path.{◌≡◌, refl, sym, ◌∙◌}
use lib.Dec.{eqb}
use Rattle.files.specs.declared.Located.{Located}
use Rattle.files.proofs.Checks.{split}
use Rattle.rules.specs.declared.Card.{Card}
use Rattle.rules.specs.declared.Ins.{Ins}
use Rattle.rules.specs.Words.{first}
use Rattle.rules.specs.State.{Which, transport, number_of, logins, challenge}
use Rattle.rules.specs.Sound.{sound}
use Rattle.rules.specs.Frame.{Command, framed, coded}
use Rattle.rules.specs.Effect.{Touch, nothing, presents}
use Rattle.rules.specs.Pins.{tries_sw}
use Rattle.rules.specs.Device.{challenge_sw}
use Rattle.rules.specs.Record.{record_found}
use Rattle.rules.specs.Code.{expected, presents_code}
use Rattle.rules.specs.List.{listed, Rule, of_files, of_contents, of_credentials, rule}
use Rattle.demands.specs.Role.{role}
use Rattle.rules.specs.Response.{fetches}
use Rattle.rules.specs.Step.{checks_of, checks}
use Rattle.demands.specs.Ledger.{Kind, other, presented, about, passes, kind, Tree, grown}
use Rattle.demands.proofs.Coding as demands-coding
use Rattle.demands.proofs.Rows.{kind_of, kind_by, Row, kind-same}
use Rattle.demands.proofs.Rows as rows
use Rattle.demands.proofs.Labels.{Matches, tree_by}
use Rattle.demands.proofs.Delivered.{fetch-is}
use Rattle.demands.proofs.Framing.{response-named}
use Rattle.power.specs.Plan.{Work, idle, files, credentials, Act, act, code_by, work_by, act_of}

-- a command is a presentation by its code or by what it does, and never both
abbrev kind_of_work : Touch → Work → Which → Kind
kind_of_work t idle w = kind_of t w
kind_of_work t (files d) w = kind_of t w
kind_of_work t (credentials u) w = kind_of u w

abbrev pub kind_of_act : Act → Which → Kind
kind_of_act a w = kind_of_work a.code a.work w

abbrev tree_of_work : Work → Tree → Tree
tree_of_work idle t = t
tree_of_work (files d) t = tree_by d t
tree_of_work (credentials u) t = t

abbrev pub tree_of_act : Act → Tree → Tree
tree_of_act a t = tree_of_work a.work t

-- whether or not the checks pass
either-kind : (t : Touch) (b : Bool) (x : Work) (w : Which) → kind_of_work t x w ≡ kind_of t w → kind_of_work t (cond b x idle) w ≡ kind_of t w
either-kind t true x w e = e
either-kind t false x w e = refl

module _ (c : Card) (area : List ℕ) (h : sound c area ≡ true) (cmd : List ℕ) where
  abbrev k : Command
  k = framed cmd

  abbrev i : Ins
  i = listed (framed cmd)

  abbrev l : Located
  l = record_found c area (framed cmd)

  -- what a code is to the credentials
  code-kind : (front : List ℕ) (w : Which)
      → about transport w (demands-coding.code_by front (logins c) (challenge c) k)
      ≡ kind_of (cond (presents_code front (logins c) (challenge c) k) (presents transport (expected (logins c) (challenge c) k) k.code) nothing) w
  unfolding presents_code
  code-kind front w = go (coded k && passes (first front ∷ tries_sw (logins c transport) ∷ challenge_sw (challenge c) ∷ []) k)
    where
      go : (b : Bool)
          → about transport w (cond b (presented (expected (logins c) (challenge c) k) k.code) other)
          ≡ kind_of (cond b (presents transport (expected (logins c) (challenge c) k) k.code) nothing) w
      go true = refl
      go false = none (eqb (number_of transport) (number_of w))
        where
          none : (e : Bool) → cond e other other ≡ other
          none true = refl
          none false = refl

  plan-kind : (w : Which) (r : Rule)
      → kind_by r (logins c) (challenge c) k w ≡ kind_of_act (act (code_by r c k) (cond (passes (checks_of r c l k) k) (work_by r c l k) idle)) w
  plan-kind w (of_files t d) = sym (either-kind nothing (passes (t c k) k) (files (d c k)) w refl)
  plan-kind w (of_contents f t d) =
      code-kind (f k) w ∙ sym (either-kind (code_by (of_contents f t d) c k) (passes (checks_of (of_contents f t d) c l k) k) (files (d c l k)) w refl)
  plan-kind w (of_credentials t d) = go (passes (t (logins c) (challenge c) k) k)
    where
      go : (b : Bool) → cond b (kind_of (d (logins c) (challenge c) k) w) other ≡ kind_of_work nothing (cond b (credentials (d (logins c) (challenge c) k)) idle) w
      go true = refl
      go false = refl

  pub act-kind : (w : Which) → kind (role (listed (framed cmd))) (logins c) (challenge c) cmd w ≡ kind_of_act (act_of c area cmd) w
  unfolding act_of checks kind
  act-kind w =
      split (λ (a : Act). kind (role i) (logins c) (challenge c) cmd w ≡ kind_of_act a w) (fetches c k)
      (λ e. rw (response-named i (fetch-is c k e).by_name)) (λ e. kind-same i (logins c) (challenge c) cmd w ∙ plan-kind w (rule i))

  module _ (t : Tree) (m : Matches c.directory c.session.folder t) where
    plan-tree : (r : Rule) → Row i r → grown (role i) (logins c) t k ≡ tree_of_work (cond (passes (checks_of r c l k) k) (work_by r c l k) idle) t
    plan-tree (of_files s d) q = q.tree_is c area h t m k ∙ go (passes (s c k) k)
      where
        go : (b : Bool) → cond b (tree_by (d c k) t) t ≡ tree_of_work (cond b (files (d c k)) idle) t
        go true = refl
        go false = refl
    plan-tree (of_contents f s d) q = q.tree_is (logins c) t k ∙ go (passes (checks_of (of_contents f s d) c l k) k)
      where
        go : (b : Bool) → t ≡ tree_of_work (cond b (files (d c l k)) idle) t
        go true = sym (q.makes_none c l k t)
        go false = refl
    plan-tree (of_credentials s d) q = q.tree_is (logins c) t k ∙ go (passes (s (logins c) (challenge c) k) k)
      where
        go : (b : Bool) → t ≡ tree_of_work (cond b (credentials (d (logins c) (challenge c) k)) idle) t
        go true = refl
        go false = refl

    pub act-tree : grown (role (listed (framed cmd))) (logins c) t (framed cmd) ≡ tree_of_act (act_of c area cmd) t
    unfolding act_of checks grown
    act-tree =
        split (λ (a : Act). grown (role i) (logins c) t k ≡ tree_of_act a t) (fetches c k)
        (λ e. rw (response-named i (fetch-is c k e).by_name)) (λ e. plan-tree (rule i) (rows.row i))
