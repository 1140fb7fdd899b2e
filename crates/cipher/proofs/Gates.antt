-- The circuit of specs/Circuit as one, over words: a gate works on every bit by itself, so all bytes of a word are substituted at once, and
-- those of three words. `Lanes` shows that each byte is the standard's, `Triples` that three words do not mix. Assumes nothing.
use mathlib.Core.Path.{◌≡◌, refl, ap, ap₂, sym, ◌∙◌}
use mathlib.Core.List.{List, [], ◌∷◌, ◌++◌, map, map-append}
use Prim.Native.Nat.{ℕ, ◌/◌}
use lib.Bits.{bit_xor, bit_and}
use lib.ListN.{get_or, get_or-map}
use Rattle.cipher.specs.Circuit.{Gate, xor, and, value, run, picked, Part, through, summing, norming, inverting, multiplying, gathering}

-- from the sums on
abbrev pub onward : List ℕ → List ℕ
onward y = through gathering (through multiplying (through inverting (through norming y) ++ y))

unfoldable pub circuit : List ℕ → List ℕ
circuit x = onward (through summing x)

-- ---- the gates pass through every map that both operations pass through
module _ (h : ℕ → ℕ) (h0 : h 0 ≡ 0) (hx : (a b : ℕ) → h (bit_xor a b) ≡ bit_xor (h a) (h b)) (ha : (a b : ℕ) → h (bit_and a b) ≡ bit_and (h a) (h b)) where
  pub got : (env : List ℕ) (i : ℕ) → get_or (map h env) i 0 ≡ h (get_or env i 0)
  got env i = ap (λ (d : ℕ). get_or (map h env) i d) (sym h0) ∙ get_or-map h env i 0

  value-map : (g : Gate) (env : List ℕ) → value g (map h env) ≡ h (value g env)
  value-map (xor i j) env = ap₂ bit_xor (got env i) (got env j) ∙ sym (hx (get_or env i 0) (get_or env j 0))
  value-map (and i j) env = ap₂ bit_and (got env i) (got env j) ∙ sym (ha (get_or env i 0) (get_or env j 0))

  run-map : (gs : List Gate) (env : List ℕ) → run gs (map h env) ≡ map h (run gs env)
  run-map [] env = refl
  run-map (g ∷ gs) env = ap (λ (v : ℕ). run gs (v ∷ map h env)) (value-map g env) ∙ run-map gs (value g env ∷ env)

  picked-map : (is env : List ℕ) → picked is (map h env) ≡ map h (picked is env)
  picked-map [] env = refl
  picked-map (i ∷ is) env = ap₂ ◌∷◌ (got env i) (picked-map is env)

  through-map : (p : Part) (env : List ℕ) → through p (map h env) ≡ map h (through p env)
  through-map p env = ap (picked p.results) (run-map p.gates env) ∙ picked-map p.results (run p.gates env)

  onward-map : (y : List ℕ) → onward (map h y) ≡ map h (onward y)
  onward-map y =
      let v = through inverting (through norming y) in
      ap (λ (l : List ℕ). through gathering (through multiplying (l ++ map h y)))
      (ap (through inverting) (through-map norming y) ∙ through-map inverting (through norming y))
      ∙ ap (λ (l : List ℕ). through gathering (through multiplying l)) (sym (map-append h v y))
      ∙ ap (through gathering) (through-map multiplying (v ++ y)) ∙ through-map gathering (through multiplying (v ++ y))

  pub circuit-map : (x : List ℕ) → circuit (map h x) ≡ map h (circuit x)
  unfolding circuit
  circuit-map x = ap onward (through-map summing x) ∙ onward-map (through summing x)

-- the bits of each byte, the lowest first: bit j is at the byte's bit 0
abbrev pub bits_of : ℕ → List ℕ
bits_of w = w ∷ w / 2 ∷ w / 4 ∷ w / 8 ∷ w / 16 ∷ w / 32 ∷ w / 64 ∷ w / 128 ∷ []

-- what the circuit's bits weigh
abbrev pub weights : List ℕ
weights = 1 ∷ 16 ∷ 2 ∷ 32 ∷ 4 ∷ 64 ∷ 8 ∷ 128 ∷ []

-- ---- the parts, one after the other
pub joined : (x : List ℕ) {y n v z s : List ℕ} → y ≡ through summing x → n ≡ through norming y → v ≡ through inverting n → z ≡ through multiplying (v ++ y)
    → s ≡ through gathering z → s ≡ circuit x
unfolding circuit
joined x p q r t u = u ∙ ap (through gathering) (t ∙ ap (through multiplying) (ap₂ ◌++◌ (r ∙ ap (through inverting) (q ∙ ap (through norming) p)) p))
