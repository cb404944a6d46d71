-- Two positions of the window never share all three address outputs.
-- Assumes nothing.
use mathlib.Core.Path.{◌≡◌, refl, sym, ap, ap₂, ◌∙◌}
use mathlib.Core.Logic.{⊎_elim, ◌⊎◌, inl, inr}
use mathlib.Core.Bool.{Bool, true, false, not, ◌||◌}
use mathlib.Core.List.{List, [], ◌∷◌, ◌++◌, map}
use Prim.Native.Nat.{ℕ, zero, suc, ◌/◌, ◌%◌, ◌<◌}
use native.Mathlib.Nat.{suc_inj}
use native.Mathlib.Omega.{arith}
use lib.Dec.{T, eqb, eqb→eq}
use lib.Pow.{field}
use lib.ListN.{length, length-map, get_or}
use borrow.Author.Tests.{eqb-true, not-false}
use Rattle.basis.proofs.Table.{below, passes}
use Rattle.picture.specs.Bit.{digit}
use Rattle.picture.proofs.Laws.{bit_ext, digit_lt}
use Rattle.parts.specs.declared.format.Format.{Format}
use Rattle.parts.specs.declared.format.Format.TheVariants.{Ef9366, FmatHigh, FmatLow}
use Rattle.parts.specs.declared.address.Address.{Address}
use Rattle.parts.specs.Address.{Pin, X, Y, up, level, number, low_pins, high_pins, msl_lines, address_of}
use Rattle.parts.specs.Format.{width, height, width_bits, height_bits}
use Rattle.parts.proofs.Formats.{width_power, height_power}

digit_inj : (a b : Bool) → digit a ≡ digit b → a ≡ b
digit_inj true true e = refl
digit_inj true false e = absurd (omega arith)
digit_inj false true e = absurd (omega arith)
digit_inj false false e = refl

-- the lines of a number
number_inj : (l m : List Bool) → length l ≡ length m → number l ≡ number m → l ≡ m
number_inj [] [] h e = refl
number_inj [] (b ∷ m) h e = absurd (omega arith)
number_inj (a ∷ l) [] h e = absurd (omega arith)
number_inj (a ∷ l) (b ∷ m) h e =
    ap₂ (λ (x : Bool) (xs : List Bool). x ∷ xs) (digit_inj a b (omega (arith, digit_lt a, digit_lt b)))
    (number_inj l m (suc_inj h) (omega (arith, digit_lt a, digit_lt b)))

-- a pin is among the pins of a list
abbrev same : Pin → Pin → Bool
same (X k) (X j) = eqb k j
same (Y k) (Y j) = eqb k j
same up up = true
same (X k) (Y j) = false
same (X k) up = false
same (Y k) (X j) = false
same (Y k) up = false
same up (X j) = false
same up (Y j) = false

abbrev among : Pin → List Pin → Bool
among p [] = false
among p (q ∷ qs) = same p q || among p qs

or_left : (a b : Bool) → T a → T (a || b)
or_left true b t = tt
or_left false b t = absurd t

or_right : (a b : Bool) → T b → T (a || b)
or_right true b t = tt
or_right false b t = t

or_cases : (a b : Bool) → T (a || b) → T a ⊎ T b
or_cases true b t = inl tt
or_cases false b t = inr t

same_eq : (p q : Pin) → T (same p q) → p ≡ q
same_eq (X k) (X j) t = ap X (eqb→eq k j t)
same_eq (Y k) (Y j) t = ap Y (eqb→eq k j t)
same_eq up up t = refl
same_eq (X k) (Y j) t = absurd t
same_eq (X k) up t = absurd t
same_eq (Y k) (X j) t = absurd t
same_eq (Y k) up t = absurd t
same_eq up (X j) t = absurd t
same_eq up (Y j) t = absurd t

module _ (x y u v : ℕ) where
  pins_agree : (ps : List Pin) → map (level x y) ps ≡ map (level u v) ps → (p : Pin) → T (among p ps) → level x y p ≡ level u v p
  pins_agree [] e p t = absurd t
  pins_agree (q ∷ qs) e p t =
      ⊎_elim
      (λ s. rw (same_eq p q s) (cc))
      (λ s. pins_agree qs (cc) p s)
      (or_cases (same p q) (among p qs) t)

  out_agree : (ps : List Pin) → number (map (level x y) ps) ≡ number (map (level u v) ps)
      → (p : Pin) → T (among p ps) → level x y p ≡ level u v p
  out_agree ps e =
      pins_agree ps (number_inj (map (level x y) ps) (map (level u v) ps) (length-map ps (level x y) ∙ sym (length-map ps (level u v))) e)

-- the line that is low says x mod 4
one_low_inj : (a b : ℕ) → a < 4 → not (eqb a 0) ∷ not (eqb a 1) ∷ not (eqb a 2) ∷ not (eqb a 3) ∷ []
    ≡ not (eqb b 0) ∷ not (eqb b 1) ∷ not (eqb b 2) ∷ not (eqb b 3) ∷ [] → b ≡ a
one_low_inj zero b h e = eqb-true b 0 (not-false (eqb b 0) (sym (ap (λ (l : List Bool). get_or l 0 true) e)))
one_low_inj (suc zero) b h e = eqb-true b 1 (not-false (eqb b 1) (sym (ap (λ (l : List Bool). get_or l 1 true) e)))
one_low_inj (suc (suc zero)) b h e = eqb-true b 2 (not-false (eqb b 2) (sym (ap (λ (l : List Bool). get_or l 2 true) e)))
one_low_inj (suc (suc (suc zero))) b h e = eqb-true b 3 (not-false (eqb b 3) (sym (ap (λ (l : List Bool). get_or l 3 true) e)))
one_low_inj (suc (suc (suc (suc a)))) b h e = absurd (omega arith)

-- the pins that the select lines tell
abbrev msl_pins : Format → List Pin
msl_pins Ef9366 = X 0 ∷ X 1 ∷ X 2 ∷ up ∷ []
msl_pins FmatHigh = X 0 ∷ X 1 ∷ X 2 ∷ Y 2 ∷ []
msl_pins FmatLow = X 0 ∷ X 1 ∷ []

msl_agree : (f : Format) (x y u v : ℕ) → number (msl_lines f x y) ≡ number (msl_lines f u v)
    → (p : Pin) → T (among p (msl_pins f)) → level x y p ≡ level u v p
msl_agree Ef9366 x y u v e p t = out_agree x y u v (msl_pins Ef9366) e p t
msl_agree FmatHigh x y u v e p t = out_agree x y u v (msl_pins FmatHigh) e p t
msl_agree FmatLow x y u v e p t =
    let r : u % 4 ≡ x % 4 = one_low_inj (x % 4) (u % 4) (omega arith) (number_inj (msl_lines FmatLow x y) (msl_lines FmatLow u v) refl e) in
    let low : x % 2 ≡ u % 2 = omega arith in
    let next : x / 2 % 2 ≡ u / 2 % 2 = sym (field x 1 1) ∙ ap (λ (n : ℕ). n / 2) (sym r) ∙ field u 1 1 in
    pins_agree x y u v (msl_pins FmatLow)
    (ap₂ (λ (a b : ℕ). eqb a 1 ∷ eqb b 1 ∷ []) low next)
    p t

-- all the pins that a format's outputs tell
abbrev wires : Format → List Pin
wires f = low_pins f ++ (high_pins f ++ msl_pins f)

among_append : (p : Pin) (ps qs : List Pin) → T (among p (ps ++ qs)) → T (among p ps) ⊎ T (among p qs)
among_append p [] qs t = inr t
among_append p (a ∷ ps) qs t =
    ⊎_elim
    (λ s. inl (or_left (same p a) (among p ps) s))
    (λ s. ⊎_elim (λ r. inl (or_right (same p a) (among p ps) r)) (λ r. inr r) (among_append p ps qs s))
    (or_cases (same p a) (among p (ps ++ qs)) t)

agree : (f : Format) (x y u v : ℕ) → address_of f x y ≡ address_of f u v → (p : Pin) → T (among p (wires f)) → level x y p ≡ level u v p
unfolding address_of
agree f x y u v e p t =
    ⊎_elim
    (λ s. out_agree x y u v (low_pins f) (ap (λ (a : Address). a.low) e) p s)
    (λ s. ⊎_elim
    (λ r. out_agree x y u v (high_pins f) (ap (λ (a : Address). a.high) e) p r)
    (λ r. msl_agree f x y u v (ap (λ (a : Address). a.msl) e) p r)
    (among_append p (high_pins f) (msl_pins f) s))
    (among_append p (low_pins f) (high_pins f ++ msl_pins f) t)

-- every bit of a position in the window is among them, by a test that antt computes
all_x : (f : Format) → T (below (λ k. among (X k) (wires f)) (width_bits f))
unfolding width_bits
all_x Ef9366 = tt
all_x FmatHigh = tt
all_x FmatLow = tt

all_y : (f : Format) → T (below (λ k. among (Y k) (wires f)) (height_bits f))
unfolding height_bits
all_y Ef9366 = tt
all_y FmatHigh = tt
all_y FmatLow = tt

-- the statement, over the formats
pub unique : (f : Format) (x y u v : ℕ) → x < width f → u < width f → y < height f → v < height f
    → address_of f x y ≡ address_of f u v → (x ≡ u) × (y ≡ v)
unique f x y u v hx hu hy hv e = (
  bit_ext (width_bits f) x u (rw (← width_power f) hx) (rw (← width_power f) hu)
      (λ k l. agree f x y u v e (X k) (passes (λ k. among (X k) (wires f)) (width_bits f) (all_x f) k l)),
  bit_ext (height_bits f) y v (rw (← height_power f) hy) (rw (← height_power f) hv)
      (λ k l. agree f x y u v e (Y k) (passes (λ k. among (Y k) (wires f)) (height_bits f) (all_y f) k l)),
)
