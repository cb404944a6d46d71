-- Readings of the address outputs: which line each bit of X and of Y stands on.
-- Assumes nothing.
use Rattle.std.specs.Prelude.{ℕ, ◌+◌, ◌-◌, ◌*◌, ◌/◌, ◌%◌, ◌^◌, List, [], ◌∷◌, ◌++◌, replicate}
use Rattle.basis.specs.Reading.{Reading, each, joined}
use Rattle.parts.specs.declared.format.Format.{Format}
use Rattle.parts.specs.declared.format.Format.TheVariants.{Ef9366, FmatHigh, FmatLow}
use Rattle.parts.specs.Address.{address_of}

-- what bits 0 to 11 of X and of Y weigh on some lines
pub record Weights : Type 0 where
  pub of_x : List ℕ
  pub of_y : List ℕ

-- DAD0 to 6 while CK is low: X8 to X3, Y0; FMAT high X8 to X3, Y1; FMAT low X7 to X2, Y0
unfoldable pub on_low : Format → Weights
on_low Ef9366 =
    record {
      of_x = 0 ∷ 0 ∷ 0 ∷ 32 ∷ 16 ∷ 8 ∷ 4 ∷ 2 ∷ 1 ∷ 0 ∷ 0 ∷ 0 ∷ [];
      of_y = 64 ∷ 0 ∷ 0 ∷ 0 ∷ 0 ∷ 0 ∷ 0 ∷ 0 ∷ 0 ∷ 0 ∷ 0 ∷ 0 ∷ [];
    }
on_low FmatHigh =
    record {
      of_x = 0 ∷ 0 ∷ 0 ∷ 32 ∷ 16 ∷ 8 ∷ 4 ∷ 2 ∷ 1 ∷ 0 ∷ 0 ∷ 0 ∷ [];
      of_y = 0 ∷ 64 ∷ 0 ∷ 0 ∷ 0 ∷ 0 ∷ 0 ∷ 0 ∷ 0 ∷ 0 ∷ 0 ∷ 0 ∷ [];
    }
on_low FmatLow =
    record {
      of_x = 0 ∷ 0 ∷ 32 ∷ 16 ∷ 8 ∷ 4 ∷ 2 ∷ 1 ∷ 0 ∷ 0 ∷ 0 ∷ 0 ∷ [];
      of_y = 64 ∷ 0 ∷ 0 ∷ 0 ∷ 0 ∷ 0 ∷ 0 ∷ 0 ∷ 0 ∷ 0 ∷ 0 ∷ 0 ∷ [];
    }

-- while CK is high: Y7 to Y1; FMAT high Y8 to Y3, Y0
unfoldable pub on_high : Format → Weights
on_high Ef9366 =
    record { of_x = replicate 12 0; of_y = 0 ∷ 64 ∷ 32 ∷ 16 ∷ 8 ∷ 4 ∷ 2 ∷ 1 ∷ 0 ∷ 0 ∷ 0 ∷ 0 ∷ [] }
on_high FmatHigh =
    record { of_x = replicate 12 0; of_y = 64 ∷ 0 ∷ 0 ∷ 32 ∷ 16 ∷ 8 ∷ 4 ∷ 2 ∷ 1 ∷ 0 ∷ 0 ∷ 0 ∷ [] }
on_high FmatLow =
    record { of_x = replicate 12 0; of_y = 0 ∷ 64 ∷ 32 ∷ 16 ∷ 8 ∷ 4 ∷ 2 ∷ 1 ∷ 0 ∷ 0 ∷ 0 ∷ 0 ∷ [] }

-- the weights of the bits of a number that are 1
unfoldable pub weighed : List ℕ → ℕ → ℕ
weighed [] v = 0
weighed (w ∷ ws) v = w * (v % 2) + weighed ws (v / 2)

unfoldable pub sums : Weights → ℕ → ℕ → ℕ
sums w x y = weighed w.of_x x + weighed w.of_y y

-- MSL0 to 3: X0, X1, X2, 1; FMAT high X0, X1, X2, Y2; FMAT low, line k low exactly when X mod 4 = k
unfoldable pub on_msl : Format → ℕ → ℕ → ℕ
on_msl Ef9366 x y = x % 8 + 8
on_msl FmatHigh x y = x % 8 + 8 * (y / 4 % 2)
on_msl FmatLow x y = 15 - 2 ^ (x % 4)

-- low, high and MSL of a position, as defined and by the weights
unfoldable pub outputs : Format → ℕ → ℕ → List ℕ
outputs f x y = (address_of f x y).low ∷ (address_of f x y).high ∷ (address_of f x y).msl ∷ []

unfoldable pub expected : Format → ℕ → ℕ → List ℕ
expected f x y = sums (on_low f) x y ∷ sums (on_high f) x y ∷ on_msl f x y ∷ []

-- some positions by k: bit k of X alone, of Y alone, all but that bit; and positions all over
unfoldable pub everywhere : (ℕ → ℕ → List ℕ) → List ℕ
everywhere f =
    joined (λ k. f (2 ^ k) 0) 0 12
    ++ joined (λ k. f 0 (2 ^ k)) 0 12
    ++ joined (λ k. f (4095 - 2 ^ k) 4095) 0 12
    ++ joined (λ k. f 4095 (4095 - 2 ^ k)) 0 12
    ++ joined (λ k. f (4095 - 2 ^ k) 0) 0 12
    ++ joined (λ k. f 4095 (2 ^ k)) 0 12
    ++ joined (λ k. f (k * 1367 % 4096) (k * 2741 % 4096)) 0 64

-- the same numbers, given outright: bits 0 to 11 of X alone on DAD, CK low; of Y alone, CK high; of X alone on MSL
unfoldable pub singly : Format → List ℕ
singly f =
    each (λ k. (address_of f (2 ^ k) 0).low) 0 12
    ++ each (λ k. (address_of f 0 (2 ^ k)).high) 0 12
    ++ each (λ k. (address_of f (2 ^ k) 0).msl) 0 12
    ++ each (λ k. (address_of f 0 (2 ^ k)).msl) 0 12

unfoldable pub addresses : List Reading
addresses =
    (everywhere (outputs Ef9366), everywhere (expected Ef9366))
    ∷ (everywhere (outputs FmatHigh), everywhere (expected FmatHigh))
    ∷ (everywhere (outputs FmatLow), everywhere (expected FmatLow))
    -- (300, 100): 41, 38, MSL 12
    ∷ (outputs Ef9366 300 100, 41 ∷ 38 ∷ 12 ∷ [])
    ∷ (outputs Ef9366 0 0, 0 ∷ 0 ∷ 8 ∷ [])
    ∷ (outputs FmatHigh 0 0, 0 ∷ 0 ∷ 0 ∷ [])
    ∷ (outputs FmatLow 0 0, 0 ∷ 0 ∷ 14 ∷ [])
    ∷ (outputs Ef9366 511 255, 127 ∷ 127 ∷ 15 ∷ [])
    ∷ (outputs FmatHigh 511 511, 127 ∷ 127 ∷ 15 ∷ [])
    ∷ (outputs FmatLow 255 255, 127 ∷ 127 ∷ 7 ∷ [])
    -- the other two corners of each window
    ∷ (outputs Ef9366 0 255 ++ outputs Ef9366 511 0, 64 ∷ 127 ∷ 8 ∷ 63 ∷ 0 ∷ 15 ∷ [])
    ∷ (outputs FmatHigh 0 511 ++ outputs FmatHigh 511 0, 64 ∷ 127 ∷ 8 ∷ 63 ∷ 0 ∷ 7 ∷ [])
    ∷ (outputs FmatLow 0 255 ++ outputs FmatLow 255 0, 64 ∷ 127 ∷ 14 ∷ 63 ∷ 0 ∷ 7 ∷ [])
    ∷ (
      singly Ef9366,
      (0 ∷ 0 ∷ 0 ∷ 32 ∷ 16 ∷ 8 ∷ 4 ∷ 2 ∷ 1 ∷ 0 ∷ 0 ∷ 0 ∷ [])
          ++ (0 ∷ 64 ∷ 32 ∷ 16 ∷ 8 ∷ 4 ∷ 2 ∷ 1 ∷ 0 ∷ 0 ∷ 0 ∷ 0 ∷ [])
          ++ (9 ∷ 10 ∷ 12 ∷ replicate 9 8)
          ++ replicate 12 8,
    )
    ∷ (
      singly FmatHigh,
      (0 ∷ 0 ∷ 0 ∷ 32 ∷ 16 ∷ 8 ∷ 4 ∷ 2 ∷ 1 ∷ 0 ∷ 0 ∷ 0 ∷ [])
          ++ (64 ∷ 0 ∷ 0 ∷ 32 ∷ 16 ∷ 8 ∷ 4 ∷ 2 ∷ 1 ∷ 0 ∷ 0 ∷ 0 ∷ [])
          ++ (1 ∷ 2 ∷ 4 ∷ replicate 9 0)
          ++ (0 ∷ 0 ∷ 8 ∷ replicate 9 0),
    )
    ∷ (
      singly FmatLow,
      (0 ∷ 0 ∷ 32 ∷ 16 ∷ 8 ∷ 4 ∷ 2 ∷ 1 ∷ 0 ∷ 0 ∷ 0 ∷ 0 ∷ [])
          ++ (0 ∷ 64 ∷ 32 ∷ 16 ∷ 8 ∷ 4 ∷ 2 ∷ 1 ∷ 0 ∷ 0 ∷ 0 ∷ 0 ∷ [])
          ++ (13 ∷ 11 ∷ replicate 10 14)
          ++ replicate 12 14,
    )
    -- FMAT low: X from 0 to 15
    ∷ (each (λ x. (address_of FmatLow x 0).msl) 0 16, joined (λ k. 14 ∷ 13 ∷ 11 ∷ 7 ∷ []) 0 4)
    ∷ []
