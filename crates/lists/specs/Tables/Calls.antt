-- Which calls may come between the items of a list, and which ways back touch no dot.
-- Assumes nothing.
use Rattle.std.specs.Prelude.{◌^◌, true, false, List, [], ◌∷◌, ◌++◌, replicate}
use Rattle.basis.specs.Reading.{Reading, each, told}
use Rattle.rules.specs.Card.{W, R, T, VB, LP}
use Rattle.lists.specs.Play.{writes_none, grants}
use Rattle.lists.specs.Erase.{draws_none}

unfoldable pub calls : List Reading
calls =
    -- all but a register write
    (
      told (writes_none (W 1 3)) ∷ told (writes_none (R 0)) ∷ told (writes_none (T 9)) ∷ told (writes_none (VB true)) ∷ told (writes_none (LP 1 2)) ∷ [],
      0 ∷ 1 ∷ 1 ∷ 1 ∷ 1 ∷ [],
    )
    -- grants alone
    ∷ (
      told (grants (W 1 3)) ∷ told (grants (R 0)) ∷ told (grants (T 9)) ∷ told (grants (VB true)) ∷ told (grants (LP 1 2)) ∷ [],
      0 ∷ 0 ∷ 1 ∷ 0 ∷ 0 ∷ [],
    )
    -- whatever the address, the size, the level, the segment and the line
    ∷ (
      each (λ a. told (writes_none (R a))) 0 256 ++ (each (λ k. told (writes_none (T (2 ^ k)))) 0 16
          ++ (told (writes_none (T 0)) ∷ told (writes_none (T 65535)) ∷ told (writes_none (VB false))
          ∷ (each (λ h. told (writes_none (LP h 255))) 0 64 ++ each (λ v. told (writes_none (LP 63 v))) 0 256))),
      replicate 595 1,
    )
    ∷ (each (λ a. told (writes_none (W a 0))) 0 16, replicate 16 0)
    ∷ (each (λ k. told (grants (T (2 ^ k)))) 0 16 ++ (told (grants (T 0)) ∷ told (grants (T 65535)) ∷ []), replicate 18 1)
    ∷ (
      each (λ a. told (grants (R a))) 0 16 ++ (told (grants (VB false)) ∷ each (λ h. told (grants (LP h 255))) 0 64),
      replicate 81 0,
    )
    -- no grant, and no 04, 06, 07 or 0C written to CMD
    ∷ (
      told (draws_none []) ∷ told (draws_none (W 0 1 ∷ W 4 4 ∷ R 0 ∷ VB true ∷ LP 1 2 ∷ W 0xB 0x0C ∷ [])) ∷ told (draws_none (R 0 ∷ T 1 ∷ []))
          ∷ told (draws_none (VB true ∷ W 0 4 ∷ [])) ∷ told (draws_none (LP 1 2 ∷ W 0 6 ∷ [])) ∷ told (draws_none (W 0 7 ∷ R 0 ∷ [])) ∷ told (draws_none (W 0 0x0C ∷ []))
          ∷ [],
      1 ∷ 1 ∷ 0 ∷ 0 ∷ 0 ∷ 0 ∷ 0 ∷ [],
    )
    -- every code, every register, every read, edge and level; a way of 300 calls
    ∷ (
      each (λ c. told (draws_none (W 0 c ∷ []))) 0 256,
      1 ∷ 1 ∷ 1 ∷ 1 ∷ 0 ∷ 1 ∷ 0 ∷ 0 ∷ 1 ∷ 1 ∷ 1 ∷ 1 ∷ 0 ∷ replicate 243 1,
    )
    ∷ (
      each (λ a. told (draws_none (W a 4 ∷ []))) 1 255 ++ (each (λ a. told (draws_none (R a ∷ []))) 0 256
          ++ (each (λ h. told (draws_none (LP h 255 ∷ []))) 0 64 ++ each (λ v. told (draws_none (LP 63 v ∷ []))) 0 256)),
      replicate 831 1,
    )
    ∷ (told (draws_none (VB false ∷ [])) ∷ told (draws_none (VB true ∷ [])) ∷ told (draws_none (replicate 300 (R 0xC))) ∷ [], 1 ∷ 1 ∷ 1 ∷ [])
    ∷ (each (λ k. told (draws_none (T (2 ^ k) ∷ []))) 0 16 ++ (told (draws_none (T 0 ∷ [])) ∷ []), replicate 17 0)
    ∷ []
