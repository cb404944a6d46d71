-- The panel's statement settles its result: any two results that it allows are equal, and the definition's own is allowed.
-- Assumes nothing.
use mathlib.Core.Path.{◌≡◌, refl, sym, ap, ◌∙◌}
use mathlib.Core.List.{List, ◌++◌}
use Prim.Native.Nat.{ℕ, ◌≤◌}
use native.Mathlib.Omega.{arith}
use lib.Dec.{ltb}
use lib.ListN.{length, drop}
use borrow.Author.Tests.{ltb-false}
use Rattle.basis.proofs.Cases.{cond_case}
use Rattle.panel.specs.Panel.{longest, fitted, Gives}
use Rattle.panel.proofs.Longest.{panel_longest}

-- the number of bytes and the whole buffer
pub panel_settled : (input before : List ℕ) {after other : List ℕ} {r q : ℕ}
    → Gives input before after r → Gives input before other q → (r ≡ q) × (after ≡ other)
panel_settled input before g h =
    let same = g.count ∙ sym h.count in
    (same, g.buffer ∙ ap (λ (k : ℕ). fitted input before ++ drop k before) same ∙ sym h.buffer)

-- what is written fits
fits : (input before : List ℕ) → length (fitted input before) ≤ length before
unfolding fitted
fits input before =
    cond_case (λ (l : List ℕ). length l ≤ length before) (ltb (length before) longest)
    (λ _. omega arith)
    (λ t. omega (arith, panel_longest input, ltb-false (length before) longest t))

-- so for every input and every buffer there is such a result
pub panel_met : (input before : List ℕ)
    → Gives input before (fitted input before ++ drop (length (fitted input before)) before) (length (fitted input before))
panel_met input before = record { count = refl; inside = fits input before; buffer = refl }
