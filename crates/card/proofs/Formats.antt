-- A call by a format's number is the call with that format, and a number of none is refused with 2.
-- Assumes nothing.
use mathlib.Core.Path.{◌≡◌, refl, sym, ◌∙◌, ap}
use mathlib.Core.Logic.{⊎_elim}
use mathlib.Core.Bool.{Bool, true, false, true≢false}
use mathlib.Core.List.{List}
use Prim.Native.Nat.{ℕ, ◌≤◌, ◌<◌}
use native.Mathlib.Nat.{mod-eq_of_lt}
use native.Mathlib.Omega.{arith}
use lib.Dec.{ltb}
use borrow.Author.Tests.{lt-ltb, le-ltb, ltb-true, ltb-false}
use Rattle.std.proofs.Common.{Result, Ok, Err}
use Rattle.basis.proofs.Cases.{split}
use Rattle.parts.specs.declared.format.Format.{Format}
use Rattle.parts.specs.declared.format.Format.TheVariants.{Ef9366}
use Rattle.parts.specs.declared.refusal.Refusal.{Refusal}
use Rattle.parts.specs.Format.{format_at, format_named}
use Rattle.gdp.specs.Flat.{format_in}
use Rattle.pbm.specs.declared.answer.Answer.{Answer}
use Rattle.pbm.specs.Calls.{Outcome, Leaves}
use Rattle.card.specs.Numbered.{numbered}

named : Result Format Refusal → Bool
named (Ok f) = true
named (Err why) = false

of_name : Result Format Refusal → Format
of_name (Ok f) = f
of_name (Err why) = Ef9366

-- a number that names a format is below 3, and the format is the one in a byte's lowest bits
pub by_name : {n : ℕ} {f : Format} → format_named n ≡ Ok f → (n < 3) × (f ≡ format_at (format_in n))
unfolding format_named named of_name
by_name {n} {f} e =
    ⊎_elim
    (λ (t : ltb n 3 ≡ true).
    let low : n < 3 = ltb-true n 3 t in
    let own : format_at n ≡ f = ap of_name (rw t at e) in
    (low, sym own ∙ sym (ap format_at (mod-eq_of_lt {n = n} {m = 8} (omega arith)))))
    (λ (t : ltb n 3 ≡ false). absurd (true≢false (sym (ap named (rw t at e)))))
    (split (ltb n 3))

-- and one that names none is not
pub by_no_name : {n : ℕ} {why : Refusal} → format_named n ≡ Err why → 3 ≤ n
unfolding format_named named
by_no_name {n} e =
    ⊎_elim
    (λ (t : ltb n 3 ≡ true). absurd (true≢false (ap named (rw t at e))))
    (λ (t : ltb n 3 ≡ false). ltb-false n 3 t)
    (split (ltb n 3))

module _ (call : Format → List ℕ → List ℕ → Outcome) {n : ℕ} (source : List ℕ) {memory : List ℕ} {r : Answer} where
  pub by_number : {f : Format} {after : List ℕ} → n < 3 → f ≡ format_at (format_in n) → Leaves (call f source memory) r after
      → Leaves (numbered call n source memory) r after
  unfolding numbered
  by_number {f} h e l =
      let own : f ≡ format_at n = e ∙ ap format_at (mod-eq_of_lt {n = n} {m = 8} (omega arith)) in
      rw (lt-ltb n 3 h) (rw own at l)

  pub by_none : 3 ≤ n → r ≡ record { number = 2; value = 0 } → Leaves (numbered call n source memory) r memory
  unfolding numbered
  by_none h e = rw (le-ltb n 3 h) (record { answers = e; memory = refl })
