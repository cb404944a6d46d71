-- The laws of the numbers: no refusal has 0 and no two have one; where the lowest is 0 no case applies, and it is never above the highest of its cases.
-- Assumes nothing.
use mathlib.Core.Path.{◌≡◌, refl, sym, ap, ◌∙◌}
use mathlib.Core.Bool.{Bool, true, false, cond, ◌&&◌}
use mathlib.Core.List.{[], ◌∷◌, ◌++◌}
use Prim.Native.Nat.{ℕ, ◌≤◌, ◌<◌}
use native.Mathlib.Omega.{arith}
use lib.Dec.{T, eqb, ltb, leb}
use borrow.Author.Tests.{ltb-true, leb-true}
use Rattle.basis.proofs.Cases.{passed, and_left, and_right}
use Rattle.parts.specs.declared.refusal.Refusal.{Refusal}
use Rattle.parts.specs.declared.refusal.Refusal.TheVariants.{BadState, BadPicture, BadTable, BadAddress, ReadOnly, Busy, OffScreen, ShortBuffer, NoPbm, OtherSize, BadDots, NoRecord, LongLog}
use Rattle.parts.specs.Refusal.{Cases, lowest, refusal_number}

-- 0 stands for acceptance
pub number_some : (why : Refusal) → refusal_number why ≡ 0 → ⊥
unfolding refusal_number
number_some BadState e = absurd (omega arith)
number_some BadPicture e = absurd (omega arith)
number_some BadTable e = absurd (omega arith)
number_some BadAddress e = absurd (omega arith)
number_some ReadOnly e = absurd (omega arith)
number_some Busy e = absurd (omega arith)
number_some OffScreen e = absurd (omega arith)
number_some ShortBuffer e = absurd (omega arith)
number_some NoPbm e = absurd (omega arith)
number_some OtherSize e = absurd (omega arith)
number_some BadDots e = absurd (omega arith)
number_some NoRecord e = absurd (omega arith)
number_some LongLog e = absurd (omega arith)

-- the refusal of a number
named : ℕ → Refusal
named n =
    cond (eqb n 1) BadState
    (cond (eqb n 2) BadPicture
    (cond (eqb n 3) BadTable
    (cond (eqb n 4) BadAddress
    (cond (eqb n 5) ReadOnly
    (cond (eqb n 6) Busy
    (cond (eqb n 8) OffScreen
    (cond (eqb n 9) ShortBuffer
    (cond (eqb n 10) NoPbm
    (cond (eqb n 11) OtherSize
    (cond (eqb n 12) BadDots
    (cond (eqb n 20) NoRecord LongLog)))))))))))

named_back : (why : Refusal) → named (refusal_number why) ≡ why
unfolding refusal_number named
named_back BadState = refl
named_back BadPicture = refl
named_back BadTable = refl
named_back BadAddress = refl
named_back ReadOnly = refl
named_back Busy = refl
named_back OffScreen = refl
named_back ShortBuffer = refl
named_back NoPbm = refl
named_back OtherSize = refl
named_back BadDots = refl
named_back NoRecord = refl
named_back LongLog = refl

-- two refusals of one number are one
pub number_apart : {r q : Refusal} → refusal_number r ≡ refusal_number q → r ≡ q
number_apart {r} {q} e = sym (named_back r) ∙ ap named e ∙ named_back q

-- every number has one or two digits
pub number_small : (why : Refusal) → refusal_number why < 100
unfolding refusal_number
number_small BadState = omega arith
number_small BadPicture = omega arith
number_small BadTable = omega arith
number_small BadAddress = omega arith
number_small ReadOnly = omega arith
number_small Busy = omega arith
number_small OffScreen = omega arith
number_small ShortBuffer = omega arith
number_small NoPbm = omega arith
number_small OtherSize = omega arith
number_small BadDots = omega arith
number_small NoRecord = omega arith
number_small LongLog = omega arith

-- no case applies
abbrev pub None : Cases → Type 0
None [] = Unit {0}
None (c ∷ cs) = (c.1 ≡ false) × None cs

-- no number is 0, which stands for acceptance; every number is at most n
abbrev pub numbered : Cases → Bool
numbered [] = true
numbered (c ∷ cs) = ltb 0 c.0 && numbered cs

abbrev pub up_to : ℕ → Cases → Bool
up_to n [] = true
up_to n (c ∷ cs) = leb c.0 n && up_to n cs

-- number 0 is given only where no refusal applies
not_taken : (b : Bool) (n m : ℕ) → 0 < n → cond b n m ≡ 0 → (b ≡ false) × (m ≡ 0)
not_taken true n m h e = absurd (omega arith)
not_taken false n m h e = (refl, e)

pub lowest_zero : (cs : Cases) → T (numbered cs) → lowest cs ≡ 0 → None cs
unfolding lowest
lowest_zero [] t e = tt
lowest_zero (c ∷ cs) t e =
    let some = ltb-true 0 c.0 (passed _ (and_left (ltb 0 c.0) (numbered cs) t)) in
    let h = not_taken c.1 c.0 (lowest cs) some e in
    (h.0, lowest_zero cs (and_right (ltb 0 c.0) (numbered cs) t) h.1)

-- a refusal that some cases give stands, whatever cases come after them
pub lowest_first : (why : Refusal) (cs ds : Cases) → refusal_number why ≡ lowest cs → refusal_number why ≡ lowest (cs ++ ds)
unfolding lowest
lowest_first why [] ds e = absurd (number_some why e)
lowest_first why (c ∷ cs) ds e = choice c.1 (refusal_number why) c.0 _ _ e (λ e. lowest_first why cs ds e)
  where
    choice : (b : Bool) (n m l k : ℕ) → n ≡ cond b m l → (n ≡ l → n ≡ k) → n ≡ cond b m k
    choice true n m l k e h = e
    choice false n m l k e h = h e

-- the number is at most the highest of the cases
pub lowest_most : (n : ℕ) (cs : Cases) → T (up_to n cs) → lowest cs ≤ n
unfolding lowest
lowest_most n [] t = omega arith
lowest_most n (c ∷ cs) t =
    choice c.1 (leb-true c.0 n (passed _ (and_left (leb c.0 n) (up_to n cs) t)))
    (lowest_most n cs (and_right (leb c.0 n) (up_to n cs) t))
  where
    choice : (b : Bool) {x y : ℕ} → x ≤ n → y ≤ n → cond b x y ≤ n
    choice true h k = h
    choice false h k = k
