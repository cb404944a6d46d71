-- Case analysis: on a test, on two numbers in either order.
-- Assumes nothing.
use mathlib.Core.Path.{◌≡◌, refl}
use mathlib.Core.Logic.{◌⊎◌, inl, inr, ⊎_elim}
use Prim.Native.Nat.{ℕ, ◌≤◌, ◌<◌}
use borrow.Author.Tests.{ltb-true, ltb-false}
use mathlib.Core.Bool.{Bool, true, false, cond, ◌&&◌, ◌||◌, true≢false, false≢true}
use lib.Dec.{T, ltb}

-- a test holds or it does not
pub split : (b : Bool) → (b ≡ true) ⊎ (b ≡ false)
split true = inl refl
split false = inr refl

-- what both arms of a choice have, each under its own answer to the test, the choice has
pub cond_case : {A : Type 0} (P : A → Type 0) (b : Bool) {x y : A} → (b ≡ true → P x) → (b ≡ false → P y) → P (cond b x y)
cond_case P true h k = h refl
cond_case P false h k = k refl

-- a choice between a function's values is its value at the choice
pub cond_ap : {A B : Type 0} (f : A → B) (b : Bool) (x y : A) → cond b (f x) (f y) ≡ f (cond b x y)
cond_ap f true x y = refl
cond_ap f false x y = refl

-- an or is false exactly where both its parts are
pub or_parts : (a b : Bool) → (a || b) ≡ false → (a ≡ false) × (b ≡ false)
or_parts true b e = absurd (true≢false e)
or_parts false b e = (refl, e)

pub or_both : {a b : Bool} → a ≡ false → b ≡ false → (a || b) ≡ false
or_both p q = rw (p, q)

-- and true where one of them is
pub or_cases : (a b : Bool) → (a || b) ≡ true → (a ≡ true) ⊎ (b ≡ true)
or_cases true b e = inl refl
or_cases false b e = inr e

-- an and is true exactly where both its parts are
pub and_parts : (a b : Bool) → (a && b) ≡ true → (a ≡ true) × (b ≡ true)
and_parts true b e = (refl, e)
and_parts false b e = absurd (false≢true e)

-- a test that passes
pub passed : (b : Bool) → T b → b ≡ true
passed true t = refl
passed false t = absurd t

pub and_left : (a b : Bool) → T (a && b) → T a
and_left true b t = tt
and_left false b t = t

pub and_right : (a b : Bool) → T (a && b) → T b
and_right true b t = t
and_right false b t = absurd t

-- a number is below another or not
pub less : (m n : ℕ) → (m < n) ⊎ (n ≤ m)
less m n = ⊎_elim (λ t. inl (ltb-true m n t)) (λ t. inr (ltb-false m n t)) (split (ltb m n))
