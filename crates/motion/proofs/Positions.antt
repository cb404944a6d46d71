-- The laws of positions: how moves on and back around 4,096 compose and undo each other.
-- Assumes nothing.
use mathlib.Core.Path.{◌≡◌, sym, ap, ◌∙◌}
use mathlib.Core.Bool.{Bool, true, false}
use Prim.Native.Nat.{ℕ, ◌+◌, ◌-◌, ◌%◌, ◌<◌, ◌≤◌}
use native.Mathlib.Nat.{add_comm}
use native.Mathlib.Omega.{arith}
use Rattle.motion.specs.declared.position.Spot.{Spot}
use Rattle.motion.specs.Position.{ahead, behind, signed, spot, moved, moved_back}

-- a position moved on is one of 12 bits
pub ahead_range : (p n : ℕ) → ahead p n < 4096
ahead_range p n = omega arith

-- and so is one moved back
pub behind_range : (p n : ℕ) → behind p n < 4096
behind_range p n = omega arith

-- a move on by 0 moves nothing
pub ahead_zero : (p : ℕ) → p < 4096 → ahead p 0 ≡ p
ahead_zero p h = omega arith

-- nor does a move back by 0
pub behind_zero : (p : ℕ) → p < 4096 → behind p 0 ≡ p
behind_zero p h = omega arith

-- two moves on are one move by the sum
pub ahead_ahead : (p m n : ℕ) → ahead (ahead p m) n ≡ ahead p (m + n)
ahead_ahead p m n = omega arith

-- and by any other number that is as much modulo 4,096
pub ahead_sum : (p m n k : ℕ) → (m + n) % 4096 ≡ k % 4096 → ahead (ahead p m) n ≡ ahead p k
ahead_sum p m n k e = ahead_ahead p m n ∙ omega arith

-- a move back undoes a move on
pub behind_ahead : (p n : ℕ) → p < 4096 → behind (ahead p n) n ≡ p
behind_ahead p n h = omega arith

-- and a move on a move back
pub ahead_behind : (p n : ℕ) → p < 4096 → ahead (behind p n) n ≡ p
ahead_behind p n h = omega arith

-- n back is 4,096 less n on
pub behind_is : (p n : ℕ) → n ≤ 4096 → behind p n ≡ ((p + 4096) - n) % 4096
behind_is p n h = omega arith

-- two moves back are one move by the sum: what is ahead of both by m + n is p
-- (omega has too many remainders to go by here: by the laws above)
pub behind_behind : (p m n : ℕ) → behind (behind p m) n ≡ behind p (m + n)
behind_behind p m n =
    let q = behind (behind p m) n in
    let low : ahead (behind p m) m ≡ p % 4096 = omega arith in
    let there : ahead q (n + m) ≡ p % 4096 =
    sym (ahead_ahead q n m) ∙ ap (λ (r : ℕ). ahead r m) (ahead_behind (behind p m) n (behind_range p m)) ∙ low in
    let whole : behind (p % 4096) (n + m) ≡ behind p (n + m) = omega arith in
    sym (behind_ahead q (n + m) (behind_range (behind p m) n)) ∙ ap (λ (r : ℕ). behind r (n + m)) there ∙ whole
    ∙ ap (behind p) (add_comm n m)

-- what `signed` adds for a move back goes back
pub signed_back : (p n : ℕ) → n ≤ 4096 → ahead p (signed true n) ≡ behind p n
signed_back p n h = omega arith

-- a signed distance is at most 4,096
pub signed_range : (back : Bool) (n : ℕ) → n ≤ 4096 → signed back n ≤ 4096
signed_range true n h = omega arith
signed_range false n h = h

-- that of 0 adds nothing, though 0 back is 4,096
pub signed_zero : (back : Bool) (p : ℕ) → p < 4096 → ahead p (signed back 0) ≡ p
signed_zero true p h = omega arith
signed_zero false p h = omega arith

-- two moves the same way are one move by the sum
pub signed_more : (back : Bool) (p m n : ℕ) → m + n ≤ 4096
    → ahead (ahead p (signed back m)) (signed back n) ≡ ahead p (signed back (m + n))
signed_more true p m n h = omega arith
signed_more false p m n h = ahead_ahead p m n

-- a place is its two numbers
pub same_spot : {s t : Spot} → s.x ≡ t.x → s.y ≡ t.y → s ≡ t
same_spot ex ey = λ j. spot (ex j) (ey j)

-- moved back and on again, a place is the same
pub back_and_on : (at way : Spot) → at.x < 4096 → at.y < 4096 → at ≡ moved (moved_back at way) way
unfolding moved moved_back
back_and_on at way hx hy = same_spot (sym (ahead_behind at.x way.x hx)) (sym (ahead_behind at.y way.y hy))
