-- The forms of statement that the functions use settle their results: any two results that a form allows are equal.
-- Assumes nothing.
use mathlib.Core.Path.{◌≡◌, sym, ap, ◌∙◌}
use mathlib.Core.Bool.{Bool, cond}
use mathlib.Core.List.{List, ◌++◌}
use Prim.Native.Nat.{ℕ, ◌<◌}
use native.Mathlib.Nat.{le_antisymm, lt_of_not-le, le_of_suc-le-suc}
use native.Mathlib.Omega.{arith}
use lib.ListN.{take, drop, take-append-drop}
use Rattle.text.specs.Found.{Found}
use Rattle.text.specs.Numbers.{number_from}
use Rattle.text.specs.Taken.{Taken}
use Rattle.text.specs.Wrote.{Wrote}

-- a search: no place found lies before another
not_before : {s : List ℕ} {from b r q : ℕ} → Found s from b r → Found s from b q → r < q → ⊥
not_before {r = r} f g l =
    let low = f.low in
    let high = g.high in
    g.none r low l (f.here (omega arith))

pub found_settles : {s : List ℕ} {from b r q : ℕ} → Found s from b r → Found s from b q → r ≡ q
found_settles f g =
    le_antisymm (le_of_suc-le-suc (lt_of_not-le (not_before g f))) (le_of_suc-le-suc (lt_of_not-le (not_before f g)))

-- a field taken for a number
pub taken_settles : {base most : ℕ} {f : List ℕ} {ok sure : Bool} {n m : ℕ}
    → Taken base most f ok n → Taken base most f sure m → (ok ≡ sure) × (n ≡ m)
taken_settles {base} {f = f} t u =
    let same = t.is ∙ sym u.is in
    (same, t.number ∙ ap (λ (b : Bool). cond b (number_from base 0 f) 0) same ∙ sym u.number)

-- a text written into a buffer: the place behind it, and the whole buffer
wrote_whole : {a text b : List ℕ} {at r : ℕ} → Wrote a at text b r → b ≡ (take at a ++ text) ++ drop r a
wrote_whole {b = b} {r = r} w = sym (take-append-drop r b) ∙ rw (w.bytes, w.rest)

pub wrote_settles : {a text b c : List ℕ} {at r q : ℕ}
    → Wrote a at text b r → Wrote a at text c q → (r ≡ q) × (b ≡ c)
wrote_settles {a} {text} {at = at} v w =
    let same = v.end ∙ sym w.end in
    (same, wrote_whole v ∙ ap (λ (n : ℕ). (take at a ++ text) ++ drop n a) same ∙ sym (wrote_whole w))
