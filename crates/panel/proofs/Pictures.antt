-- The picture of a log: refused where the buffer is short or the log too long, else written as the lines leave it.
-- Assumes nothing.
use mathlib.Core.Path.{◌≡◌, refl}
use mathlib.Core.List.{List}
use Prim.Native.Nat.{ℕ, ◌≤◌, ◌<◌}
use lib.ListN.{length}
use borrow.Author.Tests.{lt-ltb, le-ltb}
use Rattle.std.proofs.Common.{Result}
use Rattle.text.specs.Pieces.{lines_of}
use Rattle.parts.specs.declared.refusal.Refusal.{Refusal}
use Rattle.parts.specs.declared.format.Format.TheVariants.{Ef9366}
use Rattle.pbm.specs.declared.answer.Answer.{Answer}
use Rattle.pbm.specs.Calls.{file_of, written_out, told, Leaves}
use Rattle.pbm.proofs.Settled.{leaves_settles, told_apart}
use Rattle.panel.specs.Panel.{dark, card, shown}
use Rattle.panel.specs.Screen.{screen}

-- n bytes are those of every file
module _ (input buffer : List ℕ) {r : Answer} {n : ℕ} (size : (pic : List ℕ) → n ≡ length (file_of Ef9366 pic)) where
  pub screen_short : length buffer < n → r ≡ record { number = 9; value = 0 } → Leaves (screen input buffer) r buffer
  unfolding screen
  screen_short h e = rw (← size dark, lt-ltb (length buffer) n h) (record { answers = e; memory = refl })

  module _ (room : n ≤ length buffer) where
    pub screen_long : 65536 < length input → r ≡ record { number = 21; value = 0 } → Leaves (screen input buffer) r buffer
    unfolding screen
    screen_long h e =
        rw (← size dark, le-ltb (length buffer) n room, lt-ltb 65536 (length input) h) (record { answers = e; memory = refl })

    pub screen_shown : {pic after : List ℕ} → length input ≤ 65536 → pic ≡ (shown card (lines_of input)).memory.picture
        → Leaves (written_out Ef9366 pic buffer) r after → Leaves (screen input buffer) r after
    unfolding screen
    screen_shown h e l = rw (← size dark, le-ltb (length buffer) n room, le-ltb 65536 (length input) h) (rw e at l)

-- the statement settles its result
pub screen_settled : (input buffer : List ℕ) {r q : Answer} {m n : List ℕ}
    → Leaves (screen input buffer) r m → Leaves (screen input buffer) q n → (r ≡ q) × (m ≡ n)
screen_settled input buffer = leaves_settles

-- and so the call's own, a length or a refusal
pub result_settled : (input buffer : List ℕ) {r q : Result ℕ Refusal} {m n : List ℕ}
    → Leaves (screen input buffer) (told r) m → Leaves (screen input buffer) (told q) n → (r ≡ q) × (m ≡ n)
result_settled input buffer {r} {q} l k =
    let (answers, memories) = leaves_settles l k in
    (told_apart r q answers, memories)
