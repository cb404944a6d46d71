-- A part of a picture is a picture: what the file says of it is what it says of the whole there.
-- Assumes nothing.
use mathlib.Core.Path.{◌≡◌, refl, sym, ap, ◌∙◌}
use mathlib.Core.List.{List, [], ◌∷◌, ◌++◌}
use Prim.Native.Nat.{ℕ, zero, suc, ◌+◌, ◌-◌, ◌*◌, ◌/◌, ◌%◌, ◌≤◌, ◌<◌}
use native.Mathlib.Nat.{suc-mul, zero-mul, mul_comm, div-add-mod}
use native.Mathlib.Omega.{arith}
use lib.ListN.{length, take, drop, length-append, length-drop, take-append-drop, get_or-append}
use lib.Seq.{get_or-append-add, drop_at, drop-drop, length-take-le}
use native.Mathlib.Numerals.{add-one}
use Rattle.std.proofs.lemmas.List.{nil_from_length}
use Rattle.text.specs.Pieces.{line_feed}
use Rattle.text.specs.Working.Writes.{Room, Writes}
use Rattle.text.specs.declared.write.Writer.{Writer}
use Rattle.text.proofs.Laws.{writes_none, writes_more}
use Rattle.picture.specs.Bit.{bit_at}
use Rattle.picture.specs.Dot.{dot_at}
use Rattle.pbm.specs.File.{signs, file_lines, body}
use Rattle.pbm.proofs.Files.{body_line, lines_more, lines_length}

module _ (xs ys : List ℕ) where
  -- the dots of the first part, and those of the second
  dot_front : (d : ℕ) → d < 8 * length xs → dot_at (xs ++ ys) d ≡ dot_at xs d
  unfolding dot_at
  dot_front d h = ap (bit_at (d % 8)) (get_or-append xs ys 0 (d / 8) (omega arith))

  dot_back : (d : ℕ) → dot_at (xs ++ ys) (8 * length xs + d) ≡ dot_at ys d
  unfolding dot_at
  dot_back d =
      let bit : (8 * length xs + d) % 8 ≡ d % 8 = omega arith in
      let byte : (8 * length xs + d) / 8 ≡ length xs + d / 8 = omega arith in
      rw (bit, byte, get_or-append-add xs ys (d / 8) 0)

  -- so their signs
  signs_front : (d n : ℕ) → d + n ≤ 8 * length xs → signs (xs ++ ys) d n ≡ signs xs d n
  unfolding signs
  signs_front d zero h = refl
  signs_front d (suc n) h = rw (dot_front d (omega arith), signs_front (suc d) n (omega arith))

  signs_back : (d n : ℕ) → signs (xs ++ ys) (8 * length xs + d) n ≡ signs ys d n
  unfolding signs
  signs_back d zero = refl
  signs_back d (suc n) =
      let next : suc (8 * length xs + d) ≡ 8 * length xs + suc d = omega arith in
      rw (dot_back d, next, signs_back (suc d) n)

  -- their lines
  lines_front : (d k : ℕ) → d + 64 * k ≤ 8 * length xs → file_lines (xs ++ ys) d k ≡ file_lines xs d k
  unfolding file_lines
  lines_front d zero h = refl
  lines_front d (suc k) h = rw (signs_front d 64 (omega arith), lines_front (d + 64) k (omega arith))

  lines_back : (d k : ℕ) → file_lines (xs ++ ys) (8 * length xs + d) k ≡ file_lines ys d k
  unfolding file_lines
  lines_back d zero = refl
  lines_back d (suc k) =
      let next : 8 * length xs + d + 64 ≡ 8 * length xs + (d + 64) = omega arith in
      rw (signs_back d 64, next, lines_back (d + 64) k)

  -- and the lowest lines of the picture
  body_front : (n y : ℕ) → y * (8 * n) ≤ length xs → body (64 * n) y (xs ++ ys) ≡ body (64 * n) y xs
  unfolding body
  body_front n zero h = refl
  body_front n (suc y) h =
      let size = suc-mul y (8 * n) in
      rw (
        body_line (xs ++ ys) n (suc y) y refl,
        body_line xs n (suc y) y refl,
        lines_front (8 * (y * (8 * n))) n (omega (arith, size)),
        body_front n y (omega (arith, size)),
      )

  -- the top line, which comes last, and then the lines below it
  pub body_last : (n y : ℕ) → length xs ≡ y * (8 * n) → length ys ≡ 8 * n
      → body (64 * n) (suc y) (xs ++ ys) ≡ file_lines ys 0 (length ys / 8) ++ body (64 * n) y xs
  body_last n y e h =
      let there : 8 * (y * (8 * n)) ≡ 8 * length xs + 0 = omega (arith, e) in
      let lines : length ys / 8 ≡ n = omega (arith, h) in
      rw (body_line (xs ++ ys) n (suc y) y refl, there, lines_back 0 n, lines, body_front n y (omega (arith, e)))

-- Eight bytes after eight bytes ---------------------------------------------------------------------------------------

-- of a line of the picture some bytes are left, and the lines of those before them are written
pub record Lines (line : List ℕ) (a : Writer) (rest : List ℕ) (w : Writer) : Type 0 where
  pub done : ℕ
  pub fits : 8 * done ≤ length line
  pub here : rest ≡ drop (8 * done) line
  pub wrote : Writes a (file_lines line 0 done) w

pub lines_none : {line rest : List ℕ} {w : Writer} → rest ≡ line → Lines line w rest w
unfolding file_lines
lines_none e = record { done = 0; fits = omega arith; here = e; wrote = writes_none }

module _ {line rest : List ℕ} {a w : Writer} (l : Lines line a rest w) where
  left : length rest ≡ length line - 8 * l.done
  left = ap length l.here ∙ length-drop (8 * l.done) line

  module _ (eight more : List ℕ) (e : rest ≡ eight ++ more) (size : length eight ≡ 8) where
    next : 8 * l.done + 8 ≤ length line
    next = omega (arith, left, l.fits, ap length e, length-append eight more, size)

    pub lines_room : Room (65 * (length line / 8)) a → Room 65 w
    lines_room r = let this = l.wrote.wrote in omega (arith, r, next, this.end, this.size, lines_length line 0 l.done)

    -- the signs of these bytes
    signs_here : signs line (0 + 64 * l.done) 64 ≡ signs eight 0 64
    signs_here =
        let before = take (8 * l.done) line in
        let whole : line ≡ before ++ (eight ++ more) =
        sym (take-append-drop (8 * l.done) line) ∙ ap (λ (xs : List ℕ). before ++ xs) (sym l.here ∙ e)
        in
        let at : 0 + 64 * l.done ≡ 8 * length before + 0 = omega (arith, length-take-le (8 * l.done) line l.fits) in
        ap (λ (xs : List ℕ). signs xs (0 + 64 * l.done) 64) whole
        ∙ ap (λ (d : ℕ). signs (before ++ (eight ++ more)) d 64) at
        ∙ signs_back before (eight ++ more) 0 64
        ∙ signs_front eight more 0 64 (omega (arith, size))

    pub lines_next : {v : Writer} → Writes w (signs eight 0 64 ++ (line_feed ∷ [])) v → Lines line a more v
    lines_next u =
        let behind : 8 * l.done + 8 ≡ 8 * (l.done + 1) = omega arith in
        record {
          done = l.done + 1;
          fits = omega (arith, next);
          here =
              sym (drop_at eight more 8 size)
              ∙ ap (drop 8) (sym e ∙ l.here)
              ∙ drop-drop 8 (8 * l.done) line
              ∙ ap (λ (d : ℕ). drop d line) behind;
          wrote = rw (add-one l.done, lines_more line 0 l.done, signs_here) (writes_more l.wrote u);
        }

  -- fewer than eight are left
  pub lines_all : length rest < 8 → Writes a (file_lines line 0 (length line / 8)) w
  lines_all h =
      let all : l.done ≡ length line / 8 = omega (arith, left, l.fits) in
      rw all at l.wrote

-- Line after line -----------------------------------------------------------------------------------------------------

-- of a picture some lines are left, the lowest, for which there is room: who writes them has written all
pub record Tops (n : ℕ) (pic : List ℕ) (a : Writer) (rest : List ℕ) (w : Writer) : Type 0 where
  pub lines : ℕ
  pub size : length rest ≡ lines * (8 * n)
  pub room : Room (lines * (65 * n)) w
  pub others : (b : Writer) → Writes w (body (64 * n) lines rest) b → Writes a (body (64 * n) (length pic / (8 * n)) pic) b

pub tops_none : {n : ℕ} {pic rest : List ℕ} {w : Writer} (rem : List ℕ) → (0 < n) × (n ≤ 8) × (length pic % (8 * n) ≡ 0)
    → pic ≡ rem ++ rest → length rem ≡ length pic % (8 * n) → Room (length pic / (8 * n) * (65 * n)) w → Tops n pic w rest w
tops_none {n} {pic} {rest} rem some e none r =
    let whole : rest ≡ pic = sym (e ∙ rw (nil_from_length rem (none ∙ some.2))) in
    let lines : length pic ≡ length pic / (8 * n) * (8 * n) =
    omega (arith, div-add-mod (length pic) (8 * n), some.2, mul_comm (length pic / (8 * n)) (8 * n))
    in
    record { lines = length pic / (8 * n); size = ap length whole ∙ lines; room = r; others = rw whole (λ b v. v) }

-- fewer bytes than a line has are none
no_line : (k s : ℕ) → k * s < s → k ≡ 0
no_line zero s h = refl
no_line (suc k) s h = absurd (omega (arith, suc-mul k s, h))

-- a line more of that many
line_before : (m s k : ℕ) → m + s ≡ k * s → 0 < s → (z : ℕ) × (k ≡ suc z) × (m ≡ z * s)
line_before m s zero e h = absurd (omega (arith, e, zero-mul s))
line_before m s (suc z) e h = (z, refl, omega (arith, suc-mul z s))

module _ {n : ℕ} {pic rest : List ℕ} {a w : Writer} (t : Tops n pic a rest w) (some : 0 < n) where
  module _ (others line : List ℕ) (e : rest ≡ others ++ line) (size : length line ≡ 8 * n) where
    before : (z : ℕ) × (t.lines ≡ suc z) × (length others ≡ z * (8 * n))
    before = line_before (length others) (8 * n) t.lines (omega (arith, ap length e, length-append others line, size, t.size)) (omega arith)

    text : length line / 8 ≡ n
    text = omega (arith, size)

    room : t.lines * (65 * n) ≡ before.0 * (65 * n) + 65 * n
    room = ap (λ (k : ℕ). k * (65 * n)) before.1 ∙ suc-mul before.0 (65 * n)

    pub tops_room : Room (65 * (length line / 8)) w
    tops_room = rw text (omega (arith, room, t.room))

    pub tops_more : {v : Writer} → Writes w (file_lines line 0 (length line / 8)) v → Tops n pic a others v
    tops_more {v} u =
        let this = u.wrote in
        record {
          lines = before.0;
          size = before.2;
          room = omega (arith, room, t.room, this.end, this.size, lines_length line 0 (length line / 8), text);
          others = λ b s. t.others b (rw (e, before.1, body_last others line n before.0 before.2 size) (writes_more u s));
        }

  -- none is left
  pub tops_all : length rest < 8 * n → Writes a (body (64 * n) (length pic / (8 * n)) pic) w
  unfolding body
  tops_all h =
      let none = no_line t.lines (8 * n) (omega (arith, t.size, h)) in
      (rw none at t.others) w writes_none
