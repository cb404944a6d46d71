-- The laws of writing one text behind another.
-- Assumes nothing.
use mathlib.Core.Path.{◌≡◌, refl, ◌∙◌}
use mathlib.Core.List.{List, [], ◌∷◌, ◌++◌, append_assoc, append-nil}
use Prim.Native.Nat.{ℕ, ◌+◌, ◌-◌, ◌≤◌}
use native.Mathlib.Omega.{arith}
use lib.ListN.{length, drop, length-append, length-drop}
use lib.Seq.{length-take-le, drop-drop}
use Rattle.std.proofs.lemmas.Slice.{take-put_mid, drop-put_mid}
use borrow.Rule.Slice.PartMut.{put_mid}
use Rattle.text.specs.Pieces.{tab, line_feed}
use Rattle.text.specs.Wrote.{Wrote}
use Rattle.text.specs.Working.Writes.{Writes}
use Rattle.text.specs.declared.write.Writer.{Writer}

-- what is the same from a place on is so from any later one
pub same_later : (a b : List ℕ) (m n : ℕ) → m ≤ n → drop m a ≡ drop m b → drop n a ≡ drop n b
same_later a b m n h e =
    let past : m + (n - m) ≡ n = omega arith in
    rw (← past, ← drop-drop (n - m) m a, ← drop-drop (n - m) m b, e)

module _ {a : List ℕ} {at : ℕ} where
  -- nothing
  pub wrote_none : Wrote a at [] a at
  wrote_none = record { end = omega arith; size = refl; bytes = rw append-nil; rest = refl }

  -- some bytes at once, where a part of the buffer is changed to them
  pub wrote_all : (k n : ℕ) (ys : List ℕ) → k ≡ length ys → n ≡ at + length ys → n ≤ length a → Wrote a at ys (put_mid at k a ys) n
  wrote_all k n ys e f h =
      record {
        end = f;
        size = simp (length-append, length-drop) (omega (arith, length-take-le at a (omega arith)));
        bytes = take-put_mid at k a ys n f (omega arith);
        rest = drop-put_mid at k a ys n (omega arith) (omega arith) (omega arith);
      }

  -- a text and then another are both in one
  pub wrote_more : {xs ys b c : List ℕ} {r q : ℕ} → Wrote a at xs b r → Wrote b r ys c q → Wrote a at (xs ++ ys) c q
  wrote_more {xs} {ys} {b} {c} {r} {q} v w =
      record {
        end = omega (arith, v.end, w.end, length-append xs ys);
        size = w.size ∙ v.size;
        bytes = w.bytes ∙ rw (v.bytes, append_assoc);
        rest = w.rest ∙ same_later b a r q (omega (arith, w.end)) v.rest;
      }

-- the same of a writer, which keeps its buffer
module _ {a : Writer} where
  -- nothing
  pub writes_none : Writes a [] a
  writes_none = record { same = refl; wrote = wrote_none }

  -- a text and then another are both in one
  pub writes_more : {xs ys : List ℕ} {b c : Writer} → Writes a xs b → Writes b ys c → Writes a (xs ++ ys) c
  writes_more v w = record { same = w.same ∙ v.same; wrote = wrote_more v.wrote w.wrote }

  -- a text of at most k bytes ends within them
  pub writes_within : {xs : List ℕ} {b : Writer} {k : ℕ} → length xs ≤ k → Writes a xs b → Writes a xs b × (b.at ≤ a.at + k)
  writes_within most w = (w, omega (arith, w.wrote.end))

-- how long a line of a letter and two texts is: two tabs and the line feed count too
pub pair_length : (b : ℕ) (xs ys : List ℕ)
    → length (b ∷ tab ∷ (xs ++ (tab ∷ (ys ++ (line_feed ∷ []))))) ≡ 4 + (length xs + length ys)
pair_length b xs ys = simp length-append (omega arith)
