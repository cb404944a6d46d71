-- The head of a file with white space of any amount: its parts are found.
-- Assumes nothing.
use mathlib.Core.Path.{◌≡◌, refl, ap, ◌∙◌}
use mathlib.Core.Bool.{true, false, false≢true}
use mathlib.Core.List.{List, [], ◌∷◌, ◌++◌}
use Prim.Native.Nat.{ℕ, zero, suc}
use borrow.Author.Tests.{eq-eqb}
use lib.ListN.{get_or}
use Rattle.text.specs.Numbers.{digit_value, are_digits, number_from, decimal, decimal_by}
use Rattle.parts.specs.declared.format.Format.{Format}
use Rattle.parts.specs.declared.format.Format.TheVariants.{Ef9366, FmatHigh, FmatLow}
use Rattle.parts.specs.Format.{width, height}
use Rattle.pbm.specs.Contents.{passed, is_digit, digits, behind_digits, from_width, from_height, from_dots, marked, opens, sized_as}
use Rattle.pbm.specs.Spaced.{parts, padded}
use Rattle.pbm.proofs.Gaps.{gap_passed, gap_first, gap_part, passed_digit, digits_read, zeros_digits, zeros_number}

-- a text of digits, at least one, whose number is n
pub record Whole (xs : List ℕ) (n : ℕ) : Type 0 where
  pub some : is_digit (get_or xs 0 0) ≡ true
  pub all : are_digits 10 xs ≡ true
  pub number : number_from 10 0 xs ≡ n

-- the numbers of every format, as they are written
pub format_numbers : (f : Format) → Whole (decimal (width f)) (width f) × Whole (decimal (height f)) (height f)
unfolding width height decimal decimal_by is_digit digit_value are_digits number_from
format_numbers Ef9366 = (record { some = refl; all = refl; number = refl }, record { some = refl; all = refl; number = refl })
format_numbers FmatHigh = (record { some = refl; all = refl; number = refl }, record { some = refl; all = refl; number = refl })
format_numbers FmatLow = (record { some = refl; all = refl; number = refl }, record { some = refl; all = refl; number = refl })

-- and with zeros before them
pub padded_whole : (z n : ℕ) → Whole (decimal n) n → Whole (padded z n) n
unfolding padded is_digit digit_value
padded_whole zero n w = w
padded_whole (suc z) n w =
    record { some = refl; all = zeros_digits (suc z) (decimal n) w.all; number = zeros_number (suc z) (decimal n) ∙ w.number }

-- nothing of a number is passed over, and a digit is its first byte
whole_passed : (xs rest : List ℕ) → is_digit (get_or xs 0 0) ≡ true
    → (passed false (xs ++ rest) ≡ xs ++ rest) × (is_digit (get_or (xs ++ rest) 0 0) ≡ true)
unfolding is_digit digit_value
whole_passed [] rest e = absurd (false≢true e)
whole_passed (b ∷ bs) rest e = (passed_digit b (bs ++ rest) e, e)

-- a number stands behind a gap
behind_gap : (g xs rest : List ℕ) → parts g ≡ true → is_digit (get_or xs 0 0) ≡ true → passed false (g ++ (xs ++ rest)) ≡ xs ++ rest
behind_gap g xs rest p e = gap_passed false g (xs ++ rest) (gap_part g p) ∙ (whole_passed xs rest e).0

-- a file whose head is good: its dots stand in what is left
pub record Good (w h : ℕ) (text left : List ℕ) : Type 0 where
  pub opened : opens text ≡ true
  pub sized : sized_as w h text ≡ true
  pub dots : from_dots text ≡ left

-- P1, a gap, a number, a gap, a number, a gap and the rest
module _ (g₁ xs g₂ ys g₃ rest : List ℕ) (w h : ℕ) (p₁ : parts g₁ ≡ true) (p₂ : parts g₂ ≡ true) (p₃ : parts g₃ ≡ true)
    (x : Whole xs w) (y : Whole ys h) where
  abbrev text : List ℕ
  text = 80 ∷ 49 ∷ (g₁ ++ (xs ++ (g₂ ++ (ys ++ (g₃ ++ rest)))))

  from_width_lem : from_width text ≡ xs ++ (g₂ ++ (ys ++ (g₃ ++ rest)))
  unfolding from_width
  from_width_lem = behind_gap g₁ xs (g₂ ++ (ys ++ (g₃ ++ rest))) p₁ x.some

  width_read : (digits (from_width text) ≡ xs) × (behind_digits (from_width text) ≡ g₂ ++ (ys ++ (g₃ ++ rest)))
  width_read = rw from_width_lem (digits_read xs (g₂ ++ (ys ++ (g₃ ++ rest))) x.all (gap_first g₂ (ys ++ (g₃ ++ rest)) p₂).1)

  from_height_lem : from_height text ≡ ys ++ (g₃ ++ rest)
  unfolding from_height
  from_height_lem = ap (passed false) width_read.1 ∙ behind_gap g₂ ys (g₃ ++ rest) p₂ y.some

  height_read : (digits (from_height text) ≡ ys) × (behind_digits (from_height text) ≡ g₃ ++ rest)
  height_read = rw from_height_lem (digits_read ys (g₃ ++ rest) y.all (gap_first g₃ rest p₃).1)

  pub good_head : Good w h text (g₃ ++ rest)
  unfolding opens marked sized_as from_dots
  good_head =
      record {
        opened =
            rw (
              (gap_first g₁ (xs ++ (g₂ ++ (ys ++ (g₃ ++ rest)))) p₁).0,
              from_width_lem,
              (whole_passed xs (g₂ ++ (ys ++ (g₃ ++ rest))) x.some).1,
              from_height_lem,
              (whole_passed ys (g₃ ++ rest) y.some).1,
            );
        sized = rw (width_read.0, height_read.0, eq-eqb _ w x.number, eq-eqb _ h y.number);
        dots = height_read.1;
      }
