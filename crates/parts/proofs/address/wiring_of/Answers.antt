-- `parts::address::wiring_of` meets its contract, format by format.
-- Assumes nothing.
use mathlib.Core.Bool.{true}
use Prim.Native.Nat.{◌/◌}
use native.Mathlib.Omega.{arith}
use Rattle.picture.specs.Bit.{bit_at}
use Rattle.picture.proofs.Laws.{bit_digit}
use Rattle.parts.proofs.Joins.{shown}
use Rattle.parts.proofs.Select.{three_and_one, one_low}
use Rattle.parts.proofs.address.wiring_of.Goals as goal

pub returns-in-Ef9366 : goal.returns-in-Ef9366
returns-in-Ef9366 c =
    let x = c.args.x in
    let y = c.args.y in
    rw c.in-Ef9366.is
    (record {
      low = shown (x / 2) y 7;
      high = shown y (y / 2) 0;
      bit = omega arith;
      msl = three_and_one x true;
    })

pub returns-in-FmatHigh : goal.returns-in-FmatHigh
returns-in-FmatHigh c =
    let x = c.args.x in
    let y = c.args.y in
    rw c.in-FmatHigh.is
    (record {
      low = shown (x / 2) (y / 2) 7;
      high = shown (y / 2) y 0;
      bit = omega arith;
      msl = omega (arith, three_and_one x (bit_at 2 y), bit_digit 2 y);
    })

pub returns-in-FmatLow : goal.returns-in-FmatLow
returns-in-FmatLow c =
    let x = c.args.x in
    let y = c.args.y in
    rw c.in-FmatLow.is
    (record {
      low = shown x y 7;
      high = shown y (y / 2) 0;
      bit = omega arith;
      msl = one_low x;
    })
