-- `gdp::state::Gdp::set_vb` meets its contract: each refusal in turn; then the present level, a fall or a rise.
-- Assumes nothing.
use mathlib.Core.Path.{◌≡◌, refl, sym, ◌∙◌}
use mathlib.Core.Bool.{false}
use Rattle.std.proofs.Common.{rules}
use Rattle.parts.specs.Refusal.{lowest}
use Rattle.parts.proofs.Laws.{lowest_first}
use Rattle.rules.specs.Refusals.{wrong_picture}
use Rattle.gdp.specs.Flat.{state_of}
use Rattle.gdp.specs.Calls.{flawed}
use Rattle.gdp.proofs.Flaws.{sound_named}
use Rattle.gdp.proofs.Told.{passed, vb_code, vb_refused}
use Rattle.gdp.proofs.Frames.{vb_same, vb_falls, vb_rises}
use Rattle.gdp.proofs.state.Gdp.set_vb.Goals as goal
use Rattle.gdp.proofs.state.Gdp.set_vb.Goals.{In_ok-checked, In_ok-check_picture}

pub returns-in_err-checked : goal.returns-in_err-checked
returns-in_err-checked c =
    let why = c.in_err-checked.field-0.0 in
    vb_refused _ _ _ why (search rules) (lowest_first why _ _ c.in_err-checked.ensures)

-- past refusal 1 the bytes are not flawed
sound : (c : In_ok-checked) → flawed c.args.self ≡ false
sound c = passed c.args.self c.in_ok-checked.ensures

pub returns-in_err-check_picture : goal.returns-in_err-check_picture
unfolding lowest wrong_picture state_of
returns-in_err-check_picture c =
    let sound = sound (goal.at.returns-in_err-check_picture c).In_ok-checked in
    vb_refused _ _ _ c.in_err-check_picture.field-0.0 (search rules) (c.in_err-check_picture.ensures ∙ rw sound refl)

-- and past refusal 2 the call is accepted
zero : (c : In_ok-check_picture) → vb_code c.args.self c.args.pic.now ≡ 0
unfolding lowest wrong_picture state_of
zero c = rw (passed c.args.self c.in_ok-checked.ensures) (sym c.in_ok-check_picture.ensures)

pub returns-then-level : goal.returns-then-level
returns-then-level c =
    let a = c.args in
    let h = goal.at.returns-then-level c in
    rw (c.accepted.ensures, c.tidy.ensures (sound_named a.self (sound h.In_ok-checked)))
    (vb_same a.self a.pic.now (zero h.In_ok-check_picture) (sym c.is_vb_high.ensures ∙ c.if-is_vb_high.true ∙ sym c.if-level.true))

pub returns-then-is_vb_high : goal.returns-then-is_vb_high
returns-then-is_vb_high c =
    let a = c.args in
    let h = goal.at.returns-then-is_vb_high c in
    rw (c.accepted-then-is_vb_high.ensures, c.fallen.ensures (state_of a.self) (c.tidy-then-is_vb_high.ensures (sound_named a.self (sound h.In_ok-checked))))
    (vb_falls a.self a.pic.now (zero h.In_ok-check_picture) (sym c.is_vb_high.ensures ∙ c.if-is_vb_high.true) c.if-level.false)

pub returns-then-level-2 : goal.returns-then-level-2
returns-then-level-2 c =
    let a = c.args in
    let h = goal.at.returns-then-level-2 c in
    let low = sym c.is_vb_high.ensures ∙ c.if-is_vb_high.false in
    rw (c.accepted-then-level-2.ensures, c.risen.ensures (sound_named a.self (sound h.In_ok-checked)))
    (vb_rises a.self a.pic.now (zero h.In_ok-check_picture) low c.if-level-2.true (c.clear_picture.ensures low))

pub returns : goal.returns
returns c =
    let a = c.args in
    let h = goal.at.returns c in
    rw (c.accepted-2.ensures, c.tidy-2.ensures (sound_named a.self (sound h.In_ok-checked)))
    (vb_same a.self a.pic.now (zero h.In_ok-check_picture) (sym c.is_vb_high.ensures ∙ c.if-is_vb_high.false ∙ sym c.if-level-2.false))
