-- `pbm::signs::are_eight` meets its contract: the fold goes through all the signs.
-- Assumes nothing.
use Rattle.std.proofs.Common.{◌≡◌, true, ◌&&◌, ◌∙◌, rules}
use Rattle.std.specs.List.{fold}
use Rattle.std.proofs.iter.runs.Made.{chains}
use Rattle.pbm.specs.Contents.{is_dot}
use Rattle.pbm.proofs.Eights.{all_dots}
use Rattle.pbm.proofs.signs.are_eight.Goals as goal

pub returns : goal.returns
returns c =
    let folded : c.fold.result ≡ fold (λ dots b. dots && is_dot b) true c.args.signs.now = search (rules, chains) in
    folded ∙ all_dots c.args.signs.now
