use Rattle.std.proofs.Common.{rules, ◌≡◌}
use Rattle.std.specs.Result.{result_map_both}
use Rattle.reading.specs.RuleSheets.{automaton_of}
use Rattle.games.specs.SheetMachines.{machine_of}
use Rattle.checking.specs.Faults.{told as check_told}
use Rattle.review.specs.Verdicts.{told, check_line}
use Rattle.review.proofs.VerdictLaws.{judged}
use Rattle.review.proofs.cases.Case.judge.Goals as goal

pub returns : goal.returns
returns c =
    let g = c.in_ok-game.game in
    let l : told c.map_err-4.result ≡ result_map_both (λ b. b) check_line (check_told c.check.result) = search rules in
    judged c.args.self.now c.in_ok-table.table c.in_ok-deal.deal (machine_of g.below) (automaton_of g.rule) _
    (record { game = search rules; phases = search rules; table = search rules; terms = search rules })
    (search rules) (search rules) (search rules) (rw (c.check.ensures.first) at l)
