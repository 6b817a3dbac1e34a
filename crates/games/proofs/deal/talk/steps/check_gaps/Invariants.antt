use Rattle.std.proofs.Common.{◌≡◌, None}
use Rattle.reading.specs.Firsts.{first_below}
use Rattle.games.specs.Deals.{gap_at}
use Rattle.games.proofs.deal.talk.steps.check_gaps.Given as goal

abbrev pub invariant-loop-phase : goal.invariant-loop-phase
invariant-loop-phase l = first_below l.phase (gap_at l.terms.first l.terms.second) ≡ None
