use Rattle.checking.specs.Verdicts.{Onward, NoneWins}
use Rattle.checking.proofs.search.seek.Seeker.first_workable.Given as goal

abbrev pub invariant-loop-place : goal.invariant-loop-place
invariant-loop-place l = Onward l.candidates.table.now l.fn.self l.self × NoneWins l.fn.self l.candidates.table.now l.place
