use Rattle.checking.proofs.VerdictLaws.{nothing_known}
use Rattle.checking.proofs.search.seek.Seeker.begin.Goals as goal

pub returns-clause-unknown : goal.returns-clause-unknown
returns-clause-unknown g c t = record { first = nothing_known t 0 c.begin.new.self c.begin.ensures.unknown; second = nothing_known t 1 c.begin-2.new.self c.begin-2.ensures.unknown }
