-- The lines of a replay, in print.
use Rattle.std.specs.Prelude.{ℕ, List, [], ◌∷◌, ◌++◌, cond, codes, decimal, Some, None, Ok, Err, ◌==◌}
use Rattle.reading.specs.Faults.{Fault}
use Rattle.reading.specs.Faults.{numbers as read_numbers}
use Rattle.games.specs.Deals.{Refusal as Unsigning}
use Rattle.games.specs.Signings.{numbers as sign_numbers}
use Rattle.checking.specs.Faults.{none, unread}
use Rattle.cell.specs.Faults.{Refusal, about}
use Rattle.cell.specs.Logs.{Told, to_offer, to_report, states, phase, waits, signals_shown, ranks_shown}
use Rattle.recordings.specs.declared.recording.Mark.{Mark}
use Rattle.recordings.specs.declared.recording.Mark.TheVariants.{Put, Unread, Unsigned}

-- where a refusal of an offer applies: a fault of reading at its place in the record, any other at its four values
abbrev pub offer_refusal : Refusal → List ℕ
offer_refusal r = elim r.fault.reading [
  | Some f ↦ codes "offer refused " ++ (decimal r.fault.number ++ (codes " side " ++ (decimal r.side ++ (codes " byte " ++ decimal f.place))))
  | None ↦ codes "offer refused " ++ (decimal r.fault.number ++ (codes " side " ++ (decimal r.side
      ++ (codes " at " ++ (decimal r.fault.state ++ (codes " " ++ (decimal r.fault.phase
      ++ (codes " " ++ (decimal r.fault.partner ++ (codes " " ++ decimal r.fault.next))))))))))
]

-- a refusal of a report
abbrev pub report_refusal : Refusal → List ℕ
report_refusal r = codes "report refused " ++ (decimal r.fault.number ++ (codes " side " ++ decimal r.side))

-- an answer of a cell's log
abbrev pub line : Told → List ℕ
line (to_offer (Ok b)) = codes "offer bounds " ++ (decimal b.first ++ (codes " " ++ decimal b.second))
line (to_offer (Err r)) = offer_refusal r
line (to_report (Ok s)) = codes "report signals " ++ (decimal s.first ++ (codes " " ++ decimal s.second))
line (to_report (Err r)) = report_refusal r
line (states s) = codes "states " ++ (decimal s.first ++ (codes " " ++ decimal s.second))
line (phase p) = codes "phase " ++ decimal p
line (waits w) = codes "waits " ++ (decimal w.first ++ (codes " " ++ decimal w.second))
line (signals_shown s) = codes "signals " ++ (decimal s.first ++ (codes " " ++ decimal s.second))
line (ranks_shown r) = codes "ranks " ++ (decimal r.first ++ (codes " " ++ decimal r.second))

-- an offer whose phase table cannot be read: a fault of reading that is about neither side
abbrev pub unread_line : Fault → List ℕ
unread_line f = offer_refusal (about 2 (unread f))

-- an offer whose terms make no deal
abbrev pub unsigned_line : Unsigning → List ℕ
unsigned_line r = cond (r.phase == none)
    (codes "unsigned " ++ (decimal r.number ++ (codes " side " ++ decimal r.side)))
    (codes "unsigned " ++ (decimal r.number ++ (codes " phase " ++ (decimal r.phase ++ (codes " side " ++ decimal r.side)))))

-- the line of a call, by what became of it and by the cell's answers from it on
abbrev pub line_of : Mark → List Told → List ℕ
line_of Put [] = []
line_of Put (a ∷ rest) = line a ++ codes "\n"
line_of (Unread f) given = unread_line (read_numbers f) ++ codes "\n"
line_of (Unsigned f) given = unsigned_line (sign_numbers f) ++ codes "\n"

-- the answers that are left behind a call
abbrev pub left : Mark → List Told → List Told
left Put [] = []
left Put (a ∷ rest) = rest
left (Unread f) given = given
left (Unsigned f) given = given

-- the lines of calls, one for each
abbrev pub lines : List Mark → List Told → List ℕ
lines [] given = []
lines (m ∷ ms) given = line_of m given ++ lines ms (left m given)
