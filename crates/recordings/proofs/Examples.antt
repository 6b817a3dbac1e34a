-- Examples that the definitions compute.
use Rattle.std.proofs.Common.{◌≡◌, ℕ, List, [], ◌∷◌, replicate, codes, Some, None, Ok, Err, refl}
use Rattle.std.specs.Fmt.{digits}
use Rattle.reading.specs.Faults.{fault}
use Rattle.reading.specs.Sides.{both}
use Rattle.reading.specs.declared.faults.ReadFault.TheVariants.{Entry}
use Rattle.bays.specs.Bays.{at}
use Rattle.cell.specs.Faults.{bare}
use Rattle.cell.specs.Logs.{to_offer, to_report, waits}
use Rattle.recordings.specs.declared.recording.Mark.TheVariants.{Put, Unread}
use Rattle.recordings.specs.Calls.{quad, report_at, call_end, call_fault}
use Rattle.recordings.specs.Damages.{spot, bay_spot}
use Rattle.recordings.specs.Recordings.{head_fault}
use Rattle.recordings.specs.Lines.{line, lines, unsigned_line}

-- the low byte comes first
four_bytes : quad (1 ∷ 2 ∷ 3 ∷ 4 ∷ []) 0 ≡ 67305985
four_bytes = refl

-- states 0 and 3 are reported
report : List ℕ
report = 2 ∷ 0 ∷ 0 ∷ 3 ∷ 0 ∷ []

reported : (call_fault report 0 ≡ None) × (call_end report 0 ≡ 5) × (report_at report 1 ≡ both 0 3)
unfolding report
reported = (refl, refl, refl)

-- a phase table and two records of no bytes, with their lengths, and four numbers
offered : call_end (1 ∷ replicate 22 0) 0 ≡ 23
offered = refl

-- the ranks are asked; there is no sixth question, no fourth kind of call, and a report has five bytes
damaged : (call_fault (3 ∷ 4 ∷ []) 0 ≡ None)
    × (call_fault (3 ∷ 5 ∷ []) 0 ≡ Some (spot 2 1))
    × (call_fault (4 ∷ []) 0 ≡ Some (spot 2 0))
    × (call_fault (2 ∷ 0 ∷ 0 ∷ []) 0 ≡ Some (spot 1 3))
damaged = (refl, refl, refl, refl)

-- no length; a bay of ten bytes that say that each sheet is empty: side 0's machine sheet is refused, which would begin at byte 12
heads : (head_fault [] ≡ Some (spot 1 0)) × (head_fault (10 ∷ 0 ∷ replicate 10 0) ≡ Some (bay_spot (at 1 (fault 1 0)) 12))
heads = (refl, refl)

-- answers in print
printed : (line (to_offer (Ok (both 16 7))) ≡ codes "offer bounds 16 7")
    × (line (to_offer (Err (bare 31 0))) ≡ codes "offer refused 31 side 0 at 65535 65535 65535 65535")
    × (line (to_report (Err (bare 33 1))) ≡ codes "report refused 33 side 1")
    × (unsigned_line (record { number = 21; phase = 0; side = 1 }) ≡ codes "unsigned 21 phase 0 side 1")
unfolding digits
printed = (refl, refl, refl, refl)

-- an offer whose table cannot be read has its line between those of the calls that the cell answers
in_order : lines (Put ∷ Unread (Entry 5) ∷ Put ∷ []) (waits (both 0 0) ∷ to_report (Ok (both 1 0)) ∷ [])
    ≡ codes "waits 0 0\noffer refused 4 side 2 byte 5\nreport signals 1 0\n"
unfolding digits
in_order = refl
