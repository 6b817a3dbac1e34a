-- What becomes of the calls of a recording: which are put to the cell, and as what.
use Rattle.std.specs.Prelude.{◌≡◌, ℕ, ◌+◌, ◌<◌, ◌≤◌, List, [], ◌∷◌, ◌++◌, length, map, vec_items, Some, None, Ok, Err, Option, Result}
use Rattle.reading.specs.Faults.{numbers as read_numbers}
use Rattle.reading.specs.PhaseTables.{table_in, table_of, phase_fault}
use Rattle.reading.specs.declared.phase_table.PhaseTable.{PhaseTable}
use Rattle.games.specs.declared.deal.signing.Unsigned.{Unsigned}
use Rattle.games.specs.Signings.{deal_fault, Dealt}
use Rattle.games.specs.Signings.{numbers as sign_numbers}
use Rattle.cell.specs.Logs.{Event, offered, reported, asked, Offering}
use Rattle.cell.specs.Cells.{event}
use Rattle.cell.specs.declared.calls.OwnedOffer.{OwnedOffer}
use Rattle.recordings.specs.declared.damage.Damage.{Damage}
use Rattle.recordings.specs.declared.recording.Mark.{Mark}
use Rattle.recordings.specs.declared.recording.Mark.TheVariants.{Put, Unread, Unsigned as Unsignable}
use Rattle.recordings.specs.declared.recording.Calls.{Calls}
use Rattle.recordings.specs.Damages.{numbers}
use Rattle.recordings.specs.Calls.{Bidding, Said, offer, report, ask, Says, call_end, call_fault}

-- an offer of what was recorded: the phase table as its bytes have it, the deal of the terms on it, the records' bytes
pub record Offers (b : Bidding) (o : Offering) : Type 0 where
  pub readable : phase_fault b.table ≡ None
  pub table : table_of o.table ≡ table_in b.table
  pub agreed : deal_fault (table_in b.table) b.terms ≡ None
  pub dealt : Dealt o.table.sizes b.terms o.deal
  pub records : o.records ≡ b.records

-- what becomes of a call: an offer is put to the cell unless its table cannot be read or its terms make no deal, in this order;
-- a report and a question always are
abbrev pub Becomes : Said → Mark → List Event → Type 0
Becomes (offer b) Put (offered o ∷ []) = Offers b o
Becomes (offer b) (Unread f) [] = phase_fault b.table ≡ Some (read_numbers f)
Becomes (offer b) (Unsignable f) [] = (phase_fault b.table ≡ None) × (deal_fault (table_in b.table) b.terms ≡ Some (sign_numbers f))
Becomes (report r) Put (e ∷ []) = e ≡ reported r
Becomes (ask q) Put (e ∷ []) = e ≡ asked q
Becomes s m es = ⊥

-- the calls of an input from a start up to a place, one behind the other: what became of each, and those that are put to the cell
pub data Before (xs : List ℕ) (start : ℕ) : List Mark → List Event → ℕ → Type 0 where
  none_yet : Before xs start [] [] start
  one_more : (ms : List Mark) (es : List Event) (i : ℕ) (s : Said) (m : Mark) (new : List Event) → Before xs start ms es i →
      i < length xs → call_fault xs i ≡ None → Says xs i s → Becomes s m new → Before xs start (ms ++ m ∷ []) (es ++ new) (call_end xs i)

-- the calls stop where no bytes are left, or at a damaged one
abbrev pub Stops : List ℕ → ℕ → Option Damage → Type 0
Stops xs i None = length xs ≤ i
Stops xs i (Some d) = (i < length xs) × (call_fault xs i ≡ Some (numbers d))

-- all calls of an input from a start on, and the damage that ends them
pub record Recorded (xs : List ℕ) (start : ℕ) (ms : List Mark) (es : List Event) (d : Option Damage) : Type 0 where
  pub upto : ℕ
  pub before : Before xs start ms es upto
  pub stops : Stops xs upto d

-- how many calls are put to the cell
abbrev pub puts : List Mark → ℕ
puts [] = 0
puts (Put ∷ ms) = puts ms + 1
puts (Unread f ∷ ms) = puts ms
puts (Unsignable f ∷ ms) = puts ms

-- the calls that are put to the cell
abbrev pub events : Calls → List Event
events c = map event (vec_items c.put)

-- a reader of the promises needs none of the rest: the steps of reading

-- a mark was added, and the calls that are put to the cell for it
pub record Adds (m : Mark) (new : List Event) (x y : Calls) : Type 0 where
  pub marks : vec_items y.marks ≡ vec_items x.marks ++ m ∷ []
  pub put : events y ≡ events x ++ new
  pub damage : y.damage ≡ x.damage

-- a call was kept
pub record Keeps (s : Said) (x y : Calls) : Type 0 where
  pub mark : Mark
  pub new : List Event
  pub becomes : Becomes s mark new
  pub adds : Adds mark new x y

-- an offer on a table that was read
abbrev pub Owned : PhaseTable → Bidding → Result OwnedOffer Unsigned → Type 0
Owned t b (Err f) = deal_fault (table_of t) b.terms ≡ Some (sign_numbers f)
Owned t b (Ok o) = (o.table ≡ t) × (deal_fault (table_of t) b.terms ≡ None) × (Dealt t.sizes b.terms o.deal)
    × (record { first = vec_items o.records.first; second = vec_items o.records.second } ≡ b.records)
