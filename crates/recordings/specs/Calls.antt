-- The calls of a recording as bytes: where each begins and ends, and what it says.
use Rattle.std.specs.Prelude.{◌≡◌, ℕ, zero, suc, ◌+◌, ◌*◌, cond, List, length, take, drop, Some, None, Option, ◌==◌, nat_le}
use Rattle.reading.specs.Firsts.{first_some, unless, where_so}
use Rattle.reading.specs.Bytes.{byte, pair, within}
use Rattle.reading.specs.declared.sides.Sides.{Sides}
use Rattle.games.specs.declared.deal.Terms.{Terms}
use Rattle.cell.specs.declared.calls.Question.{Question}
use Rattle.cell.specs.declared.calls.Question.TheVariants.{States, Phase, Waits, Signals, Ranks}
use Rattle.recordings.specs.declared.calls.OfferBytes.{OfferBytes}
use Rattle.recordings.specs.declared.calls.RecordedCall.{RecordedCall}
use Rattle.recordings.specs.declared.calls.RecordedCall.TheVariants as recorded
use Rattle.recordings.specs.Damages.{Spot, spot}

-- the four-byte number at a place, the low byte first
abbrev pub quad : List ℕ → ℕ → ℕ
quad xs i = pair xs i + 65536 * pair xs (i + 2)

-- a part begins with its two-byte length: where it ends; bytes past the end of the input are 0
abbrev pub part_end : List ℕ → ℕ → ℕ
part_end xs i = i + 2 + pair xs i

-- the bytes of a part, behind its length
abbrev pub part : List ℕ → ℕ → List ℕ
part xs i = take (pair xs i) (drop (i + 2) xs)

-- what an offer says: the bytes of a phase table, both sides' terms, and the bytes of both records
pub record Bidding : Type 0 where
  pub table : List ℕ
  pub terms : Sides Terms
  pub records : Sides (List ℕ)

-- what a call says
pub data Said : Type 0 where
  offer : Bidding → Said
  report : Sides ℕ → Said
  ask : Question → Said

-- a promise and a reliance, one behind the other
abbrev pub terms_at : List ℕ → ℕ → Terms
terms_at xs i = record { promise = quad xs i; reliance = quad xs (i + 4) }

-- where the second record of an offer begins: behind phase table, four numbers of four bytes, first record
abbrev pub second_at : List ℕ → ℕ → ℕ
second_at xs i = part_end xs (part_end xs i + 16)

-- an offer behind its first byte: phase table, both sides' terms, both records
abbrev pub offer_at : List ℕ → ℕ → Bidding
offer_at xs i = record {
  table = part xs i;
  terms = record { first = terms_at xs (part_end xs i); second = terms_at xs (part_end xs i + 8) };
  records = record { first = part xs (part_end xs i + 16); second = part xs (second_at xs i) };
}

-- a report behind its first byte: both next states
abbrev pub report_at : List ℕ → ℕ → Sides ℕ
report_at xs i = record { first = pair xs i; second = pair xs (i + 2) }

-- the question that a byte stands for
abbrev pub question_in : ℕ → Option Question
question_in zero = Some States
question_in (suc zero) = Some Phase
question_in (suc (suc zero)) = Some Waits
question_in (suc (suc (suc zero))) = Some Signals
question_in (suc (suc (suc (suc zero)))) = Some Ranks
question_in (suc (suc (suc (suc (suc n))))) = None

-- where a call ends, by its first byte: 1 begins an offer, 2 a report, 3 a question
abbrev pub call_end : List ℕ → ℕ → ℕ
call_end xs i = cond (byte xs i == 1) (part_end xs (second_at xs (i + 1))) (cond (byte xs i == 2) (i + 5) (i + 2))

-- the damage at a call: no call begins so, the input ends inside it, there is no such question
abbrev pub call_fault : List ℕ → ℕ → Option Spot
call_fault xs i =
    first_some (unless (within 1 3 (byte xs i)) (spot 2 i))
    (first_some (unless (nat_le (call_end xs i) (length xs)) (spot 1 (length xs)))
    (where_so (byte xs i == 3) (unless (nat_le (byte xs (i + 1)) 4) (spot 2 (i + 1)))))

-- what a call says, by its first byte
abbrev pub Says : List ℕ → ℕ → Said → Type 0
Says xs i (offer b) = (byte xs i ≡ 1) × (b ≡ offer_at xs (i + 1))
Says xs i (report r) = (byte xs i ≡ 2) × (r ≡ report_at xs (i + 1))
Says xs i (ask q) = (byte xs i ≡ 3) × (question_in (byte xs (i + 1)) ≡ Some q)

-- an offer as it was recorded
abbrev pub offer_said : OfferBytes → Bidding
offer_said o = record { table = o.table.now; terms = o.terms; records = record { first = o.records.first.now; second = o.records.second.now } }

-- a call as it was recorded
abbrev pub call_said : RecordedCall → Said
call_said (recorded.Offer o) = offer (offer_said o)
call_said (recorded.Report r) = report r.states
call_said (recorded.Ask q) = ask q
