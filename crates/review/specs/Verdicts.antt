-- What is found of a case: the first refusal as it is printed, or the record's bound.
use Rattle.std.specs.Prelude.{◌≡◌, ℕ, List, ◌++◌, codes, decimal, Some, None, Err, Option, Result}
use Rattle.std.specs.Option.{option_map, option_map_or}
use Rattle.std.specs.Result.{result_map_both}
use Rattle.reading.specs.Firsts.{first_some}
use Rattle.reading.specs.Faults.{printed}
use Rattle.reading.specs.Faults.{numbers as read_numbers}
use Rattle.reading.specs.RuleSheets.{automaton_in}
use Rattle.reading.specs.PhaseTables.{Table, table_in, table_of, phase_fault}
use Rattle.reading.specs.declared.phase_table.PhaseTable.{PhaseTable}
use Rattle.reading.specs.declared.sides.Sides.{Sides}
use Rattle.games.specs.declared.deal.Terms.{Terms}
use Rattle.games.specs.declared.deal.Deal.{Deal}
use Rattle.games.specs.Listings.{sheet_model}
use Rattle.games.specs.Layers.{watched, watch_marks}
use Rattle.games.specs.WatchedSheets.{Blame, blame, sheets_fault}
use Rattle.games.specs.Deals.{Refusal as DealRefusal}
use Rattle.games.specs.Signings.{deal_fault, Dealt}
use Rattle.games.specs.Signings.{numbers as sign_numbers}
use Rattle.checking.specs.Faults.{Refusal as CheckRefusal}
use Rattle.checking.specs.Faults.{numbers as check_numbers}
use Rattle.checking.specs.Checks.{check_answer}
use Rattle.review.specs.declared.cases.Case.{Case}
use Rattle.review.specs.declared.refusals.Refusal.{Refusal}
use Rattle.review.specs.declared.refusals.Refusal.TheVariants.{Sheets, Table as PhaseTableOf, Terms as Unagreed, Check}

-- a refusal in print, by its number alone
abbrev pub numbered : ℕ → List ℕ
numbered n = codes "refused " ++ decimal n

-- a refusal of a check in print: a fault of the record's bytes has its place, too
abbrev pub check_line : CheckRefusal → List ℕ
check_line r = option_map_or printed r.reading (numbered r.number)

-- a refusal in print; every promise about printed refusals reads this definition
abbrev pub line : Refusal → List ℕ
line (Sheets f) = printed (blame f).fault
line (PhaseTableOf f) = printed (read_numbers f)
line (Unagreed f) = numbered (sign_numbers f).number
line (Check f) = check_line (check_numbers f)

-- what an answer tells: its value, or the refusal in print
abbrev pub told : Result ℕ Refusal → Result ℕ (List ℕ)
told = result_map_both (λ b. b) line

-- the refusal of the two sheets of a machine, in print
abbrev pub sheets_line : List ℕ → List ℕ → Option (List ℕ)
sheets_line sheet rule = option_map (λ (b : Blame). printed b.fault) (sheets_fault sheet rule)

-- the refusal of both sides' terms on a table, in print
abbrev pub terms_line : Table → Sides Terms → Option (List ℕ)
terms_line t s = option_map (λ (r : DealRefusal). numbered r.number) (deal_fault t s)

-- the first refusal before any check: a sheet of the machine, the phase table, the terms
abbrev pub early_line : Case → Option (List ℕ)
early_line c =
    first_some (sheets_line c.machine.now c.rule.now)
    (first_some (option_map printed (phase_fault c.table.now))
    (terms_line (table_in c.table.now) c.terms))

-- what a check answers of the case's record, under a table and a deal: the machine of its sheet is watched by its rule sheet's automaton
abbrev pub checked : Case → PhaseTable → Deal → Result ℕ (List ℕ)
checked c t d = result_map_both (λ b. b) check_line
    (check_answer (watched (sheet_model c.machine.now) (automaton_in c.rule.now)) (watch_marks (sheet_model c.machine.now) (automaton_in c.rule.now)) t d c.side c.record.now)

-- a verdict is what a check answers under the case's phase table and the deal on its terms
pub record Checked (c : Case) (verdict : Result ℕ (List ℕ)) : Type 0 where
  pub table : PhaseTable
  pub deal : Deal
  pub read : table_of table ≡ table_in c.table.now
  pub dealt : Dealt table.sizes c.terms deal
  pub answer : verdict ≡ checked c table deal

-- a verdict on a case, by what is refused before any check
abbrev pub Judged : Option (List ℕ) → Case → Result ℕ (List ℕ) → Type 0
Judged (Some l) c verdict = verdict ≡ Err l
Judged None c verdict = Checked c verdict
