-- A verdict where nothing is refused before the check.
use Rattle.std.proofs.Common.{◌≡◌, ℕ, List, None, Result, refl, subst}
use Rattle.std.specs.Result.{result_map_both}
use Rattle.reading.specs.RuleSheets.{Automaton, automaton_in}
use Rattle.reading.specs.PhaseTables.{table_in, table_of, phase_fault}
use Rattle.reading.specs.declared.phase_table.PhaseTable.{PhaseTable}
use Rattle.games.specs.declared.deal.Deal.{Deal}
use Rattle.games.specs.Machines.{Model}
use Rattle.games.specs.Listings.{sheet_model}
use Rattle.games.specs.Layers.{watched, watch_marks}
use Rattle.checking.specs.Checks.{check_answer}
use Rattle.review.specs.declared.cases.Case.{Case}
use Rattle.games.specs.Signings.{Dealt}
use Rattle.review.specs.Verdicts.{check_line, sheets_line, terms_line, early_line, Judged}

-- nothing is refused before the check
pub record Read (c : Case) (t : PhaseTable) : Type 0 where
  pub game : sheets_line c.machine.now c.rule.now ≡ None
  pub phases : phase_fault c.table.now ≡ None
  pub table : table_of t ≡ table_in c.table.now
  pub terms : terms_line (table_of t) c.terms ≡ None

none_early : (c : Case) (t : PhaseTable) → Read c t → early_line c ≡ None
none_early c t r =
    let d : terms_line (table_in c.table.now) c.terms ≡ None = subst (λ x. terms_line x c.terms ≡ None) r.table r.terms in
    rw (r.game, r.phases, d) refl

pub judged : (c : Case) (t : PhaseTable) (d : Deal) (m : Model) (a : Automaton) (v : Result ℕ (List ℕ)) →
    Read c t → Dealt t.sizes c.terms d → m ≡ sheet_model c.machine.now → a ≡ automaton_in c.rule.now →
    v ≡ result_map_both (λ b. b) check_line (check_answer (watched m a) (watch_marks m a) t d c.side c.record.now) →
    Judged (early_line c) c v
judged c t d m a v r dealt means reads answer =
    rw (none_early c t r) (record {
      table = t;
      deal = d;
      read = r.table;
      dealt = dealt;
      answer = rw (means, reads) at answer;
    })
