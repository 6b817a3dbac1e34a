-- Plans where nothing is refused before solving.
use Rattle.std.proofs.Common.{◌≡◌, ℕ, List, None, subst}
use Rattle.reading.specs.RuleSheets.{Automaton, automaton_in, automaton_of}
use Rattle.reading.specs.PhaseTables.{Table, table_in, table_of}
use Rattle.reading.specs.declared.phase_table.PhaseTable.{PhaseTable}
use Rattle.reading.specs.declared.sides.Sides.{Sides}
use Rattle.games.specs.declared.deal.Terms.{Terms}
use Rattle.games.specs.declared.deal.Deal.{Deal}
use Rattle.games.specs.Machines.{Model}
use Rattle.games.specs.Listings.{sheet_model}
use Rattle.games.specs.SheetMachines.{machine_of}
use Rattle.games.specs.Layers.{watched, watch_marks}
use Rattle.games.specs.Signings.{deal_fault, Dealt}
use Rattle.bays.specs.declared.bay.Bay.{Bay}
use Rattle.bays.specs.Inputs.{parts_in}
use Rattle.bays.specs.Bays.{Holds, bay_fault}
use Rattle.planning.specs.declared.plans.Plan.{Plan}
use Rattle.planning.specs.Plans.{Answered, SidePlan, BothPlanned}

-- a plan over the machine and the automaton that were read
side_plan : (xs ys : List ℕ) (m : Model) (a : Automaton) (t : PhaseTable) (d : Deal) (side : ℕ) (p : Plan) →
    m ≡ sheet_model xs → a ≡ automaton_in ys → Answered (watched m a) (watch_marks m a) t d side p → SidePlan xs ys t d side p
side_plan xs ys m a t d side p e f x =
    subst (λ (z : Model). Answered (watched z (automaton_in ys)) (watch_marks z (automaton_in ys)) t d side p) e
    (subst (λ (z : Automaton). Answered (watched m z) (watch_marks m z) t d side p) f x)

pub planned : (xs : List ℕ) (s : Sides Terms) (b : Bay) (d : Deal) (p q : Plan) →
    bay_fault xs ≡ None → Holds (parts_in xs) b →
    deal_fault (table_of b.table) s ≡ None → Dealt b.table.sizes s d →
    Answered (watched (machine_of b.games.first.below) (automaton_of b.games.first.rule)) (watch_marks (machine_of b.games.first.below) (automaton_of b.games.first.rule)) b.table d 0 p →
    Answered (watched (machine_of b.games.second.below) (automaton_of b.games.second.rule)) (watch_marks (machine_of b.games.second.below) (automaton_of b.games.second.rule)) b.table d 1 q →
    (bay_fault xs ≡ None) × (deal_fault (table_in (parts_in xs).table) s ≡ None) × BothPlanned xs s (record { sides = record { first = p; second = q } })
planned xs s b d p q e h f g x y = (
  e,
  subst (λ (z : Table). deal_fault z s ≡ None) h.table f,
  record {
    table = b.table;
    deal = d;
    read = h.table;
    dealt = g;
    first = side_plan (parts_in xs).machine0 (parts_in xs).rule0 (machine_of b.games.first.below) (automaton_of b.games.first.rule) b.table d 0 p h.first.machine h.first.rule x;
    second = side_plan (parts_in xs).machine1 (parts_in xs).rule1 (machine_of b.games.second.below) (automaton_of b.games.second.rule) b.table d 1 q h.second.machine h.second.rule y;
  },
)
