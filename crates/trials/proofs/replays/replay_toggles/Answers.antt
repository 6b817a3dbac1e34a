use Rattle.std.proofs.Common.{◌≡◌, List, map, replicate, refl, ap, ◌∙◌, subst}
use Rattle.reading.specs.RuleSheets.{Automaton, automaton_in, automaton_of}
use Rattle.reading.specs.Sides.{both}
use Rattle.games.specs.declared.sheet_machine.SheetMachine.{SheetMachine}
use Rattle.games.specs.declared.watched.Watched.{Watched}
use Rattle.games.specs.Layers.{watched, watch_marks}
use Rattle.games.specs.Listings.{sheet_model}
use Rattle.games.specs.Machines.{Model, Marks}
use Rattle.games.specs.SheetMachines.{machine_of}
use Rattle.games.specs.WatchedSheets.{Plays}
use Rattle.cell.specs.declared.calls.Answer.{Answer}
use Rattle.cell.specs.declared.calls.Answer.TheVariants.{Phase}
use Rattle.cell.specs.Logs.{Games, Event}
use Rattle.cell.specs.Cells.{both_mean, event, Fills}
use Rattle.trials.specs.Toggles.{toggle, rule}
use Rattle.trials.specs.Replays.{two_toggles, calls}
use Rattle.trials.proofs.ReplayingShown.{replaying_shown}
use Rattle.trials.proofs.replays.replay_toggles.Goals as goal

abbrev meaning : Watched SheetMachine → Model
meaning x = watched (machine_of x.below) (automaton_of x.rule)

abbrev marks : Watched SheetMachine → Marks
marks x = watch_marks (machine_of x.below) (automaton_of x.rule)

-- what is replaced by answers
abbrev blank : List Answer
blank = replicate 6 (Phase 0)

abbrev games : Model → Automaton → Model → Automaton → Games
games m a n b = record { machines = both (watched m a) (watched n b); marks = both (watch_marks m a) (watch_marks n b) }

-- both games are the toggle of the definitions
are_toggles : (x y : Watched SheetMachine) → Plays toggle rule x → Plays toggle rule y → both_mean meaning marks meaning marks x y ≡ two_toggles
are_toggles x y p q =
    ap (λ m. games m (automaton_of x.rule) (machine_of y.below) (automaton_of y.rule)) p.machine ∙ ap (λ a. games (sheet_model toggle) a (machine_of y.below) (automaton_of y.rule)) p.rule
    ∙ ap (λ n. games (sheet_model toggle) (automaton_in rule) n (automaton_of y.rule)) q.machine ∙ ap (λ b. games (sheet_model toggle) (automaton_in rule) (sheet_model toggle) b) q.rule

pub returns : goal.returns
returns c =
    let play = are_toggles c.in_ok-first.first c.in_ok-second.second c.in_ok-first.ensures c.in_ok-second.ensures in
    let g = both_mean meaning marks meaning marks c.in_ok-first.first c.in_ok-second.second in
    let told = map event c.in_ok-calls.calls in
    let rest = blank in
    let heard = subst (λ (es : List Event). Fills g es rest c.replay.new.answers c.replay.result) c.in_ok-calls.ensures c.replay.ensures in
    let filled = subst (λ (h : Games). Fills h (calls c.one_phase-table.result c.on_signal_1-deal.result) rest c.replay.new.answers c.replay.result) play heard in
    replaying_shown.by_cell c.one_phase-table.result c.on_signal_1-deal.result rest c.replay.new.answers c.replay.result (record { one_phase = c.one_phase-table.ensures; dealt = c.on_signal_1-deal.ensures }) refl filled
