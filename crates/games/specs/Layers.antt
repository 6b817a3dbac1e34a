-- Machines over any machine: marked, and watched by an automaton.
use Rattle.std.specs.Prelude.{◌+◌, ◌*◌, ◌/◌, ◌%◌, cond, ◌&&◌, ◌==◌, nat_le}
use Rattle.reading.specs.Marks.{marked}
use Rattle.reading.specs.MarkSheets.{Sets}
use Rattle.reading.specs.RuleSheets.{Automaton, next_state, accepts, forbids, blank}
use Rattle.games.specs.Machines.{Model, Marks}

-- the marks of a mark sheet
abbrev pub marks_of : Sets → Marks
marks_of k = record { forbidden = marked k.forbidden; goal = marked k.goals }

-- the product with an automaton: state s × Q + q; the automaton reads the label of each state that is entered,
-- and has read the label of the start
abbrev pub product : Model → Automaton → Model
product m a = record {
  states = m.states * a.states;
  own = m.own;
  partner = m.partner;
  start = m.start * a.states + next_state a a.start (m.label m.start);
  label = λ s. m.label (s / a.states);
  move = λ s x b t. m.move (s / a.states) x b (t / a.states) && (t % a.states == next_state a (s % a.states) (m.label (t / a.states)));
}

-- the automaton that a machine is watched by: where the product would have more than 256 states, the blank one
abbrev pub fitting : Model → Automaton → Automaton
fitting m a = cond (nat_le (m.states * a.states) 256) a blank

-- a watched machine
abbrev pub watched : Model → Automaton → Model
watched m a = product m (fitting m a)

-- goals are the states with an accepting automaton state, forbidden ones have a forbidden label
abbrev pub watch_marks : Model → Automaton → Marks
watch_marks m a = record {
  forbidden = λ s. forbids (fitting m a) ((watched m a).label s);
  goal = λ s. accepts (fitting m a) (s % (fitting m a).states);
}
