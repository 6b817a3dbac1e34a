use Rattle.std.proofs.Common.{ℕ, ◌*◌, ◌≤◌, sym, refl, ap, ◌∙◌, subst}
use Rattle.reading.specs.RuleSheets.{Automaton, automaton_of, rule_fault}
use Rattle.games.specs.Layers.{product}
use Rattle.games.specs.Runs.{Paired}
use Rattle.games.specs.Products.{Sound, watched_whole, pairs}
use Rattle.games.proofs.watched.Watched.watch.Goals as goal

pub returns : goal.returns
returns g c =
    let w = c.in_ok-self.ensures in
    let m = g.M.Machine.meaning c.args.self.now.below in
    let rule = c.in_ok-self.field-0 in
    let sound : Sound (automaton_of rule) = record { some_states = rule.some_states; few_states = rule.few_states; starts = rule.starts; closed = rule.closed } in
    let n = c.states-states.ensures in
    let small = subst (λ (k : ℕ). k * rule.states ≤ 256) n (subst (λ (a : Automaton). c.states-states.result * a.states ≤ 256) (sym w.value) (w.lawful.0 refl).small) in
    record {
      first = w.first ∙ ap (λ (k : ℕ). rule_fault k c.args.bytes.now) n;
      below = refl;
      value = w.value;
      means = watched_whole m (automaton_of rule) small ∙ ap (product m) w.value;
      runs = subst (λ (a : Automaton). Paired m a) w.value (pairs m (automaton_of rule) sound);
    }
