use Rattle.std.proofs.Common.{rules, ◌≡◌, MatchResult, Ok, Err, List, ℕ, ap, subst, ◌∙◌, Decides, is_ok, IfOk}
use Rattle.checking.specs.Faults.{told}
use Rattle.checking.specs.Checks.{check_answer, Ranked}
use Rattle.checking.specs.Controllers.{plan_in, Bound}
use Rattle.cell.specs.declared.faults.CellFault.TheVariants.{Checking}
use Rattle.cell.specs.Cells.{offering}
use Rattle.cell.proofs.OfferLaws.{own_now, side_refused, side_ranked, side_passed}
use Rattle.cell.proofs.cell.calls.check_record.Goals as goal

pub returns : goal.returns
returns g c =
    let m = g.G.Machine.meaning c.args.game.now in
    let k = g.G.Game.marks c.args.game.now in
    let o = c.args.offer in
    let bytes = ap (λ r. r.now) c.own.ensures ∙ own_now c.args.side o.records.first o.records.second in
    let cases : MatchResult c.check.result (λ x. c.map_err.result ≡ Ok x) (λ f. c.map_err.result ≡ Err (Checking f c.args.side)) = search rules in
    let checked = subst (λ (xs : List ℕ). told c.check.result ≡ check_answer m k o.table.now o.deal.now c.args.side xs) bytes c.check.ensures.first in
    record {
      first = side_refused m k (offering o) c.args.side c.check.result c.map_err.result cases checked;
      ranked = side_ranked m k (offering o) c.args.side c.check.result c.map_err.result cases (subst (λ (xs : List ℕ). Decides (is_ok c.check.result) (Ranked m k o.table.now o.deal.now c.args.side xs)) bytes c.check.ensures.ranked);
      passed = side_passed m k (offering o) c.args.side c.check.result c.map_err.result cases checked
          (subst (λ (xs : List ℕ). Decides (is_ok c.check.result) (Ranked m k o.table.now o.deal.now c.args.side xs)) bytes c.check.ensures.ranked)
          (subst (λ (xs : List ℕ). IfOk c.check.result (Bound (plan_in xs))) bytes c.check.ensures.bound);
    }
