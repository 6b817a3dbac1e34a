use Rattle.std.proofs.Common.{rules, ◌≡◌, ℕ, ◌<◌, true, sym, arith}
use Rattle.std.proofs.lemmas.Bool.{both_ways}
use Rattle.reading.proofs.FirstLaws.{some_test, test_some}
use Rattle.checking.specs.StateSets.{member}
use Rattle.checking.specs.Snapshots.{played}
use Rattle.checking.proofs.PlayLaws.{bounded}
use Rattle.checking.proofs.NearLaws.{near_some, near_all}
use Rattle.checking.proofs.seat.leads.Seat+Snapshot.near.Goals as goal

pub returns-then-relies : goal.returns-then-relies
returns-then-relies c =
    let a = played c.args.self.now in
    let some = test_some 4 (a.relied c.args.phase) (sym c.if-relies.ensures) in
    near_some a c.args.sources.now c.args.phase c.args.after.now c.union_at.result c.requires (some.0, some.2) c.union_at.ensures

pub returns-else-relies : goal.returns-else-relies
returns-else-relies c =
    let a = played c.args.self.now in
    let all : (s : ℕ) → s < a.states → member c.of.result s ≡ true = λ s h. (let i = c.of.ensures.below s (omega (arith, h, c.states.ensures)) in search rules) in
    near_all a c.args.sources.now c.args.phase c.of.result (λ v h. both_ways _ (sym c.if-relies.ensures) (some_test 4 (a.relied c.args.phase) v ((bounded c.args.self.now).relies c.args.phase v h) h)) all
