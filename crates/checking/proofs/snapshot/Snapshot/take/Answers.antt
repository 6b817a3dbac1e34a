use Rattle.std.proofs.Common.{rules, ◌≡◌, ℕ, ◌<◌, arith}
use Rattle.games.specs.Machines.{forbidden_in, goal_in}
use Rattle.checking.specs.StateSets.{member}
use Rattle.checking.proofs.SnapshotLaws.{moves_taken, forbidden_taken, goals_taken}
use Rattle.checking.proofs.snapshot.Snapshot.take.Goals as goal

pub returns : goal.returns
returns g c =
    let m = g.G.Machine.meaning c.args.game.now in
    let k = g.G.Game.marks c.args.game.now in
    let w = g.met.G.Machine.lawful c.args.game.now in
    let forbidden : (t : ℕ) → t < m.states → member c.of-self.result t ≡ forbidden_in m k t = λ t h. (let i = c.of-self.ensures.below t (omega (arith, h, c.states.ensures)) in search rules) in
    let goals : (t : ℕ) → t < m.states → member c.of-self-2.result t ≡ goal_in m k t = λ t h. (let i = c.of-self-2.ensures.below t (omega (arith, h, c.states-2.ensures)) in search rules) in
    record {
      states = c.frame-self.ensures.states;
      own = c.frame-self.ensures.own;
      partner = c.frame-self.ensures.partner;
      start = c.frame-self.ensures.start;
      moves = moves_taken m w _ c.frame-self.ensures.states _ c.fill_rows.ensures.rows;
      forbidden = forbidden_taken m w _ c.frame-self.ensures.states k _ forbidden;
      goals = goals_taken m w _ c.frame-self.ensures.states k _ goals;
    }
