-- What every log of a cell keeps, from which its law follows. A reader of the promises needs none of this.
use Rattle.std.specs.Prelude.{◌≡◌, ℕ, ◌+◌, ◌≤◌, true, Some, None, Option}
use Rattle.checking.specs.Arenas.{Arena, arena}
use Rattle.checking.specs.Controllers.{Plan, plan_in, Kept, Controller}
use Rattle.cell.specs.declared.copies.Standing.{Standing}
use Rattle.cell.specs.Logs.{Games, Log, Offering, own}

-- what a side plays under an offer
abbrev pub plays : Games → Offering → ℕ → Arena
plays g o side = arena (own side g.machines) (own side g.marks) o.table o.deal side

-- one side of a running log: arena, plan, state, phase, wait, largest bound
pub record Runs (a : Arena) (c : Plan) (s p w m : ℕ) : Type 0 where
  pub controller : Controller a c
  pub largest : (t q : ℕ) → Kept c t q → c.rank t q ≤ m
  pub here : Kept c s p
  pub due : w + c.rank s p ≤ m + 1
  pub fresh : a.goal s ≡ true → w ≡ 0
  pub small : m ≤ 65534

-- the same by the offer in force and where both machines stand
abbrev pub RunsAt : Games → Offering → Standing → ℕ → Type 0
RunsAt g o a side = Runs (plays g o side) (plan_in (own side o.records)) (own side a.states) a.phase (own side a.waits) (own side a.bounds)

-- both sides of a running log
pub record BothRun (g : Games) (o : Offering) (a : Standing) : Type 0 where
  pub first : RunsAt g o a 0
  pub second : RunsAt g o a 1
  pub same : o.table.sizes.phases ≡ o.deal.sizes.phases

-- one side of an idle log
pub record Rests (g : Games) (a : Standing) (side : ℕ) : Type 0 where
  pub start : own side a.states ≡ (own side g.machines).start
  pub fresh : own side a.waits ≡ 0
  pub none : own side a.bounds ≡ 0

-- what every log keeps
abbrev pub GoodIn : Games → Option Offering → Standing → Type 0
GoodIn g None a = Rests g a 0 × Rests g a 1
GoodIn g (Some o) a = BothRun g o a

-- the same of a whole log
abbrev pub Good : Games → Log → Type 0
Good g l = GoodIn g l.force l.at
