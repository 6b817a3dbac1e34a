use Rattle.std.proofs.Common.{arith}
use Rattle.checking.proofs.SourceLaws.{of_rows}
use Rattle.checking.proofs.snapshot.take.all_next.Goals as goal

pub returns : goal.returns
returns c x b t lx lb = of_rows c.args.rows.now c.any_of_four-5.result b t
    (λ e. c.any_of_four-5.ensures 0 t (omega arith) (c.any_of_four.ensures b t lb e))
    (λ e. c.any_of_four-5.ensures 1 t (omega arith) (c.any_of_four-2.ensures b t lb e))
    (λ e. c.any_of_four-5.ensures 2 t (omega arith) (c.any_of_four-3.ensures b t lb e))
    (λ e. c.any_of_four-5.ensures 3 t (omega arith) (c.any_of_four-4.ensures b t lb e)) x lx
