use Rattle.std.proofs.Common.{rules, ◌≡◌, [], ◌∷◌, ◌++◌, ◌*◌, ◌-◌, ◌^◌, ◌≤◌, length, sym, ap, ◌∙◌, arith}
use Rattle.checking.specs.Searching.{promises}
use Rattle.checking.proofs.PromiseLaws.{no_phases, many_on, few_on, few_many}
use Rattle.checking.proofs.search.promises.Promises.list.Goals as goal

pub loop-phase-init : goal.loop-phase-init
loop-phase-init c = (c.push_reserved.ensures.items ∙ ap (λ xs. xs ++ 0 ∷ []) c.clear.ensures.items ∙ sym (no_phases c.args.signals c.requires.few), search rules)

pub overflow_mul-len : goal.overflow_mul-len
overflow_mul-len c = omega (arith, few_many c.args.signals c.len.result c.requires.few (omega (arith, c.len.ensures, c.loop-phase.invariant.1)), ap (λ n. c.len.result * n) c.sets.ensures)

pub loop-phase-preserved : goal.loop-phase-preserved
loop-phase-preserved c =
    let k = c.args.signals in
    let p = c.loop-phase.phase in
    let e : c.len.result ≡ length (promises p k) = omega (arith, c.len.ensures, ap length c.loop-phase.invariant.0) in
    let few : length (promises p k) * (2 ^ k - 1) ≤ 65535 = omega (arith, c.if-len-sets-gt-MOST.false, ap (λ n. n * c.sets.result) e, ap (λ n. length (promises p k) * n) c.sets.ensures) in
    (c.add_phase.ensures.listed, omega (arith, ap length c.add_phase.ensures.listed, few_on k p 65535 c.requires.few few))

pub returns-then-len-sets-gt-MOST-clause-many : goal.returns-then-len-sets-gt-MOST-clause-many
returns-then-len-sets-gt-MOST-clause-many c h =
    let k = c.args.signals in
    let p = c.loop-phase.phase in
    let e : c.len.result ≡ length (promises p k) = omega (arith, c.len.ensures, ap length c.loop-phase.invariant.0) in
    many_on k p c.args.phases 65535 c.requires.few c.requires.some c.loop-phase-test.true
    (omega (arith, c.if-len-sets-gt-MOST.true, ap (λ n. n * c.sets.result) e, ap (λ n. length (promises p k) * n) c.sets.ensures))
