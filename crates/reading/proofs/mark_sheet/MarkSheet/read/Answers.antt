use Rattle.std.proofs.Common.{ℕ, Ok, rules, take, drop, ◌∙◌, sym, arith}
use Rattle.std.proofs.lemmas.Bool.{eqb-true}
use Rattle.std.proofs.lemmas.Result.{err_from_is_err_and}
use Rattle.reading.specs.MarkSheets.{mark_fault}
use Rattle.reading.proofs.Answering.{decided, passed}
use Rattle.reading.proofs.MarkLaws.{clear_lawful, lawful_from, lawful_to, same_clashes, clashes_first, half_kept, inside_of, apart_of, sets_with}
use Rattle.reading.proofs.mark_sheet.MarkSheet.read.Goals as goal

pub returns-in_err-check_strays-clause-lawful : goal.returns-in_err-check_strays-clause-lawful
returns-in_err-check_strays-clause-lawful c =
    let xs = c.args.bytes.now in
    let n = c.args.states in
    decided _ _ (lawful_from n xs) (lawful_to n xs (λ j. (c.type_inv.bytes j).fits)) (search rules)

pub returns-in_err-check_clashes-clause-first : goal.returns-in_err-check_clashes-clause-first
returns-in_err-check_clashes-clause-first c =
    let p = err_from_is_err_and c.from_residual-in_err-check_clashes.result c.from_residual-in_err-check_clashes.ensures.1 in
    let long = eqb-true _ _ (passed _ _ c.in_ok-check.ensures) in
    rw (p.1, p.2) (c.in_err-check_clashes.ensures ∙ sym (clashes_first c.args.states c.args.bytes.now _ _ long c.in_ok-check_strays.ensures c.split_at.ensures.front c.split_at.ensures.back))

pub returns-in_err-check_clashes-clause-lawful : goal.returns-in_err-check_clashes-clause-lawful
returns-in_err-check_clashes-clause-lawful c =
    let xs = c.args.bytes.now in
    let n = c.args.states in
    decided _ _ (lawful_from n xs) (lawful_to n xs (λ j. (c.type_inv.bytes j).fits)) (returns-in_err-check_clashes-clause-first c)

pub invariant_of-result : goal.invariant_of-result
invariant_of-result c =
    let xs = c.args.bytes.now in
    let n = c.args.states in
    let halves = same_clashes xs _ _ c.split_at.ensures.front c.split_at.ensures.back in
    let long = eqb-true _ _ (passed _ _ c.in_ok-check.ensures) in
    let w = clear_lawful n xs (record { long = long; strays = c.in_ok-check_strays.ensures; clashes = c.in_ok-check_clashes.ensures ∙ halves }) in
    let low = half_kept (take 32 xs) _ _ c.put_front.ensures c.split_at.ensures.front c.split_at.ensures.front_len in
    let high = half_kept (drop 32 xs) _ _ c.put_front-2.ensures c.split_at.ensures.back (omega (arith, c.split_at.ensures.back_len, long)) in
    record { forbidden_inside = inside_of n _ _ low w.forbidden; goals_inside = inside_of n _ _ high w.goals; apart = apart_of _ _ _ _ low high w.apart }

pub returns-clause-value : goal.returns-clause-value
returns-clause-value c =
    let xs = c.args.bytes.now in
    let long = eqb-true _ _ (passed _ _ c.in_ok-check.ensures) in
    let low = half_kept (take 32 xs) _ _ c.put_front.ensures c.split_at.ensures.front c.split_at.ensures.front_len in
    let high = half_kept (drop 32 xs) _ _ c.put_front-2.ensures c.split_at.ensures.back (omega (arith, c.split_at.ensures.back_len, long)) in
    sets_with c.args.states low high

pub returns-clause-first : goal.returns-clause-first
returns-clause-first c =
    let long = eqb-true _ _ (passed _ _ c.in_ok-check.ensures) in
    c.in_ok-check_clashes.ensures ∙ sym (clashes_first c.args.states c.args.bytes.now _ _ long c.in_ok-check_strays.ensures c.split_at.ensures.front c.split_at.ensures.back)

pub returns-clause-lawful : goal.returns-clause-lawful
returns-clause-lawful c =
    let xs = c.args.bytes.now in
    let n = c.args.states in
    decided {A = ℕ} (Ok 0) (mark_fault n xs) (lawful_from n xs) (lawful_to n xs (λ j. (c.type_inv.bytes j).fits)) (returns-clause-first c)
