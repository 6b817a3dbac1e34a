use Rattle.std.proofs.Common.{rules, ◌≡◌, ◌+◌, ◌*◌, ◌-◌, ◌^◌, ◌++◌, length, map, take, vec_items, vec_len, vec_capacity, ap, ◌∙◌, arith}
use Rattle.checking.proofs.BlockLaws.{raised_block, next_block, block_many}
use Rattle.checking.proofs.PromiseLaws.{raise_fits, set_fits, more_fits, room_for, all_blocks, one_set}
use Rattle.checking.proofs.search.promises.add_phase.Goals as goal

pub raise-requires : goal.raise-requires
raise-requires c i h = raise_fits c.args.signals c.args.phase c.unit-unit.result (vec_items c.args.numbers.now) c.requires.few c.requires.phase c.unit-unit.ensures c.requires.listed i (omega (arith, h))

pub loop-set-init : goal.loop-set-init
loop-set-init c = (raised_block c.unit-unit.result (vec_items c.args.numbers.now) (vec_items c.raise.new.numbers) (omega (arith, c.raise.ensures.len)) (λ i h. c.raise.ensures.each i (omega (arith, h))), omega arith, search rules)

pub overflow_mul-set : goal.overflow_mul-set
overflow_mul-set c = omega (arith, set_fits c.args.signals c.args.phase c.unit-unit.result (vec_items c.args.numbers.now) c.requires.few c.requires.phase c.unit-unit.ensures c.requires.listed c.loop-set.set (omega (arith, c.loop-set-test.true, c.sets-set-end.ensures)))

pub append_more-requires-clause-many : goal.append_more-requires-clause-many
append_more-requires-clause-many c = omega (arith, c.len-many.ensures, c.raise.ensures.len, ap length c.loop-set.invariant.0, block_many c.unit-unit.result (vec_items c.args.numbers.now) c.loop-set.set c.loop-set.invariant.1)

pub append_more-requires-clause-room : goal.append_more-requires-clause-room
append_more-requires-clause-room c =
    let q : vec_len c.args.numbers.now ≡ length (vec_items c.args.numbers.now) = omega arith in
    omega (
      arith,
      c.len-many.ensures,
      c.raise.ensures.len,
      c.raise.ensures.room,
      c.loop-set.invariant.2,
      room_for c.args.signals c.args.phase c.unit-unit.result (vec_items c.args.numbers.now) c.requires.few c.requires.phase c.unit-unit.ensures c.requires.listed c.loop-set.set
          (vec_len c.loop-set.numbers) (vec_capacity c.args.numbers.now) (omega (arith, c.loop-set-test.true, c.sets-set-end.ensures)) (omega (arith, ap length c.loop-set.invariant.0)) (omega (arith, c.requires.room, ap (λ n. n * (2 ^ c.args.signals - 1)) q)),
    )

pub append_more-requires-clause-fits : goal.append_more-requires-clause-fits
append_more-requires-clause-fits c i h = rw c.loop-set.invariant.0
    (more_fits c.args.signals c.args.phase c.unit-unit.result (vec_items c.args.numbers.now) c.requires.few c.requires.phase c.unit-unit.ensures c.requires.listed c.loop-set.set i c.loop-set.invariant.1
    (omega (arith, c.loop-set-test.true, c.sets-set-end.ensures)) (omega (arith, h, c.len-many.ensures)))

pub loop-set-preserved : goal.loop-set-preserved
loop-set-preserved c = (
  c.append_more.ensures.items
      ∙ ap (λ xs. xs ++ map (λ x. c.loop-set.set * c.unit-unit.result + x) (take c.len-many.result xs)) c.loop-set.invariant.0
      ∙ next_block c.unit-unit.result (vec_items c.args.numbers.now) c.loop-set.set c.len-many.result c.loop-set.invariant.1 (omega (arith, c.len-many.ensures)),
  omega arith,
  search rules,
)

pub returns-clause-listed : goal.returns-clause-listed
returns-clause-listed c = c.loop-set.invariant.0 ∙ all_blocks c.args.signals c.args.phase c.unit-unit.result (vec_items c.args.numbers.now) c.requires.few c.requires.phase c.unit-unit.ensures c.requires.listed c.loop-set.set (omega (arith, c.loop-set-test.false, c.sets-set-end.ensures, c.loop-set.auto, one_set c.args.signals c.requires.few c.requires.some))
