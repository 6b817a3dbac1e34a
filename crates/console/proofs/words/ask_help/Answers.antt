use Rattle.std.proofs.Common.{codes, refl, rules, arith}
use Rattle.console.proofs.WordLaws.{only_word}
use Rattle.console.proofs.words.ask_help.Goals as goal

pub returns-in-len1 : goal.returns-in-len1
returns-in-len1 c = (
  λ _. only_word c.args.words.now c.word-item.result c.as_str.result.now (codes "--help") c.eq.result
      (omega arith) (omega arith) c.word-item.is c.as_str.ensures.value c.eq.ensures (search rules),
  λ _. refl,
)
