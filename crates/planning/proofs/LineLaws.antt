-- A text that grows line by line.
use Rattle.std.proofs.Common.{◌≡◌, ℕ, suc, ◌+◌, List, ◌++◌, ap, ◌∙◌, sym, arith}
use Rattle.std.proofs.lemmas.List.{append-nil, append_assoc}
use Rattle.reading.specs.Records.{Parts}
use Rattle.planning.specs.Lines.{position_line, state_lines, table_lines}

-- before any line
pub no_phase : (r : Parts) (s : ℕ) (text : List ℕ) → text ≡ text ++ state_lines r s 0
unfolding state_lines
no_phase r s text = sym (append-nil text)

pub no_state : (r : Parts) (text : List ℕ) → text ≡ text ++ table_lines r 0
unfolding table_lines
no_state r text = sym (append-nil text)

-- one line more, and those of one state more
pub phase_more : (r : Parts) (s p : ℕ) → state_lines r s (p + 1) ≡ state_lines r s p ++ position_line r s p
unfolding state_lines
phase_more r s p = let e : p + 1 ≡ suc p = omega arith in ap (state_lines r s) e

pub state_more : (r : Parts) (s : ℕ) → table_lines r (s + 1) ≡ table_lines r s ++ state_lines r s r.phases
unfolding table_lines
state_more r s = let e : s + 1 ≡ suc s = omega arith in ap (table_lines r) e

-- what is added behind what was there
pub behind : (old text new now before more : List ℕ) → new ≡ text ++ more → text ≡ old ++ before → now ≡ before ++ more → new ≡ old ++ now
behind old text new now before more e f g = e ∙ ap (λ t. t ++ more) f ∙ append_assoc old before more ∙ ap (λ t. old ++ t) (sym g)

-- three parts, and what comes behind them
pub three : (a b c d : List ℕ) → (a ++ (b ++ c)) ++ d ≡ a ++ (b ++ (c ++ d))
three a b c d = append_assoc a (b ++ c) d ∙ ap (λ t. a ++ t) (append_assoc b c d)
