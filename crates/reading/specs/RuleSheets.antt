-- Rule sheets for n states: Q, a byte of accepting states, a byte of forbidden labels, the start, then Q rows of 8 next states.
use Rattle.std.specs.Prelude.{◌≡◌, ℕ, ◌+◌, ◌*◌, ◌^◌, ◌<◌, ◌≤◌, Bool, true, cond, ◌&&◌, List, length, drop, replicate, Option, ◌==◌, nat_le, nat_lt}
use Rattle.reading.specs.declared.rule_sheet.RuleSheet.{RuleSheet}
use Rattle.reading.specs.Firsts.{first_some, first_below, unless}
use Rattle.reading.specs.Bytes.{byte, bit, within, padded}
use Rattle.reading.specs.Faults.{Fault, fault, length_place, entry_fault}

-- a deterministic Büchi automaton over labels 0 to 7, with labels that are forbidden;
-- next states lie in 64 bytes, row by row, zeros behind the last
pub record Automaton : Type 0 where
  pub states : ℕ
  pub accepting : ℕ
  pub forbidden : ℕ
  pub start : ℕ
  pub next : List ℕ

-- the automaton that bytes hold
abbrev pub automaton_in : List ℕ → Automaton
automaton_in xs = record {
  states = byte xs 0;
  accepting = byte xs 1;
  forbidden = byte xs 2;
  start = byte xs 3;
  next = padded 64 (drop 4 xs);
}

-- the automaton that was read
abbrev pub automaton_of : RuleSheet → Automaton
automaton_of r = record {
  states = r.states;
  accepting = r.accepting;
  forbidden = r.forbidden;
  start = r.start;
  next = r.next;
}

-- one state, nothing accepting, nothing forbidden
abbrev pub blank : Automaton
blank = record { states = 1; accepting = 0; forbidden = 0; start = 0; next = replicate 64 0 }

-- the next state of state q on a label; 0 where one of them is out of range
abbrev pub next_state : Automaton → ℕ → ℕ → ℕ
next_state a q label = cond (nat_lt q a.states && nat_lt label 8) (byte a.next (8 * q + label)) 0

-- whether an automaton's state is accepting
abbrev pub accepts : Automaton → ℕ → Bool
accepts a q = nat_lt q 8 && bit a.accepting q

-- whether a label is forbidden
abbrev pub forbids : Automaton → ℕ → Bool
forbids a label = nat_lt label 8 && bit a.forbidden label

-- a field out of range, in field order; accepting states are below Q
abbrev pub field_fault : ℕ → ℕ → ℕ → Option Fault
field_fault q accepting start =
    first_some (unless (within 1 8 q) (fault 2 0))
    (first_some (unless (nat_lt accepting (2 ^ q)) (fault 2 1))
    (unless (nat_lt start q) (fault 2 3)))

-- too short, a field, the length
abbrev pub head_fault : List ℕ → Option Fault
head_fault xs =
    first_some (unless (nat_le 4 (length xs)) (fault 1 (length_place xs)))
    (first_some (field_fault (byte xs 0) (byte xs 1) (byte xs 3))
    (unless (length xs == 4 + 8 * byte xs 0) (fault 3 (length_place xs))))

-- the first fault of a rule sheet for n states; next states are states, from byte 4 on; last, n × Q above 256
abbrev pub rule_fault : ℕ → List ℕ → Option Fault
rule_fault n xs =
    first_some (head_fault xs)
    (first_some (first_below (length (drop 4 xs)) (entry_fault (drop 4 xs) (byte xs 0) 4))
    (unless (nat_le (n * byte xs 0) 256) (fault 7 0)))

-- a lawful rule sheet, in its own words
pub record Lawful (n : ℕ) (xs : List ℕ) : Type 0 where
  pub fixed : 4 ≤ length xs
  pub some_states : 1 ≤ byte xs 0
  pub few_states : byte xs 0 ≤ 8
  pub accepting : (j : ℕ) → bit (byte xs 1) j ≡ true → j < byte xs 0
  pub starts : byte xs 3 < byte xs 0
  pub long : length xs ≡ 4 + 8 * byte xs 0
  pub next : (i : ℕ) → i < length (drop 4 xs) → byte (drop 4 xs) i < byte xs 0
  pub small : n * byte xs 0 ≤ 256
