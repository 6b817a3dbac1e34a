-- What a solver knows of its ranks on the way. A reader of the promises needs none of this: they speak of rivals alone (Solutions).
use Rattle.std.specs.Prelude.{◌≡◌, ℕ, ◌+◌, ◌*◌, ◌<◌, ◌≤◌, Bool, true, false, cond, ◌⊎◌, List, length, vec_items, count_by, ◌≢◌, nat_eq, nat_lt, slice_index_or}
use Rattle.checking.specs.declared.state_set.StateSet.{StateSet}
use Rattle.checking.specs.declared.ranking.Entry.{Entry}
use Rattle.checking.specs.declared.ranking.Ranking.{Ranking}
use Rattle.reading.specs.declared.records.Position.{Position}
use Rattle.reading.specs.Bytes.{byte, pair}
use Rattle.reading.specs.Limits.{AllBelow}
use Rattle.checking.specs.StateSets.{member, nothing}
use Rattle.checking.specs.Arenas.{Arena}
use Rattle.checking.specs.Controllers.{Plan, Kept, Rival}

-- a promised signal with which the side goes on, to positions of rank below d alone
pub record Leads (a : Arena) (rank : ℕ → ℕ → ℕ) (s p x d : ℕ) : Type 0 where
  pub promised : a.promised p x ≡ true
  pub goes : (b : ℕ) → a.relied p b ≡ true → (t : ℕ) × (a.move s x b t ≡ true)
  pub below : (b t : ℕ) → a.relied p b ≡ true → a.move s x b t ≡ true → rank t (a.follow p x b) < d

-- the lowest signal that leads below d
pub record Lowest (a : Arena) (rank : ℕ → ℕ → ℕ) (s p d x : ℕ) : Type 0 where
  pub leads : Leads a rank s p x d
  pub least : (y : ℕ) → Leads a rank s p y d → x ≤ y

-- the same over sets of states, one for each phase
pub record Leading (a : Arena) (sets : List StateSet) (s p x : ℕ) : Type 0 where
  pub promised : a.promised p x ≡ true
  pub goes : (b : ℕ) → a.relied p b ≡ true → (t : ℕ) × (a.move s x b t ≡ true)
  pub into : (b t : ℕ) → a.relied p b ≡ true → a.move s x b t ≡ true → member (slice_index_or sets (a.follow p x b) nothing) t ≡ true

-- where the partner answers b
pub record Answered (a : Arena) (sets : List StateSet) (s p x b : ℕ) : Type 0 where
  pub goes : (t : ℕ) × (a.move s x b t ≡ true)
  pub into : (t : ℕ) → a.move s x b t ≡ true → member (slice_index_or sets (a.follow p x b) nothing) t ≡ true

-- the lowest signal that leads into the sets
pub record First (a : Arena) (sets : List StateSet) (s p x : ℕ) : Type 0 where
  pub leads : Leading a sets s p x
  pub least : (y : ℕ) → Leading a sets s p y → x ≤ y

-- each phase's set has the states whose rank is below d
abbrev pub Tracks : Arena → List StateSet → (ℕ → ℕ → ℕ) → ℕ → Type 0
Tracks a sets rank d = (t q : ℕ) → q < a.phases → member (slice_index_or sets q nothing) t ≡ nat_lt (rank t q) d

-- the rank that a served position's next ones are below: any rank at a goal, else its own
abbrev pub bar : Arena → (ℕ → ℕ → ℕ) → ℕ → ℕ → ℕ
bar a rank s p = cond (a.goal s) 65535 (rank s p)

-- what a rank n and a choice x always are: at a position inside that is not forbidden, zero exactly at goals, both or neither absent
pub record Shape (a : Arena) (s p n x : ℕ) : Type 0 where
  pub capped : n ≤ 65535
  pub inside : n < 65535 → (s < a.states) × (p < a.phases)
  pub safe : n < 65535 → a.forbidden s ≡ false
  pub zero_at_goals : n < 65535 → a.goal s ≡ true → n ≡ 0
  pub goals_at_zero : n ≡ 0 → a.goal s ≡ true
  pub absent : n ≡ 65535 → x ≡ 255

-- no rival does better
abbrev pub Least : Arena → (ℕ → ℕ → ℕ) → Type 0
Least a rank = (r : Plan) → Rival a r → (s p : ℕ) → Kept r s p → rank s p ≤ r.rank s p

-- ranks and choices where a solver stops
pub record Stable (a : Arena) (rank choice : ℕ → ℕ → ℕ) : Type 0 where
  pub shaped : (s p : ℕ) → Shape a s p (rank s p) (choice s p)
  pub led : (s p : ℕ) → rank s p < 65535 → Lowest a rank s p (bar a rank s p) (choice s p)
  pub least : Least a rank

-- a position that an attractor may add
pub record Open (a : Arena) (s p : ℕ) : Type 0 where
  pub state : s < a.states
  pub phase : p < a.phases
  pub no_goal : a.goal s ≡ false
  pub safe : a.forbidden s ≡ false

-- what is led to ranks below d is ranked, at most d
abbrev pub Full : Arena → (ℕ → ℕ → ℕ) → ℕ → ℕ → ℕ → Type 0
Full a rank d s p = (x : ℕ) → Open a s p → Leads a rank s p x d → rank s p ≤ d

-- ranks that grow from targets, among which is each goal that a rival keeps
pub record Grown (a : Arena) (rank choice : ℕ → ℕ → ℕ) : Type 0 where
  pub shaped : (s p : ℕ) → Shape a s p (rank s p) (choice s p)
  pub led : (s p : ℕ) → rank s p < 65535 → a.goal s ≡ false → Lowest a rank s p (rank s p) (choice s p)
  pub targets : (r : Plan) → Rival a r → (s p : ℕ) → Kept r s p → a.goal s ≡ true → rank s p ≡ 0

-- an attractor with ranks below top, whose layers below done are complete
pub record Layered (a : Arena) (rank choice : ℕ → ℕ → ℕ) (top done : ℕ) : Type 0 where
  pub grown : Grown a rank choice
  pub low : (s p : ℕ) → rank s p < 65535 → rank s p < top
  pub full : (e s p : ℕ) → 0 < e → e < done → Full a rank e s p

-- what is known of every arena that is played
pub record Bounded (a : Arena) : Type 0 where
  pub some_phase : 0 < a.phases
  pub few_phases : a.phases ≤ 8
  pub few_states : a.states ≤ 256
  pub starts : a.start < a.states
  pub follows : (p x b : ℕ) → a.follow p x b < a.phases
  pub relies : (p b : ℕ) → a.relied p b ≡ true → b < 4
  pub promises : (p x : ℕ) → a.promised p x ≡ true → x < 4

-- no rank and no choice
abbrev pub absent : Entry
absent = record { rank = 65535; choice = 255 }

-- what entries hold of each position, eight places to a state, and otherwise nothing
unfoldable pub held : Arena → List Entry → ℕ → ℕ → Entry
held a l s p = cond (nat_lt s a.states) (cond (nat_lt p a.phases) (slice_index_or l (s * 8 + p) absent) absent) absent

-- the ranks that a ranking holds
abbrev pub ranks_in : Arena → Ranking → ℕ → ℕ → ℕ
ranks_in a z s p = (held a (vec_items z.entries) s p).rank

-- the choices that it holds
abbrev pub choices_in : Arena → Ranking → ℕ → ℕ → ℕ
choices_in a z s p = (held a (vec_items z.entries) s p).choice

-- how many ranks are 0
abbrev pub zeros : Ranking → ℕ
zeros z = count_by (λ (e : Entry). nat_eq e.rank 0) (vec_items z.entries)

-- a position of an arena
pub record Inside (a : Arena) (at : Position) : Type 0 where
  pub state : at.state < a.states
  pub phase : at.phase < a.phases

-- what holds of each position that a pass has come by: phase by phase, and in a phase state by state
abbrev pub Before : Arena → ℕ → ℕ → (ℕ → ℕ → Type 0) → Type 0
Before a p s F = (t q : ℕ) → t < a.states → (q < p) ⊎ ((q ≡ p) × (t < s)) → F t q

-- a write: rank n and choice x at one position
pub record Written (a : Arena) (old new : Ranking) (s p n x : ℕ) : Type 0 where
  pub rank : ranks_in a new s p ≡ n
  pub choice : choices_in a new s p ≡ x
  pub there : (t q : ℕ) → ((ranks_in a new t q ≡ ranks_in a old t q) × (choices_in a new t q ≡ choices_in a old t q)) ⊎ ((t ≡ s) × (q ≡ p))

-- the layers of a ranking
abbrev pub Layers : Arena → Ranking → ℕ → ℕ → Type 0
Layers a z top done = Layered a (ranks_in a z) (choices_in a z) top done

-- the layers below d are there and complete, and the sets have what they rank
pub record Attracted (a : Arena) (z : Ranking) (d : ℕ) : Type 0 where
  pub layers : Layers a z d d
  pub tracks : Tracks a z.ranked (ranks_in a z) d

-- the pass of layer d, before state s of phase p: the sets in use have the ranks below d, the next sets those up to d
pub record Layering (a : Arena) (z : Ranking) (next : List StateSet) (d p s : ℕ) : Type 0 where
  pub layered : Layers a z (d + 1) d
  pub done : Before a p s (Full a (ranks_in a z) d)
  pub present : Tracks a z.ranked (ranks_in a z) d
  pub coming : Tracks a next (ranks_in a z) (d + 1)
  pub eight : length next ≡ 8

-- the signal by which a position joins a layer: it has no rank yet, may be added, and is led into the ranked sets
pub record Joining (a : Arena) (z : Ranking) (s p x : ℕ) : Type 0 where
  pub fresh : ranks_in a z s p ≡ 65535
  pub free : Open a s p
  pub first : First a z.ranked s p x

-- a position that does not join
abbrev pub Barred : Arena → Ranking → ℕ → ℕ → Type 0
Barred a z s p = ranks_in a z s p ≡ 65535 → Open a s p → (x : ℕ) → Leading a z.ranked s p x → ⊥

-- a goal that is neither forbidden nor given up
pub record Target (a : Arena) (z : Ranking) (s p : ℕ) : Type 0 where
  pub zero : ranks_in a z s p ≡ 0
  pub goal : a.goal s ≡ true
  pub safe : a.forbidden s ≡ false

-- a position before any layer: a target or nothing
pub record Fresh (a : Arena) (s p n x : ℕ) : Type 0 where
  pub shape : Shape a s p n x
  pub zero : n < 65535 → n ≡ 0
  pub target : (r : Plan) → Rival a r → Kept r s p → a.goal s ≡ true → n ≡ 0

-- the pass that keeps the targets alone, before state s of phase p
pub record Resetting (a : Arena) (z : Ranking) (p s : ℕ) : Type 0 where
  pub targets : (r : Plan) → Rival a r → (t q : ℕ) → Kept r t q → a.goal t ≡ true → ranks_in a z t q ≡ 0
  pub done : Before a p s (λ t q. Fresh a t q (ranks_in a z t q) (choices_in a z t q))
  pub sets : (t q : ℕ) → q < p → member (slice_index_or z.ranked q nothing) t ≡ nat_lt (ranks_in a z t q) 1

-- the pass that gives up goals, before state s of phase p, from the ranking `old`
pub record Pruning (a : Arena) (old z : Ranking) (p s : ℕ) : Type 0 where
  pub least : Least a (ranks_in a z)
  pub sets : z.ranked ≡ old.ranked
  pub rest : (t q : ℕ) → (ranks_in a old t q ≢ 0) → (ranks_in a z t q ≡ ranks_in a old t q) × (choices_in a z t q ≡ choices_in a old t q)
  pub onward : Before a p s (λ t q. ranks_in a z t q ≡ 0 → Lowest a (ranks_in a old) t q 65535 (choices_in a z t q))

-- a target gets the lowest signal that leads into the ranked sets
pub record Chosen (a : Arena) (old new : Ranking) (s p : ℕ) : Type 0 where
  pub own : ℕ
  pub first : First a old.ranked s p own
  pub written : Written a old new s p 0 own
  pub zeros : zeros new ≤ zeros old

-- a target is given up, where no signal leads there
pub record Dropped (a : Arena) (old new : Ranking) (s p : ℕ) : Type 0 where
  pub stuck : (x : ℕ) → Leading a old.ranked s p x → ⊥
  pub written : Written a old new s p 65535 255
  pub zeros : ranks_in a old s p ≡ 0 → zeros new < zeros old

-- one or the other, by whether it was given up
abbrev pub Renewed : Arena → Ranking → Ranking → ℕ → ℕ → Bool → Type 0
Renewed a old new s p false = (new.ranked ≡ old.ranked) × (ranks_in a old s p ≡ 0 → Chosen a old new s p)
Renewed a old new s p true = (new.ranked ≡ old.ranked) × Dropped a old new s p

-- the bytes of a record that holds a ranking
pub record Wrote (a : Arena) (z : Ranking) (xs : List ℕ) : Type 0 where
  pub bytes : AllBelow 256 xs
  pub long : length xs ≡ 4 + 3 * (a.states * a.phases)
  pub states : pair xs 0 ≡ a.states
  pub phases : byte xs 2 ≡ a.phases
  pub signals : byte xs 3 ≡ a.own
  pub choice : (s p : ℕ) → s < a.states → p < a.phases → byte xs (4 + (s * a.phases + p)) ≡ choices_in a z s p
  pub rank : (s p : ℕ) → s < a.states → p < a.phases → pair xs (4 + a.states * a.phases + 2 * (s * a.phases + p)) ≡ ranks_in a z s p

-- the entry at a place of a record of so many positions
pub record Holds (xs : List ℕ) (size place : ℕ) (e : Entry) : Type 0 where
  pub choice : byte xs (4 + place) ≡ e.choice
  pub rank : pair xs (4 + size + 2 * place) ≡ e.rank

-- the phases that can come after a phase are all in a set
abbrev pub After : Arena → ℕ → StateSet → Type 0
After a p after = (x b : ℕ) → a.promised p x ≡ true → a.relied p b ≡ true → member after (a.follow p x b) ≡ true

-- for each phase the phases that can come after it
abbrev pub Turns : Arena → List StateSet → Type 0
Turns a turns = (p : ℕ) → p < a.phases → After a p (slice_index_or turns p nothing)

-- which states a phase's moves may come from, given for each next phase the states with a move to where it matters; all, where
-- no signal is relied on
pub record Near (a : Arena) (sources : List StateSet) (p : ℕ) (near : StateSet) : Type 0 where
  pub idle : ((b : ℕ) → a.relied p b ≡ true → ⊥) → (s : ℕ) → s < a.states → member near s ≡ true
  pub sourced : (s x b : ℕ) → a.promised p x ≡ true → a.relied p b ≡ true → member (slice_index_or sources (a.follow p x b) nothing) s ≡ true → member near s ≡ true

-- for each phase the states with a move into what its set has beyond an earlier one
abbrev pub Entered : Arena → List StateSet → List StateSet → List StateSet → Type 0
Entered a earlier sets sources = (s x b t q : ℕ) → q < a.phases → a.move s x b t ≡ true → member (slice_index_or sets q nothing) t ≡ true
    → member (slice_index_or earlier q nothing) t ≡ false → member (slice_index_or sources q nothing) s ≡ true

-- a state that is not near is led into the sets in no open position that is not in them
abbrev pub Quiet : Arena → List StateSet → ℕ → StateSet → Type 0
Quiet a sets p near = (s : ℕ) → member near s ≡ false → member (slice_index_or sets p nothing) s ≡ false → Open a s p → (x : ℕ) → Leading a sets s p x → ⊥
