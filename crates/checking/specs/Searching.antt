-- The candidates of a search in their order, when one is workable, and what searching answers.
use Rattle.std.specs.Prelude.{◌≡◌, ℕ, ◌-◌, ◌*◌, ◌^◌, ◌<◌, ◌≤◌, Bool, ◌&&◌, List, [], ◌∷◌, ◌++◌, length, map, filter, slice_index_or, Some, None, Ok, Err, Option, Result, ◌==◌, nat_le}
use Rattle.std.specs.List.{range_with_len}
use Rattle.reading.specs.Bytes.{within}
use Rattle.reading.specs.Firsts.{first_some, unless}
use Rattle.reading.specs.Sides.{both}
use Rattle.reading.specs.declared.sides.Sides.{Sides}
use Rattle.reading.specs.declared.sizes.Sizes.{Sizes}
use Rattle.reading.specs.declared.phase_table.PhaseTable.{PhaseTable}
use Rattle.games.specs.declared.deal.Deal.{Deal}
use Rattle.games.specs.declared.deal.Terms.{Terms}
use Rattle.games.specs.Machines.{Model, Marks}
use Rattle.games.specs.Sets.{width, described}
use Rattle.games.specs.Signings.{Dealt}
use Rattle.checking.specs.declared.faults.SearchFault.{SearchFault}
use Rattle.checking.specs.declared.faults.SearchFault.TheVariants as fault
use Rattle.checking.specs.declared.search.Agreement.{Agreement}
use Rattle.checking.specs.Arenas.{arena}
use Rattle.checking.specs.Controllers.{Controlled}

-- all promises of a side with so many signals over so many phases, ascending: every number that is as described for it. What a
-- described number holds lies below 2 ^ (width * phases)
unfoldable pub promises : ℕ → ℕ → List ℕ
promises phases signals = filter (described width phases signals) (range_with_len 0 (2 ^ (width * phases)))

-- a value of the first list with one of the second: by the first, then by the second
abbrev pub pairs : {A : Type 0} → List A → List A → List (Sides A)
pairs [] ys = []
pairs (x ∷ xs) ys = map (both x) ys ++ pairs xs ys

-- the candidates: a promise of each side, ascending by side 0's number, then by side 1's
abbrev pub candidates : Sizes → List (Sides ℕ)
candidates z = pairs (promises z.phases z.signals.first) (promises z.phases z.signals.second)

-- the number of candidates
abbrev pub how_many : Sizes → ℕ
how_many z = length (candidates z)

-- the candidate at a place, from 0
abbrev pub candidate : Sizes → ℕ → Sides ℕ
candidate z i = slice_index_or (candidates z) i (both 0 0)

-- a candidate's terms: each side relies on what the other promises
abbrev pub terms_of : Sides ℕ → Sides Terms
terms_of c = both (record { promise = c.first; reliance = c.second }) (record { promise = c.second; reliance = c.first })

-- under a deal both sides have ranked controllers
pub record Workable (m : Sides Model) (k : Sides Marks) (t : PhaseTable) (d : Deal) : Type 0 where
  pub first : Controlled (arena m.first k.first t d 0)
  pub second : Controlled (arena m.second k.second t d 1)

-- no deal on one of the first n candidates is workable
abbrev pub NoneBefore : Sides Model → Sides Marks → PhaseTable → ℕ → Type 0
NoneBefore m k t n = (i : ℕ) (d : Deal) → i < n → i < how_many t.sizes → Dealt t.sizes (terms_of (candidate t.sizes i)) d → Workable m k t d → ⊥

-- the number of each refusal of searching; every promise about them reads this definition and the next
abbrev pub search_number : SearchFault → ℕ
search_number fault.Sizes = 10
search_number fault.Allowance = 24
search_number fault.TooMany = 25
search_number (fault.Untried tries) = 26
search_number (fault.NoDeal tries) = 27

-- the tries that a refusal carries
abbrev pub search_tries : SearchFault → Option ℕ
search_tries fault.Sizes = None
search_tries fault.Allowance = None
search_tries fault.TooMany = None
search_tries (fault.Untried tries) = Some tries
search_tries (fault.NoDeal tries) = Some tries

-- whether both games and the table are of the same sizes
abbrev pub meet : Sides Model → Sizes → Bool
meet m z =
    m.first.own == z.signals.first
    && (m.first.partner == z.signals.second
    && (m.second.own == z.signals.second
    && m.second.partner == z.signals.first))

-- what is refused before any candidate is tried: sizes, the allowance, too many candidates
abbrev pub search_head : Sides Model → Sizes → ℕ → Option ℕ
search_head m z allowance =
    first_some (unless (meet m z) (search_number fault.Sizes))
    (first_some (unless (within 1 65535 allowance) (search_number fault.Allowance))
    (unless (nat_le (how_many z) 65535) (search_number fault.TooMany)))

-- a deal is answered: the first workable one in order, with its place from 1 as the tries
pub record Agreed (m : Sides Model) (k : Sides Marks) (t : PhaseTable) (allowance : ℕ) (a : Agreement) : Type 0 where
  pub head : search_head m t.sizes allowance ≡ None
  pub some : 1 ≤ a.tries
  pub allowed : a.tries ≤ allowance
  pub there : a.tries ≤ how_many t.sizes
  pub dealt : Dealt t.sizes (terms_of (candidate t.sizes (a.tries - 1))) a.deal
  pub workable : Workable m k t a.deal
  pub first : NoneBefore m k t (a.tries - 1)

-- none of those allowed is workable, and more remain
pub record Spent (m : Sides Model) (k : Sides Marks) (t : PhaseTable) (allowance tries : ℕ) : Type 0 where
  pub head : search_head m t.sizes allowance ≡ None
  pub all : tries ≡ allowance
  pub more : allowance < how_many t.sizes
  pub none : NoneBefore m k t tries

-- there is no workable deal at all
pub record NoneAtAll (m : Sides Model) (k : Sides Marks) (t : PhaseTable) (allowance tries : ℕ) : Type 0 where
  pub head : search_head m t.sizes allowance ≡ None
  pub all : tries ≡ how_many t.sizes
  pub allowed : tries ≤ allowance
  pub none : NoneBefore m k t tries

-- what searching answers
abbrev pub Searches : Sides Model → Sides Marks → PhaseTable → ℕ → Result Agreement SearchFault → Type 0
Searches m k t allowance (Ok a) = Agreed m k t allowance a
Searches m k t allowance (Err fault.Sizes) = search_head m t.sizes allowance ≡ Some (search_number fault.Sizes)
Searches m k t allowance (Err fault.Allowance) = search_head m t.sizes allowance ≡ Some (search_number fault.Allowance)
Searches m k t allowance (Err fault.TooMany) = search_head m t.sizes allowance ≡ Some (search_number fault.TooMany)
Searches m k t allowance (Err (fault.Untried tries)) = Spent m k t allowance tries
Searches m k t allowance (Err (fault.NoDeal tries)) = NoneAtAll m k t allowance tries
