-- From what a search knows of its snapshots to what it answers of the games.
use Rattle.std.proofs.Common.{◌≡◌, ℕ, ◌+◌, ◌-◌, ◌<◌, ◌≤◌, true, None, leb, refl, sym, subst, inl, inr, arith}
use Rattle.reading.specs.Bytes.{within}
use Rattle.reading.specs.declared.sides.Sides.{Sides}
use Rattle.reading.specs.declared.sizes.Sizes.{Sizes}
use Rattle.reading.proofs.FirstLaws.{of_none, unless_none}
use Rattle.reading.specs.declared.phase_table.PhaseTable.{PhaseTable}
use Rattle.games.specs.declared.deal.Deal.{Deal}
use Rattle.games.specs.Machines.{Model, Marks}
use Rattle.games.specs.Signings.{Dealt}
use Rattle.checking.specs.declared.search.seek.Seeker.{Seeker}
use Rattle.checking.specs.Snapshots.{Taken}
use Rattle.checking.specs.Controllers.{Controlled}
use Rattle.checking.specs.Searching.{candidate, how_many, terms_of, meet, search_head, Workable, NoneBefore, Agreed, Spent, NoneAtAll}
use Rattle.checking.specs.Verdicts.{BothWin, OneFails, NoneWins, FirstToWin}
use Rattle.checking.proofs.SolutionLaws.{same_arena}

module _ (m : Sides Model) (k : Sides Marks) (t : PhaseTable) (y : Seeker) (first : Taken m.first k.first y.first.snapshot) (second : Taken m.second k.second y.second.snapshot) where
  pub workable : (c : Sides ℕ) (d : Deal) → Dealt t.sizes (terms_of c) d → BothWin y t c → Workable m k t d
  workable c d on b = record {
    first = subst Controlled (same_arena m.first k.first y.first.snapshot t d 0 first) (b.first d on);
    second = subst Controlled (same_arena m.second k.second y.second.snapshot t d 1 second) (b.second d on);
  }

  fails : (c : Sides ℕ) (d : Deal) → Dealt t.sizes (terms_of c) d → OneFails y t c → Workable m k t d → ⊥
  fails c d on (inl v) w = v d on (subst Controlled (sym (same_arena m.first k.first y.first.snapshot t d 0 first)) w.first)
  fails c d on (inr v) w = v d on (subst Controlled (sym (same_arena m.second k.second y.second.snapshot t d 1 second)) w.second)

  pub none_before : (n : ℕ) → NoneWins y t n → NoneBefore m k t n
  none_before n v i d h l on = fails (candidate t.sizes i) d on (v i h)

  pub agreed : (allowance many place : ℕ) (d : Deal) → search_head m t.sizes allowance ≡ None → many ≤ allowance → many ≤ how_many t.sizes →
      FirstToWin y t many place → Dealt t.sizes (terms_of (candidate t.sizes place)) d → Agreed m k t allowance (record { deal = d; tries = place + 1 })
  agreed allowance many place d head a h w on =
      let e : place + 1 - 1 ≡ place = omega arith in
      record {
        head = head;
        some = omega arith;
        allowed = omega (arith, a, w.below);
        there = omega (arith, h, w.below);
        dealt = rw e on;
        workable = workable (candidate t.sizes place) d on w.win;
        first = rw e (none_before place w.first);
      }

  pub spent : (allowance many : ℕ) → search_head m t.sizes allowance ≡ None → allowance < how_many t.sizes → allowance ≡ many → NoneWins y t many → Spent m k t allowance allowance
  spent allowance many head a e v = record { head = head; all = refl; more = a; none = rw e (none_before many v) }

  pub none_at_all : (allowance many count : ℕ) → search_head m t.sizes allowance ≡ None → count ≡ how_many t.sizes → count ≤ allowance → count ≡ many → NoneWins y t many → NoneAtAll m k t allowance count
  none_at_all allowance many count head c a e v = record { head = head; all = c; allowed = a; none = rw e (none_before many v) }

-- nothing is refused before any candidate is tried
pub untold : (m : Sides Model) (z : Sizes) (allowance : ℕ) → meet m z ≡ true → within 1 65535 allowance ≡ true → leb (how_many z) 65535 ≡ true → search_head m z allowance ≡ None
untold m z allowance a b c = of_none _ _ (unless_none _ _ a) (of_none _ _ (unless_none _ _ b) (unless_none _ _ c))
