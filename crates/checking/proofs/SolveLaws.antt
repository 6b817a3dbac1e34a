-- From a settled ranking and its written record to the answer of solving.
use Rattle.std.proofs.Common.{◌≡◌, ℕ, zero, suc, ◌+◌, ◌*◌, ◌/◌, ◌%◌, ◌<◌, ◌≤◌, true, false, not, ◌&&◌, ltb, eqb, ◌⊎◌, List, length, drop, vec_items, None, Ok, get_or, refl, sym, ap, ◌∙◌, subst, inl, inr, arith}
use mathlib.Core.Path.{fun_ext}
use Rattle.std.proofs.lemmas.List.{get_or-take, get_or-drop}
use Rattle.std.proofs.lemmas.Bool.{cases_lt, lt-ltb, le-ltb, eq-eqb, eqb-true, eqb-false, not-true, not-false, cond-false}
use Rattle.std.proofs.lemmas.Nat.{div_below, mod_below, div-add-mod'}
use Rattle.reading.specs.Bytes.{byte, pair}
use Rattle.reading.specs.Records.{parts_in, size_in, inside, choice_at, rank_at, bound_of, Lawful}
use Rattle.reading.proofs.FirstLaws.{of_none, unless_none}
use Rattle.reading.specs.declared.phase_table.PhaseTable.{PhaseTable}
use Rattle.games.specs.declared.deal.Deal.{Deal}
use Rattle.reading.specs.Sides.{pick}
use Rattle.games.proofs.DealLaws.{promised_in_range}
use Rattle.games.specs.Machines.{Model, Marks}
use Rattle.games.specs.Machines.{Lawful as LawfulMachine}
use Rattle.checking.specs.declared.ranking.Entry.{Entry}
use Rattle.checking.specs.declared.ranking.Ranking.{Ranking}
use Rattle.checking.specs.declared.snapshot.Snapshot.{Snapshot}
use Rattle.checking.specs.Snapshots.{Taken, snap_arena}
use Rattle.checking.specs.Arenas.{Arena, arena, promised, suits, Suits}
use Rattle.checking.specs.Controllers.{Plan, plan_in, Kept, Controlled}
use Rattle.checking.specs.Checks.{Sized, answer}
use Rattle.checking.specs.Solutions.{Solved, Solution, record_size, solve_head, Found, Refused}
use Rattle.checking.specs.Solving.{absent, Stable, Bounded, ranks_in, choices_in, Wrote}
use Rattle.checking.proofs.CheckLaws.{suits_from, suits_to, ranked_to}
use Rattle.checking.proofs.PlayLaws.{snap_bounded}
use Rattle.checking.proofs.PlaceLaws.{held_or, rank_read}
use Rattle.checking.proofs.SolutionLaws.{same_arena, solved, starts, none_controls}
use Rattle.checking.proofs.UniqueLaws.{same_entries, choice_byte, rank_pair, same_bytes}

-- a promised signal is one of the side's own
pub promised_own : (d : Deal) (side p x : ℕ) → promised d side p x ≡ true → x < pick side d.sizes.signals.first d.sizes.signals.second
promised_own d side p x e = (promised_in_range d side p x e).1

-- a written record holds the plan of the ranking
module _ (a : Arena) (z : Ranking) (xs : List ℕ) (w : Wrote a z xs) where
  size_is : size_in xs ≡ a.states * a.phases
  size_is = ap (λ i. i * byte xs 2) w.states ∙ ap (λ i. a.states * i) w.phases

  not_inside : (s p : ℕ) → ((s < a.states) × (p < a.phases) → ⊥) → inside (parts_in xs) s p ≡ false
  not_inside s p never = elim (cases_lt s (pair xs 0)) [
    | inr h ↦ ap (λ b. b && ltb p (byte xs 2)) (le-ltb s (pair xs 0) h)
    | inl h ↦ elim (cases_lt p (byte xs 2)) [
      | inl h' ↦ absurd (never (omega (arith, h, w.states), omega (arith, h', w.phases)))
      | inr h' ↦ ap (λ b. b && ltb p (byte xs 2)) (lt-ltb s (pair xs 0) h) ∙ le-ltb p (byte xs 2) h'
    ]
  ]

  choice_is : (s p : ℕ) → choice_at (parts_in xs) s p ≡ choices_in a z s p
  choice_is s p = elim (held_or a s p) [
    | inr i ↦ choice_byte xs s p (omega (arith, i.0, w.states)) (omega (arith, i.1, w.phases))
        ∙ ap (λ n. byte xs (4 + (s * n + p))) w.phases ∙ w.choice s p i.0 i.1
    | inl n ↦ cond-false _ _ _ (not_inside s p n.0) ∙ sym (ap (λ e. e.choice) (n.1 (vec_items z.entries)))
  ]

  rank_is : (s p : ℕ) → rank_at (parts_in xs) s p ≡ ranks_in a z s p
  rank_is s p = elim (held_or a s p) [
    | inr i ↦ rank_pair xs s p (omega (arith, i.0, w.states)) (omega (arith, i.1, w.phases))
        ∙ ap (λ n. pair xs (4 + n + 2 * (s * byte xs 2 + p))) size_is ∙ ap (λ n. pair xs (4 + a.states * a.phases + 2 * (s * n + p))) w.phases
        ∙ w.rank s p i.0 i.1
    | inl n ↦ cond-false _ _ _ (not_inside s p n.0) ∙ sym (ap (λ e. e.rank) (n.1 (vec_items z.entries)))
  ]

  pub plan_is : plan_in xs ≡ record { choice = choices_in a z; rank = ranks_in a z }
  plan_is =
      let f : (ℕ → ℕ → ℕ) → (ℕ → ℕ → ℕ) → Plan = λ c r. record { choice = c; rank = r } in
      ap (λ c. f c (rank_at (parts_in xs))) (fun_ext (λ s. fun_ext (choice_is s))) ∙ ap (f (choices_in a z)) (fun_ext (λ s. fun_ext (rank_is s)))

  module _ (b : Bounded a) (few : a.own ≤ 4) (some : 1 ≤ a.own) (own : (p x : ℕ) → a.promised p x ≡ true → x < a.own) (st : Stable a (ranks_in a z) (choices_in a z)) where
    choice_low : (s p : ℕ) → (choices_in a z s p < a.own) ⊎ (choices_in a z s p ≡ 255)
    choice_low s p = elim (cases_lt (ranks_in a z s p) 65535) [
      | inl h ↦ inl (own p _ (st.led s p h).leads.promised)
      | inr h ↦ inr ((st.shaped s p).absent (omega (arith, (st.shaped s p).capped)))
    ]

    entry_low : (i : ℕ) → i < size_in xs → (byte (parts_in xs).choices i < byte xs 3) ⊎ (byte (parts_in xs).choices i ≡ 255)
    entry_low i h =
        let P : 0 < a.phases = b.some_phase in
        let s = i / a.phases in
        let p = i % a.phases in
        let hs : s < a.states = div_below i a.phases a.states P (rw size_is at h) in
        let hp : p < a.phases = mod_below i a.phases P in
        let e : byte (parts_in xs).choices i ≡ choices_in a z s p =
        get_or-take (size_in xs) (drop 4 xs) i 0 h ∙ get_or-drop 4 xs i 0 ∙ ap (λ j. byte xs (4 + j)) (sym (div-add-mod' i a.phases)) ∙ w.choice s p hs hp in
        elim (choice_low s p) [ inl l ↦ inl (omega (arith, e, l, w.signals)) | inr l ↦ inr (e ∙ l) ]

    pub lawful_is : Lawful xs
    lawful_is = record {
      fixed = omega (arith, w.long);
      some_states = omega (arith, w.states, b.starts);
      few_states = omega (arith, w.states, b.few_states);
      some_phases = omega (arith, w.phases, b.some_phase);
      few_phases = omega (arith, w.phases, b.few_phases);
      some_signals = omega (arith, w.signals, some);
      few_signals = omega (arith, w.signals, few);
      long = w.long ∙ ap (λ n. 4 + 3 * n) (sym size_is);
      choices = entry_low;
    }

module _ (m : Model) (k : Marks) (t : PhaseTable) (d : Deal) (side : ℕ) where
  -- the solved record is one
  pub one_solution : (xs ys : List ℕ) → Solution m k t d side xs → Solution m k t d side ys → xs ≡ ys
  one_solution xs ys f g =
      same_bytes xs ys f.bytes g.bytes (f.sized.states ∙ sym g.sized.states) (f.sized.phases ∙ sym g.sized.phases) (f.sized.signals ∙ sym g.sized.signals)
      (omega (arith, f.lawful.some_phases)) (same_entries (arena m k t d side) (plan_in xs) (plan_in ys) f.solved g.solved) f.lawful.long g.lawful.long

  -- nothing is refused before solving
  pub head_none : (size : ℕ) → Suits m t d side → size ≡ record_size m.states t.sizes.phases → solve_head m t d side size ≡ None
  head_none size s e = of_none _ _ (unless_none _ _ (suits_to m t d side s)) (unless_none _ _ (eq-eqb _ _ e))

  module _ (w : LawfulMachine m) (s : Suits m t d side) (z : Ranking) (b : Bounded (arena m k t d side)) (st : Stable (arena m k t d side) (ranks_in (arena m k t d side) z) (choices_in (arena m k t d side) z)) where
    nothing_controls : 65535 ≤ ranks_in (arena m k t d side) z m.start 0 → Controlled (arena m k t d side) → ⊥
    nothing_controls h y = none_controls (arena m k t d side) _ _ st h y.0 y.1

    module _ (old xs : List ℕ) (size : length old ≡ record_size m.states t.sizes.phases) (wr : Wrote (arena m k t d side) z xs) where
      own : (p x : ℕ) → promised d side p x ≡ true → x < m.own
      own p x e = omega (arith, promised_own d side p x e, s.own, pick_same side s.signals0 s.signals1)
        where
          pick_same : (n : ℕ) {i j i' j' : ℕ} → i ≡ i' → j ≡ j' → pick n i j ≡ pick n i' j'
          pick_same zero h h' = h
          pick_same (suc n) h h' = h'

      lawful_xs : Lawful xs
      lawful_xs = lawful_is (arena m k t d side) z xs wr b w.few_own w.some_own own st

      solved_xs : Solved (arena m k t d side) (plan_in xs)
      solved_xs = subst (Solved (arena m k t d side)) (sym (plan_is (arena m k t d side) z xs wr)) (solved (arena m k t d side) _ _ st)

      sized_xs : Sized m t (parts_in xs)
      sized_xs = record { states = wr.states; phases = wr.phases; signals = wr.signals }

      solution_xs : Solution m k t d side xs
      solution_xs = record { bytes = wr.bytes; lawful = lawful_xs; sized = sized_xs; solved = solved_xs }

      found : (bound : ℕ) → bound ≡ bound_of (parts_in xs) → ranks_in (arena m k t d side) z m.start 0 < 65535 → Found m k t d side old xs bound
      found bound e h = record {
        head = head_none (length old) s size;
        solution = solution_xs;
        only = λ ys g. one_solution ys xs g solution_xs;
        starts = kept;
        accepted = ap (λ o. answer o (bound_of (parts_in xs))) (ranked_to m t d side k w xs (record { suits = s; lawful = lawful_xs; sized = sized_xs; controller = record { rival = solved_xs.rival; starts = kept } })) ∙ ap Ok (sym e);
      }
        where
          kept : Kept (plan_in xs) m.start 0
          kept = subst (λ (c : Plan). Kept c m.start 0) (sym (plan_is (arena m k t d side) z xs wr)) (starts (arena m k t d side) _ _ st h)

-- what was settled, and maybe written, over a snapshot of the game
module _ (m : Model) (k : Marks) (t : PhaseTable) (d : Deal) (side : ℕ) (w : LawfulMachine m) (sized : suits m t d side ≡ true) (z : Snapshot) (taken : Taken m k z) (r : Ranking)
    (settled : Stable (snap_arena z t d side) (ranks_in (snap_arena z t d side) r) (choices_in (snap_arena z t d side) r)) where
  over : (F : Arena → Type 0) → F (snap_arena z t d side) → F (arena m k t d side)
  over F x = subst F (same_arena m k z t d side taken) x

  b : Bounded (arena m k t d side)
  b = over Bounded (snap_bounded z t d side)

  st : Stable (arena m k t d side) (ranks_in (arena m k t d side) r) (choices_in (arena m k t d side) r)
  st = over (λ a. Stable a (ranks_in a r) (choices_in a r)) settled

  module _ (old : List ℕ) (size : length old ≡ record_size m.states t.sizes.phases) where
    pub lawful_written : (xs : List ℕ) → Wrote (snap_arena z t d side) r xs → Lawful xs
    lawful_written xs wr = lawful_xs m k t d side w (suits_from m t d side sized) r b st old xs size (over (λ a. Wrote a r xs) wr)

    -- by the entry of the start
    abbrev entry : Entry
    entry = get_or (vec_items r.entries) (z.frame.start * 8 + 0) absent

    start_rank : ranks_in (arena m k t d side) r m.start 0 ≡ entry.rank
    start_rank = rank_read (arena m k t d side) b m.start 0 b.starts b.some_phase r entry (ap (λ i. get_or (vec_items r.entries) (i * 8 + 0) absent) taken.start)

    pub none_found : not (eqb entry.rank 65535) ≡ false → Refused m k t d side old 23
    none_found h =
        inr (head_none m k t d side (length old) (suits_from m t d side sized) size, refl, nothing_controls m k t d side w (suits_from m t d side sized) r b st (omega (arith, eqb-true _ _ (not-false _ h), start_rank)))

    pub written_found : not (eqb entry.rank 65535) ≡ true → (xs : List ℕ) → Wrote (snap_arena z t d side) r xs → (bound : ℕ) → bound ≡ bound_of (parts_in xs) → Found m k t d side old xs bound
    written_found h xs wr bound q =
        found m k t d side w (suits_from m t d side sized) r b st old xs size (over (λ a. Wrote a r xs) wr) bound q (omega (arith, eqb-false _ _ (not-true _ h), start_rank, (st.shaped m.start 0).capped))
