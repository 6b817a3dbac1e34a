-- Stable ranks are the solved plan; the bytes that hold them are the one solved record.
use Rattle.std.proofs.Common.{◌≡◌, ℕ, ◌<◌, ◌≤◌, Bool, ap, ◌∙◌, inl, inr, arith}
use mathlib.Core.Path.{fun_ext}
use Rattle.std.proofs.lemmas.Bool.{cases_lt, cases_Bool}
use Rattle.reading.specs.declared.phase_table.PhaseTable.{PhaseTable}
use Rattle.games.specs.declared.deal.Deal.{Deal}
use Rattle.games.specs.Machines.{Model, Marks, forbidden_in, goal_in}
use Rattle.checking.specs.declared.snapshot.Snapshot.{Snapshot}
use Rattle.checking.specs.Arenas.{Arena, arena, promised, relied, follow}
use Rattle.checking.specs.Controllers.{Plan, Kept, Serves, Controller}
use Rattle.checking.specs.Snapshots.{snap_forbidden, snap_goal, snap_arena, Taken}
use Rattle.checking.specs.Solutions.{Solved}
use Rattle.checking.specs.Solving.{Leads, bar, Stable}

module _ (a : Arena) (rank choice : ℕ → ℕ → ℕ) (stable : Stable a rank choice) where
  abbrev plan : Plan
  plan = record { choice = choice; rank = rank }

  ranked_kept : (s p : ℕ) → rank s p < 65535 → Kept plan s p
  ranked_kept s p h = λ e. omega (arith, e.1)

  pub kept_ranked : (s p : ℕ) → Kept plan s p → rank s p < 65535
  kept_ranked s p k = elim (cases_lt (rank s p) 65535) [
    | inl h ↦ h
    | inr h ↦ let e : rank s p ≡ 65535 = omega (arith, (stable.shaped s p).capped) in absurd (k ((stable.shaped s p).absent e, e))
  ]

  led_serves : (s p x : ℕ) → rank s p < 65535 → Leads a rank s p x (bar a rank s p) → Serves a plan s p x
  led_serves s p x h l = record {
    promised = l.promised;
    goes = l.goes;
    stays = λ b t hb m. ranked_kept _ _ (elim (cases_Bool (a.goal s)) [
      | inl g ↦ rw g at (l.below b t hb m)
      | inr g ↦ omega (arith, rw g at (l.below b t hb m))
    ]);
    falls = λ b t hb m g. rw g at (l.below b t hb m);
  }

  serves_led : (s p x : ℕ) → Serves a plan s p x → Leads a rank s p x (bar a rank s p)
  serves_led s p x w = record {
    promised = w.promised;
    goes = w.goes;
    below = λ b t hb m. elim (cases_Bool (a.goal s)) [
      | inl g ↦ rw g (kept_ranked _ _ (w.stays b t hb m))
      | inr g ↦ rw g (w.falls b t hb m g)
    ];
  }

  pub solved : Solved a plan
  solved = record {
    rival = record {
      inside = λ s p k. (stable.shaped s p).inside (kept_ranked s p k);
      safe = λ s p k. (stable.shaped s p).safe (kept_ranked s p k);
      ranked = λ s p k. omega (arith, kept_ranked s p k);
      zero_at_goals = λ s p k. (stable.shaped s p).zero_at_goals (kept_ranked s p k);
      goals_at_zero = λ s p k. (stable.shaped s p).goals_at_zero;
      serves = λ s p k. let h = kept_ranked s p k in led_serves s p _ h (stable.led s p h).leads;
    };
    keeps = λ r v s p k. ranked_kept s p (omega (arith, stable.least r v s p k, v.ranked s p k));
    least = stable.least;
    lowest = λ s p x k w. (stable.led s p (kept_ranked s p k)).least x (serves_led s p x w);
  }

  pub starts : rank a.start 0 < 65535 → Kept plan a.start 0
  starts h = ranked_kept _ _ h

  pub none_controls : 65535 ≤ rank a.start 0 → (c : Plan) → Controller a c → ⊥
  none_controls e c v = omega (arith, e, stable.least c v.rival _ _ v.starts, v.rival.ranked _ _ v.starts)

-- what is played with a snapshot is what is played with its game
pub same_arena : (m : Model) (k : Marks) (z : Snapshot) (t : PhaseTable) (d : Deal) (side : ℕ) → Taken m k z → snap_arena z t d side ≡ arena m k t d side
same_arena m k z t d side w =
    let f : (ℕ → ℕ → ℕ → ℕ → Bool) → (ℕ → Bool) → (ℕ → Bool) → ℕ → ℕ → ℕ → ℕ → Arena = λ move forbidden goal n own partner start. record {
      states = n;
      phases = t.sizes.phases;
      start = start;
      own = own;
      partner = partner;
      promised = promised d side;
      relied = relied d side;
      follow = follow t side;
      move = move;
      forbidden = forbidden;
      goal = goal;
    } in
    ap (λ mv. f mv (snap_forbidden z) (snap_goal z) z.frame.states z.frame.own z.frame.partner z.frame.start) (fun_ext (λ s. fun_ext (λ x. fun_ext (λ b. fun_ext (w.moves s x b)))))
    ∙ ap (λ fb. f m.move fb (snap_goal z) z.frame.states z.frame.own z.frame.partner z.frame.start) (fun_ext w.forbidden)
    ∙ ap (λ g. f m.move (forbidden_in m k) g z.frame.states z.frame.own z.frame.partner z.frame.start) (fun_ext w.goals)
    ∙ ap (λ n. f m.move (forbidden_in m k) (goal_in m k) n z.frame.own z.frame.partner z.frame.start) w.states
    ∙ ap (λ n. f m.move (forbidden_in m k) (goal_in m k) m.states n z.frame.partner z.frame.start) w.own
    ∙ ap (λ n. f m.move (forbidden_in m k) (goal_in m k) m.states m.own n z.frame.start) w.partner
    ∙ ap (λ n. f m.move (forbidden_in m k) (goal_in m k) m.states m.own m.partner n) w.start
