-- Laws of marks: what a mark keeps, and what they tell where no place waits.
use Rattle.std.proofs.Common.{◌≡◌, ℕ, ◌+◌, ◌*◌, ◌/◌, ◌%◌, ◌<◌, true, ◌≢◌, ◌⊎◌, List, length, set, replicate, sym, ap, ◌∙◌, subst, inl, inr, arith, get_or-set_other, get_or-set_same, mul_comm}
use Rattle.std.proofs.lemmas.List.{get_or_past, get_or-replicate, length-replicate}
use Rattle.std.proofs.lemmas.Bool.{cases_lt, cases_eq}
use Rattle.std.proofs.lemmas.Nat.{mul-add-lt, div-mul-add, mod-mul-add}
use Rattle.reading.specs.Bytes.{byte}
use Rattle.reading.specs.declared.phase_table.PhaseTable.{PhaseTable}
use Rattle.reading.specs.declared.records.Position.{Position}
use Rattle.games.specs.declared.deal.Deal.{Deal}
use Rattle.games.specs.Machines.{Model, Lawful}
use Rattle.checking.specs.Arenas.{promised, relied, follow}
use Rattle.checking.specs.Reach.Reached.{start, step}
use Rattle.checking.specs.Reach.{Reached, places, Tells, ReachedBytes}
use Rattle.checking.specs.Marking.{Marked, ReachedAt, Moved, Followed, Waiting, Idle, Marking}
use Rattle.checking.proofs.PlayLaws.{follow_low}

-- no place below k waits
abbrev pub IdleBelow : List ℕ → ℕ → Type 0
IdleBelow xs k = (i : ℕ) → i < k → byte xs i ≢ 2

module _ (P : ℕ → Type 0) where
  module _ (old mid new : List ℕ) where
    pub marked_next : Marked P old mid → Marked P mid new → Marked P old new
    marked_next v w = record {
      each = λ i. elim (w.each i) [
        | inl e ↦ elim (v.each i) [
          | inl f ↦ inl (e ∙ f)
          | inr f ↦ inr (f.0, e ∙ f.1, f.2)
        ]
        | inr e ↦ elim (v.each i) [
          | inl f ↦ inr (sym f ∙ e.0, e.1, e.2)
          | inr f ↦ absurd (omega (arith, e.0, f.1))
        ]
      ];
      fewer = omega (arith, v.fewer, w.fewer);
    }

  module _ (old new : List ℕ) (w : Marked P old new) where
    pub marked_stays : (i : ℕ) → byte old i ≢ 0 → byte new i ≢ 0
    marked_stays i n = elim (w.each i) [
      | inl e ↦ λ z. n (sym e ∙ z)
      | inr e ↦ absurd (n e.0)
    ]

    pub marked_more : (Q : ℕ → Type 0) → ((i : ℕ) → P i → Q i) → Marked Q old new
    marked_more Q f = record {
      each = λ i. elim (w.each i) [
        | inl e ↦ inl e
        | inr e ↦ inr (e.0, e.1, f i e.2)
      ];
      fewer = w.fewer;
    }

module _ (m : Model) (t : PhaseTable) where
  -- a position's place is in the buffer
  pub place_in : (s p : ℕ) → s < m.states → p < t.sizes.phases → s * t.sizes.phases + p < places m t
  place_in s p hs hp = omega (arith, mul-add-lt s t.sizes.phases p m.states hs hp, mul_comm t.sizes.phases m.states)

  -- what is said of a position, said of its place
  pub at_place : (F : ℕ → ℕ → Type 0) (s p : ℕ) → p < t.sizes.phases → F s p → F ((s * t.sizes.phases + p) / t.sizes.phases) ((s * t.sizes.phases + p) % t.sizes.phases)
  at_place F s p hp f = rw (div-mul-add s t.sizes.phases p hp, mod-mul-add s t.sizes.phases p hp) f

  -- the moves to states below k are marked, where q is the phase that follows
  abbrev pub MovedBelow : List ℕ → ℕ → ℕ → ℕ → ℕ → ℕ → Type 0
  MovedBelow xs s x b q k = (s' : ℕ) → s' < k → m.move s x b s' ≡ true → byte xs (s' * t.sizes.phases + q) ≢ 0

  module _ (s x b q k : ℕ) where
    pub moves_skip : (xs : List ℕ) → (m.move s x b k ≡ true → ⊥) → MovedBelow xs s x b q k → MovedBelow xs s x b q (k + 1)
    moves_skip xs none all s' h e = elim (cases_eq s' k) [
      | inl f ↦ absurd (none (ap (m.move s x b) (sym f) ∙ e))
      | inr n ↦ all s' (omega (arith, n)) e
    ]

    pub moves_mark : (P : ℕ → Type 0) (old new : List ℕ) → Marked P old new → byte new (k * t.sizes.phases + q) ≢ 0 → MovedBelow old s x b q k → MovedBelow new s x b q (k + 1)
    moves_mark P old new w here all s' h e = elim (cases_eq s' k) [
      | inl f ↦ λ z. here (ap (λ i. byte new (i * t.sizes.phases + q)) (sym f) ∙ z)
      | inr n ↦ marked_stays P old new w _ (all s' (omega (arith, n)) e)
    ]

  module _ (d : Deal) (side : ℕ) where
    -- what comes next is reached, at the place that is marked
    pub next_place : (s p x b s' q i : ℕ) → Reached m t d side s p → promised d side p x ≡ true → relied d side p b ≡ true → m.move s x b s' ≡ true
        → q ≡ follow t side p x b → i ≡ s' * t.sizes.phases + q → ReachedAt m t d side i
    next_place s p x b s' q i r hx hb e eq ei =
        rw (ei, eq) (at_place (Reached m t d side) s' (follow t side p x b) (follow_low t side p x b) (step s p x b s' r hx hb e))

    -- a mark that was made for a move
    pub move_marked : (old mid new : List ℕ) (s p x b s' q i : ℕ) → Reached m t d side s p → promised d side p x ≡ true → relied d side p b ≡ true → m.move s x b s' ≡ true
        → q ≡ follow t side p x b → i ≡ s' * t.sizes.phases + q → Marked (λ j. j ≡ i) mid new → byte new i ≢ 0
        → Marked (ReachedAt m t d side) old mid × MovedBelow mid s x b q s' → Marked (ReachedAt m t d side) old new × MovedBelow new s x b q (s' + 1)
    move_marked old mid new s p x b s' q i r hx hb e eq ei w here (v, all) = (
      marked_next _ old mid new v (marked_more _ mid new w _ (λ j f. subst (ReachedAt m t d side) (sym f) (next_place s p x b s' q i r hx hb e eq ei))),
      moves_mark s x b q s' _ mid new w (λ z. here (ap (byte new) ei ∙ z)) all,
    )

    -- the signals before a pair, the side's own first, are followed
    abbrev pub FollowedBefore : List ℕ → ℕ → ℕ → ℕ → ℕ → Type 0
    FollowedBefore xs s p x b = (x' b' : ℕ) → (x' < x) ⊎ ((x' ≡ x) × (b' < b)) → promised d side p x' ≡ true → relied d side p b' ≡ true → Moved m t side xs s p x' b'

    module _ (s p x b : ℕ) where
      pub follow_skip : (xs : List ℕ) → (promised d side p x ≡ true → relied d side p b ≡ true → ⊥) → FollowedBefore xs s p x b → FollowedBefore xs s p x (b + 1)
      follow_skip xs none all x' b' h hx hb = elim h [
        | inl l ↦ all x' b' (inl l) hx hb
        | inr e ↦ elim (cases_eq b' b) [
          | inl f ↦ absurd (none (ap (λ i. promised d side p i) (sym e.0) ∙ hx) (ap (λ i. relied d side p i) (sym f) ∙ hb))
          | inr n ↦ all x' b' (inr (e.0, omega (arith, n, e.1))) hx hb
        ]
      ]

      pub follow_more : (old mid new : List ℕ) → Marked (ReachedAt m t d side) mid new → Moved m t side new s p x b
          → Marked (ReachedAt m t d side) old mid × FollowedBefore mid s p x b → Marked (ReachedAt m t d side) old new × FollowedBefore new s p x (b + 1)
      follow_more old mid new w here (v, all) = (marked_next _ old mid new v w, more)
        where
          earlier : FollowedBefore new s p x b
          earlier x' b' h hx hb s' e = marked_stays _ mid new w _ (all x' b' h hx hb s' e)

          more : FollowedBefore new s p x (b + 1)
          more x' b' h hx hb = elim h [
            | inl l ↦ earlier x' b' (inl l) hx hb
            | inr e ↦ elim (cases_eq b' b) [
              | inl f ↦ subst (λ i. Moved m t side new s p i b') (sym e.0) (subst (Moved m t side new s p x) (sym f) here)
              | inr n ↦ earlier x' b' (inr (e.0, omega (arith, n, e.1))) hx hb
            ]
          ]

    -- a place tells its position, and the other way round
    pub reached_at : (s p : ℕ) → p < t.sizes.phases → ReachedAt m t d side (s * t.sizes.phases + p) → Reached m t d side s p
    reached_at s p hp r = rw (div-mul-add s t.sizes.phases p hp, mod-mul-add s t.sizes.phases p hp) at r

    -- a position that waits is reached
    pub waiting_reached : (xs : List ℕ) (at : Position) → Marking m t d side xs → Waiting m t xs at → Reached m t d side at.state at.phase
    waiting_reached xs at i w = reached_at at.state at.phase w.phase (i.sound _ (λ z. omega (arith, z, w.waits)))

    -- the start waits, and nothing else has a mark
    module _ (l : Lawful m) (xs : List ℕ) (n i : ℕ) (blank : xs ≡ replicate n 0) (en : n ≡ places m t) (ei : i ≡ m.start * t.sizes.phases + 0) where
      some : 0 < t.sizes.phases
      some = omega (arith, t.sizes.some_phases)

      none : (j : ℕ) → byte xs j ≡ 0
      none j = elim (cases_lt j n) [
        | inl h ↦ rw blank (get_or-replicate n j 0 0 h)
        | inr h ↦ get_or_past xs j 0 (omega (arith, h, long))
      ]
        where
          long : length xs ≡ n
          long = ap length blank ∙ length-replicate {A = ℕ} n 0

      first : byte (set xs i 2) i ≡ 2
      first = get_or-set_same xs i 2 0 (omega (arith, ap length blank, length-replicate {A = ℕ} n 0, en, ei, place_in m.start 0 l.starts some))

      other : (j : ℕ) → (j ≡ i → ⊥) → byte (set xs i 2) j ≡ 0
      other j ne = get_or-set_other xs i j 2 0 ne ∙ none j

      pub marking_start : Marking m t d side (set xs i 2)
      marking_start = record {
        low = λ j. elim (cases_eq j i) [
          | inl e ↦ omega (arith, ap (byte (set xs i 2)) e, first)
          | inr ne ↦ omega (arith, other j ne)
        ];
        starts = λ z. absurd (omega (arith, ap (byte (set xs i 2)) ei, first, z));
        sound = λ j z. elim (cases_eq j i) [
          | inl e ↦ rw (e, ei) (at_place (Reached m t d side) m.start 0 some start)
          | inr ne ↦ absurd (z (other j ne))
        ];
        closed = λ j z. elim (cases_eq j i) [
          | inl e ↦ absurd (omega (arith, ap (byte (set xs i 2)) e, first, z))
          | inr ne ↦ absurd (omega (arith, other j ne, z))
        ];
      }

    -- a position that waited, and what comes next after it is marked
    module _ (old new : List ℕ) (at : Position) (i : ℕ) (inside : i < length old) (ei : i ≡ at.state * t.sizes.phases + at.phase) (w : Waiting m t old at) (marked : Marked (ReachedAt m t d side) (set old i 1) new) where
      here : byte (set old i 1) i ≡ 1
      here = get_or-set_same old i 1 0 inside

      there : (j : ℕ) → (j ≡ i → ⊥) → byte (set old i 1) j ≡ byte old j
      there j ne = get_or-set_other old i j 1 0 ne

      was : byte old i ≡ 2
      was = ap (byte old) ei ∙ w.waits

      stays : (j : ℕ) → byte old j ≢ 0 → byte (set old i 1) j ≢ 0
      stays j n = elim (cases_eq j i) [
        | inl e ↦ λ z. absurd (omega (arith, ap (byte (set old i 1)) e, here, z))
        | inr ne ↦ λ z. n (sym (there j ne) ∙ z)
      ]

      pub marking_next : Marking m t d side old → Followed m t d side new at.state at.phase → Marking m t d side new
      marking_next k f = record {
        low = λ j. elim (marked.each j) [
          | inl e ↦ elim (cases_eq j i) [
            | inl q ↦ omega (arith, e, ap (byte (set old i 1)) q, here)
            | inr ne ↦ omega (arith, e, there j ne, k.low j)
          ]
          | inr e ↦ omega (arith, e.1)
        ];
        starts = marked_stays _ (set old i 1) new marked _ (stays _ k.starts);
        sound = λ j z. elim (marked.each j) [
          | inl e ↦ elim (cases_eq j i) [
            | inl q ↦ k.sound j (λ u. absurd (omega (arith, u, ap (byte old) q, was)))
            | inr ne ↦ k.sound j (λ u. z (e ∙ there j ne ∙ u))
          ]
          | inr e ↦ e.2
        ];
        closed = λ j z. elim (cases_eq j i) [
          | inl q ↦ rw (q, ei) (at_place (Followed m t d side new) at.state at.phase w.phase f)
          | inr ne ↦ elim (marked.each j) [
            | inl e ↦ λ x b hx hb s' mv. marked_stays _ (set old i 1) new marked _ (stays _ (k.closed j (sym (there j ne) ∙ sym e ∙ z) x b hx hb s' mv))
            | inr e ↦ absurd (omega (arith, e.1, z))
          ]
        ];
      }

    -- where no place waits, the marks tell
    module _ (xs : List ℕ) (idle : Idle xs) (k : Marking m t d side xs) where
      one : (i : ℕ) → byte xs i ≢ 0 → byte xs i ≡ 1
      one i n = elim (cases_eq (byte xs i) 1) [
        | inl e ↦ e
        | inr ne ↦ absurd (idle i (omega (arith, k.low i, n, ne)))
      ]

      all_marked : (s p : ℕ) → Reached m t d side s p → (p < t.sizes.phases) × (byte xs (s * t.sizes.phases + p) ≢ 0)
      all_marked s p start = (omega (arith, t.sizes.some_phases), k.starts)
      all_marked s p (step s₀ p₀ x b s' r hx hb e) =
          let h = all_marked s₀ p₀ r in (
            follow_low t side p₀ x b,
            after s₀ p₀ h.0 h.1 x b hx hb s' e,
          )
        where
          after : (s p : ℕ) → p < t.sizes.phases → byte xs (s * t.sizes.phases + p) ≢ 0 → Followed m t d side xs s p
          after s p hp n = rw (div-mul-add s t.sizes.phases p hp, mod-mul-add s t.sizes.phases p hp) at (k.closed _ (one _ n))

      pub marking_done : length xs ≡ places m t → ReachedBytes m t d side xs
      marking_done long = record { long = long; tells = tells }
        where
          tells : (s p : ℕ) → s < m.states → p < t.sizes.phases → Tells (byte xs (s * t.sizes.phases + p)) (Reached m t d side s p)
          tells s p hs hp = elim (cases_eq (byte xs (s * t.sizes.phases + p)) 0) [
            | inl z ↦ inr (z, λ r. (all_marked s p r).1 z)
            | inr n ↦ inl (one _ n, reached_at s p hp (k.sound _ n))
          ]
